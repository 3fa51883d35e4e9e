-- Reading what was written gives the same script.
use Rattle.std.proofs.Common.{◌≡◌, ◌≤◌, ◌+◌, ◌*◌, ◌++◌, Bool, List, [], ◌∷◌, ℕ, length, refl, sym, ap, ◌∙◌, subst, arith, false, append_assoc, length-append, codes, decimal, replicate, Ok, Option, Some, None}
use Rattle.std.specs.List.{flat_map}
use Rattle.std.specs.Str.{bytes_eq}
use Rattle.std.proofs.lemmas.Fmt.{length-decimal-le}
use Rattle.lift_base.specs.declared.limits.TheConstants.{MOST_TICKS}
use Rattle.lift_base.specs.declared.TheConstants.{SOURCES}
use Rattle.lift_base.specs.declared.forms.Form.TheVariants.{Replay}
use Rattle.lift_config.specs.declared.Key.{Key}
use Rattle.lift_config.specs.declared.Key.TheVariants.{Version, Ticks, Sct, Srvt, Disc, DoorTicks, Roof, Pit, Car, Doors, Panel, Platform}
use Rattle.lift_config.specs.Head.{key_name, read_head}
use Rattle.lift_model.specs.Records.{WireWords}
use Rattle.script_model.specs.Faults.{Standings, all_stand}
use Rattle.script_model.specs.Judging.{ScriptData, Place, Done, judge_line}
use Rattle.script_model.specs.Meaning.{NoFeed, finished, outcome, line_ends, MeansScript}
use Rattle.script_model.specs.Text.{key_text, first_keys, car_key, last_keys, platform_key, head_text, ticks_text, script_text}
use Rattle.script_model.specs.Valid.{IsReplay}
use Rattle.script_model.proofs.Bytes.{whole_line}
use Rattle.script_model.proofs.Numbers.{decimal_has_no_feed}
use Rattle.script_laws.proofs.Back.{Reads, no_feed_both}
use Rattle.script_laws.proofs.Head.{Heads, heads_both, heads_line, heads_nothing, head_ends}
use Rattle.script_laws.proofs.Keys.{AreSmall, small_first, small_car, small_last, small_platform}
use Rattle.script_laws.proofs.Ticks.{behind_tick, after_ticks}

-- the name of a key begins no mark and no line
record IsName (name : List ℕ) : Type 0 where
  few : length name ≤ 10
  none : NoFeed name
  other : (text : List ℕ) → bytes_eq (name ++ text) (codes "%%") ≡ false

name_of : (k : Key) → IsName (key_name k)
name_of Version = record { few = omega arith; none = (refl, (refl, (refl, (refl, (refl, (refl, (refl, tt))))))); other = λ text. refl }
name_of Ticks = record { few = omega arith; none = (refl, (refl, (refl, (refl, (refl, tt))))); other = λ text. refl }
name_of Sct = record { few = omega arith; none = (refl, (refl, (refl, tt))); other = λ text. refl }
name_of Srvt = record { few = omega arith; none = (refl, (refl, (refl, (refl, tt)))); other = λ text. refl }
name_of Disc = record { few = omega arith; none = (refl, (refl, (refl, (refl, tt)))); other = λ text. refl }
name_of DoorTicks = record {
  few = omega arith;
  none = (
    refl,
    (
      refl,
      (
        refl,
        (refl, (refl, (refl, (refl, (refl, (refl, (refl, tt))))))),
      ),
    ),
  );
  other = λ text. refl;
}
name_of Roof = record { few = omega arith; none = (refl, (refl, (refl, (refl, tt)))); other = λ text. refl }
name_of Pit = record { few = omega arith; none = (refl, (refl, (refl, tt))); other = λ text. refl }
name_of Car = record { few = omega arith; none = (refl, (refl, (refl, tt))); other = λ text. refl }
name_of Doors = record { few = omega arith; none = (refl, (refl, (refl, (refl, (refl, tt))))); other = λ text. refl }
name_of Panel = record { few = omega arith; none = (refl, (refl, (refl, (refl, (refl, tt))))); other = λ text. refl }
name_of Platform = record {
  few = omega arith;
  none = (refl, (refl, (refl, (refl, (refl, (refl, (refl, (refl, tt))))))));
  other = λ text. refl;
}

heads_key : (head : List ℕ) (k : Key) (v : ℕ) → v ≤ MOST_TICKS → length head ≤ 1000 → Heads head (key_text (k, v))
heads_key head k v small short =
    let is = name_of k in
    let name = key_name k in
    let line = name ++ (codes " = " ++ decimal v) in
    let digits : length (decimal v) ≤ 6 = length-decimal-le 6 v (omega arith) (omega arith) (omega arith) in
    let long : length line ≡ length name + length (codes " = " ++ decimal v) = length-append name (codes " = " ++ decimal v) in
    let none : NoFeed line = no_feed_both name (codes " = " ++ decimal v) is.none (refl, (refl, (refl, decimal_has_no_feed v small))) in
    subst (Heads head) (append_assoc name (codes " = " ++ decimal v) (10 ∷ []))
    (heads_line head line none (is.other _) (omega (arith, is.few, digits, long)))

length-key : (k : Key) (v : ℕ) → v ≤ MOST_TICKS → length (key_text (k, v)) ≤ 20
length-key k v small =
    let digits : length (decimal v) ≤ 6 = length-decimal-le 6 v (omega arith) (omega arith) (omega arith) in
    let a = length-append (key_name k) (codes " = " ++ (decimal v ++ codes "\n")) in
    let b = length-append (decimal v) (codes "\n") in
    omega (arith, a, b, (name_of k).few)

length-keys : (keys : List (Key × ℕ)) → AreSmall keys → length (flat_map key_text keys) ≤ 20 * length keys
length-keys [] small = omega arith
length-keys ((k, v) ∷ keys) small =
    let whole = length-append (key_text (k, v)) (flat_map key_text keys) in
    omega (arith, whole, length-key k v small.0, length-keys keys small.1)

heads_keys : (head : List ℕ) (keys : List (Key × ℕ)) → AreSmall keys → length head + 20 * length keys ≤ 1000
    → Heads head (flat_map key_text keys)
heads_keys head [] small short = heads_nothing head
heads_keys head ((k, v) ∷ keys) small short =
    let grown = length-append head (key_text (k, v)) in
    heads_both head (key_text (k, v)) (flat_map key_text keys) (heads_key head k v small.0 (omega (arith, short)))
    (heads_keys (head ++ key_text (k, v)) keys small.1 (omega (arith, short, grown, length-key k v small.0)))

length-car : (car : Option ℕ) → length (car_key car) ≤ 1
length-car None = omega arith
length-car (Some id) = omega arith

length-platform : (platform : Option ℕ) → length (platform_key platform) ≤ 1
length-platform None = omega arith
length-platform (Some id) = omega arith

-- the text of a head is whole lines of a head, and short
record IsHead (text : List ℕ) : Type 0 where
  heads : Heads [] text
  short : length text ≤ 240

head_is : (places : List Bool) (s : ScriptData) → IsReplay places s → IsHead (head_text s.config)
unfolding head_text
head_is places s is =
    let c = s.config in
    let a = flat_map key_text (first_keys c) in
    let b = flat_map key_text (car_key c.car) in
    let d = flat_map key_text (last_keys c) in
    let f = flat_map key_text (platform_key c.platform) in
    let fits = is.config in
    let la = length-keys (first_keys c) (small_first c fits) in
    let lb = length-keys (car_key c.car) (small_car c fits) in
    let ld = length-keys (last_keys c) (small_last c fits) in
    let lf = length-keys (platform_key c.platform) (small_platform c fits) in
    let one = length-car c.car in
    let other = length-platform c.platform in
    let ab = length-append a b in
    let abd' = length-append (a ++ b) d in
    let df = length-append d f in
    let bdf = length-append b (d ++ f) in
    let abdf = length-append a (b ++ (d ++ f)) in
    record {
      heads = heads_both [] a (b ++ (d ++ f)) (heads_keys [] (first_keys c) (small_first c fits) (omega arith))
          (heads_both a b (d ++ f) (heads_keys a (car_key c.car) (small_car c fits) (omega (arith, la, one)))
          (heads_both (a ++ b) d f (heads_keys (a ++ b) (last_keys c) (small_last c fits) (omega (arith, la, lb, one, ab)))
          (heads_keys ((a ++ b) ++ d) (platform_key c.platform) (small_platform c fits)
          (omega (arith, la, lb, ld, one, other, ab, abd')))));
      short = omega (arith, la, lb, ld, lf, one, other, df, bdf, abdf);
    }

end_line : (p : Place) (n : ℕ) → p.waiting ≡ false → judge_line p n (codes "e") ≡ Done
unfolding judge_line
end_line p n done = rw done refl

replay_is : (s : ScriptData) → s.steps ≡ [] → (record s { steps = [] }) ≡ s
replay_is s none = ap (λ steps. record s { steps = steps }) (sym none)

-- a text with these lines of ticks behind the head gives the script, where the head is read so
pub reads_all : (places : List Bool) (s : ScriptData) → IsReplay places s → read_head (head_text s.config) ≡ Ok s.config
    → (ticks : List ℕ) (standings : Standings) (words : WireWords) (truth : List ℕ)
    → Reads (behind_tick s.config [] (all_stand places) (record { a = 0; b = 0 }) (replicate SOURCES 0)) ticks
    (behind_tick s.config s.inputs standings words truth)
    → MeansScript Replay places (head_text s.config ++ (codes "%%\n" ++ (ticks ++ codes "e\n"))) s
reads_all places s is head ticks standings words truth reads =
    let h = head_is places s is in
    let one = h.heads.from places 1 (codes "%%\n" ++ (ticks ++ codes "e\n")) in
    let two = head_ends places (head_text s.config) (ticks ++ codes "e\n") s.config one.0 (omega (arith, h.short)) head in
    let three = reads.from (one.0 + 1) (length (head_text s.config) + 3) (codes "e\n") in
    let p = behind_tick s.config s.inputs standings words truth in
    let used = length (head_text s.config) + 3 + length ticks in
    let four = whole_line p three.0 used (codes "e") [] (refl, tt) (omega arith) in
    let five = ap (λ j. line_ends p j three.0 (used + length (codes "e") + 1)) (end_line p three.0 refl) in
    ap (λ r. outcome (finished r)) (one.1 ∙ two ∙ three.1 ∙ four ∙ five) ∙ ap Ok (replay_is s is.steps)

-- reading what was written gives the same script, where the head is read so
pub round_trip : (places : List Bool) (s : ScriptData) → IsReplay places s → read_head (head_text s.config) ≡ Ok s.config
    → MeansScript Replay places (script_text s) s
unfolding script_text
round_trip places s is head =
    let zero_words : WireWords = record { a = 0; b = 0 } in
    let t = after_ticks s.config [] (all_stand places) zero_words (replicate SOURCES 0) s.inputs (omega (arith, is.few)) refl is.inputs
    is.faults in
    reads_all places s is head (ticks_text zero_words (replicate SOURCES 0) s.inputs) t.standings' t.words' t.truth' t.reads
