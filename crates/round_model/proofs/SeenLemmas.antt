-- In lawful runs what a side saw is the other side's, by the rounds.
use Rattle.std.proofs.Common.{◌≡◌, ℕ, ◌+◌, ◌-◌, ◌<◌, ◌≤◌, ◌^◌, Bool, true, false, refl, sym, ap, ◌∙◌, subst, arith, inl, inr, List, [], ◌∷◌, ◌++◌, length, take, get_or, Option}
use Rattle.std.specs.Prelude.{◌⊎◌, ◌&&◌, not}
use Rattle.std.proofs.lemmas.Bool.{true≢false, not-true, cases_lt}
use Rattle.std.proofs.lemmas.List.{append-nil, length_push, take_all, take-append-le, get_or_append_left, get_or_push}
use Rattle.std.proofs.Math.Seq.{take-append_seam}
use Rattle.lift_base.specs.declared.Side.{Side}
use Rattle.lift_base.specs.declared.Side.TheVariants.{A, B}
use Rattle.lift_model.specs.Plans.{Plan}
use Rattle.lift_model.specs.Records.{Settings, InputData, SideFaultData}
use Rattle.core_model.proofs.DecideLemmas.{decided-says}
use Rattle.core_model.proofs.RunLemmas.{run_holds}
use Rattle.core_model.proofs.SeenLemmas.{run_sees_others}
use Rattle.core_model.proofs.WordLemmas.{stamp_of-command}
use Rattle.core_model.specs.Backed.{SeenIsOthers}
use Rattle.core_model.specs.Decision.{decided}
use Rattle.core_model.specs.Machine.{Channel, State, Event, Tick, side_of, other, new_channel, next, settled_by}
use Rattle.core_model.specs.Runs.{after_all}
use Rattle.core_model.specs.Settling.{Settled, no_settled, out_at}
use Rattle.core_model.specs.Words.{stamp_of, command_word}
use Rattle.round_model.specs.Events.{events_of}
use Rattle.round_model.specs.Lawful.{Legal, no_rounds, then_round, IsScript, published_from, published_at, SeenIsOthersByRounds, LawfulSeesOthers}
use Rattle.round_model.specs.Parts.{Part, Acting, Held, Failed, Exchanged, faults_of, failed_by, part_by, has_failed, part_of, FailsOnce}
use Rattle.round_model.specs.Records.{TurnData, RoundData}
use Rattle.round_model.specs.Told.{SideIsTold}
use Rattle.round_model.specs.Turns.{after, turn_of, told_now, acting_turn, held_turn, has_looked, IsLegalRound}
use Rattle.round_model.proofs.RoundLemmas.{is_acting, steps_after}
use Rattle.round_model.proofs.LegalLemmas.{is_exchanged, round_runs}
use Rattle.round_model.proofs.LawfulLemmas.{Runs, legal_runs, once_front}
use Rattle.round_model.proofs.ToldLemmas.{round_is_told}

-- ---- what a side had published

published-push : (side : Side) (word : ℕ) (rounds : List RoundData) (r : RoundData)
    → published_from side word (rounds ++ r ∷ []) ≡ after (published_from side word rounds) (turn_of side r).publish
published-push side word [] r = refl
published-push side word (x ∷ rounds) r = published-push side (after word (turn_of side x).publish) rounds r

published-later : (side : Side) (rounds more : List RoundData) (n : ℕ) → n ≤ length rounds
    → published_at side (rounds ++ more) n ≡ published_at side rounds n
published-later side rounds more n few = ap (published_from side 0) (take-append-le n rounds more few)

-- after all of these rounds, whatever follows
published-end : (side : Side) (rounds more : List RoundData) (n : ℕ) → n ≡ length rounds
    → published_at side (rounds ++ more) n ≡ published_from side 0 rounds
published-end side rounds more n e = ap (λ i. published_at side (rounds ++ more) i) e
    ∙ ap (published_from side 0) (take-append_seam rounds more)

published-all : (side : Side) (rounds : List RoundData) (n : ℕ) → n ≡ length rounds
    → published_at side rounds n ≡ published_from side 0 rounds
published-all side rounds n e = ap (λ rs. published_at side rs n) (sym (append-nil rounds)) ∙ published-end side rounds [] n e

-- ---- what a side has behind these rounds

-- a command of this word, which came before tick t, saw one of the other side's words
abbrev SawTheirs : List RoundData → Side → ℕ → ℕ → ℕ → Type 0
SawTheirs rounds side t word seen =
    let n = stamp_of word in
    (n < t) × ((seen ≡ published_at (other side) rounds n) ⊎ (seen ≡ published_at (other side) rounds (n - 1)))

saw-later : (rounds more : List RoundData) (side : Side) (t word seen : ℕ) → t ≤ length rounds + 1 → SawTheirs rounds side t word seen
    → SawTheirs (rounds ++ more) side t word seen
saw-later rounds more side t word seen few h =
    let n = stamp_of word in (
      h.0,
      elim h.1 [
        | inl new ↦ inl (new ∙ sym (published-later (other side) rounds more n (omega (arith, h.0))))
        | inr old ↦ inr (old ∙ sym (published-later (other side) rounds more (n - 1) (omega (arith, h.0))))
      ],
    )

pub record Sees (rounds : List RoundData) (side : Side) (c : Channel) : Type 0 where
  pub published : c.publish ≡ published_from side 0 rounds
  pub seen : c.failed ≡ false → SawTheirs rounds side (length rounds + 1) c.command c.seen

-- ---- a round

failed-part : (x f h : Bool) → part_by x f h ≡ Failed → f ≡ true
failed-part true true h e = refl
failed-part false true h e = refl
failed-part true false h e = absurd (true≢false (ap is_exchanged e))
failed-part false false true e = absurd (true≢false (ap has_looked (sym e)))
failed-part false false false e = absurd (true≢false (ap is_acting e))

-- where a side is not exchanged, it was healthy if it is
was_well : (was : Bool) (f : SideFaultData) → f.exchange ≡ false → failed_by was f ≡ false → was ≡ false
was_well true f kept h = absurd (true≢false (ap (λ b. not b && true) (sym kept) ∙ h))
was_well false f kept h = refl

-- d is a side behind a round and c the side before it, u its turn; t is the state behind the tick
module _ (config : Settings) (t : State) (f : SideFaultData) (c : Channel) (u : TurnData) (d : Channel)
    (rounds : List RoundData) (r : RoundData) (side : Side) (count : length rounds + 1 ≡ length t.trace)
    (small : length t.trace < 2 ^ 24)
    (before : c.failed ≡ false → SawTheirs rounds side (length rounds + 1) c.command c.seen) where
  -- a side that did nothing has what it had
  same_as_before : d.failed ≡ false → f.exchange ≡ false → d.failed ≡ failed_by c.failed f → d.command ≡ c.command → d.seen ≡ c.seen
      → SawTheirs (rounds ++ r ∷ []) side (length (rounds ++ r ∷ []) + 1) d.command d.seen
  same_as_before well kept fails word seen =
      let was = before (was_well c.failed f kept (sym fails ∙ well)) in
      let now = saw-later rounds (r ∷ []) side (length rounds + 1) c.command c.seen (omega arith) was in
      subst (λ w. SawTheirs (rounds ++ r ∷ []) side (length (rounds ++ r ∷ []) + 1) w d.seen) (sym word)
      (subst (λ w. SawTheirs (rounds ++ r ∷ []) side (length (rounds ++ r ∷ []) + 1) c.command w) (sym seen)
      (omega (arith, now.0, length_push rounds r), now.1))

  -- a side that acted saw the word before the round or the one after it
  acted_now : u ≡ acting_turn config t c.kept u.seen → d.command ≡ after c.command u.command → d.seen ≡ u.seen
      → (u.seen ≡ published_from (other side) 0 (rounds ++ r ∷ [])) ⊎ (u.seen ≡ published_from (other side) 0 rounds)
      → SawTheirs (rounds ++ r ∷ []) side (length (rounds ++ r ∷ []) + 1) d.command d.seen
  acted_now turn word seen saw =
      let says = decided-says c.kept (told_now config t u.seen) in
      let command = (decided c.kept (told_now config t u.seen)).command in
      let whole : d.command ≡ command_word command = word ∙ ap (λ (v : TurnData). after c.command v.command) turn in
      let stamp : stamp_of d.command ≡ length (rounds ++ r ∷ []) = ap stamp_of whole ∙ (stamp_of-command command
      (omega (arith, says.stamp)) ∙ (says.stamp ∙ omega (arith, count, length_push rounds r))) in
      let n = stamp_of d.command in (
        omega (arith, stamp),
        elim saw [
          | inl new ↦ inl (seen ∙ (new ∙ sym (published-all (other side) (rounds ++ r ∷ []) n stamp)))
          | inr old ↦ inr (seen ∙ (old ∙ sym (published-end (other side) rounds (r ∷ []) (n - 1)
              (omega (arith, stamp, length_push rounds r)))))
        ],
      )

  sees : (p : Part) → SideIsTold config t p f c u d → (p ≡ Acting → u ≡ acting_turn config t c.kept u.seen) → (p ≡ Held → u ≡ held_turn)
      → (p ≡ Failed → d.failed ≡ true) → (p ≡ Held → f.exchange ≡ false)
      → (p ≡ Acting → (u.seen ≡ published_from (other side) 0 (rounds ++ r ∷ [])) ⊎ (u.seen ≡ published_from (other side) 0 rounds))
      → d.failed ≡ false → SawTheirs (rounds ++ r ∷ []) side (length (rounds ++ r ∷ []) + 1) d.command d.seen
  sees Acting k acts holds fails kept saw well = acted_now (acts refl) k.command (k.acting refl).1 (saw refl)
  sees Held k acts holds fails kept saw well =
      let still = k.others (λ e. true≢false (ap is_acting (sym e))) (λ e. true≢false (ap is_exchanged (sym e))) in
      same_as_before well (kept refl) k.failed (k.command ∙ ap (λ (v : TurnData). after c.command v.command) (holds refl)) still.1
  sees Failed k acts holds fails kept saw well = absurd (true≢false (sym (fails refl) ∙ well))
  sees Exchanged k acts holds fails kept saw well =
      subst (λ (x : Channel). SawTheirs (rounds ++ r ∷ []) side (length (rounds ++ r ∷ []) + 1) x.command x.seen) (sym (k.anew refl))
      (omega arith, inl refl)

-- ---- rounds

held-part : (x f h : Bool) → part_by x f h ≡ Held → x ≡ false
held-part true f h e = absurd (true≢false (ap is_exchanged e))
held-part false f h e = refl

pub record AllSee (inputs : List InputData) (rounds : List RoundData) (s : State) : Type 0 where
  pub count : length rounds ≡ length s.trace
  pub sees : (side : Side) → Sees rounds side (side_of side s)
  pub path : SeenIsOthersByRounds inputs rounds s.path

-- one more legal round, behind rounds in which all saw the other's
module _ (config : Settings) (crew : List (Option Plan)) (inputs : List InputData) (rounds : List RoundData) (events : List Event)
    (s : State) (input : InputData) (r : RoundData) (script : IsScript config (inputs ++ input ∷ []))
    (front : IsScript config inputs) (legal : Legal config crew inputs rounds events s) (l : IsLegalRound config crew s input r)
    (w : AllSee inputs rounds s) where
  abbrev now : State
  now = after_all config s (events_of s input r)

  runs : Runs config inputs events s
  runs = legal_runs config crew inputs rounds events s legal front.once front.room

  ticks : length rounds + 1 ≡ length (s.trace ++ input ∷ [])
  ticks = omega (arith, w.count, length_push s.trace input)

  small : length (s.trace ++ input ∷ []) < 2 ^ 24
  small = omega (arith, script.small, script.room, ap length runs.trace, length_push s.trace input, length_push inputs input)

  peers : (side : Side) → has_looked (part_of side s.trace input) ≡ true
      → ((turn_of side r).seen ≡ published_from (other side) 0 (rounds ++ r ∷ []))
      ⊎ ((turn_of side r).seen ≡ published_from (other side) 0 rounds)
  peers side looks =
      let stood = (w.sees (other side)).published in
      elim (l.saw side looks) [
        | inl new ↦ inl (new ∙ (ap (λ n. after n (turn_of (other side) r).publish) stood ∙ sym (published-push (other side) 0 rounds r)))
        | inr old ↦ inr (old ∙ stood)
      ]

  sees_now : (side : Side) → Sees (rounds ++ r ∷ []) side (side_of side now)
  sees_now side =
      let f = faults_of side input in
      let told = round_is_told config crew inputs rounds events s input r script legal l side in
      record {
        published = told.publish ∙ (ap (λ n. after n (turn_of side r).publish) (w.sees side).published
            ∙ sym (published-push side 0 rounds r));
        seen = sees config (next config s (Tick input)) f (side_of side s) (turn_of side r) (side_of side now) rounds r side ticks small
            (w.sees side).seen (part_of side s.trace input) told (l.acting side) (l.held side)
            (λ e. told.failed ∙ (ap (λ b. failed_by b f) (runs.between.failed side) ∙ failed-part f.exchange _ f.hold e))
            (λ e. held-part f.exchange _ f.hold e) (λ e. peers side (ap has_looked e));
      }

  settled : length s.path ≡ length inputs
  settled = (run_holds config events s script.small runs.run).settled ∙ ap length runs.trace

  path_is : now.path ≡ s.path ++ settled_by s.a s.b (length s.trace + 1) ∷ []
  path_is =
      let once : FailsOnce s.trace input = subst (λ past. FailsOnce past input) (sym runs.trace) (script.once inputs input [] refl) in
      let room : length s.trace < config.ticks = omega (arith, script.room, ap length runs.trace, length_push inputs input) in
      ap (λ (t : State). t.path) (sym (steps_after (round_runs config crew s input r runs.between once room l)))

  -- what the new tick settled has what the sides saw before it
  newest : (side : Side) → has_failed side inputs ≡ false
      → let out = out_at side (settled_by s.a s.b (length s.trace + 1)) in SawTheirs rounds side (length rounds + 1) out.word out.seen
  newest A well = (w.sees A).seen (runs.between.failed A ∙ (ap (has_failed A) runs.trace ∙ well))
  newest B well = (w.sees B).seen (runs.between.failed B ∙ (ap (has_failed B) runs.trace ∙ well))

  path_sees : SeenIsOthersByRounds (inputs ++ input ∷ []) (rounds ++ r ∷ []) now.path
  path_sees t some old side healthy =
      let at : Settled = settled_by s.a s.b (length s.trace + 1) in
      let longer = length_push s.path at in
      let end : t ≤ length (s.path ++ at ∷ []) = subst (λ (ps : List Settled). t ≤ length ps) path_is old in
      let few : t ≤ length rounds + 1 = omega (arith, end, longer, settled, w.count, ap length runs.trace) in
      let cut : take (t - 1) (inputs ++ input ∷ []) ≡ take (t - 1) inputs = take-append-le (t - 1) inputs (input ∷ [])
      (omega (arith, end, longer, settled)) in
      let goal = λ (st : Settled). SawTheirs (rounds ++ r ∷ []) side t (out_at side st).word (out_at side st).seen in
      let place : get_or now.path (t - 1) no_settled ≡ get_or (s.path ++ at ∷ []) (t - 1) no_settled =
      ap (λ ps. get_or ps (t - 1) no_settled) path_is in
      subst goal (sym place) (elim (cases_lt (length s.path) t) [
        | inr before ↦
            (let st = get_or s.path (t - 1) no_settled in
            subst goal (sym (get_or_append_left s.path (at ∷ []) no_settled (t - 1) (omega arith)))
            (saw-later rounds (r ∷ []) side t (out_at side st).word (out_at side st).seen few
            (w.path t some before side (ap (λ xs. not (has_failed side xs)) (sym cut) ∙ healthy))))
        | inl new ↦
            (let last : t ≡ length rounds + 1 = omega (arith, few, new, settled, w.count, ap length runs.trace) in
            let all : take (t - 1) inputs ≡ inputs = take_all (t - 1) inputs (omega (arith, new, settled)) in
            let well : has_failed side inputs ≡ false = not-true _ (ap (λ xs. not (has_failed side xs)) (sym (cut ∙ all)) ∙ healthy) in
            subst goal (sym (get_or_push s.path at no_settled (t - 1) (omega (arith, end, longer, new))))
            (saw-later rounds (r ∷ []) side t (out_at side at).word (out_at side at).seen few
            (subst (λ n. SawTheirs rounds side n (out_at side at).word (out_at side at).seen) (sym last) (newest side well))))
      ])

  see_now : AllSee (inputs ++ input ∷ []) (rounds ++ r ∷ []) now
  see_now = record {
    count = omega (
      arith,
      length_push rounds r,
      ticks,
      ap length (legal_runs config crew _ _ _ now (then_round legal input r l) script.once
          script.room).trace,
      ap length runs.trace,
      length_push inputs input,
      w.count,
    );
    sees = sees_now;
    path = path_sees;
  }

all_see : (config : Settings) (crew : List (Option Plan)) (inputs : List InputData) (rounds : List RoundData) (events : List Event)
    (s : State) → IsScript config inputs → Legal config crew inputs rounds events s → AllSee inputs rounds s
all_see config crew _ _ _ _ script no_rounds = record {
  count = refl;
  sees = elim [ A ↦ none A new_channel refl refl refl | B ↦ none B new_channel refl refl refl ];
  path = λ t some old. absurd (omega arith);
}
  where
    none : (side : Side) (c : Channel) → c.publish ≡ 0 → c.command ≡ 0 → c.seen ≡ 0 → Sees [] side c
    none side c p w e = record {
      published = p;
      seen = λ _. subst (λ n. SawTheirs [] side 1 n c.seen) (sym w) (omega arith, inl e);
    }
all_see config crew _ _ _ _ script (then_round {inputs} {rounds} {events} {s} legal input r l) =
    let front : IsScript config inputs = record {
      small = script.small;
      room = omega (arith, script.room, length_push inputs input);
      once = once_front inputs input script.once;
    } in
    see_now config crew inputs rounds events s input r script front legal l (all_see config crew inputs rounds events s front legal)

pub lawful_sees_others : LawfulSeesOthers
lawful_sees_others config crew inputs rounds path script w = (
  subst (SeenIsOthers config w.events) (sym w.same_path) (run_sees_others config w.events w.state script.small w.run),
  subst (SeenIsOthersByRounds inputs rounds) (sym w.same_path) (all_see config crew inputs rounds w.events w.state script w.legal).path,
)
