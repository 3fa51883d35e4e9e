-- After every run, power is backed for each side that is healthy.
use Rattle.std.proofs.Common.{◌≡◌, ℕ, ◌+◌, ◌-◌, ◌^◌, ◌<◌, ◌≤◌, List, [], ◌∷◌, ◌++◌, length, Bool, true, false, refl, sym, ap, ◌∙◌, arith, inl, inr, leb, Option, None, length-append}
use Rattle.std.specs.Prelude.{◌⊎◌, ◌||◌, ◌&&◌}
use Rattle.std.proofs.lemmas.Bool.{cases_Bool, and_parts, eqb-true, leb-true, cases_lt}
use Rattle.std.proofs.lemmas.List.{take-append-le}
use Rattle.lift_base.specs.declared.Kind.{Kind}
use Rattle.lift_base.specs.declared.Kind.TheVariants.{Off}
use Rattle.lift_base.specs.declared.Side.{Side}
use Rattle.lift_base.specs.declared.Side.TheVariants.{A, B}
use Rattle.lift_model.specs.Grant.{grant, verdict_at_end}
use Rattle.lift_model.specs.Records.{Settings, InputData}
use Rattle.core_model.proofs.DecideLemmas.{decided-says}
use Rattle.core_model.proofs.WordLemmas.{stamp_of-command, kind_of-command, alarm_of-command, kind_back}
use Rattle.core_model.specs.Backed.{BackedOn, Backed}
use Rattle.core_model.specs.Decision.{decided}
use Rattle.core_model.specs.Machine.{Channel, out_of, settled_by, told_at, commanded}
use Rattle.core_model.specs.Settling.{Settled, effective, output, common}
use Rattle.core_model.specs.Words.{is_off, is_same, kind_code, kind_of, kind_of_code, stamp_of, alarm_of, command_word, matches}

-- ---- what a healthy side's command word says

pub record Granted (config : Settings) (trace : List InputData) (word seen : ℕ) : Type 0 where
  pub stamped : stamp_of word ≤ length trace
  pub kind : (grant config trace (stamp_of word)).kind ≡ kind_of word
  pub agreed : matches (stamp_of word) (grant config trace (stamp_of word)) (grant config trace (stamp_of word - 1)) seen ≡ true
  pub signalled : (grant config trace (stamp_of word)).bypass ≡ alarm_of word

pub record Sound (config : Settings) (trace : List InputData) (c : Channel) : Type 0 where
  pub stamp : c.stamp ≤ length trace
  pub follows : c.failed ≡ false → c.forced ≡ None
  pub word : c.failed ≡ false → (kind_of c.command ≡ Off) ⊎ Granted config trace c.command c.seen

-- the verdict of a tick is settled once the tick has come
pub grant-old : (config : Settings) (trace more : List InputData) (n : ℕ) → n ≤ length trace
    → grant config (trace ++ more) n ≡ grant config trace n
grant-old config trace more n h = ap (verdict_at_end config) (take-append-le n trace more h)

Granted-later : (config : Settings) (trace more : List InputData) (word seen : ℕ) → Granted config trace word seen
    → Granted config (trace ++ more) word seen
Granted-later config trace more word seen g =
    let now = grant-old config trace more (stamp_of word) g.stamped in
    let before = grant-old config trace more (stamp_of word - 1) (omega (arith, g.stamped)) in
    record {
      stamped = omega (arith, g.stamped, length-append trace more);
      kind = rw now g.kind;
      agreed = rw (now, before) g.agreed;
      signalled = rw now g.signalled;
    }

pub Sound-later : (config : Settings) (trace more : List InputData) (c : Channel) → Sound config trace c → Sound config (trace ++ more) c
Sound-later config trace more c s = record {
  stamp = omega (arith, s.stamp, length-append trace more);
  follows = s.follows;
  word = λ h. elim (s.word h) [ inl off ↦ inl off | inr g ↦ inr (Granted-later config trace more c.command c.seen g) ];
}

-- ---- a tick

same_kind : (a b : Kind) → is_same a b ≡ true → a ≡ b
same_kind a b h = sym (kind_back a) ∙ (ap kind_of_code (eqb-true (kind_code a) (kind_code b) h) ∙ kind_back b)

pub off_kind : (k : Kind) → is_off k ≡ true → k ≡ Off
off_kind k h = same_kind k Off h

common-is : (a b : Kind) → (common a b ≡ Off) ⊎ ((common a b ≡ a) × (common a b ≡ b))
common-is a b = elim (cases_Bool (is_same a b)) [
  | inl e ↦ inr (rw e refl, rw e (same_kind a b e))
  | inr e ↦ inl (rw e refl)
]

effective-is : (word t : ℕ) → (effective word t ≡ Off) ⊎ ((effective word t ≡ kind_of word) × (stamp_of word ≤ t) × (t ≤ stamp_of word + 2))
effective-is word t = elim (cases_Bool (leb (stamp_of word) t && leb t (stamp_of word + 2))) [
  | inl e ↦ (let both = and_parts _ _ e in inr (rw e refl, leb-true _ _ both.0, leb-true _ _ both.1))
  | inr e ↦ inl (rw e refl)
]

-- what is settled from a healthy side's word is backed by it
module _ (config : Settings) (trace : List InputData) (input : InputData) (c : Channel) (sound : Sound config trace c)
    (healthy : c.failed ≡ false) (s : Settled)
    (by_c : (s.power ≡ Off) ⊎ (s.power ≡ output c.forced c.command (length trace + 1)))
    (alarm : is_off s.power ≡ false → alarm_of c.command ≡ true → s.alarm ≡ true) where
  by_word : (s.power ≡ Off) ⊎ ((s.power ≡ kind_of c.command) × (length trace + 1 ≤ stamp_of c.command + 2))
  by_word = elim by_c [
    | inl off ↦ inl off
    | inr e ↦
        (let e' : s.power ≡ effective c.command (length trace + 1) = e ∙ ap (λ (f : Option Kind). output f c.command (length trace + 1))
        (sound.follows healthy) in
        elim (effective-is c.command (length trace + 1)) [
          | inl off ↦ inl (e' ∙ off)
          | inr w ↦ inr (e' ∙ w.0, w.2)
        ])
  ]

  age_of : (n : ℕ) → n ≤ length trace → length trace + 1 ≤ n + 2 → (n + 1 ≡ length trace + 1) ⊎ (n + 2 ≡ length trace + 1)
  age_of n h k = elim (cases_lt n (length trace)) [ inl l ↦ inr (omega arith) | inr l ↦ inl (omega arith) ]

  backed_on : is_off s.power ≡ false → s.power ≡ kind_of c.command → length trace + 1 ≤ stamp_of c.command + 2
      → Granted config trace c.command c.seen → BackedOn config (trace ++ input ∷ []) (length trace + 1) s (out_of c (length trace + 1))
  backed_on on e age g =
      let later = Granted-later config trace (input ∷ []) c.command c.seen g in
      record {
        age = age_of (stamp_of c.command) g.stamped age;
        granted = later.kind ∙ sym e;
        agreed = later.agreed;
        signalled = λ h. alarm on (sym later.signalled ∙ h);
      }

  pub backed_now : (s.power ≡ Off) ⊎ BackedOn config (trace ++ input ∷ []) (length trace + 1) s (out_of c (length trace + 1))
  backed_now = elim (cases_Bool (is_off s.power)) [
    | inl off ↦ inl (off_kind s.power off)
    | inr on ↦ elim by_word [
      | inl off ↦ inl off
      | inr w ↦ elim (sound.word healthy) [
        | inl off ↦ inl (w.0 ∙ off)
        | inr g ↦ inr (backed_on on w.0 w.1 g)
      ]
    ]
  ]

pub settled_backed : (config : Settings) (trace : List InputData) (input : InputData) (a b : Channel) (side : Side) → Sound config trace a
    → Sound config trace b
    → (side ≡ A → a.failed ≡ false) → (side ≡ B → b.failed ≡ false) → Backed config (trace ++ input ∷ []) (length trace + 1)
    (settled_by a b (length trace + 1)) side
settled_backed config trace input a b A sa sb ha hb =
    backed_now config trace input a sa (ha refl) (settled_by a b (length trace + 1))
    (elim (common-is (output a.forced a.command (length trace + 1))
    (output b.forced b.command (length trace + 1))) [ inl off ↦ inl off | inr w ↦ inr w.0 ])
    (λ on al. rw (on, al) refl)
settled_backed config trace input a b B sa sb ha hb =
    backed_now config trace input b sb (hb refl) (settled_by a b (length trace + 1))
    (elim (common-is (output a.forced a.command (length trace + 1))
    (output b.forced b.command (length trace + 1))) [ inl off ↦ inl off | inr w ↦ inr w.1 ])
    (λ on al. rw (on, al) (or_true (alarm_of a.command)))
  where
    or_true : (x : Bool) → (x || true) ≡ true
    or_true true = refl
    or_true false = refl

-- ---- a command

-- the words that a supervisor is told lead to a word that is granted
pub commanded_sound : (config : Settings) (trace : List InputData) (path : List Settled) (c : Channel) → length trace < 2 ^ 24
    → Sound config trace c → Sound config trace (commanded c (told_at config trace path c.stamp c.looked))
commanded_sound config trace path c small sound =
    let t = told_at config trace path c.stamp c.looked in
    let d = decided c.kept t in
    let says = decided-says c.kept t in
    let stamp_small : d.command.stamp < 2 ^ 24 = omega (arith, says.stamp, sound.stamp) in
    let stamped : stamp_of (command_word d.command) ≡ c.stamp = stamp_of-command d.command stamp_small ∙ says.stamp in
    record {
      stamp = sound.stamp;
      follows = sound.follows;
      word = λ h. elim says.kind [
        | inl off ↦ inl (kind_of-command d.command stamp_small ∙ off)
        | inr g ↦ inr (record {
          stamped = rw stamped sound.stamp;
          kind = rw stamped (sym (kind_of-command d.command stamp_small ∙ g.kind));
          agreed = rw stamped g.agreed;
          signalled = rw stamped (sym (alarm_of-command d.command stamp_small (omega (arith, g.no_reason)) (omega (arith, g.no_detail))
              ∙ g.alarm));
        })
      ];
    }
