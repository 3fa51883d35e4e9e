-- The head that a text means, by what reading says.
use Rattle.std.proofs.Common.{ℕ, ◌≡◌, ◌⊎◌, ◌∙◌, Bool, true, false, List, refl, sym, ap, inl, inr, Result, Ok, Err}
use Rattle.lift_model.specs.Records.{Settings}
use Rattle.lift_config.specs.declared.ConfigFault.{ConfigFault}
use Rattle.lift_config.specs.declared.ConfigFault.TheVariants.{NoMemory}
use Rattle.lift_config.specs.Head.{read_head}
use Rattle.can_log.specs.declared.head.Head.{Head}
use Rattle.can_log.specs.Heads.{lacks_ticks, head_with, with_a_tick, head_if, log_head}

-- it is what is meant, or there was no memory
abbrev pub Means : {A : Type 0} → Result A ConfigFault → Result A ConfigFault → Type 0
Means r meant = (r ≡ Err NoMemory) ⊎ (r ≡ meant)

pub whole_head : (text : List ℕ) (config : Settings) → Means (Ok config) (read_head text)
    → Means (Ok (record { config = config; is_open = false })) (log_head text)
unfolding log_head
whole_head text config said = elim said [ inl e ↦ absurd cc | inr e ↦ inr (ap (head_if text) e) ]

pub refused_head : (text : List ℕ) (fault : ConfigFault) → Means {A = Settings} (Err fault) (read_head text) → lacks_ticks fault ≡ false
    → Means (Err fault) (log_head text)
unfolding log_head
refused_head text fault said other =
    let same : head_if text (Err fault) ≡ Err fault = rw other refl in
    elim said [ inl e ↦ inl (ap (head_with false) e) | inr e ↦ inr (sym same ∙ ap (head_if text) e) ]

abbrev lacks_in : Result Settings ConfigFault → Bool
lacks_in (Ok config) = false
lacks_in (Err fault) = lacks_ticks fault

meant_open : (text : List ℕ) (fault : ConfigFault) → Means {A = Settings} (Err fault) (read_head text) → lacks_ticks fault ≡ true
    → head_with true (read_head (with_a_tick text)) ≡ log_head text
unfolding log_head
meant_open text fault said lacks =
    let same : head_if text (Err fault) ≡ head_with true (read_head (with_a_tick text)) = rw lacks refl in
    elim said [
      | inl e ↦ let none : lacks_ticks fault ≡ false = ap lacks_in e in absurd cc
      | inr e ↦ sym same ∙ ap (head_if text) e
    ]

pub open_head : (text : List ℕ) (fault : ConfigFault) (r : Result Head ConfigFault) → Means {A = Settings} (Err fault) (read_head text)
    → lacks_ticks fault ≡ true → Means r (head_with true (read_head (with_a_tick text))) → Means r (log_head text)
open_head text fault r said lacks meant =
    elim meant [ inl e ↦ inl e | inr e ↦ inr (e ∙ meant_open text fault said lacks) ]
