-- What holds where levelling with open doors is permitted.
use Rattle.std.specs.Prelude.{◌≡◌, ℕ, ◌<◌, true, false, List}
use Rattle.lift_base.specs.declared.TheConstants.{CONTACTS}
use Rattle.lift_base.specs.declared.contacts.TheConstants.{CAR_DOOR_CONTACT, LANDING_DOORS_CONTACT, LANDING_LOCKS_CONTACT}
use Rattle.lift_model.specs.Chain.{is_contact_made}
use Rattle.lift_model.specs.Levelling.{is_in_zone, has_moved}
use Rattle.lift_model.specs.Records.{Settings, InputData}
use Rattle.lift_model.specs.Trace.{configured, image_at_end}

-- after these inputs the doors have a value with the zone made, each contact but those of the doors is made, and no movement stands
pub record IsPermitted (config : Settings) (inputs : List InputData) : Type 0 where
  pub zone : is_in_zone (image_at_end config inputs) ≡ true
  pub contacts : (i : ℕ) → i < CONTACTS → ¬ (i ≡ CAR_DOOR_CONTACT) → ¬ (i ≡ LANDING_DOORS_CONTACT) → ¬ (i ≡ LANDING_LOCKS_CONTACT)
      → is_contact_made (image_at_end config inputs) (configured config) i ≡ true
  pub still : has_moved config inputs ≡ false
