-- What an object that acts for a failed side tells, and what its act leaves of it.
use Rattle.std.specs.Prelude.{◌≡◌, ℕ, List, [], ◌∷◌, Option, Some, None, bit_xor}
use Rattle.lift_model.specs.Enums.{Keep}
use Rattle.lift_model.specs.Records.{DeedData}

pub data Plan : Type 0 where
  untold : Plan
  deeds : List DeedData → Plan
  mask : ℕ → Plan

abbrev pub idle : DeedData
idle = record { publish = None; command = None; contactor = Keep }

abbrev pub masked : ℕ → ℕ → DeedData
masked m seen = record { publish = Some (bit_xor seen m); command = Some (bit_xor seen m); contactor = Keep }

-- a side that holds this answers so
abbrev pub IsDeed : Option Plan → ℕ → DeedData → Type 0
IsDeed None seen d = d ≡ idle
IsDeed (Some untold) seen d = Unit {0}
IsDeed (Some (deeds [])) seen d = d ≡ idle
IsDeed (Some (deeds (x ∷ xs))) seen d = d ≡ x
IsDeed (Some (mask m)) seen d = d ≡ masked m seen

-- what is told after an act
abbrev pub rest_of : Option Plan → Option Plan
rest_of None = None
rest_of (Some untold) = Some untold
rest_of (Some (deeds [])) = Some (deeds [])
rest_of (Some (deeds (x ∷ xs))) = Some (deeds xs)
rest_of (Some (mask m)) = Some (mask m)

-- what an act says of the plan that was told before it: its deed, and what is told after it
abbrev pub Tells : Plan → ℕ → DeedData → Plan → Type 0
Tells untold seen d after = Unit {0}
Tells (deeds []) seen d after = (d ≡ idle) × (after ≡ deeds [])
Tells (deeds (x ∷ xs)) seen d after = (d ≡ x) × (after ≡ deeds xs)
Tells (mask m) seen d after = (d ≡ masked m seen) × (after ≡ mask m)

-- the same of what a side holds
abbrev pub Acted : Option Plan → ℕ → DeedData → Option Plan → Type 0
Acted None seen d after = (d ≡ idle) × (after ≡ None)
Acted (Some q) seen d after = (r : Plan) × (after ≡ Some r) × Tells q seen d r
