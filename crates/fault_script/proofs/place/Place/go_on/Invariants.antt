use Rattle.std.proofs.Common.{◌≡◌, ◌++◌, replicate}
use Rattle.script_model.specs.Judging.{input_on}
use Rattle.fault_script.proofs.place.Place.go_on.Given as goal

abbrev pub invariant-loop : goal.invariant-loop
invariant-loop l =
    let inputs = l.fn.self.script.inputs ++ replicate l.counter (input_on l.fn.self) in
    l.self ≡ record l.fn.self { script = record l.fn.self.script { inputs = inputs } }
