use Rattle.std.proofs.Common.{◌≡◌, ◌+◌, ◌/◌, []}
use Rattle.script_model.specs.Generated.{draw, generated_settings, inputs_to}
use Rattle.node_sim.proofs.generated.load_script.Given as goal

abbrev pub invariant-loop-before : goal.invariant-loop-before
invariant-loop-before l = record {
  script : l.script ≡ record { config = generated_settings; inputs = inputs_to l.number l.before; steps = [] };
  drawn : l.drawn ≡ draw l.number ((l.before + 199) / 200);
}
