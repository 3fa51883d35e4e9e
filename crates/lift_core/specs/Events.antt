-- An event of the program as one of the machine.
use Rattle.core_model.specs.Machine.{Event, Tick, Step}
use Rattle.core_model.specs.declared.SideStep.TheVariants as step
use Rattle.lift_core.specs.declared.event.Event.{Event as Given}
use Rattle.lift_core.specs.declared.event.Event.TheVariants as given

abbrev pub event_data : Given → Event
event_data (given.Tick input) = Tick input
event_data (given.Fail side) = Step side step.Fail
event_data (given.Sample side) = Step side step.Sample
event_data (given.Publish side) = Step side step.Publish
event_data (given.Look side) = Step side step.Look
event_data (given.Command side) = Step side step.Command
event_data (given.RoguePublish side word) = Step side (step.RoguePublish word)
event_data (given.RogueCommand side word) = Step side (step.RogueCommand word)
event_data (given.RogueContactor side order) = Step side (step.RogueContactor order)
