-- What an act of a written step is seen as.
use Rattle.core_model.specs.Schedule.{ActData, Tick, Step, Exchange}
use Rattle.core_model.specs.declared.SideStep.TheVariants as step
use Rattle.script_model.specs.declared.acts.Act.{Act}
use Rattle.script_model.specs.declared.acts.Act.TheVariants as act

-- a tick, a step of a side, or its exchange; Word is a failed side's publish word, Value its command word, Contactor an order to its
-- contactor
abbrev pub act_data : Act → ActData
act_data act.Tick = Tick
act_data (act.Fail side) = Step side step.Fail
act_data (act.Sample side) = Step side step.Sample
act_data (act.Publish side) = Step side step.Publish
act_data (act.Look side) = Step side step.Look
act_data (act.Command side) = Step side step.Command
act_data (act.Word side word) = Step side (step.RoguePublish word)
act_data (act.Value side word) = Step side (step.RogueCommand word)
act_data (act.Contactor side order) = Step side (step.RogueContactor order)
act_data (act.Exchange side) = Exchange side
