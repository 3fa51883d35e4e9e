-- What a `MaskChannel` stands for.
use Rattle.std.specs.Prelude.{List}
use Rattle.lift_model.specs.Records.{Settings, InputData}
use Rattle.srdo_count.specs.Counted as counted
use Rattle.grant_model.specs.Steadily as steadily
use Rattle.channel_masks.specs.declared.channel.MaskChannel.{MaskChannel}

-- it was set to this config, and took these inputs
abbrev pub StandsFor : MaskChannel → Settings → List InputData → Type 0
StandsFor it config inputs = steadily.StandsFor counted.StandsFor it.steady config inputs
