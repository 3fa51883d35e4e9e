-- What a `WalkerChannel` stands for.
use Rattle.std.specs.Prelude.{List}
use Rattle.lift_model.specs.Records.{Settings, InputData}
use Rattle.srdo_deadline.specs.Dated as dated
use Rattle.grant_model.specs.Steadily as steadily
use Rattle.channel_walker.specs.declared.channel.WalkerChannel.{WalkerChannel}

-- it was set to this config, and took these inputs
abbrev pub StandsFor : WalkerChannel → Settings → List InputData → Type 0
StandsFor it config inputs = steadily.StandsFor dated.StandsFor it.steady config inputs
