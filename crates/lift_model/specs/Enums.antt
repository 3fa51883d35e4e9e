-- The plain enums of the product, in one place for definitions to cite.
pub use Rattle.lift_base.specs.declared.Kind.{Kind, TheVariants.Off, TheVariants.Full, TheVariants.Up, TheVariants.Down}
pub use Rattle.lift_base.specs.declared.Side.{Side, TheVariants.A, TheVariants.B}
pub use Rattle.lift_base.specs.declared.Mode.{Mode, TheVariants.Normal, TheVariants.Inspection, TheVariants.Emergency}
pub use Rattle.lift_base.specs.declared.Phase.{Phase, TheVariants.Rest, TheVariants.Sampled, TheVariants.Published, TheVariants.Looked}
pub use Rattle.lift_base.specs.declared.Override.{Override, TheVariants.Keep, TheVariants.Follow, TheVariants.Force}
