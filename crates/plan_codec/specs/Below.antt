-- Words of crates below this one that crates above it cite too, passed on.
pub use Rattle.heat_plan.specs.Names.{IsStackName, IsResName}
pub use Rattle.heat_plan.specs.Numbers.{IsNumber}
pub use Rattle.heat_plan.specs.declared.phase.Act.{Act}
pub use Rattle.heat_plan.specs.declared.phase.Act.TheVariants.{Init, Create, Update, Delete, Rollback}
pub use Rattle.heat_plan.specs.declared.phase.Status.{Status}
pub use Rattle.heat_plan.specs.declared.phase.Status.TheVariants.{Complete, InProgress, Failed}
pub use Rattle.heat_plan.specs.declared.token.Token.{Token}
