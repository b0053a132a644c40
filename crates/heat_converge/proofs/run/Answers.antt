-- There were words, or none.
use Rattle.std.proofs.Common.{ap, inl, inr}
use Rattle.heat_converge.specs.Called.{unsaid}
use Rattle.heat_converge.specs.declared.ended.Ended.TheVariants.{Called}
use Rattle.heat_converge.proofs.Calling.{said_so}
use Rattle.heat_converge.proofs.run.Goals as goal

pub returns-in-Err : goal.returns-in-Err
returns-in-Err c = unsaid (elim c.without_words.ensures [
  | inl usage ↦ inl (ap Called usage)
  | inr memory ↦ inr (ap Called memory)
])

pub returns : goal.returns
returns c = said_so _ c.run_by.result c.run_by.ensures
