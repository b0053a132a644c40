use Rattle.std.proofs.Common.{false, refl}
use Rattle.std.proofs.lemmas.Bool.{both_ways}
use Rattle.step_parts.proofs.WearLemmas.{no_other, row_wears}
use Rattle.step_parts.proofs.wear.overflows.Goals as goal

pub returns-in-PutRow : goal.returns-in-PutRow
returns-in-PutRow c = row_wears _ c.in-PutRow.row c.in-PutRow.is

pub returns-in-PutStack-13 : goal.returns-in-PutStack-13
returns-in-PutStack-13 c = (λ f. absurd (both_ways false refl f), λ o. absurd (no_other _ c.in-PutStack.is o))
