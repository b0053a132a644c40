use Rattle.std.proofs.Common.{◌≡◌, List, [], drop}
use Rattle.std.specs.Prelude.{fold}
use Rattle.heat_plan.specs.declared.token.Token.{Token}
use Rattle.core_state.specs.declared.entry.Entry.{Entry}
use Rattle.step_relation.specs.Stored.{released_by}
use Rattle.headline_reader.proofs.releases.given_up.Given as goal

abbrev pub released_on : List Token → List Entry → List Token
released_on tokens es = fold (λ (before : List Token) (e : Entry). released_by before e.what) tokens es

abbrev pub invariant-loop-entry : goal.invariant-loop-entry
invariant-loop-entry l = released_on l.tokens (drop l.entry-index l.entries) ≡ released_on [] l.entries
