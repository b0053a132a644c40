use Rattle.std.proofs.Common.{◌∙◌, Option, Some, ap, subst, sym}
use Rattle.heat_plan.specs.declared.token.Token.{Token}
use Rattle.provider.specs.declared.alive.Alive.{Alive}
use Rattle.step_relation.specs.Rows.{token_of}
use Rattle.opening_check.specs.Rows.{IsShown, differs, finding_of, listed_of, lower_of, shown_of}
use Rattle.opening_check.specs.declared.finding.Finding.{Finding}
use Rattle.opening_check.proofs.PlacesLemmas.{untrue}
use Rattle.opening_check.proofs.rows.considered.Goals as goal

-- src/rows.rt:36:1
pub returns : goal.returns
returns c =
    let row = c.in-Some.row.now in
    let found = c.listed-found.ensures ∙ ap (listed_of c.args.all.now) c.in_ok-token.ensures in
    differs row (sym c.in-Some.ensures)
    (λ leaving is. untrue ((c.if-is_shown.ensures leaving).1
    (subst (λ (f : Option Alive). IsShown row (shown_of leaving f)) (sym found) is)))
    (ap Some (c.lower.ensures
    ∙ ap (λ (t : Token). lower_of c.args.first (t, c.finding.result)) c.in_ok-token.ensures
    ∙ ap (λ (f : Finding). lower_of c.args.first (token_of row, f)) (c.finding.ensures ∙ ap finding_of found)))
