use Rattle.std.proofs.Common.{Bor, ap, length, option_map, subst, sym}
use Rattle.heat_plan.specs.declared.token.Token.{Token}
use Rattle.provider.specs.declared.alive.Alive.{Alive}
use Rattle.opening_check.specs.Findings.{HasFound}
use Rattle.opening_check.specs.Rows.{IsLowest}
use Rattle.opening_check.specs.Strangers.{IsStranger}
use Rattle.opening_check.specs.declared.finding.Finding.{Finding}
use Rattle.opening_check.specs.declared.finding.Finding.TheVariants.{Stranger}
use Rattle.opening_check.proofs.RowsLemmas.{found_has, inner, nothing_found, stranger_found}
use Rattle.opening_check.proofs.comparison.compare.Goals as goal

-- src/comparison.rt:33:9
pub returns-in-Some-clause-found : goal.returns-in-Some-clause-found
returns-in-Some-clause-found c t finding e leaving =
    let s = c.args.s.now.state in
    let all = c.args.all.now in
    let lowest = subst (IsLowest all s.rows (length s.rows)) c.in-Some.is c.in_ok-found.ensures in
    subst (λ (found : Token × Finding). HasFound (record { state = s; alive = all; leaving = leaving }) found.0 found.1)
    (inner c.in-Some.found (t, finding) e) (found_has s all leaving c.in-Some.found lowest.some)

-- src/comparison.rt:30:1
pub returns-in-Some-first_stranger-clause-found : goal.returns-in-Some-first_stranger-clause-found
returns-in-Some-first_stranger-clause-found c t finding e leaving =
    let s = c.args.s.now.state in
    let all = c.args.all.now in
    let it = c.in-Some-first_stranger.alive.now in
    let lowest = subst (IsLowest all s.rows (length s.rows)) c.in_default.is c.in_ok-found.ensures in
    let first = c.first_stranger.ensures.some it (ap (option_map (λ (a : Bor Alive). a.now)) c.in-Some-first_stranger.is) in
    subst (λ (found : Token × Finding). HasFound (record { state = s; alive = all; leaving = leaving }) found.0 found.1)
    (inner (c.in_ok-copy-in-Some-first_stranger.field-0, Stranger) (t, finding) e)
    (subst (λ (token : Token). HasFound (record { state = s; alive = all; leaving = leaving }) token Stranger)
    (sym c.in_ok-copy-in-Some-first_stranger.ensures) (stranger_found s all leaving it lowest first))

-- src/comparison.rt:24:1
pub returns-clause-nothing : goal.returns-clause-nothing
returns-clause-nothing c e leaving =
    let s = c.args.s.now.state in
    let all = c.args.all.now in
    nothing_found s all leaving (subst (IsLowest all s.rows (length s.rows)) c.in_default.is c.in_ok-found.ensures)
    (subst (IsStranger s all) (ap (option_map (λ (a : Bor Alive). a.now)) c.in-None.is) c.first_stranger.ensures)
