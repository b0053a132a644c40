use Rattle.step_relation.specs.Targets.{of_c}
use Rattle.step_reads.proofs.TargetLemmas.{chained, found_self, renewed_at}
use Rattle.step_reads.proofs.targets.target_of.Goals as goal

pub end_of-requires : goal.end_of-requires
end_of-requires c = found_self _ _ c.in-Some.row.now (rw c.in-Some.is at c.row.ensures)

pub returns-in-Some-clause-some : goal.returns-in-Some-clause-some
returns-in-Some-clause-some c =
    chained _ _ c.in-U.name c.in-U.no _ c.in-Some.row.now c.args.node.now c.in-U.is (rw c.in-Some.is at c.row.ensures)
    c.end_of.ensures

pub returns-in-C-clause-some : goal.returns-in-C-clause-some
returns-in-C-clause-some c = rw c.in-C.is (of_c _)

pub returns-in_ok-current-in-U-clause-some : goal.returns-in_ok-current-in-U-clause-some
returns-in_ok-current-in-U-clause-some c =
    renewed_at _ _ c.in-U.name c.in-U.no c.in_ok-current-in-U.current.now c.args.node.now c.in-U.is
    (rw c.in_default.is at c.row.ensures)
    c.in_ok-current-in-U.ensures.some
