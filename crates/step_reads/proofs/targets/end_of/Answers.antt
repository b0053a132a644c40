use Rattle.std.proofs.Common.{arith, refl}
use Rattle.row_table.specs.Chains.{ends, goes}
use Rattle.step_reads.proofs.targets.end_of.Goals as goal

pub loop-behind-smaller : goal.loop-behind-smaller
loop-behind-smaller c = let q = c.in-Some.ensures.some in omega (arith, q.rises, q.below)

pub loop-behind-preserved : goal.loop-behind-preserved
loop-behind-preserved c =
    let q = c.in-Some.ensures.some in
    record {
      stands = q.found;
      leads = λ t on. c.loop-behind.invariant.leads t (goes _ _ t _ c.loop-behind.invariant.stands q.link q.rises on);
    }

pub returns : goal.returns
returns c = c.loop-behind.invariant.leads _ (ends _ _ c.loop-behind.invariant.stands (c.in_default.ensures.none refl))
