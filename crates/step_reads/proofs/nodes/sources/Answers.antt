use Rattle.std.proofs.Common.{ℕ}
use Rattle.std.proofs.lemmas.List.Sorted.{IsNonDecreasingBy-from_sort}
use Rattle.step_reads.proofs.ReadyLemmas.{comes_from}
use Rattle.step_reads.proofs.nodes.sources.Goals as goal

pub returns-clause-sorted : goal.returns-clause-sorted
returns-clause-sorted c = IsNonDecreasingBy-from_sort (λ (x : ℕ). x) _ c.in_ok-sort.ensures.sorted

pub returns-clause-each : goal.returns-clause-each
returns-clause-each c =
    comes_from c.args.inputs.now c.args.from _ _ c.in_ok-sources.ensures c.in_ok-sort.ensures.permutation
