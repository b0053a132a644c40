-- The search finds where the numbers stop being below the one.
use Rattle.std.proofs.Common.{rules}
use Rattle.std.specs.Prelude.{nat_lt}
use Rattle.std.proofs.lemmas.Fn.{always_returns_same}
use Rattle.traversal_graph.specs.declared.brief.RowBrief.{RowBrief}
use Rattle.traversal_graph.proofs.NumberLemmas.{parted, start}
use Rattle.traversal_graph.proofs.numbered.start_of.Goals as goal

pub returns-clause-parts : goal.returns-clause-parts
returns-clause-parts c =
    start c.args.rows.now c.args.number _
    (c.partition_point.ensures.partitioned (λ (row : RowBrief). nat_lt row.no c.args.number) (always_returns_same _ _ _ (λ a r f called. search rules))
    (parted c.args.rows.now c.args.number c.requires))
