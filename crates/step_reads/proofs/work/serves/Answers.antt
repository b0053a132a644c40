use Rattle.std.proofs.lemmas.Bool.{OnTrue_from, both_ways}
use Rattle.step_relation.specs.Freshness.{cleans}
use Rattle.step_reads.proofs.WorkLemmas.{asked_serves}
use Rattle.step_reads.proofs.work.serves.Goals as goal

pub returns-in-C-default-clause-yes : goal.returns-in-C-default-clause-yes
returns-in-C-default-clause-yes c = rw c.in-C-default.is-0 (cleans _ _)

pub returns-then-ne-clause-yes : goal.returns-then-ne-clause-yes
returns-then-ne-clause-yes c = OnTrue_from c.is_asked.result _ (λ e. rw (c.in-U-Some.is-0, c.in-U-Some.is-1)
    (asked_serves c.args.stack.now c.in-U-Some.name c.in-U-Some.field-1-0 c.in-U-Some.row.now (c.is_asked.ensures.0 e)
    (λ gone. both_ways c.ne.result (rw gone at c.ne.ensures) c.if-ne.true)))
