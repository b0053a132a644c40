use Rattle.std.proofs.lemmas.Bool.{OnTrue_at, OnFalse_at, OnTrue_from, OnFalse_from}
use Rattle.step_reads.specs.Waiting.{update}
use Rattle.step_reads.proofs.ResendLemmas.{leads_update, target_in}
use Rattle.step_reads.proofs.resends.is_update_of.Goals as goal

pub returns-then-is_in-clause-yes : goal.returns-then-is_in-clause-yes
returns-then-is_in-clause-yes c =
    leads_update c.args.s.now.state.rows c.args.stack.now c.args.row c.args.leading.now c.requires.leading
    c.args.node.now c.in-U.name c.in-U.chosen c.in-U.is
    (c.is_in.ensures.0 c.if-is_in.true)

pub returns-in-Some-clause-yes : goal.returns-in-Some-clause-yes
returns-in-Some-clause-yes c =
    OnTrue_from c.has_target.result _
    (λ t. update c.in-U.name c.in-U.chosen c.in-U.is (OnTrue_at t c.has_target.ensures.yes))

pub returns-in-Some-clause-no_ : goal.returns-in-Some-clause-no_
returns-in-Some-clause-no_ c =
    OnFalse_from c.has_target.result _ (λ t its. OnFalse_at t c.has_target.ensures.no_ (target_in _ _ _ _ its))
