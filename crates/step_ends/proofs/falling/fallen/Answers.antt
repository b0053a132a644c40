use Rattle.std.proofs.Common.{refl}
use Rattle.std.proofs.lemmas.Result.{IfErr-weaker, IfOk-weaker, err_from_is_err_and}
use Rattle.step_relation.specs.Asks.{overrun}
use Rattle.history_laws.proofs.tables.Rows.{row_self}
use Rattle.step_ends.proofs.Fallen.{again_fallen, fallen_by, its_stack, marked_fall, not_running, running_fall}
use Rattle.step_ends.proofs.falling.fallen.Goals as goal

pub mark-requires-clause-row : goal.mark-requires-clause-row
mark-requires-clause-row c = row_self _ _ _ c.requires

pub mark-requires-clause-found : goal.mark-requires-clause-found
mark-requires-clause-found c = its_stack _ _ _ _ _ _ _ c.in-Some.ensures.some

pub returns-in-InProgress-clause-made : goal.returns-in-InProgress-clause-made
returns-in-InProgress-clause-made c = IfOk-weaker c.mark.result _ _ (λ m k. record {
  letters = _;
  failed = _;
  falls = running_fall _ _ _ _ _ _ c.in-Some.ensures.some c.in-InProgress.is;
  ended = k;
}) c.mark.ensures.made

pub returns-in-InProgress-clause-cause : goal.returns-in-InProgress-clause-cause
returns-in-InProgress-clause-cause c = IfErr-weaker c.mark.result _ _
    (λ r k. fallen_by _ _ _ _ _ _ _ (running_fall _ _ _ _ _ _ c.in-Some.ensures.some c.in-InProgress.is) r k)
    c.mark.ensures.cause

pub returns-in-Complete-clause-made : goal.returns-in-Complete-clause-made
returns-in-Complete-clause-made c = IfOk-weaker c.leave.result _ _ (λ m k. record {
  letters = _;
  failed = _;
  falls = marked_fall _ _ _ _ _ _ _ c.in-Some.ensures.some (not_running _ c.in-Complete.is) c.new.ensures;
  ended = k;
}) c.leave.ensures.made

pub returns-in-Complete-clause-cause : goal.returns-in-Complete-clause-cause
returns-in-Complete-clause-cause c = IfErr-weaker c.leave.result _ _
    (λ r k. fallen_by _ _ _ _ _ _ _ (marked_fall _ _ _ _ _ _ _ c.in-Some.ensures.some
    (not_running _ c.in-Complete.is) c.new.ensures) r k) c.leave.ensures.cause

pub returns-in_err-letters-in-None-clause-cause : goal.returns-in_err-letters-in-None-clause-cause
returns-in_err-letters-in-None-clause-cause c =
    let p = err_from_is_err_and c.from_residual.result c.from_residual.ensures.1 in
    rw (p.1, p.2) (again_fallen _ c.args.e _ c.args.row.now c.args.why _
    (c.in-None.ensures.none refl) c.next_letter-number.ensures.range c.in_err-letters-in-None.ensures.cause)

pub returns-in_ok-letters-in-None-clause-made : goal.returns-in_ok-letters-in-None-clause-made
returns-in_ok-letters-in-None-clause-made c = IfOk-weaker c.leave-in-None.result _ _ (λ m k. record {
  letters = _;
  failed = _;
  falls = overrun _ (c.in-None.ensures.none refl) c.in_ok-letters-in-None.ensures.made.resends;
  ended = k;
}) c.leave-in-None.ensures.made

pub returns-in_ok-letters-in-None-clause-cause : goal.returns-in_ok-letters-in-None-clause-cause
returns-in_ok-letters-in-None-clause-cause c = IfErr-weaker c.leave-in-None.result _ _
    (λ r k. fallen_by _ _ _ _ _ _ _ (overrun _
    (c.in-None.ensures.none refl) c.in_ok-letters-in-None.ensures.made.resends) r k) c.leave-in-None.ensures.cause
