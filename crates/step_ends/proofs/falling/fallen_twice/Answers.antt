-- The same mark under both answers, or the same letters.
use Rattle.std.proofs.Common.{inl, inr}
use Rattle.std.proofs.lemmas.Result.{IfErr-weaker, IfOk-weaker}
use Rattle.history_laws.proofs.tables.Rows.{row_self}
use Rattle.step_ends.proofs.Fallen.{fallen_by}
use Rattle.step_ends.proofs.Twice.{err_at, refused_otherwise}
use Rattle.step_ends.proofs.falling.fallen_twice.Goals as goal

pub mark_twice-requires-clause-row : goal.mark_twice-requires-clause-row
mark_twice-requires-clause-row c = row_self _ _ _ c.requires

pub returns-in-Some-clause-first : goal.returns-in-Some-clause-first
returns-in-Some-clause-first c = IfOk-weaker c.mark_twice.result _ _ (λ both k. record {
  letters = _;
  failed = _;
  falls = c.in-Some.ensures.1;
  ended = k;
}) c.mark_twice.ensures.first

pub returns-in-Some-clause-second : goal.returns-in-Some-clause-second
returns-in-Some-clause-second c = IfOk-weaker c.mark_twice.result _ _ (λ both k. record {
  letters = _;
  failed = _;
  falls = c.in-Some.ensures.1;
  ended = k;
}) c.mark_twice.ensures.second

pub returns-in-Some-clause-cause : goal.returns-in-Some-clause-cause
returns-in-Some-clause-cause c = IfErr-weaker c.mark_twice.result _ _ (λ r k. elim k [
  | inl a ↦ fallen_by _ _ _ _ _ _ _ c.in-Some.ensures.1 r a
  | inr b ↦ refused_otherwise _ _ _ _ c.args.why c.args.other r (fallen_by _ _ _ _ _ _ _ c.in-Some.ensures.1 r b)
]) c.mark_twice.ensures.cause

pub returns-in-None-clause-cause : goal.returns-in-None-clause-cause
returns-in-None-clause-cause c = IfErr-weaker c.paired.result _ _ (λ r k. elim k [
  | inl a ↦ err_at _ _ r c.fallen.ensures.cause a
  | inr b ↦ refused_otherwise _ _ _ _ c.args.why c.args.other r (err_at _ _ r c.fallen-in-None.ensures.cause b)
]) c.paired.ensures.err
