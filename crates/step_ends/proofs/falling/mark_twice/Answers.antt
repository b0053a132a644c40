-- What is behind the mark is the same under both answers.
use Rattle.std.proofs.Common.{inl, inr, Some, subst}
use Rattle.std.specs.Prelude.{Option}
use Rattle.std.proofs.lemmas.Result.{IfErr-weaker, IfOk-weaker}
use Rattle.core_state.specs.declared.made.Made.{Made}
use Rattle.step_ends.specs.Marks.{AreBehind}
use Rattle.step_ends.proofs.Fallen.{alone_refusal, behind_worn_out, marked_alone, marked_rolls, rolls_refusal}
use Rattle.step_ends.proofs.Twice.{err_at, ok_at}
use Rattle.step_ends.proofs.falling.mark_twice.Goals as goal

pub returns-in-Ok-Some-clause-first : goal.returns-in-Ok-Some-clause-first
returns-in-Ok-Some-clause-first c =
    let behind = subst (λ (o : Option (Made × Made)). AreBehind c.args.s.now.state c.args.e c.args.stack.now o)
    c.in-Ok-Some.field-0-is c.in-Ok-Some.ensures.made in
    IfOk-weaker c.paired.result _ _
    (λ both k. marked_rolls c.args.s.now.state c.args.e c.args.row.now c.args.stack.now c.args.why c.requires.row
    _ _ behind.0.0 both.0.changes both.0.entries (ok_at _ _ both.0 c.rolled.ensures.changes k.0) (ok_at _ _ both.0 c.rolled.ensures.entries k.0))
    c.paired.ensures.ok

pub returns-in-Ok-Some-clause-second : goal.returns-in-Ok-Some-clause-second
returns-in-Ok-Some-clause-second c =
    let behind = subst (λ (o : Option (Made × Made)). AreBehind c.args.s.now.state c.args.e c.args.stack.now o)
    c.in-Ok-Some.field-0-is c.in-Ok-Some.ensures.made in
    IfOk-weaker c.paired.result _ _
    (λ both k. marked_rolls c.args.s.now.state c.args.e c.args.row.now c.args.stack.now c.args.other c.requires.row
    _ _ behind.1.0 both.1.changes both.1.entries (ok_at _ _ both.1 c.rolled-in-Ok-Some.ensures.changes k.1) (ok_at _ _ both.1 c.rolled-in-Ok-Some.ensures.entries k.1))
    c.paired.ensures.ok

pub returns-in-Ok-Some-clause-cause : goal.returns-in-Ok-Some-clause-cause
returns-in-Ok-Some-clause-cause c =
    let behind = subst (λ (o : Option (Made × Made)). AreBehind c.args.s.now.state c.args.e c.args.stack.now o)
    c.in-Ok-Some.field-0-is c.in-Ok-Some.ensures.made in
    IfErr-weaker c.paired.result _ _
    (λ r k. elim k [
      | inl a ↦ inl (rolls_refusal c.args.s.now.state c.args.e c.args.row.now c.args.stack.now c.args.why c.requires.row
          _ _ behind.0.0 r (err_at _ _ r c.rolled.ensures.cause a))
      | inr b ↦ inr (rolls_refusal c.args.s.now.state c.args.e c.args.row.now c.args.stack.now c.args.other c.requires.row
          _ _ behind.1.0 r (err_at _ _ r c.rolled-in-Ok-Some.ensures.cause b))
    ]) c.paired.ensures.err

pub returns-in-Ok-None-clause-first : goal.returns-in-Ok-None-clause-first
returns-in-Ok-None-clause-first c =
    let behind = subst (λ (o : Option (Made × Made)). AreBehind c.args.s.now.state c.args.e c.args.stack.now o)
    c.in-Ok-None.field-0-is c.in-Ok-None.ensures.made in
    IfOk-weaker c.paired-in-Ok-None.result _ _
    (λ both k. marked_alone c.args.s.now.state c.args.e c.args.row.now c.args.stack.now c.args.why c.requires.row
    behind both.0.changes both.0.entries (ok_at _ _ both.0 c.marked.ensures.changes k.0) (ok_at _ _ both.0 c.marked.ensures.entries k.0))
    c.paired-in-Ok-None.ensures.ok

pub returns-in-Ok-None-clause-second : goal.returns-in-Ok-None-clause-second
returns-in-Ok-None-clause-second c =
    let behind = subst (λ (o : Option (Made × Made)). AreBehind c.args.s.now.state c.args.e c.args.stack.now o)
    c.in-Ok-None.field-0-is c.in-Ok-None.ensures.made in
    IfOk-weaker c.paired-in-Ok-None.result _ _
    (λ both k. marked_alone c.args.s.now.state c.args.e c.args.row.now c.args.stack.now c.args.other c.requires.row
    behind both.1.changes both.1.entries (ok_at _ _ both.1 c.marked-in-Ok-None.ensures.changes k.1) (ok_at _ _ both.1 c.marked-in-Ok-None.ensures.entries k.1))
    c.paired-in-Ok-None.ensures.ok

pub returns-in-Ok-None-clause-cause : goal.returns-in-Ok-None-clause-cause
returns-in-Ok-None-clause-cause c =
    let behind = subst (λ (o : Option (Made × Made)). AreBehind c.args.s.now.state c.args.e c.args.stack.now o)
    c.in-Ok-None.field-0-is c.in-Ok-None.ensures.made in
    IfErr-weaker c.paired-in-Ok-None.result _ _
    (λ r k. elim k [
      | inl a ↦ inl (alone_refusal c.args.s.now.state c.args.e c.args.row.now c.args.stack.now c.args.why c.requires.row
          behind r (err_at _ _ r c.marked.ensures.cause a))
      | inr b ↦ inr (alone_refusal c.args.s.now.state c.args.e c.args.row.now c.args.stack.now c.args.other c.requires.row
          behind r (err_at _ _ r c.marked-in-Ok-None.ensures.cause b))
    ]) c.paired-in-Ok-None.ensures.err

pub returns-in-Err-clause-cause : goal.returns-in-Err-clause-cause
returns-in-Err-clause-cause c =
    inl (behind_worn_out c.args.s.now.state c.args.e c.args.row.now c.args.stack.now c.args.why c.requires.row
    c.in-Err.refusal c.in-Err.ensures.cause)
