-- Each case is a move of the engine.
use Rattle.std.proofs.Common.{◌≡◌, Bool, false, refl}
use Rattle.std.specs.Prelude.{IsTrue}
use Rattle.std.proofs.lemmas.Bool.{both_ways}
use Rattle.heat_plan.specs.declared.item.Policy.{Policy}
use Rattle.heat_plan.specs.declared.item.Policy.TheVariants as policy
use Rattle.mail_table.specs.declared.mail.Stage.TheVariants.{Asking}
use Rattle.step_relation.specs.Begins.{begun_entries, left_entries}
use Rattle.step_relation.specs.Moves.{clean_deleted, clean_init, clean_kept, clean_retained, clean_stuck}
use Rattle.step_relation.specs.Rows.{deleted_row}
use Rattle.history_laws.proofs.tables.Rows.{row_self}
use Rattle.cleanup_steps.proofs.CaseLemmas.{cleans_row, refuses, turns}
use Rattle.cleanup_steps.proofs.beginning.clean.Goals as goal

-- a test that failed
never : (b : Bool) (P : Type 0) → (P → IsTrue b) → b ≡ false → ¬ P
never b P says fails p = both_ways b fails (says p)

kept_not_retained : (p : Policy) → p ≡ policy.Delete → p ≡ policy.Retain → ⊥
kept_not_retained p is isnt = cc

pub is_kept-requires : goal.is_kept-requires
is_kept-requires c = row_self c.args.s.now.state.rows c.args.job.now.row c.args.row.now c.requires.found

pub returns-then-is_kept-clause-made : goal.returns-then-is_kept-clause-made
returns-then-is_kept-clause-made c = turns _ _ _ _ c.pass.result
    (clean_kept (cleans_row _ _ _ _ _ c.requires) c.args.row.now _ _ c.requires.found
    (c.is_kept.ensures.0 c.if-is_kept.true) refl refl)
    c.pass.ensures.made

pub returns-then-is_init-clause-made : goal.returns-then-is_init-clause-made
returns-then-is_init-clause-made c = turns _ _ _ _ c.purge.result
    (clean_init (cleans_row _ _ _ _ _ c.requires) c.args.row.now _ _ c.requires.found
    (never _ _ c.is_kept.ensures.1 c.if-is_kept.false) (c.is_init.ensures.0 c.if-is_init.true) refl refl)
    c.purge.ensures.made

pub returns-then-is_stuck-clause-made : goal.returns-then-is_stuck-clause-made
returns-then-is_stuck-clause-made c = turns _ _ _ _ c.leave.result
    (clean_stuck (cleans_row _ _ _ _ _ c.requires) c.args.row.now _ _ c.requires.found
    (never _ _ c.is_kept.ensures.1 c.if-is_kept.false) (c.is_stuck.ensures.0 c.if-is_stuck.true) refl refl)
    c.leave.ensures.made

pub returns-then-is_stuck-clause-cause : goal.returns-then-is_stuck-clause-cause
returns-then-is_stuck-clause-cause c = refuses _ _ _ (left_entries c.args.e c.args.row.now) c.leave.result
    (clean_stuck (cleans_row _ _ _ _ _ c.requires) c.args.row.now _ _ c.requires.found
    (never _ _ c.is_kept.ensures.1 c.if-is_kept.false) (c.is_stuck.ensures.0 c.if-is_stuck.true) refl refl)
    c.leave.ensures.cause

pub returns-in-Retain-clause-made : goal.returns-in-Retain-clause-made
returns-in-Retain-clause-made c = turns _ _ _ _ c.give_up.result
    (clean_retained (cleans_row _ _ _ _ _ c.requires) c.args.row.now _ _ c.requires.found
    (never _ _ c.is_kept.ensures.1 c.if-is_kept.false) (never _ _ c.is_init.ensures.1 c.if-is_init.false)
    (never _ _ c.is_stuck.ensures.1 c.if-is_stuck.false) c.in-Retain.is refl refl)
    c.give_up.ensures.made

pub returns-in-Delete-clause-made : goal.returns-in-Delete-clause-made
returns-in-Delete-clause-made c = turns _ _ _ _ c.delete.result
    (clean_deleted (cleans_row _ _ _ _ _ c.requires) c.args.row.now _ _ c.requires.found
    (never _ _ c.is_kept.ensures.1 c.if-is_kept.false) (never _ _ c.is_init.ensures.1 c.if-is_init.false)
    (never _ _ c.is_stuck.ensures.1 c.if-is_stuck.false) (kept_not_retained _ c.in-Delete.is) refl refl)
    c.delete.ensures.made

pub returns-in-Delete-clause-cause : goal.returns-in-Delete-clause-cause
returns-in-Delete-clause-cause c =
    refuses _ _ _ (begun_entries c.args.e c.args.job.now Asking (deleted_row c.args.row.now c.args.stack.now.trav))
    c.delete.result
    (clean_deleted (cleans_row _ _ _ _ _ c.requires) c.args.row.now _ _ c.requires.found
    (never _ _ c.is_kept.ensures.1 c.if-is_kept.false) (never _ _ c.is_init.ensures.1 c.if-is_init.false)
    (never _ _ c.is_stuck.ensures.1 c.if-is_stuck.false) (kept_not_retained _ c.in-Delete.is) refl refl)
    c.delete.ensures.cause
