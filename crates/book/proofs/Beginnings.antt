-- What a job at Taken begins at, and that its begin is a turn that asks nobody.
use Rattle.std.proofs.Common.{refl, subst, sym, ℕ, ◌≡◌, ◌≢◌}
use Rattle.std.proofs.lemmas.Result.{IfErr-weaker, IfOk-weaker}
use Rattle.std.specs.Prelude.{IfErr, IfOk, IsSome, List, Option, Result}
use Rattle.heat_plan.specs.declared.refusal.Refusal.{Refusal}
use Rattle.traversal_graph.specs.declared.shape.Node.TheVariants.{U}
use Rattle.traversal_graph.specs.declared.shape.Node.{Node}
use Rattle.row_table.specs.declared.row.Row.{Row}
use Rattle.mail_table.specs.declared.mail.Job.{Job}
use Rattle.mail_table.specs.declared.mail.Stage.TheVariants.{Taken}
use Rattle.core_state.specs.State.{StateData}
use Rattle.core_state.specs.declared.graph.Graph.{Graph}
use Rattle.core_state.specs.declared.made.Made.{Made}
use Rattle.core_state.specs.declared.stack.Stack.{Stack}
use Rattle.step_relation.specs.Nexts.{Works}
use Rattle.workable_laws.specs.Workable.{AreWhole}
use Rattle.step_parts.specs.Turns.{IsTurn, IsTurnRefusal}
use Rattle.step_parts.specs.Turns as step
use Rattle.step_reads.specs.Work.{IsFreshOf}
use Rattle.check_steps.specs.AtUpdate.{AtUpdate, HasPoint}
use Rattle.check_steps.specs.Gives.{given_of}
use Rattle.check_steps.specs.Looks.{IsBegin}
use Rattle.check_steps.specs.Prepares.{IsBeginPrepared}
use Rattle.check_steps.specs.declared.looks.BeginWork.{BeginWork}
use Rattle.check_steps.specs.declared.prepared.Prepared.TheVariants.{Fault, Memory, Plain, Props}
use Rattle.check_steps.specs.declared.prepared.Prepared.{Prepared}
use Rattle.check_steps.proofs.Tyings.{tied_turn, tied_wearing}
use Rattle.check_steps.proofs.Updates.{at_update as at_update_of}
use Rattle.book.specs.Makings.{IsQuietRefusal, IsQuietTurn}
use Rattle.book.specs.Makings as made_as
use Rattle.book.specs.Turned.{IsQuiet}
use Rattle.book.proofs.QuietTurns.{quiet_of, refusal_of}

-- what was prepared is no answer
pub quiet_prepared : (p : Prepared) → IsQuiet (given_of p)
quiet_prepared (Props props effect) a is = cc
quiet_prepared (Fault code path) a is = cc
quiet_prepared Plain a is = cc
quiet_prepared Memory a is = cc

-- what was prepared for a begin isn't what is for another step
pub not_plain : (w : BeginWork) (p : Prepared) → IsBeginPrepared w p → p ≢ Plain
not_plain w p given is = subst (λ (x : Prepared). IsBeginPrepared w x) is given

-- where graphs are whole the node of a job has its point
pub has_point : (s : StateData) (e : ℕ) → AreWhole s → HasPoint s e
has_point s e x j stack graph node its names =
    (x j.letter.stack graph (subst (λ (st : Option Stack). IsSome st) (sym names.in_table) refl) names.its_graph).points
    j.letter.node node names.its_node

pub at_update : (s : StateData) (x : AreWhole s) (e : ℕ) (j : Job) (works : Works s e j Taken) (stack : Stack)
    (graph : Graph) (node : Node) (row : Option Row) (name : List ℕ) (chosen : ℕ) → node ≡ U name chosen
    → IsFreshOf s j.letter j.row stack graph node row → AtUpdate s e j
at_update s x e j works stack graph node row name chosen is k =
    at_update_of s e (has_point s e x) j works stack graph node row name chosen is k

-- the begin that is next is a turn that asks nobody
module _ (s : StateData) (e : ℕ) (w : BeginWork) (b : IsBegin s e w) (p : Prepared) (given : IsBeginPrepared w p) where
  pub begin_made : (made : Result Made Refusal) → IfOk made (IsTurn s e (given_of p)) → IfOk made (IsQuietTurn s e)
  begin_made made ok = IfOk-weaker made _ _ (λ m t. quiet_of s e (given_of p) (quiet_prepared p)
      (tied_turn s e w b p given m.changes m.entries t.turn) m t) ok

  refused_as : (r : Refusal) → IsTurnRefusal s e (given_of p) r → IsQuietRefusal s e r
  refused_as r (step.memory is) = made_as.memory is
  refused_as r (step.worn is wears) =
      refusal_of s e (given_of p) (tied_wearing s e w b p given wears) r (step.worn is wears)

  pub begin_refused : (made : Result Made Refusal) → IfErr made (IsTurnRefusal s e (given_of p))
      → IfErr made (IsQuietRefusal s e)
  begin_refused made err = IfErr-weaker made _ _ refused_as err
