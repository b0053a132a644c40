-- Two steps of one failure, each told by its own answer.
use Rattle.std.proofs.Common.{◌≡◌, ℕ, List, Err, Ok, sym, subst}
use Rattle.std.specs.Prelude.{IfErr, IfOk, Result}
use Rattle.heat_plan.specs.declared.calls.Answered.{Answered}
use Rattle.heat_plan.specs.declared.refusal.Refusal.{Refusal}
use Rattle.row_table.specs.declared.row.Row.{Row}
use Rattle.mail_table.specs.declared.mail.Job.{Job}
use Rattle.mail_table.specs.declared.mail.Stage.TheVariants.{Asking}
use Rattle.core_state.specs.State.{StateData}
use Rattle.core_state.specs.declared.change.Change.{Change}
use Rattle.core_state.specs.declared.entry.Entry.{Entry}
use Rattle.core_state.specs.declared.made.Made.{Made}
use Rattle.step_relation.specs.Given.{Answer}
use Rattle.step_relation.specs.Turns.{IsWorn}
use Rattle.command_steps.specs.Turns.{IsTurn}
use Rattle.step_ends.specs.Answers.{AnswersAsk, CallLasts, IsCall, IsCallRefusal}
use Rattle.step_ends.specs.Falls.{IsFailureBy, IsFallen, OrWorn}
use Rattle.step_ends.specs.Falls.OrWorn.{memory as fall_memory, worn as fall_worn}
use Rattle.step_ends.specs.declared.falling.Failure.{Failure}
use Rattle.step_ends.proofs.Called.{ask_lasts, ask_worn, refuses_ask}
use Rattle.step_ends.proofs.Turns.{ask_turn, told_otherwise}

-- what an answer and a refusal hold
pub ok_at : {T E : Type 0} (r : Result T E) (P : T → Type 0) (x : T) → IfOk r P → r ≡ Ok x → P x
ok_at r P x holds is = subst (λ (q : Result _ _). IfOk q P) is holds

pub err_at : {T E : Type 0} (r : Result T E) (P : E → Type 0) (x : E) → IfErr r P → r ≡ Err x → P x
err_at r P x holds is = subst (λ (q : Result _ _). IfErr q P) is holds

-- one failure's refusal is another's
pub refused_otherwise : (s : StateData) (e : ℕ) (j : Job) (r : Row) (why other : Failure) (refusal : Refusal)
    → OrWorn (IsFallen s e j r other) refusal → OrWorn (IsFallen s e j r why) refusal
refused_otherwise s e j r why other refusal (fall_memory is) = fall_memory is
refused_otherwise s e j r why other refusal (fall_worn is cs es k w) =
    let (fs, q) = told_otherwise s e j r other why cs es k in
    fall_worn is cs fs q w

module _ (s : StateData) (e : ℕ) (j : Job) (r : Row) (given : Answered) (why : Failure) (call : IsCall s e Asking j r)
    (told : IsFailureBy e r given why) where
  pub told_turn_of : (m : Made) → AnswersAsk r.act given → IsFallen s e j r why m.changes m.entries → CallLasts s e
      → IsTurn s e (Answer given) m
  told_turn_of m answers k lasts = record {
    turn = ask_turn s e j r told.asked given why.reason m.changes m.entries call told.asks
        (refuses_ask r told.asked given why.reason answers told.asks told.reason)
        (subst (λ (x : Entry). IsFallen s e j r (record { call = x; reason = why.reason }) m.changes m.entries) told.call k);
    lasts = lasts given;
  }

  pub told_lasts : (cs : List Change) (es : List Entry) → IsFallen s e j r why cs es → ¬ IsWorn cs → CallLasts s e
  told_lasts cs es k unworn = ask_lasts s e j r told.asked why cs es call told.asks k unworn

  pub told_worn : (refusal : Refusal) → AnswersAsk r.act given → OrWorn (IsFallen s e j r why) refusal
      → IsCallRefusal s e refusal
  told_worn refusal answers k =
      ask_worn s e j r told.asked given why.reason refusal call told.asks
      (refuses_ask r told.asked given why.reason answers told.asks told.reason)
      (subst (λ (x : Entry). OrWorn (IsFallen s e j r (record { call = x; reason = why.reason })) refusal) told.call k)
