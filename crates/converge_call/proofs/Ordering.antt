-- What a call of the book that makes one step came to, and the note of its refusal.
use Rattle.std.proofs.Common.{◌≡◌, ◌⊎◌, inl, inr, ◌++◌, ℕ, List, [], Some, None, refl, sym, ap, ◌∙◌, subst, Result, Ok, Err}
use Rattle.std.specs.Prelude.{Bool}
use Rattle.heat_plan.specs.Plans.{PlanData}
use Rattle.heat_plan.specs.Refusals.{code_of}
use Rattle.heat_plan.specs.declared.refusal.Refusal.{Refusal}
use Rattle.heat_plan.specs.declared.refusal.Refusal.TheVariants as refusal
use Rattle.core_state.specs.declared.change.Change.{Change}
use Rattle.core_state.specs.declared.entry.Entry.{Entry}
use Rattle.core_state.specs.State.{StateData}
use Rattle.step_relation.specs.Refusals.{RefusesCancel, RefusesCreate, RefusesDelete, RefusesUpdate}
use Rattle.command_steps.specs.Answers.{Cancels, Creates, Deletes, Updates}
use Rattle.template_plans.specs.Faults.{fault_code}
use Rattle.template_plans.specs.declared.fault.PlanFault.{PlanFault}
use Rattle.template_plans.specs.declared.fault.PlanFault.TheVariants as fault
use Rattle.script_lines.specs.Misreads.{misread_code}
use Rattle.script_lines.specs.declared.misread.Misread.{Misread}
use Rattle.script_lines.specs.declared.misread.Misread.TheVariants as misread
use Rattle.driver.specs.Commands.{IsOrder, RefusesOrder}
use Rattle.driver.specs.Makings.{Does}
use Rattle.driver.specs.Makings as makings
use Rattle.driver.specs.Quiet.{Page}
use Rattle.driver.specs.declared.StackCommand.{StackCommand}
use Rattle.driver.specs.declared.StackCommand.TheVariants as order
use Rattle.converge_call.specs.declared.exit.Exit.{Exit}
use Rattle.converge_call.specs.declared.exit.Exit.TheVariants as exit
use Rattle.converge_call.specs.Notes.{IsUnkept, HasDone, did}
use Rattle.converge_call.specs.Commands.{StepDoes, IsRefusedFor, IsUnmadeFor, exit_unmade, made, not_made, uncoded, unnoted}
use Rattle.converge_call.proofs.Noting.{append-none, done_as, done_over, undone_unkept}

-- what has a code isn't without one
coded : (number : ℕ) (r : Refusal) (old new : StateData) (es : List Entry) → IsRefusedFor number r old new es
    → code_of r ≡ None → ⊥
coded number r old new es it none = let is : Some it.code ≡ None = sym it.its_code ∙ none in cc

err_is : {A : Type 0} (r s : Refusal) → ◌≡◌ {A = Result A Refusal} (Err r) (Err s) → r ≡ s
err_is r s same = cc

unmade_is : (r : Refusal) → (exit_unmade r ≡ exit.Memory) ⊎ (exit_unmade r ≡ exit.DiskFault)
unmade_is refusal.StackExists = inl refl
unmade_is refusal.NoStack = inl refl
unmade_is refusal.Deleting = inl refl
unmade_is refusal.TooManyStacks = inl refl
unmade_is refusal.TooManyRows = inl refl
unmade_is refusal.Worn = inl refl
unmade_is refusal.NoEngine = inl refl
unmade_is refusal.TooManyEngines = inl refl
unmade_is refusal.NotRunning = inl refl
unmade_is refusal.DiskFault = inr refl
unmade_is refusal.Memory = inl refl

-- what has no code is want of memory, or a fault of the keeper
unmade_unkept : (r : Refusal) (old new : StateData) (es : List Entry) (why : Exit) → IsUnmadeFor r old new es why
    → IsUnkept old new es why
unmade_unkept r old new es why (unnoted un) = undone_unkept old new es why un
unmade_unkept r old new es why (uncoded none state empty is) = record {
  state = state;
  none = empty;
  cause = elim (unmade_is r) [ inl memory ↦ inl (is ∙ memory) | inr fault ↦ inr (is ∙ fault) ];
}

module _ {A : Type 0} (number : ℕ) (Is : List Change → List Entry → Type 0) (Refuses : Refusal → Type 0) (answer : A)
    (old mid new : Page)
    (result : Result (Unit {0}) Exit) where
  -- what a step that was made, or its refusal, came to, as what a line does
  abbrev Done : (StateData → StateData → List Entry → Type 0) → Type 0
  Done D = HasDone D IsUnkept old new result

  pub step_done : (D : StateData → StateData → List Entry → Type 0)
      → ((es : List Entry) → StepDoes number Is Refuses old.state new.state es → D old.state new.state es)
      → (given : A) → Does Is Refuses answer old new (Ok given) → result ≡ Ok tt → Done D
  step_done D turns given (makings.done cs es it writes is) went =
      did es (turns es (made cs it writes.state)) writes.entries went
  step_done D turns given (makings.refused r cause same is) went = cc
  step_done D turns given (makings.unkept cs es it some same is) went = cc
  step_done D turns given (makings.memory same is) went = cc

  pub step_refused : (D : StateData → StateData → List Entry → Type 0)
      → ((es : List Entry) → StepDoes number Is Refuses old.state new.state es → D old.state new.state es)
      → (r : Refusal) → Does Is Refuses answer old mid (Err r)
      → HasDone (IsRefusedFor number r) (IsUnmadeFor r) mid new result → Done D
  step_refused D turns r does note = by does where
    -- over the page that the call hasn't changed
    over : mid ≡ old
        → ((es : List Entry) → IsRefusedFor number r old.state new.state es → D old.state new.state es) → Done D
    over same as_step =
        done_as (IsRefusedFor number r) D (IsUnmadeFor r) IsUnkept old new result as_step
        (unmade_unkept r old.state new.state)
        (done_over (IsRefusedFor number r) (IsUnmadeFor r) old mid new result same note)

    by : Does Is Refuses answer old mid (Err r) → Done D
    by (makings.done cs es it writes is) = cc
    by (makings.refused s cause same is) =
        let one : s ≡ r = sym (err_is r s is) in
        over same (λ es noted. turns es (not_made r (subst Refuses one cause) noted))
    by (makings.unkept cs es it some same is) =
        over same (λ fs noted. absurd (coded number r old.state new.state fs noted
        (ap code_of (err_is r refusal.DiskFault is))))
    by (makings.memory same is) =
        over same (λ es noted. absurd (coded number r old.state new.state es noted
        (ap code_of (err_is r refusal.Memory is))))

-- what such a call adds
pub does_grows : {A : Type 0} (Is : List Change → List Entry → Type 0) (Refuses : Refusal → Type 0) (answer : A)
    (old new : Page) (result : Result A Refusal) → Does Is Refuses answer old new result
    → (es : List Entry) × (new.entries ≡ old.entries ++ es)
does_grows Is Refuses answer old new result (makings.done cs es it writes is) = (es, writes.entries)
does_grows Is Refuses answer old new result (makings.refused r cause same is) =
    ([], ap (λ (p : Page). p.entries) same ∙ sym (append-none old.entries))
does_grows Is Refuses answer old new result (makings.unkept cs es it some same is) =
    ([], ap (λ (p : Page). p.entries) same ∙ sym (append-none old.entries))
does_grows Is Refuses answer old new result (makings.memory same is) =
    ([], ap (λ (p : Page). p.entries) same ∙ sym (append-none old.entries))

-- a call of a command, whichever it is
pub ordered : (old new : Page) (c : StackCommand) (result : Result ℕ Refusal)
    → ((name : List ℕ) (plan : PlanData) (rollback : Bool) → c ≡ order.Create name plan rollback
    → Does (Creates old.state name plan rollback)
    (RefusesCreate old.state name plan rollback) old.state.next.trav old new result)
    → ((name : List ℕ) (plan : PlanData) (rollback : Bool) → c ≡ order.Update name plan rollback
    → Does (Updates old.state name plan rollback)
    (RefusesUpdate old.state name plan rollback) old.state.next.trav old new result)
    → ((name : List ℕ) → c ≡ order.Delete name
    → Does (Deletes old.state name) (RefusesDelete old.state name) old.state.next.trav old new result)
    → ((name : List ℕ) → c ≡ order.Cancel name
    → Does (Cancels old.state name) (RefusesCancel old.state name) old.state.next.trav old new result)
    → Does (IsOrder old.state c) (RefusesOrder old.state c) old.state.next.trav old new result
ordered old new (order.Create name plan rollback) result created updated deleted cancelled =
    created name plan rollback refl
ordered old new (order.Update name plan rollback) result created updated deleted cancelled =
    updated name plan rollback refl
ordered old new (order.Delete name) result created updated deleted cancelled = deleted name refl
ordered old new (order.Cancel name) result created updated deleted cancelled = cancelled name refl

-- a fault with a code is no want of memory
pub plan_fault_told : (why : PlanFault) (code : List ℕ) → fault_code why ≡ Some code → why ≡ fault.Memory → ⊥
plan_fault_told why code its same = let none : Some code ≡ None = sym its ∙ ap fault_code same in cc

pub misread_told : (why : Misread) (code : List ℕ) → misread_code why ≡ Some code → why ≡ misread.Memory → ⊥
misread_told why code its same = let none : Some code ≡ None = sym its ∙ ap misread_code same in cc
