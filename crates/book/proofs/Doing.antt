-- A command, a stop or an enlisting: what it makes, and what the book keeps through it.
use Rattle.std.proofs.Common.{List, [], ap, append-nil, arith, inl, inr, refl, subst, sym, ℕ, ◌++◌, ◌∙◌, ◌∷◌, ◌≡◌, ◌⊎◌}
use Rattle.std.proofs.lemmas.Result.{IfOk-weaker}
use Rattle.std.specs.Prelude.{Bool, Contains, Err, IfErr, IfOk, None, Ok, Option, Result, ◌+◌, ◌<◌, ◌^◌, ◌≢◌, ◌≤◌}
use Rattle.heat_plan.specs.Plans.{PlanData}
use Rattle.heat_plan.specs.declared.refusal.Refusal.{Refusal}
use Rattle.heat_plan.specs.declared.refusal.Refusal.TheVariants.{DiskFault, Memory}
use Rattle.provider.proofs.Lists.{here}
use Rattle.provider.specs.Cloud.{Cloud}
use Rattle.core_state.specs.Changes.{applied}
use Rattle.core_state.specs.State.{StateData}
use Rattle.core_state.specs.declared.change.Change.{Change}
use Rattle.core_state.specs.declared.change.Change.TheVariants as change_to
use Rattle.core_state.specs.declared.entry.Entry.{Entry}
use Rattle.core_state.specs.declared.made.Made.{Made}
use Rattle.core_state.specs.declared.numbers.Numbers.{Numbers}
use Rattle.step_relation.specs.Orders.{Command}
use Rattle.step_relation.specs.Orders as orders
use Rattle.step_relation.specs.Refusals.{RefusesCancel, RefusesCreate, RefusesDelete, RefusesEnlist, RefusesStop, RefusesUpdate}
use Rattle.step_relation.specs.Runs.{ClosesOnce, IsTiedStep}
use Rattle.step_relation.specs.Steps.{Step}
use Rattle.step_relation.specs.Steps as step
use Rattle.step_relation.specs.Turns.{IsWorn, trav}
use Rattle.history_laws.proofs.tells.Silence.{AreUncalling}
use Rattle.takeover_steps.specs.Engines.{Enlists, Stops}
use Rattle.book.specs.Commands.{IsOrder, Orders, RefusesOrder}
use Rattle.record_keeper.specs.Shown.{ShownKeeper}
use Rattle.workable_laws.proofs.Applied.{steps_apply}
use Rattle.workable_laws.proofs.Keepable.{steps_are_keepable}
use Rattle.book.specs.Keeping.{IsStorable, KeptBy}
use Rattle.book.specs.Kept.{IsKept, calls_of, unjudged}
use Rattle.book.specs.Makings.{Does, DoesSo, MadeAs, MakesAs, done, memory, refused, tried_as, tried_to, unkept}
use Rattle.book.specs.Recording.{StepsTo, none}
use Rattle.book.specs.WorkableOver.{IsWorkable}
use Rattle.book.specs.declared.halting.Halt.{Halt}
use Rattle.book.specs.Makings as made_as
use Rattle.book.specs.Quiet.{Page, page}
use Rattle.book.specs.declared.commanding.StackCommand.TheVariants.{Cancel, Create, Delete, Update}
use Rattle.book.specs.declared.commanding.StackCommand.{StackCommand}
use Rattle.book.proofs.Engined.{AreStill, applied-live, laid_still}
use Rattle.book.proofs.Growing.{grows_silently, stays, unasked}
use Rattle.book.proofs.KeptTurned.{step_to}
use Rattle.book.proofs.Silent.{AreSilent, calls_of-silent, laid_silent, silent_uncalling}
use Rattle.book.proofs.Stepping.{never_fault}

one_refusal : {A : Type 0} (a b : Refusal) → ◌≡◌ {A = Result A Refusal} (Err a) (Err b) → a ≡ b
one_refusal a b is = cc

-- a step that was thought out, as one that was made or refused
module _ {A : Type 0} (Is : List Change → List Entry → Type 0) (Refuses : Refusal → Type 0) (answer : A)
    (made : Result Made Refusal) (s t : StateData) (h i : List Entry) (before after : ShownKeeper) (faults now : ℕ)
    (first : Result (Unit {0}) Refusal) (result : Result A Refusal) where
  pub does_of : IfOk made (λ m. Is m.changes m.entries) → IfErr made (λ r. (r ≡ Memory) ⊎ Refuses r)
      → MakesAs made (page s h) (page t i) before after faults now first
      → made ≢ Err DiskFault
      → (first ≡ Ok tt → result ≡ Ok answer) → ((r : Refusal) → first ≡ Err r → result ≡ Err r)
      → DoesSo Is Refuses answer (page s h) (page t i) before after faults now result
  does_of ok err it honest yes_ no_ = by it.does it.kept where
    as_before : KeptBy before after faults now s t [] (first ≡ Err DiskFault) → ¬ (first ≡ Err DiskFault)
        → ¬ (result ≡ Err DiskFault) → KeptBy before after faults now s t [] (result ≡ Err DiskFault)
    as_before kept well never = record {
      keeps = kept.keeps;
      ready = λ fine. kept.ready well;
      rose = λ f. absurd (never f);
    }

    by_refusal : (r : Refusal) → made ≡ Err r → page t i ≡ page s h → first ≡ Err r
        → KeptBy before after faults now s t [] (first ≡ Err DiskFault) → (r ≡ Memory) ⊎ Refuses r
        → DoesSo Is Refuses answer (page s h) (page t i) before after faults now result
    by_refusal r is same ends kept (inl want) = let ended : result ≡ Err Memory = no_ r ends ∙ ap Err want in record {
      does = made_as.memory same ended;
      kept = as_before kept (never_fault made first r honest is ends) (λ f. let x = sym ended ∙ f in cc);
    }
    by_refusal r is same ends kept (inr why) = record {
      does = made_as.refused r why same (no_ r ends);
      kept = as_before kept (never_fault made first r honest is ends)
          (λ f. honest (is ∙ ap Err (one_refusal r DiskFault (sym (no_ r ends) ∙ f))));
    }

    by : (q : MadeAs made (page s h) (page t i) first)
        → KeptBy before after faults now s t (tried_as q) (first ≡ Err DiskFault)
        → DoesSo Is Refuses answer (page s h) (page t i) before after faults now result
    by (made_as.done m is writes ends) kept = record {
      does = made_as.done m.changes m.entries
          (subst (λ (r : Result Made Refusal). IfOk r (λ m. Is m.changes m.entries)) is ok) writes (yes_ ends);
      kept = record {
        keeps = kept.keeps;
        ready = λ fine. kept.ready (λ f. let x = sym ends ∙ f in cc);
        rose = λ f. let x = sym (yes_ ends) ∙ f in cc;
      };
    }
    by (made_as.refused r is same ends) kept = by_refusal r is same ends kept
        (subst (λ (x : Result Made Refusal). IfErr x (λ r. (r ≡ Memory) ⊎ Refuses r)) is err)
    by (made_as.unkept m is some same ends) kept = record {
      does = made_as.unkept m.changes m.entries
          (subst (λ (r : Result Made Refusal). IfOk r (λ m. Is m.changes m.entries)) is ok) some same
          (no_ DiskFault ends);
      kept = record {
        keeps = kept.keeps;
        ready = λ fine. absurd (fine (no_ DiskFault ends));
        rose = λ f. kept.rose ends;
      };
    }
    by (made_as.memory same ends) kept = let ended : result ≡ Err Memory = no_ Memory ends in record {
      does = made_as.memory same ended;
      kept = as_before kept (λ f. let x = sym ends ∙ f in cc) (λ f. let x = sym ended ∙ f in cc);
    }

-- a step that calls nobody
pub record IsSilentStep (s : StateData) (cs : List Change) (es : List Entry) : Type 0 where
  pub it : Step s cs es
  pub tied : IsTiedStep unjudged s cs es it
  pub once : (h : List Entry) → ClosesOnce h s cs es it
  pub silent : AreUncalling es
  pub asks : calls_of es ≡ []

pub stop_step : (s : StateData) (e : ℕ) (cs : List Change) (es : List Entry) → Stops s e cs es → IsSilentStep s cs es
stop_step s e cs es k = record {
  it = step.stop e k.live k.changes k.entries;
  tied = tt;
  once = λ h. tt;
  silent = subst AreUncalling (sym k.entries) (tt, tt);
  asks = ap calls_of k.entries;
}

pub enlist_step : (s : StateData) (cs : List Change) (es : List Entry) → Enlists s cs es → IsSilentStep s cs es
enlist_step s cs es k = record {
  it = step.enlist k.few k.below k.changes k.entries;
  tied = tt;
  once = λ h. tt;
  silent = subst AreUncalling (sym k.entries) (tt, tt);
  asks = ap calls_of k.entries;
}

command_silent : (s : StateData) (cs : List Change) (es : List Entry) → Command s cs es → AreSilent es
command_silent s cs es (orders.create name plan rollback k proper absent few room c d) = subst AreSilent (sym d)
    (laid_silent s _ _ _ k)
command_silent s cs es (orders.update st plan rollback k proper found kept room c d) = subst AreSilent (sym d)
    (laid_silent s _ _ _ k)
command_silent s cs es (orders.delete st k found c d) = subst AreSilent (sym d) (laid_silent s _ _ _ k)
command_silent s cs es (orders.cancel st k found forward running room c d) = subst AreSilent (sym d)
    (laid_silent s _ _ _ k)

pub order_step : (s : StateData) (c : StackCommand) (cs : List Change) (es : List Entry) → Orders s c cs es
    → IsSilentStep s cs es
order_step s c cs es k = record {
  it = step.command k.command k.lasts;
  tied = tt;
  once = λ h. tt;
  silent = silent_uncalling es (command_silent s cs es k.command);
  asks = calls_of-silent es (command_silent s cs es k.command);
}

module _ (first : StateData) (origin : Cloud) where
  -- what a book keeps, through such a step or a refusal
  pub kept_done : {A : Type 0} (s t : StateData) (h i : List Entry) (c : Cloud) (halt : Option Halt)
      (Is : List Change → List Entry → Type 0) (Refuses : Refusal → Type 0)
      (answer : A) (result : Result A Refusal) → IsKept first origin s h c None →
      ((cs : List Change) (es : List Entry) → Is cs es → IsSilentStep s cs es)
      → Does Is Refuses answer (page s h) (page t i) result → IsKept first origin t i c halt
  kept_done s t h i c halt Is Refuses answer result kept steps (done cs es is writes ends) =
      let k = steps cs es is in
      grows_silently first origin s t h i es cs c c halt kept k.it k.tied (k.once h) k.silent k.asks writes.state
      writes.entries (unasked c)
  kept_done s t h i c halt Is Refuses answer result kept steps (refused r why same ends) =
      stays first origin s t h i c c halt kept (ap (λ (p : Page). p.state) same) (ap (λ (p : Page). p.entries) same)
      (unasked c)
  kept_done s t h i c halt Is Refuses answer result kept steps (unkept cs es is some same ends) =
      stays first origin s t h i c c halt kept (ap (λ (p : Page). p.state) same) (ap (λ (p : Page). p.entries) same)
      (unasked c)
  kept_done s t h i c halt Is Refuses answer result kept steps (memory same ends) =
      stays first origin s t h i c c halt kept (ap (λ (p : Page). p.state) same) (ap (λ (p : Page). p.entries) same)
      (unasked c)

-- what was told, or would have been
abbrev pub told_to : {A : Type 0} {Is : List Change → List Entry → Type 0} {Refuses : Refusal → Type 0} {answer : A}
    {old new : Page} {result : Result A Refusal} → Does Is Refuses answer old new result → List Entry
told_to (done cs es it writes ends) = es
told_to (refused r why same ends) = []
told_to (unkept cs es it some same ends) = es
told_to (memory same ends) = []

module _ {A : Type 0} (Is : List Change → List Entry → Type 0) (Refuses : Refusal → Type 0) (answer : A)
    (s t : StateData) (h i : List Entry) (result : Result A Refusal)
    (steps : (cs : List Change) (es : List Entry) → Is cs es → IsSilentStep s cs es) where
  pub done_step : (it : Does Is Refuses answer (page s h) (page t i) result)
      → StepsTo h s (applied (tried_to it) s) (told_to it)
  done_step (done cs es is writes ends) = let k = steps cs es is in step_to h s cs es k.it k.tied (k.once h)
  done_step (refused r why same ends) = none refl refl
  done_step (unkept cs es is some same ends) = let k = steps cs es is in step_to h s cs es k.it k.tied (k.once h)
  done_step (memory same ends) = none refl refl

  pub done_state : (it : Does Is Refuses answer (page s h) (page t i) result) → result ≢ Err DiskFault
      → t ≡ applied (tried_to it) s
  done_state (done cs es is writes ends) fine = writes.state
  done_state (refused r why same ends) fine = ap (λ (p : Page). p.state) same
  done_state (unkept cs es is some same ends) fine = absurd (fine ends)
  done_state (memory same ends) fine = ap (λ (p : Page). p.state) same

  pub done_told : (it : Does Is Refuses answer (page s h) (page t i) result) → result ≢ Err DiskFault
      → i ≡ h ++ told_to it
  done_told (done cs es is writes ends) fine = writes.entries
  done_told (refused r why same ends) fine = ap (λ (p : Page). p.entries) same ∙ sym (append-nil h)
  done_told (unkept cs es is some same ends) fine = absurd (fine ends)
  done_told (memory same ends) fine = ap (λ (p : Page). p.entries) same ∙ sym (append-nil h)

  pub done_silent : (it : Does Is Refuses answer (page s h) (page t i) result) → AreUncalling (told_to it)
  done_silent (done cs es is writes ends) = (steps cs es is).silent
  done_silent (refused r why same ends) = tt
  done_silent (unkept cs es is some same ends) = (steps cs es is).silent
  done_silent (memory same ends) = tt

-- its changes may be kept
pub made_storable : (s : StateData) → IsWorkable s → (Is : List Change → List Entry → Type 0) (made : Result Made Refusal)
    → ((cs : List Change) (es : List Entry) → Is cs es → IsSilentStep s cs es)
    → IfOk made (λ m. Is m.changes m.entries) → IfOk made (λ m. IsStorable s m.changes)
made_storable s x Is made steps ok = IfOk-weaker made _ _ (λ m is. by m.changes m.entries (steps m.changes m.entries is)) ok
  where
    by : (cs : List Change) (es : List Entry) → IsSilentStep s cs es → IsStorable s cs
    by cs es k = record {
      applies = steps_apply x.opening x.history s cs es x.workable k.it;
      keepable = steps_are_keepable x.opening x.history s cs es x.workable k.it;
    }

-- and it isn't refused for a fault of the keeper
pub made_honest : (Refuses : Refusal → Type 0) (made : Result Made Refusal) → IfErr made (λ r. (r ≡ Memory) ⊎ Refuses r)
    → ¬ Refuses DiskFault → made ≢ Err DiskFault
made_honest Refuses made err never is =
    by (subst (λ (x : Result Made Refusal). IfErr x (λ r. (r ≡ Memory) ⊎ Refuses r)) is err) where
      by : ¬ ((DiskFault ≡ Memory) ⊎ Refuses DiskFault)
      by (inl no_) = cc
      by (inr yes_) = never yes_

pub stop_honest : (s : StateData) (e : ℕ) → ¬ RefusesStop s e DiskFault
stop_honest s e k = elim k [ ]

pub enlist_honest : (s : StateData) → ¬ RefusesEnlist s DiskFault
enlist_honest s k = elim k [ ]

create_honest : (s : StateData) (name : List ℕ) (plan : PlanData) (rollback : Bool)
    → ¬ RefusesCreate s name plan rollback DiskFault
create_honest s name plan rollback k = elim k [ ]

update_honest : (s : StateData) (name : List ℕ) (plan : PlanData) (rollback : Bool)
    → ¬ RefusesUpdate s name plan rollback DiskFault
update_honest s name plan rollback k = elim k [ ]

delete_honest : (s : StateData) (name : List ℕ) → ¬ RefusesDelete s name DiskFault
delete_honest s name k = elim k [ ]

cancel_honest : (s : StateData) (name : List ℕ) → ¬ RefusesCancel s name DiskFault
cancel_honest s name k = elim k [ ]

pub order_honest : (s : StateData) (c : StackCommand) → ¬ RefusesOrder s c DiskFault
order_honest s (Create name plan rollback) k = create_honest s name plan rollback k
order_honest s (Update name plan rollback) k = update_honest s name plan rollback k
order_honest s (Delete name) k = delete_honest s name k
order_honest s (Cancel name) k = cancel_honest s name k

-- the same said in other words
pub does_weaker : {A : Type 0} (Is Other : List Change → List Entry → Type 0) (Refuses Why : Refusal → Type 0)
    (answer : A) (old new : Page) (result : Result A Refusal)
    → ((cs : List Change) (es : List Entry) → Is cs es → Other cs es) → ((r : Refusal) → Refuses r → Why r)
    → Does Is Refuses answer old new result → Does Other Why answer old new result
does_weaker Is Other Refuses Why answer old new result step why (done cs es is writes ends) = done cs es
    (step cs es is) writes ends
does_weaker Is Other Refuses Why answer old new result step why (refused r is same ends) = refused r
    (why r is) same ends
does_weaker Is Other Refuses Why answer old new result step why (unkept cs es is some same ends) = unkept cs es
    (step cs es is) some same ends
does_weaker Is Other Refuses Why answer old new result step why (memory same ends) = memory same ends

-- which case of a command it was
pub ordered_as : (s : StateData) (c d : StackCommand) (answer : ℕ) (old new : Page) (result : Result ℕ Refusal) → c ≡ d
    → Does (Orders s c) (RefusesOrder s c) answer old new result → Does (IsOrder s d)
    (RefusesOrder s d) answer old new result
ordered_as s c d answer old new result is h =
    does_weaker (Orders s d) (IsOrder s d) (RefusesOrder s d) (RefusesOrder s d) answer old new result
    (λ cs es k. k.its) (λ r k. k)
    (subst (λ (x : StackCommand). Does (Orders s x) (RefusesOrder s x) answer old new result) is h)

command_still : (s : StateData) (cs : List Change) (es : List Entry) → Command s cs es → AreStill cs
command_still s cs es (orders.create name plan rollback k proper absent few room c d) = subst AreStill (sym c)
    (laid_still s _ _ _ k)
command_still s cs es (orders.update st plan rollback k proper found kept room c d) = subst AreStill (sym c)
    (laid_still s _ _ _ k)
command_still s cs es (orders.delete st k found c d) = subst AreStill (sym c) (laid_still s _ _ _ k)
command_still s cs es (orders.cancel st k found forward running room c d) = subst AreStill (sym c)
    (laid_still s _ _ _ k)

-- no command changes which engines are live
pub ordered_live : (s t : StateData) (h i : List Entry) (c : StackCommand) (answer : ℕ) (result : Result ℕ Refusal)
    → Does (Orders s c) (RefusesOrder s c) answer (page s h) (page t i) result → t.live ≡ s.live
ordered_live s t h i c answer result (done cs es is writes ends) =
    ap (λ (x : StateData). x.live) writes.state ∙ applied-live cs s (command_still s cs es is.command)
ordered_live s t h i c answer result (refused r why same ends) = ap (λ (p : Page). p.state.live) same
ordered_live s t h i c answer result (unkept cs es is some same ends) = ap (λ (p : Page). p.state.live) same
ordered_live s t h i c answer result (memory same ends) = ap (λ (p : Page). p.state.live) same

-- what each command makes wears nothing out
unworn_order : (s : StateData) (c : StackCommand) (cs : List Change) (es : List Entry) → IsOrder s c cs es → ¬ IsWorn cs
unworn_order s (Create name plan rollback) cs es k = k.laying.unworn
unworn_order s (Update name plan rollback) cs es k = k.laying.unworn
unworn_order s (Delete name) cs es k = k.laying.unworn
unworn_order s (Cancel name) cs es k = k.laying.unworn

-- a command's case, as that of the command that was given
pub ordered : (s : StateData) (c d : StackCommand) (made : Result Made Refusal) → c ≡ d → IfOk made
    (λ m. IsOrder s d m.changes m.entries)
    → IfOk made (λ m. Command s m.changes m.entries) → IfOk made (λ m. Orders s c m.changes m.entries)
ordered s c d (Ok m) is its command = record {
  its = subst (λ (x : StackCommand). IsOrder s x m.changes m.entries) (sym is) its;
  command = command;
  lasts = unworn_order s d m.changes m.entries its;
}
ordered s c d (Err r) is its command = tt

pub refuses : (s : StateData) (c d : StackCommand) (made : Result Made Refusal) → c ≡ d → IfErr made
    (λ r. (r ≡ Memory) ⊎ RefusesOrder s d r)
    → IfErr made (λ r. (r ≡ Memory) ⊎ RefusesOrder s c r)
refuses s c d made is err = subst (λ (x : StackCommand). IfErr made (λ r. (r ≡ Memory) ⊎ RefusesOrder s x r))
    (sym is) err

-- the traversal that it draws is below 2^62
pub drawn_below : (s : StateData) (c : StackCommand) (cs : List Change) (es : List Entry) → Orders s c cs es
    → s.next.trav < 2 ^ 62
drawn_below s c cs es k = by k.command where
  first : (next : Numbers) (rest : List Change) → cs ≡ change_to.Numbers next ∷ rest → next.trav ≡ s.next.trav + 1
      → s.next.trav < 2 ^ 62
  first next rest is drawn = below s.next.trav next.trav drawn (λ over. k.lasts (record {
    change = change_to.Numbers next;
    among = subst (λ (xs : List Change). Contains xs (change_to.Numbers next)) (sym is)
        (here (change_to.Numbers next) (change_to.Numbers next) rest refl);
    overflows = trav next over;
  })) where
    below : (a b : ℕ) → b ≡ a + 1 → ¬ (2 ^ 62 < b) → a < 2 ^ 62
    below a b is_b most = omega (arith, is_b, most)

  by : Command s cs es → s.next.trav < 2 ^ 62
  by (orders.create name plan rollback q proper absent few room c_ d) = first _ _ c_ refl
  by (orders.update st plan rollback q proper found kept room c_ d) = first _ _ c_ refl
  by (orders.delete st q found c_ d) = first _ _ c_ refl
  by (orders.cancel st q found forward running room c_ d) = first _ _ c_ refl

-- a step that was made was one that could be
pub made_below : (Is : List Change → List Entry → Type 0) (bound : Type 0) (made : Result Made Refusal)
    (old new : Page) (first : Result (Unit {0}) Refusal)
    → ((cs : List Change) (es : List Entry) → Is cs es → bound) → IfOk made (λ m. Is m.changes m.entries)
    → MadeAs made old new first → first ≡ Ok tt → bound
made_below Is bound made old new first low ok (made_as.done m is writes ends) yes_ =
    low m.changes m.entries (subst (λ (r : Result Made Refusal). IfOk r (λ m. Is m.changes m.entries)) is ok)
made_below Is bound made old new first low ok (made_as.refused r is same ends) yes_ = cc
made_below Is bound made old new first low ok (made_as.unkept m is some same ends) yes_ = cc
made_below Is bound made old new first low ok (made_as.memory same ends) yes_ = cc

-- an answer is one of the two
pub not_both : {A E : Type 0} (x : Result A E) (a : A) (r : E) → x ≡ Ok a → x ≡ Err r → ⊥
not_both x a r yes_ no_ = cc

pub same_refusal : {A : Type 0} (x : Result A Refusal) (a b : Refusal) → x ≡ Err a → x ≡ Err b → a ≡ b
same_refusal x a b h i = cc

-- a number in range is one
pub no_number : (got next : ℕ) → got ≡ next → 0 < next → next < 2 ^ 62 → ((1 ≤ got) × (got < 2 ^ 62) → ⊥) → ⊥
no_number got next is some below none_ = none_ (omega (arith, is, some), omega (arith, is, below))
