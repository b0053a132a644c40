-- What a mark tells: the stack that it leaves, or that it is gone.
use Rattle.std.proofs.Common.{ap, append_assoc, inl, inr, refl, subst, sym, ◌∙◌}
use Rattle.std.proofs.lemmas.Bool.Decides.{Decides-eqb}
use Rattle.std.proofs.lemmas.Slice.Eq.{bytes_eq-Decides}
use Rattle.std.specs.Prelude.{List, None, Option, Some, [], bytes_eq, option_map, true, ℕ, ◌++◌, ◌==◌, ◌∷◌, ◌≡◌, ◌≢◌}
use Rattle.heat_plan.specs.Plans.{PlanData}
use Rattle.heat_plan.specs.declared.phase.Act.{Act}
use Rattle.heat_plan.specs.declared.phase.Act.TheVariants.{Create, Delete, Init, Rollback, Update}
use Rattle.heat_plan.specs.declared.phase.Status.{Status}
use Rattle.heat_plan.specs.declared.phase.Status.TheVariants.{Complete, Failed, InProgress}
use Rattle.step_relation.specs.State.{StateData, cut_past, cut_stack, past_at, put_stack, stack_at}
use Rattle.step_relation.specs.declared.Actor.{Actor}
use Rattle.step_relation.specs.declared.Cause.{Cause}
use Rattle.step_relation.specs.declared.Entry.{Entry}
use Rattle.step_relation.specs.declared.Past.{Past}
use Rattle.step_relation.specs.declared.Stack.{Stack}
use Rattle.step_relation.specs.Freshness.{plan_of}
use Rattle.step_relation.specs.Orders.{back_after, past_of}
use Rattle.step_relation.specs.Writes.{complete_mark, entry_of}
use Rattle.step_relation.specs.Last.{IsLast}
use Rattle.step_relation.specs.Marked.{Completed, FailedFor, Marked, mark_by_cause, marked_by, marked_of}
use Rattle.step_relation.specs.Newest.{latest_of}
use Rattle.step_relation.specs.Opening.{Opening}
use Rattle.history_laws.specs.tables.Below.{IsGone, deleted, TellsStack, deleted}
use Rattle.history_laws.proofs.tables.Rows.{past_kept, stack-key, stack_cut, stack_else, stack_here, stack_kept, stack_put}
use Rattle.history_laws.proofs.tables.Rows.{text_or_not}
use Rattle.history_laws.proofs.tells.Appends.{marked-append, newest-append, rollback-append}
use Rattle.history_laws.proofs.tells.Beside.{IsBeside, beside_mark, beside_silent, gone_beside, passing_failed, past_same}
use Rattle.history_laws.proofs.tells.Beside.{stack_beside}
use Rattle.history_laws.proofs.tells.Lasts.{last_kept}
use Rattle.history_laws.proofs.tells.Newests.{last_completed}
use Rattle.history_laws.proofs.tells.Silence.{AreUnmarking}
use Rattle.step_relation.specs.declared.What.TheVariants as what

-- what a history tells of stacks and of names without one
pub record StacksTold (o : Opening) (h : List Entry) (s : StateData) : Type 0 where
  pub stacks : (name : List ℕ) (st : Stack) → stack_at s.stacks name ≡ Some st → TellsStack o h s st
  pub gone : (name : List ℕ) → stack_at s.stacks name ≡ None → IsGone o h name

-- the marks that a step made, and the stacks that it left
pub data MarkMade (s t : StateData) (es : List Entry) : Type 0 where
  unmade : es ≡ [] → t.stacks ≡ s.stacks → t.pasts ≡ s.pasts → MarkMade s t es
  fails : (actor : Actor) (st : Stack) (cause : Cause) → stack_at s.stacks st.name ≡ Some st → st.status ≡ InProgress
      → es ≡ entry_of actor (what.Mark st.name st.trav st.act (Some cause)) ∷ []
      → t.stacks ≡ put_stack (record st { status = Failed }) s.stacks → t.pasts ≡ s.pasts → MarkMade s t es
  completes : (actor : Actor) (st : Stack) → stack_at s.stacks st.name ≡ Some st → st.status ≡ InProgress
      → st.act ≢ Delete
      → es ≡ complete_mark actor st ∷ []
      → t.stacks ≡ put_stack (record st { status = Complete }) s.stacks → t.pasts ≡ s.pasts → MarkMade s t es
  deletes : (actor : Actor) (st : Stack) → stack_at s.stacks st.name ≡ Some st → st.status ≡ InProgress
      → st.act ≡ Delete → st.plan ≡ None
      → es ≡ complete_mark actor st ∷ []
      → t.stacks ≡ cut_stack st.name s.stacks → t.pasts ≡ cut_past st.name s.pasts → MarkMade s t es

back_progress : (st : Stack) (p : Past) → st.status ≡ InProgress → back_after st p ≡ p.back
back_progress st p is = subst (λ (x : Status). back_after (record st { status = x }) p ≡ p.back) (sym is) refl

back_complete : (st : Stack) (p : Past) → st.act ≢ Delete → back_after (record st { status = Complete }) p ≡ st.plan
back_complete st p ne = by st.act ne where
  by : (a : Act) → a ≢ Delete → back_after (record st { status = Complete; act = a }) p ≡ st.plan
  by Delete n = absurd (n refl)
  by Init n = refl
  by Create n = refl
  by Update n = refl
  by Rollback n = refl

pub marked_own : (name : List ℕ) (trav : ℕ) (act : Act) (cause : Option Cause) (b : Option Marked) (m : Marked)
    → b ≡ Some m
    → m.trav ≡ trav → marked_by name b (what.Mark name trav act cause) ≡ Some
    (record { trav = trav; mark = mark_by_cause cause })
marked_own name trav act cause b m is same =
    let own : bytes_eq name name ≡ true = (bytes_eq-Decides name name).1 refl in
    let again : (m.trav == trav) ≡ true = (Decides-eqb m.trav trav).1 same in
    rw (own, is, again) refl

module _ (o : Opening) (h : List Entry) (s t : StateData) (told : StacksTold o h s) where
  silent_told : (es : List Entry) → AreUnmarking es → t.stacks ≡ s.stacks → t.pasts ≡ s.pasts
      → StacksTold o (h ++ es) t
  silent_told es silent stacks pasts = record {
    stacks = λ name st at. let was = subst (λ (x : List Stack). stack_at x name ≡ Some st) stacks at in
        stack_beside o h es s t st (beside_silent st.name es silent) (ap (λ (x : List Past). past_at x st.name) pasts)
        (told.stacks name st was);
    gone = λ name none. gone_beside o h es s t name (beside_silent name es silent)
        (told.gone name (subst (λ (x : List Stack). stack_at x name ≡ None) stacks none));
  }

  -- a stack was put in the place of one of its name
  pub put_told : (es : List Entry) (q : Stack) → ((name : List ℕ) → q.name ≢ name → IsBeside name es)
      → t.stacks ≡ put_stack q s.stacks → ((name : List ℕ) → q.name ≢ name
      → past_at t.pasts name ≡ past_at s.pasts name)
      → TellsStack o (h ++ es) t q → StacksTold o (h ++ es) t
  put_told es q beside stacks pasts own = record { stacks = each; gone = gone } where
    each : (name : List ℕ) (st : Stack) → stack_at t.stacks name ≡ Some st → TellsStack o (h ++ es) t st
    each name st at = elim (stack_put q s.stacks (subst (λ (x : List Stack). stack_at x name ≡ Some st) stacks at)) [
      | inl is ↦ subst (λ (x : Stack). TellsStack o (h ++ es) t x) is.1 own
      | inr other ↦ let key = stack-key s.stacks name st other.1 in
          let ne : q.name ≢ st.name = λ e. other.0 (e ∙ key) in
          stack_beside o h es s t st (beside st.name ne) (pasts st.name ne) (told.stacks name st other.1)
    ]

    gone : (name : List ℕ) → stack_at t.stacks name ≡ None → IsGone o (h ++ es) name
    gone name none =
        let none_put : stack_at (put_stack q s.stacks) name ≡ None =
        subst (λ (x : List Stack). stack_at x name ≡ None) stacks none in
        elim (text_or_not q.name name) [
          | inl is ↦ let here_ : stack_at (put_stack q s.stacks) name ≡ Some q =
              subst (λ (x : List ℕ). stack_at (put_stack q s.stacks) x ≡ Some q) is (stack_here q s.stacks) in cc
          | inr ne ↦ gone_beside o h es s t name (beside name ne)
              (told.gone name (sym (stack_else q s.stacks name ne) ∙ none_put))
        ]

  module _ (actor : Actor) (st : Stack) (found : stack_at s.stacks st.name ≡ Some st)
      (progress : st.status ≡ InProgress) where
    was_told : TellsStack o h s st
    was_told = told.stacks st.name st found

    failed_told : (cause : Cause) → t.stacks ≡ put_stack (record st { status = Failed }) s.stacks → t.pasts ≡ s.pasts
        → StacksTold o (h ++ entry_of actor (what.Mark st.name st.trav st.act (Some cause)) ∷ []) t
    failed_told cause stacks pasts =
        let e : Entry = entry_of actor (what.Mark st.name st.trav st.act (Some cause)) in
        let past = past_same s t st.name (ap (λ (x : List Past). past_at x st.name) pasts) in
        put_told (e ∷ []) (record st { status = Failed }) (λ name ne. beside_mark name st.name actor st.trav st.act
        (Some cause) ne)
        stacks (λ name ne. ap (λ (x : List Past). past_at x name) pasts) (record {
          traversal = newest-append o h (e ∷ []) st.name ∙ was_told.traversal;
          marked = record { trav = st.trav; mark = FailedFor (Some cause) };
          is_marked = marked-append o h (e ∷ []) st.name
              ∙ marked_own st.name st.trav st.act (Some cause)
              (marked_of o h st.name) was_told.marked was_told.is_marked was_told.trav;
          trav = refl;
          status = refl;
          rollback = rollback-append o h (e ∷ []) st.name ∙ (was_told.rollback
              ∙ ap (λ (x : Past). x.rollback) (sym past));
          last = λ keeps. last_kept o h (e ∷ []) st.name _ (passing_failed st.name actor st.trav st.act cause)
              (subst (λ (x : Option PlanData). IsLast o h st.name (plan_of x))
              (back_progress st (past_of s st.name) progress ∙ ap (λ (x : Past). x.back) (sym past))
              (was_told.last keeps));
        })

    completed_told : st.act ≢ Delete → t.stacks ≡ put_stack (record st { status = Complete }) s.stacks
        → t.pasts ≡ s.pasts
        → StacksTold o (h ++ complete_mark actor st ∷ []) t
    completed_told keep stacks pasts =
        let e : Entry = complete_mark actor st in
        let past = past_same s t st.name (ap (λ (x : List Past). past_at x st.name) pasts) in
        put_told (e ∷ []) (record st { status = Complete })
        (λ name ne. beside_mark name st.name actor st.trav st.act None ne)
        stacks (λ name ne. ap (λ (x : List Past). past_at x name) pasts) (record {
          traversal = newest-append o h (e ∷ []) st.name ∙ was_told.traversal;
          marked = record { trav = st.trav; mark = Completed };
          is_marked = marked-append o h (e ∷ []) st.name
              ∙ marked_own st.name st.trav st.act None (marked_of o h st.name) was_told.marked was_told.is_marked
              was_told.trav;
          trav = refl;
          status = refl;
          rollback = rollback-append o h (e ∷ []) st.name ∙ (was_told.rollback
              ∙ ap (λ (x : Past). x.rollback) (sym past));
          last = λ keeps. subst (λ (x : Option PlanData). IsLast o (h ++ e ∷ []) st.name (plan_of x))
              (sym (back_complete st (past_of t st.name) keep))
              (last_completed o h st.name (latest_of st) e was_told.traversal keep (st.act, refl));
        })

    abbrev ending : Entry
    ending = complete_mark actor st

    deleted_told : st.act ≡ Delete → st.plan ≡ None → t.stacks ≡ cut_stack st.name s.stacks
        → t.pasts ≡ cut_past st.name s.pasts
        → StacksTold o (h ++ complete_mark actor st ∷ []) t
    deleted_told act plan stacks pasts = record { stacks = each; gone = gone } where
      aside : (name : List ℕ) → st.name ≢ name → IsBeside name (ending ∷ [])
      aside name ne = beside_mark name st.name actor st.trav st.act None ne

      each : (name : List ℕ) (x : Stack) → stack_at t.stacks name ≡ Some x → TellsStack o (h ++ ending ∷ []) t x
      each name x at =
          let other = stack_cut st.name s.stacks (subst (λ (y : List Stack). stack_at y name ≡ Some x) stacks at) in
          let key = stack-key s.stacks name x other.1 in
          let ne : st.name ≢ x.name = λ i. other.0 (i ∙ key) in
          stack_beside o h (ending ∷ []) s t x (aside x.name ne)
          (ap (λ (y : List Past). past_at y x.name) pasts ∙ past_kept st.name s.pasts x.name ne)
          (told.stacks name x other.1)

      gone : (name : List ℕ) → stack_at t.stacks name ≡ None → IsGone o (h ++ ending ∷ []) name
      gone name none = elim (text_or_not st.name name) [
        | inl is ↦ subst (λ (x : List ℕ). IsGone o (h ++ ending ∷ []) x) is (deleted (latest_of st)
            (newest-append o h (ending ∷ []) st.name ∙ was_told.traversal) act plan
            (ap (option_map (λ (x : Marked). x.mark)) (marked-append o h (ending ∷ []) st.name
            ∙ marked_own st.name st.trav st.act None (marked_of o h st.name) was_told.marked was_told.is_marked
            was_told.trav)))
        | inr ne ↦ gone_beside o h (ending ∷ []) s t name (aside name ne)
            (told.gone name (sym (stack_kept st.name s.stacks name ne)
            ∙ subst (λ (x : List Stack). stack_at x name ≡ None) stacks none))
      ]

  mark_told : (es : List Entry) → MarkMade s t es → StacksTold o (h ++ es) t
  mark_told es (unmade is stacks pasts) = subst (λ (x : List Entry). StacksTold o (h ++ x) t) (sym is)
      (silent_told [] tt stacks pasts)
  mark_told es (fails actor st cause found progress is stacks pasts) =
      subst (λ (x : List Entry). StacksTold o (h ++ x) t) (sym is)
      (failed_told actor st found progress cause stacks pasts)
  mark_told es (completes actor st found progress keep is stacks pasts) =
      subst (λ (x : List Entry). StacksTold o (h ++ x) t) (sym is)
      (completed_told actor st found progress keep stacks pasts)
  mark_told es (deletes actor st found progress act plan is stacks pasts) =
      subst (λ (x : List Entry). StacksTold o (h ++ x) t) (sym is)
      (deleted_told actor st found progress act plan stacks pasts)

-- entries without a mark, and then the marks
pub stacks_told : (o : Opening) (h : List Entry) (s t : StateData) (first marks : List Entry) → StacksTold o h s
    → AreUnmarking first
    → MarkMade s t marks → StacksTold o (h ++ (first ++ marks)) t
stacks_told o h s t first marks told silent made =
    subst (λ (x : List Entry). StacksTold o x t) (append_assoc h first marks)
    (mark_told o (h ++ first) s t (silent_told o h s s told first silent refl refl) marks made)
