-- Where nothing is left to do every stack is complete, or failed for a cause that is told.
use Rattle.std.proofs.Common.{Bool, List, ap, append-nil, append_assoc, false, inl, inr, refl, subst, sym, true, ◌∙◌}
use Rattle.std.specs.Prelude.{List, None, Option, Some, [], if◌then◌else◌, option_map, ℕ, ◌++◌, ◌==◌, ◌∷◌, ◌≡◌, ◌⊎◌}
use Rattle.heat_plan.specs.declared.phase.Act.{Act}
use Rattle.heat_plan.specs.declared.phase.Status.{Status}
use Rattle.heat_plan.specs.declared.phase.Status.TheVariants.{Complete, Failed, InProgress}
use Rattle.step_relation.specs.State.{StateData, stack_at}
use Rattle.step_relation.specs.declared.Cause.{Cause}
use Rattle.step_relation.specs.declared.Entry.{Entry}
use Rattle.step_relation.specs.declared.What.{What}
use Rattle.step_relation.specs.declared.Stack.{Stack}
use Rattle.step_relation.specs.Marked.{Completed, FailedFor, Mark, Marked, Unmarked, mark_by_cause, mark_by_status}
use Rattle.step_relation.specs.Marked.{marked_again, marked_by, marked_stack}
use Rattle.step_relation.specs.Opening.{Opening}
use Rattle.step_relation.specs.Headline.{FitsIn, IsIdleBook, IsSettledAs, completed, failed_before, failed_since}
use Rattle.step_relation.specs.Sound.{Sound}
use Rattle.step_relation.specs.Stir.{EachStirs, IsCovered, Stir, lasts, waits, works}
use Rattle.step_relation.specs.Tells.{TellsStack, status_by}
use Rattle.history_laws.proofs.tells.Appends.{marked_on}
use Rattle.history_laws.proofs.tells.Newests.{text_cases}
use Rattle.history_laws.proofs.headline.Said.{AllSaid}
use Rattle.step_relation.specs.declared.What.TheVariants as what

pub said_split : (o : Opening) (h p es before behind : List Entry) (e : Entry) → AllSaid o h p es
    → es ≡ before ++ e ∷ behind → FitsIn o (h ++ (p ++ before)) e
said_split o h p [] [] behind e k is = cc
said_split o h p [] (b ∷ before) behind e k is = cc
said_split o h p (x ∷ es) [] behind e k is =
    let first : x ≡ e = cc in
    subst (λ (y : List Entry). FitsIn o (h ++ y) e) (sym (append-nil p)) (subst (FitsIn o (h ++ p)) first k.1)
said_split o h p (x ∷ es) (b ∷ before) behind e k is =
    let first : x ≡ b = cc in
    let others : es ≡ before ++ e ∷ behind = cc in
    subst (λ (y : List Entry). FitsIn o (h ++ y) e) (append_assoc p (x ∷ []) before
    ∙ ap (λ (y : Entry). p ++ y ∷ before) first)
    (said_split o h (p ++ x ∷ []) es before behind e k.3 others)

-- an entry that marks the stack's traversal with a cause
pub record IsMarkedBy (name : List ℕ) (h : List Entry) (trav : ℕ) (cause : Cause) : Type 0 where
  pub before : List Entry
  pub behind : List Entry
  pub entry : Entry
  pub act : Act
  pub splits : h ≡ before ++ entry ∷ behind
  pub is : entry.what ≡ what.Mark name trav act (Some cause)

marks_or : (name : List ℕ) (e : Entry) (b : Option Marked) (m : Marked) (cause : Cause)
    → m.mark ≡ FailedFor (Some cause) → marked_by name b e.what ≡ Some m
    → ((act : Act) × (e.what ≡ what.Mark name m.trav act (Some cause))) ⊎ (b ≡ Some m)
marks_or name e b m cause failed_ is = by e.what refl is where
  by : (w : What) → e.what ≡ w → marked_by name b w ≡ Some m
      → ((act : Act) × (e.what ≡ what.Mark name m.trav act (Some cause))) ⊎ (b ≡ Some m)
  by (what.Command stack trav act plan rb) w_is eq = elim (text_cases stack name) [
    | inl same ↦
        let now_ : Some (record { trav = trav; mark = Unmarked }) ≡ Some m = rw same.0 at eq in
        let mark_is : Unmarked ≡ m.mark = ap mark_of_some now_ in
        let clash = mark_is ∙ failed_ in cc
    | inr other ↦ inr (rw other.0 at eq)
  ] where
    mark_of_some : Option Marked → Mark
    mark_of_some None = Unmarked
    mark_of_some (Some y) = y.mark
  by (what.Mark stack trav act c) w_is eq = elim (text_cases stack name) [
    | inr other ↦ inr (rw other.0 at eq)
    | inl same ↦ again same.1 b (rw same.0 at eq)
  ] where
    again : stack ≡ name → (f : Option Marked) → option_map (marked_again trav c) f ≡ Some m
        → ((a : Act) × (e.what ≡ what.Mark name m.trav a (Some cause))) ⊎ (f ≡ Some m)
    again name_is None i = cc
    again name_is (Some y) i = on (y.trav == trav) (cc) where
      cause_is : (d : Option Cause) → mark_by_cause d ≡ FailedFor (Some cause) → d ≡ Some cause
      cause_is None j = cc
      cause_is (Some z) j = cc

      on : (t : Bool) → (if t then record { trav = trav; mark = mark_by_cause c } else y) ≡ m
          → ((a : Act) × (e.what ≡ what.Mark name m.trav a (Some cause))) ⊎ (Some y ≡ Some m)
      on false j = inr (ap Some j)
      on true j =
          let trav_is : trav ≡ m.trav = ap (λ (z : Marked). z.trav) j in
          let c_is : c ≡ Some cause = cause_is c (ap (λ (z : Marked). z.mark) j ∙ failed_) in
          inl (
            act,
            w_is ∙ (ap (λ (n : List ℕ). what.Mark n trav act c) name_is
                ∙ (ap (λ (n : ℕ). what.Mark name n act c) trav_is ∙ ap (what.Mark name m.trav act) c_is)),
          )
  by (what.Call token request given) w_is eq = inr eq
  by (what.Release token) w_is eq = inr eq
  by (what.Rows writes) w_is eq = inr eq
  by (what.Mail writes) w_is eq = inr eq
  by (what.Engine change) w_is eq = inr eq
  by (what.Show it stack) w_is eq = inr eq
  by (what.Note line code path) w_is eq = inr eq
  by (what.Ran idle turns) w_is eq = inr eq
  by (what.Turned engine_ lost) w_is eq = inr eq
  by (what.Preview stack forecast) w_is eq = inr eq
  by what.Closed w_is eq = inr eq

pub marked_from : (name : List ℕ) (b : Option Marked) (h : List Entry) (m : Marked) (cause : Cause)
    → m.mark ≡ FailedFor (Some cause) → marked_on name b h ≡ Some m
    → IsMarkedBy name h m.trav cause ⊎ (b ≡ Some m)
marked_from name b [] m cause failed_ is = inr is
marked_from name b (e ∷ es) m cause failed_ is = elim (marked_from name
    (marked_by name b e.what) es m cause failed_ is) [
      | inl k ↦ inl (record {
        before = e ∷ k.before;
        behind = k.behind;
        entry = k.entry;
        act = k.act;
        splits =
            ap (λ (y : List Entry). e ∷ y) k.splits;
        is = k.is;
      })
      | inr eq ↦ elim (marks_or name e b m cause failed_ eq) [
        | inl (act, w) ↦ inl (record { before = []; behind = es; entry = e; act = act; splits = refl; is = w })
        | inr same ↦ inr same
      ]
    ]

no_cause_first : (f : Option Stack) (m : Marked) (cause : Cause) → option_map marked_stack f ≡ Some m
    → m.mark ≡ FailedFor (Some cause) → ⊥
no_cause_first None m cause is failed_ = cc
no_cause_first (Some st) m cause is failed_ = by st.status (mark_is) where
  same : marked_stack st ≡ m
  same = cc

  mark_is : mark_by_status st.status ≡ FailedFor (Some cause)
  mark_is = ap (λ (y : Marked). y.mark) same ∙ failed_

  by : (b : Status) → mark_by_status b ≡ FailedFor (Some cause) → ⊥
  by Complete e = cc
  by InProgress e = cc
  by Failed e = cc

module _ (o : Opening) (h : List Entry) (s : StateData) (x : Sound o h s) (said : AllSaid o [] [] h)
    (stirs : EachStirs s) (idle : IsIdleBook s) where
  pub settled_as : (name : List ℕ) (st : Stack) → stack_at s.stacks name ≡ Some st → IsSettledAs o h st
  settled_as name st at = by st.status refl where
    told_ : TellsStack o h s st
    told_ = x.tells.stacks name st at

    stirring : Stir s st → ⊥
    stirring k = on k.covered where
      on : IsCovered s st k.i k.node → ⊥
      on (waits n l at_l to) = let none = idle.silent n in cc
      on (works e j at_j to) = let none = idle.jobless e in cc
      on (lasts e j at_j stale own to) = let none = idle.jobless e in cc

    failing : (m : Mark) → told_.marked.mark ≡ m → st.status ≡ Failed → status_by m ≡ Failed → IsSettledAs o h st
    failing Unmarked is status e = cc
    failing Completed is status e = cc
    failing (FailedFor None) is status e = failed_before status
        (ap (option_map (λ (y : Marked). y.mark)) told_.is_marked ∙ ap Some is)
    failing (FailedFor (Some cause)) is status e =
        elim (marked_from st.name (option_map marked_stack (stack_at o.state.stacks st.name)) h told_.marked cause is
        told_.is_marked) [
          | inr first ↦ absurd (no_cause_first (stack_at o.state.stacks st.name) told_.marked cause first is)
          | inl k ↦
              let marks_ = k.is ∙ ap (λ (n : ℕ). what.Mark st.name n k.act (Some cause)) told_.trav in
              failed_since k.before k.behind k.entry k.act cause k.splits marks_
              ((said_split o [] [] h k.before k.behind k.entry said k.splits).causes st.name st.trav k.act cause
              marks_)
        ]

    by : (b : Status) → st.status ≡ b → IsSettledAs o h st
    by Complete is = completed is
    by InProgress is = absurd (stirring (stirs name st at is))
    by Failed is = failing told_.marked.mark refl is (told_.status ∙ is)
