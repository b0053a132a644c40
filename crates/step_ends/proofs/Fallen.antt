-- A failure's step, put together.
use Rattle.std.proofs.Common.{◌≡◌, ◌≢◌, ◌⊎◌, inl, inr, ◌≤◌, ◌^◌, ◌∙◌, ℕ, List, [], ◌∷◌, ◌++◌, None, Option, Some, refl, sym, ap, subst}
use Rattle.std.proofs.lemmas.List.Elements.{Contains-append_cases}
use Rattle.heat_plan.specs.declared.phase.Status.{Status}
use Rattle.heat_plan.specs.declared.phase.Status.TheVariants.{Complete, Failed, InProgress}
use Rattle.heat_plan.specs.declared.refusal.Refusal.{Refusal}
use Rattle.heat_plan.specs.declared.refusal.Refusal.TheVariants.{Memory, Worn}
use Rattle.traversal_graph.specs.declared.shape.Node.{Node}
use Rattle.row_table.specs.Rows.{row_at}
use Rattle.row_table.specs.declared.row.Row.{Row}
use Rattle.mail_table.specs.declared.mail.Job.{Job}
use Rattle.mail_table.specs.declared.mail.Letter.{Letter}
use Rattle.core_state.specs.Changes.{applied}
use Rattle.core_state.specs.State.{StateData, stack_at}
use Rattle.core_state.specs.declared.change.Change.{Change}
use Rattle.core_state.specs.declared.entry.Entry.{Entry}
use Rattle.core_state.specs.declared.graph.Graph.{Graph}
use Rattle.core_state.specs.declared.stack.Stack.{Stack}
use Rattle.step_relation.specs.Asks.{Falls, failed_changes, failed_entries, marked, marks, overrun}
use Rattle.step_relation.specs.Freshness.{IsOverrun}
use Rattle.step_relation.specs.Rows.{failed_row}
use Rattle.step_relation.specs.Turns.{IsDue, IsWorn, stays, unfailed}
use Rattle.command_steps.specs.Work.{IsFreshOf, fresh_of}
use Rattle.history_laws.proofs.tables.Rows.{stack-key}
use Rattle.step_ends.specs.Falls.{IsEnded, IsFallen, OrWorn, plain, rolls}
use Rattle.step_ends.specs.Falls.OrWorn.{memory as fall_memory, worn as fall_worn}
use Rattle.step_ends.specs.Marks.{IsBehindRefusal, IsRewritten, RollsBehind, marking}
use Rattle.step_ends.specs.Marks.IsBehindRefusal.{memory as behind_memory, worn as behind_worn}
use Rattle.step_ends.specs.Releases.{IsAgainRefusal}
use Rattle.step_ends.specs.Releases.IsAgainRefusal.{memory as again_memory, worn as again_worn}
use Rattle.step_ends.specs.declared.falling.Failure.{Failure}
use Rattle.step_ends.proofs.Refusing.{drawn_worn}
use Rattle.step_ends.proofs.Turns.{worn_before, worn_behind}

-- two lists, neither of them worn
pub unworn_both : (xs ys : List Change) → ¬ IsWorn xs → ¬ IsWorn ys → ¬ IsWorn (xs ++ ys)
unworn_both xs ys first last w = elim (Contains-append_cases xs ys w.change w.among) [
  | inl among ↦ first (record { change = w.change; among = among; overflows = w.overflows })
  | inr among ↦ last (record { change = w.change; among = among; overflows = w.overflows })
]

-- the row that failed was rewritten
pub rewritten : (rows : List Row) (r : Row) → row_at rows r.no ≡ Some r → IsRewritten rows (failed_row r)
rewritten rows r found = record {
  old = r;
  found = found;
  stack = refl;
  name = refl;
  act = refl;
  requires_ = refl;
  replaces = refl;
  replaced_by = refl;
}

-- with no mark
pub unmarked : (s : StateData) (e : ℕ) (r : Row) (ls letters : List Letter) (why : Failure) (cs : List Change)
    (es : List Entry) → ls ≡ letters
    → cs ≡ failed_changes s e r ls None → es ≡ why.call ∷ failed_entries e r ls None why.reason
    → IsEnded s e r letters None why cs es
unmarked s e r ls letters why cs es is c d = plain unfailed (c
    ∙ ap (λ (l : List Letter). failed_changes s e r l None) is)
    (d ∙ ap (λ (l : List Letter). why.call ∷ failed_entries e r l None why.reason) is)

pub unmarked_refusal : (s : StateData) (e : ℕ) (r : Row) (ls letters : List Letter) (why : Failure)
    (refusal : Refusal) → ls ≡ letters
    → (refusal ≡ Memory) ⊎ ((refusal ≡ Worn) × IsWorn (failed_changes s e r ls None))
    → OrWorn (IsEnded s e r letters None why) refusal
unmarked_refusal s e r ls letters why refusal is (inl m) = fall_memory m
unmarked_refusal s e r ls letters why refusal is (inr (
  w,
  k,
)) = fall_worn w _ _ (unmarked s e r ls letters why _ _ is refl refl) k

module _ (s : StateData) (e : ℕ) (r : Row) (st : Stack) (why : Failure) (found : row_at s.rows r.no ≡ Some r) where
  -- with the mark, and what is behind it
  pub marked_alone : ((q : Row) → IsRewritten s.rows q → ¬ IsDue (applied (marking e q st) s) st)
      → (cs : List Change) (es : List Entry)
      → cs ≡ failed_changes s e r [] (Some st) → es ≡ why.call ∷ failed_entries e r [] (Some st) why.reason
      → IsEnded s e r [] (Some st) why cs es
  marked_alone behind cs es c d = plain (stays st (behind (failed_row r) (rewritten s.rows r found))) c d

  pub marked_rolls : (last : List Change) (lasts : List Entry) → ((q : Row) → IsRewritten s.rows q
      → RollsBehind s e q st last lasts)
      → (cs : List Change) (es : List Entry) → cs ≡ failed_changes s e r [] (Some st) ++ last
      → es ≡ (why.call ∷ failed_entries e r [] (Some st) why.reason) ++ lasts → IsEnded s e r [] (Some st) why cs es
  marked_rolls last lasts behind cs es c d =
      let k = behind (failed_row r) (rewritten s.rows r found) in
      rolls st last lasts refl k.due k.follows c d

  -- the mark's own refusal, with nothing behind it and with a rollback
  pub alone_refusal : ((q : Row) → IsRewritten s.rows q → ¬ IsDue (applied (marking e q st) s) st) → (refusal : Refusal)
      → (refusal ≡ Memory) ⊎ ((refusal ≡ Worn) × IsWorn (failed_changes s e r [] (Some st)))
      → OrWorn (IsEnded s e r [] (Some st) why) refusal
  alone_refusal behind refusal (inl m) = fall_memory m
  alone_refusal behind refusal (inr (is, w)) = fall_worn is _ _ (marked_alone behind _ _ refl refl) w

  pub rolls_refusal : (last : List Change) (lasts : List Entry) → ((q : Row) → IsRewritten s.rows q
      → RollsBehind s e q st last lasts)
      → (refusal : Refusal) → (refusal ≡ Memory) ⊎ ((refusal ≡ Worn) × IsWorn (failed_changes s e r [] (Some st)))
      → OrWorn (IsEnded s e r [] (Some st) why) refusal
  rolls_refusal last lasts behind refusal (inl m) = fall_memory m
  rolls_refusal last lasts behind refusal (inr (is, w)) =
      fall_worn is _ _ (marked_rolls last lasts behind _ _ refl refl) (worn_before _ last w)

  pub behind_worn_out : (refusal : Refusal) → IsBehindRefusal s e st refusal
      → OrWorn (IsEnded s e r [] (Some st) why) refusal
  behind_worn_out refusal (behind_memory is) = fall_memory is
  behind_worn_out refusal (behind_worn is cs es k w) =
      let both = k (failed_row r) (rewritten s.rows r found) in
      fall_worn is _ _ (rolls st cs es refl both.due both.follows refl refl)
      (worn_behind (failed_changes s e r [] (Some st)) cs w)

-- the job's failure brings these letters and this mark
pub fallen_by : (s : StateData) (e : ℕ) (j : Job) (r : Row) (why : Failure) (letters : List Letter)
    (failed : Option Stack) → Falls s j letters failed
    → (refusal : Refusal) → OrWorn (IsEnded s e r letters failed why) refusal → OrWorn (IsFallen s e j r why) refusal
fallen_by s e j r why letters failed falls refusal (fall_memory is) = fall_memory is
fallen_by s e j r why letters failed falls refusal (fall_worn is cs es k w) =
    fall_worn is cs es (record { letters = letters; failed = failed; falls = falls; ended = k }) w

-- no number is left for the letter that an overrun job's failure would send
pub again_fallen : (s : StateData) (e : ℕ) (j : Job) (r : Row) (why : Failure) (refusal : Refusal)
    → IsOverrun s j → s.next.letter ≤ 2 ^ 62
    → IsAgainRefusal s j.letter.stack j.row refusal → OrWorn (IsFallen s e j r why) refusal
again_fallen s e j r why refusal over range (again_memory is) = fall_memory is
again_fallen s e j r why refusal over range (again_worn is letters resends past) =
    fall_worn is _ _ (record {
      letters = letters;
      failed = None;
      falls = overrun letters over resends;
      ended =
          plain unfailed refl refl;
    })
    (drawn_worn s letters _ range past)

-- a stack with a mark isn't under way
pub not_running : (x : Status) → (x ≡ Complete) ⊎ (x ≡ Failed) → x ≢ InProgress
not_running x (inl is) e = let f : Complete ≡ InProgress = sym is ∙ e in cc
not_running x (inr is) e = let f : Failed ≡ InProgress = sym is ∙ e in cc

-- a job that has work, and the stack that it names
pub running_fall : (s : StateData) (j : Job) (stack : Stack) (graph : Graph) (node : Node) (row : Option Row)
    → IsFreshOf s j.letter j.row stack graph node row → stack.status ≡ InProgress → Falls s j [] (Some stack)
running_fall s j stack graph node row of is = marks (fresh_of s j.letter j.row stack graph node row of) is

pub marked_fall : (s : StateData) (j : Job) (stack : Stack) (graph : Graph) (node : Node) (row : Option Row)
    (letters : List Letter)
    → IsFreshOf s j.letter j.row stack graph node row → stack.status ≢ InProgress → letters ≡ []
    → Falls s j letters None
marked_fall s j stack graph node row letters of not is =
    subst (λ (l : List Letter). Falls s j l None) (sym is)
    (marked (fresh_of s j.letter j.row stack graph node row of) not)

pub its_stack : (s : StateData) (l : Letter) (number : ℕ) (stack : Stack) (graph : Graph) (node : Node)
    (row : Option Row)
    → IsFreshOf s l number stack graph node row → stack_at s.stacks stack.name ≡ Some stack
its_stack s l number stack graph node row of =
    subst (λ (n : List ℕ). stack_at s.stacks n ≡ Some stack)
    (sym (stack-key s.stacks l.stack stack of.names.in_table)) of.names.in_table
