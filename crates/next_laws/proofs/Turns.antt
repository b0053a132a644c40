-- A whole turn is one: its move is, and so is the rollback behind it.
use Rattle.std.proofs.Common.{◌≡◌, ℕ, List, ◌++◌, Option, Some, refl, sym, ap, subst, ◌∙◌}
use Rattle.core_state.specs.Changes.{applied}
use Rattle.core_state.specs.State.{StateData}
use Rattle.core_state.specs.declared.change.Change.{Change}
use Rattle.core_state.specs.declared.entry.Actor.TheVariants.{Engine}
use Rattle.core_state.specs.declared.entry.Entry.{Entry}
use Rattle.core_state.specs.declared.stack.Stack.{Stack}
use Rattle.history_laws.specs.Commands.{Lays, laid_changes, laid_entries}
use Rattle.history_laws.specs.Given.{Given}
use Rattle.history_laws.specs.Moves.{Move}
use Rattle.history_laws.specs.Orders.{plan_back, rollback_sets}
use Rattle.history_laws.specs.Turns.{FollowsFailure, IsDue, IsPlain, Turn, plain, rolls, stays, unfailed}
use Rattle.history_laws.proofs.tables.Rows.{same_some}
use Rattle.next_laws.specs.OneTurn.{TurnIsOne}
use Rattle.next_laws.proofs.Layouts.{layout_one}
use Rattle.next_laws.proofs.Outcomes.{move_one}

-- what follows a failure
laid_one : (s : StateData) (e : ℕ) (f g : Stack) → f ≡ g
    → (k : Lays s f.name (plan_back s f).items) (q : Lays s g.name (plan_back s g).items)
    → (laid_changes s f.name (plan_back s f).items (rollback_sets s f (Engine e)) k ≡ laid_changes s g.name
    (plan_back s g).items (rollback_sets s g (Engine e)) q)
    × (laid_entries s f.name (plan_back s f).items (rollback_sets s f (Engine e)) k ≡ laid_entries s g.name
    (plan_back s g).items (rollback_sets s g (Engine e)) q)
laid_one s e f g same k = subst (λ (h : Stack). (q : Lays s h.name (plan_back s h).items)
    → (laid_changes s f.name (plan_back s f).items (rollback_sets s f (Engine e)) k ≡ laid_changes s h.name
    (plan_back s h).items (rollback_sets s h (Engine e)) q)
    × (laid_entries s f.name (plan_back s f).items (rollback_sets s f (Engine e)) k ≡ laid_entries s h.name
    (plan_back s h).items (rollback_sets s h (Engine e)) q))
    same (layout_one s f.name (plan_back s f).items (rollback_sets s f (Engine e)) k)

follows_one : (s : StateData) (e : ℕ) (st : Stack) (cs ds : List Change) (es fs : List Entry)
    → FollowsFailure s e st cs es → FollowsFailure s e st ds fs
    → (cs ≡ ds) × (es ≡ fs)
follows_one s e st cs ds es fs a b =
    let stacks : a.failed ≡ b.failed = same_some a.failed b.failed a.is b.is in
    let (changes, entries) = laid_one s e a.failed b.failed stacks a.lays b.lays in
    (a.changes ∙ (changes ∙ sym b.changes), a.entries ∙ (entries ∙ sym b.entries))

-- a turn by its move: what it marked, and what it wrote first
pub data Whole (s : StateData) (e : ℕ) (f : Option Stack) (first : List Change) (firsts : List Entry) (cs : List Change)
    (es : List Entry) : Type 0 where
  stops : IsPlain (applied first s) f → cs ≡ first → es ≡ firsts → Whole s e f first firsts cs es
  follows : (st : Stack) (last : List Change) (lasts : List Entry) → f ≡ Some st → IsDue (applied first s) st
      → FollowsFailure (applied first s) e st last lasts → cs ≡ first ++ last → es ≡ firsts ++ lasts
      → Whole s e f first firsts cs es

pub record ByMove (s : StateData) (e : ℕ) (given : Given) (cs : List Change) (es : List Entry) : Type 0 where
  pub failed : Option Stack
  pub first : List Change
  pub firsts : List Entry
  pub move : Move s e given failed first firsts
  pub whole : Whole s e failed first firsts cs es

pub by_move : (s : StateData) (e : ℕ) (given : Given) (cs : List Change) (es : List Entry) → Turn s e given cs es
    → ByMove s e given cs es
by_move s e given cs es (plain f m p) =
    record { failed = f; first = cs; firsts = es; move = m; whole = stops p refl refl }
by_move s e given cs es (rolls st first last firsts lasts m due k c d) =
    record { failed = Some st; first = first; firsts = firsts; move = m; whole = follows st last lasts refl due k c d }

not_due : (s : StateData) (f : Option Stack) (st : Stack) → IsPlain s f → f ≡ Some st → IsDue s st → ⊥
not_due s f st unfailed is due = cc
not_due s f st (stays other no_) is due = no_ (let same : other ≡ st = cc in subst (IsDue s) (sym same) due)

some_one : (f : Option Stack) (a b : Stack) → f ≡ Some a → f ≡ Some b → a ≡ b
some_one f a b h i = same_some a b h i

-- the whole is one behind one move, whatever that told
pub whole_one : (s : StateData) (e : ℕ) (f : Option Stack) (first : List Change) (firsts others : List Entry)
    (cs ds : List Change) (es fs : List Entry)
    → Whole s e f first firsts cs es → Whole s e f first others ds fs → (cs ≡ ds) × (firsts ≡ others → es ≡ fs)
whole_one s e f first firsts others cs ds es fs (stops p c d) (stops q i j) = (c ∙ sym i, λ same. d ∙ (same ∙ sym j))
whole_one s e f first firsts others cs ds es fs (stops p c d) (follows st last lasts is due k i j) =
    absurd (not_due (applied first s) f st p is due)
whole_one s e f first firsts others cs ds es fs (follows st last lasts is due k c d) (stops p i j) =
    absurd (not_due (applied first s) f st p is due)
whole_one s e f first firsts others cs ds es fs (follows st last lasts is due k c d)
    (follows st' last' lasts' is' due' k' i j) =
    let stacks : st ≡ st' = same_some st st' is is' in
    let (changes, entries) = follows_one (applied first s) e st last last' lasts lasts' k
    (subst (λ (z : Stack). FollowsFailure (applied first s) e z last' lasts') (sym stacks) k') in (
      c ∙ (ap (λ (l : List Change). first ++ l) changes ∙ sym i),
      λ same. d ∙ (ap (λ (l : List Entry). l ++ lasts) same ∙ (ap (λ (l : List Entry). others ++ l) entries ∙ sym j)),
    )

pub turn_one : TurnIsOne
turn_one s e given cs ds es fs t u =
    let a = by_move s e given cs es t in let b = by_move s e given ds fs u in
    let same = move_one s e given a.failed b.failed a.first b.first a.firsts b.firsts a.move b.move in
    let whole = subst (λ (f : Option Stack). Whole s e f a.first b.firsts ds fs) (sym same.marked)
    (subst (λ (l : List Change). Whole s e b.failed l b.firsts ds fs) (sym same.changes) b.whole) in
    let (changes, entries) = whole_one s e a.failed a.first a.firsts b.firsts cs ds es fs a.whole whole in
    (changes, entries same.entries)
