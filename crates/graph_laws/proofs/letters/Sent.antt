-- Letters fit after takes, begins, releases and failures.
use Rattle.std.proofs.Common.{◌≡◌, ◌⊎◌, inl, inr, ℕ, [], ◌∷◌, ◌++◌, List, None, Option, Some, map, refl, sym, ◌∙◌}
use Rattle.std.proofs.Common.{subst, arith}
use Rattle.std.specs.Prelude.{Contains, slice_get}
use Rattle.heat_plan.specs.declared.phase.Status.TheVariants.{Failed}
use Rattle.traversal_graph.specs.declared.shape.Node.{Node}
use Rattle.row_table.specs.Rows.{put_row}
use Rattle.row_table.specs.declared.row.Row.{Row}
use Rattle.mail_table.specs.Mails.{cut_job, cut_letter, letter_at}
use Rattle.mail_table.specs.declared.mail.Job.{Job}
use Rattle.mail_table.specs.declared.mail.Letter.{Letter}
use Rattle.core_state.specs.Changes.{applied}
use Rattle.core_state.specs.Reads.{IsReady}
use Rattle.core_state.specs.State.{StateData, graph_at}
use Rattle.core_state.specs.declared.change.Change.TheVariants.{Drop, EndJob, PutJob, PutRow, Send}
use Rattle.core_state.specs.declared.graph.Graph.{Graph}
use Rattle.core_state.specs.declared.stack.Stack.{Stack}
use Rattle.step_relation.specs.Asks.{Falls, failed_changes, marked, marks, overrun}
use Rattle.step_relation.specs.Begins.{left_changes}
use Rattle.step_relation.specs.Resends.{Resends, cleanup, nobody, update}
use Rattle.step_relation.specs.Rows.{failed_row, locked}
use Rattle.step_relation.specs.Takes.{released_changes}
use Rattle.step_relation.specs.Writes.{letter_to, lock, mark_failed, unlock}
use Rattle.step_relation.specs.MailFits.{LettersFit}
use Rattle.step_relation.specs.Sound.{Standing}
use Rattle.graph_laws.proofs.graphs.Below.{letter_cut, stack-key}
use Rattle.graph_laws.proofs.graphs.Finished.{rows_then, unlocks}
use Rattle.graph_laws.proofs.graphs.Kept.{SameStacks, drawn, draws, sends, sends_all, sent, stacks_marked, stacks_same}
use Rattle.graph_laws.proofs.letters.Onward.{Goes, GoesTo, grown_same, letters_fit, sent_found, was_same}

only_one : {A : Type 0} (x y : A) → Contains (x ∷ []) y → x ≡ y
only_one x y (n, lt, is) = let first : n ≡ 0 = omega arith in rw first at is

nothing : {A : Type 0} (y : A) → Contains [] y → ⊥
nothing y (n, lt, is) = omega arith

-- the state that a release leaves
abbrev pub released_to : StateData → ℕ → Option Row → List Letter → StateData
released_to s f row ls = record s {
  next = drawn s.next ls s.next;
  rows = rows_then row s.rows;
  jobs = cut_job f s.jobs;
  letters = sent ls s.letters;
}

pub release_comes : (s : StateData) (f : ℕ) (row : Option Row) (ls : List Letter)
    → applied (released_changes s f row ls) s ≡ released_to s f row ls
release_comes s f row ls =
    draws s.next ls (unlock row (EndJob f ∷ map Send ls)) s
    ∙ (unlocks row (EndJob f ∷ map Send ls) (record s { next = drawn s.next ls s.next })
    ∙ sends_all ls (record s { next = drawn s.next ls s.next; rows = rows_then row s.rows; jobs = cut_job f s.jobs }))

-- the state that a failure leaves, before the mark
abbrev pub failed_to : StateData → ℕ → Row → List Letter → StateData
failed_to s e r ls = record s {
  next = drawn s.next ls s.next;
  rows = put_row (failed_row r) s.rows;
  jobs = cut_job e s.jobs;
  letters = sent ls s.letters;
}

pub failure_comes : (s : StateData) (e : ℕ) (r : Row) (ls : List Letter) (failed : Option Stack)
    → applied (failed_changes s e r ls failed) s ≡ applied (mark_failed failed) (failed_to s e r ls)
failure_comes s e r ls failed =
    draws s.next ls (PutRow (failed_row r) ∷ EndJob e ∷ (map Send ls ++ mark_failed failed)) s
    ∙ sends ls (mark_failed failed)
    (record s { next = drawn s.next ls s.next; rows = put_row (failed_row r) s.rows; jobs = cut_job e s.jobs })

module _ (s : StateData) (h : Standing s) where
  pub plain : (t : StateData) → SameStacks s.stacks t.stacks → t.graphs ≡ s.graphs
      → ((n : ℕ) (l : Letter) → letter_at t.letters n ≡ Some l → (letter_at s.letters n ≡ Some l) ⊎ Goes t l)
      → LettersFit t
  plain t stacks graphs letters = letters_fit s t h.shape.letters
      (λ n l st at k. was_same s t stacks l st k (grown_same s t graphs l.stack)) letters

  -- no letter is sent
  pub silent : (t : StateData) → SameStacks s.stacks t.stacks → t.graphs ≡ s.graphs → t.letters ≡ s.letters
      → LettersFit t
  silent t stacks graphs letters =
      plain t stacks graphs (λ n l at. inl (subst (λ (ls : List Letter). letter_at ls n ≡ Some l) letters at))

  -- one letter goes
  pub dropped : (t : StateData) (c : ℕ) → SameStacks s.stacks t.stacks → t.graphs ≡ s.graphs
      → t.letters ≡ cut_letter c s.letters → LettersFit t
  dropped t c stacks graphs letters = plain t stacks graphs
      (λ n l at. inl (letter_cut c s.letters (subst (λ (ls : List Letter). letter_at ls n ≡ Some l) letters at)).1)

  -- some are sent, each to a ready node
  pub mailed : (t : StateData) (ls : List Letter) → SameStacks s.stacks t.stacks → t.graphs ≡ s.graphs
      → t.letters ≡ sent ls s.letters
      → ((l : Letter) → Contains ls l → Goes t l) → LettersFit t
  mailed t ls stacks graphs letters go = plain t stacks graphs (λ n l at.
      elim (sent_found ls s.letters n l (subst (λ (x : List Letter). letter_at x n ≡ Some l) letters at)) [
        | inl was ↦ inl was
        | inr new ↦ inr (go l new)
      ])

  -- a letter for a node of a graph that stands
  pub to_node : (t : StateData) → t.graphs ≡ s.graphs → (st : Stack) (number i : ℕ) (g : Graph) (node : Node)
      → graph_at s.graphs st.name ≡ Some g
      → slice_get g.graph.nodes i ≡ Some node → IsReady g i → (l : Letter)
      → Contains (letter_to st number i ∷ []) l → Goes t l
  to_node t graphs st number i g node at_g at ready l c st' there =
      subst (GoesTo t) (only_one (letter_to st number i) l c) (record {
        graph = g;
        node = node;
        its_graph = subst (λ (gs : List Graph). graph_at gs st.name ≡ Some g) (sym graphs) at_g;
        its_node = at;
        ready = ready;
      })

  resent : (t : StateData) → t.graphs ≡ s.graphs → (name : List ℕ) (number : ℕ) (ls : List Letter)
      → Resends s name number ls
      → (l : Letter) → Contains ls l → Goes t l
  resent t graphs name number _ (update st g i has least) =
      to_node t graphs st s.next.letter i g _ (subst (λ (x : List ℕ). graph_at s.graphs x ≡ Some g)
      (sym (stack-key s.stacks name st has.in_table)) has.its_graph)
      least.is.node least.is.open_.ready
  resent t graphs name number _ (cleanup st g i has none least) =
      to_node t graphs st s.next.letter i g _ (subst (λ (x : List ℕ). graph_at s.graphs x ≡ Some g)
      (sym (stack-key s.stacks name st has.in_table)) has.its_graph)
      least.is.node least.is.open_.ready
  resent t graphs name number _ (nobody a b) = λ l c. absurd (nothing l c)

  pub releases : (f : ℕ) (row : Option Row) (ls : List Letter) (name : List ℕ) (number : ℕ) → Resends s name number ls
      → LettersFit (applied (released_changes s f row ls) s)
  releases f row ls name number k = subst LettersFit (sym (release_comes s f row ls))
      (mailed (released_to s f row ls) ls (stacks_same s.stacks) refl refl
      (resent (released_to s f row ls) refl name number ls k))

  pub relays : (f : ℕ) (row : Option Row) (st : Stack) (i : ℕ) (g : Graph) (node : Node)
      → graph_at s.graphs st.name ≡ Some g
      → slice_get g.graph.nodes i ≡ Some node → IsReady g i
      → LettersFit (applied (released_changes s f row (letter_to st s.next.letter i ∷ [])) s)
  relays f row st i g node at_g at ready =
      subst LettersFit (sym (release_comes s f row (letter_to st s.next.letter i ∷ [])))
      (mailed (released_to s f row (letter_to st s.next.letter i ∷ [])) (letter_to st s.next.letter i ∷ [])
      (stacks_same s.stacks) refl refl
      (to_node (released_to s f row (letter_to st s.next.letter i ∷ [])) refl st s.next.letter i g node at_g at ready))

  pub locks : (e : ℕ) (row : Option Row) (l : ℕ) (j : Job)
      → LettersFit (applied (lock row e (Drop l ∷ PutJob j ∷ [])) s)
  locks e None l j = dropped (applied (Drop l ∷ PutJob j ∷ []) s) l (stacks_same s.stacks) refl refl
  locks e (Some r) l j = dropped (applied (PutRow (locked e r) ∷ Drop l ∷ PutJob j ∷ []) s) l
      (stacks_same s.stacks) refl refl

  pub steals : (e f : ℕ) (row : Option Row) (l : ℕ) (j : Job)
      → LettersFit (applied (lock row e (Drop l ∷ EndJob f ∷ PutJob j ∷ [])) s)
  steals e f None l j = dropped (applied (Drop l ∷ EndJob f ∷ PutJob j ∷ []) s) l (stacks_same s.stacks) refl refl
  steals e f (Some r) l j = dropped (applied (PutRow (locked e r) ∷ Drop l ∷ EndJob f ∷ PutJob j ∷ []) s) l
      (stacks_same s.stacks) refl refl

  pub faults : (e : ℕ) (r : Row) (j : Job) (ls : List Letter) (failed : Option Stack) → Falls s j ls failed
      → LettersFit (applied (left_changes e r ++ mark_failed failed) s)
  faults e r j ls failed (overrun _ _ _) = silent (applied (left_changes e r) s) (stacks_same s.stacks) refl refl
  faults e r j ls failed (marked _ _) = silent (applied (left_changes e r) s) (stacks_same s.stacks) refl refl
  faults e r j ls failed (marks k _) = silent (applied (left_changes e r ++ mark_failed (Some k.stack)) s)
      (stacks_marked s.stacks j.letter.stack k.stack Failed k.names.in_table) refl refl

  pub falls : (e : ℕ) (r : Row) (j : Job) (ls : List Letter) (failed : Option Stack) → Falls s j ls failed
      → LettersFit (applied (failed_changes s e r ls failed) s)
  falls e r j ls failed f = subst LettersFit (sym (failure_comes s e r ls failed)) (by ls failed f) where
    by : (ls : List Letter) (failed : Option Stack) → Falls s j ls failed
        → LettersFit (applied (mark_failed failed) (failed_to s e r ls))
    by ls failed (overrun _ _ k) = mailed (failed_to s e r ls) ls (stacks_same s.stacks) refl refl
        (resent (failed_to s e r ls) refl j.letter.stack j.row ls k)
    by ls failed (marked _ _) = silent (failed_to s e r []) (stacks_same s.stacks) refl refl
    by ls failed (marks k _) = silent (applied (mark_failed (Some k.stack)) (failed_to s e r []))
        (stacks_marked s.stacks j.letter.stack k.stack Failed k.names.in_table) refl refl
