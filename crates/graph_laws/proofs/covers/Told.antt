-- Nodes are covered after a release, a take-over and a failure: whom a row kept waiting has a letter.
use Rattle.std.proofs.Common.{◌≡◌, ◌<◌, inl, inr, ℕ, ◌+◌, [], ◌∷◌, List, Option, Some, refl, sym, ap, ◌∙◌, subst, arith}
use Rattle.heat_plan.specs.declared.phase.Status.TheVariants.{Failed}
use Rattle.traversal_graph.specs.declared.shape.Node.{Node}
use Rattle.traversal_graph.specs.declared.shape.Node.TheVariants.{C, U}
use Rattle.row_table.specs.Rows.{row_at}
use Rattle.row_table.specs.declared.row.Row.{Row}
use Rattle.mail_table.specs.Mails.{job_at, letter_at, put_letter}
use Rattle.mail_table.specs.declared.mail.Job.{Job}
use Rattle.mail_table.specs.declared.mail.Letter.{Letter}
use Rattle.core_state.specs.Changes.{applied}
use Rattle.core_state.specs.State.{StateData, graph_at, put_stack, stack_at}
use Rattle.core_state.specs.declared.graph.Graph.{Graph}
use Rattle.core_state.specs.declared.stack.Stack.{Stack}
use Rattle.step_relation.specs.Asks.{Falls, failed_changes, marked, marks, overrun}
use Rattle.step_relation.specs.Freshness.{IsFresh, IsOverrun}
use Rattle.step_relation.specs.Resends.{AwaitsCleanup, AwaitsUpdate, Resends, cleanup, nobody, update}
use Rattle.step_relation.specs.Rows.{failed_row}
use Rattle.step_relation.specs.Takes.{released_changes}
use Rattle.step_relation.specs.Targets.{IsTarget, of_c}
use Rattle.step_relation.specs.Writes.{letter_to, letters_to, mark_failed}
use Rattle.step_relation.specs.GraphFits.{IsNode}
use Rattle.step_relation.specs.MailFits.{IsNewest}
use Rattle.step_relation.specs.Sound.{Standing}
use Rattle.step_relation.specs.Stir.{Covered, IsCovered, IsTo, waits}
use Rattle.history_laws.proofs.tables.Fresh.{overrun_is_old}
use Rattle.history_laws.proofs.tables.Rows.{job_kept, letter-key, letter_else, letter_here, row-key, same_some, stack_put}
use Rattle.history_laws.proofs.tables.Targets.{cleanup_target}
use Rattle.graph_laws.proofs.graphs.Kept.{sent, stacks_marked, stacks_same}
use Rattle.graph_laws.proofs.graphs.Restated.{with_status}
use Rattle.graph_laws.proofs.jobs.Begun.{but_put}
use Rattle.graph_laws.proofs.jobs.Onward.{Grounds}
use Rattle.graph_laws.proofs.jobs.Told.{but_then}
use Rattle.graph_laws.proofs.jobs.Below.{failed_to, failure_comes, release_comes, released_to}
use Rattle.graph_laws.proofs.covers.Begun.{not_stale}
use Rattle.graph_laws.proofs.covers.Carried.{OpenAt, same_node, to_is_newest}
use Rattle.graph_laws.proofs.covers.Steps.{failed_is_marked, one_job, unmarked_put}

-- a letter with a lower number stays when others are sent
pub sent_stays : (st : Stack) (nodes : List ℕ) (first : ℕ) (letters : List Letter) (n : ℕ) (l : Letter) → n < first
    → letter_at letters n ≡ Some l
    → letter_at (sent (letters_to st first nodes) letters) n ≡ Some l
sent_stays st [] first letters n l lt at = at
sent_stays st (k ∷ nodes) first letters n l lt at =
    sent_stays st nodes (first + 1) (put_letter (letter_to st first k) letters) n l (omega arith)
    (letter_else (letter_to st first k) letters n (λ e. let is : first ≡ n = e in omega arith) ∙ at)

module _ (s : StateData) (h : Standing s) where
  pub below : (n : ℕ) (l : Letter) → letter_at s.letters n ≡ Some l → n < s.next.letter
  below n l at = let e = letter-key s.letters n l at in let b = (h.links.numbered.letters n l at).no_ in omega arith

  -- the letter that is sent when a row is free
  module _ (t : StateData) (name : List ℕ) (m : ℕ) where
    stay_of : (ls : List Letter) → Resends s name m ls → t.letters ≡ sent ls s.letters → (n : ℕ) (l : Letter)
        → letter_at s.letters n ≡ Some l
        → letter_at t.letters n ≡ Some l
    stay_of _ (update st g i has least) same n l at = subst (λ (y : List Letter). letter_at y n ≡ Some l) (sym same)
        (sent_stays st (i ∷ []) s.next.letter s.letters n l (below n l at) at)
    stay_of _ (cleanup st g i has none least) same n l at =
        subst (λ (y : List Letter). letter_at y n ≡ Some l) (sym same)
        (sent_stays st (i ∷ []) s.next.letter s.letters n l (below n l at) at)
    stay_of _ (nobody a b) same n l at = subst (λ (y : List Letter). letter_at y n ≡ Some l) (sym same) at

    one_letter : (st' st : Stack) (k i : ℕ) (node : Node)
        → t.letters ≡ sent (letter_to st' s.next.letter k ∷ []) s.letters → st' ≡ st → k ≡ i
        → IsCovered t st i node
    one_letter st' st k i node same is at = waits s.next.letter (letter_to st' s.next.letter k)
        (subst (λ (y : List Letter). letter_at y s.next.letter ≡ Some (letter_to st' s.next.letter k)) (sym same)
        (letter_here (letter_to st' s.next.letter k) s.letters))
        (record { stack = ap (λ (y : Stack). y.name) is; newest = ap (λ (y : Stack). y.trav) is; node_is = at })

    -- an open node whose target is the row has it
    told : (ls : List Letter) → Resends s name m ls → t.letters ≡ sent ls s.letters
        → (st : Stack) (g : Graph) (i : ℕ) (node : Node)
        → OpenAt s st g i node → name ≡ st.name → IsTarget s.rows st.name node m → IsCovered t st i node
    told _ (update st' g' k has least) same st g i node o is to =
        let own : st' ≡ st = same_some st' st
        (subst (λ (y : List ℕ). stack_at s.stacks y ≡ Some st') is has.in_table) o.in_table in
        let graph : g' ≡ g = same_some g' g
        (subst (λ (y : List ℕ). graph_at s.graphs y ≡ Some g') is has.its_graph) o.its_graph in
        let w = subst (λ (y : Stack). AwaitsUpdate s y g m k) own
        (subst (λ (y : Graph). AwaitsUpdate s st' y m k) graph least.is) in
        one_letter st' st k i node same own
        (same_node s h st o.in_table g o.its_graph k i m
        (U w.name w.chosen) node w.node o.its_node w.open_ o.open_ w.to to)
    told _ (cleanup st' g' k has none least) same st g i node o is to =
        let own : st' ≡ st = same_some st' st
        (subst (λ (y : List ℕ). stack_at s.stacks y ≡ Some st') is has.in_table) o.in_table in
        let graph : g' ≡ g = same_some g' g
        (subst (λ (y : List ℕ). graph_at s.graphs y ≡ Some g') is has.its_graph) o.its_graph in
        let w = subst (λ (y : Graph). AwaitsCleanup y m k) graph least.is in
        one_letter st' st k i node same own
        (same_node s h st o.in_table g o.its_graph k i m (C m) node w.node o.its_node w.open_ o.open_ (of_c m) to)
    told _ (nobody none_u none_c) same st g i (U word n) o is to = absurd (none_u st g i (record {
      in_table = subst (λ (y : List ℕ). stack_at s.stacks y ≡ Some st) (sym is) o.in_table;
      its_graph = subst (λ (y : List ℕ). graph_at s.graphs y ≡ Some g) (sym is) o.its_graph;
    }) (record { name = word; chosen = n; node = o.its_node; to = to; open_ = o.open_ }))
    told _ (nobody none_u none_c) same st g i (C n) o is to = absurd (none_c st g i (record {
      in_table = subst (λ (y : List ℕ). stack_at s.stacks y ≡ Some st) (sym is) o.in_table;
      its_graph = subst (λ (y : List ℕ). graph_at s.graphs y ≡ Some g) (sym is) o.its_graph;
    }) (record {
      node = subst (λ (x : ℕ). IsNode g i (C x)) (cleanup_target s.rows st.name n m to) o.its_node;
      open_ = o.open_;
    }))

  pub releases : (f : ℕ) (j : Job) (r : Option Row) (ls : List Letter) → job_at s.jobs f ≡ Some j
      → row_at s.rows j.row ≡ r → IsOverrun s j
      → Resends s j.letter.stack j.row ls → Grounds (applied (released_changes s f r ls) s)
      → Covered (applied (released_changes s f r ls) s)
  releases f j r ls its at old k b = subst Covered (sym (release_comes s f r ls))
      (one_job s (released_to s f r ls) h (subst Grounds (release_comes s f r ls) b) (λ name st at_st unmarked. at_st)
      (stacks_same s.stacks) refl
      f j its (λ n ne lt. but_then s h r j.row at n ne) (stay_of (released_to s f r ls) j.letter.stack j.row ls k refl)
      (λ e o at_o ne. job_kept f s.jobs e ne ∙ at_o)
      (λ st g i node o at_st to.
      absurd (overrun_is_old s h f j its old st (to_is_newest s st i j.letter o.in_table to)))
      (λ st g i node o at_st stale is to. told
      (released_to s f r ls) j.letter.stack j.row ls k refl st g i node o is to))

  -- a job that is taken over has a letter for its node
  pub relays : (f : ℕ) (j : Job) (r : Option Row) → job_at s.jobs f ≡ Some j → row_at s.rows j.row ≡ r
      → (k : IsFresh s j.letter j.row)
      → Grounds (applied (released_changes s f r (letter_to k.stack s.next.letter j.letter.node ∷ [])) s)
      → Covered (applied (released_changes s f r (letter_to k.stack s.next.letter j.letter.node ∷ [])) s)
  relays f j r its at k b =
      let ls = letter_to k.stack s.next.letter j.letter.node ∷ [] in
      subst Covered (sym (release_comes s f r ls))
      (one_job s (released_to s f r ls) h (subst Grounds (release_comes s f r ls) b) (λ name st at_st unmarked. at_st)
      (stacks_same s.stacks) refl
      f j its (λ n ne lt. but_then s h r j.row at n ne)
      (λ n l at_l. sent_stays k.stack (j.letter.node ∷ []) s.next.letter s.letters n l (below n l at_l) at_l)
      (λ e o at_o ne. job_kept f s.jobs e ne ∙ at_o)
      (λ st g i node o at_st to. one_letter
      (released_to s f r ls) j.letter.stack j.row k.stack st j.letter.node i node refl
      (same_some k.stack st k.names.in_table
      (subst (λ (y : List ℕ). stack_at s.stacks y ≡ Some st) (sym to.stack) o.in_table)) to.node_is)
      (λ st g i node o at_st stale is to.
      absurd (not_stale s j.letter k.stack (record { in_table = k.names.in_table; newest = k.names.newest }) stale)))

  pub falls : (e : ℕ) (j : Job) (r : Row) (ls : List Letter) (failed : Option Stack) → job_at s.jobs e ≡ Some j
      → row_at s.rows j.row ≡ Some r
      → Falls s j ls failed → Grounds (applied (failed_changes s e r ls failed) s)
      → Covered (applied (failed_changes s e r ls failed) s)
  falls e j r ls failed its at f b = subst Covered (sym (failure_comes s e r ls failed))
      (by ls failed f (subst Grounds (failure_comes s e r ls failed) b)) where
        same_own : (k : IsFresh s j.letter j.row) (st : Stack) (g : Graph) (i : ℕ) (node : Node) → OpenAt s st g i node
            → IsTo st i j.letter → k.stack ≡ st
        same_own k st g i node o to =
            same_some k.stack st k.names.in_table
            (subst (λ (y : List ℕ). stack_at s.stacks y ≡ Some st) (sym to.stack) o.in_table)

        fresh_newest : (k : IsFresh s j.letter j.row) → IsNewest s j.letter k.stack
        fresh_newest k = record { in_table = k.names.in_table; newest = k.names.newest }

        failed_now : (own st : Stack) (g : Graph) (i : ℕ) (node : Node) → own ≡ st
            → stack_at (put_stack (with_status Failed own) s.stacks) st.name ≡ Some st → OpenAt s st g i node → ⊥
        failed_now own st g i node same at_st o = elim (stack_put (with_status Failed own) s.stacks at_st) [
          | inl new ↦ failed_is_marked (ap (λ (y : Stack). y.status) new.1 ∙ o.unmarked)
          | inr was ↦ was.0 (ap (λ (y : Stack). y.name) same)
        ]

        by : (ls : List Letter) (failed : Option Stack) → Falls s j ls failed
            → Grounds (applied (mark_failed failed) (failed_to s e r ls))
            → Covered (applied (mark_failed failed) (failed_to s e r ls))
        by ls failed (overrun _ old k) c = one_job s (failed_to s e r ls) h c (λ name st at_st unmarked. at_st)
            (stacks_same s.stacks) refl e j its
            (but_put s (failed_row r) j.row (row-key s.rows j.row r at))
            (stay_of (failed_to s e r ls) j.letter.stack j.row ls k refl)
            (λ f o at_o ne. job_kept e s.jobs f ne ∙ at_o)
            (λ st g i node o at_st to.
            absurd (overrun_is_old s h e j its old st (to_is_newest s st i j.letter o.in_table to)))
            (λ st g i node o at_st stale is to. told
            (failed_to s e r ls) j.letter.stack j.row ls k refl st g i node o is to)
        by ls failed (marked k ne) c = one_job s (failed_to s e r []) h c (λ name st at_st unmarked. at_st)
            (stacks_same s.stacks) refl e j its
            (but_put s (failed_row r) j.row (row-key s.rows j.row r at)) (λ n l at_l. at_l)
            (λ f o at_o ne. job_kept e s.jobs f ne ∙ at_o)
            (λ st g i node o at_st to.
            absurd (ne (ap (λ (y : Stack). y.status) (same_own k st g i node o to) ∙ o.unmarked)))
            (λ st g i node o at_st stale is to. absurd (not_stale s j.letter k.stack (fresh_newest k) stale))
        by ls failed (marks k unmarked) c = one_job s (applied (mark_failed (Some k.stack)) (failed_to s e r [])) h c
            (unmarked_put s.stacks k.stack Failed failed_is_marked)
            (stacks_marked s.stacks j.letter.stack k.stack Failed k.names.in_table) refl e j its
            (but_put s (failed_row r) j.row (row-key s.rows j.row r at)) (λ n l at_l. at_l)
            (λ f o at_o ne. job_kept e s.jobs f ne ∙ at_o)
            (λ st g i node o at_st to. absurd (failed_now k.stack st g i node (same_own k st g i node o to) at_st o))
            (λ st g i node o at_st stale is to. absurd (not_stale s j.letter k.stack (fresh_newest k) stale))
