-- A call fails; a node is done.
use Rattle.std.proofs.Common.{◌≡◌, ◌<◌, ◌≤◌, inl, inr, ℕ, suc, ◌+◌, List, [], ◌∷◌, ◌++◌, map, Option, Some, None, refl}
use Rattle.std.proofs.Common.{sym, ap, ◌∙◌, subst, arith}
use Rattle.std.specs.Prelude.{Contains, length, slice_get}
use Rattle.std.specs.List.{AllByRecursion}
use Rattle.heat_plan.specs.Plans.{PlanData, names_of}
use Rattle.heat_plan.specs.declared.phase.Act.TheVariants.{Delete}
use Rattle.traversal_graph.specs.declared.shape.Node.{Node}
use Rattle.traversal_graph.specs.declared.shape.Node.TheVariants.{C, U}
use Rattle.traversal_graph.specs.declared.shape.TravGraph.{TravGraph}
use Rattle.row_table.specs.Rows.{row_at}
use Rattle.row_table.specs.declared.row.Row.{Row}
use Rattle.mail_table.specs.Mails.{job_at}
use Rattle.mail_table.specs.declared.mail.Job.{Job}
use Rattle.mail_table.specs.declared.mail.Letter.{Letter}
use Rattle.step_relation.specs.Changes.{applied}
use Rattle.step_relation.specs.State.{StateData}
use Rattle.step_relation.specs.declared.Change.{Change}
use Rattle.step_relation.specs.declared.Change.TheVariants.{EndJob, PutPoint, PutRow, Send}
use Rattle.step_relation.specs.declared.Graph.{Graph}
use Rattle.step_relation.specs.declared.Numbers.{Numbers}
use Rattle.step_relation.specs.declared.Stack.{Stack}
use Rattle.step_relation.specs.Asks.{Falls, failed_changes, marked, marks, overrun}
use Rattle.step_relation.specs.Finishes.{Finishes, finished_changes, given_input, graph_then, ready_letters}
use Rattle.step_relation.specs.Freshness.{plan_of}
use Rattle.step_relation.specs.Inputs.{AllDone, input_of, passed_points}
use Rattle.step_relation.specs.Rows.{failed_row}
use Rattle.step_relation.specs.Targets.{IsTarget}
use Rattle.step_relation.specs.Writes.{letters_to, mark_failed, unlock}
use Rattle.step_relation.specs.Applies.{NoneFalls}
use Rattle.step_relation.specs.GraphFits.{GraphFits, IsNode}
use Rattle.step_relation.specs.Linked.{Links}
use Rattle.step_relation.specs.MailFits.{JobFits}
use Rattle.step_relation.specs.RowsFit.{IsWanted}
use Rattle.step_relation.specs.Sound.{Standing}
use Rattle.history_laws.proofs.links.Numbers.{GraphBelow-rises, LetterFor, PointBelow}
use Rattle.history_laws.proofs.links.Points.{passed_below, passed_done, points_graph}
use Rattle.history_laws.proofs.links.Rewrites.{Links-ended, Links-left, rewrites_failed}
use Rattle.history_laws.proofs.links.Single.{Links-Numbers, Links-failed, Links-points, Links-sends, MarkFor, NoRow, draws}
use Rattle.history_laws.proofs.links.Single.{letters-below}
use Rattle.history_laws.proofs.links.Takes.{behind, resent_below}
use Rattle.step_relation.specs.Numbered.{StackBelow}
use Rattle.history_laws.proofs.tables.Facts.{job_fits, named_fits, named_marks, named_rows, named_stack}
use Rattle.history_laws.proofs.tables.Rows.{row-key, row_self, same_some}
use Rattle.history_laws.proofs.tables.Targets.{cleanup_target}

-- the row fails, the job ends, letters are sent, and the stack may be marked
module _ (s : StateData) (h : Links s) (e : ℕ) (j : Job) (its : job_at s.jobs e ≡ Some j) (r : Row)
    (at : row_at s.rows j.row ≡ Some r) where
  fails : (letters : List Letter) (failed : Option Stack)
      → ((next : Numbers) → s.next.letter + length letters ≤ next.letter → next.trav ≡ s.next.trav → AllByRecursion
      (LetterFor next) letters)
      → ((next : Numbers) → NoneFalls s.next next → MarkFor next failed)
      → Links (applied (failed_changes s e r letters failed) s)
  fails letters failed below mark = draws Links s letters
      (PutRow (failed_row r) ∷ EndJob e ∷ (map Send letters ++ mark_failed failed)) more where
        more : (next : Numbers) → NoneFalls s.next next → s.next.letter + length letters ≤ next.letter
            → next.trav ≡ s.next.trav
            → Links (applied (PutRow (failed_row r) ∷ EndJob e ∷ (map Send letters ++ mark_failed failed))
            (record s { next = next }))
        more next up le same =
            let t = record s { next = next } in
            let h_t : Links (record s { next = next }) = Links-Numbers s next up h in
            Links-sends (applied (PutRow (failed_row r) ∷ EndJob e ∷ []) (record s { next = next })) letters
            (mark_failed failed) (below next le same)
            (λ u same_next _ h_u. Links-failed u failed (subst (λ (n : Numbers). MarkFor n failed) (sym same_next)
            (mark next up)) h_u)
            (Links-left (record s { next = next }) h_t e j its r (failed_row r) at refl refl
            (rewrites_failed (record s { next = next }) h_t j.row r at))

  stack_rises : (st : Stack) → StackBelow s.next.stack s.next.trav st → (next : Numbers) → NoneFalls s.next next
      → StackBelow next.stack next.trav st
  stack_rises st b next up = record {
    no_ = let l = b.no_ in let m = up.stack in omega arith;
    newest = let l = b.newest in let m = up.trav in omega arith;
  }

  pub Links-call_failed : (letters : List Letter) (failed : Option Stack) → Falls s j letters failed
      → Links (applied (failed_changes s e r letters failed) s)
  Links-call_failed _ _ (overrun letters stale resends) =
      fails letters None (resent_below s h j.letter.stack j.row letters resends) (λ next up st is. cc)
  Links-call_failed _ _ (marked k other) = fails [] None (λ next le same. tt) (λ next up st is. cc)
  Links-call_failed _ _ (marks k is) = fails [] (Some k.stack) (λ next le same. tt) below where
    below : (next : Numbers) → NoneFalls s.next next → MarkFor next (Some k.stack)
    below next up st same =
        let is_st : k.stack ≡ st = cc in
        subst (StackBelow next.stack next.trav) is_st (stack_rises k.stack
        (h.numbered.stacks j.letter.stack k.stack k.names.in_table) next up)

letters_length : (st : Stack) (n : ℕ) (ks : List ℕ) → length (letters_to st n ks) ≡ length ks
letters_length st n [] = refl
letters_length st n (k ∷ ks) = ap suc (letters_length st (n + 1) ks)

module _ (s : StateData) (S : Standing s) (e : ℕ) (k : Finishes s e) where
  h : Links s
  h = S.links

  abbrev st : Stack
  st = k.fresh.stack

  abbrev g : Graph
  g = k.fresh.graph

  abbrev node : Node
  node = k.fresh.node

  input_below : (node : Node) → IsNode g k.job.letter.node node →
      (input_of k.job.letter.node node k.job.row k.fresh.row).row < s.next.row
  input_below (U name n) at = (h.numbered.jobs e k.job k.works.its).its_row
  input_below (C n) at = (h.numbered.graphs k.job.letter.stack g k.fresh.names.its_graph).nodes k.job.letter.node
      (C n) at

  pub st_below : (next : Numbers) → NoneFalls s.next next → StackBelow next.stack next.trav st
  st_below next up = let b = h.numbered.stacks k.job.letter.stack st k.fresh.names.in_table in record {
    no_ = let l = b.no_ in let m = up.stack in omega arith;
    newest = let l = b.newest in let m = up.trav in omega arith;
  }

  unlocked_rows : (r : Option Row) (next : Numbers)
      → (applied (unlock r (EndJob e ∷ [])) (record s { next = next })).rows ≡
      (applied (unlock r (EndJob e ∷ [])) s).rows
  unlocked_rows None next = refl
  unlocked_rows (Some r) next = refl

  module _ (mark : List Change)
      (marked : (t : StateData) → NoneFalls s.next t.next → t.rows ≡
      (applied (unlock k.fresh.row (EndJob e ∷ [])) s).rows → Links t → Links (applied mark t)) where
    abbrev rest : List Change
    rest = map PutPoint (passed_points g k.job.letter.node (given_input s e k) k.succs) ++
        (map Send (ready_letters s e k) ++ mark)

    module _ (next : Numbers) (up : NoneFalls s.next next)
        (le : s.next.letter + length (ready_letters s e k) ≤ next.letter) (same : next.trav ≡ s.next.trav) where
      points_below : AllByRecursion (PointBelow next.row)
          (passed_points g k.job.letter.node (given_input s e k) k.succs)
      points_below =
          passed_below next.row g (GraphBelow-rises s.next next up g
          (h.numbered.graphs k.job.letter.stack g k.fresh.names.its_graph)) k.job.letter.node
          (given_input s e k) (let l = input_below node k.fresh.names.its_node in let m = up.row in
          omega arith) k.succs

      letters_below : AllByRecursion (LetterFor next) (ready_letters s e k)
      letters_below =
          let b = (h.numbered.stacks k.job.letter.stack st k.fresh.names.in_table).newest in
          letters-below next s.next.letter st k.ready (omega arith)
          (rw (letters_length st s.next.letter k.ready) at le)

      behind_end : (t : StateData) → t.next ≡ next → t.rows ≡
          (applied (unlock k.fresh.row (EndJob e ∷ [])) (record s { next = next })).rows → Links t
          → Links (applied rest t)
      behind_end t same_next rows h_t =
          Links-points t (passed_points g k.job.letter.node (given_input s e k) k.succs)
          (map Send (ready_letters s e k) ++ mark)
          (subst (λ (n : Numbers). AllByRecursion (PointBelow n.row)
          (passed_points g k.job.letter.node (given_input s e k) k.succs)) (sym same_next) points_below)
          (λ u same_u rows_u h_u.
          Links-sends u (ready_letters s e k) mark
          (subst (λ (n : Numbers). AllByRecursion (LetterFor n) (ready_letters s e k))
          (sym (same_u ∙ same_next)) letters_below)
          (λ v same_v rows_v h_v.
          marked v (subst (NoneFalls s.next) (sym (same_v ∙ (same_u ∙ same_next))) up)
          (rows_v ∙ (rows_u ∙ (rows ∙ unlocked_rows k.fresh.row next))) h_v) h_u) h_t

      ends : Links (applied (unlock k.fresh.row (EndJob e ∷ rest)) (record s { next = next }))
      ends =
          behind (record s { next = next }) k.job.row k.fresh.row e rest k.fresh.found
          (λ t same_next _ _ rows h_t. behind_end t same_next rows h_t)
          (Links-ended (record s { next = next })
          (Links-Numbers s next up h) e k.job k.works.its k.fresh.row k.fresh.found)

    pub Links-finished : Links (applied (finished_changes s e k mark) s)
    Links-finished = draws Links s (ready_letters s e k) (unlock k.fresh.row (EndJob e ∷ rest))
        (λ next up le same. ends next up le same)

  -- where a delete is done no row of its stack stands
  module _ (all : AllDone (graph_then s e k)) (act : st.act ≡ Delete) where
    called : st.name ≡ k.job.letter.stack
    called = named_stack s S k.job.letter st g node k.fresh.names

    fits : GraphFits s st g
    fits = named_fits s S k.job.letter st g node k.fresh.names

    unplanned : (word : List ℕ) → Contains (names_of (plan_of st.plan).items) word → ⊥
    unplanned word has = nothing (st.plan)
        ((named_marks s S k.job.letter st g node k.fresh.names).deletes.0 act) has where
          nothing : (p : Option PlanData) → p ≡ None → Contains (names_of (plan_of p).items) word → ⊥
          nothing None is (n, lt, at) = absurd (omega arith)
          nothing (Some p) is has = cc

    unwanted : (r : Row) → IsWanted st r → ⊥
    unwanted r is = unplanned r.name is.planned

    at_end : (i n : ℕ) (r : Row) → IsNode g i (C n) → row_at s.rows n ≡ Some r → i ≡ k.job.letter.node → ⊥
    at_end i n r is at here =
        let at_node : IsNode g k.job.letter.node (C n) = subst (λ (x : ℕ). IsNode g x (C n)) here is in
        let node_is : node ≡ C n = same_some node (C n) k.fresh.names.its_node at_node in
        let f : JobFits s k.job st g node = job_fits s S e k.job st g node k.works.its k.fresh.names in
        let number : n ≡ k.job.row = cleanup_target s.rows st.name n k.job.row
        (subst (λ (x : Node). IsTarget s.rows st.name x k.job.row) node_is f.target) in
        unwanted r (f.ends_cleanup n r node_is k.works.stage_is
        (subst (λ (x : ℕ). row_at s.rows x ≡ Some r) number at))

    graph_same : (graph_then s e k).graph ≡ g.graph
    graph_same = points_graph (passed_points g k.job.letter.node (given_input s e k) k.succs) g

    gone : (n : ℕ) (r : Row) → row_at s.rows n ≡ Some r → r.stack ≡ st.name → ⊥
    gone n r at is = elim (fits.targets.rows n r at is) [
      | inl (i, aims) ↦ unplanned r.name (fits.nodes.only_items i aims.chosen r.name aims.node)
      | inr (i, there) ↦ elim (passed_done g k.job.letter.node (given_input s e k) k.succs i
          (all i (C n) (subst (λ (x : TravGraph). slice_get x.nodes i ≡ Some (C n)) (sym graph_same) there))) [
            | inl here ↦ at_end i n r there at here
            | inr done ↦ unwanted r ((named_rows s S k.job.letter st g node k.fresh.names).cleaned i r
                (record {
                  node = subst (λ (x : ℕ). IsNode g i (C x)) (sym (row-key s.rows n r at)) there;
                  found =
                      row_self s.rows n r at;
                }) done)
          ]
    ]

    pub none_left : NoRow s.rows st.name
    none_left n r at is = gone n r at is
