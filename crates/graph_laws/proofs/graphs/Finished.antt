-- Graphs fit after a finish, with or without the mark that it brings: `finish_keeps` and `finish_marks`.
use Rattle.std.proofs.Common.{◌≡◌, ◌≢◌, ◌↔◌, inl, inr, ℕ, List, [], ◌∷◌, ◌++◌, map, None, Option, Some, refl, sym, ap}
use Rattle.std.proofs.Common.{◌∙◌, subst}
use Rattle.std.specs.Prelude.{Contains}
use Rattle.heat_plan.specs.declared.phase.Act.{Act}
use Rattle.heat_plan.specs.declared.phase.Act.TheVariants.{Create, Delete, Init, Rollback, Update}
use Rattle.heat_plan.specs.declared.phase.Status.TheVariants.{Complete}
use Rattle.traversal_graph.specs.Builds.{Joins}
use Rattle.traversal_graph.specs.declared.shape.Node.{Node}
use Rattle.traversal_graph.specs.declared.shape.Node.TheVariants.{C, U}
use Rattle.row_table.specs.Rows.{put_row, row_at}
use Rattle.row_table.specs.declared.row.Row.{Row}
use Rattle.sync_points.specs.declared.point.Input.{Input}
use Rattle.sync_points.specs.declared.point.Point.{Point}
use Rattle.mail_table.specs.Mails.{cut_job}
use Rattle.core_state.specs.Changes.{applied, apply, put_point, with_point}
use Rattle.core_state.specs.State.{StateData, cut_stack, graph_at, stack_at}
use Rattle.core_state.specs.declared.change.Change.{Change}
use Rattle.core_state.specs.declared.change.Change.TheVariants.{DropStack, EndJob, PutPoint, Send}
use Rattle.core_state.specs.declared.graph.Graph.{Graph}
use Rattle.core_state.specs.declared.stack.Stack.{Stack}
use Rattle.step_relation.specs.Finishes.{Finishes, finished_changes, given_input, ready_letters}
use Rattle.step_relation.specs.Freshness.{Serves, cleans, updates}
use Rattle.step_relation.specs.Inputs.{input_of, passed, passed_points, point_after, with_points}
use Rattle.step_relation.specs.Rows.{unlocked}
use Rattle.step_relation.specs.Targets.{IsTarget}
use Rattle.step_relation.specs.Writes.{mark_complete, unlock}
use Rattle.step_relation.specs.GraphFits.{GraphFits, IsInput, IsNode, graph_of, graph_or, of_c, of_u}
use Rattle.step_relation.specs.Sound.{Standing}
use Rattle.history_laws.proofs.tables.Alike.{Alike-put}
use Rattle.history_laws.proofs.tables.Points.{point_else, point_here}
use Rattle.history_laws.proofs.tables.Rows.{graph-key, graph_kept, row-key, row_here, row_self, same_some, stack-key, stack_cut}
use Rattle.history_laws.proofs.tables.Rows.{text_or_not}
use Rattle.history_laws.proofs.tables.Targets.{SameWay, SameWay-same, target_kept}
use Rattle.graph_laws.specs.graphs.Laws.{GraphsFit}
use Rattle.graph_laws.proofs.graphs.Carried.{graph_carried}
use Rattle.graph_laws.proofs.graphs.Carriers.{carries_same}
use Rattle.graph_laws.proofs.graphs.Gathers.{graph_passed}
use Rattle.graph_laws.proofs.graphs.Kept.{CarriesAll, SameStacks, drawn, draws, sends, sent, stacks_marked, stacks_same}
use Rattle.graph_laws.proofs.graphs.Passed.{passed_is}
use Rattle.graph_laws.proofs.graphs.Placed.{job_graph, job_node, job_ready, job_target}
use Rattle.graph_laws.proofs.graphs.Restated.{restated}
use Rattle.graph_laws.proofs.graphs.Shapes.{carries_shape}

-- the graphs after these points were written, and the rows after one was unlocked, if it stood
abbrev pub written : List Point → List Graph → List Graph
written [] graphs = graphs
written (p ∷ ps) graphs = written ps (put_point p graphs)

abbrev pub rows_then : Option Row → List Row → List Row
rows_then None rows = rows
rows_then (Some r) rows = put_row (unlocked r) rows

pub puts : (ps : List Point) (rest : List Change) (s : StateData)
    → applied (map PutPoint ps ++ rest) s ≡ applied rest (record s { graphs = written ps s.graphs })
puts [] rest s = refl
puts (p ∷ ps) rest s = puts ps rest (apply (PutPoint p) s)

pub unlocks : (r : Option Row) (rest : List Change) (s : StateData)
    → applied (unlock r rest) s ≡ applied rest (record s { rows = rows_then r s.rows })
unlocks None rest s = refl
unlocks (Some r) rest s = refl

module _ (v : ℕ → Point) (name : List ℕ) (stack : (k : ℕ) → (v k).stack ≡ name) where
  pub written_here : (ks : List ℕ) (gs : List Graph) (g : Graph) → graph_at gs name ≡ Some g
      → graph_at (written (map v ks) gs) name ≡ Some (with_points (map v ks) g)
  written_here [] gs g at = at
  written_here (n ∷ ks) gs g at = written_here ks (put_point (v n) gs) (with_point (v n) g)
      (subst (λ (x : List ℕ). graph_at (put_point (v n) gs) x ≡ Some (with_point (v n) g)) (stack n)
      (point_here (v n) gs g (subst (λ (x : List ℕ). graph_at gs x ≡ Some g) (sym (stack n)) at)))

  pub written_else : (ks : List ℕ) (gs : List Graph) (other : List ℕ) → other ≢ name
      → graph_at (written (map v ks) gs) other ≡ graph_at gs other
  written_else [] gs other ne = refl
  written_else (n ∷ ks) gs other ne = written_else ks (put_point (v n) gs) other ne
      ∙ point_else (v n) gs other (λ e. ne (sym e ∙ stack n))

stacks_cut : (name : List ℕ) (stacks : List Stack) → SameStacks stacks (cut_stack name stacks)
stacks_cut name stacks other st at = (st, st.status, (stack_cut name stacks at).1, refl)

module _ (s : StateData) (h : Standing s) (e : ℕ) (k : Finishes s e) where
  abbrev i : ℕ
  i = k.job.letter.node

  abbrev own : List ℕ
  own = k.job.letter.stack

  abbrev st : Stack
  st = k.fresh.stack

  abbrev x : Input
  x = given_input s e k

  abbrev g : Graph
  g = graph_of s own

  abbrev pub v : ℕ → Point
  v = point_after k.fresh.graph i x k.succs

  pub graph_is : g ≡ k.fresh.graph
  graph_is = job_graph s h e k.job k.works.its st k.fresh.graph k.fresh.node k.fresh.names

  its_name : st.name ≡ own
  its_name = stack-key s.stacks own st k.fresh.names.in_table

  carries : (t : StateData) (r : Option Row) → row_at s.rows k.job.row ≡ r → t.rows ≡ rows_then r s.rows
      → CarriesAll s t
  carries t None at same name st' at_st = carries_same s t h name st' at_st same
  carries t (Some r) at same name st' at_st = carries_shape s t h k.job.row r (unlocked r) at same
      (record { no_ = refl; stack = refl; name = refl; act = refl; trav = refl; replaced_by = refl })
      (λ other st'' j m word at_other node f done. refl) name st' at_st

  -- the input that its node gives is of its target
  input_is : (t : StateData) (node : Node) (r : Option Row) → IsNode g i node → IsTarget s.rows st.name node k.job.row
      → row_at s.rows k.job.row ≡ r → t.rows ≡ rows_then r s.rows → Serves st node r
      → IsInput t st g (input_of i node k.job.row r)
  input_is t _ _ node to at same (updates name n item r asked kept) = of_u name (unlocked r) (record {
    chosen = n;
    node = node;
    to = subst (λ (rows : List Row). IsTarget rows st.name (U name n) r.no) (sym same)
        (subst (λ (m : ℕ). IsTarget (put_row (unlocked r) s.rows) st.name (U name n) m)
        (sym (row-key s.rows k.job.row r at))
        (target_kept s.rows (put_row (unlocked r) s.rows)
        (Alike-put SameWay SameWay-same r (unlocked r) s.rows (row_self s.rows k.job.row r at)
        (record { no_ = refl; stack = refl; name = refl; act = refl; replaced_by = refl })) st.name
        (U name n) k.job.row to));
    found = subst (λ (rows : List Row). row_at rows r.no ≡ Some (unlocked r)) (sym same) (row_here (unlocked r) s.rows);
  }) refl (sym (row-key s.rows k.job.row r at)) refl
  input_is t _ _ node to at same (cleans n r) = of_c n node refl refl refl

  input_from : (node : Node) (r : Option Row) → (input_of i node k.job.row r).from ≡ i
  input_from (U name n) r = refl
  input_from (C n) r = refl

  -- of any state with these rows, stacks and graphs
  module _ (t : StateData) (rows : t.rows ≡ rows_then k.fresh.row s.rows) (stacks : SameStacks s.stacks t.stacks)
      (others : (name : List ℕ) → name ≢ own → graph_of t name ≡ graph_of s name)
      (mine : (st' : Stack) → stack_at t.stacks own ≡ Some st'
      → graph_of t own ≡ passed k.fresh.graph i x k.succs) where
    its : IsInput t st g x
    its = input_is t k.fresh.node k.fresh.row
        (job_node s h e k.job k.works.its st k.fresh.graph k.fresh.node k.fresh.names)
        (job_target s h e k.job k.works.its st k.fresh.graph k.fresh.node k.fresh.names) k.fresh.found rows
        k.fresh.serves

    carried : (name : List ℕ) (o : Stack) → stack_at s.stacks name ≡ Some o → GraphFits t o (graph_of s name)
    carried name o was = graph_carried s t o (graph_of s name) h.links.chained
        (carries t k.fresh.row k.fresh.found rows name o was) (h.shape.graphs name o was)

    passed_fits : GraphFits t st (passed g i x k.succs)
    passed_fits = subst (GraphFits t st) (sym (passed_is g i x k.succs))
        (graph_passed t st g (carried own st k.fresh.names.in_table) i x k.succs (input_from k.fresh.node k.fresh.row)
        (λ n. subst (λ (y : Graph). Contains k.succs n ↔ Joins y.graph.edges i n) (sym graph_is) (k.behind.each n))
        k.fresh.node (job_node s h e k.job k.works.its st k.fresh.graph k.fresh.node k.fresh.names)
        (job_ready s h e k.job k.works.its st k.fresh.graph k.fresh.node k.fresh.names) its)

    fits : (name : List ℕ) (o : Stack) → stack_at s.stacks name ≡ Some o → (st' : Stack)
        → stack_at t.stacks name ≡ Some st'
        → GraphFits t o (graph_of t name)
    fits name o was st' at = elim (text_or_not name own) [
      | inl is ↦
          let same : st ≡ o = same_some st o k.fresh.names.in_table
          (subst (λ (y : List ℕ). stack_at s.stacks y ≡ Some o) is was) in
          let then : graph_of t name ≡ passed g i x k.succs =
          ap (graph_of t) is ∙ (mine st' (subst (λ (y : List ℕ). stack_at t.stacks y ≡ Some st') is at)
          ∙ ap (λ (y : Graph). passed y i x k.succs) (sym graph_is)) in
          subst (GraphFits t o) (sym then)
          (subst (λ (y : Stack). GraphFits t y (passed g i x k.succs)) same passed_fits)
      | inr ne ↦ subst (GraphFits t o) (sym (others name ne)) (carried name o was)
    ]

    finished : GraphsFit t
    finished name st' at = let (o, status, was, is) = stacks name st' at in
        subst (λ (y : Stack). GraphFits t y (graph_of t name)) is
        (restated t o (graph_of t name) status (fits name o was st' at))

  -- the state before the mark
  abbrev pub between : StateData
  between = record s {
    next = drawn s.next (ready_letters s e k) s.next;
    rows = rows_then k.fresh.row s.rows;
    jobs = cut_job e s.jobs;
    graphs = written (passed_points k.fresh.graph i x k.succs) s.graphs;
    letters = sent (ready_letters s e k) s.letters;
  }

  pub comes : (mark : List Change) → applied (finished_changes s e k mark) s ≡ applied mark between
  comes mark =
      draws s.next (ready_letters s e k) (unlock k.fresh.row rest) s
      ∙ (unlocks k.fresh.row rest (record s { next = drawn s.next (ready_letters s e k) s.next })
      ∙ (puts (passed_points k.fresh.graph i x k.succs) (map Send (ready_letters s e k) ++ mark) ended
      ∙ sends (ready_letters s e k) mark
      (record ended { graphs = written (passed_points k.fresh.graph i x k.succs) s.graphs }))) where
        rest : List Change
        rest = EndJob e ∷ (map PutPoint (passed_points k.fresh.graph i x k.succs)
            ++ (map Send (ready_letters s e k) ++ mark))

        ended : StateData
        ended = record s {
          next = drawn s.next (ready_letters s e k) s.next;
          rows = rows_then k.fresh.row s.rows;
          jobs = cut_job e s.jobs;
        }

  pub its_stack : (n : ℕ) → (v n).stack ≡ own
  its_stack n = graph-key s.graphs own k.fresh.graph k.fresh.names.its_graph

  pub others : (name : List ℕ) → name ≢ own → graph_of between name ≡ graph_of s name
  others name ne = ap (graph_or name) (written_else v own its_stack (i ∷ k.succs) s.graphs name ne)

  pub mine : graph_of between own ≡ passed k.fresh.graph i x k.succs
  mine = ap (graph_or own) (written_here v own its_stack (i ∷ k.succs) s.graphs k.fresh.graph k.fresh.names.its_graph)

  unmarked : GraphsFit between
  unmarked = finished between refl (stacks_same s.stacks) others (λ st' at. mine)

  marked : (a : Act) → stack_at s.stacks own ≡ Some (record st { act = a })
      → GraphsFit (applied (mark_complete (record st { act = a })) between)
  marked Delete at = finished (applied (DropStack st.name ∷ []) between) refl (stacks_cut st.name s.stacks)
      (λ name ne. ap (graph_or name) (graph_kept st.name between.graphs name (λ e. ne (sym e ∙ its_name)))
      ∙ others name ne)
      (λ st' there. absurd (gone st' there)) where
        gone : (st' : Stack) → stack_at (cut_stack st.name s.stacks) own ≡ Some st' → ⊥
        gone st' there = (stack_cut st.name s.stacks there).0 its_name
  marked Init at = finished _ refl (stacks_marked s.stacks own (record st { act = Init }) Complete at) others
      (λ st' there. mine)
  marked Create at = finished _ refl (stacks_marked s.stacks own (record st { act = Create }) Complete at) others
      (λ st' there. mine)
  marked Update at = finished _ refl (stacks_marked s.stacks own (record st { act = Update }) Complete at) others
      (λ st' there. mine)
  marked Rollback at = finished _ refl (stacks_marked s.stacks own (record st { act = Rollback }) Complete at) others
      (λ st' there. mine)

  pub finish_keeps : GraphsFit (applied (finished_changes s e k []) s)
  finish_keeps = subst GraphsFit (sym (comes [])) unmarked

  pub finish_marks : GraphsFit (applied (finished_changes s e k (mark_complete st)) s)
  finish_marks = subst GraphsFit (sym (comes (mark_complete st))) (marked st.act k.fresh.names.in_table)
