-- After a finish the mark of its stack fits.
use Rattle.std.proofs.Common.{◌≡◌, inl, inr, ℕ, Bool, true, false, cond, List, [], ◌∷◌, ◌++◌, map, Option, Some, None}
use Rattle.std.proofs.Common.{refl, sym, ap, ◌∙◌, subst}
use Rattle.std.specs.Prelude.{Contains, slice_get, unwrap_or, ◌==◌}
use Rattle.std.proofs.lemmas.Bool.Decides.{eqb_tells}
use Rattle.std.proofs.lemmas.List.Elements.{Contains-append_left}
use Rattle.heat_value.specs.Data.{Members}
use Rattle.heat_plan.specs.declared.facts.KnownFacts.{KnownFacts}
use Rattle.heat_plan.specs.declared.phase.Act.{Act}
use Rattle.heat_plan.specs.declared.phase.Act.TheVariants.{Create, Delete, Init, Rollback, Update}
use Rattle.heat_plan.specs.declared.phase.Status.{Status}
use Rattle.heat_plan.specs.declared.phase.Status.TheVariants.{Complete, Failed, InProgress}
use Rattle.heat_plan.specs.declared.item.Item.{Item}
use Rattle.eval_words.specs.Resolve.{Fault, Props, Resolved, resolve}
use Rattle.traversal_graph.specs.declared.shape.Node.{Node}
use Rattle.traversal_graph.specs.declared.shape.Node.TheVariants.{C, U}
use Rattle.traversal_graph.specs.declared.shape.TravGraph.{TravGraph}
use Rattle.row_table.specs.Rows.{row_at}
use Rattle.row_table.specs.declared.row.Row.{Row}
use Rattle.sync_points.specs.declared.point.Input.{Input}
use Rattle.sync_points.specs.declared.point.Point.{Point}
use Rattle.mail_table.specs.Mails.{cut_job}
use Rattle.mail_table.specs.declared.mail.Letter.{Letter}
use Rattle.core_state.specs.Changes.{applied, apply}
use Rattle.core_state.specs.Reads.{HasInput, IsDone, IsReady}
use Rattle.core_state.specs.State.{StateData, cut_stack, put_stack, stack_at}
use Rattle.core_state.specs.declared.change.Change.{Change}
use Rattle.core_state.specs.declared.change.Change.TheVariants.{EndJob, PutPoint, PutStack, Send}
use Rattle.core_state.specs.declared.graph.Graph.{Graph}
use Rattle.core_state.specs.declared.stack.Stack.{Stack}
use Rattle.step_relation.specs.Finishes.{Finishes, Settles, finished_changes, given_input, graph_then, ready_letters}
use Rattle.step_relation.specs.Freshness.{plan_of}
use Rattle.step_relation.specs.Targets.{IsTarget}
use Rattle.step_relation.specs.Inputs.{AllDone, AreKnown, gathered, has_from, input_of, is_among, passed_points}
use Rattle.step_relation.specs.Inputs.{point_after}
use Rattle.step_relation.specs.Writes.{mark_complete, unlock}
use Rattle.step_relation.specs.GraphFits.{Aims, GraphFits, IsNode, graph_of, graph_or}
use Rattle.step_relation.specs.Linked.{Links}
use Rattle.step_relation.specs.MailFits.{HasMade, JobFits}
use Rattle.step_relation.specs.MarkFits.{HasFailure, IsFailed, MarkFits, by_clean_up, by_plan, by_row}
use Rattle.step_relation.specs.RowsFit.{IsBegun, Resolves}
use Rattle.step_relation.specs.Sound.{Standing}
use Rattle.graph_laws.proofs.graphs.Carried.{aims_of}
use Rattle.graph_laws.proofs.graphs.Finished.{puts, rows_then, unlocks, written, written_here}
use Rattle.graph_laws.proofs.graphs.Kept.{drawn, draws, sends, sent}
use Rattle.graph_laws.proofs.graphs.Known.{known_once}
use Rattle.graph_laws.proofs.graphs.Passed.{after_is, among_is, any_at, passed_is}
use Rattle.graph_laws.specs.graphs.Laws.{GraphsFit}
use Rattle.history_laws.proofs.links.Points.{passed_done, points_graph}
use Rattle.graph_laws.proofs.marks.Jobs.{not_complete}
use Rattle.graph_laws.proofs.marks.Moves.{complete_clash, progress_clash}
use Rattle.graph_laws.proofs.marks.Own.{row_unlocked}
use Rattle.graph_laws.proofs.marks.Rows.{RowsMark, failed_again}
use Rattle.history_laws.proofs.tables.Facts.{job_fits, named_fits, named_marks, named_rows}
use Rattle.history_laws.proofs.tables.Rows.{graph-key, same_some, stack-key, stack_gone, stack_here}
use Rattle.history_laws.proofs.tables.Targets.{cleanup_target, target_once}

-- the traversal failed at a node
failed_at : (s : StateData) (st : Stack) (g : Graph) (m : ℕ) → IsFailed s st g m → (node : Node) × IsNode g m node
failed_at s st g m (by_row word r aims status newest) = (U word aims.chosen, aims.node)
failed_at s st g m (by_clean_up r sweeps act status newest) = (C r.no, sweeps.node)
failed_at s st g m (by_plan word n code path at fault) = (U word n, at)

module _ (s : StateData) (S : Standing s) (e : ℕ) (k : Finishes s e) where
  abbrev st : Stack
  st = k.fresh.stack

  abbrev g : Graph
  g = k.fresh.graph

  abbrev i : ℕ
  i = k.job.letter.node

  abbrev pg : Graph
  pg = graph_then s e k

  fits : GraphFits s st g
  fits = named_fits s S k.job.letter st g k.fresh.node k.fresh.names

  f : JobFits s k.job st g k.fresh.node
  f = job_fits s S e k.job st g k.fresh.node k.works.its k.fresh.names

  its_marks : MarkFits s st g
  its_marks = named_marks s S k.job.letter st g k.fresh.node k.fresh.names

  -- the node that ends is none on which the traversal failed
  pub node_is : (node : Node) → IsNode g i node → k.fresh.node ≡ node
  node_is node at = same_some k.fresh.node node k.fresh.names.its_node at

  pub made : (word : List ℕ) (n : ℕ) → IsNode g i (U word n) → HasMade s k.job
  made word n at = f.ends_update word n (node_is (U word n) at) k.works.stage_is

  unfailed : IsFailed s st g i → ⊥
  unfailed (by_row word r aims status newest) =
      let m = made word aims.chosen aims.node in
      let to = subst (λ (x : Node). IsTarget s.rows st.name x k.job.row)
      (node_is (U word aims.chosen) aims.node) f.target in
      let number : r.no ≡ k.job.row = target_once s.rows st.name (U word aims.chosen) r.no k.job.row aims.to to in
      let same : m.row ≡ r = same_some m.row r m.found
      (subst (λ (x : ℕ). row_at s.rows x ≡ Some r) number aims.found) in
      complete_clash m.status (ap (λ (x : Row). x.status) same ∙ status)
  unfailed (by_clean_up r sweeps act status newest) =
      let to = subst (λ (x : Node). IsTarget s.rows st.name x k.job.row) (node_is (C r.no) sweeps.node) f.target in
      let number : r.no ≡ k.job.row = cleanup_target s.rows st.name r.no k.job.row to in
      let w = f.ends_cleanup r.no r (node_is (C r.no) sweeps.node) k.works.stage_is
      (subst (λ (x : ℕ). row_at s.rows x ≡ Some r) number sweeps.found) in
      w.current.kept act
  unfailed (by_plan word n code path at fault) =
      let m = made word n at in
      let to = subst (λ (x : Node). IsTarget s.rows st.name x k.job.row) (node_is (U word n) at) f.target in
      let (q, its) = fits.targets.updates i n word at in
      let number : k.job.row ≡ q.no = target_once s.rows st.name (U word n) k.job.row q.no to its.to in
      let same : m.row ≡ q = same_some m.row q m.found
      (subst (λ (x : ℕ). row_at s.rows x ≡ Some q) (sym number) its.is.found) in
      let aims : Aims s st g i word q = aims_of s st g i n word q at its in
      let begun : IsBegun st g i word q =
      (named_rows s S k.job.letter st g k.fresh.node k.fresh.names).begun i word q aims
      (ap (λ (x : Row). x.trav) (sym same) ∙ (m.newest ∙ sym k.fresh.names.newest))
      (λ act. m.begun (ap (λ (x : Row). x.act) same ∙ act)) in
      props_or_fault (unwrap_or q.target q.props) begun.props fault where
        props_or_fault : (props : Members) → Resolves st g i word (Props props) → Resolves st g i word
            (Fault code path) → ⊥
        props_or_fault props a b =
            let items : a.item ≡ b.item = same_some a.item b.item a.asked b.asked in
            let points : a.point ≡ b.point = same_some a.point b.point a.there b.there in
            let known_b : AreKnown a.point.inputs a.item.needs b.known = subst
            (λ (x : Item). AreKnown a.point.inputs x.needs b.known) (sym items)
            (subst (λ (x : Point). AreKnown x.inputs b.item.needs b.known) (sym points) b.known_are) in
            let known : a.known ≡ b.known =
            known_once s st g fits i a.point a.there a.item.needs a.known b.known a.known_are known_b in
            let result : Props props ≡ Fault code path = sym a.result_is ∙
            (ap (λ (x : Item). resolve (plan_of st.plan) x a.known) items
            ∙ (ap (λ (x : List KnownFacts). resolve (plan_of st.plan) b.item x) known ∙ b.result_is)) in
            cc

  -- an open node of another place stays open, with its inputs
  pub graph_same : pg.graph ≡ g.graph
  graph_same = points_graph (passed_points g i (given_input s e k) k.succs) g

  from_is : (node : Node) (r : Option Row) → (input_of i node k.job.row r).from ≡ i
  from_is (U name n) r = refl
  from_is (C n) r = refl

  abbrev x : Input
  x = given_input s e k

  grows : (test : Bool) (inputs : List Input) (y : Input) → Contains inputs y → Contains
      (cond test (gathered x inputs) inputs) y
  grows false inputs y has = has
  grows true inputs y has = by (has_from x.from inputs) where
    by : (b : Bool) → Contains (cond b inputs (inputs ++ x ∷ [])) y
    by true = has
    by false = Contains-append_left inputs (x ∷ []) y has

  input_then : (m a : ℕ) → HasInput g m a → HasInput pg m a
  input_then m a has =
      let (p, at, after) = after_is g i x k.succs m has.point has.there in
      subst (λ (y : Graph). HasInput y m a) (sym (passed_is g i x k.succs)) (record {
        point = p;
        input = has.input;
        there = at;
        among = subst (λ (xs : List Input). Contains xs has.input) (sym after.inputs)
            (grows (is_among m k.succs) has.point.inputs has.input has.among);
        from = has.from;
      })

  pub ready_then : (m : ℕ) → IsReady g m → IsReady pg m
  ready_then m ready a edge = input_then m a (ready a (subst
      (λ (y : TravGraph). Contains y.edges (a, m)) graph_same edge))

  -- a ready node's inputs are all there already
  stays : (m : ℕ) → IsReady g m → (p : Point) → slice_get g.points m ≡ Some p → cond (is_among m k.succs)
      (gathered x p.inputs) p.inputs ≡ p.inputs
  stays m ready p at = by (is_among m k.succs) refl where
    known : is_among m k.succs ≡ true → has_from x.from p.inputs ≡ true
    known is =
        let has = ready i ((k.behind.each m).0 (among_is m k.succs is)) in
        let same : has.point ≡ p = same_some has.point p has.there at in
        any_at (λ (y : Input). y.from == x.from) p.inputs has.input
        (subst (λ (y : Point). Contains y.inputs has.input) same has.among)
        (test has.input.from x.from (has.from ∙ sym (from_is k.fresh.node k.fresh.row))) where
          test : (a b : ℕ) → a ≡ b → (a == b) ≡ true
          test a b is = elim (eqb_tells a b) [ inl t ↦ t.0 | inr n ↦ absurd (n.1 is) ]

    by : (b : Bool) → is_among m k.succs ≡ b → cond b (gathered x p.inputs) p.inputs ≡ p.inputs
    by false is = refl
    by true is = ap (λ (b : Bool). cond b p.inputs (p.inputs ++ x ∷ [])) (known is)

  pub resolves_then : (m : ℕ) (word : List ℕ) (result : Resolved) → IsReady g m → Resolves st g m word result
      → Resolves st pg m word result
  resolves_then m word result ready r =
      let (p, at, behind) = after_is g i x k.succs m r.point r.there in
      let same : p.inputs ≡ r.point.inputs = behind.inputs ∙ stays m ready r.point r.there in
      subst (λ (y : Graph). Resolves st y m word result) (sym (passed_is g i x k.succs)) (record {
        point = p;
        there = at;
        item = r.item;
        asked = r.asked;
        known = r.known;
        known_are = subst (λ (xs : List Input). AreKnown xs r.item.needs r.known) (sym same) r.known_are;
        result_is = r.result_is;
      })

  -- a failure stays one
  module _ (u : StateData) (fits_u : GraphFits u st pg) (L : Links u) (R : RowsMark st s.rows u.rows) where
    failure_then : HasFailure s st g → HasFailure u st pg
    failure_then h = record {
      i = h.i;
      open_ = record { ready = ready_then h.i h.open_.ready; undone = undone };
      failed = failed_again s u st g pg graph_same (λ m word n code path at fault opened. resolves_then m word
          (Fault code path) opened.ready fault) fits fits_u L.current R
          h.i h.open_ h.failed;
    } where
      undone : IsDone pg h.i → ⊥
      undone d = elim (passed_done g i x k.succs h.i d) [
        | inl here ↦ unfailed (subst (IsFailed s st g) here h.failed)
        | inr was ↦ h.open_.undone was
      ]

    -- not all are done, or the stack has its mark
    pub marks_on : (Settles s e k → ⊥) → MarkFits u st pg
    marks_on unsettled = record {
      complete = (
        λ is. absurd (not_complete s S e k.job st g k.fresh.node k.works.its k.fresh.names is),
        λ all. by st.status refl all,
      );
      failing = λ n r at is status newest. R.failing n r at (record { stack = is; status = status; newest = newest });
      failed = λ status. failure_then (its_marks.failed status);
      act = its_marks.act;
      deletes = its_marks.deletes;
      proper = its_marks.proper;
    } where
      by : (status : Status) → st.status ≡ status → AllDone pg → st.status ≡ Complete
      by Complete is all = is
      by InProgress is all = absurd (unsettled (record { all = all; unmarked = is }))
      by Failed is all =
          let h = failure_then (its_marks.failed is) in
          let (node, at) = failed_at u st pg h.i h.failed in
          absurd (h.open_.undone (all h.i node at))

  -- all are done, and the stack had no mark
  pub marks_all : (t : StateData) → RowsMark st s.rows t.rows → (settles : Settles s e k) → MarkFits t
      (record st { status = Complete }) pg
  marks_all t R settles = record {
    complete = (λ _. settles.all, λ _. refl);
    failing = λ n r at is status newest. absurd (progress_clash settles.unmarked
        (R.failing n r at (record { stack = is; status = status; newest = newest })));
    failed = λ is. cc;
    act = its_marks.act;
    deletes = its_marks.deletes;
    proper = its_marks.proper;
  }

  abbrev own : List ℕ
  own = k.job.letter.stack

  abbrev ls : List Letter
  ls = ready_letters s e k

  -- the state before the mark
  abbrev pub after : StateData
  after = record s {
    next = drawn s.next ls s.next;
    rows = rows_then k.fresh.row s.rows;
    jobs = cut_job e s.jobs;
    graphs = written (passed_points g i x k.succs) s.graphs;
    letters = sent ls s.letters;
  }

  pub finished_is : (mark : List Change) → applied (finished_changes s e k mark) s ≡ applied mark after
  finished_is mark =
      draws s.next ls (unlock k.fresh.row (EndJob e ∷ (map PutPoint (passed_points g i x k.succs) ++
      (map Send ls ++ mark)))) s
      ∙ (unlocks k.fresh.row (EndJob e ∷ (map PutPoint (passed_points g i x k.succs) ++ (map Send ls ++ mark)))
      (record s { next = drawn s.next ls s.next })
      ∙ (puts (passed_points g i x k.succs) (map Send ls ++ mark)
      (record s { next = drawn s.next ls s.next; rows = rows_then k.fresh.row s.rows; jobs = cut_job e s.jobs })
      ∙ sends ls mark (record s {
        next = drawn s.next ls s.next;
        rows = rows_then k.fresh.row s.rows;
        jobs = cut_job e s.jobs;
        graphs = written (passed_points g i x k.succs) s.graphs;
      })))

  pub its_graph : graph_of after own ≡ pg
  its_graph = ap (graph_or own) (written_here (point_after g i x k.succs) own
      (λ n. graph-key s.graphs own g k.fresh.names.its_graph) (i ∷ k.succs) s.graphs g k.fresh.names.its_graph)

  rows_is : (r : Option Row) → (applied (unlock r []) s).rows ≡ rows_then r s.rows
  rows_is None = refl
  rows_is (Some r) = refl

  its_rows : RowsMark st s.rows (rows_then k.fresh.row s.rows)
  its_rows = subst (RowsMark st s.rows) (rows_is k.fresh.row)
      (row_unlocked s S own st k.fresh.names.in_table k.job.row k.fresh.row k.fresh.found)

  here : GraphsFit after → Links after → (Settles s e k → ⊥) → (st' : Stack) → stack_at s.stacks own ≡ Some st'
      → MarkFits after st' (graph_of after own)
  here G L unsettled st' at =
      let is : st ≡ st' = same_some st st' k.fresh.names.in_table at in
      subst (λ (y : Stack). MarkFits after y (graph_of after own)) is
      (subst (MarkFits after st) (sym its_graph)
      (marks_on after (subst (GraphFits after st) its_graph (G own st k.fresh.names.in_table)) L its_rows unsettled))

  pub own_finished : (Settles s e k → ⊥) → (t : StateData) → t ≡ applied (finished_changes s e k []) s → GraphsFit t
      → Links t → (st' : Stack)
      → stack_at t.stacks own ≡ Some st' → MarkFits t st' (graph_of t own)
  own_finished unsettled t is G L st' at =
      let same : t ≡ after = is ∙ finished_is [] in
      subst (λ (y : StateData). MarkFits y st' (graph_of y own)) (sym same)
      (here (subst GraphsFit same G) (subst Links same L) unsettled st'
      (subst (λ (y : StateData). stack_at y.stacks own ≡ Some st') same at))

  called : st.name ≡ own
  called = stack-key s.stacks own st k.fresh.names.in_table

  pub put_last : (a : Act) (st' : Stack) → stack_at (put_stack
      (record st { act = a; status = Complete }) s.stacks) own ≡ Some st'
      → record st { act = a; status = Complete } ≡ st'
  put_last a st' at = same_some _ st'
      (subst (λ (y : List ℕ). stack_at (put_stack (record st { act = a; status = Complete }) s.stacks) y ≡ Some
      (record st { act = a; status = Complete })) called
      (stack_here (record st { act = a; status = Complete }) s.stacks)) at

  last_put : Settles s e k → (a : Act) → a ≡ st.act → (st' : Stack) → stack_at
      (put_stack (record st { act = a; status = Complete }) s.stacks) own ≡ Some st'
      → MarkFits (apply (PutStack (record st { act = a; status = Complete })) after) st'
      (graph_of (apply (PutStack (record st { act = a; status = Complete })) after) own)
  last_put settles a is st' at =
      subst (λ (y : Stack). MarkFits (apply (PutStack (record st { act = a; status = Complete })) after) y
      (graph_of (apply (PutStack (record st { act = a; status = Complete })) after) own)) (put_last a st' at)
      (subst (MarkFits (apply (PutStack (record st { act = a; status = Complete })) after)
      (record st { act = a; status = Complete })) (sym its_graph)
      (subst (λ (b : Act). MarkFits (apply (PutStack (record st { act = b; status = Complete })) after)
      (record st { act = b; status = Complete }) pg) (sym is)
      (marks_all (apply (PutStack (record st { status = Complete })) after) its_rows settles)))

  last_here : Settles s e k → (a : Act) → a ≡ st.act → (st' : Stack) → stack_at
      (applied (mark_complete (record st { act = a })) after).stacks own ≡ Some st'
      → MarkFits (applied (mark_complete (record st { act = a })) after) st'
      (graph_of (applied (mark_complete (record st { act = a })) after) own)
  last_here settles Delete is st' at = absurd (none at) where
    none : stack_at (cut_stack st.name s.stacks) own ≡ Some st' → ⊥
    none found =
        let gone : stack_at (cut_stack st.name s.stacks) own ≡ None = subst
        (λ (y : List ℕ). stack_at (cut_stack st.name s.stacks) y ≡ None) called (stack_gone st.name s.stacks) in
        cc
  last_here settles Init is st' at = last_put settles Init is st' at
  last_here settles Create is st' at = last_put settles Create is st' at
  last_here settles Update is st' at = last_put settles Update is st' at
  last_here settles Rollback is st' at = last_put settles Rollback is st' at

  pub own_last : Settles s e k → (t : StateData) → t ≡ applied (finished_changes s e k (mark_complete st)) s →
      (st' : Stack) → stack_at t.stacks own ≡ Some st'
      → MarkFits t st' (graph_of t own)
  own_last settles t is st' at =
      let same : t ≡ applied (mark_complete st) after = is ∙ finished_is (mark_complete st) in
      subst (λ (y : StateData). MarkFits y st' (graph_of y own)) (sym same)
      (last_here settles st.act refl st' (subst (λ (y : StateData). stack_at y.stacks own ≡ Some st') same at))
