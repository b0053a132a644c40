-- After a finish the rows of its stack fit.
use Rattle.std.proofs.Common.{◌≡◌, ◌≢◌, inl, inr, ℕ, List, [], Option, Some, None, refl, sym, ap, ◌∙◌, subst}
use Rattle.std.specs.Prelude.{Contains, slice_get, unwrap_or}
use Rattle.heat_plan.specs.Plans.{names_of}
use Rattle.heat_plan.specs.declared.phase.Act.{Act}
use Rattle.heat_plan.specs.declared.phase.Act.TheVariants.{Create, Delete, Init, Rollback, Update}
use Rattle.heat_plan.specs.declared.phase.Status.TheVariants.{Complete}
use Rattle.eval_words.specs.Resolve.{Props}
use Rattle.traversal_graph.specs.declared.shape.Node.{Node}
use Rattle.traversal_graph.specs.declared.shape.Node.TheVariants.{C, U}
use Rattle.traversal_graph.specs.declared.shape.TravGraph.{TravGraph}
use Rattle.row_table.specs.Rows.{row_at}
use Rattle.row_table.specs.declared.row.Row.{Row}
use Rattle.core_state.specs.Changes.{applied, apply}
use Rattle.core_state.specs.Reads.{IsDone}
use Rattle.core_state.specs.State.{StateData, cut_stack, put_stack, stack_at}
use Rattle.core_state.specs.declared.change.Change.TheVariants.{PutStack}
use Rattle.core_state.specs.declared.graph.Graph.{Graph}
use Rattle.core_state.specs.declared.stack.Stack.{Stack}
use Rattle.step_relation.specs.Finishes.{Finishes, finished_changes, given_input, graph_then}
use Rattle.step_relation.specs.Freshness.{plan_of}
use Rattle.step_relation.specs.Rows.{unlocked}
use Rattle.step_relation.specs.Targets.{IsTarget}
use Rattle.step_relation.specs.Writes.{mark_complete}
use Rattle.step_relation.specs.GraphFits.{Aims, GraphFits, IsNode, Sweeps, graph_of}
use Rattle.step_relation.specs.MailFits.{JobFits}
use Rattle.step_relation.specs.RowsFit.{IsBegun, IsMade, IsWanted, Resolves, RowsFit}
use Rattle.step_relation.specs.Sound.{Standing}
use Rattle.graph_laws.proofs.fits.Own.{fit_restated}
use Rattle.graph_laws.proofs.fits.Rewrites.{SameFit, SameFit-same}
use Rattle.graph_laws.proofs.graphs.Carried.{aims_fits}
use Rattle.graph_laws.proofs.graphs.Finished.{rows_then}
use Rattle.graph_laws.proofs.graphs.Restated.{restated}
use Rattle.graph_laws.specs.graphs.Laws.{GraphsFit}
use Rattle.graph_laws.proofs.marks.Below.{passed_done}
use Rattle.graph_laws.proofs.marks.Finish.{after, finished_is, graph_same, its_graph, made, node_is, put_last, ready_then}
use Rattle.graph_laws.proofs.marks.Finish.{resolves_then}
use Rattle.graph_laws.proofs.marks.Rows.{aims_now}
use Rattle.history_laws.proofs.tables.Facts.{job_fits, named_fits, named_rows}
use Rattle.history_laws.proofs.tables.Rows.{row_put, row_self, same_some, stack-key, stack_gone}
use Rattle.history_laws.proofs.tables.Targets.{cleanup_target, target_once}

-- a row then was there, but for its engine
unlocked_was : (rows : List Row) (m : ℕ) (r : Option Row) → row_at rows m ≡ r → (n : ℕ) (a : Row) → row_at
    (rows_then r rows) n ≡ Some a
    → (o : Row) × (row_at rows n ≡ Some o) × SameFit o a
unlocked_was rows m None at n a at_n = (a, at_n, SameFit-same a)
unlocked_was rows m (Some r) at n a at_n = elim (row_put (unlocked r) rows at_n) [
  | inl new ↦ (
    r,
    subst (λ (x : ℕ). row_at rows x ≡ Some r) new.0 (row_self rows m r at),
    subst (SameFit r) new.1
        (record {
          no_ = refl;
          stack = refl;
          name = refl;
          act = refl;
          status = refl;
          trav = refl;
          replaced_by = refl;
          kind = refl;
          props = refl;
        }),
  )
  | inr old ↦ (a, old.1, SameFit-same a)
]

module _ (s : StateData) (S : Standing s) (e : ℕ) (k : Finishes s e) where
  abbrev st : Stack
  st = k.fresh.stack

  abbrev g : Graph
  g = k.fresh.graph

  abbrev i0 : ℕ
  i0 = k.job.letter.node

  abbrev pg : Graph
  pg = graph_then s e k

  fits : GraphFits s st g
  fits = named_fits s S k.job.letter st g k.fresh.node k.fresh.names

  old : RowsFit s st g
  old = named_rows s S k.job.letter st g k.fresh.node k.fresh.names

  f : JobFits s k.job st g k.fresh.node
  f = job_fits s S e k.job st g k.fresh.node k.works.its k.fresh.names

  node_was : (i : ℕ) (node : Node) → IsNode pg i node → IsNode g i node
  node_was i node at = subst (λ (x : TravGraph). slice_get x.nodes i ≡ Some node) (graph_same s S e k) at

  module _ (t : StateData) (rows : t.rows ≡ rows_then k.fresh.row s.rows) (F : GraphFits t st pg) where
    row_was : (n : ℕ) (a : Row) → row_at t.rows n ≡ Some a → (o : Row) × (row_at s.rows n ≡ Some o) × SameFit o a
    row_was n a at = unlocked_was s.rows k.job.row k.fresh.row k.fresh.found n a
        (subst (λ (xs : List Row). row_at xs n ≡ Some a) rows at)

    aims_was : (i : ℕ) (word : List ℕ) (a : Row) → Aims t st pg i word a →
        (o : Row) × SameFit o a × Aims s st g i word o
    aims_was i word a c =
        let fit = aims_fits t st pg F.targets i word a c in
        let (o, at, like) = row_was a.no a c.found in (
          o,
          like,
          aims_now s st g fits S.links.current i c.chosen word (node_was i (U word c.chosen) c.node) o
              (row_self s.rows a.no o at)
              (sym like.stack ∙ fit.is.stack_is) (sym like.name ∙ fit.is.name_is)
              (record {
                kept = λ d. fit.is.current.kept (like.act ∙ d);
                last =
                    sym like.replaced_by ∙ fit.is.current.last;
              }),
        )

    begun : (i : ℕ) (word : List ℕ) (a : Row) → Aims t st pg i word a → a.trav ≡ st.trav → a.act ≢ Init
        → IsBegun st pg i word a
    begun i word a c newest act =
        let (o, like, was) = aims_was i word a c in
        let b = old.begun i word o was (sym like.trav ∙ newest) (λ d. act (like.act ∙ d)) in record {
          ready = ready_then s S e k i b.ready;
          item = b.item;
          asked = b.asked;
          kind = ap (λ x. x.name) like.kind ∙ b.kind;
          props = resolves_then s S e k i word (Props (unwrap_or a.target a.props)) b.ready
              (subst (λ p. Resolves st g i word (Props p)) (sym like.props) b.props);
        }

    made_so : (o a : Row) → SameFit o a → IsMade st o → IsMade st a
    made_so o a like m = record {
      status = like.status ∙ m.status;
      newest = like.trav ∙ m.newest;
      begun =
          λ d. m.begun (sym like.act ∙ d);
    }

    made_here : (word : List ℕ) (o : Row) → Aims s st g i0 word o → IsMade st o
    made_here word o c =
        let m = made s S e k word c.chosen c.node in
        let to = subst (λ (x : Node). IsTarget s.rows st.name x k.job.row)
        (node_is s S e k (U word c.chosen) c.node) f.target in
        let number : o.no ≡ k.job.row = target_once s.rows st.name (U word c.chosen) o.no k.job.row c.to to in
        let same : m.row ≡ o = same_some m.row o m.found
        (subst (λ (x : ℕ). row_at s.rows x ≡ Some o) number c.found) in
        subst (IsMade st) same (record {
          status = m.status;
          newest = m.newest ∙ sym k.fresh.names.newest;
          begun =
              m.begun;
        })

    done_made : (i : ℕ) (word : List ℕ) (a : Row) → Aims t st pg i word a → IsDone pg i → IsMade st a
    done_made i word a c done =
        let (o, like, was) = aims_was i word a c in
        made_so o a like (elim (passed_done g i0 (given_input s e k) k.succs i done) [
          | inl here ↦ made_here word o (subst (λ (x : ℕ). Aims s st g x word o) here was)
          | inr before ↦ old.made i word o was before
        ])

    wanted_so : (o a : Row) → SameFit o a → IsWanted st o → IsWanted st a
    wanted_so o a like w = record {
      current = record { kept = λ d. w.current.kept (sym like.act ∙ d); last = like.replaced_by ∙ w.current.last };
      planned = subst (Contains (names_of (plan_of st.plan).items)) (sym like.name) w.planned;
    }

    cleaned : (i : ℕ) (a : Row) → Sweeps t pg i a → IsDone pg i → IsWanted st a
    cleaned i a c done =
        let (o, at, like) = row_was a.no a c.found in
        let node = node_was i (C a.no) c.node in
        wanted_so o a like (elim (passed_done g i0 (given_input s e k) k.succs i done) [
          | inl here ↦
              let mine : IsNode g i0 (C a.no) = subst (λ (x : ℕ). IsNode g x (C a.no)) here node in
              let is = node_is s S e k (C a.no) mine in
              let number : a.no ≡ k.job.row = cleanup_target s.rows st.name a.no k.job.row
              (subst (λ (x : Node). IsTarget s.rows st.name x k.job.row) is f.target) in
              f.ends_cleanup a.no o is k.works.stage_is (subst (λ (x : ℕ). row_at s.rows x ≡ Some o) number at)
          | inr before ↦ old.cleaned i o (record {
            node = subst
                (λ (x : ℕ). IsNode g i (C x)) like.no_ node;
            found = row_self s.rows a.no o at;
          }) before
        ])

    fit_on : RowsFit t st pg
    fit_on = record { begun = begun; made = done_made; cleaned = cleaned }

  abbrev own : List ℕ
  own = k.job.letter.stack

  abbrev then : StateData
  then = after s S e k

  here : GraphsFit then → (st' : Stack) → stack_at s.stacks own ≡ Some st' → RowsFit then st' (graph_of then own)
  here G st' at =
      let is : st ≡ st' = same_some st st' k.fresh.names.in_table at in
      subst (λ (y : Stack). RowsFit then y (graph_of then own)) is
      (subst (RowsFit then st) (sym (its_graph s S e k))
      (fit_on then refl (subst (GraphFits then st) (its_graph s S e k) (G own st k.fresh.names.in_table))))

  pub own_finished : (t : StateData) → t ≡ applied (finished_changes s e k []) s → GraphsFit t → (st' : Stack)
      → stack_at t.stacks own ≡ Some st' → RowsFit t st' (graph_of t own)
  own_finished t is G st' at =
      let same : t ≡ then = is ∙ finished_is s S e k [] in
      subst (λ (y : StateData). RowsFit y st' (graph_of y own)) (sym same)
      (here (subst GraphsFit same G) st' (subst (λ (y : StateData). stack_at y.stacks own ≡ Some st') same at))

  called : st.name ≡ own
  called = stack-key s.stacks own st k.fresh.names.in_table

  -- behind the mark
  put_fits : (a : Act) → a ≡ st.act → (u : StateData) → u ≡ apply
      (PutStack (record st { act = a; status = Complete })) then → GraphsFit u
      → (st' : Stack) → stack_at (put_stack (record st { act = a; status = Complete }) s.stacks) own ≡ Some st'
      → RowsFit u st' (graph_of u own)
  put_fits a is u u_is G st' at =
      subst (λ (y : StateData). RowsFit y st' (graph_of y own)) (sym u_is) (go (subst GraphsFit u_is G)) where
        go : GraphsFit (apply (PutStack (record st { act = a; status = Complete })) then) → RowsFit
            (apply (PutStack (record st { act = a; status = Complete })) then) st'
            (graph_of (apply (PutStack (record st { act = a; status = Complete })) then) own)
        go G' =
            let put = put_last s S e k a st' at in
            let marked : GraphFits (apply (PutStack (record st { act = a; status = Complete })) then)
            (record st { act = a; status = Complete }) pg =
            subst (GraphFits (apply (PutStack (record st { act = a; status = Complete })) then)
            (record st { act = a; status = Complete })) (its_graph s S e k)
            (subst (λ (y : Stack). GraphFits (apply (PutStack (record st { act = a; status = Complete })) then) y
            (graph_of (apply (PutStack (record st { act = a; status = Complete })) then) own)) (sym put)
            (G' own st' at)) in
            subst (λ (y : Stack). RowsFit (apply (PutStack (record st { act = a; status = Complete })) then) y
            (graph_of (apply (PutStack (record st { act = a; status = Complete })) then) own)) put
            (subst (RowsFit (apply (PutStack (record st { act = a; status = Complete })) then)
            (record st { act = a; status = Complete })) (sym (its_graph s S e k))
            (by_act a is (apply (PutStack (record st { act = a; status = Complete })) then) refl marked)) where
              by_act : (b : Act) → b ≡ st.act → (v : StateData) → v.rows ≡ rows_then k.fresh.row s.rows → GraphFits v
                  (record st { act = b; status = Complete }) pg
                  → RowsFit v (record st { act = b; status = Complete }) pg
              by_act b same v rows F =
                  subst (λ (c : Act). GraphFits v (record st { act = c; status = Complete }) pg → RowsFit v
                  (record st { act = c; status = Complete }) pg) (sym same)
                  (λ (F' : GraphFits v (record st { status = Complete }) pg). fit_restated v st pg Complete
                  (fit_on v rows (restated v (record st { status = Complete }) pg st.status F'))) F

  last_here : (a : Act) → a ≡ st.act → (u : StateData) → u ≡ applied (mark_complete (record st { act = a })) then
      → GraphsFit u → (st' : Stack)
      → stack_at (applied (mark_complete (record st { act = a })) then).stacks own ≡ Some st' → RowsFit u st'
      (graph_of u own)
  last_here Delete is u u_is G st' at = absurd (none at) where
    none : stack_at (cut_stack st.name s.stacks) own ≡ Some st' → ⊥
    none found =
        let gone : stack_at (cut_stack st.name s.stacks) own ≡ None = subst
        (λ (y : List ℕ). stack_at (cut_stack st.name s.stacks) y ≡ None) called (stack_gone st.name s.stacks) in
        cc
  last_here Init is u u_is G st' at = put_fits Init is u u_is G st' at
  last_here Create is u u_is G st' at = put_fits Create is u u_is G st' at
  last_here Update is u u_is G st' at = put_fits Update is u u_is G st' at
  last_here Rollback is u u_is G st' at = put_fits Rollback is u u_is G st' at

  pub own_last : (t : StateData) → t ≡ applied (finished_changes s e k (mark_complete st)) s → GraphsFit t →
      (st' : Stack)
      → stack_at t.stacks own ≡ Some st' → RowsFit t st' (graph_of t own)
  own_last t is G st' at =
      let same : t ≡ applied (mark_complete st) then = is ∙ finished_is s S e k (mark_complete st) in
      last_here st.act refl t same G st' (subst (λ (y : StateData). stack_at y.stacks own ≡ Some st') same at)
