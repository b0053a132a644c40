-- After each move but a finish the rows of its stack fit.
use Rattle.std.proofs.Common.{◌≡◌, ◌≢◌, ℕ, List, [], Option, Some, None, refl, sym, ap, ◌∙◌, subst, arith}
use Rattle.std.specs.Prelude.{unwrap_or}
use Rattle.heat_value.specs.Data.{Members}
use Rattle.heat_plan.specs.declared.phase.Act.TheVariants.{Delete}
use Rattle.heat_plan.specs.declared.phase.Status.TheVariants.{Complete, InProgress}
use Rattle.eval_words.specs.Resolve.{Props, resolve}
use Rattle.traversal_graph.specs.declared.shape.Node.{Node}
use Rattle.traversal_graph.specs.declared.shape.Node.TheVariants.{C, U}
use Rattle.row_table.specs.Chains.{IsCurrent}
use Rattle.row_table.specs.Rows.{put_row, row_at}
use Rattle.row_table.specs.declared.row.Row.{Row}
use Rattle.mail_table.specs.declared.mail.Letter.{Letter}
use Rattle.core_state.specs.Changes.{applied}
use Rattle.core_state.specs.Reads.{IsDone, IsReady}
use Rattle.core_state.specs.State.{StateData, graph_at, stack_at}
use Rattle.core_state.specs.declared.graph.Graph.{Graph}
use Rattle.core_state.specs.declared.stack.Stack.{Stack}
use Rattle.step_relation.specs.Begins.{Begins, next_row}
use Rattle.step_relation.specs.Cleanups.{Cleans}
use Rattle.step_relation.specs.Freshness.{Names, plan_of}
use Rattle.step_relation.specs.Rows.{deleted_row, replaced, unlocked}
use Rattle.step_relation.specs.Runs.{ResolvesTo}
use Rattle.step_relation.specs.Writes.{unlock}
use Rattle.step_relation.specs.GraphFits.{Aims, GraphFits, IsNode, graph_of, graph_or}
use Rattle.step_relation.specs.RowsFit.{IsBegun, Resolves, RowsFit}
use Rattle.step_relation.specs.Sound.{Standing}
use Rattle.graph_laws.proofs.fits.Own.{fit_restated}
use Rattle.graph_laws.proofs.fits.Rewrites.{FitKinds, SameFit, Suits, kinds_put, kinds_same, never, other, own_fit, same, was}
use Rattle.graph_laws.proofs.graphs.Kept.{SameStacks}
use Rattle.graph_laws.proofs.graphs.Placed.{item_named}
use Rattle.graph_laws.proofs.graphs.Restated.{restated}
use Rattle.graph_laws.specs.graphs.Laws.{GraphsFit}
use Rattle.graph_laws.proofs.marks.Own.{SameThree}
use Rattle.graph_laws.proofs.marks.Rows.{aims_now}
use Rattle.history_laws.proofs.tables.Facts.{graph_here, job_fits, job_target, named_fits}
use Rattle.history_laws.proofs.tables.Rows.{row-key, row_self, same_some}
use Rattle.history_laws.proofs.tables.Targets.{cleanup_target}

-- stacks but for their status and graphs stay, and of this stack the rows fit on
pub record IsQuiet (s t : StateData) (own : List ℕ) : Type 0 where
  pub stacks : SameStacks s.stacks t.stacks
  pub graphs : graph_at t.graphs own ≡ graph_at s.graphs own
  pub rows : (st : Stack) → stack_at s.stacks own ≡ Some st → FitKinds st (graph_of s own) s.rows t.rows

pub quiet_three : (s t u : StateData) (own : List ℕ) → SameThree t u → IsQuiet s t own → IsQuiet s u own
quiet_three s t u own three q = record {
  stacks = subst (SameStacks s.stacks) (sym three.stacks) q.stacks;
  graphs = ap (λ (x : List Graph). graph_at x own) three.graphs ∙ q.graphs;
  rows = λ st at. subst (FitKinds st (graph_of s own) s.rows) (sym three.rows) (q.rows st at);
}

pub own_quiet : (s : StateData) → Standing s → (t : StateData) → GraphsFit t → (own : List ℕ) → IsQuiet s t own →
    (st : Stack)
    → stack_at t.stacks own ≡ Some st → RowsFit t st (graph_of t own)
own_quiet s S t G own q st at =
    let (o, x, at_s, is) = q.stacks own st at in again o x at_s is where
      same_graph : graph_of s own ≡ graph_of t own
      same_graph = sym (ap (graph_or own) q.graphs)

      again : (o : Stack) (x : _) → stack_at s.stacks own ≡ Some o → record o { status = x } ≡ st → RowsFit t st
          (graph_of t own)
      again o x at_s is =
          let marked : GraphFits t (record o { status = x }) (graph_of s own) =
          subst (λ (y : Stack). GraphFits t y (graph_of s own)) (sym is)
          (subst (GraphFits t st) (sym same_graph) (G own st at)) in
          let plain : GraphFits t o (graph_of s own) = restated t (record o { status = x })
          (graph_of s own) o.status marked in
          subst (RowsFit t st) same_graph
          (subst (λ (y : Stack). RowsFit t y (graph_of s own)) is
          (fit_restated t o (graph_of s own) x
          (own_fit s t o (graph_of s own) (S.shape.graphs own o at_s) plain S.links.current (q.rows o at_s)
          (S.shape.rows own o at_s))))

module _ (s : StateData) (S : Standing s) (own : List ℕ) (st : Stack) (at_st : stack_at s.stacks own ≡ Some st) where
  abbrev g : Graph
  g = graph_of s own

  pub rows_same : FitKinds st (graph_of s own) s.rows s.rows
  rows_same = kinds_same st (graph_of s own) s.rows

  -- a row that keeps what is read of it
  pub row_kept : (n : ℕ) (r q : Row) → row_at s.rows n ≡ Some r → SameFit r q → FitKinds st (graph_of s own) s.rows
      (put_row q s.rows)
  row_kept n r q at like =
      let there : row_at s.rows q.no ≡ Some r = subst (λ (k : ℕ). row_at s.rows k ≡ Some r) (sym like.no_)
      (row_self s.rows n r at) in
      kinds_put st (graph_of s own) s.rows s.rows q rows_same (λ is current. same r there like)
      (λ is. was r there like.name (λ c. record {
        kept = λ e. c.kept (sym like.act ∙ e);
        last =
            like.replaced_by ∙ c.last;
      }))

  pub row_unlocked : (n : ℕ) (r : Option Row) → row_at s.rows n ≡ r → FitKinds st (graph_of s own) s.rows
      (applied (unlock r []) s).rows
  row_unlocked n None at = rows_same
  row_unlocked n (Some r) at = row_kept n r (unlocked r) at
      (record {
        no_ = refl;
        stack = refl;
        name = refl;
        act = refl;
        status = refl;
        trav = refl;
        replaced_by =
            refl;
        kind = refl;
        props = refl;
      })

  -- a row that is under way gets another status
  pub row_on : (n : ℕ) (r q : Row) → row_at s.rows n ≡ Some r → r.status ≡ InProgress → q.no ≡ r.no
      → q.stack ≡ r.stack → q.name ≡ r.name → q.act ≡ r.act
      → q.trav ≡ r.trav → q.replaced_by ≡ r.replaced_by → q.kind ≡ r.kind
      → unwrap_or q.target q.props ≡ unwrap_or r.target r.props
      → FitKinds st (graph_of s own) s.rows (put_row q s.rows)
  row_on n r q at way no_ stack name act trav by kind props =
      let there : row_at s.rows q.no ≡ Some r = subst (λ (k : ℕ). row_at s.rows k ≡ Some r) (sym no_)
      (row_self s.rows n r at) in
      kinds_put st (graph_of s own) s.rows s.rows q rows_same
      (λ is current. other (λ i m word node called. suits i m word node called is current))
      (λ is. was r there name (λ c. record { kept = λ e. c.kept (sym act ∙ e); last = by ∙ c.last })) where
        old : RowsFit s st (graph_of s own)
        old = S.shape.rows own st at_st

        suits : (i m : ℕ) (word : List ℕ) → IsNode (graph_of s own) i (U word m) → q.name ≡ word → q.stack ≡ st.name
            → IsCurrent q → Suits st (graph_of s own) i word q
        suits i m word node called is current =
            let aims : Aims s st (graph_of s own) i word r =
            aims_now s st (graph_of s own) (S.shape.graphs own st at_st) S.links.current i m word node r
            (row_self s.rows n r at) (sym stack ∙ is) (sym name ∙ called)
            (record { kept = λ e. current.kept (act ∙ e); last = sym by ∙ current.last }) in record {
              begun = λ newest a.
                  let b = old.begun i word r aims (sym trav ∙ newest) (λ e. a (act ∙ e)) in record {
                    ready = b.ready;
                    item = b.item;
                    asked = b.asked;
                    kind = ap (λ k. k.name) kind ∙ b.kind;
                    props = subst (λ p. Resolves st (graph_of s own) i word (Props p)) (sym props) b.props;
                  };
              made = λ done. let m = old.made i word r aims done in let e : Complete ≡ InProgress =
                  sym m.status ∙ way in cc;
            }

-- a begin at an update node
module _ (s : StateData) (S : Standing s) (e : ℕ) (k : Begins s e) (props : Members)
    (tied : ResolvesTo s e k (Props props)) where
  abbrev i0 : ℕ
  i0 = k.job.letter.node

  fits : GraphFits s k.stack k.graph
  fits = named_fits s S k.job.letter k.stack k.graph (U k.name k.chosen) k.names

  ready : IsReady k.graph i0
  ready = (job_fits s S e k.job k.stack k.graph (U k.name k.chosen) k.works.its k.names).ready

  undone : IsDone k.graph i0 → ⊥
  undone = (job_fits s S e k.job k.stack k.graph (U k.name k.chosen) k.works.its k.names).undone

  begun_as : (q : Row) → q.kind.name ≡ k.item.kind.name → unwrap_or q.target q.props ≡ props
      → IsBegun k.stack k.graph i0 k.name q
  begun_as q kind is = record {
    ready = ready;
    item = k.item;
    asked = k.asked;
    kind = kind;
    props = record {
      point = k.point;
      there = k.its_point;
      item = k.item;
      asked = k.asked;
      known = tied.known;
      known_are = tied.known_are;
      result_is = subst (λ p. resolve (plan_of k.stack.plan) k.item tied.known ≡ Props p) (sym is) tied.result_is;
    };
  }

  suits_begun : (q : Row) → q.name ≡ k.row.name → q.kind.name ≡ k.item.kind.name → unwrap_or q.target q.props ≡ props
      → (i m : ℕ) (word : List ℕ) → IsNode k.graph i (U word m) → q.name ≡ word → Suits k.stack k.graph i word q
  suits_begun q name kind is i m word node called =
      let target = job_target s S e k.job k.stack k.graph k.name k.chosen k.row k.works.its k.names k.found in
      let words : k.name ≡ word = sym target.is.name_is ∙ (sym name ∙ called) in
      let place : i0 ≡ i = fits.nodes.one_update i0 i k.chosen m word
      (subst (λ (x : List ℕ). IsNode k.graph i0 (U x k.chosen)) words k.names.its_node) node in record {
        begun = λ newest act. subst (λ (x : ℕ). IsBegun k.stack k.graph x word q) place
            (subst (λ (x : List ℕ). IsBegun k.stack k.graph i0 x q) words (begun_as q kind is));
        made = λ done. absurd (undone (subst (IsDone k.graph) (sym place) done));
      }

  -- the row is written so
  pub put_begun : (q : Row) → q.no ≡ k.row.no → q.name ≡ k.row.name → q.kind.name ≡ k.item.kind.name
      → unwrap_or q.target q.props ≡ props → q.act ≢ Delete
      → q.replaced_by ≡ k.row.replaced_by → FitKinds k.stack k.graph s.rows (put_row q s.rows)
  put_begun q no_ name kind is kept by =
      kinds_put k.stack k.graph s.rows s.rows q (kinds_same k.stack k.graph s.rows)
      (λ _ _. other (suits_begun q name kind is))
      (λ _. was k.row (subst (λ (x : ℕ). row_at s.rows x ≡ Some k.row) (sym no_)
      (row_self s.rows k.job.row k.row k.found)) name
      (λ c. record { kept = kept; last = by ∙ c.last }))

  -- it is replaced
  unswept_new : (i : ℕ) → IsNode k.graph i (C s.next.row) → IsDone k.graph i → ⊥
  unswept_new i node done =
      let l = (S.links.numbered.graphs k.job.letter.stack k.graph k.names.its_graph).nodes i (C s.next.row) node in
      omega arith

  unswept_old : (i : ℕ) → IsNode k.graph i (C k.row.no) → IsDone k.graph i → ⊥
  unswept_old i node done =
      let target = job_target s S e k.job k.stack k.graph k.name k.chosen k.row k.works.its k.names k.found in
      let edge = fits.edges.behind i0 i k.chosen k.row
      (subst (λ (x : List ℕ). IsNode k.graph i0 (U x k.chosen)) (sym target.is.name_is) k.names.its_node)
      (record { node = node; found = row_self s.rows k.job.row k.row k.found }) in
      let input = fits.inputs.ready i done i0 edge in
      let stands = fits.inputs.stand i input.point input.input input.there input.among in
      undone (subst (IsDone k.graph) input.from stands.done)

  pub put_replaced : k.row.trav ≢ k.stack.trav → FitKinds k.stack k.graph s.rows
      (put_row (replaced s.next.row k.row) (put_row (next_row s e k props) s.rows))
  put_replaced other_trav =
      kinds_put k.stack k.graph s.rows (put_row (next_row s e k props) s.rows) (replaced s.next.row k.row)
      (kinds_put k.stack k.graph s.rows s.rows (next_row s e k props) (kinds_same k.stack k.graph s.rows)
      (λ _ _. other (suits_begun (next_row s e k props) new_name refl refl)) (λ _. never unswept_new))
      (λ _ current. absurd (clash current.last)) (λ _. never unswept_old) where
        clash : Some s.next.row ≡ None → ⊥
        clash e = cc

        new_name : k.item.name ≡ k.row.name
        new_name = item_named (plan_of k.stack.plan).items k.name k.item k.asked
            ∙ sym (job_target s S e k.job k.stack k.graph k.name k.chosen k.row k.works.its k.names k.found).is.name_is

-- at the stack and graph that a letter names
pub at_named : (s : StateData) (l : Letter) (st : Stack) (gr : Graph) (node : Node) → Names s l st gr node →
    (rows : List Row)
    → FitKinds st gr s.rows rows → (st' : Stack) → stack_at s.stacks l.stack ≡ Some st' → FitKinds st'
    (graph_of s l.stack) s.rows rows
at_named s l st gr node k rows F st' at =
    subst (λ (x : Graph). FitKinds st' x s.rows rows) (sym (graph_here s l.stack gr k.its_graph))
    (subst (λ (x : Stack). FitKinds x gr s.rows rows) (same_some st st' k.in_table at) F)

-- a row that is to go
pub put_deleted : (s : StateData) → Standing s → (e : ℕ) (k : Cleans s e) (r : Row) → row_at s.rows k.job.row ≡ Some r
    → FitKinds k.stack k.graph s.rows (put_row (deleted_row r k.stack.trav) s.rows)
put_deleted s S e k r at =
    kinds_put k.stack k.graph s.rows s.rows (deleted_row r k.stack.trav) (kinds_same k.stack k.graph s.rows)
    (λ _ current. absurd (current.kept refl)) (λ _. never unswept) where
      unswept : (i : ℕ) → IsNode k.graph i (C r.no) → IsDone k.graph i → ⊥
      unswept i node done =
          let number : k.number ≡ r.no = cleanup_target s.rows k.stack.name k.number k.job.row
          (job_fits s S e k.job k.stack k.graph (C k.number) k.works.its k.names).target
          ∙ sym (row-key s.rows k.job.row r at) in
          let place : k.job.letter.node ≡ i = (named_fits s S k.job.letter k.stack k.graph
          (C k.number) k.names).nodes.one_cleanup k.job.letter.node i r.no
          (subst (λ (x : ℕ). IsNode k.graph k.job.letter.node (C x)) number k.names.its_node) node in
          (job_fits s S e k.job k.stack k.graph (C k.number) k.works.its k.names).undone
          (subst (IsDone k.graph) (sym place) done)
