-- What the end of a job leaves, with no mark, with the mark of a stack, and with a stack that goes.
use Rattle.std.proofs.Common.{◌≡◌, ◌≢◌, inl, inr, ℕ, List, ◌∷◌, Option, Some, None, refl, sym, ap, subst, ◌∙◌}
use Rattle.std.specs.Prelude.{slice_get}
use Rattle.heat_plan.specs.declared.phase.Act.{Act}
use Rattle.heat_plan.specs.declared.phase.Act.TheVariants.{Create, Delete, Init, Rollback, Update}
use Rattle.heat_plan.specs.declared.phase.Status.TheVariants.{Complete, InProgress}
use Rattle.traversal_graph.specs.declared.shape.Node.{Node}
use Rattle.traversal_graph.specs.declared.shape.TravGraph.{TravGraph}
use Rattle.row_table.specs.Rows.{row_at}
use Rattle.row_table.specs.declared.row.Row.{Row}
use Rattle.mail_table.specs.Mails.{cut_job, job_at}
use Rattle.mail_table.specs.declared.mail.Job.{Job}
use Rattle.mail_table.specs.declared.mail.Letter.{Letter}
use Rattle.core_state.specs.Changes.{applied}
use Rattle.core_state.specs.Reads.{IsDone}
use Rattle.core_state.specs.State.{StateData, cut_stack, graph_at, put_stack, stack_at}
use Rattle.core_state.specs.declared.graph.Graph.{Graph}
use Rattle.core_state.specs.declared.stack.Stack.{Stack}
use Rattle.step_relation.specs.Finishes.{Finishes, Settles, given_input, graph_then}
use Rattle.step_relation.specs.Rows.{unlocked}
use Rattle.step_relation.specs.Targets.{IsTarget}
use Rattle.step_relation.specs.Writes.{mark_complete}
use Rattle.step_relation.specs.MailFits.{IsStale}
use Rattle.step_relation.specs.Sound.{Standing}
use Rattle.history_laws.proofs.tables.Facts.{job_fits}
use Rattle.history_laws.proofs.tables.Rows.{graph_cut, job_cut, past_kept, row_self, same_some, stack-key, stack_cut, stack_else}
use Rattle.history_laws.proofs.tables.Rows.{stack_here, stack_kept, stack_put, text_or_not}
use Rattle.history_laws.proofs.tables.Targets.{target_once}
use Rattle.graph_laws.proofs.graphs.Finished.{between, its_stack, rows_then, v, written_else, written_here}
use Rattle.graph_laws.proofs.graphs.Passed.{passed_is}
use Rattle.workable_laws.proofs.Below.{passed_done}
use Rattle.bound_laws.proofs.Finishing.{FinishEnd}
use Rattle.bound_laws.proofs.Forms.{RowForm, form_put, form_same}

pub form_unlocked : (s t : StateData) (n : ℕ) (row : Option Row) → row_at s.rows n ≡ row → t.rows ≡ rows_then row s.rows
    → RowForm s t
form_unlocked s t n None at is = form_same s t is
form_unlocked s t n (Some r) at is = form_put s t r (unlocked r) (row_self s.rows n r at) refl is
    (λ c. record { kept = c.kept; last = c.last }) (λ st may far. far)

module _ (s : StateData) (hs : Standing s) (e : ℕ) (k : Finishes s e) where
  abbrev own : List ℕ
  own = k.job.letter.stack

  abbrev st : Stack
  st = k.fresh.stack

  abbrev t : StateData
  t = between s hs e k

  named : st.name ≡ own
  named = stack-key s.stacks own st k.fresh.names.in_table

  self : stack_at s.stacks st.name ≡ Some st
  self = subst (λ (x : List ℕ). stack_at s.stacks x ≡ Some st) (sym named) k.fresh.names.in_table

  written_mine : graph_at t.graphs own ≡ Some (graph_then s e k)
  written_mine = written_here (v s hs e k) own (its_stack s hs e k)
      (k.job.letter.node ∷ k.succs) s.graphs k.fresh.graph k.fresh.names.its_graph

  written_others : (name : List ℕ) → name ≢ own → graph_at t.graphs name ≡ graph_at s.graphs name
  written_others name ne = written_else (v s hs e k) own (its_stack s hs e k)
      (k.job.letter.node ∷ k.succs) s.graphs name ne

  pub unmarked : FinishEnd s e k t
  unmarked = record {
    live = refl;
    jobs = refl;
    letters = refl;
    rows = form_unlocked s t k.job.row k.fresh.row k.fresh.found refl;
    stacks = λ name x at. (x, at, (λ y. refl));
    pasts = λ name x at. refl;
    mine = λ g at. same_some (graph_then s e k) g written_mine at;
    others = λ name g ne at. sym (written_others name ne) ∙ at;
    late = λ f j at was old. old;
  }

  -- a stack that is marked
  abbrev complete : Act → Stack
  complete a = record st { act = a; status = Complete }

  marked_were : (a : Act) (name : List ℕ) (x : Stack) → stack_at (put_stack (complete a) s.stacks) name ≡ Some x
      → (o : Stack) × (stack_at s.stacks name ≡ Some o) × (x.status ≡ InProgress → x ≡ o)
  marked_were a name x found = elim (stack_put (complete a) s.stacks found) [
    | inr old ↦ (x, old.1, (λ y. refl))
    | inl new ↦ (
      st,
      subst (λ (n : List ℕ). stack_at s.stacks n ≡ Some st) new.0 self,
      (λ under. not_both x new.1 under),
    )
  ] where
    not_both : (y : Stack) → complete a ≡ y → y.status ≡ InProgress → y ≡ st
    not_both y is under = let z : Complete ≡ InProgress = ap (λ (w : Stack). w.status) is ∙ under in cc

  marked_late : (a : Act) (l : Letter) → IsStale (put_stack (complete a) s.stacks) l → IsStale s.stacks l
  marked_late a l old o at is = elim (text_or_not st.name l.stack) [
    | inl same ↦
        (let o_is : o ≡ st = same_some o st at (subst (λ (n : List ℕ). stack_at s.stacks n ≡ Some st) same self) in
        old (complete a) (subst (λ (n : List ℕ). stack_at (put_stack (complete a) s.stacks) n ≡ Some (complete a)) same
        (stack_here (complete a) s.stacks))
        (ap (λ (y : Stack). y.trav) (sym o_is) ∙ is))
    | inr ne ↦ old o (stack_else (complete a) s.stacks l.stack ne ∙ at) is
  ]

  abbrev marked_state : Act → StateData
  marked_state a = record t { stacks = put_stack (complete a) s.stacks }

  marked_end : (a : Act) → FinishEnd s e k (marked_state a)
  marked_end a = record {
    live = refl;
    jobs = refl;
    letters = refl;
    rows = form_unlocked s (marked_state a) k.job.row k.fresh.row k.fresh.found refl;
    stacks = marked_were a;
    pasts = λ name x at. refl;
    mine = λ g at. same_some (graph_then s e k) g written_mine at;
    others = λ name g ne at. sym (written_others name ne) ∙ at;
    late = λ f j at was old. marked_late a j.letter old;
  }

  -- a stack that goes: no other job was of its newest traversal
  module _ (settled : Settles s e k) where
    abbrev gone_state : StateData
    gone_state = applied (mark_complete (record st { act = Delete })) t

    alone : (f : ℕ) (j : Job) → job_at (cut_job e s.jobs) f ≡ Some j → job_at s.jobs f ≡ Some j → (o : Stack)
        → stack_at s.stacks j.letter.stack ≡ Some o
        → o.trav ≡ j.letter.trav → j.letter.stack ≡ own → ⊥
    alone f j cut its o at newest same =
        let stands = hs.shape.jobs.newest f j o its (record { in_table = at; newest = newest }) in
        let to_own : stack_at s.stacks own ≡ Some o = subst (λ (n : List ℕ). stack_at s.stacks n ≡ Some o) same at in
        let o_is : o ≡ st = same_some o st to_own k.fresh.names.in_table in
        let graphs : stands.graph ≡ k.fresh.graph = same_some stands.graph k.fresh.graph
        (subst (λ (n : List ℕ). graph_at s.graphs n ≡ Some stands.graph) same stands.names.its_graph)
        k.fresh.names.its_graph in
        let there : slice_get k.fresh.graph.graph.nodes j.letter.node ≡ Some stands.node =
        subst (λ (g : Graph). slice_get g.graph.nodes j.letter.node ≡ Some stands.node) graphs stands.names.its_node in
        let then_there : slice_get (graph_then s e k).graph.nodes j.letter.node ≡ Some stands.node =
        subst (λ (g : TravGraph). slice_get g.nodes j.letter.node ≡ Some stands.node)
        (sym (ap (λ (y : Graph). y.graph) (passed_is k.fresh.graph k.job.letter.node (given_input s e k) k.succs)))
        there in
        let d = settled.all j.letter.node stands.node then_there in
        elim (passed_done k.fresh.graph k.job.letter.node (given_input s e k) k.succs j.letter.node d) [
          | inr was ↦ stands.fits.undone (subst (λ (g : Graph). IsDone g j.letter.node) (sym graphs) was)
          | inl i ↦ (let mine = job_fits s hs e k.job st k.fresh.graph k.fresh.node k.works.its k.fresh.names in
              let node_is : stands.node ≡ k.fresh.node = same_some stands.node k.fresh.node
              (subst (λ (x : ℕ). slice_get k.fresh.graph.graph.nodes x ≡ Some stands.node) i there)
              k.fresh.names.its_node in
              let theirs : IsTarget s.rows st.name k.fresh.node j.row =
              subst (λ (x : Node). IsTarget s.rows st.name x j.row) node_is
              (subst (λ (y : Stack). IsTarget s.rows y.name stands.node j.row) o_is stands.fits.target) in
              let rows : j.row ≡ k.job.row =
              target_once s.rows st.name k.fresh.node j.row k.job.row theirs mine.target in
              (job_cut e s.jobs cut).0 (sym (hs.links.locked.apart f e j k.job its k.works.its rows)))
        ]

    gone_late : (f : ℕ) (j : Job) → job_at (cut_job e s.jobs) f ≡ Some j → job_at s.jobs f ≡ Some j
        → IsStale (cut_stack st.name s.stacks) j.letter → IsStale s.stacks j.letter
    gone_late f j cut its old o at is = elim (text_or_not j.letter.stack own) [
      | inl same ↦ alone f j cut its o at is same
      | inr ne ↦ old o (stack_kept st.name s.stacks j.letter.stack (λ x. ne (sym x ∙ named)) ∙ at) is
    ]

    gone_end : FinishEnd s e k gone_state
    gone_end = record {
      live = refl;
      jobs = refl;
      letters = refl;
      rows = form_unlocked s gone_state k.job.row k.fresh.row k.fresh.found refl;
      stacks = λ name x at. (x, (stack_cut st.name s.stacks at).1, (λ y. refl));
      pasts = λ name x at. past_kept st.name s.pasts name (stack_cut st.name s.stacks at).0;
      mine = λ g at. absurd ((graph_cut st.name t.graphs at).0 named);
      others = λ name g ne at. sym (written_others name ne) ∙ (graph_cut st.name t.graphs at).1;
      late = gone_late;
    }

    by_act : (a : Act) → FinishEnd s e k (applied (mark_complete (record st { act = a })) t)
    by_act Delete = gone_end
    by_act Init = marked_end Init
    by_act Create = marked_end Create
    by_act Update = marked_end Update
    by_act Rollback = marked_end Rollback

    pub marked : FinishEnd s e k (applied (mark_complete st) t)
    marked = by_act st.act
