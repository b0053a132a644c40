-- Nodes are covered after a finish: those behind the finished node have letters where they are ready.
use Rattle.std.proofs.Common.{◌≡◌, ◌≢◌, inl, inr, ℕ, zero, suc, ◌+◌, [], ◌∷◌, Bool, false, true, cond, List, None}
use Rattle.std.proofs.Common.{Option, Some, refl, sym, ap, ◌∙◌, subst, arith}
use Rattle.std.specs.Prelude.{Contains, slice_get, ◌==◌}
use Rattle.std.proofs.lemmas.Bool.{or_left, or_right}
use Rattle.heat_plan.specs.declared.phase.Act.{Act}
use Rattle.heat_plan.specs.declared.phase.Act.TheVariants.{Create, Delete, Init, Rollback, Update}
use Rattle.heat_plan.specs.declared.phase.Status.TheVariants.{Complete, InProgress}
use Rattle.traversal_graph.specs.declared.shape.Node.{Node}
use Rattle.row_table.specs.Rows.{put_row, row_at}
use Rattle.row_table.specs.declared.row.Row.{Row}
use Rattle.sync_points.specs.declared.point.Input.{Input}
use Rattle.mail_table.specs.Mails.{cut_job, job_at, letter_at, put_letter}
use Rattle.mail_table.specs.declared.mail.Job.{Job}
use Rattle.mail_table.specs.declared.mail.Letter.{Letter}
use Rattle.core_state.specs.Changes.{applied}
use Rattle.core_state.specs.Reads.{HasInput, IsDone, IsReady}
use Rattle.core_state.specs.State.{StateData, cut_stack, graph_at, put_stack, stack_at}
use Rattle.core_state.specs.declared.change.Change.TheVariants.{DropStack}
use Rattle.core_state.specs.declared.graph.Graph.{Graph}
use Rattle.core_state.specs.declared.stack.Stack.{Stack}
use Rattle.step_relation.specs.Finishes.{Finishes, finished_changes, given_input}
use Rattle.step_relation.specs.Inputs.{gathered, is_among, passed}
use Rattle.step_relation.specs.Resends.{IsOpen}
use Rattle.step_relation.specs.Rows.{unlocked}
use Rattle.step_relation.specs.Targets.{IsTarget}
use Rattle.step_relation.specs.Writes.{letter_to, letters_to, mark_complete}
use Rattle.step_relation.specs.GraphFits.{HasPoint, IsNode, graph_of}
use Rattle.step_relation.specs.MailFits.{IsStale}
use Rattle.step_relation.specs.Sound.{Standing}
use Rattle.step_relation.specs.Stir.{Covered, IsCovered, IsTo, lasts, waits, works}
use Rattle.history_laws.proofs.tables.Alike.{Alike-put}
use Rattle.history_laws.proofs.tables.Rows.{graph_kept, job_kept, letter_here, row_self, same_or_not, same_some, stack-key}
use Rattle.history_laws.proofs.tables.Rows.{stack_cut, text_or_not}
use Rattle.history_laws.proofs.tables.Targets.{SameWay, SameWay-same, target_kept}
use Rattle.graph_laws.proofs.graphs.Finished.{between, comes, graph_is, its_stack, rows_then, v, written_else, written_here}
use Rattle.graph_laws.proofs.graphs.Kept.{SameStacks, sent, stacks_marked, stacks_same}
use Rattle.graph_laws.proofs.graphs.Passed.{after_found, after_is, among_is, in_list, passed_is, same_test}
use Rattle.graph_laws.proofs.graphs.Restated.{with_status}
use Rattle.graph_laws.proofs.covers.Begun.{not_stale}
use Rattle.graph_laws.proofs.covers.Steps.{Unmarked, complete_is_marked, stale_same, unmarked_put}
use Rattle.graph_laws.proofs.covers.Told.{below, sent_stays}

-- there is a letter for each node of the list
pub letter_for : (st : Stack) (nodes : List ℕ) (first : ℕ) (letters : List Letter) (k : ℕ) → Contains nodes k
    → (n : ℕ) × (l : Letter) × (letter_at (sent (letters_to st first nodes) letters) n ≡ Some l) × IsTo st k l
letter_for st [] first letters k c = let lt = c.1 in absurd (omega (arith, lt))
letter_for st (i ∷ nodes) first letters k (zero, lt, is) = (
  first,
  letter_to st first i,
  sent_stays st nodes (first + 1) (put_letter (letter_to st first i) letters) first (letter_to st first i) (omega arith)
      (letter_here (letter_to st first i) letters),
  record { stack = refl; newest = refl; node_is = is },
)
letter_for st (i ∷ nodes) first letters k (suc m, lt, is) =
    letter_for st nodes (first + 1) (put_letter (letter_to st first i) letters) k (m, omega (arith, lt), is)

-- a node that isn't behind the finished one is as ready as it was
ready_before : (g : Graph) (i : ℕ) (x : Input) (succs : List ℕ) (k : ℕ) → ¬ Contains succs k
    → IsReady (passed g i x succs) k → IsReady g k
ready_before g i x succs k out ready a edge =
    let d = subst (λ (y : Graph). HasInput y k a) (passed_is g i x succs)
    (ready a (subst (λ (y : Graph). Contains y.graph.edges (a, k)) (sym (passed_is g i x succs)) edge)) in
    let (q, at, after) = after_found g i x succs k d.point d.there in
    let off : is_among k succs ≡ false = not_true (is_among k succs) (λ e. out (among_is k succs e)) in
    let same : d.point.inputs ≡ q.inputs = after.inputs
    ∙ ap (λ (b : Bool). cond b (gathered x q.inputs) q.inputs) off in
    record {
      point = q;
      input = d.input;
      there = at;
      among = subst (λ (l : List Input). Contains l d.input) same d.among;
      from = d.from;
    } where
      not_true : (b : Bool) → (b ≡ true → ⊥) → b ≡ false
      not_true true f = absurd (f refl)
      not_true false f = refl

done_still : (g : Graph) (i : ℕ) (x : Input) (succs : List ℕ) (k : ℕ) → IsDone g k → IsDone (passed g i x succs) k
done_still g i x succs k d = subst (λ (y : Graph). IsDone y k) (sym (passed_is g i x succs)) (
    let (p, at, after) = after_is g i x succs k d.point d.there in
    record { point = p; there = at; done = after.done ∙ or_right (k == i) d.point.done d.done })

module _ (s : StateData) (h : Standing s) (e : ℕ) (k : Finishes s e) where
  abbrev i : ℕ
  i = k.job.letter.node

  abbrev own : List ℕ
  own = k.job.letter.stack

  abbrev x : Input
  x = given_input s e k

  abbrev after : Graph
  after = passed k.fresh.graph i x k.succs

  its_name : k.fresh.stack.name ≡ own
  its_name = stack-key s.stacks own k.fresh.stack k.fresh.names.in_table

  done_here : IsDone after i
  done_here =
      let fits = (h.shape.graphs own k.fresh.stack k.fresh.names.in_table).nodes in
      let o : HasPoint (graph_of s own) k.fresh.stack i = fits.points i k.fresh.node
      (subst (λ (y : Graph). IsNode y i k.fresh.node) (sym (graph_is s h e k)) k.fresh.names.its_node) in
      let (p, at, it) = after_is k.fresh.graph i x k.succs i o.point
      (subst (λ (y : Graph). slice_get y.points i ≡ Some o.point) (graph_is s h e k) o.there) in
      subst (λ (y : Graph). IsDone y i) (sym (passed_is k.fresh.graph i x k.succs)) (record {
        point = p;
        there = at;
        done = it.done ∙ or_left (i == i) o.point.done
            (elim (same_test i i) [ inl is ↦ is.1 | inr ne ↦ absurd (ne.0 refl) ]);
      })

  target_then : (r : Option Row) → row_at s.rows k.job.row ≡ r → (stack : List ℕ) (node : Node) (m : ℕ)
      → IsTarget s.rows stack node m
      → IsTarget (rows_then r s.rows) stack node m
  target_then None at stack node m to = to
  target_then (Some r) at stack node m to = target_kept s.rows (put_row (unlocked r) s.rows)
      (Alike-put SameWay SameWay-same r (unlocked r) s.rows (row_self s.rows k.job.row r at)
      (record { no_ = refl; stack = refl; name = refl; act = refl; replaced_by = refl })) stack node m to

  module _ (t : StateData) (unmarked : Unmarked s.stacks t.stacks) (stacks : SameStacks s.stacks t.stacks)
      (others : (name : List ℕ) → name ≢ own → graph_at t.graphs name ≡ graph_at s.graphs name)
      (mine : (st : Stack) → stack_at t.stacks own ≡ Some st → graph_at t.graphs own ≡ Some after)
      (letters : t.letters ≡ (between s h e k).letters) (jobs : t.jobs ≡ cut_job e s.jobs)
      (rows : t.rows ≡ rows_then k.fresh.row s.rows) where
    letter_stays : (n : ℕ) (l : Letter) → letter_at s.letters n ≡ Some l → letter_at t.letters n ≡ Some l
    letter_stays n l at = subst (λ (y : List Letter). letter_at y n ≡ Some l) (sym letters)
        (sent_stays k.fresh.stack k.ready s.next.letter s.letters n l (below s h n l at) at)

    -- what covered a node that isn't the finished one covers it
    still : (st : Stack) (n : ℕ) (node : Node) → stack_at s.stacks st.name ≡ Some st → (st.name ≡ own → n ≢ i)
        → IsCovered s st n node → IsCovered t st n node
    still st n node at_st apart (waits m l at to) = waits m l (letter_stays m l at) to
    still st n node at_st apart (works f j at to) = elim (same_or_not e f) [
      | inl is ↦ let same : k.job ≡ j =
          same_some k.job j k.works.its (subst (λ (z : ℕ). job_at s.jobs z ≡ Some j) (sym is) at) in
          absurd (apart (sym to.stack ∙ ap (λ (y : Job). y.letter.stack) (sym same))
          (sym to.node_is ∙ ap (λ (y : Job). y.letter.node) (sym same)))
      | inr ne ↦ works f j (subst (λ (y : List Job). job_at y f ≡ Some j) (sym jobs) (job_kept e s.jobs f ne ∙ at)) to
    ]
    still st n node at_st apart (lasts f j at stale is to) = elim (same_or_not e f) [
      | inl eq ↦ let same : k.job ≡ j =
          same_some k.job j k.works.its (subst (λ (z : ℕ). job_at s.jobs z ≡ Some j) (sym eq) at) in
          absurd (not_stale s k.job.letter k.fresh.stack
          (record { in_table = k.fresh.names.in_table; newest = k.fresh.names.newest })
          (subst (λ (y : Job). IsStale s.stacks y.letter) (sym same) stale))
      | inr ne ↦ lasts f j (subst (λ (y : List Job). job_at y f ≡ Some j) (sym jobs) (job_kept e s.jobs f ne ∙ at))
          (stale_same s.stacks t.stacks stacks j.letter stale) is
          (subst (λ (y : List Row). IsTarget y st.name node j.row) (sym rows)
          (target_then k.fresh.row k.fresh.found st.name node j.row to))
    ]

    -- a node of the finished one's graph
    its_own : (st : Stack) (n : ℕ) (node : Node) → k.fresh.stack ≡ st → st.status ≡ InProgress → IsNode after n node
        → IsOpen after n → IsCovered t st n node
    its_own st n node same status at open_ = elim (in_list k.succs n) [
      | inl c ↦
          let (m, l, at_l, to) = letter_for k.fresh.stack k.ready s.next.letter s.letters n
          ((k.ready_are.each n).1 (c, open_.ready)) in
          subst (λ (y : Stack). IsCovered t y n node) same
          (waits m l (subst (λ (y : List Letter). letter_at y m ≡ Some l) (sym letters) at_l) to)
      | inr out ↦
          let in_table : stack_at s.stacks own ≡ Some st =
          subst (λ (y : Stack). stack_at s.stacks own ≡ Some y) same k.fresh.names.in_table in
          let named : st.name ≡ own = stack-key s.stacks own st in_table in
          still st n node (subst (λ (y : List ℕ). stack_at s.stacks y ≡ Some st) (sym named) in_table)
          (λ _ eq. open_.undone (subst (IsDone after) (sym eq) done_here))
          (h.covered.each own st k.fresh.graph n node in_table status k.fresh.names.its_graph
          (subst (λ (y : Graph). IsNode y n node) (passed_is k.fresh.graph i x k.succs) at)
          (record {
            ready = ready_before k.fresh.graph i x k.succs n out open_.ready;
            undone = λ d. open_.undone (done_still k.fresh.graph i x k.succs n d);
          }))
    ]

    covers : Covered t
    covers = record {
      each = λ name st g n node at status at_g at_n open_.
          let was = unmarked name st at status in
          elim (text_or_not name own) [
            | inl is ↦
                let same : k.fresh.stack ≡ st = same_some k.fresh.stack st k.fresh.names.in_table
                (subst (λ (y : List ℕ). stack_at s.stacks y ≡ Some st) is was) in
                let graph : g ≡ after = same_some g after (subst (λ (y : List ℕ). graph_at t.graphs y ≡ Some g) is at_g)
                (mine st (subst (λ (y : List ℕ). stack_at t.stacks y ≡ Some st) is at)) in
                its_own st n node same status (subst (λ (y : Graph). IsNode y n node) graph at_n)
                (subst (λ (y : Graph). IsOpen y n) graph open_)
            | inr ne ↦
                let named : st.name ≡ name = stack-key s.stacks name st was in
                still st n node (subst (λ (y : List ℕ). stack_at s.stacks y ≡ Some st) (sym named) was)
                (λ is eq. ne (sym named ∙ is))
                (h.covered.each name st g n node was status (sym (others name ne) ∙ at_g) at_n open_)
          ];
    }

  others_stay : (name : List ℕ) → name ≢ own → graph_at (between s h e k).graphs name ≡ graph_at s.graphs name
  others_stay name ne = written_else (v s h e k) own (its_stack s h e k) (i ∷ k.succs) s.graphs name ne

  mine_then : graph_at (between s h e k).graphs own ≡ Some after
  mine_then = written_here (v s h e k) own (its_stack s h e k)
      (i ∷ k.succs) s.graphs k.fresh.graph k.fresh.names.its_graph

  complete : (a : Act) → Unmarked s.stacks
      (put_stack (with_status Complete (record k.fresh.stack { act = a })) s.stacks)
  complete a = unmarked_put s.stacks (record k.fresh.stack { act = a }) Complete complete_is_marked

  marked : (a : Act) → stack_at s.stacks own ≡ Some (record k.fresh.stack { act = a })
      → Covered (applied (mark_complete (record k.fresh.stack { act = a })) (between s h e k))
  marked Delete at = covers (applied (DropStack k.fresh.stack.name ∷ []) (between s h e k))
      (λ name st there status. (stack_cut k.fresh.stack.name s.stacks there).1) cut
      (λ name ne. graph_kept k.fresh.stack.name (between s h e k).graphs name (λ eq. ne (sym eq ∙ its_name))
      ∙ others_stay name ne)
      (λ st there. absurd ((stack_cut k.fresh.stack.name s.stacks there).0 its_name)) refl refl refl where
        cut : SameStacks s.stacks (cut_stack k.fresh.stack.name s.stacks)
        cut name st there = (st, st.status, (stack_cut k.fresh.stack.name s.stacks there).1, refl)
  marked Init at = covers (applied (mark_complete (record k.fresh.stack { act = Init })) (between s h e k))
      (complete Init)
      (stacks_marked s.stacks own (record k.fresh.stack { act = Init }) Complete at) others_stay
      (λ st there. mine_then) refl refl refl
  marked Create at = covers (applied (mark_complete (record k.fresh.stack { act = Create })) (between s h e k))
      (complete Create)
      (stacks_marked s.stacks own (record k.fresh.stack { act = Create }) Complete at) others_stay
      (λ st there. mine_then) refl refl refl
  marked Update at = covers (applied (mark_complete (record k.fresh.stack { act = Update })) (between s h e k))
      (complete Update)
      (stacks_marked s.stacks own (record k.fresh.stack { act = Update }) Complete at) others_stay
      (λ st there. mine_then) refl refl refl
  marked Rollback at = covers (applied (mark_complete (record k.fresh.stack { act = Rollback })) (between s h e k))
      (complete Rollback)
      (stacks_marked s.stacks own (record k.fresh.stack { act = Rollback }) Complete at) others_stay
      (λ st there. mine_then) refl refl refl

  pub finish_keeps : Covered (applied (finished_changes s e k []) s)
  finish_keeps = subst Covered (sym (comes s h e k []))
      (covers (between s h e k) (λ name st at status. at) (stacks_same s.stacks) others_stay
      (λ st there. mine_then) refl refl refl)

  pub finish_marks : Covered (applied (finished_changes s e k (mark_complete k.fresh.stack)) s)
  finish_marks = subst Covered (sym (comes s h e k (mark_complete k.fresh.stack)))
      (marked k.fresh.stack.act k.fresh.names.in_table)
