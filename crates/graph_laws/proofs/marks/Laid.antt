-- Each command leaves all marks and pasts fitting.
use Rattle.std.proofs.Common.{◌≡◌, ◌≢◌, ◌⊎◌, inl, inr, ℕ, zero, suc, ◌+◌, List, [], ◌∷◌, Option, Some, None, true}
use Rattle.std.proofs.Common.{false, refl, sym, ap, ◌∙◌, subst, arith}
use Rattle.std.specs.Prelude.{Contains, IsSome, length, slice_get, ◌↔◌}
use Rattle.std.specs.List.{AllByRecursion}
use Rattle.heat_plan.specs.declared.item.Item.{Item}
use Rattle.heat_plan.specs.declared.phase.Act.{Act}
use Rattle.heat_plan.specs.declared.phase.Act.TheVariants.{Create, Delete, Init, Rollback, Update}
use Rattle.heat_plan.specs.declared.phase.Status.{Status}
use Rattle.heat_plan.specs.declared.phase.Status.TheVariants.{Complete, Failed, InProgress}
use Rattle.traversal_graph.specs.declared.shape.Node.{Node}
use Rattle.row_table.specs.Rows.{put_row, row_at}
use Rattle.row_table.specs.declared.row.Row.{Row}
use Rattle.sync_points.specs.declared.point.Point.{Point}
use Rattle.mail_table.specs.declared.mail.Letter.{Letter}
use Rattle.core_state.specs.Changes.{applied, apply, fresh_graph}
use Rattle.core_state.specs.Graphs.{fresh_points}
use Rattle.core_state.specs.State.{StateData, cut_stack, past_at, put_past, put_stack, stack_at}
use Rattle.core_state.specs.declared.change.Change.TheVariants.{PutGraph, PutPast, PutStack, Send}
use Rattle.core_state.specs.declared.graph.Graph.{Graph}
use Rattle.core_state.specs.declared.past.Past.{Past}
use Rattle.core_state.specs.declared.stack.Stack.{Stack}
use Rattle.step_relation.specs.Commands.{Chooses, Lays, Sets, current, first_letters, fresh, laid_changes, none}
use Rattle.step_relation.specs.Commands.{past_command, settles_at_once, stack_set}
use Rattle.step_relation.specs.Inputs.{AllDone}
use Rattle.step_relation.specs.Writes.{mark_complete}
use Rattle.step_relation.specs.GraphFits.{graph_of, graph_or}
use Rattle.step_relation.specs.Groups.{IsOrdered, KeptByCommands, creates, deletes, rolls_back, updates}
use Rattle.step_relation.specs.MarkFits.{MarkFits, MarksFit, PastFits, PastsFit}
use Rattle.step_relation.specs.Sound.{Standing}
use Rattle.history_laws.proofs.frames.Commands.{commands_on_one}
use Rattle.history_laws.proofs.frames.Marks.{past_fits_stays}
use Rattle.graph_laws.proofs.graphs.Kept.{sends, sent}
use Rattle.graph_laws.proofs.marks.Own.{marks_by_own}
use Rattle.history_laws.proofs.tables.Ordered.{IsProper, back_is_plan, back_proper, no_plan, ordered_past}
use Rattle.history_laws.proofs.tables.Puts.{all_contains, contains_head, contains_there, put_rows, rows_first}
use Rattle.history_laws.proofs.tables.Once.{once_applied}
use Rattle.history_laws.proofs.tables.Rows.{graph_here, past-key, past_cut, past_put, row_put, same_some, stack_gone, stack_here}
use Rattle.history_laws.proofs.tables.Once.{once_applied}
use Rattle.history_laws.proofs.tables.Rows.{text_or_not}
use Rattle.core_state.specs.declared.change.Change.TheVariants as change_to

-- a row found then was there, or is one of these
pub rows_from : (qs rows : List Row) (n : ℕ) (r : Row) → row_at (put_rows qs rows) n ≡ Some r →
    (row_at rows n ≡ Some r) ⊎ Contains qs r
rows_from [] rows n r at = inl at
rows_from (q ∷ qs) rows n r at = elim (rows_from qs (put_row q rows) n r at) [
  | inl was ↦ elim (row_put q rows was) [
    | inl new ↦ inr (subst (Contains (q ∷ qs)) new.1 (contains_head q qs))
    | inr old ↦ inl old.1
  ]
  | inr has ↦ inr (contains_there q r qs has)
]

-- new rows have nothing done on them
new_complete : (s : StateData) (name : List ℕ) (trav next : ℕ) (items : List Item) (chosen : List ℕ) (qs : List Row)
    → Chooses s name trav next items chosen qs
    → AllByRecursion (λ (q : Row). q.status ≡ Complete) qs
new_complete s name trav next _ _ _ (none _) = tt
new_complete s name trav next _ _ _ (current _ item items r chosen qs is more) =
    new_complete s name trav next items chosen qs more
new_complete s name trav next _ _ _ (fresh _ item items chosen qs lacks more) =
    (refl, new_complete s name trav (next + 1) items chosen qs more)

-- a point of a fresh graph isn't done
pub fresh_undone : (stack : List ℕ) (place : ℕ) (nodes : List Node) (i : ℕ) (p : Point) → slice_get
    (fresh_points stack place nodes) i ≡ Some p → p.done ≡ true → ⊥
fresh_undone stack place [] i p at is = cc
fresh_undone stack place (node ∷ nodes) zero p at is =
    let same : record { stack = stack; node = place; inputs = []; done = false } ≡ p = cc in
    let d : false ≡ true = ap (λ (x : Point). x.done) same ∙ is in cc
fresh_undone stack place (node ∷ nodes) (suc i) p at is = fresh_undone stack (place + 1) nodes i p at is

module _ (s : StateData) (S : Standing s) where
  ordered_act : (name : List ℕ) (items : List Item) (it : Sets) → IsOrdered s name items it → it.act ≢ Init
  ordered_act _ _ _ (creates name plan rollback free proper) is = cc
  ordered_act _ _ _ (updates st plan rollback at act proper) is = cc
  ordered_act _ _ _ (deletes st at) is = cc
  ordered_act _ _ _ (rolls_back st actor at forward unfinished) is = cc

  ordered_deletes : (name : List ℕ) (items : List Item) (it : Sets) → IsOrdered s name items it →
      (it.act ≡ Delete) ↔ (it.plan ≡ None)
  ordered_deletes _ _ _ (creates name plan rollback free proper) = (λ is. cc, λ is. cc)
  ordered_deletes _ _ _ (updates st plan rollback at act proper) = (λ is. cc, λ is. cc)
  ordered_deletes _ _ _ (deletes st at) = (λ is. refl, λ is. refl)
  ordered_deletes _ _ _ (rolls_back st actor at forward unfinished) = (λ is. cc, λ is. cc)

  ordered_proper : (name : List ℕ) (items : List Item) (it : Sets) → IsOrdered s name items it → IsProper it.plan
  ordered_proper _ _ _ (creates name plan rollback free proper) = proper
  ordered_proper _ _ _ (updates st plan rollback at act proper) = proper
  ordered_proper _ _ _ (deletes st at) = no_plan
  ordered_proper _ _ _ (rolls_back st actor at forward unfinished) = back_is_plan s S st at

  module _ (name : List ℕ) (items : List Item) (it : Sets) (k : Lays s name items)
      (ordered : IsOrdered s name items it) where
    abbrev pub st : Stack
    st = stack_set s name it InProgress

    abbrev pub fg : Graph
    fg = fresh_graph name k.graph

    abbrev set : StateData
    set = apply (PutPast it.past) (apply (PutStack st)
        (apply (change_to.Numbers (past_command s.next it.stacks (length k.rows) (length k.leaves))) s))

    abbrev ls : List Letter
    ls = first_letters s name items it k

    -- the state before the mark
    abbrev pub after : StateData
    after =
        let last = apply (PutGraph name k.graph) (record set { rows = put_rows k.rows s.rows }) in record last
        { letters = sent ls s.letters }

    pub laid_is : applied (laid_changes s name items it k) s ≡ applied (settles_at_once k.graph.nodes s name it) after
    laid_is =
        rows_first set k.rows _
        ∙ sends ls (settles_at_once k.graph.nodes s name it)
        (apply (PutGraph name k.graph) (record set { rows = put_rows k.rows s.rows }))

    -- no row failed in this traversal
    unfailed : (n : ℕ) (r : Row) → row_at (put_rows k.rows s.rows) n ≡ Some r → r.status ≡ Failed
        → r.trav ≡ s.next.trav → ⊥
    unfailed n r at status newest = elim (rows_from k.rows s.rows n r at) [
      | inl was ↦ let b = (S.links.numbered.rows n r was).newest in omega arith
      | inr has ↦
          let complete = all_contains (λ (q : Row). q.status ≡ Complete) k.rows r
          (new_complete s name s.next.trav s.next.row items k.chosen k.rows k.chooses) has in
          let e : Complete ≡ Failed = sym complete ∙ status in cc
    ]

    its_marks : (status : Status) → (status ≡ Complete) ↔ AllDone fg → status ≢ Failed → (t : StateData)
        → t.rows ≡ put_rows k.rows s.rows
        → MarkFits t (record st { status = status }) fg
    its_marks status complete other t rows = record {
      complete = complete;
      failing = λ n r at is failed newest.
          absurd (unfailed n r (subst (λ (xs : List Row). row_at xs n ≡ Some r) rows at) failed newest);
      failed = λ is. absurd (other is);
      act = ordered_act name items it ordered;
      deletes = ordered_deletes name items it ordered;
      proper = ordered_proper name items it ordered;
    }

    pub its_graph : graph_of after name ≡ fg
    its_graph = ap (graph_or name) (graph_here fg s.graphs)

    pub put_one : (q : Stack) → q.name ≡ name → (st' : Stack) → (stacks : List Stack) → stack_at
        (put_stack q stacks) name ≡ Some st' → q ≡ st'
    put_one q is st' stacks at = same_some q st' (subst
        (λ (x : List ℕ). stack_at (put_stack q stacks) x ≡ Some q) is (stack_here q stacks)) at

    begun : (nodes : List Node) (node : Node) → k.graph.nodes ≡ node ∷ nodes → (st' : Stack)
        → stack_at after.stacks name ≡ Some st'
        → MarkFits after st' (graph_of after name)
    begun nodes node is st' at =
        subst (λ (x : Stack). MarkFits after x (graph_of after name)) (put_one st refl st' s.stacks at)
        (subst (MarkFits after st) (sym its_graph) (its_marks InProgress (λ c. cc, undone)
        (λ c. cc) after refl)) where
          undone : AllDone fg → InProgress ≡ Complete
          undone all =
              let d = all 0 node (subst (λ (xs : List Node). slice_get xs 0 ≡ Some node) (sym is) refl) in
              absurd (fresh_undone name 0 k.graph.nodes 0 d.point d.there d.done)

    none_done : k.graph.nodes ≡ [] → AllDone fg
    none_done is i node at = absurd (clash (subst (λ (xs : List Node). slice_get xs i ≡ Some node) is at)) where
      clash : slice_get [] i ≡ Some node → ⊥
      clash e = cc

    settled_put : k.graph.nodes ≡ [] → (a : Act) → a ≡ it.act → (st' : Stack)
        → stack_at (put_stack (record st { act = a; status = Complete }) (put_stack st s.stacks)) name ≡ Some st'
        → MarkFits (apply (PutStack (record st { act = a; status = Complete })) after) st'
        (graph_of (apply (PutStack (record st { act = a; status = Complete })) after) name)
    settled_put empty a is st' at =
        subst (λ (x : Stack). MarkFits (apply (PutStack (record st { act = a; status = Complete })) after) x
        (graph_of (apply (PutStack (record st { act = a; status = Complete })) after) name))
        (put_one (record st { act = a; status = Complete }) refl st' (put_stack st s.stacks) at)
        (subst (MarkFits (apply (PutStack (record st { act = a; status = Complete })) after)
        (record st { act = a; status = Complete })) (sym its_graph)
        (subst (λ (b : Act). MarkFits (apply (PutStack (record st { act = b; status = Complete })) after)
        (record st { act = b; status = Complete }) fg) (sym is)
        (its_marks Complete (λ _. none_done empty, λ _. refl) (λ c. cc)
        (apply (PutStack (record st { status = Complete })) after) refl)))

    settled : k.graph.nodes ≡ [] → (a : Act) → a ≡ it.act → (st' : Stack) → stack_at
        (applied (mark_complete (record st { act = a })) after).stacks name ≡ Some st'
        → MarkFits (applied (mark_complete (record st { act = a })) after) st'
        (graph_of (applied (mark_complete (record st { act = a })) after) name)
    settled empty Delete is st' at =
        let gone : stack_at (cut_stack name (put_stack st s.stacks)) name ≡ None = stack_gone name
        (put_stack st s.stacks) in
        absurd (clash gone at) where
          clash : {o : Option Stack} → o ≡ None → o ≡ Some st' → ⊥
          clash a b = cc
    settled empty Init is st' at = settled_put empty Init is st' at
    settled empty Create is st' at = settled_put empty Create is st' at
    settled empty Update is st' at = settled_put empty Update is st' at
    settled empty Rollback is st' at = settled_put empty Rollback is st' at

    by_nodes : (nodes : List Node) → k.graph.nodes ≡ nodes → (st' : Stack) → stack_at
        (applied (settles_at_once nodes s name it) after).stacks name ≡ Some st'
        → MarkFits (applied (settles_at_once nodes s name it) after) st'
        (graph_of (applied (settles_at_once nodes s name it) after) name)
    by_nodes [] is st' at = settled is it.act refl st' at
    by_nodes (node ∷ nodes) is st' at = begun nodes node is st' at

    pub own_laid : (st' : Stack) → stack_at (applied (laid_changes s name items it k) s).stacks name ≡ Some st'
        → MarkFits (applied (laid_changes s name items it k) s) st'
        (graph_of (applied (laid_changes s name items it k) s) name)
    own_laid st' at =
        subst (λ (x : StateData). MarkFits x st' (graph_of x name)) (sym laid_is)
        (by_nodes k.graph.nodes refl st' (subst (λ (x : StateData). stack_at x.stacks name ≡ Some st') laid_is at))

-- the past that a command puts
module _ (s : StateData) (S : Standing s) where
  ordered_forward : (name : List ℕ) (items : List Item) (it : Sets) → IsOrdered s name items it →
      (it.act ≡ Delete) ⊎ (it.act ≡ Rollback)
      → it.past.rollback ≡ false
  ordered_forward _ _ _ (creates name plan rollback free proper) (inl d) = cc
  ordered_forward _ _ _ (creates name plan rollback free proper) (inr r) = cc
  ordered_forward _ _ _ (updates st plan rollback at act proper) (inl d) = cc
  ordered_forward _ _ _ (updates st plan rollback at act proper) (inr r) = cc
  ordered_forward _ _ _ (deletes st at) act = refl
  ordered_forward _ _ _ (rolls_back st actor at forward unfinished) act = refl

  ordered_back : (name : List ℕ) (items : List Item) (it : Sets) → IsOrdered s name items it → IsProper it.past.back
  ordered_back _ _ _ (creates name plan rollback free proper) = no_plan
  ordered_back _ _ _ (updates st plan rollback at act proper) = back_is_plan s S st at
  ordered_back _ _ _ (deletes st at) = back_proper s S st.name (past_at s.pasts st.name) refl
  ordered_back _ _ _ (rolls_back st actor at forward unfinished) = back_proper s S st.name
      (past_at s.pasts st.name) refl

  module _ (name : List ℕ) (items : List Item) (it : Sets) (k : Lays s name items)
      (ordered : IsOrdered s name items it) where
    its_past : (t : StateData) (q : Stack) → stack_at t.stacks name ≡ Some q → q.act ≡ it.act → PastFits t it.past
    its_past t q at act = record {
      in_table = subst (λ (x : List ℕ). IsSome (stack_at t.stacks x)) (sym own) (subst IsSome (sym at) refl);
      forward = λ st' at' acts.
          let same : q ≡ st' = same_some q st' at (subst (λ (x : List ℕ). stack_at t.stacks x ≡ Some st') own at') in
          let its : st'.act ≡ it.act = ap (λ (x : Stack). x.act) (sym same) ∙ act in
          ordered_forward name items it ordered (elim acts [ inl d ↦ inl (sym its ∙ d) | inr r ↦ inr (sym its ∙ r) ]);
      proper = ordered_back name items it ordered;
    } where
      own : it.past.stack ≡ name
      own = ordered_past s name items it ordered

    put_is : (p : Past) → past_at (put_past it.past s.pasts) name ≡ Some p → it.past ≡ p
    put_is p at = elim (past_put it.past s.pasts at) [
      | inl new ↦ new.1
      | inr was ↦ absurd (was.0 (ordered_past s name items it ordered))
    ]

    put_here : (q : Stack) (stacks : List Stack) → q.name ≡ name → stack_at (put_stack q stacks) name ≡ Some q
    put_here q stacks is = subst (λ (x : List ℕ). stack_at (put_stack q stacks) x ≡ Some q) is (stack_here q stacks)

    past_settled : (a : Act) → a ≡ it.act → (p : Past)
        → past_at (applied (mark_complete (record (st s S name items it k ordered) { act = a }))
        (after s S name items it k ordered)).pasts name ≡ Some p
        → PastFits (applied (mark_complete (record (st s S name items it k ordered) { act = a }))
        (after s S name items it k ordered)) p
    past_settled Delete is p at = absurd ((past_cut name (put_past it.past s.pasts) at).0 refl)
    past_settled Init is p at = subst (PastFits _) (put_is p at)
        (its_past _ (record (st s S name items it k ordered) { act = Init; status = Complete })
        (put_here _ _ refl) is)
    past_settled Create is p at = subst (PastFits _) (put_is p at)
        (its_past _ (record (st s S name items it k ordered) { act = Create; status = Complete })
        (put_here _ _ refl) is)
    past_settled Update is p at = subst (PastFits _) (put_is p at)
        (its_past _ (record (st s S name items it k ordered) { act = Update; status = Complete })
        (put_here _ _ refl) is)
    past_settled Rollback is p at = subst (PastFits _) (put_is p at)
        (its_past _ (record (st s S name items it k ordered) { act = Rollback; status = Complete })
        (put_here _ _ refl) is)

    past_by_nodes : (nodes : List Node) (p : Past) → past_at
        (applied (settles_at_once nodes s name it) (after s S name items it k ordered)).pasts name ≡ Some p
        → PastFits (applied (settles_at_once nodes s name it) (after s S name items it k ordered)) p
    past_by_nodes [] p at = past_settled it.act refl p at
    past_by_nodes (node ∷ nodes) p at =
        subst (PastFits (after s S name items it k ordered)) (put_is p at)
        (its_past (after s S name items it k ordered) (st s S name items it k ordered)
        (put_here (st s S name items it k ordered) s.stacks refl) refl)

    pub own_past : (p : Past) → past_at (applied (laid_changes s name items it k) s).pasts name ≡ Some p
        → PastFits (applied (laid_changes s name items it k) s) p
    own_past p at =
        subst (λ (x : StateData). PastFits x p) (sym (laid_is s S name items it k ordered))
        (past_by_nodes k.graph.nodes p (subst (λ (x : StateData). past_at x.pasts name ≡ Some p)
        (laid_is s S name items it k ordered) at))

pub pasts_by_commands : KeptByCommands PastsFit
pasts_by_commands s name items it k S ordered = record {
  once = once_applied (laid_changes s name items it k) s S.pasts.once;
  each = go;
} where
  go : (other : List ℕ) (p : Past) → past_at (applied (laid_changes s name items it k) s).pasts other ≡ Some p
      → PastFits (applied (laid_changes s name items it k) s) p
  go other p at = elim (text_or_not other name) [
    | inl is ↦ own_past s S name items it k ordered p (subst
        (λ (x : List ℕ). past_at (applied (laid_changes s name items it k) s).pasts x ≡ Some p) is at)
    | inr ne ↦
        let E = commands_on_one s name items it k S ordered in
        past_fits_stays name s (applied (laid_changes s name items it k) s) E p
        (λ eq. ne (sym (past-key _ other p at) ∙ eq))
        (S.pasts.each other p (sym (E.pasts other ne) ∙ at))
  ]

pub marks_by_commands : KeptByCommands MarksFit
marks_by_commands s name items it k S ordered =
    marks_by_own s S (applied (laid_changes s name items it k) s) name
    (commands_on_one s name items it k S ordered) (own_laid s S name items it k ordered)
