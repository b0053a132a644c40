-- A row that another takes the place of: a row more, and a far target less.
use Rattle.std.proofs.Common.{◌≡◌, ◌≢◌, ◌⊎◌, inl, inr, ◌<◌, ◌≤◌, ℕ, ◌+◌, List, Some, None, refl, sym, ap, subst, ◌∙◌}
use Rattle.std.proofs.Common.{arith}
use Rattle.std.specs.Prelude.{slice_get}
use Rattle.std.specs.Str.{bytes_eq}
use Rattle.std.proofs.lemmas.Slice.Eq.{bytes_eq-Decides}
use Rattle.heat_value.specs.Data.{Members}
use Rattle.heat_plan.specs.declared.item.Item.{Item}
use Rattle.heat_plan.specs.declared.phase.Act.TheVariants.{Create, Init}
use Rattle.heat_plan.specs.declared.token.Token.{Token}
use Rattle.traversal_graph.specs.declared.shape.Node.TheVariants.{U}
use Rattle.row_table.specs.Rows.{put_row, row_at}
use Rattle.row_table.specs.declared.row.Row.{Row}
use Rattle.core_state.specs.Changes.{applied}
use Rattle.core_state.specs.State.{StateData, stack_at}
use Rattle.core_state.specs.declared.graph.Graph.{Graph}
use Rattle.core_state.specs.declared.stack.Stack.{Stack}
use Rattle.step_relation.specs.Begins.{Begins, moved_job, next_row, replaced_changes}
use Rattle.step_relation.specs.Freshness.{plan_of}
use Rattle.step_relation.specs.Given.{Given}
use Rattle.step_relation.specs.Rows.{replaced, token_of}
use Rattle.step_relation.specs.Targets.{IsTarget}
use Rattle.step_relation.specs.Sound.{Standing}
use Rattle.history_laws.proofs.tables.Facts.{job_fits}
use Rattle.history_laws.proofs.tables.Rows.{job-key, row-key, row_else, row_here, row_put, row_self, same_some, stack-key}
use Rattle.history_laws.proofs.tables.Tables.{at-key}
use Rattle.bound_laws.specs.Bound.{IsWork}
use Rattle.bound_laws.specs.Rolls.{MayRoll, RollFar}
use Rattle.bound_laws.proofs.Falls.{PollsFall}
use Rattle.bound_laws.proofs.Forms.{is_all, jobs_put, may_or_not, own_is}
use Rattle.bound_laws.proofs.Jobs.{RowsWere}
use Rattle.bound_laws.proofs.Own.{goes_late, goes_left, goes_roll, other_polls, taken_goes_on}
use Rattle.bound_laws.proofs.Rows.{RowsNear, far_falls, far_goes, row_beside, row_comes, target_current}
use Rattle.bound_laws.proofs.Still.{Still, eases_of, letters_fall, nodes_fall, roll_items_fall, roll_letters_fall}
use Rattle.bound_laws.proofs.Still.{roll_nodes_fall, still_same}

module _ (before after : Token → ℕ) (s : StateData) (e : ℕ) (given : Given) (falls : PollsFall before after s e given)
    (hs : Standing s) (k : Begins s e)
    (props : Members) (ht : Standing (applied (replaced_changes s e k props) s)) (n m : ℕ) (a : IsWork before s n)
    (b : IsWork after (applied (replaced_changes s e k props) s) m) (older : k.row.trav ≢ k.stack.trav) where
  abbrev t : StateData
  t = applied (replaced_changes s e k props) s

  abbrev new : Row
  new = next_row s e k props

  abbrev old : Row
  old = replaced s.next.row k.row

  number : k.row.no ≡ k.job.row
  number = row-key s.rows k.job.row k.row k.found

  below : k.row.no < s.next.row
  below = (hs.links.numbered.rows k.job.row k.row k.found).no_

  still : Still s t
  still = still_same s t refl refl refl

  -- a row found then is the old one, the new one, or was there
  found_then : (i : ℕ) (q : Row) → row_at t.rows i ≡ Some q
      → ((i ≡ k.row.no) × (old ≡ q)) ⊎ (((i ≡ s.next.row) × (new ≡ q)) ⊎ (row_at s.rows i ≡ Some q))
  found_then i q at = elim (row_put old (put_row new s.rows) at) [
    | inl is ↦ inl (sym is.0, is.1)
    | inr else_ ↦ elim (row_put new s.rows else_.1) [ inl is ↦ inr (inl (sym is.0, is.1)) | inr was ↦ inr (inr was.1) ]
  ]

  were : (i : ℕ) (q : Row) → i ≢ s.next.row → row_at t.rows i ≡ Some q → (o : Row) × (row_at s.rows i ≡ Some o)
      × (token_of q ≡ token_of o)
  were i q ne at = elim (found_then i q at) [
    | inl is ↦ (
      k.row,
      subst (λ (x : ℕ). row_at s.rows x ≡ Some k.row) (sym (is.0 ∙ number)) k.found,
      ap token_of (sym is.1),
    )
    | inr other ↦ elim other [ inl is ↦ absurd (ne is.0) | inr was ↦ (q, was, refl) ]
  ]

  rows : RowsWere s t
  rows = record { were = λ i q at lt. were i q (λ is. omega (arith, is, lt)) at }

  own_stack : (st : Stack) → MayRoll s k.stack.name st → st ≡ k.stack
  own_stack st may = same_some st k.stack may.in_table
      (subst (λ (x : List ℕ). stack_at s.stacks x ≡ Some k.stack)
      (sym (stack-key s.stacks k.job.letter.stack k.stack k.names.in_table)) k.names.in_table)

  near : RowsNear s t
  near = record {
    near = λ st i q may at current far. elim (found_then i q at) [
      | inl is ↦ (let gone = ap (λ (x : Row). x.replaced_by) is.1 in let last = current.last in
          absurd (some_none (gone ∙ last)))
      | inr other ↦ elim other [
        | inl is ↦ absurd (by far is.1 (own_stack st (subst (λ (x : Row). MayRoll s x.stack st) (sym is.1) may)))
        | inr was ↦ (q, was, refl, refl, current, far)
      ]
    ];
  } where
    some_none : Some s.next.row ≡ None → ⊥
    some_none x = cc

    by : {st : Stack} {q : Row} → (q.act ≡ Init) ⊎ (q.trav ≢ st.trav) → new ≡ q → st ≡ k.stack → ⊥
    by {st} {q} (inl init) is same = let x : Create ≡ Init = ap (λ (y : Row). y.act) is ∙ init in cc
    by {st} {q} (inr away) is same = away (ap (λ (y : Row). y.trav) (sym is) ∙ ap (λ (y : Stack). y.trav) (sym same))

  -- its node's target was far, and isn't
  abbrev place : List ℕ × ℕ
  place = (k.job.letter.stack, k.job.letter.node)

  was_far : (st : Stack) → MayRoll s k.job.letter.stack st → RollFar s place
  was_far st may =
      let same : st ≡ k.stack = same_some st k.stack may.in_table k.names.in_table in
      let fits = job_fits s hs e k.job k.stack k.graph (U k.name k.chosen) k.works.its k.names in
      record {
        stack = st;
        may = may;
        graph = k.graph;
        name = k.name;
        chosen = k.chosen;
        row = k.row;
        its_graph = k.names.its_graph;
        its_node = k.names.its_node;
        to = subst (λ (x : ℕ). IsTarget s.rows k.job.letter.stack (U k.name k.chosen) x) (sym number)
            (subst (λ (x : List ℕ). IsTarget s.rows x (U k.name k.chosen) k.job.row)
            (stack-key s.stacks k.job.letter.stack k.stack k.names.in_table) fits.target);
        found = row_self s.rows k.job.row k.row k.found;
        far = inr (λ x. older (x ∙ ap (λ (y : Stack). y.trav) same));
      }

  same_u : (x y : List ℕ) (i j : ℕ) → U x i ≡ U y j → x ≡ y
  same_u x y i j is = cc

  isnt_far : ¬ RollFar t place
  isnt_far f =
      let graphs : f.graph ≡ k.graph = same_some f.graph k.graph f.its_graph k.names.its_graph in
      let there : slice_get k.graph.graph.nodes k.job.letter.node ≡ Some (U f.name f.chosen) =
      subst (λ (g : Graph). slice_get g.graph.nodes k.job.letter.node ≡ Some (U f.name f.chosen)) graphs f.its_node in
      let names : f.name ≡ k.name = same_u f.name k.name f.chosen k.chosen
      (same_some (U f.name f.chosen) (U k.name k.chosen) there k.names.its_node) in
      let current = target_current t ht place f.stack f.graph f.name f.chosen f.row f.may.in_table f.its_graph
      f.its_node f.to f.found in
      let item_name : k.item.name ≡ k.name = at-key bytes_eq bytes_eq-Decides (λ (i : Item). i.name)
      (plan_of k.stack.plan).items k.name k.item k.asked in
      let stack_name = stack-key s.stacks k.job.letter.stack k.stack k.names.in_table in
      let new_there : row_at t.rows s.next.row ≡ Some new =
      row_else old (put_row new s.rows) s.next.row (λ is. let lt = below in omega (arith, is, lt))
      ∙ row_here new s.rows in
      let le : s.next.row ≤ f.row.no = current.greatest s.next.row new new_there stack_name (item_name ∙ sym names)
      (record { kept = λ is. cc; last = refl }) in
      let top = (ht.links.numbered.rows f.row.no f.row f.found).no_ in
      let is_next : f.row.no ≡ s.next.row = omega (arith, le, top) in
      let same : new ≡ f.row = same_some new f.row new_there
      (subst (λ (x : ℕ). row_at t.rows x ≡ Some f.row) is_next f.found) in
      let stacks : f.stack ≡ k.stack = same_some f.stack k.stack f.may.in_table k.names.in_table in
      by f.far same stacks
    where
      by : {st : Stack} {q : Row} → (q.act ≡ Init) ⊎ (q.trav ≢ st.trav) → new ≡ q → st ≡ k.stack → ⊥
      by {st} {q} (inl init) is same = let x : Create ≡ Init = ap (λ (y : Row). y.act) is ∙ init in cc
      by {st} {q} (inr away) is same = away (ap (λ (y : Row). y.trav) (sym is) ∙ ap (λ (y : Stack). y.trav) (sym same))

  rolls : b.rolls_are.rows + b.rolls_are.far ≤ a.rolls_are.rows + a.rolls_are.far
  rolls = elim (may_or_not s k.job.letter.stack) [
    | inl may ↦ (let x = row_comes before after s t (eases_of s t still) n m a b s.next.row were in
        let y = far_goes before after s t (eases_of s t still) hs ht near n m a b place
        (was_far may.0 may.1) isnt_far in
        omega (arith, x, y))
    | inr never ↦ (let x = row_beside before after s t
        (eases_of s t still) n m a b s.next.row k.job.letter.stack never its were in
        let y = far_falls before after s t (eases_of s t still) hs ht near n m a b in omega (arith, x, y))
  ] where
    its : (r : Row) → row_at t.rows s.next.row ≡ Some r → r.stack ≡ k.job.letter.stack
    its r at = elim (found_then s.next.row r at) [
      | inl is ↦ (let lt = below in let x = is.0 in absurd (omega (arith, x, lt)))
      | inr other ↦ elim other [
        | inl is ↦ ap (λ (y : Row). y.stack) (sym is.1) ∙ stack-key s.stacks k.job.letter.stack k.stack k.names.in_table
        | inr was ↦ (let lt = (hs.links.numbered.rows s.next.row r was).no_ in
            let key = row-key s.rows s.next.row r was in absurd (omega (arith, lt, key)))
      ]
    ]

  pub replaces : m < n
  replaces =
      let own : k.job.engine ≡ e = job-key s.jobs e k.job k.works.its in
      let jobs = jobs_put s t refl e (moved_job s k.job) own refl in
      let others = other_polls before after s e given hs falls in
      let is = own_is t s.jobs e (moved_job s k.job) own refl in
      let sum = taken_goes_on before after s t hs (eases_of s t still) e jobs rows others n m a b k.job k.works.its
      k.works.live (moved_job s k.job) is refl k.works.stage_is (inl refl) in
      let l1 = letters_fall before after s t still n m a b (λ i l at. at) in
      let l2 = roll_letters_fall before after s t still n m a b (λ i l at. at) in
      let x1 = goes_left before after s t hs
      (eases_of s t still) e jobs rows others n m a b k.job k.works.its k.works.live (moved_job s k.job) is refl in
      let x2 = goes_late before after s t hs (eases_of s t still) e jobs rows others n m a b k.job k.works.its
      k.works.live (moved_job s k.job) is refl still in
      let x3 = goes_roll before after s t hs
      (eases_of s t still) e jobs rows others n m a b k.job k.works.its k.works.live (moved_job s k.job) is refl in
      let r1 = nodes_fall before after s t still n m a b in
      let r2 = roll_nodes_fall before after s t still n m a b in
      let r3 = roll_items_fall before after s t still n m a b in
      let r4 = rolls in
      let x = is_all before s n a in let y = is_all after t m b in
      omega (arith, x, y, sum, l1, l2, x1, x2, x3, r1, r2, r3, r4)
