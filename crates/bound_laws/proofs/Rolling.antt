-- A rollback: what stood for it pays for its letters and nodes, and for the jobs that are late then.
use Rattle.std.proofs.Common.{◌≡◌, ◌≢◌, ◌⊎◌, inl, inr, ◌<◌, ◌≤◌, ℕ, ◌+◌, true, false, List, [], ◌∷◌, ◌++◌, length, map}
use Rattle.std.proofs.Common.{Option, Some, refl, sym, ap, subst, ◌∙◌, arith}
use Rattle.std.specs.Prelude.{Contains, slice_get}
use Rattle.std.proofs.lemmas.List.Elements.{Contains-append_cases}
use Rattle.std.proofs.lemmas.List.Sorted.{length_permutation}
use Rattle.std.proofs.lemmas.Option.{slice_get_within}
use Rattle.heat_plan.specs.Plans.{PlanData}
use Rattle.heat_plan.specs.declared.item.Item.{Item}
use Rattle.heat_plan.specs.declared.phase.Status.TheVariants.{Failed, InProgress}
use Rattle.heat_plan.specs.declared.token.Token.{Token}
use Rattle.traversal_graph.specs.Nodes.{cleanup_nodes, update_nodes}
use Rattle.traversal_graph.specs.declared.brief.RowBrief.{RowBrief}
use Rattle.traversal_graph.specs.declared.shape.Node.{Node}
use Rattle.traversal_graph.specs.declared.shape.Node.TheVariants.{C}
use Rattle.row_table.specs.Rows.{row_at, row_key}
use Rattle.row_table.specs.declared.row.Row.{Row}
use Rattle.mail_table.specs.Mails.{cut_job, job_at, letter_at}
use Rattle.mail_table.specs.declared.mail.Job.{Job}
use Rattle.mail_table.specs.declared.mail.Letter.{Letter}
use Rattle.mail_table.specs.declared.mail.Stage.{Stage}
use Rattle.mail_table.specs.declared.mail.Stage.TheVariants.{Asking, Ending, Polling, Taken}
use Rattle.core_state.specs.Changes.{applied, fresh_graph}
use Rattle.core_state.specs.Reads.{IsReady}
use Rattle.core_state.specs.State.{StateData, graph_at, past_at, put_graph, put_past}
use Rattle.core_state.specs.declared.entry.Actor.TheVariants.{Engine}
use Rattle.core_state.specs.declared.graph.Graph.{Graph}
use Rattle.core_state.specs.declared.past.Past.{Past}
use Rattle.core_state.specs.declared.stack.Stack.{Stack}
use Rattle.step_relation.specs.Commands.{Lays, Sets, brief_of, first_letters, laid_changes, settles_at_once, stack_set}
use Rattle.step_relation.specs.Freshness.{plan_of}
use Rattle.step_relation.specs.Given.{Given}
use Rattle.step_relation.specs.Orders.{back_after, past_of, past_or, plan_back, rollback_sets}
use Rattle.step_relation.specs.Elsewhere.{Elsewhere}
use Rattle.step_relation.specs.Sound.{Standing}
use Rattle.history_laws.proofs.tables.Rows.{graph_here, job_cut, letter-key, past_here, same_or_not, same_some}
use Rattle.history_laws.proofs.tables.Rows.{stack-key, text_or_not}
use Rattle.workable_laws.proofs.Below.{rows_in, sent_to}
use Rattle.workable_laws.proofs.Below.{laid_end, laid_state}
use Rattle.next_laws.proofs.Listings.{cons_cases, in_head, in_tail, no_member}
use Rattle.next_laws.proofs.Decide.{member_or_not, not_or}
use Rattle.workable_laws.proofs.Laid.{letters_length, new_rows, rows_found_in}
use Rattle.bound_laws.specs.Bound.{IsWork}
use Rattle.bound_laws.specs.Counts.{Counts}
use Rattle.bound_laws.specs.Rolls.{MayRoll, RollItem, RollJob, RollRow}
use Rattle.bound_laws.specs.Work.{IsLate, IsUnready}
use Rattle.bound_laws.proofs.Falls.{PollsFall}
use Rattle.bound_laws.proofs.Forms.{is_all, jobs_cut, own_gone}
use Rattle.bound_laws.proofs.Letters.{found_sent, numbers_in}
use Rattle.bound_laws.proofs.Marked.{Marks, back_open, updates_length}
use Rattle.bound_laws.proofs.Jobs.{IsOn, JobsWere, RowsWere, left_falls, on_or_not}
use Rattle.bound_laws.proofs.Own.{ends_sum, other_polls, stage_sum}
use Rattle.bound_laws.proofs.Rows.{current_target, target_current}
use Rattle.bound_laws.proofs.Settled.{IsSettled, settled}
use Rattle.bound_laws.proofs.Sets.{Picked, at_most, both_once, picked, some_fewer, some_more, those, within}
use Rattle.bound_laws.proofs.Spans.{beside, beside_length, beside_once, beside_was, in_beside, in_upto, length-append}
use Rattle.bound_laws.proofs.Spans.{length-map, rising_once, upto, upto_below, upto_length, upto_once}

module _ (before after : Token → ℕ) (s u : StateData) (e : ℕ) (given : Given) (falls : PollsFall before after s e given)
    (hs : Standing s) (j : Job) (st : Stack)
    (mk : Marks s u e j st) (on : (past_of u st.name).rollback ≡ true)
    (lays : Lays u st.name (plan_back u (record st { status = Failed })).items)
    (t : StateData) (is_t : t ≡ applied (laid_changes u st.name (plan_back u (record st { status = Failed })).items
    (rollback_sets u (record st { status = Failed }) (Engine e)) lays) u) (ht : Standing t)
    (elsewhere : Elsewhere st.name s t)
    (n m : ℕ) (a : IsWork before s n) (b : IsWork after t m) where
  abbrev own : List ℕ
  own = st.name

  abbrev failed : Stack
  failed = record st { status = Failed }

  abbrev items : List Item
  items = (plan_back u failed).items

  abbrev it : Sets
  it = rollback_sets u failed (Engine e)

  -- the state that the command left, with what a mark at once leaves
  ends_as : t ≡ applied (settles_at_once lays.graph.nodes u own it) (laid_state u own items it lays)
  ends_as = is_t ∙ laid_end u own items it lays

  end : IsSettled (laid_state u own items it lays)
      (applied (settles_at_once lays.graph.nodes u own it) (laid_state u own items it lays))
  end = settled lays.graph.nodes u failed (Engine e) (laid_state u own items it lays)

  lives : t.live ≡ s.live
  lives = ap (λ (x : StateData). x.live) ends_as ∙ (end.live ∙ mk.lives)

  jobs : t.jobs ≡ cut_job e s.jobs
  jobs = ap (λ (x : StateData). x.jobs) ends_as ∙ (end.jobs ∙ mk.jobs)

  rows : t.rows ≡ rows_in lays.rows u.rows
  rows = ap (λ (x : StateData). x.rows) ends_as ∙ end.rows

  letters : t.letters ≡ sent_to (first_letters u own items it lays) s.letters
  letters = ap (λ (x : StateData). x.letters) ends_as ∙ (end.letters
      ∙ ap (sent_to (first_letters u own items it lays)) mk.letters)

  graphs : t.graphs ≡ put_graph (fresh_graph own lays.graph) u.graphs
  graphs = ap (λ (x : StateData). x.graphs) ends_as ∙ end.graphs

  pasts : t.pasts ≡ put_past it.past u.pasts
  pasts = ap (λ (x : StateData). x.pasts) ends_as ∙ end.pasts

  were : JobsWere s t e
  were = jobs_cut s t lives e jobs

  -- its stack is never to roll then, and was
  off : (past_of t own).rollback ≡ false
  off = let at : past_at t.pasts own ≡ Some it.past = subst (λ (l : List Past). past_at l own ≡ Some it.past)
      (sym pasts) (past_here it.past u.pasts) in
      ap (λ (x : Option Past). (past_or own x).rollback) at

  never : (x : Stack) → ¬ MayRoll t own x
  never x k = let off_ = off in let on_ = k.rollback in cc

  not_own : (name : List ℕ) (x : Stack) → MayRoll t name x → name ≢ own
  not_own name x k is = never x (subst (λ (y : List ℕ). MayRoll t y x) is k)

  past_same : (name : List ℕ) → name ≢ own → past_of t name ≡ past_of s name
  past_same name ne = ap (past_or name) (elsewhere.pasts name ne)

  may : (name : List ℕ) (x : Stack) → MayRoll t name x → MayRoll s name x
  may name x k = let ne = not_own name x k in record {
    in_table = sym (elsewhere.stacks name ne) ∙ k.in_table;
    unmarked = k.unmarked;
    rollback = ap (λ (p : Past). p.rollback) (sym (past_same name ne)) ∙ k.rollback;
  }

  past_u : past_of u own ≡ past_of s own
  past_u = ap (λ (l : List Past). past_or own (past_at l own)) mk.pasts

  may_own : MayRoll s own st
  may_own = record {
    in_table = mk.in_table;
    unmarked = mk.under;
    rollback = ap (λ (p : Past). p.rollback) (sym past_u) ∙ on;
  }

  -- letters: those that the command sends
  letters_sum : b.letters ≤ a.letters + length lays.leaves
  letters_sum =
      let le = some_more b.letters_are a.letters_are (map (λ (l : Letter). l.no) (first_letters u own items it lays))
      (λ x y. elim (found_then x y.letter y.at) [
        | inl old ↦ inl (record { letter = y.letter; at = old })
        | inr new ↦ inr (subst (Contains (map (λ (l : Letter). l.no) (first_letters u own items it lays)))
            (letter-key t.letters x y.letter y.at) (numbers_in (first_letters u own items it lays) y.letter new))
      ]) in
      let l = length-map (λ (l : Letter). l.no) (first_letters u own items it lays) in
      let k = letters_length (stack_set u own it InProgress) u.next.letter lays.leaves in omega (arith, le, l, k)
    where
      found_then : (x : ℕ) (l : Letter) → letter_at t.letters x ≡ Some l
          → (letter_at s.letters x ≡ Some l) ⊎ Contains (first_letters u own items it lays) l
      found_then x l at = found_sent (first_letters u own items it lays) s.letters x l
          (subst (λ (ls : List Letter). letter_at ls x ≡ Some l) letters at)

  -- nodes: those of the new graph that are no leaves
  abbrev size : ℕ
  size = length lays.graph.nodes

  inner : Picked (λ (i : ℕ). ¬ Contains lays.leaves i) (upto size)
  inner = picked (λ (i : ℕ). ¬ Contains lays.leaves i) (λ i. not_or (member_or_not same_or_not lays.leaves i))
      (upto size) (upto_once size)

  inner_sum : length lays.leaves + length inner.list ≤ size
  inner_sum =
      let le = within (lays.leaves ++ inner.list) (upto size)
      (both_once lays.leaves inner.list (rising_once lays.leaves lays.leaves_are.rising) inner.once
      (λ z l r. (inner.only z r).1 l)) (λ z c. elim (Contains-append_cases lays.leaves inner.list z c) [
        | inl leaf ↦ in_upto size z ((lays.leaves_are.each z).0 leaf).0
        | inr other ↦ (inner.only z other).0
      ]) in
      let l = length-append lays.leaves inner.list in let k = upto_length size in omega (arith, le, l, k)

  graph_mine : (g : Graph) → graph_at t.graphs own ≡ Some g → g ≡ fresh_graph own lays.graph
  graph_mine g at = same_some g (fresh_graph own lays.graph)
      (subst (λ (l : List Graph). graph_at l own ≡ Some g) graphs at) (graph_here (fresh_graph own lays.graph) u.graphs)

  paired : (x : List ℕ × ℕ) → x.0 ≡ own → x ≡ (own, x.1)
  paired x is = let y : (x.0, x.1) ≡ (own, x.1) = ap (λ (z : List ℕ). (z, x.1)) is in y

  node_was : (x : List ℕ × ℕ) → x.0 ≢ own → IsUnready t x → IsUnready s x
  node_was x ne k = record {
    stack = k.stack;
    graph = k.graph;
    node = k.node;
    in_table = sym (elsewhere.stacks x.0 ne) ∙ k.in_table;
    its_graph = sym (elsewhere.graphs x.0 ne) ∙ k.its_graph;
    its_node = k.its_node;
    unready = k.unready;
    undone = k.undone;
  }

  nodes_sum : b.nodes ≤ a.nodes + length inner.list
  nodes_sum =
      let le = some_more b.nodes_are a.nodes_are (beside own inner.list) (λ x k. elim (text_or_not x.0 own) [
        | inr ne ↦ inl (node_was x ne k)
        | inl is ↦ inr (subst (Contains (beside own inner.list)) (sym (paired x is))
            (in_beside own inner.list x.1 (inner_is x is k)))
      ]) in
      let l = beside_length own inner.list in omega (arith, le, l)
    where
      inner_is : (x : List ℕ × ℕ) → x.0 ≡ own → IsUnready t x → Contains inner.list x.1
      inner_is x is k =
          let g_is = graph_mine k.graph (subst (λ (y : List ℕ). graph_at t.graphs y ≡ Some k.graph) is k.its_graph) in
          let at : slice_get lays.graph.nodes x.1 ≡ Some k.node =
          subst (λ (g : Graph). slice_get g.graph.nodes x.1 ≡ Some k.node) g_is k.its_node in
          inner.has x.1 (in_upto size x.1 (slice_get_within lays.graph.nodes x.1 k.node at))
          (λ leaf. k.unready (subst (λ (g : Graph). IsReady g x.1) (sym g_is)
          (λ p edge. absurd (((lays.leaves_are.each x.1).0 leaf).1 p edge))))

  -- a graph has no more nodes than items and rows
  size_sum : size ≤ length items + length lays.standing
  size_sum =
      let e0 = ap (λ (l : List Node). length l) lays.built.nodes in
      let e1 = length-append (update_nodes items lays.chosen) (cleanup_nodes lays.built.sorted) in
      let e2 = updates_length items lays.chosen in
      let e3 = length-map (λ (r : RowBrief). C r.no) lays.built.sorted in
      let e4 = length_permutation (map brief_of lays.standing) lays.built.sorted lays.built.rows_are.same in
      let e5 = length-map brief_of lays.standing in omega (arith, e0, e1, e2, e3, e4, e5)

  -- the items and the rows stood for them
  items_same : items ≡ (plan_back s st).items
  items_same = ap (λ (x : Option PlanData). (plan_of x).items)
      (ap (λ (p : Past). p.back) past_u ∙ sym (back_open st (past_of s own) mk.under))

  items_sum : b.rolls_are.items + length items ≤ a.rolls_are.items
  items_sum =
      let le = some_fewer b.rolls_are.items_are a.rolls_are.items_are (beside own (upto (length items)))
      (beside_once own (upto (length items)) (upto_once (length items)))
      (λ x k. record {
        stack = k.stack;
        may = may x.0 k.stack k.may;
        within = subst (λ (p : PlanData). x.1 < length p.items) (back_same x.0 k.stack k.may) k.within;
      })
      (λ x c. let (mine, at) = beside_was own (upto (length items)) x c in let is = paired x mine in (
        subst (RollItem s) (sym is) (record {
          stack = st;
          may = may_own;
          within = (let lt = upto_below (length items) x.1 at in
              subst (λ (l : List Item). x.1 < length l) items_same lt);
        }),
        λ k. never k.stack (subst (λ (y : List ℕ × ℕ). MayRoll t y.0 k.stack) is k.may),
      )) in
      let l = beside_length own (upto (length items)) in let k = upto_length (length items) in omega (arith, le, l, k)
    where
      back_same : (name : List ℕ) (x : Stack) → MayRoll t name x → plan_back t x ≡ plan_back s x
      back_same name x k = let key = stack-key t.stacks name x k.in_table in
          ap (λ (p : Past). plan_of (back_after x p)) (past_same x.name (λ is. not_own name x k (sym key ∙ is)))

  rows_sum : b.rolls_are.rows + length lays.standing ≤ a.rolls_are.rows
  rows_sum =
      let le = some_fewer b.rolls_are.rows_are a.rolls_are.rows_are (map row_key lays.standing)
      (rising_once (map row_key lays.standing) lays.standing_are.rising)
      (λ i k. record {
        row = k.row;
        found = elsewhere.rows i k.row (not_own k.row.stack k.stack k.may) k.found;
        stack = k.stack;
        may = may k.row.stack k.stack k.may;
      })
      (λ i c. let (r, at, is) = row_was lays.standing i c in let (found, of) = lays.standing_are.only r at in
      let (o, there, token) = mk.rows.full r.no r found in
      let stacks : o.stack ≡ own = ap (λ (y : Token). y.stack) (sym token) ∙ of in (
        record {
          row = o;
          found = subst (λ (y : ℕ). row_at s.rows y ≡ Some o) (sym is) there;
          stack = st;
          may = subst (λ (y : List ℕ). MayRoll s y st) (sym stacks) may_own;
        },
        λ k. not_there i r o is there stacks k,
      )) in
      let l = length-map row_key lays.standing in omega (arith, le, l)
    where
      row_was : (rs : List Row) (i : ℕ) → Contains (map row_key rs) i → (r : Row) × Contains rs r × (i ≡ r.no)
      row_was [] i c = absurd (no_member i c)
      row_was (r ∷ rs) i c = elim (cons_cases (map row_key rs) r.no i c) [
        | inl is ↦ (r, in_head rs r, is)
        | inr later ↦ let (x, at, is) = row_was rs i later in (x, in_tail rs r x at, is)
      ]

      not_there : (i : ℕ) (r o : Row) → i ≡ r.no → row_at s.rows r.no ≡ Some o → o.stack ≡ own → RollRow t i → ⊥
      not_there i r o is there stacks k =
          let ne = not_own k.row.stack k.stack k.may in
          let was = elsewhere.rows i k.row ne k.found in
          let same : k.row ≡ o = same_some k.row o was (subst (λ (y : ℕ). row_at s.rows y ≡ Some o) (sym is) there) in
          ne (ap (λ (x : Row). x.stack) same ∙ stacks)

  -- jobs: those of the stack are late then
  jobs_sum : (b.late + b.rolls_are.jobs ≤ a.late + a.rolls_are.jobs)
  unfolding IsOn
  jobs_sum =
      let (c, mine) = those a.rolls_are.jobs_are (IsOn s own) (on_or_not s own) in
      let x = some_fewer b.rolls_are.jobs_are a.rolls_are.jobs_are mine.all mine.once
      (λ f k. record {
        job = k.job;
        its = elsewhere.jobs f k.job (not_own k.job.letter.stack k.stack k.may) k.its;
        stack = k.stack;
        may = may k.job.letter.stack k.stack k.may;
      })
      (λ f among. let (rolls, own_) = (mine.each f).0 among in (
        rolls,
        λ k.
            let ne = not_own k.job.letter.stack k.stack k.may in
            let same = same_some k.job own_.0 (elsewhere.jobs f k.job ne k.its) own_.1 in
            ne (ap (λ (y : Job). y.letter.stack) same ∙ own_.2),
      )) in
      let y = some_more b.late_are a.late_are mine.all (λ f k. late_was mine f k) in omega (arith, x, y)
    where
      late_was : {c : ℕ} (mine : Counts (λ f. RollJob s f × IsOn s own f) c) (f : ℕ) → IsLate t f
          → IsLate s f ⊎ Contains mine.all f
      late_was mine f k =
          let its = (job_cut e s.jobs (subst (λ (l : List Job). job_at l f ≡ Some k.job) jobs k.its)).1 in
          elim (text_or_not k.job.letter.stack own) [
            | inl is ↦ inr ((mine.each f).1 (
              record {
                job = k.job;
                its = its;
                stack = st;
                may = subst (λ (y : List ℕ). MayRoll s y st) (sym is) may_own;
              },
              (k.job, its, is),
            ))
            | inr ne ↦ inl (record {
              job = k.job;
              its = its;
              live = subst (λ (l : List ℕ). Contains l f) lives k.live;
              stale = λ x at. k.stale x (elsewhere.stacks k.job.letter.stack ne ∙ at);
            })
          ]

  -- what else stood for a rollback
  roll_letters_fall : b.rolls_are.letters ≤ a.rolls_are.letters
  roll_letters_fall = at_most b.rolls_are.letters_are a.rolls_are.letters_are (λ i k. record {
    letter = k.letter;
    at = elsewhere.letters i k.letter (not_own k.letter.stack k.stack k.may) k.at;
    stack = k.stack;
    may = may k.letter.stack k.stack k.may;
    newest = k.newest;
  })

  roll_nodes_fall : b.rolls_are.nodes ≤ a.rolls_are.nodes
  roll_nodes_fall = at_most b.rolls_are.nodes_are a.rolls_are.nodes_are (λ x k. record {
    stack = k.stack;
    may = may x.0 k.stack k.may;
    node = node_was x (not_own x.0 k.stack k.may) k.node;
  })

  far_falls : b.rolls_are.far ≤ a.rolls_are.far
  far_falls = at_most b.rolls_are.far_are a.rolls_are.far_are (λ x f.
      let ne = not_own x.0 f.stack f.may in
      let current = target_current t ht x f.stack f.graph f.name f.chosen f.row f.may.in_table f.its_graph f.its_node
      f.to f.found in
      let found = elsewhere.rows f.row.no f.row (λ is. ne (sym current.stack_is ∙ is)) f.found in
      let its_graph = sym (elsewhere.graphs x.0 ne) ∙ f.its_graph in
      let may_x = may x.0 f.stack f.may in record {
        stack = f.stack;
        may = may_x;
        graph = f.graph;
        name = f.name;
        chosen = f.chosen;
        row = f.row;
        its_graph = its_graph;
        its_node = f.its_node;
        to = current_target s hs x f.stack f.graph f.name f.chosen f.row may_x.in_table its_graph f.its_node found
            current.stack_is current.name_is current.current;
        found = found;
        far = f.far;
      })

  rows_were : RowsWere s t
  rows_were = record {
    were =
        λ i r at lt. elim (rows_found_in lays.rows u.rows i r (subst (λ (l : List Row). row_at l i ≡ Some r) rows at)) [
          | inl old ↦ mk.rows.full i r old
          | inr new ↦
              (let low = (new_rows u own u.next.trav u.next.row items lays.chosen lays.rows lays.chooses r new.0).low in
              let is = new.1 in let up = mk.next in absurd (omega (arith, lt, low, is, up)))
        ];
  }

  pub rolls : m < n
  rolls =
      let gone = own_gone s t e jobs in
      let x0 = ends_sum before after s t hs e were rows_were
      (other_polls before after s e given hs falls) n m a b j mk.its mk.live gone j.stage refl in
      let x1 = left_falls before after s t e were n m a b (λ x. absurd (gone x.job x.its)) in
      let some = some_sum j.stage in
      let l1 = letters_sum in let l2 = nodes_sum in let l3 = inner_sum in let l4 = size_sum in let l5 = items_sum in
      let l6 = rows_sum in
      let l7 = jobs_sum in let l8 = roll_letters_fall in let l9 = roll_nodes_fall in let l10 = far_falls in
      let x = is_all before s n a in let y = is_all after t m b in
      omega (arith, x, y, x0, x1, some, l1, l2, l3, l4, l5, l6, l7, l8, l9, l10)
    where
      some_sum : (x : Stage) → 1 ≤ stage_sum x
      some_sum Taken = omega arith
      some_sum Asking = omega arith
      some_sum Polling = omega arith
      some_sum Ending = omega arith
