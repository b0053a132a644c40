-- What stands for work can be decided, and is bounded.
use Rattle.std.proofs.Common.{◌≡◌, ◌≢◌, ◌⊎◌, inl, inr, ◌<◌, ℕ, zero, suc, ◌+◌, List, [], ◌∷◌, length, map, Option, Some}
use Rattle.std.proofs.Common.{None, refl, sym, ap, subst, ◌∙◌, arith}
use Rattle.std.specs.Prelude.{Contains, slice_get}
use Rattle.std.specs.Str.{bytes_eq}
use Rattle.std.proofs.lemmas.Option.{slice_get_within}
use Rattle.heat_plan.specs.declared.token.Token.{Token}
use Rattle.heat_plan.specs.declared.phase.Act.TheVariants.{Init}
use Rattle.traversal_graph.specs.declared.shape.Node.{Node}
use Rattle.traversal_graph.specs.declared.shape.Node.TheVariants.{C, U}
use Rattle.row_table.specs.Rows.{row_at}
use Rattle.row_table.specs.declared.row.Row.{Row}
use Rattle.mail_table.specs.Mails.{job_at, job_key, letter_at}
use Rattle.mail_table.specs.declared.mail.Job.{Job}
use Rattle.mail_table.specs.declared.mail.Letter.{Letter}
use Rattle.mail_table.specs.declared.mail.Stage.{Stage}
use Rattle.mail_table.specs.declared.mail.Stage.TheVariants.{Asking, Ending, Polling, Taken}
use Rattle.core_state.specs.Reads.{IsDone, IsReady}
use Rattle.core_state.specs.State.{StateData, graph_at, stack_at, stack_key}
use Rattle.core_state.specs.declared.graph.Graph.{Graph}
use Rattle.core_state.specs.declared.stack.Stack.{Stack}
use Rattle.step_relation.specs.Orders.{plan_back}
use Rattle.step_relation.specs.Rows.{token_of}
use Rattle.step_relation.specs.Targets.{IsTarget}
use Rattle.step_relation.specs.MailFits.{IsStale}
use Rattle.history_laws.proofs.tables.Rows.{row-key, same_or_not, same_some, stack-key, text_or_not}
use Rattle.history_laws.proofs.tables.Tables.{at-place}
use Rattle.history_laws.proofs.tables.Targets.{target_once}
use Rattle.next_laws.proofs.Listings.{in_head, in_tail}
use Rattle.next_laws.proofs.Decide.{Decided, bound_at, both_or_not, le_or_not, member_or_not, not_or}
use Rattle.next_laws.proofs.Fates.{init_or_not}
use Rattle.next_laws.proofs.Sights.{done_or_not, ready_or_not}
use Rattle.next_laws.proofs.Targets.{target_or_none}
use Rattle.bound_laws.specs.Counts.{Counts}
use Rattle.bound_laws.specs.Rolls.{MayRoll, RollFar, RollItem, RollJob, RollLetter, RollNode, RollRow}
use Rattle.bound_laws.specs.Work.{IsAt, IsLate, IsLeft, IsLetter, IsPoll, IsUnready}
use Rattle.bound_laws.proofs.Forms.{may_or_not}
use Rattle.bound_laws.proofs.Listed.{Singled, below, singled}

module _ (left : Token → ℕ) (s : StateData) where
  -- the names of stacks, each once
  names_in : (sts : List Stack) (i : ℕ) (st : Stack) → slice_get sts i ≡ Some st
      → Contains (map (λ (x : Stack). x.name) sts) st.name
  names_in [] i st a = cc
  names_in (x ∷ sts) zero st a = let is : x ≡ st = cc in
      subst (λ (y : Stack). Contains (x.name ∷ map (λ (z : Stack). z.name) sts) y.name) is
      (in_head (map (λ (z : Stack). z.name) sts) x.name)
  names_in (x ∷ sts) (suc i) st a = in_tail (map (λ (z : Stack). z.name) sts) x.name st.name (names_in sts i st a)

  pub names : Singled (map (λ (x : Stack). x.name) s.stacks)
  names = singled text_or_not (map (λ (x : Stack). x.name) s.stacks)

  pub named : (name : List ℕ) (st : Stack) → stack_at s.stacks name ≡ Some st → Contains names.list name
  named name st found =
      let (i, a) = at-place bytes_eq stack_key s.stacks name st found in
      subst (Contains names.list) (stack-key s.stacks name st found) (names.has st.name (names_in s.stacks i st a))

  -- how many nodes a stack's graph has
  nodes_of : Option Graph → ℕ
  nodes_of None = 0
  nodes_of (Some g) = length g.graph.nodes

  pub size : List ℕ → ℕ
  size name = nodes_of (graph_at s.graphs name)

  pub within_size : (name : List ℕ) (g : Graph) (i : ℕ) (node : Node) → graph_at s.graphs name ≡ Some g
      → slice_get g.graph.nodes i ≡ Some node → i < size name
  unfolding size nodes_of
  within_size name g i node found a = let lt = slice_get_within g.graph.nodes i node a in let e = ap nodes_of found in
      omega (arith, lt, e)

  -- jobs
  with_job : (P : ℕ → Type 0) (e : ℕ) → ((j : Job) → job_at s.jobs e ≡ Some j → Decided (P e))
      → (P e → (j : Job) × (job_at s.jobs e ≡ Some j)) → Decided (P e)
  with_job P e some has = by (job_at s.jobs e) refl where
    by : (o : Option Job) → job_at s.jobs e ≡ o → Decided (P e)
    by None none = inr (λ p. let (j, its) = has p in cc)
    by (Some j) its = some j its

  stale_or_not : (l : Letter) → Decided (IsStale s.stacks l)
  stale_or_not l = by (stack_at s.stacks l.stack) refl where
    by : (o : Option Stack) → stack_at s.stacks l.stack ≡ o → Decided (IsStale s.stacks l)
    by None none = inl (λ st found. cc)
    by (Some st) found = elim (same_or_not st.trav l.trav) [
      | inl is ↦ inr (λ old. old st found is)
      | inr ne ↦ inl (λ x a is. ne (ap (λ (y : Stack). y.trav) (same_some st x found a) ∙ is))
    ]

  stage_or_not : (x y : Stage) → Decided (x ≡ y)
  stage_or_not Taken Taken = inl refl
  stage_or_not Asking Asking = inl refl
  stage_or_not Polling Polling = inl refl
  stage_or_not Ending Ending = inl refl
  stage_or_not Taken Asking = inr (λ e. cc)
  stage_or_not Taken Polling = inr (λ e. cc)
  stage_or_not Taken Ending = inr (λ e. cc)
  stage_or_not Asking Taken = inr (λ e. cc)
  stage_or_not Asking Polling = inr (λ e. cc)
  stage_or_not Asking Ending = inr (λ e. cc)
  stage_or_not Polling Taken = inr (λ e. cc)
  stage_or_not Polling Asking = inr (λ e. cc)
  stage_or_not Polling Ending = inr (λ e. cc)
  stage_or_not Ending Taken = inr (λ e. cc)
  stage_or_not Ending Asking = inr (λ e. cc)
  stage_or_not Ending Polling = inr (λ e. cc)

  pub live_or_not : (e : ℕ) → Decided (Contains s.live e)
  live_or_not e = member_or_not same_or_not s.live e

  pub left_or_not : (e : ℕ) → Decided (IsLeft s e)
  left_or_not e = with_job (IsLeft s) e (λ j its. elim (live_or_not e) [
    | inl live ↦ inr (λ k. k.stopped live)
    | inr stopped ↦ inl (record { job = j; its = its; stopped = stopped })
  ]) (λ k. (k.job, k.its))

  pub at_or_not : (stage : Stage) (e : ℕ) → Decided (IsAt stage s e)
  at_or_not stage e = with_job (IsAt stage s) e
      (λ j its. elim (both_or_not (live_or_not e) (stage_or_not j.stage stage)) [
        | inl both ↦ inl (record { job = j; its = its; live = both.0; stage_is = both.1 })
        | inr not ↦ inr (λ k. not (k.live, ap (λ (x : Job). x.stage) (same_some j k.job its k.its) ∙ k.stage_is))
      ]) (λ k. (k.job, k.its))

  pub late_or_not : (e : ℕ) → Decided (IsLate s e)
  late_or_not e = with_job (IsLate s) e (λ j its. elim (both_or_not (live_or_not e) (stale_or_not j.letter)) [
    | inl both ↦ inl (record { job = j; its = its; live = both.0; stale = both.1 })
    | inr not ↦
        inr (λ k. not (k.live, subst (λ (x : Job). IsStale s.stacks x.letter) (same_some k.job j k.its its) k.stale))
  ]) (λ k. (k.job, k.its))

  pub roll_job_or_not : (e : ℕ) → Decided (RollJob s e)
  roll_job_or_not e = with_job (RollJob s) e (λ j its. elim (may_or_not s j.letter.stack) [
    | inl may ↦ inl (record { job = j; its = its; stack = may.0; may = may.1 })
    | inr never ↦ inr
        (λ k. never k.stack (subst (λ (x : Job). MayRoll s x.letter.stack k.stack) (same_some k.job j k.its its) k.may))
  ]) (λ k. (k.job, k.its))

  pub by_jobs : (P : ℕ → Type 0) → ((e : ℕ) → Decided (P e)) → ((e : ℕ) → P e → (j : Job) × (job_at s.jobs e ≡ Some j))
      → (n : ℕ) × Counts P n
  by_jobs P d has = let (b, within) = bound_at job_key s.jobs in
      below P d b (λ e p. let (j, its) = has e p in within e j its)

  -- polls
  row_of_job : Option Job → Option Row
  row_of_job None = None
  row_of_job (Some j) = row_at s.rows j.row

  polls_of : Option Row → ℕ
  polls_of None = 0
  polls_of (Some r) = left (token_of r) + 2

  pub poll_size : ℕ → ℕ
  poll_size e = polls_of (row_of_job (job_at s.jobs e))

  pub poll_within : (x : ℕ × ℕ) → IsPoll left s x → x.1 < poll_size x.0
  unfolding poll_size polls_of row_of_job
  poll_within x p =
      let e : poll_size x.0 ≡ left (token_of p.row) + 2 = ap (λ (o : Option Job). polls_of (row_of_job o)) p.at.its
      ∙ ap polls_of p.found in
      let lt = p.below in omega (arith, lt, e)

  pub poll_or_not : (x : ℕ × ℕ) → Decided (IsPoll left s x)
  poll_or_not x = elim (at_or_not Polling x.0) [
    | inr not ↦ inr (λ p. not p.at)
    | inl k ↦ by k (row_at s.rows k.job.row) refl
  ] where
    by : (k : IsAt Polling s x.0) (o : Option Row) → row_at s.rows k.job.row ≡ o → Decided (IsPoll left s x)
    by k None none = inr (λ p. let found = subst (λ (j : Job). row_at s.rows j.row ≡ Some p.row)
        (same_some p.at.job k.job p.at.its k.its) p.found in cc)
    by k (Some r) found = elim (le_or_not (suc x.1) (left (token_of r) + 2)) [
      | inl lt ↦ inl (record { at = k; row = r; found = found; below = lt })
      | inr not ↦ inr (λ p.
          let there = subst (λ (j : Job). row_at s.rows j.row ≡ Some p.row)
          (same_some p.at.job k.job p.at.its k.its) p.found in
          not (subst (λ (q : Row). x.1 < left (token_of q) + 2) (same_some p.row r there found) p.below))
    ]

  -- nodes
  module _ (x : List ℕ × ℕ) where
    with_node : (P : Type 0) → ((st : Stack) (g : Graph) (node : Node) → stack_at s.stacks x.0 ≡ Some st
        → graph_at s.graphs x.0 ≡ Some g
        → slice_get g.graph.nodes x.1 ≡ Some node → Decided P)
        → (P → (st : Stack) × (g : Graph) × (node : Node) × (stack_at s.stacks x.0 ≡ Some st)
        × (graph_at s.graphs x.0 ≡ Some g) × (slice_get g.graph.nodes x.1 ≡ Some node))
        → Decided P
    with_node P some has = by_stack (stack_at s.stacks x.0) refl where
      by_node : (st : Stack) (g : Graph) → stack_at s.stacks x.0 ≡ Some st → graph_at s.graphs x.0 ≡ Some g
          → (o : Option Node) → slice_get g.graph.nodes x.1 ≡ o → Decided P
      by_node st g a c None none = inr (λ p. let (st', g', node, a', c', d) = has p in
          let there = subst (λ (y : Graph). slice_get y.graph.nodes x.1 ≡ Some node) (same_some g' g c' c) d in cc)
      by_node st g a c (Some node) d = some st g node a c d

      by_graph : (st : Stack) → stack_at s.stacks x.0 ≡ Some st → (o : Option Graph)
          → graph_at s.graphs x.0 ≡ o → Decided P
      by_graph st a None none = inr (λ p. let (st', g', node, a', c', d) = has p in cc)
      by_graph st a (Some g) c = by_node st g a c (slice_get g.graph.nodes x.1) refl

      by_stack : (o : Option Stack) → stack_at s.stacks x.0 ≡ o → Decided P
      by_stack None none = inr (λ p. let (st', g', node, a', c', d) = has p in cc)
      by_stack (Some st) a = by_graph st a (graph_at s.graphs x.0) refl

    pub unready_or_not : Decided (IsUnready s x)
    unready_or_not = with_node (IsUnready s x)
        (λ st g node a c d. elim (both_or_not (not_or (ready_or_not g x.1)) (not_or (done_or_not g x.1))) [
          | inl both ↦ inl (record {
            stack = st;
            graph = g;
            node = node;
            in_table = a;
            its_graph = c;
            its_node = d;
            unready = both.0;
            undone = both.1;
          })
          | inr not ↦ inr (λ k. let same = same_some k.graph g k.its_graph c in
              not (subst (λ (y : Graph). (¬ IsReady y x.1) × (¬ IsDone y x.1)) same (k.unready, k.undone)))
        ]) (λ k. (k.stack, k.graph, k.node, k.in_table, k.its_graph, k.its_node))

    pub roll_node_or_not : Decided (RollNode s x)
    roll_node_or_not = elim unready_or_not [
      | inr not ↦ inr (λ k. not k.node)
      | inl node ↦ elim (may_or_not s x.0) [
        | inl may ↦ inl (record { stack = may.0; may = may.1; node = node })
        | inr never ↦ inr (λ k. never k.stack k.may)
      ]
    ]

    pub roll_item_or_not : Decided (RollItem s x)
    roll_item_or_not = elim (may_or_not s x.0) [
      | inr never ↦ inr (λ k. never k.stack k.may)
      | inl may ↦ elim (le_or_not (suc x.1) (length (plan_back s may.0).items)) [
        | inl lt ↦ inl (record { stack = may.0; may = may.1; within = lt })
        | inr not ↦ inr (λ k. not (subst (λ (st : Stack). x.1 < length (plan_back s st).items)
            (same_some k.stack may.0 k.may.in_table may.1.in_table) k.within))
      ]
    ]

    far_or_not : (st : Stack) (r : Row) → Decided ((r.act ≡ Init) ⊎ (r.trav ≢ st.trav))
    far_or_not st r = elim (init_or_not r.act) [
      | inl new ↦ inl (inl new)
      | inr begun ↦ elim (same_or_not r.trav st.trav) [
        | inl is ↦ inr (λ k. elim k [ inl new ↦ begun new | inr ne ↦ ne is ])
        | inr ne ↦ inl (inr ne)
      ]
    ]

    is_u : (name : List ℕ) (chosen n : ℕ) → C n ≡ U name chosen → ⊥
    is_u name chosen n e = cc

    roll_far_at : (st : Stack) → MayRoll s x.0 st → (g : Graph) (node : Node) → graph_at s.graphs x.0 ≡ Some g
        → slice_get g.graph.nodes x.1 ≡ Some node → Decided (RollFar s x)
    roll_far_at st may g (C n) c d = inr (λ k. is_u k.name k.chosen n
        (same_some (C n) (U k.name k.chosen) d (subst (λ (y : Graph). slice_get y.graph.nodes x.1 ≡ Some
        (U k.name k.chosen)) (same_some k.graph g k.its_graph c) k.its_node)))
    roll_far_at st may g (U name chosen) c d = elim (target_or_none s.rows x.0 (U name chosen)) [
      | inr none ↦ inr (λ k. none k.row.no (moved k))
      | inl found ↦ by_row found.0 found.1 (row_at s.rows found.0) refl
    ] where
      moved : (k : RollFar s x) → IsTarget s.rows x.0 (U name chosen) k.row.no
      moved k =
          let same : U k.name k.chosen ≡ U name chosen = same_some (U k.name k.chosen) (U name chosen)
          (subst (λ (y : Graph). slice_get y.graph.nodes x.1 ≡ Some (U k.name k.chosen))
          (same_some k.graph g k.its_graph c) k.its_node) d in
          subst (λ (y : Node). IsTarget s.rows x.0 y k.row.no) same k.to

      number : (t : ℕ) → IsTarget s.rows x.0 (U name chosen) t → (k : RollFar s x) → k.row.no ≡ t
      number t to k = target_once s.rows x.0 (U name chosen) k.row.no t (moved k) to

      by_row : (t : ℕ) → IsTarget s.rows x.0 (U name chosen) t → (o : Option Row) → row_at s.rows t ≡ o
          → Decided (RollFar s x)
      by_row t to None none = inr
          (λ k. let there = subst (λ (i : ℕ). row_at s.rows i ≡ Some k.row) (number t to k) k.found in cc)
      by_row t to (Some r) found = elim (far_or_not st r) [
        | inl far ↦ (let key : r.no ≡ t = row-key s.rows t r found in inl (record {
          stack = st;
          may = may;
          graph = g;
          name = name;
          chosen = chosen;
          row = r;
          its_graph = c;
          its_node = d;
          to = subst (IsTarget s.rows x.0 (U name chosen)) (sym key) to;
          found = subst (λ (i : ℕ). row_at s.rows i ≡ Some r) (sym key) found;
          far = far;
        }))
        | inr near ↦ inr (λ k.
            let there = subst (λ (i : ℕ). row_at s.rows i ≡ Some k.row) (number t to k) k.found in
            let same = same_some k.row r there found in
            let stacks = same_some k.stack st k.may.in_table may.in_table in
            near (subst (λ (q : Row). (q.act ≡ Init) ⊎ (q.trav ≢ st.trav)) same
            (subst (λ (y : Stack). (k.row.act ≡ Init) ⊎ (k.row.trav ≢ y.trav)) stacks k.far)))
      ]

    pub roll_far_or_not : Decided (RollFar s x)
    roll_far_or_not = elim (may_or_not s x.0) [
      | inr never ↦ inr (λ k. never k.stack k.may)
      | inl may ↦ with_node (RollFar s x) (λ st g node a c d. roll_far_at may.0 may.1 g node c d)
          (λ k. (k.stack, k.graph, U k.name k.chosen, k.may.in_table, k.its_graph, k.its_node))
    ]

  -- letters and rows
  pub letter_or_not : (n : ℕ) → Decided (IsLetter s n)
  letter_or_not n = by (letter_at s.letters n) refl where
    by : (o : Option Letter) → letter_at s.letters n ≡ o → Decided (IsLetter s n)
    by None none = inr (λ k. let a = k.at in cc)
    by (Some l) a = inl (record { letter = l; at = a })

  pub roll_letter_or_not : (n : ℕ) → Decided (RollLetter s n)
  roll_letter_or_not n = elim (letter_or_not n) [
    | inr not ↦ inr (λ k. not (record { letter = k.letter; at = k.at }))
    | inl k ↦ elim (may_or_not s k.letter.stack) [
      | inr never ↦ inr (λ q. never q.stack
          (subst (λ (l : Letter). MayRoll s l.stack q.stack) (same_some q.letter k.letter q.at k.at) q.may))
      | inl may ↦ elim (same_or_not k.letter.trav may.0.trav) [
        | inl is ↦ inl (record { letter = k.letter; at = k.at; stack = may.0; may = may.1; newest = is })
        | inr ne ↦ inr (λ q. let l = same_some q.letter k.letter q.at k.at in
            let st = same_some q.stack may.0
            (subst (λ (y : Letter). stack_at s.stacks y.stack ≡ Some q.stack) l q.may.in_table) may.1.in_table in
            ne (ap (λ (y : Letter). y.trav) (sym l) ∙ (q.newest ∙ ap (λ (y : Stack). y.trav) st)))
      ]
    ]
  ]

  pub roll_row_or_not : (n : ℕ) → Decided (RollRow s n)
  roll_row_or_not n = by (row_at s.rows n) refl where
    by : (o : Option Row) → row_at s.rows n ≡ o → Decided (RollRow s n)
    by None none = inr (λ k. let a = k.found in cc)
    by (Some r) a = elim (may_or_not s r.stack) [
      | inl may ↦ inl (record { row = r; found = a; stack = may.0; may = may.1 })
      | inr never ↦
          inr (λ k. never k.stack (subst (λ (q : Row). MayRoll s q.stack k.stack) (same_some k.row r k.found a) k.may))
    ]

  items_of : Option Stack → ℕ
  items_of None = 0
  items_of (Some st) = length (plan_back s st).items

  pub item_size : List ℕ → ℕ
  item_size name = items_of (stack_at s.stacks name)

  pub item_within : (x : List ℕ × ℕ) → RollItem s x → x.1 < item_size x.0
  unfolding item_size items_of
  item_within x k = let e : item_size x.0 ≡ length (plan_back s k.stack).items = ap items_of k.may.in_table in
      let lt = k.within in omega (arith, lt, e)
