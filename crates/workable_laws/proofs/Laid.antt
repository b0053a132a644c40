-- A command leaves a workable state workable: its rows and letters are new, and its nodes' rows stand.
use Rattle.std.proofs.Common.{◌≡◌, ◌≢◌, ◌⊎◌, inl, inr, ◌<◌, ◌≤◌, ℕ, ◌+◌, List, [], ◌∷◌, ◌++◌, length, map, Some, refl}
use Rattle.std.proofs.Common.{sym, ap, subst, ◌∙◌, arith}
use Rattle.std.specs.Prelude.{Contains, IsSome, slice_get}
use Rattle.std.proofs.lemmas.List.Elements.{Contains-append_cases}
use Rattle.std.proofs.lemmas.List.Sorted.{Contains-permutation, IsPermutation-sym}
use Rattle.heat_plan.specs.declared.item.Item.{Item}
use Rattle.heat_plan.specs.declared.phase.Act.{Act}
use Rattle.heat_plan.specs.declared.phase.Act.TheVariants.{Delete, Init, Rollback}
use Rattle.heat_plan.specs.declared.phase.Status.TheVariants.{InProgress}
use Rattle.heat_plan.specs.declared.token.Token.{Token}
use Rattle.traversal_graph.specs.Nodes.{cleanup_nodes, update_nodes}
use Rattle.traversal_graph.specs.declared.brief.RowBrief.{RowBrief}
use Rattle.traversal_graph.specs.declared.shape.Node.{Node}
use Rattle.traversal_graph.specs.declared.shape.Node.TheVariants.{C, U}
use Rattle.row_table.specs.Rows.{put_row, row_at}
use Rattle.row_table.specs.declared.row.Row.{Row}
use Rattle.mail_table.specs.Mails.{job_at}
use Rattle.mail_table.specs.declared.mail.Job.{Job}
use Rattle.mail_table.specs.declared.mail.Letter.{Letter}
use Rattle.core_state.specs.Changes.{applied, fresh_graph}
use Rattle.core_state.specs.State.{StateData, put_stack, stack_at}
use Rattle.core_state.specs.declared.entry.Entry.{Entry}
use Rattle.core_state.specs.declared.numbers.Numbers.{Numbers}
use Rattle.core_state.specs.declared.stack.Stack.{Stack}
use Rattle.step_relation.specs.Commands.{Chooses, Lays, Sets, brief_of, current, first_letters, fresh, laid_changes}
use Rattle.step_relation.specs.Commands.{laid_entries, none, past_command, settles_at_once, stack_set}
use Rattle.step_relation.specs.Writes.{letters_to, mark_complete}
use Rattle.step_relation.specs.Opening.{Opening}
use Rattle.history_laws.proofs.tables.Rows.{graph_put, row_else, row_put, stack_else, stack_here}
use Rattle.history_laws.proofs.tells.Silence.{AreUncalling, could-silent}
use Rattle.history_laws.proofs.agrees.Ends.{rows_in}
use Rattle.history_laws.proofs.agrees.Laid.{end_of, laid_end, laid_state, laid_uncalling}
use Rattle.history_laws.proofs.edges.Members.{contains_at}
use Rattle.next_laws.proofs.Listings.{cons_cases, in_head, in_tail, no_member}
use Rattle.step_relation.specs.Numbered.{EachOnce}
use Rattle.workable_laws.specs.Workable.{AreWhole, IsWhole, Workable}
use Rattle.workable_laws.proofs.Drawing.{AllFit, drawn_applied, fresh_point, whole_applied, rows_fit, sends_fit}
use Rattle.workable_laws.proofs.Ends.{letters_to_under, mark_fits}
use Rattle.workable_laws.proofs.Kept.{JobsKept, Kept, RowsKept}
use Rattle.workable_laws.proofs.Own.{dead_new, done_with}
use Rattle.workable_laws.proofs.Within.{laid_within}
use Rattle.heat_plan.specs.declared.phase.Act.TheVariants as acts

-- the rows that a command makes
pub record IsNew (next count : ℕ) (r : Row) : Type 0 where
  pub act : r.act ≡ Init
  pub low : next ≤ r.no
  pub high : r.no < next + count

pub new_rows : (s : StateData) (stack : List ℕ) (trav next : ℕ) (items : List Item) (ns : List ℕ) (rs : List Row)
    → Chooses s stack trav next items ns rs
    → (r : Row) → Contains rs r → IsNew next (length rs) r
new_rows s stack trav next items ns rs (none _) r c = absurd (no_member r c)
new_rows s stack trav next items ns rs (current _ item more q chosen _ is on) r c =
    new_rows s stack trav next more chosen rs on r c
new_rows s stack trav next items ns rs (fresh _ item more chosen rest none_is on) r c = elim (cons_cases rest _ r c) [
  | inl is ↦ (let n : r.no ≡ next = ap (λ (x : Row). x.no) is in
      record { act = ap (λ (x : Row). x.act) is; low = omega (arith, n); high = omega (arith, n) })
  | inr later ↦ (let k = new_rows s stack trav (next + 1) more chosen rest on r later in
      let low = k.low in let high = k.high in
      record { act = k.act; low = omega (arith, low); high = omega (arith, high) })
]

pub letters_length : (st : Stack) (n : ℕ) (nodes : List ℕ) → length (letters_to st n nodes) ≡ length nodes
letters_length st n [] = refl
letters_length st n (node ∷ nodes) = let e = letters_length st (n + 1) nodes in omega (arith, e)

-- rows written one after another
rows_else_in : (qs rows : List Row) (n : ℕ) → ((q : Row) → Contains qs q → q.no ≢ n)
    → row_at (rows_in qs rows) n ≡ row_at rows n
rows_else_in [] rows n ne = refl
rows_else_in (q ∷ qs) rows n ne =
    rows_else_in qs (put_row q rows) n (λ p c. ne p (in_tail qs q p c)) ∙ row_else q rows n (ne q (in_head qs q))

pub rows_found_in : (qs rows : List Row) (n : ℕ) (p : Row) → row_at (rows_in qs rows) n ≡ Some p
    → (row_at rows n ≡ Some p) ⊎ (Contains qs p × (p.no ≡ n))
rows_found_in [] rows n p at = inl at
rows_found_in (q ∷ qs) rows n p at = elim (rows_found_in qs (put_row q rows) n p at) [
  | inr later ↦ inr (in_tail qs q p later.0, later.1)
  | inl put ↦ elim (row_put q rows put) [
    | inl new ↦ inr (subst (Contains (q ∷ qs)) new.1 (in_head qs q), ap (λ (x : Row). x.no) (sym new.1) ∙ new.0)
    | inr old ↦ inl old.1
  ]
]

-- the rows of clean-up nodes
no_update : (items : List Item) (ns : List ℕ) (n : ℕ) → Contains (update_nodes items ns) (C n) → ⊥
no_update [] ns n c = no_member (C n) c
no_update (item ∷ items) [] n c = no_member (C n) c
no_update (item ∷ items) (m ∷ ns) n c = elim (cons_cases (update_nodes items ns) (U item.name m) (C n) c) [
  | inl is ↦ cc
  | inr later ↦ no_update items ns n later
]

swept : (bs : List RowBrief) (n : ℕ) → Contains (cleanup_nodes bs) (C n) → (b : RowBrief) × Contains bs b × (b.no ≡ n)
swept [] n c = absurd (no_member (C n) c)
swept (b ∷ bs) n c = elim (cons_cases (cleanup_nodes bs) (C b.no) (C n) c) [
  | inl is ↦ (b, in_head bs b, (let e : n ≡ b.no = cc in sym e))
  | inr later ↦ let (x, at, is) = swept bs n later in (x, in_tail bs b x at, is)
]

briefed : (rs : List Row) (b : RowBrief) → Contains (map brief_of rs) b → (r : Row) × Contains rs r × (b ≡ brief_of r)
briefed [] b c = absurd (no_member b c)
briefed (r ∷ rs) b c = elim (cons_cases (map brief_of rs) (brief_of r) b c) [
  | inl is ↦ (r, in_head rs r, is)
  | inr later ↦ let (x, at, is) = briefed rs b later in (x, in_tail rs r x at, is)
]

module _ (o : Opening) (h : List Entry) (s : StateData) (w : Workable o h s) (name : List ℕ) (items : List Item)
    (it : Sets) (k : Lays s name items) where
  abbrev next : Numbers
  next = past_command s.next it.stacks (length k.rows) (length k.leaves)

  made : (r : Row) → Contains k.rows r → IsNew s.next.row (length k.rows) r
  made r c = new_rows s name s.next.trav s.next.row items k.chosen k.rows k.chooses r c

  row_drawn : (r : Row) → Contains k.rows r → r.no < next.row
  row_drawn r c = (made r c).high

  node_drawn : (i n : ℕ) → slice_get k.graph.nodes i ≡ Some (C n) → n < next.row
  node_drawn i n at =
      let there : Contains (update_nodes items k.chosen ++ cleanup_nodes k.built.sorted) (C n) =
      subst (λ (l : List Node). Contains l (C n)) k.built.nodes (contains_at k.graph.nodes i (C n) at) in
      elim (Contains-append_cases (update_nodes items k.chosen) (cleanup_nodes k.built.sorted) (C n) there) [
        | inl update ↦ absurd (no_update items k.chosen n update)
        | inr clean ↦ (let (b, among, is) = swept k.built.sorted n clean in
            let unsorted : Contains (map brief_of k.standing) b =
            Contains-permutation k.built.sorted (map brief_of k.standing) b
            (IsPermutation-sym (map brief_of k.standing) k.built.sorted k.built.rows_are.same) among in
            let (r, in_rows, same) = briefed k.standing b unsorted in
            let found = (k.standing_are.only r in_rows).0 in
            let lt = w.drawn.rows r.no r found in
            let e : b.no ≡ r.no = ap (λ (x : RowBrief). x.no) same in omega (arith, lt, e, is))
      ]

  letters_drawn : (l : Letter) → Contains (first_letters s name items it k) l → l.no < next.letter
  letters_drawn l c =
      let lt = letters_to_under o h s w (stack_set s name it InProgress) s.next.letter k.leaves l c in
      let same = letters_length (stack_set s name it InProgress) s.next.letter k.leaves in omega (arith, lt, same)

  -- the state with the stack
  abbrev with_stack : StateData
  with_stack = record s { stacks = put_stack (stack_set s name it InProgress) s.stacks }

  stands : IsSome (stack_at with_stack.stacks name)
  stands = rw (stack_here (stack_set s name it InProgress) s.stacks) refl

  settled_fits : (nodes : List Node) → AllFit with_stack next (settles_at_once nodes s name it)
  settled_fits [] = mark_fits o h s w with_stack next (stack_set s name it InProgress) stands
  settled_fits (node ∷ nodes) = tt

  laid_fits : AllFit with_stack s.next (laid_changes s name items it k)
  laid_fits = (
    record { stack = omega arith; trav = omega arith; row = omega arith; engine = omega arith; letter = omega arith },
    (
      stands,
      (
        tt,
        rows_fit with_stack next k.rows _ row_drawn (
          (node_drawn, laid_within s name items k),
          sends_fit with_stack next (first_letters s name items it k) _ letters_drawn (settled_fits k.graph.nodes),
        ),
      ),
    ),
  )

  laid_live : (nodes : List Node) (t : StateData) → (applied (settles_at_once nodes s name it) t).live ≡ t.live
  laid_live (node ∷ nodes) t = refl
  laid_live [] t = by it.act where
    by : (a : Act) → (applied (mark_complete (record (stack_set s name it InProgress) { act = a })) t).live ≡ t.live
    by Delete = refl
    by Init = refl
    by acts.Create = refl
    by acts.Update = refl
    by Rollback = refl

  rows_laid : RowsKept o (h ++ laid_entries s name items it k) s (rows_in k.rows s.rows) s.next.row
  rows_laid = record {
    else_ = λ n ne lt. rows_else_in k.rows s.rows n (λ q c is. let low = (made q c).low in omega (arith, lt, low, is));
    written = λ n q at where_. elim (rows_found_in k.rows s.rows n q at) [
      | inl old ↦ (let lt = w.drawn.rows n q old in
          absurd (elim where_ [ inl is ↦ omega (arith, lt, is) | inr le ↦ omega (arith, lt, le) ]))
      | inr new ↦ (let a = (made q new.0).act in record {
        stands = record {
          act = λ e. (let f : Init ≡ Rollback = sym a ∙ e in cc);
          target = λ up. (let f : Init ≡ acts.Update = sym a ∙ up in cc);
        };
        lives = λ must. absurd (dead_new q a must);
        token = λ e lt. absurd (omega (arith, e, lt));
      })
    ];
  }

  laid_kept : Kept o h (h ++ laid_entries s name items it k) s
      (applied (laid_changes s name items it k) s) s.next.engine s.next.row
  laid_kept = let end = end_of s name items it k in
      let silent : AreUncalling (laid_entries s name items it k) = laid_uncalling s name items it k in record {
        live = λ f c. inl (subst (λ (l : List ℕ). Contains l f) (ap (λ (t : StateData). t.live)
            (laid_end s name items it k) ∙ laid_live k.graph.nodes (laid_state s name items it k)) c);
        rows = subst (λ (l : List Row). RowsKept o (h ++ laid_entries s name items it k) s l s.next.row)
            (sym end.rows) rows_laid;
        jobs = subst (λ (l : List Job). JobsKept s l s.next.engine s.next.row) (sym end.jobs)
            (record { else_ = λ f j at ne. (at, (λ is. let lt = w.drawn.jobs f j at in omega (arith, lt, is))) });
        own = λ q at. let lt = w.drawn.holders s.next.engine q
            (subst (λ (l : List Job). job_at l s.next.engine ≡ Some q) end.jobs at) in absurd (omega (arith, lt));
        could = λ x ne. could-silent o h (laid_entries s name items it k) x silent;
        released = λ x c. inl (subst (λ (l : List Token). Contains l x) end.tokens c);
        once = subst EachOnce (sym (ap (λ (t : StateData). t.live) (laid_end s name items it k)
            ∙ laid_live k.graph.nodes (laid_state s name items it k))) w.once;
      }

  -- the new graph is whole, and each other's stack was there
  laid_whole : AreWhole (laid_state s name items it k)
  laid_whole n g has at = elim (graph_put (fresh_graph name k.graph) s.graphs at) [
    | inl new ↦ subst IsWhole new.1 (record {
      points = λ i node it_. fresh_point name 0 k.graph.nodes i node it_;
      ends = laid_within s name items k;
    })
    | inr old ↦ w.graphs n g (subst IsSome (stack_else (stack_set s name it InProgress) s.stacks n old.0) has) old.1
  ]

  settled_whole : (nodes : List Node)
      → AreWhole (applied (settles_at_once nodes s name it) (laid_state s name items it k))
  settled_whole (node ∷ nodes) = laid_whole
  settled_whole [] = whole_applied (mark_complete (stack_set s name it InProgress)) (laid_state s name items it k)
      (mark_fits o h s w (laid_state s name items it k) next (stack_set s name it InProgress) stands) laid_whole

  pub laid_workable : Workable o (h ++ laid_entries s name items it k) (applied (laid_changes s name items it k) s)
  laid_workable = done_with o h s w (applied (laid_changes s name items it k) s)
      (laid_entries s name items it k) s.next.engine s.next.row
      (drawn_applied with_stack (laid_changes s name items it k) s laid_fits w.drawn)
      (subst AreWhole (sym (laid_end s name items it k)) (settled_whole k.graph.nodes)) laid_kept
