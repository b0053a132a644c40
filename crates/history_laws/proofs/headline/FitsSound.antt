-- Where a stack is Complete, or gone, what is alive of it is what its plan asks for.
use Rattle.std.proofs.Common.{List, ap, arith, inl, inr, refl, subst, sym, ◌∙◌}
use Rattle.std.specs.List.{AllZip}
use Rattle.std.specs.Prelude.{Contains, IsSome, List, None, Option, Some, [], option_map, unwrap_or, ℕ, ◌∷◌, ◌≡◌, ◌≢◌}
use Rattle.std.specs.Prelude.{◌≤◌}
use Rattle.heat_value.specs.Data.{Members}
use Rattle.heat_plan.specs.Plans.{PlanData, names_of}
use Rattle.heat_plan.specs.declared.facts.KnownFacts.{KnownFacts}
use Rattle.heat_plan.specs.declared.item.Item.{Item}
use Rattle.heat_plan.specs.declared.phase.Act.TheVariants.{Init}
use Rattle.heat_plan.specs.declared.phase.Status.TheVariants.{Complete}
use Rattle.heat_plan.specs.declared.token.Token.{Token}
use Rattle.traversal_graph.specs.declared.shape.Node.TheVariants.{C, U}
use Rattle.provider.specs.Table.{TokenState}
use Rattle.row_table.specs.Rows.{row_at}
use Rattle.row_table.specs.declared.row.Row.{Row}
use Rattle.step_relation.specs.Reads.{item_at}
use Rattle.step_relation.specs.State.{StateData, stack_at}
use Rattle.step_relation.specs.declared.Entry.{Entry}
use Rattle.step_relation.specs.declared.Graph.{Graph}
use Rattle.step_relation.specs.declared.Stack.{Stack}
use Rattle.eval_words.specs.Resolve.{Props, resolve}
use Rattle.step_relation.specs.Freshness.{plan_of}
use Rattle.step_relation.specs.Inputs.{AllDone, AreKnown}
use Rattle.step_relation.specs.Rows.{token_of}
use Rattle.step_relation.specs.Targets.{IsCurrentOf}
use Rattle.step_relation.specs.Could.{IsPossible, could_of}
use Rattle.step_relation.specs.Fits.{Fits, HasExactly, IsFactOf}
use Rattle.step_relation.specs.Marked.{Completed, Marked, mark_of, marked_of}
use Rattle.step_relation.specs.Newest.{Latest, latest_of, newest}
use Rattle.step_relation.specs.Opening.{Opening}
use Rattle.step_relation.specs.Stored.{released}
use Rattle.step_relation.specs.Tokens.{HasRow, IsAlive, IsCertain, token_at, tokens_of}
use Rattle.step_relation.specs.GraphFits.{Aims, GraphFits, IsNode, Sweeps, graph_of}
use Rattle.step_relation.specs.RowsFit.{IsBegun, IsWanted, RowsFit}
use Rattle.step_relation.specs.Sound.{Sound}
use Rattle.step_relation.specs.Tells.{IsGone, deleted, never, status_by}
use Rattle.history_laws.proofs.tables.Rows.{row-key, row_self, same_some, stack-key}
use Rattle.history_laws.proofs.tables.Targets.{current_once}
use Rattle.history_laws.proofs.headline.Items.{All-among, among_at, named_item}
use Rattle.history_laws.proofs.headline.Made.{GivesFacts, IsMadeRow, aims_current, aims_of, fits, living_as, made_alone}
use Rattle.history_laws.proofs.headline.Made.{made_facts, made_row, needs_given, not_given, proper, rows_fit, token_is}
use Rattle.history_laws.proofs.headline.Once.{alone, lives_or_not, onced}
use Rattle.provider.proofs.Lists.{here}

module _ (o : Opening) (h : List Entry) (s : StateData) (x : Sound o h s) (possible : IsPossible o h) where
  -- an alive token is that of a stored row
  pub alive_row : (t : Token) → IsAlive o h t → (q : Row) × (row_at s.rows t.row ≡ Some q) × (token_of q ≡ t) ×
      (q.act ≢ Init)
  alive_row t alive = by (x.agrees.named t alive) where
    by : HasRow o h t → (q : Row) × (row_at s.rows t.row ≡ Some q) × (token_of q ≡ t) × (q.act ≢ Init)
    by k = (k.row, subst (λ (rows : List Row). row_at rows t.row ≡ Some k.row) x.tells.rows k.found, k.its, k.begun)

  module _ (st : Stack) (in_table : stack_at s.stacks st.name ≡ Some st) (all : AllDone (graph_of s st.name)) where
    abbrev g : Graph
    g = graph_of s st.name

    fits_ : GraphFits s st g
    fits_ = fits o h s x possible st in_table

    -- where all nodes are done a row of the stack that isn't at INIT is a made target
    pub row_made : (n : ℕ) (q : Row) → row_at s.rows n ≡ Some q → q.stack ≡ st.name
        → (i : ℕ) × Aims s st g i q.name q × IsMadeRow s st q.name q
    row_made n q at own = elim (fits_.targets.rows n q at own) [
      | inl (i, aims) ↦ (
        i,
        aims,
        made_row o h s x possible st in_table i q.name q aims
            (all i (U q.name aims.chosen) aims.node),
      )
      | inr (i, node) ↦ swept i node
    ] where
      swept : (i : ℕ) → IsNode g i (C n) → (k : ℕ) × Aims s st g k q.name q × IsMadeRow s st q.name q
      swept i node =
          let key = row-key s.rows n q at in
          let sweeps : Sweeps s g i q = record {
            node = subst (λ (m : ℕ). IsNode g i (C m)) (sym key) node;
            found =
                row_self s.rows n q at;
          } in
          let wanted = (rows_fit o h s x possible st in_table).cleaned i q sweeps (all i (C n) node) in
          by wanted (named_item (plan_of st.plan).items q.name wanted.planned) where
            by : IsWanted st q → (item : Item) × Contains (plan_of st.plan).items item × (item.name ≡ q.name)
                → (k : ℕ) × Aims s st g k q.name q × IsMadeRow s st q.name q
            by wanted (item, among, named) = on (fits_.nodes.items item among) where
              on : (k : ℕ) × (m : ℕ) × IsNode g k (U item.name m)
                  → (k : ℕ) × Aims s st g k q.name q × IsMadeRow s st q.name q
              on (k, m, node_k) =
                  let node_q : IsNode g k (U q.name m) = subst (λ (y : List ℕ). IsNode g k (U y m)) named node_k in
                  let (r, aims) = aims_of o h s x possible st in_table k m q.name node_q in
                  let (current, kept) = aims_current o h s x possible st in_table k q.name r aims in
                  let one = x.standing.links.current.newest in
                  let up : n ≤ r.no = one r.no n r q current.found at
                  (current.stack_is ∙ sym own) current.name_is current.current in
                  let down : r.no ≤ n = one n r.no q r at current.found (own ∙ sym current.stack_is)
                  (sym current.name_is) wanted.current in
                  let number : r.no ≡ n = omega (arith, up, down) in
                  let same : r ≡ q = same_some r q (subst (λ (y : ℕ). row_at s.rows y ≡ Some r) number current.found)
                  at
                  in
                  let aims_q : Aims s st g k q.name q = subst (λ (y : Row). Aims s st g k q.name y) same aims in
                  (k, aims_q, made_row o h s x possible st in_table k q.name q aims_q (all k (U q.name m) node_q))

    alive_made : (t : Token) → t.stack ≡ st.name → IsAlive o h t
        → (q : Row) × (token_of q ≡ t) × IsMadeRow s st q.name q
    alive_made t own alive = by (alive_row t alive) where
      by : (q : Row) × (row_at s.rows t.row ≡ Some q) × (token_of q ≡ t) × (q.act ≢ Init)
          → (q : Row) × (token_of q ≡ t) × IsMadeRow s st q.name q
      by (q, at, same, begun_) = let (i, aims, made) = row_made t.row q at (ap (λ (y : Token). y.stack) same ∙ own) in
          (q, same, made)

    certain : (t : Token) → t.stack ≡ st.name → ¬ Contains (released o h) t → IsCertain (could_of o h t)
    certain t own kept = elim (lives_or_not (could_of o h t)) [
      | inr none ↦ record { state = None; alone = alone (could_of o h t) None (onced o h t) (possible t) none }
      | inl lives ↦
          let (q, same, made) = alive_made t own (record { lives = lives; owned = kept }) in
          record {
            state = Some (living_as q);
            alone = subst
                (λ (y : Token). could_of o h y ≡ Some (living_as q) ∷ []) same
                (made_alone o h s x possible st in_table q.name q made);
          }
    ]

    no_other : (t : Token) → tokens_of o h st.name t → Contains (names_of (plan_of st.plan).items) t.name
    no_other t (own, alive) = by (alive_row t alive) where
      by : (q : Row) × (row_at s.rows t.row ≡ Some q) × (token_of q ≡ t) × (q.act ≢ Init)
          → Contains (names_of (plan_of st.plan).items) t.name
      by (q, at, same, begun_) =
          let (i, aims, made) = row_made t.row q at (ap (λ (y : Token). y.stack) same ∙ own) in
          subst (Contains (names_of (plan_of st.plan).items)) (ap (λ (y : Token). y.name) same)
          (fits_.nodes.only_items i aims.chosen q.name aims.node)

    pub made_token : (name : List ℕ) (r : Row) → IsMadeRow s st name r
        → could_of o h (token_at st.name name r.no) ≡ Some (living_as r) ∷ []
    made_token name r m = subst (λ (y : Token). could_of o h y ≡ Some (living_as r) ∷ [])
        (token_is o h s x possible st in_table name r m.current)
        (made_alone o h s x possible st in_table name r m)

    pub made_owned : (name : List ℕ) (r : Row) → IsMadeRow s st name r
        → ¬ Contains (released o h) (token_at st.name name r.no)
    made_owned name r m c = not_given o h s x possible r.no r m.current.found
        (subst (λ (y : Token). Contains (released o h) y) (sym
        (token_is o h s x possible st in_table name r m.current)) c)

    fact_of : (need : List ℕ) (known : KnownFacts) → GivesFacts o h s x possible st in_table need known
        → IsFactOf o h st.name need known
    fact_of need known k =
        let m = made_row o h s x possible st in_table k.node need k.row k.aims k.done in
        let states = made_token need k.row m in
        record {
          named = k.named;
          row = k.row.no;
          alive = (
            refl,
            record {
              lives = record {
                it = living_as k.row;
                among = subst
                    (λ (ss : List TokenState). Contains ss (Some (living_as k.row))) (sym states)
                    (here (Some (living_as k.row)) (Some (living_as k.row)) [] refl);
              };
              owned = made_owned need k.row m;
            },
          );
          it = living_as k.row;
          state = states;
          facts = k.facts;
        }

    facts_of : (needs : List (List ℕ)) (known : List KnownFacts)
        → AllZip (GivesFacts o h s x possible st in_table) needs known
        → AllZip (IsFactOf o h st.name) needs known
    facts_of [] [] z = tt
    facts_of [] (k ∷ ks) z = absurd z
    facts_of (n ∷ ns) [] z = absurd z
    facts_of (n ∷ ns) (k ∷ ks) z = (fact_of n k z.0, facts_of ns ks z.1)

    exactly : (item : Item) → Contains (plan_of st.plan).items item → HasExactly o h st.name (plan_of st.plan) item
    exactly item among = by (fits_.nodes.items item among) where
      by : (i : ℕ) × (n : ℕ) × IsNode g i (U item.name n) → HasExactly o h st.name (plan_of st.plan) item
      by (i, n, node) = on (aims_of o h s x possible st in_table i n item.name node) where
        on : (r : Row) × Aims s st g i item.name r → HasExactly o h st.name (plan_of st.plan) item
        on (r, aims) = with_begun (rows_fit_.begun i item.name r aims m.made.newest m.made.begun) where
          rows_fit_ : RowsFit s st g
          rows_fit_ = rows_fit o h s x possible st in_table

          m : IsMadeRow s st item.name r
          m = made_row o h s x possible st in_table i item.name r aims (all i (U item.name n) node)

          asked : item_at (plan_of st.plan).items item.name ≡ Some item
          asked = among_at (plan_of st.plan).items item (proper o h s x possible st in_table).rising among

          only_one : (other : ℕ) → tokens_of o h st.name (token_at st.name item.name other) → other ≡ r.no
          only_one other (own, alive) = by_row (alive_row (token_at st.name item.name other) alive) where
            by_row : (q : Row) × (row_at s.rows other ≡ Some q) × (token_of q ≡ token_at st.name item.name other) ×
                (q.act ≢ Init) → other ≡ r.no
            by_row (q, at, same, begun_) =
                let (k, aims_q, made) = row_made other q at (ap (λ (y : Token). y.stack) same) in
                let current_q = subst (λ (y : List ℕ). IsCurrentOf s.rows st.name y q)
                (ap (λ (y : Token). y.name) same) made.current in
                sym (row-key s.rows other q at) ∙ current_once s.rows st.name item.name q r current_q m.current

          with_begun : IsBegun st g i item.name r → HasExactly o h st.name (plan_of st.plan) item
          with_begun b =
              let item_is : b.item ≡ item = same_some b.item item b.asked asked in
              let item_p : b.props.item ≡ item = same_some b.props.item item b.props.asked asked in
              let plain_ : r.target ≡ None = (x.standing.shape.each_row r.no r m.current.found).plain
              (inr (inr m.made.status)) in
              let props_are : unwrap_or r.target r.props ≡ r.props =
              ap (λ (y : Option Members). unwrap_or y r.props) plain_ in
              let known_are : AreKnown b.props.point.inputs item.needs b.props.known =
              subst (λ (y : Item). AreKnown b.props.point.inputs y.needs b.props.known) item_p b.props.known_are
              in
              record {
                row = r.no;
                it = living_as r;
                state = made_token item.name r m;
                owned = made_owned item.name r m;
                kind = b.kind ∙ ap (λ (y : Item). y.kind.name) item_is;
                ready = made_facts o h s x possible st in_table r item.name m;
                stays = refl;
                known = b.props.known;
                needs_are = facts_of item.needs b.props.known
                    (needs_given o h s x possible st in_table i n item.name item b.props.point node b.ready asked
                    b.props.there item.needs b.props.known (λ need c. c) known_are);
                props = ap (λ (y : Item). resolve (plan_of st.plan) y b.props.known) (sym item_p)
                    ∙ (b.props.result_is ∙ ap Props props_are);
                only = only_one;
              }

    -- the main statement on a stack whose nodes are all done
    pub fits_done : Fits o h st.name (plan_of st.plan)
    fits_done = record {
      certain = certain;
      each = All-among (HasExactly o h st.name (plan_of st.plan)) (plan_of st.plan).items exactly;
      no_other = no_other;
    }

  -- nothing is alive of a name without a stack
  pub fits_gone : (name : List ℕ) → stack_at s.stacks name ≡ None → Fits o h name (plan_of None)
  fits_gone name none = record {
    certain = certain_gone;
    each = λ k d lt. absurd (omega (arith, lt));
    no_other =
        λ t (own, alive). absurd (dead t own alive);
  } where
    dead : (t : Token) → t.stack ≡ name → ¬ IsAlive o h t
    dead t own alive = by (alive_row t alive) where
      by : (q : Row) × (row_at s.rows t.row ≡ Some q) × (token_of q ≡ t) × (q.act ≢ Init) → ⊥
      by (q, at, same, begun_) =
          let there_ = x.standing.links.numbered.in_table t.row q at in
          let gone_ = subst (λ (n : List ℕ). stack_at s.stacks n ≡ None)
          (sym (ap (λ (y : Token). y.stack) same ∙ own)) none in
          no_some (stack_at s.stacks q.stack) there_ gone_ where
            no_some : (f : Option Stack) → IsSome f → f ≡ None → ⊥
            no_some None some_ e = cc
            no_some (Some st) some_ e = cc

    certain_gone : (t : Token) → t.stack ≡ name → ¬ Contains (released o h) t → IsCertain (could_of o h t)
    certain_gone t own kept = elim (lives_or_not (could_of o h t)) [
      | inr none_ ↦ record { state = None; alone = alone (could_of o h t) None (onced o h t) (possible t) none_ }
      | inl lives ↦ absurd (dead t own (record { lives = lives; owned = kept }))
    ]

  -- where the newest traversal of a stack is marked Complete, what is alive fits its plan
  pub complete_fits : (stack : List ℕ) (it : Latest) → newest o h stack ≡ Some it → mark_of o h stack ≡ Some Completed
      → Fits o h stack (plan_of it.plan)
  complete_fits stack it newest_is marked_is = by (stack_at s.stacks stack) refl where
    by : (f : Option Stack) → stack_at s.stacks stack ≡ f → Fits o h stack (plan_of it.plan)
    by None at = gone_ (x.tells.gone stack at) where
      gone_ : IsGone o h stack → Fits o h stack (plan_of it.plan)
      gone_ (never none unmarked_) = cc
      gone_ (deleted was was_newest act plan_ mark) =
          let same : was ≡ it = cc in
          subst (λ (p : Option PlanData). Fits o h stack (plan_of p)) (sym plan_ ∙ ap (λ (y : Latest). y.plan) same)
          (fits_gone stack at)
    by (Some st) at =
        let key : st.name ≡ stack = stack-key s.stacks stack st at in
        let self : stack_at s.stacks st.name ≡ Some st = subst (λ (n : List ℕ). stack_at s.stacks n ≡ Some st)
        (sym key) at in
        let told_ = x.tells.stacks stack st at in
        let newest_st : newest o h stack ≡ Some (latest_of st) =
        subst (λ (n : List ℕ). newest o h n ≡ Some (latest_of st)) key told_.traversal in
        let marked_st : marked_of o h stack ≡ Some told_.marked =
        subst (λ (n : List ℕ). marked_of o h n ≡ Some told_.marked) key told_.is_marked in
        let same : latest_of st ≡ it = cc in
        let mark_is : told_.marked.mark ≡ Completed = by_mark
        (marked_of o h stack) told_.marked marked_st marked_is in
        let status : st.status ≡ Complete = sym told_.status ∙ ap status_by mark_is in
        let all = (x.standing.marks.each st.name st self).complete.0 status in
        subst (λ (n : List ℕ). Fits o h n (plan_of it.plan)) key
        (subst (λ (y : Latest). Fits o h st.name (plan_of y.plan)) same (fits_done st self all)) where
          by_mark : (f : Option Marked) (m : Marked) → f ≡ Some m
              → option_map (λ (y : Marked). y.mark) f ≡ Some Completed
              → m.mark ≡ Completed
          by_mark None m a b = cc
          by_mark (Some y) m a b = let same : y ≡ m = cc in ap (λ (z : Marked). z.mark) (sym same) ∙ cc
