-- In a sound state: the targets of done nodes, what may be alive under them, and what they gave.
use Rattle.std.proofs.Common.{Bool, List, ap, false, refl, subst, sym, true, ◌∙◌}
use Rattle.std.specs.List.{AllZip}
use Rattle.std.specs.Prelude.{All, Contains, IsSome, List, None, Option, Some, [], slice_get, ℕ, ◌∷◌, ◌≡◌, ◌≢◌}
use Rattle.heat_value.specs.Data.{Members}
use Rattle.heat_value.specs.Places.{place}
use Rattle.heat_plan.specs.Plans.{IsPlan, names_of}
use Rattle.heat_plan.specs.declared.facts.Facts.{Facts}
use Rattle.heat_plan.specs.declared.facts.KnownFacts.{KnownFacts}
use Rattle.heat_plan.specs.declared.item.Item.{Item}
use Rattle.heat_plan.specs.declared.phase.Act.TheVariants.{Delete, Init}
use Rattle.heat_plan.specs.declared.phase.Status.TheVariants.{Complete}
use Rattle.heat_plan.specs.declared.token.Token.{Token}
use Rattle.traversal_graph.specs.declared.shape.Node.TheVariants.{U}
use Rattle.provider.specs.Table.{Living, TokenState}
use Rattle.row_table.specs.Rows.{row_at}
use Rattle.row_table.specs.declared.row.Row.{Row}
use Rattle.sync_points.specs.declared.point.Input.{Input}
use Rattle.sync_points.specs.declared.point.Point.{Point}
use Rattle.step_relation.specs.Reads.{HasInput, IsDone, IsReady, item_at}
use Rattle.step_relation.specs.State.{StateData, stack_at}
use Rattle.step_relation.specs.declared.Entry.{Entry}
use Rattle.step_relation.specs.declared.Graph.{Graph}
use Rattle.step_relation.specs.declared.Stack.{Stack}
use Rattle.step_relation.specs.Freshness.{plan_of}
use Rattle.step_relation.specs.Inputs.{AreKnown, IsGiven, given, missing, none}
use Rattle.step_relation.specs.Rows.{token_of}
use Rattle.step_relation.specs.Targets.{IsCurrentOf}
use Rattle.step_relation.specs.Could.{IsPossible, could_of}
use Rattle.step_relation.specs.Opening.{Opening}
use Rattle.step_relation.specs.Stored.{released}
use Rattle.step_relation.specs.Tokens.{token_at}
use Rattle.step_relation.specs.GraphFits.{Aims, GraphFits, IsInput, IsNode, Stands, TargetFits, graph_of, of_c, of_u}
use Rattle.step_relation.specs.RowsFit.{IsMade, RowsFit}
use Rattle.step_relation.specs.Sound.{Sound}
use Rattle.history_laws.proofs.tables.Rows.{row_self, same_some}
use Rattle.history_laws.proofs.tables.Targets.{target_once}
use Rattle.history_laws.proofs.headline.Items.{all_at, asked_among, contained, named_item}
use Rattle.history_laws.proofs.headline.Once.{alone, onced}
use Rattle.provider.proofs.Lists.{here, there}

abbrev the_living : List ℕ → Members → Option Facts → Bool → Living
the_living kind props facts leaving = record { kind = kind; props = props; facts = facts; leaving = leaving }

abbrev pub living_as : Row → Living
living_as r = record { kind = r.kind.name; props = r.props; facts = r.facts; leaving = false }

-- a row is a target that is made, and its name's current row
pub record IsMadeRow (s : StateData) (st : Stack) (name : List ℕ) (r : Row) : Type 0 where
  pub current : IsCurrentOf s.rows st.name name r
  pub kept : r.act ≢ Delete
  pub made : IsMade st r

module _ (o : Opening) (h : List Entry) (s : StateData) (x : Sound o h s) (possible : IsPossible o h) where
  -- what may be alive under a row that is complete
  pub ready_state : (n : ℕ) (r : Row) (state : TokenState) → row_at s.rows n ≡ Some r → r.status ≡ Complete
      → r.act ≢ Init → r.act ≢ Delete
      → Contains (could_of o h (token_of r)) state → state ≡ Some (living_as r)
  ready_state n r state at done begun_ kept among =
      let k = (x.agrees.rows n r state at among).ready done begun_ kept in
      let leaves_ = stays_on k.alive.it
      (subst (λ (y : TokenState). Contains (could_of o h (token_of r)) y) k.alive.alive among) in
      k.alive.alive ∙ ap Some
      (as_living k.alive.it r.kind.name r.props r.facts k.alive.kind k.alive.props_are k.facts leaves_) where
        as_living : (it : Living) (kind : List ℕ) (props : Members) (facts : Option Facts) → it.kind ≡ kind
            → it.props ≡ props → it.facts ≡ facts → it.leaving ≡ false
            → it ≡ record { kind = kind; props = props; facts = facts; leaving = false }
        as_living it kind props facts a b c d = by it.kind kind it.props props it.facts facts it.leaving false a b c d
          where
            by : (k k' : List ℕ) (p p' : Members) (f f' : Option Facts) (l l' : Bool) → k ≡ k' → p ≡ p' → f ≡ f'
                → l ≡ l'
                → the_living k p f l ≡ the_living k' p' f' l'
            by k k' p p' f f' l l' a b c d = rw (a, b, c, d) refl

        stays_on : (it : Living) → Contains (could_of o h (token_of r)) (Some it) → it.leaving ≡ false
        stays_on it c = by it.leaving refl where
          by : (b : Bool) → it.leaving ≡ b → b ≡ false
          by false e = refl
          by true e =
              let away = x.agrees.leaving (token_of r) it c e in
              let self = row_self s.rows n r at in
              let same : away.row ≡ r = same_some away.row r away.found self in
              absurd (kept (ap (λ (q : Row). q.act) (sym same) ∙ away.act))

  pub ready_alone : (n : ℕ) (r : Row) → row_at s.rows n ≡ Some r → r.status ≡ Complete → r.act ≢ Init → r.act ≢ Delete
      → could_of o h (token_of r) ≡ Some (living_as r) ∷ []
  ready_alone n r at done begun_ kept = alone (could_of o h (token_of r)) (Some (living_as r))
      (onced o h (token_of r)) (possible (token_of r))
      (λ state among. ready_state n r state at done begun_ kept among)

  -- a stored row's token wasn't given up
  pub not_given : (n : ℕ) (r : Row) → row_at s.rows n ≡ Some r → ¬ Contains (released o h) (token_of r)
  not_given n r at c = x.released.rowless (token_of r) r (subst
      (λ (ts : List Token). Contains ts (token_of r)) x.tells.tokens c) (row_self s.rows n r at) refl

  module _ (st : Stack) (in_table : stack_at s.stacks st.name ≡ Some st) where
    abbrev pub graph : Graph
    graph = graph_of s st.name

    pub fits : GraphFits s st graph
    fits = x.standing.shape.graphs st.name st in_table

    pub rows_fit : RowsFit s st graph
    rows_fit = x.standing.shape.rows st.name st in_table

    pub proper : IsPlan (plan_of st.plan).items (plan_of st.plan).absent
    proper = (x.standing.marks.each st.name st in_table).proper

    -- the target of an update node is its name's current row
    pub aims_current : (i : ℕ) (name : List ℕ) (r : Row) → Aims s st graph i name r
        → IsCurrentOf s.rows st.name name r × (r.act ≢ Delete)
    aims_current i name r a = by (fits.targets.updates i a.chosen name a.node) where
      by : (q : Row) × TargetFits s st name a.chosen q → IsCurrentOf s.rows st.name name r × (r.act ≢ Delete)
      by (q, t) =
          let number : q.no ≡ r.no = target_once s.rows st.name (U name a.chosen) q.no r.no t.to a.to in
          let same : q ≡ r = same_some q r (subst (λ (n : ℕ). row_at s.rows n ≡ Some q) number t.is.found) a.found in
          (subst (IsCurrentOf s.rows st.name name) same t.is, subst (λ (y : Row). y.act ≢ Delete) same t.kept)

    pub made_row : (i : ℕ) (name : List ℕ) (r : Row) → Aims s st graph i name r → IsDone graph i
        → IsMadeRow s st name r
    made_row i name r a done = let (current, kept) = aims_current i name r a in
        record { current = current; kept = kept; made = rows_fit.made i name r a done }

    pub made_alone : (name : List ℕ) (r : Row) → IsMadeRow s st name r
        → could_of o h (token_of r) ≡ Some (living_as r) ∷ []
    made_alone name r m = ready_alone r.no r m.current.found m.made.status m.made.begun m.kept

    pub token_is : (name : List ℕ) (r : Row) → IsCurrentOf s.rows st.name name r
        → token_of r ≡ token_at st.name name r.no
    token_is name r c = rw (c.stack_is, c.name_is) refl

    pub made_facts : (r : Row) (name : List ℕ) → IsMadeRow s st name r → IsSome r.facts
    made_facts r name m = (x.standing.shape.each_row r.no r m.current.found).ready m.made.status m.made.begun

    -- an update node's target, as a node aims at it
    pub aims_of : (i n : ℕ) (name : List ℕ) → IsNode graph i (U name n) → (r : Row) × Aims s st graph i name r
    aims_of i n name node = let (r, t) = fits.targets.updates i n name node in
        (r, record { chosen = n; node = node; to = t.to; found = t.is.found })

    -- the facts of a need are those of a done node's target
    pub record GivesFacts (need : List ℕ) (known : KnownFacts) : Type 0 where
      pub node : ℕ
      pub row : Row
      pub aims : Aims s st graph node need row
      pub done : IsDone graph node
      pub facts : row.facts ≡ Some known.facts
      pub named : known.name ≡ need

    gives_input : (i : ℕ) (p : Point) (need : List ℕ) (y : Input) → slice_get graph.points i ≡ Some p
        → Contains p.inputs y → y.name ≡ Some need
        → (k : ℕ) × (r : Row) × Aims s st graph k need r × IsDone graph k × (y.facts ≡ r.facts)
    gives_input i p need y there_ among named = by (fits.inputs.stand i p y there_ among) where
      by : Stands s st graph i y → (k : ℕ) × (r : Row) × Aims s st graph k need r × IsDone graph k ×
          (y.facts ≡ r.facts)
      by z = on z.its where
        on : IsInput s st graph y → (k : ℕ) × (r : Row) × Aims s st graph k need r × IsDone graph k ×
            (y.facts ≡ r.facts)
        on (of_u name r aims named_ row_is facts_are) =
            let same : name ≡ need = cc in
            (y.from, r, subst (λ (m : List ℕ). Aims s st graph y.from m r) same aims, z.done, facts_are)
        on (of_c n node named_ row_is facts_are) = cc

    module _ (i n : ℕ) (name : List ℕ) (item : Item) (p : Point) (node : IsNode graph i (U name n))
        (ready : IsReady graph i)
        (asked : item_at (plan_of st.plan).items name ≡ Some item) (there_ : slice_get graph.points i ≡ Some p) where
      given_facts : (need : List ℕ) (known : KnownFacts) → IsGiven p.inputs need known → GivesFacts need known
      given_facts need known k = let (at, r, aims, done, facts) =
          gives_input i p need k.input there_ k.among k.named in
          record { node = at; row = r; aims = aims; done = done; facts = sym facts ∙ k.facts; named = k.known_name }

      -- a need of a ready node is never missing
      never_missing : (need : List ℕ) → Contains item.needs need
          → ¬ ((known : KnownFacts) → ¬ IsGiven p.inputs need known)
      never_missing need among lacks =
          let (item_among, item_name) = asked_among (plan_of st.plan).items name item asked in
          let (place, item_at_) = contained (plan_of st.plan).items item item_among in
          by (named_item (plan_of st.plan).items need (met item_among)) where
            met : Contains (plan_of st.plan).items item → Contains (names_of (plan_of st.plan).items) need
            met c = all_at (Contains (names_of (plan_of st.plan).items)) item.needs need
                (all_at (λ (y : Item). All (Contains (names_of (plan_of st.plan).items)) y.needs)
                (plan_of st.plan).items item proper.met c) among

            by : (other : Item) × Contains (plan_of st.plan).items other × (other.name ≡ need) → ⊥
            by (other, other_among, other_name) = on (fits.nodes.items other other_among) where
              on : (k : ℕ) × (m : ℕ) × IsNode graph k (U other.name m) → ⊥
              on (k, m, other_node) =
                  let need_node : IsNode graph k (U need m) = subst
                  (λ (y : List ℕ). IsNode graph k (U y m)) other_name other_node in
                  let edge = fits.edges.needed k i n m name need node need_node
                  (record { item = item; asked = asked; among = among }) in
                  from_input k need_node (ready k edge) where
                    from_input : (k : ℕ) → IsNode graph k (U need m) → HasInput graph i k → ⊥
                    from_input k need_node y =
                        let p_is : y.point ≡ p = same_some y.point p y.there there_ in
                        let among_p : Contains p.inputs y.input = subst
                        (λ (q : Point). Contains q.inputs y.input) p_is y.among in
                        let z = fits.inputs.stand i p y.input there_ among_p in
                        let at_from : IsNode graph y.input.from (U need m) =
                        subst (λ (q : ℕ). IsNode graph q (U need m)) (sym y.from) need_node in
                        on_input y.input among_p at_from z.done z.its where
                          on_input : (w : Input) → Contains p.inputs w → IsNode graph w.from (U need m)
                              → IsDone graph w.from
                              → IsInput s st graph w → ⊥
                          on_input w c at done (of_c q swept_ named_ row_is facts_are) = cc
                          on_input w c at done (of_u other_ r aims named_ row_is facts_are) =
                              let other_node = aims.node in
                              let same : other_ ≡ need = cc in
                              let made = made_row w.from other_ r aims done in
                              has_facts r.facts (made_facts r other_ made) (facts_are) (named_ ∙ ap Some same) c where
                                has_facts : (f : Option Facts) → IsSome f → w.facts ≡ f → w.name ≡ Some need
                                    → Contains p.inputs w → ⊥
                                has_facts None some_ is labelled c = cc
                                has_facts (Some facts) some_ is labelled c =
                                    lacks (record { name = need; facts = facts })
                                    (record { input = w; among = c; named = labelled; facts = is; known_name = refl })

      pub needs_given : (needs : List (List ℕ)) (known : List KnownFacts)
          → ((need : List ℕ) → Contains needs need → Contains item.needs need)
          → AreKnown p.inputs needs known → AllZip GivesFacts needs known
      needs_given _ _ part none = tt
      needs_given _ _ part (given need needs known more first rest) =
          (given_facts need known first, needs_given needs more (λ y c. part y (there y need needs c)) rest)
      needs_given _ _ part (missing need needs known none_ rest) =
          absurd (never_missing need (part need (here need need needs refl)) none_)
