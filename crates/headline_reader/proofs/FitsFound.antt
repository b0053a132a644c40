-- What is found among the tokens that calls name is what fits.
use Rattle.std.proofs.Common.{◌≡◌, ◌↔◌, ◌⊎◌, inl, inr, ℕ, ◌<◌, zero, suc, Bool, List, [], ◌∷◌, Option, Some, None}
use Rattle.std.proofs.Common.{refl, sym, ap, ◌∙◌, subst, arith}
use Rattle.std.specs.Prelude.{All, Any, Contains, IsSome, IsSomeAnd, slice_index_or}
use Rattle.std.specs.List.{AllZip}
use Rattle.heat_value.specs.Data.{Members}
use Rattle.heat_plan.specs.Plans.{IsPlan, PlanData, names_of}
use Rattle.heat_plan.specs.declared.facts.Facts.{Facts}
use Rattle.heat_plan.specs.declared.facts.KnownFacts.{KnownFacts}
use Rattle.heat_plan.specs.declared.item.Item.{Item}
use Rattle.heat_plan.specs.declared.token.Token.{Token}
use Rattle.core_state.specs.declared.entry.Entry.{Entry}
use Rattle.eval_words.specs.Resolve.{Fault, Props, Resolved, resolve}
use Rattle.provider.specs.Table.{Living, TokenState}
use Rattle.step_relation.specs.Opening.{Opening, first_of, empty_opening}
use Rattle.step_relation.specs.Could.{could}
use Rattle.step_relation.specs.Stored.{released}
use Rattle.step_relation.specs.Tokens.{token_at, MayLive, IsAlive, IsCertain, tokens_of}
use Rattle.step_relation.specs.Fits.{IsFactOf, HasExactly, Fits}
use Rattle.headline_reader.proofs.Lists.{All-from, All-first, All-rest}
use Rattle.headline_reader.specs.declared.possible.Possible.{Possible}
use Rattle.headline_reader.specs.Called.{could_be, called}
use Rattle.headline_reader.specs.Items.{facts_under, known_before, known_of, sole, IsAs, IsOfItem, IsOnly, IsSame}
use Rattle.headline_reader.specs.Items.{HasOne, HasResolved, HasItem, HasName, IsPlanned, Finds}
use Rattle.headline_reader.proofs.Members.{all_at, any_of}
use Rattle.headline_reader.proofs.FactsNeeded.{facts_found, facts_some}
use Rattle.headline_reader.proofs.Names.{to_names, from_names}
use Rattle.headline_reader.proofs.CalledTokens.{IsListed, all_listed, called_or_not}

sole-is : (P : Living → Type 0) (states : List TokenState) → IsSomeAnd (sole states) P → (it : Living) × (states ≡ Some it ∷ []) × P it
sole-is P [] h = absurd h
sole-is P (None ∷ []) h = absurd h
sole-is P (Some it ∷ []) h = (it, refl, h)
sole-is P (s ∷ t ∷ rest) h = absurd h

is-sole : (P : Living → Type 0) (states : List TokenState) (it : Living) → states ≡ Some it ∷ [] → P it → IsSomeAnd (sole states) P
is-sole P states it is h = subst (λ (x : List TokenState). IsSomeAnd (sole x) P) (sym is) h

never_alive : (states : List TokenState) → states ≡ None ∷ [] → MayLive states → ⊥
never_alive states is alive = one (subst (λ (x : List TokenState). Contains x (Some alive.it)) is alive.among) where
  at : (k : ℕ) → k < 1 → slice_index_or (None ∷ []) k (Some alive.it) ≡ Some alive.it → ⊥
  at zero lt e = cc
  at (suc k) lt e = omega (arith, lt)

  one : Contains (None ∷ []) (Some alive.it) → ⊥
  one c = at c.0 c.1 c.2

some-is : {X : Type 0} (P : X → Type 0) (o : Option X) → IsSomeAnd o P → (x : X) × (o ≡ Some x) × P x
some-is P None h = absurd h
some-is P (Some x) h = (x, refl, h)

one_of : (ps : List Possible) (item : Item) (props : Members) → HasOne ps item props
    → Any (λ (p : Possible). IsOfItem item props p × IsOnly ps p) ps
unfolding HasOne
one_of ps item props h = h

has_one : (ps : List Possible) (item : Item) (props : Members)
    → Any (λ (p : Possible). IsOfItem item props p × IsOnly ps p) ps → HasOne ps item props
unfolding HasOne
has_one ps item props h = h

resolved-is : (ps : List Possible) (item : Item) (r : Resolved) → HasResolved ps item r
    → (props : Members) × (r ≡ Props props) × HasOne ps item props
resolved-is ps item (Props props) h = (props, refl, h)
resolved-is ps item (Fault code path) h = absurd h

item_of : (plan : PlanData) (ps : List Possible) (item : Item) → HasItem plan ps item
    → (known : List KnownFacts) × (known_of ps item.needs ≡ Some known) × HasResolved ps item (resolve plan item known)
unfolding HasItem
item_of plan ps item h =
    some-is (λ (known : List KnownFacts). HasResolved ps item (resolve plan item known)) (known_of ps item.needs) h

has_item : (plan : PlanData) (ps : List Possible) (item : Item) (known : List KnownFacts) (props : Members)
    → known_of ps item.needs ≡ Some known → resolve plan item known ≡ Props props → HasOne ps item props
    → HasItem plan ps item
unfolding HasItem
has_item plan ps item known props known_are props_are one =
    subst (λ (o : Option (List KnownFacts)). IsSomeAnd o (λ (ks : List KnownFacts). HasResolved ps item (resolve plan item ks)))
    (sym known_are) (subst (HasResolved ps item) (sym props_are) one)

planned_of : (items : List Item) (p : Possible) → IsPlanned items p → MayLive p.states → HasName items p.token.name
unfolding IsPlanned
planned_of items p h = h

is_planned : (items : List Item) (p : Possible) → (MayLive p.states → HasName items p.token.name) → IsPlanned items p
unfolding IsPlanned
is_planned items p h = h

at_token : (t : Token) (stack name : List ℕ) (row : ℕ) → t.stack ≡ stack → t.name ≡ name → t.row ≡ row → t ≡ token_at stack name row
at_token t stack name row e f g = rw (← e, ← f, ← g) refl

module _ (engines : ℕ) (leaving : Token → Bool) (h : List Entry) (stack : List ℕ) (plan : PlanData) where
  abbrev o : Opening
  o = empty_opening engines leaving

  abbrev states_of : Token → List TokenState
  states_of t = could (first_of o) h t

  abbrev gone : List Token
  gone = released o h

  abbrev ps : List Possible
  ps = called (could_be h) gone stack h

  -- a token that was called, with its states
  record IsCalled (t : Token) : Type 0 where
    p : Possible
    among : Contains ps p
    is : p.token ≡ t
    states : p.states ≡ states_of t

  -- the states and the stack of a token that was called, which wasn't given up
  record IsSeen (p : Possible) : Type 0 where
    states : p.states ≡ states_of p.token
    stack_is : p.token.stack ≡ stack
    owned : Contains gone p.token → ⊥

  listed : (p : Possible) → Contains ps p → IsSeen p
  listed p among =
      let l = all_at (IsListed (could_be h) gone stack) ps (all_listed (could_be h) gone stack h) p among in
      record { states = l.states; stack_is = l.stack_is; owned = l.owned }

  found : (t : Token) → t.stack ≡ stack → (Contains gone t → ⊥) → IsCalled t ⊎ (states_of t ≡ None ∷ [])
  found t its owned = elim (called_or_not (could_be h) gone stack t its owned h) [
    | inl (k, p, lt, at, is) ↦ inl (record { p = p; among = (k, lt, at); is = is; states = (listed p (k, lt, at)).states ∙ ap states_of is })
    | inr stays ↦ inr (stays (None ∷ []))
  ]

  called_if : (t : Token) → t.stack ≡ stack → (Contains gone t → ⊥) → (states_of t ≡ None ∷ [] → ⊥) → IsCalled t
  called_if t its owned not = elim (found t its owned) [ inl c ↦ c | inr none ↦ absurd (not none) ]

  if_alive : (t : Token) → t.stack ≡ stack → IsAlive o h t → IsCalled t
  if_alive t its alive = called_if t its alive.owned (λ none. never_alive (states_of t) none alive.lives)

  if_there : (t : Token) (it : Living) → t.stack ≡ stack → (Contains gone t → ⊥) → states_of t ≡ Some it ∷ [] → IsCalled t
  if_there t it its owned is = called_if t its owned (λ none. let both : Some it ∷ [] ≡ None ∷ [] = sym is ∙ none in cc)

  -- ---- what is found fits
  -- what is seen alive alone is alive
  living : (p : Possible) (it : Living) → IsSeen p → p.states ≡ Some it ∷ [] → IsAlive o h p.token
  living p it l alone = record {
    lives = record { it = it; among = subst (λ (states : List TokenState). Contains states (Some it)) (sym alone ∙ l.states) (0, omega arith, refl) };
    owned = l.owned;
  }

  module _ (f : Finds ps plan) where
    fact_of : (need : List ℕ) (facts : Facts) → facts_under ps need ≡ Some facts
        → IsFactOf o h stack need (record { name = need; facts = facts })
    fact_of need facts found =
        let t = facts_found ps need facts found in
        let l = listed t.p t.among in
        let here = at_token t.p.token stack need t.p.token.row l.stack_is t.named refl in
        record {
          named = refl;
          row = t.p.token.row;
          alive = (refl, subst (λ (x : Token). IsAlive o h x) here (living t.p t.has.it l t.has.alone));
          it = t.has.it;
          state = ap states_of (sym here) ∙ (sym l.states ∙ t.has.alone);
          facts = t.has.its;
        }

    all_facts : (needs : List (List ℕ)) (known : List KnownFacts) → known_of ps needs ≡ Some known
        → AllZip (IsFactOf o h stack) needs known
    unfolding known_of
    all_facts [] known is =
        let none : [] ≡ known = cc in subst (AllZip (IsFactOf o h stack) []) none tt
    all_facts (need ∷ needs) known is =
        by (λ (ks : List KnownFacts) (more : known_of ps needs ≡ Some ks). all_facts needs ks more) (facts_under ps need)
        (known_of ps needs) refl refl is where
          by : ((ks : List KnownFacts) → known_of ps needs ≡ Some ks → AllZip (IsFactOf o h stack) needs ks)
              → (facts : Option Facts) (rest : Option (List KnownFacts)) → facts_under ps need ≡ facts
              → known_of ps needs ≡ rest → known_before need facts rest ≡ Some known
              → AllZip (IsFactOf o h stack) (need ∷ needs) known
          by behind (Some facts) (Some ks) found more it =
              let here : record { name = need; facts = facts } ∷ ks ≡ known = cc in
              subst (AllZip (IsFactOf o h stack) (need ∷ needs)) here (fact_of need facts found, behind ks more)
          by behind (Some facts) None found more it = cc
          by behind None (Some ks) found more it = cc
          by behind None None found more it = cc

    exactly : (item : Item) → Contains plan.items item → HasExactly o h stack plan item
    exactly item among =
        let (known, known_are, has) = item_of plan ps item (all_at (HasItem plan ps) plan.items f.each item among) in
        let (props, props_are, one) = resolved-is ps item (resolve plan item known) has in
        let (k, p, lt, at, ((named, there), only)) = one_of ps item props one in
        let (it, alone, (kind, its, ready, stays)) = sole-is (IsAs item props) p.states there in
        let l = listed p (k, lt, at) in
        let here = at_token p.token stack item.name p.token.row l.stack_is named refl in
        record {
          row = p.token.row;
          it = it;
          state = ap states_of (sym here) ∙ (sym l.states ∙ alone);
          owned = subst (λ (t : Token). Contains gone t → ⊥) here l.owned;
          kind = kind;
          ready = ready;
          stays = stays;
          known = known;
          needs_are = all_facts item.needs known known_are;
          props = props_are ∙ ap Props (sym its);
          only = λ other alive. same_row p named only other alive.1;
        } where
          same_row : (p : Possible) → p.token.name ≡ item.name → IsOnly ps p → (other : ℕ) → IsAlive o h (token_at stack item.name other) → other ≡ p.token.row
          same_row p named only other alive =
              let c = if_alive (token_at stack item.name other) refl alive in
              let row = all_at (IsSame p) ps only c.p c.among (subst (λ (x : List TokenState). MayLive x) (sym c.states) alive.lives) (ap (λ (x : Token). x.name) c.is ∙ sym named) in
              sym (ap (λ (x : Token). x.row) c.is) ∙ row

    certain : (t : Token) → t.stack ≡ stack → (Contains gone t → ⊥) → IsCertain (states_of t)
    certain t its owned = elim (found t its owned) [
      | inl c ↦ subst (λ (x : List TokenState). IsCertain x) c.states (all_at (λ (p : Possible). IsCertain p.states) ps f.certain c.p c.among)
      | inr none ↦ record { state = None; alone = none }
    ]

    no_other : (t : Token) → tokens_of o h stack t → Contains (names_of plan.items) t.name
    no_other t (its, alive) =
        let c = if_alive t its alive in
        let name = planned_of plan.items c.p (all_at (IsPlanned plan.items) ps f.no_other c.p c.among) (subst (λ (x : List TokenState). MayLive x) (sym c.states) alive.lives) in
        subst (λ (x : Token). Contains (names_of plan.items) x.name) c.is (to_names plan.items c.p.token.name name)

    fits_found : Fits o h stack plan
    fits_found = record { certain = certain; each = All-from (HasExactly o h stack plan) plan.items exactly; no_other = no_other }

  -- ---- what fits is found
  module _ (kept : IsPlan plan.items plan.absent) (f : Fits o h stack plan) where
    its_states : (p : Possible) → Contains ps p → MayLive p.states → IsAlive o h p.token
    its_states p among alive =
        let l = listed p among in
        record { lives = subst (λ (x : List TokenState). MayLive x) l.states alive; owned = l.owned }

    -- the one row of a name that is planned
    row_of : (name : List ℕ) → Contains (names_of plan.items) name
        → (row : ℕ) × ((other : ℕ) → tokens_of o h stack (token_at stack name other) → other ≡ row)
    row_of name planned =
        let (k, item, lt, at, named) = from_names plan.items name planned in
        let e = all_at (HasExactly o h stack plan) plan.items f.each item (k, lt, at) in (
          e.row,
          λ other alive. e.only other
              (subst (λ (n : List ℕ). tokens_of o h stack (token_at stack n other)) (sym named) alive),
        )

    -- its facts are those that are found
    its_facts : (need : List ℕ) (known : KnownFacts) → Contains (names_of plan.items) need
        → IsFactOf o h stack need known → facts_under ps need ≡ Some known.facts
    its_facts need known planned fact =
        let (row, only) = row_of need planned in
        let c = if_there (token_at stack need fact.row) fact.it refl fact.alive.1.owned fact.state in
        let (facts, found) = facts_some ps need known.facts (record {
          p = c.p;
          among = c.among;
          named = ap (λ (x : Token). x.name) c.is;
          has = record { it = fact.it; alone = c.states ∙ fact.state; its = fact.facts };
        }) in
        let t = facts_found ps need facts found in
        let l = listed t.p t.among in
        let here = at_token t.p.token stack need t.p.token.row l.stack_is t.named refl in
        let alive = subst (λ (x : Token). IsAlive o h x) here (living t.p t.has.it l t.has.alone) in
        let row_is : t.p.token.row ≡ fact.row = only t.p.token.row (refl, alive) ∙ sym (only fact.row fact.alive) in
        let token_is = at_token t.p.token stack need fact.row l.stack_is t.named row_is in
        let states : Some t.has.it ∷ [] ≡ Some fact.it ∷ [] =
        sym t.has.alone ∙ (l.states ∙ (ap states_of token_is ∙ fact.state)) in
        let same : t.has.it ≡ fact.it = cc in
        found ∙ (sym t.has.its ∙ (ap (λ (x : Living). x.facts) same ∙ fact.facts))

    known_is : (needs : List (List ℕ)) (known : List KnownFacts) → All (Contains (names_of plan.items)) needs
        → AllZip (IsFactOf o h stack) needs known → known_of ps needs ≡ Some known
    unfolding known_of
    known_is [] [] planned zip = refl
    known_is [] (k ∷ ks) planned zip = absurd zip
    known_is (need ∷ needs) [] planned zip = absurd zip
    known_is (need ∷ needs) (k ∷ ks) planned zip =
        let first = its_facts need k (All-first (Contains (names_of plan.items)) need needs planned) zip.0 in
        let rest = known_is needs ks (All-rest (Contains (names_of plan.items)) need needs planned) zip.1 in
        let here : record { name = need; facts = k.facts } ≡ k = rw (← zip.0.named) refl in
        rw (first, rest) (ap (λ (x : KnownFacts). Some (x ∷ ks)) here)

    named_item : (item : Item) (e : HasExactly o h stack plan item) → HasOne ps item e.it.props
    named_item item e =
        let t = token_at stack item.name e.row in
        let c = if_there t e.it refl e.owned e.state in
        has_one ps item e.it.props (any_of (λ (p : Possible). IsOfItem item e.it.props p × IsOnly ps p) ps c.p c.among (
          (
            ap (λ (x : Token). x.name) c.is,
            is-sole (IsAs item e.it.props) c.p.states e.it (c.states ∙ e.state)
                (e.kind, refl, e.ready, e.stays),
          ),
          only c,
        )) where
          only : (c : IsCalled (token_at stack item.name e.row)) → IsOnly ps c.p
          only c = All-from (IsSame c.p) ps (λ q among alive name.
              let l = listed q among in
              let here = at_token q.token stack item.name q.token.row l.stack_is (name ∙ ap (λ (x : Token). x.name) c.is) refl in
              e.only q.token.row (refl, subst (λ (x : Token). IsAlive o h x) here (its_states q among alive)) ∙ sym (ap (λ (x : Token). x.row) c.is))

    item_found : (item : Item) → Contains plan.items item → HasItem plan ps item
    item_found item among =
        let e = all_at (HasExactly o h stack plan) plan.items f.each item among in
        let met = all_at (λ (i : Item). All (Contains (names_of plan.items)) i.needs) plan.items kept.met item among in
        has_item plan ps item e.known e.it.props (known_is item.needs e.known met e.needs_are) e.props
        (named_item item e)

    found_fits : Finds ps plan
    found_fits = record {
      certain = All-from (λ (p : Possible). IsCertain p.states) ps (λ p among. let l = listed p among in subst (λ (x : List TokenState). IsCertain x) (sym l.states) (f.certain p.token l.stack_is l.owned));
      each = All-from (HasItem plan ps) plan.items item_found;
      no_other = All-from (IsPlanned plan.items) ps (λ p among. is_planned plan.items p (λ alive.
          from_names plan.items p.token.name (f.no_other p.token ((listed p among).stack_is, its_states p among alive))));
    }

  pub finds-fits : IsPlan plan.items plan.absent → Finds ps plan ↔ Fits o h stack plan
  finds-fits kept = (fits_found, found_fits kept)
