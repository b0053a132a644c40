-- What a reader looks for among the tokens that calls name.
use Rattle.std.specs.Prelude.{◌≡◌, ℕ, false, List, [], ◌∷◌, Option, None, Some, IsSome, IsSomeAnd, All, Any}
use Rattle.std.specs.Prelude.{bytes_eq, if◌then◌else◌, option_and_then, option_map}
use Rattle.heat_value.specs.Data.{Members}
use Rattle.heat_plan.specs.Plans.{PlanData}
use Rattle.heat_plan.specs.declared.facts.Facts.{Facts}
use Rattle.heat_plan.specs.declared.facts.KnownFacts.{KnownFacts}
use Rattle.heat_plan.specs.declared.item.Item.{Item}
use Rattle.eval_words.specs.Resolve.{Fault, Props, Resolved, resolve}
use Rattle.provider.specs.Table.{Living, TokenState}
use Rattle.step_relation.specs.Tokens.{IsCertain, MayLive}
use Rattle.headline_reader.specs.declared.possible.Possible.{Possible}

-- the resource, where one state alone is possible and it is alive
abbrev pub sole : List TokenState → Option Living
sole [] = None
sole (state ∷ []) = state
sole (state ∷ other ∷ rest) = None

-- ---- what an item needs

-- the facts of the resource, where it is certainly alive and ready
abbrev pub ready_facts : List TokenState → Option Facts
ready_facts states = option_and_then (λ (it : Living). it.facts) (sole states)

-- and where it has the name
abbrev pub facts_named : List ℕ → Possible → Option Facts
facts_named need p = if bytes_eq p.token.name need then ready_facts p.states else None

-- these facts, if there are any, else those
abbrev pub facts_or : Option Facts → Option Facts → Option Facts
facts_or (Some facts) others = Some facts
facts_or None others = others

-- the facts of the first that is certainly alive and ready under a name
unfoldable pub facts_under : List Possible → List ℕ → Option Facts
facts_under [] need = None
facts_under (p ∷ ps) need = facts_or (facts_named need p) (facts_under ps need)

-- a name's facts before those of further names, where all have facts
abbrev pub known_before : List ℕ → Option Facts → Option (List KnownFacts) → Option (List KnownFacts)
known_before need facts known =
    option_and_then (λ (f : Facts). option_map (λ (ks : List KnownFacts). record { name = need; facts = f } ∷ ks) known)
    facts

-- the facts of all that is needed, in its order; none where something that is needed has none
unfoldable pub known_of : List Possible → List (List ℕ) → Option (List KnownFacts)
known_of ps [] = Some []
known_of ps (need ∷ needs) = known_before need (facts_under ps need) (known_of ps needs)

-- ---- items

abbrev pub IsReady : Living → Type 0
IsReady it = IsSome it.facts

-- it is ready with these properties, as the item asks, and stays
abbrev pub IsAs : Item → Members → Living → Type 0
IsAs item props it = (it.kind ≡ item.kind.name) × (it.props ≡ props) × IsReady it × (it.leaving ≡ false)

abbrev pub IsOfItem : Item → Members → Possible → Type 0
IsOfItem item props p = (p.token.name ≡ item.name) × IsSomeAnd (sole p.states) (IsAs item props)

-- no other of its name may be alive
abbrev pub IsSame : Possible → Possible → Type 0
IsSame p q = MayLive q.states → q.token.name ≡ p.token.name → q.token.row ≡ p.token.row

abbrev pub IsOnly : List Possible → Possible → Type 0
IsOnly ps p = All (IsSame p) ps

-- the item's one resource, with these properties
unfoldable pub HasOne : List Possible → Item → Members → Type 0
HasOne ps item props = Any (λ (p : Possible). IsOfItem item props p × IsOnly ps p) ps

-- the item's one resource, with what the item resolves to; there is none where that is a fault
abbrev pub HasResolved : List Possible → Item → Resolved → Type 0
HasResolved ps item (Props props) = HasOne ps item props
HasResolved ps item (Fault code path) = ⊥

-- what the item needs is there, and the item's one resource, with what the item resolves to by these facts
unfoldable pub HasItem : PlanData → List Possible → Item → Type 0
HasItem plan ps item =
    IsSomeAnd (known_of ps item.needs) (λ (known : List KnownFacts). HasResolved ps item (resolve plan item known))

-- ---- the whole plan

-- what may be alive is an item's
abbrev pub HasName : List Item → List ℕ → Type 0
HasName items name = Any (λ (i : Item). i.name ≡ name) items

unfoldable pub IsPlanned : List Item → Possible → Type 0
IsPlanned items p = MayLive p.states → HasName items p.token.name

-- what a reader finds of a plan
pub record Finds (ps : List Possible) (plan : PlanData) : Type 0 where
  pub certain : All (λ (p : Possible). IsCertain p.states) ps
  pub each : All (HasItem plan ps) plan.items
  pub no_other : All (IsPlanned plan.items) ps
