-- The ids and the attributes that a simulated cloud gives.
use Rattle.std.specs.Prelude.{ℕ, List, ◌∷◌, ◌++◌, fold, unwrap_or, decimal, false}
use Rattle.heat_value.specs.Data.{Data, words, Members, no_members, lookup, put, keys_of}
use Rattle.heat_plan.specs.declared.facts.Facts.{Facts}
use Rattle.heat_plan.specs.declared.kind.Kind.{Kind}
use Rattle.heat_plan.specs.declared.token.Token.{Token}
use Rattle.provider.specs.declared.alive.Alive.{Alive}

-- `sim-` and the row in decimal
abbrev pub id_of : ℕ → List ℕ
id_of row = 115 ∷ 105 ∷ 109 ∷ 45 ∷ decimal row

-- the property of that name, else the words `<attribute>-<row>`
abbrev pub value_of : Members → ℕ → List ℕ → Data
value_of props row name = unwrap_or (lookup name props) (words (name ++ 45 ∷ decimal row))

-- the map with the value of each of these names
abbrev pub attrs_of : List (List ℕ) → Members → ℕ → Members
attrs_of names props row = fold (λ m name. put name (value_of props row name) m) no_members names

abbrev pub facts_of : List (List ℕ) → Members → ℕ → Facts
facts_of names props row = record { id = id_of row; attrs = attrs_of names props row }

-- a new resource of a kind
abbrev pub fresh : Token → Kind → Members → Alive
fresh token kind props =
    record {
      token = token;
      kind = kind.name;
      props = props;
      facts = facts_of kind.attrs props token.row;
      ready = false;
    }

-- the attributes that a resource has, anew
abbrev pub facts_again : Facts → Members → ℕ → Facts
facts_again facts props row = record facts { attrs = attrs_of (keys_of facts.attrs) props row }
