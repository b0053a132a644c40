-- Texts that a pattern matches as a whole.
use Rattle.std.proofs.Common.{◌≡◌, ◌∙◌, ◌↔◌, ◌<◌, ◌≤◌, ◌+◌, ℕ, List, ◌∷◌, Bool, true, false, IsTrue}
use Rattle.std.proofs.Common.{length, get_or, drop}
use Rattle.std.proofs.Common.{ap, sym, subst}
use Rattle.heat_value.specs.Meaning.{data_of, nodes_of}
use Rattle.heat_value.specs.declared.value.Value.{Value}
use Rattle.regex.specs.Patterns.{Re}
use Rattle.hot_params.proofs.Places.{nodes_at, nodes_end}
use Rattle.hot_params.specs.Patterns.{IsWhole, AreWhole}
use Rattle.hot_params.specs.Rules.{text_in, texts_among}

-- what a search under the same pattern told of this text
pub passes : (re at : Re) (b : Bool) (t u : List ℕ) → IsTrue b ↔ IsWhole at t
    → b ≡ true → at ≡ re → t ≡ u → IsWhole re u
passes re at b t u is told same text = subst (IsWhole re) text (subst (λ (r : Re). IsWhole r t) same (is.0 told))

pub fails : (re at : Re) (b : Bool) (t u : List ℕ) → IsTrue b ↔ IsWhole at t
    → b ≡ false → at ≡ re → t ≡ u → ¬ IsWhole re u
fails re at b t u is not_so same text holds =
    let told : b ≡ true = is.1 (subst (λ (r : Re). IsWhole r t) (sym same) (subst (IsWhole re) (sym text) holds)) in
    let bad : true ≡ false = sym told ∙ not_so in cc

-- a flag that isn't set is true exactly of what isn't
pub not_true : {P : Type 0} → ¬ P → IsTrue false ↔ P
not_true other = (λ e. absurd (unequal e), λ p. absurd (other p))
  where
    unequal : false ≡ true → ⊥
    unequal e = cc

module _ (re : Re) (whole : List (List ℕ)) (vs : List Value) (n : ℕ) where
  abbrev Decided : ℕ → Type 0
  Decided m = AreWhole re whole ↔ AreWhole re (texts_among (nodes_of (drop m vs)))

  here : (v : Value) → n < length vs → v ≡ get_or vs n v
      → texts_among (nodes_of (drop n vs)) ≡ text_in (data_of v) ∷ texts_among (nodes_of (drop (n + 1) vs))
  here v below at = ap texts_among (nodes_at vs n v below at)

  pub whole_next : (v : Value) → n < length vs → v ≡ get_or vs n v → Decided n → IsWhole re (text_in (data_of v))
      → Decided (n + 1)
  whole_next v below at is holds = (
    λ all. (subst (AreWhole re) (here v below at) (is.0 all)).1,
    λ left. is.1 (subst (AreWhole re) (sym (here v below at)) (holds, left)),
  )

  pub whole_not : (v : Value) → n < length vs → v ≡ get_or vs n v → Decided n → ¬ IsWhole re (text_in (data_of v))
      → ¬ AreWhole re whole
  whole_not v below at is other all = other (subst (AreWhole re) (here v below at) (is.0 all)).0

  pub whole_end : length vs ≤ n → Decided n → AreWhole re whole
  whole_end above is = is.1 (subst (AreWhole re) (sym (ap texts_among (nodes_end vs n above))) tt)
