-- A scalar is replaced by itself, and takes nothing.
use Rattle.std.proofs.Common.{◌≡◌, ◌∙◌, ◌+◌, ℕ, ℤ, Some, refl, ap, sym, arith}
use Rattle.heat_value.specs.Data.{Data, whole}
use Rattle.heat_value.specs.Meaning.{data_of}
use Rattle.heat_value.specs.declared.value.Value.{Value}
use Rattle.heat_value.specs.declared.value.Value.TheVariants as value
use Rattle.eval_words.specs.Choices.{Choice}
use Rattle.eval_words.specs.Fillings.{filled, filled_size}

pub scalar_filled : (c : Choice) (v : Value) (d made : Data) (n : ℕ) → data_of v ≡ d → filled c d ≡ Some d
    → filled_size c d ≡ 0 → made ≡ d
    → (filled c (data_of v) ≡ Some made) × (n + filled_size c (data_of v) ≡ n)
scalar_filled c v d made n is same none made_is = (
  ap (filled c) is ∙ same ∙ ap Some (sym made_is),
  omega (arith, ap (filled_size c) is, none),
)

pub scalar_whole : (c : Choice) (v : Value) (z : ℤ) (made : Data) (n : ℕ) → v ≡ value.Whole z → made ≡ data_of v
    → (filled c (data_of v) ≡ Some made) × (n + filled_size c (data_of v) ≡ n)
scalar_whole c v z made n is made_is =
    scalar_filled c v (whole z) made n (ap data_of is) refl refl (made_is ∙ ap data_of is)
