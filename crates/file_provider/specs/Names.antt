-- The names of files: each token has one, and none leads out of its folder.
use Rattle.std.specs.Prelude.{◌≢◌, ℕ, List, ◌∷◌, ◌++◌, All, decimal, slice_index}
use Rattle.std.specs.Char.{IsAsciiAlphabetic}
use Rattle.heat_value.specs.Data.{Members}
use Rattle.heat_plan.specs.declared.facts.Facts.{Facts}
use Rattle.heat_plan.specs.declared.token.Token.{Token}

-- `stack+name+row`, the row in decimal
abbrev pub name_of : Token → List ℕ
name_of t = t.stack ++ 43 ∷ (t.name ++ 43 ∷ decimal t.row)

-- it has no `/`, and begins with a letter, so it is neither `.` nor `..` nor the draft's
pub record IsInside (name : List ℕ) : Type 0 where
  pub flat : All (λ b. b ≢ 47) name
  pub letter : IsAsciiAlphabetic (slice_index name 0)

-- what a ready resource tells: the name as its id, and its properties
abbrev pub facts_for : Token → Members → Facts
facts_for token props = record { id = name_of token; attrs = props }
