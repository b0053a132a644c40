-- The text of a token: `stack/name/row`, the row in decimal.
use Rattle.std.specs.Prelude.{ℕ, List, ◌∷◌, ◌++◌, decimal}
use Rattle.heat_plan.specs.Names.{IsStackName, IsResName}
use Rattle.heat_plan.specs.Numbers.{IsNumber}
use Rattle.heat_plan.specs.declared.token.Token.{Token}

abbrev pub token_text : Token → List ℕ
token_text t = t.stack ++ 47 ∷ (t.name ++ 47 ∷ decimal t.row)

-- the parts of a token are of their grammars and ranges
pub record IsToken (t : Token) : Type 0 where
  pub stack : IsStackName t.stack
  pub name : IsResName t.name
  pub row : IsNumber t.row
