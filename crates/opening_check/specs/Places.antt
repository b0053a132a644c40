-- An index of tokens: where each stands first in a list.
use Rattle.std.specs.Prelude.{Bool, List, None, Option, Some, false, true, ℕ, ◌≡◌, map, option_map}
use Rattle.std.specs.List.{position_from}
use Rattle.std.specs.Ordering.{is_lt, nat_cmp, ordering_then}
use Rattle.std.specs.declared.cmp.Ordering.{Ordering}
use Rattle.heat_plan.specs.Tables.{at}
use Rattle.heat_plan.specs.declared.token.Token.{Token}
use Rattle.keyed_table.specs.Sortings.{text_cmp}
use Rattle.provider.specs.Same.{same_token}
use Rattle.provider.specs.declared.alive.Alive.{Alive}
use Rattle.opening_check.specs.declared.listed.Listed.{Listed}

-- by the rows, then by the stacks and the names
abbrev pub token_cmp : Token → Token → Ordering
token_cmp a b = ordering_then (nat_cmp a.row b.row) (ordering_then (text_cmp a.stack b.stack) (text_cmp a.name b.name))

abbrev pub token_below : Token → Token → Bool
token_below a b = is_lt (token_cmp a b)

abbrev pub token_of_listed : Listed → Token
token_of_listed it = it.token

abbrev pub tokens_of : List Alive → List Token
tokens_of all = map (λ (a : Alive). a.token) all

-- the place that the index gives for a token
abbrev pub place_in : List Listed → Token → Option ℕ
place_in index t = option_map (λ (it : Listed). it.place) (at same_token token_of_listed index t)

-- the place at which a token stands first
abbrev pub first_place : List Token → Token → Option ℕ
first_place tokens t = position_from (λ (s : Token). same_token s t) 0 tokens

-- the index of these tokens
abbrev pub IsIndex : List Token → List Listed → Type 0
IsIndex tokens index = (t : Token) → place_in index t ≡ first_place tokens t

-- the place so far; else this one, where it is the token's
abbrev pub or_else : Option ℕ → Bool → ℕ → Option ℕ
or_else (Some place) its at = Some place
or_else None true at = Some at
or_else None false at = None
