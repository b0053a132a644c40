-- Which tokens a history's calls name and never gives up, each with the states in which it may be.
use Rattle.std.specs.List.{list_any}
use Rattle.std.specs.Prelude.{List, [], ◌∷◌, ◌++◌, ◌&&◌, ℕ, Bool, None, fold, not, if◌then◌else◌}
use Rattle.std.specs.Str.{bytes_eq}
use Rattle.heat_plan.specs.declared.token.Token.{Token}
use Rattle.core_state.specs.declared.entry.Entry.{Entry}
use Rattle.core_state.specs.declared.entry.What.{What}
use Rattle.core_state.specs.declared.entry.What.TheVariants as what
use Rattle.provider.specs.Same.{same_token}
use Rattle.provider.specs.Table.{TokenState}
use Rattle.step_relation.specs.Could.{could}
use Rattle.step_relation.specs.Stored.{released_by}
use Rattle.headline_reader.specs.declared.possible.Possible.{Possible}

-- the states of a token that was absent at first
abbrev pub could_be : List Entry → Token → List TokenState
could_be h t = could (λ (x : Token). None) h t

-- the tokens that were given up
abbrev pub given_up : List Entry → List Token
given_up h = fold (λ (tokens : List Token) (e : Entry). released_by tokens e.what) [] h

abbrev pub is_among : Token → List Token → Bool
is_among t tokens = list_any (same_token t) tokens

abbrev pub with_states : (Token → List TokenState) → Token → Possible
with_states c t = record { token = t; states = c t }

-- a call on the stack names its token, where it isn't one of those that were given up
abbrev pub called_by : (Token → List TokenState) → List Token → List ℕ → What → List Possible
called_by c gone stack (what.Call token request given) =
    if bytes_eq token.stack stack && not (is_among token gone) then with_states c token ∷ [] else []
called_by c gone stack (what.Command name trav act plan rollback) = []
called_by c gone stack (what.Release token) = []
called_by c gone stack (what.Mark name trav act cause) = []
called_by c gone stack (what.Rows writes) = []
called_by c gone stack (what.Mail writes) = []
called_by c gone stack (what.Engine change) = []
called_by c gone stack (what.Show it name) = []
called_by c gone stack (what.Note line code path) = []
called_by c gone stack (what.Ran idle turns) = []
called_by c gone stack (what.Turned engine lost) = []
called_by c gone stack (what.Preview previewed forecast) = []
called_by c gone stack what.Closed = []

-- the tokens of all calls on the stack, in order
abbrev pub called : (Token → List TokenState) → List Token → List ℕ → List Entry → List Possible
called c gone stack [] = []
called c gone stack (e ∷ es) = called_by c gone stack e.what ++ called c gone stack es
