-- Codes of data: a value as a list of tokens, read from the back onto a stack.
use Rattle.std.specs.Prelude.{◌≡◌, ℕ, ℤ, pos, List, [], ◌∷◌, ◌++◌, Bool, false, cond, ◌==◌, refl}
use Rattle.std.specs.Coded.{Coded, code_by, coded×, coded_ℕ, coded_ℤ, coded_bool, coded_list}
use Rattle.std.proofs.Common.{ap, sym, ◌∙◌, append_assoc, append-nil}
use Rattle.heat_value.specs.Data.{Data, null, flag, whole, words, items, fields, Nodes}
use Rattle.heat_value.specs.Data.{no_nodes, node, Members, no_members, member}

-- a kind, a flag, a number, a text
abbrev pub Token : Type 0
Token = ℕ × (Bool × (ℤ × List ℕ))

-- what stands on the stack: a value, the values of a list, or the members of a map
pub data Part : Type 0 where
  of_data : Data → Part
  of_nodes : Nodes → Part
  of_members : Members → Part

-- the token of a kind, with nothing to tell beside it
abbrev pub plain : ℕ → Token
plain n = (n, (false, (pos 0, [])))

-- a value's tokens: its kind with what a scalar is, before the tokens of its parts
abbrev mutual
  pub tokens : Data → List Token
  tokens null = plain 0 ∷ []
  tokens (flag b) = (1, (b, (pos 0, []))) ∷ []
  tokens (whole z) = (2, (false, (z, []))) ∷ []
  tokens (words s) = (3, (false, (pos 0, s))) ∷ []
  tokens (items ns) = plain 4 ∷ nodes_tokens ns
  tokens (fields ms) = plain 5 ∷ members_tokens ms

  -- those of a list's values, up to a token that says that no more follow
  pub nodes_tokens : Nodes → List Token
  nodes_tokens no_nodes = plain 6 ∷ []
  nodes_tokens (node d ns) = plain 7 ∷ (tokens d ++ nodes_tokens ns)

  -- those of a map's members, each behind its key, up to a token that says that no more follow
  pub members_tokens : Members → List Token
  members_tokens no_members = plain 8 ∷ []
  members_tokens (member k d ms) = (9, (false, (pos 0, k))) ∷ (tokens d ++ members_tokens ms)

-- the stack once the values on top have become a list; nothing is left of any other
abbrev wrap_items : List Part → List Part
wrap_items [] = []
wrap_items (of_data d ∷ st) = []
wrap_items (of_nodes ns ∷ st) = of_data (items ns) ∷ st
wrap_items (of_members ms ∷ st) = []

-- the stack once the members on top have become a map; nothing is left of any other
abbrev wrap_fields : List Part → List Part
wrap_fields [] = []
wrap_fields (of_data d ∷ st) = []
wrap_fields (of_nodes ns ∷ st) = []
wrap_fields (of_members ms ∷ st) = of_data (fields ms) ∷ st

-- the stack once the value stands before the values on top; nothing is left of any other
abbrev onto_nodes : Data → List Part → List Part
onto_nodes d [] = []
onto_nodes d (of_data e ∷ st) = []
onto_nodes d (of_nodes ns ∷ st) = of_nodes (node d ns) ∷ st
onto_nodes d (of_members ms ∷ st) = []

-- the stack once the value on top stands before the values below it; nothing is left of any other
abbrev push_node : List Part → List Part
push_node [] = []
push_node (of_data d ∷ st) = onto_nodes d st
push_node (of_nodes ns ∷ st) = []
push_node (of_members ms ∷ st) = []

-- the stack once the value stands under the key before the members on top; nothing is left of any other
abbrev onto_members : List ℕ → Data → List Part → List Part
onto_members k d [] = []
onto_members k d (of_data e ∷ st) = []
onto_members k d (of_nodes ns ∷ st) = []
onto_members k d (of_members ms ∷ st) = of_members (member k d ms) ∷ st

-- the stack once the value on top stands under the key before the members below it; nothing is left of any other
abbrev push_member : List ℕ → List Part → List Part
push_member k [] = []
push_member k (of_data d ∷ st) = onto_members k d st
push_member k (of_nodes ns ∷ st) = []
push_member k (of_members ms ∷ st) = []

-- what the stack becomes when the next token from the back is read
abbrev step : Token → List Part → List Part
step t st =
    cond (t.0 == 0) (of_data null ∷ st)
    (cond (t.0 == 1) (of_data (flag t.1.0) ∷ st)
    (cond (t.0 == 2) (of_data (whole t.1.1.0) ∷ st)
    (cond (t.0 == 3) (of_data (words t.1.1.1) ∷ st)
    (cond (t.0 == 4) (wrap_items st)
    (cond (t.0 == 5) (wrap_fields st)
    (cond (t.0 == 6) (of_nodes no_nodes ∷ st)
    (cond (t.0 == 7) (push_node st)
    (cond (t.0 == 8) (of_members no_members ∷ st) (push_member t.1.1.1 st)))))))))

-- the stack that the tokens build, read from the last to the first
abbrev pub built : List Token → List Part
built [] = []
built (t ∷ ts) = step t (built ts)

-- a value's tokens put the value onto what those behind them build
mutual
  pub built-tokens : (d : Data) (rest : List Token) → built (tokens d ++ rest) ≡ of_data d ∷ built rest
  built-tokens null rest = refl
  built-tokens (flag b) rest = refl
  built-tokens (whole z) rest = refl
  built-tokens (words s) rest = refl
  built-tokens (items ns) rest = ap wrap_items (built-nodes_tokens ns rest)
  built-tokens (fields ms) rest = ap wrap_fields (built-members_tokens ms rest)

  -- the tokens of a list's values put these values onto what those behind them build
  pub built-nodes_tokens : (ns : Nodes) (rest : List Token) → built (nodes_tokens ns ++ rest) ≡ of_nodes ns ∷ built rest
  built-nodes_tokens no_nodes rest = refl
  built-nodes_tokens (node d ns) rest =
      ap (λ ts. push_node (built ts)) (append_assoc (tokens d) (nodes_tokens ns) rest)
      ∙ ap push_node (built-tokens d (nodes_tokens ns ++ rest)) ∙ ap (onto_nodes d) (built-nodes_tokens ns rest)

  -- the tokens of a map's members put these members onto what those behind them build
  pub built-members_tokens : (ms : Members) (rest : List Token)
      → built (members_tokens ms ++ rest) ≡ of_members ms ∷ built rest
  built-members_tokens no_members rest = refl
  built-members_tokens (member k d ms) rest =
      ap (λ ts. push_member k (built ts)) (append_assoc (tokens d) (members_tokens ms) rest)
      ∙ ap (push_member k) (built-tokens d (members_tokens ms ++ rest))
      ∙ ap (onto_members k d) (built-members_tokens ms rest)

-- the values on top of the stack; no values where something else is on top
abbrev top_nodes : List Part → Nodes
top_nodes [] = no_nodes
top_nodes (of_data d ∷ st) = no_nodes
top_nodes (of_nodes ns ∷ st) = ns
top_nodes (of_members ms ∷ st) = no_nodes

-- the members on top of the stack; no members where something else is on top
abbrev top_members : List Part → Members
top_members [] = no_members
top_members (of_data d ∷ st) = no_members
top_members (of_nodes ns ∷ st) = no_members
top_members (of_members ms ∷ st) = ms

-- the values that the tokens leave on top; no values where they leave something else there
abbrev pub nodes_from : List Token → Nodes
nodes_from ts = top_nodes (built ts)

-- the members that the tokens leave on top; no members where they leave something else there
abbrev pub members_from : List Token → Members
members_from ts = top_members (built ts)

-- a list's values come back from their tokens
pub nodes_from-tokens : (ns : Nodes) → nodes_from (nodes_tokens ns) ≡ ns
nodes_from-tokens ns = ap nodes_from (sym (append-nil (nodes_tokens ns))) ∙ ap top_nodes (built-nodes_tokens ns [])

-- a map's members come back from their tokens
pub members_from-tokens : (ms : Members) → members_from (members_tokens ms) ≡ ms
members_from-tokens ms =
    ap members_from (sym (append-nil (members_tokens ms))) ∙ ap top_members (built-members_tokens ms [])

-- how lists of tokens are coded, by the codes of what a token is made of
abbrev pub token_code : Coded (List Token)
token_code = coded_list (coded× coded_ℕ (coded× coded_bool (coded× coded_ℤ (coded_list coded_ℕ))))

-- how the values of a list are coded, by their tokens
abbrev pub nodes_code : Coded Nodes
nodes_code = code_by (List Token) token_code nodes_tokens nodes_from nodes_from-tokens

-- how the members of a map are coded, by their tokens
abbrev pub members_code : Coded Members
members_code = code_by (List Token) token_code members_tokens members_from members_from-tokens

-- the value on top of the stack; null where something else is on top
abbrev top_data : List Part → Data
top_data [] = null
top_data (of_data d ∷ st) = d
top_data (of_nodes ns ∷ st) = null
top_data (of_members ms ∷ st) = null

-- the value that the tokens leave on top; null where they leave something else there
abbrev pub data_from : List Token → Data
data_from ts = top_data (built ts)

-- a value comes back from its tokens
pub data_from-tokens : (d : Data) → data_from (tokens d) ≡ d
data_from-tokens d = ap data_from (sym (append-nil (tokens d))) ∙ ap top_data (built-tokens d [])

-- how values are coded, by their tokens
abbrev pub data_code : Coded Data
data_code = code_by (List Token) token_code tokens data_from data_from-tokens
