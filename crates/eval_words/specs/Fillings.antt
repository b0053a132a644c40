-- The literal template of a repeat with a choice's items in place of the keys, and where its parts stood.
use Rattle.std.specs.Prelude.{ℕ, ◌+◌, List, [], ◌∷◌, Option, Some, None, map, bytes_eq}
use Rattle.std.specs.Prelude.{option_map, option_and_then, unwrap_or, if◌then◌else◌}
use Rattle.heat_value.specs.Coercion.{coerced}
use Rattle.heat_value.specs.Data.{Data, null, flag, whole, words, items, fields, Nodes, no_nodes, node}
use Rattle.heat_value.specs.Data.{Members, no_members, member}
use Rattle.heat_value.specs.declared.path.Step.{Step}
use Rattle.heat_value.specs.declared.path.Step.TheVariants.{Key, Index}
use Rattle.hot_strings.specs.Answers.{with_values}
use Rattle.hot_strings.specs.Pieces.{Params}
use Rattle.eval_words.specs.Choices.{Choice}
use Rattle.eval_words.specs.Lookups.{node_at}
use Rattle.eval_words.specs.Maps.{map_of}
use Rattle.eval_words.specs.Outcomes.{size}

-- ---- keys replaced

-- each key with its item's text
abbrev pub texts_for : Choice → Params
texts_for c = map (λ p. (p.0, coerced p.1)) c

-- a text or an object's key, with keys replaced as by str_replace
abbrev pub text_filled : Choice → List ℕ → List ℕ
text_filled c s = with_values (texts_for c) s

-- the item of a key
abbrev pub item_of : Choice → List ℕ → Option Data
item_of [] s = None
item_of ((k, d) ∷ c) s = if bytes_eq k s then Some d else item_of c s

-- a text that is just one key becomes the item itself
abbrev pub words_filled : Choice → List ℕ → Data
words_filled c s = unwrap_or (item_of c s) (words (text_filled c s))

-- a template with keys replaced in texts and in objects' keys; none where two keys of an object become one
abbrev mutual
  pub filled : Choice → Data → Option Data
  filled c null = Some null
  filled c (flag b) = Some (flag b)
  filled c (whole z) = Some (whole z)
  filled c (words s) = Some (words_filled c s)
  filled c (items ns) = option_map items (nodes_filled c ns)
  filled c (fields ms) = option_map fields (option_and_then map_of (members_filled c ms))

  -- the same of a list's values
  pub nodes_filled : Choice → Nodes → Option Nodes
  nodes_filled c no_nodes = Some no_nodes
  nodes_filled c (node d ns) = option_and_then (λ e. option_map (node e) (nodes_filled c ns)) (filled c d)

  -- the same of an object's members, in their order as written; two keys may become one here
  pub members_filled : Choice → Members → Option Members
  members_filled c no_members = Some no_members
  members_filled c (member k d ms) =
      option_and_then (λ e. option_map (member (text_filled c k) e) (members_filled c ms)) (filled c d)

-- the bytes of the filled keys and texts, each as compact JSON at its place
abbrev mutual
  pub filled_size : Choice → Data → ℕ
  filled_size c null = 0
  filled_size c (flag b) = 0
  filled_size c (whole z) = 0
  filled_size c (words s) = size (words_filled c s)
  filled_size c (items ns) = nodes_size c ns
  filled_size c (fields ms) = members_size c ms

  -- those of a list's values
  pub nodes_size : Choice → Nodes → ℕ
  nodes_size c no_nodes = 0
  nodes_size c (node d ns) = filled_size c d + nodes_size c ns

  -- those of an object's members, keys and values
  pub members_size : Choice → Members → ℕ
  members_size c no_members = 0
  members_size c (member k d ms) = size (words (text_filled c k)) + filled_size c d + members_size c ms

-- ---- places

-- the step to the member whose key becomes k, by its key as written, and what stands there
abbrev pub member_becoming : Choice → List ℕ → Members → Option (Step × Data)
member_becoming c k no_members = None
member_becoming c k (member l d ms) =
    if bytes_eq (text_filled c l) k then Some (Key l, d) else member_becoming c k ms

-- into a list only a place leads, and the place stays the same
abbrev pub step_in_list : Nodes → Step → Option (Step × Data)
step_in_list ns (Key k) = None
step_in_list ns (Index i) = option_map (λ d. (Index i, d)) (node_at ns i)

-- into an object only a key leads, as it is after keys were replaced
abbrev pub step_in_object : Choice → Members → Step → Option (Step × Data)
step_in_object c ms (Key k) = member_becoming c k ms
step_in_object c ms (Index i) = None

-- the step in the literal template, and what stands behind it; none inside an item that replaced a text
abbrev pub literal_step : Choice → Data → Step → Option (Step × Data)
literal_step c null s = None
literal_step c (flag b) s = None
literal_step c (whole z) s = None
literal_step c (words t) s = None
literal_step c (items ns) s = step_in_list ns s
literal_step c (fields ms) s = step_in_object c ms s

-- the place in the literal template of what stands at a path of the replaced one
abbrev pub literal_path : Choice → Data → List Step → List Step
literal_path c d [] = []
literal_path c d (s ∷ path) =
    unwrap_or (option_map (λ x. x.0 ∷ literal_path c x.1 path) (literal_step c d s)) []
