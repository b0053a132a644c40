-- A member's number in place of the index variable, in texts and in keys, and keys that become one by it.
use Rattle.std.specs.Prelude.{ℕ, ◌+◌, List, [], ◌∷◌, Option, None, is_some, decimal}
use Rattle.std.specs.Option.{option_or}
use Rattle.heat_value.specs.Data.{Data, null, flag, whole, words, items, fields, Nodes, no_nodes, node}
use Rattle.heat_value.specs.Data.{Members, no_members, member}
use Rattle.heat_value.specs.declared.path.Step.TheVariants.{Key, Index}
use Rattle.hot_strings.specs.Answers.{with_values}
use Rattle.eval_words.specs.Maps.{map_of}
use Rattle.hot_env.specs.Environments.{over}
use Rattle.hot_groups.specs.Codes.{under, unless}
use Rattle.hot_groups.specs.declared.code.GroupCode.TheVariants.{G01}
use Rattle.hot_groups.specs.declared.flaw.GroupFlaw.{GroupFlaw}

-- the number in place of the index variable, as by str_replace
abbrev pub with_number : List ℕ → ℕ → List ℕ → List ℕ
with_number v i s = with_values ((v, decimal i) ∷ []) s

-- ---- values made over, text by text

-- the map of these entries, of which the later wins
abbrev pub map_from : Members → Members
map_from ms = over no_members ms

-- each text and each key of a value made over
abbrev mutual
  pub retold : (List ℕ → List ℕ) → Data → Data
  retold f null = null
  retold f (flag b) = flag b
  retold f (whole z) = whole z
  retold f (words s) = words (f s)
  retold f (items ns) = items (nodes_retold f ns)
  retold f (fields ms) = fields (map_from (members_retold f ms))

  pub nodes_retold : (List ℕ → List ℕ) → Nodes → Nodes
  nodes_retold f no_nodes = no_nodes
  nodes_retold f (node d ns) = node (retold f d) (nodes_retold f ns)

  -- in their order as written
  pub members_retold : (List ℕ → List ℕ) → Members → Members
  members_retold f no_members = no_members
  members_retold f (member k d ms) = member (f k) (retold f d) (members_retold f ms)

-- ---- keys that become one

-- the keys made over, with nothing under them
abbrev pub keys_retold : (List ℕ → List ℕ) → Members → Members
keys_retold f no_members = no_members
keys_retold f (member k d ms) = member (f k) null (keys_retold f ms)

-- the first object in reading order two of whose keys become one
abbrev mutual
  pub meeting : (List ℕ → List ℕ) → Data → Option GroupFlaw
  meeting f null = None
  meeting f (flag b) = None
  meeting f (whole z) = None
  meeting f (words s) = None
  meeting f (items ns) = meeting_among f 0 ns
  meeting f (fields ms) = option_or (unless (is_some (map_of (keys_retold f ms))) G01) (meeting_under f ms)

  -- among a list's values from the place i on
  pub meeting_among : (List ℕ → List ℕ) → ℕ → Nodes → Option GroupFlaw
  meeting_among f i no_nodes = None
  meeting_among f i (node d ns) = option_or (under (Index i) (meeting f d)) (meeting_among f (i + 1) ns)

  pub meeting_under : (List ℕ → List ℕ) → Members → Option GroupFlaw
  meeting_under f no_members = None
  meeting_under f (member k d ms) = option_or (under (Key k) (meeting f d)) (meeting_under f ms)
