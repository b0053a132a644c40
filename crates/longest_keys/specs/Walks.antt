-- The longest text of a trie that stands at the front of another, from place to place.
use Rattle.std.specs.Prelude.{◌≡◌, ◌≤◌, ℕ, pred, List, length, drop, Some, slice_get}
use Rattle.longest_keys.specs.Texts.{Begins, but_last}
use Rattle.longest_keys.specs.Tries.{Spells}
use Rattle.longest_keys.specs.declared.trie.Node.{Node}

-- the node at place i stands for the longest of the trie's texts that stand at the front of t
pub record IsDeepest (nodes : List Node) (t : List ℕ) (i : ℕ) : Type 0 where
  pub text : List ℕ
  pub spelled : Spells nodes i text
  pub stands : Begins text t
  pub longest : (j : ℕ) (u : List ℕ) → Spells nodes j u → Begins u t → length u ≤ length text

-- each place but the first leads to an earlier one
abbrev pub AreEarlier : List ℕ → Type 0
AreEarlier fails = (i f : ℕ) → slice_get fails i ≡ Some f → f ≤ pred i

-- for each of the first nodes an earlier one, that of the longest shorter text that its own text begins with; for the root the root
pub record AreFails (nodes : List Node) (fails : List ℕ) : Type 0 where
  pub within : length fails ≤ length nodes
  pub earlier : AreEarlier fails
  pub longest : (i f : ℕ) (s : List ℕ) → slice_get fails i ≡ Some f → Spells nodes i s → IsDeepest nodes (but_last s) f

-- for each place of the text the node of the longest text that stands there
pub record AreStates (nodes : List Node) (text states : List ℕ) : Type 0 where
  pub size : length states ≡ length text
  pub each : (i q : ℕ) → slice_get states i ≡ Some q → IsDeepest nodes (drop i text) q
