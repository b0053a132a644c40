-- Tries of texts that are read from behind: a node's text is its byte before its parent's text, and the root's is empty.
use Rattle.std.specs.Prelude.{◌≡◌, ◌≢◌, ◌<◌, ◌≤◌, ◌⊎◌, ℕ, List, [], ◌∷◌, length, Some, slice_get}
use Rattle.longest_keys.specs.declared.trie.Node.{Node}

-- the node at place c stands for byte b before what that at place p stands for
pub record IsEdge (nodes : List Node) (p b c : ℕ) : Type 0 where
  pub node : Node
  pub there : slice_get nodes c ≡ Some node
  pub below : c ≢ 0
  pub parent : node.parent ≡ p
  pub byte : node.byte ≡ b

abbrev pub LacksEdge : List Node → ℕ → ℕ → Type 0
LacksEdge nodes p b = (c : ℕ) → ¬ (IsEdge nodes p b c)

-- the node at place i stands for s
abbrev pub Spells : List Node → ℕ → List ℕ → Type 0
Spells nodes i [] = i ≡ 0
Spells nodes i (b ∷ s) = (p : ℕ) × IsEdge nodes p b i × Spells nodes p s

-- c is the last child of p that stands before the bound, or 0 where there is none
pub record IsLast (nodes : List Node) (p bound c : ℕ) : Type 0 where
  pub child : c ≢ 0 → (b : ℕ) × IsEdge nodes p b c
  pub before : c ≢ 0 → c < bound
  pub last : (b d : ℕ) → IsEdge nodes p b d → d < bound → d ≤ c

-- parents stand before their children, each child is found from its parent, and no two of one parent have the same byte
pub record IsTrie (nodes : List Node) : Type 0 where
  pub root : 0 < length nodes
  pub parents : (p b c : ℕ) → IsEdge nodes p b c → p < c
  pub children : (i : ℕ) (n : Node) → slice_get nodes i ≡ Some n → IsLast nodes i (length nodes) n.child
  pub siblings : (i : ℕ) (n : Node) → slice_get nodes i ≡ Some n → i ≢ 0 → IsLast nodes n.parent i n.sibling
  pub apart : (p b c d : ℕ) → IsEdge nodes p b c → IsEdge nodes p b d → c ≡ d

-- the second trie has what the first has, and the edge; if it has more than the first, that edge is all, and its node the last
pub record IsGrown (old new : List Node) (p b c : ℕ) : Type 0 where
  pub trie : IsTrie new
  pub edge : IsEdge new p b c
  pub kept : (q d e : ℕ) → IsEdge old q d e → IsEdge new q d e
  pub more : (q d e : ℕ) → IsEdge new q d e → IsEdge old q d e ⊎ ((q ≡ p) × (d ≡ b) × (e ≡ length old))
  pub size : length old ≤ length new

-- no node stands behind one of a longer text
abbrev pub IsLeveled : List Node → Type 0
IsLeveled nodes = (i j : ℕ) (s t : List ℕ) → Spells nodes i s → Spells nodes j t → i ≤ j → length s ≤ length t

-- for each text a node that stands for it
pub record AreEnds (keys : List (List ℕ)) (nodes : List Node) (ends : List ℕ) : Type 0 where
  pub size : length ends ≡ length keys
  pub each : (i e : ℕ) (k : List ℕ) → slice_get ends i ≡ Some e → slice_get keys i ≡ Some k → Spells nodes e k
