-- Nodes that are marked, of those whose texts stand somewhere in a text.
use Rattle.std.specs.Prelude.{◌≡◌, ◌≢◌, ◌<◌, ◌⊎◌, ℕ, Bool, true, List, [], Some, slice_get}
use Rattle.longest_keys.specs.Texts.{Begins, IsPart}
use Rattle.longest_keys.specs.Tries.{Spells}
use Rattle.longest_keys.specs.declared.trie.Node.{Node}

-- the text of each marked node stands somewhere in s
abbrev pub AreOfParts : List Node → List ℕ → List Bool → Type 0
AreOfParts nodes s marks = (i : ℕ) (t : List ℕ) → slice_get marks i ≡ Some true → Spells nodes i t → IsPart t s

-- t begins the text of a marked node, which stands before place n or at place j
pub record IsBegun (nodes : List Node) (marks : List Bool) (n j : ℕ) (t : List ℕ) : Type 0 where
  pub place : ℕ
  pub text : List ℕ
  pub marked : slice_get marks place ≡ Some true
  pub spelled : Spells nodes place text
  pub begun : Begins t text
  pub before : (place < n) ⊎ (place ≡ j)

-- each text of a node that isn't empty and stands somewhere in s begins that of a marked node: one before place n, or its own
abbrev pub HaveParts : List Node → List ℕ → List Bool → ℕ → Type 0
HaveParts nodes s marks n =
    (j : ℕ) (t : List ℕ) → Spells nodes j t → t ≢ [] → IsPart t s → IsBegun nodes marks n j t
