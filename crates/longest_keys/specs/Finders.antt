-- What is found out of keys once.
use Rattle.std.specs.Prelude.{◌≡◌, ◌≢◌, ℕ, zero, suc, List, length, Some, slice_get}
use Rattle.longest_keys.specs.Texts.{IsLongest}
use Rattle.longest_keys.specs.Tries.{IsTrie, IsLeveled, AreEnds, Spells}
use Rattle.longest_keys.specs.Walks.{AreFails}
use Rattle.longest_keys.specs.declared.growing.KeyTrie.{KeyTrie}
use Rattle.longest_keys.specs.declared.finder.KeyFinder.{KeyFinder}
use Rattle.longest_keys.specs.declared.trie.Node.{Node}

-- a trie with a node for each key, those of shorter texts first
pub record IsKeyTrie (keys : List (List ℕ)) (x : KeyTrie) : Type 0 where
  pub trie : IsTrie x.nodes.items
  pub leveled : IsLeveled x.nodes.items
  pub ends : AreEnds keys x.nodes.items x.ends.items

-- the number, counted from 1, of a text that ends at the node; 0 where none does
abbrev pub IsOwn : List ℕ → ℕ → ℕ → Type 0
IsOwn ends e zero = (i : ℕ) → slice_get ends i ≢ Some e
IsOwn ends e (suc i) = slice_get ends i ≡ Some e

-- the node at place i has its own number where it has one; else that of the node that it leads to, or none at the root
pub record IsNumbered (own fails numbers : List ℕ) (i : ℕ) : Type 0 where
  pub mine : (m n : ℕ) → slice_get numbers i ≡ Some m → slice_get own i ≡ Some (suc n) → m ≡ suc n
  pub led : (m f : ℕ) → slice_get numbers i ≡ Some m → slice_get own i ≡ Some 0 → i ≢ 0 → slice_get fails i ≡ Some f
      → slice_get numbers f ≡ Some m
  pub root : (m : ℕ) → slice_get numbers i ≡ Some m → slice_get own i ≡ Some 0 → i ≡ 0 → m ≡ 0

-- for each node the number of the longest key that its text begins with
abbrev pub AreLongest : List (List ℕ) → List Node → List ℕ → Type 0
AreLongest keys nodes longest =
    (i m : ℕ) (s : List ℕ) → slice_get longest i ≡ Some m → Spells nodes i s → IsLongest keys s m

pub record IsFinderOf (keys : List (List ℕ)) (x : KeyFinder) : Type 0 where
  pub trie : IsTrie x.nodes.items
  pub ends : AreEnds keys x.nodes.items x.ends.items
  pub fails : AreFails x.nodes.items x.fails.items
  pub told : length x.fails.items ≡ length x.nodes.items
  pub size : length x.longest.items ≡ length x.nodes.items
  pub longest : AreLongest keys x.nodes.items x.longest.items
