-- Keys that are read from behind, byte by byte, into a trie.
use Rattle.std.specs.Prelude.{◌≡◌, ◌≢◌, [], ◌+◌, ◌≤◌, ◌⊎◌, ℕ, suc, List, ◌++◌, length, drop, All, Contains, Some, slice_get}
use Rattle.longest_keys.specs.Tries.{IsTrie, IsLeveled, Spells}
use Rattle.longest_keys.specs.declared.growing.Cursor.{Cursor}
use Rattle.longest_keys.specs.declared.trie.Node.{Node}

-- of the cursor's key n bytes are read and some are left; its node stands for what is read
pub record IsReadTo (keys : List (List ℕ)) (nodes : List Node) (n : ℕ) (c : Cursor) : Type 0 where
  pub key : List ℕ
  pub left : ℕ
  pub there : slice_get keys c.key ≡ Some key
  pub whole : suc left + n ≡ length key
  pub spelled : Spells nodes c.node (drop (suc left) key)

-- a cursor reads the key at place i
pub record IsReading (cursors : List Cursor) (i : ℕ) : Type 0 where
  pub cursor : Cursor
  pub listed : Contains cursors cursor
  pub key : cursor.key ≡ i

-- no text is longer than n
abbrev pub AreWithin : List Node → ℕ → Type 0
AreWithin nodes n = (i : ℕ) (s : List ℕ) → Spells nodes i s → length s ≤ n

-- of some keys n bytes are read, of some one more, and of the others all
pub record IsRead (keys : List (List ℕ)) (n : ℕ) (current later : List Cursor) (nodes : List Node) (ends : List ℕ) : Type 0 where
  pub trie : IsTrie nodes
  pub leveled : IsLeveled nodes
  pub within : AreWithin nodes (suc n)
  pub size : length ends ≡ length keys
  pub now : All (IsReadTo keys nodes n) current
  pub next : All (IsReadTo keys nodes (suc n)) later
  pub each : (i e : ℕ) (k : List ℕ) → slice_get ends i ≡ Some e → slice_get keys i ≡ Some k
      → Spells nodes e k ⊎ IsReading (current ++ later) i

abbrev pub root : Node
root = record { byte = 0; parent = 0; child = 0; sibling = 0 }

-- for each key that isn't empty a cursor at the root, and none else
pub record AreFirst (keys : List (List ℕ)) (cursors : List Cursor) : Type 0 where
  pub only : All (λ c. (c.node ≡ 0) × ((k : List ℕ) × (slice_get keys c.key ≡ Some k) × (k ≢ []))) cursors
  pub each : (i : ℕ) (k : List ℕ) → slice_get keys i ≡ Some k → k ≢ [] → IsReading cursors i
