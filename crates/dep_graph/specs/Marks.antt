-- Marks on nodes, one for each number.
use Rattle.std.specs.Prelude.{◌≡◌, ◌<◌, ◌+◌, ◌↔◌, ◌⊎◌, ℕ, Bool, false, not, List}
use Rattle.std.specs.Prelude.{IsTrue, Contains, length, count_by, slice_index_or}

-- the node has its mark
abbrev pub IsMarked : List Bool → ℕ → Type 0
IsMarked marks node = IsTrue (slice_index_or marks node false)

-- exactly the nodes of the kind have their marks
abbrev pub MarksAll : (ℕ → Type 0) → List Bool → Type 0
MarksAll Is marks = (node : ℕ) → node < length marks → IsMarked marks node ↔ Is node

-- of the nodes listed exactly those of the kind have their marks
abbrev pub MarksAmong : List ℕ → (ℕ → Type 0) → List Bool → Type 0
MarksAmong nodes Is marks = (node : ℕ) → Contains nodes node → IsMarked marks node ↔ Is node

-- exactly the nodes that aren't listed have their marks
pub record Leaves (listed : List ℕ) (marks : List Bool) : Type 0 where
  pub marked : (node : ℕ) → IsMarked marks node → ¬ Contains listed node
  pub rest : (node : ℕ) → node < length marks → ¬ IsMarked marks node → Contains listed node

-- a marked node none of whose predecessors is marked
pub record IsUnheld (Edge : ℕ → ℕ → Type 0) (marks : List Bool) (node : ℕ) : Type 0 where
  pub marked : IsMarked marks node
  pub unheld : (pred : ℕ) → Edge pred node → ¬ IsMarked marks pred

-- the node, if it has its mark, has a predecessor with one
abbrev pub IsHeld : (ℕ → ℕ → Type 0) → List Bool → ℕ → Type 0
IsHeld Edge marks node = IsMarked marks node → (pred : ℕ) × Edge pred node × IsMarked marks pred

-- each marked node is held by another
abbrev pub IsStuck : (ℕ → ℕ → Type 0) → List Bool → Type 0
IsStuck Edge marks = (node : ℕ) → IsHeld Edge marks node

-- how many nodes have no mark
abbrev pub unmarked_count : List Bool → ℕ
unmarked_count marks = count_by not marks

-- the nodes have their marks too, and those that had none wait for their turn
pub record MarksNew (nodes : List ℕ) (old : List Bool) (waiting : List ℕ)
    (new : List Bool) (pending : List ℕ) : Type 0 where
  pub size : length new ≡ length old
  pub kept : (x : ℕ) → IsMarked old x → IsMarked new x
  pub all : (x : ℕ) → Contains nodes x → IsMarked new x
  pub only : (x : ℕ) → IsMarked new x → IsMarked old x ⊎ (Contains nodes x × Contains pending x)
  pub waits : (x : ℕ) → Contains waiting x → Contains pending x
  pub joined : (x : ℕ) → Contains pending x → Contains waiting x ⊎ Contains nodes x
  pub work : unmarked_count new + length pending ≡ unmarked_count old + length waiting
