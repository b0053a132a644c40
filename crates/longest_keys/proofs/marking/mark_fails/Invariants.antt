use Rattle.std.proofs.Common.{◌≡◌, ◌≤◌, ℕ, List, length}
use Rattle.longest_keys.specs.Marks.{AreOfParts, HaveParts}
use Rattle.longest_keys.specs.Tries.{IsTrie}
use Rattle.longest_keys.specs.Walks.{AreFails}
use Rattle.longest_keys.specs.declared.trie.Node.{Node}
use Rattle.longest_keys.proofs.marking.mark_fails.Given as goal

abbrev pub invariant-loop-left : goal.invariant-loop-left
invariant-loop-left l =
    (l.left ≤ length l.fails) × (length l.marks.items ≡ length l.initial.marks.items)
    × ((nodes : List Node) (s : List ℕ) → IsTrie nodes → AreFails nodes l.fails → AreOfParts nodes s l.initial.marks.items → AreOfParts nodes s l.marks.items)
    × ((nodes : List Node) (s : List ℕ) → IsTrie nodes → AreFails nodes l.fails → HaveParts nodes s l.initial.marks.items (length l.fails) → HaveParts nodes s l.marks.items l.left)

abbrev pub decreases-loop-left : goal.decreases-loop-left
decreases-loop-left l = l.left
