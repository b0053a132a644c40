use Rattle.std.proofs.Common.{[], map}
use Rattle.longest_keys.specs.Growing.{IsRead}
use Rattle.longest_keys.proofs.growing.trie_of.Given as goal

abbrev pub invariant-loop-depth : goal.invariant-loop-depth
invariant-loop-depth l = IsRead (map (λ k. k.now) l.keys) l.depth l.cursors.items [] l.nodes.items l.ends.items
