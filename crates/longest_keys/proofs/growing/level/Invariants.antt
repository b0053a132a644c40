use Rattle.std.proofs.Common.{map, drop}
use Rattle.longest_keys.specs.Growing.{IsRead}
use Rattle.longest_keys.proofs.growing.level.Given as goal

abbrev pub invariant-loop-i : goal.invariant-loop-i
invariant-loop-i l = IsRead (map (λ k. k.now) l.keys) l.depth (drop l.i l.cursors) l.next.items l.nodes.items l.ends.items
