use Rattle.std.proofs.Common.{map}
use Rattle.longest_keys.proofs.FirstCursors.{AreFirstOf}
use Rattle.longest_keys.proofs.growing.first_cursors.Given as goal

abbrev pub invariant-loop-key : goal.invariant-loop-key
invariant-loop-key l = AreFirstOf (map (λ k. k.now) l.keys) l.key l.cursors.items
