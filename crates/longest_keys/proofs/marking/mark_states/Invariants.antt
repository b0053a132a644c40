use Rattle.std.proofs.Common.{◌≡◌, length}
use Rattle.longest_keys.proofs.MarkLemmas.{AreMarked}
use Rattle.longest_keys.proofs.marking.mark_states.Given as goal

abbrev pub invariant-loop-i : goal.invariant-loop-i
invariant-loop-i l = (length l.marks.items ≡ length l.initial.marks.items) × AreMarked l.states l.marks.items l.i
