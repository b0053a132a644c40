use Rattle.std.proofs.Common.{◌≡◌, take}
use Rattle.heat_value.proofs.value.copies.+copies.Given as goal

abbrev pub invariant-ItemsTryCopy::copy-loop-value : goal.invariant-ItemsTryCopy::copy-loop-value
invariant-ItemsTryCopy::copy-loop-value l = l.all.items ≡ take l.value-index l.value-items

abbrev pub invariant-PropsTryCopy::copy-loop-member : goal.invariant-PropsTryCopy::copy-loop-member
invariant-PropsTryCopy::copy-loop-member l = l.members.items ≡ take l.member-index l.member-items
