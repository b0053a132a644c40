use Rattle.std.proofs.Common.{◌≡◌, ◌<◌, ℕ, true, Some}
use Rattle.std.specs.List.{slice_get}
use Rattle.longest_keys.proofs.marking.lacks_mark.Given as goal

abbrev pub invariant-loop-i : goal.invariant-loop-i
invariant-loop-i l = (p e : ℕ) → p < l.i → slice_get l.ends p ≡ Some e → slice_get l.marks e ≡ Some true
