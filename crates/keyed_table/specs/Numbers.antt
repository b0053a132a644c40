-- Numbers are sorted by a strict order.
use Rattle.std.specs.Prelude.{◌≡◌, ℕ, Bool, true, false, nat_eq, nat_lt}
use Rattle.std.specs.Cmp.{unsigned_Decides, below_irrefl, below_chain}
use mathlib.Core.Path.{refl}
use native.Mathlib.Nat.{le_antisymm}
use borrow.Author.Tests.{ltb-true, ltb-false, lt-ltb}
use Rattle.keyed_table.specs.Orders.{IsSorting}

pub numbers_sorted : IsSorting nat_eq nat_lt
numbers_sorted = record {
  itself = λ a. (unsigned_Decides a a).1 refl;
  equal = λ a b e. (unsigned_Decides a b).0 e;
  apart = λ a. never (nat_lt a a) a refl;
  onward = λ a b c p q. lt-ltb a c (below_chain a b c (ltb-true a b p) (ltb-true b c q));
  either = λ a b p q. le_antisymm (ltb-false b a q) (ltb-false a b p);
} where
  never : (t : Bool) (a : ℕ) → nat_lt a a ≡ t → t ≡ false
  never false a e = refl
  never true a e = absurd (below_irrefl a (ltb-true a a e))
