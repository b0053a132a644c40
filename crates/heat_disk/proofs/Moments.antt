-- How a run of disk calls goes on, for those who build on a disk.
use Rattle.std.proofs.Common.{inl, inr, ⊎_elim, arith}
use Rattle.heat_disk.specs.Halves.{Pair}
use Rattle.heat_disk.specs.Shown.{ShownDisk, Elapses, SameContent, IsLawful, LeavesOnly}

-- before the first call
pub started : (old : ShownDisk) (P : Pair → Type 0) → IsLawful old → ((c : Pair) → old.may_leave c → P c) → LeavesOnly old old P
started old P law here = record {
  later = omega arith;
  each = λ c left. here c (law.only_now c left);
  before = λ t c le left. inl left;
}

-- one call more, after which a crash leaves what has P
pub goes_on : (old mid new : ShownDisk) (P : Pair → Type 0) → LeavesOnly old mid P → Elapses mid new → ((c : Pair) → new.may_leave c → P c) → LeavesOnly old new P
goes_on old mid new P so_far time here = record {
  later = omega (arith, so_far.later, time.later);
  each = λ c left. ⊎_elim (so_far.each c) (here c) (time.nothing_else old.moment c so_far.later left);
  before = λ t c le left. ⊎_elim (so_far.before t c le) (λ now. inr (here c now)) (time.nothing_else t c (omega (arith, le, so_far.later)) left);
}

-- taking room is no moment
pub stays_same : (old new : ShownDisk) → SameContent old new → Elapses old new
stays_same old new same = record {
  later = omega (arith, same.moment);
  nothing_else = λ t c le left. inl ((same.since t c).0 left);
  keeps = λ t c le left. (same.since t c).1 left;
}

-- a run behind a run
pub joined : (old mid new : ShownDisk) (P Q : Pair → Type 0) → LeavesOnly old mid P → LeavesOnly mid new Q → ((c : Pair) → Q c → P c) → LeavesOnly old new P
joined old mid new P Q first second weaker = record {
  later = omega (arith, first.later, second.later);
  each = λ c left. ⊎_elim (first.each c) (λ q. weaker c q) (second.before old.moment c first.later left);
  before = λ t c le left. ⊎_elim (first.before t c le) (λ q. inr (weaker c q)) (second.before t c (omega (arith, le, first.later)) left);
}
