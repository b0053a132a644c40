use Rattle.std.proofs.Common.{◌≡◌, All, length}
use Rattle.hot_admit.proofs.waiting.Waiting.new.Given as goal

-- so many lists are there, each of them empty
abbrev pub invariant-loop-place : goal.invariant-loop-place
invariant-loop-place l = All (λ v. length v.items ≡ 0) l.lists.items × (length l.lists.items ≡ l._place)
