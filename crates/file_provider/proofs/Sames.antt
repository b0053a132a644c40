-- A test that is true exactly where two maps are equal is the test of sameness.
use Rattle.std.proofs.Common.{◌≡◌, ◌↔◌, Bool, true, false, refl, subst, sym}
use Rattle.std.specs.Prelude.{IsTrue}
use Rattle.heat_value.specs.Data.{Members}
use Rattle.provider.specs.Same.{same_members}
use Rattle.provider.proofs.Sames.{same_members-same, same_members-other}

pub decided : (b : Bool) (old new : Members) → (IsTrue b ↔ (old ≡ new)) → b ≡ same_members old new
decided true old new h = let e : old ≡ new = h.0 refl in subst (λ (m : Members). true ≡ same_members old m) e (sym (same_members-same old))
decided false old new h = sym (same_members-other old new (λ e. let is = h.1 e in cc))
