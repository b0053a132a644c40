-- Two tokens are the same or not.
use Rattle.std.proofs.Common.{inl, inr, refl}
use Rattle.std.specs.Prelude.{Bool, false, true, ◌≡◌, ◌≢◌, ◌⊎◌}
use Rattle.heat_plan.specs.declared.token.Token.{Token}
use Rattle.provider.proofs.Sames.{same_token-same, same_token-true}
use Rattle.provider.specs.Same.{same_token}

pub token_or_not : (a b : Token) → (a ≡ b) ⊎ (a ≢ b)
token_or_not a b = by (same_token a b) refl where
  by : (x : Bool) → same_token a b ≡ x → (a ≡ b) ⊎ (a ≢ b)
  by true e = inl (same_token-true a b e)
  by false e = inr (λ is. let t : same_token a b ≡ true = rw is (same_token-same b) in cc)
