-- Whether two tokens are the same, and whether one is among others.
use Rattle.std.proofs.Common.{◌≡◌, ◌≢◌, ◌⊎◌, inl, inr, Bool, true, false, List, refl}
use Rattle.std.specs.Prelude.{Contains}
use Rattle.std.proofs.lemmas.Map.Views.{Contains-from_any}
use Rattle.heat_plan.specs.declared.token.Token.{Token}
use Rattle.provider.specs.Same.{same_token}
use Rattle.provider.proofs.Sames.{same_token-same, same_token-true}
use Rattle.headline_reader.specs.Called.{is_among}
use Rattle.headline_reader.proofs.Members.{any_passes}

pub token_or_not : (a b : Token) → (a ≡ b) ⊎ (a ≢ b)
token_or_not a b = by (same_token a b) refl where
  by : (x : Bool) → same_token a b ≡ x → (a ≡ b) ⊎ (a ≢ b)
  by true e = inl (same_token-true a b e)
  by false e = inr (λ is. let t : same_token a b ≡ true = rw is (same_token-same b) in cc)

pub among : (t : Token) (tokens : List Token) → is_among t tokens ≡ true → Contains tokens t
among t tokens is = Contains-from_any same_token-true t tokens is

pub not_among : (t : Token) (tokens : List Token) → (Contains tokens t → ⊥) → is_among t tokens ≡ false
not_among t tokens none = by (is_among t tokens) refl where
  by : (x : Bool) → is_among t tokens ≡ x → is_among t tokens ≡ false
  by true e = absurd (none (among t tokens e))
  by false e = e

pub not_there : (t : Token) (tokens : List Token) → is_among t tokens ≡ false → Contains tokens t → ⊥
not_there t tokens is there = let e : is_among t tokens ≡ true = any_passes (same_token t) tokens t there (same_token-same t) in cc
