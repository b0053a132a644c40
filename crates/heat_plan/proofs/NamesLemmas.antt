-- Names are ASCII.
use Rattle.std.proofs.Common.{ℕ, List, ◌<◌, ◌≡◌, inl, inr, arith}
use Rattle.std.specs.Str.{IsUtf8}
use Rattle.std.proofs.lemmas.Str.{IsUtf8-from_ascii}
use Rattle.std.proofs.lemmas.Str.Ascii.{IsAscii-from_all}
use Rattle.heat_plan.specs.Names.{IsNameByte, IsResName}

name_byte_low : (b : ℕ) → IsNameByte b → b < 128
name_byte_low b (inl (inl (inl h))) = omega (arith, h.1)
name_byte_low b (inl (inl (inr h))) = omega (arith, h.1)
name_byte_low b (inl (inr h)) = omega (arith, h.1)
name_byte_low b (inr (inl h)) = omega arith
name_byte_low b (inr (inr (inl h))) = omega arith
name_byte_low b (inr (inr (inr h))) = omega arith

pub name_is_text : (name : List ℕ) → IsResName name → IsUtf8 name
name_is_text name is = IsUtf8-from_ascii name (IsAscii-from_all name (λ k d below. name_byte_low _ (is.each k d below)))

-- no name has a `/`
pub name_byte_apart : (b : ℕ) → IsNameByte b → b ≡ 47 → ⊥
name_byte_apart b (inl (inl (inl h))) e = omega (arith, h.0, h.1)
name_byte_apart b (inl (inl (inr h))) e = omega (arith, h.0, h.1)
name_byte_apart b (inl (inr h)) e = omega (arith, h.0, h.1)
name_byte_apart b (inr (inl h)) e = omega arith
name_byte_apart b (inr (inr (inl h))) e = omega arith
name_byte_apart b (inr (inr (inr h))) e = omega arith
