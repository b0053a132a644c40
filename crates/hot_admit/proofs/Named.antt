-- A text that passes the test of names is a resource's name.
use Rattle.std.proofs.Common.{◌≡◌, ◌⊎◌, ◌&&◌, ◌||◌, ◌==◌, ℕ, List, [], ◌∷◌, Bool, true, false}
use Rattle.std.proofs.Common.{All, length}
use Rattle.std.proofs.Common.{nat_lt, nat_le, inl, inr, refl}
use Rattle.std.specs.Char.{is_ascii_alphanumeric, IsAsciiAlphanumeric}
use Rattle.std.specs.Int.{is_in_range, IsInRange}
use Rattle.std.specs.List.{list_all}
use Rattle.std.proofs.lemmas.Bool.{ltb-true, leb-true, eqb-true}
use Rattle.std.proofs.lemmas.List.Elements.{All-nil, All-cons}
use Rattle.heat_plan.specs.Names.{IsNameByte, IsResName}
use Rattle.hot_forms.specs.Names.{is_name_byte, is_name}

both : (a b : Bool) → (a && b) ≡ true → (a ≡ true) × (b ≡ true)
both true b e = (refl, e)
both false b e = cc

either : (a b : Bool) → (a || b) ≡ true → (a ≡ true) ⊎ (b ≡ true)
either true b e = inl refl
either false b e = inr e

in_range : (lo hi c : ℕ) → is_in_range lo hi c ≡ true → IsInRange lo hi c
in_range lo hi c e =
    let two = both (nat_le lo c) (nat_le c hi) e in
    (leb-true lo c two.0, leb-true c hi two.1)

alphanumeric : (c : ℕ) → is_ascii_alphanumeric c ≡ true → IsAsciiAlphanumeric c
alphanumeric c e = by (either (is_in_range 48 57 c || is_in_range 65 90 c) (is_in_range 97 122 c) e)
  where
    first : (is_in_range 48 57 c ≡ true) ⊎ (is_in_range 65 90 c ≡ true) → IsInRange 48 57 c ⊎ IsInRange 65 90 c
    first (inl h) = inl (in_range 48 57 c h)
    first (inr h) = inr (in_range 65 90 c h)

    by : ((is_in_range 48 57 c || is_in_range 65 90 c) ≡ true) ⊎ (is_in_range 97 122 c ≡ true) → IsAsciiAlphanumeric c
    by (inl h) = inl (first (either (is_in_range 48 57 c) (is_in_range 65 90 c) h))
    by (inr h) = inr (in_range 97 122 c h)

name_byte : (b : ℕ) → is_name_byte b ≡ true → IsNameByte b
name_byte b e = by (either ((is_ascii_alphanumeric b || b == 95) || b == 46) (b == 45) e)
  where
    first : (is_ascii_alphanumeric b ≡ true) ⊎ (b == 95 ≡ true) → IsNameByte b
    first (inl h) = inl (alphanumeric b h)
    first (inr h) = inr (inl (eqb-true b 95 h))

    second : ((is_ascii_alphanumeric b || b == 95) ≡ true) ⊎ (b == 46 ≡ true) → IsNameByte b
    second (inl h) = first (either (is_ascii_alphanumeric b) (b == 95) h)
    second (inr h) = inr (inr (inl (eqb-true b 46 h)))

    by : (((is_ascii_alphanumeric b || b == 95) || b == 46) ≡ true) ⊎ (b == 45 ≡ true) → IsNameByte b
    by (inl h) = second (either (is_ascii_alphanumeric b || b == 95) (b == 46) h)
    by (inr h) = inr (inr (inr (eqb-true b 45 h)))

name_bytes : (s : List ℕ) → list_all is_name_byte s ≡ true → All IsNameByte s
name_bytes [] e = All-nil IsNameByte
name_bytes (b ∷ s) e =
    let two = both (is_name_byte b) (list_all is_name_byte s) e in
    All-cons IsNameByte b s (name_byte b two.0) (name_bytes s two.1)

pub named : (s : List ℕ) → is_name s ≡ true → IsResName s
named s e =
    let whole = both (nat_lt 0 (length s) && nat_le (length s) 255) (list_all is_name_byte s) e in
    let count = both (nat_lt 0 (length s)) (nat_le (length s) 255) whole.0 in
    record {
      some = ltb-true 0 (length s) count.0;
      few = leb-true (length s) 255 count.1;
      each = name_bytes s whole.1;
    }
