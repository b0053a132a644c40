-- No LF stands within a body.
use Rattle.std.proofs.Common.{◌≡◌, ◌∙◌, ℕ, zero, suc, pos, ◌+◌, ◌-◌, ◌≤◌, ◌/◌, ◌%◌, List, [], ◌∷◌, ◌++◌, ◌==◌, ◌||◌, length, replicate, Bool, true, false, nat_lt, codes, decimal, refl, sym, ap, subst, arith, if◌then◌else◌}
use Rattle.std.specs.Str.Parse.{AllDigits}
use Rattle.std.proofs.lemmas.Fmt.{decimal_is_IsNumeral}
use Rattle.std.proofs.lemmas.Str.Parse.{digit_from_value}
use Rattle.json.specs.Print.{escape_byte, quoted}
use Rattle.serde_json.specs.Written.{comma_if}
use Rattle.heat_value.specs.Compact.{compact, fields_text}
use Rattle.heat_value.specs.Data.{whole, words, fields, Members, no_members, member}
use Rattle.script_generator.specs.Resources.{name_of, size_of, zone_of, properties_of, resource_of, resources_from}
use Rattle.script_generator.specs.Script.{body_of, lines_of, has_lf, AreSoMany}
use Rattle.script_generator.specs.Texts.{need_text, member_text}
use Rattle.script_generator.specs.declared.body.Body.{Body}
use Rattle.script_generator.specs.declared.body.Body.TheVariants.{First, Second}
use Rattle.script_generator.proofs.Quotes.{quoted_name}
use Rattle.script_generator.proofs.Pieces.{parts_text, resource_parts, body_parts, members_from}

-- no LF stands in it
abbrev Clear : List ℕ → Type 0
Clear s = has_lf s ≡ false

-- where neither of two holds, neither holds of the first and what the second rules out
neither : (here rest all : Bool) → (rest ≡ false → all ≡ false) → (here || rest) ≡ false → (here || all) ≡ false
neither true rest all so one = one
neither false rest all so one = so one

-- one text behind another
both : (s t : List ℕ) → Clear s → Clear t → Clear (s ++ t)
both [] t one two = two
both (b ∷ s) t one two = neither (b == 10) (has_lf s) (has_lf (s ++ t)) (λ rest. both s t rest two) one

in_digits : (ds : List ℕ) → AllDigits 10 ds → Clear ds
in_digits [] all = refl
in_digits (d ∷ ds) all =
    let digit = digit_from_value d all.0 in
    let apart : (d == 10) ≡ false = grind arith in
    ap (λ here. here || has_lf ds) apart ∙ in_digits ds all.1

in_decimal : (n : ℕ) → n ≤ 10000 → Clear (decimal n)
in_decimal n small = in_digits (decimal n) (decimal_is_IsNumeral n (omega arith)).0.1

in_zeros : (k : ℕ) → Clear (replicate k 48)
in_zeros zero = refl
in_zeros (suc k) = in_zeros k

in_name : (i : ℕ) → i ≤ 10000 → Clear (quoted (name_of i))
in_name i small =
    let zeros : List ℕ = replicate (4 - length (decimal i)) 48 in
    subst Clear (sym (quoted_name i (omega arith)))
    (both (zeros ++ decimal i) (34 ∷ []) (both zeros (decimal i) (in_zeros (4 - length (decimal i))) (in_decimal i small)) refl)

in_zone : (zoned : Bool) → Clear (fields_text true (if zoned then member (codes "zone") (words (codes "z")) no_members else no_members))
unfolding escape_byte
in_zone true = refl
in_zone false = refl

-- a size with what stands behind it
in_sized : (size : ℕ) (zone : Members) → size ≤ 10000 → Clear (fields_text true zone)
    → Clear (compact (fields (member (codes "size") (whole (pos size)) zone)))
unfolding escape_byte
in_sized size zone small behind = both (decimal size) (fields_text true zone) (in_decimal size small) behind

in_properties : (body : Body) (i : ℕ) → i ≤ 500 → Clear (compact (fields (properties_of body i)))
in_properties First i small = in_sized i no_members (omega arith) refl
in_properties Second i small = in_sized (size_of Second i) (zone_of Second i) (raised (i % 3 == 0)) (in_zone (i % 7 == 0))
  where
    raised : (divides : Bool) → (if divides then i + 1 else i) ≤ 10000
    raised true = omega arith
    raised false = omega arith

in_need : (i : ℕ) → i ≤ 500 → Clear (need_text i)
unfolding escape_byte
in_need i small = from (nat_lt 1 i)
  where
    name : List ℕ
    name = quoted (name_of (i / 2))

    from : (needs : Bool) → Clear (if needs then quoted (codes "depends_on") ++ 58 ∷ name ++ 44 ∷ [] else [])
    from true = both name (44 ∷ []) (in_name (i / 2) (omega arith)) refl
    from false = refl

in_resource : (body : Body) (i : ℕ) → i ≤ 500 → Clear (compact (resource_of body i))
in_resource body i small =
    subst Clear (sym (resource_parts body i))
    (both (need_text i) (parts_text body i) (in_need i small)
    (both (compact (fields (properties_of body i))) (codes ",\"type\":\"Test::Box\"}") (in_properties body i small) refl))

in_member : (body : Body) (i : ℕ) → i ≤ 500 → Clear (member_text body i)
in_member body i small =
    both (comma_if (nat_lt 1 i)) (quoted (name_of i) ++ 58 ∷ compact (resource_of body i)) (in_comma (nat_lt 1 i))
    (both (quoted (name_of i)) (58 ∷ compact (resource_of body i)) (in_name i (omega arith)) (in_resource body i small))
  where
    in_comma : (later : Bool) → Clear (comma_if later)
    in_comma true = refl
    in_comma false = refl

in_resources : (body : Body) (i k : ℕ) → 1 ≤ i → i + k ≤ 501 → Clear (fields_text (nat_lt 1 i) (resources_from body i k))
in_resources body i zero some small = refl
in_resources body i (suc k) some small =
    let later : nat_lt 1 (suc i) ≡ true = grind arith in
    subst Clear (sym (members_from body i k))
    (both (member_text body i) (fields_text true (resources_from body (suc i) k)) (in_member body i (omega arith))
    (subst (λ (b : Bool). Clear (fields_text b (resources_from body (suc i) k))) later (in_resources body (suc i) k (omega arith) (omega arith))))

in_body : (body : Body) (n : ℕ) → n ≤ 500 → Clear (compact (body_of body n))
in_body body n small =
    subst Clear (sym (body_parts body n))
    (both (compact (fields (resources_from body 1 n))) (codes "}}") (in_resources body 1 n (omega arith) (omega arith)) refl)

-- the lines of a script
pub eight_clear_lines : (n : ℕ) → n ≤ 500 → AreSoMany 8 (lines_of n)
eight_clear_lines n small =
    let first : Clear (compact (body_of First n)) = in_body First n small in
    let second : Clear (compact (body_of Second n)) = in_body Second n small in
    (refl, (first, (refl, (second, (refl, (first, (refl, (refl, (refl, tt)))))))))
