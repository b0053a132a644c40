-- That numbers, flags, bytes, pairs, options and lists have one spelling each.
use Rattle.std.specs.Prelude.{◌≡◌, ℕ, List, [], ◌∷◌, ◌++◌, length, All, Bool, true}
use Rattle.std.specs.Prelude.{false, Option, Some, None, refl}
use Rattle.std.proofs.Common.{sym, ap, ◌∙◌, append_assoc, take, drop, arith}
use Rattle.std.specs.List.{flat_map}
use Rattle.std.specs.Int.{w64, to_be_bytes, from_be_bytes}
use Rattle.std.proofs.lemmas.List.{take_at, drop_at}
use Rattle.std.proofs.lemmas.List.Elements.{All-head, All-tail}
use Rattle.std.proofs.lemmas.Nat.{from_be_bytes-to_be_bytes_8}
use Rattle.plan_codec.specs.Spellings.{IsUnique, Regroups}
use Rattle.heat_plan.specs.Names.{IsStackName, IsResName}
use Rattle.heat_plan.specs.Numbers.{IsNumber}
use Rattle.plan_codec.specs.Numbers.{spelled_number, spelled_flag, spelled_bytes, IsWord, IsHalfWord, IsAny, IsShort}
use Rattle.plan_codec.specs.Numbers.{IsText}
use Rattle.plan_codec.specs.Parts.{spelled_pair, AreBoth, spelled_option, IsIfSome, spelled_list, AreAll}

-- what asks for more is as unique
pub narrowed : {A : Type 0} {spelled : A → List ℕ} {proper less : A → Type 0} → IsUnique spelled proper
    → ((x : A) → less x → proper x) → IsUnique spelled less
narrowed u more = record { one = λ x y r q p o e. u.one x y r q (more x p) (more y o) e }

-- two lists in parts of one length
parts : (a b r q : List ℕ) (n : ℕ) → length a ≡ n → length b ≡ n → a ++ r ≡ b ++ q → (a ≡ b) × (r ≡ q)
parts a b r q n la lb e = (
  sym (take_at a r n la) ∙ ap (take n) e ∙ take_at b q n lb,
  sym (drop_at a r n la) ∙ ap (drop n) e ∙ drop_at b q
      n lb,
)

pub number_unique : IsUnique spelled_number IsWord
unfolding spelled_number
number_unique = record {
  one = λ x y r q p o e.
      let both = parts (to_be_bytes w64 x) (to_be_bytes w64 y) r q 8 refl refl e in
      (sym (from_be_bytes-to_be_bytes_8 x p) ∙ ap (from_be_bytes w64) both.0 ∙ from_be_bytes-to_be_bytes_8 y o, both.1);
}

flags : (x y : Bool) (r q : List ℕ) → spelled_flag x ++ r ≡ spelled_flag y ++ q → (x ≡ y) × (r ≡ q)
flags false false r q e = (refl, cc)
flags false true r q e = absurd cc
flags true false r q e = absurd cc
flags true true r q e = (refl, cc)

pub flag_unique : IsUnique spelled_flag IsAny
flag_unique = record { one = λ x y r q p o e. flags x y r q e }

pub bytes_unique : IsUnique spelled_bytes IsShort
bytes_unique = record {
  one = λ x y r q p o e.
      let regrouped = sym (append_assoc (spelled_number (length x)) x r) ∙ e ∙ append_assoc
      (spelled_number (length y)) y q in
      let counted = number_unique.one (length x) (length y) (x ++ r) (y ++ q) p o regrouped in
      parts x y r q (length y) counted.0 refl counted.1;
}

-- narrower kinds of numbers and bytes
pub half_is_word : (n : ℕ) → IsHalfWord n → IsWord n
half_is_word n h = omega (arith, h)

pub drawn_is_word : (n : ℕ) → IsNumber n → IsWord n
drawn_is_word n h = omega (arith, h.1)

pub text_is_short : (s : List ℕ) → IsText s → IsShort s
text_is_short s h = h.0

pub resource_name_is_short : (s : List ℕ) → IsResName s → IsShort s
resource_name_is_short s h = omega (arith, h.few)

pub stack_name_is_short : (s : List ℕ) → IsStackName s → IsShort s
stack_name_is_short s h = omega (arith, h.name.few)

pub half_word_unique : IsUnique spelled_number IsHalfWord
half_word_unique = narrowed number_unique half_is_word

pub drawn_unique : IsUnique spelled_number IsNumber
drawn_unique = narrowed number_unique drawn_is_word

pub text_unique : IsUnique spelled_bytes IsText
text_unique = narrowed bytes_unique text_is_short

pub stack_name_unique : IsUnique spelled_bytes IsStackName
stack_name_unique = narrowed bytes_unique stack_name_is_short

pub resource_name_unique : IsUnique spelled_bytes IsResName
resource_name_unique = narrowed bytes_unique resource_name_is_short

pub pair_unique : {A B : Type 0} {first : A → List ℕ} {is_first : A → Type 0} {second : B → List ℕ}
    {is_second : B → Type 0} → IsUnique first is_first → IsUnique second is_second → IsUnique
    (spelled_pair first second) (AreBoth is_first is_second)
pair_unique {first = first} {second = second} u v = record {
  one = λ x y r q p o e.
      let regrouped = sym (append_assoc (first x.0) (second x.1) r) ∙ e ∙ append_assoc (first y.0) (second y.1) q in
      let a = u.one x.0 y.0 (second x.1 ++ r) (second y.1 ++ q) p.0 o.0 regrouped in
      let b = v.one x.1 y.1 r q p.1 o.1 a.1 in
      (λ i. (a.0 i, b.0 i), b.1);
}

module _ {A : Type 0} {spelled : A → List ℕ} {proper : A → Type 0} (u : IsUnique spelled proper) where
  options : (x y : Option A) (r q : List ℕ) → IsIfSome proper x → IsIfSome proper y → spelled_option spelled x ++ r
      ≡ spelled_option spelled y ++ q → (x ≡ y) × (r ≡ q)
  options None None r q p o e = (refl, cc)
  options None (Some y) r q p o e = absurd cc
  options (Some x) None r q p o e = absurd cc
  options (Some x) (Some y) r q p o e =
      let behind : spelled x ++ r ≡ spelled y ++ q = cc in
      let both = u.one x y r q p o behind in
      (ap Some both.0, both.1)

  pub option_unique : IsUnique (spelled_option spelled) (IsIfSome proper)
  option_unique = record { one = options }

  flats : (xs ys : List A) (r q : List ℕ) → length xs ≡ length ys → All proper xs → All proper ys → flat_map spelled
      xs ++ r ≡ flat_map spelled ys ++ q → (xs ≡ ys) × (r ≡ q)
  flats [] [] r q len p o e = (refl, e)
  flats [] (y ∷ ys) r q len p o e = absurd (omega (arith, len))
  flats (x ∷ xs) [] r q len p o e = absurd (omega (arith, len))
  flats (x ∷ xs) (y ∷ ys) r q len p o e =
      let regrouped = sym (append_assoc (spelled x) (flat_map spelled xs) r) ∙ e ∙ append_assoc (spelled y)
      (flat_map spelled ys) q in
      let first = u.one x y (flat_map spelled xs ++ r) (flat_map spelled ys ++ q) (All-head proper x xs p)
      (All-head proper y ys o) regrouped in
      let others = flats xs ys r q (omega (arith, len)) (All-tail proper x xs p) (All-tail proper y ys o) first.1 in
      (λ i. first.0 i ∷ others.0 i, others.1)

  pub list_unique : IsUnique (spelled_list spelled) (AreAll proper)
  list_unique = record {
    one = λ x y r q p o e.
        let regrouped = sym (append_assoc (spelled_number (length x)) (flat_map spelled x) r) ∙ e ∙ append_assoc
        (spelled_number (length y)) (flat_map spelled y) q in
        let counted = number_unique.one (length x) (length y) (flat_map spelled x ++ r) (flat_map spelled y ++ q)
        p.0 o.0 regrouped in
        flats x y r q counted.0 p.1 o.1 counted.1;
  }

pub regrouped_unique : {A B : Type 0} {spelled : A → List ℕ} {proper : A → Type 0} {spelled_as : B → List ℕ}
    {proper_as : B → Type 0} → Regroups spelled proper spelled_as proper_as → IsUnique spelled proper → IsUnique
    spelled_as proper_as
regrouped_unique g u = record {
  one = λ x y r q p o e.
      let regrouped = ap (λ (t : List ℕ). t ++ r) (sym (g.alike x)) ∙ e ∙ ap (λ (t : List ℕ). t ++ q) (g.alike y) in
      let both = u.one (g.from x) (g.from y) r q (g.gives x p) (g.gives y o) regrouped in
      (sym (g.again x) ∙ ap g.to both.0 ∙ g.again y, both.1);
}
