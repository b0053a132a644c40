-- Objects that are arguments have more keys than one, and no `permutations`.
use Rattle.std.proofs.Common.{◌≡◌, List, [], ◌∷◌, ℕ, Bool, true, false, ◌||◌, ◌&&◌, None, refl, sym, subst}
use Rattle.std.proofs.Common.{bytes_eq, codes}
use Rattle.std.proofs.lemmas.Slice.Eq.{bytes_eq-Decides}
use Rattle.heat_value.specs.Data.{Data, null, flag, whole, words, items, fields, Members, no_members, member}
use Rattle.hot_forms.specs.Checks.{is_among}
use Rattle.hot_forms.specs.Shapes.{members_in, is_object}
use Rattle.hot_functions.specs.Forms.{lone, stands, are_among, holds_object, has_form, maps_form, is_replacement}
use Rattle.hot_functions.specs.Forms.{is_repetition}
use Rattle.hot_functions.specs.declared.form.Form.{Form}
use Rattle.template_laws.proofs.Forms.{left_holds, right_holds}

-- the only key is the one that stands
only_key : (k l : List ℕ) (d : Data) → stands k (member l d no_members) ≡ true → l ≡ k
only_key k l d is = by (bytes_eq l k) refl is
  where
    by : (b : Bool) → bytes_eq l k ≡ b → (b || false) ≡ true → l ≡ k
    by true same is = (bytes_eq-Decides l k).0 same
    by false same is = cc

-- a key with an object stands
holds_stands : (k : List ℕ) (ms : Members) → holds_object k ms ≡ true → stands k ms ≡ true
holds_stands k no_members is = cc
holds_stands k (member l d ms) is = by (bytes_eq l k) (is_object d) is (holds_stands k ms)
  where
    by : (b o : Bool) → ((b && o) || holds_object k ms) ≡ true → (holds_object k ms ≡ true → stands k ms ≡ true)
        → (b || stands k ms) ≡ true
    by true o is later = refl
    by false o is later = later is

-- where two keys stand there are more than one
many : (k m : List ℕ) → bytes_eq k m ≡ false → bytes_eq k k ≡ true → (ms : Members) → stands k ms ≡ true
    → stands m ms ≡ true → lone ms ≡ None
many k m apart same no_members first second = refl
many k m apart same (member l d no_members) first second = absurd (by equal)
  where
    equal : bytes_eq k m ≡ true
    equal =
        subst (λ x. bytes_eq k x ≡ true) (only_key m l d second)
        (subst (λ x. bytes_eq k x ≡ true) (sym (only_key k l d first)) same)

    by : bytes_eq k m ≡ true → ⊥
    by is = cc
many k m apart same (member l d (member n e ms)) first second = refl

-- of three tests in a row the first, the second, the third
module _ (a b c : Bool) (is : (a && b && c) ≡ true) where
  first_of_three : a ≡ true
  first_of_three = left_holds a b (left_holds (a && b) c is)

  second_of_three : b ≡ true
  second_of_three = right_holds a b (left_holds (a && b) c is)

  third_of_three : c ≡ true
  third_of_three = right_holds (a && b) c is

module _ (ms : Members) where
  replacement_known : Bool
  replacement_known = are_among (codes "params" ∷ codes "template" ∷ []) ms

  pub replacement_is_many : is_replacement ms ≡ true → lone ms ≡ None
  unfolding replacement_known
  replacement_is_many is =
      many (codes "params") (codes "template") refl refl ms
      (second_of_three replacement_known (stands (codes "params") ms) (stands (codes "template") ms) is)
      (third_of_three replacement_known (stands (codes "params") ms) (stands (codes "template") ms) is)

  repetition_known : Bool
  repetition_known = are_among (codes "for_each" ∷ codes "permutations" ∷ codes "template" ∷ []) ms

  pub repetition_is_many : is_repetition ms ≡ true → lone ms ≡ None
  unfolding repetition_known
  repetition_is_many is =
      many (codes "template") (codes "for_each") refl refl ms
      (second_of_three repetition_known (stands (codes "template") ms) (holds_object (codes "for_each") ms) is)
      (holds_stands (codes "for_each") ms
      (third_of_three repetition_known (stands (codes "template") ms) (holds_object (codes "for_each") ms) is))

-- a key that isn't among the known ones doesn't stand
among_only : (known : List (List ℕ)) (k : List ℕ) → is_among known k ≡ false → (ms : Members)
    → are_among known ms ≡ true → stands k ms ≡ false
among_only known k out no_members is = refl
among_only known k out (member l d ms) is =
    by (bytes_eq l k) refl (among_only known k out ms (right_holds (is_among known l) (are_among known ms) is))
  where
    here : is_among known l ≡ true
    here = left_holds (is_among known l) (are_among known ms) is

    by : (b : Bool) → bytes_eq l k ≡ b → stands k ms ≡ false → (b || stands k ms) ≡ false
    by true same later = absurd (both (subst (λ x. is_among known x ≡ true) ((bytes_eq-Decides l k).0 same) here))
      where
        both : is_among known k ≡ true → ⊥
        both is = cc
    by false same later = later

pub replacement_permutes_not : (ms : Members) → is_replacement ms ≡ true → stands (codes "permutations") ms ≡ false
replacement_permutes_not ms is =
    among_only (codes "params" ∷ codes "template" ∷ []) (codes "permutations") refl ms
    (first_of_three (are_among (codes "params" ∷ codes "template" ∷ []) ms) (stands (codes "params") ms)
    (stands (codes "template") ms) is)

-- no `permutations` in an argument, if none stands in one that is an object
pub permutes_not : (g : Form) (d : Data) → has_form g d ≡ true
    → ((ms : Members) → maps_form g ms ≡ true → stands (codes "permutations") ms ≡ false)
    → stands (codes "permutations") (members_in d) ≡ false
permutes_not g null has objects = refl
permutes_not g (flag b) has objects = refl
permutes_not g (whole z) has objects = refl
permutes_not g (words s) has objects = refl
permutes_not g (items ns) has objects = refl
permutes_not g (fields ms) has objects = objects ms has
