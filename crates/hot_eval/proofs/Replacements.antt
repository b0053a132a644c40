-- What the text functions of `hot_strings` answer is what the definitions say.
use Rattle.std.proofs.Common.{◌≡◌, ◌≢◌, ◌∙◌, ◌<◌, ◌&&◌, inl, inr, ℕ, List, []}
use Rattle.std.proofs.Common.{Bool, true, false, not, Some, None, Ok, IsTrue, length, refl, ap, sym, subst, arith}
use Rattle.std.proofs.lemmas.Bool.Decides.{Decides-eqb}
use Rattle.std.proofs.lemmas.List.Folds.{list_any-from_Any, list_any_none}
use Rattle.std.proofs.lemmas.List.{nil_from_length}
use Rattle.std.proofs.lemmas.Option.{slice_get_past}
use Rattle.std.proofs.lemmas.List.Elements.{All-nil, All-cons}
use Rattle.std.proofs.lemmas.Map.Text.{is_eq-slice_cmp}
use Rattle.std.proofs.lemmas.Slice.Eq.{bytes_eq-Decides}
use Rattle.std.specs.Cmp.Lexicographic.{slice_cmp}
use Rattle.std.specs.List.{All, AllByRecursion}
use Rattle.std.specs.List.Sorted.{IsStrictlySortedBy}
use Rattle.std.specs.Ordering.{nat_cmp, is_eq}
use Rattle.std.specs.Str.{bytes_eq}
use Rattle.std.specs.declared.cmp.Ordering.TheVariants.{Less}
use Rattle.heat_value.specs.Coercion.{coerced}
use Rattle.heat_value.specs.Data.{Members, no_members, member, keys_of, Rises}
use Rattle.std.specs.Bool.{nat_le, if◌then◌else◌}
use Rattle.heat_value.specs.Data.{Data, words, items}
use Rattle.hot_strings.proofs.AnswerLemmas.{cuts-split}
use Rattle.hot_strings.specs.Answers.{is_part, HasAnswer}
use Rattle.hot_strings.specs.Pieces.{Params, AreDistinct, IsReplaced, HasEmptyKey, HasNoEmptyKey, LacksSomeKey, HasEveryKey, replaced}
use Rattle.hot_strings.specs.Replacing.{IsReplaceFault}
use Rattle.hot_strings.specs.Size.{IsTooLong}
use Rattle.hot_strings.specs.Split.{Asked, all, one, unfit, texts, IsSplitFault}
use Rattle.hot_strings.specs.declared.fault.StringFault.{StringFault}
use Rattle.hot_strings.specs.declared.fault.StringFault.TheVariants as text
use Rattle.hot_eval.specs.Answers.{code_of, IsFaultOf}
use Rattle.eval_words.specs.Faults.{of_text_function}
use Rattle.eval_words.specs.Outcomes.{size}
use Rattle.eval_words.specs.Texts.{is_empty, split_asked, has_empty_key, lacks_some_key, put_into, params_of}
use Rattle.eval_words.specs.declared.code.FaultCode.TheVariants.{F06}
use Rattle.hot_eval.proofs.Contained.{is_part-found}

-- ---- lengths

flag_false : (t : Bool) → (t ≡ true → ⊥) → t ≡ false
flag_false true h = absurd (h refl)
flag_false false h = refl

pub is_empty-some : (s : List ℕ) → s ≢ [] → is_empty s ≡ false
is_empty-some s some = flag_false (is_empty s) (λ e. some (nil_from_length s ((Decides-eqb (length s) 0).0 e)))

pub is_empty-none : (s : List ℕ) → s ≡ [] → is_empty s ≡ true
is_empty-none s e = ap is_empty e

too_large : (n m : ℕ) → m < n → nat_le n m ≡ false
too_large n m l = grind arith

-- what is too long is no result
pub code_of-long : (d : Data) → IsTooLong d → code_of (Ok d) ≡ Some F06
code_of-long d long = go (nat_le (size d) 1048576) _ (too_large (size d) 1048576 long)
  where
    go : (a b : Bool) → a ≡ false → (if a && b then None else Some F06) ≡ Some F06
    go true b e = cc
    go false b e = refl

-- ---- str_split

-- why a text isn't split
pub split_fault : (e : StringFault) (a : Asked) (d s : List ℕ) → IsSplitFault e d s a
    → IsFaultOf (of_text_function e) (split_asked a d s)
split_fault text.F02 all d s (inl h) = cc
split_fault text.F02 all d s (inr h) = absurd h.1
split_fault text.F02 (one i) d s (inl h) = cc
split_fault text.F02 (one i) d s (inr (some, (ps, split, short))) =
    rw (is_empty-some d some, cuts-split d s ps some split, slice_get_past ps i short) refl
split_fault text.F02 unfit d s h = refl
split_fault text.F03 all d s (asked, none) = rw (is_empty-none d none) refl
split_fault text.F03 (one i) d s (asked, none) = rw (is_empty-none d none) refl
split_fault text.F03 unfit d s (asked, none) = absurd (asked refl)
split_fault text.F04 a d s h = absurd h
split_fault text.F06 all d s (asked, some, (v, (ps, split, is), long)) =
    rw (is_empty-some d some, cuts-split d s ps some split) (code_of-long (items (texts ps)) (subst IsTooLong is long))
split_fault text.F06 (one i) d s (asked, some, (v, (ps, p, split, at, is), long)) =
    rw (is_empty-some d some, cuts-split d s ps some split, at) (code_of-long (words p) (subst IsTooLong is long))
split_fault text.F06 unfit d s h = absurd (h.0 refl)
split_fault text.Memory a d s h = tt

-- ---- str_replace

has_empty_key-some : (params : Params) → HasEmptyKey params → has_empty_key params ≡ true
has_empty_key-some params (k, p, l, at, e) =
    list_any-from_Any (λ p. is_empty p.0) params (k, p, l, at, is_empty-none _ e)

has_empty_key-none : (params : Params) → HasNoEmptyKey params → has_empty_key params ≡ false
has_empty_key-none params none =
    list_any_none (λ p. is_empty p.0) params (λ k d l. is_empty-some _ (none k d l))

lacks_some_key-some : (params : Params) (s : List ℕ) → LacksSomeKey params s → lacks_some_key params s ≡ true
lacks_some_key-some params s (k, p, l, at, lacks) =
    list_any-from_Any (λ p. not (is_part p.0 s)) params (k, p, l, at, ap not (sym (is_part-found p.0 s false lacks)))

lacks_some_key-none : (params : Params) (s : List ℕ) → HasEveryKey params s → lacks_some_key params s ≡ false
lacks_some_key-none params s every =
    list_any_none (λ p. not (is_part p.0 s)) params (λ k d l. ap not (sym (is_part-found _ s true (every k d l))))

strict_holds : (params : Params) (s : List ℕ) (strict : Bool) → (IsTrue strict → HasEveryKey params s)
    → (strict && lacks_some_key params s) ≡ false
strict_holds params s true every = lacks_some_key-none params s (every refl)
strict_holds params s false every = refl

-- why the keys' values aren't put in
pub replace_fault : (e : StringFault) (params : Params) (s : List ℕ) (strict : Bool) → IsReplaceFault e params s strict
    → (HasNoEmptyKey params → HasAnswer params s) → IsFaultOf (of_text_function e) (put_into strict params s)
replace_fault text.F02 params s strict h answer = absurd h
replace_fault text.F03 params s strict h answer = rw (has_empty_key-some params h) refl
replace_fault text.F04 params s strict (some, is, lacks) answer =
    rw (has_empty_key-none params some, is, lacks_some_key-some params s lacks) refl
replace_fault text.F06 params s strict (some, every, (r, (ps, pieces, is), long)) answer =
    rw (has_empty_key-none params some, strict_holds params s strict every, answer some ps pieces)
    (code_of-long (words (replaced ps)) (subst (λ (t : List ℕ). IsTooLong (words t)) is long))
replace_fault text.Memory params s strict h answer = tt

-- what stands in their place
pub replace_answer : (params : Params) (s t : List ℕ) (strict : Bool) → IsReplaced params s t → HasNoEmptyKey params
    → (IsTrue strict → HasEveryKey params s) → (HasNoEmptyKey params → HasAnswer params s)
    → put_into strict params s ≡ Ok (words t)
replace_answer params s t strict (ps, pieces, is) some every answer =
    rw (has_empty_key-none params some, strict_holds params s strict every, answer some ps pieces, is) refl

-- ---- keys that rise

keys_apart : (k : List ℕ) (ms : Members) → AllByRecursion (λ y. slice_cmp nat_cmp k y ≡ Less) (keys_of ms)
    → All (λ q. q.0 ≢ k) (params_of ms)
keys_apart k no_members h = All-nil (λ q. q.0 ≢ k)
keys_apart k (member l d ms) h =
    All-cons (λ q. q.0 ≢ k) (l, coerced d) (params_of ms)
    (λ e. (
    let same : bytes_eq k l ≡ true = (bytes_eq-Decides k l).1 (sym e) in
    let other : false ≡ bytes_eq k l = ap is_eq (sym h.0) ∙ is_eq-slice_cmp k l in
    cc
    ))
    (keys_apart k ms h.1)

-- the keys of a map with their texts are distinct
pub distinct_params : (ms : Members) → Rises ms → AreDistinct (params_of ms)
unfolding IsStrictlySortedBy
distinct_params no_members h = tt
distinct_params (member k d ms) h = (keys_apart k ms h.0, distinct_params ms h.1)
