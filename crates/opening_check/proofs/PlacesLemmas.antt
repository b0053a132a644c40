-- Places of tokens in a list, and of records in an index (`entered`, `listed_at`).
use Rattle.std.proofs.Common.{◌≡◌, ◌++◌, ◌∷◌, ◌+◌, ◌∙◌, ◌<◌, All, Bool, Bor, Contains, IfSome, length, get_or, ltb, ltb-true, ltb-false, List, None, Option, Some, [], false, true, ℕ, suc, zero, take, is_some, refl, sym, ap, subst, arith}
use Rattle.std.specs.Prelude.{cond, option_map, slice_get}
use Rattle.std.proofs.lemmas.Option.{slice_get_past, slice_get_read}
use Rattle.std.specs.List.{position_from}
use Rattle.heat_plan.specs.Tables.{at}
use Rattle.heat_plan.specs.declared.token.Token.{Token}
use Rattle.provider.specs.Same.{same_token}
use Rattle.provider.specs.declared.alive.Alive.{Alive}
use Rattle.provider.proofs.Sames.{same_token-same, same_token-true}
use Rattle.opening_check.specs.Places.{IsIndex, first_place, or_else, place_in, token_of_listed, tokens_of}
use Rattle.opening_check.specs.Rows.{listed_of}
use Rattle.opening_check.specs.declared.listed.Listed.{Listed}

-- ---- the list

none_is_some : {A : Type 0} {x : A} → None ≡ Some x → ⊥
none_is_some e = cc

abbrev place_from : List Token → ℕ → Token → Option ℕ
place_from tokens i t = position_from (λ (s : Token). same_token s t) i tokens

grows : (tokens : List Token) (k i : ℕ) (x t : Token) → slice_get tokens k ≡ Some x
    → place_from (take (suc k) tokens) i t ≡ or_else (place_from (take k tokens) i t) (same_token x t) (i + k)
grows [] k i x t is = cc
grows (y ∷ ys) zero i x t is = by (same_token y t) refl where
  same : y ≡ x
  same = cc

  by : (b : Bool) → same_token y t ≡ b → cond (same_token y t) (Some i) None ≡ or_else None (same_token x t) (i + 0)
  by true e = let f : same_token x t ≡ true = subst (λ (z : Token). same_token z t ≡ true) same e in rw (e, f) (ap Some (omega arith))
  by false e = let f : same_token x t ≡ false = subst (λ (z : Token). same_token z t ≡ false) same e in rw (e, f) refl
grows (y ∷ ys) (suc k) i x t is = by (same_token y t) (grows ys k (i + 1) x t is) where
  by : (b : Bool) → place_from (take (suc k) ys) (i + 1) t ≡ or_else (place_from (take k ys) (i + 1) t) (same_token x t) (i + 1 + k)
      → cond b (Some i) (place_from (take (suc k) ys) (i + 1) t) ≡ or_else (cond b (Some i) (place_from (take k ys) (i + 1) t)) (same_token x t) (i + suc k)
  by true e = refl
  by false e = e ∙ ap (or_else (place_from (take k ys) (i + 1) t) (same_token x t)) (omega arith)

pub entered : (tokens : List Token) (k : ℕ) (x : Token) (old new : List Listed) → slice_get tokens k ≡ Some x
    → IsIndex (take k tokens) old → ((t : Token) → place_in new t ≡ or_else (place_in old t) (same_token x t) k)
    → IsIndex (take (k + 1) tokens) new
entered tokens k x old new is before now t =
    let from : k ≡ 0 + k = omega arith in
    let next : suc k ≡ k + 1 = omega arith in
    now t ∙ ap (λ p. or_else p (same_token x t) k) (before t)
    ∙ ap (or_else (first_place (take k tokens) t) (same_token x t)) from ∙ sym (grows tokens k 0 x t is)
    ∙ ap (λ n. first_place (take n tokens) t) next

found_from : (all : List Alive) (t : Token) (i p : ℕ) → place_from (tokens_of all) i t ≡ Some p
    → (q : ℕ) × (p ≡ i + q) × (slice_get all q ≡ listed_of all t)
found_from [] t i p e = absurd (none_is_some e)
found_from (a ∷ all) t i p e = by (same_token a.token t) e (found_from all t (i + 1) p) where
  by : (b : Bool) → cond b (Some i) (place_from (tokens_of all) (i + 1) t) ≡ Some p
      → (place_from (tokens_of all) (i + 1) t ≡ Some p → (q : ℕ) × (p ≡ i + 1 + q) × (slice_get all q ≡ listed_of all t))
      → (q : ℕ) × (p ≡ i + q) × (slice_get (a ∷ all) q ≡ cond b (Some a) (listed_of all t))
  by true is rest = let same : i ≡ p = cc in (0, omega (arith, same), refl)
  by false is rest = let (q, at, there) = rest is in (suc q, omega (arith, at), there)

-- a token that stands in the list has a place, and only one that does
lacks : (xs : List Token) (i k : ℕ) (t : Token) → k < length xs → get_or xs k t ≡ t → place_from xs i t ≡ None → ⊥
lacks [] i k t lt at none = omega (arith, lt)
lacks (x ∷ xs) i zero t lt at none =
    let same : same_token x t ≡ true = subst (λ (z : Token). same_token z t ≡ true) (sym at) (same_token-same t) in
    none_is_some (sym none ∙ ap (λ b. cond b (Some i) (place_from xs (i + 1) t)) same)
lacks (x ∷ xs) i (suc k) t lt at none = by (same_token x t) none (lacks xs (i + 1) k t (omega (arith, lt)) at) where
  by : (b : Bool) → cond b (Some i) (place_from xs (i + 1) t) ≡ None → (place_from xs (i + 1) t ≡ None → ⊥) → ⊥
  by true e rest = none_is_some (sym e)
  by false e rest = rest e

stands : (xs : List Token) (i p : ℕ) (t : Token) → place_from xs i t ≡ Some p → Contains xs t
stands [] i p t e = absurd (none_is_some e)
stands (x ∷ xs) i p t e = by (same_token x t) refl e (stands xs (i + 1) p t) where
  by : (b : Bool) → same_token x t ≡ b → cond b (Some i) (place_from xs (i + 1) t) ≡ Some p
      → (place_from xs (i + 1) t ≡ Some p → Contains xs t) → Contains (x ∷ xs) t
  by true is f rest = (0, omega arith, same_token-true x t is)
  by false is f rest = let (k, lt, at) = rest f in (suc k, omega (arith, lt), at)

missing_from : (all : List Alive) (t : Token) (i : ℕ) → place_from (tokens_of all) i t ≡ None → listed_of all t ≡ None
missing_from [] t i e = refl
missing_from (a ∷ all) t i e = by (same_token a.token t) e (missing_from all t (i + 1)) where
  by : (b : Bool) → cond b (Some i) (place_from (tokens_of all) (i + 1) t) ≡ None
      → (place_from (tokens_of all) (i + 1) t ≡ None → listed_of all t ≡ None) → cond b (Some a) (listed_of all t) ≡ None
  by true is rest = cc
  by false is rest = rest is

-- what stands at the place that the index gives
pub listed_at : (all : List Alive) (index : List Listed) (t : Token) (it : Listed) → IsIndex (tokens_of all) index
    → at same_token token_of_listed index t ≡ Some it → slice_get all it.place ≡ listed_of all t
listed_at all index t it is found =
    let place : first_place (tokens_of all) t ≡ Some it.place = sym (is t) ∙ ap (option_map (λ (l : Listed). l.place)) found in
    let (q, at, there) = found_from all t 0 it.place place in
    let same : q ≡ it.place = omega (arith, at) in
    subst (λ (n : ℕ). slice_get all n ≡ listed_of all t) same there

pub unlisted : (all : List Alive) (index : List Listed) (t : Token) → IsIndex (tokens_of all) index
    → at same_token token_of_listed index t ≡ None → listed_of all t ≡ None
unlisted all index t is none = missing_from all t 0 (sym (is t) ∙ ap (option_map (λ (l : Listed). l.place)) none)

-- ---- the index

pub none_in : (index : List Listed) → index ≡ [] → IsIndex [] index
unfolding at
none_in index is t = ap (λ (it : List Listed). place_in it t) is

pub token_at : (all : List Alive) (k : ℕ) (a : Alive) → slice_get all k ≡ Some a → slice_get (tokens_of all) k ≡ Some a.token
token_at [] k a e = absurd (none_is_some e)
token_at (b ∷ all) zero a e = let same : b ≡ a = cc in ap (λ (z : Alive). Some z.token) same
token_at (b ∷ all) (suc k) a e = token_at all k a e

pub unentered : (index : List Listed) (k : Token) (found : Option (Bor Listed))
    → option_map (λ (r : Bor Listed). r.now) found ≡ at same_token token_of_listed index k
    → is_some found ≡ false → at same_token token_of_listed index k ≡ None
unentered index k None e is = sym e
unentered index k (Some l) e is = cc

pub got : (all : List Alive) (p : ℕ) (r : Option (Bor Alive)) → is_some r ≡ ltb p (length all)
    → IfSome r (λ x. x.now ≡ get_or all p x.now) → option_map (λ (x : Bor Alive). x.now) r ≡ slice_get all p
got all p None e is = sym (slice_get_past all p (ltb-false p (length all) (sym e)))
got all p (Some x) e is = sym (slice_get_read all (length all) p x.now refl (ltb-true p (length all) (sym e)) is)

pub untrue : false ≡ true → ⊥
untrue h = cc

-- what is in the list is in its index
pub among : (tokens : List Token) (index : List Listed) (t : Token) (found : Option (Bor Listed)) → IsIndex tokens index
    → option_map (λ (r : Bor Listed). r.now) found ≡ at same_token token_of_listed index t
    → (is_some found ≡ true → Contains tokens t) × (Contains tokens t → is_some found ≡ true)
among tokens index t None is e =
    let none : first_place tokens t ≡ None = sym (is t) ∙ ap (option_map (λ (l : Listed). l.place)) (sym e) in
    (λ h. absurd (untrue h), λ there. absurd (lacks tokens 0 there.0 t there.1 there.2 none))
among tokens index t (Some l) is e =
    let place : first_place tokens t ≡ Some l.now.place = sym (is t) ∙ ap (option_map (λ (l : Listed). l.place)) (sym e) in
    (λ h. stands tokens 0 l.now.place t place, λ there. refl)

missed : {A : Type 0} (x : A) (rest : Option A) (b : Bool) → cond b (Some x) rest ≡ None → (b ≡ false) × (rest ≡ None)
missed x rest true e = absurd (none_is_some (sym e))
missed x rest false e = (refl, e)

pub all_apart : (index : List Listed) (k : Token) → at same_token token_of_listed index k ≡ None
    → All (λ (l : Listed). same_token l.token k ≡ false) index
unfolding at
all_apart [] k e i d lt = absurd (omega (arith, lt))
all_apart (l ∷ index) k e zero d lt = (missed l (at same_token token_of_listed index k) (same_token l.token k) e).0
all_apart (l ∷ index) k e (suc i) d lt = all_apart index k (missed l (at same_token token_of_listed index k) (same_token l.token k) e).1 i d (omega (arith, lt))

at_end : (index : List Listed) (it : Listed) (t : Token)
    → place_in (index ++ it ∷ []) t ≡ or_else (place_in index t) (same_token it.token t) it.place
unfolding at
at_end [] it t = by (same_token it.token t) where
  by : (b : Bool) → option_map (λ (l : Listed). l.place) (cond b (Some it) None) ≡ or_else None b it.place
  by true = refl
  by false = refl
at_end (l ∷ index) it t = by (same_token l.token t) (at_end index it t) where
  by : (b : Bool) → place_in (index ++ it ∷ []) t ≡ or_else (place_in index t) (same_token it.token t) it.place
      → option_map (λ (l : Listed). l.place) (cond b (Some l) (at same_token token_of_listed (index ++ it ∷ []) t))
      ≡ or_else (option_map (λ (l : Listed). l.place) (cond b (Some l) (at same_token token_of_listed index t))) (same_token it.token t) it.place
  by true e = refl
  by false e = e

pub pushed : (old new : List Listed) (x : Token) (k : ℕ) → new ≡ old ++ record { token = x; place = k } ∷ []
    → (t : Token) → place_in new t ≡ or_else (place_in old t) (same_token x t) k
pushed old new x k is t = ap (λ index. place_in index t) is ∙ at_end old (record { token = x; place = k }) t

-- a token that is there already
pub stays : (index : List Listed) (x : Token) (k : ℕ) (it : Listed) → at same_token token_of_listed index x ≡ Some it
    → (t : Token) → place_in index t ≡ or_else (place_in index t) (same_token x t) k
stays index x k it found t = by (same_token x t) refl where
  by : (b : Bool) → same_token x t ≡ b → place_in index t ≡ or_else (place_in index t) b k
  by true e =
      let same : x ≡ t = same_token-true x t e in
      let there : at same_token token_of_listed index t ≡ Some it = subst (λ (s : Token). at same_token token_of_listed index s ≡ Some it) same found in
      let place : place_in index t ≡ Some it.place = ap (option_map (λ (l : Listed). l.place)) there in
      place ∙ sym (ap (λ p. or_else p true k) place)
  by false e = by_place (place_in index t) where
    by_place : (p : Option ℕ) → p ≡ or_else p false k
    by_place (Some p) = refl
    by_place None = refl
