-- An index is that of its keys, and says of them what it was made for.
use Rattle.std.proofs.Common.{◌≡◌, ◌≢◌, ◌+◌, ◌-◌, ◌<◌, ◌≤◌, ℕ, zero, suc, List, [], ◌∷◌, ◌++◌, length, drop, Some, option_map, Bool, true, false, refl, ap, sym, ◌∙◌, subst, arith, length-append}
use Rattle.std.specs.Bool.{MatchBool, IsTrue}
use Rattle.std.specs.List.{All, Any, slice_get}
use Rattle.std.proofs.lemmas.List.{length-map}
use Rattle.std.proofs.lemmas.List.Elements.{All-nil, All-cons, All-map}
use Rattle.std.proofs.lemmas.Option.{slice_get-map, slice_get_within}
use Rattle.longest_keys.specs.Texts.{IsLongest}
use Rattle.longest_keys.proofs.Beginnings.{drop-front}
use Rattle.longest_keys.proofs.Lists.{one_at, got_at}
use Rattle.hot_strings.specs.Indexes.{keys_in, IsIndexOf}
use Rattle.hot_strings.specs.Pieces.{Params, IsLongestKey, NoKeyBegins, HasEmptyKey, HasNoEmptyKey, LacksSomeKey, HasEveryKey}
use Rattle.hot_strings.specs.Places.{Begins, IsPart, Lacks}
use Rattle.hot_strings.specs.declared.index.KeyIndex.{KeyIndex}
use Rattle.hot_strings.proofs.KeyLemmas.{Contains-get}

-- ---- keys and what is put in their place

pub length-keys : (params : Params) → length (keys_in params) ≡ length params
length-keys params = length-map params (λ p. p.0)

pub key_there : (params : Params) (i : ℕ) (p : List ℕ × List ℕ) → slice_get params i ≡ Some p → slice_get (keys_in params) i ≡ Some p.0
key_there params i p e = slice_get-map (λ p. p.0) params i ∙ ap (option_map (λ (p : List ℕ × List ℕ). p.0)) e

pub all_keys : (P : List ℕ → Type 0) (params : Params) → All P (keys_in params) → All (λ p. P p.0) params
all_keys P [] h = All-nil (λ p. P p.0)
all_keys P (p ∷ ps) h = All-cons (λ p. P p.0) p ps (h 0 [] (omega arith)) (all_keys P ps (λ i d l. h (suc i) d (omega arith)))

any_keys : (P : List ℕ → Type 0) (params : Params) → Any P (keys_in params) → Any (λ p. P p.0) params
any_keys P [] (i, k, l, e, h) = absurd (omega arith)
any_keys P (p ∷ ps) (zero, k, l, e, h) = (0, p, omega arith, refl, subst P (sym e) h)
any_keys P (p ∷ ps) (suc i, k, l, e, h) =
    let more = any_keys P ps (i, k, omega arith, e, h) in
    (suc more.0, more.1, omega arith, more.3, more.4)

keys_any : (P : List ℕ → Type 0) (params : Params) → Any (λ p. P p.0) params → Any P (keys_in params)
keys_any P [] (i, p, l, e, h) = absurd (omega arith)
keys_any P (q ∷ ps) (zero, p, l, e, h) = (0, q.0, omega arith, refl, subst (λ (x : List ℕ × List ℕ). P x.0) (sym e) h)
keys_any P (q ∷ ps) (suc i, p, l, e, h) =
    let more = keys_any P ps (i, p, omega arith, e, h) in
    (suc more.0, more.1, omega arith, more.3, more.4)

-- whether a key is empty, told of the keys alone
pub empty_of : (b : Bool) (params : Params) → MatchBool b (HasEmptyKey params) (HasNoEmptyKey params)
    → MatchBool b (Any (λ k. k ≡ []) (keys_in params)) (All (λ k. k ≢ []) (keys_in params))
empty_of true params h = keys_any (λ k. k ≡ []) params h
empty_of false params h = All-map (λ k. k ≢ []) (λ p. p.0) params h

-- and told again of keys with whatever is put in their place
empty_in : (b : Bool) (params : Params) → MatchBool b (Any (λ k. k ≡ []) (keys_in params)) (All (λ k. k ≢ []) (keys_in params))
    → MatchBool b (HasEmptyKey params) (HasNoEmptyKey params)
empty_in true params h = any_keys (λ k. k ≡ []) params h
empty_in false params h = all_keys (λ k. k ≢ []) params h

pub empty_told : (b : Bool) (params : Params) (x : KeyIndex) → b ≡ x.empty → IsIndexOf (keys_in params) x
    → MatchBool b (HasEmptyKey params) (HasNoEmptyKey params)
empty_told b params x is h =
    empty_in b params (subst (λ (t : Bool). MatchBool t (Any (λ k. k ≡ []) (keys_in params)) (All (λ k. k ≢ []) (keys_in params))) (sym is) h.empty)

pub empty_or_not : (params : Params) → HasEmptyKey params → HasNoEmptyKey params → ⊥
empty_or_not params (i, p, l, at, none) some = some i p l (subst (λ (q : List ℕ × List ℕ). q.0 ≡ []) (sym at) none)

-- ---- the longest key at a place

-- the number, counted from 1, of the longest key is that of a key with what is put in its place
pub longest_param : (params : Params) (s : List ℕ) (n m : ℕ) → m ≡ suc n → IsLongest (keys_in params) s m
    → (k : List ℕ) × (v : List ℕ) × (slice_get params n ≡ Some (k, v)) × IsLongestKey params s k v
longest_param params s n m is longest =
    let found = subst (IsLongest (keys_in params) s) is longest in
    let param = got_at params n (omega (arith, slice_get_within (keys_in params) n found.0 found.1, length-keys params)) in
    let same : param.0.0 ≡ found.0 = one_at (keys_in params) n param.0.0 found.0 (key_there params n param.0 param.1) found.1 in (
      param.0.0,
      param.0.1,
      param.1,
      record {
        listed = Contains-get params n param.0 param.1;
        stands = subst (λ (k : List ℕ). Begins k s) (sym same) found.2;
        longest = subst (λ (k : List ℕ). All (λ p. Begins p.0 s → length p.0 ≤ length k) params) (sym same) (all_keys (λ h. Begins h s → length h ≤ length found.0) params found.3);
      },
    )

pub no_param : (params : Params) (s : List ℕ) (m : ℕ) → m ≡ 0 → IsLongest (keys_in params) s m → NoKeyBegins params s
no_param params s m is longest = all_keys (λ k. ¬ (Begins k s)) params (subst (IsLongest (keys_in params) s) is longest)

pub longest_within : (params : Params) (s : List ℕ) (m : ℕ) → IsLongest (keys_in params) s m → m ≤ length params
longest_within params s zero longest = omega arith
longest_within params s (suc n) longest = omega (arith, slice_get_within (keys_in params) n longest.0 longest.1, length-keys params)

pub some_keys : (params : Params) → HasNoEmptyKey params → All (λ k. k ≢ []) (keys_in params)
some_keys params some = All-map (λ k. k ≢ []) (λ p. p.0) params some

-- ---- keys that stand nowhere

pub strictly_lacks : (b strict : Bool) (params : Params) (s : List ℕ) → strict ≡ true → MatchBool b (Any (λ k. Lacks k s) (keys_in params)) (All (λ k. IsPart k s) (keys_in params))
    → MatchBool b (IsTrue strict × LacksSomeKey params s) (IsTrue strict → HasEveryKey params s)
strictly_lacks true strict params s is h = (is, any_keys (λ k. Lacks k s) params h)
strictly_lacks false strict params s is h = λ _. all_keys (λ k. IsPart k s) params h

-- ---- the place at which a text goes on

pub longest_here : (keys : List (List ℕ)) (s front rest found : List ℕ) (at m : ℕ) → s ≡ front ++ rest → at ≡ length s - length rest
    → ((i m : ℕ) → slice_get found i ≡ Some m → IsLongest keys (drop i s) m) → slice_get found at ≡ Some m → IsLongest keys rest m
longest_here keys s front rest found at m whole place each there =
    let here : at ≡ length front = omega (arith, place, ap length whole, length-append front rest) in
    let cut : drop at s ≡ rest = ap (λ (i : ℕ). drop i s) here ∙ (ap (drop (length front)) whole ∙ drop-front front rest) in
    subst (λ (t : List ℕ). IsLongest keys t m) cut (each at m there)
