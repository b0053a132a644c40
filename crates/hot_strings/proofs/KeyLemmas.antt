-- Which key stands at the front of a text.
use Rattle.std.proofs.Common.{◌≡◌, ◌≢◌, ◌+◌, ◌<◌, ◌≤◌, ℕ, zero, suc, List, [], ◌∷◌, ◌++◌, length, ◌⊎◌, inl, inr, true, false, ◌==◌, Option, Some, None, refl, ap, sym, ◌∙◌, subst, arith, get_or, take, drop, add-one, drop-cons}
use Rattle.std.specs.Option.{MatchOption}
use Rattle.std.specs.List.{All, Contains, slice_get, slice_index_or}
use Rattle.std.proofs.lemmas.Bool.{cases_lt}
use Rattle.std.proofs.lemmas.Bool.Decides.{Decides-eqb}
use Rattle.std.proofs.lemmas.List.{take_all, nil_from_length}
use Rattle.std.proofs.lemmas.Option.{slice_get_read}
use Rattle.std.proofs.lemmas.List.Elements.{All-nil, All-cons, All-weaker, All-contains, All-more, All-take}
use Rattle.hot_strings.specs.Places.{Begins}
use Rattle.hot_strings.specs.Pieces.{Params, IsLongestKey, NoKeyBegins, AreDistinct, HasNoEmptyKey}
use Rattle.hot_strings.proofs.PlaceLemmas.{append_same, begins}

Contains-head : (ps : Params) (p : List ℕ × List ℕ) → Contains (p ∷ ps) p
Contains-head ps p = (0, omega arith, refl)

Contains-tail : (ps : Params) (p q : List ℕ × List ℕ) → Contains ps q → Contains (p ∷ ps) q
Contains-tail ps p q (k, l, e) = (suc k, omega arith, e)

pub Contains-get : (ps : Params) (i : ℕ) (p : List ℕ × List ℕ) → slice_get ps i ≡ Some p → Contains ps p
Contains-get [] i p e = cc
Contains-get (q ∷ ps) zero p e = let same : q ≡ p = cc in subst (λ (x : List ℕ × List ℕ). Contains (q ∷ ps) x) same (Contains-head ps q)
Contains-get (q ∷ ps) (suc i) p e = Contains-tail ps q p (Contains-get ps i p e)

-- the longest key at the front, or that there is none
pub longest_key : (params : Params) (s : List ℕ) → ((k : List ℕ) × (v : List ℕ) × IsLongestKey params s k v) ⊎ NoKeyBegins params s
longest_key [] s = inr (All-nil (λ p. ¬ (Begins p.0 s)))
longest_key (p ∷ ps) s = go (begins p.0 s) (longest_key ps s)
  where
    own : ((rest : List ℕ) × (s ≡ p.0 ++ rest)) → All (λ q. Begins q.0 s → length q.0 ≤ length p.0) ps → (k : List ℕ) × (v : List ℕ) × IsLongestKey (p ∷ ps) s k v
    own here below = (
      p.0,
      p.1,
      record {
        listed = Contains-head ps p;
        stands = here;
        longest = All-cons (λ q. Begins q.0 s → length q.0 ≤ length p.0) p ps (λ _. omega arith) below;
      },
    )

    keep : (k v : List ℕ) → IsLongestKey ps s k v → (Begins p.0 s → length p.0 ≤ length k) → (k : List ℕ) × (v : List ℕ) × IsLongestKey (p ∷ ps) s k v
    keep k v best bound = (
      k,
      v,
      record {
        listed = Contains-tail ps p (k, v) best.listed;
        stands = best.stands;
        longest = All-cons (λ q. Begins q.0 s → length q.0 ≤ length k) p ps bound best.longest;
      },
    )

    against : (k v : List ℕ) → IsLongestKey ps s k v → Begins p.0 s → (length k < length p.0) ⊎ (length p.0 ≤ length k) → (k : List ℕ) × (v : List ℕ) × IsLongestKey (p ∷ ps) s k v
    against k v best here (inl longer) =
        own here (All-weaker (λ q. Begins q.0 s → length q.0 ≤ length k) (λ q. Begins q.0 s → length q.0 ≤ length p.0) (λ q h b. omega (arith, h b)) ps best.longest)
    against k v best here (inr shorter) = keep k v best (λ _. shorter)

    go : Begins p.0 s ⊎ ((rest : List ℕ) → s ≢ p.0 ++ rest) → ((k : List ℕ) × (v : List ℕ) × IsLongestKey ps s k v) ⊎ NoKeyBegins ps s
        → ((k : List ℕ) × (v : List ℕ) × IsLongestKey (p ∷ ps) s k v) ⊎ NoKeyBegins (p ∷ ps) s
    go (inl here) (inl (k, v, best)) = inl (against k v best here (cases_lt (length k) (length p.0)))
    go (inl here) (inr none) = inl (own here (All-weaker (λ q. ¬ (Begins q.0 s)) (λ q. Begins q.0 s → length q.0 ≤ length p.0) (λ q h b. absurd (h b)) ps none))
    go (inr not) (inl (k, v, best)) = inl (keep k v best (λ b. absurd (not b.0 b.1)))
    go (inr not) (inr none) = inr (All-cons (λ q. ¬ (Begins q.0 s)) p ps (λ b. not b.0 b.1) none)

-- of distinct keys each has one value
pub AreDistinct-value : (params : Params) (k v w : List ℕ) → AreDistinct params → Contains params (k, v) → Contains params (k, w) → v ≡ w
AreDistinct-value [] k v w distinct (i, l, e) b = absurd (omega arith)
AreDistinct-value (p ∷ ps) k v w distinct (zero, l, e) (zero, m, f) = ap (λ (q : List ℕ × List ℕ). q.1) (sym e ∙ f)
AreDistinct-value (p ∷ ps) k v w distinct (zero, l, e) (suc j, m, f) =
    absurd (All-contains (λ q. q.0 ≢ p.0) ps (k, w) distinct.0 (j, omega arith, f) (ap (λ (q : List ℕ × List ℕ). q.0) (sym e)))
AreDistinct-value (p ∷ ps) k v w distinct (suc i, l, e) (zero, m, f) =
    absurd (All-contains (λ q. q.0 ≢ p.0) ps (k, v) distinct.0 (i, omega arith, e) (ap (λ (q : List ℕ × List ℕ). q.0) (sym f)))
AreDistinct-value (p ∷ ps) k v w distinct (suc i, l, e) (suc j, m, f) = AreDistinct-value ps k v w distinct.1 (i, omega arith, e) (j, omega arith, f)

-- the longest key at a front is one key with one value
pub IsLongestKey-same : (params : Params) (s j v k w : List ℕ) → AreDistinct params → IsLongestKey params s j v → IsLongestKey params s k w → (j ≡ k) × (v ≡ w)
IsLongestKey-same params s j v k w distinct a b =
    let one : length j ≤ length k = All-contains (λ q. Begins q.0 s → length q.0 ≤ length k) params (j, v) b.longest a.listed a.stands in
    let other : length k ≤ length j = All-contains (λ q. Begins q.0 s → length q.0 ≤ length j) params (k, w) a.longest b.listed b.stands in
    let fronts = append_same j k a.stands.0 b.stands.0 (omega arith) (sym a.stands.1 ∙ b.stands.1) in
    (fronts.0, AreDistinct-value params k v w distinct (subst (λ (x : List ℕ). Contains params (x, v)) fronts.0 a.listed) b.listed)

-- a key that is listed isn't empty where none is
pub key_some : (params : Params) (k v : List ℕ) → HasNoEmptyKey params → Contains params (k, v) → k ≢ []
key_some params k v some listed = All-contains (λ q. q.0 ≢ []) params (k, v) some listed

-- what holds of the items so far and of the next
pub All-step : {X : Type 0} (P : X → Type 0) (xs : List X) (i : ℕ) (x : X) → i < length xs → x ≡ get_or xs i x → P x → All P (take i xs) → All P (take (i + 1) xs)
All-step P xs i x l e h all = All-more P xs i x l all (subst P e h)

pub All-end : {X : Type 0} (P : X → Type 0) (xs : List X) (i : ℕ) → length xs ≤ i → All P (take i xs) → All P xs
All-end P xs i l all = subst (λ (ys : List _). All P ys) (take_all i xs l) all

pub not_empty : (s k : List ℕ) → s ≡ k → false ≡ (length s == 0) → k ≢ []
not_empty s k e h empty = let gone : false ≡ true = subst (λ (t : List ℕ). false ≡ (length t == 0)) (e ∙ empty) h in cc

-- the item at a place
pub item_there : (params : Params) (i : ℕ) (p : List ℕ × List ℕ) (k v : List ℕ) → i < length params → p ≡ get_or params i p → slice_get params i ≡ Some (k, v) → (p.0 ≡ k) × (p.1 ≡ v)
item_there params i p k v l e there =
    let same : p ≡ (k, v) = (let read : slice_get params i ≡ Some p = slice_get_read params (length params) i p refl l e in cc) in
    (ap (λ (q : List ℕ × List ℕ). q.0) same, ap (λ (q : List ℕ × List ℕ). q.1) same)

pub is_empty_list : (s : List ℕ) → true ≡ (length s == 0) → s ≡ []
is_empty_list s h = nil_from_length s ((Decides-eqb (length s) 0).0 (sym h))

-- of distinct keys none behind an item has its key
pub AreDistinct-item : (params : Params) (i n : ℕ) (p : List ℕ × List ℕ) → i < length params → p ≡ get_or params i p → AreDistinct (drop i params)
    → All (λ q. q.0 ≢ (get_or params i p).0) (take n (drop (i + 1) params))
AreDistinct-item params i n p l e h =
    let cut : drop i params ≡ get_or params i p ∷ drop (i + 1) params = rw (add-one, drop-cons params i p l) refl in
    All-take (λ q. q.0 ≢ (get_or params i p).0) n (drop (i + 1) params) (subst (λ (ps : Params). AreDistinct ps) cut h).0

pub some_bytes : (s : List ℕ) → false ≡ (length s == 0) → 0 < length s
some_bytes [] h = cc
some_bytes (b ∷ s) h = omega arith
