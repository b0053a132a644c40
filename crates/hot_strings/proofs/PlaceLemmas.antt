-- Finding where a text stands first in another.
use Rattle.std.proofs.Common.{◌≡◌, ◌≢◌, ◌<◌, ◌≤◌, ℕ, suc, List, [], ◌∷◌, ◌++◌, length, take, drop, ◌⊎◌, inl, inr, Bool, true, false, Option, Some, None, refl, ap, sym, arith, length-append}
use Rattle.std.proofs.lemmas.Bool.{cases_eq, cases_lt}
use Rattle.std.proofs.lemmas.List.{take-append-drop}
use Rattle.std.proofs.lemmas.List.Prefix.{front_rest}
use denote.Ref.{Bor}
use Rattle.std.specs.Option.{MatchOption}
use Rattle.std.specs.Str.Pattern.{FindsText, FindsTextPrefix, HasMatch, HasPrefixMatch, SplitsAroundMatch}
use Rattle.std.specs.Bool.{MatchBool}
use Rattle.std.proofs.lemmas.Str.Pattern.{contains_text}
use Rattle.hot_strings.specs.Places.{Begins, IsPart, Lacks, StandsFirst}

-- two ways to cut a list at one place are the same
pub append_same : {A : Type 0} (p q t u : List A) → length p ≡ length q → p ++ t ≡ q ++ u → (p ≡ q) × (t ≡ u)
append_same [] [] t u l e = (refl, e)
append_same [] (y ∷ q) t u l e = absurd (omega arith)
append_same (x ∷ p) [] t u l e = absurd (omega arith)
append_same (x ∷ p) (y ∷ q) t u l e =
    let head : x ≡ y = cc in
    let rest : p ++ t ≡ q ++ u = cc in
    let same = append_same p q t u (omega arith) rest in
    let front : p ≡ q = same.0 in (cc, same.1)

-- whether d stands at the front of s
pub begins : (d s : List ℕ) → Begins d s ⊎ ((rest : List ℕ) → s ≢ d ++ rest)
begins [] s = inl (s, refl)
begins (x ∷ d) [] = inr (λ rest e. cc)
begins (x ∷ d) (y ∷ s) = go (cases_eq x y) (begins d s)
  where
    go : (x ≡ y) ⊎ (x ≡ y → ⊥) → Begins d s ⊎ ((rest : List ℕ) → s ≢ d ++ rest) → Begins (x ∷ d) (y ∷ s) ⊎ ((rest : List ℕ) → (y ∷ s) ≢ (x ∷ d) ++ rest)
    go (inl e) (inl (rest, h)) = inl (rest, cc)
    go (inl e) (inr h) = inr (λ rest k. let tail : s ≡ d ++ rest = cc in h rest tail)
    go (inr e) h = inr (λ rest k. let head : x ≡ y = cc in e head)

-- where d stands first, or that it stands nowhere
pub first_place : (d s : List ℕ) → ((front : List ℕ) × (rest : List ℕ) × StandsFirst d s front rest) ⊎ Lacks d s
first_place d [] = go (begins d [])
  where
    go : Begins d [] ⊎ ((rest : List ℕ) → [] ≢ d ++ rest) → ((front : List ℕ) × (rest : List ℕ) × StandsFirst d [] front rest) ⊎ Lacks d []
    go (inl (rest, h)) = inl ([], rest, record { whole = h; first = λ before after e. omega arith })
    go (inr h) = inr none
      where
        none : Lacks d []
        none [] after e = h after e
        none (x ∷ before) after e = cc
first_place d (x ∷ s) = go (begins d (x ∷ s)) (first_place d s)
  where
    go : Begins d (x ∷ s) ⊎ ((rest : List ℕ) → (x ∷ s) ≢ d ++ rest) → ((front : List ℕ) × (rest : List ℕ) × StandsFirst d s front rest) ⊎ Lacks d s
        → ((front : List ℕ) × (rest : List ℕ) × StandsFirst d (x ∷ s) front rest) ⊎ Lacks d (x ∷ s)
    go (inl (rest, h)) later = inl ([], rest, record { whole = h; first = λ before after e. omega arith })
    go (inr h) (inl (front, rest, st)) = inl (x ∷ front, rest, record { whole = ap (λ t. x ∷ t) st.whole; first = further })
      where
        further : (before after : List ℕ) → x ∷ s ≡ before ++ (d ++ after) → suc (length front) ≤ length before
        further [] after e = absurd (h after e)
        further (y ∷ before) after e = let tail : s ≡ before ++ (d ++ after) = cc in omega (arith, st.first before after tail)
    go (inr h) (inr lacks) = inr none
      where
        none : Lacks d (x ∷ s)
        none [] after e = h after e
        none (y ∷ before) after e = let tail : s ≡ before ++ (d ++ after) = cc in lacks before after tail

-- what a search of the text found
pub StandsFirst-found : (d s front rest : List ℕ) (i j : ℕ) → FindsText d s (Some (i, j)) → front ≡ take i s → rest ≡ drop j s → length front ≡ i → StandsFirst d s front rest
StandsFirst-found d s front rest i j found f r l = record {
  whole = rw (f, r, ← found.1.split) (sym (take-append-drop i s));
  first = λ before after e. go before after e (cases_lt (length before) i);
}
  where
    go : (before after : List ℕ) → s ≡ before ++ (d ++ after) → (length before < i) ⊎ (i ≤ length before) → length front ≤ length before
    go before after e (inl lt) = absurd (found.0 (length before) lt after (front_rest s before (d ++ after) e))
    go before after e (inr le) = omega (arith, l)

pub Lacks-found : (d s : List ℕ) → FindsText d s None → Lacks d s
Lacks-found d s none before after e =
    let fits : length before ≤ length s = omega (arith, ap length e, length-append before (d ++ after)) in
    none (length before) fits after (front_rest s before (d ++ after) e)

-- what `split_once` answers at a text
pub parts_found : (d s : List ℕ) (r : Option (Bor (List ℕ) × Bor (List ℕ))) → MatchOption r (FindsText d s None) (λ x. SplitsAroundMatch (FindsText d) s x.0.now x.1.now)
    → MatchOption r (Lacks d s) (λ x. StandsFirst d s x.0.now x.1.now)
parts_found d s None h = Lacks-found d s h
parts_found d s (Some x) (i, j, found, front, back, le, len, rest) = StandsFirst-found d s x.0.now x.1.now i j found front back len

-- what `contains` answers at a text
pub part_found : (d s : List ℕ) (r : Bool) → MatchBool r (HasMatch (FindsText d) s) (FindsText d s None) → MatchBool r (IsPart d s) (Lacks d s)
part_found d s true h = (contains_text true d s h).0 refl
part_found d s false h = Lacks-found d s h

-- what `starts_with` answers at a text
pub begins_found : (d s : List ℕ) (r : Bool) → MatchBool r (HasPrefixMatch (FindsTextPrefix d) s) (FindsTextPrefix d s None) → MatchBool r (Begins d s) (¬ (Begins d s))
begins_found d s true (n, found, cut) = (drop n s, found.1)
begins_found d s false h = λ b. h b.0 b.1
