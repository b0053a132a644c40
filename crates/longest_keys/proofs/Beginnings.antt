-- Texts at the front of others.
use Rattle.std.proofs.Common.{◌≡◌, ◌<◌, ◌≤◌, ℕ, zero, suc, pred, List, [], ◌∷◌, ◌++◌, length, take, drop, Some, refl, ap, sym, ◌∙◌, subst, arith, append_assoc, length-append}
use Rattle.std.proofs.Math.Seq.{take-append_seam}
use Rattle.std.proofs.lemmas.List.{append-nil, take-append-drop}
use Rattle.std.specs.List.{slice_get}
use Rattle.longest_keys.specs.Texts.{Begins, IsPart, IsLongest, but_last}
use Rattle.longest_keys.proofs.Lists.{all_got, got_all}

pub begins_itself : (a : List ℕ) → Begins a a
begins_itself a = ([], sym (append-nil a))

pub begins_through : (a b c : List ℕ) → Begins a b → Begins b c → Begins a c
begins_through a b c (x, e) (y, f) = (x ++ y, f ∙ (ap (λ (t : List ℕ). t ++ y) e ∙ append_assoc a x y))

pub length-begins : (a b : List ℕ) → Begins a b → length a ≤ length b
length-begins a b (x, e) = omega (arith, ap length e, length-append a x)

begins_within : (p s : List ℕ) (n : ℕ) → Begins p s → length p ≤ n → Begins p (take n s)
begins_within [] s n b l = (take n s, refl)
begins_within (x ∷ p) [] n (rest, e) l = cc
begins_within (x ∷ p) (y ∷ s) zero b l = absurd (omega arith)
begins_within (x ∷ p) (y ∷ s) (suc n) (rest, e) l =
    let head : y ≡ x = cc in
    let tail : s ≡ p ++ rest = cc in
    let more = begins_within p s n (rest, tail) (omega arith) in
    let further : take n s ≡ p ++ more.0 = more.1 in (more.0, cc)

-- a text that begins another that is no longer is it
pub begins_all : (a b : List ℕ) → Begins a b → length b ≤ length a → a ≡ b
begins_all a b ([], e) l = sym (e ∙ append-nil a)
begins_all a b (y ∷ x, e) l = absurd (omega (arith, ap length e, length-append a (y ∷ x)))

-- of two texts that begin a third the shorter begins the longer
pub begins_shorter : (a b t : List ℕ) → Begins a t → Begins b t → length a ≤ length b → Begins a b
begins_shorter a b t here (y, e) l =
    let front : take (length b) t ≡ b = ap (take (length b)) e ∙ take-append_seam b y in
    subst (λ (x : List ℕ). Begins a x) front (begins_within a t (length b) here l)

-- of two texts that begin a third those that are as long are the same
pub begins_same : (a b t : List ℕ) → Begins a t → Begins b t → length a ≡ length b → a ≡ b
begins_same a b t here there l = begins_all a b (begins_shorter a b t here there (omega (arith, l))) (omega (arith, l))

pub begins_byte : (d : ℕ) (u : List ℕ) (b : ℕ) (t : List ℕ) → Begins (d ∷ u) (b ∷ t) → (d ≡ b) × Begins u t
begins_byte d u b t (rest, e) =
    let head : d ≡ b = cc in
    let tail : t ≡ u ++ rest = cc in (head, (rest, tail))

pub byte_begins : (b : ℕ) (u t : List ℕ) → Begins u t → Begins (b ∷ u) (b ∷ t)
byte_begins b u t (rest, e) = (rest, ap (λ (s : List ℕ). b ∷ s) e)

pub begins_nothing : (u : List ℕ) → Begins u [] → u ≡ []
begins_nothing [] h = refl
begins_nothing (x ∷ u) (rest, e) = cc

-- ---- all but the last byte

pub begins-but_last : (s : List ℕ) → Begins (but_last s) s
begins-but_last s = (drop (pred (length s)) s, sym (take-append-drop (pred (length s)) s))

pub begins_but_last : (u s : List ℕ) → Begins u s → length u < length s → Begins u (but_last s)
begins_but_last u s h l = begins_within u s (pred (length s)) h (omega arith)

pub length-but_last : (b : ℕ) (s : List ℕ) → length (but_last (b ∷ s)) ≤ length s
length-but_last b s = go (length s) (b ∷ s)
  where
    go : (n : ℕ) (t : List ℕ) → length (take n t) ≤ n
    go zero t = omega arith
    go (suc n) [] = omega arith
    go (suc n) (x ∷ t) = let more = go n t in omega (arith, more)

-- ---- parts

pub IsPart-begins : (k q s : List ℕ) → Begins k q → IsPart q s → IsPart k s
IsPart-begins k q s (x, e) (before, after, h) =
    (before, x ++ after, h ∙ ap (λ (t : List ℕ). before ++ t) (ap (λ (t : List ℕ). t ++ after) e ∙ append_assoc k x after))

pub IsPart-at : (k s : List ℕ) (at : ℕ) → Begins k (drop at s) → IsPart k s
IsPart-at k s at (rest, e) = (take at s, rest, sym (take-append-drop at s) ∙ ap (λ (t : List ℕ). take at s ++ t) e)

pub drop-front : (before t : List ℕ) → drop (length before) (before ++ t) ≡ t
drop-front [] t = refl
drop-front (x ∷ before) t = drop-front before t

-- where a text that isn't empty stands somewhere, there is a place
pub part_at : (k s : List ℕ) → 0 < length k → IsPart k s → (at : ℕ) × (at < length s) × Begins k (drop at s)
part_at k s some (before, after, e) = (
  length before,
  omega (arith, ap length e, length-append before (k ++ after), length-append k after),
  (after, ap (drop (length before)) e ∙ drop-front before (k ++ after)),
)

-- ---- the longest key

-- what is the longest at the front of w is the longest at the front of s, where w begins s and each key that begins s begins w
pub longest_moves : (keys : List (List ℕ)) (w s : List ℕ) (m : ℕ) → Begins w s → ((i : ℕ) (h : List ℕ) → slice_get keys i ≡ Some h → Begins h s → Begins h w) → IsLongest keys w m → IsLongest keys s m
longest_moves keys w s zero front back none =
    got_all (λ k. ¬ (Begins k s)) keys (λ i k at b. all_got (λ h. ¬ (Begins h w)) keys i k none at (back i k at b))
longest_moves keys w s (suc n) front back (k, there, stands, all) = (
  k,
  there,
  begins_through k w s stands front,
  got_all (λ h. Begins h s → length h ≤ length k) keys (λ i h at b. all_got (λ h. Begins h w → length h ≤ length k) keys i h all at (back i h at b)),
)
