-- What stands on a sheet behind several puts.
use Rattle.std.proofs.Common.{All, subst, ◌≡◌, ℕ, zero, suc, ◌+◌, ◌-◌, ◌^◌, ◌≤◌, List, [], ◌∷◌, ◌++◌, length, min}
use Rattle.std.proofs.Common.{take, get_or, ◌<◌, refl, sym, ap, ◌∙◌, append_assoc, arith}
use Rattle.std.specs.List.{flat_map}
use Rattle.std.proofs.lemmas.List.{length-append, take_min, take_more, take_all, flat_map_more, append-nil}
use Rattle.std.proofs.lemmas.List.Elements.{All-push}
use Rattle.plan_codec.specs.Sheets.{SheetData, behind}

-- what is cut already is cut as well with more behind it
take_again : (n : ℕ) (a b : List ℕ) → take n (take n a ++ b) ≡ take n (a ++ b)
take_again zero a b = refl
take_again (suc n) [] b = refl
take_again (suc n) (x ∷ a) b = ap (λ (t : List ℕ). x ∷ t) (take_again n a b)

-- bytes and then bytes are all of them at once
pub behind_behind : (s : SheetData) (a b : List ℕ) → behind (behind s a) b ≡ behind s (a ++ b)
unfolding behind
behind_behind s a b =
    let kept : take s.room (take s.room (s.kept ++ a) ++ b) ≡ take s.room (s.kept ++ (a ++ b)) =
    take_again s.room (s.kept ++ a) b ∙ ap (take s.room) (append_assoc s.kept a b) in
    let count : min (min (s.count + length a) (2 ^ 64 - 1) + length b) (2 ^ 64 - 1) ≡ min
    (s.count + length (a ++ b)) (2 ^ 64 - 1) =
    omega (arith, length-append a b) in
    cc

pub ruleset puts = (behind_behind, append_assoc)

the_least : (bytes : List ℕ) (room : ℕ) → min (length bytes) (room - 0) ≡ min room (length bytes)
the_least bytes room = omega arith

-- what fits of more bytes
pub fitting : (room : ℕ) (kept bytes : List ℕ) → length kept ≤ room → take room (kept ++ bytes) ≡ kept ++ take
    (min (length bytes) (room - length kept)) bytes
fitting room [] bytes le = sym (ap (λ (n : ℕ). take n bytes) (the_least bytes room) ∙ take_min room bytes)
fitting zero (x ∷ kept) bytes le = absurd (omega (arith, le))
fitting (suc room) (x ∷ kept) bytes le =
    let left : suc room - length (x ∷ kept) ≡ room - length kept = omega arith in
    rw left (ap (λ (t : List ℕ). x ∷ t) (fitting room kept bytes (omega (arith, le))))

-- a list's front with its next thing behind
pub one_further : {A : Type 0} (spelled : A → List ℕ) (front : List ℕ) (xs : List A) (i : ℕ) (x : A)
    (old new last : SheetData) → i < length xs → x ≡ get_or xs i x → new ≡ behind old
    (front ++ flat_map spelled (take i xs)) → last ≡ behind new (spelled x) → last ≡ behind old
    (front ++ flat_map spelled (take (i + 1) xs))
one_further spelled front xs i x old new last less is so e =
    let more : take (i + 1) xs ≡ take i xs ++ x ∷ [] = take_more xs i x less ∙ ap (λ (y : _). take i xs ++ y ∷ [])
    (sym is) in
    e ∙ ap (λ (s : SheetData). behind s (spelled x)) so ∙ behind_behind old (front ++ flat_map spelled (take i xs))
    (spelled x)
    ∙ ap (behind old) (flat_map_more spelled front (take i xs) x) ∙ ap
    (λ (ys : List _). behind old (front ++ flat_map spelled ys)) (sym more)

-- nothing of a list yet
pub none_yet : {A : Type 0} (spelled : A → List ℕ) (front : List ℕ) (xs : List A) (old new : SheetData) → new ≡
    behind old front → new ≡ behind old (front ++ flat_map spelled (take 0 xs))
none_yet spelled front xs old new e = e ∙ ap (behind old) (sym (append-nil front))

-- all of a list
pub all_put : {A : Type 0} (spelled : A → List ℕ) (front : List ℕ) (xs : List A) (i : ℕ) (old new : SheetData)
    → length xs ≤ i → new ≡ behind old (front ++ flat_map spelled (take i xs)) → new ≡ behind old
    (front ++ flat_map spelled xs)
all_put spelled front xs i old new le so = so ∙ ap (λ (ys : List _). behind old (front ++ flat_map spelled ys))
    (take_all i xs le)

pub one_more_proper : {A : Type 0} (proper : A → Type 0) (xs : List A) (i : ℕ) (x : A) → i < length xs → x ≡ get_or
    xs i x → All proper (take i xs) → proper x → All proper (take (i + 1) xs)
one_more_proper proper xs i x less is each p =
    let more : take (i + 1) xs ≡ take i xs ++ x ∷ [] = take_more xs i x less ∙ ap (λ (y : _). take i xs ++ y ∷ [])
    (sym is) in
    subst (All proper) (sym more) (All-push proper (take i xs) x each p)

pub all_proper : {A : Type 0} (proper : A → Type 0) (xs : List A) (i : ℕ) → length xs ≤ i → All proper (take i xs)
    → All proper xs
all_proper proper xs i le each = subst (All proper) (take_all i xs le) each
