-- Cursors behind keys that aren't empty, key by key.
use Rattle.std.proofs.Common.{◌≡◌, ◌≢◌, ◌<◌, ◌≤◌, ℕ, suc, List, [], ◌∷◌, ◌++◌, length, ◌⊎◌, inl, inr, Some, refl, ap, sym, ◌∙◌, arith}
use Rattle.std.specs.List.{All, slice_get}
use Rattle.std.proofs.lemmas.Bool.{cases_lt}
use Rattle.std.proofs.lemmas.List.Elements.{All-nil, All-cons, All-append, Contains-append_left, Contains-append_right}
use Rattle.std.proofs.lemmas.Option.{slice_get_within}
use Rattle.longest_keys.specs.Growing.{IsReading, AreFirst}
use Rattle.longest_keys.specs.declared.growing.Cursor.{Cursor}
use Rattle.longest_keys.proofs.Lists.{one_at}

abbrev IsFirst : List (List ℕ) → Cursor → Type 0
IsFirst keys c = (c.node ≡ 0) × ((k : List ℕ) × (slice_get keys c.key ≡ Some k) × (k ≢ []))

-- for each of the first n keys that isn't empty a cursor at the root
pub record AreFirstOf (keys : List (List ℕ)) (n : ℕ) (cursors : List Cursor) : Type 0 where
  pub only : All (IsFirst keys) cursors
  pub each : (i : ℕ) (k : List ℕ) → i < n → slice_get keys i ≡ Some k → k ≢ [] → IsReading cursors i

pub none_first : (keys : List (List ℕ)) → AreFirstOf keys 0 []
none_first keys = record { only = All-nil (IsFirst keys); each = λ i k l at some. absurd (omega (arith, l)) }

-- an empty key more
pub empty_first : (keys : List (List ℕ)) (n m : ℕ) (cursors : List Cursor) → m ≡ suc n → slice_get keys n ≡ Some [] → AreFirstOf keys n cursors → AreFirstOf keys m cursors
empty_first keys n m cursors is at h = record { only = h.only; each = λ i k l there some. go i k (cases_lt i n) l there some }
  where
    go : (i : ℕ) (k : List ℕ) → (i < n) ⊎ (n ≤ i) → i < m → slice_get keys i ≡ Some k → k ≢ [] → IsReading cursors i
    go i k (inl before) l there some = h.each i k before there some
    go i k (inr behind) l there some =
        let here : i ≡ n = omega (arith, l, is, behind) in
        absurd (some (one_at keys n k [] (ap (slice_get keys) (sym here) ∙ there) at))

-- one that isn't empty
pub more_first : (keys : List (List ℕ)) (n m : ℕ) (k : List ℕ) (cursors : List Cursor) → m ≡ suc n → slice_get keys n ≡ Some k → k ≢ [] → AreFirstOf keys n cursors → AreFirstOf keys m (cursors ++ record { key = n; node = 0 } ∷ [])
more_first keys n m k cursors is at some h = record {
  only = All-append (IsFirst keys) cursors (own ∷ []) h.only (All-cons (IsFirst keys) own [] (refl, (k, at, some)) (All-nil (IsFirst keys)));
  each = λ i j l there more. go i j (cases_lt i n) l there more;
}
  where
    own : Cursor
    own = record { key = n; node = 0 }

    go : (i : ℕ) (j : List ℕ) → (i < n) ⊎ (n ≤ i) → i < m → slice_get keys i ≡ Some j → j ≢ [] → IsReading (cursors ++ own ∷ []) i
    go i j (inl before) l there more =
        let was = h.each i j before there more in
        record { cursor = was.cursor; listed = Contains-append_left cursors (own ∷ []) was.cursor was.listed; key = was.key }
    go i j (inr behind) l there more = record { cursor = own; listed = Contains-append_right cursors (own ∷ []) own (0, omega arith, refl); key = omega (arith, l, is, behind) }

pub all_first : (keys : List (List ℕ)) (n : ℕ) (cursors : List Cursor) → length keys ≤ n → AreFirstOf keys n cursors → AreFirst keys cursors
all_first keys n cursors most h = record { only = h.only; each = λ i k at some. h.each i k (omega (arith, most, slice_get_within keys i k at)) at some }
