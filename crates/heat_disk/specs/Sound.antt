-- What a half reads as is one of the images that a crash may leave.
use Rattle.std.specs.Prelude.{◌≡◌, ◌⊎◌, ℕ, ◌+◌, ◌-◌, ◌<◌, ◌≤◌, max, false, ◌&&◌, nat_lt, nat_le}
use Rattle.std.specs.Prelude.{List, [], ◌∷◌, ◌++◌, length, take, drop, get_or, refl}
use Rattle.std.proofs.Common.{sym, ◌∙◌, ap, inl, inr, ⊎_elim, arith, length-append, length-take, length-drop}
use Rattle.std.proofs.lemmas.Bool.{cases_lt, or_parts, or_from, and_cases, and_left, and_right}
use Rattle.std.proofs.lemmas.Bool.{leb-false, ltb-false, lt-leb, le-ltb, cond_both}
use Rattle.std.proofs.lemmas.List.{get_or_append_left, get_or-append_right, get_or-take, get_or-drop, get_or_past}
use Rattle.heat_disk.specs.declared.half.Half.{Half}
use Rattle.heat_disk.specs.declared.half.Half.TheVariants.{First, Second}
use Rattle.heat_disk.specs.Halves.{Pair}
use Rattle.heat_disk.specs.Images.{overwritten}
use Rattle.heat_disk.specs.History.{Step, wrote, cut_to, synced, Call, Side, resting, moved, after, is_loose}
use Rattle.heat_disk.specs.History.{MayLeave, is_same, side, sides, seen_of, LeavesPair, LeftSince, shown_of}
use Rattle.heat_disk.specs.Shown.{IsLawful, Room}

pub length-overwritten : (at : ℕ) (bytes old : List ℕ)
    → length (overwritten at bytes old) ≡ max (length old) (length (take at old) + length bytes)
length-overwritten at bytes old =
    omega (
      arith,
      length-append (take at old ++ bytes) (drop (at + length bytes) old),
      length-append (take at old) bytes,
      length-take at old,
      length-drop (at + length bytes) old,
    )

pub overwritten_front : (at : ℕ) (bytes old : List ℕ) (i : ℕ) → i < length (take at old)
    → get_or (overwritten at bytes old) i 0 ≡ get_or old i 0
overwritten_front at bytes old i less =
    let short : i < at = omega (arith, length-take at old) in
    let within : i < length (take at old ++ bytes) = omega (arith, length-append (take at old) bytes) in
    get_or_append_left (take at old ++ bytes) (drop (at + length bytes) old) 0 i within
    ∙ get_or_append_left (take at old) bytes 0 i less
    ∙ get_or-take at old i 0 short

pub overwritten_range : (at : ℕ) (bytes old : List ℕ) (i : ℕ) → length (take at old) ≤ i
    → i < length (take at old) + length bytes
    → get_or (overwritten at bytes old) i 0 ≡ get_or bytes (i - length (take at old)) 0
overwritten_range at bytes old i from less =
    let within : i < length (take at old ++ bytes) = omega (arith, length-append (take at old) bytes) in
    get_or_append_left (take at old ++ bytes) (drop (at + length bytes) old) 0 i within
    ∙ get_or-append_right (take at old) bytes (length (take at old)) i 0 refl from

pub overwritten_behind : (at : ℕ) (bytes old : List ℕ) (i : ℕ) → length (take at old) + length bytes ≤ i
    → get_or (overwritten at bytes old) i 0 ≡ get_or old i 0
overwritten_behind at bytes old i behind =
    let end = length (take at old) + length bytes in
    get_or-append_right (take at old ++ bytes) (drop (at + length bytes) old) end i 0
    (length-append (take at old) bytes) behind
    ∙ get_or-drop (at + length bytes) old (i - end) 0
    ∙ there
  where
    place : ℕ
    place = at + length bytes + (i - (length (take at old) + length bytes))

    there : get_or old place 0 ≡ get_or old i 0
    there = ⊎_elim
        (λ (less : at < length old). let same : place ≡ i = omega (arith, length-take at old) in
        ap (λ (k : ℕ). get_or old k 0) same)
        (λ (more : length old ≤ at). get_or_past old place 0 (omega arith)
        ∙ sym (get_or_past old i 0 (omega (arith, length-take at old))))
        (cases_lt at (length old))

-- a place that isn't loose once there is one more range lies outside it, and wasn't loose before
pub loose_more : (from n : ℕ) (s : Side) (bytes : List ℕ) (i : ℕ)
    → is_loose (moved bytes ((from, n) ∷ s.loose) s) i ≡ false → (is_loose s i ≡ false) × ((i < from) ⊎ (from + n ≤ i))
loose_more from n s bytes i tight =
    let parts = or_parts _ _ tight in
    let ranges = or_parts _ _ parts.0 in (
      or_from _ _ ranges.1 parts.1,
      ⊎_elim (λ (e : nat_le from i ≡ false). inl (leb-false from i e))
          (λ (e : nat_lt i (from + n) ≡ false). inr (ltb-false i (from + n) e)) (and_cases _ _ ranges.0),
    )

-- and the other way round
pub tight_from : (from n : ℕ) (s : Side) (bytes : List ℕ) (i : ℕ) → is_loose s i ≡ false → (i < from) ⊎ (from + n ≤ i)
    → is_loose (moved bytes ((from, n) ∷ s.loose) s) i ≡ false
tight_from from n s bytes i tight outside =
    let parts = or_parts _ _ tight in
    let out : (nat_le from i && nat_lt i (from + n)) ≡ false =
    ⊎_elim (λ (l : i < from). and_left _ _ (lt-leb from i l))
    (λ (l : from + n ≤ i). and_right _ _ (le-ltb i (from + n) l)) outside in
    or_from _ _ (or_from _ _ out parts.0) parts.1

sound_write : (at : ℕ) (bytes : List ℕ) (s : Side) → MayLeave s s.seen
    → MayLeave (after (wrote at bytes) s) (after (wrote at bytes) s).seen
sound_write at bytes s sound =
    let now = overwritten at bytes s.seen in
    record {
      no_shorter = omega arith;
      no_longer = omega arith;
      stays = λ i less tight.
          let parts = loose_more (length (take at s.seen)) (length bytes) s now i tight in
          ⊎_elim
          (λ (front : i < length (take at s.seen)). overwritten_front at bytes s.seen i front
          ∙ sound.stays i (omega (arith, length-take at s.seen)) parts.0)
          (λ (behind : length (take at s.seen) + length bytes ≤ i). overwritten_behind at bytes s.seen i behind
          ∙ sound.stays i (omega (arith, length-overwritten at bytes s.seen)) parts.0)
          parts.1;
    }

pub sound_resting : (bytes : List ℕ) → MayLeave (resting bytes) bytes
sound_resting bytes = record { no_shorter = omega arith; no_longer = omega arith; stays = λ i less tight. refl }

sound_after : (step : Step) (s : Side) → MayLeave s s.seen → MayLeave (after step s) (after step s).seen
sound_after (wrote at bytes) s sound = sound_write at bytes s sound
sound_after (cut_to len) s sound = record {
  no_shorter = omega arith;
  no_longer = omega arith;
  stays = λ i less tight. get_or-take len s.seen i 0 (omega (arith, length-take len s.seen))
      ∙ sound.stays i (omega (arith, length-take len s.seen)) tight;
}
sound_after synced s sound = sound_resting s.seen

pub sound_side : (half : Half) (start : List ℕ) (calls : List Call)
    → MayLeave (side half start calls) (side half start calls).seen
sound_side half start [] = sound_resting start
sound_side half start (call ∷ earlier) =
    let before = sound_side half start earlier in
    cond_both (is_same call.0 half) (after call.1 (side half start earlier)) (side half start earlier)
    (λ (s : Side). MayLeave s s.seen)
    (λ _. sound_after call.1 (side half start earlier) before) (λ _. before)

pub sound_sides : (start : Pair) (calls : List Call) → LeavesPair (sides start calls) (seen_of (sides start calls))
sound_sides start calls = (sound_side First start.0 calls, sound_side Second start.1 calls)

counts : (start : Pair) (calls : List Call) (t : ℕ) (c : Pair) → LeavesPair (sides start calls) c
    → LeftSince start calls t c
counts start [] t c now = now
counts start (call ∷ earlier) t c now = inl now

only : (start : Pair) (calls : List Call) (c : Pair) → LeftSince start calls (length calls) c
    → LeavesPair (sides start calls) c
only start [] c left = left
only start (call ∷ earlier) c (inl now) = now
only start (call ∷ earlier) c (inr before) = let none : ⊥ = omega (arith, before.0) in absurd none

wider : (start : Pair) (calls : List Call) (t u : ℕ) (c : Pair) → t ≤ u → LeftSince start calls u c
    → LeftSince start calls t c
wider start [] t u c le left = left
wider start (call ∷ earlier) t u c le (inl now) = inl now
wider start (call ∷ earlier) t u c le (inr before) =
    inr (omega (arith, before.0), wider start earlier t u c le before.1)

-- the laws of a disk that keeps a list of its calls
pub lawful_history : (start : Pair) (calls : List Call) (room : Room × Room) → IsLawful (shown_of start calls room)
lawful_history start calls room = record {
  reads = sound_sides start calls;
  counts_now = λ t c le now. counts start calls t c now;
  only_now = λ c left. only start calls c left;
  widens = λ t u c le left. wider start calls t u c le left;
}
