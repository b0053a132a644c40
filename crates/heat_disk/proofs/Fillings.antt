-- The longest image of a half with one byte where anything may stand, step by step.
use Rattle.std.proofs.Common.{◌≡◌, ◌⊎◌, ℕ, ◌+◌, ◌-◌, ◌<◌, ◌≤◌, max, true, false, not, ◌&&◌, cond, nat_lt, nat_le, List, [], length, get_or, take, replicate, Option, Some, None, Result, Ok, Err, IfOk, IsSome, sym, ◌∙◌, ap, subst, inl, inr, ⊎_elim, arith, length-take}
use Rattle.std.proofs.lemmas.Bool.{cases_lt, cases_Bool, or_cases, or_left, or_right, cond-true, cond-false, and_from, lt-ltb, le-leb, not_from_true}
use Rattle.std.proofs.lemmas.List.{ext_get_or, get_or-replicate, length-replicate}
use Rattle.heat_disk.specs.declared.half.Half.{Half}
use Rattle.heat_disk.specs.declared.half.Half.TheVariants.{First, Second}
use Rattle.heat_disk.specs.Halves.{Pair, part}
use Rattle.heat_disk.specs.Images.{overwritten}
use Rattle.heat_disk.specs.Memory.{Kept, fresh, shown_by, IsLongest}
use Rattle.heat_disk.specs.History.{Step, wrote, cut_to, synced, Side, resting, after, is_in, is_loose, MayLeave, tabulate, filled, Call, side, sides, LeavesPair, image_of}
use Rattle.heat_disk.specs.Replay.{filled_after}
use Rattle.heat_disk.specs.Sound.{length-overwritten, overwritten_front, overwritten_range, overwritten_behind, tight_from, sound_side, sound_sides}
use Rattle.heat_disk.proofs.Tables.{length-tabulate, get_or-tabulate}

pub length-filled : (b : ℕ) (s : Side) → length (filled b s) ≡ s.greatest
length-filled b s = length-tabulate s.greatest (λ i. cond (is_loose s i) b (get_or s.kept i 0))

pub filled_at : (b : ℕ) (s : Side) (i : ℕ) → i < s.greatest → get_or (filled b s) i 0 ≡ cond (is_loose s i) b (get_or s.kept i 0)
filled_at b s i less = get_or-tabulate s.greatest (λ k. cond (is_loose s k) b (get_or s.kept k 0)) i less

filled_loose : (b : ℕ) (s : Side) (i : ℕ) → i < s.greatest → is_loose s i ≡ true → get_or (filled b s) i 0 ≡ b
filled_loose b s i less loose = filled_at b s i less ∙ cond-true (is_loose s i) b (get_or s.kept i 0) loose

filled_tight : (b : ℕ) (s : Side) (i : ℕ) → i < s.greatest → is_loose s i ≡ false → get_or (filled b s) i 0 ≡ get_or s.kept i 0
filled_tight b s i less tight = filled_at b s i less ∙ cond-false (is_loose s i) b (get_or s.kept i 0) tight

-- it is an image
pub filled_left : (b : ℕ) (s : Side) → s.least ≤ s.greatest → MayLeave s (filled b s)
filled_left b s le = record {
  no_shorter = omega (arith, length-filled b s);
  no_longer = omega (arith, length-filled b s);
  stays = λ i less tight. filled_tight b s i (omega (arith, length-filled b s)) tight;
}

-- and there is none longer
pub filled_longest : (b : ℕ) (s : Side) (image : List ℕ) → MayLeave s image → length image ≤ length (filled b s)
filled_longest b s image left = omega (arith, length-filled b s, left.no_longer)

pub filled-resting : (b : ℕ) (bytes : List ℕ) → filled b (resting bytes) ≡ bytes
filled-resting b bytes =
    ext_get_or 0 (filled b (resting bytes)) bytes (length-filled b (resting bytes))
    (λ i less. filled_tight b (resting bytes) i (omega (arith, length-filled b (resting bytes)))
    (not_from_true (nat_lt i (length bytes)) (lt-ltb i (length bytes) (omega (arith, length-filled b (resting bytes))))))

module _ (b at : ℕ) (bytes : List ℕ) (s : Side) (sound : MayLeave s s.seen) where
  from : ℕ
  from = length (take at s.seen)

  now : Side
  now = after (wrote at bytes) s

  fill : List ℕ
  fill = replicate (length bytes) b

  was : List ℕ
  was = filled b s

  front_is : length (take from was) ≡ from
  unfolding from was
  front_is = omega (arith, length-take (length (take at s.seen)) (filled b s), length-filled b s, length-take at s.seen, sound.no_longer)

  greatest_is : now.greatest ≡ max s.greatest (from + length bytes)
  unfolding now from
  greatest_is = omega (arith, length-overwritten at bytes s.seen, sound.no_longer)

  length-fill : length fill ≡ length bytes
  unfolding fill
  length-fill = length-replicate (length bytes) b

  same_length : length (filled b now) ≡ length (overwritten from fill was)
  unfolding was
  same_length = omega (arith, length-filled b now, greatest_is, length-overwritten from fill (filled b s), length-filled b s, front_is, length-fill)

  kept_loose : (i : ℕ) → is_loose s i ≡ true → is_loose now i ≡ true
  unfolding now
  kept_loose i loose =
      ⊎_elim
      (λ (e : is_in s.loose i ≡ true). or_left (is_in (after (wrote at bytes) s).loose i) (not (nat_lt i (length s.kept))) (or_right (nat_le (length (take at s.seen)) i && nat_lt i (length (take at s.seen) + length bytes)) (is_in s.loose i) e))
      (λ (e : not (nat_lt i (length s.kept)) ≡ true). or_right (is_in (after (wrote at bytes) s).loose i) (not (nat_lt i (length s.kept))) e)
      (or_cases (is_in s.loose i) (not (nat_lt i (length s.kept))) loose)

  in_range : (i : ℕ) → from ≤ i → i < from + length bytes → is_loose now i ≡ true
  unfolding now from
  in_range i lower upper =
      or_left (is_in (after (wrote at bytes) s).loose i) (not (nat_lt i (length s.kept)))
      (or_left (nat_le (length (take at s.seen)) i && nat_lt i (length (take at s.seen) + length bytes)) (is_in s.loose i)
      (and_from (nat_le (length (take at s.seen)) i) (nat_lt i (length (take at s.seen) + length bytes)) (le-leb (length (take at s.seen)) i lower) (lt-ltb i (length (take at s.seen) + length bytes) upper)))

  outside : (i : ℕ) → i < s.greatest → (i < from) ⊎ (from + length bytes ≤ i) → get_or (filled b now) i 0 ≡ get_or was i 0
  unfolding was from now
  outside i less out =
      ⊎_elim
      (λ (e : is_loose s i ≡ true). filled_loose b (after (wrote at bytes) s) i (omega arith) (kept_loose i e) ∙ sym (filled_loose b s i less e))
      (λ (e : is_loose s i ≡ false). filled_tight b (after (wrote at bytes) s) i (omega arith) (tight_from (length (take at s.seen)) (length bytes) s (overwritten at bytes s.seen) i e out) ∙ sym (filled_tight b s i less e))
      (cases_Bool (is_loose s i))

  length-was : length was ≡ s.greatest
  unfolding was
  length-was = length-filled b s

  fill_at : (i : ℕ) → i < length bytes → get_or fill i 0 ≡ b
  unfolding fill
  fill_at i less = get_or-replicate (length bytes) i b 0 less

  each : (i : ℕ) → i < length (filled b now) → (i < from) ⊎ (from ≤ i) → (i < from + length bytes) ⊎ (from + length bytes ≤ i) → get_or (filled b now) i 0 ≡ get_or (overwritten from fill was) i 0
  each i less (inl front) either =
      outside i (omega (arith, front_is, length-take from was, length-was)) (inl front) ∙ sym (overwritten_front from fill was i (omega (arith, front_is)))
  each i less (inr lower) (inl upper) =
      filled_loose b now i (omega (arith, length-filled b now)) (in_range i lower upper)
      ∙ sym (overwritten_range from fill was i (omega (arith, front_is)) (omega (arith, front_is, length-fill)) ∙ fill_at (i - length (take from was)) (omega (arith, front_is)))
  each i less (inr lower) (inr behind) =
      outside i (omega (arith, length-filled b now, greatest_is)) (inr behind) ∙ sym (overwritten_behind from fill was i (omega (arith, front_is, length-fill)))

  filled_write : filled b now ≡ overwritten from fill was
  filled_write = ext_get_or 0 (filled b now) (overwritten from fill was) same_length (λ i less. each i less (cases_lt i from) (cases_lt i (from + length bytes)))

  pub filled-wrote : filled b (after (wrote at bytes) s) ≡ overwritten (length (take at s.seen)) (replicate (length bytes) b) (filled b s)
  unfolding now from fill was
  filled-wrote = filled_write

pub filled-after : (b : ℕ) (step : Step) (s : Side) → MayLeave s s.seen → filled b (after step s) ≡ filled_after b step s.seen (filled b s)
filled-after b (wrote at bytes) s sound = filled-wrote b at bytes s sound
filled-after b (cut_to len) s sound =
    let same : (after (cut_to len) s).greatest ≡ s.greatest = omega (arith, length-take len s.seen, sound.no_longer) in
    ap (λ (n : ℕ). tabulate n (λ i. cond (is_loose s i) b (get_or s.kept i 0))) same
filled-after b synced s sound = filled-resting b s.seen

-- both images of a crash are among those that it may leave
filled_side : (half : Half) (start : List ℕ) (calls : List Call) (b : ℕ) → MayLeave (side half start calls) (filled b (side half start calls))
filled_side half start calls b = let sound = sound_side half start calls in filled_left b (side half start calls) (omega (arith, sound.no_shorter, sound.no_longer))

pub image_may_be_left : (fill : Option ℕ) (start : Pair) (calls : List Call) → LeavesPair (sides start calls) (image_of fill (sides start calls))
image_may_be_left None start calls = sound_sides start calls
image_may_be_left (Some b) start calls = (filled_side First start.0 calls b, filled_side Second start.1 calls b)

pub image_left : {E : Type 0} (fill : Option ℕ) (disk : Kept) (first second : List ℕ) (result : Result Kept E)
    → first ≡ part First (image_of fill (sides disk.start disk.calls)) → second ≡ part Second (image_of fill (sides disk.start disk.calls))
    → IfOk result (λ crashed. crashed ≡ fresh (first, second) []) → IfOk result (λ crashed. (shown_by disk).may_leave (shown_by crashed).seen)
image_left what disk first second (Err e) a b is = tt
image_left what disk first second (Ok crashed) a b is =
    let left = image_may_be_left what disk.start disk.calls in
    subst (λ (d : Kept). (shown_by disk).may_leave (shown_by d).seen) (sym is)
    (subst (λ (l : List ℕ). LeavesPair (sides disk.start disk.calls) (l, second)) (sym a)
    (subst (λ (l : List ℕ). LeavesPair (sides disk.start disk.calls) ((image_of what (sides disk.start disk.calls)).0, l)) (sym b) left))

-- and with a byte for the free places, none is longer
pub image_longest : {E : Type 0} (fill : Option ℕ) → IsSome fill → (disk : Kept) (first second : List ℕ) (result : Result Kept E)
    → first ≡ part First (image_of fill (sides disk.start disk.calls)) → second ≡ part Second (image_of fill (sides disk.start disk.calls))
    → IfOk result (λ crashed. crashed ≡ fresh (first, second) []) → IfOk result (IsLongest (shown_by disk))
image_longest None some disk first second result a b is = cc
image_longest (Some byte) some disk first second (Err e) a b is = tt
image_longest (Some byte) some disk first second (Ok crashed) a b is = record {
  first = λ c left. omega (arith, filled_longest byte (side First disk.start.0 disk.calls) c.0 left.0, ap length a, ap (λ (d : Kept). length (shown_by d).seen.0) is);
  second = λ c left. omega (arith, filled_longest byte (side Second disk.start.1 disk.calls) c.1 left.1, ap length b, ap (λ (d : Kept). length (shown_by d).seen.1) is);
}
