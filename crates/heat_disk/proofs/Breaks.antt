-- Each image after a step of a half is an image from before it that went through the step.
use Rattle.std.proofs.Common.{◌≡◌, ◌⊎◌, ℕ, ◌+◌, ◌<◌, ◌≤◌, min, max, false, ◌&&◌, cond, nat_lt, nat_le, List, [], length, get_or, take, drop, sym, ◌∙◌, ap, subst, inl, inr, ⊎_elim, arith, length-take}
use Rattle.std.proofs.lemmas.Bool.{cases_lt, cond-true, cond-false, and_from, and_left, and_right, lt-ltb, le-ltb, le-leb, lt-leb, not_from_true}
use Rattle.std.proofs.lemmas.List.{ext_get_or, get_or-take, drop_all}
use Rattle.heat_disk.specs.Images.{overwritten, Torn, Cut}
use Rattle.heat_disk.specs.History.{wrote, cut_to, Side, resting, after, is_loose, MayLeave, tabulate, Call, sides, seen_of, LeavesPair}
use Rattle.heat_disk.specs.Halves.{Pair}
use Rattle.heat_disk.specs.Sound.{length-overwritten, tight_from}
use Rattle.heat_disk.proofs.Tables.{length-tabulate, get_or-tabulate, is_front, same_rest}

-- inside the range, what was there at the last sync; elsewhere the image
healed : ℕ → ℕ → Side → List ℕ → ℕ → ℕ
healed at n s image i = cond (nat_le at i && nat_lt i (at + n)) (get_or s.kept i 0) (get_or image i 0)

is_out : (at n i : ℕ) → (i < at) ⊎ (at + n ≤ i) → (nat_le at i && nat_lt i (at + n)) ≡ false
is_out at n i (inl front) = and_left (nat_le at i) (nat_lt i (at + n)) (lt-leb at i front)
is_out at n i (inr behind) = and_right (nat_le at i) (nat_lt i (at + n)) (le-ltb i (at + n) behind)

healed_out : (at n : ℕ) (s : Side) (image : List ℕ) (i : ℕ) → (i < at) ⊎ (at + n ≤ i) → healed at n s image i ≡ get_or image i 0
unfolding healed
healed_out at n s image i outside =
    cond-false (nat_le at i && nat_lt i (at + n)) (get_or s.kept i 0) (get_or image i 0) (is_out at n i outside)

healed_in : (at n : ℕ) (s : Side) (image : List ℕ) (i : ℕ) → at ≤ i → i < at + n → healed at n s image i ≡ get_or s.kept i 0
unfolding healed
healed_in at n s image i from less =
    cond-true (nat_le at i && nat_lt i (at + n)) (get_or s.kept i 0) (get_or image i 0)
    (and_from (nat_le at i) (nat_lt i (at + n)) (le-leb at i from) (lt-ltb i (at + n) less))

module _ (at : ℕ) (bytes : List ℕ) (s : Side) (sound : MayLeave s s.seen) (within : at ≤ length s.seen) (image : List ℕ) (left : MayLeave (after (wrote at bytes) s) image) where
  n : ℕ
  n = length bytes

  from_is : length (take at s.seen) ≡ at
  from_is = omega (arith, length-take at s.seen)

  size : ℕ
  size = min (length image) s.greatest

  old : List ℕ
  old = tabulate size (healed at (length bytes) s image)

  length-old : length old ≡ min (length image) s.greatest
  unfolding old size
  length-old = length-tabulate _ _

  old_at : (i : ℕ) → i < length old → get_or old i 0 ≡ healed at (length bytes) s image i
  unfolding old size
  old_at i less = get_or-tabulate _ _ i (omega (arith, length-tabulate (min (length image) s.greatest) (healed at (length bytes) s image)))

  -- outside the range the new image has what is there
  tight_there : (i : ℕ) → is_loose s i ≡ false → (i < at) ⊎ (at + length bytes ≤ i) → i < length image → get_or image i 0 ≡ get_or s.kept i 0
  tight_there i tight outside less =
      left.stays i less (tight_from (length (take at s.seen)) (length bytes) s (overwritten at bytes s.seen) i tight
      (⊎_elim (λ (l : i < at). inl (omega (arith, from_is))) (λ (l : at + length bytes ≤ i). inr (omega (arith, from_is))) outside))

  old_left : MayLeave s old
  old_left = record {
    no_shorter = omega (arith, length-old, left.no_shorter, sound.no_shorter, sound.no_longer, length-overwritten at bytes s.seen, from_is);
    no_longer = omega (arith, length-old);
    stays = λ i less tight. old_at i less ∙ kept i less tight (cases_lt i at) (cases_lt i (at + length bytes));
  }
    where
      kept : (i : ℕ) → i < length old → is_loose s i ≡ false → (i < at) ⊎ (at ≤ i) → (i < at + length bytes) ⊎ (at + length bytes ≤ i) → healed at (length bytes) s image i ≡ get_or s.kept i 0
      kept i less tight (inl front) either = healed_out at (length bytes) s image i (inl front) ∙ tight_there i tight (inl front) (omega (arith, length-old))
      kept i less tight (inr from) (inl to) = healed_in at (length bytes) s image i from to
      kept i less tight (inr from) (inr behind) = healed_out at (length bytes) s image i (inr behind) ∙ tight_there i tight (inr behind) (omega (arith, length-old))

  old_torn : Torn at (length bytes) old image
  old_torn = record {
    front = sym (ext_get_or 0 (take at old) (take (length (take at old)) image) (omega (arith, length-take at old, length-take (length (take at old)) image, length-old)) same_front);
    behind = ends (cases_lt (length old) (length image));
    no_shorter = omega (arith, length-old);
    no_longer = longest;
  }
    where
      longest : length image ≤ max (length old) (at + length bytes)
      longest = omega (arith, length-old, left.no_longer, sound.no_longer, length-overwritten at bytes s.seen, from_is)

      same_front : (i : ℕ) → i < length (take at old) → get_or (take at old) i 0 ≡ get_or (take (length (take at old)) image) i 0
      same_front i less =
          get_or-take at old i 0 (omega (arith, length-take at old))
          ∙ old_at i (omega (arith, length-take at old))
          ∙ healed_out at (length bytes) s image i (inl (omega (arith, length-take at old)))
          ∙ sym (get_or-take (length (take at old)) image i 0 less)

      ends : (length old < length image) ⊎ (length image ≤ length old) → drop (at + length bytes) image ≡ drop (at + length bytes) old
      ends (inl grown) = drop_all (at + length bytes) image (omega (arith, longest)) ∙ sym (drop_all (at + length bytes) old (omega (arith, longest)))
      ends (inr whole) = same_rest (at + length bytes) image old (omega (arith, length-old))
          (λ i behind less. sym (old_at i (omega (arith, length-old)) ∙ healed_out at (length bytes) s image i (inr behind)))

  -- an image from before the write, torn by it
  pub torn_from : (d : List ℕ) × MayLeave s d × Torn at (length bytes) d image
  torn_from = (old, old_left, old_torn)

module _ (len : ℕ) (s : Side) (sound : MayLeave s s.seen) (within : len ≤ length s.seen) (image : List ℕ) (left : MayLeave (after (cut_to len) s) image) where
  -- behind the image, what was there at the last sync
  longer : ℕ → ℕ
  longer i = cond (nat_lt i (length image)) (get_or image i 0) (get_or s.kept i 0)

  whole : List ℕ
  whole = tabulate (max s.least (length image)) longer

  length-whole : length whole ≡ max s.least (length image)
  unfolding whole
  length-whole = length-tabulate _ _

  whole_at : (i : ℕ) → i < length whole → get_or whole i 0 ≡ longer i
  unfolding whole
  whole_at i less = get_or-tabulate _ _ i (omega (arith, length-tabulate (max s.least (length image)) longer))

  longer_front : (i : ℕ) → i < length image → longer i ≡ get_or image i 0
  unfolding longer
  longer_front i less = cond-true (nat_lt i (length image)) (get_or image i 0) (get_or s.kept i 0) (lt-ltb i (length image) less)

  longer_behind : (i : ℕ) → length image ≤ i → longer i ≡ get_or s.kept i 0
  unfolding longer
  longer_behind i more = cond-false (nat_lt i (length image)) (get_or image i 0) (get_or s.kept i 0) (le-ltb i (length image) more)

  whole_left : MayLeave s whole
  whole_left = record {
    no_shorter = omega (arith, length-whole);
    no_longer = omega (arith, length-whole, left.no_longer, sound.no_longer, sound.no_shorter, length-take len s.seen);
    stays = λ i less tight. whole_at i less ∙ kept i tight (cases_lt i (length image));
  }
    where
      kept : (i : ℕ) → is_loose s i ≡ false → (i < length image) ⊎ (length image ≤ i) → longer i ≡ get_or s.kept i 0
      kept i tight (inl front) = longer_front i front ∙ left.stays i front tight
      kept i tight (inr behind) = longer_behind i behind

  whole_cut : Cut len whole image
  whole_cut = record {
    front = is_front image whole (omega (arith, length-whole)) (λ i less. whole_at i (omega (arith, length-whole)) ∙ longer_front i less);
    no_shorter = omega (arith, length-whole, left.no_shorter, length-take len s.seen);
  }

  -- an image from before the cut, of which it leaves the front
  pub cut_from : (d : List ℕ) × MayLeave s d × Cut len d image
  cut_from = (whole, whole_left, whole_cut)

-- once all is on the disk, a crash leaves what is there
pub only_resting : (bytes image : List ℕ) → MayLeave (resting bytes) image → image ≡ bytes
only_resting bytes image left =
    let same : length image ≡ length bytes = omega (arith, left.no_shorter, left.no_longer) in
    ext_get_or 0 image bytes same (λ i less. left.stays i less (not_from_true (nat_lt i (length bytes)) (lt-ltb i (length bytes) (omega arith))))

-- before its first call a disk leaves what it reads as
pub fresh_durable : (start : Pair) (calls : List Call) → calls ≡ [] → (c : Pair) → LeavesPair (sides start calls) c → c ≡ seen_of (sides start calls)
fresh_durable start calls none =
    subst (λ (l : List Call). (c : Pair) → LeavesPair (sides start l) c → c ≡ seen_of (sides start l)) (sym none)
    (λ c left. ap (λ (l : List ℕ). (l, c.1)) (only_resting start.0 c.0 left.0) ∙ ap (λ (l : List ℕ). (start.0, l)) (only_resting start.1 c.1 left.1))
