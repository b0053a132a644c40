-- What a disk that keeps its calls shows after one more.
use Rattle.std.proofs.Common.{◌≡◌, ◌⊎◌, ℕ, ◌≤◌, List, ◌∷◌, length, Ok, refl, sym, ◌∙◌, ap, subst, inl, inr, arith}
use Rattle.heat_disk.specs.declared.half.Half.{Half}
use Rattle.heat_disk.specs.declared.half.Half.TheVariants.{First, Second}
use Rattle.heat_disk.specs.Halves.{Pair, part}
use Rattle.heat_disk.specs.Images.{Torn, Cut, Follows, Only}
use Rattle.heat_disk.specs.Shown.{Room, ShownDisk, Elapses}
use Rattle.heat_disk.specs.Calls.{ReadsAlike, Writes, Cuts, Syncs}
use Rattle.heat_disk.specs.History.{wrote, cut_to, synced, Call, MayLeave, side, sides, seen_of, LeavesPair, shown_of}
use Rattle.heat_disk.specs.Memory.{Kept, counted, done, shown_by}
use Rattle.heat_disk.specs.Sound.{sound_side}
use Rattle.heat_disk.proofs.Breaks.{torn_from, cut_from, only_resting}

module _ (start : Pair) (calls : List Call) (room later : Room × Room) where
  before : ShownDisk
  before = shown_of start calls room

  elapses_call : (call : Call) → Elapses (shown_of start calls room) (shown_of start (call ∷ calls) later)
  elapses_call call = record {
    later = omega arith;
    nothing_else = λ t c le left. goes left;
    keeps = λ t c le left. inr (le, left);
  }
    where
      goes : {A B C : Type 0} → B ⊎ (C × A) → A ⊎ B
      goes (inl now) = inr now
      goes (inr left) = inl left.1

  torn_pair : (half : Half) (at : ℕ) (bytes : List ℕ) → at ≤ length (part half (seen_of (sides start calls)))
      → Follows half (Torn at (length bytes)) (LeavesPair (sides start calls)) (LeavesPair (sides start ((half, wrote at bytes) ∷ calls)))
  torn_pair First at bytes within c left =
      let from = torn_from at bytes (side First start.0 calls) (sound_side First start.0 calls) within c.0 left.0 in
      ((from.0, c.1), (from.1, left.1), (from.2, refl))
  torn_pair Second at bytes within c left =
      let from = torn_from at bytes (side Second start.1 calls) (sound_side Second start.1 calls) within c.1 left.1 in
      ((c.0, from.0), (left.0, from.1), (from.2, refl))

  cut_pair : (half : Half) (len : ℕ) → len ≤ length (part half (seen_of (sides start calls)))
      → Follows half (Cut len) (LeavesPair (sides start calls)) (LeavesPair (sides start ((half, cut_to len) ∷ calls)))
  cut_pair First len within c left =
      let from = cut_from len (side First start.0 calls) (sound_side First start.0 calls) within c.0 left.0 in
      ((from.0, c.1), (from.1, left.1), (from.2, refl))
  cut_pair Second len within c left =
      let from = cut_from len (side Second start.1 calls) (sound_side Second start.1 calls) within c.1 left.1 in
      ((c.0, from.0), (left.0, from.1), (from.2, refl))

  only_pair : (half : Half) → Only half (part half (seen_of (sides start calls))) (LeavesPair (sides start ((half, synced) ∷ calls)))
  only_pair First c left = only_resting (side First start.0 calls).seen c.0 left.0
  only_pair Second c left = only_resting (side Second start.1 calls).seen c.1 left.1

  settles : (half : Half) → ReadsAlike (shown_of start calls room) (shown_of start ((half, synced) ∷ calls) later)
  settles First = record {
    seen = refl;
    crash = λ c left. (subst (λ (l : List ℕ). MayLeave (side First start.0 calls) l) (sym (only_resting (side First start.0 calls).seen c.0 left.0)) (sound_side First start.0 calls), left.1);
    time = elapses_call (First, synced);
  }
  settles Second = record {
    seen = refl;
    crash = λ c left. (left.0, subst (λ (l : List ℕ). MayLeave (side Second start.1 calls) l) (sym (only_resting (side Second start.1 calls).seen c.1 left.1)) (sound_side Second start.1 calls));
    time = elapses_call (Second, synced);
  }

  pub writes : {T E : Type 0} (r : T) (half : Half) (at : ℕ) (bytes : List ℕ) → at ≤ length (part half (seen_of (sides start calls)))
      → Writes {T = T} {E = E} half at bytes (Ok r) (shown_of start calls room) (shown_of start ((half, wrote at bytes) ∷ calls) later)
  writes r First at bytes within = record { written = refl; partly = tt; crash = torn_pair First at bytes within; time = elapses_call (First, wrote at bytes) }
  writes r Second at bytes within = record { written = refl; partly = tt; crash = torn_pair Second at bytes within; time = elapses_call (Second, wrote at bytes) }

  pub cuts : {T E : Type 0} (r : T) (half : Half) (len : ℕ) → len ≤ length (part half (seen_of (sides start calls)))
      → Cuts {T = T} {E = E} half len (Ok r) (shown_of start calls room) (shown_of start ((half, cut_to len) ∷ calls) later)
  cuts r First len within = record { cut = refl; partly = tt; crash = cut_pair First len within; time = elapses_call (First, cut_to len) }
  cuts r Second len within = record { cut = refl; partly = tt; crash = cut_pair Second len within; time = elapses_call (Second, cut_to len) }

  pub syncs : {T E : Type 0} (r : T) (half : Half) → Syncs {T = T} {E = E} half (Ok r) (shown_of start calls room) (shown_of start ((half, synced) ∷ calls) later)
  syncs r half = record { durable = only_pair half; alike = settles half }

-- the same for a disk in memory, whose call was counted and then done
module _ {T E : Type 0} (r : T) (half : Half) (old mid new : Kept) (counts : mid ≡ counted old) where
  pub wrote_kept : (at : ℕ) (bytes : List ℕ) → new ≡ done half (wrote at bytes) mid → at ≤ length (part half (shown_by old).seen) → Writes {T = T} {E = E} half at bytes (Ok r) (shown_by old) (shown_by new)
  wrote_kept at bytes is within =
      subst (λ (d : Kept). Writes {T = T} {E = E} half at bytes (Ok r) (shown_by old) (shown_by d)) (sym (is ∙ ap (done half (wrote at bytes)) counts))
      (writes old.start old.calls old.room (done half (wrote at bytes) (counted old)).room r half at bytes within)

  pub cut_kept : (len : ℕ) → new ≡ done half (cut_to len) mid → len ≤ length (part half (shown_by old).seen) → Cuts {T = T} {E = E} half len (Ok r) (shown_by old) (shown_by new)
  cut_kept len is within =
      subst (λ (d : Kept). Cuts {T = T} {E = E} half len (Ok r) (shown_by old) (shown_by d)) (sym (is ∙ ap (done half (cut_to len)) counts))
      (cuts old.start old.calls old.room (done half (cut_to len) (counted old)).room r half len within)

  pub synced_kept : new ≡ done half synced mid → Syncs {T = T} {E = E} half (Ok r) (shown_by old) (shown_by new)
  synced_kept is =
      subst (λ (d : Kept). Syncs {T = T} {E = E} half (Ok r) (shown_by old) (shown_by d)) (sym (is ∙ ap (done half synced) counts))
      (syncs old.start old.calls old.room (done half synced (counted old)).room r half)
