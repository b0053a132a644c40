-- A journal through any run of calls and crashes: `survived`.
use Rattle.std.proofs.Common.{◌≡◌, ◌⊎◌, inl, inr, ◌≤◌, ℕ, List, Option, Some, None, refl, sym, ◌∙◌, subst, ⊎_elim, arith}
use Rattle.heat_disk.specs.Halves.{Pair}
use Rattle.heat_disk.specs.Shown.{ShownDisk, IsLawful, IsDurable}
use Rattle.heat_disk.specs.Calls.{ReadsAlike}
use Rattle.row_journal.specs.Images.{ImageData}
use Rattle.row_journal.proofs.Found.{image_same}
use Rattle.row_journal.specs.Ends.{behind, with_next, Leaves, IsSealed, LeavesSealed, LeavesAjar, LeavesEither}
use Rattle.row_journal.specs.Mends.{Mended}
use Rattle.row_journal.specs.Openings.{Survives}
use Rattle.row_journal.specs.Ready.{IsReady}
use Rattle.row_journal.specs.Snapshots.{LeavesSnapshot}
use Rattle.row_journal.proofs.Tidy.{sealed_tidy, ajar_tidy, sealed_no_next, next_same}
use Rattle.row_journal.specs.Lives.{Given, record_of, snapshot_of, put, LeavesGiven, IsLater, Known, opening, acknowledges, tries, finds, Call, opens, opens_not, gives, gives_not, reads, reserves, Life, begins, goes_on, crashes_inside, crashes_between, LeavesLater, HasSurvived}

-- What a crash leaves: the image acknowledged last, with nothing behind it or with the record in doubt behind its
-- gate; or that with what the call in doubt was given.
data Holds (image : ImageData) (doubt : Option Given) (c : Pair) : Type 0 where
  kept : LeavesSealed image c → Holds image doubt c
  ajar : (payload : List ℕ) → doubt ≡ Some (record_of payload) → LeavesAjar image payload c → Holds image doubt c
  added : (given : Given) → doubt ≡ Some given → LeavesSealed (put given image) c → Holds image doubt c

-- what holds of all that is known and of the disk
record Stands (first : ImageData) (k : Known) (disk : ShownDisk) : Type 0 where
  later : IsLater first k.calls k.image
  doubtful : (given : Given) → k.doubt ≡ Some given → IsLater first k.calls (put given k.image)
  each : (c : Pair) → disk.may_leave c → Holds k.image k.doubt c

later_of : (first : ImageData) (k : Known) (disk : ShownDisk) → Stands first k disk → (c : Pair) → Holds k.image k.doubt c → LeavesLater first k c
later_of first k disk s c (kept left) = record { now = k.image; kept = inl refl; later = s.later; leaves = sealed_tidy k.image c left }
later_of first k disk s c (ajar payload is left) = record { now = k.image; kept = inl refl; later = s.later; leaves = ajar_tidy k.image payload c left }
later_of first k disk s c (added given is left) = record {
  now = put given k.image;
  kept = inr (given, is, refl);
  later = s.doubtful given is;
  leaves = sealed_tidy (put given k.image) c left;
}

-- a disk that is ready leaves its image alone
ready_holds : (image : ImageData) (doubt : Option Given) (disk : ShownDisk) → IsReady image disk → (c : Pair) → disk.may_leave c → Holds image doubt c
ready_holds image doubt disk ready c now =
    kept (subst (LeavesSealed image) (sym (ready.durable c now)) (record { is_image = ready.is_image; sealed = IsSealed.closed ready.closed }))

-- no call is in doubt
ready_stands : (first : ImageData) (k : Known) (disk : ShownDisk) → k.doubt ≡ None → IsLater first k.calls k.image → IsReady k.image disk → Stands first k disk
ready_stands first k disk none later ready = record {
  later = later;
  doubtful = λ given is. absurd (none_is (sym none ∙ is));
  each = ready_holds k.image k.doubt disk ready;
}
  where
    none_is : {given : Given} → None ≡ Some given → ⊥
    none_is same = cc

-- what a call was given is in doubt
given_holds : (given : Given) (image : ImageData) (c : Pair) → LeavesGiven given image c → Holds image (Some given) c
given_holds (record_of payload) image c (LeavesEither.without left) = kept left
given_holds (record_of payload) image c (LeavesEither.ajar left) = ajar payload refl left
given_holds (record_of payload) image c (LeavesEither.added left) = added (record_of payload) refl left
given_holds (snapshot_of payload) image c (LeavesSnapshot.before left) = kept left
given_holds (snapshot_of payload) image c (LeavesSnapshot.turned left) = added (snapshot_of payload) refl left

tried_stands : (first : ImageData) (k : Known) (given : Given) (disk : ShownDisk) → IsLater first k.calls k.image
    → ((c : Pair) → disk.may_leave c → LeavesGiven given k.image c) → Stands first (tries given k) disk
tried_stands first k given disk later each = record {
  later = (k.image, later, inr (refl, refl));
  doubtful = λ other is. subst (λ (g : Given). IsLater first (tries given k).calls (put g k.image)) (some_same is) (k.image, later, inl refl);
  each = λ c now. given_holds given k.image c (each c now);
}
  where
    some_same : {g h : Given} → Some g ≡ Some h → g ≡ h
    some_same same = cc

-- a recovery on what holds, whose image was read
module _ (image : ImageData) (doubt : Option Given) (seen c : Pair) where
  -- the image was read, sealed
  from_sealed : (read : ImageData) → IsSealed seen read → Mended read seen c → LeavesSealed read c
  from_sealed read sealed (Mended.same left) = left
  from_sealed read sealed (Mended.ajar gate payload apart next left) = absurd (sealed_no_next read seen gate payload sealed apart next)
  from_sealed read sealed (Mended.grown gate payload apart next left) = absurd (sealed_no_next read seen gate payload sealed apart next)

  from_ajar : (payload : List ℕ) → doubt ≡ Some (record_of payload) → LeavesAjar image payload seen → Mended image seen c → Holds image doubt c
  from_ajar payload is was (Mended.same left) = kept left
  from_ajar payload is was (Mended.ajar gate other apart next left) =
      let same = next_same image gate was.gate other payload (behind seen image) next was.next in
      ajar payload is (subst (λ (p : List ℕ). LeavesAjar image p c) same left)
  from_ajar payload is was (Mended.grown gate other apart next left) =
      let same = next_same image gate was.gate other payload (behind seen image) next was.next in
      added (record_of payload) is (subst (λ (p : List ℕ). LeavesSealed (with_next image p) c) same left)

-- what was read
read_of : (image : ImageData) (doubt : Option Given) (seen : Pair) → Holds image doubt seen → (read : ImageData) × Leaves read seen
    × ((read ≡ image) ⊎ ((given : Given) × (doubt ≡ Some given) × (read ≡ put given image)))
    × ((c : Pair) → Mended read seen c → Holds image doubt c)
read_of image doubt seen (kept left) =
    (image, sealed_tidy image seen left, inl refl, λ c it. kept (from_sealed image doubt seen c image left.sealed it))
read_of image doubt seen (ajar payload is left) =
    (image, ajar_tidy image payload seen left, inl refl, λ c it. from_ajar image doubt seen c payload is left it)
read_of image doubt seen (added given is left) = (
  put given image,
  sealed_tidy (put given image) seen left,
  inr (given, is, refl),
  λ c it. added given is (from_sealed image doubt seen c (put given image) left.sealed it),
)

module _ (first : ImageData) (k : Known) (old new : ShownDisk) (law : IsLawful old) (law_new : IsLawful new) (s : Stands first k old) where
  -- what it reads as, and the image of that
  at_seen : (read : ImageData) × Leaves read old.seen
      × ((read ≡ k.image) ⊎ ((given : Given) × (k.doubt ≡ Some given) × (read ≡ put given k.image)))
      × ((c : Pair) → Mended read old.seen c → Holds k.image k.doubt c)
  at_seen = read_of k.image k.doubt old.seen (s.each old.seen law.reads)

  opening_holds : (survives : Survives old new) (c : Pair) → new.left_since old.moment c → Holds k.image k.doubt c
  opening_holds survives c left = ⊎_elim (s.each c) (at_seen.3 c) ((survives at_seen.0 at_seen.1.is_image at_seen.1.tidy).each c left)

  opening_later : (survives : Survives old new) → old.moment ≤ new.moment
  opening_later survives = (survives at_seen.0 at_seen.1.is_image at_seen.1.tidy).later

  reads_holds : ReadsAlike old new → (c : Pair) → new.left_since old.moment c → Holds k.image k.doubt c
  reads_holds it c left = ⊎_elim (λ was. s.each c (law.only_now c was)) (λ now. s.each c (it.crash c now))
      (it.time.nothing_else old.moment c (omega arith) left)

  -- what is known as before, of a disk that leaves what it might have left since
  as_before : (disk : ShownDisk) → ((c : Pair) → disk.may_leave c → Holds k.image k.doubt c) → Stands first k disk
  as_before disk holds = record { later = s.later; doubtful = s.doubtful; each = holds }

  now_left : old.moment ≤ new.moment → (c : Pair) → new.may_leave c → new.left_since old.moment c
  now_left after c now = law_new.counts_now old.moment c after now

  -- the image that an opening found came of the first
  found_later : (read : ImageData) → ((read ≡ k.image) ⊎ ((given : Given) × (k.doubt ≡ Some given) × (read ≡ put given k.image))) → IsLater first k.calls read
  found_later read (inl is) = subst (IsLater first k.calls) (sym is) s.later
  found_later read (inr (given, doubt, is)) = subst (IsLater first k.calls) (sym is) (s.doubtful given doubt)

  behind_call : (next broken : Known) → Call old new k next broken → Stands first next new
  behind_call next broken (opens place payloads survives opened is _) =
      let same : at_seen.0 ≡ opened.image = image_same old.seen at_seen.0 opened.image at_seen.1.is_image opened.is_image in
      subst (λ (n : Known). Stands first n new) (sym is)
      (ready_stands first (finds opened.image k) new refl (subst (IsLater first k.calls) same (found_later at_seen.0 at_seen.2)) opened.ready)
  behind_call next broken (opens_not survives is _) =
      subst (λ (n : Known). Stands first n new) (sym is)
      (as_before new (λ c now. opening_holds survives c (now_left (opening_later survives) c now)))
  behind_call next broken (gives given before leaves after is _) =
      subst (λ (n : Known). Stands first n new) (sym is)
      (ready_stands first (acknowledges given k) new refl (k.image, s.later, inl refl) after)
  behind_call next broken (gives_not given before leaves is _) =
      subst (λ (n : Known). Stands first n new) (sym is)
      (tried_stands first k given new s.later (λ c now. leaves.each c (now_left leaves.later c now)))
  behind_call next broken (reads it is _) =
      subst (λ (n : Known). Stands first n new) (sym is)
      (as_before new (λ c now. reads_holds it c (now_left it.time.later c now)))
  behind_call next broken (reserves it is _) =
      subst (λ (n : Known). Stands first n new) (sym is)
      (as_before new (λ c now. s.each c ((it.crash c).0 now)))

  -- what a crash inside a call left, found again
  module _ (found : ShownDisk) (left : new.left_since old.moment found.seen) (durable : IsDurable found) where
    found_holds : (image : ImageData) (doubt : Option Given) → Holds image doubt found.seen → (c : Pair) → found.may_leave c → Holds image doubt c
    found_holds image doubt holds c now = subst (Holds image doubt) (sym (durable c now)) holds

    broken_stands : (given : Given) → LeavesGiven given k.image found.seen → Stands first (tries given k) found
    broken_stands given leaves = tried_stands first k given found s.later (λ c now. subst (LeavesGiven given k.image) (sym (durable c now)) leaves)

    inside_call : (next broken : Known) → Call old new k next broken → Stands first broken found
    inside_call next broken (opens place payloads survives opened _ is) =
        subst (λ (n : Known). Stands first n found) (sym is) (as_before found (found_holds k.image k.doubt (opening_holds survives found.seen left)))
    inside_call next broken (opens_not survives _ is) =
        subst (λ (n : Known). Stands first n found) (sym is) (as_before found (found_holds k.image k.doubt (opening_holds survives found.seen left)))
    inside_call next broken (gives given before leaves after _ is) =
        subst (λ (n : Known). Stands first n found) (sym is) (broken_stands given (leaves.each found.seen left))
    inside_call next broken (gives_not given before leaves _ is) =
        subst (λ (n : Known). Stands first n found) (sym is) (broken_stands given (leaves.each found.seen left))
    inside_call next broken (reads it _ is) =
        subst (λ (n : Known). Stands first n found) (sym is) (as_before found (found_holds k.image k.doubt (reads_holds it found.seen left)))
    inside_call next broken (reserves it _ is) =
        subst (λ (n : Known). Stands first n found) (sym is)
        (as_before found (found_holds k.image k.doubt (s.each found.seen (law.only_now found.seen ((it.since old.moment found.seen).0 left)))))

module _ {D : Type 0} (shown : D → ShownDisk) (lawful : (disk : D) → IsLawful (shown disk)) (first : ImageData) where
  stands : (k : Known) (disk : D) → Life shown first k disk → Stands first k (shown disk)
  stands k disk (begins _ _ is ready) =
      subst (λ (n : Known). Stands first n (shown disk)) (sym is) (ready_stands first (opening first) (shown disk) refl refl ready)
  stands k disk (goes_on before _ broken old _ life call) =
      behind_call first before (shown old) (shown disk) (lawful old) (lawful disk) (stands before old life) k broken call
  stands k disk (crashes_inside before next _ old new _ life call left durable) =
      inside_call first before (shown old) (shown new) (lawful old) (lawful new) (stands before old life) (shown disk) left durable next k call
  stands k disk (crashes_between _ old _ life left durable) =
      let s = stands k old life in
      record { later = s.later; doubtful = s.doubtful; each = λ c now. subst (Holds k.image k.doubt) (sym (durable c now)) (s.each (shown disk).seen left) }

  pub survived : (k : Known) (disk : D) → Life shown first k disk → HasSurvived first k (shown disk)
  survived k disk life =
      let s = stands k disk life in
      record { later = s.later; each = λ c now. later_of first k (shown disk) s c (s.each c now) }
