-- A recovery, once the image is known: the syncs, and the closed gate that is written.
use Rattle.std.proofs.Common.{◌≡◌, ◌≢◌, ℕ, ◌+◌, ◌<◌, ◌≤◌, Bool, true, false, if◌then◌else◌, nat_lt, append_assoc, List, [], ◌∷◌, ◌++◌, length, get_or, take, drop, Option, Some, None, Result, OnOk, refl, sym, ◌∙◌, ap, subst, arith, length-append}
use Rattle.std.proofs.lemmas.List.{length-take-le, length-take}
use Rattle.heat_disk.specs.declared.half.Half.{Half}
use Rattle.heat_disk.specs.declared.half.Half.TheVariants.{First, Second}
use Rattle.heat_disk.specs.declared.disk.DiskFailed.{DiskFailed}
use Rattle.heat_disk.specs.Halves.{Pair, part, beside, changed}
use Rattle.heat_disk.specs.Images.{overwritten, Torn, StepsAt, Only}
use Rattle.heat_disk.specs.Shown.{ShownDisk, IsLawful}
use Rattle.heat_disk.specs.Calls.{Writes, Syncs}
use Rattle.heat_disk.proofs.Parts.{part-changed, beside-changed}
use Rattle.row_journal.specs.declared.headers.Header.{Header}
use Rattle.row_journal.specs.Forms.{journal_mark, body, spelled}
use Rattle.row_journal.specs.Images.{ImageData, IsPlain, Gives, live, IsImage}
use Rattle.row_journal.specs.declared.place.Place.{Place}
use Rattle.row_journal.specs.Places.{place_of}
use Rattle.row_journal.specs.declared.looking.Ending.TheVariants.{Open}
use Rattle.row_journal.specs.Ends.{end_of, behind, HasNext, IsTidy, LeavesAjar, LeavesEither}
use Rattle.row_journal.specs.Mends.{other, IsSettled, HasMended, Mended}
use Rattle.row_journal.specs.Ready.{IsReady}
use Rattle.row_journal.specs.Unsynced.{IsLastUnsynced, gate_unsynced}
use Rattle.row_journal.proofs.Cuts.{torn_at, no_shorter}
use Rattle.row_journal.proofs.Laid.{gives_half, laid}
use Rattle.row_journal.proofs.Recordings.{moved, on_ok}
use Rattle.row_journal.proofs.Torn.{IsBehind, shut, tail_is, still_marked, leaves_either}
use Rattle.row_journal.proofs.Runs.{SoFar, begins, next, synced, durable_beside, written_beside, synced_durable}

pub beside-other : {A : Type 0} (half : Half) (p : A × A) → beside (other half) p ≡ part half p
beside-other First p = refl
beside-other Second p = refl

-- an image that doesn't end short begins with its mark
plain_marked : (bytes : List ℕ) (image : ImageData) → IsPlain bytes image.version image.payloads → 9 < length bytes → take 8 bytes ≡ journal_mark image.version
plain_marked bytes image (IsPlain.fresh short _ _) long = absurd (omega (arith, short, long))
plain_marked bytes image (IsPlain.marked _ mark _) long = mark

-- a live half that isn't born is First
unborn_first : (a b : Option Header) → part (live a b) (a, b) ≡ None → live a b ≡ First
unborn_first None None none = refl
unborn_first (Some a) None none = refl
unborn_first None (Some b) none = absurd (cc)
unborn_first (Some a) (Some b) none = both_born (nat_lt a.epoch b.epoch) a b none
  where
    both_born : (later : Bool) (a b : Header) → part (if later then Second else First) (Some a, Some b) ≡ None → (if later then Second else First) ≡ First
    both_born true a b none = absurd (cc)
    both_born false a b none = refl

gives_marked : (half : Half) (header : Option Header) (bytes : List ℕ) (image : ImageData) → Gives half bytes header image → (header ≡ None → 9 < length bytes) → image.start ≡ 8 → take 8 bytes ≡ journal_mark image.version
gives_marked half None bytes image gives long start = plain_marked bytes image gives.1.plain (long refl)
gives_marked half (Some header) bytes image gives long start = absurd (omega (arith, start, gives.1.start))

pub not_short : (halves : Pair) (image : ImageData) → IsImage halves image → (image.half ≡ First → 9 < length (part image.half halves)) → image.start ≡ 8 → take 8 (part image.half halves) ≡ journal_mark image.version
not_short halves image is_image long =
    let headers = is_image.headers in
    let half = live headers.0 headers.1 in
    let same = gives_half half (part half halves) (part half headers) image is_image.gives in
    subst (λ (h : Half). image.start ≡ 8 → take 8 (part h halves) ≡ journal_mark image.version) (sym same)
    (gives_marked half (part half headers) (part half halves) image is_image.gives
    (λ none. subst (λ (h : Half). 9 < length (part h halves)) same (long (same ∙ unborn_first headers.0 headers.1 none))))

-- how the gate closes
module _ (place : Place) (image : ImageData) (is : place ≡ place_of image) (old : ShownDisk) (law : IsLawful old) (settled : IsSettled image Open old) where
  abbrev bytes : List ℕ
  bytes = part image.half old.seen

  marked : image.start ≡ 8 → take 8 bytes ≡ journal_mark image.version
  marked = not_short old.seen image settled.is_image settled.ends.0

  within : end_of image ≤ length bytes
  within =
      let lies = laid old.seen image settled.is_image marked in
      omega (arith, ap length lies.front, lies.start, length-append (take image.start bytes) (spelled image.version 1 image.payloads), length-take-le image.start bytes lies.start, length-take (end_of image) bytes)

  pub at_end : place.end ≤ length (part place.half old.seen)
  at_end = subst (λ (q : Place). q.end ≤ length (part q.half old.seen)) (sym is) within

  module _ (first : ShownDisk) (one : Result (Unit {0}) DiskFailed) (wrote : Writes place.half place.end (0 ∷ []) one old first) where
    writes : Writes image.half (end_of image) (0 ∷ []) one old first
    writes = moved (λ h n b. Writes h n (0 ∷ []) one old first) place image is [] [] refl wrote

    module _ (gate : ℕ) (payload : List ℕ) (has : HasNext image gate payload (behind old.seen image)) where
      shut_before : gate ≢ 0
      shut_before zero = settled.ends.1 (record {
        rest = body image.version (length image.payloads + 1) payload ++ 0 ∷ has.rest;
        gate = has.parts ∙ ap (λ (g : ℕ). g ∷ body image.version (length image.payloads + 1) payload ++ 0 ∷ has.rest) zero;
      })

      mended_so : (c : Pair) → LeavesEither image payload c → Mended image old.seen c
      mended_so c (LeavesEither.without left) = Mended.same left
      mended_so c (LeavesEither.ajar left) = Mended.ajar gate payload shut_before has left
      mended_so c (LeavesEither.added left) = Mended.grown gate payload shut_before has left

      mended : (c : Pair) → first.may_leave c → Mended image old.seen c
      mended c now =
          let from = writes.crash c now in
          let was = settled.durable from.0 from.1 in
          let torn : Torn (end_of image) 1 bytes (part image.half c) = subst (λ (d : Pair). Torn (end_of image) 1 (part image.half d) (part image.half c)) was from.2.0 in
          let tail = body image.version (length image.payloads + 1) payload ++ 0 ∷ has.rest in
          mended_so c (leaves_either old.seen image settled.is_image marked payload has.sized has.rest c (get_or (part image.half c) (end_of image) 0) (record {
            other = from.2.1 ∙ ap (beside image.half) was;
            parts = torn_at (end_of image) bytes gate tail has.parts (part image.half c) torn;
            no_shorter = torn.no_shorter;
          }))

      at_old : SoFar old old (Mended image old.seen)
      at_old = begins old (Mended image old.seen) law
          (λ c now. Mended.ajar gate payload shut_before has (subst (LeavesAjar image payload) (sym (settled.durable c now)) (record { is_image = settled.is_image; gate = gate; next = has })))

      pub at_first : SoFar old first (Mended image old.seen)
      at_first = next old old first (Mended image old.seen) at_old writes.time mended

      -- the gate's byte alone
      stepped : (c : Pair) → first.may_leave c → StepsAt image.half (Torn (end_of image) 1) old.seen c
      stepped c now =
          let from = writes.crash c now in
          subst (λ (d : Pair). StepsAt image.half (Torn (end_of image) 1) d c) (settled.durable from.0 from.1) from.2

      later_unsynced : (last : ShownDisk) → ((c : Pair) → last.may_leave c → first.may_leave c) → IsLastUnsynced last
      later_unsynced last fewer = gate_unsynced old.seen image gate payload settled.is_image has (λ c now. stepped c (fewer c now))

    -- only so it is tidy
    pub first_leaves : IsTidy old.seen image → SoFar old first (Mended image old.seen)
    first_leaves (IsTidy.short half few) = absurd (omega (arith, few, settled.ends.0 half, ap (λ (h : Half). length (part h old.seen)) half))
    first_leaves (IsTidy.closed closed) = absurd (settled.ends.1 closed)
    first_leaves (IsTidy.whole gate payload has) = at_first gate payload has

    any_unsynced : (last : ShownDisk) → ((c : Pair) → last.may_leave c → first.may_leave c) → IsTidy old.seen image → IsLastUnsynced last
    any_unsynced last fewer (IsTidy.short half few) = absurd (omega (arith, few, settled.ends.0 half, ap (λ (h : Half). length (part h old.seen)) half))
    any_unsynced last fewer (IsTidy.closed closed) = absurd (settled.ends.1 closed)
    any_unsynced last fewer (IsTidy.whole gate payload has) = later_unsynced gate payload has last fewer

    pub first_unsynced : IsTidy old.seen image → IsLastUnsynced first
    first_unsynced tidy = any_unsynced first (λ c now. now) tidy

    module _ (last : ShownDisk) (two : Result (Unit {0}) DiskFailed) (did_sync : Syncs place.half two first last) where
      pub last_unsynced : IsTidy old.seen image → IsLastUnsynced last
      last_unsynced tidy = any_unsynced last did_sync.alike.crash tidy

      syncs : Syncs image.half two first last
      syncs = moved (λ h n b. Syncs h two first last) place image is [] [] refl did_sync

      pub last_leaves : IsTidy old.seen image → SoFar old last (Mended image old.seen)
      last_leaves tidy = synced image.half two old first last (Mended image old.seen) (first_leaves tidy) syncs

      module _ (was_written : first.seen ≡ changed place.half (overwritten place.end (0 ∷ [])) old.seen) (was_all : Only place.half (part place.half first.seen) last.may_leave) where
        written : first.seen ≡ changed image.half (overwritten (end_of image) (0 ∷ [])) old.seen
        written = moved (λ h n b. first.seen ≡ changed h (overwritten n (0 ∷ [])) old.seen) place image is [] [] refl was_written

        all : Only image.half (part image.half first.seen) last.may_leave
        all = moved (λ h n b. Only h (part h first.seen) last.may_leave) place image is [] [] refl was_all

        abbrev rest : List ℕ
        rest = drop (end_of image + 1) bytes

        last_is : part image.half last.seen ≡ overwritten (end_of image) (0 ∷ []) bytes
        last_is = ap (part image.half) (syncs.alike.seen ∙ written) ∙ part-changed image.half (overwritten (end_of image) (0 ∷ [])) old.seen

        last_behind : IsBehind old.seen last.seen image (0 ∷ rest)
        last_behind = record {
          other = ap (beside image.half) (syncs.alike.seen ∙ written) ∙ beside-changed image.half (overwritten (end_of image) (0 ∷ [])) old.seen;
          parts = last_is ∙ append_assoc (take (end_of image) bytes) (0 ∷ []) rest;
          no_shorter = omega (arith, ap length last_is, no_shorter (end_of image) (0 ∷ []) bytes);
        }

        is_ready : IsReady image last
        is_ready = record {
          is_image = shut old.seen image settled.is_image marked last.seen 0 rest (omega arith) last_behind;
          marked = still_marked old.seen image settled.is_image marked last.seen (0 ∷ rest) last_behind;
          closed = record { rest = rest; gate = tail_is old.seen image settled.is_image marked last.seen (0 ∷ rest) last_behind };
          durable = synced_durable image.half two first last
              (written_beside image.half (end_of image) (0 ∷ []) one old first (durable_beside image.half old settled.durable) writes written) syncs all;
        }

      pub last_ready : first.seen ≡ changed place.half (overwritten place.end (0 ∷ [])) old.seen → OnOk two (IsReady image last)
      last_ready was_written = on_ok two (is_ready was_written) did_sync.durable

      pub last_bytes : first.seen ≡ changed place.half (overwritten place.end (0 ∷ [])) old.seen → OnOk two (HasMended image old.seen last.seen)
      last_bytes was_written = on_ok two (λ was_all. HasMended.shut settled.ends.0 settled.ends.1 (syncs.alike.seen ∙ written was_written was_all)) did_sync.durable
