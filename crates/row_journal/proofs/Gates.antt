-- The gate of a record that stands behind it, from disk call to disk call.
use Rattle.std.proofs.Common.{◌≡◌, ℕ, ◌+◌, List, [], ◌∷◌, ◌++◌, length, get_or, Result, OnOk, refl, sym, ◌∙◌, ap, subst, arith}
use Rattle.heat_disk.specs.declared.disk.DiskFailed.{DiskFailed}
use Rattle.heat_disk.specs.Halves.{Pair, part, beside, changed}
use Rattle.heat_disk.specs.Images.{overwritten, Torn, StepsAt, Only}
use Rattle.heat_disk.specs.Shown.{ShownDisk, IsLawful}
use Rattle.heat_disk.specs.Calls.{Writes, Syncs}
use Rattle.heat_disk.proofs.Parts.{part-changed, beside-changed}
use Rattle.row_journal.specs.Forms.{body}
use Rattle.row_journal.specs.Images.{ImageData}
use Rattle.row_journal.specs.Ends.{end_of, with_next, IsSealed, LeavesSealed, LeavesEither}
use Rattle.row_journal.specs.declared.place.Place.{Place}
use Rattle.row_journal.specs.Places.{place_of}
use Rattle.row_journal.specs.Ready.{IsReady, HasRecord}
use Rattle.row_journal.specs.Unsynced.{IsLastUnsynced, gate_unsynced}
use Rattle.row_journal.proofs.Cuts.{torn_at, written_at, no_shorter}
use Rattle.row_journal.proofs.Recordings.{on_ok, moved}
use Rattle.row_journal.proofs.Torn.{IsBehind, next_behind, leaves_either, image_next, closed_next, still_marked}
use Rattle.row_journal.proofs.Runs.{SoFar, begins, next, synced, durable_beside, written_beside, synced_durable}

module _ (place : Place) (image : ImageData) (is : place ≡ place_of image) (payload : List ℕ) (old : ShownDisk) (law : IsLawful old) (has : HasRecord image payload old) where
  abbrev bytes : List ℕ
  bytes = part image.half old.seen

  abbrev behind_gate : List ℕ
  behind_gate = body image.version (length image.payloads + 1) payload ++ 0 ∷ has.next.rest

  at_old : SoFar old old (LeavesEither image payload)
  at_old = begins old (LeavesEither image payload) law
      (λ c now. LeavesEither.without (subst (LeavesSealed image) (sym (has.durable c now))
      (record { is_image = has.is_image; sealed = IsSealed.closed (record { rest = behind_gate; gate = has.next.parts }) })))

  module _ (first : ShownDisk) (one : Result (Unit {0}) DiskFailed) (wrote : Writes place.half place.end (1 ∷ []) one old first) where
    writes : Writes image.half (end_of image) (1 ∷ []) one old first
    writes = moved (λ h n b. Writes h n (1 ∷ []) one old first) place image is [] [] refl wrote

    stepped : (c : Pair) → first.may_leave c → StepsAt image.half (Torn (end_of image) 1) old.seen c
    stepped c now =
        let from = writes.crash c now in
        subst (λ (d : Pair). StepsAt image.half (Torn (end_of image) 1) d c) (has.durable from.0 from.1) from.2

    either : (c : Pair) → first.may_leave c → LeavesEither image payload c
    either c now =
        let step = stepped c now in
        leaves_either old.seen image has.is_image has.marked payload has.next.sized has.next.rest c (get_or (part image.half c) (end_of image) 0) (record {
          other = step.1;
          parts = torn_at (end_of image) bytes 0 behind_gate has.next.parts (part image.half c) step.0;
          no_shorter = step.0.no_shorter;
        })

    pub at_first : SoFar old first (LeavesEither image payload)
    at_first = next old old first (LeavesEither image payload) at_old writes.time either

    pub first_unsynced : IsLastUnsynced first
    first_unsynced = gate_unsynced old.seen image 0 payload has.is_image has.next stepped

    module _ (last : ShownDisk) (two : Result (Unit {0}) DiskFailed) (did_sync : Syncs place.half two first last) where
      syncs : Syncs image.half two first last
      syncs = moved (λ h n b. Syncs h two first last) place image is [] [] refl did_sync

      pub at_last : SoFar old last (LeavesEither image payload)
      at_last = synced image.half two old first last (LeavesEither image payload) at_first syncs

      pub last_unsynced : IsLastUnsynced last
      last_unsynced = gate_unsynced old.seen image 0 payload has.is_image has.next (λ c now. stepped c (syncs.alike.crash c now))

      module _ (was_opened : first.seen ≡ changed place.half (overwritten place.end (1 ∷ [])) old.seen) (was_all : Only place.half (part place.half first.seen) last.may_leave) where
        opened : first.seen ≡ changed image.half (overwritten (end_of image) (1 ∷ [])) old.seen
        opened = moved (λ h n b. first.seen ≡ changed h (overwritten n (1 ∷ [])) old.seen) place image is [] [] refl was_opened

        all : Only image.half (part image.half first.seen) last.may_leave
        all = moved (λ h n b. Only h (part h first.seen) last.may_leave) place image is [] [] refl was_all

        abbrev tail : List ℕ
        tail = next_behind old.seen image has.is_image has.marked payload has.next.sized has.next.rest 1

        last_is : part image.half last.seen ≡ overwritten (end_of image) (1 ∷ []) bytes
        last_is = ap (part image.half) (syncs.alike.seen ∙ opened) ∙ part-changed image.half (overwritten (end_of image) (1 ∷ [])) old.seen

        last_behind : IsBehind old.seen last.seen image tail
        last_behind = record {
          other = ap (beside image.half) (syncs.alike.seen ∙ opened) ∙ beside-changed image.half (overwritten (end_of image) (1 ∷ [])) old.seen;
          parts = last_is ∙ written_at (end_of image) bytes 0 behind_gate has.next.parts 1;
          no_shorter = omega (arith, ap length last_is, no_shorter (end_of image) (1 ∷ []) bytes);
        }

        is_ready : IsReady (with_next image payload) last
        is_ready = record {
          is_image = image_next old.seen image has.is_image has.marked payload has.next.sized has.next.rest last.seen last_behind;
          marked = still_marked old.seen image has.is_image has.marked last.seen tail last_behind;
          closed = closed_next old.seen image has.is_image has.marked payload has.next.sized has.next.rest last.seen last_behind;
          durable = synced_durable image.half two first last
              (written_beside image.half (end_of image) (1 ∷ []) one old first (durable_beside image.half old has.durable) writes opened) syncs all;
        }

      pub ready_then : first.seen ≡ changed place.half (overwritten place.end (1 ∷ [])) old.seen → OnOk two (IsReady (with_next image payload) last)
      ready_then was_opened = on_ok two (is_ready was_opened) did_sync.durable
