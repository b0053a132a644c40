-- A record behind the closed gate, from disk call to disk call.
use Rattle.std.proofs.Common.{◌≡◌, ℕ, ◌+◌, ◌≤◌, ◌<◌, List, [], ◌∷◌, ◌++◌, length, take, drop, Result, Ok, Err, OnOk, refl, sym, ◌∙◌, ap, subst, arith, append_assoc, length-append}
use Rattle.std.proofs.lemmas.List.{length-take-le, length-drop}
use Rattle.heat_disk.specs.declared.half.Half.{Half}
use Rattle.heat_disk.specs.declared.disk.DiskFailed.{DiskFailed}
use Rattle.heat_disk.specs.Halves.{Pair, part, beside, changed}
use Rattle.heat_disk.specs.Images.{overwritten, Torn, StepsAt, Only}
use Rattle.heat_disk.specs.Shown.{ShownDisk, IsLawful, IsDurable}
use Rattle.heat_disk.specs.Calls.{Writes, Syncs}
use Rattle.heat_disk.proofs.Parts.{part-changed, beside-changed}
use Rattle.row_journal.specs.Forms.{body, IsSized}
use Rattle.row_journal.specs.Images.{ImageData}
use Rattle.row_journal.specs.Ends.{end_of, IsSealed, LeavesSealed}
use Rattle.row_journal.specs.declared.place.Place.{Place}
use Rattle.row_journal.specs.Places.{place_of}
use Rattle.row_journal.specs.Ready.{IsReady, HasRecord, StandsAt}
use Rattle.row_journal.specs.Unsynced.{IsAtRest, IsLastUnsynced, record_unsynced}
use Rattle.row_journal.proofs.Cuts.{goes_past, torn_behind, written_behind, no_shorter}
use Rattle.row_journal.proofs.Torn.{IsBehind, shut, tail_is, leaves_closed, next_behind, still_marked}
use Rattle.row_journal.proofs.Runs.{SoFar, begins, next, synced, durable_beside, written_beside, synced_durable}

pub on_ok : {T E : Type 0} {P Q : Type 0} (result : Result T E) → (P → Q) → OnOk result P → OnOk result Q
on_ok (Ok value) on held = on held
on_ok (Err fault) on held = held

-- what holds anyhow
pub on_any : {T E : Type 0} {P : Type 0} (result : Result T E) → P → OnOk result P
on_any (Ok value) held = held
on_any (Err fault) held = tt

-- what is said of a place, of its image
pub moved : (P : Half → ℕ → List ℕ → Type 0) (place : Place) (image : ImageData) → place ≡ place_of image → (r s : List ℕ) → r ≡ s → P place.half place.end r → P image.half (end_of image) s
moved P place image is r s same p = subst (P image.half (end_of image)) same (subst (λ (q : Place). P q.half q.end r) is p)

pub rest_of : (image : ImageData) (disk : ShownDisk) → IsReady image disk → IsAtRest image disk.seen
rest_of image disk ready = record { is_image = ready.is_image; marked = ready.marked; closed = ready.closed }

-- a record torn behind its closed gate
pub record_sealed : (before : Pair) (image : ImageData) (n : ℕ) → IsAtRest image before → (c : Pair) → StepsAt image.half (Torn (end_of image + 1) n) before c → LeavesSealed image c
record_sealed before image n rest c step =
    leaves_closed before image rest.is_image rest.marked c (drop (end_of image + 1) (part image.half c)) (record {
      other = step.1;
      parts = torn_behind (end_of image) (part image.half before) 0 rest.closed.rest rest.closed.gate n (part image.half c) step.0;
      no_shorter = step.0.no_shorter;
    })

module _ (place : Place) (old : ShownDisk) (stands : StandsAt place old) where
  past : place.end < length (part place.half old.seen)
  past = subst (λ (q : Place). q.end < length (part q.half old.seen)) (sym stands.numbers)
      (goes_past (end_of stands.image) (part stands.image.half old.seen) 0 stands.ready.closed.rest stands.ready.closed.gate)

  pub fits : place.end + 1 ≤ length (part place.half old.seen)
  fits = omega (arith, past)

  pub past_still : (r : List ℕ) (first last : ShownDisk) → first.seen ≡ changed place.half (overwritten (place.end + 1) r) old.seen → last.seen ≡ first.seen → place.end ≤ length (part place.half last.seen)
  past_still r first last written same =
      let here : part place.half last.seen ≡ overwritten (place.end + 1) r (part place.half old.seen) =
      ap (part place.half) (same ∙ written) ∙ part-changed place.half (overwritten (place.end + 1) r) old.seen in
      omega (arith, past, ap length here, no_shorter (place.end + 1) r (part place.half old.seen))

module _ (place : Place) (image : ImageData) (is : place ≡ place_of image) (r : List ℕ) (old : ShownDisk) (law : IsLawful old) (ready : IsReady image old) where
  abbrev bytes : List ℕ
  bytes = part image.half old.seen

  at_old : SoFar old old (LeavesSealed image)
  at_old = begins old (LeavesSealed image) law
      (λ c now. subst (LeavesSealed image) (sym (ready.durable c now)) (record { is_image = ready.is_image; sealed = IsSealed.closed ready.closed }))

  enough : end_of image + 1 ≤ length bytes
  enough = omega (arith, goes_past (end_of image) bytes 0 ready.closed.rest ready.closed.gate)

  module _ (first : ShownDisk) (one : Result (Unit {0}) DiskFailed) (wrote : Writes place.half (place.end + 1) r one old first) where
    writes : Writes image.half (end_of image + 1) r one old first
    writes = moved (λ h n b. Writes h (n + 1) b one old first) place image is r r refl wrote

    stepped : (c : Pair) → first.may_leave c → StepsAt image.half (Torn (end_of image + 1) (length r)) old.seen c
    stepped c now =
        let from = writes.crash c now in
        subst (λ (d : Pair). StepsAt image.half (Torn (end_of image + 1) (length r)) d c) (ready.durable from.0 from.1) from.2

    pub at_first : SoFar old first (LeavesSealed image)
    at_first = next old old first (LeavesSealed image) at_old writes.time (λ c now. record_sealed old.seen image (length r) (rest_of image old ready) c (stepped c now))

    pub first_unsynced : IsLastUnsynced first
    first_unsynced = record_unsynced old.seen image (length r) (rest_of image old ready) stepped

    module _ (last : ShownDisk) (two : Result (Unit {0}) DiskFailed) (did_sync : Syncs place.half two first last) where
      syncs : Syncs image.half two first last
      syncs = moved (λ h n b. Syncs h two first last) place image is r r refl did_sync

      pub at_last : SoFar old last (LeavesSealed image)
      at_last = synced image.half two old first last (LeavesSealed image) at_first syncs

      pub last_unsynced : IsLastUnsynced last
      last_unsynced = record_unsynced old.seen image (length r) (rest_of image old ready) (λ c now. stepped c (syncs.alike.crash c now))

      -- once the sync succeeded
      module _ (was_written : first.seen ≡ changed place.half (overwritten (place.end + 1) r) old.seen) where
        durable_once : Only place.half (part place.half first.seen) last.may_leave → IsDurable last
        durable_once was_settled =
            synced_durable image.half two first last
            (written_beside image.half (end_of image + 1) r one old first (durable_beside image.half old ready.durable) writes
            (moved (λ h n b. first.seen ≡ changed h (overwritten (n + 1) b) old.seen) place image is r r refl was_written)) syncs
            (moved (λ h n b. Only h (part h first.seen) last.may_leave) place image is r r refl was_settled)

        pub is_durable : OnOk two (IsDurable last)
        is_durable = on_ok two durable_once did_sync.durable

      module _ (payload : List ℕ) (sized : IsSized payload) (r_is : r ≡ body image.version (length image.payloads + 1) payload ++ 0 ∷ [])
          (was_written : first.seen ≡ changed place.half (overwritten (place.end + 1) r) old.seen) (was_settled : Only place.half (part place.half first.seen) last.may_leave) where
        -- what stands behind the record's gate, and a closed gate
        abbrev closing : List ℕ
        closing = body image.version (length image.payloads + 1) payload ++ 0 ∷ []

        written : first.seen ≡ changed image.half (overwritten (end_of image + 1) closing) old.seen
        written = moved (λ h n b. first.seen ≡ changed h (overwritten (n + 1) b) old.seen) place image is r closing r_is was_written

        abbrev rest : List ℕ
        rest = drop (end_of image + 1 + length closing) bytes

        abbrev tail : List ℕ
        tail = next_behind old.seen image ready.is_image ready.marked payload sized rest 0

        last_bytes : part image.half last.seen ≡ take (end_of image) bytes ++ tail
        last_bytes =
            ap (part image.half) (syncs.alike.seen ∙ written)
            ∙ part-changed image.half (overwritten (end_of image + 1) closing) old.seen
            ∙ written_behind (end_of image) bytes 0 ready.closed.rest ready.closed.gate closing
            ∙ ap (λ (l : List ℕ). take (end_of image) bytes ++ 0 ∷ l) (append_assoc (body image.version (length image.payloads + 1) payload) (0 ∷ []) rest)

        longer : length bytes ≤ length (part image.half last.seen)
        longer =
            let b = body image.version (length image.payloads + 1) payload in
            omega (
              arith,
              enough,
              ap length last_bytes,
              length-append (take (end_of image) bytes) tail,
              length-append b (0 ∷ rest),
              length-append b (0 ∷ []),
              length-take-le (end_of image) bytes (omega (arith, enough)),
              length-drop (end_of image + 1 + length closing) bytes,
            )

        last_behind : IsBehind old.seen last.seen image tail
        last_behind = record {
          other = ap (beside image.half) (syncs.alike.seen ∙ written) ∙ beside-changed image.half (overwritten (end_of image + 1) closing) old.seen;
          parts = last_bytes;
          no_shorter = longer;
        }

        has_record : HasRecord image payload last
        has_record = record {
          is_image = shut old.seen image ready.is_image ready.marked last.seen 0 (body image.version (length image.payloads + 1) payload ++ 0 ∷ rest) (omega arith) last_behind;
          marked = still_marked old.seen image ready.is_image ready.marked last.seen tail last_behind;
          next = record { rest = rest; parts = tail_is old.seen image ready.is_image ready.marked last.seen tail last_behind; sized = sized };
          durable = durable_once was_written was_settled;
        }

      pub has_it : (payload : List ℕ) → IsSized payload → r ≡ body image.version (length image.payloads + 1) payload ++ 0 ∷ []
          → first.seen ≡ changed place.half (overwritten (place.end + 1) r) old.seen → OnOk two (HasRecord image payload last)
      has_it payload sized r_is was_written = on_ok two (has_record payload sized r_is was_written) did_sync.durable
