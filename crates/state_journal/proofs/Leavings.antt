-- What a crash leaves of the disk, as what it leaves of the state.
use Rattle.std.proofs.Common.{◌≡◌, ◌⊎◌, ◌++◌, ◌∷◌, [], ℕ, Bool, List, Option, Some, None, ap, arith, inl, inr, length, subst, ◌∙◌, refl}
use Rattle.std.specs.Prelude.{IsTrue, ◌+◌}
use Rattle.std.proofs.lemmas.Bool.Decides.{leb_tells}
use Rattle.core_state.specs.State.{StateData}
use Rattle.heat_disk.specs.Calls.{ReadsAlike}
use Rattle.heat_disk.specs.Halves.{Pair}
use Rattle.heat_disk.specs.Shown as disk
use Rattle.heat_disk.specs.Shown.{IsLawful, ShownDisk}
use Rattle.record_keeper.specs.Calls.{ComesOf, IsLeftOf, StemsFrom, before, behind, pending, same, settles, turns, unknown}
use Rattle.record_keeper.specs.Shown.{Left, LeavesOnly, at_rest}
use Rattle.row_journal.specs.Ends as ends
use Rattle.row_journal.specs.Ends.{HasNext, IsSealed, LeavesAjar, LeavesEither, LeavesSealed, with_next}
use Rattle.row_journal.specs.Forms.{body}
use Rattle.row_journal.specs.Images.{ImageData, IsImage}
use Rattle.row_journal.specs.Mends as mends
use Rattle.row_journal.specs.Mends.{Mended}
use Rattle.row_journal.specs.Pending.{IsPending}
use Rattle.row_journal.specs.Snapshots as snapshots
use Rattle.row_journal.specs.Snapshots.{LeavesSnapshot, fresh_snapshot}
use Rattle.row_journal.specs.declared.place.Place.{Place}
use Rattle.state_journal.specs.Payloads.{Give}
use Rattle.state_journal.specs.Readings.{Reads, StandFor, sealed, torn}
use Rattle.state_journal.specs.Shown.{moment_of, shown_by}
use Rattle.row_journal.proofs.Found.{image_same}
use Rattle.state_journal.specs.Lawful.{sealed_rest}
use Rattle.state_journal.specs.Unique.{pending_one, sealed_none, stand_one}

-- where a disk tells, its moment is told
told_moment : (d : ShownDisk) → IsTrue d.tells → moment_of d.tells d.moment ≡ d.moment
told_moment d told = ap (λ (b : Bool). moment_of b d.moment) told

module _ (old new : ShownDisk) (at to : Place) (failed fails : Bool) (told : IsTrue old.tells)
    (tells : new.tells ≡ old.tells) where
  -- what holds of each pair of halves holds of what they stand for
  pub leaves_read : (P : Pair → Type 0) (Q : Option Left → Type 0) → disk.LeavesOnly old new P
      → ((c : Pair) (l : Option Left) → P c → StandFor c l → Q l)
      → LeavesOnly (shown_by old at failed) (shown_by new to fails) Q
  leaves_read P Q leaves all =
      let first = told_moment old told in
      let last = told_moment new (tells ∙ told) in record {
        later = omega (arith, leaves.later, first, last);
        each = λ l it. all it.pair l
            (leaves.each it.pair (subst (λ (t : ℕ). new.left_since t it.pair) first it.left)) it.stand;
        before = λ t l early it. elim (leaves.before t it.pair (omega (arith, early, first)) it.left) [
          | inl was ↦ inl (record { told = told; pair = it.pair; left = was; stand = it.stand })
          | inr is ↦ inr (all it.pair l is it.stand)
        ];
      }

  -- a call that reads leaves what might have been left before it
  pub leaves_alike : IsLawful old → ReadsAlike old new
      → LeavesOnly (shown_by old at failed) (shown_by new to fails) (ComesOf (shown_by old at failed))
  leaves_alike law alike = leaves_read old.may_leave (ComesOf (shown_by old at failed))
      (record {
        later = alike.time.later;
        each = λ c since. elim (alike.time.nothing_else old.moment c (omega arith) since) [
          | inl was ↦ law.only_now c was
          | inr is ↦ alike.crash c is
        ];
        before = λ t c early since. elim (alike.time.nothing_else t c early since) [
          | inl was ↦ inl was
          | inr is ↦ inr (alike.crash c is)
        ];
      })
      (λ c l may stand. record {
        from = l;
        left = record { told = told; pair = c; left = may; stand = stand };
        stems = same refl;
      })

-- what ends at a torn gate, for that and what stands behind it
pub torn_both : (image : ImageData) (payload : List ℕ) (s t : StateData) (c : Pair) (l : Option Left)
    → IsImage c image → IsPending c image (Some payload) → Give image.payloads s
    → Give (image.payloads ++ payload ∷ []) t → StandFor c l → l ≡ Some (record { reads = s; next = Some t })
torn_both image payload s t c l is it give more stand =
    stand_one c l (Some (record { reads = s; next = Some t })) stand (torn image payload s t is it give more)

-- a gate that isn't closed, in front of a whole record, is torn
pub is_pending : (image : ImageData) (payload : List ℕ) (c : Pair) (gate : ℕ) → (gate ≡ 0 → ⊥)
    → HasNext image gate payload (ends.behind c image) → IsPending c image (Some payload)
is_pending image payload c gate torn_gate it = record {
  gate = gate;
  torn = torn_gate;
  record_bytes = _;
  front = it.parts;
  whole = record { rest = it.rest; parts = refl; sized = it.sized };
}

-- whether a number is 0 is known
is_zero : (n : ℕ) → (n ≡ 0) ⊎ (n ≡ 0 → ⊥)
is_zero n = elim (leb_tells n 0) [
  | inl low ↦ inl (omega (arith, low.1))
  | inr high ↦ inr (λ zero. omega (arith, high.1, zero))
]

-- A gate in front of this record is closed, and the end sealed, or it is torn.
ajar_either : (image : ImageData) (payload : List ℕ) (c : Pair) → LeavesAjar image payload c
    → LeavesSealed image c ⊎ IsPending c image (Some payload)
ajar_either image payload c it = elim (is_zero it.gate) [
  | inl zero ↦ inl (record {
    is_image = it.is_image;
    sealed = ends.closed (record {
      rest = body image.version (length image.payloads + 1) payload ++ 0 ∷ it.next.rest;
      gate = it.next.parts
          ∙ ap (λ (g : ℕ). g ∷ body image.version (length image.payloads + 1) payload ++ 0 ∷ it.next.rest) zero;
    });
  })
  | inr torn_gate ↦ inr (is_pending image payload c it.gate torn_gate it.next)
]

module _ (image : ImageData) (payload : List ℕ) (s t : StateData) (give : Give image.payloads s) where
  -- an append that may have got as far as its gate
  pub either_left : Give (image.payloads ++ payload ∷ []) t → (c : Pair) (l : Option Left)
      → LeavesEither image payload c → StandFor c l → IsLeftOf s t l
  either_left more c l (ends.without leaves) stand = before (sealed_rest image s c l leaves give stand)
  either_left more c l (ends.ajar leaves) stand = elim (ajar_either image payload c leaves) [
    | inl closed ↦ before (sealed_rest image s c l closed give stand)
    | inr it ↦ pending (torn_both image payload s t c l leaves.is_image it give more stand)
  ]
  either_left more c l (ends.added leaves) stand =
      behind (sealed_rest (with_next image payload) t c l leaves more stand)

  -- a snapshot of the same state
  pub snapshot_left : Give (payload ∷ []) s → (c : Pair) (l : Option Left) → LeavesSnapshot image payload c
      → StandFor c l → l ≡ Some (at_rest s)
  snapshot_left same_state c l (snapshots.before leaves) stand = sealed_rest image s c l leaves give stand
  snapshot_left same_state c l (snapshots.turned leaves) stand =
      sealed_rest (fresh_snapshot image payload) s c l leaves same_state stand

-- Inside an opening: what was left before, or the image that was read, mended. What comes of it is known by what the halves
-- stood for.
module _ (seen : Pair) (image : ImageData) (is : IsImage seen image) where
  settled : (k : Left) → Reads seen k → (c : Pair) (l : Option Left) → LeavesSealed image c → StandFor c l
      → StemsFrom (Some k) l
  settled _ (sealed i s leaves give) c l closed stand = settles (at_rest s) refl
      (sealed_rest image s c l closed (subst (λ (x : ImageData). Give x.payloads s)
      (image_same seen i image leaves.is_image is) give) stand)
  settled _ (torn i p s t is_image it give more) c l closed stand =
      settles (record { reads = s; next = Some t }) refl
      (sealed_rest image s c l closed (subst (λ (x : ImageData). Give x.payloads s)
      (image_same seen i image is_image is) give) stand)

  module _ (payload : List ℕ) (here : IsPending seen image (Some payload)) where
    -- the record behind the torn gate counts now
    grown_left : (k : Left) → Reads seen k → (c : Pair) (l : Option Left) → LeavesSealed (with_next image payload) c
        → StandFor c l → StemsFrom (Some k) l
    grown_left _ (sealed i s leaves give) c l closed stand = absurd (sealed_none seen image payload
        (subst (IsSealed seen) (image_same seen i image leaves.is_image is) leaves.sealed) here)
    grown_left _ (torn i p s t is_image it give more) c l closed stand =
        let one : i ≡ image = image_same seen i image is_image is in
        let its : IsPending seen image (Some p) = subst (λ (x : ImageData). IsPending seen x (Some p)) one it in
        let gives : Give (image.payloads ++ payload ∷ []) t =
        subst (λ (q : List ℕ). Give (image.payloads ++ q ∷ []) t) (pending_one seen image p payload its here)
        (subst (λ (x : ImageData). Give (x.payloads ++ p ∷ []) t) one more) in
        turns (record { reads = s; next = Some t }) t refl refl
        (sealed_rest (with_next image payload) t c l closed gives stand)

    -- it stands there still
    torn_left : (k : Left) → Reads seen k → (c : Pair) (l : Option Left) → IsImage c image
        → IsPending c image (Some payload) → StandFor c l → StemsFrom (Some k) l
    torn_left _ (sealed i s leaves give) c l at there stand = absurd (sealed_none seen image payload
        (subst (IsSealed seen) (image_same seen i image leaves.is_image is) leaves.sealed) here)
    torn_left _ (torn i p s t is_image it give more) c l at there stand =
        let one : i ≡ image = image_same seen i image is_image is in
        let its : IsPending seen image (Some p) = subst (λ (x : ImageData). IsPending seen x (Some p)) one it in
        let gives : Give (image.payloads ++ payload ∷ []) t =
        subst (λ (q : List ℕ). Give (image.payloads ++ q ∷ []) t) (pending_one seen image p payload its here)
        (subst (λ (x : ImageData). Give (x.payloads ++ p ∷ []) t) one more) in
        same (torn_both image payload s t c l at there
        (subst (λ (x : ImageData). Give x.payloads s) one give) gives stand)

  mended_of : (k : Left) → Reads seen k → (c : Pair) (l : Option Left) → Mended image seen c → StandFor c l
      → StemsFrom (Some k) l
  mended_of k reads c l (mends.same leaves) stand = settled k reads c l leaves stand
  mended_of k reads c l (mends.grown gate payload torn_gate next leaves) stand =
      grown_left payload (is_pending image payload seen gate torn_gate next) k reads c l leaves stand
  mended_of k reads c l (mends.ajar gate payload torn_gate next leaves) stand =
      elim (ajar_either image payload c leaves) [
        | inl closed ↦ settled k reads c l closed stand
        | inr there ↦ torn_left payload (is_pending image payload seen gate torn_gate next) k reads c l leaves.is_image
            there stand
      ]

  pub mended_left : (l m : Option Left) → StandFor seen m → (c : Pair) → Mended image seen c → StandFor c l
      → StemsFrom m l
  mended_left l None stands c it stand = unknown refl
  mended_left l (Some k) reads c it stand = mended_of k reads c l it stand
