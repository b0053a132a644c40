-- The three parts of a snapshot, one behind the other.
use Rattle.std.proofs.Common.{◌≡◌, inl, inr, ⊎_elim, ℕ, ◌+◌, ◌<◌, ◌≤◌, ◌^◌, List, [], ◌∷◌, ◌++◌, length, ap, subst, arith, length-append}
use Rattle.heat_disk.specs.declared.half.Half.{Half}
use Rattle.heat_disk.specs.Halves.{Pair, part}
use Rattle.heat_disk.specs.Shown.{ShownDisk, IsLawful, LeavesOnly}
use Rattle.heat_disk.proofs.Moments.{joined}
use Rattle.row_journal.specs.declared.version.Version.TheVariants.{Two}
use Rattle.row_journal.specs.Forms.{body, IsSized}
use Rattle.row_journal.specs.Images.{ImageData}
use Rattle.row_journal.specs.Mends.{other}
use Rattle.row_journal.specs.Ready.{IsReady}
use Rattle.row_journal.specs.Snapshots.{IsUnopened, HasShut, header_of, IsStagedSomehow, HasStaged, HasFilled, fresh_snapshot, LeavesSnapshot}
use Rattle.row_journal.specs.Unsynced.{IsLastUnsynced, filling_unsynced, snapshot_unsynced}
use Rattle.row_journal.proofs.Recordings.{rest_of}
use Rattle.row_journal.proofs.Shut.{left_now}
use Rattle.row_journal.proofs.Sides.{unopened_leaves, ready_still, staged_leaves, snapshot_ready}

-- a run leaves also what is said less exactly
pub weaker : (old new : ShownDisk) (P Q : Pair → Type 0) → ((c : Pair) → P c → Q c) → LeavesOnly old new P → LeavesOnly old new Q
weaker old new P Q on leaves = record {
  later = leaves.later;
  each = λ c left. on c (leaves.each c left);
  before = λ t c le left. ⊎_elim inl (λ p. inr (on c p)) (leaves.before t c le left);
}

-- a staged half is long enough for its gate
pub reaches : (half : Half) (epoch : ℕ) (r : List ℕ) (before : Pair) (disk : ShownDisk) → HasFilled half epoch r before disk → 16 ≤ length (part half disk.seen)
reaches half epoch r before disk has = omega (arith, ap length has.filled.staged.parts, length-append (header_of epoch) (has.gate ∷ (r ++ has.filled.staged.rest)))

module _ (image : ImageData) (payload : List ℕ) (sized : IsSized payload) (small : image.epoch + 1 < 2 ^ 64) (r : List ℕ) (r_is : r ≡ body Two 1 payload ++ 0 ∷ [])
    (half : Half) (here : half ≡ other image.half) (epoch : ℕ) (next_is : epoch ≡ image.epoch + 1) (old : ShownDisk) (ready : IsReady image old) where
  pub shut_leaves : (new : ShownDisk) → LeavesOnly old new (IsUnopened half old.seen) → LeavesOnly old new (LeavesSnapshot image payload)
  shut_leaves new = weaker old new (IsUnopened half old.seen) (LeavesSnapshot image payload)
      (λ c un. LeavesSnapshot.before (unopened_leaves image old ready c (subst (λ (h : Half). IsUnopened h old.seen c) here un)))

  pub shut_unsynced : (new : ShownDisk) → IsLawful new → LeavesOnly old new (IsUnopened half old.seen) → IsLastUnsynced new
  shut_unsynced new law leaves = filling_unsynced old.seen image (rest_of image old ready)
      (λ c now. subst (λ (h : Half). IsUnopened h old.seen c) here (left_now old new (IsUnopened half old.seen) law leaves c now))

  module _ (mid : ShownDisk) (law : IsLawful mid) (first : LeavesOnly old mid (IsUnopened half old.seen)) (shut : HasShut half mid) where
    mid_ready : IsReady image mid
    mid_ready = ready_still image old ready mid
        (subst (λ (h : Half). IsUnopened h old.seen mid.seen) here (left_now old mid (IsUnopened half old.seen) law first mid.seen law.reads)) shut.durable

    pub fill_leaves : (new : ShownDisk) → LeavesOnly mid new (IsUnopened half mid.seen) → LeavesOnly old new (LeavesSnapshot image payload)
    fill_leaves new leaves = joined old mid new (LeavesSnapshot image payload) (IsUnopened half mid.seen) (shut_leaves mid first) leaves
        (λ c un. LeavesSnapshot.before (unopened_leaves image mid mid_ready c (subst (λ (h : Half). IsUnopened h mid.seen c) here un)))

    pub fill_unsynced : (new : ShownDisk) → IsLawful new → LeavesOnly mid new (IsUnopened half mid.seen) → IsLastUnsynced new
    fill_unsynced new law_new leaves = filling_unsynced mid.seen image (rest_of image mid mid_ready)
        (λ c now. subst (λ (h : Half). IsUnopened h mid.seen c) here (left_now mid new (IsUnopened half mid.seen) law_new leaves c now))

    module _ (staged : ShownDisk) (second : LeavesOnly mid staged (IsUnopened half mid.seen)) where
      pub open_leaves : (new : ShownDisk) → LeavesOnly staged new (IsStagedSomehow half epoch r mid.seen) → LeavesOnly old new (LeavesSnapshot image payload)
      open_leaves new leaves = joined old staged new (LeavesSnapshot image payload) (IsStagedSomehow half epoch r mid.seen) (fill_leaves staged second) leaves
          (λ c it. staged_leaves image mid mid_ready small payload sized r r_is c
          (subst (λ (e : ℕ). IsStagedSomehow (other image.half) e r mid.seen c) next_is (subst (λ (h : Half). IsStagedSomehow h epoch r mid.seen c) here it)))

      pub open_unsynced : (new : ShownDisk) → IsLawful new → LeavesOnly staged new (IsStagedSomehow half epoch r mid.seen) → IsLastUnsynced new
      open_unsynced new law_new leaves = snapshot_unsynced mid.seen image payload (rest_of image mid mid_ready) sized small
          (λ c now. subst (λ (b : List ℕ). IsStagedSomehow (other image.half) (image.epoch + 1) b mid.seen c) r_is
          (subst (λ (e : ℕ). IsStagedSomehow (other image.half) e r mid.seen c) next_is
          (subst (λ (h : Half). IsStagedSomehow h epoch r mid.seen c) here (left_now staged new (IsStagedSomehow half epoch r mid.seen) law_new leaves c now))))

      pub open_ready : (new : ShownDisk) → HasStaged half epoch 1 r mid.seen new → IsReady (fresh_snapshot image payload) new
      open_ready new has = snapshot_ready image mid mid_ready small payload sized r r_is new
          (subst (λ (e : ℕ). HasStaged (other image.half) e 1 r mid.seen new) next_is (subst (λ (h : Half). HasStaged h epoch 1 r mid.seen new) here has))
