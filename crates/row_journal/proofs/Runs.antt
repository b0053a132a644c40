-- A run of disk calls: what a crash has left so far, what it may leave now, and what is on the disk.
use Rattle.std.proofs.Common.{◌≡◌, ℕ, List, Result, sym, ◌∙◌, ap, subst, take, ⊎_elim, inl, inr, arith}
use Rattle.heat_disk.specs.declared.half.Half.{Half}
use Rattle.heat_disk.specs.declared.half.Half.TheVariants.{First, Second}
use Rattle.heat_disk.specs.Halves.{Pair, part, beside, changed}
use Rattle.heat_disk.specs.Images.{overwritten, Only}
use Rattle.heat_disk.specs.Shown.{ShownDisk, Elapses, SameContent, IsLawful, IsDurable, LeavesOnly}
use Rattle.heat_disk.specs.Calls.{ReadsAlike, Writes, Syncs}
use Rattle.row_journal.specs.Forms.{journal_mark}
use Rattle.row_journal.specs.Images.{ImageData, IsImage}
use Rattle.row_journal.specs.Ends.{behind, IsClosed}
use Rattle.row_journal.specs.Ready.{IsReady}
use Rattle.heat_disk.proofs.Moments.{started, goes_on}
use Rattle.heat_disk.proofs.Parts.{beside-changed}

pub record SoFar (old now : ShownDisk) (P : Pair → Type 0) : Type 0 where
  pub leaves : LeavesOnly old now P
  pub here : (c : Pair) → now.may_leave c → P c

pub begins : (old : ShownDisk) (P : Pair → Type 0) → IsLawful old → ((c : Pair) → old.may_leave c → P c) → SoFar old old P
begins old P law here = record { leaves = started old P law here; here = here }

pub next : (old mid new : ShownDisk) (P : Pair → Type 0) → SoFar old mid P → Elapses mid new → ((c : Pair) → new.may_leave c → P c) → SoFar old new P
next old mid new P so_far time here = record { leaves = goes_on old mid new P so_far.leaves time here; here = here }

-- a sync adds nothing
pub synced : {T E : Type 0} (half : Half) (result : Result T E) (old mid new : ShownDisk) (P : Pair → Type 0) → SoFar old mid P → Syncs half result mid new → SoFar old new P
synced half result old mid new P so_far syncs = next old mid new P so_far syncs.alike.time (λ c now. so_far.here c (syncs.alike.crash c now))

pub pair_same : (half : Half) (c d : Pair) → part half c ≡ part half d → beside half c ≡ beside half d → c ≡ d
pair_same First c d here other = ap (λ (l : List ℕ). (l, c.1)) here ∙ ap (λ (l : List ℕ). (d.0, l)) other
pair_same Second c d here other = ap (λ (l : List ℕ). (l, c.1)) other ∙ ap (λ (l : List ℕ). (d.0, l)) here

-- of the other half a crash leaves what it reads as
abbrev pub IsBeside : Half → ShownDisk → Type 0
IsBeside half disk = (c : Pair) → disk.may_leave c → beside half c ≡ beside half disk.seen

pub durable_beside : (half : Half) (disk : ShownDisk) → IsDurable disk → IsBeside half disk
durable_beside half disk durable = λ c now. ap (beside half) (durable c now)

pub written_beside : {T E : Type 0} (half : Half) (at : ℕ) (bytes : List ℕ) (result : Result T E) (mid new : ShownDisk) → IsBeside half mid → Writes half at bytes result mid new
    → new.seen ≡ changed half (overwritten at bytes) mid.seen → IsBeside half new
written_beside half at bytes result mid new other writes is = λ c now.
    let from = writes.crash c now in
    from.2.1 ∙ other from.0 from.1 ∙ sym (ap (beside half) is ∙ beside-changed half (overwritten at bytes) mid.seen)

pub synced_durable : {T E : Type 0} (half : Half) (result : Result T E) (mid new : ShownDisk) → IsBeside half mid → Syncs half result mid new → Only half (part half mid.seen) new.may_leave → IsDurable new
synced_durable half result mid new other syncs only = λ c now.
    pair_same half c new.seen (only c now ∙ sym (ap (part half) syncs.alike.seen)) (other c (syncs.alike.crash c now) ∙ sym (ap (beside half) syncs.alike.seen))

-- more room changes nothing
pub ready_same : (image : ImageData) (old new : ShownDisk) → IsReady image old → SameContent old new → IsReady image new
ready_same image old new ready same = record {
  is_image = subst (λ (p : Pair). IsImage p image) (sym same.seen) ready.is_image;
  marked = subst (λ (p : Pair). image.start ≡ 8 → take 8 (part image.half p) ≡ journal_mark image.version) (sym same.seen) ready.marked;
  closed = subst (λ (p : Pair). IsClosed (behind p image)) (sym same.seen) ready.closed;
  durable = λ c now. ready.durable c ((same.crash c).0 now) ∙ sym same.seen;
}

-- and so does a look
pub ready_alike : (image : ImageData) (old new : ShownDisk) → IsReady image old → ReadsAlike old new → IsReady image new
ready_alike image old new ready same = record {
  is_image = subst (λ (p : Pair). IsImage p image) (sym same.seen) ready.is_image;
  marked = subst (λ (p : Pair). image.start ≡ 8 → take 8 (part image.half p) ≡ journal_mark image.version) (sym same.seen) ready.marked;
  closed = subst (λ (p : Pair). IsClosed (behind p image)) (sym same.seen) ready.closed;
  durable = λ c now. ready.durable c (same.crash c now) ∙ sym same.seen;
}

-- a call that leaves all as it was, behind another
pub reads_on : (old mid new : ShownDisk) → IsLawful old → ReadsAlike old mid → ReadsAlike mid new → ReadsAlike old new
reads_on old mid new law first second = record {
  seen = second.seen ∙ first.seen;
  crash = λ c now. first.crash c (second.crash c now);
  time = record {
    later = omega (arith, first.time.later, second.time.later);
    nothing_else = λ t c le left. ⊎_elim (λ was. ⊎_elim inl (λ now. inl (law.counts_now t c le (first.crash c now))) (first.time.nothing_else t c le was)) inr
        (second.time.nothing_else t c (omega (arith, le, first.time.later)) left);
    keeps = λ t c le left. second.time.keeps t c (omega (arith, le, first.time.later)) (first.time.keeps t c le left);
  };
}
