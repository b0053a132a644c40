-- The closing of a half, from disk call to disk call.
use Rattle.std.proofs.Common.{◌≡◌, ◌≢◌, ◌⊎◌, inl, inr, ℕ, ◌≤◌, List, [], ◌∷◌, ◌++◌, length, get_or, take, drop, Option, None, Result, sym, ◌∙◌, ap, subst, arith, take-append-drop}
use Rattle.std.proofs.lemmas.List.{drop_more}
use Rattle.std.proofs.lemmas.Bool.{cases_eq}
use Rattle.heat_disk.specs.declared.half.Half.{Half}
use Rattle.heat_disk.specs.declared.disk.DiskFailed.{DiskFailed}
use Rattle.heat_disk.specs.Halves.{Pair, part, beside}
use Rattle.heat_disk.specs.Images.{Torn}
use Rattle.heat_disk.specs.Shown.{ShownDisk, IsLawful, IsDurable, LeavesOnly}
use Rattle.heat_disk.specs.Calls.{ReadsAlike, Writes}
use Rattle.row_journal.specs.declared.headers.Header.{Header}
use Rattle.row_journal.specs.Images.{HasHeader}
use Rattle.row_journal.specs.Snapshots.{IsUnopened}
use Rattle.row_journal.proofs.Cuts.{torn_at}
use Rattle.row_journal.proofs.Runs.{SoFar, begins, next}

pub unborn_shut : (bytes : List ℕ) → get_or bytes 16 0 ≢ 1 → HasHeader bytes None
unborn_shut bytes shut header born = shut born.gate

-- what is as before is not opened
pub unopened_same : (half : Half) (before c : Pair) → c ≡ before → IsUnopened half before c
unopened_same half before c is = record {
  same = ap (beside half) is;
  header = inr (λ h has. subst (λ (p : Pair). HasHeader (part half p) h) (sym is) has);
}

-- what was left at the end of a run
pub left_now : (old new : ShownDisk) (P : Pair → Type 0) → IsLawful new → LeavesOnly old new P → (c : Pair) → new.may_leave c → P c
left_now old new P law leaves c now = leaves.each c (law.counts_now old.moment c leaves.later now)

module _ (half : Half) (old : ShownDisk) (law : IsLawful old) (durable : IsDurable old) where
  abbrev bytes : List ℕ
  bytes = part half old.seen

  at_old : SoFar old old (IsUnopened half old.seen)
  at_old = begins old (IsUnopened half old.seen) law (λ c now. unopened_same half old.seen c (durable c now))

  module _ (read : ShownDisk) (reads : ReadsAlike old read) where
    pub after_read : SoFar old read (IsUnopened half old.seen)
    after_read = next old old read (IsUnopened half old.seen) at_old reads.time (λ c now. unopened_same half old.seen c (durable c (reads.crash c now)))

    -- an open gate: that byte alone
    module _ (long : 17 ≤ length bytes) (is_open : get_or bytes 16 0 ≡ 1) (new : ShownDisk) (one : Result (Unit {0}) DiskFailed) (writes : Writes half 16 (0 ∷ []) one read new) where
      here : drop 16 bytes ≡ 1 ∷ drop 17 bytes
      here = drop_more bytes 16 0 (omega (arith, long)) ∙ ap (λ (g : ℕ). g ∷ drop 17 bytes) is_open

      whole : bytes ≡ take 16 bytes ++ 1 ∷ drop 17 bytes
      whole = sym (take-append-drop 16 bytes) ∙ ap (λ (l : List ℕ). take 16 bytes ++ l) here

      header_after : (c : List ℕ) → c ≡ take 16 bytes ++ get_or c 16 0 ∷ drop 17 bytes → (get_or c 16 0 ≡ 1) ⊎ (get_or c 16 0 ≡ 1 → ⊥)
          → HasHeader c None ⊎ ((h : Option Header) → HasHeader bytes h → HasHeader c h)
      header_after c parts (inl opened) = inr (λ h has. subst (λ (l : List ℕ). HasHeader l h) (whole ∙ ap (λ (g : ℕ). take 16 bytes ++ g ∷ drop 17 bytes) (sym opened) ∙ sym parts) has)
      header_after c parts (inr shut) = inl (unborn_shut c shut)

      gate_torn : (c : Pair) → new.may_leave c → IsUnopened half old.seen c
      gate_torn c now =
          let from = writes.crash c now in
          let was = durable from.0 (reads.crash from.0 from.1) in
          let torn : Torn 16 1 bytes (part half c) = subst (λ (p : Pair). Torn 16 1 (part half p) (part half c)) was from.2.0 in
          record {
            same = from.2.1 ∙ ap (beside half) was;
            header = header_after (part half c) (torn_at 16 bytes 1 (drop 17 bytes) here (part half c) torn) (cases_eq (get_or (part half c) 16 0) 1);
          }

      pub after_gate : LeavesOnly old new (IsUnopened half old.seen)
      after_gate = (next old read new (IsUnopened half old.seen) after_read writes.time gate_torn).leaves
