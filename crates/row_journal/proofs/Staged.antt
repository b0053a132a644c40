-- The filling and the opening of a half, from disk call to disk call.
use Rattle.std.proofs.Common.{◌≡◌, inl, ℕ, ◌+◌, ◌≤◌, List, [], ◌∷◌, ◌++◌, length, get_or, take, drop, Result, OnOk, sym, ◌∙◌, ap, subst, arith}
use Rattle.std.proofs.lemmas.List.{drop_more, get_or-drop, get_or-take, length-take-le}
use Rattle.heat_disk.specs.declared.half.Half.{Half}
use Rattle.heat_disk.specs.declared.disk.DiskFailed.{DiskFailed}
use Rattle.heat_disk.specs.Halves.{Pair, part, beside, changed}
use Rattle.heat_disk.specs.Images.{overwritten, Torn, Only}
use Rattle.heat_disk.specs.Shown.{ShownDisk, IsLawful}
use Rattle.heat_disk.specs.Calls.{Writes, Syncs}
use Rattle.heat_disk.proofs.Parts.{part-changed, beside-changed}
use Rattle.row_journal.specs.Snapshots.{IsUnopened, HasShut, header_of, IsStaged, IsStagedSomehow, HasStaged, HasFilled}
use Rattle.row_journal.proofs.Cuts.{torn_at, written_behind}
use Rattle.row_journal.proofs.Recordings.{on_ok}
use Rattle.row_journal.proofs.Runs.{SoFar, begins, next, synced, durable_beside, written_beside, synced_durable}
use Rattle.row_journal.proofs.Shut.{unborn_shut, unopened_same}

module _ (half : Half) (epoch : ℕ) (r : List ℕ) (old : ShownDisk) (law : IsLawful old) (shut : HasShut half old) where
  abbrev bytes : List ℕ
  bytes = part half old.seen

  abbrev gate : ℕ
  gate = get_or bytes 16 0

  at_old : SoFar old old (IsUnopened half old.seen)
  at_old = begins old (IsUnopened half old.seen) law (λ c now. unopened_same half old.seen c (shut.durable c now))

  module _ (first : ShownDisk) (one : Result (Unit {0}) DiskFailed) (writes : Writes half 0 (header_of epoch) one old first) where
    -- place 16 is behind it
    shut_first : (c : Pair) → first.may_leave c → (17 ≤ length (part half c)) × (get_or (part half c) 16 0 ≡ gate) × (beside half c ≡ beside half old.seen)
    shut_first c now =
        let from = writes.crash c now in
        let was = shut.durable from.0 from.1 in
        let torn : Torn 0 16 bytes (part half c) = subst (λ (p : Pair). Torn 0 16 (part half p) (part half c)) was from.2.0 in (
          omega (arith, shut.shut.long, torn.no_shorter),
          sym (get_or-drop 16 (part half c) 0 0) ∙ ap (λ (l : List ℕ). get_or l 0 0) torn.behind ∙ get_or-drop 16 bytes 0 0,
          from.2.1 ∙ ap (beside half) was,
        )

    pub after_header : SoFar old first (IsUnopened half old.seen)
    after_header = next old old first (IsUnopened half old.seen) at_old writes.time
        (λ c now. record { same = (shut_first c now).2; header = inl (unborn_shut (part half c) (λ opened. shut.shut.gate (sym (shut_first c now).1 ∙ opened))) })

    module _ (written : first.seen ≡ changed half (overwritten 0 (header_of epoch)) old.seen) where
      first_is : part half first.seen ≡ header_of epoch ++ drop 16 bytes
      first_is = ap (part half) written ∙ part-changed half (overwritten 0 (header_of epoch)) old.seen

      at_gate : drop 16 (part half first.seen) ≡ gate ∷ drop 17 bytes
      at_gate = ap (drop 16) first_is ∙ drop_more bytes 16 0 (omega (arith, shut.shut.long))

      front : take 16 (part half first.seen) ≡ header_of epoch
      front = ap (take 16) first_is

      module _ (second : ShownDisk) (two : Result (Unit {0}) DiskFailed) (fills : Writes half 17 r two first second) where
        shut_second : (c : Pair) → second.may_leave c → (get_or (part half c) 16 0 ≡ gate) × (beside half c ≡ beside half old.seen)
        shut_second c now =
            let from = fills.crash c now in
            let was = shut_first from.0 from.1 in
            let long : length (take 17 (part half from.0)) ≡ 17 = length-take-le 17 (part half from.0) was.0 in
            let same : take 17 (part half c) ≡ take 17 (part half from.0) = ap (λ (n : ℕ). take n (part half c)) (sym long) ∙ from.2.0.front in (
              sym (get_or-take 17 (part half c) 16 0 (omega arith)) ∙ ap (λ (l : List ℕ). get_or l 16 0) same ∙ get_or-take 17 (part half from.0) 16 0 (omega arith) ∙ was.1,
              from.2.1 ∙ was.2,
            )

        pub after_record : SoFar old second (IsUnopened half old.seen)
        after_record = next old first second (IsUnopened half old.seen) after_header fills.time
            (λ c now. record { same = (shut_second c now).1; header = inl (unborn_shut (part half c) (λ opened. shut.shut.gate (sym (shut_second c now).0 ∙ opened))) })

        module _ (last : ShownDisk) (three : Result (Unit {0}) DiskFailed) (syncs : Syncs half three second last) where
          pub after_sync : SoFar old last (IsUnopened half old.seen)
          after_sync = synced half three old second last (IsUnopened half old.seen) after_record syncs

          module _ (filled : second.seen ≡ changed half (overwritten 17 r) first.seen) (all : Only half (part half second.seen) last.may_leave) where
            last_is : part half last.seen ≡ header_of epoch ++ gate ∷ (r ++ drop (17 + length r) (part half first.seen))
            last_is =
                ap (part half) (syncs.alike.seen ∙ filled)
                ∙ part-changed half (overwritten 17 r) first.seen
                ∙ written_behind 16 (part half first.seen) gate (drop 17 bytes) at_gate r
                ∙ ap (λ (l : List ℕ). l ++ gate ∷ (r ++ drop (17 + length r) (part half first.seen))) front

            staged : HasStaged half epoch gate r old.seen last
            staged = record {
              durable = synced_durable half three second last
                  (written_beside half 17 r two first second
                  (written_beside half 0 (header_of epoch) one old first (durable_beside half old shut.durable) writes written) fills filled) syncs all;
              staged = record {
                same = ap (beside half) (syncs.alike.seen ∙ filled) ∙ beside-changed half (overwritten 17 r) first.seen ∙ ap (beside half) written ∙ beside-changed half (overwritten 0 (header_of epoch)) old.seen;
                rest = drop (17 + length r) (part half first.seen);
                parts = last_is;
              };
            }

          pub is_filled : second.seen ≡ changed half (overwritten 17 r) first.seen → OnOk three (HasFilled half epoch r old.seen last)
          is_filled filled = on_ok three (λ (all : Only half (part half second.seen) last.may_leave). record { gate = gate; filled = staged filled all }) syncs.durable

-- the gate
module _ (half : Half) (epoch gate : ℕ) (r : List ℕ) (before : Pair) (old : ShownDisk) (law : IsLawful old) (has : HasStaged half epoch gate r before old) where
  abbrev tail : List ℕ
  tail = r ++ has.staged.rest

  stands : drop 16 (part half old.seen) ≡ gate ∷ tail
  stands = ap (drop 16) has.staged.parts

  header_stands : take 16 (part half old.seen) ≡ header_of epoch
  header_stands = ap (take 16) has.staged.parts

  at_start : SoFar old old (IsStagedSomehow half epoch r before)
  at_start = begins old (IsStagedSomehow half epoch r before) law
      (λ c now. record { gate = gate; staged = subst (IsStaged half epoch gate r before) (sym (has.durable c now)) has.staged })

  module _ (first : ShownDisk) (one : Result (Unit {0}) DiskFailed) (writes : Writes half 16 (1 ∷ []) one old first) where
    torn_open : (c : Pair) → first.may_leave c → IsStagedSomehow half epoch r before c
    torn_open c now =
        let from = writes.crash c now in
        let was = has.durable from.0 from.1 in
        let torn : Torn 16 1 (part half old.seen) (part half c) = subst (λ (p : Pair). Torn 16 1 (part half p) (part half c)) was from.2.0 in
        record {
          gate = get_or (part half c) 16 0;
          staged = record {
            same = from.2.1 ∙ ap (beside half) was ∙ has.staged.same;
            rest = has.staged.rest;
            parts = torn_at 16 (part half old.seen) gate tail stands (part half c) torn ∙ ap (λ (l : List ℕ). l ++ get_or (part half c) 16 0 ∷ tail) header_stands;
          };
        }

    pub after_opening : SoFar old first (IsStagedSomehow half epoch r before)
    after_opening = next old old first (IsStagedSomehow half epoch r before) at_start writes.time torn_open

    module _ (last : ShownDisk) (two : Result (Unit {0}) DiskFailed) (syncs : Syncs half two first last) where
      pub after_end : SoFar old last (IsStagedSomehow half epoch r before)
      after_end = synced half two old first last (IsStagedSomehow half epoch r before) after_opening syncs
