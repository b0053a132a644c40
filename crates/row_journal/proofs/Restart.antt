-- A recovery that begins an empty journal.
use Rattle.std.proofs.Common.{◌≡◌, ℕ, ◌+◌, ◌≤◌, List, [], ◌∷◌, length, take, drop, Option, Some, None, Result, OnOk, refl, sym, ◌∙◌, ap, subst, arith}
use Rattle.std.proofs.lemmas.List.{length-take}
use Rattle.heat_disk.specs.declared.half.Half.{Half}
use Rattle.heat_disk.specs.declared.half.Half.TheVariants.{First, Second}
use Rattle.heat_disk.specs.declared.disk.DiskFailed.{DiskFailed}
use Rattle.heat_disk.specs.Halves.{Pair, part, changed}
use Rattle.heat_disk.specs.Images.{overwritten, Only}
use Rattle.heat_disk.specs.Shown.{ShownDisk, IsLawful}
use Rattle.heat_disk.specs.Calls.{Writes, Cuts, Syncs}
use Rattle.row_journal.specs.declared.headers.Header.{Header}
use Rattle.row_journal.specs.declared.version.Version.TheVariants.{Two}
use Rattle.row_journal.specs.Forms.{journal_mark, spelled}
use Rattle.row_journal.specs.Images.{ImageData, HasHeader, IsPlain, Gives, live, IsImage}
use Rattle.row_journal.specs.declared.looking.Ending.TheVariants.{Short}
use Rattle.row_journal.specs.declared.place.Place.{Place}
use Rattle.row_journal.specs.Ends.{end_of, IsSealed, LeavesSealed}
use Rattle.row_journal.specs.Mends.{IsSettled, HasMended, Mended}
use Rattle.row_journal.specs.Places.{place_of}
use Rattle.row_journal.specs.Ready.{IsReady}
use Rattle.row_journal.specs.Unsynced.{IsLastUnsynced, start_unsynced}
use Rattle.row_journal.proofs.Laid.{gives_half}
use Rattle.row_journal.proofs.Recordings.{on_ok}
use Rattle.row_journal.proofs.Runs.{SoFar, begins, next, synced, pair_same}

-- what an empty journal is
pub record IsFresh (image : ImageData) : Type 0 where
  pub version : image.version ≡ Two
  pub start : image.start ≡ 8
  pub payloads : image.payloads ≡ []

fresh_plain : (bytes : List ℕ) (image : ImageData) → IsPlain bytes image.version image.payloads → length bytes ≤ 9 → (image.version ≡ Two) × (image.payloads ≡ [])
fresh_plain bytes image (IsPlain.fresh _ two none) short = (two, none)
fresh_plain bytes image (IsPlain.marked long _ _) short = absurd (omega (arith, long, short))

-- a half of at most 9 bytes isn't born
unborn : (bytes : List ℕ) → length bytes ≤ 9 → HasHeader bytes None
unborn bytes short header born = absurd (omega (arith, short, born.long))

-- what it gives, and what any other of at most 9 bytes then gives
again : (half : Half) (header : Option Header) (bytes now : List ℕ) (image : ImageData) → Gives half bytes header image → HasHeader bytes header → length bytes ≤ 9 → length now ≤ 9
    → IsFresh image × HasHeader now header × Gives half now header image
again half None bytes now image gives header short few =
    let fresh = fresh_plain bytes image gives.1.plain short in (
      record { version = fresh.0; start = gives.1.start; payloads = fresh.1 },
      unborn now few,
      (gives.0, record { start = gives.1.start; epoch = gives.1.epoch; plain = IsPlain.fresh few fresh.0 fresh.1 }),
    )
again half (Some header) bytes now image gives born short few = absurd (omega (arith, short, born.long))

both : (half : Half) (headers : Option Header × Option Header) (halves now : Pair) (image : ImageData) → HasHeader halves.0 headers.0 → HasHeader halves.1 headers.1
    → half ≡ First → Gives half (part half halves) (part half headers) image → length halves.0 ≤ 9 → length now.0 ≤ 9 → now.1 ≡ halves.1
    → IsFresh image × HasHeader now.0 headers.0 × HasHeader now.1 headers.1 × Gives half (part half now) (part half headers) image
both First headers halves now image first second is gives short few other =
    let once = again First headers.0 halves.0 now.0 image gives first short few in
    (once.0, once.1, subst (λ (l : List ℕ). HasHeader l headers.1) (sym other) second, once.2)
both Second headers halves now image first second is gives short few other = absurd (cc)

module _ (halves : Pair) (image : ImageData) (is_image : IsImage halves image) (first : image.half ≡ First) (short : length (part image.half halves) ≤ 9) where
  few_first : length halves.0 ≤ 9
  few_first = subst (λ (h : Half). length (part h halves) ≤ 9) first short

  all_of : (now : Pair) → length now.0 ≤ 9 → now.1 ≡ halves.1
      → IsFresh image × HasHeader now.0 is_image.headers.0 × HasHeader now.1 is_image.headers.1 × Gives (live is_image.headers.0 is_image.headers.1) (part (live is_image.headers.0 is_image.headers.1) now) (part (live is_image.headers.0 is_image.headers.1) is_image.headers) image
  all_of now few other =
      let headers = is_image.headers in
      let half = live headers.0 headers.1 in
      both half headers halves now image is_image.first is_image.second (sym (gives_half half (part half halves) (part half headers) image is_image.gives) ∙ first) is_image.gives few_first few other

  pub short_image : (now : Pair) → length now.0 ≤ 9 → now.1 ≡ halves.1 → IsImage now image
  short_image now few other =
      let all = all_of now few other in
      record { headers = is_image.headers; first = all.1; second = all.2; gives = all.3 }

  pub short_leaves : (now : Pair) → length now.0 ≤ 9 → now.1 ≡ halves.1 → LeavesSealed image now
  short_leaves now few other = record { is_image = short_image now few other; sealed = IsSealed.short first few }

  pub is_fresh : IsFresh image
  is_fresh = (all_of halves few_first refl).0

abbrev pub fresh_bytes : List ℕ
fresh_bytes = 72 ∷ 69 ∷ 65 ∷ 84 ∷ 74 ∷ 48 ∷ 48 ∷ 50 ∷ 0 ∷ []

module _ (place : Place) (image : ImageData) (is : place ≡ place_of image) (old : ShownDisk) (law : IsLawful old) (settled : IsSettled image Short old) where
  at_first : place.half ≡ First
  at_first = ap (λ (p : Place). p.half) is ∙ settled.ends.0

  leaves : (now : Pair) → length now.0 ≤ 9 → now.1 ≡ old.seen.1 → Mended image old.seen now
  leaves now few other = Mended.same (short_leaves old.seen image settled.is_image settled.ends.0 settled.ends.1 now few other)

  few_old : length old.seen.0 ≤ 9
  few_old = few_first old.seen image settled.is_image settled.ends.0 settled.ends.1

  at_old : SoFar old old (Mended image old.seen)
  at_old = begins old (Mended image old.seen) law (λ c now. subst (Mended image old.seen) (sym (settled.durable c now)) (leaves old.seen few_old refl))

  module _ (first : ShownDisk) (one : Result (Unit {0}) DiskFailed) (did_cut : Cuts place.half 0 one old first) where
    cuts : Cuts First 0 one old first
    cuts = subst (λ (h : Half). Cuts h 0 one old first) at_first did_cut

    few_cut : (c : Pair) → first.may_leave c → (length c.0 ≤ 9) × (c.1 ≡ old.seen.1)
    few_cut c now =
        let from = cuts.crash c now in
        let was = settled.durable from.0 from.1 in
        (omega (arith, few_old, ap length from.2.0.front, length-take (length c.0) from.0.0, ap (λ (p : Pair). length p.0) was), from.2.1 ∙ ap (λ (p : Pair). p.1) was)

    pub cut_unsynced : IsLastUnsynced first
    cut_unsynced = start_unsynced old.seen image settled.is_image settled.ends.0 few_old few_cut

    pub after_cut : SoFar old first (Mended image old.seen)
    after_cut = next old old first (Mended image old.seen) at_old cuts.time (λ c now. leaves c (few_cut c now).0 (few_cut c now).1)

    module _ (second : ShownDisk) (two : Result (Unit {0}) DiskFailed) (wrote : Writes place.half 0 fresh_bytes two first second) where
      writes : Writes First 0 fresh_bytes two first second
      writes = subst (λ (h : Half). Writes h 0 fresh_bytes two first second) at_first wrote

      few_written : (c : Pair) → second.may_leave c → (length c.0 ≤ 9) × (c.1 ≡ old.seen.1)
      few_written c now =
          let from = writes.crash c now in
          let was = few_cut from.0 from.1 in
          (omega (arith, was.0, from.2.0.no_longer), from.2.1 ∙ was.1)

      pub write_unsynced : IsLastUnsynced second
      write_unsynced = start_unsynced old.seen image settled.is_image settled.ends.0 few_old few_written

      pub after_write : SoFar old second (Mended image old.seen)
      after_write = next old first second (Mended image old.seen) after_cut writes.time (λ c now. leaves c (few_written c now).0 (few_written c now).1)

      module _ (last : ShownDisk) (three : Result (Unit {0}) DiskFailed) (did_sync : Syncs place.half three second last) where
        syncs : Syncs First three second last
        syncs = subst (λ (h : Half). Syncs h three second last) at_first did_sync

        pub sync_unsynced : IsLastUnsynced last
        sync_unsynced = start_unsynced old.seen image settled.is_image settled.ends.0 few_old (λ c now. few_written c (syncs.alike.crash c now))

        pub after_sync : SoFar old last (Mended image old.seen)
        after_sync = synced First three old second last (Mended image old.seen) after_write syncs

        module _ (was_cut : first.seen ≡ changed place.half (take 0) old.seen) (was_written : second.seen ≡ changed place.half (overwritten 0 fresh_bytes) first.seen)
            (was_all : Only place.half (part place.half second.seen) last.may_leave) where
          cut_is : first.seen ≡ ([], old.seen.1)
          cut_is = subst (λ (h : Half). first.seen ≡ changed h (take 0) old.seen) at_first was_cut

          last_is : last.seen ≡ (fresh_bytes, old.seen.1)
          last_is = syncs.alike.seen ∙ subst (λ (h : Half). second.seen ≡ changed h (overwritten 0 fresh_bytes) first.seen) at_first was_written ∙ ap (λ (p : Pair). changed First (overwritten 0 fresh_bytes) p) cut_is

          all : Only First (part First second.seen) last.may_leave
          all = subst (λ (h : Half). Only h (part h second.seen) last.may_leave) at_first was_all

          fresh : IsFresh image
          fresh = is_fresh old.seen image settled.is_image settled.ends.0 settled.ends.1

          half_is : part image.half last.seen ≡ fresh_bytes
          half_is = ap (λ (h : Half). part h last.seen) settled.ends.0 ∙ ap (λ (p : Pair). p.0) last_is

          end_is : end_of image ≡ 8
          end_is = ap (λ (ps : List (List ℕ)). image.start + length (spelled image.version 1 ps)) fresh.payloads ∙ omega (arith, fresh.start)

          is_ready : IsReady image last
          is_ready = record {
            is_image = short_image old.seen image settled.is_image settled.ends.0 settled.ends.1 last.seen (omega (arith, ap (λ (p : Pair). length p.0) last_is)) (ap (λ (p : Pair). p.1) last_is);
            marked = λ start. ap (take 8) half_is ∙ ap journal_mark (sym fresh.version);
            closed = record { rest = []; gate = ap (λ (n : ℕ). drop n (part image.half last.seen)) end_is ∙ ap (drop 8) half_is };
            durable = λ c now. pair_same First c last.seen (all c now ∙ sym (ap (part First) syncs.alike.seen))
                ((few_written c (syncs.alike.crash c now)).1 ∙ sym (ap (λ (p : Pair). p.1) last_is));
          }

        pub after_ready : first.seen ≡ changed place.half (take 0) old.seen → second.seen ≡ changed place.half (overwritten 0 fresh_bytes) first.seen → OnOk three (IsReady image last)
        after_ready was_cut was_written = on_ok three (is_ready was_cut was_written) did_sync.durable

        pub after_bytes : first.seen ≡ changed place.half (take 0) old.seen → second.seen ≡ changed place.half (overwritten 0 fresh_bytes) first.seen → OnOk three (HasMended image old.seen last.seen)
        after_bytes was_cut was_written = on_ok three (λ was_all. HasMended.begun settled.ends.0 settled.ends.1 (last_is was_cut was_written was_all)) did_sync.durable
