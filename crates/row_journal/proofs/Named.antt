-- What a crash inside an opening leaves, by name: `named`.
use Rattle.std.proofs.Common.{◌≡◌, ◌⊎◌, inl, inr, ⊎_elim, ℕ, ◌+◌, ◌<◌, ◌≤◌, ◌^◌, List, [], ◌∷◌, ◌++◌, length, get_or, take, true, refl, sym, ◌∙◌, ap, subst, arith}
use Rattle.std.proofs.lemmas.Bool.{cases_eq}
use Rattle.heat_disk.specs.declared.half.Half.{Half}
use Rattle.heat_disk.specs.Halves.{Pair, part}
use Rattle.heat_disk.specs.Images.{Torn, StepsAt}
use Rattle.heat_disk.specs.Memory.{no_room}
use Rattle.heat_disk.specs.Shown.{ShownDisk, IsLawful}
use Rattle.row_journal.specs.declared.version.Version.TheVariants.{Two}
use Rattle.row_journal.specs.Forms.{journal_mark, body, IsSized}
use Rattle.row_journal.specs.Images.{ImageData, IsImage}
use Rattle.row_journal.proofs.Found.{image_same}
use Rattle.row_journal.specs.Ends.{end_of, behind, with_next, HasNext, IsTidy, Leaves, IsSealed, LeavesSealed, LeavesAjar}
use Rattle.row_journal.specs.Mends.{other, Mended, Recovering}
use Rattle.row_journal.specs.Openings.{Survives, SurvivesNamed}
use Rattle.row_journal.specs.Ready.{IsReady}
use Rattle.row_journal.specs.Snapshots.{fresh_snapshot, IsStaged, IsStagedSomehow}
use Rattle.row_journal.specs.Unsynced.{IsUnsynced, IsAtRest, IsLastUnsynced, OpeningLeaves, all_synced, record_unsynced, gate_unsynced, start_unsynced, filling_unsynced, snapshot_unsynced, as_read, without_last, with_behind, turned, turned_back}
use Rattle.row_journal.proofs.Cuts.{torn_at}
use Rattle.row_journal.proofs.Recordings.{record_sealed}
use Rattle.row_journal.proofs.Restart.{short_leaves}
use Rattle.row_journal.proofs.Settled.{not_short}
use Rattle.row_journal.proofs.Shut.{unborn_shut}
use Rattle.row_journal.proofs.Sides.{unopened_leaves, snapshot_image, snapshot_closed}
use Rattle.row_journal.proofs.Tidy.{sealed_tidy, ajar_tidy, next_long}
use Rattle.row_journal.proofs.Torn.{IsBehind, shut, tail_is, leaves_next}
use Rattle.row_journal.proofs.Turning.{weaker}

-- a disk on which these halves lie still
abbrev still : Pair → ShownDisk
still halves = record {
  tells = true;
  seen = halves;
  may_leave = λ c. c ≡ halves;
  moment = 0;
  left_since = λ _ _. Unit {0};
  room = (no_room, no_room);
}

at_rest : (image : ImageData) (halves : Pair) → IsAtRest image halves → IsReady image (still halves)
at_rest image halves rest = record { is_image = rest.is_image; marked = rest.marked; closed = rest.closed; durable = λ c same. same }

-- a gate, torn in front of a whole record
module _ (before : Pair) (image : ImageData) (gate : ℕ) (payload : List ℕ) (is_image : IsImage before image) (next : HasNext image gate payload (behind before image)) where
  marked : image.start ≡ 8 → take 8 (part image.half before) ≡ journal_mark image.version
  marked = not_short before image is_image (λ _. omega (arith, next_long image before gate payload next))

  abbrev tail : ℕ → List ℕ
  tail g = g ∷ body image.version (length image.payloads + 1) payload ++ 0 ∷ next.rest

  abbrev here : Pair → ℕ
  here c = get_or (part image.half c) (end_of image) 0

  new_behind : (c : Pair) → StepsAt image.half (Torn (end_of image) 1) before c → IsBehind before c image (tail (here c))
  new_behind c step = record {
    other = step.1;
    parts = torn_at (end_of image) (part image.half before) gate (body image.version (length image.payloads + 1) payload ++ 0 ∷ next.rest) next.parts (part image.half c) step.0;
    no_shorter = step.0.no_shorter;
  }

  by_gate : (c : Pair) → StepsAt image.half (Torn (end_of image) 1) before c
      → ((here c ≡ 1) × LeavesSealed (with_next image payload) c) ⊎ ((here c ≡ 1 → ⊥) × LeavesAjar image payload c)
  by_gate c step = ⊎_elim
      (λ (opened : here c ≡ 1). inl (
        opened,
        leaves_next before image is_image marked payload next.sized next.rest c
            (subst (λ (g : ℕ). IsBehind before c image (tail g)) opened (new_behind c step)),
      ))
      (λ (closed : here c ≡ 1 → ⊥). inr (
        closed,
        record {
          is_image = shut before image is_image marked c (here c) (body image.version (length image.payloads + 1) payload ++ 0 ∷ next.rest) closed (new_behind c step);
          gate = here c;
          next = record { rest = next.rest; parts = tail_is before image is_image marked c (tail (here c)) (new_behind c step); sized = next.sized };
        },
      ))
      (cases_eq (here c) 1)

-- a snapshot's gate, torn in front of it
module _ (before : Pair) (image : ImageData) (payload : List ℕ) (rest : IsAtRest image before) (sized : IsSized payload) (small : image.epoch + 1 < 2 ^ 64) where
  abbrev record_bytes : List ℕ
  record_bytes = body Two 1 payload ++ 0 ∷ []

  abbrev Stages : Pair → Pair → Type 0
  Stages base c = IsStagedSomehow (other image.half) (image.epoch + 1) record_bytes base c

  abbrev there : Pair → ℕ
  there c = get_or (part (other image.half) c) 16 0

  gate_is : (c : Pair) → (it : Stages before c) → there c ≡ it.gate
  gate_is c it = ap (λ (l : List ℕ). get_or l 16 0) it.staged.parts

  by_side : (c : Pair) → Stages before c
      → ((there c ≡ 1) × LeavesSealed (fresh_snapshot image payload) c) ⊎ ((there c ≡ 1 → ⊥) × LeavesSealed image c)
  by_side c it = ⊎_elim
      (λ (opened : there c ≡ 1).
      let staged = subst (λ (g : ℕ). IsStaged (other image.half) (image.epoch + 1) g record_bytes before c) (sym (gate_is c it) ∙ opened) it.staged in
      inl (
        opened,
        record {
          is_image = snapshot_image image (still before) (at_rest image before rest) small payload sized record_bytes refl c staged;
          sealed = IsSealed.closed (snapshot_closed image (still before) (at_rest image before rest) small payload sized record_bytes refl c staged);
        },
      ))
      (λ (closed : there c ≡ 1 → ⊥). inr (
        closed,
        unopened_leaves image (still before) (at_rest image before rest) c (record {
          same = it.staged.same;
          header = inl (unborn_shut (part (other image.half) c) closed);
        }),
      ))
      (cases_eq (there c) 1)

  -- it stands there still
  stands_there : (c : Pair) → Stages before c → Stages c c
  stands_there c it = record { gate = it.gate; staged = record { same = refl; rest = it.staged.rest; parts = it.staged.parts } }

module _ (disk : ShownDisk) (law : IsLawful disk) (read : ImageData) (is_image : IsImage disk.seen read) (tidy : IsTidy disk.seen read) where
  abbrev seen : Pair
  seen = disk.seen

  -- all of them have this image
  one_image : (image : ImageData) → LeavesSealed image seen → (c : Pair) → LeavesSealed image c → OpeningLeaves disk read c
  one_image image at_seen c left =
      subst (λ (i : ImageData). OpeningLeaves disk i c) (image_same seen image read at_seen.is_image is_image) (as_read (sealed_tidy image c left))

  differs : (half : Half) (place : ℕ) (c : Pair) → disk.may_leave c → (get_or (part half c) place 0 ≡ get_or (part half seen) place 0 → ⊥) → IsUnsynced half place disk
  differs half place c left apart = record { halves = c; left = left; differs = apart }

  gates : (before : Pair) (image : ImageData) (gate : ℕ) (payload : List ℕ) → (base : IsImage before image) → (next : HasNext image gate payload (behind before image))
      → ((c : Pair) → disk.may_leave c → StepsAt image.half (Torn (end_of image) 1) before c) → (c : Pair) → disk.may_leave c → OpeningLeaves disk read c
  gates before image gate payload base next each c now = both (by_gate before image gate payload base next seen (each seen law.reads)) (by_gate before image gate payload base next c (each c now))
    where
      both : ((here before image gate payload base next seen ≡ 1) × LeavesSealed (with_next image payload) seen) ⊎ ((here before image gate payload base next seen ≡ 1 → ⊥) × LeavesAjar image payload seen)
          → ((here before image gate payload base next c ≡ 1) × LeavesSealed (with_next image payload) c) ⊎ ((here before image gate payload base next c ≡ 1 → ⊥) × LeavesAjar image payload c)
          → OpeningLeaves disk read c
      both (inl was) (inl is) = one_image (with_next image payload) was.1 c is.1
      both (inl was) (inr is) =
          subst (λ (i : ImageData). OpeningLeaves disk i c) (image_same seen (with_next image payload) read was.1.is_image is_image)
          (without_last image payload refl (differs image.half (end_of image) c now (λ same. is.0 (same ∙ was.0))) (ajar_tidy image payload c is.1))
      both (inr was) (inl is) =
          subst (λ (i : ImageData). OpeningLeaves disk i c) (image_same seen image read was.1.is_image is_image)
          (with_behind was.1.gate payload was.1.next (sealed_tidy (with_next image payload) c is.1))
      both (inr was) (inr is) =
          subst (λ (i : ImageData). OpeningLeaves disk i c) (image_same seen image read was.1.is_image is_image) (as_read (ajar_tidy image payload c is.1))

  sides : (before : Pair) (image : ImageData) (payload : List ℕ) → (rest : IsAtRest image before) → (sized : IsSized payload) → (small : image.epoch + 1 < 2 ^ 64)
      → ((c : Pair) → disk.may_leave c → IsStagedSomehow (other image.half) (image.epoch + 1) (body Two 1 payload ++ 0 ∷ []) before c) → (c : Pair) → disk.may_leave c → OpeningLeaves disk read c
  sides before image payload rest sized small each c now = both (by_side before image payload rest sized small seen (each seen law.reads)) (by_side before image payload rest sized small c (each c now))
    where
      there_of : Pair → ℕ
      there_of d = get_or (part (other image.half) d) 16 0

      both : ((there_of seen ≡ 1) × LeavesSealed (fresh_snapshot image payload) seen) ⊎ ((there_of seen ≡ 1 → ⊥) × LeavesSealed image seen)
          → ((there_of c ≡ 1) × LeavesSealed (fresh_snapshot image payload) c) ⊎ ((there_of c ≡ 1 → ⊥) × LeavesSealed image c)
          → OpeningLeaves disk read c
      both (inl was) (inl is) = one_image (fresh_snapshot image payload) was.1 c is.1
      both (inl was) (inr is) =
          subst (λ (i : ImageData). OpeningLeaves disk i c) (image_same seen (fresh_snapshot image payload) read was.1.is_image is_image)
          (turned_back image payload refl (differs (other image.half) 16 c now (λ same. is.0 (same ∙ was.0))) (sealed_tidy image c is.1))
      both (inr was) (inl is) =
          subst (λ (i : ImageData). OpeningLeaves disk i c) (image_same seen image read was.1.is_image is_image)
          (turned payload (differs (other image.half) 16 c now (λ same. was.0 (sym same ∙ is.0)))
          (stands_there before image payload rest sized small seen (each seen law.reads)) (sealed_tidy (fresh_snapshot image payload) c is.1))
      both (inr was) (inr is) = one_image image was.1 c is.1

  -- what a crash before the opening might have left
  might : IsLastUnsynced disk → (c : Pair) → disk.may_leave c → OpeningLeaves disk read c
  might (all_synced durable) c now = as_read (subst (Leaves read) (sym (durable c now)) (record { is_image = is_image; tidy = tidy }))
  might (record_unsynced before image n rest each) c now =
      one_image image (record_sealed before image n rest seen (each seen law.reads)) c (record_sealed before image n rest c (each c now))
  might (gate_unsynced before image gate payload base next each) c now = gates before image gate payload base next each c now
  might (start_unsynced before image base first few each) c now =
      let short : length (part image.half before) ≤ 9 = omega (arith, few, ap (λ (h : Half). length (part h before)) first) in
      let at : (d : Pair) → disk.may_leave d → LeavesSealed image d = λ d left. short_leaves before image base first short d (each d left).0 (each d left).1 in
      one_image image (at seen law.reads) c (at c now)
  might (filling_unsynced before image rest each) c now =
      one_image image (unopened_leaves image (still before) (at_rest image before rest) seen (each seen law.reads)) c
      (unopened_leaves image (still before) (at_rest image before rest) c (each c now))
  might (snapshot_unsynced before image payload rest sized small each) c now = sides before image payload rest sized small each c now

  mended : (c : Pair) → Mended read seen c → OpeningLeaves disk read c
  mended c (Mended.same left) = as_read (sealed_tidy read c left)
  mended c (Mended.ajar gate payload apart next left) = as_read (ajar_tidy read payload c left)
  mended c (Mended.grown gate payload apart next left) = with_behind gate payload next (sealed_tidy (with_next read payload) c left)

pub named : (old new : ShownDisk) → IsLawful old → Survives old new → SurvivesNamed old new
named old new law survives image is_image tidy last =
    weaker old new (Recovering old image) (OpeningLeaves old image)
    (λ c it. ⊎_elim (might old law image is_image tidy last c) (mended old law image is_image tidy c) it)
    (survives image is_image tidy)
