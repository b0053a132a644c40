-- The image while the other half changes: it stays until that half is born, and then that half's is the image.
use Rattle.std.proofs.Common.{◌≡◌, ◌⊎◌, inl, inr, ⊎_elim, ℕ, ◌+◌, ◌<◌, ◌^◌, List, [], ◌∷◌, ◌++◌, length, get_or, take, drop, Bool, if◌then◌else◌, Option, Some, None, refl, sym, ◌∙◌, ap, subst, arith, append_assoc, length-append}
use Rattle.std.proofs.lemmas.List.{append-nil}
use Rattle.std.proofs.lemmas.List.Elements.{All-nil, All-cons}
use Rattle.std.proofs.lemmas.Nat.{from_be_bytes-to_be_bytes_8}
use Rattle.std.proofs.lemmas.Bool.{cases_eq, lt-ltb, le-ltb}
use Rattle.heat_disk.specs.declared.half.Half.{Half}
use Rattle.heat_disk.specs.declared.half.Half.TheVariants.{First, Second}
use Rattle.heat_disk.specs.Halves.{Pair, part, beside}
use Rattle.heat_disk.specs.Shown.{ShownDisk, IsDurable}
use Rattle.row_journal.specs.declared.headers.Header.{Header}
use Rattle.row_journal.specs.declared.version.Version.TheVariants.{Two}
use Rattle.row_journal.specs.Forms.{number, body, spelled, IsSized, AreRecords}
use Rattle.row_journal.specs.Images.{ImageData, IsBorn, HasHeader, Gives, live, IsImage}
use Rattle.row_journal.specs.Ends.{end_of, behind, IsClosed, IsSealed, LeavesSealed}
use Rattle.row_journal.specs.Mends.{other}
use Rattle.row_journal.specs.Ready.{IsReady}
use Rattle.row_journal.specs.Snapshots.{IsUnopened, header_of, IsStaged, IsStagedSomehow, HasStaged, fresh_snapshot, LeavesSnapshot}
use Rattle.row_journal.proofs.Cuts.{behind_more}
use Rattle.row_journal.proofs.Laid.{gives_half}
use Rattle.row_journal.proofs.Settled.{beside-other}
use Rattle.row_journal.proofs.Shut.{unborn_shut}

keep_first : (a b : Option Header) → live a b ≡ First → live a None ≡ First
keep_first None b is = refl
keep_first (Some a) b is = refl

keep_second : (a b : Option Header) → live a b ≡ Second → live None b ≡ Second
keep_second None None is = is
keep_second (Some a) None is = is
keep_second a (Some b) is = refl

module _ (halves now : Pair) (image : ImageData) (a b : Option Header) (first : HasHeader halves.0 a) (second : HasHeader halves.1 b) where
  -- the live half is as it was, and the other has no header, or its old one
  stays : (half : Half) → live a b ≡ half → Gives half (part half halves) (part half (a, b)) image → part half now ≡ part half halves
      → HasHeader (part (other half) now) None ⊎ ((h : Option Header) → HasHeader (part (other half) halves) h → HasHeader (part (other half) now) h) → IsImage now image
  stays First is gives same (inl none) = record {
    headers = (a, None);
    first = subst (λ (l : List ℕ). HasHeader l a) (sym same) first;
    second = none;
    gives = subst (λ (h : Half). Gives h (part h now) (part h (a, None)) image) (sym (keep_first a b is)) (subst (λ (l : List ℕ). Gives First l a image) (sym same) gives);
  }
  stays First is gives same (inr old) = record {
    headers = (a, b);
    first = subst (λ (l : List ℕ). HasHeader l a) (sym same) first;
    second = old b second;
    gives = subst (λ (h : Half). Gives h (part h now) (part h (a, b)) image) (sym is) (subst (λ (l : List ℕ). Gives First l a image) (sym same) gives);
  }
  stays Second is gives same (inl none) = record {
    headers = (None, b);
    first = none;
    second = subst (λ (l : List ℕ). HasHeader l b) (sym same) second;
    gives = subst (λ (h : Half). Gives h (part h now) (part h (None, b)) image) (sym (keep_second a b is)) (subst (λ (l : List ℕ). Gives Second l b image) (sym same) gives);
  }
  stays Second is gives same (inr old) = record {
    headers = (a, b);
    first = old a first;
    second = subst (λ (l : List ℕ). HasHeader l b) (sym same) second;
    gives = subst (λ (h : Half). Gives h (part h now) (part h (a, b)) image) (sym is) (subst (λ (l : List ℕ). Gives Second l b image) (sym same) gives);
  }

pub unopened_image : (halves now : Pair) (image : ImageData) → IsImage halves image → IsUnopened (other image.half) halves now → IsImage now image
unopened_image halves now image is_image un =
    let headers = is_image.headers in
    let half = live headers.0 headers.1 in
    let here = gives_half half (part half halves) (part half headers) image is_image.gives in
    let same : part half now ≡ part half halves =
    subst (λ (h : Half). part h now ≡ part h halves) here (sym (beside-other image.half now) ∙ un.same ∙ beside-other image.half halves) in
    stays halves now image headers.0 headers.1 is_image.first is_image.second half refl is_image.gives same
    (subst (λ (h : Half). HasHeader (part (other h) now) None ⊎ ((k : Option Header) → HasHeader (part (other h) halves) k → HasHeader (part (other h) now) k)) here un.header)

live_same : (half : Half) (halves now : Pair) → beside (other half) now ≡ beside (other half) halves → part half now ≡ part half halves
live_same half halves now same = sym (beside-other half now) ∙ same ∙ beside-other half halves

module _ (image : ImageData) (old : ShownDisk) (ready : IsReady image old) where
  module _ (now : Pair) (un : IsUnopened (other image.half) old.seen now) where
    closed_still : IsClosed (behind now image)
    closed_still = subst (λ (l : List ℕ). IsClosed (drop (end_of image) l)) (sym (live_same image.half old.seen now un.same)) ready.closed

    pub unopened_leaves : LeavesSealed image now
    unopened_leaves = record { is_image = unopened_image old.seen now image ready.is_image un; sealed = IsSealed.closed closed_still }

  pub ready_still : (new : ShownDisk) → IsUnopened (other image.half) old.seen new.seen → IsDurable new → IsReady image new
  ready_still new un durable = record {
    is_image = unopened_image old.seen new.seen image ready.is_image un;
    marked = λ start. ap (take 8) (live_same image.half old.seen new.seen un.same) ∙ ready.marked start;
    closed = closed_still new.seen un;
    durable = durable;
  }

-- the other half is born with the next epoch
module _ (epoch : ℕ) where
  abbrev later : Header
  later = record { version = Two; epoch = epoch + 1 }

  second_later : (a b : Option Header) (bytes : List ℕ) (image : ImageData) → Gives First bytes a image → image.epoch ≡ epoch → live a (Some later) ≡ Second
  second_later None b bytes image gives is = refl
  second_later (Some h) b bytes image gives is =
      ap (λ (t : Bool). if t then Second else First) (lt-ltb h.epoch (epoch + 1) (omega (arith, is, gives.1.epoch)))

  first_later : (a b : Option Header) (bytes : List ℕ) (image : ImageData) → Gives Second bytes b image → live a b ≡ Second → image.epoch ≡ epoch → live (Some later) b ≡ First
  first_later a None bytes image gives is same = refl
  first_later a (Some h) bytes image gives is same =
      ap (λ (t : Bool). if t then Second else First) (le-ltb (epoch + 1) h.epoch (omega (arith, same, gives.1.epoch)))

module _ (payload : List ℕ) (sized : IsSized payload) (epoch : ℕ) (small : epoch + 1 < 2 ^ 64) (r rest bytes : List ℕ)
    (r_is : r ≡ body Two 1 payload ++ 0 ∷ []) (parts : bytes ≡ header_of (epoch + 1) ++ 1 ∷ (r ++ rest)) where
  whole : bytes ≡ header_of (epoch + 1) ++ 1 ∷ (body Two 1 payload ++ 0 ∷ rest)
  whole = parts ∙ ap (λ (l : List ℕ). header_of (epoch + 1) ++ 1 ∷ (l ++ rest)) r_is ∙ ap (λ (l : List ℕ). header_of (epoch + 1) ++ 1 ∷ l) (append_assoc (body Two 1 payload) (0 ∷ []) rest)

  pub is_born : IsBorn bytes (record { version = Two; epoch = epoch + 1 })
  is_born = record {
    long = omega (arith, ap length whole, length-append (body Two 1 payload) (0 ∷ rest));
    mark = ap (take 8) whole;
    epoch = ap (λ (l : List ℕ). number (take 8 (drop 8 l))) whole ∙ from_be_bytes-to_be_bytes_8 (epoch + 1) small;
    gate = ap (λ (l : List ℕ). get_or l 16 0) whole;
  }

  pub records : AreRecords Two 1 (drop 16 bytes) (payload ∷ [])
  records = record {
    tail = 0 ∷ rest;
    parts = ap (drop 16) whole ∙ ap (λ (l : List ℕ). l ++ 0 ∷ rest) (sym (append-nil (1 ∷ body Two 1 payload)));
    ends = omega arith;
    sized = All-cons IsSized payload [] sized (All-nil IsSized);
  }

  pub closed_behind : drop (16 + length (spelled Two 1 (payload ∷ []))) bytes ≡ 0 ∷ rest
  closed_behind = behind_more 16 bytes (header_of (epoch + 1)) (spelled Two 1 (payload ∷ [])) (0 ∷ rest) refl
      (whole ∙ ap (λ (l : List ℕ). header_of (epoch + 1) ++ l) (ap (λ (l : List ℕ). l ++ 0 ∷ rest) (sym (append-nil (1 ∷ body Two 1 payload))))
      ∙ sym (append_assoc (header_of (epoch + 1)) (spelled Two 1 (payload ∷ [])) (0 ∷ rest)))

module _ (halves now : Pair) (image : ImageData) (payload : List ℕ) (a b : Option Header) (first : HasHeader halves.0 a) (second : HasHeader halves.1 b) where
  turns : (half : Half) → live a b ≡ half → Gives half (part half halves) (part half (a, b)) image → part half now ≡ part half halves
      → IsBorn (part (other half) now) (record { version = Two; epoch = image.epoch + 1 }) → AreRecords Two 1 (drop 16 (part (other half) now)) (payload ∷ [])
      → image.half ≡ half → IsImage now (fresh_snapshot image payload)
  turns First is gives same born records here = record {
    headers = (a, Some (later image.epoch));
    first = subst (λ (l : List ℕ). HasHeader l a) (sym same) first;
    second = born;
    gives = subst (λ (h : Half). Gives h (part h now) (part h (a, Some (later image.epoch))) (fresh_snapshot image payload)) (sym (second_later image.epoch a b halves.0 image gives refl))
        (ap other here, record { start = refl; epoch = refl; version = refl; born = records });
  }
  turns Second is gives same born records here = record {
    headers = (Some (later image.epoch), b);
    first = born;
    second = subst (λ (l : List ℕ). HasHeader l b) (sym same) second;
    gives = subst (λ (h : Half). Gives h (part h now) (part h (Some (later image.epoch), b)) (fresh_snapshot image payload)) (sym (first_later image.epoch a b halves.1 image gives is refl))
        (ap other here, record { start = refl; epoch = refl; version = refl; born = records });
  }

-- what a staged snapshot stands for, by its gate
module _ (image : ImageData) (base : ShownDisk) (ready : IsReady image base) (small : image.epoch + 1 < 2 ^ 64) (payload : List ℕ) (sized : IsSized payload) (r : List ℕ)
    (r_is : r ≡ body Two 1 payload ++ 0 ∷ []) where
  module _ (now : Pair) (staged : IsStaged (other image.half) (image.epoch + 1) 1 r base.seen now) where
    pub snapshot_image : IsImage now (fresh_snapshot image payload)
    snapshot_image =
        let headers = ready.is_image.headers in
        let half = live headers.0 headers.1 in
        let here = gives_half half (part half base.seen) (part half headers) image ready.is_image.gives in
        let same = subst (λ (h : Half). part h now ≡ part h base.seen) here (live_same image.half base.seen now staged.same) in
        turns base.seen now image payload headers.0 headers.1 ready.is_image.first ready.is_image.second half refl ready.is_image.gives same
        (subst (λ (h : Half). IsBorn (part (other h) now) (record { version = Two; epoch = image.epoch + 1 })) here (is_born payload sized image.epoch small r staged.rest (part (other image.half) now) r_is staged.parts))
        (subst (λ (h : Half). AreRecords Two 1 (drop 16 (part (other h) now)) (payload ∷ [])) here (records payload sized image.epoch small r staged.rest (part (other image.half) now) r_is staged.parts))
        here

    pub snapshot_closed : IsClosed (behind now (fresh_snapshot image payload))
    snapshot_closed = record { rest = staged.rest; gate = closed_behind payload sized image.epoch small r staged.rest (part (other image.half) now) r_is staged.parts }

  -- with its gate open it is the image; else the image is as before
  pub staged_leaves : (now : Pair) → IsStagedSomehow (other image.half) (image.epoch + 1) r base.seen now → LeavesSnapshot image payload now
  staged_leaves now it = ⊎_elim
      (λ (opened : it.gate ≡ 1).
      let staged = subst (λ (g : ℕ). IsStaged (other image.half) (image.epoch + 1) g r base.seen now) opened it.staged in
      LeavesSnapshot.turned (record { is_image = snapshot_image now staged; sealed = IsSealed.closed (snapshot_closed now staged) }))
      (λ (shut : it.gate ≡ 1 → ⊥). LeavesSnapshot.before (unopened_leaves image base ready now (record {
        same = it.staged.same;
        header = inl (unborn_shut (part (other image.half) now) (λ opened. shut (sym (ap (λ (l : List ℕ). get_or l 16 0) it.staged.parts) ∙ opened)));
      })))
      (cases_eq it.gate 1)

  pub snapshot_ready : (new : ShownDisk) → HasStaged (other image.half) (image.epoch + 1) 1 r base.seen new → IsReady (fresh_snapshot image payload) new
  snapshot_ready new has = record {
    is_image = snapshot_image new.seen has.staged;
    marked = λ start. absurd (omega (arith, start));
    closed = snapshot_closed new.seen has.staged;
    durable = has.durable;
  }
