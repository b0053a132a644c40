-- The image is what the live half gives, and nothing else is.
use Rattle.std.proofs.Common.{◌≡◌, ◌<◌, ℕ, List, take, drop, length, Result, Ok, Err, Option, Some, None, refl, sym, ◌∙◌, ap, subst, arith, get_or}
use Rattle.heat_disk.specs.declared.half.Half.{Half}
use Rattle.heat_disk.specs.Halves.{Pair, part}
use Rattle.row_journal.specs.declared.headers.Header.{Header}
use Rattle.row_journal.specs.declared.images.Image.{Image}
use Rattle.row_journal.specs.declared.version.Version.{Version}
use Rattle.row_journal.specs.declared.version.Version.TheVariants.{One, Two}
use Rattle.row_journal.specs.Forms.{snapshot_mark, journal_mark, AreRecords}
use Rattle.row_journal.specs.Images.{ImageData, IsBorn, HasHeader, IsPlain, Gives, live, IsImage}
use Rattle.row_journal.specs.ShownImages.{image_of, Exactly}
use Rattle.row_journal.proofs.Spelled.{one_reading}

-- another word for the same images
pub exactly_same : {E : Type 0} (P Q : ImageData → Type 0) (result : Result (Option Image) E) → ((i : ImageData) → P i → Q i) → ((i : ImageData) → Q i → P i) → Exactly P result → Exactly Q result
exactly_same P Q (Ok (Some i)) on back found = on (image_of i) found
exactly_same P Q (Ok None) on back found = λ i q. found i (back i q)
exactly_same P Q (Err e) on back found = tt

version_same : (a b : Version) → snapshot_mark a ≡ snapshot_mark b → a ≡ b
version_same One One same = refl
version_same Two Two same = refl
version_same One Two same = absurd (omega (arith, ap (λ (l : List ℕ). get_or l 7 0) same))
version_same Two One same = absurd (omega (arith, ap (λ (l : List ℕ). get_or l 7 0) same))

born_same : (half : List ℕ) (a b : Header) → IsBorn half a → IsBorn half b → a ≡ b
born_same half a b first second =
    let versions = version_same a.version b.version (sym first.mark ∙ second.mark) in
    let epochs = sym first.epoch ∙ second.epoch in
    rw versions (rw epochs refl)

-- a half has one header or none
pub header_same : (half : List ℕ) (a b : Option Header) → HasHeader half a → HasHeader half b → a ≡ b
header_same half None None first second = refl
header_same half None (Some b) first second = absurd (first b second)
header_same half (Some a) None first second = absurd (second a first)
header_same half (Some a) (Some b) first second = ap Some (born_same half a b first second)

module _ (halves : Pair) (headers : Option Header × Option Header) (first : HasHeader halves.0 headers.0) (second : HasHeader halves.1 headers.1) where
  pub image_is : (i : ImageData) → Gives (live headers.0 headers.1) (part (live headers.0 headers.1) halves) (part (live headers.0 headers.1) headers) i → IsImage halves i
  image_is i gives = record { headers = headers; first = first; second = second; gives = gives }

  pub image_gives : (i : ImageData) → IsImage halves i → Gives (live headers.0 headers.1) (part (live headers.0 headers.1) halves) (part (live headers.0 headers.1) headers) i
  image_gives i image =
      let of_first = header_same halves.0 image.headers.0 headers.0 image.first first in
      let of_second = header_same halves.1 image.headers.1 headers.1 image.second second in
      let both : image.headers ≡ headers = ap (λ (h : Option Header). (h, image.headers.1)) of_first ∙ ap (λ (h : Option Header). (headers.0, h)) of_second in
      subst (λ (h : Option Header × Option Header). Gives (live h.0 h.1) (part (live h.0 h.1) halves) (part (live h.0 h.1) h) i) both image.gives

  -- what the live half gives is the image
  pub found_at : {E : Type 0} (half : Half) → live headers.0 headers.1 ≡ half → (result : Result (Option Image) E)
      → Exactly (Gives half (part half halves) (part half headers)) result → Exactly (IsImage halves) result
  found_at half is result found =
      exactly_same (Gives half (part half halves) (part half headers)) (IsImage halves) result
      (λ i gives. image_is i (subst (λ (h : Half). Gives h (part h halves) (part h headers) i) (sym is) gives))
      (λ i image. subst (λ (h : Half). Gives h (part h halves) (part h headers) i) is (image_gives i image)) found

journal_version_same : (a b : Version) → journal_mark a ≡ journal_mark b → a ≡ b
journal_version_same One One same = refl
journal_version_same Two Two same = refl
journal_version_same One Two same = absurd (omega (arith, ap (λ (l : List ℕ). get_or l 7 0) same))
journal_version_same Two One same = absurd (omega (arith, ap (λ (l : List ℕ). get_or l 7 0) same))

-- a marked half whose bytes are no records is no journal
pub none_plain : (bytes : List ℕ) (version : Version) → 9 < length bytes → take 8 bytes ≡ journal_mark version
    → ((payloads : List (List ℕ)) → ¬ AreRecords version 1 (drop 8 bytes) payloads) → (v : Version) (payloads : List (List ℕ)) → ¬ IsPlain bytes v payloads
none_plain bytes version long mark none v payloads (IsPlain.fresh short _ _) = absurd (omega (arith, short, long))
none_plain bytes version long mark none v payloads (IsPlain.marked _ is_mark records) =
    none payloads (subst (λ (w : Version). AreRecords w 1 (drop 8 bytes) payloads) (journal_version_same v version (sym is_mark ∙ mark)) records)

-- a half that isn't born is read in one way
plain_same : (bytes : List ℕ) (a b : Version) (ps qs : List (List ℕ)) → IsPlain bytes a ps → IsPlain bytes b qs → (a ≡ b) × (ps ≡ qs)
plain_same bytes a b ps qs (IsPlain.fresh _ two none) (IsPlain.fresh _ two' none') = (two ∙ sym two', none ∙ sym none')
plain_same bytes a b ps qs (IsPlain.fresh short _ _) (IsPlain.marked long _ _) = absurd (omega (arith, short, long))
plain_same bytes a b ps qs (IsPlain.marked long _ _) (IsPlain.fresh short _ _) = absurd (omega (arith, short, long))
plain_same bytes a b ps qs (IsPlain.marked _ mark records) (IsPlain.marked _ mark' records') =
    let versions = journal_version_same a b (sym mark ∙ mark') in
    (versions, one_reading b (drop 8 bytes) ps qs (subst (λ (v : Version). AreRecords v 1 (drop 8 bytes) ps) versions records) records')

fields_same : (i j : ImageData) → i.half ≡ j.half → i.version ≡ j.version → i.epoch ≡ j.epoch → i.start ≡ j.start → i.payloads ≡ j.payloads → i ≡ j
fields_same i j half version epoch start payloads = rw half (rw version (rw epoch (rw start (rw payloads refl))))

-- a half gives one image
gives_same : (half : Half) (bytes : List ℕ) (header : Option Header) (i j : ImageData) → Gives half bytes header i → Gives half bytes header j → i ≡ j
gives_same half bytes None i j (is_half, gives) (is_half', gives') =
    let both = plain_same bytes i.version j.version i.payloads j.payloads gives.plain gives'.plain in
    fields_same i j (is_half ∙ sym is_half') both.0 (gives.epoch ∙ sym gives'.epoch) (gives.start ∙ sym gives'.start) both.1
gives_same half bytes (Some header) i j (is_half, gives) (is_half', gives') =
    fields_same i j (is_half ∙ sym is_half') (gives.version ∙ sym gives'.version) (gives.epoch ∙ sym gives'.epoch) (gives.start ∙ sym gives'.start)
    (one_reading header.version (drop 16 bytes) i.payloads j.payloads gives.born gives'.born)

pub image_same : (halves : Pair) (i j : ImageData) → IsImage halves i → IsImage halves j → i ≡ j
image_same halves i j first second =
    let half = live second.headers.0 second.headers.1 in
    gives_same half (part half halves) (part half second.headers) i j (image_gives halves second.headers second.first second.second i first) second.gives
