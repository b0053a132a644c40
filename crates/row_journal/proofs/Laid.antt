-- What lies as an image says is read as that image.
use Rattle.std.proofs.Common.{◌≡◌, inl, inr, ℕ, ◌+◌, ◌<◌, ◌≤◌, List, [], ◌∷◌, ◌++◌, length, get_or, take, drop, All, Option, Some, None, refl, sym, ◌∙◌, ap, subst, arith, append_assoc, length-append}
use Rattle.std.proofs.lemmas.List.{take_at, drop_at, length-take, length-drop, length-take-le, take-take, drop-take, get_or_at, get_or-drop, append-nil}
use Rattle.std.proofs.lemmas.List.Elements.{All-nil}
use Rattle.std.proofs.lemmas.Bool.{cases_lt}
use Rattle.heat_disk.specs.declared.half.Half.{Half}
use Rattle.heat_disk.specs.declared.half.Half.TheVariants.{First, Second}
use Rattle.heat_disk.specs.Halves.{Pair, part, beside}
use Rattle.row_journal.specs.declared.headers.Header.{Header}
use Rattle.row_journal.specs.declared.version.Version.{Version}
use Rattle.row_journal.specs.declared.version.Version.TheVariants.{One, Two}
use Rattle.row_journal.specs.Forms.{number, journal_mark, snapshot_mark, body, record_of, spelled, IsEnd, IsSized, AreRecords}
use Rattle.row_journal.specs.Images.{ImageData, IsBorn, HasHeader, IsPlain, GivesPlain, GivesBorn, Gives, live, IsImage}
use Rattle.row_journal.specs.Ends.{end_of}
use Rattle.row_journal.proofs.Cuts.{front_more}

-- One half reads as these records and this tail behind the old front; the other stays.
pub record IsRelaid (half : Half) (halves now : Pair) (image : ImageData) (payloads : List (List ℕ)) (tail : List ℕ) : Type 0 where
  pub other : beside half now ≡ beside half halves
  pub marked : image.start ≡ 8 → take 8 (part half halves) ≡ journal_mark image.version
  pub parts : part half now ≡ take image.start (part half halves) ++ spelled image.version 1 payloads ++ tail
  pub ends : IsEnd tail
  pub sized : All IsSized payloads
  pub no_shorter : length (part half halves) ≤ length (part half now)
  pub no_fewer : length image.payloads ≤ length payloads

long_mark : (version : Version) → length (journal_mark version) ≡ 8
long_mark One = refl
long_mark Two = refl

marks_differ : (v w : Version) → journal_mark v ≡ snapshot_mark w → ⊥
marks_differ One One same = omega (arith, ap (λ (l : List ℕ). get_or l 4 0) same)
marks_differ One Two same = omega (arith, ap (λ (l : List ℕ). get_or l 4 0) same)
marks_differ Two One same = omega (arith, ap (λ (l : List ℕ). get_or l 4 0) same)
marks_differ Two Two same = omega (arith, ap (λ (l : List ℕ). get_or l 4 0) same)

-- a record takes more than 8 bytes
pub long_record : (version : Version) (n : ℕ) (payload : List ℕ) → 9 ≤ length (record_of version n payload)
long_record One n payload = omega arith
long_record Two n payload = omega arith

none_where_short : (version : Version) (payloads : List (List ℕ)) (front tail bytes : List ℕ) → length front ≡ 8 → bytes ≡ front ++ spelled version 1 payloads ++ tail → length bytes ≤ 9 → payloads ≡ []
none_where_short version [] front tail bytes long parts short = refl
none_where_short version (p ∷ ps) front tail bytes long parts short =
    absurd (omega (
      arith,
      short,
      long,
      ap length parts,
      length-append (front ++ spelled version 1 (p ∷ ps)) tail,
      length-append front (spelled version 1 (p ∷ ps)),
      length-append (record_of version 1 p) (spelled version 2 ps),
      long_record version 1 p,
    ))

-- a half that is born has a record
some_where_born : (version : Version) (payloads : List (List ℕ)) (bytes tail : List ℕ) → 17 < length bytes → get_or bytes 16 0 ≡ 1 → drop 16 bytes ≡ spelled version 1 payloads ++ tail → IsEnd tail → 0 < length payloads
some_where_born version [] bytes [] long gate parts ends = absurd (omega (arith, long, ap length parts, length-drop 16 bytes))
some_where_born version [] bytes (g ∷ rest) long gate parts ends = absurd (ends (sym (ap (λ (l : List ℕ). get_or l 0 0) parts) ∙ get_or-drop 16 bytes 0 0 ∙ gate))
some_where_born version (p ∷ ps) bytes tail long gate parts ends = omega arith

-- records begin with an open gate
open_first : (version : Version) (payloads : List (List ℕ)) (tail : List ℕ) → 0 < length payloads → (rest : List ℕ) × (spelled version 1 payloads ++ tail ≡ 1 ∷ rest)
open_first version [] tail some = absurd (omega (arith, some))
open_first version (p ∷ ps) tail some = (body version 1 p ++ spelled version 2 ps ++ tail, refl)

two_where_short : (bytes : List ℕ) (version : Version) (payloads : List (List ℕ)) → IsPlain bytes version payloads → length bytes ≤ 9 → version ≡ Two
two_where_short bytes version payloads (IsPlain.fresh _ two _) short = two
two_where_short bytes version payloads (IsPlain.marked long _ _) short = absurd (omega (arith, long, short))

module _ (bytes now : List ℕ) (image : ImageData) (payloads : List (List ℕ)) (tail : List ℕ) (parts : now ≡ take image.start bytes ++ spelled image.version 1 payloads ++ tail)
    (ends : IsEnd tail) (sized : All IsSized payloads) (no_shorter : length bytes ≤ length now) where
  flat : (n : ℕ) → image.start ≡ n → now ≡ take n bytes ++ (spelled image.version 1 payloads ++ tail)
  flat n start =
      subst (λ (k : ℕ). now ≡ take k bytes ++ spelled image.version 1 payloads ++ tail) start parts
      ∙ append_assoc (take n bytes) (spelled image.version 1 payloads) tail

  plain_again : GivesPlain bytes image → (image.start ≡ 8 → take 8 bytes ≡ journal_mark image.version) → ((h : Header) → ¬ IsBorn now h) × GivesPlain now (record image { payloads = payloads })
  plain_again gives marked =
      let mark = marked gives.start in
      let long : length (take 8 bytes) ≡ 8 = ap length mark ∙ long_mark image.version in
      let whole = flat 8 gives.start in
      let rest = spelled image.version 1 payloads ++ tail in
      let front : take 8 now ≡ journal_mark image.version = ap (take 8) whole ∙ take_at (take 8 bytes) rest 8 long ∙ mark in
      let later : drop 8 now ≡ rest = ap (drop 8) whole ∙ drop_at (take 8 bytes) rest 8 long in
      let records : AreRecords image.version 1 (drop 8 now) payloads = record { tail = tail; parts = later; ends = ends; sized = sized } in
      let plain : IsPlain now image.version payloads = elim (cases_lt 9 (length now)) [
        | inl more ↦ IsPlain.marked more front records
        | inr short ↦ IsPlain.fresh short (two_where_short bytes image.version image.payloads gives.plain (omega (arith, short, no_shorter)))
            (none_where_short image.version payloads (take 8 bytes) tail now long (whole ∙ sym (append_assoc (take 8 bytes) (spelled image.version 1 payloads) tail)) short)
      ] in
      (λ h born. marks_differ image.version h.version (sym front ∙ born.mark), record { start = gives.start; epoch = gives.epoch; plain = plain })

  born_again : (header : Header) → GivesBorn bytes header image → IsBorn bytes header → length image.payloads ≤ length payloads → IsBorn now header × GivesBorn now header (record image { payloads = payloads })
  born_again header gives born no_fewer =
      let long : length (take 16 bytes) ≡ 16 = length-take-le 16 bytes (omega (arith, born.long)) in
      let whole = flat 16 gives.start in
      let rest = spelled image.version 1 payloads ++ tail in
      let front : take 16 now ≡ take 16 bytes = ap (take 16) whole ∙ take_at (take 16 bytes) rest 16 long in
      let later : drop 16 now ≡ rest = ap (drop 16) whole ∙ drop_at (take 16 bytes) rest 16 long in
      let some : 0 < length image.payloads = some_where_born header.version image.payloads bytes gives.born.tail born.long born.gate gives.born.parts gives.born.ends in
      let first = open_first image.version payloads tail (omega (arith, some, no_fewer)) in (
        record {
          long = omega (arith, born.long, no_shorter);
          mark = sym (take-take 8 16 now (omega arith)) ∙ ap (take 8) front ∙ take-take 8 16 bytes (omega arith) ∙ born.mark;
          epoch = ap number (sym (drop-take 8 8 now) ∙ ap (drop 8) front ∙ drop-take 8 8 bytes) ∙ born.epoch;
          gate = ap (λ (l : List ℕ). get_or l 16 0) (whole ∙ ap (λ (l : List ℕ). take 16 bytes ++ l) first.1) ∙ get_or_at (take 16 bytes) 1 first.0 0 16 long;
        },
        record {
          start = gives.start;
          epoch = gives.epoch;
          version = gives.version;
          born = subst (λ (v : Version). AreRecords v 1 (drop 16 now) payloads) gives.version (record { tail = tail; parts = later; ends = ends; sized = sized });
        },
      )

pub gives_half : (half : Half) (bytes : List ℕ) (header : Option Header) (image : ImageData) → Gives half bytes header image → image.half ≡ half
gives_half half bytes None image gives = gives.0
gives_half half bytes (Some header) image gives = gives.0

give_again : (half : Half) (header : Option Header) (halves now : Pair) (image : ImageData) (payloads : List (List ℕ)) (tail : List ℕ) → Gives half (part half halves) header image
    → HasHeader (part half halves) header → IsRelaid half halves now image payloads tail → HasHeader (part half now) header × Gives half (part half now) header (record image { payloads = payloads })
give_again half None halves now image payloads tail gives unborn laid =
    let again = plain_again (part half halves) (part half now) image payloads tail laid.parts laid.ends laid.sized laid.no_shorter gives.1 laid.marked in
    (again.0, (gives.0, again.1))
give_again half (Some header) halves now image payloads tail gives born laid =
    let again = born_again (part half halves) (part half now) image payloads tail laid.parts laid.ends laid.sized laid.no_shorter header gives.1 born laid.no_fewer in
    (again.0, (gives.0, again.1))

-- the header of one half
pub has_part : (half : Half) (halves : Pair) (headers : Option Header × Option Header) → HasHeader halves.0 headers.0 → HasHeader halves.1 headers.1 → HasHeader (part half halves) (part half headers)
has_part First halves headers first second = first
has_part Second halves headers first second = second

-- both, where the other half stays
headers_kept : (half : Half) (halves now : Pair) (headers : Option Header × Option Header) → HasHeader halves.0 headers.0 → HasHeader halves.1 headers.1 → HasHeader (part half now) (part half headers)
    → beside half now ≡ beside half halves → HasHeader now.0 headers.0 × HasHeader now.1 headers.1
headers_kept First halves now headers first second here other = (here, subst (λ (l : List ℕ). HasHeader l headers.1) (sym other) second)
headers_kept Second halves now headers first second here other = (subst (λ (l : List ℕ). HasHeader l headers.0) (sym other) first, here)

-- so both halves have the image with these records
pub relaid : (halves now : Pair) (image : ImageData) (payloads : List (List ℕ)) (tail : List ℕ) → IsImage halves image → IsRelaid image.half halves now image payloads tail → IsImage now (record image { payloads = payloads })
relaid halves now image payloads tail is_image laid =
    let headers = is_image.headers in
    let half = live headers.0 headers.1 in
    let here : IsRelaid half halves now image payloads tail = subst (λ (h : Half). IsRelaid h halves now image payloads tail) (gives_half half (part half halves) (part half headers) image is_image.gives) laid in
    let again = give_again half (part half headers) halves now image payloads tail is_image.gives (has_part half halves headers is_image.first is_image.second) here in
    let both = headers_kept half halves now headers is_image.first is_image.second again.0 here.other in
    record { headers = headers; first = both.0; second = both.1; gives = again.1 }

-- how the bytes of a live half lie: its records stand behind its front
pub record IsLaid (image : ImageData) (bytes : List ℕ) : Type 0 where
  pub front : take (end_of image) bytes ≡ take image.start bytes ++ spelled image.version 1 image.payloads
  pub sized : All IsSized image.payloads
  pub start : image.start ≤ length bytes

lies : (half : Half) (header : Option Header) (image : ImageData) (bytes : List ℕ) → Gives half bytes header image → HasHeader bytes header
    → (image.start ≡ 8 → take 8 bytes ≡ journal_mark image.version) → IsLaid image bytes
lies half None image bytes gives unborn marked = plain_lies gives.1.plain
  where
    mark : take 8 bytes ≡ journal_mark image.version
    mark = marked gives.1.start

    within : image.start ≤ length bytes
    within = omega (arith, gives.1.start, ap length mark, long_mark image.version, length-take 8 bytes)

    plain_lies : IsPlain bytes image.version image.payloads → IsLaid image bytes
    plain_lies (IsPlain.fresh short two none) = record {
      front = subst (λ (ps : List (List ℕ)). take (image.start + length (spelled image.version 1 ps)) bytes ≡ take image.start bytes ++ spelled image.version 1 ps) (sym none)
          (ap (λ (n : ℕ). take n bytes) (omega arith) ∙ sym (append-nil (take image.start bytes)));
      sized = subst (All IsSized) (sym none) (All-nil IsSized);
      start = within;
    }
    plain_lies (IsPlain.marked long is_mark records) = record {
      front = front_more image.start bytes (spelled image.version 1 image.payloads) records.tail within (ap (λ (n : ℕ). drop n bytes) gives.1.start ∙ records.parts);
      sized = records.sized;
      start = within;
    }
lies half (Some header) image bytes gives born marked =
    let g = gives.1 in
    let within : image.start ≤ length bytes = omega (arith, g.start, born.long) in
    let records : AreRecords image.version 1 (drop 16 bytes) image.payloads = subst (λ (v : Version). AreRecords v 1 (drop 16 bytes) image.payloads) (sym g.version) g.born in
    record {
      front = front_more image.start bytes (spelled image.version 1 image.payloads) records.tail within (ap (λ (n : ℕ). drop n bytes) g.start ∙ records.parts);
      sized = records.sized;
      start = within;
    }

pub laid : (halves : Pair) (image : ImageData) → IsImage halves image → (image.start ≡ 8 → take 8 (part image.half halves) ≡ journal_mark image.version) → IsLaid image (part image.half halves)
laid halves image is_image marked =
    let headers = is_image.headers in
    let half = live headers.0 headers.1 in
    let same = gives_half half (part half halves) (part half headers) image is_image.gives in
    subst (λ (h : Half). IsLaid image (part h halves)) (sym same)
    (lies half (part half headers) image (part half halves) is_image.gives (has_part half halves headers is_image.first is_image.second)
    (subst (λ (h : Half). image.start ≡ 8 → take 8 (part h halves) ≡ journal_mark image.version) same marked))

plain_within : (bytes : List ℕ) (image : ImageData) → image.start ≡ 8 → IsPlain bytes image.version image.payloads → end_of image ≤ length bytes + 16
plain_within bytes image start (IsPlain.fresh _ _ none) = omega (arith, start, ap (λ (ps : List (List ℕ)). length (spelled image.version 1 ps)) none)
plain_within bytes image start (IsPlain.marked _ _ records) =
    omega (arith, start, ap length records.parts, length-drop 8 bytes, length-append (spelled image.version 1 image.payloads) records.tail)

gives_within : (half : Half) (header : Option Header) (bytes : List ℕ) (image : ImageData) → Gives half bytes header image → end_of image ≤ length bytes + 16
gives_within half None bytes image gives = plain_within bytes image gives.1.start gives.1.plain
gives_within half (Some header) bytes image gives =
    omega (
      arith,
      gives.1.start,
      ap length gives.1.born.parts,
      length-drop 16 bytes,
      length-append (spelled header.version 1 image.payloads) gives.1.born.tail,
      ap (λ (v : Version). length (spelled v 1 image.payloads)) gives.1.version,
    )

part_within : (half : Half) (halves : Pair) (most : ℕ) → length halves.0 ≤ most → length halves.1 ≤ most → length (part half halves) ≤ most
part_within First halves most first second = first
part_within Second halves most first second = second

-- the records end within the half, or where an empty one would
pub end_within : (halves : Pair) (image : ImageData) (most : ℕ) → IsImage halves image → length halves.0 ≤ most → length halves.1 ≤ most → end_of image ≤ most + 16
end_within halves image most is_image first second =
    let headers = is_image.headers in
    let half = live headers.0 headers.1 in
    omega (arith, gives_within half (part half headers) (part half halves) image is_image.gives, part_within half halves most first second)
