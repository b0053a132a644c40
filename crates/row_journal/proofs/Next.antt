-- The place behind one record more.
use Rattle.std.proofs.Common.{◌≡◌, ℕ, ◌+◌, List, [], ◌∷◌, ◌++◌, length, take, refl, sym, ◌∙◌, ap, subst, arith, length-append, if◌then◌else◌, ◌==◌, Bool}
use Rattle.std.proofs.lemmas.Bool.{ne_eqb}
use Rattle.row_journal.specs.declared.version.Version.{Version}
use Rattle.row_journal.specs.declared.version.Version.TheVariants.{Two}
use Rattle.row_journal.specs.Forms.{body, record_of, spelled}
use Rattle.row_journal.specs.Images.{ImageData}
use Rattle.row_journal.proofs.Spelled.{spelled-push}
use Rattle.row_journal.specs.declared.place.Place.{Place}
use Rattle.row_journal.specs.Ends.{end_of, with_next}
use Rattle.row_journal.specs.Mends.{other}
use Rattle.row_journal.specs.Places.{first_end_of, place_of}
use Rattle.row_journal.specs.Snapshots.{fresh_snapshot}

long_record : (n : ℕ) (payload : List ℕ) → length (record_of Two n payload) ≡ length payload + 17
long_record n payload = omega arith

pub long_push : (payloads : List (List ℕ)) (payload : List ℕ) → length (spelled Two 1 (payloads ++ payload ∷ [])) ≡ length (spelled Two 1 payloads) + length payload + 17
long_push payloads payload = omega (arith, ap length (spelled-push Two 1 payloads payload), length-append (spelled Two 1 payloads) (record_of Two (1 + length payloads) payload), long_record (1 + length payloads) payload)

-- the first stays the first
pub first_push : (start : ℕ) (payloads : List (List ℕ)) (payload : List ℕ) → start + length (spelled Two 1 (take 1 (payloads ++ payload ∷ [])))
    ≡ (if length payloads == 0 then start + length (spelled Two 1 payloads) + length payload + 17 else start + length (spelled Two 1 (take 1 payloads)))
first_push start [] payload = omega (arith, long_push [] payload)
first_push start (p ∷ ps) payload =
    let kept = start + length (spelled Two 1 (p ∷ [])) in
    sym (ap (λ (b : Bool). (if b then start + length (spelled Two 1 (p ∷ ps)) + length payload + 17 else kept)) (ne_eqb (length (p ∷ ps)) 0 (λ none. omega (arith, none))))

pub place_same : (a b : Place) → a.half ≡ b.half → a.version ≡ b.version → a.epoch ≡ b.epoch → a.start ≡ b.start → a.count ≡ b.count → a.first_end ≡ b.first_end → a.end ≡ b.end → a ≡ b
place_same a b half version epoch start count first_end end = rw half (rw version (rw epoch (rw start (rw count (rw first_end (rw end refl))))))

module _ (image : ImageData) (payload : List ℕ) (two : image.version ≡ Two) where
  long_next : end_of (with_next image payload) ≡ end_of image + length payload + 17
  long_next =
      let more = subst (λ (v : Version). length (spelled v 1 (image.payloads ++ payload ∷ [])) ≡ length (spelled v 1 image.payloads) + length payload + 17) (sym two) (long_push image.payloads payload) in
      omega (arith, more)

  first_next : first_end_of (with_next image payload) ≡ (if length image.payloads == 0 then end_of image + length payload + 17 else first_end_of image)
  first_next = subst (λ (v : Version). image.start + length (spelled v 1 (take 1 (image.payloads ++ payload ∷ [])))
      ≡ (if length image.payloads == 0 then image.start + length (spelled v 1 image.payloads) + length payload + 17 else image.start + length (spelled v 1 (take 1 image.payloads)))) (sym two)
      (first_push image.start image.payloads payload)

  module _ (place now : Place) (len : ℕ) (is : place ≡ place_of image) (long : len ≡ length payload) where
    pub place_next : now.half ≡ place.half → now.version ≡ place.version → now.epoch ≡ place.epoch → now.start ≡ place.start → now.count ≡ place.count + 1
        → now.first_end ≡ (if place.count == 0 then now.end else place.first_end) → now.end ≡ place.end + len + 17 → now ≡ place_of (with_next image payload)
    place_next half version epoch start count first_end end =
        let ends : now.end ≡ end_of (with_next image payload) = omega (arith, end, long, long_next, ap (λ (p : Place). p.end) is) in
        place_same now (place_of (with_next image payload))
        (half ∙ ap (λ (p : Place). p.half) is)
        (version ∙ ap (λ (p : Place). p.version) is)
        (epoch ∙ ap (λ (p : Place). p.epoch) is)
        (start ∙ ap (λ (p : Place). p.start) is)
        (omega (arith, count, ap (λ (p : Place). p.count) is, length-append image.payloads (payload ∷ [])))
        (first_end ∙ ap (λ (p : Place). (if p.count == 0 then now.end else p.first_end)) is
        ∙ ap (λ (n : ℕ). (if length image.payloads == 0 then n else first_end_of image)) (ends ∙ long_next) ∙ sym first_next)
        ends

-- the next record, by the place's numbers and by the image's
pub body_at : (place : Place) (image : ImageData) (payload : List ℕ) → place ≡ place_of image → place.version ≡ Two → body Two (place.count + 1) payload ≡ body image.version (length image.payloads + 1) payload
body_at place image payload is two =
    ap (λ (v : Version). body v (place.count + 1) payload) (sym two) ∙ ap (λ (p : Place). body p.version (p.count + 1) payload) is

pub place_of_snapshot : (place now : Place) (image : ImageData) (payload : List ℕ) (len : ℕ) → place ≡ place_of image → len ≡ length payload → now.half ≡ other place.half → now.version ≡ Two
    → now.epoch ≡ place.epoch + 1 → now.start ≡ 16 → now.count ≡ 1 → now.first_end ≡ len + 33 → now.end ≡ len + 33 → now ≡ place_of (fresh_snapshot image payload)
place_of_snapshot place now image payload len is long half version epoch start count first_end end =
    let one : 16 + length (spelled Two 1 (payload ∷ [])) ≡ length payload + 33 = omega (arith, length-append (record_of Two 1 payload) [], long_record 1 payload) in
    place_same now (place_of (fresh_snapshot image payload))
    (half ∙ ap (λ (p : Place). other p.half) is)
    version
    (epoch ∙ ap (λ (p : Place). p.epoch + 1) is)
    start
    count
    (omega (arith, first_end, long, one))
    (omega (arith, end, long, one))
