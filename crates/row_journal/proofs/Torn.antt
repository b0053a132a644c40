-- What stands behind the records decides between the image and the image with one record more.
use Rattle.std.proofs.Common.{◌≡◌, ◌≢◌, inl, inr, ℕ, ◌+◌, ◌≤◌, List, [], ◌∷◌, ◌++◌, length, take, sym, ◌∙◌, ap, subst, arith, append_assoc, length-append}
use Rattle.std.proofs.lemmas.List.{take_at, length-take-le}
use Rattle.std.proofs.lemmas.List.Elements.{All-nil, All-cons, All-append}
use Rattle.std.proofs.lemmas.Bool.{cases_eq}
use Rattle.heat_disk.specs.Halves.{Pair, part, beside}
use Rattle.row_journal.specs.Forms.{journal_mark, body, record_of, spelled, IsSized}
use Rattle.row_journal.specs.Images.{ImageData, IsImage}
use Rattle.row_journal.proofs.Spelled.{spelled-push}
use Rattle.row_journal.specs.Ends.{end_of, behind, with_next, IsClosed, IsSealed, LeavesSealed, LeavesEither}
use Rattle.row_journal.proofs.Cuts.{behind_more}
use Rattle.row_journal.proofs.Laid.{laid, relaid}

-- the live half has its records as before and then this tail; the other half stays
pub record IsBehind (halves now : Pair) (image : ImageData) (tail : List ℕ) : Type 0 where
  pub other : beside image.half now ≡ beside image.half halves
  pub parts : part image.half now ≡ take (end_of image) (part image.half halves) ++ tail
  pub no_shorter : length (part image.half halves) ≤ length (part image.half now)

module _ (halves : Pair) (image : ImageData) (is_image : IsImage halves image) (marked : image.start ≡ 8 → take 8 (part image.half halves) ≡ journal_mark image.version) where
  abbrev front : List ℕ
  front = take image.start (part image.half halves)

  abbrev records : List ℕ
  records = spelled image.version 1 image.payloads

  long : length front ≡ image.start
  long = length-take-le image.start (part image.half halves) (laid halves image is_image marked).start

  lies_so : (now : Pair) (tail : List ℕ) → IsBehind halves now image tail → part image.half now ≡ front ++ records ++ tail
  lies_so now tail new = new.parts ∙ ap (λ (l : List ℕ). l ++ tail) (laid halves image is_image marked).front

  -- behind another gate than 01 the image is as before
  pub shut : (now : Pair) (gate : ℕ) (rest : List ℕ) → gate ≢ 1 → IsBehind halves now image (gate ∷ rest) → IsImage now image
  shut now gate rest closed new = relaid halves now image image.payloads (gate ∷ rest) is_image (record {
    other = new.other;
    marked = marked;
    parts = lies_so now (gate ∷ rest) new;
    ends = closed;
    sized = (laid halves image is_image marked).sized;
    no_shorter = new.no_shorter;
    no_fewer = omega arith;
  })

  pub tail_is : (now : Pair) (tail : List ℕ) → IsBehind halves now image tail → behind now image ≡ tail
  tail_is now tail new = behind_more image.start (part image.half now) front records tail long (lies_so now tail new)

  pub still_marked : (now : Pair) (tail : List ℕ) → IsBehind halves now image tail → image.start ≡ 8 → take 8 (part image.half now) ≡ journal_mark image.version
  still_marked now tail new start =
      let whole : part image.half now ≡ front ++ (records ++ tail) = lies_so now tail new ∙ append_assoc front records tail in
      ap (take 8) whole ∙ take_at front (records ++ tail) 8 (long ∙ start) ∙ ap (λ (n : ℕ). take n (part image.half halves)) start ∙ marked start

  pub leaves_closed : (now : Pair) (rest : List ℕ) → IsBehind halves now image (0 ∷ rest) → LeavesSealed image now
  leaves_closed now rest new = record {
    is_image = shut now 0 rest (omega arith) new;
    sealed = IsSealed.closed (record { rest = rest; gate = tail_is now (0 ∷ rest) new });
  }

  module _ (payload : List ℕ) (sized : IsSized payload) (rest : List ℕ) where
    -- the next record behind its gate
    abbrev pub next_behind : ℕ → List ℕ
    next_behind gate = gate ∷ body image.version (length image.payloads + 1) payload ++ 0 ∷ rest

    more : spelled image.version 1 (image.payloads ++ payload ∷ []) ≡ records ++ record_of image.version (length image.payloads + 1) payload
    more =
        let place : 1 + length image.payloads ≡ length image.payloads + 1 = omega arith in
        spelled-push image.version 1 image.payloads payload ∙ ap (λ (n : ℕ). records ++ record_of image.version n payload) place

    lies_next : (now : Pair) → IsBehind halves now image (next_behind 1) → part image.half now ≡ front ++ spelled image.version 1 (image.payloads ++ payload ∷ []) ++ 0 ∷ rest
    lies_next now new =
        let one = record_of image.version (length image.payloads + 1) payload in
        lies_so now (next_behind 1) new
        ∙ sym (append_assoc (front ++ records) one (0 ∷ rest))
        ∙ ap (λ (l : List ℕ). l ++ 0 ∷ rest) (append_assoc front records one ∙ ap (λ (l : List ℕ). front ++ l) (sym more))

    pub image_next : (now : Pair) → IsBehind halves now image (next_behind 1) → IsImage now (with_next image payload)
    image_next now new = relaid halves now image (image.payloads ++ payload ∷ []) (0 ∷ rest) is_image (record {
      other = new.other;
      marked = marked;
      parts = lies_next now new;
      ends = omega arith;
      sized = All-append IsSized image.payloads (payload ∷ []) (laid halves image is_image marked).sized (All-cons IsSized payload [] sized (All-nil IsSized));
      no_shorter = new.no_shorter;
      no_fewer = omega (arith, length-append image.payloads (payload ∷ []));
    })

    pub closed_next : (now : Pair) → IsBehind halves now image (next_behind 1) → IsClosed (behind now (with_next image payload))
    closed_next now new = record {
      rest = rest;
      gate = behind_more image.start (part image.half now) front (spelled image.version 1 (image.payloads ++ payload ∷ [])) (0 ∷ rest) long (lies_next now new);
    }

    -- behind 01 it counts
    pub leaves_next : (now : Pair) → IsBehind halves now image (next_behind 1) → LeavesSealed (with_next image payload) now
    leaves_next now new = record { is_image = image_next now new; sealed = IsSealed.closed (closed_next now new) }

    -- behind any gate it counts or it doesn't
    pub leaves_either : (now : Pair) (gate : ℕ) → IsBehind halves now image (next_behind gate) → LeavesEither image payload now
    leaves_either now gate new = elim (cases_eq gate 1) [
      | inl is_open ↦ LeavesEither.added (leaves_next now (subst (λ (g : ℕ). IsBehind halves now image (next_behind g)) is_open new))
      | inr is_shut ↦ LeavesEither.ajar (record {
        is_image = shut now gate (body image.version (length image.payloads + 1) payload ++ 0 ∷ rest) is_shut new;
        gate = gate;
        next = record { rest = rest; parts = tail_is now (next_behind gate) new; sized = sized };
      })
    ]
