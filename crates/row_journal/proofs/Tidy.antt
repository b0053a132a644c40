-- What lies behind an image: that it leaves the halves tidy, and that one record stands there at most.
use Rattle.std.proofs.Common.{◌≡◌, ◌≢◌, ◌+◌, ◌≤◌, ◌∷◌, ℕ, List, length, drop, get_or, sym, ◌∙◌, ap, arith, length-append}
use Rattle.std.proofs.lemmas.List.{length-drop}
use Rattle.heat_disk.specs.declared.half.Half.{Half}
use Rattle.heat_disk.specs.Halves.{Pair, part}
use Rattle.row_journal.specs.declared.version.Version.{Version}
use Rattle.row_journal.specs.declared.version.Version.TheVariants.{One, Two}
use Rattle.row_journal.specs.Forms.{body}
use Rattle.row_journal.specs.Images.{ImageData}
use Rattle.row_journal.proofs.Spelled.{body-same}
use Rattle.row_journal.specs.Ends.{end_of, behind, HasNext, IsTidy, Leaves, IsSealed, LeavesSealed, LeavesAjar}

pub sealed_tidy : (image : ImageData) (c : Pair) → LeavesSealed image c → Leaves image c
sealed_tidy image c left = record { is_image = left.is_image; tidy = tidy left.sealed }
  where
    tidy : IsSealed c image → IsTidy c image
    tidy (IsSealed.short half few) = IsTidy.short half few
    tidy (IsSealed.closed closed) = IsTidy.closed closed

pub ajar_tidy : (image : ImageData) (payload : List ℕ) (c : Pair) → LeavesAjar image payload c → Leaves image c
ajar_tidy image payload c left = record { is_image = left.is_image; tidy = IsTidy.whole left.gate payload left.next }

-- a record takes 8 bytes at least behind its gate
long_body : (version : Version) (n : ℕ) (payload : List ℕ) → 8 ≤ length (body version n payload)
long_body One n payload = omega arith
long_body Two n payload = omega arith

-- where a record stands behind the gate, there are more than 9 bytes
pub next_long : (image : ImageData) (c : Pair) (gate : ℕ) (payload : List ℕ) → HasNext image gate payload (behind c image) → 10 ≤ length (part image.half c)
next_long image c gate payload next =
    let b = body image.version (length image.payloads + 1) payload in
    omega (
      arith,
      ap length next.parts,
      length-append b (0 ∷ next.rest),
      length-drop (end_of image) (part image.half c),
      long_body image.version (length image.payloads + 1) payload,
    )

-- behind what is sealed no record stands that could come to count
pub sealed_no_next : (image : ImageData) (c : Pair) (gate : ℕ) (payload : List ℕ) → IsSealed c image → gate ≢ 0 → HasNext image gate payload (behind c image) → ⊥
sealed_no_next image c gate payload (IsSealed.short half few) ajar next =
    omega (arith, few, ap (λ (h : Half). length (part h c)) half, next_long image c gate payload next)
sealed_no_next image c gate payload (IsSealed.closed closed) ajar next =
    ajar (sym (ap (λ (l : List ℕ). get_or l 0 0) next.parts) ∙ ap (λ (l : List ℕ). get_or l 0 0) closed.gate)

-- behind a gate one record stands at most
pub next_same : (image : ImageData) (gate here : ℕ) (p q bytes : List ℕ) → HasNext image gate p bytes → HasNext image here q bytes → p ≡ q
next_same image gate here p q bytes first second =
    (body-same image.version (length image.payloads + 1) p q (0 ∷ first.rest) (0 ∷ second.rest) first.sized second.sized
    (ap (drop 1) (sym first.parts ∙ second.parts))).0
