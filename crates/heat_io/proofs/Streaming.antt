-- What is ahead and what is held, after one piece and another.
use Rattle.std.proofs.Common.{◌≡◌, ℕ, ◌+◌, ◌-◌, ◌<◌, ◌≤◌, List, ◌++◌, length, take, drop, refl, ap, sym, ◌∙◌, Option, Some, None, append_assoc, arith, length-drop}
use Rattle.std.proofs.lemmas.List.{take_all, take-append-drop, drop-drop}
use Rattle.heat_io.specs.Streams.{ahead, grown, GivesBytes}

pub ahead-ahead : (held taken : List ℕ) (left : Option (List ℕ)) → ahead held (ahead taken left) ≡ ahead (held ++ taken) left
ahead-ahead held taken None = refl
ahead-ahead held taken (Some rest) = ap Some (sym (append_assoc held taken rest))

-- a piece more is held, which was taken of what was left
pub ahead-taken : (held taken new : List ℕ) (before left : Option (List ℕ)) → new ≡ held ++ taken → before ≡ ahead taken left
    → ahead new left ≡ ahead held before
ahead-taken held taken new before left is came =
    ap (λ (all : List ℕ). ahead all left) is ∙ sym (ahead-ahead held taken left) ∙ ap (ahead held) (sym came)

pub grown-grown : (held : Option (List ℕ)) (first next : List ℕ) → grown (grown held first) next ≡ grown held (first ++ next)
grown-grown None first next = refl
grown-grown (Some all) first next = ap Some (append_assoc all first next)

-- all is what was done and what is left, after some of it
pub all-more : (all done rest : List ℕ) (count : ℕ) → all ≡ done ++ rest → all ≡ (done ++ take count rest) ++ take (length rest - count) (drop count rest)
all-more all done rest count is =
    rw (take_all (length rest - count) (drop count rest) (omega (arith, length-drop count rest)), append_assoc done (take count rest) (drop count rest), take-append-drop count rest) is

-- a piece of the bytes from a place on, in front of a buffer
pub gives_piece : (all seen buf : List ℕ) (read count : ℕ) → seen ≡ all → 0 < count → count ≤ length buf
    → take count buf ≡ take count (take (length seen - read) (drop read seen)) → GivesBytes (Some (drop read all)) (Some (drop (read + count) all)) count buf
gives_piece all seen buf read count same some within moved = record {
  some = some;
  within = within;
  first =
      let rest : take (length seen - read) (drop read seen) ≡ drop read all =
      take_all (length seen - read) (drop read seen) (omega (arith, length-drop read seen)) ∙ ap (drop read) same in
      ap Some (sym (take-append-drop count (drop read all))
      ∙ ap (λ front. front ++ drop count (drop read all)) (sym (moved ∙ ap (take count) rest))
      ∙ ap (λ behind. take count buf ++ behind) (drop-drop count read all));
}
