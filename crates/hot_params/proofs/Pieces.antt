-- The pieces of a text between commas.
use Rattle.std.proofs.Common.{◌≡◌, ◌∙◌, ◌<◌, ◌+◌, ◌==◌, ℕ, suc, List, [], ◌∷◌, Bool, true, false, not, cond}
use Rattle.std.proofs.Common.{length, map}
use Rattle.std.proofs.Common.{refl, ap, sym, arith}
use Rattle.std.proofs.lemmas.List.{length-drop}
use Rattle.std.proofs.lemmas.List.Splits.{slice_split_first}
use Rattle.std.specs.List.{slice_split, onto_first, position_or_len, before_first, after_first}
use Rattle.heat_value.specs.Data.{Nodes, no_nodes, node_last, words}
use Rattle.hot_params.proofs.Lists.{joined_nodes, joined_nodes-last, joined_nodes-none}
use Rattle.hot_params.specs.Conversions.{nodes_with}
use Rattle.hot_params.specs.Texts.{pieces, trimmed}

abbrev is_comma : ℕ → Bool
is_comma b = b == 44

piece_at : (b : ℕ) (bs : List ℕ) (t : Bool) → cond (not t) (1 + position_or_len is_comma bs) 0 ≡ suc (length bs)
    → (position_or_len is_comma bs ≡ length bs → slice_split is_comma bs ≡ bs ∷ [])
    → cond t ([] ∷ slice_split is_comma bs) (onto_first b (slice_split is_comma bs)) ≡ (b ∷ bs) ∷ []
piece_at b bs true e rest = absurd (omega (arith, e))
piece_at b bs false e rest = ap (onto_first b) (rest (omega (arith, e)))

-- a text without a comma is one piece
one_piece : (s : List ℕ) → position_or_len is_comma s ≡ length s → pieces s ≡ s ∷ []
one_piece [] e = refl
one_piece (b ∷ bs) e = piece_at b bs (is_comma b) e (one_piece bs)

-- the items so far with the first piece, and those behind it
pub next_piece : (items : Nodes) (rest piece tail : List ℕ) (whole : Nodes)
    → (piece ≡ before_first is_comma rest) × (tail ≡ after_first is_comma rest)
    × (position_or_len is_comma rest < length rest)
    → joined_nodes items (nodes_with (map trimmed (pieces rest))) ≡ whole
    → joined_nodes (node_last items (words (trimmed piece))) (nodes_with (map trimmed (pieces tail))) ≡ whole
next_piece items rest piece tail whole (front, back, within) all =
    let first : pieces rest ≡ piece ∷ pieces tail =
    slice_split_first is_comma rest 0 within ∙ (ap (λ x. x ∷ pieces (after_first is_comma rest)) (sym front)
    ∙ ap (λ x. piece ∷ pieces x) (sym back)) in
    joined_nodes-last items (words (trimmed piece)) (nodes_with (map trimmed (pieces tail)))
    ∙ (ap (λ ps. joined_nodes items (nodes_with (map trimmed ps))) (sym first) ∙ all)

-- the items so far with the last piece
pub last_piece : (items : Nodes) (rest : List ℕ) (whole : Nodes) → position_or_len is_comma rest ≡ length rest
    → joined_nodes items (nodes_with (map trimmed (pieces rest))) ≡ whole
    → node_last items (words (trimmed rest)) ≡ whole
last_piece items rest whole none all =
    sym (joined_nodes-none (node_last items (words (trimmed rest))))
    ∙ (joined_nodes-last items (words (trimmed rest)) no_nodes
    ∙ (ap (λ ps. joined_nodes items (nodes_with (map trimmed ps))) (sym (one_piece rest none)) ∙ all))

-- what stands behind a comma is shorter
pub shorter_tail : (rest tail : List ℕ) → tail ≡ after_first is_comma rest → position_or_len is_comma rest < length rest
    → length tail < length rest
shorter_tail rest tail back within =
    omega (arith, ap length back, length-drop (position_or_len is_comma rest + 1) rest, within)
