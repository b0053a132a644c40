-- The last two sorts of candidates, said by what stands in them.
use Rattle.std.proofs.Common.{◌≡◌, ◌↔◌, ℕ, ◌+◌, Bool, true, false, List, get_or, Some, None, Option, refl, sym, ap, subst, ◌∙◌, arith}
use Rattle.std.specs.Prelude.{◌==◌, AllPairs, Contains, slice_get}
use Rattle.std.specs.List.{list_any}
use Rattle.std.specs.Option.{option_map_or}
use Rattle.std.proofs.lemmas.Bool.{eqb-true, eq-eqb, false≢true}
use Rattle.std.proofs.lemmas.List.Folds.{Any-from_list_any, list_any_at}
use Rattle.traversal_graph.specs.declared.brief.RowBrief.{RowBrief}
use Rattle.traversal_graph.specs.Candidates.{each, edge_if, require_edges, replace_edges}
use Rattle.traversal_graph.specs.Relations.{IsRequired, IsReplaced, IsBehind, ListsPairs}
use Rattle.traversal_graph.proofs.EachMembers.{in_if, to_if, in_each, to_each, Before, Rises-each, Rises-second, Rises-if}

pub same_pair : (a b c d : ℕ) → a ≡ c → b ≡ d → ◌≡◌ {A = ℕ × ℕ} (a, b) (c, d)
same_pair a b c d e f = ap (λ (x : ℕ). (x, b)) e ∙ ap (λ (y : ℕ). (c, y)) f

ListsPairs-same : (Is So : ℕ → ℕ → Type 0) (pairs : List (ℕ × ℕ)) → ((a b : ℕ) → Is a b ↔ So a b) → ListsPairs Is pairs → ListsPairs So pairs
ListsPairs-same Is So pairs same h = record {
  rising = h.rising;
  each = λ a b. (λ c. (same a b).0 ((h.each a b).0 c), λ k. (h.each a b).1 ((same a b).1 k));
}

IsBehind-map : (first : ℕ) (Is So : ℕ → ℕ → Type 0) → ((r q : ℕ) → Is r q → So r q) → (a b : ℕ)
    → IsBehind first Is a b → IsBehind first So a b
IsBehind-map first Is So to a b h = record {
  r = h.r;
  q = h.q;
  before_is = h.before_is;
  after_is = h.after_is;
  rows = to h.r h.q h.rows;
}

-- the pairs of rows that a test passes
module _ (test : RowBrief → RowBrief → Bool) (first : ℕ) (rows : List RowBrief) where
  abbrev pub edge_of : ℕ → RowBrief → ℕ → RowBrief → List (ℕ × ℕ)
  edge_of r row q other = edge_if (test row other) (first + r) (first + q)

  abbrev pub behind : ℕ → RowBrief → List (ℕ × ℕ)
  behind r row = each rows (edge_of r row)

  pub record Passes (r q : ℕ) : Type 0 where
    pub row : RowBrief
    pub other : RowBrief
    pub row_at : slice_get rows r ≡ Some row
    pub other_at : slice_get rows q ≡ Some other
    pub passes : test row other ≡ true

  pub first_is : (r : ℕ) (row : RowBrief) (p : ℕ × ℕ) → Contains (behind r row) p → p.0 ≡ first + r
  first_is r row p c =
      let e = in_each (edge_of r row) 0 rows p c in
      sym (ap (λ (x : ℕ × ℕ). x.0) (in_if (test row e.1) (first + r) (first + (0 + e.0)) p e.3).1)

  pub rise : (r : ℕ) (row : RowBrief) → AllPairs Before (behind r row)
  rise r row = Rises-second (edge_of r row) (first + r) (λ q. first + q) (λ i j lt. omega arith)
      (λ q other. Rises-if (test row other) (first + r) (first + q))
      (λ q other p c. sym (in_if (test row other) (first + r) (first + q) p c).1) 0 rows

  there : (a b : ℕ) → Contains (each rows behind) (a, b) → IsBehind first Passes a b
  there a b c =
      let e = in_each behind 0 rows (a, b) c in
      let f = in_each (edge_of (0 + e.0) e.1) 0 rows (a, b) e.3 in
      let h = in_if (test e.1 f.1) (first + (0 + e.0)) (first + (0 + f.0)) (a, b) f.3 in
      record {
        r = e.0;
        q = f.0;
        before_is = omega (arith, ap (λ (x : ℕ × ℕ). x.0) h.1);
        after_is = omega (arith, ap (λ (x : ℕ × ℕ). x.1) h.1);
        rows = record { row = e.1; other = f.1; row_at = e.2; other_at = f.2; passes = h.0 };
      }

  back : (a b : ℕ) → IsBehind first Passes a b → Contains (each rows behind) (a, b)
  back a b h =
      let r : ℕ = h.r in
      let q : ℕ = h.q in
      let In : ℕ × ℕ → Type 0 = λ p. Contains (edge_of (0 + r) h.rows.row (0 + q) h.rows.other) p in
      let pair : ◌≡◌ {A = ℕ × ℕ} (first + (0 + r), first + (0 + q)) (a, b) = same_pair (first + (0 + r)) (first + (0 + q)) a b (omega (arith, h.before_is)) (omega (arith, h.after_is)) in
      to_each behind 0 rows r h.rows.row (a, b) h.rows.row_at
      (to_each (edge_of (0 + r) h.rows.row) 0 rows q h.rows.other (a, b) h.rows.other_at
      (subst In pair (to_if (test h.rows.row h.rows.other) (first + (0 + r)) (first + (0 + q)) h.rows.passes)))

  pub passing_pairs : ListsPairs (IsBehind first Passes) (each rows behind)
  passing_pairs = record {
    rising = Rises-each behind (λ r. first + r) (λ i j lt. omega arith) rise first_is 0 rows;
    each = λ a b. (there a b, back a b);
  }

  -- the same, told by what the test says
  pub told_pairs : (Is : ℕ → ℕ → Type 0) → ((r q : ℕ) → Passes r q ↔ Is r q)
      → ListsPairs (IsBehind first Is) (each rows behind)
  told_pairs Is says = ListsPairs-same (IsBehind first Passes) (IsBehind first Is) (each rows behind)
      (λ a b. (
        IsBehind-map first Passes Is (λ r q. (says r q).0) a b,
        IsBehind-map first Is Passes (λ r q. (says r q).1) a b,
      ))
      passing_pairs

-- ---- what the tests say

pub required : (numbers : List ℕ) (n : ℕ) → list_any (λ no. no == n) numbers ≡ true → Contains numbers n
required numbers n e =
    let a = Any-from_list_any (λ (no : ℕ). no == n) numbers e in
    let C : ℕ → Type 0 = λ z. Contains numbers z in
    subst C (eqb-true a.1 n a.4) (a.0, a.2, a.3)

pub tested : (numbers : List ℕ) (n : ℕ) → Contains numbers n → list_any (λ no. no == n) numbers ≡ true
tested numbers n c = list_any_at (λ (no : ℕ). no == n) numbers c.0 n c.1 (eq-eqb (get_or numbers c.0 n) n c.2)

pub replaced : (old : Option ℕ) (n : ℕ) → option_map_or (λ no. no == n) old false ≡ true → old ≡ Some n
replaced None n e = absurd (false≢true e)
replaced (Some x) n e = ap (λ (z : ℕ). Some z) (eqb-true x n e)

pub replaces : (old : Option ℕ) (n : ℕ) → old ≡ Some n → option_map_or (λ no. no == n) old false ≡ true
replaces old n e = rw e (eq-eqb n n refl)

abbrev pub requires_test : RowBrief → RowBrief → Bool
requires_test row other = list_any (λ no. no == other.no) row.requires_

abbrev pub replaces_test : RowBrief → RowBrief → Bool
replaces_test row other = option_map_or (λ no. no == other.no) row.replaces false

-- 'the number of the row at q is among what the row at r requires', in rising r and q
pub required_pairs : (first : ℕ) (rows : List RowBrief)
    → ListsPairs (IsBehind first (IsRequired rows)) (require_edges first rows)
required_pairs first rows = told_pairs requires_test first rows (IsRequired rows)
    (λ r q. (
      λ h. record {
        row = h.row;
        other = h.other;
        row_at = h.row_at;
        other_at = h.other_at;
        requires = required h.row.requires_ h.other.no h.passes;
      },
      λ h. record {
        row = h.row;
        other = h.other;
        row_at = h.row_at;
        other_at = h.other_at;
        passes = tested h.row.requires_ h.other.no h.requires;
      },
    ))

-- 'the row at r replaces the row at q', in rising r and q
pub replaced_pairs : (first : ℕ) (rows : List RowBrief)
    → ListsPairs (IsBehind first (IsReplaced rows)) (replace_edges first rows)
replaced_pairs first rows = told_pairs replaces_test first rows (IsReplaced rows)
    (λ r q. (
      λ h. record {
        row = h.row;
        other = h.other;
        row_at = h.row_at;
        other_at = h.other_at;
        replaces = replaced h.row.replaces h.other.no h.passes;
      },
      λ h. record {
        row = h.row;
        other = h.other;
        row_at = h.row_at;
        other_at = h.other_at;
        passes = replaces h.row.replaces h.other.no h.replaces;
      },
    ))
