-- What a run of calls does to a list of rows.
use Rattle.std.specs.Prelude.{◌≡◌, ◌⊎◌, ℕ, List, [], ◌∷◌, Option, None, Some, IsSome}
use Rattle.row_table.specs.declared.row.Row.{Row}
use Rattle.row_table.specs.Rows.{row_at, put_row, cut_row}
use Rattle.row_table.specs.Chains.{Leads}
use Rattle.row_table.specs.declared.ops.RowOp.{RowOp}
use Rattle.row_table.specs.declared.ops.RowOp.TheVariants as op
use Rattle.row_table.specs.declared.ops.RowAnswer.{RowAnswer}
use Rattle.row_table.specs.declared.ops.RowAnswer.TheVariants as gives
use Rattle.row_table.specs.Found.{IsCurrentOf, AreOfStack}
use Rattle.row_table.specs.Locks.{IsLockable, held}

-- a call that isn't made
abbrev pub IsBarred : List Row → RowAnswer → List Row → Type 0
IsBarred rows a new = (a ≡ gives.Barred) × (new ≡ rows)

-- the row goes to this engine, or to none, where its key can count on
abbrev pub Holds : ℕ → Option ℕ → List Row → RowAnswer → List Row → Type 0
Holds n engine rows a new =
    (IsLockable rows n × (a ≡ gives.Done) × ((r : Row) → row_at rows n ≡ Some r → new ≡ put_row (held engine r) rows))
    ⊎ ((IsLockable rows n → ⊥) × IsBarred rows a new)

-- the row is written over the one of its number, if one stands
abbrev pub Wrote : Row → List Row → RowAnswer → List Row → Type 0
Wrote r rows a new =
    (IsSome (row_at rows r.no) × (a ≡ gives.Done) × (new ≡ put_row r rows))
    ⊎ ((row_at rows r.no ≡ None) × IsBarred rows a new)

-- the end of the row's chain of replacements is told, if the row stands
abbrev pub TellsHead : ℕ → List Row → RowAnswer → List Row → Type 0
TellsHead n rows a new =
    (IsSome (row_at rows n) × ((head : ℕ) × (a ≡ gives.Head head) × Leads rows n head) × (new ≡ rows))
    ⊎ ((row_at rows n ≡ None) × IsBarred rows a new)

-- what a call does, and what it answers
abbrev pub Does : RowOp → List Row → RowAnswer → List Row → Type 0
Does (op.Get n) rows a new = (a ≡ gives.Got (row_at rows n)) × (new ≡ rows)
Does (op.Current stack name) rows a new = ((o : Option ℕ) × (a ≡ gives.Current o) × IsCurrentOf rows stack name o) × (new ≡ rows)
Does (op.Head n) rows a new = TellsHead n rows a new
Does (op.OfStack stack) rows a new = ((nos : List ℕ) × (a ≡ gives.Rows nos) × AreOfStack rows stack nos) × (new ≡ rows)
Does (op.Put r) rows a new = (a ≡ gives.Done) × (new ≡ put_row r rows)
Does (op.Set r) rows a new = Wrote r rows a new
Does (op.Purge n) rows a new = (a ≡ gives.Done) × (new ≡ cut_row n rows)
Does (op.Lock n e) rows a new = Holds n (Some e) rows a new
Does (op.Unlock n) rows a new = Holds n None rows a new
Does (op.Reserve more) rows a new = (a ≡ gives.Done) × (new ≡ rows)

-- each call does what it does in its turn
abbrev pub Runs : List RowOp → List Row → List RowAnswer → List Row → Type 0
Runs [] rows [] new = new ≡ rows
Runs [] rows (a ∷ answers) new = ⊥
Runs (o ∷ os) rows [] new = ⊥
Runs (o ∷ os) rows (a ∷ answers) new = (mid : List Row) × Does o rows a mid × Runs os mid answers new
