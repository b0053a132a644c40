-- A row that is locked or unlocked in its place.
use Rattle.std.proofs.Common.{◌≡◌, ◌<◌, ◌+◌, ◌∙◌, ℕ, List, Option, Some, None, length, get_or, nat_eq, set, slice_get, sym, ap, subst}
use Rattle.std.specs.Prelude.{◌^◌}
use Rattle.std.specs.List.{position_from}
use Rattle.std.proofs.lemmas.Option.{slice_get-get_or}
use Rattle.keyed_table.proofs.Puts.{put-at}
use Rattle.keyed_table.proofs.Tables.{at-place, at-nowhere}
use Rattle.row_table.specs.declared.row.Row.{Row}
use Rattle.row_table.specs.Rows.{row_at, row_key, put_row}
use Rattle.row_table.specs.Locks.{IsLockable, held}
use Rattle.row_table.proofs.Found.{row-has}

-- the row that a place leads to
pub row_there : (rows : List Row) (n p : ℕ) (x r : Row) → position_from (λ (y : Row). nat_eq y.no n) 0 rows ≡ Some p → p < length rows → x ≡ get_or rows p x
    → row_at rows n ≡ Some r → x ≡ r
row_there rows n p x r at l read is =
    let sl : slice_get rows p ≡ Some x = slice_get-get_or rows p x l ∙ ap (λ y. Some y) (sym read) in
    let both : Some x ≡ Some r = sym sl ∙ sym (at-place nat_eq row_key n rows p at) ∙ is in
    cc

pub held_put : (rows rows' : List Row) (n p : ℕ) (engine : Option ℕ) (key : ℕ) (x : Row) → position_from (λ (y : Row). nat_eq y.no n) 0 rows ≡ Some p → p < length rows
    → x ≡ get_or rows p x → key ≡ x.key + 1 → ((y : Row) → slice_get rows p ≡ Some y → rows' ≡ set rows p (record y { engine = engine; key = key }))
    → (r : Row) → row_at rows n ≡ Some r → rows' ≡ put_row (held engine r) rows
held_put rows rows' n p engine key x at l read k h r is =
    h r (sym (at-place nat_eq row_key n rows p at) ∙ is)
    ∙ ap (λ m. set rows p (record r { engine = engine; key = m })) (k ∙ ap (λ (y : Row). y.key + 1) (row_there rows n p x r at l read is))
    ∙ sym (put-at nat_eq row_key (held engine r) rows p (subst (λ m. position_from (λ y. nat_eq (row_key y) m) 0 rows ≡ Some p) (sym (row-has n rows r is)) at))

-- its key can count on
pub key_counts : (rows : List Row) (n p : ℕ) (x : Row) → position_from (λ (y : Row). nat_eq y.no n) 0 rows ≡ Some p → p < length rows → x ≡ get_or rows p x
    → IsLockable rows n → x.key + 1 < 2 ^ 62
key_counts rows n p x at l read h = subst (λ (y : Row). y.key + 1 < 2 ^ 62) (sym (row_there rows n p x h.row at l read h.its)) h.counts

-- n row, n lock
pub none_held : (rows : List Row) (n : ℕ) → position_from (λ (y : Row). nat_eq y.no n) 0 rows ≡ None → {P : Type 0} → (r : Row) → row_at rows n ≡ Some r → P
none_held rows n at r is = let e : None ≡ Some r = sym (at-nowhere nat_eq row_key n rows at) ∙ is in cc
