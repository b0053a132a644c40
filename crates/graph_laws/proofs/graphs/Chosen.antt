-- The rows that a command chooses: current ones, and new ones behind the next number.
use Rattle.std.proofs.Common.{◌≡◌, ◌<◌, ◌≤◌, ◌⊎◌, inl, inr, ℕ, zero, suc, ◌+◌, List, [], ◌∷◌, ◌++◌, map, Some, refl}
use Rattle.std.proofs.Common.{sym, ap, ◌∙◌, subst, arith}
use Rattle.std.specs.Prelude.{length, slice_get}
use Rattle.heat_plan.specs.declared.item.Item.{Item}
use Rattle.row_table.specs.Rows.{put_row, row_at}
use Rattle.row_table.specs.declared.row.Row.{Row}
use Rattle.core_state.specs.Changes.{applied, apply}
use Rattle.core_state.specs.State.{StateData}
use Rattle.core_state.specs.declared.change.Change.{Change}
use Rattle.core_state.specs.declared.change.Change.TheVariants.{PutRow}
use Rattle.step_relation.specs.Commands.{Chooses, current, fresh, none}
use Rattle.step_relation.specs.Rows.{new_row}
use Rattle.step_relation.specs.Targets.{HasNoCurrent, IsCurrentOf}
use Rattle.history_laws.proofs.tables.Rows.{row_else, row_here, row_put}

-- the rows after these were written
abbrev pub put_rows : List Row → List Row → List Row
put_rows [] rows = rows
put_rows (r ∷ more) rows = put_rows more (put_row r rows)

pub puts_rows : (more : List Row) (rest : List Change) (s : StateData)
    → applied (map PutRow more ++ rest) s ≡ applied rest (record s { rows = put_rows more s.rows })
puts_rows [] rest s = refl
puts_rows (r ∷ more) rest s = puts_rows more rest (apply (PutRow r) s)

-- the row chosen at a place is new: it has this number, and its name had no current row
pub record IsNewAt (s : StateData) (stack : List ℕ) (trav : ℕ) (items : List Item) (chosen : List ℕ) (i n : ℕ)
    (a : Row) : Type 0 where
  pub item : Item
  pub asked : slice_get items i ≡ Some item
  pub number : slice_get chosen i ≡ Some n
  pub no_current : HasNoCurrent s.rows stack item.name
  pub is : a ≡ new_row stack trav n item

-- what is chosen for an item: its name's current row, or a new one
pub data ChosenFor (s : StateData) (stack : List ℕ) (trav next : ℕ) (rows : List Row) (item : Item)
    (c : ℕ) : Type 0 where
  stood : (r : Row) → IsCurrentOf s.rows stack item.name r → c ≡ r.no → ChosenFor s stack trav next rows item c
  newly : HasNoCurrent s.rows stack item.name → next ≤ c → row_at rows c ≡ Some (new_row stack trav c item)
      → ChosenFor s stack trav next rows item c

module _ (s : StateData) (stack : List ℕ) (trav : ℕ) where
  pub lengths : (next : ℕ) (items : List Item) (chosen : List ℕ) (rows : List Row)
      → Chooses s stack trav next items chosen rows
      → length chosen ≡ length items
  lengths _ _ _ _ (none next) = refl
  lengths _ _ _ _ (current next item items r chosen rows is more) = let l = lengths next items chosen rows more in
      omega (arith, l)
  lengths _ _ _ _ (fresh next item items chosen rows no_ more) = let l = lengths (next + 1) items chosen rows more in
      omega (arith, l)

  -- below the next number all is as it was
  pub old_stays : (next : ℕ) (items : List Item) (chosen : List ℕ) (rows base : List Row)
      → Chooses s stack trav next items chosen rows
      → (n : ℕ) → n < next → row_at (put_rows rows base) n ≡ row_at base n
  old_stays _ _ _ _ base (none next) n lt = refl
  old_stays _ _ _ _ base (current next item items r chosen rows is more) n lt =
      old_stays next items chosen rows base more n lt
  old_stays _ _ _ _ base (fresh next item items chosen rows no_ more) n lt =
      old_stays (next + 1) items chosen rows (put_row (new_row stack trav next item) base) more n (omega arith)
      ∙ row_else (new_row stack trav next item) base n (λ eq. let e : next ≡ n = eq in omega arith)

  -- a row that is found then was there, or is new
  pub new_found : (next : ℕ) (items : List Item) (chosen : List ℕ) (rows base : List Row)
      → Chooses s stack trav next items chosen rows
      → (n : ℕ) (a : Row) → row_at (put_rows rows base) n ≡ Some a
      → (row_at base n ≡ Some a) ⊎ ((next ≤ n) × ((i : ℕ) × IsNewAt s stack trav items chosen i n a))
  new_found _ _ _ _ base (none next) n a at = inl at
  new_found _ _ _ _ base (current next item items r chosen rows is more) n a at =
      elim (new_found next items chosen rows base more n a at) [
        | inl was ↦ inl was
        | inr (le, (i, k)) ↦ inr (
          le,
          (suc i, record { item = k.item; asked = k.asked; number = k.number; no_current = k.no_current; is = k.is }),
        )
      ]
  new_found _ _ _ _ base (fresh next item items chosen rows no_ more) n a at =
      elim (new_found (next + 1) items chosen rows (put_row (new_row stack trav next item) base) more n a at) [
        | inl was ↦ elim (row_put (new_row stack trav next item) base was) [
          | inl new ↦ let e : next ≡ n = new.0 in inr (
            omega arith,
            (
              0,
              record {
                item = item;
                asked = refl;
                number = ap Some e;
                no_current = no_;
                is = sym new.1 ∙ ap (λ (m : ℕ). new_row stack trav m item) e;
              },
            ),
          )
          | inr old ↦ inl old.1
        ]
        | inr (le, (i, k)) ↦ inr (
          omega (arith, le),
          (suc i, record { item = k.item; asked = k.asked; number = k.number; no_current = k.no_current; is = k.is }),
        )
      ]

  -- each item has a row
  pub chosen_for : (next : ℕ) (items : List Item) (chosen : List ℕ) (rows base : List Row)
      → Chooses s stack trav next items chosen rows
      → (i : ℕ) (item : Item) → slice_get items i ≡ Some item
      → (c : ℕ) × (slice_get chosen i ≡ Some c) × ChosenFor s stack trav next (put_rows rows base) item c
  chosen_for _ _ _ _ base (none next) i item at = cc
  chosen_for _ _ _ _ base (current next x items r chosen rows is more) zero item at =
      let same : x ≡ item = inner x item at in
      (r.no, refl, stood r (subst (λ (y : Item). IsCurrentOf s.rows stack y.name r) same is) refl) where
        inner : (x y : Item) → Some x ≡ Some y → x ≡ y
        inner x y e = cc
  chosen_for _ _ _ _ base (current next x items r chosen rows is more) (suc i) item at =
      chosen_for next items chosen rows base more i item at
  chosen_for _ _ _ _ base (fresh next x items chosen rows no_ more) zero item at =
      let same : x ≡ item = inner x item at in (
        next,
        refl,
        newly (subst (λ (y : Item). HasNoCurrent s.rows stack y.name) same no_) (omega arith)
            (subst (λ (y : Item). row_at (put_rows rows (put_row (new_row stack trav next x) base)) next ≡ Some
            (new_row stack trav next y)) same
            (old_stays (next + 1) items chosen rows (put_row (new_row stack trav next x) base) more next (omega arith)
            ∙ row_here (new_row stack trav next x) base)),
      ) where
        inner : (x y : Item) → Some x ≡ Some y → x ≡ y
        inner x y e = cc
  chosen_for _ _ _ _ base (fresh next x items chosen rows no_ more) (suc i) item at =
      let (c, at_c, k) = chosen_for (next + 1) items chosen rows
      (put_row (new_row stack trav next x) base) more i item at in
      (c, at_c, later k) where
        later : {rows' : List Row} {c : ℕ} → ChosenFor s stack trav (next + 1) rows' item c
            → ChosenFor s stack trav next rows' item c
        later (stood r is e) = stood r is e
        later (newly no' le there) = newly no' (omega (arith, le)) there
