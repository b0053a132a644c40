-- The current row of a name, as its rows are read from the greatest number down.
use Rattle.std.proofs.Common.{◌≡◌, ◌<◌, ◌≤◌, ◌+◌, ◌∙◌, ℕ, List, Some, None, length, map, get_or, nat_eq, nat_lt, sym, ap, subst, ⊎_elim, arith}
use Rattle.std.specs.Prelude.{not}
use Rattle.std.specs.Ordering.{is_gt}
use Rattle.std.proofs.lemmas.List.{length-map, get_or_default}
use Rattle.keyed_table.specs.Orders.{AreApart, IsOrder, IsStart}
use Rattle.keyed_table.proofs.Numbers.{compared}
use Rattle.keyed_table.proofs.Sortings.{number_sorting}
use Rattle.keyed_table.proofs.Tables.{at-own}
use Rattle.row_table.specs.declared.row.Row.{Row}
use Rattle.row_table.specs.Rows.{row_key}
use Rattle.row_table.specs.Chains.{IsCurrent}
use Rattle.row_table.specs.Found.{IsCurrentNo, IsCurrentOf}
use Rattle.row_table.specs.Keys.{name_of, name_key, name_cmp, name_below}
use Rattle.row_table.proofs.Found.{row-has, row-among}
use Rattle.row_table.proofs.RowOrders.{name_total, name_exact}
use Rattle.row_table.proofs.Groups.{grouped, entry_of, rising}

-- no entry from `i` on, below `stop`, leads to a current row
abbrev pub NoneFrom : List Row → List ℕ → ℕ → ℕ → Type 0
NoneFrom rows places i stop = (j : ℕ) (d : Row) → i ≤ j → j < stop → ¬ IsCurrent (get_or rows (get_or places j 0) d)

-- one entry more
pub none_more : (rows : List Row) (places : List ℕ) (i j stop : ℕ) (x : Row) → i ≡ j + 1 → get_or places j 0 < length rows → x ≡ get_or rows (get_or places j 0) x → ¬ IsCurrent x
    → NoneFrom rows places i stop → NoneFrom rows places j stop
none_more rows places i j stop x e w read miss h k d le lt = ⊎_elim
    (λ less. absurd (omega (arith, less, le)))
    (λ rest. ⊎_elim
    (λ same. λ is. miss (subst IsCurrent (ap (λ n. get_or rows (get_or places n 0) d) same ∙ get_or_default rows (get_or places j 0) d x w ∙ sym read) is))
    (λ more. h k d (omega (arith, more, e)) lt) rest) (compared k j)

module _ (rows : List Row) (apart : AreApart (map row_key rows)) (places : List ℕ) (o : IsOrder name_below (map name_key rows) places) (stack name : List ℕ) (start stop : ℕ)
    (b : IsStart (λ k. name_below k ((stack, name), 0)) (map name_key rows) places start) (e : IsStart (λ k. not (is_gt (name_cmp k.0 (stack, name)))) (map name_key rows) places stop) where
  -- where a current row of the name has its entry
  current_entry : (n : ℕ) (is : IsCurrentNo rows stack name n) → (i : ℕ) × (start ≤ i) × (i < stop) × ((d : Row) → get_or rows (get_or places i 0) d ≡ is.row)
  current_entry n is =
      let (p, lp, own) = row-among n rows is.row is.its in
      entry_of name_cmp name_total name_exact name_of rows places o (stack, name) start stop b e p is.row lp own (λ t. (is.at_stack t, is.at_name t))

  pub none_current : (i : ℕ) → i ≤ start → NoneFrom rows places i stop → IsCurrentOf rows stack name None
  none_current i le h n is =
      let (j, lj, jl, at) = current_entry n is in
      h j is.row (omega (arith, le, lj)) jl (subst IsCurrent (sym (at is.row)) is.current)

  pub current_there : (i j : ℕ) (x : Row) → i ≡ j + 1 → start ≤ j → j < stop → x ≡ get_or rows (get_or places j 0) x → IsCurrent x → NoneFrom rows places i stop
      → IsCurrentOf rows stack name (Some x.no)
  current_there i j x f le lt read hit h =
      let w : get_or places j 0 < length rows = omega (arith, (o.within j (omega (arith, lt, e.few))).0, length-map rows name_key) in
      let group : name_of x ≡ (stack, name) = ap name_of read ∙ grouped name_cmp name_total name_exact name_of rows places o (stack, name) start stop b e j x le lt in (
        record {
          row = x;
          its = at-own nat_eq nat_lt number_sorting row_key rows apart (get_or places j 0) w x read;
          at_stack = ap (λ g. g.0) group;
          at_name = ap (λ g. g.1) group;
          current = hit;
        },
        λ m is.
            let (k, lk, kl, at) = current_entry m is in
            let own : is.row.no ≡ m = row-has m rows is.row is.its in ⊎_elim
            (λ less. omega (arith, own, ap row_key (at x), ap row_key read, rising name_cmp name_total name_exact name_of rows places o (stack, name) start stop b e k j x lk less lt))
            (λ rest. ⊎_elim
            (λ same. omega (arith, own, ap row_key (read ∙ ap (λ n. get_or rows (get_or places n 0) x) (sym same) ∙ at x)))
            (λ more. absurd (h k is.row (omega (arith, more, f)) kl (subst IsCurrent (sym (at is.row)) is.current))) rest) (compared k j),
      )
