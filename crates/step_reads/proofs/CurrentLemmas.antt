-- The current row of a name, as its table finds it.
use Rattle.std.proofs.Common.{◌≡◌, ◌≤◌, ◌∙◌, ℕ, List, Bor, None, Some, sym, subst, arith}
use Rattle.std.specs.Prelude.{IfSome, Option, option_map}
use Rattle.row_table.specs.Chains.{IsCurrent}
use Rattle.row_table.specs.Rows.{row_at}
use Rattle.row_table.specs.declared.row.Row.{Row}
use Rattle.row_table.specs.Found as indexed
use Rattle.step_relation.specs.Targets.{HasNoCurrent, IsCurrentOf}
use Rattle.step_reads.proofs.Tables.{row-key, row-self}

pub current_row : (rows : List Row) (stack name : List ℕ) (n : ℕ) (r : Row)
    → indexed.IsCurrentOf rows stack name (Some n) → row_at rows n ≡ Some r → IsCurrentOf rows stack name r
current_row rows stack name n r h at =
    let its : Some h.0.row ≡ Some r = sym h.0.its ∙ at in
    let same : h.0.row ≡ r = cc in
    let key : r.no ≡ n = row-key rows n r at in
    record {
      found = row-self rows n r at;
      stack_is = subst (λ (x : Row). x.stack ≡ stack) same h.0.at_stack;
      name_is = subst (λ (x : Row). x.name ≡ name) same h.0.at_name;
      current = subst IsCurrent same h.0.current;
      greatest = λ m q its' of called is.
          let le : m ≤ n = h.1 m (record { row = q; its = its'; at_stack = of; at_name = called; current = is }) in
          omega (arith, le, key);
    }

pub current_found : (rows : List Row) (stack name : List ℕ) (n : ℕ) (found : Option (Bor Row))
    → indexed.IsCurrentOf rows stack name (Some n) → option_map (λ r. r.now) found ≡ row_at rows n
    → IfSome found (λ r. IsCurrentOf rows stack name r.now)
current_found rows stack name n None h e = tt
current_found rows stack name n (Some r) h e = current_row rows stack name n r.now h (sym e)

pub no_current : (rows : List Row) (stack name : List ℕ) → indexed.IsCurrentOf rows stack name None
    → HasNoCurrent rows stack name
no_current rows stack name h = λ m q its of called is.
    h m (record { row = q; its = its; at_stack = of; at_name = called; current = is })
