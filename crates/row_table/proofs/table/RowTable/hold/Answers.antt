use Rattle.std.proofs.Common.{◌≡◌, ◌+◌, ◌∙◌, Some, get_or, refl, sym, ap, subst, arith}
use Rattle.std.specs.Ordering.{nat_cmp}
use Rattle.std.specs.Cmp.Lexicographic.{nat_list_cmp_total}
use Rattle.std.proofs.lemmas.Map.Lookups.{exact_bytes}
use Rattle.keyed_table.specs.Sortings.{text_cmp, pair_same}
use Rattle.keyed_table.proofs.Tables.{rewrite_keeps}
use Rattle.row_table.specs.declared.row.Row.{Row}
use Rattle.row_table.specs.Rows.{put_row, row_at}
use Rattle.row_table.specs.Keys.{name_of, name_cmp, name_key, name_below, stack_of, stack_key, stack_below}
use Rattle.row_table.specs.Locks.{held, IsLockable}
use Rattle.row_table.proofs.RowOrders.{name_total, name_exact, sorting}
use Rattle.row_table.proofs.Holds.{held_put, key_counts, none_held}
use Rattle.row_table.proofs.table.RowTable.hold.Goals as goal

pub overflow_add-key : goal.overflow_add-key
overflow_add-key c =
    let e : c.self.inside.rows.items ≡ c.args.self.now.items = ap (λ v. v.items) c.self.view_is in
    omega (
      arith,
      key_counts c.self.inside.rows.items c.args.no c.in-Some.place c.index-as_slice-place.result (sym c.find.ensures.place ∙ c.in-Some.is) c.in-Some.ensures.within
          (c.index-as_slice-place.is ∙ ap (λ ys. get_or ys c.in-Some.place c.index-as_slice-place.result) c.as_slice.ensures.items)
          (subst (λ ys. IsLockable ys c.args.no) (sym e) c.requires),
      ap (λ (y : Row). y.key) c.index-as_slice-place.is,
    )

pub invariant_of-self : goal.invariant_of-self
invariant_of-self c = (
  rewrite_keeps name_key (pair_same name_cmp nat_cmp) name_below (sorting name_cmp name_total name_exact name_of) c.self.inside.rows.items c.self.inside.by_name.items c.self.invariant.0
      c.rewrite.new.self.items c.in-Some.place
      (λ (y : Row). record y { engine = c.args.engine; key = (get_or c.as_slice.result.now c.in-Some.place c.index-as_slice-place.result).key + 1 })
      c.in-Some.ensures.within (λ y. refl) c.rewrite.ensures.items,
  rewrite_keeps stack_key (pair_same text_cmp nat_cmp) stack_below (sorting text_cmp nat_list_cmp_total exact_bytes stack_of) c.self.inside.rows.items c.self.inside.by_stack.items c.self.invariant.1
      c.rewrite.new.self.items c.in-Some.place
      (λ (y : Row). record y { engine = c.args.engine; key = (get_or c.as_slice.result.now c.in-Some.place c.index-as_slice-place.result).key + 1 })
      c.in-Some.ensures.within (λ y. refl) c.rewrite.ensures.items,
)

pub returns-in-Some-clause-items : goal.returns-in-Some-clause-items
returns-in-Some-clause-items c =
    let e : c.self.inside.rows.items ≡ c.args.self.now.items = ap (λ v. v.items) c.self.view_is in
    subst (λ ys. (r : Row) → row_at ys c.args.no ≡ Some r → c.rewrite.new.self.items ≡ put_row (held c.args.engine r) ys) e
    (held_put c.self.inside.rows.items c.rewrite.new.self.items c.args.no c.in-Some.place c.args.engine _ c.index-as_slice-place.result (sym c.find.ensures.place ∙ c.in-Some.is) c.in-Some.ensures.within
    (c.index-as_slice-place.is ∙ ap (λ ys. get_or ys c.in-Some.place c.index-as_slice-place.result) c.as_slice.ensures.items)
    (ap (λ (y : Row). y.key + 1) (sym c.index-as_slice-place.is)) c.rewrite.ensures.items)

pub returns-in_default-clause-items : goal.returns-in_default-clause-items
returns-in_default-clause-items c =
    let e : c.self.inside.rows.items ≡ c.args.self.now.items = ap (λ v. v.items) c.self.view_is in
    λ r is. none_held c.self.inside.rows.items c.args.no (sym c.find.ensures.place ∙ c.in_default.is) r (subst (λ ys. row_at ys c.args.no ≡ Some r) (sym e) is)
