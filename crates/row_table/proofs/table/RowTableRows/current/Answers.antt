use Rattle.std.proofs.Common.{◌≡◌, ◌≤◌, ◌-◌, ◌∙◌, length, map, Some, None, true≢false, sym, ap, subst, subst₂, arith}
use Rattle.std.specs.Prelude.{not}
use Rattle.std.specs.Ordering.{is_gt}
use Rattle.std.proofs.lemmas.List.{length-map}
use Rattle.row_table.specs.Rows.{row_key}
use Rattle.keyed_table.specs.Orders.{AreApart, IsOrder, IsStart}
use Rattle.row_table.specs.Found.{IsCurrentOf}
use Rattle.row_table.specs.Keys.{name_key, name_cmp, name_below}
use Rattle.row_table.proofs.Names.{none_more, none_current, current_there}
use Rattle.row_table.proofs.table.RowTableRows.current.Goals as goal

pub loop-i-init : goal.loop-i-init
loop-i-init c = λ j d le lt is. absurd (omega (arith, le, lt))

pub loop-i-preserved : goal.loop-i-preserved
loop-i-preserved c =
    let o : IsOrder name_below (map name_key c.as_slice-rows.result.now) c.as_slice-entries.result.now =
    subst₂ (λ ys qs. IsOrder name_below (map name_key ys) qs) (sym c.as_slice-rows.ensures.items) (sym c.as_slice-entries.ensures) c.self.invariant.0 in
    let few : c.end_of_name-end.result ≤ length c.as_slice-entries.result.now = omega (arith, c.end_of_name-end.ensures.few, ap (λ qs. length qs) c.as_slice-entries.ensures) in
    none_more c.as_slice-rows.result.now c.as_slice-entries.result.now c.loop-i.i (c.loop-i.i - 1) c.end_of_name-end.result c.index-rows-entries.result
    (omega (arith, c.loop-i-test.true))
    (omega (arith, (o.within (c.loop-i.i - 1) (omega (arith, few, c.loop-i.auto.i, c.loop-i-test.true))).0, length-map c.as_slice-rows.result.now name_key))
    c.index-rows-entries.is (λ is. true≢false (sym (c.is_current.ensures.1 is) ∙ c.if-is_current.false)) c.loop-i.invariant

pub returns-then-is_current : goal.returns-then-is_current
returns-then-is_current c =
    let e : c.self.inside.rows.items ≡ c.args.self.now.items = ap (λ v. v.items) c.self.view_is in
    let few : c.end_of_name-end.result ≤ length c.as_slice-entries.result.now = omega (arith, c.end_of_name-end.ensures.few, ap (λ qs. length qs) c.as_slice-entries.ensures) in
    subst (λ ys. IsCurrentOf ys c.args.stack.now c.args.name.now (Some c.index-rows-entries.result.no)) (c.as_slice-rows.ensures.items ∙ e)
    (current_there c.as_slice-rows.result.now
    (subst (λ ys. AreApart (map row_key ys)) (sym c.as_slice-rows.ensures.items) c.as_slice-rows.ensures.apart)
    c.as_slice-entries.result.now
    (subst₂ (λ ys qs. IsOrder name_below (map name_key ys) qs) (sym c.as_slice-rows.ensures.items) (sym c.as_slice-entries.ensures) c.self.invariant.0)
    c.args.stack.now c.args.name.now c.start_of_name-start.result c.end_of_name-end.result
    (subst (λ qs. IsStart (λ k. name_below k ((c.args.stack.now, c.args.name.now), 0)) (map name_key c.as_slice-rows.result.now) qs c.start_of_name-start.result) (sym c.as_slice-entries.ensures) c.start_of_name-start.ensures)
    (subst (λ qs. IsStart (λ k. not (is_gt (name_cmp k.0 (c.args.stack.now, c.args.name.now)))) (map name_key c.as_slice-rows.result.now) qs c.end_of_name-end.result) (sym c.as_slice-entries.ensures) c.end_of_name-end.ensures)
    c.loop-i.i (c.loop-i.i - 1) c.index-rows-entries.result (omega (arith, c.loop-i-test.true)) (omega (arith, c.loop-i-test.true)) (omega (arith, c.loop-i-test.true, c.loop-i.auto.i))
    c.index-rows-entries.is (c.is_current.ensures.0 c.if-is_current.true) c.loop-i.invariant)

pub returns : goal.returns
returns c =
    let e : c.self.inside.rows.items ≡ c.args.self.now.items = ap (λ v. v.items) c.self.view_is in
    subst (λ ys. IsCurrentOf ys c.args.stack.now c.args.name.now None) (c.as_slice-rows.ensures.items ∙ e)
    (none_current c.as_slice-rows.result.now
    (subst (λ ys. AreApart (map row_key ys)) (sym c.as_slice-rows.ensures.items) c.as_slice-rows.ensures.apart)
    c.as_slice-entries.result.now
    (subst₂ (λ ys qs. IsOrder name_below (map name_key ys) qs) (sym c.as_slice-rows.ensures.items) (sym c.as_slice-entries.ensures) c.self.invariant.0)
    c.args.stack.now c.args.name.now c.start_of_name-start.result c.end_of_name-end.result
    (subst (λ qs. IsStart (λ k. name_below k ((c.args.stack.now, c.args.name.now), 0)) (map name_key c.as_slice-rows.result.now) qs c.start_of_name-start.result) (sym c.as_slice-entries.ensures) c.start_of_name-start.ensures)
    (subst (λ qs. IsStart (λ k. not (is_gt (name_cmp k.0 (c.args.stack.now, c.args.name.now)))) (map name_key c.as_slice-rows.result.now) qs c.end_of_name-end.result) (sym c.as_slice-entries.ensures) c.end_of_name-end.ensures)
    c.loop-i.i (omega (arith, c.loop-i-test.false)) c.loop-i.invariant)
