use Rattle.std.proofs.Common.{◌≡◌, ◌<◌, ◌≤◌, ◌∙◌, length, map, get_or, sym, ap, subst, subst₂, arith}
use Rattle.std.specs.Prelude.{not}
use Rattle.std.specs.Ordering.{is_gt}
use Rattle.std.proofs.lemmas.List.{length-map, get_or_default}
use Rattle.row_table.specs.Rows.{row_key}
use Rattle.keyed_table.specs.Orders.{AreApart, IsOrder, IsStart}
use Rattle.keyed_table.specs.Sortings.{text_cmp}
use Rattle.row_table.specs.Found.{AreOfStack}
use Rattle.row_table.specs.Keys.{stack_key, stack_below}
use Rattle.row_table.proofs.Stacks.{NosSoFar, nos_none, nos_more, nos_all}
use Rattle.row_table.proofs.table.RowTableRows.of_stack.Goals as goal

pub loop-i-init : goal.loop-i-init
loop-i-init c = subst (λ nos. NosSoFar c.as_slice-rows.result.now c.as_slice-entries.result.now c.start_of_stack-start.result c.end_of_stack-end.result c.start_of_stack-start.result nos) (sym c.new-nos.ensures)
    (nos_none c.as_slice-rows.result.now c.as_slice-entries.result.now c.start_of_stack-start.result c.end_of_stack-end.result)

pub loop-i-preserved : goal.loop-i-preserved
loop-i-preserved c =
    let o : IsOrder stack_below (map stack_key c.as_slice-rows.result.now) c.as_slice-entries.result.now =
    subst₂ (λ ys qs. IsOrder stack_below (map stack_key ys) qs) (sym c.as_slice-rows.ensures.items) (sym c.as_slice-entries.ensures) c.self.invariant.1 in
    let few : c.end_of_stack-end.result ≤ length c.as_slice-entries.result.now = omega (arith, c.end_of_stack-end.ensures.few, ap (λ qs. length qs) c.as_slice-entries.ensures) in
    let w : get_or c.as_slice-entries.result.now c.loop-i.i 0 < length c.as_slice-rows.result.now =
    omega (arith, (o.within c.loop-i.i (omega (arith, few, c.loop-i-test.true))).0, length-map c.as_slice-rows.result.now stack_key) in
    let x = get_or c.as_slice-rows.result.now (get_or c.as_slice-entries.result.now c.loop-i.i 0) c.index-rows-entries.result in
    rw c.in_ok-push.ensures.ok
    (nos_more c.as_slice-rows.result.now c.as_slice-entries.result.now c.start_of_stack-start.result c.end_of_stack-end.result c.loop-i.i c.loop-i.nos x c.loop-i-test.true w
    (get_or_default c.as_slice-rows.result.now (get_or c.as_slice-entries.result.now c.loop-i.i 0) c.index-rows-entries.result x w) c.loop-i.invariant)

pub returns : goal.returns
returns c =
    let e : c.self.inside.rows.items ≡ c.args.self.now.items = ap (λ v. v.items) c.self.view_is in
    subst (λ ys. AreOfStack ys c.args.stack.now c.loop-i.nos) (c.as_slice-rows.ensures.items ∙ e)
    (nos_all c.as_slice-rows.result.now
    (subst (λ ys. AreApart (map row_key ys)) (sym c.as_slice-rows.ensures.items) c.as_slice-rows.ensures.apart)
    c.as_slice-entries.result.now
    (subst₂ (λ ys qs. IsOrder stack_below (map stack_key ys) qs) (sym c.as_slice-rows.ensures.items) (sym c.as_slice-entries.ensures) c.self.invariant.1)
    c.args.stack.now c.start_of_stack-start.result c.end_of_stack-end.result
    (subst (λ qs. IsStart (λ k. stack_below k (c.args.stack.now, 0)) (map stack_key c.as_slice-rows.result.now) qs c.start_of_stack-start.result) (sym c.as_slice-entries.ensures) c.start_of_stack-start.ensures)
    (subst (λ qs. IsStart (λ k. not (is_gt (text_cmp k.0 c.args.stack.now))) (map stack_key c.as_slice-rows.result.now) qs c.end_of_stack-end.result) (sym c.as_slice-entries.ensures) c.end_of_stack-end.ensures)
    c.loop-i.i c.loop-i.nos (omega (arith, c.loop-i-test.false)) c.loop-i.invariant)
