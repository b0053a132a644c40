use Rattle.std.proofs.Common.{◌≡◌, ◌+◌, ◌<◌, ◌++◌, ◌∙◌, ap, refl, drop, length, arith}
use Rattle.std.proofs.lemmas.Result.{err_from_is_err_and}
use Rattle.hot_strings.specs.Joined.{joined}
use Rattle.hot_strings.specs.Size.{Drafted}
use Rattle.hot_strings.proofs.Joins.{joined-cons, joined_on, joined_on-step}
use Rattle.hot_strings.proofs.Sizes.{IsOfLimit-append}
use Rattle.hot_strings.proofs.joining.join.Goals as goal

pub loop-item-init : goal.loop-item-init
loop-item-init c = (
  c.push.ensures.limit ∙ ap (λ (d : Drafted). d.limit) c.new-draft.ensures,
  rw (c.in-Some.ensures.cases.0, joined-cons c.args.delimiter.now c.in-Some.first.now c.in-Some.others.now)
      (rw (c.in_ok-push.ensures.ok, c.new-draft.ensures, c.as_str.ensures.value) refl),
)

pub returns-in_err-push-3-clause-err : goal.returns-in_err-push-3-clause-err
returns-in_err-push-3-clause-err c =
    let p = err_from_is_err_and c.from_residual-in_err-push-3.result c.from_residual-in_err-push-3.ensures.1 in
    let below : c.loop-item.item-index < length c.in-Some.others.now = omega arith in
    let limit : c.push-in-loop-item.new.self.limit ≡ 1048576 = c.push-in-loop-item.ensures.limit ∙ c.loop-item.invariant.0 in
    let step = joined_on-step c.loop-item.draft.text c.args.delimiter.now c.in-Some.others.now c.loop-item.item-index c.item-item.result below c.item-item.is in
    let rest = joined_on c.args.delimiter.now (drop (c.loop-item.item-index + 1) c.in-Some.others.now) in
    let whole : joined c.args.delimiter.now c.args.items.now ≡ (c.push-in-loop-item.new.self.text ++ c.as_str-in-loop-item-2.result.now) ++ rest
    = cc (step, c.in_ok-push-2.ensures.ok, c.loop-item.invariant.1, c.as_str-in-loop-item.ensures.value, c.as_str-in-loop-item-2.ensures.value) in
    rw (p.1, p.2) (IsOfLimit-append _ _ 1048576 _ rest _ limit whole c.in_err-push-3.ensures.err)
