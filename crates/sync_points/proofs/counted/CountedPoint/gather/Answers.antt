use Rattle.std.proofs.Common.{◌≡◌, ◌-◌, ◌∙◌, sym, ap, subst, arith}
use Rattle.std.specs.Prelude.{IfSome}
use Rattle.sync_points.specs.Points.{missing_of}
use Rattle.sync_points.proofs.Gathers.{told_of, missing_after, had_none, full_by}
use Rattle.sync_points.proofs.counted.CountedPoint.gather.Goals as goal

pub overflow_sub-left : goal.overflow_sub-left
overflow_sub-left c = omega (
  arith,
  missing_after c.args.from c.args.input c.self.inside.point c.gather.new.self c.count-missing.result c.edges_from.result (c.count-missing.ensures ∙ ap missing_of (sym c.self.view_is))
      c.in_ok-new.ensures.point (had_none _ c.in_ok-new.new c.in_ok-new.ensures.told c.if-not-new.false) c.edges_from.ensures,
)

pub invariant_of-self : goal.invariant_of-self
invariant_of-self c = subst (λ p. IfSome c.self.inside.missing (λ count. count ≡ missing_of p)) (sym c.in_err-new.ensures.same) c.self.invariant

pub invariant_of-self-2 : goal.invariant_of-self-2
invariant_of-self-2 c = omega (
  arith,
  missing_after c.args.from c.args.input c.self.inside.point c.gather.new.self c.count-missing.result c.edges_from.result (c.count-missing.ensures ∙ ap missing_of (sym c.self.view_is))
      c.in_ok-new.ensures.point (had_none _ c.in_ok-new.new c.in_ok-new.ensures.told c.if-not-new.false) c.edges_from.ensures,
)

pub returns-clause-told : goal.returns-clause-told
returns-clause-told c =
    told_of c.args.from c.args.input c.self.inside.point c.gather.new.self c.args.self.now c.in_ok-new.new _ c.self.view_is c.in_ok-new.ensures.point c.in_ok-new.ensures.told
    (full_by c.gather.new.self (c.count-missing.result - c.edges_from.result) (omega (
      arith,
      missing_after c.args.from c.args.input c.self.inside.point c.gather.new.self c.count-missing.result c.edges_from.result (c.count-missing.ensures ∙ ap missing_of (sym c.self.view_is))
          c.in_ok-new.ensures.point (had_none _ c.in_ok-new.new c.in_ok-new.ensures.told c.if-not-new.false) c.edges_from.ensures,
    )))
