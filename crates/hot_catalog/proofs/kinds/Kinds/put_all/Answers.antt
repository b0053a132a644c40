-- One kind more is put, and one place of the room is taken.
use Rattle.std.proofs.Common.{◌≡◌, ◌∙◌, ◌∷◌, List, length, ap, sym, subst, true, arith}
use Rattle.hot_catalog.specs.Catalogs.{with_all, with_kind}
use Rattle.hot_catalog.proofs.Counted.{distinct_with, names}
use Rattle.type_catalog.specs.Names.{are_distinct}
use Rattle.type_catalog.specs.declared.kind.KindDef.{KindDef}
use Rattle.hot_catalog.proofs.kinds.Kinds.put_all.Goals as goal

pub loop-kind-preserved : goal.loop-kind-preserved
loop-kind-preserved c =
    let first : c.loop-kind.kind-iterator.rest.items ≡ c.in-Some.kind ∷ c.next.new.self.rest.items =
    c.in-Some.ensures.steps.0 in
    let one : length c.loop-kind.kind-iterator.rest.items ≡ length (c.in-Some.kind ∷ c.next.new.self.rest.items) =
    ap length first in (
      ap (with_all c.next.new.self.rest.items) c.put_kind.ensures.items
          ∙ sym (ap (λ (ks : List KindDef). with_all ks c.loop-kind.self-inside.all.items) first)
          ∙ c.loop-kind.invariant.0,
      omega (arith, one, c.loop-kind.invariant.1, c.put_kind.ensures.length, c.put_kind.ensures.capacity),
      subst (λ (ks : List KindDef). are_distinct (names ks) ≡ true) (sym c.put_kind.ensures.items)
          (distinct_with c.in-Some.kind c.loop-kind.self-inside.all.items c.loop-kind.invariant.2),
    )
