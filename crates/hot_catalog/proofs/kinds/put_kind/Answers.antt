-- The kind of the name is replaced.
use Rattle.std.proofs.Common.{◌≡◌, ◌∙◌, ◌≤◌, ◌+◌, ℕ, List, true, sym, ap, length, get_or, arith}
use Rattle.std.specs.Str.{bytes_eq}
use Rattle.std.specs.Vec.{vec_len}
use Rattle.hot_catalog.proofs.Placed.{replaced}
use Rattle.hot_catalog.specs.Catalogs.{with_kind}
use Rattle.type_catalog.specs.declared.kind.KindDef.{KindDef}
use Rattle.hot_catalog.proofs.kinds.put_kind.Goals as goal

pub returns-then-eq-clause-items : goal.returns-then-eq-clause-items
returns-then-eq-clause-items c =
    let told = rw (c.as_str.ensures.value, c.as_str-in-loop-i.ensures.value) at (sym c.eq.ensures ∙ c.if-eq.true) in
    sym (
    sym (ap (λ v. with_kind c.args.kind v.items) c.loop-i.invariant.0)
    ∙ c.loop-i.invariant.1
    ∙ replaced c.args.kind c.loop-i.kinds.items c.loop-i.i c.index.result.now
    (omega (arith, c.loop-i-test.true, c.len-i-end.ensures, ap (λ v. length v.items) c.loop-i.invariant.0))
    c.index.ensures told)

pub returns-then-eq-clause-length : goal.returns-then-eq-clause-length
returns-then-eq-clause-length c =
    let same : c.loop-i.kinds.len ≡ vec_len c.args.kinds.now = ap (λ v. vec_len v) c.loop-i.invariant.0 in
    omega (arith, same)
