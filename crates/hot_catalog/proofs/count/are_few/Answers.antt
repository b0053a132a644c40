use Rattle.std.proofs.Common.{◌∙◌, ◌+◌, ap, sym, nat_le, length}
use Rattle.heat_value.specs.Data.{keys_of}
use Rattle.hot_catalog.proofs.NamesPut.{keys_count}
use Rattle.hot_catalog.proofs.count.are_few.Goals as goal

pub returns-clause-exact : goal.returns-clause-exact
returns-clause-exact c =
    ap (λ n. nat_le (c.args.registered + (n + c.others.result)) 256)
    (sym (keys_count c.as_slice.result.now) ∙ ap (λ ms. length (keys_of ms)) c.as_slice.ensures.members)
    ∙ ap (λ n. nat_le (c.args.registered + (length (keys_of c.args.line.now) + n)) 256) c.others.ensures
