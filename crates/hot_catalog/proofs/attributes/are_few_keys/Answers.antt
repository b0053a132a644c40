use Rattle.std.proofs.Common.{◌∙◌, ap, sym, nat_le, length}
use Rattle.heat_value.specs.Data.{keys_of}
use Rattle.hot_catalog.proofs.NamesPut.{keys_count}
use Rattle.hot_catalog.proofs.attributes.are_few_keys.Goals as goal

pub returns : goal.returns
returns c =
    ap (λ n. nat_le n 64)
    (sym (keys_count c.as_slice.result.now) ∙ ap (λ ms. length (keys_of ms)) c.as_slice.ensures.members)
