use Rattle.std.proofs.Common.{rules, of_calls}
use Rattle.std.proofs.lemmas.Fn.{always_returns_same}
use Rattle.keyed_table.specs.Orders.{passes_at}
use Rattle.keyed_table.proofs.Searches.{searched}
use Rattle.keyed_table.proofs.table.start_of.Goals as goal

pub returns : goal.returns
returns g c = searched g.T.Keyed.key_of g.T.Keyed.below (λ k. g.T.Keyed.below k c.args.key.now) c.args.items.now c.args.places.now.items _ c.requires
    (λ a b lt t. g.met.T.Keyed.sorts.onward a b c.args.key.now lt t) c.as_slice.result.now c.as_slice.ensures c.partition_point.result c.partition_point.ensures.bound
    (c.partition_point.ensures.partitioned (passes_at (λ x. g.T.Keyed.below (g.T.Keyed.key_of x) c.args.key.now) c.args.items.now)
    (always_returns_same _ _ _ (λ a r f k. search (rules, of_calls))))
