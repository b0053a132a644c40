-- The closure compares a record's key with the one that is wanted.
use Rattle.std.proofs.Common.{rules, of_calls}
use Rattle.std.proofs.lemmas.Fn.{always_returns_same}
use Rattle.keyed_table.proofs.SortedPlaces.{place_found}
use Rattle.keyed_table.proofs.sorted_list.place_of.Goals as goal

pub returns-clause-place : goal.returns-clause-place
returns-clause-place g c =
    let facts = c.binary_search_by.ensures in
    let by_key = facts.position (λ x. g.T.Ordered.order (g.T.Ordered.key_of x) c.args.key.now)
    (always_returns_same _ _ _ (λ a r f k. search (rules, of_calls))) in
    rw (← c.deref.ensures.value)
    (place_found g.T.Ordered.order g.T.Ordered.key_of g.met.T.Ordered.total c.args.key.now c.deref.result.now _
    (rw c.deref.ensures.value c.requires) facts.bound by_key)
