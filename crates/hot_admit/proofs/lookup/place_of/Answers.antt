-- The closure compares a member's key with the one that is wanted.
use Rattle.std.proofs.Common.{rules}
use Rattle.std.proofs.lemmas.Fn.{always_returns_same}
use Rattle.std.specs.Ordering.{nat_cmp}
use Rattle.std.specs.Cmp.Lexicographic.{slice_cmp}
use Rattle.heat_value.specs.declared.value.Member.{Member}
use Rattle.heat_value.proofs.Searches.{place_found}
use Rattle.hot_admit.proofs.lookup.place_of.Goals as goal

pub returns-clause-place : goal.returns-clause-place
returns-clause-place c =
    let facts = c.binary_search_by.ensures in
    let by_key = facts.position (λ (m : Member). slice_cmp nat_cmp m.key c.args.key.now)
    (always_returns_same _ _ _ (λ a r f called. (search rules, search rules))) in
    place_found _ c.args.members.now _ c.requires facts.bound by_key
