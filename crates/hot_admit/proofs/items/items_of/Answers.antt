-- Each turn adds the item of a resource that is wanted.
use Rattle.std.proofs.Common.{true}
use Rattle.hot_admit.proofs.Chosen.{rising_marked}
use Rattle.hot_admit.proofs.Each.{fit_at, names_fit}
use Rattle.hot_admit.specs.Basis.{basis_data}
use Rattle.hot_admit.proofs.items.items_of.Goals as goal

pub names_where-requires-clause-names : goal.names_where-requires-clause-names
names_where-requires-clause-names c = names_fit (basis_data c.args.basis.now) _ c.requires.fit

pub item_of-requires-clause-fit : goal.item_of-requires-clause-fit
item_of-requires-clause-fit c =
    fit_at (basis_data c.args.basis.now) c.args.basis.now.resources.now c.loop-place.place c.res-item.result
    c.requires.fit
    c.loop-place-test.true c.res-item.is

pub item_of-requires-clause-order : goal.item_of-requires-clause-order
item_of-requires-clause-order c =
    rw (c.as_slice.ensures, c.in_ok-names.ensures) (rising_marked true _ _ c.args.basis.now.rising)
