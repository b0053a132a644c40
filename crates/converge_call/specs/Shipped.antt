-- What stands before the first line, where the shipped kinds and tests are registered.
use Rattle.std.specs.Prelude.{[], ◌∷◌}
use Rattle.type_catalog.specs.Shipped.{box_kind, flavor_test}
use Rattle.converge_call.specs.Stocks.{Stock, first_stock}

-- the kind `Test::Box` and the test `nova.flavor`, and no other
abbrev pub shipped_stock : Stock
shipped_stock = first_stock (box_kind ∷ []) (flavor_test ∷ [])
