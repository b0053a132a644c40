-- What the program registers stands before the first line.
use Rattle.std.proofs.Common.{◌≡◌, List, [], ◌∷◌, refl, subst}
use Rattle.std.specs.Prelude.{Option}
use Rattle.type_catalog.specs.declared.kind.KindDef.{KindDef}
use Rattle.type_catalog.specs.declared.custom.NamedTest.{NamedTest}
use Rattle.type_catalog.specs.Shipped.{box_kind, flavor_test}
use Rattle.record_keeper.specs.Shown.{ShownKeeper}
use Rattle.book.specs.declared.halting.Halt.{Halt}
use Rattle.driver.specs.Scenes.{Scene}
use Rattle.converge_call.specs.declared.exit.Exit.{Exit}
use Rattle.converge_call.specs.Ends.{HasDriven, Outside, by_memory}
use Rattle.converge_call.specs.Stocks.{Stock, first_stock}
use Rattle.converge_call.specs.Shipped.{shipped_stock}
use Rattle.converge_call.proofs.Handing.{around_same}
use Rattle.converge_call.proofs.shipped.converge_shipped.Goals as goal

first_is : (kinds : List KindDef) (tests : List NamedTest) → kinds ≡ box_kind ∷ [] → tests ≡ flavor_test ∷ []
    → first_stock kinds tests ≡ shipped_stock
first_is kinds tests registered named = rw (registered, named) refl

driven_from : (t u : Stock) (origin keeper : ShownKeeper) (first last : Scene) (halt : Option Halt) (old new : Outside)
    (status : Exit) → t ≡ u → HasDriven t origin keeper first last halt old new status
    → HasDriven u origin keeper first last halt old new status
driven_from t u origin keeper first last halt old new status same it =
    subst (λ (s : Stock). HasDriven s origin keeper first last halt old new status) same it

pub returns-in-Ok-shipped_registry-clause-driven : goal.returns-in-Ok-shipped_registry-clause-driven
returns-in-Ok-shipped_registry-clause-driven g c b is =
    driven_from _ _ _ _ _ _ _ _ _ _
    (first_is _ _ c.in-Ok-shipped_registry.ensures.judges c.in-Ok-shipped_registry.ensures.customs)
    (c.converge.ensures.driven b is)

pub returns-in_default-clause-unopened : goal.returns-in_default-clause-unopened
returns-in_default-clause-unopened g c k p is = by_memory c.unopened.ensures.status
    (around_same _ _ _ _ (let both = c.unopened.ensures.end in cc) (let both = c.unopened.ensures.end in cc))

pub returns-in_default-2-clause-unopened : goal.returns-in_default-2-clause-unopened
returns-in_default-2-clause-unopened g c k p is = by_memory c.unopened-in_default-2.ensures.status
    (around_same _ _ _ _ (let both = c.unopened-in_default-2.ensures.end in cc) (let both = c.unopened-in_default-2.ensures.end in cc))

pub returns-in-Err-clause-unopened : goal.returns-in-Err-clause-unopened
returns-in-Err-clause-unopened g c k p is = by_memory c.unopened-in-Err.ensures.status
    (around_same _ _ _ _ (let both = c.unopened-in-Err.ensures.end in cc) (let both = c.unopened-in-Err.ensures.end in cc))
