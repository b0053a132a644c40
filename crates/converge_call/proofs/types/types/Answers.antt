-- The kinds are taken, or the catalogue's first fault noted.
use Rattle.std.proofs.Common.{refl, subst}
use Rattle.heat_value.specs.Meaning.{data_of}
use Rattle.hot_catalog.specs.Catalogs.{IsFaultOf}
use Rattle.hot_catalog.specs.declared.fault.CatalogFault.{CatalogFault}
use Rattle.converge_call.specs.Commands.{taken, not_taken}
use Rattle.converge_call.specs.Stocks as stocks
use Rattle.converge_call.proofs.Carrying.{carries_none}
use Rattle.converge_call.proofs.Lining.{where_well}
use Rattle.converge_call.proofs.Noting.{does_as, nothing_done, nothing_to_do}
use Rattle.converge_call.proofs.types.types.Goals as goal

pub returns-in-Ok-clause-done : goal.returns-in-Ok-clause-done
returns-in-Ok-clause-done g c =
    λ tests. does_as _ _ _ _ _ (λ es it. taken c.in-Ok.ensures.right it) (nothing_to_do _ _ _ refl refl)

pub returns-in-Err-L09-clause-done : goal.returns-in-Err-L09-clause-done
returns-in-Err-L09-clause-done g c =
    λ tests. does_as _ _ _ _ _ (λ es it. not_taken _ (subst (λ (e : CatalogFault).
    IsFaultOf c.args.catalog.now (data_of c.args.given.now) e) c.in-Err-L09.field-0-is c.in-Err-L09.ensures.fault) it)
    c.refuse_at.ensures.done

pub returns-in-Err-L09-clause-kinds : goal.returns-in-Err-L09-clause-kinds
returns-in-Err-L09-clause-kinds g c =
    where_well _ _ (stocks.not_taken _ (subst (λ (e : CatalogFault).
    IsFaultOf c.args.catalog.now (data_of c.args.given.now) e) c.in-Err-L09.field-0-is c.in-Err-L09.ensures.fault)
    c.in-Err-L09.ensures.same)

pub returns-in-Err-Memory-clause-done : goal.returns-in-Err-Memory-clause-done
returns-in-Err-Memory-clause-done g c = λ tests. nothing_done _ _ _ _ refl refl

pub returns-in-Ok-clause-carries : goal.returns-in-Ok-clause-carries
returns-in-Ok-clause-carries g c = carries_none g.K.Keeper.shown g.P.Provider.cloud c.args.book.now

pub returns-in-Ok-clause-halt : goal.returns-in-Ok-clause-halt
returns-in-Ok-clause-halt g c = λ goes. goes

pub returns-in-Err-Memory-clause-carries : goal.returns-in-Err-Memory-clause-carries
returns-in-Err-Memory-clause-carries g c = carries_none g.K.Keeper.shown g.P.Provider.cloud c.args.book.now

pub returns-in-Err-Memory-clause-halt : goal.returns-in-Err-Memory-clause-halt
returns-in-Err-Memory-clause-halt g c = λ goes. goes
