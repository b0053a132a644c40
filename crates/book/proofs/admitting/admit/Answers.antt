-- The comparison is with what the cloud listed.
use Rattle.std.proofs.Common.{List, subst, sym}
use Rattle.provider.specs.Calls.{Lists}
use Rattle.provider.specs.declared.alive.Alive.{Alive}
use Rattle.book.proofs.admitting.admit.Goals as goal

pub returns-in-Got : goal.returns-in-Got
returns-in-Got g c = c.compared.ensures _ _ (subst (λ (all : List Alive). Lists all (g.P.Provider.cloud c.args.cloud.now)
    (g.P.Provider.cloud c.list.new.self)) (sym c.as_slice.ensures) (c.list.ensures.got c.in-Got.all c.in-Got.is))
