use Rattle.heat_value.specs.Meaning.{data_of}
use Rattle.hot_params.proofs.Faults.{none_is}
use Rattle.hot_params.proofs.Sames.{member_is}
use Rattle.hot_params.proofs.values.is_member.Goals as goal

pub returns-in-Some : goal.returns-in-Some
returns-in-Some c =
    member_is c.args.sort c.requires (data_of c.args.member.now) c.in-Some.found c.args.value.now c.equals.result
    c.equals.ensures (rw c.in-Some.is at c.in_ok-found.ensures)

pub returns-in-None : goal.returns-in-None
returns-in-None c =
    none_is c.args.sort (data_of c.args.member.now) (data_of c.args.value.now) c.in_ok-found.field-0 c.in-None.is
    c.in_ok-found.ensures
