use Rattle.hot_params.proofs.Allowed.{texts_rise, found, missed}
use Rattle.hot_params.proofs.strings.is_listed.Goals as goal

pub returns-in-Ok : goal.returns-in-Ok
returns-in-Ok c =
    found c.args.strings.now c.args.text.now c.in-Ok.field-0 (rw c.in-Ok.is at c.binary_search.ensures.bound)
    (rw c.in-Ok.is at c.binary_search.ensures.position)

pub returns-in-Err : goal.returns-in-Err
returns-in-Err c =
    missed c.args.strings.now c.args.text.now c.in-Err.field-0
    ((rw c.in-Err.is at c.binary_search.ensures.position) (texts_rise c.args.strings.now c.args.text.now c.requires))
