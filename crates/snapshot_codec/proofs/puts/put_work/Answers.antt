use Rattle.std.proofs.Common.{map}
use Rattle.core_state.specs.declared.change.Change.TheVariants.{PutJob, PutRow, Send}
use Rattle.snapshot_codec.specs.Puts.{HasPut}
use Rattle.snapshot_codec.proofs.Putting.{then_put}
use Rattle.snapshot_codec.proofs.puts.put_work.Goals as goal

pub returns : goal.returns
returns c =
    let s = c.args.s.now.state in
    let rows : HasPut (map PutRow s.rows) c.args.sheet.now c.put_each.new.sheet = rw (← c.rows.ensures) c.put_each.ensures in
    let letters : HasPut (map Send s.letters) c.put_each.new.sheet c.put_each-2.new.sheet =
    rw (← c.letters.ensures) c.put_each-2.ensures in
    let jobs : HasPut (map PutJob s.jobs) c.put_each-2.new.sheet c.put_each-3.new.sheet =
    rw (← c.jobs.ensures) c.put_each-3.ensures in
    then_put rows (then_put letters jobs)
