use Rattle.std.proofs.Common.{[], ◌∷◌, map}
use Rattle.core_state.specs.declared.change.Change.TheVariants.{Enlist, Numbers, Release}
use Rattle.snapshot_codec.specs.Puts.{HasPut}
use Rattle.snapshot_codec.proofs.Putting.{one_put, then_put}
use Rattle.snapshot_codec.proofs.puts.put_last.Goals as goal

pub returns : goal.returns
returns c =
    let s = c.args.s.now.state in
    let live : HasPut (map Enlist s.live) c.args.sheet.now c.put_each.new.sheet = rw (← c.live.ensures) c.put_each.ensures in
    let released : HasPut (map Release s.released) c.put_each.new.sheet c.put_each-2.new.sheet =
    rw (← c.released.ensures) c.put_each-2.ensures in
    let next : HasPut (Numbers s.next ∷ []) c.put_each-2.new.sheet c.put_bringing.new.sheet =
    rw (← c.next.ensures) (one_put _ _ _ c.put_bringing.ensures.bytes c.put_bringing.ensures.proper) in
    then_put live (then_put released next)
