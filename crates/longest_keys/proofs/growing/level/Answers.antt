use Rattle.std.proofs.Common.{◌+◌, List, drop, map, subst, arith}
use Rattle.longest_keys.specs.Growing.{IsRead}
use Rattle.longest_keys.specs.declared.growing.Cursor.{Cursor}
use Rattle.longest_keys.proofs.Lists.{drop_one}
use Rattle.longest_keys.proofs.growing.level.Goals as goal

pub read_one-requires : goal.read_one-requires
read_one-requires c =
    let cut = drop_one c.args.cursors.now c.loop-i.i (c.loop-i.i + 1) (record { key = 0; node = 0 }) (omega arith) c.loop-i-test.true in
    record {
      read = (
        drop (c.loop-i.i + 1) c.args.cursors.now,
        subst (λ (cs : List Cursor). IsRead (map (λ k. k.now) c.args.keys.now) c.args.depth cs c.loop-i.next.items c.loop-i.nodes.items c.loop-i.ends.items) cut c.loop-i.invariant,
      );
    }

pub loop-i-preserved : goal.loop-i-preserved
loop-i-preserved c =
    let cut = drop_one c.args.cursors.now c.loop-i.i (c.loop-i.i + 1) (record { key = 0; node = 0 }) (omega arith) c.loop-i-test.true in
    c.in_ok-read_one.ensures (drop (c.loop-i.i + 1) c.args.cursors.now)
    (subst (λ (cs : List Cursor). IsRead (map (λ k. k.now) c.args.keys.now) c.args.depth cs c.loop-i.next.items c.loop-i.nodes.items c.loop-i.ends.items) cut c.loop-i.invariant)
