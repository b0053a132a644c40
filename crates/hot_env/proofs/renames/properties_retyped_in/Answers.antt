use Rattle.std.proofs.Common.{codes, bytes_eq, if◌then◌else◌}
use Rattle.hot_env.specs.Applied.{within, inner_retyped}
use Rattle.hot_env.proofs.Mapped.{each_more}
use Rattle.hot_env.proofs.renames.properties_retyped_in.Goals as goal

pub loop-member-preserved : goal.loop-member-preserved
loop-member-preserved c =
    rw (c.in_ok-put.ensures.ok, c.in_ok-copy.ensures, c.loop-member.invariant) (each_more
    (λ k d. if bytes_eq k (codes "properties") then within (inner_retyped c.args.types.now) d else d)
    c.as_slice-member-items.result.now c.loop-member.member-index c.member-item.result _
    (rw c.as_slice-member-items.ensures.members c.as_slice-member-items.ensures.rising) c.loop-member-test.true
    c.member-item.is c.in_ok-properties_retyped.ensures)
