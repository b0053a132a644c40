use Rattle.std.proofs.Common.{◌≡◌, ◌≤◌, length, get_or, sym, ◌∙◌, ap, arith}
use Rattle.heat_disk.specs.Halves.{Pair, part}
use Rattle.row_journal.proofs.Runs.{reads_on}
use Rattle.row_journal.proofs.Shut.{after_gate}
use Rattle.row_journal.proofs.snapshots.shut_gate.Goals as goal

pub returns-then-branch-eq1-clause-any_moment : goal.returns-then-branch-eq1-clause-any_moment
returns-then-branch-eq1-clause-any_moment g c tells =
    let old = g.D.Disk.shown c.args.disk.now in
    let measured = g.D.Disk.shown c.len.new.self in
    let looked = g.D.Disk.shown c.gate_of.new.disk in
    let law = g.met.D.Disk.lawful c.args.disk.now tells in
    let told = c.len.ensures.tells ∙ tells in
    let told_looked = c.gate_of.ensures.tells ∙ told in
    let same = (c.len.ensures.content tells).alike in
    let long : 17 ≤ length (part c.args.half old.seen) = omega (arith, c.if-branch-lt17.false, (c.in_ok-len.ensures.content tells).len) in
    let long_still : 17 ≤ length (part c.args.half measured.seen) = omega (arith, long, ap (λ (p : Pair). length (part c.args.half p)) same.seen) in
    let is_open : get_or (part c.args.half old.seen) 16 0 ≡ 1 =
    ap (λ (p : Pair). get_or (part c.args.half p) 16 0) (sym same.seen) ∙ sym (c.in_ok-gate_of.ensures.gate told long_still) ∙ c.if-branch-eq1.true in
    after_gate c.args.half old law (c.requires.durable tells) looked (reads_on old measured looked law same (c.gate_of.ensures.alike told)) long is_open
    (g.D.Disk.shown c.write_at-then-branch-eq1.new.self) c.write_at-then-branch-eq1.result (c.write_at-then-branch-eq1.ensures.content told_looked)
