use Rattle.std.proofs.Common.{◌≡◌, List, ℕ, ◌∙◌, subst}
use Rattle.heat_disk.specs.Calls.{Writes}
use Rattle.heat_disk.specs.Halves.{changed}
use Rattle.heat_disk.specs.Images.{overwritten}
use Rattle.row_journal.proofs.Staged.{after_header, after_record, after_sync, is_filled}
use Rattle.row_journal.proofs.snapshots.fill.Goals as goal

pub returns-in_err-write_at-clause-any_moment : goal.returns-in_err-write_at-clause-any_moment
returns-in_err-write_at-clause-any_moment g c tells =
    let old = g.D.Disk.shown c.args.disk.now in
    let first = g.D.Disk.shown c.write_at.new.self in
    (after_header c.args.half c.args.epoch c.args.record_bytes.now old (g.met.D.Disk.lawful c.args.disk.now tells) (c.requires.shut tells) first c.write_at.result
    (subst (λ (b : List ℕ). Writes c.args.half 0 b c.write_at.result old first) c.header.ensures (c.write_at.ensures.content tells))).leaves

pub returns-in_err-write_at-2-clause-any_moment : goal.returns-in_err-write_at-2-clause-any_moment
returns-in_err-write_at-2-clause-any_moment g c tells =
    let told = c.write_at.ensures.tells ∙ tells in
    let old = g.D.Disk.shown c.args.disk.now in
    let first = g.D.Disk.shown c.write_at.new.self in
    (after_record c.args.half c.args.epoch c.args.record_bytes.now old (g.met.D.Disk.lawful c.args.disk.now tells) (c.requires.shut tells) first c.write_at.result
    (subst (λ (b : List ℕ). Writes c.args.half 0 b c.write_at.result old first) c.header.ensures (c.write_at.ensures.content tells))
    (subst (λ (b : List ℕ). first.seen ≡ changed c.args.half (overwritten 0 b) old.seen) c.header.ensures (c.in_ok-write_at.ensures.content tells).written)
    (g.D.Disk.shown c.write_at-2.new.self) c.write_at-2.result (c.write_at-2.ensures.content told)).leaves

pub returns-clause-any_moment : goal.returns-clause-any_moment
returns-clause-any_moment g c tells =
    let told = c.write_at.ensures.tells ∙ tells in
    let told_second = c.write_at-2.ensures.tells ∙ told in
    let old = g.D.Disk.shown c.args.disk.now in
    let first = g.D.Disk.shown c.write_at.new.self in
    (after_sync c.args.half c.args.epoch c.args.record_bytes.now old (g.met.D.Disk.lawful c.args.disk.now tells) (c.requires.shut tells) first c.write_at.result
    (subst (λ (b : List ℕ). Writes c.args.half 0 b c.write_at.result old first) c.header.ensures (c.write_at.ensures.content tells))
    (subst (λ (b : List ℕ). first.seen ≡ changed c.args.half (overwritten 0 b) old.seen) c.header.ensures (c.in_ok-write_at.ensures.content tells).written)
    (g.D.Disk.shown c.write_at-2.new.self) c.write_at-2.result (c.write_at-2.ensures.content told)
    (g.D.Disk.shown c.sync.new.self) c.sync.result (c.sync.ensures.content told_second)).leaves

pub returns-clause-filled : goal.returns-clause-filled
returns-clause-filled g c tells =
    let told = c.write_at.ensures.tells ∙ tells in
    let told_second = c.write_at-2.ensures.tells ∙ told in
    let old = g.D.Disk.shown c.args.disk.now in
    let first = g.D.Disk.shown c.write_at.new.self in
    is_filled c.args.half c.args.epoch c.args.record_bytes.now old (g.met.D.Disk.lawful c.args.disk.now tells) (c.requires.shut tells) first c.write_at.result
    (subst (λ (b : List ℕ). Writes c.args.half 0 b c.write_at.result old first) c.header.ensures (c.write_at.ensures.content tells))
    (subst (λ (b : List ℕ). first.seen ≡ changed c.args.half (overwritten 0 b) old.seen) c.header.ensures (c.in_ok-write_at.ensures.content tells).written)
    (g.D.Disk.shown c.write_at-2.new.self) c.write_at-2.result (c.write_at-2.ensures.content told)
    (g.D.Disk.shown c.sync.new.self) c.sync.result (c.sync.ensures.content told_second) (c.in_ok-write_at-2.ensures.content told).written
