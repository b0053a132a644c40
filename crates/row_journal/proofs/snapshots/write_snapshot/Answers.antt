use Rattle.std.proofs.Common.{◌≡◌, ◌+◌, ◌<◌, ◌^◌, sym, ◌∙◌, ap, arith}
use Rattle.row_journal.specs.declared.place.Place.{Place}
use Rattle.row_journal.specs.Mends.{other}
use Rattle.row_journal.proofs.Recordings.{on_ok}
use Rattle.row_journal.proofs.Turning.{reaches, shut_leaves, shut_unsynced, fill_leaves, fill_unsynced, open_leaves, open_unsynced, open_ready}
use Rattle.row_journal.proofs.snapshots.write_snapshot.Goals as goal

pub open-requires-clause-at : goal.open-requires-clause-at
open-requires-clause-at g c told_filled =
    let told = sym c.fill.ensures.tells ∙ told_filled in
    reaches c.other-half.result (c.args.place.epoch + 1) c.args.record_bytes.now (g.D.Disk.shown c.shut.new.disk).seen (g.D.Disk.shown c.fill.new.disk) (c.in_ok-fill.ensures.filled told)

pub returns-in_err-shut-clause-any_moment : goal.returns-in_err-shut-clause-any_moment
returns-in_err-shut-clause-any_moment g c tells image payload is ready sized bytes =
    let small : image.epoch + 1 < 2 ^ 64 = omega (arith, c.requires.young, ap (λ (p : Place). p.epoch) is) in
    let here : c.other-half.result ≡ other image.half = c.other-half.ensures ∙ ap (λ (p : Place). other p.half) is in
    shut_leaves image payload sized small c.args.record_bytes.now bytes c.other-half.result here (c.args.place.epoch + 1) (ap (λ (p : Place). p.epoch + 1) is) (g.D.Disk.shown c.args.disk.now) ready
    (g.D.Disk.shown c.shut.new.disk) (c.shut.ensures.any_moment tells)

pub returns-in_err-fill-clause-any_moment : goal.returns-in_err-fill-clause-any_moment
returns-in_err-fill-clause-any_moment g c tells image payload is ready sized bytes =
    let small : image.epoch + 1 < 2 ^ 64 = omega (arith, c.requires.young, ap (λ (p : Place). p.epoch) is) in
    let here : c.other-half.result ≡ other image.half = c.other-half.ensures ∙ ap (λ (p : Place). other p.half) is in
    let told = c.shut.ensures.tells ∙ tells in
    fill_leaves image payload sized small c.args.record_bytes.now bytes c.other-half.result here (c.args.place.epoch + 1) (ap (λ (p : Place). p.epoch + 1) is) (g.D.Disk.shown c.args.disk.now) ready
    (g.D.Disk.shown c.shut.new.disk) (g.met.D.Disk.lawful c.shut.new.disk told) (c.shut.ensures.any_moment tells) (c.in_ok-shut.ensures.shut tells)
    (g.D.Disk.shown c.fill.new.disk) (c.fill.ensures.any_moment told)

pub returns-clause-any_moment : goal.returns-clause-any_moment
returns-clause-any_moment g c tells image payload is ready sized bytes =
    let small : image.epoch + 1 < 2 ^ 64 = omega (arith, c.requires.young, ap (λ (p : Place). p.epoch) is) in
    let here : c.other-half.result ≡ other image.half = c.other-half.ensures ∙ ap (λ (p : Place). other p.half) is in
    let told = c.shut.ensures.tells ∙ tells in
    let told_filled = c.fill.ensures.tells ∙ told in
    let it = c.in_ok-fill.ensures.filled told in
    open_leaves image payload sized small c.args.record_bytes.now bytes c.other-half.result here (c.args.place.epoch + 1) (ap (λ (p : Place). p.epoch + 1) is) (g.D.Disk.shown c.args.disk.now) ready
    (g.D.Disk.shown c.shut.new.disk) (g.met.D.Disk.lawful c.shut.new.disk told) (c.shut.ensures.any_moment tells) (c.in_ok-shut.ensures.shut tells)
    (g.D.Disk.shown c.fill.new.disk) (c.fill.ensures.any_moment told)
    (g.D.Disk.shown c.open.new.disk) (c.open.ensures.any_moment told_filled (c.args.place.epoch + 1) it.gate c.args.record_bytes.now (g.D.Disk.shown c.shut.new.disk).seen it.filled)

pub returns-clause-ready : goal.returns-clause-ready
returns-clause-ready g c tells image payload is ready sized bytes =
    let small : image.epoch + 1 < 2 ^ 64 = omega (arith, c.requires.young, ap (λ (p : Place). p.epoch) is) in
    let here : c.other-half.result ≡ other image.half = c.other-half.ensures ∙ ap (λ (p : Place). other p.half) is in
    let told = c.shut.ensures.tells ∙ tells in
    let told_filled = c.fill.ensures.tells ∙ told in
    let it = c.in_ok-fill.ensures.filled told in
    on_ok c.open.result
    (open_ready image payload sized small c.args.record_bytes.now bytes c.other-half.result here (c.args.place.epoch + 1) (ap (λ (p : Place). p.epoch + 1) is) (g.D.Disk.shown c.args.disk.now) ready
    (g.D.Disk.shown c.shut.new.disk) (g.met.D.Disk.lawful c.shut.new.disk told) (c.shut.ensures.any_moment tells) (c.in_ok-shut.ensures.shut tells)
    (g.D.Disk.shown c.fill.new.disk) (c.fill.ensures.any_moment told)
    (g.D.Disk.shown c.open.new.disk))
    (c.open.ensures.opened told_filled (c.args.place.epoch + 1) it.gate c.args.record_bytes.now (g.D.Disk.shown c.shut.new.disk).seen it.filled)

pub returns-in_err-shut-clause-unsynced : goal.returns-in_err-shut-clause-unsynced
returns-in_err-shut-clause-unsynced g c tells image payload is ready sized bytes =
    let small : image.epoch + 1 < 2 ^ 64 = omega (arith, c.requires.young, ap (λ (p : Place). p.epoch) is) in
    let here : c.other-half.result ≡ other image.half = c.other-half.ensures ∙ ap (λ (p : Place). other p.half) is in
    shut_unsynced image payload sized small c.args.record_bytes.now bytes c.other-half.result here (c.args.place.epoch + 1) (ap (λ (p : Place). p.epoch + 1) is) (g.D.Disk.shown c.args.disk.now) ready
    (g.D.Disk.shown c.shut.new.disk) (g.met.D.Disk.lawful c.shut.new.disk (c.shut.ensures.tells ∙ tells)) (c.shut.ensures.any_moment tells)

pub returns-in_err-fill-clause-unsynced : goal.returns-in_err-fill-clause-unsynced
returns-in_err-fill-clause-unsynced g c tells image payload is ready sized bytes =
    let small : image.epoch + 1 < 2 ^ 64 = omega (arith, c.requires.young, ap (λ (p : Place). p.epoch) is) in
    let here : c.other-half.result ≡ other image.half = c.other-half.ensures ∙ ap (λ (p : Place). other p.half) is in
    let told = c.shut.ensures.tells ∙ tells in
    fill_unsynced image payload sized small c.args.record_bytes.now bytes c.other-half.result here (c.args.place.epoch + 1) (ap (λ (p : Place). p.epoch + 1) is) (g.D.Disk.shown c.args.disk.now) ready
    (g.D.Disk.shown c.shut.new.disk) (g.met.D.Disk.lawful c.shut.new.disk told) (c.shut.ensures.any_moment tells) (c.in_ok-shut.ensures.shut tells)
    (g.D.Disk.shown c.fill.new.disk) (g.met.D.Disk.lawful c.fill.new.disk (c.fill.ensures.tells ∙ told)) (c.fill.ensures.any_moment told)

pub returns-clause-unsynced : goal.returns-clause-unsynced
returns-clause-unsynced g c tells image payload is ready sized bytes =
    let small : image.epoch + 1 < 2 ^ 64 = omega (arith, c.requires.young, ap (λ (p : Place). p.epoch) is) in
    let here : c.other-half.result ≡ other image.half = c.other-half.ensures ∙ ap (λ (p : Place). other p.half) is in
    let told = c.shut.ensures.tells ∙ tells in
    let told_filled = c.fill.ensures.tells ∙ told in
    let it = c.in_ok-fill.ensures.filled told in
    open_unsynced image payload sized small c.args.record_bytes.now bytes c.other-half.result here (c.args.place.epoch + 1) (ap (λ (p : Place). p.epoch + 1) is) (g.D.Disk.shown c.args.disk.now) ready
    (g.D.Disk.shown c.shut.new.disk) (g.met.D.Disk.lawful c.shut.new.disk told) (c.shut.ensures.any_moment tells) (c.in_ok-shut.ensures.shut tells)
    (g.D.Disk.shown c.fill.new.disk) (c.fill.ensures.any_moment told)
    (g.D.Disk.shown c.open.new.disk) (g.met.D.Disk.lawful c.open.new.disk (c.open.ensures.tells ∙ told_filled)) (c.open.ensures.any_moment told_filled (c.args.place.epoch + 1) it.gate c.args.record_bytes.now (g.D.Disk.shown c.shut.new.disk).seen it.filled)
