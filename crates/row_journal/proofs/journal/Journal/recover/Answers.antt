use Rattle.std.proofs.Common.{◌≡◌, sym, ◌∙◌, subst, Vec, Global, false}
use Rattle.row_journal.specs.declared.records.Payload.{Payload}
use Rattle.row_journal.specs.Openings.{HasOpened, Survives, SurvivesNamed, StaysUnsynced}
use Rattle.row_journal.specs.Shown.{JournalData}
use Rattle.row_journal.proofs.Named.{named}
use Rattle.row_journal.proofs.journal.Journal.recover.Goals as goal

pub returns-in-Err-Disk-clause-failed : goal.returns-in-Err-Disk-clause-failed
returns-in-Err-Disk-clause-failed g c d same tells =
    let old = g.D.Disk.shown c.args.disk in
    let is_d : c.take_up.new.disk ≡ d = cc in
    let survives = c.take_up.ensures.any_moment tells in
    subst (λ (e : g.row.D.Denot). Survives old (g.D.Disk.shown e) × SurvivesNamed old (g.D.Disk.shown e) × StaysUnsynced old (g.D.Disk.shown e)) is_d
    (survives, named old (g.D.Disk.shown c.take_up.new.disk) (g.met.D.Disk.lawful c.args.disk tells) survives, c.take_up.ensures.unsynced tells)

pub returns-in-Ok-clause-opened : goal.returns-in-Ok-clause-opened
returns-in-Ok-clause-opened g c j v same tells =
    let old = g.D.Disk.shown c.args.disk in
    let new = g.D.Disk.shown c.take_up.new.disk in
    let made : JournalData g.row.D.Denot = record { disk = c.take_up.new.disk; place = c.in-Ok.found.place; room = c.new.result.room; failed = false } in
    let is_j : made ≡ j = cc in
    let is_v : c.in-Ok.found.payloads ≡ v = cc in
    let survives = c.take_up.ensures.any_moment tells in
    subst (λ (k : JournalData g.row.D.Denot). HasOpened old (g.D.Disk.shown k.disk) k.place v.items × Survives old (g.D.Disk.shown k.disk) × SurvivesNamed old (g.D.Disk.shown k.disk)) is_j
    (subst (λ (w : Vec Payload Global). HasOpened old new c.in-Ok.found.place w.items × Survives old new × SurvivesNamed old new) is_v
    (c.in-Ok.ensures.taken tells, survives, named old new (g.met.D.Disk.lawful c.args.disk tells) survives))

pub invariant_of-journal : goal.invariant_of-journal
invariant_of-journal g c going tells =
    let it = c.in-Ok.ensures.taken (sym c.take_up.ensures.tells ∙ tells) in
    record { image = it.image; numbers = it.numbers; ready = it.ready }
