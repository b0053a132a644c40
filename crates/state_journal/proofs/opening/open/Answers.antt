-- End by end.
use Rattle.std.proofs.Common.{◌∙◌, Err, ap, arith, refl, subst}
use Rattle.std.specs.Prelude.{IsTrue}
use Rattle.step_relation.specs.Images.{IsTied}
use Rattle.state_journal.specs.Unique.{holds_one}
use Rattle.state_journal.proofs.Fitting.{give_fits}
use Rattle.state_journal.proofs.Opened.{is_true, refused, rose_since, taken_up, unopened}
use Rattle.state_journal.proofs.opening.open.Goals as goal

pub returns-in-Err : goal.returns-in-Err
returns-in-Err g c =
    let same = rw c.close.ensures.disk at c.in-Err.ensures.same in
    let foreign = rw c.close.ensures.disk at c.in-Err.ensures.foreign in
    refused _ _ (g.met.D.Disk.lawful c.args.journal.now.disk) same.tells same.later c.in-Err.fault
    (rw c.close.ensures.disk at c.in-Err.ensures.alike) (c.in-Err.ensures.failed ∙ c.close.ensures.closed)
    (λ is told s may read tied. foreign (ap Err is) told s (may told).holds)
    (λ is. (rw c.close.ensures.disk at c.in-Err.ensures.cause) (ap Err is))

pub returns-in-Ok-false : goal.returns-in-Ok-false
returns-in-Ok-false g c =
    let same = rw c.close.ensures.disk at c.in-Ok.ensures.same in
    let its = rw c.close.ensures.disk at c.in-Ok.ensures.read in
    refused _ _ (g.met.D.Disk.lawful c.args.journal.now.disk) same.tells same.later _
    (rw c.close.ensures.disk at c.in-Ok.ensures.alike) (c.in-Ok.ensures.failed ∙ c.close.ensures.closed)
    (λ is told s may read tied.
    let yes : IsTrue c.in-Ok-false.field-0 = c.in-Ok-false.ensures.1 (subst IsTied
    (holds_one (g.D.Disk.shown c.args.journal.now.disk).seen s c.in-Ok.state.state (may told).holds (its told).holds)
    tied) in
    let no = c.in-Ok-false.field-0-test in cc)
    (λ is. absurd (let no : ⊥ = cc in no))

pub returns-in-Err-is_tied : goal.returns-in-Err-is_tied
returns-in-Err-is_tied g c =
    let same = rw c.close.ensures.disk at c.in-Ok.ensures.same in
    refused _ _ (g.met.D.Disk.lawful c.args.journal.now.disk) same.tells same.later _
    (rw c.close.ensures.disk at c.in-Ok.ensures.alike) (c.in-Ok.ensures.failed ∙ c.close.ensures.closed)
    (λ is. absurd (let no : ⊥ = cc in no)) (λ is. absurd (let no : ⊥ = cc in no))

pub returns-in-Ok-open : goal.returns-in-Ok-open
returns-in-Ok-open g c =
    let same = rw c.close.ensures.disk at c.in-Ok.ensures.same in
    let then = c.in-Ok-open.ensures.same in
    taken_up _ _ (g.met.D.Disk.lawful c.args.journal.now.disk) (then.tells ∙ same.tells)
    (omega (arith, same.later, then.later)) (g.D.Disk.shown c.look.new.journal.disk)
    (rw c.close.ensures.disk at c.in-Ok.ensures.alike)
    (λ told. c.in-Ok-open.ensures.time (same.tells ∙ told)) (λ told. c.in-Ok-open.ensures.any_moment (same.tells ∙ told))
    c.in-Ok.state.state (rw c.close.ensures.disk at c.in-Ok.ensures.read) (c.in-Ok-open.ensures.going.1 refl)
    (give_fits c.in-Ok.ensures.given.0 c.in-Ok.state.state c.in-Ok.ensures.given.1)
    (c.in-Ok-true.ensures.0 c.in-Ok-true.field-0-test) c.in-Ok-open.field-0.payloads.items
    (λ told. c.in-Ok-open.ensures.opened (same.tells ∙ told)) c.in-Ok.state.spare

pub returns-in-Err-open : goal.returns-in-Err-open
returns-in-Err-open g c =
    let same = rw c.close.ensures.disk at c.in-Ok.ensures.same in
    let then = c.in-Err-open.ensures.same in
    rw c.fault_of.ensures
    (unopened _ _ (g.met.D.Disk.lawful c.args.journal.now.disk) (then.tells ∙ same.tells)
    (omega (arith, same.later, then.later)) (g.D.Disk.shown c.look.new.journal.disk)
    (rw c.close.ensures.disk at c.in-Ok.ensures.alike)
    (λ told. c.in-Err-open.ensures.time (same.tells ∙ told))
    (λ told. c.in-Err-open.ensures.any_moment (same.tells ∙ told)) c.in-Ok.state.state
    (rw c.close.ensures.disk at c.in-Ok.ensures.read) c.in-Err-open.fault
    (is_true _ (λ no. let ok = c.in-Err-open.ensures.going.0 no in cc))
    (λ is. rose_since _ _ _ same.later (c.in-Err-open.ensures.cause (rw is refl)))
    (λ is told. c.in-Err-open.ensures.foreign (same.tells ∙ told) (rw is refl))
    (λ is told. c.in-Err-open.ensures.memory (same.tells ∙ told) (rw is refl)))
