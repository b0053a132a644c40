use Rattle.std.proofs.Common.{rules, sym, ◌∙◌, arith}
use Rattle.row_journal.specs.Forms.{IsSized}
use Rattle.row_journal.specs.Snapshots.{fresh_snapshot}
use Rattle.row_journal.proofs.journal.Journal.snapshot.Goals as goal

pub returns-in_err-write_snapshot-clause-any_moment : goal.returns-in_err-write_snapshot-clause-any_moment
returns-in_err-write_snapshot-clause-any_moment g c =
    let small : IsSized c.args.bytes.now = omega (arith, c.requires.reserved.small) in
    rw (← c.self.view_is) (λ tells image is ready. c.write_snapshot.ensures.any_moment tells image c.args.bytes.now is ready small (c.as_slice.ensures ∙ c.fill.ensures.bytes))

pub returns-clause-any_moment : goal.returns-clause-any_moment
returns-clause-any_moment g c =
    let small : IsSized c.args.bytes.now = omega (arith, c.requires.reserved.small) in
    rw (← c.self.view_is) (λ tells image is ready. c.write_snapshot.ensures.any_moment tells image c.args.bytes.now is ready small (c.as_slice.ensures ∙ c.fill.ensures.bytes))

pub returns-in_err-write_snapshot-clause-unsynced : goal.returns-in_err-write_snapshot-clause-unsynced
returns-in_err-write_snapshot-clause-unsynced g c =
    let small : IsSized c.args.bytes.now = omega (arith, c.requires.reserved.small) in
    rw (← c.self.view_is) (λ tells image is ready. c.write_snapshot.ensures.unsynced tells image c.args.bytes.now is ready small (c.as_slice.ensures ∙ c.fill.ensures.bytes))

pub returns-clause-unsynced : goal.returns-clause-unsynced
returns-clause-unsynced g c =
    let small : IsSized c.args.bytes.now = omega (arith, c.requires.reserved.small) in
    rw (← c.self.view_is) (λ tells image is ready. c.write_snapshot.ensures.unsynced tells image c.args.bytes.now is ready small (c.as_slice.ensures ∙ c.fill.ensures.bytes))

pub returns-clause-taken : goal.returns-clause-taken
returns-clause-taken g c =
    let small : IsSized c.args.bytes.now = omega (arith, c.requires.reserved.small) in
    rw (← c.self.view_is) (λ tells image is ready. (
      c.after_snapshot-self-inside.ensures.next image c.args.bytes.now is (search rules),
      c.in_ok-write_snapshot.ensures.ready tells image c.args.bytes.now is ready small (c.as_slice.ensures ∙ c.fill.ensures.bytes),
    ))

pub invariant_of-self-2 : goal.invariant_of-self-2
invariant_of-self-2 g c kept told =
    let tells = sym c.write_snapshot.ensures.tells ∙ told in
    let going = rw (← c.self.view_is) at c.requires.going in
    let small : IsSized c.args.bytes.now = omega (arith, c.requires.reserved.small) in
    let it = c.self.invariant going tells in
    record {
      image = fresh_snapshot it.image c.args.bytes.now;
      numbers = c.after_snapshot-self-inside.ensures.next it.image c.args.bytes.now it.numbers (search rules);
      ready = c.in_ok-write_snapshot.ensures.ready tells it.image c.args.bytes.now it.numbers it.ready small
          (c.as_slice.ensures ∙ c.fill.ensures.bytes);
    }
