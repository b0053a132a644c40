-- A broken resource's turn is the failure's, told with the code.
use Rattle.std.proofs.Common.{subst, sym}
use Rattle.heat_plan.specs.declared.calls.Answered.{Answered}
use Rattle.book.specs.Outcomes.{IsAnswered}
use Rattle.book.proofs.Calling.{sized}
use Rattle.book.proofs.answers.poll_told.Goals as goal

pub poll_answered-requires-clause-answer : goal.poll_answered-requires-clause-answer
poll_answered-requires-clause-answer c k = sized k.row.act c.args.answer.now c.requires.size (c.requires.stays k)

pub poll_answered-requires-in-Begun-clause-answer : goal.poll_answered-requires-in-Begun-clause-answer
poll_answered-requires-in-Begun-clause-answer c k =
    sized k.row.act c.args.answer.now c.requires.size (c.requires.stays k)

pub returns-in_ok-broken-in-Broken : goal.returns-in_ok-broken-in-Broken
returns-in_ok-broken-in-Broken c =
    let k = c.requires.calls in
    let told = c.in_ok-broken-in-Broken in record {
      made = subst (λ (a : Answered). IsAnswered c.args.state.now.state c.args.e a told.field-0) (sym c.in-Broken.is)
          (told.ensures _ c.args.e k (c.requires.stays k) c.requires.failed);
    }
