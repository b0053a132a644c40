-- What is asked by the row's act, as it is told.
use Rattle.std.proofs.Common.{ap}
use Rattle.std.specs.Prelude.{Option, unwrap_or}
use Rattle.heat_value.specs.Data.{Members}
use Rattle.book.proofs.Tolds.{created_says, deleted_says, updated_says}
use Rattle.book.proofs.requests.ask.Goals as goal

pub returns-in-Create : goal.returns-in-Create
returns-in-Create g c = created_says c.args.token.now c.args.row.now _ _ c.create.result c.in-Create.is
    c.create.ensures.begun c.create.ensures.quota c.create.ensures.failed c.create.ensures.memory

pub returns-in-Some : goal.returns-in-Some
returns-in-Some g c = updated_says c.args.token.now c.args.row.now _ _ c.update.result c.in-Update.is _
    (ap (λ (x : Option Members). unwrap_or x c.args.row.now.props) c.in-Some.is) (c.requires.alive c.in-Update.is)
    c.update.ensures.begun c.update.ensures.quota c.update.ensures.failed c.update.ensures.memory

pub returns-in-None : goal.returns-in-None
returns-in-None g c = updated_says c.args.token.now c.args.row.now _ _ c.update-in-None.result c.in-Update.is _
    (ap (λ (x : Option Members). unwrap_or x c.args.row.now.props) c.in-None.is) (c.requires.alive c.in-Update.is)
    c.update-in-None.ensures.begun c.update-in-None.ensures.quota c.update-in-None.ensures.failed
    c.update-in-None.ensures.memory

pub returns-in-Delete : goal.returns-in-Delete
returns-in-Delete g c = deleted_says c.args.token.now c.args.row.now _ _ c.delete.result c.in-Delete.is
    c.delete.ensures.begun c.delete.ensures.quota c.delete.ensures.failed c.delete.ensures.memory
