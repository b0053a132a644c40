use Rattle.std.proofs.Common.{◌∙◌, ap}
use Rattle.heat_value.specs.Data.{node_last}
use Rattle.heat_value.specs.Meaning.{data_of}
use Rattle.hot_eval.proofs.Seeing.{new_added, old_added}
use Rattle.hot_eval.proofs.lists.add_new.Goals as goal

pub returns-in_ok-push : goal.returns-in_ok-push
returns-in_ok-push c all =
    let told = c.in_ok-see.ensures c.args.items.now all in
    new_added c.see.new.seen (data_of c.args.value.now) c.args.items.now c.push.new.self c.in_ok-see.field-0 told.0
    c.if-branch.true told.1
    (c.in_ok-push.ensures.ok ∙ ap (λ v. node_last c.args.items.now (data_of v)) c.in_ok-copy.ensures)

pub returns-else-branch : goal.returns-else-branch
returns-else-branch c all =
    let told = c.in_ok-see.ensures c.args.items.now all in
    old_added c.args.seen.now c.see.new.seen (data_of c.args.value.now) c.args.items.now c.in_ok-see.field-0 told.0
    c.if-branch.false all told.1
