-- The draft's changes and entries are those of what is laid.
use Rattle.std.proofs.Common.{◌∙◌}
use Rattle.command_steps.specs.Orders.{sets_of}
use Rattle.command_steps.proofs.Drafts.{laying}
use Rattle.command_steps.proofs.laying.laid.Goals as goal

pub returns : goal.returns
returns c =
    laying c.args.s.now.state c.args.name.now (sets_of c.args.order) c.in_ok-draft.draft c.in_ok-draft.ensures
    c.in_ok-made.made.changes (c.in_ok-made.ensures.changes ∙ c.in_ok-changes.ensures)
    c.in_ok-made.made.entries (c.in_ok-made.ensures.entries ∙ c.in_ok-entries.ensures)
