-- No entry, and room for one.
use Rattle.std.proofs.Common.{◌∙◌}
use Rattle.book.proofs.Closings.{marked_new}
use Rattle.book.proofs.history.History.new.Goals as goal

pub invariant_of-result : goal.invariant_of-result
invariant_of-result c = marked_new _ _ (c.reserve.ensures.same ∙ c.new-entries.ensures) c.in_ok-reserve.ensures.room
