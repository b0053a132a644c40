use Rattle.traversal_graph.proofs.DrawLemmas.{IsBareDraft-new}
use Rattle.traversal_graph.proofs.draft.Draft.new.Goals as goal

pub returns : goal.returns
returns c = IsBareDraft-new _ _ _ c.ranges.size.fits c.in_ok-new.ensures.bare c.in_ok-new.ensures.acyclic c.new-2.ensures
