use Rattle.std.proofs.Common.{get_or, refl}
use Rattle.hot_eval.proofs.Listings.{listed_link}
use Rattle.hot_eval.proofs.walk.links_of.Goals as goal

pub loop-at-preserved : goal.loop-at-preserved
loop-at-preserved c =
    listed_link c.args.lists.now c.loop-at.links.items _ c.loop-at.at c.link_behind-link.result c.index.result.now
    (get_or c.args.lists.now c.loop-at.at c.index-lists-at.result) c.index-lists-at.result c.loop-at-test.true
    c.loop-at.invariant refl c.index.ensures c.link_behind-link.ensures c.in_ok-push-2.ensures.items
