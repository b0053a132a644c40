-- Each turn enters a node or leaves one.
use Rattle.std.proofs.Common.{◌≡◌, ◌∙◌, ℕ, false, replicate, length, ap, subst, rules}
use Rattle.dep_graph.specs.Leaving.{AreWithin}
use Rattle.dep_graph.proofs.VisitLemmas.{last_within, search_begins, entered_next, entered_less, left_next}
use Rattle.dep_graph.proofs.leaving.leaving_order.Goals as goal

pub loop-visit-init : goal.loop-visit-init
loop-visit-init c =
    let entered : c.in_ok-entered.entered.items ≡ replicate (length c.args.graph.now) false =
    c.in_ok-entered.ensures.items_if_clones_equal (λ y same. search rules)
    ∙ ap (λ (n : ℕ). replicate n false) c.size.ensures.size in
    rw (entered, c.new-order.ensures.items) (search_begins _ c.in_ok-visits.visits.items
    (subst (λ (n : ℕ). AreWithin n c.in_ok-visits.visits.items) c.size-2.ensures.size c.in_ok-visits.ensures))

pub enter-requires-clause-node : goal.enter-requires-clause-node
enter-requires-clause-node c =
    last_within _ _ _ _ _ _ c.loop-visit.invariant c.in-Some.ensures.items _ c.in-Enter.is

pub enter-requires-clause-size : goal.enter-requires-clause-size
enter-requires-clause-size c = c.loop-visit.invariant.size

pub loop-visit-smaller-in-Continue-branch-3 : goal.loop-visit-smaller-in-Continue-branch-3
loop-visit-smaller-in-Continue-branch-3 c =
    entered_less _ _ _ _ _ _ c.loop-visit.invariant c.in-Some.ensures.items _ c.size.ensures.joins c.in-Enter.node
    c.in-Enter.is c.enter.new.entered.items c.enter.new.visits.items c.in_ok-enter-in-Enter.ensures

pub loop-visit-preserved-in-Continue-branch-3 : goal.loop-visit-preserved-in-Continue-branch-3
loop-visit-preserved-in-Continue-branch-3 c =
    entered_next _ _ _ _ _ _ c.loop-visit.invariant c.in-Some.ensures.items _ c.size.ensures.joins c.in-Enter.node
    c.in-Enter.is c.enter.new.entered.items c.enter.new.visits.items c.in_ok-enter-in-Enter.ensures

pub loop-visit-preserved : goal.loop-visit-preserved
loop-visit-preserved c =
    rw c.in_ok-push-in-Leave.ensures.items
    (left_next _ _ _ _ _ _ c.loop-visit.invariant c.in-Some.ensures.items c.in-Leave.node c.in-Leave.is)
