use Rattle.std.proofs.Common.{sym}
use Rattle.std.proofs.lemmas.Bool.{OnTrue_at, OnFalse_at, OnTrue_from, OnFalse_from}
use Rattle.step_reads.proofs.ReadyLemmas.{not_ready_with, pointless_lacks, pointless_ready, ready_with}
use Rattle.step_reads.proofs.nodes.is_ready_with.Goals as goal

pub returns-in_ok-sources-in-Some-clause-yes : goal.returns-in_ok-sources-in-Some-clause-yes
returns-in_ok-sources-in-Some-clause-yes c = OnTrue_from c.have_all.result _
    (λ t. ready_with c.args.graph.now c.args.node c.args.from c.in-Some.point.now c.in_ok-sources-in-Some.sources.items
    (sym (rw c.in-Some.is at c.point_of.ensures)) (rw c.as_slice.ensures at c.in_ok-sources-in-Some.ensures.each)
    (rw (c.as_slice-edges.ensures, c.as_slice-in-Some.ensures.value) at (OnTrue_at t c.have_all.ensures.yes)))

pub returns-in_ok-sources-in-Some-clause-no_ : goal.returns-in_ok-sources-in-Some-clause-no_
returns-in_ok-sources-in-Some-clause-no_ c = OnFalse_from c.have_all.result _
    (λ t. not_ready_with c.args.graph.now c.args.node c.args.from c.in-Some.point.now
    c.in_ok-sources-in-Some.sources.items
    (sym (rw c.in-Some.is at c.point_of.ensures)) (rw c.as_slice.ensures at c.in_ok-sources-in-Some.ensures.each)
    (rw (c.as_slice-edges.ensures, c.as_slice-in-Some.ensures.value) at (OnFalse_at t c.have_all.ensures.no_)))

pub returns-in-None-clause-yes : goal.returns-in-None-clause-yes
returns-in-None-clause-yes c = OnTrue_from c.have_all-in-None.result _
    (λ t. pointless_ready c.args.graph.now c.args.node c.args.from
    (rw c.as_slice-edges.ensures at (OnTrue_at t c.have_all-in-None.ensures.yes)))

pub returns-in-None-clause-no_ : goal.returns-in-None-clause-no_
returns-in-None-clause-no_ c = OnFalse_from c.have_all-in-None.result _
    (λ t. pointless_lacks c.args.graph.now c.args.node c.args.from (sym (rw c.in-None.is at c.point_of.ensures))
    (rw c.as_slice-edges.ensures at (OnFalse_at t c.have_all-in-None.ensures.no_)))
