-- Each turn gives one node that waits its rank, unless it has one.
use Rattle.std.proofs.Common.{◌≡◌, ◌∙◌, ◌<◌, [], length, arith}
use Rattle.std.proofs.lemmas.List.{nil_from_length}
use Rattle.dep_graph.specs.Ranks.{rank_of}
use Rattle.dep_graph.proofs.RankLemmas.{read_rank, ranking_begins, ranking_ends, last_within, skipped}
use Rattle.dep_graph.proofs.RankLemmas.{ranked, ranked_less}
use Rattle.dep_graph.proofs.ranking.rank_reaching.Goals as goal

pub loop-node-init : goal.loop-node-init
loop-node-init c =
    rw (c.in_ok-push.ensures.items, c.new-pending.ensures.items)
    (ranking_begins _ _ _ _ _ c.requires.goal c.requires.ranks)

pub index-requires : goal.index-requires
index-requires c =
    omega (
      arith,
      c.loop-node.invariant.count,
      last_within _ _ _ _ _ _ _ c.loop-node.invariant c.in-Some.ensures.items,
    )

pub index_mut-requires : goal.index_mut-requires
index_mut-requires c =
    omega (
      arith,
      c.loop-node.invariant.count,
      last_within _ _ _ _ _ _ _ c.loop-node.invariant c.in-Some.ensures.items,
    )

pub preds-requires : goal.preds-requires
preds-requires c = last_within _ _ _ _ _ _ _ c.loop-node.invariant c.in-Some.ensures.items

pub loop-node-smaller-in-Continue-branch-2 : goal.loop-node-smaller-in-Continue-branch-2
loop-node-smaller-in-Continue-branch-2 c =
    let within = last_within _ _ _ _ _ _ _ c.loop-node.invariant c.in-Some.ensures.items in
    let inside : c.in-Some.node < length c.loop-node.ranks.items = omega (arith, c.loop-node.invariant.count, within) in
    let none : rank_of c.loop-node.ranks.items c.in-Some.node ≡ 0 =
    read_rank _ _ _ inside c.index.ensures ∙ c.if-index-eq0.true in
    rw c.in_ok-extend_from_slice.ensures.items
    (ranked_less _ _ _ _ _ _ _ c.loop-node.invariant c.in-Some.ensures.items none _ c.preds.ensures.exact
    c.preds.ensures.joins c.requires.rank)

pub loop-node-preserved-in-Continue-branch-2 : goal.loop-node-preserved-in-Continue-branch-2
loop-node-preserved-in-Continue-branch-2 c =
    let within = last_within _ _ _ _ _ _ _ c.loop-node.invariant c.in-Some.ensures.items in
    let inside : c.in-Some.node < length c.loop-node.ranks.items = omega (arith, c.loop-node.invariant.count, within) in
    let none : rank_of c.loop-node.ranks.items c.in-Some.node ≡ 0 =
    read_rank _ _ _ inside c.index.ensures ∙ c.if-index-eq0.true in
    rw c.in_ok-extend_from_slice.ensures.items
    (ranked _ _ _ _ _ _ _ c.loop-node.invariant c.in-Some.ensures.items none _ c.preds.ensures.exact
    c.preds.ensures.joins)

pub loop-node-preserved : goal.loop-node-preserved
loop-node-preserved c =
    let within = last_within _ _ _ _ _ _ _ c.loop-node.invariant c.in-Some.ensures.items in
    let inside : c.in-Some.node < length c.loop-node.ranks.items = omega (arith, c.loop-node.invariant.count, within) in
    let rank = read_rank _ _ _ inside c.index.ensures in
    skipped _ _ _ _ _ _ _ c.loop-node.invariant c.in-Some.ensures.items (omega (arith, rank, c.if-index-eq0.false))

pub returns : goal.returns
returns c =
    let none : c.loop-node.pending.items ≡ [] = nil_from_length _ (omega (arith, c.in_default.ensures.cases)) in
    ranking_ends _ _ _ _ (rw none at c.loop-node.invariant)
