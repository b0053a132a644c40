-- Each turn is a round; one that adds nothing was one too many.
use Rattle.std.proofs.Common.{arith}
use Rattle.heat_value.specs.Meaning.{members_of}
use Rattle.hot_admit.proofs.Finding.{none_found}
use Rattle.hot_admit.proofs.Found.{first_round, next_round, last_round, flags_found, none_added}
use Rattle.hot_admit.proofs.Rounds.{reached}
use Rattle.hot_admit.proofs.condition_values.evaluated.Goals as goal

pub loop-round-init : goal.loop-round-init
loop-round-init c =
    rw c.in_ok-values.ensures
    (none_found c.args.params.now c.args.conds.now, first_round c.args.params.now (members_of c.args.conds.now) _)

pub loop-round-preserved : goal.loop-round-preserved
loop-round-preserved c = (
  c.in_ok-find_more.ensures.found,
  next_round c.args.params.now (members_of c.args.conds.now) c.loop-round._round c.loop-round.values.items
      c.find_more.new.values.items c.requires.rising c.loop-round.invariant.1 c.in_ok-find_more.ensures.round,
)

pub returns-then-not-branch : goal.returns-then-not-branch
returns-then-not-branch c =
    flags_found c.args.params.now (members_of c.args.conds.now) c.find_more.new.values.items c.requires.rising
    c.in_ok-find_more.ensures.found
    (reached c.args.params.now (members_of c.args.conds.now) _ c.requires.rising
    (none_added c.args.params.now (members_of c.args.conds.now) c.loop-round.values.items c.find_more.new.values.items
    c.in_ok-find_more.ensures.round (c.in_ok-find_more.ensures.same c.if-not-branch.true)))

pub returns : goal.returns
returns c =
    flags_found c.args.params.now (members_of c.args.conds.now) c.loop-round.values.items c.requires.rising
    c.loop-round.invariant.0
    (last_round c.args.params.now c.args.conds.now c.loop-round._round _ (omega arith) c.loop-round.invariant.1)
