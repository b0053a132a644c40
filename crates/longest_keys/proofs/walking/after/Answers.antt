use Rattle.std.proofs.Common.{ℕ, subst, arith}
use Rattle.std.proofs.lemmas.Option.{slice_get-get_or}
use Rattle.longest_keys.proofs.TrieLemmas.{edge_within}
use Rattle.longest_keys.proofs.WalkLemmas.{IsRest, found_rest, last_rest, next_rest}
use Rattle.longest_keys.proofs.walking.after.Goals as goal

pub returns-in-Some-clause-longest : goal.returns-in-Some-clause-longest
returns-in-Some-clause-longest c = λ t h. found_rest c.args.nodes.now c.args.byte t c.loop-at.at c.in-Some.child c.in-Some.ensures (c.loop-at.invariant.1 t h)

pub loop-at-smaller : goal.loop-at-smaller
loop-at-smaller c =
    let less = c.requires.fails.earlier c.loop-at.at _ (slice_get-get_or c.args.fails.now c.loop-at.at 0 c.loop-at.invariant.0) in
    omega (arith, less, c.loop-at-test.true)

pub loop-at-preserved : goal.loop-at-preserved
loop-at-preserved c =
    let there = slice_get-get_or c.args.fails.now c.loop-at.at 0 c.loop-at.invariant.0 in
    let less = c.requires.fails.earlier c.loop-at.at _ there in (
      omega (arith, less, c.loop-at.invariant.0),
      λ t h. next_rest c.args.nodes.now c.args.fails.now c.args.byte t c.loop-at.at _ c.requires.trie c.requires.fails there c.in_default.ensures (c.loop-at.invariant.1 t h),
    )

pub returns-in-Some-child_of-clause-within : goal.returns-in-Some-child_of-clause-within
returns-in-Some-child_of-clause-within c = edge_within c.args.nodes.now 0 c.args.byte c.in-Some-child_of.child c.in-Some-child_of.ensures

pub returns-in-Some-child_of-clause-longest : goal.returns-in-Some-child_of-clause-longest
returns-in-Some-child_of-clause-longest c =
    λ t h. found_rest c.args.nodes.now c.args.byte t 0 c.in-Some-child_of.child c.in-Some-child_of.ensures
    (subst (λ (i : ℕ). IsRest c.args.nodes.now c.args.byte t i) c.loop-at-test.false (c.loop-at.invariant.1 t h))

pub returns-in-None-clause-longest : goal.returns-in-None-clause-longest
returns-in-None-clause-longest c =
    λ t h. last_rest c.args.nodes.now c.args.byte t c.loop-at.at c.requires.trie c.loop-at-test.false c.in-None.ensures (c.loop-at.invariant.1 t h)
