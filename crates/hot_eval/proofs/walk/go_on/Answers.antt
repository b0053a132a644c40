use Rattle.std.proofs.Common.{◌-◌, ◌<◌, get_or, length, refl, arith, subst, sym, List, ℕ}
use Rattle.hot_eval.specs.Repeats.{lists_of, ArePlaces}
use Rattle.hot_eval.proofs.Listings.{place_there, listed_next, listed_down, listed_start, listed_less, listed_count, length-lists}
use Rattle.hot_eval.proofs.Turns.{AreTurned, Goes, places_length}
use Rattle.hot_eval.proofs.walk.go_on.Goals as goal

pub loop-at-init : goal.loop-at-init
loop-at-init c =
    (listed_start c.args.lists.now c.args.places.now.items c.args.links.now c.requires.places c.requires.links, c.requires.choice)

pub index-requires : goal.index-requires
index-requires c =
    omega (arith, places_length _ _ c.loop-at.invariant.0.places, c.loop-at.invariant.0.within, c.loop-at-test.true)

pub next_place-requires : goal.next_place-requires
next_place-requires c =
    place_there c.args.lists.now c.loop-at.places.items (c.loop-at.at - 1) c.index.result.now
    (get_or c.args.lists.now (c.loop-at.at - 1) c.index-lists-at.result) c.index-lists-at.result
    c.loop-at.invariant.0.places
    (omega (arith, c.loop-at-test.true, c.loop-at.invariant.0.within, length-lists c.args.lists.now)) refl c.index.ensures

pub turn-requires-clause-place : goal.turn-requires-clause-place
turn-requires-clause-place c =
    let below : c.loop-at.at - 1 < length c.args.lists.now =
    omega (arith, c.loop-at-test.true, c.loop-at.invariant.0.within, length-lists c.args.lists.now) in
    omega (
      arith,
      c.in-Some.ensures.1,
      listed_count c.args.lists.now (c.loop-at.at - 1)
          (get_or c.args.lists.now (c.loop-at.at - 1) c.index-lists-at.result) c.index-lists-at.result below refl,
    )

pub returns-in-Some-clause-goes : goal.returns-in-Some-clause-goes
returns-in-Some-clause-goes c =
    subst (λ (ps : List ℕ). ArePlaces (lists_of c.args.lists.now) ps × Goes (lists_of c.args.lists.now) c.args.places.now.items ps)
    (sym c.turn.ensures.places)
    (listed_next c.args.lists.now c.args.places.now.items c.loop-at.places.items c.loop-at.at c.index.result.now c.in-Some.next
    (get_or c.args.lists.now (c.loop-at.at - 1) c.index-lists-at.result) c.index-lists-at.result c.requires.places
    c.loop-at.invariant.0 c.loop-at-test.true refl c.index.ensures c.in-Some.ensures)

pub turn-requires-in-None-clause-place : goal.turn-requires-in-None-clause-place
turn-requires-in-None-clause-place c =
    let below : c.loop-at.at - 1 < length c.args.lists.now =
    omega (arith, c.loop-at-test.true, c.loop-at.invariant.0.within, length-lists c.args.lists.now) in
    omega (
      arith,
      listed_count c.args.lists.now (c.loop-at.at - 1)
          (get_or c.args.lists.now (c.loop-at.at - 1) c.index-lists-at.result) c.index-lists-at.result below refl,
      place_there c.args.lists.now c.loop-at.places.items (c.loop-at.at - 1) c.index.result.now
          (get_or c.args.lists.now (c.loop-at.at - 1) c.index-lists-at.result) c.index-lists-at.result
          c.loop-at.invariant.0.places below refl c.index.ensures,
    )

pub loop-at-smaller : goal.loop-at-smaller
loop-at-smaller c =
    listed_less c.args.lists.now c.args.links.now c.loop-at.at c.requires.links c.loop-at-test.true c.loop-at.invariant.0.within

pub loop-at-preserved : goal.loop-at-preserved
loop-at-preserved c = (
  subst (λ (ps : List ℕ). AreTurned (lists_of c.args.lists.now) c.args.places.now.items ps (get_or c.args.links.now (c.loop-at.at - 1) 0))
      (sym c.turn-in-None.ensures.places)
      (listed_down c.args.lists.now c.args.places.now.items c.loop-at.places.items c.loop-at.at c.index.result.now
      (get_or c.args.lists.now (c.loop-at.at - 1) c.index-lists-at.result) c.index-lists-at.result c.args.links.now
      c.requires.places c.requires.links c.loop-at.invariant.0 c.loop-at-test.true refl c.index.ensures c.in-None.ensures),
  c.turn-in-None.ensures.choice,
)
