use Rattle.std.proofs.Common.{◌<◌, [], refl, ap, arith, length, get_or}
use Rattle.heat_value.specs.Data.{no_nodes}
use Rattle.hot_eval.specs.Repeats.{lists_of}
use Rattle.hot_eval.proofs.Linked.{keys_there, items_there, stock_length, set_anew}
use Rattle.hot_eval.proofs.Listings.{length-lists, listed_count, listed_item}
use Rattle.hot_eval.proofs.Turns.{place_within, places_length}
use Rattle.hot_eval.proofs.walk.turn.Goals as goal

pub index_mut-requires-2 : goal.index_mut-requires-2
index_mut-requires-2 c =
    omega (arith, c.requires.within, length-lists c.args.lists.now, keys_there _ _ _ _ c.requires.places c.requires.choice)

pub index-requires : goal.index-requires
index-requires c =
    omega (arith, c.requires.within, length-lists c.args.lists.now, places_length _ _ c.requires.places)

pub lend-requires-clause-from : goal.lend-requires-clause-from
lend-requires-clause-from c =
    let below : c.args.at < length (lists_of c.args.lists.now) = omega (arith, c.requires.within, length-lists c.args.lists.now) in
    omega (
      arith,
      c.index.ensures,
      ap length c.index_mut.ensures.value,
      stock_length _ _ _ _ c.args.at c.index_mut.result.now c.requires.choice below,
      place_within (lists_of c.args.lists.now) c.args.places.now.items c.args.at ([], no_nodes) c.index.result.now
          c.requires.places below,
    )

pub lend-requires-clause-to : goal.lend-requires-clause-to
lend-requires-clause-to c =
    let below : c.args.at < length (lists_of c.args.lists.now) = omega (arith, c.requires.within, length-lists c.args.lists.now) in
    omega (
      arith,
      ap length c.index_mut.ensures.value,
      c.requires.place,
      stock_length _ _ _ _ c.args.at c.index_mut.result.now c.requires.choice below,
    )

pub item_at-requires : goal.item_at-requires
item_at-requires c =
    omega (
      arith,
      c.requires.place,
      listed_count c.args.lists.now c.args.at
          (get_or c.args.lists.now c.args.at c.index-lists-at.result) c.index-lists-at.result c.requires.within refl,
    )

pub index_mut-requires-3 : goal.index_mut-requires-3
index_mut-requires-3 c =
    omega (arith, c.requires.within, length-lists c.args.lists.now, items_there _ _ _ _ c.requires.places c.requires.choice)

pub index_mut-requires-4 : goal.index_mut-requires-4
index_mut-requires-4 c =
    omega (arith, c.requires.within, length-lists c.args.lists.now, places_length _ _ c.requires.places)

pub returns-clause-choice : goal.returns-clause-choice
returns-clause-choice c =
    let below : c.args.at < length (lists_of c.args.lists.now) = omega (arith, c.requires.within, length-lists c.args.lists.now) in
    set_anew (lists_of c.args.lists.now) c.args.places.now.items c.args.stocks.now.items _ c.args.choice.now _ c.args.at
    c.args.place (c.index_mut-2.result.now.0, c.lend.new.text) c.index_mut-2.result.now c.index_mut.result.now c.lend.new.self
    c.index.result.now c.item_at.result c.requires.keys c.requires.places below c.requires.place c.requires.choice
    c.index_mut-2.ensures.value refl c.index_mut.ensures.value c.index.ensures c.lend.ensures.text c.lend.ensures.rest
    (listed_item c.args.lists.now c.args.at c.args.place (get_or c.args.lists.now c.args.at c.index-lists-at.result)
    c.index-lists-at.result c.item_at.result c.requires.within refl c.item_at.ensures) refl refl refl refl
