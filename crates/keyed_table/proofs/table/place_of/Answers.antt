use Rattle.std.proofs.Common.{◌∙◌, sym}
use Rattle.keyed_table.proofs.Finds.{place_found, place_alone, missed_past, missed_there}
use Rattle.keyed_table.proofs.table.place_of.Goals as goal

pub returns-then-entries-at-clause-place : goal.returns-then-entries-at-clause-place
returns-then-entries-at-clause-place g c = sym (missed_past g.T.Keyed.key_of g.T.Keyed.same g.T.Keyed.below g.met.T.Keyed.sorts c.args.items.now c.args.places.now.items c.as_slice-entries.result.now
    c.as_slice-entries.ensures c.requires c.args.key.now c.start_of-at.result c.start_of-at.ensures c.if-entries-at.true)

pub returns-then-has_key-clause-place : goal.returns-then-has_key-clause-place
returns-then-has_key-clause-place g c = sym (place_found g.T.Keyed.key_of g.T.Keyed.same g.T.Keyed.below g.met.T.Keyed.sorts c.args.items.now c.args.places.now.items c.as_slice-entries.result.now
    c.as_slice-entries.ensures c.requires c.args.key.now c.start_of-at.result c.if-entries-at.false c.index-items-place.result c.index-items-place.is (sym c.has_key.ensures ∙ c.if-has_key.true))

pub returns-then-has_key-clause-alone : goal.returns-then-has_key-clause-alone
returns-then-has_key-clause-alone g c = place_alone g.T.Keyed.key_of g.T.Keyed.same g.T.Keyed.below g.met.T.Keyed.sorts c.args.items.now c.args.places.now.items c.as_slice-entries.result.now
    c.as_slice-entries.ensures c.requires c.args.key.now c.start_of-at.result c.if-entries-at.false c.index-items-place.result c.index-items-place.is (sym c.has_key.ensures ∙ c.if-has_key.true)

pub returns-clause-place : goal.returns-clause-place
returns-clause-place g c = sym (missed_there g.T.Keyed.key_of g.T.Keyed.same g.T.Keyed.below g.met.T.Keyed.sorts c.args.items.now c.args.places.now.items c.as_slice-entries.result.now
    c.as_slice-entries.ensures c.requires c.args.key.now c.start_of-at.result c.start_of-at.ensures c.index-items-place.result c.index-items-place.is (sym c.has_key.ensures ∙ c.if-has_key.false))
