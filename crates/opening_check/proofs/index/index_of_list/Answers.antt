use Rattle.std.proofs.Common.{get_or}
use Rattle.std.proofs.lemmas.Option.{slice_get-get_or}
use Rattle.opening_check.specs.Places.{tokens_of}
use Rattle.opening_check.proofs.PlacesLemmas.{entered, none_in, token_at}
use Rattle.opening_check.proofs.index.index_of_list.Goals as goal

-- src/index.rt:19:5
pub loop-place-init : goal.loop-place-init
loop-place-init c = none_in c.new-index.result.items c.new-index.ensures

-- src/index.rt:19:5
pub loop-place-preserved : goal.loop-place-preserved
loop-place-preserved c = entered (tokens_of c.args.all.now) c.loop-place.place
    (get_or c.args.all.now c.loop-place.place c.index-all-place.result).token
    c.loop-place.index.items c.enter.new.index.items
    (token_at c.args.all.now c.loop-place.place (get_or c.args.all.now c.loop-place.place c.index-all-place.result)
    (slice_get-get_or c.args.all.now c.loop-place.place c.index-all-place.result c.loop-place-test.true))
    c.loop-place.invariant c.in_ok-enter.ensures
