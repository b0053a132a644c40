use Rattle.std.proofs.Common.{refl}
use Rattle.std.proofs.lemmas.Option.{slice_get_read}
use Rattle.std.specs.Prelude.{length}
use Rattle.opening_check.proofs.PlacesLemmas.{entered, none_in}
use Rattle.opening_check.proofs.index.index_of.Goals as goal

-- src/index.rt:30:5
pub loop-place-init : goal.loop-place-init
loop-place-init c = none_in c.new-index.result.items c.new-index.ensures

-- src/index.rt:30:5
pub loop-place-preserved : goal.loop-place-preserved
loop-place-preserved c = entered c.args.tokens.now c.loop-place.place c.index-tokens-place.result
    c.loop-place.index.items c.enter.new.index.items
    (slice_get_read c.args.tokens.now (length c.args.tokens.now) c.loop-place.place c.index-tokens-place.result refl c.loop-place-test.true c.index-tokens-place.is)
    c.loop-place.invariant c.in_ok-enter.ensures
