use Rattle.heat_value.specs.Meaning.{data_of}
use Rattle.hot_params.proofs.Progress.{way_fault, way_next, way_all}
use Rattle.hot_params.proofs.binding.values_of.Goals as goal

pub returns-in-Err-clause-err : goal.returns-in-Err-clause-err
returns-in-Err-clause-err g c =
    way_fault _ _ _ c.as_slice-param-items.result.now c.loop-param.param-index c.param-item.result c.loop-param.values
    c.in-Err.fault c.loop-param-test.true c.param-item.is c.loop-param.invariant
    (rw c.get.ensures at c.in-Err.ensures.err)

pub loop-param-preserved : goal.loop-param-preserved
loop-param-preserved g c =
    rw (c.in_ok-put-in-Ok.ensures.ok, c.in_ok-copy-in-Ok.ensures) (way_next _ _ _ c.as_slice-param-items.result.now
    c.loop-param.param-index c.param-item.result c.loop-param.values (data_of c.in-Ok.value) c.loop-param-test.true
    c.param-item.is c.as_slice-param-items.ensures.rising c.loop-param.invariant
    (rw c.get.ensures at c.in-Ok.ensures.ok))

pub returns-clause-ok : goal.returns-clause-ok
returns-clause-ok g c =
    way_all _ _ _ c.as_slice-param-items.result.now c.loop-param.param-index c.loop-param.values c.loop-param-test.false
    c.loop-param.invariant
