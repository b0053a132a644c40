use Rattle.std.proofs.Common.{◌+◌, ◌<◌, length, refl, arith}
use Rattle.hot_strings.proofs.Weights.{length-escape-drop}
use Rattle.hot_strings.proofs.fitting.words_size.Goals as goal

pub loop-byte-init : goal.loop-byte-init
loop-byte-init c = (2, omega arith, refl)

pub loop-byte-preserved : goal.loop-byte-preserved
loop-byte-preserved c =
    let n = c.loop-byte.invariant.0 in
    let items = c.as_bytes-byte-items.result.now in
    let below : c.loop-byte.byte-index < length items = omega arith in
    (n + c.escaped_len.result, omega (arith, c.loop-byte.invariant.1), omega (arith, c.loop-byte.invariant.2, length-escape-drop items c.loop-byte.byte-index below))
