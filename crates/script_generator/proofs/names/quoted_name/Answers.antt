use Rattle.std.proofs.Common.{◌<◌, ◌^◌, arith}
use Rattle.script_generator.proofs.Quotes.{quoted_name, zero_filled}
use Rattle.script_generator.proofs.names.quoted_name.Goals as goal

pub returns : goal.returns
returns c =
    let small : c.args.i < 2 ^ 64 = omega (arith, c.ranges.i) in
    let q = quoted_name c.args.i small in
    let z = zero_filled c.args.i in
    let e = c.laid_out.ensures in
    grind (arith, q, z, e, c.format.ensures.ok)
