use Rattle.std.proofs.Common.{◌++◌, take, ◌∙◌, ap, arith}
use Rattle.heat_io.specs.Streams.{grown}
use Rattle.heat_io.proofs.Streaming.{grown-grown, all-more}
use Rattle.heat_io.proofs.put.put_all.Goals as goal

pub loop-rest-preserved : goal.loop-rest-preserved
loop-rest-preserved g c =
    let so_far = c.loop-rest.invariant.written in
    let taken = take c.in-Took.count c.loop-rest.rest.now in
    record {
      written = (
        so_far.0 ++ taken,
        all-more c.args.bytes.now so_far.0 c.loop-rest.rest.now c.in-Took.count so_far.1,
        c.in-Took.ensures.takes.last ∙ ap (λ held. grown held taken) so_far.2 ∙ grown-grown (g.K.Sink.holds c.args.sink.now) so_far.0 taken,
      );
      later = omega (arith, c.in-Took.ensures.later, c.loop-rest.invariant.later);
    }
