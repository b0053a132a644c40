use Rattle.std.proofs.Common.{sym}
use Rattle.sim_cloud.specs.Simulated.{beside_of}
use Rattle.sim_cloud.proofs.Clauses.{not_placed}
use Rattle.file_provider.proofs.file_cloud.FileCloud.facts.Goals as goal

pub unreachable-requires : goal.unreachable-requires
unreachable-requires c =
    not_placed c.args.self.now.all.held.all (beside_of c.args.self.now.all) c.args.token.now (sym c.in-None.ensures) c.requires
