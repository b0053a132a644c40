use Rattle.std.proofs.Common.{subst, sym}
use Rattle.step_relation.specs.Images.{AreKeepable}
use Rattle.book.proofs.making.make_room.Goals as goal

pub reserve-requires-3 : goal.reserve-requires-3
reserve-requires-3 g c = subst AreKeepable (sym c.as_slice.ensures) c.requires
