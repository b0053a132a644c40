use Rattle.std.proofs.Common.{arith, refl}
use Rattle.heat_value.specs.Data.{words}
use Rattle.hot_strings.proofs.Sizes.{length-compact-words}
use Rattle.hot_strings.proofs.splitting.one_piece.Goals as goal

pub returns-in-None-room_after-clause-err : goal.returns-in-None-room_after-clause-err
returns-in-None-room_after-clause-err c =
    let found = c.in-Some.ensures in
    (λ e. cc, c.requires, (words c.in-Some.piece.now, (found.0, c.in-Some.piece.now, found.1, found.2, refl), omega (arith, length-compact-words c.in-Some.piece.now, c.in-None-room_after.ensures)))
