use Rattle.std.proofs.Common.{arith}
use Rattle.hot_strings.proofs.Sizes.{IsTooLong-last}
use Rattle.hot_strings.proofs.listing.Listing.push.Goals as goal

pub returns-then-self-lt-AROUND-clause-err : goal.returns-then-self-lt-AROUND-clause-err
returns-then-self-lt-AROUND-clause-err c =
    rw (← c.self.view_is) (IsTooLong-last c.self.inside.list c.args.text.now c.self.inside.room c.self.invariant (omega arith))

pub returns-in-None-clause-err : goal.returns-in-None-clause-err
returns-in-None-clause-err c =
    rw (← c.self.view_is) (IsTooLong-last c.self.inside.list c.args.text.now c.self.inside.room c.self.invariant (omega (arith, c.in-None.ensures)))
