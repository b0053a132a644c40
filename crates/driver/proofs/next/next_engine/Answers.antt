-- The first from behind the last one, or else from the lowest; where there is none the book is idle.
use Rattle.std.proofs.Common.{refl}
use Rattle.driver.proofs.Resting.{all_idle, as_book, next_above, next_some}
use Rattle.driver.proofs.next.next_engine.Goals as goal

pub returns-in-Some-clause-some : goal.returns-in-Some-clause-some
returns-in-Some-clause-some g c = next_above c.args.book.now.state c.args.last c.in-Some.e c.in-Some.ensures.some

pub returns-in-None-clause-some : goal.returns-in-None-clause-some
returns-in-None-clause-some g c = next_some c.args.book.now.state c.args.last c.first_from-in-None.result
    (c.in-None.ensures.none refl)
    c.first_from-in-None.ensures.some

pub returns-in-None-clause-none : goal.returns-in-None-clause-none
returns-in-None-clause-none g c = λ none. all_idle c.args.book.now.state c.requires.live
    (c.first_from-in-None.ensures.none none)

pub returns-in-None-clause-settled : goal.returns-in-None-clause-settled
returns-in-None-clause-settled g c = λ none sound. (c.promises.ensures.headline sound).headline.settled
    (as_book c.args.book.now.state
    (all_idle c.args.book.now.state c.requires.live (c.first_from-in-None.ensures.none none)))
