-- The history is that of a run from an admitted image; from a sound opening every run has the main theorem.
use Rattle.book.proofs.Headlines.{headline_of, sound as sound_state}
use Rattle.book.proofs.Images.{book_written}
use Rattle.book.proofs.book.Book.promises.Goals as goal

pub returns-clause-run : goal.returns-clause-run
returns-clause-run g c = rw (← c.self.view_is)
    (record { run = c.self.invariant.0.run; agrees = c.self.invariant.0.agrees; trace = c.self.invariant.0.trace })

pub returns-clause-image : goal.returns-clause-image
returns-clause-image g c = rw (← c.self.view_is) (record {
  image = c.self.invariant.0.image;
  count = c.self.invariant.0.count;
  opened = c.self.invariant.0.opened;
})

pub returns-clause-held : goal.returns-clause-held
returns-clause-held g c = rw (← c.self.view_is) c.self.invariant.1.0

pub returns-clause-left : goal.returns-clause-left
returns-clause-left g c = rw (← c.self.view_is) c.self.invariant.1.1.1

pub returns-clause-made : goal.returns-clause-made
returns-clause-made g c = rw (← c.self.view_is) (book_written _ _ _ _ _ _ c.self.invariant.0).made

pub returns-clause-headline : goal.returns-clause-headline
returns-clause-headline g c = rw (← c.self.view_is)
    (λ sound. headline_of {K = g.row.K.Denot} g.P.Provider.cloud _ c.self.invariant.0 sound)

pub returns-clause-sound : goal.returns-clause-sound
returns-clause-sound g c = rw (← c.self.view_is)
    (λ sound. sound_state _ _ _ _ _ _ c.self.invariant.0 sound)
