-- The cases of `specs/Links.antt`, each by the law of moves through its constructor.
use Rattle.std.proofs.Common.{None, refl}
use Rattle.step_relation.specs.Given.{Nothing, Prepared}
use Rattle.step_relation.specs.Moves.{begin_overrun, begin_replaced, clean_deleted, finish_last, take_free, take_stolen}
use Rattle.history_examples.specs.Links.{DeleteIsLinked, LeavingIsLinked, ReleaseIsLinked, ReplacementIsLinked, StealIsLinked}
use Rattle.history_examples.specs.Links.{TakenIsLinked}
use Rattle.history_laws.proofs.links.Kept.{links_after}

pub steal_is_linked : StealIsLinked
steal_is_linked s e f k j h holder stopped =
    links_after s e Nothing None _ _ h (take_stolen k f j _ _ holder stopped refl refl)

pub replacement_is_linked : ReplacementIsLinked
replacement_is_linked s e k props effect h act go =
    links_after s e (Prepared props effect) None _ _ h (begin_replaced k props effect _ _ act go refl refl)

pub release_is_linked : ReleaseIsLinked
release_is_linked s e j h works k = links_after s e Nothing None _ _ h (begin_overrun j _ _ works k refl refl)

pub delete_is_linked : DeleteIsLinked
delete_is_linked s e k h act all unmarked =
    links_after s e Nothing None _ _ h (finish_last k _ _ (record { all = all; unmarked = unmarked }) refl refl)

pub taken_is_linked : TakenIsLinked
taken_is_linked s e l m h live jobless first open_ free = links_after s e Nothing None _ _ h (take_free (record {
  letter = l;
  next = record { live = live; jobless = jobless; first = first };
  meant = m;
  open_ = open_;
}) _ _ free refl refl)

pub leaving_is_linked : LeavingIsLinked
leaving_is_linked s e k r h at loose act unstuck policy =
    links_after s e Nothing None _ _ h (clean_deleted k r _ _ at loose act unstuck policy refl refl)
