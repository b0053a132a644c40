-- What a journaled state shows is lawful, as its disk is.
use Rattle.std.proofs.Common.{◌≡◌, ℕ, Bool, Option, Some, None, ap, arith, false, refl, subst, sym, true}
use Rattle.std.specs.Prelude.{IfSome, IsTrue, not, ◌&&◌}
use Rattle.core_state.specs.State.{StateData}
use Rattle.heat_disk.specs.Halves.{Pair}
use Rattle.heat_disk.specs.Shown as disk
use Rattle.heat_disk.specs.Shown.{ShownDisk}
use Rattle.record_keeper.specs.Laws.{IsLawful, IsRecalled, IsTold}
use Rattle.record_keeper.specs.Shown.{Left, at_rest}
use Rattle.row_journal.specs.Ends as ends
use Rattle.row_journal.specs.Ends.{LeavesSealed}
use Rattle.row_journal.specs.Images.{ImageData}
use Rattle.row_journal.specs.Ready.{IsReady}
use Rattle.row_journal.specs.declared.place.Place.{Place}
use Rattle.row_journal.proofs.Found.{image_same}
use Rattle.state_journal.specs.Payloads.{Give}
use Rattle.state_journal.specs.Readings.{Holds, ReadAs, Reads, StandFor, sealed, torn}
use Rattle.state_journal.specs.Shown.{Leave, StandsAs, moment_of, opens_by, shown_by}
use Rattle.state_journal.specs.Unique.{give_one, holds_one, stand_one}

-- what is sealed stands for the state of its image
pub sealed_rest : (image : ImageData) (s : StateData) (c : Pair) (l : Option Left) → LeavesSealed image c
    → Give image.payloads s → StandFor c l → l ≡ Some (at_rest s)
sealed_rest image s c l leaves give stand =
    stand_one c l (Some (at_rest s)) stand (sealed image s leaves give)

right : (a b : Bool) → IsTrue (a && b) → IsTrue b
right true b both = both
right false b both = cc

-- halves that stand for a state hold it
held_by : (halves : Pair) (l : Left) → Reads halves l → ReadAs halves l.reads
held_by halves _ (sealed i s leaves give) = record {
  holds = record { image = i; is_image = leaves.is_image; give = give };
  left = Some (at_rest s);
  stand = sealed i s leaves give;
}
held_by halves _ (torn i p s t is it give more) = record {
  holds = record { image = i; is_image = is; give = give };
  left = Some (record { reads = s; next = Some t });
  stand = torn i p s t is it give more;
}

reads_it : (halves : Pair) (s : StateData) (l : Option Left) → StandFor halves l → Holds s halves
    → IfSome l (λ k. k.reads ≡ s)
reads_it halves s None stand holds = tt
reads_it halves s (Some k) stand holds = holds_one halves k.reads s (held_by halves k stand).holds holds

-- a journal that is ready is sealed
pub ready_rest : (image : ImageData) (d : ShownDisk) (s : StateData) → IsReady image d → Give image.payloads s
    → Reads d.seen (at_rest s)
ready_rest image d s ready give =
    sealed image s (record { is_image = ready.is_image; sealed = ends.closed ready.closed }) give

module _ (d : ShownDisk) (at : Place) (failed : Bool) where
  stands_one : (s t : StateData) → StandsAs d at failed s → StandsAs d at failed t → s ≡ t
  stands_one s t a b = give_one b.image.payloads s t
      (subst (λ (i : ImageData). Give i.payloads s)
      (image_same d.seen a.image b.image a.ready.is_image b.ready.is_image) a.give) b.give

  goes : (s : StateData) → StandsAs d at failed s → IsTrue (not failed)
  goes s it = subst (λ (b : Bool). IsTrue (not b)) (sym it.open_) refl

  stood : (s : StateData) → StandsAs d at failed s → opens_by d s
  stood s it tells = held_by d.seen (at_rest s) (ready_rest it.image d s it.ready it.give)

  recalled : IsTrue d.tells → IsRecalled (opens_by d) (shown_by d at failed)
  recalled tells = record {
    one = λ s t a b. holds_one d.seen s t (a tells).holds (b tells).holds;
    stood = stood;
  }

  module _ (law : disk.IsLawful d) (tells : IsTrue d.tells) where
    moment : moment_of d.tells d.moment ≡ d.moment
    moment = ap (λ (b : Bool). moment_of b d.moment) tells

    now : (l : Option Left) → StandFor d.seen l → Leave d.tells d.may_leave l
    now l stand = record { told = tells; pair = d.seen; left = law.reads; stand = stand }

    durable : (s : StateData) (l : Option Left) → StandsAs d at failed s → Leave d.tells d.may_leave l
        → l ≡ Some (at_rest s)
    durable s l it leave = sealed_rest it.image s d.seen l
        (record { is_image = it.ready.is_image; sealed = ends.closed it.ready.closed }) it.give
        (subst (λ (c : Pair). StandFor c l) (it.ready.durable leave.pair leave.left) leave.stand)

    told : IsTold (opens_by d) (shown_by d at failed)
    told = record {
      some = λ none. none None (now None (λ l reads. none (Some l) (now (Some l) reads)));
      durable = durable;
      reads = λ s may. let it = may tells in (it.left, now it.left it.stand, reads_it d.seen s it.left it.stand it.holds);
      reads_none = λ none. now None (λ l reads. none l.reads (λ t. held_by d.seen l reads));
      counts_now = λ t l early it. record {
        told = tells;
        pair = it.pair;
        left = law.counts_now t it.pair (omega (arith, early, moment)) it.left;
        stand = it.stand;
      };
      only_now = λ l it. record {
        told = tells;
        pair = it.pair;
        left = law.only_now it.pair (subst (λ (t : ℕ). d.left_since t it.pair) moment it.left);
        stand = it.stand;
      };
      widens = λ t u l early it. record {
        told = tells;
        pair = it.pair;
        left = law.widens t u it.pair early it.left;
        stand = it.stand;
      };
    }

  pub lawful : (IsTrue d.tells → disk.IsLawful d) → IsLawful (opens_by d) (shown_by d at failed)
  lawful law = record {
    one = stands_one;
    open_ = goes;
    shortens = λ long. right _ _ (right _ _ long);
    recalls = λ tells. tells;
    recalled = recalled;
    told = λ tells. told (law tells) tells;
  }
