-- An opening: the image that was read, what the cloud lists, and the engines in its place.
use Rattle.std.proofs.Common.{refl, subst, sym, ◌∙◌, ◌≡◌, ℕ}
use Rattle.std.specs.Prelude.{Bool, Err, List, IsTrue, Ok, Result, Some, ◌+◌, ◌<◌, ◌^◌, ◌≤◌, ◌⊎◌}
use Rattle.heat_value.specs.Counts.{Rose}
use Rattle.heat_plan.specs.declared.token.Token.{Token}
use Rattle.provider.specs.Calls.{Lists}
use Rattle.provider.specs.declared.alive.Alive.{Alive}
use Rattle.provider.specs.Cloud.{Cloud}
use Rattle.core_state.specs.State.{StateData}
use Rattle.step_relation.specs.Images.{HasKeepableRows}
use Rattle.step_relation.specs.Laws.{opening_at}
use Rattle.step_relation.specs.Steps.{engine_limit, restart_changes}
use Rattle.record_keeper.proofs.Moments.{LeavesOnly-then, LeavesOnly-weaker}
use Rattle.record_keeper.specs.Calls.{ComesOf, GoesOn, IsForeign}
use Rattle.record_keeper.specs.Calls.{HasOpened as HasRead}
use Rattle.record_keeper.specs.Shown.{LeavesOnly, ShownKeeper, at_rest}
use Rattle.record_keeper.specs.declared.open_fault.OpenFault.{OpenFault}
use Rattle.record_keeper.specs.declared.open_fault.OpenFault.TheVariants as open_fault
use Rattle.workable_laws.specs.Admitted.{FindsNothing}
use Rattle.opening_check.specs.Findings.{HasFound}
use Rattle.opening_check.specs.declared.finding.Finding.{Finding}
use Rattle.book.specs.Keeping.{IsReady, IsStorable}
use Rattle.book.specs.Openings.{Admits, HasImageListed, IsImage, IsLeftOfOpening, IsLeftOfStart, IsLeftUnbegun, IsStuck}
use Rattle.book.specs.Openings.{OpensKeeper, WhyUnopened}
use Rattle.book.specs.Openings as openings
use Rattle.book.specs.Restarts.{unread_for}
use Rattle.book.specs.Starting.{Opens, Starts, WhyUnstarted}
use Rattle.book.specs.Starting as starting
use Rattle.book.specs.declared.opening.Start.{Start}
use Rattle.book.specs.declared.restarting.Unrestarted.TheVariants as unrestarted
use Rattle.book.specs.declared.restarting.Unrestarted.{Unrestarted}
use Rattle.book.proofs.Growing.{unasked}
use Rattle.book.proofs.Held.{goes_then, rose_since}
use Rattle.book.proofs.Images.{image_rows, restart_storable}

-- of an image that was read each row may be kept, and so may a restart
pub read_rows : (may_open : StateData → Type 0) (k : ShownKeeper) (image : StateData) → HasRead may_open k image
    → HasKeepableRows image
read_rows may_open k image read = image_rows image read.range read.read

pub read_storable : (may_open : StateData → Type 0) (k : ShownKeeper) (image : StateData) → HasRead may_open k image
    → (n : ℕ) → IsStorable image (restart_changes image n)
read_storable may_open k image read n = restart_storable image read.tied.links n

-- a crash inside an opening that began nothing
went_at_once : (k0 k1 : ShownKeeper) (n0 n1 : ℕ) (may_open : StateData → Type 0) (count : ℕ) → GoesOn k0 k1 n0 n1
    → (IsTrue k0.tells → LeavesOnly k0 k1 (ComesOf k0)) → OpensKeeper may_open count k0 k1 n0 n1
went_at_once k0 k1 n0 n1 may_open count goes crash = record {
  goes_on = goes;
  leaves = λ tells. LeavesOnly-weaker k0 k1 (ComesOf k0) (IsLeftOfOpening may_open k0 count) (λ l it. openings.came it)
      (crash tells);
}

came_unbegun : (k0 k1 : ShownKeeper) (may_open : StateData → Type 0)
    → (IsTrue k0.tells → LeavesOnly k0 k1 (ComesOf k0)) → IsTrue k0.tells
    → LeavesOnly k0 k1 (IsLeftUnbegun may_open k0)
came_unbegun k0 k1 may_open crash tells = LeavesOnly-weaker k0 k1 (ComesOf k0) (IsLeftUnbegun may_open k0)
    (λ l it. openings.came it) (crash tells)

module _ (may_open : StateData → Type 0) (count : ℕ) (k0 k1 : ShownKeeper) (n0 n1 : ℕ) (c d : Cloud)
    (image : StateData) (read : HasRead may_open k1 image) (goes : GoesOn k0 k1 n0 n1) where
  its_image : IsImage may_open image
  its_image = record { may = read.may; read = read.read; tied = read.tied; made = read.made; range = read.range }

  ok_or_not : {A E : Type 0} (r : Result A E) (a : A) (e : E) → r ≡ Ok a → r ≡ Err e → ⊥
  ok_or_not r a e yes_ no_ = cc

  same_err : (r : Result (Unit {0}) Unrestarted) (v w : Unrestarted) → r ≡ Err v → r ≡ Err w → w ≡ v
  same_err r v w a b = cc

  -- what the cloud's list says against it
  pub opens_refused : (r : Result (Unit {0}) Unrestarted) (w : Unrestarted) → Admits image c d r → r ≡ Err w
      → WhyUnopened may_open k0.recalls k1 count n0 n1 c d w
  opens_refused r w (openings.agrees all lists nothing is) no_ = absurd (ok_or_not r tt w is no_)
  opens_refused r w (openings.disagrees all token finding lists found is) no_ =
      openings.disagrees token finding
      (record { image = image; its = its_image; all = all; listed = lists }) found
      (same_err r (unrestarted.Disagree token finding) w is no_)
  opens_refused r w (openings.unlisted none is) no_ = openings.cloud_fault none
      (same_err r unrestarted.CloudFault w is no_)
  opens_refused r w (openings.lacking may is) no_ = openings.memory may (same_err r unrestarted.Memory w is no_)

  -- so nothing was kept
  pub opens_unadmitted : (IsTrue k0.tells → LeavesOnly k0 k1 (ComesOf k0)) → (r : Result (Unit {0}) Unrestarted)
      (w : Unrestarted) → Admits image c d r → r ≡ Err w → Opens may_open count k0 k1 n0 n1 c d (Err w)
  opens_unadmitted crash r w admits no_ = record {
    started = tt;
    went = went_at_once k0 k1 n0 n1 may_open count goes crash;
    rests = λ ne. came_unbegun k0 k1 may_open crash;
    why = opens_refused r w admits no_;
  }

  module _ (crash : IsTrue k0.tells → LeavesOnly k0 k1 (ComesOf k0)) (some : 1 ≤ count) (few : count ≤ engine_limit)
      (k2 : ShownKeeper) (n2 : ℕ) where
    went_through : (IsTrue k1.tells → LeavesOnly k1 k2 (IsLeftOfStart image count)) → GoesOn k1 k2 n1 n2
        → OpensKeeper may_open count k0 k2 n0 n2
    went_through leaves on = record {
      goes_on = goes_then k0 k1 k2 n0 n1 n2 goes on;
      leaves = λ tells. LeavesOnly-then k0 k1 k2 (IsLeftOfOpening may_open k0 count)
          (LeavesOnly-weaker k0 k1 (ComesOf k0) (IsLeftOfOpening may_open k0 count) (λ l it. openings.came it)
          (crash tells))
          (LeavesOnly-weaker k1 k2 (IsLeftOfStart image count) (IsLeftOfOpening may_open k0 count)
          (λ l it. openings.begun image read.may it) (leaves (subst IsTrue (sym goes.tells) tells)));
    }

    rests_through : (IsTrue k1.tells → LeavesOnly k1 k2 (λ x. x ≡ Some (at_rest image))) → IsTrue k0.tells
        → LeavesOnly k0 k2 (IsLeftUnbegun may_open k0)
    rests_through rests tells = LeavesOnly-then k0 k1 k2 (IsLeftUnbegun may_open k0)
        (came_unbegun k0 k1 may_open crash tells)
        (LeavesOnly-weaker k1 k2 (λ x. x ≡ Some (at_rest image)) (IsLeftUnbegun may_open k0)
        (λ l it. openings.rests image read.may it) (rests (subst IsTrue (sym goes.tells) tells)))

    -- the image that was listed, and why nothing begins with it
    why_not : (it : HasImageListed may_open c d) → it.image ≡ image → FindsNothing (opening_at it.image d)
        → (w : Unrestarted) → WhyUnstarted image count k2 n1 n2 w
        → WhyUnopened may_open k0.recalls k2 count n0 n2 c d w
    why_not it is nothing w (starting.fault rose fault) = openings.disk_fault
        (rose_since n0 n1 n2 goes.later rose)
        (openings.agreed it.image it.its (record { all = it.all; listed = it.listed; nothing = nothing })) fault
    why_not it is nothing w (starting.worn over worn_) = openings.worn it nothing
        (subst (λ (x : StateData). (2 ^ 62 < x.next.engine + count) ⊎ IsStuck k2) (sym is) over) worn_
    why_not it is nothing w (starting.memory lacks) = openings.memory (openings.listed it.all it.listed) lacks

    -- a book begins, or not, by what the cloud's list and the keeper came to
    pub opens_started : (r : Result (Unit {0}) Unrestarted) → Admits image c d r → r ≡ Ok tt
        → (result : Result Start Unrestarted) → Starts image count k1 k2 n1 n2 result
        → Opens may_open count k0 k2 n0 n2 c d result
    opens_started r (openings.agrees all lists nothing is) yes_ (Ok st) starts = record {
      started = record {
        found = record { image = image; its = its_image; all = all; listed = lists };
        opened = record {
          made = read.made;
          range = read.range;
          admitted = record { read = read.read; tied = read.tied; compared = nothing };
          some = some;
          few = few;
          below = starts.below;
          opens = starts.start.opening;
        };
        copied = starts.start.state ∙ sym starts.start.opening;
        silent = starts.start.silent;
        ready = subst (λ (s : StateData). IsReady k2 s) (sym starts.start.state) starts.ready;
      };
      went = went_through starts.leaves starts.goes_on;
      rests = tt;
      why = tt;
    }
    opens_started r (openings.agrees all lists nothing is) yes_ (Err w) starts = record {
      started = tt;
      went = went_through starts.leaves starts.goes_on;
      rests = λ ne. rests_through (starts.rests ne);
      why = why_not (record { image = image; its = its_image; all = all; listed = lists }) refl nothing w starts.why;
    }
    opens_started r (openings.disagrees all token finding lists found is) yes_ result starts =
        absurd (ok_or_not r tt _ yes_ is)
    opens_started r (openings.unlisted none is) yes_ result starts = absurd (ok_or_not r tt _ yes_ is)
    opens_started r (openings.lacking may is) yes_ result starts = absurd (ok_or_not r tt _ yes_ is)

-- nothing was read
pub opens_unread : (may_open : StateData → Type 0) (count : ℕ) (k0 k1 : ShownKeeper) (n0 n1 : ℕ) (c : Cloud)
    (fault : OpenFault) → GoesOn k0 k1 n0 n1 → (IsTrue k0.tells → LeavesOnly k0 k1 (ComesOf k0))
    → (fault ≡ open_fault.Foreign → IsTrue k0.recalls → IsForeign may_open)
    → (fault ≡ open_fault.DiskFault → Rose n0 n1)
    → Opens may_open count k0 k1 n0 n1 c c (Err (unread_for fault))
opens_unread may_open count k0 k1 n0 n1 c fault goes crash foreign rose = record {
  started = tt;
  went = went_at_once k0 k1 n0 n1 may_open count goes crash;
  rests = λ ne. came_unbegun k0 k1 may_open crash;
  why = by fault foreign rose;
} where
  by : (f : OpenFault) → (f ≡ open_fault.Foreign → IsTrue k0.recalls → IsForeign may_open)
      → (f ≡ open_fault.DiskFault → Rose n0 n1)
      → WhyUnopened may_open k0.recalls k1 count n0 n1 c c (unread_for f)
  by open_fault.Foreign f r = openings.foreign (f refl) (unasked c) refl
  by open_fault.DiskFault f r = openings.disk_fault (r refl) (openings.unasked (unasked c)) refl
  by open_fault.Memory f r = openings.memory (openings.unasked (unasked c)) refl

-- what the comparison came to, as said of the cloud that gave the list
module _ (image : StateData) (all : List Alive) (old new : Cloud) (lists : Lists all old new) where
  its_list : all ≡ new.alive
  its_list = lists.all_of_them ∙ sym lists.stays.alive

  pub nothing_found : ((leaving : Token → Bool)
      → FindsNothing (record { state = image; alive = all; leaving = leaving }))
      → FindsNothing (opening_at image new)
  nothing_found nothing = subst
      (λ (xs : List Alive). FindsNothing (record { state = image; alive = xs; leaving = new.leaving })) its_list
      (nothing new.leaving)

  pub this_found : (t : Token) (finding : Finding) → ((leaving : Token → Bool)
      → HasFound (record { state = image; alive = all; leaving = leaving }) t finding)
      → HasFound (opening_at image new) t finding
  this_found t finding found = subst
      (λ (xs : List Alive). HasFound (record { state = image; alive = xs; leaving = new.leaving }) t finding) its_list
      (found new.leaving)
