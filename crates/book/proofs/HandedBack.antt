-- What an opening answers, once keeper and cloud are handed on.
use Rattle.std.proofs.Common.{refl, subst, sym, ℕ, ◌∙◌, ◌≡◌}
use Rattle.std.specs.Prelude.{Err}
use Rattle.provider.specs.Cloud.{Cloud}
use Rattle.core_state.specs.State.{StateData}
use Rattle.record_keeper.specs.Shown.{ShownKeeper}
use Rattle.book.specs.Kept.{Shown}
use Rattle.book.specs.Openings.{HasOpened, IsUnopened, OpensKeeper}
use Rattle.book.specs.Starting.{Begins, HasStarted, Opens, first_book}
use Rattle.book.specs.declared.opening.Start.{Start}
use Rattle.book.specs.declared.restarting.Unrestarted.{Unrestarted}

-- a start is that of an image which was admitted
pub begins_with : (may_open : StateData → Type 0) (count : ℕ) (k : ShownKeeper) (c d : Cloud) (start : Start)
    → HasStarted may_open count k c d start → Begins k d start
begins_with may_open count k c d start it = record {
  image = it.found.image;
  count = count;
  opened = it.opened;
  copied = it.copied;
  silent = it.silent;
  ready = it.ready;
}

module _ {K P : Type 0} (shown : K → ShownKeeper) (faults_of : K → ℕ) (cloud_of : P → Cloud)
    (may_open : StateData → Type 0) (count : ℕ) (keeper l : K) (cloud q : P) where
  pub opened_book : (start : Start) (x b : Shown K P) → x ≡ first_book start l q → x ≡ b
      → HasStarted may_open count (shown l) (cloud_of cloud) (cloud_of q) start
      → OpensKeeper may_open count (shown keeper) (shown l) (faults_of keeper) (faults_of l)
      → HasOpened may_open shown faults_of cloud_of count keeper cloud b
  opened_book start x b first is it went =
      subst (λ (y : Shown K P). HasOpened may_open shown faults_of cloud_of count keeper cloud y) (sym first ∙ is) (record {
        found = it.found;
        opened = it.opened;
        went = went;
        state = it.copied;
        entries = it.silent;
        keeper_is = refl;
        cloud_is = refl;
        unhalted = refl;
      })

  -- both are handed back
  pub unopened_as : (m : K) (p : P) (v w : Unrestarted) → v ≡ w → l ≡ m → q ≡ p
      → Opens may_open count (shown keeper) (shown l) (faults_of keeper) (faults_of l) (cloud_of cloud) (cloud_of q)
      (Err v)
      → IsUnopened may_open count (shown keeper) (shown m) (faults_of keeper) (faults_of m) (cloud_of cloud) (cloud_of p) w
  unopened_as m p v w is same alike it = subst (λ (x : K). IsUnopened may_open count (shown keeper) (shown x)
      (faults_of keeper) (faults_of x) (cloud_of cloud) (cloud_of p) w) same
      (subst (λ (x : P). IsUnopened may_open count (shown keeper) (shown l)
      (faults_of keeper) (faults_of l) (cloud_of cloud) (cloud_of x) w) alike
      (subst (λ (x : Unrestarted). IsUnopened may_open count (shown keeper) (shown l) (faults_of keeper) (faults_of l)
      (cloud_of cloud) (cloud_of q) x) is (record { went = it.went; rests = it.rests; why = it.why })))
