-- What a restart answers, and what it halts a book with.
use Rattle.std.proofs.Common.{ap, refl, subst, sym, ℕ, ◌∙◌, ◌≡◌}
use Rattle.std.specs.Prelude.{Bool, Err, IfErr, List, None, Ok, OnOk, Option, Result, Some}
use Rattle.heat_value.specs.Counts.{Rose}
use Rattle.provider.specs.Cloud.{Cloud}
use Rattle.core_state.specs.State.{StateData}
use Rattle.core_state.specs.declared.change.Change.{Change}
use Rattle.record_keeper.specs.Shown.{ShownKeeper}
use Rattle.book.specs.Halting.{halt_behind}
use Rattle.book.specs.Halts.{IsHaltedAs}
use Rattle.book.specs.Keeping.{KeptBy}
use Rattle.book.specs.Kept.{IsHeld, Shown}
use Rattle.book.specs.Restarts.{IsHaltedBy, RestartBreaks, RestartDoes, RestartsAs, Restarts, halt_of}
use Rattle.book.specs.Restarts as restarts
use Rattle.book.specs.Scenes.{Scene, scene_of}
use Rattle.book.specs.declared.halting.Halt.TheVariants as halt
use Rattle.book.specs.declared.halting.Halt.{Halt}
use Rattle.book.specs.declared.restarting.Unrestarted.TheVariants as why
use Rattle.book.specs.declared.restarting.Unrestarted.{Unrestarted}
use Rattle.book.proofs.Held.{held_on, rose_since}

-- a fault of the keeper halts with one
fault_halts : (r : Result (Unit {0}) Unrestarted) → r ≡ Err why.DiskFault → halt_behind r ≡ Some halt.DiskFault
fault_halts r is = ap halt_behind is

refusal_halts : (first now : ℕ) (s : StateData) (w : Unrestarted) → (w ≡ why.DiskFault → Rose first now)
    → IsHaltedAs first now s (Some (halt_of w))
refusal_halts first now s why.Foreign rose = tt
refusal_halts first now s (why.Disagree token finding) rose = tt
refusal_halts first now s why.DiskFault rose = rose refl
refusal_halts first now s why.CloudFault rose = tt
refusal_halts first now s why.Worn rose = tt
refusal_halts first now s why.Memory rose = tt

restart_halts : (first now : ℕ) (s : StateData) (r : Result (Unit {0}) Unrestarted)
    → (r ≡ Err why.DiskFault → Rose first now) → IsHaltedAs first now s (halt_behind r)
restart_halts first now s (Ok u) rose = tt
restart_halts first now s (Err w) rose = refusal_halts first now s w (λ f. rose (ap Err f))

-- what is kept of the keeper through a restart
pub held_restarted : (origin k l : ShownKeeper) (first mid now : ℕ) (s t : StateData) (cs : List Change)
    (h : Option Halt) (r : Result (Unit {0}) Unrestarted) → IsHeld origin k first mid s None → h ≡ halt_behind r
    → KeptBy k l mid now s t cs (r ≡ Err why.DiskFault) → IsHeld origin l first now t h × IsHaltedAs first now t h
held_restarted origin k l first mid now s t cs h r held is kept = (
  held_on origin first k l mid now s t cs (r ≡ Err why.DiskFault) h held kept (λ ne f. ne (is ∙ fault_halts r f)),
  subst (λ (x : Option Halt). IsHaltedAs first now t x) (sym is)
      (restart_halts first now t r (λ f. rose_since first mid now held.goes_on.later (kept.rose f))),
)

-- what it makes of a book
pub restarted_well : (recalls : Bool) (count : ℕ) (old new : Scene) (r : Result (Unit {0}) Unrestarted)
    → RestartsAs recalls count old new r → OnOk r (RestartDoes count old new)
restarted_well recalls count old new r (restarts.done does is) =
    subst (λ (x : Result (Unit {0}) Unrestarted). OnOk x (RestartDoes count old new)) (sym is) does
restarted_well recalls count old new r (restarts.refused w breaks same silent is) =
    subst (λ (x : Result (Unit {0}) Unrestarted). OnOk x (RestartDoes count old new)) (sym is) tt

pub unhalted_behind : (r : Result (Unit {0}) Unrestarted) (h : Option Halt) → h ≡ halt_behind r → OnOk r (h ≡ None)
unhalted_behind (Ok u) h is = is
unhalted_behind (Err w) h is = tt

pub refused_behind : {K P : Type 0} (shown : K → ShownKeeper) (faults_of : K → ℕ) (cloud_of : P → Cloud) (count : ℕ)
    (old new : Shown K P) (r : Result (Unit {0}) Unrestarted) → new.halt ≡ halt_behind r
    → Restarts count (scene_of cloud_of old) (scene_of cloud_of new) (shown old.keeper) (shown new.keeper)
    (faults_of old.keeper) (faults_of new.keeper) r → IfErr r (IsHaltedBy shown faults_of cloud_of count old new)
refused_behind {K} {P} shown faults_of cloud_of count old new (Ok u) is it = tt
refused_behind {K} {P} shown faults_of cloud_of count old new (Err v) is it = by it.does where
  one : (a b : Unrestarted) → ◌≡◌ {A = Result (Unit {0}) Unrestarted} (Err a) (Err b) → b ≡ a
  one a b e = cc

  by : RestartsAs (shown old.keeper).recalls count (scene_of cloud_of old) (scene_of cloud_of new) (Err v)
      → IsHaltedBy shown faults_of cloud_of count old new v
  by (restarts.done does no_) = cc
  by (restarts.refused w breaks same silent no_) = record {
    state = same;
    entries = silent;
    breaks = subst (RestartBreaks (shown old.keeper).recalls count (scene_of cloud_of old) (scene_of cloud_of new))
        (one v w no_) breaks;
    halted = is;
    rose = λ f. it.kept.rose (ap Err f);
  }
