-- What a book keeps makes its state workable; from a sound opening it is sound, and the history has the main theorem.
use Rattle.std.proofs.Common.{List, [], arith, subst, sym}
use Rattle.std.specs.Prelude.{Contains, Option, ◌≢◌}
use Rattle.provider.specs.Cloud.{Cloud, state_of}
use Rattle.core_state.specs.State.{StateData}
use Rattle.core_state.specs.declared.entry.Entry.{Entry}
use Rattle.step_relation.specs.Could.{IsPossible, could_of}
use Rattle.step_relation.specs.Laws.{opening_at}
use Rattle.step_relation.specs.Runs.{Run}
use Rattle.step_relation.specs.Sound.{Sound}
use Rattle.graph_laws.proofs.whole.Whole.{runs_headline, runs_sound}
use Rattle.dep_graph.specs.Lists.{IsRising}
use Rattle.workable_laws.proofs.Runs.{runs_stay}
use Rattle.workable_laws.specs.Admitted.{restarted}
use Rattle.workable_laws.specs.Workable.{Workable}
use Rattle.book.specs.Kept.{HasHeadline, IsKept, IsSoundOpening, Shown, registries}
use Rattle.book.specs.WorkableOver.{IsWorkable, IsWorkableOver}
use Rattle.book.specs.declared.halting.Halt.{Halt}
use Rattle.book.proofs.Rising.{is_rising, run_rises}

-- a list that has something isn't empty
filled : {A : Type 0} (xs : List A) (x : A) → Contains xs x → xs ≢ []
filled xs x among is = let c = subst (λ (ys : List _). Contains ys x) is among in absurd (omega (arith, c.1))

module _ (first : StateData) (origin : Cloud) (s : StateData) (h : List Entry) (c : Cloud) (halt : Option Halt)
    (kept : IsKept first origin s h c halt) where
  -- each token is in one of its states
  pub possible : IsPossible (opening_at first origin) h
  possible t = filled (could_of (opening_at first origin) h t) (state_of c t) (kept.agrees t)

  its_run : Run registries (restarted (opening_at kept.image origin) kept.count).state s h
  its_run = subst (λ (x : StateData). Run registries x s h) kept.opened.opens kept.run

  pub workable : Workable (opening_at first origin) h s
  workable = subst (λ (x : StateData). Workable (opening_at x origin) h s) (sym kept.opened.opens)
      (runs_stay registries (opening_at kept.image origin) kept.count s h kept.opened.admitted its_run)

  pub over : IsWorkableOver s h c
  over = record { opening = opening_at first origin; workable = workable; shows = kept.agrees }

  pub alone : IsWorkable s
  alone = record { opening = opening_at first origin; history = h; workable = workable }

  pub sound : Sound (opening_at first origin) [] first → Sound (opening_at first origin) h s
  sound first_sound = runs_sound registries (opening_at first origin) s h first_sound kept.run possible

  -- and the live engines stand by rising number
  pub rising : IsRising s.live
  rising = is_rising s.live (run_rises registries (opening_at kept.image origin) kept.count kept.opened.admitted s h
      its_run)

-- the main theorem of what a book shows
pub headline_of : {K P : Type 0} (cloud_of : P → Cloud) (b : Shown K P)
    → IsKept b.opening (cloud_of b.origin.cloud) b.state b.entries (cloud_of b.cloud) b.halt
    → IsSoundOpening cloud_of b → HasHeadline cloud_of b
headline_of cloud_of b kept sound_ = record {
  headline = runs_headline registries (opening_at b.opening (cloud_of b.origin.cloud)) b.state b.entries sound_
      kept.run
      (possible b.opening (cloud_of b.origin.cloud) b.state b.entries (cloud_of b.cloud) b.halt kept);
  agrees = kept.agrees;
}
