-- A run of turns alone: what is left of the work pays for each.
use Rattle.std.proofs.Common.{◌≡◌, ◌≤◌, ℕ, ◌+◌, List, ◌++◌, sym, subst, arith}
use Rattle.provider.specs.Cloud.{Cloud}
use Rattle.core_state.specs.Changes.{applied}
use Rattle.core_state.specs.State.{StateData}
use Rattle.core_state.specs.declared.entry.Entry.{Entry}
use Rattle.step_relation.specs.Steps.{Step, turn}
use Rattle.step_relation.specs.Could.{IsPossible}
use Rattle.step_relation.specs.Opening.{Opening}
use Rattle.step_relation.specs.Sound.{Sound}
use Rattle.workable_laws.proofs.Below.{possible_before}
use Rattle.graph_laws.proofs.whole.Whole.{steps_sound}
use Rattle.bound_laws.specs.Bound.{IsWork}
use Rattle.bound_laws.specs.Polls.{AreFew}
use Rattle.bound_laws.specs.Turned.{Turned, TurnsAreFew, begins, goes_on}
use Rattle.bound_laws.proofs.Full.{work_less}
use Rattle.bound_laws.proofs.Told.{work_exists, work_one}
use Rattle.bound_laws.proofs.Turning.{turns_lower}

module _ (o : Opening) (h : List Entry) (s : StateData) (opened : Cloud) (n : ℕ) (sound : Sound o h s)
    (w : IsWork opened.left s n) where
  -- what stands after so many turns
  record After (turns : ℕ) (t : StateData) (all : List Entry) (cloud : Cloud) : Type 0 where
    pub kept : Sound o all t
    pub few : AreFew opened
    pub spent : (m : ℕ) → IsWork cloud.left t m → turns + m ≤ n

  stands : (turns : ℕ) (t : StateData) (all : List Entry) (cloud : Cloud) → Turned s h opened turns t all cloud
      → IsPossible o all → After turns t all cloud
  stands turns t all cloud (begins _ _ _ _ none is told same few) possible = start t all cloud is told same where
    start : (t : StateData) (all : List Entry) (cloud : Cloud) → t ≡ s → all ≡ h → cloud ≡ opened
        → After turns t all cloud
    start t all cloud is told same = record {
      kept = subst (λ (x : StateData). Sound o all x) (sym is)
          (subst (λ (l : List Entry). Sound o l s) (sym told) sound);
      few = few;
      spent = λ m b.
          let b1 = subst (λ (x : StateData). IsWork cloud.left x m) is b in
          let b2 = subst (λ (c : Cloud). IsWork c.left s m) same b1 in
          let le = work_one opened.left s m n b2 w in
          omega (arith, le, none);
    }
  stands turns t all cloud (goes_on _ count mid _ so_far _ old _ run judges e given cs es it unworn few more is told)
      possible =
      let both : IsPossible o (so_far ++ es) = subst (IsPossible o) told possible in
      let k = stands count mid so_far old run (possible_before o so_far es both) in
      let step : Step mid cs es = turn e given it.turn unworn in
      let next : Sound o (so_far ++ es) (applied cs mid) =
      steps_sound judges o so_far mid cs es k.kept step it.tied both in
      let at = work_exists old.left mid in
      let paid = k.spent at.0 at.1 in
      record {
        kept = subst (λ (x : StateData). Sound o all x) (sym is)
            (subst (λ (l : List Entry). Sound o l (applied cs mid)) (sym told) next);
        few = k.few;
        spent = λ m b.
            let b1 = subst (λ (x : StateData). IsWork cloud.left x m) is b in
            let lt = turns_lower judges mid e given cs es old cloud at.0 m k.kept.standing it few at.1 b1 in
            omega (arith, paid, lt, more);
      }

pub turns_few : TurnsAreFew
turns_few o h all s t old new n m turns sound full run possible left =
    let w = work_exists old.left s in
    let k = stands o h s old w.0 sound w.1 turns t all new run possible in
    let spent = k.spent m left in
    let le = work_less old.left s w.0 n k.few w.1 full in
    omega (arith, spent, le)
