-- What a book keeps through the commit of an older look.
use Rattle.std.proofs.Common.{ap, refl, subst, ℕ, ◌≡◌}
use Rattle.std.specs.Prelude.{List, None, Option}
use Rattle.provider.specs.Cloud.{Cloud}
use Rattle.core_state.specs.State.{StateData}
use Rattle.core_state.specs.declared.entry.Entry.{Entry}
use Rattle.check_steps.specs.Looks.{HasNext, IsOther, IsWork}
use Rattle.check_steps.specs.Prepares.{IsPrepared}
use Rattle.check_steps.specs.declared.looks.BeginWork.{BeginWork}
use Rattle.check_steps.specs.declared.looks.Work.TheVariants as work
use Rattle.check_steps.specs.declared.prepared.Prepared.TheVariants as prepared
use Rattle.check_steps.specs.declared.prepared.Prepared.{Prepared}
use Rattle.record_keeper.specs.Laws.{IsLawful}
use Rattle.record_keeper.specs.Shown.{ShownKeeper}
use Rattle.book.specs.Behind.{CommitsTo, Turns}
use Rattle.book.specs.Commits as commits
use Rattle.book.specs.Commits.{Commits, MayBegin}
use Rattle.book.specs.Keeping.{IsReady}
use Rattle.book.specs.Kept.{IsKept}
use Rattle.book.specs.declared.halting.Halt.{Halt}
use Rattle.book.specs.Scenes.{IsUnmade, Scene, scene}
use Rattle.check_steps.specs.declared.looks.Work.{Work}
use Rattle.book.specs.declared.turning.Turn.TheVariants as turn
use Rattle.book.specs.declared.turning.Turn.{Turn as Turn_answer}
use Rattle.book.proofs.Engined.{turned_live}
use Rattle.book.proofs.Growing.{stays, unasked}
use Rattle.book.proofs.Keepers.{itself, untouched}
use Rattle.book.proofs.KeptTurned.{kept_turned}

module _ (first : StateData) (origin : Cloud) where
  pub kept_committed : (e : ℕ) (w : Work) (old new : Scene) (result : Turn_answer) (halt : Option Halt)
      → IsKept first origin old.state old.entries old.cloud None
      → Commits e w old new result → IsKept first origin new.state new.entries new.cloud halt
  kept_committed e w old new result halt kept (commits.fenced is other same) =
      stays first origin _ _ _ _ _ _ halt kept same.state same.entries same.cloud
  kept_committed e w old new result halt kept (commits.made still turned) =
      kept_turned first origin e old new result halt kept turned
  kept_committed e w old new result halt kept (commits.unmade is same) =
      stays first origin _ _ _ _ _ _ halt kept same.state same.entries same.cloud

-- neither a turn nor the fence changes which engines are live
pub committed_live : (e : ℕ) (w : Work) (old new : Scene) (result : Turn_answer) → Commits e w old new result
    → new.state.live ≡ old.state.live
committed_live e w old new result (commits.fenced is other same) = ap (λ (x : StateData). x.live) same.state
committed_live e w old new result (commits.made still turned) = turned_live e old new result turned
committed_live e w old new result (commits.unmade is same) = ap (λ (x : StateData). x.live) same.state

-- nothing has changed
pub unmade_at : (x : Scene) → IsUnmade x x
unmade_at x = record { state = refl; entries = refl; cloud = unasked x.cloud }

-- a look that isn't overtaken, and what was prepared for it
pub may_begin : (s : StateData) (e : ℕ) (w : Work) (v : BeginWork) (p : Prepared) → w ≡ work.Begin v
    → (HasNext s e → IsWork s e w) → IsPrepared w p → MayBegin s e p
may_begin s e w v p is still given = record {
  work = v;
  still = λ next. subst (λ (x : Work). IsWork s e x) is (still next);
  given = subst (λ (x : Work). IsPrepared x p) is given;
}

-- nothing is prepared for a plain look, which takes no memory
pub plain_has_memory : (w : Work) (p : Prepared) → w ≡ work.Plain → IsPrepared w p → ¬ (p ≡ prepared.Memory)
plain_has_memory w p is given lacks =
    let plain : p ≡ prepared.Plain = subst (λ (x : Work). IsPrepared x p) is given in cc

-- the fence, and a turn behind it
pub fences_off : (e : ℕ) (w : Work) (s : StateData) (h : List Entry) (c : Cloud) (k : ShownKeeper)
    (may_open : StateData → Type 0) → IsLawful may_open k → (n : ℕ) → IsReady k s → IsOther s e w
    → CommitsTo e w (scene s h c) (scene s h c) k k n n turn.Stepped
fences_off e w s h c k may_open lawful n ready other = record {
  committed = commits.fenced refl other (unmade_at (scene s h c));
  kept = untouched k k (itself k) may_open lawful n n s s _ refl ready refl (λ f. cc);
}

pub committed_as : (e : ℕ) (w : Work) (old new : Scene) (k l : ShownKeeper) (n0 n1 : ℕ) (r : Turn_answer)
    → (HasNext old.state e → IsWork old.state e w) → Turns e old new k l n0 n1 r → CommitsTo e w old new k l n0 n1 r
committed_as e w old new k l n0 n1 r still it = record { committed = commits.made still it.turned; kept = it.kept }
