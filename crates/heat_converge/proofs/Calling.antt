-- What the program's one call comes to, by what is left of it.
use Rattle.std.proofs.Common.{subst, sym, ◌≡◌, ℕ}
use Rattle.std.specs.Prelude.{Err, IfOk, List, Ok, Result}
use Rattle.record_keeper.specs.Nothing.{nothing_kept, opens_empty}
use Rattle.record_keeper.specs.declared.unkept.Unkept.{Unkept}
use Rattle.sim_cloud.specs.Simulated.{cloud_of}
use Rattle.sim_cloud.specs.declared.sim_cloud.SimCloud.{SimCloud}
use Rattle.converge_call.specs.Ends.{AsksFor, HasDriven, IsUnopened, OpensFor, Outside, first_scene}
use Rattle.converge_call.specs.Kept.{Shown}
use Rattle.converge_call.specs.Laws.{NothingKeptOpensSound}
use Rattle.converge_call.specs.Scenes.{scene_of}
use Rattle.converge_call.specs.Shipped.{shipped_stock}
use Rattle.converge_call.specs.declared.exit.Exit.{Exit}
use Rattle.heat_converge.specs.Called.{EndsBy, EndsSo, HasCalled, driven, said, unopened}
use Rattle.heat_converge.specs.declared.ended.Ended.{Ended}

-- no book was opened, and the cloud is the one that is left
pub called_unopened : (words : List (List ℕ)) (cloud left p : SimCloud) (k l : Unkept) (status : Exit)
    → IsUnopened (λ (x : Unkept). opens_empty) (λ (x : Unkept). nothing_kept) (λ (x : Unkept). 0) cloud_of
    (AsksFor words) (record { keeper = k; cloud = cloud }) (record { keeper = l; cloud = p }) status
    → left ≡ p → HasCalled words cloud left status
called_unopened words cloud left p k l status why is = unopened k l
    (subst (λ (x : SimCloud). IsUnopened (λ (y : Unkept). opens_empty) (λ (y : Unkept). nothing_kept) (λ (y : Unkept). 0)
    cloud_of (AsksFor words) (record { keeper = k; cloud = cloud }) (record { keeper = l; cloud = x }) status) (sym is) why)

-- a book was driven: over nothing its opening is sound
pub called_driven : NothingKeptOpensSound → (words : List (List ℕ)) (cloud left : SimCloud) (b : Shown Unkept SimCloud)
    (old new : Outside) (status : Exit)
    → OpensFor opens_empty words nothing_kept nothing_kept 0 0 (cloud_of cloud) (cloud_of b.origin.cloud) b.opening
    → HasDriven shipped_stock nothing_kept nothing_kept (first_scene cloud_of b) (scene_of cloud_of b) b.halt old new
    status
    → left ≡ b.cloud → HasCalled words cloud left status
called_driven sound words cloud left b old new status opens drove is = driven b old new opens
    (sound _ _ _ _ opens.opens).1 drove is

-- as the call by its words ended, the program ends
pub said_so : {E : Type 0} (words : List (List ℕ)) (r : Result Ended E) → IfOk r (EndsBy words) → IfOk r EndsSo
said_so words (Ok ended) by = said words by
said_so words (Err e) by = tt
