-- What the program's one call comes to, which keeps nothing, and how the program ends by it.
use Rattle.std.specs.Prelude.{◌≡◌, ◌⊎◌, ℕ, List, Option, None, Some, Result}
use Rattle.step_relation.specs.Laws.{SoundAt}
use Rattle.record_keeper.specs.Nothing.{nothing_kept, opens_empty}
use Rattle.record_keeper.specs.declared.unkept.Unkept.{Unkept}
use Rattle.sim_cloud.specs.Settings.{HasNothingSet}
use Rattle.sim_cloud.specs.Simulated.{cloud_of}
use Rattle.sim_cloud.specs.declared.settings.Settings.{Settings}
use Rattle.sim_cloud.specs.declared.sim_cloud.SimCloud.{SimCloud}
use Rattle.cloud_file.specs.Files.{IsMadeOf}
use Rattle.converge_call.specs.Ends.{AsksFor, HasDriven, IsUnopened, OpensFor, Outside, first_scene}
use Rattle.converge_call.specs.Kept.{Shown}
use Rattle.converge_call.specs.Scenes.{scene_of}
use Rattle.converge_call.specs.Shipped.{shipped_stock}
use Rattle.converge_call.specs.Words.{IsForm, setup_of}
use Rattle.converge_call.specs.declared.exit.Exit.{Exit}
use Rattle.converge_call.specs.declared.exit.Exit.TheVariants as exit
use Rattle.converge_call.specs.declared.setup.Mode.{Mode}
use Rattle.heat_converge.specs.Ended.{ended_of, kept_of}
use Rattle.heat_converge.specs.declared.ended.Ended.{Ended}
use Rattle.heat_converge.specs.declared.ended.Ended.TheVariants.{Called}
use Rattle.heat_converge.specs.declared.kept_cloud.KeepFault.{KeepFault}

-- a cloud of which nothing is set, and of which no call was made
pub record IsEmptyCloud (c : SimCloud) : Type 0 where
  pub settings : Settings
  pub none : HasNothingSet settings
  pub made : IsMadeOf settings c

-- the file that the words name for the cloud; none where they are no form, or name none
pub record IsFileSaid (words : List (List ℕ)) (path : Option (List ℕ)) : Type 0 where
  pub said : (m : Mode) → IsForm words m → path ≡ (setup_of m).cloud
  pub unsaid : ((m : Mode) → ¬ IsForm words m) → path ≡ None

-- no book was opened, for its cause; or one was driven, from a sound opening, since nothing is kept; the cloud that is
-- left is the call's
pub data HasCalled (words : List (List ℕ)) (cloud left : SimCloud) (status : Exit) : Type 0 where
  unopened : (k l : Unkept)
      → IsUnopened (λ (x : Unkept). opens_empty) (λ (x : Unkept). nothing_kept) (λ (x : Unkept). 0) cloud_of
      (AsksFor words) (record { keeper = k; cloud = cloud }) (record { keeper = l; cloud = left }) status
      → HasCalled words cloud left status
  driven : (b : Shown Unkept SimCloud) (old new : Outside)
      → OpensFor opens_empty words nothing_kept nothing_kept 0 0 (cloud_of cloud) (cloud_of b.origin.cloud) b.opening
      → SoundAt b.opening (cloud_of b.origin.cloud)
      → HasDriven shipped_stock nothing_kept nothing_kept (first_scene cloud_of b) (scene_of cloud_of b) b.halt old new
      status
      → left ≡ b.cloud → HasCalled words cloud left status

-- the cloud of a file wasn't read; or the call was made over it, and what was left stored, or not
pub data EndsOver (words : List (List ℕ)) (result : Ended) : Type 0 where
  unloaded : (fault : KeepFault) → result ≡ kept_of fault → EndsOver words result
  called : (cloud left : SimCloud) (status : Exit) (stored : Result (Unit {0}) KeepFault)
      → HasCalled words cloud left status → result ≡ ended_of status stored → EndsOver words result

-- the words name a file, over whose cloud the call was made; or none, and it was made over an empty cloud
pub data EndsBy (words : List (List ℕ)) (result : Ended) : Type 0 where
  over : (path : List ℕ) → IsFileSaid words (Some path) → EndsOver words result → EndsBy words result
  empty : (cloud left : SimCloud) (status : Exit) → IsFileSaid words None → IsEmptyCloud cloud
      → HasCalled words cloud left status → result ≡ Called status → EndsBy words result

-- there were no words that could be a form, or no memory for them; or the call was made by its words
pub data EndsSo (result : Ended) : Type 0 where
  unsaid : (result ≡ Called exit.Usage) ⊎ (result ≡ Called exit.Memory) → EndsSo result
  said : (words : List (List ℕ)) → EndsBy words result → EndsSo result
