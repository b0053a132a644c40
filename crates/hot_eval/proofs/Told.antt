-- What an evaluation from the root looked up.
use Rattle.std.proofs.Common.{◌≡◌, ◌≢◌, ◌∙◌, ℕ, List, [], Option, Some, None, Result, Ok, Err, refl, ap}
use Rattle.heat_plan.specs.Plans.{PlanData}
use Rattle.heat_plan.specs.declared.facts.KnownFacts.{KnownFacts}
use Rattle.heat_plan.specs.declared.item.Item.{Item}
use Rattle.heat_value.specs.Data.{Members}
use Rattle.eval_words.specs.Evaluation.{Leveled, evaluation}
use Rattle.eval_words.specs.Looks.{Looks, LeveledReading}
use Rattle.eval_words.specs.Outcomes.{max_levels}
use Rattle.eval_words.specs.Reads.{all_reads, members_reads, reads}
use Rattle.eval_words.specs.Scenes.{SceneData, scene_of}
use Rattle.eval_words.specs.declared.fault.EvalFault.{EvalFault}
use Rattle.eval_words.specs.declared.fault.EvalFault.TheVariants as fault
use Rattle.hot_eval.specs.Noted.{noted, IsNoted}
use Rattle.hot_eval.proofs.Noting.{noted-new}

-- where there was memory, all names were noted
pub told_all : {V : Type 0} (r : Result V EvalFault) (old new : Option Looks) (a : Looks) → r ≢ Err fault.Memory → old ≡ Some []
    → IsNoted r old new a → new ≡ Some a
told_all (Ok v) old new a told none is = is ∙ ap (noted a) none ∙ noted-new a
told_all (Err (fault.Wrong c p)) old new a told none is = is ∙ ap (noted a) none ∙ noted-new a
told_all (Err fault.Memory) old new a told none is = absurd (told refl)

-- these names are those of an item's properties
pub properties_told : (plan : PlanData) (item : Item) (known : List KnownFacts) (X : Leveled) (Q : LeveledReading)
    (T : SceneData) (L n : ℕ) (ms : Members) → T ≡ scene_of plan known → X ≡ evaluation (scene_of plan known)
    → Q ≡ all_reads (scene_of plan known) → L ≡ max_levels → n ≡ 0 → ms ≡ item.props
    → members_reads X Q T L ms n ≡ reads plan item known
unfolding reads
properties_told plan item known X Q T L n ms scene again all levels none same =
    ap (λ (x : Leveled). members_reads x Q T L ms n) again
    ∙ ap (λ (x : LeveledReading). members_reads (evaluation (scene_of plan known)) x T L ms n) all
    ∙ ap (λ (s : SceneData). members_reads (evaluation (scene_of plan known)) (all_reads (scene_of plan known)) s L ms n) scene
    ∙ ap (λ l. members_reads (evaluation (scene_of plan known)) (all_reads (scene_of plan known)) (scene_of plan known) l ms n)
    levels
    ∙ ap (λ (l : Members). members_reads (evaluation (scene_of plan known)) (all_reads (scene_of plan known))
    (scene_of plan known) max_levels l n) same
    ∙ ap (members_reads (evaluation (scene_of plan known)) (all_reads (scene_of plan known)) (scene_of plan known) max_levels
    item.props) none

pub names_are : (names : Looks) (new : Option Looks) (a b : Looks) → Some names ≡ new → new ≡ Some a → a ≡ b → names ≡ b
names_are names new a b at told same = let all : Some names ≡ Some b = at ∙ told ∙ ap Some same in cc

pub names_there : (new : Option Looks) (a : Looks) → None ≡ new → new ≡ Some a → ⊥
names_there new a at told = let none : None ≡ Some a = at ∙ told in cc
