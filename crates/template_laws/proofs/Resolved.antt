-- An item's properties are the same with facts that agree where evaluation reads them.
use Rattle.std.proofs.Common.{◌≡◌, ◌++◌, ℕ, zero, suc, List, refl}
use Rattle.heat_plan.specs.Plans.{PlanData}
use Rattle.heat_plan.specs.declared.facts.KnownFacts.{KnownFacts}
use Rattle.heat_plan.specs.declared.item.Item.{Item}
use Rattle.heat_value.specs.Data.{Data, Members}
use Rattle.eval_words.specs.Evaluation.{evaluation_within, evaluation}
use Rattle.eval_words.specs.Outcomes.{max_levels, seen_from}
use Rattle.eval_words.specs.Reads.{all_reads, properties_reads, reads, reads_within}
use Rattle.eval_words.specs.Resolutions.{resolve, properties, properties_path, unless_large}
use Rattle.eval_words.specs.Scenes.{SceneData, present, scene_of}
use Rattle.template_laws.specs.Laws.{ReadsOnlyNamed, ReadsOnlyNeeds, ReadsOnlyRead}
use Rattle.template_laws.specs.Readings.{AgreeAt, AgreeOn}
use Rattle.template_laws.proofs.Alike.{value_alike, members_alike}
use Rattle.template_laws.proofs.Calls.{with_other}
use Rattle.template_laws.proofs.Same.{ReadsUnder, value_same, members_same}
use Rattle.template_laws.proofs.Told.{agree_everywhere, agree_present}

module _ (S : SceneData) (other : List KnownFacts) where
  -- what repeats make is the same, as deep as they stand in one another, where each name is told of alike
  within_same : ((name : List ℕ) → AgreeAt S.facts other name) → (depth l : ℕ) (d : Data) (n : ℕ)
      → evaluation_within depth S l d n ≡ evaluation_within depth (with_other S other) l d n
  within_same told zero l d n = refl
  within_same told (suc depth) l d n =
      value_same S other (evaluation_within depth S) (evaluation_within depth (with_other S other)) l d (record {
        told = λ name within. told name;
        one = λ is. within_same told depth;
      }) n

  whole_same : ((name : List ℕ) → AgreeAt S.facts other name) → (l : ℕ) (d : Data) (n : ℕ)
      → evaluation S l d n ≡ evaluation (with_other S other) l d n
  unfolding evaluation
  whole_same told = within_same told max_levels

  -- a map of properties is the same
  properties_same : (ms : Members) → ReadsUnder S other (evaluation S) (evaluation (with_other S other)) ms
      → properties S ms ≡ properties (with_other S other) ms
  properties_same ms reads =
      members_same S other (evaluation S) (evaluation (with_other S other)) max_levels ms reads 0

resolved_same : (plan : PlanData) (item : Item) (known other : List KnownFacts)
    → properties (scene_of plan known) item.props ≡ properties (scene_of plan other) item.props
    → resolve plan item known ≡ resolve plan item other
unfolding resolve
resolved_same plan item known other same = λ i. seen_from (λ p. properties_path item.name ++ p) (unless_large (same i))

-- a map of properties is the same where each name that is looked up is told of alike
module _ (S : SceneData) (other : List KnownFacts) where
  within_alike : (depth l : ℕ) (d : Data) (n : ℕ) → AgreeOn (reads_within depth S l d n) S.facts other
      → evaluation_within depth S l d n ≡ evaluation_within depth (with_other S other) l d n
  within_alike zero l d n told = refl
  within_alike (suc depth) l d n told =
      value_alike S other (evaluation_within depth S) (evaluation_within depth (with_other S other)) (reads_within depth S)
      (within_alike depth) l d n told

  whole_alike : (l : ℕ) (d : Data) (n : ℕ) → AgreeOn (all_reads S l d n) S.facts other
      → evaluation S l d n ≡ evaluation (with_other S other) l d n
  unfolding evaluation all_reads
  whole_alike = within_alike max_levels

  properties_alike : (ms : Members) → AgreeOn (properties_reads S ms) S.facts other
      → properties S ms ≡ properties (with_other S other) ms
  properties_alike ms told =
      members_alike S other (evaluation S) (evaluation (with_other S other)) (all_reads S) whole_alike max_levels ms 0 told

pub reads_read : ReadsOnlyRead
unfolding reads
reads_read plan item known other agree =
    resolved_same plan item known other
    (properties_alike (scene_of plan known) (present plan.absent other) item.props (λ name within.
    agree_present plan.absent known other name (agree name within)))

pub reads_needs : ReadsOnlyNeeds
reads_needs plan item known other one two agree =
    resolved_same plan item known other
    (properties_same (scene_of plan known) (present plan.absent other) item.props (record {
      told = λ name within. told name;
      one = λ is. whole_same (scene_of plan known) (present plan.absent other) told;
    }))
  where
    told : (name : List ℕ) → AgreeAt (present plan.absent known) (present plan.absent other) name
    told name = agree_present plan.absent known other name
        (λ is. agree_everywhere item.needs known other one two agree name)

pub reads_named : ReadsOnlyNamed
reads_named plan item known other none agree =
    resolved_same plan item known other
    (properties_same (scene_of plan known) (present plan.absent other) item.props (record {
      told = λ name within. agree_present plan.absent known other name (agree name within);
      one = λ is. cc;
    }))
