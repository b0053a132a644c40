-- What evaluation reads beside the value itself.
use Rattle.std.specs.Prelude.{ℕ, List, [], Bool, not, bytes_eq, Option, option_map, unwrap_or, find}
use Rattle.std.specs.List.{filter, list_any}
use Rattle.heat_value.specs.Data.{Members}
use Rattle.heat_plan.specs.Plans.{PlanData}
use Rattle.heat_plan.specs.declared.facts.Facts.{Facts}
use Rattle.heat_plan.specs.declared.facts.KnownFacts.{KnownFacts}
use Rattle.heat_plan.specs.declared.conditions.Condition.{Condition}
use Rattle.heat_plan.specs.declared.files.File.{File}
use Rattle.eval_words.specs.ValuedConds.{valued_data}
use Rattle.eval_words.specs.declared.scene.Scene.{Scene}

-- parameters and their values, the conditions that have a value, files, and the facts of resources
pub record SceneData : Type 0 where
  pub params : Members
  pub conds : List Condition
  pub files : List File
  pub facts : List KnownFacts

-- the name is among these
abbrev pub is_one_of : List (List ℕ) → List ℕ → Bool
is_one_of names name = list_any (bytes_eq name) names

-- the first facts that are told of a name
abbrev pub facts_told : List KnownFacts → List ℕ → Option Facts
facts_told known name = option_map (λ (k : KnownFacts). k.facts) (find (λ (k : KnownFacts). bytes_eq k.name name) known)

-- the facts of resources that aren't absent: what is absent has none, whatever is told
abbrev pub present : List (List ℕ) → List KnownFacts → List KnownFacts
present absent known = filter (λ (k : KnownFacts). not (is_one_of absent k.name)) known

-- what a scene of the program shows
abbrev pub scene_data : Scene → SceneData
scene_data s = record {
  params = s.params.now;
  conds = valued_data s.conds;
  files = unwrap_or (option_map (λ f. f.now) s.files) [];
  facts = present s.absent.now s.facts.now;
}

-- what a plan gives to read, with the facts that are known
abbrev pub scene_of : PlanData → List KnownFacts → SceneData
scene_of plan known = record {
  params = plan.params;
  conds = plan.conds;
  files = plan.files;
  facts = present plan.absent known;
}
