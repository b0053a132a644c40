-- What an item's properties depend on.
use Rattle.std.specs.Prelude.{◌≡◌, ℕ, List, false, Contains}
use Rattle.heat_plan.specs.Plans.{PlanData}
use Rattle.heat_plan.specs.declared.facts.KnownFacts.{KnownFacts}
use Rattle.heat_plan.specs.declared.item.Item.{Item}
use Rattle.eval_words.specs.Needs.{references_under}
use Rattle.eval_words.specs.Reads.{reads}
use Rattle.eval_words.specs.Resolutions.{resolve}
use Rattle.eval_words.specs.Scenes.{is_one_of}
use Rattle.template_laws.specs.Readings.{AgreeAt, AgreeOn, TellsOf, repeats_under}

-- the properties of an item are the same with both, where both tell of its needs alone and agree there
abbrev pub ReadsOnlyNeeds : Type 0
ReadsOnlyNeeds = (plan : PlanData) (item : Item) (known other : List KnownFacts) → TellsOf item.needs known
    → TellsOf item.needs other → AgreeOn item.needs known other → resolve plan item known ≡ resolve plan item other

-- both agree at each name that the properties refer to, but for absent ones
abbrev pub AgreeWherePresent : PlanData → Item → List KnownFacts → List KnownFacts → Type 0
AgreeWherePresent plan item known other = (name : List ℕ) → Contains (references_under item.props) name
    → is_one_of plan.absent name ≡ false → AgreeAt known other name

-- both agree at each name that the evaluation of the properties with the first looks up, but for absent ones
abbrev pub AgreeWhereRead : PlanData → Item → List KnownFacts → List KnownFacts → Type 0
AgreeWhereRead plan item known other = (name : List ℕ) → Contains (reads plan item known) name
    → is_one_of plan.absent name ≡ false → AgreeAt known other name

-- nothing counts but the facts of the names that are looked up
abbrev pub ReadsOnlyRead : Type 0
ReadsOnlyRead = (plan : PlanData) (item : Item) (known other : List KnownFacts) → AgreeWhereRead plan item known other
    → resolve plan item known ≡ resolve plan item other

-- where no repeat stands in the properties of an item, which may make names, nothing else that is known counts
abbrev pub ReadsOnlyNamed : Type 0
ReadsOnlyNamed = (plan : PlanData) (item : Item) (known other : List KnownFacts) → repeats_under item.props ≡ false
    → AgreeWherePresent plan item known other → resolve plan item known ≡ resolve plan item other
