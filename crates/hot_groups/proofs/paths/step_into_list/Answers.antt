use Rattle.eval_words.specs.Lookups.{place_in}
use Rattle.heat_value.specs.Meaning.{data_of}
use Rattle.hot_groups.proofs.Places.{at_named}
use Rattle.hot_groups.proofs.paths.step_into_list.Goals as goal

pub returns-in-Some : goal.returns-in-Some
returns-in-Some c =
    at_named c.args.values.now (place_in (data_of c.args.step.now)) c.in-Some.at c.get.result c.in-Some.ensures
    c.get.ensures.lookup
