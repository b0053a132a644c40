use Rattle.std.proofs.Common.{◌∙◌, rules}
use Rattle.hot_admit.proofs.NameMarks.{none_marked}
use Rattle.hot_admit.proofs.needs.marks_of.Goals as goal

pub loop-name-init : goal.loop-name-init
loop-name-init c =
    c.in_ok-marks.ensures.items_if_clones_equal (λ y same. search rules) ∙ none_marked c.args.names.now
