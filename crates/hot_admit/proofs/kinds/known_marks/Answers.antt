-- At first no member is marked.
use Rattle.std.proofs.Common.{◌∙◌, false, replicate, length, ap, sym, rules}
use Rattle.std.proofs.lemmas.List.{length-map}
use Rattle.heat_value.specs.Data.{keys_of}
use Rattle.heat_value.specs.Meaning.{members_of}
use Rattle.hot_admit.proofs.Keyed.{keys_count}
use Rattle.hot_admit.proofs.NameMarks.{none_marked}
use Rattle.hot_admit.proofs.kinds.known_marks.Goals as goal

pub loop-prop-init : goal.loop-prop-init
loop-prop-init c =
    c.in_ok-marks.ensures.items_if_clones_equal (λ y same. search rules)
    ∙ ap (λ n. replicate n false) (sym (keys_count c.args.members.now))
    ∙ none_marked (keys_of (members_of c.args.members.now))

pub mark_known-requires-clause-size : goal.mark_known-requires-clause-size
mark_known-requires-clause-size c =
    ap length c.loop-prop.invariant ∙ length-map _ _ ∙ keys_count c.args.members.now
