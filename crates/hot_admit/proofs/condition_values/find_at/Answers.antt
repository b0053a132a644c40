-- One condition: its value was found already, is found now, or isn't known yet.
use Rattle.std.proofs.Common.{◌∙◌, ap, sym, arith}
use Rattle.heat_value.specs.Meaning.{members_of}
use Rattle.eval_words.specs.SoFar.{named_values}
use Rattle.hot_admit.proofs.Finding.{found_count, is_at_place, found_before, found_nothing, found_now, found_grows}
use Rattle.hot_admit.proofs.Finding.{found_more, found_anew, flag_told}
use Rattle.hot_admit.proofs.condition_values.find_at.Goals as goal

pub index-requires : goal.index-requires
index-requires c =
    omega (arith, found_count c.args.params.now c.args.conds.now _ c.requires.found, c.args.values.now.ok.0)

pub returns-then-is_some-clause-here : goal.returns-then-is_some-clause-here
returns-then-is_some-clause-here c =
    found_before
    (is_at_place c.args.params.now c.args.conds.now _ c.args.due.place c.index-conds-place.result c.requires.rising
    c.requires.found c.requires.place c.index-conds-place.is)
    c.index.result.now c.index.ensures (sym c.is_some.ensures ∙ c.if-is_some.true)

pub index_mut-requires : goal.index_mut-requires
index_mut-requires c =
    omega (arith, found_count c.args.params.now c.args.conds.now _ c.requires.found, c.args.values.now.ok.0)

pub returns-in-Some-clause-found : goal.returns-in-Some-clause-found
returns-in-Some-clause-found c =
    found_now
    (is_at_place c.args.params.now c.args.conds.now _ c.args.due.place c.index-conds-place.result c.requires.rising
    c.requires.found c.requires.place c.index-conds-place.is)
    c.in-Some.value
    (flag_told c.args.params.now c.index-conds-place.result
    (named_values (members_of c.args.conds.now) c.args.values.now.items) _ _
    (c.so_far-known.ensures ∙ ap (named_values (members_of c.args.conds.now)) c.deref.ensures.value)
    c.in_ok-tried.ensures ∙ c.in-Some.is)
    c.index.result.now c.index.ensures (sym c.is_some.ensures ∙ c.if-is_some.false)

pub returns-in-Some-clause-grows : goal.returns-in-Some-clause-grows
returns-in-Some-clause-grows c =
    found_grows
    (is_at_place c.args.params.now c.args.conds.now _ c.args.due.place c.index-conds-place.result c.requires.rising
    c.requires.found c.requires.place c.index-conds-place.is)
    c.in-Some.value
    (flag_told c.args.params.now c.index-conds-place.result
    (named_values (members_of c.args.conds.now) c.args.values.now.items) _ _
    (c.so_far-known.ensures ∙ ap (named_values (members_of c.args.conds.now)) c.deref.ensures.value)
    c.in_ok-tried.ensures ∙ c.in-Some.is)
    c.index.result.now c.index.ensures (sym c.is_some.ensures ∙ c.if-is_some.false)

pub returns-in-Some-clause-here : goal.returns-in-Some-clause-here
returns-in-Some-clause-here c =
    found_more
    (is_at_place c.args.params.now c.args.conds.now _ c.args.due.place c.index-conds-place.result c.requires.rising
    c.requires.found c.requires.place c.index-conds-place.is)
    c.in-Some.value
    (flag_told c.args.params.now c.index-conds-place.result
    (named_values (members_of c.args.conds.now) c.args.values.now.items) _ _
    (c.so_far-known.ensures ∙ ap (named_values (members_of c.args.conds.now)) c.deref.ensures.value)
    c.in_ok-tried.ensures ∙ c.in-Some.is)
    c.index.result.now c.index.ensures (sym c.is_some.ensures ∙ c.if-is_some.false)

pub returns-in-Some-clause-more : goal.returns-in-Some-clause-more
returns-in-Some-clause-more c = λ any.
    found_anew
    (is_at_place c.args.params.now c.args.conds.now _ c.args.due.place c.index-conds-place.result c.requires.rising
    c.requires.found c.requires.place c.index-conds-place.is)
    c.in-Some.value
    (flag_told c.args.params.now c.index-conds-place.result
    (named_values (members_of c.args.conds.now) c.args.values.now.items) _ _
    (c.so_far-known.ensures ∙ ap (named_values (members_of c.args.conds.now)) c.deref.ensures.value)
    c.in_ok-tried.ensures ∙ c.in-Some.is)
    c.index.result.now c.index.ensures (sym c.is_some.ensures ∙ c.if-is_some.false)

pub returns-in-None-clause-here : goal.returns-in-None-clause-here
returns-in-None-clause-here c =
    found_nothing
    (is_at_place c.args.params.now c.args.conds.now _ c.args.due.place c.index-conds-place.result c.requires.rising
    c.requires.found c.requires.place c.index-conds-place.is)
    (flag_told c.args.params.now c.index-conds-place.result
    (named_values (members_of c.args.conds.now) c.args.values.now.items) _ _
    (c.so_far-known.ensures ∙ ap (named_values (members_of c.args.conds.now)) c.deref.ensures.value)
    c.in_ok-tried.ensures ∙ c.in-None.is)
