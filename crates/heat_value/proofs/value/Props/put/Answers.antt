use Rattle.std.proofs.Common.{◌∙◌, sym, ap, Bool, true, false, List, is_ok, if◌then◌else◌}
use Rattle.heat_value.specs.Data.{Rises}
use Rattle.heat_value.specs.Meaning.{members_of}
use Rattle.heat_value.specs.declared.value.Member.{Member}
use Rattle.heat_value.proofs.Puts.{Rises-put, members_of-set, members_of-insert}
use Rattle.heat_value.proofs.value.Props.put.Goals as goal

-- the members rise whether the insertion found room or not
rises_either : (b : Bool) (xs ys : List Member) → Rises (members_of xs) → Rises (members_of ys) → Rises (members_of (if b then xs else ys))
rises_either true xs ys h k = h
rises_either false xs ys h k = k

pub invariant_of-self : goal.invariant_of-self
invariant_of-self c =
    rw (members_of-set c.args.key c.args.value c.self.inside.members.items c.in-Ok.at (sym c.place_of.ensures.place ∙ c.in-Ok.is))
    (Rises-put _ _ _ c.self.invariant)

pub invariant_of-self-in-Err : goal.invariant_of-self-in-Err
invariant_of-self-in-Err c =
    let inserted = members_of-insert c.args.key c.args.value c.self.inside.members.items c.in-Err.at (sym c.place_of.ensures.place ∙ c.in-Err.is) in
    rw c.insert.ensures.items (rises_either (is_ok c.insert.result) _ _ (rw inserted (Rises-put _ _ _ c.self.invariant)) c.self.invariant)

pub returns-in-Ok-clause-ok : goal.returns-in-Ok-clause-ok
returns-in-Ok-clause-ok c =
    rw (← c.self.view_is) (members_of-set c.args.key c.args.value c.self.inside.members.items c.in-Ok.at (sym c.place_of.ensures.place ∙ c.in-Ok.is))

pub returns-in_ok-insert-in-Err-clause-ok : goal.returns-in_ok-insert-in-Err-clause-ok
returns-in_ok-insert-in-Err-clause-ok c =
    let inserted = members_of-insert c.args.key c.args.value c.self.inside.members.items c.in-Err.at (sym c.place_of.ensures.place ∙ c.in-Err.is) in
    rw (← c.self.view_is) (ap members_of c.in_ok-insert-in-Err.ensures.items ∙ inserted)
