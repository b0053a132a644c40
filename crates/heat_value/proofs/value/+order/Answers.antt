use Rattle.std.proofs.Common.{◌≡◌, ◌≤◌, ◌∙◌, sym, ap, length, arith, ltb-false, is_some}
use Rattle.heat_value.proofs.Orders.{nodes_cmp-ended, nodes_cmp-longer, members_cmp-ended, members_cmp-longer}
use Rattle.heat_value.proofs.value.+order.Goals as goal

pub Items::order-returns-in_default : goal.Items::order-returns-in_default
Items::order-returns-in_default t c =
    let beyond : length c.deref.result.now ≤ c.loop-i.i = ltb-false c.loop-i.i (length c.deref.result.now) (sym c.get.ensures.lookup.0 ∙ ap is_some c.in_default.is) in
    let end : length c.other.inside.all.items ≤ c.loop-i.i = rw (sym c.deref.ensures.value) beyond in
    rw (← c.self.view_is, ← c.other.view_is) (sym (c.loop-i.invariant.1 ∙ nodes_cmp-longer _ _ c.loop-i.i (omega arith) end c.loop-i.invariant.0))

pub Items::order-returns : goal.Items::order-returns
Items::order-returns t c =
    let end : c.loop-i.i ≡ length c.self.inside.all.items = omega arith in
    let mine : c.len.result ≡ length c.self.inside.all.items = omega arith in
    let its : c.len-2.result ≡ length c.other.inside.all.items = omega arith in
    c.cmp.ensures ∙ rw (← c.self.view_is, ← c.other.view_is, mine, its) (sym (c.loop-i.invariant.1 ∙ nodes_cmp-ended _ _ c.loop-i.i end c.loop-i.invariant.0))

pub Props::order-returns-in_default : goal.Props::order-returns-in_default
Props::order-returns-in_default t c =
    let beyond : length c.deref.result.now ≤ c.loop-i.i = ltb-false c.loop-i.i (length c.deref.result.now) (sym c.get.ensures.lookup.0 ∙ ap is_some c.in_default.is) in
    let end : length c.other.inside.members.items ≤ c.loop-i.i = rw (sym c.deref.ensures.value) beyond in
    rw (← c.self.view_is, ← c.other.view_is) (sym (c.loop-i.invariant.1 ∙ members_cmp-longer _ _ c.loop-i.i (omega arith) end c.loop-i.invariant.0))

pub Props::order-returns : goal.Props::order-returns
Props::order-returns t c =
    let end : c.loop-i.i ≡ length c.self.inside.members.items = omega arith in
    let mine : c.len.result ≡ length c.self.inside.members.items = omega arith in
    let its : c.len-2.result ≡ length c.other.inside.members.items = omega arith in
    c.cmp.ensures ∙ rw (← c.self.view_is, ← c.other.view_is, mine, its) (sym (c.loop-i.invariant.1 ∙ members_cmp-ended _ _ c.loop-i.i end c.loop-i.invariant.0))
