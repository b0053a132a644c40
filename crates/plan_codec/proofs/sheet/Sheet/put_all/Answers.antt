use Rattle.std.proofs.Common.{◌≡◌, ◌++◌, ◌-◌, arith, ap, ◌∙◌, sym, take, min, length, refl}
use Rattle.std.proofs.lemmas.Grind.{common_steps}
use Rattle.plan_codec.specs.Sheets.{behind}
use Rattle.plan_codec.proofs.Sheets.{fitting}
use Rattle.plan_codec.proofs.sheet.Sheet.put_all.Goals as goal

pub returns : goal.returns
unfolding behind
returns c =
    let fits = fitting c.self.inside.room c.self.inside.kept.items c.args.bytes.now c.self.invariant.0 in
    let long : c.len.result ≡ length c.self.inside.kept.items = grind (arith, common_steps) in
    let count = c.min-fits.ensures ∙ ap (λ n. min (length c.args.bytes.now) (c.self.inside.room - n)) long in
    let items = c.in-Ok.ensures.items ∙ ap (λ n. c.self.inside.kept.items ++ take n c.args.bytes.now) count ∙ sym
    fits in
    rw (← c.self.view_is, items, c.saturating_add-self-inside.ensures) refl
