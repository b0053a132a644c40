use Rattle.std.proofs.Common.{◌∙◌, ap, sym}
use Rattle.hot_functions.specs.Forms.{stands}
use Rattle.hot_eval.proofs.Gathers.{stands_entry}
use Rattle.hot_eval.proofs.gathered.Gathered.put_new.Goals as goal

pub returns-then-contains_key : goal.returns-then-contains_key
returns-then-contains_key c =
    ap (stands c.args.key) (sym c.self.view_is) ∙ sym (stands_entry c.self.inside.tree.entries c.args.key)
    ∙ sym c.contains_key.ensures ∙ c.if-contains_key.true

pub returns : goal.returns
returns c = (
  ap (stands c.args.key) (sym c.self.view_is) ∙ sym (stands_entry c.self.inside.tree.entries c.args.key)
      ∙ sym c.contains_key.ensures ∙ c.if-contains_key.false,
  c.in_ok-put.ensures,
)
