use Rattle.std.proofs.Common.{◌∙◌, sym}
use Rattle.eval_words.proofs.Finds.{told_absent, told_present}
use Rattle.eval_words.proofs.scene.Scene.facts_of.Goals as goal

pub returns-then-is_one_of_names : goal.returns-then-is_one_of_names
returns-then-is_one_of_names c =
    sym (told_absent c.args.self.now.absent.now c.args.self.now.facts.now c.args.name.now
    (sym c.is_one_of_names.ensures ∙ c.if-is_one_of_names.true))

pub returns : goal.returns
returns c =
    c.facts_among.ensures
    ∙ sym (told_present c.args.self.now.absent.now c.args.self.now.facts.now c.args.name.now
    (sym c.is_one_of_names.ensures ∙ c.if-is_one_of_names.false))
