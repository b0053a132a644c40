use Rattle.std.proofs.Common.{◌∙◌, ap, string_bytes, ◌++◌}
use Rattle.script_generator.proofs.Pieces.{one_more}
use Rattle.script_generator.proofs.body.resources_text.Goals as goal

pub loop-i-preserved : goal.loop-i-preserved
loop-i-preserved c =
    one_more c.args.body c.loop-i.i c.args.n (string_bytes c.loop-i.text) _ _ c.loop-i.auto.i c.loop-i-test.true
    (c.in_ok-push_str.ensures.bytes ∙ ap (λ t. string_bytes c.loop-i.text ++ t) (c.deref.ensures ∙ c.in_ok-member_text.ensures))
    c.loop-i.invariant
