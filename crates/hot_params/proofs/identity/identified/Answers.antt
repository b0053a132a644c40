use Rattle.std.proofs.Common.{◌∙◌}
use Rattle.std.proofs.lemmas.Result.{IfOk-weaker}
use Rattle.hot_params.proofs.identity.identified.Goals as goal

pub returns : goal.returns
returns c =
    IfOk-weaker c.from_str.result _ _ (λ t e.
    e
    ∙ rw (c.hyphenated.ensures, c.new_v5-id.ensures.value, c.as_bytes.ensures.value) at
    c.encode_lower-text.ensures.text)
    c.from_str.ensures
