use Rattle.hot_params.proofs.Readings.{deep, numbered}
use Rattle.hot_params.proofs.conversion.json_said.Goals as goal

pub returns-in-Err-TooDeep : goal.returns-in-Err-TooDeep
returns-in-Err-TooDeep c =
    deep c.args.text.now
    (rw (c.as_bytes.ensures.value, c.as_str.ensures.value) at (c.in-Err-TooDeep.ensures.too_deep (cc)))

pub returns-in-Err-BadNumber : goal.returns-in-Err-BadNumber
returns-in-Err-BadNumber c =
    numbered c.args.text.now c.in-Err-BadNumber.field-0-0
    (rw (c.as_bytes.ensures.value, c.as_str.ensures.value) at
    (c.in-Err-BadNumber.ensures.bad_number c.in-Err-BadNumber.field-0-0 (cc)))
