use Rattle.std.proofs.Common.{◌∙◌, refl, sym}
use Rattle.serde_json.specs.View.{view}
use Rattle.cloud_file.specs.Sorts.{number_read}
use Rattle.cloud_file.proofs.Readings.{whole_of}
use Rattle.cloud_file.proofs.sorts.number.Goals as goal

pub returns-then-whole-most-clause-read : goal.returns-then-whole-most-clause-read
returns-then-whole-most-clause-read c = number_read c.in-Some.whole (record {
  it = whole_of (view c.args.value.now) c.in-Some.whole (sym c.as_u64.ensures ∙ c.in-Some.is);
  low = c.if-least-whole.true;
  high = c.if-whole-most.true;
}) refl
