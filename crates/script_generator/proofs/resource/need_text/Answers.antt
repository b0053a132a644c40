use Rattle.std.proofs.Common.{rules}
use Rattle.json.specs.Print.{escape_byte}
use Rattle.script_generator.proofs.resource.need_text.Goals as goal

pub returns : goal.returns
unfolding escape_byte
returns c = search rules
