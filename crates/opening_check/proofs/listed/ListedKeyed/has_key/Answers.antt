use Rattle.std.proofs.Common.{◌∙◌, ap}
use Rattle.std.specs.Ordering.{is_eq}
use Rattle.opening_check.specs.TokenOrder.{same_token-is}
use Rattle.opening_check.proofs.listed.ListedKeyed.has_key.Goals as goal

-- src/listed.rt:46:5
pub returns : goal.returns
returns c = c.is_eq.ensures ∙ ap is_eq c.compared.ensures ∙ same_token-is c.args.self.now.token c.args.key.now
