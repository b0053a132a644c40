use Rattle.headline_reader.proofs.Same.{same-props}
use Rattle.headline_reader.proofs.living.same_props.Goals as goal

pub returns : goal.returns
returns c = same-props _ _ _ c.equals.ensures
