use Rattle.next_laws.proofs.Kinship.{suits_is_one_kind}
use Rattle.next_laws.proofs.turn_laws.what_is_next_is_of_one_kind.Goals as goal

pub returns : goal.returns
returns c = suits_is_one_kind
