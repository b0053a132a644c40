use Rattle.graph_laws.proofs.whole.Whole.{runs_headline, runs_sound}
use Rattle.graph_laws.proofs.whole.sound_openings_have_headline.Goals as goal

pub returns-clause-sound : goal.returns-clause-sound
returns-clause-sound c = runs_sound

pub returns-clause-headline : goal.returns-clause-headline
returns-clause-headline c = runs_headline
