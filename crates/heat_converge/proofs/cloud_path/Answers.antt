-- Words are of one form at most.
use Rattle.std.proofs.Common.{◌∙◌, ap}
use Rattle.converge_call.specs.Words.{setup_of}
use Rattle.converge_call.specs.declared.setup.Mode.{Mode}
use Rattle.converge_call.specs.declared.setup.Setup.{Setup}
use Rattle.heat_converge.proofs.cloud_path.Goals as goal

pub returns-in-Ok : goal.returns-in-Ok
returns-in-Ok c = record {
  said = λ m form. ap (λ (s : Setup). s.cloud) c.setup.ensures
      ∙ ap (λ (n : Mode). (setup_of n).cloud) (c.words_of.ensures.one c.in-Ok.mode m c.in-Ok.ensures.ok form);
  unsaid = λ none. absurd (none c.in-Ok.mode c.in-Ok.ensures.ok);
}
