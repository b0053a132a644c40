use Rattle.history_examples.proofs.Marks.{cleaned_is_marked}
use Rattle.history_examples.proofs.case_laws.cleaned_is_marked.Goals as goal

pub returns : goal.returns
returns c = cleaned_is_marked
