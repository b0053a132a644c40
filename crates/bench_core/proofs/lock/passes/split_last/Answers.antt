use Rattle.std.proofs.Common.{◌≡◌, ◌++◌, ◌∷◌, [], List, Option, option_to_list, ap, ◌∙◌}
use Rattle.bench_core.specs.declared.lock.tally.Tally.{Tally}
use Rattle.book_lock.specs.Standing.{Standing}
use Rattle.book_lock.specs.Closing.{IsFree}
use Rattle.book_lock.proofs.Callers.{all_split, each_split}
use Rattle.bench_core.proofs.lock.passes.split_last.Goals as goal

pub returns-in-Ok-clause-free : goal.returns-in-Ok-clause-free
returns-in-Ok-clause-free c =
    each_split (IsFree c.args.shared.now) c.args.passes.now.items c.pop.new.self.items c.push-in-Ok.new.passes.items c.unwrap-pass.result c.in-Ok.elder c.in-Ok.younger
    (c.pop.ensures.items ∙ ap (λ (o : Option (Standing Tally)). c.pop.new.self.items ++ option_to_list o) c.unwrap-pass.ensures)
    (c.push-in-Ok.ensures.items ∙ ap (λ (l : List (Standing Tally)). l ++ c.in-Ok.elder ∷ []) c.push.ensures.items)
    c.in-Ok.ensures.elder c.in-Ok.ensures.younger c.requires.free

pub returns-in-Ok-clause-all : goal.returns-in-Ok-clause-all
returns-in-Ok-clause-all c =
    all_split c.args.passes.now.items c.pop.new.self.items c.push-in-Ok.new.passes.items c.unwrap-pass.result c.in-Ok.elder c.in-Ok.younger
    (c.pop.ensures.items ∙ ap (λ (o : Option (Standing Tally)). c.pop.new.self.items ++ option_to_list o) c.unwrap-pass.ensures)
    (c.push-in-Ok.ensures.items ∙ ap (λ (l : List (Standing Tally)). l ++ c.in-Ok.elder ∷ []) c.push.ensures.items)
    c.in-Ok.ensures.both c.requires.all
