use Rattle.std.specs.Bool.{MatchBool, IsTrue}
use Rattle.std.specs.List.{All, Any}
use Rattle.std.proofs.lemmas.Result.{IfOk-weaker}
use Rattle.hot_strings.specs.Indexes.{keys_in}
use Rattle.hot_strings.specs.Pieces.{LacksSomeKey, HasEveryKey}
use Rattle.hot_strings.specs.Places.{IsPart, Lacks}
use Rattle.hot_strings.proofs.Indexing.{strictly_lacks, some_keys}
use Rattle.hot_strings.proofs.replacing.strict_fails.Goals as goal

pub returns-then-strict : goal.returns-then-strict
returns-then-strict c =
    IfOk-weaker c.lacks_some.result (λ b. MatchBool b (Any (λ k. Lacks k c.args.template.now) (keys_in c.args.params.now)) (All (λ k. IsPart k c.args.template.now) (keys_in c.args.params.now)))
    (λ b. MatchBool b (IsTrue c.args.strict × LacksSomeKey c.args.params.now c.args.template.now) (IsTrue c.args.strict → HasEveryKey c.args.params.now c.args.template.now))
    (λ b h. strictly_lacks b c.args.strict c.args.params.now c.args.template.now c.if-strict.true h)
    (c.lacks_some.ensures (keys_in c.args.params.now) c.requires.index (some_keys c.args.params.now c.requires.keys))
