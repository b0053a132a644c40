use Rattle.std.proofs.Common.{ℕ, List, IfOk, subst}
use Rattle.std.specs.Bool.{MatchBool}
use Rattle.std.specs.List.{All, Any}
use Rattle.hot_strings.specs.Places.{IsPart, Lacks}
use Rattle.hot_strings.proofs.index.KeyIndex.lacks_some.Goals as goal

pub returns : goal.returns
returns c = λ keys index some.
    subst (λ (s : List ℕ). IfOk c.lacks_some.result (λ b. MatchBool b (Any (λ k. Lacks k s) keys) (All (λ k. IsPart k s) keys))) c.as_bytes.ensures.value
    (c.lacks_some.ensures keys index.finder some)
