use Rattle.std.proofs.Common.{◌≡◌, drop, find, bytes_eq}
use Rattle.heat_plan.specs.declared.facts.KnownFacts.{KnownFacts}
use Rattle.eval_words.proofs.scene.facts_among.Given as goal

-- what is left decides
abbrev pub invariant-loop-known : goal.invariant-loop-known
invariant-loop-known l =
    find (λ (k : KnownFacts). bytes_eq k.name l.name) l.facts
    ≡ find (λ (k : KnownFacts). bytes_eq k.name l.name) (drop l.known-index l.facts)
