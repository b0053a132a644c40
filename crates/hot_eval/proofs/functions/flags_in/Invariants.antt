use Rattle.std.proofs.Common.{◌≡◌, ◌&&◌, ◌||◌, drop, option_map, Bool}
use Rattle.std.specs.List.{list_all, list_any}
use Rattle.heat_value.specs.Meaning.{nodes_of}
use Rattle.eval_words.specs.Functions.{flags_in}
use Rattle.hot_eval.proofs.functions.flags_in.Given as goal

-- the flags so far and those left decide
abbrev pub invariant-loop-value : goal.invariant-loop-value
invariant-loop-value l =
    option_map {U = Bool × Bool} (λ bs. (l.all && list_all (λ b. b) bs, l.some || list_any (λ b. b) bs))
    (flags_in (nodes_of (drop l.value-index l.values)))
    ≡ option_map {U = Bool × Bool} (λ bs. (list_all (λ b. b) bs, list_any (λ b. b) bs)) (flags_in (nodes_of l.values))
