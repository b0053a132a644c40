use Rattle.std.proofs.Common.{◌≡◌, drop, map}
use Rattle.hot_params.specs.Texts.{is_word_of}
use Rattle.hot_params.proofs.saying.is_word_of.Given as goal

-- what is left decides
abbrev pub invariant-loop-word : goal.invariant-loop-word
invariant-loop-word l =
    is_word_of (map (λ n. n.now) l.known) l.text ≡ is_word_of (map (λ n. n.now) (drop l.word-index l.known)) l.text
