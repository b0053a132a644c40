use Rattle.std.proofs.Common.{◌≡◌, ◌∙◌, sym, true, false}
use Rattle.regex.specs.Strings.{regex_pattern}
use Rattle.hot_params.proofs.pattern.pattern_code.Goals as goal

pub returns-then-branch : goal.returns-then-branch
returns-then-branch c =
    (regex_pattern c.in-Ok.regex, c.in-Ok.ensures.ok, c.in_ok-are_whole-in-Ok.ensures.0 c.if-branch.true)

pub returns-else-branch : goal.returns-else-branch
returns-else-branch c = (
  regex_pattern c.in-Ok.regex,
  c.in-Ok.ensures.ok,
  λ whole. let bad : true ≡ false = sym (c.in_ok-are_whole-in-Ok.ensures.1 whole) ∙ c.if-branch.false in cc,
)
