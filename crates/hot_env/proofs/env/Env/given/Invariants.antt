use Rattle.std.proofs.Common.{◌≡◌, drop}
use Rattle.heat_value.specs.Meaning.{members_of}
use Rattle.hot_env.specs.Environments.{over}
use Rattle.hot_env.proofs.env.Env.given.Given as goal

-- what is left goes over what there is
abbrev pub invariant-loop-member : goal.invariant-loop-member
invariant-loop-member l = over l.self.params l.own ≡ over l.given (members_of (drop l.member-index l.member-items))
