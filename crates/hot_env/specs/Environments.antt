-- What an environment says: its parameters, its defaults, and which type stands for which.
use Rattle.std.specs.Prelude.{◌≡◌, None, codes}
use Rattle.heat_value.specs.Data.{Data, Members, no_members, member, put, lookup}
use Rattle.hot_forms.specs.Shapes.{members_in}
use Rattle.hot_tree.specs.Readings.{object_in}
use Rattle.hot_env.specs.Checks.{environment_flaw}
use Rattle.hot_env.specs.declared.env.Env.{Env}

-- a right environment; what it lacks is empty
pub record IsEnvOf (d : Data) (e : Env) : Type 0 where
  pub right : environment_flaw d ≡ None
  pub params : e.params ≡ object_in (lookup (codes "parameters") (members_in d))
  pub defaults : e.defaults ≡ object_in (lookup (codes "parameter_defaults") (members_in d))
  pub types : e.types ≡ object_in (lookup (codes "resource_registry") (members_in d))

-- the first map with the members of the second in their places
abbrev pub over : Members → Members → Members
over ms no_members = ms
over ms (member k d own) = over (put k d ms) own
