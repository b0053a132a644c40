-- Parts of a body's text.
use Rattle.std.specs.Prelude.{ℕ, ◌/◌, List, [], ◌∷◌, ◌++◌, nat_lt, if◌then◌else◌, codes}
use Rattle.json.specs.Print.{quoted}
use Rattle.serde_json.specs.Written.{comma_if}
use Rattle.heat_value.specs.Compact.{compact}
use Rattle.script_generator.specs.Resources.{name_of, resource_of}
use Rattle.script_generator.specs.declared.body.Body.{Body}

-- the key `depends_on` with its value and a comma, where the resource i has it
abbrev pub need_text : ℕ → List ℕ
need_text i = if nat_lt 1 i then quoted (codes "depends_on") ++ 58 ∷ quoted (name_of (i / 2)) ++ 44 ∷ [] else []

-- the resource i behind its name, with a comma in front where another one stands there
abbrev pub member_text : Body → ℕ → List ℕ
member_text body i = comma_if (nat_lt 1 i) ++ (quoted (name_of i) ++ 58 ∷ compact (resource_of body i))
