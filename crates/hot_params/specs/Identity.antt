-- The pseudo parameters, which say whose parameters they are.
use Rattle.std.specs.Prelude.{ℕ, List, ◌∷◌, ◌++◌, take, decimal, codes}
use Rattle.heat_value.specs.Data.{Members, words, put}
use Rattle.hot_params.specs.declared.ids.Ids.{Ids}
use Rattle.sha1.specs.Sha1.{sha1}
use Rattle.uuid.specs.Parts.{with_version, with_variant}
use Rattle.uuid.specs.Text.{hyphenated_text, lower}
use Rattle.uuid.specs.Uuid.{namespace_url}
use Rattle.uuid.specs.declared.Variant.TheVariants.{RFC4122}
use Rattle.uuid.specs.declared.Version.TheVariants.{Sha1}

-- what a stack's identifier is made of
abbrev pub stack_text : Ids → List ℕ
stack_text ids = codes "heat:" ++ (ids.stack ++ (58 ∷ decimal ids.no))

-- the version 5 UUID of a name in the name space of URLs, in lower case with hyphens
abbrev pub identity : List ℕ → List ℕ
identity name =
    hyphenated_text lower (with_version (with_variant (take 16 (sha1 (namespace_url ++ name))) RFC4122) Sha1)

abbrev pub stack_id : Ids → List ℕ
stack_id ids = identity (stack_text ids)

-- the values with the pseudo parameters among them
abbrev pub with_pseudo : Ids → Members → Members
with_pseudo ids vs =
    put (codes "OS::stack_name") (words ids.stack)
    (put (codes "OS::stack_id") (words (stack_id ids))
    (put (codes "OS::project_id") (words (codes "demo")) vs))
