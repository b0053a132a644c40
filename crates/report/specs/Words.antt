-- The words of a report's lines.
use Rattle.std.specs.Prelude.{ℕ, List, [], ◌∷◌, ◌++◌, Option, Some, None, codes}
use Rattle.heat_value.specs.Path.{path_text}
use Rattle.heat_value.specs.declared.path.Step.{Step}
use Rattle.heat_plan.specs.declared.phase.Act.{Act}
use Rattle.heat_plan.specs.declared.phase.Act.TheVariants.{Init, Create, Update, Delete, Rollback}
use Rattle.heat_plan.specs.declared.phase.Status.{Status}
use Rattle.heat_plan.specs.declared.phase.Status.TheVariants.{Complete, InProgress, Failed}
use Rattle.core_state.specs.declared.entry.Why.{Why}
use Rattle.core_state.specs.declared.entry.Why.TheVariants as why

-- words with one space between each two
abbrev pub words : List (List ℕ) → List ℕ
words [] = []
words (w ∷ []) = w
words (w ∷ v ∷ ws) = w ++ 32 ∷ words (v ∷ ws)

-- the same, and an LF
abbrev pub line : List (List ℕ) → List ℕ
line [] = 10 ∷ []
line (w ∷ []) = w ++ 10 ∷ []
line (w ∷ v ∷ ws) = w ++ 32 ∷ line (v ∷ ws)

abbrev pub act_word : Act → List ℕ
act_word Init = codes "INIT"
act_word Create = codes "CREATE"
act_word Update = codes "UPDATE"
act_word Delete = codes "DELETE"
act_word Rollback = codes "ROLLBACK"

abbrev pub status_word : Status → List ℕ
status_word Complete = codes "COMPLETE"
status_word InProgress = codes "IN_PROGRESS"
status_word Failed = codes "FAILED"

-- what is done, and how far it is
abbrev pub stand_word : Act → Status → List ℕ
stand_word act status = act_word act ++ 95 ∷ status_word status

-- what was tried
abbrev pub tried_word : Act → List ℕ
tried_word Init = codes "init"
tried_word Create = codes "create"
tried_word Update = codes "update"
tried_word Delete = codes "delete"
tried_word Rollback = codes "rollback"

-- why a traversal failed
abbrev pub why_text : Why → List ℕ
why_text why.Quota = codes "create quota"
why_text (why.Failed act) = tried_word act ++ codes " failed"
why_text (why.Broken act code) = tried_word act ++ codes " broken " ++ code
why_text (why.Resolve code path) = codes "resolve " ++ code ++ 32 ∷ path_text path

-- a dash where there is none
abbrev pub or_dash : Option (List ℕ) → List ℕ
or_dash None = codes "-"
or_dash (Some word) = word

-- a path is one more word
abbrev pub path_words : Option (List Step) → List (List ℕ)
path_words None = []
path_words (Some path) = path_text path ∷ []
