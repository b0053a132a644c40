-- Acts, statuses, stages, nodes and next numbers as bytes.
use Rattle.std.specs.Prelude.{ℕ, ◌<◌, ◌≤◌, ◌^◌, List, [], ◌∷◌, ◌++◌}
use Rattle.plan_codec.specs.Below.{IsResName}
use Rattle.plan_codec.specs.Below.{IsNumber}
use Rattle.plan_codec.specs.Below.{Act}
use Rattle.plan_codec.specs.Below.{Init, Create, Update, Delete, Rollback}
use Rattle.plan_codec.specs.Below.{Status}
use Rattle.plan_codec.specs.Below.{Complete, InProgress, Failed}
use Rattle.mail_table.specs.declared.mail.Stage.{Stage}
use Rattle.mail_table.specs.declared.mail.Stage.TheVariants.{Taken, Asking, Polling, Ending}
use Rattle.traversal_graph.specs.declared.shape.Node.{Node}
use Rattle.traversal_graph.specs.declared.shape.Node.TheVariants.{U, C}
use Rattle.plan_codec.specs.Numbers.{spelled_number, spelled_bytes}

-- one byte
abbrev pub spelled_act : Act → List ℕ
spelled_act Init = 0 ∷ []
spelled_act Create = 1 ∷ []
spelled_act Update = 2 ∷ []
spelled_act Delete = 3 ∷ []
spelled_act Rollback = 4 ∷ []

abbrev pub IsAct : Act → Type 0
IsAct x = Unit {0}

-- one byte
abbrev pub spelled_status : Status → List ℕ
spelled_status Complete = 0 ∷ []
spelled_status InProgress = 1 ∷ []
spelled_status Failed = 2 ∷ []

abbrev pub IsStatus : Status → Type 0
IsStatus x = Unit {0}

-- one byte
abbrev pub spelled_stage : Stage → List ℕ
spelled_stage Taken = 0 ∷ []
spelled_stage Asking = 1 ∷ []
spelled_stage Polling = 2 ∷ []
spelled_stage Ending = 3 ∷ []

abbrev pub IsStage : Stage → Type 0
IsStage x = Unit {0}

-- an update's item and row, or the row of a clean-up
abbrev pub spelled_node : Node → List ℕ
spelled_node (U name row) = 0 ∷ (spelled_bytes name ++ spelled_number row)
spelled_node (C row) = 1 ∷ spelled_number row

abbrev pub IsProperNode : Node → Type 0
IsProperNode (U name row) = IsResName name × IsNumber row
IsProperNode (C row) = IsNumber row

-- a next number is 1 to 2^62
abbrev pub IsNext : ℕ → Type 0
IsNext n = (0 < n) × (n ≤ 2 ^ 62)
