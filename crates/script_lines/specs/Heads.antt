-- The first word of a line, by what has to stand behind it.
use Rattle.std.specs.Prelude.{◌≡◌, ℕ, List, ◌∷◌, codes, bytes_eq, if◌then◌else◌}
use Rattle.script_lines.specs.declared.head.Head.{Head}
use Rattle.script_lines.specs.declared.head.Head.TheVariants.{WithBody, WithStack, WithEngine}
use Rattle.script_lines.specs.declared.head.Head.TheVariants.{Alone, Types, Run, Unknown}
use Rattle.script_lines.specs.declared.head.BodyVerb.TheVariants.{Create, Update}
use Rattle.script_lines.specs.declared.head.StackVerb.TheVariants.{Delete, Cancel, Status, Resources, Outputs}
use Rattle.script_lines.specs.declared.head.EngineVerb.TheVariants.{Turn, Stop}
use Rattle.script_lines.specs.declared.head.LoneVerb.TheVariants.{Start, Restart}

-- a word whose first byte is `#`
abbrev pub BeginsComment : List ℕ → Type 0
BeginsComment word = (more : List ℕ) × (word ≡ 35 ∷ more)

-- what a first word that begins no comment asks for
abbrev pub head_of : List ℕ → Head
head_of w =
    if bytes_eq w (codes "create") then WithBody Create else (
    if bytes_eq w (codes "update") then WithBody Update else (
    if bytes_eq w (codes "delete") then WithStack Delete else (
    if bytes_eq w (codes "cancel") then WithStack Cancel else (
    if bytes_eq w (codes "status") then WithStack Status else (
    if bytes_eq w (codes "resources") then WithStack Resources else (
    if bytes_eq w (codes "outputs") then WithStack Outputs else (
    if bytes_eq w (codes "types") then Types else (
    if bytes_eq w (codes "run") then Run else (
    if bytes_eq w (codes "turn") then WithEngine Turn else (
    if bytes_eq w (codes "stop") then WithEngine Stop else (
    if bytes_eq w (codes "start") then Alone Start else (
    if bytes_eq w (codes "restart") then Alone Restart else Unknown))))))))))))
