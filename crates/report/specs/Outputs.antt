-- The lines of a stack's outputs.
use Rattle.std.specs.Prelude.{ℕ, List, [], ◌∷◌, ◌++◌, Bool, true, false, cond, not, ◌&&◌}
use Rattle.std.specs.Prelude.{is_none, Option, Some, None, codes}
use Rattle.std.specs.Ordering.{nat_cmp}
use Rattle.std.specs.Str.{bytes_eq}
use Rattle.std.specs.Cmp.Lexicographic.{slice_cmp}
use Rattle.heat_value.specs.Compact.{compact}
use Rattle.heat_value.specs.Data.{Data}
use Rattle.heat_value.specs.Path.{path_text}
use Rattle.heat_value.specs.declared.path.Step.{Step}
use Rattle.heat_value.specs.declared.path.Step.TheVariants.{Key}
use Rattle.heat_plan.specs.Plans.{PlanData}
use Rattle.heat_plan.specs.declared.facts.Facts.{Facts}
use Rattle.heat_plan.specs.declared.facts.KnownFacts.{KnownFacts}
use Rattle.heat_plan.specs.declared.phase.Act.{Act}
use Rattle.heat_plan.specs.declared.phase.Act.TheVariants.{Init, Create, Update, Delete, Rollback}
use Rattle.heat_plan.specs.declared.plan.Output.{Output}
use Rattle.eval_words.specs.Codes.{code_text}
use Rattle.eval_words.specs.Outcomes.{Outcome, Gives, Faults}
use Rattle.eval_words.specs.Resolutions.{eval}
use Rattle.eval_words.specs.Scenes.{SceneData, scene_of}
use Rattle.eval_words.specs.declared.code.FaultCode.{FaultCode}
use Rattle.keyed_table.specs.Lists.{put}
use Rattle.report.specs.Words.{line}
use Rattle.report.specs.declared.brief.SeenRow.{SeenRow}
use Rattle.report.specs.declared.output_line.OutputLine.{OutputLine}

-- ---- what is known

abbrev pub is_delete : Act → Bool
is_delete Init = false
is_delete Create = false
is_delete Update = false
is_delete Delete = true
is_delete Rollback = false

-- the resource of its name stands in this row now
abbrev pub is_current : SeenRow → Bool
is_current row = not (is_delete row.act) && is_none row.replaced_by

-- facts, if there are any, under their name
abbrev pub named : List ℕ → Option Facts → List KnownFacts
named name None = []
named name (Some facts) = record { name = name; facts = facts } ∷ []

-- the facts of a stack's current rows
abbrev pub known_in : List ℕ → List SeenRow → List KnownFacts
known_in stack [] = []
known_in stack (row ∷ rows) = cond (bytes_eq row.stack stack && is_current row) (named row.name row.facts) []
    ++ known_in stack rows

-- ---- an output's line

-- a place in an output's value, from the template's root on
abbrev pub output_path : List ℕ → List Step → List Step
output_path name path = Key (codes "outputs") ∷ Key name ∷ Key (codes "value") ∷ path

-- `output <name> <compact JSON>`
abbrev pub value_line : List ℕ → Data → List ℕ
value_line name value = line (codes "output" ∷ name ∷ compact value ∷ [])

-- `output <name> fault <F code> <path>`
abbrev pub fault_line : List ℕ → FaultCode → List Step → List ℕ
fault_line name code path =
    line (codes "output" ∷ name ∷ codes "fault" ∷ code_text code ∷ path_text (output_path name path) ∷ [])

-- the line of what an output comes to
abbrev pub outcome_line : List ℕ → Outcome Data → List ℕ
outcome_line name (Gives value spent) = value_line name value
outcome_line name (Faults code path) = fault_line name code path

abbrev pub output_line : SceneData → Output → OutputLine
output_line scene output = record {
  name = output.name;
  text = outcome_line output.name (eval scene output.value);
}

-- ---- all lines

abbrev pub line_key : OutputLine → List ℕ
line_key told = told.name

-- the outputs' lines, each where its name belongs in byte order
abbrev pub output_lines : List OutputLine → SceneData → List Output → List OutputLine
output_lines told scene [] = told
output_lines told scene (output ∷ outputs) =
    output_lines (put (slice_cmp nat_cmp) line_key (output_line scene output) told) scene outputs

abbrev pub joined : List OutputLine → List ℕ
joined [] = []
joined (told ∷ lines) = told.text ++ joined lines

-- a line for each output of the plan, evaluated with what is known of the stack's current rows
abbrev pub outputs_text : List ℕ → List SeenRow → Option PlanData → List ℕ
outputs_text stack rows None = []
outputs_text stack rows (Some plan) = joined (output_lines [] (scene_of plan (known_in stack rows)) plan.outputs)
