-- Changes as bytes: a tag from 1, and the fields. A payload is a list of changes and nothing more.
use Rattle.std.specs.Prelude.{◌≡◌, ◌≢◌, ◌<◌, ◌^◌, ℕ, List, ◌∷◌, ◌++◌}
use Rattle.plan_codec.specs.Below.{Rollback}
use Rattle.plan_codec.specs.Below.{IsStackName}
use Rattle.plan_codec.specs.Below.{IsNumber}
use Rattle.core_state.specs.declared.change.Change.{Change}
use Rattle.core_state.specs.declared.change.Change.TheVariants as change
use Rattle.plan_codec.specs.Numbers.{spelled_number, spelled_bytes}
use Rattle.plan_codec.specs.Parts.{spelled_list, AreAll}
use Rattle.row_codec.specs.Records.{spelled_stack, IsProperStack, spelled_row, IsProperRow, spelled_graph, IsProperGraph}
use Rattle.row_codec.specs.Records.{spelled_point, IsProperPoint, spelled_letter, IsProperLetter, spelled_job, IsProperJob}
use Rattle.row_codec.specs.Records.{spelled_numbers, IsProperNumbers, spelled_past, IsProperPast, spelled_token, IsProperToken}

-- the tags, from 1 on
abbrev pub the_tag : Change → ℕ
the_tag (change.PutStack s) = 1
the_tag (change.DropStack n) = 2
the_tag (change.PutRow r) = 3
the_tag (change.DropRow n) = 4
the_tag (change.PutGraph name g) = 5
the_tag (change.PutPoint p) = 6
the_tag (change.Send l) = 7
the_tag (change.Drop n) = 8
the_tag (change.PutJob j) = 9
the_tag (change.EndJob e) = 10
the_tag (change.Enlist e) = 11
the_tag (change.Stop e) = 12
the_tag (change.Numbers n) = 13
the_tag (change.PutPast p) = 14
the_tag (change.Release t) = 15

-- the fields
abbrev pub the_fields : Change → List ℕ
the_fields (change.PutStack s) = spelled_stack s
the_fields (change.DropStack n) = spelled_bytes n
the_fields (change.PutRow r) = spelled_row r
the_fields (change.DropRow n) = spelled_number n
the_fields (change.PutGraph name g) = spelled_bytes name ++ spelled_graph g
the_fields (change.PutPoint p) = spelled_point p
the_fields (change.Send l) = spelled_letter l
the_fields (change.Drop n) = spelled_number n
the_fields (change.PutJob j) = spelled_job j
the_fields (change.EndJob e) = spelled_number e
the_fields (change.Enlist e) = spelled_number e
the_fields (change.Stop e) = spelled_number e
the_fields (change.Numbers n) = spelled_numbers n
the_fields (change.PutPast p) = spelled_past p
the_fields (change.Release t) = spelled_token t

-- one change
abbrev pub spelled_change : Change → List ℕ
spelled_change c = the_tag c ∷ the_fields c

-- what each field keeps; a row is no rollback's, and its key is below 2^62
abbrev pub IsProper : Change → Type 0
IsProper (change.PutStack s) = IsProperStack s
IsProper (change.DropStack n) = IsStackName n
IsProper (change.PutRow r) = IsProperRow r
IsProper (change.DropRow n) = IsNumber n
IsProper (change.PutGraph name g) = IsStackName name × IsProperGraph g
IsProper (change.PutPoint p) = IsProperPoint p
IsProper (change.Send l) = IsProperLetter l
IsProper (change.Drop n) = IsNumber n
IsProper (change.PutJob j) = IsProperJob j
IsProper (change.EndJob e) = IsNumber e
IsProper (change.Enlist e) = IsNumber e
IsProper (change.Stop e) = IsNumber e
IsProper (change.Numbers n) = IsProperNumbers n
IsProper (change.PutPast p) = IsProperPast p
IsProper (change.Release t) = IsProperToken t

-- what the types of a change don't keep: no row's act is a rollback, and each row's key is below 2^62
abbrev pub IsStorable : Change → Type 0
IsStorable (change.PutRow r) = (r.key < 2 ^ 62) × (r.act ≢ Rollback)
IsStorable c = Unit {0}

-- how many changes, and each in order
abbrev pub spelled : List Change → List ℕ
spelled = spelled_list spelled_change

abbrev pub AreProper : List Change → Type 0
AreProper = AreAll IsProper

-- the bytes are the spelling of these proper changes
abbrev pub IsSpelling : List ℕ → List Change → Type 0
IsSpelling bytes cs = (bytes ≡ spelled cs) × AreProper cs
