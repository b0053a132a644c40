-- The kinds of changes one by one: the tag of each, its fields, and that no other change has this tag.
use Rattle.std.specs.Prelude.{◌≡◌, ℕ, List, ◌∷◌, refl}
use Rattle.std.proofs.Common.{arith}
use Rattle.plan_codec.specs.Below.{IsStackName, IsNumber, Token}
use Rattle.traversal_graph.specs.declared.shape.TravGraph.{TravGraph}
use Rattle.row_table.specs.declared.row.Row.{Row}
use Rattle.sync_points.specs.declared.point.Point.{Point}
use Rattle.mail_table.specs.declared.mail.Letter.{Letter}
use Rattle.mail_table.specs.declared.mail.Job.{Job}
use Rattle.core_state.specs.declared.stack.Stack.{Stack}
use Rattle.core_state.specs.declared.numbers.Numbers.{Numbers}
use Rattle.core_state.specs.declared.past.Past.{Past}
use Rattle.core_state.specs.declared.change.Change.{Change}
use Rattle.core_state.specs.declared.change.Change.TheVariants as change
use Rattle.plan_codec.specs.Numbers.{spelled_number, spelled_bytes}
use Rattle.plan_codec.specs.Parts.{spelled_pair, AreBoth}
use Rattle.row_codec.specs.Records.{spelled_stack, IsProperStack, spelled_row, IsProperRow, spelled_graph, IsProperGraph}
use Rattle.row_codec.specs.Records.{spelled_point, IsProperPoint, spelled_letter, IsProperLetter, spelled_job, IsProperJob}
use Rattle.row_codec.specs.Records.{spelled_numbers, IsProperNumbers, spelled_past, IsProperPast, spelled_token, IsProperToken}
use Rattle.row_codec.specs.Changes.{spelled_change, the_tag, IsProper}

-- the changes of a tag are those that are made of its fields
pub record IsKind {A : Type 0} (tag : ℕ) (make : A → Change) (fields : A → List ℕ) (proper : A → Type 0) : Type 0 where
  pub spells : (x : A) → spelled_change (make x) ≡ tag ∷ fields x
  pub fits : (x : A) → proper x → IsProper (make x)
  pub asks : (x : A) → IsProper (make x) → proper x
  pub found : (c : Change) → the_tag c ≡ tag → (x : A) × (make x ≡ c)

put_stack_found : (c : Change) → the_tag c ≡ 1 → (x : Stack) × (change.PutStack x ≡ c)
put_stack_found (change.PutStack x) e = (x, refl)
put_stack_found _ e = absurd (omega (arith, e))

pub put_stack_kind : IsKind 1 change.PutStack spelled_stack IsProperStack
put_stack_kind = record { spells = λ x. refl; fits = λ x p. p; asks = λ x p. p; found = put_stack_found }

drop_stack_found : (c : Change) → the_tag c ≡ 2 → (x : List ℕ) × (change.DropStack x ≡ c)
drop_stack_found (change.DropStack x) e = (x, refl)
drop_stack_found _ e = absurd (omega (arith, e))

pub drop_stack_kind : IsKind 2 change.DropStack spelled_bytes IsStackName
drop_stack_kind = record { spells = λ x. refl; fits = λ x p. p; asks = λ x p. p; found = drop_stack_found }

put_row_found : (c : Change) → the_tag c ≡ 3 → (x : Row) × (change.PutRow x ≡ c)
put_row_found (change.PutRow x) e = (x, refl)
put_row_found _ e = absurd (omega (arith, e))

pub put_row_kind : IsKind 3 change.PutRow spelled_row IsProperRow
put_row_kind = record { spells = λ x. refl; fits = λ x p. p; asks = λ x p. p; found = put_row_found }

drop_row_found : (c : Change) → the_tag c ≡ 4 → (x : ℕ) × (change.DropRow x ≡ c)
drop_row_found (change.DropRow x) e = (x, refl)
drop_row_found _ e = absurd (omega (arith, e))

pub drop_row_kind : IsKind 4 change.DropRow spelled_number IsNumber
drop_row_kind = record { spells = λ x. refl; fits = λ x p. p; asks = λ x p. p; found = drop_row_found }

put_graph_found : (c : Change) → the_tag c ≡ 5 → (x : List ℕ × TravGraph) × (change.PutGraph x.0 x.1 ≡ c)
put_graph_found (change.PutGraph n g) e = ((n, g), refl)
put_graph_found _ e = absurd (omega (arith, e))

pub put_graph_kind : IsKind 5 (λ x. change.PutGraph x.0 x.1) (spelled_pair spelled_bytes spelled_graph)
    (AreBoth IsStackName IsProperGraph)
put_graph_kind = record { spells = λ x. refl; fits = λ x p. p; asks = λ x p. p; found = put_graph_found }

put_point_found : (c : Change) → the_tag c ≡ 6 → (x : Point) × (change.PutPoint x ≡ c)
put_point_found (change.PutPoint x) e = (x, refl)
put_point_found _ e = absurd (omega (arith, e))

pub put_point_kind : IsKind 6 change.PutPoint spelled_point IsProperPoint
put_point_kind = record { spells = λ x. refl; fits = λ x p. p; asks = λ x p. p; found = put_point_found }

send_found : (c : Change) → the_tag c ≡ 7 → (x : Letter) × (change.Send x ≡ c)
send_found (change.Send x) e = (x, refl)
send_found _ e = absurd (omega (arith, e))

pub send_kind : IsKind 7 change.Send spelled_letter IsProperLetter
send_kind = record { spells = λ x. refl; fits = λ x p. p; asks = λ x p. p; found = send_found }

drop_found : (c : Change) → the_tag c ≡ 8 → (x : ℕ) × (change.Drop x ≡ c)
drop_found (change.Drop x) e = (x, refl)
drop_found _ e = absurd (omega (arith, e))

pub drop_kind : IsKind 8 change.Drop spelled_number IsNumber
drop_kind = record { spells = λ x. refl; fits = λ x p. p; asks = λ x p. p; found = drop_found }

put_job_found : (c : Change) → the_tag c ≡ 9 → (x : Job) × (change.PutJob x ≡ c)
put_job_found (change.PutJob x) e = (x, refl)
put_job_found _ e = absurd (omega (arith, e))

pub put_job_kind : IsKind 9 change.PutJob spelled_job IsProperJob
put_job_kind = record { spells = λ x. refl; fits = λ x p. p; asks = λ x p. p; found = put_job_found }

end_job_found : (c : Change) → the_tag c ≡ 10 → (x : ℕ) × (change.EndJob x ≡ c)
end_job_found (change.EndJob x) e = (x, refl)
end_job_found _ e = absurd (omega (arith, e))

pub end_job_kind : IsKind 10 change.EndJob spelled_number IsNumber
end_job_kind = record { spells = λ x. refl; fits = λ x p. p; asks = λ x p. p; found = end_job_found }

enlist_found : (c : Change) → the_tag c ≡ 11 → (x : ℕ) × (change.Enlist x ≡ c)
enlist_found (change.Enlist x) e = (x, refl)
enlist_found _ e = absurd (omega (arith, e))

pub enlist_kind : IsKind 11 change.Enlist spelled_number IsNumber
enlist_kind = record { spells = λ x. refl; fits = λ x p. p; asks = λ x p. p; found = enlist_found }

stop_found : (c : Change) → the_tag c ≡ 12 → (x : ℕ) × (change.Stop x ≡ c)
stop_found (change.Stop x) e = (x, refl)
stop_found _ e = absurd (omega (arith, e))

pub stop_kind : IsKind 12 change.Stop spelled_number IsNumber
stop_kind = record { spells = λ x. refl; fits = λ x p. p; asks = λ x p. p; found = stop_found }

numbers_found : (c : Change) → the_tag c ≡ 13 → (x : Numbers) × (change.Numbers x ≡ c)
numbers_found (change.Numbers x) e = (x, refl)
numbers_found _ e = absurd (omega (arith, e))

pub numbers_kind : IsKind 13 change.Numbers spelled_numbers IsProperNumbers
numbers_kind = record { spells = λ x. refl; fits = λ x p. p; asks = λ x p. p; found = numbers_found }

put_past_found : (c : Change) → the_tag c ≡ 14 → (x : Past) × (change.PutPast x ≡ c)
put_past_found (change.PutPast x) e = (x, refl)
put_past_found _ e = absurd (omega (arith, e))

pub put_past_kind : IsKind 14 change.PutPast spelled_past IsProperPast
put_past_kind = record { spells = λ x. refl; fits = λ x p. p; asks = λ x p. p; found = put_past_found }

release_found : (c : Change) → the_tag c ≡ 15 → (x : Token) × (change.Release x ≡ c)
release_found (change.Release x) e = (x, refl)
release_found _ e = absurd (omega (arith, e))

pub release_kind : IsKind 15 change.Release spelled_token IsProperToken
release_kind = record { spells = λ x. refl; fits = λ x p. p; asks = λ x p. p; found = release_found }
