-- How the calls of a simulated cloud go, by its settings.
use Rattle.std.specs.Prelude.{ℕ, List, Bool, Option, bytes_eq, find, nat_eq, option_map, unwrap_or, if◌then◌else◌}
use Rattle.std.specs.List.{list_any}
use Rattle.sim_cloud.specs.declared.course.Course.{Course}
use Rattle.sim_cloud.specs.declared.settings.KindDelay.{KindDelay}
use Rattle.sim_cloud.specs.declared.settings.NameCode.{NameCode}

-- the number stands in the list
abbrev pub is_listed : List ℕ → ℕ → Bool
is_listed numbers number = list_any (λ n. nat_eq n number) numbers

-- the course of the call with this number: one that is in both lists counts as in the first
abbrev pub course_in : List ℕ → List ℕ → ℕ → Course
course_in faults late number =
    if is_listed faults number then Course.Fails else (if is_listed late number then Course.FailsLate else Course.Works)

-- the polls left after an accepted request for this kind, none where its delay isn't set
abbrev pub delay_in : List KindDelay → List ℕ → ℕ
delay_in delays kind =
    unwrap_or (option_map (λ (d : KindDelay). d.polls) (find (λ (d : KindDelay). bytes_eq d.kind kind) delays)) 0

-- the code that polls of resources of this name are broken with
abbrev pub code_in : List NameCode → List ℕ → Option (List ℕ)
code_in broken name = option_map (λ (b : NameCode). b.code) (find (λ (b : NameCode). bytes_eq b.name name) broken)
