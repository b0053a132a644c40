-- The states in which a token may be, and what each answer makes of them: the table of the cloud.
use Rattle.std.specs.Prelude.{ℕ, List, [], ◌∷◌, Bool, true, false, not, ◌&&◌, bytes_eq}
use Rattle.std.specs.Prelude.{Option, Some, None, if◌then◌else◌, filter, flat_map}
use Rattle.heat_value.specs.Data.{Members}
use Rattle.heat_plan.specs.declared.facts.Facts.{Facts}
use Rattle.heat_plan.specs.declared.calls.Request.{Request}
use Rattle.heat_plan.specs.declared.calls.Request.TheVariants.{Create, Update, Delete, Poll, Gone}
use Rattle.heat_plan.specs.declared.calls.Answered.{Answered}
use Rattle.heat_plan.specs.declared.calls.Answered.TheVariants as answer
use Rattle.provider.specs.Same.{same_flag, same_members, same_facts}

-- an alive resource: its kind's name, its properties, its facts where it is ready, and whether it is leaving
pub record Living : Type 0 where
  pub kind : List ℕ
  pub props : Members
  pub facts : Option Facts
  pub leaving : Bool

-- a token is absent, or alive
abbrev pub TokenState : Type 0
TokenState = Option Living

-- as a create begins it
abbrev pub begun : List ℕ → Members → Living
begun kind props = record { kind = kind; props = props; facts = None; leaving = false }

-- as an update sets it: the facts are dropped where the properties differed
abbrev pub updated : Members → Living → Living
updated props it = if same_members props it.props then it else record it { props = props; facts = None }

-- as a delete leaves it
abbrev pub going : Living → Living
going it = record it { leaving = true }

-- with the facts that were told
abbrev pub told : Facts → Living → Living
told facts it = record it { facts = Some facts }

-- The table: in which states a token may be after this answer to this request, from the state before;
-- none where the answer can't come.
abbrev pub after : Request → Answered → TokenState → List TokenState
after (Create kind props) answer.Begun None = Some (begun kind props) ∷ []
after (Create kind props) answer.Begun (Some it) = Some it ∷ []
after (Create kind props) answer.Quota None = None ∷ []
after (Create kind props) answer.Quota (Some it) = []
after (Create kind props) answer.Failed None = None ∷ Some (begun kind props) ∷ []
after (Create kind props) answer.Failed (Some it) = Some it ∷ []
after (Update props) answer.Begun None = []
after (Update props) answer.Begun (Some it) = Some (updated props it) ∷ []
after (Update props) answer.Failed None = []
after (Update props) answer.Failed (Some it) = Some it ∷ Some (updated props it) ∷ []
after Delete answer.Begun None = None ∷ []
after Delete answer.Begun (Some it) = Some (going it) ∷ []
after Delete answer.Failed None = None ∷ []
after Delete answer.Failed (Some it) = Some it ∷ Some (going it) ∷ []
after Poll answer.NotYet None = []
after Poll answer.NotYet (Some it) = Some it ∷ []
after Poll (answer.Broken code) None = []
after Poll (answer.Broken code) (Some it) = Some it ∷ []
after Poll answer.Failed None = []
after Poll answer.Failed (Some it) = Some it ∷ []
after Poll (answer.Ready facts) None = []
after Poll (answer.Ready facts) (Some it) = Some (told facts it) ∷ []
after Gone answer.Gone None = None ∷ []
after Gone answer.Gone (Some it) = if it.leaving then None ∷ [] else []
after Gone answer.NotYet None = []
after Gone answer.NotYet (Some it) = if it.leaving then Some it ∷ [] else []
after Gone answer.Failed None = None ∷ []
after Gone answer.Failed (Some it) = Some it ∷ []
after request other state = []

abbrev pub same_told : Option Facts → Option Facts → Bool
same_told None None = true
same_told (Some a) (Some b) = same_facts a b
same_told a b = false

abbrev pub same_state : TokenState → TokenState → Bool
same_state None None = true
same_state (Some a) (Some b) =
    bytes_eq a.kind b.kind
    && (same_members a.props b.props && (same_told a.facts b.facts && same_flag a.leaving b.leaving))
same_state a b = false

-- each state once, at its first place
abbrev pub once : List TokenState → List TokenState
once [] = []
once (s ∷ rest) = s ∷ filter (λ r. not (same_state s r)) (once rest)

-- one step of what a token could be: each state turned into those of its row, equal states once
abbrev pub after_each : Request → Answered → List TokenState → List TokenState
after_each request answer states = once (flat_map (after request answer) states)
