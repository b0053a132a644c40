-- What a state has that changes made of nothing: each key once, the stack of each graph and past, and points by nodes.
use Rattle.std.specs.Prelude.{Bool, Contains, IsSome, List, None, [], length, nat_eq, ℕ, ◌+◌, ◌++◌, ◌∷◌, ◌≡◌}
use Rattle.std.specs.List.{AllByRecursion}
use Rattle.std.specs.Str.{bytes_eq}
use Rattle.heat_plan.specs.Tables.{at}
use Rattle.heat_plan.specs.declared.token.Token.{Token}
use Rattle.core_state.specs.declared.Node.{Node}
use Rattle.row_table.specs.Rows.{row_key}
use Rattle.core_state.specs.declared.Row.{Row}
use Rattle.core_state.specs.declared.Point.{Point}
use Rattle.mail_table.specs.Mails.{job_key, letter_key}
use Rattle.core_state.specs.declared.Job.{Job}
use Rattle.core_state.specs.declared.Letter.{Letter}
use Rattle.core_state.specs.Applies.{IsWithin, NoneFalls}
use Rattle.core_state.specs.State.{StateData, graph_key, past_key, stack_at, stack_key}
use Rattle.core_state.specs.declared.graph.Graph.{Graph}
use Rattle.core_state.specs.declared.numbers.Numbers.{Numbers}
use Rattle.core_state.specs.declared.past.Past.{Past}
use Rattle.core_state.specs.declared.stack.Stack.{Stack}
use Rattle.step_relation.specs.Opening.{bare}

-- no record has the key of one behind it
abbrev pub HasKeysOnce : {K A : Type 0} → (K → K → Bool) → (A → K) → List A → Type 0
HasKeysOnce same key [] = Unit {0}
HasKeysOnce same key (x ∷ xs) = (at same key xs (key x) ≡ None) × HasKeysOnce same key xs

-- no item stands among these, or before itself
abbrev pub AreNew : {A : Type 0} → List A → List A → Type 0
AreNew before [] = Unit {0}
AreNew before (x ∷ xs) = (¬ Contains before x) × AreNew (before ++ x ∷ []) xs

-- a point of this stack for each node, by its place
abbrev pub AreByNode : List ℕ → ℕ → List Node → List Point → Type 0
AreByNode stack place [] [] = Unit {0}
AreByNode stack place [] (p ∷ ps) = ⊥
AreByNode stack place (node ∷ nodes) [] = ⊥
AreByNode stack place (node ∷ nodes) (p ∷ ps) =
    (p.stack ≡ stack) × (p.node ≡ place) × AreByNode stack (place + 1) nodes ps

-- as many points as nodes
abbrev pub IsAligned : Graph → Type 0
IsAligned g = length g.points ≡ length g.graph.nodes

-- a graph as changes leave it, whose stack is one of these
pub record IsLaid (stacks : List Stack) (g : Graph) : Type 0 where
  pub stands : IsSome (stack_at stacks g.stack)
  pub points : AreByNode g.stack 0 g.graph.nodes g.points
  pub ends : IsWithin g.graph

-- the stack of the past is one of these
abbrev pub IsOfThese : List Stack → Past → Type 0
IsOfThese stacks p = IsSome (stack_at stacks p.stack)

-- the stacks, with the graph and the past of each
pub record StacksStand (stacks : List Stack) (graphs : List Graph) (pasts : List Past) : Type 0 where
  pub once : HasKeysOnce bytes_eq stack_key stacks
  pub graphs_once : HasKeysOnce bytes_eq graph_key graphs
  pub pasts_once : HasKeysOnce bytes_eq past_key pasts
  pub laid : AllByRecursion (IsLaid stacks) graphs
  pub kept : AllByRecursion (IsOfThese stacks) pasts

-- the rows, letters and jobs
pub record WorkStands (rows : List Row) (letters : List Letter) (jobs : List Job) : Type 0 where
  pub rows_once : HasKeysOnce nat_eq row_key rows
  pub letters_once : HasKeysOnce nat_eq letter_key letters
  pub jobs_once : HasKeysOnce nat_eq job_key jobs

-- the live engines and the released tokens, and next numbers from 1 on
pub record ListsStand (live : List ℕ) (released : List Token) (next : Numbers) : Type 0 where
  pub live_once : AreNew [] live
  pub released_once : AreNew [] released
  pub begun : NoneFalls bare.next next

pub record IsFormed (s : StateData) : Type 0 where
  pub stacks : StacksStand s.stacks s.graphs s.pasts
  pub work : WorkStands s.rows s.letters s.jobs
  pub lists : ListsStand s.live s.released s.next
