-- What contracts see of a state, and how its tables are read and written.
use Rattle.std.specs.Prelude.{ℕ, List, Option}
use Rattle.std.specs.Str.{bytes_eq}
use Rattle.heat_plan.specs.Tables.{at, put, cut}
use Rattle.heat_plan.specs.declared.token.Token.{Token}
use Rattle.core_state.specs.declared.stack.Stack.{Stack}
use Rattle.core_state.specs.declared.graph.Graph.{Graph}
use Rattle.core_state.specs.declared.past.Past.{Past}
use Rattle.row_table.specs.declared.row.Row.{Row}
use Rattle.mail_table.specs.declared.mail.Letter.{Letter}
use Rattle.mail_table.specs.declared.mail.Job.{Job}
use Rattle.core_state.specs.declared.numbers.Numbers.{Numbers}

-- the tables, the live engines, the tokens that were released, and the next numbers
pub record StateData : Type 0 where
  pub stacks : List Stack
  pub graphs : List Graph
  pub pasts : List Past
  pub rows : List Row
  pub letters : List Letter
  pub jobs : List Job
  pub live : List ℕ
  pub released : List Token
  pub next : Numbers

-- a state, and how many more records each table takes with no memory wanted
pub record Held : Type 0 where
  pub state : StateData
  pub spare : ℕ

-- the keys
abbrev pub stack_key : Stack → List ℕ
stack_key s = s.name

abbrev pub graph_key : Graph → List ℕ
graph_key g = g.stack

abbrev pub past_key : Past → List ℕ
past_key p = p.stack

-- look-ups
abbrev pub stack_at : List Stack → List ℕ → Option Stack
stack_at = at bytes_eq stack_key

abbrev pub graph_at : List Graph → List ℕ → Option Graph
graph_at = at bytes_eq graph_key

abbrev pub past_at : List Past → List ℕ → Option Past
past_at = at bytes_eq past_key

-- writes
abbrev pub put_stack : Stack → List Stack → List Stack
put_stack = put bytes_eq stack_key

abbrev pub put_graph : Graph → List Graph → List Graph
put_graph = put bytes_eq graph_key

abbrev pub put_past : Past → List Past → List Past
put_past = put bytes_eq past_key

-- removals
abbrev pub cut_stack : List ℕ → List Stack → List Stack
cut_stack = cut bytes_eq stack_key

abbrev pub cut_graph : List ℕ → List Graph → List Graph
cut_graph = cut bytes_eq graph_key

abbrev pub cut_past : List ℕ → List Past → List Past
cut_past = cut bytes_eq past_key
