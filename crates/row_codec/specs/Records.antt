-- What a state holds, as bytes: the parts of each record in their order.
use Rattle.std.specs.Prelude.{◌≢◌, ℕ, ◌<◌, ◌^◌, List, ◌++◌}
use Rattle.plan_codec.specs.Below.{IsStackName, IsResName}
use Rattle.plan_codec.specs.Below.{IsNumber}
use Rattle.plan_codec.specs.Below.{Rollback}
use Rattle.plan_codec.specs.Below.{Token}
use Rattle.traversal_graph.specs.declared.shape.TravGraph.{TravGraph}
use Rattle.row_table.specs.declared.row.Row.{Row}
use Rattle.sync_points.specs.declared.point.Input.{Input}
use Rattle.sync_points.specs.declared.point.Point.{Point}
use Rattle.mail_table.specs.declared.mail.Letter.{Letter}
use Rattle.mail_table.specs.declared.mail.Job.{Job}
use Rattle.core_state.specs.declared.stack.Stack.{Stack}
use Rattle.core_state.specs.declared.numbers.Numbers.{Numbers}
use Rattle.core_state.specs.declared.past.Past.{Past}
use Rattle.plan_codec.specs.Numbers.{spelled_number, spelled_bytes, spelled_flag, IsHalfWord, IsAny}
use Rattle.plan_codec.specs.Parts.{spelled_pair, AreBoth, spelled_option, IsIfSome, spelled_list, AreAll}
use Rattle.plan_codec.specs.Values.{spelled_fields}
use Rattle.plan_codec.specs.Plans.{IsProperties, spelled_kind, IsProperKind, spelled_facts, IsProperFacts}
use Rattle.plan_codec.specs.Plans.{spelled_policy, IsPolicy, spelled_plan, IsProperPlan}
use Rattle.row_codec.specs.Words.{spelled_act, IsAct, spelled_status, IsStatus, spelled_stage, IsStage}
use Rattle.row_codec.specs.Words.{spelled_node, IsProperNode, IsNext}

-- a stack: its name and numbers, what its newest traversal does and how far it is, its plan
unfoldable pub spelled_stack : Stack → List ℕ
spelled_stack s =
    spelled_bytes s.name
    ++ (spelled_number s.no
    ++ (spelled_number s.trav
    ++ (spelled_act s.act
    ++ (spelled_status s.status ++ spelled_option spelled_plan s.plan))))

pub record IsProperStack (s : Stack) : Type 0 where
  pub name : IsStackName s.name
  pub no : IsNumber s.no
  pub trav : IsNumber s.trav
  pub act : IsAct s.act
  pub status : IsStatus s.status
  pub plan : IsIfSome IsProperPlan s.plan

-- a graph: its nodes, then its edges by their places
unfoldable pub spelled_graph : TravGraph → List ℕ
spelled_graph g = spelled_list spelled_node g.nodes ++ spelled_list (spelled_pair spelled_number spelled_number) g.edges

pub record IsProperGraph (g : TravGraph) : Type 0 where
  pub nodes : AreAll IsProperNode g.nodes
  pub edges : AreAll (AreBoth IsHalfWord IsHalfWord) g.edges

-- an input: whom it is from, and what was given
unfoldable pub spelled_input : Input → List ℕ
spelled_input i =
    spelled_number i.from
    ++ (spelled_option spelled_bytes i.name
    ++ (spelled_number i.row ++ spelled_option spelled_facts i.facts))

pub record IsProperInput (i : Input) : Type 0 where
  pub from : IsHalfWord i.from
  pub name : IsIfSome IsResName i.name
  pub row : IsNumber i.row
  pub facts : IsIfSome IsProperFacts i.facts

-- a point: its stack and node, its inputs, whether it is done
unfoldable pub spelled_point : Point → List ℕ
spelled_point p = spelled_bytes p.stack ++ (spelled_number p.node ++ (spelled_list spelled_input p.inputs ++ spelled_flag p.done))

pub record IsProperPoint (p : Point) : Type 0 where
  pub stack : IsStackName p.stack
  pub node : IsHalfWord p.node
  pub inputs : AreAll IsProperInput p.inputs
  pub done : IsAny p.done

-- a letter: its number, and the node that it speaks of
unfoldable pub spelled_letter : Letter → List ℕ
spelled_letter l = spelled_number l.no ++ (spelled_bytes l.stack ++ (spelled_number l.trav ++ spelled_number l.node))

pub record IsProperLetter (l : Letter) : Type 0 where
  pub no : IsNumber l.no
  pub stack : IsStackName l.stack
  pub trav : IsNumber l.trav
  pub node : IsHalfWord l.node

-- a job: its engine, letter, row and stage
unfoldable pub spelled_job : Job → List ℕ
spelled_job j = spelled_number j.engine ++ (spelled_letter j.letter ++ (spelled_number j.row ++ spelled_stage j.stage))

pub record IsProperJob (j : Job) : Type 0 where
  pub engine : IsNumber j.engine
  pub letter : IsProperLetter j.letter
  pub row : IsNumber j.row
  pub stage : IsStage j.stage

-- the next numbers
unfoldable pub spelled_numbers : Numbers → List ℕ
spelled_numbers n =
    spelled_number n.stack
    ++ (spelled_number n.trav
    ++ (spelled_number n.row
    ++ (spelled_number n.engine ++ spelled_number n.letter)))

pub record IsProperNumbers (n : Numbers) : Type 0 where
  pub stack : IsNext n.stack
  pub trav : IsNext n.trav
  pub row : IsNext n.row
  pub engine : IsNext n.engine
  pub letter : IsNext n.letter

-- a past: its stack's name, whether a failure is rolled back, and to which plan
unfoldable pub spelled_past : Past → List ℕ
spelled_past p = spelled_bytes p.stack ++ (spelled_flag p.rollback ++ spelled_option spelled_plan p.back)

pub record IsProperPast (p : Past) : Type 0 where
  pub stack : IsStackName p.stack
  pub rollback : IsAny p.rollback
  pub back : IsIfSome IsProperPlan p.back

-- a token: its stack, name and row
unfoldable pub spelled_token : Token → List ℕ
spelled_token t = spelled_bytes t.stack ++ (spelled_bytes t.name ++ spelled_number t.row)

pub record IsProperToken (t : Token) : Type 0 where
  pub stack : IsStackName t.stack
  pub name : IsResName t.name
  pub row : IsNumber t.row

-- a row: its number and names, what was last begun at it, and how far that is
unfoldable pub spelled_row_head : Row → List ℕ
spelled_row_head r =
    spelled_number r.no
    ++ (spelled_bytes r.stack
    ++ (spelled_bytes r.name
    ++ (spelled_kind r.kind
    ++ (spelled_act r.act
    ++ (spelled_status r.status ++ spelled_number r.trav)))))

-- its properties, those that it is to get, and its facts
unfoldable pub spelled_row_contents : Row → List ℕ
spelled_row_contents r =
    spelled_fields r.props
    ++ (spelled_option spelled_fields r.target ++ spelled_option spelled_facts r.facts)

-- the rows that it requires, those round it, its engine, key and policy
unfoldable pub spelled_row_ties : Row → List ℕ
spelled_row_ties r =
    spelled_list spelled_number r.requires_
    ++ (spelled_option spelled_number r.replaces
    ++ (spelled_option spelled_number r.replaced_by
    ++ (spelled_option spelled_number r.engine
    ++ (spelled_number r.key ++ spelled_policy r.policy))))

unfoldable pub spelled_row : Row → List ℕ
spelled_row r = spelled_row_head r ++ (spelled_row_contents r ++ spelled_row_ties r)

-- a row's act is no rollback, and its key is below 2^62
pub record IsProperRow (r : Row) : Type 0 where
  pub no : IsNumber r.no
  pub stack : IsStackName r.stack
  pub name : IsResName r.name
  pub kind : IsProperKind r.kind
  pub act : r.act ≢ Rollback
  pub status : IsStatus r.status
  pub trav : IsNumber r.trav
  pub props : IsProperties r.props
  pub target : IsIfSome IsProperties r.target
  pub facts : IsIfSome IsProperFacts r.facts
  pub requires_ : AreAll IsNumber r.requires_
  pub replaces : IsIfSome IsNumber r.replaces
  pub replaced_by : IsIfSome IsNumber r.replaced_by
  pub engine : IsIfSome IsNumber r.engine
  pub key : r.key < 2 ^ 62
  pub policy : IsPolicy r.policy
