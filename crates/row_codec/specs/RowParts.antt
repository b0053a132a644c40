-- What a row keeps, part by part, but for its act and key.
use Rattle.plan_codec.specs.Below.{IsStackName, IsResName}
use Rattle.plan_codec.specs.Below.{IsNumber}
use Rattle.row_table.specs.declared.row.Row.{Row}
use Rattle.plan_codec.specs.Numbers.{IsWord}
use Rattle.plan_codec.specs.Parts.{IsIfSome, AreAll}
use Rattle.plan_codec.specs.Plans.{IsProperties, IsProperKind, IsProperFacts, IsPolicy}
use Rattle.row_codec.specs.Words.{IsAct, IsStatus}

pub record IsRowHead (r : Row) : Type 0 where
  pub no : IsNumber r.no
  pub stack : IsStackName r.stack
  pub name : IsResName r.name
  pub kind : IsProperKind r.kind
  pub act : IsAct r.act
  pub status : IsStatus r.status
  pub trav : IsNumber r.trav

pub record AreRowContents (r : Row) : Type 0 where
  pub props : IsProperties r.props
  pub target : IsIfSome IsProperties r.target
  pub facts : IsIfSome IsProperFacts r.facts

pub record AreRowTies (r : Row) : Type 0 where
  pub requires_ : AreAll IsNumber r.requires_
  pub replaces : IsIfSome IsNumber r.replaces
  pub replaced_by : IsIfSome IsNumber r.replaced_by
  pub engine : IsIfSome IsNumber r.engine
  pub key : IsWord r.key
  pub policy : IsPolicy r.policy
