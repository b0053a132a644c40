-- The faults that a value whose calls are in their form may have, and where.
use Rattle.std.specs.Prelude.{◌≡◌, ◌++◌, ℕ, List, [], ◌∷◌, true, Some, Contains, codes}
use Rattle.heat_value.specs.Data.{Data, fields, no_members, member}
use Rattle.heat_value.specs.declared.path.Step.{Step}
use Rattle.heat_value.specs.declared.path.Step.TheVariants.{Key}
use Rattle.eval_words.specs.declared.code.FaultCode.{FaultCode}
use Rattle.eval_words.specs.declared.code.FaultCode.TheVariants.{F01, F02, F03, F04, F05, F06, F07}
use Rattle.eval_words.specs.declared.function.Function.{Function}
use Rattle.eval_words.specs.declared.function.Function.TheVariants as function
use Rattle.template_laws.specs.Formed.{is_formed_as}
use Rattle.template_laws.specs.Reached.{Reaches}
use Rattle.template_laws.specs.Roles.{Role, named_as}

-- the codes that a function may give by what its argument was evaluated to, where the argument is in its form: F01 for a
-- part of the wrong sort, F02 to F05 for what the function can't do, F06 and F07 for what is too large
abbrev pub faults_of : Function → List FaultCode
faults_of function.Parameter = F06 ∷ F07 ∷ []
faults_of function.Resource = F06 ∷ F07 ∷ []
faults_of function.Attribute = F06 ∷ F07 ∷ []
faults_of function.File = F06 ∷ F07 ∷ []
faults_of function.Join = F01 ∷ F06 ∷ F07 ∷ []
faults_of function.Split = F01 ∷ F02 ∷ F03 ∷ F06 ∷ F07 ∷ []
faults_of function.Replace = F01 ∷ F03 ∷ F06 ∷ F07 ∷ []
faults_of function.ReplaceStrictly = F01 ∷ F03 ∷ F04 ∷ F06 ∷ F07 ∷ []
faults_of function.Repeat = F01 ∷ F03 ∷ F05 ∷ F06 ∷ F07 ∷ []
faults_of function.Digest = F01 ∷ F06 ∷ F07 ∷ []
faults_of function.MergeMaps = F01 ∷ F06 ∷ F07 ∷ []
faults_of function.ReplaceInMap = F01 ∷ F05 ∷ F06 ∷ F07 ∷ []
faults_of function.Concat = F01 ∷ F06 ∷ F07 ∷ []
faults_of function.ConcatUnique = F01 ∷ F06 ∷ F07 ∷ []
faults_of function.Filter = F01 ∷ F06 ∷ F07 ∷ []
faults_of function.Contains = F01 ∷ F07 ∷ []
faults_of function.If = F06 ∷ F07 ∷ []
faults_of function.FlagParameter = F01 ∷ F07 ∷ []
faults_of function.Equals = F07 ∷ []
faults_of function.Not = F07 ∷ []
faults_of function.And = F07 ∷ []
faults_of function.Or = F07 ∷ []

-- at the path stands a call of the function, in its form
pub record IsCallAt (r : Role) (d : Data) (path : List Step) (f : Function) : Type 0 where
  pub role : Role
  pub key : List ℕ
  pub argument : Data
  pub reached : Reaches r d path role (fields (member key argument no_members))
  pub names : named_as role key ≡ Some f
  pub formed : is_formed_as role key argument ≡ true

-- the path leads into the literal template of a repeat in its form
pub record IsInTemplate (r : Role) (d : Data) (path : List Step) : Type 0 where
  pub front : List Step
  pub rest : List Step
  pub repeat : IsCallAt r d front function.Repeat
  pub split : path ≡ front ++ Key (codes "repeat") ∷ Key (codes "template") ∷ rest

-- a fault of a value: of a call in its form, by what its argument was evaluated to; or in what a repeat replaced
pub data MayFault (r : Role) (d : Data) (c : FaultCode) (path : List Step) : Type 0 where
  own : (f : Function) → IsCallAt r d path f → Contains (faults_of f) c → MayFault r d c path
  replaced : IsInTemplate r d path → MayFault r d c path
