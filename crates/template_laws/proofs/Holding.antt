-- Outcomes of which something holds: of what is made, and of where a fault stands.
use Rattle.std.proofs.Common.{List, ◌∷◌, ℕ}
use Rattle.heat_value.specs.Data.{Data}
use Rattle.heat_value.specs.declared.path.Step.{Step}
use Rattle.eval_words.specs.Outcomes.{Outcome, Gives, Faults, and_then, made_into, under}
use Rattle.eval_words.specs.declared.code.FaultCode.{FaultCode}
use Rattle.eval_words.specs.declared.function.Function.{Function}
use Rattle.eval_words.specs.declared.function.Function.TheVariants as function
use Rattle.template_laws.specs.Faulting.{MayFault, own, replaced, IsCallAt}
use Rattle.template_laws.specs.Reached.{IsPart}
use Rattle.template_laws.specs.Roles.{Role}

-- a code at a path
abbrev pub Fault : Type 1
Fault = FaultCode → List Step → Type 0

abbrev pub Holds : {A : Type 0} → (A → Type 0) → Fault → Outcome A → Type 0
Holds P Q (Gives a n) = P a
Holds P Q (Faults c p) = Q c p

module _ {A : Type 0} (P : A → Type 0) (Q : Fault) where
  pub under_holds : (R : Fault) (s : Step) (o : Outcome A) → ((c : FaultCode) (p : List Step) → Q c p → R c (s ∷ p))
      → Holds P Q o → Holds P R (under s o)
  under_holds R s (Gives a n) out holds = holds
  under_holds R s (Faults c p) out holds = out c p holds

  pub faults_hold : (R : Fault) (o : Outcome A) → ((c : FaultCode) (p : List Step) → Q c p → R c p)
      → Holds P Q o → Holds P R o
  faults_hold R (Gives a n) out holds = holds
  faults_hold R (Faults c p) out holds = out c p holds

  pub gives_hold : (R : A → Type 0) (o : Outcome A) → ((a : A) → P a → R a) → Holds P Q o → Holds R Q o
  gives_hold R (Gives a n) more holds = more a holds
  gives_hold R (Faults c p) more holds = holds

  pub then_holds : {B : Type 0} (R : B → Type 0) (o : Outcome A) (next : A → ℕ → Outcome B) → Holds P Q o
      → ((a : A) (n : ℕ) → P a → Holds R Q (next a n)) → Holds R Q (and_then o next)
  then_holds R (Gives a n) next holds more = more a n holds
  then_holds R (Faults c p) next holds more = holds

  pub made_holds : {B : Type 0} (R : B → Type 0) (f : A → B) (o : Outcome A) → ((a : A) → P a → R (f a))
      → Holds P Q o → Holds R Q (made_into f o)
  made_holds R f (Gives a n) more holds = more a holds
  made_holds R f (Faults c p) more holds = holds

-- a call in a part is one in the whole
deeper_call : (r : Role) (d : Data) (s : Step) (q : Role) (e : Data) → IsPart r d s q e → (path : List Step)
    (f : Function) → IsCallAt q e path f → IsCallAt r d (s ∷ path) f
deeper_call r d s q e part path f call = record {
  role = call.role;
  key = call.key;
  argument = call.argument;
  reached = (q, e, part, call.reached);
  names = call.names;
  formed = call.formed;
}

-- a fault of a part is one of the whole
pub deeper : (r : Role) (d : Data) (s : Step) (q : Role) (e : Data) → IsPart r d s q e → (c : FaultCode)
    (path : List Step) → MayFault q e c path → MayFault r d c (s ∷ path)
deeper r d s q e part c path (own f call may) = own f (deeper_call r d s q e part path f call) may
deeper r d s q e part c path (replaced at) = replaced (record {
  front = s ∷ at.front;
  rest = at.rest;
  repeat = deeper_call r d s q e part at.front function.Repeat at.repeat;
  split = λ i. s ∷ at.split i;
})
