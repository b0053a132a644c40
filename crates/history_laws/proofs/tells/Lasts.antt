-- The plan that a rollback goes back to, behind further entries.
use Rattle.std.proofs.Common.{ap, append_assoc, arith, inl, inr, refl, subst, sym, ◌∙◌}
use Rattle.std.proofs.lemmas.List.Elements.{Contains-append_cases, Contains-append_left, Contains-append_right}
use Rattle.std.specs.Prelude.{Contains, List, Some, [], ℕ, ◌++◌, ◌∷◌, ◌≡◌, ◌≢◌, ◌⊎◌}
use Rattle.heat_plan.specs.Plans.{PlanData}
use Rattle.heat_plan.specs.declared.phase.Act.TheVariants.{Create}
use Rattle.step_relation.specs.State.{stack_at}
use Rattle.step_relation.specs.declared.Entry.{Entry}
use Rattle.step_relation.specs.declared.Stack.{Stack}
use Rattle.step_relation.specs.Last.{HasCreate, IsCommandOf, IsCompleted, IsCompletion, IsLast, IsNeverReached, IsReached}
use Rattle.step_relation.specs.Last.{WasReached, at_first, created, kept, opened, reached, since}
use Rattle.step_relation.specs.Newest.{Latest}
use Rattle.step_relation.specs.Opening.{Opening}
use Rattle.history_laws.proofs.tables.Rows.{stack-key}
use Rattle.history_laws.proofs.tells.Silence.{AreUnmarking, IsUnmarking}
use Rattle.provider.proofs.Lists.{here, there, cases}

-- where a list that is joined of two is split
pub split : {A : Type 0} (h es before after : List A) (e : A) → h ++ es ≡ before ++ e ∷ after
    → ((rest : List A) × (h ≡ before ++ e ∷ rest) × (after ≡ rest ++ es)) ⊎
    ((mid : List A) × (es ≡ mid ++ e ∷ after) × (before ≡ h ++ mid))
split [] es before after e is = inr (before, is, refl)
split (x ∷ h) es [] after e is =
    let first : x ≡ e = cc in
    let others : h ++ es ≡ after = cc in
    inl (h, ap (λ y. y ∷ h) first, sym others)
split {A = A} (x ∷ h) es (b ∷ before) after e is =
    let first : x ≡ b = cc in
    let others : h ++ es ≡ before ++ e ∷ after = cc in
    by first (split h es before after e others) where
      by : x ≡ b → ((rest : List A) × (h ≡ before ++ e ∷ rest) × (after ≡ rest ++ es)) ⊎
          ((mid : List A) × (es ≡ mid ++ e ∷ after) × (before ≡ h ++ mid))
          → ((rest : List A) × (x ∷ h ≡ b ∷ (before ++ e ∷ rest)) × (after ≡ rest ++ es)) ⊎
          ((mid : List A) × (es ≡ mid ++ e ∷ after) × (b ∷ before ≡ x ∷ (h ++ mid)))
      by f (inl (rest, i, j)) = inl (rest, ap (λ y. y ∷ h) f ∙ ap (λ ys. b ∷ ys) i, j)
      by f (inr (mid, i, j)) = inr (mid, i, ap (λ y. y ∷ before) (sym f) ∙ ap (λ ys. x ∷ ys) j)

-- among these entries is no create of the stack, and no completion of it
pub record IsPassing (stack : List ℕ) (es : List Entry) : Type 0 where
  pub no_create : ¬ HasCreate stack es
  pub no_completion : (trav : ℕ) (e : Entry) → Contains es e → ¬ IsCompletion stack trav e

module _ (stack : List ℕ) (es : List Entry) (p : IsPassing stack es) where
  create_before : (h : List Entry) → HasCreate stack (h ++ es) → HasCreate stack h
  create_before h c = elim (Contains-append_cases h es c.entry c.among) [
    | inl was ↦ record { entry = c.entry; among = was; it = c.it; command = c.command; creates = c.creates }
    | inr new ↦ absurd (p.no_create
        (record { entry = c.entry; among = new; it = c.it; command = c.command; creates = c.creates }))
  ]

  completed_before : (trav : ℕ) (h : List Entry) → IsCompleted stack trav (h ++ es) → IsCompleted stack trav h
  completed_before trav h c = elim (Contains-append_cases h es c.entry c.among) [
    | inl was ↦ record { entry = c.entry; among = was; completes = c.completes }
    | inr new ↦ absurd (p.no_completion trav c.entry new c.completes)
  ]

  reached_before : (e : Entry) (after : List Entry) (it : Latest) → IsReached stack e (after ++ es) it
      → IsReached stack e after it
  reached_before e after it r = record {
    command = r.command;
    keeps = r.keeps;
    completed =
        completed_before it.trav after r.completed;
  }

  still_never : (h : List Entry) → IsNeverReached stack h → IsNeverReached stack (h ++ es)
  still_never h never before after e it is r = elim (split h es before after e is) [
    | inl (rest, h_is, after_is) ↦ never before rest e it h_is
        (reached_before e rest it (subst (λ (x : List Entry). IsReached stack e x it) after_is r))
    | inr (mid, es_is, b) ↦ p.no_completion it.trav r.completed.entry
        (subst (λ (x : List Entry). Contains x r.completed.entry) (sym es_is)
        (Contains-append_right mid (e ∷ after) r.completed.entry (there r.completed.entry e after r.completed.among)))
        r.completed.completes
  ]

pub completed_on : (stack : List ℕ) (trav : ℕ) (h es : List Entry) → IsCompleted stack trav h
    → IsCompleted stack trav (h ++ es)
completed_on stack trav h es c = record {
  entry = c.entry;
  among =
      Contains-append_left h es c.entry c.among;
  completes = c.completes;
}

pub last_kept : (o : Opening) (h es : List Entry) (stack : List ℕ) (plan : PlanData) → IsPassing stack es
    → IsLast o h stack plan
    → IsLast o (h ++ es) stack plan
last_kept o h es stack plan p (reached before after e it is r no_create never) =
    reached before (after ++ es) e it (ap (λ (x : List Entry). x ++ es) is ∙ append_assoc before (e ∷ after) es)
    (record { command = r.command; keeps = r.keeps; completed = completed_on stack it.trav after es r.completed })
    (λ c. no_create (create_before stack es p after c)) (still_never stack es p after never)
last_kept o h es stack plan p (opened st no_create never at keeps was) =
    opened st (λ c. no_create (create_before stack es p h c)) (still_never stack es p h never) at keeps (on was) where
      on : WasReached st h → WasReached st (h ++ es)
      on (at_first done) = at_first done
      on (since c) = since (completed_on st.name st.trav h es c)
last_kept o h es stack plan p (kept no_create never unreached) =
    kept (λ c. no_create (create_before stack es p h c)) (still_never stack es p h never)
    (λ st at keeps was. unreached st at keeps (back st at was)) where
      back : (st : Stack) → stack_at o.state.stacks stack ≡ Some st → WasReached st (h ++ es) → WasReached st h
      back st at (at_first done) = at_first done
      back st at (since c) = let name : st.name ≡ stack = stack-key o.state.stacks stack st at in
          since (subst (λ (x : List ℕ). IsCompleted x st.trav h) (sym name)
          (completed_before stack es p st.trav h (subst (λ (x : List ℕ). IsCompleted x st.trav (h ++ es)) name c)))
last_kept o h es stack plan p (created before after e it is command creates no_create never) =
    created before (after ++ es) e it (ap (λ (x : List Entry). x ++ es) is ∙ append_assoc before (e ∷ after) es)
    command creates (λ c. no_create (create_before stack es p after c)) (still_never stack es p (e ∷ after) never)

-- what stands in a list without commands and marks is neither
pub unmarking_at : (es : List Entry) (e : Entry) → AreUnmarking es → Contains es e → IsUnmarking e.what
unmarking_at [] e silent c = absurd (omega (arith, c.1))
unmarking_at (x ∷ es) e silent c = elim (cases e x es c) [
  | inl is ↦ subst (λ (y : Entry). IsUnmarking y.what) is silent.0
  | inr rest ↦ unmarking_at es e silent.1 rest
]

-- no command of the stack is among the entries
abbrev pub IsUncommanded : List ℕ → List Entry → Type 0
IsUncommanded stack es = (e : Entry) (it : Latest) → Contains es e → ¬ IsCommandOf stack e it

pub uncommanded_silent : (stack : List ℕ) (es : List Entry) → AreUnmarking es → IsUncommanded stack es
uncommanded_silent stack es silent e it among c = subst IsUnmarking c.is (unmarking_at es e silent among)

pub uncommanded_no_create : (stack : List ℕ) (es : List Entry) → IsUncommanded stack es → ¬ HasCreate stack es
uncommanded_no_create stack es none c = none c.entry c.it c.among c.command

pub uncommanded_never : (stack : List ℕ) (es : List Entry) → IsUncommanded stack es → IsNeverReached stack es
uncommanded_never stack es none before after e it is r =
    none e it (subst (λ (x : List Entry). Contains x e) (sym is)
    (Contains-append_right before (e ∷ after) e (here e e after refl))) r.command

pub uncommanded_both : (stack : List ℕ) (es fs : List Entry) → IsUncommanded stack es → IsUncommanded stack fs
    → IsUncommanded stack (es ++ fs)
uncommanded_both stack es fs a b e it among c = elim (Contains-append_cases es fs e among) [
  | inl was ↦
      a e it was c
  | inr new ↦ b e it new c
]

pub passing_silent : (stack : List ℕ) (es : List Entry) → AreUnmarking es → IsPassing stack es
passing_silent stack es silent = record {
  no_create = uncommanded_no_create stack es (uncommanded_silent stack es silent);
  no_completion = λ trav e among c. subst IsUnmarking c.1 (unmarking_at es e silent among);
}

-- one more entry in front
pub passing_more : (stack : List ℕ) (e : Entry) (es : List Entry)
    → ((it : Latest) → IsCommandOf stack e it → it.act ≢ Create)
    → ((trav : ℕ) → ¬ IsCompletion stack trav e) → IsPassing stack es → IsPassing stack (e ∷ es)
passing_more stack e es creates completes p = record {
  no_create = λ c. elim (cases c.entry e es c.among) [
    | inl is ↦ creates c.it (subst (λ (x : Entry). IsCommandOf stack x c.it) (sym is) c.command) c.creates
    | inr rest ↦ p.no_create
        (record { entry = c.entry; among = rest; it = c.it; command = c.command; creates = c.creates })
  ];
  no_completion = λ trav x among c. elim (cases x e es among) [
    | inl is ↦ completes trav (subst (λ (y : Entry). IsCompletion stack trav y) (sym is) c)
    | inr rest ↦ p.no_completion trav x rest c
  ];
}
