-- What a history tells of a stack stays where the further entries speak of another.
use Rattle.std.proofs.Common.{ap, inl, inr, refl, subst, sym, ◌∙◌}
use Rattle.std.proofs.lemmas.Grind.{fold-append}
use Rattle.std.proofs.lemmas.List.Elements.{Contains-append_cases}
use Rattle.std.proofs.lemmas.Slice.Eq.{bytes_eq-Decides}
use Rattle.std.specs.Prelude.{Bool, List, None, Option, Some, [], bytes_eq, false, option_map, ℕ, ◌++◌, ◌∷◌, ◌≡◌, ◌≢◌}
use Rattle.heat_plan.specs.Plans.{PlanData}
use Rattle.heat_plan.specs.declared.phase.Act.{Act}
use Rattle.provider.proofs.Sames.{not_true}
use Rattle.step_relation.specs.State.{StateData, past_at}
use Rattle.step_relation.specs.declared.Actor.{Actor}
use Rattle.step_relation.specs.declared.Cause.{Cause}
use Rattle.step_relation.specs.declared.Entry.{Entry}
use Rattle.step_relation.specs.declared.Past.{Past}
use Rattle.step_relation.specs.declared.Stack.{Stack}
use Rattle.step_relation.specs.Freshness.{plan_of}
use Rattle.step_relation.specs.Orders.{back_after, past_of, past_or}
use Rattle.step_relation.specs.Writes.{entry_of}
use Rattle.step_relation.specs.Last.{IsLast}
use Rattle.step_relation.specs.Marked.{Completed, Mark, Marked, mark_of, marked_by, marked_of}
use Rattle.step_relation.specs.Newest.{Latest, newest, newest_by, rollback_by, rollback_of}
use Rattle.step_relation.specs.Opening.{Opening}
use Rattle.history_laws.specs.tables.Below.{IsGone, never, TellsStack, deleted}
use Rattle.history_laws.proofs.tells.Appends.{marked-append, marked_on, newest-append, newest_on, rollback-append, rollback_on}
use Rattle.history_laws.proofs.tells.Lasts.{IsPassing, last_kept, passing_more, passing_silent}
use Rattle.history_laws.proofs.tells.Silence.{AreUnmarking, marked_on-silent, newest_on-silent, rollback_on-silent}
use Rattle.step_relation.specs.declared.What.TheVariants as what

-- the entries change no reading of the stack
pub record IsBeside (name : List ℕ) (es : List Entry) : Type 0 where
  pub newest : (b : Option Latest) → newest_on name b es ≡ b
  pub marked : (b : Option Marked) → marked_on name b es ≡ b
  pub rollback : (b : Bool) → rollback_on name b es ≡ b
  pub passing : IsPassing name es

pub beside_silent : (name : List ℕ) (es : List Entry) → AreUnmarking es → IsBeside name es
beside_silent name es silent = record {
  newest = λ b. newest_on-silent name b es silent;
  marked = λ b. marked_on-silent name b es silent;
  rollback = λ b. rollback_on-silent name b es silent;
  passing = passing_silent name es silent;
}

passing_both : (name : List ℕ) (es fs : List Entry) → IsPassing name es → IsPassing name fs
    → IsPassing name (es ++ fs)
passing_both name es fs p q = record {
  no_create = λ c. elim (Contains-append_cases es fs c.entry c.among) [
    | inl was ↦ p.no_create
        (record { entry = c.entry; among = was; it = c.it; command = c.command; creates = c.creates })
    | inr new ↦ q.no_create
        (record { entry = c.entry; among = new; it = c.it; command = c.command; creates = c.creates })
  ];
  no_completion = λ trav e among c. elim (Contains-append_cases es fs e among) [
    | inl was ↦ p.no_completion trav e was c
    | inr new ↦ q.no_completion trav e new c
  ];
}

pub beside_both : (name : List ℕ) (es fs : List Entry) → IsBeside name es → IsBeside name fs
    → IsBeside name (es ++ fs)
beside_both name es fs p q = record {
  newest = λ b. fold-append (λ (x : Option Latest) (e : Entry). newest_by name x e.what) b es fs
      ∙ (q.newest (newest_on name b es) ∙ p.newest b);
  marked = λ b. fold-append (λ (x : Option Marked) (e : Entry). marked_by name x e.what) b es fs
      ∙ (q.marked (marked_on name b es) ∙ p.marked b);
  rollback = λ b. fold-append (λ (x : Bool) (e : Entry). rollback_by name x e.what) b es fs
      ∙ (q.rollback (rollback_on name b es) ∙ p.rollback b);
  passing = passing_both name es fs p.passing q.passing;
}

-- a mark of another stack
pub beside_mark : (name own : List ℕ) (actor : Actor) (trav : ℕ) (act : Act) (cause : Option Cause) → own ≢ name
    → IsBeside name (entry_of actor (what.Mark own trav act cause) ∷ [])
beside_mark name own actor trav act cause ne =
    let not : bytes_eq own name ≡ false = not_true (bytes_eq own name) (λ t. ne ((bytes_eq-Decides own name).0 t)) in
    record {
      newest = λ b. refl;
      marked = λ b. rw not refl;
      rollback = λ b. refl;
      passing = passing_more name (entry_of actor (what.Mark own trav act cause)) [] (λ it c. let eq = c.is in cc)
          (λ t c. let eq = c.1 in ne (cc)) (passing_silent name [] tt);
    }

-- a mark of this one with a cause is passed over too
pub passing_failed : (name : List ℕ) (actor : Actor) (trav : ℕ) (act : Act) (cause : Cause)
    → IsPassing name (entry_of actor (what.Mark name trav act (Some cause)) ∷ [])
passing_failed name actor trav act cause =
    passing_more name (entry_of actor (what.Mark name trav act (Some cause))) [] (λ it c. let eq = c.is in cc)
    (λ t c. let eq = c.1 in cc)
    (passing_silent name [] tt)

-- a command of another stack
pub beside_command : (name own : List ℕ) (actor : Actor) (trav : ℕ) (act : Act) (plan : Option PlanData) (rb : Bool)
    → own ≢ name
    → IsBeside name (entry_of actor (what.Command own trav act plan rb) ∷ [])
beside_command name own actor trav act plan rb ne =
    let not : bytes_eq own name ≡ false = not_true (bytes_eq own name) (λ t. ne ((bytes_eq-Decides own name).0 t)) in
    record {
      newest = λ b. rw not refl;
      marked = λ b. rw not refl;
      rollback = λ b. rw not refl;
      passing = passing_more name (entry_of actor (what.Command own trav act plan rb)) []
          (λ it c. let eq = c.is in absurd (ne (cc)))
          (λ t c. let eq = c.1 in cc) (passing_silent name [] tt);
    }

pub past_same : (s t : StateData) (name : List ℕ) → past_at t.pasts name ≡ past_at s.pasts name
    → past_of t name ≡ past_of s name
past_same s t name is = ap (λ (p : Option Past). past_or name p) is

module _ (o : Opening) (h es : List Entry) (s t : StateData) where
  pub stack_beside : (st : Stack) → IsBeside st.name es → past_at t.pasts st.name ≡ past_at s.pasts st.name
      → TellsStack o h s st → TellsStack o (h ++ es) t st
  stack_beside st p past k =
      let same = past_same s t st.name past in
      record {
        traversal = newest-append o h es st.name ∙ (p.newest (newest o h st.name) ∙ k.traversal);
        marked = k.marked;
        is_marked = marked-append o h es st.name ∙ (p.marked (marked_of o h st.name) ∙ k.is_marked);
        trav = k.trav;
        status = k.status;
        rollback = rollback-append o h es st.name ∙ (p.rollback (rollback_of o h st.name)
            ∙ (k.rollback ∙ ap (λ (x : Past). x.rollback) (sym same)));
        last = λ keeps. subst (λ (x : Past). IsLast o (h ++ es) st.name (plan_of (back_after st x))) (sym same)
            (last_kept o h es st.name _ p.passing (k.last keeps));
      }

  mark_same : (name : List ℕ) (b : Option Mark) → IsBeside name es → mark_of o h name ≡ b
      → mark_of o (h ++ es) name ≡ b
  mark_same name b p is = ap (option_map (λ (x : Marked). x.mark))
      (marked-append o h es name ∙ p.marked (marked_of o h name)) ∙ is

  pub gone_beside : (name : List ℕ) → IsBeside name es → IsGone o h name → IsGone o (h ++ es) name
  gone_beside name p (never none unmarked) =
      never (newest-append o h es name ∙ (p.newest (newest o h name) ∙ none)) (mark_same name None p unmarked)
  gone_beside name p (deleted it is act plan marked) =
      deleted it (newest-append o h es name ∙ (p.newest (newest o h name) ∙ is)) act plan
      (mark_same name (Some Completed) p marked)
