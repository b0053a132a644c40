-- A step that asks nobody, as a turn.
use Rattle.std.proofs.Common.{List, [], ap, inl, inr, refl, subst, sym, ℕ, ◌∙◌, ◌≡◌, ◌⊎◌}
use Rattle.std.proofs.lemmas.Result.{IfErr-weaker, IfOk-weaker}
use Rattle.std.specs.Prelude.{Err, IfErr, IfOk, Ok, Result, ◌≢◌}
use Rattle.heat_plan.specs.declared.refusal.Refusal.{Refusal}
use Rattle.heat_plan.specs.declared.refusal.Refusal.TheVariants.{Worn}
use Rattle.heat_plan.specs.declared.refusal.Refusal.TheVariants as refusal
use Rattle.provider.specs.Cloud.{Cloud}
use Rattle.core_state.specs.State.{StateData}
use Rattle.core_state.specs.declared.entry.Entry.{Entry}
use Rattle.core_state.specs.declared.made.Made.{Made}
use Rattle.step_relation.specs.Given.{Given, Nothing}
use Rattle.step_relation.specs.Runs.{IsTied}
use Rattle.step_relation.specs.Runs as tied
use Rattle.step_parts.specs.Turns.{IsTurn, IsTurnRefusal}
use Rattle.step_parts.specs.Turns as step
use Rattle.book.specs.Kept.{unjudged}
use Rattle.record_keeper.specs.Shown.{ShownKeeper}
use Rattle.book.specs.Behind.{Turns}
use Rattle.book.specs.Keeping.{IsStorable, KeptBy}
use Rattle.book.specs.Makings.{IsQuietRefusal, IsQuietTurn, MadeAs, MadeQuietly, MakesAs, MakesQuietly}
use Rattle.book.specs.Makings.{tried_as, tried_quietly, turn_for}
use Rattle.book.specs.Makings as made_as
use Rattle.book.specs.Quiet.{Page, page}
use Rattle.book.specs.WorkableOver.{IsWorkable}
use Rattle.book.specs.Scenes.{IsUnmade, scene}
use Rattle.book.specs.Turned.{IsQuiet, IsWornBy}
use Rattle.book.specs.Turned as turned
use Rattle.book.specs.declared.turning.Turn.TheVariants.{DiskFault, Memory, Stepped}
use Rattle.book.specs.declared.turning.Turn.TheVariants as answer
use Rattle.book.specs.declared.turning.Turn.{Turn as Turn_answer}
use Rattle.book.proofs.Calling.{turn_storable}
use Rattle.book.proofs.Growing.{unasked}
use Rattle.book.proofs.Stepping.{never_fault}

-- worn out, a fault of the keeper, or a turn that found no memory
sorts : (r : Refusal) → (r ≡ Worn) ⊎ ((r ≡ refusal.DiskFault) ⊎ (turn_for (Err r) ≡ Memory))
sorts refusal.Worn = inl refl
sorts refusal.DiskFault = inr (inl refl)
sorts refusal.StackExists = inr (inr refl)
sorts refusal.NoStack = inr (inr refl)
sorts refusal.Deleting = inr (inr refl)
sorts refusal.TooManyStacks = inr (inr refl)
sorts refusal.TooManyRows = inr (inr refl)
sorts refusal.NoEngine = inr (inr refl)
sorts refusal.TooManyEngines = inr (inr refl)
sorts refusal.NotRunning = inr (inr refl)
sorts refusal.Memory = inr (inr refl)

module _ (s : StateData) (e : ℕ) where
  -- a turn that was given nothing from outside, or what was prepared
  pub quiet_of : (given : Given) → IsQuiet given → IsTied unjudged s e given → (m : Made) → IsTurn s e given m
      → IsQuietTurn s e m
  quiet_of given quiet its m t = record { given = given; quiet = quiet; turn = t.turn; lasts = t.lasts; tied = its }

  pub refusal_of : (given : Given) → IsTied unjudged s e given → (r : Refusal) → IsTurnRefusal s e given r
      → IsQuietRefusal s e r
  refusal_of given its r (step.memory is) = made_as.memory is
  refusal_of given its r (step.worn is wears) = made_as.worn is (record { given = given; tied = its; wears = wears })

  quiet_nothing : IsQuiet Nothing
  quiet_nothing a is = cc

  pub nothing_made : (made : Result Made Refusal) → IfOk made (IsTurn s e Nothing) → IfOk made (IsQuietTurn s e)
  nothing_made made ok = IfOk-weaker made _ _ (λ m t. quiet_of Nothing quiet_nothing tied.nothing m t) ok

  pub nothing_refused : (made : Result Made Refusal) → IfErr made (IsTurnRefusal s e Nothing) → IfErr made
      (IsQuietRefusal s e)
  nothing_refused made err = IfErr-weaker made _ _ (λ r k. refusal_of Nothing tied.nothing r k) err

-- the page is the same
pub unmade : (s t : StateData) (h i : List Entry) (c : Cloud) → page t i ≡ page s h → IsUnmade (scene s h c)
    (scene t i c)
unmade s t h i c same = record {
  state = ap (λ (p : Page). p.state) same;
  entries = ap (λ (p : Page). p.entries) same;
  cloud = unasked c;
}

pub quietly : (e : ℕ) (made : Result Made Refusal) (s t : StateData) (h i : List Entry) (c : Cloud)
    (before after : ShownKeeper) (faults now : ℕ) (result : Turn_answer)
    → MakesQuietly made (page s h) (page t i) before after faults now result → IfOk made (IsQuietTurn s e)
    → IfErr made (IsQuietRefusal s e)
    → Turns e (scene s h c) (scene t i c) before after faults now result
quietly e made s t h i c before after faults now result it ok err = by it.does it.kept where
  when_made : (m : Made) → made ≡ Ok m → IsQuietTurn s e m
  when_made m is = subst (λ (r : Result Made Refusal). IfOk r (IsQuietTurn s e)) is ok

  worn_by : IsQuietRefusal s e Worn → IsWornBy s e
  worn_by (made_as.memory no_) = cc
  worn_by (made_as.worn yes_ wears) = wears

  by : (q : MadeQuietly made (page s h) (page t i) result)
      → KeptBy before after faults now s t (tried_quietly q) (result ≡ DiskFault)
      → Turns e (scene s h c) (scene t i c) before after faults now result
  by (made_as.stepped m is writes ends) kept = let k = when_made m is in record {
    turned = turned.quiet k.given m.changes m.entries ends k.quiet k.turn k.lasts k.tied
        (record { state = writes.state; entries = writes.entries }) refl;
    kept = kept;
  }
  by (made_as.worn is same ends) kept = record {
    turned = turned.worn ends (worn_by (subst (λ (r : Result Made Refusal). IfErr r (IsQuietRefusal s e)) is err))
        (unmade s t h i c same);
    kept = kept;
  }
  by (made_as.unkept m is some same ends) kept = let k = when_made m is in record {
    turned = turned.unkept k.given m.changes m.entries ends k.quiet some k.turn k.lasts k.tied
        (unmade s t h i c same);
    kept = kept;
  }
  by (made_as.unmade same ends) kept = record { turned = turned.unmade ends (unmade s t h i c same); kept = kept }

-- what is quiet may be kept and made
pub quiet_storable : (s : StateData) → IsWorkable s → (e : ℕ) (made : Result Made Refusal)
    → IfOk made (IsQuietTurn s e) → IfOk made (λ m. IsStorable s m.changes)
quiet_storable s x e made ok = IfOk-weaker made _ _
    (λ m t. turn_storable s x e t.given m.changes m.entries t.turn t.lasts) ok

-- and isn't refused for a fault of the keeper
pub quiet_honest : (s : StateData) (e : ℕ) (made : Result Made Refusal) → IfErr made (IsQuietRefusal s e)
    → made ≢ Err refusal.DiskFault
quiet_honest s e made err is = by (subst (λ (r : Result Made Refusal). IfErr r (IsQuietRefusal s e)) is err) where
  by : ¬ IsQuietRefusal s e refusal.DiskFault
  by (made_as.memory no_) = cc
  by (made_as.worn no_ wears) = cc

-- it was made, and so is the turn
module _ (made : Result Made Refusal) (s t : StateData) (h i : List Entry) (before after : ShownKeeper)
    (faults now : ℕ) (first : Result (Unit {0}) Refusal) where
  pub made_quietly : MakesAs made (page s h) (page t i) before after faults now first → made ≢ Err refusal.DiskFault
      → MakesQuietly made (page s h) (page t i) before after faults now (turn_for first)
  made_quietly it honest = by it.does it.kept where
    as_before : KeptBy before after faults now s t [] (first ≡ Err refusal.DiskFault)
        → ¬ (first ≡ Err refusal.DiskFault) → ¬ (turn_for first ≡ DiskFault)
        → KeptBy before after faults now s t [] (turn_for first ≡ DiskFault)
    as_before kept well never = record {
      keeps = kept.keeps;
      ready = λ fine. kept.ready well;
      rose = λ f. absurd (never f);
    }

    by : (q : MadeAs made (page s h) (page t i) first)
        → KeptBy before after faults now s t (tried_as q) (first ≡ Err refusal.DiskFault)
        → MakesQuietly made (page s h) (page t i) before after faults now (turn_for first)
    by (made_as.done m is writes ends) kept = let ended : turn_for first ≡ Stepped = ap turn_for ends in record {
      does = made_as.stepped m is writes ended;
      kept = record {
        keeps = kept.keeps;
        ready = λ fine. kept.ready (λ f. let x = sym ends ∙ f in cc);
        rose = λ f. let x = sym ended ∙ f in cc;
      };
    }
    by (made_as.refused r is same ends) kept = elim (sorts r) [
      | inl worn_out ↦ let ended : turn_for first ≡ answer.Worn = ap turn_for (ends ∙ ap Err worn_out) in record {
        does = made_as.worn (is ∙ ap Err worn_out) same ended;
        kept = as_before kept (λ f. let x = sym (ap Err worn_out) ∙ (sym ends ∙ f) in cc) (λ f. let x = sym ended ∙ f in cc);
      }
      | inr (inl fault) ↦ absurd (honest (is ∙ ap Err fault))
      | inr (inr lacks) ↦ let ended : turn_for first ≡ Memory = ap turn_for ends ∙ lacks in record {
        does = made_as.unmade same ended;
        kept = as_before kept (never_fault made first r honest is ends) (λ f. let x = sym ended ∙ f in cc);
      }
    ]
    by (made_as.unkept m is some same ends) kept = let ended : turn_for first ≡ DiskFault = ap turn_for ends in record {
      does = made_as.unkept m is some same ended;
      kept = record {
        keeps = kept.keeps;
        ready = λ fine. absurd (fine ended);
        rose = λ f. kept.rose ends;
      };
    }
    by (made_as.memory same ends) kept = let ended : turn_for first ≡ Memory = ap turn_for ends in record {
      does = made_as.unmade same ended;
      kept = as_before kept (λ f. let x = sym ends ∙ f in cc) (λ f. let x = sym ended ∙ f in cc);
    }
