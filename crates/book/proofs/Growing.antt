-- What a book keeps, through each step of its history.
use Rattle.std.proofs.Common.{List, [], ap, append-nil, append_assoc, inl, inr, refl, subst, sym, ◌++◌, ◌∙◌, ◌∷◌, ◌≡◌}
use Rattle.std.specs.Prelude.{Contains, None, Option}
use Rattle.heat_plan.specs.declared.calls.Answered.{Answered}
use Rattle.heat_plan.specs.declared.calls.Request.{Request}
use Rattle.heat_plan.specs.declared.token.Token.{Token}
use Rattle.provider.proofs.Lists.{here}
use Rattle.provider.proofs.States.{state-stays}
use Rattle.provider.specs.Changes.{IsAsBefore}
use Rattle.provider.specs.Cloud.{Cloud, state_of}
use Rattle.provider.specs.Moves.{Answers}
use Rattle.provider.specs.Table.{TokenState}
use Rattle.provider.specs.declared.traced.Traced.{Traced}
use Rattle.provider.specs.declared.traced.Traced.TheVariants.{Called}
use Rattle.core_state.specs.Changes.{applied}
use Rattle.core_state.specs.State.{StateData}
use Rattle.core_state.specs.declared.change.Change.{Change}
use Rattle.core_state.specs.declared.entry.Actor.{Actor}
use Rattle.core_state.specs.declared.entry.Actor.TheVariants.{Main}
use Rattle.core_state.specs.declared.entry.Entry.{Entry}
use Rattle.core_state.specs.declared.entry.What.{What}
use Rattle.step_relation.specs.Runs.{ClosesOnce, IsTiedStep, Run, begins, goes_on}
use Rattle.step_relation.specs.Steps.{IsNote, Step, close, note, notes, previews, ran, shows, turned}
use Rattle.step_relation.specs.Writes.{entry_of}
use Rattle.step_relation.specs.Could.{Allows, could}
use Rattle.step_relation.specs.Laws.{opening_at}
use Rattle.history_laws.proofs.tells.Silence.{AreUncalling}
use Rattle.book.specs.Closing.{Closes}
use Rattle.book.specs.Closing as closing
use Rattle.book.specs.Kept.{IsKept, IsOpenedFrom, IsTraced, calls_of, listed, registries, unjudged, whole}
use Rattle.book.specs.declared.halting.Halt.{Halt}
use Rattle.book.proofs.Histories.{call_allows, calls_of-append, silence_allows}
use Rattle.book.proofs.Silent.{IsSilent, calls_of-silent, silent_uncalling}
use Rattle.core_state.specs.declared.entry.What.TheVariants as what

-- a cloud that wasn't asked is as before
pub unasked : (cloud : Cloud) → IsAsBefore cloud cloud
unasked cloud = record {
  stays = record { alive = refl; leaving = λ t. refl; left = λ t. refl };
  trace = refl;
  faults = refl;
  quota = λ kind. refl;
}

-- a note is silent
pub silent_note : (it : What) → IsNote it → IsSilent it
silent_note _ (shows it stack) = tt
silent_note _ (notes line code path) = tt
silent_note _ (ran idle turns) = tt
silent_note _ (turned e lost) = tt
silent_note _ (previews stack forecast) = tt

-- where nothing halts a book, its cloud's trace is its history's
pub whole_trace : (origin : Cloud) (h : List Entry) (c : Cloud) → IsTraced origin h c None
    → c.trace ≡ origin.trace ++ calls_of h
whole_trace origin h c (whole is) = is
whole_trace origin h c (listed given (inl no_) is) = cc
whole_trace origin h c (listed given (inr no_) is) = cc

module _ (first : StateData) (origin : Cloud) where
  -- a step, with what its entries ask of the cloud
  pub grows : (s t : StateData) (h i es : List Entry) (cs : List Change) (c d : Cloud) (halt : Option Halt)
      (asked : List Traced) → IsKept first origin s h c None → (step : Step s cs es) → IsTiedStep unjudged s cs es step
      → ClosesOnce h s cs es step → t ≡ applied cs s → i ≡ h ++ es → Allows (state_of origin) (h ++ es) d
      → calls_of es ≡ asked → d.trace ≡ c.trace ++ asked → IsKept first origin t i d halt
  grows s t h i es cs c d halt asked kept step tied once is_t is_i agrees asks trace = record {
    image = kept.image;
    count = kept.count;
    opened = kept.opened;
    run = goes_on unjudged s t cs h es i kept.run step (here unjudged unjudged [] refl) tied once is_t is_i;
    agrees = subst (λ (k : List Entry). Allows (state_of origin) k d) (sym is_i) agrees;
    trace = whole (trace ∙ ap (λ (xs : List Traced). xs ++ asked) (whole_trace origin h c kept.trace)
        ∙ append_assoc origin.trace (calls_of h) asked
        ∙ ap (λ (xs : List Traced). origin.trace ++ xs)
        (sym (ap calls_of is_i ∙ calls_of-append h es ∙ ap (λ (xs : List Traced). calls_of h ++ xs) asks)));
  }

  -- a step that tells of no call
  pub grows_silently : (s t : StateData) (h i es : List Entry) (cs : List Change) (c d : Cloud) (halt : Option Halt)
      → IsKept first origin s h c None
      → (step : Step s cs es) → IsTiedStep unjudged s cs es step → ClosesOnce h s cs es step
      → AreUncalling es → calls_of es ≡ [] → t ≡ applied cs s → i ≡ h ++ es
      → IsAsBefore c d → IsKept first origin t i d halt
  grows_silently s t h i es cs c d halt kept step tied once silent asks is_t is_i same =
      grows s t h i es cs c d halt [] kept step tied once is_t is_i
      (silence_allows (opening_at first origin) h c d kept.agrees es silent
      (λ token. state-stays token c d same.stays))
      asks (same.trace ∙ sym (append-nil c.trace))

  -- a step that tells of one call, first
  pub grows_by_call : (s t : StateData) (h i es rest : List Entry) (cs : List Change) (c d : Cloud)
      (halt : Option Halt) (actor : Actor) (token : Token)
      (asked : Request) (given : Answered) → IsKept first origin s h c None → (step : Step s cs es)
      → IsTiedStep unjudged s cs es step → ClosesOnce h s cs es step
      → es ≡ entry_of actor (what.Call token asked given) ∷ rest → AreUncalling rest → calls_of rest ≡ []
      → t ≡ applied cs s → i ≡ h ++ es
      → Answers token asked given c d → d.trace ≡ c.trace ++ Called token asked given ∷ []
      → IsKept first origin t i d halt
  grows_by_call s t h i es rest cs c d halt actor token asked given kept step tied once is_es silent asks is_t is_i
      answers trace =
      grows s t h i es cs c d halt (Called token asked given ∷ []) kept step tied once is_t is_i
      (subst (λ (xs : List Entry). Allows (state_of origin) (h ++ xs) d) (sym is_es)
      (call_allows (opening_at first origin) h c d kept.agrees rest actor token asked given silent answers))
      (ap calls_of is_es ∙ ap (λ (xs : List Traced). Called token asked given ∷ xs) asks) trace

  -- nothing has changed
  pub stays : (s t : StateData) (h i : List Entry) (c d : Cloud) (halt : Option Halt)
      → IsKept first origin s h c None
      → t ≡ s → i ≡ h → IsAsBefore c d → IsKept first origin t i d halt
  stays s t h i c d halt kept is_t is_i same = record {
    image = kept.image;
    count = kept.count;
    opened = kept.opened;
    run = subst (λ (x : StateData). Run registries first x i) (sym is_t)
        (subst (λ (k : List Entry). Run registries first s k) (sym is_i) kept.run);
    agrees = subst (λ (k : List Entry). Allows (state_of origin) k d) (sym is_i)
        (λ token. subst (λ (x : TokenState). Contains (could (state_of origin) h token) x)
        (sym (state-stays token c d same.stays)) (kept.agrees token));
    trace = whole (same.trace ∙ whole_trace origin h c kept.trace
        ∙ ap (λ (k : List Entry). origin.trace ++ calls_of k) (sym is_i));
  }

  -- a note
  pub kept_noted : (s : StateData) (h i : List Entry) (c : Cloud) (it : What) → IsNote it
      → IsKept first origin s h c None
      → i ≡ h ++ entry_of Main it ∷ [] → IsKept first origin s i c None
  kept_noted s h i c it noted kept is_i =
      grows_silently s s h i (entry_of Main it ∷ []) [] c c None kept (note it noted refl refl) tt tt
      (silent_uncalling (entry_of Main it ∷ []) (silent_note it noted, tt))
      (calls_of-silent (entry_of Main it ∷ []) (silent_note it noted, tt)) refl is_i (unasked c)

  -- the input is closed, or was before
  pub kept_closed : (s : StateData) (h i : List Entry) (c : Cloud) → IsKept first origin s h c None → Closes h i
      → IsKept first origin s i c None
  kept_closed s h i c kept (closing.before was is_i) =
      stays s s h i c c None kept refl is_i (unasked c)
  kept_closed s h i c kept (closing.now open_ is_i) =
      grows_silently s s h i (entry_of Main what.Closed ∷ []) [] c c None kept (close refl refl) tt open_ (tt, tt) refl
      refl is_i (unasked c)

  -- an opened book
  pub kept_at_first : (image : StateData) (n : _) (s : StateData) (h : List Entry) (c : Cloud)
      → IsOpenedFrom image first origin n → s ≡ first → h ≡ [] → origin ≡ c
      → IsKept first origin s h c None
  kept_at_first image n s h c opened is_s is_h same = record {
    image = image;
    count = n;
    opened = opened;
    run = begins s h is_s is_h;
    agrees = subst (λ (k : List Entry). Allows (state_of origin) k c) (sym is_h)
        (λ t. here (state_of c t) (state_of origin t) [] (ap (λ (x : Cloud). state_of x t) same));
    trace = whole (ap (λ (x : Cloud). x.trace) (sym same) ∙ sym (append-nil origin.trace)
        ∙ ap (λ (k : List Entry). origin.trace ++ calls_of k) (sym is_h));
  }
