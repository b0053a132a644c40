-- What a call of one step leaves with the keeper, at each of its moments.
use Rattle.std.proofs.Common.{List, [], append-nil, refl, subst, sym, ℕ, ◌++◌, ◌∙◌, ◌∷◌, ◌≡◌}
use Rattle.std.specs.Prelude.{Err, Result, Some, ◌≢◌}
use Rattle.heat_plan.specs.declared.refusal.Refusal.{Refusal}
use Rattle.heat_plan.specs.declared.refusal.Refusal.TheVariants as refusal
use Rattle.provider.proofs.States.{state-stays}
use Rattle.provider.specs.Cloud.{Cloud}
use Rattle.core_state.specs.Changes.{applied}
use Rattle.core_state.specs.State.{StateData}
use Rattle.core_state.specs.declared.change.Change.{Change}
use Rattle.core_state.specs.declared.entry.Actor.TheVariants.{Main}
use Rattle.core_state.specs.declared.entry.Entry.{Entry}
use Rattle.core_state.specs.declared.entry.What.TheVariants as what
use Rattle.core_state.specs.declared.entry.What.{What}
use Rattle.step_relation.specs.Could.{Allows}
use Rattle.step_relation.specs.Opening.{first_of}
use Rattle.step_relation.specs.Steps.{IsNote, close, note}
use Rattle.step_relation.specs.Writes.{entry_of}
use Rattle.check_steps.specs.declared.looks.Work.{Work}
use Rattle.record_keeper.specs.Laws.{IsLawful}
use Rattle.record_keeper.specs.Shown.{ShownKeeper, StandsFor}
use Rattle.book.specs.Behind.{CommitsTo, Turns, tried_at, tried_by}
use Rattle.book.specs.Closing.{Closes}
use Rattle.book.specs.Closing as closing
use Rattle.book.specs.Commits.{Commits}
use Rattle.book.specs.Commits as commits
use Rattle.book.specs.Keeping.{KeptBy}
use Rattle.book.specs.Kept.{Shown, opening_of}
use Rattle.book.specs.Makings.{DoesSo, tried_to}
use Rattle.book.specs.Quiet.{page}
use Rattle.book.specs.Recording.{Records, none}
use Rattle.book.specs.Scenes.{Scene, scene_of}
use Rattle.book.specs.declared.halting.Halt.TheVariants as halt
use Rattle.book.specs.declared.turning.Turn.TheVariants.{DiskFault}
use Rattle.book.specs.declared.turning.Turn.{Turn as Turn_answer}
use Rattle.book.proofs.Doing.{IsSilentStep, done_silent, done_state, done_step, done_told, told_to}
use Rattle.book.proofs.Growing.{silent_note}
use Rattle.book.proofs.Silent.{silent_uncalling}
use Rattle.book.proofs.Histories.{silence_allows}
use Rattle.book.proofs.Keepers.{itself, same_keeps}
use Rattle.book.proofs.KeptTurned.{step_to, told_by, turned_allows, turned_state, turned_step, turned_told}

module _ {K P : Type 0} (shown : K → ShownKeeper) (cloud_of : P → Cloud) (old new : Shown K P)
    (allows : Allows (first_of (opening_of cloud_of old)) old.entries (cloud_of old.cloud)) where
  abbrev a : Scene
  a = scene_of cloud_of old

  abbrev b : Scene
  b = scene_of cloud_of new

  pub recorded_turn : (e faults now : ℕ) (result : Turn_answer)
      → Turns e a b (shown old.keeper) (shown new.keeper) faults now result
      → (new.halt ≢ Some halt.DiskFault → result ≢ DiskFault) → Records shown cloud_of old new
  recorded_turn e faults now result it fine = record {
    behind = applied (tried_by it.turned) old.state;
    told = told_by it.turned;
    step = turned_step e a b result it.turned;
    agrees = turned_allows old.opening (cloud_of old.origin.cloud) a allows e b result it.turned;
    leaves = it.kept.keeps.leaves;
    state = λ h. turned_state e a b result it.turned (fine h);
    entries = λ h. turned_told e a b result it.turned (fine h);
  }

  -- nothing was tried
  recorded_none : (faults now : ℕ) (failed : Type 0)
      → KeptBy (shown old.keeper) (shown new.keeper) faults now old.state new.state [] failed
      → new.state ≡ old.state → new.entries ≡ old.entries
      → Allows (first_of (opening_of cloud_of old)) (old.entries ++ []) (cloud_of new.cloud)
      → Records shown cloud_of old new
  recorded_none faults now failed kept stays silent allowed = record {
    behind = old.state;
    told = [];
    step = none refl refl;
    agrees = allowed;
    leaves = kept.keeps.leaves;
    state = λ h. stays;
    entries = λ h. silent ∙ sym (append-nil old.entries);
  }

  pub recorded_commit : (e faults now : ℕ) (w : Work) (result : Turn_answer)
      → CommitsTo e w a b (shown old.keeper) (shown new.keeper) faults now result
      → (new.halt ≢ Some halt.DiskFault → result ≢ DiskFault) → Records shown cloud_of old new
  recorded_commit e faults now w result it fine = by it.committed it.kept where
    by : (c : Commits e w a b result)
        → KeptBy (shown old.keeper) (shown new.keeper) faults now old.state new.state (tried_at c) (result ≡ DiskFault)
        → Records shown cloud_of old new
    by (commits.fenced is other same) kept = recorded_none faults now _ kept same.state same.entries
        (silence_allows (opening_of cloud_of old) old.entries (cloud_of old.cloud) (cloud_of new.cloud) allows [] tt
        (λ token. state-stays token (cloud_of old.cloud) (cloud_of new.cloud) same.cloud.stays))
    by (commits.made still turned) kept = recorded_turn e faults now result (record { turned = turned; kept = kept })
        fine
    by (commits.unmade is same) kept = recorded_none faults now _ kept same.state same.entries
        (silence_allows (opening_of cloud_of old) old.entries (cloud_of old.cloud) (cloud_of new.cloud) allows [] tt
        (λ token. state-stays token (cloud_of old.cloud) (cloud_of new.cloud) same.cloud.stays))

  -- the cloud wasn't asked
  pub recorded_done : {A : Type 0} (Is : List Change → List Entry → Type 0) (Refuses : Refusal → Type 0) (answer : A)
      (faults now : ℕ) (result : Result A Refusal)
      → ((cs : List Change) (es : List Entry) → Is cs es → IsSilentStep old.state cs es)
      → DoesSo Is Refuses answer (page old.state old.entries) (page new.state new.entries) (shown old.keeper)
      (shown new.keeper) faults now result
      → (new.halt ≢ Some halt.DiskFault → result ≢ Err refusal.DiskFault) → new.cloud ≡ old.cloud
      → Records shown cloud_of old new
  recorded_done Is Refuses answer faults now result steps it fine same = record {
    behind = applied (tried_to it.does) old.state;
    told = told_to it.does;
    step = done_step Is Refuses answer old.state new.state old.entries new.entries result steps it.does;
    agrees = subst (λ (c : P). Allows (first_of (opening_of cloud_of old)) (old.entries ++ told_to it.does) (cloud_of c))
        (sym same)
        (silence_allows (opening_of cloud_of old) old.entries (cloud_of old.cloud) (cloud_of old.cloud) allows
        (told_to it.does)
        (done_silent Is Refuses answer old.state new.state old.entries new.entries result steps it.does) (λ token. refl));
    leaves = it.kept.keeps.leaves;
    state = λ h. done_state Is Refuses answer old.state new.state old.entries new.entries result steps it.does (fine h);
    entries = λ h. done_told Is Refuses answer old.state new.state old.entries new.entries result steps it.does
        (fine h);
  }

  -- the keeper wasn't called
  module _ (may_open : StateData → Type 0) (lawful : IsLawful may_open (shown old.keeper))
      (stands : StandsFor (shown old.keeper) old.state) where
    pub recorded_note : (it : What) → IsNote it → new ≡ record old { entries = old.entries ++ entry_of Main it ∷ [] }
        → Records shown cloud_of old new
    recorded_note it noted is = subst (λ (x : Shown K P). Records shown cloud_of old x) (sym is) (record {
      behind = old.state;
      told = entry_of Main it ∷ [];
      step = step_to old.entries old.state [] (entry_of Main it ∷ []) (note it noted refl refl) tt tt;
      agrees = silence_allows (opening_of cloud_of old) old.entries (cloud_of old.cloud) (cloud_of old.cloud) allows
          (entry_of Main it ∷ []) (silent_uncalling (entry_of Main it ∷ []) (silent_note it noted, tt)) (λ token. refl);
      leaves = (same_keeps (shown old.keeper) (shown old.keeper) (itself (shown old.keeper)) may_open lawful 0 0 old.state
          refl stands).leaves;
      state = λ h. refl;
      entries = λ h. refl;
    })

    pub recorded_still : new ≡ old → Records shown cloud_of old new
    recorded_still is = subst (λ (x : Shown K P). Records shown cloud_of old x) (sym is) (record {
      behind = old.state;
      told = [];
      step = none refl refl;
      agrees = silence_allows (opening_of cloud_of old) old.entries (cloud_of old.cloud) (cloud_of old.cloud) allows
          [] tt (λ token. refl);
      leaves = (same_keeps (shown old.keeper) (shown old.keeper) (itself (shown old.keeper)) may_open lawful 0 0 old.state
          refl stands).leaves;
      state = λ h. refl;
      entries = λ h. sym (append-nil old.entries);
    })

    -- the input is closed, or was before
    pub recorded_close : (i : List Entry) → Closes old.entries i → new ≡ record old { entries = i }
        → Records shown cloud_of old new
    recorded_close i (closing.before was same) is = subst (λ (x : Shown K P). Records shown cloud_of old x) (sym is)
        (record {
          behind = old.state;
          told = [];
          step = none refl refl;
          agrees = silence_allows (opening_of cloud_of old) old.entries (cloud_of old.cloud) (cloud_of old.cloud) allows
              [] tt (λ token. refl);
          leaves = (same_keeps (shown old.keeper) (shown old.keeper) (itself (shown old.keeper)) may_open lawful 0 0
              old.state refl stands).leaves;
          state = λ h. refl;
          entries = λ h. same ∙ sym (append-nil old.entries);
        })
    recorded_close i (closing.now open_ grown) is = subst (λ (x : Shown K P). Records shown cloud_of old x) (sym is)
        (record {
          behind = old.state;
          told = entry_of Main what.Closed ∷ [];
          step = step_to old.entries old.state [] (entry_of Main what.Closed ∷ []) (close refl refl) tt open_;
          agrees = silence_allows (opening_of cloud_of old) old.entries (cloud_of old.cloud) (cloud_of old.cloud) allows
              (entry_of Main what.Closed ∷ []) (tt, tt) (λ token. refl);
          leaves = (same_keeps (shown old.keeper) (shown old.keeper) (itself (shown old.keeper)) may_open lawful 0 0
              old.state refl stands).leaves;
          state = λ h. refl;
          entries = λ h. grown;
        })
