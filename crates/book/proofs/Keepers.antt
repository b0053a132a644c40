-- What a keeper shows between the calls of a step.
use Rattle.std.proofs.Common.{arith, inl, inr, refl, subst, sym, ◌∙◌, ◌≡◌}
use Rattle.std.proofs.lemmas.Bool.Decides.{Decides-eqb}
use Rattle.std.specs.Prelude.{Bool, Err, IsTrue, List, Option, Some, [], length, nat_eq, true, ℕ, ◌∷◌, ◌≤◌}
use Rattle.heat_value.specs.Counts.{Rose}
use Rattle.core_state.specs.Changes.{applied}
use Rattle.core_state.specs.State.{StateData}
use Rattle.core_state.specs.declared.change.Change.{Change}
use Rattle.core_state.specs.declared.made.Made.{Made}
use Rattle.record_keeper.proofs.Moments.{LeavesOnly-same}
use Rattle.core_state.specs.Applies.{AllApply}
use Rattle.record_keeper.specs.Calls.{GoesOn, HasAppended, IsLeftOf}
use Rattle.record_keeper.specs.Calls as left
use Rattle.record_keeper.specs.Laws.{IsLawful}
use Rattle.record_keeper.specs.Shown.{Left, LeavesOnly, SameKeeper, ShownKeeper, StandsFor, at_rest}
use Rattle.book.specs.Compactions.{Shortens}
use Rattle.book.specs.declared.compacting.Uncompacted.TheVariants as why
use Rattle.book.specs.Keeping.{HasRoom, IsReady, IsStorable, Keeps, KeptBy}

-- a keeper that nobody has called
pub itself : (k : ShownKeeper) → SameKeeper k k
itself k = record {
  tells = refl;
  recalls = refl;
  going = refl;
  is_long = refl;
  is_old = refl;
  can_compact = refl;
  stands = λ s. (λ h. h, λ h. h);
  crash = λ l. (λ h. h, λ h. h);
  moment = refl;
  since = λ t l. (λ h. h, λ h. h);
}

module _ (old new : ShownKeeper) (same : SameKeeper old new) where
  pub same_tells : IsTrue old.tells → IsTrue new.tells
  same_tells h = subst IsTrue (sym same.tells) h

  pub same_stands : (s : StateData) → StandsFor old s → StandsFor new s
  same_stands s it = record {
    going = subst IsTrue (sym same.going) it.going;
    told = λ tells. (same.stands s).1 (it.told (subst IsTrue same.tells tells));
    only = λ t stands. it.only t ((same.stands t).0 stands);
  }

  pub same_ready : (s : StateData) → IsReady old s → IsReady new s
  same_ready s it = record { stands = same_stands s it.stands; young = same.is_old ∙ it.young }

  pub same_goes : (before now : ℕ) → now ≡ before → GoesOn old new before now
  same_goes before now is = record { tells = same.tells; recalls = same.recalls; later = omega (arith, is) }

  -- what came behind it, as behind what was there before
  pub leaves_after : (last : ShownKeeper) (P : Option Left → Type 0) → LeavesOnly new last P → LeavesOnly old last P
  leaves_after last P leaves = record {
    later = let le = leaves.later in let is = same.moment in omega (arith, le, is);
    each = λ l since. leaves.each l (subst (λ (m : ℕ). last.left_since m l) (sym same.moment) since);
    before = λ t l earlier since. elim (leaves.before t l (let is = same.moment in omega (arith, earlier, is)) since)
        [ inl was ↦ inl ((same.since t l).0 was) | inr it ↦ inr it ];
  }

  pub goes_after : (last : ShownKeeper) (first mid now : ℕ) → mid ≡ first → GoesOn new last mid now
      → GoesOn old last first now
  goes_after last first mid now is it = record {
    tells = it.tells ∙ same.tells;
    recalls = it.recalls ∙ same.recalls;
    later = let le = it.later in omega (arith, is, le);
  }

  pub keeps_after : (last : ShownKeeper) (first mid now : ℕ) (s t : StateData) → mid ≡ first
      → Keeps new last mid now s t → Keeps old last first now s t
  keeps_after last first mid now s t is it = record {
    leaves = λ tells. leaves_after last (IsLeftOf s t) (it.leaves (same_tells tells));
    goes_on = goes_after last first mid now is it.goes_on;
  }

  pub kept_after : (last : ShownKeeper) (first mid now : ℕ) (s t : StateData) (cs : List Change) (failed : Type 0)
      → mid ≡ first → KeptBy new last mid now s t cs failed → KeptBy old last first now s t cs failed
  kept_after last first mid now s t cs failed is it = record {
    keeps = keeps_after last first mid now s (applied cs s) is it.keeps;
    ready = it.ready;
    rose = λ f. subst (λ (n : ℕ). Rose n now) is (it.rose f);
  }

  -- where nothing was written, a crash leaves the state
  pub same_keeps : (may_open : StateData → Type 0) → IsLawful may_open old → (first now : ℕ) (s : StateData)
      → now ≡ first → StandsFor old s → Keeps old new first now s s
  same_keeps may_open lawful first now s is it = record {
    leaves = λ tells.
        let told = lawful.told tells in
        LeavesOnly-same may_open old new (IsLeftOf s s) told same
        (λ l may. left.before (told.durable s l (it.told tells) may));
    goes_on = same_goes first now is;
  }

  pub untouched : (may_open : StateData → Type 0) → IsLawful may_open old → (first now : ℕ) (s t : StateData)
      (failed : Type 0) → now ≡ first → IsReady old s → t ≡ s → ¬ failed → KeptBy old new first now s t [] failed
  untouched may_open lawful first now s t failed is ready stays never = record {
    keeps = same_keeps may_open lawful first now s is ready.stands;
    ready = λ none. subst (IsReady new) (sym stays) (same_ready s ready);
    rose = λ f. absurd (never f);
  }

-- two calls that changed nothing
pub same_then : (a b c : ShownKeeper) → SameKeeper a b → SameKeeper b c → SameKeeper a c
same_then a b c one two = record {
  tells = two.tells ∙ one.tells;
  recalls = two.recalls ∙ one.recalls;
  going = two.going ∙ one.going;
  is_long = two.is_long ∙ one.is_long;
  is_old = two.is_old ∙ one.is_old;
  can_compact = two.can_compact ∙ one.can_compact;
  stands = λ s. (λ h. (one.stands s).0 ((two.stands s).0 h), λ h. (two.stands s).1 ((one.stands s).1 h));
  crash = λ l. (λ h. (one.crash l).0 ((two.crash l).0 h), λ h. (two.crash l).1 ((one.crash l).1 h));
  moment = two.moment ∙ one.moment;
  since = λ t l. (λ h. (one.since t l).0 ((two.since t l).0 h), λ h. (two.since t l).1 ((one.since t l).1 h));
}

-- room stays
pub room_stays : (has_room has_more : List Change → Type 0) (room more pages wider : ℕ) (made : Made)
    → ((cs : List Change) → has_room cs → has_more cs) → room ≤ more → pages ≤ wider
    → HasRoom has_room room pages made → HasRoom has_more more wider made
room_stays has_room has_more room more pages wider made records changes entries it = record {
  changes = let le = it.changes in omega (arith, le, changes);
  entries = let le = it.entries in omega (arith, le, entries);
  record_ = records made.changes it.record_;
}

-- nothing was to be kept
pub kept_nothing : (k : ShownKeeper) (may_open : StateData → Type 0) (n : ℕ) (s : StateData) (cs : List Change)
    → cs ≡ [] → IsLawful may_open k → IsReady k s → Keeps k k n n s (applied cs s)
kept_nothing k may_open n s cs is lawful ready = subst (λ (xs : List Change). Keeps k k n n s (applied xs s)) (sym is)
    (same_keeps k k (itself k) may_open lawful n n s refl ready.stands)

pub ready_nothing : (k : ShownKeeper) (s : StateData) (cs : List Change) → cs ≡ [] → IsReady k s
    → IsReady k (applied cs s)
ready_nothing k s cs is ready = subst (λ (xs : List Change). IsReady k (applied xs s)) (sym is) ready

-- the changes were appended
module _ (old new : ShownKeeper) (s : StateData) (cs : List Change) (ready : IsReady old s) where
  pub kept_appended : (before now : ℕ)
      → (IsTrue old.tells → (t : StateData) → old.stands t → LeavesOnly old new (IsLeftOf t (applied cs t)))
      → GoesOn old new before now → Keeps old new before now s (applied cs s)
  kept_appended before now crash goes = record {
    leaves = λ tells. crash tells s (ready.stands.told tells);
    goes_on = goes;
  }

  pub ready_appended : HasAppended cs old new → IsReady new (applied cs s)
  ready_appended it = record { stands = it.stands s ready.stands; young = it.young }

pub may_append : (old : ShownKeeper) (s : StateData) (cs : List Change) → IsReady old s → IsStorable s cs
    → (t : StateData) → old.stands t → AllApply cs t
may_append old s cs ready storable t stands = subst (AllApply cs) (sym (ready.stands.only t stands)) storable.applies

-- a list of no elements
pub empty_by : {A : Type 0} (xs : List A) {b : Bool} → b ≡ nat_eq (length xs) 0 → b ≡ true → xs ≡ []
empty_by [] is yes_ = refl
empty_by (x ∷ xs) is yes_ = let same = (Decides-eqb (length (x ∷ xs)) 0).0 (sym is ∙ yes_) in absurd (omega (arith, same))

-- where nothing was written, and a crash leaves the state at rest
pub rests_same : (old new : ShownKeeper) (may_open : StateData → Type 0) → IsLawful may_open old → SameKeeper old new
    → (s : StateData) → StandsFor old s → IsTrue old.tells → LeavesOnly old new (λ l. l ≡ Some (at_rest s))
rests_same old new may_open lawful same s it tells =
    let told = lawful.told tells in
    LeavesOnly-same may_open old new (λ l. l ≡ Some (at_rest s)) told same
    (λ l left. told.durable s l (it.told tells) left)

-- no memory for a compaction
pub shortens_not : (old new : ShownKeeper) (may_open : StateData → Type 0) → IsLawful may_open old
    → SameKeeper old new → (before now : ℕ) → now ≡ before → (s : StateData) → StandsFor old s
    → Shortens s old new before now (Err why.Memory)
shortens_not old new may_open lawful same before_ now is s it = record {
  leaves = λ tells. rests_same old new may_open lawful same s it tells;
  goes_on = same_goes old new same before_ now is;
  stands = λ ne. same_stands old new same s it;
  young = λ ne young. same.is_old ∙ young;
  short = λ f. cc;
  stuck = λ f old. cc;
  rose = λ f. cc;
  same = λ f. same;
}
