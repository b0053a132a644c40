-- A step that was thought out, as its parts make it.
use Rattle.std.proofs.Common.{List, [], refl, subst, sym, ℕ, ◌++◌, ◌∙◌, ◌≡◌}
use Rattle.std.specs.Prelude.{Bool, Err, IfOk, Ok, OnErr, OnOk, Result, false, is_err, take, true, ◌≢◌}
use Rattle.heat_value.specs.Counts.{Rose}
use Rattle.heat_plan.specs.declared.refusal.Refusal.{Refusal}
use Rattle.heat_plan.specs.declared.refusal.Refusal.TheVariants as refusal
use Rattle.core_state.specs.Changes.{applied}
use Rattle.core_state.specs.State.{StateData}
use Rattle.core_state.specs.declared.change.Change.{Change}
use Rattle.core_state.specs.declared.entry.Entry.{Entry}
use Rattle.core_state.specs.declared.made.Made.{Made}
use Rattle.record_keeper.specs.Laws.{IsLawful}
use Rattle.record_keeper.specs.Shown.{SameKeeper, ShownKeeper}
use Rattle.book.specs.Keeping.{IsReady, IsStorable, Keeps}
use Rattle.book.specs.Makings.{Answers, MakesAs}
use Rattle.book.specs.Makings as made_as
use Rattle.book.specs.Quiet.{page}
use Rattle.book.specs.declared.turning.Turn.TheVariants as turn
use Rattle.book.proofs.Keepers.{itself, keeps_after, untouched}

pages : (s t : StateData) (h i : List Entry) → t ≡ s → i ≡ h → page t i ≡ page s h
pages s t h i is_t is_i = rw (is_t, is_i) refl

one_refusal : (a b : Refusal) → ◌≡◌ {A = Result (Unit {0}) Refusal} (Err a) (Err b) → a ≡ b
one_refusal a b is = cc

err_same : (a b : Refusal) → a ≡ b → ◌≡◌ {A = Result Made Refusal} (Err a) (Err b)
err_same a b is = rw is refl

-- a refusal of the step isn't one for a fault of the keeper
pub never_fault : (made : Result Made Refusal) (first : Result (Unit {0}) Refusal) (r : Refusal)
    → made ≢ Err refusal.DiskFault → made ≡ Err r → first ≡ Err r → first ≢ Err refusal.DiskFault
never_fault made first r honest is ends f =
    honest (is ∙ err_same r refusal.DiskFault (one_refusal r refusal.DiskFault (sym ends ∙ f)))

module _ (made : Result Made Refusal) (s : StateData) (h : List Entry) (k : ShownKeeper) (n0 : ℕ)
    (may_open : StateData → Type 0) (lawful : IsLawful may_open k) (ready : IsReady k s) where
  pub as_refused : (r : Refusal) → made ≡ Err r → made ≢ Err refusal.DiskFault
      → MakesAs made (page s h) (page s h) k k n0 n0 (Err r)
  as_refused r is honest = record {
    does = made_as.refused r is refl refl;
    kept = untouched k k (itself k) may_open lawful n0 n0 s s (◌≡◌ {A = Result (Unit {0}) Refusal} (Err r)
        (Err refusal.DiskFault)) refl ready refl
        (λ f. honest (is ∙ err_same r refusal.DiskFault (one_refusal r refusal.DiskFault f)));
  }

  pub as_lacking : (t : StateData) (i : List Entry) (l : ShownKeeper) (n1 : ℕ) → t ≡ s → i ≡ h → SameKeeper k l
      → n1 ≡ n0 → MakesAs made (page s h) (page t i) k l n0 n1 (Err refusal.Memory)
  as_lacking t i l n1 is_t is_i same count = record {
    does = made_as.memory (pages s t h i is_t is_i) refl;
    kept = untouched k l same may_open lawful n0 n1 s t _ count ready is_t (λ f. cc);
  }

module _ (made : Result Made Refusal) (s t : StateData) (h i : List Entry) (k l m : ShownKeeper) (n0 n1 n2 : ℕ)
    (x : Made) (is : made ≡ Ok x) (same : SameKeeper k l) (count : n1 ≡ n0)
    (keeps : Keeps l m n1 n2 s (applied x.changes s)) where
  pub as_unkept : x.changes ≢ [] → t ≡ s → i ≡ h → Rose n1 n2
      → MakesAs made (page s h) (page t i) k m n0 n2 (Err refusal.DiskFault)
  as_unkept some is_t is_i rose = record {
    does = made_as.unkept x is some (pages s t h i is_t is_i) refl;
    kept = record {
      keeps = keeps_after k l same m n0 n1 n2 s (applied x.changes s) count keeps;
      ready = λ f. absurd (f refl);
      rose = λ f. subst (λ (n : ℕ). Rose n n2) count rose;
    };
  }

  pub as_done : t ≡ applied x.changes s → i ≡ h ++ x.entries → IsReady m (applied x.changes s)
      → MakesAs made (page s h) (page t i) k m n0 n2 (Ok tt)
  as_done is_t is_i fresh = record {
    does = made_as.done x is (record { state = is_t; entries = is_i }) refl;
    kept = record {
      keeps = keeps_after k l same m n0 n1 n2 s (applied x.changes s) count keeps;
      ready = λ f. subst (IsReady m) (sym is_t) fresh;
      rose = λ f. cc;
    };
  }

-- the step of an answer
module _ (made : Made) (s t : StateData) (h i : List Entry) (k l : ShownKeeper) (n0 n1 : ℕ)
    (keeps : Keeps k l n0 n1 s (applied made.changes s)) where
  pub as_answered : t ≡ applied made.changes s → i ≡ h ++ made.entries → IsReady l (applied made.changes s)
      → Answers made (page s h) (page t i) k l n0 n1 turn.Stepped
  as_answered is_t is_i fresh = record {
    does = made_as.stepped (record { state = is_t; entries = is_i }) refl;
    kept = record { keeps = keeps; ready = λ f. subst (IsReady l) (sym is_t) fresh; rose = λ f. cc };
  }

  pub as_alone : made.changes ≢ [] → t ≡ s → i ≡ h ++ take 1 made.entries → Rose n0 n1
      → Answers made (page s h) (page t i) k l n0 n1 turn.DiskFault
  as_alone some is_t is_i rose = record {
    does = made_as.alone some (record { state = is_t; entries = is_i }) refl;
    kept = record { keeps = keeps; ready = λ f. absurd (f refl); rose = λ f. rose };
  }

-- what is asked of a step that was thought out
pub storable_of : (s : StateData) (made : Result Made Refusal) (m : Made) → made ≡ Ok m
    → IfOk made (λ x. IsStorable s x.changes) → IsStorable s m.changes
storable_of s made m is ok = subst (λ (r : Result Made Refusal). IfOk r (λ x. IsStorable s x.changes)) is ok

-- by the test of an answer
pub on_err : {T E : Type 0} (r : Result T E) (b : Bool) (P : Type 0) → b ≡ is_err r → b ≡ true → OnErr r P → P
on_err (Ok x) b P is yes_ h = let both = sym is ∙ yes_ in cc
on_err (Err e) b P is yes_ h = h

pub on_ok : {T E : Type 0} (r : Result T E) (b : Bool) (P : Type 0) → b ≡ is_err r → b ≡ false → OnOk r P → P
on_ok (Ok x) b P is no_ h = h
on_ok (Err e) b P is no_ h = let both = sym is ∙ no_ in cc

-- of the changes as they were passed on
pub kept_slice : (k l : ShownKeeper) (n0 n1 : ℕ) (s : StateData) (cs ds : List Change) → cs ≡ ds
    → Keeps k l n0 n1 s (applied cs s) → Keeps k l n0 n1 s (applied ds s)
kept_slice k l n0 n1 s cs ds is keeps = subst (λ (xs : List Change). Keeps k l n0 n1 s (applied xs s)) is keeps

pub ready_slice : (k : ShownKeeper) (s : StateData) (cs ds : List Change) → cs ≡ ds → IsReady k (applied cs s)
    → IsReady k (applied ds s)
ready_slice k s cs ds is ready = subst (λ (xs : List Change). IsReady k (applied xs s)) is ready
