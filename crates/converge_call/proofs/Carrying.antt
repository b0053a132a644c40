-- What parts of a line keep of a book and leave with its keeper, alone and one behind another.
use Rattle.std.proofs.Common.{◌≡◌, List, [], ◌++◌, append_assoc, refl, sym, ap, ◌∙◌, subst}
use Rattle.std.specs.Prelude.{IsTrue, None, Option, Some, ℕ}
use Rattle.provider.specs.Cloud.{Cloud}
use Rattle.core_state.specs.declared.entry.Entry.{Entry}
use Rattle.record_keeper.specs.Calls.{GoesOn}
use Rattle.record_keeper.specs.Shown.{Left, LeavesOnly, ShownKeeper, at_rest}
use Rattle.record_keeper.proofs.Moments.{LeavesOnly-weaker}
use Rattle.book.specs.Compactions.{LeavesState}
use Rattle.book.specs.Recording.{Records}
use Rattle.driver.specs.Kept.{HasRun, IsSameBook, Shown, opening_of}
use Rattle.driver.specs.Leaving.{IsLeftAlong, LeavesAlong}
use Rattle.driver.proofs.Leavings.{along_later, along_rest, leaves_step, leaves_then, seen_earlier}
use Rattle.converge_call.specs.Carrying.{Carries, LeavesOrNot, called, uncalled}
use Rattle.converge_call.proofs.Noting.{append-none}

-- a book's keeper recalls or doesn't, as it did
pub recalls_same : {K P : Type 0} (shown : K → ShownKeeper) (old new : Shown K P) → IsSameBook old new
    → (shown new.origin.keeper).recalls ≡ (shown old.origin.keeper).recalls
recalls_same shown old new same = rw same.origin refl

module _ {K P : Type 0} (shown : K → ShownKeeper) (cloud_of : P → Cloud) where
  -- what a crash may leave of what was done
  abbrev pub Along : Shown K P → Shown K P → Option Left → Type 0
  Along old new = IsLeftAlong (opening_of cloud_of old) old.entries new.entries

  -- nothing was done
  pub carries_none : (b : Shown K P) → Carries shown cloud_of b b
  carries_none b = record {
    same = record { opening = refl; origin = refl };
    added = [];
    entries = sym (append-none b.entries);
    leaves = λ goes tells. uncalled refl;
  }

  -- the keeper wasn't called
  pub carries_uncalled : (old new : Shown K P) (added : List Entry) → IsSameBook old new
      → new.entries ≡ old.entries ++ added → new.keeper ≡ old.keeper → Carries shown cloud_of old new
  carries_uncalled old new added same grows kept = record {
    same = same;
    added = added;
    entries = grows;
    leaves = λ goes tells. uncalled kept;
  }

  -- one step, or none
  pub carries_step : (old new : Shown K P) (added : List Entry) (before now : ℕ) → HasRun cloud_of old
      → GoesOn (shown old.origin.keeper) (shown old.keeper) before now → IsSameBook old new
      → new.entries ≡ old.entries ++ added → (old.halt ≡ None → Records shown cloud_of old new)
      → Carries shown cloud_of old new
  carries_step old new added before now run goes_on same grows records = record {
    same = same;
    added = added;
    entries = grows;
    leaves = λ goes tells. called (leaves_step shown cloud_of old new added run grows (records goes)
        (subst IsTrue (sym goes_on.tells) tells));
  }

  -- turns one behind another
  pub carries_turns : (old new : Shown K P) (added : List Entry) → IsSameBook old new
      → new.entries ≡ old.entries ++ added → (old.halt ≡ None → LeavesAlong shown cloud_of old new)
      → Carries shown cloud_of old new
  carries_turns old new added same grows leaves = record {
    same = same;
    added = added;
    entries = grows;
    leaves = λ goes tells. called (leaves goes tells);
  }

  -- a compaction
  pub carries_compacted : (old new : Shown K P) (before now : ℕ) → HasRun cloud_of old
      → GoesOn (shown old.origin.keeper) (shown old.keeper) before now → IsSameBook old new
      → new.entries ≡ old.entries → (old.halt ≡ None → LeavesState shown old new) → Carries shown cloud_of old new
  carries_compacted old new before now run goes_on same grows leaves = record {
    same = same;
    added = [];
    entries = grows ∙ sym (append-none old.entries);
    leaves = λ goes tells. called (LeavesOnly-weaker (shown old.keeper) (shown new.keeper)
        (λ (l : Option Left). l ≡ Some (at_rest old.state)) (Along old new)
        (λ l is. along_rest (opening_of cloud_of old) old.entries old.state [] new.entries run.run
        (grows ∙ sym (append-none old.entries)) l is)
        (leaves goes (subst IsTrue (sym goes_on.tells) tells)));
  }

  -- one behind another
  pub carries_then : (old mid new : Shown K P) → (old.halt ≡ None → mid.halt ≡ None) → Carries shown cloud_of old mid
      → Carries shown cloud_of mid new → Carries shown cloud_of old new
  carries_then old mid new goes_on a b = record {
    same = record { opening = b.same.opening ∙ a.same.opening; origin = b.same.origin ∙ a.same.origin };
    added = a.added ++ b.added;
    entries = b.entries ∙ ap (λ (xs : List Entry). xs ++ b.added) a.entries
        ∙ append_assoc old.entries a.added b.added;
    leaves = λ goes tells. by (a.leaves goes tells)
        (b.leaves (goes_on goes) (subst (λ (o : _). IsTrue (shown o.keeper).tells) (sym a.same.origin) tells));
  } where
    by : LeavesOrNot shown cloud_of old mid → LeavesOrNot shown cloud_of mid new → LeavesOrNot shown cloud_of old new
    by (uncalled first) (uncalled second) = uncalled (second ∙ first)
    by (called first) (uncalled second) =
        called (subst (λ (k : K). LeavesOnly (shown old.keeper) (shown k) (Along old new)) (sym second)
        (LeavesOnly-weaker (shown old.keeper) (shown mid.keeper) (Along old mid) (Along old new)
        (λ l k. along_later (opening_of cloud_of old) old.entries mid.entries b.added new.entries l b.entries k) first))
    by (uncalled first) (called second) =
        called (subst (λ (k : K). LeavesOnly (shown k) (shown new.keeper) (Along old new)) first
        (LeavesOnly-weaker (shown mid.keeper) (shown new.keeper) (Along mid new) (Along old new)
        (λ l k. seen_earlier shown cloud_of old mid new a.added a.same a.entries l k) second))
    by (called first) (called second) =
        called (leaves_then shown cloud_of old mid new a.added b.added a.same a.entries b.entries first second)

  -- a note, or nothing
  pub carries_noted : (old new : Shown K P) (added : List Entry)
      → new ≡ record old { entries = old.entries ++ added } → Carries shown cloud_of old new
  carries_noted old new added is = carries_uncalled old new added
      (record { opening = ap (λ (b : Shown K P). b.opening) is; origin = ap (λ (b : Shown K P). b.origin) is })
      (ap (λ (b : Shown K P). b.entries) is) (ap (λ (b : Shown K P). b.keeper) is)

  pub carries_still : (old new : Shown K P) → new ≡ old → Carries shown cloud_of old new
  carries_still old new is = subst (λ (b : Shown K P). Carries shown cloud_of old b) (sym is) (carries_none old)

  -- a note behind what may have halted the book
  pub carries_grown : (old mid new : Shown K P) → Carries shown cloud_of old mid → Carries shown cloud_of mid new
      → new ≡ record mid { entries = new.entries } → Carries shown cloud_of old new
  carries_grown old mid new a b only = record {
    same = record { opening = b.same.opening ∙ a.same.opening; origin = b.same.origin ∙ a.same.origin };
    added = a.added ++ b.added;
    entries = b.entries ∙ ap (λ (xs : List Entry). xs ++ b.added) a.entries
        ∙ append_assoc old.entries a.added b.added;
    leaves = λ goes tells. by (a.leaves goes tells);
  } where
    kept : new.keeper ≡ mid.keeper
    kept = ap (λ (x : Shown K P). x.keeper) only

    by : LeavesOrNot shown cloud_of old mid → LeavesOrNot shown cloud_of old new
    by (uncalled first) = uncalled (kept ∙ first)
    by (called first) =
        called (subst (λ (k : K). LeavesOnly (shown old.keeper) (shown k) (Along old new)) (sym kept)
        (LeavesOnly-weaker (shown old.keeper) (shown mid.keeper) (Along old mid) (Along old new)
        (λ l k. along_later (opening_of cloud_of old) old.entries mid.entries b.added new.entries l b.entries k) first))
