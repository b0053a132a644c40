-- An image that begins, and a keeper that keeps it.
use Rattle.std.proofs.Common.{false, inl, inr, refl, subst, sym, true, ◌∙◌, ◌≡◌, ◌⊎◌, ℕ}
use Rattle.std.specs.Prelude.{Err, IfErr, IsTrue, Ok, Result, Some, ◌+◌, ◌<◌, ◌^◌, ◌≤◌}
use Rattle.heat_value.specs.Counts.{Rose}
use Rattle.heat_plan.specs.declared.refusal.Refusal.{Refusal}
use Rattle.heat_plan.specs.declared.refusal.Refusal.TheVariants as refusal
use Rattle.core_state.specs.State.{StateData}
use Rattle.core_state.specs.declared.made.Made.{Made}
use Rattle.record_keeper.proofs.Moments.{LeavesOnly-then, LeavesOnly-weaker}
use Rattle.record_keeper.specs.Calls.{GoesOn, IsLeftOf}
use Rattle.record_keeper.specs.Laws.{IsLawful}
use Rattle.record_keeper.specs.Shown.{LeavesOnly, SameKeeper, ShownKeeper, StandsFor, at_rest}
use Rattle.takeover_steps.specs.Engines.{RefusesRestart}
use Rattle.takeover_steps.specs.Engines as engines
use Rattle.book.specs.Compactions.{Shortens}
use Rattle.book.specs.Keeping.{IsReady, Keeps}
use Rattle.book.specs.Openings.{IsLeftOfStart}
use Rattle.book.specs.Openings as openings
use Rattle.book.specs.Starting.{IsStart, Renews, Starts, WhyUnstarted, restarted_at}
use Rattle.book.specs.Starting as starting
use Rattle.book.specs.declared.compacting.Uncompacted.TheVariants as uncompacted
use Rattle.book.specs.declared.compacting.Uncompacted.{Uncompacted}
use Rattle.book.specs.declared.opening.Start.{Start}
use Rattle.book.specs.declared.restarting.Unrestarted.TheVariants as unrestarted
use Rattle.book.specs.declared.restarting.Unrestarted.{Unrestarted}
use Rattle.book.proofs.Held.{goes_then, rose_since}
use Rattle.book.proofs.Keepers.{itself, rests_same, same_goes}

-- where the image is at rest, and a record was tried behind it
rest_starts : (k l : ShownKeeper) (image : StateData) (count : ℕ)
    → (IsTrue k.tells → LeavesOnly k l (λ x. x ≡ Some (at_rest image)))
    → IsTrue k.tells → LeavesOnly k l (IsLeftOfStart image count)
rest_starts k l image count rest tells = LeavesOnly-weaker k l (λ x. x ≡ Some (at_rest image))
    (IsLeftOfStart image count) (λ x it. openings.rests it) (rest tells)

begun_starts : (k l m : ShownKeeper) (first now last : ℕ) (image : StateData) (count : ℕ)
    → (IsTrue k.tells → LeavesOnly k l (λ x. x ≡ Some (at_rest image))) → GoesOn k l first now
    → image.next.engine + count ≤ 2 ^ 62 → Keeps l m now last image (restarted_at image count)
    → IsTrue k.tells → LeavesOnly k m (IsLeftOfStart image count)
begun_starts k l m first now last image count rest goes below keeps tells =
    LeavesOnly-then k l m (IsLeftOfStart image count) (rest_starts k l image count rest tells)
    (LeavesOnly-weaker l m (IsLeftOf image (restarted_at image count)) (IsLeftOfStart image count)
    (λ x it. openings.begins below it) (keeps.leaves (subst IsTrue (sym goes.tells) tells)))

pub renews_still : (k : ShownKeeper) (may_open : StateData → Type 0) → IsLawful may_open k → (s : StateData)
    (n now : ℕ) → StandsFor k s → k.is_old ≡ false → Renews s n k k now now (Ok tt)
renews_still k may_open lawful s n now it young = record {
  leaves = λ tells. rests_same k k may_open lawful (itself k) s it tells;
  goes_on = same_goes k k (itself k) now now refl;
  ready = λ f. record { stands = it; young = young };
  why = tt;
}

-- behind a compaction
module _ (k l : ShownKeeper) (s : StateData) (n first now : ℕ) (r : Result (Unit {0}) Uncompacted)
    (it : Shortens s k l first now r) where
  pub renews_fault : r ≡ Err uncompacted.DiskFault → Renews s n k l first now (Err unrestarted.DiskFault)
  renews_fault is = record {
    leaves = it.leaves;
    goes_on = it.goes_on;
    ready = λ f. cc;
    why = starting.fault (it.rose is) refl;
  }

  pub renews_lacking : r ≡ Err uncompacted.Memory → Renews s n k l first now (Err unrestarted.Memory)
  renews_lacking is = record {
    leaves = it.leaves;
    goes_on = it.goes_on;
    ready = λ f. cc;
    why = starting.memory refl;
  }

  pub renews_old : r ≡ Ok tt → l.is_old ≡ true → Renews s n k l first now (Err unrestarted.Worn)
  renews_old is old = record {
    leaves = it.leaves;
    goes_on = it.goes_on;
    ready = λ f. cc;
    why = starting.worn (inr (old, it.stuck is old)) refl;
  }

  pub renews_young : r ≡ Ok tt → l.is_old ≡ false → Renews s n k l first now (Ok tt)
  renews_young is young = record {
    leaves = it.leaves;
    goes_on = it.goes_on;
    ready = λ f. record { stands = it.stands (λ e. let both = sym is ∙ e in cc); young = young };
    why = tt;
  }

-- no numbers are left
pub restart_worn : (s : StateData) (count : ℕ) (made : Result Made Refusal)
    → IfErr made (λ r. (r ≡ refusal.Memory) ⊎ RefusesRestart s count r) → made ≡ Err refusal.Worn
    → 2 ^ 62 < s.next.engine + count
restart_worn s count made err is =
    by (subst (λ (x : Result Made Refusal). IfErr x (λ r. (r ≡ refusal.Memory) ⊎ RefusesRestart s count r)) is err) where
      by : (refusal.Worn ≡ refusal.Memory) ⊎ RefusesRestart s count refusal.Worn → 2 ^ 62 < s.next.engine + count
      by (inl no_) = cc
      by (inr (engines.worn over)) = over

module _ (image : StateData) (count : ℕ) where
  abbrev pub Cause : Unrestarted → Type 0
  Cause w = (w ≡ unrestarted.Memory) ⊎ ((w ≡ unrestarted.Worn) × (2 ^ 62 < image.next.engine + count))

  why_of : (k : ShownKeeper) (first now : ℕ) (w : Unrestarted) → Cause w
      → WhyUnstarted image count k first now w
  why_of k first now w (inl lacks) = starting.memory lacks
  why_of k first now w (inr over) = starting.worn (inl over.1) over.0

  -- nothing was done
  pub starts_unmade : (k : ShownKeeper) (may_open : StateData → Type 0) → IsLawful may_open k → (now : ℕ)
      → StandsFor k image → (w : Unrestarted) → Cause w → Starts image count k k now now (Err w)
  starts_unmade k may_open lawful now it w cause = record {
    leaves = rest_starts k k image count (λ tells. rests_same k k may_open lawful (itself k) image it tells);
    goes_on = same_goes k k (itself k) now now refl;
    rests = λ ne tells. rests_same k k may_open lawful (itself k) image it tells;
    start = tt;
    below = tt;
    ready = tt;
    why = why_of k now now w cause;
  }

  module _ (k l : ShownKeeper) (first now : ℕ) (done : Result (Unit {0}) Unrestarted)
      (renews : Renews image count k l first now done) where
    pub starts_unrenewed : (w : Unrestarted) → done ≡ Err w → Starts image count k l first now (Err w)
    starts_unrenewed w is = record {
      leaves = rest_starts k l image count renews.leaves;
      goes_on = renews.goes_on;
      rests = λ ne. renews.leaves;
      start = tt;
      below = tt;
      ready = tt;
      why = subst (λ (r : Result (Unit {0}) Unrestarted). IfErr r (WhyUnstarted image count l first now)) is
          renews.why;
    }

    -- no memory, or no numbers, behind the compaction
    pub starts_lacking : (m : ShownKeeper) (last : ℕ) (may_open : StateData → Type 0) → IsLawful may_open l
        → done ≡ Ok tt → SameKeeper l m → last ≡ now → (w : Unrestarted) → Cause w
        → Starts image count k m first last (Err w)
    starts_lacking m last may_open lawful is same count_ w cause = record {
      leaves = rest_starts k m image count rests;
      goes_on = goes_then k l m first now last renews.goes_on (same_goes l m same now last count_);
      rests = λ ne. rests;
      start = tt;
      below = tt;
      ready = tt;
      why = why_of m first last w cause;
    } where
      rests : IsTrue k.tells → LeavesOnly k m (λ x. x ≡ Some (at_rest image))
      rests tells = LeavesOnly-then k l m (λ x. x ≡ Some (at_rest image)) (renews.leaves tells)
          (rests_same l m may_open lawful same image (renews.ready is).stands
          (subst IsTrue (sym renews.goes_on.tells) tells))

    pub starts_unkept : (m : ShownKeeper) (last : ℕ) → image.next.engine + count ≤ 2 ^ 62
        → Keeps l m now last image (restarted_at image count) → Rose now last
        → Starts image count k m first last (Err unrestarted.DiskFault)
    starts_unkept m last below keeps rose = record {
      leaves = begun_starts k l m first now last image count renews.leaves renews.goes_on below keeps;
      goes_on = goes_then k l m first now last renews.goes_on keeps.goes_on;
      rests = λ ne. absurd (ne refl);
      start = tt;
      below = tt;
      ready = tt;
      why = starting.fault (rose_since first now last renews.goes_on.later rose) refl;
    }

    pub starts_well : (m : ShownKeeper) (last : ℕ) (st : Start) → image.next.engine + count ≤ 2 ^ 62
        → Keeps l m now last image (restarted_at image count) → IsReady m (restarted_at image count)
        → IsStart image count st → Starts image count k m first last (Ok st)
    starts_well m last st below keeps ready start = record {
      leaves = begun_starts k l m first now last image count renews.leaves renews.goes_on below keeps;
      goes_on = goes_then k l m first now last renews.goes_on keeps.goes_on;
      rests = tt;
      start = start;
      below = below;
      ready = ready;
      why = tt;
    }
