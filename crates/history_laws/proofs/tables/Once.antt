-- Each key stands once: of the pasts, behind every change.
use Rattle.std.proofs.Common.{◌≡◌, ◌≢◌, inl, inr, suc, Bool, List, [], ◌∷◌, ◌∙◌, arith}
use Rattle.std.proofs.lemmas.List.Elements.{All-cons}
use Rattle.std.proofs.lemmas.List.Kept.{AllPairs-cons, AllPairs-filter}
use Rattle.std.proofs.lemmas.Slice.Eq.{bytes_eq-Decides}
use Rattle.std.specs.Prelude.{All, AllPairs, Decides, bytes_eq, not}
use Rattle.heat_plan.specs.Tables.{put, cut}
use Rattle.step_relation.specs.Changes.{applied, apply}
use Rattle.step_relation.specs.State.{StateData, past_key}
use Rattle.step_relation.specs.declared.Change.{Change}
use Rattle.step_relation.specs.declared.Past.{Past}
use Rattle.history_laws.proofs.tables.Tables.{cases}
use Rattle.step_relation.specs.declared.Change.TheVariants as change_to

module _ {K A : Type 0} (same : K → K → Bool) (decides : (x y : K) → Decides (same x y) (x ≡ y)) (key : A → K) where
  abbrev Apart : A → A → Type 0
  Apart x y = key x ≢ key y

  first_apart : (x : A) (xs : List A) → AllPairs Apart (x ∷ xs) → All (Apart x) xs
  first_apart x xs h k d lt = h 0 (suc k) d (omega arith) (omega (arith, lt))

  rest_apart : (x : A) (xs : List A) → AllPairs Apart (x ∷ xs) → AllPairs Apart xs
  rest_apart x xs h i j d lt within = h (suc i) (suc j) d (omega (arith, lt)) (omega (arith, within))

  all_put : (P : A → Type 0) (x : A) (xs : List A) → P x → All P xs → All P (put same key x xs)
  unfolding put
  all_put P x [] new old = All-cons P x [] new (λ k d lt. absurd (omega (arith, lt)))
  all_put P x (y ∷ ys) new old = elim (cases same decides key (key y) (key x)) [
    | inl is ↦ rw is.0 (All-cons P x ys new (λ k d lt. old (suc k) d (omega (arith, lt))))
    | inr other ↦ rw other.0 (All-cons P y (put same key x ys) (old 0 y (omega arith))
        (all_put P x ys new (λ k d lt. old (suc k) d (omega (arith, lt)))))
  ]

  pub once_put : (x : A) (xs : List A) → AllPairs Apart xs → AllPairs Apart (put same key x xs)
  unfolding put
  once_put x [] h = λ i j d lt within. absurd (omega (arith, lt, within))
  once_put x (y ∷ ys) h = elim (cases same decides key (key y) (key x)) [
    | inl is ↦ rw is.0 (AllPairs-cons Apart x ys
        (λ k d lt e. first_apart y ys h k d lt (is.1 ∙ e)) (rest_apart y ys h))
    | inr other ↦ rw other.0 (AllPairs-cons Apart y (put same key x ys)
        (all_put (Apart y) x ys other.1 (first_apart y ys h)) (once_put x ys (rest_apart y ys h)))
  ]

  pub once_cut : (k : K) (xs : List A) → AllPairs Apart xs → AllPairs Apart (cut same key k xs)
  unfolding cut
  once_cut k xs h = AllPairs-filter Apart (λ (x : A). not (same (key x) k)) xs h

-- a stack has one past at most
abbrev pub PastsOnce : List Past → Type 0
PastsOnce pasts = AllPairs (λ (p q : Past). p.stack ≢ q.stack) pasts

once_applied_one : (c : Change) (s : StateData) → PastsOnce s.pasts → PastsOnce (apply c s).pasts
once_applied_one (change_to.PutPast p) s h = once_put bytes_eq bytes_eq-Decides past_key p s.pasts h
once_applied_one (change_to.DropStack name) s h = once_cut bytes_eq bytes_eq-Decides past_key name s.pasts h
once_applied_one (change_to.PutStack st) s h = h
once_applied_one (change_to.PutRow r) s h = h
once_applied_one (change_to.DropRow n) s h = h
once_applied_one (change_to.PutGraph name g) s h = h
once_applied_one (change_to.PutPoint p) s h = h
once_applied_one (change_to.Send l) s h = h
once_applied_one (change_to.Drop n) s h = h
once_applied_one (change_to.PutJob j) s h = h
once_applied_one (change_to.EndJob e) s h = h
once_applied_one (change_to.Enlist e) s h = h
once_applied_one (change_to.Stop e) s h = h
once_applied_one (change_to.Numbers next) s h = h
once_applied_one (change_to.Release t) s h = h

-- whatever the changes
pub once_applied : (cs : List Change) (s : StateData) → PastsOnce s.pasts → PastsOnce (applied cs s).pasts
once_applied [] s h = h
once_applied (c ∷ cs) s h = once_applied cs (apply c s) (once_applied_one c s h)
