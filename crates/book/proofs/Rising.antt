-- In every run the live engines stand by rising number.
use Rattle.std.proofs.Common.{arith, inl, inr, refl, subst, sym, ◌∙◌, ◌⊎◌}
use Rattle.std.specs.Prelude.{Bool, Contains, List, [], cond, false, filter, map, nat_eq, not, suc, true, zero}
use Rattle.std.specs.Prelude.{ℕ, ◌++◌, ◌+◌, ◌<◌, ◌∷◌, ◌≡◌, ◌≤◌}
use Rattle.std.specs.List.{slice_index_or}
use Rattle.std.proofs.lemmas.List.{get_or_default}
use Rattle.std.proofs.lemmas.Bool.Decides.{Decides-eqb}
use Rattle.std.proofs.lemmas.List.Elements.{Contains-append_cases}
use Rattle.dep_graph.specs.Lists.{IsRising}
use Rattle.next_laws.proofs.Listings.{cons_cases, in_head, in_tail, no_member}
use Rattle.core_state.specs.Changes.{applied, apply}
use Rattle.core_state.specs.State.{StateData}
use Rattle.core_state.specs.declared.change.Change.{Change}
use Rattle.core_state.specs.declared.change.Change.TheVariants.{Enlist, Numbers, Stop}
use Rattle.core_state.specs.declared.entry.Entry.{Entry}
use Rattle.step_relation.specs.Orders.{Command}
use Rattle.step_relation.specs.Orders as order
use Rattle.step_relation.specs.Runs.{Judges, Run, begins, goes_on}
use Rattle.step_relation.specs.Steps.{Step, engines_from, past_engines, restart_changes}
use Rattle.step_relation.specs.Steps as step
use Rattle.step_relation.specs.Opening.{Opening}
use Rattle.step_relation.specs.Numbered.{AllBelow}
use Rattle.workable_laws.proofs.Runs.{runs_stay}
use Rattle.workable_laws.specs.Admitted.{IsAdmitted}
use Rattle.workable_laws.specs.Admitted.{restarted as restarted_from}
use Rattle.book.proofs.Engined.{AreStill, applied-live, laid_still, turn_still}

abbrev pub AreAbove : ℕ → List ℕ → Type 0
AreAbove x xs = (y : ℕ) → Contains xs y → x < y

-- each is below all behind it
abbrev pub Rises : List ℕ → Type 0
Rises [] = Unit {0}
Rises (x ∷ xs) = AreAbove x xs × Rises xs

pub is_rising : (xs : List ℕ) → Rises xs → IsRising xs
is_rising [] h i j d lt inside = absurd (omega (arith, inside))
is_rising (x ∷ xs) h zero zero d lt inside = absurd (omega (arith, lt))
is_rising (x ∷ xs) h zero (suc j) d lt inside = h.0 (slice_index_or xs j d)
    (j, omega (arith, inside), get_or_default xs j _ d (omega (arith, inside)))
is_rising (x ∷ xs) h (suc i) zero d lt inside = absurd (omega (arith, lt))
is_rising (x ∷ xs) h (suc i) (suc j) d lt inside = is_rising xs h.1 i j d (omega (arith, lt)) (omega (arith, inside))

-- with a greater one behind
pushed : (xs : List ℕ) (n : ℕ) → Rises xs → ((y : ℕ) → Contains xs y → y < n) → Rises (xs ++ n ∷ [])
pushed [] n h below = ((λ y c. absurd (no_member y c)), tt)
pushed (x ∷ xs) n h below = (
  (λ y c. elim (Contains-append_cases xs (n ∷ []) y c) [
    | inl there ↦ h.0 y there
    | inr last ↦ elim (cons_cases [] n y last) [
      | inl is ↦ subst (λ (z : ℕ). x < z) (sym is) (below x (in_head xs x))
      | inr none ↦ absurd (no_member y none)
    ]
  ]),
  pushed xs n h.1 (λ y c. below y (in_tail xs x y c)),
)

-- without one of them
abbrev pub others : ℕ → List ℕ → List ℕ
others e xs = filter (λ x. not (nat_eq x e)) xs

kept : (e x : ℕ) (xs : List ℕ) (b : Bool) → nat_eq x e ≡ b → (y : ℕ)
    → Contains (cond (not b) (x ∷ others e xs) (others e xs)) y
    → ((y ≡ x) × (b ≡ false)) ⊎ Contains (others e xs) y
kept e x xs true is y c = inr c
kept e x xs false is y c = elim (cons_cases (others e xs) x y c) [ inl same ↦ inl (same, refl) | inr later ↦ inr later ]

-- what is among them was, and isn't the one
pub other_was : (e : ℕ) (xs : List ℕ) (y : ℕ) → Contains (others e xs) y → Contains xs y × (¬ y ≡ e)
other_was e [] y c = absurd (no_member y c)
other_was e (x ∷ xs) y c = elim (kept e x xs (nat_eq x e) refl y c) [
  | inl here ↦ (
    subst (Contains (x ∷ xs)) (sym here.0) (in_head xs x),
    (λ is. let same : nat_eq x e ≡ true = (Decides-eqb x e).1 (sym here.0 ∙ is) in let not = here.1 in cc),
  )
  | inr later ↦ let (was, ne) = other_was e xs y later in (in_tail xs x y was, ne)
]

without : (e : ℕ) (xs : List ℕ) → Rises xs → Rises (others e xs)
without e [] h = tt
without e (x ∷ xs) h = by (without e xs h.1) (nat_eq x e) where
  by : Rises (others e xs) → (b : Bool) → Rises (cond (not b) (x ∷ others e xs) (others e xs))
  by rest true = rest
  by rest false = ((λ y c. h.0 y (other_was e xs y c).0), rest)

-- the numbers of so many engines rise, and none is below the first
from_first : (first count : ℕ) (y : ℕ) → Contains (engines_from first count) y → first ≤ y
from_first first zero y c = absurd (no_member y c)
from_first first (suc count) y c = elim (cons_cases (engines_from (first + 1) count) first y c) [
  | inl is ↦ omega (arith, is)
  | inr later ↦ let le = from_first (first + 1) count y later in omega (arith, le)
]

pub engines_rise : (first count : ℕ) → Rises (engines_from first count)
engines_rise first zero = tt
engines_rise first (suc count) = (
  (λ y c. let le = from_first (first + 1) count y c in omega (arith, le)),
  engines_rise (first + 1) count,
)

-- where all of these stop, the others are live
stops_live : (es : List ℕ) (rest : List Change) (s : StateData) → (t : StateData)
    × (applied (map Stop es ++ rest) s ≡ applied rest t) × (Rises s.live → Rises t.live)
    × ((y : ℕ) → Contains t.live y → Contains s.live y × (¬ Contains es y))
stops_live [] rest s = (s, refl, (λ h. h), (λ y c. (c, no_member y)))
stops_live (e ∷ es) rest s =
    let (t, is, rises, were) = stops_live es rest (apply (Stop e) s) in (
      t,
      is,
      (λ h. rises (without e s.live h)),
      (λ y c. let (there, not) = were y c in let (was, ne) = other_was e s.live y there in (
        was,
        (λ at. elim (cons_cases es e y at) [ inl same ↦ ne same | inr later ↦ not later ]),
      )),
    )

-- where so many are enlisted behind lower ones
enlists_rise : (first count : ℕ) (t : StateData) → Rises t.live → ((y : ℕ) → Contains t.live y → y < first)
    → Rises (applied (map Enlist (engines_from first count)) t).live
enlists_rise first zero t h below = h
enlists_rise first (suc count) t h below = enlists_rise (first + 1) count (apply (Enlist first) t)
    (pushed t.live first h below)
    (λ y c. elim (Contains-append_cases t.live (first ∷ []) y c) [
      | inl there ↦ let lt = below y there in omega (arith, lt)
      | inr last ↦ elim (cons_cases [] first y last)
          [ inl is ↦ omega (arith, is) | inr none ↦ absurd (no_member y none) ]
    ])

restarted : (s : StateData) (count : ℕ) → Rises s.live → Rises (applied (restart_changes s count) s).live
restarted s count h =
    let (t, is, rises, were) = stops_live s.live (map Enlist (engines_from s.next.engine count))
    (apply (Numbers (past_engines s.next count)) s) in
    subst (λ (x : StateData). Rises x.live) (sym is)
    (enlists_rise s.next.engine count t (rises h) (λ y c. let (was, not) = were y c in absurd (not was)))

-- a command leaves the live engines
command_still : (s : StateData) (cs : List Change) (es : List Entry) → Command s cs es → AreStill cs
command_still s cs es (order.create name plan rollback k fits absent few room c d) =
    subst AreStill (sym c) (laid_still s _ _ _ k)
command_still s cs es (order.update st plan rollback k fits there forward room c d) =
    subst AreStill (sym c) (laid_still s _ _ _ k)
command_still s cs es (order.delete st k there c d) = subst AreStill (sym c) (laid_still s _ _ _ k)
command_still s cs es (order.cancel st k there forward unmarked room c d) =
    subst AreStill (sym c) (laid_still s _ _ _ k)

step_rises : (s : StateData) (cs : List Change) (es : List Entry) → Step s cs es → AllBelow s.next.engine s.live
    → Rises s.live → Rises (applied cs s).live
step_rises s cs es it below h = by it where
  stays : AreStill cs → Rises (applied cs s).live
  stays still = subst Rises (sym (applied-live cs s still)) h

  none : cs ≡ [] → Rises (applied cs s).live
  none is = stays (subst AreStill (sym is) tt)

  by : Step s cs es → Rises (applied cs s).live
  by (step.command c fits) = stays (command_still s cs es c)
  by (step.turn e given t fits) = stays (turn_still s e given cs es t)
  by (step.unstored e given lost all call t some fits first c d) = none c
  by (step.stop e live c d) = subst (λ (x : List Change). Rises (applied x s).live) (sym c) (without e s.live h)
  by (step.enlist few fits c d) = subst (λ (x : List Change). Rises (applied x s).live) (sym c)
      (pushed s.live s.next.engine h below)
  by (step.restart count some few fits c d) = subst (λ (x : List Change). Rises (applied x s).live) (sym c)
      (restarted s count h)
  by (step.note it noted c d) = none c
  by (step.close c d) = none c

-- where others are enlisted in the place of all
pub restarted_rise : (s : StateData) (count : ℕ) → Rises (applied (restart_changes s count) s).live
restarted_rise s count =
    let (t, is, rises, were) = stops_live s.live (map Enlist (engines_from s.next.engine count))
    (apply (Numbers (past_engines s.next count)) s) in
    let none : (y : ℕ) → ¬ Contains t.live y = (λ y c. let (was, not) = were y c in not was) in
    subst (λ (x : StateData). Rises x.live) (sym is)
    (enlists_rise s.next.engine count t (nobody t.live none) (λ y c. absurd (none y c)))
  where
    nobody : (xs : List ℕ) → ((y : ℕ) → ¬ Contains xs y) → Rises xs
    nobody [] h = tt
    nobody (x ∷ xs) h = absurd (h x (in_head xs x))

-- all of a run
module _ (registries : List Judges) (o : Opening) (count : ℕ) (admitted : IsAdmitted o) where
  pub run_rises : (s : StateData) (h : List Entry) → Run registries (restarted_from o count).state s h → Rises s.live
  run_rises s h (begins _ _ is none) = subst (λ (x : StateData). Rises x.live) (sym is) (restarted_rise o.state count)
  run_rises s h (goes_on judges mid _ cs before after _ run it among tied once is all) =
      let earlier = runs_stay registries o count mid before admitted run in
      subst (λ (x : StateData). Rises x.live) (sym is)
      (step_rises mid cs after it earlier.drawn.live (run_rises mid before run))
