-- What a restart came to, as the line's; and how many engines were live at the opening.
use Rattle.std.proofs.Common.{◌≡◌, inl, inr, ◌+◌, ◌≤◌, ℕ, zero, suc, List, [], ◌∷◌, ◌++◌, length, map}
use Rattle.std.proofs.Common.{refl, sym, ap, ◌∙◌, subst, arith, length-append, Result, Ok, Err}
use Rattle.std.specs.Prelude.{Bool, Contains, Some}
use Rattle.next_laws.proofs.Listings.{cons_cases, in_head, no_member}
use Rattle.provider.specs.Cloud.{Cloud}
use Rattle.core_state.specs.Changes.{applied, apply}
use Rattle.core_state.specs.State.{StateData}
use Rattle.core_state.specs.declared.change.Change.{Change}
use Rattle.core_state.specs.declared.change.Change.TheVariants.{Enlist, Stop}
use Rattle.core_state.specs.declared.change.Change.TheVariants as change_to
use Rattle.core_state.specs.declared.entry.Entry.{Entry}
use Rattle.step_relation.specs.Steps.{engine_limit, engines_from, past_engines, restart_changes}
use Rattle.record_keeper.specs.Calls.{GoesOn}
use Rattle.record_keeper.specs.Shown.{ShownKeeper}
use Rattle.book.proofs.Rising.{other_was}
use Rattle.book.specs.Restarts.{IsHaltedBy, halt_of, restart_entry}
use Rattle.book.specs.Restarts as of_book
use Rattle.book.specs.declared.restarting.Unrestarted.{Unrestarted}
use Rattle.book.specs.declared.restarting.Unrestarted.TheVariants as why
use Rattle.driver.specs.Kept.{HasImage, HasRun, Shown, opening_of}
use Rattle.driver.specs.Quiet.{page}
use Rattle.driver.specs.Scenes.{scene, scene_of}
use Rattle.converge_call.specs.declared.exit.Exit.{Exit}
use Rattle.converge_call.specs.Exits.{exit_of}
use Rattle.converge_call.specs.Halting.{halt_refused}
use Rattle.converge_call.specs.Notes.{HasDone, did, broke}
use Rattle.converge_call.specs.Restarts.{RestartBreaks, RestartDoes}
use Rattle.converge_call.proofs.Noting.{append-none}

-- where all of these stop, the others are live
stops_live : (es : List ℕ) (rest : List Change) (s : StateData) → (t : StateData)
    × (applied (map Stop es ++ rest) s ≡ applied rest t)
    × ((y : ℕ) → Contains t.live y → Contains s.live y × (¬ Contains es y))
stops_live [] rest s = (s, refl, (λ y c. (c, no_member y)))
stops_live (e ∷ es) rest s =
    let (t, is, were) = stops_live es rest (apply (Stop e) s) in (
      t,
      is,
      (λ y c. let (there, not_) = were y c in let (was, ne) = other_was e s.live y there in (
        was,
        (λ at. elim (cons_cases es e y at) [ inl same ↦ ne same | inr later ↦ not_ later ]),
      )),
    )

nobody : (xs : List ℕ) → ((y : ℕ) → ¬ Contains xs y) → length xs ≡ 0
nobody [] h = refl
nobody (x ∷ xs) h = absurd (h x (in_head xs x))

enlists_count : (first count : ℕ) (t : StateData)
    → length (applied (map Enlist (engines_from first count)) t).live ≡ length t.live + count
enlists_count first zero t = omega arith
enlists_count first (suc count) t =
    let later = enlists_count (first + 1) count (apply (Enlist first) t) in
    let one = length-append t.live (first ∷ []) in omega (arith, later, one)

-- so many are live where so many were enlisted in the place of all
pub restarted_count : (s : StateData) (count : ℕ) → length (applied (restart_changes s count) s).live ≡ count
restarted_count s count =
    let (t, is, were) = stops_live s.live (map Enlist (engines_from s.next.engine count))
    (apply (change_to.Numbers (past_engines s.next count)) s) in
    let none = nobody t.live (λ y c. let (was, not_) = were y c in not_ was) in
    let many = enlists_count s.next.engine count t in
    ap (λ (x : StateData). length x.live) is ∙ omega (arith, none, many)

pub opened_count : {K P : Type 0} (cloud_of : P → Cloud) (b : Shown K P) → HasImage cloud_of b
    → (n : ℕ) × (length b.opening.live ≡ n) × (1 ≤ n) × (n ≤ engine_limit)
opened_count cloud_of b it = (
  it.count,
  ap (λ (x : StateData). length x.live) it.opened.opens ∙ restarted_count it.image it.count,
  it.opened.some,
  it.opened.few,
)

-- the same over histories that aren't looked at
does_at : (count : ℕ) (s t : StateData) (h es : List Entry) (c d : Cloud)
    → of_book.RestartDoes count (scene s h c) (scene t es d)
    → of_book.RestartDoes count (scene s [] c) (scene t (restart_entry s count ∷ []) d)
does_at count s t h es c d it = record {
  all = it.all;
  listed = it.listed;
  nothing = it.nothing;
  below = it.below;
  state = it.state;
  entries = refl;
}

breaks_at : (recalls : Bool) (count : ℕ) (s t : StateData) (h i : List Entry) (c d : Cloud) (w : Unrestarted)
    → of_book.RestartBreaks recalls count (scene s h c) (scene t i d) w
    → of_book.RestartBreaks recalls count (scene s [] c) (scene t [] d) w
breaks_at recalls count s t h i c d _ (of_book.foreign unfit same) = of_book.foreign unfit same
breaks_at recalls count s t h i c d _ (of_book.disagree all token finding lists found) =
    of_book.disagree all token finding lists found
breaks_at recalls count s t h i c d _ (of_book.cloud_fault none) = of_book.cloud_fault none
breaks_at recalls count s t h i c d _ (of_book.worn all lists nothing over) = of_book.worn all lists nothing over
breaks_at recalls count s t h i c d _ (of_book.disk_fault may) = of_book.disk_fault may
breaks_at recalls count s t h i c d _ (of_book.memory may) = of_book.memory may

-- what halts a book whose restart is refused
pub refused_halts : (w : Unrestarted) → halt_refused (exit_of w) ≡ Some (halt_of w)
refused_halts why.Foreign = refl
refused_halts (why.Disagree token finding) = refl
refused_halts why.DiskFault = refl
refused_halts why.CloudFault = refl
refused_halts why.Worn = refl
refused_halts why.Memory = refl

module _ {K P : Type 0} (shown : K → ShownKeeper) (cloud_of : P → Cloud) (old new : Shown K P) (run : HasRun cloud_of old)
    (count : ℕ) (counted : count ≡ length old.opening.live) where
  -- what the line came to
  abbrev pub Restarted : Result (Unit {0}) Exit → Type 0
  Restarted result =
      HasDone (RestartDoes (opening_of cloud_of old) old.entries)
      (RestartBreaks (opening_of cloud_of old) old.entries (shown old.origin.keeper).recalls (cloud_of new.cloud))
      (page old.state old.entries) (page new.state new.entries) result

  pub restart_done : of_book.RestartDoes count (scene_of cloud_of old) (scene_of cloud_of new) → Restarted (Ok tt)
  restart_done it =
      let mine = subst (λ (n : ℕ). of_book.RestartDoes n (scene_of cloud_of old) (scene_of cloud_of new)) counted it in
      did (restart_entry old.state (length old.opening.live) ∷ []) (record {
        before = cloud_of old.cloud;
        after = cloud_of new.cloud;
        allowed = run.agrees;
        does = does_at (length old.opening.live) old.state new.state old.entries new.entries (cloud_of old.cloud)
            (cloud_of new.cloud) mine;
      }) mine.entries refl

  pub restart_broke : (faults_of : K → ℕ) (before now : ℕ)
      → GoesOn (shown old.origin.keeper) (shown old.keeper) before now → (w : Unrestarted) (e : Exit) → e ≡ exit_of w
      → IsHaltedBy shown faults_of cloud_of count old new w → Restarted (Err e)
  restart_broke faults_of before now goes w e is it =
      let mine = subst (λ (n : ℕ). of_book.RestartBreaks (shown old.keeper).recalls n (scene_of cloud_of old)
      (scene_of cloud_of new) w) counted it.breaks in
      let told = subst (λ (r : Bool). of_book.RestartBreaks r (length old.opening.live) (scene_of cloud_of old)
      (scene_of cloud_of new) w) goes.recalls mine in
      broke [] e (record {
        before = cloud_of old.cloud;
        allowed = run.agrees;
        cause = w;
        breaks = breaks_at (shown old.origin.keeper).recalls (length old.opening.live) old.state new.state old.entries
            new.entries (cloud_of old.cloud) (cloud_of new.cloud) w told;
        state = it.state;
        none = refl;
        is_why = is;
      }) (it.entries ∙ sym (append-none old.entries)) refl
