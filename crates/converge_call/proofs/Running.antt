-- How a run of turns ended, with the note of its end; and a run under its limit.
use Rattle.std.proofs.Common.{◌≡◌, ◌≢◌, ◌<◌, ◌≤◌, ◌+◌, ℕ, true, false, List, [], ◌∷◌, ◌++◌, Option, Some, None, length}
use Rattle.std.proofs.Common.{refl, sym, ap, ◌∙◌, subst, append_assoc, Result, Err, arith}
use Rattle.std.specs.Prelude.{codes}
use Rattle.std.proofs.Math.Nat.{lt_of_not-le}
use Rattle.core_state.specs.declared.entry.Entry.{Entry}
use Rattle.core_state.specs.declared.entry.What.{What}
use Rattle.core_state.specs.declared.entry.What.TheVariants as what
use Rattle.core_state.specs.State.{StateData}
use Rattle.step_relation.specs.Opening.{Opening}
use Rattle.step_relation.specs.Headline.{IsSettledAs}
use Rattle.step_relation.specs.Sound.{Sound}
use Rattle.driver.specs.Below.{IsFullWork}
use Rattle.provider.specs.Cloud.{Cloud}
use Rattle.driver.specs.Kept.{Shown, IsSameBook, opening_of}
use Rattle.driver.specs.Quiet.{Page, IsIdle}
use Rattle.driver.specs.Settled as settled_book
use Rattle.driver.specs.Turns.{Turns, RanTo, HasRan}
use Rattle.driver.specs.Turns as to
use Rattle.driver.specs.declared.ran.Ran.{Ran}
use Rattle.driver.specs.declared.ran.Ran.TheVariants as ran
use Rattle.converge_call.specs.declared.exit.Exit.{Exit}
use Rattle.converge_call.specs.declared.exit.Exit.TheVariants as exit
use Rattle.converge_call.specs.Notes.{by_main, refused, Notes, IsUndone, HasDone, did, broke}
use Rattle.converge_call.specs.Runs.{IsLimit, AreSettled, EndsIdle, EndsTired, RunEnds, RunStops, RunDoes, RunBreaks}
use Rattle.converge_call.specs.Runs.{break_of}
use Rattle.converge_call.specs.Runs as runs
use Rattle.converge_call.proofs.Noting.{append-none, done_as}
use Rattle.driver.proofs.Leavings.{same_opening}

-- each stack of a book is settled, by the history of which its own is the last part
pub settled_as : {K P : Type 0} (cloud_of : P → Cloud) (old new : Shown K P) (added : List Entry) → IsSameBook old new
    → new.entries ≡ old.entries ++ added → settled_book.AreSettled cloud_of new
    → AreSettled (opening_of cloud_of old) (old.entries ++ added) new.state
settled_as {K} {P} cloud_of old new added same more settled name st found =
    subst (λ (o : Opening). IsSettledAs o (old.entries ++ added) st) (same_opening cloud_of old new same)
    (subst (λ (h : List Entry). IsSettledAs (opening_of cloud_of new) h st) more (settled name st found))

module _ (o : Opening) (n : ℕ) (old mid new : Page) (result : Result (Unit {0}) Exit) where
  abbrev RunDone : Type 0
  RunDone = HasDone (RunEnds o old.entries n) (RunStops n) old new result

  -- entries behind the turns
  behind : (added es : List Entry) → mid.entries ≡ old.entries ++ added → new.entries ≡ mid.entries ++ es
      → new.entries ≡ old.entries ++ (added ++ es)
  behind added es so_far more = more ∙ ap (λ (all : List Entry). all ++ es) so_far ∙ append_assoc old.entries added es

  -- no memory for the note
  unnoted : (ended : Ran) (added es : List Entry) (why : Exit) → mid.entries ≡ old.entries ++ added
      → RanTo n old.state mid.state added ended
      → break_of ended ≡ exit.Memory → IsUndone mid.state new.state es why → new.entries ≡ mid.entries ++ es
      → result ≡ Err why → RunDone
  unnoted ended added es why so_far ran_to is_memory un more is =
      broke added why (record {
        ended = ended;
        ran_to = subst (λ (s : StateData). RanTo n old.state s added ended) (sym un.state) ran_to;
        cause = un.memory ∙ sym is_memory;
      }) (more ∙ ap (λ (rest : List Entry). mid.entries ++ rest) un.none ∙ append-none mid.entries ∙ so_far) is

  -- the note behind the turns
  noted : (added es : List Entry) (it : What) → mid.entries ≡ old.entries ++ added → Notes it mid.state new.state es
      → new.entries ≡ mid.entries ++ es → new.entries ≡ old.entries ++ (added ++ by_main it ∷ [])
  noted added es it so_far note more =
      behind added es so_far more ∙ ap (λ (all : List Entry). old.entries ++ (added ++ all)) note.note

  idle_at : (by : List ℕ) (added : List Entry) → mid.entries ≡ old.entries ++ added → length by ≤ n
      → Turns old.state mid.state added by
      → IsIdle mid.state → (Sound o [] o.state → AreSettled o (old.entries ++ added) mid.state)
      → HasDone (Notes (what.Ran true (length by))) IsUndone mid new result → RunDone
  idle_at by added so_far within turns rests settled (did es note more is) =
      did (added ++ by_main (what.Ran true (length by)) ∷ []) (runs.idle (record {
        by = by;
        turned = added;
        turns = subst (λ (s : StateData). Turns old.state s added by) (sym note.state) turns;
        within = within;
        rests = subst (λ (s : StateData). IsIdle s) (sym note.state) rests;
        settled = λ sound. subst (λ (s : StateData). AreSettled o (old.entries ++ added) s) (sym note.state)
            (settled sound);
        entries = refl;
      })) (noted added es _ so_far note more) is
  idle_at by added so_far within turns rests settled (broke es why un more is) =
      unnoted (ran.Idle (length by)) added es why so_far (to.idle by within turns rests refl) refl un more is

  tired_at : (by : List ℕ) (added : List Entry) → mid.entries ≡ old.entries ++ added → length by ≡ n
      → Turns old.state mid.state added by
      → ¬ IsIdle mid.state → (Sound o [] o.state → (w : ℕ) → IsFullWork old.state w → n < w)
      → HasDone (Notes (what.Ran false n)) IsUndone mid new result → RunDone
  tired_at by added so_far all turns busy short (did es note more is) =
      did (added ++ by_main (what.Ran false n) ∷ []) (runs.tired (record {
        by = by;
        turned = added;
        turns = subst (λ (s : StateData). Turns old.state s added by) (sym note.state) turns;
        all = all;
        busy = subst (λ (s : StateData). ¬ IsIdle s) (sym note.state) busy;
        short = short;
        entries = refl;
      })) (noted added es _ so_far note more) is
  tired_at by added so_far all turns busy short (broke es why un more is) =
      unnoted (ran.Tired n) added es why so_far (to.tired by all turns busy refl) refl un more is

  pub idle_noted : (m : ℕ) → HasRan n old mid (ran.Idle m)
      → ((added : List Entry) → mid.entries ≡ old.entries ++ added → Sound o [] o.state
      → AreSettled o (old.entries ++ added) mid.state)
      → HasDone (Notes (what.Ran true m)) IsUndone mid new result → RunDone
  idle_noted m r settled note = by_end r.ended where
    by_end : RanTo n old.state mid.state r.added (ran.Idle m) → RunDone
    by_end (to.idle by within turns rests is) =
        let same : m ≡ length by = cc in
        idle_at by r.added r.entries within turns rests (settled r.added r.entries)
        (subst (λ (k : ℕ). HasDone (Notes (what.Ran true k)) IsUndone mid new result) same note)
    by_end (to.tired by all turns busy is) = cc
    by_end (to.worn by e few turns follows out is) = cc
    by_end (to.memory by e mid_state before after few turns follows lacks all is) = cc
    by_end (to.fault by e mid_state before after few turns follows lacks all is) = cc

  pub tired_noted : (m : ℕ) → HasRan n old mid (ran.Tired m)
      → (Sound o [] o.state → (w : ℕ) → IsFullWork old.state w → n < w)
      → HasDone (Notes (what.Ran false m)) IsUndone mid new result → RunDone
  tired_noted m r short note = by_end r.ended where
    by_end : RanTo n old.state mid.state r.added (ran.Tired m) → RunDone
    by_end (to.idle by within turns rests is) = cc
    by_end (to.tired by all turns busy is) =
        let same : m ≡ n = cc in
        tired_at by r.added r.entries all turns busy short
        (subst (λ (k : ℕ). HasDone (Notes (what.Ran false k)) IsUndone mid new result) same note)
    by_end (to.worn by e few turns follows out is) = cc
    by_end (to.memory by e mid_state before after few turns follows lacks all is) = cc
    by_end (to.fault by e mid_state before after few turns follows lacks all is) = cc

-- a run that was broken off among its turns
pub run_stopped : (o : Opening) (n : ℕ) (old new : Page) (ended : Ran) (result : Result (Unit {0}) Exit)
    → HasRan n old new ended
    → result ≡ Err (break_of ended) → HasDone (RunEnds o old.entries n) (RunStops n) old new result
run_stopped o n old new ended result r ends =
    broke r.added (break_of ended) (record { ended = ended; ran_to = r.ended; cause = refl }) r.entries ends

-- a run of as many turns as the line says
pub run_limited : (o : Opening) (h : List Entry) (number : ℕ) (asked : Option ℕ) (n : ℕ) (old new : Page)
    (result : Result (Unit {0}) Exit)
    → old.state.live ≢ [] → IsLimit old.state asked n → HasDone (RunEnds o h n) (RunStops n) old new result
    → HasDone (RunDoes o h number asked) (RunBreaks asked) old new result
run_limited o h number asked n old new result live limit it =
    done_as (RunEnds o h n) (RunDoes o h number asked) (RunStops n) (RunBreaks asked) old new result ends
    (λ es why stopped. runs.stops n limit stopped) it where
      tired_for : (asked : Option ℕ) → IsLimit old.state asked n → (es : List Entry)
          → EndsTired o n old.state new.state es → Sound o [] o.state → asked ≡ Some n
      tired_for None limit es it sound = absurd (let less = it.short sound n limit in omega (arith, less))
      tired_for (Some k) limit es it sound = ap Some (sym limit)

      ends : (es : List Entry) → RunEnds o h n old.state new.state es → RunDoes o h number asked old.state new.state es
      ends es (runs.idle it) = runs.ran_idle n live limit it
      ends es (runs.tired it) = runs.ran_tired n live limit (tired_for asked limit es it) it

-- no engine is live
pub run_refused : (o : Opening) (h : List Entry) (number : ℕ) (asked : Option ℕ) (old new : Page)
    (result : Result (Unit {0}) Exit)
    → old.state.live ≡ [] → HasDone (Notes (refused number (codes "E16"))) IsUndone old new result
    → HasDone (RunDoes o h number asked) (RunBreaks asked) old new result
run_refused o h number asked old new result none note =
    done_as (Notes (refused number (codes "E16"))) (RunDoes o h number asked) IsUndone (RunBreaks asked) old new result
    (λ es noted. runs.no_engine none noted) (λ es why un. runs.unrun un) note

-- what isn't enough is less
pub is_short : (n w : ℕ) → (w ≤ n → ⊥) → n < w
is_short n w short = lt_of_not-le short

-- what isn't below is as great
pub not_below : (e n : ℕ) → (e < n → ⊥) → n ≤ e
not_below e n above = let less : n < e + 1 = lt_of_not-le (λ le. above (let le_too = le in omega (arith, le_too))) in
    omega (arith, less)

-- a list of no engine
pub none_live : (xs live : List ℕ) → xs ≡ live → length xs ≡ 0 → live ≡ []
none_live [] live same none = sym same
none_live (x ∷ xs) live same none = cc

pub some_live : (xs live : List ℕ) → xs ≡ live → ¬ (length xs ≡ 0) → ¬ (live ≡ [])
some_live xs live same some none = some (ap length (same ∙ none))
