-- What a crash may leave of steps one behind another.
use Rattle.std.proofs.Common.{◌≡◌, List, [], ◌++◌, append-nil, append_assoc, refl, sym, ap, ◌∙◌, subst}
use Rattle.std.specs.Prelude.{IsTrue, None, Option, Some, ℕ}
use Rattle.provider.specs.Cloud.{Cloud}
use Rattle.core_state.specs.State.{StateData}
use Rattle.core_state.specs.declared.entry.Entry.{Entry}
use Rattle.step_relation.specs.Opening.{Opening}
use Rattle.step_relation.specs.Runs.{Run, goes_on}
use Rattle.record_keeper.specs.Calls.{IsLeftOf, before}
use Rattle.record_keeper.specs.Laws.{IsLawful}
use Rattle.record_keeper.specs.Shown.{Left, LeavesOnly, ShownKeeper, StandsFor, at_rest}
use Rattle.record_keeper.proofs.Moments.{LeavesOnly-same, LeavesOnly-then, LeavesOnly-weaker}
use Rattle.book.specs.Kept.{HasRun, IsHeld, IsSameBook, Origin, Shown, opening_of, registries}
use Rattle.book.specs.Recording.{Records, StepsTo}
use Rattle.book.specs.Recording as recording
use Rattle.book.specs.Scenes.{Scene, scene_of}
use Rattle.book.specs.Turned.{Turned}
use Rattle.book.specs.Turned as turned
use Rattle.book.specs.declared.turning.Turn.{Turn as Turn_answer}
use Rattle.book.proofs.Keepers.{itself}
use Rattle.driver.specs.Leaving.{IsLeftAlong, LeavesAlong}
use Rattle.driver.proofs.Fitting.{fits_left}

-- a book opens as it did
pub same_opening : {K P : Type 0} (cloud_of : P → Cloud) (old new : Shown K P) → IsSameBook old new
    → opening_of cloud_of new ≡ opening_of cloud_of old
same_opening {K} {P} cloud_of old new same = rw (same.opening, same.origin) refl

-- a run with one step more, or none
pub run_on : (o : Opening) (h : List Entry) (s t : StateData) (es : List Entry) → Run registries o.state s h
    → StepsTo h s t es → Run registries o.state t (h ++ es)
run_on o h s t es run (recording.none same none) =
    subst (λ (x : StateData). Run registries o.state x (h ++ es)) (sym same)
    (subst (λ (xs : List Entry). Run registries o.state s (h ++ xs)) (sym none)
    (subst (λ (xs : List Entry). Run registries o.state s xs) (sym (append-nil h)) run))
run_on o h s t es run (recording.one it) =
    goes_on it.judges s t it.changes h es (h ++ es) run it.step it.among it.tied it.once it.behind refl

-- what one step leaves, whatever comes then
pub along_one : (o : Opening) (h : List Entry) (s t : StateData) (es later all : List Entry) → Run registries o.state s h
    → StepsTo h s t es → all ≡ h ++ later → (l : Option Left) → IsLeftOf s t l → IsLeftAlong o h all l
along_one o h s t es later all run step parts l left = record {
  so_far = h;
  since = [];
  begins = sym (append-nil h);
  later = later;
  parts = parts;
  state = s;
  run = run;
  behind = t;
  told = es;
  step = step;
  left = left;
  fits = λ sound. fits_left o h s t es run step sound l left;
}

-- the state itself
pub along_rest : (o : Opening) (h : List Entry) (s : StateData) (later all : List Entry) → Run registries o.state s h
    → all ≡ h ++ later → (l : Option Left) → l ≡ Some (at_rest s) → IsLeftAlong o h all l
along_rest o h s later all run parts l is = along_one o h s s [] later all run (recording.none refl refl) parts l
    (before is)

-- the history goes on
pub along_later : (o : Opening) (h all more new : List Entry) (l : Option Left) → new ≡ all ++ more
    → IsLeftAlong o h all l → IsLeftAlong o h new l
along_later o h all more new l is k = record {
  so_far = k.so_far;
  since = k.since;
  begins = k.begins;
  later = k.later ++ more;
  parts = is ∙ ap (λ (xs : List Entry). xs ++ more) k.parts ∙ append_assoc k.so_far k.later more;
  state = k.state;
  run = k.run;
  behind = k.behind;
  told = k.told;
  step = k.step;
  left = k.left;
  fits = k.fits;
}

-- the call began earlier
pub along_earlier : (o : Opening) (h more mid all : List Entry) (l : Option Left) → mid ≡ h ++ more
    → IsLeftAlong o mid all l → IsLeftAlong o h all l
along_earlier o h more mid all l is k = record {
  so_far = k.so_far;
  since = more ++ k.since;
  begins = k.begins ∙ ap (λ (xs : List Entry). xs ++ k.since) is ∙ append_assoc h more k.since;
  later = k.later;
  parts = k.parts;
  state = k.state;
  run = k.run;
  behind = k.behind;
  told = k.told;
  step = k.step;
  left = k.left;
  fits = k.fits;
}

module _ {K P : Type 0} (shown : K → ShownKeeper) (cloud_of : P → Cloud) where
  -- what is left of a call, seen from an earlier one's beginning
  pub seen_earlier : (old mid new : Shown K P) (added : List Entry) → IsSameBook old mid
      → mid.entries ≡ old.entries ++ added → (l : Option Left)
      → IsLeftAlong (opening_of cloud_of mid) mid.entries new.entries l
      → IsLeftAlong (opening_of cloud_of old) old.entries new.entries l
  seen_earlier old mid new added same grows l k =
      along_earlier (opening_of cloud_of old) old.entries added mid.entries new.entries l grows
      (subst (λ (o : Opening). IsLeftAlong o mid.entries new.entries l) (same_opening cloud_of old mid same) k)

  -- one call of a step
  pub leaves_step : (old new : Shown K P) (added : List Entry) → HasRun cloud_of old
      → new.entries ≡ old.entries ++ added → Records shown cloud_of old new
      → IsTrue (shown old.keeper).tells
      → LeavesOnly (shown old.keeper) (shown new.keeper) (IsLeftAlong (opening_of cloud_of old) old.entries new.entries)
  leaves_step old new added run grows it tells =
      LeavesOnly-weaker (shown old.keeper) (shown new.keeper) (IsLeftOf old.state it.behind)
      (IsLeftAlong (opening_of cloud_of old) old.entries new.entries)
      (λ l left. along_one (opening_of cloud_of old) old.entries old.state it.behind it.told added new.entries run.run
      it.step grows l left) (it.leaves tells)

  -- one call behind another
  pub leaves_then : (old mid new : Shown K P) (first second : List Entry) → IsSameBook old mid
      → mid.entries ≡ old.entries ++ first → new.entries ≡ mid.entries ++ second
      → LeavesOnly (shown old.keeper) (shown mid.keeper) (IsLeftAlong (opening_of cloud_of old) old.entries mid.entries)
      → LeavesOnly (shown mid.keeper) (shown new.keeper) (IsLeftAlong (opening_of cloud_of mid) mid.entries new.entries)
      → LeavesOnly (shown old.keeper) (shown new.keeper) (IsLeftAlong (opening_of cloud_of old) old.entries new.entries)
  leaves_then old mid new first second same grows more a b =
      LeavesOnly-then (shown old.keeper) (shown mid.keeper) (shown new.keeper)
      (IsLeftAlong (opening_of cloud_of old) old.entries new.entries)
      (LeavesOnly-weaker (shown old.keeper) (shown mid.keeper)
      (IsLeftAlong (opening_of cloud_of old) old.entries mid.entries)
      (IsLeftAlong (opening_of cloud_of old) old.entries new.entries)
      (λ l k. along_later (opening_of cloud_of old) old.entries mid.entries second new.entries l more k) a)
      (LeavesOnly-weaker (shown mid.keeper) (shown new.keeper)
      (IsLeftAlong (opening_of cloud_of mid) mid.entries new.entries)
      (IsLeftAlong (opening_of cloud_of old) old.entries new.entries)
      (λ l k. seen_earlier old mid new first same grows l k) b)

-- where nothing was done, a crash leaves the state for which the keeper stands
pub leaves_still : (may_open : StateData → Type 0) (k : ShownKeeper) (P : Option Left → Type 0) → IsLawful may_open k
    → IsTrue k.tells → (s : StateData) → StandsFor k s → P (Some (at_rest s)) → LeavesOnly k k P
leaves_still may_open k P lawful tells s stands it =
    LeavesOnly-same may_open k k P (lawful.told tells) (itself k)
    (λ l may. subst P (sym ((lawful.told tells).durable s l (stands.told tells) may)) it)

-- a turn adds entries, or none
pub turned_grows : (e : ℕ) (old new : Scene) (result : Turn_answer) → Turned e old new result
    → (es : List Entry) × (new.entries ≡ old.entries ++ es)
turned_grows e old new result (turned.quiet given cs es is by it lasts tied makes same) = (es, makes.entries)
turned_grows e old new result (turned.called k given cs es rest is it lasts first makes told) = (es, makes.entries)
turned_grows e old new result (turned.alone k given cs es rest why some it lasts first makes told) = (_, makes.entries)
turned_grows e old new result (turned.unkept given cs es is by some it lasts tied same) =
    ([], same.entries ∙ sym (append-nil old.entries))
turned_grows e old new result (turned.unmade is same) = ([], same.entries ∙ sym (append-nil old.entries))
turned_grows e old new result (turned.idle is none same) = ([], same.entries ∙ sym (append-nil old.entries))
turned_grows e old new result (turned.lost is none same) = ([], same.entries ∙ sym (append-nil old.entries))
turned_grows e old new result (turned.worn is by same) = ([], same.entries ∙ sym (append-nil old.entries))

module _ {K P : Type 0} (shown : K → ShownKeeper) (cloud_of : P → Cloud) where
  -- before the first turn
  pub leaves_begun : (may_open : StateData → Type 0) (b : Shown K P) → IsLawful may_open (shown b.keeper)
      → HasRun cloud_of b → {n m : ℕ} → IsHeld (shown b.origin.keeper) (shown b.keeper) n m b.state b.halt
      → b.halt ≡ None → IsTrue (shown b.origin.keeper).tells
      → LeavesOnly (shown b.keeper) (shown b.keeper) (IsLeftAlong (opening_of cloud_of b) b.entries b.entries)
  leaves_begun may_open b lawful run held none tells =
      leaves_still may_open (shown b.keeper) (IsLeftAlong (opening_of cloud_of b) b.entries b.entries) lawful
      (subst IsTrue (sym held.goes_on.tells) tells) b.state (held.stands (λ halted. let is = sym none ∙ halted in cc))
      (along_rest (opening_of cloud_of b) b.entries b.state [] b.entries run.run (sym (append-nil b.entries)) _ refl)

  -- behind one turn more
  pub leaves_on : (old mid new : Shown K P) (first : List Entry) (e : ℕ) {result : Turn_answer} → IsSameBook old mid
      → mid.entries ≡ old.entries ++ first → LeavesAlong shown cloud_of old mid → HasRun cloud_of mid
      → {n m : ℕ} → IsHeld (shown mid.origin.keeper) (shown mid.keeper) n m mid.state mid.halt
      → Turned e (scene_of cloud_of mid) (scene_of cloud_of new) result → Records shown cloud_of mid new
      → LeavesAlong shown cloud_of old new
  leaves_on old mid new first e same grows so_far run held turned records tells =
      let (second, more) = turned_grows e (scene_of cloud_of mid) (scene_of cloud_of new) _ turned in
      let went = subst (λ (o : Origin K P). IsTrue (shown o.keeper).tells) (sym same.origin) tells in
      leaves_then shown cloud_of old mid new first second same grows more (so_far tells)
      (leaves_step shown cloud_of mid new second run more records (subst IsTrue (sym held.goes_on.tells) went))
