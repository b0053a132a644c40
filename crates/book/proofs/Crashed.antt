-- What a crash leaves of a book, through one call of its keeper.
use Rattle.std.proofs.Common.{List, [], ap, append-nil, append_assoc, arith, inl, inr, refl, subst, sym, ◌++◌, ◌∙◌, ◌≡◌, ◌⊎◌}
use Rattle.std.specs.Prelude.{IsTrue, None, Option, Some, take}
use Rattle.provider.specs.Cloud.{Cloud, state_of}
use Rattle.core_state.specs.State.{StateData}
use Rattle.core_state.specs.declared.entry.Entry.{Entry}
use Rattle.step_relation.specs.Could.{Allows}
use Rattle.step_relation.specs.Runs.{Run, begins}
use Rattle.record_keeper.specs.Calls.{IsLeftOf}
use Rattle.record_keeper.specs.Calls as left
use Rattle.record_keeper.specs.Laws.{IsLawful}
use Rattle.record_keeper.specs.Shown.{Left, LeavesOnly, ShownKeeper, at_rest}
use Rattle.book.specs.Crashes.{IsInDoubt, IsLeft, IsLeftBehind}
use Rattle.book.specs.Halts.{IsForeignCause}
use Rattle.book.specs.Keeping.{IsReady}
use Rattle.book.specs.Kept.{registries}
use Rattle.book.specs.Recording.{StepsTo, none}
use Rattle.book.specs.declared.halting.Halt.TheVariants as halt
use Rattle.book.specs.declared.halting.Halt.{Halt}

one_cause : (a b : Halt) → ◌≡◌ {A = Option Halt} (Some a) (Some b) → a ≡ b
one_cause a b is = cc

-- what a fault leaves of state and history, where this was told or would have been
abbrev pub FaultLeaves : StateData → StateData → List Entry → List Entry → List Entry → Type 0
FaultLeaves s t h i told = (t ≡ s) × ((i ≡ h) ⊎ (i ≡ h ++ take 1 told))

module _ (first : StateData) (origin : Cloud) (opened : ShownKeeper) where
  -- a history that went on
  longer : (h i rest : List Entry) → i ≡ h ++ rest → (l : Option Left) → IsLeftBehind first h l
      → IsLeftBehind first i l
  longer h i rest is l it = record {
    part = it.part;
    rest = it.rest ++ rest;
    parts = is ∙ ap (λ (x : List Entry). x ++ rest) it.parts ∙ append_assoc it.part it.rest rest;
    before = it.before;
    run = it.run;
    behind = it.behind;
    told = it.told;
    step = it.step;
    left = it.left;
  }

  -- the step that a call made, or tried
  pub left_on : (k l : ShownKeeper) (may_open : StateData → Type 0) → IsLawful may_open l → (s t : StateData)
      (h i : List Entry) (c d : Cloud) (why : Option Halt) → l.tells ≡ k.tells → Run registries first s h
      → IsLeft first origin opened k s h c None → (behind : StateData) (told : List Entry) → StepsTo h s behind told
      → Allows (state_of origin) (h ++ told) d → (IsTrue k.tells → LeavesOnly k l (IsLeftOf s behind))
      → (rest : List Entry) → i ≡ h ++ rest → (why ≡ Some halt.DiskFault → FaultLeaves s t h i told)
      → IsLeft first origin opened l t i d why
  left_on k l may_open lawful s t h i c d why same run was behind told step agrees leaves rest is_i fault = record {
    later = λ tells.
        let a = was.later (subst IsTrue same tells) in
        let b = (leaves (subst IsTrue same tells)).later in
        omega (arith, a, b);
    since = λ tells x since.
        let it = subst IsTrue same tells in
        elim ((leaves it).before opened.moment x (was.later it) since) [
          | inl earlier ↦ longer h i rest is_i x (was.since it x earlier)
          | inr by_it ↦ record {
            part = h;
            rest = rest;
            parts = is_i;
            before = s;
            run = run;
            behind = behind;
            told = told;
            step = step;
            left = by_it;
          }
        ];
    doubt = λ f. subst (λ (x : StateData). IsInDoubt first origin x i d l) (sym (fault f).0) (record {
      part = h;
      run = run;
      behind = behind;
      told = told;
      step = step;
      history = (fault f).1;
      agrees = agrees;
      leaves = λ tells x may.
          let it = leaves (subst IsTrue same tells) in
          it.each x ((lawful.told tells).counts_now k.moment x it.later may);
    });
  }

  -- a call that left the state
  pub left_resting : (k l : ShownKeeper) (may_open : StateData → Type 0) → IsLawful may_open l → (s : StateData)
      (h : List Entry) (c : Cloud) (why : Option Halt) → l.tells ≡ k.tells → Run registries first s h
      → Allows (state_of origin) h c → IsLeft first origin opened k s h c None
      → (IsTrue k.tells → LeavesOnly k l (λ x. x ≡ Some (at_rest s))) → IsLeft first origin opened l s h c why
  left_resting k l may_open lawful s h c why same run agrees was rests = left_on k l may_open lawful s s h h c c why same
      run was s [] (none refl refl)
      (subst (λ (x : List Entry). Allows (state_of origin) x c) (sym (append-nil h)) agrees)
      (λ tells. let it = rests tells in record {
        later = it.later;
        each = λ x since. left.before (it.each x since);
        before = λ t x earlier since. elim (it.before t x earlier since)
            [ inl was_ ↦ inl was_ | inr at_rest_ ↦ inr (left.before at_rest_) ];
      }) [] (sym (append-nil h)) (λ f. (refl, inl refl))

  -- halted from outside
  pub left_outside : (k : ShownKeeper) (s : StateData) (h : List Entry) (c : Cloud) (why : Halt) → IsForeignCause why
      → IsLeft first origin opened k s h c None → IsLeft first origin opened k s h c (Some why)
  left_outside k s h c why outside was = record {
    later = was.later;
    since = was.since;
    doubt = λ f. absurd (outside.not_fault (one_cause why halt.DiskFault f));
  }

-- a book that begins
pub left_at_first : (first : StateData) (origin : Cloud) (opened k : ShownKeeper) (may_open : StateData → Type 0)
    → IsLawful may_open k → (s : StateData) (h : List Entry) (c : Cloud) → opened ≡ k → s ≡ first → h ≡ []
    → IsReady k s → IsLeft first origin opened k s h c None
left_at_first first origin opened k may_open lawful s h c same is_s is_h ready =
    subst (λ (x : ShownKeeper). IsLeft first origin x k s h c None) (sym same) (record {
      later = λ tells. omega arith;
      since = λ tells l since.
          let told = lawful.told tells in
          let rests = told.durable s l (ready.stands.told tells) (told.only_now l since) in record {
            part = [];
            rest = [];
            parts = is_h;
            before = s;
            run = begins s [] is_s refl;
            behind = s;
            told = [];
            step = none refl refl;
            left = left.before rests;
          };
      doubt = λ f. cc;
    })
