-- What an entry keeps of the main theorem's sentences, by what it says: most say nothing of it.
use Rattle.std.proofs.Common.{Bool, List, None, Option, Some, [], ap, false, inl, inr, refl, subst, sym, true, ℕ, ◌++◌}
use Rattle.std.proofs.Common.{◌∙◌, ◌∷◌, ◌≡◌, ◌≢◌, ◌⊎◌}
use Rattle.std.proofs.lemmas.Slice.Eq.{bytes_eq-Decides}
use Rattle.std.specs.Prelude.{Contains, bytes_eq, if◌then◌else◌, option_map}
use Rattle.heat_plan.specs.Plans.{PlanData}
use Rattle.heat_plan.specs.declared.calls.Answered.{Answered}
use Rattle.heat_plan.specs.declared.calls.Request.{Request}
use Rattle.heat_plan.specs.declared.phase.Act.{Act}
use Rattle.heat_plan.specs.declared.token.Token.{Token}
use Rattle.provider.specs.Table.{TokenState}
use Rattle.row_table.specs.Rows.{row_at}
use Rattle.row_table.specs.declared.row.Row.{Row}
use Rattle.core_state.specs.State.{StateData}
use Rattle.core_state.specs.declared.entry.Actor.{Actor}
use Rattle.core_state.specs.declared.entry.Entry.{Entry}
use Rattle.core_state.specs.declared.entry.RowWrite.{RowWrite}
use Rattle.step_relation.specs.Freshness.{plan_of}
use Rattle.step_relation.specs.Rows.{token_of}
use Rattle.step_relation.specs.Runs.{Judges, Run}
use Rattle.step_relation.specs.Could.{IsPossible, could_of}
use Rattle.step_relation.specs.Fits.{Fits}
use Rattle.step_relation.specs.Marked.{Completed, Marked, Unmarked, mark_of, marked_again, marked_of}
use Rattle.step_relation.specs.Newest.{Latest, newest}
use Rattle.step_relation.specs.Stored.{released, stored}
use Rattle.step_relation.specs.Headline.{AtPrefix, FitsIn, IsOfNewest}
use Rattle.history_laws.proofs.tables.Tables.{cases}
use Rattle.history_laws.proofs.tells.Appends.{marked-append, newest-append, released-append, stored-append}
use Rattle.history_laws.proofs.tells.Silence.{IsUnmarking, could-silent, marked-silent, newest-silent}
use Rattle.history_laws.proofs.headline.Said.{SameOf, fits_on, fits_plain}
use Rattle.next_laws.proofs.Listings.{in_head, in_tail}
use Rattle.history_examples.specs.Sentences.{Asked, Causes, CompleteFits, Completes, Follows, Holds, Marks, Named}
use Rattle.history_examples.specs.Sentences.{Quiet}
use Rattle.history_examples.specs.Sentences.{Releases, Rolls, Rows, Sentence}
use Rattle.history_examples.specs.Setting.{opening, says}
use Rattle.history_examples.specs.Spoiled.{IsNoRun}
use Rattle.history_examples.proofs.Sentences.{no_run, of_two}
use Rattle.core_state.specs.declared.entry.What.TheVariants as what

pub text_cases : (a b : List ℕ) → ((bytes_eq a b ≡ true) × (a ≡ b)) ⊎ ((bytes_eq a b ≡ false) × (a ≢ b))
text_cases = cases bytes_eq bytes_eq-Decides (λ (x : List ℕ). x)

-- an entry behind which the same may be alive, and the same rows stand
pub rows_on : (before : List Entry) (e : Entry)
    → ((t : Token) → could_of opening (before ++ e ∷ []) t ≡ could_of opening before t)
    → stored opening (before ++ e ∷ []) ≡ stored opening before → AtPrefix opening before → Holds Rows opening before e
rows_on before e could rows at n r state found among =
    at.rows n r state (subst (λ (l : List Row). row_at l n ≡ Some r) rows found)
    (subst (λ (ss : List TokenState). Contains ss state) (could (token_of r)) among)

-- an entry behind which the same may be alive
module _ (before : List Entry) (e : Entry)
    (could : (t : Token) → could_of opening (before ++ e ∷ []) t ≡ could_of opening before t)
    (kept : released opening (before ++ e ∷ []) ≡ released opening before) where
  pub same_of : (stack : List ℕ) → SameOf opening stack before (before ++ e ∷ [])
  same_of stack = record {
    could = λ t own. could t;
    forth = λ t own c. subst (λ (l : List Token). Contains l t) (sym kept) c;
    back = λ t own c. subst (λ (l : List Token). Contains l t) kept c;
  }

  pub back_of : (stack : List ℕ) → SameOf opening stack (before ++ e ∷ []) before
  back_of stack = record {
    could = λ t own. sym (could t);
    forth = λ t own c. subst (λ (l : List Token). Contains l t) kept c;
    back = λ t own c. subst (λ (l : List Token). Contains l t) (sym kept) c;
  }

  -- and the same rows stand
  module _ (rows : stored opening (before ++ e ∷ []) ≡ stored opening before) (at : AtPrefix opening before) where
    pub named_on : Holds Named opening before e
    named_on t alive =
        let w = at.named t (record {
          lives = record {
            it = alive.lives.it;
            among = subst (λ (ss : List TokenState). Contains ss (Some alive.lives.it)) (could t) alive.lives.among;
          };
          owned = λ c. alive.owned (subst (λ (l : List Token). Contains l t) (sym kept) c);
        }) in
        record {
          row = w.row;
          found = subst (λ (l : List Row). row_at l t.row ≡ Some w.row) (sym rows) w.found;
          its = w.its;
          begun = w.begun;
        }

  -- and no mark has come
  pub complete_on : IsUnmarking e.what → AtPrefix opening before → Holds CompleteFits opening before e
  complete_on silent at stack it new marked = fits_on opening stack before (before ++ e ∷ []) (same_of stack)
      (plan_of it.plan) (at.complete stack it (sym (newest-silent opening before (e ∷ []) stack (silent, tt)) ∙ new)
      (ap (option_map (λ (x : Marked). x.mark))
      (sym (marked-silent opening before (e ∷ []) stack (silent, tt))) ∙ marked))

-- ---- a mark of completion

module _ (before : List Entry) (at : AtPrefix opening before) (actor : Actor) (stack : List ℕ) (trav : ℕ)
    (act : Act) where
  abbrev mark : Entry
  mark = says actor (what.Mark stack trav act None)

  mark_could : (t : Token) → could_of opening (before ++ mark ∷ []) t ≡ could_of opening before t
  mark_could t = could-silent opening before (mark ∷ []) t (tt, tt)

  mark_kept : released opening (before ++ mark ∷ []) ≡ released opening before
  mark_kept = released-append opening before (mark ∷ [])

  pub mark_same : (name : List ℕ) → SameOf opening name before (before ++ mark ∷ [])
  mark_same = same_of before mark mark_could mark_kept

  pub mark_keeps : (broken : List Sentence) → (¬ Contains broken Marks → Holds Marks opening before mark)
      → (¬ Contains broken Completes → Holds Completes opening before mark)
      → (¬ Contains broken CompleteFits → Holds CompleteFits opening before mark)
      → (y : Sentence) → ¬ Contains broken y → Holds y opening before mark
  mark_keeps broken marks completes fits Marks not = marks not
  mark_keeps broken marks completes fits Completes not = completes not
  mark_keeps broken marks completes fits CompleteFits not = fits not
  mark_keeps broken marks completes fits Causes not = λ s t a cause is. cc
  mark_keeps broken marks completes fits Quiet not = λ t request given is. cc
  mark_keeps broken marks completes fits Asked not = λ t request given is. cc
  mark_keeps broken marks completes fits Rolls not = λ s t plan rollback is. cc
  mark_keeps broken marks completes fits Follows not = λ n s t a plan rollback is.
      let said = ap (λ (x : Entry). x.what) is in cc
  mark_keeps broken marks completes fits Releases not = λ t is. cc
  mark_keeps broken marks completes fits Named not =
      named_on before mark mark_could mark_kept (stored-append opening before (mark ∷ [])) at
  mark_keeps broken marks completes fits Rows not =
      rows_on before mark mark_could (stored-append opening before (mark ∷ [])) at

  marks_newest : IsOfNewest opening before stack trav act → Holds Marks opening before mark
  marks_newest k s t a cause is =
      let x : stack ≡ s = cc in let y : trav ≡ t = cc in let z : act ≡ a = cc in
      subst (λ (n : List ℕ). IsOfNewest opening before n t a) x
      (subst (λ (n : ℕ). IsOfNewest opening before stack n a) y (subst (IsOfNewest opening before stack trav) z k))

  -- of the newest traversal, though what is alive isn't what its plan asks for
  module _ (it : Latest) (new : newest opening before stack ≡ Some it)
      (misfit : ¬ Fits opening before stack (plan_of it.plan)) where
    pub not_completes : ¬ Holds Completes opening before mark
    not_completes holds = misfit (holds stack trav act it refl new)

    not_fits : mark_of opening (before ++ mark ∷ []) stack ≡ Some Completed → ¬ Holds CompleteFits opening before mark
    not_fits done holds = misfit (fits_on opening stack (before ++ mark ∷ []) before
        (back_of before mark mark_could mark_kept stack) (plan_of it.plan)
        (holds stack it (newest-append opening before (mark ∷ []) stack ∙ new) done))

    pub incomplete : it.trav ≡ trav → it.act ≡ act → mark_of opening before stack ≡ Some Unmarked
        → mark_of opening (before ++ mark ∷ []) stack ≡ Some Completed
        → (judges : List Judges) (state : StateData) (after : List Entry)
        → Run judges opening.state state (before ++ after)
        → IsPossible opening (before ++ mark ∷ [])
        → IsNoRun (record { before = before; entry = mark; broken = Completes ∷ CompleteFits ∷ [] })
    incomplete same same_act unmarked done judges state after right possible = no_run
        (record { before = before; entry = mark; broken = Completes ∷ CompleteFits ∷ [] }) judges state after
        right possible
        Completes (in_head (CompleteFits ∷ []) Completes)
        (of_two (λ (y : Sentence). ¬ Holds y opening before mark) Completes CompleteFits not_completes (not_fits done))
        (mark_keeps (Completes ∷ CompleteFits ∷ [])
        (λ not. marks_newest (record {
          it = it;
          is_newest = new;
          same = same;
          same_act = same_act;
          unmarked = unmarked;
        }))
        (λ not. absurd (not (in_head (CompleteFits ∷ []) Completes)))
        (λ not. absurd (not (in_tail (CompleteFits ∷ []) Completes CompleteFits (in_head [] CompleteFits)))))

  -- a stack is complete behind it only where it was before
  pub fits_still : (mark_of opening (before ++ mark ∷ []) stack ≡ Some Completed
      → mark_of opening before stack ≡ Some Completed)
      → Holds CompleteFits opening before mark
  fits_still was name it new marked = fits_on opening name before (before ++ mark ∷ []) (mark_same name)
      (plan_of it.plan)
      (at.complete name it (sym (newest-append opening before (mark ∷ []) name) ∙ new) (elim (text_cases stack name) [
        | inl t ↦ subst (λ (n : List ℕ). mark_of opening before n ≡ Some Completed) t.1
            (was (subst (λ (n : List ℕ). mark_of opening (before ++ mark ∷ []) n ≡ Some Completed) (sym t.1) marked))
        | inr f ↦ beside (bytes_eq stack name) f.0 (sym (ap (option_map (λ (x : Marked). x.mark))
            (marked-append opening before (mark ∷ []) name)) ∙ marked)
      ]))
    where
      beside : (b : Bool) → b ≡ false → option_map (λ (x : Marked). x.mark)
          (if b then option_map (marked_again trav None) (marked_of opening before name)
          else marked_of opening before name) ≡ Some Completed
          → mark_of opening before name ≡ Some Completed
      beside true is done = cc
      beside false is done = done

-- ---- rows are written

pub write_keeps : (before : List Entry) (actor : Actor) (writes : List RowWrite) (broken : List Sentence)
    → AtPrefix opening before
    → (¬ Contains broken Named → Holds Named opening before (says actor (what.Rows writes)))
    → (¬ Contains broken Rows → Holds Rows opening before (says actor (what.Rows writes)))
    → (y : Sentence) → ¬ Contains broken y → Holds y opening before (says actor (what.Rows writes))
write_keeps before actor writes broken at named rows = by where
  plain : FitsIn opening before (says actor (what.Rows writes))
  plain = fits_plain opening before (says actor (what.Rows writes)) (tt, tt, λ t is. cc)

  by : (y : Sentence) → ¬ Contains broken y → Holds y opening before (says actor (what.Rows writes))
  by Marks not = plain.marks
  by Completes not = plain.completes
  by Causes not = plain.causes
  by Quiet not = plain.quiet
  by Asked not = plain.asked
  by Rolls not = plain.rolls
  by Follows not = plain.follows
  by Releases not = plain.releases
  by CompleteFits not = complete_on before (says actor (what.Rows writes))
      (λ t. could-silent opening before (says actor (what.Rows writes) ∷ []) t (tt, tt))
      (released-append opening before (says actor (what.Rows writes) ∷ [])) tt at
  by Named not = named not
  by Rows not = rows not

-- ---- a call

pub call_keeps : (before : List Entry) (actor : Actor) (token : Token) (asked : Request) (given : Answered)
    (broken : List Sentence)
    → (¬ Contains broken Quiet → Holds Quiet opening before (says actor (what.Call token asked given)))
    → (¬ Contains broken Asked → Holds Asked opening before (says actor (what.Call token asked given)))
    → Holds CompleteFits opening before (says actor (what.Call token asked given))
    → Holds Named opening before (says actor (what.Call token asked given))
    → Holds Rows opening before (says actor (what.Call token asked given))
    → (y : Sentence) → ¬ Contains broken y → Holds y opening before (says actor (what.Call token asked given))
call_keeps before actor token asked given broken quiet may fits named rows Marks not = λ s t a cause is. cc
call_keeps before actor token asked given broken quiet may fits named rows Completes not = λ s t a it is. cc
call_keeps before actor token asked given broken quiet may fits named rows Causes not = λ s t a cause is. cc
call_keeps before actor token asked given broken quiet may fits named rows Quiet not = quiet not
call_keeps before actor token asked given broken quiet may fits named rows Asked not = may not
call_keeps before actor token asked given broken quiet may fits named rows Rolls not = λ s t plan rollback is. cc
call_keeps before actor token asked given broken quiet may fits named rows Follows not = λ n s t a plan rollback is.
    let said = ap (λ (x : Entry). x.what) is in cc
call_keeps before actor token asked given broken quiet may fits named rows Releases not = λ t is. cc
call_keeps before actor token asked given broken quiet may fits named rows CompleteFits not = fits
call_keeps before actor token asked given broken quiet may fits named rows Named not = named
call_keeps before actor token asked given broken quiet may fits named rows Rows not = rows

-- ---- a token that is given up

pub release_keeps : (before : List Entry) (actor : Actor) (token : Token) (broken : List Sentence)
    → AtPrefix opening before
    → (¬ Contains broken Releases → Holds Releases opening before (says actor (what.Release token)))
    → (¬ Contains broken CompleteFits → Holds CompleteFits opening before (says actor (what.Release token)))
    → Holds Named opening before (says actor (what.Release token))
    → (y : Sentence) → ¬ Contains broken y → Holds y opening before (says actor (what.Release token))
release_keeps before actor token broken at releases fits named Marks not = λ s t a cause is. cc
release_keeps before actor token broken at releases fits named Completes not = λ s t a it is. cc
release_keeps before actor token broken at releases fits named Causes not = λ s t a cause is. cc
release_keeps before actor token broken at releases fits named Quiet not = λ t request given is. cc
release_keeps before actor token broken at releases fits named Asked not = λ t request given is. cc
release_keeps before actor token broken at releases fits named Rolls not = λ s t plan rollback is. cc
release_keeps before actor token broken at releases fits named Follows not = λ n s t a plan rollback is.
    let said = ap (λ (x : Entry). x.what) is in cc
release_keeps before actor token broken at releases fits named Releases not = releases not
release_keeps before actor token broken at releases fits named CompleteFits not = fits not
release_keeps before actor token broken at releases fits named Named not = named
release_keeps before actor token broken at releases fits named Rows not =
    rows_on before (says actor (what.Release token))
    (λ t. could-silent opening before (says actor (what.Release token) ∷ []) t (tt, tt))
    (stored-append opening before (says actor (what.Release token) ∷ [])) at

-- ---- a command

module _ (before : List Entry) (at : AtPrefix opening before) (actor : Actor) (stack : List ℕ) (trav : ℕ) (act : Act)
    (plan : Option PlanData) (rollback : Bool) where
  abbrev commands : Entry
  commands = says actor (what.Command stack trav act plan rollback)

  command_could : (t : Token) → could_of opening (before ++ commands ∷ []) t ≡ could_of opening before t
  command_could t = could-silent opening before (commands ∷ []) t (tt, tt)

  command_given : released opening (before ++ commands ∷ []) ≡ released opening before
  command_given = released-append opening before (commands ∷ [])

  abbrev now : Marked
  now = record { trav = trav; mark = Unmarked }

  -- its own stack has no mark now, and every other is as it was
  command_fits : Holds CompleteFits opening before commands
  command_fits name it new marked = elim (text_cases stack name) [
    | inl t ↦ absurd (unmarked (bytes_eq stack name) t.0
        (sym (ap (option_map (λ (x : Marked). x.mark)) (marked-append opening before (commands ∷ []) name)) ∙ marked))
    | inr f ↦ fits_on opening name before (before ++ commands ∷ [])
        (same_of before commands command_could command_given name) (plan_of it.plan)
        (at.complete name it
        (newest_was (bytes_eq stack name) f.0 (sym (newest-append opening before (commands ∷ []) name) ∙ new))
        (was (bytes_eq stack name) f.0
        (sym (ap (option_map (λ (x : Marked). x.mark)) (marked-append opening before (commands ∷ []) name)) ∙ marked)))
  ] where
    unmarked : (b : Bool) → b ≡ true
        → option_map (λ (x : Marked). x.mark)
        (if b then Some now else marked_of opening before name) ≡ Some Completed → ⊥
    unmarked true is done = cc
    unmarked false is done = cc

    was : (b : Bool) → b ≡ false
        → option_map (λ (x : Marked). x.mark) (if b then Some now else marked_of opening before name) ≡ Some Completed
        → mark_of opening before name ≡ Some Completed
    was true is done = cc
    was false is done = done

    newest_was : (b : Bool) → b ≡ false
        → (if b then Some (record { trav = trav; act = act; plan = plan }) else newest opening before name) ≡ Some it
        → newest opening before name ≡ Some it
    newest_was true is same = cc
    newest_was false is same = same

  pub command_keeps : (broken : List Sentence) → Holds Rolls opening before commands
      → (¬ Contains broken Follows → Holds Follows opening before commands)
      → (y : Sentence) → ¬ Contains broken y → Holds y opening before commands
  command_keeps broken rolls follows Marks not = λ s t a cause is. cc
  command_keeps broken rolls follows Completes not = λ s t a it is. cc
  command_keeps broken rolls follows Causes not = λ s t a cause is. cc
  command_keeps broken rolls follows Quiet not = λ t request given is. cc
  command_keeps broken rolls follows Asked not = λ t request given is. cc
  command_keeps broken rolls follows Rolls not = rolls
  command_keeps broken rolls follows Follows not = follows not
  command_keeps broken rolls follows Releases not = λ t is. cc
  command_keeps broken rolls follows CompleteFits not = command_fits
  command_keeps broken rolls follows Named not =
      named_on before commands command_could command_given (stored-append opening before (commands ∷ [])) at
  command_keeps broken rolls follows Rows not =
      rows_on before commands command_could (stored-append opening before (commands ∷ [])) at
