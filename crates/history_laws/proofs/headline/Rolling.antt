-- The failure of a turn is rolled back in it, where it was asked for, and so in every run.
use Rattle.std.proofs.Common.{List, ap, append-nil, append_assoc, false, inl, inr, refl, subst, sym, true, ◌∙◌}
use Rattle.std.proofs.lemmas.List.Elements.{Contains-append_right}
use Rattle.std.specs.Prelude.{Contains, List, None, Option, Some, [], length, ℕ, ◌++◌, ◌+◌, ◌∷◌, ◌≡◌, ◌≤◌, ◌⊎◌}
use Rattle.heat_plan.specs.Plans.{PlanData}
use Rattle.heat_plan.specs.declared.phase.Act.{Act}
use Rattle.heat_plan.specs.declared.phase.Act.TheVariants.{Create, Delete, Init, Rollback, Update}
use Rattle.heat_plan.specs.declared.phase.Status.TheVariants.{Failed}
use Rattle.row_table.specs.declared.row.Row.{Row}
use Rattle.step_relation.specs.Changes.{applied}
use Rattle.step_relation.specs.State.{StateData, past_at, stack_at}
use Rattle.step_relation.specs.declared.Past.{Past}
use Rattle.step_relation.specs.declared.Change.{Change}
use Rattle.step_relation.specs.declared.Actor.{Actor}
use Rattle.step_relation.specs.declared.Actor.TheVariants.{Engine, Main}
use Rattle.step_relation.specs.declared.Cause.{Cause}
use Rattle.step_relation.specs.declared.Entry.{Entry}
use Rattle.step_relation.specs.declared.What.{What}
use Rattle.step_relation.specs.declared.Stack.{Stack}
use Rattle.step_relation.specs.Given.{Given}
use Rattle.step_relation.specs.Moves.{Move}
use Rattle.step_relation.specs.Orders.{Command, IsForward, cancel, create, create_sets, delete, delete_sets, of_create, of_update}
use Rattle.step_relation.specs.Orders.{past_of, past_or}
use Rattle.step_relation.specs.Orders.{plan_back, rollback_sets, row_limit, update, update_sets}
use Rattle.step_relation.specs.Runs.{IsTied, IsTiedStep, Judges, Run, begins, goes_on}
use Rattle.step_relation.specs.Steps.{IsNote, Step, close, command, enlist, note, notes, ran, restart, shows, stop}
use Rattle.step_relation.specs.Steps.{previews, turn, turned, unstored}
use Rattle.step_relation.specs.Turns.{FollowsFailure, IsDue, Turn, plain, rolls, stays, unfailed}
use Rattle.step_relation.specs.Writes.{entry_of}
use Rattle.step_relation.specs.Could.{IsPossible}
use Rattle.step_relation.specs.Last.{IsLast}
use Rattle.step_relation.specs.Newest.{rollback_of}
use Rattle.step_relation.specs.Opening.{Opening}
use Rattle.step_relation.specs.Stored.{stored}
use Rattle.step_relation.specs.Sound.{Sound}
use Rattle.step_relation.specs.Tells.{TellsStack}
use Rattle.history_laws.proofs.tables.Rows.{past-key, same_some}
use Rattle.history_laws.proofs.tells.Appends.{rollback-append, stored-append}
use Rattle.history_laws.proofs.tells.Beside.{passing_failed}
use Rattle.history_laws.proofs.tells.Lasts.{last_kept, split, unmarking_at}
use Rattle.history_laws.proofs.tells.Silence.{AreUnmarking, IsUnmarking}
use Rattle.history_laws.proofs.agrees.Called.{none_in}
use Rattle.history_laws.proofs.agrees.LaidTold.{forward_keeps}
use Rattle.history_laws.proofs.headline.LastOnce.{last_once}
use Rattle.history_laws.proofs.headline.Once.{possible_before}
use Rattle.history_laws.proofs.headline.Rolled.{AllRolled, EndsSo, IsUnfailed, ends_so, laid_unfailed, rolled_both}
use Rattle.history_laws.proofs.headline.Rolled.{rolled_unfailed, unfailed_move, unfailed_one, unfailed_silent}
use Rattle.history_laws.proofs.headline.Steps.{KeepsSound, failed_stack, runs_sound, step_sound}
use Rattle.step_relation.specs.declared.EngineChange.TheVariants as engine
use Rattle.step_relation.specs.declared.What.TheVariants as what
use Rattle.provider.proofs.Lists.{here}

-- where the mark of a failure stands at the end of what is silent
marked_where : (first p rest : List Entry) (m e : Entry) → AreUnmarking first → ¬ IsUnmarking e.what
    → first ++ m ∷ [] ≡ p ++ e ∷ rest
    → (p ≡ first) × (m ≡ e) × (rest ≡ [])
marked_where first p rest m e silent marks_ is = by (split first (m ∷ []) p rest e is) where
  by : ((r : List Entry) × (first ≡ p ++ e ∷ r) × (rest ≡ r ++ m ∷ [])) ⊎
      ((mid : List Entry) × (m ∷ [] ≡ mid ++ e ∷ rest) × (p ≡ first ++ mid))
      → (p ≡ first) × (m ≡ e) × (rest ≡ [])
  by (inl (r, i, j)) = absurd
      (marks_ (unmarking_at first e silent (subst (λ (y : List Entry). Contains y e) (sym i)
      (Contains-append_right p (e ∷ r) e (here e e r refl)))))
  by (inr ([], i, j)) = (j ∙ append-nil first, cc, cc)
  by (inr (y ∷ [], i, j)) = cc
  by (inr (y ∷ z ∷ zs, i, j)) = cc

head_changed : (xs : List Entry) (a b : Entry) (ys : List Entry) → xs ≡ a ∷ ys → a ≡ b
    → (more : List Entry) × (xs ≡ b ∷ more)
head_changed xs a b ys is same = (ys, is ∙ ap (λ (y : Entry). y ∷ ys) same)

-- what a failed stack's history tells of its rollback
module _ (keeps : KeepsSound) (judges : Judges) (o : Opening) (h : List Entry) (s : StateData) (x : Sound o h s)
    (e : ℕ) (given : Given) (st : Stack) (cs : List Change)
    (es : List Entry) (move : Move s e given (Some st) cs es) (tied : IsTied judges s e given)
    (possible : IsPossible o (h ++ es)) where
  t_sound : Sound o (h ++ es) (applied cs s)
  t_sound = keeps.moves judges o h s e given (Some st) cs es x move tied possible

  k : EndsSo e st es
  k = ends_so s e given st cs es move

  abbrev failed_st : Stack
  failed_st = record st { status = Failed }

  told_ : TellsStack o (h ++ es) (applied cs s) failed_st
  told_ = t_sound.tells.stacks st.name failed_st (failed_stack s e given st cs es move)

  abbrev mark : Entry
  mark = entry_of (Engine e) (what.Mark st.name st.trav st.act (Some k.cause))

  es_are : h ++ es ≡ (h ++ k.first) ++ mark ∷ []
  es_are = ap (λ (y : List Entry). h ++ y) k.entries ∙ sym (append_assoc h k.first (mark ∷ []))

  -- the readings before the mark are those of the state behind it
  asked_there : rollback_of o (h ++ k.first) st.name ≡ true → (past_of (applied cs s) st.name).rollback ≡ true
  asked_there asked_ = sym told_.rollback ∙ (ap (λ (y : List Entry). rollback_of o y st.name) es_are
      ∙ (rollback-append o (h ++ k.first) (mark ∷ []) st.name ∙ asked_))

  -- a rollback is asked for only where the traversal goes forward
  forward_there : rollback_of o (h ++ k.first) st.name ≡ true → IsForward st.act
  forward_there asked_ = by (past_at (applied cs s).pasts st.name) refl (asked_there asked_) where
    by : (found : Option Past) → past_at (applied cs s).pasts st.name ≡ found
        → (past_or st.name found).rollback ≡ true → IsForward st.act
    by None at rolls_ = cc
    by (Some p) at rolls_ = act_of st.act refl where
      here_ : stack_at (applied cs s).stacks st.name ≡ Some failed_st
      here_ = failed_stack s e given st cs es move

      not_back : (st.act ≡ Delete) ⊎ (st.act ≡ Rollback) → ⊥
      not_back act =
          let off = (t_sound.standing.pasts.each st.name p at).forward failed_st
          (subst (λ (n : List ℕ). stack_at (applied cs s).stacks n ≡ Some failed_st)
          (sym (past-key (applied cs s).pasts st.name p at)) here_) act in cc

      act_of : (a : Act) → st.act ≡ a → IsForward a
      act_of Create is = of_create
      act_of Update is = of_update
      act_of Delete is = absurd (not_back (inl is))
      act_of Rollback is = absurd (not_back (inr is))
      act_of Init is = absurd ((t_sound.standing.marks.each st.name failed_st here_).act is)

  plan_there : IsForward st.act → (back_ : PlanData) → IsLast o (h ++ k.first) st.name back_
      → back_ ≡ plan_back (applied cs s) failed_st
  plan_there forward back_ last_ = last_once o (h ++ es) st.name back_ (plan_back (applied cs s) failed_st)
      (subst (λ (y : List Entry). IsLast o y st.name back_) (sym es_are)
      (last_kept o (h ++ k.first) (mark ∷ []) st.name back_
      (passing_failed st.name (Engine e) st.trav st.act k.cause) last_))
      (told_.last (forward_keeps st.act forward))

  rows_there : stored o (h ++ k.first) ≡ (applied cs s).rows
  rows_there = sym (ap (stored o) es_are ∙ stored-append o (h ++ k.first) (mark ∷ [])) ∙ t_sound.tells.rows

  due_there : rollback_of o (h ++ k.first) st.name ≡ true → (back_ : PlanData)
      → IsLast o (h ++ k.first) st.name back_
      → length (stored o (h ++ k.first)) + length back_.items ≤ row_limit → IsDue (applied cs s) st
  due_there asked_ back_ last_ room = record {
    forward = forward_there asked_;
    asked = asked_there asked_;
    room = subst (λ (y : List Row). length y + length (plan_back (applied cs s) failed_st).items ≤ row_limit)
        rows_there
        (subst (λ (y : PlanData). length (stored o (h ++ k.first)) + length y.items ≤ row_limit)
        (plan_there (forward_there asked_) back_ last_) room);
  }

  -- the mark that stands in the entries is this one
  is_mark : (actor : Actor) (stack : List ℕ) (trav : ℕ) (act : Act) (cause : Cause)
      → mark ≡ entry_of actor (what.Mark stack trav act (Some cause))
      → (Engine e ≡ actor) × (st.name ≡ stack) × (st.act ≡ act)
  is_mark actor stack trav act cause is =
      let what_is = ap (λ (y : Entry). y.what) is in
      (ap (λ (y : Entry). y.by) is, cc, cc)

  -- a turn that isn't followed by a rollback was not to be
  pub rolled_plain : ¬ IsDue (applied cs s) st → AllRolled o h es
  rolled_plain undue p q is actor stack trav act cause back_ rest q_is asked_ last_ room =
      let (p_is, mark_is, rest_is) = marked_where k.first p rest mark
      (entry_of actor (what.Mark stack trav act (Some cause))) k.silent (λ u. u)
      (sym k.entries ∙ (is ∙ ap (λ (y : List Entry). p ++ y) q_is)) in
      let (actor_is, name_is, act_is) = is_mark actor stack trav act cause mark_is in
      absurd (undue (due_there
      (subst (λ (y : List Entry). rollback_of o (h ++ y) st.name ≡ true) p_is
      (subst (λ (n : List ℕ). rollback_of o (h ++ p) n ≡ true) (sym name_is) asked_)) back_
      (subst (λ (y : List Entry). IsLast o (h ++ y) st.name back_) p_is
      (subst (λ (n : List ℕ). IsLast o (h ++ p) n back_) (sym name_is) last_))
      (subst (λ (y : List Entry). length (stored o (h ++ y)) + length back_.items ≤ row_limit) p_is room)))

  -- one that is followed by it has its command behind the mark
  pub rolled_follows : (last_ : List Change) (lasts_ : List Entry) → FollowsFailure (applied cs s) e st last_ lasts_
      → AllRolled o h (es ++ lasts_)
  rolled_follows last_ lasts_ f p q is actor stack trav act cause back_ rest q_is asked_ last_is room =
      by (split es lasts_ p rest (entry_of actor (what.Mark stack trav act (Some cause)))
      (is ∙ ap (λ (y : List Entry). p ++ y) q_is)) where
        failed_is : f.failed ≡ failed_st
        failed_is = same_some f.failed failed_st f.is (failed_stack s e given st cs es move)

        unfailed_lasts : IsUnfailed lasts_
        unfailed_lasts = subst IsUnfailed (sym f.entries) (laid_unfailed (applied cs s) f.failed.name
            (plan_back (applied cs s) f.failed).items (rollback_sets (applied cs s) f.failed (Engine e)) f.lays)

        by : ((r : List Entry) × (es ≡ p ++ entry_of actor (what.Mark stack trav act (Some cause)) ∷ r) ×
            (rest ≡ r ++ lasts_))
            ⊎ ((m : List Entry) × (lasts_ ≡ m ++ entry_of actor (what.Mark stack trav act (Some cause)) ∷ rest) ×
            (p ≡ es ++ m))
            → (next : ℕ) × (more : List Entry) × (rest ≡ entry_of actor
            (what.Command stack next Rollback (Some back_) false) ∷ more)
        by (inr (m, lasts_are, p_is)) = absurd (unfailed_lasts (entry_of actor (what.Mark stack trav act (Some cause)))
            (subst (λ (y : List Entry). Contains y (entry_of actor (what.Mark stack trav act (Some cause))))
            (sym lasts_are)
            (Contains-append_right m _ _ (here (entry_of actor (what.Mark stack trav act (Some cause)))
            (entry_of actor (what.Mark stack trav act (Some cause))) rest refl))) stack trav act cause refl)
        by (inl (r, es_is, rest_is)) =
            let (p_is, mark_is, r_is) = marked_where k.first p r mark
            (entry_of actor (what.Mark stack trav act (Some cause))) k.silent (λ u. u) (sym k.entries ∙ es_is) in
            let (actor_is, name_is, act_is) = is_mark actor stack trav act cause mark_is in
            let plan_is : back_ ≡ plan_back (applied cs s) failed_st =
            plan_there (forward_there (subst (λ (y : List Entry). rollback_of o (h ++ y) st.name ≡ true) p_is
            (subst (λ (n : List ℕ). rollback_of o (h ++ p) n ≡ true) (sym name_is) asked_))) back_
            (subst (λ (y : List Entry). IsLast o (h ++ y) st.name back_) p_is
            (subst (λ (n : List ℕ). IsLast o (h ++ p) n back_) (sym name_is) last_is)) in
            let plan_failed_ : plan_back (applied cs s) f.failed ≡ back_ = ap (plan_back (applied cs s)) failed_is
            ∙ sym plan_is in
            let command_is : entry_of (Engine e) (what.Command f.failed.name (applied cs s).next.trav Rollback
            (Some (plan_back (applied cs s) f.failed)) false)
            ≡ entry_of actor (what.Command stack (applied cs s).next.trav Rollback (Some back_) false) =
            same_command (Engine e) actor f.failed.name stack (plan_back (applied cs s) f.failed) back_ actor_is
            (f.its_name ∙ name_is) plan_failed_ in
            let (more, lasts_is) = head_changed lasts_ _ _ _ f.entries command_is in
            ((applied cs s).next.trav, more, rest_is ∙ (ap (λ (y : List Entry). y ++ lasts_) r_is ∙ lasts_is)) where
              same_command : (a b : Actor) (n m : List ℕ) (u v : PlanData) → a ≡ b → n ≡ m → u ≡ v
                  → entry_of a (what.Command n (applied cs s).next.trav Rollback (Some u) false) ≡ entry_of b
                  (what.Command m (applied cs s).next.trav Rollback (Some v) false)
              same_command a b n m u v i j l = rw (i, j, l) refl

pub rolled_turn : (keeps : KeepsSound) (judges : Judges) (o : Opening) (h : List Entry) (s : StateData)
    (x : Sound o h s) (e : ℕ) (given : Given) (cs : List Change) (es : List Entry)
    → Turn s e given cs es → IsTied judges s e given → IsPossible o (h ++ es) → AllRolled o h es
rolled_turn keeps judges o h s x e given cs es (plain _ move unfailed) tied possible =
    rolled_unfailed o h es (unfailed_move s e given cs es move)
rolled_turn keeps judges o h s x e given cs es (plain _ move (stays st undue)) tied possible =
    rolled_plain keeps judges o h s x e given st cs es move tied possible undue
rolled_turn keeps judges o h s x e given cs es (rolls st first last_ firsts lasts_ move due follows_ c d) tied
    possible =
    subst (AllRolled o h) (sym d)
    (rolled_follows keeps judges o h s x e given st first firsts move tied
    (possible_before o (h ++ firsts) lasts_ (subst (λ (z : List Entry). IsPossible o z)
    (ap (λ (z : List Entry). h ++ z) d ∙ sym (append_assoc h firsts lasts_)) possible))
    last_ lasts_ follows_)

command_unfailed : (s : StateData) (cs : List Change) (es : List Entry) → Command s cs es → IsUnfailed es
command_unfailed s cs es (create name plan rb k proper_ none few room c d) =
    subst IsUnfailed (sym d) (laid_unfailed s name plan.items (create_sets s name plan rb) k)
command_unfailed s cs es (update st plan rb k proper_ found ne room c d) =
    subst IsUnfailed (sym d) (laid_unfailed s st.name plan.items (update_sets s st plan rb) k)
command_unfailed s cs es (delete st k found c d) = subst IsUnfailed (sym d)
    (laid_unfailed s st.name [] (delete_sets s st) k)
command_unfailed s cs es (cancel st k found forward progress room c d) =
    subst IsUnfailed (sym d) (laid_unfailed s st.name (plan_back s st).items (rollback_sets s st Main) k)

note_unmarking : (it : What) → IsNote it → IsUnmarking it
note_unmarking _ (shows it stack) = tt
note_unmarking _ (notes line code path) = tt
note_unmarking _ (ran idle turns) = tt
note_unmarking _ (turned e lost) = tt
note_unmarking _ (previews stack forecast) = tt

pub rolled_step : (keeps : KeepsSound) (judges : Judges) (o : Opening) (h : List Entry) (s : StateData)
    (x : Sound o h s) (cs : List Change) (es : List Entry) (step : Step s cs es)
    → IsTiedStep judges s cs es step → IsPossible o (h ++ es) → AllRolled o h es
rolled_step keeps judges o h s x cs es (command it fits_) tied possible =
    rolled_unfailed o h es (command_unfailed s cs es it)
rolled_step keeps judges o h s x cs es (turn e given it fits_) tied possible =
    rolled_turn keeps judges o h s x e given cs es it tied possible
rolled_step keeps judges o h s x cs es (unstored e given lost all call it some fits_ first is made) tied possible =
    rolled_unfailed o h es
    (subst IsUnfailed (sym made) (unfailed_one call (λ a b c d i. let eq = sym first.is_call.3 ∙ i in cc)))
rolled_step keeps judges o h s x cs es (stop e live is made) tied possible =
    rolled_unfailed o h es
    (subst IsUnfailed (sym made) (unfailed_one (entry_of Main (what.Engine (engine.Stop e))) (λ a b c d i. cc)))
rolled_step keeps judges o h s x cs es (enlist few below is made) tied possible =
    rolled_unfailed o h es
    (subst IsUnfailed (sym made) (unfailed_one (entry_of Main (what.Engine (engine.Start s.next.engine)))
    (λ a b c d i. cc)))
rolled_step keeps judges o h s x cs es (restart count some few below is made) tied possible =
    rolled_unfailed o h es
    (subst IsUnfailed (sym made) (unfailed_one (entry_of Main (what.Engine (engine.Restart s.next.engine count)))
    (λ a b c d i. cc)))
rolled_step keeps judges o h s x cs es (note it noted is made) tied possible =
    rolled_unfailed o h es
    (subst IsUnfailed (sym made) (unfailed_silent (entry_of Main it ∷ []) (note_unmarking it noted, tt)))
rolled_step keeps judges o h s x cs es (close is made) tied possible =
    rolled_unfailed o h es (subst IsUnfailed (sym made) (unfailed_one (entry_of Main what.Closed) (λ a b c d i. cc)))

pub run_rolled : KeepsSound → (registries : List Judges) (o : Opening) (s : StateData) (h : List Entry)
    → Sound o [] o.state → Run registries o.state s h → IsPossible o h
    → AllRolled o [] h
run_rolled keeps registries o _ _ first (begins last_ all is none) possible =
    subst (AllRolled o []) (sym none) (rolled_unfailed o [] [] (λ c among. absurd (none_in c among)))
run_rolled keeps registries o _ _ first
    (goes_on judges mid last_ cs before behind all run step among tied closes is made)
    possible =
    let possible_all = subst (IsPossible o) made possible in
    let possible_mid = possible_before o before behind possible_all in
    let mid_sound = runs_sound (step_sound keeps) registries o mid before first run possible_mid in
    subst (AllRolled o []) (sym made)
    (rolled_both o before behind (run_rolled keeps registries o mid before first run possible_mid)
    (rolled_step keeps judges o before mid mid_sound cs behind step tied possible_all))
