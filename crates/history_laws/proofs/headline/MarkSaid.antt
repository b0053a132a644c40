-- What a mark says: it is of the newest traversal, which had none, and is caused.
use Rattle.std.proofs.Common.{List, ap, refl, subst, sym, ◌∙◌}
use Rattle.std.specs.Prelude.{Contains, List, None, Option, Some, [], option_map, ℕ, ◌++◌, ◌∷◌, ◌≡◌, ◌≢◌}
use Rattle.heat_plan.specs.declared.phase.Act.{Act}
use Rattle.heat_plan.specs.declared.phase.Status.TheVariants.{InProgress}
use Rattle.heat_plan.specs.declared.token.Token.{Token}
use Rattle.step_relation.specs.State.{StateData, stack_at}
use Rattle.step_relation.specs.declared.Actor.{Actor}
use Rattle.step_relation.specs.declared.Cause.{Cause}
use Rattle.step_relation.specs.declared.Entry.{Entry}
use Rattle.step_relation.specs.declared.Stack.{Stack}
use Rattle.step_relation.specs.Freshness.{plan_of}
use Rattle.step_relation.specs.Writes.{complete_mark, entry_of}
use Rattle.step_relation.specs.Caused.{IsCaused}
use Rattle.step_relation.specs.Fits.{Fits}
use Rattle.step_relation.specs.Marked.{Completed, FailedFor, Mark, Marked, Unmarked, mark_of, marked_of}
use Rattle.step_relation.specs.Newest.{Latest, latest_of, newest}
use Rattle.step_relation.specs.Opening.{Opening}
use Rattle.step_relation.specs.Headline.{AtPrefix, FitsIn, IsOfNewest}
use Rattle.step_relation.specs.Sound.{Sound}
use Rattle.step_relation.specs.Tells.{TellsStack, status_by}
use Rattle.history_laws.proofs.tells.Appends.{marked-append, newest-append, released-append}
use Rattle.history_laws.proofs.tells.Marks.{marked_own}
use Rattle.history_laws.proofs.tells.Silence.{AreUnmarking, could-silent, marked-silent, newest-silent}
use Rattle.history_laws.proofs.headline.Said.{fits_on}
use Rattle.step_relation.specs.declared.What.TheVariants as what

unmarked_of : (m : Mark) → status_by m ≡ InProgress → m ≡ Unmarked
unmarked_of Unmarked e = refl
unmarked_of Completed e = cc
unmarked_of (FailedFor cause) e = cc

-- the mark of a traversal that is the newest and has none, where what fits behind it is told
pub completing_fits : (o : Opening) (g : List Entry) (st : Stack) (actor : Actor)
    → newest o g st.name ≡ Some (latest_of st)
    → (m : Marked) → marked_of o g st.name ≡ Some m → m.trav ≡ st.trav → m.mark ≡ Unmarked
    → AtPrefix o (g ++ complete_mark actor st ∷ [])
    → FitsIn o g (complete_mark actor st)
completing_fits o g st actor newest_st m marked_st trav_is unmarked_ at_end_ = record {
  marks = marks_;
  completes = completes_;
  causes = λ stack trav act c is. cc;
  quiet = λ token request given is. cc;
  asked = λ token request given is. cc;
  rolls = λ stack trav plan rollback is. cc;
  follows = λ engine_ stack trav act plan rollback is. let w = ap (λ (y : Entry). y.what) is in cc;
  releases = λ token is. cc;
} where
  subst_mark : (a b : List ℕ) (n l : ℕ) (u v : Act) → a ≡ b → n ≡ l → u ≡ v → IsOfNewest o g a n u
      → IsOfNewest o g b l v
  subst_mark a b n l u v e f i k = subst (λ (y : List ℕ). IsOfNewest o g y l v) e
      (subst (λ (y : ℕ). IsOfNewest o g a y v) f (subst (λ (y : Act). IsOfNewest o g a n y) i k))

  own : IsOfNewest o g st.name st.trav st.act
  own = record {
    it = latest_of st;
    is_newest = newest_st;
    same = refl;
    same_act = refl;
    unmarked = ap (option_map (λ (y : Marked). y.mark)) marked_st ∙ ap Some unmarked_;
  }

  marks_ : (stack : List ℕ) (trav : ℕ) (act : Act) (c : Option Cause)
      → what.Mark st.name st.trav st.act None ≡ what.Mark stack trav act c
      → IsOfNewest o g stack trav act
  marks_ stack trav act c is = subst_mark st.name stack st.trav trav st.act act (cc) (cc) (cc) own

  completes_ : (stack : List ℕ) (trav : ℕ) (act : Act) (it : Latest)
      → what.Mark st.name st.trav st.act None ≡ what.Mark stack trav act None
      → newest o g stack ≡ Some it → Fits o g stack (plan_of it.plan)
  completes_ stack trav act it is newest_is =
      let name_is : st.name ≡ stack = cc in
      let mark_then : mark_of o (g ++ complete_mark actor st ∷ []) st.name ≡ Some Completed =
      ap (option_map (λ (y : Marked). y.mark)) (marked-append o g (complete_mark actor st ∷ []) st.name
      ∙ marked_own st.name st.trav st.act None (marked_of o g st.name) m marked_st trav_is) in
      fits_on o stack (g ++ complete_mark actor st ∷ []) g (record {
        could = λ t own_. sym (could-silent o g (complete_mark actor st ∷ []) t (tt, tt));
        forth = λ t own_ c. subst (λ (ts : List Token). Contains ts t)
            (released-append o g (complete_mark actor st ∷ [])) c;
        back = λ t own_ c. subst (λ (ts : List Token). Contains ts t)
            (sym (released-append o g (complete_mark actor st ∷ []))) c;
      }) (plan_of it.plan)
      (at_end_.complete stack it (newest-append o g (complete_mark actor st ∷ []) stack ∙ newest_is)
      (subst (λ (y : List ℕ). mark_of o (g ++ complete_mark actor st ∷ []) y ≡ Some Completed) name_is mark_then))

module _ (o : Opening) (h : List Entry) (s : StateData) (x : Sound o h s) (st : Stack)
    (found : stack_at s.stacks st.name ≡ Some st) (progress : st.status ≡ InProgress) where
  told_ : TellsStack o h s st
  told_ = x.tells.stacks st.name st found

  pub still_unmarked : (first : List Entry) → AreUnmarking first → mark_of o (h ++ first) st.name ≡ Some Unmarked
  still_unmarked first silent =
      ap (option_map (λ (y : Marked). y.mark)) (marked-silent o h first st.name silent ∙ told_.is_marked)
      ∙ ap Some (unmarked_of told_.marked.mark (told_.status ∙ progress))

  pub of_newest : (first : List Entry) → AreUnmarking first → IsOfNewest o (h ++ first) st.name st.trav st.act
  of_newest first silent = record {
    it = latest_of st;
    is_newest = newest-silent o h first st.name silent ∙ told_.traversal;
    same = refl;
    same_act = refl;
    unmarked = still_unmarked first silent;
  }

  pub not_completed : (first : List Entry) → AreUnmarking first → mark_of o (h ++ first) st.name ≢ Some Completed
  not_completed first silent is = let u = still_unmarked first silent in let e = sym u ∙ is in cc

  pub failed_fits : (first : List Entry) (actor : Actor) (cause : Cause) → AreUnmarking first
      → IsCaused o (h ++ first) actor st.name cause
      → FitsIn o (h ++ first) (entry_of actor (what.Mark st.name st.trav st.act (Some cause)))
  failed_fits first actor cause silent caused = record {
    marks = marks_;
    completes = λ stack trav act it is. cc;
    causes = causes_;
    quiet = λ token request given is. cc;
    asked = λ token request given is. cc;
    rolls = λ stack trav plan rollback is. cc;
    follows = λ engine_ stack trav act plan rollback is. let w = ap (λ (y : Entry). y.what) is in cc;
    releases = λ token is. cc;
  } where
    marks_ : (stack : List ℕ) (trav : ℕ) (act : Act) (c : Option Cause)
        → what.Mark st.name st.trav st.act (Some cause) ≡ what.Mark stack trav act c
        → IsOfNewest o (h ++ first) stack trav act
    marks_ stack trav act c is = subst_mark st.name stack st.trav trav st.act act (cc) (cc) (cc)
        (of_newest first silent) where
          subst_mark : (a b : List ℕ) (n m : ℕ) (u v : Act) → a ≡ b → n ≡ m → u ≡ v → IsOfNewest o (h ++ first) a n u
              → IsOfNewest o (h ++ first) b m v
          subst_mark a b n m u v e f g k = subst (λ (y : List ℕ). IsOfNewest o (h ++ first) y m v) e
              (subst (λ (y : ℕ). IsOfNewest o (h ++ first) a y v) f
              (subst (λ (y : Act). IsOfNewest o (h ++ first) a n y) g k))

    causes_ : (stack : List ℕ) (trav : ℕ) (act : Act) (c : Cause)
        → what.Mark st.name st.trav st.act (Some cause) ≡ what.Mark stack trav act (Some c)
        → IsCaused o (h ++ first) actor stack c
    causes_ stack trav act c is =
        let name_is : st.name ≡ stack = cc in
        let cause_is : cause ≡ c = cc in
        subst (λ (y : List ℕ). IsCaused o (h ++ first) actor y c) name_is
        (subst (λ (y : Cause). IsCaused o (h ++ first) actor st.name y) cause_is caused)

  pub completed_fits : (first : List Entry) (actor : Actor) → AreUnmarking first
      → AtPrefix o ((h ++ first) ++ complete_mark actor st ∷ [])
      → FitsIn o (h ++ first) (complete_mark actor st)
  completed_fits first actor silent at_end_ = completing_fits o (h ++ first) st actor
      (newest-silent o h first st.name silent ∙ told_.traversal)
      told_.marked (marked-silent o h first st.name silent ∙ told_.is_marked) told_.trav
      (unmarked_of told_.marked.mark (told_.status ∙ progress)) at_end_
