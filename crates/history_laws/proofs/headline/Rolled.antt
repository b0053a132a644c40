-- A failure is rolled back where it was asked for.
use Rattle.std.proofs.Common.{List, ap, false, inl, inr, refl, subst, sym, true, ◌∙◌}
use Rattle.std.proofs.lemmas.List.Elements.{Contains-append_cases, Contains-append_right}
use Rattle.std.specs.Prelude.{Contains, List, None, Some, [], length, map, ℕ, ◌++◌, ◌+◌, ◌∷◌, ◌≡◌, ◌≢◌, ◌≤◌, ◌⊎◌}
use Rattle.heat_plan.specs.declared.item.Item.{Item}
use Rattle.heat_plan.specs.declared.phase.Act.{Act}
use Rattle.heat_plan.specs.declared.phase.Act.TheVariants.{Rollback}
use Rattle.heat_plan.specs.declared.phase.Status.TheVariants.{InProgress}
use Rattle.traversal_graph.specs.declared.shape.Node.{Node}
use Rattle.step_relation.specs.State.{StateData}
use Rattle.step_relation.specs.declared.Change.{Change}
use Rattle.step_relation.specs.declared.Actor.{Actor}
use Rattle.step_relation.specs.declared.Actor.TheVariants.{Engine}
use Rattle.step_relation.specs.declared.Cause.{Cause}
use Rattle.step_relation.specs.declared.Entry.{Entry}
use Rattle.step_relation.specs.declared.MailWrite.{MailWrite}
use Rattle.step_relation.specs.declared.MailWrite.TheVariants.{Dropped, Ended, Held, Sent}
use Rattle.step_relation.specs.declared.RowWrite.{RowWrite}
use Rattle.step_relation.specs.declared.RowWrite.TheVariants.{Set}
use Rattle.step_relation.specs.declared.Stack.{Stack}
use Rattle.step_relation.specs.Asks.{cause_at, failed_entries, fault_of}
use Rattle.step_relation.specs.Begins.{left_entries}
use Rattle.step_relation.specs.Commands.{Lays, Sets, first_letters, laid_entries, settled_mark, stack_set}
use Rattle.step_relation.specs.Finishes.{ready_letters}
use Rattle.step_relation.specs.Given.{Given}
use Rattle.step_relation.specs.Moves.{Move, ask_begun, ask_failed, begin_failed, begin_faulted, begin_in_place}
use Rattle.step_relation.specs.Moves.{begin_init, begin_overrun, begin_replaced, begin_resumed, begin_same}
use Rattle.step_relation.specs.Moves.{clean_deleted, clean_gone, clean_init, clean_kept, clean_retained, clean_stuck}
use Rattle.step_relation.specs.Moves.{finish, finish_last, finish_overrun, poll_failed, poll_gone, poll_ready}
use Rattle.step_relation.specs.Moves.{poll_waits, take_dropped, take_free, take_stolen, takeover_fresh}
use Rattle.step_relation.specs.Moves.{takeover_overrun}
use Rattle.step_relation.specs.Orders.{row_limit}
use Rattle.step_relation.specs.Takes.{relayed_letter, taken_job}
use Rattle.step_relation.specs.Writes.{call_entry, complete_mark, entry_of, lock_writes, mail_entry, rows_entry}
use Rattle.step_relation.specs.Writes.{unlock_writes}
use Rattle.step_relation.specs.Last.{IsLast}
use Rattle.step_relation.specs.Newest.{rollback_of}
use Rattle.step_relation.specs.Opening.{Opening}
use Rattle.step_relation.specs.Stored.{stored}
use Rattle.step_relation.specs.Headline.{IsRolledBack}
use Rattle.history_laws.proofs.tells.Lasts.{split, unmarking_at}
use Rattle.history_laws.proofs.tells.Silence.{AreUnmarking, IsUnmarking, unmarking-both, unmarking_mail, unmarking_rows}
use Rattle.history_laws.proofs.agrees.Called.{only}
use Rattle.step_relation.specs.declared.What.TheVariants as what
use Rattle.provider.proofs.Lists.{here}

-- no entry marks a failure
abbrev pub IsUnfailed : List Entry → Type 0
IsUnfailed es = (c : Entry) → Contains es c → (stack : List ℕ) (trav : ℕ) (act : Act) (cause : Cause)
    → c.what ≢ what.Mark stack trav act (Some cause)

pub unfailed_silent : (es : List Entry) → AreUnmarking es → IsUnfailed es
unfailed_silent es silent c among stack trav act cause is = subst IsUnmarking is (unmarking_at es c silent among)

unfailed_both : (es fs : List Entry) → IsUnfailed es → IsUnfailed fs → IsUnfailed (es ++ fs)
unfailed_both es fs a b c among stack trav act cause is = elim (Contains-append_cases es fs c among) [
  | inl was ↦ a c was stack trav act cause is
  | inr new ↦ b c new stack trav act cause is
]

pub unfailed_one : (e : Entry) → ((stack : List ℕ) (trav : ℕ) (act : Act) (cause : Cause)
    → e.what ≢ what.Mark stack trav act (Some cause)) → IsUnfailed (e ∷ [])
unfailed_one e none c among stack trav act cause is = none stack trav act cause
    (ap (λ (y : Entry). y.what) (sym (only e c among)) ∙ is)

written_silent : (actor : Actor) (rs : List RowWrite) (ws : List MailWrite)
    → AreUnmarking (rows_entry actor rs ++ mail_entry actor ws)
written_silent actor rs ws = unmarking-both (rows_entry actor rs) (mail_entry actor ws) (unmarking_rows actor rs)
    (unmarking_mail actor ws)

pub laid_unfailed : (s : StateData) (name : List ℕ) (items : List Item) (it : Sets) (k : Lays s name items)
    → IsUnfailed (laid_entries s name items it k)
laid_unfailed s name items it k = unfailed_both (entry_of it.actor
    (what.Command name s.next.trav it.act it.plan it.past.rollback) ∷ []) rest (unfailed_one _ (λ a b c d i. cc))
    (unfailed_both (rows_entry it.actor (map Set k.rows)) _ (unfailed_silent _
    (unmarking_rows it.actor (map Set k.rows)))
    (unfailed_both (mail_entry it.actor (map Sent (first_letters s name items it k))) _
    (unfailed_silent _ (unmarking_mail it.actor (map Sent (first_letters s name items it k))))
    (settled k.graph.nodes))) where
      rest : List Entry
      rest = rows_entry it.actor (map Set k.rows) ++ (mail_entry it.actor
          (map Sent (first_letters s name items it k)) ++ settled_mark k.graph.nodes s name it)

      settled : (nodes : List Node) → IsUnfailed (settled_mark nodes s name it)
      settled [] = unfailed_one (complete_mark it.actor (stack_set s name it InProgress)) (λ a b c d i. cc)
      settled (node ∷ nodes) = unfailed_silent [] tt

silent_es : (es told_ : List Entry) → es ≡ told_ → AreUnmarking told_ → IsUnfailed es
silent_es es told_ is silent = subst IsUnfailed (sym is) (unfailed_silent told_ silent)

-- a move that marks no failure
pub unfailed_move : (s : StateData) (e : ℕ) (given : Given) (cs : List Change) (es : List Entry)
    → Move s e given None cs es → IsUnfailed es
unfailed_move s e _ cs es (take_dropped l _ _ next idle c d) = silent_es es _ d (tt, tt)
unfailed_move s e _ cs es (take_free w _ _ free c d) = silent_es es _ d
    (written_silent (Engine e) (lock_writes w.meant.fresh.row e) (Dropped w.letter.no ∷ Held (taken_job s e w) ∷ []))
unfailed_move s e _ cs es (take_stolen w f j _ _ held stopped c d) =
    silent_es es _ d (written_silent (Engine e) (lock_writes w.meant.fresh.row e)
    (Dropped w.letter.no ∷ Ended f ∷ Held (taken_job s e w) ∷ []))
unfailed_move s e _ cs es (begin_overrun j _ _ own w c d) = silent_es es _ d
    (written_silent (Engine e) (unlock_writes w.row) (Ended e ∷ map Sent w.letters))
unfailed_move s e _ cs es (begin_faulted w code path _ _ _ falls c d) = silent_es es _ d (tt, (tt, tt))
unfailed_move s e _ cs es (begin_init w props effect _ _ init c d) = silent_es es _ d (tt, (tt, tt))
unfailed_move s e _ cs es (begin_same w props effect _ _ begun_ status same c d) = silent_es es _ d (tt, (tt, tt))
unfailed_move s e _ cs es (begin_in_place w props effect _ _ begun_ status soft c d) = silent_es es _ d (tt, (tt, tt))
unfailed_move s e _ cs es (begin_resumed w props effect _ _ begun_ status trav c d) = silent_es es _ d (tt, tt)
unfailed_move s e _ cs es (begin_failed w props effect _ _ begun_ status trav c d) = silent_es es _ d (tt, (tt, tt))
unfailed_move s e _ cs es (begin_replaced w props effect _ _ begun_ must c d) = silent_es es _ d (tt, (tt, tt))
unfailed_move s e _ cs es (clean_gone w _ _ none c d) = silent_es es _ d (tt, tt)
unfailed_move s e _ cs es (clean_kept w r _ _ found keeps_ c d) = silent_es es _ d (tt, tt)
unfailed_move s e _ cs es (clean_init w r _ _ found keeps_ init c d) = silent_es es _ d (tt, (tt, tt))
unfailed_move s e _ cs es (clean_stuck w r _ _ found keeps_ stuck c d) = silent_es es _ d (tt, (tt, tt))
unfailed_move s e _ cs es (clean_retained w r _ _ found keeps_ begun_ stuck policy c d) =
    silent_es es _ d (tt, (tt, (tt, tt)))
unfailed_move s e _ cs es (clean_deleted w r _ _ found keeps_ begun_ stuck policy c d) =
    silent_es es _ d (tt, (tt, tt))
unfailed_move s e _ cs es (ask_begun w asked _ _ asks_ c d) = silent_es es _ d (tt, (tt, tt))
unfailed_move s e _ cs es (ask_failed w asked given reason letters _ _ _ asks_ refuses falls c d) =
    silent_es es _ d (tt, (tt, (tt, tt)))
unfailed_move s e _ cs es (poll_waits w asked _ _ polls_ c d) = silent_es es _ d (tt, tt)
unfailed_move s e _ cs es (poll_ready w facts _ _ ne c d) = silent_es es _ d (tt, (tt, (tt, tt)))
unfailed_move s e _ cs es (poll_gone w _ _ act c d) = silent_es es _ d (tt, (tt, (tt, tt)))
unfailed_move s e _ cs es (poll_failed w asked given reason letters _ _ _ polls_ refuses falls c d) =
    silent_es es _ d (tt, (tt, (tt, tt)))
unfailed_move s e _ cs es (finish_overrun j _ _ own w c d) =
    silent_es es _ d (written_silent (Engine e) (unlock_writes w.row) (Ended e ∷ map Sent w.letters))
unfailed_move s e _ cs es (finish w _ _ open_ c d) = silent_es es _ d
    (written_silent (Engine e) (unlock_writes w.fresh.row) (Ended e ∷ map Sent (ready_letters s e w)))
unfailed_move s e _ cs es (finish_last w _ _ settles c d) = subst IsUnfailed (sym d)
    (unfailed_both (rows_entry (Engine e) (unlock_writes w.fresh.row)) _
    (unfailed_silent _ (unmarking_rows (Engine e) (unlock_writes w.fresh.row)))
    (unfailed_both (mail_entry (Engine e) (Ended e ∷ map Sent (ready_letters s e w)))
    (complete_mark (Engine e) w.fresh.stack ∷ [])
    (unfailed_silent (mail_entry (Engine e) (Ended e ∷ map Sent (ready_letters s e w))) (tt, tt))
    (unfailed_one (complete_mark (Engine e) w.fresh.stack) (λ a b c_ d_ i. cc))))
unfailed_move s e _ cs es (takeover_overrun f j _ _ over w c d) =
    silent_es es _ d (written_silent (Engine e) (unlock_writes w.row) (Ended f ∷ map Sent w.letters))
unfailed_move s e _ cs es (takeover_fresh f w _ _ c d) = silent_es es _ d
    (written_silent (Engine e) (unlock_writes w.fresh.row) (Ended f ∷ map Sent (relayed_letter s e f w ∷ [])))

-- a move that marks a failure ends with it
pub record EndsSo (e : ℕ) (st : Stack) (es : List Entry) : Type 0 where
  pub first : List Entry
  pub cause : Cause
  pub silent : AreUnmarking first
  pub entries : es ≡ first ++ entry_of (Engine e) (what.Mark st.name st.trav st.act (Some cause)) ∷ []

pub ends_so : (s : StateData) (e : ℕ) (given : Given) (st : Stack) (cs : List Change) (es : List Entry)
    → Move s e given (Some st) cs es → EndsSo e st es
ends_so s e _ st cs es (begin_faulted k code path _ _ _ falls c d) =
    record {
      first = left_entries e k.row;
      cause = fault_of k.item.name k.row.no code path;
      silent =
          (tt, (tt, tt));
      entries = d;
    }
ends_so s e _ st cs es (ask_failed k asked given reason letters _ _ _ asks_ refuses falls c d) =
    record {
      first = call_entry e k.row asked given ∷ failed_entries e k.row letters None reason;
      cause =
          cause_at k.row reason;
      silent = (tt, (tt, (tt, tt)));
      entries = d;
    }
ends_so s e _ st cs es (poll_failed k asked given reason letters _ _ _ polls_ refuses falls c d) =
    record {
      first = call_entry e k.row asked given ∷ failed_entries e k.row letters None reason;
      cause =
          cause_at k.row reason;
      silent = (tt, (tt, (tt, tt)));
      entries = d;
    }

-- of every split of these entries
abbrev pub AllRolled : Opening → List Entry → List Entry → Type 0
AllRolled o h es = (p q : List Entry) → es ≡ p ++ q → IsRolledBack o (h ++ p) q

pub rolled_unfailed : (o : Opening) (h es : List Entry) → IsUnfailed es → AllRolled o h es
rolled_unfailed o h es none p q is actor stack trav act cause back_ rest q_is =
    λ asked_ last_ room. absurd (none (entry_of actor (what.Mark stack trav act (Some cause)))
    (subst (λ (y : List Entry). Contains y (entry_of actor (what.Mark stack trav act (Some cause)))) (sym is)
    (Contains-append_right p q _
    (subst (λ (y : List Entry). Contains y (entry_of actor (what.Mark stack trav act (Some cause))))
    (sym q_is)
    (here (entry_of actor (what.Mark stack trav act (Some cause)))
    (entry_of actor (what.Mark stack trav act (Some cause))) rest refl)))) stack trav act cause refl)

pub rolled_both : (o : Opening) (es fs : List Entry) → AllRolled o [] es → AllRolled o es fs
    → AllRolled o [] (es ++ fs)
rolled_both o es fs a b p q is actor stack trav act cause back_ rest q_is asked_ last_ room =
    by (split es fs p rest (entry_of actor (what.Mark stack trav act (Some cause)))
    (is ∙ ap (λ (y : List Entry). p ++ y) q_is)) where
      by : ((r : List Entry) × (es ≡ p ++ entry_of actor (what.Mark stack trav act (Some cause)) ∷ r) ×
          (rest ≡ r ++ fs))
          ⊎ ((m : List Entry) × (fs ≡ m ++ entry_of actor (what.Mark stack trav act (Some cause)) ∷ rest) ×
          (p ≡ es ++ m))
          → (next : ℕ) × (more : List Entry) × (rest ≡ entry_of actor
          (what.Command stack next Rollback (Some back_) false) ∷ more)
      by (inl (r, es_is, rest_is)) =
          let (next, more, r_is) = a p (entry_of actor (what.Mark stack trav act (Some cause)) ∷ r) es_is actor stack
          trav
          act cause back_ r refl asked_ last_ room in
          (next, more ++ fs, rest_is ∙ ap (λ (y : List Entry). y ++ fs) r_is)
      by (inr (m, fs_is, p_is)) =
          b m (entry_of actor (what.Mark stack trav act (Some cause)) ∷ rest) fs_is actor stack trav act cause back_
          rest
          refl
          (subst (λ (y : List Entry). rollback_of o y stack ≡ true) p_is asked_)
          (subst (λ (y : List Entry). IsLast o y stack back_) p_is last_)
          (subst (λ (y : List Entry). length (stored o y) + length back_.items ≤ row_limit) p_is room)
