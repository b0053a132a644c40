-- What the entries of each step say, and so those of each run.
use Rattle.std.proofs.Common.{List, ap, append-nil, append_assoc, subst, sym, ◌∙◌}
use Rattle.std.specs.Prelude.{List, None, Option, Some, [], ℕ, ◌++◌, ◌∷◌, ◌≡◌}
use Rattle.step_relation.specs.Changes.{applied}
use Rattle.step_relation.specs.State.{StateData}
use Rattle.step_relation.specs.declared.Change.{Change}
use Rattle.step_relation.specs.declared.Actor.{Actor}
use Rattle.step_relation.specs.declared.Actor.TheVariants.{Engine, Main}
use Rattle.step_relation.specs.declared.Cause.{Cause}
use Rattle.step_relation.specs.declared.Entry.{Entry}
use Rattle.step_relation.specs.declared.What.{What}
use Rattle.step_relation.specs.declared.Stack.{Stack}
use Rattle.step_relation.specs.Asks.{cause_at, failed_entries, fault_of}
use Rattle.step_relation.specs.Begins.{left_entries}
use Rattle.step_relation.specs.Given.{Answer, Given}
use Rattle.step_relation.specs.Moves.{Move, ask_failed, begin_faulted, poll_failed}
use Rattle.step_relation.specs.Orders.{Command, cancel, create, create_sets, delete, delete_sets, plan_back}
use Rattle.step_relation.specs.Orders.{rollback_sets, update, update_sets}
use Rattle.step_relation.specs.Runs.{IsTied, IsTiedStep, Judges, Run, begins, goes_on}
use Rattle.step_relation.specs.Steps.{BeginsWithCall, IsNote, Step, close, command, enlist, note, notes, ran, restart}
use Rattle.step_relation.specs.Steps.{previews, shows, stop, turn, turned, unstored}
use Rattle.step_relation.specs.Turns.{Turn, plain, rolls}
use Rattle.step_relation.specs.Writes.{call_entry, entry_of}
use Rattle.step_relation.specs.Could.{IsPossible}
use Rattle.step_relation.specs.Opening.{Opening}
use Rattle.step_relation.specs.Groups.{creates, deletes, rolls_back, updates}
use Rattle.step_relation.specs.Headline.{AtPrefix, EndsFailed}
use Rattle.step_relation.specs.Sound.{Sound}
use Rattle.history_laws.proofs.tells.Silence.{AreUncalling, IsUncalling}
use Rattle.history_laws.proofs.agrees.MoveTold.{move_outcome}
use Rattle.history_laws.proofs.agrees.Outcome.{CallMade, called, uncalled}
use Rattle.history_laws.proofs.headline.CallSaid.{call_fits}
use Rattle.history_laws.proofs.headline.LaidSaid.{laid_said}
use Rattle.history_laws.proofs.headline.MoveSaid.{move_said}
use Rattle.history_laws.proofs.headline.Once.{possible_before}
use Rattle.history_laws.proofs.headline.Parts.{said_call}
use Rattle.history_laws.proofs.headline.Said.{AllSaid, IsPlainWhat, at_sound, fits_plain, said_both, said_shift}
use Rattle.history_laws.proofs.headline.Steps.{KeepsSound, begins_move, rollback_ordered, runs_sound, step_sound}
use Rattle.step_relation.specs.declared.EngineChange.TheVariants as engine
use Rattle.step_relation.specs.declared.What.TheVariants as what

-- where a move fails its entries end with the mark
pub ends_failed : (s : StateData) (e : ℕ) (given : Given) (st : Stack) (cs : List Change) (es : List Entry)
    → Move s e given (Some st) cs es
    → (first : List Entry) × (cause : Cause) × (es ≡ first ++ entry_of (Engine e)
    (what.Mark st.name st.trav st.act (Some cause)) ∷ [])
ends_failed s e _ st cs es (begin_faulted k code path _ _ _ falls c d) =
    (left_entries e k.row, fault_of k.item.name k.row.no code path, d)
ends_failed s e _ st cs es (ask_failed k asked given reason letters _ _ _ asks_ refuses falls c d) =
    (call_entry e k.row asked given ∷ failed_entries e k.row letters None reason, cause_at k.row reason, d)
ends_failed s e _ st cs es (poll_failed k asked given reason letters _ _ _ polls_ refuses falls c d) =
    (call_entry e k.row asked given ∷ failed_entries e k.row letters None reason, cause_at k.row reason, d)

plain_one : (o : Opening) (h : List Entry) (e : Entry) → IsPlainWhat e.what → AtPrefix o h → AtPrefix o (h ++ e ∷ [])
    → AllSaid o h [] (e ∷ [])
plain_one o h e plain_ a l = (subst (AtPrefix o) (sym (append-nil h)) a, fits_plain o (h ++ []) e plain_, plain_.2, l)

note_plain : (it : What) → IsNote it → IsPlainWhat it
note_plain _ (shows it stack) = (tt, tt, λ t i. cc)
note_plain _ (notes line code path) = (tt, tt, λ t i. cc)
note_plain _ (ran idle turns) = (tt, tt, λ t i. cc)
note_plain _ (turned e lost) = (tt, tt, λ t i. cc)
note_plain _ (previews stack forecast) = (tt, tt, λ t i. cc)

module _ (keeps : KeepsSound) (judges : Judges) (o : Opening) (h : List Entry) (s : StateData) (x : Sound o h s) where
  command_said : (cs : List Change) (es : List Entry) → Command s cs es → AtPrefix o h → AtPrefix o (h ++ es)
      → AllSaid o h [] es
  command_said cs es (create name plan rb k proper_ none few room c d) a l =
      subst (AllSaid o h []) (sym d) (laid_said o h s x name plan.items (create_sets s name plan rb) k
      (creates name plan rb none proper_) (λ n i. cc) a
      (subst (λ (y : List Entry). AtPrefix o (h ++ y)) d l))
  command_said cs es (update st plan rb k proper_ found ne room c d) a l =
      subst (AllSaid o h []) (sym d) (laid_said o h s x st.name plan.items (update_sets s st plan rb) k
      (updates st plan rb found ne proper_) (λ n i. cc) a
      (subst (λ (y : List Entry). AtPrefix o (h ++ y)) d l))
  command_said cs es (delete st k found c d) a l =
      subst (AllSaid o h []) (sym d) (laid_said o h s x st.name [] (delete_sets s st) k (deletes st found)
      (λ n i. cc) a (subst (λ (y : List Entry). AtPrefix o (h ++ y)) d l))
  command_said cs es (cancel st k found forward progress room c d) a l =
      subst (AllSaid o h []) (sym d) (laid_said o h s x st.name (plan_back s st).items (rollback_sets s st Main) k
      (rolls_back st Main found forward (λ i. let f = sym progress ∙ i in cc)) (λ n i. cc) a
      (subst (λ (y : List Entry). AtPrefix o (h ++ y)) d l))

  turn_said : (e : ℕ) (given : Given) (cs : List Change) (es : List Entry) → Turn s e given cs es
      → IsTied judges s e given → IsPossible o (h ++ es)
      → AtPrefix o (h ++ es) → AllSaid o h [] es
  turn_said e given cs es (plain failed_ move stays_) tied possible l =
      move_said keeps judges o h s x e given failed_ cs es move tied possible l
  turn_said e given cs es (rolls st first last_ firsts lasts_ move due follows_ c d) tied possible l =
      subst (AllSaid o h []) (sym d) both where
        possible_all : IsPossible o ((h ++ firsts) ++ lasts_)
        possible_all = subst (λ (z : List Entry). IsPossible o z)
            (ap (λ (z : List Entry). h ++ z) d ∙ sym (append_assoc h firsts lasts_)) possible

        possible_mid : IsPossible o (h ++ firsts)
        possible_mid = possible_before o (h ++ firsts) lasts_ possible_all

        mid : Sound o (h ++ firsts) (applied first s)
        mid = keeps.moves judges o h s e given (Some st) first firsts x move tied possible_mid

        at_mid : AtPrefix o (h ++ firsts)
        at_mid = at_sound o (h ++ firsts) (applied first s) mid possible_mid

        ends_ : (n : ℕ) → Engine e ≡ Engine n → EndsFailed (h ++ firsts) (Engine n) follows_.failed.name
        ends_ n is =
            let (before, cause, firsts_are) = ends_failed s e given st first firsts move in
            subst (λ (a : Actor). EndsFailed (h ++ firsts) a follows_.failed.name) is (record {
              earlier = h ++ before;
              trav = st.trav;
              act = st.act;
              cause = cause;
              entries = ap (λ (y : List Entry). h ++ y) firsts_are
                  ∙ (sym (append_assoc h before (entry_of (Engine e)
                  (what.Mark st.name st.trav st.act (Some cause)) ∷ []))
                  ∙ ap (λ (n_ : List ℕ). (h ++ before) ++ entry_of (Engine e)
                  (what.Mark n_ st.trav st.act (Some cause)) ∷ []) (sym follows_.its_name));
            })

        lasts_said : AllSaid o (h ++ firsts) [] lasts_
        lasts_said = subst (AllSaid o (h ++ firsts) []) (sym follows_.entries)
            (laid_said o (h ++ firsts) (applied first s) mid follows_.failed.name
            (plan_back (applied first s) follows_.failed).items
            (rollback_sets (applied first s) follows_.failed (Engine e)) follows_.lays
            (rollback_ordered s e given st first firsts move due.forward follows_.failed follows_.is follows_.its_name)
            ends_ at_mid
            (subst (λ (y : List Entry). AtPrefix o ((h ++ firsts) ++ y)) follows_.entries
            (subst (AtPrefix o) (ap (λ (z : List Entry). h ++ z) d ∙ sym (append_assoc h firsts lasts_)) l)))

        both : AllSaid o h [] (firsts ++ lasts_)
        both = said_both o h [] firsts lasts_ (move_said keeps judges o h s x e given
            (Some st) first firsts move tied possible_mid at_mid)
            (said_shift o (h ++ firsts) [] h firsts lasts_ (append-nil (h ++ firsts)) lasts_said)

  called_said : (possible : IsPossible o h) (e : ℕ) (given : Given) (failed_ : Option Stack) (cs : List Change)
      (es : List Entry) (call : Entry) → Move s e given failed_ cs es
      → BeginsWithCall es call → AtPrefix o (h ++ call ∷ []) → AllSaid o h [] (call ∷ [])
  called_said possible e given failed_ cs es call move begins_ l =
      by (move_outcome o h s e x given failed_ cs es move).call where
        by : CallMade s (applied cs s) e es → AllSaid o h [] (call ∷ [])
        by (uncalled none some) =
            let first : IsUncalling call.what = (subst AreUncalling begins_.entries none).0 in
            absurd (subst IsUncalling begins_.is_call.3 first)
        by (called r asked answer_ rest k es_is none ends_ tokens) =
            let eq = sym es_is ∙ begins_.entries in
            let is : call_entry e r asked answer_ ≡ call = cc in
            subst (λ (c : Entry). AllSaid o h [] (c ∷ [])) is
            (said_call o h e r asked answer_ (at_sound o h s x possible)
            (call_fits o h s x possible e r asked answer_ k)
            (subst (λ (c : Entry). AtPrefix o (h ++ c ∷ [])) (sym is) l))

  pub step_said : (cs : List Change) (es : List Entry) (step : Step s cs es) → IsTiedStep judges s cs es step
      → IsPossible o (h ++ es) → AtPrefix o (h ++ es) → AllSaid o h [] es
  step_said cs es (command it fits_) tied possible l = command_said cs es it
      (at_sound o h s x (possible_before o h es possible)) l
  step_said cs es (turn e given it fits_) tied possible l = turn_said e given cs es it tied possible l
  step_said cs es (unstored e given lost all call it some fits_ first is made) tied possible l =
      subst (AllSaid o h []) (sym made) (by it) where
        at_call : AtPrefix o (h ++ call ∷ [])
        at_call = subst (λ (y : List Entry). AtPrefix o (h ++ y)) made l

        by : Turn s e (Answer given) lost all → AllSaid o h [] (call ∷ [])
        by (plain failed_ move stays_) = called_said (possible_before o h es possible) e
            (Answer given) failed_ lost all call move first at_call
        by (rolls st first_ last_ firsts lasts_ move due follows_ c d) =
            called_said (possible_before o h es possible) e (Answer given) (Some st) first_ firsts call move
            (begins_move o h s e (Answer given) (Some st) first_ firsts lasts_ all call x move d first) at_call
  step_said cs es (stop e live is made) tied possible l =
      subst (AllSaid o h []) (sym made) (plain_one o h (entry_of Main (what.Engine (engine.Stop e)))
      (tt, tt, λ t i. cc) (at_sound o h s x (possible_before o h es possible))
      (subst (λ (y : List Entry). AtPrefix o (h ++ y)) made l))
  step_said cs es (enlist few below is made) tied possible l =
      subst (AllSaid o h []) (sym made) (plain_one o h (entry_of Main (what.Engine (engine.Start s.next.engine)))
      (tt, tt, λ t i. cc) (at_sound o h s x (possible_before o h es possible))
      (subst (λ (y : List Entry). AtPrefix o (h ++ y)) made l))
  step_said cs es (restart count some few below is made) tied possible l =
      subst (AllSaid o h []) (sym made)
      (plain_one o h (entry_of Main (what.Engine (engine.Restart s.next.engine count))) (tt, tt, λ t i. cc)
      (at_sound o h s x (possible_before o h es possible)) (subst (λ (y : List Entry). AtPrefix o (h ++ y)) made l))
  step_said cs es (note it noted is made) tied possible l =
      subst (AllSaid o h []) (sym made) (plain_one o h (entry_of Main it) (note_plain it noted)
      (at_sound o h s x (possible_before o h es possible))
      (subst (λ (y : List Entry). AtPrefix o (h ++ y)) made l))
  step_said cs es (close is made) tied possible l =
      subst (AllSaid o h []) (sym made) (plain_one o h (entry_of Main what.Closed) (tt, tt, λ t i. cc)
      (at_sound o h s x (possible_before o h es possible))
      (subst (λ (y : List Entry). AtPrefix o (h ++ y)) made l))

-- a run from a sound opening: what all its entries say
pub run_said : KeepsSound → (registries : List Judges) (o : Opening) (s : StateData) (h : List Entry)
    → Sound o [] o.state → Run registries o.state s h → IsPossible o h
    → AllSaid o [] [] h
run_said keeps registries o _ _ first (begins last_ all is none) possible =
    subst (AllSaid o [] []) (sym none) (at_sound o [] o.state first (subst (IsPossible o) none possible))
run_said keeps registries o _ _ first (goes_on judges mid last_ cs before behind all run step among tied closes is made)
    possible =
    let possible_all = subst (IsPossible o) made possible in
    let possible_mid = possible_before o before behind possible_all in
    let mid_sound = runs_sound (step_sound keeps) registries o mid before first run possible_mid in
    let end_sound = step_sound keeps judges o before mid cs behind mid_sound step tied possible_all in
    let at_end_ = at_sound o (before ++ behind) (applied cs mid) end_sound possible_all in
    subst (AllSaid o [] []) (sym made)
    (said_both o [] [] before behind (run_said keeps registries o mid before first run possible_mid)
    (said_shift o before [] [] before behind (append-nil before)
    (step_said keeps judges o before mid mid_sound cs behind step tied possible_all at_end_)))
