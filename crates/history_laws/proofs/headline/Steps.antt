-- Each step keeps a state sound, where moves, commands and the others do.
use Rattle.std.proofs.Common.{List, ap, append_assoc, arith, inl, inr, refl, subst, sym, ◌∙◌}
use Rattle.std.specs.Prelude.{List, Option, Some, [], filter, map, nat_eq, not, ℕ, ◌++◌, ◌+◌, ◌∷◌, ◌≡◌}
use Rattle.heat_plan.specs.declared.calls.Answered.{Answered}
use Rattle.heat_plan.specs.declared.phase.Status.TheVariants.{Failed}
use Rattle.step_relation.specs.Changes.{applied, apply}
use Rattle.step_relation.specs.State.{StateData, stack_at}
use Rattle.step_relation.specs.declared.Change.{Change}
use Rattle.step_relation.specs.declared.Change.TheVariants.{Enlist, Stop}
use Rattle.step_relation.specs.declared.Actor.TheVariants.{Engine, Main}
use Rattle.step_relation.specs.declared.Entry.{Entry}
use Rattle.step_relation.specs.declared.What.{What}
use Rattle.step_relation.specs.declared.Stack.{Stack}
use Rattle.step_relation.specs.Commands.{laid_changes}
use Rattle.step_relation.specs.Given.{Answer, Given}
use Rattle.step_relation.specs.Moves.{Move, ask_failed, begin_faulted, poll_failed}
use Rattle.step_relation.specs.Orders.{Command, IsForward, cancel, create, create_sets, delete, delete_sets, plan_back}
use Rattle.step_relation.specs.Orders.{rollback_sets, update, update_sets}
use Rattle.step_relation.specs.Runs.{IsTied, Judges, begins, goes_on}
use Rattle.step_relation.specs.Steps.{BeginsWithCall, close, command, engines_from, enlist, note, past_engines, restart}
use Rattle.step_relation.specs.Steps.{restart_changes, stop, turn, unstored}
use Rattle.step_relation.specs.Turns.{Turn, plain, rolls}
use Rattle.step_relation.specs.Writes.{entry_of}
use Rattle.step_relation.specs.Could.{IsPossible}
use Rattle.step_relation.specs.Opening.{Opening}
use Rattle.step_relation.specs.Groups.{IsOrdered, IsQuietEntry, IsQuietTo, KeptByEngines, ToldByCommands, ToldByMoves}
use Rattle.step_relation.specs.Groups.{creates, deletes, rolls_back, updates}
use Rattle.step_relation.specs.Laws.{SoundOpeningsStaySound, StepsKeepSound}
use Rattle.step_relation.specs.Sound.{Sound, Standing}
use Rattle.history_laws.proofs.tables.Rows.{same_some, stack_here}
use Rattle.history_laws.proofs.agrees.Ends.{failed_end}
use Rattle.history_laws.proofs.agrees.Laid.{commands_agree, commands_release}
use Rattle.history_laws.proofs.agrees.LaidTold.{commands_tell}
use Rattle.history_laws.proofs.agrees.MoveTold.{move_outcome, moves_agree, moves_release, moves_tell}
use Rattle.history_laws.proofs.agrees.Others.{others_agree, others_release, others_tell}
use Rattle.history_laws.proofs.agrees.Outcome.{CallMade, called, uncalled}
use Rattle.history_laws.proofs.policies.Fits.{commands_fit_policies, moves_fit_policies, others_fit_policies}
use Rattle.history_laws.proofs.headline.Made.{proper}
use Rattle.history_laws.proofs.headline.Once.{possible_before}
use Rattle.history_laws.specs.headline.Kept.{StandingKept}
use Rattle.step_relation.specs.declared.EngineChange.TheVariants as engine
use Rattle.step_relation.specs.declared.What.TheVariants as what

-- what the laws of moves, commands and other steps give
pub record KeepsSound : Type 0 where
  pub moves : ToldByMoves Sound
  pub commands : ToldByCommands Sound
  pub unstored : (o : Opening) (h : List Entry) (s : StateData) (e : ℕ) (given : Answered) (failed_ : Option Stack)
      (cs : List Change)
      (es : List Entry) (call : Entry) → Sound o h s → Move s e (Answer given) failed_ cs es → BeginsWithCall es call
      → IsPossible o (h ++ call ∷ []) → Sound o (h ++ call ∷ []) s
  pub quiet : (o : Opening) (h : List Entry) (s t : StateData) (it : What) → Sound o h s → IsQuietEntry it
      → IsQuietTo s t → Standing t
      → Sound o (h ++ entry_of Main it ∷ []) t
  pub engines : KeptByEngines Standing

pub keeps_sound : StandingKept → KeepsSound
keeps_sound kept_ = record {
  moves = λ judges o h s e given failed_ cs es x move tied possible. record {
    standing = kept_.moves judges s e given failed_ cs es x.standing move tied;
    agrees = moves_agree judges o h s e given failed_ cs es x move tied possible;
    tells = moves_tell judges o h s e given failed_ cs es x move tied possible;
    released = moves_release judges o h s e given failed_ cs es x move tied possible;
    policies = moves_fit_policies judges o h s e given failed_ cs es x move tied possible;
  };
  commands = λ o h s name items it k x ordered. record {
    standing = kept_.commands s name items it k x.standing ordered;
    agrees = commands_agree o h s name items it k x ordered;
    tells = commands_tell o h s name items it k x ordered;
    released = commands_release o h s name items it k x ordered;
    policies = commands_fit_policies o h s name items it k x ordered;
  };
  unstored = λ o h s e given failed_ cs es call x move begins_ possible. record {
    standing = x.standing;
    agrees = others_agree.unstored o h s e given failed_ cs es call x move begins_ possible;
    tells = others_tell.unstored o h s e given failed_ cs es call x move begins_ possible;
    released = others_release.unstored o h s e given failed_ cs es call x move begins_ possible;
    policies = others_fit_policies.unstored o h s e given failed_ cs es call x move begins_ possible;
  };
  quiet = λ o h s t it x quiet_ to standing_. record {
    standing = standing_;
    agrees = others_agree.quiet o h s t it x quiet_ to;
    tells = others_tell.quiet o h s t it x quiet_ to;
    released = others_release.quiet o h s t it x quiet_ to;
    policies = others_fit_policies.quiet o h s t it x quiet_ to;
  };
  engines = kept_.engines;
}

-- a command is laid out where it may be
ordered_sound : (keeps : KeepsSound) (o : Opening) (h : List Entry) (s : StateData) (cs : List Change)
    (es : List Entry)
    → Sound o h s → Command s cs es → Sound o (h ++ es) (applied cs s)
ordered_sound keeps o h s cs es x k = by k where
  moved : (left : List Change) (told_ : List Entry) → cs ≡ left → es ≡ told_ → Sound o (h ++ told_) (applied left s)
      → Sound o (h ++ es) (applied cs s)
  moved left told_ c d y = subst (λ (z : List Change). Sound o (h ++ es) (applied z s)) (sym c)
      (subst (λ (z : List Entry). Sound o (h ++ z) (applied left s)) (sym d) y)

  by : Command s cs es → Sound o (h ++ es) (applied cs s)
  by (create name plan rb k proper none few room c d) =
      moved _ _ c d (keeps.commands o h s name plan.items (create_sets s name plan rb) k x
      (creates name plan rb none proper))
  by (update st plan rb k proper found ne room c d) =
      moved _ _ c d (keeps.commands o h s st.name plan.items (update_sets s st plan rb) k x
      (updates st plan rb found ne proper))
  by (delete st k found c d) = moved _ _ c d (keeps.commands o h s st.name [] (delete_sets s st) k x
      (deletes st found))
  by (cancel st k found forward progress room c d) =
      moved _ _ c d (keeps.commands o h s st.name (plan_back s st).items (rollback_sets s st Main) k x
      (rolls_back st Main found forward (λ e. let f = sym progress ∙ e in cc)))

-- the stack that a move marks as failed
pub failed_stack : (s : StateData) (e : ℕ) (given : Given) (st : Stack) (cs : List Change) (es : List Entry)
    → Move s e given (Some st) cs es
    → stack_at (applied cs s).stacks st.name ≡ Some (record st { status = Failed })
failed_stack s e _ st cs es (begin_faulted k code path _ _ _ falls c d) =
    subst (λ (z : List Change). stack_at (applied z s).stacks st.name ≡ Some (record st { status = Failed })) (sym c)
    (stack_here (record st { status = Failed }) s.stacks)
failed_stack s e _ st cs es (ask_failed k asked given reason letters _ _ _ asks_ refuses falls c d) =
    subst (λ (z : List Change). stack_at (applied z s).stacks st.name ≡ Some (record st { status = Failed })) (sym c)
    (subst (λ (t : StateData). stack_at t.stacks st.name ≡ Some (record st { status = Failed }))
    (sym (failed_end s e k.row letters (Some st)))
    (stack_here (record st { status = Failed }) s.stacks))
failed_stack s e _ st cs es (poll_failed k asked given reason letters _ _ _ polls_ refuses falls c d) =
    subst (λ (z : List Change). stack_at (applied z s).stacks st.name ≡ Some (record st { status = Failed })) (sym c)
    (subst (λ (t : StateData). stack_at t.stacks st.name ≡ Some (record st { status = Failed }))
    (sym (failed_end s e k.row letters (Some st)))
    (stack_here (record st { status = Failed }) s.stacks))

-- the rollback behind a failure may be laid out
pub rollback_ordered : (s : StateData) (e : ℕ) (given : Given) (st : Stack) (cs : List Change) (es : List Entry)
    → Move s e given (Some st) cs es
    → IsForward st.act → (failed_ : Stack) → stack_at (applied cs s).stacks st.name ≡ Some failed_
    → failed_.name ≡ st.name
    → IsOrdered (applied cs s) failed_.name (plan_back (applied cs s) failed_).items
    (rollback_sets (applied cs s) failed_ (Engine e))
rollback_ordered s e given st cs es move forward failed_ found name =
    let same : record st { status = Failed } ≡ failed_ = same_some (record st { status = Failed }) failed_
    (failed_stack s e given st cs es move) found in
    rolls_back failed_ (Engine e) (subst (λ (n : List ℕ). stack_at (applied cs s).stacks n ≡ Some failed_)
    (sym name) found)
    (subst (λ (y : Stack). IsForward y.act) same forward)
    (λ done. let failed_status = ap (λ (y : Stack). y.status) same in let f = failed_status ∙ done in cc)

applied-both : (cs ds : List Change) (s : StateData) → applied (cs ++ ds) s ≡ applied ds (applied cs s)
applied-both [] ds s = refl
applied-both (c ∷ cs) ds s = applied-both cs ds (apply c s)

turn_sound : (keeps : KeepsSound) (judges : Judges) (o : Opening) (h : List Entry) (s : StateData) (e : ℕ)
    (given : Given) (cs : List Change) (es : List Entry)
    → Sound o h s → Turn s e given cs es → IsTied judges s e given → IsPossible o (h ++ es)
    → Sound o (h ++ es) (applied cs s)
turn_sound keeps judges o h s e given cs es x (plain failed_ move stays_) tied possible =
    keeps.moves judges o h s e given failed_ cs es x move tied possible
turn_sound keeps judges o h s e given cs es x (rolls st first last_ firsts lasts move due follows c d) tied possible =
    let possible_all : IsPossible o ((h ++ firsts) ++ lasts) =
    subst (λ (z : List Entry). IsPossible o z) (ap (λ (z : List Entry). h ++ z) d
    ∙ sym (append_assoc h firsts lasts)) possible in
    let mid = keeps.moves judges o h s e given (Some st) first firsts x move tied
    (possible_before o (h ++ firsts) lasts possible_all) in
    let ordered = rollback_ordered s e given st first firsts move due.forward follows.failed follows.is
    follows.its_name in
    let behind = keeps.commands o (h ++ firsts) (applied first s) follows.failed.name
    (plan_back (applied first s) follows.failed).items
    (rollback_sets (applied first s) follows.failed (Engine e)) follows.lays mid ordered in
    let last_is : Sound o ((h ++ firsts) ++ lasts) (applied last_ (applied first s)) =
    subst (λ (z : List Change). Sound o ((h ++ firsts) ++ lasts) (applied z (applied first s)))
    (sym follows.changes)
    (subst (λ (z : List Entry). Sound o ((h ++ firsts) ++ z)
    (applied (laid_changes (applied first s) follows.failed.name
    (plan_back (applied first s) follows.failed).items
    (rollback_sets (applied first s) follows.failed (Engine e)) follows.lays) (applied first s)))
    (sym follows.entries) behind) in
    subst (λ (z : List Change). Sound o (h ++ es) (applied z s)) (sym c)
    (subst (λ (t : StateData). Sound o (h ++ es) t) (sym (applied-both first last_ s))
    (subst (λ (z : List Entry). Sound o z (applied last_ (applied first s)))
    (append_assoc h firsts lasts ∙ ap (λ (z : List Entry). h ++ z) (sym d)) last_is))

-- ---- engines

abbrev without : ℕ → List ℕ → List ℕ
without e = filter (λ x. not (nat_eq x e))

abbrev stopped_all : List ℕ → List ℕ → List ℕ
stopped_all [] live = live
stopped_all (e ∷ es) live = stopped_all es (without e live)

abbrev enlisted_all : List ℕ → List ℕ → List ℕ
enlisted_all [] live = live
enlisted_all (e ∷ es) live = enlisted_all es (live ++ e ∷ [])

applied-stops : (s : StateData) (engines : List ℕ) (rest : List Change)
    → applied (map Stop engines ++ rest) s ≡ applied rest (record s { live = stopped_all engines s.live })
applied-stops s [] rest = refl
applied-stops s (e ∷ es) rest = applied-stops (record s { live = without e s.live }) es rest

applied-enlists : (s : StateData) (engines : List ℕ) → applied
    (map Enlist engines) s ≡ record s { live = enlisted_all engines s.live }
applied-enlists s [] = refl
applied-enlists s (e ∷ es) = applied-enlists (record s { live = s.live ++ e ∷ [] }) es

pub quiet_restart : (s : StateData) (count : ℕ) → IsQuietTo s (applied (restart_changes s count) s)
quiet_restart s count = record {
  live = enlisted_all (engines_from s.next.engine count) (stopped_all s.live s.live);
  engine = s.next.engine + count;
  rises = omega arith;
  is = applied-stops (record s { next = past_engines s.next count }) s.live
      (map Enlist (engines_from s.next.engine count))
      ∙ applied-enlists (record s { next = past_engines s.next count; live = stopped_all s.live s.live })
      (engines_from s.next.engine count);
}

pub quiet_sound : (keeps : KeepsSound) (o : Opening) (h : List Entry) (s : StateData) (cs left : List Change)
    (es : List Entry) (it : What) → Sound o h s
    → cs ≡ left → es ≡ entry_of Main it ∷ [] → IsQuietEntry it → IsQuietTo s (applied left s)
    → Standing (applied left s) → Sound o (h ++ es) (applied cs s)
quiet_sound keeps o h s cs left es it x c d quiet to standing_ =
    subst (λ (z : List Change). Sound o (h ++ es) (applied z s)) (sym c)
    (subst (λ (z : List Entry). Sound o (h ++ z) (applied left s)) (sym d)
    (keeps.quiet o h s (applied left s) it x quiet to standing_))

-- the call that begins a turn begins its move
pub begins_move : (o : Opening) (h : List Entry) (s : StateData) (e : ℕ) (given : Given) (failed_ : Option Stack)
    (cs : List Change) (firsts lasts all : List Entry) (call : Entry)
    → Sound o h s → Move s e given failed_ cs firsts → all ≡ firsts ++ lasts → BeginsWithCall all call
    → BeginsWithCall firsts call
begins_move o h s e given failed_ cs [] lasts all call x move d begins_ =
    absurd (by (move_outcome o h s e x given failed_ cs [] move).call) where
      by : CallMade s (applied cs s) e [] → ⊥
      by (uncalled none some) = some refl
      by (called r asked answer_ rest k es_is none ends_ tokens) = cc
begins_move o h s e given failed_ cs (c ∷ firsts) lasts all call x move d begins_ =
    let eq = sym d ∙ begins_.entries in
    let is : c ≡ call = cc in
    record { rest = firsts; entries = ap (λ (z : Entry). z ∷ firsts) is; is_call = begins_.is_call }

pub step_sound : KeepsSound → StepsKeepSound
step_sound keeps judges o h s cs es x (command it fits_) tied possible = ordered_sound keeps o h s cs es x it
step_sound keeps judges o h s cs es x (turn e given it fits_) tied possible =
    turn_sound keeps judges o h s e given cs es x it tied possible
step_sound keeps judges o h s cs es x (unstored e given lost all call it some fits_ first is made) tied possible =
    subst (λ (z : List Change). Sound o (h ++ es) (applied z s)) (sym is)
    (subst (λ (z : List Entry). Sound o (h ++ z) s) (sym made) (by it)) where
      possible_call : IsPossible o (h ++ call ∷ [])
      possible_call = subst (λ (z : List Entry). IsPossible o (h ++ z)) made possible

      by : Turn s e (Answer given) lost all → Sound o (h ++ call ∷ []) s
      by (plain failed_ move stays_) = keeps.unstored o h s e given failed_ lost all call x move first possible_call
      by (rolls st first_ last_ firsts lasts_ move due follows_ c d) =
          keeps.unstored o h s e given (Some st) first_ firsts call x move
          (begins_move o h s e (Answer given) (Some st) first_ firsts lasts_ all call x move d first) possible_call
step_sound keeps judges o h s cs es x (stop e live is made) tied possible =
    quiet_sound keeps o h s cs _ es (what.Engine (engine.Stop e)) x is made (inr (inr (engine.Stop e, refl)))
    (record { live = without e s.live; engine = s.next.engine; rises = omega arith; is = refl })
    (keeps.engines.stop s e x.standing live)
step_sound keeps judges o h s cs es x (enlist few below is made) tied possible =
    quiet_sound keeps o h s cs _ es (what.Engine (engine.Start s.next.engine)) x is made
    (inr (inr (engine.Start s.next.engine, refl)))
    (record { live = s.live ++ s.next.engine ∷ []; engine = s.next.engine + 1; rises = omega arith; is = refl })
    (keeps.engines.enlist s x.standing)
step_sound keeps judges o h s cs es x (restart count some few below is made) tied possible =
    quiet_sound keeps o h s cs _ es (what.Engine (engine.Restart s.next.engine count)) x is made
    (inr (inr (engine.Restart s.next.engine count, refl)))
    (quiet_restart s count) (keeps.engines.restart s count x.standing)
step_sound keeps judges o h s cs es x (note it noted is made) tied possible =
    quiet_sound keeps o h s cs [] es it x is made (inl noted)
    (record { live = s.live; engine = s.next.engine; rises = omega arith; is = refl }) x.standing
step_sound keeps judges o h s cs es x (close is made) tied possible =
    quiet_sound keeps o h s cs [] es what.Closed x is made (inr (inl refl))
    (record { live = s.live; engine = s.next.engine; rises = omega arith; is = refl }) x.standing

-- every run from a sound opening stays sound
pub runs_sound : StepsKeepSound → SoundOpeningsStaySound
runs_sound keep registries o _ _ first (begins last_ all is none) possible =
    subst (λ (t : StateData). Sound o all t) (sym is) (subst (λ (h : List Entry). Sound o h o.state) (sym none) first)
runs_sound keep registries o _ _ first
    (goes_on judges mid last_ cs before behind all run step among tied closes is made)
    possible =
    let possible_all = subst (IsPossible o) made possible in
    let mid_sound = runs_sound keep registries o mid before first run
    (possible_before o before behind possible_all) in
    subst (λ (t : StateData). Sound o all t) (sym is)
    (subst (λ (h : List Entry). Sound o h (applied cs mid)) (sym made)
    (keep judges o before mid cs behind mid_sound step tied possible_all))
