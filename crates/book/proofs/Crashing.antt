-- What a crash leaves of a book behind each kind of call.
use Rattle.std.proofs.Common.{List, [], ap, append-nil, inl, inr, refl, subst, sym, ℕ, ◌++◌, ◌∙◌, ◌∷◌, ◌≡◌}
use Rattle.std.specs.Prelude.{Err, IsTrue, None, Ok, Option, Result, Some, take, ◌≤◌}
use Rattle.heat_plan.specs.declared.refusal.Refusal.{Refusal}
use Rattle.heat_plan.specs.declared.refusal.Refusal.TheVariants as refusal
use Rattle.provider.specs.Cloud.{Cloud, state_of}
use Rattle.core_state.specs.Changes.{applied}
use Rattle.core_state.specs.State.{StateData}
use Rattle.core_state.specs.declared.change.Change.{Change}
use Rattle.core_state.specs.declared.entry.Actor.TheVariants.{Main}
use Rattle.core_state.specs.declared.entry.Entry.{Entry}
use Rattle.core_state.specs.declared.entry.What.TheVariants as what
use Rattle.core_state.specs.declared.entry.What.{What}
use Rattle.step_relation.specs.Could.{Allows}
use Rattle.step_relation.specs.Laws.{opening_at}
use Rattle.step_relation.specs.Steps.{IsNote, close, engine_limit, note}
use Rattle.step_relation.specs.Writes.{entry_of}
use Rattle.check_steps.specs.declared.looks.Work.{Work}
use Rattle.record_keeper.specs.Calls.{IsLeftOf}
use Rattle.record_keeper.specs.Laws.{IsLawful}
use Rattle.record_keeper.specs.Shown.{LeavesOnly, ShownKeeper, StandsFor}
use Rattle.book.specs.Behind.{CommitsTo, Turns, tried_at, tried_by}
use Rattle.book.specs.Closing.{Closes}
use Rattle.book.specs.Closing as closing
use Rattle.book.specs.Commits.{Commits}
use Rattle.book.specs.Commits as commits
use Rattle.book.specs.Crashes.{IsLeft}
use Rattle.book.specs.Halting.{halt_after, halt_behind, halt_by, halt_for}
use Rattle.book.specs.Keeping.{KeptBy}
use Rattle.book.specs.Kept.{IsKept}
use Rattle.book.specs.Makings.{Does, DoesSo, done, memory, refused, tried_to, unkept}
use Rattle.book.specs.Quiet.{Page, page}
use Rattle.book.specs.Restarts.{RestartsAs, Restarts, restart_entry}
use Rattle.book.specs.Restarts as restarts
use Rattle.book.specs.Recording.{StepsTo, none}
use Rattle.book.specs.Scenes.{IsUnmade, Scene}
use Rattle.book.specs.Turned.{Turned, failed, lacking}
use Rattle.book.specs.Turned as turned
use Rattle.book.specs.declared.halting.Halt.TheVariants as halt
use Rattle.book.specs.declared.halting.Halt.{Halt}
use Rattle.book.specs.declared.restarting.Unrestarted.{Unrestarted}
use Rattle.book.specs.declared.turning.Turn.TheVariants as turn
use Rattle.book.specs.declared.turning.Turn.{Turn as Turn_answer}
use Rattle.book.proofs.Crashed.{FaultLeaves, left_on}
use Rattle.book.proofs.Doing.{IsSilentStep, done_silent, done_step, told_to}
use Rattle.book.proofs.Growing.{silent_note}
use Rattle.book.proofs.Histories.{silence_allows}
use Rattle.book.proofs.Keepers.{itself, same_keeps}
use Rattle.book.proofs.KeptTurned.{step_to, told_by, turned_allows, turned_step}
use Rattle.book.proofs.Relisted.{restart_step, restart_told, restart_told_allows}
use Rattle.book.proofs.Silent.{AreSilent, silent_uncalling}

-- only a fault of the keeper halts with one
by_turn : (r : Turn_answer) → halt_by r ≡ Some halt.DiskFault → r ≡ turn.DiskFault
by_turn turn.Stepped is = cc
by_turn turn.Idle is = cc
by_turn turn.Lost is = cc
by_turn turn.Worn is = cc
by_turn turn.DiskFault is = refl
by_turn turn.Memory is = cc

by_refusal : (r : Refusal) → halt_for r ≡ Some halt.DiskFault → r ≡ refusal.DiskFault
by_refusal refusal.StackExists is = cc
by_refusal refusal.NoStack is = cc
by_refusal refusal.Deleting is = cc
by_refusal refusal.TooManyStacks is = cc
by_refusal refusal.TooManyRows is = cc
by_refusal refusal.Worn is = cc
by_refusal refusal.NoEngine is = cc
by_refusal refusal.TooManyEngines is = cc
by_refusal refusal.NotRunning is = cc
by_refusal refusal.DiskFault is = refl
by_refusal refusal.Memory is = cc

by_step : {A : Type 0} (r : Result A Refusal) → halt_after r ≡ Some halt.DiskFault → r ≡ Err refusal.DiskFault
by_step (Ok a) is = cc
by_step {A} (Err e) is = subst (λ (x : Refusal). ◌≡◌ {A = Result A Refusal} (Err e) (Err x)) (by_refusal e is) refl

-- a history goes on with each turn
turned_longer : (e : ℕ) (old new : Scene) (r : Turn_answer) → Turned e old new r
    → (rest : List Entry) × (new.entries ≡ old.entries ++ rest)
turned_longer e old new r (turned.quiet given cs es is quiet t lasts its makes same) = (es, makes.entries)
turned_longer e old new r (turned.called k given cs es rest is t lasts entries makes told) = (es, makes.entries)
turned_longer e old new r (turned.alone k given cs es rest why_ some t lasts entries makes told) = (_, makes.entries)
turned_longer e old new r (turned.unkept given cs es is quiet some t lasts its same) =
    ([], same.entries ∙ sym (append-nil old.entries))
turned_longer e old new r (turned.unmade is same) = ([], same.entries ∙ sym (append-nil old.entries))
turned_longer e old new r (turned.idle is none_ same) = ([], same.entries ∙ sym (append-nil old.entries))
turned_longer e old new r (turned.lost is none_ same) = ([], same.entries ∙ sym (append-nil old.entries))
turned_longer e old new r (turned.worn is by same) = ([], same.entries ∙ sym (append-nil old.entries))

-- behind a fault the state is as before, and at most the call is told
turned_fault : (e : ℕ) (old new : Scene) (r : Turn_answer) (it : Turned e old new r) → r ≡ turn.DiskFault
    → FaultLeaves old.state new.state old.entries new.entries (told_by it)
turned_fault e old new r (turned.quiet given cs es is quiet t lasts its makes same) f = let both = sym is ∙ f in cc
turned_fault e old new r (turned.called k given cs es rest is t lasts entries makes told) f =
    let both = sym is ∙ f in cc
turned_fault e old new r (turned.alone k given cs es rest (lacking is size) some t lasts entries makes told) f =
    let both = sym is ∙ f in cc
turned_fault e old new r (turned.alone k given cs es rest (failed is) some t lasts entries makes told) f = (
  makes.state,
  inr (makes.entries ∙ ap (λ (xs : List Entry). old.entries ++ take 1 xs) (sym entries)),
)
turned_fault e old new r (turned.unkept given cs es is quiet some t lasts its same) f = (same.state, inl same.entries)
turned_fault e old new r (turned.unmade is same) f = let both = sym is ∙ f in cc
turned_fault e old new r (turned.idle is none_ same) f = let both = sym is ∙ f in cc
turned_fault e old new r (turned.lost is none_ same) f = let both = sym is ∙ f in cc
turned_fault e old new r (turned.worn is by same) f = let both = sym is ∙ f in cc

module _ (first : StateData) (origin : Cloud) (opened k l : ShownKeeper) (may_open : StateData → Type 0)
    (lawful : IsLawful may_open l) where
  -- a turn
  pub left_turned : (e : ℕ) (old new : Scene) (r : Turn_answer) (h : Option Halt) (n0 n1 : ℕ) → h ≡ halt_by r
      → IsKept first origin old.state old.entries old.cloud None
      → IsLeft first origin opened k old.state old.entries old.cloud None → Turns e old new k l n0 n1 r
      → IsLeft first origin opened l new.state new.entries new.cloud h
  left_turned e old new r h n0 n1 is kept was it =
      let (rest, longer) = turned_longer e old new r it.turned in
      left_on first origin opened k l may_open lawful old.state new.state old.entries new.entries old.cloud new.cloud h
      it.kept.keeps.goes_on.tells kept.run was (applied (tried_by it.turned) old.state) (told_by it.turned)
      (turned_step e old new r it.turned) (turned_allows first origin old kept.agrees e new r it.turned)
      it.kept.keeps.leaves rest longer (λ f. turned_fault e old new r it.turned (by_turn r (sym is ∙ f)))

  -- nothing was tried
  left_still : (old new : Scene) (h : Option Halt) (n0 n1 : ℕ) (fault : Type 0)
      → IsKept first origin old.state old.entries old.cloud None
      → IsLeft first origin opened k old.state old.entries old.cloud None
      → KeptBy k l n0 n1 old.state new.state [] fault → new.state ≡ old.state → new.entries ≡ old.entries
      → Allows (state_of origin) (old.entries ++ []) new.cloud
      → IsLeft first origin opened l new.state new.entries new.cloud h
  left_still old new h n0 n1 fault kept was it same silent allows =
      left_on first origin opened k l may_open lawful old.state new.state old.entries new.entries old.cloud new.cloud h
      it.keeps.goes_on.tells kept.run was old.state [] (none refl refl) allows it.keeps.leaves []
      (silent ∙ sym (append-nil old.entries)) (λ f. (same, inl silent))

  -- the commit of an older look
  pub left_committed : (e : ℕ) (w : Work) (old new : Scene) (r : Turn_answer) (h : Option Halt) (n0 n1 : ℕ)
      → h ≡ halt_by r → IsKept first origin old.state old.entries old.cloud None
      → IsLeft first origin opened k old.state old.entries old.cloud None → CommitsTo e w old new k l n0 n1 r
      → IsLeft first origin opened l new.state new.entries new.cloud h
  left_committed e w old new r h n0 n1 is kept was it = by it.committed it.kept where
    silent : IsUnmade old new → Allows (state_of origin) (old.entries ++ []) new.cloud
    silent same = turned_allows first origin old kept.agrees e new turn.Memory (turned.unmade refl same)

    by : (c : Commits e w old new r) → KeptBy k l n0 n1 old.state new.state (tried_at c) (r ≡ turn.DiskFault)
        → IsLeft first origin opened l new.state new.entries new.cloud h
    by (commits.fenced ends other same) ks = left_still old new h n0 n1 _ kept was ks same.state same.entries
        (silent same)
    by (commits.made still it_) ks = left_turned e old new r h n0 n1 is kept was (record { turned = it_; kept = ks })
    by (commits.unmade ends same) ks = left_still old new h n0 n1 _ kept was ks same.state same.entries (silent same)

  -- a command, a stop or an enlisting
  module _ {A : Type 0} (Is : List Change → List Entry → Type 0) (Refuses : Refusal → Type 0) (answer : A)
      (s t : StateData) (g i : List Entry) (c : Cloud) (r : Result A Refusal)
      (steps : (cs : List Change) (es : List Entry) → Is cs es → IsSilentStep s cs es) where
    done_longer : Does Is Refuses answer (page s g) (page t i) r → (rest : List Entry) × (i ≡ g ++ rest)
    done_longer (done cs es is writes ends) = (es, writes.entries)
    done_longer (refused w why_ same ends) = ([], ap (λ (p : Page). p.entries) same ∙ sym (append-nil g))
    done_longer (unkept cs es is some same ends) = ([], ap (λ (p : Page). p.entries) same ∙ sym (append-nil g))
    done_longer (memory same ends) = ([], ap (λ (p : Page). p.entries) same ∙ sym (append-nil g))

    done_fault : (it : Does Is Refuses answer (page s g) (page t i) r) → r ≡ Err refusal.DiskFault
        → FaultLeaves s t g i (told_to it)
    done_fault (done cs es is writes ends) f = let both = sym ends ∙ f in cc
    done_fault (refused w why_ same ends) f =
        (ap (λ (p : Page). p.state) same, inl (ap (λ (p : Page). p.entries) same))
    done_fault (unkept cs es is some same ends) f =
        (ap (λ (p : Page). p.state) same, inl (ap (λ (p : Page). p.entries) same))
    done_fault (memory same ends) f =
        (ap (λ (p : Page). p.state) same, inl (ap (λ (p : Page). p.entries) same))

    pub left_done : (h : Option Halt) (n0 n1 : ℕ) → h ≡ halt_after r → IsKept first origin s g c None
        → IsLeft first origin opened k s g c None → DoesSo Is Refuses answer (page s g) (page t i) k l n0 n1 r
        → IsLeft first origin opened l t i c h
    left_done h n0 n1 is kept was it =
        let (rest, longer) = done_longer it.does in
        left_on first origin opened k l may_open lawful s t g i c c h it.kept.keeps.goes_on.tells kept.run was
        (applied (tried_to it.does) s) (told_to it.does) (done_step Is Refuses answer s t g i r steps it.does)
        (silence_allows (opening_at first origin) g c c kept.agrees (told_to it.does)
        (done_silent Is Refuses answer s t g i r steps it.does) (λ token. refl))
        it.kept.keeps.leaves rest longer (λ f. done_fault it.does (by_step r (sym is ∙ f)))

  -- a restart
  pub left_restarted : (count : ℕ) (old new : Scene) (r : Result (Unit {0}) Unrestarted) (h : Option Halt) (n0 n1 : ℕ)
      → 1 ≤ count → count ≤ engine_limit → h ≡ halt_behind r → IsKept first origin old.state old.entries old.cloud None
      → IsLeft first origin opened k old.state old.entries old.cloud None → Restarts count old new k l n0 n1 r
      → IsLeft first origin opened l new.state new.entries new.cloud h
  left_restarted count old new r h n0 n1 some few is kept was it =
      left_on first origin opened k l may_open lawful old.state new.state old.entries new.entries old.cloud new.cloud h
      it.kept.keeps.goes_on.tells kept.run was (applied it.tried old.state) (restart_told old.state count r it.tried it.tries)
      (restart_step old.state old.entries count some few r it.tried it.tries)
      (restart_told_allows first origin old new kept.agrees k.recalls count r it.does it.tried it.tries)
      it.kept.keeps.leaves (longer it.does).0 (longer it.does).1 (λ f. fault it.does (λ yes_. ok_apart r h is yes_ f)) where
        ok_apart : (x : Result (Unit {0}) Unrestarted) (y : Option Halt) → y ≡ halt_behind x → x ≡ Ok tt
            → y ≡ Some halt.DiskFault → ⊥
        ok_apart x y is_ yes_ f = let both = sym f ∙ (is_ ∙ ap halt_behind yes_) in cc

        longer : RestartsAs k.recalls count old new r → (rest : List Entry) × (new.entries ≡ old.entries ++ rest)
        longer (restarts.done does yes_) = (restart_entry old.state count ∷ [], does.entries)
        longer (restarts.refused w breaks same silent no_) = ([], silent ∙ sym (append-nil old.entries))

        fault : RestartsAs k.recalls count old new r → (r ≡ Ok tt → ⊥)
            → FaultLeaves old.state new.state old.entries new.entries
            (restart_told old.state count r it.tried it.tries)
        fault (restarts.done does yes_) never = absurd (never yes_)
        fault (restarts.refused w breaks same silent no_) never = (same, inl silent)

  -- the keeper wasn't called, and entries that call nobody were told
  module _ (s : StateData) (g : List Entry) (c : Cloud) (same : l ≡ k) (stands : StandsFor k s)
      (kept : IsKept first origin s g c None) (was : IsLeft first origin opened k s g c None) where
    left_told : (i es : List Entry) → StepsTo g s s es → AreSilent es → i ≡ g ++ es
        → IsLeft first origin opened l s i c None
    left_told i es step silent is_i =
        left_on first origin opened k l may_open lawful s s g i c c None (ap (λ (x : ShownKeeper). x.tells) same)
        kept.run was s es step
        (silence_allows (opening_at first origin) g c c kept.agrees es (silent_uncalling es silent) (λ token. refl))
        (subst (λ (x : ShownKeeper). IsTrue k.tells → LeavesOnly k x (IsLeftOf s s)) (sym same)
        (same_keeps k k (itself k) may_open (subst (IsLawful may_open) same lawful) 0 0 s refl stands).leaves)
        es is_i (λ f. cc)

    pub left_noted : (i : List Entry) (it : What) → IsNote it → i ≡ g ++ entry_of Main it ∷ []
        → IsLeft first origin opened l s i c None
    left_noted i it noted is_i = left_told i (entry_of Main it ∷ [])
        (step_to g s [] (entry_of Main it ∷ []) (note it noted refl refl) tt tt) (silent_note it noted, tt) is_i

    pub left_closed : (i : List Entry) → Closes g i → IsLeft first origin opened l s i c None
    left_closed i (closing.before closed_ is_i) = left_told i [] (none refl refl) tt (is_i ∙ sym (append-nil g))
    left_closed i (closing.now open_ is_i) = left_told i (entry_of Main what.Closed ∷ [])
        (step_to g s [] (entry_of Main what.Closed ∷ []) (close refl refl) tt open_) (tt, tt) is_i
