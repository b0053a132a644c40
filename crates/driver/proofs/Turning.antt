-- Turns of the book one after another, as the relation of a run says them.
use Rattle.std.proofs.Common.{ap, append_assoc, arith, inl, inr, refl, subst, sym, ◌∙◌}
use Rattle.std.specs.Prelude.{Contains, List, [], length, ℕ, ◌++◌, ◌+◌, ◌<◌, ◌∷◌, ◌≡◌, ◌≤◌}
use Rattle.core_state.specs.Changes.{applied}
use Rattle.core_state.specs.State.{StateData}
use Rattle.core_state.specs.declared.change.Change.{Change}
use Rattle.core_state.specs.declared.entry.Entry.{Entry}
use Rattle.step_relation.specs.Given.{Answer}
use Rattle.step_relation.specs.Nexts as next
use Rattle.step_relation.specs.Rows.{token_of}
use Rattle.step_relation.specs.Runs.{answer}
use Rattle.bound_laws.proofs.Spans.{length-append}
use Rattle.book.specs.declared.turning.Turn.{Turn as turn_type}
use Rattle.book.specs.declared.turning.Turn.TheVariants as turn
use Rattle.book.specs.Quiet.{IsIdle, Page, page}
use Rattle.book.specs.Scenes.{IsUnmade, Scene}
use Rattle.book.specs.Turned.{Turned}
use Rattle.book.specs.Turned as turned
use Rattle.driver.specs.declared.ran.Ran.TheVariants as ran
use Rattle.driver.specs.Rounds.{IsNext}
use Rattle.book.specs.Turned.{failed, lacking}
use Rattle.book.proofs.KeptTurned.{alone_step}
use Rattle.driver.specs.Turns.{HasRan, Lacks, TurnOf, Turns, adds, alone, begins, latest, unmade}
use Rattle.driver.specs.Turns as to

append-none : {A : Type 0} (xs : List A) → xs ++ [] ≡ xs
append-none [] = refl
append-none (x ∷ xs) = ap (λ rest. x ∷ rest) (append-none xs)

latest-snoc : (by : List ℕ) (e : ℕ) → latest (by ++ e ∷ []) ≡ e
latest-snoc [] e = refl
latest-snoc (x ∷ []) e = refl
latest-snoc (x ∷ y ∷ by) e = latest-snoc (y ∷ by) e

-- what a scene shows of state and history
abbrev pub page_of : Scene → Page
page_of it = page it.state it.entries

-- the turns so far, and who made the last
pub record SoFar (old new : Page) (made last : ℕ) : Type 0 where
  pub by : List ℕ
  pub added : List Entry
  pub entries : new.entries ≡ old.entries ++ added
  pub turns : Turns old.state new.state added by
  pub count : length by ≡ made
  pub who : latest by ≡ last

pub none_so_far : (p : Page) → SoFar p p 0 0
none_so_far p = record {
  by = [];
  added = [];
  entries = sym (append-none p.entries);
  turns = begins p.state [] [] refl refl refl;
  count = refl;
  who = refl;
}

module _ (old : Page) (made last e : ℕ) (mid new : Scene) (so : SoFar old (page_of mid) made last)
    (is_next : IsNext mid.state last e) where
  its : IsNext mid.state (latest so.by) e
  its = subst (λ (l : ℕ). IsNext mid.state l e) (sym so.who) is_next

  more : (cs : List Change) (es : List Entry) → TurnOf mid.state e cs es → new.state ≡ applied cs mid.state
      → new.entries ≡ mid.entries ++ es
      → SoFar old (page_of new) (made + 1) e
  more cs es of state entries = record {
    by = so.by ++ e ∷ [];
    added = so.added ++ es;
    entries = entries ∙ ap (λ (all : List Entry). all ++ es) so.entries ∙ append_assoc old.entries so.added es;
    turns = adds mid.state new.state so.added es (so.added ++ es) cs so.by
        (so.by ++ e ∷ []) e so.turns its of state refl refl;
    count = (let l = length-append so.by (e ∷ []) in let c = so.count in omega (arith, l, c));
    who = latest-snoc so.by e;
  }

  pub one_more : (result : turn_type) → Turned e mid new result → result ≡ turn.Stepped
      → SoFar old (page_of new) (made + 1) e
  one_more result (turned.quiet given cs es is quiet step lasts tied makes same) stepped =
      more cs es (record { given = given; made = step; lasts = lasts; tied = tied }) makes.state makes.entries
  one_more result (turned.called k given cs es rest is step lasts first makes told) stepped =
      more cs es (record { given = Answer given; made = step; lasts = lasts; tied = answer given }) makes.state
      makes.entries
  one_more result (turned.alone k given cs es rest (lacking is size) some step lasts first makes told) stepped = cc
  one_more result (turned.alone k given cs es rest (failed is) some step lasts first makes told) stepped = cc
  one_more result (turned.unkept given cs es is quiet some step lasts tied un) stepped = cc
  one_more result (turned.unmade is un) stepped = cc
  one_more result (turned.idle is rests un) stepped = cc
  one_more result (turned.lost is lost un) stepped = cc
  one_more result (turned.worn is by un) stepped = cc

  pub never_idle : (result : turn_type) → Turned e mid new result → result ≡ turn.Idle → ⊥
  never_idle result (turned.quiet given cs es is quiet step lasts tied makes same) idle = cc
  never_idle result (turned.called k given cs es rest is step lasts first makes told) idle = cc
  never_idle result (turned.alone k given cs es rest (lacking is size) some step lasts first makes told) idle = cc
  never_idle result (turned.alone k given cs es rest (failed is) some step lasts first makes told) idle = cc
  never_idle result (turned.unkept given cs es is quiet some step lasts tied un) idle = cc
  never_idle result (turned.unmade is un) idle = cc
  never_idle result (turned.idle is rests un) idle = is_next.busy rests
  never_idle result (turned.lost is lost un) idle = cc
  never_idle result (turned.worn is by un) idle = cc

  pub never_lost : (result : turn_type) → Turned e mid new result → result ≡ turn.Lost → ⊥
  never_lost result (turned.quiet given cs es is quiet step lasts tied makes same) lost = cc
  never_lost result (turned.called k given cs es rest is step lasts first makes told) lost = cc
  never_lost result (turned.alone k given cs es rest (lacking is size) some step lasts first makes told) lost = cc
  never_lost result (turned.alone k given cs es rest (failed is) some step lasts first makes told) lost = cc
  never_lost result (turned.unkept given cs es is quiet some step lasts tied un) lost = cc
  never_lost result (turned.unmade is un) lost = cc
  never_lost result (turned.idle is rests un) lost = cc
  never_lost result (turned.lost is gone un) lost = gone.ended is_next.live
  never_lost result (turned.worn is by un) lost = cc

  module _ (n : ℕ) (within : made < n) where
    room : length so.by < n
    room = let c = so.count in omega (arith, c, within)

    pub worn_out : (result : turn_type) → Turned e mid new result → result ≡ turn.Worn
        → HasRan n old (page_of new) ran.Worn
    worn_out result (turned.worn is by un) worn = record {
      added = so.added;
      entries = un.entries ∙ so.entries;
      ended = subst (λ (s : StateData). to.RanTo n old.state s so.added ran.Worn) (sym un.state)
          (to.worn so.by e room so.turns its by refl);
    }
    worn_out result (turned.quiet given cs es is quiet step lasts tied makes same) worn = cc
    worn_out result (turned.called k given cs es rest is step lasts first makes told) worn = cc
    worn_out result (turned.alone k given cs es rest (lacking is size) some step lasts first makes told) worn = cc
    worn_out result (turned.alone k given cs es rest (failed is) some step lasts first makes told) worn = cc
    worn_out result (turned.unkept given cs es is quiet some step lasts tied un) worn = cc
    worn_out result (turned.unmade is un) worn = cc
    worn_out result (turned.idle is rests un) worn = cc
    worn_out result (turned.lost is lost un) worn = cc

    lacks : (es : List Entry) → Lacks e mid.state new.state es turn.Memory → new.entries ≡ mid.entries ++ es
        → HasRan n old (page_of new) ran.Memory
    lacks es unable entries = record {
      added = so.added ++ es;
      entries = entries ∙ ap (λ (all : List Entry). all ++ es) so.entries ∙ append_assoc old.entries so.added es;
      ended = to.memory so.by e mid.state so.added es room so.turns its unable refl refl;
    }

    faults : (es : List Entry) → Lacks e mid.state new.state es turn.DiskFault → new.entries ≡ mid.entries ++ es
        → HasRan n old (page_of new) ran.DiskFault
    faults es unable entries = record {
      added = so.added ++ es;
      entries = entries ∙ ap (λ (all : List Entry). all ++ es) so.entries ∙ append_assoc old.entries so.added es;
      ended = to.fault so.by e mid.state so.added es room so.turns its unable refl refl;
    }

    pub broken_off : (result : turn_type) → Turned e mid new result → result ≡ turn.Memory
        → HasRan n old (page_of new) ran.Memory
    broken_off result (turned.alone k given cs es rest (lacking is size) some step lasts first makes told) memory =
        lacks _ (alone (token_of k.calls.row) k.asked given (turned.lacking refl size)
        (alone_step mid.state e k given cs es rest some step lasts first) makes.state refl) makes.entries
    broken_off result (turned.alone k given cs es rest (failed is) some step lasts first makes told) memory = cc
    broken_off result (turned.unkept given cs es is quiet some step lasts tied un) memory = cc
    broken_off result (turned.unmade is un) memory =
        lacks [] (unmade (inl refl) un.state refl) (un.entries ∙ sym (append-none mid.entries))
    broken_off result (turned.quiet given cs es is quiet step lasts tied makes same) memory = cc
    broken_off result (turned.called k given cs es rest is step lasts first makes told) memory = cc
    broken_off result (turned.idle is rests un) memory = cc
    broken_off result (turned.lost is lost un) memory = cc
    broken_off result (turned.worn is by un) memory = cc

    pub failed_off : (result : turn_type) → Turned e mid new result → result ≡ turn.DiskFault
        → HasRan n old (page_of new) ran.DiskFault
    failed_off result (turned.alone k given cs es rest (lacking is size) some step lasts first makes told) fault = cc
    failed_off result (turned.alone k given cs es rest (failed is) some step lasts first makes told) fault =
        faults _ (alone (token_of k.calls.row) k.asked given (turned.failed refl)
        (alone_step mid.state e k given cs es rest some step lasts first) makes.state refl) makes.entries
    failed_off result (turned.unkept given cs es is quiet some step lasts tied un) fault =
        faults [] (unmade (inr refl) un.state refl) (un.entries ∙ sym (append-none mid.entries))
    failed_off result (turned.unmade is un) fault = cc
    failed_off result (turned.quiet given cs es is quiet step lasts tied makes same) fault = cc
    failed_off result (turned.called k given cs es rest is step lasts first makes told) fault = cc
    failed_off result (turned.idle is rests un) fault = cc
    failed_off result (turned.lost is lost un) fault = cc
    failed_off result (turned.worn is by un) fault = cc

module _ (n : ℕ) (old new : Page) (made last : ℕ) (so : SoFar old new made last) where
  pub rested : made ≤ n → IsIdle new.state → HasRan n old new (ran.Idle made)
  rested within rests = record {
    added = so.added;
    entries = so.entries;
    ended = to.idle so.by (let c = so.count in omega (arith, c, within)) so.turns rests (ap ran.Idle (sym so.count));
  }

  pub tired_out : made ≡ n → ¬ IsIdle new.state → HasRan n old new (ran.Tired n)
  tired_out all busy = record {
    added = so.added;
    entries = so.entries;
    ended = to.tired so.by (so.count ∙ all) so.turns busy refl;
  }

-- all turns were made when the book came to rest
pub idle_all : (n made : ℕ) (old new : Page) → made ≡ n → HasRan n old new (ran.Idle made) → HasRan n old new (ran.Idle n)
idle_all n made old new all it = subst (λ (m : ℕ). HasRan n old new (ran.Idle m)) all it

-- the last engine's number may be spelled otherwise
pub so_at : (old new : Page) (made l m : ℕ) → m ≡ l → SoFar old new made l → SoFar old new made m
so_at old new made l m is so = subst (λ (x : ℕ). SoFar old new made x) (sym is) so
