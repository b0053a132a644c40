-- What a book keeps through a compaction of its keeper, and what it halts with.
use Rattle.std.proofs.Common.{List, ap, refl, subst, sym, ℕ, ◌∙◌, ◌≡◌}
use Rattle.std.specs.Prelude.{Err, None, Ok, Option, Result, Some}
use Rattle.heat_value.specs.Counts.{Rose}
use Rattle.provider.specs.Cloud.{Cloud}
use Rattle.core_state.specs.State.{StateData}
use Rattle.core_state.specs.declared.entry.Entry.{Entry}
use Rattle.record_keeper.specs.Laws.{IsLawful}
use Rattle.record_keeper.specs.Shown.{ShownKeeper}
use Rattle.book.specs.Compactions.{Compacts, Shortens}
use Rattle.book.specs.Compactions as compactions
use Rattle.book.specs.Crashes.{IsLeft}
use Rattle.book.specs.Halting.{halt_compacting}
use Rattle.book.specs.Halts.{IsHaltedAs}
use Rattle.book.specs.Kept.{IsHeld, IsKept, Shown}
use Rattle.book.specs.declared.compacting.Uncompacted.TheVariants as why
use Rattle.book.specs.declared.compacting.Uncompacted.{Uncompacted}
use Rattle.book.specs.declared.halting.Halt.TheVariants as halt
use Rattle.book.specs.declared.halting.Halt.{Halt}
use Rattle.book.proofs.Crashed.{left_resting}
use Rattle.book.proofs.Growing.{stays, unasked}
use Rattle.book.proofs.Held.{goes_then, rose_since}

-- only a fault of the keeper halts by a compaction
fault_halts : (r : Result (Unit {0}) Uncompacted) → r ≡ Err why.DiskFault → halt_compacting r ≡ Some halt.DiskFault
fault_halts r is = ap halt_compacting is

compacting_halts : (first now : ℕ) (s : StateData) (r : Result (Unit {0}) Uncompacted)
    → (r ≡ Err why.DiskFault → Rose first now) → IsHaltedAs first now s (halt_compacting r)
compacting_halts first now s (Ok u) rose = tt
compacting_halts first now s (Err why.DiskFault) rose = rose refl
compacting_halts first now s (Err why.Memory) rose = tt

module _ (s : StateData) (k l : ShownKeeper) (n0 n1 : ℕ) (r : Result (Unit {0}) Uncompacted)
    (it : Shortens s k l n0 n1 r) (h : Option Halt) (is : h ≡ halt_compacting r) where
  pub held_shortened : (origin : ShownKeeper) (first : ℕ) → IsHeld origin k first n0 s None
      → IsHeld origin l first n1 s h × IsHaltedAs first n1 s h
  held_shortened origin first held = (
    record {
      goes_on = goes_then origin k l first n0 n1 held.goes_on it.goes_on;
      stands = λ ne. it.stands (λ f. ne (is ∙ fault_halts r f));
      young = λ ne. it.young (λ f. ne (is ∙ fault_halts r f)) (held.young (λ x. cc));
    },
    subst (λ (x : Option Halt). IsHaltedAs first n1 s x) (sym is)
        (compacting_halts first n1 s r (λ f. rose_since first n0 n1 held.goes_on.later (it.rose f))),
  )

  module _ (first : StateData) (origin : Cloud) (es : List Entry) (c : Cloud)
      (kept : IsKept first origin s es c None) where
    pub kept_shortened : IsKept first origin s es c h
    kept_shortened = stays first origin s s es es c c h kept refl refl (unasked c)

    pub left_shortened : (opened : ShownKeeper) (may_open : StateData → Type 0) → IsLawful may_open l
        → IsLeft first origin opened k s es c None → IsLeft first origin opened l s es c h
    left_shortened opened may_open lawful was = left_resting first origin opened k l may_open lawful s es c h
        it.goes_on.tells kept.run kept.agrees was it.leaves

-- what a compaction makes of a book that isn't halted
pub compacted : {K P : Type 0} (shown : K → ShownKeeper) (faults_of : K → ℕ) (old : Shown K P) (keeper : K)
    (h : Option Halt) (r : Result (Unit {0}) Uncompacted) → h ≡ halt_compacting r → old.halt ≡ None
    → Shortens old.state (shown old.keeper) (shown keeper) (faults_of old.keeper) (faults_of keeper) r
    → Compacts shown faults_of old (record old { keeper = keeper; halt = h }) r
compacted {K} {P} shown faults_of old keeper h (Ok u) is none it = compactions.done refl
    (ap (λ (x : Option Halt). record old { keeper = keeper; halt = x }) (is ∙ sym none)) (it.short refl)
compacted {K} {P} shown faults_of old keeper h (Err why.DiskFault) is none it = compactions.failed refl
    (ap (λ (x : Option Halt). record old { keeper = keeper; halt = x }) is)
    (record { rose = it.rose refl; halted = is })
compacted {K} {P} shown faults_of old keeper h (Err why.Memory) is none it = compactions.lacking refl
    (ap (λ (x : Option Halt). record old { keeper = keeper; halt = x }) (is ∙ sym none)) (it.same refl)
