-- The names of chosen resources rise as those of all do.
use Rattle.std.proofs.Common.{◌≡◌, ℕ, List, [], ◌∷◌, Bool, true, false, if◌then◌else◌}
use Rattle.std.specs.Bool.{beq}
use Rattle.std.specs.Cmp.Lexicographic.{slice_cmp}
use Rattle.std.specs.List.{AllByRecursion}
use Rattle.std.specs.List.Sorted.{IsStrictlySortedBy}
use Rattle.std.specs.Ordering.{nat_cmp}
use Rattle.std.specs.declared.cmp.Ordering.TheVariants.{Less}
use Rattle.heat_plan.specs.Order.{Rising}
use Rattle.hot_admit.specs.Items.{names_marked}
use Rattle.hot_admit.specs.Resources.{ResourceData, names_of}
use Rattle.hot_admit.specs.declared.conds.Wanted.{Wanted}

-- they come after the name
abbrev pub Behind : List ℕ → List (List ℕ) → Type 0
Behind n ns = AllByRecursion (λ y. slice_cmp nat_cmp n y ≡ Less) ns

pub behind_marked : (n : List ℕ) (b : Bool) (rs : List ResourceData) (ws : List Wanted) → Behind n (names_of rs)
    → Behind n (names_marked b rs ws)
behind_marked n b [] ws h = tt
behind_marked n b (r ∷ rs) [] h = tt
behind_marked n b (r ∷ rs) (w ∷ ws) h = by (beq w.wanted b) (behind_marked n b rs ws h.1)
  where
    by : (c : Bool) → Behind n (names_marked b rs ws)
        → Behind n (if c then r.name ∷ names_marked b rs ws else names_marked b rs ws)
    by true k = (h.0, k)
    by false k = k

pub rising_marked : (b : Bool) (rs : List ResourceData) (ws : List Wanted) → Rising (names_of rs)
    → Rising (names_marked b rs ws)
unfolding IsStrictlySortedBy
rising_marked b [] ws h = tt
rising_marked b (r ∷ rs) [] h = tt
rising_marked b (r ∷ rs) (w ∷ ws) h = by (beq w.wanted b) (rising_marked b rs ws h.1)
  where
    by : (c : Bool) → Rising (names_marked b rs ws)
        → Rising (if c then r.name ∷ names_marked b rs ws else names_marked b rs ws)
    by true k = (behind_marked r.name b rs ws h.0, k)
    by false k = k
