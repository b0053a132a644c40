-- Changes with small numbers are not worn: `unworn`.
use Rattle.std.proofs.Common.{Bool, List, [], arith, inl, inr, refl, subst, sym, true, ℕ, ◌+◌, ◌<◌, ◌∷◌, ◌≡◌}
use Rattle.std.specs.Prelude.{false, ltb, ◌&&◌, ◌^◌}
use Rattle.std.proofs.lemmas.Bool.Decides.{Decides-ltb}
use Rattle.core_state.specs.declared.change.Change.{Change}
use Rattle.core_state.specs.declared.change.Change.TheVariants.{PutRow}
use Rattle.step_relation.specs.Turns.{IsWorn, Overflows, engine, key, letter, row, stack, trav}
use Rattle.history_laws.proofs.tables.Puts.{contains_cases, contains_none}
use Rattle.core_state.specs.declared.change.Change.TheVariants as change_to

-- no number and no key is near 2^62
abbrev pub small : Change → Bool
small (change_to.Numbers n) = ltb (n.stack + (n.trav + (n.row + (n.engine + n.letter)))) (2 ^ 62)
small (PutRow r) = ltb r.key (2 ^ 62)
small c = true

abbrev pub all_small : List Change → Bool
all_small [] = true
all_small (c ∷ cs) = small c && all_small cs

below : (a b : ℕ) → ltb a b ≡ true → a < b
below a b is = (Decides-ltb a b).0 is

fits : (c : Change) → small c ≡ true → Overflows c → ⊥
fits (change_to.Numbers n) is (stack _ past) = let b = below _ _ is in omega (arith, b, past)
fits (change_to.Numbers n) is (trav _ past) = let b = below _ _ is in omega (arith, b, past)
fits (change_to.Numbers n) is (row _ past) = let b = below _ _ is in omega (arith, b, past)
fits (change_to.Numbers n) is (engine _ past) = let b = below _ _ is in omega (arith, b, past)
fits (change_to.Numbers n) is (letter _ past) = let b = below _ _ is in omega (arith, b, past)
fits (change_to.PutStack _) is o = elim o [ ]
fits (change_to.DropStack _) is o = elim o [ ]
fits (change_to.DropRow _) is o = elim o [ ]
fits (change_to.PutGraph _ _) is o = elim o [ ]
fits (change_to.PutPoint _) is o = elim o [ ]
fits (change_to.Send _) is o = elim o [ ]
fits (change_to.Drop _) is o = elim o [ ]
fits (change_to.PutJob _) is o = elim o [ ]
fits (change_to.EndJob _) is o = elim o [ ]
fits (change_to.Enlist _) is o = elim o [ ]
fits (change_to.Stop _) is o = elim o [ ]
fits (change_to.PutPast _) is o = elim o [ ]
fits (change_to.Release _) is o = elim o [ ]
fits (PutRow r) is (key _ past) = let b = below _ _ is in omega (arith, b, past)

both : (a b : Bool) → (a && b) ≡ true → (a ≡ true) × (b ≡ true)
both true b is = (refl, is)
both false b is = cc

pub unworn : (cs : List Change) → all_small cs ≡ true → ¬ IsWorn cs
unworn [] is w = contains_none w.change w.among
unworn (c ∷ cs) is w =
    let (one, more) = both (small c) (all_small cs) is in
    elim (contains_cases c w.change cs w.among) [
      | inl same ↦ fits c one (subst Overflows (sym same) w.overflows)
      | inr there ↦ unworn cs more (record { change = w.change; among = there; overflows = w.overflows })
    ]
