-- What a change wears out, read off its form.
use Rattle.std.proofs.Common.{◌≡◌, ◌⊎◌, inl, inr, ◌^◌, ◌≤◌, ◌<◌, ◌↔◌, ℕ, List, Bool, true, false, refl, sym, subst, length, get_or}
use Rattle.std.specs.Prelude.{IsTrue}
use Rattle.std.proofs.Math.Dec.{leb}
use Rattle.std.proofs.lemmas.Bool.{both_ways, le-leb, leb-true}
use Rattle.heat_plan.specs.declared.token.Token.{Token}
use Rattle.traversal_graph.specs.declared.shape.TravGraph.{TravGraph}
use Rattle.row_table.specs.declared.row.Row.{Row}
use Rattle.sync_points.specs.declared.point.Point.{Point}
use Rattle.mail_table.specs.declared.mail.Job.{Job}
use Rattle.mail_table.specs.declared.mail.Letter.{Letter}
use Rattle.core_state.specs.declared.past.Past.{Past}
use Rattle.core_state.specs.declared.stack.Stack.{Stack}
use Rattle.core_state.specs.declared.change.Change.{Change}
use Rattle.core_state.specs.declared.change.Change.TheVariants.{DropRow, DropStack, Drop, EndJob, Enlist, Numbers, PutGraph, PutJob, PutPast, PutPoint, PutRow, PutStack, Release, Send, Stop}
use Rattle.core_state.specs.declared.numbers.Numbers.{Numbers as numbers}
use Rattle.step_relation.specs.Turns.{IsWorn, Overflows, engine, key, letter, row, stack, trav}

-- a row overflows by its key alone
pub row_wears : (c : Change) (r : Row) → c ≡ PutRow r → IsTrue (leb (2 ^ 62) r.key) ↔ Overflows c
row_wears c r is = (λ le. rw is (key r (leb-true (2 ^ 62) r.key le)), λ o. le-leb (2 ^ 62) r.key (read r (subst Overflows is o))) where
  read : (r : Row) → Overflows (PutRow r) → 2 ^ 62 ≤ r.key
  read r (key q le) = le

-- a test that failed
never_past : (n : ℕ) (b : Bool) → (2 ^ 62 < n → IsTrue b) → b ≡ false → ¬ (2 ^ 62 < n)
never_past n b says fails over = both_ways b fails (says over)

-- where the first four are within, the last alone is past
pub last_overflows : (n : numbers) (a b c d : Bool) → (2 ^ 62 < n.stack → IsTrue a) → a ≡ false → (2 ^ 62 < n.trav → IsTrue b) → b ≡ false
    → (2 ^ 62 < n.row → IsTrue c) → c ≡ false → (2 ^ 62 < n.engine → IsTrue d) → d ≡ false
    → Overflows (Numbers n) → 2 ^ 62 < n.letter
last_overflows n a b c d sa fa sb fb sc fc sd fd (stack q over) = absurd (never_past n.stack a sa fa over)
last_overflows n a b c d sa fa sb fb sc fc sd fd (trav q over) = absurd (never_past n.trav b sb fb over)
last_overflows n a b c d sa fa sb fb sc fc sd fd (row q over) = absurd (never_past n.row c sc fc over)
last_overflows n a b c d sa fa sb fb sc fc sd fd (engine q over) = absurd (never_past n.engine d sd fd over)
last_overflows n a b c d sa fa sb fb sc fc sd fd (letter q over) = over

-- no other change does
abbrev may : Change → Bool
may (PutStack x) = false
may (DropStack x) = false
may (PutRow x) = true
may (DropRow x) = false
may (PutGraph x y) = false
may (PutPoint x) = false
may (Send x) = false
may (Drop x) = false
may (PutJob x) = false
may (EndJob x) = false
may (Enlist x) = false
may (Stop x) = false
may (Numbers x) = true
may (PutPast x) = false
may (Release x) = false

overflowing : (c : Change) → Overflows c → may c ≡ true
overflowing c (stack q over) = refl
overflowing c (trav q over) = refl
overflowing c (row q over) = refl
overflowing c (engine q over) = refl
overflowing c (letter q over) = refl
overflowing c (key q le) = refl

never : (c : Change) → may c ≡ false → ¬ Overflows c
never c is o = both_ways (may c) is (overflowing c o)

pub no_other : (c : Change)
    → ((x : Stack) × (c ≡ PutStack x)) ⊎ (((x : List ℕ) × (c ≡ DropStack x)) ⊎ (((x : ℕ) × (c ≡ DropRow x))
    ⊎ (((x : List ℕ) × (y : TravGraph) × (c ≡ PutGraph x y)) ⊎ (((x : Point) × (c ≡ PutPoint x)) ⊎ (((x : Letter) × (c ≡ Send x))
    ⊎ (((x : ℕ) × (c ≡ Drop x)) ⊎ (((x : Job) × (c ≡ PutJob x)) ⊎ (((x : ℕ) × (c ≡ EndJob x)) ⊎ (((x : ℕ) × (c ≡ Enlist x))
    ⊎ (((x : ℕ) × (c ≡ Stop x)) ⊎ (((x : Past) × (c ≡ PutPast x)) ⊎ ((x : Token) × (c ≡ Release x)))))))))))))
    → ¬ Overflows c
no_other c (inl (x, is)) = never c (rw is refl)
no_other c (inr (inl (x, is))) = never c (rw is refl)
no_other c (inr (inr (inl (x, is)))) = never c (rw is refl)
no_other c (inr (inr (inr (inl (x, y, is))))) = never c (rw is refl)
no_other c (inr (inr (inr (inr (inl (x, is)))))) = never c (rw is refl)
no_other c (inr (inr (inr (inr (inr (inl (x, is))))))) = never c (rw is refl)
no_other c (inr (inr (inr (inr (inr (inr (inl (x, is)))))))) = never c (rw is refl)
no_other c (inr (inr (inr (inr (inr (inr (inr (inl (x, is))))))))) = never c (rw is refl)
no_other c (inr (inr (inr (inr (inr (inr (inr (inr (inl (x, is)))))))))) = never c (rw is refl)
no_other c (inr (inr (inr (inr (inr (inr (inr (inr (inr (inl (x, is))))))))))) = never c (rw is refl)
no_other c (inr (inr (inr (inr (inr (inr (inr (inr (inr (inr (inl (x, is)))))))))))) = never c (rw is refl)
no_other c (inr (inr (inr (inr (inr (inr (inr (inr (inr (inr (inr (inl (x, is))))))))))))) = never c (rw is refl)
no_other c (inr (inr (inr (inr (inr (inr (inr (inr (inr (inr (inr (inr (x, is))))))))))))) = never c (rw is refl)

-- a list is worn where no place of it is
pub none_worn : (cs : List Change) → ((k : ℕ) (d : Change) → k < length cs → ¬ Overflows (get_or cs k d)) → ¬ IsWorn cs
none_worn cs none w =
    let (k, lt, is) = w.among in
    none k w.change lt (subst Overflows (sym is) w.overflows)
