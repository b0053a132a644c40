-- What a begin decides is one: at an update node by row and properties, at a clean-up node by the row.
use Rattle.std.proofs.Common.{◌≡◌, ◌≢◌, ℕ, Option, None, Some, refl}
use Rattle.heat_value.specs.Data.{Members}
use Rattle.heat_plan.specs.declared.item.Item.{Item}
use Rattle.heat_plan.specs.declared.item.Policy.TheVariants.{Retain}
use Rattle.heat_plan.specs.declared.phase.Act.TheVariants.{Init}
use Rattle.heat_plan.specs.declared.phase.Status.TheVariants.{Complete, Failed, InProgress}
use Rattle.row_table.specs.declared.row.Row.{Row}
use Rattle.core_state.specs.State.{StateData}
use Rattle.core_state.specs.declared.stack.Stack.{Stack}
use Rattle.type_catalog.specs.declared.effect.Effect.{Effect}
use Rattle.history_laws.specs.Begins.{IsSame, IsSoft, MustGo, changed, given_up, overtaken}
use Rattle.history_laws.specs.Cleanups.{IsKept, IsStuck}

-- what becomes of a row at an update node
pub data Fate : Type 0 where
  Created Kept Updated Resumed Left Replaced : Fate

pub data Decides (r : Row) (item : Item) (trav : ℕ) (props : Members) (effect : Effect) : Fate → Type 0 where
  creates : r.act ≡ Init → Decides r item trav props effect Created
  keeps : r.act ≢ Init → r.status ≡ Complete → IsSame r item props → Decides r item trav props effect Kept
  updates : r.act ≢ Init → r.status ≡ Complete → IsSoft r item props effect → Decides r item trav props effect Updated
  resumes : r.act ≢ Init → r.status ≡ InProgress → r.trav ≡ trav → Decides r item trav props effect Resumed
  leaves : r.act ≢ Init → r.status ≡ Failed → r.trav ≡ trav → Decides r item trav props effect Left
  replaces : r.act ≢ Init → MustGo r item trav props effect → Decides r item trav props effect Replaced

module _ (r : Row) (item : Item) (trav : ℕ) (props : Members) (effect : Effect) where
  same_goes : r.status ≡ Complete → IsSame r item props → MustGo r item trav props effect → ⊥
  same_goes d is (changed c differs hard) = differs is
  same_goes d is (overtaken c other) = cc
  same_goes d is (given_up c other) = cc

  soft_goes : r.status ≡ Complete → IsSoft r item props effect → MustGo r item trav props effect → ⊥
  soft_goes d is (changed c differs hard) = hard is
  soft_goes d is (overtaken c other) = cc
  soft_goes d is (given_up c other) = cc

  going_goes : r.status ≡ InProgress → r.trav ≡ trav → MustGo r item trav props effect → ⊥
  going_goes d is (changed c differs hard) = cc
  going_goes d is (overtaken c other) = other is
  going_goes d is (given_up c other) = cc

  failed_goes : r.status ≡ Failed → r.trav ≡ trav → MustGo r item trav props effect → ⊥
  failed_goes d is (changed c differs hard) = cc
  failed_goes d is (overtaken c other) = cc
  failed_goes d is (given_up c other) = other is

  pub fate_one : (a b : Fate) → Decides r item trav props effect a → Decides r item trav props effect b → a ≡ b
  fate_one a b (creates i) (creates j) = refl
  fate_one a b (creates i) (keeps n c x) = absurd (n i)
  fate_one a b (creates i) (updates n c x) = absurd (n i)
  fate_one a b (creates i) (resumes n c x) = absurd (n i)
  fate_one a b (creates i) (leaves n c x) = absurd (n i)
  fate_one a b (creates i) (replaces n x) = absurd (n i)
  fate_one a b (keeps n c x) (creates i) = absurd (n i)
  fate_one a b (keeps n c x) (keeps m d y) = refl
  fate_one a b (keeps n c x) (updates m d y) = absurd (y.differs x.props_are)
  fate_one a b (keeps n c x) (resumes m d y) = cc
  fate_one a b (keeps n c x) (leaves m d y) = cc
  fate_one a b (keeps n c x) (replaces m y) = absurd (same_goes c x y)
  fate_one a b (updates n c x) (creates i) = absurd (n i)
  fate_one a b (updates n c x) (keeps m d y) = absurd (x.differs y.props_are)
  fate_one a b (updates n c x) (updates m d y) = refl
  fate_one a b (updates n c x) (resumes m d y) = cc
  fate_one a b (updates n c x) (leaves m d y) = cc
  fate_one a b (updates n c x) (replaces m y) = absurd (soft_goes c x y)
  fate_one a b (resumes n c x) (creates i) = absurd (n i)
  fate_one a b (resumes n c x) (keeps m d y) = cc
  fate_one a b (resumes n c x) (updates m d y) = cc
  fate_one a b (resumes n c x) (resumes m d y) = refl
  fate_one a b (resumes n c x) (leaves m d y) = cc
  fate_one a b (resumes n c x) (replaces m y) = absurd (going_goes c x y)
  fate_one a b (leaves n c x) (creates i) = absurd (n i)
  fate_one a b (leaves n c x) (keeps m d y) = cc
  fate_one a b (leaves n c x) (updates m d y) = cc
  fate_one a b (leaves n c x) (resumes m d y) = cc
  fate_one a b (leaves n c x) (leaves m d y) = refl
  fate_one a b (leaves n c x) (replaces m y) = absurd (failed_goes c x y)
  fate_one a b (replaces n x) (creates i) = absurd (n i)
  fate_one a b (replaces n x) (keeps m d y) = absurd (same_goes d y x)
  fate_one a b (replaces n x) (updates m d y) = absurd (soft_goes d y x)
  fate_one a b (replaces n x) (resumes m d y) = absurd (going_goes d y x)
  fate_one a b (replaces n x) (leaves m d y) = absurd (failed_goes d y x)
  fate_one a b (replaces n x) (replaces m y) = refl

-- what becomes of a row at a clean-up node
pub data Lot : Type 0 where
  Passed : Lot
  Purged : Row → Lot
  Stuck : Row → Lot
  Retained : Row → Lot
  Deleted : Row → Lot

pub data Clears (s : StateData) (st : Stack) : Option Row → Lot → Type 0 where
  gone : Clears s st None Passed
  kept : (r : Row) → IsKept s st r → Clears s st (Some r) Passed
  purges : (r : Row) → ¬ IsKept s st r → r.act ≡ Init → Clears s st (Some r) (Purged r)
  sticks : (r : Row) → ¬ IsKept s st r → IsStuck r st.trav → Clears s st (Some r) (Stuck r)
  retains : (r : Row) → ¬ IsKept s st r → r.act ≢ Init → ¬ IsStuck r st.trav → r.policy ≡ Retain
      → Clears s st (Some r) (Retained r)
  deletes : (r : Row) → ¬ IsKept s st r → r.act ≢ Init → ¬ IsStuck r st.trav → r.policy ≢ Retain
      → Clears s st (Some r) (Deleted r)

module _ (s : StateData) (st : Stack) where
  new_stuck : (r : Row) → r.act ≡ Init → IsStuck r st.trav → ⊥
  new_stuck r i x = let d = x.act in cc

  pub lot_one : (row : Option Row) (a b : Lot) → Clears s st row a → Clears s st row b → a ≡ b
  lot_one row a b gone gone = refl
  lot_one row a b (kept r x) (kept _ y) = refl
  lot_one row a b (kept r x) (purges _ y i) = absurd (y x)
  lot_one row a b (kept r x) (sticks _ y i) = absurd (y x)
  lot_one row a b (kept r x) (retains _ y i f p) = absurd (y x)
  lot_one row a b (kept r x) (deletes _ y i f p) = absurd (y x)
  lot_one row a b (purges r x i) (kept _ y) = absurd (x y)
  lot_one row a b (purges r x i) (purges _ y j) = refl
  lot_one row a b (purges r x i) (sticks _ y j) = absurd (new_stuck r i j)
  lot_one row a b (purges r x i) (retains _ y j f p) = absurd (j i)
  lot_one row a b (purges r x i) (deletes _ y j f p) = absurd (j i)
  lot_one row a b (sticks r x i) (kept _ y) = absurd (x y)
  lot_one row a b (sticks r x i) (purges _ y j) = absurd (new_stuck r j i)
  lot_one row a b (sticks r x i) (sticks _ y j) = refl
  lot_one row a b (sticks r x i) (retains _ y j f p) = absurd (f i)
  lot_one row a b (sticks r x i) (deletes _ y j f p) = absurd (f i)
  lot_one row a b (retains r x i f p) (kept _ y) = absurd (x y)
  lot_one row a b (retains r x i f p) (purges _ y j) = absurd (i j)
  lot_one row a b (retains r x i f p) (sticks _ y j) = absurd (f j)
  lot_one row a b (retains r x i f p) (retains _ y j g q) = refl
  lot_one row a b (retains r x i f p) (deletes _ y j g q) = absurd (q p)
  lot_one row a b (deletes r x i f p) (kept _ y) = absurd (x y)
  lot_one row a b (deletes r x i f p) (purges _ y j) = absurd (i j)
  lot_one row a b (deletes r x i f p) (sticks _ y j) = absurd (f j)
  lot_one row a b (deletes r x i f p) (retains _ y j g q) = absurd (p q)
  lot_one row a b (deletes r x i f p) (deletes _ y j g q) = refl
