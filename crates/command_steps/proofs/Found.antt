-- Of a stack's rows, by rising number, the last one that is current of a name is its name's current row.
use Rattle.std.proofs.Common.{◌≡◌, ◌≢◌, ◌∙◌, inl, inr, ◌<◌, ◌≤◌, ◌+◌, ℕ, Bool, true, false, cond, List, [], ◌∷◌, Option, Some, None, map, refl, sym, ap, arith}
use Rattle.std.specs.Prelude.{Contains, nat_eq}
use Rattle.std.specs.Str.{bytes_eq}
use Rattle.std.proofs.lemmas.Bool.Decides.{Decides-eqb}
use Rattle.std.proofs.lemmas.Slice.Eq.{bytes_eq-Decides}
use Rattle.dep_graph.specs.Lists.{IsRising}
use Rattle.heat_plan.specs.Tables.{at}
use Rattle.heat_plan.specs.declared.item.Item.{Item}
use Rattle.heat_plan.specs.declared.phase.Act.{Act}
use Rattle.heat_plan.specs.declared.phase.Act.TheVariants.{Create, Delete, Init, Rollback, Update}
use Rattle.row_table.specs.Chains.{IsCurrent}
use Rattle.row_table.specs.Rows.{row_at, row_key}
use Rattle.row_table.specs.declared.row.Row.{Row}
use Rattle.core_state.specs.State.{StateData}
use Rattle.step_relation.specs.Commands.{AreRowsOf, Chooses, current, fresh, none}
use Rattle.step_relation.specs.Targets.{HasNoCurrent, IsCurrentOf}
use Rattle.command_steps.specs.Choices.{found_for, has_none, is_current, is_kept, last_for, numbered, or_else, rows_made, stands_for}
use Rattle.command_steps.proofs.Members.{below, cons_cases, in_head, in_tail, no_member, rising-tail}

-- the test of a current row
both : (a b : Bool) → cond a b false ≡ true → (a ≡ true) × (b ≡ true)
both true b is = (refl, is)
both false b is = cc

pub current_is : (r : Row) → is_current r ≡ true → IsCurrent r
current_is r is =
    let (kept, last) = both (is_kept r.act) (has_none r.replaced_by) is in
    record { kept = λ at. absurd (true_false (sym kept ∙ ap is_kept at)); last = no_one r.replaced_by last }
  where
    true_false : true ≡ false → ⊥
    true_false e = cc

    no_one : (o : Option ℕ) → has_none o ≡ true → o ≡ None
    no_one None e = refl
    no_one (Some n) e = cc

pub is_current-of : (r : Row) → IsCurrent r → is_current r ≡ true
is_current-of r h = rw (kept r.act h.kept, h.last) refl where
  kept : (a : Act) → a ≢ Delete → is_kept a ≡ true
  kept Delete ne = absurd (ne refl)
  kept Init ne = refl
  kept Create ne = refl
  kept Update ne = refl
  kept Rollback ne = refl

pub stands_is : (r : Row) (name : List ℕ) → stands_for r name ≡ true → IsCurrent r × (r.name ≡ name)
stands_is r name is =
    let (now, named) = both (is_current r) (bytes_eq r.name name) is in
    (current_is r now, (bytes_eq-Decides r.name name).0 named)

pub stands_for-of : (r : Row) (name : List ℕ) → IsCurrent r → r.name ≡ name → stands_for r name ≡ true
stands_for-of r name now named = rw (is_current-of r now) ((bytes_eq-Decides r.name name).1 named)

-- the last of the rows that stands for the name
record Lasts (rows : List Row) (name : List ℕ) (n : ℕ) : Type 0 where
  row : Row
  among : Contains rows row
  number : row.no ≡ n
  stands : stands_for row name ≡ true
  greatest : (q : Row) → Contains rows q → stands_for q name ≡ true → q.no ≤ n

-- none of the rows stands for the name
abbrev Lacks : List Row → List ℕ → Type 0
Lacks rows name = (q : Row) → Contains rows q → stands_for q name ≡ false

lacks : (rows : List Row) (name : List ℕ) → last_for rows name ≡ None → Lacks rows name
lacks [] name is q c = absurd (no_member q c)
lacks (r ∷ rows) name is q c = by (last_for rows name) refl is (lacks rows name) (stands_for r name) refl where
  by : (o : Option ℕ) → last_for rows name ≡ o → or_else o (cond (stands_for r name) (Some r.no) None) ≡ None
      → (last_for rows name ≡ None → Lacks rows name) → (b : Bool) → stands_for r name ≡ b → stands_for q name ≡ false
  by (Some n) o e behind b s = cc
  by None o e behind true s = let f : Some r.no ≡ None = rw s at e in cc
  by None o e behind false s = elim (cons_cases rows r q c) [ inl same ↦ rw same s | inr later ↦ behind o q later ]

lasts : (rows : List Row) (name : List ℕ) (n : ℕ) → IsRising (map row_key rows) → last_for rows name ≡ Some n
    → Lasts rows name n
lasts [] name n up is = cc
lasts (r ∷ rows) name n up is =
    by (last_for rows name) refl is (lasts rows name n (rising-tail row_key r rows up)) (lacks rows name)
    (stands_for r name) refl
  where
    by : (o : Option ℕ) → last_for rows name ≡ o → or_else o (cond (stands_for r name) (Some r.no) None) ≡ Some n
        → (last_for rows name ≡ Some n → Lasts rows name n) → (last_for rows name ≡ None → Lacks rows name)
        → (b : Bool) → stands_for r name ≡ b → Lasts (r ∷ rows) name n
    by (Some m) o e found none_ b s =
        let h = found (o ∙ e) in
        let first : r.no < h.row.no = below row_key r rows up h.row h.among in
        record {
          row = h.row;
          among = in_tail rows r h.row h.among;
          number = h.number;
          stands = h.stands;
          greatest = λ q c at. elim (cons_cases rows r q c) [
            | inl same ↦ omega (arith, first, h.number, ap row_key same)
            | inr later ↦ h.greatest q later at
          ];
        }
    by None o e found none_ true s =
        let number : Some r.no ≡ Some n = rw s at e in
        let same_no : r.no ≡ n = cc in
        record {
          row = r;
          among = in_head rows r;
          number = same_no;
          stands = s;
          greatest = λ q c at. elim (cons_cases rows r q c) [
            | inl same ↦ omega (arith, same_no, ap row_key same)
            | inr later ↦ let f : true ≡ false = sym at ∙ none_ o q later in cc
          ];
        }
    by None o e found none_ false s = let f : None ≡ Some n = rw s at e in cc

-- a row stands under its number
pub row-key : (rows : List Row) (n : ℕ) (r : Row) → row_at rows n ≡ Some r → r.no ≡ n
unfolding at
row-key [] n r h = cc
row-key (q ∷ rows) n r h = by (nat_eq q.no n) refl h (row-key rows n r) where
  by : (b : Bool) → nat_eq q.no n ≡ b → cond b (Some q) (row_at rows n) ≡ Some r → (row_at rows n ≡ Some r → r.no ≡ n)
      → r.no ≡ n
  by true is e behind = let same : q ≡ r = cc in sym (ap row_key same) ∙ (Decides-eqb q.no n).0 is
  by false is e behind = behind e

module _ (rows : List Row) (stack : List ℕ) (standing : List Row) (are : AreRowsOf rows stack standing) where
  current_of : (name : List ℕ) (n : ℕ) (h : Lasts standing name n) → IsCurrentOf rows stack name h.row
  current_of name n h =
      let (found, stack_is) = are.only h.row h.among in
      let (now, named) = stands_is h.row name h.stands in
      record {
        found = found;
        stack_is = stack_is;
        name_is = named;
        current = now;
        greatest = λ m q at in_stack called q_now.
            let there : q.no ≤ n = h.greatest q (are.each m q at in_stack) (stands_for-of q name q_now called) in
            omega (arith, there, h.number, row-key rows m q at);
      }

  no_current : (name : List ℕ) → Lacks standing name → HasNoCurrent rows stack name
  no_current name h m q at in_stack called now =
      let f : true ≡ false = sym (stands_for-of q name now called) ∙ h q (are.each m q at in_stack) in cc

pub chooses : (s : StateData) (stack : List ℕ) (trav next : ℕ) (standing : List Row) → AreRowsOf s.rows stack standing
    → (items : List Item)
    → Chooses s stack trav next items (numbered next (found_for standing items))
    (rows_made stack trav next items (found_for standing items))
chooses s stack trav next standing are [] = none next
chooses s stack trav next standing are (item ∷ items) =
    by (last_for standing item.name) refl (λ number. chooses s stack trav number standing are items)
  where
    found : List (Option ℕ)
    found = found_for standing items

    by : (o : Option ℕ) → last_for standing item.name ≡ o
        → ((number : ℕ)
        → Chooses s stack trav number items (numbered number found) (rows_made stack trav number items found))
        → Chooses s stack trav next (item ∷ items) (numbered next (o ∷ found))
        (rows_made stack trav next (item ∷ items) (o ∷ found))
    by (Some n) is behind =
        let h = lasts standing item.name n are.rising is in
        rw (← h.number)
        (current next item items h.row (numbered next found) (rows_made stack trav next items found)
        (current_of s.rows stack standing are item.name n h) (behind next))
    by None is behind =
        fresh next item items (numbered (next + 1) found) (rows_made stack trav (next + 1) items found)
        (no_current s.rows stack standing are item.name (lacks standing item.name is)) (behind (next + 1))
