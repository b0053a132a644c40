-- A command finds the same rows where one was rewritten.
use Rattle.std.proofs.Common.{◌≡◌, ◌≢◌, inl, inr, ◌≤◌, ◌+◌, ◌∙◌, ℕ, suc, List, [], ◌∷◌, cond, Some, refl, sym, ap, subst, length, map}
use Rattle.std.specs.Prelude.{Contains, nat_eq}
use Rattle.std.proofs.lemmas.Bool.Decides.{Decides-eqb, eqb_tells}
use Rattle.heat_plan.specs.Tables.{at, put}
use Rattle.heat_plan.specs.declared.item.Item.{Item}
use Rattle.dep_graph.specs.Lists.{IsRising}
use Rattle.row_table.specs.Chains.{IsCurrent}
use Rattle.row_table.specs.Rows.{put_row, row_at, row_key}
use Rattle.row_table.specs.declared.row.Row.{Row}
use Rattle.core_state.specs.State.{StateData}
use Rattle.step_relation.specs.Commands.{AreRowsOf, Chooses, brief_of, current, fresh, none}
use Rattle.step_relation.specs.Targets.{HasNoCurrent, IsCurrentOf}
use Rattle.history_laws.proofs.tables.Puts.{contains_cases, contains_head, contains_none, contains_there}
use Rattle.history_laws.proofs.tables.Rows.{row-key, row_else, row_here, row_put, same_or_not, same_some}
use Rattle.step_ends.specs.Marks.{IsRewritten}

-- as many rows as before
pub length_put : (q : Row) (rows : List Row) → (r : Row) → row_at rows q.no ≡ Some r
    → length (put_row q rows) ≡ length rows
unfolding at put
length_put q [] r found = cc
length_put q (x ∷ xs) r found = elim (eqb_tells x.no q.no) [
  | inl t ↦ rw ((Decides-eqb x.no q.no).1 t.1) refl
  | inr f ↦ rw f.0 (ap suc (length_put q xs r (rw f.0 at found)))
]

-- of mapped lists
contains_map : {A B : Type 0} (f : A → B) (xs : List A) (x : A) → Contains xs x → Contains (map f xs) (f x)
contains_map f [] x c = absurd (contains_none x c)
contains_map f (y ∷ ys) x c = elim (contains_cases y x ys c) [
  | inl is ↦ subst (λ z. Contains (f y ∷ map f ys) (f z)) is (contains_head (f y) (map f ys))
  | inr later ↦ contains_there (f y) (f x) (map f ys) (contains_map f ys x later)
]

map_contains : {A B : Type 0} (f : A → B) (xs : List A) (y : B) → Contains (map f xs) y
    → (x : A) × Contains xs x × (f x ≡ y)
map_contains f [] y c = absurd (contains_none y c)
map_contains f (x ∷ xs) y c = elim (contains_cases (f x) y (map f xs) c) [
  | inl is ↦ (x, contains_head x xs, is)
  | inr later ↦ let (z, among, is) = map_contains f xs y later in (z, contains_there x z xs among, is)
]

map_same : {A B : Type 0} (f : A → A) (g : A → B) (xs : List A) → ((x : A) → Contains xs x → g (f x) ≡ g x)
    → map g (map f xs) ≡ map g xs
map_same f g [] same = refl
map_same f g (x ∷ xs) same =
    rw (same x (contains_head x xs), map_same f g xs (λ y among. same y (contains_there x y xs among))) refl

module _ (rows : List Row) (q : Row) (w : IsRewritten rows q) where
  -- the row that stood there, under the number that it is found at
  stood : (x : Row) → row_at rows x.no ≡ Some x → x.no ≡ q.no → w.old ≡ x
  stood x at is = same_some w.old x (subst (λ (n : ℕ). row_at rows n ≡ Some w.old) (sym is) w.found) at

  old_current : IsCurrent q → IsCurrent w.old
  old_current c = record { kept = λ e. c.kept (w.act ∙ e); last = sym w.replaced_by ∙ c.last }

  new_current : IsCurrent w.old → IsCurrent q
  new_current c = record { kept = λ e. c.kept (sym w.act ∙ e); last = w.replaced_by ∙ c.last }

  -- a current row has none above it, whichever of the two tables is looked at
  still_greatest : (stack name : List ℕ) (n : ℕ)
      → ((m : ℕ) (x : Row) → row_at rows m ≡ Some x → x.stack ≡ stack → x.name ≡ name → IsCurrent x → m ≤ n)
      → (m : ℕ) (x : Row) → row_at (put_row q rows) m ≡ Some x → x.stack ≡ stack → x.name ≡ name → IsCurrent x → m ≤ n
  still_greatest stack name n greatest m x at stack_is name_is is = elim (row_put q rows at) [
    | inl (here, same) ↦
        let was = subst (λ (y : Row). IsCurrent y) (sym same) is in
        let on = ap (λ (y : Row). y.stack) same in
        let named = ap (λ (y : Row). y.name) same in
        subst (λ (k : ℕ). k ≤ n) here (greatest q.no w.old w.found (sym w.stack ∙ (on
        ∙ stack_is)) (sym w.name ∙ (named ∙ name_is)) (old_current was))
    | inr (_, was) ↦ greatest m x was stack_is name_is is
  ]

  still_current : (stack name : List ℕ) (r : Row) → IsCurrentOf rows stack name r
      → (x : Row) × IsCurrentOf (put_row q rows) stack name x × (x.no ≡ r.no)
  still_current stack name r k = elim (same_or_not r.no q.no) [
    | inl is ↦ (q, rewritten is, sym is)
    | inr not ↦ (
      r,
      record {
        found = row_else q rows r.no (λ e. not (sym e)) ∙ k.found;
        stack_is = k.stack_is;
        name_is = k.name_is;
        current = k.current;
        greatest = still_greatest stack name r.no k.greatest;
      },
      refl,
    )
  ]
    where
      rewritten : r.no ≡ q.no → IsCurrentOf (put_row q rows) stack name q
      rewritten is = let same = stood r k.found is in record {
        found = row_here q rows;
        stack_is = w.stack ∙ (ap (λ (y : Row). y.stack) same ∙ k.stack_is);
        name_is = w.name ∙ (ap (λ (y : Row). y.name) same ∙ k.name_is);
        current = new_current (subst (λ (y : Row). IsCurrent y) (sym same) k.current);
        greatest = subst (λ (n : ℕ). (m : ℕ) (x : Row) → row_at (put_row q rows) m ≡ Some x → x.stack ≡ stack
            → x.name ≡ name → IsCurrent x → m ≤ n)
            is (still_greatest stack name r.no k.greatest);
      }

  still_none : (stack name : List ℕ) → HasNoCurrent rows stack name → HasNoCurrent (put_row q rows) stack name
  still_none stack name absent m x found stack_is name_is is = elim (row_put q rows found) [
    | inl (here, same) ↦ absent q.no w.old w.found (sym w.stack ∙ (ap (λ (y : Row). y.stack) same ∙ stack_is))
        (sym w.name ∙ (ap (λ (y : Row). y.name) same
        ∙ name_is)) (old_current (subst (λ (y : Row). IsCurrent y) (sym same) is))
    | inr (_, was) ↦ absent m x was stack_is name_is is
  ]

  -- the row of this number in the place of the old one
  abbrev swapped : Row → Row
  swapped x = cond (nat_eq x.no q.no) q x

  swapped_here : (x : Row) → x.no ≡ q.no → swapped x ≡ q
  swapped_here x is = rw ((Decides-eqb x.no q.no).1 is) refl

  swapped_else : (x : Row) → x.no ≢ q.no → swapped x ≡ x
  swapped_else x not = elim (eqb_tells x.no q.no) [ inl t ↦ absurd (not t.1) | inr f ↦ rw f.0 refl ]

  swapped_key : (x : Row) → (swapped x).no ≡ x.no
  swapped_key x = elim (same_or_not x.no q.no) [
    | inl is ↦ ap (λ (y : Row). y.no) (swapped_here x is) ∙ sym is
    | inr not ↦ ap (λ (y : Row). y.no) (swapped_else x not)
  ]

  swapped_brief : (x : Row) → row_at rows x.no ≡ Some x → brief_of (swapped x) ≡ brief_of x
  swapped_brief x at = elim (same_or_not x.no q.no) [
    | inl is ↦ ap brief_of (swapped_here x is) ∙ (brief (stood x at is) is)
    | inr not ↦ ap brief_of (swapped_else x not)
  ]
    where
      brief : w.old ≡ x → x.no ≡ q.no → brief_of q ≡ brief_of x
      brief same is =
          let name : q.name ≡ x.name = w.name ∙ ap (λ (y : Row). y.name) same in
          let required : q.requires_ ≡ x.requires_ = w.requires_ ∙ ap (λ (y : Row). y.requires_) same in
          let replaces : q.replaces ≡ x.replaces = w.replaces ∙ ap (λ (y : Row). y.replaces) same in
          cc

  -- the rows of a stack
  pub still_rows : (stack : List ℕ) (standing : List Row) → AreRowsOf rows stack standing
      → AreRowsOf (put_row q rows) stack (map swapped standing) × (map brief_of
      (map swapped standing) ≡ map brief_of standing)
  still_rows stack standing k = (record { rising = rising; each = each; only = only }, briefs)
    where
      among : (x : Row) → Contains standing x → row_at rows x.no ≡ Some x
      among x c = (k.only x c).0

      briefs : map brief_of (map swapped standing) ≡ map brief_of standing
      briefs = map_same swapped brief_of standing (λ x c. swapped_brief x (among x c))

      rising : IsRising (map row_key (map swapped standing))
      rising = subst IsRising (sym (map_same swapped row_key standing (λ x c. swapped_key x))) k.rising

      each : (n : ℕ) (x : Row) → row_at (put_row q rows) n ≡ Some x → x.stack ≡ stack
          → Contains (map swapped standing) x
      each n x at on = elim (row_put q rows at) [
        | inl (here, same) ↦
            let old_no : w.old.no ≡ q.no = row-key rows q.no w.old w.found in
            let c = k.each q.no w.old w.found (sym w.stack ∙ (ap (λ (y : Row). y.stack) same ∙ on)) in
            subst (Contains (map swapped standing)) (swapped_here w.old old_no
            ∙ same) (contains_map swapped standing w.old c)
        | inr (apart, was) ↦
            let no_is : x.no ≡ n = row-key rows n x was in
            subst (Contains (map swapped standing)) (swapped_else x (λ e. apart (sym e
            ∙ no_is))) (contains_map swapped standing x (k.each n x was on))
      ]

      only : (x : Row) → Contains (map swapped standing) x → (row_at (put_row q rows) x.no ≡ Some x) × (x.stack ≡ stack)
      only x c = let (y, among_y, is) = map_contains swapped standing x c in subst (λ (z : Row). (row_at
          (put_row q rows) z.no ≡ Some z) × (z.stack ≡ stack)) is (of y among_y)
        where
          of : (y : Row) → Contains standing y
              → (row_at (put_row q rows) (swapped y).no ≡ Some (swapped y)) × ((swapped y).stack ≡ stack)
          of y c = let (at, on) = k.only y c in elim (same_or_not y.no q.no) [
            | inl is ↦ subst (λ (z : Row). (row_at (put_row q rows) z.no ≡ Some z) × (z.stack ≡ stack))
                (sym (swapped_here y is))
                (row_here q rows, w.stack ∙ (ap (λ (z : Row). z.stack) (stood y at is) ∙ on))
            | inr not ↦ subst (λ (z : Row). (row_at (put_row q rows) z.no ≡ Some z) × (z.stack ≡ stack))
                (sym (swapped_else y not))
                (row_else q rows y.no (λ e. not (sym e)) ∙ at, on)
          ]

-- what a command chooses for its items
pub still_chooses : (s t : StateData) (q : Row) (w : IsRewritten s.rows q) → t.rows ≡ put_row q s.rows
    → (stack : List ℕ) (trav next : ℕ) (items : List Item)
    (chosen : List ℕ) (rows : List Row) → Chooses s stack trav next items chosen rows
    → Chooses t stack trav next items chosen rows
still_chooses s t q w table stack trav next items chosen rows (none n) = none next
still_chooses s t q w table stack trav next items chosen rows (current n item more r others rest k c) =
    let (x, is, same) = still_current s.rows q w stack item.name r k in
    subst (λ (m : ℕ). Chooses t stack trav next (item ∷ more) (m ∷ others) rest) same
    (current next item more x others rest (subst (λ (l : List Row). IsCurrentOf l stack item.name x) (sym table) is)
    (still_chooses s t q w table stack trav next more others rest c))
still_chooses s t q w table stack trav next items chosen rows (fresh n item more others rest k c) =
    fresh next item more others rest (subst (λ (l : List Row). HasNoCurrent l stack item.name) (sym table)
    (still_none s.rows q w stack item.name k))
    (still_chooses s t q w table stack trav (next + 1) more others rest c)
