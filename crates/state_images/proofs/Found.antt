-- What is read of a state that changes made: its records are found, its graphs are whole, its rows keepable.
use Rattle.std.proofs.Common.{◌≡◌, ◌≢◌, ◌⊎◌, inl, inr, ℕ, zero, suc, Bool, true, false, cond, List, [], ◌∷◌, ◌++◌, ◌+◌, map, Some, None, refl, sym, ap, ◌∙◌, subst, arith}
use Rattle.std.specs.Prelude.{Contains, Decides, flat_map, nat_eq, slice_get}
use Rattle.std.specs.Str.{bytes_eq}
use Rattle.std.proofs.lemmas.Bool.Decides.{Decides-eqb}
use Rattle.std.proofs.lemmas.List.Elements.{Contains-append_cases}
use Rattle.std.proofs.lemmas.Slice.Eq.{bytes_eq-Decides}
use Rattle.heat_plan.specs.Tables.{at}
use Rattle.core_state.specs.declared.Node.{Node}
use Rattle.row_table.specs.Rows.{row_key}
use Rattle.core_state.specs.declared.Row.{Row}
use Rattle.core_state.specs.declared.Point.{Point}
use Rattle.core_state.specs.Changes.{applied, apply}
use Rattle.core_state.specs.State.{StateData, graph_key}
use Rattle.core_state.specs.declared.change.Change.{Change}
use Rattle.core_state.specs.declared.change.Change.TheVariants as change
use Rattle.core_state.specs.declared.graph.Graph.{Graph}
use Rattle.step_relation.specs.Images.{AreKeepable, AreWhole, HasKeepableRows, IsKeepable, IsRead}
use Rattle.history_laws.proofs.tables.Puts.{all_contains, contains_cases, contains_head, contains_there}
use Rattle.history_laws.proofs.tables.Rows.{row_cut, row_put}
use Rattle.state_images.specs.Formed.{AreByNode, HasKeysOnce, IsFormed, IsLaid}
use Rattle.state_images.specs.Snapshots.{last_changes, snapshot, stack_changes, work_changes}
use Rattle.state_images.proofs.Keys.{none_head}

module _ {K A : Type 0} (same : K → K → Bool) (decides : (x y : K) → Decides (same x y) (x ≡ y)) (key : A → K) where
  -- what is found stands in the list, and where keys stand once what stands in it is found
  pub found_among : (xs : List A) (k : K) (x : A) → at same key xs k ≡ Some x → Contains xs x
  unfolding at
  found_among [] k x h = cc
  found_among (y ∷ ys) k x h = by (same (key y) k) h (found_among ys k x) where
    by : (b : Bool) → cond b (Some y) (at same key ys k) ≡ Some x → (at same key ys k ≡ Some x → Contains ys x) → Contains (y ∷ ys) x
    by true e rest = let is : y ≡ x = cc in subst (Contains (y ∷ ys)) is (contains_head y ys)
    by false e rest = contains_there y x ys (rest e)

  not_none : (xs : List A) (x : A) → Contains xs x → at same key xs (key x) ≢ None
  not_none [] x (k, lt, is) h = absurd (omega (arith, lt))
  not_none (y ∷ ys) x c h = let (e, n) = none_head same decides key y ys (key x) h in elim (contains_cases y x ys c) [
    | inl is ↦ let t : same (key y) (key x) ≡ true = (decides (key y) (key x)).1 (ap key is) in cc
    | inr there ↦ not_none ys x there n
  ]

  pub among_found : (xs : List A) (x : A) → HasKeysOnce same key xs → Contains xs x → at same key xs (key x) ≡ Some x
  unfolding at
  among_found [] x o (k, lt, is) = absurd (omega (arith, lt))
  among_found (y ∷ ys) x o c = by (same (key y) (key x)) refl (contains_cases y x ys c) (among_found ys x o.1) where
    by : (b : Bool) → same (key y) (key x) ≡ b → (y ≡ x) ⊎ Contains ys x → (Contains ys x → at same key ys (key x) ≡ Some x)
        → cond b (Some y) (at same key ys (key x)) ≡ Some x
    by true e (inl is) rest = ap Some is
    by true e (inr there) rest = absurd (not_none ys x there (ap (at same key ys) (sym ((decides (key y) (key x)).0 e)) ∙ o.0))
    by false e (inl is) rest = let t : same (key y) (key x) ≡ true = (decides (key y) (key x)).1 (ap key is) in cc
    by false e (inr there) rest = rest there

-- the point of a node
point_there : (stack : List ℕ) (place : ℕ) (nodes : List Node) (ps : List Point) (i : ℕ) (node : Node)
    → AreByNode stack place nodes ps → slice_get nodes i ≡ Some node → (p : Point) × (slice_get ps i ≡ Some p)
point_there stack place [] ps i node h at_i = cc
point_there stack place (n ∷ nodes) [] i node h at_i = absurd h
point_there stack place (n ∷ nodes) (p ∷ ps) zero node h at_i = (p, refl)
point_there stack place (n ∷ nodes) (p ∷ ps) (suc i) node h at_i = point_there stack (place + 1) nodes ps i node h.2 at_i

pub formed_whole : (s : StateData) → IsFormed s → AreWhole s
formed_whole s f name g stands its =
    let laid : IsLaid s.stacks g = all_contains (IsLaid s.stacks) s.graphs g f.stacks.laid
    (found_among bytes_eq bytes_eq-Decides graph_key s.graphs name g its) in record {
      points = λ i node at_i. point_there g.stack 0 g.graph.nodes g.points i node laid.points at_i;
      ends = laid.ends;
    }

pub formed_read : (s : StateData) → IsFormed s → HasKeepableRows s → IsRead s
formed_read s f k = record { graphs = formed_whole s f; acts = λ n r at_n. (k n r at_n).act }

-- one change, and all of them, keep rows that a record may hold
keepable_apply : (c : Change) (s : StateData) → HasKeepableRows s → ((r : Row) → c ≡ change.PutRow r → IsKeepable r)
    → HasKeepableRows (apply c s)
keepable_apply (change.PutRow q) s h k n r at_n = elim (row_put q s.rows at_n) [
  | inl new ↦ subst IsKeepable new.1 (k q refl)
  | inr old ↦ h n r old.1
]
keepable_apply (change.DropRow c) s h k n r at_n = h n r (row_cut c s.rows at_n).1
keepable_apply (change.PutStack x) s h k n r at_n = h n r at_n
keepable_apply (change.DropStack x) s h k n r at_n = h n r at_n
keepable_apply (change.PutGraph x g) s h k n r at_n = h n r at_n
keepable_apply (change.PutPoint x) s h k n r at_n = h n r at_n
keepable_apply (change.Send x) s h k n r at_n = h n r at_n
keepable_apply (change.Drop x) s h k n r at_n = h n r at_n
keepable_apply (change.PutJob x) s h k n r at_n = h n r at_n
keepable_apply (change.EndJob x) s h k n r at_n = h n r at_n
keepable_apply (change.Enlist x) s h k n r at_n = h n r at_n
keepable_apply (change.Stop x) s h k n r at_n = h n r at_n
keepable_apply (change.Numbers x) s h k n r at_n = h n r at_n
keepable_apply (change.PutPast x) s h k n r at_n = h n r at_n
keepable_apply (change.Release x) s h k n r at_n = h n r at_n

pub keepable_applied : (s : StateData) (cs : List Change) → HasKeepableRows s → AreKeepable cs → HasKeepableRows (applied cs s)
keepable_applied s [] h k = h
keepable_applied s (c ∷ cs) h k = keepable_applied (apply c s) cs
    (keepable_apply c s h (λ r is. k r (subst (Contains (c ∷ cs)) is (contains_head c cs))))
    (λ r among. k r (contains_there c (change.PutRow r) cs among))

-- no row is put by these, or only those of the state
PutsOf : List Row → List Change → Type 0
PutsOf rows cs = (r : Row) → Contains cs (change.PutRow r) → Contains rows r

abbrev pub PutsNone : List Change → Type 0
PutsNone cs = (r : Row) → ¬ Contains cs (change.PutRow r)

none_mapped : {A : Type 0} (f : A → Change) → ((x : A) (r : Row) → f x ≢ change.PutRow r) → (xs : List A) → PutsNone (map f xs)
none_mapped f ne [] r (k, lt, is) = omega (arith, lt)
none_mapped f ne (x ∷ xs) r c = elim (contains_cases (f x) (change.PutRow r) (map f xs) c) [
  | inl is ↦ ne x r is
  | inr there ↦ none_mapped f ne xs r there
]

none_append : (cs ds : List Change) → PutsNone cs → PutsNone ds → PutsNone (cs ++ ds)
none_append cs ds a b r c = elim (Contains-append_cases cs ds (change.PutRow r) c) [ inl x ↦ a r x | inr y ↦ b r y ]

none_points : (gs : List Graph) → PutsNone (flat_map (λ (g : Graph). map change.PutPoint g.points) gs)
none_points [] r (k, lt, is) = omega (arith, lt)
none_points (g ∷ gs) r c = elim (Contains-append_cases (map change.PutPoint g.points)
    (flat_map (λ (g : Graph). map change.PutPoint g.points) gs) (change.PutRow r) c) [
      | inl x ↦ none_mapped change.PutPoint (λ p q e. cc) g.points r x
      | inr y ↦ none_points gs r y
    ]

rows_mapped : (rs : List Row) (r : Row) → Contains (map change.PutRow rs) (change.PutRow r) → Contains rs r
rows_mapped [] r (k, lt, is) = absurd (omega (arith, lt))
rows_mapped (x ∷ xs) r c = elim (contains_cases (change.PutRow x) (change.PutRow r) (map change.PutRow xs) c) [
  | inl is ↦ let e : x ≡ r = cc in subst (Contains (x ∷ xs)) e (contains_head x xs)
  | inr there ↦ contains_there x r xs (rows_mapped xs r there)
]

pub snapshot_keepable : (s : StateData) → IsFormed s → HasKeepableRows s → AreKeepable (snapshot s)
snapshot_keepable s f h r c = h r.no r (among_found nat_eq Decides-eqb row_key s.rows r f.work.rows_once (among c)) where
  before : PutsNone (stack_changes s)
  before = none_append (map change.PutStack s.stacks) (map (λ (g : Graph). change.PutGraph g.stack g.graph) s.graphs
      ++ (flat_map (λ (g : Graph). map change.PutPoint g.points) s.graphs ++ map change.PutPast s.pasts)) (none_mapped change.PutStack (λ x q e. cc) s.stacks)
      (none_append (map (λ (g : Graph). change.PutGraph g.stack g.graph) s.graphs)
      (flat_map (λ (g : Graph). map change.PutPoint g.points) s.graphs ++ map change.PutPast s.pasts)
      (none_mapped (λ (g : Graph). change.PutGraph g.stack g.graph) (λ x q e. cc) s.graphs)
      (none_append (flat_map (λ (g : Graph). map change.PutPoint g.points) s.graphs) (map change.PutPast s.pasts)
      (none_points s.graphs) (none_mapped change.PutPast (λ x q e. cc) s.pasts)))

  mail : PutsNone (map change.Send s.letters ++ map change.PutJob s.jobs)
  mail = none_append (map change.Send s.letters) (map change.PutJob s.jobs) (none_mapped change.Send (λ x q e. cc) s.letters)
      (none_mapped change.PutJob (λ x q e. cc) s.jobs)

  numbers : PutsNone (change.Numbers s.next ∷ [])
  numbers q d = elim (contains_cases (change.Numbers s.next) (change.PutRow q) [] d) [
    | inl is ↦ cc
    | inr (k, lt, is) ↦ omega (arith, lt)
  ]

  last : PutsNone (last_changes s)
  last = none_append (map change.Enlist s.live) (map change.Release s.released ++ change.Numbers s.next ∷ []) (none_mapped change.Enlist (λ x q e. cc) s.live)
      (none_append (map change.Release s.released) (change.Numbers s.next ∷ []) (none_mapped change.Release (λ x q e. cc) s.released) numbers)

  among : Contains (snapshot s) (change.PutRow r) → Contains s.rows r
  among d = elim (Contains-append_cases (stack_changes s) (work_changes s ++ last_changes s) (change.PutRow r) d) [
    | inl x ↦ absurd (before r x)
    | inr y ↦ elim (Contains-append_cases (work_changes s) (last_changes s) (change.PutRow r) y) [
      | inl w ↦ elim (Contains-append_cases (map change.PutRow s.rows) (map change.Send s.letters ++ map change.PutJob s.jobs) (change.PutRow r) w) [
        | inl own ↦ rows_mapped s.rows r own
        | inr m ↦ absurd (mail r m)
      ]
      | inr z ↦ absurd (last r z)
    ]
  ]
