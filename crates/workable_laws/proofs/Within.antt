-- Each edge of a graph that a command lays out goes from a node to a node.
use Rattle.std.proofs.Common.{◌≡◌, inl, inr, ◌<◌, ℕ, suc, ◌+◌, List, [], ◌∷◌, ◌++◌, length, refl, sym, subst, ap}
use Rattle.std.proofs.Common.{◌∙◌}
use Rattle.std.proofs.Common.{arith, length-append}
use Rattle.std.specs.List.{list_any}
use Rattle.std.specs.Option.{option_map_or}
use Rattle.std.specs.Prelude.{false, slice_index_or, ◌==◌}
use Rattle.std.proofs.lemmas.List.Elements.{Contains-append_cases}
use Rattle.std.proofs.lemmas.Option.{slice_get-get_or, slice_get_within}
use Rattle.heat_plan.specs.declared.item.Item.{Item}
use Rattle.traversal_graph.specs.Builds.{Joins}
use Rattle.traversal_graph.specs.Candidates.{candidates, need_edges, replace_edges, require_edges, row_edges}
use Rattle.traversal_graph.specs.Nodes.{cleanup_nodes, update_nodes}
use Rattle.traversal_graph.specs.declared.brief.RowBrief.{RowBrief}
use Rattle.row_table.specs.declared.row.Row.{Row}
use Rattle.core_state.specs.Applies.{IsWithin}
use Rattle.core_state.specs.State.{StateData}
use Rattle.step_relation.specs.Commands.{Chooses, Lays, current, fresh, none}
use Rattle.history_laws.proofs.edges.Keeping.{kept_are}
use Rattle.history_laws.proofs.edges.Members.{between_has, contains_at, need_has, row_has}

-- places below the count of items and of rows
abbrev Ends : ℕ → ℕ × ℕ → Type 0
Ends count e = (e.0 < count) × (e.1 < count)

module _ (items : List Item) (rows : List RowBrief) where
  abbrev n : ℕ
  n = length items

  abbrev before_rows : List (ℕ × ℕ)
  before_rows = need_edges items ++ row_edges items rows

  abbrev before_all : List (ℕ × ℕ)
  before_all = before_rows ++ require_edges n rows

  candidate_ends : (b a : ℕ) → Joins (candidates items rows) b a → Ends (n + length rows) (b, a)
  candidate_ends b a c = elim (Contains-append_cases before_all (replace_edges n rows) (b, a) c) [
    | inl three ↦ elim (Contains-append_cases before_rows (require_edges n rows) (b, a) three) [
      | inl two ↦ elim (Contains-append_cases (need_edges items) (row_edges items rows) (b, a) two) [
        | inl one ↦ (let (item, name, at, has, place, lt) = need_has items b a one in
            let x = slice_get_within items a item at in (omega (arith, lt), omega (arith, x)))
        | inr row ↦ (let (item, r, row', at, at_r, is, called) = row_has items rows b a row in
            let x = slice_get_within items b item at in let y = slice_get_within rows r row' at_r in
            (omega (arith, x), omega (arith, y, is)))
      ]
      | inr last ↦ (let (r, q, in_r, in_q, is_b, is_a) = between_has
          (λ (row other : RowBrief). list_any (λ no_. no_ == other.no) row.requires_) n rows b a last in
          (omega (arith, in_r, is_b), omega (arith, in_q, is_a)))
    ]
    | inr last ↦ (let (r, q, in_r, in_q, is_b, is_a) = between_has
        (λ (row other : RowBrief). option_map_or (λ no_. no_ == other.no) row.replaces false) n rows b a last in
        (omega (arith, in_r, is_b), omega (arith, in_q, is_a)))
  ]

-- a row is chosen for each item
each_chosen : (s : StateData) (stack : List ℕ) (trav next : ℕ) (items : List Item) (chosen : List ℕ) (rows : List Row)
    → Chooses s stack trav next items chosen rows → length chosen ≡ length items
each_chosen s stack trav next _ _ _ (none _) = refl
each_chosen s stack trav next _ _ _ (current _ item more r chosen rows is on) =
    ap suc (each_chosen s stack trav next more chosen rows on)
each_chosen s stack trav next _ _ _ (fresh _ item more chosen rows is on) =
    ap suc (each_chosen s stack trav (next + 1) more chosen rows on)

update_count : (items : List Item) (chosen : List ℕ) → length chosen ≡ length items
    → length (update_nodes items chosen) ≡ length items
update_count [] chosen is = refl
update_count (item ∷ items) [] is = cc
update_count (item ∷ items) (n ∷ chosen) is = ap suc (update_count items chosen (omega (arith, is)))

cleanup_count : (rows : List RowBrief) → length (cleanup_nodes rows) ≡ length rows
cleanup_count [] = refl
cleanup_count (row ∷ rows) = ap suc (cleanup_count rows)

pub laid_within : (s : StateData) (name : List ℕ) (items : List Item) (k : Lays s name items) → IsWithin k.graph
laid_within s name items k i d lt =
    let e = slice_index_or k.graph.edges i d in
    let among = contains_at k.graph.edges i e (slice_get-get_or k.graph.edges i d lt) in
    let ends = candidate_ends items k.built.sorted e.0 e.1
    (kept_are (candidates items k.built.sorted) k.graph.edges k.built.edges e among) in
    subst (λ (m : ℕ). Ends m e) (sym count) ends where
      count : length k.graph.nodes ≡ length items + length k.built.sorted
      count = ap length k.built.nodes ∙ length-append (update_nodes items k.chosen) (cleanup_nodes k.built.sorted)
          ∙ (let x = update_count items k.chosen
          (each_chosen s name s.next.trav s.next.row items k.chosen k.rows k.chooses) in
          let y = cleanup_count k.built.sorted in omega (arith, x, y))
