-- The search along the edges: all that waits, and all that was left, are nodes of the graph.
use Rattle.std.proofs.Common.{◌≡◌, ◌∙◌, ◌<◌, ◌≤◌, ◌++◌, ◌+◌, ℕ, Bool, false, true, List, [], ◌∷◌, length, map, get_or, replicate}
use Rattle.std.proofs.Common.{ap, subst, length-append, length-set, inl, inr, arith}
use Rattle.std.specs.Prelude.{All, Some}
use Rattle.std.proofs.lemmas.Bool.{false_from_ne_true}
use Rattle.std.proofs.lemmas.List.{length_push, length-map, length-replicate}
use Rattle.std.proofs.lemmas.List.Elements.{All-nil, All-append, All-push, All-map, All-pop}
use Rattle.dep_graph.specs.Marks.{unmarked_count}
use Rattle.dep_graph.proofs.MarkLemmas.{neighbours_within}
use Rattle.dep_graph.specs.Leaving.{node_of, AreWithin, Enters}
use Rattle.dep_graph.specs.declared.leaving.Visit.{Visit}
use Rattle.dep_graph.specs.declared.leaving.Visit.TheVariants.{Enter, Leave}
use Rattle.dep_graph.proofs.RankCountLemmas.{left_to_do, less_waiting, less_marked, unmarked_less, neighbours_few}

pub record IsSearch (n : ℕ) (entered : List Bool) (order : List ℕ) (visits : List Visit) : Type 0 where
  pub size : length entered ≡ n
  pub waits : AreWithin n visits
  pub left : All (λ x. x < n) order

pub search_begins : (n : ℕ) (visits : List Visit) → AreWithin n visits → IsSearch n (replicate n false) [] visits
search_begins n visits all =
    record { size = length-replicate n false; waits = all; left = All-nil (λ x. x < n) }

module _ (n : ℕ) (entered : List Bool) (order : List ℕ) (visits rest : List Visit) (v : Visit)
    (s : IsSearch n entered order visits) (is : visits ≡ rest ++ v ∷ []) where
  longer : length visits ≡ length rest + 1
  longer = ap length is ∙ length_push rest v

  popped : AreWithin n rest × (node_of v < n)
  popped = All-pop (λ w. node_of w < n) visits rest (Some v) is s.waits

  pub last_within : (w : Visit) → v ≡ w → node_of w < n
  last_within w same = subst (λ (z : Visit). node_of z < n) same popped.1

  pub left_next : (x : ℕ) → v ≡ Leave x → IsSearch n entered (order ++ x ∷ []) rest
  left_next x same = record {
    size = s.size;
    waits = popped.0;
    left = All-push (λ x. x < n) order x s.left (last_within (Leave x) same);
  }

  pub left_less : left_to_do n (unmarked_count entered) (length rest) < left_to_do n (unmarked_count entered) (length visits)
  left_less = less_waiting n (unmarked_count entered) (length rest) (length visits) longer

  module _ (E : ℕ → ℕ → Type 0) (joins : (x y : ℕ) → E x y → (x < n) × (y < n)) (x : ℕ) (same : v ≡ Enter x)
      (new : List Bool) (now : List Visit) where
    pub entered_next : Enters E x entered rest new now → IsSearch n new order now
    entered_next (inl h) = record { size = ap length h.1 ∙ s.size; waits = rw h.2 popped.0; left = s.left }
    entered_next (inr h) = record {
      size = ap length h.1.marks ∙ length-set entered x true ∙ s.size;
      waits = rw h.1.visits (All-append (λ w. node_of w < n) (rest ++ Leave x ∷ []) (map (λ y. Enter y) h.1.nexts)
          (All-push (λ w. node_of w < n) rest (Leave x) popped.0 (last_within (Enter x) same))
          (All-map (λ w. node_of w < n) (λ y. Enter y) h.1.nexts
          (neighbours_within (λ y. E x y) h.1.nexts n h.1.lists (λ y edge. (joins x y edge).1))));
      left = s.left;
    }

    pub entered_less : Enters E x entered rest new now
        → left_to_do n (unmarked_count new) (length now) < left_to_do n (unmarked_count entered) (length visits)
    entered_less (inl h) = rw (h.1, h.2) left_less
    entered_less (inr h) =
        let inside : x < length entered = rw s.size (last_within (Enter x) same) in
        let none : get_or entered x false ≡ false = false_from_ne_true (get_or entered x false) h.0 in
        let one : unmarked_count new + 1 ≡ unmarked_count entered =
        ap (λ (bs : List Bool). unmarked_count bs + 1) h.1.marks ∙ unmarked_less entered x inside none in
        let size : length now ≤ length rest + 1 + length h.1.nexts =
        omega (
          arith,
          ap length h.1.visits,
          length-append (rest ++ Leave x ∷ []) (map (λ (y : ℕ). Enter y) h.1.nexts),
          length_push rest (Leave x),
          length-map h.1.nexts (λ (y : ℕ). Enter y),
        ) in
        less_marked n (unmarked_count entered) (unmarked_count new) (length rest) (length h.1.nexts) (length now)
        (length visits) one (neighbours_few (λ y. E x y) h.1.nexts n h.1.lists (λ y edge. (joins x y edge).1)) size longer
