-- Candidates considered one after another, on the list and on the graph.
use Rattle.std.proofs.Common.{◌≡◌, ◌↔◌, ℕ, ◌<◌, ◌^◌, Bool, true, false, IsTrue, length, List, [], ◌∷◌, ◌++◌, refl, sym, ap, ◌∙◌, inl, inr, append_assoc, arith}
use Rattle.std.specs.Prelude.{Contains}
use Rattle.std.proofs.lemmas.Bool.{false≢true}
use Rattle.std.proofs.lemmas.List.{append-nil}
use Rattle.std.proofs.lemmas.List.Elements.{Contains-push, Contains-push_cases, Contains-append_left}
use Rattle.dep_graph.specs.Paths.{HasPath, IsAcyclic}
use Rattle.dep_graph.specs.Edges.{Links, HasEdge, IsBare, AddsEdge}
use Rattle.dep_graph.specs.Closings.{Opens}
use Rattle.dep_graph.proofs.PathLemmas.{HasPath-leads, Leads-weaker, leads_of, acyclic_from, no_loop}
use Rattle.dep_graph.specs.Marks.{IsMarked, MarksAll}
use Rattle.dep_graph.proofs.ClosingLemmas.{acyclic_added, reached_same}
use Rattle.traversal_graph.specs.declared.draft.Draft.{Draft}
use Rattle.traversal_graph.specs.Builds.{Joins, Considers, Keeps}
use Rattle.traversal_graph.specs.Builds.Keeps.{begins, goes_on}
use Rattle.traversal_graph.specs.Drafts.{IsDraft, IsBareDraft, Draws}

Keeps-append : (first cs mid ds last : List (ℕ × ℕ)) → Keeps first cs mid → Keeps mid ds last → Keeps first (cs ++ ds) last
Keeps-append first cs mid ds last a (begins ds' last' none same) = rw (none, append-nil cs, same) a
Keeps-append first cs mid ds last a (goes_on earlier kept ds' last' before after h step is) =
    goes_on (cs ++ earlier) kept (cs ++ ds') last' before after (Keeps-append first cs mid earlier kept a h) step
    (ap (λ (l : List (ℕ × ℕ)). cs ++ l) is ∙ sym (append_assoc cs earlier ((before, after) ∷ [])))

pub Draws-none : (draft : Draft) → IsDraft draft → Draws [] draft draft
Draws-none draft h = record {
  size = refl;
  draft_is = h;
  keeps = begins [] draft.edges refl refl;
}

pub Draws-append : (cs ds : List (ℕ × ℕ)) (old mid new : Draft) → Draws cs old mid → Draws ds mid new → Draws (cs ++ ds) old new
Draws-append cs ds old mid new a b = record {
  size = b.size ∙ a.size;
  draft_is = b.draft_is;
  keeps = Keeps-append old.edges cs mid.edges ds new.edges a.keeps b.keeps;
}

path_along : (E F : ℕ → ℕ → Type 0) → ((x y : ℕ) → E x y → F x y) → (a b : ℕ) → HasPath E a b → HasPath F a b
path_along E F f a b h = let p = leads_of E a b h in HasPath-leads F a p.0 b (Leads-weaker E F f a p.0 b p.1)

one : (first kept : List (ℕ × ℕ)) (before after : ℕ) → Considers first before after kept → Keeps first ((before, after) ∷ []) kept
one first kept before after step = goes_on [] first ((before, after) ∷ []) kept before after (begins [] first refl refl) step refl

Draws-added : (old : Draft) (graph : Links) (edges : List (ℕ × ℕ)) (before after : ℕ) → IsDraft old
    → Opens before after old.graph graph → IsAcyclic (HasEdge graph) → edges ≡ old.edges ++ (before, after) ∷ []
    → Draws ((before, after) ∷ []) old (record { graph = graph; edges = edges })
Draws-added old graph edges before after draft opens acyclic made = record {
  size = opens.added.same;
  draft_is = record {
    few = rw opens.added.same draft.few;
    acyclic = acyclic;
    edges = λ x y. (there x y, back x y);
  };
  keeps = one old.edges edges before after (inr (none, made));
}
  where
    none : HasPath (Joins old.edges) after before → ⊥
    none h = opens.open_ (path_along (Joins old.edges) (HasEdge old.graph) (λ x y k. (draft.edges x y).1 k) after before h)

    there : (x y : ℕ) → HasEdge graph x y → Joins edges x y
    there x y h = rw made (elim ((opens.added.edges x y).0 h) [
      | inl k ↦ Contains-append_left old.edges ((before, after) ∷ []) (x, y) ((draft.edges x y).0 k)
      | inr e ↦ rw (e.0, e.1) (Contains-push old.edges (before, after))
    ])

    back : (x y : ℕ) → Joins edges x y → HasEdge graph x y
    back x y h = (opens.added.edges x y).1 (elim (Contains-push_cases old.edges (before, after) (x, y) (rw made at h)) [
      | inl k ↦ inl ((draft.edges x y).1 k)
      | inr e ↦ inr (sym (ap (λ (p : ℕ × ℕ). p.0) e), sym (ap (λ (p : ℕ × ℕ). p.1) e))
    ])

-- a candidate that would close a cycle leaves all as it is
pub Draws-same : (old : Draft) (before after : ℕ) → IsDraft old → HasPath (HasEdge old.graph) after before
    → Draws ((before, after) ∷ []) old old
Draws-same old before after draft h = record {
  size = refl;
  draft_is = draft;
  keeps = one old.edges old.edges before after
      (inl (path_along (HasEdge old.graph) (Joins old.edges) (λ x y k. (draft.edges x y).0 k) after before h, refl));
}

-- an edge that is added where no path leads back
pub Draws-opened : (old : Draft) (graph : Links) (edges : List (ℕ × ℕ)) (before after : ℕ) → IsDraft old
    → ¬ HasPath (HasEdge old.graph) after before → AddsEdge before after old.graph graph → edges ≡ old.edges ++ (before, after) ∷ []
    → Draws ((before, after) ∷ []) old (record { graph = graph; edges = edges })
Draws-opened old graph edges before after draft open' adds made =
    Draws-added old graph edges before after draft (record { open_ = open'; added = adds })
    (acyclic_added old.graph graph before after adds draft.acyclic open') made

-- marks on what is reached from an edge's after stay right
pub reached_kept : (old new : Links) (before after : ℕ) (marks : List Bool) → AddsEdge before after old new
    → ¬ HasPath (HasEdge old) after before → MarksAll (HasPath (HasEdge old) after) marks → MarksAll (HasPath (HasEdge new) after) marks
reached_kept old new before after marks adds open' exact node lt =
    let same = reached_same old new before after adds open' node in
    let was = exact node lt in
    (λ m. same.0 (was.0 m), λ h. was.1 (same.1 h))

-- what a mark says of its node
pub kind_from_mark : (Is : ℕ → Type 0) (marks : List Bool) (node : ℕ) (found : Bool) → node < length marks → MarksAll Is marks
    → IsTrue found ↔ IsMarked marks node → found ≡ true → Is node
kind_from_mark Is marks node found lt exact has e = (exact node lt).0 (has.0 e)

pub none_from_mark : (Is : ℕ → Type 0) (marks : List Bool) (node : ℕ) (found : Bool) → node < length marks → MarksAll Is marks
    → IsTrue found ↔ IsMarked marks node → found ≡ false → ¬ Is node
none_from_mark Is marks node found lt exact has e is = false≢true (sym e ∙ has.1 ((exact node lt).1 is))

-- what the graph tells of cycles holds of the list
pub acyclic_list : (draft : Draft) → IsDraft draft → IsAcyclic (Joins draft.edges)
acyclic_list draft h = acyclic_from (Joins draft.edges) (λ a loop. no_loop (HasEdge draft.graph) h.acyclic a (
  loop.0,
  (h.edges a loop.0).1 loop.1,
  path_along (Joins draft.edges) (HasEdge draft.graph) (λ x y k. (h.edges x y).1 k) loop.0 a loop.2,
))

pub IsBareDraft-new : (size : ℕ) (graph : Links) (edges : List (ℕ × ℕ)) → size < 2 ^ 32 → IsBare size graph
    → IsAcyclic (HasEdge graph) → edges ≡ [] → IsBareDraft size (record { graph = graph; edges = edges })
IsBareDraft-new size graph edges few bare acyclic none = record {
  size_is = bare.size_is;
  none = none;
  draft_is = record {
    few = rw bare.size_is few;
    acyclic = acyclic;
    edges = λ x y. ((λ h. absurd (bare.bare x y h)), (λ h. absurd (nothing x y (rw none at h))));
  };
}
  where
    nothing : (x y : ℕ) → Contains {X = ℕ × ℕ} [] (x, y) → ⊥
    nothing x y (k, lt, e) = absurd (omega arith)
