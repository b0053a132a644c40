-- What a reader of a node's parts answers of the node.
use Rattle.std.proofs.Common.{◌≡◌, ◌++◌, ◌∷◌, ◌≤◌, ℕ, List, arith}
use Rattle.traversal_graph.specs.declared.shape.Node.{Node}
use Rattle.traversal_graph.specs.declared.shape.Node.TheVariants.{U, C}
use Rattle.plan_codec.specs.Below.{IsResName, IsNumber}
use Rattle.plan_codec.specs.declared.unread.Unread.{Unread}
use Rattle.plan_codec.specs.declared.unread.Unread.TheVariants as unread
use Rattle.plan_codec.specs.Numbers.{spelled_number, spelled_bytes}
use Rattle.plan_codec.specs.Parts.{spelled_pair, AreBoth}
use Rattle.plan_codec.specs.Spellings.{Lacks, Refuses}
use Rattle.row_codec.specs.Words.{spelled_node, IsProperNode}

no_update : (rest : List ℕ) → Lacks (spelled_pair spelled_bytes spelled_number) (AreBoth IsResName IsNumber) rest
    → (x : Node) (q : List ℕ) → IsProperNode x → 0 ∷ rest ≡ spelled_node x ++ q → ⊥
no_update rest lacks (U n r) q p e = lacks.none (n, r) q p cc
no_update rest lacks (C r) q p e = cc

pub update_refused : (rest : List ℕ) (e : Unread)
    → Refuses (spelled_pair spelled_bytes spelled_number) (AreBoth IsResName IsNumber) rest e
    → Refuses spelled_node IsProperNode (0 ∷ rest) e
update_refused rest unread.Memory h = tt
update_refused rest unread.Unspelled h = record { none = no_update rest h }

no_clean_up : (rest : List ℕ) → Lacks spelled_number IsNumber rest → (x : Node) (q : List ℕ) → IsProperNode x
    → 1 ∷ rest ≡ spelled_node x ++ q → ⊥
no_clean_up rest lacks (U n r) q p e = cc
no_clean_up rest lacks (C r) q p e = lacks.none r q p cc

pub clean_up_refused : (rest : List ℕ) (e : Unread) → Refuses spelled_number IsNumber rest e
    → Refuses spelled_node IsProperNode (1 ∷ rest) e
clean_up_refused rest unread.Memory h = tt
clean_up_refused rest unread.Unspelled h = record { none = no_clean_up rest h }

-- bytes that begin with no tag of a node
no_tag : (bytes : List ℕ) → ((tag : ℕ) (rest : List ℕ) → bytes ≡ tag ∷ rest → 2 ≤ tag) → (x : Node) (q : List ℕ)
    → IsProperNode x → bytes ≡ spelled_node x ++ q → ⊥
no_tag bytes past (U n r) q p e = absurd (omega (arith, past 0 _ e))
no_tag bytes past (C r) q p e = absurd (omega (arith, past 1 _ e))

pub no_node : (bytes : List ℕ) → ((tag : ℕ) (rest : List ℕ) → bytes ≡ tag ∷ rest → 2 ≤ tag)
    → Lacks spelled_node IsProperNode bytes
no_node bytes past = record { none = no_tag bytes past }
