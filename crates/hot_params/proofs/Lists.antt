-- What is made of lists part by part.
use Rattle.std.proofs.Common.{◌≡◌, ◌∙◌, ◌<◌, ◌≤◌, ◌+◌, ℕ, List, length, get_or, drop, refl, ap, sym}
use Rattle.heat_value.specs.Coercion.{coerced}
use Rattle.heat_value.specs.Data.{Data, Nodes, no_nodes, node, node_last, words}
use Rattle.heat_value.specs.Meaning.{data_of, nodes_of}
use Rattle.heat_value.specs.declared.value.Value.{Value}
use Rattle.hot_params.proofs.Places.{nodes_at, nodes_end}
use Rattle.hot_params.specs.Conversions.{texts_of}

-- one list of values behind another
abbrev pub joined_nodes : Nodes → Nodes → Nodes
joined_nodes no_nodes ns = ns
joined_nodes (node d ms) ns = node d (joined_nodes ms ns)

pub joined_nodes-last : (ms : Nodes) (d : Data) (ns : Nodes)
    → joined_nodes (node_last ms d) ns ≡ joined_nodes ms (node d ns)
joined_nodes-last no_nodes d ns = refl
joined_nodes-last (node e ms) d ns = ap (node e) (joined_nodes-last ms d ns)

pub joined_nodes-none : (ms : Nodes) → joined_nodes ms no_nodes ≡ ms
joined_nodes-none no_nodes = refl
joined_nodes-none (node d ms) = ap (node d) (joined_nodes-none ms)

-- the text of a value behind those so far, and those that are left
pub next_text : (texts : Nodes) (vs : List Value) (n : ℕ) (v : Value) (t : List ℕ) (whole : Nodes) → n < length vs
    → v ≡ get_or vs n v → t ≡ coerced (data_of v)
    → joined_nodes texts (texts_of (nodes_of (drop n vs))) ≡ whole
    → joined_nodes (node_last texts (words t)) (texts_of (nodes_of (drop (n + 1) vs))) ≡ whole
next_text texts vs n v t whole below at text all =
    joined_nodes-last texts (words t) (texts_of (nodes_of (drop (n + 1) vs)))
    ∙ (ap (λ u. joined_nodes texts (node (words u) (texts_of (nodes_of (drop (n + 1) vs))))) text
    ∙ (ap (λ ns. joined_nodes texts (texts_of ns)) (sym (nodes_at vs n v below at)) ∙ all))

pub all_texts : (texts : Nodes) (vs : List Value) (n : ℕ) (whole : Nodes) → length vs ≤ n
    → joined_nodes texts (texts_of (nodes_of (drop n vs))) ≡ whole → texts ≡ whole
all_texts texts vs n whole above all =
    sym (joined_nodes-none texts) ∙ (ap (λ ns. joined_nodes texts (texts_of ns)) (sym (nodes_end vs n above)) ∙ all)
