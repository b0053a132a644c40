-- The item at a place: with it begins the rest of a list of values, and the list of resources before it grows.
use Rattle.std.proofs.Common.{◌≡◌, ◌<◌, ◌+◌, ℕ, zero, suc, List, [], ◌∷◌, take, drop, get_or, length, sym, ap, arith}
use Rattle.serde_json.specs.Data.{item}
use Rattle.serde_json.specs.View.{view, items_view}
use Rattle.serde_json.specs.declared.value.Value.{Value as Json}
use Rattle.heat_value.specs.Data.{node, node_last, no_nodes}
use Rattle.sim_cloud.specs.declared.held.Held.{Held}
use Rattle.cloud_file.specs.Written.{resource_of, resource_nodes}

items_from : (vs : List Json) (i : ℕ) (x : Json) → i < length vs → x ≡ get_or vs i x
    → items_view (drop i vs) ≡ item (view x) (items_view (drop (suc i) vs))
items_from [] i x within is = absurd (omega (arith, within))
items_from (v ∷ vs) zero x within is = ap (λ (y : Json). item (view y) (items_view vs)) (sym is)
items_from (v ∷ vs) (suc i) x within is = items_from vs i x (omega (arith, within)) is

pub items_at : (vs : List Json) (i : ℕ) (x : Json) → i < length vs → x ≡ get_or vs i x
    → items_view (drop i vs) ≡ item (view x) (items_view (drop (i + 1) vs))
items_at vs i x within is = let next : i + 1 ≡ suc i = omega arith in rw next (items_from vs i x within is)

grows_at : (held : List Held) (i : ℕ) (h : Held) → i < length held → h ≡ get_or held i h
    → resource_nodes (take (suc i) held) ≡ node_last (resource_nodes (take i held)) (resource_of h)
grows_at [] i h within is = absurd (omega (arith, within))
grows_at (x ∷ held) zero h within is = ap (λ (y : Held). node (resource_of y) no_nodes) (sym is)
grows_at (x ∷ held) (suc i) h within is = ap (node (resource_of x)) (grows_at held i h (omega (arith, within)) is)

pub nodes_at : (held : List Held) (i : ℕ) (h : Held) → i < length held → h ≡ get_or held i h
    → resource_nodes (take (i + 1) held) ≡ node_last (resource_nodes (take i held)) (resource_of h)
nodes_at held i h within is = let next : i + 1 ≡ suc i = omega arith in rw next (grows_at held i h within is)
