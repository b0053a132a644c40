-- What a cloud file says of a cloud.
use Rattle.std.specs.Prelude.{ℕ, pos, List, [], ◌∷◌, codes}
use Rattle.heat_value.specs.Data.{Data, flag, whole, words, items, fields, Nodes, no_nodes, node}
use Rattle.heat_value.specs.Data.{Members, no_members, member, put}
use Rattle.heat_plan.specs.Tokens.{token_text}
use Rattle.sim_cloud.specs.declared.held.Held.{Held}
use Rattle.sim_cloud.specs.declared.settings.KindQuota.{KindQuota}
use Rattle.sim_cloud.specs.declared.settings.KindDelay.{KindDelay}
use Rattle.sim_cloud.specs.declared.settings.NameCode.{NameCode}
use Rattle.sim_cloud.specs.declared.sim_cloud.SimCloud.{SimCloud}

-- a resource: its keys in byte order
abbrev pub resource_of : Held → Data
resource_of h = fields (
    member (codes "attrs") (fields h.what.facts.attrs) (
    member (codes "id") (words h.what.facts.id) (
    member (codes "kind") (words h.what.kind) (
    member (codes "leaving") (flag h.leaving) (
    member (codes "left") (whole (pos h.left)) (
    member (codes "props") (fields h.what.props) (
    member (codes "ready") (flag h.what.ready) (
    member (codes "token") (words (token_text h.what.token)) no_members))))))))

abbrev pub resource_nodes : List Held → Nodes
resource_nodes [] = no_nodes
resource_nodes (h ∷ held) = node (resource_of h) (resource_nodes held)

abbrev pub resources_of : List Held → Data
resources_of held = items (resource_nodes held)

-- the map of these keys and values; of those that stand under one key the first counts
abbrev pub map_of : {A : Type 0} → (A → List ℕ) → (A → Data) → List A → Members
map_of key value [] = no_members
map_of key value (a ∷ all) = put (key a) (value a) (map_of key value all)

abbrev pub broken_of : List NameCode → Data
broken_of all = fields (map_of (λ (b : NameCode). b.name) (λ (b : NameCode). words b.code) all)

abbrev pub delays_of : List KindDelay → Data
delays_of all = fields (map_of (λ (d : KindDelay). d.kind) (λ (d : KindDelay). whole (pos d.polls)) all)

abbrev pub quotas_of : List KindQuota → Data
quotas_of all = fields (map_of (λ (q : KindQuota). q.kind) (λ (q : KindQuota). whole (pos q.most)) all)

-- the file of a cloud
abbrev pub file_of : SimCloud → Data
file_of c = fields (
    member (codes "alive") (resources_of c.all.held.all) (
    member (codes "broken") (broken_of c.conduct.broken) (
    member (codes "delays") (delays_of c.conduct.delays) (
    member (codes "quotas") (quotas_of c.all.quotas) no_members))))
