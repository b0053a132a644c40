-- Lists that are made part by part, and what stands in a text.
use Rattle.std.proofs.Common.{◌≡◌, ◌∙◌, ◌||◌, ◌++◌, List, [], ◌∷◌, Bool, true, false, refl, ap, sym}
use Rattle.std.proofs.Common.{Option, Some, None, option_map, option_and_then}
use Rattle.heat_value.specs.Data.{Data, Nodes, no_nodes, node, node_last}
use Rattle.heat_value.specs.Meaning.{data_of, nodes_of}
use Rattle.heat_value.specs.declared.value.Value.{Value}
use Rattle.eval_words.specs.Lists.{both_lists, new_ones, without, concatenated}
use Rattle.eval_words.specs.Sorts.{list_or_null}
use Rattle.eval_words.specs.Sameness.{is_same, has}
use Rattle.std.specs.Prelude.{if◌then◌else◌}

pub both_lists-none : (ns : Nodes) → both_lists ns no_nodes ≡ ns
both_lists-none no_nodes = refl
both_lists-none (node d ns) = ap (node d) (both_lists-none ns)

pub both_lists-last : (ms : Nodes) (d : Data) (ns : Nodes) → both_lists (node_last ms d) ns ≡ both_lists ms (node d ns)
both_lists-last no_nodes d ns = refl
both_lists-last (node e ms) d ns = ap (node e) (both_lists-last ms d ns)

pub both_lists-both : (a b c : Nodes) → both_lists (both_lists a b) c ≡ both_lists a (both_lists b c)
both_lists-both no_nodes b c = refl
both_lists-both (node d a) b c = ap (node d) (both_lists-both a b c)

pub nodes_of-append : (vs ws : List Value) → nodes_of (vs ++ ws) ≡ both_lists (nodes_of vs) (nodes_of ws)
nodes_of-append [] ws = refl
nodes_of-append (v ∷ vs) ws = ap (node (data_of v)) (nodes_of-append vs ws)

-- ---- a value behind the last counts as one in front

either : (a b c : Bool) → (a || (b || c)) ≡ (b || (a || c))
either true true c = refl
either true false c = refl
either false true c = refl
either false false c = refl

pub has-last : (d e : Data) (ns : Nodes) → has d (node_last ns e) ≡ has d (node e ns)
has-last d e no_nodes = refl
has-last d e (node f ns) =
    ap (λ b. is_same d f || b) (has-last d e ns) ∙ either (is_same d f) (is_same d e) (has d ns)

-- the new ones are the same beside two lists that have the same
pub new_ones-same : (ms ns ps : Nodes) → ((d : Data) → has d ms ≡ has d ns) → new_ones ms ps ≡ new_ones ns ps
new_ones-same ms ns no_nodes h = refl
new_ones-same ms ns (node d ps) h =
    ap (λ b. if b then new_ones ms ps else node d (new_ones (node d ms) ps)) (h d)
    ∙ (ap (λ x. if has d ns then x else node d (new_ones (node d ms) ps)) (new_ones-same ms ns ps h)
    ∙ ap (λ x. if has d ns then new_ones ns ps else node d x)
    (new_ones-same (node d ms) (node d ns) ps (λ e. ap (λ b. is_same e d || b) (h e))))

pub new_ones-seen : (ms : Nodes) (d : Data) (ps : Nodes) → has d ms ≡ true → new_ones ms (node d ps) ≡ new_ones ms ps
new_ones-seen ms d ps e = ap (λ b. if b then new_ones ms ps else node d (new_ones (node d ms) ps)) e

pub new_ones-new : (ms : Nodes) (d : Data) (ps : Nodes) → has d ms ≡ false
    → new_ones ms (node d ps) ≡ node d (new_ones (node_last ms d) ps)
new_ones-new ms d ps e =
    ap (λ b. if b then new_ones ms ps else node d (new_ones (node d ms) ps)) e
    ∙ ap (node d) (new_ones-same (node d ms) (node_last ms d) ps (λ x. sym (has-last x d ms)))

pub without-seen : (out : Nodes) (d : Data) (ps : Nodes) → has d out ≡ true → without out (node d ps) ≡ without out ps
without-seen out d ps e = ap (λ b. if b then without out ps else node d (without out ps)) e

pub without-new : (out : Nodes) (d : Data) (ps : Nodes) → has d out ≡ false
    → without out (node d ps) ≡ node d (without out ps)
without-new out d ps e = ap (λ b. if b then without out ps else node d (without out ps)) e

-- ---- one value further

-- a copy of the next value goes behind those so far
pub next_copy : (items pushed rest next whole : Nodes) (d : Data) → rest ≡ node d next → pushed ≡ node_last items d
    → both_lists items rest ≡ whole → both_lists pushed next ≡ whole
next_copy items pushed rest next whole d at push all =
    ap (λ x. both_lists x next) push
    ∙ (both_lists-last items d next ∙ (ap (both_lists items) (sym at) ∙ all))

pub all_copies : (items rest whole : Nodes) → rest ≡ no_nodes → both_lists items rest ≡ whole → items ≡ whole
all_copies items rest whole end all = sym (both_lists-none items) ∙ (ap (both_lists items) (sym end) ∙ all)

pub next_new : (items pushed rest next whole : Nodes) (d : Data) → rest ≡ node d next → has d items ≡ false
    → pushed ≡ node_last items d → both_lists items (new_ones items rest) ≡ whole
    → both_lists pushed (new_ones pushed next) ≡ whole
next_new items pushed rest next whole d at other push all =
    ap (λ x. both_lists x (new_ones x next)) push
    ∙ (both_lists-last items d (new_ones (node_last items d) next)
    ∙ (ap (both_lists items) (sym (ap (new_ones items) at ∙ new_ones-new items d next other)) ∙ all))

pub next_seen : (items same rest next whole : Nodes) (d : Data) → rest ≡ node d next → has d items ≡ true
    → same ≡ items → both_lists items (new_ones items rest) ≡ whole → both_lists same (new_ones same next) ≡ whole
next_seen items same rest next whole d at here is all =
    ap (λ x. both_lists x (new_ones x next)) is
    ∙ (ap (both_lists items) (sym (ap (new_ones items) at ∙ new_ones-seen items d next here)) ∙ all)

pub all_new : (items rest whole : Nodes) → rest ≡ no_nodes → both_lists items (new_ones items rest) ≡ whole
    → items ≡ whole
all_new items rest whole end all =
    sym (both_lists-none items) ∙ (ap (λ x. both_lists items (new_ones items x)) (sym end) ∙ all)

pub next_left : (out items pushed rest next whole : Nodes) (d : Data) → rest ≡ node d next → has d out ≡ false
    → pushed ≡ node_last items d → both_lists items (without out rest) ≡ whole
    → both_lists pushed (without out next) ≡ whole
next_left out items pushed rest next whole d at other push all =
    ap (λ x. both_lists x (without out next)) push
    ∙ (both_lists-last items d (without out next)
    ∙ (ap (both_lists items) (sym (ap (without out) at ∙ without-new out d next other)) ∙ all))

pub next_out : (out items same rest next whole : Nodes) (d : Data) → rest ≡ node d next → has d out ≡ true
    → same ≡ items → both_lists items (without out rest) ≡ whole → both_lists same (without out next) ≡ whole
next_out out items same rest next whole d at here is all =
    ap (λ x. both_lists x (without out next)) is
    ∙ (ap (both_lists items) (sym (ap (without out) at ∙ without-seen out d next here)) ∙ all)

pub all_left : (out items rest whole : Nodes) → rest ≡ no_nodes → both_lists items (without out rest) ≡ whole
    → items ≡ whole
all_left out items rest whole end all =
    sym (both_lists-none items) ∙ (ap (λ x. both_lists items (without out x)) (sym end) ∙ all)

-- ---- one list further

abbrev onto : Nodes → Option Nodes → Option Nodes
onto ns o = option_map (both_lists ns) o

onto-onto : (a b : Nodes) (o : Option Nodes) → onto (both_lists a b) o ≡ onto a (onto b o)
onto-onto a b None = refl
onto-onto a b (Some ns) = ap Some (both_lists-both a b ns)

-- the items of the next list go behind those so far
pub next_list : (items pushed list : Nodes) (rest next : Nodes) (d : Data) (whole : Option Nodes)
    → rest ≡ node d next → Some list ≡ list_or_null d → pushed ≡ both_lists items list
    → onto items (concatenated rest) ≡ whole → onto pushed (concatenated next) ≡ whole
next_list items pushed list rest next d whole at is push all =
    ap (λ x. onto x (concatenated next)) push
    ∙ (onto-onto items list (concatenated next)
    ∙ (ap (λ o. onto items (option_and_then (λ l. onto l (concatenated next)) o)) is
    ∙ (ap (λ x. onto items (concatenated x)) (sym at) ∙ all)))

pub no_list : (items rest next : Nodes) (d : Data) (whole : Option Nodes) → rest ≡ node d next
    → None ≡ list_or_null d → onto items (concatenated rest) ≡ whole → None ≡ whole
no_list items rest next d whole at is all =
    ap (λ o. onto items (option_and_then (λ l. onto l (concatenated next)) o)) is
    ∙ (ap (λ x. onto items (concatenated x)) (sym at) ∙ all)

pub all_lists : (items rest : Nodes) (whole : Option Nodes) → rest ≡ no_nodes
    → onto items (concatenated rest) ≡ whole → Some items ≡ whole
all_lists items rest whole end all =
    ap Some (sym (both_lists-none items)) ∙ (ap (λ x. onto items (concatenated x)) (sym end) ∙ all)
