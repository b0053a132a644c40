-- What stands in a template takes no more than the template.
use Rattle.std.proofs.Common.{◌≡◌, ◌∙◌, ◌≤◌, ◌++◌, ℕ, zero, suc, List, [], ◌∷◌, append_assoc, unwrap_or, Bool, true, false, Option, Some, None}
use Rattle.std.proofs.Common.{option_map, ap, sym, bytes_eq, arith, if◌then◌else◌}
use Rattle.heat_value.specs.Data.{Data, null, flag, whole, words, items, fields, Nodes, no_nodes, node}
use Rattle.heat_value.specs.Data.{Members, no_members, member}
use Rattle.heat_value.specs.declared.path.Step.{Step}
use Rattle.heat_value.specs.declared.path.Step.TheVariants.{Key, Index}
use Rattle.eval_words.specs.Choices.{Choice}
use Rattle.eval_words.specs.Fillings.{filled_size, nodes_size, members_size, text_filled}
use Rattle.eval_words.specs.Fillings.{literal_path, literal_step, member_becoming}
use Rattle.eval_words.specs.Lookups.{node_at}
use Rattle.eval_words.specs.Outcomes.{size, cost_limit}

pub key_within : (c : Choice) (ms next : Members) (k : List ℕ) (d : Data) → ms ≡ member k d next
    → members_size c ms ≤ cost_limit → size (words (text_filled c k)) ≤ cost_limit
key_within c ms next k d at all = omega (arith, ap (members_size c) at, all)

pub rest_within : (c : Choice) (ms next : Members) (k : List ℕ) (d : Data) → ms ≡ member k d next
    → members_size c ms ≤ cost_limit → members_size c next ≤ cost_limit
rest_within c ms next k d at all = omega (arith, ap (members_size c) at, all)

item_within : (c : Choice) (ns : Nodes) (i : ℕ) (e : Data) → node_at ns i ≡ Some e → filled_size c e ≤ nodes_size c ns
item_within c no_nodes i e is = cc
item_within c (node d ns) zero e is = let same : d ≡ e = cc in omega (arith, ap (filled_size c) same)
item_within c (node d ns) (suc i) e is = omega (arith, item_within c ns i e is)

second : (o : Option Data) (s t : Step) (e : Data) → option_map {U = Step × Data} (λ d. (s, d)) o ≡ Some (t, e)
    → o ≡ Some e
second None s t e is = cc
second (Some d) s t e is = let same : (s, d) ≡ (t, e) = cc in ap (λ (p : Step × Data). Some p.1) same

there : (p q : Step × Data) → Some p ≡ Some q → p.1 ≡ q.1
there p q is = let same : p ≡ q = cc in ap (λ (x : Step × Data). x.1) same

becoming_within : (c : Choice) (k : List ℕ) (ms : Members) (t : Step) (e : Data) → member_becoming c k ms ≡ Some (t, e)
    → filled_size c e ≤ members_size c ms
becoming_within c k no_members t e is = cc
becoming_within c k (member l d ms) t e is = by (bytes_eq (text_filled c l) k) is (becoming_within c k ms t e)
  where
    by : (b : Bool) → (if b then Some (Key l, d) else member_becoming c k ms) ≡ Some (t, e)
        → (member_becoming c k ms ≡ Some (t, e) → filled_size c e ≤ members_size c ms)
        → filled_size c e ≤ members_size c (member l d ms)
    by true here more =
        omega (arith, ap (filled_size c) (there (Key l, d) (t, e) here))
    by false later more = omega (arith, more later)

pub step_within : (c : Choice) (d : Data) (s t : Step) (e : Data) → literal_step c d s ≡ Some (t, e)
    → filled_size c e ≤ filled_size c d
step_within c null s t e is = cc
step_within c (flag b) s t e is = cc
step_within c (whole z) s t e is = cc
step_within c (words x) s t e is = cc
step_within c (items ns) (Key k) t e is = cc
step_within c (items ns) (Index i) t e is = item_within c ns i e (second (node_at ns i) (Index i) t e is)
step_within c (fields ms) (Key k) t e is = becoming_within c k ms t e is
step_within c (fields ms) (Index i) t e is = cc

-- one step further
pub path_goes_on : (c : Choice) (at inner : Data) (path pushed rest next all : List Step) (s t : Step) → rest ≡ s ∷ next
    → pushed ≡ path ++ t ∷ [] → literal_step c at s ≡ Some (t, inner) → path ++ literal_path c at rest ≡ all
    → pushed ++ literal_path c inner next ≡ all
path_goes_on c at inner path pushed rest next all s t split push is way =
    ap (λ (p : List Step). p ++ literal_path c inner next) push ∙ append_assoc path (t ∷ []) (literal_path c inner next)
    ∙ ap (λ (o : Option (Step × Data)). path ++ unwrap_or (option_map (λ x. x.0 ∷ literal_path c x.1 next) o) []) (sym is)
    ∙ ap (λ (p : List Step). path ++ literal_path c at p) (sym split) ∙ way
