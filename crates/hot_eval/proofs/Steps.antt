-- How outcomes go on, and how a list, a map or a repeat's list is made part by part.
use Rattle.std.proofs.Common.{◌≡◌, ◌∙◌, ◌+◌, ◌<◌, ◌≤◌, ◌++◌, ℕ, zero, suc, List, [], ◌∷◌, refl, sym, ap}
use Rattle.std.proofs.Common.{Bool, true, false, map, unwrap_or, subst, drop, length, get_or, arith, add-one}
use Rattle.std.proofs.lemmas.Cmp.{nat_list_cmp_total}
use Rattle.std.specs.Cmp.Lexicographic.{slice_cmp}
use Rattle.std.specs.List.{AllByRecursion}
use Rattle.std.specs.List.Sorted.{IsStrictlySortedBy}
use Rattle.std.specs.Ordering.{nat_cmp, match_ordering, ordering_reverse}
use Rattle.std.specs.declared.cmp.Ordering.{Ordering}
use Rattle.std.specs.declared.cmp.Ordering.TheVariants.{Less, Greater}
use Rattle.heat_value.specs.Data.{Data, null, Nodes, no_nodes, node, node_last, Members, no_members, member, keys_of, put}
use Rattle.heat_value.specs.Meaning.{data_of, nodes_of, members_of}
use Rattle.heat_value.specs.declared.path.Step.TheVariants.{Index}
use Rattle.heat_value.specs.declared.value.Value.{Value}
use Rattle.heat_value.specs.declared.value.Member.{Member}
use Rattle.hot_eval.specs.Answers.{IsFaultIn}
use Rattle.eval_words.specs.Choices.{Choice, Lists, choices, each_with}
use Rattle.eval_words.specs.Evaluation.{Evaluating, choice_outcome, choices_outcome}
use Rattle.eval_words.specs.Fillings.{filled}
use Rattle.eval_words.specs.Lookups.{node_at}
use Rattle.hot_eval.specs.Repeats.{ArePlaces, GoesOn, choice_at, choices_from, each_from, count_of}
use Rattle.eval_words.specs.Outcomes.{Outcome, Gives, Faults, and_then, made_into, under}
use Rattle.eval_words.specs.declared.fault.EvalFault.{EvalFault}
use Rattle.eval_words.specs.declared.fault.EvalFault.TheVariants as fault

-- ---- faults go on

pub fault_same : {A : Type 0} (e : EvalFault) (o p : Outcome A) → o ≡ p → IsFaultIn e p → IsFaultIn e o
fault_same (fault.Wrong c q) o p same is = same ∙ is
fault_same fault.Memory o p same is = tt

pub fault_next : {A B : Type 0} (e : EvalFault) (o : Outcome A) (next : A → ℕ → Outcome B) → IsFaultIn e o
    → IsFaultIn e (and_then o next)
fault_next {A} (fault.Wrong c q) o next is = ap (λ (x : Outcome A). and_then x next) is
fault_next fault.Memory o next is = tt

pub fault_made : {A B : Type 0} (e : EvalFault) (f : A → B) (o : Outcome A) → IsFaultIn e o
    → IsFaultIn e (made_into f o)
fault_made {A} (fault.Wrong c q) f o is = ap (λ (x : Outcome A). made_into f x) is
fault_made fault.Memory f o is = tt

-- ---- what a list is in front of

abbrev pub before : Nodes → Nodes → Nodes
before no_nodes ps = ps
before (node d ns) ps = node d (before ns ps)

pub before-none : (ns : Nodes) → before ns no_nodes ≡ ns
before-none no_nodes = refl
before-none (node d ns) = ap (node d) (before-none ns)

pub before-last : (ns : Nodes) (d : Data) (ps : Nodes) → before (node_last ns d) ps ≡ before ns (node d ps)
before-last no_nodes d ps = refl
before-last (node e ns) d ps = ap (node e) (before-last ns d ps)

last_made : (ns : Nodes) (d : Data) (o : Outcome Nodes)
    → made_into (before ns) (made_into (node d) o) ≡ made_into (before (node_last ns d)) o
last_made ns d (Gives ps n) = ap (λ (x : Nodes). Gives x n) (sym (before-last ns d ps))
last_made ns d (Faults c p) = refl

rest_behind : (vs : List Value) (i : ℕ) (v : Value) → i < length vs → v ≡ get_or vs i v
    → nodes_of (drop i vs) ≡ node (data_of v) (nodes_of (drop (suc i) vs))
rest_behind [] i v below at = absurd (omega (arith, below))
rest_behind (w ∷ vs) zero v below at = ap (λ (x : Value). node (data_of x) (nodes_of vs)) (sym at)
rest_behind (w ∷ vs) (suc i) v below at = rest_behind vs i v (omega (arith, below)) at

rest_of : (vs : List Value) (i : ℕ) (v : Value) → i < length vs → v ≡ get_or vs i v
    → nodes_of (drop i vs) ≡ node (data_of v) (nodes_of (drop (i + 1) vs))
rest_of vs i v below at = rw (add-one i) (rest_behind vs i v below at)

none_left : (vs : List Value) (i : ℕ) → length vs ≤ i → nodes_of (drop i vs) ≡ no_nodes
none_left [] zero past = refl
none_left [] (suc i) past = refl
none_left (w ∷ vs) zero past = absurd (omega (arith, past))
none_left (w ∷ vs) (suc i) past = none_left vs i (omega (arith, past))

-- ---- a list, part by part: what each part comes to, and what the parts from a place on do

-- what was made is in front of what is left
abbrev pub IsListWay : (ℕ → Nodes → ℕ → Outcome Nodes) → Outcome Nodes → Nodes → ℕ → List Value → ℕ → Type 0
IsListWay go whole made i vs n = whole ≡ made_into (before made) (go i (nodes_of (drop i vs)) n)

module _ (part : Data → ℕ → Outcome Data) (go : ℕ → Nodes → ℕ → Outcome Nodes)
    (none : (i n : ℕ) → go i no_nodes n ≡ Gives no_nodes n)
    (more : (i : ℕ) (d : Data) (ns : Nodes) (n : ℕ) → go i (node d ns) n
    ≡ and_then (under (Index i) (part d n)) (λ v s. made_into (node v) (go (i + 1) ns s))) where
  pub list_begins : (vs : List Value) (n : ℕ) → IsListWay go (go 0 (nodes_of vs) n) no_nodes 0 vs n
  list_begins vs n = same (go 0 (nodes_of vs) n)
    where
      same : (o : Outcome Nodes) → o ≡ made_into (before no_nodes) o
      same (Gives ns n) = refl
      same (Faults c p) = refl

  at_part : (made : Nodes) (vs : List Value) (i : ℕ) (v : Value) (n : ℕ) → i < length vs → v ≡ get_or vs i v
      → made_into (before made) (go i (nodes_of (drop i vs)) n)
      ≡ made_into (before made) (and_then (under (Index i) (part (data_of v) n))
      (λ w s. made_into (node w) (go (i + 1) (nodes_of (drop (i + 1) vs)) s)))
  at_part made vs i v n below at =
      ap (λ (ns : Nodes). made_into (before made) (go i ns n)) (rest_of vs i v below at)
      ∙ ap (made_into (before made)) (more i (data_of v) (nodes_of (drop (i + 1) vs)) n)

  pub list_goes_on : (whole : Outcome Nodes) (made now : Nodes) (vs : List Value) (i : ℕ) (v : Value) (d : Data)
      (n m : ℕ) → IsListWay go whole made i vs n → i < length vs → v ≡ get_or vs i v → now ≡ node_last made d
      → under (Index i) (part (data_of v) n) ≡ Gives d m → IsListWay go whole now (i + 1) vs m
  list_goes_on whole made now vs i v d n m way below at put is =
      way ∙ at_part made vs i v n below at
      ∙ ap (λ (o : Outcome Data). made_into (before made) (and_then o
      (λ w s. made_into (node w) (go (i + 1) (nodes_of (drop (i + 1) vs)) s)))) is
      ∙ last_made made d (go (i + 1) (nodes_of (drop (i + 1) vs)) m)
      ∙ ap (λ (ns : Nodes). made_into (before ns) (go (i + 1) (nodes_of (drop (i + 1) vs)) m)) (sym put)

  pub list_stops : (e : EvalFault) (whole : Outcome Nodes) (made : Nodes) (vs : List Value) (i : ℕ) (v : Value) (n : ℕ)
      → IsListWay go whole made i vs n → i < length vs → v ≡ get_or vs i v
      → IsFaultIn e (under (Index i) (part (data_of v) n)) → IsFaultIn e whole
  list_stops e whole made vs i v n way below at is =
      fault_same e whole _ (way ∙ at_part made vs i v n below at)
      (fault_made e (before made) _ (fault_next e _ _ is))

  pub list_ends : (whole : Outcome Nodes) (made : Nodes) (vs : List Value) (i n : ℕ) → IsListWay go whole made i vs n
      → length vs ≤ i → whole ≡ Gives made n
  list_ends whole made vs i n way past =
      way ∙ ap (λ (ns : Nodes). made_into (before made) (go i ns n)) (none_left vs i past)
      ∙ ap (made_into (before made)) (none i n)
      ∙ ap (λ (ns : Nodes). Gives ns n) (before-none made)

-- ---- what a map is in front of

abbrev pub in_front : Members → Members → Members
in_front no_members ps = ps
in_front (member k d ms) ps = member k d (in_front ms ps)

abbrev pub member_last : Members → List ℕ → Data → Members
member_last no_members k d = member k d no_members
member_last (member l e ms) k d = member l e (member_last ms k d)

pub in_front-none : (ms : Members) → in_front ms no_members ≡ ms
in_front-none no_members = refl
in_front-none (member k d ms) = ap (member k d) (in_front-none ms)

pub in_front-last : (ms : Members) (k : List ℕ) (d : Data) (ps : Members)
    → in_front (member_last ms k d) ps ≡ in_front ms (member k d ps)
in_front-last no_members k d ps = refl
in_front-last (member l e ms) k d ps = ap (member l e) (in_front-last ms k d ps)

keys_last : (ms : Members) (k : List ℕ) (d : Data) (ks : List (List ℕ))
    → keys_of (member_last ms k d) ++ ks ≡ keys_of ms ++ k ∷ ks
keys_last no_members k d ks = refl
keys_last (member l e ms) k d ks = ap (λ (x : List (List ℕ)). l ∷ x) (keys_last ms k d ks)

member_made : (ms : Members) (k : List ℕ) (d : Data) (o : Outcome Members)
    → made_into (in_front ms) (made_into (member k d) o) ≡ made_into (in_front (member_last ms k d)) o
member_made ms k d (Gives ps n) = ap (λ (x : Members). Gives x n) (sym (in_front-last ms k d ps))
member_made ms k d (Faults c p) = refl

members_behind : (es : List Member) (i : ℕ) (e : Member) → i < length es → e ≡ get_or es i e
    → members_of (drop i es) ≡ member e.key (data_of e.value) (members_of (drop (suc i) es))
members_behind [] i e below at = absurd (omega (arith, below))
members_behind (w ∷ es) zero e below at =
    ap (λ (x : Member). member x.key (data_of x.value) (members_of es)) (sym at)
members_behind (w ∷ es) (suc i) e below at = members_behind es i e (omega (arith, below)) at

rest_under : (es : List Member) (i : ℕ) (e : Member) → i < length es → e ≡ get_or es i e
    → members_of (drop i es) ≡ member e.key (data_of e.value) (members_of (drop (i + 1) es))
rest_under es i e below at = rw (add-one i) (members_behind es i e below at)

no_more : (es : List Member) (i : ℕ) → length es ≤ i → members_of (drop i es) ≡ no_members
no_more [] zero past = refl
no_more [] (suc i) past = refl
no_more (w ∷ es) zero past = absurd (omega (arith, past))
no_more (w ∷ es) (suc i) past = no_more es i (omega (arith, past))

abbrev pub cmp : List ℕ → List ℕ → Ordering
cmp = slice_cmp nat_cmp

below : (l k : List ℕ) (ls ks : List (List ℕ)) → AllByRecursion (λ y. cmp l y ≡ Less) (ls ++ k ∷ ks) → cmp l k ≡ Less
below l k [] ks h = h.0
below l k (m ∷ ls) ks h = below l k ls ks h.1

-- a key above all others goes behind the last
pub put_last : (ms : Members) (k : List ℕ) (d : Data) (ks : List (List ℕ)) → IsStrictlySortedBy cmp (keys_of ms ++ k ∷ ks)
    → put k d ms ≡ member_last ms k d
unfolding IsStrictlySortedBy
put_last no_members k d ks h = refl
put_last (member l e ms) k d ks h =
    let above : cmp k l ≡ Greater =
    nat_list_cmp_total.antisymm k l ∙ ap ordering_reverse (below l k (keys_of ms) ks h.0) in
    ap (λ (o : Ordering). match_ordering o (member k d (member l e ms)) (member k d ms) (member l e (put k d ms))) above
    ∙ ap (member l e) (put_last ms k d ks h.1)

-- ---- a map, member by member

-- what was made is in front of what is left, and has the first keys
pub record IsMapWay (go : Members → ℕ → Outcome Members) (whole : Outcome Members) (made all : Members) (i : ℕ)
    (es : List Member) (n : ℕ) : Type 0 where
  pub goes : whole ≡ made_into (in_front made) (go (members_of (drop i es)) n)
  pub keys : keys_of made ++ keys_of (members_of (drop i es)) ≡ keys_of all

module _ (part : List ℕ → Data → ℕ → Outcome Data) (go : Members → ℕ → Outcome Members)
    (none : (n : ℕ) → go no_members n ≡ Gives no_members n)
    (more : (k : List ℕ) (d : Data) (ms : Members) (n : ℕ) → go (member k d ms) n
    ≡ and_then (part k d n) (λ v s. made_into (member k v) (go ms s))) where
  pub map_begins : (es : List Member) (n : ℕ)
      → IsMapWay go (go (members_of es) n) no_members (members_of es) 0 es n
  map_begins es n = record { goes = same (go (members_of es) n); keys = refl }
    where
      same : (o : Outcome Members) → o ≡ made_into (in_front no_members) o
      same (Gives ms n) = refl
      same (Faults c p) = refl

  at_member : (made : Members) (es : List Member) (i : ℕ) (e : Member) (n : ℕ) → i < length es → e ≡ get_or es i e
      → made_into (in_front made) (go (members_of (drop i es)) n)
      ≡ made_into (in_front made) (and_then (part e.key (data_of e.value) n)
      (λ w s. made_into (member e.key w) (go (members_of (drop (i + 1) es)) s)))
  at_member made es i e n below at =
      ap (λ (ms : Members). made_into (in_front made) (go ms n)) (rest_under es i e below at)
      ∙ ap (made_into (in_front made)) (more e.key (data_of e.value) (members_of (drop (i + 1) es)) n)

  pub map_goes_on : (whole : Outcome Members) (made now all : Members) (es : List Member) (i : ℕ) (e : Member)
      (k : List ℕ) (d : Data) (n m : ℕ) → IsStrictlySortedBy cmp (keys_of all) → IsMapWay go whole made all i es n
      → i < length es → e ≡ get_or es i e → k ≡ e.key → now ≡ put k d made
      → part e.key (data_of e.value) n ≡ Gives d m → IsMapWay go whole now all (i + 1) es m
  map_goes_on whole made now all es i e k d n m rising way below at key set is =
      let split : keys_of made ++ e.key ∷ keys_of (members_of (drop (i + 1) es)) ≡ keys_of all =
      ap (λ (ms : Members). keys_of made ++ keys_of ms) (sym (rest_under es i e below at)) ∙ way.keys in
      let last : now ≡ member_last made e.key d =
      set ∙ ap (λ (x : List ℕ). put x d made) key
      ∙ put_last made e.key d (keys_of (members_of (drop (i + 1) es)))
      (subst (IsStrictlySortedBy cmp) (sym split) rising) in
      record {
        goes =
            way.goes ∙ at_member made es i e n below at
            ∙ ap (λ (o : Outcome Data). made_into (in_front made) (and_then o
            (λ w s. made_into (member e.key w) (go (members_of (drop (i + 1) es)) s)))) is
            ∙ member_made made e.key d (go (members_of (drop (i + 1) es)) m)
            ∙ ap (λ (ms : Members). made_into (in_front ms) (go (members_of (drop (i + 1) es)) m)) (sym last);
        keys =
            ap (λ (ms : Members). keys_of ms ++ keys_of (members_of (drop (i + 1) es))) last
            ∙ keys_last made e.key d (keys_of (members_of (drop (i + 1) es))) ∙ split;
      }

  pub map_stops : (f : EvalFault) (whole : Outcome Members) (made all : Members) (es : List Member) (i : ℕ) (e : Member)
      (n : ℕ) → IsMapWay go whole made all i es n → i < length es → e ≡ get_or es i e
      → IsFaultIn f (part e.key (data_of e.value) n) → IsFaultIn f whole
  map_stops f whole made all es i e n way below at is =
      fault_same f whole _ (way.goes ∙ at_member made es i e n below at)
      (fault_made f (in_front made) _ (fault_next f _ _ is))

  pub map_ends : (whole : Outcome Members) (made all : Members) (es : List Member) (i n : ℕ)
      → IsMapWay go whole made all i es n → length es ≤ i → whole ≡ Gives made n
  map_ends whole made all es i n way past =
      way.goes ∙ ap (λ (ms : Members). made_into (in_front made) (go ms n)) (no_more es i past)
      ∙ ap (made_into (in_front made)) (none n)
      ∙ ap (λ (ms : Members). Gives ms n) (in_front-none made)

-- ---- a repeat's list, choice by choice

module _ (again : Evaluating) (template : Data) where
  abbrev pub IsChoiceWay : Outcome Nodes → Nodes → List Choice → ℕ → Type 0
  IsChoiceWay whole made cs n = whole ≡ made_into (before made) (choices_outcome again template cs n)

  pub choices_begin : (cs : List Choice) (n : ℕ) → IsChoiceWay (choices_outcome again template cs n) no_nodes cs n
  choices_begin cs n = same (choices_outcome again template cs n)
    where
      same : (o : Outcome Nodes) → o ≡ made_into (before no_nodes) o
      same (Gives ns n) = refl
      same (Faults c p) = refl

  -- at the first choice's places nothing was made yet
  pub walk_begins : (lists ls : Lists) (ps : List ℕ) (made : Nodes) (n : ℕ) → ls ≡ lists → choices_from ls ps ≡ choices ls
      → made ≡ no_nodes → IsChoiceWay (choices_outcome again template (choices lists) n) made (choices_from ls ps) n
  walk_begins lists ls ps made n same first none =
      choices_begin (choices lists) n
      ∙ ap (λ (cs : List Choice). made_into (before no_nodes) (choices_outcome again template cs n))
      (sym (first ∙ ap choices same))
      ∙ ap (λ (ns : Nodes). made_into (before ns) (choices_outcome again template (choices_from ls ps) n)) (sym none)

  pub choices_go_on : (whole : Outcome Nodes) (made now : Nodes) (c : Choice) (cs : List Choice) (d : Data) (n m : ℕ)
      → IsChoiceWay whole made (c ∷ cs) n → now ≡ node_last made d
      → choice_outcome again template c (filled c template) n ≡ Gives d m → IsChoiceWay whole now cs m
  choices_go_on whole made now c cs d n m way put is =
      way
      ∙ ap (λ (o : Outcome Data). made_into (before made) (and_then o
      (λ v s. made_into (node v) (choices_outcome again template cs s)))) is
      ∙ last_made made d (choices_outcome again template cs m)
      ∙ ap (λ (ns : Nodes). made_into (before ns) (choices_outcome again template cs m)) (sym put)

  pub choices_stop : (e : EvalFault) (whole : Outcome Nodes) (made : Nodes) (c : Choice) (cs : List Choice) (n : ℕ)
      → IsChoiceWay whole made (c ∷ cs) n → IsFaultIn e (choice_outcome again template c (filled c template) n)
      → IsFaultIn e whole
  choices_stop e whole made c cs n way is =
      fault_same e whole _ way (fault_made e (before made) _ (fault_next e _ _ is))

  pub choices_end : (whole : Outcome Nodes) (made : Nodes) (n : ℕ) → IsChoiceWay whole made [] n → whole ≡ Gives made n
  choices_end whole made n way = way ∙ ap (λ (ns : Nodes). Gives ns n) (before-none made)

-- ---- from places to places

first_with : (k : List ℕ) (ns : Nodes) (p : ℕ) (c : Choice) (cs all : List Choice) → p < count_of ns
    → (rest : List Choice) × (each_from k ns p (c ∷ cs) all ≡ ((k, unwrap_or (node_at ns p) null) ∷ c) ∷ rest)
first_with k no_nodes p c cs all below = absurd (omega (arith, below))
first_with k (node d ns) zero c cs all below = (map (λ e. (k, d) ∷ e) cs ++ each_with k ns all, refl)
first_with k (node d ns) (suc p) c cs all below = first_with k ns p c cs all (omega (arith, below))

-- the first choice from places on is the one at them
pub first_choice : (ls : Lists) (ps : List ℕ) → ArePlaces ls ps
    → (rest : List Choice) × (choices_from ls ps ≡ choice_at ls ps ∷ rest)
first_choice [] ps h = ([], refl)
first_choice (l ∷ ls) [] h = absurd h
first_choice (l ∷ ls) (p ∷ ps) h =
    let more = first_choice ls ps h.1 in
    let here = first_with l.0 l.1 p (choice_at ls ps) more.0 (choices ls) h.0 in
    (here.0, ap (λ (cs : List Choice). each_from l.0 l.1 p cs (choices ls)) more.1 ∙ here.1)

module _ (again : Evaluating) (template : Data) (whole : Outcome Nodes) (ls : Lists) (ps : List ℕ) (c : Choice)
    (same : c ≡ choice_at ls ps) where
  at_choice : (rest : List Choice) → choices_from ls ps ≡ choice_at ls ps ∷ rest → choices_from ls ps ≡ c ∷ rest
  at_choice rest is = is ∙ ap (λ (x : Choice). x ∷ rest) (sym same)

  pub turn_stops : (e : EvalFault) (made : Nodes) (n : ℕ) → ArePlaces ls ps
      → IsChoiceWay again template whole made (choices_from ls ps) n
      → IsFaultIn e (choice_outcome again template c (filled c template) n) → IsFaultIn e whole
  turn_stops e made n places way is =
      let first = first_choice ls ps places in
      choices_stop again template e whole made c first.0 n
      (subst (λ (cs : List Choice). IsChoiceWay again template whole made cs n) (at_choice first.0 first.1) way) is

  pub turn_goes_on : (b : Bool) (qs : List ℕ) (made now : Nodes) (d : Data) (n m : ℕ) → b ≡ true
      → IsChoiceWay again template whole made (choices_from ls ps) n → now ≡ node_last made d
      → choice_outcome again template c (filled c template) n ≡ Gives d m → GoesOn b ls ps qs
      → IsChoiceWay again template whole now (choices_from ls qs) m × ArePlaces ls qs
  turn_goes_on false qs made now d n m b way put is goes = cc
  turn_goes_on true qs made now d n m b way put is goes = (
    choices_go_on again template whole made now c (choices_from ls qs) d n m
        (subst (λ (cs : List Choice). IsChoiceWay again template whole made cs n)
        (at_choice (choices_from ls qs) goes.1) way) put is,
    goes.0,
  )

  pub turn_ends : (b : Bool) (qs : List ℕ) (made now : Nodes) (d : Data) (n m : ℕ) → b ≡ false
      → IsChoiceWay again template whole made (choices_from ls ps) n → now ≡ node_last made d
      → choice_outcome again template c (filled c template) n ≡ Gives d m → GoesOn b ls ps qs → whole ≡ Gives now m
  turn_ends true qs made now d n m b way put is goes = cc
  turn_ends false qs made now d n m b way put is goes =
      choices_end again template whole now m (choices_go_on again template whole made now c [] d n m
      (subst (λ (cs : List Choice). IsChoiceWay again template whole made cs n) (at_choice [] goes) way) put is)
