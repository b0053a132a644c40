-- What an item's needs give is one list: `known_once`; so a begin resolves to one result, and no row that a traversal
-- began is replaced by it: `never_again`.
use Rattle.std.proofs.Common.{◌≡◌, ◌≢◌, inr, ℕ, List, None, Option, Some, refl, sym, ap, ◌∙◌, subst}
use Rattle.std.specs.Prelude.{Contains, slice_get, unwrap_or}
use Rattle.heat_value.specs.Data.{Members}
use Rattle.heat_plan.specs.declared.facts.Facts.{Facts}
use Rattle.heat_plan.specs.declared.facts.KnownFacts.{KnownFacts}
use Rattle.heat_plan.specs.declared.item.Item.{Item}
use Rattle.heat_plan.specs.declared.phase.Act.TheVariants.{Init}
use Rattle.traversal_graph.specs.declared.shape.Node.TheVariants.{U}
use Rattle.sync_points.specs.declared.point.Input.{Input}
use Rattle.sync_points.specs.declared.point.Point.{Point}
use Rattle.mail_table.specs.declared.mail.Job.{Job}
use Rattle.core_state.specs.Reads.{item_at}
use Rattle.core_state.specs.State.{StateData, graph_at, stack_at}
use Rattle.core_state.specs.declared.graph.Graph.{Graph}
use Rattle.core_state.specs.declared.stack.Stack.{Stack}
use Rattle.eval_words.specs.Resolve.{Props, Resolved, resolve}
use Rattle.type_catalog.specs.declared.effect.Effect.{Effect}
use Rattle.step_relation.specs.Begins.{Begins, MustGo, changed, given_up, overtaken}
use Rattle.step_relation.specs.Freshness.{plan_of}
use Rattle.step_relation.specs.Given.{Prepared}
use Rattle.step_relation.specs.Inputs.{AreKnown, IsGiven, given, missing, none}
use Rattle.step_relation.specs.Runs.{IsTied, Judges, ResolvesTo, props as prepared}
use Rattle.step_relation.specs.GraphFits.{GraphFits, IsInput, IsNode, Stands, graph_of, of_c, of_u}
use Rattle.step_relation.specs.RowsFit.{IsBegun, Resolves}
use Rattle.step_relation.specs.Sound.{Standing}
use Rattle.history_laws.proofs.tables.Rows.{same_some}
use Rattle.graph_laws.proofs.graphs.Lists.{once_of}
use Rattle.graph_laws.proofs.graphs.Placed.{graph_is, its_aim, its_graph_fits}

-- an input of a name comes from an update node of it
input_place : (s : StateData) (st : Stack) (g : Graph) (x : Input) (name : List ℕ) → IsInput s st g x
    → x.name ≡ Some name
    → (n : ℕ) × IsNode g x.from (U name n)
input_place s st g x name (of_u word r aims called row facts) named =
    let same : word ≡ name = inner (sym called ∙ named) in
    (aims.chosen, subst (λ (y : List ℕ). IsNode g x.from (U y aims.chosen)) same aims.node) where
      inner : Some word ≡ Some name → word ≡ name
      inner e = cc
input_place s st g x name (of_c n at called row facts) named = absurd (clash (sym called ∙ named)) where
  clash : None ≡ Some name → ⊥
  clash e = cc

abbrev known_of : List ℕ → Facts → KnownFacts
known_of name facts = record { name = name; facts = facts }

module _ (s : StateData) (st : Stack) (g : Graph) (fits : GraphFits s st g) (i : ℕ) (p : Point)
    (there : slice_get g.points i ≡ Some p) where
  -- of one name a node has one input
  pub input_once : (name : List ℕ) (x y : Input) → Contains p.inputs x → Contains p.inputs y → x.name ≡ Some name
      → y.name ≡ Some name → x ≡ y
  input_once name x y in_x in_y named_x named_y =
      let a : Stands s st g i x = fits.inputs.stand i p x there in_x in
      let b : Stands s st g i y = fits.inputs.stand i p y there in_y in
      let (n, at_x) = input_place s st g x name a.its named_x in
      let (m, at_y) = input_place s st g y name b.its named_y in
      once_of (λ (z : Input). z.from) p.inputs (fits.inputs.once i p there) x y in_x in_y
      (fits.nodes.one_update x.from y.from n m name at_x at_y)

  given_once : (name : List ℕ) (a b : KnownFacts) → IsGiven p.inputs name a → IsGiven p.inputs name b → a ≡ b
  given_once name a b u v =
      let same : u.input ≡ v.input = input_once name u.input v.input u.among v.among u.named v.named in
      let facts : Some a.facts ≡ Some b.facts = sym u.facts ∙ (ap (λ (z : Input). z.facts) same ∙ v.facts) in
      let called : a.name ≡ b.name = u.known_name ∙ sym v.known_name in
      made a.name b.name a.facts b.facts called (inner a.facts b.facts facts) where
        inner : (x y : Facts) → Some x ≡ Some y → x ≡ y
        inner x y e = cc

        made : (x y : List ℕ) (f f' : Facts) → x ≡ y → f ≡ f' → known_of x f ≡ known_of y f'
        made x y f f' e d = ap (λ (z : List ℕ). known_of z f) e ∙ ap (known_of y) d

  pub known_once : (needs : List (List ℕ)) (a b : List KnownFacts) → AreKnown p.inputs needs a
      → AreKnown p.inputs needs b → a ≡ b
  known_once _ _ _ none none = refl
  known_once _ _ _ (given need needs x xs u us) (given _ _ y ys v vs) =
      let head = given_once need x y u v in let tail = known_once needs xs ys us vs in cc
  known_once _ _ _ (given need needs x xs u us) (missing _ _ ys out vs) = absurd (out x u)
  known_once _ _ _ (missing need needs xs out us) (given _ _ y ys v vs) = absurd (out y v)
  known_once _ _ _ (missing need needs xs out us) (missing _ _ ys out' vs) = known_once needs xs ys us vs

-- two begins of one engine are of one node
module _ (s : StateData) (e : ℕ) (a b : Begins s e) where
  abbrev l : Begins s e → ℕ
  l k = k.job.letter.node

  same_job : a.job ≡ b.job
  same_job = same_some a.job b.job a.works.its b.works.its

  same_stack : a.stack ≡ b.stack
  same_stack = same_some a.stack b.stack
      (subst (λ (j : Job). stack_at s.stacks j.letter.stack ≡ Some a.stack) same_job a.names.in_table) b.names.in_table

  same_graph : a.graph ≡ b.graph
  same_graph = same_some a.graph b.graph
      (subst (λ (j : Job). graph_at s.graphs j.letter.stack ≡ Some a.graph) same_job a.names.its_graph)
      b.names.its_graph

  same_name : a.name ≡ b.name
  same_name = inner (same_some (U a.name a.chosen) (U b.name b.chosen)
      (subst (λ (x : Graph). slice_get x.graph.nodes b.job.letter.node ≡ Some (U a.name a.chosen)) same_graph
      (subst (λ (j : Job). slice_get a.graph.graph.nodes j.letter.node ≡ Some (U a.name a.chosen)) same_job
      a.names.its_node)) b.names.its_node) where
        inner : U a.name a.chosen ≡ U b.name b.chosen → a.name ≡ b.name
        inner e = cc

  same_item : a.item ≡ b.item
  same_item = same_some a.item b.item
      (subst (λ (x : Stack). item_at (plan_of x.plan).items b.name ≡ Some a.item) same_stack
      (subst (λ (x : List ℕ). item_at (plan_of a.stack.plan).items x ≡ Some a.item) same_name a.asked)) b.asked

  same_point : a.point ≡ b.point
  same_point = same_some a.point b.point
      (subst (λ (x : Graph). slice_get x.points b.job.letter.node ≡ Some a.point) same_graph
      (subst (λ (j : Job). slice_get a.graph.points j.letter.node ≡ Some a.point) same_job a.its_point)) b.its_point

  pub resolves_here : (result : Resolved) → ResolvesTo s e a result → ResolvesTo s e b result
  resolves_here result k = record {
    known = k.known;
    known_are = subst (λ (x : Item). AreKnown b.point.inputs x.needs k.known) same_item
        (subst (λ (x : Point). AreKnown x.inputs a.item.needs k.known) same_point k.known_are);
    result_is = subst (λ (x : Stack). resolve (plan_of x.plan) b.item k.known ≡ result) same_stack
        (subst (λ (x : Item). resolve (plan_of a.stack.plan) x k.known ≡ result) same_item k.result_is);
  }

-- what a begin was given, its node resolves to
pub tied_props : (judges : Judges) (s : StateData) (e : ℕ) (k : Begins s e) (props : Members) (effect : Effect)
    → IsTied judges s e (Prepared props effect) → ResolvesTo s e k (Props props)
tied_props judges s e k props effect (prepared m _ _ result _) = resolves_here s e m k (Props props) result

module _ (s : StateData) (h : Standing s) (e : ℕ) (k : Begins s e) (newest : k.row.trav ≡ k.stack.trav)
    (begun : k.row.act ≢ Init) where
  is_begun : IsBegun k.stack (graph_of s k.job.letter.stack) k.job.letter.node k.name k.row
  is_begun = (h.shape.rows k.job.letter.stack k.stack k.names.in_table).begun k.job.letter.node k.name k.row
      (its_aim s h e k) newest begun

  same_asked : is_begun.item ≡ k.item
  same_asked = same_some is_begun.item k.item is_begun.asked k.asked

  -- it has the properties and the kind that it was given
  module _ (props : Members) (given_props : ResolvesTo s e k (Props props)) where
    resolved : Resolves k.stack (graph_of s k.job.letter.stack) k.job.letter.node k.name
        (Props (unwrap_or k.row.target k.row.props))
    resolved = is_begun.props

    its_point : slice_get (graph_of s k.job.letter.stack).points k.job.letter.node ≡ Some k.point
    its_point = subst (λ (x : Graph). slice_get x.points k.job.letter.node ≡ Some k.point)
        (sym (graph_is s h e k)) k.its_point

    same_known : resolved.known ≡ given_props.known
    same_known = known_once s k.stack (graph_of s k.job.letter.stack)
        (its_graph_fits s h e k) k.job.letter.node k.point its_point k.item.needs
        resolved.known given_props.known
        (subst (λ (x : Item). AreKnown k.point.inputs x.needs resolved.known)
        (same_some resolved.item k.item resolved.asked k.asked)
        (subst (λ (x : Point). AreKnown x.inputs resolved.item.needs resolved.known)
        (same_some resolved.point k.point resolved.there its_point) resolved.known_are))
        given_props.known_are

    pub same_props : unwrap_or k.row.target k.row.props ≡ props
    same_props = inner (sym resolved.result_is
        ∙ (ap (λ (x : Item). resolve (plan_of k.stack.plan) x resolved.known)
        (same_some resolved.item k.item resolved.asked k.asked)
        ∙ (ap (λ (x : List KnownFacts). resolve (plan_of k.stack.plan) k.item x) same_known
        ∙ given_props.result_is))) where
          inner : Props (unwrap_or k.row.target k.row.props) ≡ Props props → unwrap_or k.row.target k.row.props ≡ props
          inner e = cc

    pub same_kind : k.row.kind.name ≡ k.item.kind.name
    same_kind = is_begun.kind ∙ ap (λ (x : Item). x.kind.name) same_asked

-- a row that this traversal began isn't replaced by it
pub never_again : (judges : Judges) (s : StateData) → Standing s
    → (e : ℕ) (k : Begins s e) (props : Members) (effect : Effect)
    → IsTied judges s e (Prepared props effect) → k.row.act ≢ Init → MustGo k.row k.item k.stack.trav props effect
    → k.row.trav ≢ k.stack.trav
never_again judges s h e k props effect tied begun (overtaken _ ne) = ne
never_again judges s h e k props effect tied begun (given_up _ ne) = ne
never_again judges s h e k props effect tied begun (changed status other hard) = λ newest.
    let it = tied_props judges s e k props effect tied in
    let no_target : k.row.target ≡ None = (h.shape.each_row k.job.row k.row k.found).plain (inr (inr status)) in
    other (record {
      kind = same_kind s h e k newest begun props it;
      props_are = ap (λ (x : Option Members). unwrap_or x k.row.props) (sym no_target)
          ∙ same_props s h e k newest begun props it;
    })
