-- Letters fit where each was there before or goes to a ready node, and graphs only get readier: `letters_fit`.
use Rattle.std.proofs.Common.{◌≡◌, ◌⊎◌, inl, inr, ℕ, suc, ◌+◌, List, [], ◌∷◌, Some, sym, ap, ◌∙◌, subst, arith}
use Rattle.std.specs.Prelude.{Contains, slice_get}
use Rattle.std.proofs.lemmas.List.Elements.{Contains-append_cases}
use Rattle.traversal_graph.specs.declared.shape.Node.{Node}
use Rattle.mail_table.specs.Mails.{letter_at, put_letter}
use Rattle.mail_table.specs.declared.mail.Letter.{Letter}
use Rattle.core_state.specs.Reads.{IsReady}
use Rattle.core_state.specs.State.{StateData, graph_at, stack_at}
use Rattle.core_state.specs.declared.graph.Graph.{Graph}
use Rattle.core_state.specs.declared.stack.Stack.{Stack}
use Rattle.step_relation.specs.Writes.{letter_to, letters_to}
use Rattle.step_relation.specs.MailFits.{IsNewest, LetterStands, LettersFit}
use Rattle.graph_laws.proofs.graphs.Below.{letter_put}
use Rattle.graph_laws.proofs.graphs.Kept.{SameStacks, sent}

-- a ready node stands where the letter goes
pub record GoesTo (t : StateData) (l : Letter) : Type 0 where
  pub graph : Graph
  pub node : Node
  pub its_graph : graph_at t.graphs l.stack ≡ Some graph
  pub its_node : slice_get graph.graph.nodes l.node ≡ Some node
  pub ready : IsReady graph l.node

-- if its stack stands
abbrev pub Goes : StateData → Letter → Type 0
Goes t l = (st : Stack) → stack_at t.stacks l.stack ≡ Some st → GoesTo t l

-- a graph is found with the same nodes, of which no fewer are ready
pub record Grown (t : StateData) (name : List ℕ) (g : Graph) : Type 0 where
  pub graph : Graph
  pub found : graph_at t.graphs name ≡ Some graph
  pub nodes : (i : ℕ) (node : Node) → slice_get g.graph.nodes i ≡ Some node → slice_get graph.graph.nodes i ≡ Some node
  pub ready : (i : ℕ) → IsReady g i → IsReady graph i

-- a letter that waited and is of the newest traversal was so, and its graph has grown
pub record Was (s t : StateData) (l : Letter) : Type 0 where
  pub stack : Stack
  pub newest : IsNewest s l stack
  pub grown : (g : Graph) → graph_at s.graphs l.stack ≡ Some g → Grown t l.stack g

pub letters_fit : (s t : StateData) → LettersFit s
    → ((n : ℕ) (l : Letter) (st : Stack) → letter_at s.letters n ≡ Some l → IsNewest t l st → Was s t l)
    → ((n : ℕ) (l : Letter) → letter_at t.letters n ≡ Some l → (letter_at s.letters n ≡ Some l) ⊎ Goes t l)
    → LettersFit t
letters_fit s t old was letters = record { newest = λ n l st at k. by l st k (by_letter n l st at k) } where
  by : (l : Letter) (st : Stack) → IsNewest t l st → GoesTo t l → LetterStands t l st
  by l st k goes = record {
    graph = goes.graph;
    node = goes.node;
    names = record { in_table = k.in_table; newest = k.newest; its_graph = goes.its_graph; its_node = goes.its_node };
    ready = goes.ready;
  }

  by_letter : (n : ℕ) (l : Letter) (st : Stack) → letter_at t.letters n ≡ Some l → IsNewest t l st → GoesTo t l
  by_letter n l st at k = elim (letters n l at) [
    | inl there ↦
        let w = was n l st there k in
        let stood : LetterStands s l w.stack = old.newest n l w.stack there w.newest in
        let more : Grown t l.stack stood.graph = w.grown stood.graph stood.names.its_graph in
        record {
          graph = more.graph;
          node = stood.node;
          its_graph = more.found;
          its_node = more.nodes l.node stood.node stood.names.its_node;
          ready = more.ready l.node stood.ready;
        }
    | inr goes ↦ goes st k.in_table
  ]

-- where of each stack the status alone may be another
pub was_same : (s t : StateData) → SameStacks s.stacks t.stacks → (l : Letter) (st : Stack) → IsNewest t l st
    → ((g : Graph) → graph_at s.graphs l.stack ≡ Some g → Grown t l.stack g) → Was s t l
was_same s t stacks l st k grown =
    let (o, x, at, is) = stacks l.stack st k.in_table in record {
      stack = o;
      newest = record { in_table = at; newest = ap (λ (y : Stack). y.trav) is ∙ k.newest };
      grown = grown;
    }

-- the same graph
pub grown_same : (s t : StateData) → t.graphs ≡ s.graphs → (name : List ℕ) (g : Graph) → graph_at s.graphs name ≡ Some g
    → Grown t name g
grown_same s t same name g at = record {
  graph = g;
  found = subst (λ (gs : List Graph). graph_at gs name ≡ Some g) (sym same) at;
  nodes = λ i node h. h;
  ready = λ i h. h;
}

nothing : {A : Type 0} (y : A) → Contains [] y → ⊥
nothing y (n, lt, is) = omega arith

-- a letter that is found after some were sent waited, or is one of them
pub sent_found : (ls letters : List Letter) (n : ℕ) (l : Letter) → letter_at (sent ls letters) n ≡ Some l
    → (letter_at letters n ≡ Some l) ⊎ Contains ls l
sent_found [] letters n l at = inl at
sent_found (x ∷ ls) letters n l at = elim (sent_found ls (put_letter x letters) n l at) [
  | inl was ↦ elim (letter_put x letters was) [
    | inl new ↦ inr (0, omega arith, new.1)
    | inr old ↦ inl old.1
  ]
  | inr (k, lt, is) ↦ inr (suc k, omega (arith, lt), is)
]

-- a letter of the list goes to one of the nodes
pub record IsTo (st : Stack) (nodes : List ℕ) (l : Letter) : Type 0 where
  pub stack : l.stack ≡ st.name
  pub among : Contains nodes l.node

pub letters_are : (st : Stack) (number : ℕ) (nodes : List ℕ) (l : Letter) → Contains (letters_to st number nodes) l
    → IsTo st nodes l
letters_are st number [] l c = absurd (nothing l c)
letters_are st number (k ∷ nodes) l c =
    elim (Contains-append_cases (letter_to st number k ∷ []) (letters_to st (number + 1) nodes) l c) [
      | inl first ↦ let is = only_one (letter_to st number k) l first in
          record {
            stack = ap (λ (x : Letter). x.stack) (sym is);
            among = (0, omega arith, ap (λ (x : Letter). x.node) is);
          }
      | inr later ↦ let more = letters_are st (number + 1) nodes l later in
          record {
            stack = more.stack;
            among = (suc more.among.0, (let lt = more.among.1 in omega (arith, lt)), more.among.2);
          }
    ] where
      only_one : (x y : Letter) → Contains (x ∷ []) y → x ≡ y
      only_one x y (n, lt, is) = let first : n ≡ 0 = omega arith in rw first at is
