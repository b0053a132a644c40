-- Orders and cycles of a relation are those of any other that joins the same nodes.
use Rattle.std.proofs.Common.{ℕ, List, [], ◌∷◌, ◌++◌}
use Rattle.dep_graph.specs.Lists.{IsLeast}
use Rattle.dep_graph.specs.Paths.{IsCycle, IsAcyclic, Against}
use Rattle.dep_graph.specs.Orders.{IsReady, IsTaken, takes, IsLeft, GoesBack, Orders}
use Rattle.dep_graph.proofs.PathLemmas.{Leads-weaker}

module _ (E F : ℕ → ℕ → Type 0) (to : (x y : ℕ) → E x y → F x y) (from : (x y : ℕ) → F x y → E x y) where
  pub cycle_alike : (c : List ℕ) → IsCycle E c → IsCycle F c
  cycle_alike [] h = absurd h
  cycle_alike (x ∷ c) h = Leads-weaker E F to x (c ++ x ∷ []) x h

  against_alike : (c : List ℕ) → IsCycle (Against E) c → IsCycle (Against F) c
  against_alike [] h = absurd h
  against_alike (x ∷ c) h = Leads-weaker (Against E) (Against F) (λ a b e. to b a e) x (c ++ x ∷ []) x h

  taken_alike : (node : ℕ) → IsTaken E node → IsTaken F node
  taken_alike node (takes n h) = takes n (λ pred e. taken_alike pred (h pred (from pred n e)))

  ready_alike : (size : ℕ) (listed : List ℕ) (node : ℕ) → IsReady E size listed node → IsReady F size listed node
  ready_alike size listed node h = record {
    within = h.within;
    fresh = h.fresh;
    ready = λ pred e. h.ready pred (from pred node e);
  }

least_alike : (P Q : ℕ → Type 0) → ((x : ℕ) → P x → Q x) → ((x : ℕ) → Q x → P x) → (n : ℕ) → IsLeast P n → IsLeast Q n
least_alike P Q f g n h = record { is = f n h.is; least = λ x q. h.least x (g x q) }

module _ (E F : ℕ → ℕ → Type 0) (to : (x y : ℕ) → E x y → F x y) (from : (x y : ℕ) → F x y → E x y) where
  pub acyclic_alike : IsAcyclic E → IsAcyclic F
  acyclic_alike h nodes c = h nodes (cycle_alike F E from to nodes c)

  left_alike : (node : ℕ) → IsLeft E node → IsLeft F node
  left_alike node h t = h (taken_alike F E from to node t)

module _ (E F : ℕ → ℕ → Type 0) (to : (x y : ℕ) → E x y → F x y) (from : (x y : ℕ) → F x y → E x y) where
  back_alike : (node next : ℕ) → GoesBack E node next → GoesBack F node next
  back_alike node next h =
      least_alike (λ p. E p node × IsLeft E p) (λ p. F p node × IsLeft F p)
      (λ p k. (to p node k.0, left_alike E F to from p k.1))
      (λ p k. (from p node k.0, left_alike F E from to p k.1)) next h

  pub orders_alike : (size : ℕ) (order : List ℕ) → Orders E size order → Orders F size order
  orders_alike size order h = record {
    acyclic = acyclic_alike E F to from h.acyclic;
    listed = record {
      all = h.listed.all;
      once = h.listed.once;
      forward = λ front node back is pred e. h.listed.forward front node back is pred (from pred node e);
      least = λ front node back is.
          least_alike (IsReady E size front) (IsReady F size front) (ready_alike E F to from size front)
          (ready_alike F E from to size front)
          node (h.listed.least front node back is);
    };
  }
