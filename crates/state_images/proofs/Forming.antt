-- Every change that applies keeps what a state has that changes made of nothing.
use Rattle.std.proofs.Common.{◌≡◌, ◌≢◌, inl, inr, ◌+◌, length, suc, ℕ, Bool, true, false, cond, List, [], ◌∷◌, Some, None, refl, sym, ap, subst, arith}
use Rattle.std.specs.Prelude.{IsSome, not, nat_eq}
use Rattle.std.specs.List.{AllByRecursion}
use Rattle.std.specs.Str.{bytes_eq}
use Rattle.std.proofs.lemmas.Bool.Decides.{Decides-eqb}
use Rattle.std.proofs.lemmas.Slice.Eq.{bytes_eq-Decides}
use Rattle.heat_plan.specs.Tables.{at}
use Rattle.core_state.specs.declared.Node.{Node}
use Rattle.core_state.specs.declared.TravGraph.{TravGraph}
use Rattle.row_table.specs.Rows.{row_key}
use Rattle.mail_table.specs.Mails.{job_key, letter_key}
use Rattle.core_state.specs.declared.Point.{Point}
use Rattle.core_state.specs.Applies.{AllApply, Applies, IsWithin}
use Rattle.core_state.specs.Changes.{applied, apply, fresh_graph, put_point, with_point}
use Rattle.core_state.specs.State.{StateData, cut_graph, cut_past, cut_stack, graph_key, past_key, put_graph}
use Rattle.core_state.specs.State.{put_stack, stack_at, stack_key}
use Rattle.core_state.specs.declared.change.Change.{Change}
use Rattle.core_state.specs.declared.change.Change.TheVariants as change
use Rattle.core_state.specs.declared.graph.Graph.{Graph}
use Rattle.core_state.specs.declared.stack.Stack.{Stack}
use Rattle.step_relation.specs.Images.{IsMade}
use Rattle.step_relation.specs.Opening.{bare}
use Rattle.history_laws.proofs.tables.Tables.{at-cut_other, cases, some_put}
use Rattle.state_images.specs.Formed.{AreByNode, HasKeysOnce, IsAligned, IsFormed, IsLaid, IsOfThese, StacksStand}
use Rattle.state_images.proofs.Keys.{once_cut, once_put}
use Rattle.state_images.proofs.News.{new_filter, new_push}
use Rattle.state_images.proofs.Alls.{all_cut, all_put, all_weaker}
use Rattle.state_images.proofs.Points.{fresh_by_node, set_by_node}

-- a stack that is written, or another that goes, leaves each stack
still_put : (x : Stack) (stacks : List Stack) (name : List ℕ) → IsSome (stack_at stacks name)
    → IsSome (stack_at (put_stack x stacks) name)
still_put x stacks name h = some_put bytes_eq bytes_eq-Decides stack_key x stacks name h

still_cut : (c : List ℕ) (stacks : List Stack) (name : List ℕ) → name ≢ c → IsSome (stack_at stacks name)
    → IsSome (stack_at (cut_stack c stacks) name)
still_cut c stacks name ne h = rw (at-cut_other bytes_eq bytes_eq-Decides stack_key stacks c name (λ e. ne (sym e))) h

laid_on : (stacks others : List Stack) (g : Graph) → (IsSome (stack_at stacks g.stack) → IsSome (stack_at others g.stack))
    → IsLaid stacks g → IsLaid others g
laid_on stacks others g still l = record { stands = still l.stands; points = l.points; ends = l.ends }

-- a point that is written
laid_point : (stacks : List Stack) (p : Point) (g : Graph) → g.stack ≡ p.stack → IsLaid stacks g → IsLaid stacks (with_point p g)
laid_point stacks p g is l = record {
  stands = l.stands;
  points = set_by_node g.stack 0 g.graph.nodes g.points p.node p (sym is) (omega arith) l.points;
  ends = l.ends;
}

module _ (p : Point) where
  point_cases : (g : Graph) (gs : List Graph) (P : List Graph → Type 0) → (g.stack ≡ p.stack → P (with_point p g ∷ gs))
      → P (g ∷ put_point p gs) → P (put_point p (g ∷ gs))
  unfolding put_point
  point_cases g gs P here there = elim (cases bytes_eq bytes_eq-Decides (λ (z : List ℕ). z) g.stack p.stack) [
    | inl is ↦ rw is.0 (here is.1)
    | inr not ↦ rw not.0 there
  ]

  point_key : (k : List ℕ) (gs : List Graph) → at bytes_eq graph_key gs k ≡ None → at bytes_eq graph_key (put_point p gs) k ≡ None
  unfolding at put_point
  point_key k [] h = h
  point_key k (g ∷ gs) h = point_cases g gs (λ (x : List Graph). at bytes_eq graph_key x k ≡ None) (λ is. by (bytes_eq g.stack k) h) (go (bytes_eq g.stack k) h (point_key k gs)) where
    by : (b : Bool) → cond b (Some g) (at bytes_eq graph_key gs k) ≡ None → cond b (Some (with_point p g)) (at bytes_eq graph_key gs k) ≡ None
    by true e = cc
    by false e = e

    go : (b : Bool) → cond b (Some g) (at bytes_eq graph_key gs k) ≡ None
        → (at bytes_eq graph_key gs k ≡ None → at bytes_eq graph_key (put_point p gs) k ≡ None)
        → cond b (Some g) (at bytes_eq graph_key (put_point p gs) k) ≡ None
    go true e rest = cc
    go false e rest = rest e

  once_point : (gs : List Graph) → HasKeysOnce bytes_eq graph_key gs → HasKeysOnce bytes_eq graph_key (put_point p gs)
  unfolding put_point
  once_point [] h = tt
  once_point (g ∷ gs) h = point_cases g gs (HasKeysOnce bytes_eq graph_key) (λ is. (h.0, h.1)) (point_key g.stack gs h.0, once_point gs h.1)

  laid_points : (stacks : List Stack) (gs : List Graph) → AllByRecursion (IsLaid stacks) gs → AllByRecursion (IsLaid stacks) (put_point p gs)
  unfolding put_point
  laid_points stacks [] h = tt
  laid_points stacks (g ∷ gs) h = point_cases g gs (AllByRecursion (IsLaid stacks)) (λ is. (laid_point stacks p g is h.0, h.1)) (h.0, laid_points stacks gs h.1)

module _ (s : StateData) (f : IsFormed s) where
  abbrev k : StacksStand s.stacks s.graphs s.pasts
  k = f.stacks

  stacks_put : (x : Stack) → StacksStand (put_stack x s.stacks) s.graphs s.pasts
  stacks_put x = record {
    once = once_put bytes_eq bytes_eq-Decides stack_key x s.stacks k.once;
    graphs_once = k.graphs_once;
    pasts_once = k.pasts_once;
    laid = all_weaker (IsLaid s.stacks) (IsLaid (put_stack x s.stacks)) s.graphs
        (λ g l. laid_on s.stacks (put_stack x s.stacks) g (still_put x s.stacks g.stack) l) k.laid;
    kept = all_weaker (IsOfThese s.stacks) (IsOfThese (put_stack x s.stacks)) s.pasts (λ p l. still_put x s.stacks p.stack l) k.kept;
  }

  stacks_cut : (c : List ℕ) → StacksStand (cut_stack c s.stacks) (cut_graph c s.graphs) (cut_past c s.pasts)
  stacks_cut c = record {
    once = once_cut bytes_eq bytes_eq-Decides stack_key c s.stacks k.once;
    graphs_once = once_cut bytes_eq bytes_eq-Decides graph_key c s.graphs k.graphs_once;
    pasts_once = once_cut bytes_eq bytes_eq-Decides past_key c s.pasts k.pasts_once;
    laid = all_cut bytes_eq bytes_eq-Decides graph_key (IsLaid s.stacks) (IsLaid (cut_stack c s.stacks)) c s.graphs
        (λ g ne l. laid_on s.stacks (cut_stack c s.stacks) g (still_cut c s.stacks g.stack ne) l) k.laid;
    kept = all_cut bytes_eq bytes_eq-Decides past_key (IsOfThese s.stacks) (IsOfThese (cut_stack c s.stacks)) c s.pasts
        (λ p ne l. still_cut c s.stacks p.stack ne l) k.kept;
  }

  graphs_put : (name : List ℕ) (g : TravGraph) → IsSome (stack_at s.stacks name) → IsWithin g
      → StacksStand s.stacks (put_graph (fresh_graph name g) s.graphs) s.pasts
  graphs_put name g stands ends = record {
    once = k.once;
    pasts_once = k.pasts_once;
    kept = k.kept;
    graphs_once = once_put bytes_eq bytes_eq-Decides graph_key (fresh_graph name g) s.graphs k.graphs_once;
    laid = all_put bytes_eq bytes_eq-Decides graph_key (IsLaid s.stacks) (fresh_graph name g) s.graphs
        (record { stands = stands; points = fresh_by_node name 0 g.nodes; ends = ends }) k.laid;
  }

pub formed_apply : (c : Change) (s : StateData) → Applies s c → IsFormed s → IsFormed (apply c s)
formed_apply (change.PutStack x) s a f = record { stacks = stacks_put s f x; work = f.work; lists = f.lists }
formed_apply (change.DropStack c) s a f = record { stacks = stacks_cut s f c; work = f.work; lists = f.lists }
formed_apply (change.PutGraph name g) s a f = record { stacks = graphs_put s f name g a.0 a.1; work = f.work; lists = f.lists }
formed_apply (change.PutPoint p) s a f = let k = f.stacks in record {
  stacks = record {
    once = k.once;
    graphs_once = once_point p s.graphs k.graphs_once;
    pasts_once = k.pasts_once;
    laid = laid_points p s.stacks s.graphs k.laid;
    kept = k.kept;
  };
  work = f.work;
  lists = f.lists;
}
formed_apply (change.PutPast p) s a f = let k = f.stacks in record {
  stacks = record {
    once = k.once;
    graphs_once = k.graphs_once;
    pasts_once = once_put bytes_eq bytes_eq-Decides past_key p s.pasts k.pasts_once;
    laid = k.laid;
    kept = all_put bytes_eq bytes_eq-Decides past_key (IsOfThese s.stacks) p s.pasts a k.kept;
  };
  work = f.work;
  lists = f.lists;
}
formed_apply (change.PutRow r) s a f = record {
  stacks = f.stacks;
  lists = f.lists;
  work = record {
    rows_once = once_put nat_eq Decides-eqb row_key r s.rows f.work.rows_once;
    letters_once = f.work.letters_once;
    jobs_once = f.work.jobs_once;
  };
}
formed_apply (change.DropRow n) s a f = record {
  stacks = f.stacks;
  lists = f.lists;
  work = record {
    rows_once = once_cut nat_eq Decides-eqb row_key n s.rows f.work.rows_once;
    letters_once = f.work.letters_once;
    jobs_once = f.work.jobs_once;
  };
}
formed_apply (change.Send l) s a f = record {
  stacks = f.stacks;
  lists = f.lists;
  work = record {
    rows_once = f.work.rows_once;
    letters_once = once_put nat_eq Decides-eqb letter_key l s.letters f.work.letters_once;
    jobs_once = f.work.jobs_once;
  };
}
formed_apply (change.Drop n) s a f = record {
  stacks = f.stacks;
  lists = f.lists;
  work = record {
    rows_once = f.work.rows_once;
    letters_once = once_cut nat_eq Decides-eqb letter_key n s.letters f.work.letters_once;
    jobs_once = f.work.jobs_once;
  };
}
formed_apply (change.PutJob j) s a f = record {
  stacks = f.stacks;
  lists = f.lists;
  work = record {
    rows_once = f.work.rows_once;
    letters_once = f.work.letters_once;
    jobs_once = once_put nat_eq Decides-eqb job_key j s.jobs f.work.jobs_once;
  };
}
formed_apply (change.EndJob e) s a f = record {
  stacks = f.stacks;
  lists = f.lists;
  work = record {
    rows_once = f.work.rows_once;
    letters_once = f.work.letters_once;
    jobs_once = once_cut nat_eq Decides-eqb job_key e s.jobs f.work.jobs_once;
  };
}
formed_apply (change.Enlist e) s a f = record {
  stacks = f.stacks;
  work = f.work;
  lists = record {
    live_once = new_push [] s.live e f.lists.live_once a;
    released_once = f.lists.released_once;
    begun = f.lists.begun;
  };
}
formed_apply (change.Stop e) s a f = record {
  stacks = f.stacks;
  work = f.work;
  lists = record {
    live_once = new_filter (λ x. not (nat_eq x e)) [] [] s.live (λ x c. c) f.lists.live_once;
    released_once = f.lists.released_once;
    begun = f.lists.begun;
  };
}
formed_apply (change.Numbers n) s a f = record {
  stacks = f.stacks;
  work = f.work;
  lists = record {
    live_once = f.lists.live_once;
    released_once = f.lists.released_once;
    begun = let b = f.lists.begun in
        record { stack = omega arith; trav = omega arith; row = omega arith; engine = omega arith; letter = omega arith };
  };
}
formed_apply (change.Release t) s a f = record {
  stacks = f.stacks;
  work = f.work;
  lists = record {
    live_once = f.lists.live_once;
    released_once = new_push [] s.released t f.lists.released_once a;
    begun = f.lists.begun;
  };
}

pub formed_bare : IsFormed bare
formed_bare = record {
  stacks = record { once = tt; graphs_once = tt; pasts_once = tt; laid = tt; kept = tt };
  work = record { rows_once = tt; letters_once = tt; jobs_once = tt };
  lists = record {
    live_once = tt;
    released_once = tt;
    begun = record { stack = omega arith; trav = omega arith; row = omega arith; engine = omega arith; letter = omega arith };
  };
}

pub formed_applied : (cs : List Change) (s : StateData) → AllApply cs s → IsFormed s → IsFormed (applied cs s)
formed_applied [] s a f = f
formed_applied (c ∷ cs) s a f = formed_applied cs (apply c s) a.1 (formed_apply c s a.0 f)

pub made_formed : (s : StateData) → IsMade s → IsFormed s
made_formed s m = subst IsFormed (sym m.replayed) (formed_applied m.written bare m.applies formed_bare)

-- as many points as nodes
lengths : (stack : List ℕ) (place : ℕ) (nodes : List Node) (ps : List Point) → AreByNode stack place nodes ps
    → length ps ≡ length nodes
lengths stack place [] [] h = refl
lengths stack place [] (p ∷ ps) h = absurd h
lengths stack place (node ∷ nodes) [] h = absurd h
lengths stack place (node ∷ nodes) (p ∷ ps) h = ap suc (lengths stack (place + 1) nodes ps h.2)

pub made_aligned : (s : StateData) → IsMade s → AllByRecursion IsAligned s.graphs
made_aligned s m = all_weaker (IsLaid s.stacks) IsAligned s.graphs
    (λ g l. lengths g.stack 0 g.graph.nodes g.points l.points) (made_formed s m).stacks.laid
