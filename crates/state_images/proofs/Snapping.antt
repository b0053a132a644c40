-- The snapshot of a state makes it of nothing.
use Rattle.std.proofs.Common.{◌≡◌, ◌<◌, true, false, ℕ, ◌+◌, List, [], ◌∷◌, ◌++◌, map, length, Some, None, refl, sym, ap, ◌∙◌, subst, arith, append_assoc, length-append}
use Rattle.std.specs.Prelude.{flat_map, nat_eq}
use Rattle.std.specs.List.{AllByRecursion}
use Rattle.std.specs.Str.{bytes_eq}
use Rattle.std.proofs.lemmas.Bool.Decides.{Decides-eqb}
use Rattle.std.proofs.lemmas.Slice.Eq.{bytes_eq-Decides}
use Rattle.heat_plan.specs.Tables.{at}
use Rattle.core_state.specs.declared.Node.{Node}
use Rattle.core_state.specs.declared.TravGraph.{TravGraph}
use Rattle.row_table.specs.Rows.{row_key}
use Rattle.mail_table.specs.Mails.{job_key, letter_key}
use Rattle.core_state.specs.declared.Point.{Point}
use Rattle.core_state.specs.Graphs.{fresh_points}
use Rattle.core_state.specs.Applies.{HasNode}
use Rattle.core_state.specs.Changes.{apply, put_point, with_point}
use Rattle.core_state.specs.State.{StateData, graph_at, graph_key, past_key, stack_key}
use Rattle.core_state.specs.declared.change.Change.TheVariants.{PutPoint}
use Rattle.core_state.specs.declared.graph.Graph.{Graph}
use Rattle.step_relation.specs.Images.{IsMade}
use Rattle.step_relation.specs.Opening.{bare}
use Rattle.state_images.specs.Formed.{AreByNode, HasKeysOnce, IsFormed, IsLaid}
use Rattle.state_images.specs.Snapshots.{last_changes, snapshot, stack_changes, work_changes}
use Rattle.state_images.proofs.Keys.{AreFree, free_more, free_of_none, none_head}
use Rattle.state_images.proofs.Points.{set_behind}
use Rattle.state_images.proofs.Written.{Leads, engines_written, fresh_of, graphs_written, jobs_written, joined}
use Rattle.state_images.proofs.Written.{letters_written, pasts_written, rows_written, stacks_written, tokens_written}

-- the graph behind those of other stacks is found, and its point written
module _ (before : List Graph) (g : Graph) (after : List Graph) (name : List ℕ) (free : graph_at before name ≡ None) (own : g.stack ≡ name) where
  own_test : bytes_eq g.stack name ≡ true
  own_test = (bytes_eq-Decides g.stack name).1 own

  behind_at : (gs : List Graph) → graph_at gs name ≡ None → graph_at (gs ++ g ∷ after) name ≡ Some g
  unfolding at
  behind_at [] h = rw own_test refl
  behind_at (x ∷ xs) h = let (e, n) = none_head bytes_eq bytes_eq-Decides graph_key x xs name h in rw e (behind_at xs n)

  pub found_behind : graph_at (before ++ g ∷ after) name ≡ Some g
  found_behind = behind_at before free

  written_at : (p : Point) → p.stack ≡ name → (gs : List Graph) → graph_at gs name ≡ None
      → put_point p (gs ++ g ∷ after) ≡ gs ++ with_point p g ∷ after
  unfolding put_point
  written_at p is [] h = rw (is, own_test) refl
  written_at p is (x ∷ xs) h = let (e, n) = none_head bytes_eq bytes_eq-Decides graph_key x xs name h in
      let apart : bytes_eq x.stack p.stack ≡ false = rw is e in
      rw apart (ap (λ (zs : List Graph). x ∷ zs) (written_at p is xs n))

  pub written_behind : (p : Point) → p.stack ≡ name → put_point p (before ++ g ∷ after) ≡ before ++ with_point p g ∷ after
  written_behind p is = written_at p is before free

abbrev blank : List ℕ → ℕ → Point
blank stack place = record { stack = stack; node = place; inputs = []; done = false }

-- the points of one graph
module _ (s : StateData) (before : List Graph) (shape : TravGraph) (name : List ℕ) (after : List Graph)
    (free : graph_at before name ≡ None) where
  abbrev holding : List Point → Graph
  holding ps = record { stack = name; graph = shape; points = ps }

  abbrev among : List Point → List Graph
  among ps = before ++ holding ps ∷ after

  abbrev having : List Point → StateData
  having ps = record s { graphs = among ps }

  -- one point, in front of the others
  point_led : (place : ℕ) (rest : List Point) (p : Point) (ps front : List Point) → p.stack ≡ name → p.node ≡ place
      → place ≡ length front → place < length shape.nodes
      → Leads (having ((front ++ p ∷ []) ++ rest)) (map PutPoint ps) (having ((front ++ p ∷ []) ++ ps))
      → Leads (having (front ++ blank name place ∷ rest)) (map PutPoint (p ∷ ps)) (having (front ++ p ∷ ps))
  point_led place rest p ps front own here at lt more =
      record { applies = (its, moved.applies); gives = moved.gives ∙ ap having (append_assoc front (p ∷ []) ps) } where
        its : HasNode (having (front ++ blank name place ∷ rest)) p
        its = record {
          graph = holding (front ++ blank name place ∷ rest);
          its_graph = rw own (found_behind before (holding (front ++ blank name place ∷ rest)) after name free refl);
          within = omega (arith, here, lt);
        }

        is : apply (PutPoint p) (having (front ++ blank name place ∷ rest)) ≡ having ((front ++ p ∷ []) ++ rest)
        is = ap (λ (gs : List Graph). record s { graphs = gs })
            (written_behind before (holding (front ++ blank name place ∷ rest)) after name free refl p own
            ∙ ap among (set_behind front (blank name place) p rest p.node (here ∙ at) ∙ sym (append_assoc front (p ∷ []) rest)))

        moved : Leads (apply (PutPoint p) (having (front ++ blank name place ∷ rest))) (map PutPoint ps) (having ((front ++ p ∷ []) ++ ps))
        moved = subst (λ (u : StateData). Leads u (map PutPoint ps) (having ((front ++ p ∷ []) ++ ps))) (sym is) more

  pub points_of : (place : ℕ) (nodes : List Node) (ps front : List Point) → AreByNode name place nodes ps → place ≡ length front
      → place + length nodes ≡ length shape.nodes
      → Leads (having (front ++ fresh_points name place nodes)) (map PutPoint ps) (having (front ++ ps))
  points_of place [] [] front h at all = record { applies = tt; gives = refl }
  points_of place [] (p ∷ ps) front h at all = absurd h
  points_of place (node ∷ nodes) [] front h at all = absurd h
  points_of place (node ∷ nodes) (p ∷ ps) front h at all =
      point_led place (fresh_points name (place + 1) nodes) p ps front h.0 h.1 at (omega (arith, all))
      (points_of (place + 1) nodes ps (front ++ p ∷ []) h.2
      (omega (arith, at, length-append front (p ∷ []))) (omega (arith, all)))

module _ (s : StateData) where
  pub all_points : (before gs : List Graph) → AllByRecursion (IsLaid s.stacks) gs → AreFree bytes_eq bytes_eq-Decides graph_key before gs
      → HasKeysOnce bytes_eq graph_key gs
      → Leads (record s { graphs = before ++ map fresh_of gs }) (flat_map (λ (g : Graph). map PutPoint g.points) gs)
      (record s { graphs = before ++ gs })
  all_points before [] l f o = record { applies = tt; gives = refl }
  all_points before (g ∷ gs) l f o =
      joined (map PutPoint g.points) (flat_map (λ (h : Graph). map PutPoint h.points) gs)
      (record s { graphs = before ++ fresh_of g ∷ map fresh_of gs }) (record s { graphs = before ++ g ∷ map fresh_of gs })
      (record s { graphs = before ++ g ∷ gs })
      (points_of s before g.graph g.stack (map fresh_of gs) f.0 0 g.graph.nodes g.points [] l.0.points refl (omega arith))
      (subst (λ (x : List Graph). Leads (record s { graphs = x }) (flat_map (λ (h : Graph). map PutPoint h.points) gs)
      (record s { graphs = before ++ g ∷ gs })) (append_assoc before (g ∷ []) (map fresh_of gs))
      (subst (λ (x : List Graph). Leads (record s { graphs = (before ++ g ∷ []) ++ map fresh_of gs })
      (flat_map (λ (h : Graph). map PutPoint h.points) gs) (record s { graphs = x })) (append_assoc before (g ∷ []) gs)
      (all_points (before ++ g ∷ []) gs l.1 (free_more bytes_eq bytes_eq-Decides graph_key before g gs f.1 o.0) o.1)))

module _ (s : StateData) (f : IsFormed s) where
  abbrev with_stacks : StateData
  with_stacks = record bare { stacks = s.stacks }

  abbrev with_graphs : StateData
  with_graphs = record with_stacks { graphs = s.graphs }

  abbrev with_pasts : StateData
  with_pasts = record with_graphs { pasts = s.pasts }

  abbrev with_rows : StateData
  with_rows = record with_pasts { rows = s.rows }

  abbrev with_letters : StateData
  with_letters = record with_rows { letters = s.letters }

  abbrev with_jobs : StateData
  with_jobs = record with_letters { jobs = s.jobs }

  abbrev with_live : StateData
  with_live = record with_jobs { live = s.live }

  abbrev with_released : StateData
  with_released = record with_live { released = s.released }

  stacks_led : Leads bare (stack_changes s) with_pasts
  stacks_led =
      joined _ _ bare with_stacks with_pasts
      (stacks_written bare [] s.stacks (free_of_none bytes_eq bytes_eq-Decides stack_key s.stacks) f.stacks.once)
      (joined _ _ with_stacks (record with_stacks { graphs = map fresh_of s.graphs }) with_pasts
      (graphs_written with_stacks [] s.graphs (free_of_none bytes_eq bytes_eq-Decides graph_key s.graphs) f.stacks.graphs_once f.stacks.laid)
      (joined _ _ (record with_stacks { graphs = map fresh_of s.graphs }) with_graphs with_pasts
      (all_points with_stacks [] s.graphs f.stacks.laid (free_of_none bytes_eq bytes_eq-Decides graph_key s.graphs) f.stacks.graphs_once)
      (pasts_written with_graphs [] s.pasts (free_of_none bytes_eq bytes_eq-Decides past_key s.pasts) f.stacks.pasts_once f.stacks.kept)))

  work_led : Leads with_pasts (work_changes s) with_jobs
  work_led =
      joined _ _ with_pasts with_rows with_jobs
      (rows_written with_pasts [] s.rows (free_of_none nat_eq Decides-eqb row_key s.rows) f.work.rows_once)
      (joined _ _ with_rows with_letters with_jobs
      (letters_written with_rows [] s.letters (free_of_none nat_eq Decides-eqb letter_key s.letters) f.work.letters_once)
      (jobs_written with_letters [] s.jobs (free_of_none nat_eq Decides-eqb job_key s.jobs) f.work.jobs_once))

  last_led : Leads with_jobs (last_changes s) s
  last_led =
      joined _ _ with_jobs with_live s (engines_written with_jobs [] s.live f.lists.live_once)
      (joined _ _ with_live with_released s (tokens_written with_live [] s.released f.lists.released_once)
      (record { applies = (f.lists.begun, tt); gives = refl }))

  pub snapshot_leads : Leads bare (snapshot s) s
  snapshot_leads = joined _ _ bare with_pasts s stacks_led (joined _ _ with_pasts with_jobs s work_led last_led)

pub formed_made : (s : StateData) → IsFormed s → IsMade s
formed_made s f = let l = snapshot_leads s f in record { written = snapshot s; applies = l.applies; replayed = sym l.gives }
