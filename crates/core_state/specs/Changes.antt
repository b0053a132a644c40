-- What each change does to a state.
use Rattle.std.specs.Prelude.{ℕ, List, [], ◌∷◌, ◌++◌, cond, filter, not, nat_eq, slice_set}
use Rattle.std.specs.Str.{bytes_eq}
use Rattle.traversal_graph.specs.declared.shape.TravGraph.{TravGraph}
use Rattle.row_table.specs.Rows.{put_row, cut_row}
use Rattle.sync_points.specs.declared.point.Point.{Point}
use Rattle.mail_table.specs.Mails.{put_letter, put_job, cut_letter, cut_job}
use Rattle.core_state.specs.declared.graph.Graph.{Graph}
use Rattle.core_state.specs.declared.change.Change.{Change}
use Rattle.core_state.specs.declared.change.Change.TheVariants.{PutStack, DropStack, PutRow, DropRow, PutGraph, PutPoint, Send, Drop, PutJob, EndJob, Enlist, Stop, Numbers, PutPast, Release}
use Rattle.core_state.specs.Graphs.{fresh_points}
use Rattle.core_state.specs.State.{StateData, put_stack, put_graph, put_past, cut_stack, cut_graph, cut_past}

-- a graph on which nothing has been done
abbrev pub fresh_graph : List ℕ → TravGraph → Graph
fresh_graph stack g = record { stack = stack; graph = g; points = fresh_points stack 0 g.nodes }

-- the points that a change brings with it
abbrev pub points_for : Change → List Point
points_for (PutGraph name g) = fresh_points name 0 g.nodes
points_for c = []

-- a graph with this point in the place of its node's
abbrev pub with_point : Point → Graph → Graph
with_point p g = record g { points = slice_set g.points p.node p }

-- the point of one node of one stack's graph is written
unfoldable pub put_point : Point → List Graph → List Graph
put_point p [] = []
put_point p (g ∷ gs) = cond (bytes_eq g.stack p.stack) (with_point p g ∷ gs) (g ∷ put_point p gs)

-- one change
abbrev pub apply : Change → StateData → StateData
apply (PutStack x) s = record s { stacks = put_stack x s.stacks }
apply (DropStack name) s = record s {
  stacks = cut_stack name s.stacks;
  graphs = cut_graph name s.graphs;
  pasts = cut_past name s.pasts;
}
apply (PutRow r) s = record s { rows = put_row r s.rows }
apply (DropRow n) s = record s { rows = cut_row n s.rows }
apply (PutGraph name g) s = record s { graphs = put_graph (fresh_graph name g) s.graphs }
apply (PutPoint p) s = record s { graphs = put_point p s.graphs }
apply (Send l) s = record s { letters = put_letter l s.letters }
apply (Drop n) s = record s { letters = cut_letter n s.letters }
apply (PutJob j) s = record s { jobs = put_job j s.jobs }
apply (EndJob e) s = record s { jobs = cut_job e s.jobs }
apply (Enlist e) s = record s { live = s.live ++ e ∷ [] }
apply (Stop e) s = record s { live = filter (λ x. not (nat_eq x e)) s.live }
apply (Numbers n) s = record s { next = n }
apply (PutPast p) s = record s { pasts = put_past p s.pasts }
apply (Release t) s = record s { released = s.released ++ t ∷ [] }

-- all of them, in order
abbrev pub applied : List Change → StateData → StateData
applied [] s = s
applied (c ∷ cs) s = applied cs (apply c s)
