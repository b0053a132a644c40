-- Changes that put no graph, and write only rows of which something holds: each graph stays that of a stack.
use Rattle.std.proofs.Common.{List, subst, sym}
use Rattle.std.proofs.lemmas.Slice.Eq.{bytes_eq-Decides}
use Rattle.std.specs.Prelude.{IsSome, List, None, Option, Some, [], bytes_eq, map, ◌++◌, ◌∷◌}
use Rattle.row_table.specs.declared.row.Row.{Row}
use Rattle.sync_points.specs.declared.point.Point.{Point}
use Rattle.mail_table.specs.declared.mail.Letter.{Letter}
use Rattle.step_relation.specs.Changes.{applied, apply}
use Rattle.step_relation.specs.State.{StateData, stack_key}
use Rattle.step_relation.specs.declared.Change.{Change}
use Rattle.step_relation.specs.declared.Change.TheVariants.{PutPoint, Send}
use Rattle.step_relation.specs.declared.Numbers.{Numbers}
use Rattle.step_relation.specs.declared.Stack.{Stack}
use Rattle.step_relation.specs.Writes.{draw_letters, mark_failed}
use Rattle.step_relation.specs.MailFits.{GraphsStand}
use Rattle.history_laws.proofs.tables.Points.{point_found}
use Rattle.history_laws.proofs.tables.Rows.{graph_cut, stack_kept}
use Rattle.history_laws.proofs.tables.Tables.{some_put}
use Rattle.history_laws.proofs.rows.Written.{AreFine}
use Rattle.step_relation.specs.declared.Change.TheVariants as change_to

-- the change puts no graph, and writes no row or one that is fine
abbrev pub IsCalm : (Row → Type 0) → Change → Type 0
IsCalm P (change_to.PutRow r) = P r
IsCalm P (change_to.PutStack st) = Unit {0}
IsCalm P (change_to.DropStack name) = Unit {0}
IsCalm P (change_to.DropRow n) = Unit {0}
IsCalm P (change_to.PutGraph name g) = ⊥
IsCalm P (change_to.PutPoint p) = Unit {0}
IsCalm P (change_to.Send l) = Unit {0}
IsCalm P (change_to.Drop n) = Unit {0}
IsCalm P (change_to.PutJob j) = Unit {0}
IsCalm P (change_to.EndJob e) = Unit {0}
IsCalm P (change_to.Enlist e) = Unit {0}
IsCalm P (change_to.Stop e) = Unit {0}
IsCalm P (change_to.Numbers next) = Unit {0}
IsCalm P (change_to.PutPast p) = Unit {0}
IsCalm P (change_to.Release t) = Unit {0}

abbrev pub AreCalm : (Row → Type 0) → List Change → Type 0
AreCalm P [] = Unit {0}
AreCalm P (c ∷ cs) = IsCalm P c × AreCalm P cs

module _ (P : Row → Type 0) where
  pub calm_fine : (cs : List Change) → AreCalm P cs → AreFine P cs
  calm_fine [] calm = tt
  calm_fine (change_to.PutRow r ∷ cs) (one, rest) = (one, calm_fine cs rest)
  calm_fine (change_to.PutStack st ∷ cs) (one, rest) = (tt, calm_fine cs rest)
  calm_fine (change_to.DropStack name ∷ cs) (one, rest) = (tt, calm_fine cs rest)
  calm_fine (change_to.DropRow n ∷ cs) (one, rest) = (tt, calm_fine cs rest)
  calm_fine (change_to.PutGraph name g ∷ cs) (one, rest) = absurd one
  calm_fine (change_to.PutPoint p ∷ cs) (one, rest) = (tt, calm_fine cs rest)
  calm_fine (change_to.Send l ∷ cs) (one, rest) = (tt, calm_fine cs rest)
  calm_fine (change_to.Drop n ∷ cs) (one, rest) = (tt, calm_fine cs rest)
  calm_fine (change_to.PutJob j ∷ cs) (one, rest) = (tt, calm_fine cs rest)
  calm_fine (change_to.EndJob e ∷ cs) (one, rest) = (tt, calm_fine cs rest)
  calm_fine (change_to.Enlist e ∷ cs) (one, rest) = (tt, calm_fine cs rest)
  calm_fine (change_to.Stop e ∷ cs) (one, rest) = (tt, calm_fine cs rest)
  calm_fine (change_to.Numbers next ∷ cs) (one, rest) = (tt, calm_fine cs rest)
  calm_fine (change_to.PutPast p ∷ cs) (one, rest) = (tt, calm_fine cs rest)
  calm_fine (change_to.Release t ∷ cs) (one, rest) = (tt, calm_fine cs rest)

  stand_one : (c : Change) (s : StateData) → IsCalm P c → GraphsStand s → GraphsStand (apply c s)
  stand_one (change_to.PutStack st) s calm old = λ name g at.
      some_put bytes_eq bytes_eq-Decides stack_key st s.stacks name (old name g at)
  stand_one (change_to.DropStack dropped) s calm old = λ name g at.
      let was = graph_cut dropped s.graphs at in
      subst IsSome (sym (stack_kept dropped s.stacks name was.0)) (old name g was.1)
  stand_one (change_to.PutPoint p) s calm old = λ name g at.
      let (o, was, like) = point_found p s.graphs name g at in old name o was
  stand_one (change_to.PutGraph name g) s calm old = absurd calm
  stand_one (change_to.PutRow r) s calm old = old
  stand_one (change_to.DropRow n) s calm old = old
  stand_one (change_to.Send l) s calm old = old
  stand_one (change_to.Drop n) s calm old = old
  stand_one (change_to.PutJob j) s calm old = old
  stand_one (change_to.EndJob e) s calm old = old
  stand_one (change_to.Enlist e) s calm old = old
  stand_one (change_to.Stop e) s calm old = old
  stand_one (change_to.Numbers next) s calm old = old
  stand_one (change_to.PutPast p) s calm old = old
  stand_one (change_to.Release t) s calm old = old

  pub stand_applied : (cs : List Change) (s : StateData) → AreCalm P cs → GraphsStand s → GraphsStand (applied cs s)
  stand_applied [] s calm old = old
  stand_applied (c ∷ cs) s (head, tail) old = stand_applied cs (apply c s) tail (stand_one c s head old)

  pub calm_both : (cs ds : List Change) → AreCalm P cs → AreCalm P ds → AreCalm P (cs ++ ds)
  calm_both [] ds calm more = more
  calm_both (c ∷ cs) ds (head, tail) more = (head, calm_both cs ds tail more)

  pub calm_sends : (ls : List Letter) → AreCalm P (map Send ls)
  calm_sends [] = tt
  calm_sends (l ∷ ls) = (tt, calm_sends ls)

  pub calm_points : (ps : List Point) → AreCalm P (map PutPoint ps)
  calm_points [] = tt
  calm_points (p ∷ ps) = (tt, calm_points ps)

  pub calm_drawn : (next : Numbers) (ls : List Letter) (cs : List Change) → AreCalm P cs
      → AreCalm P (draw_letters next ls cs)
  calm_drawn next [] cs calm = calm
  calm_drawn next (l ∷ ls) cs calm = (tt, calm)

  pub calm_mark_failed : (failed : Option Stack) → AreCalm P (mark_failed failed)
  calm_mark_failed None = tt
  calm_mark_failed (Some st) = (tt, tt)
