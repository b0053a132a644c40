-- Where each row that a list of changes writes is fine, each row of the state after it is.
use Rattle.std.proofs.Common.{List, inl, inr, subst}
use Rattle.std.specs.Prelude.{List, None, Option, Some, [], map, ℕ, ◌++◌, ◌∷◌, ◌≡◌}
use Rattle.row_table.specs.Rows.{row_at}
use Rattle.row_table.specs.declared.row.Row.{Row}
use Rattle.sync_points.specs.declared.point.Point.{Point}
use Rattle.mail_table.specs.declared.mail.Letter.{Letter}
use Rattle.step_relation.specs.Changes.{applied, apply}
use Rattle.step_relation.specs.State.{StateData}
use Rattle.step_relation.specs.declared.Change.{Change}
use Rattle.step_relation.specs.declared.Change.TheVariants.{PutPoint, Send}
use Rattle.step_relation.specs.declared.Numbers.{Numbers}
use Rattle.step_relation.specs.declared.Stack.{Stack}
use Rattle.step_relation.specs.Writes.{draw_letters, mark_failed}
use Rattle.history_laws.proofs.tables.Rows.{row_cut, row_put}
use Rattle.step_relation.specs.declared.Change.TheVariants as change_to

-- the change writes no row, or one that is fine
abbrev pub IsFine : (Row → Type 0) → Change → Type 0
IsFine P (change_to.PutRow r) = P r
IsFine P (change_to.PutStack st) = Unit {0}
IsFine P (change_to.DropStack name) = Unit {0}
IsFine P (change_to.DropRow n) = Unit {0}
IsFine P (change_to.PutGraph name g) = Unit {0}
IsFine P (change_to.PutPoint p) = Unit {0}
IsFine P (change_to.Send l) = Unit {0}
IsFine P (change_to.Drop n) = Unit {0}
IsFine P (change_to.PutJob j) = Unit {0}
IsFine P (change_to.EndJob e) = Unit {0}
IsFine P (change_to.Enlist e) = Unit {0}
IsFine P (change_to.Stop e) = Unit {0}
IsFine P (change_to.Numbers next) = Unit {0}
IsFine P (change_to.PutPast p) = Unit {0}
IsFine P (change_to.Release t) = Unit {0}

abbrev pub AreFine : (Row → Type 0) → List Change → Type 0
AreFine P [] = Unit {0}
AreFine P (c ∷ cs) = IsFine P c × AreFine P cs

-- each row found is fine
abbrev pub EachIs : (Row → Type 0) → List Row → Type 0
EachIs P rows = (n : ℕ) (r : Row) → row_at rows n ≡ Some r → P r

module _ (P : Row → Type 0) where
  one : (c : Change) (s : StateData) → EachIs P s.rows → IsFine P c → EachIs P (apply c s).rows
  one (change_to.PutRow q) s old fine = λ n r at_n. elim (row_put q s.rows at_n) [
    | inl new ↦ subst P new.1 fine
    | inr was ↦ old n r was.1
  ]
  one (change_to.DropRow c) s old fine = λ n r at_n. old n r (row_cut c s.rows at_n).1
  one (change_to.PutStack st) s old fine = old
  one (change_to.DropStack name) s old fine = old
  one (change_to.PutGraph name g) s old fine = old
  one (change_to.PutPoint p) s old fine = old
  one (change_to.Send l) s old fine = old
  one (change_to.Drop n) s old fine = old
  one (change_to.PutJob j) s old fine = old
  one (change_to.EndJob e) s old fine = old
  one (change_to.Enlist e) s old fine = old
  one (change_to.Stop e) s old fine = old
  one (change_to.Numbers next) s old fine = old
  one (change_to.PutPast p) s old fine = old
  one (change_to.Release t) s old fine = old

  pub fine_applied : (cs : List Change) (s : StateData) → EachIs P s.rows → AreFine P cs → EachIs P (applied cs s).rows
  fine_applied [] s old fine = old
  fine_applied (c ∷ cs) s old (head, tail) = fine_applied cs (apply c s) (one c s old head) tail

  pub fine_both : (cs ds : List Change) → AreFine P cs → AreFine P ds → AreFine P (cs ++ ds)
  fine_both [] ds fine more = more
  fine_both (c ∷ cs) ds (head, tail) more = (head, fine_both cs ds tail more)

  pub fine_sends : (ls : List Letter) → AreFine P (map Send ls)
  fine_sends [] = tt
  fine_sends (l ∷ ls) = (tt, fine_sends ls)

  pub fine_points : (ps : List Point) → AreFine P (map PutPoint ps)
  fine_points [] = tt
  fine_points (p ∷ ps) = (tt, fine_points ps)

  pub fine_drawn : (next : Numbers) (ls : List Letter) (cs : List Change) → AreFine P cs
      → AreFine P (draw_letters next ls cs)
  fine_drawn next [] cs fine = fine
  fine_drawn next (l ∷ ls) cs fine = (tt, fine)

  pub fine_mark_failed : (failed : Option Stack) → AreFine P (mark_failed failed)
  fine_mark_failed None = tt
  fine_mark_failed (Some st) = (tt, tt)
