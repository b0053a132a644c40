-- What is seen of a pass to which another was joined.
use Rattle.std.proofs.Common.{◌≡◌, Bool, false, List, [], Option, sym, ap, ◌∙◌, subst}
use Rattle.atomic_table.specs.Seated.{TableId}
use Rattle.atomic_table.specs.Table.{Me}
use Rattle.book_lock.specs.declared.view.View.{View}
use Rattle.book_lock.specs.declared.view.View.TheVariants.{Live}
use Rattle.book_lock.specs.declared.view.Role.TheVariants.{Idle}
use Rattle.book_lock.specs.Names.{parent}
use Rattle.book_lock.specs.Standing.{standing_of, stand_of, IsSeated}
use Rattle.book_lock.specs.Steps.{both, merged}
use Rattle.book_lock.specs.Closing.{joined_pass}

module _ {T : Type 0} where
  -- the seat of a pass that doesn't hold the value
  pub idle_seat : (table : TableId) (me : Me (Option T) (View T)) (name : List Bool) (holds : Bool) → holds ≡ false → IsSeated table me name holds
      → me ≡ (Live (stand_of (standing_of table me name false) Idle), [])
  idle_seat table me name holds free inv = (subst (λ (b : Bool). IsSeated table me name b) free inv).1

  pub after_join : (table after other : TableId) (me theirs now : Me (Option T) (View T)) (name names next : List Bool) (holds held : Bool) → after ≡ table → holds ≡ false → held ≡ false
      → IsSeated table me name holds → IsSeated other theirs names held → now ≡ (both me.0 theirs.0, []) → next ≡ parent name
      → IsSeated after now next holds × (standing_of after now next holds ≡ joined_pass (standing_of table me name holds) (standing_of other theirs names held))
  after_join table after other me theirs now name names next holds held same free idle inv inverse joins shorter =
      let first = stand_of (standing_of table me name false) Idle in
      let second = stand_of (standing_of other theirs names false) Idle in
      let mine = ap (λ (m : Me (Option T) (View T)). m.0) (idle_seat table me name holds free inv) in
      let others = ap (λ (m : Me (Option T) (View T)). m.0) (idle_seat other theirs names held idle inverse) in
      let e : now ≡ (Live (merged first second), []) = joins ∙ (λ i. (both (mine i) (others i), [])) in (
        subst (λ (b : Bool). IsSeated after now next b) (sym free)
            (subst (λ (m : Me (Option T) (View T)). IsSeated after m next false) (sym e)
            (0, λ i. (Live (record { role = Idle; name = sym shorter i; opening = first.opening; own = first.own; joined = (merged first second).joined }), []))),
        λ i. record { table = same i; opening = (standing_of after (e i) next holds).opening; name = shorter i; holds = holds; own = (standing_of after (e i) next holds).own; joined = (standing_of after (e i) next holds).joined },
      )
