-- What a step gives of which it is known what it changes.
use Rattle.std.specs.Prelude.{List, ◌≡◌}
use Rattle.heat_plan.specs.declared.refusal.Refusal.{Refusal}
use Rattle.heat_plan.specs.declared.refusal.Refusal.TheVariants.{Memory, Worn}
use Rattle.core_state.specs.declared.change.Change.{Change}
use Rattle.core_state.specs.declared.entry.Entry.{Entry}
use Rattle.core_state.specs.declared.made.Made.{Made}
use Rattle.step_relation.specs.Turns.{IsWorn}

-- these changes and entries, which wear nothing out
pub record Makes (cs : List Change) (es : List Entry) (made : Made) : Type 0 where
  pub changes : made.changes ≡ cs
  pub entries : made.entries ≡ es
  pub lasts : ¬ IsWorn cs

-- want of memory, or changes that wear something out
pub data MakesNone (cs : List Change) (r : Refusal) : Type 0 where
  memory : r ≡ Memory → MakesNone cs r
  worn : r ≡ Worn → IsWorn cs → MakesNone cs r
