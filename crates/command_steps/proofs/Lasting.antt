-- What a command lays wears a number out exactly where the numbers don't suffice.
use Rattle.std.proofs.Common.{◌≡◌, inl, inr, ◌≤◌, ◌+◌, ◌++◌, ◌^◌, ℕ, List, [], ◌∷◌, length, map, refl, arith}
use Rattle.std.specs.List.{AllByRecursion}
use Rattle.std.proofs.lemmas.Bool.{cases_lt, leb-true}
use Rattle.heat_plan.specs.declared.item.Item.{Item}
use Rattle.heat_plan.specs.declared.phase.Act.{Act}
use Rattle.heat_plan.specs.declared.phase.Act.TheVariants.{Create, Delete, Init, Rollback, Update}
use Rattle.heat_plan.specs.declared.phase.Status.TheVariants.{InProgress}
use Rattle.traversal_graph.specs.declared.shape.Node.{Node}
use Rattle.row_table.specs.declared.row.Row.{Row}
use Rattle.mail_table.specs.declared.mail.Letter.{Letter}
use Rattle.core_state.specs.State.{StateData}
use Rattle.core_state.specs.declared.change.Change.{Change}
use Rattle.core_state.specs.declared.change.Change.TheVariants.{PutGraph, PutPast, PutRow, PutStack, Send}
use Rattle.core_state.specs.declared.numbers.Numbers.{Numbers}
use Rattle.core_state.specs.declared.stack.Stack.{Stack}
use Rattle.step_relation.specs.Commands.{Chooses, Lays, Sets, current, first_letters, fresh, laid_changes, none, past_command, settles_at_once, stack_set}
use Rattle.step_relation.specs.Turns.{IsWorn, Overflows, engine, letter, row, stack, trav}
use Rattle.step_relation.specs.Writes.{mark_complete}
use Rattle.step_parts.proofs.WearLemmas.{no_other, row_wears}
use Rattle.command_steps.specs.Layouts.{HasNumbers}
use Rattle.command_steps.proofs.Members.{cons_cases, no_member}
use Rattle.core_state.specs.declared.change.Change.TheVariants as change_to

-- none of the changes overflows
abbrev pub Lasting : List Change → Type 0
Lasting cs = AllByRecursion (λ (c : Change). ¬ Overflows c) cs

pub unworn : (cs : List Change) → Lasting cs → ¬ IsWorn cs
unworn [] all w = no_member w.change w.among
unworn (c ∷ cs) all w = elim (cons_cases cs c w.change w.among) [
  | inl same ↦ all.0 (rw (← same) w.overflows)
  | inr later ↦ unworn cs all.1 (record { change = w.change; among = later; overflows = w.overflows })
]

pub lasting-append : (cs ds : List Change) → Lasting cs → Lasting ds → Lasting (cs ++ ds)
lasting-append [] ds all more = more
lasting-append (c ∷ cs) ds all more = (all.0, lasting-append cs ds all.1 more)

lasting-rows : (s : StateData) (name : List ℕ) (t next : ℕ) (items : List Item) (chosen : List ℕ) (rows : List Row)
    → Chooses s name t next items chosen rows → Lasting (map PutRow rows)
lasting-rows s name t next items chosen rows (none n) = tt
lasting-rows s name t next items chosen rows (current n item its r ch rs is more) =
    lasting-rows s name t n its ch rs more
lasting-rows s name t next items chosen rows (fresh n item its ch rs is more) =
    (λ o. omega (arith, leb-true (2 ^ 62) 0 ((row_wears _ _ refl).1 o)), lasting-rows s name t (n + 1) its ch rs more)

pub lasting-sends : (letters : List Letter) → Lasting (map Send letters)
lasting-sends [] = tt
lasting-sends (l ∷ letters) = (no_other (Send l) (inr (inr (inr (inr (inr (inl (l, refl))))))), lasting-sends letters)

lasting-mark : (st : Stack) → Lasting (mark_complete st)
lasting-mark st = by st.act refl where
  by : (a : Act) → st.act ≡ a → Lasting (mark_complete st)
  by Delete is = rw is (no_other (change_to.DropStack st.name) (inr (inl (st.name, refl))), tt)
  by Init is = rw is (no_other _ (inl (_, refl)), tt)
  by Create is = rw is (no_other _ (inl (_, refl)), tt)
  by Update is = rw is (no_other _ (inl (_, refl)), tt)
  by Rollback is = rw is (no_other _ (inl (_, refl)), tt)

lasting-settles : (nodes : List Node) (s : StateData) (name : List ℕ) (it : Sets)
    → Lasting (settles_at_once nodes s name it)
lasting-settles [] s name it = lasting-mark (stack_set s name it InProgress)
lasting-settles (node ∷ nodes) s name it = tt

pub lasting-numbers : (n : Numbers) → n.stack ≤ 2 ^ 62 → n.trav ≤ 2 ^ 62 → n.row ≤ 2 ^ 62 → n.engine ≤ 2 ^ 62
    → n.letter ≤ 2 ^ 62
    → ¬ Overflows (change_to.Numbers n)
lasting-numbers n a b c d e (stack q over) = omega (arith, a, over)
lasting-numbers n a b c d e (trav q over) = omega (arith, b, over)
lasting-numbers n a b c d e (row q over) = omega (arith, c, over)
lasting-numbers n a b c d e (engine q over) = omega (arith, d, over)
lasting-numbers n a b c d e (letter q over) = omega (arith, e, over)

module _ (s : StateData) (name : List ℕ) (items : List Item) (it : Sets) (k : Lays s name items) where
  abbrev drawn : Numbers
  drawn = past_command s.next it.stacks (length k.rows) (length k.leaves)

  pub unworn_laid : HasNumbers s.next it.stacks (length k.rows) (length k.leaves)
      → ¬ IsWorn (laid_changes s name items it k)
  unworn_laid has = unworn (laid_changes s name items it k) (
    lasting-numbers drawn has.stacks_fit has.trav_fits has.rows_fit has.engine_fits has.letters_fit,
    (
      no_other (PutStack (stack_set s name it InProgress)) (inl (_, refl)),
      (
        no_other (PutPast it.past) (inr (inr (inr (inr (inr (inr (inr (inr (inr (inr (inr (inl (_, refl))))))))))))),
        lasting-append (map PutRow k.rows) _
            (lasting-rows s name s.next.trav s.next.row items k.chosen k.rows k.chooses) (
              no_other (PutGraph name k.graph) (inr (inr (inr (inl (_, _, refl))))),
              lasting-append (map Send (first_letters s name items it k)) _
                  (lasting-sends (first_letters s name items it k))
                  (lasting-settles k.graph.nodes s name it),
            ),
      ),
    ),
  )

  worn_by : Overflows (change_to.Numbers drawn) → IsWorn (laid_changes s name items it k)
  worn_by over = record { change = change_to.Numbers drawn; among = (0, omega arith, refl); overflows = over }

  pub worn_laid : ¬ HasNumbers s.next it.stacks (length k.rows) (length k.leaves)
      → IsWorn (laid_changes s name items it k)
  worn_laid lacks = elim (cases_lt (2 ^ 62) drawn.stack) [
    | inl over ↦ worn_by (stack _ over)
    | inr a ↦ elim (cases_lt (2 ^ 62) drawn.trav) [
      | inl over ↦ worn_by (trav _ over)
      | inr b ↦ elim (cases_lt (2 ^ 62) drawn.row) [
        | inl over ↦ worn_by (row _ over)
        | inr c ↦ elim (cases_lt (2 ^ 62) drawn.engine) [
          | inl over ↦ worn_by (engine _ over)
          | inr d ↦ elim (cases_lt (2 ^ 62) drawn.letter) [
            | inl over ↦ worn_by (letter _ over)
            | inr e ↦ absurd
                (lacks (record { stacks_fit = a; trav_fits = b; rows_fit = c; engine_fits = d; letters_fit = e }))
          ]
        ]
      ]
    ]
  ]
