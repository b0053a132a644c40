-- Whether a list of changes is worn.
use Rattle.std.proofs.Common.{◌⊎◌, inl, inr, ◌<◌, ◌≤◌, List, [], ◌∷◌, subst, arith}
use Rattle.std.specs.Prelude.{◌^◌}
use Rattle.std.proofs.lemmas.Bool.{cases_lt}
use Rattle.core_state.specs.declared.change.Change.{Change}
use Rattle.core_state.specs.declared.change.Change.TheVariants.{Drop, DropRow, DropStack, EndJob, Enlist, PutGraph}
use Rattle.core_state.specs.declared.change.Change.TheVariants.{PutJob, PutPast, PutPoint, PutRow, PutStack, Release}
use Rattle.core_state.specs.declared.change.Change.TheVariants.{Send, Stop}
use Rattle.core_state.specs.declared.numbers.Numbers.{Numbers}
use Rattle.history_laws.specs.Turns.{IsWorn, Overflows, engine, key, letter, row, stack, trav}
use Rattle.next_laws.proofs.Listings.{cons_cases, in_head, in_tail, no_member}
use Rattle.core_state.specs.declared.change.Change.TheVariants as change_to

numbers_over : (n : Numbers) → Overflows (change_to.Numbers n) ⊎ ¬ Overflows (change_to.Numbers n)
numbers_over n = elim (cases_lt (2 ^ 62) n.stack) [
  | inl over ↦ inl (stack n over)
  | inr a ↦ elim (cases_lt (2 ^ 62) n.trav) [
    | inl over ↦ inl (trav n over)
    | inr b ↦ elim (cases_lt (2 ^ 62) n.row) [
      | inl over ↦ inl (row n over)
      | inr c ↦ elim (cases_lt (2 ^ 62) n.engine) [
        | inl over ↦ inl (engine n over)
        | inr d ↦ elim (cases_lt (2 ^ 62) n.letter) [
          | inl over ↦ inl (letter n over)
          | inr e ↦ inr (λ o. none a b c d e o)
        ]
      ]
    ]
  ]
] where
  none : n.stack ≤ 2 ^ 62 → n.trav ≤ 2 ^ 62 → n.row ≤ 2 ^ 62 → n.engine ≤ 2 ^ 62 → n.letter ≤ 2 ^ 62
      → Overflows (change_to.Numbers n) → ⊥
  none a b c d e (stack _ over) = omega (arith, a, over)
  none a b c d e (trav _ over) = omega (arith, b, over)
  none a b c d e (row _ over) = omega (arith, c, over)
  none a b c d e (engine _ over) = omega (arith, d, over)
  none a b c d e (letter _ over) = omega (arith, e, over)

overflows_or_not : (c : Change) → Overflows c ⊎ ¬ Overflows c
overflows_or_not (change_to.Numbers n) = numbers_over n
overflows_or_not (PutRow r) = elim (cases_lt r.key (2 ^ 62)) [
  | inl lt ↦ inr (λ o. low o lt)
  | inr le ↦ inl (key r le)
] where
  low : Overflows (PutRow r) → r.key < 2 ^ 62 → ⊥
  low (key _ le) lt = omega (arith, le, lt)
overflows_or_not (PutStack _) = inr (λ o. elim o [ ])
overflows_or_not (DropStack _) = inr (λ o. elim o [ ])
overflows_or_not (DropRow _) = inr (λ o. elim o [ ])
overflows_or_not (PutGraph _ _) = inr (λ o. elim o [ ])
overflows_or_not (PutPoint _) = inr (λ o. elim o [ ])
overflows_or_not (Send _) = inr (λ o. elim o [ ])
overflows_or_not (Drop _) = inr (λ o. elim o [ ])
overflows_or_not (PutJob _) = inr (λ o. elim o [ ])
overflows_or_not (EndJob _) = inr (λ o. elim o [ ])
overflows_or_not (Enlist _) = inr (λ o. elim o [ ])
overflows_or_not (Stop _) = inr (λ o. elim o [ ])
overflows_or_not (PutPast _) = inr (λ o. elim o [ ])
overflows_or_not (Release _) = inr (λ o. elim o [ ])

pub worn_or_not : (cs : List Change) → IsWorn cs ⊎ ¬ IsWorn cs
worn_or_not [] = inr (λ w. no_member w.change w.among)
worn_or_not (c ∷ cs) = elim (overflows_or_not c) [
  | inl over ↦ inl (record { change = c; among = in_head cs c; overflows = over })
  | inr fits ↦ elim (worn_or_not cs) [
    | inl w ↦ inl (record { change = w.change; among = in_tail cs c w.change w.among; overflows = w.overflows })
    | inr lasts ↦ inr (λ w. elim (cons_cases cs c w.change w.among) [
      | inl is ↦ fits (subst Overflows is w.overflows)
      | inr later ↦ lasts (record { change = w.change; among = later; overflows = w.overflows })
    ])
  ]
]
