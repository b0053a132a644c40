-- What a begin decides can be told, of a row at an update node and at a clean-up node.
use Rattle.std.proofs.Common.{◌≡◌, ◌≢◌, inl, inr, ℕ, Bool, true, false, Option, Some, None, refl, subst}
use Rattle.heat_value.specs.Data.{Members}
use Rattle.heat_plan.specs.Plans.{names_of}
use Rattle.heat_plan.specs.declared.item.Item.{Item}
use Rattle.heat_plan.specs.declared.item.Policy.{Policy}
use Rattle.heat_plan.specs.declared.item.Policy.TheVariants as policy
use Rattle.heat_plan.specs.declared.phase.Act.{Act}
use Rattle.heat_plan.specs.declared.phase.Act.TheVariants.{Create, Delete, Init, Rollback, Update}
use Rattle.heat_plan.specs.declared.phase.Status.{Status}
use Rattle.heat_plan.specs.declared.phase.Status.TheVariants.{Complete, Failed, InProgress}
use Rattle.provider.specs.Same.{same_members}
use Rattle.provider.proofs.Sames.{same_members-same, same_members-true}
use Rattle.row_table.specs.Rows.{row_at}
use Rattle.row_table.specs.declared.row.Row.{Row}
use Rattle.core_state.specs.State.{StateData}
use Rattle.core_state.specs.declared.stack.Stack.{Stack}
use Rattle.type_catalog.specs.declared.effect.Effect.{Effect}
use Rattle.type_catalog.specs.declared.effect.Effect.TheVariants.{InPlace, Replace, Same}
use Rattle.history_laws.specs.Begins.{IsSame, IsSoft, changed, given_up, overtaken}
use Rattle.history_laws.specs.Cleanups.{IsKept, IsStuck}
use Rattle.history_laws.specs.Freshness.{plan_of}
use Rattle.history_laws.proofs.tables.Rows.{row_self, same_or_not, text_or_not}
use Rattle.next_laws.proofs.Verdicts.{Clears, Decides, Fate, Lot, creates, deletes, gone, keeps, kept, leaves, purges}
use Rattle.next_laws.proofs.Verdicts.{replaces, resumes, retains, sticks, updates}
use Rattle.next_laws.proofs.Decide.{Decided, both_or_not, exchanged, member_or_not}
use Rattle.next_laws.proofs.Targets.{current_is_or_not, delete_or_not}

pub init_or_not : (act : Act) → Decided (act ≡ Init)
init_or_not Init = inl refl
init_or_not Create = inr (λ e. cc)
init_or_not Update = inr (λ e. cc)
init_or_not Delete = inr (λ e. cc)
init_or_not Rollback = inr (λ e. cc)

failed_or_not : (x : Status) → Decided (x ≡ Failed)
failed_or_not Complete = inr (λ e. cc)
failed_or_not Failed = inl refl
failed_or_not InProgress = inr (λ e. cc)

retain_or_not : (x : Policy) → Decided (x ≡ policy.Retain)
retain_or_not policy.Retain = inl refl
retain_or_not policy.Delete = inr (λ e. cc)

in_place_or_not : (x : Effect) → Decided (x ≡ InPlace)
in_place_or_not Same = inr (λ e. cc)
in_place_or_not InPlace = inl refl
in_place_or_not Replace = inr (λ e. cc)

members_or_not : (a b : Members) → Decided (a ≡ b)
members_or_not a b = by (same_members a b) refl where
  by : (x : Bool) → same_members a b ≡ x → Decided (a ≡ b)
  by true e = inl (same_members-true a b e)
  by false e = inr (λ is. let t : same_members a b ≡ true = subst (λ (m : Members). same_members a m ≡ true) is
      (same_members-same a) in cc)

-- at an update node
module _ (r : Row) (item : Item) (trav : ℕ) (props : Members) (effect : Effect) where
  same_decided : Decided (IsSame r item props)
  same_decided = exchanged (λ p. record { kind = p.0; props_are = p.1 }) (λ k. (k.kind, k.props_are))
      (both_or_not (text_or_not r.kind.name item.kind.name) (members_or_not r.props props))

  soft_decided : ¬ IsSame r item props → Decided (IsSoft r item props effect)
  soft_decided differs = elim (text_or_not r.kind.name item.kind.name) [
    | inr not ↦ inr (λ k. not k.kind)
    | inl kind ↦ elim (in_place_or_not effect) [
      | inr not ↦ inr (λ k. not k.in_place)
      | inl is ↦ inl
          (record { kind = kind; differs = λ same. differs (record { kind = kind; props_are = same }); in_place = is })
    ]
  ]

  fate_by : r.act ≢ Init → (x : Status) → r.status ≡ x → (fate : Fate) × Decides r item trav props effect fate
  fate_by begun Complete is = elim same_decided [
    | inl same ↦ (_, keeps begun is same)
    | inr differs ↦ elim (soft_decided differs) [
      | inl soft ↦ (_, updates begun is soft)
      | inr hard ↦ (_, replaces begun (changed is differs hard))
    ]
  ]
  fate_by begun InProgress is = elim (same_or_not r.trav trav) [
    | inl newest ↦ (_, resumes begun is newest)
    | inr older ↦ (_, replaces begun (overtaken is older))
  ]
  fate_by begun Failed is = elim (same_or_not r.trav trav) [
    | inl newest ↦ (_, leaves begun is newest)
    | inr older ↦ (_, replaces begun (given_up is older))
  ]

  pub fate_exists : (fate : Fate) × Decides r item trav props effect fate
  fate_exists = elim (init_or_not r.act) [ inl new ↦ (_, creates new) | inr begun ↦ fate_by begun r.status refl ]

-- at a clean-up node
module _ (s : StateData) (st : Stack) where
  kept_decided : (r : Row) → row_at s.rows r.no ≡ Some r → Decided (IsKept s st r)
  kept_decided r at = exchanged (λ p. record { current = p.0; planned = p.1 }) (λ k. (k.current, k.planned))
      (both_or_not (current_is_or_not s.rows r.stack r.name r at)
      (member_or_not text_or_not (names_of (plan_of st.plan).items) r.name))

  stuck_decided : (r : Row) → Decided (IsStuck r st.trav)
  stuck_decided r =
      elim (both_or_not (both_or_not (delete_or_not r.act) (failed_or_not r.status)) (same_or_not r.trav st.trav)) [
        | inl p ↦ inl (record { act = p.0.0; status = p.0.1; newest = p.1 })
        | inr not ↦ inr (λ k. not ((k.act, k.status), k.newest))
      ]

  pub lot_exists : (n : ℕ) (row : Option Row) → row_at s.rows n ≡ row → (lot : Lot) × Clears s st row lot
  lot_exists n None at = (_, gone)
  lot_exists n (Some r) at = elim (kept_decided r (row_self s.rows n r at)) [
    | inl is ↦ (_, kept r is)
    | inr not ↦ elim (init_or_not r.act) [
      | inl new ↦ (_, purges r not new)
      | inr begun ↦ elim (stuck_decided r) [
        | inl stuck ↦ (_, sticks r not stuck)
        | inr loose ↦ elim (retain_or_not r.policy) [
          | inl retained ↦ (_, retains r not begun loose retained)
          | inr other ↦ (_, deletes r not begun loose other)
        ]
      ]
    ]
  ]
