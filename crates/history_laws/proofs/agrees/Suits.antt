-- What may be alive behind an answer for a row still fits the row, and what a job that polls asked for.
use Rattle.std.proofs.Common.{ap, inl, inr, refl, subst, sym, ◌∙◌}
use Rattle.std.specs.Prelude.{Bool, Contains, IsSome, None, Option, Some, false, if◌then◌else◌, true, unwrap_or, ◌≡◌}
use Rattle.std.specs.Prelude.{◌≢◌, ◌⊎◌}
use Rattle.heat_value.specs.Data.{Members}
use Rattle.heat_plan.specs.declared.calls.Answered.{Answered}
use Rattle.heat_plan.specs.declared.calls.Request.{Request}
use Rattle.heat_plan.specs.declared.facts.Facts.{Facts}
use Rattle.heat_plan.specs.declared.phase.Act.TheVariants.{Create, Delete, Init, Update}
use Rattle.heat_plan.specs.declared.phase.Status.TheVariants.{Failed, InProgress}
use Rattle.provider.proofs.Sames.{same_members-true}
use Rattle.provider.specs.Same.{same_members}
use Rattle.provider.specs.Table.{Living, TokenState, after, begun, told, updated}
use Rattle.row_table.specs.declared.row.Row.{Row}
use Rattle.mail_table.specs.declared.mail.Stage.{Stage}
use Rattle.mail_table.specs.declared.mail.Stage.TheVariants.{Asking, Polling}
use Rattle.step_relation.specs.Asks.{Asks, Polls, creates, deletes, looks, polls, updates}
use Rattle.step_relation.specs.Agrees.{IsAliveAs, IsGoing, PollFits, StateFits, absent}
use Rattle.step_relation.specs.Groups.{updates}
use Rattle.history_laws.proofs.tells.Marks.{deletes}
use Rattle.history_laws.proofs.agrees.Called.{after_create, after_create_begun, after_delete_begun, after_gone, after_poll}
use Rattle.history_laws.proofs.agrees.Called.{after_update, after_update_begun}
use Rattle.heat_plan.specs.declared.calls.Answered.TheVariants as answer
use Rattle.heat_plan.specs.declared.calls.Request.TheVariants as request

-- what a job asks for its row, by its stage
pub data AsksAt (stage : Stage) (r : Row) (asked : Request) : Type 0 where
  at_asking : stage ≡ Asking → Asks r asked → AsksAt stage r asked
  at_polling : stage ≡ Polling → Polls r asked → AsksAt stage r asked

pub same_alive : (a b : Living) (x : TokenState) → x ≡ Some a → x ≡ Some b → a ≡ b
same_alive a b x h i = cc

pub fits_creating : (r : Row) (x : TokenState) → r.act ≡ Create → r.status ≡ InProgress
    → (x ≡ None) ⊎ IsAliveAs r r.props x → StateFits r x
fits_creating r x act status h = record {
  init = λ a. let e = sym act ∙ a in cc;
  creating = λ a b. h;
  ready = λ a. let e = sym status ∙ a in cc;
  updating = λ a. let e = sym act ∙ a in cc;
}

pub fits_updating : (r : Row) (x : TokenState) → r.act ≡ Update → r.status ≡ InProgress
    → IsAliveAs r r.props x ⊎ IsAliveAs r (unwrap_or r.target r.props) x → StateFits r x
fits_updating r x act status h = record {
  init = λ a. let e = sym act ∙ a in cc;
  creating = λ a. let e = sym act ∙ a in cc;
  ready = λ a. let e = sym status ∙ a in cc;
  updating = λ a b. h;
}

pub fits_deleting : (r : Row) (x : TokenState) → r.act ≡ Delete → StateFits r x
fits_deleting r x act = record {
  init = λ a. let e = sym act ∙ a in cc;
  creating = λ a. let e = sym act ∙ a in cc;
  ready = λ a b c. absurd (c act);
  updating = λ a. let e = sym act ∙ a in cc;
}

pub fits_failed : (r : Row) (x : TokenState) → r.act ≢ Init → r.status ≡ Failed → StateFits r x
fits_failed r x begun_ status = record {
  init = λ a. absurd (begun_ a);
  creating = λ a b. let e = sym status ∙ b in cc;
  ready = λ a. let e = sym status ∙ a in cc;
  updating = λ a b. let e = sym status ∙ b in cc;
}

-- an update leaves the kind, and sets these properties
pub updated_as : (r : Row) (p : Members) (it : Living) → it.kind ≡ r.kind.name → IsAliveAs r p (Some (updated p it))
updated_as r p it kind = record {
  it = updated p it;
  alive = refl;
  kind =
      its_kind (same_members p it.props);
  props_are = its_props (same_members p it.props) refl;
} where
  its_kind : (b : Bool) → (if b then it else record it { props = p; facts = None }).kind ≡ r.kind.name
  its_kind true = kind
  its_kind false = kind

  its_props : (b : Bool) → same_members p it.props ≡ b
      → (if b then it else record it { props = p; facts = None }).props ≡ p
  its_props true e = sym (same_members-true p it.props e)
  its_props false e = refl

updated_leaves : (p : Members) (it : Living) → (updated p it).leaving ≡ it.leaving
updated_leaves p it = by (same_members p it.props) where
  by : (b : Bool) → (if b then it else record it { props = p; facts = None }).leaving ≡ it.leaving
  by true = refl
  by false = refl

pub alive_told : (r : Row) (p : Members) (it : Living) (facts : Facts) → IsAliveAs r p (Some it)
    → IsAliveAs r p (Some (told facts it))
alive_told r p it facts k =
    let same : it ≡ k.it = same_alive it k.it (Some it) refl k.alive in
    record {
      it = told facts it;
      alive = refl;
      kind = ap (λ (x : Living). x.kind) same
          ∙ k.kind;
      props_are = ap (λ (x : Living). x.props) same ∙ k.props_are;
    }

fits_told : (r : Row) (it : Living) (facts : Facts) → r.status ≡ InProgress → StateFits r (Some it)
    → StateFits r (Some (told facts it))
fits_told r it facts status f = record {
  init = λ a. let e = f.init a in cc;
  creating = λ a b. elim (f.creating a b) [ inl none ↦ cc | inr k ↦ inr (alive_told r r.props it facts k) ];
  ready = λ a. let e = sym status ∙ a in cc;
  updating = λ a b. elim (f.updating a b) [
    | inl k ↦ inl (alive_told r r.props it facts k)
    | inr k ↦ inr (alive_told r (unwrap_or r.target r.props) it facts k)
  ];
}

its_kind_was : (r : Row) (y : TokenState) (it : Living) → r.act ≡ Update → r.status ≡ InProgress → StateFits r y
    → y ≡ Some it → it.kind ≡ r.kind.name
its_kind_was r y it act status f is = elim (f.updating act status) [
  | inl k ↦ ap (λ (x : Living). x.kind) (same_alive it k.it y is k.alive) ∙ k.kind
  | inr k ↦ ap (λ (x : Living). x.kind) (same_alive it k.it y is k.alive) ∙ k.kind
]

pub asked_fits : (r : Row) (asked : Request) (given : Answered) (y x : TokenState) → Asks r asked
    → r.status ≡ InProgress → StateFits r y
    → Contains (after asked given y) x → StateFits r x
asked_fits r _ given y x (creates act) status f c = elim (after_create r.kind.name r.props given y x c) [
  | inl is ↦ subst (StateFits r) (sym is) f
  | inr (none, is) ↦ fits_creating r x act status
      (inr (record { it = begun r.kind.name r.props; alive = is; kind = refl; props_are = refl }))
]
asked_fits r _ given y x (updates act) status f c =
    let (it, y_is, x_is) = after_update (unwrap_or r.target r.props) given y x c in
    elim x_is [
      | inl is ↦ subst (StateFits r) (y_is ∙ sym is) f
      | inr is ↦ fits_updating r x act status (inr (subst (IsAliveAs r (unwrap_or r.target r.props)) (sym is)
          (updated_as r (unwrap_or r.target r.props) it (its_kind_was r y it act status f y_is))))
    ]
asked_fits r _ given y x (deletes act) status f c = fits_deleting r x act

pub polled_fits : (r : Row) (asked : Request) (given : Answered) (y x : TokenState) → Polls r asked
    → r.status ≡ InProgress → StateFits r y
    → Contains (after asked given y) x → StateFits r x
polled_fits r _ given y x (polls ne) status f c =
    let (it, y_is, x_is) = after_poll given y x c in
    elim x_is [
      | inl is ↦ subst (StateFits r) (y_is ∙ sym is) f
      | inr (facts, g, is) ↦ subst (StateFits r) (sym is) (fits_told r it facts status (subst (StateFits r) y_is f))
    ]
polled_fits r _ given y x (looks act) status f c = fits_deleting r x act

pub at_fits : (stage : Stage) (r : Row) (asked : Request) (given : Answered) (y x : TokenState) → AsksAt stage r asked
    → r.status ≡ InProgress
    → StateFits r y → Contains (after asked given y) x → StateFits r x
at_fits stage r asked given y x (at_asking s a) status f c = asked_fits r asked given y x a status f c
at_fits stage r asked given y x (at_polling s p) status f c = polled_fits r asked given y x p status f c

pub polls_fit : (r : Row) (asked : Request) (given : Answered) (y x : TokenState) → Polls r asked → PollFits r y
    → Contains (after asked given y) x → PollFits r x
polls_fit r _ given y x (polls ne) f c =
    let (it, y_is, x_is) = after_poll given y x c in
    elim x_is [
      | inl is ↦ subst (PollFits r) (y_is ∙ sym is) f
      | inr (facts, g, is) ↦ record {
        asked = λ k. subst (IsAliveAs r (unwrap_or r.target r.props)) (sym is)
            (alive_told r (unwrap_or r.target r.props) it facts
            (subst (IsAliveAs r (unwrap_or r.target r.props)) y_is (f.asked k)));
        going = λ act. absurd (ne act);
      }
    ]
polls_fit r _ given y x (looks act) f c = elim (after_gone given y x c) [
  | inl is ↦ record { asked = λ ne. absurd (ne act); going = λ a. subst IsGoing (sym is) absent }
  | inr is ↦ subst (PollFits r) (sym is) f
]

-- what a request that was begun may leave is what a job that polls has
pub begun_fits : (r : Row) (asked : Request) (y x : TokenState) → Asks r asked → r.status ≡ InProgress
    → (r.act ≡ Create → r.target ≡ None)
    → StateFits r y → Contains (after asked answer.Begun y) x → PollFits r x
begun_fits r _ y x (creates act) status plain f c = record {
  asked = λ ne. subst (λ (p : Members). IsAliveAs r p x) (ap (λ (t : Option Members). unwrap_or t r.props)
      (sym (plain act))) (alive f);
  going = λ a. let e = sym act ∙ a in cc;
} where
  some : IsSome x
  some = after_create_begun r.kind.name r.props y x c

  alive : StateFits r y → IsAliveAs r r.props x
  alive k = elim ((asked_fits r (request.Create r.kind.name r.props) answer.Begun y x
      (creates act) status k c).creating act status) [
        | inl none ↦ let no_some = rw none at some in cc
        | inr here_ ↦ here_
      ]
begun_fits r _ y x (updates act) status plain f c =
    let (it, y_is, x_is) = after_update_begun (unwrap_or r.target r.props) y x c in
    record {
      asked = λ ne. subst (IsAliveAs r (unwrap_or r.target r.props)) (sym x_is)
          (updated_as r (unwrap_or r.target r.props) it (its_kind_was r y it act status f y_is));
      going = λ a. let e = sym act ∙ a in cc;
    }
begun_fits r _ y x (deletes act) status plain f c = record {
  asked = λ ne. absurd (ne act);
  going =
      λ a. after_delete_begun y x c;
}

-- what is leaving behind an answer was leaving before, or its row is at DELETE
pub left_before : (stage : Stage) (r : Row) (asked : Request) (given : Answered) (y : TokenState) (it : Living)
    → AsksAt stage r asked
    → Contains (after asked given y) (Some it) → it.leaving ≡ true
    → (r.act ≡ Delete) ⊎ ((was : Living) × (y ≡ Some was) × (was.leaving ≡ true))
left_before stage r _ given y it (at_asking s (creates act)) c left =
    elim (after_create r.kind.name r.props given y (Some it) c) [
      | inl is ↦ inr (it, sym is, left)
      | inr (none, is) ↦ let same : it ≡ begun r.kind.name r.props = cc in
          let no_leave : it.leaving ≡ false = ap (λ (x : Living). x.leaving) same in cc
    ]
left_before stage r _ given y it (at_asking s (updates act)) c left =
    let (old, y_is, x_is) = after_update (unwrap_or r.target r.props) given y (Some it) c in
    elim x_is [
      | inl is ↦ inr (it, y_is ∙ sym is, left)
      | inr is ↦ let same : it ≡ updated (unwrap_or r.target r.props) old = cc in
          inr (
            old,
            y_is,
            sym (updated_leaves (unwrap_or r.target r.props) old)
                ∙ (ap (λ (x : Living). x.leaving) (sym same) ∙ left),
          )
    ]
left_before stage r _ given y it (at_asking s (deletes act)) c left = inl act
left_before stage r _ given y it (at_polling s (polls ne)) c left =
    let (old, y_is, x_is) = after_poll given y (Some it) c in
    elim x_is [
      | inl is ↦ inr (it, y_is ∙ sym is, left)
      | inr (facts, g, is) ↦ let same : it ≡ told facts old = cc in
          inr (old, y_is, ap (λ (x : Living). x.leaving) (sym same) ∙ left)
    ]
left_before stage r _ given y it (at_polling s (looks act)) c left = inl act
