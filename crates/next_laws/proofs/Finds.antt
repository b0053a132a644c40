-- What the parts of a sound state give a step.
use Rattle.std.proofs.Common.{◌≡◌, ◌↔◌, inl, inr, ℕ, List, Some, refl, sym, subst}
use Rattle.std.specs.Prelude.{Contains, IsSome, unwrap_or}
use Rattle.heat_plan.specs.declared.calls.Request.{Request}
use Rattle.heat_plan.specs.declared.phase.Act.{Act}
use Rattle.heat_plan.specs.declared.phase.Act.TheVariants.{Create, Delete, Init, Rollback, Update}
use Rattle.heat_plan.specs.declared.phase.Status.TheVariants.{InProgress}
use Rattle.provider.specs.Table.{TokenState}
use Rattle.traversal_graph.specs.declared.shape.Node.{Node}
use Rattle.traversal_graph.specs.declared.shape.Node.TheVariants.{C, U}
use Rattle.row_table.specs.Rows.{row_at}
use Rattle.row_table.specs.declared.row.Row.{Row}
use Rattle.mail_table.specs.Mails.{job_at, letter_at}
use Rattle.mail_table.specs.declared.mail.Job.{Job}
use Rattle.mail_table.specs.declared.mail.Letter.{Letter}
use Rattle.mail_table.specs.declared.mail.Stage.{Stage}
use Rattle.mail_table.specs.declared.mail.Stage.TheVariants.{Asking, Polling}
use Rattle.core_state.specs.State.{StateData}
use Rattle.core_state.specs.declared.graph.Graph.{Graph}
use Rattle.core_state.specs.declared.stack.Stack.{Stack}
use Rattle.history_laws.specs.Asks.{Asks, Polls}
use Rattle.history_laws.specs.Freshness.{IsMeant, IsOutdated, IsOverrun, Names, cleans, plan_of}
use Rattle.history_laws.specs.Rows.{token_of}
use Rattle.history_laws.specs.Targets.{IsTarget, of_c}
use Rattle.history_laws.specs.Could.{could_of}
use Rattle.history_laws.specs.Agrees.{IsGoing}
use Rattle.history_laws.specs.Headline.{MayBeAsked, create, delete, gone, poll, update}
use Rattle.history_laws.specs.MailFits.{IsStale, IsUnderWay}
use Rattle.history_laws.specs.RowsFit.{RowFits}
use Rattle.history_laws.specs.Sound.{Standing}
use Rattle.next_laws.proofs.Below.{named_fits}
use Rattle.next_laws.proofs.Below.{fresh_of_newest, item_of}
use Rattle.next_laws.proofs.Below.{same_some, stack-key}
use Rattle.history_laws.proofs.headline.Items.{All-among}
use Rattle.next_laws.specs.HasTurn.{IsAskable}
use Rattle.next_laws.specs.Found.{CallsMayBeMade, CallsStand, IsAskedAt, OldIsStale, PointsStand, SoundHasWork, asks}
use Rattle.next_laws.specs.Found.{polls}
use Rattle.history_laws.specs.Asks as call
use Rattle.history_laws.specs.Freshness as work
use Rattle.history_laws.specs.MailFits as stages

-- a row under way is at CREATE, UPDATE or DELETE, and so something is asked for it
asked_for : (r : Row) → RowFits r → r.status ≡ InProgress → (asked : Request) × Asks r asked
asked_for r fits under = by r.act refl where
  by : (act : Act) → r.act ≡ act → (asked : Request) × Asks r asked
  by Init is = let done = fits.init is in cc
  by Create is = (_, call.creates is)
  by Update is = (_, call.updates is)
  by Delete is = (_, call.deletes is)
  by Rollback is = absurd (fits.acts is)

polled_for : (r : Row) → (asked : Request) × Polls r asked
polled_for r = by r.act refl where
  by : (act : Act) → r.act ≡ act → (asked : Request) × Polls r asked
  by Init is = (_, call.polls (λ d. cc))
  by Create is = (_, call.polls (λ d. cc))
  by Update is = (_, call.polls (λ d. cc))
  by Delete is = (_, call.looks is)
  by Rollback is = (_, call.polls (λ d. cc))

asked_at : (r : Row) (stage : Stage) → IsUnderWay stage → RowFits r → r.status ≡ InProgress
    → (asked : Request) × IsAskedAt r stage asked
asked_at r stage stages.asks fits under = let (asked, is) = asked_for r fits under in (asked, asks asked is)
asked_at r stage stages.polls fits under = let (asked, is) = polled_for r in (asked, polls asked is)

pub calls_stand : CallsStand
calls_stand s e j stage S way w =
    let row = S.shape.jobs.under_way e j w.its (subst IsUnderWay (sym w.stage_is) way) in
    let (asked, is) = asked_at row.row stage way (S.shape.each_row j.row row.row row.found) row.status in record {
      row = row.row;
      found = row.found;
      status = row.status;
      newest = row.newest;
      asked = asked;
      is_asked = is;
    }

pub calls_may_be_made : CallsMayBeMade
calls_may_be_made o h s e j r stage asked x w found (asks _ is) = by asked is where
  status : r.status ≡ InProgress
  status =
      let row = x.standing.shape.jobs.under_way e j w.its (subst IsUnderWay (sym w.stage_is) stages.asks) in
      subst (λ (q : Row). q.status ≡ InProgress) (same_some row.row r row.found found) row.status

  alive : r.act ≡ Update → (y : TokenState) → Contains (could_of o h (token_of r)) y → IsSome y
  alive act y c = elim ((x.agrees.rows j.row r y found c).updating act status)
      [ inl a ↦ rw a.alive refl | inr a ↦ rw a.alive refl ]

  by : (a : Request) → Asks r a → MayBeAsked (could_of o h (token_of r)) a
  by _ (call.creates act) = create r.kind.name r.props
  by _ (call.updates act) =
      update (unwrap_or r.target r.props) (All-among IsSome (could_of o h (token_of r)) (alive act))
  by _ (call.deletes act) = delete
calls_may_be_made o h s e j r stage asked x w found (polls _ is) = by asked is where
  by : (a : Request) → Polls r a → MayBeAsked (could_of o h (token_of r)) a
  by _ (call.polls ne) = poll (All-among IsSome (could_of o h (token_of r))
      (λ y c. let a = (x.agrees.polled e j r y w.its w.stage_is found c).asked ne in rw a.alive refl))
  by _ (call.looks act) = gone (All-among IsGoing (could_of o h (token_of r))
      (λ y c. (x.agrees.polled e j r y w.its w.stage_is found c).going act))

pub points_stand : PointsStand
points_stand s l st g node S k = let p = (named_fits s S l st g node k).nodes.points l.node node k.its_node in
    (p.point, p.there)

-- a letter of its stack's newest traversal has work
meant_at : (s : StateData) → Standing s → (l : Letter) (st : Stack) (g : Graph) (node : Node) → Names s l st g node
    → IsMeant s l
meant_at s S l st g (U word n) names =
    let fits = named_fits s S l st g (U word n) names in
    let (q, is) = fits.targets.updates l.node n word names.its_node in
    let (item, asked) = item_of (plan_of st.plan).items word (fits.nodes.only_items l.node n word names.its_node) in
    let named : st.name ≡ l.stack = stack-key s.stacks l.stack st names.in_table in record {
      target = q.no;
      fresh = record {
        stack = st;
        graph = g;
        node = U word n;
        row = Some q;
        names = names;
        found = is.is.found;
        serves = work.updates word n item q asked is.kept;
      };
      to = subst (λ (a : List ℕ). IsTarget s.rows a (U word n) q.no) named is.to;
    }
meant_at s S l st g (C n) names = record {
  target = n;
  fresh = record {
    stack = st;
    graph = g;
    node = C n;
    row = row_at s.rows n;
    names = names;
    found = refl;
    serves = cleans n _;
  };
  to = of_c n;
}

pub old_is_stale : OldIsStale
old_is_stale = record { letters = letters; jobs = jobs } where
  letters : (s : StateData) (n : ℕ) (l : Letter) → Standing s → letter_at s.letters n ≡ Some l
      → IsOutdated s l ↔ IsStale s.stacks l
  letters s n l S at = (
    (λ old st found newest. let k = S.shape.letters.newest n l st at (record { in_table = found; newest = newest }) in
        old (meant_at s S l st k.graph k.node k.names)),
    (λ stale meant. stale meant.fresh.stack meant.fresh.names.in_table meant.fresh.names.newest),
  )

  jobs : (s : StateData) (e : ℕ) (j : Job) → Standing s → job_at s.jobs e ≡ Some j
      → IsOverrun s j ↔ IsStale s.stacks j.letter
  jobs s e j S at = (
    (λ over st found newest. over (fresh_of_newest s S e j at st (record { in_table = found; newest = newest }))),
    (λ stale fresh. stale fresh.stack fresh.names.in_table fresh.names.newest),
  )

asks_at : (s : StateData) (e : ℕ) (j : Job) → Standing s → job_at s.jobs e ≡ Some j → j.stage ≡ Asking → IsAskable s j
asks_at s e j S its is =
    let row = S.shape.jobs.under_way e j its (subst IsUnderWay (sym is) stages.asks) in
    let (asked, asks_it) = asked_for row.row (S.shape.each_row j.row row.row row.found) row.status in
    record { row = row.row; found = row.found; asked = asked; asks = asks_it }

polls_at : (s : StateData) (e : ℕ) (j : Job) → Standing s → job_at s.jobs e ≡ Some j → j.stage ≡ Polling
    → (r : Row) × (row_at s.rows j.row ≡ Some r)
polls_at s e j S its is =
    let row = S.shape.jobs.under_way e j its (subst IsUnderWay (sym is) stages.polls) in (row.row, row.found)

pub sound_has_work : SoundHasWork
sound_has_work s e S = record {
  points = λ j st g node its names. points_stand s j.letter st g node S names;
  asking = λ j its is. asks_at s e j S its is;
  polling = λ j its is. polls_at s e j S its is;
}
