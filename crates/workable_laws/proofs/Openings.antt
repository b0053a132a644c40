-- An admitted image is workable where no live engine has a job, a sound state is, and what a live engine needs is
-- there.
use Rattle.std.proofs.Common.{◌≡◌, ◌≢◌, inl, inr, ◌<◌, ℕ, List, Option, Some, None, refl, sym, subst, ◌∙◌, arith}
use Rattle.std.specs.Prelude.{Contains, IsSome, slice_index_or, unwrap_or}
use Rattle.std.proofs.lemmas.Option.{slice_get-get_or}
use Rattle.heat_plan.specs.declared.calls.Request.{Request}
use Rattle.heat_plan.specs.declared.phase.Act.{Act}
use Rattle.heat_plan.specs.declared.phase.Act.TheVariants.{Create, Delete, Init, Rollback, Update}
use Rattle.heat_plan.specs.declared.phase.Status.TheVariants.{InProgress}
use Rattle.heat_plan.specs.declared.token.Token.{Token}
use Rattle.provider.specs.Table.{TokenState}
use Rattle.traversal_graph.specs.declared.shape.Node.TheVariants.{C}
use Rattle.row_table.specs.Rows.{row_at}
use Rattle.row_table.specs.declared.row.Row.{Row}
use Rattle.mail_table.specs.Mails.{job_at}
use Rattle.mail_table.specs.declared.mail.Job.{Job}
use Rattle.mail_table.specs.declared.mail.Stage.TheVariants.{Asking}
use Rattle.core_state.specs.declared.entry.Entry.{Entry}
use Rattle.core_state.specs.declared.graph.Graph.{Graph}
use Rattle.core_state.specs.State.{StateData, stack_at}
use Rattle.core_state.specs.declared.stack.Stack.{Stack}
use Rattle.step_relation.specs.Asks.{Asks, Polls}
use Rattle.step_relation.specs.Rows.{token_of}
use Rattle.step_relation.specs.Could.{could_of}
use Rattle.step_relation.specs.Opening.{Opening, first_of}
use Rattle.step_relation.specs.Sound.{Sound}
use Rattle.step_relation.specs.Agrees.{IsGoing}
use Rattle.step_relation.specs.Headline.{MayBeAsked, create, delete, gone, poll, update}
use Rattle.step_relation.specs.GraphFits.{GraphFits}
use Rattle.step_relation.specs.Linked.{Links}
use Rattle.step_relation.specs.MailFits.{IsUnderWay, asks, polls}
use Rattle.history_laws.proofs.tables.Facts.{graph_here}
use Rattle.history_laws.proofs.tables.Rows.{job-key, letter-key, row-key, same_some}
use Rattle.history_laws.proofs.agrees.Called.{only}
use Rattle.next_laws.proofs.WorkBelow.{All-among}
use Rattle.next_laws.specs.HasTurn.{IsAskable}
use Rattle.history_laws.proofs.edges.Members.{contains_at}
use Rattle.workable_laws.specs.Laws.{AdmittedIsWorkable, SoundIsWorkable, WorkableHasWork, WorkableMayAsk}
use Rattle.workable_laws.specs.Workable.{AreWhole, Drawn, IsCalled, IsCalledAct, IsWhole, MustLive, creates, deletes}
use Rattle.workable_laws.specs.Workable.{ready, updates, updating}
use Rattle.step_relation.specs.Asks as call
use Rattle.next_laws.specs.Found as found_at

-- numbers
drawn_of : (s : StateData) → Links s → ((t : Token) → Contains s.released t → t.row < s.next.row) → Drawn s
drawn_of s k below = record {
  rows = λ n r at. let lt = (k.numbered.rows n r at).no_ in let key = row-key s.rows n r at in omega (arith, lt, key);
  cleanups = λ name g i n at node. (k.numbered.graphs name g at).nodes i (C n) node;
  jobs = λ e j at. (k.numbered.jobs e j at).its_row;
  holders = λ e j at. let lt = (k.numbered.jobs e j at).holder in let key = job-key s.jobs e j at in
      omega (arith, lt, key);
  letters = λ n l at. let lt = (k.numbered.letters n l at).no_ in let key = letter-key s.letters n l at in
      omega (arith, lt, key);
  live = k.numbered.live;
  released = below;
}

pub admitted : AdmittedIsWorkable
admitted o a still = record {
  drawn = drawn_of o.state a.tied.links a.tied.below;
  once = a.tied.links.numbered.once;
  graphs = a.read.graphs;
  jobs = record {
    apart = a.tied.links.locked.apart;
    called = λ e j live its way. absurd (jobless e j live its);
    rows = λ n r at. record { act = a.read.acts n r at; target = a.tied.targets n r at };
  };
  cloud = record {
    lives = λ n r x at must among. subst IsSome (sym (only (first_of o (token_of r)) x among)) (lives n r at must);
    polled = λ e j r x live its stage at among. absurd (jobless e j live its);
    rowless = a.tied.released;
  };
} where
  jobless : (e : ℕ) (j : Job) → Contains o.state.live e → job_at o.state.jobs e ≡ Some j → ⊥
  jobless e j live its = let none = still e live in cc

  lives : (n : ℕ) (r : Row) → row_at o.state.rows n ≡ Some r → MustLive r → IsSome (first_of o (token_of r))
  lives n r at (ready done begun kept) =
      let k = (a.compared.rows n r at).ready done begun in rw k.as_it_is.alive.alive refl
  lives n r at (updating act under) =
      elim ((a.compared.rows n r at).updating act under) [ inl k ↦ rw k.alive refl | inr k ↦ rw k.alive refl ]

-- a sound state
act_called : (r : Row) → r.act ≢ Rollback → r.act ≢ Init → IsCalledAct r.act
act_called r other begun = by r.act refl where
  by : (a : Act) → r.act ≡ a → IsCalledAct a
  by Init is = absurd (begun is)
  by Create is = creates
  by Update is = updates
  by Delete is = deletes
  by Rollback is = absurd (other is)

whole_graph : (s : StateData) (st : Stack) (g : Graph) → GraphFits s st g → IsWhole g
whole_graph s st g fits = record {
  points = λ i node there. let p = fits.nodes.points i node there in (p.point, p.there);
  ends = λ i d lt. let e = slice_index_or g.graph.edges i d in
      fits.nodes.ends e.0 e.1 (contains_at g.graph.edges i e (slice_get-get_or g.graph.edges i d lt));
}

pub whole_of : (o : Opening) (h : List Entry) (s : StateData) → Sound o h s → AreWhole s
whole_of o h s x name g has at = by (stack_at s.stacks name) refl has where
  by : (y : Option Stack) → stack_at s.stacks name ≡ y → IsSome y → IsWhole g
  by (Some st) found some = whole_graph s st g
      (subst (GraphFits s st) (graph_here s name g at) (x.standing.shape.graphs name st found))
  by None found some = cc

pub sound : SoundIsWorkable
sound o h s x = record {
  drawn = drawn_of s x.standing.links x.released.below;
  once = x.standing.links.numbered.once;
  graphs = whole_of o h s x;
  jobs = record {
    apart = x.standing.links.locked.apart;
    called = λ e j live its way. called e j its way;
    rows = λ n r at. let fits = x.standing.shape.each_row n r at in record { act = fits.acts; target = fits.updating };
  };
  cloud = record {
    lives = lives;
    polled = λ e j r y live its stage at among. let k = x.agrees.polled e j r y its stage at among in record {
      there = λ kept. (let a = k.asked kept in rw a.alive refl);
      going = k.going;
    };
    rowless = x.released.rowless;
  };
} where
  called : (e : ℕ) (j : Job) → job_at s.jobs e ≡ Some j → IsUnderWay j.stage → IsCalled s j
  called e j its way =
      let k = x.standing.shape.jobs.under_way e j its way in
      let fits = x.standing.shape.each_row j.row k.row k.found in record {
        row = k.row;
        found = k.found;
        status = k.status;
        act = act_called k.row fits.acts (λ is. let f = sym k.status ∙ fits.init is in cc);
      }

  lives : (n : ℕ) (r : Row) (y : TokenState) → row_at s.rows n ≡ Some r → MustLive r
      → Contains (could_of o h (token_of r)) y → IsSome y
  lives n r y at (ready done begun kept) among = let k = (x.agrees.rows n r y at among).ready done begun kept in
      rw k.alive.alive refl
  lives n r y at (updating act under) among =
      elim ((x.agrees.rows n r y at among).updating act under) [ inl k ↦ rw k.alive refl | inr k ↦ rw k.alive refl ]

-- what a live engine needs
asks_for : (r : Row) → IsCalledAct r.act → (asked : Request) × Asks r asked
asks_for r k = by r.act refl k where
  by : (a : Act) → r.act ≡ a → IsCalledAct a → (asked : Request) × Asks r asked
  by _ is creates = (_, call.creates is)
  by _ is updates = (_, call.updates is)
  by _ is deletes = (_, call.deletes is)

pub has_work : WorkableHasWork
has_work o h s e w live = record {
  points = λ j st g node its names.
      (w.graphs j.letter.stack g (rw names.in_table refl) names.its_graph).points j.letter.node node names.its_node;
  asking = λ j its is. askable j its is;
  polling = λ j its is. let k = w.jobs.called e j live its (subst IsUnderWay (sym is) polls) in (k.row, k.found);
} where
  askable : (j : Job) → job_at s.jobs e ≡ Some j → j.stage ≡ Asking → IsAskable s j
  askable j its is =
      let k = w.jobs.called e j live its (subst IsUnderWay (sym is) asks) in
      let (asked, it) = asks_for k.row k.act in record { row = k.row; found = k.found; asked = asked; asks = it }

pub may_ask : WorkableMayAsk
may_ask o h s e j r stage asked w v found (found_at.asks _ is) = by asked is where
  status : r.status ≡ InProgress
  status =
      let k = w.jobs.called e j v.live v.its (subst IsUnderWay (sym v.stage_is) asks) in
      subst (λ (q : Row). q.status ≡ InProgress) (same_some k.row r k.found found) k.status

  by : (a : Request) → Asks r a → MayBeAsked (could_of o h (token_of r)) a
  by _ (call.creates act) = create r.kind.name r.props
  by _ (call.updates act) = update (unwrap_or r.target r.props)
      (All-among IsSome (could_of o h (token_of r)) (λ y c. w.cloud.lives j.row r y found (updating act status) c))
  by _ (call.deletes act) = delete
may_ask o h s e j r stage asked w v found (found_at.polls _ is) = by asked is where
  by : (a : Request) → Polls r a → MayBeAsked (could_of o h (token_of r)) a
  by _ (call.polls ne) = poll (All-among IsSome (could_of o h (token_of r))
      (λ y c. (w.cloud.polled e j r y v.live v.its v.stage_is found c).there ne))
  by _ (call.looks act) = gone (All-among IsGoing (could_of o h (token_of r))
      (λ y c. (w.cloud.polled e j r y v.live v.its v.stage_is found c).going act))
