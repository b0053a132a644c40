-- What a step works with is one: the letter that it takes, the parts of a begin, of a call and of a finish.
use Rattle.std.proofs.Common.{◌≡◌, ℕ, List, Option, Some, refl, sym, ap, subst, ◌∙◌}
use Rattle.std.specs.Prelude.{Contains, slice_get}
use Rattle.heat_plan.specs.declared.calls.Answered.{Answered}
use Rattle.heat_plan.specs.declared.calls.Request.{Request}
use Rattle.heat_plan.specs.declared.phase.Act.{Act}
use Rattle.dep_graph.specs.Lists.{ListsAll}
use Rattle.traversal_graph.specs.Builds.{Joins}
use Rattle.traversal_graph.specs.declared.shape.Node.{Node}
use Rattle.traversal_graph.specs.declared.shape.Node.TheVariants.{C, U}
use Rattle.row_table.specs.Rows.{row_at}
use Rattle.row_table.specs.declared.row.Row.{Row}
use Rattle.sync_points.specs.declared.point.Point.{Point}
use Rattle.mail_table.specs.declared.mail.Job.{Job}
use Rattle.mail_table.specs.declared.mail.Letter.{Letter}
use Rattle.mail_table.specs.declared.mail.Stage.{Stage}
use Rattle.core_state.specs.Reads.{IsDone, IsReady, item_at}
use Rattle.core_state.specs.State.{StateData}
use Rattle.core_state.specs.declared.entry.Why.{Why}
use Rattle.core_state.specs.declared.graph.Graph.{Graph}
use Rattle.core_state.specs.declared.stack.Stack.{Stack}
use Rattle.history_laws.specs.Asks.{Asks, Calls, Falls, Polls, Refuses, by_code, by_failure, by_quota, creates}
use Rattle.history_laws.specs.Asks.{deletes, looks, marked, marks, overrun, polls, updates}
use Rattle.history_laws.specs.Begins.{Begins}
use Rattle.history_laws.specs.Cleanups.{Cleans}
use Rattle.history_laws.specs.Finishes.{Finishes}
use Rattle.history_laws.specs.Freshness.{plan_of}
use Rattle.history_laws.specs.Inputs.{IsRequired, input_of, passed}
use Rattle.history_laws.specs.Takes.{HasNoHolder, IsHolder, IsIdleLetter, Takes, done, held, outdated}
use Rattle.history_laws.proofs.tables.Rows.{same_some}
use Rattle.next_laws.proofs.Listings.{listing_one}
use Rattle.next_laws.proofs.Readings.{fresh_one, holder_one, lowest_one, meant_one, names_one, resends_one, works_one}

-- a take
pub record SameTake (s : StateData) (e : ℕ) (k q : Takes s e) : Type 0 where
  pub letters : k.letter ≡ q.letter
  pub targets : k.meant.target ≡ q.meant.target
  pub rows : k.meant.fresh.row ≡ q.meant.fresh.row

pub take_one : (s : StateData) (e : ℕ) (k q : Takes s e) → SameTake s e k q
take_one s e k q =
    let letters : k.letter ≡ q.letter = lowest_one s.letters k.letter q.letter k.next.first q.next.first in
    let targets : k.meant.target ≡ q.meant.target = meant_one s k.letter q.letter letters k.meant q.meant in
    let like = fresh_one s k.letter q.letter k.meant.target q.meant.target letters targets k.meant.fresh
    q.meant.fresh in
    record { letters = letters; targets = targets; rows = like.rows }

module _ (s : StateData) (e : ℕ) (k : Takes s e) where
  pub idle_free : IsIdleLetter s k.letter → HasNoHolder s.jobs k.meant.target → ⊥
  idle_free (outdated o) free = o k.meant
  idle_free (done m d) free =
      let same = meant_one s k.letter k.letter refl m k.meant in
      let like = fresh_one s k.letter k.letter m.target k.meant.target refl same m.fresh k.meant.fresh in
      k.open_ (subst (λ (g : Graph). IsDone g k.letter.node) like.graphs d)
  idle_free (held m f j h live) free = free f j h.its (h.has ∙ meant_one s k.letter k.letter refl m k.meant)

  pub idle_stolen : IsIdleLetter s k.letter → (f : ℕ) (j : Job) → IsHolder s.jobs k.meant.target f j
      → ¬ Contains s.live f → ⊥
  idle_stolen (outdated o) f j h stopped = o k.meant
  idle_stolen (done m d) f j h stopped =
      let same = meant_one s k.letter k.letter refl m k.meant in
      let like = fresh_one s k.letter k.letter m.target k.meant.target refl same m.fresh k.meant.fresh in
      k.open_ (subst (λ (g : Graph). IsDone g k.letter.node) like.graphs d)
  idle_stolen (held m g i h' live) f j h stopped =
      let is : g ≡ f = holder_one s.jobs m.target k.meant.target g f i j
      (meant_one s k.letter k.letter refl m k.meant) h' h in
      stopped (subst (Contains s.live) is live)

-- the begin at an update node
pub record SameBegin (s : StateData) (e : ℕ) (k q : Begins s e) : Type 0 where
  pub jobs : k.job ≡ q.job
  pub stacks : k.stack ≡ q.stack
  pub items : k.item ≡ q.item
  pub rows : k.row ≡ q.row
  pub required : k.required ≡ q.required

same_name : (a b : List ℕ) (n m : ℕ) → U a n ≡ U b m → a ≡ b
same_name a b n m e = cc

pub begin_one : (s : StateData) (e : ℕ) (k q : Begins s e) → SameBegin s e k q
begin_one s e k q =
    let jobs : k.job ≡ q.job = works_one s e _ _ k.job q.job k.works q.works in
    let (stacks, graphs, nodes) =
    names_one s k.job.letter q.job.letter (ap (λ (j : Job). j.letter) jobs) k.stack q.stack k.graph q.graph
    (U k.name k.chosen) (U q.name q.chosen) k.names q.names in
    let names : k.name ≡ q.name = same_name k.name q.name k.chosen q.chosen nodes in
    let asked : item_at (plan_of k.stack.plan).items k.name ≡ Some q.item =
    subst (λ (z : Stack). item_at (plan_of z.plan).items k.name ≡ Some q.item) (sym stacks)
    (subst (λ (n : List ℕ). item_at (plan_of q.stack.plan).items n ≡ Some q.item) (sym names) q.asked) in
    let found : row_at s.rows k.job.row ≡ Some q.row = subst (λ (j : Job). row_at s.rows j.row ≡ Some q.row)
    (sym jobs) q.found in
    let there : slice_get k.graph.points k.job.letter.node ≡ Some q.point =
    subst (λ (g : Graph). slice_get g.points k.job.letter.node ≡ Some q.point) (sym graphs)
    (subst (λ (j : Job). slice_get q.graph.points j.letter.node ≡ Some q.point) (sym jobs) q.its_point) in
    let points : k.point ≡ q.point = same_some k.point q.point k.its_point there in
    record {
      jobs = jobs;
      stacks = stacks;
      items = same_some k.item q.item k.asked asked;
      rows = same_some k.row q.row k.found found;
      required = listing_one (IsRequired k.point.inputs) k.required q.required k.requires_are
          (subst (λ (p : Point). ListsAll (IsRequired p.inputs) q.required) (sym points) q.requires_are);
    }

-- the begin at a clean-up node
pub clean_one : (s : StateData) (e : ℕ) (k q : Cleans s e) → (k.job ≡ q.job) × (k.stack ≡ q.stack)
clean_one s e k q =
    let jobs : k.job ≡ q.job = works_one s e _ _ k.job q.job k.works q.works in
    let (stacks, _, _) = names_one s k.job.letter q.job.letter
    (ap (λ (j : Job). j.letter) jobs) k.stack q.stack k.graph q.graph
    (C k.number) (C q.number) k.names q.names in (jobs, stacks)

-- a call
pub call_one : (s : StateData) (e : ℕ) (stage : Stage) (k q : Calls s e stage) → (k.job ≡ q.job) × (k.row ≡ q.row)
call_one s e stage k q =
    let jobs : k.job ≡ q.job = works_one s e stage stage k.job q.job k.works q.works in
    (jobs, same_some k.row q.row k.found (subst (λ (j : Job). row_at s.rows j.row ≡ Some q.row) (sym jobs) q.found))

pub asks_one : (r : Row) (a b : Request) → Asks r a → Asks r b → a ≡ b
asks_one r a b (creates i) (creates j) = refl
asks_one r a b (creates i) (updates j) = cc
asks_one r a b (creates i) (deletes j) = cc
asks_one r a b (updates i) (creates j) = cc
asks_one r a b (updates i) (updates j) = refl
asks_one r a b (updates i) (deletes j) = cc
asks_one r a b (deletes i) (creates j) = cc
asks_one r a b (deletes i) (updates j) = cc
asks_one r a b (deletes i) (deletes j) = refl

pub polls_one : (r : Row) (a b : Request) → Polls r a → Polls r b → a ≡ b
polls_one r a b (polls i) (polls j) = refl
polls_one r a b (polls i) (looks j) = absurd (i j)
polls_one r a b (looks i) (polls j) = absurd (j i)
polls_one r a b (looks i) (looks j) = refl

pub refuses_one : (act : Act) (asked : Request) (given : Answered) (a b : Why) → Refuses act asked given a
    → Refuses act asked given b → a ≡ b
refuses_one act asked given a b (by_quota kind props) (by_quota _ _) = refl
refuses_one act asked given a b (by_failure _) (by_failure _) = refl
refuses_one act asked given a b (by_code code) (by_code _) = refl

pub falls_one : (s : StateData) (j : Job) (a b : List Letter) (f g : Option Stack) → Falls s j a f → Falls s j b g
    → (a ≡ b) × (f ≡ g)
falls_one s j a b f g (overrun _ o sends) (overrun _ o' sends') =
    (resends_one s j.letter.stack j.row a b sends sends', refl)
falls_one s j a b f g (overrun _ o sends) (marked k n) = absurd (o k)
falls_one s j a b f g (overrun _ o sends) (marks k n) = absurd (o k)
falls_one s j a b f g (marked k n) (overrun _ o sends) = absurd (o k)
falls_one s j a b f g (marked k n) (marked q m) = (refl, refl)
falls_one s j a b f g (marked k n) (marks q m) =
    let like = fresh_one s j.letter j.letter j.row j.row refl refl k q in
    absurd (n (ap (λ (x : Stack). x.status) like.stacks ∙ m))
falls_one s j a b f g (marks k n) (overrun _ o sends) = absurd (o k)
falls_one s j a b f g (marks k n) (marked q m) =
    let like = fresh_one s j.letter j.letter j.row j.row refl refl q k in
    absurd (m (ap (λ (x : Stack). x.status) like.stacks ∙ n))
falls_one s j a b f g (marks k n) (marks q m) =
    let like = fresh_one s j.letter j.letter j.row j.row refl refl k q in (refl, ap (λ (x : Stack). Some x) like.stacks)

-- a finish
pub record SameFinish (s : StateData) (e : ℕ) (k q : Finishes s e) : Type 0 where
  pub jobs : k.job ≡ q.job
  pub stacks : k.fresh.stack ≡ q.fresh.stack
  pub graphs : k.fresh.graph ≡ q.fresh.graph
  pub nodes : k.fresh.node ≡ q.fresh.node
  pub rows : k.fresh.row ≡ q.fresh.row
  pub succs : k.succs ≡ q.succs
  pub ready : k.ready ≡ q.ready

abbrev IsReadyThen : Graph → Job → Node → Option Row → List ℕ → ℕ → Type 0
IsReadyThen g j x r succs k = Contains succs k
    × IsReady (passed g j.letter.node (input_of j.letter.node x j.row r) succs) k

pub finish_one : (s : StateData) (e : ℕ) (k q : Finishes s e) → SameFinish s e k q
finish_one s e k q =
    let jobs : k.job ≡ q.job = works_one s e _ _ k.job q.job k.works q.works in
    let like = fresh_one s k.job.letter q.job.letter k.job.row q.job.row (ap (λ (j : Job). j.letter) jobs)
    (ap (λ (j : Job). j.row) jobs) k.fresh q.fresh in
    let succs : k.succs ≡ q.succs =
    listing_one (Joins k.fresh.graph.graph.edges k.job.letter.node) k.succs q.succs k.behind
    (subst (λ (j : Job). ListsAll (Joins k.fresh.graph.graph.edges j.letter.node) q.succs) (sym jobs)
    (subst (λ (g : Graph). ListsAll (Joins g.graph.edges q.job.letter.node) q.succs) (sym like.graphs) q.behind)) in
    record {
      jobs = jobs;
      stacks = like.stacks;
      graphs = like.graphs;
      nodes = like.nodes;
      rows = like.rows;
      succs = succs;
      ready = listing_one (IsReadyThen k.fresh.graph k.job k.fresh.node k.fresh.row k.succs) k.ready q.ready k.ready_are
          (subst (λ (g : Graph). ListsAll (IsReadyThen g k.job k.fresh.node k.fresh.row k.succs) q.ready)
          (sym like.graphs)
          (subst (λ (j : Job). ListsAll (IsReadyThen q.fresh.graph j k.fresh.node k.fresh.row k.succs) q.ready)
          (sym jobs)
          (subst (λ (x : Node). ListsAll (IsReadyThen q.fresh.graph q.job x k.fresh.row k.succs) q.ready)
          (sym like.nodes)
          (subst (λ (r : Option Row). ListsAll (IsReadyThen q.fresh.graph q.job q.fresh.node r k.succs) q.ready)
          (sym like.rows)
          (subst (λ (l : List ℕ). ListsAll (IsReadyThen q.fresh.graph q.job q.fresh.node q.fresh.row l) q.ready)
          (sym succs) q.ready_are)))));
    }
