-- An engine's next step is one, and so is what its begin reads.
use Rattle.std.proofs.Common.{ap, refl, subst, sym, ℕ, ◌∙◌, ◌≡◌}
use Rattle.std.specs.Prelude.{List, None, Option, Some, slice_get}
use Rattle.heat_plan.specs.Plans.{PlanData}
use Rattle.heat_plan.specs.declared.item.Item.{Item}
use Rattle.traversal_graph.specs.declared.shape.Node.TheVariants.{U}
use Rattle.row_table.specs.Rows.{row_at}
use Rattle.row_table.specs.declared.row.Row.{Row}
use Rattle.sync_points.specs.declared.point.Point.{Point}
use Rattle.mail_table.specs.declared.mail.Job.{Job}
use Rattle.mail_table.specs.declared.mail.Letter.{Letter}
use Rattle.mail_table.specs.declared.mail.Stage.{Stage}
use Rattle.mail_table.specs.declared.mail.Stage.TheVariants.{Taken}
use Rattle.core_state.specs.Reads.{item_at}
use Rattle.core_state.specs.State.{StateData}
use Rattle.core_state.specs.declared.graph.Graph.{Graph}
use Rattle.core_state.specs.declared.stack.Stack.{Stack}
use Rattle.step_relation.specs.Freshness.{plan_of}
use Rattle.step_relation.specs.Nexts.{TakesNext, TakesOver, Works}
use Rattle.history_laws.proofs.tables.Rows.{same_some}
use Rattle.next_laws.proofs.Readings.{names_one, works_one}
use Rattle.check_steps.specs.AtUpdate.{AtUpdate}
use Rattle.check_steps.specs.Looks.{HasNext, IsBegin, IsPlain}
use Rattle.check_steps.specs.Parts.{HasParts, IsParts, parts_read, read_of}
use Rattle.check_steps.specs.declared.looks.BeginWork.{BeginWork}
use Rattle.check_steps.specs.declared.begin_parts.Parts.{Parts}
use Rattle.check_steps.proofs.PartsRead.{has_plan}

same_name : (a b : List ℕ) (n m : ℕ) → U a n ≡ U b m → a ≡ b
same_name a b n m is = cc

-- the same parts give the same reading
same_reads : (p q : PlanData) (i k : Item) (x y : Point) (r t : Row) → p ≡ q → i ≡ k → x ≡ y → r ≡ t
    → read_of p i x r ≡ read_of q k y t
same_reads p q i k x y r t plans items points rows =
    ap (λ (z : PlanData). read_of z i x r) plans
    ∙ (ap (λ (z : Item). read_of q z x r) items
    ∙ (ap (λ (z : Point). read_of q k z r) points ∙ ap (λ (z : Row). read_of q k y z) rows))

module _ (s : StateData) (e : ℕ) where
  pub record SameUpdate (j k : Job) (a : AtUpdate s e j) (b : AtUpdate s e k) : Type 0 where
    pub stacks : a.stack ≡ b.stack
    pub items : a.item ≡ b.item
    pub points : a.point ≡ b.point
    pub rows : a.row ≡ b.row

  update_one : (j k : Job) (a : AtUpdate s e j) (b : AtUpdate s e k) → SameUpdate j k a b
  update_one j k a b =
      let jobs : j ≡ k = works_one s e Taken Taken j k a.works b.works in
      let (stacks, graphs, nodes) =
      names_one s j.letter k.letter (ap (λ (x : Job). x.letter) jobs) a.stack b.stack a.graph b.graph
      (U a.name a.chosen) (U b.name b.chosen) a.names b.names in
      let names : a.name ≡ b.name = same_name a.name b.name a.chosen b.chosen nodes in
      let asked : item_at (plan_of a.stack.plan).items a.name ≡ Some b.item =
      subst (λ (z : Stack). item_at (plan_of z.plan).items a.name ≡ Some b.item) (sym stacks)
      (subst (λ (n : List ℕ). item_at (plan_of b.stack.plan).items n ≡ Some b.item) (sym names) b.asked) in
      let found : row_at s.rows j.row ≡ Some b.row = subst (λ (x : Job). row_at s.rows x.row ≡ Some b.row)
      (sym jobs) b.found in
      let there : slice_get a.graph.points j.letter.node ≡ Some b.point =
      subst (λ (g : Graph). slice_get g.points j.letter.node ≡ Some b.point) (sym graphs)
      (subst (λ (x : Job). slice_get b.graph.points x.letter.node ≡ Some b.point) (sym jobs) b.its_point) in
      record {
        stacks = stacks;
        items = same_some a.item b.item a.asked asked;
        points = same_some a.point b.point a.its_point there;
        rows = same_some a.row b.row a.found found;
      }

  pub read_one : (j k : Job) (a : AtUpdate s e j) (b : AtUpdate s e k) (p q : PlanData) → a.stack.plan ≡ Some p
      → b.stack.plan ≡ Some q
      → read_of p a.item a.point a.row ≡ read_of q b.item b.point b.row
  read_one j k a b p q its also =
      let same = update_one j k a b in
      same_reads p q a.item b.item a.point b.point a.row b.row
      (same_some p q its (subst (λ (z : Stack). z.plan ≡ Some q) (sym same.stacks) also))
      same.items same.points same.rows

  pub plan_kept : (j k : Job) (a : AtUpdate s e j) (b : AtUpdate s e k) (p : PlanData) → a.stack.plan ≡ Some p
      → b.stack.plan ≡ Some p
  plan_kept j k a b p its = let same = update_one j k a b in
      subst (λ (z : Stack). z.plan ≡ Some p) same.stacks its

  -- the parts that were read are the begin's
  pub begin_read : (j : Job) (it : Parts) → IsParts s e j it → IsBegin s e (parts_read it)
  begin_read j it h = record {
    job = j;
    at = record {
      stack = it.stack.now;
      graph = h.graph;
      name = h.name;
      chosen = h.chosen;
      item = it.item.now;
      row = it.row.now;
      point = it.point.now;
      works = h.works;
      names = h.names;
      asked = h.asked;
      found = h.found;
      kept = h.kept;
      its_point = h.its_point;
    };
    plan = it.plan.now;
    its_plan = h.its_plan;
    reads = refl;
  }

  -- and no other begin is next
  pub begin_one : (w v : BeginWork) → IsBegin s e w → IsBegin s e v → w ≡ v
  begin_one w v a b = a.reads ∙ (read_one a.job b.job a.at b.at a.plan b.plan a.its_plan b.its_plan ∙ sym b.reads)

  pub next_works : (j : Job) (stage : Stage) → Works s e j stage → HasNext s e
  next_works j stage w =
      record { live = w.live; some = λ idle. let no_job = sym idle.jobless ∙ w.its in cc }

  pub next_takes : (l : Letter) → TakesNext s e l → HasNext s e
  next_takes l t = record {
    live = t.live;
    some = λ idle. let no_letter = sym (idle.silent l.no) ∙ t.first.waits in cc;
  }

  pub next_takes_over : (f : ℕ) (j : Job) → TakesOver s e f j → HasNext s e
  next_takes_over f j t = record { live = t.live; some = λ idle. idle.none_left f j t.left }

  pub plain_takes : (l : Letter) → TakesNext s e l → IsPlain s e
  plain_takes l t = record {
    next = next_takes l t;
    other = λ j at. let no_job = sym t.jobless ∙ at.works.its in cc;
  }

  pub plain_takes_over : (f : ℕ) (j : Job) → TakesOver s e f j → IsPlain s e
  plain_takes_over f j t = record {
    next = next_takes_over f j t;
    other = λ k at. let no_job = sym t.jobless ∙ at.works.its in cc;
  }

  -- no other job is the engine's
  pub none_at : (j : Job) (stage : Stage) → Works s e j stage → ¬ AtUpdate s e j → (k : Job) → ¬ AtUpdate s e k
  none_at j stage w none k at = none (subst (λ (x : Job). AtUpdate s e x)
      (works_one s e Taken stage k j at.works w) at)

  pub plain_works : (j : Job) (stage : Stage) → Works s e j stage → ¬ AtUpdate s e j → IsPlain s e
  plain_works j stage w none = record { next = next_works j stage w; other = none_at j stage w none }

  -- the begin of the engine's job is that of this job
  pub at_job : (j : Job) (stage : Stage) (w : BeginWork) → Works s e j stage → IsBegin s e w → AtUpdate s e j
  at_job j stage w works b = subst (λ (x : Job). AtUpdate s e x) (works_one s e Taken stage b.job j b.at.works works)
      b.at

  -- an engine without a job begins nothing
  pub takes_no_begin : (l : Letter) (w : BeginWork) → TakesNext s e l → IsBegin s e w → ⊥
  takes_no_begin l w t b = (plain_takes l t).other b.job b.at

  pub takes_over_no_begin : (f : ℕ) (j : Job) (w : BeginWork) → TakesOver s e f j → IsBegin s e w → ⊥
  takes_over_no_begin f j w t b = (plain_takes_over f j t).other b.job b.at
