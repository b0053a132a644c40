-- Nodes are covered after a letter is dropped, and after a take.
use Rattle.std.proofs.Common.{◌≡◌, ◌≢◌, ◌⊎◌, inl, inr, ℕ, [], ◌∷◌, List, None, Option, Some, refl, sym, ap, ◌∙◌, subst}
use Rattle.traversal_graph.specs.declared.shape.Node.{Node}
use Rattle.traversal_graph.specs.declared.shape.Node.TheVariants.{C, U}
use Rattle.row_table.specs.Rows.{row_at}
use Rattle.row_table.specs.declared.row.Row.{Row}
use Rattle.mail_table.specs.Mails.{cut_job, cut_letter, job_at, letter_at, put_job}
use Rattle.mail_table.specs.declared.mail.Job.{Job}
use Rattle.mail_table.specs.declared.mail.Letter.{Letter}
use Rattle.core_state.specs.Changes.{applied}
use Rattle.heat_plan.specs.declared.phase.Status.TheVariants.{InProgress}
use Rattle.core_state.specs.Reads.{IsDone, IsReady}
use Rattle.core_state.specs.State.{StateData, graph_at, stack_at}
use Rattle.core_state.specs.declared.change.Change.TheVariants.{Drop, EndJob, PutJob, PutRow}
use Rattle.core_state.specs.declared.graph.Graph.{Graph}
use Rattle.core_state.specs.declared.stack.Stack.{Stack}
use Rattle.step_relation.specs.Freshness.{IsMeant, Names, cleans, plan_of, updates}
use Rattle.step_relation.specs.Nexts.{TakesNext}
use Rattle.step_relation.specs.Resends.{IsOpen}
use Rattle.step_relation.specs.Rows.{locked}
use Rattle.step_relation.specs.Takes.{HasNoHolder, IsHolder, IsIdleLetter, Takes, done, held, outdated, taken_job}
use Rattle.step_relation.specs.Targets.{IsTarget, of_c}
use Rattle.step_relation.specs.Writes.{lock}
use Rattle.step_relation.specs.GraphFits.{GraphFits, IsNode}
use Rattle.step_relation.specs.Linked.{by_job, by_node, by_row}
use Rattle.step_relation.specs.MailFits.{IsStale, JobStands, LetterStands}
use Rattle.step_relation.specs.Sound.{Standing}
use Rattle.step_relation.specs.Stir.{Covered, IsCovered, IsTo, lasts, waits, works}
use Rattle.history_laws.proofs.tables.Fresh.{item_of}
use Rattle.history_laws.proofs.tables.Rows.{job_else, job_here, job_kept, letter_kept, same_or_not, same_some, stack-key}
use Rattle.history_laws.proofs.tables.Targets.{cleanup_target}
use Rattle.graph_laws.proofs.jobs.Onward.{Grounds, graph_there}
use Rattle.graph_laws.proofs.jobs.Taken.{locked_then, rows_else}
use Rattle.graph_laws.proofs.covers.Carried.{OpenAt, aimed, by_carry, newest_or_stale, same_node, target_on, to_is_newest}

module _ (s : StateData) (h : Standing s) where
  -- a job that has an open node's target works at it, or is stale
  module _ (st : Stack) (g : Graph) (i : ℕ) (node : Node) (o : OpenAt s st g i node) (m : ℕ)
      (to : IsTarget s.rows st.name node m) (f : ℕ) (j : Job)
      (its : job_at s.jobs f ≡ Some j) (has : j.row ≡ m) where
    owner : (x : Node) → IsNode g i x → IsTarget s.rows st.name x m → j.letter.stack ≡ st.name
    owner (U word n) at aim = let (q, at_q, fits) = aimed s h st o.in_table g o.its_graph i n m word at aim in
        h.links.owned.one m j.letter.stack st.name (by_job f j its has refl) (by_row q at_q fits.is.stack_is)
    owner (C n) at aim = h.links.owned.one m j.letter.stack st.name (by_job f j its has refl)
        (by_node g i (C n) o.its_graph at (cleanup_target s.rows st.name n m aim))

    its_stack : j.letter.stack ≡ st.name
    its_stack = owner node o.its_node to

    at_node : j.letter.trav ≡ st.trav → IsTo st i j.letter
    at_node newest = record { stack = its_stack; newest = newest; node_is = place } where
      k : JobStands s j st
      k = h.shape.jobs.newest f j st its (record {
        in_table = subst (λ (y : List ℕ). stack_at s.stacks y ≡ Some st)
            (sym its_stack) o.in_table;
        newest = sym newest;
      })

      graph : k.graph ≡ g
      graph = same_some k.graph g
          (subst (λ (y : List ℕ). graph_at s.graphs y ≡ Some k.graph) its_stack k.names.its_graph) o.its_graph

      place : j.letter.node ≡ i
      place = same_node s h st o.in_table g o.its_graph j.letter.node i m k.node node
          (subst (λ (y : Graph). IsNode y j.letter.node k.node) graph k.names.its_node) o.its_node
          (subst (λ (y : Graph). IsOpen y j.letter.node) graph
          (record { ready = k.fits.ready; undone = k.fits.undone })) o.open_
          (subst (λ (x : ℕ). IsTarget s.rows st.name k.node x) has k.fits.target) to

    pub held_by : IsTo st i j.letter ⊎ (IsStale s.stacks j.letter × (j.letter.stack ≡ st.name))
    held_by = elim (newest_or_stale s st j.letter o.in_table its_stack) [
      | inl newest ↦ inl (at_node newest)
      | inr stale ↦ inr (stale, its_stack)
    ]

  -- a letter to a node of the newest traversal has work
  meant_at : (l : Letter) (st : Stack) (g : Graph) (node : Node) → Names s l st g node → IsMeant s l
  meant_at l st g (C n) names = record {
    target = n;
    fresh = record {
      stack = st;
      graph = g;
      node = C n;
      row = row_at s.rows n;
      names = names;
      found = refl;
      serves = cleans n (row_at s.rows n);
    };
    to = of_c n;
  }
  meant_at l st g (U word n) names =
      let fits : GraphFits s st g = subst (GraphFits s st) (graph_there s l.stack g names.its_graph)
      (h.shape.graphs l.stack st names.in_table) in
      let (q, f) = fits.targets.updates l.node n word names.its_node in
      let (item, asked) = item_of (plan_of st.plan).items word (fits.nodes.only_items l.node n word names.its_node) in
      record {
        target = q.no;
        fresh = record {
          stack = st;
          graph = g;
          node = U word n;
          row = Some q;
          names = names;
          found = f.is.found;
          serves = updates word n item q asked f.kept;
        };
        to = subst (λ (y : List ℕ). IsTarget s.rows y (U word n) q.no)
            (stack-key s.stacks l.stack st names.in_table) f.to;
      }

  -- the node that a letter means
  module _ (l : Letter) (k : IsMeant s l) (st : Stack) (g : Graph) (i : ℕ) (node : Node) (o : OpenAt s st g i node)
      (to : IsTo st i l) where
    same_stack : k.fresh.stack ≡ st
    same_stack = same_some k.fresh.stack st k.fresh.names.in_table
        (subst (λ (y : List ℕ). stack_at s.stacks y ≡ Some st) (sym to.stack) o.in_table)

    pub same_graph : k.fresh.graph ≡ g
    same_graph = same_some k.fresh.graph g
        (subst (λ (y : List ℕ). graph_at s.graphs y ≡ Some k.fresh.graph) to.stack k.fresh.names.its_graph) o.its_graph

    same_place : k.fresh.node ≡ node
    same_place = same_some k.fresh.node node (subst (λ (y : Graph). IsNode y i k.fresh.node) same_graph
        (subst (λ (n : ℕ). IsNode k.fresh.graph n k.fresh.node) to.node_is k.fresh.names.its_node)) o.its_node

    pub aims : IsTarget s.rows st.name node k.target
    aims = subst (λ (x : Node). IsTarget s.rows st.name x k.target) same_place
        (subst (λ (y : List ℕ). IsTarget s.rows y k.fresh.node k.target) to.stack k.to)

  idle_covers : (l : Letter) → IsIdleLetter s l → (n : ℕ) → letter_at s.letters n ≡ Some l
      → (st : Stack) (g : Graph) (i : ℕ) (node : Node)
      → OpenAt s st g i node → IsTo st i l → IsCovered (applied (Drop l.no ∷ []) s) st i node
  idle_covers l (outdated none) n at st g i node o to =
      let w : LetterStands s l st = h.shape.letters.newest n l st at (to_is_newest s st i l o.in_table to) in
      absurd (none (meant_at l st w.graph w.node w.names))
  idle_covers l (done k is) n at st g i node o to =
      absurd (o.open_.undone
      (subst (IsDone g) to.node_is (subst (λ (y : Graph). IsDone y l.node) (same_graph l k st g i node o to) is)))
  idle_covers l (held k f j holder live) n at st g i node o to =
      elim (held_by st g i node o k.target (aims l k st g i node o to) f j holder.its holder.has) [
        | inl there ↦ works f j holder.its there
        | inr stale ↦ lasts f j holder.its stale.0 stale.1
            (subst (λ (m : ℕ). IsTarget s.rows st.name node m) (sym holder.has) (aims l k st g i node o to))
      ]

  pub drops : (e : ℕ) (l : Letter) → TakesNext s e l → IsIdleLetter s l → Covered (applied (Drop l.no ∷ []) s)
  drops e l next idle = by_carry s (applied (Drop l.no ∷ []) s) h (λ name st at_st unmarked. at_st) refl
      (λ st g i node o at_st. record {
        letters = λ n m at to. elim (same_or_not l.no n) [
          | inl is ↦ let same : l ≡ m =
              same_some l m next.first.waits (subst (λ (x : ℕ). letter_at s.letters x ≡ Some m) (sym is) at) in
              idle_covers l idle l.no next.first.waits st g i node o (subst (IsTo st i) (sym same) to)
          | inr ne ↦ waits n m (letter_kept l.no s.letters n ne ∙ at) to
        ];
        works = λ f j at to. works f j at to;
        lasts = λ f j at stale is to. lasts f j at stale is to;
      })

  module _ (e : ℕ) (k : Takes s e) where
    abbrev l : Letter
    l = k.letter

    l_stands : LetterStands s l k.meant.fresh.stack
    l_stands = h.shape.letters.newest l.no l k.meant.fresh.stack k.next.first.waits
        (record { in_table = k.meant.fresh.names.in_table; newest = k.meant.fresh.names.newest })

    l_open : IsOpen k.meant.fresh.graph l.node
    l_open = record {
      ready = subst (λ (y : Graph). IsReady y l.node)
          (same_some l_stands.graph k.meant.fresh.graph l_stands.names.its_graph k.meant.fresh.names.its_graph)
          l_stands.ready;
      undone = k.open_;
    }

    module _ (t : StateData) (b : Grounds t) (stacks : t.stacks ≡ s.stacks) (graphs : t.graphs ≡ s.graphs)
        (rows : t.rows ≡ locked_then k.meant.fresh.row e s.rows) (letters : t.letters ≡ cut_letter l.no s.letters)
        (new : job_at t.jobs e ≡ Some (taken_job s e k)) where
      unmarked_then : (name : List ℕ) (st : Stack) → stack_at t.stacks name ≡ Some st → st.status ≡ InProgress
          → stack_at s.stacks name ≡ Some st
      unmarked_then name st at unmarked = subst (λ (y : List Stack). stack_at y name ≡ Some st) stacks at

      stale_then : (m : Letter) → IsStale s.stacks m → IsStale t.stacks m
      stale_then m stale = subst (λ (y : List Stack). IsStale y m) (sym stacks) stale

      row_then : (m : ℕ) → m ≢ k.meant.target → row_at t.rows m ≡ row_at s.rows m
      row_then m ne = subst (λ (y : List Row). row_at y m ≡ row_at s.rows m) (sym rows)
          (rows_else s h e k k.meant.fresh.row k.meant.fresh.found m (λ eq. ne (sym eq)))

      letter_then : (st : Stack) (i : ℕ) (node : Node) (n : ℕ) (m : Letter) → letter_at s.letters n ≡ Some m
          → IsTo st i m → IsCovered t st i node
      letter_then st i node n m at to = elim (same_or_not l.no n) [
        | inl is ↦ let same : l ≡ m =
            same_some l m k.next.first.waits (subst (λ (x : ℕ). letter_at s.letters x ≡ Some m) (sym is) at) in
            works e (taken_job s e k) new (subst (IsTo st i) (sym same) to)
        | inr ne ↦ waits n m (subst (λ (y : List Letter). letter_at y n ≡ Some m) (sym letters)
            (letter_kept l.no s.letters n ne ∙ at)) to
      ]

      -- of a job whose row isn't the target
      job_then : (st : Stack) (g : Graph) (i : ℕ) (node : Node) → OpenAt s st g i node
          → stack_at t.stacks st.name ≡ Some st → (f : ℕ) (j : Job)
          → job_at t.jobs f ≡ Some j → j.row ≢ k.meant.target → IsStale s.stacks j.letter → j.letter.stack ≡ st.name
          → IsTarget s.rows st.name node j.row → IsCovered t st i node
      job_then st g i node o at_st f j at ne stale is to = lasts f j at (stale_then j.letter stale) is
          (target_on s t h b graphs st g i node o at_st j.row (row_then j.row ne) to)

      pub free : HasNoHolder s.jobs k.meant.target
          → ((f : ℕ) (j : Job) → job_at s.jobs f ≡ Some j → job_at t.jobs f ≡ Some j) → Covered t
      free nobody jobs = by_carry s t h unmarked_then graphs (λ st g i node o at_st. record {
        letters = λ n m at to. letter_then st i node n m at to;
        works = λ f j at to. works f j (jobs f j at) to;
        lasts = λ f j at stale is to. job_then st g i node o at_st f j (jobs f j at) (nobody f j at) stale is to;
      })

      -- an open node with the target is the letter's
      same_aim : (st : Stack) (g : Graph) (i : ℕ) (node : Node) → OpenAt s st g i node → l.stack ≡ st.name
          → IsTarget s.rows st.name node k.meant.target
          → IsCovered t st i node
      same_aim st g i node o is to =
          works e (taken_job s e k) new (record { stack = is; newest = newest; node_is = place }) where
            own : k.meant.fresh.stack ≡ st
            own = same_some k.meant.fresh.stack st k.meant.fresh.names.in_table
                (subst (λ (y : List ℕ). stack_at s.stacks y ≡ Some st) (sym is) o.in_table)

            newest : l.trav ≡ st.trav
            newest = sym k.meant.fresh.names.newest ∙ ap (λ (y : Stack). y.trav) own

            graph : k.meant.fresh.graph ≡ g
            graph = same_some k.meant.fresh.graph g
                (subst (λ (y : List ℕ). graph_at s.graphs y ≡ Some k.meant.fresh.graph)
                is k.meant.fresh.names.its_graph) o.its_graph

            place : l.node ≡ i
            place = same_node s h st o.in_table g o.its_graph l.node i k.meant.target k.meant.fresh.node node
                (subst (λ (y : Graph). IsNode y l.node k.meant.fresh.node) graph k.meant.fresh.names.its_node)
                o.its_node
                (subst (λ (y : Graph). IsOpen y l.node) graph l_open) o.open_
                (subst (λ (y : List ℕ). IsTarget s.rows y k.meant.fresh.node k.meant.target) is k.meant.to) to

      pub stolen : (f : ℕ) (j : Job) → IsHolder s.jobs k.meant.target f j
          → ((m : ℕ) (p : Job) → job_at s.jobs m ≡ Some p → f ≢ m → job_at t.jobs m ≡ Some p) → Covered t
      stolen f j holder jobs = by_carry s t h unmarked_then graphs (λ st g i node o at_st. record {
        letters = λ n m at to. letter_then st i node n m at to;
        works = λ m p at to. elim (same_or_not f m) [
          | inl is ↦ same_aim st g i node o (letter_owner p (sym (mine m p is at)) ∙ to.stack)
              (works_at st g i node o m p at (sym (mine m p is at)) to)
          | inr ne ↦ works m p (jobs m p at ne) to
        ];
        lasts = λ m p at stale is to. elim (same_or_not f m) [
          | inl same ↦ same_aim st g i node o (letter_owner p (sym (mine m p same at)) ∙ is)
              (subst (λ (x : ℕ). IsTarget s.rows st.name node x)
              (ap (λ (y : Job). y.row) (sym (mine m p same at)) ∙ holder.has) to)
          | inr ne ↦ job_then st g i node o at_st m p (jobs m p at ne)
              (λ eq. ne (h.links.locked.apart f m j p holder.its at (holder.has ∙ sym eq))) stale is to
        ];
      }) where
        mine : (m : ℕ) (p : Job) → f ≡ m → job_at s.jobs m ≡ Some p → j ≡ p
        mine m p is at = same_some j p holder.its (subst (λ (n : ℕ). job_at s.jobs n ≡ Some p) (sym is) at)

        -- the letter's stack is the job's
        target_owner : (x : Node) → IsNode k.meant.fresh.graph l.node x → IsTarget s.rows l.stack x k.meant.target
            → l.stack ≡ j.letter.stack
        target_owner (C n) at aim = h.links.owned.one k.meant.target l.stack j.letter.stack
            (by_node k.meant.fresh.graph l.node (C n) k.meant.fresh.names.its_graph at
            (cleanup_target s.rows l.stack n k.meant.target aim))
            (by_job f j holder.its holder.has refl)
        target_owner (U word n) at aim =
            let called : k.meant.fresh.stack.name ≡ l.stack =
            stack-key s.stacks l.stack k.meant.fresh.stack k.meant.fresh.names.in_table in
            let in_table = subst (λ (y : List ℕ). stack_at s.stacks y ≡ Some k.meant.fresh.stack)
            (sym called) k.meant.fresh.names.in_table in
            let graph = subst (λ (y : List ℕ). graph_at s.graphs y ≡ Some k.meant.fresh.graph)
            (sym called) k.meant.fresh.names.its_graph in
            let (q, at_q, fits) = aimed s h k.meant.fresh.stack in_table k.meant.fresh.graph graph l.node n
            k.meant.target word at
            (subst (λ (y : List ℕ). IsTarget s.rows y (U word n) k.meant.target) (sym called) aim) in
            h.links.owned.one k.meant.target l.stack j.letter.stack (by_row q at_q (fits.is.stack_is ∙ called))
            (by_job f j holder.its holder.has refl)

        letter_owner : (p : Job) → p ≡ j → l.stack ≡ p.letter.stack
        letter_owner p is = target_owner k.meant.fresh.node k.meant.fresh.names.its_node k.meant.to
            ∙ ap (λ (y : Job). y.letter.stack) (sym is)

        works_at : (st : Stack) (g : Graph) (i : ℕ) (node : Node) → OpenAt s st g i node → (m : ℕ) (p : Job)
            → job_at s.jobs m ≡ Some p → p ≡ j
            → IsTo st i p.letter → IsTarget s.rows st.name node k.meant.target
        works_at st g i node o m p at is to =
            let w : JobStands s p st = h.shape.jobs.newest m p st at (to_is_newest s st i p.letter o.in_table to) in
            let graph : w.graph ≡ g = same_some w.graph g
            (subst (λ (y : List ℕ). graph_at s.graphs y ≡ Some w.graph) to.stack w.names.its_graph) o.its_graph in
            let place : w.node ≡ node = same_some w.node node (subst (λ (y : Graph). IsNode y i w.node) graph
            (subst (λ (n : ℕ). IsNode w.graph n w.node) to.node_is w.names.its_node)) o.its_node in
            subst (λ (x : ℕ). IsTarget s.rows st.name node x) (ap (λ (y : Job). y.row) is ∙ holder.has)
            (subst (λ (x : Node). IsTarget s.rows st.name x p.row) place w.fits.target)

    jobless : (f : ℕ) (j : Job) → job_at s.jobs f ≡ Some j → e ≢ f
    jobless f j at is = clash (subst (λ (n : ℕ). job_at s.jobs n ≡ None) is k.next.jobless) at where
      clash : {x : Option Job} → x ≡ None → x ≡ Some j → ⊥
      clash u v = cc

    pub takes : HasNoHolder s.jobs k.meant.target
        → Grounds (applied (lock k.meant.fresh.row e (Drop k.letter.no ∷ PutJob (taken_job s e k) ∷ [])) s)
        → Covered (applied (lock k.meant.fresh.row e (Drop k.letter.no ∷ PutJob (taken_job s e k) ∷ [])) s)
    takes nobody = by k.meant.fresh.row refl where
      stay : (f : ℕ) (j : Job) → job_at s.jobs f ≡ Some j → job_at (put_job (taken_job s e k) s.jobs) f ≡ Some j
      stay f j at = job_else (taken_job s e k) s.jobs f (jobless f j at) ∙ at

      by : (r : Option Row) → k.meant.fresh.row ≡ r
          → Grounds (applied (lock r e (Drop k.letter.no ∷ PutJob (taken_job s e k) ∷ [])) s)
          → Covered (applied (lock r e (Drop k.letter.no ∷ PutJob (taken_job s e k) ∷ [])) s)
      by None is b = free (applied (Drop k.letter.no ∷ PutJob (taken_job s e k) ∷ []) s) b refl refl
          (ap (λ (y : Option Row). locked_then y e s.rows) (sym is)) refl
          (job_here (taken_job s e k) s.jobs) nobody stay
      by (Some r) is b =
          free (applied (PutRow (locked e r) ∷ Drop k.letter.no ∷ PutJob (taken_job s e k) ∷ []) s) b refl refl
          (ap (λ (y : Option Row). locked_then y e s.rows) (sym is)) refl
          (job_here (taken_job s e k) s.jobs) nobody stay

    pub steals : (f : ℕ) (j : Job) → IsHolder s.jobs k.meant.target f j
        → Grounds (applied (lock k.meant.fresh.row e (Drop k.letter.no ∷ EndJob f ∷ PutJob (taken_job s e k) ∷ [])) s)
        → Covered (applied (lock k.meant.fresh.row e (Drop k.letter.no ∷ EndJob f ∷ PutJob (taken_job s e k) ∷ [])) s)
    steals f j holder = by k.meant.fresh.row refl where
      stay : (m : ℕ) (p : Job) → job_at s.jobs m ≡ Some p → f ≢ m
          → job_at (put_job (taken_job s e k) (cut_job f s.jobs)) m ≡ Some p
      stay m p at ne = job_else (taken_job s e k) (cut_job f s.jobs) m (jobless m p at) ∙ (job_kept f s.jobs m ne ∙ at)

      by : (r : Option Row) → k.meant.fresh.row ≡ r
          → Grounds (applied (lock r e (Drop k.letter.no ∷ EndJob f ∷ PutJob (taken_job s e k) ∷ [])) s)
          → Covered (applied (lock r e (Drop k.letter.no ∷ EndJob f ∷ PutJob (taken_job s e k) ∷ [])) s)
      by None is b = stolen (applied (Drop k.letter.no ∷ EndJob f ∷ PutJob (taken_job s e k) ∷ []) s) b refl refl
          (ap (λ (y : Option Row). locked_then y e s.rows) (sym is)) refl
          (job_here (taken_job s e k) (cut_job f s.jobs)) f j holder stay
      by (Some r) is b = stolen
          (applied (PutRow (locked e r) ∷ Drop k.letter.no ∷ EndJob f ∷ PutJob (taken_job s e k) ∷ []) s) b refl refl
          (ap (λ (y : Option Row). locked_then y e s.rows) (sym is)) refl
          (job_here (taken_job s e k) (cut_job f s.jobs)) f j holder stay
