-- The end of a job: its node is done, and for each letter that is sent a node is ready that wasn't.
use Rattle.std.proofs.Common.{◌≡◌, ◌≢◌, ◌⊎◌, inl, inr, ◌<◌, ◌≤◌, ℕ, ◌+◌, suc, Bool, true, false, ◌||◌, ◌==◌, List, []}
use Rattle.std.proofs.Common.{◌∷◌, length, map, Option, Some, refl, sym, ap, subst, ◌∙◌, arith}
use Rattle.std.specs.Prelude.{Contains, slice_get}
use Rattle.heat_plan.specs.Plans.{PlanData}
use Rattle.heat_plan.specs.declared.phase.Status.TheVariants.{InProgress}
use Rattle.heat_plan.specs.declared.token.Token.{Token}
use Rattle.dep_graph.specs.Lists.{IsRising}
use Rattle.traversal_graph.specs.declared.shape.TravGraph.{TravGraph}
use Rattle.sync_points.specs.declared.point.Input.{Input}
use Rattle.mail_table.specs.Mails.{cut_job, job_at, letter_at}
use Rattle.mail_table.specs.declared.mail.Job.{Job}
use Rattle.mail_table.specs.declared.mail.Letter.{Letter}
use Rattle.mail_table.specs.declared.mail.Stage.{Stage}
use Rattle.mail_table.specs.declared.mail.Stage.TheVariants.{Asking, Ending, Polling, Taken}
use Rattle.core_state.specs.Reads.{IsDone, IsReady}
use Rattle.core_state.specs.State.{StateData, graph_at, past_at, stack_at}
use Rattle.core_state.specs.declared.graph.Graph.{Graph}
use Rattle.core_state.specs.declared.past.Past.{Past}
use Rattle.core_state.specs.declared.stack.Stack.{Stack}
use Rattle.step_relation.specs.Finishes.{Finishes, given_input, graph_then, ready_letters}
use Rattle.step_relation.specs.Freshness.{plan_of}
use Rattle.step_relation.specs.Given.{Given}
use Rattle.step_relation.specs.Inputs.{passed}
use Rattle.step_relation.specs.Orders.{back_after, past_or}
use Rattle.step_relation.specs.Writes.{letter_to, letters_to}
use Rattle.step_relation.specs.GraphFits.{GraphFits}
use Rattle.step_relation.specs.MailFits.{IsStale}
use Rattle.step_relation.specs.Sound.{Standing}
use Rattle.history_laws.proofs.tables.Facts.{job_fits, named_fits}
use Rattle.history_laws.proofs.tables.Rows.{letter-key, stack-key, text_or_not}
use Rattle.next_laws.proofs.Listings.{cons_cases, in_head, in_tail, no_member}
use Rattle.graph_laws.proofs.graphs.Gathers.{node_at}
use Rattle.graph_laws.proofs.graphs.Kept.{sent}
use Rattle.graph_laws.proofs.graphs.Passed.{after_is, passed_is}
use Rattle.graph_laws.proofs.whole.Below.{ready_still}
use Rattle.graph_laws.proofs.whole.Below.{sent_found}
use Rattle.bound_laws.specs.Bound.{IsWork}
use Rattle.bound_laws.specs.Counts.{AreOnce}
use Rattle.bound_laws.specs.Rolls.{MayRoll, RollLetter, RollNode}
use Rattle.bound_laws.specs.Work.{IsUnready}
use Rattle.bound_laws.proofs.Falls.{PollsFall}
use Rattle.bound_laws.proofs.Forms.{RowForm, form_were, is_all, jobs_cut, may_or_not, own_gone}
use Rattle.bound_laws.proofs.Own.{ends_late, ends_left, ends_roll, ends_sum, other_polls, stage_sum}
use Rattle.bound_laws.proofs.Rows.{far_falls, rows_fall}
use Rattle.bound_laws.proofs.Sets.{at_most, some_fewer, some_more}
use Rattle.bound_laws.proofs.Still.{Eases}

done_still : (g : Graph) (i : ℕ) (x : Input) (succs : List ℕ) (k : ℕ) → IsDone g k → IsDone (passed g i x succs) k
done_still g i x succs k d = subst (λ (y : Graph). IsDone y k) (sym (passed_is g i x succs)) (
    let (p, at, after) = after_is g i x succs k d.point d.there in
    record { point = p; there = at; done = after.done ∙ or_true (k == i) d.point.done d.done })
  where
    or_true : (a b : Bool) → b ≡ true → (a || b) ≡ true
    or_true true b is = refl
    or_true false b is = is

-- what is left of the state
pub record FinishEnd (s : StateData) (e : ℕ) (k : Finishes s e) (t : StateData) : Type 0 where
  pub live : t.live ≡ s.live
  pub jobs : t.jobs ≡ cut_job e s.jobs
  pub letters : t.letters ≡ sent (ready_letters s e k) s.letters
  pub rows : RowForm s t
  pub stacks : (name : List ℕ) (st : Stack) → stack_at t.stacks name ≡ Some st
      → (o : Stack) × (stack_at s.stacks name ≡ Some o) × (st.status ≡ InProgress → st ≡ o)
  pub pasts : (name : List ℕ) (st : Stack) → stack_at t.stacks name ≡ Some st
      → past_at t.pasts name ≡ past_at s.pasts name
  pub mine : (g : Graph) → graph_at t.graphs k.job.letter.stack ≡ Some g → graph_then s e k ≡ g
  pub others : (name : List ℕ) (g : Graph) → name ≢ k.job.letter.stack → graph_at t.graphs name ≡ Some g
      → graph_at s.graphs name ≡ Some g
  pub late : (f : ℕ) (j : Job) → job_at t.jobs f ≡ Some j → job_at s.jobs f ≡ Some j → IsStale t.stacks j.letter
      → IsStale s.stacks j.letter

module _ (before after : Token → ℕ) (s : StateData) (e : ℕ) (given : Given) (falls : PollsFall before after s e given)
    (hs : Standing s) (k : Finishes s e)
    (t : StateData) (ht : Standing t) (n m : ℕ) (a : IsWork before s n) (b : IsWork after t m)
    (end : FinishEnd s e k t) where
  abbrev own : List ℕ
  own = k.job.letter.stack

  abbrev g : Graph
  g = k.fresh.graph

  abbrev i : ℕ
  i = k.job.letter.node

  abbrev then : Graph
  then = graph_then s e k

  may : (name : List ℕ) (st : Stack) → MayRoll t name st → MayRoll s name st
  may name st x = let (o, at, same) = end.stacks name st x.in_table in record {
    in_table = subst (λ (y : Stack). stack_at s.stacks name ≡ Some y) (sym (same x.unmarked)) at;
    unmarked = x.unmarked;
    rollback = ap (λ (p : Option Past). (past_or name p).rollback) (sym (end.pasts name st x.in_table)) ∙ x.rollback;
  }

  alike : then.graph ≡ g.graph
  alike = ap (λ (y : Graph). y.graph) (passed_is g i (given_input s e k) k.succs)

  ease : Eases s t
  ease = record {
    may = may;
    late = end.late;
    graphs = λ name x at. elim (text_or_not name own) [
      | inl is ↦ (let same = end.mine x (subst (λ (y : List ℕ). graph_at t.graphs y ≡ Some x) is at) in (
        g,
        subst (λ (y : List ℕ). graph_at s.graphs y ≡ Some g) (sym is) k.fresh.names.its_graph,
        sym alike
            ∙ ap (λ (y : Graph). y.graph) same,
      ))
      | inr ne ↦ (x, end.others name x ne at, refl)
    ];
    back = λ name st x. let key = stack-key t.stacks name st x.in_table in
        ap (λ (p : Option Past). plan_of (back_after st (past_or st.name p)))
        (subst (λ (y : List ℕ). past_at t.pasts y ≡ past_at s.pasts y) (sym key) (end.pasts name st x.in_table));
  }

  -- nodes
  unready : (x : List ℕ × ℕ) → IsUnready t x → IsUnready s x
  unready x u = let (o, at, _) = end.stacks x.0 u.stack u.in_table in elim (text_or_not x.0 own) [
    | inl is ↦ (let same : then ≡ u.graph = end.mine u.graph
        (subst (λ (y : List ℕ). graph_at t.graphs y ≡ Some u.graph) is u.its_graph) in record {
          stack = o;
          graph = g;
          node = u.node;
          in_table = at;
          its_graph = subst (λ (y : List ℕ). graph_at s.graphs y ≡ Some g) (sym is) k.fresh.names.its_graph;
          its_node = subst (λ (y : TravGraph). slice_get y.nodes x.1 ≡ Some u.node) alike
              (subst (λ (y : Graph). slice_get y.graph.nodes x.1 ≡ Some u.node) (sym same) u.its_node);
          unready =
              λ r. u.unready (subst (λ (y : Graph). IsReady y x.1) same
              (ready_still g i (given_input s e k) k.succs x.1 r));
          undone =
              λ d. u.undone (subst (λ (y : Graph). IsDone y x.1) same
              (done_still g i (given_input s e k) k.succs x.1 d));
        })
    | inr ne ↦ record {
      stack = o;
      graph = u.graph;
      node = u.node;
      in_table = at;
      its_graph = end.others x.0 u.graph ne u.its_graph;
      its_node = u.its_node;
      unready = u.unready;
      undone = u.undone;
    }
  ]

  -- the nodes that are ready then weren't
  abbrev places : List ℕ → List (List ℕ × ℕ)
  places ks = map (λ (x : ℕ). (own, x)) ks

  place_was : (ks : List ℕ) (x : List ℕ × ℕ) → Contains (places ks) x → (y : ℕ) × Contains ks y × (x ≡ (own, y))
  place_was [] x c = absurd (no_member x c)
  place_was (y ∷ ks) x c = elim (cons_cases (places ks) (own, y) x c) [
    | inl is ↦ (y, in_head ks y, is)
    | inr later ↦ let (z, at, is) = place_was ks x later in (z, in_tail ks y z at, is)
  ]

  once_rising : (ks : List ℕ) → IsRising ks → AreOnce (places ks)
  once_rising [] up = tt
  once_rising (y ∷ ks) up = (
    (λ c. let (z, (j, lt, is), same) = place_was ks (own, y) c in
        let less = up 0 (suc j) z (omega arith) (omega (arith, lt)) in
        let e : y ≡ z = ap (λ (p : List ℕ × ℕ). p.1) same in omega (arith, less, e, is)),
    once_rising ks (λ p q d lt inside. up (suc p) (suc q) d (omega (arith, lt)) (omega (arith, inside))),
  )

  fits : GraphFits s k.fresh.stack g
  fits = named_fits s hs k.job.letter k.fresh.stack g k.fresh.node k.fresh.names

  was_unready : (y : ℕ) → Contains k.ready y → IsUnready s (own, y)
  was_unready y c =
      let (behind, _) = (k.ready_are.each y).0 c in
      let edge = (k.behind.each y).0 behind in
      let (node, at) = node_at g.graph.nodes y (fits.nodes.ends i y edge).1 in
      let undone_i = (job_fits s hs e k.job k.fresh.stack g k.fresh.node k.works.its k.fresh.names).undone in
      let unready_y : ¬ IsReady g y = λ r. let d = r i edge in
      let stands = fits.inputs.stand y d.point d.input d.there d.among in
      undone_i (subst (IsDone g) d.from stands.done) in record {
        stack = k.fresh.stack;
        graph = g;
        node = node;
        in_table = k.fresh.names.in_table;
        its_graph = k.fresh.names.its_graph;
        its_node = at;
        unready = unready_y;
        undone = λ d. unready_y (fits.inputs.ready y d);
      }

  isnt_unready : (y : ℕ) → Contains k.ready y → ¬ IsUnready t (own, y)
  isnt_unready y c u =
      let (_, ready) = (k.ready_are.each y).0 c in
      u.unready (subst (λ (z : Graph). IsReady z y) (end.mine u.graph u.its_graph) ready)

  nodes_sum : b.nodes + length (places k.ready) ≤ a.nodes
  nodes_sum = some_fewer b.nodes_are a.nodes_are (places k.ready) (once_rising k.ready k.ready_are.rising) unready
      (λ x c. let (y, at, is) = place_was k.ready x c in
      (subst (IsUnready s) (sym is) (was_unready y at), λ u. isnt_unready y at (subst (IsUnready t) is u)))

  places_length : (ks : List ℕ) → length (places ks) ≡ length ks
  places_length [] = refl
  places_length (y ∷ ks) = ap suc (places_length ks)

  -- letters
  abbrev numbers : List ℕ
  numbers = map (λ (l : Letter). l.no) (ready_letters s e k)

  numbers_length : (ls : List Letter) → length (map (λ (l : Letter). l.no) ls) ≡ length ls
  numbers_length [] = refl
  numbers_length (l ∷ ls) = ap suc (numbers_length ls)

  letters_length : (st : Stack) (first : ℕ) (ks : List ℕ) → length (letters_to st first ks) ≡ length ks
  letters_length st first [] = refl
  letters_length st first (y ∷ ks) = ap suc (letters_length st (first + 1) ks)

  in_numbers : (ls : List Letter) (l : Letter) → Contains ls l → Contains (map (λ (x : Letter). x.no) ls) l.no
  in_numbers [] l c = absurd (no_member l c)
  in_numbers (x ∷ ls) l c = elim (cons_cases ls x l c) [
    | inl is ↦ subst (λ (y : Letter). Contains (x.no ∷ map (λ (z : Letter). z.no) ls) y.no) (sym is)
        (in_head (map (λ (z : Letter). z.no) ls) x.no)
    | inr later ↦ in_tail (map (λ (z : Letter). z.no) ls) x.no l.no (in_numbers ls l later)
  ]

  count_is : length numbers ≡ length k.ready
  count_is = numbers_length (ready_letters s e k) ∙ letters_length k.fresh.stack s.next.letter k.ready

  to_own : (st : Stack) (first : ℕ) (ks : List ℕ) (l : Letter) → Contains (letters_to st first ks) l → l.stack ≡ st.name
  to_own st first [] l c = absurd (no_member l c)
  to_own st first (y ∷ ks) l c = elim (cons_cases (letters_to st (first + 1) ks) (letter_to st first y) l c) [
    | inl is ↦ ap (λ (z : Letter). z.stack) is
    | inr later ↦ to_own st (first + 1) ks l later
  ]

  found_then : (x : ℕ) (l : Letter) → letter_at t.letters x ≡ Some l
      → (letter_at s.letters x ≡ Some l) ⊎ Contains (ready_letters s e k) l
  found_then x l at = sent_found (ready_letters s e k) s.letters x l
      (subst (λ (ls : List Letter). letter_at ls x ≡ Some l) end.letters at)

  letters_sum : b.letters ≤ a.letters + length numbers
  letters_sum = some_more b.letters_are a.letters_are numbers (λ x y. elim (found_then x y.letter y.at) [
    | inl old ↦ inl (record { letter = y.letter; at = old })
    | inr new ↦ inr (subst (Contains numbers) (letter-key t.letters x y.letter y.at)
        (in_numbers (ready_letters s e k) y.letter new))
  ])

  roll_was : (x : ℕ) (y : RollLetter t x) → letter_at s.letters x ≡ Some y.letter → RollLetter s x
  roll_was x y at = record {
    letter = y.letter;
    at = at;
    stack = y.stack;
    may = may y.letter.stack y.stack y.may;
    newest = y.newest;
  }

  roll_node_was : (x : List ℕ × ℕ) → RollNode t x → RollNode s x
  roll_node_was x y = record { stack = y.stack; may = may x.0 y.stack y.may; node = unready x y.node }

  rolls_sum : b.rolls_are.letters + b.rolls_are.nodes ≤ a.rolls_are.letters + a.rolls_are.nodes
  rolls_sum = elim (may_or_not t own) [
    | inl rolls ↦ (let l = some_more b.rolls_are.letters_are a.rolls_are.letters_are numbers
        (λ x y. elim (found_then x y.letter y.at) [
          | inl old ↦ inl (roll_was x y old)
          | inr new ↦ inr (subst (Contains numbers) (letter-key t.letters x y.letter y.at)
              (in_numbers (ready_letters s e k) y.letter new))
        ]) in
        let r = some_fewer b.rolls_are.nodes_are a.rolls_are.nodes_are (places k.ready)
        (once_rising k.ready k.ready_are.rising) roll_node_was
        (λ x c. let (y, at, is) = place_was k.ready x c in (
          subst (RollNode s) (sym is)
              (record { stack = rolls.0; may = may own rolls.0 rolls.1; node = was_unready y at }),
          λ u. isnt_unready y at (subst (IsUnready t) is u.node),
        )) in
        let c = count_is in let d = places_length k.ready in omega (arith, l, r, c, d))
    | inr never ↦
        (let l = at_most b.rolls_are.letters_are a.rolls_are.letters_are (λ x y. elim (found_then x y.letter y.at) [
          | inl old ↦ roll_was x y old
          | inr new ↦ absurd (never y.stack (subst (λ (name : List ℕ). MayRoll t name y.stack)
              (to_own k.fresh.stack s.next.letter k.ready y.letter new
              ∙ stack-key s.stacks own k.fresh.stack k.fresh.names.in_table) y.may))
        ]) in
        let r = at_most b.rolls_are.nodes_are a.rolls_are.nodes_are roll_node_was in omega (arith, l, r))
  ]

  items_fall : b.rolls_are.items ≤ a.rolls_are.items
  items_fall = at_most b.rolls_are.items_are a.rolls_are.items_are (λ x y. record {
    stack = y.stack;
    may = may x.0 y.stack y.may;
    within = subst (λ (p : PlanData). x.1 < length p.items) (ease.back x.0 y.stack y.may) y.within;
  })

  pub finishes : m < n
  finishes =
      let were = jobs_cut s t end.live e end.jobs in
      let others = other_polls before after s e given hs falls in
      let gone = own_gone s t e end.jobs in
      let rows = form_were s t end.rows in
      let x0 = ends_sum before after s t hs e were rows others n m a b k.job k.works.its k.works.live gone
      k.job.stage refl in
      let x1 = ends_left before after s t hs ease e were rows others n m a b k.job k.works.its k.works.live gone in
      let x2 = ends_late before after s t hs ease e were rows others n m a b k.job k.works.its k.works.live gone in
      let x3 = ends_roll before after s t hs ease e were rows others n m a b k.job k.works.its gone in
      let l1 = letters_sum in let l2 = rolls_sum in let n1 = nodes_sum in let c = count_is in
      let d = places_length k.ready in
      let r1 = items_fall in
      let r2 = rows_fall before after s t ease n m a b end.rows.full in
      let r3 = far_falls before after s t ease hs ht end.rows.near n m a b in
      let x = is_all before s n a in let y = is_all after t m b in
      let some = some_sum k.job.stage in
      omega (arith, x, y, x0, some, x1, x2, x3, l1, l2, n1, c, d, r1, r2, r3)
    where
      some_sum : (x : Stage) → 1 ≤ stage_sum x
      some_sum Taken = omega arith
      some_sum Asking = omega arith
      some_sum Polling = omega arith
      some_sum Ending = omega arith
