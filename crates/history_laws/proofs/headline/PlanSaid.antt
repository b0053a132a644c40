-- A fault of the plan is caused by it: nobody was called, and the facts of what the item needs were told last.
use Rattle.std.proofs.Common.{List, ap, inl, inr, refl, subst, sym, ◌∙◌}
use Rattle.std.proofs.lemmas.List.Elements.{Contains-append_right}
use Rattle.std.specs.List.{AllZip}
use Rattle.std.specs.Prelude.{Contains, List, Some, [], slice_get, ℕ, ◌++◌, ◌∷◌, ◌≡◌, ◌≢◌, ◌≤◌, ◌⊎◌}
use Rattle.heat_value.specs.declared.path.Step.{Step}
use Rattle.heat_plan.specs.declared.calls.Answered.{Answered}
use Rattle.heat_plan.specs.declared.calls.Request.{Request}
use Rattle.heat_plan.specs.declared.facts.KnownFacts.{KnownFacts}
use Rattle.heat_plan.specs.declared.phase.Act.TheVariants.{Init}
use Rattle.heat_plan.specs.declared.token.Token.{Token}
use Rattle.traversal_graph.specs.declared.shape.Node.TheVariants.{U}
use Rattle.provider.specs.Table.{TokenState}
use Rattle.row_table.specs.Rows.{row_at}
use Rattle.row_table.specs.declared.row.Row.{Row}
use Rattle.mail_table.specs.Mails.{job_at}
use Rattle.mail_table.specs.declared.mail.Job.{Job}
use Rattle.mail_table.specs.declared.mail.Stage.{Stage}
use Rattle.mail_table.specs.declared.mail.Stage.TheVariants.{Taken}
use Rattle.step_relation.specs.Reads.{IsReady, item_at}
use Rattle.step_relation.specs.State.{StateData, graph_at, stack_at}
use Rattle.step_relation.specs.declared.Actor.TheVariants.{Engine}
use Rattle.step_relation.specs.declared.Entry.{Entry}
use Rattle.step_relation.specs.declared.MailWrite.{MailWrite}
use Rattle.step_relation.specs.declared.MailWrite.TheVariants.{Ended}
use Rattle.step_relation.specs.declared.RowWrite.{RowWrite}
use Rattle.step_relation.specs.declared.RowWrite.TheVariants.{Set}
use Rattle.step_relation.specs.declared.Graph.{Graph}
use Rattle.step_relation.specs.declared.Stack.{Stack}
use Rattle.eval_words.specs.Resolve.{Fault, resolve}
use Rattle.step_relation.specs.Asks.{fault_of}
use Rattle.step_relation.specs.Begins.{Begins, left_entries}
use Rattle.step_relation.specs.Freshness.{plan_of}
use Rattle.step_relation.specs.Rows.{token_of, unlocked}
use Rattle.step_relation.specs.Runs.{ResolvesTo}
use Rattle.step_relation.specs.Writes.{entry_of, mail_entry, rows_entry}
use Rattle.step_relation.specs.Caused.{EndsWithCall, IsCaused, IsLastFactOf, by_plan}
use Rattle.step_relation.specs.Could.{IsPossible, could_of}
use Rattle.step_relation.specs.Newest.{latest_of}
use Rattle.step_relation.specs.Opening.{Opening}
use Rattle.step_relation.specs.Stored.{released}
use Rattle.step_relation.specs.Tokens.{token_at, tokens_of}
use Rattle.step_relation.specs.GraphFits.{IsNode, graph_of, graph_or}
use Rattle.step_relation.specs.MailFits.{IsUnderWay, JobStands, asks, polls}
use Rattle.step_relation.specs.Sound.{Sound}
use Rattle.step_relation.specs.Tells.{IsCalling}
use Rattle.history_laws.proofs.tables.Rows.{same_some, stack-key}
use Rattle.history_laws.proofs.tells.Appends.{released-append}
use Rattle.history_laws.proofs.tells.Lasts.{split}
use Rattle.history_laws.proofs.tells.Silence.{AreUncalling, could-silent, newest-silent}
use Rattle.history_laws.proofs.agrees.Goes.{uncalling_at}
use Rattle.history_laws.proofs.headline.FitsSound.{alive_row}
use Rattle.history_laws.proofs.headline.Items.{asked_among}
use Rattle.history_laws.proofs.headline.Made.{GivesFacts, IsMadeRow, living_as, made_alone, made_row, needs_given, not_given}
use Rattle.history_laws.proofs.headline.Made.{token_is}
use Rattle.step_relation.specs.declared.What.TheVariants as what
use Rattle.provider.proofs.Lists.{here}

-- behind rows and mail of a job that begins, no call is the last
no_call_last : (o : Opening) (h : List Entry) (s : StateData) (x : Sound o h s) (e : ℕ) (j : Job)
    → job_at s.jobs e ≡ Some j → j.stage ≡ Taken
    → (rows mail : Entry) → AreUncalling (rows ∷ mail ∷ []) → (token : Token) (request : Request) (given : Answered)
    → ¬ EndsWithCall (Engine e) (h ++ rows ∷ mail ∷ []) token request given
no_call_last o h s x e j its stage rows mail none token request given k =
    by (split h (rows ∷ mail ∷ []) k.earlier (rows_entry (Engine e) k.rows ++ mail_entry (Engine e) k.mail) call
    k.entries) where
      call : Entry
      call = entry_of (Engine e) (what.Call token request given)

      not_calling : h ≡ k.earlier ++ entry_of (Engine e) (what.Call token request given) ∷ [] → ⊥
      not_calling is = on (x.tells.calling k.earlier e token request given is) where
        on : IsCalling s e → ⊥
        on c =
            let job_is : c.job ≡ j = same_some c.job j c.its its in
            let stage_is : c.job.stage ≡ Taken = ap (λ (y : Job). y.stage) job_is ∙ stage in
            apart_ c.job.stage c.stage stage_is where
              apart_ : (st : Stage) → IsUnderWay st → st ≡ Taken → ⊥
              apart_ _ asks is = cc
              apart_ _ polls is = cc

      too_long : (rs : List RowWrite) (ws : List MailWrite) (y : Entry) (ys : List Entry)
          → rows_entry (Engine e) rs ++ mail_entry (Engine e) ws ≡ (y ∷ ys) ++ rows ∷ mail ∷ [] → ⊥
      too_long [] [] y ys is = cc
      too_long [] (w ∷ ws) y [] is = cc
      too_long [] (w ∷ ws) y (z ∷ zs) is = cc
      too_long (r ∷ rs) [] y [] is = cc
      too_long (r ∷ rs) [] y (z ∷ zs) is = cc
      too_long (r ∷ rs) (w ∷ ws) y [] is = cc
      too_long (r ∷ rs) (w ∷ ws) y (z ∷ []) is = cc
      too_long (r ∷ rs) (w ∷ ws) y (z ∷ v ∷ vs) is = cc

      by : ((rest : List Entry) × (h ≡ k.earlier ++ call ∷ rest) ×
          (rows_entry (Engine e) k.rows ++ mail_entry (Engine e) k.mail ≡ rest ++ rows ∷ mail ∷ []))
          ⊎ ((mid : List Entry) × (rows ∷ mail ∷ [] ≡ mid ++ call ∷
          (rows_entry (Engine e) k.rows ++ mail_entry (Engine e) k.mail)) × (k.earlier ≡ h ++ mid)) → ⊥
      by (inl ([], h_is, tail)) = not_calling h_is
      by (inl (y ∷ ys, h_is, tail)) = too_long k.rows k.mail y ys tail
      by (inr (mid, is, earlier)) = absurd (uncalling_at (rows ∷ mail ∷ []) call none
          (subst (λ (es : List Entry). Contains es call) (sym is)
          (Contains-append_right mid (call ∷ (rows_entry (Engine e) k.rows ++ mail_entry (Engine e) k.mail)) call
          (here call call (rows_entry (Engine e) k.rows ++ mail_entry (Engine e) k.mail) refl))))

module _ (o : Opening) (h : List Entry) (s : StateData) (x : Sound o h s) (possible : IsPossible o h) (st : Stack)
    (in_table : stack_at s.stacks st.name ≡ Some st) where
  -- the facts of a done node's target are the last of its name
  last_fact : (first : List Entry) → AreUncalling first → released o (h ++ first) ≡ released o h
      → (need : List ℕ) (known : KnownFacts)
      → GivesFacts o h s x possible st in_table need known → IsLastFactOf o (h ++ first) st.name need known
  last_fact first uncalling tokens need known k = record {
    named = k.named;
    row = k.row.no;
    alive = (
      refl,
      record {
        lives = record { it = living_as k.row; among = among };
        owned = λ c. not_given o h s x possible k.row.no k.row m.current.found
            (subst (λ (y : Token). Contains (released o h) y) (sym token)
            (subst (λ (ts : List Token). Contains ts (token_at st.name need k.row.no)) tokens c));
      },
    );
    it = living_as k.row;
    state = among;
    facts = k.facts;
    greatest = greatest;
  } where
    m : IsMadeRow s st need k.row
    m = made_row o h s x possible st in_table k.node need k.row k.aims k.done

    token : token_of k.row ≡ token_at st.name need k.row.no
    token = token_is o h s x possible st in_table need k.row m.current

    states : could_of o (h ++ first) (token_at st.name need k.row.no) ≡ Some (living_as k.row) ∷ []
    states = could-silent o h first (token_at st.name need k.row.no) uncalling
        ∙ subst (λ (y : Token). could_of o h y ≡ Some (living_as k.row) ∷ []) token
        (made_alone o h s x possible st in_table need k.row m)

    among : Contains (could_of o (h ++ first) (token_at st.name need k.row.no)) (Some (living_as k.row))
    among = subst (λ (ss : List TokenState). Contains ss (Some (living_as k.row))) (sym states)
        (here (Some (living_as k.row)) (Some (living_as k.row)) [] refl)

    greatest : (other : ℕ) → tokens_of o (h ++ first) st.name (token_at st.name need other) → other ≤ k.row.no
    greatest other (own, alive) = by (alive_row o h s x possible (token_at st.name need other) (record {
      lives = record {
        it = alive.lives.it;
        among = subst (λ (ss : List TokenState). Contains ss
            (Some alive.lives.it))
            (could-silent o h first (token_at st.name need other) uncalling) alive.lives.among;
      };
      owned = λ c. alive.owned (subst (λ (ts : List Token). Contains ts (token_at st.name need other))
          (sym tokens) c);
    })) where
      by : (q : Row) × (row_at s.rows other ≡ Some q) × (token_of q ≡ token_at st.name need other) × (q.act ≢ Init)
          → other ≤ k.row.no
      by (q, at, same, begun_) = x.standing.links.current.newest k.row.no other k.row q m.current.found at
          (m.current.stack_is ∙ sym (ap (λ (y : Token). y.stack) same))
          (m.current.name_is ∙ sym (ap (λ (y : Token). y.name) same)) m.current.current

  last_facts : (first : List Entry) → AreUncalling first → released o (h ++ first) ≡ released o h
      → (needs : List (List ℕ)) (known : List KnownFacts)
      → AllZip (GivesFacts o h s x possible st in_table) needs known
      → AllZip (IsLastFactOf o (h ++ first) st.name) needs known
  last_facts first uncalling tokens [] [] z = tt
  last_facts first uncalling tokens [] (k ∷ ks) z = absurd z
  last_facts first uncalling tokens (n ∷ ns) [] z = absurd z
  last_facts first uncalling tokens (n ∷ ns) (k ∷ ks) z = (
    last_fact first uncalling tokens n k z.0,
    last_facts first uncalling tokens ns ks z.1,
  )

-- the begin that was given a fault
pub caused_by_plan : (o : Opening) (h : List Entry) (s : StateData) (x : Sound o h s) → IsPossible o h
    → (e : ℕ) (k b : Begins s e) (code : List ℕ) (path : List Step)
    → ResolvesTo s e b (Fault code path) → (st : Stack) → stack_at s.stacks k.job.letter.stack ≡ Some st
    → IsCaused o (h ++ left_entries e k.row) (Engine e) st.name (fault_of k.item.name k.row.no code path)
caused_by_plan o h s x possible e k b code path resolves st found = by_plan (record {
  silent = no_call_last o h s x e k.job k.works.its k.works.stage_is
      (entry_of (Engine e) (what.Rows (Set (unlocked k.row) ∷ []))) (entry_of (Engine e) (what.Mail (Ended e ∷ [])))
      (tt, (tt, tt));
  latest = latest_of st;
  is_newest = newest-silent o h (left_entries e k.row) st.name (tt, (tt, tt))
      ∙ (x.tells.stacks st.name st self).traversal;
  item = b.item;
  asked = asked;
  known = resolves.known;
  needs_are = last_facts o h s x possible st self (left_entries e k.row) (tt, (tt, tt))
      (released-append o h (left_entries e k.row)) b.item.needs resolves.known
      (needs_given o h s x possible st self b.job.letter.node b.chosen b.name b.item b.point node ready_ asked_name
      point_at_ b.item.needs resolves.known (λ need c. c) resolves.known_are);
  code = code;
  path = path;
  fault = subst (λ (y : Stack). resolve (plan_of y.plan) b.item resolves.known ≡ Fault code path) stack_is
      resolves.result_is;
  reason = refl;
}) where
  job_is : b.job ≡ k.job
  job_is = same_some b.job k.job b.works.its k.works.its

  self : stack_at s.stacks st.name ≡ Some st
  self = subst (λ (n : List ℕ). stack_at s.stacks n ≡ Some st)
      (sym (stack-key s.stacks k.job.letter.stack st found)) found

  stack_is : b.stack ≡ st
  stack_is = same_some b.stack st
      (subst (λ (y : Job). stack_at s.stacks y.letter.stack ≡ Some b.stack) job_is b.names.in_table) found

  key : b.job.letter.stack ≡ st.name
  key = ap (λ (y : Job). y.letter.stack) job_is ∙ sym (stack-key s.stacks k.job.letter.stack st found)

  graph_is : graph_of s st.name ≡ b.graph
  graph_is = ap (graph_or st.name) (subst (λ (n : List ℕ). graph_at s.graphs n ≡ Some b.graph) key b.names.its_graph)

  node : IsNode (graph_of s st.name) b.job.letter.node (U b.name b.chosen)
  node = subst (λ (g : Graph). IsNode g b.job.letter.node (U b.name b.chosen)) (sym graph_is) b.names.its_node

  point_at_ : slice_get (graph_of s st.name).points b.job.letter.node ≡ Some b.point
  point_at_ = subst (λ (g : Graph). slice_get g.points b.job.letter.node ≡ Some b.point) (sym graph_is) b.its_point

  asked_name : item_at (plan_of st.plan).items b.name ≡ Some b.item
  asked_name = subst (λ (y : Stack). item_at (plan_of y.plan).items b.name ≡ Some b.item) stack_is b.asked

  -- both begins are of one node, and so of one item
  name_is : k.item.name ≡ b.name
  name_is = by_node (same_some k.graph b.graph k.names.its_graph
      (subst (λ (y : Job). graph_at s.graphs y.letter.stack ≡ Some b.graph) job_is b.names.its_graph)) where
        by_node : k.graph ≡ b.graph → k.item.name ≡ b.name
        by_node same =
            let at_k : slice_get b.graph.graph.nodes k.job.letter.node ≡ Some (U k.name k.chosen) =
            subst (λ (g : Graph). slice_get g.graph.nodes k.job.letter.node ≡ Some (U k.name k.chosen)) same
            k.names.its_node in
            let at_b : slice_get b.graph.graph.nodes k.job.letter.node ≡ Some (U b.name b.chosen) =
            subst (λ (y : Job). slice_get b.graph.graph.nodes y.letter.node ≡ Some (U b.name b.chosen)) job_is
            b.names.its_node in
            let names_ : k.name ≡ b.name = cc in
            (asked_among (plan_of k.stack.plan).items k.name k.item k.asked).1 ∙ names_

  asked : item_at (plan_of st.plan).items k.item.name ≡ Some b.item
  asked = subst (λ (n : List ℕ). item_at (plan_of st.plan).items n ≡ Some b.item) (sym name_is) asked_name

  ready_ : IsReady (graph_of s st.name) b.job.letter.node
  ready_ = by (x.standing.shape.jobs.newest e b.job b.stack b.works.its
      (record { in_table = b.names.in_table; newest = b.names.newest })) where
        by : JobStands s b.job b.stack → IsReady (graph_of s st.name) b.job.letter.node
        by w = subst (λ (g : Graph). IsReady g b.job.letter.node)
            (same_some w.graph b.graph w.names.its_graph b.names.its_graph ∙ sym graph_is) w.fits.ready
