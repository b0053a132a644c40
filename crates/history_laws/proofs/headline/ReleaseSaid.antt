-- What the entries of a retained row's release say.
use Rattle.std.proofs.Common.{List, ap, append-nil, inl, inr, refl, subst, sym, ◌∙◌}
use Rattle.std.proofs.lemmas.List.Elements.{Contains-append_cases, Contains-append_left}
use Rattle.std.specs.Prelude.{Contains, List, Some, [], option_map, slice_get, ℕ, ◌++◌, ◌∷◌, ◌≡◌, ◌≢◌}
use Rattle.heat_plan.specs.declared.item.Policy.TheVariants.{Retain}
use Rattle.heat_plan.specs.declared.phase.Status.TheVariants.{Complete}
use Rattle.heat_plan.specs.declared.token.Token.{Token}
use Rattle.traversal_graph.specs.declared.shape.Node.{Node}
use Rattle.provider.specs.Table.{TokenState}
use Rattle.row_table.specs.Rows.{row_at}
use Rattle.row_table.specs.declared.row.Row.{Row}
use Rattle.mail_table.specs.Mails.{job_at}
use Rattle.mail_table.specs.declared.mail.Job.{Job}
use Rattle.mail_table.specs.declared.mail.Stage.TheVariants.{Ending}
use Rattle.step_relation.specs.Reads.{IsDone}
use Rattle.step_relation.specs.State.{StateData, graph_at, stack_at}
use Rattle.step_relation.specs.declared.Actor.TheVariants.{Engine}
use Rattle.step_relation.specs.declared.Entry.{Entry}
use Rattle.step_relation.specs.declared.MailWrite.TheVariants.{Held}
use Rattle.step_relation.specs.declared.RowWrite.TheVariants.{Purge}
use Rattle.step_relation.specs.declared.Graph.{Graph}
use Rattle.step_relation.specs.declared.Stack.{Stack}
use Rattle.step_relation.specs.Cleanups.{retained_entries}
use Rattle.step_relation.specs.Freshness.{Names, plan_of}
use Rattle.step_relation.specs.Rows.{token_of}
use Rattle.step_relation.specs.Writes.{entry_of, with_stage}
use Rattle.step_relation.specs.Could.{IsPossible, could_of}
use Rattle.step_relation.specs.Fits.{Fits}
use Rattle.step_relation.specs.Marked.{Completed, Marked, mark_of}
use Rattle.step_relation.specs.Newest.{Latest, newest}
use Rattle.step_relation.specs.Opening.{Opening}
use Rattle.step_relation.specs.Stored.{released, stored}
use Rattle.step_relation.specs.Tokens.{HasRow, IsNamed}
use Rattle.step_relation.specs.Agrees.{StateFits}
use Rattle.step_relation.specs.GraphFits.{graph_of, graph_or}
use Rattle.step_relation.specs.Headline.{AtPrefix, FitsIn}
use Rattle.step_relation.specs.Policies.{MayBeReleased}
use Rattle.step_relation.specs.MailFits.{JobStands}
use Rattle.step_relation.specs.Sound.{Sound}
use Rattle.step_relation.specs.Tells.{TellsStack, status_by}
use Rattle.history_laws.proofs.tables.Rows.{row_self, stack-key}
use Rattle.history_laws.proofs.tells.Appends.{released-append, stored-append}
use Rattle.history_laws.proofs.tells.Silence.{could-silent, marked-silent, newest-silent}
use Rattle.history_laws.proofs.agrees.Called.{only}
use Rattle.history_laws.proofs.headline.Made.{not_given}
use Rattle.history_laws.proofs.headline.Parts.{said_written}
use Rattle.history_laws.proofs.headline.Said.{AllSaid, fits_on}
use Rattle.step_relation.specs.declared.What.TheVariants as what

-- the stack of a job that has work isn't complete
pub open_job : (o : Opening) (h : List Entry) (s : StateData) → Sound o h s
    → (e : ℕ) (j : Job) (st : Stack) (g : Graph) (node : Node) → job_at s.jobs e ≡ Some j
    → Names s j.letter st g node → mark_of o h j.letter.stack ≢ Some Completed
open_job o h s x e j st g node its names m = by (x.standing.shape.jobs.newest e j st its
    (record { in_table = names.in_table; newest = names.newest })) where
      key : st.name ≡ j.letter.stack
      key = stack-key s.stacks j.letter.stack st names.in_table

      self : stack_at s.stacks st.name ≡ Some st
      self = subst (λ (n : List ℕ). stack_at s.stacks n ≡ Some st) (sym key) names.in_table

      told_ : TellsStack o h s st
      told_ = x.tells.stacks j.letter.stack st names.in_table

      by : JobStands s j st → ⊥
      by w =
          let marked_st : mark_of o h j.letter.stack ≡ Some told_.marked.mark =
          subst (λ (n : List ℕ). mark_of o h n ≡ Some told_.marked.mark) key
          (ap (option_map (λ (y : Marked). y.mark)) told_.is_marked) in
          let mark_is : told_.marked.mark ≡ Completed = cc in
          let done : st.status ≡ Complete = sym told_.status ∙ ap status_by mark_is in
          let all = (x.standing.marks.each st.name st self).complete.0 done in
          let graph_is : graph_of s st.name ≡ w.graph = ap (graph_or st.name)
          (subst (λ (n : List ℕ). graph_at s.graphs n ≡ Some w.graph) (sym key) w.names.its_graph) in
          w.fits.undone (subst (λ (y : Graph). IsDone y j.letter.node) graph_is
          (all j.letter.node w.node (subst (λ (y : Graph). slice_get y.graph.nodes j.letter.node ≡ Some w.node)
          (sym graph_is) w.names.its_node)))

module _ (o : Opening) (h : List Entry) (s : StateData) (x : Sound o h s) (possible : IsPossible o h) (e : ℕ)
    (j : Job) (r : Row)
    (found : row_at s.rows j.row ≡ Some r) (open_ : mark_of o h r.stack ≢ Some Completed)
    (policy : r.policy ≡ Retain) where
  abbrev entry : Entry
  entry = entry_of (Engine e) (what.Release (token_of r))

  self : row_at s.rows r.no ≡ Some r
  self = row_self s.rows j.row r found

  tokens : released o (h ++ entry ∷ []) ≡ released o h ++ token_of r ∷ []
  tokens = released-append o h (entry ∷ [])

  release_fits : FitsIn o h entry
  release_fits = record {
    marks = λ stack trav act c is. cc;
    completes = λ stack trav act it is. cc;
    causes = λ stack trav act c is. cc;
    quiet = λ token request given is. cc;
    asked = λ token request given is. cc;
    rolls = λ stack trav plan rollback is. cc;
    follows = λ engine_ stack trav act plan rollback is. let w = ap (λ (y : Entry). y.what) is in cc;
    releases = λ token is. let same : token_of r ≡ token = cc in subst (MayBeReleased o h) same (record {
      row = r;
      found = subst (λ (rows : List Row). row_at rows r.no ≡ Some r) (sym x.tells.rows) self;
      its = refl;
      retained = policy;
      planned = x.policies.each r.no r self (λ gone. x.released.kept r.no r self gone policy);
      once = not_given o h s x possible r.no r self;
    });
  }

  release_at : AtPrefix o h → AtPrefix o (h ++ entry ∷ [])
  release_at k = record { complete = complete; named = named; rows = rows } where
    could : (t : Token) → could_of o (h ++ entry ∷ []) t ≡ could_of o h t
    could t = could-silent o h (entry ∷ []) t (tt, tt)

    complete : (stack : List ℕ) (it : Latest) → newest o (h ++ entry ∷ []) stack ≡ Some it
        → mark_of o (h ++ entry ∷ []) stack ≡ Some Completed
        → Fits o (h ++ entry ∷ []) stack (plan_of it.plan)
    complete stack it n m =
        let n_h = sym (newest-silent o h (entry ∷ []) stack (tt, tt)) ∙ n in
        let m_h = ap (option_map (λ (y : Marked). y.mark)) (sym (marked-silent o h (entry ∷ []) stack (tt, tt)))
        ∙ m in
        fits_on o stack h (h ++ entry ∷ []) (record {
          could = λ t own. could t;
          forth = λ t own c. subst (λ (ts : List Token). Contains ts t) (sym tokens)
              (Contains-append_left (released o h) (token_of r ∷ []) t c);
          back = λ t own c. elim (Contains-append_cases (released o h) (token_of r ∷ []) t
              (subst (λ (ts : List Token). Contains ts t) tokens c)) [
                | inl was ↦ was
                | inr new ↦
                    let same : t ≡ token_of r = only (token_of r) t new in
                    let stack_is : r.stack ≡ stack = ap (λ (y : Token). y.stack) (sym same) ∙ own in
                    absurd (open_ (subst (λ (n_ : List ℕ). mark_of o h n_ ≡ Some Completed) (sym stack_is) m_h))
              ];
        }) (plan_of it.plan) (k.complete stack it n_h m_h)

    named : IsNamed o (h ++ entry ∷ [])
    named t alive = by (k.named t (record {
      lives = record {
        it = alive.lives.it;
        among = subst (λ (ss : List TokenState). Contains ss
            (Some alive.lives.it)) (could t) alive.lives.among;
      };
      owned = λ c. alive.owned (subst (λ (ts : List Token). Contains ts t) (sym tokens)
          (Contains-append_left (released o h) (token_of r ∷ []) t c));
    })) where
      by : HasRow o h t → HasRow o (h ++ entry ∷ []) t
      by w = record {
        row = w.row;
        found = subst (λ (rs : List Row). row_at rs t.row ≡ Some w.row)
            (sym (stored-append o h (entry ∷ []))) w.found;
        its = w.its;
        begun = w.begun;
      }

    rows : (n : ℕ) (q : Row) (state : TokenState) → row_at (stored o (h ++ entry ∷ [])) n ≡ Some q
        → Contains (could_of o (h ++ entry ∷ []) (token_of q)) state → StateFits q state
    rows n q state at among = k.rows n q state (subst (λ (rs : List Row). row_at rs n ≡ Some q)
        (stored-append o h (entry ∷ [])) at)
        (subst (λ (ss : List TokenState). Contains ss state) (could (token_of q)) among)

  pub retained_said : AtPrefix o h → AtPrefix o (h ++ retained_entries e j r)
      → AllSaid o h [] (retained_entries e j r)
  retained_said k l = (
    subst (AtPrefix o) (sym (append-nil h)) k,
    subst (λ (y : List Entry). FitsIn o y entry) (sym (append-nil h)) release_fits,
    record {
      purges = λ token is. let same : token_of r ≡ token = cc in
          ap (λ (t : Token). Some (entry_of (Engine e) (what.Rows (Purge t.row ∷ [])))) same;
    },
    said_written o h (entry ∷ []) (Engine e) (Purge r.no ∷ []) (Held (with_stage Ending j) ∷ []) (release_at k) l,
  )
