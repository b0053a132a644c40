-- What a call says: nobody is called for a complete stack, and only what may be asked is asked; and what it causes.
use Rattle.std.proofs.Common.{List, ap, inl, inr, refl, subst, sym, ◌∙◌}
use Rattle.std.specs.Prelude.{Contains, IsSome, List, None, Option, Some, [], option_map, unwrap_or, ℕ, ◌++◌, ◌∷◌, ◌≡◌}
use Rattle.std.specs.Prelude.{◌≢◌}
use Rattle.step_relation.specs.Asks as refusal
use Rattle.step_relation.specs.Caused as blame
use Rattle.heat_plan.specs.declared.calls.Answered.{Answered}
use Rattle.heat_plan.specs.declared.calls.Request.{Request}
use Rattle.heat_plan.specs.declared.phase.Act.{Act}
use Rattle.heat_plan.specs.declared.phase.Status.TheVariants.{Complete, InProgress}
use Rattle.heat_plan.specs.declared.token.Token.{Token}
use Rattle.provider.specs.Table.{TokenState}
use Rattle.row_table.specs.Rows.{put_row, row_at}
use Rattle.row_table.specs.declared.row.Row.{Row}
use Rattle.step_relation.specs.State.{StateData, stack_at}
use Rattle.step_relation.specs.declared.Actor.TheVariants.{Engine}
use Rattle.step_relation.specs.declared.Entry.{Entry}
use Rattle.step_relation.specs.declared.MailWrite.TheVariants.{Ended}
use Rattle.step_relation.specs.declared.RowWrite.TheVariants.{Set}
use Rattle.step_relation.specs.declared.Why.{Why}
use Rattle.step_relation.specs.declared.Stack.{Stack}
use Rattle.step_relation.specs.Asks.{Refuses, cause_at, creates, deletes, looks, polls, updates}
use Rattle.step_relation.specs.Rows.{failed_row, token_of}
use Rattle.step_relation.specs.Writes.{call_entry, entry_of, mail_entry, rows_entry}
use Rattle.step_relation.specs.Caused.{Blames, IsCaused, by_call}
use Rattle.step_relation.specs.Could.{IsPossible, could_of}
use Rattle.step_relation.specs.Marked.{Completed, Marked, mark_of}
use Rattle.step_relation.specs.Opening.{Opening}
use Rattle.step_relation.specs.Stored.{stored}
use Rattle.step_relation.specs.Tokens.{token_at}
use Rattle.step_relation.specs.Agrees.{IsGoing}
use Rattle.step_relation.specs.Groups.{updates}
use Rattle.step_relation.specs.Headline.{FitsIn, MayBeAsked, create, delete, gone, poll, update}
use Rattle.step_relation.specs.Linked.{by_job, by_row}
use Rattle.step_relation.specs.Sound.{Sound}
use Rattle.step_relation.specs.Tells.{status_by}
use Rattle.history_laws.proofs.tables.Rows.{row_here, stack-key}
use Rattle.history_laws.proofs.tells.Appends.{stored-append}
use Rattle.history_laws.proofs.agrees.CallTold.{CallsFor, in_progress}
use Rattle.history_laws.proofs.agrees.Suits.{AsksAt, at_asking, at_polling}
use Rattle.history_laws.proofs.headline.FitsSound.{row_made}
use Rattle.history_laws.proofs.headline.Items.{All-among}
use Rattle.step_relation.specs.declared.What.TheVariants as what

module _ (o : Opening) (h : List Entry) (s : StateData) (x : Sound o h s) (possible : IsPossible o h) (e : ℕ)
    (r : Row) (asked : Request) (given : Answered)
    (k : CallsFor s e r asked) where
  status : r.status ≡ InProgress
  status = in_progress o h s x e r asked given k

  -- the stack of a row under way isn't complete
  pub open_stack : mark_of o h r.stack ≢ Some Completed
  open_stack marked_is = by (stack_at s.stacks r.stack) refl where
    by : (f : Option Stack) → stack_at s.stacks r.stack ≡ f → ⊥
    by None at = let some = x.standing.links.numbered.in_table k.job.row r k.found in let none_some = rw at at some in
        cc
    by (Some st) at =
        let key : st.name ≡ r.stack = stack-key s.stacks r.stack st at in
        let self : stack_at s.stacks st.name ≡ Some st = subst (λ (n : List ℕ). stack_at s.stacks n ≡ Some st)
        (sym key) at in
        let told_ = x.tells.stacks r.stack st at in
        let marked_st : mark_of o h r.stack ≡ Some told_.marked.mark =
        subst (λ (n : List ℕ). mark_of o h n ≡ Some told_.marked.mark) key
        (ap (option_map (λ (y : Marked). y.mark)) told_.is_marked) in
        let mark_is : told_.marked.mark ≡ Completed = cc in
        let done : st.status ≡ Complete = sym told_.status ∙ ap status_by mark_is in
        let all = (x.standing.marks.each st.name st self).complete.0 done in
        let (i, aims, made) = row_made o h s x possible st self all k.job.row r k.found (sym key) in
        let f = sym made.made.status ∙ status in cc

  may_ask : (a : Request) → AsksAt k.job.stage r a → MayBeAsked (could_of o h (token_of r)) a
  may_ask _ (at_asking s_is (creates act)) = create r.kind.name r.props
  may_ask _ (at_asking s_is (updates act)) = update (unwrap_or r.target r.props)
      (All-among IsSome (could_of o h (token_of r)) alive) where
        alive : (y : TokenState) → Contains (could_of o h (token_of r)) y → IsSome y
        alive y c = elim ((x.agrees.rows k.job.row r y k.found c).updating act status) [
          | inl a ↦ rw a.alive refl
          | inr a ↦
              rw a.alive refl
        ]
  may_ask _ (at_asking s_is (deletes act)) = delete
  may_ask _ (at_polling s_is (polls ne)) = poll (All-among IsSome (could_of o h (token_of r))
      (λ y c. let a = (x.agrees.polled e k.job r y k.its s_is k.found c).asked ne in rw a.alive refl))
  may_ask _ (at_polling s_is (looks act)) = gone (All-among IsGoing (could_of o h (token_of r))
      (λ y c. (x.agrees.polled e k.job r y k.its s_is k.found c).going act))

  pub call_fits : FitsIn o h (call_entry e r asked given)
  call_fits = record {
    marks = λ stack trav act c is. cc;
    completes = λ stack trav act it is. cc;
    causes = λ stack trav act c is. cc;
    quiet = λ token request answer_ is m. let same : token_of r ≡ token = cc in
        open_stack (subst (λ (t : Token). mark_of o h t.stack ≡ Some Completed) (sym same) m);
    asked = λ token request answer_ is. let same : token_of r ≡ token = cc in let asked_is : asked ≡ request = cc in
        subst (λ (t : Token). MayBeAsked (could_of o h t) request) same
        (subst (MayBeAsked (could_of o h (token_of r))) asked_is (may_ask asked k.asks));
    rolls = λ stack trav plan rollback is. cc;
    follows = λ engine_ stack trav act plan rollback is. let w = ap (λ (y : Entry). y.what) is in cc;
    releases = λ token is. cc;
  }

  -- the row is one of its job's stack
  pub row_stack : r.stack ≡ k.job.letter.stack
  row_stack = x.standing.links.owned.one k.job.row r.stack k.job.letter.stack (by_row r k.found refl)
      (by_job e k.job k.its refl refl)

-- why a request was refused blames its answer
blames_of : (act : Act) (asked : Request) (given : Answered) (reason : Why) → Refuses act asked given reason
    → Blames act given reason
blames_of act _ _ _ (refusal.by_quota kind props) = blame.by_quota
blames_of act _ _ _ (refusal.by_failure asked_) = blame.by_failure
blames_of act _ _ _ (refusal.by_code code) = blame.by_code code

pub caused_by_call : (o : Opening) (h : List Entry) (s : StateData) → Sound o h s
    → (e : ℕ) (r : Row) (asked : Request) (given : Answered) (k : CallsFor s e r asked)
    → (st : Stack) → stack_at s.stacks k.job.letter.stack ≡ Some st → (reason : Why)
    → Refuses r.act asked given reason
    → IsCaused o (h ++ (call_entry e r asked given ∷ (rows_entry (Engine e) (Set (failed_row r) ∷ []) ++ mail_entry
    (Engine e) (Ended e ∷ []))))
    (Engine e) st.name (cause_at r reason)
caused_by_call o h s x e r asked given k st found reason refuses = by_call (record {
  request = asked;
  given = given;
  call = record {
    earlier = h;
    rows = Set (failed_row r) ∷ [];
    mail = Ended e ∷ [];
    entries =
        ap (λ (t : Token). h ++ (entry_of (Engine e) (what.Call t asked given)
        ∷ (rows_entry (Engine e) (Set (failed_row r) ∷ []) ++ mail_entry (Engine e) (Ended e ∷ [])))) token_is;
  };
  row = failed_row r;
  found = subst (λ (rows : List Row). row_at rows r.no ≡ Some (failed_row r)) (sym stored_is)
      (row_here (failed_row r) s.rows);
  blames = blames_of r.act asked given reason refuses;
}) where
  own : r.stack ≡ st.name
  own = x.standing.links.owned.one k.job.row r.stack k.job.letter.stack (by_row r k.found refl)
      (by_job e k.job k.its refl refl)
      ∙ sym (stack-key s.stacks k.job.letter.stack st found)

  token_is : token_of r ≡ token_at st.name r.name r.no
  token_is = ap (λ (n : List ℕ). token_at n r.name r.no) own

  stored_is : stored o (h ++
      (call_entry e r asked given ∷ (rows_entry (Engine e) (Set (failed_row r) ∷ []) ++ mail_entry (Engine e)
      (Ended e ∷ [])))) ≡ put_row (failed_row r) s.rows
  stored_is = stored-append o h (call_entry e r asked given ∷
      (rows_entry (Engine e) (Set (failed_row r) ∷ []) ++ mail_entry (Engine e) (Ended e ∷ [])))
      ∙ ap (put_row (failed_row r)) x.tells.rows
