-- What the entries of a command say.
use Rattle.std.proofs.Common.{Bool, List, ap, append-nil, append_assoc, inl, inr, refl, subst, sym, true, ◌∙◌}
use Rattle.std.proofs.lemmas.Slice.Eq.{bytes_eq-Decides}
use Rattle.std.specs.Prelude.{Contains, List, None, Option, Some, [], bytes_eq, map, option_map, ℕ, ◌++◌, ◌∷◌, ◌≡◌, ◌≢◌}
use Rattle.heat_plan.specs.Plans.{PlanData}
use Rattle.heat_plan.specs.declared.item.Item.{Item}
use Rattle.heat_plan.specs.declared.phase.Act.{Act}
use Rattle.heat_plan.specs.declared.phase.Act.TheVariants.{Rollback}
use Rattle.heat_plan.specs.declared.phase.Status.TheVariants.{InProgress}
use Rattle.heat_plan.specs.declared.token.Token.{Token}
use Rattle.traversal_graph.specs.declared.shape.Node.{Node}
use Rattle.provider.specs.Table.{TokenState}
use Rattle.row_table.specs.Rows.{row_at}
use Rattle.row_table.specs.declared.row.Row.{Row}
use Rattle.step_relation.specs.State.{StateData}
use Rattle.step_relation.specs.declared.Actor.TheVariants.{Engine}
use Rattle.step_relation.specs.declared.Entry.{Entry}
use Rattle.step_relation.specs.declared.MailWrite.TheVariants.{Sent}
use Rattle.step_relation.specs.declared.RowWrite.TheVariants.{Set}
use Rattle.step_relation.specs.Commands.{Lays, Sets, first_letters, laid_entries, settled_mark, stack_set}
use Rattle.step_relation.specs.Freshness.{plan_of}
use Rattle.step_relation.specs.Orders.{plan_back}
use Rattle.step_relation.specs.Rows.{token_of}
use Rattle.step_relation.specs.Writes.{complete_mark, entry_of, mail_entry, rows_entry}
use Rattle.step_relation.specs.Could.{could_of}
use Rattle.step_relation.specs.Fits.{Fits}
use Rattle.step_relation.specs.Last.{IsLast}
use Rattle.step_relation.specs.Marked.{Completed, Marked, Unmarked, mark_of, marked_by, marked_of}
use Rattle.step_relation.specs.Newest.{Latest, latest_of, newest, newest_by}
use Rattle.step_relation.specs.Opening.{Opening}
use Rattle.step_relation.specs.Stored.{stored}
use Rattle.step_relation.specs.Tokens.{HasRow, IsNamed}
use Rattle.step_relation.specs.Agrees.{StateFits}
use Rattle.step_relation.specs.Groups.{IsOrdered, creates, deletes, rolls_back, updates}
use Rattle.step_relation.specs.Headline.{AtPrefix, EndsFailed, FitsIn}
use Rattle.step_relation.specs.Sound.{Sound}
use Rattle.history_laws.proofs.tables.Rows.{text_or_not}
use Rattle.history_laws.proofs.tells.Appends.{marked-append, newest-append, released-append, stored-append}
use Rattle.history_laws.proofs.tells.Beside.{beside_command}
use Rattle.history_laws.proofs.tells.Silence.{AreUnmarking, could-silent, marked_on-silent, newest_on-silent, unmarking-both}
use Rattle.history_laws.proofs.tells.Silence.{unmarking_mail, unmarking_rows}
use Rattle.history_laws.proofs.agrees.LaidTold.{forward_keeps}
use Rattle.history_laws.proofs.headline.MarkSaid.{completing_fits}
use Rattle.history_laws.proofs.headline.Parts.{at_mark, said_mark, said_written}
use Rattle.history_laws.proofs.headline.Said.{AllSaid, IsPaired, fits_on, followed_plain, said_both}
use Rattle.step_relation.specs.declared.What.TheVariants as what

-- a rollback's plan is the last that was reached
rolled_plan : (o : Opening) (h : List Entry) (s : StateData) → Sound o h s
    → (name : List ℕ) (items : List Item) (it : Sets) → IsOrdered s name items it → it.act ≡ Rollback
    → (back_ : PlanData) × (it.plan ≡ Some back_) × IsLast o h name back_
rolled_plan o h s x _ _ _ (creates name plan rb none proper_) act = cc
rolled_plan o h s x _ _ _ (updates st plan rb found ne proper_) act = cc
rolled_plan o h s x _ _ _ (deletes st found) act = cc
rolled_plan o h s x _ _ _ (rolls_back st actor found forward incomplete) act =
    (plan_back s st, refl, (x.tells.stacks st.name st found).last (forward_keeps st.act forward))

-- what an engine commands is a rollback
engine_rolls : (s : StateData) (name : List ℕ) (items : List Item) (it : Sets) (n : ℕ) → IsOrdered s name items it
    → it.actor ≡ Engine n → it.act ≡ Rollback
engine_rolls s _ _ _ n (creates name plan rb none proper_) actor = cc
engine_rolls s _ _ _ n (updates st plan rb found ne proper_) actor = cc
engine_rolls s _ _ _ n (deletes st found) actor = cc
engine_rolls s _ _ _ n (rolls_back st actor_ found forward incomplete) actor = refl

paired_any : (o : Opening) (g : List Entry) (e : Entry) (es : List Entry)
    → ((token : Token) → e.what ≢ what.Release token) → IsPaired o g e es
paired_any o g e [] keeps_ = keeps_
paired_any o g e (next ∷ es) keeps_ = followed_plain e (Some next) keeps_

module _ (o : Opening) (h : List Entry) (s : StateData) (x : Sound o h s) (name : List ℕ) (items : List Item)
    (it : Sets) (k : Lays s name items)
    (ordered : IsOrdered s name items it) (behind : (n : ℕ) → it.actor ≡ Engine n
    → EndsFailed h (Engine n) name) where
  abbrev e : Entry
  e = entry_of it.actor (what.Command name s.next.trav it.act it.plan it.past.rollback)

  own : bytes_eq name name ≡ true
  own = (bytes_eq-Decides name name).1 refl

  command_fits : FitsIn o h e
  command_fits = record {
    marks = λ stack trav act c is. cc;
    completes = λ stack trav act l is. cc;
    causes = λ stack trav act c is. cc;
    quiet = λ token request given is. cc;
    asked = λ token request given is. cc;
    rolls = rolls_;
    follows = follows_;
    releases = λ token is. cc;
  } where
    rolls_ : (stack : List ℕ) (trav : ℕ) (plan : Option PlanData) (rollback : Bool)
        → what.Command name s.next.trav it.act it.plan it.past.rollback
        ≡ what.Command stack trav Rollback plan rollback
        → (back_ : PlanData) × (plan ≡ Some back_) × IsLast o h stack back_
    rolls_ stack trav plan rollback is =
        let name_is : name ≡ stack = cc in
        let act_is : it.act ≡ Rollback = cc in
        let plan_is : it.plan ≡ plan = cc in
        let (back_, planned, last_) = rolled_plan o h s x name items it ordered act_is in
        (back_, sym plan_is ∙ planned, subst (λ (n : List ℕ). IsLast o h n back_) name_is last_)

    follows_ : (engine_ : ℕ) (stack : List ℕ) (trav : ℕ) (act : Act) (plan : Option PlanData) (rollback : Bool)
        → e ≡ entry_of (Engine engine_) (what.Command stack trav act plan rollback)
        → (act ≡ Rollback) × EndsFailed h (Engine engine_) stack
    follows_ engine_ stack trav act plan rollback is =
        let actor_is : it.actor ≡ Engine engine_ = ap (λ (y : Entry). y.by) is in
        let what_is = ap (λ (y : Entry). y.what) is in
        let name_is : name ≡ stack = cc in
        let act_is : it.act ≡ act = cc in (
          sym act_is ∙ engine_rolls s name items it engine_ ordered actor_is,
          subst (EndsFailed h (Engine engine_)) name_is (behind engine_ actor_is),
        )

  command_at : AtPrefix o h → AtPrefix o (h ++ e ∷ [])
  command_at a = record { complete = complete; named = named; rows = rows } where
    could : (t : Token) → could_of o (h ++ e ∷ []) t ≡ could_of o h t
    could t = could-silent o h (e ∷ []) t (tt, tt)

    complete : (stack : List ℕ) (l : Latest) → newest o (h ++ e ∷ []) stack ≡ Some l
        → mark_of o (h ++ e ∷ []) stack ≡ Some Completed
        → Fits o (h ++ e ∷ []) stack (plan_of l.plan)
    complete stack l n m = elim (text_or_not name stack) [
      | inl is ↦
          let marked_now : marked_of o (h ++ e ∷ []) name ≡ Some (record { trav = s.next.trav; mark = Unmarked }) =
          marked-append o h (e ∷ []) name ∙ rw own refl in
          let unmarked_ : mark_of o (h ++ e ∷ []) name ≡ Some Unmarked =
          ap (option_map (λ (y : Marked). y.mark)) marked_now in
          let m_own : mark_of o (h ++ e ∷ []) name ≡ Some Completed =
          subst (λ (y : List ℕ). mark_of o (h ++ e ∷ []) y ≡ Some Completed) (sym is) m in
          let clash = sym unmarked_ ∙ m_own in cc
      | inr ne ↦
          let b = beside_command stack name it.actor s.next.trav it.act it.plan it.past.rollback ne in
          let n_h = sym (newest-append o h (e ∷ []) stack ∙ b.newest (newest o h stack)) ∙ n in
          let m_h = ap (option_map (λ (y : Marked). y.mark))
          (sym (marked-append o h (e ∷ []) stack ∙ b.marked (marked_of o h stack))) ∙ m in
          fits_on o stack h (h ++ e ∷ []) (record {
            could = λ t own_. could t;
            forth = λ t own_ c. subst (λ (ts : List Token). Contains ts t) (sym (released-append o h (e ∷ []))) c;
            back = λ t own_ c. subst (λ (ts : List Token). Contains ts t) (released-append o h (e ∷ [])) c;
          }) (plan_of l.plan) (a.complete stack l n_h m_h)
    ]

    named : IsNamed o (h ++ e ∷ [])
    named t alive = by (a.named t (record {
      lives = record {
        it = alive.lives.it;
        among = subst (λ (ss : List TokenState). Contains ss
            (Some alive.lives.it)) (could t) alive.lives.among;
      };
      owned = λ c. alive.owned (subst (λ (ts : List Token). Contains ts t) (sym (released-append o h (e ∷ []))) c);
    })) where
      by : HasRow o h t → HasRow o (h ++ e ∷ []) t
      by w = record {
        row = w.row;
        found = subst (λ (rs : List Row). row_at rs t.row ≡ Some w.row)
            (sym (stored-append o h (e ∷ []))) w.found;
        its = w.its;
        begun = w.begun;
      }

    rows : (n : ℕ) (q : Row) (state : TokenState) → row_at (stored o (h ++ e ∷ [])) n ≡ Some q
        → Contains (could_of o (h ++ e ∷ []) (token_of q)) state → StateFits q state
    rows n q state at among = a.rows n q state (subst (λ (rs : List Row). row_at rs n ≡ Some q)
        (stored-append o h (e ∷ [])) at)
        (subst (λ (ss : List TokenState). Contains ss state) (could (token_of q)) among)

  abbrev rows_part : List Entry
  rows_part = rows_entry it.actor (map Set k.rows)

  abbrev mail_part : List Entry
  mail_part = mail_entry it.actor (map Sent (first_letters s name items it k))

  silent_part : AreUnmarking (rows_part ++ mail_part)
  silent_part = unmarking-both rows_part mail_part (unmarking_rows it.actor (map Set k.rows))
      (unmarking_mail it.actor (map Sent (first_letters s name items it k)))

  first_said : AtPrefix o h → AtPrefix o (h ++ (e ∷ (rows_part ++ mail_part)))
      → AllSaid o h [] (e ∷ (rows_part ++ mail_part))
  first_said a l = (
    subst (AtPrefix o) (sym (append-nil h)) a,
    subst (λ (y : List Entry). FitsIn o y e) (sym (append-nil h)) command_fits,
    paired_any o (h ++ []) e (rows_part ++ mail_part) (λ t i. cc),
    said_written o h (e ∷ []) it.actor (map Set k.rows) (map Sent (first_letters s name items it k))
        (command_at a) l,
  )

  pub laid_said : AtPrefix o h → AtPrefix o (h ++ laid_entries s name items it k)
      → AllSaid o h [] (laid_entries s name items it k)
  laid_said a = by k.graph.nodes where
    g : List Entry
    g = h ++ (e ∷ (rows_part ++ mail_part))

    newest_g : newest o (h ++ (e ∷ (rows_part ++ mail_part))) name ≡ Some (latest_of (stack_set s name it InProgress))
    newest_g = newest-append o h (e ∷ (rows_part ++ mail_part)) name
        ∙ (newest_on-silent name (newest_by name (newest o h name) e.what) (rows_part ++ mail_part) silent_part
        ∙ rw own refl)

    marked_g : marked_of o (h ++ (e ∷ (rows_part ++ mail_part))) name ≡ Some
        (record { trav = s.next.trav; mark = Unmarked })
    marked_g = marked-append o h (e ∷ (rows_part ++ mail_part)) name
        ∙ (marked_on-silent name (marked_by name (marked_of o h name) e.what) (rows_part ++ mail_part) silent_part
        ∙ rw own refl)

    not_done : mark_of o (h ++ (e ∷ (rows_part ++ mail_part))) name ≢ Some Completed
    not_done m = let u = ap (option_map (λ (y : Marked). y.mark)) marked_g in let clash = sym u ∙ m in cc

    by : (nodes : List Node) → AtPrefix o (h ++ (e ∷ (rows_part ++ (mail_part ++ settled_mark nodes s name it))))
        → AllSaid o h [] (e ∷ (rows_part ++ (mail_part ++ settled_mark nodes s name it)))
    by (node ∷ nodes) l =
        let same : rows_part ++ (mail_part ++ []) ≡ rows_part ++ mail_part =
        ap (λ (y : List Entry). rows_part ++ y) (append-nil mail_part) in
        subst (λ (y : List Entry). AllSaid o h [] (e ∷ y)) (sym same)
        (first_said a (subst (λ (y : List Entry). AtPrefix o (h ++ e ∷ y)) same l))
    by [] l =
        let mark = complete_mark it.actor (stack_set s name it InProgress) in
        let same : rows_part ++ (mail_part ++ mark ∷ []) ≡ (rows_part ++ mail_part) ++ mark ∷ [] =
        sym (append_assoc rows_part mail_part (mark ∷ [])) in
        let l_end : AtPrefix o (h ++ ((e ∷ (rows_part ++ mail_part)) ++ mark ∷ [])) =
        subst (λ (y : List Entry). AtPrefix o (h ++ e ∷ y)) same l in
        let l_mark : AtPrefix o ((h ++ (e ∷ (rows_part ++ mail_part))) ++ mark ∷ []) =
        subst (AtPrefix o) (sym (append_assoc h (e ∷ (rows_part ++ mail_part)) (mark ∷ []))) l_end in
        subst (λ (y : List Entry). AllSaid o h [] (e ∷ y)) (sym same)
        (said_both o h [] (e ∷ (rows_part ++ mail_part)) (mark ∷ [])
        (first_said a (at_mark o (h ++ (e ∷ (rows_part ++ mail_part))) it.actor name s.next.trav it.act None
        not_done l_mark))
        (said_mark o h (e ∷ (rows_part ++ mail_part)) it.actor name s.next.trav it.act None
        (completing_fits o (h ++ (e ∷ (rows_part ++ mail_part)))
        (stack_set s name it InProgress) it.actor newest_g
        (record { trav = s.next.trav; mark = Unmarked }) marked_g refl refl l_mark) not_done l_end))
