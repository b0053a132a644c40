-- Each row's policy comes from its last begin, and each graph is that of a stack, after every step.
use Rattle.std.proofs.Common.{List, ap, Some, inl, inr, refl, subst, sym, arith, ◌∙◌}
use Rattle.std.proofs.lemmas.List.Elements.{Contains-append_right}
use Rattle.std.specs.Prelude.{Contains, List, Some, [], map, ℕ, ◌++◌, ◌+◌, ◌<◌, ◌∷◌, ◌≡◌}
use Rattle.std.specs.Prelude.{◌≢◌}
use Rattle.heat_plan.specs.declared.item.Item.{Item}
use Rattle.heat_plan.specs.declared.phase.Act.{Act}
use Rattle.heat_plan.specs.declared.phase.Act.TheVariants.{Create, Delete, Init, Rollback, Update}
use Rattle.heat_plan.specs.declared.phase.Status.TheVariants.{InProgress}
use Rattle.traversal_graph.specs.declared.shape.Node.{Node}
use Rattle.provider.proofs.Lists.{cases, here, there}
use Rattle.row_table.specs.Rows.{row_at}
use Rattle.row_table.specs.declared.row.Row.{Row}
use Rattle.step_relation.specs.Changes.{applied}
use Rattle.step_relation.specs.Reads.{item_at}
use Rattle.step_relation.specs.State.{StateData}
use Rattle.step_relation.specs.declared.Change.TheVariants.{PutRow, Send}
use Rattle.step_relation.specs.declared.Actor.TheVariants.{Main}
use Rattle.step_relation.specs.declared.Entry.{Entry}
use Rattle.step_relation.specs.declared.MailWrite.TheVariants.{Sent}
use Rattle.step_relation.specs.declared.RowWrite.TheVariants.{Set}
use Rattle.step_relation.specs.Commands.{Chooses, Lays, Sets, current, first_letters, fresh, laid_changes}
use Rattle.step_relation.specs.Commands.{none, settled_mark, settles_at_once, stack_set}
use Rattle.step_relation.specs.Freshness.{plan_of}
use Rattle.step_relation.specs.Writes.{entry_of, mail_entry, mark_complete, rows_entry}
use Rattle.step_relation.specs.Last.{IsCommandOf}
use Rattle.step_relation.specs.Newest.{Latest}
use Rattle.step_relation.specs.Opening.{Opening}
use Rattle.step_relation.specs.Policies.{HasPolicy, HasPolicyFrom, PoliciesFit, commanded}
use Rattle.step_relation.specs.Groups.{IsOrdered, ToldByCommands, ToldByMoves, ToldByOthers}
use Rattle.step_relation.specs.Groups.{creates, deletes, rolls_back, updates}
use Rattle.step_relation.specs.Sound.{Sound}
use Rattle.history_laws.proofs.agrees.MoveTold.{move_outcome}
use Rattle.history_laws.proofs.agrees.Others.{call_outcome, quiet_outcome}
use Rattle.history_laws.proofs.agrees.Outcome.{Outcome}
use Rattle.history_laws.proofs.headline.Items.{among_at}
use Rattle.history_laws.proofs.policies.Calm.{calm_fine}
use Rattle.history_laws.proofs.policies.Heard.{alike_from, begun_from, heard_more, unheard_uncommanded}
use Rattle.history_laws.proofs.policies.Moves.{Closes, move_calm}
use Rattle.history_laws.proofs.rows.Written.{AreFine, fine_applied, fine_both, fine_sends}
use Rattle.history_laws.proofs.tables.Ordered.{ordered_plan}
use Rattle.history_laws.proofs.tells.Lasts.{IsUncommanded, uncommanded_both, uncommanded_silent}
use Rattle.history_laws.proofs.tells.Marks.{MarkMade, completes, fails, unmade}
use Rattle.history_laws.proofs.tells.Marks as marks
use Rattle.history_laws.proofs.tells.Silence.{unmarking_mail, unmarking_rows}
use Rattle.step_relation.specs.declared.What.TheVariants as what

-- an entry that is no command, alone
uncommanded_one : (stack : List ℕ) (e : Entry) (es : List Entry) → es ≡ e ∷ []
    → ((it : Latest) → ¬ IsCommandOf stack e it) → IsUncommanded stack es
uncommanded_one stack e es is nay y it among c =
    elim (cases y e [] (subst (λ (z : List Entry). Contains z y) is among)) [
      | inl same ↦ nay it (subst (λ (z : Entry). IsCommandOf stack z it) (sym same) c)
      | inr later ↦ absurd (omega (arith, later.1))
    ]

-- no mark is a command
uncommanded_made : (s t : StateData) (es : List Entry) (stack : List ℕ) → MarkMade s t es → IsUncommanded stack es
uncommanded_made s t es stack (unmade is _ _) = λ y it among c. let empty : Contains [] y =
    subst (λ (z : List Entry). Contains z y) is among in absurd (omega (arith, empty.1))
uncommanded_made s t es stack (fails actor st cause _ _ is _ _) =
    uncommanded_one stack _ es is (λ it c. let eq = c.is in cc)
uncommanded_made s t es stack (completes actor st _ _ _ is _ _) =
    uncommanded_one stack _ es is (λ it c. let eq = c.is in cc)
uncommanded_made s t es stack (marks.deletes actor st _ _ _ _ is _ _) =
    uncommanded_one stack _ es is (λ it c. let eq = c.is in cc)

uncommanded_outcome : (o : Opening) (h : List Entry) (s t : StateData) (e : ℕ) (es : List Entry) (stack : List ℕ)
    → Outcome o h s t e es → IsUncommanded stack es
uncommanded_outcome o h s t e es stack k =
    subst (IsUncommanded stack) (sym k.entries) (uncommanded_both stack k.first k.marks
    (uncommanded_silent stack k.first k.silent) (uncommanded_made s t k.marks stack k.made))

-- of a row that isn't at DELETE it is known where its policy comes from
abbrev IsKnown : Opening → List Entry → Row → Type 0
IsKnown o h r = r.act ≢ Delete → HasPolicyFrom o h r

closes : (o : Opening) (h : List Entry) (s : StateData) → Sound o h s → Closes s (IsKnown o h)
closes o h s x = record {
  old = x.policies.each;
  alike = λ r a same known ne. alike_from o h r a same (known (λ is. ne (same.act ∙ is)));
  deleted = λ r trav ne. absurd (ne refl);
  begun = λ e k a is ne. begun_from o h s x e k a is;
}

pub moves_fit_policies : ToldByMoves PoliciesFit
moves_fit_policies judges o h s e given failed cs es x move tied possible = record {
  each = λ n r at ne. heard_more o h es r
      (unheard_uncommanded es r
      (uncommanded_outcome o h s (applied cs s) e es r.stack (move_outcome o h s e x given failed cs es move)))
      (fine_applied (IsKnown o h) cs s x.policies.each
      (calm_fine (IsKnown o h) cs (move_calm s (IsKnown o h) (closes o h s x) e given failed cs es move)) n r at ne);
}

-- the plan whose items a command lays out
ordered_items : (s : StateData) (name : List ℕ) (items : List Item) (it : Sets) → IsOrdered s name items it
    → (plan_of it.plan).items ≡ items
ordered_items s _ _ _ (creates name plan rb none_ proper) = refl
ordered_items s _ _ _ (updates st plan rb found ne proper) = refl
ordered_items s _ _ _ (deletes st found) = refl
ordered_items s _ _ _ (rolls_back st actor found forward incomplete) = refl

module _ (o : Opening) (h : List Entry) (s : StateData) (name : List ℕ) (items : List Item) (it : Sets)
    (k : Lays s name items) (x : Sound o h s) (ordered : IsOrdered s name items it) where
  abbrev command : Entry
  command = entry_of it.actor (what.Command name s.next.trav it.act it.plan it.past.rollback)

  abbrev behind : List Entry
  behind = rows_entry it.actor (map Set k.rows)
      ++ (mail_entry it.actor (map Sent (first_letters s name items it k)) ++ settled_mark k.graph.nodes s name it)

  abbrev told : List Entry
  told = command ∷ behind

  settled_uncommanded : (nodes : List Node) (stack : List ℕ) → IsUncommanded stack (settled_mark nodes s name it)
  settled_uncommanded [] stack = uncommanded_one stack _ _ refl (λ l c. let eq = c.is in cc)
  settled_uncommanded (node ∷ nodes) stack = uncommanded_silent stack [] tt

  behind_uncommanded : (stack : List ℕ) → IsUncommanded stack behind
  behind_uncommanded stack =
      uncommanded_both stack (rows_entry it.actor (map Set k.rows)) _
      (uncommanded_silent stack _ (unmarking_rows it.actor (map Set k.rows)))
      (uncommanded_both stack (mail_entry it.actor (map Sent (first_letters s name items it k))) _
      (uncommanded_silent stack _ (unmarking_mail it.actor (map Sent (first_letters s name items it k))))
      (settled_uncommanded k.graph.nodes stack))

  -- the command is of a traversal above that of each row
  unheard : (n : ℕ) (r : Row) → row_at s.rows n ≡ Some r → (e : Entry) (l : Latest) → Contains told e
      → IsCommandOf r.stack e l → l.trav ≢ r.trav
  unheard n r at e l among c is = elim (cases e command behind among) [
    | inr later ↦ behind_uncommanded r.stack e l later c
    | inl same ↦
        let below : r.trav < s.next.trav = (x.standing.links.numbered.rows n r at).newest in
        let said = ap_what same ∙ c.is in
        let trav : s.next.trav ≡ l.trav = cc in
        omega (arith, below, trav, is)
  ] where
    ap_what : command ≡ e → command.what ≡ e.what
    ap_what same = ap (λ (z : Entry). z.what) same

  old : (n : ℕ) (r : Row) → row_at s.rows n ≡ Some r → IsKnown o (h ++ told) r
  old n r at ne = heard_more o h told r (unheard n r at) (x.policies.each n r at ne)

  -- a new row has its item's policy
  new_known : (number : ℕ) (item : Item) → Contains items item → HasPolicy it.plan item.name item.policy
  new_known number item among = record {
    item = item;
    asked = subst (λ (is : List Item). item_at is item.name ≡ Some item) (sym (ordered_items s name items it ordered))
        (among_at items item (ordered_plan s x.standing name items it ordered).1.rising among);
    its = refl;
  }

  chosen_fine : (next : ℕ) (some : List Item) (chosen : List ℕ) (rows : List Row)
      → ((item : Item) → Contains some item → Contains items item)
      → Chooses s name s.next.trav next some chosen rows → AreFine (IsKnown o (h ++ told)) (map PutRow rows)
  chosen_fine next _ _ _ within (none _) = tt
  chosen_fine next _ _ _ within (current _ item some r chosen rows is rest) =
      chosen_fine next some chosen rows (λ y among. within y (there y item some among)) rest
  chosen_fine next _ _ _ within (fresh _ item some chosen rows no_ rest) = (
    λ ne. commanded (record {
      entry = command;
      among = Contains-append_right h told command (here command command behind refl);
      it = record { trav = s.next.trav; act = it.act; plan = it.plan };
      command = record { rollback = it.past.rollback; is = refl };
      trav = refl;
      policy = new_known next item (within item (here item item some refl));
    }),
    chosen_fine (next + 1) some chosen rows
        (λ y among. within y (there y item some among)) rest,
  )

  settled_fine : (nodes : List Node) → AreFine (IsKnown o (h ++ told)) (settles_at_once nodes s name it)
  settled_fine [] = by it.act where
    by : (act : Act)
        → AreFine (IsKnown o (h ++ told)) (mark_complete (record (stack_set s name it InProgress) { act = act }))
    by Init = (tt, tt)
    by Create = (tt, tt)
    by Update = (tt, tt)
    by Delete = (tt, tt)
    by Rollback = (tt, tt)
  settled_fine (node ∷ nodes) = tt

  pub command_fits : PoliciesFit o (h ++ told) (applied (laid_changes s name items it k) s)
  command_fits = record {
    each = fine_applied (IsKnown o (h ++ told)) (laid_changes s name items it k) s old (
      tt,
      (
        tt,
        (
          tt,
          fine_both (IsKnown o (h ++ told)) (map PutRow k.rows) _
              (chosen_fine s.next.row items k.chosen k.rows (λ y among. among) k.chooses) (
                tt,
                fine_both (IsKnown o (h ++ told)) (map Send (first_letters s name items it k)) _
                    (fine_sends (IsKnown o (h ++ told)) (first_letters s name items it k))
                    (settled_fine k.graph.nodes),
              ),
        ),
      ),
    );
  }

pub commands_fit_policies : ToldByCommands PoliciesFit
commands_fit_policies o h s name items it k x ordered = command_fits o h s name items it k x ordered

pub others_fit_policies : ToldByOthers PoliciesFit
others_fit_policies = record {
  unstored = λ o h s e given failed cs es call x move begins possible. record {
    each = λ n r at ne. heard_more o h (call ∷ []) r
        (unheard_uncommanded (call ∷ []) r (uncommanded_outcome o h s s e (call ∷ []) r.stack
        (call_outcome o h s e _ failed cs es call x move begins)))
        (x.policies.each n r at ne);
  };
  quiet = λ o h s t it x quiet to. record {
    each = λ n r at ne. heard_more o h (entry_of Main it ∷ []) r
        (unheard_uncommanded (entry_of Main it ∷ []) r (uncommanded_outcome o h s t 0 (entry_of Main it ∷ []) r.stack
        (quiet_outcome o h s t it x quiet to)))
        (x.policies.each n r (subst (λ (u : StateData). row_at u.rows n ≡ Some r) to.is at) ne);
  };
}
