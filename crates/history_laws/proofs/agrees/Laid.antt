-- What a command lays out: its rows are new, and what may be alive goes on to fit.
use Rattle.std.proofs.Common.{List, ap, arith, inl, inr, refl, subst, sym, ◌∙◌}
use Rattle.std.proofs.lemmas.Grind.{fold-append}
use Rattle.std.specs.Prelude.{Contains, List, None, Some, [], fold, length, map, ℕ, ◌++◌, ◌+◌, ◌<◌, ◌∷◌, ◌≡◌, ◌≢◌, ◌≤◌}
use Rattle.std.specs.Prelude.{◌⊎◌}
use Rattle.heat_plan.specs.declared.item.Item.{Item}
use Rattle.heat_plan.specs.declared.phase.Act.TheVariants.{Delete}
use Rattle.heat_plan.specs.declared.phase.Status.TheVariants.{InProgress}
use Rattle.heat_plan.specs.declared.token.Token.{Token}
use Rattle.traversal_graph.specs.declared.shape.Node.{Node}
use Rattle.provider.specs.Table.{TokenState}
use Rattle.row_table.specs.Rows.{put_row, row_at}
use Rattle.row_table.specs.declared.row.Row.{Row}
use Rattle.mail_table.specs.Mails.{job_at}
use Rattle.mail_table.specs.declared.mail.Job.{Job}
use Rattle.step_relation.specs.Changes.{applied, fresh_graph}
use Rattle.step_relation.specs.State.{StateData, put_graph, put_past, put_stack}
use Rattle.step_relation.specs.declared.Change.{Change}
use Rattle.step_relation.specs.declared.Change.TheVariants.{PutGraph, Send}
use Rattle.step_relation.specs.declared.Actor.{Actor}
use Rattle.step_relation.specs.declared.Entry.{Entry}
use Rattle.step_relation.specs.declared.MailWrite.{MailWrite}
use Rattle.step_relation.specs.declared.MailWrite.TheVariants.{Sent}
use Rattle.step_relation.specs.declared.RowWrite.{RowWrite}
use Rattle.step_relation.specs.declared.RowWrite.TheVariants.{Set}
use Rattle.step_relation.specs.declared.Numbers.{Numbers}
use Rattle.step_relation.specs.Commands.{Chooses, Lays, Sets, current, first_letters, fresh, laid_changes, laid_entries}
use Rattle.step_relation.specs.Commands.{none, past_command, settled_mark, settles_at_once, stack_set}
use Rattle.step_relation.specs.Rows.{new_row, token_of}
use Rattle.step_relation.specs.Writes.{mail_entry, mark_complete, rows_entry}
use Rattle.step_relation.specs.Could.{could_of}
use Rattle.step_relation.specs.Opening.{Opening}
use Rattle.step_relation.specs.Stored.{released_by, stored_by, written}
use Rattle.step_relation.specs.Agrees.{Agrees}
use Rattle.step_relation.specs.Groups.{ToldByCommands}
use Rattle.step_relation.specs.Sound.{Sound}
use Rattle.step_relation.specs.Tells.{ReleasedFits}
use Rattle.history_laws.proofs.tables.Rows.{row_else}
use Rattle.history_laws.proofs.tells.Appends.{released-append, released_on, stored-append, stored_on}
use Rattle.history_laws.proofs.tells.Silence.{AreUncalling, could-silent, uncalling-both, uncalling_mail, uncalling_rows}
use Rattle.history_laws.proofs.agrees.Begun.{no_next_row, none_next}
use Rattle.history_laws.proofs.agrees.Ends.{applied-rows, applied-sends, rows_in, sent_to}
use Rattle.history_laws.proofs.agrees.Finished.{complete_drop, complete_keep, delete_or_not}
use Rattle.history_laws.proofs.agrees.Goes.{Goes, SameCould, agrees_goes, released_goes, uncalled_more, uncalling_for, was_given}
use Rattle.history_laws.proofs.agrees.Goes.{was_polling}
use Rattle.history_laws.proofs.agrees.Going.{RowsGo, rows_new, rows_same, rows_then}

-- a state behind a command, but for the mark where there is nothing to do
abbrev pub laid_state : (s : StateData) (name : List ℕ) (items : List Item) (it : Sets) → Lays s name items
    → StateData
laid_state s name items it k = record s {
  next = past_command s.next it.stacks (length k.rows) (length k.leaves);
  stacks = put_stack (stack_set s name it InProgress) s.stacks;
  pasts = put_past it.past s.pasts;
  rows = rows_in k.rows s.rows;
  graphs = put_graph (fresh_graph name k.graph) s.graphs;
  letters = sent_to (first_letters s name items it k) s.letters;
}

pub laid_end : (s : StateData) (name : List ℕ) (items : List Item) (it : Sets) (k : Lays s name items)
    → applied (laid_changes s name items it k) s ≡ applied (settles_at_once k.graph.nodes s name it)
    (laid_state s name items it k)
laid_end s name items it k =
    applied-rows (record s {
      next = past_command s.next it.stacks (length k.rows) (length k.leaves);
      stacks = put_stack (stack_set s name it InProgress) s.stacks;
      pasts = put_past it.past s.pasts;
    }) k.rows
    (PutGraph name k.graph ∷ (map Send (first_letters s name items it k) ++ settles_at_once k.graph.nodes s name it))
    ∙ applied-sends (record s {
      next = past_command s.next it.stacks (length k.rows) (length k.leaves);
      stacks = put_stack (stack_set s name it InProgress) s.stacks;
      pasts = put_past it.past s.pasts;
      rows = rows_in k.rows s.rows;
      graphs = put_graph (fresh_graph name k.graph) s.graphs;
    }) (first_letters s name items it k) (settles_at_once k.graph.nodes s name it)

-- what a mark at once leaves of rows, jobs, tokens and numbers: all
pub settle_keeps : (P : List Row → List Job → List Token → Numbers → Type 0) (nodes : List Node) (s t : StateData)
    (name : List ℕ) (it : Sets)
    → P t.rows t.jobs t.released t.next
    → P (applied (settles_at_once nodes s name it) t).rows (applied (settles_at_once nodes s name it) t).jobs
    (applied (settles_at_once nodes s name it) t).released (applied (settles_at_once nodes s name it) t).next
settle_keeps P (node ∷ nodes) s t name it h = h
settle_keeps P [] s t name it h = by (delete_or_not it.act) where
  by : (it.act ≡ Delete) ⊎ (it.act ≢ Delete) → P (applied (mark_complete (stack_set s name it InProgress)) t).rows
      (applied (mark_complete (stack_set s name it InProgress)) t).jobs
      (applied (mark_complete (stack_set s name it InProgress)) t).released
      (applied (mark_complete (stack_set s name it InProgress)) t).next
  by (inl act) = subst (λ (m : List Change). P (applied m t).rows (applied m t).jobs (applied m t).released
      (applied m t).next)
      (sym (complete_drop (stack_set s name it InProgress) act)) h
  by (inr ne) = subst (λ (m : List Change). P (applied m t).rows (applied m t).jobs (applied m t).released
      (applied m t).next)
      (sym (complete_keep (stack_set s name it InProgress) ne)) h

written-sets : (qs rows : List Row) → fold written rows (map Set qs) ≡ rows_in qs rows
written-sets [] rows = refl
written-sets (q ∷ qs) rows = written-sets qs (put_row q rows)

pub stored_on-sets : (actor : Actor) (qs rows : List Row) → stored_on rows
    (rows_entry actor (map Set qs)) ≡ rows_in qs rows
stored_on-sets actor [] rows = refl
stored_on-sets actor (q ∷ qs) rows = written-sets (q ∷ qs) rows

stored_on-mail : (actor : Actor) (ws : List MailWrite) (rows : List Row) → stored_on rows (mail_entry actor ws) ≡ rows
stored_on-mail actor [] rows = refl
stored_on-mail actor (w ∷ ws) rows = refl

stored_on-settled : (nodes : List Node) (s : StateData) (name : List ℕ) (it : Sets) (rows : List Row)
    → stored_on rows (settled_mark nodes s name it) ≡ rows
stored_on-settled [] s name it rows = refl
stored_on-settled (node ∷ nodes) s name it rows = refl

released_on-rows : (actor : Actor) (ws : List RowWrite) (ts : List Token) → released_on ts (rows_entry actor ws) ≡ ts
released_on-rows actor [] ts = refl
released_on-rows actor (w ∷ ws) ts = refl

released_on-mail : (actor : Actor) (ws : List MailWrite) (ts : List Token) → released_on ts (mail_entry actor ws) ≡ ts
released_on-mail actor [] ts = refl
released_on-mail actor (w ∷ ws) ts = refl

released_on-settled : (nodes : List Node) (s : StateData) (name : List ℕ) (it : Sets) (ts : List Token)
    → released_on ts (settled_mark nodes s name it) ≡ ts
released_on-settled [] s name it ts = refl
released_on-settled (node ∷ nodes) s name it ts = refl

pub stored_on-both : (rows : List Row) (es fs : List Entry) → stored_on rows (es ++ fs) ≡ stored_on
    (stored_on rows es) fs
stored_on-both rows es fs = fold-append (λ (rs : List Row) (e : Entry). stored_by rs e.what) rows es fs

pub released_on-both : (ts : List Token) (es fs : List Entry)
    → released_on ts (es ++ fs) ≡ released_on (released_on ts es) fs
released_on-both ts es fs = fold-append (λ (x : List Token) (e : Entry). released_by x e.what) ts es fs

uncalling_settled : (nodes : List Node) (s : StateData) (name : List ℕ) (it : Sets)
    → AreUncalling (settled_mark nodes s name it)
uncalling_settled [] s name it = (tt, tt)
uncalling_settled (node ∷ nodes) s name it = tt

module _ (s : StateData) (name : List ℕ) (items : List Item) (it : Sets) (k : Lays s name items) where
  pub laid_uncalling : AreUncalling (laid_entries s name items it k)
  laid_uncalling = (
    tt,
    uncalling-both (rows_entry it.actor (map Set k.rows)) _ (uncalling_rows it.actor (map Set k.rows))
        (uncalling-both (mail_entry it.actor (map Sent (first_letters s name items it k))) _
        (uncalling_mail it.actor (map Sent (first_letters s name items it k)))
        (uncalling_settled k.graph.nodes s name it)),
  )

  pub laid_stored : (rows : List Row) → stored_on rows (laid_entries s name items it k) ≡ rows_in k.rows rows
  laid_stored rows =
      stored_on-both rows (rows_entry it.actor (map Set k.rows))
      (mail_entry it.actor (map Sent (first_letters s name items it k)) ++ settled_mark k.graph.nodes s name it)
      ∙ (stored_on-both (stored_on rows (rows_entry it.actor (map Set k.rows)))
      (mail_entry it.actor (map Sent (first_letters s name items it k))) (settled_mark k.graph.nodes s name it)
      ∙ (stored_on-settled k.graph.nodes s name it (stored_on (stored_on rows (rows_entry it.actor (map Set k.rows)))
      (mail_entry it.actor (map Sent (first_letters s name items it k))))
      ∙ (stored_on-mail it.actor (map Sent (first_letters s name items it k))
      (stored_on rows (rows_entry it.actor (map Set k.rows)))
      ∙ stored_on-sets it.actor k.rows rows)))

  pub laid_released : (ts : List Token) → released_on ts (laid_entries s name items it k) ≡ ts
  laid_released ts =
      released_on-both ts (rows_entry it.actor (map Set k.rows))
      (mail_entry it.actor (map Sent (first_letters s name items it k)) ++ settled_mark k.graph.nodes s name it)
      ∙ (released_on-both (released_on ts (rows_entry it.actor (map Set k.rows)))
      (mail_entry it.actor (map Sent (first_letters s name items it k))) (settled_mark k.graph.nodes s name it)
      ∙ (released_on-settled k.graph.nodes s name it (released_on
      (released_on ts (rows_entry it.actor (map Set k.rows)))
      (mail_entry it.actor (map Sent (first_letters s name items it k))))
      ∙ (released_on-mail it.actor (map Sent (first_letters s name items it k))
      (released_on ts (rows_entry it.actor (map Set k.rows)))
      ∙ released_on-rows it.actor (map Set k.rows) ts)))

-- the new rows, one behind another
pub record RowsLaid (o : Opening) (g : List Entry) (next : ℕ) (before after_ : List Row) : Type 0 where
  pub go : RowsGo o g next before after_
  pub else_ : (m : ℕ) → m < next → row_at after_ m ≡ row_at before m

pub rows_laid : (o : Opening) (g : List Entry) (s : StateData) (stack : List ℕ) (trav first n : ℕ) (items : List Item)
    (chosen : List ℕ) (rows table : List Row)
    → Chooses s stack trav n items chosen rows → first ≤ n → ((m : ℕ) → n ≤ m → row_at table m ≡ None)
    → ((t : Token) (state : TokenState) → first ≤ t.row → Contains (could_of o g t) state → state ≡ None)
    → RowsLaid o g first table (rows_in rows table)
rows_laid o g s stack trav first n _ _ _ table (none _) le free no_life =
    record { go = rows_same o g first table; else_ = λ m lt. refl }
rows_laid o g s stack trav first n _ _ rows table (current _ item items r chosen _ is more) le free no_life =
    rows_laid o g s stack trav first n items chosen rows table more le free no_life
rows_laid o g s stack trav first n _ _ _ table (fresh _ item items chosen rows no_current more) le free no_life =
    let q = new_row stack trav n item in
    let rest = rows_laid o g s stack trav first (n + 1) items chosen rows (put_row q table) more (omega (arith, le))
    (λ m below. row_else q table m (λ i. omega (arith, below, i)) ∙ free m (omega (arith, below))) no_life in
    record {
      go = rows_then o g first table (put_row q table) (rows_in rows (put_row q table))
          (rows_new o g first q table (free n (omega arith)) le (λ act. cc)
          (λ state among. record {
            init = λ act. no_life (token_of q) state le among;
            creating = λ act. cc;
            ready = λ done ne. absurd (ne refl);
            updating = λ act. cc;
          })) rest.go;
      else_ = λ m lt. rest.else_ m lt ∙ row_else q table m (λ i. omega (arith, lt, le, i));
    }

module _ (o : Opening) (h : List Entry) (s : StateData) (x : Sound o h s) (name : List ℕ) (items : List Item)
    (it : Sets) (k : Lays s name items) where
  abbrev g : List Entry
  g = h ++ laid_entries s name items it k

  laid : RowsLaid o g s.next.row s.rows (rows_in k.rows s.rows)
  laid = rows_laid o g s name s.next.trav s.next.row s.next.row items k.chosen k.rows s.rows k.chooses (omega arith)
      (λ m le. no_next_row o h s 0 x m le)
      (λ t state le among. none_next o h s 0 x t state le
      (subst (λ (ss : List TokenState). Contains ss state) (could-silent o h (laid_entries s name items it k) t
      (laid_uncalling s name items it k)) among))

  pub laid_goes : (t : StateData) → t.rows ≡ rows_in k.rows s.rows → t.jobs ≡ s.jobs → t.released ≡ s.released
      → s.next.row ≤ t.next.row → Goes o g s t
  laid_goes t rows jobs tokens up = record {
    rows = subst (λ (y : List Row). RowsGo o g s.next.row s.rows y) (sym rows) laid.go;
    jobs = λ f j at stage.
        let was = subst (λ (y : List Job). job_at y f ≡ Some j) jobs at in
        was_polling was (λ q found. sym (laid.else_ j.row (x.standing.links.numbered.jobs f j was).its_row)
        ∙ subst (λ (y : List Row). row_at y j.row ≡ Some q) rows found);
    up = λ y c. subst (λ (ts : List Token). Contains ts y) (sym tokens) c;
    given_up = λ y c. was_given (subst (λ (ts : List Token). Contains ts y) tokens c);
    next = up;
  }

  pub laid_same : (t : StateData) → t.rows ≡ rows_in k.rows s.rows → t.released ≡ s.released → SameCould o h g s t
  laid_same t rows tokens = record {
    could = λ y. could-silent o h (laid_entries s name items it k) y (laid_uncalling s name items it k);
    rows_were = x.tells.rows;
    rows_are = stored-append o h (laid_entries s name items it k)
        ∙ (ap (λ (y : List Row). stored_on y (laid_entries s name items it k)) x.tells.rows
        ∙ (laid_stored s name items it k s.rows ∙ sym rows));
    tokens_were = x.tells.tokens;
    tokens_are = released-append o h (laid_entries s name items it k)
        ∙ (ap (λ (y : List Token). released_on y (laid_entries s name items it k)) x.tells.tokens
        ∙ (laid_released s name items it k s.released ∙ sym tokens));
  }

-- what the laws read of the end state
pub record EndOf (s t : StateData) (name : List ℕ) (items : List Item) (k : Lays s name items) : Type 0 where
  pub rows : t.rows ≡ rows_in k.rows s.rows
  pub jobs : t.jobs ≡ s.jobs
  pub tokens : t.released ≡ s.released
  pub up : s.next.row ≤ t.next.row

pub end_of : (s : StateData) (name : List ℕ) (items : List Item) (it : Sets) (k : Lays s name items)
    → EndOf s (applied (laid_changes s name items it k) s) name items k
end_of s name items it k = subst (λ (t : StateData). EndOf s t name items k) (sym (laid_end s name items it k))
    (by (settle_keeps (λ (rows : List Row) (jobs : List Job) (ts : List Token) (next : Numbers).
    (rows ≡ rows_in k.rows s.rows) × (jobs ≡ s.jobs) × (ts ≡ s.released) × (s.next.row ≤ next.row))
    k.graph.nodes s (laid_state s name items it k) name it (refl, refl, refl, omega arith))) where
      by : ((applied (settles_at_once k.graph.nodes s name it) (laid_state s name items it k)).rows
          ≡ rows_in k.rows s.rows)
          × ((applied (settles_at_once k.graph.nodes s name it) (laid_state s name items it k)).jobs ≡ s.jobs)
          × ((applied (settles_at_once k.graph.nodes s name it) (laid_state s name items it k)).released ≡ s.released)
          × (s.next.row ≤ (applied (settles_at_once k.graph.nodes s name it) (laid_state s name items it k)).next.row)
          → EndOf s (applied (settles_at_once k.graph.nodes s name it) (laid_state s name items it k)) name items k
      by (rows, jobs, tokens, up) = record { rows = rows; jobs = jobs; tokens = tokens; up = up }

pub commands_agree : ToldByCommands Agrees
commands_agree o h s name items it k x ordered =
    let t = applied (laid_changes s name items it k) s in
    let d = end_of s name items it k in
    agrees_goes o h (h ++ laid_entries s name items it k) s t (laid_same o h s x name items it k t d.rows d.tokens)
    (laid_goes o h s x name items it k t d.rows d.jobs d.tokens d.up) x.agrees

pub commands_release : ToldByCommands ReleasedFits
commands_release o h s name items it k x ordered =
    let t = applied (laid_changes s name items it k) s in
    let d = end_of s name items it k in
    released_goes o h (h ++ laid_entries s name items it k) s t
    (laid_goes o h s x name items it k t d.rows d.jobs d.tokens d.up)
    x.standing.links.numbered x.released
    (uncalled_more o h (laid_entries s name items it k) s x.released
    (λ c y among for_ given_. uncalling_for (laid_entries s name items it k) c y
    (laid_uncalling s name items it k) among for_))
