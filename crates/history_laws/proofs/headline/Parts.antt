-- The parts of a step's entries: a call or none, what was written, and a mark or none.
use Rattle.std.proofs.Common.{List, ap, append-nil, append_assoc, inl, inr, refl, subst, sym, ◌∙◌}
use Rattle.std.specs.Prelude.{Contains, List, Option, Some, [], option_map, ℕ, ◌++◌, ◌∷◌, ◌≡◌, ◌≢◌}
use Rattle.heat_plan.specs.declared.calls.Answered.{Answered}
use Rattle.heat_plan.specs.declared.calls.Request.{Request}
use Rattle.heat_plan.specs.declared.phase.Act.{Act}
use Rattle.heat_plan.specs.declared.token.Token.{Token}
use Rattle.provider.specs.Table.{TokenState}
use Rattle.row_table.specs.Rows.{row_at}
use Rattle.row_table.specs.declared.row.Row.{Row}
use Rattle.step_relation.specs.declared.Actor.{Actor}
use Rattle.step_relation.specs.declared.Cause.{Cause}
use Rattle.step_relation.specs.declared.Entry.{Entry}
use Rattle.step_relation.specs.declared.MailWrite.{MailWrite}
use Rattle.step_relation.specs.declared.RowWrite.{RowWrite}
use Rattle.step_relation.specs.Freshness.{plan_of}
use Rattle.step_relation.specs.Rows.{token_of}
use Rattle.step_relation.specs.Writes.{call_entry, entry_of, mail_entry, rows_entry}
use Rattle.step_relation.specs.Could.{could_of}
use Rattle.step_relation.specs.Fits.{Fits}
use Rattle.step_relation.specs.Marked.{Completed, Marked, mark_of, marked_of}
use Rattle.step_relation.specs.Newest.{Latest, newest}
use Rattle.step_relation.specs.Opening.{Opening}
use Rattle.step_relation.specs.Stored.{released, released_by, stored, stored_by}
use Rattle.step_relation.specs.Tokens.{HasRow, IsNamed}
use Rattle.step_relation.specs.Agrees.{StateFits}
use Rattle.step_relation.specs.Headline.{AtPrefix, FitsIn}
use Rattle.history_laws.proofs.tables.Rows.{text_or_not}
use Rattle.history_laws.proofs.tells.Appends.{marked-append, newest-append, released-append, stored-append}
use Rattle.history_laws.proofs.tells.Beside.{beside_mark}
use Rattle.history_laws.proofs.tells.Silence.{IsUncalling, could-silent}
use Rattle.history_laws.proofs.headline.Said.{AllSaid, fits_on, fits_plain, followed_plain}
use Rattle.step_relation.specs.declared.What.TheVariants as what

-- what holds behind one more entry held before it, where the entry says nothing of what may be alive, and of the stack
pub at_back : (o : Opening) (g : List Entry) (e : Entry) → IsUncalling e.what
    → ((rows : List Row) → stored_by rows e.what ≡ rows)
    → ((ts : List Token) → released_by ts e.what ≡ ts)
    → ((stack : List ℕ) (it : Latest) → newest o g stack ≡ Some it → mark_of o g stack ≡ Some Completed
    → (newest o (g ++ e ∷ []) stack ≡ Some it) × (mark_of o (g ++ e ∷ []) stack ≡ Some Completed))
    → AtPrefix o (g ++ e ∷ []) → AtPrefix o g
at_back o g e uncalling rows_same_ tokens_same later k = record {
  complete = complete;
  named = named;
  rows =
      rows;
} where
  could : (t : Token) → could_of o g t ≡ could_of o (g ++ e ∷ []) t
  could t = sym (could-silent o g (e ∷ []) t (uncalling, tt))

  tokens : released o g ≡ released o (g ++ e ∷ [])
  tokens = sym (released-append o g (e ∷ []) ∙ tokens_same (released o g))

  stored_is : stored o g ≡ stored o (g ++ e ∷ [])
  stored_is = sym (stored-append o g (e ∷ []) ∙ rows_same_ (stored o g))

  complete : (stack : List ℕ) (it : Latest) → newest o g stack ≡ Some it → mark_of o g stack ≡ Some Completed
      → Fits o g stack (plan_of it.plan)
  complete stack it newest_is mark_is = let (n, m) = later stack it newest_is mark_is in
      fits_on o stack (g ++ e ∷ []) g (record {
        could = λ t own. could t;
        forth = λ t own c. subst (λ (ts : List Token). Contains ts t) (sym tokens) c;
        back = λ t own c. subst (λ (ts : List Token). Contains ts t) tokens c;
      }) (plan_of it.plan) (k.complete stack it n m)

  named : IsNamed o g
  named t alive = by (k.named t (record {
    lives = record {
      it = alive.lives.it;
      among = subst (λ (ss : List TokenState). Contains ss (Some alive.lives.it))
          (could t) alive.lives.among;
    };
    owned = λ c. alive.owned (subst (λ (ts : List Token). Contains ts t) (sym tokens) c);
  })) where
    by : HasRow o (g ++ e ∷ []) t → HasRow o g t
    by w = record {
      row = w.row;
      found = subst (λ (rows : List Row). row_at rows t.row ≡ Some w.row)
          (sym stored_is) w.found;
      its = w.its;
      begun = w.begun;
    }

  rows : (n : ℕ) (r : Row) (state : TokenState) → row_at (stored o g) n ≡ Some r
      → Contains (could_of o g (token_of r)) state → StateFits r state
  rows n r state at among = k.rows n r state (subst (λ (rs : List Row). row_at rs n ≡ Some r) stored_is at)
      (subst (λ (ss : List TokenState). Contains ss state) (could (token_of r)) among)

pub at_mail : (o : Opening) (g : List Entry) (actor : Actor) (ws : List MailWrite)
    → AtPrefix o (g ++ entry_of actor (what.Mail ws) ∷ []) → AtPrefix o g
at_mail o g actor ws k = at_back o g (entry_of actor (what.Mail ws)) tt (λ rows. refl) (λ ts. refl)
    (λ stack it n m. (
      newest-append o g (entry_of actor (what.Mail ws) ∷ []) stack ∙ n,
      ap (option_map (λ (y : Marked). y.mark)) (marked-append o g (entry_of actor (what.Mail ws) ∷ []) stack) ∙ m,
    )) k

pub at_mark : (o : Opening) (g : List Entry) (actor : Actor) (own : List ℕ) (trav : ℕ) (act : Act)
    (cause : Option Cause) → mark_of o g own ≢ Some Completed
    → AtPrefix o (g ++ entry_of actor (what.Mark own trav act cause) ∷ []) → AtPrefix o g
at_mark o g actor own trav act cause open_ k = at_back o g (entry_of actor (what.Mark own trav act cause)) tt
    (λ rows. refl) (λ ts. refl) later k where
      later : (stack : List ℕ) (it : Latest) → newest o g stack ≡ Some it → mark_of o g stack ≡ Some Completed
          → (newest o (g ++ entry_of actor (what.Mark own trav act cause) ∷ []) stack ≡ Some it)
          × (mark_of o (g ++ entry_of actor (what.Mark own trav act cause) ∷ []) stack ≡ Some Completed)
      later stack it n m = elim (text_or_not own stack) [
        | inl is ↦ absurd (open_ (subst (λ (y : List ℕ). mark_of o g y ≡ Some Completed) (sym is) m))
        | inr ne ↦
            let b = beside_mark stack own actor trav act cause ne in (
              newest-append o g (entry_of actor (what.Mark own trav act cause) ∷ []) stack
                  ∙ (b.newest (newest o g stack) ∙ n),
              ap (option_map (λ (y : Marked). y.mark)) (marked-append o g
                  (entry_of actor (what.Mark own trav act cause) ∷ []) stack ∙ b.marked (marked_of o g stack)) ∙ m,
            )
      ]

-- rows and then mail are written
pub said_written : (o : Opening) (h p : List Entry) (actor : Actor) (rs : List RowWrite) (ws : List MailWrite)
    → AtPrefix o (h ++ p)
    → AtPrefix o (h ++ (p ++ (rows_entry actor rs ++ mail_entry actor ws)))
    → AllSaid o h p (rows_entry actor rs ++ mail_entry actor ws)
said_written o h p actor [] [] k l = k
said_written o h p actor [] (w ∷ ws) k l =
    (k, fits_plain o (h ++ p) (entry_of actor (what.Mail (w ∷ ws))) (tt, tt, λ t i. cc), λ t i. cc, l)
said_written o h p actor (r ∷ rs) [] k l =
    (k, fits_plain o (h ++ p) (entry_of actor (what.Rows (r ∷ rs))) (tt, tt, λ t i. cc), λ t i. cc, l)
said_written o h p actor (r ∷ rs) (w ∷ ws) k l =
    let rows = entry_of actor (what.Rows (r ∷ rs)) in
    let mail = entry_of actor (what.Mail (w ∷ ws)) in
    let both : h ++ (p ++ rows ∷ mail ∷ []) ≡ (h ++ (p ++ rows ∷ [])) ++ mail ∷ [] =
    ap (λ (y : List Entry). h ++ y) (sym (append_assoc p (rows ∷ []) (mail ∷ [])))
    ∙ sym (append_assoc h (p ++ rows ∷ []) (mail ∷ [])) in (
      k,
      fits_plain o (h ++ p) rows (tt, tt, λ t i. cc),
      followed_plain rows (Some mail) (λ t i. cc),
      (
        at_mail o (h ++ (p ++ rows ∷ [])) actor (w ∷ ws) (subst (AtPrefix o) both l),
        fits_plain o (h ++ (p ++ rows ∷ [])) mail (tt, tt, λ t i. cc),
        λ t i. cc,
        subst (AtPrefix o) (ap (λ (y : List Entry). h ++ y) (sym (append_assoc p (rows ∷ []) (mail ∷ [])))) l,
      ),
    )

-- a call
pub said_call : (o : Opening) (h : List Entry) (e : ℕ) (r : Row) (asked : Request) (given : Answered) → AtPrefix o h
    → FitsIn o h (call_entry e r asked given)
    → AtPrefix o (h ++ call_entry e r asked given ∷ []) → AllSaid o h [] (call_entry e r asked given ∷ [])
said_call o h e r asked given k fits_ l = (
  subst (AtPrefix o) (sym (append-nil h)) k,
  subst (λ (y : List Entry). FitsIn o y (call_entry e r asked given)) (sym (append-nil h)) fits_,
  λ t i. cc,
  l,
)

-- a mark at the end
pub said_mark : (o : Opening) (h p : List Entry) (actor : Actor) (own : List ℕ) (trav : ℕ) (act : Act)
    (cause : Option Cause)
    → FitsIn o (h ++ p) (entry_of actor (what.Mark own trav act cause)) → mark_of o (h ++ p) own ≢ Some Completed
    → AtPrefix o (h ++ (p ++ entry_of actor (what.Mark own trav act cause) ∷ []))
    → AllSaid o h p (entry_of actor (what.Mark own trav act cause) ∷ [])
said_mark o h p actor own trav act cause fits_ open_ l = (
  at_mark o (h ++ p) actor own trav act cause open_ (subst (AtPrefix o)
      (sym (append_assoc h p (entry_of actor (what.Mark own trav act cause) ∷ []))) l),
  fits_,
  λ t i. cc,
  l,
)
