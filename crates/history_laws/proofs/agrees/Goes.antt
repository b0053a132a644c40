-- From one state to the next: what may be alive goes on to fit, and what was given up is left alone.
use Rattle.std.proofs.Common.{ap, arith, inl, inr, refl, subst, sym, ◌∙◌}
use Rattle.std.proofs.lemmas.List.Elements.{Contains-append_cases, Contains-append_left, Contains-append_right}
use Rattle.std.specs.Prelude.{Contains, List, None, Some, [], true, ℕ, ◌++◌, ◌<◌, ◌∷◌, ◌≡◌, ◌≢◌, ◌≤◌, ◌⊎◌}
use Rattle.heat_plan.specs.declared.item.Policy.TheVariants.{Retain}
use Rattle.heat_plan.specs.declared.phase.Act.TheVariants.{Delete}
use Rattle.heat_plan.specs.declared.token.Token.{Token}
use Rattle.provider.specs.Table.{Living, TokenState}
use Rattle.row_table.specs.Rows.{row_at}
use Rattle.row_table.specs.declared.row.Row.{Row}
use Rattle.mail_table.specs.Mails.{job_at}
use Rattle.mail_table.specs.declared.mail.Job.{Job}
use Rattle.mail_table.specs.declared.mail.Stage.TheVariants.{Polling}
use Rattle.step_relation.specs.State.{StateData}
use Rattle.step_relation.specs.declared.Entry.{Entry}
use Rattle.step_relation.specs.declared.What.{What}
use Rattle.step_relation.specs.Rows.{token_of}
use Rattle.step_relation.specs.Could.{could_of}
use Rattle.step_relation.specs.Opening.{Opening}
use Rattle.step_relation.specs.Stored.{released, released_by, stored}
use Rattle.step_relation.specs.Tokens.{HasRow, IsAlive, IsNamed, MayLive}
use Rattle.step_relation.specs.Agrees.{Agrees, IsSentAway, PollFits}
use Rattle.step_relation.specs.Numbered.{Numbered}
use Rattle.step_relation.specs.Tells.{IsCallFor, ReleasedFits}
use Rattle.history_laws.proofs.tells.Appends.{released-append, released_on}
use Rattle.history_laws.proofs.tells.Silence.{AreUncalling, IsUncalling}
use Rattle.history_laws.proofs.agrees.Going.{CameFrom, IsUnretained, RowsGo, born_new, came_from}
use Rattle.step_relation.specs.declared.What.TheVariants as what
use Rattle.provider.proofs.Lists.{cases}

-- a job that polls was polling at its row, or asked for what may be alive now
pub data PollGoes (o : Opening) (g : List Entry) (s t : StateData) (f : ℕ) (j : Job) : Type 0 where
  was_polling : job_at s.jobs f ≡ Some j → ((q : Row) → row_at t.rows j.row ≡ Some q → row_at s.rows j.row ≡ Some q)
      → PollGoes o g s t f j
  polls_anew : ((q : Row) (state : TokenState) → row_at t.rows j.row ≡ Some q
      → Contains (could_of o g (token_of q)) state → PollFits q state)
      → PollGoes o g s t f j

-- a token was given up before, or its row goes
pub data GivesUp (s t : StateData) (x : Token) : Type 0 where
  was_given : Contains s.released x → GivesUp s t x
  gives : (r : Row) → row_at s.rows r.no ≡ Some r → token_of r ≡ x → row_at t.rows r.no ≡ None → GivesUp s t x

pub record Goes (o : Opening) (g : List Entry) (s t : StateData) : Type 0 where
  pub rows : RowsGo o g s.next.row s.rows t.rows
  pub jobs : (f : ℕ) (j : Job) → job_at t.jobs f ≡ Some j → j.stage ≡ Polling → PollGoes o g s t f j
  pub up : (x : Token) → Contains s.released x → Contains t.released x
  pub given_up : (x : Token) → Contains t.released x → GivesUp s t x
  pub next : s.next.row ≤ t.next.row

-- the same of the readings of two histories
pub record SameCould (o : Opening) (h g : List Entry) (s t : StateData) : Type 0 where
  pub could : (x : Token) → could_of o g x ≡ could_of o h x
  pub rows_were : stored o h ≡ s.rows
  pub rows_are : stored o g ≡ t.rows
  pub tokens_were : released o h ≡ s.released
  pub tokens_are : released o g ≡ t.released

module _ (o : Opening) (h g : List Entry) (s t : StateData) (same : SameCould o h g s t) (go : Goes o g s t)
    (a : Agrees o h s) where
  back_among : (x : Token) (state : TokenState) → Contains (could_of o g x) state → Contains (could_of o h x) state
  back_among x state among = subst (λ (states : List TokenState). Contains states state) (same.could x) among

  named : IsNamed o g
  named x alive =
      let lived : MayLive (could_of o h x) = record {
        it = alive.lives.it;
        among =
            back_among x (Some alive.lives.it) alive.lives.among;
      } in
      let owned : ¬ Contains (released o h) x = λ c. alive.owned
      (subst (λ (ts : List Token). Contains ts x) (sym same.tokens_are)
      (go.up x (subst (λ (ts : List Token). Contains ts x) same.tokens_were c))) in
      by (a.named x (record { lives = lived; owned = owned })) where
        by : HasRow o h x → HasRow o g x
        by k =
            let found = subst (λ (rows : List Row). row_at rows x.row ≡ Some k.row) same.rows_were k.found in
            let l = go.rows.stays x.row k.row found k.begun (subst (IsAlive o g) (sym k.its) alive) in
            record {
              row = l.row;
              found = subst (λ (rows : List Row). row_at rows x.row ≡ Some l.row) (sym same.rows_are) l.found;
              its = l.same ∙ k.its;
              begun = l.begun;
            }

  polled : (e : ℕ) (j : Job) (r : Row) (state : TokenState) → job_at t.jobs e ≡ Some j → j.stage ≡ Polling
      → row_at t.rows j.row ≡ Some r → Contains (could_of o g (token_of r)) state → PollFits r state
  polled e j r state at stage found among = by (go.jobs e j at stage) where
    by : PollGoes o g s t e j → PollFits r state
    by (polls_anew fits) = fits r state found among
    by (was_polling at_was were) = a.polled e j r state at_was stage (were r found)
        (back_among (token_of r) state among)

  leaving : (x : Token) (it : Living) → Contains (could_of o g x) (Some it) → it.leaving ≡ true → IsSentAway t x
  leaving x it among left = by (a.leaving x it (back_among x (Some it) among) left) where
    by : IsSentAway s x → IsSentAway t x
    by k =
        let l = go.rows.sent x.row k.row k.found k.act
        (record { it = it; among = subst (λ (y : Token). Contains (could_of o g y) (Some it)) (sym k.its) among })
        in
        record { row = l.row; found = l.found; its = l.same ∙ k.its; act = l.act }

  pub agrees_goes : Agrees o g t
  agrees_goes = record {
    named = named;
    rows = go.rows.fits (λ n r state at among. a.rows n r state at (back_among (token_of r) state among));
    polled = polled;
    leaving = leaving;
  }

-- a call isn't among entries without one
pub uncalling_at : (es : List Entry) (e : Entry) → AreUncalling es → Contains es e → IsUncalling e.what
uncalling_at [] e none c = absurd (omega (arith, c.1))
uncalling_at (x ∷ es) e none c = elim (cases e x es c) [
  | inl is ↦ subst (λ (y : Entry). IsUncalling y.what) is none.0
  | inr rest ↦ uncalling_at es e none.1 rest
]

pub uncalling_for : (es : List Entry) (e : Entry) (x : Token) → AreUncalling es → Contains es e → ¬ IsCallFor x e
uncalling_for es e x none among c = subst IsUncalling c.2 (uncalling_at es e none among)

released-grows : (x : Token) (tokens : List Token) (w : What) → Contains tokens x → Contains (released_by tokens w) x
released-grows x tokens (what.Release token) c = Contains-append_left tokens (token ∷ []) x c
released-grows x tokens (what.Command stack trav act plan rollback) c = c
released-grows x tokens (what.Mark stack trav act cause) c = c
released-grows x tokens (what.Call token request given) c = c
released-grows x tokens (what.Rows writes) c = c
released-grows x tokens (what.Mail writes) c = c
released-grows x tokens (what.Engine change) c = c
released-grows x tokens (what.Show it stack) c = c
released-grows x tokens (what.Note line code path) c = c
released-grows x tokens (what.Ran idle turns) c = c
released-grows x tokens (what.Turned engine lost) c = c
released-grows x tokens (what.Preview stack forecast) c = c
released-grows x tokens what.Closed c = c

pub released_on-grows : (x : Token) (tokens : List Token) (es : List Entry) → Contains tokens x
    → Contains (released_on tokens es) x
released_on-grows x tokens [] c = c
released_on-grows x tokens (e ∷ es) c = released_on-grows x (released_by tokens e.what) es
    (released-grows x tokens e.what c)

pub released_later : (o : Opening) (before behind : List Entry) (x : Token) → Contains (released o before) x
    → Contains (released o (before ++ behind)) x
released_later o before behind x c = subst (λ (ts : List Token). Contains ts x)
    (sym (released-append o before behind)) (released_on-grows x (released o before) behind c)

-- where an entry stands behind the split of a joined list
split_at : (h es before behind : List Entry) (e : Entry) → h ++ es ≡ before ++ behind → Contains behind e
    → ((rest : List Entry) × (h ≡ before ++ rest) × Contains rest e) ⊎ Contains es e
split_at h es [] behind e is among = elim (Contains-append_cases h es e
    (subst (λ (x : List Entry). Contains x e) (sym is) among)) [
      | inl own ↦ inl (h, refl, own)
      | inr new ↦ inr new
    ]
split_at [] es (b ∷ before) behind e is among =
    inr (subst (λ (x : List Entry). Contains x e) (sym is) (Contains-append_right (b ∷ before) behind e among))
split_at (x ∷ h) es (b ∷ before) behind e is among =
    let first : x ≡ b = cc in
    let others : h ++ es ≡ before ++ behind = cc in
    elim (split_at h es before behind e others among) [
      | inl (rest, eq, own) ↦ inl (rest, ap (λ (y : Entry). y ∷ h) first ∙ ap (λ (ys : List Entry). b ∷ ys) eq, own)
      | inr new ↦ inr new
    ]

pub uncalled_more : (o : Opening) (h es : List Entry) (s : StateData) → ReleasedFits o h s
    → ((e : Entry) (x : Token) → Contains es e → IsCallFor x e → ¬ Contains (released o (h ++ es)) x)
    → (before behind : List Entry) (x : Token) (e : Entry) → h ++ es ≡ before ++ behind
    → Contains (released o before) x
    → Contains behind e → ¬ IsCallFor x e
uncalled_more o h es s old none before behind x e is given among c = elim (split_at h es before behind e is among) [
  | inl (rest, eq, own) ↦ old.uncalled before rest x e eq given own c
  | inr new ↦ none e x new c (subst (λ (y : List Entry). Contains (released o y) x) (sym is)
      (released_later o before behind x given))
]

module _ (o : Opening) (h g : List Entry) (s t : StateData) (go : Goes o g s t) (numbered : Numbered s)
    (old : ReleasedFits o h s) where
  below : (x : Token) → Contains t.released x → x.row < t.next.row
  below x c = by (go.given_up x c) where
    by : GivesUp s t x → x.row < t.next.row
    by (was_given d) = let lt = old.below x d in let up = go.next in omega (arith, lt, up)
    by (gives r at same none) =
        let lt = (numbered.rows r.no r at).no_ in
        let eq : r.no ≡ x.row = ap (λ (y : Token). y.row) same in
        let up = go.next in omega (arith, lt, up, eq)

  rowless : (x : Token) (q : Row) → Contains t.released x → row_at t.rows x.row ≡ Some q → token_of q ≢ x
  rowless x q c at same = by (go.given_up x c) where
    by : GivesUp s t x → ⊥
    by (gives r at_r same_r none) =
        let none_x = subst (λ (k : ℕ). row_at t.rows k ≡ None) (ap (λ (y : Token). y.row) same_r) none in cc
    by (was_given d) = on (go.rows.were x.row q at) where
      on : CameFrom s.next.row s.rows x.row q → ⊥
      on (came_from r at_r same_q free) = old.rowless x r d at_r (sym same_q ∙ same)
      on (born_new le free) = let lt = old.below x d in omega (arith, lt, le)

  kept : (n : ℕ) (q : Row) → row_at t.rows n ≡ Some q → q.act ≡ Delete → q.policy ≢ Retain
  kept n q at = by (go.rows.were n q at) where
    by : CameFrom s.next.row s.rows n q → IsUnretained q
    by (came_from r at_r same free) = free (old.kept n r at_r)
    by (born_new le free) = free

  pub released_goes : ((before behind : List Entry) (x : Token) (e : Entry) → g ≡ before ++ behind
      → Contains (released o before) x
      → Contains behind e → ¬ IsCallFor x e) → ReleasedFits o g t
  released_goes uncalled = record { below = below; rowless = rowless; uncalled = uncalled; kept = kept }
