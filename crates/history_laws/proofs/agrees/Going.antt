-- How the rows of a table may go on, so that what may be alive still fits them: each write, and one behind another.
use Rattle.std.proofs.Common.{ap, inl, inr, refl, subst, sym, ◌∙◌}
use Rattle.std.specs.Prelude.{Contains, List, None, Option, Some, unwrap_or, ℕ, ◌≡◌, ◌≢◌, ◌≤◌}
use Rattle.heat_value.specs.Data.{Members}
use Rattle.heat_plan.specs.declared.item.Policy.TheVariants.{Retain}
use Rattle.heat_plan.specs.declared.kind.Kind.{Kind}
use Rattle.heat_plan.specs.declared.phase.Act.TheVariants.{Delete, Init}
use Rattle.heat_plan.specs.declared.token.Token.{Token}
use Rattle.provider.specs.Table.{TokenState}
use Rattle.row_table.specs.Rows.{cut_row, put_row, row_at}
use Rattle.row_table.specs.declared.row.Row.{Row}
use Rattle.step_relation.specs.declared.Entry.{Entry}
use Rattle.step_relation.specs.Rows.{token_of}
use Rattle.step_relation.specs.Could.{could_of}
use Rattle.step_relation.specs.Opening.{Opening}
use Rattle.step_relation.specs.Tokens.{IsAlive, MayLive}
use Rattle.step_relation.specs.Agrees.{IsAliveAs, IsReadyAs, StateFits}
use Rattle.history_laws.proofs.tables.Rows.{row_cut, row_else, row_here, row_kept, row_put, same_or_not, same_some}

-- a row at DELETE isn't retained
abbrev pub IsUnretained : Row → Type 0
IsUnretained r = r.act ≡ Delete → r.policy ≢ Retain

-- a row found later was there under its token, or has a new number
pub data CameFrom (next : ℕ) (before : List Row) (n : ℕ) (q : Row) : Type 0 where
  came_from : (r : Row) → row_at before n ≡ Some r → token_of q ≡ token_of r → (IsUnretained r → IsUnretained q)
      → CameFrom next before n q
  born_new : next ≤ n → IsUnretained q → CameFrom next before n q

-- the row of an alive token stands on
pub record StandsOn (rows : List Row) (n : ℕ) (r : Row) : Type 0 where
  pub row : Row
  pub found : row_at rows n ≡ Some row
  pub same : token_of row ≡ token_of r
  pub begun : row.act ≢ Init

-- and that of a leaving one at DELETE
pub record LeavesOn (rows : List Row) (n : ℕ) (r : Row) : Type 0 where
  pub row : Row
  pub found : row_at rows n ≡ Some row
  pub same : token_of row ≡ token_of r
  pub act : row.act ≡ Delete

-- what may be alive under each row's token fits the row
abbrev pub AllFit : Opening → List Entry → List Row → Type 0
AllFit o g rows = (n : ℕ) (r : Row) (state : TokenState) → row_at rows n ≡ Some r
    → Contains (could_of o g (token_of r)) state → StateFits r state

pub record RowsGo (o : Opening) (g : List Entry) (next : ℕ) (before after_ : List Row) : Type 0 where
  pub fits : AllFit o g before → AllFit o g after_
  pub stays : (n : ℕ) (r : Row) → row_at before n ≡ Some r → r.act ≢ Init → IsAlive o g (token_of r)
      → StandsOn after_ n r
  pub sent : (n : ℕ) (r : Row) → row_at before n ≡ Some r → r.act ≡ Delete → MayLive (could_of o g (token_of r))
      → LeavesOn after_ n r
  pub were : (n : ℕ) (q : Row) → row_at after_ n ≡ Some q → CameFrom next before n q

-- what is looked at of a row to say what may be alive
pub record Looks (r q : Row) : Type 0 where
  pub token : token_of q ≡ token_of r
  pub act : q.act ≡ r.act
  pub status : q.status ≡ r.status
  pub kind : q.kind ≡ r.kind
  pub props : q.props ≡ r.props
  pub target : q.target ≡ r.target
  pub facts : q.facts ≡ r.facts

alive_look : (r q : Row) (props : Members) (state : TokenState) → q.kind ≡ r.kind → IsAliveAs r props state
    → IsAliveAs q props state
alive_look r q props state kind a = record {
  it = a.it;
  alive = a.alive;
  kind = a.kind
      ∙ ap (λ (x : Kind). x.name) (sym kind);
  props_are = a.props_are;
}

pub look_fits : (r q : Row) (state : TokenState) → Looks r q → StateFits r state → StateFits q state
look_fits r q state l f = record {
  init = λ act. f.init (sym l.act ∙ act);
  creating = λ act status. elim (f.creating (sym l.act ∙ act) (sym l.status ∙ status)) [
    | inl none ↦ inl none
    | inr alive ↦ inr (subst (λ (p : Members). IsAliveAs q p state) (sym l.props)
        (alive_look r q r.props state l.kind alive))
  ];
  ready = λ status init delete. by (f.ready (sym l.status ∙ status) (λ e. init (l.act ∙ e))
      (λ e. delete (l.act ∙ e)));
  updating = λ act status. elim (f.updating (sym l.act ∙ act) (sym l.status ∙ status)) [
    | inl old ↦ inl (subst (λ (p : Members). IsAliveAs q p state) (sym l.props)
        (alive_look r q r.props state l.kind old))
    | inr new ↦ inr (subst (λ (p : Members). IsAliveAs q p state)
        (ap (λ (x : Option Members). unwrap_or x r.props) (sym l.target)
        ∙ ap (λ (x : Members). unwrap_or q.target x) (sym l.props))
        (alive_look r q (unwrap_or r.target r.props) state l.kind new))
  ];
} where
  by : IsReadyAs r state → IsReadyAs q state
  by k = record {
    alive = record {
      it = k.alive.it;
      alive = k.alive.alive;
      kind = k.alive.kind
          ∙ ap (λ (x : Kind). x.name) (sym l.kind);
      props_are = k.alive.props_are ∙ sym l.props;
    };
    facts = k.facts ∙ sym l.facts;
  }

module _ (o : Opening) (g : List Entry) (next : ℕ) where
  pub rows_same : (rows : List Row) → RowsGo o g next rows rows
  rows_same rows = record {
    fits = λ fit. fit;
    stays = λ n r at begun alive. record { row = r; found = at; same = refl; begun = begun };
    sent = λ n r at act lives. record { row = r; found = at; same = refl; act = act };
    were = λ n q at. came_from q at refl (λ k. k);
  }

  pub rows_then : (a b c : List Row) → RowsGo o g next a b → RowsGo o g next b c → RowsGo o g next a c
  rows_then a b c x y = record { fits = λ fit. y.fits (x.fits fit); stays = stays; sent = sent; were = were } where
    stays : (n : ℕ) (r : Row) → row_at a n ≡ Some r → r.act ≢ Init → IsAlive o g (token_of r) → StandsOn c n r
    stays n r at begun alive =
        let k = x.stays n r at begun alive in
        let l = y.stays n k.row k.found k.begun (subst (IsAlive o g) (sym k.same) alive) in
        record { row = l.row; found = l.found; same = l.same ∙ k.same; begun = l.begun }

    sent : (n : ℕ) (r : Row) → row_at a n ≡ Some r → r.act ≡ Delete → MayLive (could_of o g (token_of r))
        → LeavesOn c n r
    sent n r at act lives =
        let k = x.sent n r at act lives in
        let l = y.sent n k.row k.found k.act (subst (λ (t : Token). MayLive (could_of o g t)) (sym k.same) lives) in
        record { row = l.row; found = l.found; same = l.same ∙ k.same; act = l.act }

    were : (n : ℕ) (q : Row) → row_at c n ≡ Some q → CameFrom next a n q
    were n q at = by (y.were n q at) where
      by : CameFrom next b n q → CameFrom next a n q
      by (born_new below free) = born_new below free
      by (came_from r at_r same free) = on (x.were n r at_r) where
        on : CameFrom next a n r → CameFrom next a n q
        on (born_new below free_r) = born_new below (free free_r)
        on (came_from p at_p same_p free_p) = came_from p at_p (same ∙ same_p) (λ k. free (free_p k))

  -- a row is written over one of its token
  pub rows_put : (r q : Row) (rows : List Row) → row_at rows q.no ≡ Some r → token_of q ≡ token_of r
      → (IsUnretained r → IsUnretained q)
      → (r.act ≢ Init → q.act ≢ Init) → (r.act ≡ Delete → q.act ≡ Delete)
      → ((state : TokenState) → Contains (could_of o g (token_of r)) state → StateFits r state → StateFits q state)
      → RowsGo o g next rows (put_row q rows)
  rows_put r q rows at_r same free begun deleted_ fit = record {
    fits = fits;
    stays = stays;
    sent = sent;
    were =
        were;
  } where
    fits : AllFit o g rows → AllFit o g (put_row q rows)
    fits fit_all n p state at among = elim (row_put q rows at) [
      | inl is ↦ subst (λ (x : Row). StateFits x state) is.1
          (let among_q = subst (λ (x : Row). Contains (could_of o g (token_of x)) state) (sym is.1) among in
          let among_r = subst (λ (t : Token). Contains (could_of o g t) state) same among_q in
          fit state among_r (fit_all q.no r state at_r among_r))
      | inr old ↦ fit_all n p state old.1 among
    ]

    stays : (n : ℕ) (p : Row) → row_at rows n ≡ Some p → p.act ≢ Init → IsAlive o g (token_of p)
        → StandsOn (put_row q rows) n p
    stays n p at begun_p alive = elim (same_or_not q.no n) [
      | inl is ↦
          let own : p ≡ r = same_some p r (subst (λ (k : ℕ). row_at rows k ≡ Some p) (sym is) at) at_r in
          record {
            row = q;
            found = subst (λ (k : ℕ). row_at (put_row q rows) k ≡ Some q) is (row_here q rows);
            same = same ∙ ap token_of (sym own);
            begun = begun (subst (λ (x : Row). x.act ≢ Init) own begun_p);
          }
      | inr ne ↦ record { row = p; found = row_else q rows n ne ∙ at; same = refl; begun = begun_p }
    ]

    sent : (n : ℕ) (p : Row) → row_at rows n ≡ Some p → p.act ≡ Delete → MayLive (could_of o g (token_of p))
        → LeavesOn (put_row q rows) n p
    sent n p at act lives = elim (same_or_not q.no n) [
      | inl is ↦
          let own : p ≡ r = same_some p r (subst (λ (k : ℕ). row_at rows k ≡ Some p) (sym is) at) at_r in
          record {
            row = q;
            found = subst (λ (k : ℕ). row_at (put_row q rows) k ≡ Some q) is (row_here q rows);
            same = same ∙ ap token_of (sym own);
            act = deleted_ (ap (λ (x : Row). x.act) (sym own) ∙ act);
          }
      | inr ne ↦ record { row = p; found = row_else q rows n ne ∙ at; same = refl; act = act }
    ]

    were : (n : ℕ) (p : Row) → row_at (put_row q rows) n ≡ Some p → CameFrom next rows n p
    were n p at = elim (row_put q rows at) [
      | inl is ↦ subst (λ (x : Row). CameFrom next rows n x) is.1
          (came_from r (subst (λ (k : ℕ). row_at rows k ≡ Some r) is.0 at_r) same free)
      | inr old ↦ came_from p old.1 refl (λ k. k)
    ]

  -- one that is looked at alike
  pub rows_look : (r q : Row) (rows : List Row) → row_at rows q.no ≡ Some r → Looks r q
      → (r.act ≡ Delete → q.policy ≡ r.policy)
      → RowsGo o g next rows (put_row q rows)
  rows_look r q rows at_r l policy =
      rows_put r q rows at_r l.token (λ k act retained. let was_ = sym l.act
      ∙ act in k was_ (sym (policy was_) ∙ retained))
      (λ begun init. begun (sym l.act ∙ init)) (λ act. l.act ∙ act) (λ state among f. look_fits r q state l f)

  -- a row under a new number
  pub rows_new : (q : Row) (rows : List Row) → row_at rows q.no ≡ None → next ≤ q.no → IsUnretained q
      → ((state : TokenState) → Contains (could_of o g (token_of q)) state → StateFits q state)
      → RowsGo o g next rows (put_row q rows)
  rows_new q rows free below unretained fit = record {
    fits = λ fit_all n p state at among. elim (row_put q rows at) [
      | inl is ↦ subst (λ (x : Row). StateFits x state) is.1
          (fit state (subst (λ (x : Row). Contains (could_of o g (token_of x)) state) (sym is.1) among))
      | inr old ↦ fit_all n p state old.1 among
    ];
    stays = λ n p at begun alive. record {
      row = p;
      found = row_else q rows n (apart n p at)
          ∙ at;
      same = refl;
      begun = begun;
    };
    sent = λ n p at act lives. record {
      row = p;
      found = row_else q rows n (apart n p at)
          ∙ at;
      same = refl;
      act = act;
    };
    were = λ n p at. elim (row_put q rows at) [
      | inl is ↦ subst (λ (x : Row). CameFrom next rows n x) is.1
          (born_new (subst (λ (k : ℕ). next ≤ k) is.0 below) unretained)
      | inr old ↦ came_from p old.1 refl (λ k. k)
    ];
  } where
    apart : (n : ℕ) (p : Row) → row_at rows n ≡ Some p → q.no ≢ n
    apart n p at is = let none = subst (λ (k : ℕ). row_at rows k ≡ None) is free in cc

  -- a row goes whose token isn't alive, or was given up
  pub rows_cut : (r : Row) (rows : List Row) → row_at rows r.no ≡ Some r → (r.act ≢ Init → ¬ IsAlive o g (token_of r))
      → (r.act ≡ Delete → ¬ MayLive (could_of o g (token_of r))) → RowsGo o g next rows (cut_row r.no rows)
  rows_cut r rows at_r unalive gone = record {
    fits = λ fit_all n p state at among. fit_all n p state (row_cut r.no rows at).1 among;
    stays = λ n p at begun alive. elim (same_or_not r.no n) [
      | inl is ↦ let own : p ≡ r = same_some p r (subst (λ (k : ℕ). row_at rows k ≡ Some p) (sym is) at) at_r in
          absurd (unalive (subst (λ (x : Row). x.act ≢ Init) own begun)
          (subst (λ (x : Row). IsAlive o g (token_of x)) own alive))
      | inr ne ↦ record { row = p; found = row_kept r.no rows n ne ∙ at; same = refl; begun = begun }
    ];
    sent = λ n p at act lives. elim (same_or_not r.no n) [
      | inl is ↦ let own : p ≡ r = same_some p r (subst (λ (k : ℕ). row_at rows k ≡ Some p) (sym is) at) at_r in
          absurd (gone (ap (λ (x : Row). x.act) (sym own) ∙ act)
          (subst (λ (x : Row). MayLive (could_of o g (token_of x))) own lives))
      | inr ne ↦ record { row = p; found = row_kept r.no rows n ne ∙ at; same = refl; act = act }
    ];
    were = λ n p at. came_from p (row_cut r.no rows at).1 refl (λ k. k);
  }
