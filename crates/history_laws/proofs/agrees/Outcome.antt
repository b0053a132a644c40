-- All that the laws need of a move: what its entries say, its marks, its call, and that what may be alive goes on
-- to fit.
use Rattle.std.proofs.Common.{ap, append_assoc, inl, inr, refl, subst, sym, ◌∙◌}
use Rattle.std.proofs.lemmas.List.Elements.{Contains-append_right}
use Rattle.std.specs.Prelude.{Contains, List, Some, [], ℕ, ◌++◌, ◌∷◌, ◌≡◌, ◌≢◌, ◌⊎◌}
use Rattle.heat_plan.specs.declared.calls.Answered.{Answered}
use Rattle.heat_plan.specs.declared.calls.Request.{Request}
use Rattle.heat_plan.specs.declared.token.Token.{Token}
use Rattle.row_table.specs.Rows.{row_at}
use Rattle.row_table.specs.declared.row.Row.{Row}
use Rattle.step_relation.specs.State.{StateData}
use Rattle.step_relation.specs.declared.Actor.TheVariants.{Engine}
use Rattle.step_relation.specs.declared.Entry.{Entry}
use Rattle.step_relation.specs.Rows.{token_of}
use Rattle.step_relation.specs.Writes.{call_entry, entry_of}
use Rattle.step_relation.specs.Could.{could_of}
use Rattle.step_relation.specs.Opening.{Opening}
use Rattle.step_relation.specs.Stored.{released, stored}
use Rattle.step_relation.specs.Agrees.{Agrees}
use Rattle.step_relation.specs.Sound.{Sound}
use Rattle.step_relation.specs.Tells.{IsCallFor, IsCalling, ReleasedFits, Tells}
use Rattle.history_laws.proofs.tables.Rows.{row_self}
use Rattle.history_laws.proofs.tells.Appends.{released-append, released_on, stored-append, stored_on}
use Rattle.history_laws.proofs.tells.Lasts.{split}
use Rattle.history_laws.proofs.tells.Marks.{MarkMade, StacksTold, stacks_told}
use Rattle.history_laws.proofs.tells.Silence.{AreUncalling, AreUnmarking, IsUncalling, could-silent}
use Rattle.history_laws.proofs.agrees.CallTold.{CallsFor, called_agrees}
use Rattle.history_laws.proofs.agrees.Goes.{Goes, agrees_goes, released_goes, uncalled_more, uncalling_at, uncalling_for}
use Rattle.step_relation.specs.declared.What.TheVariants as what
use Rattle.provider.proofs.Lists.{here, cases}

-- a move called nobody, or first called for its job's row
pub data CallMade (s t : StateData) (e : ℕ) (es : List Entry) : Type 0 where
  uncalled : AreUncalling es → es ≢ [] → CallMade s t e es
  called : (r : Row) (asked : Request) (given : Answered) (rest : List Entry) → CallsFor s e r asked
      → es ≡ call_entry e r asked given ∷ rest → AreUncalling rest → (rest ≢ []) ⊎ IsCalling t e
      → t.released ≡ s.released → CallMade s t e es

pub record Outcome (o : Opening) (h : List Entry) (s t : StateData) (e : ℕ) (es : List Entry) : Type 0 where
  pub first : List Entry
  pub marks : List Entry
  pub entries : es ≡ first ++ marks
  pub silent : AreUnmarking first
  pub stored_is : stored_on s.rows es ≡ t.rows
  pub released_is : released_on s.released es ≡ t.released
  pub made : MarkMade s t marks
  pub call : CallMade s t e es
  pub goes : Goes o (h ++ es) s t

-- where entries end with a call, the last of them that is no call stands before it
pub never_last : (xs rest mid : List Entry) (c : Entry) → xs ++ rest ≡ mid ++ c ∷ [] → AreUncalling rest → rest ≢ []
    → ¬ ¬ IsUncalling c.what
never_last xs rest mid c is none some = by (split xs rest mid [] c is) where
  by : ((r : List Entry) × (xs ≡ mid ++ c ∷ r) × ([] ≡ r ++ rest)) ⊎
      ((m : List Entry) × (rest ≡ m ++ c ∷ []) × (mid ≡ xs ++ m)) → ¬ ¬ IsUncalling c.what
  by (inl (r, xs_is, nothing)) no_ = some (empty r rest (sym nothing)) where
    empty : (a b : List Entry) → a ++ b ≡ [] → b ≡ []
    empty [] b i = i
    empty (y ∷ ys) b i = cc
  by (inr (m, rest_is, mid_is)) no_ = no_ (uncalling_at rest c none
      (subst (λ (x : List Entry). Contains x c) (sym rest_is)
      (Contains-append_right m (c ∷ []) c (here c c [] refl))))

module _ (o : Opening) (h : List Entry) (s t : StateData) (e : ℕ) (es : List Entry) (x : Sound o h s)
    (k : Outcome o h s t e es) where
  rows_are : stored o (h ++ es) ≡ t.rows
  rows_are = stored-append o h es ∙ (ap (λ (rows : List Row). stored_on rows es) x.tells.rows ∙ k.stored_is)

  tokens_are : released o (h ++ es) ≡ t.released
  tokens_are = released-append o h es ∙ (ap (λ (ts : List Token). released_on ts es) x.tells.tokens ∙ k.released_is)

  calling : (before : List Entry) (f : ℕ) (token : Token) (request : Request) (given : Answered)
      → h ++ es ≡ before ++ entry_of (Engine f) (what.Call token request given) ∷ [] → IsCalling t f
  calling before f token request given is = by k.call where
    by : CallMade s t e es → IsCalling t f
    by (uncalled none some) = absurd (never_last h es before
        (entry_of (Engine f) (what.Call token request given)) is none some (λ u. u))
    by (called r asked answer_ rest calls_ es_is none (inl some) tokens) =
        absurd (never_last (h ++ call_entry e r asked answer_ ∷ []) rest before
        (entry_of (Engine f) (what.Call token request given))
        (append_assoc h (call_entry e r asked answer_ ∷ []) rest
        ∙ (ap (λ (y : List Entry). h ++ y) (sym es_is) ∙ is)) none some (λ u. u))
    by (called r asked answer_ rest calls_ es_is none (inr at_it) tokens) = again rest none es_is where
      again : (rs : List Entry) → AreUncalling rs → es ≡ call_entry e r asked answer_ ∷ rs → IsCalling t f
      again [] n eq = own (split h (call_entry e r asked answer_ ∷ []) before []
          (entry_of (Engine f) (what.Call token request given))
          (ap (λ (y : List Entry). h ++ y) (sym eq) ∙ is)) where
            own : ((r_ : List Entry) × (h ≡ before ++ entry_of (Engine f) (what.Call token request given) ∷ r_) ×
                ([] ≡ r_ ++ call_entry e r asked answer_ ∷ []))
                ⊎ ((m : List Entry) × (call_entry e r asked answer_ ∷ [] ≡ m ++ entry_of (Engine f)
                (what.Call token request given) ∷ []) × (before ≡ h ++ m)) → IsCalling t f
            own (inl ([], h_is, nothing)) = cc
            own (inl (y ∷ ys, h_is, nothing)) = cc
            own (inr ([], eq_, b)) =
                let first_is : call_entry e r asked answer_ ≡ entry_of (Engine f) (what.Call token request given) =
                cc in
                let actor_is : Engine e ≡ Engine f = ap (λ (y : Entry). y.by) first_is in
                let engine_is : e ≡ f = cc in subst (IsCalling t) engine_is at_it
            own (inr (y ∷ [], eq_, b)) = cc
            own (inr (y ∷ z ∷ ys, eq_, b)) = cc
      again (y ∷ ys) n eq = absurd (never_last (h ++ call_entry e r asked answer_ ∷ []) (y ∷ ys) before
          (entry_of (Engine f) (what.Call token request given))
          (append_assoc h (call_entry e r asked answer_ ∷ []) (y ∷ ys)
          ∙ (ap (λ (z : List Entry). h ++ z) (sym eq) ∙ is)) n (λ i. cc) (λ u. u))

  pub outcome_tells : Tells o (h ++ es) t
  outcome_tells =
      let told_ = subst (λ (y : List Entry). StacksTold o (h ++ y) t) (sym k.entries)
      (stacks_told o h s t k.first k.marks (record { stacks = x.tells.stacks; gone = x.tells.gone }) k.silent k.made)
      in
      record { rows = rows_are; tokens = tokens_are; stacks = told_.stacks; gone = told_.gone; calling = calling }

  pub outcome_agrees : Agrees o (h ++ es) t
  outcome_agrees = by k.call where
    by : CallMade s t e es → Agrees o (h ++ es) t
    by (uncalled none some) = agrees_goes o h (h ++ es) s t (record {
      could = λ y. could-silent o h es y none;
      rows_were = x.tells.rows;
      rows_are = rows_are;
      tokens_were = x.tells.tokens;
      tokens_are = tokens_are;
    }) k.goes x.agrees
    by (called r asked answer_ rest calls_ es_is none ends_ tokens) =
        agrees_goes o (h ++ call_entry e r asked answer_ ∷ []) (h ++ es) s t (record {
          could = λ y. ap (λ (z : List Entry). could_of o z y) (ap (λ (z : List Entry). h ++ z) es_is
              ∙ sym (append_assoc h (call_entry e r asked answer_ ∷ []) rest))
              ∙ could-silent o (h ++ call_entry e r asked answer_ ∷ []) rest y none;
          rows_were = stored-append o h (call_entry e r asked answer_ ∷ []) ∙ x.tells.rows;
          rows_are = rows_are;
          tokens_were = released-append o h (call_entry e r asked answer_ ∷ []) ∙ x.tells.tokens;
          tokens_are = tokens_are;
        }) k.goes (called_agrees o h s x e r asked answer_ calls_)

  pub outcome_released : ReleasedFits o (h ++ es) t
  outcome_released = released_goes o h (h ++ es) s t k.goes x.standing.links.numbered x.released
      (uncalled_more o h es s x.released (λ c y among for_. uncalled_here k.call c y among for_)) where
        uncalled_here : CallMade s t e es → (c : Entry) (y : Token) → Contains es c → IsCallFor y c
            → ¬ Contains (released o (h ++ es)) y
        uncalled_here (uncalled none some) c y among for_ given_ = uncalling_for es c y none among for_
        uncalled_here (called r asked answer_ rest calls_ es_is none ends_ tokens) c y among for_ given_ =
            elim (cases c (call_entry e r asked answer_) rest
            (subst (λ (z : List Entry). Contains z c) es_is among)) [
              | inr later ↦ uncalling_for rest c y none later for_
              | inl is ↦
                  let eq = ap (λ (z : Entry). z.what) is ∙ for_.2 in
                  let token_is : token_of r ≡ y = cc in
                  let among_s : Contains s.released y = subst (λ (ts : List Token). Contains ts y)
                  (tokens_are ∙ tokens) given_ in
                  let at_r = row_self s.rows calls_.job.row r calls_.found in
                  let at_y : row_at s.rows y.row ≡ Some r = subst (λ (m : ℕ). row_at s.rows m ≡ Some r)
                  (ap (λ (u : Token). u.row) token_is) at_r in
                  x.released.rowless y r among_s at_y token_is
            ]
