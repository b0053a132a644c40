-- What the entries of a step say one by one, each by the history before it.
use Rattle.std.proofs.Common.{List, ap, append-nil, append_assoc, arith, refl, subst, suc, sym, zero, ◌∙◌}
use Rattle.std.specs.List.{AllZip}
use Rattle.std.specs.Prelude.{Contains, List, Option, Some, [], length, slice_get, take, ℕ, ◌++◌, ◌∷◌, ◌≡◌, ◌≢◌, ◌≤◌}
use Rattle.heat_plan.specs.Plans.{PlanData}
use Rattle.heat_plan.specs.declared.facts.KnownFacts.{KnownFacts}
use Rattle.heat_plan.specs.declared.item.Item.{Item}
use Rattle.heat_plan.specs.declared.token.Token.{Token}
use Rattle.provider.specs.Table.{TokenState}
use Rattle.row_table.specs.Rows.{row_at}
use Rattle.row_table.specs.declared.row.Row.{Row}
use Rattle.step_relation.specs.State.{StateData}
use Rattle.step_relation.specs.declared.Entry.{Entry}
use Rattle.step_relation.specs.declared.What.{What}
use Rattle.step_relation.specs.Could.{IsPossible, could_of}
use Rattle.step_relation.specs.Fits.{Fits, HasExactly, IsFactOf}
use Rattle.step_relation.specs.Opening.{Opening}
use Rattle.step_relation.specs.Stored.{released}
use Rattle.step_relation.specs.Tokens.{token_at, tokens_of}
use Rattle.step_relation.specs.Headline.{AtPrefix, FitsIn, FollowedBy}
use Rattle.step_relation.specs.Sound.{Sound}
use Rattle.history_laws.proofs.tells.Silence.{IsUncalling, IsUnmarking}
use Rattle.history_laws.proofs.headline.FitsSound.{complete_fits}
use Rattle.step_relation.specs.declared.What.TheVariants as what

-- the last entry gives up no token, and the row of one that is given up goes at once
abbrev pub IsPaired : Opening → List Entry → Entry → List Entry → Type 0
IsPaired o g e [] = (token : Token) → e.what ≢ what.Release token
IsPaired o g e (next ∷ rest) = FollowedBy e (Some next)

-- behind h, and these entries
abbrev pub AllSaid : Opening → List Entry → List Entry → List Entry → Type 0
AllSaid o h p [] = AtPrefix o (h ++ p)
AllSaid o h p (e ∷ es) = AtPrefix o (h ++ p) × FitsIn o (h ++ p) e × IsPaired o (h ++ p) e es × AllSaid o h
    (p ++ e ∷ []) es

paired_shift : (o : Opening) (g f : List Entry) (e : Entry) (es : List Entry) → g ≡ f → IsPaired o g e es
    → IsPaired o f e es
paired_shift o g f e es is k = subst (λ (x : List Entry). IsPaired o x e es) is k

pub said_shift : (o : Opening) (h p g q es : List Entry) → h ++ p ≡ g ++ q → AllSaid o h p es → AllSaid o g q es
said_shift o h p g q [] is k = subst (AtPrefix o) is k
said_shift o h p g q (e ∷ es) is k = (
  subst (AtPrefix o) is k.0,
  subst (λ (x : List Entry). FitsIn o x e) is k.1,
  paired_shift o (h ++ p) (g ++ q) e es is k.2,
  said_shift o h (p ++ e ∷ []) g (q ++ e ∷ []) es (sym (append_assoc h p (e ∷ []))
      ∙ (ap (λ (x : List Entry). x ++ e ∷ []) is ∙ append_assoc g q (e ∷ []))) k.3,
)

pub said_first : (o : Opening) (h p es : List Entry) → AllSaid o h p es → AtPrefix o (h ++ p)
said_first o h p [] k = k
said_first o h p (e ∷ es) k = k.0

-- two steps, one behind another
pub said_both : (o : Opening) (h p es fs : List Entry) → AllSaid o h p es → AllSaid o h (p ++ es) fs
    → AllSaid o h p (es ++ fs)
said_both o h p [] fs k l = subst (λ (x : List Entry). AllSaid o h x fs) (append-nil p) l
said_both o h p (e ∷ es) fs k l = (
  k.0,
  k.1,
  paired o h p e es fs k.2,
  said_both o h (p ++ e ∷ []) es fs k.3
      (subst (λ (x : List Entry). AllSaid o h x fs) (sym (append_assoc p (e ∷ []) es)) l),
) where
  paired : (o : Opening) (h p : List Entry) (e : Entry) (es fs : List Entry) → IsPaired o (h ++ p) e es
      → IsPaired o (h ++ p) e (es ++ fs)
  paired o h p e [] [] k = k
  paired o h p e [] (next ∷ fs) k = record { purges = λ token is. absurd (k token is) }
  paired o h p e (x ∷ es) fs k = k

-- the entries of each split
pub said_prefix : (o : Opening) (h p es : List Entry) → AllSaid o h p es → (n : ℕ) → n ≤ length es
    → AtPrefix o (h ++ (p ++ take n es))
said_prefix o h p es k zero le = subst (λ (x : List Entry). AtPrefix o (h ++ x)) (sym (append-nil p))
    (said_first o h p es k)
said_prefix o h p [] k (suc n) le = absurd (omega (arith, le))
said_prefix o h p (e ∷ es) k (suc n) le =
    subst (λ (x : List Entry). AtPrefix o (h ++ x)) (append_assoc p (e ∷ []) (take n es))
    (said_prefix o h (p ++ e ∷ []) es k.3 n (omega (arith, le)))

pub said_entry : (o : Opening) (h p es : List Entry) → AllSaid o h p es → (n : ℕ) (e : Entry)
    → slice_get es n ≡ Some e → FitsIn o (h ++ (p ++ take n es)) e
said_entry o h p [] k n e at = cc
said_entry o h p (x ∷ es) k zero e at =
    let is : x ≡ e = cc in
    subst (λ (y : List Entry). FitsIn o (h ++ y) e) (sym (append-nil p))
    (subst (λ (y : Entry). FitsIn o (h ++ p) y) is k.1)
said_entry o h p (x ∷ es) k (suc n) e at =
    subst (λ (y : List Entry). FitsIn o (h ++ y) e) (append_assoc p (x ∷ []) (take n es))
    (said_entry o h (p ++ x ∷ []) es k.3 n e at)

pub said_pair : (o : Opening) (h p es : List Entry) → AllSaid o h p es → (n : ℕ) (e : Entry)
    → slice_get es n ≡ Some e → FollowedBy e (slice_get es (suc n))
said_pair o h p [] k n e at = cc
said_pair o h p (x ∷ []) k zero e at =
    let is : x ≡ e = cc in
    record { purges = λ token given. absurd (k.2 token (ap (λ (y : Entry). y.what) is ∙ given)) }
said_pair o h p (x ∷ y ∷ es) k zero e at =
    let is : x ≡ e = cc in subst (λ (z : Entry). FollowedBy z (Some y)) is k.2
said_pair o h p (x ∷ es) k (suc n) e at = said_pair o h (p ++ x ∷ []) es k.3 n e at

-- ---- entries that say little

-- rows or mail are written, or something is noted
abbrev pub IsPlainWhat : What → Type 0
IsPlainWhat w = IsUnmarking w × IsUncalling w × ((token : Token) → w ≢ what.Release token)

pub fits_plain : (o : Opening) (g : List Entry) (e : Entry) → IsPlainWhat e.what → FitsIn o g e
fits_plain o g e (unmarking, uncalling, keeps) = record {
  marks = λ stack trav act cause is. absurd (subst IsUnmarking is unmarking);
  completes = λ stack trav act it is. absurd (subst IsUnmarking is unmarking);
  causes = λ stack trav act cause is. absurd (subst IsUnmarking is unmarking);
  quiet = λ token request given is. absurd (subst IsUncalling is uncalling);
  asked = λ token request given is. absurd (subst IsUncalling is uncalling);
  rolls = λ stack trav plan rollback is. absurd (subst IsUnmarking is unmarking);
  follows = λ engine_ stack trav act plan rollback is. absurd
      (subst IsUnmarking (ap (λ (y : Entry). y.what) is) unmarking);
  releases = λ token is. absurd (keeps token is);
}

pub followed_plain : (e : Entry) (next : Option Entry) → ((token : Token) → e.what ≢ what.Release token)
    → FollowedBy e next
followed_plain e next keeps = record { purges = λ token is. absurd (keeps token is) }

-- ---- what holds of a prefix

module _ (o : Opening) (h : List Entry) (s : StateData) (x : Sound o h s) (possible : IsPossible o h) where
  pub at_sound : AtPrefix o h
  at_sound = record {
    complete = complete_fits o h s x possible;
    named = x.agrees.named;
    rows = λ n r state at among. x.agrees.rows n r state (subst
        (λ (rows : List Row). row_at rows n ≡ Some r) x.tells.rows at) among;
  }

-- two histories that say the same of what may be alive in a stack and was given up
pub record SameOf (o : Opening) (stack : List ℕ) (g f : List Entry) : Type 0 where
  pub could : (t : Token) → t.stack ≡ stack → could_of o f t ≡ could_of o g t
  pub forth : (t : Token) → t.stack ≡ stack → Contains (released o g) t → Contains (released o f) t
  pub back : (t : Token) → t.stack ≡ stack → Contains (released o f) t → Contains (released o g) t

module _ (o : Opening) (stack : List ℕ) (g f : List Entry) (same : SameOf o stack g f) where
  tokens_on : (t : Token) → tokens_of o g stack t → tokens_of o f stack t
  tokens_on t (own, alive) = (
    own,
    record {
      lives = record {
        it = alive.lives.it;
        among = subst (λ (ss : List TokenState). Contains ss (Some alive.lives.it))
            (sym (same.could t own)) alive.lives.among;
      };
      owned = λ c. alive.owned (same.back t own c);
    },
  )

  tokens_back : (t : Token) → tokens_of o f stack t → tokens_of o g stack t
  tokens_back t (own, alive) = (
    own,
    record {
      lives = record {
        it = alive.lives.it;
        among = subst (λ (ss : List TokenState). Contains ss (Some alive.lives.it))
            (same.could t own) alive.lives.among;
      };
      owned = λ c. alive.owned (same.forth t own c);
    },
  )

  fact_on : (need : List ℕ) (known : KnownFacts) → IsFactOf o g stack need known → IsFactOf o f stack need known
  fact_on need known k = record {
    named = k.named;
    row = k.row;
    alive = tokens_on (token_at stack need k.row) k.alive;
    it = k.it;
    state = same.could (token_at stack need k.row) refl ∙ k.state;
    facts = k.facts;
  }

  facts_on : (needs : List (List ℕ)) (known : List KnownFacts) → AllZip (IsFactOf o g stack) needs known
      → AllZip (IsFactOf o f stack) needs known
  facts_on [] [] z = tt
  facts_on [] (k ∷ ks) z = absurd z
  facts_on (n ∷ ns) [] z = absurd z
  facts_on (n ∷ ns) (k ∷ ks) z = (fact_on n k z.0, facts_on ns ks z.1)

  exactly_on : (plan : PlanData) (item : Item) → HasExactly o g stack plan item → HasExactly o f stack plan item
  exactly_on plan item k = record {
    row = k.row;
    it = k.it;
    state = same.could (token_at stack item.name k.row) refl ∙ k.state;
    owned = λ c. k.owned (same.back (token_at stack item.name k.row) refl c);
    kind = k.kind;
    ready = k.ready;
    stays = k.stays;
    known = k.known;
    needs_are = facts_on item.needs k.known k.needs_are;
    props = k.props;
    only = λ other alive. k.only other (tokens_back (token_at stack item.name other) alive);
  }

  pub fits_on : (plan : PlanData) → Fits o g stack plan → Fits o f stack plan
  fits_on plan k = record {
    certain = λ t own kept_. let c = k.certain t own (λ d. kept_ (same.forth t own d)) in
        record { state = c.state; alone = same.could t own ∙ c.alone };
    each = λ n d lt. exactly_on plan _ (k.each n d lt);
    no_other = λ t alive. k.no_other t (tokens_back t alive);
  }
