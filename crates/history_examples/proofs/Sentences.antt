-- The sentences on one entry are all, a run has them, and what they are at a moment within a run.
use Rattle.std.proofs.Common.{List, Some, [], arith, false, inl, inr, length, refl, subst, sym, ◌++◌, ◌∷◌, ◌≡◌}
use Rattle.std.proofs.Math.Seq.{take-append_seam, take-length}
use Rattle.std.proofs.lemmas.List.{length-append}
use Rattle.std.specs.Prelude.{Contains, slice_get}
use Rattle.core_state.specs.State.{StateData}
use Rattle.core_state.specs.declared.entry.Entry.{Entry}
use Rattle.step_relation.specs.Runs.{Judges, Run}
use Rattle.step_relation.specs.Could.{IsPossible}
use Rattle.step_relation.specs.Headline.{AtPrefix, FitsIn, Headline}
use Rattle.history_laws.proofs.headline.Empty.{empty_is_sound}
use Rattle.graph_laws.proofs.whole.Whole.{runs_headline}
use Rattle.next_laws.proofs.Listings.{cons_cases, no_member}
use Rattle.history_examples.specs.Sentences.{Asked, Causes, CompleteFits, Completes, Follows, Holds, Marks, Named}
use Rattle.history_examples.specs.Sentences.{Quiet}
use Rattle.history_examples.specs.Sentences.{Releases, Rolls, Rows, Sentence, SentencesAreAll}
use Rattle.history_examples.specs.Setting.{opening}
use Rattle.history_examples.specs.Spoiled.{IsNoRun, RunsHaveHeadline, Spoiled}

pub sentences_are_all : SentencesAreAll
sentences_are_all o before e = (
  λ all. (
    record {
      marks = all Marks;
      completes = all Completes;
      causes = all Causes;
      quiet = all Quiet;
      asked = all Asked;
      rolls = all Rolls;
      follows = all Follows;
      releases = all Releases;
    },
    record { complete = all CompleteFits; named = all Named; rows = all Rows },
  ),
  λ both y. each both.0 both.1 y,
) where
  each : FitsIn o before e → AtPrefix o (before ++ e ∷ []) → (y : Sentence) → Holds y o before e
  each f at Marks = f.marks
  each f at Completes = f.completes
  each f at Causes = f.causes
  each f at Quiet = f.quiet
  each f at Asked = f.asked
  each f at Rolls = f.rolls
  each f at Follows = f.follows
  each f at Releases = f.releases
  each f at CompleteFits = at.complete
  each f at Named = at.named
  each f at Rows = at.rows

pub runs_have_headline : RunsHaveHeadline
runs_have_headline registries s h run possible =
    runs_headline registries opening s h (empty_is_sound 2 (λ t. false)) run possible

pub last_there : (before : List Entry) (e : Entry) → slice_get (before ++ e ∷ []) (length before) ≡ Some e
last_there [] e = refl
last_there (x ∷ xs) e = last_there xs e

-- the last entry of a history that has the main theorem
last_holds : (judges : List Judges) (s : StateData) (before : List Entry) (e : Entry)
    → Headline judges opening (before ++ e ∷ []) s → (y : Sentence) → Holds y opening before e
last_holds judges s before e h = (sentences_are_all opening before e).1 (
  subst (λ (l : List Entry). FitsIn opening l e) (take-append_seam before (e ∷ []))
      (h.entries (length before) e (last_there before e)),
  subst (AtPrefix opening) (take-length (before ++ e ∷ [])) (h.prefixes (length (before ++ e ∷ [])) (omega arith)),
)

-- within a history that has it
pub within : (judges : List Judges) (s : StateData) (before after : List Entry)
    → Headline judges opening (before ++ after) s → AtPrefix opening before
within judges s before after h =
    let long = length-append before after in
    subst (AtPrefix opening) (take-append_seam before after) (h.prefixes (length before) (omega (arith, long)))

-- what an entry breaks, no run has
pub no_run : (x : Spoiled) (judges : List Judges) (state : StateData) (after : List Entry)
    → Run judges opening.state state (x.before ++ after) → IsPossible opening (x.before ++ x.entry ∷ [])
    → (y : Sentence) → Contains x.broken y
    → ((z : Sentence) → Contains x.broken z → ¬ Holds z opening x.before x.entry)
    → ((z : Sentence) → ¬ Contains x.broken z → Holds z opening x.before x.entry)
    → IsNoRun x
no_run x judges state after right possible y among breaks keeps = record {
  judges = judges;
  state = state;
  after = after;
  right = right;
  breaks = breaks;
  keeps = keeps;
  possible = possible;
  no_run = λ others s run. breaks y among (last_holds others s x.before x.entry
      (runs_have_headline others s (x.before ++ x.entry ∷ []) run possible) y);
}

-- of one sentence, and of two
pub of_one : (P : Sentence → Type 0) (x : Sentence) → P x → (y : Sentence) → Contains (x ∷ []) y → P y
of_one P x p y c = elim (cons_cases [] x y c) [ inl is ↦ subst P (sym is) p | inr later ↦ absurd (no_member y later) ]

pub of_two : (P : Sentence → Type 0) (x z : Sentence) → P x → P z → (y : Sentence) → Contains (x ∷ z ∷ []) y → P y
of_two P x z p q y c = elim (cons_cases (z ∷ []) x y c) [
  | inl is ↦ subst P (sym is) p
  | inr later ↦ of_one P z q y later
]
