-- What is made of a poll's answer of unknown size, behind what was prepared for it.
use Rattle.std.proofs.Common.{List, [], ap, refl, subst, ℕ, ◌++◌, ◌∙◌, ◌∷◌, ◌≡◌}
use Rattle.std.specs.Prelude.{take, ◌≢◌}
use Rattle.heat_plan.specs.declared.calls.Answered.{Answered}
use Rattle.heat_plan.specs.declared.calls.Request.TheVariants as request
use Rattle.heat_plan.specs.declared.phase.Act.TheVariants.{Delete}
use Rattle.mail_table.specs.declared.mail.Stage.TheVariants.{Polling}
use Rattle.core_state.specs.Changes.{applied}
use Rattle.core_state.specs.State.{StateData}
use Rattle.core_state.specs.declared.entry.Entry.{Entry}
use Rattle.core_state.specs.declared.made.Made.{Made}
use Rattle.step_relation.specs.Asks.{Calls}
use Rattle.step_relation.specs.Writes.{call_entry}
use Rattle.takeover_steps.specs.Lost.{IsOfUnknownSize}
use Rattle.record_keeper.specs.Laws.{IsLawful}
use Rattle.record_keeper.specs.Shown.{SameKeeper, ShownKeeper}
use Rattle.book.specs.Keeping.{IsReady, KeptBy}
use Rattle.book.specs.Learning.{Learns, stored, told}
use Rattle.book.specs.Makings.{Answers, AnswersAs, alone, stepped}
use Rattle.book.specs.Outcomes.{IsAnswered}
use Rattle.book.specs.Quiet.{page}
use Rattle.book.specs.Turned.{failed, lacking}
use Rattle.book.specs.declared.turning.Turn.TheVariants.{DiskFault, Memory}
use Rattle.book.specs.declared.turning.Turn.{Turn as Turn_answer}
use Rattle.book.proofs.Keepers.{kept_after, untouched}
use Rattle.book.proofs.LostAlone.{LostTurn, poll_first}

module _ (s u : StateData) (e : ℕ) (given : Answered) (q : Calls s e Polling) (h g : List Entry) (k l : ShownKeeper)
    (n0 n1 : ℕ) (is_u : u ≡ s) (is_g : g ≡ h) (same : SameKeeper k l) (count : n1 ≡ n0) where
  -- its step was made, or the keeper failed
  pub learned_stored : (stays : q.row.act ≢ Delete) (made : Made) → IsAnswered s e given made → (t : StateData)
      (i : List Entry) (m : ShownKeeper) (n2 : ℕ) (r : Turn_answer)
      → Answers made (page u g) (page t i) l m n1 n2 r → Learns e given (page s h) (page t i) k m n0 n2 r
  learned_stored stays made turn t i m n2 r it = by it.does it.kept where
    kept_so : KeptBy l m n1 n2 u t made.changes (r ≡ DiskFault) → KeptBy k m n0 n2 s t made.changes (r ≡ DiskFault)
    kept_so kept = kept_after k l same m n0 n1 n2 s t made.changes (r ≡ DiskFault) count
        (subst (λ (x : StateData). KeptBy l m n1 n2 x t made.changes (r ≡ DiskFault)) is_u kept)

    by : AnswersAs made (page u g) (page t i) r → KeptBy l m n1 n2 u t made.changes (r ≡ DiskFault)
        → Learns e given (page s h) (page t i) k m n0 n2 r
    by (stepped writes is) kept = record {
      learned = stored (record {
        made = made;
        turn = turn;
        writes = record {
          state = writes.state ∙ ap (applied made.changes) is_u;
          entries = writes.entries ∙ ap (λ (x : List Entry). x ++ made.entries) is_g;
        };
      }) is;
      kept = kept_so kept;
    }
    by (alone some writes is) kept =
        let (rest, first) = poll_first s e q given stays made.changes made.entries turn.turn in record {
          learned = told q made.changes made.entries rest (failed is) some turn.turn turn.lasts first (record {
            state = writes.state ∙ is_u;
            entries = writes.entries ∙ ap (λ (x : List Entry). x ++ take 1 made.entries) is_g
                ∙ ap (λ (es : List Entry). h ++ take 1 es) first;
          });
          kept = kept_so kept;
        }

  -- there was no memory for it
  pub learned_alone : (may_open : StateData → Type 0) → IsLawful may_open k → IsReady k s → IsOfUnknownSize given
      → LostTurn s e q given → (i : List Entry) → i ≡ g ++ call_entry e q.row request.Poll given ∷ []
      → Learns e given (page s h) (page u i) k l n0 n1 Memory
  learned_alone may_open lawful ready size it i is_i = record {
    learned = told q it.changes it.all it.rest (lacking refl size) it.some it.turn it.lasts it.entries (record {
      state = is_u;
      entries = is_i ∙ ap (λ (x : List Entry). x ++ call_entry e q.row request.Poll given ∷ []) is_g;
    });
    kept = untouched k l same may_open lawful n0 n1 s u _ count ready is_u (λ f. cc);
  }
