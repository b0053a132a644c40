-- A turn whose changes aren't worn, or whose failure's aren't, isn't worn out.
use Rattle.std.proofs.Common.{◌≡◌, ◌≢◌, ◌⊎◌, inl, inr, ◌≤◌, ◌^◌, ℕ, List, [], ◌∷◌, ◌++◌, Option, None, refl, sym, subst}
use Rattle.std.proofs.Common.{◌∙◌, arith}
use Rattle.std.specs.Prelude.{Contains}
use Rattle.std.proofs.lemmas.List.Elements.{Contains-append_left}
use Rattle.heat_plan.specs.declared.calls.Answered.{Answered}
use Rattle.row_table.specs.declared.row.Row.{Row}
use Rattle.mail_table.specs.declared.mail.Job.{Job}
use Rattle.mail_table.specs.declared.mail.Letter.{Letter}
use Rattle.mail_table.specs.declared.mail.Stage.{Stage}
use Rattle.mail_table.specs.declared.mail.Stage.TheVariants.{Polling}
use Rattle.core_state.specs.State.{StateData}
use Rattle.core_state.specs.declared.change.Change.{Change}
use Rattle.core_state.specs.declared.change.Change.TheVariants.{DropRow, PutJob, PutRow}
use Rattle.core_state.specs.declared.entry.Entry.{Entry}
use Rattle.core_state.specs.declared.stack.Stack.{Stack}
use Rattle.history_laws.specs.Asks.{Calls, Falls, failed_changes}
use Rattle.history_laws.specs.Given.{Answer, Given, IsLike, answers, same}
use Rattle.history_laws.specs.Rows.{failed_row}
use Rattle.history_laws.specs.Turns.{IsWorn, Overflows, Turn, key}
use Rattle.history_laws.specs.Writes.{draw_letters}
use Rattle.next_laws.specs.Worn.{CallIsNotWorn, QuietIsNotWorn}
use Rattle.next_laws.proofs.Listings.{cons_cases, in_tail}
use Rattle.next_laws.proofs.Parts.{AtJob, Kind, Part, begins, goes, kind_one, placed, readies, refuses, waits}
use Rattle.next_laws.proofs.Turns.{ByMove, Whole, by_move, follows, stops, turn_one, whole_one}
use Rattle.next_laws.proofs.Works.{call_one, falls_one}
use Rattle.heat_plan.specs.declared.calls.Answered.TheVariants as answer

-- nothing is like it but itself
like_same : (given other : Given) → ((a : Answered) → given ≢ Answer a) → IsLike given other → other ≡ given
like_same given other quiet (answers a b) = absurd (quiet a refl)
like_same given other quiet (same _) = refl

pub quiet_not_worn : QuietIsNotWorn
quiet_not_worn s e given cs es quiet t fits w =
    let u = subst (λ (g : Given). Turn s e g w.changes w.entries) (like_same given w.other quiet w.like) w.turn in
    let (changes, _) = turn_one s e given cs w.changes es w.entries t u in
    fits (subst IsWorn (sym changes) w.worn)

like_answer : (a : Answered) (other : Given) → IsLike (Answer a) other → (b : Answered) × (other ≡ Answer b)
like_answer a other (answers _ b) = (b, refl)
like_answer a other (same _) = (a, refl)

-- changes that raise no key and draw no number
worn_none : IsWorn [] → ⊥
worn_none w = let (i, lt, _) = w.among in omega (arith, lt)

worn_cases : (c : Change) (cs : List Change) → IsWorn (c ∷ cs) → Overflows c ⊎ IsWorn cs
worn_cases c cs w = elim (cons_cases cs c w.change w.among) [
  | inl is ↦ inl (subst Overflows is w.overflows)
  | inr later ↦ inr (record { change = w.change; among = later; overflows = w.overflows })
]

job_fits : (j : Job) → Overflows (PutJob j) → ⊥
job_fits j o = elim o [ ]

drop_fits : (n : ℕ) → Overflows (DropRow n) → ⊥
drop_fits n o = elim o [ ]

key_past : (r : Row) → Overflows (PutRow r) → 2 ^ 62 ≤ r.key
key_past r (key _ past) = past

-- the row that fails is among what a failure writes
drawn_still : (next : _) (ls : List Letter) (rest : List Change) (c : Change) → Contains rest c
    → Contains (draw_letters next ls rest) c
drawn_still next [] rest c at = at
drawn_still next (l ∷ ls) rest c at = in_tail rest _ c at

-- the same marks and changes; or no mark, and worn only where the failure is
data IsMilder (f g : Option Stack) (cs ds : List Change) : Type 0 where
  alike : f ≡ g → cs ≡ ds → IsMilder f g cs ds
  milder : g ≡ None → (IsWorn ds → IsWorn cs) → IsMilder f g cs ds

module _ (s : StateData) (e : ℕ) where
  -- the answer that fails it is a refusal
  pub record Refusal (kind : Kind) (f : Option Stack) (cs : List Change) : Type 0 where
    pub stage : Stage
    pub at : kind ≡ AtJob stage
    pub calls : Calls s e stage
    pub letters : List Letter
    pub falls : Falls s calls.job letters f
    pub changes : cs ≡ failed_changes s e calls.row letters f

  refusal : (kind : Kind) (f : Option Stack) (cs : List Change) (es : List Entry)
      → Part s e kind (Answer answer.Failed) f cs es → Refusal kind f cs
  refusal kind f cs es (refuses stage k asked given why ls _ _ _ x r u c d) =
      record { stage = stage; at = refl; calls = k; letters = ls; falls = u; changes = c }

  stage_same : (a b : Stage) → AtJob a ≡ AtJob b → a ≡ b
  stage_same a b e = cc

  -- the row that was polled would be failed
  failed_too : (f : Option Stack) (cs : List Change) (q : Calls s e Polling) → Refusal (AtJob Polling) f cs
      → 2 ^ 62 ≤ q.row.key → IsWorn cs
  failed_too f cs q k past =
      let stages : Polling ≡ k.stage = stage_same Polling k.stage k.at in
      let (jobs, rows) = call_one s e k.stage k.calls (subst (Calls s e) stages q) in
      failed_worn (subst (λ (st : Stage). (c : Calls s e st) → 2 ^ 62 ≤ c.row.key) stages
      (λ c. subst (λ (r : Row). 2 ^ 62 ≤ r.key) (call_one s e Polling q c).1 past) k.calls)
    where
      failed_worn : 2 ^ 62 ≤ k.calls.row.key → IsWorn cs
      failed_worn high = record {
        change = PutRow (failed_row k.calls.row);
        among = subst (λ (l : List Change). Contains l (PutRow (failed_row k.calls.row))) (sym k.changes)
            (drawn_still s.next k.letters _ (PutRow (failed_row k.calls.row)) (0, omega arith, refl));
        overflows = key (failed_row k.calls.row) (omega (arith, high));
      }

  milder_part : (kind : Kind) (b : Answered) (f g : Option Stack) (cs ds : List Change) (fs : List Entry)
      → Refusal kind f cs
      → Part s e kind (Answer b) g ds fs → IsMilder f g cs ds
  milder_part kind b f g cs ds fs x (begins k a _ _ y i j) =
      milder refl
      (λ w. absurd (elim (worn_cases _ [] (subst IsWorn i w)) [ inl o ↦ job_fits _ o | inr n ↦ worn_none n ]))
  milder_part kind b f g cs ds fs x (waits k a _ _ y i j) = milder refl (λ w. absurd (worn_none (subst IsWorn i w)))
  milder_part kind b f g cs ds fs x (readies k facts _ _ y i j) =
      milder refl (λ w. elim (worn_cases _ _ (subst IsWorn i w)) [
        | inl o ↦ failed_too f cs k x (key_past _ o)
        | inr m ↦ absurd (elim (worn_cases _ [] m) [ inl o ↦ job_fits _ o | inr n ↦ worn_none n ])
      ])
  milder_part kind b f g cs ds fs x (goes k _ _ y i j) =
      milder refl (λ w. absurd (elim (worn_cases _ _ (subst IsWorn i w)) [
        | inl o ↦ drop_fits _ o
        | inr m ↦ elim (worn_cases _ [] m) [ inl o ↦ job_fits _ o | inr n ↦ worn_none n ]
      ]))
  milder_part kind b f g cs ds fs x (refuses stage k asked given why ls _ _ _ y r u i j) =
      failing x.calls x.falls x.changes
    where
      q : Calls s e x.stage
      q = subst (Calls s e) (stage_same stage x.stage x.at) k

      same_row : k.row ≡ q.row
      same_row = subst (λ (st : Stage). (c : Calls s e st) → k.row ≡ c.row) (stage_same stage x.stage x.at)
          (λ c. (call_one s e stage k c).1) q

      same_job : k.job ≡ q.job
      same_job = subst (λ (st : Stage). (c : Calls s e st) → k.job ≡ c.job) (stage_same stage x.stage x.at)
          (λ c. (call_one s e stage k c).0) q

      failing : (c : Calls s e x.stage) → Falls s c.job x.letters f → cs ≡ failed_changes s e c.row x.letters f
          → IsMilder f g cs ds
      failing c falls changes =
          let (jobs, rows) = call_one s e x.stage c q in
          let (letters, marks) = falls_one s c.job x.letters ls f g falls
          (subst (λ (z : Job). Falls s z ls g) (same_job ∙ sym jobs) u) in
          let both : c.row ≡ k.row = rows ∙ sym same_row in
          alike marks cc

-- what is worn at first is worn in all
worn_more : (first last : List Change) → IsWorn first → IsWorn (first ++ last)
worn_more first last w = record {
  change = w.change;
  among = Contains-append_left first last w.change w.among;
  overflows = w.overflows;
}

worn_whole : (s : StateData) (e : ℕ) (f : Option Stack) (first cs : List Change) (firsts es : List Entry)
    → Whole s e f first firsts cs es
    → IsWorn first → IsWorn cs
worn_whole s e f first cs firsts es (stops p c d) w = subst IsWorn (sym c) w
worn_whole s e f first cs firsts es (follows st last lasts is due k c d) w =
    subst IsWorn (sym c) (worn_more first last w)

-- with no mark the move is all
unmarked_whole : (s : StateData) (e : ℕ) (first cs : List Change) (firsts es : List Entry)
    → Whole s e None first firsts cs es → cs ≡ first
unmarked_whole s e first cs firsts es (stops p c d) = c
unmarked_whole s e first cs firsts es (follows st last lasts is due k c d) = cc

answer_not_worn : (s : StateData) (e : ℕ) (b : Answered) (cs ds : List Change) (es fs : List Entry)
    → Turn s e (Answer answer.Failed) cs es
    → Turn s e (Answer b) ds fs → IsWorn ds → IsWorn cs
answer_not_worn s e b cs ds es fs t u w = by like
  where
    a : ByMove s e (Answer answer.Failed) cs es
    a = by_move s e (Answer answer.Failed) cs es t

    c : ByMove s e (Answer b) ds fs
    c = by_move s e (Answer b) ds fs u

    like : IsMilder a.failed c.failed a.first c.first
    like = let p = placed s e _ a.failed a.first a.firsts a.move in
        let q = placed s e _ c.failed c.first c.firsts c.move in
        milder_part s e p.kind b a.failed c.failed a.first c.first c.firsts
        (refusal s e p.kind a.failed a.first a.firsts p.part)
        (subst (λ (z : Kind). Part s e z (Answer b) c.failed c.first c.firsts)
        (sym (kind_one s e p.kind q.kind p.next q.next)) q.part)

    by : IsMilder a.failed c.failed a.first c.first → IsWorn cs
    by (alike marks changes) =
        let whole = subst (λ (f : Option Stack). Whole s e f a.first c.firsts ds fs) (sym marks)
        (subst (λ (l : List Change). Whole s e c.failed l c.firsts ds fs) (sym changes) c.whole) in
        let (all, _) = whole_one s e a.failed a.first a.firsts c.firsts cs ds es fs a.whole whole in
        subst IsWorn (sym all) w
    by (milder unmarked worn) =
        let whole = subst (λ (f : Option Stack). Whole s e f c.first c.firsts ds fs) unmarked c.whole in
        worn_whole s e a.failed a.first cs a.firsts es a.whole
        (worn (subst IsWorn (unmarked_whole s e c.first ds c.firsts fs whole) w))

pub call_not_worn : CallIsNotWorn
call_not_worn s e cs es t fits a w =
    let (b, is) = like_answer a w.other w.like in
    fits (answer_not_worn s e b cs w.changes es w.entries t
    (subst (λ (g : Given). Turn s e g w.changes w.entries) is w.turn) w.worn)
