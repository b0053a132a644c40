-- The tables of a state: what a write leaves in each.
use Rattle.std.proofs.Common.{◌≡◌, ◌≢◌, ◌⊎◌, inl, inr, ℕ, List, None, Option, Some, sym, subst}
use Rattle.std.specs.Prelude.{nat_eq}
use Rattle.std.specs.Str.{bytes_eq}
use Rattle.std.proofs.lemmas.Bool.Decides.{Decides-eqb, eqb_tells}
use Rattle.std.proofs.lemmas.Slice.Eq.{bytes_eq-Decides}
use Rattle.row_table.specs.Rows.{cut_row, put_row, row_at, row_key}
use Rattle.row_table.specs.declared.row.Row.{Row}
use Rattle.mail_table.specs.Mails.{cut_job, cut_letter, job_at, job_key, letter_at, letter_key, put_job, put_letter}
use Rattle.mail_table.specs.declared.mail.Job.{Job}
use Rattle.mail_table.specs.declared.mail.Letter.{Letter}
use Rattle.step_relation.specs.State.{cut_graph, cut_past, cut_stack, graph_at, graph_key, past_at, past_key, put_graph}
use Rattle.step_relation.specs.State.{put_past, put_stack, stack_at, stack_key}
use Rattle.step_relation.specs.declared.Graph.{Graph}
use Rattle.step_relation.specs.declared.Past.{Past}
use Rattle.step_relation.specs.declared.Stack.{Stack}
use Rattle.history_laws.proofs.tables.Tables.{at-cut_other, at-cut_same, at-key, at-put_other, at-put_same, cases, cut_found}
use Rattle.history_laws.proofs.tables.Tables.{put_found}

pub same_some : {A : Type 0} (x y : A) {o : Option A} → o ≡ Some x → o ≡ Some y → x ≡ y
same_some x y h i = cc

pub same_or_not : (a b : ℕ) → (a ≡ b) ⊎ (a ≢ b)
same_or_not a b = elim (eqb_tells a b) [ inl t ↦ inl t.1 | inr f ↦ inr f.1 ]

pub text_or_not : (a b : List ℕ) → (a ≡ b) ⊎ (a ≢ b)
text_or_not a b = elim (cases bytes_eq bytes_eq-Decides (λ (x : List ℕ). x) a b) [ inl t ↦ inl t.1 | inr f ↦ inr f.1 ]

-- rows
pub row-key : (rows : List Row) (n : ℕ) (r : Row) → row_at rows n ≡ Some r → r.no ≡ n
row-key rows n r h = at-key nat_eq Decides-eqb row_key rows n r h

pub row_self : (rows : List Row) (n : ℕ) (r : Row) → row_at rows n ≡ Some r → row_at rows r.no ≡ Some r
row_self rows n r at = subst (λ (k : ℕ). row_at rows k ≡ Some r) (sym (row-key rows n r at)) at

pub row_put : (q : Row) (rows : List Row) {n : ℕ} {a : Row} → row_at (put_row q rows) n ≡ Some a
    → ((q.no ≡ n) × (q ≡ a)) ⊎ ((q.no ≢ n) × (row_at rows n ≡ Some a))
row_put q rows h = put_found nat_eq Decides-eqb row_key q rows h

pub row_here : (q : Row) (rows : List Row) → row_at (put_row q rows) q.no ≡ Some q
row_here q rows = at-put_same nat_eq Decides-eqb row_key q rows

pub row_else : (q : Row) (rows : List Row) (n : ℕ) → q.no ≢ n → row_at (put_row q rows) n ≡ row_at rows n
row_else q rows n ne = at-put_other nat_eq Decides-eqb row_key q rows n ne

pub row_cut : (c : ℕ) (rows : List Row) {n : ℕ} {a : Row} → row_at (cut_row c rows) n ≡ Some a
    → (c ≢ n) × (row_at rows n ≡ Some a)
row_cut c rows h = cut_found nat_eq Decides-eqb row_key c rows h

pub row_kept : (c : ℕ) (rows : List Row) (n : ℕ) → c ≢ n → row_at (cut_row c rows) n ≡ row_at rows n
row_kept c rows n ne = at-cut_other nat_eq Decides-eqb row_key rows c n ne

pub row_gone : (c : ℕ) (rows : List Row) → row_at (cut_row c rows) c ≡ None
row_gone c rows = at-cut_same nat_eq Decides-eqb row_key rows c

-- jobs
pub job-key : (jobs : List Job) (e : ℕ) (j : Job) → job_at jobs e ≡ Some j → j.engine ≡ e
job-key jobs e j h = at-key nat_eq Decides-eqb job_key jobs e j h

pub job_put : (q : Job) (jobs : List Job) {e : ℕ} {a : Job} → job_at (put_job q jobs) e ≡ Some a
    → ((q.engine ≡ e) × (q ≡ a)) ⊎ ((q.engine ≢ e) × (job_at jobs e ≡ Some a))
job_put q jobs h = put_found nat_eq Decides-eqb job_key q jobs h

pub job_here : (q : Job) (jobs : List Job) → job_at (put_job q jobs) q.engine ≡ Some q
job_here q jobs = at-put_same nat_eq Decides-eqb job_key q jobs

pub job_else : (q : Job) (jobs : List Job) (e : ℕ) → q.engine ≢ e → job_at (put_job q jobs) e ≡ job_at jobs e
job_else q jobs e ne = at-put_other nat_eq Decides-eqb job_key q jobs e ne

pub job_cut : (c : ℕ) (jobs : List Job) {e : ℕ} {a : Job} → job_at (cut_job c jobs) e ≡ Some a
    → (c ≢ e) × (job_at jobs e ≡ Some a)
job_cut c jobs h = cut_found nat_eq Decides-eqb job_key c jobs h

pub job_kept : (c : ℕ) (jobs : List Job) (e : ℕ) → c ≢ e → job_at (cut_job c jobs) e ≡ job_at jobs e
job_kept c jobs e ne = at-cut_other nat_eq Decides-eqb job_key jobs c e ne

pub job_gone : (c : ℕ) (jobs : List Job) → job_at (cut_job c jobs) c ≡ None
job_gone c jobs = at-cut_same nat_eq Decides-eqb job_key jobs c

-- letters
pub letter-key : (letters : List Letter) (n : ℕ) (l : Letter) → letter_at letters n ≡ Some l → l.no ≡ n
letter-key letters n l h = at-key nat_eq Decides-eqb letter_key letters n l h

pub letter_put : (q : Letter) (letters : List Letter) {n : ℕ} {a : Letter}
    → letter_at (put_letter q letters) n ≡ Some a
    → ((q.no ≡ n) × (q ≡ a)) ⊎ ((q.no ≢ n) × (letter_at letters n ≡ Some a))
letter_put q letters h = put_found nat_eq Decides-eqb letter_key q letters h

pub letter_here : (q : Letter) (letters : List Letter) → letter_at (put_letter q letters) q.no ≡ Some q
letter_here q letters = at-put_same nat_eq Decides-eqb letter_key q letters

pub letter_else : (q : Letter) (letters : List Letter) (n : ℕ) → q.no ≢ n
    → letter_at (put_letter q letters) n ≡ letter_at letters n
letter_else q letters n ne = at-put_other nat_eq Decides-eqb letter_key q letters n ne

pub letter_cut : (c : ℕ) (letters : List Letter) {n : ℕ} {a : Letter}
    → letter_at (cut_letter c letters) n ≡ Some a → (c ≢ n) × (letter_at letters n ≡ Some a)
letter_cut c letters h = cut_found nat_eq Decides-eqb letter_key c letters h

pub letter_kept : (c : ℕ) (letters : List Letter) (n : ℕ) → c ≢ n
    → letter_at (cut_letter c letters) n ≡ letter_at letters n
letter_kept c letters n ne = at-cut_other nat_eq Decides-eqb letter_key letters c n ne

pub letter_gone : (c : ℕ) (letters : List Letter) → letter_at (cut_letter c letters) c ≡ None
letter_gone c letters = at-cut_same nat_eq Decides-eqb letter_key letters c

-- stacks
pub stack-key : (stacks : List Stack) (n : List ℕ) (st : Stack) → stack_at stacks n ≡ Some st → st.name ≡ n
stack-key stacks n st h = at-key bytes_eq bytes_eq-Decides stack_key stacks n st h

pub stack_put : (q : Stack) (stacks : List Stack) {n : List ℕ} {a : Stack}
    → stack_at (put_stack q stacks) n ≡ Some a
    → ((q.name ≡ n) × (q ≡ a)) ⊎ ((q.name ≢ n) × (stack_at stacks n ≡ Some a))
stack_put q stacks h = put_found bytes_eq bytes_eq-Decides stack_key q stacks h

pub stack_here : (q : Stack) (stacks : List Stack) → stack_at (put_stack q stacks) q.name ≡ Some q
stack_here q stacks = at-put_same bytes_eq bytes_eq-Decides stack_key q stacks

pub stack_else : (q : Stack) (stacks : List Stack) (n : List ℕ) → q.name ≢ n
    → stack_at (put_stack q stacks) n ≡ stack_at stacks n
stack_else q stacks n ne = at-put_other bytes_eq bytes_eq-Decides stack_key q stacks n ne

pub stack_cut : (c : List ℕ) (stacks : List Stack) {n : List ℕ} {a : Stack} → stack_at (cut_stack c stacks) n ≡ Some a
    → (c ≢ n) × (stack_at stacks n ≡ Some a)
stack_cut c stacks h = cut_found bytes_eq bytes_eq-Decides stack_key c stacks h

pub stack_kept : (c : List ℕ) (stacks : List Stack) (n : List ℕ) → c ≢ n
    → stack_at (cut_stack c stacks) n ≡ stack_at stacks n
stack_kept c stacks n ne = at-cut_other bytes_eq bytes_eq-Decides stack_key stacks c n ne

pub stack_gone : (c : List ℕ) (stacks : List Stack) → stack_at (cut_stack c stacks) c ≡ None
stack_gone c stacks = at-cut_same bytes_eq bytes_eq-Decides stack_key stacks c

-- graphs
pub graph-key : (graphs : List Graph) (n : List ℕ) (g : Graph) → graph_at graphs n ≡ Some g → g.stack ≡ n
graph-key graphs n g h = at-key bytes_eq bytes_eq-Decides graph_key graphs n g h

pub graph_put : (q : Graph) (graphs : List Graph) {n : List ℕ} {a : Graph}
    → graph_at (put_graph q graphs) n ≡ Some a
    → ((q.stack ≡ n) × (q ≡ a)) ⊎ ((q.stack ≢ n) × (graph_at graphs n ≡ Some a))
graph_put q graphs h = put_found bytes_eq bytes_eq-Decides graph_key q graphs h

pub graph_here : (q : Graph) (graphs : List Graph) → graph_at (put_graph q graphs) q.stack ≡ Some q
graph_here q graphs = at-put_same bytes_eq bytes_eq-Decides graph_key q graphs

pub graph_else : (q : Graph) (graphs : List Graph) (n : List ℕ) → q.stack ≢ n
    → graph_at (put_graph q graphs) n ≡ graph_at graphs n
graph_else q graphs n ne = at-put_other bytes_eq bytes_eq-Decides graph_key q graphs n ne

pub graph_cut : (c : List ℕ) (graphs : List Graph) {n : List ℕ} {a : Graph} → graph_at (cut_graph c graphs) n ≡ Some a
    → (c ≢ n) × (graph_at graphs n ≡ Some a)
graph_cut c graphs h = cut_found bytes_eq bytes_eq-Decides graph_key c graphs h

pub graph_kept : (c : List ℕ) (graphs : List Graph) (n : List ℕ) → c ≢ n
    → graph_at (cut_graph c graphs) n ≡ graph_at graphs n
graph_kept c graphs n ne = at-cut_other bytes_eq bytes_eq-Decides graph_key graphs c n ne

-- pasts
pub past-key : (pasts : List Past) (n : List ℕ) (p : Past) → past_at pasts n ≡ Some p → p.stack ≡ n
past-key pasts n p h = at-key bytes_eq bytes_eq-Decides past_key pasts n p h

pub past_put : (q : Past) (pasts : List Past) {n : List ℕ} {a : Past} → past_at (put_past q pasts) n ≡ Some a
    → ((q.stack ≡ n) × (q ≡ a)) ⊎ ((q.stack ≢ n) × (past_at pasts n ≡ Some a))
past_put q pasts h = put_found bytes_eq bytes_eq-Decides past_key q pasts h

pub past_here : (q : Past) (pasts : List Past) → past_at (put_past q pasts) q.stack ≡ Some q
past_here q pasts = at-put_same bytes_eq bytes_eq-Decides past_key q pasts

pub past_else : (q : Past) (pasts : List Past) (n : List ℕ) → q.stack ≢ n
    → past_at (put_past q pasts) n ≡ past_at pasts n
past_else q pasts n ne = at-put_other bytes_eq bytes_eq-Decides past_key q pasts n ne

pub past_cut : (c : List ℕ) (pasts : List Past) {n : List ℕ} {a : Past} → past_at (cut_past c pasts) n ≡ Some a
    → (c ≢ n) × (past_at pasts n ≡ Some a)
past_cut c pasts h = cut_found bytes_eq bytes_eq-Decides past_key c pasts h

pub past_kept : (c : List ℕ) (pasts : List Past) (n : List ℕ) → c ≢ n → past_at (cut_past c pasts) n ≡ past_at pasts n
past_kept c pasts n ne = at-cut_other bytes_eq bytes_eq-Decides past_key pasts c n ne
