-- What is asked of each record, of claims and of current rows is what is asked of an image.
use Rattle.std.proofs.Common.{◌≡◌, inl, inr, ◌<◌, ℕ, zero, suc, List, [], ◌∷◌, ◌++◌, Some, sym, ap, ◌∙◌, subst, arith}
use Rattle.std.specs.Prelude.{Contains, nat_eq}
use Rattle.std.specs.Str.{bytes_eq}
use Rattle.std.proofs.lemmas.Bool.Decides.{Decides-eqb}
use Rattle.std.proofs.lemmas.List.Elements.{Contains-append_left, Contains-append_right, Contains-get_or}
use Rattle.std.proofs.lemmas.Slice.Eq.{bytes_eq-Decides}
use Rattle.heat_plan.specs.declared.token.Token.{Token}
use Rattle.row_table.specs.Rows.{row_at, row_key}
use Rattle.core_state.specs.declared.Row.{Row}
use Rattle.mail_table.specs.Mails.{job_at, job_key, letter_key}
use Rattle.core_state.specs.declared.Job.{Job}
use Rattle.core_state.specs.State.{StateData, graph_key, stack_key}
use Rattle.step_relation.specs.Images.{IsTied}
use Rattle.step_relation.specs.Linked.{Chained, Locked, OneCurrent, Owned}
use Rattle.step_relation.specs.Numbered.{EachOnce, GraphBelow, LetterBelow, Numbered, StackBelow}
use Rattle.history_laws.proofs.tables.Puts.{contains_cases, contains_head}
use Rattle.history_laws.proofs.tables.Rows.{job-key, row-key}
use Rattle.state_images.specs.Formed.{AreNew, IsFormed}
use Rattle.state_images.specs.Ties.{AreApart, AreTied, IsFree, IsTiedJob, IsTiedRow}
use Rattle.state_images.proofs.Found.{among_found, found_among}
use Rattle.state_images.proofs.Listed.{all_of_each, each_of_all}

-- what is new behind all before it stands once
not_later : (before xs : List ℕ) (x : ℕ) → AreNew before xs → Contains before x → ¬ Contains xs x
not_later before [] x n c (k, lt, is) = omega (arith, lt)
not_later before (y ∷ ys) x n c d = elim (contains_cases y x ys d) [
  | inl is ↦ n.0 (subst (Contains before) (sym is) c)
  | inr there ↦ not_later (before ++ y ∷ []) ys x n.1 (Contains-append_left before (y ∷ []) x c) there
]

new_once : (before xs : List ℕ) → AreNew before xs → EachOnce xs
new_once before [] n i j d lt within = absurd (omega (arith, within))
new_once before (x ∷ xs) n i zero d lt within = absurd (omega (arith, lt))
new_once before (x ∷ xs) n (suc i) (suc j) d lt within = new_once (before ++ x ∷ []) xs n.1 i j d (omega (arith, lt)) (omega (arith, within))
new_once before (x ∷ xs) n zero (suc j) d lt within = λ same.
    not_later (before ++ x ∷ []) xs x n.1 (Contains-append_right before (x ∷ []) x (contains_head x []))
    (subst (Contains xs) (sym same) (Contains-get_or xs j d (omega (arith, within))))

module _ (s : StateData) (f : IsFormed s) where
  row_there : (n : ℕ) (r : Row) → row_at s.rows n ≡ Some r → Contains s.rows r
  row_there n r at = found_among nat_eq Decides-eqb row_key s.rows n r at

  row_found : (r : Row) → Contains s.rows r → row_at s.rows r.no ≡ Some r
  row_found r c = among_found nat_eq Decides-eqb row_key s.rows r f.work.rows_once c

  job_there : (e : ℕ) (j : Job) → job_at s.jobs e ≡ Some j → Contains s.jobs j
  job_there e j at = found_among nat_eq Decides-eqb job_key s.jobs e j at

  job_found : (j : Job) → Contains s.jobs j → job_at s.jobs j.engine ≡ Some j
  job_found j c = among_found nat_eq Decides-eqb job_key s.jobs j f.work.jobs_once c

  module _ (t : AreTied s) (apart : AreApart s.jobs) (owned : Owned s.rows s.graphs s.jobs) (current : OneCurrent s.rows) where
    row : (n : ℕ) (r : Row) → row_at s.rows n ≡ Some r → IsTiedRow s r
    row n r at = each_of_all (IsTiedRow s) s.rows t.rows r (row_there n r at)

    job : (e : ℕ) (j : Job) → job_at s.jobs e ≡ Some j → IsTiedJob s j
    job e j at = each_of_all (IsTiedJob s) s.jobs t.jobs j (job_there e j at)

    free : (x : Token) → Contains s.released x → IsFree s x
    free x c = each_of_all (IsFree s) s.released t.released x c

    numbered : Numbered s
    numbered = record {
      in_table = λ n r at. (row n r at).stack;
      stacks = λ name st at. each_of_all (StackBelow s.next.stack s.next.trav) s.stacks t.stacks st
          (found_among bytes_eq bytes_eq-Decides stack_key s.stacks name st at);
      rows = λ n r at. (row n r at).below;
      graphs = λ name g at. each_of_all (GraphBelow s.next.row) s.graphs t.graphs g
          (found_among bytes_eq bytes_eq-Decides graph_key s.graphs name g at);
      letters = λ n l at. each_of_all (LetterBelow s.next.letter s.next.trav) s.letters t.letters l
          (found_among nat_eq Decides-eqb letter_key s.letters n l at);
      jobs = λ e j at. (job e j at).below;
      live = λ e c. each_of_all (λ (k : ℕ). k < s.next.engine) s.live t.live e c;
      once = new_once [] s.live f.lists.live_once;
    }

    chained : Chained s.rows
    chained = record {
      rises = λ n m r at is. let no_r = row-key s.rows n r at in let up = (row n r at).chained.on.rises m is in omega (arith, no_r, up);
      forth = λ n m r q at is at_q. (row n r at).chained.on.forth m q is at_q;
      back = λ n m r q at at_q is. (row m q at_q).chained.back n r is at;
    }

    locked : Locked s.rows s.jobs
    locked = record {
      held = λ n e r at is. let (j, its, on) = (row n r at).held e is in (j, its, on ∙ row-key s.rows n r at);
      holds = λ e j r at at_r. (job e j at).holds r at_r ∙ ap Some (job-key s.jobs e j at);
      apart = apart;
    }

    pub tied : IsTied s
    tied = record {
      links = record { numbered = numbered; current = current; chained = chained; locked = locked; owned = owned };
      targets = λ n r at. (row n r at).target;
      released = λ x r c at. (free x c).rowless r at;
      below = λ x c. (free x c).below;
    }

  module _ (t : IsTied s) where
    row_tied : (r : Row) → Contains s.rows r → IsTiedRow s r
    row_tied r c = let at = row_found r c in record {
      stack = t.links.numbered.in_table r.no r at;
      below = t.links.numbered.rows r.no r at;
      chained = record {
        on = record {
          rises = λ m is. t.links.chained.rises r.no m r at is;
          forth = λ m q is at_q. t.links.chained.forth r.no m r q at is at_q;
        };
        back = λ n q is at_q. t.links.chained.back n r.no q r at_q at is;
      };
      held = λ e is. t.links.locked.held r.no e r at is;
      target = t.targets r.no r at;
    }

    job_tied : (j : Job) → Contains s.jobs j → IsTiedJob s j
    job_tied j c = let at = job_found j c in record {
      below = t.links.numbered.jobs j.engine j at;
      holds = λ r at_r. t.links.locked.holds j.engine j r at at_r;
    }

    pub ties : AreTied s
    ties = record {
      stacks = all_of_each (StackBelow s.next.stack s.next.trav) s.stacks (λ st c.
          t.links.numbered.stacks st.name st (among_found bytes_eq bytes_eq-Decides stack_key s.stacks st f.stacks.once c));
      graphs = all_of_each (GraphBelow s.next.row) s.graphs (λ g c.
          t.links.numbered.graphs g.stack g (among_found bytes_eq bytes_eq-Decides graph_key s.graphs g f.stacks.graphs_once c));
      rows = all_of_each (IsTiedRow s) s.rows row_tied;
      letters = all_of_each (LetterBelow s.next.letter s.next.trav) s.letters (λ l c.
          t.links.numbered.letters l.no l (among_found nat_eq Decides-eqb letter_key s.letters l f.work.letters_once c));
      jobs = all_of_each (IsTiedJob s) s.jobs job_tied;
      live = all_of_each (λ (k : ℕ). k < s.next.engine) s.live t.links.numbered.live;
      released = all_of_each (IsFree s) s.released (λ x c. record { below = t.below x c; rowless = λ r at. t.released x r c at });
    }
