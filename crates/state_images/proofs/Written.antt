-- Changes that write one table of a state after another.
use Rattle.std.proofs.Common.{◌≡◌, ℕ, List, [], ◌∷◌, ◌++◌, map, refl, sym, ap, subst, append_assoc}
use Rattle.std.specs.Prelude.{nat_eq}
use Rattle.std.specs.List.{AllByRecursion}
use Rattle.std.specs.Str.{bytes_eq}
use Rattle.std.proofs.lemmas.List.{append-nil}
use Rattle.std.proofs.lemmas.Bool.Decides.{Decides-eqb}
use Rattle.std.proofs.lemmas.Slice.Eq.{bytes_eq-Decides}
use Rattle.heat_plan.specs.declared.token.Token.{Token}
use Rattle.row_table.specs.Rows.{row_key}
use Rattle.core_state.specs.declared.Row.{Row}
use Rattle.mail_table.specs.Mails.{job_key, letter_key}
use Rattle.core_state.specs.declared.Job.{Job}
use Rattle.core_state.specs.declared.Letter.{Letter}
use Rattle.core_state.specs.Applies.{AllApply}
use Rattle.core_state.specs.Changes.{applied, apply, fresh_graph}
use Rattle.core_state.specs.State.{StateData, graph_key, past_key, stack_key}
use Rattle.core_state.specs.declared.change.Change.{Change}
use Rattle.core_state.specs.declared.change.Change.TheVariants.{Enlist, PutGraph, PutJob, PutPast, PutRow, PutStack, Release, Send}
use Rattle.core_state.specs.declared.graph.Graph.{Graph}
use Rattle.core_state.specs.declared.past.Past.{Past}
use Rattle.core_state.specs.declared.stack.Stack.{Stack}
use Rattle.state_images.specs.Formed.{AreNew, HasKeysOnce, IsLaid, IsOfThese}
use Rattle.state_images.proofs.Keys.{AreFree, free_more, put_new}

-- the changes all apply, and lead from the one state to the other
pub record Leads (s : StateData) (cs : List Change) (t : StateData) : Type 0 where
  pub applies : AllApply cs s
  pub gives : applied cs s ≡ t

pub joined : (cs ds : List Change) (s t u : StateData) → Leads s cs t → Leads t ds u → Leads s (cs ++ ds) u
joined [] ds s t u l m = subst (λ (x : StateData). Leads x ds u) (sym l.gives) m
joined (c ∷ cs) ds s t u l m =
    let rest = joined cs ds (apply c s) t u (record { applies = l.applies.1; gives = l.gives }) m in
    record { applies = (l.applies.0, rest.applies); gives = rest.gives }

-- lists that are read as one
shifted : {A : Type 0} (field : List A → StateData) (xs : List A) (x : A) (ys : List A) (s : StateData) (cs : List Change)
    → Leads s cs (field ((xs ++ x ∷ []) ++ ys)) → Leads s cs (field (xs ++ x ∷ ys))
shifted field xs x ys s cs l = subst (λ (zs : List _). Leads s cs (field zs)) (append_assoc xs (x ∷ []) ys) l

none_left : {A : Type 0} (field : List A → StateData) (xs : List A) → Leads (field xs) [] (field (xs ++ []))
none_left field xs = record { applies = tt; gives = sym (ap field (append-nil xs)) }

-- one change more in front, where it applies and leaves the field with its record behind
one_more : {A : Type 0} (field : List A → StateData) (there : List A) (x : A) (xs : List A) (c : Change) (cs : List Change)
    → AllApply (c ∷ []) (field there) → apply c (field there) ≡ field (there ++ x ∷ [])
    → Leads (field (there ++ x ∷ [])) cs (field ((there ++ x ∷ []) ++ xs)) → Leads (field there) (c ∷ cs) (field (there ++ x ∷ xs))
one_more field there x xs c cs a is rest =
    let moved = subst (λ (u : StateData). Leads u cs (field ((there ++ x ∷ []) ++ xs))) (sym is) rest in
    shifted field there x xs (field there) (c ∷ cs) (record { applies = (a.0, moved.applies); gives = moved.gives })

-- a graph on which nothing has been done, and the change that puts it
abbrev pub fresh_of : Graph → Graph
fresh_of g = fresh_graph g.stack g.graph

abbrev pub graph_change : Graph → Change
graph_change g = PutGraph g.stack g.graph

module _ (s : StateData) where
  pub stacks_written : (there xs : List Stack) → AreFree bytes_eq bytes_eq-Decides stack_key there xs → HasKeysOnce bytes_eq stack_key xs
      → Leads (record s { stacks = there }) (map PutStack xs) (record s { stacks = there ++ xs })
  stacks_written there [] f o = none_left (λ (l : List Stack). record s { stacks = l }) there
  stacks_written there (x ∷ xs) f o = one_more (λ (l : List Stack). record s { stacks = l }) there x xs (PutStack x) (map PutStack xs) (tt, tt)
      (ap (λ (l : List Stack). record s { stacks = l }) (put_new bytes_eq bytes_eq-Decides stack_key x there f.0))
      (stacks_written (there ++ x ∷ []) xs (free_more bytes_eq bytes_eq-Decides stack_key there x xs f.1 o.0) o.1)

  pub rows_written : (there xs : List Row) → AreFree nat_eq Decides-eqb row_key there xs → HasKeysOnce nat_eq row_key xs
      → Leads (record s { rows = there }) (map PutRow xs) (record s { rows = there ++ xs })
  rows_written there [] f o = none_left (λ (l : List Row). record s { rows = l }) there
  rows_written there (x ∷ xs) f o = one_more (λ (l : List Row). record s { rows = l }) there x xs (PutRow x) (map PutRow xs) (tt, tt)
      (ap (λ (l : List Row). record s { rows = l }) (put_new nat_eq Decides-eqb row_key x there f.0))
      (rows_written (there ++ x ∷ []) xs (free_more nat_eq Decides-eqb row_key there x xs f.1 o.0) o.1)

  pub letters_written : (there xs : List Letter) → AreFree nat_eq Decides-eqb letter_key there xs → HasKeysOnce nat_eq letter_key xs
      → Leads (record s { letters = there }) (map Send xs) (record s { letters = there ++ xs })
  letters_written there [] f o = none_left (λ (l : List Letter). record s { letters = l }) there
  letters_written there (x ∷ xs) f o = one_more (λ (l : List Letter). record s { letters = l }) there x xs (Send x) (map Send xs) (f.0, tt)
      (ap (λ (l : List Letter). record s { letters = l }) (put_new nat_eq Decides-eqb letter_key x there f.0))
      (letters_written (there ++ x ∷ []) xs (free_more nat_eq Decides-eqb letter_key there x xs f.1 o.0) o.1)

  pub jobs_written : (there xs : List Job) → AreFree nat_eq Decides-eqb job_key there xs → HasKeysOnce nat_eq job_key xs
      → Leads (record s { jobs = there }) (map PutJob xs) (record s { jobs = there ++ xs })
  jobs_written there [] f o = none_left (λ (l : List Job). record s { jobs = l }) there
  jobs_written there (x ∷ xs) f o = one_more (λ (l : List Job). record s { jobs = l }) there x xs (PutJob x) (map PutJob xs) (tt, tt)
      (ap (λ (l : List Job). record s { jobs = l }) (put_new nat_eq Decides-eqb job_key x there f.0))
      (jobs_written (there ++ x ∷ []) xs (free_more nat_eq Decides-eqb job_key there x xs f.1 o.0) o.1)

  pub pasts_written : (there xs : List Past) → AreFree bytes_eq bytes_eq-Decides past_key there xs → HasKeysOnce bytes_eq past_key xs
      → AllByRecursion (IsOfThese s.stacks) xs
      → Leads (record s { pasts = there }) (map PutPast xs) (record s { pasts = there ++ xs })
  pasts_written there [] f o k = none_left (λ (l : List Past). record s { pasts = l }) there
  pasts_written there (x ∷ xs) f o k = one_more (λ (l : List Past). record s { pasts = l }) there x xs (PutPast x) (map PutPast xs) (k.0, tt)
      (ap (λ (l : List Past). record s { pasts = l }) (put_new bytes_eq bytes_eq-Decides past_key x there f.0))
      (pasts_written (there ++ x ∷ []) xs (free_more bytes_eq bytes_eq-Decides past_key there x xs f.1 o.0) o.1 k.1)

  pub engines_written : (there xs : List ℕ) → AreNew there xs → Leads (record s { live = there }) (map Enlist xs) (record s { live = there ++ xs })
  engines_written there [] n = none_left (λ (l : List ℕ). record s { live = l }) there
  engines_written there (x ∷ xs) n = one_more (λ (l : List ℕ). record s { live = l }) there x xs (Enlist x) (map Enlist xs) (n.0, tt) refl
      (engines_written (there ++ x ∷ []) xs n.1)

  pub tokens_written : (there xs : List Token) → AreNew there xs
      → Leads (record s { released = there }) (map Release xs) (record s { released = there ++ xs })
  tokens_written there [] n = none_left (λ (l : List Token). record s { released = l }) there
  tokens_written there (x ∷ xs) n = one_more (λ (l : List Token). record s { released = l }) there x xs (Release x) (map Release xs) (n.0, tt) refl
      (tokens_written (there ++ x ∷ []) xs n.1)

  pub graphs_written : (there xs : List Graph) → AreFree bytes_eq bytes_eq-Decides graph_key there xs → HasKeysOnce bytes_eq graph_key xs
      → AllByRecursion (IsLaid s.stacks) xs
      → Leads (record s { graphs = there }) (map graph_change xs) (record s { graphs = there ++ map fresh_of xs })
  graphs_written there [] f o k = none_left (λ (l : List Graph). record s { graphs = l }) there
  graphs_written there (x ∷ xs) f o k =
      one_more (λ (l : List Graph). record s { graphs = l }) there (fresh_of x) (map fresh_of xs) (graph_change x) (map graph_change xs)
      ((k.0.stands, k.0.ends), tt)
      (ap (λ (l : List Graph). record s { graphs = l }) (put_new bytes_eq bytes_eq-Decides graph_key (fresh_of x) there f.0))
      (graphs_written (there ++ fresh_of x ∷ []) xs (free_more bytes_eq bytes_eq-Decides graph_key there (fresh_of x) xs f.1 o.0) o.1 k.1)
