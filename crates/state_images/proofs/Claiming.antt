-- Claims tell whose a row's number is.
use Rattle.std.proofs.Common.{◌≡◌, inl, inr, ℕ, List, map, ◌++◌, refl, sym, ap, ◌∙◌, subst}
use Rattle.std.specs.Prelude.{Contains, flat_map, nat_eq, ◌↔◌}
use Rattle.std.specs.Str.{bytes_eq}
use Rattle.std.proofs.lemmas.Bool.Decides.{Decides-eqb}
use Rattle.std.proofs.lemmas.List.Elements.{Contains-append_cases, Contains-append_left, Contains-append_right}
use Rattle.std.proofs.lemmas.Slice.Eq.{bytes_eq-Decides}
use Rattle.row_table.specs.Rows.{row_key}
use Rattle.mail_table.specs.Mails.{job_key}
use Rattle.core_state.specs.State.{StateData, graph_key}
use Rattle.step_relation.specs.Linked.{IsOf, Owned, by_job, by_node, by_row}
use Rattle.step_relation.specs.Numbered.{row_of}
use Rattle.history_laws.proofs.tables.Rows.{graph-key, job-key, row-key}
use Rattle.state_images.specs.Claims.{AreSingle, graph_claims, holder_claim, job_claim, node_claim, row_claim, stack_claims}
use Rattle.state_images.specs.Formed.{IsFormed}
use Rattle.state_images.specs.Ties.{AreApart}
use Rattle.state_images.specs.declared.claim.Claim.{Claim}
use Rattle.state_images.specs.declared.claim.Claimant.TheVariants.{Engine, Stack}
use Rattle.state_images.proofs.Found.{among_found, found_among}
use Rattle.state_images.proofs.Listed.{at_has, flat_has, has_at, map_has, of_flat, of_map}

abbrev by_stack : ℕ → List ℕ → Claim
by_stack n name = record { no = n; by = Stack name }

abbrev by_engine : ℕ → ℕ → Claim
by_engine n e = record { no = n; by = Engine e }

same_claim : (m n : ℕ) (a b : List ℕ) → m ≡ n → a ≡ b → by_stack m a ≡ by_stack n b
same_claim m n a b e f = rw (e, f) refl

module _ (s : StateData) (f : IsFormed s) where
  abbrev rows_part : List Claim
  rows_part = map row_claim s.rows

  abbrev nodes_part : List Claim
  nodes_part = flat_map graph_claims s.graphs

  abbrev jobs_part : List Claim
  jobs_part = map job_claim s.jobs

  -- each owner claims, and each claim is an owner's
  claim_of : (n : ℕ) (name : List ℕ) → IsOf s.rows s.graphs s.jobs n name → Contains (stack_claims s) (by_stack n name)
  claim_of n name (by_row r at is) = Contains-append_left rows_part (nodes_part ++ jobs_part) (by_stack n name)
      (subst (Contains rows_part) (same_claim r.no n r.stack name (row-key s.rows n r at) is)
      (map_has row_claim s.rows r (found_among nat_eq Decides-eqb row_key s.rows n r at)))
  claim_of n name (by_node g i node at at_i is) =
      Contains-append_right rows_part (nodes_part ++ jobs_part) (by_stack n name) (Contains-append_left nodes_part jobs_part (by_stack n name)
      (flat_has graph_claims s.graphs g (by_stack n name) (found_among bytes_eq bytes_eq-Decides graph_key s.graphs name g at)
      (subst (Contains (graph_claims g)) (same_claim (row_of node) n g.stack name is (graph-key s.graphs name g at))
      (map_has (node_claim g.stack) g.graph.nodes node (at_has g.graph.nodes i node at_i)))))
  claim_of n name (by_job e j at on is) =
      Contains-append_right rows_part (nodes_part ++ jobs_part) (by_stack n name) (Contains-append_right nodes_part jobs_part (by_stack n name)
      (subst (Contains jobs_part) (same_claim j.row n j.letter.stack name on is)
      (map_has job_claim s.jobs j (found_among nat_eq Decides-eqb job_key s.jobs e j at))))

  -- whose a claim is
  record Whose (c : Claim) : Type 0 where
    name : List ℕ
    by_ : c.by ≡ Stack name
    its : IsOf s.rows s.graphs s.jobs c.no name

  whose : (c : Claim) → Contains (stack_claims s) c → Whose c
  whose c among = elim (Contains-append_cases rows_part (nodes_part ++ jobs_part) c among) [
    | inl row ↦ (let (r, there, is) = of_map row_claim s.rows c row in subst Whose (sym is) (record {
      name = r.stack;
      by_ = refl;
      its = by_row r (among_found nat_eq Decides-eqb row_key s.rows r f.work.rows_once there) refl;
    }))
    | inr rest ↦ elim (Contains-append_cases nodes_part jobs_part c rest) [
      | inl nodes ↦ (let (g, there, own) = of_flat graph_claims s.graphs c nodes in
          let (node, among_g, is) = of_map (node_claim g.stack) g.graph.nodes c own in
          let (i, at_i) = has_at g.graph.nodes node among_g in subst Whose (sym is) (record {
            name = g.stack;
            by_ = refl;
            its = by_node g i node (among_found bytes_eq bytes_eq-Decides graph_key s.graphs g f.stacks.graphs_once there) at_i refl;
          }))
      | inr job ↦ (let (j, there, is) = of_map job_claim s.jobs c job in subst Whose (sym is) (record {
        name = j.letter.stack;
        by_ = refl;
        its = by_job j.engine j (among_found nat_eq Decides-eqb job_key s.jobs j f.work.jobs_once there) refl refl;
      }))
    ]
  ]

  same_stack : (a b : List ℕ) → Stack a ≡ Stack b → a ≡ b
  same_stack a b e = cc

  same_engine : (a b : ℕ) → Engine a ≡ Engine b → a ≡ b
  same_engine a b e = cc

  pub owned_single : AreSingle (stack_claims s) ↔ Owned s.rows s.graphs s.jobs
  owned_single = (
    (λ one. record {
      one = λ n a b x y.
          same_stack a b (one (by_stack n a) (by_stack n b) (claim_of n a x) (claim_of n b y) refl);
    }),
    (λ owned c d in_c in_d e.
        let x = whose c in_c in
        let y = whose d in_d in
        x.by_ ∙ (ap Stack (owned.one d.no x.name y.name (subst (λ (n : ℕ). IsOf s.rows s.graphs s.jobs n x.name) e x.its) y.its) ∙ sym y.by_)),
  )

  pub apart_single : AreSingle (map holder_claim s.jobs) ↔ AreApart s.jobs
  apart_single = (
    (λ one e g j k at_e at_g same.
        sym (job-key s.jobs e j at_e) ∙ (same_engine j.engine k.engine (one (holder_claim j) (holder_claim k)
        (map_has holder_claim s.jobs j (found_among nat_eq Decides-eqb job_key s.jobs e j at_e))
        (map_has holder_claim s.jobs k (found_among nat_eq Decides-eqb job_key s.jobs g k at_g)) same) ∙ job-key s.jobs g k at_g)),
    (λ apart c d in_c in_d e.
        let (j, there, is) = of_map holder_claim s.jobs c in_c in
        let (k, also, its) = of_map holder_claim s.jobs d in_d in
        let rows : j.row ≡ k.row = sym (ap (λ (x : Claim). x.no) is) ∙ (e ∙ ap (λ (x : Claim). x.no) its) in
        let one : j.engine ≡ k.engine = apart j.engine k.engine j k (among_found nat_eq Decides-eqb job_key s.jobs j f.work.jobs_once there)
        (among_found nat_eq Decides-eqb job_key s.jobs k f.work.jobs_once also) rows in
        ap (λ (x : Claim). x.by) is ∙ (ap Engine one ∙ sym (ap (λ (x : Claim). x.by) its))),
  )
