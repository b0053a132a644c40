-- What the texts of a body are put together from.
use Rattle.std.proofs.Common.{◌≡◌, ◌∙◌, ℕ, suc, ◌+◌, ◌-◌, ◌<◌, ◌≤◌, ◌/◌, List, [], ◌∷◌, ◌++◌, Bool, true, false, nat_lt, codes, refl, sym, ap, append_assoc, arith, subst, if◌then◌else◌}
use Rattle.json.specs.Print.{escape_byte, quoted}
use Rattle.heat_value.specs.Compact.{compact, fields_text}
use Rattle.heat_value.specs.Data.{Data, words, fields, Members, member}
use Rattle.script_generator.specs.Resources.{name_of, properties_of, resource_of, resources_from}
use Rattle.script_generator.specs.Script.{body_of, lines_over, text_of_lines, script_of}
use Rattle.script_generator.specs.Texts.{need_text, member_text}
use Rattle.script_generator.specs.declared.body.Body.{Body}
use Rattle.script_generator.specs.declared.body.Body.TheVariants.{First, Second}

-- the text of a resource's properties and type, and of what closes it
abbrev pub parts_text : Body → ℕ → List ℕ
parts_text body i = codes "\"properties\":" ++ (compact (fields (properties_of body i)) ++ codes ",\"type\":\"Test::Box\"}")

-- what a resource's text begins with, by whether it depends on one
with_need : (b : Bool) (name k : List ℕ) (d : Data) (ms : Members) →
    compact (fields (if b then member (codes "depends_on") (words name) (member k d ms) else member k d ms))
    ≡ 123 ∷ ((if b then quoted (codes "depends_on") ++ 58 ∷ quoted name ++ 44 ∷ [] else []) ++ fields_text false (member k d ms))
unfolding escape_byte
with_need true name k d ms = simp append_assoc refl
with_need false name k d ms = refl

pub resource_parts : (body : Body) (i : ℕ) → compact (resource_of body i) ≡ 123 ∷ (need_text i ++ parts_text body i)
unfolding resource_of escape_byte
resource_parts body i = with_need (nat_lt 1 i) (name_of (i / 2)) _ _ _

pub body_parts : (body : Body) (n : ℕ) → compact (body_of body n) ≡ codes "{\"template\":{\"heat_template_version\":\"2018-08-31\",\"resources\":" ++ (compact (fields (resources_from body 1 n)) ++ codes "}}")
unfolding body_of escape_byte
body_parts body n = ap (λ t. codes "{\"template\":{\"heat_template_version\":\"2018-08-31\",\"resources\":" ++ t) (append_assoc (compact (fields (resources_from body 1 n))) (125 ∷ []) (125 ∷ []))

-- the members from the resource i on begin with it
pub members_from : (body : Body) (i k : ℕ) → fields_text (nat_lt 1 i) (resources_from body i (suc k))
    ≡ member_text body i ++ fields_text true (resources_from body (suc i) k)
members_from body i k = simp append_assoc refl

-- one more member's text behind those so far
pub one_more : (body : Body) (i n : ℕ) (old new whole : List ℕ) → 1 ≤ i → i < n + 1 → new ≡ old ++ member_text body i
    → old ++ fields_text (nat_lt 1 i) (resources_from body i (n + 1 - i)) ≡ whole
    → new ++ fields_text (nat_lt 1 (i + 1)) (resources_from body (i + 1) (n + 1 - (i + 1))) ≡ whole
one_more body i n old new whole some below is so_far =
    let left : n + 1 - i ≡ suc (n - i) = omega arith in
    let next : n + 1 - (i + 1) ≡ n - i = omega arith in
    let step : i + 1 ≡ suc i = omega arith in
    let later : nat_lt 1 (i + 1) ≡ true = grind arith in
    let behind : List ℕ = fields_text true (resources_from body (suc i) (n - i)) in
    (λ j. is j ++ fields_text (later j) (resources_from body (step j) (next j)))
    ∙ append_assoc old (member_text body i) behind ∙ ap (λ t. old ++ t) (sym (members_from body i (n - i)))
    ∙ subst (λ (k : ℕ). old ++ fields_text (nat_lt 1 i) (resources_from body i k) ≡ whole) left so_far

-- the eight lines of two bodies, with all LFs in place
lines_with : (a b : List ℕ) → text_of_lines (lines_over a b)
    ≡ codes "create g " ++ (a ++ (codes "\nrun\nupdate g " ++ (b ++ (codes "\nrun 10\nupdate g " ++ (a ++ codes "\nrun\ndelete g\nrun\n")))))
lines_with a b =
    let last : List ℕ = codes "run\ndelete g\nrun\n" in
    let third : (a ++ 10 ∷ []) ++ last ≡ a ++ 10 ∷ last = append_assoc a (10 ∷ []) last in
    let second : (b ++ 10 ∷ []) ++ (codes "run 10\nupdate g " ++ ((a ++ 10 ∷ []) ++ last)) ≡ b ++ (codes "\nrun 10\nupdate g " ++ (a ++ 10 ∷ last)) =
    append_assoc b (10 ∷ []) (codes "run 10\nupdate g " ++ ((a ++ 10 ∷ []) ++ last)) ∙ ap (λ t. b ++ (codes "\nrun 10\nupdate g " ++ t)) third in
    ap (λ t. codes "create g " ++ t) (append_assoc a (10 ∷ []) (codes "run\nupdate g " ++ ((b ++ 10 ∷ []) ++ (codes "run 10\nupdate g " ++ ((a ++ 10 ∷ []) ++ last))))
    ∙ ap (λ t. a ++ (codes "\nrun\nupdate g " ++ t)) second)

pub eight_lines : (n : ℕ) → script_of n
    ≡ codes "create g " ++ (compact (body_of First n) ++ (codes "\nrun\nupdate g " ++ (compact (body_of Second n)
    ++ (codes "\nrun 10\nupdate g " ++ (compact (body_of First n) ++ codes "\nrun\ndelete g\nrun\n")))))
eight_lines n = lines_with (compact (body_of First n)) (compact (body_of Second n))
