-- What a file says of its resource: two lines of JSON.
use Rattle.std.specs.Prelude.{◌≡◌, ℕ, List, [], ◌∷◌, ◌++◌, codes, false, true, Option, Some, None, option_map, if◌then◌else◌}
use Rattle.heat_value.specs.Data.{Data, flag, words, fields, Members, no_members, member}
use Rattle.heat_value.specs.Compact.{compact}
use Rattle.heat_value.specs.Reading.{IsReadAs}
use Rattle.heat_plan.specs.declared.token.Token.{Token}
use Rattle.heat_plan.specs.declared.calls.Request.{Request}
use Rattle.heat_plan.specs.declared.calls.Request.TheVariants.{Create, Update, Delete, Poll, Gone}
use Rattle.provider.specs.Same.{same_members}
use Rattle.sim_cloud.specs.declared.held.Held.{Held}
use Rattle.file_provider.specs.declared.card.Card.{Card}
use Rattle.file_provider.specs.Names.{facts_for}

-- the first line: all but the properties
abbrev pub head_of : Card → Data
head_of p = fields (
    member (codes "kind") (words p.kind) (
    member (codes "leaving") (flag p.leaving) (
    member (codes "ready") (flag p.ready) no_members)))

-- both lines
abbrev pub text_of : Card → List ℕ
text_of p = compact (head_of p) ++ 10 ∷ (compact (fields p.props) ++ 10 ∷ [])

-- bytes that say the card: its two lines, each in any spelling of JSON
pub record IsCardOf (bytes : List ℕ) (p : Card) : Type 0 where
  pub first : List ℕ
  pub second : List ℕ
  pub parts : bytes ≡ first ++ 10 ∷ second
  pub head : IsReadAs first (head_of p)
  pub props : IsReadAs second (fields p.props)

-- the card of a resource
abbrev pub card_of : Held → Card
card_of h = record { kind = h.what.kind; props = h.what.props; leaving = h.leaving; ready = h.what.ready }

-- the resource of a token that a card says
abbrev pub held_by : Token → Card → Held
held_by token p = record {
  what = record { token = token; kind = p.kind; props = p.props; facts = facts_for token p.props; ready = p.ready };
  leaving = p.leaving;
  left = 0;
}

-- as an update leaves it
abbrev pub updated_by : Members → Card → Card
updated_by props p = if same_members p.props props then p else record p { props = props; ready = false }

-- the card behind a request that is begun, a poll that is Ready and a question that is Gone
abbrev pub card_after : Request → Option Card → Option Card
card_after (Create kind props) None = Some (record { kind = kind; props = props; leaving = false; ready = false })
card_after (Create kind props) (Some p) = Some p
card_after (Update props) card = option_map (updated_by props) card
card_after Delete card = option_map (λ (p : Card). record p { leaving = true }) card
card_after Poll card = option_map (λ (p : Card). record p { ready = true }) card
card_after Gone card = None
