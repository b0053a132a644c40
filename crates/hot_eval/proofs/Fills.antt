-- A template that is replaced part by part.
use Rattle.std.proofs.Common.{◌≡◌, ◌∙◌, ◌+◌, ◌<◌, ℕ, List, Bool, true, false, Option, Some, None}
use Rattle.std.proofs.Common.{option_map, option_and_then, refl, ap, sym, subst, arith}
use Rattle.std.specs.Prelude.{MatchBool, MatchOption}
use Rattle.heat_value.specs.Data.{Data, items, fields, Nodes, no_nodes, node, node_last, Members, no_members, member, put}
use Rattle.hot_functions.specs.Forms.{stands}
use Rattle.eval_words.specs.Choices.{Choice}
use Rattle.eval_words.specs.Fillings.{filled, nodes_filled, members_filled, text_filled}
use Rattle.eval_words.specs.Fillings.{filled_size, nodes_size, members_size}
use Rattle.eval_words.specs.Lists.{both_lists}
use Rattle.eval_words.specs.Maps.{mapped_onto, map_of}
use Rattle.hot_eval.specs.Rooms.{IsItemFilled, IsMemberFilled, member_size}
use Rattle.hot_eval.proofs.Joins.{both_lists-none, both_lists-last}
use Rattle.hot_eval.proofs.Renames.{mapped_onto-same, mapped_onto-new}

-- ---- lists

-- what was filled stands before what is left; or two keys became one
abbrev pub ListStands : Choice → Bool → Nodes → Nodes → Nodes → Type 0
ListStands c same done rest whole = MatchBool same (nodes_filled c whole ≡ None)
    (option_map (both_lists done) (nodes_filled c rest) ≡ nodes_filled c whole)

pub record AreFilling (c : Choice) (before now : ℕ) (same : Bool) (done rest whole : Nodes) : Type 0 where
  pub room : now + nodes_size c whole ≡ before + nodes_size c rest
  pub filled : ListStands c same done rest whole

pub filling_none : (c : Choice) (before : ℕ) (whole : Nodes) → AreFilling c before before false no_nodes whole whole
filling_none c before whole = record { room = refl; filled = same_map (nodes_filled c whole) }
  where
    same_map : (o : Option Nodes) → option_map (both_lists no_nodes) o ≡ o
    same_map None = refl
    same_map (Some ns) = refl

onto_next : (made : Nodes) (d : Data) (o : Option Nodes)
    → option_map (both_lists (node_last made d)) o ≡ option_map (both_lists made) (option_map (node d) o)
onto_next made d None = refl
onto_next made d (Some ns) = ap Some (both_lists-last made d ns)

room_next : (before now then' whole rest part next : ℕ) → now + whole ≡ before + rest → rest ≡ part + next
    → then' + part ≡ now → then' + whole ≡ before + next
room_next before now then' whole rest part next room at took = omega (arith, room, at, took)

-- what the rest is in front of, once its first part is filled
module _ (c : Choice) (done rest next whole : Nodes) (e : Data) (at : rest ≡ node e next)
    (h : option_map (both_lists done) (nodes_filled c rest) ≡ nodes_filled c whole) where
  first_some : (d : Data) → filled c e ≡ Some d
      → option_map (both_lists (node_last done d)) (nodes_filled c next) ≡ nodes_filled c whole
  first_some d is =
      onto_next done d (nodes_filled c next)
      ∙ ap (λ o. option_map (both_lists done) (option_and_then (λ x. option_map (node x) (nodes_filled c next)) o)) (sym is)
      ∙ ap (λ x. option_map (both_lists done) (nodes_filled c x)) (sym at) ∙ h

  first_none : filled c e ≡ None → nodes_filled c whole ≡ None
  first_none is =
      sym h ∙ ap (λ x. option_map (both_lists done) (nodes_filled c x)) at
      ∙ ap (λ o. option_map (both_lists done) (option_and_then (λ x. option_map (node x) (nodes_filled c next)) o)) is

pub filling_next : (c : Choice) (before now then' : ℕ) (same : Bool) (done pushed rest next whole : Nodes) (e d : Data)
    → rest ≡ node e next → filled c e ≡ Some d → then' + filled_size c e ≡ now → pushed ≡ node_last done d
    → AreFilling c before now same done rest whole → AreFilling c before then' same pushed next whole
filling_next c before now then' same done pushed rest next whole e d at is took push h = record {
  room = room_next before now then' (nodes_size c whole) (nodes_size c rest) (filled_size c e) (nodes_size c next) h.room
      (ap (nodes_size c) at) took;
  filled = by same h.filled;
}
  where
    by : (b : Bool) → ListStands c b done rest whole → ListStands c b pushed next whole
    by true none = none
    by false way =
        ap (λ x. option_map (both_lists x) (nodes_filled c next)) push ∙ first_some c done rest next whole e at way d is

pub filling_large : (c : Choice) (before now : ℕ) (same : Bool) (done rest next whole : Nodes) (e : Data)
    → rest ≡ node e next → now < filled_size c e → AreFilling c before now same done rest whole
    → before < nodes_size c whole
filling_large c before now same done rest next whole e at more h =
    omega (arith, h.room, ap (nodes_size c) at, more)

-- the next part, whatever came of it
pub filling_step : (c : Choice) (before now then' : ℕ) (same twice : Bool) (done pushed rest next whole : Nodes) (e : Data)
    → rest ≡ node e next → IsItemFilled (Some twice) now then' (filled_size c e) (filled c e) same done pushed
    → AreFilling c before now same done rest whole → AreFilling c before then' twice pushed next whole
filling_step c before now then' same twice done pushed rest next whole e at (took, put) h = by (filled c e) refl put
  where
    by : (o : Option Data) → filled c e ≡ o
        → MatchOption o (twice ≡ true) (λ d. (twice ≡ same) × (pushed ≡ node_last done d))
        → AreFilling c before then' twice pushed next whole
    by None is twice_is = record {
      room = room_next before now then' (nodes_size c whole) (nodes_size c rest) (filled_size c e) (nodes_size c next)
          h.room (ap (nodes_size c) at) took;
      filled = subst (λ b. ListStands c b pushed next whole) (sym twice_is) (none_left same is h.filled);
    }
      where
        none_left : (b : Bool) → filled c e ≡ None → ListStands c b done rest whole → nodes_filled c whole ≡ None
        none_left true is none = none
        none_left false is way = first_none c done rest next whole e at way is
    by (Some d) is (same_is, push) =
        subst (λ b. AreFilling c before then' b pushed next whole) (sym same_is)
        (filling_next c before now then' same done pushed rest next whole e d at is took push h)

-- the whole list
pub filling_all : (c : Choice) (before now : ℕ) (same : Bool) (done rest whole : Nodes) → rest ≡ no_nodes → same ≡ false
    → AreFilling c before now same done rest whole
    → (option_map items (nodes_filled c whole) ≡ Some (items done)) × (now + nodes_size c whole ≡ before)
filling_all c before now same done rest whole end is h = (
  ap (option_map items) (sym (way same is h.filled) ∙ ap (λ x. option_map (both_lists done) (nodes_filled c x)) end
      ∙ ap Some (both_lists-none done)),
  omega (arith, h.room, ap (nodes_size c) end),
)
  where
    way : (b : Bool) → b ≡ false → ListStands c b done rest whole
        → option_map (both_lists done) (nodes_filled c rest) ≡ nodes_filled c whole
    way true e stands = cc
    way false e stands = stands

pub filling_twice : (c : Choice) (before now : ℕ) (same : Bool) (done rest whole : Nodes) → rest ≡ no_nodes
    → same ≡ true → AreFilling c before now same done rest whole
    → (option_map items (nodes_filled c whole) ≡ None) × (now + nodes_size c whole ≡ before)
filling_twice c before now same done rest whole end is h =
    (ap (option_map items) (none same is h.filled), omega (arith, h.room, ap (nodes_size c) end))
  where
    none : (b : Bool) → b ≡ true → ListStands c b done rest whole → nodes_filled c whole ≡ None
    none true e stands = stands
    none false e stands = cc

-- ---- objects

abbrev pub MapStands : Choice → Bool → Members → Members → Members → Type 0
MapStands c same done rest whole = MatchBool same (option_and_then map_of (members_filled c whole) ≡ None)
    (option_and_then (mapped_onto done) (members_filled c rest) ≡ option_and_then map_of (members_filled c whole))

pub record AreFillingKeys (c : Choice) (before now : ℕ) (same : Bool) (done rest whole : Members) : Type 0 where
  pub room : now + members_size c whole ≡ before + members_size c rest
  pub filled : MapStands c same done rest whole

pub keys_none : (c : Choice) (before : ℕ) (whole : Members) → AreFillingKeys c before before false no_members whole whole
keys_none c before whole = record { room = refl; filled = refl }

onto_same : (made : Members) (k : List ℕ) (d : Data) (o : Option Members) → stands k made ≡ true
    → option_and_then (mapped_onto made) (option_map (member k d) o) ≡ None
onto_same made k d None there = refl
onto_same made k d (Some ms) there = mapped_onto-same k d made ms there

onto_new : (made : Members) (k : List ℕ) (d : Data) (o : Option Members) → stands k made ≡ false
    → option_and_then (mapped_onto made) (option_map (member k d) o) ≡ option_and_then (mapped_onto (put k d made)) o
onto_new made k d None other = refl
onto_new made k d (Some ms) other = mapped_onto-new k d made ms other

-- the next member, once its value is filled
module _ (c : Choice) (made rest next whole : Members) (k : List ℕ) (e : Data) (at : rest ≡ member k e next)
    (h : option_and_then (mapped_onto made) (members_filled c rest) ≡ option_and_then map_of (members_filled c whole)) where
  left_none : filled c e ≡ None → None ≡ option_and_then map_of (members_filled c whole)
  left_none is =
      sym (ap (λ o. option_and_then (mapped_onto made)
      (option_and_then (λ x. option_map (member (text_filled c k) x) (members_filled c next)) o)) is)
      ∙ (ap (λ x. option_and_then (mapped_onto made) (members_filled c x)) (sym at) ∙ h)

  left_some : (d : Data) → filled c e ≡ Some d
      → option_and_then (mapped_onto made) (option_map (member (text_filled c k) d) (members_filled c next))
      ≡ option_and_then map_of (members_filled c whole)
  left_some d is =
      sym (ap (λ o. option_and_then (mapped_onto made)
      (option_and_then (λ x. option_map (member (text_filled c k) x) (members_filled c next)) o)) is)
      ∙ (ap (λ x. option_and_then (mapped_onto made) (members_filled c x)) (sym at) ∙ h)

pub keys_next : (c : Choice) (before now then' : ℕ) (same : Bool) (done pushed rest next whole : Members) (k l : List ℕ)
    (e d : Data) → rest ≡ member k e next → filled c e ≡ Some d → then' + member_size c k e ≡ now
    → l ≡ text_filled c k → stands l done ≡ false → pushed ≡ put l d done
    → AreFillingKeys c before now same done rest whole → AreFillingKeys c before then' same pushed next whole
keys_next c before now then' same done pushed rest next whole k l e d at is took key other push h = record {
  room = room_next before now then' (members_size c whole) (members_size c rest) (member_size c k e) (members_size c next)
      h.room (ap (members_size c) at) took;
  filled = by same h.filled;
}
  where
    by : (b : Bool) → MapStands c b done rest whole → MapStands c b pushed next whole
    by true none = none
    by false way =
        ap (λ x. option_and_then (mapped_onto x) (members_filled c next)) push
        ∙ sym (onto_new done l d (members_filled c next) other)
        ∙ (ap (λ x. option_and_then (mapped_onto done) (option_map (member x d) (members_filled c next))) key
        ∙ left_some c done rest next whole k e at way d is)

-- the next key is there already
pub keys_same : (c : Choice) (before now then' : ℕ) (same : Bool) (done rest next whole : Members) (k l : List ℕ)
    (e d : Data) → rest ≡ member k e next → filled c e ≡ Some d → then' + member_size c k e ≡ now
    → l ≡ text_filled c k → stands l done ≡ true
    → AreFillingKeys c before now same done rest whole → AreFillingKeys c before then' true done next whole
keys_same c before now then' same done rest next whole k l e d at is took key there h = record {
  room = room_next before now then' (members_size c whole) (members_size c rest) (member_size c k e) (members_size c next)
      h.room (ap (members_size c) at) took;
  filled = by same h.filled;
}
  where
    by : (b : Bool) → MapStands c b done rest whole → option_and_then map_of (members_filled c whole) ≡ None
    by true none = none
    by false way =
        sym (left_some c done rest next whole k e at way d is)
        ∙ (ap (λ x. option_and_then (mapped_onto done) (option_map (member x d) (members_filled c next))) (sym key)
        ∙ onto_same done l d (members_filled c next) there)

-- a value has two keys that become one
pub keys_inner : (c : Choice) (before now then' : ℕ) (same : Bool) (done rest next whole : Members) (k : List ℕ) (e : Data)
    → rest ≡ member k e next → filled c e ≡ None → then' + member_size c k e ≡ now
    → AreFillingKeys c before now same done rest whole → AreFillingKeys c before then' true done next whole
keys_inner c before now then' same done rest next whole k e at is took h = record {
  room = room_next before now then' (members_size c whole) (members_size c rest) (member_size c k e) (members_size c next)
      h.room (ap (members_size c) at) took;
  filled = by same h.filled;
}
  where
    by : (b : Bool) → MapStands c b done rest whole → option_and_then map_of (members_filled c whole) ≡ None
    by true none = none
    by false way = sym (left_none c done rest next whole k e at way is)

pub keys_large : (c : Choice) (before now : ℕ) (same : Bool) (done rest next whole : Members) (k : List ℕ) (e : Data)
    → rest ≡ member k e next → now < member_size c k e → AreFillingKeys c before now same done rest whole
    → before < members_size c whole
keys_large c before now same done rest next whole k e at more h =
    omega (arith, h.room, ap (members_size c) at, more)

-- the next member, whatever came of it
pub keys_step : (c : Choice) (before now then' : ℕ) (same twice : Bool) (done pushed rest next whole : Members)
    (k : List ℕ) (e : Data) → rest ≡ member k e next
    → IsMemberFilled (Some twice) now then' (member_size c k e) (filled c e) (text_filled c k) same done pushed
    → AreFillingKeys c before now same done rest whole → AreFillingKeys c before then' twice pushed next whole
keys_step c before now then' same twice done pushed rest next whole k e at (took, put_it) h = by (filled c e) refl put_it
  where
    twice_now : twice ≡ true → AreFillingKeys c before then' true done next whole
        → AreFillingKeys c before then' twice pushed next whole
    twice_now is given = record {
      room = given.room;
      filled = subst (λ b. MapStands c b pushed next whole) (sym is) given.filled;
    }

    by : (o : Option Data) → filled c e ≡ o → MatchOption o (twice ≡ true) (λ d. MatchBool (stands (text_filled c k) done)
        (twice ≡ true) ((twice ≡ same) × (pushed ≡ put (text_filled c k) d done)))
        → AreFillingKeys c before then' twice pushed next whole
    by None is twice_is = twice_now twice_is (keys_inner c before now then' same done rest next whole k e at is took h)
    by (Some d) is given = at_key (stands (text_filled c k) done) refl given
      where
        at_key : (b : Bool) → stands (text_filled c k) done ≡ b
            → MatchBool b (twice ≡ true) ((twice ≡ same) × (pushed ≡ put (text_filled c k) d done))
            → AreFillingKeys c before then' twice pushed next whole
        at_key true there twice_is =
            twice_now twice_is
            (keys_same c before now then' same done rest next whole k (text_filled c k) e d at is took refl there h)
        at_key false other (same_is, push) =
            subst (λ b. AreFillingKeys c before then' b pushed next whole) (sym same_is)
            (keys_next c before now then' same done pushed rest next whole k (text_filled c k) e d at is took refl other push h)

-- the whole object
pub keys_all : (c : Choice) (before now : ℕ) (same : Bool) (done rest whole : Members) → rest ≡ no_members → same ≡ false
    → AreFillingKeys c before now same done rest whole
    → (option_map fields (option_and_then map_of (members_filled c whole)) ≡ Some (fields done))
    × (now + members_size c whole ≡ before)
keys_all c before now same done rest whole end is h = (
  ap (option_map fields) (sym (way same is h.filled) ∙ ap (λ x. option_and_then (mapped_onto done) (members_filled c x)) end),
  omega (arith, h.room, ap (members_size c) end),
)
  where
    way : (b : Bool) → b ≡ false → MapStands c b done rest whole
        → option_and_then (mapped_onto done) (members_filled c rest) ≡ option_and_then map_of (members_filled c whole)
    way true e stands = cc
    way false e stands = stands

pub keys_twice : (c : Choice) (before now : ℕ) (same : Bool) (done rest whole : Members) → rest ≡ no_members
    → same ≡ true → AreFillingKeys c before now same done rest whole
    → (option_map fields (option_and_then map_of (members_filled c whole)) ≡ None) × (now + members_size c whole ≡ before)
keys_twice c before now same done rest whole end is h =
    (ap (option_map fields) (none same is h.filled), omega (arith, h.room, ap (members_size c) end))
  where
    none : (b : Bool) → b ≡ true → MapStands c b done rest whole → option_and_then map_of (members_filled c whole) ≡ None
    none true e stands = stands
    none false e stands = cc
