-- What the loops over the parts of a value answer.
use Rattle.std.proofs.Common.{◌≡◌, ◌∙◌, ℕ, ◌+◌, ◌<◌, List, [], ◌∷◌, ◌++◌, All, length, map, refl, ap, sym, subst, arith, append_assoc}
use Rattle.std.specs.List.{flat_map}
use Rattle.std.proofs.lemmas.List.{length_push}
use Rattle.std.proofs.lemmas.List.Elements.{All-push, All-nil}
use Rattle.heat_value.specs.Data.{Data, Nodes, no_nodes, Members, Rises, node_last}
use Rattle.heat_value.specs.Meaning.{members_of}
use Rattle.heat_value.specs.declared.value.Member.{Member}
use Rattle.plan_codec.specs.declared.unread.Unread.{Unread}
use Rattle.plan_codec.specs.declared.unread.Unread.TheVariants as unread
use Rattle.plan_codec.specs.Numbers.{spelled_number, spelled_bytes, IsWord, IsText}
use Rattle.plan_codec.specs.Laws.{text_unique}
use Rattle.plan_codec.specs.Parts.{spelled_list, AreAll}
use Rattle.plan_codec.specs.Spellings.{Takes, Lacks, Refuses}
use Rattle.plan_codec.specs.Values.{nodes_count, spelled_nodes, spelled_value, IsWithin, spelled_items, AreItems, spelled_fields, AreFields}
use Rattle.plan_codec.specs.ValueLaws.{listed, listed-node_last, nodes_from-listed, within_unique, items_parts, pair_of, spelled_member, IsMember}
use Rattle.plan_codec.specs.ValueLaws.{AreAnyFields, fields_parts, members_from-pairs, member_unique}
use Rattle.plan_codec.proofs.Readings.{item_refused, items_taken, one_more, taken_as, refused_as}
use Rattle.plan_codec.proofs.ValueReadings.{any_refused, rising_taken, falling_refused}

-- what a loop over values keeps
pub record HasValues (bytes rest : List ℕ) (count i deep : ℕ) (all : Nodes) : Type 0 where
  pub so : bytes ≡ spelled_number count ++ (flat_map spelled_value (listed all) ++ rest)
  pub word : IsWord count
  pub each : All (IsWithin deep) (listed all)
  pub counted : length (listed all) ≡ i

pub values_begin : (bytes rest : List ℕ) (count deep : ℕ) (all : Nodes) → all ≡ no_nodes → Takes spelled_number IsWord bytes count rest → HasValues bytes rest count 0 deep all
values_begin bytes rest count deep all so t = record {
  so = rw so t.parts;
  word = t.fits;
  each = rw so (All-nil (IsWithin deep));
  counted = rw so refl;
}

-- a count that isn't there
pub count_refused : (bytes : List ℕ) (limit : ℕ) (e : Unread) → Refuses spelled_number IsWord bytes e → Refuses spelled_items (AreItems limit) bytes e
count_refused bytes limit unread.Memory h = tt
count_refused bytes limit unread.Unspelled h = record {
  none = λ x q p e. h.none (nodes_count x) (spelled_nodes x ++ q) p.0.0 (e ∙ append_assoc (spelled_number (nodes_count x)) (spelled_nodes x) q);
}

pub members_count_refused : (bytes : List ℕ) (limit : ℕ) (e : Unread) → Refuses spelled_number IsWord bytes e → Refuses (spelled_list spelled_member) (AreAll (IsMember limit)) bytes e
members_count_refused bytes limit unread.Memory h = tt
members_count_refused bytes limit unread.Unspelled h = record {
  none = λ x q p e. h.none (length x) (flat_map spelled_member x ++ q) p.0 (e ∙ append_assoc (spelled_number (length x)) (flat_map spelled_member x) q);
}

pub values_more : (bytes rest behind : List ℕ) (count i deep : ℕ) (all more : Nodes) (d : Data) → HasValues bytes rest count i deep all → Takes spelled_value (IsWithin deep) rest d behind → more ≡ node_last all d → HasValues bytes behind count (i + 1) deep more
values_more bytes rest behind count i deep all more d h t so =
    let last : listed more ≡ listed all ++ d ∷ [] = ap listed so ∙ listed-node_last all d in
    record {
      so = rw last (one_more spelled_value (spelled_number count) bytes rest behind (listed all) d h.so t.parts);
      word = h.word;
      each = rw last (All-push (IsWithin deep) (listed all) d h.each t.fits);
      counted = rw last (length_push (listed all) d ∙ ap (λ n. n + 1) h.counted);
    }

pub values_refused : (bytes rest : List ℕ) (count i deep limit : ℕ) (all : Nodes) (e : Unread) → limit ≡ deep + 1 → HasValues bytes rest count i deep all → i < count → Refuses spelled_value (IsWithin deep) rest e → Refuses spelled_items (AreItems limit) bytes e
values_refused bytes rest count i deep limit all e so h less none =
    refused_as (items_parts limit deep so) bytes e (item_refused (within_unique deep) bytes rest count (listed all) e h.so h.word h.each (omega (arith, less, h.counted)) none)

pub values_taken : (bytes rest : List ℕ) (count i deep limit : ℕ) (all : Nodes) → limit ≡ deep + 1 → HasValues bytes rest count i deep all → i ≡ count → Takes spelled_items (AreItems limit) bytes all rest
unfolding items_parts
values_taken bytes rest count i deep limit all so h end =
    subst (λ (ns : Nodes). Takes spelled_items (AreItems limit) bytes ns rest) (nodes_from-listed all)
    (taken_as (items_parts limit deep so) bytes rest (listed all) (items_taken spelled_value (IsWithin deep) bytes rest count (listed all) h.so h.word h.each (h.counted ∙ end)))

-- members that were read, as a map
pub map_refused : (bytes : List ℕ) (limit : ℕ) (e : Unread) → Refuses (spelled_list spelled_member) (AreAll (IsMember limit)) bytes e → Refuses spelled_fields (AreFields limit) bytes e
map_refused bytes limit e h = any_refused bytes limit e (refused_as (fields_parts limit) bytes e h)

map_any : (bytes rest : List ℕ) (limit : ℕ) (ms : List Member) → Takes (spelled_list spelled_member) (AreAll (IsMember limit)) bytes (map pair_of ms) rest → Takes spelled_fields (AreAnyFields limit) bytes (members_of ms) rest
unfolding fields_parts
map_any bytes rest limit ms t = subst (λ (x : Members). Takes spelled_fields (AreAnyFields limit) bytes x rest) (members_from-pairs ms) (taken_as (fields_parts limit) bytes rest (map pair_of ms) t)

pub map_taken : (bytes rest : List ℕ) (limit : ℕ) (ms : List Member) → Rises (members_of ms) → Takes (spelled_list spelled_member) (AreAll (IsMember limit)) bytes (map pair_of ms) rest → Takes spelled_fields (AreFields limit) bytes (members_of ms) rest
map_taken bytes rest limit ms up t = rising_taken bytes rest limit (members_of ms) up (map_any bytes rest limit ms t)

pub map_falls : (bytes rest : List ℕ) (limit : ℕ) (ms : List Member) → ¬ Rises (members_of ms) → Takes (spelled_list spelled_member) (AreAll (IsMember limit)) bytes (map pair_of ms) rest → Lacks spelled_fields (AreFields limit) bytes
map_falls bytes rest limit ms not t = falling_refused bytes rest limit (members_of ms) not (map_any bytes rest limit ms t)

-- what a loop over members keeps
pub record HasMembers (bytes rest : List ℕ) (count i limit : ℕ) (all : List Member) : Type 0 where
  pub so : bytes ≡ spelled_number count ++ (flat_map spelled_member (map pair_of all) ++ rest)
  pub word : IsWord count
  pub each : All (IsMember limit) (map pair_of all)
  pub counted : length (map pair_of all) ≡ i

pairs_push : (ms : List Member) (m : Member) → map pair_of (ms ++ m ∷ []) ≡ map pair_of ms ++ pair_of m ∷ []
pairs_push [] m = refl
pairs_push (x ∷ ms) m = ap (λ (t : List _). pair_of x ∷ t) (pairs_push ms m)

pub members_begin : (bytes rest : List ℕ) (count limit : ℕ) (all : List Member) → all ≡ [] → Takes spelled_number IsWord bytes count rest → HasMembers bytes rest count 0 limit all
members_begin bytes rest count limit all so t = record {
  so = rw so t.parts;
  word = t.fits;
  each = rw so (All-nil (IsMember limit));
  counted = rw so refl;
}

pub members_more : (bytes rest behind : List ℕ) (count i limit : ℕ) (all more : List Member) (m : Member) → HasMembers bytes rest count i limit all → Takes spelled_member (IsMember limit) rest (pair_of m) behind → more ≡ all ++ m ∷ [] → HasMembers bytes behind count (i + 1) limit more
members_more bytes rest behind count i limit all more m h t so =
    let last : map pair_of more ≡ map pair_of all ++ pair_of m ∷ [] = ap (map pair_of) so ∙ pairs_push all m in
    record {
      so = rw last (one_more spelled_member (spelled_number count) bytes rest behind (map pair_of all) (pair_of m) h.so t.parts);
      word = h.word;
      each = rw last (All-push (IsMember limit) (map pair_of all) (pair_of m) h.each t.fits);
      counted = rw last (length_push (map pair_of all) (pair_of m) ∙ ap (λ n. n + 1) h.counted);
    }

pub members_refused : (bytes rest : List ℕ) (count i limit : ℕ) (all : List Member) (e : Unread) → HasMembers bytes rest count i limit all → i < count → Refuses spelled_member (IsMember limit) rest e → Refuses (spelled_list spelled_member) (AreAll (IsMember limit)) bytes e
members_refused bytes rest count i limit all e h less none =
    item_refused (member_unique limit) bytes rest count (map pair_of all) e h.so h.word h.each (omega (arith, less, h.counted)) none

pub members_taken : (bytes rest : List ℕ) (count i limit : ℕ) (all : List Member) → HasMembers bytes rest count i limit all → i ≡ count → Takes (spelled_list spelled_member) (AreAll (IsMember limit)) bytes (map pair_of all) rest
members_taken bytes rest count i limit all h end = items_taken spelled_member (IsMember limit) bytes rest count (map pair_of all) h.so h.word h.each (h.counted ∙ end)

-- a member: its key, then its value
pub key_refused : (bytes : List ℕ) (limit : ℕ) (e : Unread) → Refuses spelled_bytes IsText bytes e → Refuses spelled_member (IsMember limit) bytes e
key_refused bytes limit unread.Memory h = tt
key_refused bytes limit unread.Unspelled h = record { none = λ x q p e. h.none x.0 (spelled_value x.1 ++ q) p.0 (e ∙ append_assoc (spelled_bytes x.0) (spelled_value x.1) q) }

pub value_refused : (bytes rest : List ℕ) (limit : ℕ) (k : List ℕ) (e : Unread) → Takes spelled_bytes IsText bytes k rest → Refuses spelled_value (IsWithin limit) rest e → Refuses spelled_member (IsMember limit) bytes e
value_refused bytes rest limit k unread.Memory t h = tt
value_refused bytes rest limit k unread.Unspelled t h = record {
  none = λ x q p e.
      let both = text_unique.one k x.0 rest (spelled_value x.1 ++ q) t.fits p.0 (sym t.parts ∙ e ∙ append_assoc (spelled_bytes x.0) (spelled_value x.1) q) in
      h.none x.1 q p.1 both.1;
}

pub member_taken : (bytes rest behind : List ℕ) (limit : ℕ) (k : List ℕ) (d : Data) → Takes spelled_bytes IsText bytes k rest → Takes spelled_value (IsWithin limit) rest d behind → Takes spelled_member (IsMember limit) bytes (k, d) behind
member_taken bytes rest behind limit k d t u = record {
  parts = t.parts ∙ ap (λ (r : List ℕ). spelled_bytes k ++ r) u.parts ∙ sym (append_assoc (spelled_bytes k) (spelled_value d) behind);
  fits = (t.fits, u.fits);
}

-- members whose keys don't rise are no map
pub map_falls_if : (bytes rest : List ℕ) (limit : ℕ) (ms : List Member) (e : Unread) → (e ≡ unread.Unspelled → ¬ Rises (members_of ms)) → Takes (spelled_list spelled_member) (AreAll (IsMember limit)) bytes (map pair_of ms) rest → Refuses spelled_fields (AreFields limit) bytes e
map_falls_if bytes rest limit ms unread.Memory not t = tt
map_falls_if bytes rest limit ms unread.Unspelled not t = map_falls bytes rest limit ms (not refl) t
