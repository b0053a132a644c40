-- How names that are looked up are noted from part to part.
use Rattle.std.proofs.Common.{◌≡◌, ◌∙◌, ◌+◌, ◌<◌, ◌++◌, ℕ, List, [], Bool, true, false, Option, Some, None}
use Rattle.std.proofs.Common.{Result, Ok, Err, refl, sym, ap, subst, drop, length, get_or, append_assoc, if◌then◌else◌, bytes_eq}
use Rattle.std.proofs.lemmas.List.{append-nil}
use Rattle.heat_value.specs.Data.{Data, null, Nodes, node, Members, member}
use Rattle.heat_value.specs.Meaning.{data_of, nodes_of, members_of}
use Rattle.heat_value.specs.declared.path.Step.{Step}
use Rattle.heat_value.specs.declared.path.Step.TheVariants.{Key}
use Rattle.heat_value.specs.declared.value.Value.{Value}
use Rattle.heat_value.specs.declared.value.Member.{Member}
use Rattle.eval_words.specs.Evaluation.{Leveled, value_outcome, outcome_unless}
use Rattle.eval_words.specs.Looks.{Looks, LeveledReading, reads_behind}
use Rattle.eval_words.specs.Outcomes.{Outcome, Gives, Faults, under, seen_from}
use Rattle.eval_words.specs.Reads.{value_reads, members_reads, all_but_reads}
use Rattle.eval_words.specs.Scenes.{SceneData}
use Rattle.eval_words.specs.declared.code.FaultCode.TheVariants.{F07}
use Rattle.eval_words.specs.declared.fault.EvalFault.{EvalFault}
use Rattle.eval_words.specs.declared.fault.EvalFault.TheVariants as fault
use Rattle.hot_eval.specs.Answers.{IsFaultIn, IsOutcome}
use Rattle.hot_eval.specs.Noted.{noted, IsNoted, IsNotedTo}
use Rattle.hot_eval.proofs.Places.{nodes_at, members_at}

-- ---- lists of names

pub noted-none : (o : Option Looks) → noted [] o ≡ o
unfolding noted
noted-none None = refl
noted-none (Some names) = ap Some (append-nil names)

pub noted-behind : (a b : Looks) (o : Option Looks) → noted b (noted a o) ≡ noted (a ++ b) o
unfolding noted
noted-behind a b None = refl
noted-behind a b (Some names) = ap Some (append_assoc names a b)

-- what was noted anew since a list that began with none
pub noted-new : (a : Looks) → noted a (Some []) ≡ Some a
unfolding noted
noted-new a = refl

pub ruleset for_looks = (noted-none)

-- ---- what was noted, said otherwise

pub noted_as : {V : Type 0} (r : Result V EvalFault) (old new : Option Looks) (a b : Looks) → b ≡ a
    → IsNoted r old new a → IsNoted r old new b
noted_as r old new a b same is = subst (IsNoted r old new) (sym same) is

pub noted_to : (e : EvalFault) (old new : Option Looks) (a b : Looks) → b ≡ a → IsNotedTo e old new a → IsNotedTo e old new b
noted_to e old new a b same is = subst (IsNotedTo e old new) (sym same) is

pub none_noted_to : (e : EvalFault) (old new : Option Looks) (a : Looks) → a ≡ [] → new ≡ old → IsNotedTo e old new a
none_noted_to (fault.Wrong c p) old new a none same = same ∙ sym (ap (λ (x : Looks). noted x old) none ∙ noted-none old)
none_noted_to fault.Memory old new a none same = tt

pub noted_behind : {V : Type 0} (r : Result V EvalFault) (old mid new : Option Looks) (a b : Looks) → mid ≡ noted a old
    → IsNoted r mid new b → IsNoted r old new (a ++ b)
noted_behind (Ok v) old mid new a b first is = is ∙ ap (noted b) first ∙ noted-behind a b old
noted_behind (Err (fault.Wrong c p)) old mid new a b first is = is ∙ ap (noted b) first ∙ noted-behind a b old
noted_behind (Err fault.Memory) old mid new a b first is = tt

-- ---- what stands behind

pub behind_gives : {A : Type 0} (o : Outcome A) (next : A → ℕ → Looks) (x : A) (m : ℕ) → o ≡ Gives x m
    → reads_behind o next ≡ next x m
behind_gives o next x m is = ap (λ o. reads_behind o next) is

pub behind-seen : {A : Type 0} (out : List Step → List Step) (o : Outcome A) (next : A → ℕ → Looks)
    → reads_behind (seen_from out o) next ≡ reads_behind o next
behind-seen out (Gives x m) next = refl
behind-seen out (Faults c p) next = refl

pub behind-under : {A : Type 0} (s : Step) (o : Outcome A) (next : A → ℕ → Looks)
    → reads_behind (under s o) next ≡ reads_behind o next
behind-under s (Gives x m) next = refl
behind-under s (Faults c p) next = refl

-- the next part is looked at with what this one gave
pub noted_on : {V A : Type 0} (r : Result V EvalFault) (o : Outcome A) (next : A → ℕ → Looks) (x : A) (m : ℕ)
    (old mid new : Option Looks) (a : Looks) → o ≡ Gives x m → mid ≡ noted a old → IsNoted r mid new (next x m)
    → IsNoted r old new (a ++ reads_behind o next)
noted_on r o next x m old mid new a is first more =
    noted_behind r old mid new a (reads_behind o next) first
    (noted_as r mid new (next x m) (reads_behind o next) (behind_gives o next x m is) more)

-- nothing is looked at behind a fault
pub noted_stop : {A : Type 0} (e : EvalFault) (o : Outcome A) (next : A → ℕ → Looks) (old new : Option Looks) (a : Looks)
    → IsFaultIn e o → IsNotedTo e old new a → IsNotedTo e old new (a ++ reads_behind o next)
noted_stop (fault.Wrong c p) o next old new a is h =
    h ∙ ap (λ (x : Looks). noted x old) (sym (ap (λ o. a ++ reads_behind o next) is ∙ append-nil a))
noted_stop fault.Memory o next old new a is h = tt

-- the same, where the part is seen from one step above
pub under_on : {V A : Type 0} (r : Result V EvalFault) (s : Step) (o : Outcome A) (next : A → ℕ → Looks) (x : A) (m : ℕ)
    (old mid new : Option Looks) (a : Looks) → under s o ≡ Gives x m → mid ≡ noted a old → IsNoted r mid new (next x m)
    → IsNoted r old new (a ++ reads_behind o next)
under_on r s o next x m old mid new a is first more =
    noted_as r old new _ _ (ap (λ (y : Looks). a ++ y) (sym (behind-under s o next)))
    (noted_on r (under s o) next x m old mid new a is first more)

pub under_to : {A : Type 0} (e : EvalFault) (s : Step) (o : Outcome A) (next : A → ℕ → Looks) (x : A) (m : ℕ)
    (old mid new : Option Looks) (a : Looks) → under s o ≡ Gives x m → mid ≡ noted a old → IsNotedTo e mid new (next x m)
    → IsNotedTo e old new (a ++ reads_behind o next)
under_to e s o next x m old mid new a is first more = under_on {V = ℕ} (Err e) s o next x m old mid new a is first more

pub under_stop : {A : Type 0} (e : EvalFault) (s : Step) (o : Outcome A) (next : A → ℕ → Looks) (old new : Option Looks)
    (a : Looks) → IsFaultIn e (under s o) → IsNotedTo e old new a → IsNotedTo e old new (a ++ reads_behind o next)
under_stop e s o next old new a is h =
    noted_to e old new _ _ (ap (λ (y : Looks). a ++ y) (sym (behind-under s o next)))
    (noted_stop e (under s o) next old new a is h)

-- a part seen from what it is in
pub noted_through : (made result : Result Value EvalFault) (out : List Step → List Step) (old new : Option Looks) (a : Looks)
    → ((o : Outcome Data) (sum : ℕ) → IsOutcome data_of made sum o → IsOutcome data_of result sum (seen_from out o))
    → IsNoted made old new a → IsNoted result old new a
noted_through (Ok v) (Ok w) out old new a told is = is
noted_through (Ok v) (Err (fault.Wrong c p)) out old new a told is =
    let other : Gives (data_of v) 0 ≡ Faults c p = told (Gives (data_of v) 0) 0 refl in cc
noted_through (Ok v) (Err fault.Memory) out old new a told is = tt
noted_through (Err (fault.Wrong c p)) (Ok w) out old new a told is =
    let other : Faults c (out p) ≡ Gives (data_of w) 0 = told (Faults c p) 0 refl in cc
noted_through (Err (fault.Wrong c p)) (Err (fault.Wrong d q)) out old new a told is = is
noted_through (Err (fault.Wrong c p)) (Err fault.Memory) out old new a told is = tt
noted_through (Err fault.Memory) (Ok w) out old new a told is =
    let other : Faults F07 (out []) ≡ Gives (data_of w) 0 = told (Faults F07 []) 0 tt in cc
noted_through (Err fault.Memory) (Err (fault.Wrong d q)) out old new a told is =
    let other : Gives null 0 ≡ Faults d q = told (Gives null 0) 0 tt in cc
noted_through (Err fault.Memory) (Err fault.Memory) out old new a told is = tt

-- ---- a list, part by part

-- what was noted so far, and behind it what the parts left look up, is what the whole looks up
abbrev pub IsReadWay : Looks → Looks → Option Looks → Option Looks → Type 0
IsReadWay whole left old now = noted whole old ≡ noted left now

pub way_ends : (whole left : Looks) (old now : Option Looks) → IsReadWay whole left old now → left ≡ []
    → now ≡ noted whole old
way_ends whole left old now way none = sym (way ∙ ap (λ (x : Looks). noted x now) none ∙ noted-none now)

-- one part more
pub way_next : {A : Type 0} (whole left a : Looks) (o : Outcome A) (next : A → ℕ → Looks) (x : A) (m : ℕ)
    (old now then' : Option Looks) → IsReadWay whole left old now → left ≡ a ++ reads_behind o next → o ≡ Gives x m
    → then' ≡ noted a now → IsReadWay whole (next x m) old then'
way_next whole left a o next x m old now then' way at is first =
    way ∙ ap (λ (x : Looks). noted x now) (at ∙ ap (λ (y : Looks). a ++ y) (behind_gives o next x m is))
    ∙ sym (noted-behind a (next x m) now) ∙ ap (noted (next x m)) (sym first)

pub way_stops : {A : Type 0} (e : EvalFault) (whole left a : Looks) (o : Outcome A) (next : A → ℕ → Looks)
    (old now new : Option Looks) → IsReadWay whole left old now → left ≡ a ++ reads_behind o next → IsFaultIn e o
    → IsNotedTo e now new a → IsNotedTo e old new whole
way_stops (fault.Wrong c p) whole left a o next old now new way at is h =
    h ∙ sym (way ∙ ap (λ (x : Looks). noted x now) (at ∙ ap (λ o. a ++ reads_behind o next) is ∙ append-nil a))
way_stops fault.Memory whole left a o next old now new way at is h = tt

-- a list: what each part comes to, what it looks up, and what the parts from one on look up
module _ (part : Data → ℕ → Outcome Data) (reads : Data → ℕ → Looks) (go : Nodes → ℕ → Looks)
    (more : (d : Data) (ns : Nodes) (n : ℕ) → go (node d ns) n ≡ reads d n ++ reads_behind (part d n) (λ v s. go ns s)) where
  part_at : (vs : List Value) (i : ℕ) (v : Value) (out : List Step → List Step) (n : ℕ) → i < length vs → v ≡ get_or vs i v
      → go (nodes_of (drop i vs)) n
      ≡ reads (data_of v) n ++ reads_behind (seen_from out (part (data_of v) n)) (λ w m. go (nodes_of (drop (i + 1) vs)) m)
  part_at vs i v out n below at =
      ap (λ (ns : Nodes). go ns n) (nodes_at vs i v below at) ∙ more (data_of v) (nodes_of (drop (i + 1) vs)) n
      ∙ ap (λ (x : Looks). reads (data_of v) n ++ x)
      (sym (behind-seen out (part (data_of v) n) (λ w m. go (nodes_of (drop (i + 1) vs)) m)))

  pub list_reads_on : (whole : Looks) (vs : List Value) (i : ℕ) (v : Value) (out : List Step → List Step) (w : Data) (n m : ℕ)
      (old now then' : Option Looks) → IsReadWay whole (go (nodes_of (drop i vs)) n) old now → i < length vs
      → v ≡ get_or vs i v → seen_from out (part (data_of v) n) ≡ Gives w m → then' ≡ noted (reads (data_of v) n) now
      → IsReadWay whole (go (nodes_of (drop (i + 1) vs)) m) old then'
  list_reads_on whole vs i v out w n m old now then' way below at is first =
      way_next whole _ (reads (data_of v) n) (seen_from out (part (data_of v) n)) (λ w m. go (nodes_of (drop (i + 1) vs)) m) w m
      old now then' way (part_at vs i v out n below at) is first

  pub list_reads_stop : (e : EvalFault) (whole : Looks) (vs : List Value) (i : ℕ) (v : Value) (out : List Step → List Step) (n : ℕ)
      (old now new : Option Looks) → IsReadWay whole (go (nodes_of (drop i vs)) n) old now → i < length vs
      → v ≡ get_or vs i v → IsFaultIn e (seen_from out (part (data_of v) n)) → IsNotedTo e now new (reads (data_of v) n)
      → IsNotedTo e old new whole
  list_reads_stop e whole vs i v out n old now new way below at is h =
      way_stops e whole _ (reads (data_of v) n) (seen_from out (part (data_of v) n)) (λ w m. go (nodes_of (drop (i + 1) vs)) m)
      old now new way (part_at vs i v out n below at) is h

-- a map: the same, member by member
module _ (part : List ℕ → Data → ℕ → Outcome Data) (reads : List ℕ → Data → ℕ → Looks) (go : Members → ℕ → Looks)
    (more : (k : List ℕ) (d : Data) (ms : Members) (n : ℕ)
    → go (member k d ms) n ≡ reads k d n ++ reads_behind (part k d n) (λ v s. go ms s)) where
  member_at : (es : List Member) (i : ℕ) (e : Member) (n : ℕ) → i < length es → e ≡ get_or es i e
      → go (members_of (drop i es)) n
      ≡ reads e.key (data_of e.value) n
      ++ reads_behind (part e.key (data_of e.value) n) (λ w m. go (members_of (drop (i + 1) es)) m)
  member_at es i e n below at =
      ap (λ (ms : Members). go ms n) (members_at es i e below at)
      ∙ more e.key (data_of e.value) (members_of (drop (i + 1) es)) n

  pub map_reads_on : (whole : Looks) (es : List Member) (i : ℕ) (e : Member) (w : Data) (n m : ℕ)
      (old now then' : Option Looks) → IsReadWay whole (go (members_of (drop i es)) n) old now → i < length es
      → e ≡ get_or es i e → part e.key (data_of e.value) n ≡ Gives w m → then' ≡ noted (reads e.key (data_of e.value) n) now
      → IsReadWay whole (go (members_of (drop (i + 1) es)) m) old then'
  map_reads_on whole es i e w n m old now then' way below at is first =
      way_next whole _ (reads e.key (data_of e.value) n) (part e.key (data_of e.value) n)
      (λ w m. go (members_of (drop (i + 1) es)) m) w m old now then' way (member_at es i e n below at) is first

  pub map_reads_stop : (f : EvalFault) (whole : Looks) (es : List Member) (i : ℕ) (e : Member) (n : ℕ)
      (old now new : Option Looks) → IsReadWay whole (go (members_of (drop i es)) n) old now → i < length es
      → e ≡ get_or es i e → IsFaultIn f (part e.key (data_of e.value) n)
      → IsNotedTo f now new (reads e.key (data_of e.value) n) → IsNotedTo f old new whole
  map_reads_stop f whole es i e n old now new way below at is h =
      way_stops f whole _ (reads e.key (data_of e.value) n) (part e.key (data_of e.value) n)
      (λ w m. go (members_of (drop (i + 1) es)) m) old now new way (member_at es i e n below at) is h

-- ---- the parts of an object but one

pub unless_more : (A : Leveled) (R : LeveledReading) (S : SceneData) (L : ℕ) (but k : List ℕ) (d : Data) (ms : Members) (n : ℕ)
    → all_but_reads A R S L but (member k d ms) n
    ≡ (if bytes_eq k but then [] else value_reads A R S L d n)
    ++ reads_behind (outcome_unless A S L but k d n) (λ v s. all_but_reads A R S L but ms s)
unless_more A R S L but k d ms n = by (bytes_eq k but)
  where
    by : (b : Bool)
        → (if b then all_but_reads A R S L but ms n
        else value_reads A R S L d n
        ++ reads_behind (value_outcome A S L d n) (λ v s. all_but_reads A R S L but ms s))
        ≡ (if b then [] else value_reads A R S L d n)
        ++ reads_behind (if b then Gives d n else under (Key k) (value_outcome A S L d n)) (λ v s. all_but_reads A R S L but ms s)
    by true = refl
    by false =
        ap (λ (x : Looks). value_reads A R S L d n ++ x)
        (sym (behind-under (Key k) (value_outcome A S L d n) (λ v s. all_but_reads A R S L but ms s)))

pub members_more : (A : Leveled) (R : LeveledReading) (S : SceneData) (L : ℕ) (k : List ℕ) (d : Data) (ms : Members) (n : ℕ)
    → members_reads A R S L (member k d ms) n
    ≡ value_reads A R S L d n
    ++ reads_behind (under (Key k) (value_outcome A S L d n)) (λ v s. members_reads A R S L ms s)
members_more A R S L k d ms n =
    ap (λ (x : Looks). value_reads A R S L d n ++ x)
    (sym (behind-under (Key k) (value_outcome A S L d n) (λ v s. members_reads A R S L ms s)))
