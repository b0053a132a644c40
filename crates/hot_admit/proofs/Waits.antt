-- All that are due are placed, whichever are put in or taken out.
use Rattle.std.proofs.Common.{◌≡◌, ◌∙◌, ◌<◌, ℕ, List, ◌∷◌, Option, Some, None, All, IfSome, IfNone, Vec, Global}
use Rattle.std.proofs.Common.{length, get_or, subst, sym, ap}
use Rattle.std.specs.BTreeSet.{insert_key}
use Rattle.std.specs.declared.cmp.Ordering.{Ordering}
use Rattle.std.proofs.lemmas.List.Elements.{All-head, All-tail}
use Rattle.std.proofs.lemmas.Map.Views.{All-insert_key}
use Rattle.hot_admit.specs.declared.waiting.Due.{Due}

-- each stands at one of so many places
abbrev pub ArePlaced : ℕ → List Due → Type 0
ArePlaced count ds = All (λ d. d.place < count) ds

-- what waits in one of the lists is placed
pub listed_placed : (count : ℕ) (lists : List (Vec Due Global)) (place i : ℕ) (list : Vec Due Global) (ds : List Due)
    (d : Due) → All (λ l. ArePlaced count l.items) lists → place < length lists → list ≡ get_or lists place list
    → ds ≡ list.items → i < length ds → (get_or ds i d).place < count
listed_placed count lists place i list ds d all inside is same below =
    subst (ArePlaced count) (sym (same ∙ ap (λ (l : Vec Due Global). l.items) is)) (all place list inside) i d below

pub placed_with : (count : ℕ) (cmp : Due → Due → Ordering) (old new : List Due) (d : Due) → ArePlaced count old
    → new ≡ insert_key cmp old d → d.place < count → ArePlaced count new
placed_with count cmp old new d all is below =
    subst (ArePlaced count) (sym is) (All-insert_key cmp d (λ d. d.place < count) old all below)

pub taken_placed : (count : ℕ) (o : Option Due) (old new : List Due) → ArePlaced count old
    → IfSome o (λ d. old ≡ d ∷ new) → IfSome o (λ d. d.place < count)
taken_placed count None old new all is = tt
taken_placed count (Some d) old new all is = All-head (λ d. d.place < count) d new (subst (ArePlaced count) is all)

pub rest_placed : (count : ℕ) (o : Option Due) (old new : List Due) → ArePlaced count old
    → IfSome o (λ d. old ≡ d ∷ new) → IfNone o (new ≡ old) → ArePlaced count new
rest_placed count None old new all is same = subst (ArePlaced count) (sym same) all
rest_placed count (Some d) old new all is same =
    All-tail (λ d. d.place < count) d new (subst (ArePlaced count) is all)
