-- Entries and what each is read as, one by one.
use Rattle.std.proofs.Common.{◌≡◌, ◌<◌, ◌+◌, ℕ, List, [], ◌∷◌, ◌++◌, length, get_or, take, sym, ap}
use Rattle.std.proofs.lemmas.List.{take_more}
use Rattle.heat_value.specs.Data.{Data}
use Rattle.heat_value.specs.Meaning.{data_of, members_of}
use Rattle.heat_value.specs.declared.value.Member.{Member}
use Rattle.hot_tree.specs.Readings.{AreEach}

each_push : {T : Type 0} (Is : List ℕ → Data → T → Type 0) (es : List Member) (e : Member) (xs : List T) (x : T)
    → AreEach Is (members_of es) xs → Is e.key (data_of e.value) x
    → AreEach Is (members_of (es ++ e ∷ [])) (xs ++ x ∷ [])
each_push Is [] e [] x are one = (one, tt)
each_push Is [] e (y ∷ xs) x are one = absurd are
each_push Is (f ∷ es) e [] x are one = absurd are
each_push Is (f ∷ es) e (y ∷ xs) x are one = (are.0, each_push Is es e xs x are.1 one)

-- what is read of one entry more
pub each_more : {T : Type 0} (Is : List ℕ → Data → T → Type 0) (es : List Member) (n : ℕ) (e : Member) (xs : List T)
    (x : T) → n < length es → e ≡ get_or es n e → AreEach Is (members_of (take n es)) xs
    → Is e.key (data_of e.value) x → AreEach Is (members_of (take (n + 1) es)) (xs ++ x ∷ [])
each_more Is es n e xs x below at are one =
    let more : take (n + 1) es ≡ take n es ++ e ∷ [] =
    rw (take_more es n e below) (ap (λ (f : Member). take n es ++ f ∷ []) (sym at)) in
    rw more (each_push Is (take n es) e xs x are one)
