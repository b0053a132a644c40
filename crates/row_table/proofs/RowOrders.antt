-- How an index of groups and numbers follows the rows.
use Rattle.std.proofs.Common.{◌≡◌, ◌≢◌, ◌<◌, ◌∙◌, ℕ, List, [], ◌∷◌, ◌++◌, length, map, get_or, set, insert, remove, refl, sym, ap, subst, arith}
use Rattle.std.specs.Ordering.{nat_cmp}
use Rattle.std.specs.Cmp.{IsTotalOrder, nat_cmp_total}
use Rattle.std.specs.declared.cmp.Ordering.{Ordering}
use Rattle.std.proofs.lemmas.List.{length-map, get_or-map, map-set}
use Rattle.std.specs.Cmp.Lexicographic.{nat_list_cmp_total}
use Rattle.std.proofs.lemmas.Map.Lookups.{CmpEqualImpliesEq, exact_unsigned, exact_bytes, exact_pairs}
use Rattle.keyed_table.specs.Orders.{AreApart, IsSorting, IsOrder, IsOrderBut, IsStart, closed}
use Rattle.keyed_table.specs.Sortings.{text_cmp, pair_same, pair_below}
use Rattle.keyed_table.proofs.Orders.{left_out, written, pushed, dropped, entered}
use Rattle.keyed_table.proofs.Sortings.{pair_sorting, pair_total}
use Rattle.keyed_table.proofs.Tables.{map-push, map-remove, entry_there}
use Rattle.row_table.specs.declared.row.Row.{Row}
use Rattle.row_table.specs.Rows.{row_key}
use Rattle.row_table.specs.Keys.{name_cmp}

-- stacks and names that tie are one
pub name_total : IsTotalOrder name_cmp
name_total = pair_total text_cmp text_cmp nat_list_cmp_total nat_list_cmp_total

pub name_exact : CmpEqualImpliesEq name_cmp
name_exact = exact_pairs text_cmp text_cmp exact_bytes exact_bytes

-- a row's group and number
abbrev pub key_in : {G : Type 0} → (Row → G) → Row → G × ℕ
key_in group r = (group r, r.no)

module _ {G : Type 0} (cmp : G → G → Ordering) (total : IsTotalOrder cmp) (exact : CmpEqualImpliesEq cmp) (group : Row → G) where
  pub sorting : IsSorting (pair_same cmp nat_cmp) (pair_below cmp nat_cmp)
  sorting = pair_sorting cmp nat_cmp total exact nat_cmp_total exact_unsigned

  as_keys : (out : ℕ) (keys keys' : List (G × ℕ)) (places : List ℕ) → keys ≡ keys' → IsOrderBut (pair_below cmp nat_cmp) out keys places
      → IsOrderBut (pair_below cmp nat_cmp) out keys' places
  as_keys out keys keys' places e o = subst (λ ks. IsOrderBut (pair_below cmp nat_cmp) out ks places) e o

  -- a row more has no entry yet
  pub row_pushed : (rows rows' : List Row) (places : List ℕ) (r : Row) (place : ℕ) → rows' ≡ rows ++ r ∷ [] → place ≡ length rows
      → IsOrder (pair_below cmp nat_cmp) (map (key_in group) rows) places → IsOrderBut (pair_below cmp nat_cmp) place (map (key_in group) rows') places
  row_pushed rows rows' places r place e at o =
      as_keys place _ _ places (sym (ap (map (key_in group)) e ∙ map-push (key_in group) rows r))
      (subst (λ n. IsOrderBut (pair_below cmp nat_cmp) n (map (key_in group) rows ++ key_in group r ∷ []) places) (length-map rows (key_in group) ∙ sym at)
      (pushed (pair_same cmp nat_cmp) (pair_below cmp nat_cmp) sorting (map (key_in group) rows) places (key_in group r) o))

  -- a row that has no entry may be any
  pub row_written : (rows rows' : List Row) (places : List ℕ) (r : Row) (place : ℕ) → rows' ≡ set rows place r
      → IsOrderBut (pair_below cmp nat_cmp) place (map (key_in group) rows) places → IsOrderBut (pair_below cmp nat_cmp) place (map (key_in group) rows') places
  row_written rows rows' places r place e o =
      as_keys place _ _ places (sym (ap (map (key_in group)) e ∙ map-set (key_in group) rows place r))
      (written (pair_same cmp nat_cmp) (pair_below cmp nat_cmp) sorting place (map (key_in group) rows) places (key_in group r) o)

  -- a row that has no entry goes
  pub row_dropped : (rows rows' : List Row) (places places' : List ℕ) (place : ℕ) → rows' ≡ remove rows place → places' ≡ map (closed place) places → place < length rows
      → IsOrderBut (pair_below cmp nat_cmp) place (map (key_in group) rows) places → IsOrder (pair_below cmp nat_cmp) (map (key_in group) rows') places'
  row_dropped rows rows' places places' place e f l o =
      subst (IsOrder (pair_below cmp nat_cmp) (map (key_in group) rows')) (sym f)
      (subst (λ ks. IsOrder (pair_below cmp nat_cmp) ks (map (closed place) places)) (sym (ap (map (key_in group)) e ∙ map-remove (key_in group) rows place))
      (dropped (pair_same cmp nat_cmp) (pair_below cmp nat_cmp) sorting place (map (key_in group) rows) places (omega (arith, l, length-map rows (key_in group))) o))

  -- a row gets its entry
  pub row_entered : (rows : List Row) (places places' : List ℕ) (place at : ℕ) (r : Row) → places' ≡ insert places at place → place < length rows → r ≡ get_or rows place r
      → AreApart (map row_key rows) → IsStart (λ k. pair_below cmp nat_cmp k (key_in group r)) (map (key_in group) rows) places at
      → IsOrderBut (pair_below cmp nat_cmp) place (map (key_in group) rows) places → IsOrder (pair_below cmp nat_cmp) (map (key_in group) rows) places'
  row_entered rows places places' place at r f l read apart b o =
      subst (IsOrder (pair_below cmp nat_cmp) (map (key_in group) rows)) (sym f)
      (entered (pair_same cmp nat_cmp) (pair_below cmp nat_cmp) sorting place (map (key_in group) rows) places (key_in group r) at (omega (arith, l, n))
      (λ d. get_or-map (key_in group) rows place r d l ∙ ap (key_in group) (sym read)) other b o)
    where
      n : length (map (key_in group) rows) ≡ length rows
      n = length-map rows (key_in group)

      m : length (map row_key rows) ≡ length rows
      m = length-map rows row_key

      other : (p : ℕ) (d : G × ℕ) → p < length (map (key_in group) rows) → p ≢ place → get_or (map (key_in group) rows) p d ≢ key_in group r
      other p d lp ne e = ne (apart p place 0 (omega (arith, lp, n, m)) (omega (arith, l, m))
          (get_or-map row_key rows p r 0 (omega (arith, lp, n)) ∙ ap (λ (k : G × ℕ). k.1) (sym (get_or-map (key_in group) rows p r d (omega (arith, lp, n))) ∙ e)
          ∙ ap row_key read ∙ sym (get_or-map row_key rows place r 0 l)))

  -- where a row's entry is
  pub row_entry : (rows : List Row) (places : List ℕ) (place at : ℕ) (r : Row) → place < length rows → r ≡ get_or rows place r
      → IsOrder (pair_below cmp nat_cmp) (map (key_in group) rows) places → IsStart (λ k. pair_below cmp nat_cmp k (key_in group r)) (map (key_in group) rows) places at
      → (at < length places) × (get_or places at 0 ≡ place)
  row_entry rows places place at r l read o b =
      entry_there (key_in group) (pair_same cmp nat_cmp) (pair_below cmp nat_cmp) sorting rows places o place at (key_in group r) rows r refl l read refl b

  -- and without it
  pub row_left : (rows : List Row) (places places' : List ℕ) (place at : ℕ) (r : Row) → places' ≡ remove places at → place < length rows → r ≡ get_or rows place r
      → IsOrder (pair_below cmp nat_cmp) (map (key_in group) rows) places → IsStart (λ k. pair_below cmp nat_cmp k (key_in group r)) (map (key_in group) rows) places at
      → IsOrderBut (pair_below cmp nat_cmp) place (map (key_in group) rows) places'
  row_left rows places places' place at r f l read o b =
      let (lt, is) = row_entry rows places place at r l read o b in
      subst (λ n. IsOrderBut (pair_below cmp nat_cmp) n (map (key_in group) rows) places') is
      (subst (IsOrderBut (pair_below cmp nat_cmp) (get_or places at 0) (map (key_in group) rows)) (sym f)
      (left_out (pair_same cmp nat_cmp) (pair_below cmp nat_cmp) sorting (map (key_in group) rows) places o at lt))
