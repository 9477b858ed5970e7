-- What the call for two sheets leaves is what the law tells of them, and the law tells nothing else.
use Prim.Native.Nat.{ℕ, ◌+◌}
use mathlib.Core.Bool.{Bool, true, false}
use mathlib.Core.List.{List}
use mathlib.Core.Logic.{inl, inr, ◌↔◌}
use mathlib.Core.Path.{◌≡◌, refl, sym, ap, ap₂, subst, ◌∙◌}
use lib.Dec.{ltb}
use lib.ListN.{length}
use Rattle.std.specs.Prelude.{Ok, Err}
use Rattle.octets.specs.Pick.{pick}
use Rattle.difference.specs.Difference.{Listed, entered_of, difference_of}
use Rattle.difference.specs.Merge.{merge_of}
use Rattle.sheet.specs.Faults.{number_of}
use Rattle.sheet.specs.Told.{Verdict, faulty}
use Rattle.sheet.specs.Walk.{verdict_of}
use Rattle.sheet.specs.declared.records.Fault.{Fault}
use Rattle.sheet.specs.declared.walk.Layout.{Layout}
use Rattle.slave.specs.Answers.{sheet_answer}
use Rattle.slave.proofs.Order.{on_faulty, on_valid}
use Rattle.type24.specs.Packed.{PackedList, packed_list}
use Rattle.law.specs.Words.{when, Every}
use Rattle.law.specs.Sheet.{Sheet, WellFormed, IsOctet, sheet_octets}
use Rattle.law.specs.Difference.{Change, Told, Lists, entries_of, list_octets, told_of, list_told}
use Rattle.law.specs.Promises.{DifferencePromise}
use Rattle.law.specs.ByTables.{host_has_list, TellsList}
use Rattle.law.proofs.Complete.{complete}
use Rattle.law.proofs.Merge.{merge}
use Rattle.law.proofs.Merges.{merges}
use Rattle.law.proofs.Numbered.{fault_is}
use Rattle.law.proofs.OneList.{one_list}
use Rattle.law.proofs.Passes.{merge_listed}
use Rattle.law.proofs.Place.{fault_told}
use Rattle.law.proofs.Rises.{entries_rise, entries_shaped}
use Rattle.law.proofs.Sound.{sound}

unfoldable pub leaves_list : Listed → Told
leaves_list l = told_of l.answer.number l.answer.place l.list

-- the list that there is, and it is the pass over both
pub the_list : (a b : Sheet) → WellFormed a → WellFormed b → Lists (entries_of a) (entries_of b) (merge (entries_of a) (entries_of b))
the_list a b v w = merges (entries_of a) (entries_of b) (entries_rise a v) (entries_rise b w) (entries_shaped a) (entries_shaped b)

pub is_merge : (a b : Sheet) → WellFormed a → WellFormed b → (list : List Change) → Lists (entries_of a) (entries_of b) list
    → list ≡ merge (entries_of a) (entries_of b)
is_merge a b v w list l = one_list (entries_of a) (entries_of b) list (merge (entries_of a) (entries_of b)) l (the_list a b v w)

picked : (c : Bool) (x y : Listed) → leaves_list (pick c x y) ≡ when c (leaves_list x) (leaves_list y)
unfolding pick when
picked true x y = refl
picked false x y = refl

entered_told : (os lent : List ℕ) → leaves_list (entered_of os lent) ≡ list_told os lent
unfolding entered_of list_told leaves_list
entered_told os lent = picked (ltb (length lent) (length os)) _ _

module _ (first second lent : List ℕ) where
  both_valid : (u v : Layout) → verdict_of first ≡ Ok u → verdict_of second ≡ Ok v
      → difference_of first second lent ≡ entered_of (merge_of first second) lent
  unfolding difference_of
  both_valid u v p q = on_valid _ u _ _ p ∙ on_valid _ v _ _ q

  first_faulty : (f : Fault) (place : ℕ) → verdict_of first ≡ faulty f place → leaves_list (difference_of first second lent) ≡ told_of (number_of f) place lent
  unfolding difference_of sheet_answer leaves_list
  first_faulty f place e =
      ap leaves_list (on_faulty _ f place _ _ e) ∙ ap (λ (v : Verdict). told_of (sheet_answer v).number (sheet_answer v).place lent) e

  second_faulty : (u : Layout) (f : Fault) (place : ℕ) → verdict_of first ≡ Ok u → verdict_of second ≡ faulty f place
      → leaves_list (difference_of first second lent) ≡ told_of (number_of f + 10) place lent
  unfolding difference_of sheet_answer leaves_list
  second_faulty u f place p e =
      ap leaves_list (on_valid _ u _ _ p ∙ on_faulty _ f place _ _ e)
      ∙ ap (λ (v : Verdict). told_of ((sheet_answer v).number + 10) (sheet_answer v).place lent) e

  -- two good sheets: their list is entered
  pub both_entered : (a b : Sheet) → WellFormed a → WellFormed b → first ≡ sheet_octets a → second ≡ sheet_octets b
      → difference_of first second lent ≡ entered_of (list_octets (merge (entries_of a) (entries_of b))) lent
  both_entered a b v w p q =
      both_valid _ _ (ap verdict_of p ∙ complete a v) (ap verdict_of q ∙ complete b w)
      ∙ ap (λ (os : List ℕ). entered_of os lent) (ap₂ merge_of p q ∙ merge_listed a b v w)

  both_good : (a b : Sheet) → WellFormed a → WellFormed b → first ≡ sheet_octets a → second ≡ sheet_octets b
      → leaves_list (difference_of first second lent) ≡ list_told (list_octets (merge (entries_of a) (entries_of b))) lent
  both_good a b v w p q = ap leaves_list (both_entered a b v w p q) ∙ entered_told (list_octets (merge (entries_of a) (entries_of b))) lent

  -- of octets
  module _ (o : Every IsOctet first) (n : Every IsOctet second) where
    pub tells : TellsList first second lent (leaves_list (difference_of first second lent))
    tells = go (verdict_of first) (verdict_of second) refl refl
      where
        go : (u v : Verdict) → verdict_of first ≡ u → verdict_of second ≡ v → TellsList first second lent (leaves_list (difference_of first second lent))
        go (Err e) v p q = inr (inl (number_of e.fault, e.place, fault_told first e.fault e.place o p, first_faulty e.fault e.place p))
        go (Ok u) (Err e) p q =
            let a = sound first u o p in
            inr (inr (a.0, number_of e.fault, e.place, a.1, a.2, fault_told second e.fault e.place n q, second_faulty u e.fault e.place p q))
        go (Ok u) (Ok v) p q =
            let a = sound first u o p in
            let b = sound second v n q in
            inl (
              a.0,
              b.0,
              a.1,
              b.1,
              a.2,
              b.2,
              merge (entries_of a.0) (entries_of b.0),
              the_list a.0 b.0 a.1 b.1,
              both_good a.0 b.0 a.1 b.1 a.2 b.2,
            )

    pub alone : (x : Told) → TellsList first second lent x → x ≡ leaves_list (difference_of first second lent)
    alone x (inl (a, b, v, w, p, q, list, l, e)) =
        e ∙ ap (λ (m : List Change). list_told (list_octets m) lent) (is_merge a b v w list l) ∙ sym (both_good a b v w p q)
    alone x (inr (inl (f, place, y, e))) =
        let k = fault_is first f place o y in
        e ∙ ap (λ (m : ℕ). told_of m place lent) (sym k.1) ∙ sym (first_faulty k.0 place k.2)
    alone x (inr (inr (a, f, place, v, p, y, e))) =
        let k = fault_is second f place n y in
        e
        ∙ ap (λ (m : ℕ). told_of (m + 10) place lent) (sym k.1)
        ∙ sym (second_faulty _ k.0 place (ap verdict_of p ∙ complete a v) k.2)

    pub differences_told : (a : ℕ) (list : List ℕ) → DifferencePromise first second lent a list ↔ TellsList first second lent (host_has_list a list)
    unfolding leaves_list
    differences_told a list = (
      λ p. subst (TellsList first second lent) (sym (ap (λ (x : PackedList). host_has_list x.answer x.list) p)) tells,
      λ t. ap (λ (x : Told). packed_list x.answer x.list) (alone (host_has_list a list) t),
    )
