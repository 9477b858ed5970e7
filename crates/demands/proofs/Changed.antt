-- Request 2, of two good sheets: their list of differences, what it comes to, and what is about one record.
use mathlib.Core.Bool.{Bool, true, false, not}
use mathlib.Core.List.{List, []}
use mathlib.Core.Logic.{◌↔◌, ⊎_elim}
use mathlib.Core.Path.{◌≡◌, sym, ap, ap₂, ◌∙◌}
use Prim.Native.Nat.{ℕ}
use native.Mathlib.Omega.{arith}
use lib.ListN.{get_or}
use Rattle.octets.proofs.Cases.{decided}
use Rattle.law.specs.Words.{Every, bit}
use Rattle.law.specs.Difference.{Entry, Change, gone, new, changed, entries_of, rank, rank_of, same, In, Differs, turn_of, Lists, applied, written_of}
use Rattle.law.proofs.Applied.{applied_merge}
use Rattle.law.proofs.Bits.{bits_of_records}
use Rattle.law.proofs.Empties.{empty_merge}
use Rattle.law.proofs.GoodEntries.{GoodEntry, entries_good}
use Rattle.law.proofs.Merge.{Rising, Shaped, merge}
use Rattle.law.proofs.OneList.{every_in, one_at, one_list as lists_once}
use Rattle.law.proofs.OneSheet.{one_sheet}
use Rattle.law.proofs.Ranks.{has_in, same_yes, same_self, same_entry}
use Rattle.law.proofs.ReadBack.{read_one_way as read_once}
use Rattle.law.proofs.Records.{written_entries}
use Rattle.law.proofs.Rises.{entries_rise, entries_shaped}
use Rattle.law.proofs.Told.{the_list, is_merge}
use Rattle.demands.specs.Changed.{OneList, EmptyExactlyIfEqual, AppliedGivesSecond, ReadOneWay}
use Rattle.demands.specs.Changed.{kind_of, key_of, OneForARecord, UnchangedIsNotListed, BitsAreFields}

pub one_list : OneList
one_list = record {
  there_is_one = λ a b v w. (merge (entries_of a) (entries_of b), the_list a b v w);
  and_no_other = λ a b. lists_once (entries_of a) (entries_of b);
}

pub empty_exactly_if_equal : EmptyExactlyIfEqual
empty_exactly_if_equal a b v w list l =
    let m = is_merge a b v w list l in
    let none = empty_merge (entries_of a) (entries_of b) (entries_shaped a) (entries_shaped b) in (
      λ e. written_entries a ∙ ap written_of (none.0 (sym m ∙ e)) ∙ sym (written_entries b),
      λ e. m ∙ none.1 (ap entries_of (one_sheet a b v w e)),
    )

pub applied_gives_second : AppliedGivesSecond
applied_gives_second a b v w list l =
    let e = ap (λ (m : List Change). applied m (entries_of a)) (is_merge a b v w list l)
    ∙ applied_merge (entries_of a) (entries_of b) (entries_rise a v) (entries_rise b w) (entries_shaped a) (entries_shaped b) in
    (e, ap written_of e ∙ sym (written_entries b))

pub read_one_way : ReadOneWay
read_one_way = read_once

-- two differences about one record: of each sheet there is one such record, and it is there or not
module _ (a b : List Entry) (list : List Change) (l : Lists a b list) where
  one_change : (c d : Change) → In c list → In d list → Differs a b c → Differs a b d → kind_of c ≡ kind_of d → key_of c ≡ key_of d → c ≡ d
  unfolding Differs turn_of
  one_change (gone k n) (gone m o) i j p q kind key = ap₂ gone kind key
  one_change (gone k n) (new y) i j p q kind key = absurd (p.1 (has_in k n y b kind key q.0))
  one_change (gone k n) (changed m y) i j p q kind key = absurd (p.1 (has_in k n y b kind key q.0))
  one_change (new x) (gone m o) i j p q kind key = absurd (q.1 (has_in m o x b (sym kind) (sym key) p.0))
  one_change (new x) (new y) i j p q kind key =
      let r = ap₂ rank kind key in one_at turn_of (new x) (new y) list l.in_order i j (omega arith)
  one_change (new x) (changed m y) i j (g, h) (s, (z, t, k, n, u, e)) kind key = absurd (h (has_in x.kind x.key z a (kind ∙ sym k) (key ∙ sym n) t))
  one_change (changed n x) (gone m o) i j p q kind key = absurd (q.1 (has_in m o x b (sym kind) (sym key) p.0))
  one_change (changed n x) (new y) i j (s, (z, t, k, o, u, e)) (g, h) kind key =
      absurd (h (has_in y.kind y.key z a (sym kind ∙ sym k) (sym key ∙ sym o) t))
  one_change (changed n x) (changed m y) i j p q kind key =
      let r = ap₂ rank kind key in one_at turn_of (changed n x) (changed m y) list l.in_order i j (omega arith)

pub one_for_a_record : OneForARecord
one_for_a_record a b v w list l c d i j kind key = one_change (entries_of a) (entries_of b) list l c d i j (l.only c i) (l.only d j) kind key

-- in a rising list there is one record of a kind and a key
one_entry : (x e : Entry) (es : List Entry) → Rising es → In x es → In e es → x.kind ≡ e.kind → x.key ≡ e.key → x ≡ e
one_entry x e es r i j kind key = one_at rank_of x e es r i j (ap₂ rank kind key)

-- a record of both sheets is the one that a difference of its kind and key would be about
not_both : (a b : List Entry) → Rising a → Rising b → (e : Entry) → In e a → In e b → (c : Change) → Differs a b c → kind_of c ≡ e.kind
    → key_of c ≡ e.key → ⊥
unfolding Differs
not_both a b r s e i j (gone k n) d kind key = d.1 (has_in k n e b kind key j)
not_both a b r s e i j (new y) d kind key = d.1 (has_in y.kind y.key e a kind key i)
not_both a b r s e i j (changed n y) (t, (x, u, k, o, other, bits)) kind key =
    other (one_entry x e a r u i (k ∙ kind) (o ∙ key) ∙ sym (one_entry y e b s t j kind key))

pub unchanged_is_not_listed : UnchangedIsNotListed
unchanged_is_not_listed a b v w list l e i j c m kind key =
    not_both (entries_of a) (entries_of b) (entries_rise a v) (entries_rise b w) e i j c (l.only c m) kind key

-- a test that holds exactly where two fields differ
other_exactly : (t : Bool) (xs ys : List ℕ) → t ≡ not (same xs ys) → (t ≡ true) ↔ (xs ≡ ys → ⊥)
other_exactly t xs ys e = (
  λ h q. let f : t ≡ false = e ∙ ap not (ap (same xs) (sym q) ∙ same_self xs) in cc,
  λ n. ⊎_elim (λ h. absurd (n (same_yes xs ys h))) (λ h. e ∙ ap not h) (decided (same xs ys)),
)

-- a changed record, beside the one that it was
module _ (a b : List Entry) (s : Every Shaped a) (t : Every Shaped b) (g : Every GoodEntry a) (h : Every GoodEntry b) where
  fields_of : (bits : ℕ) (y : Entry) → Differs a b (changed bits y)
      → (x : Entry) × In x a × (x.kind ≡ y.kind) × (x.key ≡ y.key) × (bits ≡ 0 → ⊥)
      × ((k : ℕ) → (bit bits k ≡ true) ↔ (get_or x.fields k [] ≡ get_or y.fields k [] → ⊥))
  unfolding Differs
  fields_of bits y (j, (x, i, kind, key, other, e)) = (
    x,
    i,
    kind,
    key,
    λ z. other (same_entry x y (every_in Shaped x a s i) (every_in Shaped y b t j) kind key (sym e ∙ z)),
    λ k. other_exactly (bit bits k) _ _
        (ap (λ (n : ℕ). bit n k) e ∙ bits_of_records x y (every_in GoodEntry x a g i) (every_in GoodEntry y b h j) kind k),
  )

pub bits_are_fields : BitsAreFields
bits_are_fields a b v w list l bits y i =
    fields_of (entries_of a) (entries_of b) (entries_shaped a) (entries_shaped b) (entries_good a v) (entries_good b w) bits y (l.only (changed bits y) i)
