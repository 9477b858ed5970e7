-- The fault that the walk tells is the first by the paper's order, at the first record that has one.
use mathlib.Core.Bool.{true, false, true≢false}
use mathlib.Core.Logic.{⊎_elim, ◌↔◌}
use mathlib.Core.Path.{◌≡◌, refl, sym, ap, subst, ◌∙◌}
use mathlib.Core.List.{List, [], ◌∷◌, ◌++◌}
use Prim.Native.Nat.{ℕ, zero, suc, ◌+◌, ◌-◌, ◌*◌, ◌≤◌, ◌<◌}
use native.Mathlib.Omega.{arith}
use borrow.Author.Tests.{eqb-true, eqb-false, ltb-true, ltb-false, leb-true, leb-false, eq-eqb, not-false, not-true}
use lib.Dec.{eqb}
use lib.ListN.{length, get_or, take, drop, length-append, length-drop}
use lib.Seq.{drop-drop, length-take-le}
use Rattle.std.specs.Prelude.{Err}
use Rattle.octets.specs.Parts.{all_zero}
use Rattle.octets.specs.Pick.{pick}
use Rattle.octets.proofs.Cases.{decided, eq_or_ne}
use Rattle.octets.proofs.Pick.{pick_yes, pick_no, pick_eq, pick_ne}
use Rattle.regions.specs.Region.{region_at, regions_of, listed, holds_of, gives_of}
use Rattle.regions.specs.Search.{grants_of, span_has}
use Rattle.regions.specs.declared.Right.TheVariants.{Mapped}
use Rattle.regions.proofs.Bounds.{bounds_hold}
use Rattle.regions.proofs.Spans.{before_all, all_before}
use Rattle.regions.specs.declared.Region.{Region}
use Rattle.sheet.specs.Entries.{parameter_at, item_from}
use Rattle.sheet.specs.Faults.{number_of}
use Rattle.sheet.specs.Judging.{judged_region, judged_parameter, judged_item, judged_tolerance, judged_release}
use Rattle.sheet.specs.Kinds.{end_before, least_number, least_code}
use Rattle.sheet.specs.Reading.{tail_of}
use Rattle.sheet.specs.declared.entries.Parameter.{Parameter}
use Rattle.sheet.specs.declared.records.Counts.{Counts}
use Rattle.sheet.specs.declared.records.Fault.{Fault}
use Rattle.sheet.specs.declared.records.Fault.TheVariants.{Range, Disorder, Excess, Unmapped}
use Rattle.law.specs.Words.{Every, InARow, Some}
use Rattle.law.specs.Sheet.{Region as Area, Parameter as Param, Item as Ident, GoodRegion, GoodItem, GoodRelease, IsOctet, InRegion, room}
use Rattle.law.specs.Faults.{RegionFault, ParameterFault, ItemFault, ToleranceFault, ReleaseFault}
use Rattle.law.proofs.Checks.{decides, passes, no_more, row_more, row_last, sum_more}
use Rattle.law.proofs.Front.{read_sheet}
use Rattle.law.proofs.Cuts.{grants_has, zeros_back, octet_at, octets_drop, octets_take, drop_take}
use Rattle.law.proofs.Readings.{zeros_zero}
use Rattle.law.proofs.Layouts.{as_area, as_param, ident_from}
use Rattle.law.proofs.Listed.{length_listed}

has_listed : (f : ℕ → Region) (k m a : ℕ) → Some (InRegion a) (listed (λ (i : ℕ). as_area (f i)) k m) → grants_of (listed f k m) Mapped a ≡ true
unfolding grants_of gives_of listed
has_listed f k zero a e = absurd e
has_listed f k (suc m) a e =
    ⊎_elim
    (λ (h : holds_of (f k) a ≡ true). pick_yes _ _ h)
    (λ (h : holds_of (f k) a ≡ false).
    ⊎_elim
    (λ (j : InRegion a (as_area (f k))). pick_yes _ _ (bounds_hold (f k) a j.0 j.1))
    (λ (j : Some (InRegion a) (listed (λ (i : ℕ). as_area (f i)) (suc k) m)). pick_no _ _ h ∙ has_listed f (suc k) m a j)
    e)
    (decided (holds_of (f k) a))

-- a number compared with one more than the last before it, or with 0
lower_least : (n last x : ℕ) → ((n ≡ 0 → ⊥) → last < x) → pick (eqb n 0) 0 (last + 1) ≤ x
lower_least n last x l =
    ⊎_elim
    (λ (z : n ≡ 0). subst (λ (k : ℕ). k ≤ x) (sym (pick_eq _ _ z)) (omega arith))
    (λ (z : n ≡ 0 → ⊥). subst (λ (k : ℕ). k ≤ x) (sym (pick_ne _ _ z)) (let q = l z in omega arith))
    (eq_or_ne n 0)

least_lower : (n last x : ℕ) → pick (eqb n 0) 0 (last + 1) ≤ x → (n ≡ 0 → ⊥) → last < x
least_lower n last x l z = let q : last + 1 ≤ x = subst (λ (k : ℕ). k ≤ x) (pick_ne _ _ z) l in omega arith

-- request 9's record has one check
pub tolerance_fault : (so : Counts) (fault : Fault) (x : ℕ) → (judged_tolerance x so ≡ Err fault) ↔ ToleranceFault x (number_of fault)
unfolding judged_tolerance number_of
tolerance_fault so fault x = decides _ Range _ refl (λ t q. let e = ltb-true 3 x t in omega (arith, q, e)) (λ t. passes (ltb-false 3 x t) no_more)

-- request 13's has two
pub release_fault : (so : Counts) (fault : Fault) (x : ℕ) → (judged_release x so ≡ Err fault) ↔ ReleaseFault x (number_of fault)
unfolding judged_release number_of
release_fault so fault x =
    decides _ Range _ refl (λ t (q : GoodRelease x). let e = eqb-true x 0 t in omega (arith, q.0, e)) (λ t₁.
    decides _ Range _ refl (λ t (q : GoodRelease x). let e = ltb-true 2 x t in omega (arith, q.1, e)) (λ t₂.
    let z = eqb-false x 0 t₁ in
    passes (omega arith, ltb-false 2 x t₂) no_more))

module _ (s : List ℕ) (so : Counts) (fault : Fault) (memory : room (read_sheet s so).regions ≡ so.memory)
    (numbers : InARow (λ (a b : Param). a.number < b.number) (read_sheet s so).parameters) where
  -- what the next region is compared with
  lower_end : (r : Area) → ((so.regions ≡ 0 → ⊥) → (region_at s (so.regions - 1)).start + (region_at s (so.regions - 1)).length ≤ r.start) → end_before s so ≤ r.start
  unfolding end_before
  lower_end r l =
      ⊎_elim
      (λ (z : so.regions ≡ 0). subst (λ (n : ℕ). n ≤ r.start) (sym (pick_eq _ _ z)) (omega arith))
      (λ (z : so.regions ≡ 0 → ⊥). subst (λ (n : ℕ). n ≤ r.start) (sym (pick_ne _ _ z)) (l z))
      (eq_or_ne so.regions 0)

  end_lower : (r : Area) → end_before s so ≤ r.start → (so.regions ≡ 0 → ⊥) → (region_at s (so.regions - 1)).start + (region_at s (so.regions - 1)).length ≤ r.start
  unfolding end_before
  end_lower r l z = subst (λ (n : ℕ). n ≤ r.start) (pick_ne _ _ z) l

  pub area_fault : (r : Region) → InARow (λ (a b : Area). a.start + a.length ≤ b.start) (read_sheet s so).regions → r.start < 4294967296 → r.length < 4294967296
      → (judged_region r (end_before s so) so ≡ Err fault) ↔ RegionFault (read_sheet s so) (as_area r) (number_of fault)
  unfolding judged_region number_of
  area_fault r apart a b =
      let g : ℕ → Area = λ i. as_area (region_at s i) in
      let n = so.regions in
      let regions = listed g 0 n in
      let len : length (regions ++ as_area r ∷ []) ≡ n + 1 = length-append regions (as_area r ∷ []) ∙ ap (λ (k : ℕ). k + 1) (length_listed g 0 n) in
      let mem : room (regions ++ as_area r ∷ []) ≡ so.memory + r.length =
      sum_more (λ (x : Area). x.length) regions (as_area r) ∙ ap (λ (k : ℕ). k + r.length) memory in
      decides _ Range _ refl (λ t (q : GoodRegion (as_area r)). let e = eqb-true r.length 0 t in omega (arith, q.least, e)) (λ t₁.
      decides _ Range _ refl (λ t (q : GoodRegion (as_area r)). let e = ltb-true 4294967296 (r.start + r.length) t in omega (arith, q.ends, e)) (λ t₂.
      decides _ Range _ refl (λ t (q : GoodRegion (as_area r)). let e = ltb-true 7 r.rights t in omega (arith, q.bits, e)) (λ t₃.
      let z = eqb-false r.length 0 t₁ in
      passes (record { start = a; length = b; least = omega arith; ends = ltb-false 4294967296 (r.start + r.length) t₂; bits = ltb-false 7 r.rights t₃ })
      (decides _ Excess _ refl (λ t q. let e = leb-true 32 n t in omega (arith, q.0, len, e)) (λ t₄.
      decides _ Excess _ refl (λ t q. let e = ltb-true 65536 (so.memory + r.length) t in omega (arith, q.1, mem, e)) (λ t₅.
      passes (let e = leb-false 32 n t₄ in omega (arith, len, e), let e = ltb-false 65536 (so.memory + r.length) t₅ in omega (arith, mem, e))
      (decides _ Disorder _ refl
      (λ t q. let e = ltb-true r.start (end_before s so) t in let l = lower_end (as_area r) (row_last g _ (as_area r) n q) in omega (arith, e, l)) (λ t₆.
      passes (row_more g _ (as_area r) n apart (end_lower (as_area r) (ltb-false r.start (end_before s so) t₆)))
      no_more))))))))

  pub param_fault : (p : Parameter)
      → (judged_parameter p (least_number s so) (span_has (regions_of s so.regions) Mapped p.address p.size) so ≡ Err fault)
      ↔ ParameterFault (read_sheet s so) (as_param p) (number_of fault)
  unfolding judged_parameter number_of least_number
  param_fault p =
      let rs = so.regions in
      let n = so.parameters in
      let g : ℕ → Param = λ j. as_param (parameter_at s rs j) in
      let len : length (listed g 0 n ++ as_param p ∷ []) ≡ n + 1 = length-append (listed g 0 n) (as_param p ∷ []) ∙ ap (λ (k : ℕ). k + 1) (length_listed g 0 n) in
      decides _ Range _ refl (λ t q. let e = eqb-true p.size 0 t in omega (arith, q.0, e)) (λ t₁.
      decides _ Range _ refl (λ t q. let e = ltb-true 56 p.size t in omega (arith, q.1, e)) (λ t₂.
      let z = eqb-false p.size 0 t₁ in
      passes (omega arith, ltb-false 56 p.size t₂)
      (decides _ Excess _ refl (λ t q. let e = leb-true 64 n t in omega (arith, q, len, e)) (λ t₃.
      passes (let e = leb-false 64 n t₃ in omega (arith, len, e))
      (decides _ Disorder _ refl
      (λ t q.
      let e = ltb-true p.number _ t in
      let l = lower_least n (g (n - 1)).number p.number (row_last g _ (as_param p) n q) in
      omega (arith, e, l)) (λ t₄.
      passes (row_more g _ (as_param p) n numbers (least_lower n (g (n - 1)).number p.number (ltb-false p.number _ t₄)))
      (decides _ Unmapped _ refl
      (λ t q.
      true≢false (sym (eq-eqb _ _ (before_all (regions_of s rs) Mapped p.address p.size (λ x l u. has_listed (region_at s) 0 rs x (q x l u))))
      ∙ not-true _ t)) (λ t₅.
      passes (λ x l u. grants_has (region_at s) 0 rs x (all_before (regions_of s rs) Mapped p.address p.size (eqb-true _ _ (not-false _ t₅)) x l u))
      no_more))))))))

  module _ (rest : List ℕ) (octs : Every IsOctet rest) (whole : 35 ≤ length rest)
      (codes : InARow (λ (a b : Ident). a.code < b.code) (read_sheet s so).items) where
    tail_is : tail_of rest ≡ drop (get_or rest 2 0) (take 32 (drop 3 rest))
    tail_is =
        let z = get_or rest 2 0 in
        ap (take (32 - z)) (sym (drop-drop z 3 rest)) ∙ sym (drop_take z 32 (drop 3 rest))

    pub ident_fault : (judged_item (item_from rest 0) (all_zero (tail_of rest)) (least_code s so) so ≡ Err fault)
        ↔ ItemFault (read_sheet s so) (ident_from rest 0) (number_of fault)
    unfolding judged_item number_of least_code item_from
    ident_fault =
        let i = ident_from rest 0 in
        let n = so.items in
        let d = length-drop 3 rest in
        let g : ℕ → Ident = λ j. ident_from s (4 + 10 * so.regions + 8 * so.parameters + 35 * j) in
        let len : length (listed g 0 n ++ i ∷ []) ≡ n + 1 = length-append (listed g 0 n) (i ∷ []) ∙ ap (λ (k : ℕ). k + 1) (length_listed g 0 n) in
        decides _ Range _ refl (λ t (q : GoodItem i). let e = eqb-true (get_or rest 2 0) 0 t in omega (arith, q.least, e)) (λ t₁.
        decides _ Range _ refl (λ t (q : GoodItem i). let e = ltb-true 32 (get_or rest 2 0) t in omega (arith, q.most, e)) (λ t₂.
        decides _ Range _ refl (λ t (q : GoodItem i). true≢false (sym (ap all_zero tail_is ∙ zeros_zero _ q.zeros) ∙ not-true _ t)) (λ t₃.
        let z = eqb-false (get_or rest 2 0) 0 t₁ in
        passes (record {
          code = octet_at rest octs 1;
          least = omega arith;
          most = ltb-false 32 (get_or rest 2 0) t₂;
          all32 = length-take-le 32 (drop 3 rest) (omega arith);
          octets = octets_take 32 (drop 3 rest) (octets_drop 3 rest octs);
          zeros = zeros_back _ (ap all_zero (sym tail_is) ∙ not-false _ t₃);
        })
        (decides _ Excess _ refl (λ t q. let e = leb-true 32 n t in omega (arith, q, len, e)) (λ t₄.
        passes (let e = leb-false 32 n t₄ in omega (arith, len, e))
        (decides _ Disorder _ refl
        (λ t q.
        let e = ltb-true (get_or rest 1 0) _ t in
        let l = lower_least n (g (n - 1)).code (get_or rest 1 0) (row_last g _ i n q) in
        omega (arith, e, l)) (λ t₅.
        passes (row_more g _ i n codes (least_lower n (g (n - 1)).code (get_or rest 1 0) (ltb-false (get_or rest 1 0) _ t₅)))
        no_more)))))))
