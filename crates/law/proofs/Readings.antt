-- Each record of a well-formed sheet is read as it was written.
use mathlib.Core.Bool.{Bool, true, false, not}
use mathlib.Core.Logic.{⊎_elim}
use mathlib.Core.Path.{◌≡◌, refl, sym, ap, ap₂, subst, ◌∙◌}
use mathlib.Core.List.{List, [], ◌∷◌, ◌++◌, map}
use Prim.Native.Nat.{ℕ, suc, ◌+◌, ◌-◌, ◌*◌, ◌≤◌, ◌<◌}
use native.Mathlib.Numerals.{add-one}
use native.Mathlib.Omega.{arith}
use borrow.Author.Tests.{ne_eqb, eq-eqb}
use lib.Dec.{eqb}
use lib.ListN.{length, get_or, take, drop, length-append, length-drop}
use lib.Seq.{take_at, drop-drop, drop-append-le}
use Rattle.octets.specs.Parts.{all_zero}
use Rattle.octets.proofs.Cases.{decided}
use Rattle.octets.proofs.Pick.{pick_yes, pick_no, pick_ge, pick_gt, pick_ne}
use Rattle.regions.specs.Region.{region_from, region_at, regions_of, listed, holds_of, gives_of}
use Rattle.regions.specs.Search.{grants_of, before_of, span_has}
use Rattle.regions.specs.declared.Region.{Region}
use Rattle.regions.specs.declared.Right.TheVariants.{Mapped}
use Rattle.regions.proofs.Bounds.{bounds_hold}
use Rattle.regions.proofs.Spans.{before_all}
use Rattle.sheet.specs.Entries.{parameter_from, parameter_at, item_from, item_at}
use Rattle.sheet.specs.Judging.{judged_region, judged_parameter, judged_item, judged_tolerance, judged_release}
use Rattle.sheet.specs.Kinds.{is_kind, size_of, misplaced_of, end_before, least_number, least_code}
use Rattle.sheet.specs.Reading.{region_of, parameter_of, item_of, tolerance_of, release_of, body_of, record_of, tail_of}
use Rattle.sheet.specs.Told.{reads}
use Rattle.sheet.specs.declared.entries.Parameter.{Parameter}
use Rattle.sheet.specs.declared.entries.Item.{Item}
use Rattle.sheet.specs.declared.records.Counts.{Counts}
use Rattle.sheet.proofs.Steps.{region_there, parameter_there, code_there}
use Rattle.law.specs.Words.{Every, Some, joined}
use Rattle.law.specs.Sheet.{Region as Area, Parameter as Param, Item as Ident, GoodRegion, GoodParameter, GoodItem, GoodRelease, InRegion, region_octets, parameter_octets, item_octets, tolerance_octets, release_octets}
use Rattle.law.proofs.Written.{le2_back, le4_back}
use Rattle.law.proofs.Layouts.{full, counts, as_region, as_parameter}

area_back : (r : Area) (t : List ℕ) → GoodRegion r → region_from (region_octets r ++ t) 0 ≡ as_region r
unfolding region_from
area_back r t g = λ i. record { start = le4_back r.start g.start i; length = le4_back r.length g.length i; rights = r.rights }

param_back : (rs : List Area) (p : Param) (t : List ℕ) → GoodParameter rs p → parameter_from (parameter_octets p ++ t) 0 ≡ as_parameter p
unfolding parameter_from
param_back rs p t g = λ i. record { number = le2_back p.number g.number i; address = le4_back p.address g.address i; size = p.size }

pub zeros_zero : (l : List ℕ) → Every (λ (x : ℕ). x ≡ 0) l → all_zero l ≡ true
unfolding all_zero
zeros_zero [] h = refl
zeros_zero (x ∷ xs) h = rw (eq-eqb x 0 h.0) (zeros_zero xs h.1)

-- a record of a kind in its place whose body is whole: what the checks before the body leave
module _ (s : List ℕ) (kind size : ℕ) (body : List ℕ) (so : Counts) where
  pub behind_link : length (kind ∷ body) < length s → misplaced_of false kind so ≡ false → is_kind kind ≡ true → size_of kind ≡ size
      → size ≤ length (kind ∷ body) → record_of s (kind ∷ body) so ≡ body_of kind s (kind ∷ body) so
  unfolding record_of
  behind_link l m k e f =
      let z : eqb (length (kind ∷ body)) 0 ≡ false = ne_eqb _ _ (λ (q : length (kind ∷ body) ≡ 0). omega arith) in
      let u : size_of kind ≤ length (kind ∷ body) = omega arith in
      let d : eqb (length (kind ∷ body)) (length s) ≡ false = ne_eqb _ _ (λ (q : length (kind ∷ body) ≡ length s). omega arith) in
      pick_no _ _ z ∙ pick_no _ _ (ap not k) ∙ pick_no _ _ (ap (λ (b : Bool). misplaced_of b kind so) d ∙ m) ∙ pick_ge _ _ u

-- what is behind a place is shorter than the whole
shorter : (s t : List ℕ) (at : ℕ) → drop at s ≡ t → 1 ≤ at → 1 ≤ length t → length t < length s
shorter s t at e a l = let d : length t ≡ length s - at = sym (ap length e) ∙ length-drop at s in omega arith

module _ (s : List ℕ) where
  judged_area : (r : Area) (n m end : ℕ) → GoodRegion r → end ≤ r.start → n < 32 → m + r.length ≤ 65536
      → judged_region (as_region r) end (counts n 0 0 m) ≡ reads 10 (counts (n + 1) 0 0 (m + r.length))
  unfolding judged_region
  judged_area r n m end g l u w =
      pick_ne _ _ (λ (z : r.length ≡ 0). omega (arith, g.least)) ∙ pick_ge _ _ g.ends ∙ pick_ge _ _ g.bits ∙ pick_gt _ _ u ∙ pick_ge _ _ w ∙ pick_ge _ _ l

  pub read_area : (r : Area) (t : List ℕ) (n m : ℕ) → drop (4 + 10 * n) s ≡ region_octets r ++ t → GoodRegion r → end_before s (counts n 0 0 m) ≤ r.start → n < 32
      → m + r.length ≤ 65536 → record_of s (region_octets r ++ t) (counts n 0 0 m) ≡ reads 10 (counts (n + 1) 0 0 (m + r.length))
  unfolding body_of region_of size_of is_kind misplaced_of
  read_area r t n m at g l u w =
      behind_link s 2 10 _ (counts n 0 0 m) (shorter s (region_octets r ++ t) (4 + 10 * n) at (omega arith) (omega arith)) refl refl
      (pick_no _ _ refl ∙ pick_no _ _ refl ∙ pick_yes _ _ refl) (omega arith)
      ∙ pick_no _ _ refl ∙ pick_no _ _ refl ∙ pick_yes _ _ refl
      ∙ ap (λ (q : Region). judged_region q (end_before s (counts n 0 0 m)) (counts n 0 0 m)) (area_back r t g)
      ∙ judged_area r n m (end_before s (counts n 0 0 m)) g l u w

  pub area_at : (r : Area) (t : List ℕ) (n : ℕ) → drop (4 + 10 * n) s ≡ region_octets r ++ t → GoodRegion r → region_at s n ≡ as_region r
  area_at r t n at g = sym (region_there s (4 + 10 * n)) ∙ ap (λ (l : List ℕ). region_from l 0) at ∙ area_back r t g

  pub next_area : (r : Area) (t : List ℕ) (n m : ℕ) → drop (4 + 10 * n) s ≡ region_octets r ++ t → GoodRegion r → end_before s (counts (n + 1) 0 0 m) ≡ r.start + r.length
  unfolding end_before
  next_area r t n m at g =
      pick_ne _ _ (λ (z : n + 1 ≡ 0). omega arith)
      ∙ ap (λ (i : ℕ). (region_at s i).start + (region_at s i).length) (let e : n + 1 - 1 ≡ n = omega arith in e)
      ∙ ap (λ (q : Region). q.start + q.length) (area_at r t n at g)

  -- the regions of the writing are the sheet's
  pub regions_listed : (rs : List Area) (t : List ℕ) (n : ℕ) → drop (4 + 10 * n) s ≡ joined region_octets rs ++ t → Every GoodRegion rs
      → listed (region_at s) n (length rs) ≡ map as_region rs
  unfolding listed
  regions_listed [] t n at g = refl
  regions_listed (r ∷ rs) t n at g =
      let there : drop (4 + 10 * suc n) s ≡ joined region_octets rs ++ t =
      ap (λ (i : ℕ). drop i s) (let e : 4 + 10 * suc n ≡ 4 + 10 * n + 10 = omega arith in e) ∙ sym (drop-drop 10 (4 + 10 * n) s) ∙ ap (drop 10) at in
      ap₂ ◌∷◌ (area_at r (joined region_octets rs ++ t) n at g.0) (regions_listed rs t (suc n) there g.1)

  -- an address that the paper finds in a region, the search finds
  has_grants : (rs : List Area) (a : ℕ) → Some (InRegion a) rs → grants_of (map as_region rs) Mapped a ≡ true
  unfolding grants_of gives_of
  has_grants [] a h = absurd h
  has_grants (r ∷ rs) a h =
      ⊎_elim
      (λ (k : holds_of (as_region r) a ≡ true). pick_yes _ _ k)
      (λ (k : holds_of (as_region r) a ≡ false).
      ⊎_elim
      (λ (j : InRegion a r). pick_yes _ _ (bounds_hold (as_region r) a j.0 j.1))
      (λ (j : Some (InRegion a) rs). pick_no _ _ k ∙ has_grants rs a j)
      h)
      (decided (holds_of (as_region r) a))

  module _ (rs : List Area) (m : ℕ) (same : regions_of s (length rs) ≡ map as_region rs) where
    abbrev params_read : ℕ → Counts
    params_read n = counts (length rs) n 0 m

    span_good : (p : Param) → GoodParameter rs p → span_has (regions_of s (length rs)) Mapped p.address p.size ≡ true
    span_good p g =
        eq-eqb _ _ (ap (λ (l : List Region). before_of l Mapped p.address p.size) same
        ∙ before_all (map as_region rs) Mapped p.address p.size (λ x l u. has_grants rs x (g.spans x l u)))

    judged_param : (p : Param) (n least : ℕ) (mapped : Bool) → GoodParameter rs p → mapped ≡ true → least ≤ p.number → n < 64
        → judged_parameter (as_parameter p) least mapped (params_read n) ≡ reads 8 (params_read (n + 1))
    unfolding judged_parameter
    judged_param p n least mapped g e l u =
        pick_ne _ _ (λ (z : p.size ≡ 0). omega (arith, g.least)) ∙ pick_ge _ _ g.most ∙ pick_gt _ _ u ∙ pick_ge _ _ l
        ∙ pick_no _ _ (ap not e)

    pub read_param : (p : Param) (t : List ℕ) (n : ℕ) → drop (4 + 10 * length rs + 8 * n) s ≡ parameter_octets p ++ t → GoodParameter rs p
        → least_number s (params_read n) ≤ p.number → n < 64 → record_of s (parameter_octets p ++ t) (params_read n) ≡ reads 8 (params_read (n + 1))
    unfolding body_of parameter_of size_of is_kind misplaced_of
    read_param p t n at g l u =
        behind_link s 3 8 _ (params_read n) (shorter s (parameter_octets p ++ t) (4 + 10 * length rs + 8 * n) at (omega arith) (omega arith)) refl refl
        (pick_no _ _ refl ∙ pick_no _ _ refl ∙ pick_no _ _ refl ∙ pick_yes _ _ refl) (omega arith)
        ∙ pick_no _ _ refl ∙ pick_no _ _ refl ∙ pick_no _ _ refl ∙ pick_yes _ _ refl
        ∙ ap (λ (q : Parameter). judged_parameter q (least_number s (params_read n)) (span_has (regions_of s (length rs)) Mapped q.address q.size) (params_read n))
        (param_back rs p t g)
        ∙ judged_param p n (least_number s (params_read n)) (span_has (regions_of s (length rs)) Mapped p.address p.size) g (span_good p g) l u

    pub param_at : (p : Param) (t : List ℕ) (n : ℕ) → drop (4 + 10 * length rs + 8 * n) s ≡ parameter_octets p ++ t → GoodParameter rs p
        → parameter_at s (length rs) n ≡ as_parameter p
    param_at p t n at g = sym (parameter_there s (4 + 10 * length rs + 8 * n)) ∙ ap (λ (l : List ℕ). parameter_from l 0) at ∙ param_back rs p t g

    pub next_param : (p : Param) (t : List ℕ) (n : ℕ) → drop (4 + 10 * length rs + 8 * n) s ≡ parameter_octets p ++ t → GoodParameter rs p
        → least_number s (params_read (n + 1)) ≡ suc p.number
    unfolding least_number
    next_param p t n at g =
        pick_ne _ _ (λ (z : n + 1 ≡ 0). omega arith)
        ∙ ap (λ (i : ℕ). (parameter_at s (length rs) i).number + 1) (let e : n + 1 - 1 ≡ n = omega arith in e)
        ∙ ap (λ (q : Parameter). q.number + 1) (param_at p t n at g) ∙ add-one p.number

  module _ (r p m : ℕ) where
    abbrev idents_read : ℕ → Counts
    idents_read n = counts r p n m

    tail_zero : (i : Ident) (t : List ℕ) → GoodItem i → all_zero (tail_of (item_octets i ++ t)) ≡ true
    tail_zero i t g =
        let z = i.length in
        let e₁ : drop (3 + z) (item_octets i ++ t) ≡ drop z i.octets ++ t =
        sym (drop-drop z 3 (item_octets i ++ t)) ∙ drop-append-le z i.octets t (omega (arith, g.most, g.all32)) in
        let e₂ : take (32 - z) (drop z i.octets ++ t) ≡ drop z i.octets =
        take_at (drop z i.octets) t (32 - z) (length-drop z i.octets ∙ ap (λ (k : ℕ). k - z) g.all32) in
        ap all_zero (ap (take (32 - z)) e₁ ∙ e₂) ∙ zeros_zero (drop z i.octets) g.zeros

    judged_ident : (i : Item) (n least : ℕ) (tail : Bool) → 1 ≤ i.length → i.length ≤ 32 → tail ≡ true → least ≤ i.code → n < 32
        → judged_item i tail least (idents_read n) ≡ reads 35 (idents_read (n + 1))
    unfolding judged_item
    judged_ident i n least tail some most e l u =
        pick_ne _ _ (λ (z : i.length ≡ 0). omega arith) ∙ pick_ge _ _ most ∙ pick_no _ _ (ap not e) ∙ pick_gt _ _ u ∙ pick_ge _ _ l

    pub read_ident : (i : Ident) (t : List ℕ) (n : ℕ) → drop (4 + 10 * r + 8 * p + 35 * n) s ≡ item_octets i ++ t → GoodItem i
        → least_code s (idents_read n) ≤ i.code → n < 32 → record_of s (item_octets i ++ t) (idents_read n) ≡ reads 35 (idents_read (n + 1))
    unfolding body_of item_of item_from size_of is_kind misplaced_of
    read_ident i t n at g l u =
        let a = length-append i.octets t in
        let o = g.all32 in
        behind_link s 4 35 _ (idents_read n) (shorter s (item_octets i ++ t) (4 + 10 * r + 8 * p + 35 * n) at (omega arith) (omega arith)) refl refl
        (pick_no _ _ refl ∙ pick_no _ _ refl ∙ pick_no _ _ refl ∙ pick_no _ _ refl ∙ pick_yes _ _ refl) (omega arith)
        ∙ pick_no _ _ refl ∙ pick_no _ _ refl ∙ pick_no _ _ refl ∙ pick_no _ _ refl ∙ pick_yes _ _ refl
        ∙ judged_ident (item_from (item_octets i ++ t) 0) n (least_code s (idents_read n)) (all_zero (tail_of (item_octets i ++ t))) g.least g.most (tail_zero i t g) l u

    pub next_ident : (i : Ident) (t : List ℕ) (n : ℕ) → drop (4 + 10 * r + 8 * p + 35 * n) s ≡ item_octets i ++ t → GoodItem i
        → least_code s (idents_read (n + 1)) ≡ suc i.code
    unfolding least_code item_from
    next_ident i t n at g =
        pick_ne _ _ (λ (z : n + 1 ≡ 0). omega arith)
        ∙ ap (λ (k : ℕ). (item_at s r p k).code + 1) (let e : n + 1 - 1 ≡ n = omega arith in e)
        ∙ ap (λ (c : ℕ). c + 1) (sym (code_there s (4 + 10 * r + 8 * p + 35 * n)) ∙ ap (λ (l : List ℕ). get_or l 1 0) at) ∙ add-one i.code

  -- the tolerance stands once
  module _ (r p k m : ℕ) where
    judged_once : (x : ℕ) → x ≤ 3 → judged_tolerance x (full r p k 0 0 m) ≡ reads 2 (full r p k 1 0 m)
    unfolding judged_tolerance
    judged_once x g = pick_ge _ _ g

    pub read_tolerance : (x : ℕ) (t : List ℕ) (n : ℕ) → drop (4 + 10 * r + 8 * p + 35 * k + 2 * n) s ≡ tolerance_octets x ++ t → x ≤ 3 → n < 1
        → record_of s (tolerance_octets x ++ t) (full r p k n 0 m) ≡ reads 2 (full r p k (n + 1) 0 m)
    unfolding body_of tolerance_of size_of is_kind misplaced_of
    read_tolerance x t n at g u =
        subst (λ (i : ℕ). record_of s (tolerance_octets x ++ t) (full r p k i 0 m) ≡ reads 2 (full r p k (i + 1) 0 m)) (let z : 0 ≡ n = omega arith in z)
        (behind_link s 6 2 _ (full r p k 0 0 m) (shorter s (tolerance_octets x ++ t) (4 + 10 * r + 8 * p + 35 * k + 2 * n) at (omega arith) (omega arith)) refl refl
        (pick_no _ _ refl ∙ pick_no _ _ refl ∙ pick_no _ _ refl ∙ pick_no _ _ refl ∙ pick_no _ _ refl) (omega arith)
        ∙ pick_no _ _ refl ∙ pick_no _ _ refl ∙ pick_no _ _ refl ∙ pick_no _ _ refl ∙ pick_no _ _ refl ∙ pick_yes _ _ refl
        ∙ judged_once x g)

  -- and so does the release
  module _ (r p k q m : ℕ) where
    picked_once : (x : ℕ) → GoodRelease x → judged_release x (full r p k q 0 m) ≡ reads 2 (full r p k q 1 m)
    unfolding judged_release
    picked_once x g = pick_ne _ _ (λ (z : x ≡ 0). omega (arith, g.0)) ∙ pick_ge _ _ g.1

    pub read_release : (x : ℕ) (t : List ℕ) (n : ℕ) → drop (4 + 10 * r + 8 * p + 35 * k + 2 * q + 2 * n) s ≡ release_octets x ++ t → GoodRelease x → n < 1
        → record_of s (release_octets x ++ t) (full r p k q n m) ≡ reads 2 (full r p k q (n + 1) m)
    unfolding body_of release_of size_of is_kind misplaced_of
    read_release x t n at g u =
        subst (λ (i : ℕ). record_of s (release_octets x ++ t) (full r p k q i m) ≡ reads 2 (full r p k q (i + 1) m)) (let z : 0 ≡ n = omega arith in z)
        (behind_link s 7 2 _ (full r p k q 0 m) (shorter s (release_octets x ++ t) (4 + 10 * r + 8 * p + 35 * k + 2 * q + 2 * n) at (omega arith) (omega arith)) refl refl
        (pick_no _ _ refl ∙ pick_no _ _ refl ∙ pick_no _ _ refl ∙ pick_no _ _ refl ∙ pick_no _ _ refl) (omega arith)
        ∙ pick_no _ _ refl ∙ pick_no _ _ refl ∙ pick_no _ _ refl ∙ pick_no _ _ refl ∙ pick_no _ _ refl ∙ pick_no _ _ refl
        ∙ picked_once x g)
