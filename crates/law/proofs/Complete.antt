-- The writing of a well-formed sheet is valid.
use mathlib.Core.Bool.{Bool, true, false, not}
use mathlib.Core.Path.{◌≡◌, refl, sym, ap, subst, ◌∙◌}
use mathlib.Core.List.{List, [], ◌∷◌, ◌++◌, map}
use Prim.Native.Nat.{ℕ, zero, suc, ◌+◌, ◌*◌, ◌≤◌, ◌<◌}
use native.Mathlib.Nat.{le_refl}
use native.Mathlib.Omega.{arith}
use borrow.Author.Tests.{ne_eqb, eq-eqb}
use lib.Dec.{eqb}
use lib.ListN.{length, get_or, drop, length-append}
use lib.Seq.{get_or-drop, drop_at, drop-drop}
use Rattle.std.specs.Prelude.{Ok}
use Rattle.octets.proofs.Pick.{pick_yes, pick_no, pick_ge, pick_ne}
use Rattle.regions.specs.Region.{regions_of}
use Rattle.sheet.specs.Kinds.{is_kind, size_of, misplaced_of, end_before, least_number, least_code}
use Rattle.sheet.specs.Reading.{link_of, body_of, record_of}
use Rattle.sheet.specs.Told.{reads, Verdict}
use Rattle.sheet.specs.Walk.{none, tolerance_in, release_in, layout_of, ended_of, onward, walk_of, verdict_of}
use Rattle.sheet.specs.declared.records.Counts.{Counts}
use Rattle.sheet.specs.declared.walk.Layout.{Layout}
use Rattle.law.specs.Words.{Every, From, InARow, joined, sum_of, octet}
use Rattle.law.specs.Sheet.{Item as Ident, Sheet, GoodRegion, GoodParameter, GoodItem, GoodRelease, WellFormed, PduType, GoodLength, link_kind, region_octets, parameter_octets, item_octets, tolerance_octets, release_octets, written, sheet_octets, room}
use Rattle.law.proofs.Links.{link_back, link_known, length_back, form_is}
use Rattle.sheet.proofs.Onward.{link_begins}
use Rattle.law.proofs.Running.{Ends, walk_on, run_all, length_joined}
use Rattle.law.proofs.Readings.{behind_link, regions_listed, read_area, next_area, read_param, next_param, read_ident, next_ident, read_tolerance, read_release}
use Rattle.law.proofs.Layouts.{layout_for, full, counts, counts_for, as_region}

-- the end record, and what comes before the first record
end_read : (s : List ℕ) (so : Counts) → 1 < length s → Ends s (Ok (layout_of s so)) (0 ∷ []) so
unfolding walk_of onward record_of body_of size_of is_kind misplaced_of ended_of
end_read s so l zero h = absurd (omega arith)
end_read s so l (suc f) h =
    let e : record_of s (0 ∷ []) so ≡ reads 1 so =
    behind_link s 0 1 [] so l refl refl (pick_yes _ _ refl) (omega arith) ∙ pick_yes _ _ refl in
    rw e (pick_yes _ _ refl ∙ pick_no _ _ refl)

link_read : (pdu : PduType) (l v p : ℕ) (t : List ℕ) → GoodLength pdu l
    → record_of (link_kind pdu ∷ l ∷ v ∷ p ∷ t) (link_kind pdu ∷ l ∷ v ∷ p ∷ t) none ≡ reads 4 none
unfolding record_of body_of link_of size_of misplaced_of
link_read pdu l v p t h =
    let kind = link_kind pdu in
    let s : List ℕ = kind ∷ l ∷ v ∷ p ∷ t in
    let link = link_back pdu in
    let some = link_begins kind link in
    let d : eqb (length s) (length s) ≡ true = eq-eqb (length s) (length s) refl in
    let z : size_of kind ≡ 4 = pick_ne _ _ some ∙ pick_yes _ _ link in
    let n : eqb (length s) 0 ≡ false = ne_eqb _ _ (λ (q : length s ≡ 0). omega arith) in
    let u : size_of kind ≤ length s = omega arith in
    pick_no _ _ n ∙ pick_no _ _ (ap not (link_known pdu)) ∙ pick_no _ _ (ap (λ (b : Bool). misplaced_of b kind none) d ∙ ap not link) ∙ pick_ge _ _ u
    ∙ pick_ne _ _ some ∙ pick_yes _ _ link ∙ pick_no _ _ (ap not (length_back pdu l h))

-- what stands behind records of one kind
pub behind_all : {A : Type 0} (f : A → List ℕ) (Good : A → Type 0) (size : ℕ) → ((x : A) → Good x → length (f x) ≡ size) → (s : List ℕ) (base : ℕ)
    (xs : List A) (t : List ℕ) → Every Good xs → drop base s ≡ joined f xs ++ t → drop (base + size * length xs) s ≡ t
behind_all f Good size long s base xs t g at =
    let a = length-append (joined f xs) t in
    let b = length_joined f Good size long xs t g in
    sym (drop-drop (size * length xs) base s) ∙ ap (drop (size * length xs)) at ∙ drop_at (joined f xs) t (size * length xs) (omega arith)

none_before : (s : List ℕ) → end_before s none ≡ 0
unfolding end_before
none_before s = pick_yes _ _ refl

none_numbered : (s : List ℕ) (r m : ℕ) → least_number s (counts r 0 0 m) ≡ 0
unfolding least_number
none_numbered s r m = pick_yes _ _ refl

none_coded : (s : List ℕ) (r p m : ℕ) → least_code s (counts r p 0 m) ≡ 0
unfolding least_code
none_coded s r p m = pick_yes _ _ refl

pub ident_long : (i : Ident) → GoodItem i → length (item_octets i) ≡ 35
ident_long i g = ap (λ (n : ℕ). suc (suc (suc n))) g.all32

-- one number beside another has no order here
any_row : (xs : List ℕ) → InARow (λ (y z : ℕ). 0 ≤ 0) xs
any_row [] = tt
any_row (x ∷ xs) = from x xs
  where
    from : (x : ℕ) (xs : List ℕ) → From (λ (y z : ℕ). 0 ≤ 0) x xs
    from x [] = tt
    from x (y ∷ ys) = (omega arith, from y ys)

-- the octet behind the items is what the sheet allows
pub tolerance_there : (s ts t : List ℕ) (r p k v m : ℕ) → drop (4 + 10 * r + 8 * p + 35 * k) s ≡ joined tolerance_octets ts ++ t
    → tolerance_in s (full r p k (length ts) v m) ≡ octet ts 0
unfolding tolerance_in
tolerance_there s [] t r p k v m at = pick_yes _ _ refl
tolerance_there s (x ∷ xs) t r p k v m at =
    let b = 4 + 10 * r + 8 * p + 35 * k in
    pick_ne _ _ (λ (z : suc (length xs) ≡ 0). omega arith)
    ∙ ap (λ (i : ℕ). get_or s i 0) (let e : 5 + 10 * r + 8 * p + 35 * k ≡ b + 1 = omega arith in e)
    ∙ sym (get_or-drop b s 1 0) ∙ ap (λ (l : List ℕ). get_or l 1 0) at

-- and the octet behind that record is the release that the sheet picks
pub release_there : (s vs t : List ℕ) (r p k q m : ℕ) → drop (4 + 10 * r + 8 * p + 35 * k + 2 * q) s ≡ joined release_octets vs ++ t
    → release_in s (full r p k q (length vs) m) ≡ get_or vs 0 1
unfolding release_in
release_there s [] t r p k q m at = pick_yes _ _ refl
release_there s (x ∷ xs) t r p k q m at =
    let b = 4 + 10 * r + 8 * p + 35 * k + 2 * q in
    pick_ne _ _ (λ (z : suc (length xs) ≡ 0). omega arith)
    ∙ ap (λ (i : ℕ). get_or s i 0) (let e : 5 + 10 * r + 8 * p + 35 * k + 2 * q ≡ b + 1 = omega arith in e)
    ∙ sym (get_or-drop b s 1 0) ∙ ap (λ (l : List ℕ). get_or l 1 0) at

-- what stands behind regions, parameters and items of a written sheet
pub behind_items : (h : Sheet) → WellFormed h → (rest : List ℕ)
    → drop (4 + 10 * length h.regions + 8 * length h.parameters + 35 * length h.items) (written h rest)
    ≡ joined tolerance_octets h.tolerances ++ (joined release_octets h.releases ++ rest)
behind_items h w rest =
    let s = written h rest in
    let r = length h.regions in
    let p = length h.parameters in
    let tt : List ℕ = joined tolerance_octets h.tolerances ++ (joined release_octets h.releases ++ rest) in
    let ti : List ℕ = joined item_octets h.items ++ tt in
    let tp : List ℕ = joined parameter_octets h.parameters ++ ti in
    behind_all item_octets GoodItem 35 ident_long s (4 + 10 * r + 8 * p) h.items tt w.items
    (behind_all parameter_octets (GoodParameter h.regions) 8 (λ x g. refl) s (4 + 10 * r) h.parameters ti w.parameters
    (behind_all region_octets GoodRegion 10 (λ x g. refl) s 4 h.regions tp w.regions refl))

-- and behind the tolerance
pub behind_tolerance : (h : Sheet) → WellFormed h → (rest : List ℕ)
    → drop (4 + 10 * length h.regions + 8 * length h.parameters + 35 * length h.items + 2 * length h.tolerances) (written h rest)
    ≡ joined release_octets h.releases ++ rest
behind_tolerance h w rest =
    behind_all tolerance_octets (λ n. n ≤ 3) 2 (λ x g. refl) (written h rest)
    (4 + 10 * length h.regions + 8 * length h.parameters + 35 * length h.items) h.tolerances (joined release_octets h.releases ++ rest)
    w.tolerances (behind_items h w rest)

-- the walk over the writing of a well-formed sheet comes to what stands behind it
pub come_behind : (h : Sheet) → WellFormed h → (rest : List ℕ) (v : Verdict) → length (written h rest) ≤ 2048
    → Ends (written h rest) v rest (counts_for h) → verdict_of (written h rest) ≡ v
unfolding verdict_of
come_behind h w rest v short go =
    let s = written h rest in
    let r = length h.regions in
    let p = length h.parameters in
    let k = length h.items in
    let m = room h.regions in
    let tt : List ℕ = joined tolerance_octets h.tolerances ++ (joined release_octets h.releases ++ rest) in
    let ti : List ℕ = joined item_octets h.items ++ tt in
    let tp : List ℕ = joined parameter_octets h.parameters ++ ti in
    let ta : List ℕ = joined region_octets h.regions ++ tp in
    let at_p : drop (4 + 10 * r) s ≡ tp = behind_all region_octets GoodRegion 10 (λ x g. refl) s 4 h.regions tp w.regions refl in
    let at-k : drop (4 + 10 * r + 8 * p) s ≡ ti =
    behind_all parameter_octets (GoodParameter h.regions) 8 (λ x g. refl) s (4 + 10 * r) h.parameters ti w.parameters at_p in
    let at-t : drop (4 + 10 * r + 8 * p + 35 * k) s ≡ tt = behind_items h w rest in
    let same : regions_of s r ≡ map as_region h.regions = regions_listed s h.regions tp 0 refl w.regions in
    let q = length h.tolerances in
    let go-releases : Ends s v (joined release_octets h.releases ++ rest) (full r p k q 0 m) =
    run_all s v release_octets GoodRelease (λ n. 0) (λ n. 0) (λ n. 0) (4 + 10 * r + 8 * p + 35 * k + 2 * q) 2 1 (sum_of (λ n. 0) h.releases)
    (λ n z. full r p k q n m) (λ n z. 0) (omega arith) (λ x g. refl)
    (λ x t (e : 7 ≡ 0). omega arith)
    (λ x t n z at g l u y. read_release s r p k q m x t n at g u) (λ x t n z at g. refl)
    h.releases rest (behind_tolerance h w rest) w.releases refl (any_row h.releases) w.picked_once (le_refl _) go in
    let go-tolerances : Ends s v tt (counts r p k m) =
    run_all s v tolerance_octets (λ n. n ≤ 3) (λ n. 0) (λ n. 0) (λ n. 0) (4 + 10 * r + 8 * p + 35 * k) 2 1 (sum_of (λ n. 0) h.tolerances)
    (λ n z. full r p k n 0 m) (λ n z. 0) (omega arith) (λ x g. refl)
    (λ x t (e : 6 ≡ 0). omega arith)
    (λ x t n z at g l u q. read_tolerance s r p k m x t n at g u) (λ x t n z at g. refl)
    h.tolerances (joined release_octets h.releases ++ rest) at-t w.tolerances refl (any_row h.tolerances) w.once (le_refl _) go-releases in
    let go-items : Ends s v ti (counts r p 0 m) =
    run_all s v item_octets GoodItem (λ i. i.code) (λ i. suc i.code) (λ i. 0) (4 + 10 * r + 8 * p) 35 32 (sum_of (λ i. 0) h.items)
    (λ n z. counts r p n m) (λ n z. least_code s (counts r p n m)) (omega arith) ident_long
    (λ i t (e : 4 ≡ 0). omega arith)
    (λ i t n z at g l u q. read_ident s r p m i t n at g l u) (λ i t n z at g. next_ident s r p m i t n at g)
    h.items tt at-k w.items (none_coded s r p m) w.codes_rise w.few_items (le_refl _) go-tolerances in
    let go-parameters : Ends s v tp (counts r 0 0 m) =
    run_all s v parameter_octets (GoodParameter h.regions) (λ q. q.number) (λ q. suc q.number) (λ q. 0) (4 + 10 * r) 8 64 (sum_of (λ q. 0) h.parameters)
    (λ n z. counts r n 0 m) (λ n z. least_number s (counts r n 0 m)) (omega arith) (λ x g. refl)
    (λ q t (e : 3 ≡ 0). omega arith)
    (λ q t n z at g l u y. read_param s h.regions m same q t n at g l u) (λ q t n z at g. next_param s h.regions m same q t n at g)
    h.parameters ti at_p w.parameters (none_numbered s r m) w.numbers_rise w.few_parameters (le_refl _) go-items in
    let go-regions : Ends s v ta none =
    run_all s v region_octets GoodRegion (λ a. a.start) (λ a. a.start + a.length) (λ a. a.length) 4 10 32 65536
    (λ n z. counts n 0 0 z) (λ n z. end_before s (counts n 0 0 z)) (omega arith) (λ x g. refl)
    (λ a t (e : 2 ≡ 0). omega arith)
    (read_area s) (next_area s)
    h.regions tp refl w.regions (none_before s) w.apart w.few_regions.0 w.few_regions.1 go-parameters in
    pick_ge _ _ short
    ∙ walk_on s s none v 4 none (link_read h.pdu h.l h.version h.profile ta w.l) (link_begins (link_kind h.pdu) (link_back h.pdu)) (omega arith) (omega arith)
    go-regions (suc (length s)) (omega arith)

pub complete : (h : Sheet) → WellFormed h → verdict_of (sheet_octets h) ≡ Ok (layout_for h)
unfolding layout_of
complete h w =
    let s = sheet_octets h in
    let end : List ℕ = 0 ∷ [] in
    let tr : List ℕ = joined release_octets h.releases ++ end in
    let tt : List ℕ = joined tolerance_octets h.tolerances ++ tr in
    let ti : List ℕ = joined item_octets h.items ++ tt in
    let tp : List ℕ = joined parameter_octets h.parameters ++ ti in
    let la = length_joined region_octets GoodRegion 10 (λ x g. refl) h.regions tp w.regions in
    let lp = length_joined parameter_octets (GoodParameter h.regions) 8 (λ x g. refl) h.parameters ti w.parameters in
    let lk = length_joined item_octets GoodItem 35 ident_long h.items tt w.items in
    let lt = length_joined tolerance_octets (λ n. n ≤ 3) 2 (λ x g. refl) h.tolerances tr w.tolerances in
    let lr = length_joined release_octets GoodRelease 2 (λ x g. refl) h.releases end w.releases in
    let r = length h.regions in
    let p = length h.parameters in
    let k = length h.items in
    let t = tolerance_there s h.tolerances tr r p k (length h.releases) (room h.regions) (behind_items h w end) in
    let v = release_there s h.releases end r p k (length h.tolerances) (room h.regions) (behind_tolerance h w end) in
    let same : layout_of s (counts_for h) ≡ layout_for h = λ i. record {
      form = form_is h.pdu i;
      l = h.l;
      version = h.version;
      profile = h.profile;
      regions = length h.regions;
      parameters = length h.parameters;
      items = length h.items;
      tolerances = length h.tolerances;
      tolerance = t i;
      releases = length h.releases;
      release = v i;
      memory = room h.regions;
    } in
    come_behind h w end (Ok (layout_for h)) (omega (arith, la, lp, lk, lt, lr, w.few_regions.0, w.few_parameters, w.few_items, w.once, w.picked_once))
    (subst (λ (lay : Layout). Ends s (Ok lay) end (counts_for h)) same (end_read s (counts_for h) (omega arith)))
