-- The paper's fault is the one that the walk tells.
use mathlib.Core.Logic.{◌⊎◌, ⊎_elim}
use mathlib.Core.Path.{◌≡◌, refl, sym, ap, ap₂, subst, ◌∙◌}
use mathlib.Core.List.{List, [], ◌∷◌, ◌++◌, append_assoc}
use Prim.Native.Nat.{ℕ, zero, suc, ◌+◌, ◌*◌, ◌≤◌, ◌<◌}
use native.Mathlib.Omega.{arith}
use lib.ListN.{length, get_or, take, drop, length-append}
use lib.Seq.{get_or-drop, drop_at, drop-drop}
use Rattle.std.specs.Prelude.{Err}
use Rattle.octets.proofs.Pick.{pick_yes, pick_lt, pick_ge}
use Rattle.regions.specs.Region.{region_at, regions_of, listed}
use Rattle.sheet.specs.Entries.{parameter_at}
use Rattle.sheet.specs.Faults.{number_of}
use Rattle.sheet.specs.Kinds.{is_kind, size_of, misplaced_of}
use Rattle.sheet.specs.Reading.{body_of, record_of}
use Rattle.sheet.specs.Told.{reads, Verdict, faulty}
use Rattle.sheet.specs.Walk.{none, place_of, ended_of, onward, walk_of, verdict_of}
use Rattle.sheet.specs.declared.records.Counts.{Counts}
use Rattle.sheet.specs.declared.records.Fault.{Fault}
use Rattle.sheet.specs.declared.records.Fault.TheVariants.{Ended, Misplaced}
use Rattle.law.specs.Words.{Every, joined}
use Rattle.law.specs.Sheet.{Sheet, GoodRegion, GoodParameter, GoodItem, GoodRelease, WellFormed, IsOctet, region_octets, parameter_octets, item_octets, tolerance_octets, release_octets, written, room}
use Rattle.law.specs.Faults.{Sofar, nothing, records, before, GoodSofar, AfterEnd, RecordFault, FaultAt, FirstFault}
use Rattle.law.proofs.Checks.{same_number}
use Rattle.law.proofs.Readings.{area_at, param_at, regions_listed, behind_link}
use Rattle.law.proofs.Complete.{come_behind, behind_all, behind_items, behind_tolerance, ident_long}
use Rattle.law.proofs.Links.{kind_pdu}
use Rattle.law.proofs.Front.{read_sheet}
use Rattle.law.proofs.Place.{first_fault, later_fault}
use Rattle.law.proofs.PaperKinds.{ident_same}
use Rattle.law.proofs.Running.{Ends}
use Rattle.law.proofs.Layouts.{as_area, as_param, as_region, counts_for, ident_from}

module _ {A : Type 0} (f : A → List ℕ) (g : ℕ → A) (Good : A → Type 0) (size base : ℕ) (s : List ℕ) (long : (x : A) → Good x → length (f x) ≡ size)
    (is : (x : A) (t : List ℕ) (n : ℕ) → drop (base + size * n) s ≡ f x ++ t → Good x → g n ≡ x) where
  listed_back : (xs : List A) (t : List ℕ) (n : ℕ) → drop (base + size * n) s ≡ joined f xs ++ t → Every Good xs → listed g n (length xs) ≡ xs
  unfolding listed
  listed_back [] t n at p = refl
  listed_back (x ∷ xs) t n at p =
      let rest = joined f xs ++ t in
      let here : drop (base + size * n) s ≡ f x ++ rest = at ∙ append_assoc (f x) (joined f xs) t in
      let there : drop (base + size * suc n) s ≡ rest =
      ap (λ (i : ℕ). drop i s) (let e : base + size * suc n ≡ base + size * n + size = omega arith in e)
      ∙ sym (drop-drop size (base + size * n) s) ∙ ap (drop size) here ∙ drop_at (f x) rest size (long x p.0) in
      ap₂ ◌∷◌ (is x rest n here p.0) (listed_back xs t (suc n) there p.1)

  all_back : (xs : List A) (t : List ℕ) → drop base s ≡ joined f xs ++ t → Every Good xs → listed g 0 (length xs) ≡ xs
  all_back xs t at p = listed_back xs t 0 (ap (λ (i : ℕ). drop i s) (let e : base + size * 0 ≡ base = omega arith in e) ∙ at) p

ident_there : (s : List ℕ) (at : ℕ) → ident_from (drop at s) 0 ≡ ident_from s at
ident_there s at =
    let a = get_or-drop at s 1 0 in
    let b = get_or-drop at s 2 0 in
    let c = ap (take 32) (drop-drop 3 at s) in
    λ i. record { code = a i; length = b i; octets = c i }

-- a well-formed sheet is what is read of its own writing
pub read_back : (h : Sheet) (rest : List ℕ) → WellFormed h → read_sheet (written h rest) (counts_for h) ≡ h
read_back h rest w =
    let s = written h rest in
    let r = length h.regions in
    let p = length h.parameters in
    let tr : List ℕ = joined release_octets h.releases ++ rest in
    let tt : List ℕ = joined tolerance_octets h.tolerances ++ tr in
    let ti : List ℕ = joined item_octets h.items ++ tt in
    let tp : List ℕ = joined parameter_octets h.parameters ++ ti in
    let at_p : drop (4 + 10 * r) s ≡ tp = behind_all region_octets GoodRegion 10 (λ x g. refl) s 4 h.regions tp w.regions refl in
    let at-k : drop (4 + 10 * r + 8 * p) s ≡ ti =
    behind_all parameter_octets (GoodParameter h.regions) 8 (λ x g. refl) s (4 + 10 * r) h.parameters ti w.parameters at_p in
    let same : regions_of s r ≡ package.mathlib.Core.List.map as_region h.regions = regions_listed s h.regions tp 0 refl w.regions in
    let a = all_back region_octets (λ (i : ℕ). as_area (region_at s i)) GoodRegion 10 4 s (λ x g. refl) (λ x t n at g. ap as_area (area_at s x t n at g)) h.regions tp refl w.regions in
    let b = all_back parameter_octets (λ (j : ℕ). as_param (parameter_at s r j)) (GoodParameter h.regions) 8 (4 + 10 * r) s (λ x g. refl)
    (λ x t n at g. ap as_param (param_at s h.regions (room h.regions) same x t n at g)) h.parameters ti at_p w.parameters in
    let c = all_back item_octets (λ (k : ℕ). ident_from s (4 + 10 * r + 8 * p + 35 * k)) GoodItem 35 (4 + 10 * r + 8 * p) s ident_long
    (λ x t n at g. sym (ident_there s (4 + 10 * r + 8 * p + 35 * n)) ∙ ap (λ (l : List ℕ). ident_from l 0) at ∙ ident_same x t g.all32) h.items tt at-k w.items in
    let k = length h.items in
    let d = all_back tolerance_octets (λ (n : ℕ). get_or s (4 + 10 * r + 8 * p + 35 * k + 2 * n + 1) 0) (λ n. n ≤ 3) 2 (4 + 10 * r + 8 * p + 35 * k) s (λ x g. refl)
    (λ x t n at g. sym (get_or-drop (4 + 10 * r + 8 * p + 35 * k + 2 * n) s 1 0) ∙ ap (λ (l : List ℕ). get_or l 1 0) at) h.tolerances tr (behind_items h w rest) w.tolerances in
    let b₇ = 4 + 10 * r + 8 * p + 35 * k + 2 * length h.tolerances in
    let f = all_back release_octets (λ (n : ℕ). get_or s (b₇ + 2 * n + 1) 0) GoodRelease 2 b₇ s (λ x g. refl)
    (λ x t n at g. sym (get_or-drop (b₇ + 2 * n) s 1 0) ∙ ap (λ (l : List ℕ). get_or l 1 0) at) h.releases rest (behind_tolerance h w rest) w.releases in
    λ i. record { pdu = kind_pdu h.pdu i; l = h.l; version = h.version; profile = h.profile; regions = a i; parameters = b i; items = c i; tolerances = d i; releases = f i }

bad_ends : (s rest : List ℕ) (so : Counts) (f : Fault) → record_of s rest so ≡ Err f → Ends s (faulty f (place_of s rest)) rest so
unfolding walk_of onward
bad_ends s rest so f e zero h = absurd (omega arith)
bad_ends s rest so f e (suc n) h = rw e

after_ends : (s body : List ℕ) (so : Counts) → length (0 ∷ body) < length s → 1 ≤ length body → Ends s (faulty Misplaced (place_of s (0 ∷ body) + 1)) (0 ∷ body) so
unfolding walk_of onward body_of size_of is_kind misplaced_of ended_of
after_ends s body so l u zero h = absurd (omega arith)
after_ends s body so l u (suc n) h =
    let e : record_of s (0 ∷ body) so ≡ reads 1 so =
    behind_link s 0 1 body so l refl refl (pick_yes _ _ refl) (omega arith) ∙ pick_yes _ _ refl in
    let some : 1 < length (0 ∷ body) = omega arith in
    rw e (pick_yes _ _ refl ∙ pick_lt _ _ some)

after_end : (s rest : List ℕ) (so : Counts) → length rest < length s → get_or rest 0 0 ≡ 0 → 2 ≤ length rest → Ends s (faulty Misplaced (place_of s rest + 1)) rest so
after_end s [] so l z u = absurd (omega arith)
after_end s (x ∷ body) so l z u =
    subst (λ (y : ℕ). Ends s (faulty Misplaced (place_of s (y ∷ body) + 1)) (y ∷ body) so) (sym z) (after_ends s body so l (omega arith))

pub octets_behind : (xs t : List ℕ) → Every IsOctet (xs ++ t) → Every IsOctet t
octets_behind [] t o = o
octets_behind (x ∷ xs) t o = octets_behind xs t o.1

written_octets : (h : Sheet) (rest : List ℕ) → Every IsOctet (written h rest) → Every IsOctet rest
written_octets h rest o =
    octets_behind (joined release_octets h.releases) rest (octets_behind (joined tolerance_octets h.tolerances) _ (octets_behind (joined item_octets h.items) _ (octets_behind (joined parameter_octets h.parameters) _ (octets_behind (joined region_octets h.regions) _ o.1.1.1.1))))

written_longer : (h : Sheet) (rest : List ℕ) → length rest < length (written h rest)
written_longer h rest =
    let tr : List ℕ = joined release_octets h.releases ++ rest in
    let tt : List ℕ = joined tolerance_octets h.tolerances ++ tr in
    let ti : List ℕ = joined item_octets h.items ++ tt in
    let e = length-append (joined release_octets h.releases) rest in
    let d = length-append (joined tolerance_octets h.tolerances) tr in
    let a = length-append (joined item_octets h.items) tt in
    let b = length-append (joined parameter_octets h.parameters) ti in
    let c = length-append (joined region_octets h.regions) (joined parameter_octets h.parameters ++ ti) in
    omega (arith, a, b, c, d, e)

exact_at : (x : Sofar) (rest : List ℕ) (f : Fault) (place : ℕ) → GoodSofar x → Every IsOctet (before x rest) → length (before x rest) ≤ 2048
    → ((place + length rest ≡ length (before x rest)) × RecordFault x rest (number_of f))
    ⊎ (AfterEnd x rest × (number_of f ≡ 13) × (place + length rest ≡ length (before x rest) + 1))
    → verdict_of (before x rest) ≡ faulty f place
unfolding verdict_of number_of
exact_at nothing rest f place good o short which =
    ⊎_elim
    (λ (c : (place + length rest ≡ length rest) × RecordFault nothing rest (number_of f)).
    let e : place_of rest rest ≡ place = omega (arith, c.0) in
    pick_ge _ _ short
    ∙ bad_ends rest rest none f ((first_fault rest rest o f refl).1 c.1) (suc (length rest)) (omega arith)
    ∙ ap (faulty f) e)
    (λ (c : ⊥ × (number_of f ≡ 13) × (place + length rest ≡ length rest + 1)). absurd c.0)
    which
exact_at (records h) rest f place good o short which =
    let s = written h rest in
    let so = counts_for h in
    let back = read_back h rest good in
    let longer = written_longer h rest in
    ⊎_elim
    (λ (c : (place + length rest ≡ length s) × RecordFault (records h) rest (number_of f)).
    let e : place_of s rest ≡ place = omega (arith, c.0) in
    let bad : record_of s rest so ≡ Err f =
    (later_fault s rest (written_octets h rest o) f so (subst WellFormed (sym back) good) (ap (λ (x : Sheet). room x.regions) back)
    (λ (q : length rest ≡ length s). omega arith)).1
    (subst (λ (x : Sheet). RecordFault (records x) rest (number_of f)) (sym back) c.1) in
    come_behind h good rest (faulty f place) short (subst (λ (k : ℕ). Ends s (faulty f k) rest so) e (bad_ends s rest so f bad)))
    (λ (c : ((get_or rest 0 0 ≡ 0) × (2 ≤ length rest)) × (number_of f ≡ 13) × (place + length rest ≡ length s + 1)).
    let e : place_of s rest + 1 ≡ place = omega (arith, c.2) in
    let g : Misplaced ≡ f = same_number (sym c.1) in
    come_behind h good rest (faulty f place) short
    (subst (λ (v : Verdict). Ends s v rest so) (ap₂ faulty g e) (after_end s rest so longer c.0.0 c.0.1)))
    which

pub told_fault : (s : List ℕ) (f : Fault) (place : ℕ) → Every IsOctet s → FirstFault s (number_of f) place → verdict_of s ≡ faulty f place
unfolding verdict_of number_of
told_fault s f place o t =
    ⊎_elim
    (λ (c : (2048 < length s) × (number_of f ≡ 11) × (place ≡ 0)).
    let g : Ended ≡ f = same_number (sym c.1) in
    pick_lt _ _ c.0 ∙ ap₂ faulty g (sym c.2))
    (λ (c : (length s ≤ 2048) × FaultAt s (number_of f) place).
    let q = c.1 in
    let e = q.split in
    ap verdict_of e
    ∙ exact_at q.sofar q.rest f place q.good (subst (λ (l : List ℕ). Every IsOctet l) e o) (subst (λ (l : List ℕ). length l ≤ 2048) e c.0)
    (subst (λ (l : List ℕ). ((place + length q.rest ≡ length l) × RecordFault q.sofar q.rest (number_of f))
    ⊎ (AfterEnd q.sofar q.rest × (number_of f ≡ 13) × (place + length q.rest ≡ length l + 1))) e q.which))
    t
