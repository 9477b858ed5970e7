-- A well-formed sheet's own octets, and a memory of its length.
use mathlib.Core.Bool.{Bool, ◌||◌}
use mathlib.Core.Logic.{⊎_elim}
use mathlib.Core.Path.{◌≡◌, refl, sym, ap, subst, ◌∙◌}
use mathlib.Core.List.{List, [], ◌∷◌, ◌++◌, map}
use Prim.Native.Nat.{ℕ, zero, suc, ◌+◌, ◌-◌, ◌*◌, ◌≤◌}
use native.Mathlib.Omega.{arith}
use borrow.Author.Tests.{eq-eqb, ne_eqb}
use lib.Dec.{eqb}
use lib.ListN.{length, get_or, take, drop}
use lib.Seq.{drop-drop}
use Rattle.std.specs.Prelude.{Some}
use Rattle.std.proofs.lemmas.Bool.{true≢false, or_left}
use Rattle.std.proofs.lemmas.List.{take-take}
use Rattle.octets.specs.Parts.{part}
use Rattle.octets.proofs.Cases.{eq_or_ne}
use Rattle.octets.proofs.Pick.{pick_eq, pick_ne}
use Rattle.law.specs.Words.{Every, joined, one_of}
use Rattle.law.specs.Sheet.{Item as Ident, Sheet, GoodItem, WellFormed, FiveLengths, room, sheet_octets, parameter_octets, item_octets, tolerance_octets, release_octets}
use Rattle.law.specs.Memory.{mapped}
use Rattle.law.specs.Table.{item_of as ident_of}
use Rattle.law.proofs.Readings.{regions_listed}
use Rattle.law.proofs.Exact.{read_back}
use Rattle.law.proofs.Front.{read_sheet}
use Rattle.law.proofs.Cuts.{drop_take}
use Rattle.regions.specs.Region.{listed}
use Rattle.sheet.specs.Entries.{parameter_at, item_at, item_from, items_of, sought}
use Rattle.sheet.specs.declared.entries.Parameter.{Parameter}
use Rattle.law.proofs.Links.{good_five}
use Rattle.law.proofs.Laid.{when_yes, when_no}
use Rattle.law.proofs.Held.{length_cells, apart_good, reads_same, writes_same}
use Rattle.law.proofs.Rises.{every_weaker}
use Rattle.law.proofs.World.{ItemSame, World, mapped_is}
use Rattle.law.proofs.Spans.{all_span}
use Rattle.regions.specs.declared.Right.TheVariants.{Mapped}
use Rattle.law.proofs.Layouts.{as_param, as_parameter, counts_for, ident_from}

parameters_back : (f : ℕ → Parameter) (k m : ℕ) → map as_parameter (listed (λ (j : ℕ). as_param (f j)) k m) ≡ listed f k m
unfolding listed
parameters_back f k zero = refl
parameters_back f k (suc m) = ap (λ (l : List Parameter). f k ∷ l) (parameters_back f (suc k) m)

own_octets : (s : List ℕ) (b o k : ℕ) → o + k ≤ 32 → part s (b + o) k ≡ take k (drop o (take 32 (drop b s)))
unfolding part
own_octets s b o k h =
    ap (take k) (sym (drop-drop o b s)) ∙ sym (take-take k (32 - o) (drop o (drop b s)) (omega arith)) ∙ ap (take k) (sym (drop_take o 32 (drop b s)))

items_same : (s : List ℕ) (r p k m n : ℕ) → Every (λ (i : Ident). i.length ≤ 32) (listed (λ (k : ℕ). ident_from s (4 + 10 * r + 8 * p + 35 * k)) k m)
    → ItemSame (listed (item_at s r p) k m) (listed (λ (k : ℕ). ident_from s (4 + 10 * r + 8 * p + 35 * k)) k m) s n
unfolding listed sought ident_of item_from
items_same s r p k zero n g = record { at = 0; found = λ e. cc; missing = λ e. refl; own = λ e. cc }
items_same s r p k (suc m) n g =
    let b = 4 + 10 * r + 8 * p + 35 * k in
    let x = ident_from s b in
    let xs = listed (λ (k : ℕ). ident_from s (4 + 10 * r + 8 * p + 35 * k)) (suc k) m in
    let rest = one_of n (map (λ (i : Ident). i.code) xs) in
    ⊎_elim (λ (q : get_or s (b + 1) 0 ≡ n).
    let is : ident_of (x ∷ xs) n ≡ x = when_yes _ _ (eq-eqb (get_or s (b + 1) 0) n q) in
    record {
      at = b + 3;
      found = λ e. pick_eq _ _ q ∙ (λ i. Some (record { code = q i; length = (sym is i).length; at = b + 3 }));
      missing = λ e. absurd (true≢false (sym (or_left _ rest (eq-eqb n (get_or s (b + 1) 0) (sym q))) ∙ e));
      own = λ e o k l.
          let w : (ident_of (x ∷ xs) n).length ≡ x.length = ap (λ (i : Ident). i.length) is in
          let v = g.0 in
          own_octets s (b + 3) o k (omega arith) ∙ ap (λ (i : Ident). take k (drop o i.octets)) (sym is);
    })
    (λ (q : get_or s (b + 1) 0 ≡ n → ⊥).
    let t = items_same s r p (suc k) m n g.1 in
    let is : ident_of (x ∷ xs) n ≡ ident_of xs n = when_no _ _ (ne_eqb (get_or s (b + 1) 0) n q) in
    let off : eqb n (get_or s (b + 1) 0) || rest ≡ rest = ap (λ (t : Bool). t || rest) (ne_eqb n (get_or s (b + 1) 0) (λ z. q (sym z))) in
    record {
      at = t.at;
      found = λ e. pick_ne _ _ q ∙ t.found (sym off ∙ e) ∙ (λ i. Some (record { code = n; length = (sym is i).length; at = t.at }));
      missing = λ e. pick_ne _ _ q ∙ t.missing (sym off ∙ e);
      own = λ e o k l.
          t.own (sym off ∙ e) o k (subst (λ (i : Ident). o + k ≤ i.length) is l) ∙ ap (λ (i : Ident). take k (drop o i.octets)) (sym is);
    })
    (eq_or_ne (get_or s (b + 1) 0) n)

pub least : (l : ℕ) → FiveLengths l → 8 ≤ l
least l h = grind arith

pub few_first : (ts : List ℕ) → Every (λ (n : ℕ). n ≤ 3) ts → get_or ts 0 0 ≤ 3
few_first [] e = omega arith
few_first (t ∷ ts) e = e.0

pub world_of : (h : Sheet) → WellFormed h → (m : List ℕ) → length m ≡ room h.regions → World h (sheet_octets h) m
world_of h w m e =
    let s = sheet_octets h in
    let r = length h.regions in
    let p = length h.parameters in
    let k = length h.items in
    let back : read_sheet s (counts_for h) ≡ h = read_back h (0 ∷ []) w in
    let ids : listed (λ (k : ℕ). ident_from s (4 + 10 * r + 8 * p + 35 * k)) 0 k ≡ h.items = ap (λ (x : Sheet). x.items) back in
    let apart = apart_good h.regions w.regions w.apart in
    let whole = e ∙ sym (length_cells h.regions) in
    record {
      regions = regions_listed s h.regions (joined parameter_octets h.parameters ++ (joined item_octets h.items ++ (joined tolerance_octets h.tolerances ++ (joined release_octets h.releases ++ 0 ∷ [])))) 0 refl w.regions;
      parameters = sym (parameters_back (parameter_at s r) 0 p) ∙ ap (λ (x : Sheet). map as_parameter x.parameters) back;
      items = λ n. subst (λ (l : List Ident). ItemSame (items_of s r p k) l s n) ids
          (items_same s r p 0 k n (subst (λ (l : List Ident). Every (λ (i : Ident). i.length ≤ 32) l) (sym ids) (every_weaker GoodItem (λ (i : Ident). i.length ≤ 32) (λ i g. g.most) h.items w.items)));
      long = least h.l (good_five h.pdu h.l w.l);
      few = few_first h.tolerances w.tolerances;
      whole = whole;
      reads = λ a n q. reads_same h.regions apart m whole a n (sym (all_span mapped Mapped mapped_is h.regions a n) ∙ q);
      writes = λ a n o q l. writes_same h.regions apart m whole a n (sym (all_span mapped Mapped mapped_is h.regions a n) ∙ q) o l;
    }
