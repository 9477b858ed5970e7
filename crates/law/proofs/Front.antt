-- The octets that the walk has read are the writing of a well-formed sheet.
use mathlib.Core.Bool.{true}
use mathlib.Core.Logic.{⊎_elim}
use mathlib.Core.Path.{◌≡◌, sym, ap, ap₂, subst, ◌∙◌}
use mathlib.Core.List.{List, ◌∷◌, ◌++◌}
use Prim.Native.Nat.{ℕ, suc, ◌+◌, ◌-◌, ◌*◌, ◌≤◌, ◌<◌}
use native.Mathlib.Omega.{arith}
use lib.ListN.{length, get_or, take, drop, length-drop}
use lib.Seq.{get_or-drop, drop-drop, length-take-le}
use Rattle.octets.specs.Parts.{all_zero}
use Rattle.octets.proofs.Cases.{eq_or_ne}
use Rattle.octets.proofs.Pick.{pick_eq, pick_ne}
use Rattle.regions.specs.Region.{region_from, region_at, regions_of, listed}
use Rattle.regions.specs.declared.Region.{Region}
use Rattle.regions.specs.declared.Right.TheVariants.{Mapped}
use Rattle.regions.proofs.Spans.{all_before}
use Rattle.sheet.specs.Entries.{parameter_from, parameter_at, item_from}
use Rattle.sheet.specs.Kinds.{length_fits}
use Rattle.sheet.specs.Reading.{tail_of}
use Rattle.sheet.specs.Walk.{tolerance_in, release_in, layout_of}
use Rattle.sheet.specs.Sound.{Sound, behind}
use Rattle.sheet.specs.declared.entries.Parameter.{Parameter}
use Rattle.sheet.specs.declared.records.Counts.{Counts}
use Rattle.sheet.proofs.Steps.{region_there, parameter_there}
use Rattle.law.specs.Words.{Every, joined, octet}
use Rattle.law.specs.Sheet.{Item as Ident, Sheet, GoodRegion, GoodParameter, GoodItem, GoodRelease, WellFormed, IsOctet, region_octets, parameter_octets, item_octets, tolerance_octets, release_octets, written}
use Rattle.law.proofs.Written.{opened}
use Rattle.law.proofs.Marks.{Marked}
use Rattle.law.proofs.Layouts.{layout_for, release_for, as_area, as_param, ident_from}
use Rattle.law.proofs.Links.{pdu_of, link_there, form_read, length_there}
use Rattle.law.proofs.Listed.{every_listed, row_listed, length_listed, all_listed}
use Rattle.law.proofs.Cuts.{cut_area, cut_param, cut_ident, cut_tolerance, cut_release, zeros_back, drop_take, grants_has, sum_listed, octet_at, octets_drop, octets_take, listed_none, listed_first}

-- the sheet that the first records of octets are
abbrev pub read_sheet : List ℕ → Counts → Sheet
read_sheet s so = record {
  pdu = pdu_of (get_or s 0 0);
  l = get_or s 1 0;
  version = get_or s 2 0;
  profile = get_or s 3 0;
  regions = listed (λ (i : ℕ). as_area (region_at s i)) 0 so.regions;
  parameters = listed (λ (j : ℕ). as_param (parameter_at s so.regions j)) 0 so.parameters;
  items = listed (λ (k : ℕ). ident_from s (4 + 10 * so.regions + 8 * so.parameters + 35 * k)) 0 so.items;
  tolerances = listed (λ (n : ℕ). get_or s (4 + 10 * so.regions + 8 * so.parameters + 35 * so.items + 2 * n + 1) 0) 0 so.tolerances;
  releases = listed (λ (n : ℕ). get_or s (4 + 10 * so.regions + 8 * so.parameters + 35 * so.items + 2 * so.tolerances + 2 * n + 1) 0) 0 so.releases;
}

module _ (s : List ℕ) (octs : Every IsOctet s) where
  o : (i : ℕ) → get_or s i 0 < 256
  o = octet_at s octs

  od : (at i : ℕ) → get_or (drop at s) i 0 < 256
  od at = octet_at (drop at s) (octets_drop at s octs)

  first_of : (at : ℕ) → get_or (drop at s) 0 0 ≡ get_or s at 0
  first_of at = get_or-drop at s 0 0 ∙ ap (λ (i : ℕ). get_or s i 0) (let e : at + 0 ≡ at = omega arith in e)

  -- each record of the sheet, at its place
  area_cut : (at : ℕ) → at + 10 ≤ length s → get_or s at 0 ≡ 2 → drop at s ≡ region_octets (as_area (region_from s at)) ++ drop (at + 10) s
  area_cut at h k =
      let d = length-drop at s in
      cut_area (drop at s) (od at) (omega arith) (first_of at ∙ k)
      ∙ ap₂ (λ (r : Region) (t : List ℕ). region_octets (as_area r) ++ t) (region_there s at) (drop-drop 10 at s)

  param_cut : (at : ℕ) → at + 8 ≤ length s → get_or s at 0 ≡ 3 → drop at s ≡ parameter_octets (as_param (parameter_from s at)) ++ drop (at + 8) s
  param_cut at h k =
      let d = length-drop at s in
      cut_param (drop at s) (od at) (omega arith) (first_of at ∙ k)
      ∙ ap₂ (λ (p : Parameter) (t : List ℕ). parameter_octets (as_param p) ++ t) (parameter_there s at) (drop-drop 8 at s)

  ident_there : (at : ℕ) → ident_from (drop at s) 0 ≡ ident_from s at
  ident_there at =
      let a = get_or-drop at s 1 0 in
      let b = get_or-drop at s 2 0 in
      let c = ap (take 32) (drop-drop 3 at s) in
      λ i. record { code = a i; length = b i; octets = c i }

  ident_cut : (at : ℕ) → at + 35 ≤ length s → get_or s at 0 ≡ 4 → drop at s ≡ item_octets (ident_from s at) ++ drop (at + 35) s
  ident_cut at h k =
      let d = length-drop at s in
      cut_ident (drop at s) (od at) (omega arith) (first_of at ∙ k)
      ∙ ap₂ (λ (p : Ident) (t : List ℕ). item_octets p ++ t) (ident_there at) (drop-drop 35 at s)

  tolerance_cut : (at : ℕ) → at + 2 ≤ length s → get_or s at 0 ≡ 6 → drop at s ≡ tolerance_octets (get_or s (at + 1) 0) ++ drop (at + 2) s
  tolerance_cut at h k =
      let d = length-drop at s in
      cut_tolerance (drop at s) (od at) (omega arith) (first_of at ∙ k)
      ∙ ap₂ (λ (n : ℕ) (t : List ℕ). tolerance_octets n ++ t) (get_or-drop at s 1 0) (drop-drop 2 at s)

  release_cut : (at : ℕ) → at + 2 ≤ length s → get_or s at 0 ≡ 7 → drop at s ≡ release_octets (get_or s (at + 1) 0) ++ drop (at + 2) s
  release_cut at h k =
      let d = length-drop at s in
      cut_release (drop at s) (od at) (omega arith) (first_of at ∙ k)
      ∙ ap₂ (λ (n : ℕ) (t : List ℕ). release_octets n ++ t) (get_or-drop at s 1 0) (drop-drop 2 at s)

  module _ (so : Counts) (at : ℕ) (ok : Sound s at so) (mk : Marked s at so) (here : at ≡ behind so) (inside : at ≤ length s)
      (fits : length_fits (get_or s 0 0) (get_or s 1 0) ≡ true) where
    good_area : (i : ℕ) → i < so.regions → GoodRegion (as_area (region_at s i))
    unfolding region_from
    good_area i h =
        let g = ok.regions_fine i h in
        let b = 4 + 10 * i in
        let o₁ = o (b + 5) in
        let o₂ = o (b + 5 + 1) in
        let o₃ = o (b + 5 + 2) in
        let o₄ = o (b + 5 + 3) in
        record { start = omega (arith, g.some, g.ends); length = omega arith; least = g.some; ends = g.ends; bits = g.bits }

    good_param : (j : ℕ) → j < so.parameters → GoodParameter (read_sheet s so).regions (as_param (parameter_at s so.regions j))
    unfolding parameter_from
    good_param j h =
        let g = ok.parameters_fine j h in
        let p = parameter_at s so.regions j in
        let b = 4 + 10 * so.regions + 8 * j in
        let n₁ = o (b + 1) in
        let n₂ = o (b + 1 + 1) in
        let o₁ = o (b + 3) in
        let o₂ = o (b + 3 + 1) in
        let o₃ = o (b + 3 + 2) in
        let o₄ = o (b + 3 + 3) in
        record {
          number = omega (arith, n₁, n₂);
          address = omega (arith, o₁, o₂, o₃, o₄);
          least = g.some;
          most = g.most;
          spans = λ a l u. grants_has (region_at s) 0 so.regions a (all_before (regions_of s so.regions) Mapped p.address p.size g.mapped a l u);
        }

    good_ident : (k : ℕ) → k < so.items → GoodItem (ident_from s (4 + 10 * so.regions + 8 * so.parameters + 35 * k))
    unfolding item_from
    good_ident k h =
        let g = ok.items_fine k h in
        let b = 4 + 10 * so.regions + 8 * so.parameters + 35 * k in
        let z = get_or s (b + 2) 0 in
        let d = length-drop (b + 3) s in
        let e : tail_of (drop b s) ≡ drop z (take 32 (drop (b + 3) s)) =
        ap (λ (n : ℕ). take (32 - n) (drop (3 + n) (drop b s))) (get_or-drop b s 2 0)
        ∙ ap (take (32 - z)) (sym (drop-drop z 3 (drop b s)) ∙ ap (drop z) (drop-drop 3 b s))
        ∙ sym (drop_take z 32 (drop (b + 3) s)) in
        record {
          code = o (b + 1);
          least = g.some;
          most = g.most;
          all32 = length-take-le 32 (drop (b + 3) s) (omega arith);
          octets = octets_take 32 (drop (b + 3) s) (octets_drop (b + 3) s octs);
          zeros = zeros_back _ (ap all_zero (sym e) ∙ (mk.items k h).1);
        }

    rising : (i : ℕ) → suc i < so.items
        → (ident_from s (4 + 10 * so.regions + 8 * so.parameters + 35 * i)).code < (ident_from s (4 + 10 * so.regions + 8 * so.parameters + 35 * suc i)).code
    unfolding item_from
    rising i h = ok.items_rise i h

    good_tolerance : (n : ℕ) → n < so.tolerances → get_or s (4 + 10 * so.regions + 8 * so.parameters + 35 * so.items + 2 * n + 1) 0 ≤ 3
    good_tolerance n h =
        let few = ok.few_tolerances in
        subst (λ (i : ℕ). get_or s i 0 ≤ 3)
        (let e : 5 + 10 * so.regions + 8 * so.parameters + 35 * so.items ≡ 4 + 10 * so.regions + 8 * so.parameters + 35 * so.items + 2 * n + 1 = omega arith in e)
        (ok.tolerance_fine (omega arith))

    good_release : (n : ℕ) → n < so.releases → GoodRelease (get_or s (4 + 10 * so.regions + 8 * so.parameters + 35 * so.items + 2 * so.tolerances + 2 * n + 1) 0)
    good_release n h =
        let few = ok.few_releases in
        subst (λ (i : ℕ). GoodRelease (get_or s i 0))
        (let e : 5 + 10 * so.regions + 8 * so.parameters + 35 * so.items + 2 * so.tolerances ≡ 4 + 10 * so.regions + 8 * so.parameters + 35 * so.items + 2 * so.tolerances + 2 * n + 1 = omega arith in e)
        (ok.release_fine (omega arith))

    pub front_good : WellFormed (read_sheet s so)
    front_good =
        let r = so.regions in
        let p = so.parameters in
        let k = so.items in
        record {
          l = length_there (get_or s 0 0) (get_or s 1 0) fits;
          version = o 2;
          profile = o 3;
          regions = every_listed _ GoodRegion 0 r (λ i l u. good_area i (omega arith));
          parameters = every_listed _ (GoodParameter (read_sheet s so).regions) 0 p (λ i l u. good_param i (omega arith));
          items = every_listed _ GoodItem 0 k (λ i l u. good_ident i (omega arith));
          apart = row_listed _ _ r (λ i h. ok.regions_rise i h);
          numbers_rise = row_listed _ _ p (λ i h. ok.parameters_rise i h);
          codes_rise = row_listed _ _ k rising;
          few_regions = (rw (length_listed (λ (i : ℕ). as_area (region_at s i)) 0 r) ok.few_regions, let e = sum_listed (region_at s) 0 r in omega (arith, e, ok.memory_sum, ok.memory_room));
          few_parameters = rw (length_listed (λ (j : ℕ). as_param (parameter_at s r j)) 0 p) ok.few_parameters;
          few_items = rw (length_listed (λ (j : ℕ). ident_from s (4 + 10 * r + 8 * p + 35 * j)) 0 k) ok.few_items;
          tolerances = every_listed _ (λ n. n ≤ 3) 0 so.tolerances (λ i l u. good_tolerance i (omega arith));
          releases = every_listed _ GoodRelease 0 so.releases (λ i l u. good_release i (omega arith));
          once = rw (length_listed (λ (n : ℕ). get_or s (4 + 10 * r + 8 * p + 35 * k + 2 * n + 1) 0) 0 so.tolerances) ok.few_tolerances;
          picked_once = rw (length_listed (λ (n : ℕ). get_or s (4 + 10 * r + 8 * p + 35 * k + 2 * so.tolerances + 2 * n + 1) 0) 0 so.releases) ok.few_releases;
        }

    pub front_written : s ≡ written (read_sheet s so) (drop at s)
    unfolding listed
    front_written =
        let r = so.regions in
        let p = so.parameters in
        let k = so.items in
        let q = so.tolerances in
        let a : drop 4 s ≡ joined region_octets (read_sheet s so).regions ++ drop (4 + 10 * r) s =
        all_listed _ region_octets s 4 10 r (λ i h. area_cut (4 + 10 * i) (omega arith) (mk.regions i h)) in
        let b : drop (4 + 10 * r) s ≡ joined parameter_octets (read_sheet s so).parameters ++ drop (4 + 10 * r + 8 * p) s =
        all_listed _ parameter_octets s (4 + 10 * r) 8 p (λ i h. param_cut (4 + 10 * r + 8 * i) (omega arith) (mk.parameters i h)) in
        let c : drop (4 + 10 * r + 8 * p) s ≡ joined item_octets (read_sheet s so).items ++ drop (4 + 10 * r + 8 * p + 35 * k) s =
        all_listed _ item_octets s (4 + 10 * r + 8 * p) 35 k (λ i h. ident_cut (4 + 10 * r + 8 * p + 35 * i) (omega arith) (mk.items i h).0) in
        let d : drop (4 + 10 * r + 8 * p + 35 * k) s ≡ joined tolerance_octets (read_sheet s so).tolerances ++ drop (4 + 10 * r + 8 * p + 35 * k + 2 * q) s =
        all_listed _ tolerance_octets s (4 + 10 * r + 8 * p + 35 * k) 2 q (λ i h. tolerance_cut (4 + 10 * r + 8 * p + 35 * k + 2 * i) (omega arith) (mk.tolerances i h)) in
        let f : drop (4 + 10 * r + 8 * p + 35 * k + 2 * q) s ≡ joined release_octets (read_sheet s so).releases ++ drop (behind so) s =
        all_listed _ release_octets s (4 + 10 * r + 8 * p + 35 * k + 2 * q) 2 so.releases
        (λ i h. release_cut (4 + 10 * r + 8 * p + 35 * k + 2 * q + 2 * i) (omega arith) (mk.releases i h)) in
        let e : drop (behind so) s ≡ drop at s = ap (λ (i : ℕ). drop i s) (sym here) in
        opened s 0 4 (omega arith)
        ∙ ap₂ (λ (x : ℕ) (t : List ℕ). x ∷ get_or s 1 0 ∷ get_or s 2 0 ∷ get_or s 3 0 ∷ t) (link_there (get_or s 0 0) (mk.link (omega arith)))
        (a ∙ ap (λ (t : List ℕ). joined region_octets (read_sheet s so).regions ++ t)
        (b ∙ ap (λ (t : List ℕ). joined parameter_octets (read_sheet s so).parameters ++ t)
        (c ∙ ap (λ (t : List ℕ). joined item_octets (read_sheet s so).items ++ t)
        (d ∙ ap (λ (t : List ℕ). joined tolerance_octets (read_sheet s so).tolerances ++ t)
        (f ∙ ap (λ (t : List ℕ). joined release_octets (read_sheet s so).releases ++ t) e)))))

    tolerance_read : tolerance_in s so ≡ octet (read_sheet s so).tolerances 0
    unfolding tolerance_in
    tolerance_read =
        let g : ℕ → ℕ = λ n. get_or s (4 + 10 * so.regions + 8 * so.parameters + 35 * so.items + 2 * n + 1) 0 in
        ⊎_elim
        (λ (z : so.tolerances ≡ 0). pick_eq _ _ z ∙ sym (ap (λ (n : ℕ). octet (listed g 0 n) 0) z ∙ listed_none g 0))
        (λ (z : so.tolerances ≡ 0 → ⊥).
        pick_ne _ _ z
        ∙ ap (λ (i : ℕ). get_or s i 0)
        (let e : 5 + 10 * so.regions + 8 * so.parameters + 35 * so.items ≡ 4 + 10 * so.regions + 8 * so.parameters + 35 * so.items + 2 * 0 + 1 = omega arith in e)
        ∙ sym (listed_first g so.tolerances 0 (omega arith)))
        (eq_or_ne so.tolerances 0)

    release_read : release_in s so ≡ release_for (read_sheet s so)
    unfolding release_in
    release_read =
        let b = 4 + 10 * so.regions + 8 * so.parameters + 35 * so.items + 2 * so.tolerances in
        let g : ℕ → ℕ = λ n. get_or s (b + 2 * n + 1) 0 in
        ⊎_elim
        (λ (z : so.releases ≡ 0). pick_eq _ _ z ∙ sym (ap (λ (n : ℕ). get_or (listed g 0 n) 0 1) z ∙ listed_none g 1))
        (λ (z : so.releases ≡ 0 → ⊥).
        pick_ne _ _ z
        ∙ ap (λ (i : ℕ). get_or s i 0) (let e : 5 + 10 * so.regions + 8 * so.parameters + 35 * so.items + 2 * so.tolerances ≡ b + 2 * 0 + 1 = omega arith in e)
        ∙ sym (listed_first g so.releases 1 (omega arith)))
        (eq_or_ne so.releases 0)

    pub layout_read : layout_of s so ≡ layout_for (read_sheet s so)
    unfolding layout_of
    layout_read =
        let r = so.regions in
        let p = so.parameters in
        let k = so.items in
        let a = sym (length_listed (λ (i : ℕ). as_area (region_at s i)) 0 r) in
        let b = sym (length_listed (λ (j : ℕ). as_param (parameter_at s r j)) 0 p) in
        let c = sym (length_listed (λ (j : ℕ). ident_from s (4 + 10 * r + 8 * p + 35 * j)) 0 k) in
        let t = sym (length_listed (λ (n : ℕ). get_or s (4 + 10 * r + 8 * p + 35 * k + 2 * n + 1) 0) 0 so.tolerances) in
        let q = so.tolerances in
        let n = sym (length_listed (λ (n : ℕ). get_or s (4 + 10 * r + 8 * p + 35 * k + 2 * q + 2 * n + 1) 0) 0 so.releases) in
        let v = tolerance_read in
        let w = release_read in
        let m = ok.memory_sum ∙ sym (sum_listed (region_at s) 0 r) in
        λ i. record { form = form_read (get_or s 0 0) i; l = get_or s 1 0; version = get_or s 2 0; profile = get_or s 3 0; regions = a i; parameters = b i; items = c i; tolerances = t i; tolerance = v i; releases = n i; release = w i; memory = m i }
