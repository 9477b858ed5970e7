-- The checks before a record's own, and the theorem: what the walk tells of a faulty sheet is what the paper tells.
use mathlib.Core.Bool.{Bool, true, false, not, true≢false}
use mathlib.Core.Logic.{inl, inr, ⊎_elim, ◌↔◌}
use mathlib.Core.Path.{◌≡◌, refl, sym, ap, ap₂, subst, ◌∙◌}
use mathlib.Core.List.{List, ◌++◌}
use Prim.Native.Nat.{ℕ, ◌+◌, ◌*◌, ◌≤◌, ◌<◌}
use native.Mathlib.Omega.{arith}
use borrow.Author.Tests.{eqb-true, eqb-false, ltb-true, ltb-false, eq-eqb, ne_eqb, not-false}
use lib.Dec.{eqb, ltb}
use lib.ListN.{length, get_or, drop, length-drop}
use lib.Seq.{length-take-le}
use Rattle.std.specs.Prelude.{Err}
use Rattle.octets.proofs.Cases.{decided, eq_or_ne}
use Rattle.octets.proofs.Pick.{pick_yes, pick_no, pick_eq, pick_ne, pick_key}
use Rattle.regions.specs.Region.{region_from, region_at}
use Rattle.sheet.specs.Entries.{parameter_from, parameter_at}
use Rattle.sheet.specs.Faults.{number_of}
use Rattle.sheet.specs.Kinds.{is_kind, is_link, length_fits, size_of, misplaced_of}
use Rattle.sheet.specs.Reading.{link_of, region_of, parameter_of, item_of, tolerance_of, release_of, body_of, record_of}
use Rattle.sheet.specs.Sound.{Sound}
use Rattle.sheet.specs.Told.{faulty}
use Rattle.sheet.specs.Walk.{none, place_of, ended_of, verdict_of}
use Rattle.sheet.specs.declared.records.Counts.{Counts}
use Rattle.sheet.specs.declared.records.Fault.{Fault}
use Rattle.sheet.specs.declared.records.Fault.TheVariants.{Ended, Unknown, Misplaced, Range}
use Rattle.sheet.specs.declared.records.Flaw.{Flaw}
use Rattle.sheet.proofs.Onward.{in_place, last_kind, link_begins}
use Rattle.law.specs.Words.{Every}
use Rattle.law.specs.Sheet.{PduType, Region as Area, Parameter as Param, Item as Ident, WellFormed, GoodLength, link_kind, IsOctet, region_octets, parameter_octets, item_octets, tolerance_octets, release_octets, written, room}
use Rattle.law.specs.Faults.{RegionFault, ParameterFault, ItemFault, ToleranceFault, ReleaseFault, nothing, records, InPlace, record_length, BodyFault, RecordFault, FirstFault}
use Rattle.law.proofs.Checks.{decides, passes, no_more}
use Rattle.law.proofs.Links.{pdu_of, link_back, link_there, no_link, not_link, length_back, length_there}
use Rattle.law.proofs.RecordFaults.{area_fault, param_fault, ident_fault, tolerance_fault, release_fault}
use Rattle.law.proofs.Front.{read_sheet, front_good, front_written}
use Rattle.law.proofs.Cuts.{cut_area, cut_param, cut_ident, cut_tolerance, cut_release, octet_at, octets_drop, sum_listed}
use Rattle.law.proofs.Sound.{reached, end_later}
use Rattle.law.proofs.Layouts.{as_area, as_param, ident_from}
use Rattle.law.proofs.Listed.{length_listed}
use Rattle.law.proofs.PaperKinds.{size_same, kind_there, kind_back, place_in, area_same, param_same, ident_same, region_fits, parameter_fits}

module _ (s rest : List ℕ) (octs : Every IsOctet rest) (fault : Fault) where
  pub first_fault : length rest ≡ length s → (record_of s rest none ≡ Err fault) ↔ RecordFault nothing rest (number_of fault)
  unfolding record_of misplaced_of body_of link_of number_of
  first_fault z =
      let kind = get_or rest 0 0 in
      let t : eqb (length rest) (length s) ≡ true = eq-eqb (length rest) (length s) z in
      decides _ Ended _ refl (λ b q. let l = eqb-true (length rest) 0 b in omega arith) (λ b₁.
      let l = eqb-false (length rest) 0 b₁ in
      passes (omega arith)
      (decides _ Unknown _ refl (λ b q. true≢false (sym b ∙ ap not (kind_back kind q))) (λ b₂.
      let known = kind_there kind (not-false _ b₂) in
      passes known
      (decides _ Misplaced _ refl
      (λ b (q : InPlace nothing kind). true≢false (sym b ∙ ap (λ (x : Bool). misplaced_of x kind none) t ∙ ap not (ap is_link q.1 ∙ link_back q.0))) (λ b₃.
      let link : is_link kind ≡ true = not-false _ (sym (ap (λ (x : Bool). misplaced_of x kind none) t) ∙ b₃) in
      let size = size_same kind known in
      passes (pdu_of kind, link_there kind link)
      (decides _ Ended _ refl (λ b q. let k = ltb-true (length rest) (size_of kind) b in omega (arith, size, q, k)) (λ b₄.
      passes (let k = ltb-false (length rest) (size_of kind) b₄ in omega (arith, size, k)) (link_fault link))))))))
    where
      link_fault : is_link (get_or rest 0 0) ≡ true → (body_of (get_or rest 0 0) s rest none ≡ Err fault) ↔ BodyFault nothing rest (number_of fault)
      link_fault link =
          let kind = get_or rest 0 0 in
          let l = get_or rest 1 0 in
          let e : body_of kind s rest none ≡ link_of rest none = pick_ne _ _ (link_begins kind link) ∙ pick_yes _ _ link in
          let d : (link_of rest none ≡ Err fault) ↔ BodyFault nothing rest (number_of fault) =
          decides _ Range _ refl
          (λ b (q : (t : PduType) × (kind ≡ link_kind t) × GoodLength t l). true≢false (sym b ∙ ap not (ap (λ (k : ℕ). length_fits k l) q.1 ∙ length_back q.0 l q.2)))
          (λ b. passes (pdu_of kind, link_there kind link, length_there kind l (not-false _ b)) no_more) in
          (λ w. d.0 (sym e ∙ w), λ c. e ∙ d.1 c)

  module _ (so : Counts) (good : WellFormed (read_sheet s so)) (memory : room (read_sheet s so).regions ≡ so.memory) where
    o : (i : ℕ) → get_or rest i 0 < 256
    o = octet_at rest octs

    body_there : is_kind (get_or rest 0 0) ≡ true → is_link (get_or rest 0 0) ≡ false → record_length (get_or rest 0 0) ≤ length rest
        → body_of (get_or rest 0 0) s rest so ≡ Err fault → BodyFault (records (read_sheet s so)) rest (number_of fault)
    unfolding body_of region_of parameter_of item_of tolerance_of release_of
    body_there known n₁ fits w =
        ⊎_elim
        (λ (k : get_or rest 0 0 ≡ 0). let e = sym (pick_eq _ _ k) ∙ w in cc)
        (λ (n₀ : get_or rest 0 0 ≡ 0 → ⊥).
        ⊎_elim
        (λ (k : get_or rest 0 0 ≡ 2).
        let long : 10 ≤ length rest = subst (λ (j : ℕ). record_length j ≤ length rest) k fits in
        let f = region_fits rest o in
        inl (
          as_area (region_from rest 0),
          drop 10 rest,
          cut_area rest o long k,
          f.0,
          f.1,
          (area_fault s so fault memory good.numbers_rise (region_from rest 0) good.apart f.0 f.1).0
              (sym (pick_ne _ _ n₀ ∙ pick_no _ _ n₁ ∙ pick_eq _ _ k) ∙ w),
        ))
        (λ (n₂ : get_or rest 0 0 ≡ 2 → ⊥).
        ⊎_elim
        (λ (k : get_or rest 0 0 ≡ 3).
        let long : 8 ≤ length rest = subst (λ (j : ℕ). record_length j ≤ length rest) k fits in
        let f = parameter_fits rest o in
        inr (inl (
          as_param (parameter_from rest 0),
          drop 8 rest,
          cut_param rest o long k,
          f.0,
          f.1,
          (param_fault s so fault memory good.numbers_rise (parameter_from rest 0)).0 (sym (pick_ne _ _ n₀ ∙ pick_no _ _ n₁ ∙ pick_ne _ _ n₂ ∙ pick_eq _ _ k) ∙ w),
        )))
        (λ (n₃ : get_or rest 0 0 ≡ 3 → ⊥).
        let past = pick_ne _ _ n₀ ∙ pick_no _ _ n₁ ∙ pick_ne _ _ n₂ ∙ pick_ne _ _ n₃ in
        ⊎_elim
        (λ (k : get_or rest 0 0 ≡ 4).
        let long : 35 ≤ length rest = subst (λ (j : ℕ). record_length j ≤ length rest) k fits in
        let d = length-drop 3 rest in
        inr (inr (inl (
          ident_from rest 0,
          drop 35 rest,
          cut_ident rest o long k,
          length-take-le 32 (drop 3 rest) (omega arith),
          (ident_fault s so fault memory good.numbers_rise rest octs long good.codes_rise).0 (sym (past ∙ pick_eq _ _ k) ∙ w),
        ))))
        (λ (n₄ : get_or rest 0 0 ≡ 4 → ⊥).
        ⊎_elim
        (λ (k : get_or rest 0 0 ≡ 6).
        let long : 2 ≤ length rest = subst (λ (j : ℕ). record_length j ≤ length rest) k fits in
        inr (inr (inr (inl (
          get_or rest 1 0,
          drop 2 rest,
          cut_tolerance rest o long k,
          (tolerance_fault so fault (get_or rest 1 0)).0 (sym (past ∙ pick_ne _ _ n₄ ∙ pick_eq _ _ k) ∙ w),
        )))))
        (λ (n₆ : get_or rest 0 0 ≡ 6 → ⊥).
        let k = last_kind (get_or rest 0 0) known n₀ n₁ n₂ n₃ n₄ n₆ in
        let long : 2 ≤ length rest = subst (λ (j : ℕ). record_length j ≤ length rest) k fits in
        inr (inr (inr (inr (
          get_or rest 1 0,
          drop 2 rest,
          cut_release rest o long k,
          (release_fault so fault (get_or rest 1 0)).0 (sym (past ∙ pick_ne _ _ n₄ ∙ pick_ne _ _ n₆) ∙ w),
        )))))
        (eq_or_ne (get_or rest 0 0) 6))
        (eq_or_ne (get_or rest 0 0) 4))
        (eq_or_ne (get_or rest 0 0) 3))
        (eq_or_ne (get_or rest 0 0) 2))
        (eq_or_ne (get_or rest 0 0) 0)

    body_back : record_length (get_or rest 0 0) ≤ length rest → BodyFault (records (read_sheet s so)) rest (number_of fault) → body_of (get_or rest 0 0) s rest so ≡ Err fault
    unfolding body_of region_of parameter_of item_of tolerance_of release_of
    body_back fits c =
        let h = read_sheet s so in
        let f = region_fits rest o in
        ⊎_elim
        (λ (x : (r : Area) × (t : List ℕ) × (rest ≡ region_octets r ++ t) × (r.start < 4294967296) × (r.length < 4294967296) × RegionFault h r (number_of fault)).
        let k : get_or rest 0 0 ≡ 2 = ap (λ (l : List ℕ). get_or l 0 0) x.2 in
        let e : as_area (region_from rest 0) ≡ x.0 = ap (λ (l : List ℕ). as_area (region_from l 0)) x.2 ∙ area_same x.0 x.1 x.3 x.4 in
        pick_key 0 _ _ k refl ∙ pick_no _ _ (ap is_link k) ∙ pick_eq _ _ k
        ∙ (area_fault s so fault memory good.numbers_rise (region_from rest 0) good.apart f.0 f.1).1
        (subst (λ (r : Area). RegionFault h r (number_of fault)) (sym e) x.5))
        (⊎_elim
        (λ (x : (p : Param) × (t : List ℕ) × (rest ≡ parameter_octets p ++ t) × (p.number < 65536) × (p.address < 4294967296) × ParameterFault h p (number_of fault)).
        let k : get_or rest 0 0 ≡ 3 = ap (λ (l : List ℕ). get_or l 0 0) x.2 in
        let e : as_param (parameter_from rest 0) ≡ x.0 = ap (λ (l : List ℕ). as_param (parameter_from l 0)) x.2 ∙ param_same x.0 x.1 x.3 x.4 in
        pick_key 0 _ _ k refl ∙ pick_no _ _ (ap is_link k) ∙ pick_key 2 _ _ k refl ∙ pick_eq _ _ k
        ∙ (param_fault s so fault memory good.numbers_rise (parameter_from rest 0)).1 (subst (λ (p : Param). ParameterFault h p (number_of fault)) (sym e) x.5))
        (⊎_elim
        (λ (x : (i : Ident) × (t : List ℕ) × (rest ≡ item_octets i ++ t) × (length i.octets ≡ 32) × ItemFault h i (number_of fault)).
        let k : get_or rest 0 0 ≡ 4 = ap (λ (l : List ℕ). get_or l 0 0) x.2 in
        let e : ident_from rest 0 ≡ x.0 = ap (λ (l : List ℕ). ident_from l 0) x.2 ∙ ident_same x.0 x.1 x.3 in
        let long : 35 ≤ length rest = subst (λ (j : ℕ). record_length j ≤ length rest) k fits in
        pick_key 0 _ _ k refl ∙ pick_no _ _ (ap is_link k) ∙ pick_key 2 _ _ k refl ∙ pick_key 3 _ _ k refl ∙ pick_eq _ _ k
        ∙ (ident_fault s so fault memory good.numbers_rise rest octs long good.codes_rise).1
        (subst (λ (i : Ident). ItemFault h i (number_of fault)) (sym e) x.4))
        (⊎_elim
        (λ (x : (n : ℕ) × (t : List ℕ) × (rest ≡ tolerance_octets n ++ t) × ToleranceFault n (number_of fault)).
        let k : get_or rest 0 0 ≡ 6 = ap (λ (l : List ℕ). get_or l 0 0) x.2 in
        let e : get_or rest 1 0 ≡ x.0 = ap (λ (l : List ℕ). get_or l 1 0) x.2 in
        pick_key 0 _ _ k refl ∙ pick_no _ _ (ap is_link k) ∙ pick_key 2 _ _ k refl ∙ pick_key 3 _ _ k refl ∙ pick_key 4 _ _ k refl
        ∙ pick_eq _ _ k
        ∙ (tolerance_fault so fault (get_or rest 1 0)).1 (subst (λ (n : ℕ). ToleranceFault n (number_of fault)) (sym e) x.3))
        (λ (x : (n : ℕ) × (t : List ℕ) × (rest ≡ release_octets n ++ t) × ReleaseFault n (number_of fault)).
        let k : get_or rest 0 0 ≡ 7 = ap (λ (l : List ℕ). get_or l 0 0) x.2 in
        let e : get_or rest 1 0 ≡ x.0 = ap (λ (l : List ℕ). get_or l 1 0) x.2 in
        pick_key 0 _ _ k refl ∙ pick_no _ _ (ap is_link k) ∙ pick_key 2 _ _ k refl ∙ pick_key 3 _ _ k refl ∙ pick_key 4 _ _ k refl
        ∙ pick_key 6 _ _ k refl
        ∙ (release_fault so fault (get_or rest 1 0)).1 (subst (λ (n : ℕ). ReleaseFault n (number_of fault)) (sym e) x.3)))))
        c

    pub later_fault : (length rest ≡ length s → ⊥) → (record_of s rest so ≡ Err fault) ↔ RecordFault (records (read_sheet s so)) rest (number_of fault)
    unfolding record_of number_of
    later_fault away =
        let kind = get_or rest 0 0 in
        let r = so.regions in
        let np = length_listed (λ (j : ℕ). as_param (parameter_at s r j)) 0 so.parameters in
        let ni = length_listed (λ (j : ℕ). ident_from s (4 + 10 * r + 8 * so.parameters + 35 * j)) 0 so.items in
        let nt = length_listed (λ (n : ℕ). get_or s (4 + 10 * r + 8 * so.parameters + 35 * so.items + 2 * n + 1) 0) 0 so.tolerances in
        let nv = length_listed (λ (n : ℕ). get_or s (4 + 10 * r + 8 * so.parameters + 35 * so.items + 2 * so.tolerances + 2 * n + 1) 0) 0 so.releases in
        let two = ap₂ ◌+◌ nt nv in
        let three = ap₂ ◌+◌ (ap₂ ◌+◌ ni nt) nv in
        let four = ap₂ ◌+◌ (ap₂ ◌+◌ (ap₂ ◌+◌ np ni) nt) nv in
        let t : eqb (length rest) (length s) ≡ false = ne_eqb (length rest) (length s) away in
        decides _ Ended _ refl (λ b q. let l = eqb-true (length rest) 0 b in omega arith) (λ b₁.
        let l = eqb-false (length rest) 0 b₁ in
        passes (omega arith)
        (decides _ Unknown _ refl (λ b q. true≢false (sym b ∙ ap not (kind_back kind q))) (λ b₂.
        let known = kind_there kind (not-false _ b₂) in
        passes known
        (decides _ Misplaced _ refl
        (λ b (q : InPlace (records (read_sheet s so)) kind).
        true≢false (sym b ∙ ap (λ (x : Bool). misplaced_of x kind so) t
        ∙ place_in kind so (not_link kind q.0) (λ e. sym four ∙ q.1 e) (λ e. sym three ∙ q.2 e) (λ e. sym two ∙ q.3 e) (λ e. sym two ∙ q.4 e) (λ e. sym nv ∙ q.5 e))) (λ b₃.
        let i = in_place kind so (sym (ap (λ (x : Bool). misplaced_of x kind so) t) ∙ b₃) in
        let size = size_same kind known in
        passes (no_link kind i.0, λ e. four ∙ i.1 e, λ e. three ∙ i.2 e, λ e. two ∙ i.3 e, λ e. two ∙ i.4 e, λ e. nv ∙ i.5 e)
        (decides _ Ended _ refl (λ b q. let k = ltb-true (length rest) (size_of kind) b in omega (arith, size, q, k)) (λ b₄.
        let fits : record_length kind ≤ length rest = let k = ltb-false (length rest) (size_of kind) b₄ in omega (arith, size, k) in
        passes fits (body_there (not-false _ b₂) i.0 fits, body_back fits))))))))

-- two faults that are told alike are one, at one place
pub same_told : {f g : Fault} {p q : ℕ} → faulty f p ≡ faulty g q → (f ≡ g) × (p ≡ q)
same_told {f} {g} {p} {q} e =
    let same : ◌≡◌ {A = Flaw} (record { fault = f; place = p }) (record { fault = g; place = q }) = cc in
    (ap (λ (x : Flaw). x.fault) same, ap (λ (x : Flaw). x.place) same)

memory_read : (s : List ℕ) (at : ℕ) (so : Counts) → Sound s at so → room (read_sheet s so).regions ≡ so.memory
memory_read s at so ok = sum_listed (region_at s) 0 so.regions ∙ sym ok.memory_sum

pub fault_told : (s : List ℕ) (f : Fault) (place : ℕ) → Every IsOctet s → verdict_of s ≡ faulty f place → FirstFault s (number_of f) place
unfolding verdict_of ended_of number_of
fault_told s f place octs v =
    ⊎_elim
    (λ (b : ltb 2048 (length s) ≡ true).
    let e = same_told (sym (pick_yes _ _ b) ∙ v) in
    inl (ltb-true 2048 (length s) b, ap number_of (sym e.0), sym e.1))
    (λ (b : ltb 2048 (length s) ≡ false).
    let short = ltb-false 2048 (length s) b in
    let q = reached s (faulty f place) short (sym (pick_no _ _ b) ∙ v) in
    let rest = q.rest in
    let so = q.so in
    let st = q.standing in
    let fits = st.fits in
    let ro : Every IsOctet rest = subst (λ (l : List ℕ). Every IsOctet l) (sym st.part) (octets_drop (place_of s rest) s octs) in
    inr (
      short,
      ⊎_elim
          (λ c.
          let e = same_told c.2 in
          ⊎_elim
          (λ z.
          let z₀ = z.0 in
          record {
            sofar = nothing;
            good = tt;
            rest = rest;
            split = sym (st.part ∙ ap (λ (i : ℕ). drop i s) z.0);
            which = inl (
              omega (arith, e.1, z.0, fits),
              subst (λ (g : Fault). RecordFault nothing rest (number_of g)) e.0
                  ((first_fault s rest ro c.0 (omega arith)).0 (ap (record_of s rest) (sym z.1) ∙ c.1)),
            );
          })
          (λ h.
          let h₀ = h.0 in
          let good = front_good s octs so (place_of s rest) st.sound q.marked h.0 (omega arith) h.1 in
          record {
            sofar = records (read_sheet s so);
            good = good;
            rest = rest;
            split = front_written s octs so (place_of s rest) st.sound q.marked h.0 (omega arith) h.1 ∙ ap (written (read_sheet s so)) (sym st.part);
            which = inl (
              omega (arith, e.1, fits),
              subst (λ (g : Fault). RecordFault (records (read_sheet s so)) rest (number_of g)) e.0
                  ((later_fault s rest ro c.0 so good (memory_read s (place_of s rest) so st.sound) (λ (x : length rest ≡ length s). omega arith)).0 c.1),
            );
          })
          st.sound.begun)
          (λ c.
          let h = end_later s rest so c.0 c.1 st c.2 c.3 in
          ⊎_elim
          (λ (d : ltb 1 (length rest) ≡ true).
          let e = same_told (sym (pick_yes _ _ d) ∙ c.4) in
          record {
            sofar = records (read_sheet s so);
            good = front_good s octs so (place_of s rest) st.sound q.marked h.1 (omega arith) h.2;
            rest = rest;
            split = front_written s octs so (place_of s rest) st.sound q.marked h.1 (omega arith) h.2 ∙ ap (written (read_sheet s so)) (sym st.part);
            which = inr ((c.3, ltb-true 1 (length rest) d), ap number_of (sym e.0), omega (arith, e.1, fits));
          })
          (λ (d : ltb 1 (length rest) ≡ false). let e = sym (pick_no _ _ d) ∙ c.4 in cc)
          (decided (ltb 1 (length rest))))
          q.last,
    ))
    (decided (ltb 2048 (length s)))
