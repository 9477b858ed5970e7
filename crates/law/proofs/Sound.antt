-- A valid sheet is the writing of a well-formed one.
use mathlib.Core.Bool.{Bool, true, false}
use mathlib.Core.Logic.{⊎_elim}
use mathlib.Core.Path.{◌≡◌, sym, ap, subst, ◌∙◌}
use mathlib.Core.List.{List, [], ◌∷◌}
use Prim.Native.Nat.{ℕ, suc, ◌-◌, ◌≤◌}
use native.Mathlib.Nat.{le_refl}
use native.Mathlib.Omega.{arith}
use borrow.Author.Tests.{eqb-false, ltb-false, eq-eqb, not-false}
use lib.ListN.{length, get_or, drop}
use Rattle.std.specs.Prelude.{Ok}
use Rattle.octets.proofs.Pick.{passed}
use Rattle.sheet.specs.Kinds.{length_fits, misplaced_of}
use Rattle.sheet.specs.Reading.{record_of}
use Rattle.sheet.specs.Sound.{Sound, Standing, behind}
use Rattle.sheet.specs.Told.{reads, Verdict}
use Rattle.sheet.specs.Walk.{none, place_of, ended_of, walk_of, verdict_of}
use Rattle.sheet.specs.declared.records.Counts.{Counts}
use Rattle.sheet.specs.declared.walk.Layout.{Layout}
use Rattle.sheet.proofs.Onward.{link_begins}
use Rattle.sheet.proofs.Steps.{start_sound}
use Rattle.sheet.proofs.Valid.{same_layout}
use Rattle.law.proofs.Layouts.{layout_for}
use Rattle.law.specs.Words.{Every}
use Rattle.law.specs.Sheet.{Sheet, WellFormed, IsOctet, written, sheet_octets}
use Rattle.law.proofs.Marks.{Reached, reach}
use Rattle.law.proofs.Front.{read_sheet, front_good, front_written, layout_read}

-- where the walk of a sheet that is not too long comes to its verdict
pub reached : (s : List ℕ) (v : Verdict) → length s ≤ 2048 → walk_of (suc (length s)) s s none ≡ v → Reached s v
reached s v h w =
    let e : 0 ≡ length s - length s = omega arith in
    reach (suc (length s)) s s none
    (record {
      short = h;
      fits = le_refl (length s);
      part = ap (λ (i : ℕ). drop i s) e;
      sound = subst (λ (i : ℕ). Sound s i none) e (start_sound s);
    })
    (record {
      link = λ (l : 1 ≤ length s - length s). absurd (omega arith);
      regions = λ i l. absurd (omega arith);
      parameters = λ i l. absurd (omega arith);
      items = λ i l. absurd (omega arith);
      tolerances = λ i l. absurd (omega arith);
      releases = λ i l. absurd (omega arith);
    })
    v (omega arith) w

-- an end record is not the first
pub end_later : (s rest : List ℕ) (so : Counts) (n : ℕ) (next : Counts) → Standing s rest so → record_of s rest so ≡ reads n next → get_or rest 0 0 ≡ 0
    → (1 ≤ length rest) × (place_of s rest ≡ behind so) × (length_fits (get_or s 0 0) (get_or s 1 0) ≡ true)
unfolding record_of misplaced_of
end_later s rest so n next st e k =
    let p₁ = passed _ (λ e. cc) e in
    let p₂ = passed _ (λ e. cc) p₁.1 in
    let p₃ = passed _ (λ e. cc) p₂.1 in
    let some = eqb-false (length rest) 0 p₁.0 in
    let f = st.fits in
    ⊎_elim
    (λ z.
    let t = eq-eqb (length rest) (length s) (omega (arith, z.0)) in
    let m = subst (λ (b : Bool). misplaced_of b (get_or rest 0 0) so ≡ false) t p₃.0 in
    absurd (link_begins (get_or rest 0 0) (not-false _ m) k))
    (λ h. (omega arith, h.0, h.1))
    st.sound.begun

one_zero : (l : List ℕ) → length l ≡ 1 → get_or l 0 0 ≡ 0 → l ≡ 0 ∷ []
one_zero [] e z = absurd (omega arith)
one_zero (x ∷ []) e z = ap (λ (y : ℕ). y ∷ []) z
one_zero (x ∷ y ∷ ys) e z = absurd (omega arith)

pub sound : (s : List ℕ) (lay : Layout) → Every IsOctet s → verdict_of s ≡ Ok lay
    → (h : Sheet) × WellFormed h × (s ≡ sheet_octets h) × (lay ≡ layout_for h)
unfolding verdict_of ended_of
sound s lay o v =
    let p = passed _ (λ e. cc) v in
    let q = reached s (Ok lay) (ltb-false 2048 (length s) p.0) p.1 in
    let rest = q.rest in
    let so = q.so in
    let st = q.standing in
    ⊎_elim
    (λ b. let e = b.2 in cc)
    (λ b.
    let e = end_later s rest so b.0 b.1 st b.2 b.3 in
    let w = passed _ (λ e. cc) b.4 in
    let l = ltb-false 1 (length rest) w.0 in
    let f = st.fits in
    let z : drop (place_of s rest) s ≡ 0 ∷ [] = sym st.part ∙ one_zero rest (omega (arith, e.0)) b.3 in (
      read_sheet s so,
      front_good s o so (place_of s rest) st.sound q.marked e.1 (omega arith) e.2,
      front_written s o so (place_of s rest) st.sound q.marked e.1 (omega arith) e.2 ∙ ap (written (read_sheet s so)) z,
      sym (same_layout w.1) ∙ layout_read s o so (place_of s rest) st.sound q.marked e.1 (omega arith) e.2,
    ))
    q.last
