-- A record that was read, other than the end record, keeps the walk sound and lies within what was left.
use mathlib.Core.Bool.{Bool, true, false, ◌&&◌, ◌||◌, true≢false}
use mathlib.Core.Logic.{⊎_elim}
use mathlib.Core.Path.{◌≡◌, refl, sym, ap, subst, ◌∙◌}
use mathlib.Core.List.{List}
use Prim.Native.Nat.{ℕ, ◌+◌, ◌-◌, ◌*◌, ◌≤◌}
use native.Mathlib.Nat.{le_antisymm}
use native.Mathlib.Omega.{arith}
use borrow.Author.Tests.{eqb-false, ltb-false, leb-true, eq-eqb, ne_eqb, not-false}
use lib.Dec.{eqb, ltb}
use lib.ListN.{length, get_or, drop}
use Rattle.octets.proofs.Cases.{eq_or_ne}
use Rattle.octets.proofs.Pick.{passed, pick_yes, pick_no, pick_eq, pick_ne, pick_key}
use Rattle.regions.specs.Apart.{Apart}
use Rattle.regions.specs.Region.{region_at, regions_of}
use Rattle.regions.proofs.Apart.{apart_listed}
use Rattle.sheet.specs.Kinds.{is_kind, is_link, length_fits, size_of, misplaced_of}
use Rattle.sheet.specs.Reading.{link_of, region_of, parameter_of, item_of, tolerance_of, release_of, body_of, record_of}
use Rattle.sheet.specs.Sound.{Sound, Counted, Standing, behind}
use Rattle.sheet.specs.Walk.{none, place_of}
use Rattle.sheet.specs.declared.records.Counts.{Counts}
use Rattle.sheet.proofs.Judged.{bad_record, same_size, same_counts, region_read, parameter_read, item_read, tolerance_read, release_read}
use Rattle.sheet.proofs.Steps.{step_link, step_region, step_parameter, step_item, step_tolerance, step_release}
use Rattle.sheet.specs.Told.{reads}

-- the regions that were counted are ordered and apart
pub sound_apart : (s : List ℕ) (at : ℕ) (so : Counts) → Sound s at so → Apart 0 (regions_of s so.regions)
sound_apart s at so ok =
    apart_listed (region_at s) 0 so.regions 0
    (λ i l u. (ok.regions_fine i (omega arith)).some)
    (λ i l u. ok.regions_rise i (omega arith))
    (λ h. omega arith)

-- and all records that were counted are in the sheet
pub sound_counted : (s : List ℕ) (at : ℕ) (so : Counts) → Sound s at so → at ≤ length s → Counted s so
sound_counted s at so ok h = record { inside = all; laid = record { inside = omega (arith, all); apart = sound_apart s at so ok } }
  where
    all : 10 * so.regions + 8 * so.parameters + 35 * so.items ≤ length s - 4
    all =
        ⊎_elim
        (λ z. rw z.1 (omega arith))
        (λ z. omega (arith, z.0))
        ok.begun

or_false : (a b : Bool) → a || b ≡ false → (a ≡ false) × (b ≡ false)
or_false true b e = absurd (true≢false e)
or_false false b e = (refl, e)

-- a test on the kind that holds and a count that is not 0 would have put the record out of place
count_zero : (kind k n : ℕ) → kind ≡ k → eqb kind k && ltb 0 n ≡ false → n ≡ 0
count_zero kind k n e f =
    let l = ltb-false 0 n (sym (ap (λ (b : Bool). b && ltb 0 n) (eq-eqb kind k e)) ∙ f) in
    omega arith

-- what a record behind the link record that is in its place tells: no record stands yet of what comes behind it
pub in_place : (kind : ℕ) (so : Counts) → misplaced_of false kind so ≡ false
    → (is_link kind ≡ false) × (kind ≡ 2 → so.parameters + so.items + so.tolerances + so.releases ≡ 0)
    × (kind ≡ 3 → so.items + so.tolerances + so.releases ≡ 0) × (kind ≡ 4 → so.tolerances + so.releases ≡ 0)
    × (kind ≡ 6 → so.tolerances + so.releases ≡ 0) × (kind ≡ 7 → so.releases ≡ 0)
unfolding misplaced_of
in_place kind so m =
    let a = is_link kind in
    let b = eqb kind 2 && ltb 0 (so.parameters + so.items + so.tolerances + so.releases) in
    let c = eqb kind 3 && ltb 0 (so.items + so.tolerances + so.releases) in
    let d = eqb kind 4 && ltb 0 (so.tolerances + so.releases) in
    let e = eqb kind 6 && ltb 0 (so.tolerances + so.releases) in
    let o₁ = or_false (a || b || c || d || e) _ m in
    let o₂ = or_false (a || b || c || d) e o₁.0 in
    let o₃ = or_false (a || b || c) d o₂.0 in
    let o₄ = or_false (a || b) c o₃.0 in
    let o₅ = or_false a b o₄.0 in (
      o₅.0,
      λ z. count_zero kind 2 _ z o₅.1,
      λ z. count_zero kind 3 _ z o₄.1,
      λ z. count_zero kind 4 _ z o₃.1,
      λ z. count_zero kind 6 _ z o₂.1,
      λ z. count_zero kind 7 _ z o₁.1,
    )

past : (k kind : ℕ) → k ≤ kind → (kind ≡ k → ⊥) → k + 1 ≤ kind
past k kind from other = omega arith

-- the kind that is left where the others are not
pub last_kind : (kind : ℕ) → is_kind kind ≡ true → (kind ≡ 0 → ⊥) → is_link kind ≡ false → (kind ≡ 2 → ⊥) → (kind ≡ 3 → ⊥) → (kind ≡ 4 → ⊥) → (kind ≡ 6 → ⊥)
    → kind ≡ 7
unfolding is_kind
last_kind kind known n₀ n₁ n₂ n₃ n₄ n₆ =
    let o = or_false (eqb kind 1) (eqb kind 5) n₁ in
    let no₁ = eqb-false kind 1 o.0 in
    let no₅ = eqb-false kind 5 o.1 in
    let three = past 2 kind (past 1 kind (past 0 kind (omega arith) n₀) no₁) n₂ in
    le_antisymm (leb-true kind 7 known) (past 6 kind (past 5 kind (past 4 kind (past 3 kind three n₃) n₄) no₅) n₆)

-- a link record is no end record
pub link_begins : (kind : ℕ) → is_link kind ≡ true → kind ≡ 0 → ⊥
link_begins kind e z = true≢false (sym e ∙ ap is_link z)

-- what the walk goes on with behind a record of n octets
abbrev pub Goes : List ℕ → List ℕ → ℕ → Counts → Type 0
Goes s rest n next = (1 ≤ n) × (n ≤ length rest) × Sound s (place_of s rest + n) next

module _ (s rest : List ℕ) (so : Counts) (n : ℕ) (next : Counts) (st : Standing s rest so) where
  first_record : place_of s rest ≡ 0 → so ≡ none → misplaced_of true (get_or rest 0 0) so ≡ false → size_of (get_or rest 0 0) ≤ length rest
      → body_of (get_or rest 0 0) s rest so ≡ reads n next → Goes s rest n next
  unfolding misplaced_of body_of link_of size_of
  first_record z e m fits body =
      let kind : is_link (get_or rest 0 0) ≡ true = not-false _ m in
      let some = link_begins (get_or rest 0 0) kind in
      let whole : rest ≡ s = st.part ∙ ap (λ (i : ℕ). drop i s) z in
      let p = passed _ bad_record (sym (pick_ne _ _ some ∙ pick_yes _ _ kind) ∙ body) in
      let four : 4 ≡ n = same_size p.1 in
      let size : size_of (get_or rest 0 0) ≡ 4 = pick_ne _ _ some ∙ pick_yes _ _ kind in
      let to : 4 ≡ place_of s rest + n = omega arith in
      let first : length_fits (get_or s 0 0) (get_or s 1 0) ≡ true = ap (λ (l : List ℕ). length_fits (get_or l 0 0) (get_or l 1 0)) (sym whole) ∙ not-false _ p.0 in (
        omega (arith, four),
        subst (λ (k : ℕ). k ≤ length rest) (size ∙ four) fits,
        subst (λ (c : Counts). Sound s (place_of s rest + n) c) (sym e ∙ same_counts p.1)
            (subst (λ (at : ℕ). Sound s at none) to
            (step_link s (subst (λ (c : Counts). Sound s 0 c) e (subst (λ (at : ℕ). Sound s at so) z st.sound)) first)),
      )

  module _ (here : place_of s rest ≡ behind so) (first : length_fits (get_or s 0 0) (get_or s 1 0) ≡ true) (m : misplaced_of false (get_or rest 0 0) so ≡ false)
      (fits : size_of (get_or rest 0 0) ≤ length rest) where
    later_region : get_or rest 0 0 ≡ 2 → region_of s rest so ≡ reads n next → Goes s rest n next
    unfolding region_of size_of
    later_region kind body =
        let o = in_place (get_or rest 0 0) so m in
        let q = region_read _ _ so n next (rw st.part at body) in
        let size : size_of (get_or rest 0 0) ≡ 10 = pick_key 0 _ _ kind refl ∙ pick_no _ _ o.0 ∙ pick_eq _ _ kind in (
          omega (arith, q.size),
          subst (λ (k : ℕ). k ≤ length rest) (size ∙ q.size) fits,
          step_region s (place_of s rest) so st.sound first here n next (o.1 kind) q,
        )

    later_parameter : get_or rest 0 0 ≡ 3 → parameter_of s rest so ≡ reads n next → Goes s rest n next
    unfolding parameter_of size_of
    later_parameter kind body =
        let o = in_place (get_or rest 0 0) so m in
        let q = parameter_read _ _ _ so n next (rw st.part at body) in
        let size : size_of (get_or rest 0 0) ≡ 8 = pick_key 0 _ _ kind refl ∙ pick_no _ _ o.0 ∙ pick_key 2 _ _ kind refl ∙ pick_eq _ _ kind in (
          omega (arith, q.size),
          subst (λ (k : ℕ). k ≤ length rest) (size ∙ q.size) fits,
          step_parameter s (place_of s rest) so st.sound first here n next (o.2 kind) q,
        )

    later_item : get_or rest 0 0 ≡ 4 → size_of (get_or rest 0 0) ≡ 35 → item_of s rest so ≡ reads n next → Goes s rest n next
    unfolding item_of
    later_item kind size body =
        let o = in_place (get_or rest 0 0) so m in
        let q = item_read _ _ _ so n next (rw st.part at body) in
        (omega (arith, q.size), subst (λ (k : ℕ). k ≤ length rest) (size ∙ q.size) fits, step_item s (place_of s rest) so st.sound first here n next (o.3 kind) q)

    later_tolerance : get_or rest 0 0 ≡ 6 → size_of (get_or rest 0 0) ≡ 2 → tolerance_of rest so ≡ reads n next → Goes s rest n next
    unfolding tolerance_of
    later_tolerance kind size body =
        let o = in_place (get_or rest 0 0) so m in
        let q = tolerance_read _ so n next (rw st.part at body) in
        (omega (arith, q.size), subst (λ (k : ℕ). k ≤ length rest) (size ∙ q.size) fits, step_tolerance s (place_of s rest) so st.sound first here n next (o.4 kind) q)

    later_release : get_or rest 0 0 ≡ 7 → size_of (get_or rest 0 0) ≡ 2 → release_of rest so ≡ reads n next → Goes s rest n next
    unfolding release_of
    later_release kind size body =
        let o = in_place (get_or rest 0 0) so m in
        let q = release_read _ so n next (rw st.part at body) in
        (omega (arith, q.size), subst (λ (k : ℕ). k ≤ length rest) (size ∙ q.size) fits, step_release s (place_of s rest) so st.sound first here n next (o.5 kind) q)

    later_record : is_kind (get_or rest 0 0) ≡ true → (get_or rest 0 0 ≡ 0 → ⊥) → body_of (get_or rest 0 0) s rest so ≡ reads n next → Goes s rest n next
    unfolding body_of size_of
    later_record known n₀ body =
        let n₁ = (in_place (get_or rest 0 0) so m).0 in
        let b = sym (pick_ne _ _ n₀ ∙ pick_no _ _ n₁) ∙ body in
        ⊎_elim
        (λ k₂. later_region k₂ (sym (pick_eq _ _ k₂) ∙ b))
        (λ n₂.
        ⊎_elim
        (λ k₃. later_parameter k₃ (sym (pick_ne _ _ n₂ ∙ pick_eq _ _ k₃) ∙ b))
        (λ n₃.
        let size = pick_ne _ _ n₀ ∙ pick_no _ _ n₁ ∙ pick_ne _ _ n₂ ∙ pick_ne _ _ n₃ in
        let c = sym (pick_ne _ _ n₂ ∙ pick_ne _ _ n₃) ∙ b in
        ⊎_elim
        (λ k₄. later_item k₄ (size ∙ pick_eq _ _ k₄) (sym (pick_eq _ _ k₄) ∙ c))
        (λ n₄.
        ⊎_elim
        (λ k₆. later_tolerance k₆ (size ∙ pick_ne _ _ n₄) (sym (pick_ne _ _ n₄ ∙ pick_eq _ _ k₆) ∙ c))
        (λ n₆.
        later_release (last_kind (get_or rest 0 0) known n₀ n₁ n₂ n₃ n₄ n₆) (size ∙ pick_ne _ _ n₄) (sym (pick_ne _ _ n₄ ∙ pick_ne _ _ n₆) ∙ c))
        (eq_or_ne (get_or rest 0 0) 6))
        (eq_or_ne (get_or rest 0 0) 4))
        (eq_or_ne (get_or rest 0 0) 3))
        (eq_or_ne (get_or rest 0 0) 2)

  pub record_sound : record_of s rest so ≡ reads n next → (get_or rest 0 0 ≡ 0 → ⊥) → Goes s rest n next
  unfolding record_of
  record_sound e n₀ =
      let p₁ = passed _ bad_record e in
      let p₂ = passed _ bad_record p₁.1 in
      let p₃ = passed _ bad_record p₂.1 in
      let p₄ = passed _ bad_record p₃.1 in
      let l = eqb-false (length rest) 0 p₁.0 in
      let f = st.fits in
      let fits = ltb-false (length rest) (size_of (get_or rest 0 0)) p₄.0 in
      ⊎_elim
      (λ z.
      let t = eq-eqb (length rest) (length s) (omega (arith, z.0)) in
      first_record z.0 z.1 (subst (λ (b : Bool). misplaced_of b (get_or rest 0 0) so ≡ false) t p₃.0) fits p₄.1)
      (λ h.
      let t = ne_eqb (length rest) (length s) (λ q. let k : ⊥ = omega (arith, h.0) in k) in
      later_record h.0 h.1 (subst (λ (b : Bool). misplaced_of b (get_or rest 0 0) so ≡ false) t p₃.0) fits (not-false _ p₂.0) n₀ p₄.1)
      st.sound.begun
