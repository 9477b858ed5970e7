-- The kind octet of each record that the walk has read, and the zeros of its ID items.
use mathlib.Core.Bool.{Bool, true, false}
use mathlib.Core.Logic.{◌⊎◌, inl, inr, ⊎_elim}
use mathlib.Core.Path.{◌≡◌, refl, sym, ap, subst, ◌∙◌}
use mathlib.Core.List.{List}
use Prim.Native.Nat.{ℕ, zero, suc, ◌+◌, ◌*◌, ◌≤◌, ◌<◌}
use native.Mathlib.Omega.{arith}
use borrow.Author.Tests.{eqb-false, eq-eqb, ne_eqb, not-false}
use lib.ListN.{length, get_or, drop}
use lib.Seq.{get_or-drop}
use Rattle.std.specs.Prelude.{Ok, Err}
use Rattle.octets.specs.Parts.{all_zero}
use Rattle.octets.proofs.Cases.{eq_or_ne}
use Rattle.octets.proofs.Pick.{passed, pick_yes, pick_no, pick_eq, pick_ne}
use Rattle.sheet.specs.Kinds.{is_kind, is_link, misplaced_of}
use Rattle.sheet.specs.Reading.{link_of, region_of, parameter_of, item_of, tolerance_of, release_of, body_of, record_of, tail_of}
use Rattle.sheet.specs.Sound.{Standing, behind}
use Rattle.sheet.specs.Told.{Reading, reads, Verdict, faulty}
use Rattle.sheet.specs.Walk.{none, place_of, ended_of, onward, walk_of}
use Rattle.sheet.specs.declared.records.Counts.{Counts}
use Rattle.sheet.specs.declared.records.Fault.{Fault}
use Rattle.sheet.proofs.Judged.{bad_record, same_counts, region_read, parameter_read, item_read, tolerance_read, release_read}
use Rattle.sheet.proofs.Onward.{in_place, last_kind, link_begins, record_sound}
use Rattle.sheet.proofs.Steps.{one_more}
use Rattle.sheet.proofs.Walked.{standing_behind}

pub record Marked (s : List ℕ) (at : ℕ) (so : Counts) : Type 0 where
  pub link : 1 ≤ at → is_link (get_or s 0 0) ≡ true
  pub regions : (i : ℕ) → i < so.regions → get_or s (4 + 10 * i) 0 ≡ 2
  pub parameters : (j : ℕ) → j < so.parameters → get_or s (4 + 10 * so.regions + 8 * j) 0 ≡ 3
  pub items : (k : ℕ) → k < so.items
      → (get_or s (4 + 10 * so.regions + 8 * so.parameters + 35 * k) 0 ≡ 4) × (all_zero (tail_of (drop (4 + 10 * so.regions + 8 * so.parameters + 35 * k) s)) ≡ true)
  pub tolerances : (n : ℕ) → n < so.tolerances → get_or s (4 + 10 * so.regions + 8 * so.parameters + 35 * so.items + 2 * n) 0 ≡ 6
  pub releases : (n : ℕ) → n < so.releases → get_or s (4 + 10 * so.regions + 8 * so.parameters + 35 * so.items + 2 * so.tolerances + 2 * n) 0 ≡ 7

module _ (s rest : List ℕ) (so : Counts) (n : ℕ) (next : Counts) (st : Standing s rest so) (mk : Marked s (place_of s rest) so) where
  -- the octet at the walk's place
  here : get_or s (place_of s rest) 0 ≡ get_or rest 0 0
  here = ap (λ (i : ℕ). get_or s i 0) (let e : place_of s rest ≡ place_of s rest + 0 = omega arith in e) ∙ sym (get_or-drop (place_of s rest) s 0 0)
      ∙ ap (λ (l : List ℕ). get_or l 0 0) (sym st.part)

  first_marked : place_of s rest ≡ 0 → so ≡ none → misplaced_of true (get_or rest 0 0) so ≡ false → body_of (get_or rest 0 0) s rest so ≡ reads n next
      → Marked s (place_of s rest + n) next
  unfolding misplaced_of body_of link_of
  first_marked z e m body =
      let kind : is_link (get_or rest 0 0) ≡ true = not-false _ m in
      let p = passed _ bad_record (sym (pick_ne _ _ (link_begins (get_or rest 0 0) kind) ∙ pick_yes _ _ kind) ∙ body) in
      subst (λ (c : Counts). Marked s (place_of s rest + n) c) (sym e ∙ same_counts p.1) (record {
        link = λ h. ap is_link (ap (λ (i : ℕ). get_or s i 0) (sym z) ∙ here) ∙ kind;
        regions = λ i h. absurd (omega arith);
        parameters = λ i h. absurd (omega arith);
        items = λ i h. absurd (omega arith);
        tolerances = λ i h. absurd (omega arith);
        releases = λ i h. absurd (omega arith);
      })

  module _ (at : place_of s rest ≡ behind so) (m : misplaced_of false (get_or rest 0 0) so ≡ false) where
    linked : 1 ≤ place_of s rest + n → is_link (get_or s 0 0) ≡ true
    linked h = mk.link (omega arith)

    later_marked : (get_or rest 0 0 ≡ 0 → ⊥) → is_kind (get_or rest 0 0) ≡ true → body_of (get_or rest 0 0) s rest so ≡ reads n next → Marked s (place_of s rest + n) next
    unfolding body_of region_of parameter_of item_of tolerance_of release_of
    later_marked n₀ known body =
        let o = in_place (get_or rest 0 0) so m in
        let n₁ = o.0 in
        let b = sym (pick_ne _ _ n₀ ∙ pick_no _ _ n₁) ∙ body in
        ⊎_elim
        (λ (k₂ : get_or rest 0 0 ≡ 2).
        let q = region_read _ _ so n next (sym (pick_eq _ _ k₂) ∙ b) in
        let none-behind = o.1 k₂ in
        let e : 4 + 10 * so.regions ≡ place_of s rest = omega arith in
        subst (λ (c : Counts). Marked s (place_of s rest + n) c) q.counts (record {
          link = linked;
          regions = one_more (λ i. get_or s (4 + 10 * i) 0 ≡ 2) so.regions mk.regions (ap (λ (i : ℕ). get_or s i 0) e ∙ here ∙ k₂);
          parameters = λ j h. absurd (omega (arith, none-behind));
          items = λ j h. absurd (omega (arith, none-behind));
          tolerances = λ j h. absurd (omega (arith, none-behind));
          releases = λ j h. absurd (omega (arith, none-behind));
        }))
        (λ n₂.
        ⊎_elim
        (λ (k₃ : get_or rest 0 0 ≡ 3).
        let q = parameter_read _ _ _ so n next (sym (pick_ne _ _ n₂ ∙ pick_eq _ _ k₃) ∙ b) in
        let none-behind = o.2 k₃ in
        let e : 4 + 10 * so.regions + 8 * so.parameters ≡ place_of s rest = omega arith in
        subst (λ (c : Counts). Marked s (place_of s rest + n) c) q.counts (record {
          link = linked;
          regions = mk.regions;
          parameters = one_more (λ j. get_or s (4 + 10 * so.regions + 8 * j) 0 ≡ 3) so.parameters mk.parameters (ap (λ (i : ℕ). get_or s i 0) e ∙ here ∙ k₃);
          items = λ j h. absurd (omega (arith, none-behind));
          tolerances = λ j h. absurd (omega (arith, none-behind));
          releases = λ j h. absurd (omega (arith, none-behind));
        }))
        (λ (n₃ : get_or rest 0 0 ≡ 3 → ⊥).
        ⊎_elim
        (λ (k₄ : get_or rest 0 0 ≡ 4).
        let q = item_read _ _ _ so n next (sym (pick_ne _ _ n₂ ∙ pick_ne _ _ n₃ ∙ pick_eq _ _ k₄) ∙ b) in
        let none-behind = o.3 k₄ in
        let e : place_of s rest ≡ 4 + 10 * so.regions + 8 * so.parameters + 35 * so.items = omega arith in
        subst (λ (c : Counts). Marked s (place_of s rest + n) c) q.counts (record {
          link = linked;
          regions = mk.regions;
          parameters = mk.parameters;
          items = one_more (λ k. (get_or s (4 + 10 * so.regions + 8 * so.parameters + 35 * k) 0 ≡ 4)
              × (all_zero (tail_of (drop (4 + 10 * so.regions + 8 * so.parameters + 35 * k) s)) ≡ true)) so.items mk.items (
                ap (λ (i : ℕ). get_or s i 0) (sym e) ∙ here ∙ k₄,
                ap (λ (l : List ℕ). all_zero (tail_of l)) (ap (λ (i : ℕ). drop i s) (sym e) ∙ sym st.part) ∙ q.zeros,
              );
          tolerances = λ j h. absurd (omega (arith, none-behind));
          releases = λ j h. absurd (omega (arith, none-behind));
        }))
        (λ (n₄ : get_or rest 0 0 ≡ 4 → ⊥).
        ⊎_elim
        (λ (k₆ : get_or rest 0 0 ≡ 6).
        let q = tolerance_read _ so n next (sym (pick_ne _ _ n₂ ∙ pick_ne _ _ n₃ ∙ pick_ne _ _ n₄ ∙ pick_eq _ _ k₆) ∙ b) in
        let none-behind = o.4 k₆ in
        let e : place_of s rest ≡ 4 + 10 * so.regions + 8 * so.parameters + 35 * so.items = omega arith in
        subst (λ (c : Counts). Marked s (place_of s rest + n) c) q.counts (record {
          link = linked;
          regions = mk.regions;
          parameters = mk.parameters;
          items = mk.items;
          tolerances = λ j h.
              ap (λ (i : ℕ). get_or s i 0) (let z : 4 + 10 * so.regions + 8 * so.parameters + 35 * so.items + 2 * j ≡ place_of s rest = omega arith in z)
              ∙ here ∙ k₆;
          releases = λ j h. absurd (omega (arith, none-behind));
        }))
        (λ (n₆ : get_or rest 0 0 ≡ 6 → ⊥).
        let k₇ = last_kind (get_or rest 0 0) known n₀ n₁ n₂ n₃ n₄ n₆ in
        let q = release_read _ so n next (sym (pick_ne _ _ n₂ ∙ pick_ne _ _ n₃ ∙ pick_ne _ _ n₄ ∙ pick_ne _ _ n₆) ∙ b) in
        let none-behind = o.5 k₇ in
        subst (λ (c : Counts). Marked s (place_of s rest + n) c) q.counts (record {
          link = linked;
          regions = mk.regions;
          parameters = mk.parameters;
          items = mk.items;
          tolerances = mk.tolerances;
          releases = λ j h.
              ap (λ (i : ℕ). get_or s i 0)
              (let z : 4 + 10 * so.regions + 8 * so.parameters + 35 * so.items + 2 * so.tolerances + 2 * j ≡ place_of s rest = omega arith in z)
              ∙ here ∙ k₇;
        }))
        (eq_or_ne (get_or rest 0 0) 6))
        (eq_or_ne (get_or rest 0 0) 4))
        (eq_or_ne (get_or rest 0 0) 3))
        (eq_or_ne (get_or rest 0 0) 2)

  pub record_marked : record_of s rest so ≡ reads n next → (get_or rest 0 0 ≡ 0 → ⊥) → Marked s (place_of s rest + n) next
  unfolding record_of
  record_marked e n₀ =
      let p₁ = passed _ bad_record e in
      let p₂ = passed _ bad_record p₁.1 in
      let p₃ = passed _ bad_record p₂.1 in
      let p₄ = passed _ bad_record p₃.1 in
      let l = eqb-false (length rest) 0 p₁.0 in
      let f = st.fits in
      ⊎_elim
      (λ z.
      let t = eq-eqb (length rest) (length s) (omega (arith, z.0)) in
      first_marked z.0 z.1 (subst (λ (b : Bool). misplaced_of b (get_or rest 0 0) so ≡ false) t p₃.0) p₄.1)
      (λ h.
      let t = ne_eqb (length rest) (length s) (λ q. omega (arith, h.0)) in
      later_marked h.0 (subst (λ (b : Bool). misplaced_of b (get_or rest 0 0) so ≡ false) t p₃.0) n₀ (not-false _ p₂.0) p₄.1)
      st.sound.begun

-- where the walk came to its verdict: at a record that is faulty, or at an end record
pub record Reached (s : List ℕ) (v : Verdict) : Type 0 where
  pub rest : List ℕ
  pub so : Counts
  pub standing : Standing s rest so
  pub marked : Marked s (place_of s rest) so
  pub last : ((fault : Fault) × (record_of s rest so ≡ Err fault) × (faulty fault (place_of s rest) ≡ v))
      ⊎ ((n : ℕ) × (next : Counts) × (record_of s rest so ≡ reads n next) × (get_or rest 0 0 ≡ 0) × (ended_of s rest so ≡ v))

reach_step : (s rest : List ℕ) (so : Counts) → Standing s rest so → Marked s (place_of s rest) so → (v : Verdict) (read : Reading) (on : ℕ → Counts → Verdict)
    → record_of s rest so ≡ read → ((n : ℕ) (next : Counts) → record_of s rest so ≡ reads n next → on n next ≡ v → Reached s v)
    → onward read (place_of s rest) on ≡ v → Reached s v
unfolding onward
reach_step s rest so st mk v (Err fault) on e go w = record { rest = rest; so = so; standing = st; marked = mk; last = inl (fault, e, w) }
reach_step s rest so st mk v (Ok r) on e go w = go r.size r.counts e w

pub reach : (f : ℕ) (s rest : List ℕ) (so : Counts) → Standing s rest so → Marked s (place_of s rest) so → (v : Verdict) → length rest < f
    → walk_of f s rest so ≡ v → Reached s v
unfolding walk_of
reach zero s rest so st mk v h w = absurd (omega arith)
reach (suc f) s rest so st mk v h w =
    reach_step s rest so st mk v (record_of s rest so) _ refl
    (λ n next e u.
    ⊎_elim
    (λ k. record { rest = rest; so = so; standing = st; marked = mk; last = inr (n, next, e, k, sym (pick_eq _ _ k) ∙ u) })
    (λ k.
    let g = record_sound s rest so n next st e k in
    let st₂ = standing_behind s rest so n next st g in
    let d = package.lib.ListN.length-drop n rest in
    let fits = st.fits in
    let to : place_of s rest + n ≡ place_of s (drop n rest) = omega (arith, g.1) in
    reach f s (drop n rest) next st₂ (subst (λ (i : ℕ). Marked s i next) to (record_marked s rest so n next st mk e k)) v (omega (arith, g.0, g.1))
    (sym (pick_ne _ _ k) ∙ u))
    (eq_or_ne (get_or rest 0 0) 0))
    w
