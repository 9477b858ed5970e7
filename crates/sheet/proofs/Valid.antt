-- The laws of a valid sheet, which everything above uses.
--     valid_sheet       what holds of a sheet with a layout
--     valid_apart       its regions are ordered and apart
--     valid_counted     and all its records are in the sheet
--     valid_parameter   a parameter that was found has a size in range, and its span lies wholly in regions
--     valid_item        an ID item that was found has a length in range
--     item_inside       and its octets stand inside the sheet
--     tolerance_small   at most 3 failures in a row are tolerated
--     release_some      the release of the drive rules is 1 at least
--     release_small     and 2 at most
--     length_least      L is at least 8
--     length_most       and at most 64
--     length_short      and 16 in the short type
--     same_layout       a sheet has one layout
use Rattle.std.specs.Prelude.{Some, Err, Ok}
use mathlib.Core.Bool.{Bool, true, false, not, ◌||◌, true≢false, and-eq-true_iff}
use mathlib.Core.Logic.{⊎_elim}
use mathlib.Core.Path.{◌≡◌, refl, sym, ap, subst, ◌∙◌}
use mathlib.Core.List.{List}
use Prim.Native.Nat.{ℕ, zero, suc, ◌+◌, ◌-◌, ◌≤◌, ◌<◌}
use native.Mathlib.Nat.{le_refl}
use native.Mathlib.Omega.{arith}
use borrow.Author.Tests.{eqb-true, eqb-false, ltb-false, eq-eqb, ne_eqb, not-false}
use lib.Dec.{eqb}
use lib.ListN.{length, get_or, drop}
use Rattle.octets.proofs.Cases.{eq_or_ne, lt_or_le}
use Rattle.octets.proofs.Pick.{passed, pick_eq, pick_ne}
use Rattle.regions.specs.Apart.{Apart}
use Rattle.regions.specs.Region.{regions_of}
use Rattle.sheet.specs.Entries.{parameter_at, parameters_of, item_from, item_at, items_of, sought_parameter, sought_item}
use Rattle.sheet.specs.Kinds.{is_length, length_fits, misplaced_of}
use Rattle.sheet.specs.Reading.{record_of}
use Rattle.sheet.specs.Sound.{Sound, Counted, Standing, FineParameter, FineItem, behind, counts_of}
use Rattle.sheet.specs.Walk.{none, form_of, tolerance_in, release_in, place_of, layout_of, ended_of, onward, walk_of, verdict_of}
use Rattle.sheet.specs.declared.entries.Parameter.{Parameter}
use Rattle.sheet.specs.declared.entries.Item.{Item}
use Rattle.sheet.specs.declared.records.Counts.{Counts}
use Rattle.sheet.specs.declared.records.Fault.{Fault}
use Rattle.sheet.specs.declared.walk.Form.TheVariants.{Enhanced, Short}
use Rattle.sheet.specs.declared.walk.Layout.{Layout}
use Rattle.sheet.proofs.Judged.{bad_record}
use Rattle.sheet.proofs.Onward.{link_begins, sound_apart, sound_counted, record_sound}
use Rattle.sheet.proofs.Sought.{sought_has}
use Rattle.sheet.proofs.Steps.{start_sound}
use Rattle.sheet.proofs.Walked.{standing_behind}
use Rattle.sheet.specs.Told.{Reading, reads, Verdict, faulty}

pub record ValidSheet (s : List ℕ) (lay : Layout) : Type 0 where
  pub l_fits : length_fits (get_or s 0 0) lay.l ≡ true
  pub form : lay.form ≡ form_of (get_or s 0 0)
  pub short : length s ≤ 2048
  pub octets : length s ≡ behind (counts_of lay) + 1
  pub sound : Sound s (behind (counts_of lay)) (counts_of lay)
  pub tolerance : lay.tolerance ≡ tolerance_in s (counts_of lay)
  pub release : lay.release ≡ release_in s (counts_of lay)

no_fault : {f : Fault} {p : ℕ} {lay : Layout} → faulty f p ≡ Ok lay → ⊥
no_fault e = cc

pub same_layout : {a b : Layout} → ◌≡◌ {A = Verdict} (Ok a) (Ok b) → a ≡ b
same_layout e = cc

module _ (s rest : List ℕ) (so : Counts) (st : Standing s rest so) (lay : Layout) where
  -- at the end record: it is not the first, and it is the last octet
  valid_end : (n : ℕ) (next : Counts) → record_of s rest so ≡ reads n next → get_or rest 0 0 ≡ 0 → ended_of s rest so ≡ Ok lay → ValidSheet s lay
  unfolding record_of ended_of layout_of misplaced_of
  valid_end n next e k v =
      let p₁ = passed _ bad_record e in
      let p₂ = passed _ bad_record p₁.1 in
      let p₃ = passed _ bad_record p₂.1 in
      let q = passed _ no_fault v in
      let some = eqb-false (length rest) 0 p₁.0 in
      let last = ltb-false 1 (length rest) q.0 in
      let f = st.fits in
      ⊎_elim
      (λ z.
      let t = eq-eqb (length rest) (length s) (omega (arith, z.0)) in
      let m = subst (λ (b : Bool). misplaced_of b (get_or rest 0 0) so ≡ false) t p₃.0 in
      absurd (link_begins (get_or rest 0 0) (not-false _ m) k))
      (λ h.
      subst (λ (l : Layout). ValidSheet s l) (same_layout q.1) (record {
        l_fits = h.1;
        form = refl;
        short = st.short;
        octets = omega (arith, h.0);
        sound = subst (λ (at : ℕ). Sound s at so) h.0 st.sound;
        tolerance = refl;
        release = refl;
      }))
      st.sound.begun

  -- the reading of one record, taken apart
  valid_step : (read : Reading) (on : ℕ → Counts → Verdict) → record_of s rest so ≡ read
      → ((n : ℕ) (next : Counts) → record_of s rest so ≡ reads n next → on n next ≡ Ok lay → ValidSheet s lay)
      → onward read (place_of s rest) on ≡ Ok lay → ValidSheet s lay
  unfolding onward
  valid_step (Err fault) on e go v = absurd (no_fault v)
  valid_step (Ok r) on e go v = go r.size r.counts e v

valid_walk : (f : ℕ) (s rest : List ℕ) (so : Counts) → Standing s rest so → (lay : Layout) → walk_of f s rest so ≡ Ok lay → ValidSheet s lay
unfolding walk_of
valid_walk zero s rest so st lay v = absurd (no_fault v)
valid_walk (suc f) s rest so st lay v =
    valid_step s rest so st lay (record_of s rest so) _ refl
    (λ n next e w.
    ⊎_elim
    (λ k. valid_end s rest so st lay n next e k (sym (pick_eq _ _ k) ∙ w))
    (λ k.
    valid_walk f s (drop n rest) next (standing_behind s rest so n next st (record_sound s rest so n next st e k)) lay (sym (pick_ne _ _ k) ∙ w))
    (eq_or_ne (get_or rest 0 0) 0))
    v

pub valid_sheet : (s : List ℕ) (lay : Layout) → verdict_of s ≡ Ok lay → ValidSheet s lay
unfolding verdict_of
valid_sheet s lay v =
    let p = passed _ no_fault v in
    let e : 0 ≡ length s - length s = omega arith in
    valid_walk (suc (length s)) s s none
    (record {
      short = ltb-false 2048 (length s) p.0;
      fits = le_refl (length s);
      part = ap (λ (i : ℕ). drop i s) e;
      sound = subst (λ (i : ℕ). Sound s i none) e (start_sound s);
    })
    lay p.1

enhanced_is : Enhanced ≡ Short → ⊥
enhanced_is e = cc

five_least : (l : ℕ) → is_length l ≡ true → 8 ≤ l
unfolding is_length
five_least l e =
    ⊎_elim
    (λ (h : l < 8). absurd (true≢false (sym e ∙ short h)))
    (λ h. h)
    (lt_or_le l 8)
  where
    none : (k : ℕ) → l < 8 → 8 ≤ k → eqb l k ≡ false
    none k h m = ne_eqb l k (λ q. let w : ⊥ = omega arith in w)

    short : l < 8 → is_length l ≡ false
    short h = rw (none 8 h (omega arith), none 16 h (omega arith), none 32 h (omega arith), none 48 h (omega arith), none 64 h (omega arith))

five_most : (l : ℕ) → is_length l ≡ true → l ≤ 64
unfolding is_length
five_most l e =
    ⊎_elim
    (λ (h : 64 < l). absurd (true≢false (sym e ∙ long h)))
    (λ h. h)
    (lt_or_le 64 l)
  where
    none : (k : ℕ) → 64 < l → k ≤ 64 → eqb l k ≡ false
    none k h m = ne_eqb l k (λ q. let w : ⊥ = omega arith in w)

    long : 64 < l → is_length l ≡ false
    long h = rw (none 8 h (omega arith), none 16 h (omega arith), none 32 h (omega arith), none 48 h (omega arith), none 64 h (omega arith))

-- an L that fits a link record's kind is one of the five, and 16 where the kind picks the short type
fits_five : (kind l : ℕ) → length_fits kind l ≡ true → is_length l ≡ true
unfolding length_fits
fits_five kind l e = ((and-eq-true_iff (is_length l) _).0 e).0

fits_short : (kind l : ℕ) → length_fits kind l ≡ true → form_of kind ≡ Short → l ≡ 16
unfolding length_fits form_of
fits_short kind l e short =
    ⊎_elim
    (λ (k : kind ≡ 5).
    let q = ((and-eq-true_iff (is_length l) _).0 e).1 in
    eqb-true l 16 (sym (ap (λ (b : Bool). not b || eqb l 16) (eq-eqb kind 5 k)) ∙ q))
    (λ (k : kind ≡ 5 → ⊥). absurd (enhanced_is (sym (pick_ne _ _ k) ∙ short)))
    (eq_or_ne kind 5)

module _ (s : List ℕ) (lay : Layout) (ok : ValidSheet s lay) where
  pub valid_apart : Apart 0 (regions_of s lay.regions)
  valid_apart = sound_apart s (behind (counts_of lay)) (counts_of lay) ok.sound

  pub valid_counted : Counted s (counts_of lay)
  valid_counted = sound_counted s (behind (counts_of lay)) (counts_of lay) ok.sound (omega (arith, ok.octets))

  pub valid_parameter : (n : ℕ) (p : Parameter) → sought_parameter (parameters_of s lay.regions lay.parameters) n ≡ Some p
      → FineParameter s lay.regions p
  valid_parameter n p e =
      sought_has (λ (x : Parameter). x.number) (parameter_at s lay.regions) lay.parameters n (λ (x : Parameter). FineParameter s lay.regions x)
      ok.sound.parameters_fine p e

  pub valid_item : (n : ℕ) (i : Item) → sought_item (items_of s lay.regions lay.parameters lay.items) n ≡ Some i → FineItem i
  valid_item n i e =
      sought_has (λ (x : Item). x.code) (item_at s lay.regions lay.parameters) lay.items n (λ (x : Item). FineItem x) ok.sound.items_fine i e

  -- the octets of an ID item that was found stand inside the sheet
  pub item_inside : (n : ℕ) (i : Item) → sought_item (items_of s lay.regions lay.parameters lay.items) n ≡ Some i
      → i.at + 32 ≤ length s
  unfolding item_from
  item_inside n i e =
      sought_has (λ (x : Item). x.code) (item_at s lay.regions lay.parameters) lay.items n (λ (x : Item). x.at + 32 ≤ length s)
      (λ k h. let o = ok.octets in omega arith) i e

  -- the shortest PDU has 8 octets
  pub length_most : lay.l ≤ 64
  length_most = five_most lay.l (fits_five (get_or s 0 0) lay.l ok.l_fits)

  pub length_least : 8 ≤ lay.l
  length_least = five_least lay.l (fits_five (get_or s 0 0) lay.l ok.l_fits)

  -- the short type's PDU has 16 octets
  pub length_short : lay.form ≡ Short → lay.l ≡ 16
  length_short e = fits_short (get_or s 0 0) lay.l ok.l_fits (sym ok.form ∙ e)

pub tolerance_small : (s : List ℕ) (lay : Layout) → verdict_of s ≡ Ok lay → lay.tolerance ≤ 3
unfolding tolerance_in
tolerance_small s lay v =
    let ok = valid_sheet s lay v in
    ⊎_elim
    (λ (z : lay.tolerances ≡ 0). let e = ok.tolerance ∙ pick_eq _ _ z in omega arith)
    (λ (z : lay.tolerances ≡ 0 → ⊥). let e = ok.tolerance ∙ pick_ne _ _ z in let f = ok.sound.tolerance_fine (omega arith) in omega arith)
    (eq_or_ne lay.tolerances 0)

release_fits : (s : List ℕ) (lay : Layout) → verdict_of s ≡ Ok lay → (1 ≤ lay.release) × (lay.release ≤ 2)
unfolding release_in
release_fits s lay v =
    let ok = valid_sheet s lay v in
    ⊎_elim
    (λ (z : lay.releases ≡ 0). let e = ok.release ∙ pick_eq _ _ z in (omega arith, omega arith))
    (λ (z : lay.releases ≡ 0 → ⊥).
    let e = ok.release ∙ pick_ne _ _ z in
    let f = ok.sound.release_fine (omega arith) in
    (omega (arith, f.0), omega (arith, f.1)))
    (eq_or_ne lay.releases 0)

pub release_some : (s : List ℕ) (lay : Layout) → verdict_of s ≡ Ok lay → 1 ≤ lay.release
release_some s lay v = (release_fits s lay v).0

pub release_small : (s : List ℕ) (lay : Layout) → verdict_of s ≡ Ok lay → lay.release ≤ 2
release_small s lay v = (release_fits s lay v).1
