-- A record that was read keeps the walk sound, kind by kind.
use mathlib.Core.Bool.{true}
use mathlib.Core.Logic.{inl, inr, ⊎_elim}
use mathlib.Core.Path.{◌≡◌, refl, sym, ap, subst, ◌∙◌}
use mathlib.Core.List.{List}
use Prim.Native.Nat.{ℕ, suc, ◌+◌, ◌-◌, ◌*◌, ◌≤◌, ◌<◌}
use native.Mathlib.Nat.{add_assoc}
use native.Mathlib.Omega.{arith}
use borrow.Author.Tests.{eqb-true}
use lib.ListN.{get_or, drop}
use lib.Seq.{get_or-drop}
use Rattle.octets.proofs.Cases.{lt_or_le}
use Rattle.octets.proofs.Pick.{pick_ne}
use Rattle.octets.specs.Parts.{all_zero}
use Rattle.regions.specs.Region.{region_from, region_at, regions_of, listed}
use Rattle.regions.specs.Search.{total_of, span_has}
use Rattle.regions.specs.declared.Right.TheVariants.{Mapped}
use Rattle.regions.proofs.Apart.{total_more}
use Rattle.sheet.specs.Entries.{parameter_from, parameter_at, item_from, item_at}
use Rattle.sheet.specs.Kinds.{length_fits, end_before, least_number, least_code}
use Rattle.sheet.specs.Reading.{tail_of}
use Rattle.sheet.specs.Walk.{none}
use Rattle.sheet.specs.Sound.{FineRegion, FineParameter, FineItem, Sound, behind}
use Rattle.sheet.specs.declared.records.Counts.{Counts}
use Rattle.sheet.proofs.Judged.{RegionRead, ParameterRead, ItemRead, ToleranceRead, ReleaseRead}

-- a record read from the part that begins at its place is the record at that place
pub region_there : (s : List ℕ) (at : ℕ) → region_from (drop at s) 0 ≡ region_from s at
unfolding region_from
region_there s at = simp (get_or-drop, add_assoc)

pub parameter_there : (s : List ℕ) (at : ℕ) → parameter_from (drop at s) 0 ≡ parameter_from s at
unfolding parameter_from
parameter_there s at = simp (get_or-drop, add_assoc)

pub code_there : (s : List ℕ) (at : ℕ) → (item_from (drop at s) 0).code ≡ (item_from s at).code
unfolding item_from
code_there s at = get_or-drop at s 1 0

pub length_there : (s : List ℕ) (at : ℕ) → (item_from (drop at s) 0).length ≡ (item_from s at).length
unfolding item_from
length_there s at = get_or-drop at s 2 0

-- what holds of each number below n, and of n, holds of each below n + 1
pub one_more : (P : ℕ → Type 0) (n : ℕ) → ((i : ℕ) → i < n → P i) → P n → (i : ℕ) → i < n + 1 → P i
one_more P n below here i h =
    ⊎_elim (λ l. below i l) (λ l. subst P (let e : n ≡ i = omega arith in e) here) (lt_or_le i n)

-- the same of each number that has another of them behind it, and of the last of them
one_more_pair : (P : ℕ → Type 0) (n : ℕ) → ((i : ℕ) → suc i < n → P i) → ((n ≡ 0 → ⊥) → P (n - 1)) → (i : ℕ) → suc i < n + 1 → P i
one_more_pair P n below last i h =
    ⊎_elim (λ l. below i l)
    (λ l. subst P (let e : n - 1 ≡ i = omega arith in e) (last (λ z. let k : ⊥ = omega arith in k)))
    (lt_or_le (suc i) n)

module _ (s : List ℕ) (at : ℕ) (so : Counts) (ok : Sound s at so) (first : length_fits (get_or s 0 0) (get_or s 1 0) ≡ true) (here : at ≡ behind so) (n : ℕ) (next : Counts) where
  pub step_region : so.parameters + so.items + so.tolerances + so.releases ≡ 0 → RegionRead (region_from (drop at s) 0) (end_before s so) so n next → Sound s (at + n) next
  unfolding end_before
  step_region none-behind q =
      let there : region_from (drop at s) 0 ≡ region_at s so.regions =
      region_there s at ∙ ap (region_from s) (let e : at ≡ 4 + 10 * so.regions = omega arith in e) in
      let len : (region_from (drop at s) 0).length ≡ (region_at s so.regions).length = ap (λ r. r.length) there in
      subst (λ (c : Counts). Sound s (at + n) c) q.counts (record {
        begun = inr (omega (arith, q.size), first);
        few_regions = omega (arith, q.few);
        few_parameters = ok.few_parameters;
        few_items = ok.few_items;
        few_tolerances = ok.few_tolerances;
        tolerance_fine = λ t. absurd (let k : ⊥ = omega (arith, none-behind) in k);
        few_releases = ok.few_releases;
        release_fine = λ t. absurd (let k : ⊥ = omega (arith, none-behind) in k);
        regions_fine = one_more (λ i. FineRegion (region_at s i)) so.regions ok.regions_fine
            (subst (λ r. FineRegion r) there (record { some = q.some; ends = q.ends; bits = q.bits }));
        regions_rise = one_more_pair (λ i. (region_at s i).start + (region_at s i).length ≤ (region_at s (suc i)).start) so.regions ok.regions_rise
            (λ z.
            let e : so.regions ≡ suc (so.regions - 1) = omega arith in
            subst (λ i. (region_at s (so.regions - 1)).start + (region_at s (so.regions - 1)).length ≤ (region_at s i).start) e
            (subst (λ r. (region_at s (so.regions - 1)).start + (region_at s (so.regions - 1)).length ≤ r.start) there
            (subst (λ (x : ℕ). x ≤ (region_from (drop at s) 0).start) (pick_ne _ _ z) q.rises)));
        memory_sum =
            ap (λ (m : ℕ). m + (region_from (drop at s) 0).length) ok.memory_sum
            ∙ ap (λ (m : ℕ). total_of (regions_of s so.regions) + m) len
            ∙ sym (total_more (region_at s) so.regions);
        memory_room = q.room;
        parameters_fine = λ j h. absurd (let k : ⊥ = omega (arith, none-behind) in k);
        parameters_rise = λ j h. absurd (let k : ⊥ = omega (arith, none-behind) in k);
        items_fine = λ j h. absurd (let k : ⊥ = omega (arith, none-behind) in k);
        items_rise = λ j h. absurd (let k : ⊥ = omega (arith, none-behind) in k);
      })

  pub step_parameter : so.items + so.tolerances + so.releases ≡ 0
      → ParameterRead (parameter_from (drop at s) 0) (least_number s so)
      (span_has (regions_of s so.regions) Mapped (parameter_from (drop at s) 0).address (parameter_from (drop at s) 0).size) so n next
      → Sound s (at + n) next
  unfolding least_number
  step_parameter none-behind q =
      let r = so.regions in
      let p = so.parameters in
      let there : parameter_from (drop at s) 0 ≡ parameter_at s r p =
      parameter_there s at ∙ ap (parameter_from s) (let e : at ≡ 4 + 10 * r + 8 * p = omega arith in e) in
      subst (λ (c : Counts). Sound s (at + n) c) q.counts (record {
        begun = inr (omega (arith, q.size), first);
        few_regions = ok.few_regions;
        few_parameters = omega (arith, q.few);
        few_items = ok.few_items;
        few_tolerances = ok.few_tolerances;
        tolerance_fine = λ t. absurd (let k : ⊥ = omega (arith, none-behind) in k);
        few_releases = ok.few_releases;
        release_fine = λ t. absurd (let k : ⊥ = omega (arith, none-behind) in k);
        regions_fine = ok.regions_fine;
        regions_rise = ok.regions_rise;
        memory_sum = ok.memory_sum;
        memory_room = ok.memory_room;
        parameters_fine = one_more (λ j. FineParameter s r (parameter_at s r j)) p ok.parameters_fine
            (subst (λ x. FineParameter s r x) there (record { some = q.some; most = q.most; mapped = eqb-true _ _ q.inside }));
        parameters_rise = one_more_pair (λ j. (parameter_at s r j).number < (parameter_at s r (suc j)).number) p ok.parameters_rise
            (λ z.
            let e : p ≡ suc (p - 1) = omega arith in
            subst (λ j. (parameter_at s r (p - 1)).number < (parameter_at s r j).number) e
            (subst (λ x. (parameter_at s r (p - 1)).number < x.number) there
            (let m = pick_ne {m = p} {n = 0} 0 ((parameter_at s r (p - 1)).number + 1) z in omega (arith, q.rises))));
        items_fine = λ j h. absurd (let k : ⊥ = omega (arith, none-behind) in k);
        items_rise = λ j h. absurd (let k : ⊥ = omega (arith, none-behind) in k);
      })

  pub step_item : so.tolerances + so.releases ≡ 0 → ItemRead (item_from (drop at s) 0) (all_zero (tail_of (drop at s))) (least_code s so) so n next → Sound s (at + n) next
  unfolding least_code
  step_item none-behind q =
      let r = so.regions in
      let p = so.parameters in
      let k = so.items in
      let e : at ≡ 4 + 10 * r + 8 * p + 35 * k = omega arith in
      let code : (item_from (drop at s) 0).code ≡ (item_at s r p k).code = code_there s at ∙ ap (λ (x : ℕ). (item_from s x).code) e in
      let len : (item_from (drop at s) 0).length ≡ (item_at s r p k).length = length_there s at ∙ ap (λ (x : ℕ). (item_from s x).length) e in
      subst (λ (c : Counts). Sound s (at + n) c) q.counts (record {
        begun = inr (omega (arith, q.size), first);
        few_regions = ok.few_regions;
        few_parameters = ok.few_parameters;
        few_items = omega (arith, q.few);
        few_tolerances = ok.few_tolerances;
        tolerance_fine = λ t. absurd (let k : ⊥ = omega (arith, none-behind) in k);
        few_releases = ok.few_releases;
        release_fine = λ t. absurd (let k : ⊥ = omega (arith, none-behind) in k);
        regions_fine = ok.regions_fine;
        regions_rise = ok.regions_rise;
        memory_sum = ok.memory_sum;
        memory_room = ok.memory_room;
        parameters_fine = ok.parameters_fine;
        parameters_rise = ok.parameters_rise;
        items_fine = one_more (λ j. FineItem (item_at s r p j)) k ok.items_fine (record { some = omega (arith, q.some); most = omega (arith, q.most) });
        items_rise = one_more_pair (λ j. (item_at s r p j).code < (item_at s r p (suc j)).code) k ok.items_rise
            (λ z.
            let d : k ≡ suc (k - 1) = omega arith in
            subst (λ j. (item_at s r p (k - 1)).code < (item_at s r p j).code) d
            (let m = pick_ne {m = k} {n = 0} 0 ((item_at s r p (k - 1)).code + 1) z in omega (arith, q.rises)));
      })

  pub step_tolerance : so.tolerances + so.releases ≡ 0 → ToleranceRead (get_or (drop at s) 1 0) so n next → Sound s (at + n) next
  step_tolerance none-behind q =
      let there : get_or (drop at s) 1 0 ≡ get_or s (5 + 10 * so.regions + 8 * so.parameters + 35 * so.items) 0 =
      get_or-drop at s 1 0 ∙ ap (λ (i : ℕ). get_or s i 0) (let e : at + 1 ≡ 5 + 10 * so.regions + 8 * so.parameters + 35 * so.items = omega arith in e) in
      subst (λ (c : Counts). Sound s (at + n) c) q.counts (record {
        begun = inr (omega (arith, q.size), first);
        few_regions = ok.few_regions;
        few_parameters = ok.few_parameters;
        few_items = ok.few_items;
        few_tolerances = omega arith;
        tolerance_fine = λ t. omega (arith, q.most, there);
        few_releases = ok.few_releases;
        release_fine = λ t. absurd (let k : ⊥ = omega (arith, none-behind) in k);
        regions_fine = ok.regions_fine;
        regions_rise = ok.regions_rise;
        memory_sum = ok.memory_sum;
        memory_room = ok.memory_room;
        parameters_fine = ok.parameters_fine;
        parameters_rise = ok.parameters_rise;
        items_fine = ok.items_fine;
        items_rise = ok.items_rise;
      })

  pub step_release : so.releases ≡ 0 → ReleaseRead (get_or (drop at s) 1 0) so n next → Sound s (at + n) next
  step_release none-behind q =
      let place = 5 + 10 * so.regions + 8 * so.parameters + 35 * so.items + 2 * so.tolerances in
      let there : get_or (drop at s) 1 0 ≡ get_or s place 0 =
      get_or-drop at s 1 0 ∙ ap (λ (i : ℕ). get_or s i 0) (let e : at + 1 ≡ place = omega arith in e) in
      subst (λ (c : Counts). Sound s (at + n) c) q.counts (record {
        begun = inr (omega (arith, q.size), first);
        few_regions = ok.few_regions;
        few_parameters = ok.few_parameters;
        few_items = ok.few_items;
        few_tolerances = ok.few_tolerances;
        tolerance_fine = ok.tolerance_fine;
        few_releases = omega arith;
        release_fine = λ t. (omega (arith, q.some, there), omega (arith, q.most, there));
        regions_fine = ok.regions_fine;
        regions_rise = ok.regions_rise;
        memory_sum = ok.memory_sum;
        memory_room = ok.memory_room;
        parameters_fine = ok.parameters_fine;
        parameters_rise = ok.parameters_rise;
        items_fine = ok.items_fine;
        items_rise = ok.items_rise;
      })

-- at the front: the link record was read
pub step_link : (s : List ℕ) → Sound s 0 none → length_fits (get_or s 0 0) (get_or s 1 0) ≡ true → Sound s 4 none
step_link s ok first = record {
  begun = inr (refl, first);
  few_regions = ok.few_regions;
  few_parameters = ok.few_parameters;
  few_items = ok.few_items;
  few_tolerances = ok.few_tolerances;
  tolerance_fine = ok.tolerance_fine;
  few_releases = ok.few_releases;
  release_fine = ok.release_fine;
  regions_fine = ok.regions_fine;
  regions_rise = ok.regions_rise;
  memory_sum = ok.memory_sum;
  memory_room = ok.memory_room;
  parameters_fine = ok.parameters_fine;
  parameters_rise = ok.parameters_rise;
  items_fine = ok.items_fine;
  items_rise = ok.items_rise;
}

-- before the first record nothing was counted
pub start_sound : (s : List ℕ) → Sound s 0 none
unfolding total_of listed
start_sound s =
    record {
      begun = inl (refl, refl);
      few_regions = omega arith;
      few_parameters = omega arith;
      few_items = omega arith;
      few_tolerances = omega arith;
      tolerance_fine = λ t. absurd (let k : ⊥ = omega arith in k);
      few_releases = omega arith;
      release_fine = λ t. absurd (let k : ⊥ = omega arith in k);
      regions_fine = λ i h. absurd (let k : ⊥ = omega arith in k);
      regions_rise = λ i h. absurd (let k : ⊥ = omega arith in k);
      memory_sum = refl;
      memory_room = omega arith;
      parameters_fine = λ i h. absurd (let k : ⊥ = omega arith in k);
      parameters_rise = λ i h. absurd (let k : ⊥ = omega arith in k);
      items_fine = λ i h. absurd (let k : ⊥ = omega arith in k);
      items_rise = λ i h. absurd (let k : ⊥ = omega arith in k);
    }
