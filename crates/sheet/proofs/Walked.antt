use Rattle.std.specs.Prelude.{Err}
-- The walk's definition, turn by turn, at every bound that is enough; and the part of the sheet that begins at a place.
use mathlib.Core.Path.{◌≡◌, sym, ap, subst, ◌∙◌}
use mathlib.Core.List.{List}
use Prim.Native.Nat.{ℕ, zero, suc, ◌+◌, ◌-◌, ◌≤◌, ◌<◌}
use native.Mathlib.Omega.{arith}
use lib.ListN.{length, get_or, take, drop, length-drop}
use lib.Seq.{take_all, drop-drop}
use Rattle.octets.proofs.Pick.{pick_eq, pick_ne}
use Rattle.sheet.specs.Reading.{record_of}
use Rattle.sheet.specs.Sound.{Sound, Counted, Standing}
use Rattle.sheet.specs.Handed.{tells, failed_at}
use Rattle.sheet.specs.Walk.{place_of, ended_of, onward, walk_of}
use Rattle.sheet.specs.declared.records.Counts.{Counts}
use Rattle.sheet.specs.declared.records.Fault.{Fault}
use Rattle.sheet.proofs.Onward.{Goes, sound_counted, record_sound}
use Rattle.sheet.proofs.Told.{tells_failed}
use Rattle.sheet.specs.Told.{Reading, reads, Verdict, faulty}

-- the walk stands as well before what is behind a record
pub standing_behind : (s rest : List ℕ) (so : Counts) (n : ℕ) (next : Counts) → Standing s rest so → Goes s rest n next → Standing s (drop n rest) next
standing_behind s rest so n next st g =
    let l : length (drop n rest) ≡ length rest - n = length-drop n rest in
    let f = st.fits in
    let e : length s - length rest + n ≡ length s - length (drop n rest) = omega (arith, g.1) in
    record {
      short = st.short;
      fits = omega arith;
      part = ap (drop n) st.part ∙ drop-drop n (length s - length rest) s ∙ ap (λ (i : ℕ). drop i s) e;
      sound = subst (λ (at : ℕ). Sound s at next) e g.2;
    }

-- the part of the sheet from a place on, as it is lent
abbrev pub part_from : ℕ → List ℕ → List ℕ
part_from at s = take (length s - at) (drop at s)

part_from_lem : (at : ℕ) (s : List ℕ) → part_from at s ≡ drop at s
part_from_lem at s = take_all (length s - at) (drop at s) (simp length-drop (omega arith))

pub place_from : (at : ℕ) (s : List ℕ) → at ≤ length s → at ≡ place_of s (drop at s)
place_from at s h = let l : length (drop at s) ≡ length s - at = length-drop at s in omega arith

module _ (s : List ℕ) (at : ℕ) (so : Counts) (st : (at ≤ length s) × Standing s (drop at s) so) where
  pub counted_at : Counted s so
  counted_at = let p = place_from at s st.0 in sound_counted s (place_of s (drop at s)) so st.1.sound (omega (arith, st.0))

  module _ (read : Reading) (is : read ≡ record_of s (part_from at s) so) where
    record_here : record_of s (drop at s) so ≡ read
    record_here = ap (λ (l : List ℕ). record_of s l so) (sym (part_from_lem at s)) ∙ sym is

    pub walked_fault : (fault : Fault) → read ≡ Err fault → (f : ℕ) → length s - at < f → tells s (failed_at read at) ≡ walk_of f s (drop at s) so
    unfolding walk_of onward failed_at
    walked_fault fault r zero h = absurd (let k : ⊥ = omega arith in k)
    walked_fault fault r (suc f) h =
        rw (record_here, r) (tells_failed s fault at (omega (arith, st.0, st.1.short)) ∙ ap (faulty fault) (place_from at s st.0))

    module _ (n : ℕ) (next : Counts) (r : read ≡ reads n next) where
      pub walked_end : get_or (part_from at s) 0 0 ≡ 0 → (f : ℕ) → length s - at < f → ended_of s (drop at s) so ≡ walk_of f s (drop at s) so
      unfolding walk_of onward
      walked_end z zero h = absurd (let k : ⊥ = omega arith in k)
      walked_end z (suc f) h = rw (record_here, r) (sym (pick_eq _ _ (ap (λ (l : List ℕ). get_or l 0 0) (sym (part_from_lem at s)) ∙ z)))

      module _ (on : get_or (part_from at s) 0 0 ≡ 0 → ⊥) where
        kind_on : get_or (drop at s) 0 0 ≡ 0 → ⊥
        kind_on z = on (ap (λ (l : List ℕ). get_or l 0 0) (part_from_lem at s) ∙ z)

        goes_on : Goes s (drop at s) n next
        goes_on = record_sound s (drop at s) so n next st.1 (record_here ∙ r) kind_on

        pub inside_on : at + n ≤ length s
        inside_on = let l : length (drop at s) ≡ length s - at = length-drop at s in omega (arith, st.0, goes_on.1)

        falls_on : length s - (at + n) < length s - at
        falls_on = omega (arith, goes_on.0, inside_on)

        -- what the walk asks at the next record: fewer octets are left, and it stands there as well
        pub asked_on : (t : ℕ) → length s - at ≡ t
            → (length s - (at + n) < t) × ((at + n ≤ length s) × Standing s (drop (at + n) s) next)
        asked_on t e = (
          subst (λ (m : ℕ). length s - (at + n) < m) e falls_on,
          (
            inside_on,
            subst (λ (l : List ℕ). Standing s l next) (drop-drop n at s) (standing_behind s (drop at s) so n next st.1 goes_on),
          ),
        )

        pub walked_on : (v : Verdict) → ((f : ℕ) → length s - (at + n) < f → v ≡ walk_of f s (drop (at + n) s) next)
            → (f : ℕ) → length s - at < f → v ≡ walk_of f s (drop at s) so
        unfolding walk_of onward
        walked_on v w zero h = absurd (let k : ⊥ = omega arith in k)
        walked_on v w (suc f) h =
            w f (omega (arith, falls_on)) ∙ ap (λ (l : List ℕ). walk_of f s l next) (sym (drop-drop n at s)) ∙ rw (record_here, r) (sym (pick_ne _ _ kind_on))
