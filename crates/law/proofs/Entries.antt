-- The records of a well-formed sheet are such as the machine reads them: each kind has its sizes, and its key in front.
use mathlib.Core.Path.{◌≡◌, refl, sym, ap, ◌∙◌}
use mathlib.Core.List.{List, [], ◌∷◌, ◌++◌, map, append-nil}
use Prim.Native.Nat.{ℕ, suc, ◌+◌, ◌%◌, ◌≤◌}
use native.Mathlib.Omega.{arith}
use lib.ListN.{length, get_or, drop}
use lib.Seq.{get_or-drop}
use Rattle.octets.specs.Numbers.{le2, le4, le2_at, le4_at}
use Rattle.octets.specs.Pick.{pick}
use Rattle.sheet.specs.Kinds.{size_of}
use Rattle.difference.specs.Records.{key_at, first_width, second_width, third_width}
use Rattle.law.specs.Words.{when, Every, in_octets}
use Rattle.law.specs.Sheet.{PduType, enhanced, short, Sheet, GoodRelease, link_kind}
use Rattle.law.specs.Sheet.{Region as Area, Parameter as Param, Item as Ident, GoodRegion, GoodParameter, GoodItem, WellFormed}
use Rattle.law.specs.Difference.{entry, entries_of, region_entry, parameter_entry, item_entry, tolerance_entry, release_entry}
use Rattle.law.proofs.Written.{le2_back, le4_back}
use Rattle.law.proofs.Rises.{every_append, every_map}
use Rattle.law.proofs.Fronts.{Good, first_at}

-- a number of octets at a place
two_at : (s : List ℕ) (i a b : ℕ) (t : List ℕ) → drop i s ≡ a ∷ b ∷ t → le2_at s i ≡ le2 a b
two_at s i a b t e =
    let x = first_at s i a (b ∷ t) e in
    let y : get_or s (i + 1) 0 ≡ b = sym (get_or-drop i s 1 0) ∙ ap (λ (l : List ℕ). get_or l 1 0) e in
    λ n. le2 (x n) (y n)

four_at : (s : List ℕ) (i a b c d : ℕ) (t : List ℕ) → drop i s ≡ a ∷ b ∷ c ∷ d ∷ t → le4_at s i ≡ le4 a b c d
four_at s i a b c d t e =
    let x = first_at s i a (b ∷ c ∷ d ∷ t) e in
    let y : get_or s (i + 1) 0 ≡ b = sym (get_or-drop i s 1 0) ∙ ap (λ (l : List ℕ). get_or l 1 0) e in
    let z : get_or s (i + 2) 0 ≡ c = sym (get_or-drop i s 2 0) ∙ ap (λ (l : List ℕ). get_or l 2 0) e in
    let w : get_or s (i + 3) 0 ≡ d = sym (get_or-drop i s 3 0) ∙ ap (λ (l : List ℕ). get_or l 3 0) e in
    λ n. le4 (x n) (y n) (z n) (w n)

link_good : (pdu : PduType) (l v p : ℕ) → Good (entry (link_kind pdu) 0 ((l ∷ []) ∷ (v ∷ []) ∷ (p ∷ []) ∷ []))
unfolding size_of key_at first_width second_width third_width pick when
link_good enhanced l v p = record {
  some = omega arith;
  few = omega arith;
  small = omega arith;
  size = refl;
  sized = refl;
  rest = l ∷ v ∷ p ∷ [];
  begins = refl;
  keyed = λ s i t e. refl;
}
link_good short l v p = record {
  some = omega arith;
  few = omega arith;
  small = omega arith;
  size = refl;
  sized = refl;
  rest = l ∷ v ∷ p ∷ [];
  begins = refl;
  keyed = λ s i t e. refl;
}

region_good : (r : Area) → GoodRegion r → Good (region_entry r)
unfolding size_of key_at first_width second_width third_width pick when
region_good r g = record {
  some = omega arith;
  few = omega arith;
  small = g.start;
  size = refl;
  sized = refl;
  rest = in_octets 4 r.length ++ r.rights ∷ [];
  begins = refl;
  keyed = λ s i t e. four_at s (i + 1) _ _ _ _ _ e ∙ le4_back r.start g.start;
}

parameter_good : (regions : List Area) (p : Param) → GoodParameter regions p → Good (parameter_entry p)
unfolding size_of key_at first_width second_width third_width pick when
parameter_good regions p g = record {
  some = omega arith;
  few = omega arith;
  small = omega (arith, g.number);
  size = refl;
  sized = refl;
  rest = in_octets 4 p.address ++ p.size ∷ [];
  begins = refl;
  keyed = λ s i t e. two_at s (i + 1) _ _ _ e ∙ le2_back p.number g.number;
}

item_good : (x : Ident) → GoodItem x → Good (item_entry x)
unfolding size_of key_at first_width second_width third_width pick when
item_good x g = record {
  some = omega arith;
  few = omega arith;
  small = omega (arith, g.code);
  size = ap (λ (n : ℕ). suc (suc (suc n))) (sym g.all32 ∙ ap length (sym (append-nil x.octets)));
  sized = ap (λ (n : ℕ). 1 ∷ 1 ∷ n ∷ []) g.all32;
  rest = x.length ∷ x.octets ++ [];
  begins = let k : x.code % 256 ≡ x.code = omega (arith, g.code) in ap (λ (n : ℕ). n ∷ x.length ∷ x.octets ++ []) (sym k);
  keyed = λ s i t e. first_at s (i + 1) x.code _ e;
}

tolerance_good : (n : ℕ) → n ≤ 3 → Good (tolerance_entry n)
unfolding size_of key_at first_width second_width third_width pick when
tolerance_good n g =
    record { some = omega arith; few = omega arith; small = omega arith; size = refl; sized = refl; rest = n ∷ []; begins = refl; keyed = λ s i t e. refl }

release_good : (n : ℕ) → GoodRelease n → Good (release_entry n)
unfolding size_of key_at first_width second_width third_width pick when
release_good n g =
    record { some = omega arith; few = omega arith; small = omega arith; size = refl; sized = refl; rest = n ∷ []; begins = refl; keyed = λ s i t e. refl }

pub entries_good : (h : Sheet) → WellFormed h → Every Good (entries_of h)
unfolding entries_of
entries_good h w = (
  link_good h.pdu h.l h.version h.profile,
  every_append Good (map region_entry h.regions) _ (every_map GoodRegion Good region_entry region_good h.regions w.regions)
      (every_append Good (map parameter_entry h.parameters) _
      (every_map (GoodParameter h.regions) Good parameter_entry (parameter_good h.regions) h.parameters w.parameters)
      (every_append Good (map item_entry h.items) _ (every_map GoodItem Good item_entry item_good h.items w.items)
      (every_append Good (map tolerance_entry h.tolerances) _ (every_map (λ n. n ≤ 3) Good tolerance_entry tolerance_good h.tolerances w.tolerances)
      (every_map GoodRelease Good release_entry release_good h.releases w.releases)))),
)
