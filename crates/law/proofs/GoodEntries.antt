-- What the records of a well-formed sheet have: the fields of their kind, each of its size, and the key in front.
use mathlib.Core.Bool.{◌||◌}
use mathlib.Core.Path.{◌≡◌, refl, ap, subst}
use mathlib.Core.List.{List, [], ◌∷◌, ◌++◌, map, append-nil}
use Prim.Native.Nat.{ℕ, ◌%◌, ◌≤◌, ◌<◌, ◌^◌}
use native.Mathlib.Omega.{arith}
use lib.Dec.{eqb}
use lib.ListN.{length, take}
use Rattle.law.specs.Words.{when, Every, in_octets}
use Rattle.law.specs.Sheet.{PduType, enhanced, short, link_kind, Region, Parameter, Item, Sheet}
use Rattle.law.specs.Sheet.{GoodRegion, GoodParameter, GoodItem, GoodRelease, WellFormed}
use Rattle.law.specs.Difference.{Entry, entry, region_entry, parameter_entry, item_entry, tolerance_entry, release_entry, entries_of, key_length, body_of}

-- the octets of each field of a kind
unfoldable pub sizes_of : ℕ → List ℕ
sizes_of kind =
    when (eqb kind 2) (4 ∷ 4 ∷ 1 ∷ [])
    (when (eqb kind 3) (2 ∷ 4 ∷ 1 ∷ []) (when (eqb kind 4) (1 ∷ 1 ∷ 32 ∷ []) (when (eqb kind 6 || eqb kind 7) (1 ∷ []) (1 ∷ 1 ∷ 1 ∷ []))))

-- a kind, and a key that fits its octets; it is 0 where the kind has none
pub record GoodKey (kind key : ℕ) : Type 0 where
  pub least : 1 ≤ kind
  pub most : kind ≤ 7
  pub fits : key < 256 ^ key_length kind

pub record GoodEntry (e : Entry) : Type 0 where
  pub known : GoodKey e.kind e.key
  pub sizes : map length e.fields ≡ sizes_of e.kind
  pub begins : take (key_length e.kind) (body_of e) ≡ in_octets (key_length e.kind) e.key

link_good : (t : PduType) (l version profile : ℕ) → GoodEntry (entry (link_kind t) 0 ((l ∷ []) ∷ (version ∷ []) ∷ (profile ∷ []) ∷ []))
unfolding when sizes_of
link_good enhanced l version profile =
    record { known = record { least = omega arith; most = omega arith; fits = omega arith }; sizes = refl; begins = refl }
link_good short l version profile =
    record { known = record { least = omega arith; most = omega arith; fits = omega arith }; sizes = refl; begins = refl }

region_good : (r : Region) → GoodRegion r → GoodEntry (region_entry r)
unfolding when sizes_of
region_good r g = record { known = record { least = omega arith; most = omega arith; fits = g.start }; sizes = refl; begins = refl }

parameter_good : (rs : List Region) (p : Parameter) → GoodParameter rs p → GoodEntry (parameter_entry p)
unfolding when sizes_of
parameter_good rs p g = record { known = record { least = omega arith; most = omega arith; fits = g.number }; sizes = refl; begins = refl }

item_good : (i : Item) → GoodItem i → GoodEntry (item_entry i)
unfolding when sizes_of
item_good i g =
    let whole : i.code ≡ i.code % 256 = omega (arith, g.code) in
    record {
      known = record { least = omega arith; most = omega arith; fits = g.code };
      sizes = ap (λ (n : ℕ). 1 ∷ 1 ∷ n ∷ []) g.all32;
      begins = ap (λ (n : ℕ). n ∷ []) whole;
    }

tolerance_good : (n : ℕ) → n ≤ 3 → GoodEntry (tolerance_entry n)
unfolding when sizes_of
tolerance_good n g = record { known = record { least = omega arith; most = omega arith; fits = omega arith }; sizes = refl; begins = refl }

release_good : (n : ℕ) → GoodRelease n → GoodEntry (release_entry n)
unfolding when sizes_of
release_good n g = record { known = record { least = omega arith; most = omega arith; fits = omega arith }; sizes = refl; begins = refl }

-- records of one part of a sheet, and those behind them
part_good : {A : Type 0} (f : A → Entry) (Good : A → Type 0) → ((x : A) → Good x → GoodEntry (f x)) → (xs : List A) (es : List Entry)
    → Every Good xs → Every GoodEntry es → Every GoodEntry (map f xs ++ es)
part_good f Good one [] es g rest = rest
part_good f Good one (x ∷ xs) es g rest = (one x g.0, part_good f Good one xs es g.1 rest)

pub entries_good : (h : Sheet) → WellFormed h → Every GoodEntry (entries_of h)
unfolding entries_of
entries_good h w =
    let tr = map release_entry h.releases in
    let ts = map tolerance_entry h.tolerances ++ tr in
    let ti = map item_entry h.items ++ ts in
    let tp = map parameter_entry h.parameters ++ ti in
    let releases : Every GoodEntry tr =
    subst (Every GoodEntry) (append-nil tr) (part_good release_entry GoodRelease release_good h.releases [] w.releases tt) in
    let tolerances : Every GoodEntry ts = part_good tolerance_entry (λ n. n ≤ 3) tolerance_good h.tolerances tr w.tolerances releases in
    let items : Every GoodEntry ti = part_good item_entry GoodItem item_good h.items ts w.items tolerances in
    let parameters : Every GoodEntry tp =
    part_good parameter_entry (GoodParameter h.regions) (parameter_good h.regions) h.parameters ti w.parameters items in
    (link_good h.pdu h.l h.version h.profile, part_good region_entry GoodRegion region_good h.regions tp w.regions parameters)
