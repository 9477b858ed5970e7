-- The records of a well-formed sheet rise by their order, and each has the fields of its kind.
use mathlib.Core.Path.{◌≡◌, refl, subst}
use mathlib.Core.List.{List, [], ◌∷◌, ◌++◌, map, append-nil}
use Prim.Native.Nat.{ℕ, ◌+◌, ◌*◌, ◌≤◌, ◌<◌}
use native.Mathlib.Omega.{arith}
use lib.ListN.{length}
use Rattle.law.specs.Words.{when, Every, From, InARow}
use Rattle.law.specs.Sheet.{PduType, enhanced, short, Sheet, link_kind}
use Rattle.law.specs.Sheet.{Region as Area, Parameter as Param, Item as Ident, GoodRegion, GoodParameter, GoodItem, WellFormed, Apart}
use Rattle.law.specs.Difference.{Entry, entry, entries_of, link_entry, region_entry, parameter_entry, item_entry, tolerance_entry, release_entry, rank, rank_of}
use Rattle.law.proofs.Merge.{Rising, Shaped}

-- what each of two lists has, and what each of a list comes to have
pub every_append : {A : Type 0} (P : A → Type 0) (xs ys : List A) → Every P xs → Every P ys → Every P (xs ++ ys)
every_append P [] ys p q = q
every_append P (x ∷ xs) ys p q = (p.0, every_append P xs ys p.1 q)

pub every_map : {A B : Type 0} (Good : A → Type 0) (P : B → Type 0) (g : A → B) → ((x : A) → Good x → P (g x)) → (xs : List A) → Every Good xs
    → Every P (map g xs)
every_map Good P g one [] p = tt
every_map Good P g one (x ∷ xs) p = (one x p.0, every_map Good P g one xs p.1)

pub every_weaker : {A : Type 0} (P Q : A → Type 0) → ((x : A) → P x → Q x) → (xs : List A) → Every P xs → Every Q xs
every_weaker P Q one [] p = tt
every_weaker P Q one (x ∷ xs) p = (one x p.0, every_weaker P Q one xs p.1)

every_one : {A : Type 0} (P : A → Type 0) → ((x : A) → P x) → (xs : List A) → Every P xs
every_one P one [] = tt
every_one P one (x ∷ xs) = (one x, every_one P one xs)

-- records that rise from a bound on
abbrev Above : ℕ → List Entry → Type 0
Above b [] = Unit {0}
Above b (y ∷ ys) = (b < rank_of y) × From (λ (x y : Entry). rank_of x < rank_of y) y ys

above_from : (x : Entry) (es : List Entry) → Above (rank_of x) es → From (λ (x y : Entry). rank_of x < rank_of y) x es
above_from x [] u = tt
above_from x (y ∷ ys) u = u

-- records of one kind, and what is behind them
module _ {A : Type 0} (g : A → Entry) (key : A → ℕ) (k : ℕ) (ranked : (x : A) → rank_of (g x) ≡ 4294967296 * k + key x)
    (es : List Entry) (after : (b : ℕ) → b < 4294967296 * (k + 1) → Above b es) where
  from : (x : A) (xs : List A) → key x < 4294967296 → Every (λ (y : A). key y < 4294967296) xs → From (λ (y z : A). key y < key z) x xs
      → From (λ (y z : Entry). rank_of y < rank_of z) (g x) (map g xs ++ es)
  from x [] l s r = above_from (g x) es (after (rank_of (g x)) (omega (arith, ranked x)))
  from x (y ∷ ys) l s r = (omega (arith, ranked x, ranked y, r.0), from y ys s.0 s.1 r.1)

  kind_above : (xs : List A) → Every (λ (y : A). key y < 4294967296) xs → InARow (λ (y z : A). key y < key z) xs
      → (b : ℕ) → b < 4294967296 * k → Above b (map g xs ++ es)
  kind_above [] s r b l = after b (omega arith)
  kind_above (x ∷ xs) s r b l = (omega (arith, ranked x), from x xs s.0 s.1 r)

-- "Length is at least 1": regions that lie apart rise by their start
starts_rise : (x : Area) (xs : List Area) → GoodRegion x → Every GoodRegion xs → From (λ (a b : Area). a.start + a.length ≤ b.start) x xs
    → From (λ (a b : Area). a.start < b.start) x xs
starts_rise x [] g s r = tt
starts_rise x (y ∷ ys) g s r = (omega (arith, g.least, r.0), starts_rise y ys s.0 s.1 r.1)

apart_rise : (xs : List Area) → Every GoodRegion xs → Apart xs → InARow (λ (a b : Area). a.start < b.start) xs
apart_rise [] s r = tt
apart_rise (x ∷ xs) s r = starts_rise x xs s.0 s.1 r

-- one record has none behind it
at_most_one : {A : Type 0} (R : A → A → Type 0) (xs : List A) → length xs ≤ 1 → InARow R xs
at_most_one R [] l = tt
at_most_one R (x ∷ []) l = tt
at_most_one R (x ∷ y ∷ ys) l = absurd (omega arith)

link_rank : (pdu : PduType) → rank (link_kind pdu) 0 ≡ 4294967296
unfolding rank when
link_rank enhanced = refl
link_rank short = refl

pub entries_rise : (h : Sheet) → WellFormed h → Rising (entries_of h)
unfolding entries_of rank when
entries_rise h w =
    let er : List Entry = map release_entry h.releases in
    let et : List Entry = map tolerance_entry h.tolerances ++ er in
    let ei : List Entry = map item_entry h.items ++ et in
    let ep : List Entry = map parameter_entry h.parameters ++ ei in
    let zero-key : (xs : List ℕ) → Every (λ (n : ℕ). 0 < 4294967296) xs = every_one (λ (n : ℕ). 0 < 4294967296) (λ n. omega arith) in
    let r : (b : ℕ) → b < 4294967296 * 7 → Above b er = λ b l.
    subst (Above b) (append-nil er)
    (kind_above release_entry (λ n. 0) 7 (λ n. refl) [] (λ b l. tt) h.releases (zero-key h.releases) (at_most_one _ h.releases w.picked_once) b l) in
    let t : (b : ℕ) → b < 4294967296 * 6 → Above b et =
    kind_above tolerance_entry (λ n. 0) 6 (λ n. refl) er r h.tolerances (zero-key h.tolerances) (at_most_one _ h.tolerances w.once) in
    let i : (b : ℕ) → b < 4294967296 * 4 → Above b ei =
    kind_above item_entry (λ x. x.code) 4 (λ x. refl) et (λ b l. t b (omega arith)) h.items
    (every_weaker GoodItem (λ (x : Ident). x.code < 4294967296) (λ x g. omega (arith, g.code)) h.items w.items) w.codes_rise in
    let p : (b : ℕ) → b < 4294967296 * 3 → Above b ep =
    kind_above parameter_entry (λ x. x.number) 3 (λ x. refl) ei i h.parameters
    (every_weaker (GoodParameter h.regions) (λ (x : Param). x.number < 4294967296) (λ x g. omega (arith, g.number)) h.parameters w.parameters)
    w.numbers_rise in
    let a : (b : ℕ) → b < 4294967296 * 2 → Above b (map region_entry h.regions ++ ep) =
    kind_above region_entry (λ x. x.start) 2 (λ x. refl) ep p h.regions
    (every_weaker GoodRegion (λ (x : Area). x.start < 4294967296) (λ x g. g.start) h.regions w.regions)
    (apart_rise h.regions w.regions w.apart) in
    above_from (link_entry h) (map region_entry h.regions ++ ep) (a (rank_of (link_entry h)) (omega (arith, link_rank h.pdu)))

link_shaped : (h : Sheet) (pdu : PduType) → Shaped (entry (link_kind pdu) 0 (link_entry h).fields)
unfolding when
link_shaped h enhanced = refl
link_shaped h short = refl

all_shaped : {A : Type 0} (g : A → Entry) → ((x : A) → Shaped (g x)) → (xs : List A) → Every Shaped (map g xs)
all_shaped g one xs = every_map (λ x. Unit {0}) Shaped g (λ x u. one x) xs (every_one (λ x. Unit {0}) (λ x. tt) xs)

pub entries_shaped : (h : Sheet) → Every Shaped (entries_of h)
unfolding entries_of when
entries_shaped h = (
  link_shaped h h.pdu,
  every_append Shaped (map region_entry h.regions) _ (all_shaped region_entry (λ x. refl) h.regions)
      (every_append Shaped (map parameter_entry h.parameters) _ (all_shaped parameter_entry (λ x. refl) h.parameters)
      (every_append Shaped (map item_entry h.items) _ (all_shaped item_entry (λ x. refl) h.items)
      (every_append Shaped (map tolerance_entry h.tolerances) _ (all_shaped tolerance_entry (λ x. refl) h.tolerances)
      (all_shaped release_entry (λ x. refl) h.releases)))),
)
