-- What is read of the memory, and what is written there: by addresses, and by places.
use mathlib.Core.Bool.{true, false}
use mathlib.Core.Logic.{⊎_elim}
use mathlib.Core.Path.{◌≡◌, refl, sym, ap, ap₂, subst, ◌∙◌}
use mathlib.Core.List.{List, [], ◌∷◌, ◌++◌, map}
use Prim.Native.Nat.{ℕ, zero, suc, ◌+◌, ◌-◌, ◌≤◌, ◌<◌}
use native.Mathlib.Nat.{le_refl}
use native.Mathlib.Omega.{arith}
use borrow.Author.Tests.{eqb-true, eq-eqb, ne_eqb}
use lib.ListN.{length, get_or, take, drop, length-append}
use lib.Seq.{ext_get_or, get_or-drop}
use Rattle.std.proofs.lemmas.List.{take-append-drop}
use Rattle.octets.specs.Parts.{part, put_at}
use Rattle.octets.proofs.Cases.{decided, lt_or_le}
use Rattle.octets.proofs.Pick.{pick_yes, pick_no, pick_ne}
use Rattle.law.specs.Words.{Every, From, InARow, Piece, piece, laid}
use Rattle.law.specs.Sheet.{Region as Area, GoodRegion, room}
use Rattle.law.specs.Memory.{Cell, cells_from, cells, stored, held_at, held}
use Rattle.regions.specs.Apart.{Apart}
use Rattle.regions.specs.Region.{holds_of}
use Rattle.regions.specs.Search.{At, spot_of, place_in, before_of, span_has, total_of, span_place}
use Rattle.regions.specs.declared.Region.{Region}
use Rattle.regions.specs.declared.Right.TheVariants.{Mapped}
use Rattle.regions.proofs.Bounds.{holds_bounds}
use Rattle.regions.proofs.Places.{Stands, mapped_spot, span_places, spot_inside}
use Rattle.regions.proofs.Spans.{all_before}
use Rattle.octets.proofs.Overlaid.{put_length, put_before, put_inside, put_behind, part_length, part_at}
use Rattle.law.proofs.Laid.{when_yes, when_no, lies, lies_here, lies_below, lies_past}
use Rattle.law.proofs.Spans.{inside}
use Rattle.law.proofs.Layouts.{as_region}

-- the address of the i-th cell
abbrev pub address_of : List Cell → ℕ → ℕ
address_of [] i = 0
address_of (x ∷ xs) zero = x.address
address_of (x ∷ xs) (suc i) = address_of xs i

length_run : (start n rights : ℕ) → length (cells_from start n rights) ≡ n
length_run start zero rights = refl
length_run start (suc n) rights = ap suc (length_run (suc start) n rights)

pub length_cells : (rs : List Area) → length (cells rs) ≡ room rs
length_cells [] = refl
length_cells (r ∷ rs) =
    length-append (cells_from r.start r.length r.rights) (cells rs) ∙ ap₂ ◌+◌ (length_run r.start r.length r.rights) (length_cells rs)

run_here : (start n rights : ℕ) (rest : List Cell) (i : ℕ) → i < n → address_of (cells_from start n rights ++ rest) i ≡ start + i
run_here start zero rights rest i l = absurd (omega arith)
run_here start (suc n) rights rest zero l = omega arith
run_here start (suc n) rights rest (suc i) l = run_here (suc start) n rights rest i (omega arith) ∙ (let e : suc start + i ≡ start + suc i = omega arith in e)

run_past : (start n rights : ℕ) (rest : List Cell) (i : ℕ) → address_of (cells_from start n rights ++ rest) (n + i) ≡ address_of rest i
run_past start zero rights rest i = ap (address_of rest) (let e : 0 + i ≡ i = omega arith in e)
run_past start (suc n) rights rest i =
    ap (address_of (cells_from start (suc n) rights ++ rest)) (let e : suc n + i ≡ suc (n + i) = omega arith in e) ∙ run_past (suc start) n rights rest i

-- the machine's place of an address is the cell that has it
spot_address : (rs : List Area) (base a p x : ℕ) → spot_of (map as_region rs) base a ≡ At p x → base ≤ p → address_of (cells rs) (p - base) ≡ a
unfolding spot_of holds_of
spot_address [] base a p x e b = cc
spot_address (r ∷ rs) base a p x e b =
    ⊎_elim
    (λ (k : inside r.start r.length a ≡ true).
    let at = sym (pick_yes _ _ k) ∙ e in
    let q : base + (a - r.start) ≡ p = cc in
    let w = within k in
    let l : p - base < r.length = omega arith in
    run_here r.start r.length r.rights (cells rs) (p - base) l ∙ (let z : r.start + (p - base) ≡ a = omega arith in z))
    (λ (k : inside r.start r.length a ≡ false).
    let f = sym (pick_no _ _ k) ∙ e in
    let t = spot_inside (map as_region rs) (base + r.length) a p x f in
    let u : base + r.length ≤ p = t.0 in
    ap (address_of (cells (r ∷ rs))) (let z : p - base ≡ r.length + (p - (base + r.length)) = omega arith in z)
    ∙ run_past r.start r.length r.rights (cells rs) (p - (base + r.length)) ∙ spot_address rs (base + r.length) a p x f u)
    (decided (inside r.start r.length a))
  where
    within : inside r.start r.length a ≡ true → (r.start ≤ a) × (a < r.start + r.length)
    within k = holds_bounds (as_region r) a k

-- addresses rise
abbrev Apart' : ℕ → List Area → Type 0
Apart' end [] = Unit {0}
Apart' end (r ∷ rs) = (end ≤ r.start) × (1 ≤ r.length) × Apart' (r.start + r.length) rs

above : (end : ℕ) (rs : List Area) → Apart' end rs → (i : ℕ) → i < length (cells rs) → end ≤ address_of (cells rs) i
above end [] d i l = absurd (omega arith)
above end (r ∷ rs) d i l =
    let s = d.0 in
    ⊎_elim (λ (k : i < r.length). let e = run_here r.start r.length r.rights (cells rs) i k in omega arith)
    (λ (k : r.length ≤ i).
    let e : address_of (cells (r ∷ rs)) i ≡ address_of (cells rs) (i - r.length) =
    ap (address_of (cells (r ∷ rs))) (let z : i ≡ r.length + (i - r.length) = omega arith in z) ∙ run_past r.start r.length r.rights (cells rs) (i - r.length) in
    let a = length-append (cells_from r.start r.length r.rights) (cells rs) in
    let b = length_run r.start r.length r.rights in
    let f = above (r.start + r.length) rs d.2 (i - r.length) (omega arith) in
    omega arith)
    (lt_or_le i r.length)

rises : (end : ℕ) (rs : List Area) → Apart' end rs → (i j : ℕ) → i < j → j < length (cells rs) → address_of (cells rs) i < address_of (cells rs) j
rises end [] d i j l u = absurd (omega arith)
rises end (r ∷ rs) d i j l u =
    let a = length-append (cells_from r.start r.length r.rights) (cells rs) in
    let b = length_run r.start r.length r.rights in
    let past : (n : ℕ) → r.length ≤ n → address_of (cells (r ∷ rs)) n ≡ address_of (cells rs) (n - r.length) =
    λ n k. ap (address_of (cells (r ∷ rs))) (let z : n ≡ r.length + (n - r.length) = omega arith in z) ∙ run_past r.start r.length r.rights (cells rs) (n - r.length) in
    ⊎_elim (λ (k : i < r.length).
    let e = run_here r.start r.length r.rights (cells rs) i k in
    ⊎_elim (λ (m : j < r.length). let f = run_here r.start r.length r.rights (cells rs) j m in let w : address_of (cells (r ∷ rs)) i < address_of (cells (r ∷ rs)) j = omega arith in w)
    (λ (m : r.length ≤ j).
    let f = past j m in
    let g = above (r.start + r.length) rs d.2 (j - r.length) (omega arith) in
    let w : address_of (cells (r ∷ rs)) i < address_of (cells (r ∷ rs)) j = omega arith in w) (lt_or_le j r.length))
    (λ (k : r.length ≤ i).
    let e = past i k in
    let f = past j (omega arith) in
    let g = rises (r.start + r.length) rs d.2 (i - r.length) (j - r.length) (omega arith) (omega arith) in
    let w : address_of (cells (r ∷ rs)) i < address_of (cells (r ∷ rs)) j = omega arith in w)
    (lt_or_le i r.length)

apart_regions : (end : ℕ) (rs : List Area) → Apart' end rs → Apart end (map as_region rs)
apart_regions end [] d = tt
apart_regions end (r ∷ rs) d = (d.0, d.1, apart_regions (r.start + r.length) rs d.2)

apart_from : (r : Area) (rs : List Area) → Every GoodRegion rs → From (λ (a b : Area). a.start + a.length ≤ b.start) r rs → Apart' (r.start + r.length) rs
apart_from r [] g d = tt
apart_from r (x ∷ xs) g d = (d.0, g.0.least, apart_from x xs g.1 d.1)

pub apart_good : (rs : List Area) → Every GoodRegion rs → InARow (λ (a b : Area). a.start + a.length ≤ b.start) rs → Apart' 0 rs
apart_good [] g d = tt
apart_good (r ∷ rs) g d = (omega arith, g.0.least, apart_from r rs g.1 d)

-- the octets of a mapped span stand from the span's place on
places_from : (rs : List Region) → Apart 0 rs → (a n : ℕ) → span_has rs Mapped a n ≡ true → (j : ℕ) → j < n → Stands rs 0 (a + j) (span_place rs a n + j)
unfolding place_in
places_from rs d a n h j l =
    let all : before_of rs Mapped a n ≡ n = eqb-true _ _ h in
    let spot = mapped_spot rs 0 a (all_before rs Mapped a n all a (le_refl a) (omega arith)) in
    let t = span_places 0 rs d 0 a spot.0 n spot.1 all j l in
    let e : spot.0 ≡ span_place rs a n = sym (pick_ne _ _ (λ (z : n ≡ 0). omega arith) ∙ ap place_in spot.1.1) in
    subst (λ (p : ℕ). Stands rs 0 (a + j) (p + j)) e t

held_at_is : (cs : List Cell) (m : List ℕ) (a i : ℕ) → i < length cs → address_of cs i ≡ a → ((j : ℕ) → j < i → address_of cs j ≡ a → ⊥) → held_at cs m a ≡ get_or m i 0
unfolding held_at
held_at_is [] m a i l e none = absurd (omega arith)
held_at_is (x ∷ xs) m a zero l e none = when_yes _ _ (eq-eqb x.address a e)
held_at_is (x ∷ xs) m a (suc i) l e none =
    when_no _ _ (ne_eqb x.address a (none 0 (omega arith)))
    ∙ held_at_is xs (drop 1 m) a i (omega arith) e (λ j k. none (suc j) (omega arith))
    ∙ get_or-drop 1 m i 0 ∙ ap (λ (n : ℕ). get_or m n 0) (let z : 1 + i ≡ suc i = omega arith in z)

pub held_length : (cs : List Cell) (m : List ℕ) (a n : ℕ) → length (held cs m a n) ≡ n
unfolding held
held_length cs m a zero = refl
held_length cs m a (suc n) = ap suc (held_length cs m (suc a) n)

held_at_lem : (cs : List Cell) (m : List ℕ) (a n j : ℕ) → j < n → get_or (held cs m a n) j 0 ≡ held_at cs m (a + j)
unfolding held
held_at_lem cs m a zero j l = absurd (omega arith)
held_at_lem cs m a (suc n) zero l = ap (held_at cs m) (let z : a ≡ a + 0 = omega arith in z)
held_at_lem cs m a (suc n) (suc j) l = held_at_lem cs m (suc a) n j (omega arith) ∙ ap (held_at cs m) (let z : suc a + j ≡ a + suc j = omega arith in z)

pub stored_length : (ps : List Piece) (cs : List Cell) (m : List ℕ) → length m ≡ length cs → length (stored ps cs m) ≡ length m
unfolding stored
stored_length ps [] [] e = refl
stored_length ps [] (y ∷ ys) e = absurd (omega arith)
stored_length ps (x ∷ xs) [] e = refl
stored_length ps (x ∷ xs) (y ∷ ys) e = ap suc (stored_length ps xs ys (omega arith))

pub stored_at : (ps : List Piece) (cs : List Cell) (m : List ℕ) (i : ℕ) → length m ≡ length cs → i < length m → get_or (stored ps cs m) i 0 ≡ laid ps (address_of cs i) (get_or m i 0)
unfolding stored
stored_at ps [] [] i e l = absurd (omega arith)
stored_at ps [] (y ∷ ys) i e l = absurd (omega arith)
stored_at ps (x ∷ xs) [] i e l = absurd (omega arith)
stored_at ps (x ∷ xs) (y ∷ ys) zero e l = refl
stored_at ps (x ∷ xs) (y ∷ ys) (suc i) e l = stored_at ps xs ys i (omega arith) (omega arith)

room_total : (rs : List Area) → room rs ≡ total_of (map as_region rs)
unfolding total_of
room_total [] = refl
room_total (r ∷ rs) = ap (λ (n : ℕ). r.length + n) (room_total rs)

put_none : (m : List ℕ) (at : ℕ) (o : List ℕ) → length o ≡ 0 → put_at m at o ≡ m
unfolding put_at
put_none m at [] e = ap (λ (k : ℕ). take at m ++ drop k m) (let z : at + 0 ≡ at = omega arith in z) ∙ take-append-drop at m
put_none m at (x ∷ xs) e = absurd (omega arith)

module _ (rs : List Area) (apart : Apart' 0 rs) (m : List ℕ) (whole : length m ≡ length (cells rs)) (a n : ℕ)
    (mapped : span_has (map as_region rs) Mapped a n ≡ true) where
  abbrev place : ℕ
  place = span_place (map as_region rs) a n

  total : length (cells rs) ≡ total_of (map as_region rs)
  total = length_cells rs ∙ room_total rs

  stands : (j : ℕ) → j < n → (address_of (cells rs) (place + j) ≡ a + j) × (place + j < length (cells rs))
  stands j l =
      let t = places_from (map as_region rs) (apart_regions 0 rs apart) a n mapped j l in
      let k = spot_inside (map as_region rs) 0 (a + j) (place + j) t.0 t.1 in
      let e = spot_address rs 0 (a + j) (place + j) t.0 t.1 (omega arith) in
      let z = total in
      (ap (address_of (cells rs)) (let z : place + j ≡ place + j - 0 = omega arith in z) ∙ e, omega (arith, k.1))

  room_for : 1 ≤ n → place + n ≤ length (cells rs)
  room_for l = let t = (stands (n - 1) (omega arith)).1 in omega arith

  pub reads_same : part m place n ≡ held (cells rs) m a n
  unfolding part held
  reads_same = ⊎_elim (λ (l : n < 1). none l) (λ (l : 1 ≤ n). some l) (lt_or_le n 1)
    where
      none : n < 1 → part m place n ≡ held (cells rs) m a n
      none l = subst (λ (k : ℕ). part m place k ≡ held (cells rs) m a k) (let e : 0 ≡ n = omega arith in e) refl

      some : 1 ≤ n → part m place n ≡ held (cells rs) m a n
      some l =
          let r = room_for l in
          let u = part_length m place n (omega arith) in
          ext_get_or 0 (part m place n) (held (cells rs) m a n) (u ∙ sym (held_length (cells rs) m a n)) (λ j k.
          let k' : j < n = omega arith in
          let t = stands j k' in
          part_at m place n j k'
          ∙ sym (held_at_is (cells rs) m (a + j) (place + j) t.1 t.0
          (λ i q e. let f = rises 0 rs apart i (place + j) q t.1 in let g = t.0 in omega arith))
          ∙ sym (held_at_lem (cells rs) m a n j k'))

  lies_out : (o : List ℕ) (k old : ℕ) → length o ≡ n → n < 1 → lies (piece a o) k old ≡ old
  lies_out o k old e l = ⊎_elim (λ (u : k < a). lies_below (piece a o) k old u) (λ (u : a ≤ k). lies_past (piece a o) k old (omega arith)) (lt_or_le k a)

  pub writes_same : (o : List ℕ) → length o ≡ n → put_at m place o ≡ stored (piece a o ∷ []) (cells rs) m
  unfolding laid
  writes_same o e = ⊎_elim (λ (l : n < 1). none l) (λ (l : 1 ≤ n). some l) (lt_or_le n 1)
    where
      none : n < 1 → put_at m place o ≡ stored (piece a o ∷ []) (cells rs) m
      none l =
          put_none m place o (omega arith)
          ∙ ext_get_or 0 m (stored (piece a o ∷ []) (cells rs) m) (sym (stored_length (piece a o ∷ []) (cells rs) m whole)) (λ i u.
          sym (stored_at (piece a o ∷ []) (cells rs) m i whole u ∙ lies_out o (address_of (cells rs) i) (get_or m i 0) e l))

      some : 1 ≤ n → put_at m place o ≡ stored (piece a o ∷ []) (cells rs) m
      some l =
          let r = room_for l in
          let fits : place + length o ≤ length m = omega arith in
          let u = put_length m place o fits in
          let cs = cells rs in
          let first = stands 0 (omega arith) in
          let final = stands (n - 1) (omega arith) in
          ext_get_or 0 (put_at m place o) (stored (piece a o ∷ []) cs m) (u ∙ sym (stored_length (piece a o ∷ []) cs m whole)) (λ i v.
          let w : i < length m = omega arith in
          sym (stored_at (piece a o ∷ []) cs m i whole w
          ∙ ⊎_elim (λ (q : i < place).
          let f = rises 0 rs apart i (place + 0) (omega arith) first.1 in
          let g = first.0 in
          lies_below (piece a o) (address_of cs i) (get_or m i 0) (omega arith) ∙ sym (put_before m place o fits i q))
          (λ (q : place ≤ i).
          ⊎_elim (λ (b : i < place + n).
          let t = stands (i - place) (omega arith) in
          let z : place + (i - place) ≡ i = omega arith in
          let at : address_of cs i ≡ a + (i - place) = ap (address_of cs) (sym z) ∙ t.0 in
          lies_here (piece a o) (address_of cs i) (get_or m i 0) (omega arith) (omega arith)
          ∙ ap (λ (k : ℕ). get_or o k 0) (let y : address_of cs i - a ≡ i - place = omega arith in y)
          ∙ sym (put_inside m place o fits (i - place) (omega arith))
          ∙ ap (λ (k : ℕ). get_or (put_at m place o) k 0) z)
          (λ (b : place + n ≤ i).
          let f = rises 0 rs apart (place + (n - 1)) i (omega arith) (omega arith) in
          let g = final.0 in
          lies_past (piece a o) (address_of cs i) (get_or m i 0) (omega arith) ∙ sym (put_behind m place o fits i (omega arith)))
          (lt_or_le i (place + n)))
          (lt_or_le i place)))
