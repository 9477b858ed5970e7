-- Where the pieces of bodies stand, and what is stored, by the law's tables.
--     fate_body      no body reaches into the head
--     fate_ends      in the short type none reaches RWDT
--     fate_writes    an accepted write stores the command's own octets
use mathlib.Core.Bool.{true}
use mathlib.Core.Logic.{◌⊎◌, inl, inr}
use mathlib.Core.Path.{◌≡◌, refl}
use mathlib.Core.List.{List, [], ◌∷◌}
use Prim.Native.Nat.{ℕ, ◌+◌, ◌-◌, ◌≤◌}
use native.Mathlib.Omega.{arith}
use borrow.Author.Tests.{leb-true, eqb-true}
use lib.Dec.{eqb, leb}
use lib.ListN.{length, take, drop}
use Rattle.std.proofs.lemmas.List.{length-take}
use Rattle.law.specs.Words.{Every, one_of, Piece, piece}
use Rattle.law.specs.Sheet.{PduType, enhanced, short, Sheet, GoodLength}
use Rattle.law.specs.State.{link}
use Rattle.law.specs.Memory.{cells, writable, has_all, held}
use Rattle.law.specs.Table.{Row, table, item_part, short_size, parameter, address, n}
use Rattle.law.specs.Exchange.{Fate, refused, passing, fate_of}
use Rattle.law.proofs.Held.{held_length}
use Rattle.law.proofs.Worlds.{least}
use Rattle.demands.specs.Places.{Holds}
use Rattle.demands.proofs.Fates.{done_row, by_type, in_both, fate_by}

pub good_length : (pdu : PduType) (l : ℕ) → GoodLength pdu l → 8 ≤ l
good_length enhanced l good = least l good
good_length short l good = omega arith

-- how many octets the law's head has at the front of a reply
abbrev pub head_size : ℕ
head_size = 4

-- no more octets than are taken
taken_most : (k : ℕ) (l : List ℕ) → length (take k l) ≤ k
taken_most k l = simp length-take (omega arith)

-- a size that is at most what L leaves behind a place
fits_behind : (asked size l from : ℕ) → eqb asked size ≡ true → leb asked (l - from) ≡ true → from ≤ l → from + size ≤ l
fits_behind asked size l from e u long = let p = eqb-true asked size e in let q = leb-true asked (l - from) u in omega arith

fits_least : (size l from : ℕ) → leb 1 size ≡ true → leb size (l - from) ≡ true → from + size ≤ l
fits_least size l from e u = let p = leb-true 1 size e in let q = leb-true size (l - from) u in omega arith

-- eight octets behind the short type's fields end before RWDT
fits_eight : (asked size l : ℕ) → eqb asked size ≡ true → leb asked 8 ≡ true → l ≡ 16 → 7 + size ≤ l
fits_eight asked size l e u sixteen = let p = eqb-true asked size e in let q = leb-true asked 8 u in omega arith

three_echoed : (l : List ℕ) → 4 + length (take 3 (drop 4 l)) ≤ 15
three_echoed l = let w = taken_most 3 (drop 4 l) in omega arith

sent_ends : (asked size : ℕ) (l : List ℕ) → eqb asked size ≡ true → leb asked 8 ≡ true → 7 + length (take size (drop 7 l)) ≤ 15
sent_ends asked size l e u = let p = eqb-true asked size e in let q = leb-true asked 8 u in let w = taken_most size (drop 7 l) in omega arith

module _ (h : Sheet) (s m c : List ℕ) where
  read_ends : (asked size a : ℕ) → eqb asked size ≡ true → leb asked 8 ≡ true → 7 + length (held (cells h.regions) m a size) ≤ 15
  read_ends asked size a e u = let p = eqb-true asked size e in let q = leb-true asked 8 u in let w = held_length (cells h.regions) m a size in omega arith

  item_most : (k : ℕ) → length (item_part h s m c k) ≤ k
  item_most k = taken_most k _

  item_ends : (k : ℕ) → leb k 8 ≡ true → 7 + length (item_part h s m c k) ≤ 15
  item_ends k u = let q = leb-true k 8 u in let w = item_most k in omega arith

  -- no body reaches into the reply's head
  pub fate_body : Every (λ (p : Piece). head_size ≤ p.first) (fate_of h s m c).body
  unfolding refused
  fate_body =
      fate_by h s m c (λ f. Every (λ (p : Piece). head_size ≤ p.first) f.body) tt tt (λ a place w. tt)
      (in_both h s m c (Every _)
      (λ a b. tt, (λ a b. (omega arith, (omega arith, tt)), (λ a b. (omega arith, (omega arith, tt)), (λ a b. (omega arith, (omega arith, tt)), (λ a b. (omega arith, tt), (λ a b. tt, (λ a b. tt, (λ a b. (omega arith, tt), (λ a b. tt, (λ a b. (omega arith, (omega arith, tt)), (λ a b. (omega arith, (omega arith, tt)), tt)))))))))))
      (λ a b. tt, (λ a b. (omega arith, (omega arith, tt)), (λ a b. (omega arith, (omega arith, tt)), (λ a b. (omega arith, (omega arith, tt)), (λ a b. (omega arith, tt), (λ a b. tt, (λ a b. tt, (λ a b. (omega arith, tt), (λ a b. tt, tt))))))))))

  -- nor, in the short type, to its last octet
  abbrev Ends : List Piece → Type 0
  Ends ps = Every (λ (p : Piece). p.first + length p.octets ≤ 15) ps

  abbrev EndsIn : PduType → List Row → Type 0
  EndsIn pdu rs = pdu ≡ short → Every (λ (r : Row). one_of (link s) r.links ≡ true → Every Holds r.checks → Ends (passing (done_row r)).body) rs

  rows_end : EndsIn h.pdu (table h s m c)
  rows_end =
      by_type h s m c EndsIn (λ e. cc)
      (λ e. (λ a b. tt, (λ a b. (three_echoed c, (read_ends _ (parameter h s m c).size (parameter h s m c).address b.1.0 b.1.1.0, tt)), (λ a b. (three_echoed c, (sent_ends _ (parameter h s m c).size c b.1.0 b.1.1.0, tt)), (λ a b. (three_echoed c, (item_ends (short_size h s m c) b.1.1.1.0, tt)), (λ a b. (omega arith, tt), (λ a b. tt, (λ a b. tt, (λ a b. (three_echoed c, tt), (λ a b. tt, tt))))))))))
      h.pdu

  pub fate_ends : h.pdu ≡ short → Ends (fate_of h s m c).body
  unfolding refused
  fate_ends e = fate_by h s m c (λ f. Ends f.body) tt tt (λ a place w. tt) (rows_end e)

  -- what an accepted write stores: the command's own octets, which the link may write
  pub record Writing (f : Fate) : Type 0 where
    pub alarm : f.alarm ≡ 0
    pub address : ℕ
    pub size : ℕ
    pub from : ℕ
    pub stores : f.stores ≡ piece address (take size (drop from c)) ∷ []
    pub right : has_all (writable (link s)) (cells h.regions) address size ≡ true
    pub fits : from + size ≤ h.l

  abbrev WritesIn : PduType → List Row → Type 0
  WritesIn pdu rs = GoodLength pdu h.l
      → Every (λ (r : Row). one_of (link s) r.links ≡ true → Every Holds r.checks → ((passing (done_row r)).stores ≡ []) ⊎ Writing (passing (done_row r))) rs

  rows_write : WritesIn h.pdu (table h s m c)
  rows_write =
      by_type h s m c WritesIn
      (λ good. (λ a b. inl refl, (λ a b. inl refl, (λ a b. inr (record { alarm = refl; address = (parameter h s m c).address; size = (parameter h s m c).size; from = _; stores = refl; right = b.1.1.1.1.0; fits = fits_behind _ (parameter h s m c).size h.l _ b.1.0 b.1.1.0 (least h.l good) }), (λ a b. inl refl, (λ a b. inl refl, (λ a b. inl refl, (λ a b. inl refl, (λ a b. inl refl, (λ a b. inl refl, (λ a b. inl refl, (λ a b. inr (record { alarm = refl; address = address h s m c; size = n h s m c; from = _; stores = refl; right = b.1.1.1.1.1.0; fits = fits_least (n h s m c) h.l _ b.1.0 b.1.1.0 }), tt))))))))))))
      (λ good. (λ a b. inl refl, (λ a b. inl refl, (λ a b. inr (record { alarm = refl; address = (parameter h s m c).address; size = (parameter h s m c).size; from = _; stores = refl; right = b.1.1.1.1.0; fits = fits_eight _ (parameter h s m c).size h.l b.1.0 b.1.1.0 good }), (λ a b. inl refl, (λ a b. inl refl, (λ a b. inl refl, (λ a b. inl refl, (λ a b. inl refl, (λ a b. inl refl, tt))))))))))
      h.pdu

  pub fate_writes : GoodLength h.pdu h.l → ((fate_of h s m c).stores ≡ []) ⊎ Writing (fate_of h s m c)
  unfolding refused
  fate_writes good = fate_by h s m c (λ f. (f.stores ≡ []) ⊎ Writing f) (inl refl) (inl refl) (λ a place w. inl refl) (rows_write good)
