-- A write stores its own octets and no others.
--     answered_or          on a good sheet and a memory of its length an exchange is answered, or refused by a number that no memory changes
--     wrote_is, unwritten  the octet at a place, where a write has it and where none has
use mathlib.Core.Bool.{true, false, not, ◌&&◌}
use mathlib.Core.Logic.{◌⊎◌, inl, inr, ⊎_elim}
use mathlib.Core.Path.{◌≡◌, refl, sym, ap, ap₂, subst, ◌∙◌}
use mathlib.Core.List.{List, [], ◌∷◌}
use Prim.Native.Nat.{ℕ, zero, suc, ◌+◌, ◌-◌, ◌≤◌, ◌<◌}
use native.Mathlib.Omega.{arith}
use borrow.Author.Tests.{ne_eqb, eq-eqb}
use lib.ListN.{length, get_or, take, drop, get_or-eq_default}
use lib.Seq.{get_or-take, get_or-drop}
use Rattle.octets.proofs.Cases.{decided, lt_or_le, eq_or_ne}
use Rattle.octets.proofs.Overlaid.{part_length}
use Rattle.octets.proofs.Pick.{pick_same, pick_differ, pick_eq}
use Rattle.octets.specs.Parts.{part}
use Rattle.link.specs.Stored.{fields_of}
use Rattle.slave.specs.Answers.{told}
use Rattle.slave.specs.Exchange.{Left, left, refusal_of, exchange_of}
use Rattle.slave.proofs.Order.{on_valid, on_invalid, on_state_lem}
use Rattle.law.specs.Words.{Piece, piece, laid}
use Rattle.law.specs.Sheet.{Sheet, WellFormed, sheet_octets, room}
use Rattle.law.specs.State.{link, valid_state}
use Rattle.law.specs.Memory.{Cell, cells, stored}
use Rattle.law.specs.Exchange.{Fate, missed, fate_of}
use Rattle.law.specs.Calls.{Result, exchange}
use Rattle.law.specs.Faults.{FirstFault}
use Rattle.law.proofs.ByTables.{one_reading, exchanges_bad}
use Rattle.law.proofs.Calls.{exchange_good}
use Rattle.law.proofs.Clauses.{state_yes, state_no}
use Rattle.law.proofs.Complete.{complete}
use Rattle.law.proofs.Held.{address_of, length_cells, stored_length, stored_at}
use Rattle.law.proofs.Numbered.{fault_is}
use Rattle.law.proofs.Laid.{when_yes, when_no, lies_here, lies_below, lies_past}
use Rattle.law.proofs.Layouts.{layout_for}
use Rattle.demands.specs.Accepted.{accepted}
use Rattle.demands.specs.Answered.{Answered}
use Rattle.demands.specs.Writes.{cell_at, Wrote, WritesOwnOctets}
use Rattle.demands.proofs.Done.{answered_done}
use Rattle.demands.proofs.OnTheWire.{quiet}
use Rattle.demands.proofs.Fates.{fate_missed, fate_kept}
use Rattle.demands.proofs.Pieces.{Writing, fate_writes}

-- an exchange that is refused leaves all as it was
abbrev pub Refuses : Sheet → List ℕ → List ℕ → List ℕ → ℕ → Type 0
Refuses h s c r n = (m : List ℕ) → length m ≡ room h.regions → exchange_of (sheet_octets h) s m c r ≡ left (told n 0) s m r

pub answered_or : (h : Sheet) → WellFormed h → (s c r : List ℕ)
    → ((m : List ℕ) → length m ≡ room h.regions → Answered h (sheet_octets h) s m c r) ⊎ ((n : ℕ) × Refuses h s c r n)
unfolding exchange_of refusal_of fields_of
answered_or h w s c r =
    ⊎_elim
    (λ (v : valid_state h s ≡ true).
    let q = state_yes h s v in
    let st = fields_of s in
    let refuse : (n : ℕ) → (n ≡ 0 → ⊥) → ((m : List ℕ) → length m ≡ room h.regions → refusal_of (layout_for h) st (length m) (length c) (length r) ≡ n) → Refuses h s c r n =
    λ n z is m e. on_valid _ _ _ _ (complete h w) ∙ on_state_lem _ _ _ _ q.0 ∙ pick_differ _ _ (λ k. z (sym (is m e) ∙ k)) ∙ ap (λ (i : ℕ). left (told i 0) s m r) (is m e) in
    ⊎_elim
    (λ (a : length c ≡ h.l).
    ⊎_elim
    (λ (b : length r ≡ h.l).
    ⊎_elim
    (λ (z : link s ≡ 0). inr (5, refuse 5 (λ k. omega arith) (λ m e. pick_same _ _ e ∙ pick_same _ _ a ∙ pick_same _ _ b ∙ pick_eq _ _ z)))
    (λ (z : link s ≡ 0 → ⊥). inl (λ m e. record { good = w; written = refl; valid = v; whole = e; asked = a; lent = b; enabled = z }))
    (eq_or_ne (link s) 0))
    (λ (b : length r ≡ h.l → ⊥). inr (4, refuse 4 (λ k. omega arith) (λ m e. pick_same _ _ e ∙ pick_same _ _ a ∙ pick_differ _ _ b)))
    (eq_or_ne (length r) h.l))
    (λ (a : length c ≡ h.l → ⊥). inr (3, refuse 3 (λ k. omega arith) (λ m e. pick_same _ _ e ∙ pick_differ _ _ a)))
    (eq_or_ne (length c) h.l))
    (λ (v : valid_state h s ≡ false). inr (1, λ m e. on_valid _ _ _ _ (complete h w) ∙ on_invalid _ _ _ (state_no h s v)))
    (decided (valid_state h s))

-- a memory of another length is refused too
other_length : (h : Sheet) → WellFormed h → (s m c r : List ℕ) → (length m ≡ room h.regions → ⊥) → (exchange_of (sheet_octets h) s m c r).memory ≡ m
unfolding exchange
other_length h w s m c r n =
    ap (λ (x : Result). x.memory) (exchange_good h w s m c r)
    ∙ ⊎_elim
    (λ (v : valid_state h s ≡ true). ap (λ (x : Result). x.memory) (when_no _ _ (ap not v) ∙ when_yes _ _ (ap not (ne_eqb _ _ n))))
    (λ (v : valid_state h s ≡ false). ap (λ (x : Result). x.memory) (when_yes _ _ (ap not v)))
    (decided (valid_state h s))

address_cell : (cs : List Cell) (i : ℕ) → address_of cs i ≡ (cell_at cs i).address
address_cell [] i = refl
address_cell (x ∷ xs) zero = refl
address_cell (x ∷ xs) (suc i) = address_cell xs i

module _ (h : Sheet) (sheet s m c r : List ℕ) (a : Answered h sheet s m c r) where
  abbrev f : Fate
  f = fate_of h s m c

  fit : length m ≡ length (cells h.regions)
  fit = a.whole ∙ sym (length_cells h.regions)

  memory_is : (exchange_of sheet s m c r).memory ≡ stored f.stores (cells h.regions) m
  memory_is = ap (λ (x : Left). x.memory) (answered_done h sheet s m c r a)

  -- the octet at a place, by what lies over its address
  pub octet_is : (place : ℕ) → place < length m
      → get_or (exchange_of sheet s m c r).memory place 0 ≡ laid f.stores (cell_at (cells h.regions) place).address (get_or m place 0)
  octet_is place l =
      ap (λ (x : List ℕ). get_or x place 0) memory_is ∙ stored_at f.stores (cells h.regions) m place fit l
      ∙ ap (λ (k : ℕ). laid f.stores k (get_or m place 0)) (address_cell (cells h.regions) place)

  -- past the end there is none
  pub octet_past : (place : ℕ) → length m ≤ place → get_or (exchange_of sheet s m c r).memory place 0 ≡ get_or m place 0
  octet_past place l =
      let n : length (exchange_of sheet s m c r).memory ≡ length m = ap length memory_is ∙ stored_length f.stores (cells h.regions) m fit in
      get_or-eq_default (exchange_of sheet s m c r).memory 0 {n = place} (omega arith) ∙ sym (get_or-eq_default m 0 {n = place} l)

  module _ (place address n from : ℕ) (fits : from + n ≤ length c) where
    octets_long : length (take n (drop from c)) ≡ n
    unfolding part
    octets_long = part_length c from n fits

    abbrev at : ℕ
    at = (cell_at (cells h.regions) place).address

    pub laid_here : (old : ℕ) → address ≤ at → at < address + n → laid (piece address (take n (drop from c)) ∷ []) at old ≡ get_or c (from + (at - address)) 0
    unfolding laid
    laid_here old l u =
        let e = octets_long in
        lies_here (piece address (take n (drop from c))) at old l (omega arith)
        ∙ get_or-take n (drop from c) (at - address) 0 (omega arith) ∙ get_or-drop from c (at - address) 0

    laid_else : (old : ℕ) → (address ≤ at → at < address + n → ⊥) → laid (piece address (take n (drop from c)) ∷ []) at old ≡ old
    unfolding laid
    laid_else old out =
        let e = octets_long in
        ⊎_elim
        (λ (l : at < address). lies_below (piece address (take n (drop from c))) at old l)
        (λ (l : address ≤ at).
        lies_past (piece address (take n (drop from c))) at old
        (⊎_elim (λ (u : at < address + n). absurd (out l u)) (λ (u : address + n ≤ at). let z : address + length (take n (drop from c)) ≤ at = omega arith in z) (lt_or_le at (address + n))))
        (lt_or_le at address)

no_piece : {p : Piece} → ◌≡◌ {A = List Piece} [] (p ∷ []) → ⊥
no_piece e = let z : ◌≡◌ {A = ℕ} 0 1 = ap length e in omega arith

-- a fate that stores something is an accepted one
stores_accepted : (h : Sheet) (s m c : List ℕ) (p : Piece) → (fate_of h s m c).alarm ≡ 0 → (fate_of h s m c).stores ≡ p ∷ [] → accepted h s m c ≡ true
stores_accepted h s m c p z e =
    ⊎_elim
    (λ (t : missed h s c ≡ true). absurd (no_piece (sym (ap (λ (g : Fate). g.stores) (fate_missed h s m c t) ∙ (quiet h s).2) ∙ e)))
    (λ (t : missed h s c ≡ false). ap₂ ◌&&◌ (ap not t) (eq-eqb _ 0 (sym (ap (λ (g : Fate). g.alarm) (fate_kept h s m c t)) ∙ z)))
    (decided (missed h s c))

pub wrote_is : (sheet s m c r : List ℕ) (place k : ℕ) → Wrote sheet s m c r place k → get_or (exchange_of sheet s m c r).memory place 0 ≡ get_or c k 0
wrote_is sheet s m c r place k w =
    octet_is w.h sheet s m c r w.answered place w.inside
    ∙ ap (λ (ps : List Piece). laid ps (cell_at (cells w.h.regions) place).address (get_or m place 0)) w.stores
    ∙ laid_here w.h sheet s m c r w.answered place w.address w.n w.from w.fits (get_or m place 0) w.above w.below
    ∙ ap (λ (i : ℕ). get_or c i 0) (sym w.octet)

module _ (sheet s m c r : List ℕ) (place : ℕ) (none : (k : ℕ) → Wrote sheet s m c r place k → ⊥) where
  unwritten : (h : Sheet) → Answered h sheet s m c r → get_or (exchange_of sheet s m c r).memory place 0 ≡ get_or m place 0
  unfolding laid
  unwritten h a =
      let at = (cell_at (cells h.regions) place).address in
      ⊎_elim
      (λ (l : place < length m).
      octet_is h sheet s m c r a place l
      ∙ ⊎_elim
      (λ (e : (fate_of h s m c).stores ≡ []). ap (λ (ps : List Piece). laid ps at (get_or m place 0)) e)
      (λ (w : Writing h s m c (fate_of h s m c)).
      let fits : w.from + w.size ≤ length c = let z = w.fits in let y = a.asked in omega arith in
      ap (λ (ps : List Piece). laid ps at (get_or m place 0)) w.stores
      ∙ laid_else h sheet s m c r a place w.address w.size w.from fits (get_or m place 0)
      (λ above below. none (w.from + (at - w.address)) (record {
        h = h;
        answered = a;
        accepts = stores_accepted h s m c _ w.alarm w.stores;
        address = w.address;
        n = w.size;
        from = w.from;
        stores = w.stores;
        fits = fits;
        right = w.right;
        inside = l;
        above = above;
        below = below;
        octet = refl;
      })))
      (fate_writes h s m c a.good.l))
      (λ (l : length m ≤ place). octet_past h sheet s m c r a place l)
      (lt_or_le place (length m))

  unwritten_good : (h : Sheet) → WellFormed h → sheet ≡ sheet_octets h → get_or (exchange_of sheet s m c r).memory place 0 ≡ get_or m place 0
  unwritten_good h w e =
      ⊎_elim
      (λ (whole : length m ≡ room h.regions).
      ⊎_elim
      (λ (go : (m : List ℕ) → length m ≡ room h.regions → Answered h (sheet_octets h) s m c r).
      unwritten h (subst (λ (x : List ℕ). Answered h x s m c r) (sym e) (go m whole)))
      (λ (no-go : (n : ℕ) × Refuses h s c r n).
      ap (λ (x : List ℕ). get_or (exchange_of x s m c r).memory place 0) e ∙ ap (λ (x : Left). get_or x.memory place 0) (no-go.1 m whole))
      (answered_or h w s c r))
      (λ (other : length m ≡ room h.regions → ⊥).
      ap (λ (x : List ℕ). get_or (exchange_of x s m c r).memory place 0) e ∙ ap (λ (x : List ℕ). get_or x place 0) (other_length h w s m c r other))
      (eq_or_ne (length m) (room h.regions))

pub writes_own_octets : WritesOwnOctets
writes_own_octets sheet s m c r place o = (
  wrote_is sheet s m c r place,
  λ none. ⊎_elim
      (λ (q : (h : Sheet) × WellFormed h × (sheet ≡ sheet_octets h)). unwritten_good sheet s m c r place none q.0 q.1 q.2)
      (λ (q : (f : ℕ) × (p : ℕ) × FirstFault sheet f p).
      let k = fault_is sheet q.0 q.1 o q.2 in
      ap (λ (x : Result). get_or x.memory place 0) (exchanges_bad sheet s m c r k.0 q.1 k.2))
      (one_reading.some_reading sheet o),
)
