-- One exchange on two memories that differ only in octets without the read right: the same is seen, and the memories agree where they agreed and where it
-- reached.
use mathlib.Core.Logic.{◌⊎◌, ⊎_elim}
use mathlib.Core.Path.{◌≡◌, refl, sym, ap, ap₂, subst, subst₂, ◌∙◌}
use mathlib.Core.Bool.{not, ◌&&◌}
use mathlib.Core.List.{List}
use Prim.Native.Nat.{ℕ, ◌<◌, ◌≤◌}
use native.Mathlib.Omega.{arith}
use lib.Dec.{eqb}
use lib.ListN.{length, get_or}
use Rattle.octets.proofs.Cases.{lt_or_le}
use Rattle.slave.specs.Answers.{told}
use Rattle.slave.specs.Exchange.{Left, left, exchange_of}
use Rattle.law.specs.Words.{laid}
use Rattle.law.specs.Sheet.{Sheet, WellFormed, sheet_octets, room}
use Rattle.law.specs.Memory.{cells}
use Rattle.law.specs.Exchange.{Fate, mn, missed, fate_of, state_after, reply_for}
use Rattle.law.proofs.Held.{length_cells, stored_length}
use Rattle.law.proofs.OneSheet.{one_sheet}
use Rattle.demands.specs.Answered.{Answered}
use Rattle.demands.specs.Hidden.{Readable, seen}
use Rattle.demands.specs.Writes.{cell_at, Wrote}
use Rattle.demands.proofs.Done.{answered_done}
use Rattle.demands.proofs.Owned.{Refuses, answered_or, octet_is, octet_past, wrote_is}
use Rattle.demands.proofs.Shown.{AgreeShown, row_same, fate_same}

-- what one call keeps: the same is seen, the memories have the sheet's length, and they agree at each place of E and at each that it reached
pub record Kept (h : Sheet) (E : ℕ → Type 0) (reached : ℕ → Type 0) (l₁ l₂ : Left) : Type 0 where
  pub same : seen l₁ ≡ seen l₂
  pub whole₁ : length l₁.memory ≡ room h.regions
  pub whole₂ : length l₂.memory ≡ room h.regions
  pub agree : (i : ℕ) → E i ⊎ reached i → get_or l₁.memory i 0 ≡ get_or l₂.memory i 0

module _ (h : Sheet) (w : WellFormed h) (E : ℕ → Type 0) (readable : (i : ℕ) → Readable h i → E i) where
  module _ (state m₁ m₂ : List ℕ) (w₁ : length m₁ ≡ room h.regions) (w₂ : length m₂ ≡ room h.regions) (agree : (i : ℕ) → E i → get_or m₁ i 0 ≡ get_or m₂ i 0) where
    shown : AgreeShown (cells h.regions) m₁ m₂
    shown i r = agree i (readable i r)

    -- a call that leaves the memory as it was
    pub still : (answer : _) (after reply : List ℕ) (R : ℕ → Type 0) → ((i : ℕ) → R i → get_or m₁ i 0 ≡ get_or m₂ i 0)
        → Kept h E R (left answer after m₁ reply) (left answer after m₂ reply)
    still answer after reply R reached = record {
      same = refl;
      whole₁ = w₁;
      whole₂ = w₂;
      agree = λ i. ⊎_elim (λ e. agree i e) (λ r. reached i r);
    }

    module _ (command reply : List ℕ) where
      -- a write that reached a place from the one memory reached it from the other
      other_wrote : (i k : ℕ) → Wrote (sheet_octets h) state m₁ command reply i k → Wrote (sheet_octets h) state m₂ command reply i k
      other_wrote i k q =
          let same : h ≡ q.h = one_sheet h q.h w q.answered.good q.answered.written in
          let there : AgreeShown (cells q.h.regions) m₁ m₂ = subst (λ (x : Sheet). AgreeShown (cells x.regions) m₁ m₂) same shown in
          let long : length m₁ ≡ length m₂ = w₁ ∙ sym w₂ in
          let inside = q.inside in
          record {
            h = q.h;
            answered = record {
              good = q.answered.good;
              written = q.answered.written;
              valid = q.answered.valid;
              whole = sym long ∙ q.answered.whole;
              asked = q.answered.asked;
              lent = q.answered.lent;
              enabled = q.answered.enabled;
            };
            accepts = ap (λ (f : Fate). not (missed q.h state command) && eqb f.alarm 0) (sym (row_same q.h state m₁ m₂ command there)) ∙ q.accepts;
            address = q.address;
            n = q.n;
            from = q.from;
            stores = ap (λ (f : Fate). f.stores) (sym (fate_same q.h state m₁ m₂ command there)) ∙ q.stores;
            fits = q.fits;
            right = q.right;
            inside = omega arith;
            above = q.above;
            below = q.below;
            octet = q.octet;
          }

      reached_agree : (i : ℕ) → (k : ℕ) × Wrote (sheet_octets h) state m₁ command reply i k
          → get_or (exchange_of (sheet_octets h) state m₁ command reply).memory i 0 ≡ get_or (exchange_of (sheet_octets h) state m₂ command reply).memory i 0
      reached_agree i r =
          wrote_is (sheet_octets h) state m₁ command reply i r.0 r.1
          ∙ sym (wrote_is (sheet_octets h) state m₂ command reply i r.0 (other_wrote i r.0 r.1))

      abbrev R : ℕ → Type 0
      R i = (k : ℕ) × Wrote (sheet_octets h) state m₁ command reply i k

      -- an exchange that is answered
      answered_kept : Answered h (sheet_octets h) state m₁ command reply → Answered h (sheet_octets h) state m₂ command reply
          → Kept h E R (exchange_of (sheet_octets h) state m₁ command reply) (exchange_of (sheet_octets h) state m₂ command reply)
      answered_kept a₁ a₂ =
          let f = fate_same h state m₁ m₂ command shown in
          let e₁ = answered_done h (sheet_octets h) state m₁ command reply a₁ in
          let e₂ = answered_done h (sheet_octets h) state m₂ command reply a₂ in
          let fit : (m : List ℕ) → length m ≡ room h.regions → length m ≡ length (cells h.regions) = λ m e. e ∙ sym (length_cells h.regions) in
          let long : length m₁ ≡ length m₂ = w₁ ∙ sym w₂ in
          record {
            same = ap seen e₁
                ∙ ap (λ (g : Fate). record { answer = told 0 g.place; state = state_after state (mn h command) g.changes; reply = reply_for h command g.alarm (state_after state (mn h command) g.changes) g.body }) f
                ∙ sym (ap seen e₂);
            whole₁ = ap (λ (l : Left). length l.memory) e₁ ∙ stored_length (fate_of h state m₁ command).stores (cells h.regions) m₁ (fit m₁ w₁) ∙ w₁;
            whole₂ = ap (λ (l : Left). length l.memory) e₂ ∙ stored_length (fate_of h state m₂ command).stores (cells h.regions) m₂ (fit m₂ w₂) ∙ w₂;
            agree = λ i. ⊎_elim
                (λ (e : E i).
                ⊎_elim
                (λ (l : i < length m₁).
                octet_is h (sheet_octets h) state m₁ command reply a₁ i l
                ∙ ap₂ (λ (g : Fate) (x : ℕ). laid g.stores (cell_at (cells h.regions) i).address x) f (agree i e)
                ∙ sym (octet_is h (sheet_octets h) state m₂ command reply a₂ i (omega arith)))
                (λ (l : length m₁ ≤ i).
                octet_past h (sheet_octets h) state m₁ command reply a₁ i l ∙ agree i e ∙ sym (octet_past h (sheet_octets h) state m₂ command reply a₂ i (omega arith)))
                (lt_or_le i (length m₁)))
                (λ r. reached_agree i r);
          }

      pub exchange_kept : Kept h E R (exchange_of (sheet_octets h) state m₁ command reply) (exchange_of (sheet_octets h) state m₂ command reply)
      exchange_kept =
          ⊎_elim
          (λ (go : (m : List ℕ) → length m ≡ room h.regions → Answered h (sheet_octets h) state m command reply). answered_kept (go m₁ w₁) (go m₂ w₂))
          (λ (stop : (n : ℕ) × Refuses h state command reply n).
          let e₁ = stop.1 m₁ w₁ in
          let e₂ = stop.1 m₂ w₂ in
          subst₂ (λ (x y : Left). Kept h E R x y) (sym e₁) (sym e₂)
          (still (told stop.0 0) state reply R
          (λ i r. ap (λ (l : Left). get_or l.memory i 0) (sym e₁) ∙ reached_agree i r ∙ ap (λ (l : Left). get_or l.memory i 0) e₂)))
          (answered_or h w state command reply)
