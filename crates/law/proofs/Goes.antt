-- Next state and alarm.
use mathlib.Core.Bool.{Bool, true, false}
use mathlib.Core.Logic.{◌⊎◌, inl, inr, ⊎_elim}
use mathlib.Core.Path.{◌≡◌, refl, sym, ap, subst}
use mathlib.Core.List.{List, [], ◌∷◌}
use Prim.Native.Nat.{ℕ, zero, suc, ◌+◌, ◌≤◌, ◌<◌, ◌/◌, ◌%◌}
use native.Mathlib.Omega.{arith}
use lib.Dec.{eqb}
use lib.ListN.{get_or}
use Rattle.octets.specs.Pick.{pick}
use Rattle.link.specs.Steps.{lost, tolerated, latched, with_command, cleared, synced, dropped, connected, idle}
use Rattle.link.specs.Stored.{octets_of}
use Rattle.link.specs.declared.state.LinkState.{LinkState}
use Rattle.link.proofs.Facts.{Facts}
use Rattle.machine.specs.Outcomes.{counting}
use Rattle.law.specs.Words.{bit, when, one_of, Piece, piece, laid, over_from}
use Rattle.law.specs.State.{link}
use Rattle.law.specs.Exchange.{watched, state_after}

-- in a link that is not 0, what holds in links 1, 2 and 3
pub in_links : (P : ℕ → Type 0) → P 1 → P 2 → P 3 → (n : ℕ) → n ≤ 3 → (n ≡ 0 → ⊥) → P n
in_links P a b c zero h z = absurd (z refl)
in_links P a b c (suc zero) h z = a
in_links P a b c (suc (suc zero)) h z = b
in_links P a b c (suc (suc (suc zero))) h z = c
in_links P a b c (suc (suc (suc (suc n)))) h z = absurd (omega arith)

abbrev one : ℕ → ℕ → ℕ → LinkState
one l ca co = record { link = 1; l = l; dual = 0; com_time = 0; watch = idle; latches = record { command = ca; communication = co } }

abbrev two : ℕ → ℕ → ℕ → ℕ → LinkState
two l time ca co = record { link = 2; l = l; dual = 0; com_time = time; watch = idle; latches = record { command = ca; communication = co } }

abbrev three : ℕ → ℕ → ℕ → ℕ → ℕ → ℕ → ℕ → ℕ → ℕ → LinkState
three l dual time known last rsn failures ca co = record {
  link = 3;
  l = l;
  dual = dual;
  com_time = time;
  watch = record { known = known; last = last; rsn = rsn; failures = failures };
  latches = record { command = ca; communication = co };
}

-- the valid states that are not Disabled
pub by_state : (P : LinkState → Type 0) → ((l ca co : ℕ) → P (one l ca co)) → ((l time ca co : ℕ) → P (two l time ca co))
    → ((l dual time known last rsn failures ca co : ℕ) → P (three l dual time known last rsn failures ca co)) → (st : LinkState) {l most : ℕ} → Facts l most st → (st.link ≡ 0 → ⊥) → P st
by_state P p₁ p₂ p₃ st f z =
    in_links (λ n. st.link ≡ n → P st)
    (λ e.
    let u : st.link ≡ 3 → ⊥ = λ q. omega arith in
    let t : st.com_time ≡ 0 = f.untimed (omega arith) in
    let d : st.dual ≡ 0 = f.single u in
    let w = f.unwatched u in
    subst P (λ i. record { link = sym e i; l = st.l; dual = sym d i; com_time = sym t i; watch = record { known = sym w.0 i; last = sym w.1 i; rsn = sym w.2 i; failures = sym w.3 i }; latches = st.latches })
    (p₁ st.l st.latches.command st.latches.communication))
    (λ e.
    let u : st.link ≡ 3 → ⊥ = λ q. omega arith in
    let d : st.dual ≡ 0 = f.single u in
    let w = f.unwatched u in
    subst P (λ i. record { link = sym e i; l = st.l; dual = sym d i; com_time = st.com_time; watch = record { known = sym w.0 i; last = sym w.1 i; rsn = sym w.2 i; failures = sym w.3 i }; latches = st.latches })
    (p₂ st.l st.com_time st.latches.command st.latches.communication))
    (λ e.
    subst P (λ i. record { link = sym e i; l = st.l; dual = st.dual; com_time = st.com_time; watch = st.watch; latches = st.latches })
    (p₃ st.l st.dual st.com_time st.watch.known st.watch.last st.watch.rsn st.watch.failures st.latches.command st.latches.communication))
    st.link f.link z refl

-- a state goes on to another as the pieces say
abbrev pub Moves : LinkState → LinkState → ℕ → List Piece → Type 0
Moves st next mn ps = octets_of next ≡ state_after (octets_of st) mn ps

-- and where check 1 is passed
abbrev pub Goes : LinkState → LinkState → ℕ → List Piece → Type 0
Goes st next mn ps = Moves st next mn (piece 10 (0 ∷ []) ∷ ps)

module _ (mn : ℕ) (st : LinkState) {l most : ℕ} (f : Facts l most st) (z : st.link ≡ 0 → ⊥) where
  pub goes_kept : Goes st (counting st st mn) mn []
  unfolding octets_of counting state_after watched pick when over_from laid
  goes_kept = by_state (λ st. Goes st (counting st st mn) mn []) (λ l ca co. refl) (λ l t ca co. refl) (λ l d t k s r n ca co. refl) st f z

  latches_as : (a : ℕ) (b : Bool) → Goes st (counting st (with_command st (pick b a st.latches.command)) mn) mn (when b (piece 8 (a ∷ []) ∷ []) [])
  unfolding octets_of counting state_after watched pick when over_from laid
  latches_as a true =
      by_state (λ st. Goes st (counting st (with_command st a) mn) mn (piece 8 (a ∷ []) ∷ [])) (λ l ca co. refl) (λ l t ca co. refl) (λ l d t k s r n ca co. refl) st f z
  latches_as a false = goes_kept

  pub goes_latched : (a : ℕ) → Goes st (counting st (latched st a) mn) mn (when (eqb (get_or (octets_of st) 8 0) 0) (piece 8 (a ∷ []) ∷ []) [])
  unfolding octets_of
  goes_latched a = latches_as a (eqb st.latches.command 0)

  pub goes_cleared : Goes st (counting st (cleared st) mn) mn (piece 8 (0 ∷ []) ∷ piece 9 (0 ∷ []) ∷ [])
  unfolding octets_of counting state_after watched pick when over_from laid
  goes_cleared =
      by_state (λ st. Goes st (counting st (cleared st) mn) mn (piece 8 (0 ∷ []) ∷ piece 9 (0 ∷ []) ∷ []))
      (λ l ca co. refl) (λ l t ca co. refl) (λ l d t k s r n ca co. refl) st f z

  pub goes_dropped : Goes st (counting st (dropped st) mn) mn (piece 1 (1 ∷ []) ∷ piece 4 (0 ∷ []) ∷ [])
  unfolding octets_of counting state_after watched pick when over_from laid
  goes_dropped =
      by_state (λ st. Goes st (counting st (dropped st) mn) mn (piece 1 (1 ∷ []) ∷ piece 4 (0 ∷ []) ∷ []))
      (λ l ca co. refl) (λ l t ca co. refl) (λ l d t k s r n ca co. refl) st f z

  pub goes_synced : one_of (link (octets_of st)) (2 ∷ []) ≡ true → Goes st (counting st (synced st) mn) mn (piece 1 (3 ∷ []) ∷ piece 3 (0 ∷ []) ∷ [])
  unfolding octets_of counting state_after watched pick when over_from laid
  goes_synced =
      by_state (λ st. one_of st.link (2 ∷ []) ≡ true → Goes st (counting st (synced st) mn) mn (piece 1 (3 ∷ []) ∷ piece 3 (0 ∷ []) ∷ []))
      (λ l ca co e. cc) (λ l t ca co e. refl) (λ l d t k s r n ca co e. cc) st f z

  pub goes_connected : (n dual time : ℕ) → (n ≡ 3) ⊎ (n ≡ 2) → one_of (link (octets_of st)) (1 ∷ []) ≡ true
      → Goes st (counting st (connected st n dual time) mn) mn (piece 1 (n ∷ []) ∷ piece 3 (dual ∷ []) ∷ piece 4 (time ∷ []) ∷ [])
  unfolding octets_of counting state_after watched pick when over_from laid
  goes_connected n dual time ok =
      by_state (λ st. one_of st.link (1 ∷ []) ≡ true → Goes st (counting st (connected st n dual time) mn) mn (piece 1 (n ∷ []) ∷ piece 3 (dual ∷ []) ∷ piece 4 (time ∷ []) ∷ []))
      (λ l ca co e.
      let P : ℕ → Type 0 = λ n. Goes (one l ca co) (connected (one l ca co) n dual time) mn (piece 1 (n ∷ []) ∷ piece 3 (dual ∷ []) ∷ piece 4 (time ∷ []) ∷ []) in
      ⊎_elim (λ (q : n ≡ 3). subst P (sym q) refl) (λ (q : n ≡ 2). subst P (sym q) refl) ok)
      (λ l t ca co e. cc) (λ l d t k s r n ca co e. cc) st f z

  -- CONNECT by its com_mod
  pub connect_goes : (x time : ℕ) → (x ≡ 0) ⊎ ((x ≡ 2) ⊎ (x ≡ 6)) → one_of (link (octets_of st)) (1 ∷ []) ≡ true
      → Goes st (counting st (connected st (pick (eqb (x / 2 % 2) 1) 3 2) (x / 4 % 4) time) mn) mn
      (piece 1 (when (bit x 1) 3 2 ∷ []) ∷ piece 3 (when (bit x 2) 1 0 ∷ []) ∷ piece 4 (time ∷ []) ∷ [])
  unfolding pick when
  connect_goes x time three ok =
      let P : ℕ → Type 0 = λ x. Goes st (counting st (connected st (pick (eqb (x / 2 % 2) 1) 3 2) (x / 4 % 4) time) mn) mn
      (piece 1 (when (bit x 1) 3 2 ∷ []) ∷ piece 3 (when (bit x 2) 1 0 ∷ []) ∷ piece 4 (time ∷ []) ∷ []) in
      ⊎_elim (λ (e : x ≡ 0). subst P (sym e) (goes_connected 2 0 time (inr refl) ok))
      (⊎_elim (λ (e : x ≡ 2). subst P (sym e) (goes_connected 3 0 time (inl refl) ok))
      (λ (e : x ≡ 6). subst P (sym e) (goes_connected 3 1 time (inl refl) ok))) three

  pub goes_lost : eqb (link (octets_of st)) 3 ≡ true → Moves st (lost st) mn (piece 1 (2 ∷ []) ∷ piece 9 (12 ∷ []) ∷ [])
  unfolding octets_of counting state_after watched pick when over_from laid
  goes_lost =
      by_state (λ st. eqb st.link 3 ≡ true → Moves st (lost st) mn (piece 1 (2 ∷ []) ∷ piece 9 (12 ∷ []) ∷ []))
      (λ l ca co e. cc) (λ l t ca co e. cc) (λ l d t k s r n ca co e. refl) st f z

  pub goes_tolerated : eqb (link (octets_of st)) 3 ≡ true → st.watch.failures < 255
      → Moves st (tolerated st mn) mn (piece 10 ((get_or (octets_of st) 10 0 + 1) ∷ []) ∷ [])
  unfolding octets_of state_after watched when over_from laid
  goes_tolerated =
      by_state (λ st. eqb st.link 3 ≡ true → st.watch.failures < 255 → Moves st (tolerated st mn) mn (piece 10 ((st.watch.failures + 1) ∷ []) ∷ []))
      (λ l ca co e u. cc) (λ l t ca co e u. cc)
      (λ l d t k s r n ca co e u.
      ap (λ (x : ℕ). 0x12 ∷ 3 ∷ l ∷ d ∷ t ∷ 1 ∷ mn ∷ (r + 1) % 16 ∷ ca ∷ co ∷ x ∷ []) (let q : (n + 1) % 256 ≡ n + 1 = omega arith in q)) st f z
