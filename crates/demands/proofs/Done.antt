-- An answered exchange is the law's, and what a host reads in what it leaves.
--     answered_done                               what is left, by the law
--     seen_whole, seen_code, seen_alarm           the reply's length, code and alarm
--     seen_identity, seen_rwdt                    the command's identity in the reply; RWDT
--     seen_zero                                   without a body all octets behind the head are 0
--     seen_link                                   the link afterwards is what the command made of it
use mathlib.Core.Bool.{Bool, true, false, not, ◌&&◌}
use mathlib.Core.Logic.{⊎_elim}
use mathlib.Core.Path.{◌≡◌, refl, sym, ap, ◌∙◌}
use mathlib.Core.List.{List, [], ◌∷◌, ◌++◌}
use Prim.Native.Nat.{ℕ, ◌+◌, ◌*◌, ◌/◌, ◌%◌, ◌≤◌, ◌<◌}
use native.Mathlib.Omega.{arith}
use lib.Dec.{eqb}
use lib.ListN.{length, get_or, replicate, length-replicate, get_or-replicate, get_or-eq_default}
use Rattle.octets.proofs.Cases.{lt_or_le}
use Rattle.link.specs.Stored.{fields_of}
use Rattle.slave.specs.Answers.{told}
use Rattle.slave.specs.Exchange.{left, exchanged, exchange_of}
use Rattle.replay.proofs.Steps.{is_exchanged}
use Rattle.law.specs.Words.{Every, when, bit, Piece, piece, laid, over}
use Rattle.law.specs.Sheet.{PduType, enhanced, short, Sheet, GoodLength, sheet_octets}
use Rattle.law.specs.State.{link, rsn, command_latch, communication_latch, failures}
use Rattle.law.specs.Exchange.{Fate, code, mn, identity, fate_of, watched, state_after, rwdt_for, low_status, head_for, reply_for}
use Rattle.law.specs.Calls.{Result, done}
use Rattle.law.proofs.Calls.{leaves, done_same}
use Rattle.law.proofs.Clauses.{state_yes}
use Rattle.law.proofs.Complete.{complete}
use Rattle.law.proofs.Laid.{over_length, over_at, laid_before, laid_append, lies, lies_below, lies_past}
use Rattle.law.proofs.Layouts.{layout_for}
use Rattle.law.proofs.World.{piece_at}
use Rattle.demands.specs.Answered.{Answered, alarm_of, alarm_in, low_in, tolerated_in, InBody}
use Rattle.demands.specs.Identity.{identity_in, echoed}
use Rattle.demands.specs.Watchdog.{rwdt_of, rwdt}
use Rattle.demands.proofs.Fates.{fate_small}
use Rattle.demands.proofs.Pieces.{head_size, good_length, fate_body, fate_ends}

-- what the law leaves of an exchange that nothing refuses
abbrev pub lawful : Sheet → List ℕ → List ℕ → List ℕ → Result
lawful h s m c = done h s m c (fate_of h s m c)

-- a place is told from the packed answer of a built reply
place_of : (p q : ℕ) → 0 + 4294967296 * p ≡ 0 + 4294967296 * q → p ≡ q
place_of p q e = omega arith

pub answered_done : (h : Sheet) (sheet s m c r : List ℕ) → Answered h sheet s m c r
    → exchange_of sheet s m c r ≡ left (told 0 (fate_of h s m c).place) (lawful h s m c).state (lawful h s m c).memory (lawful h s m c).reply
unfolding fields_of exchanged
answered_done h sheet s m c r a =
    let q = state_yes h s a.valid in
    let st = fields_of s in
    let e : leaves (exchanged (sheet_octets h) (layout_for h) st m c) ≡ lawful h s m c =
    done_same h a.good st q.2 m c a.whole a.asked a.enabled ∙ ap (λ (x : List ℕ). lawful h x m c) (sym q.1) in
    ap (λ (x : List ℕ). exchange_of x s m c r) a.written
    ∙ is_exchanged (sheet_octets h) s m c r (layout_for h) (complete h a.good) st (record { held = q.0; on = a.enabled }) a.whole a.asked a.lent
    ∙ (λ i. left (told 0 (place_of _ _ (ap (λ (x : Result). x.answer) e) i)) (ap (λ (x : Result). x.state) e i) (ap (λ (x : Result). x.memory) e i) (ap (λ (x : Result). x.reply) e i))

bit_small : (b : Bool) → when b 0 1 ≤ 1
unfolding when
bit_small true = omega arith
bit_small false = omega arith

bit_two : (b : Bool) → when b 0 2 ≤ 2
unfolding when
bit_two true = omega arith
bit_two false = omega arith

second_bit : (b d : Bool) (i : ℕ) → bit (4 + when b 0 1 + when d 0 2 + 64 * i) 1 ≡ not d
unfolding when
second_bit true true i = ap (λ (n : ℕ). eqb n 1) (let e : (4 + 0 + 0 + 64 * i) / 2 % 2 ≡ 0 = omega arith in e)
second_bit true false i = ap (λ (n : ℕ). eqb n 1) (let e : (4 + 0 + 2 + 64 * i) / 2 % 2 ≡ 1 = omega arith in e)
second_bit false true i = ap (λ (n : ℕ). eqb n 1) (let e : (4 + 1 + 0 + 64 * i) / 2 % 2 ≡ 0 = omega arith in e)
second_bit false false i = ap (λ (n : ℕ). eqb n 1) (let e : (4 + 1 + 2 + 64 * i) / 2 % 2 ≡ 1 = omega arith in e)

-- the head of each type, octet by octet, before the body
module _ (h : Sheet) (c : List ℕ) (alarm : ℕ) (t : List ℕ) where
  head_code : (pdu : PduType) → laid (head_for pdu h c alarm t) 0 0 ≡ code c
  unfolding laid when
  head_code enhanced = refl
  head_code short = refl

  -- "Status": the low octet, with the identity or without
  head_low : (pdu : PduType) → laid (head_for pdu h c alarm t) 2 0 ≡ low_status t + 64 * echoed pdu (identity c)
  unfolding laid when
  head_low enhanced = refl
  head_low short = let e : low_status t ≡ low_status t + 64 * 0 = omega arith in e

module _ (h : Sheet) (s m c : List ℕ) (good : GoodLength h.pdu h.l) where
  abbrev f : Fate
  f = fate_of h s m c

  abbrev t : List ℕ
  t = (lawful h s m c).state

  abbrev head : List Piece
  head = head_for h.pdu h c f.alarm t

  abbrev reply : List ℕ
  reply = (lawful h s m c).reply

  long : 8 ≤ h.l
  long = good_length h.pdu h.l good

  zeros : length {A = ℕ} (replicate h.l 0) ≡ h.l
  zeros = length-replicate {A = ℕ} h.l 0

  pub seen_whole : length reply ≡ h.l
  unfolding reply_for
  seen_whole = over_length 0 (head ++ f.body) (replicate h.l 0) ∙ zeros

  -- octet k of the reply: the body's pieces over the head's
  seen_at : (k : ℕ) → k < h.l → get_or reply k 0 ≡ laid f.body k (laid head k 0)
  unfolding reply_for
  seen_at k u =
      let z = zeros in
      over_at 0 (head ++ f.body) (replicate h.l 0) k (omega arith)
      ∙ ap (λ (i : ℕ). laid (head ++ f.body) i (get_or (replicate h.l 0) k 0)) (let e : 0 + k ≡ k = omega arith in e)
      ∙ ap (laid (head ++ f.body) k) (get_or-replicate h.l k 0 0 u)
      ∙ laid_append head f.body k 0

  all_further : (k : ℕ) → k < head_size → (ps : List Piece) → Every (λ (p : Piece). head_size ≤ p.first) ps → Every (λ (p : Piece). k < p.first) ps
  all_further k l [] all = tt
  all_further k l (p ∷ ps) all = (let z : k < p.first = omega (arith, all.0) in z, all_further k l ps all.1)

  -- before the body
  pub seen_head : (k : ℕ) → k < head_size → get_or reply k 0 ≡ laid head k 0
  seen_head k l = let n = long in seen_at k (omega arith) ∙ laid_before f.body k _ (all_further k l f.body (fate_body h s m c))

  pub seen_code : code reply ≡ code c
  seen_code = seen_head _ (omega arith) ∙ head_code h c f.alarm t h.pdu

  seen_low : low_in reply ≡ low_status t + 64 * echoed h.pdu (identity c)
  seen_low = seen_head _ (omega arith) ∙ head_low h c f.alarm t h.pdu

  pub seen_identity : identity_in reply ≡ echoed h.pdu (identity_in c)
  seen_identity =
      let u = bit_small (eqb (command_latch t) 0 && eqb (communication_latch t) 0) in
      let v = bit_two (eqb (failures t) 0) in
      let w = echoed_small h.pdu (identity c) (omega arith) in
      ap (λ (x : ℕ). x / 64 % 4) seen_low ∙ (let e : (low_status t + 64 * echoed h.pdu (identity c)) / 64 % 4 ≡ echoed h.pdu (identity c) = omega arith in e)
    where
      echoed_small : (pdu : PduType) (x : ℕ) → x < 4 → echoed pdu x < 4
      echoed_small enhanced x l = l
      echoed_small short x l = omega arith

  -- status bit 1 tells that a failure is counted
  pub seen_tolerated : tolerated_in reply ≡ not (eqb (failures t) 0)
  seen_tolerated =
      ap (λ (x : ℕ). bit x 1) seen_low
      ∙ second_bit (eqb (command_latch t) 0 && eqb (communication_latch t) 0) (eqb (failures t) 0) (echoed h.pdu (identity c))

  -- the alarm of each type
  alarm_of_lem : (pdu : PduType) → ((k : ℕ) → k < head_size → get_or reply k 0 ≡ laid (head_for pdu h c f.alarm t) k 0) → alarm_of pdu reply ≡ f.alarm
  unfolding laid when
  alarm_of_lem enhanced at =
      let u = fate_small h s m c in
      ap (λ (x : ℕ). x % 16) (at 3 (omega arith)) ∙ (let e : (f.alarm + 16 * communication_latch t) % 16 ≡ f.alarm = omega arith in e)
  alarm_of_lem short at = at 1 (omega arith)

  pub seen_alarm : alarm_in h reply ≡ f.alarm
  seen_alarm = alarm_of_lem h.pdu seen_head

  all_past : (k : ℕ) (ps : List Piece) → Every (λ (p : Piece). p.first + length p.octets ≤ k) ps → (old : ℕ) → laid ps k old ≡ old
  unfolding laid
  all_past k [] all old = refl
  all_past k (p ∷ ps) all old = ap (laid ps k) (lies_past p k old all.0) ∙ all_past k ps all.1 old

  -- RWDT of each type: in the head, or behind the body
  rwdt_of_lem : (pdu : PduType) → GoodLength pdu h.l → (pdu ≡ short → Every (λ (p : Piece). p.first + length p.octets ≤ 15) f.body)
      → ((k : ℕ) → k < head_size → get_or reply k 0 ≡ laid (head_for pdu h c f.alarm t) k 0)
      → ((k : ℕ) → k < h.l → get_or reply k 0 ≡ laid f.body k (laid (head_for pdu h c f.alarm t) k 0))
      → rwdt_of pdu reply ≡ rwdt_for h c t
  unfolding laid when
  rwdt_of_lem enhanced fits ends at all = at 1 (omega arith)
  rwdt_of_lem short fits ends at all = all 15 (omega arith) ∙ all_past 15 f.body (ends refl) _

  pub seen_rwdt : rwdt h reply ≡ rwdt_for h c t
  seen_rwdt = rwdt_of_lem h.pdu good (fate_ends h s m c) seen_head seen_at

  -- behind the head's pieces there is nothing
  head_past : (pdu : PduType) (k : ℕ) → InBody pdu k → laid (head_for pdu h c f.alarm t) k 0 ≡ 0
  unfolding laid
  head_past enhanced k l = lies_past (piece_at (head_for enhanced h c f.alarm t) 0) k 0 l
  head_past short k l =
      let ps = head_for short h c f.alarm t in
      lies_below (piece_at ps 1) k (lies (piece_at ps 0) k 0) l.1 ∙ lies_past (piece_at ps 0) k 0 l.0

  pub seen_body : (k : ℕ) → InBody h.pdu k → k < h.l → get_or reply k 0 ≡ laid f.body k 0
  seen_body k l u = seen_at k u ∙ ap (laid f.body k) (head_past h.pdu k l)

  pub seen_zero : f.body ≡ [] → (k : ℕ) → InBody h.pdu k → get_or reply k 0 ≡ 0
  unfolding laid
  seen_zero none k l =
      let w = seen_whole in
      ⊎_elim
      (λ (u : k < h.l). seen_body k l u ∙ ap (λ (ps : List Piece). laid ps k 0) none)
      (λ (u : h.l ≤ k). get_or-eq_default reply 0 {n = k} (omega arith))
      (lt_or_le k h.l)

  -- the watchdog's fields stand behind the link
  watched_further : (link_before link_after : ℕ) (b d : Bool) (x y : ℕ)
      → Every (λ (p : Piece). 1 < p.first) (when b (when d (piece 5 (1 ∷ x ∷ y ∷ []) ∷ []) (piece 3 (0 ∷ []) ∷ piece 5 (0 ∷ 0 ∷ 0 ∷ []) ∷ piece 10 (0 ∷ []) ∷ [])) (when d (piece 5 (0 ∷ 0 ∷ 0 ∷ []) ∷ []) []))
  unfolding when
  watched_further link_before link_after true true x y = (omega arith, tt)
  watched_further link_before link_after true false x y = (omega arith, (omega arith, (omega arith, tt)))
  watched_further link_before link_after false true x y = (omega arith, tt)
  watched_further link_before link_after false false x y = tt

  pub seen_link : 2 ≤ length s → link t ≡ laid f.changes 1 (link s)
  unfolding state_after watched
  seen_link two =
      let o = over f.changes s in
      let n = over_length 0 f.changes s in
      over_at 0 (watched (link s) (link o) s (mn h c)) o 1 (omega arith)
      ∙ laid_before (watched (link s) (link o) s (mn h c)) 1 (get_or o 1 0) (watched_further (link s) (link o) (eqb (link s) 3) (eqb (link o) 3) (mn h c) ((rsn s + 1) % 16))
      ∙ over_at 0 f.changes s 1 (omega arith)
