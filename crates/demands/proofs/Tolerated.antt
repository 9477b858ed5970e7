-- Request 9: so many failures in a row are tolerated.
--     fails_it       a command that lacks MN or SN fails check 1
--     is_tolerated   below the sheet's number of failures it is tolerated
--     within         as many in a row as the sheet allows
use mathlib.Core.Bool.{Bool, true, false, not, ◌&&◌}
use mathlib.Core.Logic.{⊎_elim}
use mathlib.Core.Path.{◌≡◌, refl, sym, ap, ap₂, ◌∙◌}
use mathlib.Core.List.{List, [], ◌∷◌}
use Prim.Native.Nat.{ℕ, ◌+◌, ◌%◌, ◌≤◌, ◌<◌}
use native.Mathlib.Omega.{arith}
use borrow.Author.Tests.{eq-eqb, lt-ltb, le-ltb}
use lib.Dec.{eqb, ltb}
use lib.ListN.{length, get_or}
use Rattle.octets.proofs.Cases.{decided}
use Rattle.law.specs.Words.{when, Piece, piece, laid, over}
use Rattle.law.specs.Sheet.{Sheet, allows}
use Rattle.link.specs.Stored.{fields_of}
use Rattle.law.specs.State.{link, mn_known, last_mn, rsn, communication_latch, failures, valid_state}
use Rattle.law.specs.Table.{table}
use Rattle.law.specs.Exchange.{Fate, code, mn, sn, missed, judged, lost, tolerated, fate_of, watched, state_after}
use Rattle.law.specs.Calls.{done}
use Rattle.law.proofs.Clauses.{valid_true}
use Rattle.law.proofs.Laid.{over_at, over_length}
use Rattle.slave.specs.Answers.{told}
use Rattle.slave.specs.Exchange.{Left, left, exchange_of}
use Rattle.demands.specs.Accepted.{accepted}
use Rattle.demands.specs.Answered.{Answered}
use Rattle.demands.specs.Tolerated.{Misses, Failures, state_behind, memory_behind, StillInStep, LeavesLink3, SoManyInARow, NoneWithout, Tolerated, OneIsTolerated, PassingCountsNone}
use Rattle.demands.specs.Watchdog.{Asks, Exchanged}
use Rattle.demands.proofs.Done.{answered_done}
use Rattle.demands.proofs.Counts.{state_is, told_by_count, passed_count, failing_yes, failing_no, same_link, tolerated_count, tolerated_shown, lost_count}
use Rattle.demands.proofs.Exact.{link_is, lost_link}
use Rattle.demands.proofs.OnTheWire.{refused_on_the_wire}
use Rattle.demands.proofs.Places.{alarm_is}
use Rattle.demands.proofs.Watchdog.{octet_after, known_after, last_after, rsn_after, passes, asked}

fails_it : (h : Sheet) (s c : List ℕ) → Asks s → Misses h s c → missed h s c ≡ true
fails_it h s c w n =
    ⊎_elim (λ (q : missed h s c ≡ true). q) (λ (q : missed h s c ≡ false). absurd (n (asked h s c w q))) (decided (missed h s c))

-- an answered exchange that fails check 1
module _ (h : Sheet) (sheet s m c r : List ℕ) (a : Answered h sheet s m c r) (w : Asks s) (n : Misses h s c) where
  abbrev x : Left
  x = exchange_of sheet s m c r

  abbrev counts : List Piece
  counts = (tolerated s).changes

  miss : missed h s c ≡ true
  miss = fails_it h s c w n

  eleven : length s ≡ 11
  eleven = (valid_true h s a.valid).0

  not_accepted : accepted h s m c ≡ false
  not_accepted = ap (λ (b : Bool). not b && eqb (judged s (code c) (table h s m c)).alarm 0) miss

  module _ (few : failures s < allows h) where
    below : ltb (failures s) (allows h) ≡ true
    below = lt-ltb (failures s) (allows h) few

    fate_is : fate_of h s m c ≡ tolerated s
    fate_is = failing_yes h sheet s m c r a miss below

    is : x.state ≡ state_after s (mn h c) counts
    is = state_is h sheet s m c r a (tolerated s) fate_is

    still : link (over counts s) ≡ 3
    still = same_link h sheet s m c r a ∙ w.synchronous

    -- an octet behind it, but for the watchdog's
    behind : (k : ℕ) → k < 11 → get_or x.state k 0 ≡ laid (piece 5 (1 ∷ mn h c ∷ (rsn s + 1) % 16 ∷ []) ∷ []) (0 + k) (laid counts (0 + k) (get_or s k 0))
    behind k l =
        let e = eleven in
        ap (λ (t : List ℕ). get_or t k 0) is ∙ octet_after s (mn h c) counts eleven w.synchronous still k l
        ∙ ap (laid (piece 5 (1 ∷ mn h c ∷ (rsn s + 1) % 16 ∷ []) ∷ []) (0 + k)) (over_at 0 counts s k (omega arith))

    goes_on : StillInStep s x.state (failures s + 1)
    unfolding laid when
    goes_on = record {
      in_step = record {
        synchronous = behind 1 (omega arith) ∙ w.synchronous;
        known = ap mn_known is ∙ known_after s (mn h c) counts eleven w.synchronous still;
      };
      command_latch = behind 8 (omega arith);
      communication_latch = behind 9 (omega arith);
      counted = tolerated_count h sheet s m c r a miss below;
    }

    pub one_tolerated : Tolerated h s m c x
    one_tolerated =
        let q = refused_on_the_wire h sheet s m c r a not_accepted in
        record {
          number_and_place = (q.reply_built, ap (λ (l : Left). l.answer.place) (answered_done h sheet s m c r a) ∙ ap (λ (f : Fate). f.place) fate_is);
          nothing_stored = q.nothing_stored;
          zero_body = q.zero_body;
          no_alarm = (q.by_watchdog miss).0;
          bit_1 = tolerated_shown h sheet s m c r a miss below;
          goes_on = goes_on;
          last_mn = ap last_mn is ∙ last_after s (mn h c) counts eleven w.synchronous still;
          rsn_advances = ap rsn is ∙ rsn_after s (mn h c) counts eleven w.synchronous still;
        }

    -- what it leaves, in which the memory shows nowhere but in itself
    pub leaves : x ≡ left (told 0 0) (done h s m c (tolerated s)).state (done h s m c (tolerated s)).memory (done h s m c (tolerated s)).reply
    leaves =
        answered_done h sheet s m c r a
        ∙ ap (λ (f : Fate). left (told 0 f.place) (done h s m c f).state (done h s m c f).memory (done h s m c f).reply) fate_is

  -- one failure more
  module _ (most : failures s ≡ allows h) where
    at_most : ltb (failures s) (allows h) ≡ false
    at_most = le-ltb (failures s) (allows h) (omega arith)

    fate_lost : fate_of h s m c ≡ lost
    fate_lost = failing_no h sheet s m c r a miss at_most

    -- the watchdog's fields stand beside the latch
    beside : (b d : Bool) (u v k : ℕ)
        → laid (when b (when d (piece 5 (1 ∷ u ∷ v ∷ []) ∷ []) (piece 3 (0 ∷ []) ∷ piece 5 (0 ∷ 0 ∷ 0 ∷ []) ∷ piece 10 (0 ∷ []) ∷ [])) (when d (piece 5 (0 ∷ 0 ∷ 0 ∷ []) ∷ []) [])) 9 k ≡ k
    unfolding when laid
    beside true true u v k = refl
    beside true false u v k = refl
    beside false true u v k = refl
    beside false false u v k = refl

    latched : communication_latch (state_after s (mn h c) lost.changes) ≡ 12
    unfolding state_after watched laid when
    latched =
        let e = eleven in
        let o = over lost.changes s in
        let k = over_length 0 lost.changes s in
        over_at 0 (watched (link s) (link o) s (mn h c)) o 9 (omega arith)
        ∙ beside (eqb (link s) 3) (eqb (link o) 3) (mn h c) ((rsn s + 1) % 16) (get_or o 9 0)
        ∙ over_at 0 lost.changes s 9 (omega arith)

    pub leaves_link_3 : LeavesLink3 h x
    leaves_link_3 = record {
      link_2 = link_is h sheet s m c r a lost fate_lost ∙ lost_link h sheet s m c r a (link s);
      alarm_12 = ap communication_latch (state_is h sheet s m c r a lost fate_lost) ∙ latched;
      no_alarm = alarm_is h sheet s m c r a ∙ ap (λ (f : Fate). f.alarm) fate_lost;
      none_counted = lost_count h sheet s m c r a miss at_most;
    }

-- so many in a row
within : (h : Sheet) (sheet s m : List ℕ) (ds : List Exchanged) → Asks s → Failures h sheet s m ds → failures s + length ds ≤ allows h
    → StillInStep s (state_behind sheet s m ds) (failures s + length ds) × (memory_behind sheet s m ds ≡ m)
within h sheet s m [] w fs most = (
  record { in_step = w; command_latch = refl; communication_latch = refl; counted = let e : failures s ≡ failures s + 0 = omega arith in e },
  refl,
)
within h sheet s m (d ∷ ds) w (a, n, rest) most =
    let c = d.command in
    let x = exchange_of sheet s m c d.lent in
    let t = one_tolerated h sheet s m c d.lent a w n (omega arith) in
    let g = t.goes_on in
    let one = g.counted in
    let q = within h sheet x.state x.memory ds g.in_step rest (omega arith) in
    let last = q.0.counted in (
      record {
        in_step = q.0.in_step;
        command_latch = q.0.command_latch ∙ g.command_latch;
        communication_latch = q.0.communication_latch ∙ g.communication_latch;
        counted = last ∙ (let e : failures x.state + length ds ≡ failures s + length (d ∷ ds) = omega arith in e);
      },
      q.1 ∙ t.nothing_stored,
    )

pub so_many_in_a_row : SoManyInARow
so_many_in_a_row = record {
  within_it = λ h sheet s m ds w none fs most.
      let q = within h sheet s m ds w fs (omega arith) in
      let p = q.0 in (
        record {
          in_step = p.in_step;
          command_latch = p.command_latch;
          communication_latch = p.communication_latch;
          counted = p.counted ∙ (let e : failures s + length ds ≡ length ds = omega arith in e);
        },
        q.1,
      );
  one_more = λ h sheet s m ds d w none fs most a n.
      let p = (within h sheet s m ds w fs (omega arith)).0 in
      let k = p.counted in
      leaves_link_3 h sheet (state_behind sheet s m ds) (memory_behind sheet s m ds) d.command d.lent a p.in_step n (omega arith);
}

-- a sheet without the record allows none
allows_none : (h : Sheet) → h.tolerances ≡ [] → allows h ≡ 0
allows_none h e = ap (λ (ts : List ℕ). get_or ts 0 0) e

-- a valid record counts no more than the sheet allows
few_counted : (h : Sheet) (s : List ℕ) → valid_state h s ≡ true → failures s ≤ allows h
unfolding fields_of
few_counted h s v = (valid_true h s v).2.few

pub none_without : NoneWithout
none_without = record {
  no_count = λ h s none v.
      let few = few_counted h s v in
      let z = allows_none h none in
      omega arith;
  no_bit = λ h sheet s m c r none a.
      let z = allows_none h none in
      told_by_count h sheet s m c r a
      ∙ ap (λ (k : ℕ). not (eqb k 0))
      (⊎_elim (λ (q : missed h s c ≡ true). lost_count h sheet s m c r a q (le-ltb (failures s) (allows h) (omega arith)))
      (λ (q : missed h s c ≡ false). passed_count h sheet s m c r a q) (decided (missed h s c)));
}

pub one_is_tolerated : OneIsTolerated
one_is_tolerated = record {
  is_tolerated = λ h sheet s m c r a w n few. one_tolerated h sheet s m c r a w n few;
  tells_nothing = λ h sheet s m other c r a whole w n few.
      let b : Answered h sheet s other c r =
      record { good = a.good; written = a.written; valid = a.valid; whole = whole; asked = a.asked; lent = a.lent; enabled = a.enabled } in
      let p = leaves h sheet s m c r a w n few in
      let q = leaves h sheet s other c r b w n few in (
        ap (λ (l : Left). l.answer) p ∙ sym (ap (λ (l : Left). l.answer) q),
        ap (λ (l : Left). l.state) p ∙ sym (ap (λ (l : Left). l.state) q),
        ap (λ (l : Left). l.reply) p ∙ sym (ap (λ (l : Left). l.reply) q),
      );
}

pub passing_counts_none : PassingCountsNone
passing_counts_none h sheet s m c r a w both =
    let holds = ap₂ ◌&&◌ (eq-eqb (mn h c) ((last_mn s + 1) % 16) both.0) (eq-eqb (sn h c) (rsn s) both.1) in
    passed_count h sheet s m c r a (passes (eqb (link s) 3) (eqb (mn_known s) 1) holds)
