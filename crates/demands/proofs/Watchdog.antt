-- Request 5: the watchdog asks SN with MN.
--     known_after, last_after, rsn_after, link-after     the watchdog's fields behind an exchange that begins and ends in link 3
--     passes, asked                                      when check 1 does not fail, and what then holds
--     row_keeps                                          no command but DISCONNECT leaves link 3
use mathlib.Core.Bool.{Bool, true, false, not, and-eq-true_iff, true≢false, ◌&&◌, or-false}
use mathlib.Core.Logic.{inl, inr, ⊎_elim}
use mathlib.Core.Path.{◌≡◌, sym, ap, ap₂, ◌∙◌}
use mathlib.Core.List.{List, [], ◌∷◌}
use Prim.Native.Nat.{ℕ, ◌+◌, ◌*◌, ◌/◌, ◌%◌, ◌<◌}
use native.Mathlib.Omega.{arith}
use borrow.Author.Tests.{eqb-true, eq-eqb, not-false}
use lib.Dec.{eqb, ltb}
use lib.ListN.{length, get_or}
use Rattle.std.proofs.lemmas.Bool.{and_left, and_right}
use Rattle.octets.proofs.Cases.{decided}
use Rattle.law.specs.Words.{Every, when, one_of, Piece, piece, laid, over}
use Rattle.law.specs.Sheet.{Sheet, allows}
use Rattle.law.specs.State.{link, mn_known, last_mn, rsn, command_latch, failures}
use Rattle.law.specs.Table.{table}
use Rattle.law.specs.Exchange.{Fate, code, mn, sn, missed, lost, refused, judged, fate_of, watched, state_after}
use Rattle.law.proofs.Clauses.{valid_true}
use Rattle.law.proofs.Laid.{when_yes, over_at, over_length}
use Rattle.slave.specs.Exchange.{Left, exchange_of}
use Rattle.demands.specs.Answered.{Answered, tolerated_in}
use Rattle.demands.specs.Watchdog.{Asks, Fails, BothAreAsked, SameSnFails, Exchanged, rwdt, Stays, Master, InStep, MasterNeverFails}
use Rattle.demands.proofs.Done.{answered_done, seen_link, seen_rwdt}
use Rattle.demands.proofs.Counts.{failing_no, tolerated_shown, passed_shown}
use Rattle.demands.proofs.Exact.{link_is, lost_link, kept_link}
use Rattle.demands.proofs.Fates.{named, in_both, judged_in, latch_stays, row_stays, fate_kept}

-- the watchdog's fields behind an exchange that begins and ends in link 3
module _ (s : List ℕ) (sent : ℕ) (changes : List Piece) (eleven : length s ≡ 11) (three : link s ≡ 3) (still : link (over changes s) ≡ 3) where
  abbrev counted : List Piece
  counted = piece 5 (1 ∷ sent ∷ (rsn s + 1) % 16 ∷ []) ∷ []

  is_watched : watched (link s) (link (over changes s)) s sent ≡ counted
  unfolding watched
  is_watched = when_yes _ _ (eq-eqb (link s) 3 three) ∙ when_yes _ _ (eq-eqb (link (over changes s)) 3 still)

  pub octet_after : (k : ℕ) → k < 11 → get_or (state_after s sent changes) k 0 ≡ laid counted (0 + k) (get_or (over changes s) k 0)
  unfolding state_after
  octet_after k l =
      let n = over_length 0 changes s in
      ap (λ (ps : List Piece). get_or (over ps (over changes s)) k 0) is_watched ∙ over_at 0 counted (over changes s) k (omega arith)

  pub known_after : mn_known (state_after s sent changes) ≡ 1
  unfolding laid when
  known_after = octet_after 5 (omega arith)

  pub last_after : last_mn (state_after s sent changes) ≡ sent
  unfolding laid when
  last_after = octet_after 6 (omega arith)

  pub rsn_after : rsn (state_after s sent changes) ≡ (rsn s + 1) % 16
  unfolding laid when
  rsn_after = octet_after 7 (omega arith)

-- check 1, as the law has it
pub passes : (a b : Bool) {c : Bool} → c ≡ true → a && (b && not c) ≡ false
passes a b e = and_right a _ (and_right b _ (ap not e))

unasked : (a c : Bool) {b : Bool} → b ≡ false → a && (b && c) ≡ false
unasked a c e = and_right a _ (and_left _ c e)

-- where it does not fail and MN is known, MN follows and SN is RSN
pub asked : (h : Sheet) (s c : List ℕ) → Asks s → missed h s c ≡ false → (mn h c ≡ (last_mn s + 1) % 16) × (sn h c ≡ rsn s)
asked h s c w e =
    let b = eqb (mn h c) ((last_mn s + 1) % 16) in
    let d = eqb (sn h c) (rsn s) in
    let left : missed h s c ≡ not (b && d) = ap₂ (λ (x y : Bool). x && (y && not (b && d))) (eq-eqb (link s) 3 w.synchronous) (eq-eqb (mn_known s) 1 w.known) in
    let p = (and-eq-true_iff b d).0 (not-false (b && d) (sym left ∙ e)) in
    (eqb-true (mn h c) ((last_mn s + 1) % 16) p.0, eqb-true (sn h c) (rsn s) p.1)

module _ (h : Sheet) (s m c : List ℕ) where
  abbrev row : Fate
  row = judged s (code c) (table h s m c)

  -- a command that is judged in link 3, and is no DISCONNECT, stays there
  row_keeps : link s ≡ 3 → Stays c → laid row.changes 1 (link s) ≡ 3
  unfolding refused laid when
  row_keeps three stays =
      judged_in s (λ f. laid f.changes 1 (link s) ≡ 3)
      (λ a place w. latch_stays h s m c (eqb (command_latch s) 0) a (link s) ∙ three) (code c) (table h s m c) (named h s m c)
      (in_both h s m c (Every _)
      (still, (still, (still, (still, (still, (still, (away 2 (omega arith), (away 1 (omega arith), (λ e a b. absurd (stays e), (still, (still, tt)))))))))))
      (still, (still, (still, (still, (still, (still, (away 2 (omega arith), (away 1 (omega arith), (λ e a b. absurd (stays e), tt))))))))))
    where
      still : {A B C : Type 0} → A → B → C → link s ≡ 3
      still e a b = three

      -- SYNC_SET and CONNECT are not allowed in link 3
      away : {A B C : Type 0} (only : ℕ) → only < 3 → A → one_of (link s) (only ∷ []) ≡ true → B → C
      away only l e a b = let k = eqb-true (link s) only (sym (or-false (eqb (link s) only)) ∙ a) in absurd (omega arith)

-- an answered exchange
module _ (h : Sheet) (sheet s m c r : List ℕ) (a : Answered h sheet s m c r) where
  abbrev x : Left
  x = exchange_of sheet s m c r

  abbrev changes : List Piece
  changes = (fate_of h s m c).changes

  eleven : length s ≡ 11
  eleven = (valid_true h s a.valid).0

  state_is : x.state ≡ state_after s (mn h c) changes
  state_is = ap (λ (l : Left). l.state) (answered_done h sheet s m c r a)

  -- the link behind it is what the command made of it
  link_over : link x.state ≡ link (over changes s)
  link_over =
      let n = eleven in
      ap link state_is ∙ seen_link h s m c a.good.l (omega arith) ∙ sym (over_at 0 changes s 1 (omega arith))

  falls : missed h s c ≡ true → Fails s x
  falls e = record {
    was = eqb-true (link s) 3 ((and-eq-true_iff (eqb (link s) 3) _).0 e).0;
    shows = ⊎_elim
        (λ (l : ltb (failures s) (allows h) ≡ true). inr (tolerated_shown h sheet s m c r a e l))
        (λ (l : ltb (failures s) (allows h) ≡ false). inl (link_is h sheet s m c r a lost (failing_no h sheet s m c r a e l) ∙ lost_link h sheet s m c r a (link s)))
        (decided (ltb (failures s) (allows h)));
  }

  rsn_next : link s ≡ 3 → link x.state ≡ 3 → rsn x.state ≡ (rsn s + 1) % 16
  rsn_next three still = ap rsn state_is ∙ rsn_after s (mn h c) changes eleven three (sym link_over ∙ still)

-- the state behind a command and its reply, as a master that read the reply knows it
record Behind (h : Sheet) (state last reply : List ℕ) : Type 0 where
  pub watched : Asks state
  pub last_mn : last_mn state ≡ mn h last
  pub its_rsn : rsn state ≡ rwdt h reply / 16

-- a command of link 3 that passes check 1, and is no DISCONNECT
passed : (h : Sheet) (sheet s m c r : List ℕ) → Answered h sheet s m c r → link s ≡ 3 → missed h s c ≡ false → Stays c
    → (let x = exchange_of sheet s m c r in Behind h x.state c x.reply)
passed h sheet s m c r a three go stays =
    let x = exchange_of sheet s m c r in
    let ch = (fate_of h s m c).changes in
    let still : link (over ch s) ≡ 3 =
    sym (link_over h sheet s m c r a) ∙ link_is h sheet s m c r a _ (fate_kept h s m c go) ∙ kept_link h sheet s m c r a (row h s m c) ∙ row_keeps h s m c three stays in
    let t = state_after s (mn h c) ch in
    let is = state_is h sheet s m c r a in
    let link-three : link t ≡ 3 = sym (ap link is) ∙ link_over h sheet s m c r a ∙ still in
    let told : rwdt h x.reply ≡ 16 * rsn t + mn h c =
    ap (λ (l : Left). rwdt h l.reply) (answered_done h sheet s m c r a) ∙ seen_rwdt h s m c a.good.l ∙ when_yes _ _ (eq-eqb (link t) 3 link-three) in
    let n = eleven h sheet s m c r a in
    record {
      watched = record { synchronous = ap link is ∙ link-three; known = ap mn_known is ∙ known_after s (mn h c) ch n three still };
      last_mn = ap last_mn is ∙ last_after s (mn h c) ch n three still;
      its_rsn = ap rsn is ∙ (let e : rsn t ≡ (16 * rsn t + mn h c) / 16 = omega arith in e) ∙ sym (ap (λ (k : ℕ). k / 16) told);
    }

-- what falls from 3 to 2 has failed check 1
missed_it : (h : Sheet) (sheet s m c r : List ℕ) → Answered h sheet s m c r → Fails s (exchange_of sheet s m c r) → missed h s c ≡ true
missed_it h sheet s m c r a f =
    ⊎_elim (λ (q : missed h s c ≡ true). q)
    (λ (q : missed h s c ≡ false).
    absurd (⊎_elim
    (λ (two : link (exchange_of sheet s m c r).state ≡ 2).
    row_stays h s m c f.was (sym (kept_link h sheet s m c r a (row h s m c)) ∙ sym (link_is h sheet s m c r a _ (fate_kept h s m c q)) ∙ two))
    (λ (t : tolerated_in (exchange_of sheet s m c r).reply ≡ true). true≢false (sym t ∙ passed_shown h sheet s m c r a q))
    f.shows))
    (decided (missed h s c))

pub both_are_asked : BothAreAsked
both_are_asked = record {
  failure_of_either = λ h sheet s m c r a w. (
    λ f both.
        let holds = ap₂ ◌&&◌ (eq-eqb (mn h c) ((last_mn s + 1) % 16) both.0) (eq-eqb (sn h c) (rsn s) both.1) in
        true≢false (sym (missed_it h sheet s m c r a f) ∙ passes (eqb (link s) 3) (eqb (mn_known s) 1) holds),
    λ either. ⊎_elim (λ (q : missed h s c ≡ true). falls h sheet s m c r a q)
        (λ (q : missed h s c ≡ false). absurd (either (asked h s c w q))) (decided (missed h s c)),
  );
  not_known = λ h sheet s m c r a unknown f.
      true≢false (sym (missed_it h sheet s m c r a f) ∙ unasked (eqb (link s) 3) _ (ap (λ (n : ℕ). eqb n 1) unknown));
}

pub same_sn_fails : SameSnFails
same_sn_fails h sheet s m c₁ r₁ c₂ r₂ a₁ w stays a₂ e =
    let t = (exchange_of sheet s m c₁ r₁).state in
    ⊎_elim (λ (q : missed h s c₁ ≡ true). inl (falls h sheet s m c₁ r₁ a₁ q))
    (λ (q : missed h s c₁ ≡ false).
    let next = passed h sheet s m c₁ r₁ a₁ w.synchronous q stays in
    ⊎_elim (λ (p : missed h t c₂ ≡ true). inr (falls h sheet t (exchange_of sheet s m c₁ r₁).memory c₂ r₂ a₂ p))
    (λ (p : missed h t c₂ ≡ false).
    let k₁ = (asked h s c₁ w q).1 in
    let k₂ = (asked h t c₂ next.watched p).1 in
    let n = rsn_next h sheet s m c₁ r₁ a₁ w.synchronous next.watched.synchronous in
    let same : rsn s ≡ (rsn s + 1) % 16 = sym k₁ ∙ e ∙ k₂ ∙ n in
    absurd (omega (arith, same)))
    (decided (missed h t c₂)))
    (decided (missed h s c₁))

goes_on : (h : Sheet) (sheet s m last reply : List ℕ) (ds : List Exchanged) → Behind h s last reply → Master h sheet s m last reply ds → InStep sheet s m ds
goes_on h sheet s m last reply [] k all = tt
goes_on h sheet s m last reply (d ∷ ds) k (a, f, stays, rest) =
    let c = d.command in
    let follows = eq-eqb (mn h c) ((last_mn s + 1) % 16) (f.counts_on ∙ ap (λ (n : ℕ). (n + 1) % 16) (sym k.last_mn)) in
    let copies = eq-eqb (sn h c) (rsn s) (f.gives_back ∙ sym k.its_rsn) in
    let go = passes (eqb (link s) 3) (eqb (mn_known s) 1) (ap₂ ◌&&◌ follows copies) in
    let next = passed h sheet s m c d.lent a k.watched.synchronous go stays in
    let x = exchange_of sheet s m c d.lent in
    (next.watched.synchronous, passed_shown h sheet s m c d.lent a go, goes_on h sheet x.state x.memory c x.reply ds next rest)

pub master_never_fails : MasterNeverFails
master_never_fails h sheet s m c r a three go stays ds all =
    let first = passed h sheet s m c r a three go stays in
    (first.watched.synchronous, goes_on h sheet _ _ c _ ds first all)
