-- The count of failures behind an exchange.
--     count_after        what an exchange leaves of it: what its changes make of it, and 0 on leaving link 3
--     passed_count       0 behind an exchange that passes check 1
--     tolerated_count    one more behind a failure that is tolerated, which keeps the link
--     lost_count         0 behind one that is not
--     told_by_count      status bit 1 tells which
use mathlib.Core.Bool.{Bool, true, false, not, and-eq-true_iff}
use mathlib.Core.Path.{◌≡◌, refl, sym, ap, ◌∙◌}
use mathlib.Core.List.{List, [], ◌∷◌}
use Prim.Native.Nat.{ℕ, ◌+◌, ◌%◌}
use native.Mathlib.Omega.{arith}
use borrow.Author.Tests.{eqb-true, eq-eqb, ne_eqb}
use lib.Dec.{eqb, ltb}
use lib.ListN.{length, get_or}
use Rattle.law.specs.Words.{when, Piece, piece, laid, over}
use Rattle.law.specs.Sheet.{Sheet, allows}
use Rattle.law.specs.State.{link, rsn, failures}
use Rattle.law.specs.Table.{table}
use Rattle.law.specs.Exchange.{Fate, code, mn, missed, judged, lost, tolerated, passing, fate_of, watched, state_after}
use Rattle.law.proofs.Clauses.{valid_true}
use Rattle.law.proofs.Laid.{when_yes, when_no, over_at, over_length}
use Rattle.slave.specs.Exchange.{Left, exchange_of}
use Rattle.demands.specs.Answered.{Answered, tolerated_in}
use Rattle.demands.proofs.Done.{answered_done, seen_tolerated}
use Rattle.demands.proofs.Fates.{fate_missed, fate_kept, row_counts}

-- of the watchdog's fields the count is set on leaving link 3 alone
watched_count : (b d : Bool) (x y k : ℕ)
    → laid (when b (when d (piece 5 (1 ∷ x ∷ y ∷ []) ∷ []) (piece 3 (0 ∷ []) ∷ piece 5 (0 ∷ 0 ∷ 0 ∷ []) ∷ piece 10 (0 ∷ []) ∷ [])) (when d (piece 5 (0 ∷ 0 ∷ 0 ∷ []) ∷ []) [])) 10 k
    ≡ when b (when d k 0) k
unfolding when laid
watched_count true true x y k = refl
watched_count true false x y k = refl
watched_count false true x y k = refl
watched_count false false x y k = refl

both_zero : (b d : Bool) {k : ℕ} → k ≡ 0 → when b (when d k 0) k ≡ 0
unfolding when
both_zero true true e = e
both_zero true false e = refl
both_zero false d e = e

module _ (s : List ℕ) (sent : ℕ) (changes : List Piece) (eleven : length s ≡ 11) where
  pub count_after : failures (state_after s sent changes) ≡ when (eqb (link s) 3) (when (eqb (link (over changes s)) 3) (laid changes 10 (failures s)) 0) (laid changes 10 (failures s))
  unfolding state_after watched
  count_after =
      let o = over changes s in
      let n = over_length 0 changes s in
      over_at 0 (watched (link s) (link o) s sent) o 10 (omega arith)
      ∙ watched_count (eqb (link s) 3) (eqb (link o) 3) sent ((rsn s + 1) % 16) (get_or o 10 0)
      ∙ ap (λ (k : ℕ). when (eqb (link s) 3) (when (eqb (link o) 3) k 0) k) (over_at 0 changes s 10 (omega arith))

-- an answered exchange
module _ (h : Sheet) (sheet s m c r : List ℕ) (a : Answered h sheet s m c r) where
  abbrev x : Left
  x = exchange_of sheet s m c r

  eleven : length s ≡ 11
  eleven = (valid_true h s a.valid).0

  pub state_is : (f : Fate) → fate_of h s m c ≡ f → x.state ≡ state_after s (mn h c) f.changes
  state_is f e = ap (λ (l : Left). l.state) (answered_done h sheet s m c r a) ∙ ap (λ (g : Fate). state_after s (mn h c) g.changes) e

  pub told_by_count : tolerated_in x.reply ≡ not (eqb (failures x.state) 0)
  told_by_count =
      ap (λ (l : Left). tolerated_in l.reply) (answered_done h sheet s m c r a) ∙ seen_tolerated h s m c a.good.l
      ∙ sym (ap (λ (l : Left). not (eqb (failures l.state) 0)) (answered_done h sheet s m c r a))

  pub passed_count : missed h s c ≡ false → failures x.state ≡ 0
  unfolding laid when
  passed_count go =
      let f = passing (judged s (code c) (table h s m c)) in
      ap failures (state_is f (fate_kept h s m c go)) ∙ count_after s (mn h c) f.changes eleven
      ∙ both_zero (eqb (link s) 3) (eqb (link (over f.changes s)) 3) (row_counts h s m c 0)

  pub passed_shown : missed h s c ≡ false → tolerated_in x.reply ≡ false
  passed_shown go = told_by_count ∙ ap (λ (n : ℕ). not (eqb n 0)) (passed_count go)

  -- check 1 fails in link 3 alone
  pub in_three : missed h s c ≡ true → link s ≡ 3
  in_three e = eqb-true (link s) 3 ((and-eq-true_iff (eqb (link s) 3) _).0 e).0

  pub failing_yes : missed h s c ≡ true → ltb (failures s) (allows h) ≡ true → fate_of h s m c ≡ tolerated s
  failing_yes e l = fate_missed h s m c e ∙ when_yes _ _ l

  pub failing_no : missed h s c ≡ true → ltb (failures s) (allows h) ≡ false → fate_of h s m c ≡ lost
  failing_no e l = fate_missed h s m c e ∙ when_no _ _ l

  -- a tolerated failure changes the count alone, before the watchdog's fields
  pub same_link : link (over (tolerated s).changes s) ≡ link s
  unfolding laid when
  same_link = let n = eleven in over_at 0 (tolerated s).changes s 1 (omega arith)

  pub tolerated_count : missed h s c ≡ true → ltb (failures s) (allows h) ≡ true → failures x.state ≡ failures s + 1
  unfolding laid when
  tolerated_count e l =
      let three = in_three e in
      ap failures (state_is (tolerated s) (failing_yes e l)) ∙ count_after s (mn h c) (tolerated s).changes eleven
      ∙ when_yes _ _ (eq-eqb (link s) 3 three) ∙ when_yes _ _ (eq-eqb _ 3 (same_link ∙ three))

  pub tolerated_shown : missed h s c ≡ true → ltb (failures s) (allows h) ≡ true → tolerated_in x.reply ≡ true
  tolerated_shown e l =
      told_by_count ∙ ap not (ap (λ (n : ℕ). eqb n 0) (tolerated_count e l) ∙ ne_eqb (failures s + 1) 0 (λ z. omega arith))

  -- leaving link 3 sets it to 0
  lost_away : link (over lost.changes s) ≡ 2
  unfolding laid when
  lost_away = let n = eleven in over_at 0 lost.changes s 1 (omega arith)

  pub lost_count : missed h s c ≡ true → ltb (failures s) (allows h) ≡ false → failures x.state ≡ 0
  lost_count e l =
      ap failures (state_is lost (failing_no e l)) ∙ count_after s (mn h c) lost.changes eleven
      ∙ when_yes _ _ (eq-eqb (link s) 3 (in_three e)) ∙ when_no _ _ (ap (λ (k : ℕ). eqb k 3) lost_away)
