-- Acceptance is exact: what the law accepts is what a host sees executed.
use mathlib.Core.Bool.{Bool, true, false, not, and-eq-true_iff, ◌&&◌, true≢false}
use mathlib.Core.Logic.{⊎_elim}
use mathlib.Core.Path.{◌≡◌, refl, sym, ap, ap₂, subst, ◌∙◌}
use mathlib.Core.List.{List}
use Prim.Native.Nat.{ℕ, zero, suc, ◌+◌, ◌≤◌, ◌<◌}
use native.Mathlib.Omega.{arith}
use borrow.Author.Tests.{eqb-true, eq-eqb, not-true}
use lib.Dec.{eqb, ltb}
use lib.ListN.{length}
use Rattle.octets.proofs.Cases.{decided, lt_or_le}
use Rattle.law.specs.Words.{when, laid}
use Rattle.law.specs.Sheet.{Sheet, allows}
use Rattle.law.specs.State.{link, failures}
use Rattle.law.specs.Memory.{Cell, has, has_all}
use Rattle.law.specs.Table.{table}
use Rattle.law.specs.Exchange.{Fate, code, missed, judged, lost, fate_of, passing}
use Rattle.law.proofs.Clauses.{valid_true}
use Rattle.slave.specs.Exchange.{Left, exchange_of}
use Rattle.demands.specs.Accepted.{accepted, Executed, AcceptanceIsExact, RightsOverWholeSpan}
use Rattle.demands.specs.Answered.{Answered, alarm_in}
use Rattle.demands.proofs.Done.{answered_done, seen_alarm, seen_link}
use Rattle.demands.proofs.Counts.{passed_shown, tolerated_shown, failing_no}
use Rattle.demands.proofs.Fates.{fate_kept, row_stays}

module _ (h : Sheet) (sheet s m c r : List ℕ) (a : Answered h sheet s m c r) where
  abbrev x : Left
  x = exchange_of sheet s m c r

  abbrev row : Fate
  row = judged s (code c) (table h s m c)

  ten : 2 ≤ length s
  ten = let e = (valid_true h s a.valid).0 in omega arith

  -- the alarm and the link that a host sees
  alarm_is : (f : Fate) → fate_of h s m c ≡ f → alarm_in h x.reply ≡ f.alarm
  alarm_is f e = ap (λ (l : Left). alarm_in h l.reply) (answered_done h sheet s m c r a) ∙ seen_alarm h s m c a.good.l ∙ ap (λ (g : Fate). g.alarm) e

  pub link_is : (f : Fate) → fate_of h s m c ≡ f → link x.state ≡ laid f.changes 1 (link s)
  link_is f e =
      ap (λ (l : Left). link l.state) (answered_done h sheet s m c r a) ∙ seen_link h s m c a.good.l ten ∙ ap (λ (g : Fate). laid g.changes 1 (link s)) e

  -- the count stands behind the link
  pub kept_link : (f : Fate) → laid (passing f).changes 1 (link s) ≡ laid f.changes 1 (link s)
  unfolding laid when
  kept_link f = refl

  to : accepted h s m c ≡ true → Executed h s x
  to e =
      let p = (and-eq-true_iff (not (missed h s c)) (eqb row.alarm 0)).0 e in
      let k = fate_kept h s m c (not-true (missed h s c) p.0) in
      record {
        no_alarm = alarm_is (passing row) k ∙ eqb-true row.alarm 0 p.1;
        not_lost = λ three two. row_stays h s m c three (sym (kept_link row) ∙ sym (link_is (passing row) k) ∙ two);
        not_tolerated = passed_shown h sheet s m c r a (not-true (missed h s c) p.0);
      }

  pub lost_link : (n : ℕ) → laid lost.changes 1 n ≡ 2
  unfolding laid when
  lost_link n = refl

  from : Executed h s x → accepted h s m c ≡ true
  from e =
      ⊎_elim
      (λ (t : missed h s c ≡ true).
      let three = eqb-true (link s) 3 ((and-eq-true_iff (eqb (link s) 3) _).0 t).0 in
      ⊎_elim
      (λ (l : ltb (failures s) (allows h) ≡ true). absurd (true≢false (sym (tolerated_shown h sheet s m c r a t l) ∙ e.not_tolerated)))
      (λ (l : ltb (failures s) (allows h) ≡ false). absurd (e.not_lost three (link_is lost (failing_no h sheet s m c r a t l) ∙ lost_link (link s))))
      (decided (ltb (failures s) (allows h))))
      (λ (t : missed h s c ≡ false).
      ap₂ ◌&&◌ (ap not t) (eq-eqb row.alarm 0 (sym (alarm_is (passing row) (fate_kept h s m c t)) ∙ e.no_alarm)))
      (decided (missed h s c))

pub acceptance_is_exact : AcceptanceIsExact
acceptance_is_exact h sheet s m c r a = (to h sheet s m c r a, from h sheet s m c r a)

every : (asked : ℕ → Bool) (cs : List Cell) (a n : ℕ) → has_all asked cs a n ≡ true → (x : ℕ) → a ≤ x → x < a + n → has asked cs x ≡ true
unfolding has_all
every asked cs a zero e x l u = absurd (omega arith)
every asked cs a (suc n) e x l u =
    let p = (and-eq-true_iff (has asked cs a) (has_all asked cs (suc a) n)).0 e in
    ⊎_elim
    (λ (k : a < x). every asked cs (suc a) n p.1 x (omega arith) (omega arith))
    (λ (k : x ≤ a). subst (λ (i : ℕ). has asked cs i ≡ true) (let q : a ≡ x = omega arith in q) p.0)
    (lt_or_le a x)

all_of : (asked : ℕ → Bool) (cs : List Cell) (a n : ℕ) → ((x : ℕ) → a ≤ x → x < a + n → has asked cs x ≡ true) → has_all asked cs a n ≡ true
unfolding has_all
all_of asked cs a zero all = refl
all_of asked cs a (suc n) all =
    ap₂ ◌&&◌ (all a (omega arith) (omega arith)) (all_of asked cs (suc a) n (λ x l u. all x (omega arith) (omega arith)))

pub rights_over_whole_span : RightsOverWholeSpan
rights_over_whole_span asked cs a n = (every asked cs a n, all_of asked cs a n)
