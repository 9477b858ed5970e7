-- What a command that is refused on the wire leaves.
use mathlib.Core.Bool.{true, false, not, ◌&&◌, true≢false}
use mathlib.Core.Logic.{⊎_elim}
use mathlib.Core.Path.{◌≡◌, refl, sym, ap, ap₂, ◌∙◌}
use mathlib.Core.List.{List, []}
use Prim.Native.Nat.{ℕ}
use borrow.Author.Tests.{eq-eqb}
use lib.ListN.{length, get_or}
use Rattle.octets.proofs.Cases.{decided}
use Rattle.law.specs.Words.{Piece}
use Rattle.law.specs.State.{failures}
use lib.Dec.{ltb}
use Rattle.law.specs.Sheet.{Sheet, allows}
use Rattle.law.specs.Memory.{cells, stored}
use Rattle.law.specs.Table.{table}
use Rattle.law.specs.Exchange.{Fate, code, mn, missed, refused, judged, fate_of, state_after, failing, passing}
use Rattle.law.proofs.Held.{length_cells}
use Rattle.law.proofs.Laid.{stored_none}
use Rattle.slave.specs.Answers.{told}
use Rattle.slave.specs.Exchange.{Left, left, exchange_of}
use Rattle.demands.specs.Accepted.{accepted}
use Rattle.demands.specs.Answered.{Answered, alarm_in}
use Rattle.demands.specs.OnTheWire.{RefusedByReply, RefusedOnTheWire}
use Rattle.demands.proofs.Done.{lawful, answered_done, seen_whole, seen_code, seen_alarm, seen_zero}
use Rattle.demands.proofs.Fates.{when_cases, fate_missed, fate_kept, row_refused}

module _ (h : Sheet) (sheet s m c r : List ℕ) (a : Answered h sheet s m c r) where
  abbrev x : Left
  x = exchange_of sheet s m c r

  is : x ≡ left (told 0 (fate_of h s m c).place) (lawful h s m c).state (lawful h s m c).memory (lawful h s m c).reply
  is = answered_done h sheet s m c r a

  alarm_is : alarm_in h x.reply ≡ (fate_of h s m c).alarm
  alarm_is = ap (λ (l : Left). alarm_in h l.reply) is ∙ seen_alarm h s m c a.good.l

  -- a fate without body and stored octets, and what it does to the state
  by_fate : (f : Fate) → fate_of h s m c ≡ f → f.body ≡ [] → f.stores ≡ []
      → (missed h s c ≡ true → (alarm_in h x.reply ≡ 0) × (x.state ≡ state_after s (mn h c) (failing h s).changes))
      → (missed h s c ≡ false → (alarm_in h x.reply ≡ 0 → ⊥) × (x.state ≡ state_after s (mn h c) (passing (refused s (alarm_in h x.reply) x.answer.place)).changes))
      → RefusedByReply h s m c x
  by_fate f e body memory watchdog alarm = record {
    reply_built = ap (λ (l : Left). l.answer.number) is;
    nothing_stored = ap (λ (l : Left). l.memory) is ∙ ap (λ (ps : List Piece). stored ps (cells h.regions) m) (ap (λ (g : Fate). g.stores) e ∙ memory)
        ∙ stored_none (cells h.regions) m (a.whole ∙ sym (length_cells h.regions));
    whole = ap (λ (l : Left). length l.reply) is ∙ seen_whole h s m c a.good.l;
    code_again = ap (λ (l : Left). get_or l.reply 0 0) is ∙ seen_code h s m c a.good.l;
    zero_body = λ k l. ap (λ (y : Left). get_or y.reply k 0) is ∙ seen_zero h s m c a.good.l (ap (λ (g : Fate). g.body) e ∙ body) k l;
    by_watchdog = watchdog;
    by_alarm = alarm;
  }

  state_is : (f : Fate) → fate_of h s m c ≡ f → x.state ≡ state_after s (mn h c) f.changes
  state_is f e = ap (λ (l : Left). l.state) is ∙ ap (λ (g : Fate). state_after s (mn h c) g.changes) e

  row_alarm : missed h s c ≡ false → accepted h s m c ≡ false → (judged s (code c) (table h s m c)).alarm ≡ 0 → ⊥
  row_alarm t f z =
      true≢false (sym (ap₂ ◌&&◌ (ap not t) (eq-eqb (judged s (code c) (table h s m c)).alarm 0 z)) ∙ f)

  refused_body : (n place : ℕ) → (refused s n place).body ≡ []
  unfolding refused
  refused_body n place = refl

  refused_memory : (n place : ℕ) → (refused s n place).stores ≡ []
  unfolding refused
  refused_memory n place = refl

  by_row : missed h s c ≡ false → accepted h s m c ≡ false → RefusedByReply h s m c x
  by_row t f =
      let row = judged s (code c) (table h s m c) in
      let k = fate_kept h s m c t in
      let q = row_refused h s m c (row_alarm t f) in
      let e : fate_of h s m c ≡ passing (refused s row.alarm row.place) = k ∙ ap passing q.1 in
      let seen : alarm_in h x.reply ≡ row.alarm = alarm_is ∙ ap (λ (g : Fate). g.alarm) k in
      let place : x.answer.place ≡ row.place = ap (λ (l : Left). l.answer.place) is ∙ ap (λ (g : Fate). g.place) k in
      by_fate (passing (refused s row.alarm row.place)) e (refused_body row.alarm row.place) (refused_memory row.alarm row.place)
      (λ u. cc)
      (λ u. (
        λ z. row_alarm t f (sym seen ∙ z),
        state_is (passing (refused s row.alarm row.place)) e ∙ ap₂ (λ (n p : ℕ). state_after s (mn h c) (passing (refused s n p)).changes) (sym seen) (sym place),
      ))

-- a failed check 1, tolerated or not, has no alarm, no body and nothing stored
pub quiet : (h : Sheet) (s : List ℕ) → ((failing h s).alarm ≡ 0) × ((failing h s).body ≡ []) × ((failing h s).stores ≡ [])
quiet h s = when_cases (λ f. (f.alarm ≡ 0) × (f.body ≡ []) × (f.stores ≡ [])) (ltb (failures s) (allows h)) (λ e. (refl, refl, refl)) (λ e. (refl, refl, refl))

pub refused_on_the_wire : RefusedOnTheWire
refused_on_the_wire h sheet s m c r a f =
    ⊎_elim
    (λ (t : missed h s c ≡ true).
    let e = fate_missed h s m c t in
    let q = quiet h s in
    by_fate h sheet s m c r a (failing h s) e q.1 q.2
    (λ u. (alarm_is h sheet s m c r a ∙ ap (λ (g : Fate). g.alarm) e ∙ q.0, state_is h sheet s m c r a (failing h s) e))
    (λ u. cc))
    (λ (t : missed h s c ≡ false). by_row h sheet s m c r a t f)
    (decided (missed h s c))
