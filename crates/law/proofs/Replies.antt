-- Status, RWDT and the whole reply.
use mathlib.Core.Bool.{Bool, true, false, ◌&&◌, ◌||◌}
use mathlib.Core.Logic.{⊎_elim}
use mathlib.Core.Path.{◌≡◌, refl, sym, ap, ap₂, ◌∙◌}
use mathlib.Core.List.{List, [], ◌∷◌, ◌++◌}
use Prim.Native.Nat.{ℕ, ◌+◌, ◌*◌, ◌%◌, ◌<◌}
use native.Mathlib.Omega.{arith}
use borrow.Author.Tests.{ltb-true, eqb-true, ne_eqb}
use lib.Dec.{eqb, ltb}
use lib.ListN.{length, get_or, replicate, length-replicate, get_or-replicate}
use lib.Seq.{ext_get_or}
use Rattle.std.proofs.lemmas.Bool.{and_parts}
use Rattle.octets.proofs.Cases.{eq_or_ne}
use Rattle.frame.specs.Body.{reply_of, Fitting}
use Rattle.frame.specs.Fields.{command_of}
use Rattle.frame.specs.Head.{rwdt_of, head_of}
use Rattle.frame.specs.Places.{Sized}
use Rattle.frame.proofs.Bodies.{laid_at}
use Rattle.frame.proofs.Named.{named, command_named, is_enhanced, is_short}
use Rattle.frame.proofs.Replies.{begun_at, begun_enhanced, begun_short, rwdt_told, low_told, head_told, rwdt_is, head_is, head_in, whole, reply_at_lem}
use Rattle.law.specs.Words.{when, laid, over}
use Rattle.law.specs.Sheet.{PduType, enhanced, short, Sheet, allows}
use Rattle.law.specs.Table.{Check, Row, table, table_of}
use Rattle.law.specs.Exchange.{Fate, code, mn, refused, checked, judged, fate_of, state_after, rwdt_for, low_status, head_for, reply_for, tolerated, lost}
use Rattle.link.specs.Stored.{octets_of}
use Rattle.link.specs.Valid.{is_communication_alarm}
use Rattle.link.specs.declared.state.LinkState.{LinkState}
use Rattle.link.proofs.Facts.{Facts}
use Rattle.machine.specs.declared.words.Command.{Command}
use Rattle.machine.specs.declared.words.Outcome.{Outcome}
use Rattle.sheet.specs.declared.walk.Form.{Form}
use Rattle.law.proofs.Codes.{wdt_same}
use Rattle.law.proofs.Laid.{over_length, over_at, picked, laid_one, laid_two, laid_append}
use Rattle.law.proofs.Layouts.{form_for}
use Rattle.law.proofs.Rows.{Same}

-- every alarm fits into a half octet
abbrev small_checks : List Check → Bool
small_checks [] = true
small_checks (k ∷ ks) = ltb k.alarm 16 && small_checks ks

abbrev small_rows : List Row → Bool
small_rows [] = true
small_rows (r ∷ rs) = small_checks r.checks && small_rows rs

when_both : (P : Fate → Type 0) (b : Bool) {x y : Fate} → P x → P y → P (when b x y)
unfolding when
when_both P true p q = p
when_both P false p q = q

abbrev Small : Fate → Type 0
Small f = f.alarm < 16

refused_small : (s : List ℕ) (a place : ℕ) → a < 16 → Small (refused s a place)
unfolding refused
refused_small s a place l = l

checked_small : (s : List ℕ) (ks : List Check) (r : Row) → small_checks ks ≡ true → Small (checked s ks r)
unfolding checked
checked_small s [] r e = omega arith
checked_small s (k ∷ ks) r e =
    let p = and_parts (ltb k.alarm 16) (small_checks ks) e in
    when_both Small k.holds (checked_small s ks r p.1) (refused_small s k.alarm k.place (ltb-true k.alarm 16 p.0))

judged_small : (s : List ℕ) (code : ℕ) (rs : List Row) → small_rows rs ≡ true → Small (judged s code rs)
unfolding judged
judged_small s code [] e = refused_small s 8 0 (omega arith)
judged_small s code (r ∷ rs) e =
    let p = and_parts (small_checks r.checks) (small_rows rs) e in
    when_both Small (eqb code r.code) (checked_small s _ r p.0) (judged_small s code rs p.1)

small_table : (h : Sheet) (s m c : List ℕ) (pdu : PduType) → small_rows (table_of h s m c pdu) ≡ true
small_table h s m c enhanced = refl
small_table h s m c short = refl

pub fate_small : (h : Sheet) (s m c : List ℕ) → Small (fate_of h s m c)
unfolding fate_of
fate_small h s m c =
    when_both Small _ (when_both Small _ {x = tolerated s} {y = lost} (let z : 0 < 16 = omega arith in z) (let z : 0 < 16 = omega arith in z))
    (judged_small s (code c) (table h s m c) (small_table h s m c h.pdu))

small_latch : (co : ℕ) → is_communication_alarm co ≡ true → co < 16
unfolding is_communication_alarm
small_latch co e =
    ⊎_elim (λ (z : co ≡ 0). let w : co < 16 = omega arith in w)
    (λ (z : co ≡ 0 → ⊥).
    let q : eqb co 12 ≡ true = sym (ap (λ (b : Bool). b || eqb co 12) (ne_eqb co 0 z)) ∙ e in
    let k = eqb-true co 12 q in let w : co < 16 = omega arith in w)
    (eq_or_ne co 0)

-- the head of a state: the frame's four octets, RWDT among them or last, are the law's pieces
module _ (h : Sheet) (c : List ℕ) (alarm : ℕ) (next : LinkState) where
  abbrev t : List ℕ
  t = octets_of next

  rwdt_same : rwdt_told (named (form_for h.pdu) (code c) c).wdt next ≡ rwdt_for h c t
  unfolding octets_of
  rwdt_same =
      ap (λ (w : ℕ). rwdt_told w next) (wdt_same h.pdu (code c) c) ∙ picked (eqb next.link 3) (16 * next.watch.rsn + mn h c) 0

  low_same : (x : ℕ) → low_told x next ≡ low_status t + 64 * (x % 4)
  unfolding octets_of
  low_same x =
      let quiet = eqb next.latches.command 0 && eqb next.latches.communication 0 in
      let none = eqb next.watch.failures 0 in
      ap₂ (λ (a b : ℕ). 4 + a + b + 64 * (x % 4)) (picked quiet 0 1) (picked none 0 2)

  -- what stands before the body
  begins : (pdu : PduType) → rwdt_told (named (form_for pdu) (code c) c).wdt next ≡ rwdt_for h c t → (k : ℕ)
      → begun_at (form_for pdu) (head_told (form_for pdu) (code c) (named (form_for pdu) (code c) c).wdt (named (form_for pdu) (code c) c).identity alarm next)
      (rwdt_told (named (form_for pdu) (code c) c).wdt next) k
      ≡ laid (head_for pdu h c alarm t) k 0
  unfolding octets_of
  begins enhanced e k =
      begun_enhanced _ _ k
      ∙ ap₂ (λ (r low : ℕ). laid_at 0 (code c ∷ r ∷ low ∷ (alarm + 16 * next.latches.communication) ∷ []) k 0) e
      (low_same _ ∙ ap (λ (x : ℕ). low_status t + 64 * (x % 4)) (is_enhanced _))
      ∙ laid_one _ k 0
  begins short e k =
      let low : low_told (named (form_for short) (code c) c).identity next ≡ low_status t =
      low_same _ ∙ ap (λ (x : ℕ). low_status t + 64 * (x % 4)) (is_short _) ∙ (let z : low_status t + 64 * (0 % 4) ≡ low_status t = omega arith in z) in
      let high : 0 + 16 * next.latches.communication ≡ 16 * next.latches.communication = omega arith in
      begun_short _ _ k
      ∙ (λ i. laid_at 15 (e i ∷ []) k (laid_at 0 (code c ∷ alarm ∷ low i ∷ high i ∷ []) k 0))
      ∙ laid_two _ _ k 0

-- the reply, octet by octet: the row's pieces over the head's
module _ (h : Sheet) (sheet : List ℕ) (st : LinkState) (m c : List ℕ) (o : Outcome) (f : Fate) (same : Same h.pdu h sheet st m c o f) (small : f.alarm < 16)
    (v : Facts h.l (allows h) o.next) (asked : length c ≡ h.l) (sized : Sized (form_for h.pdu) (length c))
    (fits : Fitting (form_for h.pdu) o.effect (length c) (length m) (length sheet)) where
  abbrev form : Form
  form = form_for h.pdu

  abbrev after : List ℕ
  after = state_after (octets_of st) (mn h c) f.changes

  abbrev reply : List ℕ
  reply = reply_of form sheet m c o

  begun_same : (k : ℕ) → begun_at form (head_in form sheet m c o sized fits) (rwdt_of (command_of form c).wdt o.next) k ≡ laid (head_for h.pdu h c f.alarm after) k 0
  begun_same k =
      let x = named form (code c) c in
      let rsn = v.rsn in
      let alarm = same.alarm in
      let latch = small_latch o.next.latches.communication v.communication in
      ap (λ (x : Command). begun_at form (head_of form x.code x.wdt x.identity o.alarm o.next) (rwdt_of x.wdt o.next) k) (command_named form c)
      ∙ ap₂ (λ (l : List ℕ) (r : ℕ). begun_at form l r k)
      (head_is (code c) x.wdt x.identity o.alarm o.next (omega arith) (omega arith) latch form)
      (rwdt_is (code c) x.wdt x.identity o.alarm o.next (omega arith))
      ∙ begins h c o.alarm o.next h.pdu (rwdt_same h c o.alarm o.next) k
      ∙ ap₂ (λ (a : ℕ) (l : List ℕ). laid (head_for h.pdu h c a l) k 0) same.alarm same.next

  pub reply_same : reply ≡ reply_for h c f.alarm after f.body
  unfolding reply_for
  reply_same =
      let head = head_for h.pdu h c f.alarm after in
      let ps = head ++ f.body in
      let zeros = length-replicate {A = ℕ} h.l 0 in
      let full = whole form sheet m c o sized fits in
      let Lies-over = over_length 0 ps (replicate h.l 0) in
      ext_get_or 0 reply (over ps (replicate h.l 0)) (full ∙ asked ∙ sym zeros ∙ sym Lies-over) (λ k u.
      reply_at_lem form sheet m c o sized fits k ∙ same.body k _ ∙ ap (laid f.body k) (begun_same k) ∙ sym (laid_append head f.body k 0)
      ∙ ap (λ (x : ℕ). laid ps k x) (sym (get_or-replicate h.l k 0 0 (omega arith)))
      ∙ sym (over_at 0 ps (replicate h.l 0) k (omega arith) ∙ ap (λ (n : ℕ). laid ps n (get_or (replicate h.l 0) k 0)) (let e : 0 + k ≡ k = omega arith in e)))
