-- What becomes of a command: the machine's outcome and the table's.
use mathlib.Core.Bool.{Bool, true, false, not, ◌&&◌, ◌||◌}
use mathlib.Core.Path.{◌≡◌, refl, sym, subst, subst₂, ◌∙◌}
use mathlib.Core.List.{List}
use Prim.Native.Nat.{ℕ, zero, suc, ◌+◌, ◌/◌, ◌%◌, ◌≤◌, ◌<◌}
use native.Mathlib.Omega.{arith}
use borrow.Author.Tests.{ltb-true}
use lib.Dec.{eqb, ltb}
use lib.ListN.{length}
use Rattle.std.proofs.lemmas.Bool.{and_parts}
use Rattle.octets.specs.Pick.{pick}
use Rattle.frame.specs.Unnamed.{stray_as}
use Rattle.frame.proofs.Bodies.{quiet_at}
use Rattle.frame.proofs.Kept.{quiet_keeps}
use Rattle.frame.proofs.Named.{named, command_named, whole_at}
use Rattle.frame.proofs.Strays.{stray_of_lem}
use Rattle.law.specs.Words.{when, laid}
use Rattle.law.specs.Sheet.{PduType, enhanced, short, Sheet, GoodLength, allows as most}
use Rattle.law.specs.State.{link, failures}
use Rattle.law.specs.Table.{table_of}
use Rattle.law.specs.Exchange.{Fate, code, wdt, judged, lost as lost_cycle, tolerated as tolerated_cycle, passing, fate_of}
use Rattle.link.specs.Steps.{follows_of, lost, tolerated}
use Rattle.link.specs.Stored.{octets_of}
use Rattle.link.specs.declared.state.LinkState.{LinkState}
use Rattle.link.proofs.Facts.{Facts}
use Rattle.machine.specs.Judgements.{Judgement}
use Rattle.machine.specs.Judging.{judge_of}
use Rattle.machine.specs.Outcomes.{comes_to, finished, missed_of, outcome_of}
use Rattle.machine.specs.declared.words.Command.{Command}
use Rattle.machine.specs.declared.words.Effect.TheVariants.{Quiet}
use Rattle.machine.specs.declared.words.Field.TheVariants.{Whole}
use Rattle.machine.specs.declared.words.Outcome.{Outcome}
use Rattle.sheet.specs.declared.walk.Form.{Form}
use Rattle.slave.specs.Exchange.{outcome_for}
use Rattle.law.proofs.Codes.{wdt_same, Is}
use Rattle.law.proofs.EnhancedRows.{judge_enhanced}
use Rattle.law.proofs.Goes.{goes_lost, goes_tolerated}
use Rattle.law.proofs.Layouts.{form_for, release_for, layout_as, layout_for}
use Rattle.law.proofs.Rows.{Same, J, unmoved}
use Rattle.law.proofs.ShortRows.{judge_short}
use Rattle.law.proofs.World.{World}

-- the table of either type
judge_same : (pdu : PduType) (h : Sheet) (sheet : List ℕ) (st : LinkState) (m c : List ℕ) (facts : Facts h.l (most h) st) (on : st.link ≡ 0 → ⊥)
    (world : World h sheet m) (good : GoodLength pdu h.l) (asked : length c ≡ h.l) (n : ℕ)
    → Is pdu h sheet st m c facts on world good asked (judge_of sheet (layout_as pdu h) st (named (form_for pdu) n c) (stray_as (form_for pdu) (release_for h) n c)) (judged (octets_of st) n (table_of h (octets_of st) m c pdu))
judge_same enhanced = judge_enhanced
judge_same short = judge_short

-- "Link 3 with MN known": MN known is 0 or 1
follows : (known : ℕ) → known ≤ 1 → (b : Bool) → not (eqb known 0 || b) ≡ eqb known 1 && not b
follows zero l b = refl
follows (suc zero) l b = refl
follows (suc (suc n)) l b = absurd (omega arith)

module _ (h : Sheet) (sheet : List ℕ) (st : LinkState) (m c : List ℕ) (facts : Facts h.l (most h) st) (on : st.link ≡ 0 → ⊥) (world : World h sheet m)
    (good : GoodLength h.pdu h.l) (asked : length c ≡ h.l) where
  abbrev s : List ℕ
  s = octets_of st

  abbrev form : Form
  form = form_for h.pdu

  abbrev mn : ℕ
  mn = wdt h.pdu c % 16

  abbrev sn : ℕ
  sn = wdt h.pdu c / 16

  abbrev Alike : Outcome → Fate → Type 0
  Alike = Same h.pdu h sheet st m c

  -- check 1, where it fails
  missed_same : (b : Bool) → (b ≡ true → st.watch.failures < 255) → eqb (link s) 3 ≡ true
      → Alike (comes_to 0 Whole Quiet (pick b (tolerated st mn) (lost st))) (when b (tolerated_cycle s) lost_cycle)
  unfolding pick when laid
  missed_same true few three =
      record { alarm = refl; place = whole_at.told; next = goes_tolerated mn st facts on three (few refl); body = λ k old. quiet_at sheet m c k old form; memory = quiet_keeps form c m ∙ unmoved h.pdu h sheet st m c facts on world good asked (wdt_same h.pdu (code c) c) }
  missed_same false few three =
      record { alarm = refl; place = whole_at.told; next = goes_lost mn st facts on three; body = λ k old. quiet_at sheet m c k old form; memory = quiet_keeps form c m ∙ unmoved h.pdu h sheet st m c facts on world good asked (wdt_same h.pdu (code c) c) }

  -- and the whole of it
  lost_or : (b : Bool) {y : Judgement} {f : Fate} → (b ≡ true → eqb (link s) 3 ≡ true)
      → J h.pdu h sheet st m c facts on world good asked (wdt_same h.pdu (code c) c) y f
      → Alike (pick b (comes_to 0 Whole Quiet (missed_of (most h) st mn)) (finished st (named form (code c) c) y))
      (when b (when (ltb (failures s) (most h)) (tolerated_cycle s) lost_cycle) (passing f))
  unfolding pick when missed_of octets_of
  lost_or true g k =
      missed_same (ltb st.watch.failures (most h))
      (λ e. let l = ltb-true st.watch.failures (most h) e in omega (arith, world.few)) (g refl)
  lost_or false g k = k.same

  -- by the law's WDT
  told_same : let n = named form (code c) c in
      let u = stray_as form (release_for h) (code c) c in
      Alike (pick (eqb st.link 3 && not (follows_of st.watch (wdt h.pdu c))) (comes_to 0 Whole Quiet (missed_of (most h) st mn))
      (finished st n (judge_of sheet (layout_for h) st n u))) (fate_of h s m c)
  unfolding fate_of follows_of octets_of
  told_same =
      let n = named form (code c) c in
      let u = stray_as form (release_for h) (code c) c in
      subst (λ (b : Bool). Alike (pick (eqb st.link 3 && b) (comes_to 0 Whole Quiet (missed_of (most h) st mn)) (finished st n (judge_of sheet (layout_for h) st n u))) (fate_of h s m c))
      (sym (follows st.watch.known facts.known (eqb mn ((st.watch.last + 1) % 16) && eqb sn st.watch.rsn)))
      (lost_or _ (λ e. (and_parts _ _ e).0) (judge_same h.pdu h sheet st m c facts on world good asked (code c)))

  named_same : Alike (outcome_of sheet (layout_for h) st (named form (code c) c) (stray_as form (release_for h) (code c) c)) (fate_of h s m c)
  unfolding outcome_of
  named_same =
      let n = named form (code c) c in
      let u = stray_as form (release_for h) (code c) c in
      subst (λ (w : ℕ). Alike (pick (eqb st.link 3 && not (follows_of st.watch w)) (comes_to 0 Whole Quiet (missed_of (most h) st (w % 16)))
      (finished st n (judge_of sheet (layout_for h) st n u))) (fate_of h s m c)) (sym (wdt_same h.pdu (code c) c)) told_same

  pub outcome_same : Alike (outcome_for sheet (layout_for h) st c) (fate_of h s m c)
  outcome_same =
      subst₂ (λ (x : Command) (u : ℕ). Alike (outcome_of sheet (layout_for h) st x u) (fate_of h s m c)) (sym (command_named form c)) (sym (stray_of_lem form (release_for h) c)) named_same
