-- Reset, enable and exchange on the writing of a well-formed sheet.
use mathlib.Core.Bool.{Bool, true, false, not}
use mathlib.Core.Logic.{◌⊎◌, inl, inr, ⊎_elim}
use mathlib.Core.Path.{◌≡◌, refl, sym, ap, subst, subst₂, ◌∙◌}
use mathlib.Core.List.{List, [], ◌∷◌}
use Prim.Native.Nat.{ℕ}
use native.Mathlib.Omega.{arith}
use borrow.Author.Tests.{eq-eqb, ne_eqb}
use lib.Dec.{eqb}
use lib.ListN.{length}
use Rattle.octets.specs.Pick.{pick}
use Rattle.octets.proofs.Cases.{decided, eq_or_ne}
use Rattle.octets.proofs.Pick.{pick_differ, pick_same, pick_eq, pick_ne}
use Rattle.frame.specs.Body.{Fitting}
use Rattle.frame.specs.Fields.{command_of}
use Rattle.frame.specs.Unnamed.{stray_of}
use Rattle.frame.specs.Places.{Sized}
use Rattle.law.proofs.Layouts.{form_for, release_for, layout_for}
use Rattle.law.specs.Words.{when, piece, laid, over_from, over}
use Rattle.law.specs.Sheet.{Sheet, WellFormed, sheet_octets, room, allows}
use Rattle.law.specs.State.{link, valid_state, valid_old}
use Rattle.law.specs.Exchange.{fate_of}
use Rattle.law.specs.Calls.{Result, result, done, exchange, reset, enable, turn}
use Rattle.law.proofs.Complete.{complete}
use Rattle.link.specs.Steps.{fresh, enabled}
use Rattle.link.specs.Stored.{octets_of, fields_of, state_of}
use Rattle.link.specs.declared.state.LinkState.{LinkState}
use Rattle.link.specs.Old.{old_state_of}
use Rattle.link.proofs.Facts.{Facts}
use Rattle.sheet.proofs.Valid.{valid_sheet}
use Rattle.sheet.specs.Told.{Verdict}
use Rattle.sheet.specs.declared.walk.Layout.{Layout}
use Rattle.slave.specs.Answers.{told, on_sheet, on_state}
use Rattle.slave.specs.Calls.{After, after, reset_of, enable_of, turn_of}
use Rattle.slave.specs.Exchange.{Left, left, outcome_for, refusal_of, exchanged, exchange_of}
use Rattle.slave.proofs.Fits.{outcome_fits}
use Rattle.law.proofs.Laid.{when_yes, when_no}
use Rattle.machine.proofs.Nexts.{outcome_valid}
use Rattle.law.proofs.Clauses.{state_yes, state_no, old_true, old_yes, old_no, turned}
use Rattle.law.proofs.Replies.{reply_same, fate_small}
use Rattle.law.proofs.Rows.{pdu_sized}
use Rattle.law.proofs.Worlds.{world_of}
use Rattle.law.proofs.Fates.{outcome_same}

-- what the machine's calls leave
abbrev pub leaves : Left → Result
leaves l = result l.answer.number l.answer.place l.state l.memory l.reply

abbrev pub leaves_state : After → Result
leaves_state a = result a.answer.number a.answer.place a.state [] []

-- an exchange that nothing refuses
pub done_same : (h : Sheet) → WellFormed h → (st : LinkState) → Facts h.l (allows h) st → (m c : List ℕ) → length m ≡ room h.regions → length c ≡ h.l → (st.link ≡ 0 → ⊥)
    → leaves (exchanged (sheet_octets h) (layout_for h) st m c) ≡ done h (octets_of st) m c (fate_of h (octets_of st) m c)
unfolding exchanged
done_same h w st f m c whole asked on =
    let world = world_of h w m whole in
    let o = outcome_for (sheet_octets h) (layout_for h) st c in
    let u = stray_of (form_for h.pdu) (release_for h) c in
    let same = outcome_same h (sheet_octets h) st m c f on world w.l asked in
    let v = outcome_valid (sheet_octets h) (layout_for h) st (command_of (form_for h.pdu) c) u h.l f (omega arith) (omega (arith, world.few)) in
    let fits = subst₂ (λ (x y : ℕ). Fitting (form_for h.pdu) o.effect x y (length (sheet_octets h))) (sym asked) (sym whole)
    (outcome_fits (sheet_octets h) (layout_for h) (valid_sheet (sheet_octets h) (layout_for h) (complete h w)) st (command_of (form_for h.pdu) c) u) in
    let r = reply_same h (sheet_octets h) st m c o (fate_of h (octets_of st) m c) same (fate_small h (octets_of st) m c) v asked (subst (Sized (form_for h.pdu)) (sym asked) (pdu_sized h.pdu h.l world.long w.l)) fits in
    λ i. result 0 (same.place i) (same.next i) (same.memory i) (r i)

picked : (b : Bool) (x y : After) {u v : Result} → leaves_state x ≡ u → leaves_state y ≡ v → leaves_state (pick b x y) ≡ when b u v
unfolding pick when
picked true x y p q = p
picked false x y p q = q

enabled_goes : (st : LinkState) → octets_of (enabled st) ≡ over (piece 1 (1 ∷ []) ∷ []) (octets_of st)
unfolding octets_of over_from laid when
enabled_goes st = refl

enabled_over : (s : List ℕ) (st : LinkState) → s ≡ octets_of st → octets_of (enabled st) ≡ over (piece 1 (1 ∷ []) ∷ []) s
enabled_over s st e = enabled_goes st ∙ ap (over (piece 1 (1 ∷ []) ∷ [])) (sym e)

module _ (h : Sheet) (w : WellFormed h) where
  abbrev lay : Layout
  lay = layout_for h

  refusal : (st : LinkState) (m c r : ℕ) → (n : ℕ) → refusal_of lay st m c r ≡ n → (n ≡ 0 → ⊥) → (A : Left) (state memory reply : List ℕ)
      → leaves (pick (not (eqb (refusal_of lay st m c r) 0)) (left (told (refusal_of lay st m c r) 0) state memory reply) A) ≡ result n 0 state memory reply
  refusal st m c r n e z A state memory reply =
      ap leaves (pick_differ _ _ (λ q. z (sym e ∙ q))) ∙ ap (λ (k : ℕ). result k 0 state memory reply) e

  on_valid : (s m c r : List ℕ) (st : LinkState) → s ≡ octets_of st → Facts h.l (allows h) st
      → leaves (pick (not (eqb (refusal_of lay st (length m) (length c) (length r)) 0))
      (left (told (refusal_of lay st (length m) (length c) (length r)) 0) s m r) (exchanged (sheet_octets h) lay st m c))
      ≡ when (not (eqb (length m) (room h.regions))) (result 2 0 s m r)
      (when (not (eqb (length c) h.l)) (result 3 0 s m r)
      (when (not (eqb (length r) h.l)) (result 4 0 s m r)
      (when (eqb st.link 0) (result 5 0 s m r)
      (done h s m c (fate_of h s m c)))))
  unfolding refusal_of
  on_valid s m c r st e f =
      let X = exchanged (sheet_octets h) lay st m c in
      let go = refusal st (length m) (length c) (length r) in
      ⊎_elim (λ (a : length m ≡ room h.regions → ⊥).
      go 2 (pick_differ _ _ a) (λ z. omega arith) X s m r ∙ sym (when_yes _ _ (ap not (ne_eqb _ _ a))))
      (λ (a : length m ≡ room h.regions).
      ⊎_elim (λ (b : length c ≡ h.l → ⊥).
      go 3 (pick_same _ _ a ∙ pick_differ _ _ b) (λ z. omega arith) X s m r
      ∙ sym (when_no _ _ (ap not (eq-eqb _ _ a)) ∙ when_yes _ _ (ap not (ne_eqb _ _ b))))
      (λ (b : length c ≡ h.l).
      ⊎_elim (λ (d : length r ≡ h.l → ⊥).
      go 4 (pick_same _ _ a ∙ pick_same _ _ b ∙ pick_differ _ _ d) (λ z. omega arith) X s m r
      ∙ sym (when_no _ _ (ap not (eq-eqb _ _ a)) ∙ when_no _ _ (ap not (eq-eqb _ _ b)) ∙ when_yes _ _ (ap not (ne_eqb _ _ d))))
      (λ (d : length r ≡ h.l).
      ⊎_elim (λ (z : st.link ≡ 0).
      go 5 (pick_same _ _ a ∙ pick_same _ _ b ∙ pick_same _ _ d ∙ pick_eq _ _ z) (λ z. omega arith) X s m r
      ∙ sym (when_no _ _ (ap not (eq-eqb _ _ a)) ∙ when_no _ _ (ap not (eq-eqb _ _ b)) ∙ when_no _ _ (ap not (eq-eqb _ _ d)) ∙ when_yes _ _ (eq-eqb _ _ z)))
      (λ (z : st.link ≡ 0 → ⊥).
      ap leaves (pick_same _ _ (pick_same _ _ a ∙ pick_same _ _ b ∙ pick_same _ _ d ∙ pick_ne _ _ z)) ∙ done_same h w st f m c a b z
      ∙ sym (when_no _ _ (ap not (eq-eqb _ _ a)) ∙ when_no _ _ (ap not (eq-eqb _ _ b)) ∙ when_no _ _ (ap not (eq-eqb _ _ d)) ∙ when_no _ _ (ne_eqb _ _ z)
      ∙ ap (λ (s : List ℕ). done h s m c (fate_of h s m c)) e))
      (eq_or_ne st.link 0))
      (other (eq_or_ne (length r) h.l)))
      (other (eq_or_ne (length c) h.l)))
      (other (eq_or_ne (length m) (room h.regions)))
    where
      other : {A B : Type 0} → A ⊎ B → B ⊎ A
      other x = ⊎_elim (λ a. inr a) (λ b. inl b) x

  pub exchange_good : (s m c r : List ℕ) → leaves (exchange_of (sheet_octets h) s m c r) ≡ exchange h s m c r
  unfolding exchange_of exchange on_sheet on_state fields_of
  exchange_good s m c r =
      ap (λ (v : Verdict). leaves (on_sheet v (λ refusal. left refusal s m r) (λ lay.
      on_state (state_of s lay.l lay.tolerance) (left (told 1 0) s m r) (λ st.
      pick (not (eqb (refusal_of lay st (length m) (length c) (length r)) 0))
      (left (told (refusal_of lay st (length m) (length c) (length r)) 0) s m r) (exchanged (sheet_octets h) lay st m c))))) (complete h w)
      ∙ ⊎_elim (λ (v : valid_state h s ≡ true).
      let q = state_yes h s v in
      ap (λ x. leaves (on_state x (left (told 1 0) s m r) (λ st.
      pick (not (eqb (refusal_of lay st (length m) (length c) (length r)) 0))
      (left (told (refusal_of lay st (length m) (length c) (length r)) 0) s m r) (exchanged (sheet_octets h) lay st m c)))) q.0
      ∙ on_valid s m c r (fields_of s) q.1 q.2 ∙ sym (when_no _ _ (ap not v)))
      (λ (v : valid_state h s ≡ false).
      ap (λ x. leaves (on_state x (left (told 1 0) s m r) (λ st.
      pick (not (eqb (refusal_of lay st (length m) (length c) (length r)) 0))
      (left (told (refusal_of lay st (length m) (length c) (length r)) 0) s m r) (exchanged (sheet_octets h) lay st m c)))) (state_no h s v)
      ∙ sym (when_yes _ _ (ap not v)))
      (decided (valid_state h s))

  pub reset_good : (s : List ℕ) → leaves_state (reset_of (sheet_octets h) s) ≡ reset h s
  unfolding reset_of reset on_sheet octets_of
  reset_good s =
      ap (λ (v : Verdict). leaves_state (on_sheet v (λ refusal. after refusal s) (λ layout.
      pick (not (eqb (length s) 11)) (after (told 1 0) s) (after (told 0 0) (octets_of (fresh layout.l)))))) (complete h w)
      ∙ picked (not (eqb (length s) 11)) (after (told 1 0) s) (after (told 0 0) (octets_of (fresh h.l))) refl refl

  pub enable_good : (s : List ℕ) → leaves_state (enable_of (sheet_octets h) s) ≡ enable h s
  unfolding enable_of enable on_sheet on_state fields_of
  enable_good s =
      ap (λ (v : Verdict). leaves_state (on_sheet v (λ refusal. after refusal s) (λ layout.
      on_state (state_of s layout.l layout.tolerance) (after (told 1 0) s) (λ st. pick (not (eqb st.link 0)) (after (told 6 0) s) (after (told 0 0) (octets_of (enabled st))))))) (complete h w)
      ∙ ⊎_elim (λ (v : valid_state h s ≡ true).
      let q = state_yes h s v in
      ap (λ x. leaves_state (on_state x (after (told 1 0) s) (λ st. pick (not (eqb st.link 0)) (after (told 6 0) s) (after (told 0 0) (octets_of (enabled st)))))) q.0
      ∙ picked (not (eqb (link s) 0)) (after (told 6 0) s) (after (told 0 0) (octets_of (enabled (fields_of s)))) refl (ap (λ (t : List ℕ). result 0 0 t [] []) (enabled_over s (fields_of s) q.1)) ∙ sym (when_no _ _ (ap not v)))
      (λ (v : valid_state h s ≡ false).
      ap (λ x. leaves_state (on_state x (after (told 1 0) s) (λ st. pick (not (eqb st.link 0)) (after (told 6 0) s) (after (told 0 0) (octets_of (enabled st)))))) (state_no h s v)
      ∙ sym (when_yes _ _ (ap not v)))
      (decided (valid_state h s))

  pub turn_good : (old s : List ℕ) → leaves_state (turn_of (sheet_octets h) old s) ≡ turn h old s
  unfolding turn_of turn on_sheet on_state
  turn_good old s =
      let new : LinkState → After = λ st. pick (not (eqb (length s) 11)) (after (told 1 0) s) (after (told 0 0) (octets_of st)) in
      ap (λ (v : Verdict). leaves_state (on_sheet v (λ refusal. after refusal s) (λ layout. on_state (old_state_of old layout.l) (after (told 1 0) s) new))) (complete h w)
      ∙ ⊎_elim (λ (v : valid_old h old ≡ true).
      ap (λ x. leaves_state (on_state x (after (told 1 0) s) new)) (old_yes h old v)
      ∙ picked (not (eqb (length s) 11)) (after (told 1 0) s) (after (told 0 0) (octets_of (fields_of old))) refl
      (ap (λ (t : List ℕ). result 0 0 t [] []) (turned old (old_true h old v).0)) ∙ sym (when_no _ _ (ap not v)))
      (λ (v : valid_old h old ≡ false). ap (λ x. leaves_state (on_state x (after (told 1 0) s) new)) (old_no h old v) ∙ sym (when_yes _ _ (ap not v)))
      (decided (valid_old h old))
