-- Request 11: every call, and every sequence of calls, under more rights.
use mathlib.Core.Bool.{true, false, not}
use mathlib.Core.List.{List, [], ◌∷◌}
use mathlib.Core.Logic.{⊎_elim}
use mathlib.Core.Path.{◌≡◌, refl, sym, ap, ap₂, ◌∙◌}
use Prim.Native.Nat.{ℕ, suc, ◌<◌, ◌≤◌}
use native.Mathlib.Omega.{arith}
use lib.Dec.{eqb}
use lib.ListN.{length}
use Rattle.octets.specs.Pick.{pick}
use Rattle.octets.proofs.Cases.{decided, eq_or_ne, lt_or_le}
use Rattle.octets.proofs.Pick.{pick_differ, pick_lt, pick_ge}
use Rattle.law.specs.Sheet.{Region, Sheet, WellFormed, sheet_octets, room, allows}
use Rattle.law.specs.State.{valid_state}
use Rattle.law.specs.Exchange.{fate_of}
use Rattle.law.specs.Calls.{done}
use Rattle.law.proofs.Clauses.{state_yes, state_no}
use Rattle.law.proofs.Complete.{complete}
use Rattle.law.proofs.Layouts.{layout_for}
use Rattle.link.specs.Stored.{fields_of, state_of}
use Rattle.link.specs.declared.state.LinkState.{LinkState}
use Rattle.replay.specs.Replay.{replayed, on_step, play_of, replay_of}
use Rattle.replay.specs.Trace.{Traced, checked_form, traced_of}
use Rattle.slave.specs.Answers.{told, on_state}
use Rattle.slave.specs.Calls.{reset_of, enable_of, turn_of}
use Rattle.slave.specs.Exchange.{Left, left, refusal_of, exchange_of}
use Rattle.slave.specs.Wanted.{stepped_of}
use Rattle.slave.proofs.Order.{on_valid, on_invalid, on_state_lem, no_refusal}
use Rattle.demands.specs.Answered.{Answered, alarm_in}
use Rattle.demands.specs.Granted.{EachGrants, with_regions, NoTen, NoTenIn, NoTenBy, NeverTen, MoreRightsChangeNothing}
use Rattle.demands.specs.Sequences.{Call, Reset, Enable, Turn, Exchange, Replay, call_of, run_of, beside, without_reply}
use Rattle.demands.proofs.Cells.{room_same}
use Rattle.demands.proofs.Done.{lawful, answered_done, seen_alarm}
use Rattle.demands.proofs.Granted.{fate_granted, done_granted}

module _ (h : Sheet) (more : List Region) (w : WellFormed h) (w₂ : WellFormed (with_regions more h)) (grants : EachGrants h.regions more) where
  abbrev high : Sheet
  high = with_regions more h

  abbrev one : List ℕ
  one = sheet_octets h

  abbrev two : List ℕ
  two = sheet_octets high

  valid_too : (s : List ℕ) → valid_state high s ≡ valid_state h s
  unfolding valid_state
  valid_too s = refl

  room_too : room h.regions ≡ room more
  room_too = room_same h.regions more grants

  refusal_too : (st : LinkState) (a b d : ℕ) → refusal_of (layout_for h) st a b d ≡ refusal_of (layout_for high) st a b d
  unfolding refusal_of
  refusal_too st a b d =
      ap (λ (k : ℕ). pick (not (eqb a k)) 2 (pick (not (eqb b h.l)) 3 (pick (not (eqb d h.l)) 4 (pick (eqb st.link 0) 5 0)))) room_too

  module _ (s m c r : List ℕ) where
    answered_too : Answered h one s m c r → Answered high two s m c r
    answered_too a =
        record { good = w₂; written = refl; valid = valid_too s ∙ a.valid; whole = a.whole ∙ room_too; asked = a.asked; lent = a.lent; enabled = a.enabled }

    -- an exchange that is answered without alarm 10
    answered_same : Answered h one s m c r → NoTen h (exchange_of one s m c r) → exchange_of one s m c r ≡ exchange_of two s m c r
    answered_same a calm =
        let x = answered_done h one s m c r a in
        let z : (fate_of h s m c).alarm ≡ 10 → ⊥ =
        λ e. calm (ap (λ (l : Left). l.answer.number) x) (ap (λ (l : Left). alarm_in h l.reply) x ∙ seen_alarm h s m c w.l ∙ e) in
        let f = fate_granted h more grants s m c z in
        let d : lawful h s m c ≡ lawful high s m c = ap (done h s m c) f ∙ done_granted h more grants s m c (fate_of high s m c) in
        x
        ∙ (λ i. left (told 0 (f i).place) (d i).state (d i).memory (d i).reply)
        ∙ sym (answered_done high two s m c r (answered_too a))

    -- and one that a number refuses, or none
    behind_state_lem : valid_state h s ≡ true → NoTen h (exchange_of one s m c r) → exchange_of one s m c r ≡ exchange_of two s m c r
    unfolding exchange_of fields_of
    behind_state_lem v calm =
        let q = state_yes h s v in
        let q₂ = state_yes high s (valid_too s ∙ v) in
        let st = fields_of s in
        let n = refusal_of (layout_for h) st (length m) (length c) (length r) in
        ⊎_elim
        (λ (e : n ≡ 0).
        let t = no_refusal (layout_for h) st (length m) (length c) (length r) e in
        answered_same (record { good = w; written = refl; valid = v; whole = t.0; asked = t.1; lent = t.2; enabled = t.3 }) calm)
        (λ (e : n ≡ 0 → ⊥).
        on_valid _ _ _ _ (complete h w) ∙ on_state_lem _ _ _ _ q.0 ∙ pick_differ _ _ e
        ∙ ap (λ (k : ℕ). left (told k 0) s m r) (refusal_too st (length m) (length c) (length r))
        ∙ sym (on_valid _ _ _ _ (complete high w₂) ∙ on_state_lem _ _ _ _ q₂.0 ∙ pick_differ _ _ (λ z. e (refusal_too st (length m) (length c) (length r) ∙ z))))
        (eq_or_ne n 0)

    pub exchange_granted : NoTen h (exchange_of one s m c r) → exchange_of one s m c r ≡ exchange_of two s m c r
    unfolding exchange_of
    exchange_granted calm =
        ⊎_elim (λ (v : valid_state h s ≡ true). behind_state_lem v calm)
        (λ (v : valid_state h s ≡ false). invalid v)
        (decided (valid_state h s))
      where
        invalid : valid_state h s ≡ false → exchange_of one s m c r ≡ exchange_of two s m c r
        invalid v =
            on_valid _ _ _ _ (complete h w) ∙ on_invalid _ _ _ (state_no h s v)
            ∙ sym (on_valid _ _ _ _ (complete high w₂) ∙ on_invalid _ _ _ (state_no high s (valid_too s ∙ v)))

  -- the records of a trace
  pub play_granted : (ts : List Traced) (k : ℕ) (s m : List ℕ) → NoTenIn h s m ts → play_of one h.l k s m ts ≡ play_of two h.l k s m ts
  unfolding play_of on_step
  play_granted [] k s m calm = refl
  play_granted (t ∷ ts) k s m calm =
      let e = exchange_granted s m t.command t.reply calm.0 in
      let y = stepped_of h.l s m t.reply (exchange_of one s m t.command t.reply) in
      ⊎_elim
      (λ (a : y.at < h.l). pick_lt _ _ a ∙ sym (pick_lt _ _ a))
      (λ (a : h.l ≤ y.at). pick_ge _ _ a ∙ play_granted ts (suc k) y.state y.memory (calm.1 (λ z. omega arith)) ∙ sym (pick_ge _ _ a))
      (lt_or_le y.at h.l)
      ∙ ap (λ (x : Left). on_step h.l k (stepped_of h.l s m t.reply x) (λ a b. play_of two h.l (suc k) a b ts)) e

  pub replay_granted : (s m trace : List ℕ) → NoTenIn h s m (traced_of h.l trace) → replay_of one s m trace ≡ replay_of two s m trace
  unfolding replay_of
  replay_granted s m trace calm =
      on_valid _ _ _ _ (complete h w)
      ∙ (λ i.
      on_state (state_of s h.l (allows h)) (replayed (told 1 0) s m)
      (λ st.
      pick (not (eqb (length m) (room_too i))) (replayed (told 2 0) s m)
      (pick (eqb st.link 0) (replayed (told 5 0) s m)
      (pick (not (eqb (checked_form h.l trace).number 0)) (replayed (checked_form h.l trace) s m)
      (play_granted (traced_of h.l trace) 0 s m calm i)))))
      ∙ sym (on_valid _ _ _ _ (complete high w₂))

  call_granted : (s m : List ℕ) (c : Call) → NoTenBy h s m c → call_of one s m c ≡ call_of two s m c
  unfolding call_of reset_of enable_of turn_of
  call_granted s m Reset calm = ap (beside m) (on_valid _ _ _ _ (complete h w) ∙ sym (on_valid _ _ _ _ (complete high w₂)))
  call_granted s m Enable calm = ap (beside m) (on_valid _ _ _ _ (complete h w) ∙ sym (on_valid _ _ _ _ (complete high w₂)))
  call_granted s m (Turn old) calm = ap (beside m) (on_valid _ _ _ _ (complete h w) ∙ sym (on_valid _ _ _ _ (complete high w₂)))
  call_granted s m (Exchange c r) calm = exchange_granted s m c r calm
  call_granted s m (Replay trace) calm = ap without_reply (replay_granted s m trace calm)

  run_granted : (s m : List ℕ) (cs : List Call) → NeverTen h s m cs → run_of one s m cs ≡ run_of two s m cs
  unfolding run_of
  run_granted s m [] calm = refl
  run_granted s m (c ∷ cs) calm =
      let e = call_granted s m c calm.0 in
      let x = call_of one s m c in
      ap₂ (λ (y : Left) (ls : List Left). y ∷ ls) e (run_granted x.state x.memory cs calm.1 ∙ ap (λ (y : Left). run_of two y.state y.memory cs) e)

pub more_rights_change_nothing : MoreRightsChangeNothing
more_rights_change_nothing h more w w₂ grants s m cs calm = run_granted h more w w₂ grants s m cs calm
