-- The replay on the writing of a well-formed sheet.
use mathlib.Core.Bool.{true, false, not}
use mathlib.Core.Logic.{⊎_elim}
use mathlib.Core.Path.{◌≡◌, refl, sym, ap, ◌∙◌}
use mathlib.Core.List.{List, [], ◌∷◌, map}
use Prim.Native.Nat.{ℕ, suc, ◌+◌, ◌*◌, ◌≤◌, ◌<◌}
use native.Mathlib.Omega.{arith}
use borrow.Author.Tests.{eq-eqb, ne_eqb, lt-ltb, le-ltb}
use lib.Dec.{eqb, ltb}
use lib.ListN.{length}
use Rattle.octets.specs.Pick.{pick}
use Rattle.octets.proofs.Cases.{decided, lt_or_le, eq_or_ne}
use Rattle.octets.proofs.Pick.{pick_lt, pick_ge, pick_eq, pick_ne, pick_differ, pick_same}
use Rattle.frame.specs.Fields.{command_of}
use Rattle.frame.specs.Unnamed.{stray_of}
use Rattle.link.specs.Stored.{octets_of, fields_of, state_of}
use Rattle.link.specs.declared.state.LinkState.{LinkState}
use Rattle.link.proofs.Facts.{Facts}
use Rattle.link.proofs.Back.{read_back}
use Rattle.machine.proofs.Nexts.{outcome_valid, outcome_on}
use Rattle.replay.specs.Replay.{Replayed, replayed, on_step, play_of, replay_of}
use Rattle.replay.specs.Trace.{checked_form, traced_of}
use Rattle.slave.specs.Answers.{told}
use Rattle.replay.specs.Trace as machine
use Rattle.slave.specs.declared.answers.Answer.{Answer}
use Rattle.replay.proofs.Forms.{checked_short}
use Rattle.replay.proofs.Steps.{is_exchanged}
use Rattle.slave.specs.Exchange.{outcome_for, exchanged, exchange_of}
use Rattle.slave.specs.Wanted.{differs_at, stepped_of}
use Rattle.slave.proofs.Differs.{differs_most}
use Rattle.slave.proofs.Order.{on_valid, on_invalid, on_state_lem}
use Rattle.law.specs.Words.{when, Every}
use Rattle.law.specs.Sheet.{Sheet, WellFormed, sheet_octets, room, allows}
use Rattle.law.specs.State.{valid_state}
use Rattle.law.specs.Memory.{cells}
use Rattle.law.specs.Exchange.{fate_of}
use Rattle.law.specs.Calls.{Result, result, done}
use Rattle.law.specs.Trace.{Traced, Whole, Form, whole_records, fault, HasForm, alike, played, played_form, replay}
use Rattle.law.proofs.Links.{good_five}
use Rattle.law.proofs.Calls.{leaves, done_same}
use Rattle.law.proofs.Clauses.{state_yes, state_no}
use Rattle.law.proofs.Complete.{complete}
use Rattle.law.proofs.Worlds.{few_first}
use Rattle.law.proofs.Held.{length_cells, stored_length}
use Rattle.law.proofs.Laid.{when_yes, when_no}
use Rattle.law.proofs.Layouts.{form_for, release_for, layout_for}
use Rattle.law.proofs.Spans.{when_pick}
use Rattle.law.proofs.Traces.{as_traced, form_clean, form_faulty, form_records}

abbrev pub leaves_replay : Replayed → Result
leaves_replay r = result r.answer.number r.answer.place r.state r.memory []

alike_differs : (xs ys : List ℕ) → alike xs ys ≡ differs_at xs ys
unfolding alike differs_at
alike_differs [] ys = refl
alike_differs (x ∷ xs) [] = refl
alike_differs (x ∷ xs) (y ∷ ys) = when_pick (eqb x y) (ap suc (alike_differs xs ys)) refl

module _ (h : Sheet) (w : WellFormed h) where
  -- a state that is valid and enabled, and a memory of the sheet's length: an exchange is done, and leaves such a state and memory
  record Ready (s m : List ℕ) : Type 0 where
    pub st : LinkState
    pub record_of : s ≡ octets_of st
    pub facts : Facts h.l (allows h) st
    pub on : st.link ≡ 0 → ⊥
    pub whole : length m ≡ room h.regions

  module _ (s m : List ℕ) (ready : Ready s m) (c : List ℕ) (asked : length c ≡ h.l) where
    abbrev after : Result
    after = done h s m c (fate_of h s m c)

    is_done : leaves (exchanged (sheet_octets h) (layout_for h) ready.st m c) ≡ after
    is_done =
        done_same h w ready.st ready.facts m c ready.whole asked ready.on
        ∙ ap (λ (x : List ℕ). done h x m c (fate_of h x m c)) (sym ready.record_of)

    next_ready : Ready after.state after.memory
    unfolding exchanged
    next_ready =
        let o = outcome_for (sheet_octets h) (layout_for h) ready.st c in
        let u = stray_of (form_for h.pdu) (release_for h) c in
        let one : 1 ≤ ready.st.link = omega (arith, ready.on) in
        let there = outcome_on (sheet_octets h) (layout_for h) ready.st (command_of (form_for h.pdu) c) u h.l ready.facts one in
        let fit = ready.whole ∙ sym (length_cells h.regions) in
        record {
          st = o.next;
          record_of = sym (ap (λ (x : Result). x.state) is_done);
          facts = outcome_valid (sheet_octets h) (layout_for h) ready.st (command_of (form_for h.pdu) c) u h.l ready.facts one (omega (arith, few_first h.tolerances w.tolerances));
          on = λ z. omega arith;
          whole = stored_length (fate_of h s m c).stores (cells h.regions) m fit ∙ ready.whole;
        }

    -- one record: it agrees where all L octets do
    module _ (k : ℕ) (r : List ℕ) (lent : length r ≡ h.l) where
      machine_done : leaves (exchange_of (sheet_octets h) s m c r) ≡ after
      machine_done =
          ap leaves (is_exchanged (sheet_octets h) s m c r (layout_for h) (complete h w) ready.st
          (record {
            held = ap (λ (x : List ℕ). state_of x h.l (allows h)) ready.record_of ∙ read_back ready.st h.l (allows h) ready.facts;
            on = ready.on;
          })
          ready.whole asked lent)
          ∙ is_done

      same_at : differs_at (exchange_of (sheet_octets h) s m c r).reply r ≡ alike after.reply r
      same_at = ap (λ (x : Result). differs_at x.reply r) machine_done ∙ sym (alike_differs after.reply r)

      step_same : (next : List ℕ → List ℕ → Replayed)
          → leaves_replay (on_step h.l k (stepped_of h.l s m r (exchange_of (sheet_octets h) s m c r)) next)
          ≡ when (eqb (alike after.reply r) h.l) (leaves_replay (next after.state after.memory)) (result 34 (64 * k + alike after.reply r) s m [])
      unfolding on_step stepped_of
      step_same next =
          let x = exchange_of (sheet_octets h) s m c r in
          let d = differs_at x.reply r in
          let most : d ≤ h.l = let q = differs_most x.reply r in omega arith in
          ⊎_elim
          (λ (e : d ≡ h.l).
          ap (λ y. leaves_replay (on_step h.l k y next)) (pick_eq _ _ e)
          ∙ ap leaves_replay (pick_ge _ _ (let z : h.l ≤ d = omega arith in z))
          ∙ ap (λ (y : Result). leaves_replay (next y.state y.memory)) machine_done
          ∙ sym (when_yes _ _ (eq-eqb _ _ (sym same_at ∙ e))))
          (λ (n : d ≡ h.l → ⊥).
          ap (λ y. leaves_replay (on_step h.l k y next)) (pick_ne _ _ n)
          ∙ ap leaves_replay (pick_lt _ _ (let z : d < h.l = ⊎_elim (λ (u : d < h.l). u) (λ (u : h.l ≤ d). absurd (n (omega arith))) (lt_or_le d h.l) in z))
          ∙ ap (λ (i : ℕ). result 34 (64 * k + i) s m []) same_at
          ∙ sym (when_no _ _ (ne_eqb _ _ (λ q. n (same_at ∙ q)))))
          (eq_or_ne d h.l)

  play_same : (ts : List Traced) (k : ℕ) (s m : List ℕ) → Ready s m → Every (Whole h.l) ts
      → leaves_replay (play_of (sheet_octets h) h.l k s m (map as_traced ts)) ≡ played h k s m ts
  unfolding play_of played
  play_same [] k s m ready all = refl
  play_same (t ∷ ts) k s m ready all =
      let x = done h s m t.command (fate_of h s m t.command) in
      step_same s m ready t.command all.0.0 k t.reply all.0.1 (λ a b. play_of (sheet_octets h) h.l (suc k) a b (map as_traced ts))
      ∙ ap (λ (y : Result). when (eqb (alike x.reply t.reply) h.l) y (result 34 (64 * k + alike x.reply t.reply) s m []))
      (play_same ts (suc k) x.state x.memory (next_ready s m ready t.command all.0.0) all.1)

  -- a trace that is not too long, by its form
  form_same : (trace s m : List ℕ) → Ready s m → length trace ≤ 1073741823 → (form : Form) → HasForm h.l trace form
      → leaves_replay (pick (not (eqb (checked_form h.l trace).number 0)) (replayed (checked_form h.l trace) s m)
      (play_of (sheet_octets h) h.l 0 s m (traced_of h.l trace)))
      ≡ played_form h s m form
  form_same trace s m ready short (whole_records ts) f =
      let e = checked_short h.l trace short ∙ form_clean h.l (good_five h.pdu h.l w.l) trace ts f in
      ap leaves_replay (pick_same _ _ (ap (λ (x : Answer). x.number) e))
      ∙ ap (λ (x : List machine.Traced). leaves_replay (play_of (sheet_octets h) h.l 0 s m x)) (form_records h.l (good_five h.pdu h.l w.l) trace ts f)
      ∙ play_same ts 0 s m ready f.0
  form_same trace s m ready short (fault n place) f =
      let q = form_faulty h.l (good_five h.pdu h.l w.l) trace n place f in
      let e = checked_short h.l trace short ∙ q.0 in
      ap leaves_replay (pick_differ _ _ (λ z. q.1 (sym (ap (λ (x : Answer). x.number) e) ∙ z)))
      ∙ ap (λ (x : Answer). leaves_replay (replayed x s m)) e

  long_same : (trace s m : List ℕ) (rest : Replayed) → 1073741823 < length trace
      → leaves_replay (pick (not (eqb (checked_form h.l trace).number 0)) (replayed (checked_form h.l trace) s m) rest) ≡ result 35 0 s m []
  unfolding checked_form
  long_same trace s m rest long =
      let e : checked_form h.l trace ≡ told 35 0 = pick_lt _ _ long in
      ap leaves_replay (pick_differ _ _ (λ z. let k : 35 ≡ 0 = sym (ap (λ (x : Answer). x.number) e) ∙ z in omega arith))
      ∙ ap (λ (x : Answer). leaves_replay (replayed x s m)) e

  -- what stands behind the state record
  abbrev behind : List ℕ → List ℕ → List ℕ → LinkState → Replayed
  behind s m trace st =
      pick (not (eqb (length m) (room h.regions))) (replayed (told 2 0) s m)
      (pick (eqb st.link 0) (replayed (told 5 0) s m)
      (pick (not (eqb (checked_form h.l trace).number 0)) (replayed (checked_form h.l trace) s m)
      (play_of (sheet_octets h) h.l 0 s m (traced_of h.l trace))))

  behind_same : (s m trace : List ℕ) (st : LinkState) → s ≡ octets_of st → Facts h.l (allows h) st → (form : Form) → HasForm h.l trace form
      → leaves_replay (behind s m trace st)
      ≡ when (not (eqb (length m) (room h.regions))) (result 2 0 s m [])
      (when (eqb st.link 0) (result 5 0 s m [])
      (when (ltb 1073741823 (length trace)) (result 35 0 s m [])
      (played_form h s m form)))
  behind_same s m trace st e facts form f =
      ⊎_elim
      (λ (a : length m ≡ room h.regions).
      ⊎_elim
      (λ (z : st.link ≡ 0).
      ap leaves_replay (pick_same _ _ a ∙ pick_eq _ _ z) ∙ sym (when_no _ _ (ap not (eq-eqb _ _ a)) ∙ when_yes _ _ (eq-eqb _ _ z)))
      (λ (z : st.link ≡ 0 → ⊥).
      let go = pick_same _ _ a ∙ pick_ne _ _ z in
      ⊎_elim
      (λ (l : 1073741823 < length trace). ap leaves_replay go ∙ long_same trace s m _ l ∙ sym (when_no _ _ (ap not (eq-eqb _ _ a)) ∙ when_no _ _ (ne_eqb _ _ z) ∙ when_yes _ _ (lt-ltb _ _ l)))
      (λ (l : length trace ≤ 1073741823).
      ap leaves_replay go ∙ form_same trace s m (record { st = st; record_of = e; facts = facts; on = z; whole = a }) l form f
      ∙ sym (when_no _ _ (ap not (eq-eqb _ _ a)) ∙ when_no _ _ (ne_eqb _ _ z) ∙ when_no _ _ (le-ltb _ _ l)))
      (lt_or_le 1073741823 (length trace)))
      (eq_or_ne st.link 0))
      (λ (a : length m ≡ room h.regions → ⊥). ap leaves_replay (pick_differ _ _ a) ∙ sym (when_yes _ _ (ap not (ne_eqb _ _ a))))
      (eq_or_ne (length m) (room h.regions))

  pub replay_good : (s m trace : List ℕ) (form : Form) → HasForm h.l trace form → leaves_replay (replay_of (sheet_octets h) s m trace) ≡ replay h s m trace form
  unfolding replay_of replay fields_of
  replay_good s m trace form f =
      ap leaves_replay (on_valid _ _ _ _ (complete h w))
      ∙ ⊎_elim
      (λ (v : valid_state h s ≡ true).
      let q = state_yes h s v in
      ap leaves_replay (on_state_lem _ _ _ _ q.0) ∙ behind_same s m trace (fields_of s) q.1 q.2 form f ∙ sym (when_no _ _ (ap not v)))
      (λ (v : valid_state h s ≡ false). ap leaves_replay (on_invalid _ _ _ (state_no h s v)) ∙ sym (when_yes _ _ (ap not v)))
      (decided (valid_state h s))
