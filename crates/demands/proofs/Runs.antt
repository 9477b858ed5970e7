-- Every call and every sequence of calls, the replay among them.
--     refused_changes_nothing      a refused call changes nothing
--     states_stay_valid            a valid state stays one
--     memory_keeps_its_length      and the memory its length
--     call_kept, demand_3          two runs on memories that differ only in octets without the read right
use mathlib.Core.Logic.{◌⊎◌, inl, inr, ⊎_elim}
use mathlib.Core.Path.{◌≡◌, refl, sym, ap, ap₂, subst, ◌∙◌}
use mathlib.Core.List.{List, [], ◌∷◌, map}
use Prim.Native.Nat.{ℕ, zero, suc, ◌*◌}
use native.Mathlib.Omega.{arith}
use lib.ListN.{length, get_or}
use Rattle.std.specs.Prelude.{None, Option, Some}
use Rattle.octets.proofs.Cases.{eq_or_ne}
use Rattle.octets.proofs.Pick.{pick_both, pick_same, pick_differ, pick_eq, pick_ne}
use Rattle.law.specs.Sheet.{Sheet, WellFormed, allows, sheet_octets, room}
use Rattle.law.proofs.Complete.{complete}
use Rattle.law.proofs.OneSheet.{one_sheet}
use Rattle.link.specs.Stored.{state_of}
use Rattle.link.specs.declared.state.LinkState.{LinkState}
use Rattle.sheet.specs.Walk.{verdict_of}
use Rattle.slave.specs.Answers.{told}
use Rattle.slave.specs.Calls.{reset_of, turn_of}
use Rattle.slave.specs.Exchange.{exchange_of}
use Rattle.slave.specs.Wanted.{Stepped, stepped_of}
use Rattle.slave.proofs.Order.{on_valid, on_invalid, on_state_lem}
use Rattle.replay.specs.Answers.{fault_number}
use Rattle.replay.specs.Replay.{Replayed, replayed, on_step, play_of, replay_of}
use Rattle.replay.specs.Trace.{Traced, record_size, record_at, formed, form_from, checked_form, traced_of}
use Rattle.replay.specs.declared.answers.Fault.TheVariants.{Unknown, OtherLength, Cut}
use Rattle.replay.specs.declared.answers.Fault.{Fault}
use Rattle.replay.specs.declared.form.Record.{Record}
use Rattle.slave.specs.declared.answers.Answer.{Answer}
use Rattle.demands.specs.Hidden.{Readable, Seen, seen, Demand3}
use Rattle.demands.specs.Refused.{RefusedChangesNothing, ValidRecord, EachState, StatesStayValid}
use Rattle.demands.specs.Sequences.{Call, Reset, Enable, Turn, Exchange, Replay, without_reply, call_of, run_of, last_memory}
use Rattle.demands.specs.Writes.{MemoryKeepsItsLength, agreeing, ReachedIn, ReplayReached, ReachedBy, Reached}
use Rattle.demands.proofs.Agreed.{traces_have_replies}
use Rattle.demands.proofs.Lengths.{memory_keeps}
use Rattle.demands.proofs.Playing.{told_of, refused_replay_writes_nothing, secrets_in_whole_replay}
use Rattle.demands.proofs.Reached.{play_kept}
use Rattle.demands.proofs.Refusals.{by_sheet, by_state, reset_keeps, enable_keeps, turn_keeps, exchange_keeps, Held, reset_valid, turn_valid, again_reset, then_enable, then_turn, then_exchange, held, valid}
use Rattle.demands.proofs.Replays.{played}
use Rattle.demands.proofs.Secrets.{Kept, still, exchange_kept}

pub refused_changes_nothing : RefusedChangesNothing
unfolding call_of
refused_changes_nothing sheet state memory Reset n = reset_keeps sheet state memory n
refused_changes_nothing sheet state memory Enable n = enable_keeps sheet state memory n
refused_changes_nothing sheet state memory (Turn old) n = turn_keeps sheet state memory old n
refused_changes_nothing sheet state memory (Exchange command reply) n = exchange_keeps sheet state memory command reply n
refused_changes_nothing sheet state memory (Replay trace) n =
    let e = refused_replay_writes_nothing sheet state memory trace n.0 n.1 in (e.0, e.1, refl)

-- what an exchange keeps, the replay of a trace keeps: a property of state and memory
module _ (sheet : List ℕ) (Q : List ℕ → List ℕ → Type 0)
    (keeps : (state memory command reply : List ℕ) → Q state memory → Q (exchange_of sheet state memory command reply).state (exchange_of sheet state memory command reply).memory) where
  plays_keep : (l k : ℕ) (ts : List Traced) (state memory : List ℕ) → Q state memory → Q (play_of sheet l k state memory ts).state (play_of sheet l k state memory ts).memory
  unfolding play_of on_step stepped_of
  plays_keep l k [] state memory q = q
  plays_keep l k (t ∷ ts) state memory q =
      let x = exchange_of sheet state memory t.command t.reply in
      let y = stepped_of l state memory t.reply x in
      let step : Q y.state y.memory = pick_both (λ (z : Stepped). Q z.state z.memory) _ (keeps state memory t.command t.reply q) q in
      pick_both (λ (r : Replayed). Q r.state r.memory) _ step (plays_keep l (suc k) ts y.state y.memory step)

  replay_keeps : (state memory trace : List ℕ) → Q state memory → Q (replay_of sheet state memory trace).state (replay_of sheet state memory trace).memory
  unfolding replay_of
  replay_keeps state memory trace q =
      let K : Replayed → Type 0 = λ r. Q r.state r.memory in
      by_sheet K (verdict_of sheet) _ _ (λ fault place. q)
      (λ lay v.
      by_state K (state_of state lay.l lay.tolerance) _ _ q
      (λ st s. pick_both K _ q (pick_both K _ q (pick_both K _ q (plays_keep lay.l 0 (traced_of lay.l trace) state memory q)))))

then_call : (sheet state memory : List ℕ) → Held sheet state → (c : Call) → Held sheet (call_of sheet state memory c).state
unfolding call_of
then_call sheet state memory ok Reset = again_reset sheet state memory ok
then_call sheet state memory ok Enable = then_enable sheet state memory ok
then_call sheet state memory ok (Turn old) = then_turn sheet state memory ok old
then_call sheet state memory ok (Exchange command reply) = then_exchange sheet state memory ok command reply
then_call sheet state memory ok (Replay trace) =
    replay_keeps sheet (λ s m. Held sheet s) (λ s m command reply q. then_exchange sheet s m q command reply) state memory trace ok

run_valid : (h : Sheet) → WellFormed h → (calls : List Call) (state memory : List ℕ) → Held (sheet_octets h) state → EachState (ValidRecord h) (run_of (sheet_octets h) state memory calls)
unfolding run_of
run_valid h w [] state memory ok = tt
run_valid h w (c ∷ cs) state memory ok =
    let l = call_of (sheet_octets h) state memory c in
    let next = then_call (sheet_octets h) state memory ok c in
    (valid h w l.state next, run_valid h w cs l.state l.memory next)

pub states_stay_valid : StatesStayValid
states_stay_valid = record {
  from_a_valid_one = λ h w state memory v calls. run_valid h w calls state memory (held h w state v);
  reset_leaves_one = λ h w state e. valid h w (reset_of (sheet_octets h) state).state (reset_valid (sheet_octets h) state e);
  turning_leaves_one = λ h w old state e. valid h w (turn_of (sheet_octets h) old state).state (turn_valid (sheet_octets h) old state e);
}

pub memory_keeps_its_length : MemoryKeepsItsLength
unfolding call_of
memory_keeps_its_length sheet state memory Reset = refl
memory_keeps_its_length sheet state memory Enable = refl
memory_keeps_its_length sheet state memory (Turn old) = refl
memory_keeps_its_length sheet state memory (Exchange command reply) = memory_keeps sheet state memory command reply
memory_keeps_its_length sheet state memory (Replay trace) =
    replay_keeps sheet (λ s m. length m ≡ length memory) (λ s m command reply q. memory_keeps sheet s m command reply ∙ q) state memory trace refl

-- no fault of a trace's form has the number of a difference
fault_no_34 : (fault : Fault) → fault_number fault ≡ 34 → ⊥
fault_no_34 Unknown e = omega arith
fault_no_34 OtherLength e = omega arith
fault_no_34 Cut e = omega arith

form_no_34 : (l : ℕ) (trace : List ℕ) (k n : ℕ) → (form_from l trace k n).number ≡ 34 → ⊥
unfolding form_from formed record_at
form_no_34 l trace k zero = λ e. omega arith
form_no_34 l trace k (suc n) =
    let N : Record → Type 0 = λ r. (formed r (k * record_size l) (form_from l trace (suc k) n)).number ≡ 34 → ⊥ in
    pick_both N _ (λ e. omega arith) (pick_both N _ (form_no_34 l trace (suc k) n) (fault_no_34 _))

checked_no_34 : (l : ℕ) (trace : List ℕ) → (checked_form l trace).number ≡ 34 → ⊥
unfolding checked_form
checked_no_34 l trace = pick_both (λ (t : Answer). t.number ≡ 34 → ⊥) _ (λ e. omega arith) (form_no_34 l trace 0 (suc (length trace)))

-- a replay that plays its records on one memory plays them on any of the same length
module _ (h : Sheet) (w : WellFormed h) (state m₁ m₂ trace : List ℕ) (w₁ : length m₁ ≡ room h.regions) (w₂ : length m₂ ≡ room h.regions) where
  abbrev ts : List Traced
  ts = traced_of h.l trace

  refuses : (a : Answer) → replay_of (sheet_octets h) state m₁ trace ≡ replayed a state m₁ → (a.number ≡ 0 → ⊥) → (a.number ≡ 34 → ⊥)
      → replay_of (sheet_octets h) state m₁ trace ≡ play_of (sheet_octets h) h.l 0 state m₁ ts → ⊥
  refuses a e none difference p =
      let same : (play_of (sheet_octets h) h.l 0 state m₁ ts).answer.number ≡ a.number = ap (λ (r : Replayed). r.answer.number) (sym p ∙ e) in
      told_of (sheet_octets h) h.l (played (sheet_octets h) h.l 0 state m₁ ts (traces_have_replies h.l trace)) (λ q. none (sym same ∙ q)) (λ q. difference (sym same ∙ q))

  plays_too : replay_of (sheet_octets h) state m₁ trace ≡ play_of (sheet_octets h) h.l 0 state m₁ ts
      → replay_of (sheet_octets h) state m₂ trace ≡ play_of (sheet_octets h) h.l 0 state m₂ ts
  unfolding replay_of
  plays_too p = go (state_of state h.l (allows h)) refl
    where
      go : (s : Option LinkState) → state_of state h.l (allows h) ≡ s → replay_of (sheet_octets h) state m₂ trace ≡ play_of (sheet_octets h) h.l 0 state m₂ ts
      go None s =
          absurd (refuses (told 1 0) (on_valid _ _ _ _ (complete h w) ∙ on_invalid _ _ _ s) (λ e. omega arith) (λ e. omega arith) p)
      go (Some st) s =
          ⊎_elim
          (λ (z : st.link ≡ 0).
          absurd (refuses (told 5 0) (on_valid _ _ _ _ (complete h w) ∙ on_state_lem _ _ _ _ s ∙ pick_same _ _ w₁ ∙ pick_eq _ _ z) (λ e. omega arith) (λ e. omega arith) p))
          (λ (z : st.link ≡ 0 → ⊥).
          ⊎_elim
          (λ (f : (checked_form h.l trace).number ≡ 0). on_valid _ _ _ _ (complete h w) ∙ on_state_lem _ _ _ _ s ∙ pick_same _ _ w₂ ∙ pick_ne _ _ z ∙ pick_same _ _ f)
          (λ (f : (checked_form h.l trace).number ≡ 0 → ⊥).
          absurd (refuses (checked_form h.l trace) (on_valid _ _ _ _ (complete h w) ∙ on_state_lem _ _ _ _ s ∙ pick_same _ _ w₁ ∙ pick_ne _ _ z ∙ pick_differ _ _ f) f (checked_no_34 h.l trace) p))
          (eq_or_ne (checked_form h.l trace).number 0))
          (eq_or_ne st.link 0)

module _ (h : Sheet) (w : WellFormed h) (E : ℕ → Type 0) (readable : (i : ℕ) → Readable h i → E i) where
  module _ (state m₁ m₂ : List ℕ) (w₁ : length m₁ ≡ room h.regions) (w₂ : length m₂ ≡ room h.regions) (agree : (i : ℕ) → E i → get_or m₁ i 0 ≡ get_or m₂ i 0) where
    reached_agree : (trace : List ℕ) (i : ℕ) → ReplayReached (sheet_octets h) state m₁ trace i
        → get_or (replay_of (sheet_octets h) state m₁ trace).memory i 0 ≡ get_or (replay_of (sheet_octets h) state m₂ trace).memory i 0
    reached_agree trace i q =
        let same : q.h ≡ h = one_sheet q.h h q.good w (sym q.written) in
        let plays = subst (λ (x : Sheet). replay_of (sheet_octets h) state m₁ trace ≡ play_of (sheet_octets h) x.l 0 state m₁ (traced_of x.l trace)) same q.plays in
        let r = subst (λ (x : Sheet). ReachedIn (sheet_octets h) state m₁ (agreeing (sheet_octets h) state m₁ (traced_of x.l trace)) i) same q.reached in
        let k = play_kept h w h.l (traced_of h.l trace) 0 (traces_have_replies h.l trace) E readable state m₁ m₂ w₁ w₂ agree in
        ap (λ (x : Replayed). get_or x.memory i 0) plays ∙ k.agree i (inr r)
        ∙ ap (λ (x : Replayed). get_or x.memory i 0) (sym (plays_too h w state m₁ m₂ trace w₁ w₂ plays))

    replay_kept : (trace : List ℕ)
        → Kept h E (ReplayReached (sheet_octets h) state m₁ trace) (without_reply (replay_of (sheet_octets h) state m₁ trace)) (without_reply (replay_of (sheet_octets h) state m₂ trace))
    unfolding call_of
    replay_kept trace =
        let a = secrets_in_whole_replay h w state m₁ m₂ (record { whole₁ = w₁; whole₂ = w₂; shown = λ i r. agree i (readable i r) }) trace in
        record {
          same = λ i. record { answer = told (a.answers i).number (a.answers i).place; state = a.states i; reply = [] };
          whole₁ = memory_keeps_its_length (sheet_octets h) state m₁ (Replay trace) ∙ w₁;
          whole₂ = memory_keeps_its_length (sheet_octets h) state m₂ (Replay trace) ∙ w₂;
          agree = λ i. ⊎_elim (λ e. a.kept i (agree i e)) (λ r. reached_agree trace i r);
        }

    pub call_kept : (c : Call) → Kept h E (ReachedBy (sheet_octets h) state m₁ c) (call_of (sheet_octets h) state m₁ c) (call_of (sheet_octets h) state m₂ c)
    unfolding call_of
    call_kept Reset = still h w E readable state m₁ m₂ w₁ w₂ agree _ _ [] (λ i. ⊥) (λ i r. absurd r)
    call_kept Enable = still h w E readable state m₁ m₂ w₁ w₂ agree _ _ [] (λ i. ⊥) (λ i r. absurd r)
    call_kept (Turn old) = still h w E readable state m₁ m₂ w₁ w₂ agree _ _ [] (λ i. ⊥) (λ i r. absurd r)
    call_kept (Exchange command reply) = exchange_kept h w E readable state m₁ m₂ w₁ w₂ agree command reply
    call_kept (Replay trace) = replay_kept trace

-- the same over every sequence, with what the calls reach added to E on the way
run_kept : (h : Sheet) → WellFormed h → (calls : List Call) (E : ℕ → Type 0) → ((i : ℕ) → Readable h i → E i)
    → (state m₁ m₂ : List ℕ) → length m₁ ≡ room h.regions → length m₂ ≡ room h.regions → ((i : ℕ) → E i → get_or m₁ i 0 ≡ get_or m₂ i 0)
    → (map seen (run_of (sheet_octets h) state m₁ calls) ≡ map seen (run_of (sheet_octets h) state m₂ calls))
    × ((i : ℕ) → E i ⊎ Reached (sheet_octets h) state m₁ calls i
    → get_or (last_memory m₁ (run_of (sheet_octets h) state m₁ calls)) i 0 ≡ get_or (last_memory m₂ (run_of (sheet_octets h) state m₂ calls)) i 0)
unfolding run_of last_memory
run_kept h w [] E readable state m₁ m₂ w₁ w₂ agree = (refl, λ i. ⊎_elim (λ e. agree i e) (λ r. absurd r))
run_kept h w (c ∷ cs) E readable state m₁ m₂ w₁ w₂ agree =
    let k = call_kept h w E readable state m₁ m₂ w₁ w₂ agree c in
    let l₁ = call_of (sheet_octets h) state m₁ c in
    let l₂ = call_of (sheet_octets h) state m₂ c in
    let e : l₁.state ≡ l₂.state = ap (λ (x : Seen). x.state) k.same in
    let ih = run_kept h w cs (λ i. E i ⊎ ReachedBy (sheet_octets h) state m₁ c i) (λ i r. inl (readable i r)) l₁.state l₁.memory l₂.memory
    k.whole₁ k.whole₂ k.agree in (
      ap₂ (λ (x : Seen) (xs : List Seen). x ∷ xs) k.same
          (ih.0 ∙ ap (λ (s : List ℕ). map seen (run_of (sheet_octets h) s l₂.memory cs)) e),
      λ i j.
          ih.1 i (⊎_elim (λ a. inl (inl a)) (λ r. ⊎_elim (λ b. inl (inr b)) (λ b. inr b) r) j)
          ∙ ap (λ (s : List ℕ). get_or (last_memory l₂.memory (run_of (sheet_octets h) s l₂.memory cs)) i 0) e,
    )

pub demand_3 : Demand3
demand_3 h w state m₁ m₂ d calls =
    let k = run_kept h w calls (λ i. get_or m₁ i 0 ≡ get_or m₂ i 0) d.shown state m₁ m₂ d.whole₁ d.whole₂ (λ i e. e) in
    (k.0, λ i e. k.1 i (inl e), λ i r. k.1 i (inr r))
