-- Request 6: from a start that nothing refuses, the replay plays the trace's records, and our machine answers each.
use mathlib.Core.Bool.{Bool, true, false}
use mathlib.Core.Path.{◌≡◌, refl, sym, ap, subst₂, ◌∙◌}
use mathlib.Core.List.{List}
use Prim.Native.Nat.{ℕ, zero, suc, ◌+◌, ◌*◌, ◌/◌, ◌≤◌}
use native.Mathlib.Nat.{suc-mul, div-mul-le_self}
use native.Mathlib.Omega.{arith}
use lib.ListN.{length, drop, length-drop}
use Rattle.std.specs.Prelude.{None, Option, Some}
use Rattle.octets.specs.Parts.{part}
use Rattle.octets.specs.Pick.{pick}
use Rattle.octets.proofs.Pick.{pick_ne, pick_same, pick_both}
use Rattle.link.specs.Stored.{state_of}
use Rattle.link.specs.declared.state.LinkState.{LinkState}
use Rattle.sheet.specs.Walk.{verdict_of}
use Rattle.sheet.specs.declared.walk.Layout.{Layout}
use Rattle.slave.specs.Answers.{on_state}
use Rattle.slave.specs.Exchange.{Left, outcome_for, exchanged, exchange_of, Running}
use Rattle.slave.proofs.Again.{runs_on}
use Rattle.slave.proofs.Order.{on_valid, on_state_lem}
use Rattle.replay.specs.Replay.{Replayed, replayed, replay_of}
use Rattle.replay.specs.Trace.{Traced, record_size, records_of}
use Rattle.slave.specs.declared.answers.Answer.{Answer}
use Rattle.replay.proofs.Forms.{checked_short}
use Rattle.replay.proofs.Steps.{is_exchanged}
use Rattle.law.specs.Sheet.{allows}
use Rattle.law.proofs.Complete.{complete}
use Rattle.demands.specs.Replays.{calls_of, Alike, Playable, ReplayPlays, EachAnswered, RecordsAreAnswered, SecretsInWholeReplay, RefusedReplayWritesNothing}
use Rattle.demands.specs.Sequences.{call_of, run_of}
use Rattle.demands.proofs.Agreed.{traces_have_replies}
use Rattle.demands.proofs.Lengths.{memory_keeps}
use Rattle.octets.proofs.Overlaid.{part_length}
use Rattle.demands.proofs.Reached.{secrets_in_replay}
use Rattle.demands.proofs.Refusals.{by_sheet, by_state}
use Rattle.demands.proofs.Replays.{Played, ended, differed, agreed, played}

pub replay_plays : ReplayPlays
unfolding replay_of
replay_plays sheet state memory trace lay st p short formed =
    on_valid _ _ _ _ p.valid ∙ on_state_lem _ _ _ _ p.held
    ∙ pick_same _ _ p.whole ∙ pick_ne _ _ p.on ∙ pick_same _ _ (ap (λ (x : Answer). x.number) (checked_short lay.l trace short) ∙ formed)

-- an exchange of a whole record is answered, and leaves such a start again
module _ (sheet state memory command reply : List ℕ) (lay : Layout) (st : LinkState) (p : Playable sheet state memory lay st)
    (asked : length command ≡ lay.l) (lent : length reply ≡ lay.l) where
  run : Running state lay st
  run = record { held = p.held; on = p.on }

  answers : exchange_of sheet state memory command reply ≡ exchanged sheet lay st memory command
  answers = is_exchanged sheet state memory command reply lay p.valid st run p.whole asked lent

  answered_zero : (exchange_of sheet state memory command reply).answer.number ≡ 0
  unfolding exchanged
  answered_zero = ap (λ (x : Left). x.answer.number) answers

  pub again : Playable sheet (exchange_of sheet state memory command reply).state (exchange_of sheet state memory command reply).memory lay
      (outcome_for sheet lay st command).next
  again =
      let next = runs_on sheet state memory command lay st p.valid run in
      record {
        valid = p.valid;
        held = ap (λ (x : Left). state_of x.state lay.l lay.tolerance) answers ∙ next.held;
        whole = memory_keeps sheet state memory command reply ∙ p.whole;
        on = next.on;
      }

each_answered : (sheet : List ℕ) (lay : Layout) (n : ℕ) (rest : List ℕ) → n * record_size lay.l ≤ length rest
    → (state memory : List ℕ) (st : LinkState) → Playable sheet state memory lay st
    → EachAnswered (run_of sheet state memory (calls_of (records_of lay.l n rest)))
unfolding records_of run_of call_of
each_answered sheet lay zero rest h state memory st p = tt
each_answered sheet lay (suc n) rest h state memory st p =
    let m = suc-mul n (record_size lay.l) in
    let d = length-drop (record_size lay.l) rest in
    let asked : length (part rest 1 lay.l) ≡ lay.l = part_length rest 1 lay.l (omega arith) in
    let lent : length (part rest (1 + lay.l) lay.l) ≡ lay.l = part_length rest (1 + lay.l) lay.l (omega arith) in (
      answered_zero sheet state memory _ _ lay st p asked lent,
      each_answered sheet lay n (drop (record_size lay.l) rest) (omega arith) _ _ _ (again sheet state memory _ _ lay st p asked lent),
    )

pub records_are_answered : RecordsAreAnswered
records_are_answered sheet state memory trace lay st p =
    each_answered sheet lay (length trace / record_size lay.l) trace (div-mul-le_self (length trace) (record_size lay.l)) state memory st p

-- two replays that go by one test, or by one state record, are alike where each way is
module _ (m₁ m₂ : List ℕ) where
  by_test : (b : Bool) {x y u w : Replayed} → Alike m₁ m₂ x u → Alike m₁ m₂ y w → Alike m₁ m₂ (pick b x y) (pick b u w)
  unfolding pick
  by_test true p q = p
  by_test false p q = q

  by_held : (h : Option LinkState) {x u : Replayed} {f g : LinkState → Replayed} → Alike m₁ m₂ x u → ((st : LinkState) → Alike m₁ m₂ (f st) (g st))
      → Alike m₁ m₂ (on_state h x f) (on_state h u g)
  unfolding on_state
  by_held (Some st) p q = q st
  by_held None p q = p

  -- a refusal writes nothing
  refused : (answer : Answer) (state : List ℕ) → Alike m₁ m₂ (replayed answer state m₁) (replayed answer state m₂)
  refused answer state = record { answers = refl; states = refl; kept = λ i e. e }

pub secrets_in_whole_replay : SecretsInWholeReplay
unfolding replay_of
secrets_in_whole_replay h w state m₁ m₂ hidden trace =
    let v = complete h w in
    subst₂ (λ (r₁ r₂ : Replayed). Alike m₁ m₂ r₁ r₂) (sym (on_valid _ _ _ _ v)) (sym (on_valid _ _ _ _ v))
    (by_held m₁ m₂ (state_of state h.l (allows h)) (refused m₁ m₂ _ state)
    (λ st.
    subst₂ (λ (r₁ r₂ : Replayed). Alike m₁ m₂ r₁ r₂) (sym (pick_same _ _ hidden.whole₁)) (sym (pick_same _ _ hidden.whole₂))
    (by_test m₁ m₂ _ (refused m₁ m₂ _ state)
    (by_test m₁ m₂ _ (refused m₁ m₂ _ state)
    (secrets_in_replay h w state m₁ m₂ hidden h.l 0 _ (traces_have_replies h.l trace)).alike))))

-- records that are played are told with 0 or 34
pub told_of : (sheet : List ℕ) (l : ℕ) {k : ℕ} {state memory : List ℕ} {ts front : List Traced} {r : Replayed} → Played sheet l k state memory ts front r
    → (r.answer.number ≡ 0 → ⊥) → (r.answer.number ≡ 34 → ⊥) → ⊥
told_of sheet l ended n m = n refl
told_of sheet l (differed w h) n m = m refl
told_of sheet l (agreed e p) n m = told_of sheet l p n m

-- what a replay that is refused leaves
abbrev Untouched : List ℕ → List ℕ → Replayed → Type 0
Untouched state memory r = (r.answer.number ≡ 0 → ⊥) → (r.answer.number ≡ 34 → ⊥) → (r.state ≡ state) × (r.memory ≡ memory)

pub refused_replay_writes_nothing : RefusedReplayWritesNothing
unfolding replay_of
refused_replay_writes_nothing sheet state memory trace =
    by_sheet (Untouched state memory) (verdict_of sheet) _ _ (λ fault place n m. (refl, refl))
    (λ lay v.
    by_state (Untouched state memory) (state_of state lay.l lay.tolerance) _ _ (λ n m. (refl, refl))
    (λ st h.
    pick_both (Untouched state memory) _ (λ n m. (refl, refl))
    (pick_both (Untouched state memory) _ (λ n m. (refl, refl))
    (pick_both (Untouched state memory) _ (λ n m. (refl, refl))
    (λ n m. absurd (told_of sheet lay.l (played sheet lay.l 0 state memory _ (traces_have_replies lay.l trace)) n m))))))
