-- Request 6: 0 is told exactly where every reply of our machine's run is the trace's.
use mathlib.Core.Path.{◌≡◌, refl, ap, ap₂, ◌∙◌}
use mathlib.Core.List.{List, ◌∷◌}
use Prim.Native.Nat.{ℕ, zero, suc, ◌+◌, ◌-◌, ◌*◌, ◌/◌, ◌≤◌}
use native.Mathlib.Nat.{suc-mul, div-mul-le_self}
use native.Mathlib.Omega.{arith}
use lib.ListN.{length, drop, length-drop}
use Rattle.slave.specs.Wanted.{differs_at}
use Rattle.slave.proofs.Differs.{differs_self}
use Rattle.replay.specs.Replay.{Replayed}
use Rattle.replay.specs.Trace.{Traced, record_size, records_of}
use Rattle.slave.specs.Answers.{told}
use Rattle.demands.specs.Replays.{calls_of, RepliesOf, run_replies, trace_replies, TracesHaveReplies, AgreesExactly}
use Rattle.demands.specs.Writes.{ours}
use Rattle.demands.specs.Sequences.{call_of, run_of}
use Rattle.octets.proofs.Overlaid.{part_length}
use Rattle.demands.proofs.Replays.{Played, ended, differed, agreed, played}

-- a replay that told 0 agreed at every record
all_agree : (sheet : List ℕ) (l : ℕ) {k : ℕ} {state memory : List ℕ} {ts front : List Traced} {r : Replayed} → Played sheet l k state memory ts front r
    → r.answer.number ≡ 0 → run_replies (run_of sheet state memory (calls_of ts)) ≡ trace_replies ts
unfolding run_of call_of
all_agree sheet l ended z = refl
all_agree sheet l (differed w h) z = absurd (omega arith)
all_agree sheet l (agreed e p) z = ap₂ (λ (x : List ℕ) (xs : List (List ℕ)). x ∷ xs) e (all_agree sheet l p z)

-- and one whose replies are all the trace's went to the end
to_the_end : (sheet : List ℕ) (l : ℕ) {k : ℕ} {state memory : List ℕ} {ts front : List Traced} {r : Replayed} → Played sheet l k state memory ts front r
    → run_replies (run_of sheet state memory (calls_of ts)) ≡ trace_replies ts → r.answer ≡ told 0 (k + length ts)
unfolding run_of call_of
to_the_end sheet l (ended {k = k}) q = ap (λ (n : ℕ). told 0 n) (let e : k ≡ k + 0 = omega arith in e)
to_the_end sheet l (differed {state = state} {memory = memory} {t = t} w h) q =
    let e : (ours sheet state memory t).reply ≡ t.reply = cc in
    let d : differs_at (ours sheet state memory t).reply t.reply ≡ length t.reply =
    ap (λ (x : List ℕ). differs_at x t.reply) e ∙ differs_self t.reply in
    absurd (omega arith)
to_the_end sheet l (agreed {k = k} {state = state} {memory = memory} {t = t} {ts = ts} e p) q =
    let tail : run_replies (run_of sheet (ours sheet state memory t).state (ours sheet state memory t).memory (calls_of ts)) ≡ trace_replies ts = cc in
    let n : suc k + length ts ≡ k + suc (length ts) = omega arith in
    to_the_end sheet l p tail ∙ ap (λ (n : ℕ). told 0 n) n

pub agrees_exactly : AgreesExactly
agrees_exactly sheet state memory l k ts w =
    let p = played sheet l k state memory ts w in
    (λ z. all_agree sheet l p z, λ q. to_the_end sheet l p q)

-- records that a trace has in whole have replies of l octets
records_reply : (l n : ℕ) (rest : List ℕ) → n * record_size l ≤ length rest → RepliesOf l (records_of l n rest)
unfolding records_of
records_reply l zero rest h = tt
records_reply l (suc n) rest h =
    let m = suc-mul n (record_size l) in
    let d : length (drop (record_size l) rest) ≡ length rest - record_size l = length-drop (record_size l) rest in
    (part_length rest (1 + l) l (omega arith), records_reply l n (drop (record_size l) rest) (omega arith))

pub traces_have_replies : TracesHaveReplies
traces_have_replies l trace = records_reply l (length trace / record_size l) trace (div-mul-le_self (length trace) (record_size l))
