-- Request 6: a replay is our machine's run over the agreeing records.
use mathlib.Core.Path.{◌≡◌, refl, sym, ap, ap₂, subst, ◌∙◌}
use mathlib.Core.List.{List, ◌∷◌}
use Prim.Native.Nat.{ℕ, suc, ◌+◌, ◌*◌, ◌/◌, ◌%◌, ◌≤◌, ◌<◌}
use native.Mathlib.Omega.{arith}
use lib.ListN.{length, get_or}
use Rattle.slave.specs.Wanted.{differs_at}
use Rattle.replay.specs.Replay.{Replayed}
use Rattle.replay.specs.Trace.{Traced}
use Rattle.demands.specs.Replays.{calls_of, Folded, ReplayIsFold}
use Rattle.demands.specs.Writes.{ours}
use Rattle.demands.specs.Sequences.{call_of, run_of, last_state, last_memory}
use Rattle.demands.proofs.Lengths.{reply_keeps}
use Rattle.demands.proofs.Replays.{differs_before, differs_there, Played, ended, differed, agreed, played}

-- a place that is told comes apart into the record's number and the octet
told_number : (k d : ℕ) → d < 64 → (64 * k + d) / 64 ≡ k + 0
told_number k d h = omega arith

told_octet : (k d : ℕ) → d < 64 → d ≡ (64 * k + d) % 64
told_octet k d h = omega arith

-- the memory that a replay leaves is that behind the agreeing records
pub memory_behind_lem : (sheet : List ℕ) (l : ℕ) {k : ℕ} {state memory : List ℕ} {ts front : List Traced} {r : Replayed} → Played sheet l k state memory ts front r
    → r.memory ≡ last_memory memory (run_of sheet state memory (calls_of front))
unfolding run_of call_of last_memory
memory_behind_lem sheet l ended = refl
memory_behind_lem sheet l (differed w h) = refl
memory_behind_lem sheet l (agreed e p) = memory_behind_lem sheet l p

folded : (sheet : List ℕ) (l : ℕ) → l ≤ 64 → {k : ℕ} {state memory : List ℕ} {ts front : List Traced} {r : Replayed} → Played sheet l k state memory ts front r
    → Folded sheet state memory k ts r front
unfolding run_of call_of last_state last_memory
folded sheet l most ended = record { last_state = refl; last_memory = refl; replies = refl; all = λ z. refl; otherwise = λ n. absurd (n refl) }
folded sheet l most (differed {k = k} {state = state} {memory = memory} {t = t} {ts = ts} w h) =
    let x = ours sheet state memory t in
    let d = differs_at x.reply t.reply in
    let small : d < 64 = omega arith in
    let o = told_octet k d small in
    record {
      last_state = refl;
      last_memory = refl;
      replies = refl;
      all = λ z. absurd (omega arith);
      otherwise = λ n. (
        refl,
        record {
          differing = t;
          behind = ts;
          parts = refl;
          number = told_number k d small;
          inside = subst (λ (i : ℕ). i < length t.reply) o (omega arith);
          before = λ i b. differs_before x.reply t.reply i (subst (λ (j : ℕ). i < j) (sym o) b);
          differs = λ same.
              differs_there x.reply t.reply (reply_keeps sheet state memory t.command t.reply) (omega arith)
              (subst (λ (j : ℕ). get_or x.reply j 0 ≡ get_or t.reply j 0) (sym o) same);
        },
      );
    }
folded sheet l most (agreed {k = k} {t = t} {ts = ts} {front = front} {r = r} e p) =
    let f = folded sheet l most p in
    record {
      last_state = f.last_state;
      last_memory = memory_behind_lem sheet l p;
      replies = ap₂ (λ (x : List ℕ) (xs : List (List ℕ)). x ∷ xs) e f.replies;
      all = λ z. ap (λ (xs : List Traced). t ∷ xs) (f.all z);
      otherwise = λ n.
          let q = (f.otherwise n).1 in
          let m : suc k + length front ≡ k + suc (length front) = omega arith in (
            (f.otherwise n).0,
            record {
              differing = q.differing;
              behind = q.behind;
              parts = ap (λ (xs : List Traced). t ∷ xs) q.parts;
              number = q.number ∙ m;
              inside = q.inside;
              before = q.before;
              differs = q.differs;
            },
          );
    }

pub replay_is_fold : ReplayIsFold
replay_is_fold sheet state memory l k ts most w = folded sheet l most (played sheet l k state memory ts w)
