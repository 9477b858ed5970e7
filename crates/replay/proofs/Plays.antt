-- The replay's definition, record by record.
--     command_whole, reply_whole     where a record is whole, its parts have L octets each
--     Handed                         its parts as they are handed out
--     play_differs                   a record whose reply is another ends it
--     play_agrees                    and one whose reply is the same leads to the next
--     one_more, one_whole            where octets are left, a record is, and it is whole
--     one_handed                     and so are its parts
use mathlib.Core.List.{List, ◌∷◌}
use mathlib.Core.Path.{◌≡◌, refl, sym, ap, ◌∙◌}
use Prim.Native.Nat.{ℕ, zero, suc, ◌+◌, ◌*◌, ◌/◌, ◌<◌, ◌≤◌}
use native.Mathlib.Nat.{mul-div_cancel, suc-mul}
use native.Mathlib.Omega.{arith}
use lib.ListN.{length, drop}
use lib.Seq.{drop-drop}
use Rattle.octets.proofs.Pick.{pick_lt, pick_ge}
use Rattle.slave.specs.Exchange.{exchange_of}
use Rattle.slave.specs.Wanted.{Stepped, stepped_of}
use Rattle.replay.specs.Replay.{replayed, on_step, play_of}
use Rattle.replay.specs.Trace.{record_size, command_at, reply_at, traced, records_of, traced_of}
use Rattle.replay.proofs.Steps.{part_whole}
use Rattle.slave.specs.Answers.{told}

-- the record at a place
module _ (l : ℕ) (trace : List ℕ) (at : ℕ) where
  -- the first of the records from there on has its parts
  first_record : (m : ℕ) → records_of l (suc m) (drop at trace) ≡ traced (command_at l trace at) (reply_at l trace at) ∷ records_of l m (drop (at + record_size l) trace)
  unfolding records_of command_at reply_at
  first_record m = ap (λ (rest : List ℕ). traced (command_at l trace at) (reply_at l trace at) ∷ records_of l m rest) (drop-drop (record_size l) at trace)

  module _ (h : at + record_size l ≤ length trace) where
    pub command_whole : length (command_at l trace at) ≡ l
    unfolding command_at
    command_whole = part_whole trace at 1 l (omega arith)

    pub reply_whole : length (reply_at l trace at) ≡ l
    unfolding reply_at
    reply_whole = part_whole trace at (1 + l) l (omega arith)

-- its parts as they are handed out
pub record Handed (l : ℕ) (trace : List ℕ) (at : ℕ) (command reply : List ℕ) : Type 0 where
  pub sent : command ≡ command_at l trace at
  pub came : reply ≡ reply_at l trace at
  pub asked : length command ≡ l
  pub lent : length reply ≡ l

-- and what its exchange leads to, where n records are left, it and m more
module _ (sheet trace : List ℕ) (l k at : ℕ) (state memory : List ℕ) (x : Stepped) {n m : ℕ} (more : n ≡ suc m) {command reply : List ℕ}
    (sent : command ≡ command_at l trace at) (came : reply ≡ reply_at l trace at) (e : x ≡ stepped_of l state memory reply (exchange_of sheet state memory command reply)) where
  opened : play_of sheet l k state memory (records_of l n (drop at trace))
      ≡ on_step l k x (λ s r. play_of sheet l (suc k) s r (records_of l m (drop (at + record_size l) trace)))
  unfolding play_of
  opened =
      ap (play_of sheet l k state memory) (ap (λ (i : ℕ). records_of l i (drop at trace)) more ∙ first_record l trace at m)
      ∙ ap (λ (y : Stepped). on_step l k y (λ s r. play_of sheet l (suc k) s r (records_of l m (drop (at + record_size l) trace))))
      (sym (e ∙ (λ i. stepped_of l state memory (came i) (exchange_of sheet state memory (sent i) (came i)))))

  pub play_differs : x.at < l → play_of sheet l k state memory (records_of l n (drop at trace)) ≡ replayed (told 34 (64 * k + x.at)) x.state x.memory
  unfolding on_step
  play_differs h = opened ∙ pick_lt _ _ h

  pub play_agrees : l ≤ x.at → {to : ℕ} → to ≡ at + record_size l
      → play_of sheet l k state memory (records_of l n (drop at trace)) ≡ play_of sheet l (k + 1) x.state x.memory (records_of l m (drop to trace))
  unfolding on_step
  play_agrees h {to} behind =
      let s : suc k ≡ k + 1 = omega arith in
      opened ∙ pick_ge _ _ h ∙ (λ i. play_of sheet l (s i) x.state x.memory (records_of l m (drop (sym behind i) trace)))

-- where octets are left of m records, there is a record more
pub one_more : (n at m s : ℕ) → n ≡ at + m * s → at < n → (p : ℕ) × (m ≡ suc p) × (n ≡ at + s + p * s)
one_more n at zero s e h = absurd (let z : ⊥ = omega arith in z)
one_more n at (suc p) s e h = (p, refl, (let q = suc-mul p s in omega arith))

-- and it is whole
pub one_whole : (n at m s : ℕ) → n ≡ at + m * s → at < n → at + s ≤ n
one_whole n at m s e h = let q = one_more n at m s e h in omega (arith, q.2)

one_inside : (l : ℕ) (trace : List ℕ) (at m : ℕ) → length trace ≡ at + m * record_size l → at < length trace → at + record_size l ≤ length trace
one_inside l trace at m e h = one_whole (length trace) at m (record_size l) e h

pub one_handed : (l : ℕ) (trace : List ℕ) (at m : ℕ) {command reply : List ℕ} → length trace ≡ at + m * record_size l → at < length trace
    → command ≡ command_at l trace at → reply ≡ reply_at l trace at → Handed l trace at command reply
one_handed l trace at m e h sent came =
    let w = one_inside l trace at m e h in
    record {
      sent = sent;
      came = came;
      asked = ap (λ (s : List ℕ). length s) sent ∙ command_whole l trace at w;
      lent = ap (λ (s : List ℕ). length s) came ∙ reply_whole l trace at w;
    }

-- a trace of n records has n of them
pub traced_all : (l n : ℕ) (trace : List ℕ) → length trace ≡ n * record_size l → traced_of l trace ≡ records_of l n trace
traced_all l n trace e = ap (λ (m : ℕ). records_of l m trace) (ap (λ (m : ℕ). m / record_size l) e ∙ mul-div_cancel n {n = record_size l} (omega arith))

-- where no octet is left, no record is
pub play_end : (sheet trace : List ℕ) (l k at : ℕ) (state memory : List ℕ) (m : ℕ) → length trace ≡ at + m * record_size l → length trace ≤ at
    → play_of sheet l k state memory (records_of l m (drop at trace)) ≡ replayed (told 0 k) state memory
unfolding play_of records_of
play_end sheet trace l k at state memory zero e h = refl
play_end sheet trace l k at state memory (suc p) e h =
    absurd (let q = suc-mul p (record_size l) in let z : ⊥ = omega arith in z)
