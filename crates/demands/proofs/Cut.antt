-- Request 6: a replay cut in two.
use mathlib.Core.Bool.{Bool, true, false}
use mathlib.Core.Path.{◌≡◌, refl, sym, ap, ap₂, ◌∙◌}
use mathlib.Core.List.{List, [], ◌∷◌, ◌++◌}
use Prim.Native.Nat.{ℕ, zero, suc, ◌+◌, ◌*◌, ◌/◌, ◌≤◌}
use native.Mathlib.Nat.{suc-mul, suc-add, mul-div_cancel, add-mul-div_right}
use native.Mathlib.Omega.{arith}
use lib.ListN.{length, take, drop, length-append, length-drop}
use lib.Seq.{take-append-le, drop-append-le}
use Rattle.std.proofs.lemmas.List.{nil_from_length}
use Rattle.octets.specs.Parts.{part}
use Rattle.octets.specs.Pick.{pick}
use Rattle.octets.proofs.Pick.{pick_yes, pick_no}
use Rattle.slave.specs.Wanted.{stepped_of}
use Rattle.replay.specs.Replay.{Replayed, on_step, play_of}
use Rattle.replay.specs.Trace.{Traced, traced, record_size, records_of, traced_of}
use Rattle.demands.specs.Replays.{goes_on, CutInTwo}
use Rattle.demands.specs.Writes.{ours}

-- what goes on behind a choice of two goes on behind each
behind_both : (b : Bool) (x y whole : Replayed) (next : List ℕ → List ℕ → Replayed) → x ≡ goes_on x next → whole ≡ goes_on y next
    → pick b x whole ≡ goes_on (pick b x y) next
unfolding pick
behind_both true x y whole next e f = e
behind_both false x y whole next e f = f

cut_records : (sheet state memory : List ℕ) (l k : ℕ) (ts us : List Traced)
    → play_of sheet l k state memory (ts ++ us) ≡ goes_on (play_of sheet l k state memory ts) (λ s n. play_of sheet l (k + length ts) s n us)
unfolding play_of on_step
cut_records sheet state memory l k [] us =
    let e : k ≡ k + 0 = omega arith in
    ap (λ (i : ℕ). play_of sheet l i state memory us) e ∙ sym (pick_yes _ _ refl)
cut_records sheet state memory l k (t ∷ ts) us =
    let x = stepped_of l state memory t.reply (ours sheet state memory t) in
    let e : suc k + length ts ≡ k + suc (length ts) = omega arith in
    behind_both _ _ _ _ (λ s n. play_of sheet l (k + suc (length ts)) s n us) (sym (pick_no _ _ refl))
    (cut_records sheet x.state x.memory l (suc k) ts us
    ∙ ap (λ (i : ℕ). goes_on (play_of sheet l (suc k) x.state x.memory ts) (λ s n. play_of sheet l i s n us)) e)

-- a part within the first of two lists is a part of that list
part_front : (t u : List ℕ) (at n : ℕ) → at + n ≤ length t → part (t ++ u) at n ≡ part t at n
unfolding part
part_front t u at n h =
    let d = length-drop at t in
    ap (take n) (drop-append-le at t u (omega arith)) ∙ take-append-le n (drop at t) u (omega arith)

cut_octets : (l m n : ℕ) (t u : List ℕ) → length t ≡ m * record_size l → records_of l (m + n) (t ++ u) ≡ records_of l m t ++ records_of l n u
unfolding records_of
cut_octets l zero n t u e =
    let z : 0 + n ≡ n = omega arith in
    ap₂ (λ (i : ℕ) (x : List ℕ). records_of l i (x ++ u)) z (nil_from_length t (omega arith))
cut_octets l (suc m) n t u e =
    let s = suc-mul m (record_size l) in
    let d = length-drop (record_size l) t in
    ap (λ (i : ℕ). records_of l i (t ++ u)) (suc-add m n)
    ∙ (λ i.
    traced (part_front t u 1 l (omega arith) i) (part_front t u (1 + l) l (omega arith) i)
    ∷ records_of l (m + n) (drop-append-le (record_size l) t u (omega arith) i))
    ∙ ap (λ (xs : List Traced). traced (part t 1 l) (part t (1 + l) l) ∷ xs) (cut_octets l m n (drop (record_size l) t) u (omega arith))

-- the number of records of a front of whole ones, and of the whole
module _ (l m : ℕ) (t : List ℕ) (e : length t ≡ m * record_size l) where
  front_records : length t / record_size l ≡ m
  front_records = ap (λ (n : ℕ). n / record_size l) e ∙ mul-div_cancel m (omega arith)

  whole_records_lem : (u : List ℕ) → length (t ++ u) / record_size l ≡ m + length u / record_size l
  whole_records_lem u =
      let a = length-append t u in
      let f : length (t ++ u) ≡ length u + m * record_size l = omega arith in
      ap (λ (n : ℕ). n / record_size l) f ∙ add-mul-div_right (length u) m (omega arith) ∙ omega arith

  cut_traced : (u : List ℕ) → traced_of l (t ++ u) ≡ traced_of l t ++ traced_of l u
  cut_traced u =
      ap (λ (n : ℕ). records_of l n (t ++ u)) (whole_records_lem u)
      ∙ cut_octets l m (length u / record_size l) t u e
      ∙ ap (λ (n : ℕ). records_of l n t ++ traced_of l u) (sym front_records)

records_count : (l n : ℕ) (rest : List ℕ) → length (records_of l n rest) ≡ n
unfolding records_of
records_count l zero rest = refl
records_count l (suc n) rest = ap suc (records_count l n (drop (record_size l) rest))

pub cut_in_two : CutInTwo
cut_in_two = record {
  the_records = cut_records;
  the_octets = cut_octets;
  the_trace = λ sheet state memory l k m t u e.
      ap (play_of sheet l k state memory) (cut_traced l m t e u)
      ∙ cut_records sheet state memory l k (traced_of l t) (traced_of l u)
      ∙ ap (λ (i : ℕ). goes_on (play_of sheet l k state memory (traced_of l t)) (λ s n. play_of sheet l (k + i) s n (traced_of l u)))
      (records_count l (length t / record_size l) t ∙ front_records l m t e);
}
