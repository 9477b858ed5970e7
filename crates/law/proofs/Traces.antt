-- The form of a trace.
--     form_exists                 every trace has one
--     form_clean, form_faulty     the machine finds it
--     form_records                and cuts its records
--     one_form                    so a trace has one form alone
use mathlib.Core.Logic.{⊎_elim}
use mathlib.Core.Path.{◌≡◌, refl, sym, ap, ap₂, subst, ◌∙◌}
use mathlib.Core.List.{List, [], ◌∷◌, ◌++◌, map, append_assoc, append-nil}
use Prim.Native.Nat.{ℕ, zero, suc, ◌+◌, ◌*◌, ◌≤◌, ◌<◌}
use native.Mathlib.Nat.{suc-mul, zero-mul, mul_comm}
use native.Mathlib.Omega.{arith}
use lib.ListN.{length, get_or, take, drop, length-append, length-drop, take-append-drop}
use lib.Seq.{drop-drop, drop_at, take_at, drop-cons}
use Rattle.octets.specs.Parts.{part}
use Rattle.octets.proofs.Overlaid.{part_length}
use Rattle.replay.specs.Trace.{traced, record_size, fault_of, form_from, form_of, records_of, traced_of}
use Rattle.slave.specs.Answers.{told}
use Rattle.replay.specs.Trace as machine
use Rattle.slave.specs.declared.answers.Answer.{Answer}
use Rattle.replay.proofs.Forms.{form_end, form_bad, form_on}
use Rattle.replay.proofs.Plays.{traced_all}
use Rattle.law.specs.Words.{Every, joined}
use Rattle.law.specs.Sheet.{FiveLengths}
use Rattle.law.specs.Trace.{Traced, kind_for, traced_octets, Whole, TracedFault, Form, whole_records, fault, HasForm}
use Rattle.law.proofs.Running.{length_joined}
use Rattle.law.proofs.TraceKinds.{fault_none, fault_back, fault_found}

-- a record of the trace, as the machine has it
abbrev pub as_traced : Traced → machine.Traced
as_traced t = traced t.command t.reply

abbrev cut_at : ℕ → List ℕ → Traced
cut_at l rest = record { command = part rest 1 l; reply = part rest (1 + l) l }

module _ (l : ℕ) where
  whole_long : (t : Traced) → Whole l t → length (traced_octets l t) ≡ record_size l
  whole_long t w = let a = length-append t.command t.reply in let b = w.0 in let c = w.1 in omega arith

  -- a whole record at the front, cut
  cut_front : (rest : List ℕ) → get_or rest 0 0 ≡ kind_for l → record_size l ≤ length rest → rest ≡ traced_octets l (cut_at l rest) ++ drop (record_size l) rest
  unfolding part
  cut_front rest e h =
      let front : rest ≡ get_or rest 0 0 ∷ drop 1 rest = drop-cons rest 0 0 (omega arith) in
      let two : drop (1 + l) rest ≡ take l (drop (1 + l) rest) ++ drop (record_size l) rest =
      sym (take-append-drop l (drop (1 + l) rest)) ∙ ap (λ (t : List ℕ). take l (drop (1 + l) rest) ++ t) (drop-drop l (1 + l) rest ∙ ap (λ (i : ℕ). drop i rest) (let z : 1 + l + l ≡ record_size l = omega arith in z)) in
      let one : drop 1 rest ≡ take l (drop 1 rest) ++ (take l (drop (1 + l) rest) ++ drop (record_size l) rest) =
      sym (take-append-drop l (drop 1 rest)) ∙ ap (λ (t : List ℕ). take l (drop 1 rest) ++ t) (drop-drop l 1 rest ∙ two) in
      front ∙ ap₂ ◌∷◌ e one ∙ ap (λ (t : List ℕ). kind_for l ∷ t) (sym (append_assoc (take l (drop 1 rest)) (take l (drop (1 + l) rest)) (drop (record_size l) rest)))

  cut_whole : (rest : List ℕ) → record_size l ≤ length rest → Whole l (cut_at l rest)
  cut_whole rest h = (part_length rest 1 l (omega arith), part_length rest (1 + l) l (omega arith))

  from_front : (trace : List ℕ) → drop (0 * record_size l) trace ≡ trace
  from_front trace = ap (λ (i : ℕ). drop i trace) (zero-mul (record_size l))

  module _ (five : FiveLengths l) where
    -- a form with one record more at the front
    one_before : (t : Traced) → Whole l t → (rest : List ℕ) → (form : Form) × HasForm l rest form → (form : Form) × HasForm l (traced_octets l t ++ rest) form
    one_before t w rest (whole_records ts, (all, e)) = (whole_records (t ∷ ts), ((w, all), ap (λ (x : List ℕ). traced_octets l t ++ x) e))
    one_before t w rest (fault f place, (ts, more, all, e, here, some, bad)) =
        let a = length-append (traced_octets l t) rest in (
          fault f (record_size l + place),
          (
            t ∷ ts,
            more,
            (w, all),
            ap (λ (x : List ℕ). traced_octets l t ++ x) e ∙ sym (append_assoc (traced_octets l t) (joined (traced_octets l) ts) more),
            (let b = whole_long t w in let z : record_size l + place + length more ≡ length (traced_octets l t ++ rest) = omega arith in z),
            some,
            bad,
          ),
        )

    exists : (n : ℕ) (trace : List ℕ) → length trace < n → (form : Form) × HasForm l trace form
    exists zero trace h = absurd (omega arith)
    exists (suc n) [] h = (whole_records [], (tt, refl))
    exists (suc n) (x ∷ xs) h =
        let trace : List ℕ = x ∷ xs in
        ⊎_elim
        (λ (q : (get_or trace 0 0 ≡ kind_for l) × (1 + 2 * l ≤ length trace)).
        let d = length-drop (record_size l) trace in
        subst (λ (s : List ℕ). (form : Form) × HasForm l s form) (sym (cut_front trace q.0 q.1))
        (one_before (cut_at l trace) (cut_whole trace q.1) (drop (record_size l) trace) (exists n (drop (record_size l) trace) (omega arith))))
        (λ (bad : TracedFault l trace (fault_of l trace)). (fault (fault_of l trace) 0, ([], trace, tt, refl, omega arith, omega arith, bad)))
        (fault_found l five trace)

    pub form_exists : (trace : List ℕ) → (form : Form) × HasForm l trace form
    form_exists trace = exists (suc (length trace)) trace (omega arith)

    module _ (trace : List ℕ) where
      -- record k and what stands behind it
      next_record : (k : ℕ) (t : Traced) (ts : List Traced) (rest : List ℕ) → Whole l t → drop (k * record_size l) trace ≡ (traced_octets l t ++ joined (traced_octets l) ts) ++ rest
          → drop (suc k * record_size l) trace ≡ joined (traced_octets l) ts ++ rest
      next_record k t ts rest w e =
          ap (λ (i : ℕ). drop i trace) (let s = suc-mul k (record_size l) in let z : suc k * record_size l ≡ k * record_size l + record_size l = omega arith in z)
          ∙ sym (drop-drop (record_size l) (k * record_size l) trace)
          ∙ ap (drop (record_size l)) (e ∙ append_assoc (traced_octets l t) (joined (traced_octets l) ts) rest)
          ∙ drop_at (traced_octets l t) (joined (traced_octets l) ts ++ rest) (record_size l) (whole_long t w)

      -- a whole record has no fault, and the form goes on behind it
      goes_on : (k n : ℕ) (t : Traced) (ts : List Traced) (rest : List ℕ) → Whole l t → drop (k * record_size l) trace ≡ (traced_octets l t ++ joined (traced_octets l) ts) ++ rest
          → form_from l trace k (suc n) ≡ form_from l trace (suc k) n
      goes_on k n t ts rest w e =
          let at = k * record_size l in
          let d = length-drop at trace in
          let a = ap length e ∙ length-append (traced_octets l t ++ joined (traced_octets l) ts) rest in
          let b = length-append (traced_octets l t) (joined (traced_octets l) ts) in
          let c = whole_long t w in
          form_on l trace k n (omega arith)
          (fault_none l five (drop at trace) (ap (λ (x : List ℕ). get_or x 0 0) e) (omega arith))

      clean_from : (ts : List Traced) (k n : ℕ) → Every (Whole l) ts → drop (k * record_size l) trace ≡ joined (traced_octets l) ts ++ []
          → length ts < n → form_from l trace k n ≡ told 0 0
      clean_from ts k zero all e h = absurd (omega arith)
      clean_from [] k (suc n) all e h = form_end l trace k (suc n) (let d = sym (length-drop (k * record_size l) trace) ∙ ap length e in omega arith)
      clean_from (t ∷ ts) k (suc n) all e h =
          goes_on k n t ts [] all.0 e ∙ clean_from ts (suc k) n all.1 (next_record k t ts [] all.0 e) (omega arith)

      faulty_from : (ts : List Traced) (rest : List ℕ) (f k n : ℕ) → Every (Whole l) ts → drop (k * record_size l) trace ≡ joined (traced_octets l) ts ++ rest
          → 1 ≤ length rest → TracedFault l rest f → length ts < n → form_from l trace k n ≡ told f ((k + length ts) * record_size l)
      faulty_from ts rest f k zero all e some bad h = absurd (omega arith)
      faulty_from [] rest f k (suc n) all e some bad h =
          let d = sym (length-drop (k * record_size l) trace) ∙ ap length e in
          let b = fault_back l five rest f bad in
          form_bad l trace k n (omega arith) f (ap (fault_of l) e ∙ b.0) b.1
          ∙ ap (λ (i : ℕ). told f (i * record_size l)) (let z : k ≡ k + 0 = omega arith in z)
      faulty_from (t ∷ ts) rest f k (suc n) all e some bad h =
          goes_on k n t ts rest all.0 e
          ∙ faulty_from ts rest f (suc k) n all.1 (next_record k t ts rest all.0 e) some bad (omega arith)
          ∙ ap (λ (i : ℕ). told f (i * record_size l)) (let z : suc k + length ts ≡ k + suc (length ts) = omega arith in z)

      long : (ts : List Traced) (rest : List ℕ) → Every (Whole l) ts → length (joined (traced_octets l) ts ++ rest) ≡ record_size l * length ts + length rest
      long ts rest all = length_joined (traced_octets l) (Whole l) (record_size l) whole_long ts rest all

      few : (ts : List Traced) → length ts ≤ record_size l * length ts
      few ts = let z : length ts ≤ (1 + 2 * l) * length ts = le_mul (length ts) (2 * l) in z
        where
          le_mul : (n k : ℕ) → n ≤ (1 + k) * n
          le_mul n k = let s = suc-mul k n in let z : 1 + k ≡ suc k = omega arith in subst (λ (i : ℕ). n ≤ i * n) (sym z) (omega arith)

      pub form_clean : (ts : List Traced) → HasForm l trace (whole_records ts) → form_of l trace ≡ told 0 0
      form_clean ts (all, e) =
          let e₀ : trace ≡ joined (traced_octets l) ts ++ [] = e ∙ sym (append-nil (joined (traced_octets l) ts)) in
          let a = ap length e₀ ∙ long ts [] all in
          let b = few ts in
          clean_from ts 0 (suc (length trace)) all (from_front trace ∙ e₀) (omega arith)

      pub form_faulty : (f place : ℕ) → HasForm l trace (fault f place) → (form_of l trace ≡ told f place) × (f ≡ 0 → ⊥)
      form_faulty f place (ts, rest, all, e, here, some, bad) =
          let a = ap length e ∙ long ts rest all in
          let b = few ts in
          let c = mul_comm (length ts) (record_size l) in (
            faulty_from ts rest f 0 (suc (length trace)) all (from_front trace ∙ e) some bad (omega arith)
                ∙ ap (told f) (let z : (0 + length ts) * record_size l ≡ length ts * record_size l = ap (λ (i : ℕ). i * record_size l) (let y : 0 + length ts ≡ length ts = omega arith in y) in z ∙ (let y : length ts * record_size l ≡ place = omega arith in y)),
            (fault_back l five rest f bad).1,
          )

    -- the records that the machine cuts from the front
    cut_all : (ts : List Traced) (rest : List ℕ) → Every (Whole l) ts → records_of l (length ts) (joined (traced_octets l) ts ++ rest) ≡ map as_traced ts
    unfolding records_of part
    cut_all [] rest all = refl
    cut_all (t ∷ ts) rest all =
        let w = all.0 in
        let more = joined (traced_octets l) ts ++ rest in
        let e : (traced_octets l t ++ joined (traced_octets l) ts) ++ rest ≡ traced_octets l t ++ more = append_assoc (traced_octets l t) (joined (traced_octets l) ts) rest in
        let c : take l (drop 1 (traced_octets l t ++ more)) ≡ t.command =
        ap (take l) (append_assoc t.command t.reply more) ∙ take_at t.command (t.reply ++ more) l w.0 in
        let r : take l (drop (1 + l) (traced_octets l t ++ more)) ≡ t.reply =
        ap (take l) (sym (drop-drop l 1 (traced_octets l t ++ more)) ∙ ap (drop l) (append_assoc t.command t.reply more) ∙ drop_at t.command (t.reply ++ more) l w.0)
        ∙ take_at t.reply more l w.1 in
        let b : drop (record_size l) (traced_octets l t ++ more) ≡ more = drop_at (traced_octets l t) more (record_size l) (whole_long t w) in
        ap (records_of l (suc (length ts))) e
        ∙ (λ i. traced (c i) (r i) ∷ records_of l (length ts) (b i))
        ∙ ap (λ (x : List machine.Traced). as_traced t ∷ x) (cut_all ts rest all.1)

    pub form_records : (trace : List ℕ) (ts : List Traced) → HasForm l trace (whole_records ts) → traced_of l trace ≡ map as_traced ts
    form_records trace ts (all, e) =
        let e₀ : trace ≡ joined (traced_octets l) ts ++ [] = e ∙ sym (append-nil (joined (traced_octets l) ts)) in
        let a = ap length e₀ ∙ long trace ts [] all in
        let c = mul_comm (length ts) (record_size l) in
        traced_all l (length ts) trace (omega arith) ∙ ap (records_of l (length ts)) e₀ ∙ cut_all ts [] all

    -- what is told of a form
    same_told : {a b c d : ℕ} → told a b ≡ told c d → (a ≡ c) × (b ≡ d)
    same_told e = (ap (λ (t : Answer). t.number) e, ap (λ (t : Answer). t.place) e)

    back : (ts : List Traced) → map (λ (t : machine.Traced). record { command = t.command; reply = t.reply }) (map as_traced ts) ≡ ts
    back [] = refl
    back (t ∷ ts) = ap (λ (x : List Traced). t ∷ x) (back ts)

    pub one_form : (trace : List ℕ) (a b : Form) → HasForm l trace a → HasForm l trace b → a ≡ b
    one_form trace (whole_records ts) (whole_records us) x y =
        ap whole_records (sym (back ts) ∙ ap (map (λ (t : machine.Traced). record { command = t.command; reply = t.reply })) (sym (form_records trace ts x) ∙ form_records trace us y) ∙ back us)
    one_form trace (whole_records ts) (fault f p) x y =
        let q = form_faulty trace f p y in absurd (q.1 (same_told (sym q.0 ∙ form_clean trace ts x)).0)
    one_form trace (fault f p) (whole_records ts) x y =
        let q = form_faulty trace f p x in absurd (q.1 (same_told (sym q.0 ∙ form_clean trace ts y)).0)
    one_form trace (fault f p) (fault g q) x y =
        let e = same_told (sym (form_faulty trace f p x).0 ∙ (form_faulty trace g q y).0) in
        ap₂ fault e.0 e.1
