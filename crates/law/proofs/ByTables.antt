-- For every input, what meets the promise of a call is what the tables say, and nothing else is.
use mathlib.Core.Logic.{◌⊎◌, inl, inr, ⊎_elim, ◌↔◌}
use mathlib.Core.Path.{◌≡◌, refl, sym, ap, subst, ◌∙◌}
use mathlib.Core.List.{List, []}
use Prim.Native.Nat.{ℕ}
use Rattle.std.specs.Prelude.{Ok, Err}
use Rattle.replay.specs.Replay.{replay_of}
use Rattle.sheet.specs.Faults.{number_of}
use Rattle.sheet.specs.Told.{Verdict, faulty}
use Rattle.sheet.specs.Walk.{verdict_of}
use Rattle.sheet.specs.declared.records.Fault.{Fault}
use Rattle.slave.specs.Answers.{sheet_answer}
use Rattle.slave.specs.Calls.{reset_of, enable_of, turn_of}
use Rattle.slave.specs.Exchange.{exchange_of}
use Rattle.slave.proofs.Order.{on_faulty}
use Rattle.type24.specs.Packed.{packed, PackedAfter, packed_after, PackedLeft, packed_left, lengths_of, PackedReplay, packed_replay}
use Rattle.law.specs.Words.{Every}
use Rattle.law.specs.Sheet.{Sheet, WellFormed, IsOctet, sheet_octets}
use Rattle.law.specs.Faults.{FirstFault}
use Rattle.law.specs.Calls.{Result, result, sheet_told, lengths, reset, enable, exchange, turn}
use Rattle.law.specs.Trace.{Form, HasForm, replay}
use Rattle.law.specs.ByTables.{host_has, ByLaw, OneReading, ByTables}
use Rattle.law.proofs.Links.{good_five}
use Rattle.law.proofs.Calls.{leaves, leaves_state, exchange_good, reset_good, enable_good, turn_good}
use Rattle.law.proofs.Complete.{complete}
use Rattle.law.proofs.Numbered.{fault_is}
use Rattle.law.proofs.Octets.{in_octets_lem}
use Rattle.law.proofs.OneSheet.{one_sheet}
use Rattle.law.proofs.Place.{same_told, fault_told}
use Rattle.law.proofs.Plays.{leaves_replay, replay_good}
use Rattle.law.proofs.Sound.{sound}
use Rattle.law.proofs.Told.{differences_told}
use Rattle.law.proofs.Traces.{form_exists, one_form}

some_reading : (s : List ℕ) → Every IsOctet s → ((h : Sheet) × WellFormed h × (s ≡ sheet_octets h)) ⊎ ((f : ℕ) × (p : ℕ) × FirstFault s f p)
some_reading s o = go (verdict_of s) refl
  where
    go : (v : Verdict) → verdict_of s ≡ v → ((h : Sheet) × WellFormed h × (s ≡ sheet_octets h)) ⊎ ((f : ℕ) × (p : ℕ) × FirstFault s f p)
    go (Ok lay) e = let q = sound s lay o e in inl (q.0, q.1, q.2)
    go (Err w) e = inr (number_of w.fault, w.place, fault_told s w.fault w.place o e)

pub one_reading : OneReading
one_reading = record {
  some_reading = some_reading;
  one_sheet = one_sheet;
  one_fault = λ s f g p q o x y.
      let a = fault_is s f p o x in
      let b = fault_is s g q o y in
      let e = same_told (sym a.2 ∙ b.2) in
      (sym a.1 ∙ ap number_of e.0 ∙ b.1, e.1);
  never_both = λ h f p w x. let e = sym (complete h w) ∙ (fault_is (sheet_octets h) f p (in_octets_lem h w) x).2 in cc;
  some_form = λ l trace five. form_exists l five trace;
  one_form = λ l trace a b five. one_form l five trace a b;
}

-- what a call leaves, z, against the law: it is what the law allows, and the law allows nothing else
module _ (sheet : List ℕ) (o : Every IsOctet sheet) (z : Result) (Good : Sheet → Result → Type 0) (refusal : ℕ → ℕ → Result)
    (good : (h : Sheet) → WellFormed h → sheet ≡ sheet_octets h → Good h z)
    (only : (h : Sheet) → WellFormed h → (x y : Result) → Good h x → Good h y → x ≡ y)
    (bad : (f : Fault) (place : ℕ) → verdict_of sheet ≡ faulty f place → z ≡ refusal (number_of f) place) where
  allowed : ByLaw sheet Good refusal z
  allowed = go (verdict_of sheet) refl
    where
      go : (v : Verdict) → verdict_of sheet ≡ v → ByLaw sheet Good refusal z
      go (Ok lay) e = let q = sound sheet lay o e in inl (q.0, q.1, q.2, good q.0 q.1 q.2)
      go (Err w) e = inr (number_of w.fault, w.place, fault_told sheet w.fault w.place o e, bad w.fault w.place e)

  alone : (x : Result) → ByLaw sheet Good refusal x → x ≡ z
  alone x c =
      ⊎_elim
      (λ (a : (h : Sheet) × WellFormed h × (sheet ≡ sheet_octets h) × Good h x). only a.0 a.1 x z a.3 (good a.0 a.1 a.2))
      (λ (a : (f : ℕ) × (place : ℕ) × FirstFault sheet f place × (x ≡ refusal f place)).
      let k = fault_is sheet a.0 a.1 o a.2 in
      a.3 ∙ ap (λ (n : ℕ). refusal n a.1) (sym k.1) ∙ sym (bad k.0 a.1 k.2))
      c

  pub exactly : {P : Type 0} (x : Result) → (P → x ≡ z) → (x ≡ z → P) → P ↔ ByLaw sheet Good refusal x
  exactly x to from = (λ p. subst (ByLaw sheet Good refusal) (sym (to p)) allowed, λ c. from (alone x c))

-- a call that does one thing for a sheet
equal : (f : Sheet → Result) (h : Sheet) → WellFormed h → (x y : Result) → x ≡ f h → y ≡ f h → x ≡ y
equal f h w x y p q = p ∙ sym q

sheets_good : (h : Sheet) → WellFormed h → host_has (packed (sheet_answer (verdict_of (sheet_octets h)))) [] [] [] ≡ sheet_told h
unfolding sheet_answer
sheets_good h w = ap (λ (v : Verdict). host_has (packed (sheet_answer v)) [] [] []) (complete h w)

lengths_good : (h : Sheet) → WellFormed h → host_has (lengths_of (verdict_of (sheet_octets h))) [] [] [] ≡ lengths h
unfolding lengths_of
lengths_good h w = ap (λ (v : Verdict). host_has (lengths_of v) [] [] []) (complete h w)

sheets_bad : (sheet : List ℕ) (f : Fault) (place : ℕ) → verdict_of sheet ≡ faulty f place → host_has (packed (sheet_answer (verdict_of sheet))) [] [] [] ≡ result (number_of f) place [] [] []
unfolding sheet_answer
sheets_bad sheet f place e = ap (λ (v : Verdict). host_has (packed (sheet_answer v)) [] [] []) e

lengths_bad : (sheet : List ℕ) (f : Fault) (place : ℕ) → verdict_of sheet ≡ faulty f place → host_has (lengths_of (verdict_of sheet)) [] [] [] ≡ result 0 0 [] [] []
unfolding lengths_of
lengths_bad sheet f place e = ap (λ (v : Verdict). host_has (lengths_of v) [] [] []) e

resets_bad : (sheet s : List ℕ) (f : Fault) (place : ℕ) → verdict_of sheet ≡ faulty f place → leaves_state (reset_of sheet s) ≡ result (number_of f) place s [] []
unfolding reset_of sheet_answer
resets_bad sheet s f place e = ap leaves_state (on_faulty _ f place _ _ e) ∙ ap (λ (v : Verdict). result (sheet_answer v).number (sheet_answer v).place s [] []) e

enables_bad : (sheet s : List ℕ) (f : Fault) (place : ℕ) → verdict_of sheet ≡ faulty f place → leaves_state (enable_of sheet s) ≡ result (number_of f) place s [] []
unfolding enable_of sheet_answer
enables_bad sheet s f place e = ap leaves_state (on_faulty _ f place _ _ e) ∙ ap (λ (v : Verdict). result (sheet_answer v).number (sheet_answer v).place s [] []) e

turns_bad : (sheet old s : List ℕ) (f : Fault) (place : ℕ) → verdict_of sheet ≡ faulty f place → leaves_state (turn_of sheet old s) ≡ result (number_of f) place s [] []
unfolding turn_of sheet_answer
turns_bad sheet old s f place e = ap leaves_state (on_faulty _ f place _ _ e) ∙ ap (λ (v : Verdict). result (sheet_answer v).number (sheet_answer v).place s [] []) e

pub exchanges_bad : (sheet s m c r : List ℕ) (f : Fault) (place : ℕ) → verdict_of sheet ≡ faulty f place → leaves (exchange_of sheet s m c r) ≡ result (number_of f) place s m r
unfolding exchange_of sheet_answer
exchanges_bad sheet s m c r f place e = ap leaves (on_faulty _ f place _ _ e) ∙ ap (λ (v : Verdict). result (sheet_answer v).number (sheet_answer v).place s m r) e

replays_bad : (sheet s m trace : List ℕ) (f : Fault) (place : ℕ) → verdict_of sheet ≡ faulty f place → leaves_replay (replay_of sheet s m trace) ≡ result (number_of f) place s m []
unfolding replay_of sheet_answer
replays_bad sheet s m trace f place e = ap leaves_replay (on_faulty _ f place _ _ e) ∙ ap (λ (v : Verdict). result (sheet_answer v).number (sheet_answer v).place s m []) e

abbrev Replays : List ℕ → List ℕ → List ℕ → Sheet → Result → Type 0
Replays s m trace h x = (form : Form) × HasForm h.l trace form × (x ≡ replay h s m trace form)

replays_good : (sheet s m trace : List ℕ) (h : Sheet) → WellFormed h → sheet ≡ sheet_octets h → Replays s m trace h (leaves_replay (replay_of sheet s m trace))
replays_good sheet s m trace h w e =
    let f = form_exists h.l (good_five h.pdu h.l w.l) trace in
    (f.0, f.1, ap (λ (x : List ℕ). leaves_replay (replay_of x s m trace)) e ∙ replay_good h w s m trace f.0 f.1)

replays_only : (s m trace : List ℕ) (h : Sheet) → WellFormed h → (x y : Result) → Replays s m trace h x → Replays s m trace h y → x ≡ y
replays_only s m trace h w x y p q = p.2 ∙ ap (replay h s m trace) (one_form h.l (good_five h.pdu h.l w.l) trace p.0 q.0 p.1 q.1) ∙ sym q.2

pub by_tables : ByTables
by_tables = record {
  sheets = λ sheet a o. exactly sheet o (host_has (packed (sheet_answer (verdict_of sheet))) [] [] []) (λ h x. x ≡ sheet_told h) (λ f place. result f place [] [] [])
      (λ h w e. ap (λ (x : List ℕ). host_has (packed (sheet_answer (verdict_of x))) [] [] []) e ∙ sheets_good h w) (equal sheet_told) (sheets_bad sheet)
      (host_has a [] [] []) (λ p. ap (λ (n : ℕ). host_has n [] [] []) p) (λ p. ap (λ (x : Result). x.answer) p);
  lengths_told = λ sheet a o. exactly sheet o (host_has (lengths_of (verdict_of sheet)) [] [] []) (λ h x. x ≡ lengths h) (λ f place. result 0 0 [] [] [])
      (λ h w e. ap (λ (x : List ℕ). host_has (lengths_of (verdict_of x)) [] [] []) e ∙ lengths_good h w) (equal lengths) (lengths_bad sheet)
      (host_has a [] [] []) (λ p. ap (λ (n : ℕ). host_has n [] [] []) p) (λ p. ap (λ (x : Result). x.answer) p);
  resets = λ sheet s a s' o. exactly sheet o (leaves_state (reset_of sheet s)) (λ h x. x ≡ reset h s) (λ f place. result f place s [] [])
      (λ h w e. ap (λ (x : List ℕ). leaves_state (reset_of x s)) e ∙ reset_good h w s) (equal (λ h. reset h s)) (resets_bad sheet s)
      (host_has a s' [] []) (λ p. ap (λ (x : PackedAfter). host_has x.answer x.state [] []) p) (λ p. ap (λ (x : Result). packed_after x.answer x.state) p);
  enables = λ sheet s a s' o. exactly sheet o (leaves_state (enable_of sheet s)) (λ h x. x ≡ enable h s) (λ f place. result f place s [] [])
      (λ h w e. ap (λ (x : List ℕ). leaves_state (enable_of x s)) e ∙ enable_good h w s) (equal (λ h. enable h s)) (enables_bad sheet s)
      (host_has a s' [] []) (λ p. ap (λ (x : PackedAfter). host_has x.answer x.state [] []) p) (λ p. ap (λ (x : Result). packed_after x.answer x.state) p);
  turns = λ sheet old s a s' o. exactly sheet o (leaves_state (turn_of sheet old s)) (λ h x. x ≡ turn h old s) (λ f place. result f place s [] [])
      (λ h w e. ap (λ (x : List ℕ). leaves_state (turn_of x old s)) e ∙ turn_good h w old s) (equal (λ h. turn h old s)) (turns_bad sheet old s)
      (host_has a s' [] []) (λ p. ap (λ (x : PackedAfter). host_has x.answer x.state [] []) p) (λ p. ap (λ (x : Result). packed_after x.answer x.state) p);
  exchanges = λ sheet s m c r a s' m' r' o. exactly sheet o (leaves (exchange_of sheet s m c r)) (λ h x. x ≡ exchange h s m c r) (λ f place. result f place s m r)
      (λ h w e. ap (λ (x : List ℕ). leaves (exchange_of x s m c r)) e ∙ exchange_good h w s m c r) (equal (λ h. exchange h s m c r)) (exchanges_bad sheet s m c r)
      (host_has a s' m' r') (λ p. ap (λ (x : PackedLeft). host_has x.answer x.state x.memory x.reply) p)
      (λ p. ap (λ (x : Result). packed_left x.answer x.state x.memory x.reply) p);
  replays = λ sheet s m trace a s' m' o. exactly sheet o (leaves_replay (replay_of sheet s m trace)) (Replays s m trace) (λ f place. result f place s m [])
      (replays_good sheet s m trace) (replays_only s m trace) (replays_bad sheet s m trace)
      (host_has a s' m' []) (λ p. ap (λ (x : PackedReplay). host_has x.answer x.state x.memory []) p)
      (λ p. ap (λ (x : Result). packed_replay x.answer x.state x.memory) p);
  differences = λ first second lent a list o n. differences_told first second lent o n a list;
}
