-- Request 6: a trace cut in two, its form and its whole replay.
--     forms_join            the form of the whole is that of what is behind
--     replay_cut_in_two     and so is the replay, from where the first part ended
use mathlib.Core.Logic.{⊎_elim}
use mathlib.Core.Path.{◌≡◌, refl, sym, ap, subst, subst₂, ◌∙◌}
use mathlib.Core.Bool.{Bool, true, false, not}
use mathlib.Core.List.{List, [], ◌∷◌, ◌++◌}
use Prim.Native.Nat.{ℕ, zero, suc, ◌+◌, ◌*◌, ◌/◌, ◌≤◌, ◌<◌}
use native.Mathlib.Nat.{suc-mul, suc-add, add-mul, div-mul-le_self}
use native.Mathlib.Omega.{arith}
use borrow.Author.Tests.{eqb-true, eqb-false, ltb-false, not-false}
use lib.Dec.{eqb, ltb}
use lib.ListN.{length, get_or, drop, length-append, length-drop, get_or-append}
use lib.Seq.{drop-append-le, drop-append-add}
use Rattle.octets.specs.Parts.{part}
use Rattle.octets.specs.Pick.{pick}
use Rattle.octets.proofs.Cases.{eq_or_ne, lt_or_le}
use Rattle.octets.proofs.Pick.{pick_yes, pick_no, pick_ne, pick_ge, pick_le, pick_gt, pick_same, pick_both, passed}
use Rattle.link.specs.declared.state.LinkState.{LinkState}
use Rattle.sheet.specs.declared.walk.Layout.{Layout}
use Rattle.slave.specs.Wanted.{Stepped, stepped_of}
use Rattle.replay.specs.Replay.{Replayed, replayed, on_step, play_of, replay_of}
use Rattle.replay.specs.Trace.{Traced, traced, kind_length, record_size, fault_of, record_at, formed, form_from, form_of, records_of, traced_of, fault_named}
use Rattle.slave.specs.Answers.{told}
use Rattle.replay.specs.declared.form.Record.{Record}
use Rattle.replay.specs.declared.form.Record.TheVariants.{End, Whole, Bad}
use Rattle.slave.specs.declared.answers.Answer.{Answer}
use Rattle.replay.proofs.Forms.{form_end, form_bad, form_on}
use Rattle.demands.specs.Replays.{Playable, goes_on, FormsJoin, further, ReplayCutInTwo}
use Rattle.demands.specs.Writes.{ours}
use Rattle.demands.proofs.Cut.{cut_in_two}
use Rattle.octets.proofs.Overlaid.{part_length}
use Rattle.demands.proofs.Playing.{replay_plays, again}

-- the form y of what stands behind p octets, in the form x of the whole
abbrev Joined : ℕ → Answer → Answer → Type 0
Joined p x y = (y.number ≡ 0 → x.number ≡ 0) × ((y.number ≡ 0 → ⊥) → x ≡ told y.number (p + y.place))

-- where the form from a record on tells no fault, that record has none
module _ (l : ℕ) (s : List ℕ) (k n : ℕ) (h : k * record_size l < length s) where
  form_first : (form_from l s k (suc n)).number ≡ 0 → fault_of l (drop (k * record_size l) s) ≡ 0
  form_first z =
      ⊎_elim (λ e. e)
      (λ e. absurd (e (sym (ap (λ (a : Answer). a.number) (form_bad l s k n h _ refl e)) ∙ z)))
      (eq_or_ne (fault_of l (drop (k * record_size l) s)) 0)

-- a whole record stays whole before further octets
still_whole : (l : ℕ) (s u : List ℕ) → 0 < length s → fault_of l s ≡ 0 → fault_of l (s ++ u) ≡ 0
unfolding fault_of
still_whole l s u some e =
    let p₁ = passed (eqb (kind_length (get_or s 0 0)) 0) (λ z. omega arith) e in
    let p₂ = passed (not (eqb (kind_length (get_or s 0 0)) l)) (λ z. omega arith) p₁.1 in
    let p₃ = passed (ltb (length s) (record_size l)) (λ z. omega arith) p₂.1 in
    let kind : kind_length (get_or (s ++ u) 0 0) ≡ kind_length (get_or s 0 0) = ap kind_length (get_or-append s u 0 0 some) in
    let a = length-append s u in
    let c = ltb-false (length s) (record_size l) p₃.0 in
    let n = eqb-false (kind_length (get_or s 0 0)) 0 p₁.0 in
    let enough : record_size l ≤ length (s ++ u) = omega arith in
    pick_ne _ _ (λ z. n (sym kind ∙ z))
    ∙ pick_same _ _ (kind ∙ eqb-true _ l (not-false _ p₂.0))
    ∙ pick_ge _ _ enough

-- what stands behind t is what stands in u
record_behind : (l : ℕ) (t u : List ℕ) (at : ℕ) → record_at l (t ++ u) (length t + at) ≡ record_at l u at
unfolding record_at
record_behind l t u at =
    let a = length-append t u in
    ⊎_elim
    (λ (h : at < length u).
    let h' : length t + at < length (t ++ u) = omega arith in
    pick_gt _ _ h'
    ∙ ap (λ (rest : List ℕ). pick (eqb (fault_of l rest) 0) Whole (Bad (fault_named (fault_of l rest)))) (drop-append-add t u at)
    ∙ sym (pick_gt _ _ h))
    (λ (h : length u ≤ at).
    let h' : length (t ++ u) ≤ length t + at = omega arith in
    pick_le _ _ h' ∙ sym (pick_le _ _ h))
    (lt_or_le at (length u))

-- one record's form, from its place in what is behind and in the whole
joined_formed : (p at : ℕ) (r : Record) (x y : Answer) → Joined p x y → Joined p (formed r (p + at) x) (formed r at y)
unfolding formed
joined_formed p at End x y j = (λ z. refl, λ n. absurd (n refl))
joined_formed p at Whole x y j = j
joined_formed p at (Bad fault) x y j = (λ z. z, λ n. refl)

module _ (l m : ℕ) (t u : List ℕ) (e : length t ≡ m * record_size l) where
  -- the records behind t, for any two fuels that are enough
  behind : (n i k : ℕ) → length u ≤ k * record_size l + n → length u ≤ k * record_size l + i
      → Joined (m * record_size l) (form_from l (t ++ u) (k + m) n) (form_from l u k i)
  unfolding form_from
  behind zero i k h g = rw (form_end l u k i (omega arith)) (λ z. refl, λ n. absurd (n refl))
  behind (suc n) zero k h g =
      let a = length-append t u in
      let q = add-mul k m (record_size l) in
      rw (form_end l (t ++ u) (k + m) (suc n) (omega arith)) (λ z. refl, λ n. absurd (n refl))
  behind (suc n) (suc i) k h g =
      let s = suc-mul k (record_size l) in
      let at : (k + m) * record_size l ≡ m * record_size l + k * record_size l = let q = add-mul k m (record_size l) in omega arith in
      let same : record_at l (t ++ u) ((k + m) * record_size l) ≡ record_at l u (k * record_size l) =
      ap (record_at l (t ++ u)) (at ∙ ap (λ (i : ℕ). i + k * record_size l) (sym e)) ∙ record_behind l t u (k * record_size l) in
      let next : Joined (m * record_size l) (form_from l (t ++ u) (suc (k + m)) n) (form_from l u (suc k) i) =
      subst (λ (j : ℕ). Joined (m * record_size l) (form_from l (t ++ u) j n) (form_from l u (suc k) i)) (suc-add k m)
      (behind n i (suc k) (omega arith) (omega arith)) in
      subst₂ (λ (r : Record) (place : ℕ). Joined (m * record_size l) (formed r place (form_from l (t ++ u) (suc (k + m)) n)) (form_from l u k (suc i)))
      (sym same) (sym at) (joined_formed (m * record_size l) (k * record_size l) (record_at l u (k * record_size l)) _ _ next)

  -- a record of t that has j others of t behind it begins in t
  inside : (j k : ℕ) → k + suc j ≡ m → k * record_size l < length t
  inside j k c =
      let q = add-mul k (suc j) (record_size l) in
      let w = suc-mul j (record_size l) in
      let x = ap (λ (x : ℕ). x * record_size l) c in
      omega arith

  -- the j records of t from its record k on, which are whole in the whole as well
  before : (j k n i : ℕ) → k + j ≡ m → length t < k * record_size l + i → length (t ++ u) < k * record_size l + n → (form_from l t k i).number ≡ 0
      → Joined (m * record_size l) (form_from l (t ++ u) k n) (form_of l u)
  before zero k n i c f h z =
      let a = length-append t u in
      let here : k ≡ 0 + m = omega arith in
      let same : k ≡ m = omega arith in
      let there = ap (λ (x : ℕ). x * record_size l) same in
      subst (λ (x : ℕ). Joined (m * record_size l) (form_from l (t ++ u) x n) (form_of l u)) (sym here)
      (behind n (suc (length u)) 0 (omega arith) (omega arith))
  before (suc j) k zero i c f h z =
      let a = length-append t u in
      let b = inside j k c in
      absurd (omega arith)
  before (suc j) k (suc n) zero c f h z =
      let b = inside j k c in
      absurd (omega arith)
  before (suc j) k (suc n) (suc i) c f h z =
      let a = length-append t u in
      let s = suc-mul k (record_size l) in
      let b = inside j k c in
      let d = length-drop (k * record_size l) t in
      let first = form_first l t k i b z in
      let whole : fault_of l (drop (k * record_size l) (t ++ u)) ≡ 0 =
      ap (fault_of l) (drop-append-le (k * record_size l) t u (omega arith)) ∙ still_whole l (drop (k * record_size l) t) u (omega arith) first in
      subst (λ (x : Answer). Joined (m * record_size l) x (form_of l u)) (sym (form_on l (t ++ u) k n (omega arith) whole))
      (before j (suc k) n i (omega arith) (omega arith) (omega arith) (ap (λ (x : Answer). x.number) (sym (form_on l t k i b first)) ∙ z))

pub forms_join : FormsJoin
forms_join l m t u e z = before l m t u e m 0 (suc (length (t ++ u))) (suc (length t)) (omega arith) (omega arith) (omega arith) z

-- what is told further of each of two is told further of the chosen one
further_both : (m : ℕ) (b : Bool) {x y : Replayed} (v w : Replayed) → x ≡ further m v → y ≡ further m w → pick b x y ≡ further m (pick b v w)
unfolding pick
further_both m true v w p q = p
further_both m false v w p q = q

-- a count of records that begins m further moves what is told and nothing else
counted : (sheet : List ℕ) (l m k : ℕ) (state memory : List ℕ) (ts : List Traced)
    → play_of sheet l (k + m) state memory ts ≡ further m (play_of sheet l k state memory ts)
unfolding play_of on_step
counted sheet l m k state memory [] = ap (λ (n : ℕ). replayed (told 0 (k + n)) state memory) (sym (pick_yes _ _ refl))
counted sheet l m k state memory (t ∷ ts) =
    let x = stepped_of l state memory t.reply (ours sheet state memory t) in
    let e : 64 * (k + m) + x.at ≡ 64 * k + x.at + 64 * m = omega arith in
    further_both m _ (replayed (told 34 (64 * k + x.at)) x.state x.memory) (play_of sheet l (suc k) x.state x.memory ts)
    (ap (λ (n : ℕ). replayed (told 34 n) x.state x.memory) (e ∙ ap (λ (n : ℕ). 64 * k + x.at + n) (sym (pick_no _ _ refl))))
    (ap (λ (n : ℕ). play_of sheet l n x.state x.memory ts) (sym (suc-add k m)) ∙ counted sheet l m (suc k) x.state x.memory ts)

-- a replay ends where another can start
module _ (sheet : List ℕ) (lay : Layout) where
  abbrev Startable : List ℕ → List ℕ → Type 0
  Startable state memory = (st : LinkState) × Playable sheet state memory lay st

  behind_step : (state memory : List ℕ) (t : Traced) → length t.command ≡ lay.l → length t.reply ≡ lay.l → Startable state memory
      → Startable (stepped_of lay.l state memory t.reply (ours sheet state memory t)).state
      (stepped_of lay.l state memory t.reply (ours sheet state memory t)).memory
  unfolding stepped_of
  behind_step state memory t asked lent p =
      pick_both (λ (x : Stepped). Startable x.state x.memory) _ (_, again sheet state memory t.command t.reply lay p.0 p.1 asked lent) p

  behind_records : (n : ℕ) (rest : List ℕ) → n * record_size lay.l ≤ length rest → (k : ℕ) (state memory : List ℕ) → Startable state memory
      → Startable (play_of sheet lay.l k state memory (records_of lay.l n rest)).state
      (play_of sheet lay.l k state memory (records_of lay.l n rest)).memory
  unfolding play_of on_step records_of
  behind_records zero rest h k state memory p = p
  behind_records (suc n) rest h k state memory p =
      let m = suc-mul n (record_size lay.l) in
      let d = length-drop (record_size lay.l) rest in
      let t = traced (part rest 1 lay.l) (part rest (1 + lay.l) lay.l) in
      let next = behind_step state memory t (part_length rest 1 lay.l (omega arith)) (part_length rest (1 + lay.l) lay.l (omega arith)) p in
      pick_both (λ (r : Replayed). Startable r.state r.memory) _ next
      (behind_records n (drop (record_size lay.l) rest) (omega arith) (suc k) _ _ next)

  behind_trace : (trace state memory : List ℕ) → Startable state memory
      → Startable (play_of sheet lay.l 0 state memory (traced_of lay.l trace)).state
      (play_of sheet lay.l 0 state memory (traced_of lay.l trace)).memory
  behind_trace trace state memory p =
      behind_records (length trace / record_size lay.l) trace (div-mul-le_self (length trace) (record_size lay.l)) 0 state memory p

pub replay_cut_in_two : ReplayCutInTwo
replay_cut_in_two sheet state memory t u lay st m p short e first second =
    let a = length-append t u in
    let r = play_of sheet lay.l 0 state memory (traced_of lay.l t) in
    let there = behind_trace sheet lay t state memory (st, p) in
    let front = replay_plays sheet state memory t lay st p (omega arith) first in
    let back = replay_plays sheet r.state r.memory u lay there.0 there.1 (omega arith) second in
    replay_plays sheet state memory (t ++ u) lay st p short ((forms_join lay.l m t u e first).0 second)
    ∙ cut_in_two.the_trace sheet state memory lay.l 0 m t u e
    ∙ ap (λ (x : Replayed). pick (eqb r.answer.number 0) x r)
    (counted sheet lay.l m 0 r.state r.memory (traced_of lay.l u) ∙ ap (further m) (sym back))
    ∙ ap (λ (x : Replayed). goes_on x (λ s n. further m (replay_of sheet s n u))) (sym front)
