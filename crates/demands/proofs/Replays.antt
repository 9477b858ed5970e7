-- The replay, taken apart record by record.
--     differs_none, differs_before, differs_there     what the first differing octet says of two replies of one length
--     played                                          a replay as what happened at each of its records
use mathlib.Core.Logic.{⊎_elim}
use mathlib.Core.Path.{◌≡◌, refl, sym, ap, ap₂, subst, subst₂, ◌∙◌}
use mathlib.Core.List.{List, [], ◌∷◌}
use Prim.Native.Nat.{ℕ, zero, suc, ◌+◌, ◌*◌, ◌≤◌, ◌<◌}
use native.Mathlib.Omega.{arith}
use borrow.Author.Tests.{eqb-true, eqb-false, eq-eqb, ne_eqb}
use lib.Dec.{eqb}
use lib.ListN.{length, get_or}
use Rattle.octets.proofs.Cases.{decided, eq_or_ne}
use Rattle.octets.proofs.Pick.{pick_yes, pick_no, pick_lt, pick_ge, pick_eq, pick_ne}
use Rattle.slave.specs.Wanted.{differs_at, stepped_of}
use Rattle.slave.proofs.Differs.{differs_most}
use Rattle.replay.specs.Replay.{Replayed, replayed, on_step, play_of}
use Rattle.replay.specs.Trace.{Traced}
use Rattle.slave.specs.Answers.{told}
use Rattle.demands.specs.Replays.{RepliesOf}
use Rattle.demands.specs.Writes.{ours, agreeing}
use Rattle.demands.proofs.Lengths.{reply_keeps}

-- a search through replies of one length that stops nowhere: they are one
pub differs_none : (xs ys : List ℕ) → length xs ≡ length ys → differs_at xs ys ≡ length ys → xs ≡ ys
unfolding differs_at
differs_none [] [] e d = refl
differs_none [] (y ∷ ys) e d = absurd (omega arith)
differs_none (x ∷ xs) [] e d = absurd (omega arith)
differs_none (x ∷ xs) (y ∷ ys) e d =
    ⊎_elim
    (λ q.
    let d' = sym (pick_yes (suc (differs_at xs ys)) 0 q) ∙ d in
    ap₂ (λ (z : ℕ) (zs : List ℕ). z ∷ zs) (eqb-true x y q) (differs_none xs ys (omega arith) (omega arith)))
    (λ q. let d' = sym (pick_no (suc (differs_at xs ys)) 0 q) ∙ d in absurd (omega arith))
    (decided (eqb x y))

-- one that stops: the octets before it are the same
pub differs_before : (xs ys : List ℕ) (i : ℕ) → i < differs_at xs ys → get_or xs i 0 ≡ get_or ys i 0
unfolding differs_at
differs_before [] ys i h = absurd (omega arith)
differs_before (x ∷ xs) [] i h = absurd (omega arith)
differs_before (x ∷ xs) (y ∷ ys) i h =
    ⊎_elim
    (λ q. inner i (λ j. differs_before xs ys j) (eqb-true x y q) (subst (λ (n : ℕ). i < n) (pick_yes (suc (differs_at xs ys)) 0 q) h))
    (λ q. let h' = subst (λ (n : ℕ). i < n) (pick_no (suc (differs_at xs ys)) 0 q) h in absurd (omega arith))
    (decided (eqb x y))
  where
    inner : (i : ℕ) → ((j : ℕ) → j < differs_at xs ys → get_or xs j 0 ≡ get_or ys j 0) → x ≡ y → i < suc (differs_at xs ys)
        → get_or (x ∷ xs) i 0 ≡ get_or (y ∷ ys) i 0
    inner zero behind e h = e
    inner (suc i) behind e h = behind i (omega arith)

-- and the octet there is another
pub differs_there : (xs ys : List ℕ) → length xs ≡ length ys → differs_at xs ys < length ys
    → get_or xs (differs_at xs ys) 0 ≡ get_or ys (differs_at xs ys) 0 → ⊥
unfolding differs_at
differs_there [] ys e h = absurd (omega arith)
differs_there (x ∷ xs) [] e h = absurd (omega arith)
differs_there (x ∷ xs) (y ∷ ys) e h =
    ⊎_elim
    (λ q same.
    let p = pick_yes (suc (differs_at xs ys)) 0 q in
    let h' = subst (λ (n : ℕ). n < suc (length ys)) p h in
    differs_there xs ys (omega arith) (omega arith) (subst (λ (n : ℕ). get_or (x ∷ xs) n 0 ≡ get_or (y ∷ ys) n 0) p same))
    (λ q same.
    eqb-false x y q (subst (λ (n : ℕ). get_or (x ∷ xs) n 0 ≡ get_or (y ∷ ys) n 0) (pick_no (suc (differs_at xs ys)) 0 q) same))
    (decided (eqb x y))

-- one record of a replay
module _ (sheet state memory : List ℕ) (l k : ℕ) (t : Traced) (ts : List Traced) where
  abbrev place : ℕ
  place = differs_at (ours sheet state memory t).reply t.reply

  pub play_on : place ≡ l
      → play_of sheet l k state memory (t ∷ ts) ≡ play_of sheet l (suc k) (ours sheet state memory t).state (ours sheet state memory t).memory ts
  unfolding play_of on_step stepped_of
  play_on e =
      let h : l ≤ place = omega arith in
      let q = pick_yes _ _ (eq-eqb place l e) in
      ap (λ x. on_step l k x (λ s m. play_of sheet l (suc k) s m ts)) q ∙ pick_ge _ _ h

  pub play_over : place < l → play_of sheet l k state memory (t ∷ ts) ≡ replayed (told 34 (64 * k + place)) state memory
  unfolding play_of on_step stepped_of
  play_over h =
      let q = pick_no _ _ (ne_eqb place l (λ e. omega arith)) in
      ap (λ x. on_step l k x (λ s m. play_of sheet l (suc k) s m ts)) q ∙ pick_lt _ _ h

-- a replay as what happened at each of its records: the agreeing ones, and what it left
pub data Played (sheet : List ℕ) (l : ℕ) : ℕ → List ℕ → List ℕ → List Traced → List Traced → Replayed → Type 0 where
  ended : {k : ℕ} {state memory : List ℕ} → Played sheet l k state memory [] [] (replayed (told 0 k) state memory)
  differed : {k : ℕ} {state memory : List ℕ} {t : Traced} {ts : List Traced}
      → length t.reply ≡ l → differs_at (ours sheet state memory t).reply t.reply < l
      → Played sheet l k state memory (t ∷ ts) []
      (replayed (told 34 (64 * k + differs_at (ours sheet state memory t).reply t.reply)) state memory)
  agreed : {k : ℕ} {state memory : List ℕ} {t : Traced} {ts front : List Traced} {r : Replayed}
      → (ours sheet state memory t).reply ≡ t.reply
      → Played sheet l (suc k) (ours sheet state memory t).state (ours sheet state memory t).memory ts front r
      → Played sheet l k state memory (t ∷ ts) (t ∷ front) r

pub played : (sheet : List ℕ) (l k : ℕ) (state memory : List ℕ) (ts : List Traced) → RepliesOf l ts
    → Played sheet l k state memory ts (agreeing sheet state memory ts) (play_of sheet l k state memory ts)
unfolding agreeing play_of
played sheet l k state memory [] w = ended
played sheet l k state memory (t ∷ ts) w =
    let x = ours sheet state memory t in
    let d = differs_at x.reply t.reply in
    let same = reply_keeps sheet state memory t.command t.reply in
    let most = differs_most x.reply t.reply in
    ⊎_elim
    (λ (e : d ≡ l).
    subst₂ (λ (front : List Traced) (r : Replayed). Played sheet l k state memory (t ∷ ts) front r)
    (sym (pick_eq _ _ (e ∙ sym w.0))) (sym (play_on sheet state memory l k t ts e))
    (agreed (differs_none x.reply t.reply same (e ∙ sym w.0)) (played sheet l (suc k) x.state x.memory ts w.1)))
    (λ (n : d ≡ l → ⊥).
    let h : d < l = omega (arith, w.0, n) in
    subst₂ (λ (front : List Traced) (r : Replayed). Played sheet l k state memory (t ∷ ts) front r)
    (sym (pick_ne _ _ (λ e. n (e ∙ w.0)))) (sym (play_over sheet state memory l k t ts h))
    (differed w.0 h))
    (eq_or_ne d l)
