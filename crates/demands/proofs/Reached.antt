-- Request 6: demand 3 of the records that are played.
use mathlib.Core.Logic.{◌⊎◌, inl, inr, ⊎_elim}
use mathlib.Core.Path.{◌≡◌, refl, sym, ap, subst, subst₂, ◌∙◌}
use mathlib.Core.List.{List, [], ◌∷◌}
use Prim.Native.Nat.{ℕ, suc, ◌+◌, ◌*◌, ◌<◌}
use native.Mathlib.Omega.{arith}
use lib.ListN.{length, get_or}
use Rattle.octets.proofs.Cases.{eq_or_ne}
use Rattle.octets.proofs.Pick.{pick_eq, pick_ne}
use Rattle.law.specs.Words.{Every}
use Rattle.law.specs.Sheet.{Sheet, WellFormed, IsOctet, sheet_octets, room}
use Rattle.slave.specs.Wanted.{differs_at}
use Rattle.slave.proofs.Differs.{differs_most}
use Rattle.replay.specs.Replay.{Replayed, play_of}
use Rattle.replay.specs.Trace.{Traced}
use Rattle.slave.specs.Answers.{told}
use Rattle.demands.specs.Hidden.{Readable, Seen}
use Rattle.demands.specs.Replays.{RepliesOf, SecretsInReplay, OnlyAgreeingReach}
use Rattle.demands.specs.Writes.{Wrote, ours, agreeing, ReachedIn}
use Rattle.demands.proofs.Lengths.{reply_keeps}
use Rattle.demands.proofs.Owned.{writes_own_octets}
use Rattle.demands.proofs.Replays.{play_on, play_over, Played, ended, differed, agreed, played}
use Rattle.demands.proofs.Secrets.{exchange_kept}

-- two plays of the same records from one state: the same is told and left, and the memories agree at each place of E and at each that the records reached
pub record PlayedAlike (h : Sheet) (E : ℕ → Type 0) (state m₁ : List ℕ) (f₁ f₂ : List Traced) (r₁ r₂ : Replayed) : Type 0 where
  pub answers : r₁.answer ≡ r₂.answer
  pub states : r₁.state ≡ r₂.state
  pub fronts : f₁ ≡ f₂
  pub whole₁ : length r₁.memory ≡ room h.regions
  pub whole₂ : length r₂.memory ≡ room h.regions
  pub agree : (i : ℕ) → E i ⊎ ReachedIn (sheet_octets h) state m₁ f₁ i → get_or r₁.memory i 0 ≡ get_or r₂.memory i 0

module _ (h : Sheet) (good : WellFormed h) (l : ℕ) where
  abbrev sheet : List ℕ
  sheet = sheet_octets h

  pub play_kept : (ts : List Traced) (k : ℕ) → RepliesOf l ts → (E : ℕ → Type 0) → ((i : ℕ) → Readable h i → E i) → (state m₁ m₂ : List ℕ)
      → length m₁ ≡ room h.regions → length m₂ ≡ room h.regions → ((i : ℕ) → E i → get_or m₁ i 0 ≡ get_or m₂ i 0)
      → PlayedAlike h E state m₁ (agreeing sheet state m₁ ts) (agreeing sheet state m₂ ts) (play_of sheet l k state m₁ ts) (play_of sheet l k state m₂ ts)
  unfolding play_of agreeing
  play_kept [] k w E readable state m₁ m₂ w₁ w₂ agree = record {
    answers = refl;
    states = refl;
    fronts = refl;
    whole₁ = w₁;
    whole₂ = w₂;
    agree = λ i. ⊎_elim (λ e. agree i e) (λ r. absurd r);
  }
  play_kept (t ∷ ts) k w E readable state m₁ m₂ w₁ w₂ agree =
      let both = exchange_kept h good E readable state m₁ m₂ w₁ w₂ agree t.command t.reply in
      let x₁ = ours sheet state m₁ t in
      let x₂ = ours sheet state m₂ t in
      let d₁ = differs_at x₁.reply t.reply in
      let d₂ = differs_at x₂.reply t.reply in
      let e : x₁.state ≡ x₂.state = ap (λ (x : Seen). x.state) both.same in
      let d : d₁ ≡ d₂ = ap (λ (x : Seen). differs_at x.reply t.reply) both.same in
      let R : ℕ → Type 0 = λ i. (n : ℕ) × Wrote sheet state m₁ t.command t.reply i n in
      ⊎_elim
      (λ (a : d₁ ≡ l).
      let b : d₂ ≡ l = sym d ∙ a in
      let ih = play_kept ts (suc k) w.1 (λ i. E i ⊎ R i) (λ i r. inl (readable i r)) x₁.state x₁.memory x₂.memory both.whole₁ both.whole₂ both.agree in
      let on = subst (λ (s : List ℕ). PlayedAlike h (λ i. E i ⊎ R i) x₁.state x₁.memory (agreeing sheet x₁.state x₁.memory ts) (agreeing sheet s x₂.memory ts)
      (play_of sheet l (suc k) x₁.state x₁.memory ts) (play_of sheet l (suc k) s x₂.memory ts)) e ih in
      subst₂ (λ (f g : List Traced). PlayedAlike h E state m₁ f g (play_of sheet l k state m₁ (t ∷ ts)) (play_of sheet l k state m₂ (t ∷ ts)))
      (sym (pick_eq _ _ (a ∙ sym w.0))) (sym (pick_eq _ _ (b ∙ sym w.0)))
      (subst₂ (λ (r q : Replayed). PlayedAlike h E state m₁ (t ∷ agreeing sheet x₁.state x₁.memory ts) (t ∷ agreeing sheet x₂.state x₂.memory ts) r q)
      (sym (play_on sheet state m₁ l k t ts a)) (sym (play_on sheet state m₂ l k t ts b))
      (record {
        answers = on.answers;
        states = on.states;
        fronts = ap (λ (xs : List Traced). t ∷ xs) on.fronts;
        whole₁ = on.whole₁;
        whole₂ = on.whole₂;
        agree = λ i. ⊎_elim (λ q. on.agree i (inl (inl q))) (λ r. ⊎_elim (λ q. on.agree i (inl (inr q))) (λ q. on.agree i (inr q)) r);
      })))
      (λ (n : d₁ ≡ l → ⊥).
      let same = reply_keeps sheet state m₁ t.command t.reply in
      let most = differs_most x₁.reply t.reply in
      let h₁ : d₁ < l = omega (arith, w.0, n) in
      let h₂ : d₂ < l = omega arith in
      subst₂ (λ (f g : List Traced). PlayedAlike h E state m₁ f g (play_of sheet l k state m₁ (t ∷ ts)) (play_of sheet l k state m₂ (t ∷ ts)))
      (sym (pick_ne _ _ (λ q. n (q ∙ w.0)))) (sym (pick_ne _ _ (λ q. n (d ∙ q ∙ w.0))))
      (subst₂ (λ (r q : Replayed). PlayedAlike h E state m₁ [] [] r q) (sym (play_over sheet state m₁ l k t ts h₁)) (sym (play_over sheet state m₂ l k t ts h₂))
      (record {
        answers = ap (λ (i : ℕ). told 34 (64 * k + i)) d;
        states = refl;
        fronts = refl;
        whole₁ = w₁;
        whole₂ = w₂;
        agree = λ i. ⊎_elim (λ q. agree i q) (λ r. absurd r);
      })))
      (eq_or_ne d₁ l)

pub secrets_in_replay : SecretsInReplay
secrets_in_replay h good state m₁ m₂ hidden l k ts w =
    let s = play_kept h good l ts k w (λ i. get_or m₁ i 0 ≡ get_or m₂ i 0) hidden.shown state m₁ m₂ hidden.whole₁ hidden.whole₂ (λ i e. e) in
    record {
      alike = record { answers = s.answers; states = s.states; kept = λ i e. s.agree i (inl e) };
      fronts = s.fronts;
      reached = λ i r. s.agree i (inr r);
    }

-- a place that no agreeing record reached
unreached : (octets : List ℕ) → Every IsOctet octets → (l : ℕ) {k : ℕ} {state memory : List ℕ} {ts front : List Traced} {r : Replayed}
    → Played octets l k state memory ts front r → (place : ℕ) → (ReachedIn octets state memory front place → ⊥) → get_or r.memory place 0 ≡ get_or memory place 0
unreached octets o l ended place none = refl
unreached octets o l (differed w h) place none = refl
unreached octets o l (agreed {state = state} {memory = memory} {t = t} e p) place none =
    unreached octets o l p place (λ q. none (inr q)) ∙ (writes_own_octets octets state memory t.command t.reply place o).1 (λ i q. none (inl (i, q)))

pub only_agreeing_reach : OnlyAgreeingReach
only_agreeing_reach sheet state memory l k ts o w place none = unreached sheet o l (played sheet l k state memory ts w) place none
