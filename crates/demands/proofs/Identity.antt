-- Request 1: the command's identity comes back, and of octets 2 and 3 nothing else shows.
use mathlib.Core.Bool.{Bool, true, false, not}
use mathlib.Core.Path.{◌≡◌, refl, sym, ap, subst, ◌∙◌}
use mathlib.Core.List.{List, [], ◌∷◌}
use Prim.Native.Nat.{ℕ, suc, ◌≤◌}
use native.Mathlib.Omega.{arith}
use borrow.Author.Tests.{eqb-true, not-false}
use lib.Dec.{eqb}
use lib.ListN.{length}
use lib.Seq.{ext_get_or}
use Rattle.std.specs.Prelude.{None, Option, Some, Ok, Err}
use Rattle.octets.specs.Pick.{pick}
use Rattle.frame.specs.Fields.{command_of}
use Rattle.frame.specs.Unnamed.{stray_of}
use Rattle.frame.proofs.Strays.{stray_free}
use Rattle.frame.specs.Places.{Sized}
use Rattle.frame.proofs.Alike.{command_alike, memory_alike, reply_long, reply_alike, bits_alike}
use Rattle.link.specs.Stored.{state_of}
use Rattle.link.specs.declared.state.LinkState.{LinkState}
use Rattle.machine.specs.Outcomes.{outcome_of}
use Rattle.machine.specs.declared.words.Command.{Command}
use Rattle.machine.specs.declared.words.Outcome.{Outcome}
use Rattle.machine.proofs.Alike.{outcome_alike}
use Rattle.sheet.specs.Told.{Verdict}
use Rattle.sheet.specs.Walk.{verdict_of}
use Rattle.sheet.specs.declared.walk.Layout.{Layout}
use Rattle.sheet.proofs.Valid.{valid_sheet, length_least}
use Rattle.slave.specs.Answers.{told, on_sheet, on_state}
use Rattle.slave.specs.Exchange.{outcome_for, Left, left, left_of, refusal_of, exchanged, exchange_of}
use Rattle.slave.proofs.Fits.{valid_sized}
use Rattle.slave.proofs.Order.{no_refusal}
use Rattle.demands.specs.Identity.{NotRelease2, identity_in, IdentityComesBack, OnlyControlDiffers, OnlyIdentityDiffers, ControlIsIgnored}
use Rattle.demands.proofs.Done.{answered_done, seen_identity}
use Rattle.demands.proofs.Lengths.{fits}

pub identity_comes_back : IdentityComesBack
identity_comes_back h sheet s m c r a =
    ap (λ (l : Left). identity_in l.reply) (answered_done h sheet s m c r a) ∙ seen_identity h s m c a.good.l

-- what is left alike
itself : (x : Left) → OnlyIdentityDiffers x x
itself x = record { answers = refl; states = refl; memories = refl; long = refl; other_octets = λ k z. refl; other_bits = refl }

-- commands of four octets and more that differ only in octets 2 and 3
pub record Shapes (c d : List ℕ) : Type 0 where
  pub a₀ : ℕ
  pub a₁ : ℕ
  pub x₂ : ℕ
  pub x₃ : ℕ
  pub y₂ : ℕ
  pub y₃ : ℕ
  pub t : List ℕ
  pub first : c ≡ a₀ ∷ a₁ ∷ x₂ ∷ x₃ ∷ t
  pub second : d ≡ a₀ ∷ a₁ ∷ y₂ ∷ y₃ ∷ t

shapes : (c d : List ℕ) → 4 ≤ length c → OnlyControlDiffers c d → Shapes c d
shapes (a₀ ∷ a₁ ∷ x₂ ∷ x₃ ∷ t) (b₀ ∷ b₁ ∷ y₂ ∷ y₃ ∷ u) l o =
    let e₀ : a₀ ≡ b₀ = o.others 0 (λ z. omega arith) (λ z. omega arith) in
    let e₁ : a₁ ≡ b₁ = o.others 1 (λ z. omega arith) (λ z. omega arith) in
    let long = o.long in
    let e : t ≡ u = ext_get_or 0 t u (omega arith) (λ k v. o.others (suc (suc (suc (suc k)))) (λ z. omega arith) (λ z. omega arith)) in
    record { a₀ = a₀; a₁ = a₁; x₂ = x₂; x₃ = x₃; y₂ = y₂; y₃ = y₃; t = t; first = refl; second = λ i. sym e₀ i ∷ sym e₁ i ∷ y₂ ∷ y₃ ∷ sym e i }
shapes (a₀ ∷ a₁ ∷ x₂ ∷ x₃ ∷ t) [] l o = absurd (let long = o.long in omega arith)
shapes (a₀ ∷ a₁ ∷ x₂ ∷ x₃ ∷ t) (b₀ ∷ []) l o = absurd (let long = o.long in omega arith)
shapes (a₀ ∷ a₁ ∷ x₂ ∷ x₃ ∷ t) (b₀ ∷ b₁ ∷ []) l o = absurd (let long = o.long in omega arith)
shapes (a₀ ∷ a₁ ∷ x₂ ∷ x₃ ∷ t) (b₀ ∷ b₁ ∷ y₂ ∷ []) l o = absurd (let long = o.long in omega arith)
shapes [] d l o = absurd (omega arith)
shapes (a₀ ∷ []) d l o = absurd (omega arith)
shapes (a₀ ∷ a₁ ∷ []) d l o = absurd (omega arith)
shapes (a₀ ∷ a₁ ∷ x₂ ∷ []) d l o = absurd (omega arith)

module _ (sheet state memory reply : List ℕ) where
  -- an exchange that nothing refuses
  exchanged_alike : (a₀ a₁ x₂ x₃ y₂ y₃ : ℕ) (t : List ℕ) (lay : Layout) (st : LinkState) → verdict_of sheet ≡ Ok lay
      → (lay.release ≡ 2 → ⊥) → refusal_of lay st (length memory) (length (a₀ ∷ a₁ ∷ x₂ ∷ x₃ ∷ t)) (length reply) ≡ 0
      → OnlyIdentityDiffers (exchanged sheet lay st memory (a₀ ∷ a₁ ∷ x₂ ∷ x₃ ∷ t)) (exchanged sheet lay st memory (a₀ ∷ a₁ ∷ y₂ ∷ y₃ ∷ t))
  unfolding exchanged
  exchanged_alike a₀ a₁ x₂ x₃ y₂ y₃ t lay st v first free =
      let c : List ℕ = a₀ ∷ a₁ ∷ x₂ ∷ x₃ ∷ t in
      let d : List ℕ = a₀ ∷ a₁ ∷ y₂ ∷ y₃ ∷ t in
      let form = lay.form in
      let o = outcome_for sheet lay st c in
      let u = stray_of form lay.release d in
      let none : stray_of form lay.release c ≡ u = stray_free form lay.release c first ∙ sym (stray_free form lay.release d first) in
      let same : o ≡ outcome_for sheet lay st d =
      ap (outcome_of sheet lay st (command_of form c)) none
      ∙ outcome_alike sheet lay st (command_of form c) _ u ∙ sym (ap (λ (x : Command). outcome_of sheet lay st x u) (command_alike form a₀ a₁ x₂ x₃ y₂ y₃ t)) in
      let r = no_refusal lay st (length memory) (length c) (length reply) free in
      let long = subst (Sized form) (sym r.1) (valid_sized sheet lay (valid_sheet sheet lay v)) in
      let f = fits sheet memory c reply lay st v free in
      subst (λ (p : Outcome). OnlyIdentityDiffers (left_of form sheet memory c o) (left_of form sheet memory d p)) same
      (record {
        answers = refl;
        states = refl;
        memories = memory_alike form a₀ a₁ x₂ x₃ y₂ y₃ t o.effect memory;
        long = reply_long form a₀ a₁ x₂ x₃ y₂ y₃ t sheet memory o long f;
        other_octets = reply_alike form a₀ a₁ x₂ x₃ y₂ y₃ t sheet memory o long f;
        other_bits = bits_alike form a₀ a₁ x₂ x₃ y₂ y₃ t sheet memory o long f;
      })

  module _ (c d : List ℕ) (r1 : NotRelease2 sheet) (o : OnlyControlDiffers c d) where
    answered_alike : (lay : Layout) (st : LinkState) → verdict_of sheet ≡ Ok lay → refusal_of lay st (length memory) (length c) (length reply) ≡ 0
        → OnlyIdentityDiffers (exchanged sheet lay st memory c) (exchanged sheet lay st memory d)
    answered_alike lay st v free =
        let least = length_least sheet lay (valid_sheet sheet lay v) in
        let r = no_refusal lay st (length memory) (length c) (length reply) free in
        let k = shapes c d (omega (arith, r.1)) o in
        subst (λ (x : List ℕ). OnlyIdentityDiffers (exchanged sheet lay st memory c) (exchanged sheet lay st memory x)) (sym k.second)
        (subst (λ (x : List ℕ). OnlyIdentityDiffers (exchanged sheet lay st memory x) (exchanged sheet lay st memory (k.a₀ ∷ k.a₁ ∷ k.y₂ ∷ k.y₃ ∷ k.t))) (sym k.first)
        (exchanged_alike k.a₀ k.a₁ k.x₂ k.x₃ k.y₂ k.y₃ k.t lay st v (r1 lay v)
        (subst (λ (x : List ℕ). refusal_of lay st (length memory) (length x) (length reply) ≡ 0) k.first free)))

    picked : (b : Bool) (x y z : Left) → (b ≡ false → OnlyIdentityDiffers y z) → OnlyIdentityDiffers (pick b x y) (pick b x z)
    unfolding pick
    picked true x y z f = itself x
    picked false x y z f = f refl

    -- what follows a valid sheet, and a valid state record, of a command of n octets
    abbrev behind_state : Layout → LinkState → ℕ → List ℕ → Left
    behind_state lay st n e =
        pick (not (eqb (refusal_of lay st (length memory) n (length reply)) 0))
        (left (told (refusal_of lay st (length memory) n (length reply)) 0) state memory reply) (exchanged sheet lay st memory e)

    with_state : (lay : Layout) → verdict_of sheet ≡ Ok lay → (x : Option LinkState)
        → OnlyIdentityDiffers (on_state x (left (told 1 0) state memory reply) (λ st. behind_state lay st (length c) c))
        (on_state x (left (told 1 0) state memory reply) (λ st. behind_state lay st (length d) d))
    unfolding on_state
    with_state lay v (Some st) =
        subst (λ (n : ℕ). OnlyIdentityDiffers (behind_state lay st (length c) c) (behind_state lay st n d)) o.long
        (picked _ _ _ _ (λ e. answered_alike lay st v (eqb-true _ 0 (not-false _ e))))
    with_state lay v None = itself _

    with_sheet : (x : Verdict) → verdict_of sheet ≡ x
        → OnlyIdentityDiffers
        (on_sheet x (λ refusal. left refusal state memory reply) (λ lay. on_state (state_of state lay.l lay.tolerance) (left (told 1 0) state memory reply) (λ st. behind_state lay st (length c) c)))
        (on_sheet x (λ refusal. left refusal state memory reply) (λ lay. on_state (state_of state lay.l lay.tolerance) (left (told 1 0) state memory reply) (λ st. behind_state lay st (length d) d)))
    unfolding on_sheet
    with_sheet (Ok lay) v = with_state lay v (state_of state lay.l lay.tolerance)
    with_sheet (Err e) v = itself _

pub control_is_ignored : ControlIsIgnored
unfolding exchange_of
control_is_ignored sheet state memory c d reply first o = with_sheet sheet state memory reply c d first o (verdict_of sheet) refl
