-- Two commands that differ in octets 2 and 3 alone: what is written is the same, and the replies differ in the identity's two bits alone.
use mathlib.Core.Bool.{Bool, true, false, ◌&&◌}
use mathlib.Core.Path.{◌≡◌, refl, sym, ap, subst, ◌∙◌}
use mathlib.Core.List.{List, [], ◌∷◌}
use Prim.Native.Nat.{ℕ, zero, suc, ◌+◌, ◌-◌, ◌*◌, ◌/◌, ◌%◌}
use native.Mathlib.Omega.{arith}
use lib.Dec.{eqb, leb, ltb}
use lib.ListN.{length, get_or}
use Rattle.octets.specs.Parts.{part, put_at}
use Rattle.octets.specs.Pick.{pick}
use Rattle.octets.proofs.Pick.{pick_yes, pick_no}
use Rattle.link.specs.declared.state.LinkState.{LinkState}
use Rattle.machine.specs.declared.words.Carrier.{Carrier}
use Rattle.machine.specs.declared.words.Carrier.TheVariants.{Parameter, Memory}
use Rattle.machine.specs.declared.words.Command.{Command}
use Rattle.machine.specs.declared.words.Effect.{Effect}
use Rattle.machine.specs.declared.words.Effect.TheVariants.{Quiet, Reads, Writes, Identifies, Alarms, Connects}
use Rattle.machine.specs.declared.words.Outcome.{Outcome}
use Rattle.machine.proofs.Alike.{identified}
use Rattle.sheet.specs.declared.walk.Form.{Form}
use Rattle.sheet.specs.declared.walk.Form.TheVariants.{Enhanced, Short}
use Rattle.frame.specs.Body.{memory_after, reply_of, Fitting}
use Rattle.frame.specs.Fields.{command_of}
use Rattle.frame.specs.Places.{wdt_at, fields_end, one_or_two, if_enhanced, data_from, echo_from, echo_size, Sized}
use Rattle.frame.specs.Head.{rwdt_of, missed_bit, status_of, head_of}
use Rattle.frame.proofs.Bodies.{laid_at, carried_at, body_at, body_behind}
use Rattle.frame.proofs.Named.{named, command_named}
use Rattle.frame.proofs.Replies.{begun_at, whole, reply_at_lem}

-- of the status word, what has no bit of the identity
bits : (b e : Bool) (i j alarm latch : ℕ) → (pick b 0 1 + pick e 0 2 + 4 + 64 * (i % 4) + 256 * (alarm % 16) + 4096 * (latch % 16)) % 256 % 64
    ≡ (pick b 0 1 + pick e 0 2 + 4 + 64 * (j % 4) + 256 * (alarm % 16) + 4096 * (latch % 16)) % 256 % 64
unfolding pick
bits true true i j alarm latch = omega arith
bits true false i j alarm latch = omega arith
bits false true i j alarm latch = omega arith
bits false false i j alarm latch = omega arith

high : (b e : Bool) (i j alarm latch : ℕ) → (pick b 0 1 + pick e 0 2 + 4 + 64 * (i % 4) + 256 * (alarm % 16) + 4096 * (latch % 16)) / 256
    ≡ (pick b 0 1 + pick e 0 2 + 4 + 64 * (j % 4) + 256 * (alarm % 16) + 4096 * (latch % 16)) / 256
unfolding pick
high true true i j alarm latch = omega arith
high true false i j alarm latch = omega arith
high false true i j alarm latch = omega arith
high false false i j alarm latch = omega arith

-- the heads differ in the identity's bits alone
module _ (code wdt i j alarm r : ℕ) (next : LinkState) where
  abbrev b : Bool
  b = eqb next.latches.command 0 && eqb next.latches.communication 0

  abbrev e : Bool
  e = eqb next.watch.failures 0

  heads : (form : Form) (k : ℕ) → (k ≡ 2 → ⊥) → get_or (head_of form code wdt i alarm next) k 0 ≡ get_or (head_of form code wdt j alarm next) k 0
  unfolding head_of status_of missed_bit
  heads Enhanced zero z = refl
  heads Enhanced (suc zero) z = refl
  heads Enhanced (suc (suc zero)) z = absurd (z refl)
  heads Enhanced (suc (suc (suc zero))) z = high b e i j alarm next.latches.communication
  heads Enhanced (suc (suc (suc (suc k)))) z = refl
  heads Short zero z = refl
  heads Short (suc zero) z = refl
  heads Short (suc (suc zero)) z = absurd (z refl)
  heads Short (suc (suc (suc zero))) z = high b e i j 0 next.latches.communication
  heads Short (suc (suc (suc (suc k)))) z = refl

  -- octet k - 0 is octet k
  shifted : (x y : List ℕ) (k : ℕ) → get_or x k 0 ≡ get_or y k 0 → get_or x (k - 0) 0 ≡ get_or y (k - 0) 0
  shifted x y k q = let n : k ≡ k - 0 = omega arith in subst (λ (n : ℕ). get_or x n 0 ≡ get_or y n 0) n q

  lies : (form : Form) (k old : ℕ) → (k ≡ 2 → ⊥) → laid_at 0 (head_of form code wdt i alarm next) k old ≡ laid_at 0 (head_of form code wdt j alarm next) k old
  unfolding head_of
  lies Enhanced k old z =
      ap (λ (x : ℕ). pick (leb 0 k && ltb k 4) x old) (shifted (head_of Enhanced code wdt i alarm next) (head_of Enhanced code wdt j alarm next) k (heads Enhanced k z))
  lies Short k old z =
      ap (λ (x : ℕ). pick (leb 0 k && ltb k 4) x old) (shifted (head_of Short code wdt i alarm next) (head_of Short code wdt j alarm next) k (heads Short k z))

  begun_alike : (form : Form) (k : ℕ) → (k ≡ 2 → ⊥) → begun_at form (head_of form code wdt i alarm next) r k ≡ begun_at form (head_of form code wdt j alarm next) r k
  unfolding begun_at
  begun_alike Enhanced k z = lies Enhanced k 0 z
  begun_alike Short k z = ap (laid_at 15 (r ∷ []) k) (lies Short k 0 z)

  begun_bits : (form : Form) → begun_at form (head_of form code wdt i alarm next) r 2 % 64 ≡ begun_at form (head_of form code wdt j alarm next) r 2 % 64
  unfolding begun_at head_of status_of missed_bit
  begun_bits Enhanced =
      ap (λ (x : ℕ). x % 64) (pick_yes _ _ refl) ∙ bits b e i j alarm next.latches.communication ∙ sym (ap (λ (x : ℕ). x % 64) (pick_yes _ _ refl))
  begun_bits Short =
      ap (λ (x : ℕ). x % 64) (pick_no _ _ refl ∙ pick_yes _ _ refl) ∙ bits b e i j 0 next.latches.communication
      ∙ sym (ap (λ (x : ℕ). x % 64) (pick_no _ _ refl ∙ pick_yes _ _ refl))

module _ (form : Form) (a₀ a₁ x₂ x₃ y₂ y₃ : ℕ) (t : List ℕ) where
  abbrev c : List ℕ
  c = a₀ ∷ a₁ ∷ x₂ ∷ x₃ ∷ t

  abbrev d : List ℕ
  d = a₀ ∷ a₁ ∷ y₂ ∷ y₃ ∷ t

  named_alike : (form : Form) → named form a₀ d ≡ identified (named form a₀ c) (if_enhanced form (y₂ / 64))
  unfolding wdt_at one_or_two if_enhanced
  named_alike Enhanced = refl
  named_alike Short = refl

  pub command_alike : command_of form d ≡ identified (command_of form c) (if_enhanced form (y₂ / 64))
  command_alike = command_named form d ∙ named_alike form ∙ sym (ap (λ (x : Command). identified x (if_enhanced form (y₂ / 64))) (command_named form c))

  written_alike : (form : Form) (by : Carrier) (n : ℕ) → part c (data_from form by) n ≡ part d (data_from form by) n
  unfolding data_from fields_end part
  written_alike Enhanced Parameter n = refl
  written_alike Enhanced Memory n = refl
  written_alike Short Parameter n = refl
  written_alike Short Memory n = refl

  echo_alike : (form : Form) (by : Carrier) → part c (echo_from by) (echo_size form by) ≡ part d (echo_from by) (echo_size form by)
  unfolding echo_from part
  echo_alike form Parameter = refl
  echo_alike form Memory = refl

  fields_alike : (n : ℕ) → part c 4 n ≡ part d 4 n
  unfolding part
  fields_alike n = refl

  pub memory_alike : (e : Effect) (m : List ℕ) → memory_after form e c m ≡ memory_after form e d m
  unfolding memory_after
  memory_alike Quiet m = refl
  memory_alike (Reads by place n) m = refl
  memory_alike (Writes by place n) m = ap (put_at m place) (written_alike form by n)
  memory_alike (Identifies at n) m = refl
  memory_alike (Alarms command communication) m = refl
  memory_alike Connects m = refl

  carried_alike : (by : Carrier) (x y : List ℕ) (k old : ℕ) → x ≡ y → carried_at form by x c k old ≡ carried_at form by y d k old
  unfolding carried_at
  carried_alike by x y k old e =
      λ i. laid_at (data_from form by) (e i) k (laid_at (echo_from by) (echo_alike form by i) k old)

  body_alike : (e : Effect) (sheet m : List ℕ) (k old : ℕ) → body_at form e sheet m c k old ≡ body_at form e sheet m d k old
  unfolding body_at
  body_alike Quiet sheet m k old = refl
  body_alike (Reads by place n) sheet m k old = carried_alike by (part m place n) (part m place n) k old refl
  body_alike (Writes by place n) sheet m k old = carried_alike by _ _ k old (written_alike form by n)
  body_alike (Identifies at n) sheet m k old =
      ap (λ (x : List ℕ). laid_at (fields_end form) (part sheet at n) k (laid_at 4 x k old)) (fields_alike (fields_end form - 4))
  body_alike (Alarms command communication) sheet m k old = refl
  body_alike Connects sheet m k old = ap (λ (x : List ℕ). laid_at 4 x k old) (fields_alike (fields_end form - 4))

  module _ (sheet m : List ℕ) (o : Outcome) (long : Sized form (length c)) (fits : Fitting form o.effect (length c) (length m) (length sheet)) where
    -- what stands before the body, by a command's fields
    abbrev begins : Command → ℕ → ℕ
    begins x k = begun_at form (head_of form x.code x.wdt x.identity o.alarm o.next) (rwdt_of x.wdt o.next) k

    pub reply_long : length (reply_of form sheet m c o) ≡ length (reply_of form sheet m d o)
    reply_long = whole form sheet m c o long fits ∙ sym (whole form sheet m d o long fits)

    -- the second command's reply, by the first one's fields and its identity
    other_at : (k : ℕ) → get_or (reply_of form sheet m d o) k 0 ≡ body_at form o.effect sheet m d k (begins (identified (command_of form c) (if_enhanced form (y₂ / 64))) k)
    other_at k = reply_at_lem form sheet m d o long fits k ∙ ap (λ (x : Command). body_at form o.effect sheet m d k (begins x k)) command_alike

    pub reply_alike : (k : ℕ) → (k ≡ 2 → ⊥) → get_or (reply_of form sheet m c o) k 0 ≡ get_or (reply_of form sheet m d o) k 0
    reply_alike k z =
        let x = command_of form c in
        reply_at_lem form sheet m c o long fits k
        ∙ body_alike o.effect sheet m k (begins x k)
        ∙ ap (body_at form o.effect sheet m d k) (begun_alike x.code x.wdt x.identity (if_enhanced form (y₂ / 64)) o.alarm (rwdt_of x.wdt o.next) o.next form k z)
        ∙ sym (other_at k)

    pub bits_alike : get_or (reply_of form sheet m c o) 2 0 % 64 ≡ get_or (reply_of form sheet m d o) 2 0 % 64
    bits_alike =
        let x = command_of form c in
        let y = identified x (if_enhanced form (y₂ / 64)) in
        ap (λ (n : ℕ). n % 64) (reply_at_lem form sheet m c o long fits 2 ∙ body_behind form sheet m c 2 (begins x 2) (omega arith) o.effect)
        ∙ begun_bits x.code x.wdt x.identity (if_enhanced form (y₂ / 64)) o.alarm (rwdt_of x.wdt o.next) o.next form
        ∙ sym (ap (λ (n : ℕ). n % 64) (other_at 2 ∙ body_behind form sheet m d 2 (begins y 2) (omega arith) o.effect))
