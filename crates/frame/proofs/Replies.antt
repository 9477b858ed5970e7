-- What a reply tells: the laws that everything above a frame uses.
use mathlib.Core.Bool.{Bool, true, false, ◌&&◌}
use mathlib.Core.Logic.{⊎_elim}
use mathlib.Core.Path.{◌≡◌, refl, sym, ap, ◌∙◌}
use mathlib.Core.List.{List, [], ◌∷◌}
use Prim.Native.Nat.{ℕ, ◌+◌, ◌*◌, ◌/◌, ◌%◌, ◌≤◌, ◌<◌}
use native.Mathlib.Omega.{arith}
use lib.Dec.{eqb}
use lib.ListN.{length, get_or, replicate, length-replicate, get_or-replicate, get_or-eq_default}
use Rattle.std.proofs.lemmas.Bool.{cases_lt}
use Rattle.octets.specs.Pick.{pick}
use Rattle.octets.proofs.Overlaid.{put_length}
use Rattle.link.specs.declared.state.LinkState.{LinkState}
use Rattle.machine.specs.declared.words.Command.{Command}
use Rattle.machine.specs.declared.words.Outcome.{Outcome}
use Rattle.sheet.specs.declared.walk.Form.{Form}
use Rattle.sheet.specs.declared.walk.Form.TheVariants.{Enhanced, Short}
use Rattle.frame.specs.Body.{body_of, reply_of, Fitting}
use Rattle.frame.specs.Fields.{command_of}
use Rattle.frame.specs.Head.{rwdt_of, missed_bit, status_of, head_of, begun_of}
use Rattle.frame.specs.Places.{wdt_at, own_alarm_at, Sized}
use Rattle.frame.proofs.Bodies.{laid_at, put_told, twice_length, twice_told, body_at, body_told}

-- head and body, built one after the other, are the reply
module _ (form : Form) (sheet memory command reply : List ℕ) (o : Outcome) (c : Command) (begun built : List ℕ) where
  pub built_reply : c ≡ command_of form command → length reply ≡ length command
      → begun ≡ begun_of form (length reply) c.code c.wdt c.identity o.alarm o.next
      → built ≡ body_of form o.effect sheet memory command begun → built ≡ reply_of form sheet memory command o
  unfolding reply_of
  built_reply read lent first body =
      body
      ∙ ap (body_of form o.effect sheet memory command)
      (first
      ∙ ap (λ (n : ℕ). begun_of form n c.code c.wdt c.identity o.alarm o.next) lent
      ∙ ap (λ (x : Command). begun_of form (length command) x.code x.wdt x.identity o.alarm o.next) read)

-- the status word's two octets
low : (b d : Bool) (identity alarm latch : ℕ) → (pick b 0 1 + pick d 0 2 + 4 + 64 * (identity % 4) + 256 * (alarm % 16) + 4096 * (latch % 16)) % 256
    ≡ 4 + pick b 0 1 + pick d 0 2 + 64 * (identity % 4)
unfolding pick
low true true identity alarm latch = omega arith
low true false identity alarm latch = omega arith
low false true identity alarm latch = omega arith
low false false identity alarm latch = omega arith

high : (b d : Bool) (identity alarm latch : ℕ) → alarm < 16 → latch < 16
    → (pick b 0 1 + pick d 0 2 + 4 + 64 * (identity % 4) + 256 * (alarm % 16) + 4096 * (latch % 16)) / 256 ≡ alarm + 16 * latch
unfolding pick
high true true identity alarm latch a l = omega arith
high true false identity alarm latch a l = omega arith
high false true identity alarm latch a l = omega arith
high false false identity alarm latch a l = omega arith

rwdt : (b : Bool) (rsn mn : ℕ) → rsn < 16 → pick b (16 * (rsn % 16) + mn) 0 ≡ pick b (16 * rsn + mn) 0
unfolding pick
rwdt true rsn mn l = omega arith
rwdt false rsn mn l = refl

-- the first four octets in numbers: the code, then RWDT or the alarm, then the status, whose high octet has the alarm in the enhanced type
abbrev pub second_of : Form → ℕ → ℕ → ℕ
second_of Enhanced rwdt alarm = rwdt
second_of Short rwdt alarm = alarm

abbrev pub high_alarm : Form → ℕ → ℕ
high_alarm Enhanced alarm = alarm
high_alarm Short alarm = 0

abbrev pub rwdt_told : ℕ → LinkState → ℕ
rwdt_told wdt next = pick (eqb next.link 3) (16 * next.watch.rsn + wdt % 16) 0

abbrev pub low_told : ℕ → LinkState → ℕ
low_told identity next =
    4 + pick (eqb next.latches.command 0 && eqb next.latches.communication 0) 0 1 + pick (eqb next.watch.failures 0) 0 2 + 64 * (identity % 4)

abbrev pub head_told : Form → ℕ → ℕ → ℕ → ℕ → LinkState → List ℕ
head_told form code wdt identity alarm next =
    code ∷ second_of form (rwdt_told wdt next) alarm ∷ low_told identity next ∷ (high_alarm form alarm + 16 * next.latches.communication) ∷ []

-- the alarm can be read back out of the head
pub own_alarm : (form : Form) (code wdt identity alarm : ℕ) (next : LinkState) → alarm < 16
    → get_or (head_told form code wdt identity alarm next) (own_alarm_at form) 0 % 16 ≡ alarm
unfolding own_alarm_at
own_alarm Enhanced code wdt identity alarm next small = omega arith
own_alarm Short code wdt identity alarm next small = omega arith

-- what stands at octet k before the body
unfoldable pub begun_at : Form → List ℕ → ℕ → ℕ → ℕ
begun_at Enhanced head rwdt k = laid_at 0 head k 0
begun_at Short head rwdt k = laid_at 15 (rwdt ∷ []) k (laid_at 0 head k 0)

pub begun_enhanced : (head : List ℕ) (rwdt k : ℕ) → begun_at Enhanced head rwdt k ≡ laid_at 0 head k 0
unfolding begun_at
begun_enhanced head rwdt k = refl

pub begun_short : (head : List ℕ) (rwdt k : ℕ) → begun_at Short head rwdt k ≡ laid_at 15 (rwdt ∷ []) k (laid_at 0 head k 0)
unfolding begun_at
begun_short head rwdt k = refl

zeros_at : (l k : ℕ) → get_or (replicate {A = ℕ} l 0) k 0 ≡ 0
zeros_at l k =
    ⊎_elim (λ (u : k < l). get_or-replicate l k 0 0 u)
    (λ (u : l ≤ k). let e = length-replicate {A = ℕ} l 0 in get_or-eq_default (replicate l 0) 0 {n = k} (omega arith)) (cases_lt k l)

-- the head of an outcome in numbers, where each fits its bits
module _ (code wdt identity alarm : ℕ) (next : LinkState) (rsn : next.watch.rsn < 16) where
  pub rwdt_is : rwdt_of wdt next ≡ rwdt_told wdt next
  unfolding rwdt_of
  rwdt_is = rwdt (eqb next.link 3) next.watch.rsn (wdt % 16) rsn

  module _ (small : alarm < 16) (latch : next.latches.communication < 16) where
    abbrev quiet : Bool
    quiet = eqb next.latches.command 0 && eqb next.latches.communication 0

    abbrev none : Bool
    none = eqb next.watch.failures 0

    pub head_is : (form : Form) → head_of form code wdt identity alarm next ≡ head_told form code wdt identity alarm next
    unfolding head_of status_of missed_bit
    head_is Enhanced =
        λ i. code ∷ rwdt_is i ∷ low quiet none identity alarm next.latches.communication i
        ∷ high quiet none identity alarm next.latches.communication small latch i ∷ []
    head_is Short =
        λ i. code ∷ alarm ∷ low quiet none identity 0 next.latches.communication i
        ∷ high quiet none identity 0 next.latches.communication (omega arith) latch i ∷ []

module _ (code wdt identity alarm : ℕ) (next : LinkState) (l : ℕ) where
  begun_length : (form : Form) → Sized form l → length (begun_of form l code wdt identity alarm next) ≡ l
  unfolding begun_of head_of wdt_at Sized
  begun_length Enhanced long = let e = length-replicate {A = ℕ} l 0 in put_length (replicate l 0) 0 _ (omega arith) ∙ e
  begun_length Short long = let e = length-replicate {A = ℕ} l 0 in twice_length (replicate l 0) 0 _ 15 _ (omega arith) (omega arith) ∙ e

  begun_at_lem : (form : Form) → Sized form l → (k : ℕ)
      → get_or (begun_of form l code wdt identity alarm next) k 0 ≡ begun_at form (head_of form code wdt identity alarm next) (rwdt_of wdt next) k
  unfolding begun_of begun_at wdt_at Sized head_of
  begun_at_lem Enhanced long k =
      let e = length-replicate {A = ℕ} l 0 in
      let head = head_of Enhanced code wdt identity alarm next in
      put_told (replicate l 0) 0 head (omega arith) k ∙ ap (laid_at 0 head k) (zeros_at l k)
  begun_at_lem Short long k =
      let e = length-replicate {A = ℕ} l 0 in
      let head = head_of Short code wdt identity alarm next in
      let rwdt = rwdt_of wdt next ∷ [] in
      twice_told (replicate l 0) 0 head 15 rwdt (omega arith) (omega arith) k ∙ ap (λ (z : ℕ). laid_at 15 rwdt k (laid_at 0 head k z)) (zeros_at l k)

-- a reply has L octets, and octet by octet it is the body over the head
module _ (form : Form) (sheet m c : List ℕ) (o : Outcome) (long : Sized form (length c)) (fits : Fitting form o.effect (length c) (length m) (length sheet)) where
  abbrev pub head_in : List ℕ
  head_in = head_of form (command_of form c).code (command_of form c).wdt (command_of form c).identity o.alarm o.next

  abbrev begun : List ℕ
  begun = begun_of form (length c) (command_of form c).code (command_of form c).wdt (command_of form c).identity o.alarm o.next

  begun_long : length begun ≡ length c
  begun_long = begun_length (command_of form c).code (command_of form c).wdt (command_of form c).identity o.alarm o.next (length c) form long

  pub whole : length (reply_of form sheet m c o) ≡ length c
  unfolding reply_of
  whole = (body_told form sheet m c begun (sym begun_long) o.effect fits).0 ∙ begun_long

  pub reply_at_lem : (k : ℕ) → get_or (reply_of form sheet m c o) k 0
      ≡ body_at form o.effect sheet m c k (begun_at form head_in (rwdt_of (command_of form c).wdt o.next) k)
  unfolding reply_of
  reply_at_lem k =
      (body_told form sheet m c begun (sym begun_long) o.effect fits).1 k
      ∙ ap (body_at form o.effect sheet m c k)
      (begun_at_lem (command_of form c).code (command_of form c).wdt (command_of form c).identity o.alarm o.next (length c) form long k)
