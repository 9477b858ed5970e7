-- Two answers that meet one statement are equal.
use mathlib.Core.Path.{◌≡◌, sym, ap, ◌∙◌}
use Prim.Native.Nat.{ℕ}
use mathlib.Core.List.{List}
use Rattle.difference.specs.Difference.{Listed, listed}
use Rattle.slave.specs.Wanted.{stepped, Performed, performed}
use Rattle.replay.specs.Replay.{Replayed, replayed}
use Rattle.slave.specs.declared.answers.Answer.{Answer}
use Rattle.slave.specs.Calls.{After, after}
use Rattle.slave.specs.Exchange.{Left, left}
use Rattle.type24.specs.Packed.{PackedAfter, packed_after, PackedLeft, packed_left, PackedReplay, packed_replay, PackedList, packed_list}
use Rattle.demands.specs.Unique.{OneAnswer, OneAnswers}
use Rattle.demands.proofs.Answered.{answered_one, answered_at_one, stopped_one, form_one, found_one, entered_one, octet_one, length_one}

pub one_answer : OneAnswer
one_answer A x y defined p q = p ∙ sym q

-- the same of an answer with the lent octets beside it, field by field
of_after : (defined : After) (r q : _) (s t : List ℕ) → after r s ≡ defined → after q t ≡ defined → (r ≡ q) × (s ≡ t)
of_after defined r q s t a b =
    let e = one_answer After (after r s) (after q t) defined a b in
    (ap (λ (x : After). x.answer) e, ap (λ (x : After). x.state) e)

of_left : (defined : Left) (r q : _) (s t m n o p : List ℕ) → left r s m o ≡ defined → left q t n p ≡ defined
    → (r ≡ q) × (s ≡ t) × (m ≡ n) × (o ≡ p)
of_left defined r q s t m n o p a b =
    let e = one_answer Left (left r s m o) (left q t n p) defined a b in
    (ap (λ (x : Left). x.answer) e, ap (λ (x : Left). x.state) e, ap (λ (x : Left). x.memory) e, ap (λ (x : Left). x.reply) e)

of_packed_after : (defined : PackedAfter) (r q : ℕ) (s t : List ℕ) → packed_after r s ≡ defined → packed_after q t ≡ defined → (r ≡ q) × (s ≡ t)
of_packed_after defined r q s t a b =
    let e = one_answer PackedAfter (packed_after r s) (packed_after q t) defined a b in
    (ap (λ (x : PackedAfter). x.answer) e, ap (λ (x : PackedAfter). x.state) e)

of_packed_left : (defined : PackedLeft) (r q : ℕ) (s t m n o p : List ℕ) → packed_left r s m o ≡ defined → packed_left q t n p ≡ defined
    → (r ≡ q) × (s ≡ t) × (m ≡ n) × (o ≡ p)
of_packed_left defined r q s t m n o p a b =
    let e = one_answer PackedLeft (packed_left r s m o) (packed_left q t n p) defined a b in (
      ap (λ (x : PackedLeft). x.answer) e,
      ap (λ (x : PackedLeft). x.state) e,
      ap (λ (x : PackedLeft). x.memory) e,
      ap (λ (x : PackedLeft). x.reply) e,
    )

of_packed_replay : (defined : PackedReplay) (r q : ℕ) (s t m n : List ℕ) → packed_replay r s m ≡ defined → packed_replay q t n ≡ defined
    → (r ≡ q) × (s ≡ t) × (m ≡ n)
of_packed_replay defined r q s t m n a b =
    let e = one_answer PackedReplay (packed_replay r s m) (packed_replay q t n) defined a b in
    (ap (λ (x : PackedReplay). x.answer) e, ap (λ (x : PackedReplay). x.state) e, ap (λ (x : PackedReplay). x.memory) e)

of_performed : (defined : Performed) (d e : ℕ) (s t m n o p : List ℕ) → performed (stepped d s m) o ≡ defined → performed (stepped e t n) p ≡ defined
    → (d ≡ e) × (s ≡ t) × (m ≡ n) × (o ≡ p)
of_performed defined d e s t m n o p a b =
    let q = one_answer Performed (performed (stepped d s m) o) (performed (stepped e t n) p) defined a b in (
      ap (λ (x : Performed). x.step.at) q,
      ap (λ (x : Performed). x.step.state) q,
      ap (λ (x : Performed). x.step.memory) q,
      ap (λ (x : Performed). x.reply) q,
    )

of_replayed : (defined : Replayed) (r q : Answer) (s t m n : List ℕ) → replayed r s m ≡ defined → replayed q t n ≡ defined → (r ≡ q) × (s ≡ t) × (m ≡ n)
of_replayed defined r q s t m n a b =
    let e = one_answer Replayed (replayed r s m) (replayed q t n) defined a b in
    (ap (λ (x : Replayed). x.answer) e, ap (λ (x : Replayed). x.state) e, ap (λ (x : Replayed). x.memory) e)

of_packed_list : (defined : PackedList) (r q : ℕ) (s t : List ℕ) → packed_list r s ≡ defined → packed_list q t ≡ defined → (r ≡ q) × (s ≡ t)
of_packed_list defined r q s t a b =
    let e = one_answer PackedList (packed_list r s) (packed_list q t) defined a b in
    (ap (λ (x : PackedList). x.answer) e, ap (λ (x : PackedList). x.list) e)

of_listed : (defined : Listed) (r q : Answer) (s t : List ℕ) → listed r s ≡ defined → listed q t ≡ defined → (r ≡ q) × (s ≡ t)
of_listed defined r q s t a b =
    let e = one_answer Listed (listed r s) (listed q t) defined a b in
    (ap (λ (x : Listed). x.answer) e, ap (λ (x : Listed). x.list) e)

pub one_answers : OneAnswers
one_answers = record {
  of_every_promise = one_answer;
  t24_sheet = λ sheet r q a b. one_answer ℕ r q _ a b;
  t24_lengths = λ sheet r q a b. one_answer ℕ r q _ a b;
  t24_reset = λ sheet state r q s t a b. of_packed_after _ r q s t a b;
  t24_enable = λ sheet state r q s t a b. of_packed_after _ r q s t a b;
  t24_turn = λ sheet old state r q s t a b. of_packed_after _ r q s t a b;
  t24_exchange = λ sheet state memory command reply r q s t m n o p a b. of_packed_left _ r q s t m n o p a b;
  t24_replay = λ sheet state memory trace r q s t m n a b. of_packed_replay _ r q s t m n a b;
  t24_difference = λ first second list r q s t a b. of_packed_list _ r q s t a b;
  slave_reset = λ sheet state r q s t a b. of_after _ r q s t a b;
  slave_enable = λ sheet state r q s t a b. of_after _ r q s t a b;
  slave_turn = λ sheet old state r q s t a b. of_after _ r q s t a b;
  slave_exchange = λ sheet state memory command reply r q s t m n o p a b. of_left _ r q s t m n o p a b;
  slave_perform = λ sheet lay st state memory command wanted d e s t m n o p a b. of_performed _ d e s t m n o p a b;
  replay_step = λ sheet l state memory room command reply d e s t m n o p a b. of_performed _ d e s t m n o p a b;
  replay_replay = λ sheet state memory trace r q s t m n a b. of_replayed _ r q s t m n a b;
  difference_difference = λ first second list r q s t a b. of_listed _ r q s t a b;
  slave_reset_result = λ sheet state r q s t a b. let e = of_after _ _ _ s t a b in (answered_one r q e.0, e.1);
  slave_enable_result = λ sheet state r q s t a b. let e = of_after _ _ _ s t a b in (answered_one r q e.0, e.1);
  slave_turn_result = λ sheet old state r q s t a b. let e = of_after _ _ _ s t a b in (answered_one r q e.0, e.1);
  slave_exchange_result = λ sheet state memory command reply r q s t m n o p a b. let e = of_left _ _ _ s t m n o p a b in (answered_at_one r q e.0, e.1, e.2, e.3);
  replay_step_option = λ sheet l state memory room command reply d e s t m n o p x y a b.
      let q = of_performed _ _ _ s t m n o p a b in (octet_one l d e x y q.0, q.1, q.2, q.3);
  replay_kind_option = λ kind d e x y a b. length_one d e x y (a ∙ sym b);
  replay_fault_option = λ l rest d e a b. found_one d e (a ∙ sym b);
  replay_form_result = λ l trace r q a b. form_one r q (a ∙ sym b);
  replay_replay_result = λ sheet state memory trace r q s t m n a b. let e = of_replayed _ _ _ s t m n a b in (stopped_one r q e.0, e.1, e.2);
  difference_difference_result = λ first second list r q s t a b. let e = of_listed _ _ _ s t a b in (entered_one r q e.0, e.1);
}
