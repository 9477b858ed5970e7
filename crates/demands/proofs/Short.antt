-- Request 7: the short type's replies, its codes, and no profile.
use mathlib.Core.Bool.{Bool, true, false, false≢true}
use mathlib.Core.Path.{◌≡◌, refl, sym, ap, subst, ◌∙◌}
use mathlib.Core.List.{List, [], ◌∷◌}
use Prim.Native.Nat.{ℕ, ◌+◌, ◌*◌, ◌%◌, ◌<◌}
use native.Mathlib.Omega.{arith}
use lib.Dec.{eqb}
use lib.ListN.{length, get_or}
use Rattle.law.specs.Words.{when, Every, one_of, laid}
use Rattle.law.specs.Sheet.{PduType, short, Sheet, GoodLength, sheet_octets}
use Rattle.law.specs.State.{link, rsn, valid_state}
use Rattle.law.specs.Table.{Row, table_of, table}
use Rattle.law.specs.Exchange.{code, wdt, missed, fate_of, rwdt_for, head_for, state_after, reply_for}
use Rattle.slave.specs.Answers.{told}
use Rattle.slave.specs.Exchange.{Left, left, exchange_of}
use Rattle.demands.specs.Accepted.{accepted}
use Rattle.demands.specs.Answered.{Answered, alarm_in, InBody}
use Rattle.demands.specs.Short.{ShortReply, ShortReplies, NoMemoryCommands, with_profile, ProfileIsNotChecked}
use Rattle.demands.specs.Watchdog.{rwdt_of, rwdt}
use Rattle.demands.proofs.Done.{lawful, answered_done, seen_whole, seen_code, seen_head, seen_body, seen_rwdt}
use Rattle.demands.proofs.OnTheWire.{refused_on_the_wire}
use Rattle.demands.proofs.Pieces.{head_size}
use Rattle.demands.proofs.Places.{unknown_code_is_told}
use Rattle.demands.proofs.Exact.{acceptance_is_exact}

module _ (h : Sheet) (sheet s m c r : List ℕ) (is_short : h.pdu ≡ short) (a : Answered h sheet s m c r) where
  abbrev x : Left
  x = exchange_of sheet s m c r

  is : x ≡ left (told 0 (fate_of h s m c).place) (lawful h s m c).state (lawful h s m c).memory (lawful h s m c).reply
  is = answered_done h sheet s m c r a

  -- an octet of the head, as the short type has it
  head_at : (k : ℕ) → k < head_size → get_or x.reply k 0 ≡ laid (head_for short h c (fate_of h s m c).alarm x.state) k 0
  head_at k l =
      ap (λ (y : Left). get_or y.reply k 0) is ∙ seen_head h s m c a.good.l k l
      ∙ ap (λ (p : PduType). laid (head_for p h c (fate_of h s m c).alarm (lawful h s m c).state) k 0) is_short
      ∙ ap (λ (t : List ℕ). laid (head_for short h c (fate_of h s m c).alarm t) k 0) (sym (ap (λ (y : Left). y.state) is))

  rwdt_at : rwdt_of short x.reply ≡ when (eqb (link x.state) 3) (16 * rsn x.state + wdt short c % 16) 0
  rwdt_at =
      ap (λ (p : PduType). rwdt_of p x.reply) (sym is_short) ∙ ap (λ (y : Left). rwdt h y.reply) is ∙ seen_rwdt h s m c a.good.l
      ∙ ap (λ (t : List ℕ). rwdt_for h c t) (sym (ap (λ (y : Left). y.state) is))
      ∙ ap (λ (p : PduType). when (eqb (link x.state) 3) (16 * rsn x.state + wdt p c % 16) 0) is_short

  -- every octet of the body is one of the reply's
  within : (k : ℕ) → k < 15 → k < h.l
  within k u = let e = subst (λ (p : PduType). GoodLength p h.l) is_short a.good.l in omega arith

  pub reply_is : ShortReply h s m c x
  unfolding laid when
  reply_is = record {
    sixteen = ap (λ (y : Left). length y.reply) is ∙ seen_whole h s m c a.good.l ∙ subst (λ (p : PduType). GoodLength p h.l) is_short a.good.l;
    code_again = ap (λ (y : Left). code y.reply) is ∙ seen_code h s m c a.good.l;
    alarm = head_at 1 (omega arith);
    low_status = head_at 2 (omega arith);
    high_status = head_at 3 (omega arith);
    body = λ k l u. ap (λ (y : Left). get_or y.reply k 0) is ∙ seen_body h s m c a.good.l k (subst (λ (p : PduType). InBody p k) (sym is_short) (l, u)) (within k u);
    rwdt_last = rwdt_at;
  }

  module _ (go : missed h s c ≡ false) (memory-code : one_of (code c) (0x1D ∷ 0x1E ∷ []) ≡ true) where
    -- no row of the short table has such a code
    other_code : (k : ℕ) → (one_of k (0x1D ∷ 0x1E ∷ []) ≡ true → ⊥) → code c ≡ k → ⊥
    other_code k z e = z (ap (λ (n : ℕ). one_of n (0x1D ∷ 0x1E ∷ [])) (sym e) ∙ memory-code)

    none : Every (λ (q : Row). code c ≡ q.code → ⊥) (table h s m c)
    none =
        subst (λ (p : PduType). Every (λ (q : Row). code c ≡ q.code → ⊥) (table_of h s m c p)) (sym is_short) (
          other_code 0x00 false≢true,
          (
            other_code 0x01 false≢true,
            (
              other_code 0x02 false≢true,
              (
                other_code 0x03 false≢true,
                (
                  other_code 0x05 false≢true,
                  (
                    other_code 0x06 false≢true,
                    (other_code 0x0D false≢true, (other_code 0x0E false≢true, (other_code 0x0F false≢true, tt))),
                  ),
                ),
              ),
            ),
          ),
        )

    pub unknown : (alarm_in h x.reply ≡ 8) × (x.answer.place ≡ 0)
    unknown = unknown_code_is_told h sheet s m c r a go none

    -- a command with an alarm is not accepted
    not_accepted : (b : Bool) → accepted h s m c ≡ b → accepted h s m c ≡ false
    not_accepted true e =
        let z = ((acceptance_is_exact h sheet s m c r a).0 e).no_alarm in
        absurd (let k = unknown.0 in omega (arith, z, k))
    not_accepted false e = e

    pub keeps : x.memory ≡ m
    keeps = (refused_on_the_wire h sheet s m c r a (not_accepted (accepted h s m c) refl)).nothing_stored

pub short_replies : ShortReplies
short_replies h sheet s m c r e a = reply_is h sheet s m c r e a

pub no_memory_commands : NoMemoryCommands
no_memory_commands h sheet s m c r e a go k = ((unknown h sheet s m c r e a go k).0, (unknown h sheet s m c r e a go k).1, keeps h sheet s m c r e a go k)

-- the short table does not name the profile
same_done : (h : Sheet) (p q : ℕ) (s m c : List ℕ)
    → left (told 0 (fate_of (with_profile h p) s m c).place) (lawful (with_profile h p) s m c).state (lawful (with_profile h p) s m c).memory (lawful (with_profile h p) s m c).reply
    ≡ left (told 0 (fate_of (with_profile h q) s m c).place) (lawful (with_profile h q) s m c).state (lawful (with_profile h q) s m c).memory (lawful (with_profile h q) s m c).reply
unfolding fate_of state_after reply_for
same_done h p q s m c = refl

pub profile_is_not_checked : ProfileIsNotChecked
unfolding valid_state
profile_is_not_checked h p q s m c r octet a =
    let g = a.good in
    let b : Answered (with_profile h q) (sheet_octets (with_profile h q)) s m c r = record {
      good = record {
        l = g.l;
        version = g.version;
        profile = octet;
        regions = g.regions;
        parameters = g.parameters;
        items = g.items;
        apart = g.apart;
        numbers_rise = g.numbers_rise;
        codes_rise = g.codes_rise;
        few_regions = g.few_regions;
        few_parameters = g.few_parameters;
        few_items = g.few_items;
        tolerances = g.tolerances;
        once = g.once;
        releases = g.releases;
        picked_once = g.picked_once;
      };
      written = refl;
      valid = a.valid;
      whole = a.whole;
      asked = a.asked;
      lent = a.lent;
      enabled = a.enabled;
    } in
    answered_done (with_profile h p) (sheet_octets (with_profile h p)) s m c r a ∙ same_done h p q s m c
    ∙ sym (answered_done (with_profile h q) (sheet_octets (with_profile h q)) s m c r b)
