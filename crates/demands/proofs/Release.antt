-- Request 13: both releases come to the same where the octets that a command does not name are zero.
--     rows_pair        the tables of the two sheets, row by row: they differ in one check
--     fate_same        where those octets are zero, a command's fate is the same
use mathlib.Core.Bool.{true, false, not}
use mathlib.Core.List.{List, [], ◌∷◌, ◌++◌}
use mathlib.Core.Logic.{⊎_elim}
use mathlib.Core.Path.{◌≡◌, refl, sym, ap, ap₂, subst, ◌∙◌}
use Prim.Native.Nat.{ℕ, suc}
use native.Mathlib.Omega.{arith}
use borrow.Author.Tests.{eq-eqb, ne_eqb, eqb-true, not-true}
use lib.Dec.{eqb}
use lib.ListN.{length, take, drop, replicate}
use Rattle.std.proofs.lemmas.Bool.{and_parts}
use Rattle.octets.proofs.Cases.{eq_or_ne}
use Rattle.law.specs.Words.{when, Every, one_of, Piece, over}
use Rattle.law.specs.Sheet.{PduType, enhanced, short, Sheet, WellFormed, is_release2, sheet_octets, room}
use Rattle.law.specs.State.{link, valid_state}
use Rattle.law.specs.Memory.{cells, stored}
use Rattle.law.specs.Table.{Check, check, Row, stray, stray_in, table_of, table}
use Rattle.law.specs.Exchange.{Fate, code, missed, refused, checked, judged, fate_of, mn, failing, passing, state_after, head_for, reply_for}
use Rattle.law.specs.Calls.{Result, result, done, exchange}
use Rattle.law.proofs.Calls.{exchange_good}
use Rattle.law.proofs.Laid.{when_yes, when_no}
use Rattle.law.proofs.Zeros.{alarmed}
use Rattle.slave.specs.Exchange.{Left, exchange_of}
use Rattle.demands.specs.Accepted.{Executed}
use Rattle.demands.specs.Answered.{Answered, alarm_in, tolerated_in}
use Rattle.demands.specs.Places.{Holds, all_checks}
use Rattle.demands.specs.Release.{ruled, Release1, release2, UnnamedAreZero, SameWhereZero, AcceptedIfZero}
use Rattle.demands.proofs.Exact.{acceptance_is_exact}
use Rattle.demands.proofs.Fates.{done_row}
use Rattle.demands.proofs.Places.{first_failed_is_told}
use Rattle.demands.proofs.Stray.{stray_zero, zero_stray}

-- release 1 is not release 2
not_two : (releases : List ℕ) (h : Sheet) → Release1 releases → is_release2 (ruled releases h) ≡ false
not_two releases h =
    ⊎_elim (λ (e : releases ≡ []). ap (λ (rs : List ℕ). is_release2 (ruled rs h)) e) (λ (e : releases ≡ 1 ∷ []). ap (λ (rs : List ℕ). is_release2 (ruled rs h)) e)

module _ (h : Sheet) (releases : List ℕ) (one : Release1 releases) (s m c : List ℕ) where
  abbrev pub low : Sheet
  low = ruled releases h

  abbrev pub high : Sheet
  high = ruled release2 h

  -- the check of both, where the octet that should be zero is x
  abbrev pub zero_check : ℕ → Check
  zero_check x = check (eqb x 0) 9 x

  -- a row of the two tables: the same, but for one check behind the first n
  pub record Pair (t : PduType) (r q : Row) : Type 0 where
    pub n : ℕ
    pub code : r.code ≡ q.code
    pub links : r.links ≡ q.links
    pub named : r.named ≡ q.named
    pub first : r.checks ≡ take n r.checks ++ zero_check (stray_in low s m c t r.named) ∷ drop (suc n) r.checks
    pub second : q.checks ≡ take n r.checks ++ zero_check (stray_in high s m c t r.named) ∷ drop (suc n) r.checks
    pub done : done_row r ≡ done_row q
    pub nine : alarmed 9 (take n r.checks) ≡ true
    pub ten : alarmed 10 (drop (suc n) r.checks) ≡ true

  abbrev pub Pairs : PduType → List Row → List Row → Type 0
  Pairs t [] [] = Unit {0}
  Pairs t [] (q ∷ qs) = ⊥
  Pairs t (r ∷ rs) [] = ⊥
  Pairs t (r ∷ rs) (q ∷ qs) = Pair t r q × Pairs t rs qs

  pub rows_pair : (t : PduType) → Pairs t (table_of low s m c t) (table_of high s m c t)
  unfolding when
  rows_pair enhanced =
      (record { n = 0; code = refl; links = refl; named = refl; first = refl; second = refl; done = refl; nine = refl; ten = refl }, (record { n = 3; code = refl; links = refl; named = refl; first = refl; second = refl; done = refl; nine = refl; ten = refl }, (record { n = 3; code = refl; links = refl; named = refl; first = refl; second = refl; done = refl; nine = refl; ten = refl }, (record { n = 4; code = refl; links = refl; named = refl; first = refl; second = refl; done = refl; nine = refl; ten = refl }, (record { n = 2; code = refl; links = refl; named = refl; first = refl; second = refl; done = refl; nine = refl; ten = refl }, (record { n = 1; code = refl; links = refl; named = refl; first = refl; second = refl; done = refl; nine = refl; ten = refl }, (record { n = 0; code = refl; links = refl; named = refl; first = refl; second = refl; done = refl; nine = refl; ten = refl }, (record { n = 4; code = refl; links = refl; named = refl; first = refl; second = refl; done = refl; nine = refl; ten = refl }, (record { n = 0; code = refl; links = refl; named = refl; first = refl; second = refl; done = refl; nine = refl; ten = refl }, (record { n = 4; code = refl; links = refl; named = refl; first = refl; second = refl; done = refl; nine = refl; ten = refl }, (record { n = 4; code = refl; links = refl; named = refl; first = refl; second = refl; done = refl; nine = refl; ten = refl }, tt)))))))))))
  rows_pair short =
      (record { n = 0; code = refl; links = refl; named = refl; first = refl; second = refl; done = refl; nine = refl; ten = refl }, (record { n = 3; code = refl; links = refl; named = refl; first = refl; second = refl; done = refl; nine = refl; ten = refl }, (record { n = 3; code = refl; links = refl; named = refl; first = refl; second = refl; done = refl; nine = refl; ten = refl }, (record { n = 4; code = refl; links = refl; named = refl; first = refl; second = refl; done = refl; nine = refl; ten = refl }, (record { n = 1; code = refl; links = refl; named = refl; first = refl; second = refl; done = refl; nine = refl; ten = refl }, (record { n = 1; code = refl; links = refl; named = refl; first = refl; second = refl; done = refl; nine = refl; ten = refl }, (record { n = 0; code = refl; links = refl; named = refl; first = refl; second = refl; done = refl; nine = refl; ten = refl }, (record { n = 3; code = refl; links = refl; named = refl; first = refl; second = refl; done = refl; nine = refl; ten = refl }, (record { n = 0; code = refl; links = refl; named = refl; first = refl; second = refl; done = refl; nine = refl; ten = refl }, tt)))))))))

  -- what is checked of a row goes by what it does
  pub by_done : (ks : List Check) (r q : Row) → done_row r ≡ done_row q → checked s ks r ≡ checked s ks q
  unfolding checked
  by_done [] r q e = e
  by_done (k ∷ ks) r q e = ap (λ (f : Fate). when k.holds f (refused s k.alarm k.place)) (by_done ks r q e)

  -- where the octet is none, so is it for both
  pub low_none : (t : PduType) (r : Row) → stray_in low s m c t r.named ≡ 0
  low_none t r = when_no _ _ (not_two releases h one)

  pair_same : (t : PduType) (r q : Row) → Pair t r q → stray t r.named c ≡ 0 → checked s (all_checks s r) r ≡ checked s (all_checks s q) q
  pair_same t r q p z =
      let x = stray_in low s m c t r.named in
      let to : x ≡ stray_in high s m c t r.named = low_none t r ∙ sym (when_yes _ _ refl ∙ z) in
      let checks = p.first ∙ ap (λ (y : ℕ). take p.n r.checks ++ zero_check y ∷ drop (suc p.n) r.checks) to ∙ sym p.second in
      ap₂ (λ (ls : List ℕ) (ks : List Check). checked s (check (one_of (link s) ls) 12 0 ∷ ks) r) p.links checks
      ∙ by_done (all_checks s q) r q p.done

  judged_same : (t : PduType) (k : ℕ) (rs qs : List Row) → Pairs t rs qs → Every (λ (r : Row). k ≡ r.code → stray t r.named c ≡ 0) rs
      → judged s k rs ≡ judged s k qs
  unfolding judged
  judged_same t k [] [] p z = refl
  judged_same t k [] (q ∷ qs) p z = absurd p
  judged_same t k (r ∷ rs) [] p z = absurd p
  judged_same t k (r ∷ rs) (q ∷ qs) p z =
      ⊎_elim
      (λ (e : k ≡ r.code).
      when_yes _ _ (eq-eqb k r.code e) ∙ pair_same t r q p.0 (z.0 e) ∙ sym (when_yes _ _ (eq-eqb k q.code (e ∙ p.0.code))))
      (λ (e : k ≡ r.code → ⊥).
      when_no _ _ (ne_eqb k r.code e) ∙ judged_same t k rs qs p.1 z.1 ∙ sym (when_no _ _ (ne_eqb k q.code (λ f. e (f ∙ sym p.0.code)))))
      (eq_or_ne k r.code)

  -- a check among others that all hold
  among : (ks : List Check) (k : Check) (more : List Check) → Every Holds (ks ++ k ∷ more) → Holds k
  among [] k more all = all.0
  among (x ∷ ks) k more all = among ks k more all.1

  -- where all checks of release 2 hold, the octets are zero
  held_zero : (t : PduType) (rs qs : List Row) → Pairs t rs qs → Every (λ (q : Row). code c ≡ q.code → Every Holds (all_checks s q)) qs
      → Every (λ (r : Row). code c ≡ r.code → stray t r.named c ≡ 0) rs
  held_zero t [] [] p all = tt
  held_zero t [] (q ∷ qs) p all = absurd p
  held_zero t (r ∷ rs) [] p all = absurd p
  held_zero t (r ∷ rs) (q ∷ qs) p all = (
    λ e.
        let held = subst (Every Holds) p.0.second (all.0 (e ∙ p.0.code)).1 in
        sym (when_yes _ _ refl) ∙ eqb-true _ 0 (among (take p.0.n r.checks) _ (drop (suc p.0.n) r.checks) held),
    held_zero t rs qs p.1 all.1,
  )

  -- what is done of a fate does not go by the release
  head_same : (t : PduType) (alarm : ℕ) (u : List ℕ) → head_for t low c alarm u ≡ head_for t high c alarm u
  head_same enhanced alarm u = refl
  head_same short alarm u = refl

  pub done_same : (f : Fate) → done low s m c f ≡ done high s m c f
  unfolding reply_for
  done_same f =
      let u = state_after s (mn low c) f.changes in
      ap (λ (head : List Piece). result 0 f.place u (stored f.stores (cells h.regions) m) (over (head ++ f.body) (replicate h.l 0)))
      (head_same h.pdu f.alarm u)

  module _ (zeros : Every (λ (r : Row). code c ≡ r.code → stray h.pdu r.named c ≡ 0) (table low s m c)) where
    pub fate_same : fate_of low s m c ≡ fate_of high s m c
    unfolding fate_of
    fate_same =
        ap (λ (f : Fate). when (missed low s c) (failing low s) (passing f)) (judged_same h.pdu (code c) (table low s m c) (table high s m c) (rows_pair h.pdu) zeros)

    pub exchange_same : (r : List ℕ) → exchange low s m c r ≡ exchange high s m c r
    unfolding exchange valid_state
    exchange_same r =
        ap (λ (x : Result).
        when (not (valid_state low s)) (result 1 0 s m r)
        (when (not (eqb (length m) (room h.regions))) (result 2 0 s m r)
        (when (not (eqb (length c) h.l)) (result 3 0 s m r)
        (when (not (eqb (length r) h.l)) (result 4 0 s m r)
        (when (eqb (link s) 0) (result 5 0 s m r) x)))))
        (ap (done low s m c) fate_same ∙ done_same (fate_of high s m c))

-- a well-formed sheet with release 1 is one with release 2
pub with_two : (h : Sheet) (releases : List ℕ) → WellFormed (ruled releases h) → WellFormed (ruled release2 h)
with_two h releases w = record {
  l = w.l;
  version = w.version;
  profile = w.profile;
  regions = w.regions;
  parameters = w.parameters;
  items = w.items;
  apart = w.apart;
  numbers_rise = w.numbers_rise;
  codes_rise = w.codes_rise;
  few_regions = w.few_regions;
  few_parameters = w.few_parameters;
  few_items = w.few_items;
  tolerances = w.tolerances;
  once = w.once;
  releases = ((omega arith, omega arith), tt);
  picked_once = omega arith;
}

-- each of a list, by what another has
each : {P Q : Row → Type 0} (rs : List Row) → ((r : Row) → P r → Q r) → Every P rs → Every Q rs
each [] go all = tt
each (r ∷ rs) go all = (go r all.0, each rs go all.1)

-- the octets that should be zero, by the law's word for the first that is not
module _ (h : Sheet) (releases : List ℕ) (s m c : List ℕ) where
  none_stray : UnnamedAreZero h s m c → Every (λ (r : Row). code c ≡ r.code → stray h.pdu r.named c ≡ 0) (table (ruled releases h) s m c)
  none_stray z = move h.pdu (each (table h s m c) (λ r zero e. stray_zero h.pdu r.named c (zero e)) z)
    where
      move : (t : PduType) → Every (λ (r : Row). code c ≡ r.code → stray h.pdu r.named c ≡ 0) (table_of h s m c t)
          → Every (λ (r : Row). code c ≡ r.code → stray h.pdu r.named c ≡ 0) (table_of (ruled releases h) s m c t)
      move enhanced all = all
      move short all = all

  unnamed_zero : Every (λ (r : Row). code c ≡ r.code → stray h.pdu r.named c ≡ 0) (table (ruled releases h) s m c) → UnnamedAreZero h s m c
  unnamed_zero all = each (table h s m c) (λ r zero e. zero_stray h.pdu r.named c (zero e)) (back h.pdu all)
    where
      back : (t : PduType) → Every (λ (r : Row). code c ≡ r.code → stray h.pdu r.named c ≡ 0) (table_of (ruled releases h) s m c t)
          → Every (λ (r : Row). code c ≡ r.code → stray h.pdu r.named c ≡ 0) (table_of h s m c t)
      back enhanced all = all
      back short all = all

pub same_where_zero : SameWhereZero
same_where_zero h releases one w s m c r z =
    exchange_good (ruled releases h) w s m c r
    ∙ exchange_same h releases one s m c (none_stray h releases s m c z) r
    ∙ sym (exchange_good (ruled release2 h) (with_two h releases w) s m c r)

-- an exchange is executed by what its reply and its state say
executed_by : (h : Sheet) (a b : List ℕ) (s : List ℕ) (x y : Left) → x.state ≡ y.state → x.reply ≡ y.reply → Executed (ruled a h) s x → Executed (ruled b h) s y
executed_by h a b s x y e f ex = record {
  no_alarm = ap (alarm_in h) (sym f) ∙ ex.no_alarm;
  not_lost = λ three two. ex.not_lost three (ap link e ∙ two);
  not_tolerated = ap tolerated_in (sym f) ∙ ex.not_tolerated;
}

-- a state's validity does not go by the release
pub valid_too : (h : Sheet) (a b s : List ℕ) → valid_state (ruled a h) s ≡ valid_state (ruled b h) s
unfolding valid_state
valid_too h a b s = refl

pub accepted_if_zero : AcceptedIfZero
accepted_if_zero h releases one s m c r a = (
  λ ex.
      let acc = and_parts _ _ ((acceptance_is_exact high (sheet_octets high) s m c r answered).1 ex) in
      let told = first_failed_is_told high (sheet_octets high) s m c r answered (not-true _ acc.0) in
      let held : Every (λ (q : Row). code c ≡ q.code → Every Holds (all_checks s q)) (table high s m c) = each (table high s m c) (λ q decided e. (decided e).executed_exactly.1 ex) told in
      let zero = held_zero h releases one s m c h.pdu (table low s m c) (table high s m c) (rows_pair h releases one s m c h.pdu) held in
      let z = unnamed_zero h releases s m c zero in
      (executed_by h release2 releases s _ _ (sym (states z)) (sym (replies z)) ex, z),
  λ both. executed_by h releases release2 s _ _ (states both.1) (replies both.1) both.0,
)
  where
    low : Sheet
    low = ruled releases h

    high : Sheet
    high = ruled release2 h

    answered : Answered high (sheet_octets high) s m c r
    answered = record { good = with_two h releases a.good; written = refl; valid = valid_too h release2 releases s ∙ a.valid; whole = a.whole; asked = a.asked; lent = a.lent; enabled = a.enabled }

    states : UnnamedAreZero h s m c → (exchange_of (sheet_octets low) s m c r).state ≡ (exchange_of (sheet_octets high) s m c r).state
    states z = ap (λ (x : Result). x.state) (same_where_zero h releases one a.good s m c r z)

    replies : UnnamedAreZero h s m c → (exchange_of (sheet_octets low) s m c r).reply ≡ (exchange_of (sheet_octets high) s m c r).reply
    replies z = ap (λ (x : Result). x.reply) (same_where_zero h releases one a.good s m c r z)
