-- Request 13: what release 2 makes of an exchange that release 1 comes to.
--     kept      a refusal that is not one of rights stays as it is
--     gives     and anything else gives way to the first octet that should be zero
use mathlib.Core.Bool.{Bool, true, false, ◌&&◌, ◌||◌}
use mathlib.Core.List.{List, [], ◌∷◌, ◌++◌, map}
use mathlib.Core.Logic.{inl, inr, ⊎_elim}
use mathlib.Core.Path.{◌≡◌, refl, sym, ap, ap₂, subst, ◌∙◌}
use Prim.Native.Nat.{ℕ, suc, ◌<◌}
use borrow.Author.Tests.{eq-eqb, ne_eqb, eqb-true}
use lib.Dec.{eqb}
use lib.ListN.{length, take, drop}
use Rattle.std.proofs.lemmas.Bool.{false≢true, and_parts}
use Rattle.octets.proofs.Cases.{decided, eq_or_ne}
use Rattle.law.specs.Words.{when, Every, Some, one_of}
use Rattle.law.specs.Sheet.{PduType, enhanced, short, Sheet, sheet_octets}
use Rattle.law.specs.State.{link}
use Rattle.law.specs.Memory.{cells, stored}
use Rattle.law.specs.Table.{Check, check, Row, stray, stray_in, table_of, table}
use Rattle.law.specs.Exchange.{Fate, code, missed, refused, checked, judged, fate_of, passing}
use Rattle.law.specs.Calls.{done}
use Rattle.law.proofs.Held.{length_cells}
use Rattle.law.proofs.Laid.{when_yes, when_no, stored_none}
use Rattle.law.proofs.Zeros.{alarmed}
use Rattle.slave.specs.Answers.{told}
use Rattle.slave.specs.Exchange.{Left, left, exchange_of}
use Rattle.demands.specs.Answered.{Answered, alarm_in}
use Rattle.demands.specs.Places.{all_checks}
use Rattle.demands.specs.Release.{ZeroUnlessNamed, ruled, Release1, release2, SomeStray, FirstStray, TheFirstIsTold, NamedOctets, octets_in, named_by}
use Rattle.demands.proofs.Done.{lawful, answered_done, seen_alarm}
use Rattle.demands.proofs.Fates.{done_row, by_type, in_both, fate_kept}
use Rattle.demands.proofs.Places.{row_of, Unlike}
use Rattle.demands.proofs.Release.{Pair, Pairs, rows_pair, low_none, done_same, with_two, valid_too}
use Rattle.demands.proofs.Stray.{zero_stray, first_stray}

pub named_octets : NamedOctets
named_octets h s m c = by_type h s m c (λ t rs. map (λ (r : Row). r.code ∷ octets_in r.named) rs ≡ named_by h s m c t) refl refl h.pdu

-- every check of a list is one of a link or of data
abbrev early : List Check → Bool
early [] = true
early (k ∷ ks) = one_of k.alarm (9 ∷ 12 ∷ []) && early ks

nines_early : (ks : List Check) → alarmed 9 ks ≡ true → early ks ≡ true
nines_early [] e = refl
nines_early (k ∷ ks) e =
    let p = and_parts (eqb k.alarm 9) (alarmed 9 ks) e in
    ap₂ ◌&&◌ (ap (λ (n : ℕ). one_of n (9 ∷ 12 ∷ [])) (eqb-true k.alarm 9 p.0)) (nines_early ks p.1)

-- an alarm of a list without 0 and 10 is neither
not_late : (alarms : List ℕ) → one_of 0 alarms ≡ false → one_of 10 alarms ≡ false → (a : ℕ) → one_of a alarms ≡ true → one_of a (0 ∷ 10 ∷ []) ≡ true → ⊥
not_late alarms none ten a e f =
    ⊎_elim (λ (z : a ≡ 0). false≢true (sym none ∙ sym (ap (λ (n : ℕ). one_of n alarms) z) ∙ e))
    (λ (z : a ≡ 0 → ⊥).
    ⊎_elim (λ (y : a ≡ 10). false≢true (sym ten ∙ sym (ap (λ (n : ℕ). one_of n alarms) y) ∙ e))
    (λ (y : a ≡ 10 → ⊥). false≢true (sym (ap₂ (λ (p q : Bool). p || (q || false)) (ne_eqb a 0 z) (ne_eqb a 10 y)) ∙ f))
    (eq_or_ne a 10))
    (eq_or_ne a 0)

module _ (s : List ℕ) where
  refused_alarm : (b : Bool) (f : Fate) (a p : ℕ) → b ≡ false → (when b f (refused s a p)).alarm ≡ a
  unfolding refused
  refused_alarm b f a p e = ap (λ (x : Fate). x.alarm) (when_no f _ e)

  -- where only rights are asked, the alarm is 0 or 10
  late : (ks : List Check) (r : Row) → alarmed 10 ks ≡ true → one_of (checked s ks r).alarm (0 ∷ 10 ∷ []) ≡ true
  unfolding checked
  late [] r e = refl
  late (k ∷ ks) r e =
      let p = and_parts (eqb k.alarm 10) (alarmed 10 ks) e in
      ⊎_elim
      (λ (t : k.holds ≡ true). ap (λ (f : Fate). one_of f.alarm (0 ∷ 10 ∷ [])) (when_yes _ _ t) ∙ late ks r p.1)
      (λ (t : k.holds ≡ false). ap (λ (n : ℕ). one_of n (0 ∷ 10 ∷ [])) (refused_alarm k.holds _ k.alarm k.place t ∙ eqb-true k.alarm 10 p.0))
      (decided k.holds)

  module _ (rights : List Check) (r q : Row) (ten : alarmed 10 rights ≡ true) (does : done_row r ≡ done_row q) (x y : ℕ) (none : x ≡ 0) where
    abbrev low : List Check → Fate
    low ks = checked s (ks ++ check (eqb x 0) 9 x ∷ rights) r

    abbrev high : List Check → Fate
    high ks = checked s (ks ++ check (eqb y 0) 9 y ∷ rights) q

    pub kept : (ks : List Check) → (one_of (low ks).alarm (0 ∷ 10 ∷ []) ≡ true → ⊥) → low ks ≡ high ks
    unfolding checked
    kept [] z = absurd (z (ap (λ (f : Fate). one_of f.alarm (0 ∷ 10 ∷ [])) (when_yes _ _ (eq-eqb x 0 none)) ∙ late rights r ten))
    kept (k ∷ ks) z =
        ⊎_elim
        (λ (t : k.holds ≡ true). when_yes _ _ t ∙ kept ks (λ w. z (ap (λ (f : Fate). one_of f.alarm (0 ∷ 10 ∷ [])) (when_yes _ _ t) ∙ w)) ∙ sym (when_yes _ _ t))
        (λ (t : k.holds ≡ false). when_no _ _ t ∙ sym (when_no _ _ t))
        (decided k.holds)

    pub gives : (ks : List Check) → early ks ≡ true → (y ≡ 0 → ⊥) → one_of (low ks).alarm (0 ∷ 10 ∷ []) ≡ true → high ks ≡ refused s 9 y
    unfolding checked
    gives [] e some a = when_no _ _ (ne_eqb y 0 some)
    gives (k ∷ ks) e some a =
        let p = and_parts (one_of k.alarm (9 ∷ 12 ∷ [])) (early ks) e in
        ⊎_elim
        (λ (t : k.holds ≡ true). when_yes _ _ t ∙ gives ks p.1 some (sym (ap (λ (f : Fate). one_of f.alarm (0 ∷ 10 ∷ [])) (when_yes _ _ t)) ∙ a))
        (λ (t : k.holds ≡ false).
        absurd (not_late (9 ∷ 12 ∷ []) refl refl k.alarm p.0 (sym (ap (λ (n : ℕ). one_of n (0 ∷ 10 ∷ [])) (refused_alarm k.holds _ k.alarm k.place t)) ∙ a)))
        (decided k.holds)

module _ (h : Sheet) (releases : List ℕ) (one : Release1 releases) (s m c : List ℕ) where
  abbrev first : Sheet
  first = ruled releases h

  abbrev second : Sheet
  second = ruled release2 h

  -- the link's check and a row's own
  abbrev before : Row → ℕ → List Check
  before r n = check (one_of (link s) r.links) 12 0 ∷ take n r.checks

  -- the two rows, by the octet that should be zero
  abbrev low_by : Row → ℕ → ℕ → Fate
  low_by r n x = checked s (before r n ++ check (eqb x 0) 9 x ∷ drop (suc n) r.checks) r

  abbrev high_by : Row → Row → ℕ → ℕ → Fate
  high_by r q n y = checked s (before r n ++ check (eqb y 0) 9 y ∷ drop (suc n) r.checks) q

  module _ (t : PduType) (r q : Row) (p : Pair h releases one s m c t r q) where
    low_is : checked s (all_checks s r) r ≡ low_by r p.n (stray_in first s m c t r.named)
    low_is = ap (λ (ks : List Check). checked s (check (one_of (link s) r.links) 12 0 ∷ ks) r) p.first

    high_is : checked s (all_checks s q) q ≡ high_by r q p.n (stray_in second s m c t r.named)
    high_is = ap₂ (λ (ls : List ℕ) (ks : List Check). checked s (check (one_of (link s) ls) 12 0 ∷ ks) q) (sym p.links) p.second

    row_kept : (one_of (checked s (all_checks s r) r).alarm (0 ∷ 10 ∷ []) ≡ true → ⊥) → checked s (all_checks s r) r ≡ checked s (all_checks s q) q
    row_kept z =
        low_is
        ∙ kept s (drop (suc p.n) r.checks) r q p.ten p.done (stray_in first s m c t r.named) (stray_in second s m c t r.named) (low_none h releases one s m c t r) (before r p.n)
        (λ w. z (ap (λ (f : Fate). one_of f.alarm (0 ∷ 10 ∷ [])) low_is ∙ w))
        ∙ sym high_is

    row_gives : (stray t r.named c ≡ 0 → ⊥) → one_of (checked s (all_checks s r) r).alarm (0 ∷ 10 ∷ []) ≡ true → checked s (all_checks s q) q ≡ refused s 9 (stray t r.named c)
    row_gives some a =
        high_is
        ∙ gives s (drop (suc p.n) r.checks) r q p.ten p.done (stray_in first s m c t r.named) (stray_in second s m c t r.named) (low_none h releases one s m c t r) (before r p.n)
        (nines_early (take p.n r.checks) p.nine) (λ z. some (sym (when_yes _ _ refl) ∙ z)) (sym (ap (λ (f : Fate). one_of f.alarm (0 ∷ 10 ∷ [])) low_is) ∙ a)
        ∙ ap (refused s 9) (when_yes _ _ refl)

  judged_kept : (t : PduType) (k : ℕ) (rs qs : List Row) → Pairs h releases one s m c t rs qs → (one_of (judged s k rs).alarm (0 ∷ 10 ∷ []) ≡ true → ⊥)
      → judged s k rs ≡ judged s k qs
  unfolding judged
  judged_kept t k [] [] p z = refl
  judged_kept t k [] (q ∷ qs) p z = absurd p
  judged_kept t k (r ∷ rs) [] p z = absurd p
  judged_kept t k (r ∷ rs) (q ∷ qs) p z =
      ⊎_elim
      (λ (e : k ≡ r.code).
      let b = eq-eqb k r.code e in
      when_yes _ _ b ∙ row_kept t r q p.0 (λ w. z (ap (λ (f : Fate). one_of f.alarm (0 ∷ 10 ∷ [])) (when_yes _ _ b) ∙ w))
      ∙ sym (when_yes _ _ (eq-eqb k q.code (e ∙ p.0.code))))
      (λ (e : k ≡ r.code → ⊥).
      let b = ne_eqb k r.code e in
      when_no _ _ b ∙ judged_kept t k rs qs p.1 (λ w. z (ap (λ (f : Fate). one_of f.alarm (0 ∷ 10 ∷ [])) (when_no _ _ b) ∙ w))
      ∙ sym (when_no _ _ (ne_eqb k q.code (λ f. e (f ∙ sym p.0.code)))))
      (eq_or_ne k r.code)

  -- the row with an octet that should be zero
  found : (t : PduType) (low high : Fate) (rs qs : List Row) → Pairs h releases one s m c t rs qs
      → Every (λ (r : Row). code c ≡ r.code → low ≡ checked s (all_checks s r) r) rs → Every (λ (q : Row). code c ≡ q.code → high ≡ checked s (all_checks s q) q) qs
      → one_of low.alarm (0 ∷ 10 ∷ []) ≡ true
      → Some (λ (r : Row). (code c ≡ r.code) × (((k : ℕ) → k < length c → ZeroUnlessNamed t r.named c k) → ⊥)) rs
      → (p : ℕ) × (high ≡ refused s 9 p) × Some (λ (r : Row). (code c ≡ r.code) × FirstStray t r.named c p) rs
  found t low high [] qs p a b late some = absurd some
  found t low high (r ∷ rs) [] p a b late some = absurd p
  found t low high (r ∷ rs) (q ∷ qs) p a b late some =
      ⊎_elim
      (λ (x : (code c ≡ r.code) × (((k : ℕ) → k < length c → ZeroUnlessNamed t r.named c k) → ⊥)).
      let nz : stray t r.named c ≡ 0 → ⊥ = λ z. x.1 (zero_stray t r.named c z) in
      (stray t r.named c, b.0 (x.0 ∙ p.0.code) ∙ row_gives t r q p.0 nz (sym (ap (λ (f : Fate). one_of f.alarm (0 ∷ 10 ∷ [])) (a.0 x.0)) ∙ late), inl (x.0, first_stray t r.named c nz)))
      (λ (x : Some (λ (r : Row). (code c ≡ r.code) × (((k : ℕ) → k < length c → ZeroUnlessNamed t r.named c k) → ⊥)) rs).
      let y = found t low high rs qs p.1 a.1 b.1 late x in
      (y.0, y.1, inr y.2))
      some

  fate_missed_same : missed h s c ≡ true → fate_of first s m c ≡ fate_of second s m c
  unfolding fate_of
  fate_missed_same t = when_yes _ _ t ∙ sym (when_yes _ _ t)

  fate_kept_same : (one_of (fate_of first s m c).alarm (0 ∷ 10 ∷ []) ≡ true → ⊥) → fate_of first s m c ≡ fate_of second s m c
  unfolding fate_of
  fate_kept_same z =
      ⊎_elim
      (λ (t : missed h s c ≡ true). when_yes _ _ t ∙ sym (when_yes _ _ t))
      (λ (t : missed h s c ≡ false).
      when_no _ _ t
      ∙ ap passing (judged_kept h.pdu (code c) (table first s m c) (table second s m c) (rows_pair h releases one s m c h.pdu) (λ w. z (ap (λ (f : Fate). one_of f.alarm (0 ∷ 10 ∷ [])) (when_no _ _ t) ∙ w)))
      ∙ sym (when_no _ _ t))
      (decided (missed h s c))

  -- some octet, by the rows of the sheet with its release
  moved : (t : PduType) → Some (λ (r : Row). (code c ≡ r.code) × (((k : ℕ) → k < length c → ZeroUnlessNamed h.pdu r.named c k) → ⊥)) (table_of h s m c t)
      → Some (λ (r : Row). (code c ≡ r.code) × (((k : ℕ) → k < length c → ZeroUnlessNamed h.pdu r.named c k) → ⊥)) (table_of first s m c t)
  moved enhanced x = x
  moved short x = x

  back : (t : PduType) (p : ℕ) → Some (λ (r : Row). (code c ≡ r.code) × FirstStray h.pdu r.named c p) (table_of first s m c t)
      → Some (λ (r : Row). (code c ≡ r.code) × FirstStray h.pdu r.named c p) (table_of h s m c t)
  back enhanced p x = x
  back short p x = x

  fate_given : missed h s c ≡ false → one_of (fate_of first s m c).alarm (0 ∷ 10 ∷ []) ≡ true → SomeStray h s m c
      → (p : ℕ) × (fate_of second s m c ≡ passing (refused s 9 p)) × Some (λ (r : Row). (code c ≡ r.code) × FirstStray h.pdu r.named c p) (table h s m c)
  fate_given go late some =
      let unlike : (g : Sheet) → Unlike s (code c) (table g s m c) ≡ true = λ g. in_both g s m c (λ rs. Unlike s (code c) rs ≡ true) refl refl in
      let y = found h.pdu (judged s (code c) (table first s m c)) (judged s (code c) (table second s m c)) (table first s m c) (table second s m c) (rows_pair h releases one s m c h.pdu)
      (row_of s (code c) (table first s m c) (unlike first)) (row_of s (code c) (table second s m c) (unlike second))
      (sym (ap (λ (f : Fate). one_of f.alarm (0 ∷ 10 ∷ [])) (fate_kept first s m c go)) ∙ late) (moved h.pdu some) in
      (y.0, fate_kept second s m c go ∙ ap passing y.1, back h.pdu y.0 y.2)

pub first_is_told : TheFirstIsTold
unfolding refused
first_is_told h releases one s m c r a = record {
  watchdog_alike = λ t. sym (same (fate_missed_same h releases one s m c t));
  refused_alike = λ e. sym (same (fate_kept_same h releases one s m c (not_late (8 ∷ 9 ∷ 12 ∷ []) refl refl (fate_of first s m c).alarm (sym (ap (λ (n : ℕ). one_of n (8 ∷ 9 ∷ 12 ∷ [])) seen) ∙ e))));
  refused_for_it = λ go late some.
      let y = fate_given h releases one s m c go (sym (ap (λ (n : ℕ). one_of n (0 ∷ 10 ∷ [])) seen) ∙ late) some in (
        ap (λ (l : Left). alarm_in h l.reply) two ∙ seen_alarm second s m c a.good.l ∙ nine y.0 y.1,
        ap (λ (l : Left). l.memory) two ∙ nothing y.0 y.1,
        subst (λ (p : ℕ). Some (λ (r : Row). (code c ≡ r.code) × FirstStray h.pdu r.named c p) (table h s m c)) (sym (ap (λ (l : Left). l.answer.place) two ∙ place y.0 y.1)) y.2,
      );
}
  where
    first : Sheet
    first = ruled releases h

    second : Sheet
    second = ruled release2 h

    answered : Answered second (sheet_octets second) s m c r
    answered = record { good = with_two h releases a.good; written = refl; valid = valid_too h release2 releases s ∙ a.valid; whole = a.whole; asked = a.asked; lent = a.lent; enabled = a.enabled }

    two : exchange_of (sheet_octets second) s m c r ≡ left (told 0 (fate_of second s m c).place) (lawful second s m c).state (lawful second s m c).memory (lawful second s m c).reply
    two = answered_done second (sheet_octets second) s m c r answered

    seen : alarm_in h (exchange_of (sheet_octets first) s m c r).reply ≡ (fate_of first s m c).alarm
    seen = ap (λ (l : Left). alarm_in h l.reply) (answered_done first (sheet_octets first) s m c r a) ∙ seen_alarm first s m c a.good.l

    same : fate_of first s m c ≡ fate_of second s m c → exchange_of (sheet_octets first) s m c r ≡ exchange_of (sheet_octets second) s m c r
    same f =
        let d : lawful first s m c ≡ lawful second s m c = ap (done first s m c) f ∙ done_same h releases one s m c (fate_of second s m c) in
        answered_done first (sheet_octets first) s m c r a ∙ (λ i. left (told 0 (f i).place) (d i).state (d i).memory (d i).reply) ∙ sym two

    nine : (p : ℕ) → fate_of second s m c ≡ passing (refused s 9 p) → (fate_of second s m c).alarm ≡ 9
    nine p e = ap (λ (f : Fate). f.alarm) e

    place : (p : ℕ) → fate_of second s m c ≡ passing (refused s 9 p) → (fate_of second s m c).place ≡ p
    place p e = ap (λ (f : Fate). f.place) e

    nothing : (p : ℕ) → fate_of second s m c ≡ passing (refused s 9 p) → (lawful second s m c).memory ≡ m
    nothing p e = ap (λ (f : Fate). stored f.stores (cells h.regions) m) e ∙ stored_none (cells h.regions) m (a.whole ∙ sym (length_cells h.regions))
