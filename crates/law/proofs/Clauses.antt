-- The state record.
use mathlib.Core.Bool.{Bool, true, false, not, ◌&&◌, ◌||◌}
use mathlib.Core.Logic.{⊎_elim}
use mathlib.Core.Path.{◌≡◌, refl, sym, ap, ap₂, ◌∙◌}
use mathlib.Core.List.{List, [], ◌∷◌, ◌++◌}
use Prim.Native.Nat.{ℕ, zero, suc, ◌≤◌, ◌<◌}
use native.Mathlib.Omega.{arith}
use borrow.Author.Tests.{leb-true, eqb-true, eqb-false, le-leb, eq-eqb, ne_eqb, not-true}
use lib.Dec.{eqb, leb}
use lib.ListN.{length, get_or, drop, get_or-eq_default, drop_of_length-le}
use lib.Seq.{ext_get_or}
use Rattle.std.specs.Prelude.{None, Some}
use Rattle.std.proofs.lemmas.Bool.{and_parts}
use Rattle.octets.proofs.Cases.{decided, lt_or_le, eq_or_ne}
use Rattle.octets.proofs.Pick.{pick_yes, pick_no, pick_differ, pick_same}
use Rattle.law.specs.Words.{one_of, all, implies}
use Rattle.law.specs.Sheet.{Sheet, allows}
use Rattle.law.specs.State.{valid_when, new_when, old_when, valid_state, valid_old}
use Rattle.link.specs.Stored.{octets_of, fields_of, state_of}
use Rattle.link.specs.Old.{old_state_of}
use Rattle.link.specs.Valid.{valid_of, is_command_alarm, is_communication_alarm}
use Rattle.link.proofs.Back.{record_length_lem}
use Rattle.link.proofs.Facts.{Facts, valid_facts, facts_valid}
use Rattle.regions.specs.Region.{listed}
use Rattle.law.proofs.Written.{opened}

-- the clauses of a list of tests
abbrev Each : List Bool → Type 0
Each [] = Unit {0}
Each (b ∷ bs) = (b ≡ true) × Each bs

each : (bs : List Bool) → all bs ≡ true → Each bs
each [] e = tt
each (b ∷ bs) e = let p = and_parts b (all bs) e in (p.0, each bs p.1)

each_back : (bs : List Bool) → Each bs → all bs ≡ true
each_back [] e = refl
each_back (b ∷ bs) e = ap₂ ◌&&◌ e.0 (each_back bs e.1)

pub implied : (a b : Bool) → implies a b ≡ true → a ≡ true → b ≡ true
implied true b e q = e
implied false b e q = cc

imp_back : (a b : Bool) → (a ≡ true → b ≡ true) → implies a b ≡ true
imp_back true b f = f refl
imp_back false b f = refl

five : (a b c d e : Bool) → a || b || c || d || e ≡ a || (b || (c || (d || (e || false))))
five true b c d e = refl
five false true c d e = refl
five false false true d e = refl
five false false false true e = refl
five false false false false true = refl
five false false false false false = refl

two : (a b : Bool) → a || b ≡ a || (b || false)
two true b = refl
two false true = refl
two false false = refl

command_alarms : (a : ℕ) → is_command_alarm a ≡ one_of a (0 ∷ 8 ∷ 9 ∷ 10 ∷ 12 ∷ [])
unfolding is_command_alarm
command_alarms a = five (eqb a 0) (eqb a 8) (eqb a 9) (eqb a 10) (eqb a 12)

communication_alarms : (a : ℕ) → is_communication_alarm a ≡ one_of a (0 ∷ 12 ∷ [])
unfolding is_communication_alarm
communication_alarms a = two (eqb a 0) (eqb a 12)

-- octets 1 to 9 by their clauses, and the count
fields_facts : (h : Sheet) (s : List ℕ) (most : ℕ) → Each (valid_when h s) → get_or s 10 0 ≤ most → ((get_or s 1 0 ≡ 3 → ⊥) → get_or s 10 0 ≡ 0)
    → (get_or s 5 0 < 1 → get_or s 10 0 ≡ 0) → Facts h.l most (fields_of s)
unfolding fields_of
fields_facts h s most p few outside unsure =
    let n = get_or s 1 0 in
    let three : n ≤ 3 = leb-true n 3 p.0 in
    let d1 : get_or s 3 0 ≤ 1 = leb-true (get_or s 3 0) 1 p.1.1.0 in
    let q = p.1.1.1.1.1.1 in
    let t = q.1.1 in
    record {
      length = eqb-true (get_or s 2 0) h.l p.1.0;
      few = few;
      link = three;
      dual = d1;
      known = leb-true (get_or s 5 0) 1 p.1.1.1.0;
      last = leb-true (get_or s 6 0) 15 p.1.1.1.1.0;
      rsn = leb-true (get_or s 7 0) 15 p.1.1.1.1.1.0;
      command = command_alarms (get_or s 8 0) ∙ q.0;
      communication = communication_alarms (get_or s 9 0) ∙ q.1.0;
      timed = λ l. leb-true 1 (get_or s 4 0) (implied (leb 2 n) _ t.0 (le-leb 2 n l));
      untimed = λ l. eqb-true (get_or s 4 0) 0 (implied (leb n 1) _ t.1.0 (le-leb n 1 (omega arith)));
      single = λ z. eqb-true (get_or s 3 0) 0 (implied (not (eqb n 3)) _ t.1.1.0 (ap not (ne_eqb n 3 z)));
      doubled = λ z. leb-true 2 (get_or s 4 0) (implied (eqb (get_or s 3 0) 1) _ t.1.1.1.0 (eq-eqb (get_or s 3 0) 1 (only_one z d1)));
      unwatched = λ z. let u = zeros (implied (not (eqb n 3)) _ t.1.1.1.1.0 (ap not (ne_eqb n 3 z))) in (u.0, u.1, u.2, outside z);
      unknown = λ l. let u = pair (implied (eqb (get_or s 5 0) 0) _ t.1.1.1.1.1.0 (eq-eqb (get_or s 5 0) 0 (omega arith))) in (u.0, u.1, unsure l);
      silent = λ l. quiet (implied (eqb n 0) _ t.1.1.1.1.1.1.0 (eq-eqb n 0 (omega arith)));
    }
  where
    only_one : {d : ℕ} → (d ≡ 0 → ⊥) → d ≤ 1 → d ≡ 1
    only_one {d} z l = ⊎_elim (λ (q : d < 1). absurd (z (omega arith))) (λ (q : 1 ≤ d). let w : d ≡ 1 = omega arith in w) (lt_or_le d 1)

    pair : eqb (get_or s 6 0) 0 && eqb (get_or s 7 0) 0 ≡ true → (get_or s 6 0 ≡ 0) × (get_or s 7 0 ≡ 0)
    pair e = let p = and_parts _ _ e in (eqb-true (get_or s 6 0) 0 p.0, eqb-true (get_or s 7 0) 0 p.1)

    quiet : eqb (get_or s 8 0) 0 && eqb (get_or s 9 0) 0 ≡ true → (get_or s 8 0 ≡ 0) × (get_or s 9 0 ≡ 0)
    quiet e = let p = and_parts _ _ e in (eqb-true (get_or s 8 0) 0 p.0, eqb-true (get_or s 9 0) 0 p.1)

    zeros : eqb (get_or s 5 0) 0 && (eqb (get_or s 6 0) 0 && eqb (get_or s 7 0) 0) ≡ true → (get_or s 5 0 ≡ 0) × (get_or s 6 0 ≡ 0) × (get_or s 7 0 ≡ 0)
    zeros e =
        let p = and_parts _ _ e in
        let q = and_parts _ _ p.1 in
        (eqb-true (get_or s 5 0) 0 p.0, eqb-true (get_or s 6 0) 0 q.0, eqb-true (get_or s 7 0) 0 q.1)

facts_fields : (h : Sheet) (s : List ℕ) (most : ℕ) → Facts h.l most (fields_of s) → Each (valid_when h s)
unfolding fields_of
facts_fields h s most f =
    let n = get_or s 1 0 in (
      le-leb n 3 f.link,
      (
        eq-eqb (get_or s 2 0) h.l f.length,
        (
          le-leb (get_or s 3 0) 1 f.dual,
          (
            le-leb (get_or s 5 0) 1 f.known,
            (
              le-leb (get_or s 6 0) 15 f.last,
              (
                le-leb (get_or s 7 0) 15 f.rsn,
                (
                  sym (command_alarms (get_or s 8 0)) ∙ f.command,
                  (
                    sym (communication_alarms (get_or s 9 0)) ∙ f.communication,
                    (
                      imp_back (leb 2 n) _ (λ q. le-leb 1 (get_or s 4 0) (f.timed (leb-true 2 n q))),
                      (
                        imp_back (leb n 1) _ (λ q. let l = leb-true n 1 q in eq-eqb (get_or s 4 0) 0 (f.untimed (omega arith))),
                        (
                          imp_back (not (eqb n 3)) _ (λ q. eq-eqb (get_or s 3 0) 0 (f.single (below q))),
                          (
                            imp_back (eqb (get_or s 3 0) 1) _ (λ q. let d = eqb-true (get_or s 3 0) 1 q in le-leb 2 (get_or s 4 0) (f.doubled (λ z. omega arith))),
                            (
                              imp_back (not (eqb n 3)) _ (λ q. let u = f.unwatched (below q) in ap₂ ◌&&◌ (eq-eqb _ _ u.0) (ap₂ ◌&&◌ (eq-eqb _ _ u.1) (eq-eqb _ _ u.2))),
                              (
                                imp_back (eqb (get_or s 5 0) 0) _ (λ q. let d = eqb-true (get_or s 5 0) 0 q in let u = f.unknown (omega arith) in ap₂ ◌&&◌ (eq-eqb _ _ u.0) (eq-eqb _ _ u.1)),
                                (
                                  imp_back (eqb n 0) _ (λ q. let d = eqb-true n 0 q in let u = f.silent (omega arith) in ap₂ ◌&&◌ (eq-eqb _ _ u.0) (eq-eqb _ _ u.1)),
                                  tt,
                                ),
                              ),
                            ),
                          ),
                        ),
                      ),
                    ),
                  ),
                ),
              ),
            ),
          ),
        ),
      ),
    )
  where
    below : not (eqb (get_or s 1 0) 3) ≡ true → get_or s 1 0 ≡ 3 → ⊥
    below q = eqb-false (get_or s 1 0) 3 (not-true (eqb (get_or s 1 0) 3) q)

pub valid_true : (h : Sheet) (s : List ℕ) → valid_state h s ≡ true → (length s ≡ 11) × (get_or s 0 0 ≡ 0x12) × Facts h.l (allows h) (fields_of s)
unfolding valid_state
valid_true h s v =
    let p = each (new_when h s) v in
    let o = p.1.1.1 in (
      eqb-true (length s) 11 p.0,
      eqb-true (get_or s 0 0) 0x12 p.1.0,
      fields_facts h s (allows h) o.1.1 (leb-true (get_or s 10 0) (allows h) p.1.1.0)
          (λ z. eqb-true (get_or s 10 0) 0 (implied (not (eqb (get_or s 1 0) 3)) _ o.0 (ap not (ne_eqb (get_or s 1 0) 3 z))))
          (λ l. eqb-true (get_or s 10 0) 0 (implied (eqb (get_or s 5 0) 0) _ o.1.0 (eq-eqb (get_or s 5 0) 0 (omega arith)))),
    )

pub valid_back : (h : Sheet) (s : List ℕ) → length s ≡ 11 → get_or s 0 0 ≡ 0x12 → Facts h.l (allows h) (fields_of s) → valid_state h s ≡ true
unfolding valid_state fields_of
valid_back h s e k f =
    each_back (new_when h s) (
      eq-eqb (length s) 11 e,
      (
        eq-eqb (get_or s 0 0) 0x12 k,
        (
          le-leb (get_or s 10 0) (allows h) f.few,
          (
            imp_back (not (eqb (get_or s 1 0) 3)) _
                (λ q. eq-eqb (get_or s 10 0) 0 (f.unwatched (eqb-false (get_or s 1 0) 3 (not-true (eqb (get_or s 1 0) 3) q))).3),
            (
              imp_back (eqb (get_or s 5 0) 0) _ (λ q. let d = eqb-true (get_or s 5 0) 0 q in eq-eqb (get_or s 10 0) 0 (f.unknown (omega arith)).2),
              facts_fields h s (allows h) f,
            ),
          ),
        ),
      ),
    )

-- an old record has no eleventh octet
past_end : (s : List ℕ) → length s ≡ 10 → get_or s 10 0 ≡ 0
past_end s e = get_or-eq_default s 0 {n = 10} (omega arith)

pub old_true : (h : Sheet) (s : List ℕ) → valid_old h s ≡ true → (length s ≡ 10) × (get_or s 0 0 ≡ 0x11) × Facts h.l 0 (fields_of s)
unfolding valid_old
old_true h s v =
    let p = each (old_when h s) v in
    let e = eqb-true (length s) 10 p.0 in
    let z = past_end s e in
    (e, eqb-true (get_or s 0 0) 0x11 p.1.0, fields_facts h s 0 p.1.1 (omega arith) (λ q. z) (λ q. z))

pub old_back : (h : Sheet) (s : List ℕ) → length s ≡ 10 → get_or s 0 0 ≡ 0x11 → Facts h.l 0 (fields_of s) → valid_old h s ≡ true
unfolding valid_old
old_back h s e k f = each_back (old_when h s) (eq-eqb (length s) 10 e, (eq-eqb (get_or s 0 0) 0x11 k, facts_fields h s 0 f))

-- eleven octets, of which the first is the kind, are the record of their fields
at : (s : List ℕ) → get_or s 0 0 ≡ 0x12 → (i : ℕ) → i < 11 → get_or s i 0 ≡ get_or (octets_of (fields_of s)) i 0
unfolding octets_of fields_of
at s k zero l = k
at s k (suc zero) l = refl
at s k (suc (suc zero)) l = refl
at s k (suc (suc (suc zero))) l = refl
at s k (suc (suc (suc (suc zero)))) l = refl
at s k (suc (suc (suc (suc (suc zero))))) l = refl
at s k (suc (suc (suc (suc (suc (suc zero)))))) l = refl
at s k (suc (suc (suc (suc (suc (suc (suc zero))))))) l = refl
at s k (suc (suc (suc (suc (suc (suc (suc (suc zero)))))))) l = refl
at s k (suc (suc (suc (suc (suc (suc (suc (suc (suc zero))))))))) l = refl
at s k (suc (suc (suc (suc (suc (suc (suc (suc (suc (suc zero)))))))))) l = refl
at s k (suc (suc (suc (suc (suc (suc (suc (suc (suc (suc (suc i))))))))))) l = absurd (omega arith)

eleven : (s : List ℕ) → length s ≡ 11 → get_or s 0 0 ≡ 0x12 → s ≡ octets_of (fields_of s)
eleven s e k = ext_get_or 0 s (octets_of (fields_of s)) (e ∙ sym (record_length_lem (fields_of s))) (λ i l. at s k i (omega arith))

pub state_yes : (h : Sheet) (s : List ℕ) → valid_state h s ≡ true → (state_of s h.l (allows h) ≡ Some (fields_of s)) × (s ≡ octets_of (fields_of s)) × Facts h.l (allows h) (fields_of s)
unfolding state_of
state_yes h s v =
    let p = valid_true h s v in
    (pick_same _ _ p.0 ∙ pick_same _ _ p.1 ∙ pick_no _ _ (ap not (facts_valid (fields_of s) h.l (allows h) p.2)), eleven s p.0 p.1, p.2)

pub state_no : (h : Sheet) (s : List ℕ) → valid_state h s ≡ false → state_of s h.l (allows h) ≡ None
unfolding state_of
state_no h s v =
    ⊎_elim (λ (a : length s ≡ 11).
    ⊎_elim (λ (b : get_or s 0 0 ≡ 0x12).
    ⊎_elim (λ (c : valid_of (fields_of s) h.l (allows h) ≡ true).
    absurd (let t = valid_back h s a b (valid_facts (fields_of s) h.l (allows h) c) in cc))
    (λ (c : valid_of (fields_of s) h.l (allows h) ≡ false). pick_same _ _ a ∙ pick_same _ _ b ∙ pick_yes _ _ (ap not c)) (decided (valid_of (fields_of s) h.l (allows h))))
    (λ (b : get_or s 0 0 ≡ 0x12 → ⊥). pick_same _ _ a ∙ pick_differ _ _ b) (eq_or_ne (get_or s 0 0) 0x12))
    (λ (a : length s ≡ 11 → ⊥). pick_differ _ _ a) (eq_or_ne (length s) 11)

pub old_yes : (h : Sheet) (s : List ℕ) → valid_old h s ≡ true → old_state_of s h.l ≡ Some (fields_of s)
unfolding old_state_of
old_yes h s v =
    let p = old_true h s v in
    pick_same _ _ p.0 ∙ pick_same _ _ p.1 ∙ pick_no _ _ (ap not (facts_valid (fields_of s) h.l 0 p.2))

pub old_no : (h : Sheet) (s : List ℕ) → valid_old h s ≡ false → old_state_of s h.l ≡ None
unfolding old_state_of
old_no h s v =
    ⊎_elim (λ (a : length s ≡ 10).
    ⊎_elim (λ (b : get_or s 0 0 ≡ 0x11).
    ⊎_elim (λ (c : valid_of (fields_of s) h.l 0 ≡ true).
    absurd (let t = old_back h s a b (valid_facts (fields_of s) h.l 0 c) in cc))
    (λ (c : valid_of (fields_of s) h.l 0 ≡ false). pick_same _ _ a ∙ pick_same _ _ b ∙ pick_yes _ _ (ap not c)) (decided (valid_of (fields_of s) h.l 0)))
    (λ (b : get_or s 0 0 ≡ 0x11 → ⊥). pick_same _ _ a ∙ pick_differ _ _ b) (eq_or_ne (get_or s 0 0) 0x11))
    (λ (a : length s ≡ 10 → ⊥). pick_differ _ _ a) (eq_or_ne (length s) 10)

-- an old record, its kind changed and a zero behind it, is the new record of its fields
pub turned : (s : List ℕ) → length s ≡ 10 → octets_of (fields_of s) ≡ 0x12 ∷ drop 1 s ++ 0 ∷ []
unfolding octets_of fields_of listed
turned s e =
    ap (λ (n : ℕ). 0x12 ∷ get_or s 1 0 ∷ get_or s 2 0 ∷ get_or s 3 0 ∷ get_or s 4 0 ∷ get_or s 5 0 ∷ get_or s 6 0 ∷ get_or s 7 0 ∷ get_or s 8 0 ∷ get_or s 9 0 ∷ n ∷ []) (past_end s e)
    ∙ sym
    (ap (λ (l : List ℕ). 0x12 ∷ drop 1 l ++ 0 ∷ []) (opened s 0 10 (omega arith))
    ∙ ap (λ (t : List ℕ). 0x12 ∷ get_or s 1 0 ∷ get_or s 2 0 ∷ get_or s 3 0 ∷ get_or s 4 0 ∷ get_or s 5 0 ∷ get_or s 6 0 ∷ get_or s 7 0 ∷ get_or s 8 0 ∷ get_or s 9 0 ∷ t ++ 0 ∷ []) (drop_of_length-le s {i = 10} (omega arith)))
