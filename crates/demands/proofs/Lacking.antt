-- Request 3: the place of alarm 10 is that of the first octet without the right.
--     first_lacks     what the law counts before the first octet that lacks a right
--     told            only the last check of four rows has alarm 10
use mathlib.Core.Bool.{Bool, true, false, ◌&&◌}
use mathlib.Core.Logic.{inl, inr, ⊎_elim}
use mathlib.Core.Path.{◌≡◌, sym, ap, subst, ◌∙◌}
use mathlib.Core.List.{List, [], ◌∷◌}
use Prim.Native.Nat.{ℕ, zero, suc, ◌+◌, ◌≤◌, ◌<◌}
use native.Mathlib.Omega.{arith}
use borrow.Author.Tests.{eqb-true}
use lib.Dec.{eqb, ltb}
use Rattle.octets.proofs.Cases.{decided, lt_or_le}
use Rattle.law.specs.Words.{when, Every, Some, one_of, Piece}
use Rattle.law.specs.Sheet.{Sheet, allows}
use Rattle.law.specs.State.{link, failures}
use Rattle.law.specs.Memory.{Cell, cells, readable, writable, has, has_all, has_before}
use Rattle.law.specs.Table.{Row, table, parameter, address, n}
use Rattle.law.specs.Exchange.{Fate, fate, code, missed, refused, checked, judged, fate_of}
use Rattle.law.proofs.Laid.{when_yes, when_no}
use Rattle.demands.specs.Places.{Asked, asked, asked_spans, FirstLacks, FirstWithoutTheRight}
use Rattle.demands.proofs.Fates.{when_cases, in_both}
use Rattle.demands.proofs.Places.{place_is, alarm_is}

-- the count before the first octet that lacks a right tells that octet
first_lacks : (right : ℕ → Bool) (cs : List Cell) (k a n : ℕ) → has_all right cs a n ≡ false → FirstLacks cs (asked k right a n) (has_before right cs a n)
unfolding has_all has_before
first_lacks right cs k a zero f = cc
first_lacks right cs k a (suc n) f =
    ⊎_elim
    (λ (t : has right cs a ≡ true).
    let rest = first_lacks right cs k (suc a) n (sym (ap (λ (b : Bool). b && has_all right cs (suc a) n) t) ∙ f) in
    let at : has_before right cs a (suc n) ≡ suc (has_before right cs (suc a) n) = when_yes _ _ t in
    let l = rest.in_the_span in
    record {
      in_the_span = omega (arith, at, l);
      lacks = ap (has right cs) (let e : a + has_before right cs a (suc n) ≡ suc a + has_before right cs (suc a) n = omega (arith, at) in e) ∙ rest.lacks;
      before_have = λ x u v. ⊎_elim
          (λ (w : a < x). rest.before_have x (omega arith) (omega (arith, at, v)))
          (λ (w : x ≤ a). ap (has right cs) (let e : x ≡ a = omega arith in e) ∙ t)
          (lt_or_le a x);
    })
    (λ (t : has right cs a ≡ false).
    let at : has_before right cs a (suc n) ≡ 0 = when_no _ _ t in
    record {
      in_the_span = omega (arith, at);
      lacks = ap (has right cs) (let e : a + has_before right cs a (suc n) ≡ a = omega (arith, at) in e) ∙ t;
      before_have = λ x u v. absurd (omega (arith, at, u, v));
    })
    (decided (has right cs a))

-- what a fate with alarm 10 has, which only the last check of four rows gives
module _ (h : Sheet) (s m c : List ℕ) where
  record Told (f : Fate) : Type 0 where
    pub lacks : f.alarm ≡ 10 → Some (λ (q : Asked). (code c ≡ q.code) × FirstLacks (cells h.regions) q f.place) (asked_spans h s m c)

  other : (a place : ℕ) → (a ≡ 10 → ⊥) → Told (refused s a place)
  unfolding refused
  other a place z = record { lacks = λ e. absurd (z e) }

  nine : (place : ℕ) → Told (refused s 9 place)
  nine place = other 9 place (λ z. omega arith)

  -- a check with alarm 9, and what stands behind it
  behind : (b : Bool) (place : ℕ) {f : Fate} → Told f → Told (when b f (refused s 9 place))
  behind b place t = when_cases Told b (λ _. t) (λ _. nine place)

  done : (ps body stores : List Piece) → Told (fate 0 0 ps body stores)
  done ps body stores = record { lacks = λ e. absurd (omega arith) }

  -- the check of rights, which is the last
  rights : (right : ℕ → Bool) (k a size : ℕ) (ps body stores : List Piece)
      → (FirstLacks (cells h.regions) (asked k right a size) (has_before right (cells h.regions) a size)
      → Some (λ (q : Asked). (code c ≡ q.code) × FirstLacks (cells h.regions) q (has_before right (cells h.regions) a size)) (asked_spans h s m c))
      → Told (when (has_all right (cells h.regions) a size) (fate 0 0 ps body stores) (refused s 10 (has_before right (cells h.regions) a size)))
  unfolding refused
  rights right k a size ps body stores to =
      when_cases Told (has_all right (cells h.regions) a size) (λ _. done ps body stores) (λ f. record { lacks = λ e. to (first_lacks right (cells h.regions) k a size f) })

  by_rows : (rs : List Row) → Every (λ (r : Row). code c ≡ r.code → Told (checked s r.checks r)) rs → Told (judged s (code c) rs)
  unfolding judged checked
  by_rows [] all = other 8 0 (λ z. omega arith)
  by_rows (r ∷ rs) all =
      when_cases Told (eqb (code c) r.code)
      (λ e. when_cases Told (one_of (link s) r.links) (λ _. all.0 (eqb-true (code c) r.code e)) (λ _. other 12 0 (λ z. omega arith)))
      (λ _. by_rows rs all.1)

  told : Told (judged s (code c) (table h s m c))
  unfolding checked
  told =
      let p = parameter h s m c in
      by_rows (table h s m c) (in_both h s m c (Every _)
      (λ _. behind _ _ (done _ _ _), (λ e. behind _ _ (behind _ _ (behind _ _ (behind _ _ (rights readable 0x01 p.address p.size _ _ _ (λ f. inl (e, f)))))), (λ e. behind _ _ (behind _ _ (behind _ _ (behind _ _ (rights (writable (link s)) 0x02 p.address p.size _ _ _ (λ f. inr (inl (e, f))))))), (λ _. behind _ _ (behind _ _ (behind _ _ (behind _ _ (behind _ _ (done _ _ _))))), (λ _. behind _ _ (behind _ _ (behind _ _ (done _ _ _))), (λ _. behind _ _ (behind _ _ (done _ _ _)), (λ _. behind _ _ (done _ _ _), (λ _. behind _ _ (behind _ _ (behind _ _ (behind _ _ (behind _ _ (done _ _ _))))), (λ _. behind _ _ (done _ _ _), (λ e. behind _ _ (behind _ _ (behind _ _ (behind _ _ (behind _ _ (rights readable 0x1D (address h s m c) (n h s m c) _ _ _ (λ f. inr (inr (inl (e, f))))))))), (λ e. behind _ _ (behind _ _ (behind _ _ (behind _ _ (behind _ _ (rights (writable (link s)) 0x1E (address h s m c) (n h s m c) _ _ _ (λ f. inr (inr (inr (inl (e, f)))))))))), tt)))))))))))
      (λ _. behind _ _ (done _ _ _), (λ e. behind _ _ (behind _ _ (behind _ _ (behind _ _ (rights readable 0x01 p.address p.size _ _ _ (λ f. inl (e, f)))))), (λ e. behind _ _ (behind _ _ (behind _ _ (behind _ _ (rights (writable (link s)) 0x02 p.address p.size _ _ _ (λ f. inr (inl (e, f))))))), (λ _. behind _ _ (behind _ _ (behind _ _ (behind _ _ (behind _ _ (done _ _ _))))), (λ _. behind _ _ (behind _ _ (done _ _ _)), (λ _. behind _ _ (behind _ _ (done _ _ _)), (λ _. behind _ _ (done _ _ _), (λ _. behind _ _ (behind _ _ (behind _ _ (behind _ _ (done _ _ _)))), (λ _. behind _ _ (done _ _ _), tt))))))))))

  fate_told : Told (fate_of h s m c)
  unfolding fate_of
  fate_told =
      when_cases Told (missed h s c)
      (λ _. when_cases Told (ltb (failures s) (allows h)) (λ _. record { lacks = λ e. absurd (omega arith) }) (λ _. record { lacks = λ e. absurd (omega arith) }))
      (λ _. record { lacks = told.lacks })

pub first_without_the_right : FirstWithoutTheRight
first_without_the_right h sheet s m c r a e =
    subst (λ (p : ℕ). Some (λ (q : Asked). (code c ≡ q.code) × FirstLacks (cells h.regions) q p) (asked_spans h s m c)) (sym (place_is h sheet s m c r a))
    ((fate_told h s m c).lacks (sym (alarm_is h sheet s m c r a) ∙ e))
