-- Request 11: more rights change nothing where no alarm 10 was given.
--     rows_grant       the tables of the two sheets, row by row: only checks of rights differ, and what held still holds
--     fate_granted     a command without alarm 10 has the same fate
--     exchange_granted and so every exchange, refused or not
use mathlib.Core.Bool.{Bool, true, false}
use mathlib.Core.List.{List, [], ◌∷◌, ◌++◌}
use mathlib.Core.Logic.{⊎_elim}
use mathlib.Core.Path.{◌≡◌, refl, sym, ap, ◌∙◌}
use Prim.Native.Nat.{ℕ}
use borrow.Author.Tests.{eq-eqb, ne_eqb}
use lib.ListN.{replicate}
use Rattle.octets.proofs.Cases.{decided, eq_or_ne}
use Rattle.law.specs.Words.{when, one_of, piece, over}
use Rattle.law.specs.Sheet.{PduType, enhanced, short, Region, Sheet}
use Rattle.law.specs.State.{link}
use Rattle.law.specs.Memory.{cells, mapped, readable, writable, has_all, has_before}
use Rattle.law.specs.Table.{Check, check, Row, table_of, table, parameter, address, n}
use Rattle.law.specs.Exchange.{Fate, fate, code, mn, missed, refused, checked, judged, fate_of, passing, state_after, head_for, reply_for}
use Rattle.law.specs.Calls.{result, done}
use Rattle.law.proofs.Laid.{when_yes, when_no}
use Rattle.law.proofs.World.{nth, piece_at}
use Rattle.demands.specs.Granted.{EachGrants, with_regions}
use Rattle.demands.specs.Places.{all_checks}
use Rattle.demands.proofs.Cells.{Granting, Asks, cells_grant, readable_asks, writable_asks, all_grant, all_mapped, held_alike, stored_alike}
use Rattle.demands.proofs.Fates.{done_row}

-- two checks: the same, or both of rights, the second of which holds where the first does
pub data Looser : Check → Check → Type 0 where
  same : {k q : Check} → k ≡ q → Looser k q
  rights : {k q : Check} → k.alarm ≡ 10 → (k.holds ≡ true → q.holds ≡ true) → Looser k q

abbrev Loosers : List Check → List Check → Type 0
Loosers [] [] = Unit {0}
Loosers [] (q ∷ qs) = ⊥
Loosers (k ∷ ks) [] = ⊥
Loosers (k ∷ ks) (q ∷ qs) = Looser k q × Loosers ks qs

itself : (ks : List Check) → Loosers ks ks
itself [] = tt
itself (k ∷ ks) = (same refl, itself ks)

module _ (s : List ℕ) where
  -- a check that is passed, and one that is not
  when_alarm : (b : Bool) (f : Fate) (a p : ℕ) → ((when b f (refused s a p)).alarm ≡ 10 → ⊥) → a ≡ 10 → b ≡ true
  unfolding when refused
  when_alarm true f a p z e = refl
  when_alarm false f a p z e = absurd (z e)

  rest_alarm : (b : Bool) (f g : Fate) → b ≡ true → ((when b f g).alarm ≡ 10 → ⊥) → f.alarm ≡ 10 → ⊥
  rest_alarm b f g t z e = z (ap (λ (x : Fate). x.alarm) (when_yes f g t) ∙ e)

  looser_same : (ks qs : List Check) (r q : Row) → Loosers ks qs → done_row r ≡ done_row q → ((checked s ks r).alarm ≡ 10 → ⊥) → checked s ks r ≡ checked s qs q
  unfolding checked
  looser_same [] [] r q l d z = d
  looser_same [] (k ∷ qs) r q l d z = absurd l
  looser_same (k ∷ ks) [] r q l d z = absurd l
  looser_same (k ∷ ks) (j ∷ qs) r q (same e, l) d z =
      ⊎_elim
      (λ (t : k.holds ≡ true).
      when_yes _ _ t ∙ looser_same ks qs r q l d (rest_alarm k.holds _ _ t z) ∙ sym (when_yes _ _ (sym (ap (λ (x : Check). x.holds) e) ∙ t)))
      (λ (t : k.holds ≡ false).
      when_no _ _ t ∙ ap (λ (x : Check). refused s x.alarm x.place) e ∙ sym (when_no _ _ (sym (ap (λ (x : Check). x.holds) e) ∙ t)))
      (decided k.holds)
  looser_same (k ∷ ks) (j ∷ qs) r q (rights ten go, l) d z =
      let t = when_alarm k.holds (checked s ks r) k.alarm k.place z ten in
      when_yes _ _ t ∙ looser_same ks qs r q l d (rest_alarm k.holds _ _ t z) ∙ sym (when_yes _ _ (go t))

  -- a row of the two tables
  record Loose (r q : Row) : Type 0 where
    pub code : r.code ≡ q.code
    pub links : r.links ≡ q.links
    pub checks : Loosers r.checks q.checks
    pub done : done_row r ≡ done_row q

  abbrev Looses : List Row → List Row → Type 0
  Looses [] [] = Unit {0}
  Looses [] (q ∷ qs) = ⊥
  Looses (r ∷ rs) [] = ⊥
  Looses (r ∷ rs) (q ∷ qs) = Loose r q × Looses rs qs

  judged_loose : (k : ℕ) (rs qs : List Row) → Looses rs qs → ((judged s k rs).alarm ≡ 10 → ⊥) → judged s k rs ≡ judged s k qs
  unfolding judged
  judged_loose k [] [] l z = refl
  judged_loose k [] (q ∷ qs) l z = absurd l
  judged_loose k (r ∷ rs) [] l z = absurd l
  judged_loose k (r ∷ rs) (q ∷ qs) (p, l) z =
      ⊎_elim
      (λ (e : k ≡ r.code).
      let t = eq-eqb k r.code e in
      when_yes _ _ t
      ∙ looser_same (all_checks s r) (all_checks s q) r q (same (ap (λ (ls : List ℕ). check (one_of (link s) ls) 12 0) p.links), p.checks) p.done (λ w. z (ap (λ (x : Fate). x.alarm) (when_yes _ _ t) ∙ w))
      ∙ sym (when_yes _ _ (eq-eqb k q.code (e ∙ p.code))))
      (λ (e : k ≡ r.code → ⊥).
      let t = ne_eqb k r.code e in
      when_no _ _ t ∙ judged_loose k rs qs l (λ w. z (ap (λ (x : Fate). x.alarm) (when_no _ _ t) ∙ w)) ∙ sym (when_no _ _ (ne_eqb k q.code (λ f. e (f ∙ sym p.code)))))
      (eq_or_ne k r.code)

module _ (h : Sheet) (more : List Region) (grants : EachGrants h.regions more) (s m c : List ℕ) where
  abbrev high : Sheet
  high = with_regions more h

  g : Granting (cells h.regions) (cells more)
  g = cells_grant h.regions more grants

  -- a check of rights
  looser : (right : ℕ → Bool) → Asks right → (a n : ℕ)
      → Looser (check (has_all right (cells h.regions) a n) 10 (has_before right (cells h.regions) a n)) (check (has_all right (cells more) a n) 10 (has_before right (cells more) a n))
  looser right asks a n = rights refl (all_grant (cells h.regions) (cells more) g right asks a n)

  -- and one whether a span is mapped
  still_mapped : (a n place : ℕ) → Looser (check (has_all mapped (cells h.regions) a n) 9 place) (check (has_all mapped (cells more) a n) 9 place)
  still_mapped a n place = same (ap (λ (b : Bool). check b 9 place) (all_mapped (cells h.regions) (cells more) g a n))

  rows_grant : (t : PduType) → Looses s (table_of h s m c t) (table_of high s m c t)
  rows_grant enhanced =
      (record { code = refl; links = refl; checks = itself (nth (table_of h s m c enhanced) 0).checks; done = refl }, (record { code = refl; links = refl; checks = (same refl, (same refl, (same refl, (same refl, (looser readable readable_asks (parameter h s m c).address (parameter h s m c).size, tt))))); done = ap (λ (o : List ℕ). fate 0 0 [] (piece_at (nth (table_of h s m c enhanced) 1).body 0 ∷ piece (piece_at (nth (table_of h s m c enhanced) 1).body 1).first o ∷ []) []) (held_alike (cells h.regions) (cells more) g m (parameter h s m c).address (parameter h s m c).size) }, (record { code = refl; links = refl; checks = (same refl, (same refl, (same refl, (same refl, (looser (writable (link s)) (writable_asks (link s)) (parameter h s m c).address (parameter h s m c).size, tt))))); done = refl }, (record { code = refl; links = refl; checks = itself (nth (table_of h s m c enhanced) 3).checks; done = refl }, (record { code = refl; links = refl; checks = itself (nth (table_of h s m c enhanced) 4).checks; done = refl }, (record { code = refl; links = refl; checks = itself (nth (table_of h s m c enhanced) 5).checks; done = refl }, (record { code = refl; links = refl; checks = itself (nth (table_of h s m c enhanced) 6).checks; done = refl }, (record { code = refl; links = refl; checks = itself (nth (table_of h s m c enhanced) 7).checks; done = refl }, (record { code = refl; links = refl; checks = itself (nth (table_of h s m c enhanced) 8).checks; done = refl }, (record { code = refl; links = refl; checks = (same refl, (same refl, (same refl, (still_mapped (address h s m c) (n h s m c) 8, (same refl, (looser readable readable_asks (address h s m c) (n h s m c), tt)))))); done = ap (λ (o : List ℕ). fate 0 0 [] (piece_at (nth (table_of h s m c enhanced) 9).body 0 ∷ piece (piece_at (nth (table_of h s m c enhanced) 9).body 1).first o ∷ []) []) (held_alike (cells h.regions) (cells more) g m (address h s m c) (n h s m c)) }, (record { code = refl; links = refl; checks = (same refl, (same refl, (same refl, (still_mapped (address h s m c) (n h s m c) 8, (same refl, (looser (writable (link s)) (writable_asks (link s)) (address h s m c) (n h s m c), tt)))))); done = refl }, tt)))))))))))
  rows_grant short =
      (record { code = refl; links = refl; checks = itself (nth (table_of h s m c short) 0).checks; done = refl }, (record { code = refl; links = refl; checks = (same refl, (same refl, (same refl, (same refl, (looser readable readable_asks (parameter h s m c).address (parameter h s m c).size, tt))))); done = ap (λ (o : List ℕ). fate 0 0 [] (piece_at (nth (table_of h s m c short) 1).body 0 ∷ piece (piece_at (nth (table_of h s m c short) 1).body 1).first o ∷ []) []) (held_alike (cells h.regions) (cells more) g m (parameter h s m c).address (parameter h s m c).size) }, (record { code = refl; links = refl; checks = (same refl, (same refl, (same refl, (same refl, (looser (writable (link s)) (writable_asks (link s)) (parameter h s m c).address (parameter h s m c).size, tt))))); done = refl }, (record { code = refl; links = refl; checks = itself (nth (table_of h s m c short) 3).checks; done = refl }, (record { code = refl; links = refl; checks = itself (nth (table_of h s m c short) 4).checks; done = refl }, (record { code = refl; links = refl; checks = itself (nth (table_of h s m c short) 5).checks; done = refl }, (record { code = refl; links = refl; checks = itself (nth (table_of h s m c short) 6).checks; done = refl }, (record { code = refl; links = refl; checks = itself (nth (table_of h s m c short) 7).checks; done = refl }, (record { code = refl; links = refl; checks = itself (nth (table_of h s m c short) 8).checks; done = refl }, tt)))))))))

  pub fate_granted : ((fate_of h s m c).alarm ≡ 10 → ⊥) → fate_of h s m c ≡ fate_of high s m c
  unfolding fate_of
  fate_granted z =
      ⊎_elim
      (λ (t : missed h s c ≡ true). when_yes _ _ t ∙ sym (when_yes _ _ t))
      (λ (t : missed h s c ≡ false).
      when_no _ _ t
      ∙ ap passing (judged_loose s (code c) (table h s m c) (table high s m c) (rows_grant h.pdu) (λ w. z (ap (λ (f : Fate). f.alarm) (when_no _ _ t) ∙ w)))
      ∙ sym (when_no _ _ t))
      (decided (missed h s c))

  -- what is done of a fate goes by addresses alone
  head_same : (t : PduType) (alarm : ℕ) (u : List ℕ) → head_for t h c alarm u ≡ head_for t high c alarm u
  head_same enhanced alarm u = refl
  head_same short alarm u = refl

  pub done_granted : (f : Fate) → done h s m c f ≡ done high s m c f
  unfolding reply_for
  done_granted f =
      let u = state_after s (mn h c) f.changes in
      λ i. result 0 f.place u (stored_alike f.stores (cells h.regions) (cells more) g m i) (over (head_same h.pdu f.alarm u i ++ f.body) (replicate h.l 0))
