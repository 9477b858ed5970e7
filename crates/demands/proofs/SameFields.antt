-- Request 7: commands of the two types with the same fields come to the same alarm, state and stored octets.
--     rows_alike       each row that both tables have, and a code that neither has
--     fate_alike       and so the whole fate
use mathlib.Core.Bool.{Bool, true, false, not, ◌&&◌}
use mathlib.Core.Path.{◌≡◌, refl, sym, ap, ap₂, subst, ◌∙◌}
use mathlib.Core.List.{List, [], ◌∷◌, ◌++◌, map}
use Prim.Native.Nat.{ℕ, ◌+◌, ◌-◌, ◌/◌, ◌%◌}
use native.Mathlib.Omega.{arith}
use borrow.Author.Tests.{le-leb, eq-eqb, eqb-true}
use lib.Dec.{eqb, leb}
use lib.ListN.{take, drop}
use Rattle.law.specs.Words.{when, implies, bit, Every, one_of, Piece, piece}
use Rattle.law.specs.Sheet.{enhanced, short, Parameter, Item, Sheet, is_release2, sheet_octets}
use Rattle.law.specs.State.{link, mn_known, last_mn, rsn}
use Rattle.law.specs.Memory.{cells, stored, readable, writable}
use Rattle.law.specs.Table.{Check, check, Row, rights_check, parameter_of, item_of, com_mod, stray_in, enhanced_table, short_table, parameter}
use Rattle.law.specs.Exchange.{Fate, code, missed, refused, checked, judged, fate_of, failing, passing, state_after}
use Rattle.law.proofs.Codes.{by_code}
use Rattle.law.proofs.Laid.{when_yes, when_no}
use Rattle.law.proofs.World.{nth}
use Rattle.slave.specs.Answers.{told}
use Rattle.slave.specs.Exchange.{Left}
use Rattle.demands.specs.Answered.{alarm_in}
use Rattle.demands.specs.Places.{Holds, all_checks}
use Rattle.demands.specs.Short.{typed, NoMemoryCode, SameFields, SameFieldsSameFate}
use Rattle.demands.proofs.Done.{answered_done, seen_alarm}
use Rattle.demands.proofs.Places.{none_judges}

-- two fates that leave the same but for the reply's body
record Alike (f g : Fate) : Type 0 where
  pub alarm : f.alarm ≡ g.alarm
  pub place : f.place ≡ g.place
  pub changes : f.changes ≡ g.changes
  pub stores : f.stores ≡ g.stores

itself : (f : Fate) → Alike f f
itself f = record { alarm = refl; place = refl; changes = refl; stores = refl }

when_alike : (b : Bool) (f g x : Fate) → (b ≡ true → Alike f g) → Alike (when b f x) (when b g x)
unfolding when
when_alike true f g x go = go refl
when_alike false f g x go = itself x

-- two rows that do the same, and how their checks judge them: those of the second may have more, which hold
record Does (r q : Row) : Type 0 where
  pub changes : r.changes ≡ q.changes
  pub stores : r.stores ≡ q.stores

module _ (s : List ℕ) where
  more_hold : (ks : List Check) (r q : Row) → Every Holds ks → Does r q → Alike (checked s [] r) (checked s ks q)
  unfolding checked
  more_hold [] r q all d = record { alarm = refl; place = refl; changes = d.changes; stores = d.stores }
  more_hold (k ∷ ks) r q all d = subst (λ (f : Fate). Alike (checked s [] r) f) (sym (when_yes _ _ all.0)) (more_hold ks r q all.1 d)

  checked_alike : (ks more : List Check) (r q : Row) → Every Holds more → (Every Holds ks → Does r q) → Alike (checked s ks r) (checked s (ks ++ more) q)
  unfolding checked
  checked_alike [] more r q all go = more_hold more r q all (go tt)
  checked_alike (k ∷ ks) more r q all go = when_alike k.holds _ _ _ (λ t. checked_alike ks more r q all (λ rest. go (t, rest)))

  -- a check that holds may be left out
  skip_held : (ks : List Check) (k : Check) (more : List Check) (r : Row) → k.holds ≡ true → checked s (ks ++ k ∷ more) r ≡ checked s (ks ++ more) r
  unfolding checked
  skip_held [] k more r t = when_yes _ _ t
  skip_held (x ∷ ks) k more r t = ap (λ (f : Fate). when x.holds f (refused s x.alarm x.place)) (skip_held ks k more r t)

  -- of the second, the same checks by another way
  by_checks : (ks ls more : List Check) (r q : Row) → ls ≡ ks ++ more → Every Holds more → (Every Holds ks → Does r q) → Alike (checked s ks r) (checked s ls q)
  by_checks ks ls more r q e all go = subst (λ (l : List Check). Alike (checked s ks r) (checked s l q)) (sym e) (checked_alike ks more r q all go)

-- the checks of a row, by the values of its fields, and by the octet that should be zero
abbrev pub prm_checks : Sheet → ℕ → ℕ → ℕ → ℕ → (ℕ → Bool) → List Check
prm_checks h number size most stray right =
    check (one_of number (map (λ (p : Parameter). p.number) h.parameters)) 9 4
    ∷ check (eqb size (parameter_of h.parameters number).size) 9 6
    ∷ check (leb size most) 9 6
    ∷ check (eqb stray 0) 9 stray
    ∷ rights_check right (cells h.regions) (parameter_of h.parameters number).address (parameter_of h.parameters number).size
    ∷ []

abbrev pub id_checks : Sheet → ℕ → ℕ → ℕ → ℕ → ℕ → List Check
id_checks h item offset size most stray =
    check (one_of item (map (λ (i : Item). i.code) h.items)) 9 4
    ∷ check (leb 1 size) 9 6
    ∷ check (leb (offset + size) (item_of h.items item).length) 9 6
    ∷ check (leb size most) 9 6
    ∷ check (eqb stray 0) 9 stray
    ∷ []

abbrev pub con_checks : Sheet → ℕ → ℕ → ℕ → ℕ → List Check
con_checks h version mode time stray =
    check (eqb version h.version) 9 4
    ∷ check (com_mod mode) 9 5
    ∷ check (leb 1 time && implies (bit mode 2) (leb 2 time)) 9 6
    ∷ check (eqb stray 0) 9 stray
    ∷ []

abbrev pub con_changes : ℕ → ℕ → List Piece
con_changes mode time = piece 1 (when (bit mode 1) 3 2 ∷ []) ∷ piece 3 (when (bit mode 2) 1 0 ∷ []) ∷ piece 4 (time ∷ []) ∷ []

module _ (h : Sheet) (s m c d : List ℕ) (first : is_release2 h ≡ false) (sixteen : h.l ≡ 16) (same : SameFields h c d) where
  abbrev low : Sheet
  low = typed short h

  abbrev high : Sheet
  high = typed enhanced h

  abbrev shorts : List Row
  shorts = short_table low s m c

  abbrev enhanceds : List Row
  enhanceds = enhanced_table high s m d

  -- release 1 asks no octet to be zero
  z : (k : ℕ) → stray_in high s m d enhanced (nth enhanceds k).named ≡ stray_in low s m c short (nth shorts k).named
  z k = when_no _ _ first ∙ sym (when_no _ _ first)

  eight : h.l - 8 ≡ 8
  eight = omega arith

  -- what a code's row says is the same in both, where the command has that code
  abbrev Same : ℕ → Type 0
  Same k = code c ≡ k → NoMemoryCode k → Alike (judged s k shorts) (judged s k enhanceds)

  -- a row by the checks that judge it, its link among them
  row_alike : (k : ℕ) (r q : Row) (ls more : List Check) → judged s k shorts ≡ checked s (all_checks s r) r → judged s k enhanceds ≡ checked s ls q
      → ls ≡ all_checks s r ++ more → Every Holds more → (Every Holds (all_checks s r) → Does r q) → Alike (judged s k shorts) (judged s k enhanceds)
  row_alike k r q ls more e₁ e₂ same-checks all does =
      subst (λ (f : Fate). Alike f (judged s k enhanceds)) (sym e₁)
      (subst (λ (f : Fate). Alike (checked s (all_checks s r) r) f) (sym e₂) (by_checks s (all_checks s r) ls more r q same-checks all does))

  -- the octets that a write stores: as many as the parameter has, which is the command's size
  written : code c ≡ 0x02 → Every Holds (nth shorts 2).checks → (nth shorts 2).stores ≡ (nth enhanceds 2).stores
  written e all =
      let p : Parameter = parameter low s m c in
      let own = sized _ p.size _ _ (eqb-true _ p.size all.1.0) (same.data_octets e all.1.1.0) in
      ap (λ (o : List ℕ). piece p.address o ∷ []) own
      ∙ ap (λ (q : Parameter). piece q.address (take q.size (drop 8 d)) ∷ []) (ap (parameter_of h.parameters) (same.numbers (ap (λ (n : ℕ). one_of n (0x01 ∷ 0x02 ∷ [])) e)))
    where
      sized : (x z : ℕ) (a b : List ℕ) → x ≡ z → take x a ≡ take x b → take z a ≡ take z b
      sized x z a b e q = subst (λ (n : ℕ). take n a ≡ take n b) e q

  -- "L at least 16" holds, so that ALM_RD is judged without it
  long_enough : judged s 0x05 enhanceds ≡ checked s (check (one_of (link s) (nth enhanceds 4).links) 12 0 ∷ drop 1 (nth enhanceds 4).checks) (nth enhanceds 4)
  unfolding judged when checked
  long_enough =
      ap (λ (b : Bool). when (one_of (link s) (nth enhanceds 4).links) (when b (checked s (drop 1 (nth enhanceds 4).checks) (nth enhanceds 4)) (refused s 9 0)) (refused s 12 0))
      (le-leb 16 h.l (omega arith))

  -- and so does the profile, so that CONNECT is judged without it
  profiled : code c ≡ 0x0E
      → judged s 0x0E enhanceds ≡ checked s (check (one_of (link s) (nth enhanceds 7).links) 12 0 ∷ take 3 (nth enhanceds 7).checks ++ drop 4 (nth enhanceds 7).checks) (nth enhanceds 7)
  unfolding judged when
  profiled e =
      skip_held s (check (one_of (link s) (nth enhanceds 7).links) 12 0 ∷ take 3 (nth enhanceds 7).checks) _ (drop 4 (nth enhanceds 7).checks) (nth enhanceds 7)
      (eq-eqb _ h.profile (same.connections e).3)

  rows_alike : (k : ℕ) → Same k
  unfolding judged when
  rows_alike =
      by_code Same
      (λ e b. row_alike 0x00 (nth shorts 0) (nth enhanceds 0) (all_checks s (nth enhanceds 0)) [] refl refl (λ i. check (one_of (link s) (nth shorts 0).links) 12 0 ∷ check (eqb (z 0 i) 0) 9 (z 0 i) ∷ []) tt (λ all. record { changes = refl; stores = refl }))
      (λ e b. row_alike 0x01 (nth shorts 1) (nth enhanceds 1) (all_checks s (nth enhanceds 1)) [] refl refl (λ i. check (one_of (link s) (nth shorts 1).links) 12 0 ∷ prm_checks h (sym (same.numbers (ap (λ (n : ℕ). one_of n (0x01 ∷ 0x02 ∷ [])) e)) i) (sym (same.sizes (ap (λ (n : ℕ). one_of n (0x01 ∷ 0x02 ∷ [])) e)) i) (eight i) (z 1 i) readable) tt (λ all. record { changes = refl; stores = refl }))
      (λ e b. row_alike 0x02 (nth shorts 2) (nth enhanceds 2) (all_checks s (nth enhanceds 2)) [] refl refl (λ i. check (one_of (link s) (nth shorts 2).links) 12 0 ∷ prm_checks h (sym (same.numbers (ap (λ (n : ℕ). one_of n (0x01 ∷ 0x02 ∷ [])) e)) i) (sym (same.sizes (ap (λ (n : ℕ). one_of n (0x01 ∷ 0x02 ∷ [])) e)) i) (eight i) (z 2 i) (writable (link s))) tt (λ all. record { changes = refl; stores = written e all.1 }))
      (λ e b. row_alike 0x03 (nth shorts 3) (nth enhanceds 3) (all_checks s (nth enhanceds 3)) [] refl refl (λ i. check (one_of (link s) (nth shorts 3).links) 12 0 ∷ id_checks h (sym (same.items e).0 i) (sym (same.items e).1 i) (sym (same.items e).2 i) (eight i) (z 3 i)) tt (λ all. record { changes = refl; stores = refl }))
      (λ e b. row_alike 0x05 (nth shorts 4) (nth enhanceds 4) (check (one_of (link s) (nth enhanceds 4).links) 12 0 ∷ drop 1 (nth enhanceds 4).checks) [] refl long_enough (λ i. check (one_of (link s) (nth shorts 4).links) 12 0 ∷ check (eqb (sym (same.modes (ap (λ (n : ℕ). one_of n (0x05 ∷ 0x06 ∷ [])) e)) i) 0) 9 4 ∷ check (eqb (z 4 i) 0) 9 (z 4 i) ∷ []) tt (λ all. record { changes = refl; stores = refl }))
      (λ e b. row_alike 0x06 (nth shorts 5) (nth enhanceds 5) (all_checks s (nth enhanceds 5)) [] refl refl (λ i. check (one_of (link s) (nth shorts 5).links) 12 0 ∷ check (eqb (sym (same.modes (ap (λ (n : ℕ). one_of n (0x05 ∷ 0x06 ∷ [])) e)) i) 0) 9 4 ∷ check (eqb (z 5 i) 0) 9 (z 5 i) ∷ []) tt (λ all. record { changes = refl; stores = refl }))
      (λ e b. row_alike 0x0D (nth shorts 6) (nth enhanceds 6) (all_checks s (nth enhanceds 6)) [] refl refl (λ i. check (one_of (link s) (nth shorts 6).links) 12 0 ∷ check (eqb (z 6 i) 0) 9 (z 6 i) ∷ []) tt (λ all. record { changes = refl; stores = refl }))
      (λ e b. row_alike 0x0E (nth shorts 7) (nth enhanceds 7) (check (one_of (link s) (nth enhanceds 7).links) 12 0 ∷ take 3 (nth enhanceds 7).checks ++ drop 4 (nth enhanceds 7).checks) [] refl (profiled e) (λ i. check (one_of (link s) (nth shorts 7).links) 12 0 ∷ con_checks h (sym (same.connections e).0 i) (sym (same.connections e).1 i) (sym (same.connections e).2 i) (z 7 i)) tt (λ all. record { changes = λ i. con_changes ((same.connections e).1 i) ((same.connections e).2 i); stores = refl }))
      (λ e b. row_alike 0x0F (nth shorts 8) (nth enhanceds 8) (all_checks s (nth enhanceds 8)) [] refl refl (λ i. check (one_of (link s) (nth shorts 8).links) 12 0 ∷ check (eqb (z 8 i) 0) 9 (z 8 i) ∷ []) tt (λ all. record { changes = refl; stores = refl }))
      (λ e b. cc)
      (λ e b. cc)
      (λ n z0 z1 z2 z3 z4 z5 z6 z7 z8 z9 z10 e b.
      subst (λ (f : Fate). Alike f (judged s n enhanceds)) (sym (none_judges s n shorts (z0, (z1, (z2, (z3, (z4, (z5, (z6, (z7, (z8, tt)))))))))))
      (subst (λ (f : Fate). Alike (refused s 8 0) f) (sym (none_judges s n enhanceds (z0, (z1, (z2, (z3, (z4, (z5, (z6, (z7, (z8, (z9, (z10, tt))))))))))))) (itself (refused s 8 0))))

  -- check 1 goes by WDT alone
  missed_alike : missed low s c ≡ missed high s d
  missed_alike =
      ap (λ (w : ℕ). eqb (link s) 3 && (eqb (mn_known s) 1 && not (eqb (w % 16) ((last_mn s + 1) % 16) && eqb (w / 16) (rsn s)))) same.wdts

  fate_alike : NoMemoryCode (code c) → Alike (fate_of low s m c) (fate_of high s m d)
  unfolding fate_of when
  fate_alike both =
      let j : Alike (judged s (code c) shorts) (judged s (code d) enhanceds) =
      subst (λ (k : ℕ). Alike (judged s (code c) shorts) (judged s k enhanceds)) same.codes (rows_alike (code c) refl both) in
      subst (λ (b : Bool). Alike (fate_of low s m c) (when b (failing high s) (passing (judged s (code d) enhanceds)))) missed_alike
      (beside (missed low s c) _ _ _ (record { alarm = j.alarm; place = j.place; changes = ap (λ (ps : List Piece). piece 10 (0 ∷ []) ∷ ps) j.changes; stores = j.stores }))
    where
      beside : (b : Bool) (f g x : Fate) → Alike f g → Alike (when b x f) (when b x g)
      beside true f g x go = itself x
      beside false f g x go = go

pub same_fields_same_fate : SameFieldsSameFate
same_fields_same_fate h s m c d r q first a b same both =
    let low = typed short h in
    let high = typed enhanced h in
    let f = fate_alike h s m c d first a.good.l same both in
    let x = answered_done low (sheet_octets low) s m c r a in
    let y = answered_done high (sheet_octets high) s m d q b in (
      ap (λ (l : Left). alarm_in low l.reply) x ∙ seen_alarm low s m c a.good.l ∙ f.alarm
          ∙ sym (ap (λ (l : Left). alarm_in high l.reply) y ∙ seen_alarm high s m d b.good.l),
      ap (λ (l : Left). l.answer) x ∙ ap (told 0) f.place ∙ sym (ap (λ (l : Left). l.answer) y),
      ap (λ (l : Left). l.state) x ∙ ap₂ (λ (w : ℕ) (ps : List Piece). state_after s (w % 16) ps) same.wdts f.changes ∙ sym (ap (λ (l : Left). l.state) y),
      ap (λ (l : Left). l.memory) x ∙ ap (λ (ps : List Piece). stored ps (cells h.regions) m) f.stores ∙ sym (ap (λ (l : Left). l.memory) y),
    )
