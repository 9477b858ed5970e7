-- What can become of a command, by the law's table.
--     judged_by          what every refusal has and every row that is done has, each fate has
--     fate_by            the same with a lost cycle, tolerated or not
--     fate-refused       a fate without acceptance is a lost cycle or a refusal
--     accepted-fate      and one with it is the row's
--     in_both            what both types' tables have, a sheet's has
--     row_stays, row_counts, fate_small    what links, counts and alarms have
use mathlib.Core.Bool.{Bool, true, false, ◌&&◌, or-false}
use mathlib.Core.Path.{◌≡◌, refl, sym, ◌∙◌}
use mathlib.Core.List.{List, [], ◌∷◌}
use Prim.Native.Nat.{ℕ, ◌≤◌, ◌<◌}
use native.Mathlib.Omega.{arith}
use borrow.Author.Tests.{ltb-true, leb-true, eqb-true}
use lib.Dec.{eqb, leb, ltb}
use Rattle.std.proofs.lemmas.Bool.{and_parts}
use Rattle.law.specs.Words.{when, implies, Every, one_of, piece, laid}
use Rattle.law.specs.Sheet.{PduType, enhanced, short, Sheet, allows}
use Rattle.law.specs.State.{link, command_latch, failures}
use Rattle.law.specs.Table.{Check, check, Row, enhanced_table, short_table, table_of, table}
use Rattle.law.specs.Exchange.{Fate, fate, code, lost, tolerated, failing, passing, missed, refused, checked, judged, fate_of}
use Rattle.law.proofs.Clauses.{implied}
use Rattle.law.proofs.Laid.{when_yes, when_no}
use Rattle.demands.specs.Places.{Holds}

pub when_cases : (P : Fate → Type 0) (b : Bool) {x y : Fate} → (b ≡ true → P x) → (b ≡ false → P y) → P (when b x y)
unfolding when
when_cases P true p q = p refl
when_cases P false p q = q refl

-- every alarm of the table is named: it is not 0, and fits half an octet; and those of code and link have no place
abbrev pub named_check : Check → Bool
named_check k = leb 1 k.alarm && (ltb k.alarm 16 && implies (one_of k.alarm (8 ∷ 12 ∷ [])) (eqb k.place 0))

abbrev pub named_checks : List Check → Bool
named_checks [] = true
named_checks (k ∷ ks) = named_check k && named_checks ks

-- what every refusal's alarm and place have
pub record Named (a place : ℕ) : Type 0 where
  pub some : 1 ≤ a
  pub small : a < 16
  pub whole : one_of a (8 ∷ 12 ∷ []) ≡ true → place ≡ 0

pub check_named : (k : Check) → named_check k ≡ true → Named k.alarm k.place
check_named k e =
    let p = and_parts _ _ e in
    let q = and_parts _ _ p.1 in
    record {
      some = leb-true 1 k.alarm p.0;
      small = ltb-true k.alarm 16 q.0;
      whole = λ t. eqb-true k.place 0 (implied _ _ q.1 t);
    }

abbrev pub named_rows : List Row → Bool
named_rows [] = true
named_rows (r ∷ rs) = named_checks r.checks && named_rows rs

-- the row, done
abbrev pub done_row : Row → Fate
done_row r = fate 0 0 r.changes r.body r.stores

module _ (s : List ℕ) (P : Fate → Type 0) (not_done : (a place : ℕ) → Named a place → P (refused s a place)) where
  checked_by : (ks : List Check) (r : Row) → named_checks ks ≡ true → (Every Holds ks → P (done_row r)) → P (checked s ks r)
  unfolding checked
  checked_by [] r e go = go tt
  checked_by (k ∷ ks) r e go =
      let p = and_parts _ _ e in
      when_cases P k.holds (λ t. checked_by ks r p.1 (λ all. go (t, all))) (λ f. not_done k.alarm k.place (check_named k p.0))

  -- each row that is done: its link allows it, and its checks hold
  abbrev Done : Row → Type 0
  Done r = one_of (link s) r.links ≡ true → Every Holds r.checks → P (done_row r)

  -- only the row of the code counts
  pub judged_in : (code : ℕ) (rs : List Row) → named_rows rs ≡ true → Every (λ (r : Row). code ≡ r.code → Done r) rs → P (judged s code rs)
  unfolding judged
  judged_in code [] e all = not_done 8 0 (record { some = omega arith; small = omega arith; whole = λ t. refl })
  judged_in code (r ∷ rs) e all =
      let p = and_parts _ _ e in
      when_cases P (eqb code r.code)
      (λ t. checked_by (check (one_of (link s) r.links) 12 0 ∷ r.checks) r p.0 (λ q. all.0 (eqb-true code r.code t) q.0 q.1))
      (λ f. judged_in code rs p.1 all.1)

  any_code : (code : ℕ) (rs : List Row) → Every Done rs → Every (λ (r : Row). code ≡ r.code → Done r) rs
  any_code code [] all = tt
  any_code code (r ∷ rs) all = (λ e. all.0, any_code code rs all.1)

  pub judged_by : (code : ℕ) (rs : List Row) → named_rows rs ≡ true → Every Done rs → P (judged s code rs)
  judged_by code rs e all = judged_in code rs e (any_code code rs all)

-- what holds of both types' tables holds of a sheet's
pub by_type : (h : Sheet) (s m c : List ℕ) (P : PduType → List Row → Type 0) → P enhanced (enhanced_table h s m c) → P short (short_table h s m c)
    → (pdu : PduType) → P pdu (table_of h s m c pdu)
by_type h s m c P p q enhanced = p
by_type h s m c P p q short = q

pub in_both : (h : Sheet) (s m c : List ℕ) (P : List Row → Type 0) → P (enhanced_table h s m c) → P (short_table h s m c) → P (table h s m c)
in_both h s m c P p q = by_type h s m c (λ pdu rs. P rs) p q h.pdu

module _ (h : Sheet) (s m c : List ℕ) where
  pub named : named_rows (table h s m c) ≡ true
  named = in_both h s m c (λ rs. named_rows rs ≡ true) refl refl

  pub fate_by : (P : Fate → Type 0) → P lost → P (tolerated s) → ((a place : ℕ) → Named a place → P (passing (refused s a place)))
      → Every (λ (r : Row). one_of (link s) r.links ≡ true → Every Holds r.checks → P (passing (done_row r))) (table h s m c) → P (fate_of h s m c)
  unfolding fate_of
  fate_by P p q r all =
      when_cases P (missed h s c) (λ e. when_cases P (ltb (failures s) (allows h)) (λ f. q) (λ f. p)) (λ e. judged_by s (λ f. P (passing f)) r (code c) (table h s m c) named all)

  abbrev row : Fate
  row = judged s (code c) (table h s m c)

  -- a judged command is refused, or has no alarm
  pub row_refused : (row.alarm ≡ 0 → ⊥) → (1 ≤ row.alarm) × (row ≡ refused s row.alarm row.place)
  unfolding refused
  row_refused =
      judged_by s (λ f. (f.alarm ≡ 0 → ⊥) → (1 ≤ f.alarm) × (f ≡ refused s f.alarm f.place))
      (λ a place w z. (w.some, refl)) (code c) (table h s m c) named
      (in_both h s m c (Every _) (u, (u, (u, (u, (u, (u, (u, (u, (u, (u, (u, tt))))))))))) (u, (u, (u, (u, (u, (u, (u, (u, (u, tt))))))))))
    where
      u : {A B C : Type 0} → A → B → (◌≡◌ {A = ℕ} 0 0 → ⊥) → C
      u a b z = absurd (z refl)

  pub fate_missed : missed h s c ≡ true → fate_of h s m c ≡ failing h s
  unfolding fate_of
  fate_missed e = when_yes _ _ e

  pub fate_kept : missed h s c ≡ false → fate_of h s m c ≡ passing row
  unfolding fate_of
  fate_kept e = when_no _ _ e

  -- every alarm fits half an octet
  pub fate_small : (fate_of h s m c).alarm < 16
  unfolding refused
  fate_small =
      fate_by (λ f. f.alarm < 16) o o (λ a place w. w.small)
      (in_both h s m c (Every _) (z, (z, (z, (z, (z, (z, (z, (z, (z, (z, (z, tt))))))))))) (z, (z, (z, (z, (z, (z, (z, (z, (z, tt))))))))))
    where
      o : 0 < 16
      o = omega arith

      z : {A B : Type 0} → A → B → 0 < 16
      z a b = o

  -- a refused command keeps the link
  pub latch_stays : (b : Bool) (a x : ℕ) → laid (when b (piece 8 (a ∷ []) ∷ []) []) 1 x ≡ x
  unfolding when laid
  latch_stays true a x = refl
  latch_stays false a x = refl

  -- no command that is judged lets the link fall from 3 to 2
  pub row_stays : link s ≡ 3 → laid row.changes 1 (link s) ≡ 2 → ⊥
  unfolding refused laid when
  row_stays =
      judged_by s (λ f. link s ≡ 3 → laid f.changes 1 (link s) ≡ 2 → ⊥)
      (λ a place w e q. same e (sym (latch_stays (eqb (command_latch s) 0) a (link s)) ∙ q)) (code c) (table h s m c) named
      (in_both h s m c (Every _)
      (stay, (stay, (stay, (stay, (stay, (stay, (away 2 (omega arith), (away 1 (omega arith), (λ a b e q. omega arith, (stay, (stay, tt)))))))))))
      (stay, (stay, (stay, (stay, (stay, (stay, (away 2 (omega arith), (away 1 (omega arith), (λ a b e q. omega arith, tt))))))))))
    where
      same : link s ≡ 3 → link s ≡ 2 → ⊥
      same e q = omega arith

      stay : {A B : Type 0} → A → B → link s ≡ 3 → link s ≡ 2 → ⊥
      stay a b = same

      -- SYNC_SET and CONNECT are not allowed in link 3
      away : {B C : Type 0} (only : ℕ) → only < 3 → one_of (link s) (only ∷ []) ≡ true → B → link s ≡ 3 → C → ⊥
      away only l a b e q = let k = eqb-true (link s) only (sym (or-false (eqb (link s) only)) ∙ a) in omega arith

  -- no command that is judged touches the count
  pub row_counts : (n : ℕ) → laid row.changes 10 n ≡ n
  unfolding refused laid when
  row_counts n =
      judged_by s (λ f. laid f.changes 10 n ≡ n)
      (λ a place w. latch_counts (eqb (command_latch s) 0) a n) (code c) (table h s m c) named
      (in_both h s m c (Every _) (r, (r, (r, (r, (r, (r, (r, (r, (r, (r, (r, tt))))))))))) (r, (r, (r, (r, (r, (r, (r, (r, (r, tt))))))))))
    where
      r : {A B : Type 0} → A → B → n ≡ n
      r a b = refl

      latch_counts : (b : Bool) (a x : ℕ) → laid (when b (piece 8 (a ∷ []) ∷ []) []) 10 x ≡ x
      latch_counts true a x = refl
      latch_counts false a x = refl
