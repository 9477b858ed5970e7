-- Request 3: which octet was wrong.
--     row_of          a command is judged by the row of its code
use mathlib.Core.Bool.{Bool, true, false, not, ◌&&◌, ◌||◌}
use mathlib.Core.Logic.{⊎_elim}
use mathlib.Core.Path.{◌≡◌, refl, sym, ap, ◌∙◌}
use mathlib.Core.List.{List, [], ◌∷◌, ◌++◌, map}
use Prim.Native.Nat.{ℕ}
use native.Mathlib.Omega.{arith}
use borrow.Author.Tests.{eq-eqb, ne_eqb, not-true, eqb-false}
use lib.Dec.{eqb, ltb}
use Rattle.std.proofs.lemmas.Bool.{and_parts}
use Rattle.octets.proofs.Cases.{decided}
use Rattle.law.specs.Words.{when, Every, one_of}
use Rattle.law.specs.Sheet.{Sheet, sheet_octets, allows}
use Rattle.law.specs.State.{link, failures}
use Rattle.law.specs.Table.{Check, check, Row, stray_in, table}
use Rattle.law.specs.Exchange.{Fate, code, missed, refused, checked, judged, fate_of, failing, passing}
use Rattle.law.proofs.Laid.{when_yes, when_no}
use Rattle.slave.specs.Exchange.{Left, exchange_of}
use Rattle.demands.specs.Accepted.{accepted}
use Rattle.demands.specs.Answered.{Answered, alarm_in}
use Rattle.demands.specs.Hidden.{Seen, seen}
use Rattle.demands.specs.Places.{data_places, places_of, each_with, place_in, Holds, Decided, all_checks, FirstFailedIsTold, UnknownCodeIsTold, OctetsOfTheFields, NoFieldWasWrong, PlacesAreTheSame}
use Rattle.demands.specs.Sequences.{run_of}
use Rattle.demands.proofs.Done.{answered_done, seen_alarm}
use Rattle.demands.proofs.Exact.{acceptance_is_exact}
use Rattle.demands.proofs.OnTheWire.{quiet}
use Rattle.demands.proofs.Fates.{named_checks, named_rows, check_named, done_row, by_type, in_both, named, fate_by, fate_missed, fate_kept, when_cases}
use Rattle.demands.proofs.Runs.{demand_3}

pub octets_of_the_fields : OctetsOfTheFields
unfolding when
octets_of_the_fields h s m c =
    by_type h s m c (λ pdu rs. map (λ (r : Row). r.code ∷ data_places r.checks) rs ≡ each_with (places_of pdu) (map (λ (r : Row). stray_in h s m c pdu r.named) rs)) refl refl h.pdu

-- the row of a code
module _ (s : List ℕ) (k : ℕ) where
  -- how a row's links and checks judge a command
  abbrev by_row : Row → Fate
  by_row r = checked s (check (one_of (link s) r.links) 12 0 ∷ r.checks) r

  abbrev Judges : List Row → Row → Type 0
  Judges rs r = k ≡ r.code → judged s k rs ≡ by_row r

  -- no row of a list has a code
  abbrev Without : ℕ → List Row → Bool
  Without x [] = true
  Without x (r ∷ rs) = not (eqb x r.code) && Without x rs

  -- no two rows have one code
  abbrev pub Unlike : List Row → Bool
  Unlike [] = true
  Unlike (r ∷ rs) = Without r.code rs && Unlike rs

  -- a row before those with the code is passed
  passed : (r : Row) (rest qs : List Row) → Without r.code qs ≡ true → Every (Judges rest) qs → Every (Judges (r ∷ rest)) qs
  unfolding judged
  passed r rest [] w all = tt
  passed r rest (q ∷ qs) w all =
      let p = and_parts _ _ w in (
        λ e. when_no _ _ (ap (λ (x : ℕ). eqb x r.code) e ∙ other r.code q.code (not-true _ p.0)) ∙ all.0 e,
        passed r rest qs p.1 all.1,
      )
    where
      other : (x y : ℕ) → eqb x y ≡ false → eqb y x ≡ false
      other x y f = ne_eqb y x (λ e. eqb-false x y f (sym e))

  pub row_of : (rs : List Row) → Unlike rs ≡ true → Every (Judges rs) rs
  unfolding judged
  row_of [] u = tt
  row_of (r ∷ rs) u =
      let p = and_parts _ _ u in
      (λ e. when_yes _ _ (eq-eqb k r.code e), passed r rs rs p.0 (row_of rs p.1))

-- what a row's checks come to
all_done : (s : List ℕ) (ks : List Check) (r : Row) → Every Holds ks → checked s ks r ≡ done_row r
unfolding checked
all_done s [] r all = refl
all_done s (k ∷ ks) r all = when_yes _ _ all.0 ∙ all_done s ks r all.1

first_refuses : (s : List ℕ) (r : Row) (before : List Check) (k : Check) (after : List Check) → Every Holds before → k.holds ≡ false
    → checked s (before ++ k ∷ after) r ≡ refused s k.alarm k.place
unfolding checked
first_refuses s r [] k after all f = when_no _ _ f
first_refuses s r (b ∷ before) k after all f = when_yes _ _ all.0 ∙ first_refuses s r before k after all.1 f

-- a row without an alarm has checks that hold
no_alarm_holds : (s : List ℕ) (ks : List Check) (r : Row) → named_checks ks ≡ true → (checked s ks r).alarm ≡ 0 → Every Holds ks
unfolding checked refused
no_alarm_holds s [] r e z = tt
no_alarm_holds s (k ∷ ks) r e z =
    let p = and_parts _ _ e in
    ⊎_elim
    (λ (t : k.holds ≡ true). (t, no_alarm_holds s ks r p.1 (sym (ap (λ (f : Fate). f.alarm) (when_yes _ _ t)) ∙ z)))
    (λ (t : k.holds ≡ false).
    let a = (check_named k p.0).some in
    let q : k.alarm ≡ 0 = sym (ap (λ (f : Fate). f.alarm) (when_no _ _ t)) ∙ z in
    absurd (omega (arith, a, q)))
    (decided k.holds)

-- an answered exchange
module _ (h : Sheet) (sheet s m c r : List ℕ) (a : Answered h sheet s m c r) where
  abbrev x : Left
  x = exchange_of sheet s m c r

  pub place_is : place_in x ≡ (fate_of h s m c).place
  place_is = ap place_in (answered_done h sheet s m c r a)

  pub alarm_is : alarm_in h x.reply ≡ (fate_of h s m c).alarm
  alarm_is = ap (λ (l : Left). alarm_in h l.reply) (answered_done h sheet s m c r a) ∙ seen_alarm h s m c a.good.l

  module _ (go : missed h s c ≡ false) where
    abbrev row : Fate
    row = judged s (code c) (table h s m c)

    -- the reply's alarm and the answer's place are the row's
    row_alarm : alarm_in h x.reply ≡ row.alarm
    row_alarm = alarm_is ∙ ap (λ (f : Fate). f.alarm) (fate_kept h s m c go)

    row_place : place_in x ≡ row.place
    row_place = place_is ∙ ap (λ (f : Fate). f.place) (fate_kept h s m c go)

    -- accepted, where the row has no alarm
    accepts : row.alarm ≡ 0 → accepted h s m c ≡ true
    accepts z = ap (λ (b : Bool). not b && eqb row.alarm 0) go ∙ eq-eqb row.alarm 0 z

    -- a row that judges the command
    decides : (q : Row) → named_checks q.checks ≡ true → row ≡ by_row s (code c) q → Decided h s (all_checks s q) x
    unfolding refused
    decides q named own =
        let exact = acceptance_is_exact h sheet s m c r a in
        record {
          executed_exactly = (
            λ all. exact.0 (accepts (ap (λ (f : Fate). f.alarm) (own ∙ all_done s (all_checks s q) q all))),
            λ done. no_alarm_holds s (all_checks s q) q named
                (sym (ap (λ (f : Fate). f.alarm) own) ∙ sym row_alarm ∙ done.no_alarm),
          );
          no_place = λ all. row_place ∙ ap (λ (f : Fate). f.place) (own ∙ all_done s (all_checks s q) q all);
          first_that_fails = λ before k after split all f.
              let to = own ∙ ap (λ (ks : List Check). checked s ks q) split ∙ first_refuses s q before k after all f in
              (row_alarm ∙ ap (λ (g : Fate). g.alarm) to, row_place ∙ ap (λ (g : Fate). g.place) to);
        }

    each : (rs : List Row) → named_rows rs ≡ true → Every (λ (q : Row). code c ≡ q.code → row ≡ by_row s (code c) q) rs
        → Every (λ (q : Row). code c ≡ q.code → Decided h s (all_checks s q) x) rs
    each [] known all = tt
    each (q ∷ qs) known all =
        let p = and_parts _ _ known in
        (λ e. decides q p.0 (all.0 e), each qs p.1 all.1)

pub first_failed_is_told : FirstFailedIsTold
first_failed_is_told h sheet s m c r a go =
    each h sheet s m c r a go (table h s m c) (named h s m c) (row_of s (code c) (table h s m c) (in_both h s m c (λ rs. Unlike s (code c) rs ≡ true) refl refl))

-- a code that no row has
pub none_judges : (s : List ℕ) (k : ℕ) (rs : List Row) → Every (λ (r : Row). k ≡ r.code → ⊥) rs → judged s k rs ≡ refused s 8 0
unfolding judged
none_judges s k [] all = refl
none_judges s k (r ∷ rs) all = when_no _ _ (ne_eqb k r.code all.0) ∙ none_judges s k rs all.1

pub unknown_code_is_told : UnknownCodeIsTold
unfolding refused
unknown_code_is_told h sheet s m c r a go none =
    let e = fate_kept h s m c go ∙ ap passing (none_judges s (code c) (table h s m c) none) in
    (alarm_is h sheet s m c r a ∙ ap (λ (f : Fate). f.alarm) e, place_is h sheet s m c r a ∙ ap (λ (f : Fate). f.place) e)

no_place : (h : Sheet) (s : List ℕ) → (failing h s).place ≡ 0
no_place h s = when_cases (λ f. f.place ≡ 0) (ltb (failures s) (allows h)) (λ e. refl) (λ e. refl)

-- a fate that names no field has place 0
no_field : (h : Sheet) (s m c : List ℕ) → one_of (fate_of h s m c).alarm (0 ∷ 8 ∷ 12 ∷ []) ≡ true → (fate_of h s m c).place ≡ 0
unfolding refused
no_field h s m c =
    fate_by h s m c (λ f. one_of f.alarm (0 ∷ 8 ∷ 12 ∷ []) ≡ true → f.place ≡ 0) (λ e. refl) (λ e. refl)
    (λ a place w e. w.whole (sym (ap (λ (b : Bool). b || one_of a (8 ∷ 12 ∷ [])) (ne_eqb a 0 (λ z. let l = w.some in omega arith))) ∙ e))
    (in_both h s m c (Every _) (z, (z, (z, (z, (z, (z, (z, (z, (z, (z, (z, tt))))))))))) (z, (z, (z, (z, (z, (z, (z, (z, (z, tt))))))))))
  where
    z : {A B C : Type 0} → A → B → C → ◌≡◌ {A = ℕ} 0 0
    z a b e = refl

pub no_field_was_wrong : NoFieldWasWrong
no_field_was_wrong h sheet s m c r a = record {
  by_alarm = λ e. place_is h sheet s m c r a ∙ no_field h s m c (sym (ap (λ (n : ℕ). one_of n (0 ∷ 8 ∷ 12 ∷ [])) (alarm_is h sheet s m c r a)) ∙ e);
  by_watchdog = λ e.
      let lost-is = fate_missed h s m c e in
      (alarm_is h sheet s m c r a ∙ ap (λ (f : Fate). f.alarm) lost-is ∙ (quiet h s).0, place_is h sheet s m c r a ∙ ap (λ (f : Fate). f.place) lost-is ∙ no_place h s);
}

pub places_are_the_same : PlacesAreTheSame
places_are_the_same h w s m₁ m₂ d calls =
    by_seen (run_of (sheet_octets h) s m₁ calls) ∙ ap (map (λ (x : Seen). x.answer.place)) (demand_3 h w s m₁ m₂ d calls).0
    ∙ sym (by_seen (run_of (sheet_octets h) s m₂ calls))
  where
    by_seen : (ls : List Left) → map place_in ls ≡ map (λ (x : Seen). x.answer.place) (map seen ls)
    by_seen [] = refl
    by_seen (l ∷ ls) = ap (λ (ps : List ℕ). l.answer.place ∷ ps) (by_seen ls)
