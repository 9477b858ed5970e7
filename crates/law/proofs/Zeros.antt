-- Request 13 in the tables: the octets that a row does not name, and where their check stands.
--     stray_same   the first such octet that is not zero, by the table and by the machine
--     between      a judgement by data and rights, with that check between them
use mathlib.Core.Bool.{Bool, true, false, ◌&&◌, ◌||◌}
use mathlib.Core.List.{List, [], ◌∷◌, ◌++◌}
use mathlib.Core.Logic.{⊎_elim}
use mathlib.Core.Path.{◌≡◌, refl, sym, ap, ap₂, subst, ◌∙◌}
use Prim.Native.Nat.{ℕ, suc, ◌%◌}
use native.Mathlib.Omega.{arith}
use borrow.Author.Tests.{eq-eqb, ne_eqb, eqb-true}
use lib.Dec.{eqb}
use lib.ListN.{length}
use Rattle.std.specs.Prelude.{Ok, Err}
use Rattle.std.proofs.lemmas.Bool.{and_parts, or_right}
use Rattle.octets.specs.Pick.{pick}
use Rattle.octets.proofs.Cases.{eq_or_ne}
use Rattle.octets.proofs.Pick.{pick_yes, pick_no, pick_ne}
use Rattle.frame.specs.Unnamed.{names_of, is_named as is_named_there, unnamed_bits as bits_there, stray_from as stray_there, stray_as}
use Rattle.frame.specs.declared.unnamed.Run.{Run as Stretch}
use Rattle.frame.proofs.Named.{named, stray_at}
use Rattle.frame.proofs.Strays.{stray_none, stray_one, bits_enhanced, bits_short, stray_as_lem}
use Rattle.link.specs.Stored.{octets_of}
use Rattle.link.specs.declared.state.LinkState.{LinkState}
use Rattle.link.proofs.Facts.{Facts}
use Rattle.machine.specs.Judgements.{Judgement, alarm_number, refused as refusal}
use Rattle.machine.specs.Judging.{strayed}
use Rattle.machine.specs.Outcomes.{finished}
use Rattle.machine.specs.declared.codes.Alarm.TheVariants.{OutOfRange}
use Rattle.machine.specs.declared.words.Field.TheVariants.{Stray}
use Rattle.machine.specs.declared.words.Refused.{Refused}
use Rattle.law.specs.Words.{when}
use Rattle.law.specs.Sheet.{PduType, enhanced, short, Sheet, GoodLength, allows, is_release2}
use Rattle.law.specs.Table.{Run, Check, check, Row, head_named, is_named, unnamed_bits, stray_from, stray_in}
use Rattle.law.specs.Exchange.{Fate, code, wdt, refused, checked}
use Rattle.law.proofs.Laid.{picked}
use Rattle.law.proofs.Layouts.{form_for, release_for, release_two}
use Rattle.law.proofs.Rows.{J, via, refusing}
use Rattle.law.proofs.World.{World}

bits_same : (pdu : PduType) (k x : ℕ) → bits_there (form_for pdu) k x ≡ unnamed_bits pdu k x
bits_same enhanced k x = bits_enhanced k x ∙ picked (eqb k 2) (x % 64) x
bits_same short k x = bits_short k x

module _ (pdu : PduType) (there : List Stretch) (here : List Run) (same : (i : ℕ) → is_named_there there i ≡ is_named here i) where
  from_same : (k : ℕ) (xs : List ℕ) → stray_there (form_for pdu) there k xs ≡ stray_from pdu here k xs
  unfolding stray_from
  from_same k [] = stray_none (form_for pdu) there k
  from_same k (x ∷ xs) =
      stray_one (form_for pdu) there k x xs
      ∙ (λ i. pick (same k i || eqb (bits_same pdu k x i) 0) (from_same (suc k) xs i) k)
      ∙ picked (is_named here k || eqb (unnamed_bits pdu k x) 0) (stray_from pdu here (suc k) xs) k

pub stray_same : (pdu : PduType) (h : Sheet) (s m c : List ℕ) (n : ℕ) (here : List Run)
    → ((i : ℕ) → is_named_there (names_of (form_for pdu) n c) i ≡ is_named (head_named pdu ++ here) i)
    → stray_as (form_for pdu) (release_for h) n c ≡ stray_in h s m c pdu here
stray_same pdu h s m c n here same =
    stray_as_lem (form_for pdu) (release_for h) n c
    ∙ ap₂ (λ (b : Bool) (x : ℕ). pick b x 0) (release_two h) (from_same pdu _ _ same 0 c)
    ∙ picked (is_release2 h) _ 0

-- every check of a list has this alarm
abbrev pub alarmed : ℕ → List Check → Bool
alarmed a [] = true
alarmed a (k ∷ ks) = eqb k.alarm a && alarmed a ks

strayed_none : (j : Judgement) → strayed 0 j ≡ j
unfolding strayed
strayed_none (Err r) = pick_yes _ _ refl
strayed_none (Ok d) = pick_yes _ _ refl

module _ (u : ℕ) where
  strayed_nine : (r : Refused) → alarm_number r.alarm ≡ 9 → strayed u (Err r) ≡ Err r
  unfolding strayed
  strayed_nine r e = pick_yes _ _ (or_right (eqb u 0) (eqb (alarm_number r.alarm) 9) (eq-eqb (alarm_number r.alarm) 9 e))

  strayed_other : (u ≡ 0 → ⊥) → (r : Refused) → (alarm_number r.alarm ≡ 9 → ⊥) → strayed u (Err r) ≡ refusal OutOfRange (Stray u)
  unfolding strayed
  strayed_other z r n = pick_no _ _ (ap₂ ◌||◌ (ne_eqb u 0 z) (ne_eqb (alarm_number r.alarm) 9 n))

module _ (s : List ℕ) (r : Row) where
  -- one check that is not of alarm 9, and the others
  one_not_nine : (b : Bool) (k : Check) (f : Fate) → k.alarm ≡ 10 → (f.alarm ≡ 9 → ⊥) → (when b f (refused s k.alarm k.place)).alarm ≡ 9 → ⊥
  unfolding when refused
  one_not_nine true k f t g q = g q
  one_not_nine false k f t g q = omega arith

  -- where only rights are asked, alarm 9 does not come of it
  not_nine : (ks : List Check) → alarmed 10 ks ≡ true → (checked s ks r).alarm ≡ 9 → ⊥
  unfolding checked
  not_nine [] e q = omega arith
  not_nine (k ∷ ks) e q =
      let p = and_parts (eqb k.alarm 10) (alarmed 10 ks) e in
      one_not_nine k.holds k (checked s ks r) (eqb-true k.alarm 10 p.0) (not_nine ks p.1) q

module _ (pdu : PduType) (h : Sheet) (sheet : List ℕ) (st : LinkState) (m c : List ℕ) (facts : Facts h.l (allows h) st) (on : st.link ≡ 0 → ⊥)
    (world : World h sheet m) (good : GoodLength pdu h.l) (asked : length c ≡ h.l) (wdt-is : (named (form_for pdu) (code c) c).wdt ≡ wdt pdu c) where
  abbrev s : List ℕ
  s = octets_of st

  abbrev Here : Judgement → Fate → Type 0
  Here = J pdu h sheet st m c facts on world good asked wdt-is

  -- a refusal has the alarm of its fate, and what is accepted has none
  refused_alarm : (r : Refused) (f : Fate) → Here (Err r) f → alarm_number r.alarm ≡ f.alarm
  unfolding finished
  refused_alarm r f g = g.same.alarm

  accepted_alarm : (j : Judgement) (f : Fate) → Here j f → f.alarm ≡ 9 → (r : Refused) × (j ≡ Err r) × (alarm_number r.alarm ≡ 9)
  unfolding finished
  accepted_alarm (Err r) f g e = (r, refl, g.same.alarm ∙ e)
  accepted_alarm (Ok d) f g e = absurd (let q : 0 ≡ f.alarm = g.same.alarm in omega arith)

  stands : (u place : ℕ) (j : Judgement) → Here j (refused s 9 place) → Here (strayed u j) (refused s 9 place)
  unfolding refused
  stands u place j g =
      let q = accepted_alarm j _ g refl in
      via pdu h sheet st m c facts on world good asked wdt-is (ap (strayed u) q.1 ∙ strayed_nine u q.0 q.2 ∙ sym q.1) g

  other : (u : ℕ) → (u ≡ 0 → ⊥) → (j : Judgement) (f : Fate) → Here j f → (f.alarm ≡ 9 → ⊥) → strayed u j ≡ refusal OutOfRange (Stray u)
  unfolding strayed
  other u z (Err r) f g n = strayed_other u z r (λ e. n (sym (refused_alarm r f g) ∙ e))
  other u z (Ok d) f g n = pick_ne _ _ z

  module _ (u : ℕ) (rights : List Check) (r : Row) (ten : alarmed 10 rights ≡ true) where
    asked_there : (j : Judgement) → Here j (checked s rights r) → Here (strayed u j) (checked s (check (eqb u 0) 9 u ∷ rights) r)
    unfolding checked when
    asked_there j g =
        ⊎_elim
        (λ (e : u ≡ 0).
        subst (λ (b : Bool). Here (strayed u j) (when b (checked s rights r) (refused s 9 u))) (sym (eq-eqb u 0 e))
        (via pdu h sheet st m c facts on world good asked wdt-is (ap (λ (n : ℕ). strayed n j) e ∙ strayed_none j) (yes g)))
        (λ (z : u ≡ 0 → ⊥).
        subst (λ (b : Bool). Here (strayed u j) (when b (checked s rights r) (refused s 9 u))) (sym (ne_eqb u 0 z))
        (via pdu h sheet st m c facts on world good asked wdt-is (other u z j _ g (not_nine s r rights ten)) no))
        (eq_or_ne u 0)
      where
        yes : Here j (checked s rights r) → Here j (when true (checked s rights r) (refused s 9 u))
        yes k = k

        no : Here (refusal OutOfRange (Stray u)) (when false (checked s rights r) (refused s 9 u))
        no = refusing pdu h sheet st m c facts on world good asked wdt-is OutOfRange (Stray u) u (stray_at u)

    -- one check of data
    one_more : (b : Bool) (k : Check) (j : Judgement) {f g : Fate} → k.alarm ≡ 9 → (Here j f → Here (strayed u j) g)
        → Here j (when b f (refused s k.alarm k.place)) → Here (strayed u j) (when b g (refused s k.alarm k.place))
    unfolding when
    one_more true k j e go q = go q
    one_more false k j e go q =
        subst (λ (a : ℕ). Here (strayed u j) (refused s a k.place)) (sym e)
        (stands u k.place j (subst (λ (a : ℕ). Here j (refused s a k.place)) e q))

    pub between : (own : List Check) (j : Judgement) → alarmed 9 own ≡ true → Here j (checked s (own ++ rights) r)
        → Here (strayed u j) (checked s (own ++ check (eqb u 0) 9 u ∷ rights) r)
    unfolding checked
    between [] j e g = asked_there j g
    between (k ∷ own) j e g =
        let p = and_parts (eqb k.alarm 9) (alarmed 9 own) e in
        one_more k.holds k j (eqb-true k.alarm 9 p.0) (between own j p.1) g
