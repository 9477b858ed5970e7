-- The kinds of a link record are the paper's types of PDU.
use mathlib.Core.Bool.{Bool, true, false, not, ◌&&◌, ◌||◌, true≢false, and-eq-true_iff, or-false}
use mathlib.Core.Logic.{◌⊎◌, inl, inr, ⊎_elim}
use mathlib.Core.Path.{◌≡◌, refl, sym, ap, ap₂, subst, ◌∙◌}
use Prim.Native.Nat.{ℕ}
use native.Mathlib.Omega.{arith}
use borrow.Author.Tests.{eqb-true, eq-eqb, ne_eqb}
use lib.Dec.{eqb}
use Rattle.std.proofs.lemmas.Bool.{or_cases, and_from}
use Rattle.octets.specs.Pick.{pick}
use Rattle.octets.proofs.Cases.{eq_or_ne}
use Rattle.octets.proofs.Pick.{pick_yes, pick_no, pick_eq, pick_ne}
use Rattle.sheet.specs.Kinds.{is_length, is_kind, is_link, length_fits}
use Rattle.sheet.specs.Walk.{form_of}
use Rattle.law.specs.Sheet.{PduType, enhanced, short, FiveLengths, GoodLength, IsOctet, link_kind}
use Rattle.law.proofs.Layouts.{form_for}

-- the type that a link record's kind selects
unfoldable pub pdu_of : ℕ → PduType
pdu_of kind = pick (eqb kind 5) short enhanced

pub link_back : (t : PduType) → is_link (link_kind t) ≡ true
link_back enhanced = refl
link_back short = refl

pub link_known : (t : PduType) → is_kind (link_kind t) ≡ true
unfolding is_kind
link_known enhanced = refl
link_known short = refl

pub kind_octet : (t : PduType) → IsOctet (link_kind t)
kind_octet enhanced = omega arith
kind_octet short = omega arith

pub kind_pdu : (t : PduType) → pdu_of (link_kind t) ≡ t
unfolding pdu_of
kind_pdu enhanced = pick_no _ _ refl
kind_pdu short = pick_yes _ _ refl

-- where a kind is a link record's, it is that of its type
pub link_there : (kind : ℕ) → is_link kind ≡ true → kind ≡ link_kind (pdu_of kind)
unfolding pdu_of
link_there kind e =
    ⊎_elim
    (λ (k : kind ≡ 5). k ∙ ap link_kind (sym (pick_eq _ _ k)))
    (λ (k : kind ≡ 5 → ⊥).
    let one : eqb kind 1 || false ≡ true = ap (λ (b : Bool). eqb kind 1 || b) (sym (ne_eqb kind 5 k)) ∙ e in
    eqb-true kind 1 (sym (or-false (eqb kind 1)) ∙ one) ∙ ap link_kind (sym (pick_ne _ _ k)))
    (eq_or_ne kind 5)

pub no_link : (kind : ℕ) → is_link kind ≡ false → (t : PduType) → kind ≡ link_kind t → ⊥
no_link kind e t k = true≢false (sym (ap is_link k ∙ link_back t) ∙ e)

pub not_link : (kind : ℕ) → ((t : PduType) → kind ≡ link_kind t → ⊥) → is_link kind ≡ false
not_link kind f = ap₂ ◌||◌ (ne_eqb kind 1 (f enhanced)) (ne_eqb kind 5 (f short))

-- the machine's types
pub form_is : (t : PduType) → form_of (link_kind t) ≡ form_for t
unfolding form_of
form_is enhanced = pick_no _ _ refl
form_is short = pick_yes _ _ refl

pub form_read : (kind : ℕ) → form_of kind ≡ form_for (pdu_of kind)
unfolding form_of pdu_of
form_read kind =
    ⊎_elim
    (λ (k : kind ≡ 5). pick_eq _ _ k ∙ ap form_for (sym (pick_eq _ _ k)))
    (λ (k : kind ≡ 5 → ⊥). pick_ne _ _ k ∙ ap form_for (sym (pick_ne _ _ k)))
    (eq_or_ne kind 5)

five : (l : ℕ) → FiveLengths l → is_length l ≡ true
unfolding is_length
five l h =
    ⊎_elim (λ (e : l ≡ 8). rw e) (⊎_elim (λ (e : l ≡ 16). rw e) (⊎_elim (λ (e : l ≡ 32). rw e) (⊎_elim (λ (e : l ≡ 48). rw e) (λ (e : l ≡ 64). rw e)))) h

five_back : (l : ℕ) → is_length l ≡ true → FiveLengths l
unfolding is_length
five_back l e =
    ⊎_elim
    (λ e₄. ⊎_elim
    (λ e₃. ⊎_elim
    (λ e₂. ⊎_elim (λ e₁. inl (eqb-true l 8 e₁)) (λ d. inr (inl (eqb-true l 16 d))) (or_cases (eqb l 8) (eqb l 16) e₂))
    (λ d. inr (inr (inl (eqb-true l 32 d)))) (or_cases (eqb l 8 || eqb l 16) (eqb l 32) e₃))
    (λ d. inr (inr (inr (inl (eqb-true l 48 d))))) (or_cases (eqb l 8 || eqb l 16 || eqb l 32) (eqb l 48) e₄))
    (λ d. inr (inr (inr (inr (eqb-true l 64 d))))) (or_cases (eqb l 8 || eqb l 16 || eqb l 32 || eqb l 48) (eqb l 64) e)

-- the lengths that a type has
pub length_back : (t : PduType) (l : ℕ) → GoodLength t l → length_fits (link_kind t) l ≡ true
unfolding length_fits
length_back enhanced l h = and_from _ true (five l h) refl
length_back short l h = rw h (five_sixteen)
  where
    five_sixteen : is_length 16 && true ≡ true
    five_sixteen = ap (λ (b : Bool). b && true) (five 16 (inr (inl refl)))

pub length_there : (kind l : ℕ) → length_fits kind l ≡ true → GoodLength (pdu_of kind) l
unfolding length_fits pdu_of
length_there kind l e =
    let p = (and-eq-true_iff (is_length l) _).0 e in
    ⊎_elim
    (λ (k : kind ≡ 5).
    subst (λ (t : PduType). GoodLength t l) (sym (pick_eq _ _ k))
    (eqb-true l 16 (sym (ap (λ (b : Bool). not b || eqb l 16) (eq-eqb kind 5 k)) ∙ p.1)))
    (λ (k : kind ≡ 5 → ⊥). subst (λ (t : PduType). GoodLength t l) (sym (pick_ne _ _ k)) (five_back l p.0))
    (eq_or_ne kind 5)

pub good_five : (t : PduType) (l : ℕ) → GoodLength t l → FiveLengths l
good_five enhanced l h = h
good_five short l h = inr (inl h)
