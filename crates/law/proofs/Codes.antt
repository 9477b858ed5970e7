-- A code and its row, in the table of either type: the code, the link, then what the row asks.
use mathlib.Core.Bool.{Bool, true, false, not}
use mathlib.Core.Logic.{⊎_elim}
use mathlib.Core.Path.{◌≡◌, refl, sym, ap, ap₂, subst}
use mathlib.Core.List.{List, ◌∷◌, ◌++◌}
use Prim.Native.Nat.{ℕ, suc, ◌/◌, ◌%◌}
use native.Mathlib.Omega.{arith}
use lib.Dec.{eqb}
use lib.ListN.{length, get_or, take, drop}
use Rattle.octets.specs.Pick.{pick}
use Rattle.octets.proofs.Cases.{eq_or_ne}
use Rattle.octets.proofs.Pick.{pick_yes, pick_no}
use Rattle.frame.specs.Unnamed.{names_of, is_named as is_named_there, stray_as}
use Rattle.frame.proofs.Named.{named, whole_at, wdt_enhanced, wdt_short}
use Rattle.link.specs.Stored.{octets_of}
use Rattle.link.specs.declared.state.LinkState.{LinkState}
use Rattle.link.proofs.Facts.{Facts}
use Rattle.machine.specs.Codes.{is_known, is_allowed}
use Rattle.machine.specs.Judgements.{Judgement, refused as refusal}
use Rattle.machine.specs.Judging.{data_of, strayed, judge_of}
use Rattle.machine.specs.Spans.{right_of}
use Rattle.machine.specs.declared.codes.Alarm.TheVariants.{OutOfSupport, WrongPhase}
use Rattle.machine.specs.declared.words.Field.TheVariants.{Whole}
use Rattle.regions.specs.Region.{gives_of}
use Rattle.regions.specs.declared.Right.TheVariants.{WriteAsync, WriteSync}
use Rattle.sheet.specs.declared.walk.Form.{Form}
use Rattle.sheet.specs.declared.walk.Layout.{Layout}
use Rattle.law.specs.Words.{when, one_of}
use Rattle.law.specs.Sheet.{PduType, enhanced, short, Sheet, GoodLength, allows as most}
use Rattle.law.specs.State.{link}
use Rattle.law.specs.Memory.{readable, writable}
use Rattle.law.specs.Table.{Check, check, Row, head_named, is_named, stray_in}
use Rattle.law.specs.Exchange.{Fate, code, wdt, refused, checked, judged}
use Rattle.law.proofs.Goes.{in_links}
use Rattle.law.proofs.Layouts.{form_for, layout_as}
use Rattle.law.proofs.World.{World}
use Rattle.law.proofs.Rows.{J, refusing, via, step}
use Rattle.law.proofs.Zeros.{stray_same, alarmed, between}

-- a code is one of the eleven, or none
pub by_code : (P : ℕ → Type 0) → P 0x00 → P 0x01 → P 0x02 → P 0x03 → P 0x05 → P 0x06 → P 0x0D → P 0x0E → P 0x0F → P 0x1D → P 0x1E
    → ((n : ℕ) → (n ≡ 0x00 → ⊥) → (n ≡ 0x01 → ⊥) → (n ≡ 0x02 → ⊥) → (n ≡ 0x03 → ⊥) → (n ≡ 0x05 → ⊥) → (n ≡ 0x06 → ⊥) → (n ≡ 0x0D → ⊥) → (n ≡ 0x0E → ⊥) → (n ≡ 0x0F → ⊥) → (n ≡ 0x1D → ⊥) → (n ≡ 0x1E → ⊥) → P n) → (n : ℕ) → P n
by_code P p0 p1 p2 p3 p4 p5 p6 p7 p8 p9 p10 q n =
    ⊎_elim (λ (e : n ≡ 0x00). subst P (sym e) p0) (λ (z0 : n ≡ 0x00 → ⊥).
    ⊎_elim (λ (e : n ≡ 0x01). subst P (sym e) p1) (λ (z1 : n ≡ 0x01 → ⊥).
    ⊎_elim (λ (e : n ≡ 0x02). subst P (sym e) p2) (λ (z2 : n ≡ 0x02 → ⊥).
    ⊎_elim (λ (e : n ≡ 0x03). subst P (sym e) p3) (λ (z3 : n ≡ 0x03 → ⊥).
    ⊎_elim (λ (e : n ≡ 0x05). subst P (sym e) p4) (λ (z4 : n ≡ 0x05 → ⊥).
    ⊎_elim (λ (e : n ≡ 0x06). subst P (sym e) p5) (λ (z5 : n ≡ 0x06 → ⊥).
    ⊎_elim (λ (e : n ≡ 0x0D). subst P (sym e) p6) (λ (z6 : n ≡ 0x0D → ⊥).
    ⊎_elim (λ (e : n ≡ 0x0E). subst P (sym e) p7) (λ (z7 : n ≡ 0x0E → ⊥).
    ⊎_elim (λ (e : n ≡ 0x0F). subst P (sym e) p8) (λ (z8 : n ≡ 0x0F → ⊥).
    ⊎_elim (λ (e : n ≡ 0x1D). subst P (sym e) p9) (λ (z9 : n ≡ 0x1D → ⊥).
    ⊎_elim (λ (e : n ≡ 0x1E). subst P (sym e) p10) (λ (z10 : n ≡ 0x1E → ⊥).
    q n z0 z1 z2 z3 z4 z5 z6 z7 z8 z9 z10) (eq_or_ne n 0x1E)) (eq_or_ne n 0x1D)) (eq_or_ne n 0x0F)) (eq_or_ne n 0x0E)) (eq_or_ne n 0x0D)) (eq_or_ne n 0x06)) (eq_or_ne n 0x05)) (eq_or_ne n 0x03)) (eq_or_ne n 0x02)) (eq_or_ne n 0x01)) (eq_or_ne n 0x00)

-- WDT of each type
pub wdt_same : (pdu : PduType) (n : ℕ) (c : List ℕ) → (named (form_for pdu) n c).wdt ≡ wdt pdu c
wdt_same enhanced n c = ap (λ (k : ℕ). get_or c k 0) wdt_enhanced
wdt_same short n c = ap (λ (k : ℕ). get_or c k 0) wdt_short

module _ (pdu : PduType) (h : Sheet) (sheet : List ℕ) (st : LinkState) (m c : List ℕ) (facts : Facts h.l (most h) st) (on : st.link ≡ 0 → ⊥)
    (world : World h sheet m) (good : GoodLength pdu h.l) (asked : length c ≡ h.l) where
  abbrev s : List ℕ
  s = octets_of st

  abbrev form : Form
  form = form_for pdu

  abbrev lay : Layout
  lay = layout_as pdu h

  -- the rows' relation, and how it goes on, here
  abbrev pub Is : Judgement → Fate → Type 0
  Is = J pdu h sheet st m c facts on world good asked (wdt_same pdu (code c) c)

  via_here : {j k : Judgement} {f : Fate} → j ≡ k → Is k f → Is j f
  via_here = via pdu h sheet st m c facts on world good asked (wdt_same pdu (code c) c)

  module _ (rows : List Row) (k : ℕ) where
    -- the machine's octet that should be zero
    abbrev pub stray_here : ℕ
    stray_here = stray_as form lay.release k c

    -- a known code: its row, which has so many data checks before that of the octets it does not name
    pub known : (d : Judgement) (r : Row) (n : ℕ) → is_known form k ≡ true → is_allowed st.link k ≡ one_of (link s) r.links → data_of sheet lay st (named form k c) ≡ d
        → r.checks ≡ take n r.checks ++ check (eqb (stray_in h s m c pdu r.named) 0) 9 (stray_in h s m c pdu r.named) ∷ drop (suc n) r.checks
        → alarmed 9 (take n r.checks) ≡ true → alarmed 10 (drop (suc n) r.checks) ≡ true
        → ((i : ℕ) → is_named_there (names_of form k c) i ≡ is_named (head_named pdu ++ r.named) i)
        → judged s k rows ≡ checked s (check (one_of (link s) r.links) 12 0 ∷ r.checks) r
        → (one_of (link s) r.links ≡ true → Is d (checked s (take n r.checks ++ drop (suc n) r.checks) r))
        → Is (judge_of sheet lay st (named form k c) stray_here) (judged s k rows)
    unfolding judge_of checked
    known d r n e₁ e₂ e₃ split nine ten same e₄ g =
        let u = stray_in h s m c pdu r.named in
        let w = wdt_same pdu (code c) c in
        subst (λ (f : Fate). Is (judge_of sheet lay st (named form k c) stray_here) f) (sym e₄)
        (via_here (pick_no _ _ (ap not e₁))
        (step pdu h sheet st m c facts on world good asked w _ _ WrongPhase whole_at (ap not e₂) (λ a.
        via_here (ap₂ strayed (stray_same pdu h s m c k r.named same) e₃)
        (subst (λ (ks : List Check). Is (strayed u d) (checked s ks r)) (sym split)
        (between pdu h sheet st m c facts on world good asked w u (drop (suc n) r.checks) r ten (take n r.checks) d nine (g a))))))

    -- a code that the table lacks
    pub unknown : is_known form k ≡ false → judged s k rows ≡ refused s 8 0 → Is (judge_of sheet lay st (named form k c) stray_here) (judged s k rows)
    unfolding judge_of
    unknown e₁ e₂ =
        via_here (pick_yes _ _ (ap not e₁))
        (subst (λ (f : Fate). Is (refusal OutOfSupport Whole) f) (sym e₂)
        (refusing pdu h sheet st m c facts on world good asked (wdt_same pdu (code c) c) OutOfSupport Whole 0 whole_at))

module _ (st : LinkState) {l n : ℕ} (facts : Facts l n st) (on : st.link ≡ 0 → ⊥) where
  pub read_is : (x : ℕ) → readable x ≡ gives_of x (right_of false st.link)
  unfolding gives_of right_of
  read_is x = ap (λ (y : ℕ). eqb (y % 2) 1) (let e : x / 1 ≡ x = omega arith in e)

  write_at : (b : Bool) (x : ℕ) → when b (eqb (x / 4 % 2) 1) (eqb (x / 2 % 2) 1) ≡ gives_of x (pick b WriteSync WriteAsync)
  unfolding gives_of when pick
  write_at true x = refl
  write_at false x = refl

  pub write_is : (x : ℕ) → writable (link (octets_of st)) x ≡ gives_of x (right_of true st.link)
  unfolding octets_of right_of
  write_is x = write_at (eqb st.link 3) x

  -- which link allows which code
  pub allowing : (k : ℕ) (ns : List ℕ) → is_allowed 1 k ≡ one_of 1 ns → is_allowed 2 k ≡ one_of 2 ns → is_allowed 3 k ≡ one_of 3 ns
      → is_allowed st.link k ≡ one_of (link (octets_of st)) ns
  unfolding octets_of
  allowing k ns a b d = in_links (λ n. is_allowed n k ≡ one_of n ns) a b d st.link facts.link on
