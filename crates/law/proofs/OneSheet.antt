-- A list of octets is the writing of one well-formed sheet at the most.
use mathlib.Core.Path.{◌≡◌, refl, sym, ap, ap₂, ◌∙◌}
use mathlib.Core.List.{List, [], ◌∷◌, ◌++◌, append_assoc}
use Prim.Native.Nat.{ℕ, ◌<◌, ◌≤◌}
use native.Mathlib.Omega.{arith}
use lib.ListN.{get_or, take, drop}
use lib.Seq.{take_at, drop_at}
use Rattle.octets.specs.Numbers.{le2_at, le4_at}
use Rattle.law.specs.Words.{Every, joined}
use Rattle.law.specs.Sheet.{Region as Area, Parameter as Param, Item as Ident, Sheet, GoodRegion, GoodParameter, GoodItem, GoodRelease, WellFormed, region_octets, parameter_octets, item_octets, tolerance_octets, release_octets, sheet_octets}
use Rattle.law.proofs.Links.{pdu_of, kind_pdu}
use Rattle.law.proofs.Written.{le2_back, le4_back}

-- one record, and what is behind it
area_once : (a b : Area) (t u : List ℕ) → GoodRegion a → GoodRegion b → region_octets a ++ t ≡ region_octets b ++ u → (a ≡ b) × (t ≡ u)
area_once a b t u g h e =
    let s : a.start ≡ b.start = sym (le4_back a.start g.start) ∙ ap (λ (l : List ℕ). le4_at l 1) e ∙ le4_back b.start h.start in
    let z : a.length ≡ b.length = sym (le4_back a.length g.length) ∙ ap (λ (l : List ℕ). le4_at l 5) e ∙ le4_back b.length h.length in
    let r : a.rights ≡ b.rights = ap (λ (l : List ℕ). get_or l 9 0) e in
    (λ i. record { start = s i; length = z i; rights = r i }, ap (drop 10) e)

param_once : (rs qs : List Area) (a b : Param) (t u : List ℕ) → GoodParameter rs a → GoodParameter qs b → parameter_octets a ++ t ≡ parameter_octets b ++ u
    → (a ≡ b) × (t ≡ u)
param_once rs qs a b t u g h e =
    let n : a.number ≡ b.number = sym (le2_back a.number g.number) ∙ ap (λ (l : List ℕ). le2_at l 1) e ∙ le2_back b.number h.number in
    let s : a.address ≡ b.address = sym (le4_back a.address g.address) ∙ ap (λ (l : List ℕ). le4_at l 3) e ∙ le4_back b.address h.address in
    let z : a.size ≡ b.size = ap (λ (l : List ℕ). get_or l 7 0) e in
    (λ i. record { number = n i; address = s i; size = z i }, ap (drop 8) e)

ident_once : (a b : Ident) (t u : List ℕ) → GoodItem a → GoodItem b → item_octets a ++ t ≡ item_octets b ++ u → (a ≡ b) × (t ≡ u)
ident_once a b t u g h e =
    let c : a.code ≡ b.code = ap (λ (l : List ℕ). get_or l 1 0) e in
    let z : a.length ≡ b.length = ap (λ (l : List ℕ). get_or l 2 0) e in
    let r : a.octets ++ t ≡ b.octets ++ u = ap (drop 3) e in
    let o : a.octets ≡ b.octets = sym (take_at a.octets t 32 g.all32) ∙ ap (take 32) r ∙ take_at b.octets u 32 h.all32 in
    (λ i. record { code = c i; length = z i; octets = o i }, sym (drop_at a.octets t 32 g.all32) ∙ ap (drop 32) r ∙ drop_at b.octets u 32 h.all32)

tolerance_once : (a b : ℕ) (t u : List ℕ) → a ≤ 3 → b ≤ 3 → tolerance_octets a ++ t ≡ tolerance_octets b ++ u → (a ≡ b) × (t ≡ u)
tolerance_once a b t u g h e = (ap (λ (l : List ℕ). get_or l 1 0) e, ap (drop 2) e)

release_once : (a b : ℕ) (t u : List ℕ) → GoodRelease a → GoodRelease b → release_octets a ++ t ≡ release_octets b ++ u → (a ≡ b) × (t ≡ u)
release_once a b t u g h e = (ap (λ (l : List ℕ). get_or l 1 0) e, ap (drop 2) e)

-- the octet that a list begins with
abbrev first : List ℕ → ℕ
first l = get_or l 0 0

-- records of one kind, whatever the kind
module _ {A : Type 0} (f : A → List ℕ) (kind : ℕ) (begins : (x : A) (t : List ℕ) → first (f x ++ t) ≡ kind) where
  -- what does not begin with a kind does not with records of another before it
  not_first : (xs : List A) (t : List ℕ) (k : ℕ) → (kind ≡ k → ⊥) → (first t ≡ k → ⊥) → first (joined f xs ++ t) ≡ k → ⊥
  not_first [] t k m n e = n e
  not_first (x ∷ xs) t k m n e = m (sym (ap first (append_assoc (f x) (joined f xs) t) ∙ begins x (joined f xs ++ t)) ∙ e)

  module _ (P Q : A → Type 0) (once : (a b : A) (t u : List ℕ) → P a → Q b → f a ++ t ≡ f b ++ u → (a ≡ b) × (t ≡ u)) where
    all_once : (xs ys : List A) (t u : List ℕ) → Every P xs → Every Q ys → (first t ≡ kind → ⊥) → (first u ≡ kind → ⊥)
        → joined f xs ++ t ≡ joined f ys ++ u → (xs ≡ ys) × (t ≡ u)
    all_once [] [] t u p q m n e = (refl, e)
    all_once [] (b ∷ ys) t u p q m n e =
        absurd (m (ap first (e ∙ append_assoc (f b) (joined f ys) u) ∙ begins b (joined f ys ++ u)))
    all_once (a ∷ xs) [] t u p q m n e =
        absurd (n (ap first (sym e ∙ append_assoc (f a) (joined f xs) t) ∙ begins a (joined f xs ++ t)))
    all_once (a ∷ xs) (b ∷ ys) t u p q m n e =
        let h = once a b (joined f xs ++ t) (joined f ys ++ u) p.0 q.0
        (sym (append_assoc (f a) (joined f xs) t) ∙ e ∙ append_assoc (f b) (joined f ys) u) in
        let r = all_once xs ys t u p.1 q.1 m n h.1 in
        (ap₂ ◌∷◌ h.0 r.0, r.1)

differs : (a b : ℕ) → (a < b) → a ≡ b → ⊥
differs a b l e = omega arith

exceeds : (a b : ℕ) → (b < a) → a ≡ b → ⊥
exceeds a b l e = omega arith

pub one_sheet : (a b : Sheet) → WellFormed a → WellFormed b → sheet_octets a ≡ sheet_octets b → a ≡ b
one_sheet a b v w e =
    let end : List ℕ = 0 ∷ [] in
    let tr : Sheet → List ℕ = λ x. joined release_octets x.releases ++ end in
    let tt : Sheet → List ℕ = λ x. joined tolerance_octets x.tolerances ++ tr x in
    let ti : Sheet → List ℕ = λ x. joined item_octets x.items ++ tt x in
    let tp : Sheet → List ℕ = λ x. joined parameter_octets x.parameters ++ ti x in
    let r7 : (x : Sheet) (k : ℕ) → 0 < k → k < 7 → first (tr x) ≡ k → ⊥ =
    λ x k l u. not_first release_octets 7 (λ y t. refl) x.releases end k (exceeds 7 k u) (differs 0 k l) in
    let r6 : (x : Sheet) → first (tr x) ≡ 6 → ⊥ = λ x. r7 x 6 (omega arith) (omega arith) in
    let t6 : (x : Sheet) (k : ℕ) → 0 < k → k < 6 → first (tt x) ≡ k → ⊥ =
    λ x k l u. not_first tolerance_octets 6 (λ y t. refl) x.tolerances (tr x) k (exceeds 6 k u) (r7 x k l (omega arith)) in
    let t4 : (x : Sheet) → first (tt x) ≡ 4 → ⊥ = λ x. t6 x 4 (omega arith) (omega arith) in
    let i4 : (x : Sheet) (k : ℕ) → 0 < k → k < 6 → (4 ≡ k → ⊥) → first (ti x) ≡ k → ⊥ =
    λ x k l u n. not_first item_octets 4 (λ y t. refl) x.items (tt x) k n (t6 x k l u) in
    let p2 : (x : Sheet) → first (tp x) ≡ 2 → ⊥ =
    λ x. not_first parameter_octets 3 (λ y t. refl) x.parameters (ti x) 2 (exceeds 3 2 (omega arith)) (i4 x 2 (omega arith) (omega arith) (exceeds 4 2 (omega arith))) in
    let p3 : (x : Sheet) → first (ti x) ≡ 3 → ⊥ = λ x. i4 x 3 (omega arith) (omega arith) (exceeds 4 3 (omega arith)) in
    let r = all_once region_octets 2 (λ y t. refl) GoodRegion GoodRegion area_once a.regions b.regions (tp a) (tp b) v.regions w.regions (p2 a) (p2 b) (ap (drop 4) e) in
    let p = all_once parameter_octets 3 (λ y t. refl) (GoodParameter a.regions) (GoodParameter b.regions) (param_once a.regions b.regions)
    a.parameters b.parameters (ti a) (ti b) v.parameters w.parameters (p3 a) (p3 b) r.1 in
    let k = all_once item_octets 4 (λ y t. refl) GoodItem GoodItem ident_once a.items b.items (tt a) (tt b) v.items w.items (t4 a) (t4 b) p.1 in
    let q = all_once tolerance_octets 6 (λ y t. refl) (λ n. n ≤ 3) (λ n. n ≤ 3) tolerance_once a.tolerances b.tolerances (tr a) (tr b) v.tolerances w.tolerances
    (r6 a) (r6 b) k.1 in
    let f = all_once release_octets 7 (λ y t. refl) GoodRelease GoodRelease release_once a.releases b.releases end end v.releases w.releases
    (differs 0 7 (omega arith)) (differs 0 7 (omega arith)) q.1 in
    let l : a.l ≡ b.l = ap (λ (o : List ℕ). get_or o 1 0) e in
    let m : a.version ≡ b.version = ap (λ (o : List ℕ). get_or o 2 0) e in
    let n : a.profile ≡ b.profile = ap (λ (o : List ℕ). get_or o 3 0) e in
    let d : a.pdu ≡ b.pdu = sym (kind_pdu a.pdu) ∙ ap (λ (o : List ℕ). pdu_of (get_or o 0 0)) e ∙ kind_pdu b.pdu in
    λ i. record { pdu = d i; l = l i; version = m i; profile = n i; regions = r.0 i; parameters = p.0 i; items = k.0 i; tolerances = q.0 i; releases = f.0 i }
