-- The octets of a list of differences can be read in one way: two lists with the same octets are one list.
use mathlib.Core.Logic.{inl, inr, ⊎_elim}
use mathlib.Core.Path.{◌≡◌, refl, sym, ap, ap₂, subst, subst₂, ◌∙◌}
use mathlib.Core.List.{List, [], ◌∷◌, ◌++◌, map, append_assoc}
use Prim.Native.Nat.{ℕ, zero, suc, ◌/◌, ◌%◌, ◌<◌, ◌^◌}
use native.Mathlib.Nat.{pow-suc}
use native.Mathlib.Omega.{arith}
use lib.ListN.{length, get_or, take, drop}
use lib.Seq.{take_at, drop_at}
use Rattle.law.specs.Words.{Every, joined, in_octets}
use Rattle.law.specs.Sheet.{Sheet, WellFormed}
use Rattle.law.specs.Difference.{Entry, entries_of, Change, gone, new, changed, In, Has, Differs, Lists, key_length, body_of, change_octets, list_octets}
use Rattle.law.proofs.OneList.{every_in}
use Rattle.law.proofs.GoodEntries.{sizes_of, GoodKey, GoodEntry, entries_good}

-- a number from its octets
fewer : (k n : ℕ) → n < 256 ^ suc k → n / 256 < 256 ^ k
fewer k n h = let e = pow-suc 256 k in omega arith

number_once : (k n m : ℕ) → n < 256 ^ k → m < 256 ^ k → in_octets k n ≡ in_octets k m → n ≡ m
number_once zero n m a b e = omega arith
number_once (suc k) n m a b e =
    let low : n % 256 ≡ m % 256 = cc in
    let high = number_once k (n / 256) (m / 256) (fewer k n a) (fewer k m b) cc in
    omega arith

-- octets of one length, and what is behind them
cut_once : (a b s t : List ℕ) → length a ≡ length b → a ++ s ≡ b ++ t → (a ≡ b) × (s ≡ t)
cut_once a b s t l e =
    let n = length b in
    (sym (take_at a s n l) ∙ ap (take n) e ∙ take_at b t n refl, sym (drop_at a s n l) ∙ ap (drop n) e ∙ drop_at b t n refl)

fields_once : (xs ys : List (List ℕ)) (s t : List ℕ) → map length xs ≡ map length ys → joined (λ f. f) xs ++ s ≡ joined (λ f. f) ys ++ t
    → (xs ≡ ys) × (s ≡ t)
fields_once [] [] s t l e = (refl, e)
fields_once [] (y ∷ ys) s t l e = cc
fields_once (x ∷ xs) [] s t l e = cc
fields_once (x ∷ xs) (y ∷ ys) s t l e =
    let h = cut_once x y (joined (λ f. f) xs ++ s) (joined (λ f. f) ys ++ t) (cc)
    (sym (append_assoc x (joined (λ f. f) xs) s) ∙ e ∙ append_assoc y (joined (λ f. f) ys) t) in
    let r = fields_once xs ys s t (cc) h.1 in
    (ap₂ ◌∷◌ h.0 r.0, r.1)

octets_of_lem : (k n : ℕ) → length (in_octets k n) ≡ k
octets_of_lem zero n = refl
octets_of_lem (suc k) n = ap suc (octets_of_lem k (n / 256))

-- a key, its kind being known
key_once : (k l n m : ℕ) → k ≡ l → GoodKey k n → GoodKey l m → in_octets (key_length k) n ≡ in_octets (key_length l) m → n ≡ m
key_once k l n m e g h o =
    number_once (key_length k) n m g.fits (subst (λ (i : ℕ). m < 256 ^ key_length i) (sym e) h.fits)
    (o ∙ ap (λ (i : ℕ). in_octets (key_length i) m) (sym e))

-- a record, its kind being known
record_once : (x y : Entry) (s t : List ℕ) → GoodEntry x → GoodEntry y → x.kind ≡ y.kind → body_of x ++ s ≡ body_of y ++ t → (x ≡ y) × (s ≡ t)
record_once x y s t g h k e =
    let f = fields_once x.fields y.fields s t (g.sizes ∙ ap sizes_of k ∙ sym h.sizes) e in
    let o = sym g.begins ∙ ap₂ (λ (n : ℕ) (b : List (List ℕ)). take (key_length n) (joined (λ f. f) b)) k f.0 ∙ h.begins in
    let key = key_once x.kind y.kind x.key y.key k g.known h.known o in
    (λ i. record { kind = k i; key = key i; fields = f.0 i }, f.1)

-- a change whose kind and key, or whose record, are good
unfoldable pub GoodChange : Change → Type 0
GoodChange (gone kind key) = GoodKey kind key
GoodChange (new y) = GoodEntry y
GoodChange (changed bits y) = GoodEntry y

abbrev first : List ℕ → ℕ
first l = get_or l 0 0

-- the first octet tells which of the three a change is, and its kind
change_once : (c d : Change) (s t : List ℕ) → GoodChange c → GoodChange d → change_octets c ++ s ≡ change_octets d ++ t → (c ≡ d) × (s ≡ t)
unfolding GoodChange change_octets
change_once (gone k n) (gone l m) s t g h e =
    let o = ap first e in
    let kind : k ≡ l = omega arith in
    let long = octets_of_lem (key_length k) n ∙ ap key_length kind ∙ sym (octets_of_lem (key_length l) m) in
    let r = cut_once (in_octets (key_length k) n) (in_octets (key_length l) m) s t long (ap (drop 1) e) in
    (ap₂ gone kind (key_once k l n m kind g h r.0), r.1)
change_once (gone k n) (new y) s t g h e = let o = ap first e in absurd (omega (arith, g.most, h.known.least))
change_once (gone k n) (changed b y) s t g h e = let o = ap first e in absurd (omega (arith, g.most, h.known.least))
change_once (new x) (gone l m) s t g h e = let o = ap first e in absurd (omega (arith, h.most, g.known.least))
change_once (new x) (new y) s t g h e =
    let o = ap first e in
    let r = record_once x y s t g h (omega arith) (ap (drop 1) e) in
    (ap new r.0, r.1)
change_once (new x) (changed b y) s t g h e = let o = ap first e in absurd (omega (arith, g.known.most, h.known.least))
change_once (changed b x) (gone l m) s t g h e = let o = ap first e in absurd (omega (arith, h.most, g.known.least))
change_once (changed b x) (new y) s t g h e = let o = ap first e in absurd (omega (arith, h.known.most, g.known.least))
change_once (changed b x) (changed c y) s t g h e =
    let o = ap first e in
    let r = record_once x y s t g h (omega arith) (ap (drop 2) e) in
    (ap₂ changed (ap (λ (l : List ℕ). get_or l 1 0) e) r.0, r.1)

-- a change has an octet at the least
not_empty : (c : Change) (s : List ℕ) → change_octets c ++ s ≡ [] → ⊥
unfolding change_octets
not_empty (gone k n) s e = let o = ap first e in omega arith
not_empty (new y) s e = let o = ap first e in omega arith
not_empty (changed b y) s e = let o = ap first e in omega arith

changes_once : (l m : List Change) → Every GoodChange l → Every GoodChange m → list_octets l ≡ list_octets m → l ≡ m
changes_once [] [] g h e = refl
changes_once [] (d ∷ m) g h e = absurd (not_empty d (list_octets m) (sym e))
changes_once (c ∷ l) [] g h e = absurd (not_empty c (list_octets l) e)
changes_once (c ∷ l) (d ∷ m) g h e =
    let r = change_once c d (list_octets l) (list_octets m) g.0 h.0 e in
    ap₂ ◌∷◌ r.0 (changes_once l m g.1 h.1 r.1)

-- what is listed of two lists of good records is good
known_in : (kind key : ℕ) (es : List Entry) → Every GoodEntry es → Has kind key es → GoodKey kind key
known_in kind key [] g i = absurd i
known_in kind key (e ∷ es) g i =
    ⊎_elim (λ p. subst₂ GoodKey (sym p.0) (sym p.1) g.0.known) (λ j. known_in kind key es g.1 j) i

differs_good : (a b : List Entry) → Every GoodEntry a → Every GoodEntry b → (c : Change) → Differs a b c → GoodChange c
unfolding GoodChange Differs
differs_good a b p q (gone kind key) d = known_in kind key a p d.0
differs_good a b p q (new y) d = every_in GoodEntry y b q d.0
differs_good a b p q (changed bits y) d = every_in GoodEntry y b q d.0

pub every_of : {A : Type 0} (P : A → Type 0) (l : List A) → ((x : A) → In x l → P x) → Every P l
every_of P [] all = tt
every_of P (x ∷ l) all = (all x (inl refl), every_of P l (λ y i. all y (inr i)))

pub listed_good : (a b : Sheet) → WellFormed a → WellFormed b → (l : List Change) → Lists (entries_of a) (entries_of b) l → Every GoodChange l
listed_good a b v w l p =
    every_of GoodChange l (λ c i. differs_good (entries_of a) (entries_of b) (entries_good a v) (entries_good b w) c (p.only c i))

pub read_one_way : (a b c d : Sheet) → WellFormed a → WellFormed b → WellFormed c → WellFormed d → (l m : List Change)
    → Lists (entries_of a) (entries_of b) l → Lists (entries_of c) (entries_of d) m → list_octets l ≡ list_octets m → l ≡ m
read_one_way a b c d va vb vc vd l m p q e = changes_once l m (listed_good a b va vb l p) (listed_good c d vc vd m q) e
