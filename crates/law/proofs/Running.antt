-- The walk over the writing of records of one kind, whatever the kind.
use mathlib.Core.Path.{◌≡◌, sym, ap, ap₂, subst, ◌∙◌}
use mathlib.Core.List.{List, [], ◌∷◌, ◌++◌, append_assoc}
use Prim.Native.Nat.{ℕ, zero, suc, ◌+◌, ◌*◌, ◌≤◌, ◌<◌}
use native.Mathlib.Nat.{zero-add}
use native.Mathlib.Omega.{arith}
use lib.ListN.{length, get_or, drop, length-append, length-drop}
use lib.Seq.{drop_at, drop-drop}
use Rattle.octets.proofs.Pick.{pick_ne}
use Rattle.sheet.specs.Reading.{record_of}
use Rattle.sheet.specs.Told.{reads, Verdict}
use Rattle.sheet.specs.Walk.{onward, walk_of}
use Rattle.sheet.specs.declared.records.Counts.{Counts}
use Rattle.law.specs.Words.{Every, From, InARow, sum_of, joined}

-- from here on the walk comes to a verdict, at every bound that is enough
abbrev pub Ends : List ℕ → Verdict → List ℕ → Counts → Type 0
Ends s v rest so = (f : ℕ) → length rest < f → walk_of f s rest so ≡ v

pub walk_on : (s rest : List ℕ) (so : Counts) (v : Verdict) (n : ℕ) (next : Counts) → record_of s rest so ≡ reads n next → (get_or rest 0 0 ≡ 0 → ⊥)
    → 1 ≤ n → n ≤ length rest → Ends s v (drop n rest) next → Ends s v rest so
unfolding walk_of onward
walk_on s rest so v n next e k l u go zero h = absurd (omega arith)
walk_on s rest so v n next e k l u go (suc f) h =
    let d = length-drop n rest in
    rw e (pick_ne _ _ k ∙ go f (omega arith))

module _ (s : List ℕ) (v : Verdict) {A : Type 0} (f : A → List ℕ) (Good : A → Type 0) (low high weight : A → ℕ) (base size few much : ℕ)
    (so : ℕ → ℕ → Counts) (bound : ℕ → ℕ → ℕ) (some : 1 ≤ size)
    (long : (x : A) → Good x → length (f x) ≡ size)
    (kind : (x : A) (t : List ℕ) → get_or (f x ++ t) 0 0 ≡ 0 → ⊥)
    (read : (x : A) (t : List ℕ) (n m : ℕ) → drop (base + size * n) s ≡ f x ++ t → Good x → bound n m ≤ low x → n < few → m + weight x ≤ much
    → record_of s (f x ++ t) (so n m) ≡ reads size (so (n + 1) (m + weight x)))
    (next : (x : A) (t : List ℕ) (n m : ℕ) → drop (base + size * n) s ≡ f x ++ t → Good x → bound (n + 1) m ≡ high x) where
  abbrev pub Past : ℕ → List A → Type 0
  Past b [] = Unit {0}
  Past b (x ∷ xs) = (b ≤ low x) × From (λ (y z : A). high y ≤ low z) x xs

  past : (x : A) (b : ℕ) (xs : List A) → b ≡ high x → From (λ (y z : A). high y ≤ low z) x xs → Past b xs
  past x b [] e p = tt
  past x b (y ∷ ys) e p = (rw e p.0, p.1)

  pub run : (xs : List A) (t : List ℕ) (n m : ℕ) → drop (base + size * n) s ≡ joined f xs ++ t → Every Good xs → Past (bound n m) xs
      → n + length xs ≤ few → m + sum_of weight xs ≤ much → Ends s v t (so (n + length xs) (m + sum_of weight xs)) → Ends s v (joined f xs ++ t) (so n m)
  run [] t n m at g p u w go = subst (λ (c : Counts). Ends s v t c) (ap₂ so (let e : n + 0 ≡ n = omega arith in e) (let e : m + 0 ≡ m = omega arith in e)) go
  run (x ∷ xs) t n m at g p u w go =
      let rest = joined f xs ++ t in
      let a : f x ++ joined f xs ++ t ≡ f x ++ rest = append_assoc (f x) (joined f xs) t in
      let here : drop (base + size * n) s ≡ f x ++ rest = at ∙ a in
      let l = long x g.0 in
      let behind : drop size (f x ++ rest) ≡ rest = drop_at (f x) rest size l in
      let there : drop (base + size * (n + 1)) s ≡ rest =
      ap (λ (i : ℕ). drop i s) (let e : base + size * (n + 1) ≡ base + size * n + size = omega arith in e)
      ∙ sym (drop-drop size (base + size * n) s) ∙ ap (drop size) here ∙ behind in
      let e₁ : n + suc (length xs) ≡ n + 1 + length xs = omega arith in
      let e₂ : m + (weight x + sum_of weight xs) ≡ m + weight x + sum_of weight xs = omega arith in
      let more = run xs t (n + 1) (m + weight x) there g.1 (past x _ xs (next x rest n (m + weight x) here g.0) p.1) (omega arith) (omega arith)
      (subst (λ (c : Counts). Ends s v t c) (ap₂ so e₁ e₂) go) in
      let la = length-append (f x) rest in
      subst (λ (o : List ℕ). Ends s v o (so n m)) (sym a)
      (walk_on s (f x ++ rest) (so n m) v size (so (n + 1) (m + weight x)) (read x rest n m here g.0 p.0 (omega arith) (omega arith))
      (kind x rest) some (omega arith)
      (subst (λ (o : List ℕ). Ends s v o (so (n + 1) (m + weight x))) (sym behind) more))

  row : (xs : List A) → bound 0 0 ≡ 0 → InARow (λ (y z : A). high y ≤ low z) xs → Past (bound 0 0) xs
  row [] e p = tt
  row (x ∷ xs) e p = (omega arith, p)

  -- all of them, from the first on
  pub run_all : (xs : List A) (t : List ℕ) → drop base s ≡ joined f xs ++ t → Every Good xs → bound 0 0 ≡ 0 → InARow (λ (y z : A). high y ≤ low z) xs
      → length xs ≤ few → sum_of weight xs ≤ much → Ends s v t (so (length xs) (sum_of weight xs)) → Ends s v (joined f xs ++ t) (so 0 0)
  run_all xs t at g b p u w go =
      run xs t 0 0 (ap (λ (i : ℕ). drop i s) (let e : base + size * 0 ≡ base = omega arith in e) ∙ at) g (row xs b p) (omega arith) (omega arith)
      (subst (λ (c : Counts). Ends s v t c) (sym (ap₂ so (zero-add (length xs)) (zero-add (sum_of weight xs)))) go)

pub length_joined : {A : Type 0} (f : A → List ℕ) (Good : A → Type 0) (size : ℕ) → ((x : A) → Good x → length (f x) ≡ size) → (xs : List A) (t : List ℕ)
    → Every Good xs → length (joined f xs ++ t) ≡ size * length xs + length t
length_joined f Good size long [] t g = omega arith
length_joined f Good size long (x ∷ xs) t g =
    let a = ap length (append_assoc (f x) (joined f xs) t) ∙ length-append (f x) (joined f xs ++ t) in
    let l = long x g.0 in
    let ih = length_joined f Good size long xs t g.1 in
    a ∙ (let e : length (f x) + length (joined f xs ++ t) ≡ size * suc (length xs) + length t = omega arith in e)
