-- The pass over two rising lists of records lists their differences.
use mathlib.Core.Logic.{inl, inr, ⊎_elim}
use mathlib.Core.Path.{◌≡◌, sym, ap, subst, ◌∙◌}
use mathlib.Core.List.{List, [], ◌∷◌, ◌++◌}
use Prim.Native.Nat.{ℕ, ◌+◌, ◌*◌, ◌<◌, ◌≤◌}
use native.Mathlib.Nat.{le_refl}
use native.Mathlib.Omega.{arith}
use borrow.Author.Tests.{eqb-true, eqb-false}
use lib.Dec.{eqb}
use Rattle.law.specs.Words.{when, Every, InARow}
use Rattle.law.specs.Difference.{Entry, Change, gone, new, changed, rank, rank_of, bits_of, Has, Differs, turn_of, Lists}
use Rattle.law.proofs.Merge.{Rising, Shaped, both, merge}
use Rattle.law.proofs.OneList.{Up}
use Rattle.law.proofs.Ranks.{when_cases, same_key, Below, below_has, bits_self, same_entry}
use Rattle.law.proofs.MergeSteps.{by_merge}
use Rattle.law.proofs.Members.{gone_here, gone_more, gone_less, new_here, new_more, new_less, both_here, both_more, both_less}

-- all changes of a list come behind a turn
abbrev pub After : ℕ → List Change → Type 0
After n l = Every (λ (c : Change). n < turn_of c) l

after_more : (n m : ℕ) (l : List Change) → n ≤ m → After m l → After n l
after_more n m [] h a = tt
after_more n m (c ∷ l) h a = let q = a.0 in (omega arith, after_more n m l h a.1)

row_on : (c : Change) (l : List Change) → After (turn_of c) l → InARow (Up turn_of) l → InARow (Up turn_of) (c ∷ l)
row_on c [] a r = tt
row_on c (d ∷ l) a r = (a.0, r)

gone_lists : (x : Entry) (xs ys : List Entry) (l : List Change) → (Has x.kind x.key ys → ⊥) → After (2 * rank_of x) l → Lists xs ys l
    → Lists (x ∷ xs) ys (gone x.kind x.key ∷ l)
unfolding turn_of
gone_lists x xs ys l other a g = record {
  only = λ c i. ⊎_elim (λ e. subst (Differs (x ∷ xs) ys) (sym e) (gone_here x xs ys other)) (λ j. gone_more x xs ys other c (g.only c j)) i;
  each = λ c d. ⊎_elim (λ e. inl e) (λ d. inr (g.each c d)) (gone_less x xs ys other c d);
  in_order = row_on (gone x.kind x.key) l a g.in_order;
}

new_lists : (y : Entry) (xs ys : List Entry) (l : List Change) → (Has y.kind y.key xs → ⊥) → After (2 * rank_of y + 1) l → Lists xs ys l
    → Lists xs (y ∷ ys) (new y ∷ l)
unfolding turn_of
new_lists y xs ys l other a g = record {
  only = λ c i. ⊎_elim (λ e. subst (Differs xs (y ∷ ys)) (sym e) (new_here y xs ys other)) (λ j. new_more y xs ys other c (g.only c j)) i;
  each = λ c d. ⊎_elim (λ e. inl e) (λ d. inr (g.each c d)) (new_less y xs ys other c d);
  in_order = row_on (new y) l a g.in_order;
}

-- two records of one kind and key, and what comes behind them
module _ (x y : Entry) (xs ys : List Entry) (l : List Change) (kind : x.kind ≡ y.kind) (key : x.key ≡ y.key)
    (first : Has x.kind x.key xs → ⊥) (second : Has x.kind x.key ys → ⊥) (g : Lists xs ys l) where
  same_lists : x ≡ y → Lists (x ∷ xs) (y ∷ ys) l
  same_lists e = record {
    only = λ c i. both_more x y xs ys kind key first second c (g.only c i);
    each = λ c d. ⊎_elim (λ p. absurd (p.0 e)) (λ d. g.each c d) (both_less x y xs ys kind key first second c d);
    in_order = g.in_order;
  }

  changed_lists : (x ≡ y → ⊥) → After (2 * rank_of y) l → Lists (x ∷ xs) (y ∷ ys) (changed (bits_of x y) y ∷ l)
  unfolding turn_of
  changed_lists n a = record {
    only = λ c i.
        ⊎_elim (λ e. subst (Differs (x ∷ xs) (y ∷ ys)) (sym e) (both_here x y xs ys kind key first second n))
        (λ j. both_more x y xs ys kind key first second c (g.only c j)) i;
    each = λ c d. ⊎_elim (λ p. inl p.1) (λ d. inr (g.each c d)) (both_less x y xs ys kind key first second c d);
    in_order = row_on (changed (bits_of x y) y) l a g.in_order;
  }

-- the differences of two lists, and that they come behind whatever the records do
pub record Good (xs ys : List Entry) (l : List Change) : Type 0 where
  pub lists : Lists xs ys l
  pub after : (n : ℕ) → Below n xs → Below n ys → After (2 * n + 1) l

pub none : Good [] [] []
unfolding Differs
none = record {
  lists = record {
    only = λ c i. absurd i;
    each = no_more;
    in_order = tt;
  };
  after = λ n p q. tt;
}
  where
    no_more : (c : Change) → Differs [] [] c → ⊥
    no_more (gone k e) d = d.0
    no_more (new y) d = d.0
    no_more (changed b y) d = d.0

pub gone_on : (x : Entry) (xs ys : List Entry) (l : List Change) → Below (rank_of x) xs → Below (rank_of x) ys → Good xs ys l
    → Good (x ∷ xs) ys (gone x.kind x.key ∷ l)
unfolding turn_of
gone_on x xs ys l a b g = record {
  lists = gone_lists x xs ys l (below_has (rank_of x) x.kind x.key ys (le_refl (rank_of x)) b)
      (after_more (2 * rank_of x) (2 * rank_of x + 1) l (omega arith) (g.after (rank_of x) a b)) g.lists;
  after = λ n p q. let h = p.0 in (omega arith, g.after n p.1 q);
}

pub new_on : (y : Entry) (xs ys : List Entry) (l : List Change) → Below (rank_of y) xs → Below (rank_of y) ys → Good xs ys l → Good xs (y ∷ ys) (new y ∷ l)
unfolding turn_of
new_on y xs ys l a b g = record {
  lists = new_lists y xs ys l (below_has (rank_of y) y.kind y.key xs (le_refl (rank_of y)) a) (g.after (rank_of y) a b) g.lists;
  after = λ n p q. let h = q.0 in (omega arith, g.after n p q.1);
}

module _ (x y : Entry) (xs ys : List Entry) (l : List Change) (e : rank_of x ≡ rank_of y) (s : Shaped x) (t : Shaped y)
    (a : Below (rank_of x) xs) (b : Below (rank_of x) ys) (g : Good xs ys l) where
  first : Has x.kind x.key xs → ⊥
  first = below_has (rank_of x) x.kind x.key xs (le_refl (rank_of x)) a

  second : Has x.kind x.key ys → ⊥
  second = below_has (rank_of x) x.kind x.key ys (le_refl (rank_of x)) b

  two_kinds : (x.kind ≡ y.kind → ⊥) → Good (x ∷ xs) (y ∷ ys) (gone x.kind x.key ∷ new y ∷ l)
  unfolding turn_of
  two_kinds n =
      let o = g.after (rank_of x) a b in
      record {
        lists = gone_lists x xs (y ∷ ys) (new y ∷ l) (λ h. ⊎_elim (λ p. n p.0) second h)
            (omega arith, after_more (2 * rank_of x) (2 * rank_of x + 1) l (omega arith) o)
            (new_lists y xs ys l (below_has (rank_of x) y.kind y.key xs (omega arith) a)
            (after_more (2 * rank_of y + 1) (2 * rank_of x + 1) l (omega arith) o) g.lists);
        after = λ m p q. let h = p.0 in (omega arith, (omega arith, g.after m p.1 q.1));
      }

  one_kind : x.kind ≡ y.kind → Good (x ∷ xs) (y ∷ ys) (when (eqb (bits_of x y) 0) [] (changed (bits_of x y) y ∷ []) ++ l)
  unfolding turn_of
  one_kind k =
      let key = same_key x.kind x.key y.key (e ∙ ap (λ (n : ℕ). rank n y.key) (sym k)) in
      when_cases (λ (m : List Change). Good (x ∷ xs) (y ∷ ys) (m ++ l)) (eqb (bits_of x y) 0)
      (λ z. record {
        lists = same_lists x y xs ys l k key first second g.lists (same_entry x y s t k key (eqb-true (bits_of x y) 0 z));
        after = λ m p q. g.after m p.1 q.1;
      })
      (λ z. record {
        lists = changed_lists x y xs ys l k key first second g.lists
            (λ same. eqb-false (bits_of x y) 0 z (ap (λ (u : Entry). bits_of u y) same ∙ bits_self 1 y.fields))
            (after_more (2 * rank_of y) (2 * rank_of x + 1) l (omega arith) (g.after (rank_of x) a b));
        after = λ m p q. let h = q.0 in (omega arith, g.after m p.1 q.1);
      })

  pub both_on : Good (x ∷ xs) (y ∷ ys) (both x y ++ l)
  unfolding both
  both_on =
      when_cases (λ (m : List Change). Good (x ∷ xs) (y ∷ ys) (m ++ l)) (eqb x.kind y.kind)
      (λ z. one_kind (eqb-true x.kind y.kind z))
      (λ z. two_kinds (eqb-false x.kind y.kind z))

pub merges : (xs ys : List Entry) → Rising xs → Rising ys → Every Shaped xs → Every Shaped ys → Lists xs ys (merge xs ys)
merges xs ys p q s t = (by_merge Good none gone_on new_on both_on xs ys p q s t).lists
