-- The number of a kind is a known one.
use Rattle.std.proofs.Common.{◌≡◌, ℕ, true, not, refl, ap, subst}
use Rattle.octets.specs.Pick.{pick}
use Rattle.octets.proofs.Pick.{pick_no}
use Rattle.sheet.specs.Kinds.{is_kind, kind_number}
use Rattle.sheet.specs.declared.kinds.Kind.{Kind}
use Rattle.sheet.specs.declared.kinds.Kind.TheVariants.{End, Link, Region, Parameter, Item, ShortLink, Tolerance, Release}

known : (kind : Kind) → is_kind (kind_number kind) ≡ true
unfolding is_kind
known End = refl
known Link = refl
known Region = refl
known Parameter = refl
known Item = refl
known ShortLink = refl
known Tolerance = refl
known Release = refl

-- so the check for unknown kinds is passed
pub known_passes : {A : Type 0} (kind : Kind) (n : ℕ) (x y : A) → kind_number kind ≡ n → pick (not (is_kind n)) x y ≡ y
known_passes kind n x y e = pick_no x y (ap not (subst (λ (m : ℕ). is_kind m ≡ true) e (known kind)))
