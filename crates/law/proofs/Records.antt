-- The octets of a sheet are those of its records, and the end record behind them.
use mathlib.Core.Path.{◌≡◌, refl, sym, ap, ap₂, ◌∙◌}
use mathlib.Core.List.{List, [], ◌∷◌, ◌++◌, map, append_assoc, append-nil}
use Prim.Native.Nat.{ℕ}
use Rattle.law.specs.Words.{joined}
use Rattle.law.specs.Sheet.{Item as Ident, Sheet, link_kind, sheet_octets, region_octets, parameter_octets, item_octets, tolerance_octets, release_octets}
use Rattle.law.specs.Difference.{Entry, entries_of, written_of, body_of, region_entry, parameter_entry, item_entry, tolerance_entry, release_entry}

-- records of one kind, and what is behind them
behind : {A : Type 0} (f : A → List ℕ) (g : A → Entry) → ((x : A) → (g x).kind ∷ body_of (g x) ≡ f x)
    → (xs : List A) (es : List Entry) → joined f xs ++ written_of es ≡ written_of (map g xs ++ es)
unfolding written_of
behind f g one [] es = refl
behind f g one (x ∷ xs) es =
    append_assoc (f x) (joined f xs) (written_of es)
    ∙ ap₂ (λ (a b : List ℕ). a ++ b) (sym (one x)) (behind f g one xs es)

item_body : (i : Ident) → (item_entry i).kind ∷ body_of (item_entry i) ≡ item_octets i
item_body i = ap (λ (l : List ℕ). 4 ∷ i.code ∷ i.length ∷ l) (append-nil i.octets)

pub written_entries : (h : Sheet) → sheet_octets h ≡ written_of (entries_of h)
unfolding written_of entries_of
written_entries h =
    let er : List Entry = map release_entry h.releases in
    let et : List Entry = map tolerance_entry h.tolerances ++ er in
    let ei : List Entry = map item_entry h.items ++ et in
    let ep : List Entry = map parameter_entry h.parameters ++ ei in
    let link : List ℕ → List ℕ = λ t. link_kind h.pdu ∷ h.l ∷ h.version ∷ h.profile ∷ t in
    let r : joined release_octets h.releases ++ 0 ∷ [] ≡ written_of er =
    behind release_octets release_entry (λ x. refl) h.releases [] ∙ ap written_of (append-nil er) in
    let t = ap (λ (l : List ℕ). joined tolerance_octets h.tolerances ++ l) r ∙ behind tolerance_octets tolerance_entry (λ x. refl) h.tolerances er in
    let i = ap (λ (l : List ℕ). joined item_octets h.items ++ l) t ∙ behind item_octets item_entry item_body h.items et in
    let p = ap (λ (l : List ℕ). joined parameter_octets h.parameters ++ l) i ∙ behind parameter_octets parameter_entry (λ x. refl) h.parameters ei in
    let a = ap (λ (l : List ℕ). joined region_octets h.regions ++ l) p ∙ behind region_octets region_entry (λ x. refl) h.regions ep in
    ap link a
