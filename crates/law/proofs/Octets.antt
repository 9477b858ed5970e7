-- A well-formed sheet is written in octets.
use mathlib.Core.List.{List, [], ◌∷◌, ◌++◌}
use Prim.Native.Nat.{ℕ, ◌%◌, ◌/◌, ◌<◌, ◌≤◌}
use native.Mathlib.Omega.{arith}
use Rattle.law.specs.Words.{Every, joined, in_octets}
use Rattle.law.specs.Sheet.{Region, Parameter, Item, Sheet, region_octets, parameter_octets, item_octets, sheet_octets, FiveLengths, IsOctet, GoodRegion, GoodParameter, GoodItem, GoodRelease, WellFormed, tolerance_octets, release_octets}
use Rattle.law.proofs.Links.{kind_octet, good_five}
use Rattle.law.proofs.Rises.{every_append}

pub all : {A : Type 0} (f : A → List ℕ) (Good : A → Type 0) → ((x : A) → Good x → Every IsOctet (f x)) → (xs : List A) → Every Good xs → Every IsOctet (joined f xs)
all f Good one [] g = tt
all f Good one (x ∷ xs) g = every_append IsOctet (f x) (joined f xs) (one x g.0) (all f Good one xs g.1)

low : (n : ℕ) → IsOctet (n % 256)
low n = let k : n % 256 < 256 = omega arith in k

two : (n : ℕ) → Every IsOctet (in_octets 2 n)
two n = (low n, (low (n / 256), tt))

four : (n : ℕ) → Every IsOctet (in_octets 4 n)
four n = (low n, (low (n / 256), (low (n / 256 / 256), (low (n / 256 / 256 / 256), tt))))

small : (n m : ℕ) → n < m → m < 257 → IsOctet n
small n m a b = omega arith

region_octets_lem : (r : Region) → GoodRegion r → Every IsOctet (region_octets r)
region_octets_lem r g =
    let rights : r.rights < 256 = omega (arith, g.bits) in
    (small 2 3 (omega arith) (omega arith), every_append IsOctet (in_octets 4 r.start) (in_octets 4 r.length ++ r.rights ∷ []) (four r.start) (every_append IsOctet (in_octets 4 r.length) (r.rights ∷ []) (four r.length) (rights, tt)))

parameter_octets_lem : (regions : List Region) (p : Parameter) → GoodParameter regions p → Every IsOctet (parameter_octets p)
parameter_octets_lem regions p g =
    let size : p.size < 256 = omega (arith, g.most) in
    (small 3 4 (omega arith) (omega arith), every_append IsOctet (in_octets 2 p.number) (in_octets 4 p.address ++ p.size ∷ []) (two p.number) (every_append IsOctet (in_octets 4 p.address) (p.size ∷ []) (four p.address) (size, tt)))

item_octets_lem : (i : Item) → GoodItem i → Every IsOctet (item_octets i)
item_octets_lem i g =
    let length : i.length < 256 = omega (arith, g.most) in
    (small 4 5 (omega arith) (omega arith), (g.code, (length, g.octets)))

tolerance_octets_lem : (n : ℕ) → n ≤ 3 → Every IsOctet (tolerance_octets n)
tolerance_octets_lem n l = (small 6 7 (omega arith) (omega arith), (omega arith, tt))

release_octets_lem : (n : ℕ) → GoodRelease n → Every IsOctet (release_octets n)
release_octets_lem n g = (small 7 8 (omega arith) (omega arith), (omega (arith, g.1), tt))

five : (l : ℕ) → FiveLengths l → IsOctet l
five l e = grind arith

pub in_octets_lem : (h : Sheet) → WellFormed h → Every IsOctet (sheet_octets h)
in_octets_lem h w =
    let end : List ℕ = 0 ∷ [] in
    let tr : List ℕ = joined release_octets h.releases ++ end in
    let tt' : List ℕ = joined tolerance_octets h.tolerances ++ tr in
    let ti : List ℕ = joined item_octets h.items ++ tt' in
    let releases = every_append IsOctet (joined release_octets h.releases) end (all release_octets GoodRelease release_octets_lem h.releases w.releases) (small 0 1 (omega arith) (omega arith), tt) in
    let tolerances = every_append IsOctet (joined tolerance_octets h.tolerances) tr (all tolerance_octets (λ n. n ≤ 3) tolerance_octets_lem h.tolerances w.tolerances) releases in
    let items = every_append IsOctet (joined item_octets h.items) tt' (all item_octets GoodItem item_octets_lem h.items w.items) tolerances in
    let parameters = every_append IsOctet (joined parameter_octets h.parameters) ti (all parameter_octets (GoodParameter h.regions) (parameter_octets_lem h.regions) h.parameters w.parameters) items in
    let regions = every_append IsOctet (joined region_octets h.regions) (joined parameter_octets h.parameters ++ ti) (all region_octets GoodRegion region_octets_lem h.regions w.regions) parameters in
    (kind_octet h.pdu, (five h.l (good_five h.pdu h.l w.l), (w.version, (w.profile, regions))))
