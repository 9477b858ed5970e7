-- The bench cases come of the law: what the tables give a case is what the machine's exchange leaves.
use mathlib.Core.Bool.{Bool, true, and-eq-true_iff, ◌&&◌}
use mathlib.Core.Path.{◌≡◌, refl, sym, ap, ap₂}
use mathlib.Core.List.{List, [], ◌∷◌, map}
use Prim.Native.Nat.{ℕ, ◌<◌}
use native.Mathlib.Omega.{arith}
use borrow.Author.Tests.{ltb-true}
use lib.Dec.{ltb}
use Rattle.slave.specs.Answers.{told}
use Rattle.slave.specs.Exchange.{Left, left, exchange_of}
use Rattle.type24.specs.Packed.{PackedLeft, packed, left_by_call}
use Rattle.law.specs.Words.{Every, all}
use Rattle.law.specs.Sheet.{IsOctet}
use Rattle.law.specs.Calls.{result, exchange}
use Rattle.law.specs.ByTables.{ByLaw}
use Rattle.law.proofs.ByTables.{by_tables}
use Rattle.law.proofs.Complete.{complete}
use Rattle.demands.specs.Bench.{SheetPIsValid, BenchCases, Case, cases, old, ran}
use Rattle.demands.specs.LawBench.{law_p, wanted}
use Rattle.demands.proofs.LawBench.{p_good, bench_by_law}
use Rattle.demands.proofs.Refusals.{exchange_small}

pub sheet_p_is_valid : SheetPIsValid
sheet_p_is_valid = complete law_p p_good

-- an answer whose number fits 32 bits is told from its packing
unpacked : (x y : Left) → x.answer.number < 4294967296 → y.answer.number < 4294967296 → left_by_call x ≡ left_by_call y → x ≡ y
unpacked x y p q e =
    let w : packed x.answer ≡ packed y.answer = ap (λ (l : PackedLeft). l.answer) e in
    let n : x.answer.number ≡ y.answer.number = omega arith in
    let k : x.answer.place ≡ y.answer.place = omega arith in
    λ i. left (told (n i) (k i)) (e i).state (e i).memory (e i).reply

-- what the law says of an exchange is what it leaves
by_law : (sheet s m c r : List ℕ) (l : Left) → Every IsOctet sheet → l.answer.number < 4294967296
    → ByLaw sheet (λ h x. x ≡ exchange h s m c r) (λ f place. result f place s m r) (wanted l) → exchange_of sheet s m c r ≡ l
by_law sheet s m c r l o small law =
    let promise = (by_tables.exchanges sheet s m c r (packed l.answer) l.state l.memory l.reply o).1 law in
    unpacked (exchange_of sheet s m c r) l (exchange_small sheet s m c r) small (sym promise)

-- what the law asks of a case besides, as a test: its sheet is octets, and the wanted number fits 32 bits
abbrev pub octets : List ℕ → Bool
octets s = all (map (λ x. ltb x 256) s)

abbrev pub fits : Case → Bool
fits k = octets k.sheet && ltb k.want.answer.number 4294967296

all_octets : (s : List ℕ) → octets s ≡ true → Every IsOctet s
all_octets [] e = tt
all_octets (x ∷ s) e =
    let p = (and-eq-true_iff (ltb x 256) (octets s)).0 e in
    (ltb-true x 256 p.0, all_octets s p.1)

abbrev pub Law : Case → Type 0
Law k =
    ByLaw k.sheet (λ h x. x ≡ exchange h k.state k.memory k.command old) (λ f place. result f place k.state k.memory old) (wanted k.want)

pub each : (ks : List Case) → all (map fits ks) ≡ true → Every Law ks → map ran ks ≡ map (λ (k : Case). k.want) ks
each [] e l = refl
each (k ∷ ks) e l =
    let p = (and-eq-true_iff (fits k) (all (map fits ks))).0 e in
    let q = (and-eq-true_iff (octets k.sheet) (ltb k.want.answer.number 4294967296)).0 p.0 in
    ap₂ ◌∷◌
    (by_law k.sheet k.state k.memory k.command old k.want (all_octets k.sheet q.0) (ltb-true _ 4294967296 q.1) l.0)
    (each ks p.1 l.1)

pub bench_cases : BenchCases
bench_cases = each cases refl bench_by_law
