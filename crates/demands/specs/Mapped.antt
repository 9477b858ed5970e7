-- Document 02, request 8: "PRM_RD and PRM_WR ask whether the span is mapped; fault 17 ensures it. Show that no valid sheet reaches that alarm 9".
use Rattle.std.specs.Prelude.{ℕ, true, List, [], ◌∷◌, ◌++◌, map, ◌≡◌, eqb, leb}
use Rattle.law.specs.Words.{one_of, octet}
use Rattle.law.specs.Sheet.{Parameter, Sheet, WellFormed}
use Rattle.law.specs.Memory.{cells, mapped, has_all}
use Rattle.law.specs.Table.{Check, check, Row, parameter_of, number, parameter, parameter_checks}
use Rattle.law.specs.Exchange.{checked}

-- a parameter of this number is in the sheet
abbrev pub InSheet : Sheet → ℕ → Type 0
InSheet h n = one_of n (map (λ (p : Parameter). p.number) h.parameters) ≡ true

-- of a valid sheet, every parameter that is found has its whole span in regions
abbrev pub ParametersAreMapped : Type 0
ParametersAreMapped =
    (h : Sheet) → WellFormed h → (n : ℕ) → InSheet h n
    → has_all mapped (cells h.regions) (parameter_of h.parameters n).address (parameter_of h.parameters n).size ≡ true

-- the data checks of PRM_RD and PRM_WR with "span mapped" behind them, as document 01 has them: number, size, size at most so many, span mapped
abbrev pub with_mapped : Sheet → List ℕ → List ℕ → List ℕ → ℕ → List Check
with_mapped h state memory command most =
    check (one_of (number h state memory command) (map (λ (p : Parameter). p.number) h.parameters)) 9 4
    ∷ check (eqb (octet command 6) (parameter h state memory command).size) 9 6
    ∷ check (leb (octet command 6) most) 9 6
    ∷ check (has_all mapped (cells h.regions) (parameter h state memory command).address (parameter h state memory command).size) 9 4
    ∷ []

-- of a valid sheet, a row judged with that check is judged the same without it: for every state, memory, command and most, whatever checks come behind it,
-- and whatever the row does
abbrev pub MappedIsNotAsked : Type 0
MappedIsNotAsked =
    (h : Sheet) → WellFormed h → (state memory command : List ℕ) (most : ℕ) (behind : List Check) (row : Row)
    → checked state (with_mapped h state memory command most ++ behind) row ≡ checked state (parameter_checks h state memory command most ++ behind) row
