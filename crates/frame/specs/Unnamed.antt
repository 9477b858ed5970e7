-- The octets that a command names, and the first of the others that is not zero. Request 13: "From release 2 of our drive rules, a command octet that document
-- 01 doesn't name must be zero. Octets 2 and 3 and octets behind written data count too, but for the two identity bits; in the short type, all octets but the
-- code, the command's named fields and WDT."
use Rattle.std.specs.Prelude.{ℕ, suc, ◌+◌, ◌-◌, ◌*◌, ◌%◌, Bool, false, ◌&&◌, ◌||◌, List, [], ◌∷◌, eqb, leb, ltb, get_or}
use Rattle.octets.specs.Numbers.{le2_at}
use Rattle.octets.specs.Pick.{pick}
use Rattle.machine.specs.Judging.{element_of}
use Rattle.machine.specs.declared.words.Carrier.TheVariants.{Parameter, Memory}
use Rattle.sheet.specs.declared.walk.Form.{Form}
use Rattle.sheet.specs.declared.walk.Form.TheVariants.{Enhanced, Short}
use Rattle.frame.specs.Places.{fields_end, mode_size, data_from, echo_from, echo_size}
use Rattle.frame.specs.declared.unnamed.Run.{Run}

abbrev pub run : ℕ → ℕ → Run
run first many = record { first = first; many = many }

-- the fields of a code: number and size; mode, count and address; of ID_RD item, offset and size, and of CONNECT version, com_mod, com_time and profile; mode
unfoldable pub fields_at : Form → ℕ → Run
fields_at form code =
    pick (eqb code 0x01 || eqb code 0x02) (run (echo_from Parameter) (echo_size form Parameter))
    (pick (eqb code 0x1D || eqb code 0x1E) (run (echo_from Memory) (echo_size form Memory))
    (pick (eqb code 0x03 || eqb code 0x0E) (run 4 (fields_end form - 4))
    (pick (eqb code 0x05 || eqb code 0x06) (run 4 (mode_size form))
    (run 4 0))))

-- the data of PRM_WR and MEM_WR: size octets, or count times element
unfoldable pub written_at : Form → ℕ → List ℕ → Run
written_at form code c =
    pick (eqb code 0x02) (run (data_from form Parameter) (get_or c 6 0))
    (pick (eqb code 0x1E) (run (data_from form Memory) (le2_at c 6 * element_of (get_or c 5 0)))
    (run 4 0))

-- what a command names: code and WDT, its fields, and the data that it writes
unfoldable pub names_for : Form → Run → Run → List Run
names_for Enhanced fields written = run 0 2 ∷ fields ∷ written ∷ []
names_for Short fields written = run 0 1 ∷ run 15 1 ∷ fields ∷ written ∷ []

abbrev pub names_of : Form → ℕ → List ℕ → List Run
names_of form code c = names_for form (fields_at form code) (written_at form code c)

unfoldable pub in_run : Run → ℕ → Bool
in_run r k = leb r.first k && ltb k (r.first + r.many)

-- whether octet k is in one of these
unfoldable pub is_named : List Run → ℕ → Bool
is_named [] k = false
is_named (r ∷ rs) k = in_run r k || is_named rs k

-- what must be zero of octet k, where it is not named: all, "but for the two identity bits" of octet 2
unfoldable pub unnamed_bits : Form → ℕ → ℕ → ℕ
unnamed_bits Enhanced k x = pick (eqb k 2) (x % 64) x
unnamed_bits Short k x = x

-- the first of the octets, numbered from k on, that is not named and not zero; 0 where there is none, as octet 0 is named
unfoldable pub stray_from : Form → List Run → ℕ → List ℕ → ℕ
stray_from form names k [] = 0
stray_from form names k (x ∷ xs) = pick (is_named names k || eqb (unnamed_bits form k x) 0) (stray_from form names (suc k) xs) k

-- the first octet of a command of a code that should be zero and is not, by a release
unfoldable pub stray_as : Form → ℕ → ℕ → List ℕ → ℕ
stray_as form release code c = pick (eqb release 2) (stray_from form (names_of form code c) 0 c) 0

unfoldable pub stray_of : Form → ℕ → List ℕ → ℕ
stray_of form release c = stray_as form release (get_or c 0 0) c
