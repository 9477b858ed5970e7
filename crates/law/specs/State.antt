-- "The state record", and when its octets are valid. Request 9: "kind 12 hex with the count as eleventh octet"; document 01's had ten, of kind 11 hex.
use Rattle.std.specs.Prelude.{ℕ, Bool, not, ◌&&◌, List, [], ◌∷◌, eqb, leb, length}
use Rattle.law.specs.Words.{implies, all, one_of, octet}
use Rattle.law.specs.Sheet.{Sheet, allows}

-- 0 kind; 1 link (0 Disabled, 1 Disconnected, 2 AsyncConnected, 3 SyncConnected); 2 L; 3 dual transfer; 4 com_time; 5 MN known; 6 last MN;
-- 7 RSN; 8 latched command alarm; 9 latched communication alarm; 10 the count of failures in a row
abbrev pub link : List ℕ → ℕ
link s = octet s 1

abbrev pub dual : List ℕ → ℕ
dual s = octet s 3

abbrev pub com_time : List ℕ → ℕ
com_time s = octet s 4

abbrev pub mn_known : List ℕ → ℕ
mn_known s = octet s 5

abbrev pub last_mn : List ℕ → ℕ
last_mn s = octet s 6

abbrev pub rsn : List ℕ → ℕ
rsn s = octet s 7

abbrev pub command_latch : List ℕ → ℕ
command_latch s = octet s 8

abbrev pub communication_latch : List ℕ → ℕ
communication_latch s = octet s 9

abbrev pub failures : List ℕ → ℕ
failures s = octet s 10

-- of octets 1 to 9
abbrev pub valid_when : Sheet → List ℕ → List Bool
valid_when h s =
    -- links 0 to 3; "L is the sheet's"
    leb (link s) 3 ∷ eqb (octet s 2) h.l
    -- "dual transfer 0 or 1"; "MN known 0 or 1"; "last MN 0 to 15"; "RSN 0 to 15"
    ∷ leb (dual s) 1 ∷ leb (mn_known s) 1 ∷ leb (last_mn s) 15 ∷ leb (rsn s) 15
    -- "latched command alarm (0, 8, 9, 10, 12); latched communication alarm (0, 12)"
    ∷ one_of (command_latch s) (0 ∷ 8 ∷ 9 ∷ 10 ∷ 12 ∷ []) ∷ one_of (communication_latch s) (0 ∷ 12 ∷ [])
    -- "com_time is nonzero exactly in links 2 and 3"
    ∷ implies (leb 2 (link s)) (leb 1 (com_time s)) ∷ implies (leb (link s) 1) (eqb (com_time s) 0)
    -- "dual is 0 outside link 3 and dual 1 has com_time at least 2"
    ∷ implies (not (eqb (link s) 3)) (eqb (dual s) 0) ∷ implies (eqb (dual s) 1) (leb 2 (com_time s))
    -- "the MN and RSN fields are zero outside link 3, last MN and RSN are zero when MN is not known"
    ∷ implies (not (eqb (link s) 3)) (eqb (mn_known s) 0 && (eqb (last_mn s) 0 && eqb (rsn s) 0))
    ∷ implies (eqb (mn_known s) 0) (eqb (last_mn s) 0 && eqb (rsn s) 0)
    -- "both alarms are zero in link 0"
    ∷ implies (eqb (link s) 0) (eqb (command_latch s) 0 && eqb (communication_latch s) 0)
    ∷ []

-- "1 for .. a count above the sheet's"; "the count .., 0 outside link 3 and while MN is not known"
abbrev pub new_when : Sheet → List ℕ → List Bool
new_when h s =
    eqb (length s) 11 ∷ eqb (octet s 0) 0x12 ∷ leb (failures s) (allows h)
    ∷ implies (not (eqb (link s) 3)) (eqb (failures s) 0) ∷ implies (eqb (mn_known s) 0) (eqb (failures s) 0)
    ∷ valid_when h s

unfoldable pub valid_state : Sheet → List ℕ → Bool
valid_state h s = all (new_when h s)

-- the record of document 01: "Ten octets: kind 11 hex"
abbrev pub old_when : Sheet → List ℕ → List Bool
old_when h s = eqb (length s) 10 ∷ eqb (octet s 0) 0x11 ∷ valid_when h s

unfoldable pub valid_old : Sheet → List ℕ → Bool
valid_old h s = all (old_when h s)
