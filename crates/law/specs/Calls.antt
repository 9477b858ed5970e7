-- "What each call tells", for a good sheet. A refusal leaves state, memory and reply as they were, and of document 01's refusals "Place is 0 except for 11 to
-- 17". "That the buffers are distinct is the host's duty": here they are lists of their own.
use Rattle.std.specs.Prelude.{ℕ, ◌+◌, ◌*◌, not, List, [], ◌∷◌, ◌++◌, eqb, length, drop}
use Rattle.law.specs.Words.{when, piece, over}
use Rattle.law.specs.Sheet.{Sheet, room}
use Rattle.law.specs.State.{link, valid_state, valid_old}
use Rattle.law.specs.Memory.{cells, stored}
use Rattle.law.specs.Exchange.{Fate, mn, fate_of, state_after, reply_for}

-- what a host has after a call: one number for the answer, and what the buffers hold that it lent to be written; [] for a buffer that the call has not
pub record Result : Type 0 where
  pub answer : ℕ
  pub state : List ℕ
  pub memory : List ℕ
  pub reply : List ℕ

-- the answer is the number + 2^32 times the place; that they are joined so is our own
abbrev pub result : ℕ → ℕ → List ℕ → List ℕ → List ℕ → Result
result number place state memory reply = record { answer = number + 4294967296 * place; state = state; memory = memory; reply = reply }

-- t24_sheet and t24_lengths are our own. A good sheet is told by 0
abbrev pub sheet_told : Sheet → Result
sheet_told h = result 0 0 [] [] []

-- and its lengths as L + 2^32 times that of the memory
abbrev pub lengths : Sheet → Result
lengths h = result h.l (room h.regions) [] [] []

-- "Reset asks only a good sheet and a state buffer .., with any content; it writes Disabled with the sheet's L and zeros"; request 9: "Reset writes the new
-- record, into eleven octets."
unfoldable pub reset : Sheet → List ℕ → Result
reset h s =
    when (not (eqb (length s) 11)) (result 1 0 s [] [])
    (result 0 0 (0x12 ∷ 0 ∷ h.l ∷ 0 ∷ 0 ∷ 0 ∷ 0 ∷ 0 ∷ 0 ∷ 0 ∷ 0 ∷ []) [] [])

-- "1: state record of wrong length or not valid", "6: enable when not Disabled"; "Enable turns Disabled into Disconnected."
unfoldable pub enable : Sheet → List ℕ → Result
enable h s =
    when (not (valid_state h s)) (result 1 0 s [] [])
    (when (not (eqb (link s) 0)) (result 6 0 s [] [])
    (result 0 0 (over (piece 1 (1 ∷ []) ∷ []) s) [] []))

-- "A call turns a valid old record into a new one. .. 1 .. in the turning call, a bad old record or other than eleven octets for the new"
unfoldable pub turn : Sheet → List ℕ → List ℕ → Result
turn h old s =
    when (not (valid_old h old)) (result 1 0 s [] [])
    (when (not (eqb (length s) 11)) (result 1 0 s [] [])
    (result 0 0 (0x12 ∷ drop 1 old ++ 0 ∷ []) [] []))

-- an exchange with none of the refusals below, whose command may still get an alarm: the fate of its command, done. Request 3: "The exchange's place, so
-- far 0 for a built reply, shall be the first octet of the field that failed"; Table says what it is for alarm 10, and where it is 0
abbrev pub done : Sheet → List ℕ → List ℕ → List ℕ → Fate → Result
done h s m c f =
    result 0 f.place (state_after s (mn h c) f.changes) (stored f.stores (cells h.regions) m)
    (reply_for h c f.alarm (state_after s (mn h c) f.changes) f.body)

-- "1: state record ..", "2: memory length not the sum of the regions", "3: command length not L", "4: reply length not L", "5: exchange while Disabled"; of
-- the state s, the memory m, the command c and the reply r that are lent
unfoldable pub exchange : Sheet → List ℕ → List ℕ → List ℕ → List ℕ → Result
exchange h s m c r =
    when (not (valid_state h s)) (result 1 0 s m r)
    (when (not (eqb (length m) (room h.regions))) (result 2 0 s m r)
    (when (not (eqb (length c) h.l)) (result 3 0 s m r)
    (when (not (eqb (length r) h.l)) (result 4 0 s m r)
    (when (eqb (link s) 0) (result 5 0 s m r)
    (done h s m c (fate_of h s m c))))))
