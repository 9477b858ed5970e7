-- Document 02, request 1: "Bits 6 and 7 of command octet 2 shall come back in those bits of reply octet 2, in every built reply." Document 01: "octets 2 and 3
-- control, ignored".
use Rattle.std.specs.Prelude.{ℕ, ◌/◌, ◌%◌, List, ◌≡◌, length, get_or, Ok}
use Rattle.law.specs.Sheet.{PduType, enhanced, short, Sheet}
use Rattle.sheet.specs.Walk.{verdict_of}
use Rattle.sheet.specs.declared.walk.Layout.{Layout}
use Rattle.slave.specs.Exchange.{Left, exchange_of}
use Rattle.demands.specs.Answered.{Answered}

-- bits 6 and 7 of octet 2
abbrev pub identity_in : List ℕ → ℕ
identity_in pdu = get_or pdu 2 0 / 64 % 4

-- request 7: "no identity is echoed" in the short type
abbrev pub echoed : PduType → ℕ → ℕ
echoed enhanced x = x
echoed short x = 0

-- in every built reply those bits are the command's, or 0 in the short type
abbrev pub IdentityComesBack : Type 0
IdentityComesBack =
    (h : Sheet) (sheet state memory command reply : List ℕ) → Answered h sheet state memory command reply
    → identity_in (exchange_of sheet state memory command reply).reply ≡ echoed h.pdu (identity_in command)

-- two commands that differ only in octets 2 and 3
pub record OnlyControlDiffers (c d : List ℕ) : Type 0 where
  pub long : length c ≡ length d
  pub others : (k : ℕ) → (k ≡ 2 → ⊥) → (k ≡ 3 → ⊥) → get_or c k 0 ≡ get_or d k 0

-- two exchanges that leave the same, and replies that differ in nothing but those two bits
pub record OnlyIdentityDiffers (x y : Left) : Type 0 where
  pub answers : x.answer ≡ y.answer
  pub states : x.state ≡ y.state
  pub memories : x.memory ≡ y.memory
  pub long : length x.reply ≡ length y.reply
  pub other_octets : (k : ℕ) → (k ≡ 2 → ⊥) → get_or x.reply k 0 ≡ get_or y.reply k 0
  pub other_bits : get_or x.reply 2 0 % 64 ≡ get_or y.reply 2 0 % 64

-- a sheet that is refused, or picks release 1 of the drive rules (request 13)
abbrev pub NotRelease2 : List ℕ → Type 0
NotRelease2 sheet = (lay : Layout) → verdict_of sheet ≡ Ok lay → lay.release ≡ 2 → ⊥

-- for every such sheet, and every state, memory and reply that are lent; release 2 asks those octets to be zero, but for the two bits
abbrev pub ControlIsIgnored : Type 0
ControlIsIgnored =
    (sheet state memory c d reply : List ℕ) → NotRelease2 sheet → OnlyControlDiffers c d
    → OnlyIdentityDiffers (exchange_of sheet state memory c reply) (exchange_of sheet state memory d reply)
