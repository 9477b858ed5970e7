-- `frame::head::head` meets its contract: of the short type the alarm stands in octet 1, with none in the status, and RWDT stands last.
use Prim.Native.Nat.{ℕ, ◌+◌, ◌/◌, ◌%◌, ◌<◌}
use mathlib.Core.List.{List, [], ◌∷◌, append_assoc}
use mathlib.Core.Path.{◌≡◌, ap, ap₂, ◌∙◌}
use native.Mathlib.Omega.{arith}
use lib.ListN.{length, replicate, set, take, drop}
use lib.Seq.{sets-eq}
use Rattle.octets.specs.Parts.{put_at}
use Rattle.frame.specs.Head.{head_of, begun_of}
use Rattle.frame.specs.Places.{wdt_at, Sized}
use Rattle.frame.proofs.head.head.Goals as goal

-- one store is a put of one octet
one_put : (d : List ℕ) (i v : ℕ) → i < length d → set d i v ≡ put_at d i (v ∷ [])
unfolding put_at
one_put d i v h = sets-eq (v ∷ []) d i (omega arith) ∙ append_assoc (take i d) (v ∷ []) (drop (i + 1) d)

pub returns-in-Short : goal.returns-in-Short
unfolding begun_of head_of wdt_at Sized
returns-in-Short c =
    let a = c.args in
    let long = rw c.in-Short.is at c.requires in
    let four = λ (w : ℕ). put_at (replicate (length a.reply.now) 0) 0 (a.code ∷ a.alarm ∷ w % 256 ∷ w / 256 ∷ []) in
    rw c.in-Short.is
    (one_put c.four-in-Short.new.reply 15 c.rwdt-in-Short.result (omega (arith, c.four-in-Short.auto.reply, long))
    ∙ ap₂ (λ (x : List ℕ) (r : ℕ). put_at x 15 (r ∷ [])) (c.four-in-Short.ensures ∙ ap four c.status-in-Short.ensures) c.rwdt-in-Short.ensures)
