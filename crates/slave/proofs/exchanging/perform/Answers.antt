-- `slave::exchanging::perform` meets its contract: the reply is built, and where it begins with what is wanted, the write's octets enter the memory, the
-- next state the record.
use Rattle.std.proofs.Common.{◌≡◌, ℕ, ◌+◌, ◌*◌, ◌/◌, ◌%◌, ◌<◌, List, length, sym, ap, ◌∙◌, arith}
use Rattle.octets.proofs.Pick.{pick_eq, pick_ne}
use Rattle.frame.proofs.Rooms.{fits_stored}
use Rattle.link.proofs.Back.{written, read_valid}
use Rattle.machine.specs.declared.words.Outcome.{Outcome}
use Rattle.sheet.proofs.Valid.{valid_sheet, length_most}
use Rattle.slave.specs.Exchange.{left_of, exchanged}
use Rattle.slave.specs.Wanted.{differs_at, stepped, stepped_of, performed, came, came_of}
use Rattle.slave.proofs.Differs.{differs_most}
use Rattle.slave.proofs.Fits.{lent_fits}
use Rattle.slave.proofs.exchanging.perform.Goals as goal

-- the two numbers of the one that is told
place_told : (at place : ℕ) → at < 256 → (at + 256 * place) / 256 ≡ place
place_told at place l = omega arith

at_told : (at place : ℕ) → at < 256 → (at + 256 * place) % 256 ≡ at
at_told at place l = omega arith

pub differs-at-requires : goal.differs-at-requires
differs-at-requires c =
    let m = length_most _ _ (valid_sheet _ _ c.args.checked.now.valid) in
    let e = c.build-outcome.auto.reply ∙ c.requires.ready.lists.lent in
    (omega (arith, c.requires.wanted), omega arith)

pub returns-then-at-wanted : goal.returns-then-at-wanted
unfolding stepped_of exchanged
returns-then-at-wanted c =
    let a = c.args in
    let v = a.checked.now.device in
    let b = c.build-outcome.ensures in
    let d = c.differs-at.result in
    let e = c.differs-at.ensures ∙ ap (λ (x : List ℕ). differs_at x a.wanted.now) b.reply in
    let place = place_told d c.place_of-place.result (omega arith) ∙ c.place_of-place.ensures in
    let step = ap (λ (n : ℕ). stepped n a.state.now a.memory.now) (at_told d c.place_of-place.result (omega arith) ∙ e)
    ∙ sym (pick_ne _ _ (λ z. let k : d ≡ length a.wanted.now = e ∙ z in let w : ⊥ = omega arith in w)) in
    (λ i. came (place i) (performed (step i) (b.reply i)))
    ∙ ap (λ (o : Outcome). came_of a.wanted.now a.state.now a.memory.now (left_of v.layout.form v.sheet.now a.memory.now a.command.now o)) b.outcome

pub store-requires : goal.store-requires
store-requires c =
    let a = c.args in
    let d = a.checked.now in
    let p = c.requires.ready.lists in
    let f = lent_fits _ _ _ _ _ a.st d.valid p _ _ _ a.command.now c.build-outcome.ensures.outcome (p.asked ∙ sym p.lent) in
    fits_stored d.device.layout.form (length a.command.now) (length a.memory.now) (length d.device.sheet.now) c.build-outcome.result.effect f.1

pub returns : goal.returns
unfolding stepped_of exchanged
returns c =
    let a = c.args in
    let v = a.checked.now.device in
    let b = c.build-outcome.ensures in
    let d = c.differs-at.result in
    let found = c.differs-at.ensures in
    let most = differs_most c.build-outcome.new.reply a.wanted.now in
    let all : d ≡ length a.wanted.now = omega (arith, found, c.if-at-wanted.false) in
    let e = found ∙ ap (λ (x : List ℕ). differs_at x a.wanted.now) b.reply in
    let place = place_told d c.place_of-place.result (omega arith) ∙ c.place_of-place.ensures in
    let at = at_told d c.place_of-place.result (omega arith) ∙ e in
    let state = c.write.ensures ∙ written a.state.now c.build-outcome.result.next (read_valid _ _ _ _ c.requires.ready.held).0 in
    let step = (λ i. stepped (at i) (state i) (c.store.ensures i)) ∙ sym (pick_eq _ _ (sym e ∙ all)) in
    (λ i. came (place i) (performed (step i) (b.reply i)))
    ∙ ap (λ (o : Outcome). came_of a.wanted.now a.state.now a.memory.now (left_of v.layout.form v.sheet.now a.memory.now a.command.now o)) b.outcome
