-- `slave::exchanging::build` meets its contract: head and body make the reply.
use Rattle.std.proofs.Common.{sym, ◌∙◌, arith, subst}
use Rattle.frame.specs.Places.{Sized}
use Rattle.frame.proofs.Replies.{built_reply}
use Rattle.sheet.proofs.Valid.{valid_sheet, length_most}
use Rattle.slave.proofs.Fits.{valid_sized, lent_fits}
use Rattle.slave.proofs.exchanging.build.Goals as goal

pub stray-stray-requires : goal.stray-stray-requires
stray-stray-requires c =
    let d = c.args.checked.now in
    let m = length_most _ _ (valid_sheet _ _ d.valid) in
    omega (arith, c.requires.asked)

pub head-requires : goal.head-requires
head-requires c =
    let d = c.args.checked.now in
    subst (Sized d.device.layout.form) (sym c.requires.lent) (valid_sized _ _ (valid_sheet _ _ d.valid))

pub fill_body-requires : goal.fill_body-requires
fill_body-requires c =
    let d = c.args.checked.now in
    lent_fits d.device.sheet.now _ _ _ d.device.layout c.args.st d.valid c.requires _ _ _ _ c.outcome-outcome.ensures c.head.auto.reply

pub returns-clause-reply : goal.returns-clause-reply
returns-clause-reply c =
    let a = c.args in
    let d = a.checked.now.device in
    let p = c.requires in
    let k = c.command_of-c in
    built_reply d.layout.form d.sheet.now a.memory.now a.command.now a.reply.now c.outcome-outcome.result k.result c.head.new.reply c.fill_body.new.reply
    k.ensures (p.lent ∙ sym p.asked) c.head.ensures c.fill_body.ensures
