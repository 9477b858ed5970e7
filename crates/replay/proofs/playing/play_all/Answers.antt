-- `replay::playing::play_all` meets its contract: 64 octets are room for every reply.
use Rattle.std.proofs.Common.{sym, arith}
use Rattle.std.proofs.Math.Seq.{length-take-le}
use Rattle.sheet.proofs.Valid.{valid_sheet, length_most}
use Rattle.replay.proofs.playing.play_all.Goals as goal

pub slice_bounds-room-end : goal.slice_bounds-room-end
slice_bounds-room-end c =
    let m = length_most _ _ (valid_sheet _ _ c.args.checked.now.valid) in
    omega arith

pub slice_bounds-play-end : goal.slice_bounds-play-end
slice_bounds-play-end c =
    let m = length_most _ _ (valid_sheet _ _ c.args.checked.now.valid) in
    sym (length-take-le c.args.checked.now.device.layout.l _ m)

pub play-requires-clause-room : goal.play-requires-clause-room
play-requires-clause-room c =
    let m = length_most _ _ (valid_sheet _ _ c.args.checked.now.valid) in
    length-take-le c.args.checked.now.device.layout.l _ m
