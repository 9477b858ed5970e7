-- `sheet::reading::Unread::read_record` meets its contract: the three checks that every record has first, then the record's own.
use Rattle.std.proofs.Common.{sym, ap, ◌∙◌}
use Rattle.octets.proofs.Pick.{pick_yes, pick_no, pick_ne}
use Rattle.sheet.specs.Reading.{record_of}
use Rattle.sheet.proofs.Known.{known_passes}
use Rattle.sheet.proofs.reading.Unread.read_record.Goals as goal

pub returns-then-misplaced : goal.returns-then-misplaced
unfolding record_of
returns-then-misplaced c =
    sym
    (pick_ne _ _ c.if-self-eq0.false
    ∙ known_passes c.in-Ok.kind _ _ _ c.in-Ok.ensures
    ∙ pick_yes _ _ (sym c.misplaced.ensures ∙ c.if-misplaced.true))

pub returns : goal.returns
unfolding record_of
returns c =
    rw c.in-Ok.ensures at c.read_body.ensures
    ∙ sym
    (pick_ne _ _ c.if-self-eq0.false
    ∙ known_passes c.in-Ok.kind _ _ _ c.in-Ok.ensures
    ∙ pick_no _ _ (sym c.misplaced.ensures ∙ c.if-misplaced.false))
