-- `reader::records::as_signed` meets its contract.
use mir.Facts.{to_z-of_z}
use Rattle.reader.proofs.NumberLaws.{signed_low, signed_high, signed_fits}
use Rattle.reader.proofs.records.as_signed.Goals as goal

pub returns-then-x-lt9223372036854775808 : goal.returns-then-x-lt9223372036854775808
returns-then-x-lt9223372036854775808 c = signed_low c.args.x c.if-x-lt9223372036854775808.true

pub overflow_sub-result-2 : goal.overflow_sub-result-2
overflow_sub-result-2 c =
    let x = c.args.x in
    rw (signed_high x c.if-x-lt9223372036854775808.false c.ranges.x.fits) (signed_fits x c.ranges.x.fits)

pub returns : goal.returns
returns c =
    let x = c.args.x in
    let l = c.ranges.x.fits in
    rw (signed_high x c.if-x-lt9223372036854775808.false l) (to_z-of_z (signed_fits x l))
