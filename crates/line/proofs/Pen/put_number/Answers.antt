-- `line::Pen::put_number` meets its contract: the library's digits are the decimal ones, and end where they are to end.
-- Assumes nothing.
use Rattle.std.specs.Prelude.{◌≡◌, refl, length}
use Rattle.std.proofs.Common.{ap, arith}
use Rattle.line.specs.Decimal.{library_same}
use Rattle.line.specs.Laws.{laid_library}
use Rattle.line.proofs.Pen.put_number.Goals as goal

pub write_digits-requires : goal.write_digits-requires
write_digits-requires c =
    let same = ap length (library_same c.args.n c.ranges.n.fits) in
    omega (arith, same, c.places.ensures.0)

pub returns : goal.returns
returns c =
    let pen = c.args.self.now in
    let same = library_same c.args.n c.ranges.n.fits in
    let wrote = c.write_digits.ensures in
    let starts : c.write_digits.result ≡ pen.at =
    omega (arith, ap length same, c.places.ensures.0, wrote.start) in record {
      same = refl;
      at = omega (arith, c.places.ensures.0);
      out =
          laid_library
          pen.out.now
          c.write_digits.new.buf
          _
          _
          _
          _
          _
          same
          starts
          wrote.start
          (omega arith)
          wrote.before
          wrote.written;
    }
