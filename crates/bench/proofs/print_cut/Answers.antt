-- `bench::print_cut` is safe and prints nothing but the line of left-over bytes. Assumes nothing.
use Rattle.std.proofs.Common.{◌-◌, ◌≤◌, ◌≡◌, length, replicate, sym, subst, length-take-le, arith}
use Rattle.line.specs.Line.{laid, cut_of, line_into}
use Rattle.line.specs.Laws.{fitted_some, fitted_at}
use Rattle.line.specs.Fits.{cut_fits}
use Rattle.bench.specs.Program.{Says, leaves}
use Rattle.bench.specs.Laws.{laid_within, laid_line}
use Rattle.bench.proofs.print_cut.Given.{Over}
use Rattle.bench.proofs.print_cut.Goals.{After-unwrap-n}
use Rattle.bench.proofs.print_cut.Goals as goal

-- the line is laid into the room, which is long enough
is_laid : (g : Over) (c : After-unwrap-n g) →
    laid c.unwrap-n.result c.put_cut.new.out
    ≡ line_into (cut_of c.args.left) (replicate 25 0)
is_laid g c = fitted_at
    (cut_of c.args.left)
    (replicate 25 0)
    c.put_cut.new.out
    c.put_cut.result
    c.unwrap-n.result
    c.put_cut.ensures
    c.unwrap-n.ensures

is_within : (g : Over) (c : After-unwrap-n g) → c.unwrap-n.result ≤ length c.put_cut.new.out
is_within g c =
    laid_within
    (cut_of c.args.left)
    (replicate 25 0)
    (laid c.unwrap-n.result c.put_cut.new.out)
    (cut_fits c.args.left c.ranges.left.fits)
    (is_laid g c)

pub unwrap-n-requires : goal.unwrap-n-requires
unwrap-n-requires g c =
    fitted_some (cut_of c.args.left) (replicate 25 0) _ (cut_fits c.args.left c.ranges.left.fits) c.put_cut.ensures

pub slice_bounds-room-end : goal.slice_bounds-room-end
slice_bounds-room-end g c = is_within g (goal.at.slice_bounds-room-end g c).After-unwrap-n

pub slice_bounds-print-end : goal.slice_bounds-print-end
slice_bounds-print-end g c =
    let p = (goal.at.slice_bounds-print-end g c).After-unwrap-n in
    sym (length-take-le c.unwrap-n.result c.put_cut.new.out (is_within g p))

pub print-requires : goal.print-requires
print-requires g c =
    let a = c.args in
    let p = (goal.at.print-requires g c).After-unwrap-n in
    let line =
    laid_line
    (cut_of a.left)
    (replicate 25 0)
    (laid c.unwrap-n.result c.put_cut.new.out)
    (cut_fits a.left c.ranges.left.fits)
    (is_laid g p) in
    subst (Says (a.number - 1)) (sym line) (leaves a.left (omega arith) c.requires)
