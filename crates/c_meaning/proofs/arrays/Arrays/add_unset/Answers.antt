use Rattle.std.proofs.Common.{◌≡◌, ◌-◌, length, refl, arith}
use Rattle.c_meaning.specs.inside.Cells.{worded}
use Rattle.c_meaning.proofs.Lays.{laid-cells}
use Rattle.c_meaning.proofs.AddedArrays.{laid-add, rows-unset_added, enough-padded}
use Rattle.c_meaning.proofs.Stamps.{cells-later}
use Rattle.c_meaning.proofs.arrays.Arrays.add_unset.Goals as goal

pub invariant_of-self : goal.invariant_of-self
invariant_of-self c =
    let f = c.self.invariant.fits in let l = c.in_err-pad.ensures.longer in
    laid-cells c.self.inside.spans.items c.self.inside.cells.items c.self.inside.used
    c.self.inside.last c.self.inside.spans.items c.pad.new.cells.items c.self.inside.last
    c.self.invariant refl (omega arith) (omega arith)
    (c.in_err-pad.ensures.known c.self.inside.last (omega arith) c.self.invariant.cells_known)

pub invariant_of-self-in_err-push : goal.invariant_of-self-in_err-push
invariant_of-self-in_err-push c =
    let f = c.self.invariant.fits in let l = c.in_ok-pad.ensures.longer in
    laid-cells c.self.inside.spans.items c.self.inside.cells.items c.self.inside.used
    c.self.inside.last c.push.new.self.items c.pad.new.cells.items c.self.inside.last
    c.self.invariant c.in_err-push.ensures.items (omega arith) (omega arith)
    (c.in_ok-pad.ensures.known c.self.inside.last (omega arith) c.self.invariant.cells_known)

pub invariant_of-self-2 : goal.invariant_of-self-2
invariant_of-self-2 c =
    let n : c.saturating_sub-count.result ≡ c.in_ok-used.used - length c.self.inside.cells.items = omega arith in
    let k = c.in_ok-pad.ensures.known c.self.inside.last (omega arith) c.self.invariant.cells_known in
    laid-add c.self.inside.spans.items c.self.inside.cells.items c.self.inside.used
    c.self.inside.last c.push.new.self.items c.pad.new.cells.items c.in_ok-used.used
    c.in_ok-stamp.stamp c.args.length
    c.self.invariant c.in_ok-stamp.ensures c.in_ok-used.ensures c.in_ok-push.ensures.items
    (enough-padded c.self.inside.cells.items
    (worded 0 0) c.saturating_sub-count.result c.in_ok-used.used c.pad.new.cells.items n
    c.in_ok-pad.ensures.ok)
    (cells-later c.self.inside.last c.in_ok-stamp.stamp c.pad.new.cells.items
    (omega (arith, c.in_ok-stamp.ensures)) k)

pub returns : goal.returns
returns c =
    let n : c.saturating_sub-count.result ≡ c.in_ok-used.used - length c.self.inside.cells.items = omega arith in
    let u = c.in_ok-used.ensures in
    let le = enough-padded c.self.inside.cells.items (worded 0 0) c.saturating_sub-count.result c.in_ok-used.used
    c.pad.new.cells.items n c.in_ok-pad.ensures.ok in
    record {
      ok = rows-unset_added c.self.inside.spans.items c.self.inside.cells.items c.self.inside.used
          c.self.inside.last c.push.new.self.items c.pad.new.cells.items _ c.in_ok-stamp.stamp
          c.args.length c.args.self.now
          c.self.invariant c.self.view_is c.in_ok-stamp.ensures c.in_ok-push.ensures.items
          c.in_ok-pad.ensures.ok
          (c.in_ok-pad.ensures.known c.self.inside.last (omega arith) c.self.invariant.cells_known)
          (omega arith);
    }
