use Rattle.std.proofs.Common.{refl, sym, subst, arith, take}
use Rattle.c_meaning.specs.inside.Cells.{CellsKnown}
use Rattle.c_meaning.proofs.Lays.{laid-cells, taken-length}
use Rattle.c_meaning.proofs.AddedArrays.{laid-add, rows-set_added, enough-filled}
use Rattle.c_meaning.proofs.Stamps.{cells-later, cells-take}
use Rattle.c_meaning.proofs.arrays.Arrays.add_set.Goals as goal

pub invariant_of-self : goal.invariant_of-self
invariant_of-self c =
    let f = c.self.invariant.fits in let l = c.in_err-put_words.ensures.longer in
    let t = taken-length c.self.inside.used c.self.inside.cells.items c.truncate.new.self.items f
    c.truncate.ensures.items in
    let s = c.in_ok-stamp.ensures in
    let k = cells-later c.self.inside.last c.in_ok-stamp.stamp (take c.self.inside.used c.self.inside.cells.items)
    (omega arith)
    (cells-take c.self.inside.last c.self.inside.used c.self.inside.cells.items c.self.invariant.cells_known) in
    laid-cells c.self.inside.spans.items c.self.inside.cells.items c.self.inside.used
    c.self.inside.last c.self.inside.spans.items c.put_words.new.cells.items c.in_ok-stamp.stamp
    c.self.invariant refl (omega arith) (omega arith)
    (c.in_err-put_words.ensures.known c.in_ok-stamp.stamp (omega arith)
    (subst (CellsKnown c.in_ok-stamp.stamp) (sym c.truncate.ensures.items) k))

pub invariant_of-self-in_err-pad : goal.invariant_of-self-in_err-pad
invariant_of-self-in_err-pad c =
    let f = c.self.invariant.fits in let l = c.in_ok-put_words.ensures.longer in
    let m = c.in_err-pad.ensures.longer in
    let t = taken-length c.self.inside.used c.self.inside.cells.items c.truncate.new.self.items f
    c.truncate.ensures.items in
    let s = c.in_ok-stamp.ensures in
    let k = cells-later c.self.inside.last c.in_ok-stamp.stamp (take c.self.inside.used c.self.inside.cells.items)
    (omega arith)
    (cells-take c.self.inside.last c.self.inside.used c.self.inside.cells.items c.self.invariant.cells_known) in
    laid-cells c.self.inside.spans.items c.self.inside.cells.items c.self.inside.used
    c.self.inside.last c.self.inside.spans.items c.pad.new.cells.items c.in_ok-stamp.stamp
    c.self.invariant refl (omega arith) (omega arith)
    (c.in_err-pad.ensures.known c.in_ok-stamp.stamp (omega arith)
    (c.in_ok-put_words.ensures.known c.in_ok-stamp.stamp (omega arith)
    (subst (CellsKnown c.in_ok-stamp.stamp) (sym c.truncate.ensures.items) k)))

pub invariant_of-self-in_err-push : goal.invariant_of-self-in_err-push
invariant_of-self-in_err-push c =
    let f = c.self.invariant.fits in let l = c.in_ok-put_words.ensures.longer in let m = c.in_ok-pad.ensures.longer in
    let t = taken-length c.self.inside.used c.self.inside.cells.items c.truncate.new.self.items f
    c.truncate.ensures.items in
    let s = c.in_ok-stamp.ensures in
    let k = cells-later c.self.inside.last c.in_ok-stamp.stamp (take c.self.inside.used c.self.inside.cells.items)
    (omega arith)
    (cells-take c.self.inside.last c.self.inside.used c.self.inside.cells.items c.self.invariant.cells_known) in
    laid-cells c.self.inside.spans.items c.self.inside.cells.items c.self.inside.used
    c.self.inside.last c.push.new.self.items c.pad.new.cells.items c.in_ok-stamp.stamp
    c.self.invariant c.in_err-push.ensures.items (omega arith) (omega arith)
    (c.in_ok-pad.ensures.known c.in_ok-stamp.stamp (omega arith)
    (c.in_ok-put_words.ensures.known c.in_ok-stamp.stamp (omega arith)
    (subst (CellsKnown c.in_ok-stamp.stamp) (sym c.truncate.ensures.items) k)))

pub invariant_of-self-2 : goal.invariant_of-self-2
invariant_of-self-2 c =
    let f = c.self.invariant.fits in
    let s = c.in_ok-stamp.ensures in let u = c.in_ok-used.ensures in
    let k = cells-later c.self.inside.last c.in_ok-stamp.stamp (take c.self.inside.used c.self.inside.cells.items)
    (omega arith)
    (cells-take c.self.inside.last c.self.inside.used c.self.inside.cells.items c.self.invariant.cells_known) in
    let le = enough-filled c.self.inside.used c.args.zeros c.args.words.now c.in_ok-stamp.stamp c.in_ok-length.length
    c.self.inside.cells.items c.truncate.new.self.items c.put_words.new.cells.items c.pad.new.cells.items f
    (c.in_ok-length.ensures) c.truncate.ensures.items c.in_ok-put_words.ensures.ok c.in_ok-pad.ensures.ok in
    laid-add c.self.inside.spans.items c.self.inside.cells.items c.self.inside.used
    c.self.inside.last c.push.new.self.items c.pad.new.cells.items c.in_ok-used.used
    c.in_ok-stamp.stamp c.in_ok-length.length
    c.self.invariant s u c.in_ok-push.ensures.items (omega arith)
    (c.in_ok-pad.ensures.known c.in_ok-stamp.stamp (omega arith)
    (c.in_ok-put_words.ensures.known c.in_ok-stamp.stamp (omega arith)
    (subst (CellsKnown c.in_ok-stamp.stamp) (sym c.truncate.ensures.items) k)))

pub returns : goal.returns
returns c = record {
  ok = rows-set_added c.self.inside.spans.items c.self.inside.cells.items c.self.inside.used
      c.self.inside.last c.push.new.self.items c.truncate.new.self.items c.put_words.new.cells.items
      c.pad.new.cells.items c.in_ok-stamp.stamp c.in_ok-length.length c.args.zeros c.args.words.now
      c.args.self.now
      c.self.invariant c.self.view_is c.in_ok-length.ensures c.in_ok-push.ensures.items
      c.truncate.ensures.items c.in_ok-put_words.ensures.ok c.in_ok-pad.ensures.ok;
}
