use Rattle.std.proofs.Common.{refl, sym, subst, arith}
use Rattle.c_meaning.specs.inside.Cells.{SpansKnown}
use Rattle.c_meaning.proofs.Lays.{laid-cells}
use Rattle.c_meaning.proofs.arrays.Arrays.set.Goals as goal

pub invariant_of-self : goal.invariant_of-self
invariant_of-self c =
    let f = c.self.invariant.fits in let l = c.write.ensures.length in
    laid-cells c.self.inside.spans.items c.self.inside.cells.items c.self.inside.used
    c.self.inside.last c.self.inside.spans.items c.write.new.cells.items c.self.inside.last
    c.self.invariant refl (omega arith) (omega arith)
    (c.write.ensures.known c.self.inside.last
    (subst (SpansKnown c.self.inside.last)
    (sym c.as_slice.ensures.value) c.self.invariant.spans_known) c.self.invariant.cells_known)
