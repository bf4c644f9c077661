use Rattle.std.proofs.Common.{sym, ap, ◌∙◌, List, slice_get}
use Rattle.c_meaning.specs.declared.arrays.Span.{Span}
use Rattle.c_meaning.proofs.Rows.{absent, row-present, never, always}
use Rattle.c_meaning.proofs.Lays.{laid-unset, rows-unset}
use Rattle.c_meaning.proofs.arrays.Arrays.unset.Goals as goal

pub invariant_of-self : goal.invariant_of-self
invariant_of-self c =
    let g = ap (λ (s : List Span). slice_get s c.args.array) (sym c.as_slice.ensures.value) ∙ sym c.in-Some.ensures in
    laid-unset c.args.array c.self.inside.spans.items c.self.inside.cells.items c.self.inside.used
    c.self.inside.last c.in_ok-stamp.stamp c.in-Some.span g c.in_ok-stamp.ensures c.self.invariant

pub returns-in-None-clause-there : goal.returns-in-None-clause-there
returns-in-None-clause-there c =
    let g = ap (λ (s : List Span). slice_get s c.args.array) (sym c.as_slice.ensures.value) ∙ sym c.in-None.ensures in
    rw (← c.self.view_is) (never _ (absent c.self.inside.spans.items c.self.inside.cells.items
    c.args.array g))

pub returns-in-Some-clause-there : goal.returns-in-Some-clause-there
returns-in-Some-clause-there c =
    let g = ap (λ (s : List Span). slice_get s c.args.array) (sym c.as_slice.ensures.value) ∙ sym c.in-Some.ensures in
    rw (← c.self.view_is) (always _ (row-present c.self.inside.spans.items c.self.inside.cells.items
    c.args.array c.in-Some.span g))

pub returns-in-Some-clause-unset : goal.returns-in-Some-clause-unset
returns-in-Some-clause-unset c = λ t.
    let g = ap (λ (s : List Span). slice_get s c.args.array) (sym c.as_slice.ensures.value) ∙ sym c.in-Some.ensures in
    rw (← c.self.view_is) (rows-unset c.args.array c.self.inside.spans.items
    c.self.inside.cells.items c.self.inside.used c.self.inside.last c.in_ok-stamp.stamp
    c.in-Some.span g c.in_ok-stamp.ensures c.self.invariant)
