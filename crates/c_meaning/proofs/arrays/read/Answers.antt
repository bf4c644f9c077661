use Rattle.std.proofs.Common.{sym, ap, ◌∙◌, arith, Option, List, ℕ}
use Rattle.c_meaning_spec.specs.State.{cell_in, held}
use Rattle.c_meaning.proofs.Rows.{absent, outside, present, within}
use Rattle.c_meaning.proofs.arrays.read.Goals as goal

pub overflow_add-span : goal.overflow_add-span
overflow_add-span c =
    let w = within c.args.spans.now c.args.array c.in-Some.span c.requires.follows (sym c.in-Some.ensures) in
    let f = c.requires.fits in let g = c.if-at-span.false in omega arith

pub bounds-cells-span : goal.bounds-cells-span
bounds-cells-span c =
    let w = within c.args.spans.now c.args.array c.in-Some.span c.requires.follows (sym c.in-Some.ensures) in
    let f = c.requires.fits in let g = c.if-at-span.false in omega arith

pub offset_bounds-cells-span : goal.offset_bounds-cells-span
offset_bounds-cells-span c =
    let w = within c.args.spans.now c.args.array c.in-Some.span c.requires.follows (sym c.in-Some.ensures) in
    let f = c.requires.fits in let g = c.if-at-span.false in omega arith

pub returns-in-None : goal.returns-in-None
returns-in-None c =
    sym (ap (λ (o : Option (List (Option ℕ))). held (cell_in o c.args.at))
    (absent c.args.spans.now c.args.cells.now c.args.array (sym c.in-None.ensures)))

pub returns-then-at-span : goal.returns-then-at-span
returns-then-at-span c =
    sym (ap held (outside c.args.spans.now c.args.cells.now c.args.array c.args.at c.in-Some.span
    (sym c.in-Some.ensures) c.if-at-span.true))

pub returns-else-at-span : goal.returns-else-at-span
returns-else-at-span c =
    c.word_in.ensures ∙ sym (ap held (present c.args.spans.now c.args.cells.now c.args.array
    c.args.at c.in-Some.span _ c.requires.follows
    (sym c.in-Some.ensures) c.if-at-span.false c.requires.fits))
