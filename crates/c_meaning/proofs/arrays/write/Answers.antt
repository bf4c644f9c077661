use Rattle.std.proofs.Common.{◌+◌, sym, ap, arith, Option, List, ℕ}
use Rattle.c_meaning_spec.specs.State.{cell_in}
use Rattle.c_meaning.specs.inside.Cells.{worded}
use Rattle.c_meaning.proofs.Rows.{absent, outside, within, is-present, never, always, rows-set}
use Rattle.c_meaning.proofs.Stamps.{cells-set, stamp-known}
use Rattle.c_meaning.proofs.arrays.write.Goals as goal

pub overflow_add-span : goal.overflow_add-span
overflow_add-span c =
    let w = within c.args.spans.now c.args.array c.in-Some.span c.requires.follows (sym c.in-Some.ensures) in
    let f = c.requires.fits in let g = c.if-at-span.false in let k = c.args.cells.now.ok in omega arith

pub index_mut-requires : goal.index_mut-requires
index_mut-requires c =
    let w = within c.args.spans.now c.args.array c.in-Some.span c.requires.follows (sym c.in-Some.ensures) in
    let f = c.requires.fits in let g = c.if-at-span.false in omega arith

pub returns-in-None-clause-there : goal.returns-in-None-clause-there
returns-in-None-clause-there c =
    never _ (ap (λ (o : Option (List (Option ℕ))). cell_in o c.args.at)
    (absent c.args.spans.now c.args.cells.now.items c.args.array (sym c.in-None.ensures)))

pub returns-then-at-span-clause-there : goal.returns-then-at-span-clause-there
returns-then-at-span-clause-there c =
    never _ (outside c.args.spans.now c.args.cells.now.items c.args.array c.args.at c.in-Some.span
    (sym c.in-Some.ensures) c.if-at-span.true)

pub returns-else-at-span-clause-there : goal.returns-else-at-span-clause-there
returns-else-at-span-clause-there c =
    always _ (is-present c.args.spans.now c.args.cells.now.items c.args.array c.args.at
    c.in-Some.span c.requires.follows (sym c.in-Some.ensures) c.if-at-span.false c.requires.fits)

pub returns-else-at-span-clause-set : goal.returns-else-at-span-clause-set
returns-else-at-span-clause-set c = λ t.
    rows-set c.args.spans.now c.args.cells.now.items c.args.array c.args.at c.args.word
    c.in-Some.span c.requires.follows (sym c.in-Some.ensures) c.if-at-span.false

pub returns-else-at-span-clause-known : goal.returns-else-at-span-clause-known
returns-else-at-span-clause-known c = λ last s k.
    cells-set last (c.in-Some.span.start + c.args.at) c.args.cells.now.items
    (worded c.in-Some.span.stamp c.args.word)
    (stamp-known last c.args.array c.args.spans.now c.in-Some.span s (sym c.in-Some.ensures)) k
