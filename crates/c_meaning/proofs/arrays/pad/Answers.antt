use Rattle.std.proofs.Common.{◌≡◌, ◌++◌, ◌-◌, ◌+◌, ◌∙◌, ℕ, List, ap, subst, sym, replicate, take, length, arith}
use Rattle.std.proofs.lemmas.List.{take_all}
use Rattle.c_meaning.specs.declared.arrays.Cell.{Cell}
use Rattle.c_meaning.specs.inside.Cells.{CellsKnown}
use Rattle.c_meaning.proofs.Stamps.{cells-append, cells-replicate}
use Rattle.c_meaning.proofs.arrays.pad.Goals as goal

pub returns-in_ok-resize-in-Some-clause-known : goal.returns-in_ok-resize-in-Some-clause-known
returns-in_ok-resize-in-Some-clause-known c = λ last le h.
    let cells : List Cell = c.args.cells.now.items in
    let n : c.in-Some.length ≡ length cells + c.args.count =
    omega (arith, c.in-Some.ensures, c.len.ensures, c.args.cells.now.ok.0) in
    let more : c.in-Some.length - c.args.cells.now.len ≡ c.args.count =
    omega (arith, n, c.args.cells.now.ok.0) in
    let items : c.resize.new.self.items ≡ cells ++ replicate c.args.count c.args.cell =
    c.in_ok-resize-in-Some.ensures.items
    ∙ ap (λ (k : ℕ). take c.in-Some.length cells ++ replicate k c.args.cell) more
    ∙ ap (λ (l : List Cell). l ++ replicate c.args.count c.args.cell)
    (take_all c.in-Some.length cells (omega (arith, n))) in
    subst (CellsKnown last) (sym items)
    (cells-append last cells (replicate c.args.count c.args.cell) h
    (cells-replicate last c.args.count c.args.cell le))
