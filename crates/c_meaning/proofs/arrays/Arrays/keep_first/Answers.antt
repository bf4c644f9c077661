use Rattle.std.proofs.Common.{◌<◌, ◌≤◌, length, subst, sym, arith, List}
use Rattle.c_meaning.specs.inside.Cells.{IsLaid}
use Rattle.c_meaning.specs.declared.arrays.Span.{Span}
use Rattle.c_meaning.proofs.Lays.{laid-kept, rows-kept, rows-all}
use Rattle.c_meaning.proofs.arrays.Arrays.keep_first.Goals as goal

pub invariant_of-self : goal.invariant_of-self
invariant_of-self c =
    let lt : c.args.count < length c.self.inside.spans.items = omega arith in
    subst (λ (spans : List Span). IsLaid spans c.self.inside.cells.items c.index.result.now.start
    c.self.inside.last) (sym c.truncate.ensures.items)
    (laid-kept c.args.count c.self.inside.spans.items c.self.inside.cells.items c.self.inside.used
    c.self.inside.last c.index.result.now lt c.index.ensures c.self.invariant)

pub returns-then-count-len : goal.returns-then-count-len
returns-then-count-len c = record {
  value = rows-kept c.args.count c.self.inside.spans.items c.self.inside.cells.items
      c.truncate.new.self.items c.args.self.now c.truncate.ensures.items c.self.view_is;
}

pub returns-else-count-len : goal.returns-else-count-len
returns-else-count-len c =
    let le : length c.self.inside.spans.items ≤ c.args.count = omega arith in record {
      value = rows-all c.args.count c.self.inside.spans.items c.self.inside.cells.items
          c.args.self.now le c.self.view_is;
    }
