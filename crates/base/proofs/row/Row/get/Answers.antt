use Rattle.std.proofs.Common.{◌+◌, None, length, get_or, ap, sym, ◌∙◌, arith}
use Rattle.base.proofs.RowFacts.{item_there, item_gone, item_past, length_row}
use Rattle.base.proofs.row.Row.get.Goals as goal
use Rattle.base.proofs.row.Row.get.Goals.{else-has-via-then-has+else-q, else-has-via-else-has}

pub returns-then-q-clause-value : goal.returns-then-q-clause-value
returns-then-q-clause-value g c =
    item_there g.row.N c.self.inside.there c.self.inside.items c.args.q c.index-items-q.result (omega arith)
    c.self.invariant.1 c.if-has.ensures.value
    ∙ ap (λ z. get_or z c.args.q None) c.self.view_is

pub returns-then-q-clause-size : goal.returns-then-q-clause-size
returns-then-q-clause-size g c = ap length (sym c.self.view_is)
    ∙ length_row g.row.N c.self.inside.there c.self.inside.items

pub returns-else-has-clause-value : goal.returns-else-has-clause-value
returns-else-has-clause-value g c = elim c.else-has.branch [
  | else-has-via-then-has+else-q w ↦
      item_past g.row.N c.self.inside.there c.self.inside.items c.args.q w.if-q.false
      ∙ ap (λ z. get_or z c.args.q None) c.self.view_is
  | else-has-via-else-has w ↦
      item_gone g.row.N c.self.inside.there c.self.inside.items c.args.q w.if-has.ensures.value
      ∙ ap (λ z. get_or z c.args.q None) c.self.view_is
]

pub returns-else-has-clause-size : goal.returns-else-has-clause-size
returns-else-has-clause-size g c = ap length (sym c.self.view_is)
    ∙ length_row g.row.N c.self.inside.there c.self.inside.items
