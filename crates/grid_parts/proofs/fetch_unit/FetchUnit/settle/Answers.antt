use Rattle.std.proofs.Common.{Some, None, sym, ap, ◌∙◌, arith}
use Rattle.grid_cycle_spec.specs.Acting.{still}
use Rattle.grid_parts.proofs.FetchUnitFacts.{stops, stays, stays_unknown}
use Rattle.grid_parts.proofs.fetch_unit.FetchUnit.settle.Goals as goal

pub returns-then-block-self : goal.returns-then-block-self
returns-then-block-self c =
    stops c.self.inside.busy c.self.inside.left c.self.inside.block c.self.inside.history c.self.inside.careful
    c.in-Some.block (omega arith)
    ∙ ap (still (Some c.in-Some.block)) c.self.view_is ∙ ap (λ k. still k c.args.self.now) (sym c.in-Some.is)

pub returns-else-block-self : goal.returns-else-block-self
returns-else-block-self c =
    sym c.self.view_is
    ∙ stays c.self.inside.busy c.self.inside.left c.self.inside.block c.self.inside.history c.self.inside.careful
    c.in-Some.block (omega arith)
    ∙ ap (still (Some c.in-Some.block)) c.self.view_is ∙ ap (λ k. still k c.args.self.now) (sym c.in-Some.is)

pub returns-in-None : goal.returns-in-None
returns-in-None c =
    sym c.self.view_is
    ∙ stays_unknown c.self.inside.busy c.self.inside.left c.self.inside.block c.self.inside.history
    c.self.inside.careful
    ∙ ap (still None) c.self.view_is ∙ ap (λ k. still k c.args.self.now) (sym c.in-None.is)
