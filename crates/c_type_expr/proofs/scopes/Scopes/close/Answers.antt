use Rattle.std.proofs.Common.{◌∙◌, ap}
use Rattle.c_type_expr.specs.Scope.{Scope, closed}
use Rattle.c_type_expr.proofs.Names.{close_to}
use Rattle.c_type_expr.proofs.scopes.Scopes.close.Goals as goal

pub returns-in-Some : goal.returns-in-Some
returns-in-Some c =
    (close_to c.in-Some.start c.self.inside.starts.items c.pop.new.self.items
    c.self.inside.entries.items c.unwind.new.entries.items c.in-Some.ensures.items
    c.self.invariant.1 c.unwind.ensures.cut).0
    ∙ ap (λ (G : Scope). closed G) c.self.view_is
