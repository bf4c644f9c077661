use Rattle.std.proofs.Common.{◌≡◌, ◌∙◌, ap, reverse, Result, Ok, Err}
use Rattle.std.specs.Prelude.{OnErr}
use Rattle.c_type_expr.specs.Scope.{Scope, declared_in, bound, frames}
use Rattle.c_type_expr.proofs.Names.{added, same_blocks}
use Rattle.c_type_expr.proofs.scopes.Scopes.declare.Goals as goal

pub invariant_of-self-2 : goal.invariant_of-self-2
invariant_of-self-2 c = (
  c.in_ok-add.ensures.kept,
  (added (reverse c.self.inside.starts.items) c.self.inside.entries.items c.add.new.entries.items _
      c.self.invariant.1 c.in_ok-add.ensures.ok).1,
)

pub returns-clause-ok : goal.returns-clause-ok
returns-clause-ok c =
    (added (reverse c.self.inside.starts.items) c.self.inside.entries.items
    c.add.new.entries.items _ c.self.invariant.1 c.in_ok-add.ensures.ok).0
    ∙ ap (λ (G : Scope). declared_in (bound c.args.name c.args.meaning) G) c.self.view_is

on_err : {T E P : Type 0} (r : Result T E) → P → OnErr r P
on_err (Ok x) p = tt
on_err (Err e) p = p

pub returns-in_err-add-clause-err : goal.returns-in_err-add-clause-err
returns-in_err-add-clause-err c =
    let same : frames (reverse c.self.inside.starts.items) (reverse c.add.new.entries.items)
    ≡ c.args.self.now =
    same_blocks (reverse c.self.inside.starts.items) (reverse c.self.inside.entries.items)
    (reverse c.add.new.entries.items) c.in_err-add.ensures.err ∙ c.self.view_is in
    on_err c.from_residual.result same
