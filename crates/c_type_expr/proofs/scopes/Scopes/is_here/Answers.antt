use Rattle.std.proofs.Common.{sym, ap, ◌∙◌, List, ℕ, subst, reverse}
use Rattle.std.specs.Prelude.{nat_le}
use Rattle.std.proofs.lemmas.List.{length-reverse}
use Rattle.c_type_expr.specs.declared.meaning.Entry.{Entry}
use Rattle.c_type_expr.specs.Scope.{Scope, is_here}
use Rattle.c_type_expr.specs.inside.Frames.{StartsFit, first_start, place_in}
use Rattle.c_type_expr.proofs.Names.{here_is, not_here}
use Rattle.c_type_expr.proofs.scopes.Scopes.is_here.Goals as goal

pub returns-in-Some : goal.returns-in-Some
returns-in-Some c =
    ap (λ (s : ℕ). nat_le s c.in-Some.at)
    (c.last_start-start.ensures ∙ ap (λ (l : List ℕ). first_start (reverse l))
    c.deref.ensures.value)
    ∙ here_is (reverse c.self.inside.starts.items)
    (reverse c.self.inside.entries.items) c.args.name.now c.in-Some.at
    (subst (StartsFit (reverse c.self.inside.starts.items))
    (sym (length-reverse c.self.inside.entries.items)) c.self.invariant.1)
    (sym (c.in-Some.ensures
    ∙ ap (λ (es : List Entry). place_in (reverse es) c.args.name.now) c.deref-2.ensures.value))
    ∙ ap (λ (G : Scope). is_here G c.args.name.now) c.self.view_is

pub returns-in-None : goal.returns-in-None
returns-in-None c =
    not_here (reverse c.self.inside.starts.items)
    (reverse c.self.inside.entries.items) c.args.name.now
    (sym (c.in-None.ensures
    ∙ ap (λ (es : List Entry). place_in (reverse es) c.args.name.now) c.deref-2.ensures.value))
    ∙ ap (λ (G : Scope). is_here G c.args.name.now) c.self.view_is
