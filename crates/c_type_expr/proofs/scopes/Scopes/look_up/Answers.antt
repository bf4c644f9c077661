use Rattle.std.proofs.Common.{sym, ap, ◌∙◌, ◌<◌, List, Some, arith, reverse, length}
use Rattle.c_type_expr.specs.declared.meaning.Entry.{Entry}
use Rattle.c_type_expr.specs.Scope.{Scope, look_up}
use Rattle.c_type_expr.specs.inside.Frames.{place_in}
use Rattle.c_type_expr.proofs.Names.{look_none, look_within, look_some}
use Rattle.c_type_expr.proofs.scopes.Scopes.look_up.Goals as goal

pub index-requires : goal.index-requires
index-requires c =
    let lt : c.in-Some.at < length c.self.inside.entries.items =
    look_within (reverse c.self.inside.starts.items) c.self.inside.entries.items
    c.args.name.now c.in-Some.at
    (sym (c.in-Some.ensures
    ∙ ap (λ (es : List Entry). place_in (reverse es) c.args.name.now) c.deref.ensures.value)) in
    omega (arith, lt, c.self.inside.entries.ok.0)

pub returns-in-Some : goal.returns-in-Some
returns-in-Some c =
    ap (λ (e : Entry). Some e.binding.meaning) c.index.ensures
    ∙ sym (look_some (reverse c.self.inside.starts.items) c.self.inside.entries.items
    c.args.name.now c.in-Some.at c.index.result.now
    (sym (c.in-Some.ensures
    ∙ ap (λ (es : List Entry). place_in (reverse es) c.args.name.now) c.deref.ensures.value)))
    ∙ ap (λ (G : Scope). look_up G c.args.name.now) c.self.view_is

pub returns-in-None : goal.returns-in-None
returns-in-None c =
    sym (look_none (reverse c.self.inside.starts.items) c.self.inside.entries.items c.args.name.now
    (sym (c.in-None.ensures
    ∙ ap (λ (es : List Entry). place_in (reverse es) c.args.name.now) c.deref.ensures.value)))
    ∙ ap (λ (G : Scope). look_up G c.args.name.now) c.self.view_is
