use Rattle.std.proofs.Common.{◌≡◌, ℕ, true, false, List, [], ◌∷◌, length, None, refl}
use Rattle.std.proofs.Common.{sym, ap, ◌∙◌}
use Rattle.std.specs.Prelude.{◌==◌}
use Rattle.ir_forms.specs.declared.flat.FlatStmt.{FlatStmt}
use Rattle.ir_forms.specs.inside.FlatViews.{code_of}
use Rattle.hyper_build.specs.inside.BackwardCode.{exit_of}
use Rattle.hyper_build.proofs.exits.exit_of.Goals as goal

-- two statements or more have blocks
exit_more : (join broke again : ℕ) (s : FlatStmt) (rest : List FlatStmt)
    → (length rest == 0) ≡ false → None ≡ exit_of join broke again (code_of (s ∷ rest))
exit_more join broke again s [] h = let bad : true ≡ false = h in cc
exit_more join broke again s (t ∷ more) h = refl

pub returns-else-is_empty : goal.returns-else-is_empty
returns-else-is_empty c =
    let s = c.in-Some.parts.0.now in
    let rest = c.in-Some.parts.1.now in
    exit_more c.args.join c.args.broke c.args.again s rest
    (sym c.is_empty.ensures ∙ c.if-is_empty.false)
    ∙ ap (λ (xs : List FlatStmt). exit_of c.args.join c.args.broke c.args.again (code_of xs))
    (sym c.in-Some.ensures.cases.0)
