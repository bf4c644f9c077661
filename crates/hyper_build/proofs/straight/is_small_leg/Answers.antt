use Rattle.std.proofs.Common.{◌≡◌, true, false, List, [], ◌∷◌, length, refl, sym, ap, ◌∙◌}
use Rattle.std.specs.Prelude.{◌==◌}
use Rattle.ir_forms.specs.declared.flat.FlatStmt.{FlatStmt}
use Rattle.ir_forms.specs.inside.FlatCode.{Step, Let, Code, ◌▹◌}
use Rattle.ir_forms.specs.inside.FlatFits.{is_small_leg}
use Rattle.ir_forms.specs.inside.FlatViews.{code_of, step_of}
use Rattle.hyper_build.proofs.straight.is_small_leg.Goals as goal

-- two statements or more are too many
two_are_many : (x y : Step) (c : Code) → false ≡ is_small_leg (x ▹ (y ▹ c))
two_are_many (Let to op a b) y c = refl
two_are_many _ y c = refl

more_are_many : (s : FlatStmt) (rest : List FlatStmt) → (length rest == 0) ≡ false
    → false ≡ is_small_leg (code_of (s ∷ rest))
more_are_many s [] h = let bad : true ≡ false = h in cc
more_are_many s (t ∷ more) h = two_are_many (step_of s) (step_of t) (code_of more)

pub returns-else-is_empty : goal.returns-else-is_empty
returns-else-is_empty c =
    let s = c.in-Some.parts.0.now in
    let rest = c.in-Some.parts.1.now in
    more_are_many s rest (sym c.is_empty.ensures ∙ c.if-is_empty.false)
    ∙ ap (λ (xs : List FlatStmt). is_small_leg (code_of xs)) (sym c.in-Some.ensures.cases.0)
