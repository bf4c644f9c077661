-- That a plan changes nothing but what calls keep.
use Rattle.std.specs.Prelude.{◌≡◌, ℕ}
use Rattle.ir_forms.specs.inside.FlatCode.{Code}
use Rattle.reg_assign.specs.inside.Keeps.{keeping}
use Rattle.hyper_build.specs.inside.Tree.{Plan, plain, annotated, is_saved}

-- annotated code is, without its annotations, the code whose calls keep what they save
abbrev pub PlainClaim : Type 0
PlainClaim =
    (p : Plan) (i k : ℕ) (c : Code)
    → plain (annotated p i k c) ≡ keeping (λ n. is_saved (p.groups n)) k c
