-- A name that a `typedef` declares, before what follows it.
use Rattle.std.proofs.Common.{◌≡◌, Bool, true, false, cond, not, [], ◌∷◌, None, refl, sym, ap, ◌∙◌}
use Rattle.c_tree.specs.declared.Lexeme.{Lexeme}
use Rattle.c_lex.specs.Lexes.{Tokens}
use Rattle.c_names.specs.Enums.{may_name, names_from}
use Rattle.c_names.specs.Pieces.{Pieces}
use Rattle.c_names.specs.Scope.{Scope, declared}
use Rattle.c_names.specs.inside.Separated.{names_past, marks_from}

declared_there : (es : Scope) (ws : Pieces) (n : Lexeme) (ts : Tokens) → may_name n.form ws es ≡ true
    → marks_from (declared n.form ws es) ws ts ≡ names_from es ws (n ∷ ts)
declared_there es ws n [] e = refl
declared_there es ws n (m ∷ ts) e =
    ap (λ (b : Bool). cond (not b) None (names_past (declared n.form ws es) ws m.form ts)) (sym e)

-- where it may be declared
pub declared_is : (es es' : Scope) (ws : Pieces) (n : Lexeme) (ts : Tokens) → may_name n.form ws es ≡ true
    → es' ≡ declared n.form ws es → marks_from es' ws ts ≡ names_from es ws (n ∷ ts)
declared_is es es' ws n ts e h = ap (λ (xs : Scope). marks_from xs ws ts) h ∙ declared_there es ws n ts e

-- and where not
pub not_free : (es : Scope) (ws : Pieces) (n : Lexeme) (ts : Tokens) → may_name n.form ws es ≡ false
    → None ≡ names_from es ws (n ∷ ts)
not_free es ws n [] e = refl
not_free es ws n (m ∷ ts) e =
    ap (λ (b : Bool). cond (not b) None (names_past (declared n.form ws es) ws m.form ts)) (sym e)
