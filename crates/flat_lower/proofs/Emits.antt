-- Code that is added to code.
use Rattle.std.proofs.Common.{◌≡◌, List, [], ◌∷◌, ◌++◌, refl, sym, ap, ◌∙◌, subst}
use Rattle.ir_forms.specs.declared.flat.FlatStmt.{FlatStmt}
use Rattle.ir_forms.specs.inside.FlatCode.{Code, Nop, ◌▹◌, Then, only}
use Rattle.ir_forms.specs.inside.FlatViews.{step_of, code_of}
use Rattle.ir_forms.proofs.Views.{code_append, step_let, step_frame, step_load, step_save}
use Rattle.ir_forms.proofs.Views.{step_call, step_put, step_get, step_if, step_loop, step_break}
use Rattle.ir_forms.proofs.Views.{step_continue, step_return, step_halt}
use Rattle.flat_lower.specs.inside.Emitted.{Adds}

-- the order of three pieces
pub then_then : (a b c : Code) → Then (Then a b) c ≡ Then a (Then b c)
then_then Nop b c = refl
then_then (s ▹ a) b c = ap (λ x. s ▹ x) (then_then a b c)

-- nothing behind code
pub then_nop : (a : Code) → Then a Nop ≡ a
then_nop Nop = refl
then_nop (s ▹ a) = ap (λ x. s ▹ x) (then_nop a)

-- a statement that is pushed
pub pushed : (a : List FlatStmt) (s : FlatStmt) → Adds a (a ++ s ∷ []) (only (step_of s))
pushed a s = record { is = code_append a (s ∷ []) }

-- nothing is added
pub nothing : (a : List FlatStmt) → Adds a a Nop
nothing a = record { is = sym (then_nop (code_of a)) }

-- one piece after another
pub two : {a b c : List FlatStmt} {x y : Code} → Adds a b x → Adds b c y → Adds a c (Then x y)
two {a = a} {x = x} {y = y} e f = record {
  is = f.is ∙ ap (λ z. Then z y) e.is
      ∙ then_then (code_of a) x y;
}

-- the same code
pub turned : {a b : List FlatStmt} (x y : Code) → x ≡ y → Adds a b x → Adds a b y
turned {a = a} {b = b} x y e h = subst (Adds a b) e h

-- from nothing
pub whole : (a b : List FlatStmt) (x : Code) → a ≡ [] → Adds a b x → code_of b ≡ x
whole a b x h e = e.is ∙ ap (λ l. Then (code_of l) x) h

-- what each declared statement is
pub ruleset steps = (
  step_let,
  step_frame,
  step_load,
  step_save,
  step_call,
  step_put,
  step_get,
  step_if,
  step_loop,
  step_break,
  step_continue,
  step_return,
  step_halt,
)
