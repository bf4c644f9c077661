-- Small ifs of code that is put together.
use Rattle.std.proofs.Common.{◌≡◌, ℕ, ◌+◌, ◌≤◌, Bool, true, false, refl, sym, ap, ap₂, subst, arith}
use Rattle.std.specs.Prelude.{cond, ◌&&◌, Option, Some}
use Rattle.trips_isa.specs.declared.op.Op.TheVariants as op
use Rattle.ir_forms.specs.declared.flat.Arg.{Arg}
use Rattle.ir_forms.specs.declared.flat.Arg.TheVariants.{Const}
use Rattle.ir_forms.specs.inside.FlatCode.{Let, Code, Nop, ◌▹◌, Then, only}
use Rattle.ir_forms.specs.inside.FlatFits.{small_if, small_ifs}
use Rattle.flat_lower.specs.inside.Statements.{set_or}

-- Code in two parts has the small ifs of both.
pub then_small : (a b : Code) → small_ifs (Then a b) ≡ small_ifs a + small_ifs b
then_small Nop b = omega arith
then_small (s ▹ a) b = let h = then_small a b in omega (arith, h)

-- one statement, which sets a scalar
pub record IsSet (x : Code) : Type 0 where
  pub to : ℕ
  pub value : Arg
  pub same : x ≡ only (Let to op.Mov value (Const 0))

-- where scalar and value are known, the code of an assignment is such a statement
pub set_known : (to : Option ℕ) (a : Option Arg) (long : Code) (i : ℕ) (b : Arg) → to ≡ Some i → a ≡ Some b
    → IsSet (set_or to a long)
set_known to a long i b e f = record {
  to = i;
  value = b;
  same = ap₂ (λ (t : Option ℕ) (v : Option Arg). set_or t v long) e f;
}

-- with nothing behind it, too
pub set_then : (x : Code) → IsSet x → IsSet (Then x Nop)
set_then x s = record { to = s.to; value = s.value; same = ap (λ (c : Code). Then c Nop) s.same }

-- an if without an else is small where its leg is such a statement
pub one_leg : (m : Bool) (a : Code) → (m ≡ true → IsSet a) → cond (m && true) 1 0 ≤ small_if a Nop
one_leg true a f =
    let s = f refl in subst (λ (x : Code). 1 ≤ small_if x Nop) (sym s.same) (omega arith)
one_leg false a f = omega arith

-- and one with an else where both are
pub two_legs : (m n : Bool) (a b : Code) → (m ≡ true → IsSet a) → (n ≡ true → IsSet b)
    → cond (m && n) 1 0 ≤ small_if a b
two_legs true true a b f g =
    let s = f refl in
    let t = g refl in
    subst (λ (x : Code). 1 ≤ small_if x b) (sym s.same)
    (subst (λ (y : Code). 1 ≤ small_if (only (Let s.to op.Mov s.value (Const 0))) y) (sym t.same)
    (omega arith))
two_legs true false a b f g = omega arith
two_legs false true a b f g = omega arith
two_legs false false a b f g = omega arith
