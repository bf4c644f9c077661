-- What the code of a statement has of small ifs, by what the codes of its parts have.
use Rattle.std.proofs.Common.{◌≡◌, ℕ, ◌+◌, ◌≤◌, true, Option, Some, None}
use Rattle.std.proofs.Common.{arith}
use Rattle.std.specs.Prelude.{cond, ◌&&◌}
use Rattle.ir_forms.specs.declared.flat.Arg.TheVariants.{Var}
use Rattle.ir_forms.specs.inside.FlatCode.{Code, Nop, Then, only}
use Rattle.ir_forms.specs.inside.FlatCode as flat
use Rattle.ir_forms.specs.inside.FlatFits.{small_ifs}
use Rattle.flat_lower.specs.inside.Tree.{Expr, Stmt, If, While, Do, For}
use Rattle.flat_lower.specs.inside.Tree.{NoStmts, WithStmt, First, Switch, Sections}
use Rattle.flat_lower.specs.inside.Operations.{temp, set_word}
use Rattle.flat_lower.specs.inside.Objects.{Context}
use Rattle.flat_lower.specs.inside.Expressions.{expr_code}
use Rattle.flat_lower.specs.inside.Statements.{if_so, turn_code, loop_code, do_code, stmt_code, first_code}
use Rattle.flat_lower.specs.inside.Statements.{sections_code}
use Rattle.flat_lower.specs.inside.Switches.{in_switch, break_code, section_code, chosen_code, behind_code}
use Rattle.flat_lower.specs.inside.Switches.{switched_code}
use Rattle.flat_lower.specs.declared.around.Around.{Around}
use Rattle.flat_lower.specs.declared.around.Around.TheVariants as around
use Rattle.c_compile_laws.specs.PlainIfs.{Counted, no_leg}
use Rattle.c_compile_laws.proofs.SmallIfs.{IsSet, then_small, set_then, one_leg, two_legs}
use Rattle.c_compile_laws.proofs.PlainAssignments.{not_so}

-- what is counted of a statement is found in its code
pub record Shows (c : Context) (a : Around) (n : Counted) (x : Stmt) : Type 0 where
  pub ifs : n.ifs ≤ small_ifs (stmt_code c a x)
  pub alone : n.alone ≡ true → IsSet (stmt_code c a x)
  pub leg : n.leg ≡ true → IsSet (stmt_code c a x)

module _ (c : Context) where
  -- of a statement that is no leg only ifs are
  pub unfit : (a : Around) (n : ℕ) (x : Stmt) → n ≤ small_ifs (stmt_code c a x) → Shows c a (no_leg n) x
  unfit a n x h = record { ifs = h; alone = λ e. absurd (not_so e); leg = λ e. absurd (not_so e) }

  -- IFS

  -- the code of an if without a second leg has the small ifs of its leg, and itself where it is one
  pub if_alone : (a : Around) (m : Counted) (t : Expr) (x : Stmt) → Shows c a m x
      → cond (m.leg && true) 1 0 + (m.ifs + 0) ≤ small_ifs (stmt_code c a (If t x NoStmts))
  if_alone a m t x s =
      let i = s.ifs in
      let h = one_leg m.leg (stmt_code c a x) s.leg in
      let w = then_small (expr_code c 0 t) (only (flat.If (Var (temp 0)) (stmt_code c a x) Nop)) in
      omega (arith, i, h, w)

  -- the code of an if has the small ifs of both legs, and itself where it is one
  pub if_else : (a : Around) (m n : Counted) (t : Expr) (x y : Stmt) → Shows c a m x → Shows c a n y
      → cond (m.leg && n.leg) 1 0 + (m.ifs + n.ifs) ≤
      small_ifs (stmt_code c a (If t x (WithStmt y NoStmts)))
  if_else a m n t x y s u =
      let i = s.ifs in
      let j = u.ifs in
      let h = two_legs m.leg n.leg (stmt_code c a x) (Then (stmt_code c a y) Nop) s.leg
      (λ e. set_then (stmt_code c a y) (u.leg e)) in
      let v = then_small (stmt_code c a y) Nop in
      let w = then_small (expr_code c 0 t)
      (only (flat.If (Var (temp 0)) (stmt_code c a x) (Then (stmt_code c a y) Nop))) in
      omega (arith, i, j, h, v, w)

  -- LOOPS

  pub turn_keeps : (t : Option Expr) (body : Code) → small_ifs body ≤ small_ifs (turn_code c t body)
  turn_keeps None body = omega arith
  turn_keeps (Some t) body = let h = then_small (expr_code c 0 t) (if_so body) in omega (arith, h)

  pub loop_keeps : (test post : Option Expr) (body : Code)
      → small_ifs body ≤ small_ifs (loop_code c test post body)
  loop_keeps test post body = let h = turn_keeps test body in omega (arith, h)

  pub do_keeps : (t : Expr) (body : Code) → small_ifs body ≤ small_ifs (do_code c t body)
  do_keeps t body =
      let h = then_small (set_word (temp 0) 1) (only (flat.Loop (if_so body) (expr_code c 0 t))) in
      omega (arith, h)

  -- the code of a `for` has the small ifs of its first part and its body
  pub for_keeps : (a : Around) (n : ℕ) (m : Counted) (first : First) (test post : Option Expr) (x : Stmt)
      → n ≤ small_ifs (first_code c a first) → Shows c around.Loop m x
      → n + m.ifs ≤ small_ifs (stmt_code c a (For first test post x))
  for_keeps a n m first test post x i s =
      let b = s.ifs in
      let h = loop_keeps test post (stmt_code c around.Loop x) in
      let w = then_small (first_code c a first) (loop_code c test post (stmt_code c around.Loop x)) in
      omega (arith, i, b, h, w)

  -- the code of a `while` has the small ifs of its body
  pub while_keeps : (a : Around) (m : Counted) (t : Expr) (x : Stmt) → Shows c around.Loop m x
      → m.ifs ≤ small_ifs (stmt_code c a (While t x))
  while_keeps a m t x s =
      let b = s.ifs in
      let h = loop_keeps (Some t) None (stmt_code c around.Loop x) in
      omega (arith, b, h)

  -- the code of a `do` loop has the small ifs of its body
  pub do_shows : (a : Around) (m : Counted) (t : Expr) (x : Stmt) → Shows c around.Loop m x
      → m.ifs ≤ small_ifs (stmt_code c a (Do x t))
  do_shows a m t x s =
      let b = s.ifs in
      let h = do_keeps t (stmt_code c around.Loop x) in
      omega (arith, b, h)

  -- SWITCHES

  -- the statements of a section stand in the leg that runs it
  pub section_keeps : (k : ℕ) (body : Code) → small_ifs body ≤ small_ifs (section_code k body)
  section_keeps k body = let h = then_small body (set_word (temp 0) 0) in omega (arith, h)

  -- and all sections in the second loop
  pub switched_keeps : (a : Around) (xs : Sections) (body : Code)
      → small_ifs body ≤ small_ifs (switched_code a xs body)
  switched_keeps a xs body =
      let h = then_small body (break_code (in_switch a)) in
      let r = only (flat.Loop (Then body (break_code (in_switch a))) Nop) in
      let v = then_small r (behind_code a) in
      let w = then_small (chosen_code xs) (Then r (behind_code a)) in
      omega (arith, h, v, w)

  -- the code of a switch has the small ifs of its sections
  pub switch_keeps : (a : Around) (n : ℕ) (t : Expr) (xs : Sections)
      → n ≤ small_ifs (sections_code c (in_switch a) 0 xs)
      → n ≤ small_ifs (stmt_code c a (Switch t xs))
  switch_keeps a n t xs i =
      let h = switched_keeps a xs (sections_code c (in_switch a) 0 xs) in
      let w = then_small (expr_code c 0 t) (switched_code a xs (sections_code c (in_switch a) 0 xs)) in
      omega (arith, i, h, w)
