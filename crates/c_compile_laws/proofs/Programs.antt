-- The small ifs of whole programs.
use Rattle.std.proofs.Common.{ℕ, suc, ◌≤◌, List, [], ◌∷◌, map, arith}
use Rattle.std.specs.Prelude.{nat_eq}
use Rattle.c_tree.specs.declared.TypedFunc.{TypedFunc}
use Rattle.c_tree.specs.declared.TypedGlobal.{TypedGlobal}
use Rattle.ir_forms.specs.inside.FlatFits.{small_ifs_of_all}
use Rattle.flat_lower.specs.inside.TreeViews.{stmt_of, func_of}
use Rattle.flat_lower.specs.declared.around.Around.TheVariants.{Nowhere}
use Rattle.flat_lower.specs.inside.Statements.{stmt_code, end_code, context_of, lowered_from, lowered}
use Rattle.flat_lower.specs.inside.Statements.{lowered_program}
use Rattle.c_compile_laws.specs.PlainIfs.{ifs_of_funcs}
use Rattle.c_compile_laws.specs.inside.PlainLaws.{LowersPlainIfs, AssignsPlainIfs}
use Rattle.c_compile_laws.proofs.SmallIfs.{then_small}
use Rattle.c_compile_laws.proofs.Statements.{shows}
use Rattle.c_compile_laws.proofs.Kept.{assigns_small}

module _ (globals : List TypedGlobal) (main : ℕ) where
  functions_show : (n : ℕ) (fs : List TypedFunc)
      → ifs_of_funcs fs ≤ small_ifs_of_all (lowered_from globals main n (map func_of fs))
  functions_show n [] = omega arith
  functions_show n (f ∷ fs) =
      let h = (shows (context_of globals (func_of f)) f.body Nowhere).ifs in
      let w = then_small (stmt_code (context_of globals (func_of f)) Nowhere (stmt_of f.body))
      (end_code (nat_eq n main)) in
      let rest = functions_show (suc n) fs in
      omega (arith, h, w, rest)

-- each plain if becomes a small one
pub lowers_plain : LowersPlainIfs
unfolding lowered
lowers_plain P = functions_show P.globals P.main 0 P.functions

-- each plain if is a small one of the program whose calls keep what the lists say
pub assigns_plain : AssignsPlainIfs
assigns_plain P lists =
    let a = lowers_plain P in
    let b = assigns_small (lowered_program P) lists in
    omega (arith, a, b)
