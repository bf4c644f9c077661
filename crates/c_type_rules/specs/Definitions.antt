-- Which definition of the unit a call of a name calls (C17 6.9).
use Rattle.std.specs.Prelude.{ℕ, List, [], ◌∷◌, Option, Some, None}
use Rattle.c_tree.specs.declared.token.Kind.{Kind}
use Rattle.c_tree.specs.declared.tree.Param.{Param}
use Rattle.c_tree.specs.declared.tree.Stmt.{Stmt}
use Rattle.c_tree.specs.declared.tree.Top.{Top}
use Rattle.c_tree.specs.declared.tree.TopNode.{TopNode}
use Rattle.c_tree.specs.declared.tree.TopNode.TheVariants.{Include, Func}
use Rattle.c_tree.specs.declared.typed.Callee.{Callee}
use Rattle.c_tree.specs.declared.typed.Callee.TheVariants as callee
use Rattle.c_type.specs.FileScopes.{getchar_name, putchar_name, exit_name, count_after}

-- Behind n definitions of functions the item defines the name: a definition is the unit's n-th,
-- counted from 0, and the include stands for definitions of its three functions.
pub data Defines (n : ℕ) : TopNode → List ℕ → Callee → Type 0 where
  function : {given : Option Kind} {w : List ℕ} {params : List Param} {body : Stmt}
      → Defines n (Func given w params (Some body)) w (callee.Func n)
  input : Defines n Include getchar_name callee.GetChar
  output : Defines n Include putchar_name callee.PutChar
  exit : Defines n Include exit_name callee.Exit

-- Behind n definitions of functions these items define w as the callee, or not at all. Of two
-- definitions of one name, which no accepted unit has, the later one counts.
pub data Calls (w : List ℕ) : ℕ → List Top → Option Callee → Type 0 where
  no_item : {n : ℕ} → Calls w n [] None
  defined : {n : ℕ} {t : Top} {ts : List Top} {c : Callee} → Defines n t.node w c
      → Calls w (count_after t.node n) ts None → Calls w n (t ∷ ts) (Some c)
  defined_later : {n : ℕ} {t : Top} {ts : List Top} {c : Callee}
      → Calls w (count_after t.node n) ts (Some c) → Calls w n (t ∷ ts) (Some c)
  not_defined : {n : ℕ} {t : Top} {ts : List Top} → ((c : Callee) → Defines n t.node w c → ⊥)
      → Calls w (count_after t.node n) ts None → Calls w n (t ∷ ts) None

-- what a call of w calls in a unit of these items
abbrev pub CallsIn : List Top → List ℕ → Option Callee → Type 0
CallsIn unit w c = Calls w 0 unit c
