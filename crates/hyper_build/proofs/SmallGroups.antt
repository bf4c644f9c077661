-- Saves, restores, arguments and parameters stand in small blocks.
use Rattle.std.proofs.Common.{◌≡◌, inl, inr, ℕ, zero, suc, ◌+◌, ◌≤◌, Bool, true, false, []}
use Rattle.std.proofs.Common.{List, ◌∷◌, ◌++◌, map, length, Option, Some, None, refl}
use Rattle.std.proofs.Common.{arith}
use Rattle.ir_forms.specs.declared.flat.Arg.{Arg}
use Rattle.ir_forms.specs.inside.HyperCode.{Block}
use Rattle.ir_forms.specs.inside.HyperFits.{items_in, ifs_in, tests_in, exits_in}
use Rattle.ir_forms.specs.inside.HyperRuns.{jump}
use Rattle.reg_assign.specs.inside.Live.{AreSmall}
use Rattle.hyper_build.specs.inside.Parts.{cut, chain, chain_blocks, moved, moved_blocks}
use Rattle.hyper_build.specs.inside.Passing.{saving, restoring, argument_moves, argument_cuts, result_then}
use Rattle.hyper_build.specs.inside.Passing.{parameter_moves, parameter_cuts}
use Rattle.hyper_build.specs.inside.Entries.{call_block}
use Rattle.hyper_build.specs.inside.Smallness.{TestsJump, IsLittle}

-- each of some blocks is little
abbrev pub AllLittle : List Block → Type 0
AllLittle [] = Unit {0}
AllLittle (b ∷ bs) = IsLittle b × AllLittle bs

-- little blocks behind little ones are little
pub little_append : (xs ys : List Block) → AllLittle xs → AllLittle ys → AllLittle (xs ++ ys)
little_append [] ys a b = b
little_append (x ∷ xs) ys a b = (a.0, little_append xs ys a.1 b)

-- at most n items, and an end of a small block
pub record Rest (n : ℕ) (b : Block) : Type 0 where
  pub items : items_in b.items ≤ n
  pub tests : ifs_in b.items + tests_in b.tail ≤ 1
  pub exits : exits_in b.tail ≤ 2
  pub plain : ifs_in b.items ≡ 0
  pub jumps : TestsJump b.tail

-- the rest of a small block with at most three items is little
pub little : (b : Block) → Rest 3 b → IsLittle b
little b r = inl (record {
  small = record { items = r.items; tests = r.tests; exits = r.exits };
  plain = r.plain;
  jumps = r.jumps;
})

-- a block with few items, tests and exits, and without an if, is little
pub simple : (b : Block) → items_in b.items ≤ 3 → ifs_in b.items + tests_in b.tail ≤ 1
    → exits_in b.tail ≤ 2 → ifs_in b.items ≡ 0 → TestsJump b.tail → IsLittle b
simple b i t e p j = little b (record { items = i; tests = t; exits = e; plain = p; jumps = j })

jump_rest : (l : ℕ) → Rest 0 (jump l)
jump_rest l = record { items = omega arith; tests = omega arith; exits = omega arith; plain = refl; jumps = tt }

-- a block that only jumps is little
pub little_jump : (l : ℕ) → IsLittle (jump l)
little_jump l = simple _ (omega arith) (omega arith) (omega arith) refl tt

-- GROUPS

-- the first block of saves of small groups is little, where the block behind them is
pub saves_little : (frame : ℕ) (gs : List (List ℕ)) (l : ℕ) (k : Block) → AreSmall gs → IsLittle k
    → IsLittle (chain true (map (saving frame) gs) l k)
saves_little frame [] l k a s = s
saves_little frame (g ∷ gs) l k a s =
    inr (inl (record { frame = frame; variables = g; to = l; few = a.0; is = inl refl }))

-- and so are the others
pub saves_all : (frame : ℕ) (gs : List (List ℕ)) (l : ℕ) (k : Block) → AreSmall gs → IsLittle k
    → AllLittle (chain_blocks true (map (saving frame) gs) l k)
saves_all frame [] l k a s = tt
saves_all frame (g ∷ gs) l k a s =
    (saves_little frame gs (l + 1) k a.1 s, saves_all frame gs (l + 1) k a.1 s)

-- the first block of restores of small groups is little, where the block behind them is
pub restores_little : (frame : ℕ) (gs : List (List ℕ)) (l : ℕ) (k : Block) → AreSmall gs → IsLittle k
    → IsLittle (chain true (map (restoring frame) gs) l k)
restores_little frame [] l k a s = s
restores_little frame (g ∷ gs) l k a s =
    inr (inl (record { frame = frame; variables = g; to = l; few = a.0; is = inr refl }))

-- and so are the others
pub restores_all : (frame : ℕ) (gs : List (List ℕ)) (l : ℕ) (k : Block) → AreSmall gs → IsLittle k
    → AllLittle (chain_blocks true (map (restoring frame) gs) l k)
restores_all frame [] l k a s = tt
restores_all frame (g ∷ gs) l k a s =
    (restores_little frame gs (l + 1) k a.1 s, restores_all frame gs (l + 1) k a.1 s)

-- the block that moves a result on is little
pub result_little : (to : Option ℕ) (l : ℕ) → IsLittle (result_then to (jump l))
result_little None l = little_jump l
result_little (Some v) l = simple _ (omega arith) (omega arith) (omega arith) refl tt

-- PASSING

-- the arguments of a call, three in a block
pub arguments_little : (xs : List Arg) (l f back : ℕ) → length xs ≤ 8
    → IsLittle (moved (argument_cuts true) 0 (argument_moves 0 xs) l (call_block f back))
    × AllLittle (moved_blocks (argument_cuts true) 0 (argument_moves 0 xs) l (call_block f back))
arguments_little [] l f back le = (simple _ (omega arith) (omega arith) (omega arith) refl tt, tt)
arguments_little (a ∷ []) l f back le = (simple _ (omega arith) (omega arith) (omega arith) refl tt, tt)
arguments_little (a ∷ b ∷ []) l f back le = (simple _ (omega arith) (omega arith) (omega arith) refl tt, tt)
arguments_little (a ∷ b ∷ c ∷ []) l f back le = (
  simple _ (omega arith) (omega arith) (omega arith) refl tt,
  (simple _ (omega arith) (omega arith) (omega arith) refl tt, tt),
)
arguments_little (a ∷ b ∷ c ∷ d ∷ []) l f back le = (
  simple _ (omega arith) (omega arith) (omega arith) refl tt,
  (simple _ (omega arith) (omega arith) (omega arith) refl tt, tt),
)
arguments_little (a ∷ b ∷ c ∷ d ∷ e ∷ []) l f back le = (
  simple _ (omega arith) (omega arith) (omega arith) refl tt,
  (simple _ (omega arith) (omega arith) (omega arith) refl tt, tt),
)
arguments_little (a ∷ b ∷ c ∷ d ∷ e ∷ g ∷ []) l f back le = (
  simple _ (omega arith) (omega arith) (omega arith) refl tt,
  (
    simple _ (omega arith) (omega arith) (omega arith) refl tt,
    (simple _ (omega arith) (omega arith) (omega arith) refl tt, tt),
  ),
)
arguments_little (a ∷ b ∷ c ∷ d ∷ e ∷ g ∷ h ∷ []) l f back le = (
  simple _ (omega arith) (omega arith) (omega arith) refl tt,
  (
    simple _ (omega arith) (omega arith) (omega arith) refl tt,
    (simple _ (omega arith) (omega arith) (omega arith) refl tt, tt),
  ),
)
arguments_little (a ∷ b ∷ c ∷ d ∷ e ∷ g ∷ h ∷ i ∷ []) l f back le = (
  simple _ (omega arith) (omega arith) (omega arith) refl tt,
  (
    simple _ (omega arith) (omega arith) (omega arith) refl tt,
    (simple _ (omega arith) (omega arith) (omega arith) refl tt, tt),
  ),
)
arguments_little (a ∷ b ∷ c ∷ d ∷ e ∷ g ∷ h ∷ i ∷ j ∷ xs) l f back le = absurd (omega (arith, le))

-- parameters, after two items of the way in
pub parameters_little : (small : Bool) (n l x : ℕ) (body : Block) → small ≡ true → n ≤ 8
    → Rest 1 (moved (parameter_cuts small) 0 (parameter_moves 0 n) l (cut small x body))
    × AllLittle (moved_blocks (parameter_cuts small) 0 (parameter_moves 0 n) l (cut small x body))
parameters_little false n l x body e le = absurd (cc e)
parameters_little true zero l x body e le =
    (record { items = omega arith; tests = omega arith; exits = omega arith; plain = refl; jumps = tt }, tt)
parameters_little true (suc zero) l x body e le = (
  record { items = omega arith; tests = omega arith; exits = omega arith; plain = refl; jumps = tt },
  (simple _ (omega arith) (omega arith) (omega arith) refl tt, tt),
)
parameters_little true (suc (suc zero)) l x body e le = (
  record { items = omega arith; tests = omega arith; exits = omega arith; plain = refl; jumps = tt },
  (simple _ (omega arith) (omega arith) (omega arith) refl tt, tt),
)
parameters_little true (suc (suc (suc zero))) l x body e le = (
  record { items = omega arith; tests = omega arith; exits = omega arith; plain = refl; jumps = tt },
  (simple _ (omega arith) (omega arith) (omega arith) refl tt, tt),
)
parameters_little true (suc (suc (suc (suc zero)))) l x body e le = (
  record { items = omega arith; tests = omega arith; exits = omega arith; plain = refl; jumps = tt },
  (
    simple _ (omega arith) (omega arith) (omega arith) refl tt,
    (simple _ (omega arith) (omega arith) (omega arith) refl tt, tt),
  ),
)
parameters_little true (suc (suc (suc (suc (suc zero))))) l x body e le = (
  record { items = omega arith; tests = omega arith; exits = omega arith; plain = refl; jumps = tt },
  (
    simple _ (omega arith) (omega arith) (omega arith) refl tt,
    (simple _ (omega arith) (omega arith) (omega arith) refl tt, tt),
  ),
)
parameters_little true (suc (suc (suc (suc (suc (suc zero)))))) l x body e le = (
  record { items = omega arith; tests = omega arith; exits = omega arith; plain = refl; jumps = tt },
  (
    simple _ (omega arith) (omega arith) (omega arith) refl tt,
    (simple _ (omega arith) (omega arith) (omega arith) refl tt, tt),
  ),
)
parameters_little true (suc (suc (suc (suc (suc (suc (suc zero))))))) l x body e le = (
  record { items = omega arith; tests = omega arith; exits = omega arith; plain = refl; jumps = tt },
  (
    simple _ (omega arith) (omega arith) (omega arith) refl tt,
    (
      simple _ (omega arith) (omega arith) (omega arith) refl tt,
      (simple _ (omega arith) (omega arith) (omega arith) refl tt, tt),
    ),
  ),
)
parameters_little true (suc (suc (suc (suc (suc (suc (suc (suc zero)))))))) l x body e le = (
  record { items = omega arith; tests = omega arith; exits = omega arith; plain = refl; jumps = tt },
  (
    simple _ (omega arith) (omega arith) (omega arith) refl tt,
    (
      simple _ (omega arith) (omega arith) (omega arith) refl tt,
      (simple _ (omega arith) (omega arith) (omega arith) refl tt, tt),
    ),
  ),
)
parameters_little true (suc (suc (suc (suc (suc (suc (suc (suc (suc n))))))))) l x body e le =
    absurd (omega (arith, le))
