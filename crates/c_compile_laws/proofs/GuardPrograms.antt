-- The guards of all blocks of a program.
use Rattle.std.proofs.Common.{◌≡◌, ℕ, suc, ◌+◌, ◌≤◌, List, [], ◌∷◌, length, Some, slice_get, refl, ap₂, arith}
use Rattle.trips_isa.specs.declared.block.Block.{Block as MachineBlock}
use Rattle.hyper_narrow.specs.inside.NarrowedCode.{Narrowed, bare}
use Rattle.ir_forms.specs.inside.HyperFits.{filled_ifs, filled_in}
use Rattle.c_compile_layout.specs.inside.Linking.{by_both, linked_from}
use Rattle.c_compile_laws.specs.Counts.{guarded_insts, guarded_in}
use Rattle.c_compile_laws.specs.inside.GuardLaws.{ProgramsGuarded}
use Rattle.c_compile_laws.proofs.Targets.{resolves}

summed : (B : List Narrowed) (us : List MachineBlock) → length us ≡ length B
    → ((k : ℕ) (b : Narrowed) (u : MachineBlock) → slice_get B k ≡ Some b → slice_get us k ≡ Some u
    → filled_ifs b.block.items ≤ guarded_insts u)
    → filled_in (bare B) ≤ guarded_in us
summed [] us e f = omega arith
summed (b ∷ B) [] e f = absurd (omega (arith, e))
summed (b ∷ B) (u ∷ us) e f =
    let a = f 0 b u refl refl in
    let h = summed B us (omega (arith, e)) (λ k c t x y. f (suc k) c t x y) in
    omega (arith, a, h)

linked_same : (chunk : ℕ → ℕ) (k : ℕ) (us : List MachineBlock) → guarded_in (linked_from chunk k us) ≡ guarded_in us
linked_same chunk k [] = refl
linked_same chunk k (u ∷ us) =
    ap₂ (λ (a b : ℕ). a + b) (resolves (by_both chunk k) u) (linked_same chunk (suc k) us)

-- all blocks of a program have at least as many guarded instructions as filled if-items
pub programs : ProgramsGuarded
programs chunk k B us g =
    let a = summed B us g.size g.each in
    let b = linked_same chunk k us in
    omega (arith, a, b)
