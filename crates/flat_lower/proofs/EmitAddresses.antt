-- The code of addresses.
use Rattle.std.proofs.Common.{◌≡◌, ℕ, zero, suc, ◌<◌, refl, arith}
use Rattle.c_tree.specs.declared.Place.{Place}
use Rattle.trips_isa.specs.declared.op.Op.TheVariants as op
use Rattle.ir_forms.specs.declared.flat.Arg.TheVariants.{Const, Var}
use Rattle.ir_forms.specs.inside.FlatCode.{Then, only, Let}
use Rattle.flat_lower.specs.inside.Objects.{Context, based, address_by}

-- an index is shifted first, where elements have more than a byte
pub shifted : (n : ℕ) (c : Context) (p : Place) (to x : ℕ) → 0 < n
    → address_by n c p to x ≡ Then (only (Let to op.Sll (Var x) (Const n))) (based c p to to)
shifted zero c p to x h = absurd (omega arith)
shifted (suc n) c p to x h = refl
