-- The blocks that arguments begin, one argument before the others.
use Rattle.std.proofs.Common.{◌≡◌, ℕ, zero, suc, ◌+◌, ◌<◌, Bool, List, [], ◌∷◌, length, drop, refl, arith}
use Rattle.ir_forms.specs.declared.flat.Arg.{Arg}
use Rattle.hyper_build.specs.inside.Parts.{cut_size, moved_size}
use Rattle.hyper_build.specs.inside.Passing.{argument_moves, argument_cuts}

more_from : (cuts : ℕ → Bool) (j i : ℕ) (args : List Arg) → i < length args
    → moved_size cuts j (argument_moves j (drop i args))
    ≡ cut_size (cuts j) + moved_size cuts (suc j) (argument_moves (suc j) (drop (suc i) args))
more_from cuts j i [] h = omega (arith, h)
more_from cuts j zero (a ∷ args) h = refl
more_from cuts j (suc i) (a ∷ args) h = more_from cuts j i args (omega (arith, h))

-- the blocks that arguments begin are those of the first and those of the others
pub argument_more : (small : Bool) (i : ℕ) (args : List Arg) → i < length args
    → moved_size (argument_cuts small) i (argument_moves i (drop i args))
    ≡ cut_size (argument_cuts small i)
    + moved_size (argument_cuts small) (suc i) (argument_moves (suc i) (drop (suc i) args))
argument_more small i args h = more_from (argument_cuts small) i i args h
