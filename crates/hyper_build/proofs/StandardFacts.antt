-- Worked rows of what has a block of its own behind a break, a continue, a return or the end of the whole run.
use Rattle.std.proofs.Common.{◌≡◌, ℕ, true, false, None, refl, [], ◌∷◌}
use Rattle.trips_isa.specs.declared.op.Op.TheVariants.{Mov}
use Rattle.ir_forms.specs.declared.flat.Arg.{Arg}
use Rattle.ir_forms.specs.declared.flat.Arg.TheVariants as arg
use Rattle.ir_forms.specs.declared.hyper.Source.TheVariants.{Const, Reg}
use Rattle.ir_forms.specs.declared.hyper.Exit.TheVariants as exit
use Rattle.ir_forms.specs.inside.FlatCode.{Let, Put, If, Break, Continue, Return, Halt, Nop, ◌▹◌}
use Rattle.ir_forms.specs.inside.HyperCode.{Done, Set, Leave, Block}
use Rattle.hyper_build.specs.inside.Tree.{Plan, goes_on, annotated}
use Rattle.hyper_build.specs.inside.Straight.{Place}
use Rattle.hyper_build.specs.inside.Sizes.{size}
use Rattle.hyper_build.specs.inside.Entries.{entry}
use Rattle.hyper_build.specs.inside.FunctionParts.{begins}

-- nothing stands behind the last statement of a list
nothing : goes_on Nop ≡ false
nothing = refl

-- what leaves at once does nothing that could be reached
a_break : goes_on (Break ▹ Nop) ≡ false
a_break = refl

a_continue : goes_on (Continue ▹ Nop) ≡ false
a_continue = refl

a_return : (x : Arg) → goes_on (Return None ▹ Let 0 Mov x x ▹ Nop) ≡ false
a_return x = refl

an_end : (x : Arg) → goes_on (Halt x ▹ Put x ▹ Nop) ≡ false
an_end x = refl

-- anything else goes on, also where both its legs leave
an_operation : (x : Arg) → goes_on (Let 0 Mov x x ▹ Nop) ≡ true
an_operation x = refl

an_if : (x : Arg) → goes_on (If x (Break ▹ Nop) (Continue ▹ Nop) ▹ Nop) ≡ true
an_if x = refl

-- a break alone and the last return of a function begin no block, nor do two returns
one_break : (p : Plan) → size (annotated p 0 0 (Break ▹ Nop)) ≡ 0
one_break p = refl

two_returns : (p : Plan) → size (annotated p 0 0 (Return None ▹ Return None ▹ Nop)) ≡ 0
two_returns p = refl

-- an output behind a return has a block, and the one that it comes back to
an_output_behind : (p : Plan) (x : Arg) → size (annotated p 0 0 (Return None ▹ Put x ▹ Nop)) ≡ 2
an_output_behind p x = refl

-- so it has behind the end of the whole run
an_output_behind_an_end : (p : Plan) (x : Arg) → size (annotated p 0 0 (Halt x ▹ Put x ▹ Nop)) ≡ 2
an_output_behind_an_end p x = refl

two_ends : (p : Plan) (x : Arg) → size (annotated p 0 0 (Halt x ▹ Halt x ▹ Nop)) ≡ 0
two_ends p x = refl

-- which leads to the program's end from every place, with its value in register 3, and leaves the frames as they are
ends_the_program : (at : Place) (p : Plan) (l : ℕ) (k : Block)
    → entry at (annotated p 0 0 (Halt (arg.Const 7) ▹ Nop)) l k
    ≡ record { items = Set 3 Mov (Const 7) (Const 0) Done; tail = Leave (exit.Jump 1) }
ends_the_program at p l k = refl

ends_with_a_variable : (at : Place) (p : Plan) (l : ℕ) (k : Block)
    → entry at (annotated p 0 0 (Halt (arg.Var 2) ▹ Nop)) l k
    ≡ record { items = Set 3 Mov (Reg 14) (Const 0) Done; tail = Leave (exit.Jump 1) }
ends_with_a_variable at p l k = refl

-- the first function begins behind the three blocks of none, and each behind the blocks of the one before
two_functions : (b c : Block) → begins 3 ((b ∷ c ∷ []) ∷ (b ∷ c ∷ c ∷ []) ∷ []) ≡ 3 ∷ 5 ∷ []
two_functions b c = refl

no_function : begins 3 [] ≡ []
no_function = refl
