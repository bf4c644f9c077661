-- The tests of loops: flat code says already which they are.
use Rattle.std.proofs.Common.{◌≡◌, ℕ, zero, suc, ◌+◌, ◌<◌, ◌≤◌, Bool, true, false, ◌&&◌, List, [], ◌∷◌, length}
use Rattle.std.proofs.Common.{refl, ap, ap₂, arith, drop}
use Rattle.ir_forms.specs.declared.flat.FlatStmt.{FlatStmt}
use Rattle.ir_forms.specs.inside.FlatViews.{code_of}
use Rattle.ir_forms.specs.inside.FlatCode.{Step, Let, Frame, Load, Save, Call, Put, Get, If, Loop, Break, Continue}
use Rattle.ir_forms.specs.inside.FlatCode.{Return, Halt, Code, Nop, ◌▹◌}
use Rattle.ir_forms.specs.inside.FlatFits.{steps_in, steps_of, is_empty}
use Rattle.reg_assign.specs.inside.Keeps.{calls_in, calls}
use Rattle.hyper_build.specs.inside.Tree.{Plan, goes_on, annotated_in, annotated}
use Rattle.hyper_build.specs.inside.Legs.{is_break, is_end, is_test, is_loop_test}
use Rattle.hyper_build.specs.inside.BackwardCode.{is_break_code, is_test_step}

-- WHAT STANDS BEHIND A PLACE

-- behind a place within some statements stands code
pub some_behind : (xs : List FlatStmt) (at : ℕ) → at < length xs → false ≡ is_empty (code_of (drop at xs))
some_behind [] at lt = absurd (omega (arith, lt))
some_behind (x ∷ xs) zero lt = refl
some_behind (x ∷ xs) (suc at) lt = some_behind xs at (omega (arith, lt))

-- behind the end of some statements stands no code
pub none_behind : (xs : List FlatStmt) (at : ℕ) → length xs ≤ at → true ≡ is_empty (code_of (drop at xs))
none_behind [] zero le = refl
none_behind [] (suc at) le = refl
none_behind (x ∷ xs) zero le = absurd (omega (arith, le))
none_behind (x ∷ xs) (suc at) le = none_behind xs at (omega (arith, le))

-- A BREAK ALONE

-- code that is found to be a break alone is one
pub break_is : (c : Code) → is_break_code c ≡ true → c ≡ (Break ▹ Nop)
break_is Nop e = absurd (cc e)
break_is (Let to op x y ▹ Nop) e = absurd (cc e)
break_is (Frame to at ▹ Nop) e = absurd (cc e)
break_is (Load to op x ▹ Nop) e = absurd (cc e)
break_is (Save op x y ▹ Nop) e = absurd (cc e)
break_is (Call f xs to kept ▹ Nop) e = absurd (cc e)
break_is (Put x ▹ Nop) e = absurd (cc e)
break_is (Get to ▹ Nop) e = absurd (cc e)
break_is (If x a b ▹ Nop) e = absurd (cc e)
break_is (Loop a b ▹ Nop) e = absurd (cc e)
break_is (Break ▹ Nop) e = refl
break_is (Continue ▹ Nop) e = absurd (cc e)
break_is (Return x ▹ Nop) e = absurd (cc e)
break_is (Halt x ▹ Nop) e = absurd (cc e)
break_is (s ▹ (t ▹ more)) e = absurd (cc e)

-- it has one statement, and no call
pub break_steps : (c : Code) → is_break_code c ≡ true → steps_of c ≡ 1
break_steps c e = ap steps_of (break_is c e)

-- a break alone has no call
pub break_calls : (c : Code) → is_break_code c ≡ true → calls c ≡ 0
break_calls c e = ap calls (break_is c e)

break_code : (p : Plan) (i k : ℕ) (c : Code) → is_break (annotated p i k c) ≡ is_break_code c
break_code p i k Nop = refl
break_code p i k (Let to op x y ▹ Nop) = refl
break_code p i k (Frame to at ▹ Nop) = refl
break_code p i k (Load to op x ▹ Nop) = refl
break_code p i k (Save op x y ▹ Nop) = refl
break_code p i k (Call f xs to kept ▹ Nop) = refl
break_code p i k (Put x ▹ Nop) = refl
break_code p i k (Get to ▹ Nop) = refl
break_code p i k (If x a b ▹ Nop) = refl
break_code p i k (Loop a b ▹ Nop) = refl
break_code p i k (Break ▹ Nop) = refl
break_code p i k (Continue ▹ Nop) = refl
break_code p i k (Return x ▹ Nop) = refl
break_code p i k (Halt x ▹ Nop) = refl
break_code p i k (Let to op x y ▹ (t ▹ more)) = refl
break_code p i k (Frame to at ▹ (t ▹ more)) = refl
break_code p i k (Load to op x ▹ (t ▹ more)) = refl
break_code p i k (Save op x y ▹ (t ▹ more)) = refl
break_code p i k (Call f xs to kept ▹ (t ▹ more)) = refl
break_code p i k (Put x ▹ (t ▹ more)) = refl
break_code p i k (Get to ▹ (t ▹ more)) = refl
break_code p i k (If x a b ▹ (t ▹ more)) = refl
break_code p i k (Loop a b ▹ (t ▹ more)) = refl
break_code p i k (Break ▹ (t ▹ more)) = refl
break_code p i k (Continue ▹ (t ▹ more)) = refl
break_code p i k (Return x ▹ (t ▹ more)) = refl
break_code p i k (Halt x ▹ (t ▹ more)) = refl

-- TESTS

test_is : (p : Plan) (i k : ℕ) (on : Bool) (x : Step)
    → is_test (annotated_in p i k on x) ≡ is_test_step (p.joined i) x
test_is p i k on (Let to op x y) = refl
test_is p i k on (Frame to at) = refl
test_is p i k on (Load to op x) = refl
test_is p i k on (Save op x y) = refl
test_is p i k on (Call f xs to kept) = refl
test_is p i k on (Put x) = refl
test_is p i k on (Get to) = refl
test_is p i k on (If x a b) =
    ap (λ y. p.joined i && y) (break_code p (i + 1 + steps_of a) (k + calls a) b)
test_is p i k on (Loop a b) = refl
test_is p i k on Break = refl
test_is p i k on Continue = refl
test_is p i k on (Return x) = refl
test_is p i k on (Halt x) = refl

end_is : (p : Plan) (i k : ℕ) (c : Code) → is_end (annotated p i k c) ≡ is_empty c
end_is p i k Nop = refl
end_is p i k (x ▹ c) = refl

-- which statement of a loop's body is its test
pub loop_test_is : (p : Plan) (i k : ℕ) (x : Step) (c : Code)
    → is_loop_test (annotated_in p i k (goes_on c) x) (annotated p (i + steps_in x) (k + calls_in x) c)
    ≡ is_empty c && is_test_step (p.joined i) x
loop_test_is p i k x c =
    ap₂ (λ y z. y && z) (end_is p (i + steps_in x) (k + calls_in x) c) (test_is p i k (goes_on c) x)
