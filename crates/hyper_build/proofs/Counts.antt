-- How many blocks are made: no more than the flat code says.
use Rattle.std.proofs.Common.{◌≡◌, ℕ, zero, suc, ◌+◌, ◌≤◌, Bool, true, false, cond, List, [], ◌∷◌}
use Rattle.std.proofs.Common.{length, Some, refl, arith, slice_get, length-append}
use Rattle.ir_forms.specs.declared.flat.Arg.{Arg}
use Rattle.ir_forms.specs.inside.FlatCode.{Step, Code, Nop, ◌▹◌, Let, Frame, Load, Save, Call, Put, Get, If}
use Rattle.ir_forms.specs.inside.FlatCode.{Loop, Break, Continue, Return, Halt, Function}
use Rattle.ir_forms.specs.inside.FlatFits.{FitsStep, FitsCode, FitsFunction, steps_in, steps_of}
use Rattle.ir_forms.specs.inside.FlatFits.{code_blocks_in, code_blocks, code_blocks_of_all}
use Rattle.reg_assign.specs.inside.Keeps.{calls_in, calls}
use Rattle.hyper_build.specs.inside.Tree.{Plan, Routine, Tree, End, ◌▸◌, LetAt, FrameAt, LoadAt, SaveAt}
use Rattle.hyper_build.specs.inside.Tree.{CallAt, PutAt, GetAt, IfAt, LoopAt, BreakAt, ContinueAt, ReturnAt, HaltAt}
use Rattle.hyper_build.specs.inside.Tree.{goes_on, annotated_in, annotated, annotated_all}
use Rattle.hyper_build.specs.inside.Parts.{cut_size, moved_size}
use Rattle.hyper_build.specs.inside.Passing.{argument_moves, argument_cuts, parameter_moves, parameter_cuts}
use Rattle.hyper_build.specs.inside.Straight.{is_item}
use Rattle.hyper_build.specs.inside.Legs.{is_loop_test, leg_size, is_bare}
use Rattle.hyper_build.specs.inside.Sizes.{arguments_size, size_in, size, test_size, turn_size}
use Rattle.hyper_build.specs.inside.Routines.{routine_size, all_blocks, routine_blocks}
use Rattle.hyper_build.proofs.Moving.{cut_most, chain_most}
use Rattle.hyper_build.proofs.Follows.{length_routine}
use Rattle.hyper_build.proofs.LoopPosts.{post_most}

-- PASSING

uncut_arguments : (i : ℕ) (xs : List Arg) → moved_size (argument_cuts false) i (argument_moves i xs) ≡ 0
uncut_arguments i [] = refl
uncut_arguments i (x ∷ xs) = let h = uncut_arguments (suc i) xs in omega (arith, h)

arguments_few : (small : Bool) (xs : List Arg) → length xs ≤ 8 → arguments_size small xs ≤ 2
arguments_few false xs le = let h = uncut_arguments 0 xs in omega (arith, h)
arguments_few true [] le = omega arith
arguments_few true (a ∷ []) le = omega arith
arguments_few true (a ∷ b ∷ []) le = omega arith
arguments_few true (a ∷ b ∷ c ∷ []) le = omega arith
arguments_few true (a ∷ b ∷ c ∷ d ∷ []) le = omega arith
arguments_few true (a ∷ b ∷ c ∷ d ∷ e ∷ []) le = omega arith
arguments_few true (a ∷ b ∷ c ∷ d ∷ e ∷ f ∷ []) le = omega arith
arguments_few true (a ∷ b ∷ c ∷ d ∷ e ∷ f ∷ g ∷ []) le = omega arith
arguments_few true (a ∷ b ∷ c ∷ d ∷ e ∷ f ∷ g ∷ h ∷ []) le = omega arith
arguments_few true (a ∷ b ∷ c ∷ d ∷ e ∷ f ∷ g ∷ h ∷ i ∷ xs) le = absurd (omega (arith, le))

uncut_parameters : (i n : ℕ) → moved_size (parameter_cuts false) i (parameter_moves i n) ≡ 0
uncut_parameters i zero = refl
uncut_parameters i (suc n) = let h = uncut_parameters (suc i) n in omega (arith, h)

parameters_few : (small : Bool) (n : ℕ) → n ≤ 8
    → moved_size (parameter_cuts small) 0 (parameter_moves 0 n) ≤ 3
parameters_few false n le = let h = uncut_parameters 0 n in omega (arith, h)
parameters_few true zero le = omega arith
parameters_few true (suc zero) le = omega arith
parameters_few true (suc (suc zero)) le = omega arith
parameters_few true (suc (suc (suc zero))) le = omega arith
parameters_few true (suc (suc (suc (suc zero)))) le = omega arith
parameters_few true (suc (suc (suc (suc (suc zero))))) le = omega arith
parameters_few true (suc (suc (suc (suc (suc (suc zero)))))) le = omega arith
parameters_few true (suc (suc (suc (suc (suc (suc (suc zero))))))) le = omega arith
parameters_few true (suc (suc (suc (suc (suc (suc (suc (suc zero)))))))) le = omega arith
parameters_few true (suc (suc (suc (suc (suc (suc (suc (suc (suc n))))))))) le =
    absurd (omega (arith, le))

-- CODE

leg_most : (c : Tree) (n : ℕ) → leg_size c n ≤ 1 + n
leg_most End n = omega arith
leg_most (BreakAt c ▸ End) n = omega arith
leg_most (ContinueAt c ▸ End) n = omega arith
leg_most (BreakAt c ▸ (s ▸ rest)) n = omega arith
leg_most (ContinueAt c ▸ (s ▸ rest)) n = omega arith
leg_most (LetAt c to op a b ▸ rest) n = omega arith
leg_most (FrameAt c to at ▸ rest) n = omega arith
leg_most (LoadAt c to op a ▸ rest) n = omega arith
leg_most (SaveAt c op a v ▸ rest) n = omega arith
leg_most (CallAt c small f args to groups ▸ rest) n = omega arith
leg_most (PutAt v ▸ rest) n = omega arith
leg_most (GetAt c to ▸ rest) n = omega arith
leg_most (IfAt c joined t one other ▸ rest) n = omega arith
leg_most (LoopAt c body post ▸ rest) n = omega arith
leg_most (ReturnAt c v ▸ rest) n = omega arith
leg_most (HaltAt c v ▸ rest) n = omega arith

either_most : (b : Bool) (x y z : ℕ) → x ≤ z → y ≤ z → cond b x y ≤ z
either_most true x y z a b = a
either_most false x y z a b = b

module _ (fs : List Function) (each : (f : ℕ) (h : Function) → slice_get fs f ≡ Some h → h.params ≤ 8)
    (p : Plan) (few : (k : ℕ) → length (p.groups k) ≤ 5) (n bytes : ℕ) where
  mutual
    stmt_few : (i k : ℕ) (inside on : Bool) (s : Step) → FitsStep fs n bytes inside s
        → size_in (annotated_in p i k on s) ≤ code_blocks_in s
    stmt_few i k inside on (Let to op a b) t = cut_most (p.cut i)
    stmt_few i k inside on (Frame to at) t = cut_most (p.cut i)
    stmt_few i k inside on (Load to op a) t = cut_most (p.cut i)
    stmt_few i k inside on (Save op a v) t = cut_most (p.cut i)
    stmt_few i k inside on (Call f xs to kept) t =
        let c = cut_most (p.cut i) in
        let g = few k in
        let arity = t.0.arity in
        let params = each f t.0.function t.0.found in
        let a = arguments_few (p.small i) xs (omega (arith, arity, params)) in
        let m = chain_most (p.small i) (p.groups k) in
        omega (arith, c, g, a, m)
    stmt_few i k inside on (Put v) t = omega arith
    stmt_few i k inside on (Get to) t = let c = cut_most (p.cut i) in omega (arith, c)
    stmt_few i k inside on (If a one other) t =
        let x = annotated p (i + 1) k one in
        let y = annotated p (i + 1 + steps_of one) (k + calls one) other in
        let hx = code_few (i + 1) k inside one t.1 in
        let hy = code_few (i + 1 + steps_of one) (k + calls one) inside other t.2 in
        let lx = leg_most x (size x) in
        let ly = leg_most y (size y) in
        let c = cut_most (p.cut i) in
        either_most (is_item (p.joined i) x y) (cut_size (p.cut i))
        (leg_size x (size x) + (leg_size y (size y) + 1))
        (3 + (code_blocks one + code_blocks other)) (omega (arith, c)) (omega (arith, hx, hy, lx, ly))
    stmt_few i k inside on (Loop body post) t =
        let hx = turn_few (i + 1) k true body t.0 in
        let hy = code_few (i + 1 + steps_of body) (k + calls body) false post t.1 in
        let b = annotated p (i + 1) k body in
        let c = annotated p (i + 1 + steps_of body) (k + calls body) post in
        let most = post_most (is_bare (p.cut i) b c) (size c) in
        omega (arith, hx, hy, most)
    stmt_few i k inside on Break t = cut_most on
    stmt_few i k inside on Continue t = cut_most on
    stmt_few i k inside on (Return v) t = cut_most on
    stmt_few i k inside on (Halt v) t = cut_most on

    pub code_few : (i k : ℕ) (inside : Bool) (c : Code) → FitsCode fs n bytes inside c
        → size (annotated p i k c) ≤ code_blocks c
    code_few i k inside Nop t = omega arith
    code_few i k inside (s ▹ c) t =
        let hs = stmt_few i k inside (goes_on c) s t.0 in
        let hc = code_few (i + steps_in s) (k + calls_in s) inside c t.1 in
        omega (arith, hs, hc)

    test_few : (i k : ℕ) (inside on : Bool) (s : Step) → FitsStep fs n bytes inside s
        → test_size (annotated_in p i k on s) ≤ code_blocks_in s
    test_few i k inside on (If a one other) t =
        let hx = code_few (i + 1) k inside one t.1 in
        let c = cut_most (p.cut i) in
        omega (arith, hx, c)
    test_few i k inside on (Let to op a b) t = omega arith
    test_few i k inside on (Frame to at) t = omega arith
    test_few i k inside on (Load to op a) t = omega arith
    test_few i k inside on (Save op a v) t = omega arith
    test_few i k inside on (Call f xs to kept) t = omega arith
    test_few i k inside on (Put v) t = omega arith
    test_few i k inside on (Get to) t = omega arith
    test_few i k inside on (Loop body post) t = omega arith
    test_few i k inside on Break t = omega arith
    test_few i k inside on Continue t = omega arith
    test_few i k inside on (Return v) t = omega arith
    test_few i k inside on (Halt v) t = omega arith

    turn_few : (i k : ℕ) (inside : Bool) (c : Code) → FitsCode fs n bytes inside c
        → turn_size (annotated p i k c) ≤ code_blocks c
    turn_few i k inside Nop t = omega arith
    turn_few i k inside (s ▹ c) t =
        let S = annotated_in p i k (goes_on c) s in
        let C = annotated p (i + steps_in s) (k + calls_in s) c in
        let hs = either_most (is_loop_test S C) (test_size S) (size_in S) (code_blocks_in s)
        (test_few i k inside (goes_on c) s t.0) (stmt_few i k inside (goes_on c) s t.0) in
        let hc = turn_few (i + steps_in s) (k + calls_in s) inside c t.1 in
        omega (arith, hs, hc)

-- FUNCTIONS

-- the blocks of some routines
abbrev pub sizes : List Routine → ℕ
sizes [] = 0
sizes (g ∷ gs) = routine_size g + sizes gs

-- the blocks of all routines are as many as their sizes say
pub length_all : (end : ℕ) (entries : ℕ → ℕ) (e : ℕ) (gs : List Routine)
    → length (all_blocks end entries e gs) ≡ sizes gs
length_all end entries e [] = refl
length_all end entries e (g ∷ gs) =
    let a = length-append (routine_blocks end entries e g)
    (all_blocks end entries (e + routine_size g) gs) in
    let h = length_routine end entries e g in
    let r = length_all end entries (e + routine_size g) gs in
    omega (arith, a, h, r)

abbrev EachFits : List Function → List Function → Type 0
EachFits all fs = (f : ℕ) (h : Function) → slice_get fs f ≡ Some h → FitsFunction all h

-- the annotated functions have no more blocks than the flat code says
pub sizes_few : (all : List Function)
    → ((f : ℕ) (h : Function) → slice_get all f ≡ Some h → h.params ≤ 8) → (p : Plan)
    → ((k : ℕ) → length (p.groups k) ≤ 5) → (i k : ℕ) (fs : List Function) → EachFits all fs
    → sizes (annotated_all p i k fs) ≤ code_blocks_of_all fs
sizes_few all params p few i k [] t = omega arith
sizes_few all params p few i k (f ∷ fs) t =
    let h = t 0 f refl in
    let a = parameters_few (p.small i) f.params h.few in
    let c = cut_most (p.small i) in
    let b = code_few all params p few f.scalars f.arrays (i + 1) k false f.body h.body in
    let r = sizes_few all params p few (i + 1 + steps_of f.body) (k + calls f.body) fs
    (λ j g e. t (suc j) g e) in
    omega (arith, a, c, b, r)
