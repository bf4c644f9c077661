-- What emission puts out before the test of a loop.
use Rattle.std.proofs.Common.{◌≡◌, ℕ, ◌+◌, ◌-◌, Bool, true, false, cond, List, ◌++◌, refl, sym, ap}
use Rattle.std.proofs.Common.{◌∙◌, subst, arith}
use Rattle.ir_forms.specs.declared.flat.Arg.{Arg}
use Rattle.ir_forms.specs.inside.FlatCode.{Step, Let, Frame, Load, Save, Call, Put, Get, If, Loop, Break, Continue}
use Rattle.ir_forms.specs.inside.FlatCode.{Return, Halt, Code}
use Rattle.ir_forms.specs.inside.FlatFits.{steps_in, steps_of}
use Rattle.ir_forms.specs.inside.HyperCode.{Block}
use Rattle.ir_forms.specs.inside.HyperRuns.{jump}
use Rattle.reg_assign.specs.inside.Keeps.{calls_in, calls}
use Rattle.hyper_build.specs.declared.emitting.Note.{Note}
use Rattle.hyper_build.specs.inside.Tree.{annotated_in, annotated}
use Rattle.hyper_build.specs.inside.Parts.{source, cut, cut_blocks}
use Rattle.hyper_build.specs.inside.Sizes.{size, test_size}
use Rattle.hyper_build.specs.inside.Entries.{choose, entry, test_entry}
use Rattle.hyper_build.specs.inside.Build.{blocks, test_blocks}
use Rattle.hyper_build.specs.inside.Merging.{merged, test_register}
use Rattle.hyper_build.specs.inside.Ground.{Ground, plan, place}
use Rattle.hyper_build.specs.inside.Backward.{Emission, cut_at, fall}
use Rattle.hyper_build.specs.inside.BackwardStatements.{leaving}
use Rattle.hyper_build.specs.inside.BackwardCode.{is_break_code, is_test_step, test_out, emit}
use Rattle.hyper_build.specs.inside.Notes.{notes_of, test_notes}
use Rattle.hyper_build.specs.inside.Reached.{Reached, IsReached}
use Rattle.hyper_build.proofs.ItemLegs.{and_parts}
use Rattle.hyper_build.proofs.LoopTests.{break_steps, break_calls}
use Rattle.hyper_build.proofs.Reaching.{joined, one_less, cut_reached}

-- by a decision
pub by_kind : (z : Bool) (o : List Block) (t u : Emission) (l i k : ℕ) (N : List Note)
    (B C : List Block) (E F : Block)
    → (z ≡ true → Reached o t l i k N B E) → (z ≡ false → Reached o u l i k N C F)
    → Reached o (cond z t u) l i k N (cond z B C) (choose z E F)
by_kind true o t u l i k N B C E F f h = f refl
by_kind false o t u l i k N B C E F f h = h refl

-- what emission does, where the block is cut or not
abbrev test_by : Ground → ℕ → ℕ → Arg → Code → Bool → Emission → Emission
test_by g b a x one c s =
    let leg = emit g b a one (fall (cut_at c s)) in
    leaving (merged test_register (source x) leg.rest (jump b)) leg

test_reached : (g : Ground) (b a : ℕ) (on : Bool) (x : Arg) (one other : Code) → is_break_code other ≡ true
    → IsReached g b a one → (s : Emission) (l i k : ℕ) (N : List Note)
    → s.label ≡ l + test_size (annotated_in (plan g) i k on (If x one other))
    → s.place ≡ i + steps_in (If x one other) → s.calls ≡ k + calls_in (If x one other)
    → s.notes ≡ N ++ test_notes (plan g) l i k (If x one other)
    → Reached s.out (test_out g b a (If x one other) s) l i k N
    (test_blocks (place g b a) (annotated_in (plan g) i k on (If x one other)) l s.rest)
    (test_entry (place g b a) (annotated_in (plan g) i k on (If x one other)) l s.rest)
test_reached g b a on x one other e f s l i k N el ei ek en =
    let p = place g b a in
    let A = annotated (plan g) (i + 1) k one in
    let c = (plan g).cut i in
    let m = l + size A in
    let n1 = notes_of (plan g) l (i + 1) k one in
    let t = cut_at c s in
    let u = fall t in
    let n = break_steps other e in
    let q = break_calls other e in
    let r1 = cut_reached c s m s.place s.calls s.notes (omega (arith, el)) refl refl refl in
    let i1 = r1.place in
    let k1 = r1.calls in
    let r2 : Reached s.out u m (i + 1 + steps_of one) (k + calls one) (N ++ n1) (cut_blocks c s.rest)
    (cut c m s.rest) = record {
      label = r1.label;
      place = omega (arith, i1, ei, n);
      calls = omega (arith, k1, ek, q);
      notes = r1.notes ∙ en;
      out = r1.out;
      rest = r1.rest;
    } in
    let leg = emit g b a one u in
    let r3 = joined (λ y. blocks p A l y) (λ y. entry p A l y) r2
    (f u l (i + 1) k N r2.label r2.place r2.calls r2.notes) in
    let B = blocks p A l (cut c m s.rest) ++ cut_blocks c s.rest in
    let E = merged test_register (source x) (entry p A l (cut c m s.rest)) (jump b) in
    let r4 : Reached s.out (test_by g b a x one c s) l i k N B E = record {
      label = r3.label;
      place = one_less leg.place i r3.place;
      calls = r3.calls;
      notes = r3.notes;
      out = r3.out;
      rest = ap (λ y. merged test_register (source x) y (jump b)) r3.rest;
    } in
    let h : s.place - steps_in (If x one other) ≡ i = omega (arith, ei) in
    subst (λ j. Reached s.out (test_by g b a x one ((plan g).cut j) s) l i k N B E) (sym h) r4

-- what a loop's test asks of its leg
abbrev pub IsTestReached : Ground → ℕ → ℕ → Step → Type 0
IsTestReached g b a (If x one other) = IsReached g b a one
IsTestReached g b a _ = Unit {0}

-- a statement that is a loop's test
pub loop_test_reached : (g : Ground) (b a : ℕ) (on tested : Bool) (x : Step) → is_test_step tested x ≡ true
    → IsTestReached g b a x → (s : Emission) (l i k : ℕ) (N : List Note)
    → s.label ≡ l + test_size (annotated_in (plan g) i k on x) → s.place ≡ i + steps_in x
    → s.calls ≡ k + calls_in x → s.notes ≡ N ++ test_notes (plan g) l i k x
    → Reached s.out (test_out g b a x s) l i k N
    (test_blocks (place g b a) (annotated_in (plan g) i k on x) l s.rest)
    (test_entry (place g b a) (annotated_in (plan g) i k on x) l s.rest)
loop_test_reached g b a on tested (If x one other) e f =
    test_reached g b a on x one other (and_parts tested (is_break_code other) e).1 f
loop_test_reached g b a on tested (Let to op x y) e f = absurd (cc e)
loop_test_reached g b a on tested (Frame to at) e f = absurd (cc e)
loop_test_reached g b a on tested (Load to op x) e f = absurd (cc e)
loop_test_reached g b a on tested (Save op x y) e f = absurd (cc e)
loop_test_reached g b a on tested (Call f_ xs to kept) e f = absurd (cc e)
loop_test_reached g b a on tested (Put x) e f = absurd (cc e)
loop_test_reached g b a on tested (Get to) e f = absurd (cc e)
loop_test_reached g b a on tested (Loop c d) e f = absurd (cc e)
loop_test_reached g b a on tested Break e f = absurd (cc e)
loop_test_reached g b a on tested Continue e f = absurd (cc e)
loop_test_reached g b a on tested (Return x) e f = absurd (cc e)
loop_test_reached g b a on tested (Halt x) e f = absurd (cc e)
