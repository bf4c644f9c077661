-- A call of a function without arrays: the state in which its body runs, and what it gives.
use Rattle.std.proofs.Common.{◌≡◌, ℕ, zero, suc, ◌+◌, ◌≤◌, Bool, true, cond, List, [], ◌++◌, Option}
use Rattle.std.proofs.Common.{Some, ap, ◌∙◌, arith, nat_eq, nat_le, length, take}
use Rattle.std.proofs.lemmas.Bool.Decides.{nat_tests}
use Rattle.std.proofs.lemmas.List.{take_all, append-nil}
use Rattle.c_tree.specs.Limits.{most_frame_bytes}
use Rattle.c_tree.specs.declared.Kind.TheVariants.{Int}
use Rattle.c_tree.specs.declared.Slot.{Slot}
use Rattle.c_tree.specs.declared.TypedFunc.{TypedFunc}
use Rattle.c_tree.specs.declared.TypedProgram.{TypedProgram}
use Rattle.c_meaning_spec.specs.State.{State, Result, Go, Over}
use Rattle.c_meaning_spec.specs.inside.State.{then}
use Rattle.c_meaning_spec.specs.declared.signal.Signal.TheVariants.{Value, Returns}
use Rattle.c_meaning_spec.specs.declared.fault.Fault.TheVariants.{IllFormed}
use Rattle.c_meaning_spec.specs.declared.signal.Halt.TheVariants.{Faults}
use Rattle.c_meaning_spec.specs.Task.{Run}
use Rattle.c_meaning_spec.specs.Call.{enter, entered_if, left, scalars_of, frame}
use Rattle.c_meaning_spec.specs.Eval.{meaning}
use Rattle.library_laws.specs.Terms.{Code, body}
use Rattle.library_laws.specs.Printing.{IsFunction, HasRoom}
use Rattle.library_laws.proofs.Rules.{at, Calls, Follow, body_gives}

-- so many more
abbrev pub more : ℕ → ℕ → ℕ
more zero k = k
more (suc n) k = suc (more n k)

-- a function that returns an int, with these scalars and statements, and no array
abbrev pub printer : ℕ → List Slot → List Code → TypedFunc
printer params scalars code = record {
  result = Some Int;
  params = params;
  scalars = scalars;
  arrays = [];
  body = body code;
}

-- the state in a function, which was called in s, behind this output and with these values of its scalars
abbrev pub inside : State → TypedFunc → List ℕ → List (Option ℕ) → State
inside s F out cells = record s {
  output = out;
  scalars = cells;
  base = length s.arrays;
  room = s.room + frame F;
}

-- a call gives what its body returns, and leaves its output
pub called_gives : {P : TypedProgram} {f params v j i : ℕ} {scalars : List Slot} {code : List Code} {done out : List ℕ}
    {cells : List (Option ℕ)} (s : State)
    → IsFunction P f (printer params scalars code) → nat_eq (length done) params ≡ true
    → HasRoom s (frame (printer params scalars code))
    → Follow P code (inside s (printer params scalars code) s.output (scalars_of (printer params scalars code) done)) j
    (Returns (Some v)) (inside s (printer params scalars code) out cells) i
    → Calls P f done s (suc (suc j)) v (record s { output = out }) i
called_gives {P = P} {f = f} {params = params} {v = v} {j = j} {i = i} {scalars = scalars} {code = code} {done = done}
    {out = out} {cells = cells} s is_f count room h =
    let F : TypedFunc = printer params scalars code in
    let m : Bool = nat_eq f P.main in
    let few : s.room + frame F ≤ most_frame_bytes = room.fits in
    let fits : nat_le (s.room + frame F) most_frame_bytes ≡ true = grind (arith, nat_tests) in
    let rows : take (length s.arrays) s.rows ≡ s.rows = take_all (length s.arrays) s.rows (omega (arith, room.told)) in
    let arrays : take (length s.arrays) s.arrays ≡ s.arrays = take_all (length s.arrays) s.arrays (omega arith) in
    record {
      is = ap (λ (o : Option TypedFunc). enter (meaning P) m o done (at s (suc j))) is_f
          ∙ ap (λ (b : Bool). cond b (entered_if (meaning P) m (nat_le (s.room + frame F) most_frame_bytes) F done
          (at s (suc j))) (Over (Faults IllFormed) (at s (suc j)))) count
          ∙ ap (λ (b : Bool). entered_if (meaning P) m b F done (at s (suc j))) fits
          ∙ ap (λ (all : List (List (Option ℕ))). then (meaning P (Run (body code)) (record (inside s F s.output
          (scalars_of F done)) { stock = suc j; arrays = all; rows = s.rows ++ [] }))
          (left m s.scalars (length s.arrays) s.base s.room)) (append-nil s.arrays)
          ∙ ap (λ (all : List (Option ℕ)). then (meaning P (Run (body code)) (record (inside s F s.output
          (scalars_of F done)) { stock = suc j; rows = all }))
          (left m s.scalars (length s.arrays) s.base s.room)) (append-nil s.rows)
          ∙ ap (λ (r : Result). then r (left m s.scalars (length s.arrays) s.base s.room)) (body_gives h)
          ∙ ap (λ (all : List (List (Option ℕ))). Go (Value v) (record s {
            stock = i;
            output = out;
            arrays = all;
            rows = take (length s.arrays) s.rows;
          })) arrays
          ∙ ap (λ (all : List (Option ℕ)). Go (Value v) (record s { stock = i; output = out; rows = all })) rows;
    }
