-- Code that has no continue for the loop in which it stands never goes on with that loop's last part.
use Rattle.std.proofs.Common.{◌≡◌, ℕ, zero, suc, ◌+◌, ◌-◌, ◌%◌, Bool, true, false, cond, ◌||◌, List, Option, Some}
use Rattle.std.proofs.Common.{None, refl, nat_lt}
use Rattle.ir_forms.specs.declared.flat.Arg.{Arg}
use Rattle.ir_forms.specs.inside.Cells.{Checks, apply, load, save}
use Rattle.ir_forms.specs.inside.FlatCode.{Step, Let, Frame, Load, Save, Call, Put, Get, If, Loop, Break, Continue}
use Rattle.ir_forms.specs.inside.FlatCode.{Return, Halt, Code, Nop, ◌▹◌}
use Rattle.ir_forms.specs.inside.FlatSteps.{State, Env, Res, Gone, Broke, Again, Gave, Halts, Unfinished, Wild}
use Rattle.ir_forms.specs.inside.FlatSteps.{Exited, Calls, without_vars}
use Rattle.ir_forms.specs.inside.FlatSteps.{unfinished, settle, turn, must, then_run, read, read_all, with_var}
use Rattle.ir_forms.specs.inside.FlatSteps.{with_memory}
use Rattle.ir_forms.specs.inside.FlatSteps.{with_output, with_next, counted, after_post, after_body, loop_turns}
use Rattle.ir_forms.specs.inside.FlatSteps.{after_call}
use Rattle.ir_forms.specs.inside.FlatSteps.{return_of, chosen, act, exec}
use Rattle.hyper_build.specs.inside.Legs.{continues_in, continues}

-- a run that does not go on with the last part of a loop around it
abbrev pub IsOther : Res → Type 0
IsOther (Gone s m) = Unit {0}
IsOther (Broke s m) = Unit {0}
IsOther (Again s m) = ⊥
IsOther (Gave v s m) = Unit {0}
IsOther (Halts how) = Unit {0}
IsOther (Unfinished out r) = Unit {0}
IsOther Wild = Unit {0}

-- PARTS

settled : (s : State) (m : ℕ) → IsOther (settle s m)
settled s zero = tt
settled s (suc m) = tt

needed : {A : Type 0} (x : Option A) (next : A → Res) → ((a : A) → IsOther (next a)) → IsOther (must x next)
needed None next h = tt
needed (Some a) next h = h a

turned : (s : State) (m : ℕ) (next : ℕ → Res) → ((n : ℕ) → IsOther (next n)) → IsOther (turn s m next)
turned s zero next h = tt
turned s (suc m) next h = h m

either : (b : Bool) (one other : Res) → IsOther one → IsOther other → IsOther (cond b one other)
either true one other x y = x
either false one other x y = y

then_other : (r : Res) (next : State → ℕ → Res) → IsOther r → ((s : State) (m : ℕ) → IsOther (next s m))
    → IsOther (then_run r next)
then_other (Gone s m) next x h = h s m
then_other (Broke s m) next x h = tt
then_other (Again s m) next x h = x
then_other (Gave v s m) next x h = tt
then_other (Halts how) next x h = tt
then_other (Unfinished out r) next x h = tt
then_other Wild next x h = tt

leg_other : (w : ℕ) (one other : Res) → IsOther one → IsOther other → IsOther (chosen w one other)
leg_other zero one other x y = y
leg_other (suc w) one other x y = x

-- LOOPS

post_other : (r : Res) (next : State → ℕ → Res) → ((s : State) (m : ℕ) → IsOther (next s m))
    → IsOther (after_post r next)
post_other (Gone s m) next h = h s m
post_other (Broke s m) next h = tt
post_other (Again s m) next h = tt
post_other (Gave v s m) next h = tt
post_other (Halts how) next h = tt
post_other (Unfinished out r) next h = tt
post_other Wild next h = tt

body_other : (r : Res) (post next : State → ℕ → Res) → ((s : State) (m : ℕ) → IsOther (next s m))
    → IsOther (after_body r post next)
body_other (Gone s m) post next h = post_other (post s m) next h
body_other (Broke s m) post next h = settled s m
body_other (Again s m) post next h = post_other (post s m) next h
body_other (Gave v s m) post next h = tt
body_other (Halts how) post next h = tt
body_other (Unfinished out r) post next h = tt
body_other Wild post next h = tt

loop_other : (j : ℕ) (body post : State → ℕ → Res) (s : State) (m : ℕ) → IsOther (loop_turns j body post s m)
loop_other zero body post s m = tt
loop_other (suc j) body post s zero = tt
loop_other (suc j) body post s (suc m) =
    body_other (body (counted s) m) post (loop_turns j body post) (λ t n. loop_other j body post t n)

-- STATEMENTS

-- neither of both is so
none_left : (a b : Bool) → a || b ≡ false → a ≡ false
none_left true b e = absurd (cc e)
none_left false b e = refl

none_right : (a b : Bool) → a || b ≡ false → b ≡ false
none_right true b e = absurd (cc e)
none_right false b e = e

call_other : (s : State) (kept : ℕ → Bool) (to : Option ℕ) (r : Res) → IsOther (after_call s kept to r)
call_other s kept to (Gone t m) = settled _ m
call_other s kept to (Broke t m) = tt
call_other s kept to (Again t m) = tt
call_other s kept to (Gave w t m) = settled _ m
call_other s kept to (Halts how) = tt
call_other s kept to (Unfinished out r) = tt
call_other s kept to Wild = tt

return_other : (c : Checks) (s : State) (n : ℕ) (x : Option Arg) → IsOther (return_of c s n x)
return_other c s n None = tt
return_other c s n (Some x) = needed (read c s x) (λ w. Gave (Some w) s n) (λ w. tt)

module _ (c : Checks) (call : Calls) (e : Env) where
  mutual
    act_other : (x : Step) → continues_in x ≡ false → (s : State) (m : ℕ) → IsOther (act c call e x s m)
    act_other (Let to op x y) h s m =
        turned s m (λ n. must (read c s x) (λ a. must (read c s y)
        (λ b. must (apply c op a b) (λ w. settle (with_var s to w) n))))
        (λ n. needed (read c s x) (λ a. must (read c s y)
        (λ b. must (apply c op a b) (λ w. settle (with_var s to w) n)))
        (λ a. needed (read c s y) (λ b. must (apply c op a b) (λ w. settle (with_var s to w) n))
        (λ b. needed (apply c op a b) (λ w. settle (with_var s to w) n) (λ w. settled (with_var s to w) n))))
    act_other (Frame to at) h s m =
        turned s m (λ n. settle (with_var s to (e.arrays + at)) n) (λ n. settled (with_var s to (e.arrays + at)) n)
    act_other (Load to op x) h s m =
        turned s m (λ n. must (read c s x) (λ a. must (load c op s.memory a) (λ w. settle (with_var s to w) n)))
        (λ n. needed (read c s x) (λ a. must (load c op s.memory a) (λ w. settle (with_var s to w) n))
        (λ a. needed (load c op s.memory a) (λ w. settle (with_var s to w) n) (λ w. settled (with_var s to w) n)))
    act_other (Save op x y) h s m =
        turned s m (λ n. must (read c s x) (λ a. must (read c s y)
        (λ v. must (save c op s.memory a v) (λ mem. settle (with_memory s mem) n))))
        (λ n. needed (read c s x) (λ a. must (read c s y)
        (λ v. must (save c op s.memory a v) (λ mem. settle (with_memory s mem) n)))
        (λ a. needed (read c s y) (λ v. must (save c op s.memory a v) (λ mem. settle (with_memory s mem) n))
        (λ v. needed (save c op s.memory a v) (λ mem. settle (with_memory s mem) n)
        (λ mem. settled (with_memory s mem) n))))
    act_other (Call f xs to kept) h s m =
        let next = λ (ws : List ℕ). after_call s kept to (call f ws e.used (counted s) (m - 10)) in
        either (nat_lt m 10) (unfinished s) (must (read_all c s xs) next) tt
        (needed (read_all c s xs) next (λ ws. call_other s kept to (call f ws e.used (counted s) (m - 10))))
    act_other (Put x) h s m =
        turned s m (λ n. must (read c s x) (λ v. settle (with_output s (v % 256)) n))
        (λ n. needed (read c s x) (λ v. settle (with_output s (v % 256)) n)
        (λ v. settled (with_output s (v % 256)) n))
    act_other (Get to) h s m =
        turned s m (λ n. settle (with_next s to s.input) n) (λ n. settled (with_next s to s.input) n)
    act_other (If x one other) h s m =
        turned s m (λ n. must (read c s x) (λ v. chosen v (exec c call e one s n) (exec c call e other s n)))
        (λ n. needed (read c s x) (λ v. chosen v (exec c call e one s n) (exec c call e other s n))
        (λ v. leg_other v (exec c call e one s n) (exec c call e other s n)
        (exec_other one (none_left (continues one) (continues other) h) s n)
        (exec_other other (none_right (continues one) (continues other) h) s n)))
    act_other (Loop body post) h s m = loop_other (suc m) (exec c call e body) (exec c call e post) s m
    act_other Break h s m = turned s m (λ n. Broke s n) (λ n. tt)
    act_other Continue h s m = absurd (cc h)
    act_other (Return x) h s m = turned s m (λ n. return_of c s n x) (λ n. return_other c s n x)
    act_other (Halt x) h s m =
        turned s m (λ n. must (read c s x) (λ w. Halts (Exited w (without_vars s) n)))
        (λ n. needed (read c s x) (λ w. Halts (Exited w (without_vars s) n)) (λ w. tt))

    -- code without a continue does not end by one
    pub exec_other : (p : Code) → continues p ≡ false → (s : State) (m : ℕ) → IsOther (exec c call e p s m)
    exec_other Nop h s m = settled s m
    exec_other (x ▹ rest) h s m =
        then_other (act c call e x s m) (exec c call e rest)
        (act_other x (none_left (continues_in x) (continues rest) h) s m)
        (λ t n. exec_other rest (none_right (continues_in x) (continues rest) h) t n)
