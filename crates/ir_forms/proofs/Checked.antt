-- Checks change nothing where none ends the run.
use Rattle.std.proofs.Common.{◌≡◌, ℕ, zero, suc, ◌+◌, ◌-◌, ◌%◌, Bool, true, false, cond, List, []}
use Rattle.std.proofs.Common.{◌∷◌, Option, Some, None, refl, sym, ap, ◌∙◌, subst}
use Rattle.std.specs.Prelude.{nat_lt, slice_get}
use Rattle.trips_isa.specs.declared.op.Op.{Op}
use Rattle.trips_isa.specs.Alu.{alu_of, loaded_as}
use Rattle.trips_isa.specs.Forms.{size_of}
use Rattle.trips_isa.specs.Stores.{is_good_address}
use Rattle.ir_forms.specs.declared.flat.Arg.{Arg}
use Rattle.ir_forms.specs.declared.flat.Arg.TheVariants.{Const, Var}
use Rattle.trips_isa.specs.Faults.{is_bad_divisor}
use Rattle.ir_forms.specs.inside.FlatCode.{Step, Let, Frame, Load, Save, Call, Put, Get, If, Loop, Break}
use Rattle.ir_forms.specs.inside.FlatCode.{Continue, Return, Halt, Code, Nop, ◌▹◌, Function}
use Rattle.ir_forms.specs.inside.Frames.{frames_at, frame_limit, frame_of, arrays_at}
use Rattle.ir_forms.specs.inside.Cells.{Memory, Checks, breach, provided, all_held, all_open, number_at}
use Rattle.ir_forms.specs.inside.Cells.{number_put, apply, load, save}
use Rattle.ir_forms.specs.inside.FlatSteps.{State, Env, Res, Gone, Broke, Again, Gave, Halts, Unfinished}
use Rattle.ir_forms.specs.inside.FlatSteps.{NoRoom, Exited, Wild, unfinished, settle, turn, ten_turns, must, then_run}
use Rattle.ir_forms.specs.inside.FlatSteps.{if_set, read, beside, read_all, with_var, with_memory}
use Rattle.ir_forms.specs.inside.FlatSteps.{with_output, with_next, counted, after_post, after_body}
use Rattle.ir_forms.specs.inside.FlatSteps.{loop_turns, Calls, after_call, return_of, chosen, act, exec}
use Rattle.ir_forms.specs.inside.FlatRuns.{concluded, closing, env_of, begun, enter, enter_if, calls_within, flat_run}
use Rattle.ir_forms.specs.inside.FlatRuns.{start}
use Rattle.ir_forms.specs.inside.Laws.{Weaker, Agrees, ChecksChangeNothing}

-- the first is none, or both are the same
abbrev Below : {A : Type 0} → Option A → Option A → Type 0
Below None p = Unit {0}
Below (Some a) p = p ≡ Some a

same : {A : Type 0} (o : Option A) → Below o o
same None = tt
same (Some a) = refl

agree : (r : Res) → Agrees r r
agree (Gone s m) = refl
agree (Broke s m) = refl
agree (Again s m) = refl
agree (Gave v s m) = refl
agree (Halts how) = refl
agree (Unfinished out r) = refl
agree Wild = tt

-- what follows agrees where its beginning does
a-then : (r q : Res) (f g : State → ℕ → Res) → Agrees r q
    → ((s : State) (m : ℕ) → Agrees (f s m) (g s m))
    → Agrees (then_run r f) (then_run q g)
a-then (Gone s m) q f g h k = subst (λ q. Agrees (f s m) (then_run q g)) (sym h) (k s m)
a-then (Broke s m) q f g h k = ap (λ q. then_run q g) h
a-then (Again s m) q f g h k = ap (λ q. then_run q g) h
a-then (Gave v s m) q f g h k = ap (λ q. then_run q g) h
a-then (Halts how) q f g h k = ap (λ q. then_run q g) h
a-then (Unfinished out r) q f g h k = ap (λ q. then_run q g) h
a-then Wild q f g h k = tt

a-must : {A : Type 0} (o p : Option A) (f g : A → Res) → Below o p → ((a : A) → Agrees (f a) (g a))
    → Agrees (must o f) (must p g)
a-must None p f g h k = tt
a-must (Some a) p f g h k = subst (λ p. Agrees (f a) (must p g)) (sym h) (k a)

a-turn : (s : State) (m : ℕ) (f g : ℕ → Res) → ((m : ℕ) → Agrees (f m) (g m))
    → Agrees (turn s m f) (turn s m g)
a-turn s zero f g h = refl
a-turn s (suc m) f g h = h m

a-cond : (b : Bool) (r q x y : Res) → Agrees r x → Agrees q y → Agrees (cond b r q) (cond b x y)
a-cond true r q x y h k = h
a-cond false r q x y h k = k

a-ten : (s : State) (m : ℕ) (f g : ℕ → Res) → ((m : ℕ) → Agrees (f m) (g m))
    → Agrees (ten_turns s m f) (ten_turns s m g)
a-ten s m f g h = a-cond (nat_lt m 10) (unfinished s) (f (m - 10)) (unfinished s) (g (m - 10)) refl
    (h (m - 10))

a-chosen : (v : ℕ) (a b x y : Res) → Agrees a x → Agrees b y → Agrees (chosen v a b) (chosen v x y)
a-chosen zero a b x y h k = k
a-chosen (suc v) a b x y h k = h

a-post : (r q : Res) (f g : State → ℕ → Res) → Agrees r q
    → ((s : State) (m : ℕ) → Agrees (f s m) (g s m))
    → Agrees (after_post r f) (after_post q g)
a-post (Gone s m) q f g h k = subst (λ q. Agrees (f s m) (after_post q g)) (sym h) (k s m)
a-post (Broke s m) q f g h k = tt
a-post (Again s m) q f g h k = tt
a-post (Gave v s m) q f g h k = ap (λ q. after_post q g) h
a-post (Halts how) q f g h k = ap (λ q. after_post q g) h
a-post (Unfinished out r) q f g h k = ap (λ q. after_post q g) h
a-post Wild q f g h k = tt

a-body : (r q : Res) (p x f g : State → ℕ → Res) → Agrees r q
    → ((s : State) (m : ℕ) → Agrees (p s m) (x s m))
    → ((s : State) (m : ℕ) → Agrees (f s m) (g s m)) → Agrees (after_body r p f) (after_body q x g)
a-body (Gone s m) q p x f g h j k =
    subst (λ q. Agrees (after_post (p s m) f) (after_body q x g)) (sym h)
    (a-post (p s m) (x s m) f g (j s m) k)
a-body (Broke s m) q p x f g h j k = subst (λ q. Agrees (settle s m) (after_body q x g)) (sym h)
    (agree (settle s m))
a-body (Again s m) q p x f g h j k =
    subst (λ q. Agrees (after_post (p s m) f) (after_body q x g)) (sym h)
    (a-post (p s m) (x s m) f g (j s m) k)
a-body (Gave v s m) q p x f g h j k = ap (λ q. after_body q x g) h
a-body (Halts how) q p x f g h j k = ap (λ q. after_body q x g) h
a-body (Unfinished out r) q p x f g h j k = ap (λ q. after_body q x g) h
a-body Wild q p x f g h j k = tt

a-turns : (j : ℕ) (b p y x : State → ℕ → Res) → ((s : State) (m : ℕ) → Agrees (b s m) (y s m))
    → ((s : State) (m : ℕ) → Agrees (p s m) (x s m)) → (s : State) (m : ℕ)
    → Agrees (loop_turns j b p s m) (loop_turns j y x s m)
a-turns zero b p y x h k s m = refl
a-turns (suc j) b p y x h k s zero = refl
a-turns (suc j) b p y x h k s (suc m) =
    a-body (b (counted s) m) (y (counted s) m) p x (loop_turns j b p) (loop_turns j y x)
    (h (counted s) m) k
    (a-turns j b p y x h k)

a-call : (s : State) (kept : ℕ → Bool) (to : Option ℕ) (r q : Res) → Agrees r q
    → Agrees (after_call s kept to r) (after_call s kept to q)
a-call s kept to (Gone t m) q h =
    subst (λ q. Agrees (after_call s kept to (Gone t m)) (after_call s kept to q)) (sym h)
    (agree (after_call s kept to (Gone t m)))
a-call s kept to (Broke t m) q h = tt
a-call s kept to (Again t m) q h = tt
a-call s kept to (Gave w t m) q h =
    subst (λ q. Agrees (after_call s kept to (Gave w t m)) (after_call s kept to q)) (sym h)
    (agree (after_call s kept to (Gave w t m)))
a-call s kept to (Halts how) q h = ap (after_call s kept to) h
a-call s kept to (Unfinished out r) q h = ap (after_call s kept to) h
a-call s kept to Wild q h = tt

a-closing : (at size : ℕ) (r q : Res) → Agrees r q → Agrees (closing at size r) (closing at size q)
a-closing at size (Gone s m) q h = ap (closing at size) h
a-closing at size (Broke s m) q h = tt
a-closing at size (Again s m) q h = tt
a-closing at size (Gave w s m) q h = ap (closing at size) h
a-closing at size (Halts how) q h = ap (closing at size) h
a-closing at size (Unfinished out r) q h = ap (closing at size) h
a-closing at size Wild q h = tt

a-concluded : (r q : Res) → Agrees r q → Agrees (concluded r) (concluded q)
a-concluded (Gone s m) q h = ap concluded h
a-concluded (Broke s m) q h = ap concluded h
a-concluded (Again s m) q h = ap concluded h
a-concluded (Gave w s m) q h = ap concluded h
a-concluded (Halts (NoRoom out)) q h = ap concluded h
a-concluded (Halts (Exited w s m)) q h = ap concluded h
a-concluded (Unfinished out r) q h = ap concluded h
a-concluded Wild q h = tt

-- THE PLACES OF CHECKS

b-breach : {A : Type 0} (x y : Bool) (a : A) → (y ≡ true → x ≡ true)
    → Below (breach x a) (breach y a)
b-breach true y a h = tt
b-breach false true a h = absurd (cc (h refl))
b-breach false false a h = refl

b-cond : {A : Type 0} (b : Bool) (o p x y : Option A) → Below o x → Below p y
    → Below (cond b o p) (cond b x y)
b-cond true o p x y h k = h
b-cond false o p x y h k = k

b-provided : {A : Type 0} (x y ok : Bool) (a : A) → (y ≡ true → x ≡ true)
    → Below (provided x ok a) (provided y ok a)
b-provided x y ok a h = b-cond ok (Some a) (breach x a) (Some a) (breach y a) refl
    (b-breach x y a h)

b-set : (x y : Bool) (o : Option ℕ) → (y ≡ true → x ≡ true) → Below (if_set x o) (if_set y o)
b-set x y None h = b-breach x y 0 h
b-set x y (Some w) h = refl

b-beside : (o p : Option ℕ) (x y : Option (List ℕ)) → Below o p → Below x y
    → Below (beside o x) (beside p y)
b-beside None p x y h k = tt
b-beside (Some w) p None y h k = tt
b-beside (Some w) p (Some ws) y h k = ap (λ p. beside p y) h ∙ ap (beside (Some w)) k

module _ (c d : Checks) (weaker : Weaker d c) where
  b-read : (s : State) (x : Arg) → Below (read c s x) (read d s x)
  b-read s (Const w) = refl
  b-read s (Var v) = b-set c.tame d.tame (s.vars v) weaker.tame

  b-read_all : (s : State) (xs : List Arg) → Below (read_all c s xs) (read_all d s xs)
  b-read_all s [] = refl
  b-read_all s (x ∷ xs) =
      b-beside (read c s x) (read d s x) (read_all c s xs) (read_all d s xs) (b-read s x)
      (b-read_all s xs)

  b-apply : (op : Op) (a b : ℕ) → Below (apply c op a b) (apply d op a b)
  unfolding apply
  b-apply op a b =
      b-cond (is_bad_divisor op b) (breach c.clean (alu_of op a b)) (Some (alu_of op a b))
      (breach d.clean (alu_of op a b)) (Some (alu_of op a b))
      (b-breach c.clean d.clean (alu_of op a b) weaker.clean) refl

  b-load : (op : Op) (m : Memory) (a : ℕ) → Below (load c op m a) (load d op m a)
  unfolding load
  b-load op m a =
      let ok = all_held m a (size_of op) in
      let w = loaded_as op (number_at m a (size_of op)) in
      b-cond (is_good_address a (size_of op)) (provided c.tame ok w) (breach c.clean 0)
      (provided d.tame ok w)
      (breach d.clean 0)
      (b-provided c.tame d.tame ok w weaker.tame) (b-breach c.clean d.clean 0 weaker.clean)

  b-save : (op : Op) (m : Memory) (a v : ℕ) → Below (save c op m a v) (save d op m a v)
  unfolding save
  b-save op m a v =
      let ok = all_open m a (size_of op) in
      let w = number_put m a (size_of op) v in
      b-cond (is_good_address a (size_of op)) (provided c.tame ok w) (breach c.clean m)
      (provided d.tame ok w)
      (breach d.clean m)
      (b-provided c.tame d.tame ok w weaker.tame) (b-breach c.clean d.clean m weaker.clean)

  a-return : (s : State) (m : ℕ) (x : Option Arg) → Agrees (return_of c s m x) (return_of d s m x)
  a-return s m None = refl
  a-return s m (Some x) =
      a-must (read c s x) (read d s x) (λ w. Gave (Some w) s m) (λ w. Gave (Some w) s m)
      (b-read s x) (λ w. refl)

  -- STATEMENTS

  module _ (call other : Calls) (calls : (f : ℕ) (ws : List ℕ) (used : ℕ) (s : State) (m : ℕ)
      → Agrees (call f ws used s m) (other f ws used s m)) (e : Env) where
    mutual
      a-act : (st : Step) (s : State) (m : ℕ) → Agrees (act c call e st s m) (act d other e st s m)
      a-act (Let to op x y) s m = a-turn s m _ _ (λ m.
          a-must (read c s x) (read d s x) _ _ (b-read s x) (λ a.
          a-must (read c s y) (read d s y) _ _ (b-read s y) (λ b.
          a-must (apply c op a b) (apply d op a b) _ _ (b-apply op a b)
          (λ w. agree (settle (with_var s to w) m)))))
      a-act (Frame to at) s m = a-turn s m _ _
          (λ m. agree (settle (with_var s to (e.arrays + at)) m))
      a-act (Load to op x) s m = a-turn s m _ _ (λ m.
          a-must (read c s x) (read d s x) _ _ (b-read s x) (λ a.
          a-must (load c op s.memory a) (load d op s.memory a) _ _ (b-load op s.memory a)
          (λ w. agree (settle (with_var s to w) m))))
      a-act (Save op x y) s m = a-turn s m _ _ (λ m.
          a-must (read c s x) (read d s x) _ _ (b-read s x) (λ a.
          a-must (read c s y) (read d s y) _ _ (b-read s y) (λ v.
          a-must (save c op s.memory a v) (save d op s.memory a v) _ _ (b-save op s.memory a v)
          (λ mem. agree (settle (with_memory s mem) m)))))
      a-act (Call f xs to kept) s m = a-ten s m _ _ (λ m.
          a-must (read_all c s xs) (read_all d s xs) _ _ (b-read_all s xs) (λ ws.
          a-call s kept to (call f ws e.used (counted s) m) (other f ws e.used (counted s) m)
          (calls f ws e.used (counted s) m)))
      a-act (Put x) s m = a-turn s m _ _ (λ m.
          a-must (read c s x) (read d s x) _ _ (b-read s x)
          (λ v. agree (settle (with_output s (v % 256)) m)))
      a-act (Get to) s m = a-turn s m _ _ (λ m. agree (settle (with_next s to s.input) m))
      a-act (If x a b) s m = a-turn s m _ _ (λ m.
          a-must (read c s x) (read d s x) _ _ (b-read s x) (λ v.
          a-chosen v (exec c call e a s m) (exec c call e b s m) (exec d other e a s m)
          (exec d other e b s m)
          (a-exec a s m) (a-exec b s m)))
      a-act (Loop a b) s m =
          a-turns (suc m) (exec c call e a) (exec c call e b) (exec d other e a) (exec d other e b)
          (a-exec a)
          (a-exec b) s m
      a-act Break s m = a-turn s m _ _ (λ m. refl)
      a-act Continue s m = a-turn s m _ _ (λ m. refl)
      a-act (Return x) s m = a-turn s m _ _ (λ m. a-return s m x)
      a-act (Halt x) s m = a-turn s m _ _ (λ m.
          a-must (read c s x) (read d s x) _ _ (b-read s x) (λ w. refl))

      a-exec : (a : Code) (s : State) (m : ℕ) → Agrees (exec c call e a s m) (exec d other e a s m)
      a-exec Nop s m = agree (settle s m)
      a-exec (st ▹ a) s m = a-then (act c call e st s m) (act d other e st s m) (exec c call e a)
          (exec d other e a)
          (a-act st s m) (a-exec a)

  -- CALLS

  a-enter : (b : Bool) (call other : Calls) → ((f : ℕ) (ws : List ℕ) (used : ℕ) (s : State) (m : ℕ)
      → Agrees (call f ws used s m) (other f ws used s m))
      → (base : ℕ) (f : Function) (ws : List ℕ) (used : ℕ) (s : State) (m : ℕ)
      → Agrees (enter b c call base f ws used s m) (enter b d other base f ws used s m)
  a-enter true call other calls base f ws used s zero = refl
  a-enter true call other calls base f ws used s (suc m) = refl
  a-enter false call other calls base f ws used s m =
      a-closing (arrays_at base f used) f.arrays _ _
      (a-exec call other calls (env_of base f used) f.body
      (begun base f ws used s) m)

  a-enter_if : (call other : Calls) → ((f : ℕ) (ws : List ℕ) (used : ℕ) (s : State) (m : ℕ)
      → Agrees (call f ws used s m) (other f ws used s m))
      → (base : ℕ) (o : Option Function) (ws : List ℕ) (used : ℕ) (s : State) (m : ℕ)
      → Agrees (enter_if c call base o ws used s m) (enter_if d other base o ws used s m)
  a-enter_if call other calls base None ws used s m = tt
  a-enter_if call other calls base (Some f) ws used s m =
      a-enter (nat_lt frame_limit (used + frame_of f)) call other calls base f ws used s m

  a-calls : (fs : List Function) (base n f : ℕ) (ws : List ℕ) (used : ℕ) (s : State) (m : ℕ)
      → Agrees (calls_within c fs base n f ws used s m) (calls_within d fs base n f ws used s m)
  a-calls fs base zero f ws used s m = refl
  a-calls fs base (suc n) f ws used s m =
      a-enter_if (calls_within c fs base n) (calls_within d fs base n) (a-calls fs base n) base
      (slice_get fs f) ws used
      s m

-- a run that no check ends is the run with fewer checks
pub checks_change_nothing : ChecksChangeNothing
unfolding flat_run
checks_change_nothing c d w P input m =
    a-concluded _ _ (a-calls c d w P.functions (frames_at P.bytes) (suc m) P.main [] 0 (start P input) m)
