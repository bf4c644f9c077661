-- A tame run stays what it is where calls keep no more than what is live after them.
use Rattle.std.proofs.Common.{◌≡◌, ℕ, zero, suc, ◌+◌, ◌%◌, Bool, true, false, List, [], ◌∷◌}
use Rattle.std.proofs.Common.{Option, Some, None, refl, sym, ap, ◌∙◌, subst, nat_lt, slice_get}
use Rattle.ir_forms.specs.declared.flat.Arg.{Arg}
use Rattle.ir_forms.specs.inside.FlatCode.{Step, Let, Frame, Load, Save, Call, Put, Get, If, Loop, Break}
use Rattle.ir_forms.specs.inside.FlatCode.{Continue, Return, Halt, Code, Nop, ◌▹◌, Function, Program}
use Rattle.ir_forms.specs.inside.FlatViews.{stays}
use Rattle.ir_forms.specs.inside.Frames.{frames_at, frame_limit, frame_of, arrays_at}
use Rattle.ir_forms.specs.inside.Cells.{Open, marked, apply, load, save}
use Rattle.ir_forms.specs.inside.FlatSteps.{State, Env, Broke, Again, Gave, TooDeep, Unfinished}
use Rattle.ir_forms.specs.inside.FlatSteps.{read, read_all, with_var, with_memory, with_output, with_next}
use Rattle.ir_forms.specs.inside.FlatSteps.{counted, Calls, return_of, act}
use Rattle.ir_forms.specs.inside.FlatSteps.{exec}
use Rattle.ir_forms.specs.inside.FlatRuns.{argument, env_of, begun, enter, enter_if, calls_within}
use Rattle.ir_forms.specs.inside.FlatRuns.{flat_run, start}
use Rattle.reg_assign.specs.inside.Live.{VarSet, empty, one, both, minus, reads, reads_any, reads_if}
use Rattle.reg_assign.specs.inside.Live.{result}
use Rattle.reg_assign.specs.inside.Live.{uses, head, live_in, live, kept_in, kept, kept_over}
use Rattle.reg_assign.specs.inside.Live.{kept_over_all}
use Rattle.reg_assign.specs.inside.Keeps.{calls_in, calls, keeping_in, keeping, with_body, keeping_all}
use Rattle.reg_assign.specs.inside.Keeps.{SameOutside, EndsAs, tame_and}
use Rattle.reg_assign.proofs.Inclusion.{Within, left_in, right_in, then_in, empty_in}
use Rattle.reg_assign.proofs.Inclusion.{within_itself, live_within, Covers, covers_front}
use Rattle.reg_assign.proofs.Inclusion.{covers_back, one_each_in, one_each}
use Rattle.reg_assign.proofs.Follows.{below, Agree, agree_less, Follow, met}
use Rattle.reg_assign.proofs.Follows.{settle_alike, turn_alike, ten_alike, must_alike, chosen_alike}
use Rattle.reg_assign.proofs.Follows.{then_alike, turns_alike, read_alike, reads_alike, agree_var}
use Rattle.reg_assign.proofs.Follows.{agree_next, agree_memory, agree_output, call_alike}
use Rattle.reg_assign.proofs.Follows.{closing_alike, ended_alike, concluded_alike}

-- each call keeps scalars and temporaries alone
abbrev mutual
  -- each call in a step keeps scalars and temporaries alone
  pub Lasting_in : Step → Type 0
  Lasting_in (Let to op x y) = Unit {0}
  Lasting_in (Frame to at) = Unit {0}
  Lasting_in (Load to op x) = Unit {0}
  Lasting_in (Save op x y) = Unit {0}
  Lasting_in (Call f xs to old) = Within old stays
  Lasting_in (Put x) = Unit {0}
  Lasting_in (Get to) = Unit {0}
  Lasting_in (If x a b) = Lasting a × Lasting b
  Lasting_in (Loop a b) = Lasting a × Lasting b
  Lasting_in Break = Unit {0}
  Lasting_in Continue = Unit {0}
  Lasting_in (Return x) = Unit {0}
  Lasting_in (Halt x) = Unit {0}

  -- each call in some code keeps scalars and temporaries alone
  pub Lasting : Code → Type 0
  Lasting Nop = Unit {0}
  Lasting (s ▹ rest) = Lasting_in s × Lasting rest

abbrev pub CallsAlike : Calls → Calls → Type 0
CallsAlike call other = (f : ℕ) (ws : List ℕ) (used : ℕ) (s t : State) (m : ℕ) → SameOutside s t
    → EndsAs (call f ws used s m) (other f ws used t m)

outside_counted : (s t : State) → SameOutside s t → SameOutside (counted s) (counted t)
outside_counted s t g =
    record { memory = g.memory; input = g.input; output = g.output; rounds = ap suc g.rounds }

module _ (clean : Bool) (keep : ℕ → VarSet) where
  return_alike : (n b k : VarSet) (a : VarSet) (s t : State) (m : ℕ) (x : Option Arg)
      → Within (reads_if x) a → Agree a s t
      → Follow n b k (return_of (tame_and clean) s m x) (return_of (tame_and clean) t m x)
  return_alike n b k a s t m None h g =
      met (λ t. Gave None t m) empty s t (agree_less empty a s t (empty_in a) g)
  return_alike n b k a s t m (Some x) h g =
      must_alike n b k (read (tame_and clean) s x) (read (tame_and clean) t x)
      (λ w. Gave (Some w) s m) (λ w. Gave (Some w) t m)
      (read_alike clean a s t g x h)
      (λ w. met (λ t. Gave (Some w) t m) empty s t (agree_less empty a s t (empty_in a) g))

  module _ (call other : Calls) (alike : CallsAlike call other) (e : Env) where
    mutual
      act_alike : (st : Step) (n b k : VarSet) (i : ℕ) → Lasting_in st
          → Covers keep i (kept_in st n b k) → (s t : State) (m : ℕ) → Agree (live_in st n b k) s t
          → Follow n b k (act (tame_and clean) call e st s m)
          (act (tame_and clean) other e (keeping_in keep i st) t m)
      act_alike (Let to op x y) n b k i l c s t m g =
          let all = live_in (Let to op x y) n b k in
          turn_alike n b k s t m _ _ g.outside (λ m.
          must_alike n b k (read (tame_and clean) s x) (read (tame_and clean) t x) _ _
          (read_alike clean all s t g x
          (then_in (reads x) (both (reads x) (reads y)) all (left_in (reads x) (reads y))
          (left_in (both (reads x) (reads y)) (minus n (one to))))) (λ u.
          must_alike n b k (read (tame_and clean) s y) (read (tame_and clean) t y) _ _
          (read_alike clean all s t g y
          (then_in (reads y) (both (reads x) (reads y)) all (right_in (reads x) (reads y))
          (left_in (both (reads x) (reads y)) (minus n (one to))))) (λ v.
          must_alike n b k (apply (tame_and clean) op u v) (apply (tame_and clean) op u v) _ _
          (below (apply (tame_and clean) op u v) (apply (tame_and clean) op u v) refl) (λ w.
          settle_alike n b k (with_var s to w) (with_var t to w) m
          (agree_var n all to s t w (right_in (both (reads x) (reads y)) (minus n (one to))) g)))))
      act_alike (Frame to at) n b k i l c s t m g =
          turn_alike n b k s t m _ _ g.outside (λ m.
          settle_alike n b k (with_var s to (e.arrays + at)) (with_var t to (e.arrays + at)) m
          (agree_var n (minus n (one to)) to s t (e.arrays + at) (within_itself (minus n (one to)))
          g))
      act_alike (Load to op x) n b k i l c s t m g =
          let all = live_in (Load to op x) n b k in
          turn_alike n b k s t m _ _ g.outside (λ m.
          must_alike n b k (read (tame_and clean) s x) (read (tame_and clean) t x) _ _
          (read_alike clean all s t g x (left_in (reads x) (minus n (one to)))) (λ u.
          must_alike n b k (load (tame_and clean) op s.memory u)
          (load (tame_and clean) op t.memory u)
          _ _
          (below (load (tame_and clean) op s.memory u) (load (tame_and clean) op t.memory u)
          (ap (λ m. load (tame_and clean) op m u) g.outside.memory)) (λ w.
          settle_alike n b k (with_var s to w) (with_var t to w) m
          (agree_var n all to s t w (right_in (reads x) (minus n (one to))) g))))
      act_alike (Save op x y) n b k i l c s t m g =
          let all = live_in (Save op x y) n b k in
          turn_alike n b k s t m _ _ g.outside (λ m.
          must_alike n b k (read (tame_and clean) s x) (read (tame_and clean) t x) _ _
          (read_alike clean all s t g x
          (then_in (reads x) (both (reads x) (reads y)) all (left_in (reads x) (reads y))
          (left_in (both (reads x) (reads y)) n))) (λ u.
          must_alike n b k (read (tame_and clean) s y) (read (tame_and clean) t y) _ _
          (read_alike clean all s t g y
          (then_in (reads y) (both (reads x) (reads y)) all (right_in (reads x) (reads y))
          (left_in (both (reads x) (reads y)) n))) (λ v.
          must_alike n b k (save (tame_and clean) op s.memory u v)
          (save (tame_and clean) op t.memory u v) _ _
          (below (save (tame_and clean) op s.memory u v) (save (tame_and clean) op t.memory u v)
          (ap (λ m. save (tame_and clean) op m u v) g.outside.memory)) (λ w.
          settle_alike n b k (with_memory s w) (with_memory t w) m
          (agree_memory n s t w
          (agree_less n all s t (right_in (both (reads x) (reads y)) n) g))))))
      act_alike (Call f xs to old) n b k i l c s t m g =
          let rest = minus n (result to) in
          let all = both (reads_any xs) rest in
          ten_alike n b k s t m _ _ g.outside (λ m.
          must_alike n b k (read_all (tame_and clean) s xs) (read_all (tame_and clean) t xs) _ _
          (reads_alike clean all s t g xs (left_in (reads_any xs) rest)) (λ ws.
          call_alike n all old (keep i) l to s t (right_in (reads_any xs) rest) c.0 g b k
          (call f ws e.used (counted s) m) (other f ws e.used (counted t) m)
          (alike f ws e.used (counted s) (counted t) m (outside_counted s t g.outside))))
      act_alike (Put x) n b k i l c s t m g =
          let all = both (reads x) n in
          turn_alike n b k s t m _ _ g.outside (λ m.
          must_alike n b k (read (tame_and clean) s x) (read (tame_and clean) t x) _ _
          (read_alike clean all s t g x (left_in (reads x) n)) (λ w.
          settle_alike n b k (with_output s (w % 256)) (with_output t (w % 256)) m
          (agree_output n s t (w % 256) (agree_less n all s t (right_in (reads x) n) g))))
      act_alike (Get to) n b k i l c s t m g =
          turn_alike n b k s t m _ _ g.outside (λ m.
          settle_alike n b k (with_next s to s.input) (with_next t to t.input) m
          (agree_next n (minus n (one to)) to s t (within_itself (minus n (one to))) g))
      act_alike (If x p q) n b k i l c s t m g =
          let lp = live p n b k in
          let lq = live q n b k in
          let all = both (reads x) (both lp lq) in
          turn_alike n b k s t m _ _ g.outside (λ m.
          must_alike n b k (read (tame_and clean) s x) (read (tame_and clean) t x) _ _
          (read_alike clean all s t g x (left_in (reads x) (both lp lq))) (λ w.
          chosen_alike n b k w _ _ _ _
          (exec_alike p n b k i l.0 (covers_front keep i (kept p n b k) (kept q n b k) c) s t m
          (agree_less lp all s t
          (then_in lp (both lp lq) all (left_in lp lq) (right_in (reads x) (both lp lq))) g))
          (exec_alike q n b k (i + calls p) l.1
          (covers_back keep i (kept p n b k) (kept q n b k) (calls p) (one_each p n b k) c) s t m
          (agree_less lq all s t
          (then_in lq (both lp lq) all (right_in lp lq) (right_in (reads x) (both lp lq))) g))))
      act_alike (Loop p q) n b k i l c s t m g =
          let top = head p q n in
          let inside = both (uses p) (uses q) in
          let of_p = then_in (uses p) inside top (left_in (uses p) (uses q)) (right_in n inside) in
          let of_q = then_in (uses q) inside top (right_in (uses p) (uses q)) (right_in n inside) in
          turns_alike n b k top _ _ (λ s t m g.
          exec_alike q top empty empty (i + calls p) l.1
          (covers_back keep i (kept p top n top) (kept q top empty empty) (calls p)
          (one_each p top n top) c) s t m
          (agree_less (live q top empty empty) top s t
          (live_within q top empty empty top (within_itself top) (empty_in top) (empty_in top)
          of_q) g))
          _ _ (λ s t m g.
          exec_alike p top n top i l.0
          (covers_front keep i (kept p top n top) (kept q top empty empty) c) s t m
          (agree_less (live p top n top) top s t
          (live_within p top n top top (within_itself top) (left_in n inside) (within_itself top)
          of_p) g))
          (suc m) s t m g
      act_alike Break n b k i l c s t m g =
          turn_alike n b k s t m _ _ g.outside (λ m. met (λ t. Broke t m) b s t g)
      act_alike Continue n b k i l c s t m g =
          turn_alike n b k s t m _ _ g.outside (λ m. met (λ t. Again t m) k s t g)
      act_alike (Return x) n b k i l c s t m g =
          turn_alike n b k s t m _ _ g.outside (λ m.
          return_alike n b k (reads_if x) s t m x (within_itself (reads_if x)) g)
      act_alike (Halt x) n b k i l c s t m g =
          turn_alike n b k s t m _ _ g.outside (λ m.
          must_alike n b k (read (tame_and clean) s x) (read (tame_and clean) t x) _ _
          (read_alike clean (reads x) s t g x (within_itself (reads x)))
          (λ w. ended_alike s t w m g.outside))

      exec_alike : (a : Code) (n b k : VarSet) (i : ℕ) → Lasting a → Covers keep i (kept a n b k)
          → (s t : State) (m : ℕ) → Agree (live a n b k) s t
          → Follow n b k (exec (tame_and clean) call e a s m)
          (exec (tame_and clean) other e (keeping keep i a) t m)
      exec_alike Nop n b k i l c s t m g = settle_alike n b k s t m g
      exec_alike (st ▹ a) n b k i l c s t m g =
          let mid = live a n b k in
          then_alike n b k mid _ _ _ _
          (act_alike st mid b k i l.0
          (covers_front keep i (kept_in st mid b k) (kept a n b k) c) s t m g)
          (exec_alike a n b k (i + calls_in st) l.1
          (covers_back keep i (kept_in st mid b k) (kept a n b k) (calls_in st)
          (one_each_in st mid b k) c))

  -- CALLS

  begun_alike : (base : ℕ) (f : Function) (ws : List ℕ) (used : ℕ) (a : VarSet) (s t : State)
      → SameOutside s t → Agree a (begun base f ws used s) (begun base f ws used t)
  begun_alike base f ws used a s t g = record {
    vars = λ v e. below (argument ws v) (argument ws v) refl;
    outside = record {
      memory = ap (λ m. marked m (arrays_at base f used) f.arrays Open) g.memory;
      input = g.input;
      output = g.output;
      rounds = g.rounds;
    };
  }

  enter_alike : (full : Bool) (call other : Calls) → CallsAlike call other
      → (base : ℕ) (f : Function)
      (i : ℕ) → Lasting f.body → Covers keep i (kept_over f)
      → (ws : List ℕ) (used : ℕ) (s t : State)
      (m : ℕ) → SameOutside s t
      → EndsAs (enter full (tame_and clean) call base f ws used s m)
      (enter full (tame_and clean) other base (with_body f (keeping keep i f.body)) ws used t m)
  enter_alike true call other h base f i l c ws used s t zero g =
      ap (λ o. Unfinished o t.rounds) g.output ∙ ap (Unfinished s.output) g.rounds
  enter_alike true call other h base f i l c ws used s t (suc m) g = ap TooDeep g.output
  enter_alike false call other h base f i l c ws used s t m g =
      closing_alike (arrays_at base f used) f.arrays _ _
      (exec_alike call other h (env_of base f used) f.body empty empty empty i l c _ _ m
      (begun_alike base f ws used (live f.body empty empty empty) s t g))

  -- a function, and the one whose calls keep only some variables
  abbrev Changed : Function → Option Function → Type 0
  Changed f o =
      (i : ℕ) × Covers keep i (kept_over f) × (o ≡ Some (with_body f (keeping keep i f.body)))

  abbrev Found : Option Function → Option Function → Type 0
  Found None o = o ≡ None
  Found (Some f) o = Changed f o

  found : (fs : List Function) (i : ℕ) → Covers keep i (kept_over_all fs) → (f : ℕ)
      → Found (slice_get fs f) (slice_get (keeping_all keep i fs) f)
  found [] i c f = refl
  found (g ∷ fs) i c zero =
      (i, covers_front keep i (kept_over g) (kept_over_all fs) c, refl)
  found (g ∷ fs) i c (suc f) =
      found fs (i + calls g.body)
      (covers_back keep i (kept_over g) (kept_over_all fs) (calls g.body)
      (one_each g.body empty empty empty) c) f

  enter_if_alike : (call other : Calls) → CallsAlike call other → (base : ℕ) (o p : Option Function)
      → Found o p → ((f : Function) → o ≡ Some f → Lasting f.body) → (ws : List ℕ) (used : ℕ)
      (s t : State) (m : ℕ) → SameOutside s t
      → EndsAs (enter_if (tame_and clean) call base o ws used s m)
      (enter_if (tame_and clean) other base p ws used t m)
  enter_if_alike call other h base None p e l ws used s t m g = tt
  enter_if_alike call other h base (Some f) p e l ws used s t m g =
      subst (λ p. EndsAs (enter_if (tame_and clean) call base (Some f) ws used s m)
      (enter_if (tame_and clean) other base p ws used t m)) (sym e.2)
      (enter_alike (nat_lt frame_limit (used + frame_of f)) call other h base f e.0
      (l f refl) e.1 ws
      used s t m g)

  pub calls_alike : (fs : List Function) → Covers keep 0 (kept_over_all fs)
      → ((n : ℕ) (f : Function) → slice_get fs n ≡ Some f → Lasting f.body) → (base d : ℕ)
      → CallsAlike (calls_within (tame_and clean) fs base d)
      (calls_within (tame_and clean) (keeping_all keep 0 fs) base d)
  calls_alike fs c l base zero f ws used s t m g =
      ap (λ o. Unfinished o t.rounds) g.output ∙ ap (Unfinished s.output) g.rounds
  calls_alike fs c l base (suc d) f ws used s t m g =
      enter_if_alike (calls_within (tame_and clean) fs base d)
      (calls_within (tame_and clean) (keeping_all keep 0 fs) base d)
      (calls_alike fs c l base d) base
      (slice_get fs f) (slice_get (keeping_all keep 0 fs) f) (found fs 0 c f) (l f) ws used s t m g

-- the runs of a program and of the one whose calls keep at least what is live after them
pub runs_alike : (keep : ℕ → VarSet) (P : Program) → Covers keep 0 (kept_over_all P.functions)
    → ((n : ℕ) (f : Function) → slice_get P.functions n ≡ Some f → Lasting f.body)
    → (clean : Bool) (input : List ℕ) (m : ℕ)
    → EndsAs (flat_run (tame_and clean) P input m)
    (flat_run (tame_and clean) (record {
      functions = keeping_all keep 0 P.functions;
      bytes = P.bytes;
      main = P.main;
    }) input m)
unfolding flat_run
runs_alike keep P c l clean input m =
    concluded_alike _ _
    (calls_alike clean keep P.functions c l (frames_at P.bytes) (suc m) P.main [] 0 (start P input)
    (start P input) m (record { memory = refl; input = refl; output = refl; rounds = refl }))
