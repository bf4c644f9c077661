-- Calls follow the evaluation: of functions, of `getchar`, `putchar` and `exit`.
use Rattle.std.proofs.Common.{◌≡◌, ◌≢◌, ℕ, zero, suc, ◌+◌, ◌-◌, ◌*◌, ◌%◌, ◌^◌, ◌<◌, ◌≤◌, Bool, true}
use Rattle.std.proofs.Common.{false, cond, List, [], ◌∷◌, ◌++◌, map, length, take, Option, Some}
use Rattle.std.proofs.Common.{None, refl, sym, ap, ap₂, ◌∙◌, subst, mul-suc, arith}
use Rattle.std.specs.Prelude.{slice_get, nat_eq, nat_le, nat_lt}
use Rattle.std.proofs.lemmas.Bool.Decides.{nat_tests}
use Rattle.c_tree.specs.declared.Kind.{Kind}
use Rattle.c_tree.specs.declared.Kind.TheVariants.{Int, Long}
use Rattle.c_tree.specs.declared.Callee.{Callee}
use Rattle.c_tree.specs.declared.Callee.TheVariants as callee
use Rattle.c_tree.specs.declared.Slot.{Slot}
use Rattle.c_tree.specs.declared.TypedExpr.{TypedExpr}
use Rattle.c_tree.specs.declared.TypedStmt.{TypedStmt}
use Rattle.c_tree.specs.declared.TypedFunc.{TypedFunc}
use Rattle.c_tree.specs.declared.TypedProgram.{TypedProgram}
use Rattle.c_tree.specs.declared.TypedNode.TheOpen as node
use Rattle.c_meaning_spec.specs.declared.fault.Fault.TheVariants.{IllFormed}
use Rattle.c_meaning_spec.specs.declared.signal.Signal.{Signal}
use Rattle.c_meaning_spec.specs.declared.signal.Signal.TheVariants.{Nothing, Value, Breaks, Continues}
use Rattle.c_meaning_spec.specs.declared.signal.Signal.TheVariants.{Returns}
use Rattle.c_meaning_spec.specs.declared.signal.Ending.TheVariants.{Undefined, Deep}
use Rattle.c_meaning_spec.specs.declared.signal.Halt.TheVariants.{Faults}
use Rattle.c_meaning_spec.specs.State.{Result, Go, Over, spend, want}
use Rattle.c_meaning_spec.specs.inside.State.{then}
use Rattle.c_meaning_spec.specs.State as eval
use Rattle.c_meaning_spec.specs.Task.{Of, Run}
use Rattle.c_meaning_spec.specs.Call.{frame, entered, entered_if, enter, left, read_from, get_char}
use Rattle.c_meaning_spec.specs.Call.{put_char, exit_with, called, arguments}
use Rattle.c_meaning_spec.specs.Expression.{opened}
use Rattle.c_meaning_spec.specs.Eval.{meaning}
use Rattle.trips_isa.specs.declared.op.Op.TheVariants as op
use Rattle.trips_isa.specs.Stores.{data_size}
use Rattle.ir_forms.specs.declared.flat.Arg.{Arg}
use Rattle.ir_forms.specs.declared.flat.Arg.TheVariants.{Const, Var}
use Rattle.ir_forms.specs.inside.FlatCode.{Code, Nop, Then, only, Put, Get, Let, Function}
use Rattle.ir_forms.specs.inside.FlatCode as flat
use Rattle.ir_forms.specs.inside.FlatViews.{stays}
use Rattle.ir_forms.specs.inside.Frames.{frame_limit, frame_of}
use Rattle.ir_forms.specs.inside.Cells.{apply}
use Rattle.ir_forms.specs.inside.FlatSteps.{State, TooDeep, counted, settle, read_all, with_output}
use Rattle.ir_forms.specs.inside.FlatSteps.{with_next, with_var, var_put, without_vars}
use Rattle.ir_forms.specs.inside.FlatRuns.{checked}
use Rattle.ir_forms.proofs.Leads.{Leads}
use Rattle.ir_forms.proofs.Steps.{then_moves, then_nop}
use Rattle.ir_forms.proofs.Statements.{get_leads, put_leads, halt_leads}
use Rattle.ir_forms.proofs.CallRuns.{call_leads}
use Rattle.flat_lower.specs.inside.Tree.{Func}
use Rattle.flat_lower.specs.inside.Tree as tree
use Rattle.flat_lower.specs.inside.TreeViews.{func_of, expr_of, exprs_of, stmt_of, source_of}
use Rattle.c_constant.specs.Kinds.{IsWord}
use Rattle.flat_lower.specs.inside.Operations.{temp}
use Rattle.flat_lower.specs.inside.Expressions.{temps, result_var, call_code, args_code, expr_code}
use Rattle.flat_lower.specs.inside.Fits.{FitsArgs, FitsCall, FitsExpr, FitsOne, FitsFunc, FitsSource}
use Rattle.flat_lower.specs.inside.Fits.{FitsStmt}
use Rattle.flat_lower.specs.inside.Sizes.{nodes, all_nodes, size_of, IsMost}
use Rattle.flat_lower.proofs.Straight.{puts_let, var_read, put_at, put_other}
use Rattle.flat_lower.specs.declared.around.Around.TheVariants as around
use Rattle.flat_lower.proofs.Follows.{Post, Goes, Follows, FollowsOver, wanted, moved}
use Rattle.flat_lower.proofs.Related.{Scene, IsScene, scope, context, frames_from, Related}
use Rattle.flat_lower.proofs.Related.{recounted, unseen}
use Rattle.flat_lower.proofs.TreeFacts.{kind_is}
use Rattle.flat_lower.proofs.Values.{KeptIs, ValueIs, Valued, value_at, keeps_all, keeps_both}
use Rattle.flat_lower.proofs.Values.{functions, base, FollowsOf, run, code, value_end, operand}
use Rattle.flat_lower.proofs.Values.{spending}
use Rattle.flat_lower.proofs.Simple.{FollowsHere}
use Rattle.flat_lower.proofs.Entered.{ArgsAre, args_count, called_scene, called_is, begins}
use Rattle.flat_lower.proofs.Entered.{frame_is}
use Rattle.flat_lower.proofs.Returns.{FollowsRun, lowered_of, lowered_is, call_dives}
use Rattle.flat_lower.proofs.CallsFollow.{comes_back}
use Rattle.flat_lower.proofs.Arguments.{args_follow}

-- a function by its number
pub record TypedAt (fs : List TypedFunc) (j : ℕ) (g : Func) : Type 0 where
  pub f : TypedFunc
  pub found : slice_get fs j ≡ Some f
  pub is : func_of f ≡ g

-- each function of the source is the one of a typed function
pub typed_at : (fs : List TypedFunc) (j : ℕ) (g : Func) → slice_get (map func_of fs) j ≡ Some g
    → TypedAt fs j g
typed_at [] j g h = absurd (cc h)
typed_at (f ∷ fs) zero g h = record { f = f; found = refl; is = cc h }
typed_at (f ∷ fs) (suc j) g h = let x = typed_at fs j g h in record { f = x.f; found = x.found; is = x.is }

-- each typed function is one of the source
pub func_at : (fs : List TypedFunc) (j : ℕ) (f : TypedFunc) → slice_get fs j ≡ Some f
    → slice_get (map func_of fs) j ≡ Some (func_of f)
func_at [] j f h = absurd (cc h)
func_at (g ∷ fs) zero f h = let e : g ≡ f = cc h in ap (λ f. Some (func_of f)) e
func_at (g ∷ fs) (suc j) f h = func_at fs j f h

-- the limit of the frames, as either test says it
pub within : (x m : ℕ) → nat_le x m ≡ true → nat_lt m x ≡ false
within x m h = grind (arith, nat_tests)

-- a number that is not found at most another is found larger
pub beyond : (x m : ℕ) → nat_le x m ≡ false → nat_lt m x ≡ true
beyond x m h = grind (arith, nat_tests)

-- a number that is found at most another is so
pub under : (x m : ℕ) → nat_le x m ≡ true → x ≤ m
under x m h = grind (arith, nat_tests)

same_count : (n m : ℕ) → nat_eq n m ≡ true → n ≡ m
same_count n m h = grind (arith, nat_tests)

-- the limit of frames is 2^20 bytes
pub limit : frame_limit ≡ 1048576
unfolding frame_limit
limit = refl

byte_fits : (w : ℕ) → w < 256 → IsWord Int w
byte_fits w h = record { below = omega arith; narrow = omega arith }

module _ (P : TypedProgram) (most : ℕ) (sound : FitsSource (source_of P)) (large : IsMost (source_of P) most)
    (S : Scene) (y : IsScene P S) where
  -- FUNCTIONS

  -- main is of type int
  main_is_int : (j : ℕ) (f : TypedFunc) → slice_get P.functions j ≡ Some f → nat_eq j P.main ≡ true
      → f.result ≡ Some Int
  main_is_int j f found e =
      let main = sound.main in
      let same : j ≡ P.main = same_count j P.main e in
      let at : slice_get (map func_of P.functions) P.main ≡ Some (func_of f) = subst
      (λ n. slice_get (map func_of P.functions) n ≡ Some (func_of f)) same (func_at P.functions j f found) in
      let is : main.main ≡ func_of f = cc (sym main.found ∙ at) in
      sym (ap (λ (g : Func). g.result) is) ∙ main.result

  -- the arguments are there, and a step is spent: the frame has room or it has not
  entering : (j : ℕ) (f : TypedFunc) (found : slice_get P.functions j ≡ Some f) (xs : List Arg)
      (ws vs : List ℕ) (d top low : ℕ) (k : Option Kind) (s : eval.State) (f0 g : State) → d < 16
      → FollowsRun P most f.body (entered f ws s) → k ≡ f.result
      → ArgsAre P S.objects (take f.params f.scalars) ws vs → read_all checked g xs ≡ Some vs
      → KeptIs S d f0 s g → length ws ≡ f.params → 8 * s.stock + 12 ≤ top
      → low ≤ s.stock + most * g.rounds
      → (b : Bool) → nat_le (s.room + frame f) 1048576 ≡ b
      → FollowsHere P most S y d k f0 (only (flat.Call j xs (result_var k d) stays)) g top low
      (entered_if (meaning P) (nat_eq j P.main) b f ws s)
  entering j f found xs ws vs d top low k s f0 g ld h ek are reads ke count hu hl false e =
      let F = lowered_of P most f (nat_eq j P.main) in
      let same : s.room + frame f ≡ S.env.used + frame_of F = ap₂ (λ a b. a + b) ke.rel.room
      (frame_is P f F (lowered_is P most f (nat_eq j P.main))) in
      let full : nat_lt frame_limit (S.env.used + frame_of F) ≡ true = subst
      (λ m. nat_lt m (S.env.used + frame_of F) ≡ true) (sym limit)
      (beyond (S.env.used + frame_of F) 1048576 (subst (λ x. nat_le x 1048576 ≡ false) same e)) in
      record {
        t = 11;
        upper = omega arith;
        leads = call_leads checked (functions P most) (base P most) S.env j xs
            (result_var k d) stays g vs 1 (λ n. TooDeep g.output) (λ n. TooDeep s.output) reads
            (λ n. ap TooDeep ke.rel.output)
            (call_dives P most S.env.used j f found vs (counted g) full);
      }
  entering j f found xs ws vs d top low k s f0 g ld h ek are reads ke count hu hl true e =
      let F = lowered_of P most f (nat_eq j P.main) in
      let is = lowered_is P most f (nat_eq j P.main) in
      let fits : FitsFunc (source_of P) (func_of f) = sound.each j (func_of f) (func_at P.functions j f found) in
      let size : 1 + size_of (stmt_of f.body) ≤ most = large j (func_of f) (func_at P.functions j f found) in
      let few = fits.scalars in
      let params = fits.params in
      let same : s.room + frame f ≡ S.env.used + frame_of F = ap₂ (λ a b. a + b) ke.rel.room (frame_is P f F is) in
      let below : nat_le (S.env.used + frame_of F) 1048576 ≡ true = subst (λ x. nat_le x 1048576 ≡ true) same e in
      let room : nat_lt frame_limit (S.env.used + frame_of F) ≡ false = subst
      (λ m. nat_lt m (S.env.used + frame_of F) ≡ false) (sym limit)
      (within (S.env.used + frame_of F) 1048576 below) in
      let le : S.env.used + frame_of F ≤ frame_limit = subst (λ m. S.env.used + frame_of F ≤ m) (sym limit)
      (under (S.env.used + frame_of F) 1048576 below) in
      let all = sound.room in
      let scene = called_is P S y f F is few (omega arith) in
      let first = begins P S y f F is ws vs s (counted g) (omega arith) are (recounted S s g ke.rel) in
      comes_back P most S y j f found vs g xs reads d ld k ek f0 room (main_is_int j f found) s top low
      (meaning P (Run f.body) (entered f ws s)) ke.rel ke (omega arith)
      (h (called_scene P S f F) scene around.Nowhere (top - 11) low _ fits.body (omega arith) first (omega arith)
      (omega (arith, mul-suc most g.rounds)))

  -- the whole call, from its arguments on
  calling : (j : ℕ) (f : TypedFunc) (found : slice_get P.functions j ≡ Some f) (xs : List Arg)
      (ws vs : List ℕ) (d top low bound : ℕ) (k : Option Kind) (s : eval.State) (f0 g : State)
      → d < 16 → ((st : TypedStmt) (s1 : eval.State) → s1.stock < bound → FollowsRun P most st s1)
      → s.stock < bound → k ≡ f.result → ArgsAre P S.objects (take f.params f.scalars) ws vs
      → read_all checked g xs ≡ Some vs → KeptIs S d f0 s g → 8 * s.stock + 4 ≤ top
      → low ≤ s.stock + most * g.rounds - 1
      → FollowsHere P most S y d k f0 (only (flat.Call j xs (result_var k d) stays)) g top low
      (called (meaning P) P (callee.Func j) ws s)
  calling j f found xs ws vs d top low bound k s f0 g ld h lt ek are reads ke hu hl =
      let a = only (flat.Call j xs (result_var k d) stays) in
      spending P most S y (Valued S d k f0) a s g top low
      (enter (meaning P) (nat_eq j P.main) (slice_get P.functions j) ws) ke.rel (omega arith) (λ n e rn.
      let s0 = record s { stock = n } in
      subst (λ o. FollowsHere P most S y d k f0 a g top low (enter (meaning P) (nat_eq j P.main) o ws s0)) (sym found)
      (go n s0 (h f.body (entered f ws s0) (omega arith)) (record { rel = rn; kept = ke.kept })
      (omega arith) (omega arith) (nat_eq (length ws) f.params) refl))
    where
      go : (n : ℕ) (s0 : eval.State) → FollowsRun P most f.body (entered f ws s0)
          → KeptIs S d f0 s0 g → 8 * s0.stock + 12 ≤ top → low ≤ s0.stock + most * g.rounds
          → (b : Bool) → nat_eq (length ws) f.params ≡ b
          → FollowsHere P most S y d k f0 (only (flat.Call j xs (result_var k d) stays)) g top low
          (cond b (entered_if (meaning P) (nat_eq j P.main) (nat_le (s0.room + frame f) 1048576) f ws
          s0)
          (Over (Faults IllFormed) s0))
      go n s0 hr k0 hu0 hl0 false e = tt
      go n s0 hr k0 hu0 hl0 true e =
          entering j f found xs ws vs d top low k s0 f0 g ld hr ek are reads k0
          (same_count (length ws) f.params e) hu0 hl0 (nat_le (s0.room + frame f) 1048576) refl

  -- INPUT

  getting : (input : List ℕ) (d top low : ℕ) (s : eval.State) (f : State) → d < 16 → s.input ≡ input
      → Related S s f → 1 + 8 * s.stock ≤ top → low ≤ s.stock + most * f.rounds
      → FollowsHere P most S y d (Some Int) f (only (Get (temp d))) f top low (read_from input s)
  getting [] d top low s f ld e r hu hl = record {
    t = 1;
    to = with_var f (temp d) (2 ^ 64 - 1);
    upper = hu;
    lower = hl;
    holds = record {
      keeps = record {
        rel = unseen S y s f (with_var f (temp d) (2 ^ 64 - 1))
            (λ i lt. put_other f.vars (temp d) (Some (2 ^ 64 - 1)) i (λ q. omega arith)) refl refl
            refl r;
        kept = λ j lt. put_other f.vars (temp d) (Some (2 ^ 64 - 1)) (temp j) (λ q. omega arith);
      };
      kind = Int;
      is_kind = refl;
      fits = record { below = omega arith; narrow = omega arith };
      is = put_at f.vars (temp d) (Some (2 ^ 64 - 1));
    };
    leads = subst (λ z. Leads (run P most S y (only (Get (temp d))) f) 1
        (settle (with_next f (temp d) z))) (r.input ∙ e)
        (get_leads checked (functions P most) (base P most) S.env (temp d) f);
  }
  getting (b ∷ rest) d top low s f ld e r hu hl =
      let byte : b < 256 = r.bytes 0 b (ap (λ z. slice_get z 0) e) in
      let g = with_next f (temp d) (b ∷ rest) in
      let u = unseen S y s f (with_var f (temp d) b) (λ i lt. put_other f.vars (temp d) (Some b) i (λ q. omega arith))
      refl refl refl r in
      record {
        t = 1;
        to = g;
        upper = hu;
        lower = hl;
        holds = record {
          keeps = record {
            rel = record {
              scalars = u.scalars;
              count = u.count;
              stored = u.stored;
              rows = u.rows;
              input = refl;
              bytes = λ i c h. r.bytes (suc i) c (ap (λ z. slice_get z (suc i)) e ∙ h);
              output = u.output;
              first = u.first;
              room = u.room;
            };
            kept = λ j lt. put_other f.vars (temp d) (Some b) (temp j) (λ q. omega arith);
          };
          kind = Int;
          is_kind = refl;
          fits = byte_fits b byte;
          is = put_at f.vars (temp d) (Some b);
        };
        leads = subst (λ z. Leads (run P most S y (only (Get (temp d))) f) 1
            (settle (with_next f (temp d) z))) (r.input ∙ e)
            (get_leads checked (functions P most) (base P most) S.env (temp d) f);
      }

  -- OUTPUT

  putting : (w d top low : ℕ) (s : eval.State) (f0 g : State) (j : Option Kind) → d < 16
      → ValueIs S d j f0 w s g → 2 + 8 * s.stock ≤ top → low ≤ s.stock + most * g.rounds
      → FollowsHere P most S y d (Some Int) f0
      (call_code callee.PutChar (Some Int) d (Var (temp d) ∷ [])) g top low (put_char (w ∷ []) s)
  unfolding apply
  putting w d top low s f0 g j ld v hu hl =
      let fs = functions P most in
      let b = base P most in
      let a = only (Put (Var (temp d))) in
      let c = only (Let (temp d) op.Extub (Var (temp d)) (Const 0)) in
      let g1 = with_output g (w % 256) in
      let s1 = record s { output = s.output ++ (w % 256) ∷ [] } in
      let r = v.keeps.rel in
      let k1 : KeptIs S d f0 s1 g1 = record {
        rel = record {
          scalars = r.scalars;
          count = r.count;
          stored = r.stored;
          rows = r.rows;
          input = r.input;
          bytes = r.bytes;
          output = ap (λ o. o ++ (w % 256) ∷ []) r.output;
          first = r.first;
          room = r.room;
        };
        kept = v.keeps.kept;
      } in
      moved most (Valued S d (Some Int) f0) (run P most S y (Then a c) g)
      (run P most S y c g1) 1 top low (Go (Value (w % 256)) s1)
      (then_moves checked fs b S.env a c g g1 1
      (put_leads checked fs b S.env (Var (temp d)) g w (var_read fs b S.env g (temp d) w v.is)))
      (omega arith)
      (value_end P most S y d (Some Int) f0 g1 c 1 80 (w % 256) (top - 1) low s1 Int ld
      (omega arith) refl (byte_fits (w % 256) (omega arith)) k1
      (puts_let fs b S.env op.Extub (Var (temp d)) (Const 0) g1 1 (temp d) 80 w 0 (w % 256)
      (omega arith) (var_read fs b S.env g1 (temp d) w v.is) refl refl) (omega arith)
      (omega arith))

  -- THE END OF THE RUN

  exiting : (k : Option Kind) (w d top low : ℕ) (s : eval.State) (f0 g : State) → IsWord Long w
      → g.vars (temp d) ≡ Some w → Related S s g → 1 + 8 * s.stock ≤ top
      → low ≤ s.stock + most * g.rounds
      → FollowsHere P most S y d k f0 (only (flat.Halt (Var (temp d)))) g top low (exit_with (w ∷ []) s)
  exiting k w d top low s f0 g fits is r hu hl =
      let fs = functions P most in
      let b = base P most in
      record {
        t = 1;
        to = without_vars g;
        upper = hu;
        lower = hl;
        output = r.output;
        fits = fits;
        leads = halt_leads checked fs b S.env (Var (temp d)) g w (var_read fs b S.env g (temp d) w is);
      }

  -- THE NODE

  -- the code of a call follows the evaluation, where its arguments and the functions' bodies do
  pub call_node : (k : Option Kind) (c : Callee) (es : List TypedExpr) (d top low : ℕ)
      (s : eval.State) (f : State) → ((e : TypedExpr) (s1 : eval.State) → s1.stock < s.stock
      → FollowsOf P most e s1) → ((st : TypedStmt) (s1 : eval.State) → s1.stock < s.stock
      → FollowsRun P most st s1) → FitsExpr (scope P S) d (tree.Call k c (exprs_of (map expr_of es)))
      → Related S s f → 8 * s.stock ≤ top + 4
      → low ≤ s.stock + most * f.rounds - (2 + all_nodes (exprs_of (map expr_of es)))
      → FollowsHere P most S y d k f (expr_code (context P S) d
      (tree.Call k c (exprs_of (map expr_of es)))) f top low
      (spend s (opened (meaning P) P (node.Call c es)))
  call_node k (callee.Func j) es d top low s f he hs t r hu hl =
      let x = typed_at P.functions j t.1.0 t.1.1 in
      let tail = only (flat.Call j (temps d (exprs_of (map expr_of es))) (result_var k d) stays) in
      let fits = subst (λ g. (k ≡ g.result) × FitsArgs (scope P S) d (take g.params g.scalars)
      (exprs_of (map expr_of es))) (sym x.is) (t.1.2, t.1.3) in
      spending P most S y (Valued S d k f)
      (expr_code (context P S) d (tree.Call k (callee.Func j) (exprs_of (map expr_of es)))) s f
      top low (opened (meaning P) P (node.Call (callee.Func j) es)) r (omega arith) (λ n q rn.
      let s0 = record s { stock = n } in
      args_follow P most S y (Valued S d k f) es (take x.f.params x.f.scalars) [] d tail
      (callee.Func j) s0 f top low s.stock he (omega arith) fits.1 rn (omega arith) (omega arith)
      (λ ws vs s1 g up are reads ke le hu1 hl1.
      calling j x.f x.found (temps d (exprs_of (map expr_of es))) ws vs d up low s.stock k s1 f g
      t.0 hs (omega arith) fits.0 are reads ke hu1 hl1))
  call_node k callee.GetChar [] d top low s f he hs t r hu hl =
      subst (λ k. FollowsHere P most S y d k f (only (Get (temp d))) f top low
      (spend s (opened (meaning P) P (node.Call callee.GetChar [])))) (sym t.1.0)
      (spending P most S y (Valued S d (Some Int) f) (only (Get (temp d))) s f top low
      (opened (meaning P) P (node.Call callee.GetChar [])) r (omega arith) (λ n q rn.
      let s0 = record s { stock = n } in
      spending P most S y (Valued S d (Some Int) f) (only (Get (temp d))) s0 f top low
      (get_char []) rn (omega arith) (λ m q1 rm.
      getting s.input d top low (record s { stock = m }) f t.0 refl rm (omega arith)
      (omega arith))))
  call_node k callee.GetChar (e ∷ es) d top low s f he hs t r hu hl = absurd (cc t.1.1)
  call_node k callee.PutChar [] d top low s f he hs t r hu hl = absurd t.1.1
  call_node k callee.PutChar (e ∷ e2 ∷ es) d top low s f he hs t r hu hl = absurd (cc t.1.1.1)
  call_node k callee.PutChar (e ∷ []) d top low s f he hs t r hu hl =
      let b = call_code callee.PutChar (Some Int) d (Var (temp d) ∷ []) in
      let whole : Then (Then (code P most S y d e) Nop) b ≡ Then (code P most S y d e) b = ap (λ (a : Code). Then a b)
      (then_nop (code P most S y d e)) in
      subst (λ k. FollowsHere P most S y d k f (Then (Then (code P most S y d e) Nop) b) f top low
      (spend s (opened (meaning P) P (node.Call callee.PutChar (e ∷ []))))) (sym t.1.0)
      (subst (λ a. FollowsHere P most S y d (Some Int) f a f top low
      (spend s (opened (meaning P) P (node.Call callee.PutChar (e ∷ []))))) (sym whole)
      (spending P most S y (Valued S d (Some Int) f) (Then (code P most S y d e) b) s f top low
      (opened (meaning P) P (node.Call callee.PutChar (e ∷ []))) r (omega arith) (λ n q rn.
      let s0 = record s { stock = n } in
      operand P most S y (Valued S d (Some Int) f) e d b s0 f top low
      (λ v s. want v s (λ w. called (meaning P) P callee.PutChar (w ∷ []) s))
      (he e s0 (omega arith)) t.1.1.0 rn (omega arith) (omega arith)
      (λ v s1 g t1 hv ls us ds.
      wanted most (Valued S d (Some Int) f) (run P most S y b g) (top - t1) low v s1
      (λ w. called (meaning P) P callee.PutChar (w ∷ []) s1) (λ w ew.
      let x = value_at S d e.kind f v w s1 g ew hv in
      spending P most S y (Valued S d (Some Int) f) b s1 g (top - t1) low
      (put_char (w ∷ [])) x.keeps.rel (omega arith) (λ m q1 rm.
      putting w d (top - t1) low (record s1 { stock = m }) f g e.kind t.0
      (record {
        keeps = record { rel = rm; kept = x.keeps.kept };
        kind = x.kind;
        is_kind = x.is_kind;
        fits = x.fits;
        is = x.is;
      }) (omega arith) (omega arith)))))))
  call_node k callee.Exit [] d top low s f he hs t r hu hl = absurd t.1.1
  call_node k callee.Exit (e ∷ e2 ∷ es) d top low s f he hs t r hu hl = absurd t.1.1.1
  call_node k callee.Exit (e ∷ []) d top low s f he hs t r hu hl =
      let b = only (flat.Halt (Var (temp d))) in
      let whole : Then (Then (code P most S y d e) Nop) b ≡ Then (code P most S y d e) b = ap (λ (a : Code). Then a b)
      (then_nop (code P most S y d e)) in
      subst (λ a. FollowsHere P most S y d k f a f top low
      (spend s (opened (meaning P) P (node.Call callee.Exit (e ∷ []))))) (sym whole)
      (spending P most S y (Valued S d k f) (Then (code P most S y d e) b) s f top low
      (opened (meaning P) P (node.Call callee.Exit (e ∷ []))) r (omega arith) (λ n q rn.
      let s0 = record s { stock = n } in
      operand P most S y (Valued S d k f) e d b s0 f top low
      (λ v s. want v s (λ w. called (meaning P) P callee.Exit (w ∷ []) s))
      (he e s0 (omega arith)) t.1.1.0.0 rn (omega arith) (omega arith)
      (λ v s1 g t1 hv ls us ds.
      wanted most (Valued S d k f) (run P most S y b g) (top - t1) low v s1
      (λ w. called (meaning P) P callee.Exit (w ∷ []) s1) (λ w ew.
      let x = value_at S d e.kind f v w s1 g ew hv in
      let same : x.kind ≡ Long = cc (sym x.is_kind ∙ sym (kind_is e) ∙ t.1.1.0.1) in
      spending P most S y (Valued S d k f) b s1 g (top - t1) low
      (exit_with (w ∷ [])) x.keeps.rel (omega arith) (λ m q1 rm.
      exiting k w d (top - t1) low (record s1 { stock = m }) f g
      (subst (λ j. IsWord j w) same x.fits) x.is rm (omega arith) (omega arith))))))
