-- Code does what it means where its statements do, and calls of every depth do.
use Rattle.std.proofs.Common.{◌≡◌, ℕ, zero, suc, ◌+◌, false, List, map, Some, refl, sym, ◌∙◌, subst, arith}
use Rattle.std.proofs.Common.{nat_lt, slice_get}
use Rattle.std.proofs.lemmas.Option.{slice_get-map}
use Rattle.ir_forms.specs.inside.Frames.{frame_limit}
use Rattle.ir_forms.specs.inside.FlatSteps.{State, Res, Gone, Broke, Again, Gave, Halts, Unfinished, Wild, Calls}
use Rattle.ir_forms.specs.inside.FlatSteps.{act, exec, then_run}
use Rattle.ir_forms.specs.inside.FlatRuns.{calls_within, enter_if}
use Rattle.ir_forms.specs.inside.HyperCode.{Block}
use Rattle.ir_forms.specs.inside.HyperRuns.{Machine, block_at}
use Rattle.hyper_build.specs.inside.Tree.{Stmt, LetAt, FrameAt, LoadAt, SaveAt, CallAt, PutAt, GetAt, IfAt, LoopAt}
use Rattle.hyper_build.specs.inside.Tree.{BreakAt, ContinueAt, ReturnAt, HaltAt, Tree, End, ◌▸◌, Routine, function_of}
use Rattle.hyper_build.specs.inside.Tree.{plain_in, plain}
use Rattle.hyper_build.specs.inside.Straight.{Place, is_item}
use Rattle.hyper_build.specs.inside.Legs.{is_test, is_loop_test}
use Rattle.hyper_build.specs.inside.Sizes.{size_in}
use Rattle.hyper_build.specs.inside.Entries.{entry, part_entry, turn_entry}
use Rattle.hyper_build.specs.inside.Build.{blocks_in, test_blocks}
use Rattle.hyper_build.specs.inside.Merging.{SetsLow}
use Rattle.hyper_build.specs.inside.Routines.{parameters_size, place_of, way_out, body_label}
use Rattle.hyper_build.specs.inside.World.{World, Has, Stack, Rel, IsFrame, frame, checks_of, env_in}
use Rattle.hyper_build.specs.inside.Follow.{Follows, Does, ways_of, CallsFollow}
use Rattle.hyper_build.specs.inside.Fits.{IsBuilt, FitsStmt, IsPlace}
use Rattle.trips_isa.proofs.WordLemmas.{alu_fits}
use Rattle.hyper_build.specs.inside.Premises.{AluGivesWords, StmtDoes, TreeDoes, TurnDoes}
use Rattle.hyper_build.proofs.MergedTests.{LegDoes, loop_test_does}
use Rattle.hyper_build.proofs.Straights.{item_does}
use Rattle.hyper_build.proofs.LoopsFollow.{loop_does}
use Rattle.hyper_build.specs.inside.CallsClaim.{CallsClaim}
use Rattle.hyper_build.proofs.Goes.{goes_here}
use Rattle.hyper_build.proofs.Following.{kept_here, follows_then, settled, stands_here, has_front, has_back}
use Rattle.hyper_build.proofs.Sizes.{length_in}
use Rattle.hyper_build.proofs.Caller.{call_does}
use Rattle.hyper_build.proofs.Callee.{enters}
use Rattle.hyper_build.proofs.Forks.{fork_does}
use Rattle.ir_forms.specs.declared.flat.Arg.{Arg}
use Rattle.std.proofs.Common.{Bool, true, false, cond}
use Rattle.hyper_build.proofs.Simple.{let_does, frame_does, load_does, save_does, put_does, get_does}
use Rattle.hyper_build.proofs.Simple.{break_does, continue_does, return_does, halt_does}

module _ (W : World) (built : IsBuilt W) (call : Calls) (follows : CallsFollow W call) (start : ℕ) (g : Routine)
    (fr : IsFrame W start g) (words : AluGivesWords) where
  -- a statement, and what stands behind it
  then_follows : (p : Place) (b k1 k : Block) (s : State) (m : Machine) (n : ℕ) (r : Res) (next : State → ℕ → Res)
      → Follows W (W.base + start + 8) (Rel W start g) b s m n 0 (ways_of p k1) r
      → Does W start g k1 (ways_of p k) next
      → Follows W (W.base + start + 8) (Rel W start g) b s m n 0 (ways_of p k) (then_run r next)
  then_follows p b k1 k s m n (Gone s1 n1) next f does =
      follows_then W (W.base + start + 8) (Rel W start g) b k1 s s1 m f.after n n1 f.j 0 0 (ways_of p k)
      (next s1 n1) f.goes f.kept f.few f.rounds (does s1 f.after n1 f.rel)
  then_follows p b k1 k s m n (Broke s1 n1) next f does = f
  then_follows p b k1 k s m n (Again s1 n1) next f does = f
  then_follows p b k1 k s m n (Gave w s1 n1) next f does = f
  then_follows p b k1 k s m n (Halts how) next f does = f
  then_follows p b k1 k s m n (Unfinished out r) next f does = f
  then_follows p b k1 k s m n Wild next f does = tt

  end_does : (k : Block) (p : Place) → Does W start g k (ways_of p k)
      (exec (checks_of W) call (env_in W start g) (plain End))
  end_does k p s m n rel = settled W (W.base + start + 8) (Rel W start g) k s m n 0 (ways_of p k) s n
      (λ t m1 h. h.stack.output)
      (record {
        j = 0;
        after = m;
        goes = goes_here W k m;
        rel = rel;
        kept = kept_here _ s m;
        given = tt;
        few = omega arith;
        rounds = omega arith;
      })

  if_does : (c joined : Bool) (a : Arg) (one other : Tree) → TreeDoes W call start g one
      → TreeDoes W call start g other → StmtDoes W call start g (IfAt c joined a one other)
  if_does c joined a one other x y = cases (is_item joined one other) refl
    where
      cases : (b : Bool) → is_item joined one other ≡ b → StmtDoes W call start g (IfAt c joined a one other)
      cases true e = item_does W built words call start g fr c joined a one other e
      cases false e = fork_does W built words call start g fr c joined a one other e x y

  -- a statement of a loop's body, by whether it is the test, where the rest of the body is empty then
  part_does : (inside : Bool) (p : Place) (b : Bool) (s : Stmt) → (b ≡ true → is_test s ≡ true)
      → StmtDoes W call start g s → LegDoes W built words call start g fr s → FitsStmt W g inside s
      → IsPlace W g p → (l : ℕ) (k : Block) → (b ≡ true → SetsLow k.items)
      → Has W.program l (cond b (test_blocks p s l k) (blocks_in p s l k))
      → Does W start g (part_entry b p s l k) (ways_of p k)
      (act (checks_of W) call (env_in W start g) (plain_in s))
  part_does inside p true s test does leg fits is l k low has =
      loop_test_does W built words call start g fr inside p s (test refl) leg fits is l k (low refl) has
  part_does inside p false s test does leg fits is l k low has = does inside p fits is l k has

  mutual
    stmt_does : (s : Stmt) → StmtDoes W call start g s
    stmt_does (LetAt c to op a b) = let_does W built words call start g fr c to op a b
    stmt_does (FrameAt c to at) = frame_does W built words call start g fr c to at
    stmt_does (LoadAt c to op a) = load_does W built words call start g fr c to op a
    stmt_does (SaveAt c op a v) = save_does W built words call start g fr c op a v
    stmt_does (CallAt c small f args to groups) = call_does W built start g fr call follows c small f args to groups
    stmt_does (PutAt a) = put_does W built words call start g fr a
    stmt_does (GetAt c to) = get_does W built words call start g fr c to
    stmt_does (IfAt c joined a one other) = if_does c joined a one other (tree_does one) (tree_does other)
    stmt_does (LoopAt c body post) = loop_does W built words call start g fr c body post (turn_does body)
        (tree_does post)
    stmt_does (BreakAt c) = break_does W built words call start g fr c
    stmt_does (ContinueAt c) = continue_does W built words call start g fr c
    stmt_does (ReturnAt c a) = return_does W built words call start g fr c a
    stmt_does (HaltAt c a) = halt_does W built words call start g fr c a

    pub tree_does : (c : Tree) → TreeDoes W call start g c
    tree_does End inside p fits is l k has = end_does k p
    tree_does (s ▸ rest) inside p fits is l k has =
        let k1 = entry p rest (l + size_in s) k in
        let first = stmt_does s inside p fits.0 is l k1 (has_front W.program l _ _ has) in
        let second = tree_does rest inside p fits.1 is (l + size_in s) k
        (has_back W.program l (l + size_in s) (blocks_in p s l k1) _ (omega (arith, length_in p s l k1)) has)
        in
        λ st m n rel. then_follows p _ k1 k st m n _ _ (first st m n rel) second

    leg_does : (s : Stmt) → LegDoes W built words call start g fr s
    leg_does (IfAt c joined a one other) = tree_does one
    leg_does _ = tt

    turn_does : (c : Tree) → TurnDoes W call start g c
    turn_does End inside p fits is l k low has = end_does k p
    turn_does (s ▸ End) inside p fits is l k low has =
        let z = is_loop_test s End in
        let first = part_does inside p z s (λ e. e) (stmt_does s) (leg_does s) fits.0 is l k (λ e. low)
        (has_front W.program l _ _ has) in
        λ st m n rel. then_follows p _ k k st m n _ _ (first st m n rel) (end_does k p)
    turn_does (s ▸ (x ▸ rest)) inside p fits is l k low has =
        let k1 = turn_entry p (x ▸ rest) (l + size_in s) k in
        let first = stmt_does s inside p fits.0 is l k1 (has_front W.program l _ _ has) in
        let second = turn_does (x ▸ rest) inside p fits.1 is (l + size_in s) k low
        (has_back W.program l (l + size_in s) (blocks_in p s l k1) _ (omega (arith, length_in p s l k1)) has)
        in
        λ st m n rel. then_follows p _ k1 k st m n _ _ (first st m n rel) second

-- the function that stands there
found_plain : (fs : List Routine) (f : ℕ) (g : Routine) → slice_get fs f ≡ Some g
    → slice_get (map function_of fs) f ≡ Some (function_of g)
found_plain fs f g e = slice_get-map function_of fs f ∙ (rw e refl)

alu_gives : AluGivesWords
alu_gives op a b fits ha hb = alu_fits op a b ha hb

-- calls of every depth follow
pub calls_follow : CallsClaim
calls_follow W built zero f g found used words low ws s m n back arity passed label faithful stack =
    stands_here W _ s m n (3 + parameters_size g) stack.output
calls_follow W built (suc d) f g found used words low ws s m n back arity passed label faithful stack =
    let call = calls_within (checks_of W) (map function_of W.routines) W.base d in
    subst (λ o. Follows W (W.base + used) (Stack W used) (block_at W.program (W.entries f)) s m n
    (3 + parameters_size g) (λ w. block_at W.program back) (enter_if (checks_of W) call W.base o ws used s n))
    (sym (found_plain W.routines f g found))
    (enters W built call f g found used words low s m stack ws n back arity passed label faithful
    (λ fr has. tree_does W built call (calls_follow W built d) used g fr alu_gives g.body false
    (place_of g W.entries) (built.fits f g found).body
    (record { frame = refl; arrays = refl; entries = λ i. refl; low = (omega arith, (omega arith, tt)) })
    (body_label g (W.entries f)) (way_out g) has)
    (nat_lt frame_limit (used + frame g)) refl)
