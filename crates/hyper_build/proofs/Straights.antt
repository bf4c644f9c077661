-- Straight code as items: what it does, one item after the other, and if-items.
use Rattle.std.proofs.Common.{◌≡◌, ℕ, zero, suc, ◌+◌, ◌<◌, ◌≤◌, Bool, true, cond, []}
use Rattle.std.proofs.Common.{◌&&◌, ◌||◌, List, ◌∷◌, ◌++◌, Option, Some, refl, sym, ap, ◌∙◌}
use Rattle.std.proofs.Common.{subst, arith}
use Rattle.trips_isa.specs.declared.op.Op.{Op}
use Rattle.ir_forms.specs.declared.flat.Arg.{Arg}
use Rattle.ir_forms.specs.inside.FlatSteps.{State, Res, Gone, Broke, Again, Gave, Halts, Unfinished, Wild}
use Rattle.ir_forms.specs.inside.FlatSteps.{Calls, read, turn, must, settle}
use Rattle.ir_forms.specs.inside.FlatSteps.{chosen, then_run, act, exec}
use Rattle.ir_forms.specs.declared.hyper.Exit.TheVariants as exit
use Rattle.ir_forms.specs.inside.HyperCode.{Items, Done, If, Leave, Test, Block}
use Rattle.ir_forms.specs.inside.HyperRuns.{Machine, value_of}
use Rattle.ir_forms.specs.inside.HyperRuns.{jump}
use Rattle.ir_forms.specs.inside.HyperRuns as machine
use Rattle.hyper_build.specs.inside.Tree.{Stmt, LetAt, FrameAt, LoadAt, SaveAt, CallAt, PutAt, GetAt, IfAt}
use Rattle.hyper_build.specs.inside.Tree.{LoopAt, BreakAt, ContinueAt, ReturnAt, HaltAt, Tree, End, ◌▸◌, Routine}
use Rattle.hyper_build.specs.inside.Tree.{plain_in, plain}
use Rattle.hyper_build.specs.inside.Parts.{source, cut, cut_blocks, cut_size}
use Rattle.hyper_build.specs.inside.Straight.{Place, straight_in, straight, items_in, items_of, is_small_if, is_item}
use Rattle.hyper_build.specs.inside.Legs.{exit_leg, label_or, leg_blocks, leg_size}
use Rattle.hyper_build.specs.inside.Sizes.{size}
use Rattle.hyper_build.specs.inside.Entries.{choose, entry}
use Rattle.hyper_build.specs.inside.Build.{blocks}
use Rattle.hyper_build.specs.inside.World.{World, Has, Goes, Rel, IsFrame, checks_of, env_in}
use Rattle.hyper_build.specs.inside.Follow.{Way, Next, Follows, ways_of}
use Rattle.hyper_build.specs.inside.Fits.{IsBuilt, FitsStmt, FitsTree, IsPlace}
use Rattle.hyper_build.specs.inside.Premises.{StmtDoes, AluGivesWords}
use Rattle.hyper_build.proofs.ItemLegs.{and_parts}
use Rattle.hyper_build.proofs.Goes.{goes_then, goes_cut}
use Rattle.hyper_build.proofs.Following.{kept_here, kept_then, must_follow}
use Rattle.hyper_build.proofs.Moving.{cut_most}
use Rattle.hyper_build.proofs.Simple.{turn_follow, any_operand}
use Rattle.hyper_build.proofs.ItemsPass.{Passes, passes_none, passes_then, with_items, goes_passed, passes_if}
use Rattle.hyper_build.proofs.StatementWalks

module _ (W : World) (built : IsBuilt W) (words : AluGivesWords) (call : Calls) (start : ℕ) (g : Routine)
    (fr : IsFrame W start g) where
  -- items lead to the machine that stands to the state behind the code
  abbrev Steps : (its : Items → Items) → (s : State) → (m : Machine) → (n : ℕ) → (s1 : State) → (n1 : ℕ) → Type 0
  Steps = StatementWalks.Steps W built words call start g fr

  abbrev Walks : (Items → Items) → State → Machine → ℕ → Res → Type 0
  Walks = StatementWalks.Walks W built words call start g fr

  -- a turn
  abbrev turn_walks : (its : Items → Items) (s : State) (m : Machine) (n : ℕ) (go : ℕ → Res)
      → ((i : ℕ) → i < n → Walks its s m i (go i)) → Walks its s m n (turn s n go)
  turn_walks = StatementWalks.turn_walks W built words call start g fr

  abbrev must_walks : {A : Type 0} (its : Items → Items) (s : State) (m : Machine) (n : ℕ) (o : Option A)
      (go : A → Res) → ((v : A) → o ≡ Some v → Walks its s m n (go v)) → Walks its s m n (must o go)
  must_walks = StatementWalks.must_walks W built words call start g fr

  abbrev settle_walks : (its : Items → Items) (s : State) (m : Machine) (n : ℕ) (s1 : State) → Steps its s m n s1 n
      → Walks its s m n (settle s1 n)
  settle_walks = StatementWalks.settle_walks W built words call start g fr

  abbrev let_walks : (inside : Bool) (p : Place) (c : Bool) (to : ℕ) (op : Op) (a b : Arg)
      → FitsStmt W g inside (LetAt c to op a b) → (s : State) (m : Machine) (n : ℕ) → Rel W start g s m
      → Walks (items_in p (LetAt c to op a b)) s m n (act (checks_of W) call (env_in W start g) (plain_in (LetAt c to
      op a b)) s n)
  let_walks = StatementWalks.let_walks W built words call start g fr

  abbrev frame_walks : (inside : Bool) (p : Place) (c : Bool) (to at : ℕ) → FitsStmt W g inside (FrameAt c to at)
      → IsPlace W g p → (s : State) (m : Machine) (n : ℕ) → Rel W start g s m
      → Walks (items_in p (FrameAt c to at)) s m n (act (checks_of W) call (env_in W start g) (plain_in (FrameAt c to
      at)) s n)
  frame_walks = StatementWalks.frame_walks W built words call start g fr

  abbrev load_walks : (inside : Bool) (p : Place) (c : Bool) (to : ℕ) (op : Op) (a : Arg)
      → FitsStmt W g inside (LoadAt c to op a) → (s : State) (m : Machine) (n : ℕ) → Rel W start g s m
      → Walks (items_in p (LoadAt c to op a)) s m n (act (checks_of W) call (env_in W start g) (plain_in (LoadAt c to
      op a)) s n)
  load_walks = StatementWalks.load_walks W built words call start g fr

  abbrev save_walks : (inside : Bool) (p : Place) (c : Bool) (op : Op) (a v : Arg)
      → FitsStmt W g inside (SaveAt c op a v) → (s : State) (m : Machine) (n : ℕ) → Rel W start g s m
      → Walks (items_in p (SaveAt c op a v)) s m n (act (checks_of W) call (env_in W start g) (plain_in (SaveAt c op
      a v)) s n)
  save_walks = StatementWalks.save_walks W built words call start g fr

  -- CODE

  -- one part after another
  then_walks : (a b : Items → Items) (s : State) (m : Machine) (n : ℕ) (r : Res)
      (next : State → ℕ → Res) → Walks a s m n r
      → ((s1 : State) (m1 : Machine) (n1 : ℕ) → Rel W start g s1 m1 → Walks b s1 m1 n1 (next s1 n1))
      → Walks (λ k. a (b k)) s m n (then_run r next)
  then_walks a b s m n (Gone s1 n1) next x h = go (next s1 n1) (h s1 x.after n1 x.rel)
    where
      go : (r : Res) → Walks b s1 x.after n1 r → Walks (λ k. a (b k)) s m n r
      go (Gone s2 n2) y = record {
        after = y.after;
        passes = passes_then W a b m x.after y.after x.passes y.passes;
        rel = y.rel;
        kept = kept_then (W.base + start + 8) s s1 s2 m x.after y.after x.kept y.kept;
        fewer = omega (arith, x.fewer, y.fewer);
        output = y.output ∙ x.output;
        rounds = y.rounds ∙ x.rounds;
      }
      go (Unfinished out r) y = (y.0 ∙ x.output, y.1 ∙ x.rounds)
      go Wild y = tt
      go (Broke s2 n2) y = y
      go (Again s2 n2) y = y
      go (Gave w s2 n2) y = y
      go (Halts how) y = y
  then_walks a b s m n (Unfinished out r) next x h = x
  then_walks a b s m n Wild next x h = tt
  then_walks a b s m n (Broke s1 n1) next x h = absurd x
  then_walks a b s m n (Again s1 n1) next x h = absurd x
  then_walks a b s m n (Gave w s1 n1) next x h = absurd x
  then_walks a b s m n (Halts how) next x h = absurd x

  -- the leg that a test chooses
  chosen_walks : (t : Arg) (one other : Items → Items) (s : State) (m : Machine) (n v : ℕ)
      (x y : Res) → value_of m.registers (source t) ≡ v → Walks one s m n x → Walks other s m n y
      → Walks (λ k. If (source t) (one Done) (other Done) k) s m n (chosen v x y)
  chosen_walks t one other s m n v x y e hx hy = pick_leg v x y e hx hy
    where
      leg : (its : Items → Items) (r : Res) → Walks its s m n r
          → ((m1 : Machine) → Passes W its m m1
          → Passes W (λ k. If (source t) (one Done) (other Done) k) m m1)
          → Walks (λ k. If (source t) (one Done) (other Done) k) s m n r
      leg its (Gone s1 n1) x f = record {
        after = x.after;
        passes = f x.after x.passes;
        rel = x.rel;
        kept = x.kept;
        fewer = x.fewer;
        output = x.output;
        rounds = x.rounds;
      }
      leg its (Unfinished out r) x f = x
      leg its Wild x f = tt
      leg its (Broke s1 n1) x f = x
      leg its (Again s1 n1) x f = x
      leg its (Gave w s1 n1) x f = x
      leg its (Halts how) x f = x

      pick_leg : (v : ℕ) (x y : Res) → value_of m.registers (source t) ≡ v → Walks one s m n x
          → Walks other s m n y
          → Walks (λ k. If (source t) (one Done) (other Done) k) s m n (chosen v x y)
      pick_leg zero x y e hx hy =
          leg other y hy (λ m1 p. passes_if W (source t) one other m m1 0 e p)
      pick_leg (suc v) x y e hx hy =
          leg one x hx (λ m1 p. passes_if W (source t) one other m m1 (suc v) e p)

  abbrev StmtWalks : Bool → Place → Stmt → Type 0
  StmtWalks inside p st =
      straight_in st ≡ true → FitsStmt W g inside st → IsPlace W g p → (s : State) (m : Machine)
      (n : ℕ) → Rel W start g s m
      → Walks (items_in p st) s m n (act (checks_of W) call (env_in W start g) (plain_in st) s n)

  abbrev pub TreeWalks : Bool → Place → Tree → Type 0
  TreeWalks inside p c =
      straight c ≡ true → FitsTree W g inside c → IsPlace W g p → (s : State) (m : Machine) (n : ℕ)
      → Rel W start g s m
      → Walks (items_of p c) s m n (exec (checks_of W) call (env_in W start g) (plain c) s n)

  mutual
    stmt_walks : (inside : Bool) (p : Place) (st : Stmt) → StmtWalks inside p st
    stmt_walks inside p (LetAt c to op a b) e fits is s m n rel =
        let_walks inside p c to op a b fits s m n rel
    stmt_walks inside p (FrameAt c to at) e fits is s m n rel =
        frame_walks inside p c to at fits is s m n rel
    stmt_walks inside p (LoadAt c to op a) e fits is s m n rel =
        load_walks inside p c to op a fits s m n rel
    stmt_walks inside p (SaveAt c op a v) e fits is s m n rel =
        save_walks inside p c op a v fits s m n rel
    stmt_walks inside p (IfAt c joined t one other) e fits is s m n rel =
        let q = and_parts (straight one) (straight other) e in
        turn_walks (items_in p (IfAt c joined t one other)) s m n _ (λ i lt.
        must_walks (items_in p (IfAt c joined t one other)) s m i (read (checks_of W) s t) _
        (λ v ev.
        chosen_walks t (items_of p one) (items_of p other) s m i v _ _
        (any_operand W built words call start g fr s m rel t v fits.0 fits.1 ev).0
        (tree_walks inside p one q.0 fits.2 is s m i rel)
        (tree_walks inside p other q.1 fits.3 is s m i rel)))
    stmt_walks inside p (CallAt c small f args to groups) e fits is s m n rel = absurd (cc e)
    stmt_walks inside p (PutAt v) e fits is s m n rel = absurd (cc e)
    stmt_walks inside p (GetAt c to) e fits is s m n rel = absurd (cc e)
    stmt_walks inside p (LoopAt c body post) e fits is s m n rel = absurd (cc e)
    stmt_walks inside p (BreakAt c) e fits is s m n rel = absurd (cc e)
    stmt_walks inside p (ContinueAt c) e fits is s m n rel = absurd (cc e)
    stmt_walks inside p (ReturnAt c v) e fits is s m n rel = absurd (cc e)
    stmt_walks inside p (HaltAt c v) e fits is s m n rel = absurd (cc e)

    -- straight code as items does what it means
    pub tree_walks : (inside : Bool) (p : Place) (c : Tree) → TreeWalks inside p c
    tree_walks inside p End e fits is s m n rel =
        settle_walks (λ k. k) s m n s (record {
          after = m;
          passes = passes_none W m;
          rel = rel;
          kept = kept_here (W.base + start + 8) s m;
          fewer = omega arith;
          output = refl;
          rounds = refl;
        })
    tree_walks inside p (st ▸ rest) e fits is s m n rel =
        let q = and_parts (straight_in st) (straight rest) e in
        then_walks (items_in p st) (items_of p rest) s m n _ _
        (stmt_walks inside p st q.0 fits.0 is s m n rel)
        (λ s1 m1 n1 rel1. tree_walks inside p rest q.1 fits.1 is s1 m1 n1 rel1)

  -- IN A BLOCK

  -- straight code before the rest of a block
  pub walks_follow : (its : Items → Items) (k : Block) (s : State) (m : Machine) (n x : ℕ)
      (ways : Way → Block) (r : Res) → Walks its s m n r → m.output ≡ s.output
      → ((m1 : Machine) → (j : ℕ) × (j ≤ x) × Goes W k m1 j (ways Next) m1)
      → Follows W (W.base + start + 8) (Rel W start g) (with_items its k) s m n x ways r
  walks_follow its k s m n x ways (Gone s1 n1) h e go =
      let z = go h.after in
      record {
        j = 0 + z.0;
        after = h.after;
        goes = goes_then W (with_items its k) k (ways Next) m h.after h.after 0 z.0
            (goes_passed W its m h.after k h.passes) z.2;
        rel = h.rel;
        kept = h.kept;
        given = tt;
        few = omega (arith, h.fewer, z.1);
        rounds = omega (arith, h.rounds);
      }
  walks_follow its k s m n x ways (Unfinished out r) h e go = record {
    j = 0;
    stands = ap machine.Running (e ∙ sym h.0);
    few = omega arith;
    rounds = omega (arith, h.1);
  }
  walks_follow its k s m n x ways Wild h e go = tt
  walks_follow its k s m n x ways (Broke s1 n1) h e go = absurd h
  walks_follow its k s m n x ways (Again s1 n1) h e go = absurd h
  walks_follow its k s m n x ways (Gave w s1 n1) h e go = absurd h
  walks_follow its k s m n x ways (Halts how) h e go = absurd h

  -- an if that is an item
  pub item_does : (c joined : Bool) (a : Arg) (one other : Tree) → is_item joined one other ≡ true
      → StmtDoes W call start g (IfAt c joined a one other)
  item_does c joined a one other e inside p fits is l k has s m n rel =
      let q = (and_parts (joined || is_small_if (plain one) (plain other))
      (straight one && straight other) e).1 in
      let qs = and_parts (straight one) (straight other) q in
      subst (λ b. Follows W (W.base + start + 8) (Rel W start g) (choose b item test) s m n 0
      (ways_of p k) (act (checks_of W) call (env_in W start g) (plain_in (IfAt c joined a one other))
      s n)) (sym e)
      (turn_follow W (W.base + start + 8) (Rel W start g) item s m n (ways_of p k) _
      rel.stack.output (λ i.
      must_follow W (W.base + start + 8) (Rel W start g) item s m i 2 (ways_of p k)
      (read (checks_of W) s a) _ (λ v ev.
      walks_follow (items_in p (IfAt c joined a one other)) (cut c l k) s m i 2 (ways_of p k) _
      (chosen_walks a (items_of p one) (items_of p other) s m i v _ _
      (any_operand W built words call start g fr s m rel a v fits.0 fits.1 ev).0
      (tree_walks inside p one qs.0 fits.2 is s m i rel)
      (tree_walks inside p other qs.1 fits.3 is s m i rel)) rel.stack.output
      (λ m1. (cut_size c, omega (arith, cut_most c), goes_cut W c l k m1 cuts)))))
    where
      l1 : ℕ
      l1 = l + leg_size one (size one)

      join : ℕ
      join = l + leg_size one (size one) + leg_size other (size other)

      item : Block
      item = record {
        items = If (source a) (items_of p one Done) (items_of p other Done) (cut c l k).items;
        tail = (cut c l k).tail;
      }

      test : Block
      test = record {
        items = Done;
        tail = Test (source a)
            (Leave (exit.Jump (label_or l (exit_leg p join one))))
            (Leave (exit.Jump (label_or l1 (exit_leg p join other))));
      }

      first : List Block
      first = leg_blocks (exit_leg p join one) (entry p one (l + 1) (jump join))
          (blocks p one (l + 1) (jump join))

      second : List Block
      second = leg_blocks (exit_leg p join other) (entry p other (l1 + 1) (jump join))
          (blocks p other (l1 + 1) (jump join))

      cuts : Has W.program l (cut_blocks c k)
      cuts = subst (λ b. Has W.program l (cond b (cut_blocks c k) (first ++ (second ++ k ∷ [])))) e
          has
