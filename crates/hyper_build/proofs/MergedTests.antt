-- A loop's test and its leg do, as one block, what they mean.
use Rattle.std.proofs.Common.{◌≡◌, ℕ, zero, suc, ◌+◌, Bool, true, false, ◌++◌, arith}
use Rattle.ir_forms.specs.declared.flat.Arg.{Arg}
use Rattle.ir_forms.specs.inside.FlatSteps.{State, Res, Calls, read, exec, act}
use Rattle.ir_forms.specs.inside.HyperCode.{Block}
use Rattle.ir_forms.specs.inside.HyperRuns.{Machine, jump}
use Rattle.hyper_build.specs.inside.Tree.{Stmt, LetAt, FrameAt, LoadAt, SaveAt, CallAt, PutAt, GetAt, IfAt, LoopAt}
use Rattle.hyper_build.specs.inside.Tree.{BreakAt, ContinueAt, ReturnAt, HaltAt, Tree, End, ◌▸◌, Routine, plain}
use Rattle.hyper_build.specs.inside.Tree.{plain_in}
use Rattle.hyper_build.specs.inside.Parts.{source, cut, cut_blocks}
use Rattle.hyper_build.specs.inside.Straight.{Place}
use Rattle.hyper_build.specs.inside.Legs.{is_break, is_test}
use Rattle.hyper_build.specs.inside.Sizes.{size}
use Rattle.hyper_build.specs.inside.Entries.{entry, test_entry}
use Rattle.hyper_build.specs.inside.Build.{blocks, test_blocks}
use Rattle.hyper_build.specs.inside.Merging.{merged, test_register, SetsLow}
use Rattle.hyper_build.specs.inside.World.{World, Has, Rel, IsFrame, checks_of, env_in}
use Rattle.hyper_build.specs.inside.Follow.{Follows, Does, ways_of}
use Rattle.hyper_build.specs.inside.Fits.{IsBuilt, FitsStmt, FitsTree, IsPlace}
use Rattle.hyper_build.specs.inside.Premises.{AluGivesWords, TreeDoes}
use Rattle.hyper_build.proofs.Goes.{goes_here}
use Rattle.hyper_build.proofs.Following.{kept_here, follows_more, stands_here, must_follow, has_front, has_back}
use Rattle.hyper_build.proofs.Sizes.{length_blocks}
use Rattle.hyper_build.proofs.Simple.{turn_follow, any_operand}
use Rattle.hyper_build.proofs.Forks.{join_follows}
use Rattle.hyper_build.proofs.ItemLegs.{and_parts}
use Rattle.hyper_build.proofs.LowRegisters.{leg_low}
use Rattle.hyper_build.proofs.Merges.{merged_follows}

module _ (W : World) (built : IsBuilt W) (words : AluGivesWords) (call : Calls) (start : ℕ) (g : Routine)
    (fr : IsFrame W start g) where
  -- a break alone
  break_follows : (p : Place) (c : Tree) → is_break c ≡ true → (k : Block) (s : State) (m : Machine) (n : ℕ)
      → Rel W start g s m
      → Follows W (W.base + start + 8) (Rel W start g) (jump p.broke) s m n 2 (ways_of p k)
      (exec (checks_of W) call (env_in W start g) (plain c) s n)
  break_follows p (BreakAt c ▸ End) e k s m zero rel = stands_here W (jump p.broke) s m 0 2 rel.stack.output
  break_follows p (BreakAt c ▸ End) e k s m (suc n) rel =
      record {
        j = 0;
        after = m;
        goes = goes_here W (jump p.broke) m;
        rel = rel;
        kept = kept_here _ s m;
        given = tt;
        few = omega arith;
        rounds = omega arith;
      }
  break_follows p End e k s m n rel = absurd (cc e)
  break_follows p (BreakAt c ▸ (x ▸ rest)) e k s m n rel = absurd (cc e)
  break_follows p (LetAt c to op a b ▸ rest) e k s m n rel = absurd (cc e)
  break_follows p (FrameAt c to a ▸ rest) e k s m n rel = absurd (cc e)
  break_follows p (LoadAt c to op a ▸ rest) e k s m n rel = absurd (cc e)
  break_follows p (SaveAt c op a v ▸ rest) e k s m n rel = absurd (cc e)
  break_follows p (CallAt c small f args to groups ▸ rest) e k s m n rel = absurd (cc e)
  break_follows p (PutAt v ▸ rest) e k s m n rel = absurd (cc e)
  break_follows p (GetAt c to ▸ rest) e k s m n rel = absurd (cc e)
  break_follows p (IfAt c joined a one other ▸ rest) e k s m n rel = absurd (cc e)
  break_follows p (LoopAt c body post ▸ rest) e k s m n rel = absurd (cc e)
  break_follows p (ContinueAt c ▸ rest) e k s m n rel = absurd (cc e)
  break_follows p (ReturnAt c v ▸ rest) e k s m n rel = absurd (cc e)
  break_follows p (HaltAt c v ▸ rest) e k s m n rel = absurd (cc e)

  -- behind the leg that goes on, the rest stands in a block of its own or in the same one
  cut_follows : (p : Place) (c : Bool) (l : ℕ) (k b : Block) (s : State) (m : Machine) (n : ℕ) (r : Res)
      → Has W.program l (cut_blocks c k)
      → Follows W (W.base + start + 8) (Rel W start g) b s m n 0 (ways_of p (cut c l k)) r
      → Follows W (W.base + start + 8) (Rel W start g) b s m n 2 (ways_of p k) r
  cut_follows p true l k b s m n r has f =
      follows_more W (W.base + start + 8) (Rel W start g) b s m n n 1 2 (ways_of p k) r (omega arith)
      (join_follows W built words call start g fr p l k b s m n r has.0 f)
  cut_follows p false l k b s m n r has f =
      follows_more W (W.base + start + 8) (Rel W start g) b s m n n 0 2 (ways_of p k) r (omega arith) f

  -- the leg, where the test holds
  leg_follows : (inside : Bool) (p : Place) (c : Bool) (leg : Tree) → TreeDoes W call start g leg
      → FitsTree W g inside leg → IsPlace W g p → (l : ℕ) (k : Block)
      → Has W.program l (blocks p leg l (cut c (l + size leg) k) ++ cut_blocks c k)
      → (s : State) (m : Machine) (n : ℕ) → Rel W start g s m
      → Follows W (W.base + start + 8) (Rel W start g) (entry p leg l (cut c (l + size leg) k)) s m n 2 (ways_of p k)
      (exec (checks_of W) call (env_in W start g) (plain leg) s n)
  leg_follows inside p c leg does fits is l k has s m n rel =
      cut_follows p c (l + size leg) k (entry p leg l (cut c (l + size leg) k)) s m n _
      (has_back W.program l (l + size leg) (blocks p leg l (cut c (l + size leg) k)) (cut_blocks c k)
      (omega (arith, length_blocks p leg l (cut c (l + size leg) k))) has)
      (does inside p fits is l (cut c (l + size leg) k)
      (has_front W.program l (blocks p leg l (cut c (l + size leg) k)) (cut_blocks c k) has) s m n rel)

  test_does : (inside : Bool) (p : Place) (c joined : Bool) (a : Arg) (one other : Tree) → is_break other ≡ true
      → TreeDoes W call start g one → FitsStmt W g inside (IfAt c joined a one other) → IsPlace W g p → (l : ℕ)
      (k : Block) → SetsLow k.items → Has W.program l (test_blocks p (IfAt c joined a one other) l k)
      → Does W start g (test_entry p (IfAt c joined a one other) l k) (ways_of p k)
      (act (checks_of W) call (env_in W start g) (plain_in (IfAt c joined a one other)))
  test_does inside p c joined a one other e does fits is l k low has s m n rel =
      let first = entry p one l (cut c (l + size one) k) in
      let b = merged test_register (source a) first (jump p.broke) in
      turn_follow W (W.base + start + 8) (Rel W start g) b s m n (ways_of p k) _ rel.stack.output (λ i.
      must_follow W (W.base + start + 8) (Rel W start g) b s m i 2 (ways_of p k) (read (checks_of W) s a) _ (λ v ev.
      merged_follows W start g test_register (source a) first (jump p.broke) s m i 2 v (ways_of p k) _ _ (omega arith)
      (leg_low W g fr.scalars (λ f r q. (built.fits f r q).few) inside p c one l (l + size one) k is.low fits.2 low)
      tt (any_operand W built words call start g fr s m rel a v fits.0 fits.1 ev).0 rel
      (λ m1 rel1. leg_follows inside p c one does fits.2 is l k has s m1 i rel1)
      (λ m1 rel1. break_follows p other e k s m1 i rel1)))

  -- what a loop's test asks of its leg
  abbrev pub LegDoes : Stmt → Type 0
  LegDoes (IfAt c joined a one other) = TreeDoes W call start g one
  LegDoes _ = Unit {0}

  -- a statement that is a loop's test
  pub loop_test_does : (inside : Bool) (p : Place) (s : Stmt) → is_test s ≡ true → LegDoes s
      → FitsStmt W g inside s → IsPlace W g p → (l : ℕ) (k : Block) → SetsLow k.items
      → Has W.program l (test_blocks p s l k)
      → Does W start g (test_entry p s l k) (ways_of p k)
      (act (checks_of W) call (env_in W start g) (plain_in s))
  loop_test_does inside p (IfAt c joined a one other) e leg fits is l k low has =
      test_does inside p c joined a one other (and_parts joined (is_break other) e).1 leg fits is l k low has
  loop_test_does inside p (LetAt c to op a b) e leg fits is l k low has = absurd (cc e)
  loop_test_does inside p (FrameAt c to at) e leg fits is l k low has = absurd (cc e)
  loop_test_does inside p (LoadAt c to op a) e leg fits is l k low has = absurd (cc e)
  loop_test_does inside p (SaveAt c op a v) e leg fits is l k low has = absurd (cc e)
  loop_test_does inside p (CallAt c small f args to groups) e leg fits is l k low has = absurd (cc e)
  loop_test_does inside p (PutAt v) e leg fits is l k low has = absurd (cc e)
  loop_test_does inside p (GetAt c to) e leg fits is l k low has = absurd (cc e)
  loop_test_does inside p (LoopAt c body post) e leg fits is l k low has = absurd (cc e)
  loop_test_does inside p (BreakAt c) e leg fits is l k low has = absurd (cc e)
  loop_test_does inside p (ContinueAt c) e leg fits is l k low has = absurd (cc e)
  loop_test_does inside p (ReturnAt c v) e leg fits is l k low has = absurd (cc e)
  loop_test_does inside p (HaltAt c v) e leg fits is l k low has = absurd (cc e)
