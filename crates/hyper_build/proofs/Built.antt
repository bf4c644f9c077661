-- The blocks of a flat program, from what is proved of annotated ones.
use Rattle.std.proofs.Common.{◌≡◌, ℕ, zero, suc, ◌+◌, ◌%◌, ◌<◌, ◌≤◌, Bool, true, false, List, [], ◌∷◌}
use Rattle.std.proofs.Common.{map, length, Option, Some, None, refl, sym, ap, ◌∙◌, subst, arith}
use Rattle.std.proofs.Common.{slice_get}
use Rattle.std.specs.Prelude.{All}
use Rattle.std.proofs.lemmas.List.Elements.{All-head, All-tail}
use Rattle.ir_forms.specs.declared.flat.Arg.{Arg}
use Rattle.ir_forms.specs.declared.flat.Arg.TheVariants.{Const, Var}
use Rattle.ir_forms.specs.inside.FlatCode.{Step, Code, Nop, ◌▹◌, Let, Frame, Load, Save, Call, Put, Get, If}
use Rattle.ir_forms.specs.inside.FlatCode.{Loop, Break, Continue, Return, Halt, Function, Program}
use Rattle.ir_forms.specs.inside.FlatFits.{FitsArg, FitsLastings, FitsReturn, FitsStep, FitsCode}
use Rattle.ir_forms.specs.inside.FlatFits.{FitsFunction, FitsProgram, steps_in, steps_of}
use Rattle.ir_forms.specs.inside.FlatRuns.{flat_run}
use Rattle.ir_forms.specs.inside.Frames.{frames_at}
use Rattle.ir_forms.specs.inside.HyperRuns.{Layout, labels_alone, hyper_run}
use Rattle.ir_forms.specs.inside.HyperWords as words
use Rattle.reg_assign.specs.inside.Keeps.{calls_in, calls, keeping_in, keeping, keeping_all, with_body}
use Rattle.reg_assign.specs.inside.Keeps.{KeepsOwnIn, KeepsOwn, tame_and}
use Rattle.hyper_build.specs.inside.Tree.{Plan, Routine, function_of, goes_on, annotated_in, annotated}
use Rattle.hyper_build.specs.inside.Tree.{annotated_all, is_saved}
use Rattle.hyper_build.specs.inside.World.{World, AreBytes}
use Rattle.hyper_build.specs.inside.Fits.{IsWordArg, AreWordArgs, IsWordReturn, FitsStmt, FitsTree, FitsRoutine}
use Rattle.hyper_build.specs.inside.Whole.{world_of, FitsWorld, EndsSo}
use Rattle.hyper_build.specs.inside.Laws.{built_program, FitsGroups, BuildKeepsMeaning}
use Rattle.hyper_build.specs.inside.Laws.{BuildGivesBlocks}
use Rattle.hyper_build.specs.inside.Smallness.{CutsAll, CutBlocksAreLittle}
use Rattle.hyper_build.proofs.SmallBlocks.{IsCutStmt, IsCutTree, IsCutRoutine, built_little}
use Rattle.hyper_build.proofs.Counts.{sizes_few}
use Rattle.hyper_build.proofs.SoundWhole.{length_built, built_blocks}
use Rattle.hyper_build.proofs.Plains.{plain_code}
use Rattle.hyper_build.proofs.WholeRuns.{whole_follows}

-- SINGLE STATEMENTS FIT

word_arg : (n : ℕ) (a : Arg) → FitsArg n a → IsWordArg a
word_arg n (Const w) t = t
word_arg n (Var v) t = tt

word_args : (n : ℕ) (xs : List Arg) → FitsLastings n xs → AreWordArgs xs
word_args n [] t = tt
word_args n (Const w ∷ xs) t = (t.0, word_args n xs t.1)
word_args n (Var v ∷ xs) t = (tt, word_args n xs t.1)

word_return : (n : ℕ) (x : Option Arg) → FitsReturn n x → IsWordReturn x
word_return n None t = tt
word_return n (Some a) t = word_arg n a t

-- the routine of a function
pub record RoutineOf (rs : List Routine) (f : ℕ) (h : Function) : Type 0 where
  pub routine : Routine
  pub found : slice_get rs f ≡ Some routine
  pub params : routine.params ≡ h.params

module _ (W : World) (fs : List Function) (p : Plan) (few : (k : ℕ) → length (p.groups k) ≤ 5)
    (known : (f : ℕ) (h : Function) → slice_get fs f ≡ Some h → RoutineOf W.routines f h)
    (g : Routine) where
  abbrev keep : ℕ → ℕ → Bool
  keep k = is_saved (p.groups k)

  mutual
    stmt_fits : (i k : ℕ) (inside on : Bool) (s : Step) → FitsStep fs g.scalars g.arrays inside s
        → KeepsOwnIn g.scalars (keeping_in (λ k. is_saved (p.groups k)) k s)
        → FitsStmt W g inside (annotated_in p i k on s)
    stmt_fits i k inside on (Let to op a b) t own =
        (t.0, t.1, t.2, t.3, word_arg g.scalars a t.2, word_arg g.scalars b t.3)
    stmt_fits i k inside on (Frame to at) t own = t
    stmt_fits i k inside on (Load to op a) t own = (t.0, t.1, t.2, word_arg g.scalars a t.2)
    stmt_fits i k inside on (Save op a v) t own =
        (t.0, t.1, t.2, word_arg g.scalars a t.1, word_arg g.scalars v t.2)
    stmt_fits i k inside on (Call f xs to kept) t own =
        let r = known f t.0.function t.0.found in
        record {
          routine = r.routine;
          found = r.found;
          arity = t.0.arity ∙ sym r.params;
          lasting = t.1;
          words = word_args g.scalars xs t.1;
          result = t.2;
          saved = own;
          few = few k;
        }
    stmt_fits i k inside on (Put a) t own = (t, word_arg g.scalars a t)
    stmt_fits i k inside on (Get to) t own = t
    stmt_fits i k inside on (If a one other) t own = (
      t.0,
      word_arg g.scalars a t.0,
      tree_fits (i + 1) k inside one t.1 own.0,
      tree_fits (i + 1 + steps_of one) (k + calls one) inside other t.2 own.1,
    )
    stmt_fits i k inside on (Loop body post) t own = (
      tree_fits (i + 1) k true body t.0 own.0,
      tree_fits (i + 1 + steps_of body) (k + calls body) false post t.1 own.1,
    )
    stmt_fits i k inside on Break t own = t
    stmt_fits i k inside on Continue t own = t
    stmt_fits i k inside on (Return a) t own = (t, word_return g.scalars a t)
    stmt_fits i k inside on (Halt a) t own = (t, word_arg g.scalars a t)

    pub tree_fits : (i k : ℕ) (inside : Bool) (c : Code) → FitsCode fs g.scalars g.arrays inside c
        → KeepsOwn g.scalars (keeping (λ k. is_saved (p.groups k)) k c)
        → FitsTree W g inside (annotated p i k c)
    tree_fits i k inside Nop t own = tt
    tree_fits i k inside (s ▹ c) t own = (
      stmt_fits i k inside (goes_on c) s t.0 own.0,
      tree_fits (i + steps_in s) (k + calls_in s) inside c t.1 own.1,
    )

-- FUNCTIONS

same_some : {A : Type 0} (x y : A) → Some x ≡ Some y → x ≡ y
same_some x y h = cc h

-- a routine with the function that it is made of, and that function's calls that save
pub record Made (p : Plan) (fs : List Function) (i k f : ℕ) (g : Routine) : Type 0 where
  pub function : Function
  pub first : ℕ
  pub number : ℕ
  pub found : slice_get fs f ≡ Some function
  pub params : g.params ≡ function.params
  pub scalars : g.scalars ≡ function.scalars
  pub arrays : g.arrays ≡ function.arrays
  pub body : g.body ≡ annotated p first number function.body
  pub saved : slice_get (keeping_all (λ k. is_saved (p.groups k)) k fs) f
      ≡ Some (with_body function (keeping (λ k. is_saved (p.groups k)) number function.body))

made_of : (p : Plan) (fs : List Function) (i k f : ℕ) (g : Routine)
    → slice_get (annotated_all p i k fs) f ≡ Some g → Made p fs i k f g
made_of p [] i k f g e = absurd (cc e)
made_of p (h ∷ fs) i k zero g e =
    let r : Routine = record {
      params = h.params;
      scalars = h.scalars;
      arrays = h.arrays;
      small = p.small i;
      body = annotated p (i + 1) k h.body;
    } in
    let q : r ≡ g = same_some r g e in
    record {
      function = h;
      first = i + 1;
      number = k;
      found = refl;
      params = ap (λ (r : Routine). r.params) (sym q);
      scalars = ap (λ (r : Routine). r.scalars) (sym q);
      arrays = ap (λ (r : Routine). r.arrays) (sym q);
      body = ap (λ (r : Routine). r.body) (sym q);
      saved = refl;
    }
made_of p (h ∷ fs) i k (suc f) g e =
    let r = made_of p fs (i + 1 + steps_of h.body) (k + calls h.body) f g e in
    record {
      function = r.function;
      first = r.first;
      number = r.number;
      found = r.found;
      params = r.params;
      scalars = r.scalars;
      arrays = r.arrays;
      body = r.body;
      saved = r.saved;
    }

routine_of : (p : Plan) (fs : List Function) (i k f : ℕ) (h : Function) → slice_get fs f ≡ Some h
    → RoutineOf (annotated_all p i k fs) f h
routine_of p [] i k f h e = absurd (cc e)
routine_of p (x ∷ fs) i k zero h e = record {
  routine = record {
    params = x.params;
    scalars = x.scalars;
    arrays = x.arrays;
    small = p.small i;
    body = annotated p (i + 1) k x.body;
  };
  found = refl;
  params = ap (λ (x : Function). x.params) (same_some x h e);
}
routine_of p (x ∷ fs) i k (suc f) h e =
    let r = routine_of p fs (i + 1 + steps_of x.body) (k + calls x.body) f h e in
    record { routine = r.routine; found = r.found; params = r.params }

-- the flat functions below are those whose calls save
functions_below : (p : Plan) (i k : ℕ) (fs : List Function)
    → map function_of (annotated_all p i k fs) ≡ keeping_all (λ k. is_saved (p.groups k)) k fs
functions_below p i k [] = refl
functions_below p i k (f ∷ fs) =
    ap (λ c. with_body f c ∷ map function_of (annotated_all p (i + 1 + steps_of f.body) (k + calls f.body) fs))
    (plain_code p (i + 1) k f.body)
    ∙ ap (λ l. with_body f (keeping (λ k. is_saved (p.groups k)) k f.body) ∷ l)
    (functions_below p (i + 1 + steps_of f.body) (k + calls f.body) fs)

-- PROGRAMS

all_bytes : (bs : List ℕ) → All (λ b. b < 256) bs → AreBytes bs
all_bytes [] h = tt
all_bytes (b ∷ bs) h =
    (All-head (λ b. b < 256) b bs h, all_bytes bs (All-tail (λ b. b < 256) b bs h))

module _ (check : Bool) (at : Layout) (p : Plan) (P : Program) (t : FitsProgram P)
    (groups : FitsGroups p P) where
  routine_fits : (f : ℕ) (g : Routine) → slice_get (annotated_all p 0 0 P.functions) f ≡ Some g
      → FitsRoutine (world_of check at (frames_at P.bytes) (annotated_all p 0 0 P.functions) P.main) g
  routine_fits f g e =
      let W = world_of check at (frames_at P.bytes) (annotated_all p 0 0 P.functions) P.main in
      let r = made_of p P.functions 0 0 f g e in
      let h = t.each f r.function r.found in
      let own = groups.own f (with_body r.function
      (keeping (λ k. is_saved (p.groups k)) r.number r.function.body)) r.saved in
      let code : FitsCode P.functions g.scalars g.arrays false r.function.body =
      subst (λ n. FitsCode P.functions n g.arrays false r.function.body) (sym r.scalars)
      (subst (λ n. FitsCode P.functions r.function.scalars n false r.function.body) (sym r.arrays) h.body) in
      let kept : KeepsOwn g.scalars (keeping (λ k. is_saved (p.groups k)) r.number r.function.body) =
      subst (λ n. KeepsOwn n (keeping (λ k. is_saved (p.groups k)) r.number r.function.body))
      (sym r.scalars) own in
      let scalars = h.scalars in
      let params = h.params in
      let few = h.few in
      let whole = h.words in
      let es = r.scalars in
      let ep = r.params in
      record {
        scalars = omega (arith, scalars, es);
        params = omega (arith, params, es, ep);
        few = omega (arith, few, ep);
        words = ap (λ n. n % 8) r.arrays ∙ whole;
        body = subst (FitsTree W g false) (sym r.body)
            (tree_fits W P.functions p groups.few (routine_of p P.functions 0 0) g r.first r.number
            false r.function.body code kept);
      }

  world_fits : words.IsFaithful at (length (built_program p P))
      → FitsWorld (world_of check at (frames_at P.bytes) (annotated_all p 0 0 P.functions) P.main)
      P.bytes P.main
  world_fits faithful =
      let r = routine_of p P.functions 0 0 P.main t.main.function t.main.found in
      record {
        fits = routine_fits;
        room = t.room;
        faithful = λ l lt. record { again = faithful.again l lt; word = faithful.word l lt };
        small = all_bytes P.bytes t.bytes;
        routine = r.routine;
        found = r.found;
        alone = r.params ∙ sym t.main.arity;
      }

-- `build` gives blocks
pub build_gives : BuildGivesBlocks
build_gives p P t groups =
    let fs = annotated_all p 0 0 P.functions in
    let W = world_of false labels_alone (frames_at P.bytes) fs P.main in
    let r = routine_of p P.functions 0 0 P.main t.main.function t.main.found in
    let fits = routine_fits false labels_alone p P t groups in
    let blocks = built_blocks W (frames_at P.bytes) fs P.main r.routine r.found fits
    (λ f g e. (fits f g e).few) t.room in
    let n = length_built (frames_at P.bytes) fs P.main in
    let h = sizes_few P.functions (λ f h e. (t.each f h e).few) p groups.few 0 0 P.functions t.each in
    record { followed = blocks.followed; few = omega (arith, n, h); fit = blocks.fit }

-- PLANS THAT CUT EVERYWHERE

module _ (fs : List Function)
    (each : (f : ℕ) (h : Function) → slice_get fs f ≡ Some h → h.params ≤ 8) (n bytes : ℕ) (p : Plan)
    (cuts : CutsAll p) where
  mutual
    cut_stmt : (i k : ℕ) (inside on : Bool) (s : Step) → FitsStep fs n bytes inside s
        → IsCutStmt (annotated_in p i k on s)
    cut_stmt i k inside on (Let to op a b) t = cuts.cut i
    cut_stmt i k inside on (Frame to at) t = cuts.cut i
    cut_stmt i k inside on (Load to op a) t = cuts.cut i
    cut_stmt i k inside on (Save op a v) t = cuts.cut i
    cut_stmt i k inside on (Call f xs to kept) t =
        let arity = t.0.arity in
        let params = each f t.0.function t.0.found in
        (cuts.cut i, cuts.small i, cuts.groups k, omega (arith, arity, params))
    cut_stmt i k inside on (Put v) t = tt
    cut_stmt i k inside on (Get to) t = cuts.cut i
    cut_stmt i k inside on (If a one other) t = (
      cuts.cut i,
      cuts.joined i,
      cut_tree (i + 1) k inside one t.1,
      cut_tree (i + 1 + steps_of one) (k + calls one) inside other t.2,
    )
    cut_stmt i k inside on (Loop body post) t = (
      cuts.cut i,
      cut_tree (i + 1) k true body t.0,
      cut_tree (i + 1 + steps_of body) (k + calls body) false post t.1,
    )
    cut_stmt i k inside on Break t = tt
    cut_stmt i k inside on Continue t = tt
    cut_stmt i k inside on (Return v) t = tt
    cut_stmt i k inside on (Halt v) t = tt

    cut_tree : (i k : ℕ) (inside : Bool) (c : Code) → FitsCode fs n bytes inside c
        → IsCutTree (annotated p i k c)
    cut_tree i k inside Nop t = tt
    cut_tree i k inside (s ▹ c) t =
        (cut_stmt i k inside (goes_on c) s t.0, cut_tree (i + steps_in s) (k + calls_in s) inside c t.1)

cut_routines : (all : List Function)
    → ((f : ℕ) (h : Function) → slice_get all f ≡ Some h → h.params ≤ 8) → (p : Plan) → CutsAll p
    → (i k : ℕ) (fs : List Function)
    → ((f : ℕ) (h : Function) → slice_get fs f ≡ Some h → FitsFunction all h) → (f : ℕ) (g : Routine)
    → slice_get (annotated_all p i k fs) f ≡ Some g → IsCutRoutine g
cut_routines all each p cuts i k [] t f g e = absurd (cc e)
cut_routines all each p cuts i k (h ∷ fs) t zero g e =
    let x = t 0 h refl in
    let r : Routine = record {
      params = h.params;
      scalars = h.scalars;
      arrays = h.arrays;
      small = p.small i;
      body = annotated p (i + 1) k h.body;
    } in
    let q : r ≡ g = cc e in
    subst IsCutRoutine q (record {
      small = cuts.small i;
      few = x.few;
      body = cut_tree all each h.scalars h.arrays p cuts (i + 1) k false h.body x.body;
    })
cut_routines all each p cuts i k (h ∷ fs) t (suc f) g e =
    cut_routines all each p cuts (i + 1 + steps_of h.body) (k + calls h.body) fs
    (λ j x q. t (suc j) x q) f g e

-- under a plan that cuts everywhere, each block is small, has one group, or holds one small if
pub cut_blocks_little : CutBlocksAreLittle
cut_blocks_little p P t groups cuts =
    built_little (frames_at P.bytes) (annotated_all p 0 0 P.functions) P.main
    (cut_routines P.functions (λ f h e. (t.each f h e).few) p cuts 0 0 P.functions t.each)

-- `build` keeps the meaning of a flat program
pub build_keeps : BuildKeepsMeaning
build_keeps check at p P input n t groups faithful bytes =
    let fs = annotated_all p 0 0 P.functions in
    let W = world_of check at (frames_at P.bytes) fs P.main in
    subst (λ F. EndsSo (hyper_run check at (built_program p P) P.bytes input) n
    (flat_run (tame_and check) (record { functions = F; bytes = P.bytes; main = P.main }) input n))
    (functions_below p 0 0 P.functions)
    (whole_follows check at P.bytes fs P.main input n (world_fits check at p P t groups faithful)
    (all_bytes input bytes))
