-- Where a plan cuts everywhere, each block is small, has one group, or holds one small if.
use Rattle.std.proofs.Common.{◌≡◌, inr, ℕ, zero, suc, ◌+◌, ◌≤◌, Bool, true, false, cond, not, ◌&&◌, []}
use Rattle.std.proofs.Common.{◌||◌, List, ◌∷◌, ◌++◌, map, length, Option, Some, None, refl, ap, ap₂, ◌∙◌, subst}
use Rattle.std.proofs.Common.{arith, slice_get}
use Rattle.ir_forms.specs.declared.flat.Arg.{Arg}
use Rattle.ir_forms.specs.declared.hyper.Exit.TheVariants as exit
use Rattle.ir_forms.specs.inside.FlatFits.{is_small_leg, is_empty}
use Rattle.ir_forms.specs.inside.Frames.{frame_limit}
use Rattle.ir_forms.specs.inside.HyperCode.{Done, Block}
use Rattle.ir_forms.specs.inside.HyperFits.{is_filled}
use Rattle.ir_forms.specs.inside.HyperRuns.{jump}
use Rattle.reg_assign.specs.inside.Live.{AreSmall}
use Rattle.hyper_build.specs.inside.Tree.{Stmt, LetAt, FrameAt, LoadAt, SaveAt, CallAt, PutAt, GetAt, IfAt}
use Rattle.hyper_build.specs.inside.Tree.{LoopAt, BreakAt, ContinueAt, ReturnAt, HaltAt, Tree, End, ◌▸◌, Routine, plain}
use Rattle.hyper_build.specs.inside.Parts.{source, cut_blocks, chain_blocks, chain_size, moved_blocks}
use Rattle.hyper_build.specs.inside.Passing.{saving, restoring, argument_moves, argument_cuts}
use Rattle.hyper_build.specs.inside.Passing.{parameter_moves, parameter_cuts}
use Rattle.hyper_build.specs.inside.Straight.{Place, in_loop, straight, items_of, is_small_if, is_item}
use Rattle.hyper_build.specs.inside.Legs.{exit_leg, leg_blocks, leg_size, is_break, is_end, is_test, is_loop_test}
use Rattle.hyper_build.specs.inside.Legs.{label_or, is_bare, post_exit, post_size}
use Rattle.hyper_build.specs.inside.Sizes.{arguments_size, size_in, size, turn_size, part_size}
use Rattle.hyper_build.specs.inside.Entries.{choose, give, entry_in, entry, test_entry}
use Rattle.hyper_build.specs.inside.Entries.{turn_entry}
use Rattle.hyper_build.specs.inside.Build.{blocks_in, blocks, test_blocks, turn_blocks}
use Rattle.hyper_build.specs.inside.Routines.{way_out, place_of, parameters_size, body_label}
use Rattle.hyper_build.specs.inside.Routines.{body_entry, routine_size, routine_blocks, all_blocks, entry_from}
use Rattle.hyper_build.specs.inside.Routines.{built}
use Rattle.hyper_build.specs.inside.SmallIfs.{IsShortLeg, if_block}
use Rattle.hyper_build.specs.inside.Smallness.{IsLittle}
use Rattle.hyper_build.proofs.ItemLegs.{and_parts}
use Rattle.hyper_build.proofs.SmallGroups.{AllLittle, little_append, Rest, little, simple, little_jump, saves_little}
use Rattle.hyper_build.proofs.SmallGroups.{saves_all, restores_little, restores_all, result_little, arguments_little}
use Rattle.hyper_build.proofs.SmallGroups.{parameters_little}

-- CUT CODE

abbrev mutual
  -- an annotated statement is cut everywhere
  pub IsCutStmt : Stmt → Type 0
  IsCutStmt (LetAt c to op a b) = c ≡ true
  IsCutStmt (FrameAt c to at) = c ≡ true
  IsCutStmt (LoadAt c to op a) = c ≡ true
  IsCutStmt (SaveAt c op a v) = c ≡ true
  IsCutStmt (CallAt c small f args to groups) =
      (c ≡ true) × (small ≡ true) × AreSmall groups × (length args ≤ 8)
  IsCutStmt (PutAt v) = Unit {0}
  IsCutStmt (GetAt c to) = c ≡ true
  IsCutStmt (IfAt c joined t one other) =
      (c ≡ true) × (joined ≡ false) × IsCutTree one × IsCutTree other
  IsCutStmt (LoopAt c body post) = (c ≡ true) × IsCutTree body × IsCutTree post
  IsCutStmt (BreakAt c) = Unit {0}
  IsCutStmt (ContinueAt c) = Unit {0}
  IsCutStmt (ReturnAt c v) = Unit {0}
  IsCutStmt (HaltAt c v) = Unit {0}

  -- annotated code is cut everywhere
  pub IsCutTree : Tree → Type 0
  IsCutTree End = Unit {0}
  IsCutTree (s ▸ rest) = IsCutStmt s × IsCutTree rest

-- SMALL IFS

-- a leg that is empty or one operation, as items
short_leg : (p : Place) (c : Tree) → is_small_leg (plain c) ≡ true → IsShortLeg (items_of p c Done)
short_leg p End e = tt
short_leg p (LetAt c to op a b ▸ End) e = tt
short_leg p (LetAt c to op a b ▸ (s ▸ rest)) e = absurd (cc e)
short_leg p (FrameAt c to at ▸ rest) e = absurd (cc e)
short_leg p (LoadAt c to op a ▸ rest) e = absurd (cc e)
short_leg p (SaveAt c op a v ▸ rest) e = absurd (cc e)
short_leg p (CallAt c small f args to groups ▸ rest) e = absurd (cc e)
short_leg p (PutAt v ▸ rest) e = absurd (cc e)
short_leg p (GetAt c to ▸ rest) e = absurd (cc e)
short_leg p (IfAt c joined t one other ▸ rest) e = absurd (cc e)
short_leg p (LoopAt c body post ▸ rest) e = absurd (cc e)
short_leg p (BreakAt c ▸ rest) e = absurd (cc e)
short_leg p (ContinueAt c ▸ rest) e = absurd (cc e)
short_leg p (ReturnAt c v ▸ rest) e = absurd (cc e)
short_leg p (HaltAt c v ▸ rest) e = absurd (cc e)

-- it does something, or is empty
filled_leg : (p : Place) (c : Tree) → is_small_leg (plain c) ≡ true
    → is_filled (items_of p c Done) ≡ not (is_empty (plain c))
filled_leg p End e = refl
filled_leg p (LetAt c to op a b ▸ End) e = refl
filled_leg p (LetAt c to op a b ▸ (s ▸ rest)) e = absurd (cc e)
filled_leg p (FrameAt c to at ▸ rest) e = absurd (cc e)
filled_leg p (LoadAt c to op a ▸ rest) e = absurd (cc e)
filled_leg p (SaveAt c op a v ▸ rest) e = absurd (cc e)
filled_leg p (CallAt c small f args to groups ▸ rest) e = absurd (cc e)
filled_leg p (PutAt v ▸ rest) e = absurd (cc e)
filled_leg p (GetAt c to ▸ rest) e = absurd (cc e)
filled_leg p (IfAt c joined t one other ▸ rest) e = absurd (cc e)
filled_leg p (LoopAt c body post ▸ rest) e = absurd (cc e)
filled_leg p (BreakAt c ▸ rest) e = absurd (cc e)
filled_leg p (ContinueAt c ▸ rest) e = absurd (cc e)
filled_leg p (ReturnAt c v ▸ rest) e = absurd (cc e)
filled_leg p (HaltAt c v ▸ rest) e = absurd (cc e)

not_both : (x y : Bool) → not (x && y) ≡ true → (not x || not y) ≡ true
not_both true true e = absurd (cc e)
not_both true false e = refl
not_both false y e = refl

-- an if that is an item without a join is small, and its block holds it alone
small_if_little : (p : Place) (a : Arg) (one other : Tree) (l : ℕ) → is_item false one other ≡ true
    → IsLittle (if_block (source a) (items_of p one Done) (items_of p other Done) (exit.Jump l))
small_if_little p a one other l w =
    let small : is_small_if (plain one) (plain other) ≡ true =
    (and_parts (is_small_if (plain one) (plain other)) (straight one && straight other) w).0 in
    let legs = and_parts (is_small_leg (plain one) && is_small_leg (plain other))
    (not (is_empty (plain one) && is_empty (plain other))) small in
    let each = and_parts (is_small_leg (plain one)) (is_small_leg (plain other)) legs.0 in
    inr (inr (record {
      test = source a;
      one = items_of p one Done;
      other = items_of p other Done;
      out = exit.Jump l;
      is = refl;
      first = short_leg p one each.0;
      second = short_leg p other each.1;
      filled = ap₂ (λ y z. y || z) (filled_leg p one each.0) (filled_leg p other each.1)
          ∙ not_both (is_empty (plain one)) (is_empty (plain other)) legs.1;
    }))

-- an if as an item or as a test
if_little : (z : Bool) (item test : Block) (xs ys : List Block)
    → (z ≡ true → IsLittle item × AllLittle xs) → IsLittle test × AllLittle ys
    → IsLittle (choose z item test) × AllLittle (cond z xs ys)
if_little true item test xs ys f h = f refl
if_little false item test xs ys f h = h

-- CODE

cuts_little : (c : Bool) (b : Block) → IsLittle b → AllLittle (cut_blocks c b)
cuts_little true b s = (s, tt)
cuts_little false b s = tt

leg_little : (o : Option ℕ) (first : Block) (others : List Block) → IsLittle first
    → AllLittle others → AllLittle (leg_blocks o first others)
leg_little None first others a b = (a, b)
leg_little (Some x) first others a b = tt

give_little : (v : Option Arg) (k : Block) → Rest 2 k → IsLittle (give v k)
give_little None k r =
    let i = r.items in
    little k (record { items = omega (arith, i); tests = r.tests; exits = r.exits; plain = r.plain; jumps = r.jumps })
give_little (Some a) k r =
    let i = r.items in let t = r.tests in
    little _ (record {
      items = omega (arith, i);
      tests = omega (arith, t);
      exits = r.exits;
      plain = r.plain;
      jumps = r.jumps;
    })

call_little : (p : Place) (f : ℕ) (args : List Arg) (to : Option ℕ) (groups : List (List ℕ)) (l : ℕ)
    (k : Block) → AreSmall groups → length args ≤ 8 → IsLittle k
    → IsLittle (entry_in p (CallAt true true f args to groups) l k)
    × AllLittle (blocks_in p (CallAt true true f args to groups) l k)
call_little p f args to groups l k small few s =
    let n = chain_size true groups in
    let back = l + n + arguments_size true args in
    let m = arguments_little args (l + n) (p.entries f) back few in
    let last = result_little to (back + 1 + n) in (
      saves_little p.frame groups l _ small m.0,
      little_append (chain_blocks true (map (saving p.frame) groups) l _) _
          (saves_all p.frame groups l _ small m.0)
          (little_append (moved_blocks (argument_cuts true) 0 (argument_moves 0 args) (l + n) _) _ m.1 (
            restores_little p.frame groups (back + 1) _ small last,
            little_append (chain_blocks true (map (restoring p.frame) groups) (back + 1) _) (k ∷ [])
                (restores_all p.frame groups (back + 1) _ small last) (s, tt),
          )),
    )

-- where the plan joins nothing, no statement is a loop's test
no_test : (st : Stmt) → IsCutStmt st → is_test st ≡ false
no_test (IfAt c joined a one other) t = ap (λ b. b && is_break other) t.1
no_test (LetAt c to op a b) t = refl
no_test (FrameAt c to at) t = refl
no_test (LoadAt c to op a) t = refl
no_test (SaveAt c op a v) t = refl
no_test (CallAt c small f args to groups) t = refl
no_test (PutAt v) t = refl
no_test (GetAt c to) t = refl
no_test (LoopAt c body post) t = refl
no_test (BreakAt c) t = refl
no_test (ContinueAt c) t = refl
no_test (ReturnAt c v) t = refl
no_test (HaltAt c v) t = refl

and_none : (a b : Bool) → b ≡ false → a && b ≡ false
and_none true b e = e
and_none false b e = refl

uncut_test : (st : Stmt) (rest : Tree) → IsCutStmt st → is_loop_test st rest ≡ false
uncut_test st rest t = and_none (is_end rest) (is_test st) (no_test st t)

part_little : (z : Bool) (x y : Block) (xs ys : List Block) → z ≡ false → IsLittle y × AllLittle ys
    → IsLittle (choose z x y) × AllLittle (cond z xs ys)
part_little true x y xs ys e h = absurd (cc e)
part_little false x y xs ys e h = h

mutual
  little_in : (p : Place) (st : Stmt) (l : ℕ) (k : Block) → IsCutStmt st → Rest 2 p.gave → IsLittle k
      → IsLittle (entry_in p st l k) × AllLittle (blocks_in p st l k)
  little_in p (LetAt true to op a b) l k t g s =
      (simple _ (omega arith) (omega arith) (omega arith) refl tt, (s, tt))
  little_in p (FrameAt true to at) l k t g s =
      (simple _ (omega arith) (omega arith) (omega arith) refl tt, (s, tt))
  little_in p (LoadAt true to op a) l k t g s =
      (simple _ (omega arith) (omega arith) (omega arith) refl tt, (s, tt))
  little_in p (SaveAt true op a v) l k t g s =
      (simple _ (omega arith) (omega arith) (omega arith) refl tt, (s, tt))
  little_in p (CallAt true true f args to groups) l k t g s =
      call_little p f args to groups l k t.2 t.3 s
  little_in p (PutAt v) l k t g s =
      (simple _ (omega arith) (omega arith) (omega arith) refl tt, (s, tt))
  little_in p (GetAt true to) l k t g s = (
    simple _ (omega arith) (omega arith) (omega arith) refl tt,
    (simple _ (omega arith) (omega arith) (omega arith) refl tt, (s, tt)),
  )
  little_in p (IfAt true false a one other) l k t g s =
      let l1 = l + leg_size one (size one) in
      let join = l1 + leg_size other (size other) in
      let first = leg_blocks (exit_leg p join one) (entry p one (l + 1) (jump join))
      (blocks p one (l + 1) (jump join)) in
      let second = leg_blocks (exit_leg p join other) (entry p other (l1 + 1) (jump join))
      (blocks p other (l1 + 1) (jump join)) in
      let u = little_tree p one (l + 1) (jump join) t.2 g (little_jump join) in
      let v = little_tree p other (l1 + 1) (jump join) t.3 g (little_jump join) in
      if_little (is_item false one other) _ _ (k ∷ []) (first ++ (second ++ k ∷ []))
      (λ e. (small_if_little p a one other l e, (s, tt))) (
        simple _ (omega arith) (omega arith) (omega arith) refl (tt, tt),
        little_append first _ (leg_little (exit_leg p join one) _ _ u.0 u.1)
            (little_append second (k ∷ []) (leg_little (exit_leg p join other) _ _ v.0 v.1) (s, tt)),
      )
  little_in p (LoopAt true body post) l k t g s =
      let next = l + 1 + turn_size body in
      let bare = is_bare true body post in
      let exit_ = post_exit bare l in
      let again = label_or next exit_ in
      let q = in_loop p (next + post_size bare (size post)) again in
      let x = little_turn q body (l + 1) (jump again) t.1 g (little_jump again) in
      let y = little_tree q post (next + 1) (jump l) t.2 g (little_jump l) in (
        little_jump l,
        (
          x.0,
          little_append (turn_blocks q body (l + 1) (jump again)) _ x.1
              (little_append (leg_blocks exit_ (entry q post (next + 1) (jump l))
              (blocks q post (next + 1) (jump l))) (k ∷ []) (leg_little exit_ _ _ y.0 y.1) (s, tt)),
        ),
      )
  little_in p (BreakAt c) l k t g s = (little_jump p.broke, cuts_little c k s)
  little_in p (ContinueAt c) l k t g s = (little_jump p.again, cuts_little c k s)
  little_in p (ReturnAt c v) l k t g s = (give_little v p.gave g, cuts_little c k s)
  little_in p (HaltAt c v) l k t g s = (simple _ (omega arith) (omega arith) (omega arith) refl tt, cuts_little c k s)
  little_in p (LetAt false to op a b) l k t g s = absurd (cc t)
  little_in p (FrameAt false to at) l k t g s = absurd (cc t)
  little_in p (LoadAt false to op a) l k t g s = absurd (cc t)
  little_in p (SaveAt false op a v) l k t g s = absurd (cc t)
  little_in p (CallAt false small f args to groups) l k t g s = let z = t.0 in absurd (cc z)
  little_in p (CallAt true false f args to groups) l k t g s = let z = t.1 in absurd (cc z)
  little_in p (GetAt false to) l k t g s = absurd (cc t)
  little_in p (IfAt false joined a one other) l k t g s = let z = t.0 in absurd (cc z)
  little_in p (IfAt true true a one other) l k t g s = let z = t.1 in absurd (cc z)
  little_in p (LoopAt false body post) l k t g s = let z = t.0 in absurd (cc z)

  pub little_tree : (p : Place) (c : Tree) (l : ℕ) (k : Block) → IsCutTree c → Rest 2 p.gave
      → IsLittle k → IsLittle (entry p c l k) × AllLittle (blocks p c l k)
  little_tree p End l k t g s = (s, tt)
  little_tree p (st ▸ rest) l k t g s =
      let y = little_tree p rest (l + size_in st) k t.1 g s in
      let x = little_in p st l (entry p rest (l + size_in st) k) t.0 g y.0 in
      (x.0, little_append (blocks_in p st l (entry p rest (l + size_in st) k)) _ x.1 y.1)

  -- a loop's body, in which no test goes on in its block
  little_turn : (p : Place) (c : Tree) (l : ℕ) (k : Block) → IsCutTree c → Rest 2 p.gave
      → IsLittle k → IsLittle (turn_entry p c l k) × AllLittle (turn_blocks p c l k)
  little_turn p End l k t g s = (s, tt)
  little_turn p (st ▸ rest) l k t g s =
      let z = is_loop_test st rest in
      let l1 = l + part_size z st in
      let k1 = turn_entry p rest l1 k in
      let y = little_turn p rest l1 k t.1 g s in
      let x = part_little z (test_entry p st l k1) (entry_in p st l k1) (test_blocks p st l k1) (blocks_in p st l k1)
      (uncut_test st rest t.0) (little_in p st l k1 t.0 g y.0) in
      (x.0, little_append (cond z (test_blocks p st l k1) (blocks_in p st l k1)) (turn_blocks p rest l1 k) x.1 y.1)

-- FUNCTIONS

out_rest : (g : Routine) → Rest 2 (way_out g)
out_rest g = record { items = omega arith; tests = omega arith; exits = omega arith; plain = refl; jumps = tt }

-- a function whose code is cut, with at most eight parameters
pub record IsCutRoutine (g : Routine) : Type 0 where
  pub small : g.small ≡ true
  pub few : g.params ≤ 8
  pub body : IsCutTree g.body

routine_little : (end : ℕ) (entries : ℕ → ℕ) (e : ℕ) (g : Routine) → IsCutRoutine g
    → AllLittle (routine_blocks end entries e g)
routine_little end entries e g t =
    let body = body_entry g entries e in
    let r = out_rest g in
    let x = little_tree (place_of g entries) g.body (body_label g e) (way_out g) t.body r
    (little (way_out g) (record {
      items = omega arith;
      tests = omega arith;
      exits = omega arith;
      plain = refl;
      jumps = tt;
    })) in
    let w = parameters_little g.small g.params (e + 2) (e + 2 + parameters_size g) body t.small t.few in
    let i = w.0.items in
    let ts = w.0.tests in (
      simple _ (omega arith) (omega arith) (omega arith) refl (tt, tt),
      (
        little _ (record {
          items = omega (arith, i);
          tests = omega (arith, ts);
          exits = w.0.exits;
          plain = w.0.plain;
          jumps = w.0.jumps;
        }),
        little_append (moved_blocks (parameter_cuts g.small) 0 (parameter_moves 0 g.params) (e + 2) _) _
            w.1 (little_append (cut_blocks g.small body) _ (cuts_little g.small body x.0) x.1),
      ),
    )

all_little : (end : ℕ) (entries : ℕ → ℕ) (e : ℕ) (gs : List Routine)
    → ((f : ℕ) (g : Routine) → slice_get gs f ≡ Some g → IsCutRoutine g)
    → AllLittle (all_blocks end entries e gs)
all_little end entries e [] t = tt
all_little end entries e (g ∷ gs) t =
    little_append (routine_blocks end entries e g) (all_blocks end entries (e + routine_size g) gs)
    (routine_little end entries e g (t 0 g refl))
    (all_little end entries (e + routine_size g) gs (λ f g q. t (suc f) g q))

little_at : (bs : List Block) (k : ℕ) (b : Block) → slice_get bs k ≡ Some b → AllLittle bs
    → IsLittle b
little_at [] k b e s = absurd (cc e)
little_at (x ∷ bs) zero b e s = let q : x ≡ b = cc e in subst IsLittle q s.0
little_at (x ∷ bs) (suc k) b e s = little_at bs k b e s.1

-- where routines are cut everywhere, each block is small, has one group, or holds one small if
pub built_little : (base : ℕ) (gs : List Routine) (main : ℕ)
    → ((f : ℕ) (g : Routine) → slice_get gs f ≡ Some g → IsCutRoutine g) → (k : ℕ) (b : Block)
    → slice_get (built base gs main) k ≡ Some b → IsLittle b
built_little base gs main t k b e =
    little_at (built base gs main) k b e (
      simple _ (omega arith) (omega arith) (omega arith) refl tt,
      (
        simple _ (omega arith) (omega arith) (omega arith) refl tt,
        (
          simple _ (omega arith) (omega arith) (omega arith) refl tt,
          all_little (base + frame_limit) (entry_from 3 gs) 3 gs t,
        ),
      ),
    )
