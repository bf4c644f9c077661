-- Under every plan each small if is an item with a filled leg, also behind a break, a continue or a return.
use Rattle.std.proofs.Common.{◌≡◌, ℕ, ◌+◌, ◌≤◌, Bool, true, false, cond, not, ◌&&◌, []}
use Rattle.std.proofs.Common.{List, ◌∷◌, ◌++◌, map, length, refl, sym, ap, ◌∙◌}
use Rattle.std.proofs.Common.{arith}
use Rattle.ir_forms.specs.inside.FlatCode.{Step, Let, Frame, Load, Save, Call, Put, Get, If, Loop, Break, Continue}
use Rattle.ir_forms.specs.inside.FlatCode.{Return, Halt, Code, Nop, ◌▹◌, Function}
use Rattle.ir_forms.specs.inside.FlatFits.{steps_in, steps_of, is_small_leg, is_empty, small_if, small_ifs_in}
use Rattle.ir_forms.specs.inside.FlatFits.{small_ifs}
use Rattle.ir_forms.specs.inside.FlatFits.{small_ifs_of_all}
use Rattle.ir_forms.specs.inside.Frames.{frames_at, frame_limit}
use Rattle.ir_forms.specs.inside.HyperCode.{Done, Block}
use Rattle.ir_forms.specs.inside.HyperFits.{filled_in}
use Rattle.ir_forms.specs.inside.HyperRuns.{jump}
use Rattle.reg_assign.specs.inside.Keeps.{calls_in, calls}
use Rattle.hyper_build.specs.inside.Tree.{Plan, Routine, leaves, goes_on, annotated_in, annotated, annotated_all}
use Rattle.hyper_build.specs.inside.Parts.{source, cut, cut_blocks, chain_blocks, chain_size, moved}
use Rattle.hyper_build.specs.inside.Parts.{moved_blocks}
use Rattle.hyper_build.specs.inside.Passing.{saving, restoring, argument_moves, argument_cuts, result_then}
use Rattle.hyper_build.specs.inside.Passing.{parameter_moves, parameter_cuts}
use Rattle.hyper_build.specs.inside.Straight.{Place, in_loop, items_of, is_item}
use Rattle.hyper_build.specs.inside.Legs.{exit_leg, label_or, leg_blocks, leg_size, is_loop_test, is_bare}
use Rattle.hyper_build.specs.inside.Legs.{post_exit, post_size}
use Rattle.hyper_build.specs.inside.Sizes.{arguments_size, size_in, size, turn_size, part_size}
use Rattle.hyper_build.specs.inside.Entries.{call_block, choose, body_end, entry_in, entry, test_entry, turn_entry}
use Rattle.hyper_build.specs.inside.Entries.{back_block}
use Rattle.hyper_build.specs.inside.Build.{blocks_in, blocks, test_blocks, turn_blocks}
use Rattle.hyper_build.specs.inside.BackwardItems.{if_then}
use Rattle.hyper_build.specs.inside.BackwardCode.{is_break_code, is_test_step, test_block}
use Rattle.hyper_build.specs.inside.Routines.{place_of, way_out, body_entry, body_label}
use Rattle.hyper_build.specs.inside.Routines.{parameters_size, routine_size, routine_blocks, all_blocks, entry_from}
use Rattle.hyper_build.specs.inside.Laws.{KeepsSmallIfs}
use Rattle.hyper_build.proofs.ItemLegs.{and_parts, item_is, legs_straight}
use Rattle.hyper_build.proofs.LoopTests.{break_is, loop_test_is}
use Rattle.hyper_build.proofs.LoopPosts.{post_none}
use Rattle.hyper_build.proofs.FilledLegs.{filled, filled_append, cut_keeps, restores_keep, moved_keeps, result_keeps}
use Rattle.hyper_build.proofs.FilledLegs.{number_by, small_most, not_small, all_items_keep, leg_none, leg_keeps}
use Rattle.hyper_build.proofs.FilledLegs.{if_keeps}

-- CODE

-- a statement that leaves has no small if
leaving_none : (x : Step) → leaves x ≡ true → small_ifs_in x ≡ 0
leaving_none (Let to op a b) e = refl
leaving_none (Frame to at) e = refl
leaving_none (Load to op a) e = refl
leaving_none (Save op a v) e = refl
leaving_none (Call f args to kept) e = refl
leaving_none (Put a) e = refl
leaving_none (Get to) e = refl
leaving_none (If t one other) e = absurd (cc e)
leaving_none (Loop body post) e = absurd (cc e)
leaving_none Break e = refl
leaving_none Continue e = refl
leaving_none (Return v) e = refl
leaving_none (Halt v) e = refl

-- behind it, what goes on has a block
leaving_cuts : (P : Place) (p : Plan) (l i n : ℕ) (on : Bool) (x : Step) (k : Block) → leaves x ≡ true
    → blocks_in P (annotated_in p i n on x) l k ≡ cut_blocks on k
leaving_cuts P p l i n on (Let to op a b) k e = absurd (cc e)
leaving_cuts P p l i n on (Frame to at) k e = absurd (cc e)
leaving_cuts P p l i n on (Load to op a) k e = absurd (cc e)
leaving_cuts P p l i n on (Save op a v) k e = absurd (cc e)
leaving_cuts P p l i n on (Call f args to kept) k e = absurd (cc e)
leaving_cuts P p l i n on (Put a) k e = absurd (cc e)
leaving_cuts P p l i n on (Get to) k e = absurd (cc e)
leaving_cuts P p l i n on (If t one other) k e = absurd (cc e)
leaving_cuts P p l i n on (Loop body post) k e = absurd (cc e)
leaving_cuts P p l i n on Break k e = refl
leaving_cuts P p l i n on Continue k e = refl
leaving_cuts P p l i n on (Return v) k e = refl
leaving_cuts P p l i n on (Halt v) k e = refl

-- The small ifs of code are in the rest of a block that does it and in its blocks, and where it does not go on,
-- in its blocks alone.
abbrev AreKept : Code → Block → List Block → Type 0
AreKept c first others =
    (small_ifs c ≤ filled first + filled_in others) × (goes_on c ≡ false → small_ifs c ≤ filled_in others)

-- behind a statement that leaves
behind_keeps : (c : Code) (k : Block) (more : List Block) (on : Bool) → goes_on c ≡ on → AreKept c k more
    → small_ifs c ≤ filled_in (cut_blocks on k ++ more)
behind_keeps c k more true e r = let h = r.0 in omega (arith, h)
behind_keeps c k more false e r = r.1 e

-- a statement and what stands behind it
code_by : (x : Step) (c : Code) (first : Block) (own more : List Block) (k : Block) (z : Bool) → leaves x ≡ z
    → (leaves x ≡ false → small_ifs_in x + filled k ≤ filled first + filled_in own)
    → (leaves x ≡ true → own ≡ cut_blocks (goes_on c) k) → AreKept c k more
    → AreKept (x ▹ c) first (own ++ more)
code_by x c first own more k false z s o r =
    let h = s z in
    let q = r.0 in
    let a = filled_append own more in
    (omega (arith, h, q, a), λ e. let bad : true ≡ false = sym (ap not z) ∙ e in absurd (cc bad))
code_by x c first own more k true z s o r =
    let n = leaving_none x z in
    let h = behind_keeps c k more (goes_on c) refl r in
    let a : filled_in (own ++ more) ≡ filled_in (cut_blocks (goes_on c) k ++ more) =
    ap (λ y. filled_in (y ++ more)) (o z) in
    (omega (arith, n, h, a), λ e. omega (arith, n, h, a))

-- LOOPS' TESTS

-- a test is no small if
no_small : (a b : Bool) → number_by (a && false) b ≡ 0
no_small true b = refl
no_small false b = refl

break_small : (one other : Code) → is_break_code other ≡ true → small_if one other ≡ 0
break_small one other e =
    ap (small_if one) (break_is other e) ∙ no_small (is_small_leg one) (is_empty one && is_empty (Break ▹ Nop))

break_none : (other : Code) → is_break_code other ≡ true → small_ifs other ≡ 0
break_none other e = ap small_ifs (break_is other e)

-- what a loop's test asks of its leg
abbrev LegIsKept : Place → Plan → ℕ → ℕ → Step → Type 0
LegIsKept P p i n (If a one other) =
    (l : ℕ) (k : Block) → AreKept one (entry P (annotated p (i + 1) n one) l k)
    (blocks P (annotated p (i + 1) n one) l k)
LegIsKept P p i n _ = Unit {0}

-- its leg's small ifs are in its block and in those that the leg begins, and it does not leave
test_keeps : (P : Place) (p : Plan) (l i n : ℕ) (on joined : Bool) (x : Step) (k : Block)
    → is_test_step joined x ≡ true → LegIsKept P p i n x
    → (small_ifs_in x ≤ filled (test_entry P (annotated_in p i n on x) l k)
    + filled_in (test_blocks P (annotated_in p i n on x) l k)) × (leaves x ≡ false)
test_keeps P p l i n on joined (If a one other) k e f =
    let A = annotated p (i + 1) n one in
    let k1 = cut (p.cut i) (l + size A) k in
    let b = (and_parts joined (is_break_code other) e).1 in
    let u = (f l k1).0 in
    let s = break_small one other b in
    let o = break_none other b in
    let q = filled_append (blocks P A l k1) (cut_blocks (p.cut i) k) in
    (omega (arith, u, s, o, q), refl)
test_keeps P p l i n on joined (Let to op x y) k e f = absurd (cc e)
test_keeps P p l i n on joined (Frame to at) k e f = absurd (cc e)
test_keeps P p l i n on joined (Load to op x) k e f = absurd (cc e)
test_keeps P p l i n on joined (Save op x y) k e f = absurd (cc e)
test_keeps P p l i n on joined (Call f_ xs to kept) k e f = absurd (cc e)
test_keeps P p l i n on joined (Put x) k e f = absurd (cc e)
test_keeps P p l i n on joined (Get to) k e f = absurd (cc e)
test_keeps P p l i n on joined (Loop c d) k e f = absurd (cc e)
test_keeps P p l i n on joined Break k e f = absurd (cc e)
test_keeps P p l i n on joined Continue k e f = absurd (cc e)
test_keeps P p l i n on joined (Return x) k e f = absurd (cc e)
test_keeps P p l i n on joined (Halt x) k e f = absurd (cc e)

empty_none : (c : Code) → is_empty c ≡ true → small_ifs c ≡ 0
empty_none Nop e = refl
empty_none (x ▹ c) e = absurd (cc e)

-- a loop's test, behind which nothing stands
test_by : (x : Step) (c : Code) (first : Block) (own more : List Block) → is_empty c ≡ true
    → (small_ifs_in x ≤ filled first + filled_in own) × (leaves x ≡ false) → AreKept (x ▹ c) first (own ++ more)
test_by x c first own more e h =
    let n = empty_none c e in
    let q = h.0 in
    let a = filled_append own more in
    (omega (arith, n, q, a), λ z. let bad : true ≡ false = sym (ap not h.1) ∙ z in absurd (cc bad))

-- a statement of a loop's body, by whether it is the test
part_keeps : (z : Bool) (x : Step) (c : Code) (e1 e2 : Block) (b1 b2 more : List Block)
    → (z ≡ true → AreKept (x ▹ c) e1 (b1 ++ more)) → (z ≡ false → AreKept (x ▹ c) e2 (b2 ++ more))
    → AreKept (x ▹ c) (choose z e1 e2) (cond z b1 b2 ++ more)
part_keeps true x c e1 e2 b1 b2 more f h = f refl
part_keeps false x c e1 e2 b1 b2 more f h = h refl

mutual
  -- a statement that does not leave, and the rest behind it
  step_keeps : (P : Place) (p : Plan) (l i n : ℕ) (on : Bool) (x : Step) (k : Block) → leaves x ≡ false
      → small_ifs_in x + filled k
      ≤ filled (entry_in P (annotated_in p i n on x) l k) + filled_in (blocks_in P (annotated_in p i n on x) l k)
  step_keeps P p l i n on (Let to op a b) k e = let h = cut_keeps (p.cut i) l k in omega (arith, h)
  step_keeps P p l i n on (Frame to at) k e = let h = cut_keeps (p.cut i) l k in omega (arith, h)
  step_keeps P p l i n on (Load to op a) k e = let h = cut_keeps (p.cut i) l k in omega (arith, h)
  step_keeps P p l i n on (Save op a v) k e = let h = cut_keeps (p.cut i) l k in omega (arith, h)
  step_keeps P p l i n on (Call f args to kept) k e =
      let small = p.small i in
      let groups = p.groups n in
      let g = chain_size small groups in
      let back = l + g + arguments_size small args in
      let rest = cut (p.cut i) (back + 1 + g) k in
      let last = result_then to rest in
      let moves = argument_moves 0 args in
      let call = call_block (P.entries f) back in
      let saves = chain_blocks small (map (saving P.frame) groups) l
      (moved (argument_cuts small) 0 moves (l + g) call) in
      let passes = moved_blocks (argument_cuts small) 0 moves (l + g) call in
      let restores = chain_blocks small (map (restoring P.frame) groups) (back + 1) last in
      let cuts = cut_blocks (p.cut i) k in
      let h = cut_keeps (p.cut i) (back + 1 + g) k in
      let r = result_keeps to rest in
      let b = restores_keep small P.frame groups (back + 1) last in
      let a1 = filled_append saves (passes ++ (back_block P small groups (back + 1) last ∷ (restores ++ cuts))) in
      let a2 = filled_append passes (back_block P small groups (back + 1) last ∷ (restores ++ cuts)) in
      let a3 = filled_append restores cuts in
      omega (arith, h, r, b, a1, a2, a3)
  step_keeps P p l i n on (Put a) k e = omega arith
  step_keeps P p l i n on (Get to) k e = let h = cut_keeps (p.cut i) (l + 1) k in omega (arith, h)
  step_keeps P p l i n on (If a one other) k e =
      let j = i + 1 + steps_of one in
      let m = n + calls one in
      let A = annotated p (i + 1) n one in
      let C = annotated p j m other in
      let l1 = l + leg_size A (size A) in
      let join = l1 + leg_size C (size C) in
      let e1 = entry P A (l + 1) (jump join) in
      let e2 = entry P C (l1 + 1) (jump join) in
      let b1 = blocks P A (l + 1) (jump join) in
      let b2 = blocks P C (l1 + 1) (jump join) in
      let first = leg_blocks (exit_leg P join A) e1 b1 in
      let second = leg_blocks (exit_leg P join C) e2 b2 in
      let same = item_is p i n (p.joined i) one other in
      if_keeps (is_item (p.joined i) A C)
      (if_then (source a) (items_of P A Done) (items_of P C Done) (cut (p.cut i) l k))
      (test_block a (label_or l (exit_leg P join A)) (label_or l1 (exit_leg P join C)))
      (cut_blocks (p.cut i) k) (first ++ (second ++ k ∷ []))
      (small_if one other + (small_ifs one + small_ifs other) + filled k)
      (λ z. let q = legs_straight (p.joined i) one other (sym same ∙ z) in
      let x = all_items_keep P p (i + 1) n one Done q.0 in
      let y = all_items_keep P p j m other Done q.1 in
      let s = small_most P p (i + 1) n j m one other in
      let h = cut_keeps (p.cut i) l k in
      omega (arith, x, y, s, h))
      (λ z. let s = not_small (p.joined i) one other (sym same ∙ z) in
      let u = code_keeps P p (l + 1) (i + 1) n one (jump join) in
      let v = code_keeps P p (l1 + 1) j m other (jump join) in
      let x = leg_keeps (exit_leg P join A) e1 b1 (small_ifs one) u.0
      (λ d q. leg_none P p (i + 1) n join d one q) in
      let y = leg_keeps (exit_leg P join C) e2 b2 (small_ifs other) v.0
      (λ d q. leg_none P p j m join d other q) in
      let a1 = filled_append first (second ++ k ∷ []) in
      let a2 = filled_append second (k ∷ []) in
      omega (arith, s, x, y, a1, a2))
  step_keeps P p l i n on (Loop body post) k e =
      let A = annotated p (i + 1) n body in
      let C = annotated p (i + 1 + steps_of body) (n + calls body) post in
      let next = l + 1 + turn_size A in
      let bare = is_bare (p.cut i) A C in
      let exit_ = post_exit bare l in
      let again = label_or next exit_ in
      let q = in_loop P (next + post_size bare (size C)) again in
      let after = body_end q (p.cut i) C again l in
      let first = entry q C (next + 1) (jump l) in
      let others = blocks q C (next + 1) (jump l) in
      let x = (turn_keeps q p (l + 1) (i + 1) n body after).0 in
      let y = (code_keeps q p (next + 1) (i + 1 + steps_of body) (n + calls body) post (jump l)).0 in
      let z = leg_keeps exit_ first others (small_ifs post) y
      (λ d h. post_none p (i + 1) n (i + 1 + steps_of body) (n + calls body) (p.cut i) body post l d h) in
      let a1 = filled_append (turn_blocks q A (l + 1) after) (leg_blocks exit_ first others ++ k ∷ []) in
      let a2 = filled_append (leg_blocks exit_ first others) (k ∷ []) in
      omega (arith, x, z, a1, a2)
  step_keeps P p l i n on Break k e = absurd (cc e)
  step_keeps P p l i n on Continue k e = absurd (cc e)
  step_keeps P p l i n on (Return v) k e = absurd (cc e)
  step_keeps P p l i n on (Halt v) k e = absurd (cc e)

  code_keeps : (P : Place) (p : Plan) (l i n : ℕ) (c : Code) (k : Block)
      → AreKept c (entry P (annotated p i n c) l k) (blocks P (annotated p i n c) l k)
  code_keeps P p l i n Nop k = (omega arith, λ e. omega arith)
  code_keeps P p l i n (x ▹ c) k =
      let S = annotated_in p i n (goes_on c) x in
      let l1 = l + size_in S in
      let R = annotated p (i + steps_in x) (n + calls_in x) c in
      let k1 = entry P R l1 k in
      code_by x c (entry_in P S l k1) (blocks_in P S l k1) (blocks P R l1 k) k1 (leaves x) refl
      (λ z. step_keeps P p l i n (goes_on c) x k1 z) (λ z. leaving_cuts P p l i n (goes_on c) x k1 z)
      (code_keeps P p l1 (i + steps_in x) (n + calls_in x) c k)

  legs_kept : (P : Place) (p : Plan) (i n : ℕ) (x : Step) → LegIsKept P p i n x
  legs_kept P p i n (If a one other) = λ l k. code_keeps P p l (i + 1) n one k
  legs_kept P p i n _ = tt

  turn_keeps : (P : Place) (p : Plan) (l i n : ℕ) (c : Code) (k : Block)
      → AreKept c (turn_entry P (annotated p i n c) l k) (turn_blocks P (annotated p i n c) l k)
  turn_keeps P p l i n Nop k = (omega arith, λ e. omega arith)
  turn_keeps P p l i n (x ▹ c) k =
      let S = annotated_in p i n (goes_on c) x in
      let R = annotated p (i + steps_in x) (n + calls_in x) c in
      let z = is_loop_test S R in
      let l1 = l + part_size z S in
      let k1 = turn_entry P R l1 k in
      let test = is_test_step (p.joined i) x in
      let same = loop_test_is p i n x c in
      part_keeps z x c (test_entry P S l k1) (entry_in P S l k1) (test_blocks P S l k1) (blocks_in P S l k1)
      (turn_blocks P R l1 k)
      (λ e. let q = and_parts (is_empty c) test (sym same ∙ e) in
      test_by x c (test_entry P S l k1) (test_blocks P S l k1) (turn_blocks P R l1 k) q.0
      (test_keeps P p l i n (goes_on c) (p.joined i) x k1 q.1 (legs_kept P p i n x)))
      (λ e. code_by x c (entry_in P S l k1) (blocks_in P S l k1) (turn_blocks P R l1 k) k1 (leaves x) refl
      (λ z. step_keeps P p l i n (goes_on c) x k1 z) (λ z. leaving_cuts P p l i n (goes_on c) x k1 z)
      (turn_keeps P p l1 (i + steps_in x) (n + calls_in x) c k))

-- PROGRAMS

all_keep : (end : ℕ) (entries : ℕ → ℕ) (p : Plan) (e i n : ℕ) (fs : List Function)
    → small_ifs_of_all fs ≤ filled_in (all_blocks end entries e (annotated_all p i n fs))
all_keep end entries p e i n [] = omega arith
all_keep end entries p e i n (f ∷ fs) =
    let g : Routine = record {
      params = f.params;
      scalars = f.scalars;
      arrays = f.arrays;
      small = p.small i;
      body = annotated p (i + 1) n f.body;
    } in
    let rest = all_blocks end entries (e + routine_size g)
    (annotated_all p (i + 1 + steps_of f.body) (n + calls f.body) fs) in
    let moves = parameter_moves 0 g.params in
    let b = body_entry g entries e in
    let to = cut g.small (e + 2 + parameters_size g) b in
    let more = blocks (place_of g entries) g.body (body_label g e) (way_out g) in
    let passes = moved_blocks (parameter_cuts g.small) 0 moves (e + 2) to in
    let x = (code_keeps (place_of g entries) p (body_label g e) (i + 1) n f.body (way_out g)).0 in
    let y = all_keep end entries p (e + routine_size g) (i + 1 + steps_of f.body) (n + calls f.body) fs in
    let c = cut_keeps g.small (e + 2 + parameters_size g) b in
    let m = moved_keeps (parameter_cuts g.small) 0 moves (e + 2) to in
    let a1 = filled_append (routine_blocks end entries e g) rest in
    let a2 = filled_append passes (cut_blocks g.small b ++ more) in
    let a3 = filled_append (cut_blocks g.small b) more in
    omega (arith, x, y, c, m, a1, a2, a3)

-- under every plan each small if is an item with a filled leg
pub keeps_small_ifs : KeepsSmallIfs
keeps_small_ifs p P =
    let fs = annotated_all p 0 0 P.functions in
    let h = all_keep (frames_at P.bytes + frame_limit) (entry_from 3 fs) p 3 0 0 P.functions in
    omega (arith, h)
