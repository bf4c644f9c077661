-- Small ifs have filled legs, and what stands around straight code keeps them.
use Rattle.std.proofs.Common.{◌≡◌, ℕ, suc, ◌+◌, ◌≤◌, Bool, true, false, cond, not, ◌&&◌, ◌||◌, []}
use Rattle.std.proofs.Common.{List, ◌∷◌, ◌++◌, map, Option, Some, None, refl, sym, ap, ap₂, ◌∙◌}
use Rattle.std.proofs.Common.{arith}
use Rattle.ir_forms.specs.inside.FlatCode.{Step, Let, Frame, Load, Save, Call, Put, Get, If, Loop, Break, Continue}
use Rattle.ir_forms.specs.inside.FlatCode.{Return, Halt, Code, Nop, ◌▹◌}
use Rattle.ir_forms.specs.inside.FlatFits.{steps_in, steps_of, is_small_leg, is_empty, small_if, small_ifs_in}
use Rattle.ir_forms.specs.inside.FlatFits.{small_ifs}
use Rattle.ir_forms.specs.inside.HyperCode.{Items, Done, Block}
use Rattle.ir_forms.specs.inside.HyperFits.{is_filled, filled_ifs, filled_in}
use Rattle.reg_assign.specs.inside.Keeps.{calls_in, calls}
use Rattle.hyper_build.specs.inside.Tree.{Plan, goes_on, annotated_in, annotated}
use Rattle.hyper_build.specs.inside.Parts.{Move, cut, cut_blocks, cut_size, chain, chain_blocks, moved}
use Rattle.hyper_build.specs.inside.Parts.{moved_blocks}
use Rattle.hyper_build.specs.inside.Passing.{restoring, result_then}
use Rattle.hyper_build.specs.inside.Straight.{Place, items_in, items_of, is_small_if}
use Rattle.hyper_build.specs.inside.Legs.{exit_leg, leg_blocks}
use Rattle.hyper_build.specs.inside.Entries.{choose}
use Rattle.hyper_build.specs.inside.BackwardItems.{is_straight_in, is_straight, is_if_item}
use Rattle.hyper_build.proofs.ItemLegs.{and_parts}

-- how many ifs with a filled leg the items of a block hold
abbrev pub filled : Block → ℕ
filled b = filled_ifs b.items

-- those of two lists of blocks are those of each
pub filled_append : (xs ys : List Block) → filled_in (xs ++ ys) ≡ filled_in xs + filled_in ys
filled_append [] ys = omega arith
filled_append (x ∷ xs) ys = let h = filled_append xs ys in omega (arith, h)

-- CUTS, CHAINS AND MOVES

-- what stands behind a cut is there
pub cut_keeps : (c : Bool) (l : ℕ) (k : Block) → filled k ≤ filled (cut c l k) + filled_in (cut_blocks c k)
cut_keeps true l k = omega arith
cut_keeps false l k = omega arith

-- the restores of a group add no if and drop none
restoring_keeps : (frame : ℕ) (vs : List ℕ) (k : Block) → filled (restoring frame vs k) ≡ filled k
restoring_keeps frame [] k = refl
restoring_keeps frame (v ∷ vs) k = restoring_keeps frame vs k

-- what stands behind the restores of a call is there, in the last of their blocks
pub restores_keep : (c : Bool) (frame : ℕ) (gs : List (List ℕ)) (l : ℕ) (k : Block)
    → filled k ≤ filled (chain c (map (restoring frame) gs) l k)
    + filled_in (chain_blocks c (map (restoring frame) gs) l k)
restores_keep c frame [] l k = omega arith
restores_keep c frame (g ∷ gs) l k =
    let l1 = l + cut_size c in
    let next = chain c (map (restoring frame) gs) l1 k in
    let h = restores_keep c frame gs l1 k in
    let r = restoring_keeps frame g (cut c l next) in
    let e = cut_keeps c l next in
    let a = filled_append (cut_blocks c next) (chain_blocks c (map (restoring frame) gs) l1 k) in
    omega (arith, h, r, e, a)

-- what stands behind moves is there, in the last of their blocks
pub moved_keeps : (cuts : ℕ → Bool) (i : ℕ) (xs : List Move) (l : ℕ) (k : Block)
    → filled k ≤ filled (moved cuts i xs l k) + filled_in (moved_blocks cuts i xs l k)
moved_keeps cuts i [] l k = omega arith
moved_keeps cuts i (x ∷ xs) l k =
    let l1 = l + cut_size (cuts i) in
    let rest = moved cuts (suc i) xs l1 k in
    let c = cut_keeps (cuts i) l rest in
    let h = moved_keeps cuts (suc i) xs l1 k in
    let a = filled_append (cut_blocks (cuts i) rest) (moved_blocks cuts (suc i) xs l1 k) in
    omega (arith, c, h, a)

-- the move of a result adds no if and drops none
pub result_keeps : (to : Option ℕ) (k : Block) → filled (result_then to k) ≡ filled k
result_keeps None k = refl
result_keeps (Some v) k = refl

-- SMALL IFS

-- a leg that is empty or one operation: it does something, or is empty
leg_filled : (P : Place) (p : Plan) (i n : ℕ) (c : Code) → is_small_leg c ≡ true
    → is_filled (items_of P (annotated p i n c) Done) ≡ not (is_empty c)
leg_filled P p i n Nop e = refl
leg_filled P p i n (Let to op a b ▹ Nop) e = refl
leg_filled P p i n (Let to op a b ▹ (x ▹ c)) e = absurd (cc e)
leg_filled P p i n (Frame to at ▹ c) e = absurd (cc e)
leg_filled P p i n (Load to op a ▹ c) e = absurd (cc e)
leg_filled P p i n (Save op a v ▹ c) e = absurd (cc e)
leg_filled P p i n (Call f args to kept ▹ c) e = absurd (cc e)
leg_filled P p i n (Put a ▹ c) e = absurd (cc e)
leg_filled P p i n (Get to ▹ c) e = absurd (cc e)
leg_filled P p i n (If t one other ▹ c) e = absurd (cc e)
leg_filled P p i n (Loop body post ▹ c) e = absurd (cc e)
leg_filled P p i n (Break ▹ c) e = absurd (cc e)
leg_filled P p i n (Continue ▹ c) e = absurd (cc e)
leg_filled P p i n (Return v ▹ c) e = absurd (cc e)
leg_filled P p i n (Halt v ▹ c) e = absurd (cc e)

leg_straight : (c : Code) → is_small_leg c ≡ true → is_straight c ≡ true
leg_straight Nop e = refl
leg_straight (Let to op a b ▹ Nop) e = refl
leg_straight (Let to op a b ▹ (x ▹ c)) e = absurd (cc e)
leg_straight (Frame to at ▹ c) e = absurd (cc e)
leg_straight (Load to op a ▹ c) e = absurd (cc e)
leg_straight (Save op a v ▹ c) e = absurd (cc e)
leg_straight (Call f args to kept ▹ c) e = absurd (cc e)
leg_straight (Put a ▹ c) e = absurd (cc e)
leg_straight (Get to ▹ c) e = absurd (cc e)
leg_straight (If t one other ▹ c) e = absurd (cc e)
leg_straight (Loop body post ▹ c) e = absurd (cc e)
leg_straight (Break ▹ c) e = absurd (cc e)
leg_straight (Continue ▹ c) e = absurd (cc e)
leg_straight (Return v ▹ c) e = absurd (cc e)
leg_straight (Halt v ▹ c) e = absurd (cc e)

abbrev one_if : Bool → ℕ
one_if z = cond z 1 0

-- the count of an if by its legs: whether both are short, and whether both are empty
abbrev pub number_by : Bool → Bool → ℕ
number_by short empty = cond short (cond empty 0 1) 0

-- which is whether it is small
small_number : (a b : Bool) → number_by a b ≡ one_if (a && not b)
small_number true true = refl
small_number true false = refl
small_number false b = refl

filled_by : (x y f h : Bool) → f ≡ not x → h ≡ not y → not (x && y) ≡ true → (f || h) ≡ true
filled_by true true f h u v e = absurd (cc e)
filled_by true false f h u v e = ap₂ (λ y z. y || z) u v
filled_by false y f h u v e = ap (λ z. z || h) u

-- a small if as an item has a filled leg
small_filled : (one other : Code) (f h : Bool) → (is_small_leg one ≡ true → f ≡ not (is_empty one))
    → (is_small_leg other ≡ true → h ≡ not (is_empty other)) → (z : Bool) → is_small_if one other ≡ z
    → small_if one other ≤ cond (f || h) 1 0
small_filled one other f h u v false e =
    let n = small_number (is_small_leg one && is_small_leg other) (is_empty one && is_empty other) in
    let q : small_if one other ≡ 0 = n ∙ ap one_if e in
    omega (arith, q)
small_filled one other f h u v true e =
    let n = small_number (is_small_leg one && is_small_leg other) (is_empty one && is_empty other) in
    let parts = and_parts (is_small_leg one && is_small_leg other) (not (is_empty one && is_empty other)) e in
    let legs = and_parts (is_small_leg one) (is_small_leg other) parts.0 in
    let full = filled_by (is_empty one) (is_empty other) f h (u legs.0) (v legs.1) parts.1 in
    let q : small_if one other ≡ 1 = n ∙ ap one_if e in
    let r : one_if (f || h) ≡ 1 = ap one_if full in
    omega (arith, q, r)

-- a small if has a leg that does something
pub small_most : (P : Place) (p : Plan) (i n j m : ℕ) (one other : Code)
    → small_if one other ≤ cond (is_filled (items_of P (annotated p i n one) Done)
    || is_filled (items_of P (annotated p j m other) Done)) 1 0
small_most P p i n j m one other =
    small_filled one other _ _ (leg_filled P p i n one) (leg_filled P p j m other) (is_small_if one other) refl

-- an if that is no item is not small
no_item : (joined small : Bool) (straight : Bool) → (small ≡ true → straight ≡ true)
    → (joined || small) && straight ≡ false → small ≡ false
no_item joined false straight h e = refl
no_item true true straight h e = let bad : true ≡ false = sym (h refl) ∙ e in cc
no_item false true straight h e = let bad : true ≡ false = sym (h refl) ∙ e in cc

small_straight : (one other : Code) → is_small_if one other ≡ true → is_straight one && is_straight other ≡ true
small_straight one other q =
    let parts = and_parts (is_small_leg one && is_small_leg other) (not (is_empty one && is_empty other)) q in
    let each = and_parts (is_small_leg one) (is_small_leg other) parts.0 in
    ap₂ (λ y z. y && z) (leg_straight one each.0) (leg_straight other each.1)

-- an if that is no item is not small
pub not_small : (joined : Bool) (one other : Code) → is_if_item joined one other ≡ false → small_if one other ≡ 0
not_small joined one other e =
    small_number (is_small_leg one && is_small_leg other) (is_empty one && is_empty other)
    ∙ ap one_if (no_item joined (is_small_if one other) (is_straight one && is_straight other)
    (small_straight one other) e)

-- STRAIGHT CODE

mutual
  items_keep : (P : Place) (p : Plan) (i n : ℕ) (on : Bool) (x : Step) (r : Items) → is_straight_in x ≡ true
      → small_ifs_in x + filled_ifs r ≤ filled_ifs (items_in P (annotated_in p i n on x) r)
  items_keep P p i n on (Let to op a b) r e = omega arith
  items_keep P p i n on (Frame to at) r e = omega arith
  items_keep P p i n on (Load to op a) r e = omega arith
  items_keep P p i n on (Save op a v) r e = omega arith
  items_keep P p i n on (Call f args to kept) r e = absurd (cc e)
  items_keep P p i n on (Put a) r e = absurd (cc e)
  items_keep P p i n on (Get to) r e = absurd (cc e)
  items_keep P p i n on (If t one other) r e =
      let j = i + 1 + steps_of one in
      let m = n + calls one in
      let q = and_parts (is_straight one) (is_straight other) e in
      let x = all_items_keep P p (i + 1) n one Done q.0 in
      let y = all_items_keep P p j m other Done q.1 in
      let z = small_most P p (i + 1) n j m one other in
      omega (arith, x, y, z)
  items_keep P p i n on (Loop body post) r e = absurd (cc e)
  items_keep P p i n on Break r e = absurd (cc e)
  items_keep P p i n on Continue r e = absurd (cc e)
  items_keep P p i n on (Return v) r e = absurd (cc e)
  items_keep P p i n on (Halt v) r e = absurd (cc e)

  -- the small ifs of straight code are in the items that do it
  pub all_items_keep : (P : Place) (p : Plan) (i n : ℕ) (c : Code) (r : Items) → is_straight c ≡ true
      → small_ifs c + filled_ifs r ≤ filled_ifs (items_of P (annotated p i n c) r)
  all_items_keep P p i n Nop r e = omega arith
  all_items_keep P p i n (x ▹ c) r e =
      let q = and_parts (is_straight_in x) (is_straight c) e in
      let rest = items_of P (annotated p (i + steps_in x) (n + calls_in x) c) r in
      let u = items_keep P p i n (goes_on c) x rest q.0 in
      let v = all_items_keep P p (i + steps_in x) (n + calls_in x) c r q.1 in
      omega (arith, u, v)

-- LEGS

-- a leg without blocks has no small if
pub leg_none : (P : Place) (p : Plan) (i n join e : ℕ) (c : Code) → exit_leg P join (annotated p i n c) ≡ Some e
    → small_ifs c ≡ 0
leg_none P p i n join e Nop h = refl
leg_none P p i n join e (Break ▹ Nop) h = refl
leg_none P p i n join e (Continue ▹ Nop) h = refl
leg_none P p i n join e (Break ▹ (x ▹ c)) h = absurd (cc h)
leg_none P p i n join e (Continue ▹ (x ▹ c)) h = absurd (cc h)
leg_none P p i n join e (Let to op a b ▹ c) h = absurd (cc h)
leg_none P p i n join e (Frame to at ▹ c) h = absurd (cc h)
leg_none P p i n join e (Load to op a ▹ c) h = absurd (cc h)
leg_none P p i n join e (Save op a v ▹ c) h = absurd (cc h)
leg_none P p i n join e (Call f args to kept ▹ c) h = absurd (cc h)
leg_none P p i n join e (Put a ▹ c) h = absurd (cc h)
leg_none P p i n join e (Get to ▹ c) h = absurd (cc h)
leg_none P p i n join e (If t one other ▹ c) h = absurd (cc h)
leg_none P p i n join e (Loop body post ▹ c) h = absurd (cc h)
leg_none P p i n join e (Return v ▹ c) h = absurd (cc h)
leg_none P p i n join e (Halt v ▹ c) h = absurd (cc h)

-- the blocks of a leg hold what its first block and the others do
pub leg_keeps : (o : Option ℕ) (first : Block) (others : List Block) (m : ℕ)
    → m ≤ filled first + filled_in others → ((e : ℕ) → o ≡ Some e → m ≡ 0)
    → m ≤ filled_in (leg_blocks o first others)
leg_keeps None first others m h z = h
leg_keeps (Some e) first others m h z = let q = z e refl in omega (arith, q)

-- an if as an item or as a test
pub if_keeps : (z : Bool) (item test : Block) (xs ys : List Block) (m : ℕ)
    → (z ≡ true → m ≤ filled item + filled_in xs) → (z ≡ false → m ≤ filled test + filled_in ys)
    → m ≤ filled (choose z item test) + filled_in (cond z xs ys)
if_keeps true item test xs ys m f h = f refl
if_keeps false item test xs ys m f h = h refl
