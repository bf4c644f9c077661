-- Each node of a block is covered, by induction along the block's order.
use Rattle.std.proofs.Common.{◌≡◌, ℕ, zero, suc, ◌+◌, ◌-◌, ◌<◌, ◌≤◌, List, [], ◌∷◌}
use Rattle.std.proofs.Common.{length, refl, sym, ap, subst, ◌∙◌, arith, cond, nat_eq, Bool, true, false, not}
use Rattle.std.proofs.Common.{◌&&◌, ◌||◌}
use Rattle.std.proofs.lemmas.Bool.Decides.{nat_tests}
use Rattle.std.specs.Prelude.{Option, Some, None, slice_get, All, ◌≢◌}
use Rattle.std.proofs.lemmas.List.Elements.{All-head, All-tail, All-nil, All-cons}
use Rattle.trips_isa.specs.declared.form.Role.{Role}
use Rattle.trips_isa.specs.declared.form.Role.TheVariants as role
use Rattle.trips_isa.specs.declared.block.Token.TheVariants.{Null}
use Rattle.trips_isa.specs.declared.block.Sense.{Sense}
use Rattle.trips_isa.specs.declared.block.Sense.TheVariants.{Always, OnTrue, OnFalse}
use Rattle.trips_isa.specs.Forms.{role_of, takes_left, takes_right}
use Rattle.trips_isa.specs.Rule.{Answer, matched}
use Rattle.ir_forms.specs.declared.flow.FlowSource.{FlowSource}
use Rattle.ir_forms.specs.declared.flow.FlowSource.TheVariants.{Read, Node}
use Rattle.ir_forms.specs.declared.flow.Guard.{Guard}
use Rattle.ir_forms.specs.declared.flow.FlowNode.{FlowNode}
use Rattle.ir_forms.specs.declared.flow.FlowBlock.{FlowBlock}
use Rattle.ir_forms.specs.inside.FlowRuns.{first, guard_token, met, Computes, Obeys, present}
use Rattle.ir_forms.specs.inside.FlowFits.{FitsFlowSource, FitsNode, FitsGuard, RisesFrom, RisesFromGuard, Rises}
use Rattle.null_outputs.proofs.Oracles.{EachWanted, Closed}
use Rattle.null_outputs.specs.inside.Covers.{Want, copy_under, both_under, sense_on, guard_on, Sure, Places}
use Rattle.null_outputs.specs.inside.Covers.{sense_cover, guard_cover, left_open, right_open, one_if}
use Rattle.null_outputs.specs.inside.Covers.{node_cover, cover_at, cover_of, Cover, list_top, list_nodes}
use Rattle.null_outputs.specs.inside.Groups.{guard_group, guard_is, sense_is, is_used, guard_part, left_part}
use Rattle.null_outputs.specs.inside.Groups.{right_part}
use Rattle.null_outputs.proofs.NullsOnPaths.{lacks, bit, present_low, lack_two, parts, here, Covered, none_covered}
use Rattle.null_outputs.proofs.NullsOnPaths.{append_covered, as_covered, copy_covered, both_covered, EachCovered}
use Rattle.null_outputs.proofs.NullsOnPaths.{list_covered, guard_covered, node_there}
use Rattle.null_outputs.proofs.Spaces.{obeys_at, some_is, same_eq}

-- what a list has at an index
pub all_at : {A : Type 0} (P : A → Type 0) (xs : List A) → All P xs → (k : ℕ) (x : A) → slice_get xs k ≡ Some x → P x
all_at P [] a k x e = absurd (cc)
all_at P (y ∷ xs) a zero x e = subst P (some_is y x e) (All-head P y xs a)
all_at P (y ∷ xs) a (suc k) x e = all_at P xs (All-tail P y xs a) k x e

-- what holds of each item of a list holds of all
pub all_from : {A : Type 0} (P : A → Type 0) (xs : List A) → ((k : ℕ) (x : A) → slice_get xs k ≡ Some x → P x)
    → All P xs
all_from P [] f = All-nil P
all_from P (x ∷ xs) f = All-cons P x xs (f zero x refl) (all_from P xs (λ k y e. f (suc k) y e))

-- Below its length a list has something at each place.
pub within : {A : Type 0} (xs : List A) (k : ℕ) → k < length xs → (x : A) × (slice_get xs k ≡ Some x)
within [] k l = absurd (omega (arith, l))
within (x ∷ xs) zero l = (x, refl)
within (x ∷ xs) (suc k) l = within xs k (omega (arith, l))

-- a guard that a node has is used
pub guard_is_on : (s : Bool) (g : Guard) → g.sense ≡ sense_on s → guard_is s g.node (Some g) ≡ true
guard_is_on s g e = both (nat_eq g.node g.node) (sense_is s g.sense) (same_eq g.node g.node refl)
    (ap (sense_is s) e ∙ same s)
  where
    both : (a b : Bool) → a ≡ true → b ≡ true → (a && b) ≡ true
    both a b x y = rw (x, y) refl

    same : (s : Bool) → sense_is s (sense_on s) ≡ true
    same true = refl
    same false = refl

-- a node whose guard waits for this sense of another, and that is wanted, uses it
pub used_at : (want : Want) (j : ℕ) (nodes : List FlowNode) (s : Bool) (y k : ℕ) (n : FlowNode) (i : ℕ)
    → i ≡ j + k → slice_get nodes k ≡ Some n → want i ≡ true → guard_is s y n.guard ≡ true
    → is_used want j nodes s y ≡ true
used_at want j [] s y k n i ei e w u = absurd (cc)
used_at want j (m ∷ nodes) s y zero n i ei e w u =
    let v : guard_is s y m.guard ≡ true =
    subst (λ (x : FlowNode). guard_is s y x.guard ≡ true) (sym (some_is m n e)) u in
    let d : i ≡ j = omega (arith, ei) in
    one (want j) (guard_is s y m.guard) (is_used want (suc j) nodes s y) (ap want (sym d) ∙ w) v
  where
    one : (x a b : Bool) → x ≡ true → a ≡ true → ((x && a) || b) ≡ true
    one true true b x e = refl
    one false a b x e = absurd (cc)
    one true false b x e = absurd (cc)
used_at want j (m ∷ nodes) s y (suc k) n i ei e w u =
    two (want j && guard_is s y m.guard) (is_used want (suc j) nodes s y)
    (used_at want (suc j) nodes s y k n i (omega (arith, ei)) e w u)
  where
    two : (a b : Bool) → b ≡ true → (a || b) ≡ true
    two true b e = refl
    two false b e = e

-- Where both are true, each is.
pub both_true : (a b : Bool) → (a && b) ≡ true → (a ≡ true) × (b ≡ true)
both_true true true e = (refl, refl)
both_true true false e = absurd (cc)
both_true false true e = absurd (cc)
both_true false false e = absurd (cc)

same_number : (i j : ℕ) → nat_eq i j ≡ true → i ≡ j
same_number i j e = grind (arith, nat_tests)

-- a guard that is used has a wanted node
used_has : (want : Want) (P : ℕ → Type 0) (j : ℕ) (ns : List FlowNode) (s : Bool) (y : ℕ)
    → ((k : ℕ) (n : FlowNode) (g : Guard) (i : ℕ) → i ≡ j + k → slice_get ns k ≡ Some n → want i ≡ true
    → n.guard ≡ Some g → P g.node) → is_used want j ns s y ≡ true → P y
used_has want P j [] s y f u = absurd (cc)
used_has want P j (n ∷ ns) s y f u =
    go (want j) (guard_is s y n.guard) (is_used want (suc j) ns s y) refl refl u
    (λ d. used_has want P (suc j) ns s y (λ k m g i ei e w eg. f (suc k) m g i (omega (arith, ei)) e w eg) d)
  where
    one : (g : Option Guard) → n.guard ≡ g → want j ≡ true → guard_is s y g ≡ true → P y
    one None eg w e = absurd (cc)
    one (Some g) eg w e = subst P (same_number g.node y (both_true _ _ e).0) (f zero n g j (omega arith) refl w eg)

    go : (v x z : Bool) → want j ≡ v → guard_is s y n.guard ≡ x → ((v && x) || z) ≡ true → (z ≡ true → P y) → P y
    go true true z ev e d r = one n.guard refl ev e
    go false true true ev e d r = r refl
    go true false true ev e d r = r refl
    go false false true ev e d r = r refl
    go false true false ev e d r = absurd (cc)
    go true false false ev e d r = absurd (cc)
    go false false false ev e d r = absurd (cc)

-- where a sense of a node is used, the node's own cover is wanted
pub used_wants : (sure : Sure) (want : Want) (b : FlowBlock) → Closed sure want b → (s : Bool) (y : ℕ)
    → is_used want 0 b.nodes s y ≡ true → want y ≡ true
used_wants sure want b c s y u =
    used_has want (λ i. want i ≡ true) 0 b.nodes s y
    (λ k n g i ei e w eg.
    let d : k ≡ i = omega (arith, ei) in
    c.guards i n g (subst (λ (z : ℕ). slice_get b.nodes z ≡ Some n) d e) w eg) u

right_takes_left : (r : Role) → takes_right r ≡ true → takes_left r ≡ true
right_takes_left role.Both e = refl
right_takes_left role.Empty e = absurd (cc)
right_takes_left role.Reading e = absurd (cc)
right_takes_left role.Free e = absurd (cc)
right_takes_left role.Nothing e = absurd (cc)
right_takes_left role.Copy e = absurd (cc)
right_takes_left role.One e = absurd (cc)

zero_if : (b : Bool) (k : ℕ) → (b ≡ true → k ≡ 0) → cond b k 0 ≡ 0
zero_if true k f = f refl
zero_if false k f = refl

module _ (regs : ℕ → ℕ) (h : ℕ → Answer) (f : Computes) where
  -- an operand's own nodes
  left_covered : (c : Cover) (g : Option Guard) (l : List FlowSource) (q : ℕ) (t s : Bool)
      → (s ≡ true → met h g ≡ true → here regs h l ≡ 1)
      → ((t && not s) ≡ true → EachCovered regs h c l)
      → Obeys regs f h q (cond (t && not s) (copy_under g (list_top c (suc q) l) ∷ list_nodes c (suc q) l) [])
      → Covered regs h (cond (met h g) (1 - cond t (here regs h l) 1) 0) (one_if (t && not s) q)
  left_covered c g l q false true sure k o =
      as_covered regs h _ _ [] (sym (zero_if (met h g) (1 - 1) (λ m. refl))) (none_covered regs h)
  left_covered c g l q false false sure k o =
      as_covered regs h _ _ [] (sym (zero_if (met h g) (1 - 1) (λ m. refl))) (none_covered regs h)
  left_covered c g l q true true sure k o =
      as_covered regs h _ _ [] (sym (zero_if (met h g) (1 - here regs h l)
      (λ m. let e = sure refl m in omega (arith, e)))) (none_covered regs h)
  left_covered c g l q true false sure k o =
      copy_covered regs h (f q (copy_under g (list_top c (suc q) l))) g q (1 - here regs h l)
      (list_top c (suc q) l) (omega arith)
      (list_covered regs h c f (suc q) l (k refl) o.1) o.0

  right_covered : (c : Cover) (g : Option Guard) (l r : List FlowSource) (q : ℕ) (t s u : Bool)
      → (t ≡ true → u ≡ true) → (s ≡ true → met h g ≡ true → here regs h r ≡ 1)
      → ((t && not s) ≡ true → EachCovered regs h c r)
      → Obeys regs f h q (cond (t && not s) (both_under g l (list_top c (suc q) r) ∷ list_nodes c (suc q) r) [])
      → Covered regs h (cond (met h g) (lacks (cond u (here regs h l) 1) (cond t (here regs h r) 1)) 0)
      (one_if (t && not s) q)
  right_covered c g l r q false true u tu sure k o =
      as_covered regs h _ _ [] (sym (zero_if (met h g) (lacks (cond u (here regs h l) 1) 1)
      (λ m. lacks_one (cond u (here regs h l) 1) 1 refl))) (none_covered regs h)
    where
      lacks_one : (l r : ℕ) → r ≡ 1 → lacks l r ≡ 0
      lacks_one zero r e = refl
      lacks_one (suc l) r e = omega (arith, e)
  right_covered c g l r q false false u tu sure k o =
      as_covered regs h _ _ [] (sym (zero_if (met h g) (lacks (cond u (here regs h l) 1) 1)
      (λ m. lacks_one (cond u (here regs h l) 1) 1 refl))) (none_covered regs h)
    where
      lacks_one : (l r : ℕ) → r ≡ 1 → lacks l r ≡ 0
      lacks_one zero r e = refl
      lacks_one (suc l) r e = omega (arith, e)
  right_covered c g l r q true true u tu sure k o =
      as_covered regs h _ _ [] (sym (zero_if (met h g) _
      (λ m. lacks_one (cond u (here regs h l) 1) (here regs h r) (sure refl m)))) (none_covered regs h)
    where
      lacks_one : (l r : ℕ) → r ≡ 1 → lacks l r ≡ 0
      lacks_one zero r e = refl
      lacks_one (suc l) r e = omega (arith, e)
  right_covered c g l r q true false u tu sure k o =
      as_covered regs h _ _ (Node q ∷ [])
      (ap (λ (i : ℕ). cond (met h g) i 0)
      (lack_two (here regs h l) (here regs h r)
      ∙ ap (λ (b : Bool). lacks (cond b (here regs h l) 1) (here regs h r)) (sym (tu refl))))
      (both_covered regs h (f q (both_under g l (list_top c (suc q) r))) g q (1 - here regs h r) l
      (list_top c (suc q) r) (omega arith)
      (list_covered regs h c f (suc q) r (k refl) o.1) o.0)

-- what is known where the table of a completed block is looked at
pub record Known (regs : ℕ → ℕ) (h : ℕ → Answer) (f : Computes) (b : FlowBlock) (sure : Sure) (want : Want)
    (at : Places) (rank : ℕ → ℕ) : Type 0 where
  pub obeys : Obeys regs f h 0 b.nodes
  pub rises : (j : ℕ) (n : FlowNode) → slice_get b.nodes j ≡ Some n → Rises rank (rank j) n
  pub fits : All (FitsNode b) b.nodes
  pub clear : All (λ n. guard_token h n.guard ≢ Some Null) b.nodes
  pub surely : (g : Option Guard) (ss : List FlowSource) → sure g ss ≡ true → met h g ≡ true
      → present (first regs h ss) ≡ 1
  pub closed : Closed sure want b
  pub on_true : (y : ℕ) (n : FlowNode) → slice_get b.nodes y ≡ Some n
      → Obeys regs f h (at.on_true y) (guard_part want b.nodes (cover_of b.nodes sure at) true (at.on_true y) y n)
  pub on_false : (y : ℕ) (n : FlowNode) → slice_get b.nodes y ≡ Some n
      → Obeys regs f h (at.on_false y) (guard_part want b.nodes (cover_of b.nodes sure at) false
      (at.on_false y) y n)
  pub left : (y : ℕ) (n : FlowNode) → slice_get b.nodes y ≡ Some n
      → Obeys regs f h (at.left y) (left_part sure want (cover_of b.nodes sure at) (at.left y) y n)
  pub right : (y : ℕ) (n : FlowNode) → slice_get b.nodes y ≡ Some n
      → Obeys regs f h (at.right y) (right_part sure want (cover_of b.nodes sure at) (at.right y) y n)

module _ (regs : ℕ → ℕ) (h : ℕ → Answer) (f : Computes) (b : FlowBlock) (sure : Sure) (want : Want)
    (at : Places) (rank : ℕ → ℕ) (k : Known regs h f b sure want at rank) where
  abbrev c : Cover
  c = cover_of b.nodes sure at

  abbrev CoveredBelow : ℕ → Type 0
  CoveredBelow i = (y : ℕ) (n : FlowNode) → slice_get b.nodes y ≡ Some n → want y ≡ true → rank y < i
      → Covered regs h (1 - present (h y)) (node_cover sure at y n)

  at_node : (y : ℕ) (n : FlowNode) → slice_get b.nodes y ≡ Some n
      → Covered regs h (1 - present (h y)) (node_cover sure at y n)
      → Covered regs h (1 - present (h y)) (c (Node y))
  at_node y n e x = subst (λ (o : Option FlowNode). Covered regs h (1 - present (h y)) (cover_at sure at y o))
      (sym e) x

  each_covered : (i : ℕ) → CoveredBelow i → (ss : List FlowSource) → All (FitsFlowSource b) ss
      → All (RisesFrom rank i) ss → EachWanted want ss → EachCovered regs h c ss
  each_covered i below [] fit rise w = tt
  each_covered i below (Read r ∷ ss) fit rise w = (
    none_covered regs h,
    each_covered i below ss (All-tail (FitsFlowSource b) (Read r) ss fit)
        (All-tail (RisesFrom rank i) (Read r) ss rise) w,
  )
  each_covered i below (Node j ∷ ss) fit rise w =
      let x = within b.nodes j (All-head (FitsFlowSource b) (Node j) ss fit) in (
        at_node j x.0 x.1 (below j x.0 x.1 w.0 (All-head (RisesFrom rank i) (Node j) ss rise)),
        each_covered i below ss (All-tail (FitsFlowSource b) (Node j) ss fit)
            (All-tail (RisesFrom rank i) (Node j) ss rise) w.1,
      )

  -- the guard of a node
  bit_covered : (s : Bool) (g : Guard) (i : ℕ) → CoveredBelow i → want g.node ≡ true → rank g.node < i
      → g.node < length b.nodes → (h g.node ≢ Some Null) → is_used want 0 b.nodes s g.node ≡ true
      → (p : ℕ) → ((m : FlowNode) → slice_get b.nodes g.node ≡ Some m
      → Obeys regs f h p (guard_part want b.nodes c s p g.node m))
      → Covered regs h (1 - bit (met h (Some (guard_on s g.node)))) (Node p ∷ [])
  bit_covered s g i below wg rise fit clear used p o =
      let w = within b.nodes g.node fit in
      let x = at_node g.node w.0 w.1 (below g.node w.0 w.1 wg rise) in
      let o2 : Obeys regs f h p (guard_group p s g.node (c (Node g.node))) =
      subst (λ (u : Bool). Obeys regs f h p (cond u (guard_group p s g.node (c (Node g.node))) [])) used
      (o w.0 w.1) in
      guard_covered regs h f p s g.node (c (Node g.node)) clear x o2

  sense_covered : (y : ℕ) (n : FlowNode) → slice_get b.nodes y ≡ Some n → want y ≡ true → (g : Guard)
      → n.guard ≡ Some g → (i : ℕ) → CoveredBelow i → rank g.node < i → g.node < length b.nodes
      → (h g.node ≢ Some Null) → (s : Sense) → g.sense ≡ s
      → Covered regs h (1 - bit (matched s (h g.node))) (sense_cover at s g.node)
  sense_covered y n e w g eg i below rise fit clear Always es = none_covered regs h
  sense_covered y n e w g eg i below rise fit clear OnTrue es =
      let u : guard_is true g.node n.guard ≡ true = ap (guard_is true g.node) eg ∙ guard_is_on true g es in
      bit_covered true g i below (k.closed.guards y n g e w eg) rise fit clear
      (used_at want 0 b.nodes true g.node y n y (omega arith) e w u) (at.on_true g.node)
      (λ m em. k.on_true g.node m em)
  sense_covered y n e w g eg i below rise fit clear OnFalse es =
      let u : guard_is false g.node n.guard ≡ true = ap (guard_is false g.node) eg ∙ guard_is_on false g es in
      bit_covered false g i below (k.closed.guards y n g e w eg) rise fit clear
      (used_at want 0 b.nodes false g.node y n y (omega arith) e w u) (at.on_false g.node)
      (λ m em. k.on_false g.node m em)

  scope_covered : (y : ℕ) (n : FlowNode) → slice_get b.nodes y ≡ Some n → want y ≡ true → (i : ℕ)
      → CoveredBelow i → (g : Option Guard) → n.guard ≡ g → FitsGuard b g → RisesFromGuard rank i g
      → (guard_token h g ≢ Some Null) → Covered regs h (1 - bit (met h g)) (guard_cover at g)
  scope_covered y n e w i below None eg fit rise clear = none_covered regs h
  scope_covered y n e w i below (Some g) eg fit rise clear =
      sense_covered y n e w g eg i below rise fit clear g.sense refl

  node_covered : (y : ℕ) (n : FlowNode) → slice_get b.nodes y ≡ Some n → want y ≡ true → CoveredBelow (rank y)
      → Covered regs h (1 - present (h y)) (node_cover sure at y n)
  node_covered y n e w below =
      let rise = k.rises y n e in
      let fit = all_at (FitsNode b) b.nodes k.fits y n e in
      let clear = all_at (λ (m : FlowNode). guard_token h m.guard ≢ Some Null) b.nodes k.clear y n e in
      let g = scope_covered y n e w (rank y) below n.guard refl fit.guard rise.guard clear in
      let l = left_covered regs h f c n.guard n.left (at.left y) (takes_left (role_of n.op))
      (sure n.guard n.left) (λ s m. k.surely n.guard n.left s m)
      (λ q. each_covered (rank y) below n.left fit.left rise.left (k.closed.left y n e w q))
      (wanted (want y) (left_open sure n) (at.left y) _ w (k.left y n e)) in
      let r = right_covered regs h f c n.guard n.left n.right (at.right y) (takes_right (role_of n.op))
      (sure n.guard n.right) (takes_left (role_of n.op)) (right_takes_left (role_of n.op))
      (λ s m. k.surely n.guard n.right s m)
      (λ q. each_covered (rank y) below n.right fit.right rise.right (k.closed.right y n e w q))
      (wanted (want y) (right_open sure n) (at.right y) _ w (k.right y n e)) in
      as_covered regs h _ _ (node_cover sure at y n)
      (parts (met h n.guard) (present (h y)) (cond (takes_left (role_of n.op)) (here regs h n.left) 1)
      (cond (takes_right (role_of n.op)) (here regs h n.right) 1)
      (low_if (takes_left (role_of n.op)) (first regs h n.left))
      (low_if (takes_right (role_of n.op)) (first regs h n.right))
      (node_there regs h (f y n) y n (obeys_at regs h f 0 b.nodes k.obeys y n y (omega arith) e)))
      (append_covered regs h _ _ (guard_cover at n.guard) _ g
      (append_covered regs h _ _ (one_if (left_open sure n) (at.left y))
      (one_if (right_open sure n) (at.right y)) l r))
    where
      low_if : (t : Bool) (x : Answer) → cond t (present x) 1 ≤ 1
      low_if true x = present_low x
      low_if false x = omega arith

      wanted : (v t : Bool) (p : ℕ) (ns : List FlowNode) → v ≡ true → Obeys regs f h p (cond (v && t) ns [])
          → Obeys regs f h p (cond t ns [])
      wanted true true p ns e o = o
      wanted true false p ns e o = o
      wanted false t p ns e o = absurd (cc)

  all_below : (i : ℕ) → CoveredBelow i
  all_below zero y n e w l = absurd (omega (arith, l))
  all_below (suc i) y n e w l = node_covered y n e w (λ z m ez wz lz. all_below i z m ez wz (omega (arith, l, lz)))

  -- a node whose cover is wanted is covered: one null where it has no token, else none
  pub number_covered : (y : ℕ) (n : FlowNode) → slice_get b.nodes y ≡ Some n → want y ≡ true
      → Covered regs h (1 - present (h y)) (c (Node y))
  number_covered y n e w = at_node y n e (all_below (suc (rank y)) y n e w (omega arith))

  -- sources whose covers are wanted are covered
  pub sources_covered : (ss : List FlowSource) → All (FitsFlowSource b) ss → EachWanted want ss
      → EachCovered regs h c ss
  sources_covered [] fit w = tt
  sources_covered (Read r ∷ ss) fit w = (
    none_covered regs h,
    sources_covered ss (All-tail (FitsFlowSource b) (Read r) ss fit) w,
  )
  sources_covered (Node j ∷ ss) fit w =
      let x = within b.nodes j (All-head (FitsFlowSource b) (Node j) ss fit) in
      (number_covered j x.0 x.1 w.0, sources_covered ss (All-tail (FitsFlowSource b) (Node j) ss fit) w.1)

  -- what gives a null where all of a list are absent
  pub output_covered : (ss : List FlowSource) → All (FitsFlowSource b) ss → (p : ℕ) (s : Bool)
      → (s ≡ false → EachWanted want ss) → (s ≡ true → here regs h ss ≡ 1)
      → Obeys regs f h p (cond s [] (list_nodes c p ss))
      → Covered regs h (1 - here regs h ss) (cond s [] (list_top c p ss))
  output_covered ss fit p true w sure o = let e = sure refl in
      as_covered regs h _ _ [] (omega (arith, e)) (none_covered regs h)
  output_covered ss fit p false w sure o = list_covered regs h c f p ss (sources_covered ss fit (w refl)) o
