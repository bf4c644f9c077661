-- Where groups of nodes stand, and that a table which agrees with itself does so on each group.
use Rattle.std.proofs.Common.{◌≡◌, ℕ, zero, suc, ◌+◌, ◌<◌, List, [], ◌∷◌, ◌++◌}
use Rattle.std.proofs.Common.{length, refl, sym, ap, subst, ◌∙◌, arith, cond, nat_eq, Bool, true}
use Rattle.std.proofs.Common.{false, length-append}
use Rattle.std.specs.Prelude.{Option, Some, None, slice_get}
use Rattle.trips_isa.specs.declared.block.Sense.{Sense}
use Rattle.trips_isa.specs.declared.block.Sense.TheVariants.{Always, OnTrue, OnFalse}
use Rattle.trips_isa.specs.Rule.{Answer}
use Rattle.ir_forms.specs.declared.flow.FlowSource.{FlowSource}
use Rattle.ir_forms.specs.declared.flow.FlowSource.TheVariants.{Node}
use Rattle.ir_forms.specs.declared.flow.Guard.{Guard}
use Rattle.ir_forms.specs.declared.flow.FlowNode.{FlowNode}
use Rattle.ir_forms.specs.inside.FlowRuns.{Computes, Obeys, gives}
use Rattle.null_outputs.specs.inside.Covers.{Want, Sure, Places, sense_cover, guard_cover, left_open}
use Rattle.null_outputs.specs.inside.Covers.{right_open, one_if, cover_at, cover_of, Cover, pairs, list_nodes}
use Rattle.null_outputs.specs.inside.Covers.{list_size}
use Rattle.null_outputs.specs.inside.Groups.{left_needed, right_needed, guard_group, guard_size, guard_part}
use Rattle.null_outputs.specs.inside.Groups.{guard_part_size, left_part, left_size, right_part, right_size}
use Rattle.null_outputs.specs.inside.Groups.{nowhere, region, start_of, end_of, is_used}

-- SIZES

pairs_length : (c : Cover) (p : ℕ) (s : FlowSource) (rest : List FlowSource) → length (pairs c p s rest) ≡ length rest
pairs_length c p s [] = refl
pairs_length c p s (t ∷ rest) = let e = pairs_length c (suc p) t rest in omega (arith, e)

-- the nodes of a list of sources are as many as its size says
pub nodes_length : (c : Cover) (p : ℕ) (ss : List FlowSource) → length (list_nodes c p ss) ≡ list_size ss
nodes_length c p [] = refl
nodes_length c p (s ∷ rest) = pairs_length c p s rest

-- a list that is left out where a test fails has its length or none
pub cond_length : {A : Type 0} (b : Bool) (xs : List A) (k : ℕ) → length xs ≡ k → length (cond b xs []) ≡ cond b k 0
cond_length true xs k e = e
cond_length false xs k e = refl

-- The part for a left operand is as long as its size says.
pub left_length : (sure : Sure) (want : Want) (c : Cover) (p j : ℕ) (n : FlowNode)
    → length (left_part sure want c p j n) ≡ left_size sure want j n
left_length sure want c p j n = cond_length (left_needed sure want j n) _ _
    (let e = nodes_length c (suc p) n.left in omega (arith, e))

-- The part for a right operand is as long as its size says.
pub right_length : (sure : Sure) (want : Want) (c : Cover) (p j : ℕ) (n : FlowNode)
    → length (right_part sure want c p j n) ≡ right_size sure want j n
right_length sure want c p j n = cond_length (right_needed sure want j n) _ _
    (let e = nodes_length c (suc p) n.right in omega (arith, e))

-- the size of a cover does not depend on where covers stand
sense_length : (at : Places) (s : Sense) (x : ℕ) → length (sense_cover at s x) ≡ length (sense_cover nowhere s x)
sense_length at Always x = refl
sense_length at OnTrue x = refl
sense_length at OnFalse x = refl

guard_length : (at : Places) (g : Option Guard) → length (guard_cover at g) ≡ length (guard_cover nowhere g)
guard_length at None = refl
guard_length at (Some g) = sense_length at g.sense g.node

one_length : (b : Bool) (p q : ℕ) → length (one_if b p) ≡ length (one_if b q)
one_length true p q = refl
one_length false p q = refl

-- a cover has as many sources wherever groups stand
pub cover_length : (sure : Sure) (at : Places) (y : ℕ) (n : Option FlowNode)
    → length (cover_at sure at y n) ≡ length (cover_at sure nowhere y n)
cover_length sure at y None = refl
cover_length sure at y (Some n) =
    let a = guard_length at n.guard in
    let b = one_length (left_open sure n) (at.left y) 0 in
    let c = one_length (right_open sure n) (at.right y) 0 in
    sum (guard_cover at n.guard) (one_if (left_open sure n) (at.left y)) (one_if (right_open sure n) (at.right y))
    (guard_cover nowhere n.guard) (one_if (left_open sure n) 0) (one_if (right_open sure n) 0) a b c
  where
    sum : (x y z u v w : List FlowSource) → length x ≡ length u → length y ≡ length v → length z ≡ length w
        → length (x ++ (y ++ z)) ≡ length (u ++ (v ++ w))
    sum x y z u v w a b c = omega (
      arith,
      a,
      b,
      c,
      length-append x (y ++ z),
      length-append y z,
      length-append u (v ++ w),
      length-append v w,
    )

-- lists of one length take groups of one size
pub guard_same : (xs ys : List FlowSource) → length xs ≡ length ys → guard_size xs ≡ guard_size ys
guard_same [] [] e = refl
guard_same [] (y ∷ ys) e = absurd (omega (arith, e))
guard_same (x ∷ xs) [] e = absurd (omega (arith, e))
guard_same (x ∷ xs) (y ∷ ys) e = refl

group_length : (p : ℕ) (s : Bool) (y : ℕ) (ms : List FlowSource) → length (guard_group p s y ms) ≡ guard_size ms
group_length p s y [] = refl
group_length p s y (m ∷ ms) = refl

-- The part for a guard is as long as its size says.
pub guard_part_length : (want : Want) (nodes : List FlowNode) (sure : Sure) (at : Places) (s : Bool) (p j : ℕ)
    (n : FlowNode)
    → length (guard_part want nodes (cover_of nodes sure at) s p j n) ≡ guard_part_size want nodes sure s j n
guard_part_length want nodes sure at s p j n =
    cond_length (is_used want 0 nodes s j) _ _
    (group_length p s j (cover_of nodes sure at (Node j))
    ∙ guard_same (cover_of nodes sure at (Node j)) (cover_of nodes sure nowhere (Node j))
    (cover_length sure at j (slice_get nodes j)))

-- PLACES

-- Things that are there and equal are equal.
pub some_is : {A : Type 0} (a b : A) → Some a ≡ Some b → a ≡ b
some_is a b e = ap (get a) e
  where
    get : {B : Type 0} → B → Option B → B
    get d None = d
    get d (Some x) = x

-- Equal numbers are found to be equal.
pub same_eq : (i j : ℕ) → i ≡ j → nat_eq i j ≡ true
same_eq i j e = grind (arith)

other_eq : (i j : ℕ) → j < i → nat_eq i j ≡ false
other_eq i j e = grind (arith)

module _ (regs : ℕ → ℕ) (h : ℕ → Answer) (f : Computes) where
  -- Where joined lists of nodes obey, the first does.
  pub obeys_front : (j : ℕ) (a b : List FlowNode) → Obeys regs f h j (a ++ b) → Obeys regs f h j a
  obeys_front j [] b r = tt
  obeys_front j (n ∷ a) b r = (r.0, obeys_front (suc j) a b r.1)

  -- Where joined lists of nodes obey, the second does, behind the first.
  pub obeys_back : (j : ℕ) (a b : List FlowNode) → Obeys regs f h j (a ++ b) → (k : ℕ) → j + length a ≡ k
      → Obeys regs f h k b
  obeys_back j [] b r k e = let e2 : j ≡ k = omega (arith, e) in subst (λ (i : ℕ). Obeys regs f h i b) e2 r
  obeys_back j (n ∷ a) b r k e = obeys_back (suc j) a b r.1 k (omega (arith, e))

  -- a table that agrees with nodes agrees with each of them
  pub obeys_at : (j : ℕ) (ns : List FlowNode) → Obeys regs f h j ns → (y : ℕ) (n : FlowNode) (i : ℕ) → i ≡ j + y
      → slice_get ns y ≡ Some n
      → h i ≡ gives regs h (f i n) n
  obeys_at j [] o y n i e s = absurd (cc)
  obeys_at j (m ∷ ns) o zero n i e s =
      let e2 : i ≡ j = omega (arith, e) in
      subst (λ (k : ℕ). h k ≡ gives regs h (f k n) n) (sym e2)
      (subst (λ (x : FlowNode). h j ≡ gives regs h (f j x) x) (some_is m n s) o.0)
  obeys_at j (m ∷ ns) o (suc y) n i e s = obeys_at (suc j) ns o.1 y n i (omega (arith, e)) s

module _ {A : Type 0} (part : ℕ → ℕ → A → List FlowNode) (size : ℕ → A → ℕ)
    (fits : (p j : ℕ) (x : A) → length (part p j x) ≡ size j x) where
  -- a region ends where its sizes say
  pub region_end : (p j : ℕ) (xs : List A) → p + length (region part size p j xs) ≡ end_of size p j xs
  region_end p j [] = omega arith
  region_end p j (x ∷ rest) =
      let e = region_end (p + size j x) (suc j) rest in
      let a = length-append (part p j x) (region part size (p + size j x) (suc j) rest) in
      let b = fits p j x in
      omega (arith, a, b) ∙ e

  module _ (regs : ℕ → ℕ) (h : ℕ → Answer) (f : Computes) where
    -- a table that agrees with a region agrees with each of its groups
    pub region_obeys : (p j : ℕ) (xs : List A) → Obeys regs f h p (region part size p j xs)
        → (y : ℕ) (x : A) (i : ℕ) → i ≡ j + y → slice_get xs y ≡ Some x
        → Obeys regs f h (start_of size p j xs i) (part (start_of size p j xs i) i x)
    region_obeys p j [] o y x i e s = absurd (cc)
    region_obeys p j (a ∷ rest) o zero x i e s =
        let e2 : i ≡ j = omega (arith, e) in
        let t = same_eq i j e2 in
        let o2 : Obeys regs f h p (part p i x) =
        subst (λ (k : ℕ). Obeys regs f h p (part p k x)) (sym e2)
        (subst (λ (z : A). Obeys regs f h p (part p j z)) (some_is a x s)
        (obeys_front regs h f p (part p j a) (region part size (p + size j a) (suc j) rest) o)) in
        at_true (nat_eq i j) t p (start_of size (p + size j a) (suc j) rest i) (λ q. Obeys regs f h q (part q i x)) o2
      where
        at_true : (b : Bool) → b ≡ true → (p q : ℕ) (P : ℕ → Type 0) → P p → P (cond b p q)
        at_true true e p q P x = x
        at_true false e p q P x = absurd (cc)
    region_obeys p j (a ∷ rest) o (suc y) x i e s =
        let t = other_eq i j (omega (arith, e)) in
        let b = fits p j a in
        let back = obeys_back regs h f p (part p j a) (region part size (p + size j a) (suc j) rest) o
        (p + size j a) (omega (arith, b)) in
        at_false (nat_eq i j) t p (start_of size (p + size j a) (suc j) rest i) (λ q. Obeys regs f h q (part q i x))
        (region_obeys (p + size j a) (suc j) rest back y x i (omega (arith, e)) s)
      where
        at_false : (b : Bool) → b ≡ false → (p q : ℕ) (P : ℕ → Type 0) → P q → P (cond b p q)
        at_false true e p q P x = absurd (cc)
        at_false false e p q P x = x

    -- a table that agrees with a region and what stands behind it agrees with that
    pub region_rest : (p j : ℕ) (xs : List A) (ns : List FlowNode)
        → Obeys regs f h p (region part size p j xs ++ ns) → Obeys regs f h (end_of size p j xs) ns
    region_rest p j xs ns o = obeys_back regs h f p (region part size p j xs) ns o _ (region_end p j xs)
