-- What the covers and the groups of guards that completing adds cost, and which node guards them.
use Rattle.std.proofs.Common.{◌≡◌, ℕ, suc, ◌+◌, ◌*◌, ◌<◌, ◌≤◌, Bool, true, false, ◌&&◌, List, [], ◌∷◌, ◌++◌, length}
use Rattle.std.proofs.Common.{refl, sym, ◌∙◌, arith, length-append, cond, nat_eq, ◌⊎◌, inl, inr}
use Rattle.std.specs.Prelude.{Option, Some, None, slice_get}
use Rattle.std.proofs.lemmas.Bool.Decides.{nat_tests}
use Rattle.trips_isa.specs.declared.block.Sense.{Sense}
use Rattle.trips_isa.specs.declared.block.Sense.TheVariants.{Always, OnTrue, OnFalse}
use Rattle.block_cases.proofs.Alike.{and_true, or_true}
use Rattle.ir_forms.specs.declared.flow.FlowSource.{FlowSource}
use Rattle.ir_forms.specs.declared.flow.FlowSource.TheVariants.{Read, Node}
use Rattle.ir_forms.specs.declared.flow.Guard.{Guard}
use Rattle.ir_forms.specs.declared.flow.FlowNode.{FlowNode}
use Rattle.null_outputs.specs.inside.Covers.{Sure, Want, Places, Cover, sense_cover, guard_cover, left_open}
use Rattle.null_outputs.specs.inside.Covers.{right_open, null_store_of, one_if, cover_at, cover_of, top_of, list_top}
use Rattle.null_outputs.specs.inside.Covers.{pairs, list_nodes}
use Rattle.null_outputs.specs.inside.Groups.{guard_group, guard_is, is_used, region, sense_is}
use Rattle.null_outputs.specs.inside.Sizes.{sum_of}
use Rattle.c_compile_blocks.specs.inside.Prices.{price}
use Rattle.c_compile_blocks.proofs.Flat.{price_append}
use Rattle.c_compile_blocks.proofs.OneGuard.{AreBy, by_append, unguarded}

-- SUMS

-- past the only number that counts nothing is counted
none_past : (f : ℕ → Bool) (c k j : ℕ) (ns : List FlowNode) → ((y : ℕ) → f y ≡ true → y ≡ c) → c < j
    → sum_of (λ (y : ℕ) (n : FlowNode). cond (f y) k 0) j ns ≡ 0
none_past f c k j [] h l = refl
none_past f c k j (n ∷ ns) h l = go (f j) refl (none_past f c k (suc j) ns h (omega (arith, l)))
  where
    go : (t : Bool) → f j ≡ t → sum_of (λ (y : ℕ) (n : FlowNode). cond (f y) k 0) (suc j) ns ≡ 0
        → cond t k 0 + sum_of (λ (y : ℕ) (n : FlowNode). cond (f y) k 0) (suc j) ns ≡ 0
    go true e r = let z = h j e in absurd (omega (arith, z, l))
    go false e r = omega (arith, r)

-- where only one number counts, its weight is the most
pub once_most : (f : ℕ → Bool) (c k j : ℕ) (ns : List FlowNode) → ((y : ℕ) → f y ≡ true → y ≡ c)
    → sum_of (λ (y : ℕ) (n : FlowNode). cond (f y) k 0) j ns ≤ k
once_most f c k j [] h = omega arith
once_most f c k j (n ∷ ns) h = go (f j) refl (once_most f c k (suc j) ns h)
  where
    go : (t : Bool) → f j ≡ t → sum_of (λ (y : ℕ) (n : FlowNode). cond (f y) k 0) (suc j) ns ≤ k
        → cond t k 0 + sum_of (λ (y : ℕ) (n : FlowNode). cond (f y) k 0) (suc j) ns ≤ k
    go true e r =
        let z = h j e in
        let p = none_past f c k (suc j) ns h (omega (arith, z)) in
        omega (arith, p)
    go false e r = omega (arith, r)

-- what stands only where a test holds costs nothing where it fails
pub price_if : (t : Bool) (ns : List FlowNode) (k : ℕ) → price ns ≤ k → price (cond t ns []) ≤ cond t k 0
price_if true ns k l = l
price_if false ns k l = omega arith

-- what stands only where a test fails costs no more than it does when it stands
pub if_not : (t : Bool) (ns : List FlowNode) (k : ℕ) → price ns ≤ k → price (cond t [] ns) ≤ k
if_not true ns k l = omega arith
if_not false ns k l = l

-- what stands only where a test holds is nothing where it fails
pub none_if : {A : Type 0} (v t : Bool) (xs : List A) → t ≡ false → cond (v && t) xs [] ≡ []
none_if true true xs e = absurd (cc)
none_if true false xs e = refl
none_if false true xs e = refl
none_if false false xs e = refl

no_more : {A : Type 0} (xs ys : List A) → xs ≡ [] → ys ≡ [] → xs ++ ys ≡ []
no_more xs ys x y = rw (x, y) refl

-- REGIONS

module _ {A : Type 0} (part : ℕ → ℕ → A → List FlowNode) (size : ℕ → A → ℕ) where
  -- a region costs no more than the sum over its parts
  pub region_price : (w : ℕ → A → ℕ) → ((p j : ℕ) (x : A) → price (part p j x) ≤ w j x) → (p j : ℕ) (xs : List A)
      → price (region part size p j xs) ≤ sum_of w j xs
  region_price w h p j [] = omega arith
  region_price w h p j (x ∷ xs) =
      let a = price_append (part p j x) (region part size (p + size j x) (suc j) xs) in
      let b = h p j x in
      let r = region_price w h (p + size j x) (suc j) xs in
      omega (arith, a, b, r)

  -- a region is guarded by the node that guards each of its parts
  pub region_by : (c : ℕ) → ((p j : ℕ) (x : A) → AreBy c (part p j x)) → (p j : ℕ) (xs : List A)
      → AreBy c (region part size p j xs)
  region_by c h p j [] = tt
  region_by c h p j (x ∷ xs) =
      by_append c (part p j x) (region part size (p + size j x) (suc j) xs) (h p j x)
      (region_by c h (p + size j x) (suc j) xs)

  -- a region of empty parts is empty
  pub region_none : (p j : ℕ) (xs : List A)
      → ((i y q : ℕ) (x : A) → slice_get xs i ≡ Some x → part q y x ≡ []) → region part size p j xs ≡ []
  region_none p j [] h = refl
  region_none p j (x ∷ xs) h =
      no_more (part p j x) (region part size (p + size j x) (suc j) xs) (h 0 j p x refl)
      (region_none (p + size j x) (suc j) xs (λ i y q z e. h (suc i) y q z e))

-- COVERS

sense_few : (at : Places) (s : Sense) (y : ℕ) → length (sense_cover at s y) ≤ 1
sense_few at Always y = omega arith
sense_few at OnTrue y = omega arith
sense_few at OnFalse y = omega arith

guard_few : (at : Places) (g : Option Guard) → length (guard_cover at g) ≤ 1
guard_few at None = omega arith
guard_few at (Some g) = sense_few at g.sense g.node

shut_none : (b : Bool) (p : ℕ) → b ≡ false → length (one_if b p) ≡ 0
shut_none true p e = absurd (cc)
shut_none false p e = refl

-- a node whose operands are surely there is absent where its guard is not met, and nowhere else
at_few : (sure : Sure) (at : Places) (y : ℕ) (o : Option FlowNode)
    → ((n : FlowNode) → o ≡ Some n → (left_open sure n ≡ false) × (right_open sure n ≡ false))
    → length (cover_at sure at y o) ≤ 1
at_few sure at y None h = omega arith
at_few sure at y (Some n) h =
    let open_is = h n refl in
    let a = guard_few at n.guard in
    let b = shut_none (left_open sure n) (at.left y) open_is.0 in
    let c = shut_none (right_open sure n) (at.right y) open_is.1 in
    let u = length-append (guard_cover at n.guard)
    (one_if (left_open sure n) (at.left y) ++ one_if (right_open sure n) (at.right y)) in
    let v = length-append (one_if (left_open sure n) (at.left y)) (one_if (right_open sure n) (at.right y)) in
    omega (arith, a, b, c, u, v)

-- where each node's operands are surely there, one place tells that a source is absent
pub cover_few : (ns : List FlowNode) (sure : Sure) (at : Places)
    → ((y : ℕ) (n : FlowNode) → slice_get ns y ≡ Some n → (left_open sure n ≡ false) × (right_open sure n ≡ false))
    → (s : FlowSource) → length (cover_of ns sure at s) ≤ 1
cover_few ns sure at h (Read r) = omega arith
cover_few ns sure at h (Node y) = at_few sure at y (slice_get ns y) (h y)

-- the nulls of a guard's group cost at most 5
pub group_price : (p : ℕ) (s : Bool) (y : ℕ) (ms : List FlowSource) → length ms ≤ 1 → price (guard_group p s y ms) ≤ 5
group_price p s y [] l = omega arith
group_price p s y (m ∷ ms) l = omega (arith, l)

-- the covers of lists of sources
module _ (c : Cover) (few : (s : FlowSource) → length (c s) ≤ 1) where
  of_few : (p : ℕ) (s : FlowSource) (ss : List FlowSource) → length (top_of c p s ss) ≤ 1
  of_few p s [] = few s
  of_few p s (t ∷ ss) = omega arith

  -- one place tells that a list of sources is absent
  pub top_few : (p : ℕ) (ss : List FlowSource) → length (list_top c p ss) ≤ 1
  top_few p [] = omega arith
  top_few p (s ∷ ss) = of_few p s ss

  pairs_price : (p : ℕ) (s : FlowSource) (ss : List FlowSource) → price (pairs c p s ss) ≤ 3 * length ss
  pairs_price p s [] = omega arith
  pairs_price p s (t ∷ ss) =
      let h = pairs_price (suc p) t ss in
      let a = few s in
      let b = of_few (suc p) t ss in
      omega (arith, h, a, b)

  -- the nodes that cover at most two sources cost at most 3
  pub list_price : (p : ℕ) (ss : List FlowSource) → length ss ≤ 2 → price (list_nodes c p ss) ≤ 3
  list_price p [] l = omega arith
  list_price p (s ∷ ss) l = let h = pairs_price p s ss in omega (arith, h, l)

  -- a null store, and the covers of at least one store
  pub store_price : (p k : ℕ) (ss : List FlowSource) → 1 ≤ length ss
      → price (null_store_of k (list_top c p ss) ∷ list_nodes c p ss) ≤ 3 * length ss
  store_price p k [] l = absurd (omega (arith, l))
  store_price p k (s ∷ ss) l =
      let h = pairs_price p s ss in let t = of_few p s ss in omega (arith, h, t)

  -- no guard is among them
  pairs_by : (k p : ℕ) (s : FlowSource) (ss : List FlowSource) → AreBy k (pairs c p s ss)
  pairs_by k p s [] = tt
  pairs_by k p s (t ∷ ss) = (unguarded k, pairs_by k (suc p) t ss)

  -- the nodes that cover a list of sources have no guard
  pub list_by : (k p : ℕ) (ss : List FlowSource) → AreBy k (list_nodes c p ss)
  list_by k p [] = (unguarded k, tt)
  list_by k p (s ∷ ss) = pairs_by k p s ss

-- GUARDS

-- the nulls of a guard's group are guarded by that guard's node
pub group_by : (c p : ℕ) (s : Bool) (y : ℕ) (ms : List FlowSource) → y ≡ c → AreBy c (guard_group p s y ms)
group_by c p s y [] e = ((λ g d. let z : g.node ≡ y = cc in z ∙ e), tt)
group_by c p s y (m ∷ ms) e = (unguarded c, ((λ g d. let z : g.node ≡ y = cc in z ∙ e), tt))

guard_asks : (s : Bool) (y c : ℕ) (o : Option Guard) → ((g : Guard) → o ≡ Some g → g.node ≡ c)
    → guard_is s y o ≡ true → y ≡ c
guard_asks s y c None h e = absurd (cc)
guard_asks s y c (Some g) h e =
    let a = and_true (nat_eq g.node y) (sense_is s g.sense) e in
    let same : g.node ≡ y = (let d = a.0 in grind (arith, nat_tests)) in
    sym same ∙ h g refl

-- a guard that is used is that of the one node
pub used_by : (want : Want) (c j : ℕ) (ns : List FlowNode) → AreBy c ns → (s : Bool) (y : ℕ)
    → is_used want j ns s y ≡ true → y ≡ c
used_by want c j [] a s y e = absurd (cc)
used_by want c j (n ∷ ns) a s y e =
    go (or_true (want j && guard_is s y n.guard) (is_used want (suc j) ns s y) e)
    (λ d. used_by want c (suc j) ns a.1 s y d)
  where
    go : ((want j && guard_is s y n.guard) ≡ true) ⊎ (is_used want (suc j) ns s y ≡ true)
        → (is_used want (suc j) ns s y ≡ true → y ≡ c) → y ≡ c
    go (inl d) f = guard_asks s y c n.guard a.0 ((and_true (want j) (guard_is s y n.guard) d).1)
    go (inr d) f = f d
