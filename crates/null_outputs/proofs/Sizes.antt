-- How many nodes `complete` adds.
use Rattle.std.proofs.Common.{◌≡◌, ℕ, zero, suc, ◌+◌, ◌*◌, ◌≤◌, List, [], ◌∷◌, ◌++◌}
use Rattle.std.proofs.Common.{length, length-append, refl, ◌∙◌, arith, cond, Bool, true, false, ◌&&◌}
use Rattle.std.specs.Prelude.{Some, slice_get}
use Rattle.ir_forms.specs.declared.flow.FlowSource.{FlowSource}
use Rattle.ir_forms.specs.declared.flow.FlowSource.TheVariants.{Node}
use Rattle.ir_forms.specs.declared.flow.FlowNode.{FlowNode}
use Rattle.ir_forms.specs.declared.flow.FlowBlock.{FlowBlock}
use Rattle.null_outputs.specs.inside.Completed.{trues, falses, lefts, rights, writes_at, places, cover}
use Rattle.null_outputs.specs.inside.Completed.{write_part, write_size, numbers_at, number_part, number_size}
use Rattle.null_outputs.specs.inside.Completed.{numbers_part, all_numbers, trues_region, falses_region}
use Rattle.null_outputs.specs.inside.Completed.{lefts_region, rights_region, writes_region, added, completed}
use Rattle.null_outputs.specs.inside.Covers.{Sure, Want, list_size, left_open, right_open, cover_of}
use Rattle.null_outputs.specs.inside.Groups.{is_used, guard_size, guard_part, guard_part_size, left_part}
use Rattle.null_outputs.specs.inside.Groups.{left_size, right_part, right_size, nowhere, region}
use Rattle.null_outputs.specs.inside.Sizes.{sum_of, numbers_size, growth, guards_used, AllFirm}
use Rattle.null_outputs.proofs.Spaces.{guard_part_length, left_length, right_length}
use Rattle.null_outputs.proofs.Outputs.{write_length, number_length}

module _ {A : Type 0} (part : ℕ → ℕ → A → List FlowNode) (size : ℕ → A → ℕ)
    (fits : (p j : ℕ) (x : A) → length (part p j x) ≡ size j x) where
  region_length : (p j : ℕ) (xs : List A) → length (region part size p j xs) ≡ sum_of size j xs
  region_length p j [] = refl
  region_length p j (x ∷ xs) =
      let r = region_length (p + size j x) (suc j) xs in
      let e = fits p j x in
      omega (arith, r, e, length-append (part p j x) (region part size (p + size j x) (suc j) xs))

module _ (sure : Sure) (want : Want) (b : FlowBlock) where
  numbers_length : (m p k : ℕ) → length (numbers_part sure want b p k m) ≡ numbers_size sure want b k m
  numbers_length zero p k = refl
  numbers_length (suc m) p k =
      let r = numbers_length m (p + number_size sure want b k) (suc k) in
      let e = number_length sure want b p k in
      omega (
        arith,
        r,
        e,
        length-append (number_part sure want b p k)
            (numbers_part sure want b (p + number_size sure want b k) (suc k) m),
      )

  all_length : length (all_numbers sure want b) ≡ numbers_size sure want b 0 32
  unfolding all_numbers
  all_length = numbers_length 32 (numbers_at sure want b) 0

  six_length : {X : Type 0} (a c d e f g : List X)
      → length (a ++ (c ++ (d ++ (e ++ (f ++ g)))))
      ≡ length a + (length c + (length d + (length e + (length f + length g))))
  six_length a c d e f g =
      omega (
        arith,
        length-append a (c ++ (d ++ (e ++ (f ++ g)))),
        length-append c (d ++ (e ++ (f ++ g))),
        length-append d (e ++ (f ++ g)),
        length-append e (f ++ g),
        length-append f g,
      )

  sum_six : (a c d e f o u v w x y z : ℕ) → a ≡ u → c ≡ v → d ≡ w → e ≡ x → f ≡ y → o ≡ z
      → a + (c + (d + (e + (f + o)))) ≡ u + (v + (w + (x + (y + z))))
  sum_six a c d e f o u v w x y z p q r s t i = omega (arith, p, q, r, s, t, i)

  added_length : length (added sure want b) ≡ growth sure want b
  unfolding growth
  added_length =
      six_length (trues_region sure want b) (falses_region sure want b) (lefts_region sure want b)
      (rights_region sure want b) (writes_region sure want b) (all_numbers sure want b)
      ∙ sum_six _ _ _ _ _ _ _ _ _ _ _ _
      (region_length (guard_part want b.nodes (cover sure want b) true) (guard_part_size want b.nodes sure true)
      (guard_part_length want b.nodes sure (places sure want b) true) (trues sure want b) 0 b.nodes)
      (region_length (guard_part want b.nodes (cover sure want b) false)
      (guard_part_size want b.nodes sure false)
      (guard_part_length want b.nodes sure (places sure want b) false) (falses sure want b) 0 b.nodes)
      (region_length (left_part sure want (cover sure want b)) (left_size sure want)
      (left_length sure want (cover sure want b)) (lefts sure want b) 0 b.nodes)
      (region_length (right_part sure want (cover sure want b)) (right_size sure want)
      (right_length sure want (cover sure want b)) (rights sure want b) 0 b.nodes)
      (region_length (write_part sure want b) (write_size sure want b) (write_length sure want b)
      (writes_at sure want b) 0 b.writes)
      all_length

  -- the nodes of a completed block, exactly
  pub nodes_counted : length (completed sure want b).nodes ≡ length b.nodes + growth sure want b
  nodes_counted = omega (arith, length-append b.nodes (added sure want b), added_length)

  two_for : (t : Bool) (ms : List FlowSource) → cond t (guard_size ms) 0 ≤ 2 * cond t 1 0
  two_for true [] = omega arith
  two_for true (m ∷ ms) = omega arith
  two_for false ms = omega arith

  guards_low : (s : Bool) (j : ℕ) (ns : List FlowNode)
      → sum_of (guard_part_size want b.nodes sure s) j ns ≤ 2 * sum_of (guards_used want b.nodes s) j ns
  guards_low s j [] = omega arith
  guards_low s j (n ∷ ns) =
      let r = guards_low s (suc j) ns in
      let e = two_for (is_used want 0 b.nodes s j) (cover_of b.nodes sure nowhere (Node j)) in
      omega (arith, r, e)

  firm_zero : (v t : Bool) (k : ℕ) → t ≡ false → cond (v && t) k 0 ≡ 0
  firm_zero true true k e = absurd (cc)
  firm_zero true false k e = refl
  firm_zero false true k e = refl
  firm_zero false false k e = refl

  left_zero : (j : ℕ) (ns : List FlowNode)
      → ((y : ℕ) (n : FlowNode) → slice_get ns y ≡ Some n → left_open sure n ≡ false)
      → sum_of (left_size sure want) j ns ≡ 0
  left_zero j [] f = refl
  left_zero j (n ∷ ns) f =
      let r = left_zero (suc j) ns (λ y m e. f (suc y) m e) in
      let z = firm_zero (want j) (left_open sure n) (suc (list_size n.left)) (f zero n refl) in
      omega (arith, r, z)

  right_zero : (j : ℕ) (ns : List FlowNode)
      → ((y : ℕ) (n : FlowNode) → slice_get ns y ≡ Some n → right_open sure n ≡ false)
      → sum_of (right_size sure want) j ns ≡ 0
  right_zero j [] f = refl
  right_zero j (n ∷ ns) f =
      let r = right_zero (suc j) ns (λ y m e. f (suc y) m e) in
      let z = firm_zero (want j) (right_open sure n) (suc (list_size n.right)) (f zero n refl) in
      omega (arith, r, z)

  -- where all nodes are firm: two for each guard of a wanted node, and what joins several sources
  pub grows_little : AllFirm sure b → growth sure want b ≤
      2 * (sum_of (guards_used want b.nodes true) 0 b.nodes + sum_of (guards_used want b.nodes false) 0 b.nodes)
      + (sum_of (write_size sure want b) 0 b.writes + numbers_size sure want b 0 32)
  unfolding growth
  grows_little firm =
      let a = guards_low true 0 b.nodes in
      let c = guards_low false 0 b.nodes in
      let l = left_zero 0 b.nodes (λ y n e. (firm y n e).0) in
      let r = right_zero 0 b.nodes (λ y n e. (firm y n e).1) in
      bound _ _ _ _ _ _ _ _ a c l r
    where
      bound : (p q l r w k u v : ℕ) → p ≤ 2 * u → q ≤ 2 * v → l ≡ 0 → r ≡ 0
          → p + (q + (l + (r + (w + k)))) ≤ 2 * (u + v) + (w + k)
      bound p q l r w k u v a c d e = omega (arith, a, c, d, e)
