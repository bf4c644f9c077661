-- What the test of straight blocks says.
use Rattle.std.proofs.Common.{◌≡◌, ℕ, zero, suc, ◌+◌, ◌<◌, ◌≤◌, Bool, true, false, not, ◌&&◌, ◌||◌}
use Rattle.std.proofs.Common.{List, [], ◌∷◌, length, refl, subst, arith}
use Rattle.std.proofs.lemmas.Bool.Decides.{nat_tests}
use Rattle.std.specs.Prelude.{Option, Some, None, slice_get, nat_lt}
use Rattle.trips_isa.specs.Forms.{role_of, takes_left, takes_right}
use Rattle.ir_forms.specs.declared.flow.FlowSource.{FlowSource}
use Rattle.ir_forms.specs.declared.flow.FlowSource.TheVariants.{Read, Node}
use Rattle.ir_forms.specs.declared.flow.Guard.{Guard}
use Rattle.ir_forms.specs.declared.flow.FlowNode.{FlowNode}
use Rattle.ir_forms.specs.declared.flow.FlowWrite.{FlowWrite}
use Rattle.ir_forms.specs.declared.flow.FlowBlock.{FlowBlock}
use Rattle.ir_forms.specs.inside.FlowFits.{in_mask}
use Rattle.null_outputs.specs.inside.Groups.{stores_of}
use Rattle.null_outputs.specs.inside.Straight.{IsBefore, IsFed, IsStraight}
use Rattle.null_outputs.specs.inside.Tested.{is_before, is_fed, fed_if, is_unguarded, is_plain, counted}
use Rattle.null_outputs.specs.inside.Tested.{plain_front}
use Rattle.null_outputs.specs.inside.Tested.{all_fed, number_fed, numbers_fed, all_numbers_fed, is_straight}
use Rattle.null_outputs.proofs.Covers.{both_true}
use Rattle.null_outputs.proofs.Spaces.{some_is}

low : (j y : ℕ) → nat_lt j y ≡ true → j < y
low j y e = grind (arith, nat_tests)

before_is : (y : ℕ) (s : FlowSource) → is_before y s ≡ true → IsBefore y s
before_is y (Read r) e = tt
before_is y (Node j) e = low j y e

fed_is : (y : ℕ) (ss : List FlowSource) → is_fed y ss ≡ true → IsFed y ss
fed_is y [] e = absurd (cc)
fed_is y (s ∷ ss) e = before_is y s e

asked_is : (t : Bool) (y : ℕ) (ss : List FlowSource) → fed_if t y ss ≡ true → t ≡ true → IsFed y ss
asked_is true y ss e a = fed_is y ss e
asked_is false y ss e a = absurd (cc)

unguarded_is : (g : Option Guard) → is_unguarded g ≡ true → g ≡ None
unguarded_is None e = refl
unguarded_is (Some g) e = absurd (cc)

head_plain : (t : Bool) (k : ℕ) → 0 < counted t k → t ≡ true
head_plain true k l = refl
head_plain false k l = absurd (omega (arith, l))

tail_low : (t : Bool) (k i : ℕ) → suc i < counted t k → i < k
tail_low true k i l = omega (arith, l)
tail_low false k i l = absurd (omega (arith, l))

-- a node of the front is plain
front_at : (j : ℕ) (ns : List FlowNode) (i y : ℕ) (n : FlowNode) → y ≡ j + i → i < plain_front j ns
    → slice_get ns i ≡ Some n → is_plain y n ≡ true
front_at j [] i y n a l s = absurd (omega (arith, l))
front_at j (m ∷ ns) zero y n a l s =
    let d : j ≡ y = omega (arith, a) in
    subst (λ (k : ℕ). is_plain k n ≡ true) d
    (subst (λ (x : FlowNode). is_plain j x ≡ true) (some_is m n s)
    (head_plain (is_plain j m) (plain_front (suc j) ns) l))
front_at j (m ∷ ns) (suc i) y n a l s =
    front_at (suc j) ns i y n (omega (arith, a)) (tail_low (is_plain j m) (plain_front (suc j) ns) i l) s

counted_low : (t : Bool) (k m : ℕ) → k ≤ m → counted t k ≤ suc m
counted_low true k m l = omega (arith, l)
counted_low false k m l = omega arith

front_within : (j : ℕ) (ns : List FlowNode) → plain_front j ns ≤ length ns
front_within j [] = omega arith
front_within j (n ∷ ns) =
    counted_low (is_plain j n) (plain_front (suc j) ns) (length ns) (front_within (suc j) ns)

fed_at : (y : ℕ) (ws : List FlowWrite) → all_fed y ws ≡ true → (j : ℕ) (w : FlowWrite) → slice_get ws j ≡ Some w
    → is_fed y w.sources ≡ true
fed_at y [] e j w s = absurd (cc)
fed_at y (v ∷ ws) e zero w s = subst (λ (x : FlowWrite). is_fed y x.sources ≡ true) (some_is v w s)
    (both_true _ _ e).0
fed_at y (v ∷ ws) e (suc j) w s = fed_at y ws (both_true _ _ e).1 j w s

number_at : (b : FlowBlock) (y m k : ℕ) → numbers_fed b y k m ≡ true → (i x : ℕ) → x ≡ k + i → i < m
    → number_fed b y x ≡ true
number_at b y zero k e i x a l = absurd (omega (arith, l))
number_at b y (suc m) k e zero x a l =
    let d : k ≡ x = omega (arith, a) in subst (λ (z : ℕ). number_fed b y z ≡ true) d (both_true _ _ e).0
number_at b y (suc m) k e (suc i) x a l =
    number_at b y m (suc k) (both_true _ _ e).1 i x (omega (arith, a)) (omega (arith, l))

in_all : (b : FlowBlock) (y : ℕ) → all_numbers_fed b y ≡ true → (k : ℕ) → k < 32 → number_fed b y k ≡ true
unfolding all_numbers_fed
in_all b y e k l = number_at b y 32 0 e k k (omega arith) l

pub masked_low : (mask k : ℕ) → in_mask mask k ≡ true → k < 32
masked_low mask k e = low k 32 (both_true _ _ e).0

-- a block that passes the test is straight
pub straight : (b : FlowBlock) → is_straight b ≡ true → IsStraight b
straight b e =
    let front = plain_front 0 b.nodes in
    let parts = both_true (all_fed front b.writes) (all_numbers_fed b front) e in
    let plain = λ (y : ℕ) (n : FlowNode) (l : y < front)
    (s : slice_get b.nodes y ≡ Some n). front_at 0 b.nodes y y n (omega arith) l s in
    record {
      front = front;
      within = front_within 0 b.nodes;
      guards = λ y n l s. unguarded_is n.guard (both_true _ _ (plain y n l s)).0;
      left = λ y n l s t. asked_is (takes_left (role_of n.op)) y n.left
          (both_true _ _ (both_true _ _ (plain y n l s)).1).0 t;
      right = λ y n l s t. asked_is (takes_right (role_of n.op)) y n.right
          (both_true _ _ (both_true _ _ (plain y n l s)).1).1 t;
      writes = λ j w s. fed_is front w.sources (fed_at front b.writes parts.0 j w s);
      numbers = λ k t. asked_is (in_mask b.mask k) front (stores_of 0 b.nodes k)
          (in_all b front parts.1 k (masked_low b.mask k t)) t;
    }
