-- A course has as many tasks as the block has instructions and reads, so that its price is the block's cost.
use Rattle.std.proofs.Common.{◌≡◌, ℕ, zero, suc, ◌+◌, ◌-◌, ◌<◌, ◌≤◌, Bool, cond, nat_lt, List, []}
use Rattle.std.proofs.Common.{◌∷◌, length, Option, Some, None, is_some, slice_get, slice_index_or, refl, sym, ap, ap₂}
use Rattle.std.proofs.Common.{◌∙◌, arith}
use Rattle.std.proofs.lemmas.Bool.{cond-true, cond-false, lt-ltb, le-ltb}
use Rattle.trips_isa.specs.declared.block.Inst.{Inst}
use Rattle.trips_isa.specs.declared.block.ReadSlot.{ReadSlot}
use Rattle.trips_isa.specs.declared.block.Block.{Block}
use Rattle.trips_isa.specs.Fits.{FitsBlock}
use Rattle.trips_isa.specs.Rule.{Answer}
use Rattle.trips_isa.specs.Limits.{most_nodes}
use Rattle.block_cases.specs.Orders.{slot_of}
use Rattle.grid_cycle_spec.specs.Costs.{instructions, size, cost}
use Rattle.grid_bound.specs.inside.Course.{sum, tasks}
use Rattle.grid_bound.specs.inside.Left.{price}
use Rattle.grid_bound.specs.inside.Blocks.{slot_tasks, room, slot_task, read_task, task_of, course_of}

-- the tasks of slots are 128
pub slot_tasks_is : slot_tasks ≡ 128
unfolding slot_tasks
slot_tasks_is = refl

-- there is room for as many tasks as a block has nodes
pub room_is : room ≡ most_nodes
unfolding room
room_is = refl

abbrev one : Bool → ℕ
one b = cond b 1 0

sum_same : (n : ℕ) (f g : ℕ → ℕ) → ((x : ℕ) → x < n → f x ≡ g x) → sum n f ≡ sum n g
sum_same zero f g h = refl
sum_same (suc n) f g h = ap₂ (λ a b. a + b) (h n (omega arith)) (sum_same n f g (λ x l. h x (omega arith)))

-- the first m numbers, and those behind them
sum_split : (m n : ℕ) (f : ℕ → ℕ) → sum (m + n) f ≡ sum m f + sum n (λ k. f (m + k))
sum_split m zero f = let e : m + 0 ≡ m = omega arith in
    ap (λ k. sum k f) e ∙ (let z : sum m f ≡ sum m f + 0 = omega arith in z)
sum_split m (suc n) f =
    let e : m + suc n ≡ suc (m + n) = omega arith in
    let h : sum (m + n) f ≡ sum m f + sum n (λ k. f (m + k)) = sum_split m n f in
    ap (λ k. sum k f) e ∙
    (let z : f (m + n) + sum (m + n) f ≡ sum m f + (f (m + n) + sum n (λ k. f (m + k))) = omega (arith, h) in z)

sum_head : (n : ℕ) (f : ℕ → ℕ) → sum (suc n) f ≡ f 0 + sum n (λ k. f (suc k))
sum_head zero f = refl
sum_head (suc n) f =
    let h : sum (suc n) f ≡ f 0 + sum n (λ k. f (suc k)) = sum_head n f in
    (let z : f (suc n) + sum (suc n) f ≡ f 0 + (f (suc n) + sum n (λ k. f (suc k))) = omega (arith, h) in z)

sum_none : (n : ℕ) → sum n (λ k. 0) ≡ 0
sum_none zero = refl
sum_none (suc n) = let h : sum n (λ k. 0) ≡ 0 = sum_none n in omega (arith, h)

-- the instructions of a list, by number
insts_are : (xs : List (Option Inst))
    → sum (length xs) (λ s. one (is_some (slice_index_or xs s None))) ≡ instructions xs
insts_are [] = refl
insts_are (None ∷ xs) =
    let h : sum (suc (length xs)) (λ s. one (is_some (slice_index_or (None ∷ xs) s None)))
    ≡ 0 + sum (length xs) (λ s. one (is_some (slice_index_or xs s None))) =
    sum_head (length xs) (λ s. one (is_some (slice_index_or (None ∷ xs) s None))) in
    let k : sum (length xs) (λ s. one (is_some (slice_index_or xs s None))) ≡ instructions xs = insts_are xs in
    omega (arith, h, k)
insts_are (Some i ∷ xs) =
    let h : sum (suc (length xs)) (λ s. one (is_some (slice_index_or (Some i ∷ xs) s None)))
    ≡ 1 + sum (length xs) (λ s. one (is_some (slice_index_or xs s None))) =
    sum_head (length xs) (λ s. one (is_some (slice_index_or (Some i ∷ xs) s None))) in
    let k : sum (length xs) (λ s. one (is_some (slice_index_or xs s None))) ≡ instructions xs = insts_are xs in
    omega (arith, h, k)

-- the reads of a list, by number
reads_are : (n : ℕ) (rs : List ReadSlot) → length rs ≤ n → sum n (λ k. one (is_some (slice_get rs k))) ≡ length rs
reads_are n [] l = sum_none n
reads_are zero (r ∷ rs) l = absurd (omega arith)
reads_are (suc n) (r ∷ rs) l =
    let h : sum (suc n) (λ k. one (is_some (slice_get (r ∷ rs) k))) ≡ 1
    + sum n (λ k. one (is_some (slice_get rs k))) =
    sum_head n (λ k. one (is_some (slice_get (r ∷ rs) k))) in
    let k : sum n (λ k. one (is_some (slice_get rs k))) ≡ length rs = reads_are n rs (omega arith) in
    omega (arith, h, k)

module _ (b : Block) (g : ℕ → Answer) where
  -- the task of a slot's node is that of the slot
  pub slot_is : (s : ℕ) → s < slot_tasks → task_of b g s ≡ slot_task b g s (slot_of b s)
  slot_is s l = cond-true (nat_lt s slot_tasks) _ _ (lt-ltb s slot_tasks l)

  -- the task of a read's node is that of the read
  pub read_is : (k : ℕ) → task_of b g (slot_tasks + k) ≡ read_task b (slice_get b.reads.items k)
  read_is k =
      let e : slot_tasks + k - slot_tasks ≡ k = omega arith in
      cond-false (nat_lt (slot_tasks + k) slot_tasks) _ _ (le-ltb (slot_tasks + k) slot_tasks (omega arith))
      ∙ ap (λ j. read_task b (slice_get b.reads.items j)) e

  slot_declared : (s : ℕ) → s < slot_tasks → (task_of b g s).declared ≡ is_some (slot_of b s)
  slot_declared s l = ap (λ t. t.declared) (slot_is s l) ∙ go (slot_of b s)
    where
      go : (i : Option Inst) → (slot_task b g s i).declared ≡ is_some i
      go None = refl
      go (Some i) = refl

  read_declared : (k : ℕ) → (task_of b g (slot_tasks + k)).declared ≡ is_some (slice_get b.reads.items k)
  read_declared k = ap (λ t. t.declared) (read_is k) ∙ go (slice_get b.reads.items k)
    where
      go : (r : Option ReadSlot) → (read_task b r).declared ≡ is_some r
      go None = refl
      go (Some r) = refl

  split_tasks : (n : ℕ) → room ≡ slot_tasks + n → length b.insts.items ≡ slot_tasks → length b.reads.items ≤ n
      → tasks (course_of b g) ≡ size b
  split_tasks n e insts reads =
      ap (λ k. sum k (λ x. one (task_of b g x).declared)) e
      ∙ sum_split slot_tasks n (λ x. one (task_of b g x).declared)
      ∙ ap₂ (λ i j. i + j)
      (sum_same slot_tasks _ (λ s. one (is_some (slot_of b s))) (λ s l. ap one (slot_declared s l))
      ∙ ap (λ k. sum k (λ s. one (is_some (slot_of b s)))) (sym insts) ∙ insts_are b.insts.items)
      (sum_same n _ (λ k. one (is_some (slice_get b.reads.items k))) (λ k l. ap one (read_declared k))
      ∙ reads_are n b.reads.items reads)

  -- a course has as many tasks as the cost of the block counts
  pub tasks_are : FitsBlock b → tasks (course_of b g) ≡ size b
  tasks_are fits =
      let e = slot_tasks_is in let r = room_is in let i = fits.insts in
      split_tasks 32 (omega (arith, e, r)) (omega (arith, e, i)) fits.reads

-- the price of a block by its size is its cost
pub price_is : (b : Block) → price (size b) ≡ cost b
unfolding cost
price_is b = refl
