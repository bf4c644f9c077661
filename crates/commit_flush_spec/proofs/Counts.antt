-- How many flags are not set, and how many things stand in a list, after one write.
use Rattle.std.proofs.Common.{◌≡◌, ◌≢◌, ℕ, zero, suc, ◌+◌, ◌<◌, ◌≤◌, Bool, true, false, cond, not, List, []}
use Rattle.std.proofs.Common.{◌∷◌, Option, Some, None, set, get_or, length, is_some, count_by, refl, ap, ◌∙◌}
use Rattle.std.proofs.Common.{arith}
use Rattle.std.proofs.lemmas.List.Sums.{sum_by-set, sum_by-cons, count_by-le-length}
use Rattle.trips_isa.specs.declared.block.Token.{Token}
use Rattle.trips_isa.specs.declared.node.Node.{Node}
use Rattle.trips_isa.specs.Rule.{Answer}
use Rattle.commit_flush_spec.specs.Frames.{at, blank, unset, emptied, is_target}
use Rattle.commit_flush_spec.specs.Sending.{put_if, sent}
use Rattle.commit_flush_spec.proofs.Lists.{there_below}
use Rattle.commit_flush_spec.proofs.Search.{some_is}

-- how many flags of a list are not set
abbrev pub open_in : List Bool → ℕ
open_in xs = count_by not xs

-- how many things stand in a list
abbrev pub standing : {A : Type 0} → List (Option A) → ℕ
standing xs = count_by is_some xs

-- one flag counts at most 1
pub one_most : (b : Bool) → cond b 1 0 ≤ 1
one_most true = omega arith
one_most false = omega arith

-- a flag is set
pub flag_falls : (xs : List Bool) (i : ℕ) → i < length xs → get_or xs i false ≡ false
    → suc (open_in (set xs i true)) ≡ open_in xs
flag_falls xs i l e =
    let k = sum_by-set (λ b. cond (not b) 1 0) xs i true false l in
    let one : cond {A = ℕ} (not (get_or xs i false)) 1 0 ≡ 1 = ap (λ b. cond (not b) 1 0) e in
    omega (arith, k, one)

module _ {A : Type 0} where
  -- a thing is taken away
  pub thing_falls : (xs : List (Option A)) (i : ℕ) → at xs i ≢ None → suc (standing (set xs i None)) ≡ standing xs
  thing_falls xs i n =
      let k = sum_by-set (λ (t : Option A). cond (is_some t) 1 0) xs i None None (there_below xs i n) in
      let one : cond {A = ℕ} (is_some (at xs i)) 1 0 ≡ 1 = ap (λ b. cond b 1 0) (some_is (at xs i) n) in
      omega (arith, k, one)

  -- a thing is put there
  pub thing_rises : (xs : List (Option A)) (i : ℕ) (t : Option A) → standing (set xs i t) ≤ suc (standing xs)
  thing_rises [] i t = omega arith
  thing_rises (x ∷ xs) zero t =
      let a = sum_by-cons (λ (t : Option A). cond (is_some t) 1 0) t xs in
      let c = sum_by-cons (λ (t : Option A). cond (is_some t) 1 0) x xs in
      let k = one_most (is_some t) in
      omega (arith, a, c, k)
  thing_rises (x ∷ xs) (suc i) t =
      let a = sum_by-cons (λ (t : Option A). cond (is_some t) 1 0) x (set xs i t) in
      let c = sum_by-cons (λ (t : Option A). cond (is_some t) 1 0) x xs in
      let k = thing_rises xs i t in
      omega (arith, a, c, k)

  -- in a list that is emptied nothing stands
  pub none_stands : (xs : List (Option A)) → standing (emptied xs) ≡ 0
  none_stands [] = refl
  none_stands (x ∷ xs) = none_stands xs

  -- at most as many things stand in a list as it is long
  pub most_stand : (xs : List (Option A)) → standing xs ≤ length xs
  most_stand xs = count_by-le-length is_some xs

-- in a list that is made empty nothing stands
pub blank_stands : (A : Type 0) (n : ℕ) → standing {A = A} (blank n) ≡ 0
unfolding blank
blank_stands A zero = refl
blank_stands A (suc n) = blank_stands A n

-- at most as many flags are not set as there are
pub most_open : (xs : List Bool) → open_in xs ≤ length xs
most_open xs = count_by-le-length not xs

-- of n flags that are made unset none is set
pub all_open : (n : ℕ) → open_in (unset n) ≡ n
unfolding unset
all_open zero = refl
all_open (suc n) =
    let a = sum_by-cons (λ b. cond (not b) 1 0) false (unset n) in
    let k = all_open n in
    a ∙ omega (arith, k)

-- a node puts two tokens on their way at most
put_rises : (b : Bool) (xs : List Answer) (p : ℕ) (t : Token) → standing (put_if b xs p t) ≤ suc (standing xs)
put_rises true xs p t = thing_rises xs p (Some t)
put_rises false xs p t = omega arith

-- a node that sends its token puts at most two more in place
pub sent_rises : (o : Option Node) (xs : List Answer) (p : ℕ) (t : Token) → standing (sent o xs p t) ≤ standing xs + 2
sent_rises None xs p t = omega arith
sent_rises (Some n) xs p t =
    let a = put_rises (is_target n.second) (put_if (is_target n.first) xs p t) (suc p) t in
    let c = put_rises (is_target n.first) xs p t in
    omega (arith, a, c)
