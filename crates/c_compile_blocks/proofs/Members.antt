-- The registers that a block writes and reads are no more than those of a list that has them.
use Rattle.std.proofs.Common.{◌≡◌, ℕ, zero, suc, ◌+◌, ◌≤◌, Bool, true, false, ◌||◌, List, [], ◌∷◌, ◌++◌, length}
use Rattle.std.proofs.Common.{refl, sym, ap, ◌∙◌, arith, cond, nat_eq, nat_lt, ◌⊎◌, inl, inr}
use Rattle.std.proofs.lemmas.Bool.Decides.{nat_tests}
use Rattle.ir_forms.specs.declared.flow.FlowNode.{FlowNode}
use Rattle.ir_forms.specs.declared.flow.FlowWrite.{FlowWrite}
use Rattle.predication.specs.inside.Environments.{Env, member}
use Rattle.hyper_narrow.specs.inside.NarrowedCode.{Narrowed, outlasts}
use Rattle.predication.specs.inside.Converted.{writes_below, nodes_read, writes_read, reads_below}
use Rattle.predication.specs.inside.Converted.{all_touched, all_written}
use Rattle.predication.proofs.WrittenLemmas.{member_among}

-- a register that is written is set
pub written_set : (b : Narrowed) (r : ℕ) → member r (all_written b) ≡ true → member r (all_touched b.block) ≡ true
written_set b r m =
    go (member r (all_touched b.block)) (sym (member_among b.lasting r (all_touched b.block)) ∙ m)
  where
    go : (c : Bool) → cond c (outlasts b.lasting r) false ≡ true → c ≡ true
    go true e = refl
    go false e = absurd (cc)

-- how many numbers below n are members
abbrev marked : List ℕ → ℕ → ℕ
marked qs zero = 0
marked qs (suc n) = cond (member n qs) 1 0 + marked qs n

none_marked : (n : ℕ) → marked [] n ≡ 0
none_marked zero = refl
none_marked (suc n) = let h = none_marked n in omega (arith, h)

-- one more member adds one at most
marked_more : (q : ℕ) (qs : List ℕ) (n : ℕ) → marked (q ∷ qs) n ≤ cond (nat_lt q n) 1 0 + marked qs n
marked_more q qs zero = omega arith
marked_more q qs (suc n) =
    go (nat_eq n q) refl (nat_lt q n) refl (nat_lt q (suc n)) refl (cond (member n qs) 1 0) (member n qs) refl
    (marked_more q qs n)
  where
    go : (e : Bool) → nat_eq n q ≡ e → (a : Bool) → nat_lt q n ≡ a → (b : Bool) → nat_lt q (suc n) ≡ b → (w : ℕ)
        (m : Bool) → cond m 1 0 ≡ w → marked (q ∷ qs) n ≤ cond a 1 0 + marked qs n
        → cond (cond e true m) 1 0 + marked (q ∷ qs) n ≤ cond b 1 0 + (w + marked qs n)
    go true e true a b c w m d h = absurd (grind (arith, nat_tests))
    go true e false a true c w m d h = omega (arith, h)
    go true e false a false c w m d h = absurd (grind (arith, nat_tests))
    go false e true a true c w m d h = omega (arith, h, d)
    go false e true a false c w m d h = absurd (grind (arith, nat_tests))
    go false e false a true c w m d h = omega (arith, h, d)
    go false e false a false c w m d h = omega (arith, h, d)

marked_most : (qs : List ℕ) (n : ℕ) → marked qs n ≤ length qs
marked_most [] n = let h = none_marked n in omega (arith, h)
marked_most (q ∷ qs) n = go (nat_lt q n) (marked_more q qs n) (marked_most qs n)
  where
    go : (b : Bool) → marked (q ∷ qs) n ≤ cond b 1 0 + marked qs n → marked qs n ≤ length qs
        → marked (q ∷ qs) n ≤ suc (length qs)
    go true h k = omega (arith, h, k)
    go false h k = omega (arith, h, k)

counted : (qs : List ℕ) (n : ℕ) (b : Bool) (k : ℕ) → (b ≡ true → member n qs ≡ true) → k ≤ marked qs n
    → cond b 1 0 + k ≤ cond (member n qs) 1 0 + marked qs n
counted qs n true k h l = let e = ap (λ (c : Bool). cond {A = ℕ} c 1 0) (h refl) in omega (arith, e, l)
counted qs n false k h l = omega (arith, l)

writes_marked : (env : Env) (rs qs : List ℕ) (n : ℕ)
    → ((r : ℕ) → member r rs ≡ true → member r qs ≡ true)
    → length (writes_below env rs n) ≤ marked qs n
writes_marked env rs qs zero h = omega arith
writes_marked env rs qs (suc n) h =
    let k = counted qs n (member n rs) (length (writes_below env rs n)) (h n) (writes_marked env rs qs n h) in
    let e = size (member n rs) in
    omega (arith, k, e)
  where
    size : (b : Bool) → length (cond b (record { register = n; sources = (env n).given } ∷ writes_below env rs n)
        (writes_below env rs n)) ≡ cond b 1 0 + length (writes_below env rs n)
    size true = omega arith
    size false = omega arith

-- a block writes no more registers than a list has that has all that it writes
pub few_writes : (env : Env) (rs qs : List ℕ) (n : ℕ)
    → ((r : ℕ) → member r rs ≡ true → member r qs ≡ true) → length (writes_below env rs n) ≤ length qs
few_writes env rs qs n h =
    let a = writes_marked env rs qs n h in let b = marked_most qs n in omega (arith, a, b)

reads_marked : (ns : List FlowNode) (ws : List FlowWrite) (qs : List ℕ) (n : ℕ)
    → ((r : ℕ) → (nodes_read ns r || writes_read ws r) ≡ true → member r qs ≡ true)
    → length (reads_below ns ws n) ≤ marked qs n
reads_marked ns ws qs zero h = omega arith
reads_marked ns ws qs (suc n) h =
    let k = counted qs n (nodes_read ns n || writes_read ws n) (length (reads_below ns ws n)) (h n)
    (reads_marked ns ws qs n h) in
    let e = size (nodes_read ns n || writes_read ws n) in
    omega (arith, k, e)
  where
    size : (b : Bool) → length (cond b (n ∷ reads_below ns ws n) (reads_below ns ws n))
        ≡ cond b 1 0 + length (reads_below ns ws n)
    size true = omega arith
    size false = omega arith

-- a block reads no more registers than a list has that has all that it reads
pub few_reads : (ns : List FlowNode) (ws : List FlowWrite) (qs : List ℕ) (n : ℕ)
    → ((r : ℕ) → (nodes_read ns r || writes_read ws r) ≡ true → member r qs ≡ true)
    → length (reads_below ns ws n) ≤ length qs
few_reads ns ws qs n h =
    let a = reads_marked ns ws qs n h in let b = marked_most qs n in omega (arith, a, b)

-- MEMBERS

-- what is among the tail of a list is in the list
pub member_tail : (r q : ℕ) (qs : List ℕ) → member r qs ≡ true → member r (q ∷ qs) ≡ true
member_tail r q qs e = go (nat_eq r q)
  where
    go : (c : Bool) → cond c true (member r qs) ≡ true
    go true = refl
    go false = e

-- what is in two lists together is in one of them
pub member_split : (r : ℕ) (a b : List ℕ) → member r (a ++ b) ≡ true
    → (member r a ≡ true) ⊎ (member r b ≡ true)
member_split r [] b e = inr e
member_split r (q ∷ a) b e = go (nat_eq r q) e (λ x. member_split r a b x)
  where
    go : (c : Bool) → cond c true (member r (a ++ b)) ≡ true
        → (member r (a ++ b) ≡ true → (member r a ≡ true) ⊎ (member r b ≡ true))
        → (cond c true (member r a) ≡ true) ⊎ (member r b ≡ true)
    go true x f = inl refl
    go false x f = f x

-- what is in the first of two lists is in both together
pub member_front : (r : ℕ) (a b : List ℕ) → member r a ≡ true → member r (a ++ b) ≡ true
member_front r [] b e = absurd (cc)
member_front r (q ∷ a) b e = go (nat_eq r q) e (λ x. member_front r a b x)
  where
    go : (c : Bool) → cond c true (member r a) ≡ true → (member r a ≡ true → member r (a ++ b) ≡ true)
        → cond c true (member r (a ++ b)) ≡ true
    go true x f = refl
    go false x f = f x

-- what is in the second of two lists is in both together
pub member_back : (r : ℕ) (a b : List ℕ) → member r b ≡ true → member r (a ++ b) ≡ true
member_back r [] b e = e
member_back r (q ∷ a) b e = member_tail r q (a ++ b) (member_back r a b e)

-- the head of a list is in it
pub member_head : (r : ℕ) (qs : List ℕ) → member r (r ∷ qs) ≡ true
member_head r qs =
    let e : nat_eq r r ≡ true = grind (arith, nat_tests) in
    ap (λ (c : Bool). cond c true (member r qs)) e
