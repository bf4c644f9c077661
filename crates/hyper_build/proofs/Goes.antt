-- Blocks and rests of blocks, one after the other.
use Rattle.std.proofs.Common.{◌≡◌, ℕ, zero, suc, ◌+◌, ◌%◌, ◌≤◌, Bool, true, false, cond, not, ◌&&◌, List, []}
use Rattle.std.proofs.Common.{◌∷◌, ◌++◌, Some, refl, ap, ◌∙◌, subst, arith, slice_get, eq-eqb, le-leb}
use Rattle.trips_isa.specs.declared.op.Op.{Op}
use Rattle.trips_isa.specs.declared.op.Op.TheVariants.{Ld, Sd}
use Rattle.trips_isa.specs.Alu.{alu_of}
use Rattle.trips_isa.specs.Forms.{size_of}
use Rattle.trips_isa.specs.Stores.{data_size, is_good_address, put_bytes}
use Rattle.ir_forms.specs.declared.hyper.Source.{Source}
use Rattle.trips_isa.specs.inside.Acts.{Act, Accessed, divisions, is_clean, is_fault}
use Rattle.ir_forms.specs.inside.HyperCode.{Block}
use Rattle.ir_forms.specs.inside.HyperRuns.{Machine, Standing, Unclean, with_register, with_memory, value_of}
use Rattle.ir_forms.specs.inside.HyperRuns.{number_in, loaded, saved, after_items, acts, exit_of, leave, run, jump}
use Rattle.ir_forms.specs.inside.HyperRuns.{block_or}
use Rattle.hyper_build.specs.inside.Parts.{set_then, load_then, save_then, cut, cut_blocks, cut_size}
use Rattle.hyper_build.specs.inside.World.{World, Has, Goes}

clean_next : (c d : Bool) (x y : Standing) → d ≡ true → cond (c && not d) x y ≡ y
clean_next true d x y e = ap (λ b. cond (not b) x y) e
clean_next false d x y e = refl

-- acts behind clean ones are clean where they are
pub clean_append : (xs ys : List Act) → is_clean xs ≡ true → is_clean (xs ++ ys) ≡ is_clean ys
clean_append [] ys e = refl
clean_append (x ∷ xs) ys e = go (not (is_fault x)) (is_clean xs) (clean_append xs ys) e
  where
    go : (a b : Bool) → (b ≡ true → is_clean (xs ++ ys) ≡ is_clean ys) → a && b ≡ true
        → a && is_clean (xs ++ ys) ≡ is_clean ys
    go true b h e = h e
    go false b h e = let bad : false ≡ true = e in cc

-- the address of a word within data memory is a good one
pub good_word : (a : ℕ) → a % 8 ≡ 0 → a + 8 ≤ data_size → is_good_address a 8 ≡ true
good_word a e le = rw (eq-eqb (a % 8) 0 e, le-leb (a + 8) data_size le) refl

-- Each block goes to itself in no steps.
pub goes_here : (W : World) (b : Block) (m : Machine) → Goes W b m 0 b m
goes_here W b m = record { by = λ n. let e : 0 + n ≡ n = omega arith in ap (λ k. run W.check W.at W.program k b m) e }

-- Two ways from block to block, one behind the other, are one.
pub goes_then : (W : World) (b b1 b2 : Block) (m m1 m2 : Machine) (j j1 : ℕ) → Goes W b m j b1 m1
    → Goes W b1 m1 j1 b2 m2 → Goes W b m (j + j1) b2 m2
goes_then W b b1 b2 m m1 m2 j j1 g h = record {
  by = λ n. let e : j + j1 + n ≡ j + (j1 + n) = omega arith in
      ap (λ k. run W.check W.at W.program k b m) e ∙ g.by (j1 + n) ∙ h.by n;
}

-- A way of so many steps is one of an equal number.
pub goes_count : (W : World) (b b1 : Block) (m m1 : Machine) (j i : ℕ) → j ≡ i → Goes W b m j b1 m1
    → Goes W b m i b1 m1
goes_count W b b1 m m1 j i e g = subst (λ k. Goes W b m k b1 m1) e g

-- one whole block
pub goes_block : (W : World) (b b1 : Block) (m m1 : Machine) → is_clean (acts b.items m) ≡ true
    → ((n : ℕ) → leave W.at W.program (run W.check W.at W.program n)
    (exit_of b.tail (after_items b.items m).registers) (after_items b.items m)
    ≡ run W.check W.at W.program n b1 m1)
    → Goes W b m 1 b1 m1
goes_block W b b1 m m1 clean h = record {
  by = λ n. let e : 1 + n ≡ suc n = omega arith in
      ap (λ k. run W.check W.at W.program k b m) e ∙ clean_next W.check (is_clean (acts b.items m)) _ _ clean ∙ h n;
}

-- A jump goes to the block of its label in one step.
pub goes_jump : (W : World) (l : ℕ) (b : Block) (m : Machine) → slice_get W.program l ≡ Some b
    → Goes W (jump l) m 1 b m
goes_jump W l b m e = goes_block W (jump l) b m m refl (λ n. ap (λ o. run W.check W.at W.program n (block_or o) m) e)

-- A cut goes on with what is behind it, in one block more or none.
pub goes_cut : (W : World) (c : Bool) (l : ℕ) (k : Block) (m : Machine) → Has W.program l (cut_blocks c k)
    → Goes W (cut c l k) m (cut_size c) k m
goes_cut W true l k m h = goes_jump W l k m h.0
goes_cut W false l k m h = goes_here W k m

-- an item at the head of a block takes no block
pub goes_same : (W : World) (b b1 : Block) (m m1 : Machine)
    → ((n : ℕ) → run W.check W.at W.program n b m ≡ run W.check W.at W.program n b1 m1) → Goes W b m 0 b1 m1
goes_same W b b1 m m1 h = record {
  by = λ n. let e : 0 + n ≡ n = omega arith in
      ap (λ k. run W.check W.at W.program k b m) e ∙ h n;
}

-- A register is set to the operation's result, and the block goes on, where no division faults.
pub goes_set : (W : World) (r : ℕ) (op : Op) (x y : Source) (k : Block) (m : Machine)
    → is_clean (divisions op (value_of m.registers y)) ≡ true
    → Goes W (set_then r op x y k) m 0 k (with_register m r
    (alu_of op (value_of m.registers x) (value_of m.registers y)))
goes_set W r op x y k m clean = goes_same W _ k m _ go
  where
    go : (n : ℕ) → run W.check W.at W.program n (set_then r op x y k) m
        ≡ run W.check W.at W.program n k (with_register m r
        (alu_of op (value_of m.registers x) (value_of m.registers y)))
    go zero = refl
    go (suc n) =
        let m1 = with_register m r (alu_of op (value_of m.registers x) (value_of m.registers y)) in
        ap (λ d. cond (W.check && not d) Unclean
        (leave W.at W.program (run W.check W.at W.program n)
        (exit_of k.tail (after_items k.items m1).registers) (after_items k.items m1)))
        (clean_append (divisions op (value_of m.registers y)) (acts k.items m1) clean)

-- where faults are not looked for, any operation
pub goes_set_any : (W : World) (r : ℕ) (op : Op) (x y : Source) (k : Block) (m : Machine)
    → (W.check ≡ true → is_clean (divisions op (value_of m.registers y)) ≡ true)
    → Goes W (set_then r op x y k) m 0 k (with_register m r
    (alu_of op (value_of m.registers x) (value_of m.registers y)))
goes_set_any W r op x y k m clean = goes_same W _ k m _ go
  where
    skip : (c : Bool) (n : Standing) (rest : List Act)
        → (c ≡ true → is_clean (divisions op (value_of m.registers y)) ≡ true)
        → cond (c && not (is_clean (divisions op (value_of m.registers y) ++ rest))) Unclean n
        ≡ cond (c && not (is_clean rest)) Unclean n
    skip true n rest h = ap (λ d. cond (not d) Unclean n)
        (clean_append (divisions op (value_of m.registers y)) rest (h refl))
    skip false n rest h = refl

    go : (n : ℕ) → run W.check W.at W.program n (set_then r op x y k) m
        ≡ run W.check W.at W.program n k (with_register m r
        (alu_of op (value_of m.registers x) (value_of m.registers y)))
    go zero = refl
    go (suc n) =
        let m1 = with_register m r (alu_of op (value_of m.registers x) (value_of m.registers y)) in
        skip W.check (leave W.at W.program (run W.check W.at W.program n)
        (exit_of k.tail (after_items k.items m1).registers) (after_items k.items m1)) (acts k.items m1) clean

-- a word is loaded
pub goes_load : (W : World) (r : ℕ) (x : Source) (k : Block) (m : Machine)
    → is_good_address (value_of m.registers x) 8 ≡ true
    → Goes W (load_then r Ld x k) m 0 k (with_register m r (number_in m.memory (value_of m.registers x) 8))
goes_load W r x k m good = goes_same W _ k m _ go
  where
    go : (n : ℕ) → run W.check W.at W.program n (load_then r Ld x k) m
        ≡ run W.check W.at W.program n k (with_register m r (number_in m.memory (value_of m.registers x) 8))
    go zero = refl
    go (suc n) =
        ap (λ g. (let m1 = with_register m r (cond g (number_in m.memory (value_of m.registers x) 8) 0) in
        cond (W.check && not (not (not g) && is_clean (acts k.items m1))) Unclean
        (leave W.at W.program (run W.check W.at W.program n)
        (exit_of k.tail (after_items k.items m1).registers) (after_items k.items m1)))) good

-- a word is stored
pub goes_save : (W : World) (x y : Source) (k : Block) (m : Machine)
    → is_good_address (value_of m.registers x) 8 ≡ true
    → Goes W (save_then Sd x y k) m 0 k (with_memory m
    (put_bytes m.memory (value_of m.registers x) 8 (value_of m.registers y)))
goes_save W x y k m good = goes_same W _ k m _ go
  where
    go : (n : ℕ) → run W.check W.at W.program n (save_then Sd x y k) m
        ≡ run W.check W.at W.program n k (with_memory m
        (put_bytes m.memory (value_of m.registers x) 8 (value_of m.registers y)))
    go zero = refl
    go (suc n) =
        ap (λ g. (let m1 = with_memory m (cond g
        (put_bytes m.memory (value_of m.registers x) 8 (value_of m.registers y)) m.memory) in
        cond (W.check && not (not (not g) && is_clean (acts k.items m1))) Unclean
        (leave W.at W.program (run W.check W.at W.program n)
        (exit_of k.tail (after_items k.items m1).registers) (after_items k.items m1)))) good

-- where faults are not looked for, any access
skip_access : (W : World) (a s : ℕ) (n : Standing) (rest : List Act) → (W.check ≡ true → is_good_address a s ≡ true)
    → cond (W.check && not (is_clean (Accessed a s ∷ rest))) Unclean n
    ≡ cond (W.check && not (is_clean rest)) Unclean n
skip_access W a s n rest h = go W.check h
  where
    go : (c : Bool) → (c ≡ true → is_good_address a s ≡ true)
        → cond (c && not (not (not (is_good_address a s)) && is_clean rest)) Unclean n
        ≡ cond (c && not (is_clean rest)) Unclean n
    go true h = ap (λ g. cond (not (not (not g) && is_clean rest)) Unclean n) (h refl)
    go false h = refl

-- a load before a block puts what memory holds into its register and goes on with the block
pub goes_load_any : (W : World) (r : ℕ) (op : Op) (x : Source) (k : Block) (m : Machine)
    → (W.check ≡ true → is_good_address (value_of m.registers x) (size_of op) ≡ true)
    → Goes W (load_then r op x k) m 0 k (with_register m r (loaded op m.memory (value_of m.registers x)))
goes_load_any W r op x k m good = goes_same W _ k m _ go
  where
    go : (n : ℕ) → run W.check W.at W.program n (load_then r op x k) m
        ≡ run W.check W.at W.program n k (with_register m r (loaded op m.memory (value_of m.registers x)))
    go zero = refl
    go (suc n) =
        let m1 = with_register m r (loaded op m.memory (value_of m.registers x)) in
        skip_access W (value_of m.registers x) (size_of op)
        (leave W.at W.program (run W.check W.at W.program n)
        (exit_of k.tail (after_items k.items m1).registers) (after_items k.items m1)) (acts k.items m1) good

-- a store before a block changes memory and goes on with the block
pub goes_save_any : (W : World) (op : Op) (x y : Source) (k : Block) (m : Machine)
    → (W.check ≡ true → is_good_address (value_of m.registers x) (size_of op) ≡ true)
    → Goes W (save_then op x y k) m 0 k (with_memory m
    (saved op m.memory (value_of m.registers x) (value_of m.registers y)))
goes_save_any W op x y k m good = goes_same W _ k m _ go
  where
    go : (n : ℕ) → run W.check W.at W.program n (save_then op x y k) m
        ≡ run W.check W.at W.program n k (with_memory m
        (saved op m.memory (value_of m.registers x) (value_of m.registers y)))
    go zero = refl
    go (suc n) =
        let m1 = with_memory m (saved op m.memory (value_of m.registers x) (value_of m.registers y)) in
        skip_access W (value_of m.registers x) (size_of op)
        (leave W.at W.program (run W.check W.at W.program n)
        (exit_of k.tail (after_items k.items m1).registers) (after_items k.items m1)) (acts k.items m1) good
