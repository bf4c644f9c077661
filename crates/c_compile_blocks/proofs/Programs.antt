-- The machine blocks of a narrowed program, one after the other.
use Rattle.std.proofs.Common.{◌≡◌, ℕ, zero, suc, ◌+◌, ◌<◌, ◌≤◌, ◌⊎◌, inl, inr, Bool, false, List, [], ◌∷◌, ◌++◌, map}
use Rattle.std.proofs.Common.{length, Some, slice_get, refl, sym, ap, subst, ◌∙◌, arith}
use Rattle.std.proofs.Common.{get_or, length-append}
use Rattle.std.proofs.lemmas.Option.{slice_get-get_or}
use Rattle.trips_isa.specs.declared.block.Block.{Block}
use Rattle.ir_forms.specs.inside.Limits.{label_count}
use Rattle.ir_forms.specs.declared.fault.FlowFault.{FlowFault}
use Rattle.ir_forms.specs.declared.fault.FlowFault.TheVariants.{Memory}
use Rattle.ir_forms.specs.inside.HyperFits.{IsFollowed}
use Rattle.ir_forms.specs.inside.HyperViews.{tail_of}
use Rattle.hyper_narrow.specs.declared.narrowed.NarrowedBlock.{NarrowedBlock}
use Rattle.hyper_narrow.specs.inside.NarrowedCode.{Narrowed, bare}
use Rattle.hyper_narrow.specs.inside.NarrowedViews.{narrowed_of}
use Rattle.predication.specs.inside.Outcomes.{NamesLabels}
use Rattle.grid_place.specs.declared.placed.Placing.{Placing}
use Rattle.hyper_narrow.proofs.BareBlocks.{leads_there}
use Rattle.c_compile_blocks.specs.inside.Blocks.{IsPassed, AreFirstPassed, ArePassed, AreMachineBlocks}
use Rattle.c_compile_blocks.specs.inside.Refusals.{FitMachine, HasRefused, IsRefused}
use Rattle.c_compile_blocks.proofs.NeverRefused.{never_refused}
use Rattle.c_compile_blocks.proofs.Passes.{by_memory, is_machine_block, names_labels}

-- none at first
pub none_passed : (t : Bool) (p : Placing) (B : List Narrowed) (us : List Block) → us ≡ []
    → AreFirstPassed t p B 0 us
none_passed t p B us e =
    subst (AreFirstPassed t p B 0) (sym e) (record { size = refl; each = λ k b u is_b is_u. absurd (cc) })

-- an item of a list to whose end one was put
pushed : {A : Type 0} (xs : List A) (x y : A) (k : ℕ) → slice_get (xs ++ (x ∷ [])) k ≡ Some y
    → (slice_get xs k ≡ Some y) ⊎ ((k ≡ length xs) × (x ≡ y))
pushed [] x y zero e = inr (refl, (cc))
pushed [] x y (suc k) e = absurd (cc)
pushed (z ∷ xs) x y zero e = inl e
pushed (z ∷ xs) x y (suc k) e = go (pushed xs x y k e)
  where
    go : (slice_get xs k ≡ Some y) ⊎ ((k ≡ length xs) × (x ≡ y))
        → (slice_get xs k ≡ Some y) ⊎ ((suc k ≡ suc (length xs)) × (x ≡ y))
    go (inl h) = inl h
    go (inr h) = inr (ap suc h.0, h.1)

-- one more
pub one_more : (t : Bool) (p : Placing) (B : List Narrowed) (n : ℕ) (us new : List Block) (b : Narrowed)
    (u : Block) → AreFirstPassed t p B n us → slice_get B n ≡ Some b → IsPassed t p b u → new ≡ us ++ (u ∷ [])
    → AreFirstPassed t p B (n + 1) new
one_more t p B n us new b u all is_b it e = subst (AreFirstPassed t p B (n + 1)) (sym e) (record {
  size = let l = length-append us (u ∷ []) in let s = all.size in omega (arith, l, s);
  each = λ k c w is_c is_w. go k c w is_c (pushed us u w k is_w);
})
  where
    go : (k : ℕ) (c : Narrowed) (w : Block) → slice_get B k ≡ Some c
        → (slice_get us k ≡ Some w) ⊎ ((k ≡ length us) × (u ≡ w)) → IsPassed t p c w
    go k c w is_c (inl h) = all.each k c w is_c h
    go k c w is_c (inr h) =
        let there : slice_get B n ≡ Some c = subst (λ (i : ℕ). slice_get B i ≡ Some c) (h.0 ∙ all.size) is_c in
        let same : b ≡ c = cc in
        subst (λ (x : Narrowed). IsPassed t p x w) same (subst (IsPassed t p b) h.1 it)

-- all are machine blocks, where each narrowed block is within all limits and none is eased
pub are_machine_blocks : (t : Bool) (p : Placing) (B : List Narrowed) (us : List Block) → ArePassed t p B us
    → t ≡ false → FitMachine B → AreMachineBlocks p B us
are_machine_blocks t p B us all e f = record {
  size = all.size;
  each = λ k b u is_b is_u. is_machine_block t p b u (all.each k b u is_b is_u) e (f k b is_b);
}

-- and none of them is refused
pub none_refused : (t : Bool) (p : Placing) (B : List Narrowed) (e : FlowFault) → HasRefused t p B e
    → FitMachine B → e ≡ Memory
none_refused t p B e h f = never_refused h.block e h.refused (f h.number h.block h.there)

-- an item of the blocks of a program
pub mapped : {A C : Type 0} (f : A → C) (xs : List A) (k : ℕ) (x : A) → slice_get xs k ≡ Some x
    → slice_get (map f xs) k ≡ Some (f x)
mapped f [] k x e = absurd (cc)
mapped f (y ∷ xs) zero x e = let same : y ≡ x = cc in ap (λ z. Some (f z)) same
mapped f (y ∷ xs) (suc k) x e = mapped f xs k x e

-- each block of a narrowed program stands at its place
pub block_there : (bs : List NarrowedBlock) (k : ℕ) (x : NarrowedBlock) → k < length bs → x ≡ get_or bs k x
    → slice_get (map narrowed_of bs) k ≡ Some (narrowed_of x)
block_there bs k x l e =
    mapped narrowed_of bs k x (slice_get-get_or bs k x l ∙ ap (λ (y : NarrowedBlock). Some y) (sym e))

-- its labels are below the number of blocks of an image
pub labels_there : (bs : List NarrowedBlock) (k : ℕ) (x : NarrowedBlock) → k < length bs → x ≡ get_or bs k x
    → IsFollowed (bare (map narrowed_of bs)) → length (map narrowed_of bs) ≤ label_count
    → NamesLabels (tail_of x.block.tail)
labels_there bs k x l e f n =
    names_labels k (length (map narrowed_of bs)) (tail_of x.block.tail) n
    (leads_there (map narrowed_of bs) f k (narrowed_of x) (block_there bs k x l e))

-- THE FIRST THAT IS REFUSED

-- a block that is refused, behind blocks that passed, makes the program refused
pub refused_there : (t : Bool) (p : Placing) (bs : List NarrowedBlock) (k : ℕ) (x : NarrowedBlock) (us : List Block)
    (e : FlowFault) → k < length bs → x ≡ get_or bs k x → AreFirstPassed t p (map narrowed_of bs) k us
    → IsRefused (narrowed_of x) e → HasRefused t p (map narrowed_of bs) e
refused_there t p bs k x us e l is all r = record {
  number = k;
  block = narrowed_of x;
  there = block_there bs k x l is;
  refused = r;
  before = us;
  passed = all;
}

-- want of memory to keep a block is one of its refusals
pub memory_there : (t : Bool) (p : Placing) (bs : List NarrowedBlock) (k : ℕ) (x : NarrowedBlock) (us : List Block)
    (e : FlowFault) → k < length bs → x ≡ get_or bs k x → AreFirstPassed t p (map narrowed_of bs) k us → e ≡ Memory
    → HasRefused t p (map narrowed_of bs) e
memory_there t p bs k x us e l is all m =
    refused_there t p bs k x us e l is all (by_memory (narrowed_of x) e m)
