-- Blocks that are unrolled one after another.
use Rattle.std.proofs.Common.{◌≡◌, ℕ, zero, suc, ◌<◌, ◌≤◌, List, [], ◌∷◌, ◌++◌, map, take, length, Some, slice_get}
use Rattle.std.proofs.Common.{get_or, refl, sym, ap, ap₂, ◌∙◌, subst, arith}
use Rattle.ir_forms.specs.declared.hyper.HyperBlock.{HyperBlock}
use Rattle.ir_forms.specs.inside.HyperCode.{Block}
use Rattle.ir_forms.specs.inside.HyperViews.{block_of}
use Rattle.loop_unroll.specs.inside.Unrolled.{loop_of, asked, unrolled_by, unrolled}
use Rattle.loop_unroll.proofs.Programs.{there, sized}

-- LISTS

take_more : {A : Type 0} (xs : List A) (k j : ℕ) (x : A) → slice_get xs k ≡ Some x → j ≡ suc k
    → take j xs ≡ take k xs ++ x ∷ []
take_more [] k j x e l = absurd (cc e)
take_more (y ∷ xs) k zero x e l = absurd (omega (arith, l))
take_more (y ∷ xs) zero (suc j) x e l =
    let d : y ≡ x = cc in
    let q : 0 ≡ j = omega (arith, l) in
    subst (λ j. y ∷ take j xs ≡ x ∷ []) q (ap (λ z. z ∷ []) d)
take_more (y ∷ xs) (suc k) (suc j) x e l = ap (λ zs. y ∷ zs) (take_more xs k j x e (omega (arith, l)))

take_whole : {A : Type 0} (xs : List A) (k : ℕ) → length xs ≤ k → take k xs ≡ xs
take_whole [] zero l = refl
take_whole [] (suc k) l = refl
take_whole (x ∷ xs) zero l = absurd (omega (arith, l))
take_whole (x ∷ xs) (suc k) l = ap (λ zs. x ∷ zs) (take_whole xs k (omega (arith, l)))

map_end : (bs : List HyperBlock) (b : HyperBlock) → map block_of (bs ++ b ∷ []) ≡ map block_of bs ++ block_of b ∷ []
map_end [] b = refl
map_end (a ∷ bs) b = ap (λ xs. block_of a ∷ xs) (map_end bs b)

viewed : (ps : List HyperBlock) (k : ℕ) (b d : HyperBlock) → k < length ps → b ≡ get_or ps k d
    → slice_get (map block_of ps) k ≡ Some (block_of b)
viewed [] k b d l e = absurd (omega (arith, l))
viewed (a ∷ ps) zero b d l e = ap (λ b. Some (block_of b)) (sym e)
viewed (a ∷ ps) (suc k) b d l e = viewed ps k b d (omega (arith, l)) e

-- one block more
pub one_done : (times : List ℕ) (ps bs made : List HyperBlock) (k j n more : ℕ) (b c d : HyperBlock) → k < length ps
    → b ≡ get_or ps k d → n ≡ k → more ≡ asked times n
    → block_of c ≡ unrolled_by (loop_of n (block_of b).tail) more (block_of b)
    → map block_of bs ≡ take k (unrolled times (map block_of ps)) → made ≡ bs ++ c ∷ [] → j ≡ suc k
    → map block_of made ≡ take j (unrolled times (map block_of ps))
one_done times ps bs made k j n more b c d l e same a is before m q =
    let x = block_of b in
    let y : block_of c ≡ unrolled_by (loop_of k x.tail) (asked times k) x =
    is ∙ ap (λ w. unrolled_by (loop_of n x.tail) w x) a ∙ ap
    (λ n. unrolled_by (loop_of n x.tail) (asked times n) x) same in
    ap (map block_of) m ∙ map_end bs c ∙ ap₂ (λ (xs : List Block) (z : Block). xs ++ z ∷ []) before y
    ∙ sym (take_more (unrolled times (map block_of ps)) k j (unrolled_by (loop_of k x.tail) (asked times k) x)
    (there 0 k (asked times) (map block_of ps) k x (omega arith) (viewed ps k b d l e)) q)

mapped : (ps : List HyperBlock) → length (map block_of ps) ≡ length ps
mapped [] = refl
mapped (a ∷ ps) = ap suc (mapped ps)

-- all are done
pub all_done : (times : List ℕ) (ps bs : List HyperBlock) (k : ℕ) → length ps ≤ k
    → map block_of bs ≡ take k (unrolled times (map block_of ps))
    → map block_of bs ≡ unrolled times (map block_of ps)
all_done times ps bs k l e =
    let n = sized 0 (asked times) (map block_of ps) in
    let m = mapped ps in
    e ∙ take_whole (unrolled times (map block_of ps)) k (omega (arith, l, n, m))
