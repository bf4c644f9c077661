-- The blocks of a narrowed program without what outlasts them.
use Rattle.std.proofs.Common.{◌≡◌, ℕ, zero, suc, List, [], ◌∷◌, map, length, Some, slice_get, refl, ap, subst}
use Rattle.std.proofs.lemmas.List.{length-map}
use Rattle.ir_forms.specs.inside.HyperCode.{Block}
use Rattle.ir_forms.specs.inside.HyperFits.{AllLeadOn, IsFollowed}
use Rattle.hyper_narrow.specs.inside.NarrowedCode.{Narrowed, whole, bare}

-- each block stands at its place
pub bare_at : (B : List Narrowed) (k : ℕ) (c : Narrowed) → slice_get B k ≡ Some c
    → slice_get (bare B) k ≡ Some c.block
bare_at [] k c e = absurd (cc)
bare_at (d ∷ B) zero c e = let same : d ≡ c = cc in ap (λ (x : Narrowed). Some x.block) same
bare_at (d ∷ B) (suc k) c e = bare_at B k c e

-- there are as many
pub bare_length : (B : List Narrowed) → length (bare B) ≡ length B
bare_length B = length-map B (λ (c : Narrowed). c.block)

-- each leads to blocks of the program where it does so without what outlasts it
pub leads_there : (B : List Narrowed) → IsFollowed (bare B) → (k : ℕ) (c : Narrowed) → slice_get B k ≡ Some c
    → AllLeadOn k (length B) c.block.tail
leads_there B f k c e =
    subst (λ (n : ℕ). AllLeadOn k n c.block.tail) (bare_length B) (f k c.block (bare_at B k c e))

-- without what outlasts them whole blocks are the blocks
pub bare_whole : (P : List Block) → bare (map whole P) ≡ P
bare_whole [] = refl
bare_whole (b ∷ P) = ap (λ (Q : List Block). b ∷ Q) (bare_whole P)
