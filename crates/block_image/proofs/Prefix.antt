-- No spelling begins another.
use Rattle.std.proofs.Common.{◌≡◌, ℕ, zero, suc, ◌+◌, ◌*◌, ◌≤◌, List, [], ◌∷◌, ◌++◌, length, drop}
use Rattle.std.proofs.Common.{Result, Ok, refl, sym, ap, subst, ◌∙◌, arith, nat_eq, append_assoc}
use Rattle.std.specs.List.{flat_map}
use Rattle.std.proofs.lemmas.List.{drop-drop, drop_at, drop_all}
use Rattle.block_image.specs.declared.fault.ImageFault.{ImageFault}
use Rattle.block_image.specs.declared.fault.ImageFault.TheVariants.{Trailing}
use Rattle.trips_isa.specs.declared.block.Block.{Block}
use Rattle.trips_isa.specs.declared.block.Image.{Image}
use Rattle.block_image.proofs.Each.{Each, each_of}
use Rattle.trips_isa.specs.Fits.{FitsBlock}
use Rattle.trips_isa.specs.Limits.{most_chunks}
use Rattle.block_image.specs.Spelling.{ImageBytes, block_bytes, chunks_of, spelling}
use Rattle.block_image.specs.Reading.{◌>>=◌}
use Rattle.block_image.specs.inside.Reading.{block_at}
use Rattle.block_image.specs.inside.ImageReading.{wants, blocks_at, image_at}
use Rattle.block_image.proofs.Lists.{bind_ok, ok_is}
use Rattle.block_image.proofs.BlockLaws.{block_again}
use Rattle.block_image.proofs.ImageLaws.{image_again, length-block, want_ok, eq_true, image_from}
use Rattle.block_image.proofs.ImageLaws.{chunks_in_all, all_chunks}

same_ok : {A : Type 0} (r : Result A ImageFault) (x y : A) → r ≡ Ok x → r ≡ Ok y → x ≡ y
same_ok r x y a b = ok_is x y (sym a ∙ b)

pub blocks_alone : (n total at : ℕ) (bytes more : List ℕ) (bs cs : List Block) → length bs ≡ n
    → Each FitsBlock bs → total + chunks_in_all bs ≤ most_chunks
    → drop at bytes ≡ flat_map block_bytes bs ++ more → blocks_at n total at bytes ≡ Ok cs
    → more ≡ []
blocks_alone zero total at bytes more [] cs c f t e r =
    let k = bind_ok (wants (nat_eq at (length bytes)) (Trailing at)) (λ u. Ok []) cs r in
    let q : at ≡ length bytes =
    eq_true at (length bytes) (want_ok (nat_eq at (length bytes)) (Trailing at) k.0 k.1) in
    sym e ∙ drop_all at bytes (omega arith)
blocks_alone zero total at bytes more (b ∷ bs) cs c f t e r = absurd (omega arith)
blocks_alone (suc n) total at bytes more [] cs c f t e r = absurd (omega arith)
blocks_alone (suc n) total at bytes more (b ∷ bs) cs c f t e r =
    let s : drop at bytes ≡ block_bytes b ++ (flat_map block_bytes bs ++ more) = e
    ∙ append_assoc (block_bytes b) (flat_map block_bytes bs) more in
    let one : block_at total at bytes ≡ Ok b =
    block_again total at bytes (flat_map block_bytes bs ++ more) b f.0 (omega arith) s in
    let k = bind_ok (block_at total at bytes)
    (λ b. blocks_at n (total + 1 + chunks_of b.insts.items)
    (at + 128 + 128 * chunks_of b.insts.items) bytes >>= λ bs. Ok (b ∷ bs)) cs r in
    let same : k.0 ≡ b = same_ok (block_at total at bytes) k.0 b k.1 one in
    let rest = subst (λ (b : Block).
    (blocks_at n (total + 1 + chunks_of b.insts.items)
    (at + 128 + 128 * chunks_of b.insts.items) bytes >>= λ bs. Ok (b ∷ bs)) ≡ Ok cs) same k.2 in
    let d = bind_ok (blocks_at n (total + 1 + chunks_of b.insts.items)
    (at + 128 + 128 * chunks_of b.insts.items) bytes) (λ bs. Ok (b ∷ bs)) cs rest in
    let p : at + 128 + 128 * chunks_of b.insts.items ≡ at + (128 + 128 * chunks_of b.insts.items) =
    omega arith in
    let next : drop (at + 128 + 128 * chunks_of b.insts.items) bytes ≡ flat_map block_bytes bs
    ++ more =
    ap (λ (x : ℕ). drop x bytes) p ∙ sym (drop-drop (128 + 128 * chunks_of b.insts.items) at bytes)
    ∙ ap (drop (128 + 128 * chunks_of b.insts.items)) s
    ∙ drop_at (block_bytes b) (flat_map block_bytes bs ++ more)
    (128 + 128 * chunks_of b.insts.items) (length-block b f.0.insts) in
    blocks_alone n (total + 1 + chunks_of b.insts.items)
    (at + 128 + 128 * chunks_of b.insts.items) bytes more bs d.0 (omega arith) f.1
    (omega arith) next d.1

-- bytes are those of one image at most
pub one_image : (i j : Image) (bytes : List ℕ) → ImageBytes i bytes → ImageBytes j bytes → i ≡ j
one_image i j bytes a b = same_ok (image_at bytes) i j
    (ap image_at a.spelled ∙ image_again i a.fits) (ap image_at b.spelled ∙ image_again j b.fits)

-- what the numbers in front of the same bytes are
pub no_front : (i j : Image) (bytes more : List ℕ) → ImageBytes i (bytes ++ more)
    → ImageBytes j bytes → more ≡ []
no_front i j bytes more a b =
    let rest = flat_map block_bytes j.blocks in
    let d = length j.bytes in
    let all = spelling j ++ more in
    let total = b.fits.total in
    let same = all_chunks j.blocks in
    let e20 : drop 20 all ≡ j.bytes ++ (rest ++ more) = append_assoc j.bytes rest more in
    let one = image_from j b.fits all (rest ++ more) refl refl refl refl e20 in
    let read : image_at all ≡ Ok i = ap (λ (x : List ℕ). image_at (x ++ more)) (sym b.spelled)
    ∙ ap image_at a.spelled ∙ image_again i a.fits in
    let k = bind_ok (blocks_at (length j.blocks) 0 (20 + d) all)
    (λ bs. Ok (record { blocks = bs; bytes = j.bytes })) i (sym one ∙ read) in
    let next : drop (20 + d) all ≡ rest ++ more = sym (drop-drop d 20 all) ∙ ap (drop d) e20
    ∙ drop_at j.bytes (rest ++ more) d refl in
    blocks_alone (length j.blocks) 0 (20 + d) all more j.blocks k.0 refl
    (each_of FitsBlock j.blocks b.fits.each) (omega arith) next k.1
