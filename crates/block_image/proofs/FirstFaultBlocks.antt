-- The fault of the blocks that reading gives is the first one.
use Rattle.std.proofs.Common.{◌≡◌, ℕ, zero, suc, ◌+◌, ◌*◌, ◌<◌, ◌≤◌}
use Rattle.std.proofs.Common.{List, [], ◌∷◌, ◌++◌, length, drop, get_or, Result, Ok, Err}
use Rattle.std.proofs.Common.{refl, sym, ap, subst, ◌∙◌, arith, nat_eq}
use Rattle.std.proofs.Common.{append_assoc, inl, inr}
use Rattle.std.specs.List.{flat_map, sum_by}
use Rattle.std.proofs.lemmas.List.{length-append}
use Rattle.std.proofs.lemmas.List.{drop_more}
use Rattle.trips_isa.specs.declared.block.Block.{Block}
use Rattle.trips_isa.specs.declared.block.Image.{Image}
use Rattle.trips_isa.specs.Fits.{FitsBlock}
use Rattle.trips_isa.specs.Images.{chunks}
use Rattle.trips_isa.specs.Limits.{most_chunks}
use Rattle.block_image.specs.declared.fault.ImageFault.{ImageFault}
use Rattle.block_image.specs.declared.fault.ImageFault.TheVariants.{Trailing}
use Rattle.block_image.specs.Spelling.{container, block_bytes, chunks_of, spelling}
use Rattle.block_image.specs.Reading.{◌>>=◌}
use Rattle.block_image.specs.inside.Reading.{block_at}
use Rattle.block_image.specs.inside.ImageReading.{magic_at, version_at, count_at}
use Rattle.block_image.specs.inside.ImageReading.{size_at, data_at, blocks_at, image_at}
use Rattle.block_image.specs.Faults.{BlockFault}
use Rattle.block_image.specs.FirstFault.{FirstFault}
use Rattle.block_image.specs.FirstFault.{in_block, trailing}
use Rattle.block_image.proofs.Each.{Each, AreBytes, all_of}
use Rattle.block_image.proofs.BlockLaws.{BlockTaken, block_takes}
use Rattle.block_image.proofs.FaultLaws.{split, block_fault}
use Rattle.block_image.proofs.ImageLaws.{chunks_in_all, all_chunks, length-block}
use Rattle.block_image.proofs.FirstFaultLaws.{false_eq, wanted_fails, magic_read, magic_fault}
use Rattle.block_image.proofs.FirstFaultLaws.{version_fault, version_read, count_fault, count_read}
use Rattle.block_image.proofs.FirstFaultLaws.{size_fault, size_read, data_fault, DataRead}
use Rattle.block_image.proofs.FirstFaultLaws.{data_read}

-- ---- the blocks

data BlocksFault (n total at : ℕ) (bytes : List ℕ) (f : ImageFault) : Type 0 where
  stopped : (bs : List Block) (rest : List ℕ) → length bs < n → Each FitsBlock bs
      → total + chunks_in_all bs ≤ most_chunks → drop at bytes ≡ flat_map block_bytes bs ++ rest
      → BlockFault (total + chunks_in_all bs) (at + 128 * chunks_in_all bs) bytes f
      → BlocksFault n total at bytes f
  left_over : (bs : List Block) (b : ℕ) (rest : List ℕ) → length bs ≡ n → Each FitsBlock bs
      → total + chunks_in_all bs ≤ most_chunks → drop at bytes ≡ flat_map block_bytes bs ++ (b ∷ rest)
      → Trailing (at + 128 * chunks_in_all bs) ≡ f → BlocksFault n total at bytes f

one_more : (n total at : ℕ) (bytes : List ℕ) (b : Block) (f : ImageFault)
    → BlockTaken total at bytes b
    → BlocksFault n (total + 1 + chunks_of b.insts.items)
    (at + 128 + 128 * chunks_of b.insts.items) bytes f → BlocksFault (suc n) total at bytes f
one_more n total at bytes b f t r = elim r as (λ r. BlocksFault (suc n) total at bytes f) [
  | stopped bs rest l each m e g ↦
      let k = chunks_of b.insts.items in
      let x : total + 1 + k + chunks_in_all bs ≡ total + (1 + k + chunks_in_all bs) = omega arith in
      let y : at + 128 + 128 * k + 128 * chunks_in_all bs ≡ at + 128 * (1 + k + chunks_in_all bs) =
      omega arith in
      stopped (b ∷ bs) rest (omega arith) (t.fits, each) (omega arith)
      (t.spelled ∙ ap (λ (z : List ℕ). block_bytes b ++ z) e
      ∙ sym (append_assoc (block_bytes b) (flat_map block_bytes bs) rest))
      (subst (λ (z : ℕ). BlockFault z (at + 128 * (1 + k + chunks_in_all bs)) bytes f) x
      (subst (λ (z : ℕ). BlockFault (total + 1 + k + chunks_in_all bs) z bytes f) y g))
  | left_over bs c rest l each m e g ↦
      let k = chunks_of b.insts.items in
      let y : at + 128 + 128 * k + 128 * chunks_in_all bs ≡ at + 128 * (1 + k + chunks_in_all bs) =
      omega arith in
      left_over (b ∷ bs) c rest (omega arith) (t.fits, each) (omega arith)
      (t.spelled ∙ ap (λ (z : List ℕ). block_bytes b ++ z) e
      ∙ sym (append_assoc (block_bytes b) (flat_map block_bytes bs) (c ∷ rest)))
      (ap (λ (z : ℕ). Trailing z) (sym y) ∙ g)
]

with_block_fails : (b : Block) (r : Result (List Block) ImageFault) (f : ImageFault)
    → (r >>= λ bs. Ok (b ∷ bs)) ≡ Err f → r ≡ Err f
with_block_fails b (Ok bs) f e = absurd cc
with_block_fails b (Err d) f e = cc

blocks_fault : (n total at : ℕ) (bytes : List ℕ) (f : ImageFault) → AreBytes bytes → total ≤ most_chunks
    → at ≤ length bytes → blocks_at n total at bytes ≡ Err f → BlocksFault n total at bytes f
blocks_fault zero total at bytes f a l i e =
    let w = wanted_fails (nat_eq at (length bytes)) (Trailing at) f [] e in
    let no : at ≡ length bytes → ⊥ = false_eq at (length bytes) w.0 in
    let less : at < length bytes = grind arith in
    let z : at + 128 * 0 ≡ at = omega arith in
    left_over [] (get_or bytes at 0) (drop (at + 1) bytes) refl tt (omega arith)
    (drop_more bytes at 0 less) (ap (λ (x : ℕ). Trailing x) z ∙ w.1)
blocks_fault (suc n) total at bytes f a l i e =
    elim (split (block_at total at bytes)
    (λ b. blocks_at n (total + 1 + chunks_of b.insts.items)
    (at + 128 + 128 * chunks_of b.insts.items) bytes >>= λ bs. Ok (b ∷ bs)) f e) [
      | inl h ↦
          let z : total ≡ total + 0 = omega arith in
          let y : at ≡ at + 128 * 0 = omega arith in
          let g = block_fault total at bytes f a h in
          stopped [] (drop at bytes) (omega arith) tt (omega arith) refl
          (subst (λ (x : ℕ). BlockFault x (at + 128 * 0) bytes f) z
          (subst (λ (x : ℕ). BlockFault total x bytes f) y g))
      | inr h ↦
          let b = h.0 in
          let t = block_takes total at bytes b a h.1 in
          let m = t.total_is in
          one_more n total at bytes b f t
          (blocks_fault n (total + 1 + chunks_of b.insts.items)
          (at + 128 + 128 * chunks_of b.insts.items) bytes f a (omega arith) t.inside
          (with_block_fails b (blocks_at n (total + 1 + chunks_of b.insts.items)
          (at + 128 + 128 * chunks_of b.insts.items) bytes) f h.2))
    ]

-- ---- the image

pub length-blocks : (bs : List Block) → Each FitsBlock bs
    → length (flat_map block_bytes bs) ≡ 128 * chunks_in_all bs
length-blocks [] f = refl
length-blocks (b ∷ bs) f =
    let one = length-block b f.0.insts in
    let others = length-blocks bs f.1 in
    omega (arith, length-append (block_bytes b) (flat_map block_bytes bs))

-- an image is spelled by 20 bytes, its data bytes and 128 bytes for each chunk
pub length-spelling : (i : Image) → Each FitsBlock i.blocks
    → length (spelling i) ≡ 20 + length i.bytes + 128 * chunks_in_all i.blocks
length-spelling i f =
    let blocks = length-blocks i.blocks f in
    omega (arith, length-append i.bytes (flat_map block_bytes i.blocks))

blocks_first : (n d : ℕ) (bytes front : List ℕ) (f : ImageFault) → AreBytes bytes
    → DataRead n d bytes front
    → BlocksFault n 0 (20 + d) bytes f → FirstFault bytes f
blocks_first n d bytes front f a r g = elim g as (λ g. FirstFault bytes f) [
  | stopped bs rest l each m e fault ↦
      let s : 0 + chunks_in_all bs ≡ sum_by chunks bs = omega (arith, all_chunks bs) in
      let size = r.size in
      let p : 20 + d + 128 * chunks_in_all bs ≡ 20 + length front + 128 * sum_by chunks bs =
      omega (arith, all_chunks bs) in
      in_block n front rest bs f r.good
      (record {
        fewer = l;
        each = all_of FitsBlock bs each;
        total = omega (arith, all_chunks bs);
      })
      (r.spelled ∙ ap (λ (x : List ℕ). container n front ++ x) e)
      (subst (λ (x : ℕ). BlockFault x (20 + length front + 128 * sum_by chunks bs) bytes f) s
      (subst (λ (x : ℕ). BlockFault (0 + chunks_in_all bs) x bytes f) p fault))
  | left_over bs b rest l each m e fault ↦
      let image : Image = record { blocks = bs; bytes = front } in
      let good = r.good in
      let some = good.some in
      let size = r.size in
      let flat = flat_map block_bytes bs in
      let p : 20 + d + 128 * chunks_in_all bs ≡ length (spelling image) =
      omega (arith, length-spelling image each) in
      subst (FirstFault bytes) (ap (λ (x : ℕ). Trailing x) (sym p) ∙ fault)
      (trailing image b rest (record {
        some = omega arith;
        each = all_of FitsBlock bs each;
        total = omega (arith, all_chunks bs);
        few = good.few;
        bytes = all_of (λ b. b < 256) front (r.each a);
        last = good.last;
      })
      (r.spelled ∙ ap (λ (x : List ℕ). container n front ++ x) e
      ∙ sym (append_assoc (container n front) flat (b ∷ rest))
      ∙ ap (λ (x : ℕ). (container x front ++ flat) ++ (b ∷ rest)) (sym l)))
]

made_fails : (front : List ℕ) (r : Result (List Block) ImageFault) (f : ImageFault)
    → (r >>= λ bs. let i : Image = record { blocks = bs; bytes = front } in Ok i) ≡ Err f
    → r ≡ Err f
made_fails front (Ok bs) f e = absurd cc
made_fails front (Err d) f e = cc

abbrev made : List ℕ → List Block → Result Image ImageFault
made front bs = Ok (record { blocks = bs; bytes = front })

-- the fault that reading an image gives is the first fault of its bytes
pub image_fault : (bytes : List ℕ) (f : ImageFault) → AreBytes bytes → image_at bytes ≡ Err f
    → FirstFault bytes f
unfolding image_at
image_fault bytes f a e =
    elim (split (magic_at bytes)
    (λ u. version_at bytes >>= λ v. count_at bytes >>= λ n. size_at bytes >>= λ d. data_at d bytes
    >>= λ ds. blocks_at n 0 (20 + d) bytes >>= made ds) f e) [
      | inl h ↦ magic_fault bytes f h
      | inr h ↦ let m = magic_read bytes h.0 h.1 in
          elim (split (version_at bytes)
          (λ v. count_at bytes >>= λ n. size_at bytes >>= λ d. data_at d bytes
          >>= λ ds. blocks_at n 0 (20 + d) bytes >>= made ds) f h.2) [
            | inl g ↦ version_fault bytes f a m g
            | inr g ↦ let v = version_read bytes g.0 a m g.1 in
                elim (split (count_at bytes)
                (λ n. size_at bytes >>= λ d. data_at d bytes >>= λ ds. blocks_at n 0
                (20 + d) bytes >>= made ds) f g.2) [
                  | inl k ↦ count_fault bytes f a v k
                  | inr k ↦ let n = k.0 in let c = count_read n bytes a v k.1 in
                      elim (split (size_at bytes)
                      (λ d. data_at d bytes >>= λ ds. blocks_at n 0 (20 + d) bytes >>= made ds) f
                      k.2) [
                        | inl l ↦ size_fault n bytes f a c l
                        | inr l ↦ let d = l.0 in let s = size_read n d bytes a c l.1 in
                            elim (split (data_at d bytes)
                            (λ ds. blocks_at n 0 (20 + d) bytes >>= made ds) f l.2) [
                              | inl q ↦ data_fault n d bytes f s q
                              | inr q ↦
                                  let r = data_read n d bytes q.0 s q.1 in
                                  blocks_first n d bytes q.0 f a r
                                  (blocks_fault n 0 (20 + d) bytes f a (omega arith) r.inside
                                  (made_fails q.0 (blocks_at n 0 (20 + d) bytes) f q.2))
                            ]
                      ]
                ]
          ]
    ]
