-- An image that is read is the image that was written.
use Rattle.std.proofs.Common.{◌≡◌, ℕ, zero, suc, ◌+◌, ◌-◌, ◌*◌, ◌^◌, ◌<◌, ◌≤◌, Bool, true, false}
use Rattle.std.proofs.Common.{List, [], ◌∷◌, ◌++◌, length, take, drop, map, Result, Ok, refl, sym}
use Rattle.std.proofs.Common.{ap, subst, ◌∙◌, arith, nat_lt, nat_le, nat_eq, lit<, lit≤}
use Rattle.std.specs.List.{flat_map, sum_by}
use Rattle.std.specs.Str.{bytes_eq}
use Rattle.std.proofs.lemmas.Slice.Eq.{bytes_eq-Decides}
use Rattle.std.proofs.lemmas.Bool.{ltb-false, le-ltb}
use Rattle.std.proofs.lemmas.Bool.Decides.{nat_tests}
use Rattle.std.proofs.lemmas.List.{take-append-drop, length-append, length-take, length-drop}
use Rattle.std.proofs.lemmas.List.{drop-drop, drop_at, drop_all, take_at, length-map}
use Rattle.byteorder.specs.Endian.{big_number, big_bytes}
use Rattle.block_image.specs.declared.fault.ImageFault.{ImageFault}
use Rattle.block_image.specs.declared.fault.ImageFault.TheVariants.{Magic, Version, Truncated}
use Rattle.block_image.specs.declared.fault.ImageFault.TheVariants.{Trailing, BadField}
use Rattle.block_image.specs.Words.{slot_word}
use Rattle.trips_isa.specs.declared.block.Block.{Block}
use Rattle.trips_isa.specs.declared.block.Image.{Image}
use Rattle.block_image.proofs.Each.{Each, AreBytes, each_drop, each_take, each_of, all_of}
use Rattle.trips_isa.specs.Fits.{FitsBlock}
use Rattle.trips_isa.specs.Images.{FitsImage, last_byte, chunks, body_chunks}
use Rattle.trips_isa.specs.Limits.{most_chunks}
use Rattle.block_image.specs.Spelling.{ImageBytes, block_bytes, chunks_of, magic, spelling}
use Rattle.block_image.specs.Spelling.{header_words}
use Rattle.block_image.specs.Reading.{◌>>=◌}
use Rattle.block_image.specs.inside.Reading.{block_at}
use Rattle.block_image.specs.inside.ImageReading.{wants, number_at, magic_at, version_at, count_at}
use Rattle.block_image.specs.inside.ImageReading.{size_at, data_at, blocks_at, image_at}
use Rattle.block_image.proofs.Lists.{bind_ok, ok_is}
use Rattle.block_image.proofs.BodyLaws.{test_false, number_takes, number_again, length-words_bytes}
use Rattle.block_image.proofs.BlockLaws.{block_takes, block_again, cond_ok}
use Rattle.block_image.proofs.Chunks.{chunks_least}
use Rattle.block_image.proofs.HeaderAgain.{length-words_from}
use Rattle.std.proofs.lemmas.List.Sums.{sum_by-cons}

-- what is wanted and gives no fault is so
pub want_ok : (b : Bool) (f : ImageFault) (u : Unit {0}) → wants b f ≡ Ok u → b ≡ true
want_ok true f u e = refl
want_ok false f u e = absurd cc

-- where the test of less is true, the one number is less than the other
pub lt_true : (a b : ℕ) → nat_lt a b ≡ true → a < b
lt_true a b e = grind (arith, nat_tests)

-- of a lesser number the test of less is true
pub true_lt : (a b : ℕ) → a < b → nat_lt a b ≡ true
true_lt a b e = grind (arith, nat_tests)

-- where the test of at most is true, the one number is at most the other
pub le_true : (a b : ℕ) → nat_le a b ≡ true → a ≤ b
le_true a b e = grind (arith, nat_tests)

-- of a number that is at most another the test of this is true
pub true_le : (a b : ℕ) → a ≤ b → nat_le a b ≡ true
true_le a b e = grind (arith, nat_tests)

-- where the test of equality is true, the numbers are equal
pub eq_true : (a b : ℕ) → nat_eq a b ≡ true → a ≡ b
eq_true a b e = grind (arith, nat_tests)

pub true_eq : (a b : ℕ) → a ≡ b → nat_eq a b ≡ true
true_eq a b e = grind (arith, nat_tests)

-- ---- numbers

-- a number of 32 bits, whose four bytes stand there
pub record NumberTaken (at : ℕ) (bytes : List ℕ) (n : ℕ) : Type 0 where
  pub inside : at + 4 ≤ length bytes
  pub below : n < 2 ^ 32
  pub spelled : drop at bytes ≡ big_bytes 4 n ++ drop (at + 4) bytes

-- a number that is read has 32 bits, and its four bytes stand there
pub number_found : (at : ℕ) (bytes : List ℕ) (n : ℕ) → AreBytes bytes → number_at at bytes ≡ Ok n
    → NumberTaken at bytes n
unfolding number_at
number_found at bytes n f e =
    let t = test_false (nat_lt (length bytes) (at + 4)) (Truncated (length bytes))
    (big_number 4 (drop at bytes)) n e in
    let l : at + 4 ≤ length bytes = ltb-false _ _ t.0 in
    let p = number_takes (drop at bytes) (omega (arith, length-drop at bytes))
    (each_drop (λ b. b < 256) at bytes f) in
    subst (NumberTaken at bytes) t.1
    (record {
      inside = l;
      below = p.1;
      spelled = sym p.0
          ∙ ap (λ (r : List ℕ). big_bytes 4 (big_number 4 (drop at bytes)) ++ r)
          (drop-drop 4 at bytes);
    })

-- ---- blocks

-- a block has 128 bytes, and 128 more for each chunk of instructions
pub length-block : (b : Block) → length b.insts.items ≡ 128
    → length (block_bytes b) ≡ 128 + 128 * chunks_of b.insts.items
unfolding block_bytes
length-block b e =
    let c = chunks_of b.insts.items in
    let least = chunks_least b.insts.items e in
    let l1 = least.most in
    let h = header_words b in
    let lh : length h ≡ 32 = length-words_from 32 _ b.reads.items b.writes.items in
    let s = take (32 * c) b.insts.items in
    let ls : length (map slot_word s) ≡ 32 * c = length-map s slot_word
    ∙ omega (arith, length-take (32 * c) b.insts.items) in
    length-words_bytes (h ++ map slot_word s) ∙ omega (arith, length-append h (map slot_word s))

-- the chunks of all blocks
abbrev pub chunks_in_all : List Block → ℕ
chunks_in_all [] = 0
chunks_in_all (b ∷ bs) = 1 + chunks_of b.insts.items + chunks_in_all bs

-- the chunks of blocks are one for each header and those of the instructions
pub all_chunks : (bs : List Block) → sum_by chunks bs ≡ chunks_in_all bs
unfolding chunks_of
all_chunks [] = refl
all_chunks (b ∷ bs) = sum_by-cons chunks b bs
    ∙ ap (λ (x : ℕ). 1 + body_chunks 0 b.insts.items + x) (all_chunks bs)

record BlocksTaken (n total at : ℕ) (bytes : List ℕ) (bs : List Block) : Type 0 where
  pub count : length bs ≡ n
  pub each : Each FitsBlock bs
  pub total_is : total + chunks_in_all bs ≤ most_chunks
  pub spelled : drop at bytes ≡ flat_map block_bytes bs

blocks_takes : (n total at : ℕ) (bytes : List ℕ) (bs : List Block) → AreBytes bytes → total ≤ most_chunks
    → blocks_at n total at bytes ≡ Ok bs → BlocksTaken n total at bytes bs
blocks_takes zero total at bytes bs f l e =
    let k = bind_ok (wants (nat_eq at (length bytes)) (Trailing at)) (λ u. Ok []) bs e in
    let q : at ≡ length bytes =
    eq_true at (length bytes) (want_ok (nat_eq at (length bytes)) (Trailing at) k.0 k.1) in
    subst (BlocksTaken 0 total at bytes) (ok_is [] bs k.2)
    (record {
      count = refl;
      each = tt;
      total_is = omega arith;
      spelled = drop_all at bytes (omega arith);
    })
blocks_takes (suc n) total at bytes bs f l e =
    let k = bind_ok (block_at total at bytes)
    (λ b. blocks_at n (total + 1 + chunks_of b.insts.items)
    (at + 128 + 128 * chunks_of b.insts.items) bytes >>= λ bs. Ok (b ∷ bs)) bs e in
    let b = k.0 in
    let t = block_takes total at bytes b f k.1 in
    let r = bind_ok (blocks_at n (total + 1 + chunks_of b.insts.items)
    (at + 128 + 128 * chunks_of b.insts.items) bytes) (λ bs. Ok (b ∷ bs)) bs k.2 in
    let rest = blocks_takes n (total + 1 + chunks_of b.insts.items)
    (at + 128 + 128 * chunks_of b.insts.items) bytes r.0 f t.total_is r.1 in
    let tot = rest.total_is in
    subst (BlocksTaken (suc n) total at bytes) (ok_is (b ∷ r.0) bs r.2) (record {
      count = ap suc rest.count;
      each = (t.fits, rest.each);
      total_is = omega arith;
      spelled = t.spelled ∙ ap (λ (x : List ℕ). block_bytes b ++ x) rest.spelled;
    })

blocks_again : (n total at : ℕ) (bytes : List ℕ) (bs : List Block) → length bs ≡ n
    → Each FitsBlock bs → total + chunks_in_all bs ≤ most_chunks → at ≤ length bytes
    → drop at bytes ≡ flat_map block_bytes bs → blocks_at n total at bytes ≡ Ok bs
blocks_again zero total at bytes [] c f t l e =
    let z : length bytes - at ≡ 0 = sym (length-drop at bytes) ∙ ap length e in
    rw (true_eq at (length bytes) (omega arith)) refl
blocks_again zero total at bytes (b ∷ bs) c f t l e = absurd (omega arith)
blocks_again (suc n) total at bytes [] c f t l e = absurd (omega arith)
blocks_again (suc n) total at bytes (b ∷ bs) c f t l e =
    let k = chunks_of b.insts.items in
    let one : block_at total at bytes ≡ Ok b =
    block_again total at bytes (flat_map block_bytes bs) b f.0 (omega arith) e in
    let lb = length-block b f.0.insts in
    let size : length bytes - at ≡ length (block_bytes b) + length (flat_map block_bytes bs) =
    sym (length-drop at bytes) ∙ ap length e
    ∙ length-append (block_bytes b) (flat_map block_bytes bs) in
    let p : at + 128 + 128 * k ≡ at + (128 + 128 * k) = omega arith in
    let next : drop (at + 128 + 128 * k) bytes ≡ flat_map block_bytes bs =
    ap (λ (x : ℕ). drop x bytes) p ∙ sym (drop-drop (128 + 128 * k) at bytes)
    ∙ ap (drop (128 + 128 * k)) e
    ∙ drop_at (block_bytes b) (flat_map block_bytes bs) (128 + 128 * k) lb in
    rw (
      one,
      blocks_again n (total + 1 + k) (at + 128 + 128 * k) bytes bs (omega arith) f.1
          (omega arith) (omega arith) next,
    ) refl

-- ---- the container

-- an image that is read is spelled by the bytes
pub image_takes : (bytes : List ℕ) (i : Image) → AreBytes bytes → image_at bytes ≡ Ok i
    → ImageBytes i bytes
unfolding image_at magic_at version_at count_at size_at data_at
image_takes bytes i f e =
    let k0 = bind_ok (magic_at bytes)
    (λ u. version_at bytes >>= λ v. count_at bytes >>= λ n. size_at bytes >>= λ d. data_at d bytes
    >>= λ ds. blocks_at n 0 (20 + d) bytes >>= λ bs. Ok (record { blocks = bs; bytes = ds })) i e
    in
    let k1 = bind_ok (version_at bytes)
    (λ v. count_at bytes >>= λ n. size_at bytes >>= λ d. data_at d bytes >>= λ ds. blocks_at n 0
    (20 + d) bytes >>= λ bs. Ok (record { blocks = bs; bytes = ds })) i k0.2 in
    let k2 = bind_ok (count_at bytes)
    (λ n. size_at bytes >>= λ d. data_at d bytes >>= λ ds. blocks_at n 0 (20 + d) bytes
    >>= λ bs. Ok (record { blocks = bs; bytes = ds })) i k1.2 in
    let n = k2.0 in
    let k3 = bind_ok (size_at bytes)
    (λ d. data_at d bytes >>= λ ds. blocks_at n 0 (20 + d) bytes >>= λ bs. Ok
    (record { blocks = bs; bytes = ds })) i k2.2 in
    let d = k3.0 in
    let k4 = bind_ok (data_at d bytes)
    (λ ds. blocks_at n 0 (20 + d) bytes >>= λ bs. Ok (record { blocks = bs; bytes = ds })) i k3.2
    in
    let ds = k4.0 in
    let k5 = bind_ok (blocks_at n 0 (20 + d) bytes)
    (λ bs. Ok (record { blocks = bs; bytes = ds })) i k4.2 in
    let bs = k5.0 in
    -- magic
    let m = cond_ok (nat_lt (length bytes) 8) (Truncated (length bytes))
    (wants (bytes_eq (take 8 bytes) magic) Magic) k0.0 k0.1 in
    let m-is : take 8 bytes ≡ magic = (bytes_eq-Decides (take 8 bytes) magic).0
    (want_ok (bytes_eq (take 8 bytes) magic) Magic k0.0 m.1) in
    -- version
    let v = bind_ok (number_at 8 bytes) (λ v. wants (nat_eq v 1) Version) k1.0 k1.1 in
    let v-is : v.0 ≡ 1 = eq_true v.0 1 (want_ok (nat_eq v.0 1) Version k1.0 v.2) in
    let vt : NumberTaken 8 bytes 1 =
    subst (NumberTaken 8 bytes) v-is (number_found 8 bytes v.0 f v.1) in
    -- count
    let c = bind_ok (number_at 12 bytes)
    (λ n. wants (nat_lt 0 n) (BadField 12) >>= λ u. Ok n) n k2.1 in
    let c1 = bind_ok (wants (nat_lt 0 c.0) (BadField 12)) (λ u. Ok c.0) n c.2 in
    let ce : c.0 ≡ n = ok_is c.0 n c1.2 in
    let cp : 0 < c.0 = lt_true 0 c.0 (want_ok (nat_lt 0 c.0) (BadField 12) c1.0 c1.1) in
    let ct : NumberTaken 12 bytes n =
    subst (NumberTaken 12 bytes) ce (number_found 12 bytes c.0 f c.1) in
    -- size
    let s = bind_ok (number_at 16 bytes)
    (λ d. wants (nat_le d 4194304) (BadField 16) >>= λ u. Ok d) d k3.1 in
    let s1 = bind_ok (wants (nat_le s.0 4194304) (BadField 16)) (λ u. Ok s.0) d s.2 in
    let se : s.0 ≡ d = ok_is s.0 d s1.2 in
    let sp : s.0 ≤ 4194304 = le_true s.0 4194304
    (want_ok (nat_le s.0 4194304) (BadField 16) s1.0 s1.1) in
    let st : NumberTaken 16 bytes d =
    subst (NumberTaken 16 bytes) se (number_found 16 bytes s.0 f s.1) in
    -- data
    let t = cond_ok (nat_lt (length bytes) (20 + d)) (Truncated (length bytes))
    (wants (nat_lt 0 (last_byte (take d (drop 20 bytes)))) (BadField (19 + d)) >>= λ u. Ok
    (take d (drop 20 bytes))) ds k4.1 in
    let long : 20 + d ≤ length bytes = ltb-false _ _ t.0 in
    let t1 = bind_ok (wants (nat_lt 0 (last_byte (take d (drop 20 bytes)))) (BadField (19 + d)))
    (λ u. Ok (take d (drop 20 bytes))) ds t.1 in
    let te : take d (drop 20 bytes) ≡ ds = ok_is (take d (drop 20 bytes)) ds t1.2 in
    let tp : 0 < last_byte (take d (drop 20 bytes)) =
    lt_true 0 _ (want_ok (nat_lt 0 (last_byte (take d (drop 20 bytes))))
    (BadField (19 + d)) t1.0 t1.1) in
    let ld : length (take d (drop 20 bytes)) ≡ d =
    omega (arith, length-take d (drop 20 bytes), length-drop 20 bytes) in
    let r = blocks_takes n 0 (20 + d) bytes bs f (omega arith) k5.1 in
    let rc = r.count in let rt = r.total_is in
    -- together
    let payload : drop 20 bytes ≡ take d (drop 20 bytes) ++ flat_map block_bytes bs =
    sym (take-append-drop d (drop 20 bytes))
    ∙ ap (λ (x : List ℕ). take d (drop 20 bytes) ++ x) (drop-drop d 20 bytes ∙ r.spelled) in
    let whole : bytes ≡ magic ++
    (big_bytes 4 1 ++ (big_bytes 4 n ++
    (big_bytes 4 d ++ (take d (drop 20 bytes) ++ flat_map block_bytes bs)))) =
    sym (take-append-drop 8 bytes) ∙ ap (λ (x : List ℕ). x ++ drop 8 bytes) m-is
    ∙ ap (λ (x : List ℕ). magic ++ x)
    (vt.spelled ∙ ap (λ (x : List ℕ). big_bytes 4 1 ++ x)
    (ct.spelled ∙ ap (λ (x : List ℕ). big_bytes 4 n ++ x)
    (st.spelled ∙ ap (λ (x : List ℕ). big_bytes 4 d ++ x) payload))) in
    let made : Image = record { blocks = bs; bytes = take d (drop 20 bytes) } in
    let made-is : made ≡ i = ap
    (λ (x : List ℕ). let w : Image = record { blocks = bs; bytes = x } in w) te
    ∙ ok_is (record { blocks = bs; bytes = ds }) i k5.2 in
    subst (λ (w : Image). ImageBytes w bytes) made-is (record {
      fits = record {
        some = omega arith;
        each = all_of FitsBlock bs r.each;
        total = omega (arith, all_chunks bs);
        few = omega arith;
        bytes = all_of (λ b. b < 256) (take d (drop 20 bytes))
            (each_take (λ b. b < 256) d (drop 20 bytes) (each_drop (λ b. b < 256) 20 bytes f));
        last = λ z. omega arith;
      };
      spelled = whole ∙ ap (λ (x : ℕ). magic ++
          (big_bytes 4 1 ++ (big_bytes 4 x ++
          (big_bytes 4 d ++ (take d (drop 20 bytes) ++ flat_map block_bytes bs))))) (sym rc)
          ∙ ap (λ (x : ℕ). magic ++ (big_bytes 4 1 ++
          (big_bytes 4 (length bs) ++
          (big_bytes 4 x ++ (take d (drop 20 bytes) ++ flat_map block_bytes bs))))) (sym ld);
    })

-- where the bytes of a number of 32 bits stand, this number is read
pub number_again_at : (at n : ℕ) (bytes rest : List ℕ) → n < 2 ^ 32
    → drop at bytes ≡ big_bytes 4 n ++ rest → number_at at bytes ≡ Ok n
unfolding number_at
number_again_at at n bytes rest l e =
    let size : length bytes - at ≡ length (big_bytes 4 n ++ rest) = sym (length-drop at bytes)
    ∙ ap length e in
    let four : length (big_bytes 4 n ++ rest) ≡ 4 + length rest =
    length-append (big_bytes 4 n) rest in
    rw (le-ltb (length bytes) (at + 4) (omega arith), e, number_again n rest l) refl

-- each block has at least one chunk
pub least_total : (bs : List Block) → length bs ≤ chunks_in_all bs
least_total [] = lit≤ tt
least_total (b ∷ bs) = let r = least_total bs in omega arith

-- a number that is not 0 is above 0
pub positive : (n : ℕ) → (n ≡ 0 → ⊥) → 0 < n
positive zero h = absurd (h refl)
positive (suc n) h = omega arith

-- Behind a good container the reading is that of the blocks.
pub image_from : (i : Image) → FitsImage i → (bytes rest : List ℕ) → take 8 bytes ≡ magic
    → drop 8 bytes ≡ big_bytes 4 1 ++ drop 12 bytes
    → drop 12 bytes ≡ big_bytes 4 (length i.blocks) ++ drop 16 bytes
    → drop 16 bytes ≡ big_bytes 4 (length i.bytes) ++ drop 20 bytes
    → drop 20 bytes ≡ i.bytes ++ rest
    → image_at bytes ≡ (blocks_at (length i.blocks) 0 (20 + length i.bytes) bytes >>= λ bs. Ok
    (record { blocks = bs; bytes = i.bytes }))
unfolding image_at magic_at version_at count_at size_at data_at
image_from i f bytes rest m e8 e12 e16 e20 =
    let n = length i.blocks in
    let d = length i.bytes in
    let few = f.few in let some = f.some in let total = f.total in let same = all_chunks i.blocks in
    let many : length i.blocks ≤ chunks_in_all i.blocks = least_total i.blocks in
    let size : length bytes - 20 ≡ d + length rest = sym (length-drop 20 bytes) ∙ ap length e20
    ∙ length-append i.bytes rest in
    let s16 : length bytes - 16 ≡ 4 + length (drop 20 bytes) = sym (length-drop 16 bytes)
    ∙ ap length e16 ∙ length-append (big_bytes 4 d) (drop 20 bytes) in
    let long : 20 ≤ length bytes = omega arith in
    let a0 : nat_lt (length bytes) 8 ≡ false = le-ltb (length bytes) 8 (omega arith) in
    let a1 : number_at 8 bytes ≡ Ok 1 = number_again_at 8 1 bytes (drop 12 bytes) (lit< tt) e8 in
    let a2 : number_at 12 bytes ≡ Ok n =
    number_again_at 12 n bytes (drop 16 bytes) (omega arith) e12 in
    let a3 : number_at 16 bytes ≡ Ok d =
    number_again_at 16 d bytes (drop 20 bytes) (omega arith) e16 in
    let b2 : nat_lt 0 n ≡ true = true_lt 0 n (omega arith) in
    let b3 : nat_le d 4194304 ≡ true = true_le d 4194304 few in
    let a4 : nat_lt (length bytes) (20 + d) ≡ false =
    le-ltb (length bytes) (20 + d) (omega arith) in
    let tk : take d (drop 20 bytes) ≡ i.bytes = ap (take d) e20 ∙ take_at i.bytes rest d refl in
    let b4 : nat_lt 0 (last_byte i.bytes) ≡ true =
    true_lt 0 _ (positive (last_byte i.bytes) f.last) in
    let m1 : magic_at bytes ≡ Ok tt = rw (a0, m) refl in
    let m2 : version_at bytes ≡ Ok tt = rw a1 refl in
    let m3 : count_at bytes ≡ Ok n = rw (a2, b2) refl in
    let m4 : size_at bytes ≡ Ok d = rw (a3, b3) refl in
    let m5 : data_at d bytes ≡ Ok i.bytes = rw (a4, tk, b4) refl in
    rw (m1, m2, m3, m4, m5) refl

pub long_enough : (bytes a b : List ℕ) → drop 20 bytes ≡ a ++ b → 20 ≤ length bytes
    → length bytes ≡ 20 + (length a + length b)
long_enough bytes a b e l = let s : length bytes - 20 ≡ length a + length b =
    sym (length-drop 20 bytes) ∙ ap length e ∙ length-append a b in omega arith

-- an image that fits is read again from its bytes
pub image_again : (i : Image) → FitsImage i → image_at (spelling i) ≡ Ok i
image_again i f =
    let bytes = spelling i in
    let rest = flat_map block_bytes i.blocks in
    let d = length i.bytes in
    let total = f.total in
    let same = all_chunks i.blocks in
    let one = image_from i f bytes rest refl refl refl refl refl in
    let next : drop (20 + d) bytes ≡ rest = sym (drop-drop d 20 bytes)
    ∙ drop_at i.bytes rest d refl in
    let size : length (drop 20 bytes) ≡ d + length rest = length-append i.bytes rest in
    let twenty : length bytes ≡ 20 + length (drop 20 bytes) = omega arith in
    let bl : blocks_at (length i.blocks) 0 (20 + d) bytes ≡ Ok i.blocks =
    blocks_again (length i.blocks) 0 (20 + d) bytes i.blocks refl
    (each_of FitsBlock i.blocks f.each) (omega arith) (omega arith) next in
    one ∙ ap (λ (r : Result (List Block) ImageFault). r >>= λ bs. Ok
    (record { blocks = bs; bytes = i.bytes })) bl
