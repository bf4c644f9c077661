-- A whole text is read from its image; so a text has one image.
use Rattle.std.proofs.Common.{◌≡◌, ℕ, zero, suc, ◌+◌, ◌%◌, ◌<◌, ◌≤◌, List, [], ◌∷◌, ◌++◌}
use Rattle.std.proofs.Common.{length}
use Rattle.std.proofs.Common.{refl, sym, ap, ◌∙◌, arith, append_assoc, Bool, true, false}
use Rattle.std.proofs.Common.{Option, Some, None}
use Rattle.std.specs.Prelude.{ℤ, pos, ◌==◌, ◌||◌, nat_lt, codes, if◌then◌else◌}
use Rattle.std.specs.Prelude.{All, Result, Ok}
use Rattle.std.specs.Fmt.{decimal}
use Rattle.std.specs.List.{sum_by}
use Rattle.std.proofs.lemmas.Bool.{lt-ltb, le-leb}
use Rattle.std.proofs.lemmas.List.Sums.{sum_by-cons}
use Rattle.trips_isa.specs.declared.block.Inst.{Inst}
use Rattle.trips_isa.specs.declared.block.Block.{Block}
use Rattle.trips_isa.specs.declared.block.Image.{Image}
use Rattle.trips_isa.specs.Fits.{FitsBlock}
use Rattle.trips_isa.specs.Images.{chunks, last_byte, FitsImage}
use Rattle.trips_isa.specs.Limits.{most_chunks}
use Rattle.target_asm_spec.specs.Numbers.{hex_byte, numbered}
use Rattle.target_asm_spec.specs.Text.{goal_of}
use Rattle.target_asm_spec.specs.inside.Chunks.{start_rows, start_row}
use Rattle.target_asm_spec.specs.Text.{data_end, byte_text, head_lines, block_in, block_text}
use Rattle.target_asm_spec.specs.Text.{block_line, image_text}
use Rattle.target_asm_spec.specs.Text.{TargetText}
use Rattle.target_asm_spec.specs.declared.fault.AsmFault.{AsmFault}
use Rattle.target_asm_spec.specs.inside.Reading.{after_in, digits_in, number_in, byte_in}
use Rattle.target_asm_spec.specs.inside.Blocks.{Begins}
use Rattle.target_asm_spec.specs.inside.Whole.{is_empty, count_in, bytes_limit, front_in, feed_in}
use Rattle.target_asm_spec.specs.inside.Whole.{data_byte_in}
use Rattle.target_asm_spec.specs.inside.Whole.{bytes_in, data_lines, data_in, chunks_from, begins_of, unknown}
use Rattle.target_asm_spec.specs.inside.Whole.{body_in, image_in}
use Rattle.target_asm_spec.proofs.Numbers.{after_front, number_pos}
use Rattle.target_asm_spec.proofs.Hexadecimal.{byte_again}
use Rattle.target_asm_spec.proofs.Slots.{Aims, slots_with}
use Rattle.target_asm_spec.proofs.Bodies.{block_with, blocks_with, same_chunks, some_body, blocks_again}
use Rattle.target_asm_spec.proofs.Goals.{raw_at, own_imm, aims_before, aims_after}
use Rattle.target_asm_spec.proofs.Each.{Each, each_of}

-- ---- the first two lines

feed : (rest : List ℕ) → digits_in (10 ∷ rest) ≡ 0
unfolding digits_in
feed rest = refl

count_again : (n : ℕ) (rest : List ℕ) → n < 1000000000
    → count_in (codes "data " ++ (decimal n ++ 10 ∷ rest)) ≡ Some (pos n, rest)
unfolding count_in
count_again n rest l =
    let a : after_in (codes "data ") (codes "data " ++ (decimal n ++ 10 ∷ rest)) ≡ Some (decimal n ++ 10 ∷ rest) =
    after_front (codes "data ") (decimal n ++ 10 ∷ rest) in
    let b : number_in (decimal n ++ 10 ∷ rest) ≡ Some (pos n, 10 ∷ rest) = number_pos n (10 ∷ rest) l (feed rest) in
    let c : after_in (codes "\n") (10 ∷ rest) ≡ Some rest = after_front (codes "\n") rest in
    rw (a, b, c) refl

head_is : (n : ℕ) (rest : List ℕ) → head_lines n ++ rest ≡ codes "trips 1\n"
    ++ (codes "data " ++ (decimal n ++ 10 ∷ rest))
unfolding head_lines
head_is n rest = ap (λ (t : List ℕ). codes "trips 1\ndata " ++ t) (append_assoc (decimal n) (10 ∷ []) rest)

limit_again : (n : ℕ) → n ≤ 4194304 → bytes_limit (pos n) ≡ Some n
unfolding bytes_limit
limit_again n l = rw (le-leb n 4194304 l) refl

-- the head that is written is read back
pub front_again : (n : ℕ) (rest : List ℕ) → n ≤ 4194304 → front_in (head_lines n ++ rest) ≡ Ok (n, rest)
unfolding front_in
front_again n rest l =
    let t : List ℕ = codes "data " ++ (decimal n ++ 10 ∷ rest) in
    let a : after_in (codes "trips 1\n") (codes "trips 1\n" ++ t) ≡ Some t = after_front (codes "trips 1\n") t in
    let b : count_in t ≡ Some (pos n, rest) = count_again n rest (omega (arith, l)) in
    ap front_in (head_is n rest) ∙ rw (a, b, limit_again n l) refl

-- ---- the data bytes

feed_by : (c : Bool) (t : List ℕ) → (if c then after_in (codes "\n") ((if c then 10 ∷ [] else [])
    ++ t) else Some ((if c then 10 ∷ [] else []) ++ t)) ≡ Some t
feed_by true t = after_front (codes "\n") t
feed_by false t = refl

-- a data byte that is written is read back
pub data_byte_again : (count at b : ℕ) (t : List ℕ) → b < 256
    → data_byte_in count at (byte_text count at b ++ t)
    ≡ Some (b, t)
unfolding data_byte_in byte_text
data_byte_again count at b t l =
    let rest : List ℕ = data_end count at ++ t in
    let e : (hex_byte b ++ data_end count at) ++ t ≡ hex_byte b
    ++ rest = append_assoc (hex_byte b) (data_end count at) t in
    let one : byte_in (hex_byte b ++ rest) ≡ Some (b, rest) = byte_again b rest l in
    let end : feed_in count at rest ≡ Some t = feed_by (((at + 1) % 32 == 0) || (at + 1 == count)) t in
    rw (e, one, end) refl

-- data bytes that are written are read back
pub bytes_again : (count at : ℕ) (bs rest : List ℕ) → Each (λ b. b < 256) bs
    → bytes_in count (length bs) at (numbered (byte_text count) at bs ++ rest) ≡ Ok (bs, rest)
unfolding bytes_in
bytes_again count at [] rest f = refl
bytes_again count at (b ∷ bs) rest f =
    let t : List ℕ = numbered (byte_text count) (suc at) bs ++ rest in
    let e : (byte_text count at b ++ numbered (byte_text count) (suc at) bs) ++ rest ≡ byte_text count at b ++ t =
    append_assoc (byte_text count at b) (numbered (byte_text count) (suc at) bs) rest in
    let one : data_byte_in count at (byte_text count at b ++ t) ≡ Some (b, t) = data_byte_again count at b t f.0 in
    let n : at + 1 ≡ suc at = omega arith in
    let more : bytes_in count (length bs) (suc at) t ≡ Ok (bs, rest) = bytes_again count (suc at) bs rest f.1 in
    rw (e, one, n, more) refl

pub above_zero : (n : ℕ) → (n ≡ 0 → ⊥) → nat_lt 0 n ≡ true
above_zero zero h = absurd (h refl)
above_zero (suc n) h = lt-ltb 0 (suc n) (omega arith)

-- the data that is written is read back, where its last byte is not 0
pub data_again : (bs rest : List ℕ) → Each (λ b. b < 256) bs → (last_byte bs ≡ 0 → ⊥)
    → data_in (length bs) (numbered (byte_text (length bs)) 0 bs ++ rest) ≡ Ok (bs, rest)
unfolding data_in
data_again bs rest f h =
    let a = bytes_again (length bs) 0 bs rest f in
    let b : nat_lt 0 (last_byte bs) ≡ true = above_zero (last_byte bs) h in
    rw (a, b) refl

-- ---- where blocks begin does not hang on their offsets

same_chunks_from : (h : ℕ → Inst → ℤ) (p here : ℕ) (bs : List Block)
    → chunks_from here (blocks_with h p bs)
    ≡ chunks_from here bs
unfolding blocks_with
same_chunks_from h p here [] = refl
same_chunks_from h p here (b ∷ bs) =
    let s : chunks (block_with (h p) b) ≡ chunks b = same_chunks (h p) b in
    let r : chunks_from (here + chunks b) (blocks_with h (p + chunks b) bs) ≡ chunks_from (here + chunks b) bs =
    same_chunks_from h (p + chunks b) (here + chunks b) bs in
    ap (λ (n : ℕ). here ∷ chunks_from (here + n) (blocks_with h (p + chunks b) bs)) s
    ∙ ap (λ (l : List ℕ). here ∷ l) r

same_starts_from : (h : ℕ → Inst → ℤ) (p k : ℕ) (bs : List Block)
    → start_rows k (blocks_with h p bs)
    ≡ start_rows k bs
unfolding blocks_with
same_starts_from h p k [] = refl
same_starts_from h p k (b ∷ bs) =
    let s : chunks (block_with (h p) b) ≡ chunks b = same_chunks (h p) b in
    let r : start_rows (suc k) (blocks_with h (p + chunks b) bs)
    ≡ start_rows (suc k) bs = same_starts_from h (p + chunks b) (suc k) bs in
    ap (λ (n : ℕ). start_row k n ++ start_rows (suc k) (blocks_with h (p + chunks b) bs)) s
    ∙ ap (λ (l : List ℕ). start_row k (chunks b) ++ l) r

same_begins : (h : ℕ → Inst → ℤ) (bs : List Block) → begins_of (blocks_with h 0 bs) ≡ begins_of bs
same_begins h bs =
    ap (λ (c : List ℕ). record {
      known = true;
      chunks = c;
      starts = start_rows 0 (blocks_with h 0 bs);
    })
    (same_chunks_from h 0 0 bs)
    ∙ ap (λ (s : List ℕ). record { known = true; chunks = chunks_from 0 bs; starts = s })
    (same_starts_from h 0 0 bs)

-- an instruction that keeps its offset stays
own_slots : (here : ℕ) (ss : List (Option Inst)) → slots_with (own_imm here) ss ≡ ss
own_slots here [] = refl
own_slots here (None ∷ ss) = ap (λ (l : List (Option Inst)). None ∷ l) (own_slots here ss)
own_slots here (Some i ∷ ss) = ap (λ (l : List (Option Inst)). Some i ∷ l) (own_slots here ss)

own_block : (here : ℕ) (b : Block) → block_with (own_imm here) b ≡ b
unfolding block_with
own_block here b =
    ap (λ (l : List (Option Inst)). record b { insts = record { items = l } })
    (own_slots here b.insts.items)

own_blocks : (here : ℕ) (bs : List Block) → blocks_with own_imm here bs ≡ bs
unfolding blocks_with
own_blocks here [] = refl
own_blocks here (b ∷ bs) =
    ap (λ (x : Block). x ∷ blocks_with own_imm (here + chunks b) bs) (own_block here b)
    ∙ ap (λ (l : List Block). b ∷ l) (own_blocks (here + chunks b) bs)

-- ---- the image

-- each block has two chunks
two_chunks : (bs : List Block) → length bs + length bs ≤ sum_by chunks bs
two_chunks [] = omega arith
two_chunks (b ∷ bs) = omega (
  arith,
  two_chunks bs,
  sum_by-cons chunks b bs,
  some_body 0 b.insts.items,
)

body_again : (b : Begins) (all : List Block) (h : ℕ → Inst → ℤ)
    → ((here : ℕ) → Aims b (goal_of all) here (h here))
    → (line : ℕ) → All FitsBlock all → sum_by chunks all ≤ most_chunks
    → body_in b line (numbered (block_in all) 0 all) ≡ Ok (blocks_with h 0 all)
unfolding body_in
body_again b all h a line f s =
    let l = two_chunks all in
    blocks_again b all h a 262145 0 line 0 [] all refl refl refl (each_of FitsBlock all f) (omega (
      arith,
      l,
      s,
    )) (omega (arith, l, s)) (omega (arith, s))

some_text : (all bs : List Block) (k : ℕ) → 1 ≤ length bs
    → is_empty (numbered (block_in all) k bs) ≡ false
unfolding block_text block_line
some_text all [] k l = absurd (omega (arith, l))
some_text all (b ∷ bs) k l = refl

pub image_again : (i : Image) → FitsImage i → image_in (image_text i) ≡ Ok i
unfolding image_in
image_again i f =
    let blocks : List ℕ = numbered (block_in i.blocks) 0 i.blocks in
    let n : ℕ = length i.bytes in
    let few : length i.blocks ≤ most_chunks = omega (arith, two_chunks i.blocks, f.total) in
    let first : front_in (head_lines n ++ (numbered (byte_text n) 0 i.bytes ++ blocks))
    ≡ Ok (n, numbered (byte_text n) 0 i.bytes ++ blocks) =
    front_again n (numbered (byte_text n) 0 i.bytes ++ blocks) f.few in
    let second : data_in n (numbered (byte_text n) 0 i.bytes ++ blocks) ≡ Ok (i.bytes, blocks) =
    data_again i.bytes blocks (each_of (λ b. b < 256) i.bytes f.bytes) f.last in
    let some : is_empty blocks ≡ false = some_text i.blocks i.blocks 0 f.some in
    let line : ℕ = 3 + data_lines n in
    let before : body_in unknown line blocks ≡ Ok (blocks_with (raw_at i.blocks) 0 i.blocks) =
    body_again unknown i.blocks (raw_at i.blocks) (aims_before i.blocks few) line f.each f.total in
    let begun : begins_of (blocks_with (raw_at i.blocks) 0 i.blocks)
    ≡ begins_of i.blocks = same_begins (raw_at i.blocks) i.blocks in
    let after : body_in (begins_of i.blocks) line blocks ≡ Ok i.blocks =
    body_again (begins_of i.blocks) i.blocks own_imm (aims_after i.blocks few) line f.each f.total
    ∙ ap (λ (l : List Block). Ok l) (own_blocks 0 i.blocks) in
    rw (first, second, some, before, begun, after) refl

-- ---- the laws

ok_is : (x y : Image) → ◌≡◌ {A = Result Image AsmFault} (Ok x) (Ok y) → x ≡ y
ok_is x y e = cc

-- a text is read as its image
pub read_again : (i : Image) (text : List ℕ) → TargetText i text → image_in text ≡ Ok i
read_again i text t = ap image_in t.spelled ∙ image_again i t.fits

-- a text is that of one image at most
pub one_image : (i j : Image) (text : List ℕ) → TargetText i text → TargetText j text → i ≡ j
one_image i j text a b = ok_is i j (sym (read_again i text a) ∙ read_again j text b)

-- two texts of one image are the same
pub one_text : (i : Image) (text other : List ℕ) → TargetText i text → TargetText i other
    → text ≡ other
one_text i text other a b = a.spelled ∙ sym b.spelled
