-- Where the next block begins, and the blocks of an image written by the table.
use Rattle.std.proofs.Common.{◌≡◌, ℕ, ◌+◌, ◌<◌, ◌≤◌, List, [], ◌∷◌, ◌++◌, length, take, get_or}
use Rattle.std.proofs.Common.{refl, ap, ◌∙◌, arith, append_assoc, Option, Some, None}
use Rattle.std.specs.List.{sum_by}
use Rattle.std.proofs.lemmas.List.{take_more}
use Rattle.std.proofs.lemmas.List.Sums.{sum_by-append, sum_by-cons}
use Rattle.std.specs.Prelude.{pos, ◌+ℤ◌}
use Rattle.trips_isa.specs.declared.block.Inst.{Inst}
use Rattle.trips_isa.specs.declared.block.Block.{Block}
use Rattle.trips_isa.specs.declared.block.Image.{Image}
use Rattle.trips_isa.specs.Images.{chunks, chunk_of, FitsImage}
use Rattle.target_asm_spec.specs.Numbers.{numbered}
use Rattle.target_asm_spec.specs.Text.{goal_of}
use Rattle.target_asm_spec.specs.inside.Chunks.{goal_in, start_rows}
use Rattle.target_asm_spec.specs.Text.{TargetText, block_text, block_in, head_lines, byte_text}
use Rattle.target_asm_spec.specs.Text.{slot_text, block_line, read_line, write_line, inst_line}
use Rattle.target_asm_spec.proofs.Numbered.{numbered_same}
use Rattle.target_asm_spec.proofs.Starts.{goals_agree}

-- the next block begins where the last one ends
pub next_chunk : (blocks : List Block) (k : ℕ) (d : Block) (here size : ℕ) → k < length blocks
    → here ≡ chunk_of blocks k → size ≡ chunks (get_or blocks k d)
    → here + size ≡ chunk_of blocks (k + 1)
next_chunk blocks k d here size h e s =
    let more : chunk_of blocks (k + 1) ≡ sum_by chunks (take k blocks) + sum_by chunks (get_or blocks k d ∷ []) =
    ap (sum_by chunks) (take_more blocks k d h) ∙ sum_by-append chunks (take k blocks) (get_or blocks k d ∷ []) in
    let one : sum_by chunks (get_or blocks k d ∷ []) ≡ chunks (get_or blocks k d) + 0 =
    sum_by-cons chunks (get_or blocks k d) [] in
    omega (arith, more, one, e, s)

-- each block has a chunk
pub few_blocks : (blocks : List Block) → length blocks ≤ sum_by chunks blocks
few_blocks [] = omega arith
few_blocks (b ∷ bs) = omega (arith, few_blocks bs, sum_by-cons chunks b bs)

slots_agree : (all : List Block) (here j : ℕ) (s : Option Inst)
    → slot_text (goal_in (start_rows 0 all)) here j s ≡ slot_text (goal_of all) here j s
slots_agree all here j None = refl
slots_agree all here j (Some i) = ap (inst_line j i) (goals_agree all (pos here +ℤ i.imm))

block_agrees : (all : List Block) (k : ℕ) (b : Block)
    → block_text (goal_in (start_rows 0 all)) (chunk_of all k) k b ≡ block_in all k b
unfolding block_text
block_agrees all k b = ap (λ t. block_line k b.mask ++
    (numbered read_line 0 b.reads.items ++ (numbered write_line 0 b.writes.items ++ t)))
    (numbered_same (slot_text (goal_in (start_rows 0 all)) (chunk_of all k))
    (slot_text (goal_of all) (chunk_of all k)) 0 b.insts.items (slots_agree all (chunk_of all k)))

-- the blocks by the table are the blocks
pub blocks_agree : (all : List Block) → numbered
    (λ k b. block_text (goal_in (start_rows 0 all)) (chunk_of all k) k b) 0 all
    ≡ numbered (block_in all) 0 all
blocks_agree all = numbered_same (λ k b. block_text (goal_in (start_rows 0 all))
    (chunk_of all k) k b) (block_in all) 0 all (block_agrees all)

-- what is written is the text
pub printed : (i : Image) (starts head bytes all : List ℕ) → FitsImage i
    → starts ≡ start_rows 0 i.blocks → head ≡ head_lines (length i.bytes)
    → bytes ≡ head ++ numbered (byte_text (length i.bytes)) 0 i.bytes
    → all ≡ bytes ++ numbered (λ k b. block_text (goal_in starts) (chunk_of i.blocks k) k b) 0
    i.blocks → TargetText i all
printed i starts head bytes all fits s h d a =
    let table : numbered (λ k b. block_text (goal_in starts) (chunk_of i.blocks k) k b) 0 i.blocks
    ≡ numbered (block_in i.blocks) 0 i.blocks =
    ap (λ t. numbered (λ k b. block_text (goal_in t) (chunk_of i.blocks k) k b) 0 i.blocks) s
    ∙ blocks_agree i.blocks in
    record {
      fits = fits;
      spelled =
          a ∙ ap (λ t. bytes ++ t) table ∙ ap (λ t. t ++ numbered (block_in i.blocks) 0 i.blocks)
          (d ∙ ap (λ t. t ++ numbered (byte_text (length i.bytes)) 0 i.bytes) h)
          ∙ append_assoc (head_lines (length i.bytes))
          (numbered (byte_text (length i.bytes)) 0 i.bytes)
          (numbered (block_in i.blocks) 0 i.blocks);
    }

-- the same with the parts of the image by other names
pub printed_by : (i : Image) (first second : List Block) (ds starts head bytes all : List ℕ)
    → FitsImage i → first ≡ i.blocks → ds ≡ i.bytes → second ≡ i.blocks
    → starts ≡ start_rows 0 first → head ≡ head_lines (length i.bytes)
    → bytes ≡ head ++ numbered (byte_text (length ds)) 0 ds
    → all ≡ bytes ++ numbered (λ k b. block_text (goal_in starts) (chunk_of second k) k b) 0 second
    → TargetText i all
printed_by i first second ds starts head bytes all fits f d s st h b a =
    printed i starts head bytes all fits (st ∙ ap (start_rows 0) f) h
    (b ∙ ap (λ xs. head ++ numbered (byte_text (length xs)) 0 xs) d)
    (a ∙ ap (λ bs. bytes ++ numbered (λ k b. block_text (goal_in starts) (chunk_of bs k) k b) 0 bs)
    s)
