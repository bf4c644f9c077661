-- The lines of blocks are read one after the other.
use Rattle.std.proofs.Common.{◌≡◌, ℕ, zero, suc, ◌+◌, ◌<◌, ◌≤◌, max, List, [], ◌∷◌, ◌++◌, length}
use Rattle.std.proofs.Common.{take}
use Rattle.std.proofs.Common.{refl, sym, ap, ◌∙◌, arith, append_assoc, true, false}
use Rattle.std.proofs.Common.{Option, Some, None}
use Rattle.std.proofs.Common.{eq-eqb}
use Rattle.std.specs.Prelude.{ℤ, ◌==◌, nat_le, codes, Ok}
use Rattle.std.specs.List.{sum_by}
use Rattle.std.proofs.lemmas.Bool.{le-leb}
use Rattle.std.proofs.lemmas.List.{take_at}
use Rattle.std.proofs.lemmas.List.Sums.{sum_by-append, sum_by-cons}
use Rattle.trips_isa.specs.declared.block.Inst.{Inst}
use Rattle.trips_isa.specs.declared.block.Block.{Block}
use Rattle.trips_isa.specs.Fits.{FitsSlot, FitsRead, FitsBlock}
use Rattle.trips_isa.specs.Images.{body_chunks, chunks_to, chunks, chunk_of}
use Rattle.trips_isa.specs.Limits.{most_chunks}
use Rattle.isa_table.specs.Spots.{indexed}
use Rattle.target_asm_spec.specs.Numbers.{numbered}
use Rattle.target_asm_spec.specs.Text.{goal_of}
use Rattle.target_asm_spec.specs.Text.{block_line, read_line, write_line, inst_line, slot_text}
use Rattle.target_asm_spec.specs.Text.{block_text, block_in}
use Rattle.target_asm_spec.specs.inside.Reading.{after_in}
use Rattle.target_asm_spec.specs.inside.Blocks.{◌>>>◌, begins, Begins}
use Rattle.target_asm_spec.specs.inside.Blocks.{reads_in, writes_in}
use Rattle.target_asm_spec.specs.inside.Blocks.{slots_in}
use Rattle.target_asm_spec.specs.inside.Blocks.{head_in, block_of, one_block, blocks_in}
use Rattle.target_asm_spec.specs.inside.Whole.{is_empty}
use Rattle.target_asm_spec.proofs.Lines.{block_line_again}
use Rattle.target_asm_spec.proofs.Rows.{reads_again, writes_again, writes_begin}
use Rattle.target_asm_spec.proofs.Slots.{Aims, slots_with, used, slots_again}
use Rattle.target_asm_spec.proofs.Each.{Each, each_of}

-- neither a read nor a write nor an instruction comes next
pub record NoRow (rest : List ℕ) : Type 0 where
  pub no_read : begins (codes "R[") rest ≡ false
  pub no_write : begins (codes "W[") rest ≡ false
  pub no_inst : begins (codes "N[") rest ≡ false

pub end_no_row : NoRow []
unfolding after_in
end_no_row = record { no_read = refl; no_write = refl; no_inst = refl }

pub block_no_row : (goal : ℤ → Option ℕ) (here k : ℕ) (b : Block) (rest : List ℕ)
    → NoRow (block_text goal here k b ++ rest)
unfolding block_text block_line after_in
block_no_row goal here k b rest = record { no_read = refl; no_write = refl; no_inst = refl }

-- no instruction is a read or a write
slots_no_read : (goal : ℤ → Option ℕ) (here j : ℕ) (ss : List (Option Inst)) (rest : List ℕ)
    → begins (codes "R[") rest ≡ false
    → begins (codes "R[") (numbered (slot_text goal here) j ss ++ rest) ≡ false
unfolding inst_line indexed after_in
slots_no_read goal here j [] rest h = h
slots_no_read goal here j (None ∷ ss) rest h = slots_no_read goal here (suc j) ss rest h
slots_no_read goal here j (Some i ∷ ss) rest h = refl

slots_no_write : (goal : ℤ → Option ℕ) (here j : ℕ) (ss : List (Option Inst)) (rest : List ℕ)
    → begins (codes "W[") rest ≡ false
    → begins (codes "W[") (numbered (slot_text goal here) j ss ++ rest) ≡ false
unfolding inst_line indexed after_in
slots_no_write goal here j [] rest h = h
slots_no_write goal here j (None ∷ ss) rest h = slots_no_write goal here (suc j) ss rest h
slots_no_write goal here j (Some i ∷ ss) rest h = refl

-- a body has a chunk
pub some_body : (j : ℕ) (ss : List (Option Inst)) → 1 ≤ body_chunks j ss
some_body j [] = omega arith
some_body j (s ∷ ss) = omega (arith, some_body (suc j) ss)

-- ---- one block

-- a block whose instructions have the offsets that h gives them
unfoldable pub block_with : (Inst → ℤ) → Block → Block
block_with h b = block_of b.mask b.reads.items b.writes.items (slots_with h b.insts.items)

abbrev pub lines_after : ℕ → Block → ℕ
lines_after line b = line + 1 + length b.reads.items + length b.writes.items + used b.insts.items

head_again : (k here line mask : ℕ) (rest : List ℕ) → k < 1000000000 → mask < 4294967296
    → here + 2 ≤ most_chunks
    → head_in k here line (block_line k mask ++ rest) ≡ Ok (mask, rest)
unfolding head_in
head_again k here line mask rest l m r =
    let a = block_line_again k mask rest l m in
    let b : (k == k) ≡ true = eq-eqb k k refl in
    let c : nat_le (here + 2) most_chunks ≡ true = le-leb (here + 2) most_chunks r in
    rw (a, b, c) refl

four_parts : (a b c d rest : List ℕ) → (a ++ (b ++ (c ++ d))) ++ rest
    ≡ a ++ (b ++ (c ++ (d ++ rest)))
four_parts a b c d rest =
    append_assoc a (b ++ (c ++ d)) rest
    ∙ ap (λ (t : List ℕ). a ++ t) (append_assoc b (c ++ d) rest
    ∙ ap (λ (t : List ℕ). b ++ t) (append_assoc c d rest))

pub block_again : (b : Begins) (goal : ℤ → Option ℕ) (here : ℕ) (h : Inst → ℤ) → Aims b goal here h
    → (k line : ℕ) (x : Block) (rest : List ℕ) → FitsBlock x → k < 1000000000
    → here + chunks x ≤ most_chunks → NoRow rest
    → one_block b k here line (block_text goal here k x ++ rest)
    ≡ Ok (block_with h x, lines_after line x, rest)
unfolding one_block block_text block_with
block_again b goal here h a k line x rest f l m n =
    let some : 1 ≤ body_chunks 0 x.insts.items = some_body 0 x.insts.items in
    let m2 : here + (1 + body_chunks 0 x.insts.items) ≤ most_chunks = m in
    let insts : List ℕ = numbered (slot_text goal here) 0 x.insts.items ++ rest in
    let writes : List ℕ = numbered write_line 0 x.writes.items ++ insts in
    let reads : List ℕ = numbered read_line 0 x.reads.items ++ writes in
    let parts = four_parts (block_line k x.mask) (numbered read_line 0 x.reads.items)
    (numbered write_line 0 x.writes.items)
    (numbered (slot_text goal here) 0 x.insts.items) rest in
    let first : head_in k here line (block_line k x.mask ++ reads) ≡ Ok (x.mask, reads) =
    head_again k here line x.mask reads l (omega (arith, f.mask)) (omega (arith, m2, some)) in
    let second : reads_in (line + 1) reads ≡ Ok (x.reads.items, line + 1 + length x.reads.items, writes) =
    reads_again (line + 1) x.reads.items writes (each_of FitsRead x.reads.items f.each_read) f.reads
    (writes_begin 0 x.writes.items insts (slots_no_read goal here 0 x.insts.items rest n.no_read))
    in
    let third : writes_in (line + 1 + length x.reads.items) writes
    ≡ Ok (x.writes.items, line + 1 + length x.reads.items + length x.writes.items, insts) =
    writes_again (line + 1 + length x.reads.items) x.writes.items insts
    (each_of (λ r. r < 128) x.writes.items f.each_write) f.writes
    (slots_no_write goal here 0 x.insts.items rest n.no_write) in
    let line3 : ℕ = line + 1 + length x.reads.items + length x.writes.items in
    let fourth : slots_in b here 129 0 line3 insts
    ≡ Ok (slots_with h x.insts.items, line3 + used x.insts.items, rest) =
    slots_again b goal here h a 129 0 0 line3 x.insts.items rest
    (each_of FitsSlot x.insts.items f.each_inst) (omega arith)
    (omega (arith, f.insts)) (omega (arith, f.insts)) (omega (arith, m2)) n.no_inst in
    rw (parts, first, second, third, fourth) refl

-- ---- all blocks

pub same_body : (h : Inst → ℤ) (j : ℕ) (ss : List (Option Inst))
    → body_chunks j (slots_with h ss) ≡ body_chunks j ss
same_body h j [] = refl
same_body h j (None ∷ ss) = ap (λ (n : ℕ). max 1 n) (same_body h (suc j) ss)
same_body h j (Some i ∷ ss) = ap (λ (n : ℕ). max (chunks_to (Some i) j) n) (same_body h (suc j) ss)

-- other offsets leave the chunks of a block as they were
pub same_chunks : (h : Inst → ℤ) (b : Block) → chunks (block_with h b) ≡ chunks b
unfolding block_with
same_chunks h b = ap (λ (n : ℕ). 1 + n) (same_body h 0 b.insts.items)

-- the blocks from the one that begins at `here` on, with the offsets that are given
unfoldable pub blocks_with : (ℕ → Inst → ℤ) → ℕ → List Block → List Block
blocks_with h here [] = []
blocks_with h here (b ∷ bs) = block_with (h here) b ∷ blocks_with h (here + chunks b) bs

not_empty : (b : Begins) (n k here line : ℕ) (text : List ℕ) → is_empty text ≡ false
    → blocks_in b (suc n) k here line text
    ≡ (one_block b k here line text >>> λ t. blocks_in b n (k + 1)
    (here + chunks t.0) t.1 t.2 >>> λ bs. Ok (t.0 ∷ bs))
unfolding blocks_in
not_empty b n k here line [] e = absurd cc
not_empty b n k here line (c ∷ cs) e = refl

block_some : (goal : ℤ → Option ℕ) (here k : ℕ) (b : Block) (rest : List ℕ)
    → is_empty (block_text goal here k b ++ rest) ≡ false
unfolding block_text block_line
block_some goal here k b rest = refl

rest_no_row : (all : List Block) (k : ℕ) (bs : List Block) → NoRow (numbered (block_in all) k bs)
rest_no_row all k [] = end_no_row
rest_no_row all k (b ∷ bs) = block_no_row (goal_of all) (chunk_of all k) k b
    (numbered (block_in all) (suc k) bs)

begins_at : (all pre bs : List Block) (k : ℕ) → all ≡ pre ++ bs → k ≡ length pre
    → chunk_of all k ≡ sum_by chunks pre
begins_at all pre bs k e l =
    ap (λ (x : List Block). sum_by chunks (take k x)) e
    ∙ ap (sum_by chunks) (take_at pre bs k (sym l))

-- the lines of some blocks of a text are read as these blocks, with the offsets that the aims give
pub blocks_again : (b : Begins) (all : List Block) (h : ℕ → Inst → ℤ)
    → ((here : ℕ) → Aims b (goal_of all) here (h here))
    → (turns k line here : ℕ) (pre bs : List Block) → all ≡ pre ++ bs → k ≡ length pre
    → here ≡ sum_by chunks pre
    → Each FitsBlock bs → length bs < turns → k + length bs < 1000000000
    → here + sum_by chunks bs ≤ most_chunks
    → blocks_in b turns k here line (numbered (block_in all) k bs) ≡ Ok (blocks_with h here bs)
unfolding blocks_in blocks_with
blocks_again b all h a zero k line here pre bs e l s f t m c = absurd (omega (arith, t))
blocks_again b all h a (suc n) k line here pre [] e l s f t m c = refl
blocks_again b all h a (suc n) k line here pre (x ∷ xs) e l s f t m c =
    let rest : List ℕ = numbered (block_in all) (suc k) xs in
    let place : chunk_of all k ≡ here = begins_at all pre (x ∷ xs) k e l ∙ sym s in
    let text : block_in all k x ++ rest ≡ block_text (goal_of all) here k x ++ rest =
    ap (λ (p : ℕ). block_text (goal_of all) p k x ++ rest) place in
    let sum : sum_by chunks (x ∷ xs) ≡ chunks x + sum_by chunks xs = sum_by-cons chunks x xs in
    let opened = not_empty b n k here line (block_text (goal_of all) here k x
    ++ rest) (block_some (goal_of all) here k x rest) in
    let first : one_block b k here line (block_text (goal_of all) here k x ++ rest)
    ≡ Ok (block_with (h here) x, lines_after line x, rest) =
    block_again b (goal_of all) here (h here) (a here) k line x rest f.0 (omega (arith, m)) (omega (
      arith,
      c,
      sum,
    )) (rest_no_row all (suc k) xs) in
    let longer : all ≡ (pre ++ x ∷ []) ++ xs = e ∙ sym (append_assoc pre (x ∷ []) xs) in
    let size : suc k ≡ length (pre ++ x ∷ []) = longer_by pre x k l in
    let next : here + chunks x ≡ sum_by chunks (pre ++ x ∷ []) = summed pre x here s in
    let more : blocks_in b n (suc k) (here + chunks x) (lines_after line x) rest
    ≡ Ok (blocks_with h (here + chunks x) xs) =
    blocks_again b all h a n (suc k) (lines_after line x) (here + chunks x)
    (pre ++ x ∷ []) xs longer size next f.1
    (omega (arith, t)) (omega (arith, m)) (omega (arith, c, sum)) in
    let one : k + 1 ≡ suc k = omega arith in
    let chunks_same : chunks (block_with (h here) x) ≡ chunks x = same_chunks (h here) x in
    ap (blocks_in b (suc n) k here line) text ∙ opened ∙ rw (first, one, chunks_same, more) refl
  where
    longer_by : (pre : List Block) (x : Block) (k : ℕ) → k ≡ length pre
        → suc k ≡ length (pre ++ x ∷ [])
    longer_by [] x k l = omega (arith, l)
    longer_by (p ∷ pre) x k l =
        let r : suc (length pre) ≡ length (pre ++ x ∷ []) = longer_by pre x (length pre) refl in omega (arith, l, r)

    summed : (pre : List Block) (x : Block) (here : ℕ) → here ≡ sum_by chunks pre → here + chunks x
        ≡ sum_by chunks (pre ++ x ∷ [])
    summed pre x here s =
        let a : sum_by chunks (pre ++ x ∷ [])
        ≡ sum_by chunks pre + sum_by chunks (x ∷ []) = sum_by-append chunks pre (x ∷ []) in
        let b : sum_by chunks (x ∷ []) ≡ chunks x + sum_by chunks [] = sum_by-cons chunks x [] in
        let z : sum_by chunks [] ≡ 0 = refl in
        omega (arith, a, b, s, z)
