-- The lines of blocks that are read, when it is known where blocks begin, are their text.
use Rattle.std.proofs.Common.{◌≡◌, ℕ, zero, suc, ◌+◌, ◌<◌, ◌≤◌, List, [], ◌∷◌, ◌++◌, length}
use Rattle.std.proofs.Common.{refl, sym, ap, ◌∙◌, arith, append_assoc, true}
use Rattle.std.proofs.Common.{Option}
use Rattle.std.specs.Prelude.{ℤ, pos, nat_le, codes, All}
use Rattle.std.specs.List.{sum_by}
use Rattle.std.specs.Fmt.{decimal, signed_decimal}
use Rattle.std.proofs.lemmas.Bool.{leb-true}
use Rattle.std.proofs.lemmas.List.Elements.{All-nil, All-cons}
use Rattle.std.proofs.lemmas.List.Sums.{sum_by-cons}
use Rattle.trips_isa.specs.declared.block.Inst.{Inst}
use Rattle.trips_isa.specs.declared.block.ReadSlot.{ReadSlot}
use Rattle.trips_isa.specs.declared.block.Block.{Block}
use Rattle.trips_isa.specs.Fits.{FitsSlot, FitsRead, FitsBlock}
use Rattle.trips_isa.specs.Images.{body_chunks, chunks}
use Rattle.trips_isa.specs.Limits.{most_chunks}
use Rattle.target_asm_spec.specs.Numbers.{numbered, hex_word}
use Rattle.target_asm_spec.specs.Text.{block_line, read_line, write_line, slot_text, block_text}
use Rattle.target_asm_spec.specs.declared.fault.AsmFault.TheVariants.{Syntax, Range}
use Rattle.target_asm_spec.specs.declared.spelled.SpelledBlock.{SpelledBlock}
use Rattle.target_asm_spec.specs.inside.Registers.{block_line_in}
use Rattle.target_asm_spec.specs.inside.Blocks.{or_fault, wants, is_place, Begins, reads_in}
use Rattle.target_asm_spec.specs.inside.Blocks.{writes_in, slots_in, head_in, block_of, one_block, blocks_in}
use Rattle.target_asm_spec.proofs.Each.{Each}
use Rattle.target_asm_laws.proofs.Binds.{Holds, chain, or_holds, wanted}
use Rattle.target_asm_laws.proofs.Registers.{IsBlockLine, block_line_is}
use Rattle.target_asm_laws.proofs.Rows.{AreRows, place_is, place_small, reads_are, FitsWrite}
use Rattle.target_asm_laws.proofs.Rows.{writes_are}
use Rattle.target_asm_laws.proofs.Aims.{Told}
use Rattle.target_asm_laws.proofs.Slots.{goals, AreSlots, slots_are}

-- what holds of each item holds of all
pub all_of : {A : Type 0} (P : A → Type 0) (xs : List A) → Each P xs → All P xs
all_of P [] f = All-nil P
all_of P (x ∷ xs) f = All-cons P x xs f.0 (all_of P xs f.1)

-- ---- one block

pub record IsHead (k here : ℕ) (text : List ℕ) (r : ℕ × List ℕ) : Type 0 where
  pub mask : r.0 < 4294967296
  pub room : here + 2 ≤ most_chunks
  pub is : text ≡ block_line k r.0 ++ r.1

block_words_are : (k mask : ℕ) (rest : List ℕ) → block_line k mask ++ rest
    ≡ codes "block " ++ (decimal k ++ (codes " mask " ++ (hex_word mask ++ 10 ∷ rest)))
unfolding block_line
block_words_are k mask rest = simp append_assoc refl

head_text : (k : ℕ) (text rest : List ℕ) (s : SpelledBlock) → k < 999999999
    → IsBlockLine text (s, rest) → s.number ≡ pos k → text ≡ block_line k s.mask ++ rest
head_text k text rest s l a e =
    a.spells (place_small s.number k e l)
    ∙ ap (λ (z : ℤ). codes "block " ++ (signed_decimal z
    ++ (codes " mask " ++ (hex_word s.mask ++ 10 ∷ rest)))) e
    ∙ sym (block_words_are k s.mask rest)

head_is : (k here line : ℕ) (text : List ℕ) → k < 999999999
    → Holds (IsHead k here text) (head_in k here line text)
unfolding head_in
head_is k here line text l =
    let Q = IsHead k here text in
    chain (IsBlockLine text) Q (or_fault (Syntax line) (block_line_in text)) _
    (or_holds (IsBlockLine text) (Syntax line) (block_line_in text) (block_line_is text)) (λ s a.
    chain (λ u. is_place s.0.number k ≡ true) Q (wants (is_place s.0.number k) (Syntax line)) _
    (wanted (is_place s.0.number k) (Syntax line)) (λ u e.
    chain (λ v. nat_le (here + 2) most_chunks ≡ true) Q (wants (nat_le (here + 2) most_chunks) (Range line)) _
    (wanted (nat_le (here + 2) most_chunks) (Range line)) (λ v m. record {
      mask = a.mask;
      room = leb-true (here + 2) most_chunks m;
      is = head_text k text s.1 s.0 l a (place_is s.0.number k e);
    })))

pub record IsBlock (b : Begins) (k here : ℕ) (text : List ℕ) (r : Block × ℕ × List ℕ) : Type 0 where
  pub fits : FitsBlock r.0
  pub room : here + chunks r.0 ≤ most_chunks
  pub is : text ≡ block_text (goals b) here k r.0 ++ r.2

block_is : (b : Begins) (k here line1 line2 line3 mask : ℕ) (text t1 t2 t3 t4 : List ℕ)
    (rs : List ReadSlot) (ws : List ℕ) (ss : List (Option Inst))
    → IsHead k here text (mask, t1) → AreRows read_line FitsRead 0 t1 (rs, line1, t2)
    → AreRows write_line FitsWrite 0 t2 (ws, line2, t3)
    → AreSlots b here 0 t3 (ss, line3, t4)
    → IsBlock b k here text (block_of mask rs ws ss, line3, t4)
unfolding block_text
block_is b k here line1 line2 line3 mask text t1 t2 t3 t4 rs ws ss h r w s =
    let room : here + 1 + body_chunks 0 ss ≤ most_chunks = s.room in
    let small : mask < 4294967296 = h.mask in
    let few_reads : 0 + length rs ≤ 32 = r.few in
    let few_writes : 0 + length ws ≤ 32 = w.few in
    let size : 0 + length ss ≡ 128 = s.size in
    let within : here + (1 + body_chunks 0 ss) ≤ most_chunks = omega (arith, room) in
    record {
      fits = record {
        reads = omega (arith, few_reads);
        each_read = all_of FitsRead rs r.each;
        writes = omega (arith, few_writes);
        each_write = all_of FitsWrite ws w.each;
        mask = omega (arith, small);
        insts = omega (arith, size);
        each_inst = all_of FitsSlot ss s.each;
      };
      room = within;
      is =
          h.is ∙ ap (λ (t : List ℕ). block_line k mask ++ t) (r.is
          ∙ ap (λ (t : List ℕ). numbered read_line 0 rs ++ t) (w.is
          ∙ ap (λ (t : List ℕ). numbered write_line 0 ws ++ t) s.is))
          ∙ sym (four_parts (block_line k mask) (numbered read_line 0 rs)
          (numbered write_line 0 ws) (numbered (slot_text (goals b) here) 0 ss) t4);
    }
  where
    four_parts : (a b c d rest : List ℕ) → (a ++ (b ++ (c ++ d))) ++ rest
        ≡ a ++ (b ++ (c ++ (d ++ rest)))
    four_parts a b c d rest =
        append_assoc a (b ++ (c ++ d)) rest
        ∙ ap (λ (t : List ℕ). a ++ t) (append_assoc b (c ++ d) rest
        ∙ ap (λ (t : List ℕ). b ++ t) (append_assoc c d rest))

pub one_block_is : (b : Begins) (k here line : ℕ) (text : List ℕ) → Told b → k < 999999999
    → Holds (IsBlock b k here text) (one_block b k here line text)
unfolding one_block
one_block_is b k here line text t l =
    let Q = IsBlock b k here text in
    chain (IsHead k here text) Q (head_in k here line text) _ (head_is k here line text l) (λ h p.
    chain (AreRows read_line FitsRead 0 h.1) Q (reads_in (line + 1) h.1) _
    (reads_are (line + 1) h.1) (λ rs r.
    chain (AreRows write_line FitsWrite 0 rs.2) Q (writes_in rs.1 rs.2) _
    (writes_are rs.1 rs.2) (λ ws w.
    chain (AreSlots b here 0 ws.2) Q (slots_in b here 129 0 ws.1 ws.2) _
    (slots_are b here t p.room 129 0 ws.1 ws.2 (omega arith)) (λ ss s.
    block_is b k here rs.1 ws.1 ss.1 h.0 text h.1 rs.2 ws.2 ss.2 rs.0 ws.0 ss.0 p r w s))))

-- ---- all blocks

-- the texts of blocks, of which the first has number k and begins at `here`
abbrev pub texts_from : (ℤ → Option ℕ) → ℕ → ℕ → List Block → List ℕ
texts_from goal here k [] = []
texts_from goal here k (b ∷ bs) =
    block_text goal here k b ++ texts_from goal (here + chunks b) (suc k) bs

-- blocks that were read: each fits, there is room for all, and the text is theirs
pub record AreBlocks (b : Begins) (k here : ℕ) (text : List ℕ) (bs : List Block) : Type 0 where
  pub each : Each FitsBlock bs
  pub total : here + sum_by chunks bs ≤ most_chunks
  pub is : text ≡ texts_from (goals b) here k bs

blocks_more : (b : Begins) (k here line : ℕ) (text t : List ℕ) (x : Block) (bs : List Block)
    → IsBlock b k here text (x, line, t) → AreBlocks b (k + 1) (here + chunks x) t bs
    → AreBlocks b k here text (x ∷ bs)
blocks_more b k here line text t x bs p q =
    let one : k + 1 ≡ suc k = omega arith in
    let sum : sum_by chunks (x ∷ bs) ≡ chunks x + sum_by chunks bs = sum_by-cons chunks x bs in
    let rest : here + chunks x + sum_by chunks bs ≤ most_chunks = q.total in
    record {
      each = (p.fits, q.each);
      total = omega (arith, rest, sum);
      is =
          p.is ∙ ap (λ (u : List ℕ). block_text (goals b) here k x ++ u) (q.is
          ∙ ap (λ (m : ℕ). texts_from (goals b) (here + chunks x) m bs) one);
    }

-- the lines that are read as blocks are the text of these blocks
pub blocks_are : (b : Begins) → Told b → (turns k here line : ℕ) (text : List ℕ)
    → k + turns ≤ 999999999 → here ≤ most_chunks
    → Holds (AreBlocks b k here text) (blocks_in b turns k here line text)
unfolding blocks_in
blocks_are b t zero k here line text l h = tt
blocks_are b t (suc n) k here line [] l h =
    let none : sum_by chunks [] ≡ 0 = refl in
    record { each = tt; total = omega (arith, h, none); is = refl }
blocks_are b t (suc n) k here line (c ∷ cs) l h =
    let text : List ℕ = c ∷ cs in
    chain (IsBlock b k here text) (AreBlocks b k here text) (one_block b k here line text) _
    (one_block_is b k here line text t (omega (arith, l))) (λ x p.
    chain (AreBlocks b (k + 1) (here + chunks x.0) x.2) (AreBlocks b k here text)
    (blocks_in b n (k + 1) (here + chunks x.0) x.1 x.2) _
    (blocks_are b t n (k + 1) (here + chunks x.0) x.1 x.2 (omega (arith, l)) p.room) (λ bs q.
    blocks_more b k here x.1 text x.2 x.0 bs p q))
