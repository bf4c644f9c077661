-- A text that is read twice, with other tables of where blocks begin, gives blocks of as many
-- chunks.
use Rattle.std.proofs.Common.{◌≡◌, ℕ, zero, suc, ◌+◌, ◌-◌, ◌/◌, max, List, [], ◌∷◌, ◌++◌}
use Rattle.std.proofs.Common.{refl, sym, ap, subst, ◌∙◌, Bool, true, false, Option, Some}
use Rattle.std.specs.Prelude.{nat_le, codes, Result, Ok, Err, if◌then◌else◌}
use Rattle.trips_isa.specs.declared.block.Inst.{Inst}
use Rattle.trips_isa.specs.declared.block.Block.{Block}
use Rattle.trips_isa.specs.Images.{body_chunks, chunks}
use Rattle.trips_isa.specs.Limits.{most_chunks}
use Rattle.target_asm_spec.specs.inside.Chunks.{start_row, start_rows}
use Rattle.target_asm_spec.specs.declared.fault.AsmFault.{AsmFault}
use Rattle.target_asm_spec.specs.declared.fault.AsmFault.TheVariants.{Syntax, Range}
use Rattle.target_asm_spec.specs.Reading.{field_in}
use Rattle.target_asm_spec.specs.inside.Instructions.{inst_in}
use Rattle.target_asm_spec.specs.Judging.{inst_of}
use Rattle.target_asm_spec.specs.inside.Blocks.{◌>>>◌, or_fault, wants, begins, in_turn, Begins, aimed, gap}
use Rattle.target_asm_spec.specs.inside.Blocks.{one_inst, slots_in, head_in, reads_in, writes_in, one_block}
use Rattle.target_asm_spec.specs.inside.Blocks.{blocks_in}
use Rattle.target_asm_spec.specs.inside.Whole.{chunks_from, begins_of}
use Rattle.target_asm_laws.proofs.Binds.{Holds}
use Rattle.target_asm_laws.proofs.Slots.{gap_chunks}

-- R holds of what both give
abbrev pub Both : {A B : Type 0} → (A → B → Type 0) → Result A AsmFault → Result B AsmFault
    → Type 0
Both R (Ok x) (Ok y) = R x y
Both R (Ok x) (Err e) = Unit {0}
Both R (Err e) y = Unit {0}

both : {A B C D : Type 0} (R : A → B → Type 0) (S : C → D → Type 0) (x : Result A AsmFault)
    (y : Result B AsmFault) (f : A → Result C AsmFault) (g : B → Result D AsmFault)
    → Both R x y → ((v : A) (w : B) → R v w → Both S (f v) (g w)) → Both S (x >>> f) (y >>> g)
both R S (Ok v) (Ok w) f g p q = q v w p
both R S (Ok v) (Err e) f g p q = by (f v)
  where
    by : (r : Result _ AsmFault) → Both S r (Err e)
    by (Ok x) = tt
    by (Err d) = tt
both R S (Err e) y f g p q = tt

-- the same reading, and then two
same : {A C D : Type 0} (S : C → D → Type 0) (x : Result A AsmFault)
    (f : A → Result C AsmFault) (g : A → Result D AsmFault)
    → ((v : A) → Both S (f v) (g v)) → Both S (x >>> f) (x >>> g)
same S (Ok v) f g q = q v
same S (Err e) f g q = tt

abbrev Any : {A B : Type 0} → A → B → Type 0
Any x y = Unit {0}

any : {A B : Type 0} (x : Result A AsmFault) (y : Result B AsmFault) → Both {A = A} {B = B} Any x y
any (Ok x) (Ok y) = tt
any (Ok x) (Err e) = tt
any (Err e) y = tt

both_fork : {A B : Type 0} (R : A → B → Type 0) (k : Bool) (x x2 : Result A AsmFault)
    (y y2 : Result B AsmFault) → Both R x y → Both R x2 y2
    → Both R (if k then x else x2) (if k then y else y2)
both_fork R true x x2 y y2 p q = p
both_fork R false x x2 y y2 p q = q

-- ---- slots

abbrev SameInst : ℕ × Inst × List ℕ → ℕ × Inst × List ℕ → Type 0
SameInst p q = (p.0 ≡ q.0) × (p.2 ≡ q.2)

inst_same : (b d : Begins) (here next line : ℕ) (text : List ℕ)
    → Both SameInst (one_inst b here next line text) (one_inst d here next line text)
unfolding one_inst
inst_same b d here next line text =
    same SameInst (or_fault (Syntax line) (inst_in text)) _ _ (λ s.
    same SameInst (wants (in_turn next s.0.slot) (Syntax line)) _ _ (λ u.
    same SameInst (or_fault (Range line) (field_in s.0.slot 128)) _ _ (λ slot.
    same SameInst (or_fault (Range line) (inst_of s.0)) _ _ (λ i.
    same SameInst (wants (nat_le (here + 2 + slot / 32) most_chunks) (Range line)) _ _ (λ v.
    both Any SameInst (aimed b here line s.0.numbers.goal i.imm)
    (aimed d here line s.0.numbers.goal i.imm) _ _
    (any (aimed b here line s.0.numbers.goal i.imm) (aimed d here line s.0.numbers.goal i.imm))
    (λ x y p. (refl, refl)))))))

abbrev SameSlots : List (Option Inst) × ℕ × List ℕ → List (Option Inst) × ℕ × List ℕ → Type 0
SameSlots p q =
    ((j : ℕ) → body_chunks j p.0 ≡ body_chunks j q.0) × (p.1 ≡ q.1) × (p.2 ≡ q.2)

slots_end : (next slot line1 line2 : ℕ) (i k : Inst) (ss us : List (Option Inst)) (t u : List ℕ)
    → SameSlots (ss, line1, t) (us, line2, u)
    → SameSlots (gap next slot ++ Some i ∷ ss, line1, t) (gap next slot ++ Some k ∷ us, line2, u)
slots_end next slot line1 line2 i k ss us t u h = (
  λ j.
      let n : ℕ = slot - next in
      gap_chunks j n (Some i ∷ ss)
      ∙ ap (λ (m : ℕ). max ((j + n) / 32 + 1) m) (h.0 (suc (j + n)))
      ∙ sym (gap_chunks j n (Some k ∷ us)),
  h.1,
  h.2,
)

slots_same : (b d : Begins) (here turns next line : ℕ) (text : List ℕ)
    → Both SameSlots (slots_in b here turns next line text) (slots_in d here turns next line text)
unfolding slots_in
slots_same b d here zero next line text = tt
slots_same b d here (suc n) next line text =
    both_fork SameSlots (begins (codes "N[") text) _ _ _ _
    (both SameInst SameSlots (one_inst b here next line text) (one_inst d here next line text) _ _
    (inst_same b d here next line text) (λ p q e.
    subst (λ (t : List ℕ). Both SameSlots
    (slots_in b here n (p.0 + 1) (line + 1) p.2
    >>> λ ss. Ok (gap next p.0 ++ Some p.1 ∷ ss.0, ss.1, ss.2))
    (slots_in d here n (q.0 + 1) (line + 1) t
    >>> λ ss. Ok (gap next q.0 ++ Some q.1 ∷ ss.0, ss.1, ss.2))) e.1
    (subst (λ (m : ℕ). Both SameSlots
    (slots_in b here n (p.0 + 1) (line + 1) p.2
    >>> λ ss. Ok (gap next p.0 ++ Some p.1 ∷ ss.0, ss.1, ss.2))
    (slots_in d here n (m + 1) (line + 1) p.2
    >>> λ ss. Ok (gap next m ++ Some q.1 ∷ ss.0, ss.1, ss.2))) e.0
    (both SameSlots SameSlots (slots_in b here n (p.0 + 1) (line + 1) p.2)
    (slots_in d here n (p.0 + 1) (line + 1) p.2) _ _
    (slots_same b d here n (p.0 + 1) (line + 1) p.2) (λ v w h.
    slots_end next p.0 v.1 w.1 p.1 q.1 v.0 w.0 v.2 w.2 h)))))
    (λ j. refl, refl, refl)

-- ---- blocks

abbrev SameBlock : Block × ℕ × List ℕ → Block × ℕ × List ℕ → Type 0
SameBlock p q = (chunks p.0 ≡ chunks q.0) × (p.1 ≡ q.1) × (p.2 ≡ q.2)

block_same : (b d : Begins) (k here line : ℕ) (text : List ℕ)
    → Both SameBlock (one_block b k here line text) (one_block d k here line text)
unfolding one_block
block_same b d k here line text =
    same SameBlock (head_in k here line text) _ _ (λ h.
    same SameBlock (reads_in (line + 1) h.1) _ _ (λ rs.
    same SameBlock (writes_in rs.1 rs.2) _ _ (λ ws.
    both SameSlots SameBlock (slots_in b here 129 0 ws.1 ws.2) (slots_in d here 129 0 ws.1 ws.2)
    _ _ (slots_same b d here 129 0 ws.1 ws.2)
    (λ p q e. (ap (λ (n : ℕ). 1 + n) (e.0 0), e.1, e.2)))))

-- as many blocks, each of as many chunks
abbrev pub SameChunks : List Block → List Block → Type 0
SameChunks [] [] = Unit {0}
SameChunks (x ∷ xs) (y ∷ ys) = (chunks x ≡ chunks y) × SameChunks xs ys
SameChunks [] (y ∷ ys) = ⊥
SameChunks (x ∷ xs) [] = ⊥

moved : (d : Begins) (n k h1 h2 l1 l2 : ℕ) (t1 t2 : List ℕ) (x : Result (List Block) AsmFault)
    → h1 ≡ h2 → l1 ≡ l2 → t1 ≡ t2 → Both SameChunks x (blocks_in d n k h1 l1 t1)
    → Both SameChunks x (blocks_in d n k h2 l2 t2)
moved d n k h1 h2 l1 l2 t1 t2 x p q r s =
    subst (λ (t : List ℕ). Both SameChunks x (blocks_in d n k h2 l2 t)) r
    (subst (λ (l : ℕ). Both SameChunks x (blocks_in d n k h2 l t1)) q
    (subst (λ (h : ℕ). Both SameChunks x (blocks_in d n k h l1 t1)) p s))

-- a text that is read with two tables gives blocks of the same chunks
pub blocks_same : (b d : Begins) (turns k here line : ℕ) (text : List ℕ)
    → Both SameChunks (blocks_in b turns k here line text) (blocks_in d turns k here line text)
unfolding blocks_in
blocks_same b d zero k here line text = tt
blocks_same b d (suc n) k here line [] = tt
blocks_same b d (suc n) k here line (c ∷ cs) =
    both SameBlock SameChunks (one_block b k here line (c ∷ cs)) (one_block d k here line (c ∷ cs))
    _ _ (block_same b d k here line (c ∷ cs)) (λ p q e.
    both SameChunks SameChunks (blocks_in b n (k + 1) (here + chunks p.0) p.1 p.2)
    (blocks_in d n (k + 1) (here + chunks q.0) q.1 q.2) _ _
    (moved d n (k + 1) (here + chunks p.0) (here + chunks q.0) p.1 q.1 p.2 q.2
    (blocks_in b n (k + 1) (here + chunks p.0) p.1 p.2)
    (ap (λ (m : ℕ). here + m) e.0) e.1 e.2
    (blocks_same b d n (k + 1) (here + chunks p.0) p.1 p.2))
    (λ xs ys h. (e.0, h)))

-- what the second reading gives agrees with what the first gave
pub agrees : {A B : Type 0} (R : A → B → Type 0) (x : Result A AsmFault) (y : Result B AsmFault)
    (v : A) → x ≡ Ok v → Both R x y → Holds (R v) y
agrees R x y v e h = by y (subst (λ (r : Result _ AsmFault). Both R r y) e h)
  where
    by : (r : Result _ AsmFault) → Both R (Ok v) r → Holds (R v) r
    by (Ok w) p = p
    by (Err d) p = tt

-- ---- so they begin at the same chunks

same_chunks : (here : ℕ) (xs ys : List Block) → SameChunks xs ys
    → chunks_from here xs ≡ chunks_from here ys
same_chunks here [] [] h = refl
same_chunks here [] (y ∷ ys) h = absurd h
same_chunks here (x ∷ xs) [] h = absurd h
same_chunks here (x ∷ xs) (y ∷ ys) h =
    ap (λ (n : ℕ). here ∷ chunks_from (here + n) xs) h.0
    ∙ ap (λ (l : List ℕ). here ∷ l) (same_chunks (here + chunks y) xs ys h.1)

same_starts : (k : ℕ) (xs ys : List Block) → SameChunks xs ys → start_rows k xs ≡ start_rows k ys
same_starts k [] [] h = refl
same_starts k [] (y ∷ ys) h = absurd h
same_starts k (x ∷ xs) [] h = absurd h
same_starts k (x ∷ xs) (y ∷ ys) h =
    ap (λ (n : ℕ). start_row k n ++ start_rows (suc k) xs) h.0
    ∙ ap (λ (l : List ℕ). start_row k (chunks y) ++ l) (same_starts (suc k) xs ys h.1)

-- blocks of the same chunks begin at the same chunks
pub same_begins : (xs ys : List Block) → SameChunks xs ys → begins_of xs ≡ begins_of ys
same_begins xs ys h =
    ap (λ (c : List ℕ). record { known = true; chunks = c; starts = start_rows 0 xs })
    (same_chunks 0 xs ys h)
    ∙ ap (λ (s : List ℕ). record { known = true; chunks = chunks_from 0 ys; starts = s })
    (same_starts 0 xs ys h)
