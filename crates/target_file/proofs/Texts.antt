-- Nothing is left out of the text of an image.
use Rattle.std.proofs.Common.{◌≡◌, ℕ, zero, suc, ◌+◌, ◌/◌, ◌%◌, ◌<◌, List, [], ◌∷◌, ◌++◌, append_assoc}
use Rattle.std.proofs.Common.{length, refl, sym, ap, subst, ◌∙◌, arith, Bool, true, false, Option, Some, None}
use Rattle.std.specs.Prelude.{◌==◌, ◌||◌, nat_lt, if◌then◌else◌, codes, ℤ, pos, negsuc, ◌+ℤ◌}
use Rattle.std.specs.Fmt.{decimal, signed_decimal, digits, digits_onto, digit_glyph}
use Rattle.std.proofs.lemmas.Bool.{lt-ltb}
use Rattle.std.proofs.lemmas.List.{append-nil}
use Rattle.std.proofs.Common.{◌⊎◌, inl, inr, eq-eqb}
use Rattle.trips_isa.specs.declared.op.Op.{Op}
use Rattle.trips_isa.specs.declared.op.Op.TheVariants as op
use Rattle.trips_isa.specs.declared.form.Form.{Form}
use Rattle.trips_isa.specs.declared.form.Form.TheVariants as form
use Rattle.trips_isa.specs.declared.block.Spot.{Spot}
use Rattle.trips_isa.specs.declared.block.Spot.TheVariants as spot
use Rattle.trips_isa.specs.declared.block.Sense.{Sense}
use Rattle.trips_isa.specs.declared.block.Sense.TheVariants.{Always, OnTrue, OnFalse}
use Rattle.trips_isa.specs.declared.block.Inst.{Inst}
use Rattle.trips_isa.specs.declared.block.ReadSlot.{ReadSlot}
use Rattle.trips_isa.specs.declared.block.Block.{Block}
use Rattle.trips_isa.specs.declared.block.Image.{Image}
use Rattle.trips_isa.specs.Forms.{form_of}
use Rattle.trips_isa.specs.Images.{chunk_of}
use Rattle.isa_table.specs.Mnemonics.{mnemonic_of}
use Rattle.isa_table.specs.Spots.{indexed, at_slot, spot_text}
use Rattle.target_asm_spec.specs.Numbers.{hex_digit, hex_byte, hex_word, numbered}
use Rattle.target_asm_spec.specs.Fields.{target_text, sense_text, goal_text, branch_text, numbers_text}
use Rattle.target_asm_spec.specs.Text.{read_line, write_line, op_text, targets_text, inst_line, slot_text}
use Rattle.target_asm_spec.specs.Text.{block_line, block_text, block_in, data_end, byte_text, head_lines}
use Rattle.target_asm_spec.specs.Text.{goal_of, image_text, TargetText}
use Rattle.target_file.specs.Bare.{bare}
use Rattle.target_file.proofs.Turns.{bare_none}
use Rattle.target_file.proofs.Lines.{inner, solid, solid_inner, ends, line, Tail, ends_front, ends_after}
use Rattle.target_file.proofs.Lines.{ends_inners, line_front, line_after, line_of, tail_of, feed_tail, line_stays}

or_true : (a b : Bool) → b ≡ true → (a || b) ≡ false → ⊥
or_true true true e f = cc
or_true true false e f = cc
or_true false true e f = cc
or_true false false e f = cc

-- numbers ----------------------------------------------------------------------------------------

above : (c : ℕ) → 35 < c → solid c ≡ true
above c l = lt-ltb 35 c l

glyph : (d : ℕ) → solid (digit_glyph false d) ≡ true
glyph d = go (nat_lt d 10)
  where
    go : (b : Bool) → solid (if b then 48 + d else (if false then 55 + d else 87 + d)) ≡ true
    go true = above (48 + d) (omega arith)
    go false = above (87 + d) (omega arith)

digits_end : (k n : ℕ) (acc : List ℕ) → ends acc ≡ true → ends (digits_onto k 10 false n acc) ≡ true
digits_end zero n acc h = h
digits_end (suc k) n acc h =
    let more : ends (digit_glyph false (n % 10) ∷ acc) ≡ true = ends_front (digit_glyph false (n % 10)) acc
    (solid_inner (digit_glyph false (n % 10)) (glyph (n % 10))) h in
    go (n / 10 == 0) more (digits_end k (n / 10) (digit_glyph false (n % 10) ∷ acc) more)
  where
    go : (b : Bool) → ends (digit_glyph false (n % 10) ∷ acc) ≡ true
        → ends (digits_onto k 10 false (n / 10) (digit_glyph false (n % 10) ∷ acc)) ≡ true
        → ends (if b then digit_glyph false (n % 10) ∷ acc
        else digits_onto k 10 false (n / 10) (digit_glyph false (n % 10) ∷ acc)) ≡ true
    go true x y = x
    go false x y = y

first_digits : (k n : ℕ) → ends (digits_onto (suc k) 10 false n []) ≡ true
first_digits k n = go (n / 10 == 0)
  where
    go : (b : Bool) → ends (if b then digit_glyph false (n % 10) ∷ []
        else digits_onto k 10 false (n / 10) (digit_glyph false (n % 10) ∷ [])) ≡ true
    go true = glyph (n % 10)
    go false = digits_end k (n / 10) (digit_glyph false (n % 10) ∷ []) (glyph (n % 10))

decimal_ends : (n : ℕ) → ends (decimal n) ≡ true
unfolding digits
decimal_ends n = first_digits 63 n

signed_ends : (z : ℤ) → ends (signed_decimal z) ≡ true
signed_ends (pos n) = decimal_ends n
signed_ends (negsuc n) = ends_front 45 (decimal (suc n)) refl (decimal_ends (suc n))

hex_solid : (d : ℕ) → solid (hex_digit d) ≡ true
hex_solid d = go (nat_lt d 10)
  where
    go : (b : Bool) → solid (if b then 48 + d else 87 + d) ≡ true
    go true = above (48 + d) (omega arith)
    go false = above (87 + d) (omega arith)

pub byte_ends : (b : ℕ) → ends (hex_byte b) ≡ true
byte_ends b = ends_front (hex_digit (b / 16)) (hex_digit (b % 16) ∷ [])
    (solid_inner (hex_digit (b / 16)) (hex_solid (b / 16))) (hex_solid (b % 16))

joined : (u v : List ℕ) → ends u ≡ true → ends v ≡ true → ends (u ++ v) ≡ true
joined u v a b = ends_after u v (ends_inners u a) b

word_ends : (w : ℕ) → ends (hex_word w) ≡ true
unfolding hex_word
word_ends w =
    let a = byte_ends (w / 16777216) in
    let b = byte_ends (w / 65536 % 256) in
    let c = byte_ends (w / 256 % 256) in
    let d = byte_ends (w % 256) in
    joined (hex_byte (w / 16777216)) (hex_byte (w / 65536 % 256) ++ (hex_byte (w / 256 % 256) ++ hex_byte (w % 256)))
    a (joined (hex_byte (w / 65536 % 256)) (hex_byte (w / 256 % 256) ++ hex_byte (w % 256))
    b (joined (hex_byte (w / 256 % 256)) (hex_byte (w % 256)) c d))

-- fields -----------------------------------------------------------------------------------------

indexed_ends : (letter n : ℕ) → inner letter ≡ true → ends (indexed letter n) ≡ true
unfolding indexed
indexed_ends letter n i =
    ends_front letter (91 ∷ (decimal n ++ 93 ∷ [])) i (ends_front 91 (decimal n ++ 93 ∷ []) refl
    (ends_after (decimal n) (93 ∷ []) (ends_inners (decimal n) (decimal_ends n)) refl))

slot_ends : (place n : ℕ) → inner place ≡ true → ends (at_slot place n) ≡ true
unfolding at_slot
slot_ends place n i =
    let behind : ends (44 ∷ place ∷ 93 ∷ []) ≡ true =
    ends_front 44 (place ∷ 93 ∷ []) refl (ends_front place (93 ∷ []) i refl) in
    ends_front 78 (91 ∷ (decimal n ++ 44 ∷ place ∷ 93 ∷ [])) refl
    (ends_front 91 (decimal n ++ 44 ∷ place ∷ 93 ∷ []) refl
    (ends_after (decimal n) (44 ∷ place ∷ 93 ∷ []) (ends_inners (decimal n) (decimal_ends n)) behind))

spot_ends : (s : Spot) → ends (spot_text s) ≡ true
spot_ends (spot.Read r) = indexed_ends 82 r refl
spot_ends (spot.Inst s) = indexed_ends 78 s refl
spot_ends (spot.Left s) = slot_ends 48 s refl
spot_ends (spot.Right s) = slot_ends 49 s refl
spot_ends (spot.Pred s) = slot_ends 112 s refl
spot_ends (spot.Write w) = indexed_ends 87 w refl
spot_ends (spot.Store n) = indexed_ends 83 n refl

-- a field after a space, in front of what may end a line
spaced_tail : (u v : List ℕ) → ends u ≡ true → Tail v → Tail (32 ∷ (u ++ v))
spaced_tail u v h t = tail_of (32 ∷ (u ++ v)) (line_front 32 (u ++ v) refl (line_of u v h t))

target_tail : (t : Option Spot) (v : List ℕ) → Tail v → Tail (target_text t ++ v)
target_tail None v h = h
target_tail (Some s) v h = spaced_tail (spot_text s) v (spot_ends s) h

sense_tail : (s : Sense) (v : List ℕ) → Tail v → Tail (sense_text s ++ v)
unfolding sense_text
sense_tail Always v h = h
sense_tail OnTrue v h = tail_of (codes "_t" ++ v) (line_of (codes "_t") v refl h)
sense_tail OnFalse v h = tail_of (codes "_f" ++ v) (line_of (codes "_f") v refl h)

goal_tail : (goal : Option ℕ) (offset : ℤ) (v : List ℕ) → Tail v → Tail (32 ∷ (goal_text goal offset ++ v))
goal_tail (Some k) offset v h = spaced_tail (64 ∷ decimal k) v (ends_front 64 (decimal k) refl (decimal_ends k)) h
goal_tail None offset v h =
    spaced_tail (33 ∷ signed_decimal offset) v (ends_front 33 (signed_decimal offset) refl (signed_ends offset)) h

branch_tail : (o : Op) (goal : Option ℕ) (offset : ℤ) (v : List ℕ) → Tail v
    → Tail (branch_text o goal offset ++ v)
branch_tail op.Bro goal offset v h = goal_tail goal offset v h
branch_tail op.Callo goal offset v h = goal_tail goal offset v h
branch_tail _ goal offset v h = h

two_tail : (n : ℕ) (z : ℤ) (v : List ℕ) → Tail v → Tail (32 ∷ ((decimal n ++ 32 ∷ signed_decimal z) ++ v))
two_tail n z v h =
    spaced_tail (decimal n ++ 32 ∷ signed_decimal z) v (ends_after (decimal n) (32 ∷ signed_decimal z)
    (ends_inners (decimal n) (decimal_ends n)) (ends_front 32 (signed_decimal z) refl (signed_ends z))) h

numbers_tail : (f : Form) (i : Inst) (goal : Option ℕ) (v : List ℕ) → Tail v → Tail (numbers_text f i goal ++ v)
numbers_tail form.General i goal v h = h
numbers_tail form.Immediate i goal v h = spaced_tail (signed_decimal i.imm) v (signed_ends i.imm) h
numbers_tail form.Constant i goal v h = spaced_tail (signed_decimal i.imm) v (signed_ends i.imm) h
numbers_tail form.Load i goal v h = two_tail i.number i.imm v h
numbers_tail form.Store i goal v h = two_tail i.number i.imm v h
numbers_tail form.Branch i goal v h =
    subst (λ (t : List ℕ). Tail (32 ∷ t)) (sym (append_assoc (decimal i.number) (branch_text i.op goal i.imm) v))
    (spaced_tail (decimal i.number) (branch_text i.op goal i.imm ++ v) (decimal_ends i.number)
    (branch_tail i.op goal i.imm v h))

mnemonic_ends : (o : Op) → ends (mnemonic_of o) ≡ true
unfolding mnemonic_of
mnemonic_ends op.Add = refl
mnemonic_ends _ = refl

-- lines ------------------------------------------------------------------------------------------

targets_tail : (i : Inst) → Tail (targets_text i)
unfolding targets_text
targets_tail i = target_tail i.first (target_text i.second ++ 10 ∷ []) (target_tail i.second (10 ∷ []) feed_tail)

op_line : (i : Inst) (goal : Option ℕ) (v : List ℕ) → Tail v → line (op_text i goal ++ v) ≡ true
unfolding op_text
op_line i goal v h =
    let numbers = numbers_text (form_of i.op) i goal in
    subst (λ (t : List ℕ). line t ≡ true)
    (ap (λ (t : List ℕ). mnemonic_of i.op ++ t) (sym (append_assoc (sense_text i.sense) numbers v))
    ∙ sym (append_assoc (mnemonic_of i.op) (sense_text i.sense ++ numbers) v))
    (line_of (mnemonic_of i.op) (sense_text i.sense ++ (numbers ++ v)) (mnemonic_ends i.op)
    (sense_tail i.sense (numbers ++ v) (numbers_tail (form_of i.op) i goal v h)))

is_line_inst : (s : ℕ) (i : Inst) (goal : Option ℕ) → line (inst_line s i goal) ≡ true
unfolding inst_line
is_line_inst s i goal =
    line_after (indexed 78 s) (32 ∷ (op_text i goal ++ targets_text i))
    (ends_inners (indexed 78 s) (indexed_ends 78 s refl))
    (line_front 32 (op_text i goal ++ targets_text i) refl (op_line i goal (targets_text i) (targets_tail i)))

is_line_read : (i : ℕ) (r : ReadSlot) → line (read_line i r) ≡ true
unfolding read_line
is_line_read i r =
    let last = target_text (Some r.first) ++ (target_text r.second ++ 10 ∷ []) in
    let tail : Tail last = target_tail (Some r.first) (target_text r.second ++ 10 ∷ [])
    (target_tail r.second (10 ∷ []) feed_tail) in
    line_after (indexed 82 i) (codes " read " ++ (indexed 71 r.register ++ last))
    (ends_inners (indexed 82 i) (indexed_ends 82 i refl))
    (line_after (codes " read ") (indexed 71 r.register ++ last) refl
    (line_of (indexed 71 r.register) last (indexed_ends 71 r.register refl) tail))

is_line_write : (i register : ℕ) → line (write_line i register) ≡ true
unfolding write_line
is_line_write i register =
    line_after (indexed 87 i) (codes " write " ++ (indexed 71 register ++ 10 ∷ []))
    (ends_inners (indexed 87 i) (indexed_ends 87 i refl))
    (line_after (codes " write ") (indexed 71 register ++ 10 ∷ []) refl
    (line_of (indexed 71 register) (10 ∷ []) (indexed_ends 71 register refl) feed_tail))

is_line_block : (k mask : ℕ) → line (block_line k mask) ≡ true
unfolding block_line
is_line_block k mask =
    line_after (codes "block ") (decimal k ++ (codes " mask " ++ (hex_word mask ++ 10 ∷ []))) refl
    (line_after (decimal k) (codes " mask " ++ (hex_word mask ++ 10 ∷ []))
    (ends_inners (decimal k) (decimal_ends k))
    (line_after (codes " mask ") (hex_word mask ++ 10 ∷ []) refl
    (line_of (hex_word mask) (10 ∷ []) (word_ends mask) feed_tail)))

-- texts ------------------------------------------------------------------------------------------

-- nothing is left out of the front of a text, whatever follows it
abbrev pub Stays : List ℕ → Type 0
Stays u = (rest : List ℕ) → bare (u ++ rest) ≡ u ++ bare rest

stays_line : (w : List ℕ) → line w ≡ true → Stays w
stays_line w l = λ rest. line_stays w rest l

stays_both : (u v : List ℕ) → Stays u → Stays v → Stays (u ++ v)
stays_both u v a b = λ rest.
    ap bare (append_assoc u v rest) ∙ a (v ++ rest) ∙ ap (λ (t : List ℕ). u ++ t) (b rest)
    ∙ sym (append_assoc u v (bare rest))

stays_numbered : {A : Type 0} (f : ℕ → A → List ℕ) (k : ℕ) (xs : List A) → ((i : ℕ) (x : A) → Stays (f i x))
    → Stays (numbered f k xs)
stays_numbered f k [] h = λ rest. refl
stays_numbered f k (x ∷ xs) h =
    stays_both (f k x) (numbered f (suc k) xs) (h k x) (stays_numbered f (suc k) xs h)

stays_slot : (goal : ℤ → Option ℕ) (here s : ℕ) (i : Option Inst) → Stays (slot_text goal here s i)
stays_slot goal here s None = λ rest. refl
stays_slot goal here s (Some i) =
    stays_line (inst_line s i (goal (pos here +ℤ i.imm))) (is_line_inst s i (goal (pos here +ℤ i.imm)))

stays_block : (goal : ℤ → Option ℕ) (here k : ℕ) (b : Block) → Stays (block_text goal here k b)
unfolding block_text
stays_block goal here k b =
    let reads = numbered read_line 0 b.reads.items in
    let writes = numbered write_line 0 b.writes.items in
    let slots = numbered (slot_text goal here) 0 b.insts.items in
    stays_both (block_line k b.mask) (reads ++ (writes ++ slots))
    (stays_line (block_line k b.mask) (is_line_block k b.mask))
    (stays_both reads (writes ++ slots)
    (stays_numbered read_line 0 b.reads.items (λ i r. stays_line (read_line i r) (is_line_read i r)))
    (stays_both writes slots
    (stays_numbered write_line 0 b.writes.items (λ i r. stays_line (write_line i r) (is_line_write i r)))
    (stays_numbered (slot_text goal here) 0 b.insts.items (λ s i. stays_slot goal here s i))))

-- data bytes behind those that stand on their line
stays_bytes : (count at : ℕ) (bs front : List ℕ) → at + length bs ≡ count → (front ≡ []) ⊎ (ends front ≡ true)
    → (bs ≡ [] → front ≡ []) → Stays (front ++ numbered (byte_text count) at bs)
unfolding byte_text
stays_bytes count at [] front n h e = λ rest.
    ap (λ (f : List ℕ). bare ((f ++ []) ++ rest)) (e refl)
    ∙ ap (λ (f : List ℕ). (f ++ []) ++ bare rest) (sym (e refl))
stays_bytes count at (b ∷ bs) front n h e =
    let more = numbered (byte_text count) (suc at) bs in
    subst Stays (append_assoc front (hex_byte b) (data_end count at ++ more)
    ∙ ap (λ (t : List ℕ). front ++ t) (sym (append_assoc (hex_byte b) (data_end count at) more)))
    (go (((at + 1) % 32 == 0) || (at + 1 == count)) refl
    (stays_bytes count (suc at) bs [] (omega (arith, n)) (inl refl) (λ z. refl))
    (stays_bytes count (suc at) bs (front ++ hex_byte b) (omega (arith, n)) (inr (one h))))
  where
    one : (front ≡ []) ⊎ (ends front ≡ true) → ends (front ++ hex_byte b) ≡ true
    one (inl z) = subst (λ (f : List ℕ). ends (f ++ hex_byte b) ≡ true) (sym z) (byte_ends b)
    one (inr l) = joined front (hex_byte b) l (byte_ends b)

    -- the last byte of all ends its line
    not_last : (x : Bool) → (x || (at + 1 == count)) ≡ false → bs ≡ [] → ⊥
    not_last x f z =
        let last : at + 1 ≡ count = subst (λ (ds : List ℕ). at + length (b ∷ ds) ≡ count) z n in
        absurd (or_true x (at + 1 == count) (eq-eqb (at + 1) count last) f)

    go : (x : Bool) → (((at + 1) % 32 == 0) || (at + 1 == count)) ≡ x
        → Stays (numbered (byte_text count) (suc at) bs)
        → ((bs ≡ [] → front ++ hex_byte b ≡ [])
        → Stays ((front ++ hex_byte b) ++ numbered (byte_text count) (suc at) bs))
        → Stays ((front ++ hex_byte b) ++ ((if x then 10 ∷ [] else []) ++ numbered (byte_text count) (suc at) bs))
    go true t others on =
        let more = numbered (byte_text count) (suc at) bs in
        let full = (front ++ hex_byte b) ++ 10 ∷ [] in
        subst Stays (append_assoc (front ++ hex_byte b) (10 ∷ []) more)
        (stays_both full more (stays_line full (line_of (front ++ hex_byte b) (10 ∷ []) (one h) feed_tail)) others)
    go false f others on = on (λ z. absurd (not_last ((at + 1) % 32 == 0) f z))

stays_head : (count : ℕ) → Stays (head_lines count)
unfolding head_lines
stays_head count =
    stays_both (codes "trips 1\n") (codes "data " ++ (decimal count ++ 10 ∷ []))
    (stays_line (codes "trips 1\n") refl)
    (stays_line (codes "data " ++ (decimal count ++ 10 ∷ []))
    (line_after (codes "data ") (decimal count ++ 10 ∷ []) refl
    (line_of (decimal count) (10 ∷ []) (decimal_ends count) feed_tail)))

stays_image : (i : Image) → Stays (image_text i)
stays_image i =
    let count = length i.bytes in
    let bytes = numbered (byte_text count) 0 i.bytes in
    let blocks = numbered (block_in i.blocks) 0 i.blocks in
    stays_both (head_lines count) (bytes ++ blocks) (stays_head count)
    (stays_both bytes blocks (stays_bytes count 0 i.bytes [] (omega arith) (inl refl) (λ z. refl))
    (stays_numbered (block_in i.blocks) 0 i.blocks
    (λ k b. stays_block (goal_of i.blocks) (chunk_of i.blocks k) k b)))

-- nothing is left out of the text of an image
pub image_bare : (i : Image) → bare (image_text i) ≡ image_text i
image_bare i =
    ap bare (sym (append-nil (image_text i))) ∙ stays_image i []
    ∙ ap (λ (t : List ℕ). image_text i ++ t) bare_none ∙ append-nil (image_text i)

pub text_bare : (i : Image) (text : List ℕ) → TargetText i text → bare text ≡ text
text_bare i text h = subst (λ (t : List ℕ). bare t ≡ t) (sym h.spelled) (image_bare i)
