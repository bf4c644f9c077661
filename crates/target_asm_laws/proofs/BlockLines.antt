-- What the reading of the lines of blocks leads to.
use Rattle.std.proofs.Common.{◌≡◌, ℕ, zero, suc, ◌+◌, ◌*◌, ◌<◌, ◌≤◌, max, List, [], ◌∷◌, ◌++◌, length}
use Rattle.std.proofs.Common.{refl, sym, ap, subst, ◌∙◌, arith, append_assoc, Option, Some, None}
use Rattle.std.proofs.Common.{true}
use Rattle.std.specs.Prelude.{ℤ, pos, nat_le, get_or, codes, Result, Ok, Err}
use Rattle.std.proofs.lemmas.Bool.{leb-true, le-leb}
use Rattle.std.proofs.lemmas.List.{append-nil, length-append}
use Rattle.trips_isa.specs.declared.block.ReadSlot.{ReadSlot}
use Rattle.trips_isa.specs.declared.block.Block.{Block}
use Rattle.trips_isa.specs.Images.{chunks, body_chunks}
use Rattle.trips_isa.specs.Limits.{most_chunks}
use Rattle.target_asm_spec.specs.declared.fault.AsmFault.{AsmFault}
use Rattle.target_asm_spec.specs.declared.fault.AsmFault.TheVariants as fault
use Rattle.target_asm_spec.specs.declared.spelled.Goal.{Goal}
use Rattle.target_asm_spec.specs.declared.spelled.SpelledBlock.{SpelledBlock}
use Rattle.target_asm_spec.specs.declared.spelled.SpelledRead.{SpelledRead}
use Rattle.target_asm_spec.specs.declared.spelled.SpelledWrite.{SpelledWrite}
use Rattle.target_asm_spec.specs.inside.Registers.{block_line_in}
use Rattle.target_asm_spec.specs.inside.Blocks.{begins, is_place, Begins, one_read}
use Rattle.target_asm_spec.specs.inside.Blocks.{reads_in, one_write, writes_in, slots_in, head_in, block_of}
use Rattle.target_asm_spec.specs.inside.Blocks.{one_block, blocks_in}
use Rattle.target_asm_spec.specs.inside.Whole.{chunks_from}
use Rattle.target_asm_spec.specs.Lines.{read_words, write_words, block_words}
use Rattle.target_asm_spec.specs.LinePlaces.{Line, line_words, Place, after, IsNext, MayStand, InFields}
use Rattle.target_asm_spec.specs.LinePlaces as line
use Rattle.target_asm_spec.specs.FirstAsmFault.{NoLine}
use Rattle.target_asm_spec.proofs.Bodies.{some_body}
use Rattle.target_asm_laws.proofs.Rows.{place_is}
use Rattle.target_asm_laws.proofs.SlotLines.{begun}
use Rattle.target_asm_laws.proofs.Numerals.{capped_z}
use Rattle.target_asm_laws.proofs.FaultRows.{block_read, IsBlockOf, block_of_text}
use Rattle.target_asm_laws.proofs.Operands.{same_item}
use Rattle.target_asm_laws.proofs.Leads.{Aim, syntax, range, Goes, goes, step_some, step_wants}
use Rattle.target_asm_laws.proofs.Leads.{moved, at_once, by_line, fails}
use Rattle.target_asm_laws.proofs.FaultRegisters.{none_some, clash, found, exactly, at_place, AfterRead}
use Rattle.target_asm_laws.proofs.FaultRegisters.{read_goes, AfterWrite, write_goes, RowsEnd, RowsMore, rows_go}
use Rattle.target_asm_laws.proofs.SlotLines.{Aims, NoRead, NoWrite, NoInst, SlotsAt, SlotsEnd, slots_go}

-- ---- the line of a block

-- between two blocks, or before the first
pub record Between (k here : ℕ) (p : Place) (text : List ℕ) : Type 0 where
  pub count : length p.begins ≡ k
  pub end : p.here + p.size ≡ here
  pub no_read : NoRead p text
  pub no_write : NoWrite p text
  pub no_inst : NoInst p text

pub record AfterHead (p : Place) (here at : ℕ) (x : ℕ × List ℕ) (q : Place) (m : ℕ)
    (rest : List ℕ) : Type 0 where
  pub place : q ≡ record {
    begins = p.begins ++ here ∷ [];
    here = here;
    size = 2;
    next_read = Some 0;
    next_write = Some 0;
    next_slot = Some 0;
  }
  pub left : x.1 ≡ rest
  pub line : m ≡ at + 1
  pub room : here + 2 ≤ most_chunks

no_block : (k here c : ℕ) (p : Place) (cs text : List ℕ) → text ≡ c ∷ cs → Between k here p text
    → ((z : ℤ) (mask : ℕ) (more : List ℕ) → MayStand p (line.block z mask)
    → text ≡ block_words z mask more → ⊥)
    → NoLine p text
unfolding line_words
no_block k here c p cs text e a h = record {
  wanted = λ n. absurd (let w : length (c ∷ cs) ≡ 0 = ap length (sym e ∙ n) in omega (arith, w));
  none = by;
}
  where
    by : (l : Line) (more : List ℕ) → MayStand p l → text ≡ line_words l more → ⊥
    by (line.read s) more st is = a.no_read s more st is
    by (line.write s) more st is = a.no_write s more st is
    by (line.inst s) more st is = a.no_inst s more st is
    by (line.block z m) more st is = h z m more st is

block_stands : (k here : ℕ) (p : Place) (text : List ℕ) (s : SpelledBlock × List ℕ)
    (r : IsBlockOf text s) → Between k here p text → k < 1000000000
    → is_place s.0.number k ≡ true → MayStand p (line.block r.k s.0.mask)
block_stands k here p text s r a l h = (
  exactly r.k k l (r.same ∙ place_is s.0.number k h) ∙ ap pos (sym a.count),
  r.mask,
)

head_goes : (G : Aim) (B : ℕ → Goal → Type 0) (k here at c : ℕ) (p : Place) (cs text : List ℕ)
    → text ≡ c ∷ cs → Between k here p text → k < 1000000000 → G p.here None
    → Goes G B p at text (AfterHead p here at) (head_in k here at text)
unfolding head_in line_words
head_goes G B k here at c p cs text e a l g =
    let S = AfterHead p here at in
    step_some G B p at text S (block_line_in text) (fault.Syntax at) _
    (λ none. fails G B p at text (fault.Syntax at) (syntax (no_block k here c p cs text e a
    (λ z mask more st is. none_some (block_line_in text) (record { number = capped_z z; mask = mask }, more)
    none (ap block_line_in is ∙ block_read z mask more st.1))))) (λ s f.
    let r : IsBlockOf text s = found (IsBlockOf text) (block_line_in text) s (block_of_text text) f in
    step_wants G B p at text S (is_place s.0.number k) (fault.Syntax at) _
    (λ wrong. fails G B p at text (fault.Syntax at) (syntax (no_block k here c p cs text e a
    (λ z mask more st is.
    let same : s.0 ≡ record { number = capped_z z; mask = mask } =
    same_item s.0 (record { number = capped_z z; mask = mask }) s.1 more
    (sym f ∙ ap block_line_in is ∙ block_read z mask more st.1) in
    clash (is_place s.0.number k)
    (ap (λ (x : SpelledBlock). is_place x.number k) same
    ∙ at_place z k l (st.0 ∙ ap pos a.count)) wrong)))) (λ h.
    let stands = block_stands k here p text s r a l h in
    step_wants G B p at text S (nat_le (here + 2) most_chunks) (fault.Range at) _
    (λ wrong. fails G B p at text (fault.Range at) (range (record {
      line = line.block r.k s.0.mask;
      more = s.1;
      stands = stands;
      is = r.is;
      outside = λ z. clash (nat_le (here + 2) most_chunks)
          (le-leb (here + 2) most_chunks (subst (λ (n : ℕ). n + 2 ≤ most_chunks) a.end z)) wrong;
    }))) (λ room.
    let within = leb-true (here + 2) most_chunks room in
    by_line G B p at text S (s.0.mask, s.1) (line.block r.k s.0.mask) s.1 stands
    (subst (λ (n : ℕ). n + 2 ≤ most_chunks) (sym a.end) within) g r.is (record {
      place = ap (λ (n : ℕ). record {
        begins = p.begins ++ n ∷ [];
        here = n;
        size = 2;
        next_read = Some 0;
        next_write = Some 0;
        next_slot = Some 0;
      }) a.end;
      left = refl;
      line = refl;
      room = within;
    }))))

-- ---- the rows of a block

abbrev rows_place : List ℕ → ℕ → ℕ → Place
rows_place bs here i = record {
  begins = bs;
  here = here;
  size = 2;
  next_read = Some i;
  next_write = Some 0;
  next_slot = Some 0;
}

record WritesAt (bs : List ℕ) (here : ℕ) (p : Place) (j : ℕ) (text : List ℕ) : Type 0 where
  begins : p.begins ≡ bs
  here_is : p.here ≡ here
  size : p.size ≡ 2
  write : p.next_write ≡ Some j
  slot : p.next_slot ≡ Some 0
  no_read : NoRead p text

read_begins : (s : SpelledRead) (more text : List ℕ) → text ≡ line_words (line.read s) more
    → begins (codes "R[") text ≡ true
unfolding line_words read_words
read_begins s more text e = ap (begins (codes "R[")) e ∙ begun (codes "R[") _

write_begins : (s : SpelledWrite) (more text : List ℕ) → text ≡ line_words (line.write s) more
    → begins (codes "W[") text ≡ true
unfolding line_words write_words
write_begins s more text e = ap (begins (codes "W[")) e ∙ begun (codes "W[") _

-- nothing is asked of a line that goes nowhere
abbrev pub Free : Aim → Type 0
Free G = (here : ℕ) → G here None

reads_one : (G : Aim) (B : ℕ → Goal → Type 0) → Free G → (bs : List ℕ) (here : ℕ) (p : Place)
    (i at : ℕ) (text : List ℕ) → p ≡ rows_place bs here i → i ≤ 32
    → begins (codes "R[") text ≡ true
    → Goes G B p at text (RowsMore (λ q j t. q ≡ rows_place bs here j) at i) (one_read i at text)
reads_one G B free bs here p i at text e l b =
    weaker (one_read i at text)
    (read_goes G B p i at text (free p.here) (ap (λ (x : Place). x.next_read) e) l b)
  where
    weaker : (r : Result (ReadSlot × List ℕ) AsmFault) → Goes G B p at text (AfterRead p i at) r
        → Goes G B p at text (RowsMore (λ q j t. q ≡ rows_place bs here j) at i) r
    weaker (Err f) h = h
    weaker (Ok x) h =
        let one : suc i ≡ i + 1 = omega arith in
        record {
          q = h.q;
          n = h.n;
          rest = h.rest;
          led = h.led;
          holds = record {
            left = h.holds.1;
            line = h.holds.2;
            below = h.holds.3;
            more = h.holds.0 ∙ ap (λ (y : Place). record y { next_read = Some (suc i) }) e
                ∙ ap (rows_place bs here) one;
          };
        }

writes_one : (G : Aim) (B : ℕ → Goal → Type 0) → Free G → (bs : List ℕ) (here : ℕ) (p : Place)
    (j at : ℕ) (text : List ℕ) → WritesAt bs here p j text → j ≤ 32
    → begins (codes "W[") text ≡ true
    → Goes G B p at text (RowsMore (WritesAt bs here) at j) (one_write j at text)
writes_one G B free bs here p j at text a l b =
    weaker (one_write j at text) (write_goes G B p j at text (free p.here) a.write l b)
  where
    weaker : (r : Result (ℕ × List ℕ) AsmFault) → Goes G B p at text (AfterWrite p j at) r
        → Goes G B p at text (RowsMore (WritesAt bs here) at j) r
    weaker (Err f) h = h
    weaker (Ok x) h =
        let one : suc j ≡ j + 1 = omega arith in
        let e : h.q ≡ record p { next_read = None; next_write = Some (suc j) } = h.holds.0 in
        record {
          q = h.q;
          n = h.n;
          rest = h.rest;
          led = h.led;
          holds = record {
            left = h.holds.1;
            line = h.holds.2;
            below = h.holds.3;
            more = record {
              begins = ap (λ (y : Place). y.begins) e ∙ a.begins;
              here_is = ap (λ (y : Place). y.here) e ∙ a.here_is;
              size = ap (λ (y : Place). y.size) e ∙ a.size;
              write = ap (λ (y : Place). y.next_write) e ∙ ap (λ (n : ℕ). Some n) one;
              slot = ap (λ (y : Place). y.next_slot) e ∙ a.slot;
              no_read = λ s more st is.
                  subst (λ (o : Option ℕ). IsNext o s.number) (ap (λ (y : Place). y.next_read) e) st.0;
            };
          };
        }

-- ---- one block

pub record BlockEnd (bs : List ℕ) (here : ℕ) (x : Block × ℕ × List ℕ) (q : Place) (m : ℕ)
    (rest : List ℕ) : Type 0 where
  pub begins : q.begins ≡ bs ++ here ∷ []
  pub end : q.here + q.size ≡ here + chunks x.0
  pub room : here + chunks x.0 ≤ most_chunks
  pub line : x.1 ≡ m
  pub left : x.2 ≡ rest
  pub no_read : NoRead q rest
  pub no_write : NoWrite q rest
  pub no_inst : NoInst q rest

block_goes : (G : Aim) (B : ℕ → Goal → Type 0) (b : Begins) → Free G → Aims G B b
    → (k here at c : ℕ) (p : Place) (cs text : List ℕ) → text ≡ c ∷ cs
    → Between k here p text → k < 1000000000
    → Goes G B p at text (BlockEnd p.begins here) (one_block b k here at text)
unfolding one_block reads_in writes_in
block_goes G B b free aims k here at c p cs text e a l =
    let S = BlockEnd p.begins here in
    let bs : List ℕ = p.begins ++ here ∷ [] in
    goes G B p at text (AfterHead p here at) S (head_in k here at text) _
    (head_goes G B k here at c p cs text e a l (free p.here)) (λ h q m rest d.
    moved G B q q (at + 1) m h.1 rest S _ refl (sym d.line) d.left
    (goes G B q (at + 1) h.1 (RowsEnd (λ r j t. r ≡ rows_place bs here j) (codes "R[")) S
    (reads_in (at + 1) h.1) _
    (rows_go G B (λ r j t. r ≡ rows_place bs here j) (codes "R[") one_read
    (reads_one G B free bs here) 33 q 0 (at + 1) h.1 d.place (omega arith) refl) (λ rs r n u f.
    moved G B r r rs.1 n rs.2 u S _ refl f.line f.left
    (goes G B r rs.1 rs.2 (RowsEnd (WritesAt bs here) (codes "W[")) S (writes_in rs.1 rs.2) _
    (rows_go G B (WritesAt bs here) (codes "W[") one_write (writes_one G B free bs here) 33 r 0 rs.1
    rs.2 (record {
      begins = ap (λ (y : Place). y.begins) f.at;
      here_is = ap (λ (y : Place). y.here) f.at;
      size = ap (λ (y : Place). y.size) f.at;
      write = ap (λ (y : Place). y.next_write) f.at;
      slot = ap (λ (y : Place). y.next_slot) f.at;
      no_read = λ s more st is. clash (begins (codes "R[") rs.2) (read_begins s more rs.2 is)
          (ap (begins (codes "R[")) f.left ∙ f.none);
    }) (omega arith) refl) (λ ws w o v g.
    moved G B w w ws.1 o ws.2 v S _ refl g.line g.left
    (goes G B w ws.1 ws.2 (SlotsEnd bs here 0 2) S (slots_in b here 129 0 ws.1 ws.2) _
    (slots_go G B b aims bs here 129 0 2 ws.1 w ws.2
    (subst (SlotsAt bs here 0 2 w) (sym g.left) (record {
      begins = g.at.begins;
      here_is = g.at.here_is;
      size = g.at.size;
      some = omega arith;
      small = omega arith;
      room = d.room;
      slot = g.at.slot;
      no_read = g.at.no_read;
      no_write = λ s more st is. clash (begins (codes "W[") v) (write_begins s more v is) g.none;
    })) (omega arith) (omega arith)) (λ ss y z t j.
    let one : 1 ≤ body_chunks 0 ss.0 = some_body 0 ss.0 in
    let size : y.size ≡ max 2 (1 + body_chunks 0 ss.0) = j.size in
    let start : y.here ≡ here = j.here_is in
    let room : here + y.size ≤ most_chunks = j.room in
    let chunk : y.size ≡ 1 + body_chunks 0 ss.0 = omega (arith, size, one) in
    at_once G B y z t S (block_of h.0 rs.0 ws.0 ss.0, ss.1, ss.2) (record {
      begins = j.begins;
      end = ap (λ (n : ℕ). n + y.size) start ∙ ap (λ (n : ℕ). here + n) chunk;
      room = subst (λ (n : ℕ). here + n ≤ most_chunks) chunk room;
      line = j.line;
      left = j.left;
      no_read = j.no_read;
      no_write = j.no_write;
      no_inst = j.no_inst;
    }))))))))

-- ---- all blocks

-- where the lines of blocks end: behind the last block, with the chunks at which blocks begin
pub record BlocksEnd (bs : List ℕ) (here : ℕ) (x : List Block) (q : Place) (m : ℕ)
    (rest : List ℕ) : Type 0 where
  pub begins : q.begins ≡ bs ++ chunks_from here x
  pub near : (k : ℕ) → k < length (chunks_from here x) → get_or (chunks_from here x) k 0 ≤ 524286
  pub left : rest ≡ []

near_more : (c : ℕ) (cs : List ℕ) → c ≤ 524286
    → ((k : ℕ) → k < length cs → get_or cs k 0 ≤ 524286)
    → (k : ℕ) → k < length (c ∷ cs) → get_or (c ∷ cs) k 0 ≤ 524286
near_more c cs l h zero w = l
near_more c cs l h (suc k) w = h k (omega (arith, w))

-- the reading of the lines of blocks leads to their end, or to a fault
pub blocks_go : (G : Aim) (B : ℕ → Goal → Type 0) (b : Begins) → Free G → Aims G B b
    → (turns k here at : ℕ) (p : Place) (text : List ℕ) → Between k here p text
    → k + turns ≡ 262145 → 2 * k ≤ here → here ≤ most_chunks
    → Goes G B p at text (BlocksEnd p.begins here) (blocks_in b turns k here at text)
unfolding blocks_in
blocks_go G B b free aims zero k here at p text a t s l = absurd (omega (arith, t, s, l))
blocks_go G B b free aims (suc n) k here at p [] a t s l =
    at_once G B p at [] (BlocksEnd p.begins here) []
    (record {
      begins = sym (append-nil p.begins);
      near = λ k w. absurd (omega (arith, w));
      left = refl;
    })
blocks_go G B b free aims (suc n) k here at p (c ∷ cs) a t s l =
    let S = BlocksEnd p.begins here in
    let text : List ℕ = c ∷ cs in
    goes G B p at text (BlockEnd p.begins here) S (one_block b k here at text) _
    (block_goes G B b free aims k here at c p cs text refl a (omega (arith, t))) (λ x q m rest d.
    let room : here + chunks x.0 ≤ most_chunks = d.room in
    let two : 1 ≤ body_chunks 0 x.0.insts.items = some_body 0 x.0.insts.items in
    moved G B q q x.1 m x.2 rest S _ refl d.line d.left
    (goes G B q x.1 x.2 (BlocksEnd q.begins (here + chunks x.0)) S
    (blocks_in b n (k + 1) (here + chunks x.0) x.1 x.2) _
    (blocks_go G B b free aims n (k + 1) (here + chunks x.0) x.1 q x.2
    (subst (Between (k + 1) (here + chunks x.0) q) (sym d.left) (record {
      count =
          let c = a.count in
          ap length d.begins ∙ omega (arith, length-append p.begins (here ∷ []), c);
      end = d.end;
      no_read = d.no_read;
      no_write = d.no_write;
      no_inst = d.no_inst;
    })) (omega (arith, t)) (omega (arith, s, two)) room) (λ ys r o u f.
    at_once G B r o u S (x.0 ∷ ys) (record {
      begins = f.begins ∙ ap (λ (w : List ℕ). w ++ chunks_from (here + chunks x.0) ys) d.begins
          ∙ append_assoc p.begins (here ∷ []) (chunks_from (here + chunks x.0) ys);
      near = near_more here (chunks_from (here + chunks x.0) ys) (omega (arith, room, two)) f.near;
      left = f.left;
    }))))
