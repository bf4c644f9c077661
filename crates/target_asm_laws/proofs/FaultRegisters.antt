-- What the reading of the lines of reads and writes leads to.
use Rattle.std.proofs.Common.{◌≡◌, ℕ, zero, suc, ◌+◌, ◌<◌, ◌≤◌, List, [], ◌∷◌, refl, sym, ap}
use Rattle.std.proofs.Common.{subst, ◌∙◌, arith, Option, Some, None, Bool, true, false, eq-eqb}
use Rattle.std.specs.Prelude.{ℤ, pos, negsuc, ◌==◌, nat_lt, get_or, is_some, codes, Result, Ok}
use Rattle.std.specs.Prelude.{if◌then◌else◌}
use Rattle.std.proofs.lemmas.Bool.{eqb-true, lt-ltb, ltb-true}
use Rattle.trips_isa.specs.declared.block.ReadSlot.{ReadSlot}
use Rattle.target_asm_spec.specs.declared.fault.AsmFault.{AsmFault}
use Rattle.target_asm_spec.specs.declared.fault.AsmFault.TheVariants as fault
use Rattle.target_asm_spec.specs.declared.spelled.Goal.{Goal}
use Rattle.target_asm_spec.specs.declared.spelled.SpelledRead.{SpelledRead}
use Rattle.target_asm_spec.specs.declared.spelled.SpelledWrite.{SpelledWrite}
use Rattle.target_asm_spec.specs.Reading.{field_in}
use Rattle.target_asm_spec.specs.inside.Reading.{after_in}
use Rattle.target_asm_spec.specs.Registers.{read_of}
use Rattle.target_asm_spec.specs.inside.Registers.{read_in, write_line_in}
use Rattle.target_asm_spec.specs.inside.Blocks.{◌>>>◌, begins, is_place, lines_in, one_read}
use Rattle.target_asm_spec.specs.inside.Blocks.{one_write}
use Rattle.target_asm_spec.specs.Lines.{read_words, write_words}
use Rattle.target_asm_spec.specs.LinePlaces.{Line, line_words, Place, after, size_of, IsNext, MayStand}
use Rattle.target_asm_spec.specs.LinePlaces.{Below, InFields}
use Rattle.target_asm_spec.specs.LinePlaces as line
use Rattle.target_asm_spec.specs.FirstAsmFault.{NoLine, BadNumber}
use Rattle.target_asm_laws.proofs.Binds.{If}
use Rattle.target_asm_laws.proofs.Digits.{InField, field_is}
use Rattle.target_asm_laws.proofs.Rows.{place_is}
use Rattle.target_asm_laws.proofs.Numerals.{capped, capped_small, capped_z}
use Rattle.target_asm_laws.proofs.FaultRows.{capped_read, read_read, IsReadOf, read_of_text}
use Rattle.target_asm_laws.proofs.Operands.{same_item}
use Rattle.target_asm_laws.proofs.FaultRows.{capped_write, write_line_read, IsWriteOf, write_of_text}
use Rattle.target_asm_laws.proofs.Capped.{same_capped, field_capped, read_capped}
use Rattle.target_asm_laws.proofs.OneLine.{letter, letter_is}
use Rattle.target_asm_laws.proofs.Leads.{Aim, syntax, range, Goes, goes, step_some, step_wants}
use Rattle.target_asm_laws.proofs.Leads.{step_if, moved, at_once, by_line, fails}

-- ---- what cannot be

-- none is not some
pub none_some : {A : Type 0} (o : Option A) (x : A) → o ≡ None → o ≡ Some x → ⊥
none_some None x a b = absurd cc
none_some (Some y) x a b = absurd cc

-- a test is not true and false
pub clash : (b : Bool) → b ≡ true → b ≡ false → ⊥
clash true x y = absurd cc
clash false x y = absurd cc

-- what holds of an answer holds of what it is
pub found : {A : Type 0} (P : A → Type 0) (o : Option A) (x : A) → If P o → o ≡ Some x → P x
found P o x h e = subst (If P) e h

-- a number that is read as that of a place is that
pub exactly : (z : ℤ) (i : ℕ) → i < 1000000000 → capped_z z ≡ pos i → z ≡ pos i
exactly (pos n) i l e = ap pos (same_capped i l n (ap size_of e))
exactly (negsuc n) i l e = absurd cc

-- and the number of a place is read as that
pub at_place : (z : ℤ) (i : ℕ) → i < 1000000000 → z ≡ pos i → is_place (capped_z z) i ≡ true
at_place z i l e =
    ap (λ (x : ℤ). is_place (capped_z x) i) e ∙ eq-eqb (capped i) i (capped_small i l)

-- ---- the first letter of a text

-- a text that begins with a word begins with its first letter
pub first_letter : (c : ℕ) (cs text : List ℕ) → begins (c ∷ cs) text ≡ true → get_or text 0 0 ≡ c
unfolding after_in
first_letter c cs [] e = absurd cc
first_letter c cs (d ∷ ds) e = by (c == d) refl e
  where
    by : (b : Bool) → (c == d) ≡ b
        → is_some (if b then after_in cs ds else None) ≡ true → d ≡ c
    by true q e = sym (eqb-true c d q)
    by false q e = absurd cc

-- no line may stand where none of this letter does
pub only_kind : (p : Place) (text : List ℕ) (c : ℕ) → get_or text 0 0 ≡ c → 0 < c
    → ((l : Line) (more : List ℕ) → letter l ≡ c → MayStand p l → text ≡ line_words l more → ⊥)
    → NoLine p text
only_kind p text c e s h = record {
  wanted = λ n. let z : get_or text 0 0 ≡ 0 = ap (λ (t : List ℕ). get_or t 0 0) n in
      absurd (omega (arith, z, e, s));
  none = λ l more st is.
      h l more (sym (letter_is l more) ∙ ap (λ (t : List ℕ). get_or t 0 0) (sym is) ∙ e) st is;
}

-- ---- the line of a read

no_read : (p : Place) (text : List ℕ) → get_or text 0 0 ≡ 82
    → ((s : SpelledRead) (more : List ℕ) → MayStand p (line.read s) → text ≡ read_words s more → ⊥)
    → NoLine p text
unfolding line_words
no_read p text e h = only_kind p text 82 e (omega arith) by
  where
    by : (l : Line) (more : List ℕ) → letter l ≡ 82 → MayStand p l → text ≡ line_words l more → ⊥
    by (line.read s) more c st is = h s more st is
    by (line.write s) more c st is = absurd (omega (arith, c))
    by (line.inst s) more c st is = absurd (omega (arith, c))
    by (line.block k m) more c st is = absurd (omega (arith, c))

-- what is left after the line of read i
abbrev pub AfterRead : Place → ℕ → ℕ → ReadSlot × List ℕ → Place → ℕ → List ℕ → Type 0
AfterRead p i at x q m rest =
    (q ≡ record p { next_read = Some (suc i) }) × (x.1 ≡ rest) × (m ≡ at + 1) × (i < 32)

read_number : (text : List ℕ) (i : ℕ) (s : SpelledRead × List ℕ) (r : IsReadOf text s) → i ≤ 32
    → is_place s.0.number i ≡ true → r.s.number ≡ pos i
read_number text i s r l e = exactly r.s.number i (omega (arith, l))
    (ap (λ (x : SpelledRead). x.number) r.same ∙ place_is s.0.number i e)

read_stands : (p : Place) (text : List ℕ) (i : ℕ) (s : SpelledRead × List ℕ) (r : IsReadOf text s)
    → p.next_read ≡ Some i → r.s.number ≡ pos i → MayStand p (line.read r.s)
read_stands p text i s r e n = (subst (λ (o : Option ℕ). IsNext o r.s.number) (sym e) n, r.fits)

bad_read : (p : Place) (text : List ℕ) (i : ℕ) (s : SpelledRead × List ℕ) (r : IsReadOf text s)
    → p.next_read ≡ Some i → r.s.number ≡ pos i → (InFields p (line.read r.s) → ⊥)
    → BadNumber p text
unfolding line_words
bad_read p text i s r e n out = record {
  line = line.read r.s;
  more = s.1;
  stands = read_stands p text i s r e n;
  is = r.is;
  outside = out;
}

-- no read is spelled, or one of another number
not_read : (p : Place) (text : List ℕ) (i : ℕ) → p.next_read ≡ Some i → i ≤ 32
    → get_or text 0 0 ≡ 82 → read_in text ≡ None → NoLine p text
not_read p text i e l c none = no_read p text c (λ s more st is.
    none_some (read_in text) (capped_read s, more) none (ap read_in is ∙ read_read s more st.1))

other_read : (p : Place) (text : List ℕ) (i : ℕ) (s : SpelledRead × List ℕ) → p.next_read ≡ Some i
    → i ≤ 32 → get_or text 0 0 ≡ 82 → read_in text ≡ Some s → is_place s.0.number i ≡ false
    → NoLine p text
other_read p text i s e l c f wrong = no_read p text c (λ r more st is.
    let same : s.0 ≡ capped_read r = same_item s.0 (capped_read r) s.1 more
    (sym f ∙ ap read_in is ∙ read_read r more st.1) in
    let n : r.number ≡ pos i = subst (λ (o : Option ℕ). IsNext o r.number) e st.0 in
    clash (is_place s.0.number i)
    (ap (λ (x : SpelledRead). is_place x.number i) same ∙ at_place r.number i (omega (arith, l)) n)
    wrong)

-- the reading of the line of a read leads behind it, or to a fault
pub read_goes : (G : Aim) (B : ℕ → Goal → Type 0) (p : Place) (i at : ℕ) (text : List ℕ)
    → G p.here None → p.next_read ≡ Some i → i ≤ 32 → begins (codes "R[") text ≡ true
    → Goes G B p at text (AfterRead p i at) (one_read i at text)
unfolding one_read line_words
read_goes G B p i at text g e l b =
    let S = AfterRead p i at in
    let c : get_or text 0 0 ≡ 82 = first_letter 82 (91 ∷ []) text b in
    step_some G B p at text S (read_in text) (fault.Syntax at) _
    (λ none. fails G B p at text (fault.Syntax at) (syntax (not_read p text i e l c none))) (λ s f.
    let r : IsReadOf text s = found (IsReadOf text) (read_in text) s (read_of_text text) f in
    step_wants G B p at text S (is_place s.0.number i) (fault.Syntax at) _
    (λ w. fails G B p at text (fault.Syntax at) (syntax (other_read p text i s e l c f w))) (λ h.
    let n : r.s.number ≡ pos i = read_number text i s r l h in
    step_wants G B p at text S (nat_lt i 32) (fault.Range at) _
    (λ w. fails G B p at text (fault.Range at) (range (bad_read p text i s r e n (λ z.
    let below : i < 32 = subst (Below 32) n z.0 in clash (nat_lt i 32) (lt-ltb i 32 below) w))))
    (λ k.
    step_some G B p at text S (read_of s.0) (fault.Range at) _
    (λ none. fails G B p at text (fault.Range at) (range (bad_read p text i s r e n (λ z.
    none_some (read_of s.0) z.1.0 none
    (ap read_of (sym r.same) ∙ read_capped r.s ∙ z.1.1))))) (λ j d.
    let below : i < 32 = ltb-true i 32 k in
    by_line G B p at text S (j, s.1) (line.read r.s) s.1 (read_stands p text i s r e n)
    (subst (Below 32) (sym n) below, (j, sym (read_capped r.s) ∙ ap read_of r.same ∙ d)) g r.is
    (ap (λ (z : ℤ). record p { next_read = Some (suc (size_of z)) }) n, refl, refl, below)))))

-- ---- the line of a write

no_write : (p : Place) (text : List ℕ) → get_or text 0 0 ≡ 87
    → ((s : SpelledWrite) (more : List ℕ) → MayStand p (line.write s) → text ≡ write_words s more → ⊥)
    → NoLine p text
unfolding line_words
no_write p text e h = only_kind p text 87 e (omega arith) by
  where
    by : (l : Line) (more : List ℕ) → letter l ≡ 87 → MayStand p l → text ≡ line_words l more → ⊥
    by (line.write s) more c st is = h s more st is
    by (line.read s) more c st is = absurd (omega (arith, c))
    by (line.inst s) more c st is = absurd (omega (arith, c))
    by (line.block k m) more c st is = absurd (omega (arith, c))

-- behind the line of write i the next write is the one after it
abbrev pub AfterWrite : Place → ℕ → ℕ → ℕ × List ℕ → Place → ℕ → List ℕ → Type 0
AfterWrite p i at x q m rest =
    (q ≡ record p { next_read = None; next_write = Some (suc i) }) × (x.1 ≡ rest) × (m ≡ at + 1)
    × (i < 32)

write_number : (text : List ℕ) (i : ℕ) (s : SpelledWrite × List ℕ) (r : IsWriteOf text s) → i ≤ 32
    → is_place s.0.number i ≡ true → r.s.number ≡ pos i
write_number text i s r l e = exactly r.s.number i (omega (arith, l))
    (ap (λ (x : SpelledWrite). x.number) r.same ∙ place_is s.0.number i e)

bad_write : (p : Place) (text : List ℕ) (i : ℕ) (s : SpelledWrite × List ℕ) (r : IsWriteOf text s)
    → p.next_write ≡ Some i → r.s.number ≡ pos i → (InFields p (line.write r.s) → ⊥)
    → BadNumber p text
unfolding line_words
bad_write p text i s r e n out = record {
  line = line.write r.s;
  more = s.1;
  stands = subst (λ (o : Option ℕ). IsNext o r.s.number) (sym e) n;
  is = r.is;
  outside = out;
}

not_write : (p : Place) (text : List ℕ) (i : ℕ) → p.next_write ≡ Some i → i ≤ 32
    → get_or text 0 0 ≡ 87 → write_line_in text ≡ None → NoLine p text
not_write p text i e l c none = no_write p text c (λ s more st is.
    none_some (write_line_in text) (capped_write s, more) none
    (ap write_line_in is ∙ write_line_read s more))

other_write : (p : Place) (text : List ℕ) (i : ℕ) (s : SpelledWrite × List ℕ)
    → p.next_write ≡ Some i → i ≤ 32 → get_or text 0 0 ≡ 87 → write_line_in text ≡ Some s
    → is_place s.0.number i ≡ false → NoLine p text
other_write p text i s e l c f wrong = no_write p text c (λ r more st is.
    let same : s.0 ≡ capped_write r = same_item s.0 (capped_write r) s.1 more
    (sym f ∙ ap write_line_in is ∙ write_line_read r more) in
    let n : r.number ≡ pos i = subst (λ (o : Option ℕ). IsNext o r.number) e st in
    clash (is_place s.0.number i)
    (ap (λ (x : SpelledWrite). is_place x.number i) same ∙ at_place r.number i (omega (arith, l)) n)
    wrong)

-- a register in its field
pub below_field : (z : ℤ) → Below 128 z → (g : ℕ) × (field_in z 128 ≡ Some g)
unfolding field_in
below_field (pos n) b = (n, let e : nat_lt n 128 ≡ true = lt-ltb n 128 b in rw e refl)
below_field (negsuc n) b = absurd b

field_below : (z : ℤ) (g : ℕ) → field_in z 128 ≡ Some g → Below 128 z
field_below z g e =
    let f : InField z 128 g = found (InField z 128) (field_in z 128) g (field_is z 128) e in
    subst (Below 128) (sym f.is) f.below

-- the reading of the line of a write leads behind it, or to a fault
pub write_goes : (G : Aim) (B : ℕ → Goal → Type 0) (p : Place) (i at : ℕ) (text : List ℕ)
    → G p.here None → p.next_write ≡ Some i → i ≤ 32 → begins (codes "W[") text ≡ true
    → Goes G B p at text (AfterWrite p i at) (one_write i at text)
unfolding one_write line_words
write_goes G B p i at text g e l b =
    let S = AfterWrite p i at in
    let c : get_or text 0 0 ≡ 87 = first_letter 87 (91 ∷ []) text b in
    step_some G B p at text S (write_line_in text) (fault.Syntax at) _
    (λ none. fails G B p at text (fault.Syntax at) (syntax (not_write p text i e l c none))) (λ s f.
    let r : IsWriteOf text s = found (IsWriteOf text) (write_line_in text) s (write_of_text text) f in
    let reg : field_in s.0.register 128 ≡ field_in r.s.register 128 =
    ap (λ (x : SpelledWrite). field_in x.register 128) (sym r.same)
    ∙ field_capped r.s.register 128 (omega arith) in
    step_wants G B p at text S (is_place s.0.number i) (fault.Syntax at) _
    (λ w. fails G B p at text (fault.Syntax at) (syntax (other_write p text i s e l c f w))) (λ h.
    let n : r.s.number ≡ pos i = write_number text i s r l h in
    step_wants G B p at text S (nat_lt i 32) (fault.Range at) _
    (λ w. fails G B p at text (fault.Range at) (range (bad_write p text i s r e n (λ z.
    let below : i < 32 = subst (Below 32) n z.0 in clash (nat_lt i 32) (lt-ltb i 32 below) w))))
    (λ k.
    step_some G B p at text S (field_in s.0.register 128) (fault.Range at) _
    (λ none. fails G B p at text (fault.Range at) (range (bad_write p text i s r e n (λ z.
    let y = below_field r.s.register z.1 in
    none_some (field_in s.0.register 128) y.0 none (reg ∙ y.1))))) (λ j d.
    let below : i < 32 = ltb-true i 32 k in
    by_line G B p at text S (j, s.1) (line.write r.s) s.1
    (subst (λ (o : Option ℕ). IsNext o r.s.number) (sym e) n)
    (subst (Below 32) (sym n) below, field_below r.s.register j (sym reg ∙ d)) g r.is (
      ap (λ (z : ℤ). record p { next_read = None; next_write = Some (suc (size_of z)) }) n,
      refl,
      refl,
      below,
    )))))

-- ---- one line after the other

-- where rows of one kind end: the next line is of another kind
pub record RowsEnd {A : Type 0} (At : Place → ℕ → List ℕ → Type 0) (front : List ℕ)
    (x : List A × ℕ × List ℕ) (q : Place) (m : ℕ) (rest : List ℕ) : Type 0 where
  pub line : x.1 ≡ m
  pub left : x.2 ≡ rest
  pub i : ℕ
  pub at : At q i rest
  pub none : begins front rest ≡ false

-- behind one row more there are as many rows, at most 32
pub record RowsMore {A : Type 0} (At : Place → ℕ → List ℕ → Type 0) (at i : ℕ)
    (x : A × List ℕ) (q : Place) (m : ℕ) (rest : List ℕ) : Type 0 where
  pub left : x.1 ≡ rest
  pub line : m ≡ at + 1
  pub below : i < 32
  pub more : At q (i + 1) rest

-- where the reading of each row leads behind it or to a fault, that of all rows leads to their end or to a
-- fault
pub rows_go : {A : Type 0} (G : Aim) (B : ℕ → Goal → Type 0) (At : Place → ℕ → List ℕ → Type 0)
    (front : List ℕ) (one : ℕ → ℕ → List ℕ → Result (A × List ℕ) AsmFault)
    → ((p : Place) (i at : ℕ) (text : List ℕ) → At p i text → i ≤ 32 → begins front text ≡ true
    → Goes G B p at text (RowsMore At at i) (one i at text))
    → (turns : ℕ) (p : Place) (i at : ℕ) (text : List ℕ) → At p i text → i ≤ 32 → i + turns ≡ 33
    → Goes G B p at text (RowsEnd At front) (lines_in front one turns i at text)
unfolding lines_in
rows_go G B At front one h zero p i at text a l s = absurd (omega (arith, l, s))
rows_go G B At front one h (suc n) p i at text a l s =
    let S = RowsEnd At front in
    step_if G B p at text S (begins front text)
    (one i at text >>> λ r. lines_in front one n (i + 1) (at + 1) r.1
    >>> λ rs. Ok (r.0 ∷ rs.0, rs.1, rs.2)) (Ok ([], at, text)) (λ b.
    goes G B p at text (RowsMore At at i) S (one i at text) _ (h p i at text a l b) (λ x q m rest c.
    moved G B q q (at + 1) m x.1 rest S _ refl (sym c.line) c.left
    (goes G B q (at + 1) x.1 S S (lines_in front one n (i + 1) (at + 1) x.1) _
    (rows_go G B At front one h n q (i + 1) (at + 1) x.1
    (subst (λ (t : List ℕ). At q (i + 1) t) (sym c.left) c.more)
    (let below = c.below in omega (arith, below)) (omega (arith, s)))
    (λ y r k u d. at_once G B r k u S (x.0 ∷ y.0, y.1, y.2)
    (record { line = d.line; left = d.left; i = d.i; at = d.at; none = d.none })))))
    (λ b. at_once G B p at text S ([], at, text)
    (record { line = refl; left = refl; i = i; at = a; none = b }))
