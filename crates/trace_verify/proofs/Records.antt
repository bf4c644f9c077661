-- The records of a block are records, by their first byte.
use Rattle.std.proofs.Common.{◌≡◌, ℕ, zero, suc, ◌+◌, ◌*◌, ◌%◌, ◌<◌, Bool, true, false, cond, eqb, nat_lt, List, []}
use Rattle.std.proofs.Common.{◌∷◌, ◌++◌, length, Option, Some, None, slice_get, refl, sym, ap, ◌∙◌, arith}
use Rattle.std.specs.Str.{bytes_eq}
use Rattle.std.proofs.lemmas.Bool.{cond-true, cond-false, eq-eqb, ne_eqb, lt-ltb}
use Rattle.std.proofs.lemmas.Slice.Eq.{bytes_eq-Decides}
use Rattle.byteorder.specs.Endian.{big_bytes}
use Rattle.trips_isa.specs.declared.form.Form.{Form}
use Rattle.trips_isa.specs.declared.form.Form.TheVariants.{General, Immediate, Load, Store, Branch, Constant}
use Rattle.trips_isa.specs.declared.block.Token.{Token}
use Rattle.trips_isa.specs.declared.block.Token.TheVariants.{Null, Word}
use Rattle.trips_isa.specs.declared.block.Inst.{Inst}
use Rattle.trips_isa.specs.declared.block.Block.{Block}
use Rattle.trips_isa.specs.Forms.{form_of}
use Rattle.trips_isa.specs.Rule.{Answer}
use Rattle.trips_isa.specs.Tables.{deepest}
use Rattle.trips_isa.specs.Marks.{mark_of}
use Rattle.trips_isa.specs.Machine.{State}
use Rattle.block_atomic.proofs.MarkBounds.{mark_low}
use Rattle.trace_verify.specs.Spelling.{token_bytes, fired_bytes, record_bytes, Listed, listed_from, listed_in}
use Rattle.trace_verify.specs.Spelling.{listed_of, tokens_in}
use Rattle.trace_verify.specs.FirstFault.{record_size}

-- bytes are the same as themselves
pub bytes_same : (xs : List ℕ) → bytes_eq xs xs ≡ true
bytes_same xs = (bytes_eq-Decides xs xs).1 refl

-- a test tells bytes apart that differ
pub no_bytes_eq : (a b : List ℕ) → (a ≡ b → ⊥) → bytes_eq a b ≡ false
no_bytes_eq a b h = by (bytes_eq a b) refl
  where
    by : (t : Bool) → bytes_eq a b ≡ t → bytes_eq a b ≡ false
    by true e = absurd (h ((bytes_eq-Decides a b).0 e))
    by false e = e

-- the bytes are a record, by the first of them
pub data IsRecord : List ℕ → Type 0 where
  made : {x : ℕ} {more : List ℕ} → record_size x ≡ Some (suc (length more)) → IsRecord (x ∷ more)

-- a first byte with a mark, by what is left of it
size_low : (x : ℕ) (o : Option ℕ) → x < 16 → cond (eqb x 0) (Some 1) (cond (eqb (x % 4) 1) (Some 1)
    (cond (eqb (x % 4) 2) (Some 9) None)) ≡ o → record_size x ≡ o
size_low x o low e = cond-true (nat_lt x 16) (cond (eqb x 0) (Some 1) (cond (eqb (x % 4) 1) (Some 1)
    (cond (eqb (x % 4) 2) (Some 9) None))) None (lt-ltb x 16 low) ∙ e

size_one : (m : ℕ) → m < 4 → record_size (4 * m + 1) ≡ Some 1
size_one m l =
    let some : eqb (4 * m + 1) 0 ≡ false = ne_eqb (4 * m + 1) 0 (λ e. omega (arith, e)) in
    let one : eqb ((4 * m + 1) % 4) 1 ≡ true = eq-eqb ((4 * m + 1) % 4) 1 (omega arith) in
    size_low (4 * m + 1) (Some 1) (omega (arith, l))
    (cond-false (eqb (4 * m + 1) 0) (Some 1) (cond (eqb ((4 * m + 1) % 4) 1) (Some 1)
    (cond (eqb ((4 * m + 1) % 4) 2) (Some 9) None)) some
    ∙ cond-true (eqb ((4 * m + 1) % 4) 1) (Some 1) (cond (eqb ((4 * m + 1) % 4) 2) (Some 9) None) one)

size_nine : (m : ℕ) → m < 4 → record_size (4 * m + 2) ≡ Some 9
size_nine m l =
    let some : eqb (4 * m + 2) 0 ≡ false = ne_eqb (4 * m + 2) 0 (λ e. omega (arith, e)) in
    let not : eqb ((4 * m + 2) % 4) 1 ≡ false = ne_eqb ((4 * m + 2) % 4) 1 (λ e. omega (arith, e)) in
    let two : eqb ((4 * m + 2) % 4) 2 ≡ true = eq-eqb ((4 * m + 2) % 4) 2 (omega arith) in
    size_low (4 * m + 2) (Some 9) (omega (arith, l))
    (cond-false (eqb (4 * m + 2) 0) (Some 1) (cond (eqb ((4 * m + 2) % 4) 1) (Some 1)
    (cond (eqb ((4 * m + 2) % 4) 2) (Some 9) None)) some
    ∙ cond-false (eqb ((4 * m + 2) % 4) 1) (Some 1) (cond (eqb ((4 * m + 2) % 4) 2) (Some 9) None) not
    ∙ cond-true (eqb ((4 * m + 2) % 4) 2) (Some 9) None two)

token_record : (m : ℕ) (t : Token) → m < 4 → IsRecord (token_bytes m t)
token_record m Null l = made (size_one m l)
token_record m (Word w) l = made (size_nine m l)

fired_record : (f : Form) (m : ℕ) (t : Token) → m < 4 → IsRecord (fired_bytes f m t)
fired_record General m t l = token_record m t l
fired_record Immediate m t l = token_record m t l
fired_record Constant m t l = token_record m t l
fired_record Load m t l = token_record m t l
fired_record Store m t l = token_record m Null l
fired_record Branch m t l = token_record m Null l

-- the record of an instruction is one
pub is_record : (f : Form) (m : ℕ) (a : Answer) → m < 4 → IsRecord (record_bytes f m a)
is_record f m None l = made refl
is_record f m (Some t) l = fired_record f m t l

-- each of these has a record's bytes
abbrev pub AreRecords : List Listed → Type 0
AreRecords [] = Unit {0}
AreRecords (l ∷ ls) = IsRecord l.bytes × AreRecords ls

listed_records : (g : ℕ → Answer) (m : ℕ → ℕ) (j : ℕ) (is : List (Option Inst)) → ((k : ℕ) → m k < 4)
    → AreRecords (listed_from g m j is)
listed_records g m j [] low = tt
listed_records g m j (None ∷ is) low = listed_records g m (suc j) is low
listed_records g m j (Some i ∷ is) low =
    (is_record (form_of i.op) (m j) (g j) (low j), listed_records g m (suc j) is low)

in_block : (o : Option Block) (s : State) → AreRecords (listed_in o s)
in_block None s = tt
in_block (Some b) s =
    listed_records (λ j. tokens_in b s (length b.reads.items + j))
    (λ j. mark_of b (tokens_in b s) deepest (length b.reads.items + j)) 0 b.insts.items
    (λ j. mark_low b (tokens_in b s) deepest (length b.reads.items + j))

-- what is listed of a block are records
pub listed_are : (blocks : List Block) (s : State) → AreRecords (listed_of blocks s)
unfolding listed_of
listed_are blocks s = in_block (slice_get blocks s.next) s

-- records in two parts
pub records_split : (xs ys : List Listed) → AreRecords (xs ++ ys) → AreRecords xs × AreRecords ys
records_split [] ys h = (tt, h)
records_split (l ∷ xs) ys h =
    let rest = records_split xs ys h.1 in ((h.0, rest.0), rest.1)
