-- What a verifier answers: a byte more never makes bytes end too early, and what has been answered stays.
use Rattle.std.proofs.Common.{◌≡◌, ℕ, zero, suc, ◌<◌, Bool, true, false, cond, eqb, nat_lt, List, [], ◌∷◌, ◌++◌}
use Rattle.std.proofs.Common.{length}
use Rattle.std.proofs.Common.{◌↔◌, Option, Some, None, slice_index, refl, sym, ap, subst, ◌∙◌}
use Rattle.std.specs.Str.{bytes_eq}
use Rattle.byteorder.specs.Endian.{big_bytes}
use Rattle.trips_isa.specs.declared.block.Block.{Block}
use Rattle.trips_isa.specs.declared.block.Spot.TheVariants as spot
use Rattle.trips_isa.specs.declared.run.Stepped.{Stepped}
use Rattle.trips_isa.specs.declared.run.Stepped.TheVariants.{Went, Ended, StackFull, Trap}
use Rattle.trips_isa.specs.Machine.{State, step_of}
use Rattle.trace_verify.specs.declared.fault.VerifyFault.{VerifyFault}
use Rattle.trace_verify.specs.declared.fault.VerifyFault.TheVariants.{Magic, Version, Truncated, Trailing}
use Rattle.trace_verify.specs.declared.fault.VerifyFault.TheVariants.{Past, WrongToken, WrongBlock}
use Rattle.trace_verify.specs.declared.fault.VerifyFault.TheVariants.{WrongExit, Faulting, TooLong}
use Rattle.trace_verify.specs.Spelling.{magic, front, end_bytes, Listed, listed_of, exit_taken}
use Rattle.trace_verify.specs.FirstFault.{record_size}
use Rattle.trace_verify.specs.Reading.{Place, Front, Number, Exit, Records, Whole, Stopped, Progress, Reading}
use Rattle.trace_verify.specs.Reading.{before, within, front_seen, block_come, number_come, number_seen}
use Rattle.trace_verify.specs.Reading.{stepped_to, entry_come, records_next, record_come, record_seen}
use Rattle.trace_verify.specs.Reading.{take_at, take_byte, feeds}
use Rattle.trace_verify.specs.Verdicts.{Verdict, Verified, Refused, verdict, verdict_at}
use Rattle.trace_verify.specs.Verifiers.{IsTruncated}

-- whether a fault is that of bytes that end too early
abbrev is_truncated : VerifyFault → Bool
is_truncated (Truncated at) = true
is_truncated f = false

-- the fault of a verdict, and another one where it has none
abbrev fault_of : VerifyFault → Verdict → VerifyFault
fault_of f (Verified b) = f
fault_of f (Refused g) = g

-- whether nothing is read since the bytes ended too early
abbrev is_cut : Place → Bool
is_cut (Stopped f) = is_truncated f
is_cut p = false

-- the fault of bytes that end too early, as a Bool
cut_as : (f : VerifyFault) → IsTruncated f → is_truncated f ≡ true
cut_as (Truncated at) h = refl
cut_as Magic h = elim h [ ]
cut_as Version h = elim h [ ]
cut_as (Trailing at) h = elim h [ ]
cut_as (Past entry) h = elim h [ ]
cut_as (WrongToken entry spot) h = elim h [ ]
cut_as (WrongBlock entry) h = elim h [ ]
cut_as (WrongExit entry) h = elim h [ ]
cut_as (Faulting entry) h = elim h [ ]
cut_as (TooLong entry) h = elim h [ ]

-- whatever a test says
either : (t : Bool) (a b : Reading) → is_cut a.place ≡ false → is_cut b.place ≡ false → is_cut (cond t a b).place
    ≡ false
either true a b p q = p
either false a b p q = q

-- no byte of the front makes bytes end too early
front_uncut : (seen : List ℕ) (c : Progress) → is_cut (front_seen seen c).place ≡ false
front_uncut seen c =
    either (eqb (length seen) 8) (cond (bytes_eq seen magic) (within Front seen c) (before (Stopped Magic) c))
    (cond (eqb (length seen) 12) (cond (bytes_eq seen front) (before Number c) (before (Stopped Version) c))
    (within Front seen c))
    (either (bytes_eq seen magic) (within Front seen c) (before (Stopped Magic) c) refl refl)
    (either (eqb (length seen) 12) (cond (bytes_eq seen front) (before Number c) (before (Stopped Version) c))
    (within Front seen c)
    (either (bytes_eq seen front) (before Number c) (before (Stopped Version) c) refl refl) refl)

-- nor does a number of a block
block_uncut : (budget : ℕ) (seen : List ℕ) (c : Progress) (o : Stepped) → is_cut (block_come budget seen c o).place
    ≡ false
block_uncut budget seen c Went =
    either (bytes_eq seen (big_bytes 4 c.state.next))
    (cond (nat_lt c.count budget) (before Exit c) (before (Stopped (TooLong c.count)) c))
    (before (Stopped (WrongBlock c.count)) c)
    (either (nat_lt c.count budget) (before Exit c) (before (Stopped (TooLong c.count)) c) refl refl) refl
block_uncut budget seen c Ended = refl
block_uncut budget seen c StackFull = refl
block_uncut budget seen c (Trap m) = refl

-- nor any number
number_uncut : (budget : ℕ) (seen : List ℕ) (c : Progress) → is_cut (number_seen budget seen c).place ≡ false
number_uncut budget seen c =
    either (eqb (length seen) 4) (number_come budget seen c) (within Number seen c)
    (either (bytes_eq seen end_bytes) (before Whole c) (block_come budget seen c c.answer) refl
    (block_uncut budget seen c c.answer)) refl

-- nor the end of an entry
step_uncut : (c : Progress) (t : State) (o : Stepped) → is_cut (stepped_to c t o).place ≡ false
step_uncut c t Went = refl
step_uncut c t Ended = refl
step_uncut c t StackFull = refl
step_uncut c t (Trap m) = refl

-- nor what comes behind a record
next_uncut : (blocks : List Block) (exit : ℕ) (c : Progress) (ls : List Listed)
    → is_cut (records_next blocks exit c ls).place ≡ false
next_uncut blocks exit c [] =
    either (eqb exit (exit_taken blocks c.state))
    (stepped_to c (step_of blocks c.state).0 (step_of blocks c.state).1) (before (Stopped (WrongExit c.count)) c)
    (step_uncut c (step_of blocks c.state).0 (step_of blocks c.state).1) refl
next_uncut blocks exit c (x ∷ ls) = refl

-- nor a byte of a record
record_uncut : (blocks : List Block) (exit : ℕ) (x : Listed) (ls : List Listed) (seen : List ℕ) (c : Progress)
    (size : Option ℕ) → is_cut (record_seen blocks exit x ls seen c size).place ≡ false
record_uncut blocks exit x ls seen c None = refl
record_uncut blocks exit x ls seen c (Some n) =
    either (eqb (length seen) n) (record_come blocks exit x ls seen c) (within (Records exit x ls) seen c)
    (either (bytes_eq seen x.bytes) (records_next blocks exit c ls)
    (before (Stopped (WrongToken c.count (spot.Inst x.slot))) c) (next_uncut blocks exit c ls) refl) refl

module _ (blocks : List Block) (budget : ℕ) where
  -- so no byte does
  byte_uncut : (r : Reading) (x : ℕ) → is_cut r.place ≡ false → is_cut (take_byte blocks budget r x).place ≡ false
  byte_uncut r x uncut = go r.place
    where
      c : Progress
      c = record (r.progress) { at = suc r.progress.at }

      all : List ℕ
      all = r.seen ++ x ∷ []

      go : (p : Place) → is_cut (take_at blocks budget p r x).place ≡ false
      go Front = front_uncut all c
      go Number = number_uncut budget all c
      go Exit = next_uncut blocks x c (listed_of blocks r.progress.state)
      go (Records exit here later) = record_uncut blocks exit here later all c (record_size (slice_index all 0))
      go Whole = refl
      go (Stopped f) = uncut

  -- nor do bytes
  feeds_uncut : (r : Reading) (xs : List ℕ) → is_cut r.place ≡ false → is_cut (feeds blocks budget r xs).place ≡ false
  feeds_uncut r [] uncut = uncut
  feeds_uncut r (x ∷ xs) uncut = feeds_uncut (take_byte blocks budget r x) xs (byte_uncut r x uncut)

  -- behind a fault nothing changes
  byte_stays : (r : Reading) (x : ℕ) (f : VerifyFault) → r.place ≡ Stopped f → take_byte blocks budget r x ≡ r
  byte_stays r x f e = ap (λ (p : Place). take_at blocks budget p r x) e

  -- behind a fault no byte changes anything
  pub feeds_stay : (r : Reading) (xs : List ℕ) (f : VerifyFault) → r.place ≡ Stopped f → feeds blocks budget r xs ≡ r
  feeds_stay r [] f e = refl
  feeds_stay r (x ∷ xs) f e =
      ap (λ (t : Reading). feeds blocks budget t xs) (byte_stays r x f e) ∙ feeds_stay r xs f e

  -- the fault that is answered behind a piece is the first one where no more follow; bytes that end too early are
  -- answered only where they were before
  pub answer_is : (r : Reading) (xs : List ℕ) (f : VerifyFault)
      → ((feeds blocks budget r xs).place ≡ Stopped f)
      ↔ ((verdict (feeds blocks budget r xs) ≡ Refused f) × (IsTruncated f → r.place ≡ Stopped f))
  answer_is r xs f = (λ e. (ap (λ (p : Place). verdict_at t.progress p) e, kept e), λ h. by t.place refl h.0 h.1)
    where
      t : Reading
      t = feeds blocks budget r xs

      kept : t.place ≡ Stopped f → IsTruncated f → r.place ≡ Stopped f
      kept e h = from r.place refl
        where
          whether : (p : Place) → r.place ≡ p → is_cut p ≡ false → r.place ≡ Stopped f
          whether p is uncut_p =
              let uncut : is_cut t.place ≡ false = feeds_uncut r xs (ap is_cut is ∙ uncut_p) in
              let cut : is_cut t.place ≡ true = ap is_cut e ∙ cut_as f h in
              absurd (let bad : true ≡ false = sym cut ∙ uncut in cc)

          from : (p : Place) → r.place ≡ p → r.place ≡ Stopped f
          from (Stopped g) is = sym (ap (λ (u : Reading). u.place) (feeds_stay r xs g is)) ∙ e
          from Front is = whether Front is refl
          from Number is = whether Number is refl
          from Exit is = whether Exit is refl
          from (Records exit here later) is = whether (Records exit here later) is refl
          from Whole is = whether Whole is refl

      too_early : Refused (Truncated t.progress.at) ≡ Refused f → (IsTruncated f → r.place ≡ Stopped f)
          → t.place ≡ Stopped f
      too_early e h =
          let same : Truncated t.progress.at ≡ f = ap (λ (v : Verdict). fault_of f v) e in
          let earlier : r.place ≡ Stopped f = h (subst IsTruncated same tt) in
          ap (λ (u : Reading). u.place) (feeds_stay r xs f earlier) ∙ earlier

      by : (p : Place) → t.place ≡ p → verdict_at t.progress t.place ≡ Refused f
          → (IsTruncated f → r.place ≡ Stopped f) → t.place ≡ Stopped f
      by p is e h = in_place p is (sym (ap (λ (q : Place). verdict_at t.progress q) is) ∙ e)
        where
          in_place : (p : Place) → t.place ≡ p → verdict_at t.progress p ≡ Refused f → t.place ≡ Stopped f
          in_place Front is e = too_early e h
          in_place Number is e = too_early e h
          in_place Exit is e = too_early e h
          in_place (Records exit here later) is e = too_early e h
          in_place Whole is e = absurd (let bad : Verified t.progress.count ≡ Refused f = e in cc)
          in_place (Stopped g) is e = is ∙ ap (λ (v : Verdict). Stopped (fault_of f v)) e
