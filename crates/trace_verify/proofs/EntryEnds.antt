-- What is held describes all bytes so far; where an entry ends it does so again.
use Rattle.std.proofs.Common.{◌≡◌, ℕ, suc, ◌+◌, ◌<◌, ◌≤◌, Bool, true, false, cond, eqb, nat_lt, List}
use Rattle.std.proofs.Common.{[], ◌∷◌, ◌++◌, length, take, Some, None, refl, sym, ap, subst, ◌∙◌, arith}
use Rattle.std.proofs.Common.{append_assoc, ◌%◌, inl, inr}
use Rattle.std.proofs.lemmas.List.{append-nil, length-append}
use Rattle.std.proofs.lemmas.Bool.{cases_lt, cond_both, eqb-true, eqb-false}
use Rattle.byteorder.specs.Endian.{big_bytes}
use Rattle.trips_isa.specs.declared.block.Block.{Block}
use Rattle.trips_isa.specs.declared.run.Stepped.{Stepped}
use Rattle.trips_isa.specs.declared.run.Stepped.TheVariants.{Went, Ended, StackFull, Trap}
use Rattle.trips_isa.specs.Machine.{State, step_of, runs}
use Rattle.trace_verify.specs.declared.fault.VerifyFault.{VerifyFault}
use Rattle.trace_verify.specs.declared.fault.VerifyFault.TheVariants.{WrongExit, Faulting}
use Rattle.trace_verify.specs.Spelling.{magic, front, end_bytes, Listed, listed_of, exit_taken}
use Rattle.trace_verify.specs.Spelling.{entry_with, entry_bytes}
use Rattle.trace_verify.specs.Traces.{entries, HasEntries, Traps}
use Rattle.trace_verify.specs.FirstFault.{record_size, IsShort, nothing, Goes}
use Rattle.trace_verify.specs.FirstFault.{EntryFault}
use Rattle.trace_verify.specs.FirstFault.{wrong_exit, faulting}
use Rattle.trace_verify.specs.FirstFault.{FirstFault, in_entry}
use Rattle.trace_verify.specs.Reading.{Place, Front, Number, Exit, Records, Whole, Stopped, Progress, Reading}
use Rattle.trace_verify.specs.Reading.{before, within, begun}
use Rattle.trace_verify.specs.Reading.{stepped_to, entry_come, records_next}
use Rattle.trace_verify.proofs.Nexts.{one_step}
use Rattle.trace_verify.proofs.Forward.{come_by}

-- the size of a record is not 0
pub size_some : (x n : ℕ) → record_size x ≡ Some n → 0 < n
size_some x n e = by (nat_lt x 16) (eqb x 0) (eqb (x % 4) 1) (eqb (x % 4) 2) e
  where
    by : (l a b c : Bool) → cond l (cond a (Some 1) (cond b (Some 1) (cond c (Some 9) None))) None ≡ Some n → 0 < n
    by true true b c e = let one : 1 ≡ n = cc in omega (arith, one)
    by true false true c e = let one : 1 ≡ n = cc in omega (arith, one)
    by true false false true e = let nine : 9 ≡ n = cc in omega (arith, nine)
    by true false false false e = absurd (cc)
    by false a b c e = absurd (cc)

module _ (blocks : List Block) (budget : ℕ) (s : State) where
  -- the entries of k steps have come, and then the rest
  pub record ReadTo (k : ℕ) (bytes rest : List ℕ) : Type 0 where
    pub steps : HasEntries blocks s k
    pub room : k ≤ budget
    pub read : bytes ≡ front ++ (entries blocks s k ++ rest)

  -- the fault is the first one, whatever follows
  abbrev pub Stands : List ℕ → VerifyFault → Type 0
  Stands bytes f = (more : List ℕ) → FirstFault blocks s budget (bytes ++ more) f

  abbrev pub by_steps : ℕ → List ℕ → Progress
  by_steps k bytes = come_by blocks s k (length bytes)

  -- what is held is what the bytes so far come to
  abbrev pub Holds : List ℕ → Progress → List ℕ → Place → Type 0
  Holds bytes c seen Front = (c ≡ record (begun s) { at = length bytes }) × (seen ≡ bytes) × (length bytes < 12)
      × (8 ≤ length bytes → take 8 bytes ≡ magic)
  Holds bytes c seen Number =
      (k : ℕ) × (c ≡ by_steps k bytes) × ReadTo k bytes seen × (length seen < 4)
  Holds bytes c seen Exit = (k : ℕ) × (c ≡ by_steps k bytes) × (seen ≡ [])
      × ReadTo k bytes (big_bytes 4 (runs blocks s k).0.next) × Goes (runs blocks s k).1 budget k
  Holds bytes c seen (Records e l ls) = (k : ℕ) × (earlier : List Listed) × (c ≡ by_steps k bytes)
      × ReadTo k bytes (entry_with (runs blocks s k).0.next e earlier ++ seen)
      × (listed_of blocks (runs blocks s k).0 ≡ earlier ++ (l ∷ ls)) × Goes (runs blocks s k).1 budget k
      × IsShort seen
  Holds bytes c seen Whole = (k : ℕ) × (c ≡ by_steps k bytes) × ReadTo k bytes end_bytes
  Holds bytes c seen (Stopped f) = Stands bytes f

  abbrev pub Described : List ℕ → Reading → Type 0
  Described bytes r = Holds bytes r.progress r.seen r.place

  -- bytes more -----------------------------------------------------------------------------------

  -- behind bytes more the rest is longer by them
  pub read_more : (k : ℕ) (bytes rest more : List ℕ) → bytes ≡ front ++ (entries blocks s k ++ rest)
      → bytes ++ more ≡ front ++ (entries blocks s k ++ (rest ++ more))
  read_more k bytes rest more e =
      ap (λ (xs : List ℕ). xs ++ more) e
      ∙ append_assoc front (entries blocks s k ++ rest) more
      ∙ ap (λ (xs : List ℕ). front ++ xs) (append_assoc (entries blocks s k) rest more)

  -- a byte more is counted
  pub one_longer : (bytes : List ℕ) (x : ℕ) → suc (length bytes) ≡ length (bytes ++ x ∷ [])
  one_longer bytes x = omega (arith, length-append bytes (x ∷ []))

  -- a fault of an entry stands
  pub stands_by : (k : ℕ) (bytes rest : List ℕ) (f : VerifyFault) → ReadTo k bytes rest
      → ((more : List ℕ) → EntryFault blocks (runs blocks s k).0 (runs blocks s k).1 budget k (length (bytes ++ more))
      (rest ++ more) f) → Stands bytes f
  stands_by k bytes rest f r fault more =
      in_entry k (rest ++ more) f r.steps r.room (read_more k bytes rest more r.read) (fault more)

  -- the end of an entry -------------------------------------------------------------------------

  -- a step more has an entry
  one_entry : (k : ℕ) → HasEntries blocks s k → (runs blocks s k).1 ≡ Went
      → (Traps (step_of blocks (runs blocks s k).0).1 → ⊥) → HasEntries blocks s (suc k)
  one_entry k h went safe = record {
    on = at_step;
    last = λ t. safe (subst (λ (p : State × Stepped). Traps p.1) (one_step blocks s k went) t);
  }
    where
      at_step : (i : ℕ) → i < suc k → (runs blocks s i).1 ≡ Went
      at_step i l = elim (cases_lt i k) [
        | inl lt ↦ h.on i lt
        | inr ge ↦
            let same : k ≡ i = omega (arith, l, ge) in
            subst (λ (n : ℕ). (runs blocks s n).1 ≡ Went) same went
      ]

  -- the entry's bytes behind those of the entries before it
  entries_more : (k : ℕ) (bytes : List ℕ) → bytes ≡ front ++
      (entries blocks s k ++ entry_bytes blocks (runs blocks s k).0)
      → bytes ≡ front ++ (entries blocks s (suc k) ++ [])
  entries_more k bytes e = e
      ∙ ap (λ (xs : List ℕ). front ++ xs) (sym (append-nil (entries blocks s (suc k))))

  went_on : (k : ℕ) (bytes : List ℕ) → ReadTo k bytes (entry_bytes blocks (runs blocks s k).0)
      → Goes (runs blocks s k).1 budget k → (Traps (step_of blocks (runs blocks s k).0).1 → ⊥)
      → Described bytes (before Number (record {
        state = (step_of blocks (runs blocks s k).0).0;
        answer = (step_of blocks (runs blocks s k).0).1;
        count = suc k;
        at = length bytes;
      }))
  went_on k bytes r goes safe = (
    suc k,
    ap (λ (p : State × Stepped). record { state = p.0; answer = p.1; count = suc k; at = length bytes })
        (sym (one_step blocks s k goes.went)),
    record {
      steps = one_entry k r.steps goes.went safe;
      room = goes.within;
      read = entries_more k bytes r.read;
    },
    omega arith,
  )

  step_come : (k : ℕ) (bytes : List ℕ) → ReadTo k bytes (entry_bytes blocks (runs blocks s k).0)
      → Goes (runs blocks s k).1 budget k → (o : Stepped) → (step_of blocks (runs blocks s k).0).1 ≡ o
      → Described bytes (stepped_to (by_steps k bytes) (step_of blocks (runs blocks s k).0).0 o)
  step_come k bytes r goes Went is =
      subst (λ (o : Stepped). Described bytes (before Number (record {
        state = (step_of blocks (runs blocks s k).0).0;
        answer = o;
        count = suc k;
        at = length bytes;
      }))) is (went_on k bytes r goes (λ t. subst Traps is t))
  step_come k bytes r goes Ended is =
      subst (λ (o : Stepped). Described bytes (before Number (record {
        state = (step_of blocks (runs blocks s k).0).0;
        answer = o;
        count = suc k;
        at = length bytes;
      }))) is (went_on k bytes r goes (λ t. subst Traps is t))
  step_come k bytes r goes StackFull is =
      subst (λ (o : Stepped). Described bytes (before Number (record {
        state = (step_of blocks (runs blocks s k).0).0;
        answer = o;
        count = suc k;
        at = length bytes;
      }))) is (went_on k bytes r goes (λ t. subst Traps is t))
  step_come k bytes r goes (Trap m) is =
      stands_by k bytes (entry_bytes blocks (runs blocks s k).0) (Faulting k) r
      (λ more. faulting more refl goes (subst Traps (sym is) tt))

  entry_come_is : (k : ℕ) (bytes : List ℕ) (e : ℕ)
      → ReadTo k bytes (entry_with (runs blocks s k).0.next e (listed_of blocks (runs blocks s k).0))
      → Goes (runs blocks s k).1 budget k → Described bytes (entry_come blocks e (by_steps k bytes))
  entry_come_is k bytes e r goes =
      cond_both (eqb e (exit_taken blocks t))
      (stepped_to (by_steps k bytes) (step_of blocks t).0 (step_of blocks t).1)
      (before (Stopped (WrongExit k)) (by_steps k bytes)) (λ (x : Reading). Described bytes x)
      (λ same. step_come k bytes (subst (λ (n : ℕ). ReadTo k bytes (entry_with t.next n (listed_of blocks t)))
      (eqb-true e (exit_taken blocks t) same) r) goes (step_of blocks t).1 refl)
      (λ other. stands_by k bytes (entry_with t.next e (listed_of blocks t)) (WrongExit k) r
      (λ more. wrong_exit e more refl goes (eqb-false e (exit_taken blocks t) other)))
    where
      t : State
      t = (runs blocks s k).0

  -- the next record, if there is one
  pub next_is : (k : ℕ) (bytes : List ℕ) (e : ℕ) (earlier later : List Listed)
      → ReadTo k bytes (entry_with (runs blocks s k).0.next e earlier)
      → listed_of blocks (runs blocks s k).0 ≡ earlier ++ later → Goes (runs blocks s k).1 budget k
      → Described bytes (records_next blocks e (by_steps k bytes) later)
  next_is k bytes e earlier [] r is goes =
      let all : earlier ≡ listed_of blocks (runs blocks s k).0 = sym (append-nil earlier) ∙ sym is in
      entry_come_is k bytes e
      (subst (λ (ls : List Listed). ReadTo k bytes (entry_with (runs blocks s k).0.next e ls)) all r) goes
  next_is k bytes e earlier (l ∷ later) r is goes = (
    k,
    earlier,
    refl,
    subst (λ (xs : List ℕ). ReadTo k bytes xs) (sym (append-nil (entry_with (runs blocks s k).0.next e earlier))) r,
    is,
    goes,
    nothing,
  )
