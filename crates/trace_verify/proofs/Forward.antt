-- What is right is read on: the front, the entries one after another, and in each the number, the exit and the
-- records.
use Rattle.std.proofs.Common.{◌≡◌, ℕ, zero, suc, ◌+◌, ◌<◌, ◌≤◌, ◌^◌, Bool, true, false, cond, eqb, nat_lt, List, []}
use Rattle.std.proofs.Common.{◌∷◌, ◌++◌, length, Option, Some, None, refl, sym, ap, subst, ◌∙◌, arith, append_assoc}
use Rattle.std.specs.Str.{bytes_eq}
use Rattle.std.proofs.lemmas.List.{append-nil, length-append}
use Rattle.std.proofs.lemmas.Bool.{cond-true, cond-false, eq-eqb, ne_eqb, lt-ltb}
use Rattle.byteorder.specs.Endian.{big_bytes}
use Rattle.trips_isa.specs.declared.block.Block.{Block}
use Rattle.trips_isa.specs.declared.block.Spot.TheVariants as spot
use Rattle.trips_isa.specs.declared.run.Stepped.{Stepped}
use Rattle.trips_isa.specs.declared.run.Stepped.TheVariants.{Went, Ended, StackFull, Trap}
use Rattle.trips_isa.specs.Machine.{State, step_of, goes_on, runs}
use Rattle.trace_verify.specs.declared.fault.VerifyFault.{VerifyFault}
use Rattle.trace_verify.specs.declared.fault.VerifyFault.TheVariants.{WrongToken, WrongExit, TooLong, WrongBlock}
use Rattle.trace_verify.specs.Spelling.{front, end_bytes, Listed, listed_of, listed_bytes, exit_taken, entry_with}
use Rattle.trace_verify.specs.Spelling.{entry_bytes}
use Rattle.trace_verify.specs.Traces.{entries, HasEntries, Traps}
use Rattle.trace_verify.specs.FirstFault.{record_size}
use Rattle.trace_verify.specs.Reading.{Place, Front, Number, Exit, Records, Whole, Stopped, Progress, Reading}
use Rattle.trace_verify.specs.Reading.{before, within, begun, unread, block_come, number_come, stepped_to, entry_come}
use Rattle.trace_verify.specs.Reading.{records_next, record_come, record_seen, take_byte, feeds}
use Rattle.trace_verify.proofs.Nexts.{none, one_step, next_stays, no_end}
use Rattle.trace_verify.proofs.Records.{bytes_same, no_bytes_eq, IsRecord, made, AreRecords, listed_are}
use Rattle.trace_verify.proofs.Records.{records_split}

-- the number of bytes behind some more
abbrev pub forth : List ℕ → ℕ → ℕ
forth [] at = at
forth (x ∷ xs) at = forth xs (suc at)

-- the place behind bytes is their number further on
pub forth_is : (xs : List ℕ) (at : ℕ) → forth xs at ≡ at + length xs
forth_is [] at = omega arith
forth_is (x ∷ xs) at =
    let e : forth xs (suc at) ≡ suc at + length xs = forth_is xs (suc at) in omega (arith, e)

pub forth-append : (xs ys : List ℕ) (at : ℕ) → forth (xs ++ ys) at ≡ forth ys (forth xs at)
forth-append [] ys at = refl
forth-append (x ∷ xs) ys at = forth-append xs ys (suc at)

-- as far, and some bytes more
abbrev pub ahead : List ℕ → Progress → Progress
ahead xs c = record c { at = forth xs c.at }

-- how far it has come behind the entries of k steps
abbrev pub come_by : List Block → State → ℕ → ℕ → Progress
come_by blocks s k at =
    record { state = (runs blocks s k).0; answer = (runs blocks s k).1; count = k; at = at }

-- a step that does not trap
stepped_is : (c : Progress) (t : State) (o : Stepped) → (Traps o → ⊥)
    → stepped_to c t o ≡ before Number (record { state = t; answer = o; count = suc c.count; at = c.at })
stepped_is c t Went h = refl
stepped_is c t Ended h = refl
stepped_is c t StackFull h = refl
stepped_is c t (Trap m) h = absurd (h tt)

module _ (blocks : List Block) (budget : ℕ) where
  -- bytes in two pieces
  pub fed : (xs ys : List ℕ) (r : Reading)
      → feeds blocks budget r (xs ++ ys) ≡ feeds blocks budget (feeds blocks budget r xs) ys
  fed [] ys r = refl
  fed (x ∷ xs) ys r = fed xs ys (take_byte blocks budget r x)

  -- behind a fault nothing is read
  pub stopped : (f : VerifyFault) (c : Progress) (seen xs : List ℕ)
      → feeds blocks budget (within (Stopped f) seen c) xs ≡ within (Stopped f) seen c
  stopped f c seen [] = refl
  stopped f c seen (x ∷ xs) = stopped f c seen xs

  -- a record ------------------------------------------------------------------------------------

  one_kept : (e : ℕ) (l : Listed) (ls : List Listed) (x n : ℕ) → record_size x ≡ Some n → (seen : List ℕ) (y : ℕ)
      (c : Progress) → suc (suc (length seen)) < n
      → take_byte blocks budget (within (Records e l ls) (x ∷ seen) c) y
      ≡ within (Records e l ls) (x ∷ (seen ++ y ∷ [])) (ahead (y ∷ []) c)
  one_kept e l ls x n size seen y c h =
      let all = x ∷ (seen ++ y ∷ []) in
      let far : eqb (length all) n ≡ false = ne_eqb (length all) n
      (λ e. omega (arith, e, h, length-append seen (y ∷ []))) in
      ap (record_seen blocks e l ls all (ahead (y ∷ []) c)) size
      ∙ cond-false (eqb (length all) n) (record_come blocks e l ls all (ahead (y ∷ []) c))
      (within (Records e l ls) all (ahead (y ∷ []) c)) far

  -- one that is not whole
  pub filling : (e : ℕ) (l : Listed) (ls : List Listed) (x n : ℕ) → record_size x ≡ Some n → (seen xs : List ℕ)
      (c : Progress) → suc (length seen + length xs) < n
      → feeds blocks budget (within (Records e l ls) (x ∷ seen) c) xs
      ≡ within (Records e l ls) (x ∷ (seen ++ xs)) (ahead xs c)
  filling e l ls x n size seen [] c h =
      ap (λ (b : List ℕ). within (Records e l ls) (x ∷ b) c) (sym (append-nil seen))
  filling e l ls x n size seen (y ∷ ys) c h =
      ap (λ (r : Reading). feeds blocks budget r ys) (one_kept e l ls x n size seen y c (omega (arith, h)))
      ∙ filling e l ls x n size (seen ++ y ∷ []) ys (ahead (y ∷ []) c)
      (omega (arith, h, length-append seen (y ∷ [])))
      ∙ ap (λ (b : List ℕ). within (Records e l ls) (x ∷ b) (ahead (y ∷ ys) c)) (append_assoc seen (y ∷ []) ys)

  -- its first byte, where more belong to it
  first_kept : (e : ℕ) (l : Listed) (ls : List Listed) (x n : ℕ) → record_size x ≡ Some n → (c : Progress) → 1 < n
      → take_byte blocks budget (before (Records e l ls) c) x ≡ within (Records e l ls) (x ∷ []) (ahead (x ∷ []) c)
  first_kept e l ls x n size c h =
      let far : eqb 1 n ≡ false = ne_eqb 1 n (λ e. omega (arith, e, h)) in
      ap (record_seen blocks e l ls (x ∷ []) (ahead (x ∷ []) c)) size
      ∙ cond-false (eqb 1 n) (record_come blocks e l ls (x ∷ []) (ahead (x ∷ []) c))
      (within (Records e l ls) (x ∷ []) (ahead (x ∷ []) c)) far

  -- one that ends before it is whole
  pub begun_record : (e : ℕ) (l : Listed) (ls : List Listed) (x n : ℕ) (more : List ℕ) → record_size x ≡ Some n
      → (c : Progress) → suc (length more) < n
      → feeds blocks budget (before (Records e l ls) c) (x ∷ more)
      ≡ within (Records e l ls) (x ∷ more) (ahead (x ∷ more) c)
  begun_record e l ls x n more size c h =
      ap (λ (r : Reading). feeds blocks budget r more) (first_kept e l ls x n size c (omega (arith, h)))
      ∙ filling e l ls x n size [] more (ahead (x ∷ []) c) (omega (arith, h))

  filled : (e : ℕ) (l : Listed) (ls : List Listed) (x n : ℕ) → record_size x ≡ Some n → (seen xs : List ℕ)
      (c : Progress) → suc (length seen + length xs) ≡ n → 0 < length xs
      → feeds blocks budget (within (Records e l ls) (x ∷ seen) c) xs
      ≡ record_come blocks e l ls (x ∷ (seen ++ xs)) (ahead xs c)
  filled e l ls x n size seen [] c h some = absurd (omega (arith, some))
  filled e l ls x n size seen (y ∷ []) c h some =
      let all = x ∷ (seen ++ y ∷ []) in
      let near : eqb (length all) n ≡ true = eq-eqb (length all) n (omega (arith, h, length-append seen (y ∷ []))) in
      ap (record_seen blocks e l ls all (ahead (y ∷ []) c)) size
      ∙ cond-true (eqb (length all) n) (record_come blocks e l ls all (ahead (y ∷ []) c))
      (within (Records e l ls) all (ahead (y ∷ []) c)) near
  filled e l ls x n size seen (y ∷ z ∷ zs) c h some =
      ap (λ (r : Reading). feeds blocks budget r (z ∷ zs)) (one_kept e l ls x n size seen y c (omega (arith, h)))
      ∙ filled e l ls x n size (seen ++ y ∷ []) (z ∷ zs) (ahead (y ∷ []) c)
      (omega (arith, h, length-append seen (y ∷ []))) (omega arith)
      ∙ ap (λ (b : List ℕ). record_come blocks e l ls (x ∷ b) (ahead (y ∷ z ∷ zs) c))
      (append_assoc seen (y ∷ []) (z ∷ zs))

  -- a whole one
  pub record_fed : (e : ℕ) (l : Listed) (ls : List Listed) (c : Progress) (x : ℕ) (more : List ℕ)
      → record_size x ≡ Some (suc (length more)) → feeds blocks budget (before (Records e l ls) c) (x ∷ more)
      ≡ record_come blocks e l ls (x ∷ more) (ahead (x ∷ more) c)
  record_fed e l ls c x [] size = ap (record_seen blocks e l ls (x ∷ []) (ahead (x ∷ []) c)) size
  record_fed e l ls c x (y ∷ ys) size =
      ap (λ (r : Reading). feeds blocks budget r (y ∷ ys))
      (first_kept e l ls x (suc (length (y ∷ ys))) size c (omega arith))
      ∙ filled e l ls x (suc (length (y ∷ ys))) size [] (y ∷ ys) (ahead (x ∷ []) c) (omega arith) (omega arith)

  -- the one that is wanted
  pub fed_good : (e : ℕ) (l : Listed) (ls : List Listed) (c : Progress) (bs : List ℕ) → IsRecord bs
      → bytes_eq bs l.bytes ≡ true → feeds blocks budget (before (Records e l ls) c) bs
      ≡ records_next blocks e (ahead bs c) ls
  fed_good e l ls c [] h same = elim h [ ]
  fed_good e l ls c (x ∷ more) (made size) same =
      record_fed e l ls c x more size
      ∙ cond-true (bytes_eq (x ∷ more) l.bytes) (records_next blocks e (ahead (x ∷ more) c) ls)
      (before (Stopped (WrongToken c.count (spot.Inst l.slot))) (ahead (x ∷ more) c)) same

  -- some records, one after another
  pub records_fed : (e : ℕ) (earlier later : List Listed) (c : Progress) → AreRecords earlier
      → feeds blocks budget (records_next blocks e c (earlier ++ later)) (listed_bytes earlier)
      ≡ records_next blocks e (ahead (listed_bytes earlier) c) later
  records_fed e [] later c h = refl
  records_fed e (l ∷ ls) later c h =
      fed l.bytes (listed_bytes ls) (before (Records e l (ls ++ later)) c)
      ∙ ap (λ (r : Reading). feeds blocks budget r (listed_bytes ls))
      (fed_good e l (ls ++ later) c l.bytes h.0 (bytes_same l.bytes))
      ∙ records_fed e ls later (ahead l.bytes c) h.1
      ∙ ap (λ (n : ℕ). records_next blocks e (record c { at = n }) later)
      (sym (forth-append l.bytes (listed_bytes ls) c.at))

  -- an entry ------------------------------------------------------------------------------------

  -- a number of four bytes
  pub number_fed : (xs : List ℕ) → length xs ≡ 4 → (c : Progress)
      → feeds blocks budget (before Number c) xs ≡ number_come budget xs (ahead xs c)
  number_fed [] h c = absurd (omega (arith, h))
  number_fed (x ∷ []) h c = absurd (omega (arith, h))
  number_fed (x ∷ y ∷ []) h c = absurd (omega (arith, h))
  number_fed (x ∷ y ∷ z ∷ []) h c = absurd (omega (arith, h))
  number_fed (x ∷ y ∷ z ∷ w ∷ []) h c = refl
  number_fed (x ∷ y ∷ z ∷ w ∷ v ∷ rest) h c = absurd (omega (arith, h))

  -- the run goes on, and its next block has a number
  pub record Begins (c : Progress) : Type 0 where
    pub went : c.answer ≡ Went
    pub room : c.count < budget
    pub apart : big_bytes 4 c.state.next ≡ end_bytes → ⊥

  -- the number of the next block begins its entry
  pub begin_fed : (c : Progress) → Begins c → feeds blocks budget (before Number c) (big_bytes 4 c.state.next)
      ≡ before Exit (ahead (big_bytes 4 c.state.next) c)
  begin_fed c h =
      let n = big_bytes 4 c.state.next in
      let d = ahead n c in
      number_fed n refl c
      ∙ cond-false (bytes_eq n end_bytes) (before Whole d) (block_come budget n d d.answer)
      (no_bytes_eq n end_bytes h.apart)
      ∙ ap (block_come budget n d) h.went
      ∙ cond-true (bytes_eq n n) (cond (nat_lt d.count budget) (before Exit d) (before (Stopped (TooLong d.count)) d))
      (before (Stopped (WrongBlock d.count)) d) (bytes_same n)
      ∙ cond-true (nat_lt d.count budget) (before Exit d) (before (Stopped (TooLong d.count)) d)
      (lt-ltb d.count budget h.room)

  -- as far as some of its records
  pub into_records : (c : Progress) → Begins c → (e : ℕ) (earlier later : List Listed)
      → listed_of blocks c.state ≡ earlier ++ later
      → feeds blocks budget (before Number c) (entry_with c.state.next e earlier)
      ≡ records_next blocks e (ahead (entry_with c.state.next e earlier) c) later
  into_records c h e earlier later is =
      let n = big_bytes 4 c.state.next in
      let d = ahead (e ∷ []) (ahead n c) in
      let fits = records_split earlier later (subst AreRecords is (listed_are blocks c.state)) in
      fed n (e ∷ listed_bytes earlier) (before Number c)
      ∙ ap (λ (r : Reading). feeds blocks budget r (e ∷ listed_bytes earlier)) (begin_fed c h)
      ∙ ap (λ (ls : List Listed). feeds blocks budget (records_next blocks e d ls) (listed_bytes earlier)) is
      ∙ records_fed e earlier later d fits.0

  -- with all of them
  pub entry_fed : (c : Progress) → Begins c → (e : ℕ)
      → feeds blocks budget (before Number c) (entry_with c.state.next e (listed_of blocks c.state))
      ≡ entry_come blocks e (ahead (entry_with c.state.next e (listed_of blocks c.state)) c)
  entry_fed c h e = into_records c h e (listed_of blocks c.state) [] (sym (append-nil (listed_of blocks c.state)))

  -- and with the exit that is taken
  pub stepped : (c : Progress) → Begins c → feeds blocks budget (before Number c) (entry_bytes blocks c.state)
      ≡ stepped_to (ahead (entry_bytes blocks c.state) c) (step_of blocks c.state).0 (step_of blocks c.state).1
  stepped c h =
      let e = exit_taken blocks c.state in
      let d = ahead (entry_bytes blocks c.state) c in
      entry_fed c h e
      ∙ cond-true (eqb e e) (stepped_to d (step_of blocks c.state).0 (step_of blocks c.state).1)
      (before (Stopped (WrongExit d.count)) d) (eq-eqb e e refl)

  -- entries -------------------------------------------------------------------------------------

  -- the entries of fewer steps are there too
  pub fewer : (s : State) (k : ℕ) → HasEntries blocks s (suc k) → HasEntries blocks s k
  fewer s k h = record {
    on = λ i l. h.on i (omega (arith, l));
    last = λ t.
        let went : (runs blocks s k).1 ≡ Went = h.on k (omega arith) in
        subst Traps went t;
  }

  module _ (s : State) (inside : s.next < length blocks) (few : length blocks < 2 ^ 32) where
    -- no block's number is the end word
    pub apart : (k : ℕ) → big_bytes 4 (runs blocks s k).0.next ≡ end_bytes → ⊥
    apart k = no_end (runs blocks s k).0.next (length blocks)
        (next_stays blocks (omega (arith, inside)) s inside k) few

    -- where the run goes on within the budget an entry may begin
    pub begins : (k at : ℕ) → (runs blocks s k).1 ≡ Went → k < budget → Begins (come_by blocks s k at)
    begins k at went room = record {
      went = went;
      room = room;
      apart = apart k;
    }

    -- the entries of a run are read one after another
    pub entries_fed : (k at : ℕ) → HasEntries blocks s k → k ≤ budget
        → feeds blocks budget (before Number (record { state = s; answer = Went; count = 0; at = at }))
        (entries blocks s k)
        ≡ before Number (come_by blocks s k (forth (entries blocks s k) at))
    entries_fed zero at h room = ap (λ (p : State × Stepped). before Number
        (record { state = p.0; answer = p.1; count = 0; at = at })) (sym (none blocks s))
    entries_fed (suc k) at h room =
        let went : (runs blocks s k).1 ≡ Went = h.on k (omega arith) in
        let entry = entry_bytes blocks (runs blocks s k).0 in
        let c = come_by blocks s k (forth (entries blocks s k) at) in
        let d = ahead entry c in
        let step = step_of blocks (runs blocks s k).0 in
        let is : runs blocks s (suc k) ≡ step = one_step blocks s k went in
        fed (entries blocks s k) entry (before Number (record { state = s; answer = Went; count = 0; at = at }))
        ∙ ap (λ (r : Reading). feeds blocks budget r entry)
        (entries_fed k at (fewer s k h) (omega (arith, room)))
        ∙ stepped c (begins k (forth (entries blocks s k) at) went (omega (arith, room)))
        ∙ stepped_is d step.0 step.1 (λ t. h.last (subst (λ (p : State × Stepped). Traps p.1) (sym is) t))
        ∙ ap (λ (p : State × Stepped). before Number (record { state = p.0; answer = p.1; count = suc k; at = d.at }))
        (sym is)
        ∙ ap (λ (n : ℕ). before Number (come_by blocks s (suc k) n))
        (sym (forth-append (entries blocks s k) entry at))

    -- all that stands before the rest
    pub reached : (k : ℕ) (rest : List ℕ) → HasEntries blocks s k → k ≤ budget
        → feeds blocks budget (unread s) (front ++ (entries blocks s k ++ rest))
        ≡ feeds blocks budget (before Number (come_by blocks s k (forth (entries blocks s k) 12))) rest
    reached k rest h room =
        fed front (entries blocks s k ++ rest) (unread s)
        ∙ fed (entries blocks s k) rest (before Number (record { state = s; answer = Went; count = 0; at = 12 }))
        ∙ ap (λ (r : Reading). feeds blocks budget r rest) (entries_fed k 12 h room)
