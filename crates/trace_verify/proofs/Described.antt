-- What has been read is described by all bytes so far, a byte at a time.
use Rattle.std.proofs.Common.{◌≡◌, ℕ, suc, ◌+◌, ◌<◌, ◌≤◌, Bool, true, false, cond, eqb, nat_lt, List, []}
use Rattle.std.proofs.Common.{◌∷◌, ◌++◌, length, take, drop, Option, Some, None, refl, sym, ap, subst, ◌∙◌, arith}
use Rattle.std.proofs.Common.{append_assoc, slice_index, inl, inr}
use Rattle.std.specs.Str.{bytes_eq}
use Rattle.std.specs.List.{flat_map}
use Rattle.std.proofs.lemmas.List.{append-nil, length-append, take_at, take-append-drop, length-drop, take-append-le}
use Rattle.std.proofs.lemmas.List.Concat.{flat_map-append}
use Rattle.std.proofs.lemmas.Bool.{cases_lt, cond_both, eqb-true, eqb-false, ltb-true, ltb-false}
use Rattle.std.proofs.lemmas.Slice.Eq.{bytes_eq-Decides}
use Rattle.byteorder.specs.Endian.{big_bytes}
use Rattle.trips_isa.specs.declared.block.Block.{Block}
use Rattle.trips_isa.specs.declared.block.Spot.TheVariants as spot
use Rattle.trips_isa.specs.declared.run.Stepped.{Stepped}
use Rattle.trips_isa.specs.declared.run.Stepped.TheVariants.{Went, Ended, StackFull, Trap}
use Rattle.trips_isa.specs.Machine.{State, runs}
use Rattle.trace_verify.specs.Traces.{Traps}
use Rattle.trace_verify.specs.declared.fault.VerifyFault.{VerifyFault}
use Rattle.trace_verify.specs.declared.fault.VerifyFault.TheVariants.{Magic, Version, Trailing}
use Rattle.trace_verify.specs.declared.fault.VerifyFault.TheVariants.{Past, WrongToken, WrongBlock}
use Rattle.trace_verify.specs.declared.fault.VerifyFault.TheVariants.{TooLong}
use Rattle.trace_verify.specs.Spelling.{magic, front, end_bytes, Listed, listed_of, listed_bytes}
use Rattle.trace_verify.specs.Spelling.{entry_with}
use Rattle.trace_verify.specs.FirstFault.{record_size, IsWrong, no_record, another, IsShort, nothing, Goes}
use Rattle.trace_verify.specs.FirstFault.{trailing, past, wrong_block, too_long}
use Rattle.trace_verify.specs.FirstFault.{wrong_token}
use Rattle.trace_verify.specs.FirstFault.{FirstFault, bad_magic, bad_version}
use Rattle.trace_verify.specs.FirstFault as first
use Rattle.trace_verify.specs.Reading.{Place, Front, Number, Exit, Records, Whole, Stopped, Progress, Reading}
use Rattle.trace_verify.specs.Reading.{before, within, begun, unread, front_seen, block_come, number_come}
use Rattle.trace_verify.specs.Reading.{number_seen}
use Rattle.trace_verify.specs.Reading.{records_next, record_come, record_seen, take_byte}
use Rattle.trace_verify.specs.Reading.{feeds}
use Rattle.trace_verify.proofs.Nexts.{none}
use Rattle.trace_verify.proofs.Forward.{come_by}
use Rattle.trace_verify.proofs.EntryEnds.{size_some}
use Rattle.trace_verify.proofs.EntryEnds as ends

module _ (blocks : List Block) (budget : ℕ) (s : State) where
  abbrev ReadTo : ℕ → List ℕ → List ℕ → Type 0
  ReadTo k bytes rest = ends.ReadTo blocks budget s k bytes rest

  abbrev Stands : List ℕ → VerifyFault → Type 0
  Stands bytes f = ends.Stands blocks budget s bytes f

  abbrev by_steps : ℕ → List ℕ → Progress
  by_steps k bytes = come_by blocks s k (length bytes)

  abbrev Holds : List ℕ → Progress → List ℕ → Place → Type 0
  Holds bytes c seen p = ends.Holds blocks budget s bytes c seen p

  abbrev Described : List ℕ → Reading → Type 0
  Described bytes r = ends.Described blocks budget s bytes r

  -- a byte more, by what comes --------------------------------------------------------------------

  module _ (bytes : List ℕ) (x : ℕ) where
    abbrev longer : List ℕ
    longer = bytes ++ x ∷ []

    -- counted
    abbrev counted : Progress → Progress
    counted c = record c { at = suc c.at }

    counted_is : (k : ℕ) → counted (by_steps k bytes) ≡ by_steps k longer
    counted_is k = ap (λ (n : ℕ). come_by blocks s k n) (ends.one_longer blocks budget s bytes x)

    grown : (k : ℕ) (rest : List ℕ) → ReadTo k bytes rest → ReadTo k longer (rest ++ x ∷ [])
    grown k rest r = record {
      steps = r.steps;
      room = r.room;
      read = ends.read_more blocks budget s k bytes rest
          (x ∷ []) r.read;
    }

    -- the front
    front_come : length bytes < 12 → (8 ≤ length bytes → take 8 bytes ≡ magic)
        → Described longer (front_seen longer (record (begun s) { at = length longer }))
    front_come few good =
        cond_both (eqb (length longer) 8)
        (cond (bytes_eq longer magic) (within Front longer c) (before (Stopped Magic) c))
        (cond (eqb (length longer) 12) (cond (bytes_eq longer front) (before Number c) (before (Stopped Version) c))
        (within Front longer c)) (λ (r : Reading). Described longer r)
        (λ eight. cond_both (bytes_eq longer magic) (within Front longer c) (before (Stopped Magic) c)
        (λ (r : Reading). Described longer r)
        (λ same. (
          refl,
          refl,
          omega (arith, eqb-true (length longer) 8 eight),
          λ l. whole (eqb-true (length longer) 8 eight) ∙ (bytes_eq-Decides longer magic).0 same,
        ))
        (λ other more. bad_magic (omega (arith, eqb-true (length longer) 8 eight, length-append longer more))
        (λ e. no_true (bytes_eq longer magic) other ((bytes_eq-Decides longer magic).1
        (sym (take_at longer more 8 (eqb-true (length longer) 8 eight)) ∙ e)))))
        (λ not_eight. cond_both (eqb (length longer) 12)
        (cond (bytes_eq longer front) (before Number c) (before (Stopped Version) c)) (within Front longer c)
        (λ (r : Reading). Described longer r)
        (λ twelve. cond_both (bytes_eq longer front) (before Number c) (before (Stopped Version) c)
        (λ (r : Reading). Described longer r)
        (λ same. first_entry ((bytes_eq-Decides longer front).0 same))
        (λ other more. version_come (eqb-true (length longer) 12 twelve) other more))
        (λ not_twelve. (
          refl,
          refl,
          omega (arith, few, ends.one_longer blocks budget s bytes x, eqb-false (length longer) 12 not_twelve),
          still (eqb-false (length longer) 8 not_eight),
        )))
      where
        c : Progress
        c = record (begun s) { at = length longer }

        no_true : (t : Bool) → t ≡ false → t ≡ true → ⊥
        no_true true e h = absurd (cc)
        no_true false e h = absurd (cc)

        whole : length longer ≡ 8 → take 8 longer ≡ longer
        whole e = ap (take 8) (sym (append-nil longer)) ∙ take_at longer [] 8 e

        -- the magic that had come stands
        still : (length longer ≡ 8 → ⊥) → 8 ≤ length longer → take 8 longer ≡ magic
        still differs l =
            let m : 8 ≤ length bytes = at_least in
            take-append-le 8 bytes (x ∷ []) m ∙ good m
          where
            at_least : 8 ≤ length bytes
            at_least = elim (cases_lt (length bytes) 8) [
              | inl lt ↦ absurd (differs (omega (arith, lt, l, ends.one_longer blocks budget s bytes x)))
              | inr ge ↦ ge
            ]

        first_entry : longer ≡ front → Described longer (before Number c)
        first_entry e = (
          0,
          ap (λ (p : State × Stepped). record { state = p.0; answer = p.1; count = 0; at = length longer })
              (sym (none blocks s)),
          record {
            steps = record {
              on = λ i l. absurd (omega (arith, l));
              last = λ t. subst (λ (p : State × Stepped). Traps p.1) (none blocks s) t;
            };
            room = omega arith;
            read = e;
          },
          omega arith,
        )

        version_come : length longer ≡ 12 → bytes_eq longer front ≡ false → Stands longer Version
        version_come twelve other more =
            let l : 8 ≤ length bytes = omega (arith, twelve, ends.one_longer blocks budget s bytes x) in
            let m : take 8 longer ≡ magic = take-append-le 8 bytes (x ∷ []) l ∙ good l in
            let parts : longer ≡ magic ++ drop 8 longer =
            sym (take-append-drop 8 longer) ∙ ap (λ (xs : List ℕ). xs ++ drop 8 longer) m in
            bad_version (drop 8 longer) more
            (ap (λ (xs : List ℕ). xs ++ more) parts ∙ append_assoc magic (drop 8 longer) more)
            (omega (arith, twelve, length-drop 8 longer))
            (λ e. no_true (bytes_eq longer front) other ((bytes_eq-Decides longer front).1
            (parts ∙ ap (λ (xs : List ℕ). magic ++ xs) e)))

    -- a number
    number_is : (k : ℕ) (seen : List ℕ) → ReadTo k bytes seen → length seen < 4
        → Described longer (number_seen budget (seen ++ x ∷ []) (by_steps k longer))
    number_is k seen r few =
        cond_both (eqb (length all) 4) (number_come budget all c) (within Number all c)
        (λ (t : Reading). Described longer t)
        (λ four. cond_both (bytes_eq all end_bytes) (before Whole c) (block_come budget all c c.answer)
        (λ (t : Reading). Described longer t)
        (λ same. (k, refl, subst (λ (xs : List ℕ). ReadTo k longer xs) ((bytes_eq-Decides all end_bytes).0 same) now))
        (λ other. by_answer (eqb-true (length all) 4 four)
        (λ e. no_true (bytes_eq all end_bytes) other ((bytes_eq-Decides all end_bytes).1 e)) c.answer refl))
        (λ less. (
          k,
          refl,
          now,
          omega (arith, few, length-append seen (x ∷ []), eqb-false (length all) 4 less),
        ))
      where
        all : List ℕ
        all = seen ++ x ∷ []

        c : Progress
        c = by_steps k longer

        now : ReadTo k longer all
        now = grown k seen r

        no_true : (t : Bool) → t ≡ false → t ≡ true → ⊥
        no_true true e h = absurd (cc)
        no_true false e h = absurd (cc)

        came_past : length all ≡ 4 → (all ≡ end_bytes → ⊥) → ((runs blocks s k).1 ≡ Went → ⊥) → Stands longer (Past k)
        came_past four differs over = ends.stands_by blocks budget s k longer all (Past k) now
            (λ more. past all more refl four differs over)

        by_answer : length all ≡ 4 → (all ≡ end_bytes → ⊥) → (o : Stepped) → (runs blocks s k).1 ≡ o
            → Described longer (block_come budget all c o)
        by_answer four differs Ended is = came_past four differs (λ e. let bad : Ended ≡ Went = sym is ∙ e in cc)
        by_answer four differs StackFull is = came_past four differs
            (λ e. let bad : StackFull ≡ Went = sym is ∙ e in cc)
        by_answer four differs (Trap m) is = came_past four differs (λ e. let bad : Trap m ≡ Went = sym is ∙ e in cc)
        by_answer four differs Went is =
            cond_both (bytes_eq all n) (cond (nat_lt k budget) (before Exit c) (before (Stopped (TooLong k)) c))
            (before (Stopped (WrongBlock k)) c) (λ (t : Reading). Described longer t)
            (λ same. cond_both (nat_lt k budget) (before Exit c) (before (Stopped (TooLong k)) c)
            (λ (t : Reading). Described longer t)
            (λ room. (
              k,
              refl,
              refl,
              subst (λ (xs : List ℕ). ReadTo k longer xs) ((bytes_eq-Decides all n).0 same) now,
              record { went = is; within = ltb-true k budget room },
            ))
            (λ full. ends.stands_by blocks budget s k longer n (TooLong k)
            (subst (λ (xs : List ℕ). ReadTo k longer xs) ((bytes_eq-Decides all n).0 same) now)
            (λ more. too_long more refl is (ltb-false k budget full))))
            (λ other. ends.stands_by blocks budget s k longer all (WrongBlock k) now
            (λ more. wrong_block all more refl four differs is
            (λ e. no_true (bytes_eq all n) other ((bytes_eq-Decides all n).1 e))))
          where
            n : List ℕ
            n = big_bytes 4 (runs blocks s k).0.next

    -- the exit
    exit_is : (k : ℕ) → ReadTo k bytes (big_bytes 4 (runs blocks s k).0.next) → Goes (runs blocks s k).1 budget k
        → Described longer (records_next blocks x (by_steps k longer) (listed_of blocks (runs blocks s k).0))
    exit_is k r goes = ends.next_is blocks budget s k longer x [] (listed_of blocks (runs blocks s k).0)
        (grown k (big_bytes 4 (runs blocks s k).0.next) r) refl goes

    -- a record
    record_is : (k : ℕ) (e : ℕ) (earlier : List Listed) (l : Listed) (ls : List Listed) (seen : List ℕ)
        → ReadTo k bytes (entry_with (runs blocks s k).0.next e earlier ++ seen)
        → listed_of blocks (runs blocks s k).0 ≡ earlier ++ (l ∷ ls) → Goes (runs blocks s k).1 budget k
        → IsShort seen
        → Described longer (record_seen blocks e l ls (seen ++ x ∷ []) (by_steps k longer)
        (record_size (slice_index (seen ++ x ∷ []) 0)))
    record_is k e earlier l ls seen r is goes short = by_seen seen r short
      where
        head : List ℕ
        head = entry_with (runs blocks s k).0.next e earlier

        c : Progress
        c = by_steps k longer

        no_true : (t : Bool) → t ≡ false → t ≡ true → ⊥
        no_true true e h = absurd (cc)
        no_true false e h = absurd (cc)

        -- behind a record that is right
        right : (all : List ℕ) → ReadTo k longer (head ++ all) → all ≡ l.bytes
            → Described longer (records_next blocks e c ls)
        right all now same = ends.next_is blocks budget s k longer e (earlier ++ l ∷ []) ls
            (subst (λ (xs : List ℕ). ReadTo k longer xs) (more_bytes all same) now)
            (is ∙ sym (append_assoc earlier (l ∷ []) ls)) goes
          where
            more_bytes : (all : List ℕ) → all ≡ l.bytes
                → head ++ all ≡ entry_with (runs blocks s k).0.next e (earlier ++ l ∷ [])
            more_bytes all same =
                ap (λ (xs : List ℕ). head ++ xs) (same ∙ sym (append-nil l.bytes))
                ∙ append_assoc (big_bytes 4 (runs blocks s k).0.next) (e ∷ listed_bytes earlier) (l.bytes ++ [])
                ∙ ap (λ (xs : List ℕ). big_bytes 4 (runs blocks s k).0.next ++ (e ∷ xs))
                (sym (flat_map-append (λ (m : Listed). m.bytes) earlier (l ∷ [])))

        wrong : (all : List ℕ) → ReadTo k longer (head ++ all)
            → ((more : List ℕ) → IsWrong l.bytes (all ++ more)) → Stands longer (WrongToken k (spot.Inst l.slot))
        wrong all now bad = ends.stands_by blocks budget s k longer (head ++ all)
            (WrongToken k (spot.Inst l.slot)) now
            (λ more. wrong_token e earlier ls l (all ++ more) is (append_assoc head all more) goes (bad more))

        by_size : (y : ℕ) (ys : List ℕ) → ReadTo k longer (head ++ (y ∷ ys)) → (o : Option ℕ) → record_size y ≡ o
            → ((n : ℕ) → o ≡ Some n → length ys < n)
            → Described longer (record_seen blocks e l ls (y ∷ ys) c o)
        by_size y ys now None size fits = wrong (y ∷ ys) now (λ more. no_record size)
        by_size y ys now (Some n) size fits =
            cond_both (eqb (length (y ∷ ys)) n) (record_come blocks e l ls (y ∷ ys) c)
            (within (Records e l ls) (y ∷ ys) c) (λ (t : Reading). Described longer t)
            (λ full. cond_both (bytes_eq (y ∷ ys) l.bytes) (records_next blocks e c ls)
            (before (Stopped (WrongToken k (spot.Inst l.slot))) c) (λ (t : Reading). Described longer t)
            (λ same. right (y ∷ ys) now ((bytes_eq-Decides (y ∷ ys) l.bytes).0 same))
            (λ other. wrong (y ∷ ys) now (λ more. another ys more refl
            (size ∙ ap (λ (m : ℕ). Some m) (sym (eqb-true (length (y ∷ ys)) n full)))
            (λ t. no_true (bytes_eq (y ∷ ys) l.bytes) other ((bytes_eq-Decides (y ∷ ys) l.bytes).1 t)))))
            (λ part. (
              k,
              earlier,
              refl,
              now,
              is,
              goes,
              first.begun n size (omega (arith, fits n refl, eqb-false (length (y ∷ ys)) n part)),
            ))

        by_seen : (seen : List ℕ) → ReadTo k bytes (head ++ seen) → IsShort seen
            → Described longer (record_seen blocks e l ls (seen ++ x ∷ []) c
            (record_size (slice_index (seen ++ x ∷ []) 0)))
        by_seen [] r nothing = by_size x []
            (subst (λ (xs : List ℕ). ReadTo k longer xs) (append_assoc head [] (x ∷ [])) (grown k (head ++ []) r))
            (record_size x) refl (λ n size. size_some x n size)
        by_seen (y ∷ ys) r (first.begun n size short) = by_size y (ys ++ x ∷ [])
            (subst (λ (xs : List ℕ). ReadTo k longer xs) (append_assoc head (y ∷ ys) (x ∷ []))
            (grown k (head ++ (y ∷ ys)) r))
            (record_size y) refl (λ m other.
            let same : Some n ≡ Some m = sym size ∙ other in
            let equal : n ≡ m = cc in
            omega (arith, short, equal, length-append ys (x ∷ [])))

    -- a byte behind the end word
    trailing_is : (k : ℕ) → ReadTo k bytes end_bytes → Stands longer (Trailing (length bytes))
    trailing_is k r = ends.stands_by blocks budget s k longer (end_bytes ++ x ∷ []) (Trailing (length bytes))
        (grown k end_bytes r)
        (λ more. trailing x more (length bytes) refl
        (omega (arith, length-append longer more, ends.one_longer blocks budget s bytes x)))

    -- a byte more, wherever it comes
    one_byte : (c : Progress) (seen : List ℕ) (p : Place) → Holds bytes c seen p
        → Described longer (take_byte blocks budget (within p seen c) x)
    one_byte c seen Front h =
        let now : record (begun s) { at = length longer } ≡ counted c =
        ap (λ (n : ℕ). record (begun s) { at = n }) (sym (ends.one_longer blocks budget s bytes x))
        ∙ ap (λ (d : Progress). counted d) (sym h.0) in
        let all : longer ≡ seen ++ x ∷ [] = ap (λ (xs : List ℕ). xs ++ x ∷ []) (sym h.1) in
        subst (λ (d : Progress). Described longer (front_seen (seen ++ x ∷ []) d)) now
        (subst (λ (xs : List ℕ). Described longer (front_seen xs (record (begun s) { at = length longer }))) all
        (front_come h.2 h.3))
    one_byte c seen Number h =
        let k = h.0 in
        let now : by_steps k longer ≡ counted c = sym (counted_is k) ∙ ap (λ (d : Progress). counted d) (sym h.1) in
        subst (λ (d : Progress). Described longer (number_seen budget (seen ++ x ∷ []) d)) now
        (number_is k seen h.2 h.3)
    one_byte c seen Exit h =
        let k = h.0 in
        let now : by_steps k longer ≡ counted c = sym (counted_is k) ∙ ap (λ (d : Progress). counted d) (sym h.1) in
        subst (λ (d : Progress). Described longer (records_next blocks x d (listed_of blocks d.state))) now
        (exit_is k h.3 h.4)
    one_byte c seen (Records e l ls) h =
        let k = h.0 in
        let now : by_steps k longer ≡ counted c = sym (counted_is k) ∙ ap (λ (d : Progress). counted d) (sym h.2) in
        subst (λ (d : Progress). Described longer (record_seen blocks e l ls (seen ++ x ∷ []) d
        (record_size (slice_index (seen ++ x ∷ []) 0)))) now
        (record_is k e h.1 l ls seen h.3 h.4 h.5 h.6)
    one_byte c seen Whole h =
        let k = h.0 in
        let place : length bytes ≡ c.at = ap (λ (d : Progress). d.at) (sym h.1) in
        subst (λ (n : ℕ). Stands longer (Trailing n)) place (trailing_is k h.2)
    one_byte c seen (Stopped f) h = λ more.
        subst (λ (xs : List ℕ). FirstFault blocks s budget xs f) (sym (append_assoc bytes (x ∷ []) more))
        (h (x ∷ more))

  -- all bytes --------------------------------------------------------------------------------------

  described_more : (xs bytes : List ℕ) (r : Reading) → Described bytes r
      → Described (bytes ++ xs) (feeds blocks budget r xs)
  described_more [] bytes r h =
      subst (λ (all : List ℕ). Described all r) (sym (append-nil bytes)) h
  described_more (x ∷ xs) bytes r h =
      subst (λ (all : List ℕ). Described all (feeds blocks budget (take_byte blocks budget r x) xs))
      (append_assoc bytes (x ∷ []) xs)
      (described_more xs (bytes ++ x ∷ []) (take_byte blocks budget r x)
      (one_byte bytes x r.progress r.seen r.place h))

  -- whatever bytes are read, what is held describes them
  pub described : (bytes : List ℕ) → Described bytes (feeds blocks budget (unread s) bytes)
  described bytes = described_more bytes [] (unread s)
      (refl, refl, omega arith, λ l. absurd (omega (arith, l)))
