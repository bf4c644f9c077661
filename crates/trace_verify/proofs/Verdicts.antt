-- A trace is verified, and the first fault of bytes is what they are refused with.
use Rattle.std.proofs.Common.{◌≡◌, ℕ, zero, suc, ◌+◌, ◌<◌, ◌≤◌, ◌^◌, Bool, true, false, cond, eqb, nat_lt, List, []}
use Rattle.std.proofs.Common.{◌∷◌, ◌++◌, length, take, Option, Some, None, refl, sym, ap, subst, ◌∙◌, arith}
use Rattle.std.proofs.Common.{append_assoc}
use Rattle.std.specs.Str.{bytes_eq}
use Rattle.std.proofs.lemmas.List.{append-nil, append_cancel_left, length-append, take_at}
use Rattle.std.proofs.lemmas.Bool.{cond-true, cond-false, eq-eqb, eqb-true, ne_eqb, le-ltb}
use Rattle.byteorder.specs.Endian.{big_bytes}
use Rattle.trips_isa.specs.declared.block.Block.{Block}
use Rattle.trips_isa.specs.declared.block.Spot.TheVariants as spot
use Rattle.trips_isa.specs.declared.run.Stepped.{Stepped}
use Rattle.trips_isa.specs.declared.run.Stepped.TheVariants.{Went, Ended, StackFull, Trap}
use Rattle.trips_isa.specs.Machine.{State, step_of, runs}
use Rattle.trace_verify.specs.declared.fault.VerifyFault.{VerifyFault}
use Rattle.trace_verify.specs.declared.fault.VerifyFault.TheVariants.{Magic, Version, Truncated, Trailing}
use Rattle.trace_verify.specs.declared.fault.VerifyFault.TheVariants.{Past, WrongToken, WrongBlock}
use Rattle.trace_verify.specs.declared.fault.VerifyFault.TheVariants.{WrongExit, Faulting, TooLong}
use Rattle.trace_verify.specs.Spelling.{magic, front, end_bytes, Listed, listed_of, listed_bytes, exit_taken}
use Rattle.trace_verify.specs.Spelling.{entry_with, entry_bytes}
use Rattle.trace_verify.specs.Traces.{entries, HasEntries, IsTrace, Traps}
use Rattle.trace_verify.specs.FirstFault.{record_size, IsWrong, no_record, another, IsShort, nothing, Goes}
use Rattle.trace_verify.specs.FirstFault.{EntryFault, no_number, trailing, past, wrong_block, too_long, no_exit}
use Rattle.trace_verify.specs.FirstFault.{short_record, wrong_token, wrong_exit, faulting}
use Rattle.trace_verify.specs.FirstFault.{FirstFault, no_front, bad_magic, bad_version, in_entry}
use Rattle.trace_verify.specs.FirstFault as first
use Rattle.trace_verify.specs.Reading.{Place, Front, Number, Exit, Records, Whole, Stopped, Progress, Reading}
use Rattle.trace_verify.specs.Reading.{before, within, begun, unread, front_seen, block_come, number_come, stepped_to}
use Rattle.trace_verify.specs.Reading.{entry_come, records_next, record_come, record_seen, take_byte, feeds}
use Rattle.trace_verify.specs.Verdicts.{Verdict}
use Rattle.trace_verify.specs.Verdicts.{Verified, Refused, verdict}
use Rattle.trace_verify.proofs.Nexts.{one_step}
use Rattle.trace_verify.proofs.Records.{bytes_same, no_bytes_eq}
use Rattle.trace_verify.proofs.Forward.{forth, forth_is, forth-append, ahead, come_by, fed, stopped, begun_record}
use Rattle.trace_verify.proofs.Forward.{record_fed, number_fed, Begins, begin_fed, into_records, entry_fed, apart}
use Rattle.trace_verify.proofs.Forward.{reached}

module _ (blocks : List Block) (budget : ℕ) where
  -- what some bytes come to
  abbrev judged : Reading → List ℕ → Verdict
  judged r xs = verdict (feeds blocks budget r xs)

  -- a fault behind some bytes is the fault of these and all that follow
  refused_by : (r : Reading) (xs ys : List ℕ) (f : VerifyFault) (c : Progress)
      → feeds blocks budget r xs ≡ before (Stopped f) c → judged r (xs ++ ys) ≡ Refused f
  refused_by r xs ys f c e =
      ap (λ (t : Reading). verdict t)
      (fed blocks budget xs ys r ∙ ap (λ (t : Reading). feeds blocks budget t ys) e ∙ stopped blocks budget f c [] ys)

  -- the first entry -----------------------------------------------------------------------------

  short_number : (xs : List ℕ) → length xs < 4 → (c : Progress)
      → judged (before Number c) xs ≡ Refused (Truncated (forth xs c.at))
  short_number [] h c = refl
  short_number (x ∷ []) h c = refl
  short_number (x ∷ y ∷ []) h c = refl
  short_number (x ∷ y ∷ z ∷ []) h c = refl
  short_number (x ∷ y ∷ z ∷ w ∷ rest) h c = absurd (omega (arith, h))

  past_is : (seen : List ℕ) (c : Progress) (o : Stepped) → (o ≡ Went → ⊥)
      → block_come budget seen c o ≡ before (Stopped (Past c.count)) c
  past_is seen c Went h = absurd (h refl)
  past_is seen c Ended h = refl
  past_is seen c StackFull h = refl
  past_is seen c (Trap m) h = refl

  -- a number that is not the end word
  other_number : (xs : List ℕ) → length xs ≡ 4 → (xs ≡ end_bytes → ⊥) → (c : Progress)
      → feeds blocks budget (before Number c) xs ≡ block_come budget xs (ahead xs c) c.answer
  other_number xs four differs c =
      number_fed blocks budget xs four c
      ∙ cond-false (bytes_eq xs end_bytes) (before Whole (ahead xs c)) (block_come budget xs (ahead xs c) c.answer)
      (no_bytes_eq xs end_bytes differs)

  trap_is : (c : Progress) (t : State) (o : Stepped) → Traps o
      → stepped_to c t o ≡ before (Stopped (Faulting c.count)) c
  trap_is c t Went h = absurd h
  trap_is c t Ended h = absurd h
  trap_is c t StackFull h = absurd h
  trap_is c t (Trap m) h = refl

  short_is : (e : ℕ) (l : Listed) (ls : List Listed) (more : List ℕ) → IsShort more → (c : Progress)
      → judged (before (Records e l ls) c) more ≡ Refused (Truncated (forth more c.at))
  short_is e l ls [] nothing c = refl
  short_is e l ls (x ∷ more) (first.begun n size h) c =
      ap (λ (t : Reading). verdict t) (begun_record blocks budget e l ls x n more size c h)

  wrong_is : (e : ℕ) (l : Listed) (ls : List Listed) (more : List ℕ) → IsWrong l.bytes more → (c : Progress)
      → judged (before (Records e l ls) c) more ≡ Refused (WrongToken c.count (spot.Inst l.slot))
  wrong_is e l ls [] h c = elim h [ ]
  wrong_is e l ls (x ∷ more) (no_record size) c = refused_by (before (Records e l ls) c) (x ∷ []) more
      (WrongToken c.count (spot.Inst l.slot)) (ahead (x ∷ []) c)
      (ap (record_seen blocks e l ls (x ∷ []) (ahead (x ∷ []) c)) size)
  wrong_is e l ls (x ∷ more) (another rest others is size differs) c =
      ap (λ (m : List ℕ). judged (before (Records e l ls) c) (x ∷ m)) is
      ∙ refused_by (before (Records e l ls) c) (x ∷ rest) others (WrongToken c.count (spot.Inst l.slot))
      (ahead (x ∷ rest) c)
      (record_fed blocks budget e l ls c x rest size
      ∙ cond-false (bytes_eq (x ∷ rest) l.bytes) (records_next blocks e (ahead (x ∷ rest) c) ls)
      (before (Stopped (WrongToken c.count (spot.Inst l.slot))) (ahead (x ∷ rest) c))
      (no_bytes_eq (x ∷ rest) l.bytes differs))

  -- what the rest comes to, where `size` is the number of all bytes
  entry_refused : (c : Progress) (size : ℕ) (rest : List ℕ) (f : VerifyFault) → size ≡ c.at + length rest
      → (c.answer ≡ Went → big_bytes 4 c.state.next ≡ end_bytes → ⊥)
      → EntryFault blocks c.state c.answer budget c.count size rest f → judged (before Number c) rest ≡ Refused f
  entry_refused c size rest f all apart (no_number h) =
      let e : forth rest c.at ≡ size = forth_is rest c.at ∙ sym all in
      short_number rest h c ∙ ap (λ (n : ℕ). Refused (Truncated n)) e
  entry_refused c size rest f all apart (trailing x more at is sum) =
      let place : forth end_bytes c.at ≡ at =
      omega (arith, all, sum, ap (λ (xs : List ℕ). length xs) is) in
      ap (judged (before Number c)) is
      ∙ refused_by (before Number c) (end_bytes ++ x ∷ []) more (Trailing (forth end_bytes c.at))
      (ahead end_bytes c) refl
      ∙ ap (λ (n : ℕ). Refused (Trailing n)) place
  entry_refused c size rest f all apart (past number more is four differs over) =
      ap (judged (before Number c)) is
      ∙ refused_by (before Number c) number more (Past c.count) (ahead number c)
      (other_number number four differs c ∙ past_is number (ahead number c) c.answer over)
  entry_refused c size rest f all apart (wrong_block number more is four differs went other) =
      ap (judged (before Number c)) is
      ∙ refused_by (before Number c) number more (WrongBlock c.count) (ahead number c)
      (other_number number four differs c ∙ ap (block_come budget number (ahead number c)) went
      ∙ cond-false (bytes_eq number (big_bytes 4 c.state.next))
      (cond (nat_lt c.count budget) (before Exit (ahead number c))
      (before (Stopped (TooLong c.count)) (ahead number c)))
      (before (Stopped (WrongBlock c.count)) (ahead number c)) (no_bytes_eq number (big_bytes 4 c.state.next) other))
  entry_refused c size rest f all apart (too_long more is went over) =
      let n = big_bytes 4 c.state.next in
      let d = ahead n c in
      ap (judged (before Number c)) is
      ∙ refused_by (before Number c) n more (TooLong c.count) d
      (other_number n refl (apart went) c ∙ ap (block_come budget n d) went
      ∙ cond-true (bytes_eq n n) (cond (nat_lt c.count budget) (before Exit d) (before (Stopped (TooLong c.count)) d))
      (before (Stopped (WrongBlock c.count)) d) (bytes_same n)
      ∙ cond-false (nat_lt c.count budget) (before Exit d) (before (Stopped (TooLong c.count)) d)
      (le-ltb c.count budget over))
  entry_refused c size rest f all apart (no_exit is goes) =
      let n = big_bytes 4 c.state.next in
      let e : forth n c.at ≡ size = omega (arith, all, ap (λ (xs : List ℕ). length xs) is) in
      ap (judged (before Number c)) is
      ∙ ap (λ (t : Reading). verdict t) (begin_fed blocks budget c (starts goes))
      ∙ ap (λ (k : ℕ). Refused (Truncated k)) e
    where
      starts : Goes c.answer budget c.count → Begins blocks budget c
      starts g = record { went = g.went; room = g.within; apart = apart g.went }
  entry_refused c size rest f all apart (short_record exit earlier later l more listed is goes short) =
      let head = entry_with c.state.next exit earlier in
      let d = ahead head c in
      let e : forth more (forth head c.at) ≡ size =
      sym (forth-append head more c.at) ∙ forth_is (head ++ more) c.at
      ∙ ap (λ (xs : List ℕ). c.at + length xs) (sym is) ∙ sym all in
      ap (judged (before Number c)) is
      ∙ ap (λ (t : Reading). verdict t)
      (fed blocks budget head more (before Number c) ∙ ap (λ (t : Reading). feeds blocks budget t more)
      (into_records blocks budget c
      (record { went = goes.went; room = goes.within; apart = apart goes.went }) exit earlier (l ∷ later) listed))
      ∙ short_is exit l later more short d ∙ ap (λ (k : ℕ). Refused (Truncated k)) e
  entry_refused c size rest f all apart (wrong_token exit earlier later l more listed is goes wrong) =
      let head = entry_with c.state.next exit earlier in
      ap (judged (before Number c)) is
      ∙ ap (λ (t : Reading). verdict t)
      (fed blocks budget head more (before Number c) ∙ ap (λ (t : Reading). feeds blocks budget t more)
      (into_records blocks budget c
      (record { went = goes.went; room = goes.within; apart = apart goes.went }) exit earlier (l ∷ later) listed))
      ∙ wrong_is exit l later more wrong (ahead head c)
  entry_refused c size rest f all apart (wrong_exit exit more is goes other) =
      let whole = entry_with c.state.next exit (listed_of blocks c.state) in
      let d = ahead whole c in
      ap (judged (before Number c)) is
      ∙ refused_by (before Number c) whole more (WrongExit c.count) d
      (entry_fed blocks budget c
      (record { went = goes.went; room = goes.within; apart = apart goes.went }) exit
      ∙ cond-false (eqb exit (exit_taken blocks c.state))
      (stepped_to d (step_of blocks c.state).0 (step_of blocks c.state).1) (before (Stopped (WrongExit c.count)) d)
      (ne_eqb exit (exit_taken blocks c.state) other))
  entry_refused c size rest f all apart (faulting more is goes traps) =
      let e = exit_taken blocks c.state in
      let d = ahead (entry_bytes blocks c.state) c in
      ap (judged (before Number c)) is
      ∙ refused_by (before Number c) (entry_bytes blocks c.state) more (Faulting c.count) d
      (entry_fed blocks budget c
      (record { went = goes.went; room = goes.within; apart = apart goes.went }) e
      ∙ cond-true (eqb e e) (stepped_to d (step_of blocks c.state).0 (step_of blocks c.state).1)
      (before (Stopped (WrongExit c.count)) d) (eq-eqb e e refl)
      ∙ trap_is d (step_of blocks c.state).0 (step_of blocks c.state).1 traps)

  -- the front -----------------------------------------------------------------------------------

  front_kept : (seen xs : List ℕ) (c : Progress) → length seen + length xs < 12
      → (8 ≤ length seen + length xs → take 8 (seen ++ xs) ≡ magic) → length seen < 8
      → feeds blocks budget (within Front seen c) xs ≡ within Front (seen ++ xs) (ahead xs c)
  front_kept seen xs c h good early = go seen xs c h good
    where
      -- one byte more
      kept : (seen : List ℕ) (y : ℕ) (c : Progress) → suc (length seen) < 12
          → (length (seen ++ y ∷ []) ≡ 8 → seen ++ y ∷ [] ≡ magic)
          → front_seen (seen ++ y ∷ []) c ≡ within Front (seen ++ y ∷ []) c
      kept seen y c l is = by (eqb (length all) 8) refl
        where
          all : List ℕ
          all = seen ++ y ∷ []

          less : eqb (length all) 12 ≡ false
          less = ne_eqb (length all) 12 (λ e. omega (arith, e, l, length-append seen (y ∷ [])))

          later : Reading
          later = cond (eqb (length all) 12) (cond (bytes_eq all front) (before Number c)
              (before (Stopped Version) c))
              (within Front all c)

          eight : Reading
          eight = cond (bytes_eq all magic) (within Front all c) (before (Stopped Magic) c)

          by : (t : Bool) → eqb (length all) 8 ≡ t → cond t eight later ≡ within Front all c
          by true e =
              let m : all ≡ magic = is (eqb-true (length all) 8 e) in
              cond-true (bytes_eq all magic) (within Front all c) (before (Stopped Magic) c)
              (ap (λ (xs : List ℕ). bytes_eq all xs) (sym m) ∙ bytes_same all)
          by false e = cond-false (eqb (length all) 12)
              (cond (bytes_eq all front) (before Number c) (before (Stopped Version) c)) (within Front all c) less

      go : (seen xs : List ℕ) (c : Progress) → length seen + length xs < 12
          → (8 ≤ length seen + length xs → take 8 (seen ++ xs) ≡ magic)
          → feeds blocks budget (within Front seen c) xs ≡ within Front (seen ++ xs) (ahead xs c)
      go seen [] c h good = ap (λ (b : List ℕ). within Front b c) (sym (append-nil seen))
      go seen (y ∷ ys) c h good =
          let regroup : seen ++ y ∷ [] ++ ys ≡ seen ++ y ∷ ys = append_assoc seen (y ∷ []) ys in
          let longer = length-append seen (y ∷ []) in
          ap (λ (r : Reading). feeds blocks budget r ys) (kept seen y (ahead (y ∷ []) c) (omega (arith, h))
          (λ e. sym (take_at (seen ++ y ∷ []) ys 8 e) ∙ ap (take 8) regroup ∙ good (omega (arith, e, longer))))
          ∙ go (seen ++ y ∷ []) ys (ahead (y ∷ []) c) (omega (arith, h, longer))
          (λ e. ap (take 8) regroup ∙ good (omega (arith, e, longer)))
          ∙ ap (λ (b : List ℕ). within Front b (ahead (y ∷ ys) c)) regroup

  short_front : (s : State) (bytes : List ℕ) → length bytes < 12 → (8 ≤ length bytes → take 8 bytes ≡ magic)
      → judged (unread s) bytes ≡ Refused (Truncated (length bytes))
  short_front s bytes h good =
      let e : forth bytes 0 ≡ length bytes = forth_is bytes 0
      ∙ (let z : 0 + length bytes ≡ length bytes = omega arith in z) in
      ap (λ (t : Reading). verdict t) (front_kept [] bytes (begun s) (omega (arith, h)) (λ l. good (omega (arith, l)))
      (omega arith))
      ∙ ap (λ (n : ℕ). Refused (Truncated n)) e

  magic_bad : (s : State) (bytes : List ℕ) → 8 ≤ length bytes → (take 8 bytes ≡ magic → ⊥)
      → judged (unread s) bytes ≡ Refused Magic
  magic_bad s (a ∷ b ∷ c ∷ d ∷ e ∷ f ∷ g ∷ h ∷ rest) l differs =
      refused_by (unread s) (a ∷ b ∷ c ∷ d ∷ e ∷ f ∷ g ∷ h ∷ []) rest Magic (record (begun s) { at = 8 })
      (cond-false (bytes_eq (a ∷ b ∷ c ∷ d ∷ e ∷ f ∷ g ∷ h ∷ []) magic)
      (within Front (a ∷ b ∷ c ∷ d ∷ e ∷ f ∷ g ∷ h ∷ []) (record (begun s) { at = 8 }))
      (before (Stopped Magic) (record (begun s) { at = 8 }))
      (no_bytes_eq (a ∷ b ∷ c ∷ d ∷ e ∷ f ∷ g ∷ h ∷ []) magic differs))
  magic_bad s [] l differs = absurd (omega (arith, l))
  magic_bad s (a ∷ []) l differs = absurd (omega (arith, l))
  magic_bad s (a ∷ b ∷ []) l differs = absurd (omega (arith, l))
  magic_bad s (a ∷ b ∷ c ∷ []) l differs = absurd (omega (arith, l))
  magic_bad s (a ∷ b ∷ c ∷ d ∷ []) l differs = absurd (omega (arith, l))
  magic_bad s (a ∷ b ∷ c ∷ d ∷ e ∷ []) l differs = absurd (omega (arith, l))
  magic_bad s (a ∷ b ∷ c ∷ d ∷ e ∷ f ∷ []) l differs = absurd (omega (arith, l))
  magic_bad s (a ∷ b ∷ c ∷ d ∷ e ∷ f ∷ g ∷ []) l differs = absurd (omega (arith, l))

  -- the version behind a good magic
  version_bad : (s : State) (v rest : List ℕ) → length v ≡ 4 → (v ≡ big_bytes 4 1 → ⊥)
      → judged (unread s) (magic ++ (v ++ rest)) ≡ Refused Version
  version_bad s (a ∷ b ∷ c ∷ d ∷ []) rest l differs =
      refused_by (unread s) (magic ++ a ∷ b ∷ c ∷ d ∷ []) rest Version (record (begun s) { at = 12 })
      (cond-false (bytes_eq (magic ++ a ∷ b ∷ c ∷ d ∷ []) front) (before Number (record (begun s) { at = 12 }))
      (before (Stopped Version) (record (begun s) { at = 12 })) (no_bytes_eq (magic ++ a ∷ b ∷ c ∷ d ∷ []) front
      (λ e. differs (append_cancel_left magic (a ∷ b ∷ c ∷ d ∷ []) (big_bytes 4 1) e))))
  version_bad s [] rest l differs = absurd (omega (arith, l))
  version_bad s (a ∷ []) rest l differs = absurd (omega (arith, l))
  version_bad s (a ∷ b ∷ []) rest l differs = absurd (omega (arith, l))
  version_bad s (a ∷ b ∷ c ∷ []) rest l differs = absurd (omega (arith, l))
  version_bad s (a ∷ b ∷ c ∷ d ∷ e ∷ v) rest l differs = absurd (omega (arith, l))

  module _ (s : State) (inside : s.next < length blocks) (few : length blocks < 2 ^ 32) where
    -- a trace
    pub completed : (b : ℕ) (bytes : List ℕ) → IsTrace blocks s b bytes → b ≤ budget
        → judged (unread s) bytes ≡ Verified b
    completed b bytes t room =
        ap (judged (unread s)) t.spelled
        ∙ ap (λ (r : Reading). verdict r) (reached blocks budget s inside few b end_bytes t.steps room)

    -- the first fault
    pub faulted : (bytes : List ℕ) (f : VerifyFault) → FirstFault blocks s budget bytes f
        → judged (unread s) bytes ≡ Refused f
    faulted bytes f (no_front h good) = short_front s bytes h good
    faulted bytes f (bad_magic h differs) = magic_bad s bytes h differs
    faulted bytes f (bad_version v rest is four differs) =
        ap (judged (unread s)) is ∙ version_bad s v rest four differs
    faulted bytes f (in_entry k rest g h room is fault) =
        let c = come_by blocks s k (forth (entries blocks s k) 12) in
        let size : length bytes ≡ c.at + length rest =
        omega (
          arith,
          ap (λ (xs : List ℕ). length xs) is,
          forth_is (entries blocks s k) 12,
          length-append (entries blocks s k) rest,
        ) in
        ap (judged (unread s)) is
        ∙ ap (λ (r : Reading). verdict r) (reached blocks budget s inside few k rest h room)
        ∙ entry_refused c (length bytes) rest g size (λ went. apart blocks budget s inside few k) fault
