-- Faults of what stands before the image: what reading meets is the first, and the first is what reading meets.
use Rattle.std.proofs.Common.{◌≡◌, ◌⊎◌, ℕ, ◌+◌, ◌≤◌, List, length, drop, Result, Ok, Err, inl, inr, refl, sym, ap}
use Rattle.std.proofs.Common.{subst, ◌∙◌}
use Rattle.std.proofs.Common.{arith, nat_lt}
use Rattle.block_image.proofs.Each.{AreBytes}
use Rattle.trips_isa.specs.Images.{last_byte}
use Rattle.machine_save.specs.declared.fault.SaveFault.{SaveFault}
use Rattle.machine_save.specs.declared.fault.SaveFault.TheVariants.{Magic, Version, Truncated, BadField}
use Rattle.machine_save.specs.Limits.{most_output, most_memory, most_rest}
use Rattle.machine_save.specs.Spelling.{listed, IsHead}
use Rattle.machine_save.specs.FirstFault.{ListFault, FrontFault, no_magic, bad_magic, no_version, bad_version}
use Rattle.machine_save.specs.FirstFault.{no_registers, in_output, in_memory, zero_last, in_rest}
use Rattle.machine_save.specs.inside.Reading.{◌>>=◌, wants, magic_at, version_at, head_at, list_at, stored_at, Lists}
use Rattle.machine_save.specs.inside.Reading.{lists_of, rest_from, stored_from, lists_from, front_at, next_in}
use Rattle.machine_save.specs.inside.Reading.{registers_in}
use Rattle.machine_save.proofs.Steps.{split, bind_is, bind_fails, want_fails, false_lt}
use Rattle.machine_save.proofs.HeadLaws.{magic_read, version_read, head_read, head_is, head_again, magic_fault}
use Rattle.machine_save.proofs.HeadLaws.{version_fault, head_fault, magic_short, magic_bad, version_short}
use Rattle.machine_save.proofs.HeadLaws.{version_bad}
use Rattle.machine_save.proofs.HeadLaws.{registers_short, HeadAgain}
use Rattle.machine_save.proofs.FrontLaws.{to_lists}
use Rattle.machine_save.proofs.ListLaws.{ListTaken, list_takes, stored_takes, behind, list_again, stored_again}
use Rattle.machine_save.proofs.ListLaws.{list_fault, list_fault_again, stored_zero, stored_fails}

-- the fault that reading meets ------------------------------------------------------------------

module _ (bytes : List ℕ) (a : AreBytes bytes) (f : SaveFault)
    (head : IsHead bytes (next_in bytes) (registers_in bytes) (drop 1040 bytes)) where
  abbrev starts : List ℕ → Type 0
  starts more = IsHead bytes (next_in bytes) (registers_in bytes) more

  -- in the rest of the input
  rest_fault : (output stored : List ℕ) → ListTaken most_output 1040 bytes output
      → ListTaken most_memory (1044 + length output) bytes stored → (last_byte stored ≡ 0 → ⊥)
      → rest_from output stored bytes ≡ Err f → FrontFault bytes f
  rest_fault output stored o s last e =
      let at : ℕ = 1048 + length output + length stored in
      let p : 1044 + length output + 4 + length stored ≡ at = omega arith in
      let e2 : drop (1044 + length output) bytes ≡ listed stored (drop at bytes) =
      (s.spelled) ∙ ap (λ (k : ℕ). listed stored (drop k bytes)) p in
      let e1 : drop 1040 bytes ≡ listed output (listed stored (drop at bytes)) =
      (o.spelled) ∙ ap (listed output) e2 in
      elim (split (list_at most_rest at bytes) (λ rest. Ok (lists_of output stored rest)) f e) [
        | inl h ↦ in_rest (next_in bytes) (registers_in bytes) output stored (drop at bytes) f
            (subst starts e1 head) o.few s.few last (list_fault most_rest at bytes f a h)
        | inr h ↦ absurd (let x : ◌≡◌ {A = Result Lists SaveFault} (Ok (lists_of output stored h.0)) (Err f) = h.2
            in cc)
      ]

  -- a zero ends the stored bytes
  ends_zero : (output : List ℕ) (at : ℕ) (xs : List ℕ) → ListTaken most_output 1040 bytes output
      → at ≡ 1044 + length output → drop 1040 bytes ≡ listed output (drop at bytes)
      → ListTaken most_memory at bytes xs
      → (wants (nat_lt 0 (last_byte xs)) (BadField (at + 3 + length xs)) ≡ Err f)
      ⊎ ((u : Unit {0}) × (wants (nat_lt 0 (last_byte xs)) (BadField (at + 3 + length xs)) ≡ Ok u)
      × (◌≡◌ {A = Result (List ℕ) SaveFault} (Ok xs) (Err f)))
      → FrontFault bytes f
  ends_zero output at xs o is e1 t (inl w) =
      let p = want_fails (nat_lt 0 (last_byte xs)) (BadField (at + 3 + length xs)) f w in
      let z : last_byte xs ≤ 0 = false_lt 0 (last_byte xs) p.0 in
      let place : 1047 + length output + length xs ≡ at + 3 + length xs = omega (arith, is) in
      subst (FrontFault bytes) (ap (λ (n : ℕ). BadField n) place ∙ p.1)
      (zero_last (next_in bytes) (registers_in bytes) output xs (drop (at + 4 + length xs) bytes)
      (subst starts (e1 ∙ ap (listed output) t.spelled) head) o.few t.few (omega (arith, z)))
  ends_zero output at xs o is e1 t (inr w) =
      absurd (let x : ◌≡◌ {A = Result (List ℕ) SaveFault} (Ok xs) (Err f) = w.2 in cc)

  -- in data memory
  memory_fault : (output : List ℕ) (at : ℕ) → ListTaken most_output 1040 bytes output → at ≡ 1044 + length output
      → drop 1040 bytes ≡ listed output (drop at bytes) → stored_at at bytes ≡ Err f → FrontFault bytes f
  unfolding stored_at
  memory_fault output at o is e1 h =
      elim (split (list_at most_memory at bytes)
      (λ xs. wants (nat_lt 0 (last_byte xs)) (BadField (at + 3 + length xs)) >>= λ u. Ok xs) f h) [
        | inl k ↦ in_memory (next_in bytes) (registers_in bytes) output (drop at bytes) f
            (subst starts e1 head) o.few
            (subst (λ (n : ℕ). ListFault most_memory n bytes f) is (list_fault most_memory at bytes f a k))
        | inr k ↦ ends_zero output at k.0 o is e1 (list_takes most_memory at bytes k.0 a k.1)
            (split (wants (nat_lt 0 (last_byte k.0)) (BadField (at + 3 + length k.0))) (λ u. Ok k.0) f k.2)
      ]

  -- in data memory, or behind it
  stored_fault : (output : List ℕ) → ListTaken most_output 1040 bytes output → stored_from output bytes ≡ Err f
      → FrontFault bytes f
  stored_fault output o e =
      let at : ℕ = 1044 + length output in
      elim (split (stored_at at bytes) (λ stored. rest_from output stored bytes) f e) [
        | inl h ↦ memory_fault output at o refl o.spelled h
        | inr h ↦ let t = stored_takes at bytes h.0 a h.1 in rest_fault output h.0 o t.0 t.1 h.2
      ]

  -- in the output, or behind it
  lists_fault : lists_from bytes ≡ Err f → FrontFault bytes f
  lists_fault e = elim (split (list_at most_output 1040 bytes) (λ output. stored_from output bytes) f e) [
    | inl h ↦ in_output (next_in bytes) (registers_in bytes) (drop 1040 bytes) f head
        (list_fault most_output 1040 bytes f a h)
    | inr h ↦ stored_fault h.0 (list_takes most_output 1040 bytes h.0 a h.1) h.2
  ]

-- the fault that reading meets is the first
pub front_fault : (bytes : List ℕ) (f : SaveFault) → AreBytes bytes → front_at bytes ≡ Err f → FrontFault bytes f
unfolding front_at
front_fault bytes f a e =
    elim (split (magic_at bytes) (λ u. version_at bytes >>= λ v. head_at bytes >>= λ w. lists_from bytes) f e) [
      | inl h ↦ magic_fault bytes f h
      | inr h ↦
          let m = magic_read bytes h.0 h.1 in
          elim (split (version_at bytes) (λ v. head_at bytes >>= λ w. lists_from bytes) f h.2) [
            | inl k ↦ version_fault bytes f a m k
            | inr k ↦
                let v = version_read bytes k.0 a k.1 in
                elim (split (head_at bytes) (λ w. lists_from bytes) f k.2) [
                  | inl w ↦ head_fault bytes f m v w
                  | inr w ↦ lists_fault bytes a f (head_is bytes a m v (head_read bytes w.0 w.1)) w.2
                ]
          ]
    ]

-- the first fault is met ------------------------------------------------------------------------

-- the steps behind the magic, and behind the version
abbrev past_magic : List ℕ → Unit {0} → Result Lists SaveFault
past_magic bytes u = version_at bytes >>= λ v. head_at bytes >>= λ w. lists_from bytes

abbrev past_version : List ℕ → Unit {0} → Result Lists SaveFault
past_version bytes v = head_at bytes >>= λ w. lists_from bytes

-- reading stops at the magic, at the version, at the registers
stops_first : (bytes : List ℕ) (f : SaveFault) → magic_at bytes ≡ Err f → front_at bytes ≡ Err f
unfolding front_at
stops_first bytes f e = bind_fails (magic_at bytes) (past_magic bytes) f e

stops_second : (bytes : List ℕ) (f : SaveFault) → (magic_at bytes ≡ Ok tt) × (version_at bytes ≡ Err f)
    → front_at bytes ≡ Err f
unfolding front_at
stops_second bytes f e = bind_is (magic_at bytes) (past_magic bytes) tt (Err f) e.0
    (bind_fails (version_at bytes) (past_version bytes) f e.1)

stops_third : (bytes : List ℕ) (f : SaveFault)
    → (magic_at bytes ≡ Ok tt) × (version_at bytes ≡ Ok tt) × (head_at bytes ≡ Err f) → front_at bytes ≡ Err f
unfolding front_at
stops_third bytes f e = bind_is (magic_at bytes) (past_magic bytes) tt (Err f) e.0
    (bind_is (version_at bytes) (past_version bytes) tt (Err f) e.1
    (bind_fails (head_at bytes) (λ w. lists_from bytes) f e.2))

-- behind a head and an output reading is that of data memory
to_stored : (bytes : List ℕ) (next : ℕ) (registers output more : List ℕ) (r : Result Lists SaveFault)
    → HeadAgain bytes next registers (listed output more) → length output ≤ most_output
    → stored_from output bytes ≡ r → front_at bytes ≡ r
to_stored bytes next registers output more r h few e = to_lists bytes next registers (listed output more) r h
    (bind_is (list_at most_output 1040 bytes) (λ output. stored_from output bytes) output r
    (list_again most_output 1040 bytes output more (omega arith) few h.behind) e)

pub front_fault_again : (bytes : List ℕ) (f : SaveFault) → FrontFault bytes f → front_at bytes ≡ Err f
front_fault_again bytes f g = elim g as (λ f g. front_at bytes ≡ Err f) [
  | no_magic l ↦ stops_first bytes (Truncated (length bytes)) (magic_short bytes l)
  | bad_magic l n ↦ stops_first bytes Magic (magic_bad bytes l n)
  | no_version rest e l ↦ stops_second bytes (Truncated (length bytes)) (version_short bytes rest e l)
  | bad_version v rest e l n ↦ stops_second bytes Version (version_bad v bytes rest e l n)
  | no_registers rest e l ↦ stops_third bytes (Truncated (length bytes)) (registers_short bytes rest e l)
  | in_output next registers more f h l ↦
      to_lists bytes next registers more (Err f) (head_again bytes next registers more h)
      (bind_fails (list_at most_output 1040 bytes) (λ output. stored_from output bytes) f
      (list_fault_again most_output 1040 bytes f l))
  | in_memory next registers output more f h few l ↦
      to_stored bytes next registers output more (Err f)
      (head_again bytes next registers (listed output more) h) few
      (bind_fails (stored_at (1044 + length output) bytes) (λ stored. rest_from output stored bytes) f
      (stored_fails (1044 + length output) bytes f l))
  | zero_last next registers output stored more h few_output few z ↦
      let k = head_again bytes next registers (listed output (listed stored more)) h in
      let e2 = behind 1040 bytes output (listed stored more) k.behind in
      let place : 1044 + length output + 3 + length stored ≡ 1047 + length output + length stored = omega arith in
      to_stored bytes next registers output (listed stored more)
      (Err (BadField (1047 + length output + length stored))) k few_output
      (bind_fails (stored_at (1044 + length output) bytes) (λ stored. rest_from output stored bytes)
      (BadField (1047 + length output + length stored))
      (subst (λ (n : ℕ). stored_at (1044 + length output) bytes ≡ Err (BadField n)) place
      (stored_zero (1044 + length output) bytes stored more few z e2)))
  | in_rest next registers output stored more f h few_output few last l ↦
      let k = head_again bytes next registers (listed output (listed stored more)) h in
      let e2 = behind 1040 bytes output (listed stored more) k.behind in
      to_stored bytes next registers output (listed stored more) (Err f) k few_output
      (bind_is (stored_at (1044 + length output) bytes) (λ stored. rest_from output stored bytes) stored (Err f)
      (stored_again (1044 + length output) bytes stored more few last e2)
      (bind_fails (list_at most_rest (1048 + length output + length stored) bytes)
      (λ rest. Ok (lists_of output stored rest)) f
      (list_fault_again most_rest (1048 + length output + length stored) bytes f l)))
]
