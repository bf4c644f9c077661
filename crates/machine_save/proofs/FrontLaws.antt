-- What stands before the image: what is read stands there, and what stands there is read.
use Rattle.std.proofs.Common.{◌≡◌, ℕ, ◌+◌, ◌≤◌, List, ◌++◌, length, drop, Result, Ok, refl, sym, ap, ap₂, subst, ◌∙◌}
use Rattle.std.proofs.Common.{arith}
use Rattle.block_image.proofs.Each.{AreBytes}
use Rattle.trips_isa.specs.Images.{last_byte}
use Rattle.machine_save.specs.declared.fault.SaveFault.{SaveFault}
use Rattle.machine_save.specs.Limits.{most_output, most_memory, most_rest}
use Rattle.machine_save.specs.Spelling.{listed, IsHead, IsFront}
use Rattle.machine_save.specs.inside.Reading.{◌>>=◌, magic_at, version_at, head_at, list_at, stored_at, Lists}
use Rattle.machine_save.specs.inside.Reading.{lists_of}
use Rattle.machine_save.specs.inside.Reading.{rest_from, stored_from, lists_from, front_at, next_in, registers_in}
use Rattle.machine_save.specs.inside.Reading.{image_place}
use Rattle.machine_save.proofs.Steps.{bind_ok, bind_is, ok_is}
use Rattle.machine_save.proofs.HeadLaws.{magic_read, version_read, head_read, head_is, HeadAgain, head_again}
use Rattle.machine_save.proofs.ListLaws.{ListTaken, list_takes, stored_takes, behind, inside, list_again, stored_again}

-- the head, where reading has come to the lists
pub front_head : (bytes : List ℕ) (l : Lists) → AreBytes bytes → front_at bytes ≡ Ok l
    → IsHead bytes (next_in bytes) (registers_in bytes) (drop 1040 bytes) × (lists_from bytes ≡ Ok l)
unfolding front_at
front_head bytes l a e =
    let m = bind_ok (magic_at bytes) (λ u. version_at bytes >>= λ v. head_at bytes >>= λ w. lists_from bytes) l e in
    let v = bind_ok (version_at bytes) (λ v. head_at bytes >>= λ w. lists_from bytes) l m.2 in
    let w = bind_ok (head_at bytes) (λ w. lists_from bytes) l v.2 in
    (head_is bytes a (magic_read bytes m.0 m.1) (version_read bytes v.0 a v.1) (head_read bytes w.0 w.1), w.2)

-- what is read stands there
pub front_takes : (bytes : List ℕ) (l : Lists) → AreBytes bytes → front_at bytes ≡ Ok l
    → IsFront bytes (next_in bytes) (registers_in bytes) l.output l.stored l.rest (drop (image_place l) bytes)
front_takes bytes l a e =
    let h = front_head bytes l a e in
    let o = bind_ok (list_at most_output 1040 bytes) (λ output. stored_from output bytes) l h.1 in
    let output : List ℕ = o.0 in
    let s = bind_ok (stored_at (1044 + length output) bytes) (λ stored. rest_from output stored bytes) l o.2 in
    let stored : List ℕ = s.0 in
    let r = bind_ok (list_at most_rest (1048 + length output + length stored) bytes)
    (λ rest. Ok (lists_of output stored rest)) l s.2 in
    let rest : List ℕ = r.0 in
    let is : lists_of output stored rest ≡ l = ok_is (lists_of output stored rest) l r.2 in
    let ot = list_takes most_output 1040 bytes output a o.1 in
    let st = stored_takes (1044 + length output) bytes stored a s.1 in
    let rt = list_takes most_rest (1048 + length output + length stored) bytes rest a r.1 in
    let p : 1044 + length output + 4 + length stored ≡ 1048 + length output + length stored = omega arith in
    let q : 1048 + length output + length stored + 4 + length rest
    ≡ 1052 + length output + length stored + length rest = omega arith in
    let part : List ℕ = drop (1052 + length output + length stored + length rest) bytes in
    let e3 : drop (1048 + length output + length stored) bytes ≡ listed rest part =
    (rt.spelled) ∙ ap (λ (k : ℕ). listed rest (drop k bytes)) q in
    let e2 : drop (1044 + length output) bytes ≡ listed stored (listed rest part) =
    ((st.0).spelled) ∙ ap (λ (k : ℕ). listed stored (drop k bytes)) p ∙ ap (listed stored) e3 in
    let e1 : drop 1040 bytes ≡ listed output (listed stored (listed rest part)) =
    (ot.spelled) ∙ ap (listed output) e2 in
    subst (λ (k : Lists). IsFront bytes (next_in bytes) (registers_in bytes) k.output k.stored k.rest
    (drop (image_place k) bytes)) is (record {
      few_output = ot.few;
      few_stored = (st.0).few;
      last = st.1;
      few_rest = rt.few;
      spelled = subst (λ (x : List ℕ). IsHead bytes (next_in bytes) (registers_in bytes) x) e1 h.0;
    })

-- behind a head reading is that of the lists
pub to_lists : (bytes : List ℕ) (next : ℕ) (registers more : List ℕ) (r : Result Lists SaveFault)
    → HeadAgain bytes next registers more → lists_from bytes ≡ r → front_at bytes ≡ r
unfolding front_at
to_lists bytes next registers more r h e =
    bind_is (magic_at bytes) (λ u. version_at bytes >>= λ v. head_at bytes >>= λ w. lists_from bytes) tt r h.magic_is
    (bind_is (version_at bytes) (λ v. head_at bytes >>= λ w. lists_from bytes) tt r h.version_is
    (bind_is (head_at bytes) (λ w. lists_from bytes) tt r h.head_is e))

-- what reading gives where it stands there
pub record FrontAgain (bytes : List ℕ) (next : ℕ) (registers output stored rest part : List ℕ) : Type 0 where
  pub reads : front_at bytes ≡ Ok (lists_of output stored rest)
  pub next_is : next ≡ next_in bytes
  pub registers_are : registers ≡ registers_in bytes
  pub part_is : drop (1052 + length output + length stored + length rest) bytes ≡ part
  -- so many bytes are there
  pub room : 1052 + length output + length stored + length rest ≤ length bytes

pub front_again : (bytes : List ℕ) (next : ℕ) (registers output stored rest part : List ℕ)
    → IsFront bytes next registers output stored rest part
    → FrontAgain bytes next registers output stored rest part
front_again bytes next registers output stored rest part f =
    let h = head_again bytes next registers (listed output (listed stored (listed rest part))) f.spelled in
    let e1 : drop 1040 bytes ≡ listed output (listed stored (listed rest part)) = h.behind in
    let e2 : drop (1044 + length output) bytes ≡ listed stored (listed rest part) =
    behind 1040 bytes output (listed stored (listed rest part)) e1 in
    let p : 1044 + length output + 4 + length stored ≡ 1048 + length output + length stored = omega arith in
    let q : 1048 + length output + length stored + 4 + length rest
    ≡ 1052 + length output + length stored + length rest = omega arith in
    let e3 : drop (1048 + length output + length stored) bytes ≡ listed rest part =
    ap (λ (k : ℕ). drop k bytes) (sym p)
    ∙ behind (1044 + length output) bytes stored (listed rest part) e2 in
    let e4 : drop (1052 + length output + length stored + length rest) bytes ≡ part =
    ap (λ (k : ℕ). drop k bytes) (sym q)
    ∙ behind (1048 + length output + length stored) bytes rest part e3 in
    record {
      reads = to_lists bytes next registers (listed output (listed stored (listed rest part)))
          (Ok (lists_of output stored rest)) h
          (bind_is (list_at most_output 1040 bytes) (λ output. stored_from output bytes) output
          (Ok (lists_of output stored rest))
          (list_again most_output 1040 bytes output (listed stored (listed rest part)) (omega arith) f.few_output e1)
          (bind_is (stored_at (1044 + length output) bytes) (λ stored. rest_from output stored bytes) stored
          (Ok (lists_of output stored rest))
          (stored_again (1044 + length output) bytes stored (listed rest part) f.few_stored f.last e2)
          (bind_is (list_at most_rest (1048 + length output + length stored) bytes)
          (λ rest. Ok (lists_of output stored rest)) rest (Ok (lists_of output stored rest))
          (list_again most_rest (1048 + length output + length stored) bytes rest part (omega arith) f.few_rest e3)
          refl)));
      next_is = h.next_is;
      registers_are = h.registers_are;
      part_is = e4;
      room = let within = inside (1048 + length output + length stored) bytes rest part e3 in omega (arith, within);
    }
