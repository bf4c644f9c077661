-- One line after the other, as a loop reads them.
use Rattle.std.proofs.Common.{◌≡◌, ℕ, suc, ◌+◌, ◌-◌, ◌<◌, ◌≤◌, List, [], ◌∷◌, ◌++◌}
use Rattle.std.proofs.Common.{append_assoc}
use Rattle.std.proofs.Common.{refl, sym, ap, ◌∙◌, arith, true, false, Result, Ok, Err}
use Rattle.target_asm_spec.specs.declared.fault.AsmFault.{AsmFault}
use Rattle.target_asm_spec.specs.declared.fault.AsmFault.TheVariants.{Syntax}
use Rattle.target_asm_spec.specs.inside.Blocks.{◌>>>◌, Taken, begins, lines_in}
use Rattle.target_asm.specs.inside.Taking.{with_front}

no_front : {A : Type 0} (r : Taken (List A)) → with_front [] r ≡ r
no_front (Ok r) = refl
no_front (Err e) = refl

-- an item more before what is still read
one_more : {A : Type 0} (out : List A) (x : A) (r : Taken (List A))
    → with_front out (r >>> λ rs. Ok (x ∷ rs.0, rs.1, rs.2)) ≡ with_front (out ++ x ∷ []) r
one_more {A = A} out x (Ok r) =
    let f : List A → Taken (List A) = λ l. Ok (l, r.1, r.2) in
    ap f (sym (append_assoc out (x ∷ []) r.0))
one_more out x (Err e) = refl

module _ {A : Type 0} (front : List ℕ) (one : ℕ → ℕ → List ℕ → Result (A × List ℕ) AsmFault) where
  lines_open : (n i line : ℕ) (text : List ℕ) → begins front text ≡ true
      → lines_in front one (suc n) i line text
      ≡ (one i line text >>> λ r. lines_in front one n (i + 1) (line + 1) r.1 >>> λ rs. Ok
      (r.0 ∷ rs.0, rs.1, rs.2))
  unfolding lines_in
  lines_open n i line text b = rw b refl

  lines_stop : (n i line : ℕ) (text : List ℕ) → begins front text ≡ false
      → lines_in front one (suc n) i line text ≡ Ok ([], line, text)
  unfolding lines_in
  lines_stop n i line text b = rw b refl

  lines_over : (i line : ℕ) (text : List ℕ) → lines_in front one 0 i line text ≡ Err (Syntax line)
  unfolding lines_in
  lines_over i line text = refl

  pub rows_start : (n line : ℕ) (text : List ℕ) (out : List A) → out ≡ []
      → with_front out (lines_in front one (n - 0) 0 (line + 0) text)
      ≡ lines_in front one n 0 line text
  rows_start n line text out e =
      let a : n - 0 ≡ n = omega arith in
      let b : line + 0 ≡ line = omega arith in
      rw (e, a, b) (no_front (lines_in front one n 0 line text))

  -- where the next line is read, what is read on the whole stays the same
  pub rows_next : (n i line : ℕ) (text rest : List ℕ) (out new : List A) (x : A)
      (total : Taken (List A)) → i < n
      → begins front text ≡ true → one i (line + i) text ≡ Ok (x, rest) → new ≡ out ++ x ∷ []
      → with_front out (lines_in front one (n - i) i (line + i) text) ≡ total
      → with_front new (lines_in front one (n - (i + 1)) (i + 1) (line + (i + 1)) rest) ≡ total
  rows_next n i line text rest out new x total l b o e t =
      let c : n - i ≡ suc (n - (i + 1)) = omega (arith, l) in
      let d : line + (i + 1) ≡ line + i + 1 = omega arith in
      let more : Taken (List A) = lines_in front one (n - (i + 1)) (i + 1) (line + i + 1) rest in
      let step : lines_in front one (n - i) i (line + i) text ≡ (more >>> λ rs. Ok (x ∷ rs.0, rs.1, rs.2)) =
      ap (λ (m : ℕ). lines_in front one m i (line + i) text) c
      ∙ lines_open (n - (i + 1)) i (line + i) text b
      ∙ ap (λ (r : Result (A × List ℕ) AsmFault). r >>> λ r. lines_in front one (n - (i + 1))
      (i + 1) (line + i + 1) r.1 >>> λ rs. Ok (r.0 ∷ rs.0, rs.1, rs.2)) o in
      ap (λ (m : ℕ). with_front new (lines_in front one (n - (i + 1)) (i + 1) m rest)) d
      ∙ ap (λ (l : List A). with_front l more) e ∙ sym (one_more out x more)
      ∙ ap (with_front out) (sym step) ∙ t

  -- where no such line follows, the whole is what was read so far
  pub rows_stop : (n i line : ℕ) (text : List ℕ) (out : List A) (total : Taken (List A)) → i < n
      → begins front text ≡ false → with_front out (lines_in front one (n - i) i (line + i) text)
      ≡ total
      → total ≡ Ok (out, line + i, text)
  rows_stop n i line text out total l b t =
      let c : n - i ≡ suc (n - (i + 1)) = omega (arith, l) in
      let step : lines_in front one (n - i) i (line + i) text ≡ Ok ([], line + i, text) =
      ap (λ (m : ℕ). lines_in front one m i (line + i) text) c
      ∙ lines_stop (n - (i + 1)) i (line + i) text b in
      let f : List A → Taken (List A) = λ l. Ok (l, line + i, text) in
      sym t ∙ ap (with_front out) step ∙ ap f (append_nil out)
    where
      append_nil : (l : List A) → l ++ [] ≡ l
      append_nil [] = refl
      append_nil (x ∷ l) = ap (λ (m : List A). x ∷ m) (append_nil l)

  -- where the next such line has a fault, the whole has this fault
  pub rows_fail : (n i line : ℕ) (text : List ℕ) (out : List A) (total : Taken (List A))
      (e : AsmFault) → i < n
      → begins front text ≡ true → one i (line + i) text ≡ Err e
      → with_front out (lines_in front one (n - i) i (line + i) text) ≡ total → total ≡ Err e
  rows_fail n i line text out total e l b o t =
      let c : n - i ≡ suc (n - (i + 1)) = omega (arith, l) in
      let step : lines_in front one (n - i) i (line + i) text ≡ Err e =
      ap (λ (m : ℕ). lines_in front one m i (line + i) text) c
      ∙ lines_open (n - (i + 1)) i (line + i) text b
      ∙ ap (λ (r : Result (A × List ℕ) AsmFault). r >>> λ r. lines_in front one (n - (i + 1))
      (i + 1) (line + i + 1) r.1 >>> λ rs. Ok (r.0 ∷ rs.0, rs.1, rs.2)) o in
      sym t ∙ ap (with_front out) step

  -- after n lines the whole is a fault of syntax
  pub rows_over : (n i line : ℕ) (text : List ℕ) (out : List A) (total : Taken (List A)) → n ≤ i
      → i ≤ n
      → with_front out (lines_in front one (n - i) i (line + i) text) ≡ total
      → total ≡ Err (Syntax (line + n))
  rows_over n i line text out total l h t =
      let c : n - i ≡ 0 = omega (arith, l) in
      let d : line + i ≡ line + n = omega (arith, l, h) in
      let step : lines_in front one (n - i) i (line + i) text ≡ Err (Syntax (line + n)) =
      ap (λ (m : ℕ). lines_in front one m i (line + i) text) c ∙ lines_over i (line + i) text
      ∙ ap (λ (m : ℕ). Err (Syntax m)) d in
      sym t ∙ ap (with_front out) step
