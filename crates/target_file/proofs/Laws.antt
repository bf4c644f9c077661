-- What a user's file of target text tells is one thing.
use Rattle.std.proofs.Common.{◌≡◌, ℕ, suc, ◌+◌, ◌-◌, ◌≤◌, List, [], ◌∷◌, ◌++◌, length, ◌⊎◌, inl, inr}
use Rattle.std.proofs.Common.{refl, sym, ap, subst, ◌∙◌, arith, Bool, true, false, Result, Ok, Err}
use Rattle.std.specs.Prelude.{◌↔◌, ◌==◌, if◌then◌else◌, IfOk, IfErr, MatchResult}
use Rattle.std.proofs.lemmas.List.{length-append}
use Rattle.trips_isa.specs.declared.block.Image.{Image}
use Rattle.target_asm_spec.specs.Text.{TargetText}
use Rattle.target_asm_spec.specs.FirstAsmFault.{FirstAsmFault}
use Rattle.target_asm_spec.specs.declared.fault.AsmFault.{AsmFault}
use Rattle.target_asm_spec.specs.declared.fault.AsmFault.TheVariants.{Syntax, Range, Label, Memory}
use Rattle.target_asm_spec.proofs.Images as texts
use Rattle.target_asm_laws.proofs.FaultExact as faults
use Rattle.target_asm_laws.proofs.Judged.{some_of}
use Rattle.target_asm.specs.inside.Taking.{IsMemory, IsMemoryOr}
use Rattle.target_file.specs.Bare.{is_empty, is_blank, kept, told, in_first, lines_of, line_text, bare_lines, bare}
use Rattle.target_file.specs.Bare.{left_out, line_in_file}
use Rattle.target_file.specs.Files.{TargetFile, in_file, FirstFileFault}
use Rattle.target_file.proofs.Turns.{lines_some}
use Rattle.target_file.proofs.Texts.{text_bare}

-- images and faults ------------------------------------------------------------------------------

pub one_image : (i j : Image) (text : List ℕ) → TargetFile i text → TargetFile j text → i ≡ j
one_image i j text a b = texts.one_image i j (bare text) a b

pub one_fault : (text : List ℕ) (f g : AsmFault) → FirstFileFault text f → FirstFileFault text g → f ≡ g
one_fault text f g a b = a.2 ∙ ap (in_file text) (faults.one (bare text) a.0 b.0 a.1 b.1) ∙ sym b.2

pub not_both : (i : Image) (text : List ℕ) (f : AsmFault) → TargetFile i text → FirstFileFault text f → ⊥
not_both i text f a b = faults.not_both i (bare text) b.0 a b.1

pub some : (text : List ℕ) → ((i : Image) × TargetFile i text) ⊎ ((f : AsmFault) × FirstFileFault text f)
some text = go (some_of (bare text))
  where
    go : ((i : Image) × TargetText i (bare text)) ⊎ ((f : AsmFault) × FirstAsmFault (bare text) f)
        → ((i : Image) × TargetFile i text) ⊎ ((f : AsmFault) × FirstFileFault text f)
    go (inl x) = inl x
    go (inr x) = inr (in_file text x.0, (x.0, x.1, refl))

-- texts of images --------------------------------------------------------------------------------

pub text_is_file : (i : Image) (text : List ℕ) → TargetText i text → TargetFile i text
text_is_file i text h = subst (TargetText i) (sym (text_bare i text h)) h

-- where nothing is left out ----------------------------------------------------------------------

-- how long some lines are with their line feeds
abbrev size : List (List ℕ) → ℕ
size [] = 0
size (l ∷ []) = length l
size (l ∷ m ∷ ls) = suc (length l) + size (m ∷ ls)

first_size : (c : ℕ) (ls : List (List ℕ)) → size (in_first c ls) ≡ suc (size ls)
first_size c [] = refl
first_size c (l ∷ []) = refl
first_size c (l ∷ m ∷ ls) = omega arith

size_is : (text : List ℕ) → size (lines_of text) ≡ length text
size_is [] = refl
size_is (c ∷ cs) = go (c == 10) (size_is cs)
  where
    feed : (ls : List (List ℕ)) → is_empty ls ≡ false → size ([] ∷ ls) ≡ suc (size ls)
    feed [] e = absurd cc
    feed (l ∷ ls) e = omega arith

    go : (b : Bool) → size (lines_of cs) ≡ length cs
        → size (if b then [] ∷ lines_of cs else in_first c (lines_of cs)) ≡ suc (length cs)
    go true e = feed (lines_of cs) (lines_some cs) ∙ ap suc e
    go false e = first_size c (lines_of cs) ∙ ap suc e

told_short : (l : List ℕ) → length (told l) ≤ length l
told_short [] = omega arith
told_short (c ∷ cs) = go (c == 35) (more (told cs) (told_short cs))
  where
    more : (t : List ℕ) → length t ≤ length cs → length (kept c t) ≤ suc (length cs)
    more [] h = blank (is_blank c)
      where
        blank : (b : Bool) → length (if b then [] else c ∷ []) ≤ suc (length cs)
        blank true = omega arith
        blank false = omega arith
    more (d ∷ ds) h = omega (arith, h)

    go : (b : Bool) → length (kept c (told cs)) ≤ suc (length cs)
        → length (if b then [] else kept c (told cs)) ≤ suc (length cs)
    go true h = omega arith
    go false h = h

-- each line that is left out takes a line feed with it
shorter : (k : ℕ) (ls : List (List ℕ)) → length (bare_lines ls) + left_out k ls ≤ size ls
shorter k [] = omega arith
shorter k (l ∷ []) = last (told l) (told_short l)
  where
    last : (t : List ℕ) → length t ≤ length l
        → length (line_text false t ++ [])
        + (if is_empty t then 0 + 0 else (if k == 0 then 0 else 0)) ≤ length l
    last [] h = omega arith
    last (c ∷ cs) h = zeroes (k == 0)
      where
        zeroes : (b : Bool) → length ((c ∷ cs) ++ []) + (if b then 0 else 0) ≤ length l
        zeroes true = omega (arith, h, length-append (c ∷ cs) [])
        zeroes false = omega (arith, h, length-append (c ∷ cs) [])
shorter k (l ∷ m ∷ ls) = first (told l) (told_short l) (shorter k (m ∷ ls)) (shorter (k - 1) (m ∷ ls))
  where
    first : (t : List ℕ) → length t ≤ length l
        → length (bare_lines (m ∷ ls)) + left_out k (m ∷ ls) ≤ size (m ∷ ls)
        → length (bare_lines (m ∷ ls)) + left_out (k - 1) (m ∷ ls) ≤ size (m ∷ ls)
        → length (line_text true t ++ bare_lines (m ∷ ls))
        + (if is_empty t then 1 + left_out k (m ∷ ls) else (if k == 0 then 0 else left_out (k - 1) (m ∷ ls)))
        ≤ suc (length l) + size (m ∷ ls)
    first [] h x y = omega (arith, x)
    first (c ∷ cs) h x y = by (k == 0)
      where
        long : length (((c ∷ cs) ++ 10 ∷ []) ++ bare_lines (m ∷ ls))
            ≤ suc (length l) + length (bare_lines (m ∷ ls))
        long = omega (
          arith,
          h,
          length-append ((c ∷ cs) ++ 10 ∷ []) (bare_lines (m ∷ ls)),
          length-append (c ∷ cs) (10 ∷ []),
        )

        by : (b : Bool) → length (((c ∷ cs) ++ 10 ∷ []) ++ bare_lines (m ∷ ls))
            + (if b then 0 else left_out (k - 1) (m ∷ ls)) ≤ suc (length l) + size (m ∷ ls)
        by true = omega (arith, long, x)
        by false = omega (arith, long, y)

-- a line of a text out of which nothing is left has its own number
pub same_line : (text : List ℕ) (line : ℕ) → bare text ≡ text → line_in_file text line ≡ line
unfolding bare line_in_file
same_line text line e =
    omega (arith, shorter (line - 1) (lines_of text), size_is text, ap length e)

same_fault : (text : List ℕ) (fault : AsmFault) → bare text ≡ text → in_file text fault ≡ fault
same_fault text (Syntax line) e = ap Syntax (same_line text line e)
same_fault text (Range line) e = ap Range (same_line text line e)
same_fault text (Label line) e = ap Label (same_line text line e)
same_fault text Memory e = refl

pub bare_image : (i : Image) (text : List ℕ) → bare text ≡ text → TargetFile i text ↔ TargetText i text
bare_image i text e = (λ h. subst (TargetText i) e h, λ h. subst (TargetText i) (sym e) h)

pub bare_fault : (text : List ℕ) (fault : AsmFault) → bare text ≡ text
    → FirstFileFault text fault ↔ FirstAsmFault text fault
bare_fault text fault e = (
  λ h. subst (FirstAsmFault text) (sym (h.2 ∙ same_fault text h.0 e))
      (subst (λ (t : List ℕ). FirstAsmFault t h.0) e h.1),
  λ h. (fault, subst (λ (t : List ℕ). FirstAsmFault t fault) (sym e) h, sym (same_fault text fault e)),
)

-- what a call returns ----------------------------------------------------------------------------

-- a call that answers images and first faults answers no others
pub only_image : (text : List ℕ) (r : Result Image AsmFault) (image : Image)
    → IfOk r (λ i. TargetFile i text) → IfErr r (IsMemoryOr (FirstFileFault text)) → TargetFile image text
    → MatchResult r (λ v. v ≡ image) IsMemory
only_image text (Ok i) image ok err h = one_image i image text ok h
only_image text (Err e) image ok (inl m) h = m
only_image text (Err e) image ok (inr f) h = absurd (not_both image text e h f)

pub only_fault : (text : List ℕ) (r : Result Image AsmFault) (fault : AsmFault)
    → IfOk r (λ i. TargetFile i text) → IfErr r (IsMemoryOr (FirstFileFault text)) → FirstFileFault text fault
    → MatchResult r (λ v. ⊥) (IsMemoryOr (λ e. e ≡ fault))
only_fault text (Ok i) fault ok err h = not_both i text fault ok h
only_fault text (Err e) fault ok (inl m) h = inl m
only_fault text (Err e) fault ok (inr f) h = inr (one_fault text e fault f h)
