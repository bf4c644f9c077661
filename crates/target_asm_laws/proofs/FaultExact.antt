-- The first fault of a text, both ways, and the laws.
use Rattle.std.proofs.Common.{◌≡◌, ℕ, List, sym, ◌∙◌}
use Rattle.std.specs.Prelude.{◌↔◌, Result, Ok, Err}
use Rattle.trips_isa.specs.declared.block.Image.{Image}
use Rattle.target_asm_spec.specs.Text.{TargetText}
use Rattle.target_asm_spec.specs.declared.fault.AsmFault.{AsmFault}
use Rattle.target_asm_spec.specs.declared.spelled.Goal.TheVariants.{Label, Offset}
use Rattle.target_asm_spec.specs.inside.Whole.{image_in}
use Rattle.target_asm_spec.specs.FirstAsmFault.{FirstAsmFault}
use Rattle.target_asm_spec.specs.FirstAsmFault as rule
use Rattle.target_asm_spec.proofs.Images.{read_again}
use Rattle.target_asm_laws.proofs.Meeting.{syntax, range}
use Rattle.target_asm_laws.proofs.Judged.{fault_of}
use Rattle.target_asm_laws.proofs.Fronts.{head_found, count_found, limit_found, byte_found, last_found}
use Rattle.target_asm_laws.proofs.Meets.{line_found}
use Rattle.target_asm_laws.proofs.BadGoals.{goal_found}

-- the first fault of a text is what reading it answers
pub read_fault : (text : List ℕ) (e : AsmFault) → FirstAsmFault text e → image_in text ≡ Err e
read_fault text e (rule.no_head h) = head_found text h
read_fault text e (rule.no_count t a h) = count_found text t a h
read_fault text e (rule.large n rest a h) = limit_found text n rest a h
read_fault text e (rule.no_byte count bytes t good l a h) = byte_found text count bytes t good l a h
read_fault text e (rule.zero_last bytes rest good z a) = last_found text bytes rest good z a
read_fault text e (rule.no_line bytes rest t ls a good is n) =
    line_found text bytes rest ls t a good is (syntax n)
read_fault text e (rule.bad_number bytes rest t ls a good is n) =
    line_found text bytes rest ls t a good is (range n)
read_fault text e (rule.no_block bytes rest ls k a b) = goal_found text bytes rest ls (Label k) a b
read_fault text e (rule.hits_block bytes rest ls n a b) = goal_found text bytes rest ls (Offset n) a b

-- reading a text gives a fault exactly where it is the text's first fault
pub met : (text : List ℕ) (e : AsmFault) → (image_in text ≡ Err e) ↔ FirstAsmFault text e
met text e = (fault_of text e, read_fault text e)

err_is : (e f : AsmFault) → ◌≡◌ {A = Result Image AsmFault} (Err e) (Err f) → e ≡ f
err_is e f h = cc

-- a text has one first fault
pub one : (text : List ℕ) (e f : AsmFault) → FirstAsmFault text e → FirstAsmFault text f → e ≡ f
one text e f a b = err_is e f (sym (read_fault text e a) ∙ read_fault text f b)

no_both : (i : Image) (e : AsmFault) → ◌≡◌ {A = Result Image AsmFault} (Ok i) (Err e) → ⊥
no_both i e h = absurd cc

-- a text is an image's or has a first fault, not both
pub not_both : (i : Image) (text : List ℕ) (e : AsmFault) → TargetText i text
    → FirstAsmFault text e → ⊥
not_both i text e t a = no_both i e (sym (read_again i text t) ∙ read_fault text e a)
