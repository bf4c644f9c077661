-- The flat code of switches, but for their statements.
--
-- First the test's value, in temporary 0, becomes the number of sections that are skipped: where labels are dense by
-- a subtraction, elsewhere by a loop that compares it with the labels in their order. Then a second loop, which ends
-- with a break, compares that with each section's own number, and runs those that it does not reach. Where the switch
-- stands in a loop, temporary 0 tells behind it whether a `continue` has left it.
use Rattle.std.specs.Prelude.{ℕ, suc, ◌+◌, ◌%◌, ◌^◌, nat_eq, Bool, true, false, cond, List, [], ◌∷◌, Option}
use Rattle.std.specs.Prelude.{Some, None}
use Rattle.trips_isa.specs.declared.op.Op.TheVariants as op
use Rattle.ir_forms.specs.declared.flat.Arg.TheVariants.{Const, Var}
use Rattle.ir_forms.specs.inside.FlatCode.{Code, Nop, Then, only, Let, Loop, If}
use Rattle.ir_forms.specs.inside.FlatCode as flat
use Rattle.flat_lower.specs.inside.Tree.{Sections, NoSections, WithSection}
use Rattle.flat_lower.specs.inside.Operations.{temp, scratch, set_word}
use Rattle.flat_lower.specs.declared.around.Around.{Around}
use Rattle.flat_lower.specs.declared.around.Around.TheVariants as around
use Rattle.flat_lower.specs.inside.Labels.{found_code, compared_code}

-- what stands around the sections of a switch, by what stands around it
abbrev pub in_switch : Around → Around
in_switch around.Nowhere = around.Switch
in_switch around.Loop = around.SwitchInLoop
in_switch around.Switch = around.Switch
in_switch around.SwitchInLoop = around.SwitchInLoop

-- a break: behind a switch in a loop it is told from a `continue`
abbrev pub break_code : Around → Code
break_code around.SwitchInLoop = Then (set_word (temp 0) 0) (only flat.Break)
break_code _ = only flat.Break

-- a continue: a switch between it and its loop is left first
abbrev pub continue_code : Around → Code
continue_code around.SwitchInLoop = Then (set_word (temp 0) 1) (only flat.Break)
continue_code _ = only flat.Continue

-- behind a switch in a loop a `continue` that has left it goes on
abbrev pub behind_code : Around → Code
behind_code around.Nowhere = Nop
behind_code around.Loop = only (If (Var (temp 0)) (continue_code around.Loop) Nop)
behind_code around.Switch = Nop
behind_code around.SwitchInLoop = only (If (Var (temp 0)) (continue_code around.SwitchInLoop) Nop)

-- LABELS

-- whether `default` is among the labels of a section
abbrev pub has_default : List (Option ℕ) → Bool
has_default [] = false
has_default (None ∷ ls) = true
has_default (Some w ∷ ls) = has_default ls

-- how many sections are skipped where no label is equal: those before `default`, or so many
abbrev pub default_at : ℕ → ℕ → Sections → ℕ
default_at n other NoSections = other
default_at n other (WithSection ls body rest) = default_at (suc n) (cond (has_default ls) n other) rest

-- how many sections there are
abbrev pub section_count : Sections → ℕ
section_count NoSections = 0
section_count (WithSection ls body rest) = suc (section_count rest)

-- how many sections are skipped, where the labels are compared
abbrev pub searched_code : Sections → Code
searched_code xs =
    only (Loop (Then (compared_code 0 xs) (found_code (default_at 0 (section_count xs) xs))) Nop)

-- DENSE LABELS

-- a section has one label, which is this word
abbrev pub is_label : ℕ → List (Option ℕ) → Bool
is_label w (Some v ∷ []) = nat_eq v w
is_label w _ = false

-- a section has one label, which is `default`
abbrev pub is_default : List (Option ℕ) → Bool
is_default (None ∷ []) = true
is_default _ = false

-- no section is left
abbrev pub is_end : Sections → Bool
is_end NoSections = true
is_end (WithSection ls body rest) = false

-- each section has one label, and these are the words from this one on; only the last may be `default`
abbrev pub are_dense : ℕ → Sections → Bool
are_dense w NoSections = true
are_dense w (WithSection ls body rest) =
    cond (is_label w ls) (are_dense ((w + 1) % 2 ^ 64) rest) (cond (is_default ls) (is_end rest) false)

-- the first label of a case, where it is the first of all
abbrev pub first_case : List (Option ℕ) → Option ℕ
first_case [] = None
first_case (l ∷ ls) = l

-- the first label of the first section
abbrev pub first_label : Sections → Option ℕ
first_label NoSections = None
first_label (WithSection ls body rest) = first_case ls

-- this word, where the labels are the words from it on
abbrev pub dense_at : Option ℕ → Sections → Option ℕ
dense_at None xs = None
dense_at (Some w) xs = cond (are_dense w xs) (Some w) None

-- the first label, where the labels are dense
abbrev pub dense_from : Sections → Option ℕ
dense_from xs = dense_at (first_label xs) xs

-- how many sections are skipped, where n labels begin with this one: as many as the value is above it, or n
abbrev pub dense_code : ℕ → ℕ → Code
dense_code low n =
    Then (only (Let (temp 0) op.Sub (Var (temp 0)) (Const low)))
    (Then (only (Let (scratch 0) op.Tltu (Var (temp 0)) (Const n)))
    (only (If (Var (scratch 0)) Nop (set_word (temp 0) n))))

-- how many sections are skipped, by the first of dense labels
abbrev pub chosen_by : Option ℕ → Sections → Code
chosen_by None xs = searched_code xs
chosen_by (Some low) xs = dense_code low (default_at 0 (section_count xs) xs)

-- how many sections are skipped, by the value in temporary 0
abbrev pub chosen_code : Sections → Code
chosen_code xs = chosen_by (dense_from xs) xs

-- SECTIONS

-- the section behind k others is skipped where more than k are, or it is run, and then no other is skipped
abbrev pub section_code : ℕ → Code → Code
section_code k body =
    Then (only (Let (scratch 0) op.Tgtu (Var (temp 0)) (Const k)))
    (only (If (Var (scratch 0)) Nop (Then body (set_word (temp 0) 0))))

-- a switch behind its test, by the code of its sections; its end is left as by a break
abbrev pub switched_code : Around → Sections → Code → Code
switched_code a xs body =
    Then (chosen_code xs)
    (Then (only (Loop (Then body (break_code (in_switch a))) Nop)) (behind_code a))
