-- The benchmark's text declares one object outside of functions, and nothing in it is `extern`.
use Rattle.std.proofs.Common.{◌≡◌, ℕ, zero, suc, Bool, true, false, List, [], ◌∷◌, ◌++◌, codes, refl, ap, ◌∙◌}
use Rattle.std.proofs.Common.{append_assoc}
use Rattle.c_tree.specs.declared.Form.{Form}
use Rattle.c_pre.specs.Texts.{Tokens}
use Rattle.c_units.specs.declared.repeats.Seen.{Seen}
use Rattle.c_units.specs.declared.repeats.Sizes.TheVariants as sizes
use Rattle.c_units.specs.Repeats.{no_repeats_from, beginning}
use Rattle.c_units.specs.Settled.{is_settled}
use Rattle.bench_laws.proofs.Forms.{array_forms, function_forms, main_forms, call_forms, end_forms, line_of}
use Rattle.bench_laws.proofs.Forms.{lines_of, tokens}
use Rattle.bench_laws.proofs.Trees.{InLine, Offsets}

-- before a line, where so many brackets are open
abbrev at_line : ℕ → Seen
at_line d = record { depth = d; is_front = false; names = codes "a" ∷ []; sizes = sizes.Scalar; is_typed = false }

-- the line may stand there before any tokens: no more is seen behind it
abbrev Leaves : Seen → List Form → Type 0
Leaves s fs = (l : InLine) (us : Tokens) → no_repeats_from s (line_of l fs ++ us) ≡ no_repeats_from s us

-- lines before tokens
lines_leave : (s : Seen) (forms : ℕ → List Form) (o : ℕ → InLine) (n : ℕ) (us : Tokens)
    → ((k : ℕ) → Leaves s (forms k)) → no_repeats_from s (lines_of forms o n ++ us) ≡ no_repeats_from s us
lines_leave s forms o zero us e = refl
lines_leave s forms o (suc n) us e =
    ap (λ (ts : Tokens). no_repeats_from s ts) (append_assoc (lines_of forms o n) (line_of (o n) (forms n)) us)
    ∙ lines_leave s forms o n (line_of (o n) (forms n) ++ us) e
    ∙ e n (o n) us

function_leaves : (k : ℕ) → Leaves (at_line 0) (function_forms k)
function_leaves k l us = refl

call_leaves : (k : ℕ) → Leaves (at_line 1) (call_forms k)
call_leaves k l us = refl

-- the line of the include and that of the array, before tokens
array_seen : (o : Offsets) (us : Tokens)
    → no_repeats_from beginning (line_of o.array array_forms ++ us) ≡ no_repeats_from (at_line 0) us
array_seen o us = refl

-- the line of main
main_seen : (l : InLine) (us : Tokens)
    → no_repeats_from (at_line 0) (line_of l main_forms ++ us) ≡ no_repeats_from (at_line 1) us
main_seen l us = refl

-- the last line
end_seen : (l : InLine) → no_repeats_from (at_line 1) (line_of l end_forms) ≡ true
end_seen l = refl

-- there is nothing to settle
pub bench_units : (o : Offsets) (n : ℕ) → is_settled (tokens o n) ≡ true
bench_units o n =
    let ending : Tokens = line_of o.ending end_forms in
    let from_calls : Tokens = lines_of call_forms o.calls n ++ ending in
    let from_main : Tokens = line_of o.main main_forms ++ from_calls in
    let from_functions : Tokens = lines_of function_forms o.functions n ++ from_main in
    array_seen o from_functions
    ∙ lines_leave (at_line 0) function_forms o.functions n from_main function_leaves
    ∙ main_seen o.main from_calls
    ∙ lines_leave (at_line 1) call_forms o.calls n ending call_leaves
    ∙ end_seen o.ending
