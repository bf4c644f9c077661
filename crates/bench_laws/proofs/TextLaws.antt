-- The laws of the benchmark's text.
use Rattle.std.proofs.Common.{◌≡◌, ◌≤◌, ◌<◌, ℕ, zero, suc, ◌+◌, ◌*◌, pos, Bool, true, List, [], ◌∷◌, ◌++◌, length}
use Rattle.std.proofs.Common.{refl, sym, ap, ◌∙◌}
use Rattle.std.proofs.Common.{subst, arith, length-append, nat_le, codes}
use Rattle.std.specs.Prelude.{decimal}
use Rattle.std.specs.Fmt.{digits}
use Rattle.c_tree.specs.Limits.{most_source_bytes}
use Rattle.c_tree.specs.declared.tree.Program.{Program}
use Rattle.c_tree.specs.declared.typed.TypedProgram.{TypedProgram}
use Rattle.c_lex.proofs.Basics.{le_is}
use Rattle.c_lex.proofs.Firsts.{tabled}
use Rattle.c_meaning_spec.specs.Eval.{Done, eval}
use Rattle.c_front.specs.Fronts.{IsAccepted}
use Rattle.c_front.proofs.Once.{accepted_once, not_both}
use Rattle.bench_text.specs.Text.{head, function_name, function_body, function_end, function, functions, main_head}
use Rattle.bench_text.specs.Text.{call_name, call_end, call, calls, main_end, bench_text}
use Rattle.bench_laws.specs.inside.Values.{value, letters, steps}
use Rattle.bench_laws.specs.inside.Laws.{BenchIsAccepted, BenchIsNotRefused, BenchIsShort, BenchEnds}
use Rattle.bench_laws.proofs.Programs.{program}
use Rattle.bench_laws.proofs.Forms.{tokens}
use Rattle.bench_laws.proofs.Trees.{tree}
use Rattle.bench_laws.proofs.Lines.{row_same, is_yes}
use Rattle.bench_laws.proofs.Lexed.{has_tokens}
use Rattle.bench_laws.proofs.Parsed.{is_unit}
use Rattle.bench_laws.proofs.Typed.{accepted}
use Rattle.bench_laws.proofs.EvaluationEnds.{ends}

-- the text is accepted with this program
has_program : (n : ℕ) (few : n ≤ 64) → IsAccepted (bench_text n) (program (has_tokens n few).offsets n)
has_program n few = let t = has_tokens n few in
    let o = t.offsets in
    (record { items = tree o n }, (tokens o n, t.lexed, is_unit o n), accepted o n few)

-- the benchmark's text is a program of the profile
pub is_accepted : BenchIsAccepted
is_accepted n few = (program (has_tokens n few).offsets n, has_program n few)

-- no stage of the front end refuses the benchmark's text
pub is_not_refused : BenchIsNotRefused
is_not_refused n r few refused = not_both (bench_text n) (program (has_tokens n few).offsets n) r (has_program n few)
    refused

-- and with no other
pub always_ends : BenchEnds
always_ends n P few is input m enough =
    subst (λ (Q : TypedProgram). eval Q input m ≡ Done (letters n) (pos (value n)) (steps n))
    (accepted_once (bench_text n) (program (has_tokens n few).offsets n) P (has_program n few) is)
    (ends (has_tokens n few).offsets n input m few enough)

-- LENGTHS

-- has the numeral two digits at most?
abbrev short_at : ℕ → Bool
short_at k = nat_le (length (decimal k)) 2

all_short : tabled short_at 0 64 ≡ tabled is_yes 0 64
unfolding digits
all_short = refl

-- a number below 64 has two digits at most
two_digits : (k : ℕ) → k < 64 → length (decimal k) ≤ 2
two_digits k h = le_is (length (decimal k)) 2 (row_same short_at is_yes 64 k all_short h)

function_length : (k : ℕ) → k < 64 → length (function k) ≤ 200
unfolding function_name function_body function_end
function_length k h =
    let d : length (decimal k) ≤ 2 = two_digits k h in
    omega (
      arith,
      length-append (decimal k) (function_body ++ (decimal k ++ function_end)),
      length-append function_body (decimal k ++ function_end),
      length-append (decimal k) function_end,
    )

call_length : (k : ℕ) → k < 64 → length (call k) ≤ 200
unfolding call_name call_end
call_length k h =
    let d : length (decimal k) ≤ 2 = two_digits k h in
    omega (arith, length-append (decimal k) call_end)

functions_length : (n : ℕ) → n ≤ 64 → length (functions n) ≤ 200 * n
functions_length zero few = omega arith
functions_length (suc n) few =
    let h : length (functions n) ≤ 200 * n = functions_length n (omega arith) in
    let f : length (function n) ≤ 200 = function_length n (omega arith) in
    omega (arith, length-append (functions n) (function n))

calls_length : (n : ℕ) → n ≤ 64 → length (calls n) ≤ 200 * n
calls_length zero few = omega arith
calls_length (suc n) few =
    let h : length (calls n) ≤ 200 * n = calls_length n (omega arith) in
    let f : length (call n) ≤ 200 = call_length n (omega arith) in
    omega (arith, length-append (calls n) (call n))

-- the benchmark's text has no more bytes than a source text may have
pub is_short : BenchIsShort
unfolding most_source_bytes head main_head main_end
is_short n few =
    let f : length (functions n) ≤ 200 * n = functions_length n few in
    let c : length (calls n) ≤ 200 * n = calls_length n few in
    let a : length (calls n ++ main_end) ≡ length (calls n) + length main_end = length-append (calls n) main_end in
    let b : length (main_head ++ (calls n ++ main_end)) ≡ length main_head + length (calls n ++ main_end) =
    length-append main_head (calls n ++ main_end) in
    let d : length (functions n ++ (main_head ++ (calls n ++ main_end)))
    ≡ length (functions n) + length (main_head ++ (calls n ++ main_end)) =
    length-append (functions n) (main_head ++ (calls n ++ main_end)) in
    let e : length (bench_text n) ≡ length head + length (functions n ++ (main_head ++ (calls n ++ main_end))) =
    length-append head (functions n ++ (main_head ++ (calls n ++ main_end))) in
    omega arith
