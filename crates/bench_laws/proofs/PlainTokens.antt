-- The benchmark's text has no directive, no macro, no string, no call of the library's and nothing else that a pass
-- over tokens would change, so that its raw tokens are its tokens.
use Rattle.std.proofs.Common.{◌≡◌, arith, ℕ, zero, suc, Bool, true, false, not, List, [], ◌∷◌, ◌++◌, refl, ap}
use Rattle.std.proofs.Common.{codes}
use Rattle.std.specs.Prelude.{decimal, ◌&&◌, is_none}
use Rattle.c_tree.specs.declared.Form.{Form}
use Rattle.c_tree.specs.declared.Form.TheVariants as form
use Rattle.c_tree.specs.declared.Kind.TheVariants.{Int}
use Rattle.c_tree.specs.declared.Lexeme.{Lexeme}
use Rattle.c_tree.specs.declared.Mark.TheVariants as mark
use Rattle.c_lex.proofs.Basics.{and_both, and_left, and_right}
use Rattle.c_lex.specs.Bytes.{Bytes}
use Rattle.c_lex.specs.Directives.{headers}
use Rattle.c_lex.specs.Strings.{string_of}
use Rattle.c_lex.specs.Tables.{lookup}
use Rattle.c_library.specs.Calls.{opens}
use Rattle.c_library.specs.Headers.{bracketed}
use Rattle.c_library.specs.Literals.{has_no_literal}
use Rattle.c_library.specs.Table.{table}
use Rattle.c_library.specs.Uncalled.{calls_none}
use Rattle.c_library.specs.Prepared.{is_prepared}
use Rattle.c_library.specs.inside.Mentions.{may_name, is_library, is_other, seen_behind, all_other}
use Rattle.c_library.proofs.Mentions.{begins_otherwise, others_call_none}
use Rattle.c_locals.specs.Objects.{has_no_objects}
use Rattle.c_names.specs.Named.{stays, has_no_name}
use Rattle.c_pre.specs.Passes.{is_passed}
use Rattle.c_pre.specs.Said.{said_by}
use Rattle.c_pre.specs.Texts.{Tokens}
use Rattle.c_pre.specs.Plain.{is_token, has_no_directive, is_plain}
use Rattle.c_pre.proofs.PassFacts.{no_sizes}
use Rattle.c_pre.proofs.Words.{letter_is_token}
use Rattle.c_sizes.specs.Sized.{is_sized}
use Rattle.c_units.specs.Settled.{is_settled}
use Rattle.c_words.specs.Unworded.{has_no_words}
use Rattle.bench_laws.proofs.PlainWords.{bench_words}
use Rattle.bench_laws.proofs.PlainObjects.{bench_objects}
use Rattle.bench_laws.proofs.PlainUnits.{bench_units}
use Rattle.bench_laws.proofs.Forms.{array_forms, body_forms, function_forms, main_forms, call_forms}
use Rattle.bench_laws.proofs.Forms.{behind_call_forms, end_forms, line_of, lines_of, tokens}
use Rattle.bench_laws.proofs.Trees.{InLine, Offsets}

-- is it no name of the library's?
abbrev is_own : Form → Bool
is_own (form.Name w) = is_none (lookup w bracketed) && not (is_library w)
is_own _ = true

-- is it no name of the library's, and nothing that other passes know by itself?
abbrev is_no_other : Form → Bool
is_no_other f = is_own f && stays f

-- is it a token of the program, and neither a literal nor such a name?
abbrev is_quiet : Form → Bool
is_quiet f = is_token (said_by f) && (is_none (string_of f) && is_no_other f)

-- is each of the forms, and of the tokens?
abbrev forms_quiet : List Form → Bool
forms_quiet [] = true
forms_quiet (f ∷ fs) = is_quiet f && forms_quiet fs

abbrev tokens_quiet : Tokens → Bool
tokens_quiet [] = true
tokens_quiet (t ∷ ts) = is_quiet t.form && tokens_quiet ts

-- LINES

line_quiet : (l : InLine) (fs : List Form) → forms_quiet fs ≡ true → tokens_quiet (line_of l fs) ≡ true
line_quiet l [] e = refl
line_quiet l (f ∷ fs) e =
    and_both (is_quiet f) (tokens_quiet (line_of (λ j. l (suc j)) fs)) (and_left (is_quiet f) (forms_quiet fs) e)
    (line_quiet (λ j. l (suc j)) fs (and_right (is_quiet f) (forms_quiet fs) e))

quiet_append : (ts us : Tokens) → tokens_quiet ts ≡ true → tokens_quiet us ≡ true → tokens_quiet (ts ++ us) ≡ true
quiet_append [] us e f = f
quiet_append (t ∷ ts) us e f =
    and_both (is_quiet t.form) (tokens_quiet (ts ++ us)) (and_left (is_quiet t.form) (tokens_quiet ts) e)
    (quiet_append ts us (and_right (is_quiet t.form) (tokens_quiet ts) e) f)

lines_quiet : (forms : ℕ → List Form) (o : ℕ → InLine) (n : ℕ) → ((k : ℕ) → forms_quiet (forms k) ≡ true)
    → tokens_quiet (lines_of forms o n) ≡ true
lines_quiet forms o zero e = refl
lines_quiet forms o (suc n) e =
    quiet_append (lines_of forms o n) (line_of (o n) (forms n)) (lines_quiet forms o n e)
    (line_quiet (o n) (forms n) (e n))

-- FUNCTIONS

-- the name of a function begins no name of the library's
otherwise : (w : Bytes) → may_name (102 ∷ w) ≡ false
otherwise [] = refl
otherwise (b ∷ w) = refl

not_library : (k : ℕ) → not (is_library (102 ∷ decimal k)) ≡ true
not_library k = ap not (begins_otherwise (102 ∷ decimal k) (otherwise (decimal k)))

no_header : (w : Bytes) → is_none (lookup (102 ∷ w) bracketed) ≡ true
no_header w = refl

-- nor does it begin that of a header's type
no_type : (w : Bytes) → stays (form.Name (102 ∷ w)) ≡ true
no_type [] = refl
no_type (b ∷ []) = refl
no_type (b ∷ c ∷ []) = refl
no_type (b ∷ c ∷ d ∷ w) = refl

function_quiet : (k : ℕ) → is_quiet (form.Name (102 ∷ decimal k)) ≡ true
function_quiet k =
    and_both (is_token (said_by (form.Name (102 ∷ decimal k)))) (is_no_other (form.Name (102 ∷ decimal k)))
    (ap is_token (letter_is_token 102 (decimal k) (omega arith)))
    (and_both (is_own (form.Name (102 ∷ decimal k))) (stays (form.Name (102 ∷ decimal k)))
    (and_both (is_none (lookup (102 ∷ decimal k) bracketed)) (not (is_library (102 ∷ decimal k)))
    (no_header (decimal k)) (not_library k))
    (no_type (decimal k)))

-- a name that is one, among others
with_name : (k : ℕ) (fs : List Form) → forms_quiet fs ≡ true
    → forms_quiet (form.Name (102 ∷ decimal k) ∷ fs) ≡ true
with_name k fs e = and_both (is_quiet (form.Name (102 ∷ decimal k))) (forms_quiet fs) (function_quiet k) e

body_quiet : (k : ℕ)
    → forms_quiet (body_forms ++ form.Number k Int ∷ form.Mark mark.Semicolon ∷ form.Mark mark.RightBrace ∷ []) ≡ true
unfolding table headers
body_quiet k = refl

behind_call_quiet : forms_quiet behind_call_forms ≡ true
unfolding table headers
behind_call_quiet = refl

array_quiet : forms_quiet array_forms ≡ true
unfolding table headers
array_quiet = refl

main_quiet : forms_quiet main_forms ≡ true
unfolding table headers
main_quiet = refl

end_quiet : forms_quiet end_forms ≡ true
unfolding table headers
end_quiet = refl

each_function : (k : ℕ) → forms_quiet (function_forms k) ≡ true
each_function k =
    with_name k (body_forms ++ form.Number k Int ∷ form.Mark mark.Semicolon ∷ form.Mark mark.RightBrace ∷ [])
    (body_quiet k)

-- a call's name, and what stands behind it
abbrev called : ℕ → List Form
called k = form.Name (102 ∷ decimal k) ∷ behind_call_forms

variable_quiet : is_quiet (form.Name (codes "x")) ≡ true
unfolding table headers
variable_quiet = refl

each_call : (k : ℕ) → forms_quiet (call_forms k) ≡ true
each_call k =
    and_both (is_quiet (form.Name (codes "x"))) (forms_quiet (form.Mark mark.Assign ∷ called k)) variable_quiet
    (and_both (is_quiet (form.Mark mark.Assign)) (forms_quiet (called k)) refl
    (with_name k behind_call_forms behind_call_quiet))

-- THE TEXT

all_quiet : (o : Offsets) (n : ℕ) → tokens_quiet (tokens o n) ≡ true
all_quiet o n =
    let ending : Tokens = line_of o.ending end_forms in
    let from_calls : Tokens = lines_of call_forms o.calls n ++ ending in
    let from_main : Tokens = line_of o.main main_forms ++ from_calls in
    let from_functions : Tokens = lines_of function_forms o.functions n ++ from_main in
    quiet_append (line_of o.array array_forms) from_functions (line_quiet o.array array_forms array_quiet)
    (quiet_append (lines_of function_forms o.functions n) from_main
    (lines_quiet function_forms o.functions n each_function)
    (quiet_append (line_of o.main main_forms) from_calls (line_quiet o.main main_forms main_quiet)
    (quiet_append (lines_of call_forms o.calls n) ending
    (lines_quiet call_forms o.calls n each_call) (line_quiet o.ending end_forms end_quiet))))

-- what is known of a quiet token
record Quiet (f : Form) : Type 0 where
  token : is_token (said_by f) ≡ true
  literal : is_none (string_of f) ≡ true
  own : is_own f ≡ true
  name : stays f ≡ true

is_so : (f : Form) → is_quiet f ≡ true → Quiet f
is_so f q =
    let r = and_right (is_token (said_by f)) (is_none (string_of f) && is_no_other f) q in
    let o = and_right (is_none (string_of f)) (is_no_other f) r in
    record {
      token = and_left (is_token (said_by f)) (is_none (string_of f) && is_no_other f) q;
      literal = and_left (is_none (string_of f)) (is_no_other f) r;
      own = and_left (is_own f) (stays f) o;
      name = and_right (is_own f) (stays f) o;
    }

-- the first of quiet tokens, and the others
first_quiet : (t : Lexeme) (ts : Tokens) → tokens_quiet (t ∷ ts) ≡ true → Quiet t.form
first_quiet t ts e = is_so t.form (and_left (is_quiet t.form) (tokens_quiet ts) e)

others_quiet : (t : Lexeme) (ts : Tokens) → tokens_quiet (t ∷ ts) ≡ true → tokens_quiet ts ≡ true
others_quiet t ts e = and_right (is_quiet t.form) (tokens_quiet ts) e

no_directive : (ts : Tokens) → tokens_quiet ts ≡ true → has_no_directive ts ≡ true
no_directive [] e = refl
no_directive (t ∷ ts) e =
    and_both (is_token (said_by t.form)) (has_no_directive ts) (first_quiet t ts e).token
    (no_directive ts (others_quiet t ts e))

no_literal : (ts : Tokens) → tokens_quiet ts ≡ true → has_no_literal ts ≡ true
no_literal [] e = refl
no_literal (t ∷ ts) e =
    and_both (is_none (string_of t.form)) (has_no_literal ts) (first_quiet t ts e).literal
    (no_literal ts (others_quiet t ts e))

no_name : (ts : Tokens) → tokens_quiet ts ≡ true → has_no_name ts ≡ true
no_name [] e = refl
no_name (t ∷ ts) e =
    and_both (stays t.form) (has_no_name ts) (first_quiet t ts e).name (no_name ts (others_quiet t ts e))

unheard : (s o l : Bool) → not l ≡ true → not (s && (o && l)) ≡ true
unheard s o true e = absurd (cc)
unheard true true false e = refl
unheard true false false e = refl
unheard false true false e = refl
unheard false false false e = refl

own_is_other : (s : Bool) (f : Form) (ts : Tokens) → is_own f ≡ true → is_other s f ts ≡ true
own_is_other s (form.Name w) ts e =
    and_both (is_none (lookup w bracketed)) (not (s && (opens ts && is_library w)))
    (and_left (is_none (lookup w bracketed)) (not (is_library w)) e)
    (unheard s (opens ts) (is_library w) (and_right (is_none (lookup w bracketed)) (not (is_library w)) e))
own_is_other s form.Include ts e = refl
own_is_other s (form.Key k) ts e = refl
own_is_other s (form.Number v k) ts e = refl
own_is_other s (form.Mark m) ts e = refl

others : (s : Bool) (ts : Tokens) → tokens_quiet ts ≡ true → all_other s ts ≡ true
others s [] e = refl
others s (t ∷ ts) e =
    and_both (is_other s t.form ts) (all_other (seen_behind s t.form) ts)
    (own_is_other s t.form ts (first_quiet t ts e).own)
    (others (seen_behind s t.form) ts (others_quiet t ts e))

-- the tokens of the text are tokens of the program
pub bench_plain : (o : Offsets) (n : ℕ) → is_plain (tokens o n) ≡ true
bench_plain o n =
    let ts : Tokens = tokens o n in
    let e : tokens_quiet ts ≡ true = all_quiet o n in
    let last : Bool = is_settled ts && has_no_objects ts in
    and_both (has_no_directive ts) (is_passed ts) (no_directive ts e)
    (and_both (has_no_name ts) (has_no_words ts && (is_prepared ts && (is_sized ts && last))) (no_name ts e)
    (and_both (has_no_words ts) (is_prepared ts && (is_sized ts && last)) (bench_words o n)
    (and_both (is_prepared ts) (is_sized ts && last)
    (and_both (has_no_literal ts) (calls_none ts) (no_literal ts e) (others_call_none ts (others false ts e)))
    (and_both (is_sized ts) last (no_sizes ts (no_name ts e))
    (and_both (is_settled ts) (has_no_objects ts) (bench_units o n) (bench_objects o n))))))
