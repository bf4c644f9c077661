-- The benchmark's text has these tokens.
use Rattle.std.proofs.Common.{◌≡◌, ◌≤◌, ◌<◌, ℕ, zero, suc, ◌+◌, ◌*◌, Bool, false, cond, if◌then◌else◌, List}
use Rattle.std.proofs.Common.{[], ◌∷◌, ◌++◌, length, nat_eq, codes, refl}
use Rattle.std.proofs.Common.{sym, ap, ◌∙◌, subst, arith, append_assoc, length-append}
use Rattle.std.specs.Prelude.{decimal}
use Rattle.bench_text.specs.Text.{head, function_name, function_body, function_end, function, functions, main_head}
use Rattle.bench_text.specs.Text.{call_name, call_end, call, calls, main_end, bench_text}
use Rattle.c_tree.specs.Limits.{most_tokens}
use Rattle.c_tree.specs.declared.Form.{Form}
use Rattle.c_lex.specs.declared.directive.Header.TheVariants as header
use Rattle.c_lex.specs.Directives.{headers}
use Rattle.c_lex.specs.Bytes.{Bytes}
use Rattle.c_lex.specs.Lexes.{Tokens, Line, fresh, past_gap, Cut, Lexes, here, next}
use Rattle.c_lex.proofs.Lines.{include_front}
use Rattle.c_lex.proofs.Basics.{eq_true, lt_apart}
use Rattle.c_lex.proofs.ReadSoFar.{joined, whole, bytes_nil}
use Rattle.c_pre.specs.Texts.{Lexed}
use Rattle.c_pre.proofs.Plain.{plain_stays}
use Rattle.bench_laws.proofs.Forms.{array_forms, function_forms, main_forms, call_forms, end_forms}
use Rattle.bench_laws.proofs.Forms.{line_of, lines_of, tokens}
use Rattle.bench_laws.proofs.Trees.{InLine, Offsets}
use Rattle.bench_laws.proofs.PlainTokens.{bench_plain}
use Rattle.bench_laws.proofs.Scan.{Reaches, feed_cuts, last_cuts}
use Rattle.bench_laws.proofs.Lines.{function_text, call_text, function_is_cut, call_is_cut, array_is_cut}
use Rattle.bench_laws.proofs.Lines.{main_is_cut, end_is_cut}

-- LINES

-- function k is its line and a line feed
function_is : (k : ℕ) (rest : Bytes) → function k ++ rest ≡ function_text k rest
unfolding function_name function_body function_end
function_is k rest =
    ap (λ (y : Bytes). codes "long f" ++ y)
    (append_assoc (decimal k) (function_body ++ (decimal k ++ function_end)) rest
    ∙ ap (λ (y : Bytes). decimal k ++ y) (append_assoc function_body (decimal k ++ function_end) rest
    ∙ ap (λ (y : Bytes). function_body ++ y) (append_assoc (decimal k) function_end rest)))

-- so is its call
call_is : (k : ℕ) (rest : Bytes) → call k ++ rest ≡ call_text k rest
unfolding call_name call_end
call_is k rest = ap (λ (y : Bytes). codes "x = f" ++ y) (append_assoc (decimal k) call_end rest)

-- behind a line feed each of the lines below 64 is cut into tokens of its forms
abbrev EachLine : (ℕ → Bytes) → (ℕ → List Form) → Type 0
EachLine text forms = (k : ℕ) (rest : Bytes) → k < 64 → (l : Line) (before : Bytes)
    → l.directs ≡ false → Reaches l before (10 ∷ text k ++ rest) (forms k) (10 ∷ rest)

each_function : EachLine function function_forms
each_function k rest below l before d =
    subst (λ (t : Bytes). Reaches l before (10 ∷ t) (function_forms k) (10 ∷ rest)) (sym (function_is k rest))
    (feed_cuts 108 _ (10 ∷ rest) (function_forms k) refl (function_is_cut k rest below) l before d)

each_call : EachLine call call_forms
each_call k rest below l before d =
    subst (λ (t : Bytes). Reaches l before (10 ∷ t) (call_forms k) (10 ∷ rest)) (sym (call_is k rest))
    (feed_cuts 120 _ (10 ∷ rest) (call_forms k) refl (call_is_cut k rest below) l before d)

-- the texts below n, in order
abbrev all_below : (ℕ → Bytes) → ℕ → Bytes
all_below text zero = []
all_below text (suc n) = all_below text n ++ text n

functions_are : (n : ℕ) → functions n ≡ all_below function n
functions_are zero = refl
functions_are (suc n) = ap (λ (t : Bytes). t ++ function n) (functions_are n)

calls_are : (n : ℕ) → calls n ≡ all_below call n
calls_are zero = refl
calls_are (suc n) = ap (λ (t : Bytes). t ++ call n) (calls_are n)

-- with other offsets for line n
abbrev with_line : (ℕ → InLine) → ℕ → InLine → ℕ → InLine
with_line o n l k = if nat_eq k n then l else o k

-- which those below it do not see
lines_same : (forms : ℕ → List Form) (o : ℕ → InLine) (n : ℕ) (l : InLine) (m : ℕ) → m ≤ n
    → lines_of forms (with_line o n l) m ≡ lines_of forms o m
lines_same forms o n l zero h = refl
lines_same forms o n l (suc m) h =
    let other : nat_eq m n ≡ false = lt_apart m n (omega arith) in
    let same : with_line o n l m ≡ o m = ap (λ (b : Bool). cond b l (o m)) other in
    ap (λ (ts : Tokens). ts ++ line_of (with_line o n l m) (forms m)) (lines_same forms o n l m (omega arith))
    ∙ ap (λ (x : InLine). lines_of forms o m ++ line_of x (forms m)) same

-- the lines below n are cut into tokens of their forms
record LinesReach (n : ℕ) (l : Line) (before text : Bytes) (forms : ℕ → List Form)
    (rest : Bytes) : Type 0 where
  offsets : ℕ → InLine
  ends : Line
  plain : ends.directs ≡ false
  passed : Bytes
  cut : Cut l before text (lines_of forms offsets n) ends passed rest

lines_cut : (text : ℕ → Bytes) (forms : ℕ → List Form) → EachLine text forms → (n : ℕ) (rest : Bytes) → n ≤ 64
    → (l : Line) (before : Bytes) → l.directs ≡ false
    → LinesReach n l before (10 ∷ all_below text n ++ rest) forms (10 ∷ rest)
lines_cut text forms each zero rest few l before d =
    record { offsets = λ k. λ j. 0; ends = l; plain = d; passed = before; cut = here }
lines_cut text forms each (suc n) rest few l before d =
    let y = lines_cut text forms each n (text n ++ rest) (omega arith) l before d in
    let z = each n rest (omega arith) y.ends y.passed y.plain in
    let o = with_line y.offsets n z.offsets in
    let whole_text = 10 ∷ all_below text n ++ (text n ++ rest) in
    let last : o n ≡ z.offsets = ap (λ (b : Bool). cond b z.offsets (y.offsets n)) (eq_true n n refl) in
    let same : lines_of forms y.offsets n ++ line_of z.offsets (forms n) ≡ lines_of forms o (suc n) =
    sym (ap (λ (ts : Tokens). ts ++ line_of (o n) (forms n)) (lines_same forms y.offsets n z.offsets n (omega arith))
    ∙ ap (λ (x : InLine). lines_of forms y.offsets n ++ line_of x (forms n)) last) in
    record {
      offsets = o;
      ends = z.ends;
      plain = z.plain;
      passed = z.passed;
      cut = subst (λ (t : Bytes). Cut l before (10 ∷ t) (lines_of forms o (suc n)) z.ends z.passed (10 ∷ rest))
          (sym (append_assoc (all_below text n) (text n) rest))
          (subst (λ (ts : Tokens). Cut l before whole_text ts z.ends z.passed (10 ∷ rest)) same
          (joined before whole_text y.passed (10 ∷ text n ++ rest) z.passed (10 ∷ rest)
          (lines_of forms y.offsets n) (line_of z.offsets (forms n)) y.cut z.cut));
    }

-- THE TEXT

-- the text behind its first line
abbrev behind : ℕ → Bytes
behind n = 10 ∷ codes "long a[16];" ++ 10 ∷ functions n ++ (codes "int main(void) { long x = 1;" ++ 10 ∷ calls n
    ++ (codes "return (int) x; }" ++ 10 ∷ []))

text_is : (n : ℕ) → bench_text n ≡ codes "#include <stdio.h>" ++ behind n
unfolding head main_head main_end
text_is n = refl

-- the text has tokens of its forms
pub record HasTokens (n : ℕ) : Type 0 where
  pub offsets : Offsets
  pub lexed : Lexed most_tokens (bench_text n) (tokens offsets n)

-- those of its lines, with the text behind the first cut into them
record BehindReaches (n : ℕ) (l : Line) (before : Bytes) : Type 0 where
  offsets : Offsets
  ends : Line
  passed : Bytes
  cut : Cut l before (behind n) (line_of offsets.array array_forms ++ (lines_of function_forms offsets.functions n
      ++ (line_of offsets.main main_forms ++ (lines_of call_forms offsets.calls n
      ++ line_of offsets.ending end_forms)))) ends passed []

behind_cut : (n : ℕ) → n ≤ 64 → (l : Line) (before : Bytes) → l.directs ≡ false → BehindReaches n l before
behind_cut n few l before d =
    let ending = codes "return (int) x; }" ++ 10 ∷ [] in
    let middle = codes "int main(void) { long x = 1;" ++ 10 ∷ calls n ++ ending in
    let a = feed_cuts 108 _ (10 ∷ functions n ++ middle) array_forms refl (array_is_cut (functions n ++ middle))
    l before d in
    let f = subst (λ (t : Bytes). LinesReach n a.ends a.passed (10 ∷ t ++ middle) function_forms (10 ∷ middle))
    (sym (functions_are n)) (lines_cut function function_forms each_function n middle few a.ends a.passed a.plain) in
    let m = feed_cuts 105 _ (10 ∷ calls n ++ ending) main_forms refl (main_is_cut (calls n ++ ending)) f.ends
    f.passed f.plain in
    let c = subst (λ (t : Bytes). LinesReach n m.ends m.passed (10 ∷ t ++ ending) call_forms (10 ∷ ending))
    (sym (calls_are n)) (lines_cut call call_forms each_call n ending few m.ends m.passed m.plain) in
    let e = feed_cuts 114 _ (10 ∷ []) end_forms refl (end_is_cut []) c.ends c.passed c.plain in
    let last : Cut c.ends c.passed (10 ∷ ending) (line_of e.offsets end_forms) (past_gap e.ends (10 ∷ []))
    (e.passed ++ 10 ∷ []) [] =
    subst (λ (ts : Tokens). Cut c.ends c.passed (10 ∷ ending) ts (past_gap e.ends (10 ∷ []))
    (e.passed ++ 10 ∷ []) [])
    (append_nil (line_of e.offsets end_forms))
    (joined c.passed (10 ∷ ending) e.passed (10 ∷ []) (e.passed ++ 10 ∷ []) []
    (line_of e.offsets end_forms) [] e.cut (last_cuts e.ends e.passed e.plain)) in
    let from_calls = joined m.passed (10 ∷ calls n ++ ending) c.passed (10 ∷ ending) (e.passed ++ 10 ∷ []) []
    (lines_of call_forms c.offsets n) _ c.cut last in
    let from_main = joined f.passed (10 ∷ middle) m.passed (10 ∷ calls n ++ ending) (e.passed ++ 10 ∷ []) []
    (line_of m.offsets main_forms) _ m.cut from_calls in
    let from_functions = joined a.passed (10 ∷ functions n ++ middle) f.passed (10 ∷ middle) (e.passed ++ 10 ∷ []) []
    (lines_of function_forms f.offsets n) _ f.cut from_main in
    record {
      offsets = record {
        include = 0;
        array = a.offsets;
        functions = f.offsets;
        main = m.offsets;
        calls = c.offsets;
        ending = e.offsets;
      };
      ends = past_gap e.ends (10 ∷ []);
      passed = e.passed ++ 10 ∷ [];
      cut = joined before (behind n) a.passed (10 ∷ functions n ++ middle) (e.passed ++ 10 ∷ []) []
          (line_of a.offsets array_forms) _ a.cut from_functions;
    }
  where
    append_nil : (ts : Tokens) → ts ++ [] ≡ ts
    append_nil [] = refl
    append_nil (t ∷ ts) = ap (λ (us : Tokens). t ∷ us) (append_nil ts)

-- the line with which the text begins stands at its first byte
abbrev begun : Offsets → Offsets
begun o = record {
  include = 0;
  array = o.array;
  functions = o.functions;
  main = o.main;
  calls = o.calls;
  ending = o.ending;
}

lexes : (n : ℕ) → n ≤ 64
    → (r : BehindReaches n (record { starts = false; directs = false }) (codes "#include <stdio.h>"))
    → Lexes (bench_text n) (tokens (begun r.offsets) n)
unfolding headers
lexes n few r =
    let text = codes "#include <stdio.h>" ++ behind n in
    let ts = tokens (begun r.offsets) n in
    let c : Cut fresh [] text ts r.ends r.passed [] =
    next (include_front (codes "include <stdio.h>" ++ behind n) header.Stdio refl) r.cut in
    let w : text ≡ r.passed = whole [] text r.passed [] ts c ∙ bytes_nil r.passed in
    subst (λ (t : Bytes). Lexes t ts) (sym (text_is n))
    (r.ends, subst (λ (x : Bytes). Cut fresh [] text ts r.ends x []) (sym w) c)

-- THEIR NUMBER

functions_length : (o : ℕ → InLine) (n : ℕ) → length (lines_of function_forms o n) ≡ 77 * n
functions_length o zero = refl
functions_length o (suc n) =
    let h : length (lines_of function_forms o n) ≡ 77 * n = functions_length o n in
    let a : length (lines_of function_forms o (suc n)) ≡ length (lines_of function_forms o n) + 77 =
    length-append (lines_of function_forms o n) (line_of (o n) (function_forms n)) in
    omega arith

calls_length : (o : ℕ → InLine) (k : ℕ) → length (lines_of call_forms o k) ≡ 23 * k
calls_length o zero = refl
calls_length o (suc k) =
    let h : length (lines_of call_forms o k) ≡ 23 * k = calls_length o k in
    let a : length (lines_of call_forms o (suc k)) ≡ length (lines_of call_forms o k) + 23 =
    length-append (lines_of call_forms o k) (line_of (o k) (call_forms k)) in
    omega arith

few_tokens : (o : Offsets) (n : ℕ) → n ≤ 64 → length (tokens o n) ≤ 8192
few_tokens o n few =
    let calls = lines_of call_forms o.calls n in
    let functions = lines_of function_forms o.functions n in
    let ending = line_of o.ending end_forms in
    let main = line_of o.main main_forms in
    let f : length functions ≡ 77 * n = functions_length o.functions n in
    let c : length calls ≡ 23 * n = calls_length o.calls n in
    let a : length (calls ++ ending) ≡ length calls + 7 = length-append calls ending in
    let rest = main ++ (calls ++ ending) in
    let b : length (functions ++ rest) ≡ length functions + length rest = length-append functions rest in
    omega arith

-- the text has such tokens, few enough
pub has_tokens : (n : ℕ) → n ≤ 64 → HasTokens n
has_tokens n few =
    let r = behind_cut n few (record { starts = false; directs = false }) (codes "#include <stdio.h>") refl in
    let o = begun r.offsets in
    let short : length (tokens o n) ≤ most_tokens = few_tokens o n few in
    record {
      offsets = o;
      lexed = (tokens o n, (lexes n few r, short), plain_stays most_tokens (tokens o n) (bench_plain o n) short);
    }
