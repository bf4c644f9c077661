-- The lines of the benchmark's text have these tokens.
use Rattle.std.proofs.Common.{◌≡◌, ◌<◌, ℕ, zero, suc, ◌+◌, Bool, true, false, cond, not, ◌&&◌, ◌||◌, List, [], ◌∷◌}
use Rattle.std.proofs.Common.{◌++◌, length}
use Rattle.std.proofs.Common.{codes, take, drop, Option, Some, None, refl, sym, ap, ◌∙◌, subst, arith, get_or, nat_eq}
use Rattle.std.proofs.Math.Seq.{take-append_seam, drop-append_seam}
use Rattle.std.specs.Prelude.{decimal}
use Rattle.std.specs.Fmt.{digits}
use Rattle.bench_text.specs.Text.{function_body}
use Rattle.c_tree.specs.declared.Form.{Form}
use Rattle.c_tree.specs.declared.Form.TheVariants as form
use Rattle.c_tree.specs.declared.Key.{Key}
use Rattle.c_tree.specs.declared.Key.TheVariants as key
use Rattle.c_tree.specs.declared.Mark.TheVariants as mark
use Rattle.c_tree.specs.declared.Kind.{Kind}
use Rattle.c_tree.specs.declared.Kind.TheVariants.{Int}
use Rattle.c_tree.specs.Marks.{marks as plain_marks}
use Rattle.c_lex.specs.declared.piece.Reading.TheVariants as reads
use Rattle.c_lex.specs.Bytes.{Bytes, Goes, by_class, is_space, is_digit, is_letter, is_word, in_number}
use Rattle.c_lex.specs.Bytes.{is_sign, is_exponent, in_white}
use Rattle.c_lex.specs.inside.Spaces.{spaces}
use Rattle.c_lex.specs.inside.Runs.{run_len}
use Rattle.c_lex.specs.Tables.{lookup, keywords, marks}
use Rattle.c_lex.specs.inside.Scans.{constant_of}
use Rattle.c_lex.specs.Pieces.{Longest, word_form}
use Rattle.c_lex.specs.inside.Pieces.{Front}
use Rattle.c_lex.proofs.Basics.{and_left, and_right, not_true, or_left, or_right}
use Rattle.c_lex.proofs.Firsts.{tabled, tabled_at}
use Rattle.c_lex.proofs.Fronts.{space_front, word_front, number_front}
use Rattle.c_lex.proofs.Numbers.{constant_is}
use Rattle.c_lex.proofs.Runs.{run_exact}
use Rattle.bench_laws.proofs.Forms.{array_forms, body_forms, function_forms, main_forms}
use Rattle.bench_laws.proofs.Forms.{behind_call_forms, call_forms}
use Rattle.bench_laws.proofs.Forms.{end_forms}
use Rattle.bench_laws.proofs.Scan.{scan, Line, stop, pass, read, scan_line}

-- NUMERALS

-- digits alone
abbrev each_digit : Bytes → Bool
each_digit [] = true
each_digit (d ∷ ds) = is_digit d && each_digit ds

-- a digit first, which is no space and no backslash
abbrev is_numeral : Bytes → Bool
is_numeral [] = false
is_numeral (d ∷ ds) = not (is_space d || nat_eq d 92) && (is_digit d && each_digit ds)

-- what is asked of each number below 64, and the answers
abbrev numeral_at : ℕ → Bool
numeral_at k = is_numeral (decimal k)

-- the answer yes for each number
abbrev pub is_yes : ℕ → Bool
is_yes k = true

abbrev keyword_at : ℕ → Option Key
keyword_at k = lookup (102 ∷ decimal k) keywords

abbrev no_keyword : ℕ → Option Key
no_keyword k = None

abbrev constant_at : ℕ → Option (ℕ × Kind)
constant_at k = constant_of (decimal k)

abbrev int_constant : ℕ → Option (ℕ × Kind)
int_constant k = Some (k, Int)

all_numerals : tabled numeral_at 0 64 ≡ tabled is_yes 0 64
unfolding digits
all_numerals = refl

-- no keyword is `f` before a numeral
all_names : tabled keyword_at 0 64 ≡ tabled no_keyword 0 64
unfolding digits keywords
all_names = refl

all_constants : tabled constant_at 0 64 ≡ tabled int_constant 0 64
unfolding digits
all_constants = refl

-- rows of equal tables are equal
pub row_same : {A : Type 0} (f g : ℕ → A) (n k : ℕ) → tabled f 0 n ≡ tabled g 0 n → k < n → f k ≡ g k
row_same {A = A} f g n k e h =
    let same : 0 + k ≡ k = omega arith in
    ap f (sym same) ∙ sym (tabled_at f 0 n k (f 0) h) ∙ ap (λ (t : List A). get_or t k (f 0)) e
    ∙ tabled_at g 0 n k (f 0) h ∙ ap g same

numeral_digits : (w : Bytes) → is_numeral w ≡ true → each_digit w ≡ true
numeral_digits [] e = absurd (cc e)
numeral_digits (d ∷ ds) e = and_right (not (is_space d || nat_eq d 92)) _ e

or_true : (a : Bool) → (a || true) ≡ true
or_true true = refl
or_true false = refl

digit_word : (d : ℕ) → is_digit d ≡ true → is_word d ≡ true
digit_word d e = ap (λ (b : Bool). is_letter d || b) e ∙ or_true (is_letter d)

digits_go : (w : Bytes) (last : ℕ) → each_digit w ≡ true → Goes (by_class is_word) last w
digits_go [] last e = tt
digits_go (d ∷ ds) last e = (digit_word d (and_left (is_digit d) _ e), digits_go ds d (and_right (is_digit d) _ e))

-- the digits of a number, before a byte with which none goes on
number_run : (w : Bytes) (last c : ℕ) (rest : Bytes) → each_digit w ≡ true → ((b : ℕ) → in_number b c ≡ false)
    → run_len in_number last (w ++ c ∷ rest) ≡ length w
number_run [] last c rest e n = ap (λ (b : Bool). cond b (suc (run_len in_number c rest)) 0) (n last)
number_run (d ∷ ds) last c rest e n =
    let goes : in_number last d ≡ true = ap (λ (b : Bool). (b || nat_eq d 46) || (is_sign d && is_exponent last))
    (digit_word d (and_left (is_digit d) _ e)) in
    ap (λ (b : Bool). cond b (suc (run_len in_number d (ds ++ c ∷ rest))) 0) goes
    ∙ ap suc (number_run ds d c rest (and_right (is_digit d) _ e) n)

-- PARTS OF LINES

-- one part after another
joined : {a b c : Bytes} {fs gs : List Form} → Line a fs b → Line b gs c → Line a (fs ++ gs) c
joined stop y = y
joined (pass l x) y = pass l (joined x y)
joined (read l n x) y = read l n (joined x y)

-- what a scan finds
found : (n : ℕ) (text : Bytes) (fs : List Form) (rest : Bytes) → scan n text ≡ (fs, rest) → Line text fs rest
found n text fs rest e = subst (λ (r : List Form × Bytes). Line text r.0 r.1) e (scan_line n text)

-- a byte that is no space and no backslash is no white space
solid : (b : ℕ) (bs : Bytes) → (is_space b || nat_eq b 92) ≡ false → in_white b bs ≡ false
solid b bs e = rw (or_left (is_space b) (nat_eq b 92) e, or_right (is_space b) (nat_eq b 92) e) refl

-- a blank before a byte that is no white space
blank : (b : ℕ) (rest more : Bytes) (fs : List Form) → in_white b rest ≡ false → Line (b ∷ rest) fs more
    → Line (32 ∷ b ∷ rest) fs more
blank b rest more fs s x =
    let g : (starts : Bool) → Front starts (32 ∷ b ∷ rest) 1 reads.Gap = λ starts.
    subst (λ (v : Bool). Front starts (32 ∷ b ∷ rest) (suc (length (cond v (b ∷ spaces rest) []))) reads.Gap)
    s (space_front starts 32 (b ∷ rest) refl) in
    pass g x

-- the name of a function, before a byte of no word
name_line : (w : Bytes) (c : ℕ) (rest more : Bytes) (fs : List Form) → each_digit w ≡ true → is_word c ≡ false
    → lookup (102 ∷ w) keywords ≡ None → Line (c ∷ rest) fs more
    → Line (102 ∷ w ++ c ∷ rest) (form.Name (102 ∷ w) ∷ fs) more
name_line w c rest more fs e s none x =
    let bs = w ++ c ∷ rest in
    let n : run_len (by_class is_word) 102 bs ≡ length w = run_exact is_word 102 w (c ∷ rest) (digits_go w 102 e) s in
    let a : (starts : Bool) → Longest starts (102 ∷ bs) (102 ∷ take (length w) bs) (drop (length w) bs)
    (reads.Token (word_form (102 ∷ take (length w) bs) (lookup (102 ∷ take (length w) bs) keywords))) = λ starts.
    subst (λ (m : ℕ). Longest starts (102 ∷ bs) (102 ∷ take m bs) (drop m bs)
    (reads.Token (word_form (102 ∷ take m bs) (lookup (102 ∷ take m bs) keywords)))) n
    (word_front starts 102 bs refl) in
    let b : (starts : Bool) → Longest starts (102 ∷ bs) (102 ∷ w) (c ∷ rest) (reads.Token (form.Name (102 ∷ w))) =
    λ starts.
    subst (λ (o : Option Key). Longest starts (102 ∷ bs) (102 ∷ w) (c ∷ rest)
    (reads.Token (word_form (102 ∷ w) o))) none
    (subst (λ (t : Bytes). Longest starts (102 ∷ bs) (102 ∷ w) t
    (reads.Token (word_form (102 ∷ w) (lookup (102 ∷ w) keywords)))) (drop-append_seam w (c ∷ rest))
    (subst (λ (t : Bytes). Longest starts (102 ∷ bs) (102 ∷ t) (drop (length w) bs)
    (reads.Token (word_form (102 ∷ t) (lookup (102 ∷ t) keywords)))) (take-append_seam w (c ∷ rest)) (a starts))) in
    read b refl x

-- a number behind a blank, before a byte with which no number goes on
number_line : (w : Bytes) (v c : ℕ) (k : Kind) (rest more : Bytes) (fs : List Form) → is_numeral w ≡ true
    → ((b : ℕ) → in_number b c ≡ false) → constant_of w ≡ Some (v, k) → Line (c ∷ rest) fs more
    → Line (32 ∷ w ++ c ∷ rest) (form.Number v k ∷ fs) more
number_line [] v c k rest more fs e s is x = absurd (cc e)
number_line (d ∷ ds) v c k rest more fs e s is x =
    let digits_are : (is_digit d && each_digit ds) ≡ true = and_right (not (is_space d || nat_eq d 92)) _ e in
    let first : is_digit d ≡ true = and_left (is_digit d) _ digits_are in
    let each : each_digit ds ≡ true = and_right (is_digit d) _ digits_are in
    let bs = ds ++ c ∷ rest in
    let n : run_len in_number d bs ≡ length ds = number_run ds d c rest each s in
    let t : take (length ds) bs ≡ ds = take-append_seam ds (c ∷ rest) in
    let a : (starts : Bool) → Longest starts (d ∷ bs) (d ∷ take (length ds) bs) (drop (length ds) bs)
    (reads.Token (form.Number v k)) = λ starts.
    subst (λ (m : ℕ). Longest starts (d ∷ bs) (d ∷ take m bs) (drop m bs) (reads.Token (form.Number v k))) n
    (number_front starts d bs v k first (constant_is (d ∷ take (run_len in_number d bs) bs) v k
    (ap (λ (m : ℕ). constant_of (d ∷ take m bs)) n ∙ ap (λ (y : Bytes). constant_of (d ∷ y)) t ∙ is))) in
    let b : (starts : Bool) → Longest starts (d ∷ bs) (d ∷ ds) (c ∷ rest) (reads.Token (form.Number v k)) = λ starts.
    subst (λ (y : Bytes). Longest starts (d ∷ bs) (d ∷ ds) y (reads.Token (form.Number v k)))
    (drop-append_seam ds (c ∷ rest))
    (subst (λ (y : Bytes). Longest starts (d ∷ bs) (d ∷ y) (drop (length ds) bs) (reads.Token (form.Number v k))) t
    (a starts)) in
    blank d bs more _
    (solid d bs (not_true (is_space d || nat_eq d 92) (and_left (not (is_space d || nat_eq d 92)) _ e)))
    (read b refl x)

-- LINES

-- the line of function k, and a line feed
abbrev pub function_text : ℕ → Bytes → Bytes
function_text k rest = codes "long f" ++ (decimal k ++ (function_body ++ (decimal k ++ (codes "; }" ++ 10 ∷ rest))))

body_scan : (rest : Bytes) → scan 115 (function_body ++ rest) ≡ (body_forms, 32 ∷ rest)
unfolding keywords marks plain_marks function_body
body_scan rest = refl

-- the line of function k has its tokens
pub function_is_cut : (k : ℕ) (rest : Bytes) → k < 64 → Line (function_text k rest) (function_forms k) (10 ∷ rest)
unfolding keywords marks plain_marks function_body
function_is_cut k rest h =
    let numeral : is_numeral (decimal k) ≡ true = row_same numeral_at is_yes 64 k all_numerals h in
    let tail = codes "; }" ++ 10 ∷ rest in
    joined (found 2 (function_text k rest) (form.Key key.Long ∷ [])
    (102 ∷ decimal k ++ (function_body ++ (decimal k ++ tail))) refl)
    (name_line (decimal k) 40 _ (10 ∷ rest) _ (numeral_digits (decimal k) numeral) refl
    (row_same keyword_at no_keyword 64 k all_names h)
    (joined (found 115 (function_body ++ (decimal k ++ tail)) body_forms (32 ∷ decimal k ++ tail)
    (body_scan (decimal k ++ tail)))
    (number_line (decimal k) k 59 Int _ (10 ∷ rest) _ numeral (λ b. refl)
    (row_same constant_at int_constant 64 k all_constants h)
    (found 10 tail (form.Mark mark.Semicolon ∷ form.Mark mark.RightBrace ∷ []) (10 ∷ rest) refl))))

-- the line of its call, and a line feed
abbrev pub call_text : ℕ → Bytes → Bytes
call_text k rest = codes "x = f" ++ (decimal k ++ (codes "(x) % 1000; putchar(65 + (int) (x % 26));" ++ 10 ∷ rest))

-- the line that calls function k has its tokens
pub call_is_cut : (k : ℕ) (rest : Bytes) → k < 64 → Line (call_text k rest) (call_forms k) (10 ∷ rest)
unfolding keywords marks plain_marks
call_is_cut k rest h =
    let numeral : is_numeral (decimal k) ≡ true = row_same numeral_at is_yes 64 k all_numerals h in
    let tail = codes "(x) % 1000; putchar(65 + (int) (x % 26));" ++ 10 ∷ rest in
    joined (found 4 (call_text k rest) (form.Name (codes "x") ∷ form.Mark mark.Assign ∷ [])
    (102 ∷ decimal k ++ tail) refl)
    (name_line (decimal k) 40 _ (10 ∷ rest) _ (numeral_digits (decimal k) numeral) refl
    (row_same keyword_at no_keyword 64 k all_names h)
    (found 50 tail behind_call_forms (10 ∷ rest) refl))

-- the line of the array has its tokens
pub array_is_cut : (rest : Bytes) → Line (codes "long a[16];" ++ 10 ∷ rest) array_forms (10 ∷ rest)
unfolding keywords marks plain_marks
array_is_cut rest = found 20 (codes "long a[16];" ++ 10 ∷ rest) array_forms (10 ∷ rest) refl

-- the first line of main has its tokens
pub main_is_cut : (rest : Bytes) → Line (codes "int main(void) { long x = 1;" ++ 10 ∷ rest) main_forms (10 ∷ rest)
unfolding keywords marks plain_marks
main_is_cut rest = found 40 (codes "int main(void) { long x = 1;" ++ 10 ∷ rest) main_forms (10 ∷ rest) refl

-- the last line of main has its tokens
pub end_is_cut : (rest : Bytes) → Line (codes "return (int) x; }" ++ 10 ∷ rest) end_forms (10 ∷ rest)
unfolding keywords marks plain_marks
end_is_cut rest = found 20 (codes "return (int) x; }" ++ 10 ∷ rest) end_forms (10 ∷ rest) refl
