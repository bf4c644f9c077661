-- Plain raw tokens are their own program.
use Rattle.std.proofs.Common.{◌≡◌, ◌≤◌, ◌<◌, ℕ, ◌+◌, Bool, true, false, List, [], ◌∷◌, ◌++◌, length, refl, ap, sym}
use Rattle.std.proofs.Common.{◌∙◌, arith, append_assoc, length-append}
use Rattle.std.specs.Prelude.{nat_lt, cond, ◌&&◌, Option, None, Result, Ok, Err}
use Rattle.std.proofs.lemmas.Bool.Decides.{nat_tests}
use Rattle.std.proofs.lemmas.List.{append-nil}
use Rattle.c_tree.specs.declared.Lexeme.{Lexeme}
use Rattle.c_pre.specs.declared.fault.PreFault.{PreFault}
use Rattle.c_pre.specs.declared.fault.PreFault.TheVariants as fault
use Rattle.c_pre.specs.declared.output.Output.{Output}
use Rattle.c_pre.specs.declared.reader.Reader.{Reader}
use Rattle.c_pre.specs.declared.said.Said.{Said}
use Rattle.c_pre.specs.declared.said.Said.TheVariants as said
use Rattle.c_pre.specs.Said.{said_by}
use Rattle.c_library.specs.declared.fault.LibraryFault.{LibraryFault}
use Rattle.c_pre.specs.Outputs.{◌>>=◌, lifted, with_token}
use Rattle.c_pre.specs.Passes.{passed, is_passed}
use Rattle.c_pre.proofs.PassFacts.{passed_stays}
use Rattle.c_pre.specs.Programs.{read_plain, read_token, read_all, ended, directed, program}
use Rattle.c_lex.specs.Lexes.{Tokens}
use Rattle.c_pre.specs.Plain.{is_token, has_no_directive, is_plain}

and_left : (a b : Bool) → (a && b) ≡ true → a ≡ true
and_left true b e = refl
and_left false b e = absurd (cc)

and_right : (a b : Bool) → (a && b) ≡ true → b ≡ true
and_right true b e = e
and_right false b e = absurd (cc)

-- behind these tokens, and none of a directive
abbrev behind : Tokens → Reader
behind ts = record { macros = []; groups = []; line = None; output = record { tokens = ts; count = length ts } }

counts : (ts : Tokens) (t : Lexeme) → length ts + 1 ≡ length (ts ++ t ∷ [])
counts ts t = omega (arith, length-append ts (t ∷ []))

-- a number below another is found to be
is_below : (n m : ℕ) → n < m → nat_lt n m ≡ true
is_below n m h = grind (arith, nat_tests)

-- what is given behind so many tokens, by the test of their number
given_by : (ts : Tokens) (t : Lexeme) → Bool → Result Reader PreFault
given_by ts t b =
    (((cond b (Ok (record { tokens = ts; count = length ts + 1 })) (Err (fault.TooManyTokens t.offset)))
    >>= λ (o : Output). Ok (with_token t.offset t.form o)) >>= λ (o : Output). Ok o)
    >>= λ (o : Output). Ok (record { macros = []; groups = []; line = None; output = o })

-- one token more, where there is room
added : (most : ℕ) (ts : Tokens) (t : Lexeme) → length ts < most
    → read_plain most said.Token t (behind ts) ≡ Ok (behind (ts ++ t ∷ []))
unfolding given_by
added most ts t few =
    ap (given_by ts t) (is_below (length ts) most few)
    ∙ ap (λ (n : ℕ). Ok (record {
      macros = [];
      groups = [];
      line = None;
      output = record { tokens = ts ++ t ∷ []; count = n };
    })) (counts ts t)

-- a token of the program is added
one_read : (most : ℕ) (ts : Tokens) (t : Lexeme) → length ts + 1 ≤ most → is_token (said_by t.form) ≡ true
    → read_token most t (behind ts) ≡ Ok (behind (ts ++ t ∷ []))
one_read most ts t few is = by (said_by t.form) is
  where
    by : (s : Said) → is_token s ≡ true → read_plain most s t (behind ts) ≡ Ok (behind (ts ++ t ∷ []))
    by said.Token h = added most ts t (omega arith)
    by (said.Directive d) h = absurd (cc)
    by (said.Header d) h = absurd (cc)
    by said.LineEnd h = absurd (cc)

-- each of them is added
all_read : (most : ℕ) (ts us : Tokens) → length ts + length us ≤ most → has_no_directive us ≡ true
    → read_all most us (behind ts) ≡ Ok (behind (ts ++ us))
all_read most ts [] few plain = ap (λ (us : Tokens). Ok (behind us)) (sym (append-nil ts))
all_read most ts (u ∷ us) few plain =
    let first : is_token (said_by u.form) ≡ true = and_left (is_token (said_by u.form)) (has_no_directive us) plain in
    let others : has_no_directive us ≡ true = and_right (is_token (said_by u.form)) (has_no_directive us) plain in
    let longer : length ts + 1 ≡ length (ts ++ u ∷ []) = counts ts u in
    ap (λ (m : Result Reader PreFault). m >>= read_all most us) (one_read most ts u (omega arith) first)
    ∙ all_read most (ts ++ u ∷ []) us (omega arith) others
    ∙ ap (λ (us : Tokens). Ok (behind us)) (append_assoc ts (u ∷ []) us)

-- raw tokens without a directive and a header stay behind directives
pub directed_stays : (most : ℕ) (ts : Tokens) → has_no_directive ts ≡ true → length ts ≤ most → directed most ts ≡ Ok ts
directed_stays most ts plain few =
    ap (λ (m : Result Reader PreFault). m >>= ended) (all_read most [] ts (omega arith) plain)

-- raw tokens without these, and without what a pass would change, are their own program
stays_by : (most : ℕ) (ts : Tokens) → has_no_directive ts ≡ true → is_passed ts ≡ true → length ts ≤ most
    → program most ts ≡ Ok ts
stays_by most ts d p few =
    ap (λ (m : Result Tokens PreFault). m >>= λ us. lifted (passed most us)) (directed_stays most ts d few)
    ∙ ap (λ (m : Result Tokens LibraryFault). lifted m) (passed_stays most ts p few)

-- so plain raw tokens are
pub plain_stays : (most : ℕ) (ts : Tokens) → is_plain ts ≡ true → length ts ≤ most → program most ts ≡ Ok ts
plain_stays most ts plain few =
    stays_by most ts (and_left (has_no_directive ts) (is_passed ts) plain)
    (and_right (has_no_directive ts) (is_passed ts) plain) few
