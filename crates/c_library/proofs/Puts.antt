-- Putting tokens one after another, as long as there is room, is to have them all within as many as there may be.
use Rattle.std.proofs.Common.{◌≡◌, ◌≤◌, ℕ, zero, suc, ◌+◌, Bool, true, false, cond, List, [], ◌∷◌, ◌++◌, length, drop}
use Rattle.std.proofs.Common.{refl, sym, ap, subst, ◌∙◌, arith, append-nil, append_assoc, length-append, length-drop}
use Rattle.std.proofs.Common.{drop_of_length-le}
use Rattle.std.specs.Prelude.{nat_lt, Result, Ok, Err}
use Rattle.std.proofs.lemmas.Bool.Decides.{nat_tests}
use Rattle.c_tree.specs.declared.Lexeme.{Lexeme}
use Rattle.c_library.specs.declared.fault.LibraryFault.{LibraryFault}
use Rattle.c_library.specs.declared.fault.LibraryFault.TheVariants as fault
use Rattle.c_library.specs.Within.{◌>>=◌, unless_more, within}
use Rattle.c_library.specs.inside.Puts.{put, put_all}
use Rattle.c_lex.specs.Lexes.{Tokens}

-- going on twice, where the second way is known
on_both : (m : Result Tokens LibraryFault) (f g h : Tokens → Result Tokens LibraryFault)
    → ((o : Tokens) → f o ≡ (g o >>= h)) → (m >>= f) ≡ ((m >>= g) >>= h)
on_both (Ok o) f g h e = e o
on_both (Err x) f g h e = refl

-- tokens behind tokens are put behind them
pub both : (most : ℕ) (xs ys : Tokens) (out : Tokens)
    → put_all most (xs ++ ys) out ≡ (put_all most xs out >>= put_all most ys)
both most [] ys out = refl
both most (t ∷ ts) ys out =
    on_both (put most t out) (put_all most (ts ++ ys)) (put_all most ts) (put_all most ys) (both most ts ys)

on_one : (most : ℕ) (m : Result Tokens LibraryFault) → (m >>= put_all most []) ≡ m
on_one most (Ok o) = refl
on_one most (Err x) = refl

-- one token alone
pub one : (most : ℕ) (t : Lexeme) (out : Tokens) → put_all most (t ∷ []) out ≡ put most t out
one most t out = on_one most (put most t out)

is_less : (n k : ℕ) → nat_lt n (n + suc k) ≡ true
is_less n k = grind (arith, nat_tests)

not_less : (n : ℕ) → nat_lt n (n + zero) ≡ false
not_less n = grind (arith, nat_tests)

none_left : (k : ℕ) (out : Tokens) → unless_more out (drop k []) ≡ Ok out
none_left zero out = refl
none_left (suc k) out = refl

-- where as many more fit, all tokens are put, or the first behind these is too many
fits : (most k : ℕ) (ts out : Tokens) → most ≡ length out + k
    → put_all most ts out ≡ unless_more (out ++ ts) (drop k ts)
fits most k [] out e = ap (λ (xs : Tokens). Ok xs) (sym (append-nil out)) ∙ sym (none_left k (out ++ []))
fits most zero (t ∷ ts) out e =
    let full : nat_lt (length out) most ≡ false =
    ap (λ (n : ℕ). nat_lt (length out) n) e ∙ not_less (length out) in
    ap (λ (b : Bool). cond b (Ok (out ++ t ∷ [])) (Err (fault.TooManyTokens t.offset)) >>= put_all most ts) full
fits most (suc k) (t ∷ ts) out e =
    let room : nat_lt (length out) most ≡ true =
    ap (λ (n : ℕ). nat_lt (length out) n) e ∙ is_less (length out) k in
    let one_longer : most ≡ length (out ++ t ∷ []) + k = omega (arith, length-append out (t ∷ [])) in
    ap (λ (b : Bool). cond b (Ok (out ++ t ∷ [])) (Err (fault.TooManyTokens t.offset)) >>= put_all most ts) room
    ∙ fits most k ts (out ++ t ∷ []) one_longer
    ∙ ap (λ (xs : Tokens). unless_more xs (drop k ts)) (append_assoc out (t ∷ []) ts)

-- tokens put from the first on are those within as many as there may be
pub put_is : (most : ℕ) (ts : Tokens) → put_all most ts [] ≡ within most ts
put_is most ts = fits most most ts [] (omega arith)

-- few enough tokens are all there
pub few_stay : (most : ℕ) (ts : Tokens) → length ts ≤ most → within most ts ≡ Ok ts
few_stay most ts h = ap (unless_more ts) (drop_of_length-le ts h)

few_by : (ts more us : Tokens) → unless_more ts more ≡ Ok us → (more ≡ []) × (ts ≡ us)
few_by ts [] us e = (refl, cc)
few_by ts (t ∷ more) us e = absurd (cc)

-- what is there is all of them
pub within_is : (most : ℕ) (ts us : Tokens) → within most ts ≡ Ok us → ts ≡ us
within_is most ts us e = (few_by ts (drop most ts) us e).1

none_behind : (most : ℕ) (ts : Tokens) → drop most ts ≡ [] → length ts ≤ most
none_behind most ts e = omega (arith, length-drop most ts, ap length e)

-- and as few as there may be
pub within_few : (most : ℕ) (ts us : Tokens) → within most ts ≡ Ok us → length us ≤ most
within_few most ts us e =
    let few : length ts ≤ most = none_behind most ts (few_by ts (drop most ts) us e).0 in
    subst (λ (xs : Tokens). length xs ≤ most) (within_is most ts us e) few
