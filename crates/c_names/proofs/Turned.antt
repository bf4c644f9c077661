-- A turn more: what stands for the first tokens is put, and the others come behind.
use Rattle.std.proofs.Common.{◌≡◌, ◌≤◌, ◌<◌, ◌-◌, ℕ, zero, suc, arith, [], ◌∷◌, length, sym, ap, subst, ◌∙◌, Bor}
use Rattle.std.specs.Prelude.{Result, Ok, Err, IfOk, IfErr}
use Rattle.c_tree.specs.declared.Lexeme.{Lexeme}
use Rattle.c_tree.specs.Limits.{most_tokens}
use Rattle.c_lex.specs.Lexes.{Tokens}
use Rattle.c_library.specs.declared.fault.LibraryFault.{LibraryFault}
use Rattle.c_library.specs.declared.fault.LibraryFault.TheVariants as fault
use Rattle.c_library.specs.Within.{◌>>=◌, within}
use Rattle.c_library.specs.inside.Gives.{Refuses}
use Rattle.c_library.specs.inside.Puts.{put_all}
use Rattle.c_library.proofs.Puts.{both, put_is}
use Rattle.c_names.specs.declared.turn.Names.{Names}
use Rattle.c_names.specs.Named.{named_in, named}
use Rattle.c_names.specs.Turns.{turn_of}
use Rattle.c_names.specs.inside.Takes.{Did}
use Rattle.c_names.proofs.Rests.{few_left}

-- what stands for the first tokens comes before the others
first : (n : ℕ) (ns : Names) (t : Lexeme) (ts out : Tokens) (m : Result Tokens LibraryFault)
    → put_all most_tokens (turn_of ns t ts).out out ≡ m
    → put_all most_tokens (named_in (suc n) ns (t ∷ ts)) out
    ≡ (m >>= put_all most_tokens (named_in n (turn_of ns t ts).names (turn_of ns t ts).rest))
first n ns t ts out m e =
    let more : Tokens = named_in n (turn_of ns t ts).names (turn_of ns t ts).rest in
    both most_tokens (turn_of ns t ts).out more out
    ∙ ap (λ (x : Result Tokens LibraryFault). x >>= put_all most_tokens more) e

-- behind a call that puts it
pub goes : (n : ℕ) (ns ns' : Names) (t : Lexeme) (ts rest out out' : Tokens)
    → Did (turn_of ns t ts) out rest ns' out'
    → put_all most_tokens (named_in (suc n) ns (t ∷ ts)) out ≡ put_all most_tokens (named_in n ns' rest) out'
goes n ns ns' t ts rest out out' d =
    first n ns t ts out (Ok out') d.puts
    ∙ ap (λ (xs : Names). put_all most_tokens (named_in n xs (turn_of ns t ts).rest) out') d.knows
    ∙ ap (λ (xs : Tokens). put_all most_tokens (named_in n ns' xs) out') d.goes_on

-- and behind one that has no room
pub fails : (n : ℕ) (ns : Names) (t : Lexeme) (ts out : Tokens) (f : LibraryFault)
    → Refuses (put_all most_tokens (turn_of ns t ts).out out) f
    → Refuses (put_all most_tokens (named_in (suc n) ns (t ∷ ts)) out) f
fails n ns t ts out (fault.Format at) h = first n ns t ts out (Err (fault.Format at)) h
fails n ns t ts out (fault.TooManyTokens at) h = first n ns t ts out (Err (fault.TooManyTokens at)) h
fails n ns t ts out fault.Memory h = tt

-- no more tokens are left than there were behind the first one
pub left : (ns ns' : Names) (t : Lexeme) (ts rest out out' : Tokens) → Did (turn_of ns t ts) out rest ns' out'
    → length rest ≤ length ts
left ns ns' t ts rest out out' d = subst (λ (xs : Tokens). length xs ≤ length ts) d.goes_on (few_left ns t ts)

-- the same of a call's result, where a turn is left
goes_in : (k : ℕ) (ns ns' : Names) (t : Lexeme) (ts rest out out' : Tokens) → 0 < k
    → Did (turn_of ns t ts) out rest ns' out'
    → put_all most_tokens (named_in k ns (t ∷ ts)) out ≡ put_all most_tokens (named_in (k - 1) ns' rest) out'
goes_in zero ns ns' t ts rest out out' h d = absurd (omega arith)
goes_in (suc n) ns ns' t ts rest out out' h d =
    let e : n ≡ suc n - 1 = omega arith in
    goes n ns ns' t ts rest out out' d
    ∙ ap (λ (k : ℕ). put_all most_tokens (named_in k ns' rest) out') e

fails_in : (k : ℕ) (ns : Names) (t : Lexeme) (ts out : Tokens) (f : LibraryFault) → 0 < k
    → Refuses (put_all most_tokens (turn_of ns t ts).out out) f
    → Refuses (put_all most_tokens (named_in k ns (t ∷ ts)) out) f
fails_in zero ns t ts out f h e = absurd (omega arith)
fails_in (suc n) ns t ts out f h e = fails n ns t ts out f e

pub turn_goes : (k : ℕ) (ns ns' : Names) (t : Lexeme) (ts out out' : Tokens) (r : Result (Bor Tokens) LibraryFault)
    → 0 < k → IfOk r (λ (rest : Bor Tokens). Did (turn_of ns t ts) out rest.now ns' out')
    → IfOk r (λ (rest : Bor Tokens). put_all most_tokens (named_in k ns (t ∷ ts)) out
    ≡ put_all most_tokens (named_in (k - 1) ns' rest.now) out')
turn_goes k ns ns' t ts out out' (Ok rest) h d = goes_in k ns ns' t ts rest.now out out' h d
turn_goes k ns ns' t ts out out' (Err f) h d = tt

pub turn_fails : (k : ℕ) (ns : Names) (t : Lexeme) (ts out : Tokens) (r : Result (Bor Tokens) LibraryFault) → 0 < k
    → IfErr r (Refuses (put_all most_tokens (turn_of ns t ts).out out))
    → IfErr r (Refuses (put_all most_tokens (named_in k ns (t ∷ ts)) out))
turn_fails k ns t ts out (Ok rest) h e = tt
turn_fails k ns t ts out (Err f) h e = fails_in k ns t ts out f h e

pub turn_left : (ns ns' : Names) (t : Lexeme) (ts out out' : Tokens) (r : Result (Bor Tokens) LibraryFault)
    → IfOk r (λ (rest : Bor Tokens). Did (turn_of ns t ts) out rest.now ns' out')
    → IfOk r (λ (rest : Bor Tokens). length rest.now ≤ length ts)
turn_left ns ns' t ts out out' (Ok rest) d = left ns ns' t ts rest.now out out' d
turn_left ns ns' t ts out out' (Err f) d = tt

-- what is put from the first token on is the unit
named_put : (ts out : Tokens) → out ≡ [] → within most_tokens (named ts) ≡ put_all most_tokens (named ts) out
named_put ts out e =
    sym (put_is most_tokens (named ts)) ∙ ap (λ (xs : Tokens). put_all most_tokens (named ts) xs) (sym e)

-- all that is put is the unit without names
pub named_done : (ts out new us : Tokens) → out ≡ [] → put_all most_tokens (named ts) out ≡ Ok new → us ≡ new
    → within most_tokens (named ts) ≡ Ok us
named_done ts out new us e h k = named_put ts out e ∙ h ∙ ap (λ (xs : Tokens). Ok xs) (sym k)

-- or its fault
pub named_refused : (ts out : Tokens) (f : LibraryFault) → out ≡ []
    → Refuses (put_all most_tokens (named ts) out) f → Refuses (within most_tokens (named ts)) f
named_refused ts out (fault.Format at) e h = named_put ts out e ∙ h
named_refused ts out (fault.TooManyTokens at) e h = named_put ts out e ∙ h
named_refused ts out fault.Memory e h = tt
