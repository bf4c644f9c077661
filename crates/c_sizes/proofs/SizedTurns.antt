-- Tokens put one after another, with constants for the sizes of objects.
use Rattle.std.proofs.Common.{◌≡◌, ℕ, List, [], ◌∷◌, sym, ap, ◌∙◌}
use Rattle.std.specs.Prelude.{Result, Ok, Err}
use Rattle.c_tree.specs.declared.Form.{Form}
use Rattle.c_tree.specs.declared.Lexeme.{Lexeme}
use Rattle.c_lex.specs.Lexes.{Tokens}
use Rattle.c_library.specs.declared.fault.LibraryFault.{LibraryFault}
use Rattle.c_library.specs.declared.fault.LibraryFault.TheVariants as fault
use Rattle.c_library.specs.Within.{◌>>=◌, within}
use Rattle.c_library.specs.inside.Gives.{Refuses}
use Rattle.c_library.specs.inside.Puts.{put_all}
use Rattle.c_library.proofs.Puts.{both, put_is}
use Rattle.c_sizes.specs.declared.walk.Walk.{Walk}
use Rattle.c_sizes.specs.Sized.{Sized, size_at, stands_for, left_out, sized_from, sized}
use Rattle.c_sizes.specs.Walks.{past}

-- what stands for the first token comes before the others
first : (most : ℕ) (w : Walk) (t : Lexeme) (ts out : Tokens) (m : Result Tokens LibraryFault)
    → put_all most (stands_for t (size_at w.known t ts).0) out ≡ m
    → put_all most (sized_from w 0 (t ∷ ts)) out
    ≡ (m >>= put_all most (sized_from (past t.form ts w) (left_out (size_at w.known t ts)) ts))
first most w t ts out m e =
    both most (stands_for t (size_at w.known t ts).0)
    (sized_from (past t.form ts w) (left_out (size_at w.known t ts)) ts) out
    ∙ ap (λ (x : Result Tokens LibraryFault). x
    >>= put_all most (sized_from (past t.form ts w) (left_out (size_at w.known t ts)) ts)) e

-- the forms that are put are what stands for it
same : (most : ℕ) (w : Walk) (t : Lexeme) (ts out : Tokens) (size : List Form) (taken : ℕ)
    → (size, taken) ≡ size_at w.known t ts
    → put_all most (stands_for t (size_at w.known t ts).0) out ≡ put_all most (stands_for t size) out
same most w t ts out size taken h = ap (λ (x : Sized). put_all most (stands_for t x.0) out) (sym h)

-- behind a call that puts it
pub first_goes : (most : ℕ) (w : Walk) (t : Lexeme) (ts out new : Tokens) (size : List Form) (taken n : ℕ)
    → (size, taken) ≡ size_at w.known t ts → put_all most (stands_for t size) out ≡ Ok new
    → n ≡ left_out (size, taken)
    → put_all most (sized_from w 0 (t ∷ ts)) out ≡ put_all most (sized_from (past t.form ts w) n ts) new
first_goes most w t ts out new size taken n h e k =
    first most w t ts out (Ok new) (same most w t ts out size taken h ∙ e)
    ∙ ap (λ (i : ℕ). put_all most (sized_from (past t.form ts w) i ts) new) (sym (k ∙ ap left_out h))

-- and behind one that has no room
pub first_fails : (most : ℕ) (w : Walk) (t : Lexeme) (ts out : Tokens) (size : List Form) (taken : ℕ)
    (f : LibraryFault) → (size, taken) ≡ size_at w.known t ts → Refuses (put_all most (stands_for t size) out) f
    → Refuses (put_all most (sized_from w 0 (t ∷ ts)) out) f
first_fails most w t ts out size taken (fault.Format at) h e =
    first most w t ts out (Err (fault.Format at)) (same most w t ts out size taken h ∙ e)
first_fails most w t ts out size taken (fault.TooManyTokens at) h e =
    first most w t ts out (Err (fault.TooManyTokens at)) (same most w t ts out size taken h ∙ e)
first_fails most w t ts out size taken fault.Memory h e = tt

-- all that is put is the unit
pub sized_done : (most : ℕ) (ts out new us : Tokens) → out ≡ [] → put_all most (sized ts) out ≡ Ok new → us ≡ new
    → within most (sized ts) ≡ Ok us
sized_done most ts out new us e h k =
    sym (put_is most (sized ts)) ∙ ap (λ (xs : Tokens). put_all most (sized ts) xs) (sym e) ∙ h
    ∙ ap (λ (xs : Tokens). Ok xs) (sym k)

sized_put : (most : ℕ) (ts out : Tokens) → out ≡ [] → within most (sized ts) ≡ put_all most (sized ts) out
sized_put most ts out e =
    sym (put_is most (sized ts)) ∙ ap (λ (xs : Tokens). put_all most (sized ts) xs) (sym e)

-- or its fault
pub sized_refused : (most : ℕ) (ts out : Tokens) (f : LibraryFault) → out ≡ []
    → Refuses (put_all most (sized ts) out) f → Refuses (within most (sized ts)) f
sized_refused most ts out (fault.Format at) e h = sized_put most ts out e ∙ h
sized_refused most ts out (fault.TooManyTokens at) e h = sized_put most ts out e ∙ h
sized_refused most ts out fault.Memory e h = tt
