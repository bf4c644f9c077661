-- Placing tokens one after another is to have what stands for all of them within as many as there may be.
use Rattle.std.proofs.Common.{◌≡◌, ℕ, List, [], ◌∷◌, ◌++◌, refl, ap, sym, ◌∙◌}
use Rattle.std.specs.Prelude.{Result, Ok, Err}
use Rattle.c_lex.specs.Lexes.{Tokens}
use Rattle.c_library.specs.declared.fault.LibraryFault.{LibraryFault}
use Rattle.c_library.specs.declared.header.Header.{Header}
use Rattle.c_library.specs.declared.walk.Walk.{Walk}
use Rattle.c_library.specs.Definitions.{Definitions}
use Rattle.c_library.specs.Headers.{header_of}
use Rattle.c_library.specs.Library.{defined_at, here, placed}
use Rattle.c_library.specs.Walks.{past}
use Rattle.c_library.specs.Within.{◌>>=◌, within}
use Rattle.c_library.specs.inside.Placed.{one_defined, define_all, place_all}
use Rattle.c_library.specs.inside.Puts.{put_all}
use Rattle.c_library.proofs.Puts.{both, put_is}

-- going on in two ways that are one
on_same : (m : Result Tokens LibraryFault) (f g : Tokens → Result Tokens LibraryFault) → ((o : Tokens) → f o ≡ g o)
    → (m >>= f) ≡ (m >>= g)
on_same (Ok o) f g e = e o
on_same (Err x) f g e = refl

-- what is placed is put
all_placed : (most : ℕ) (ds : Definitions) (w : Walk) (ts out : Tokens)
    → place_all most ds w ts out ≡ put_all most (placed ds w ts) out
all_placed most ds w [] out = refl
all_placed most ds w (t ∷ ts) out =
    let front : Tokens = here ds w t ts (header_of t.form) in
    on_same (put_all most front out) (place_all most ds (past w t ts) ts)
    (put_all most (placed ds (past w t ts) ts)) (all_placed most ds (past w t ts) ts)
    ∙ sym (both most front (placed ds (past w t ts) ts) out)

-- the definitions of a header are put
pub defined_is : (most at : ℕ) (h : Header) (ds : Definitions) (out : Tokens)
    → define_all most at h ds out ≡ put_all most (defined_at at h ds) out
defined_is most at h [] out = refl
defined_is most at h (d ∷ ds) out =
    ap (λ (m : Result Tokens LibraryFault). m >>= put_all most (one_defined at h d)) (defined_is most at h ds out)
    ∙ sym (both most (defined_at at h ds) (one_defined at h d) out)

-- from no token on
pub placed_is : (most : ℕ) (ds : Definitions) (w : Walk) (ts : Tokens)
    → place_all most ds w ts [] ≡ within most (placed ds w ts)
placed_is most ds w ts = all_placed most ds w ts [] ∙ put_is most (placed ds w ts)
