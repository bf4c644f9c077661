-- What is told of endings, worked by hand from the README of this crate.
use Rattle.std.proofs.Common.{◌≡◌, ◌∷◌, ◌++◌, [], refl, codes, Some, None}
use Rattle.std.specs.Fmt.{digits}
use Rattle.trips_explain_endings.specs.Endings.{around, done_told, halted_told, not_done, place, undefined_told}

-- the seventh byte stands behind a line feed and a tab
pub place_is : place (codes "a.c") (codes "int a\n\tb;") 7 ≡ codes "a.c:2:2"
unfolding digits
place_is = refl

-- of three definitions the second is the last one before the offset
pub around_is : around 9 (2 ∷ 8 ∷ 20 ∷ []) ≡ Some 8
around_is = refl

-- none stands before it
pub around_none : around 1 (2 ∷ []) ≡ None
around_none = refl

pub done_is : done_told (codes "result 7") 12 (codes "ab") ≡ codes "result 7 in 12 steps\noutput: 2 bytes\nab"
unfolding digits
done_is = refl

-- a sum in f, which main calls
pub undefined_is : undefined_told (codes "a.c") (codes "int f(int n) { return n + 1; }\nint main(void) { return f(9); }")
    (4 ∷ 35 ∷ []) (codes "undefined: so") (Some 24) (55 ∷ []) []
    ≡ codes "a.c:1:25: undefined: so\nint f(int n) { return n + 1; }\n                        ^\n"
    ++ codes "called in main at a.c:2:25\noutput: 0 bytes\n"
unfolding digits
undefined_is = refl

-- no expression is told
pub halted_is : halted_told (codes "a.c") (codes "int main(void) { for (;;) ; }") (4 ∷ []) (not_done 9) None [] []
    ≡ codes "not done after 9 steps\noutput: 0 bytes\n"
unfolding digits
halted_is = refl
