-- What holds of each token of a unit and of all that may be added holds of what stands for a size.
use Rattle.std.proofs.Common.{◌<◌, ℕ, ◌%◌, Bool, true, false, cond, not, ◌&&◌, List, [], ◌∷◌, ◌++◌, refl}
use Rattle.std.proofs.Common.{arith}
use Rattle.c_tree.specs.declared.Form.{Form}
use Rattle.c_tree.specs.declared.Form.TheVariants as form
use Rattle.c_tree.specs.declared.Kind.TheVariants as kind
use Rattle.c_tree.specs.declared.Mark.TheVariants as mark
use Rattle.c_lex.specs.Lexes.{Tokens}
use Rattle.c_library.specs.Calls.{is_mark}
use Rattle.c_library.proofs.Holds.{Fact, EachForm, EachToken, Allows}
use Rattle.c_sizes.specs.declared.shape.Shape.{Shape}
use Rattle.c_sizes.specs.Counts.{is_size, size, behind_size, values}
use Rattle.c_sizes.specs.Firsts.{begins, rest}
use Rattle.c_sizes.specs.Shapes.{constant, times, row, table, untold, function, scalar, whole, array, rows, first_size}
use Rattle.c_sizes.specs.Shapes.{sized_array, shape}

-- it holds of each token that stands for a size of this
pub record EachOf (P : Fact) (s : Shape) : Type 0 where
  pub whole : EachForm P s.whole
  pub row : EachForm P s.row
  pub element : EachForm P s.element

-- what holds of both holds of the one that a test takes
pub either : {A : Type 0} (Q : A → Type 0) (b : Bool) (x y : A) → Q x → Q y → Q (cond b x y)
either Q true x y h k = h
either Q false x y h k = k

append : (P : Fact) (xs ys : List Form) → EachForm P xs → EachForm P ys → EachForm P (xs ++ ys)
append P [] ys h k = k
append P (x ∷ xs) ys h k = (h.0, append P xs ys h.1 k)

below : (n : ℕ) → n % 2147483648 < 2147483648
below n = omega arith

constant_has : (P : Fact) (n : ℕ) → Allows P → P (constant n)
constant_has P n a = a.number (n % 2147483648) kind.ULong (below n) refl

pub alone_has : (P : Fact) (n : ℕ) → Allows P → EachForm P (constant n ∷ [])
alone_has P n a = (constant_has P n a, tt)

close_has : (P : Fact) → Allows P → EachForm P (form.Mark mark.RightParen ∷ [])
close_has P a = (a.mark mark.RightParen, tt)

times_has : (P : Fact) (s : List Form) → Allows P → EachForm P s → EachForm P (times s)
times_has P s a h =
    (a.mark mark.Star, (a.mark mark.LeftParen, append P s (form.Mark mark.RightParen ∷ []) h (close_has P a)))

row_has : (P : Fact) (b : ℕ) (s : List Form) → Allows P → EachForm P s → EachForm P (row b s)
row_has P b s a h = (
  a.mark mark.LeftParen,
  (constant_has P b a, append P (times s) (form.Mark mark.RightParen ∷ []) (times_has P s a h) (close_has P a)),
)

table_has : (P : Fact) (b : ℕ) (r s : List Form) → Allows P → EachForm P r → EachForm P s
    → EachForm P (table b r s)
table_has P b r s a h k =
    let last = append P (times s) (form.Mark mark.RightParen ∷ []) (times_has P s a k) (close_has P a) in (
      a.mark mark.LeftParen,
      (
        constant_has P b a,
        append P (times r) (times s ++ form.Mark mark.RightParen ∷ []) (times_has P r a h) last,
      ),
    )

whole_has : (P : Fact) (p : Bool) (fs : List Form) → Allows P → EachForm P fs → EachForm P (whole p fs)
whole_has P true fs a h = alone_has P 8 a
whole_has P false fs a h = h

untold_has : (P : Fact) → EachOf P untold
untold_has P = record { whole = tt; row = tt; element = tt }

pub function_has : (P : Fact) (b : ℕ) → EachOf P (function b)
function_has P b = record { whole = tt; row = tt; element = tt }

pub scalar_has : (P : Fact) (b : ℕ) → Allows P → EachOf P (scalar b)
scalar_has P b a = record { whole = alone_has P b a; row = tt; element = tt }

array_has : (P : Fact) (p : Bool) (b : ℕ) (s : List Form) → Allows P → EachForm P s → EachOf P (array p b s)
array_has P p b s a h = record {
  whole = whole_has P p (row b s) a (row_has P b s a h);
  row = alone_has P b a;
  element = tt;
}

rows_have : (P : Fact) (p : Bool) (b : ℕ) (r s : List Form) → Allows P → EachForm P r → EachForm P s
    → EachOf P (rows p b r s)
rows_have P p b r s a h k = record {
  whole = whole_has P p (table b r s) a (table_has P b r s a h k);
  row = row_has P b s a k;
  element = alone_has P b a;
}

rest_has : (P : Fact) (ts : Tokens) → EachToken P ts → EachToken P (rest ts)
rest_has P [] h = tt
rest_has P (t ∷ ts) h = h.1

size_has : (P : Fact) (ts : Tokens) → EachToken P ts → EachForm P (size ts)
size_has P [] h = tt
size_has P (t ∷ ts) h =
    either (EachForm P) (is_mark mark.RightBracket t.form) [] (t.form ∷ size ts) tt (h.0, size_has P ts h.1)

behind_has : (P : Fact) (ts : Tokens) → EachToken P ts → EachToken P (behind_size ts)
behind_has P [] h = tt
behind_has P (t ∷ ts) h =
    either (EachToken P) (is_mark mark.RightBracket t.form) ts (behind_size ts) h.1 (behind_has P ts h.1)

first_has : (P : Fact) (ts us : Tokens) → Allows P → EachToken P ts → EachForm P (first_size ts us)
first_has P ts us a h =
    either (EachForm P) (begins mark.RightBracket ts) (constant (values us) ∷ []) (size ts)
    (alone_has P (values us) a) (size_has P ts h)

two_have : (P : Fact) (p : Bool) (b : ℕ) (ts us : Tokens) → Allows P → EachToken P ts → EachToken P us
    → EachOf P (rows p b (first_size ts (behind_size us)) (size us))
two_have P p b ts us a h k =
    rows_have P p b (first_size ts (behind_size us)) (size us) a (first_has P ts (behind_size us) a h)
    (size_has P us k)

sized_has : (P : Fact) (p : Bool) (b : ℕ) (ts us : Tokens) → Allows P → EachToken P ts → EachToken P us
    → EachOf P (sized_array p b ts us)
sized_has P p b ts us a h k =
    let two : Shape = rows p b (first_size ts (behind_size (rest us))) (size (rest us)) in
    let one : Shape = array p b (first_size ts us) in
    let is_two : Bool = is_size (rest us) && not (begins mark.LeftBracket (behind_size (rest us))) in
    either (EachOf P) (begins mark.LeftBracket us) (cond is_two two untold) one
    (either (EachOf P) is_two two untold (two_have P p b ts (rest us) a h (rest_has P us k)) (untold_has P))
    (array_has P p b (first_size ts us) a (first_has P ts us a h))

-- it holds of the sizes of what is declared before these tokens
pub shape_has : (P : Fact) (p : Bool) (b : ℕ) (ts : Tokens) → Allows P → EachToken P ts → EachOf P (shape p b ts)
shape_has P p b ts a h =
    let first : Shape = sized_array p b (rest ts) (behind_size (rest ts)) in
    let is_known : Bool = is_size (rest ts) in
    let is_scalar : Bool = not (begins mark.LeftBracket ts) in
    either (EachOf P) (begins mark.LeftParen ts) (function b) (cond is_scalar (scalar b) (cond is_known first untold))
    (function_has P b)
    (either (EachOf P) is_scalar (scalar b) (cond is_known first untold) (scalar_has P b a)
    (either (EachOf P) is_known first untold
    (sized_has P p b (rest ts) (behind_size (rest ts)) a (rest_has P ts h) (behind_has P (rest ts) (rest_has P ts h)))
    (untold_has P)))

-- and of that what has no size that is told
pub none_has : (P : Fact) → EachOf P untold
none_has P = untold_has P
