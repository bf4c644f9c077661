-- What holds of all that this crate may add holds of each token of the function of a format.
use Rattle.std.proofs.Common.{◌≡◌, ◌<◌, ℕ, ◌^◌, ◌%◌, Bool, true, false, cond, List, [], ◌∷◌, ◌++◌, Option, Some, None}
use Rattle.std.proofs.Common.{refl, subst, arith, mod-lt, nat_lt, codes, ◌||◌}
use Rattle.c_tree.specs.declared.Form.{Form}
use Rattle.c_tree.specs.declared.Form.TheVariants as form
use Rattle.c_tree.specs.declared.Key.TheVariants as key
use Rattle.c_tree.specs.declared.Kind.TheVariants.{Int}
use Rattle.c_tree.specs.declared.Mark.{Mark}
use Rattle.c_tree.specs.declared.Mark.TheVariants as mark
use Rattle.c_lex.specs.Bytes.{Bytes}
use Rattle.c_library.specs.Formats as formats
use Rattle.c_library.specs.Reading.{items_of}
use Rattle.c_library.specs.Terms as written
use Rattle.c_library.specs.Conversions.{one_of, is_signed}
use Rattle.c_library.specs.declared.conversion.Conversion.{Conversion}
use Rattle.c_library.specs.declared.format.Writer.{Writer}
use Rattle.c_library.specs.declared.reading.Item.{Item}
use Rattle.c_library.specs.declared.reading.Item.TheVariants as item
use Rattle.c_library.proofs.Holds.{Fact, EachForm, Allows}

-- of a list and of what follows it
each_behind : (P : Fact) (xs ys : List Form) → EachForm P xs → EachForm P ys → EachForm P (xs ++ ys)
each_behind P [] ys h k = k
each_behind P (x ∷ xs) ys h k = (h.0, each_behind P xs ys h.1 k)

-- of the one of three lists
of_three : (P : Fact) (s t : Bool) (xs ys zs : List Form) → EachForm P xs → EachForm P ys → EachForm P zs
    → EachForm P (cond s xs (cond t ys zs))
of_three P true t xs ys zs h i j = h
of_three P false true xs ys zs h i j = i
of_three P false false xs ys zs h i j = j

-- of the one of two lists
of_two : (P : Fact) (t : Bool) (xs ys : List Form) → EachForm P xs → EachForm P ys → EachForm P (cond t xs ys)
of_two P true xs ys h k = h
of_two P false xs ys h k = k

constant_keeps : (P : Fact) → Allows P → (v : ℕ) → P (written.constant v)
constant_keeps P a v = let few : v % 2 ^ 31 < 2 ^ 31 = mod-lt v (omega arith) in a.number (v % 2 ^ 31) Int few refl

constants_keep : (P : Fact) → Allows P → (vs : List ℕ) → EachForm P (written.constants vs)
constants_keep P a [] = tt
constants_keep P a (v ∷ vs) = (a.mark mark.Comma, (constant_keeps P a v, constants_keep P a vs))

call_keeps : (P : Fact) → Allows P → (name : Bytes) (first : Form) (vs : List ℕ) → P first
    → EachForm P (written.call name first vs)
call_keeps P a name first vs h =
    let ends : EachForm P (form.Mark mark.RightParen ∷ []) = (a.mark mark.RightParen, tt) in
    (a.name name, (a.mark mark.LeftParen, (h, each_behind P (written.constants vs) _ (constants_keep P a vs) ends)))

part_keeps : (P : Fact) → Allows P → (m : Mark) (xs ys : List Form) → EachForm P xs → EachForm P ys
    → EachForm P (written.with_part m xs ys)
part_keeps P a m [] ys h k = k
part_keeps P a m (x ∷ xs) ys h k = (h.0, each_behind P xs (form.Mark m ∷ ys) h.1 (a.mark m, k))

parameter_keeps : (P : Fact) → Allows P → (k : ℕ) (c : Conversion) → EachForm P (written.parameter k c)
parameter_keeps P a k c =
    let n : P (form.Name (written.argument k)) = a.name (written.argument k) in
    let t : P (form.Key (written.signed_type c.size)) = a.key (written.signed_type c.size) in
    of_three P (one_of (codes "s") c.letter) (is_signed c.letter || one_of (codes "c") c.letter)
    (form.Key key.Char ∷ form.Name (written.argument k) ∷ form.Mark mark.LeftBracket ∷ form.Mark mark.RightBracket ∷ [])
    (form.Key (written.signed_type c.size) ∷ form.Name (written.argument k) ∷ [])
    (form.Key key.Unsigned ∷ form.Key (written.signed_type c.size) ∷ form.Name (written.argument k) ∷ [])
    (a.key key.Char, (n, (a.mark mark.LeftBracket, (a.mark mark.RightBracket, tt)))) (t, (n, tt))
    (a.key key.Unsigned, (t, (n, tt)))

full_call_keeps : (P : Fact) → Allows P → (f : Form) (c : Conversion) → P f → EachForm P (written.full_call f c)
full_call_keeps P a f c h =
    let rest : List Form =
    cond (one_of (codes "c") c.letter) (written.call (codes "print.char") f (written.character_values c))
    (written.call (codes "print.unsigned") f (written.unsigned_values c)) in
    let kept : EachForm P rest =
    of_two P (one_of (codes "c") c.letter) (written.call (codes "print.char") f (written.character_values c))
    (written.call (codes "print.unsigned") f (written.unsigned_values c))
    (call_keeps P a (codes "print.char") f (written.character_values c) h)
    (call_keeps P a (codes "print.unsigned") f (written.unsigned_values c) h) in
    of_three P (is_signed c.letter) (one_of (codes "s") c.letter)
    (written.call (codes "print.signed") f (written.signed_values c))
    (written.call (codes "print.string") f (written.string_values c)) rest
    (call_keeps P a (codes "print.signed") f (written.signed_values c) h)
    (call_keeps P a (codes "print.string") f (written.string_values c) h) kept

call_by_keeps : (P : Fact) → Allows P → (name : Option Bytes) (f : Form) (c : Conversion) → P f
    → EachForm P (written.call_by name f c)
call_by_keeps P a (Some name) f c h = call_keeps P a name f [] h
call_by_keeps P a None f c h = full_call_keeps P a f c h

text_keeps : (P : Fact) → Allows P → (piece : Bytes) (terms : List Form) → EachForm P terms
    → EachForm P (formats.with_text piece terms)
text_keeps P a [] terms h = h
text_keeps P a (b ∷ []) terms h =
    part_keeps P a mark.Plus terms (written.call (codes "print.c") (written.constant b) []) h
    (call_keeps P a (codes "print.c") (written.constant b) [] (constant_keeps P a b))
text_keeps P a (b ∷ c ∷ bs) terms h =
    let literal : Form = form.Name (written.string_name (b ∷ c ∷ bs)) in
    part_keeps P a mark.Plus terms (written.call (codes "print.s") literal []) h
    (call_keeps P a (codes "print.s") literal [] (a.name (written.string_name (b ∷ c ∷ bs))))

-- of each parameter and term so far
record Keeps (P : Fact) (w : Writer) : Type 0 where
  parameters : EachForm P w.parameters
  terms : EachForm P w.terms

piece_keeps : (P : Fact) → Allows P → (w : Writer) → Keeps P w → Keeps P (formats.with_piece w)
piece_keeps P a w h = record { parameters = h.parameters; terms = text_keeps P a w.piece w.terms h.terms }

conversion_keeps : (P : Fact) → Allows P → (c : Conversion) (w : Writer) → Keeps P w
    → Keeps P (formats.with_conversion c w)
conversion_keeps P a c w h =
    let name : P (form.Name (written.argument w.count)) = a.name (written.argument w.count) in
    record {
      parameters = part_keeps P a mark.Comma w.parameters (written.parameter w.count c) h.parameters
          (parameter_keeps P a w.count c);
      terms = part_keeps P a mark.Plus w.terms (written.call_of w.count c) h.terms
          (call_by_keeps P a (written.short_name c) (form.Name (written.argument w.count)) c name);
    }

-- of either
either_keeps : (P : Fact) (t : Bool) (v w : Writer) → Keeps P v → Keeps P w → Keeps P (cond t v w)
either_keeps P true v w h k = h
either_keeps P false v w h k = k

item_keeps : (P : Fact) → Allows P → (i : Item) (w : Writer) → Keeps P w → Keeps P (formats.with_item i w)
item_keeps P a (item.Byte b) w h = record { parameters = h.parameters; terms = h.terms }
item_keeps P a (item.Conversion c) w h =
    either_keeps P (nat_lt w.count 8) (formats.with_conversion c (formats.with_piece w)) (record w { too_many = true })
    (conversion_keeps P a c (formats.with_piece w) (piece_keeps P a w h))
    (record { parameters = h.parameters; terms = h.terms })

items_keep : (P : Fact) → Allows P → (is : List Item) (w : Writer) → Keeps P w → Keeps P (formats.with_items is w)
items_keep P a [] w h = piece_keeps P a w h
items_keep P a (i ∷ is) w h = items_keep P a is (formats.with_item i w) (item_keeps P a i w h)

void_keeps : (P : Fact) → Allows P → (fs : List Form) → EachForm P fs → EachForm P (formats.or_void fs)
void_keeps P a [] h = (a.key key.Void, tt)
void_keeps P a (f ∷ fs) h = h

zero_keeps : (P : Fact) → Allows P → (fs : List Form) → EachForm P fs → EachForm P (formats.or_zero fs)
zero_keeps P a [] h = (constant_keeps P a 0, tt)
zero_keeps P a (f ∷ fs) h = h

function_keeps : (P : Fact) → Allows P → (name : Bytes) (ps ts : List Form) → EachForm P ps → EachForm P ts
    → EachForm P (formats.function_of name ps ts)
function_keeps P a name ps ts h k =
    let end : List Form = form.Mark mark.Semicolon ∷ form.Mark mark.RightBrace ∷ [] in
    let ends : EachForm P end = (a.mark mark.Semicolon, (a.mark mark.RightBrace, tt)) in
    let body : List Form =
    form.Mark mark.RightParen ∷ form.Mark mark.LeftBrace ∷ form.Key key.Return ∷ formats.or_zero ts in
    let kept : EachForm P body =
    (a.mark mark.RightParen, (a.mark mark.LeftBrace, (a.key key.Return, zero_keeps P a ts k))) in
    let front : EachForm P (formats.or_void ps ++ body) =
    each_behind P (formats.or_void ps) body (void_keeps P a ps h) kept in
    let rest : EachForm P ((formats.or_void ps ++ body) ++ end) =
    each_behind P (formats.or_void ps ++ body) end front ends in
    (a.key key.Int, (a.name name, (a.mark mark.LeftParen, rest)))

if_some : (P : Fact) (t : Bool) (xs fs : List Form) → EachForm P xs → cond t None (Some xs) ≡ Some fs → EachForm P fs
if_some P true xs fs h e = absurd (cc)
if_some P false xs fs h e = let same : xs ≡ fs = cc in subst (λ (fs : List Form). EachForm P fs) same h

defined_keeps : (P : Fact) → Allows P → (format : Bytes) (items : Option (List Item)) (fs : List Form)
    → formats.definition_by format items ≡ Some fs → EachForm P fs
defined_keeps P a format None fs e = absurd (cc)
defined_keeps P a format (Some is) fs e =
    let w : Writer = formats.with_items is formats.start in
    let kept : Keeps P w = items_keep P a is formats.start (record { parameters = tt; terms = tt }) in
    if_some P w.too_many (formats.function_of (formats.printf_name format) w.parameters w.terms) fs
    (function_keeps P a (formats.printf_name format) w.parameters w.terms kept.parameters kept.terms) e

-- So it holds of each token of a definition.
pub definition_keeps : (P : Fact) → Allows P → (format : Bytes) (fs : List Form)
    → formats.printf_definition format ≡ Some fs → EachForm P fs
unfolding formats.printf_definition
definition_keeps P a format fs e = defined_keeps P a format (items_of format) fs e
