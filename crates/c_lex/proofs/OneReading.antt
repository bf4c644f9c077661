-- A piece has one reading, and one piece is the longest.
use Rattle.std.proofs.Common.{◌≡◌, ◌≤◌, ℕ, Bool, true, false, ◌||◌, [], ◌∷◌, ◌++◌, length}
use Rattle.std.proofs.Common.{take, drop, Some, refl, sym, ap, ◌∙◌, subst, arith, nat_eq}
use Rattle.std.proofs.Math.Seq.{take-append_seam, drop-append_seam}
use Rattle.c_tree.specs.declared.Form.TheVariants as form
use Rattle.c_tree.specs.declared.Kind.{Kind}
use Rattle.c_tree.specs.declared.Kind.TheVariants.{Int}
use Rattle.c_lex.specs.declared.piece.Reading.{Reading}
use Rattle.c_lex.specs.declared.piece.Reading.TheVariants as reads
use Rattle.c_lex.specs.Bytes.{Bytes}
use Rattle.c_lex.specs.Constants.{signed_char}
use Rattle.c_lex.specs.inside.Characters.{character_of}
use Rattle.c_lex.specs.inside.Scans.{include_at}
use Rattle.c_lex.specs.inside.Strings.{values_from}
use Rattle.c_lex.specs.Strings.{string_name}
use Rattle.c_lex.specs.Pieces as piece
use Rattle.c_lex.specs.Pieces.{Piece, Longest}
use Rattle.c_lex.proofs.Basics.{differ, some_same, first_same, second_same}
use Rattle.c_lex.proofs.Groups.{Group, group, In, Spaces, Letters, Digits, Quotes, Literals, Slashes, Hashes}
use Rattle.c_lex.proofs.Groups.{Marks, Others, InDigits, InQuotes, InLiterals, InSlashes, InHashes, constant}
use Rattle.c_lex.proofs.Groups.{bad_number, character, quote, string, double_quote}
use Rattle.c_lex.proofs.Groups.{line_comment, comment, opening, mark}
use Rattle.c_lex.proofs.Groups.{include, directive, other_line, Sorted, sorted, mark_is, mark_like}
use Rattle.c_lex.specs.declared.directive.DirectiveKind.{DirectiveKind}
use Rattle.c_lex.specs.declared.directive.Header.{Header}
use Rattle.c_lex.specs.Directives.{name_of, header_form}
use Rattle.c_lex.proofs.Directives.{bytes_nil, include_apart, directive_once}
use Rattle.c_lex.proofs.Comments.{slash_like}
use Rattle.c_lex.proofs.Lines.{include_is}
use Rattle.c_lex.proofs.Numbers.{constant_there}
use Rattle.c_lex.proofs.Characters.{character_there}
use Rattle.c_lex.proofs.Strings.{characters_there}

digits_same : {p : Bytes} {q q' : Reading} → InDigits p q → InDigits p q' → q ≡ q'
digits_same {p} (constant {v = v} {k = k} c) (constant {v = v'} {k = k'} c') =
    let s : Some (v, k) ≡ Some (v', k') = sym (constant_there p v k c) ∙ constant_there p v' k' c' in
    let a : v ≡ v' = first_same {A = Kind} (v, k) (v', k') s in
    let b : k ≡ k' = second_same {A = Kind} (v, k) (v', k') s in
    let V : ℕ → Reading = λ x. reads.Token (form.Number x k) in
    let K : Kind → Reading = λ x. reads.Token (form.Number v' x) in
    ap V a ∙ ap K b
digits_same (constant {v = v} {k = k} c) (bad_number n) = absurd (n v k c)
digits_same (bad_number n) (constant {v = v} {k = k} c) = absurd (n v k c)
digits_same (bad_number n) (bad_number n') = refl

no_end : (c : Bytes) (b : ℕ) → c ++ b ∷ [] ≡ [] → ⊥
no_end [] b e = cc
no_end (x ∷ c) b e = cc

quotes_same : {p : Bytes} {q q' : Reading} → InQuotes p q → InQuotes p q' → q ≡ q'
quotes_same (character {v = v} c e x) (character {v = v'} c' e' x') =
    let h : 39 ∷ c ++ 39 ∷ [] ≡ 39 ∷ c' ++ 39 ∷ [] = sym e ∙ e' in
    let t : c ++ 39 ∷ [] ≡ c' ++ 39 ∷ [] = cc in
    let s : Some (length c, v) ≡ Some (length c', v') = sym (character_there c v [] x)
    ∙ ap character_of t ∙ character_there c' v' [] x' in
    let a : v ≡ v' = second_same {A = ℕ} (length c, v) (length c', v') s in
    ap (λ (w : ℕ). reads.Token (form.Number (signed_char w) Int)) a
quotes_same (character c e x) (quote e') = let h : 39 ∷ c ++ 39 ∷ [] ≡ 39 ∷ [] = sym e ∙ e' in
    absurd (no_end c 39 (cc))
quotes_same (quote e') (character c e x) = let h : 39 ∷ c ++ 39 ∷ [] ≡ 39 ∷ [] = sym e ∙ e' in
    absurd (no_end c 39 (cc))
quotes_same (quote e) (quote e') = refl

literals_same : {p : Bytes} {q q' : Reading} → InLiterals p q → InLiterals p q' → q ≡ q'
literals_same (string {vs = vs} c e x) (string {vs = vs'} c' e' x') =
    let h : 34 ∷ c ++ 34 ∷ [] ≡ 34 ∷ c' ++ 34 ∷ [] = sym e ∙ e' in
    let t : c ++ 34 ∷ [] ≡ c' ++ 34 ∷ [] = cc in
    let s : Some (length c, vs) ≡ Some (length c', vs') = sym (characters_there c vs [] x)
    ∙ ap (values_from 0) t ∙ characters_there c' vs' [] x' in
    let a : vs ≡ vs' = second_same {A = Bytes} (length c, vs) (length c', vs') s in
    ap (λ (w : Bytes). reads.Token (form.Name (string_name w))) a
literals_same (string c e x) (double_quote e') = let h : 34 ∷ c ++ 34 ∷ [] ≡ 34 ∷ [] = sym e ∙ e' in
    absurd (no_end c 34 (cc))
literals_same (double_quote e') (string c e x) = let h : 34 ∷ c ++ 34 ∷ [] ≡ 34 ∷ [] = sym e ∙ e' in
    absurd (no_end c 34 (cc))
literals_same (double_quote e) (double_quote e') = refl

-- no mark begins a comment
no_mark : (p bs : Bytes) (b : ℕ) → (nat_eq b 47 || nat_eq b 42) ≡ true → p ≡ 47 ∷ b ∷ bs
    → mark_like p ≡ true → ⊥
no_mark p bs b s e m =
    let h : (nat_eq b 47 || nat_eq b 42) ≡ false =
    (slash_like (b ∷ bs) (subst (λ (x : Bytes). mark_like x ≡ true) e m)).1 in
    let f : true ≡ false = sym s ∙ h in
    cc

slashes_same : {p : Bytes} {q q' : Reading} → InSlashes p q → InSlashes p q' → q ≡ q'
slashes_same (line_comment e g) (line_comment e' g') = refl
slashes_same (line_comment e g) (comment body e' o) = refl
slashes_same (line_comment {body = body} e g) (opening e') = let h : 47 ∷ 47 ∷ body ≡ 47 ∷ 42 ∷ [] =
    sym e ∙ e' in absurd (differ 47 42 refl (cc))
slashes_same {p} (line_comment {body = body} e g) (mark {m = m} l) =
    absurd (no_mark p body 47 refl e (mark_is p m l))
slashes_same (comment body e' o) (line_comment e g) = refl
slashes_same (comment body e o) (comment body' e' o') = refl
slashes_same (comment body e o) (opening e') =
    let h : 47 ∷ 42 ∷ body ++ 42 ∷ 47 ∷ [] ≡ 47 ∷ 42 ∷ [] = sym e ∙ e' in absurd (no_end2 body (cc))
  where
    no_end2 : (c : Bytes) → c ++ 42 ∷ 47 ∷ [] ≡ [] → ⊥
    no_end2 [] e = cc
    no_end2 (x ∷ c) e = cc
slashes_same {p} (comment body e o) (mark {m = m} l) =
    absurd (no_mark p (body ++ 42 ∷ 47 ∷ []) 42 refl e (mark_is p m l))
slashes_same (opening e') (line_comment {body = body} e g) = let h : 47 ∷ 47 ∷ body ≡ 47 ∷ 42 ∷ [] =
    sym e ∙ e' in absurd (differ 47 42 refl (cc))
slashes_same (opening e') (comment body e o) =
    let h : 47 ∷ 42 ∷ body ++ 42 ∷ 47 ∷ [] ≡ 47 ∷ 42 ∷ [] = sym e ∙ e' in absurd (no_end2 body (cc))
  where
    no_end2 : (c : Bytes) → c ++ 42 ∷ 47 ∷ [] ≡ [] → ⊥
    no_end2 [] e = cc
    no_end2 (x ∷ c) e = cc
slashes_same (opening e) (opening e') = refl
slashes_same {p} (opening e) (mark {m = m} l) = absurd (no_mark p [] 42 refl e (mark_is p m l))
slashes_same {p} (mark {m = m} l) (line_comment {body = body} e g) =
    absurd (no_mark p body 47 refl e (mark_is p m l))
slashes_same {p} (mark {m = m} l) (comment body e o) =
    absurd (no_mark p (body ++ 42 ∷ 47 ∷ []) 42 refl e (mark_is p m l))
slashes_same {p} (mark {m = m} l) (opening e) = absurd (no_mark p [] 42 refl e (mark_is p m l))
slashes_same (mark {m = m} l) (mark {m = m'} l') = let h : m ≡ m' = cc in
    ap (λ (x : _). reads.Token (form.Mark x)) h

directive_no_include : (line line' : Bytes) (k : DirectiveKind) (h : Header) → line ≡ line'
    → piece.DirectiveLine line k [] → piece.IncludeLine line' h → ⊥
directive_no_include line line' k h e d i =
    include_apart line' [] k [] h
    (subst (λ (x : Bytes). piece.DirectiveLine x k []) (e ∙ sym (bytes_nil line')) d) i

line_same : (p line line' : Bytes) → p ≡ 35 ∷ line → p ≡ 35 ∷ line' → line ≡ line'
line_same p line line' e e' = cc

no_other : (line line' : Bytes) (h : Header) → line ≡ line' → piece.IncludeLine line h
    → ((h : Header) → piece.IncludeLine line' h → ⊥) → ⊥
no_other line line' h e i n = n h (subst (λ (x : Bytes). piece.IncludeLine x h) e i)

no_other_directive : (line line' : Bytes) (k : DirectiveKind) → line ≡ line' → piece.DirectiveLine line k []
    → ((k : DirectiveKind) (rest : Bytes) → piece.DirectiveLine line' k rest → ⊥) → ⊥
no_other_directive line line' k e d o = o k [] (subst (λ (x : Bytes). piece.DirectiveLine x k []) e d)

headers_same : (line line' : Bytes) (h h' : Header) → line ≡ line' → piece.IncludeLine line h
    → piece.IncludeLine line' h' → h ≡ h'
headers_same line line' h h' e i i' =
    some_same h h' (sym (include_is line h i) ∙ ap include_at e ∙ include_is line' h' i')

directives_same : (line line' : Bytes) (k k' : DirectiveKind) → line ≡ line' → piece.DirectiveLine line k []
    → piece.DirectiveLine line' k' [] → k ≡ k'
directives_same line line' k k' e d d' =
    directive_once line k k' [] [] d (subst (λ (x : Bytes). piece.DirectiveLine x k' []) (sym e) d')

hashes_same : {p : Bytes} {q q' : Reading} → InHashes p q → InHashes p q' → q ≡ q'
hashes_same {p} (include {line = l} {h = h} e i) (include {line = l'} {h = h'} e' i') =
    ap (λ (x : Header). reads.Token (header_form x)) (headers_same l l' h h' (line_same p l l' e e') i i')
hashes_same {p} (include {line = l} {h = h} e i) (other_line {line = l'} e' g n o) =
    absurd (no_other l l' h (line_same p l l' e e') i n)
hashes_same {p} (other_line {line = l'} e' g n o) (include {line = l} {h = h} e i) =
    absurd (no_other l l' h (line_same p l l' e e') i n)
hashes_same (other_line e g n o) (other_line e' g' n' o') = refl
hashes_same {p} (directive {line = l} {k = k} e d) (directive {line = l'} {k = k'} e' d') =
    ap (λ (x : DirectiveKind). reads.Token (form.Name (name_of x)))
    (directives_same l l' k k' (line_same p l l' e e') d d')
hashes_same {p} (directive {line = l} {k = k} e d) (include {line = l'} {h = h} e' i) =
    absurd (directive_no_include l l' k h (line_same p l l' e e') d i)
hashes_same {p} (include {line = l'} {h = h} e' i) (directive {line = l} {k = k} e d) =
    absurd (directive_no_include l l' k h (line_same p l l' e e') d i)
hashes_same {p} (directive {line = l} {k = k} e d) (other_line {line = l'} e' g n o) =
    absurd (no_other_directive l l' k (line_same p l l' e e') d o)
hashes_same {p} (other_line {line = l'} e' g n o) (directive {line = l} {k = k} e d) =
    absurd (no_other_directive l l' k (line_same p l l' e e') d o)

in_same : (starts : Bool) (p : Bytes) (q q' : Reading) (g : Group) → In g starts p q
    → In g starts p q' → q ≡ q'
in_same starts p q q' Spaces i j = i.2 ∙ sym j.2
in_same starts p q q' Letters i j = i.4 ∙ sym j.4
in_same starts p q q' Digits i j = digits_same i.4 j.4
in_same starts p q q' Quotes i j = quotes_same i j
in_same starts p q q' Literals i j = literals_same i j
in_same starts p q q' Slashes i j = slashes_same i j
in_same starts p q q' Hashes i j = hashes_same i.1 j.1
in_same starts p q q' Marks i j = let h : i.0 ≡ j.0 = cc (i.1, j.1) in
    i.2 ∙ ap (λ (x : _). reads.Token (form.Mark x)) h ∙ sym j.2
in_same starts p q q' Others i j = absurd i

pub same_reading : {starts : Bool} {p : Bytes} {q q' : Reading} → Piece starts p q
    → Piece starts p q' → q ≡ q'
same_reading {starts} {p} {q} {q'} x y =
    let s : Sorted starts p q = sorted x in
    let t : Sorted starts p q' = sorted y in
    let h : t.first ∷ t.more ≡ s.first ∷ s.more = sym t.is ∙ s.is in
    let f : t.first ≡ s.first = cc in
    in_same starts p q q' (group s.first) s.sort
    (subst (λ (b : ℕ). In (group b) starts p q') f t.sort)

pub record Same (piece rest : Bytes) (q : Reading) (piece' rest' : Bytes) (q' : Reading) : Type 0 where
  pub pieces : piece' ≡ piece
  pub rests : rest' ≡ rest
  pub readings : q ≡ q'

pub longest_same : (starts : Bool) (text p r p' r' : Bytes) (q q' : Reading)
    → Longest starts text p r q → Longest starts text p' r' q' → Same p r q p' r' q'
longest_same starts text p r p' r' q q' l l' =
    let a : length p' ≤ length p = l.none_longer p' r' q' l'.split l'.is in
    let b : length p ≤ length p' = l'.none_longer p r q l.split l.is in
    let n : length p' ≡ length p = omega arith in
    let pieces : p' ≡ p = sym (take-append_seam p' r')
    ∙ ap (take (length p')) (sym l'.split ∙ l.split) ∙ ap (λ (k : ℕ). take k (p ++ r)) n
    ∙ take-append_seam p r in
    let rests : r' ≡ r = sym (drop-append_seam p' r')
    ∙ ap (drop (length p')) (sym l'.split ∙ l.split) ∙ ap (λ (k : ℕ). drop k (p ++ r)) n
    ∙ drop-append_seam p r in
    record {
      pieces = pieces;
      rests = rests;
      readings =
          same_reading l.is (subst (λ (x : Bytes). Piece starts x q') pieces l'.is);
    }

-- nothing is longest in an empty text
pub none_empty : (starts : Bool) (p r : Bytes) (q : Reading) → Longest starts [] p r q → ⊥
none_empty starts p r q l =
    let s : Sorted starts p q = sorted l.is in
    let e : [] ≡ s.first ∷ (s.more ++ r) = l.split ∙ ap (λ (x : Bytes). x ++ r) s.is in
    cc
