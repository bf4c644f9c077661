-- String literals at the front of a text.
use Rattle.std.proofs.Common.{◌≡◌, ◌≤◌, ◌⊎◌, ℕ, zero, suc, ◌+◌, ◌-◌, Bool, true, false, cond, inl, inr}
use Rattle.std.proofs.Common.{[], ◌∷◌, ◌++◌, length, take, drop, Option, Some, None, refl, sym, ap, ◌∙◌, subst, arith}
use Rattle.std.proofs.Common.{nat_eq, get_or, append_assoc, length-append}
use Rattle.std.proofs.Math.Seq.{take-append_seam, drop-append_seam}
use Rattle.std.proofs.lemmas.List.{take_all}
use Rattle.c_tree.specs.declared.Form.TheVariants as form
use Rattle.c_lex.specs.declared.piece.Broken.TheVariants as kind
use Rattle.c_lex.specs.declared.piece.Reading.{Reading}
use Rattle.c_lex.specs.declared.piece.Reading.TheVariants as reads
use Rattle.c_lex.specs.Bytes.{Bytes}
use Rattle.c_lex.specs.Constants.{Character}
use Rattle.c_lex.specs.Strings.{goes_on, Characters, none, ordinary, escaped, string_name}
use Rattle.c_lex.specs.inside.Strings.{character_at, length_at, passed, joined, values_from, behind, literal_of}
use Rattle.c_lex.specs.Pieces as piece
use Rattle.c_lex.specs.Pieces.{Longest}
use Rattle.c_lex.specs.inside.Pieces.{Front}
use Rattle.c_lex.specs.inside.Finds.{IsFront, found}
use Rattle.c_lex.proofs.Basics.{true_or_false, eq_is, first_same, second_same}
use Rattle.c_lex.proofs.Directives.{bytes_nil}
use Rattle.c_lex.proofs.Fronts.{longest_in}
use Rattle.c_lex.proofs.Found.{given, measured}
use Rattle.c_lex.proofs.Groups as groups
use Rattle.c_lex.proofs.Groups.{Literals, InLiterals}
use Rattle.c_lex.proofs.Strings.{At, itself, behind_backslash, at_is, ends_at, characters_there}

-- what is known of a literal whose closing `"` is found, where so many bytes still belong to a character
record Left (k : ℕ) (bs : Bytes) (n : ℕ) (vs : Bytes) : Type 0 where
  skipped : Bytes
  text : Bytes
  rest : Bytes
  split : bs ≡ skipped ++ (text ++ 34 ∷ rest)
  skips : length skipped ≡ k
  size : n ≡ k + length text
  is : Characters text vs

empty_is : (bs : Bytes) → length bs ≡ 0 → bs ≡ []
empty_is [] e = refl
empty_is (b ∷ bs) e = absurd (let l : length (b ∷ bs) ≡ suc (length bs) = refl in omega arith)

-- the character before what is left
character_before : (b : ℕ) (bs : Bytes) (k v n : ℕ) (vs : Bytes) → At b bs k v → (l : Left k bs n vs)
    → Left 0 (b ∷ bs) (suc n) (v ∷ vs)
character_before b bs k v n vs (itself o m f) l =
    let none : l.skipped ≡ [] = empty_is l.skipped (l.skips ∙ m) in
    let size : n ≡ k + length l.text = l.size in
    let split : bs ≡ l.text ++ 34 ∷ l.rest =
    l.split ∙ ap (λ (x : Bytes). x ++ (l.text ++ 34 ∷ l.rest)) none in
    record {
      skipped = [];
      text = b ∷ l.text;
      rest = l.rest;
      split = ap (λ (x : Bytes). b ∷ x) split;
      skips = refl;
      size = omega arith;
      is = subst (λ (x : ℕ). Characters (b ∷ l.text) (x ∷ vs)) (sym f) (ordinary o l.is);
    }
character_before b bs k v n vs (behind_backslash e x) l =
    let c = l.skipped in
    let behind = l.text ++ 34 ∷ l.rest in
    let size : n ≡ k + length l.text = l.size in
    let skips : length c ≡ k = l.skips in
    let taken : take k bs ≡ c =
    ap (λ (m : ℕ). take m bs) (sym skips) ∙ ap (take (length c)) l.split ∙ take-append_seam c behind in
    let left : drop k bs ≡ behind =
    ap (λ (m : ℕ). drop m bs) (sym skips) ∙ ap (drop (length c)) l.split ∙ drop-append_seam c behind in
    let is : Character (92 ∷ c) v = subst (λ (w : Bytes). Character (92 ∷ w) v) taken x.is in
    let ends : goes_on c behind ≡ false =
    subst (λ (w : Bytes). goes_on w behind ≡ false) taken
    (subst (λ (w : Bytes). goes_on (take k bs) w ≡ false) left x.ends) in
    record {
      skipped = [];
      text = 92 ∷ c ++ l.text;
      rest = l.rest;
      split = ap (λ (y : ℕ). y ∷ bs) e
          ∙ ap (λ (w : Bytes). 92 ∷ w) (l.split ∙ sym (append_assoc c l.text (34 ∷ l.rest)));
      skips = refl;
      size = omega (arith, length-append c l.text);
      is = escaped is (ends_at c l.text l.rest ends) l.is;
    }

one_back : (k b : ℕ) (bs : Bytes) (n m : ℕ) (vs ws : Bytes)
    → ◌≡◌ {A = Option (ℕ × Bytes)} (Some (suc m, ws)) (Some (n, vs)) → Left k bs m ws
    → Left (suc k) (b ∷ bs) n vs
one_back k b bs n m vs ws e l =
    let n_is : suc m ≡ n = first_same {A = Bytes} (suc m, ws) (n, vs) e in
    let vs_is : ws ≡ vs = second_same {A = Bytes} (suc m, ws) (n, vs) e in
    let size : m ≡ k + length l.text = l.size in
    record {
      skipped = b ∷ l.skipped;
      text = l.text;
      rest = l.rest;
      split = ap (λ (x : Bytes). b ∷ x) l.split;
      skips = ap suc l.skips;
      size = omega arith;
      is = subst (λ (w : Bytes). Characters l.text w) vs_is l.is;
    }

-- what is found of the text behind a byte
abbrev Known : Bytes → Type 0
Known bs = (k n : ℕ) (vs : Bytes) → values_from k bs ≡ Some (n, vs) → Left k bs n vs

back_at : (k b : ℕ) (bs : Bytes) (n : ℕ) (vs : Bytes) (o : Option (ℕ × Bytes)) → Known bs
    → values_from k bs ≡ o → passed o ≡ Some (n, vs) → Left (suc k) (b ∷ bs) n vs
back_at k b bs n vs None known e f = absurd (cc)
back_at k b bs n vs (Some l) known e f = one_back k b bs n l.0 vs l.1 f (known k l.0 l.1 e)

joined_at : (b : ℕ) (bs : Bytes) (n : ℕ) (vs : Bytes) (x : ℕ × ℕ) (o : Option (ℕ × Bytes)) → Known bs
    → character_at b bs ≡ Some x → values_from x.0 bs ≡ o → joined (Some x) o ≡ Some (n, vs) → Left 0 (b ∷ bs) n vs
joined_at b bs n vs x None known at e f = absurd (cc)
joined_at b bs n vs x (Some l) known at e f =
    let n_is : suc l.0 ≡ n = first_same {A = Bytes} (suc l.0, x.1 ∷ l.1) (n, vs) f in
    let vs_is : x.1 ∷ l.1 ≡ vs = second_same {A = Bytes} (suc l.0, x.1 ∷ l.1) (n, vs) f in
    subst (λ (m : ℕ). Left 0 (b ∷ bs) m vs) n_is
    (subst (λ (w : Bytes). Left 0 (b ∷ bs) (suc l.0) w) vs_is
    (character_before b bs x.0 x.1 l.0 l.1 (at_is b bs x.0 x.1 at) (known x.0 l.0 l.1 e)))

character_then : (b : ℕ) (bs : Bytes) (n : ℕ) (vs : Bytes) (o : Option (ℕ × ℕ)) → Known bs → character_at b bs ≡ o
    → joined o (values_from (length_at o) bs) ≡ Some (n, vs) → Left 0 (b ∷ bs) n vs
character_then b bs n vs None known at f = absurd (cc)
character_then b bs n vs (Some x) known at f = joined_at b bs n vs x (values_from x.0 bs) known at refl f

quote_then : (b : ℕ) (bs : Bytes) (n : ℕ) (vs : Bytes) (z : Bool) → Known bs → nat_eq b 34 ≡ z
    → cond z (Some (0, [])) (joined (character_at b bs) (values_from (length_at (character_at b bs)) bs))
    ≡ Some (n, vs) → Left 0 (b ∷ bs) n vs
quote_then b bs n vs true known q f =
    let n_is : 0 ≡ n = first_same {A = Bytes} (0, []) (n, vs) f in
    let vs_is : [] ≡ vs = second_same {A = Bytes} (0, []) (n, vs) f in
    record {
      skipped = [];
      text = [];
      rest = bs;
      split = ap (λ (x : ℕ). x ∷ bs) (eq_is b 34 q);
      skips = refl;
      size = sym n_is;
      is = subst (λ (w : Bytes). Characters [] w) vs_is none;
    }
quote_then b bs n vs false known q f = character_then b bs n vs (character_at b bs) known refl f

left_is : (k : ℕ) (bs : Bytes) (n : ℕ) (vs : Bytes) → values_from k bs ≡ Some (n, vs) → Left k bs n vs
left_is zero [] n vs e = absurd (cc)
left_is (suc k) [] n vs e = absurd (cc)
left_is zero (b ∷ bs) n vs e = quote_then b bs n vs (nat_eq b 34) (λ k m ws f. left_is k bs m ws f) refl e
left_is (suc k) (b ∷ bs) n vs e =
    back_at k b bs n vs (values_from k bs) (λ k m ws f. left_is k bs m ws f) refl e

-- what is known of the literal that is found
pub record FoundLiteral (bs : Bytes) (n : ℕ) (name : Bytes) : Type 0 where
  pub text : Bytes
  pub values : Bytes
  pub rest : Bytes
  pub split : bs ≡ text ++ 34 ∷ rest
  pub size : n ≡ length text
  pub is : Characters text values
  pub named : name ≡ 34 ∷ values

-- what is found behind a `"` is a literal
pub literal_is : (bs : Bytes) (n : ℕ) (name : Bytes) → literal_of bs ≡ Some (n, name) → FoundLiteral bs n name
literal_is bs n name e = by (values_from 0 bs) refl e
  where
    by : (o : Option (ℕ × Bytes)) → values_from 0 bs ≡ o → behind 0 (34 ∷ []) o ≡ Some (n, name)
        → FoundLiteral bs n name
    by None v f = absurd (cc)
    by (Some l) v f =
        let n_is : 0 + l.0 ≡ n = first_same {A = Bytes} (0 + l.0, 34 ∷ l.1) (n, name) f in
        let named : 34 ∷ l.1 ≡ name = second_same {A = Bytes} (0 + l.0, 34 ∷ l.1) (n, name) f in
        let x : Left 0 bs l.0 l.1 = left_is 0 bs l.0 l.1 v in
        let size : l.0 ≡ 0 + length x.text = x.size in
        let nothing : x.skipped ≡ [] = empty_is x.skipped x.skips in
        record {
          text = x.text;
          values = l.1;
          rest = x.rest;
          split = x.split ∙ ap (λ (w : Bytes). w ++ (x.text ++ 34 ∷ x.rest)) nothing;
          size = omega arith;
          is = x.is;
          named = sym named;
        }

-- a literal that stands behind a `"` is found, with its length and name
pub literal_there : (c vs r : Bytes) → Characters c vs → literal_of (c ++ 34 ∷ r) ≡ Some (length c, 34 ∷ vs)
literal_there c vs r x =
    ap (behind 0 (34 ∷ [])) (characters_there c vs r x) ∙ ap (λ (m : ℕ). Some (m, 34 ∷ vs)) (omega arith)

-- two literals at one place are one
literal_most : (bs p r : Bytes) (q : Reading) → 34 ∷ bs ≡ p ++ r → InLiterals p q
    → (length p ≤ 1) ⊎ ((n : ℕ) × (w : Bytes) × (length p ≡ n + 2) × (literal_of bs ≡ Some (n, w)))
literal_most bs p r q f (groups.string {vs = vs} c e x) =
    let e2 : 34 ∷ bs ≡ 34 ∷ (c ++ 34 ∷ []) ++ r = f ∙ ap (λ (w : Bytes). w ++ r) e in
    let e3 : bs ≡ (c ++ 34 ∷ []) ++ r = cc in
    let e4 : bs ≡ c ++ 34 ∷ r = e3 ∙ append_assoc c (34 ∷ []) r in
    let l : length p ≡ suc (length (c ++ 34 ∷ [])) = ap length e in
    inr (
      length c,
      34 ∷ vs,
      omega (arith, length-append c (34 ∷ [])),
      ap literal_of e4 ∙ literal_there c vs r x,
    )
literal_most bs p r q f (groups.double_quote e) = let l : length p ≡ 1 = ap length e in inl (omega arith)

-- a literal that is found is the longest piece
literal_longest : (starts : Bool) (bs : Bytes) (n : ℕ) (w : Bytes) → literal_of bs ≡ Some (n, w)
    → (c : FoundLiteral bs n w)
    → Longest starts (34 ∷ bs) (34 ∷ c.text ++ 34 ∷ []) c.rest (reads.Token (form.Name (string_name c.values)))
literal_longest starts bs n w e c =
    longest_in starts 34 bs (34 ∷ c.text ++ 34 ∷ []) c.rest _ Literals refl
    (ap (λ (x : Bytes). 34 ∷ x) (c.split ∙ sym (append_assoc c.text (34 ∷ []) c.rest)))
    (piece.string c.text refl c.is)
    (λ p r q f i.
    let s : n ≡ length c.text = c.size in
    let l = length-append c.text (34 ∷ []) in
    elim (literal_most bs p r q f i) [
      | inl h ↦ omega arith
      | inr x ↦ (let same : x.0 ≡ n = first_same {A = Bytes} (x.0, x.1) (n, w) (sym x.3 ∙ e) in
          let lx : length p ≡ x.0 + 2 = x.2 in omega arith)
    ])

-- a literal that is found and its `"` are within the text
pub literal_size : (bs : Bytes) (n : ℕ) (w : Bytes) → literal_of bs ≡ Some (n, w) → n + 1 ≤ length bs
literal_size bs n w e =
    let c : FoundLiteral bs n w = literal_is bs n w e in
    let s : n ≡ length c.text = c.size in
    let l : length bs ≡ length c.text + length (34 ∷ c.rest) = ap length c.split
    ∙ length-append c.text (34 ∷ c.rest) in
    let m : length (34 ∷ c.rest) ≡ suc (length c.rest) = refl in
    omega arith

-- a literal is found with both its `"`
pub literal_found : (starts : Bool) (text bs : Bytes) (n : ℕ) (w : Bytes) → text ≡ 34 ∷ bs
    → literal_of bs ≡ Some (n, w) → IsFront starts text (found (n + 2) (reads.Token (form.Name w)))
literal_found starts text bs n w e h =
    let c : FoundLiteral bs n w = literal_is bs n w h in
    let p = 34 ∷ c.text ++ 34 ∷ [] in
    let s : n ≡ length c.text = c.size in
    let l : length p ≡ suc (length c.text + 1) = ap suc (length-append c.text (34 ∷ [])) in
    let z : n + 1 ≤ length bs = literal_size bs n w h in
    given starts text (34 ∷ bs) (n + 2) (length p) _ _ e (omega arith)
    (ap (λ (x : Bytes). reads.Token (form.Name x)) c.named)
    (measured starts (34 ∷ bs) p c.rest _ (literal_longest starts bs n w h c)) (omega arith)
    (omega arith)

-- a `"` without a literal behind it is the longest piece there
double_quote_front : (starts : Bool) (bs : Bytes) → literal_of bs ≡ None
    → Front starts (34 ∷ bs) 1 (reads.Broken kind.BadLiteral)
double_quote_front starts bs e =
    longest_in starts 34 bs (34 ∷ []) bs _ Literals refl refl (piece.double_quote refl)
    (λ p r q f i. elim (literal_most bs p r q f i)
    [ inl h ↦ h | inr x ↦ absurd (let h : Some (x.0, x.1) ≡ None = sym x.3 ∙ e in cc) ])

-- and is found as a bad literal
pub double_quote_found : (starts : Bool) (text bs : Bytes) → text ≡ 34 ∷ bs → literal_of bs ≡ None
    → IsFront starts text (found 1 (reads.Broken kind.BadLiteral))
double_quote_found starts text bs e h =
    given starts text (34 ∷ bs) 1 1 _ _ e refl refl (double_quote_front starts bs h) (omega arith)
    (omega arith)

-- ---- the loop that reads a literal

abbrev skipped : ℕ → Option (ℕ × Bytes) → Option (ℕ × Bytes)
skipped k None = None
skipped k (Some l) = Some (k + l.0, l.1)

none_skipped : (o : Option (ℕ × Bytes)) → o ≡ skipped 0 o
none_skipped None = refl
none_skipped (Some l) = ap (λ (m : ℕ). Some (m, l.1)) (omega arith)

one_skipped : (k : ℕ) (o : Option (ℕ × Bytes)) → passed (skipped k o) ≡ skipped (suc k) o
one_skipped k None = refl
one_skipped k (Some l) = ap (λ (m : ℕ). Some (m, l.1)) (omega arith)

skip_is : (k : ℕ) (bs : Bytes) → values_from k bs ≡ skipped k (values_from 0 (drop k bs))
skip_is zero bs = none_skipped (values_from 0 bs)
skip_is (suc k) [] = refl
skip_is (suc k) (b ∷ bs) = ap passed (skip_is k bs) ∙ one_skipped k (values_from 0 (drop k bs))

one_read : (n : ℕ) (w : Bytes) (k v : ℕ) (o : Option (ℕ × Bytes))
    → behind n w (joined (Some (k, v)) (skipped k o)) ≡ behind (n + (k + 1)) (w ++ v ∷ []) o
one_read n w k v None = refl
one_read n w k v (Some l) =
    ap (λ (m : ℕ). Some (m, w ++ v ∷ l.1)) (omega arith)
    ∙ ap (λ (x : Bytes). Some (n + (k + 1) + l.0, x)) (sym (append_assoc w (v ∷ []) l.1))

-- a character is read: its value is added to the name, and the rest is still to be read
pub character_read : (n : ℕ) (w : Bytes) (b : ℕ) (bs : Bytes) (k v : ℕ) → nat_eq b 34 ≡ false
    → character_at b bs ≡ Some (k, v)
    → behind n w (values_from 0 (b ∷ bs)) ≡ behind (n + (k + 1)) (w ++ v ∷ []) (values_from 0 (drop k bs))
character_read n w b bs k v q e =
    let F : Bool → Option (ℕ × Bytes) = λ z. cond z (Some (0, []))
    (joined (character_at b bs) (values_from (length_at (character_at b bs)) bs)) in
    let G : Option (ℕ × ℕ) → Option (ℕ × Bytes) = λ o. joined o (values_from (length_at o) bs) in
    ap (behind n w) (ap F q ∙ ap G e ∙ ap (joined (Some (k, v))) (skip_is k bs))
    ∙ one_read n w k v (values_from 0 (drop k bs))

-- no character stands there, and so no literal
pub none_read : (n : ℕ) (w : Bytes) (b : ℕ) (bs : Bytes) → nat_eq b 34 ≡ false → character_at b bs ≡ None
    → behind n w (values_from 0 (b ∷ bs)) ≡ None
none_read n w b bs q e =
    let F : Bool → Option (ℕ × Bytes) = λ z. cond z (Some (0, []))
    (joined (character_at b bs) (values_from (length_at (character_at b bs)) bs)) in
    let G : Option (ℕ × ℕ) → Option (ℕ × Bytes) = λ o. joined o (values_from (length_at o) bs) in
    ap (behind n w) (ap F q ∙ ap G e)

-- the literal ends
pub end_read : (n : ℕ) (w : Bytes) (b : ℕ) (bs : Bytes) → nat_eq b 34 ≡ true
    → behind n w (values_from 0 (b ∷ bs)) ≡ Some (n, w)
end_read n w b bs q =
    let F : Bool → Option (ℕ × Bytes) = λ z. cond z (Some (0, []))
    (joined (character_at b bs) (values_from (length_at (character_at b bs)) bs)) in
    ap (behind n w) (ap F q) ∙ ap (λ (m : ℕ). Some (m, w ++ [])) (omega arith)
    ∙ ap (λ (x : Bytes). Some (n, x)) (bytes_nil w)

apart : (a b : ℕ) → (a ≡ b → ⊥) → nat_eq a b ≡ false
apart a b f = elim (true_or_false (nat_eq a b)) [ inl y ↦ absurd (f (eq_is a b y)) | inr n ↦ n ]

-- what stands behind the first byte
behind_first : (b : ℕ) (bs : Bytes) → take (length (b ∷ bs) - 1) bs ≡ bs
behind_first b bs = let l : length (b ∷ bs) ≡ suc (length bs) = refl in
    take_all (length (b ∷ bs) - 1) bs (omega arith)

-- a turn of the loop that reads a character
pub read_on : (n : ℕ) (w rest : Bytes) (k v : ℕ) → 1 ≤ length rest → (get_or rest 0 0 ≡ 34 → ⊥)
    → character_at (get_or rest 0 0) (take (length rest - 1) (drop 1 rest)) ≡ Some (k, v)
    → behind n w (values_from 0 rest)
    ≡ behind (n + (k + 1)) (w ++ v ∷ []) (values_from 0 (drop k (take (length rest - 1) (drop 1 rest))))
read_on n w [] k v l q e = absurd (omega arith)
read_on n w (b ∷ bs) k v l q e =
    let same : take (length (b ∷ bs) - 1) bs ≡ bs = behind_first b bs in
    let at : character_at b bs ≡ Some (k, v) = ap (character_at b) (sym same) ∙ e in
    let B : Bytes → Option (ℕ × Bytes) = λ x. behind (n + (k + 1)) (w ++ v ∷ []) (values_from 0 (drop k x)) in
    character_read n w b bs k v (apart b 34 q) at ∙ ap B (sym same)
