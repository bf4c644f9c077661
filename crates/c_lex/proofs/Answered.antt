-- Every text has tokens or a fault.
use Rattle.std.proofs.Common.{◌≡◌, ◌≤◌, ◌<◌, ℕ, zero, suc, ◌+◌, Bool, true, false, ◌&&◌, ◌||◌, inl}
use Rattle.std.proofs.Common.{inr, [], ◌∷◌}
use Rattle.std.proofs.Common.{◌++◌, length, take, drop, Option, Some, None, refl, sym, ap, ◌∙◌}
use Rattle.std.proofs.Common.{subst, arith, nat_eq, nat_lt}
use Rattle.std.proofs.Common.{length-append}
use Rattle.std.proofs.lemmas.Bool.Decides.{nat_tests}
use Rattle.c_tree.specs.declared.Form.{Form}
use Rattle.c_tree.specs.declared.Form.TheVariants as form
use Rattle.c_tree.specs.declared.Kind.{Kind}
use Rattle.c_tree.specs.declared.Mark.{Mark}
use Rattle.c_lex.specs.declared.piece.Reading.{Reading}
use Rattle.c_lex.specs.declared.piece.Reading.TheVariants as reads
use Rattle.c_lex.specs.Bytes.{Bytes, by_class, is_space, is_letter, is_word, is_digit, in_number}
use Rattle.c_lex.specs.Bytes.{not_feed, feed_and_space, ends_line}
use Rattle.c_lex.specs.declared.directive.DirectiveKind.{DirectiveKind}
use Rattle.c_lex.specs.declared.directive.Header.{Header}
use Rattle.c_lex.specs.Directives.{line_end}
use Rattle.c_lex.specs.inside.Runs.{run_len}
use Rattle.c_lex.specs.Tables.{lookup, keywords}
use Rattle.c_lex.specs.inside.Characters.{character_of}
use Rattle.c_lex.specs.inside.Scans.{constant_of, close_from, mark_of, include_at, directive_at}
use Rattle.c_lex.specs.inside.Strings.{literal_of}
use Rattle.c_lex.specs.Pieces.{Longest, word_form, begins_with}
use Rattle.c_lex.specs.inside.Finds.{Found, found, IsFront, Finds, Marks, begins_comment}
use Rattle.c_lex.specs.Lexes.{Tokens, lexeme, Line, fresh, Cut, here, Lexed}
use Rattle.c_lex.specs.Faults.{Fault, BadByte, TooManyTokens, fault_of, Stands, no_piece, is_broken, one_more}
use Rattle.c_lex.specs.Faults.{one_end}
use Rattle.c_lex.specs.inside.Turns.{GrowsBy, GrowsEnd, Grows, past}
use Rattle.c_lex.specs.inside.Answers.{Answered}
use Rattle.c_lex.proofs.Basics.{eq_is}
use Rattle.c_lex.proofs.Found.{space_found, word_found, number_found, bad_number_found}
use Rattle.c_lex.proofs.Found.{character_found}
use Rattle.c_lex.proofs.Literals.{literal_found, double_quote_found}
use Rattle.c_lex.proofs.Found.{quote_found, comment_found, opening_found, line_found, include_found}
use Rattle.c_lex.proofs.Found.{directive_found, directed_found, marks_find, hash_nothing}
use Rattle.c_lex.proofs.Found.{splice_nothing, piece_some}
use Rattle.c_lex.proofs.WhiteSpace.{space_there, splice_there}
use Rattle.c_lex.proofs.ReadSoFar.{grown, whole, bytes_nil}

-- ---- the piece at a place

-- a piece at the front of the text, or none
abbrev Finding : Bool → Bytes → Type 0
Finding starts text = (r : Option Found) × Finds starts text r

module _ (starts : Bool) (b : ℕ) (bs : Bytes) where
  abbrev Text : Bytes
  Text = b ∷ bs

  some : (n : ℕ) (q : Reading) → IsFront starts Text (found n q) → Finding starts Text
  some n q x = (Some (found n q), x)

  number_at : (o : Option (ℕ × Kind)) → is_digit b ≡ true
      → constant_of (take (run_len in_number b bs + 1) Text) ≡ o → Finding starts Text
  number_at None d e = some _ _ (bad_number_found starts Text b bs _ refl d refl e)
  number_at (Some p) d e = some _ _ (number_found starts Text b bs _ p.0 p.1 refl d refl e)

  quoted_at : (o : Option (ℕ × ℕ)) → nat_eq b 39 ≡ true → character_of bs ≡ o → Finding starts Text
  quoted_at None q e = some _ _ (quote_found starts Text bs (ap (λ x. x ∷ bs) (eq_is b 39 q)) e)
  quoted_at (Some p) q e =
      some _ _ (character_found starts Text bs p.0 p.1 _ (ap (λ x. x ∷ bs) (eq_is b 39 q)) e refl)

  literal_at : (o : Option (ℕ × Bytes)) → nat_eq b 34 ≡ true → literal_of bs ≡ o → Finding starts Text
  literal_at None q e = some _ _ (double_quote_found starts Text bs (ap (λ x. x ∷ bs) (eq_is b 34 q)) e)
  literal_at (Some p) q e =
      some _ _ (literal_found starts Text bs p.0 p.1 (ap (λ x. x ∷ bs) (eq_is b 34 q)) e)

  mark_at : (o : Option (ℕ × Mark)) → mark_of Text ≡ o → (r : Option Found) × Marks Text r
  mark_at None e = (None, e)
  mark_at (Some p) e = (Some (found p.0 (reads.Token (form.Mark p.1))), (p.1, refl, e))

  module _ (s : is_space b ≡ false) (l : is_letter b ≡ false) (d : is_digit b ≡ false) (q : nat_eq b 39 ≡ false)
      (t : nat_eq b 34 ≡ false) (h : nat_eq b 35 ≡ false) (k : nat_eq b 92 ≡ false) where
    -- no comment begins here
    unmarked : begins_comment Text ≡ false → Finding starts Text
    unmarked c =
        let m = mark_at (mark_of Text) refl in (m.0, marks_find starts Text b bs m.0 refl s l d q t h k c m.1)

    no_slash : nat_eq b 47 ≡ false → Finding starts Text
    no_slash e =
        unmarked (ap (λ (v : Bool). (v && begins_with 47 bs) || (v && begins_with 42 bs)) e)

-- a comment or a mark that begins with `/`
module _ (starts : Bool) where
  block_at : (cs : Bytes) (o : Option ℕ) → close_from 0 cs ≡ o → Finding starts (47 ∷ 42 ∷ cs)
  block_at cs None e = (Some _, opening_found starts (47 ∷ 42 ∷ cs) cs refl e)
  block_at cs (Some n) e = (Some _, comment_found starts (47 ∷ 42 ∷ cs) cs n refl e)

  second_at : (c : ℕ) (cs : Bytes) (v w : Bool) → nat_eq c 47 ≡ v → nat_eq c 42 ≡ w
      → Finding starts (47 ∷ c ∷ cs)
  second_at c cs true w e f =
      (Some _, line_found starts (47 ∷ c ∷ cs) cs _ (ap (λ (x : ℕ). 47 ∷ x ∷ cs) (eq_is c 47 e)) refl)
  second_at c cs false true e f =
      subst (λ (x : ℕ). Finding starts (47 ∷ x ∷ cs)) (sym (eq_is c 42 f)) (block_at cs (close_from 0 cs) refl)
  second_at c cs false false e f =
      unmarked starts 47 (c ∷ cs) refl refl refl refl refl refl refl
      (ap (λ (v : Bool). v || nat_eq c 42) e ∙ f)

  slash_at : (bs : Bytes) → Finding starts (47 ∷ bs)
  slash_at [] = unmarked starts 47 [] refl refl refl refl refl refl refl refl
  slash_at (c ∷ cs) = second_at c cs (nat_eq c 47) (nat_eq c 42) refl refl

-- a line that begins with `#`
other_at : (bs : Bytes) (o : Option (ℕ × DirectiveKind))
    → include_at (take (run_len (by_class not_feed) 0 bs) bs) ≡ None
    → directive_at (take (run_len (by_class not_feed) 0 bs) bs) ≡ o → Finding true (35 ∷ bs)
other_at bs None e d = (Some _, directive_found true (35 ∷ bs) bs _ refl refl refl e d)
other_at bs (Some x) e d = (Some _, directed_found true (35 ∷ bs) bs x.0 x.1 refl refl d)

line_at : (bs : Bytes) (t : Option Header) → include_at (take (run_len (by_class not_feed) 0 bs) bs) ≡ t
    → Finding true (35 ∷ bs)
line_at bs (Some h) e = (Some _, include_found true (35 ∷ bs) bs _ h refl refl refl e)
line_at bs None e = other_at bs (directive_at (take (run_len (by_class not_feed) 0 bs) bs)) e refl

hash_at : (starts : Bool) (bs : Bytes) → Finding starts (35 ∷ bs)
hash_at true bs = line_at bs (include_at (take (run_len (by_class not_feed) 0 bs) bs)) refl
hash_at false bs = (None, hash_nothing false (35 ∷ bs) bs refl refl)

-- a backslash
splice_at : (starts : Bool) (bs : Bytes) (t : Bool) → feed_and_space bs ≡ t → Finding starts (92 ∷ bs)
splice_at starts bs true e = (Some _, space_found starts (92 ∷ bs) _ (splice_there bs ∙ e) refl)
splice_at starts bs false e = (None, splice_nothing starts (92 ∷ bs) bs refl e)

module _ (starts : Bool) (b : ℕ) (bs : Bytes) where
  by_slash : (t : Bool) → nat_eq b 47 ≡ t → is_space b ≡ false → is_letter b ≡ false → is_digit b ≡ false
      → nat_eq b 39 ≡ false → nat_eq b 34 ≡ false → nat_eq b 35 ≡ false → nat_eq b 92 ≡ false
      → Finding starts (b ∷ bs)
  by_slash true e s l d q t h k = subst (λ (x : ℕ). Finding starts (x ∷ bs)) (sym (eq_is b 47 e)) (slash_at starts bs)
  by_slash false e s l d q t h k = no_slash starts b bs s l d q t h k e

  by_backslash : (t : Bool) → nat_eq b 92 ≡ t → is_space b ≡ false → is_letter b ≡ false → is_digit b ≡ false
      → nat_eq b 39 ≡ false → nat_eq b 34 ≡ false → nat_eq b 35 ≡ false → Finding starts (b ∷ bs)
  by_backslash true e s l d q t h =
      subst (λ (x : ℕ). Finding starts (x ∷ bs)) (sym (eq_is b 92 e))
      (splice_at starts bs (feed_and_space bs) refl)
  by_backslash false e s l d q t h = by_slash (nat_eq b 47) refl s l d q t h e

  by_hash : (t : Bool) → nat_eq b 35 ≡ t → is_space b ≡ false → is_letter b ≡ false → is_digit b ≡ false
      → nat_eq b 39 ≡ false → nat_eq b 34 ≡ false → Finding starts (b ∷ bs)
  by_hash true e s l d q t = subst (λ (x : ℕ). Finding starts (x ∷ bs)) (sym (eq_is b 35 e)) (hash_at starts bs)
  by_hash false e s l d q t = by_backslash (nat_eq b 92) refl s l d q t e

  by_double_quote : (t : Bool) → nat_eq b 34 ≡ t → is_space b ≡ false → is_letter b ≡ false → is_digit b ≡ false
      → nat_eq b 39 ≡ false → Finding starts (b ∷ bs)
  by_double_quote true e s l d q = literal_at starts b bs (literal_of bs) e refl
  by_double_quote false e s l d q = by_hash (nat_eq b 35) refl s l d q e

  by_quote : (t : Bool) → nat_eq b 39 ≡ t → is_space b ≡ false → is_letter b ≡ false → is_digit b ≡ false
      → Finding starts (b ∷ bs)
  by_quote true e s l d = quoted_at starts b bs (character_of bs) e refl
  by_quote false e s l d = by_double_quote (nat_eq b 34) refl s l d e

  by_digit : (t : Bool) → is_digit b ≡ t → is_space b ≡ false → is_letter b ≡ false → Finding starts (b ∷ bs)
  by_digit true e s l = number_at starts b bs (constant_of (take (run_len in_number b bs + 1) (b ∷ bs))) e refl
  by_digit false e s l = by_quote (nat_eq b 39) refl s l e

  by_letter : (t : Bool) → is_letter b ≡ t → is_space b ≡ false → Finding starts (b ∷ bs)
  by_letter true e s = (
    Some _,
    word_found starts (b ∷ bs) b bs (run_len (by_class is_word) b bs + 1)
        (word_form (take (run_len (by_class is_word) b bs + 1) (b ∷ bs))
        (lookup (take (run_len (by_class is_word) b bs + 1) (b ∷ bs)) keywords)) refl e refl refl,
  )
  by_letter false e s = by_digit (is_digit b) refl s e

  by_space : (t : Bool) → is_space b ≡ t → Finding starts (b ∷ bs)
  by_space true e = (Some _, space_found starts (b ∷ bs) _ (space_there b bs e) refl)
  by_space false e = by_letter (is_letter b) refl e

-- a piece stands at the front of a text that has a byte, or none does
find_piece : (starts : Bool) (b : ℕ) (bs : Bytes) → Finding starts (b ∷ bs)
find_piece starts b bs = by_space starts b bs (is_space b) refl

-- ---- from piece to piece

below : (n m : ℕ) → nat_lt n m ≡ true → n < m
below n m e = grind (arith, nat_tests)

-- a count that is not below the most, and no more, is the most
not_below : (n m : ℕ) → nat_lt n m ≡ false → m ≤ n
not_below n m e = grind (arith, nat_tests)

full : (n m : ℕ) → nat_lt n m ≡ false → n ≤ m → n ≡ m
full n m e h = let k : m ≤ n = not_below n m e in omega arith

-- the text is cut so far, in which there are so many tokens
record So (text : Bytes) (line : Line) (before : Bytes) (ts : Tokens) (rest : Bytes) : Type 0 where
  cut : Cut fresh [] text ts line before rest
  few : length ts ≤ 8192

-- a cut to the end is the whole
at_end : (text : Bytes) (line : Line) (before : Bytes) (ts : Tokens) → So text line before ts []
    → Lexed 8192 text ts
at_end text line before ts s =
    let w : text ≡ before = whole [] text before [] ts s.cut ∙ bytes_nil before in
    ((line, subst (λ (x : Bytes). Cut fresh [] text ts line x []) (sym w) s.cut), s.few)

-- the rest of the way, from a shorter rest on
abbrev Onward : ℕ → Bytes → Type 0
Onward n text =
    (line : Line) (before rest : Bytes) (ts : Tokens) → length rest ≤ n → So text line before ts rest
    → Answered 8192 text

-- a piece leaves a shorter rest
left_over : (starts : Bool) (old p r : Bytes) (q : Reading) (n : ℕ) → Longest starts old p r q
    → length old ≤ suc n → length r ≤ n
left_over starts old p r q n l h =
    let some : 0 < length p = piece_some starts p q l.is in
    let total : length old ≡ length p + length r = ap length l.split ∙ length-append p r in
    omega arith

module _ (n : ℕ) (text : Bytes) (line : Line) (before rest : Bytes) (ts : Tokens) (short : length rest ≤ suc n)
    (so : So text line before ts rest) (onward : Onward n text) where
  -- on behind a piece that adds these tokens
  passed : (p r : Bytes) (q : Reading) (us : Tokens) → Longest line.starts rest p r q
      → Grows 8192 (length before) (ends_line line.directs p) q ts us → Answered 8192 text
  passed p r q us l g =
      let c = grown text before p r rest line (length before) q ts us so.cut refl l g so.few in
      onward (past line p q) (before ++ p) r us (left_over line.starts rest p r q n l short)
      (record { cut = c.0; few = c.1 })

  -- a fault stands here
  stopped : (f : Fault) → Stands 8192 (length ts) line rest f → Answered 8192 text
  stopped f x =
      inr (
        f,
        length before,
        record {
          tokens = ts;
          line = line;
          before = before;
          after = rest;
          cut = so.cut;
          few = so.few;
          stands = x;
          offset_is = refl;
        },
      )

  -- one token more, or one too many
  one_at : (f : Form) (t : Bool) → nat_lt (length ts) 8192 ≡ t
      → (GrowsBy 8192 (length before) f ts (ts ++ lexeme before f ∷ []) → Answered 8192 text)
      → (length ts ≡ 8192 → Stands 8192 (length ts) line rest TooManyTokens) → Answered 8192 text
  one_at f true e on stop = on (refl, below (length ts) 8192 e)
  one_at f false e on stop = stopped TooManyTokens (stop (full (length ts) 8192 e so.few))

  gap_at : (p r : Bytes) (v : Bool) → ends_line line.directs p ≡ v → Longest line.starts rest p r reads.Gap
      → Answered 8192 text
  gap_at p r true e l =
      one_at (form.Name line_end) (nat_lt (length ts) 8192) refl
      (λ g. passed p r reads.Gap (ts ++ lexeme before (form.Name line_end) ∷ []) l
      (subst (λ (v : Bool). GrowsEnd 8192 (length before) v ts (ts ++ lexeme before (form.Name line_end) ∷ []))
      (sym e) g))
      (λ c. one_end c l e)
  gap_at p r false e l =
      passed p r reads.Gap ts l (subst (λ (v : Bool). GrowsEnd 8192 (length before) v ts ts) (sym e) refl)

  reading_at : (p r : Bytes) (q : Reading) → Longest line.starts rest p r q → Answered 8192 text
  reading_at p r reads.Gap l = gap_at p r (ends_line line.directs p) refl l
  reading_at p r (reads.Token f) l =
      one_at f (nat_lt (length ts) 8192) refl (λ g. passed p r (reads.Token f) (ts ++ lexeme before f ∷ []) l g)
      (λ c. one_more c l)
  reading_at p r (reads.Broken b) l = stopped (fault_of b) (is_broken l)

  piece_at : (rest ≡ [] → ⊥) → Finding line.starts rest → Answered 8192 text
  piece_at ne (None, x) = stopped BadByte (no_piece ne x)
  piece_at ne (Some f, x) = reading_at (take f.length rest) (drop f.length rest) f.reading x.front

-- each place leads on
walk : (n : ℕ) (text : Bytes) → Onward n text
walk n text line before [] ts h so = inl (ts, at_end text line before ts so)
walk zero text line before (b ∷ bs) ts h so = absurd
    (let l : length (b ∷ bs) ≡ suc (length bs) = refl in omega arith)
walk (suc n) text line before (b ∷ bs) ts h so =
    piece_at n text line before (b ∷ bs) ts h so (walk n text) (λ e. cc) (find_piece line.starts b bs)

-- every text has tokens, few enough, or a fault
pub answered : (text : Bytes) → Answered 8192 text
answered text = walk (length text) text fresh [] text [] (omega arith) (record { cut = here; few = omega arith })
