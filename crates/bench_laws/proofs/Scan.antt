-- A line of a text, piece by piece: a scan that can be computed, and that it cuts the text as the definition of the
-- lexer does.
use Rattle.std.proofs.Common.{◌≡◌, ◌≤◌, ℕ, zero, suc, ◌+◌, Bool, true, false, cond, if◌then◌else◌, ◌||◌, ◌&&◌}
use Rattle.std.proofs.Common.{not, List}
use Rattle.std.proofs.Common.{[], ◌∷◌, ◌++◌, length, take, drop, Option, Some, None, refl, sym, ◌∙◌}
use Rattle.std.proofs.Common.{subst, arith}
use Rattle.std.proofs.Common.{nat_eq}
use Rattle.c_tree.specs.declared.Form.{Form}
use Rattle.c_tree.specs.declared.Form.TheVariants as form
use Rattle.c_tree.specs.declared.Kind.{Kind}
use Rattle.c_tree.specs.declared.Mark.{Mark}
use Rattle.c_lex.specs.declared.piece.Reading.TheVariants as reads
use Rattle.c_lex.specs.Bytes.{Bytes, by_class, is_space, is_letter, is_word, is_digit, in_number, is_feed}
use Rattle.c_lex.specs.Bytes.{in_white}
use Rattle.c_lex.specs.inside.Spaces.{spaces}
use Rattle.c_lex.specs.inside.Runs.{run_len}
use Rattle.c_lex.specs.Tables.{lookup, keywords, marks}
use Rattle.c_lex.specs.inside.Firsts.{none_longer}
use Rattle.c_lex.specs.inside.Scans.{constant_of, mark_of, goes_on}
use Rattle.c_lex.specs.Pieces.{Longest, word_form, begins_with}
use Rattle.c_lex.specs.inside.Pieces.{Front}
use Rattle.c_tree.specs.declared.Key.{Key}
use Rattle.c_lex.specs.Lexes.{Cut, here, space, next, past_gap, past_token}
use Rattle.c_lex.specs.Lexes as state
use Rattle.c_lex.specs.Directives.{is_directive}
use Rattle.c_lex.proofs.Directives.{letter_plain}
use Rattle.c_lex.proofs.Fronts.{space_front, word_front, number_front}
use Rattle.c_lex.proofs.Marks.{mark_front, only_longest, mark_ends}
use Rattle.c_lex.proofs.Numbers.{constant_is}
use Rattle.bench_laws.proofs.Forms.{line_of}

-- THE SCAN

-- what stands at the front, with its length, if it is one of the few pieces that the scan knows
pub data Step : Type 0 where
  unknown : Step
  gap : ℕ → Step
  piece : ℕ → Form → Step

-- a keyword or a name
abbrev word_step : ℕ → Bytes → Step
word_step b bs =
    let n = run_len (by_class is_word) b bs in
    piece (suc n) (word_form (b ∷ take n bs) (lookup (b ∷ take n bs) keywords))

abbrev by_constant : ℕ → Option (ℕ × Kind) → Step
by_constant n None = unknown
by_constant n (Some c) = piece (suc n) (form.Number c.0 c.1)

-- a number
abbrev number_step : ℕ → Bytes → Step
number_step b bs = let n = run_len in_number b bs in by_constant n (constant_of (b ∷ take n bs))

-- does no mark of more bytes stand at the front?
abbrev ends : ℕ → Bytes → Bool
ends b [] = false
ends b (c ∷ cs) = none_longer b marks || not (goes_on c)

abbrev by_mark : Option Mark → Bool → Step
by_mark (Some m) true = piece 1 (form.Mark m)
by_mark _ _ = unknown

-- a mark of one byte
abbrev mark_step : ℕ → Bytes → Step
mark_step b bs = by_mark (lookup (b ∷ []) marks) (ends b bs)

-- the piece at the front
abbrev pub step : Bytes → Step
step [] = unknown
step (b ∷ bs) =
    if is_letter b then word_step b bs
    else if is_digit b then number_step b bs
    else if is_space b then gap (suc (length (spaces bs)))
    else if nat_eq b 47 then unknown
    else mark_step b bs

-- have the bytes no line feed?
abbrev pub is_quiet : Bytes → Bool
is_quiet [] = true
is_quiet (b ∷ bs) = if is_feed b then false else is_quiet bs

-- a piece that stands on one line
abbrev on_line : Bytes → Step → Step
on_line text unknown = unknown
on_line text (gap n) = if is_quiet (take n text) then gap n else unknown
on_line text (piece n f) = if is_quiet (take n text) then piece n f else unknown

-- a form before those that were found
abbrev added : Form → List Form × Bytes → List Form × Bytes
added f r = (f ∷ r.0, r.1)

-- the pieces behind the first
abbrev behind : (Bytes → List Form × Bytes) → Bytes → Step → List Form × Bytes
behind more text unknown = ([], text)
behind more text (gap k) = more (drop k text)
behind more text (piece k f) = added f (more (drop k text))

-- at most so many pieces of a line, and what is left of the text
abbrev pub scan : ℕ → Bytes → List Form × Bytes
scan zero text = ([], text)
scan (suc n) text = behind (scan n) text (on_line text (step text))

-- WHAT IT FINDS

-- the step is right of the text
abbrev Right : Bytes → Step → Type 0
Right text unknown = Unit {0}
Right text (gap n) = (starts : Bool) → Front starts text n reads.Gap
Right text (piece n f) = ((starts : Bool) → Front starts text n (reads.Token f)) × (is_directive f ≡ false)

number_right : (b : ℕ) (bs : Bytes) → is_digit b ≡ true → Right (b ∷ bs) (number_step b bs)
number_right b bs d = go (constant_of (b ∷ take (run_len in_number b bs) bs)) refl
  where
    go : (o : Option (ℕ × Kind)) → constant_of (b ∷ take (run_len in_number b bs) bs) ≡ o
        → Right (b ∷ bs) (by_constant (run_len in_number b bs) o)
    go None e = tt
    go (Some c) e = (
      λ starts. number_front starts b bs c.0 c.1 d (constant_is (b ∷ take (run_len in_number b bs) bs) c.0 c.1 e),
      refl,
    )

mark_right : (b : ℕ) (bs : Bytes) → nat_eq b 47 ≡ false → Right (b ∷ bs) (mark_step b bs)
mark_right b [] s = go (lookup (b ∷ []) marks)
  where
    go : (o : Option Mark) → Right (b ∷ []) (by_mark o false)
    go None = tt
    go (Some m) = tt
mark_right b (c ∷ cs) s = go (lookup (b ∷ []) marks) refl (none_longer b marks) refl (goes_on c) refl
  where
    no_slash : (d : ℕ) → (nat_eq b 47 && begins_with d (c ∷ cs)) ≡ false
    no_slash d = rw s refl

    go : (o : Option Mark) → lookup (b ∷ []) marks ≡ o → (x : Bool) → none_longer b marks ≡ x → (y : Bool)
        → goes_on c ≡ y → Right (b ∷ c ∷ cs) (by_mark o (x || not y))
    go None e x f y g = tt
    go (Some m) e true f y g = (
      λ starts. mark_front starts b (c ∷ cs) 1 m (only_longest b (c ∷ cs) m e f) (no_slash 47) (no_slash 42),
      refl,
    )
    go (Some m) e false f true g = tt
    go (Some m) e false f false g =
        let long : 2 ≤ length (b ∷ c ∷ cs) =
        (let l : length (b ∷ c ∷ cs) ≡ suc (suc (length cs)) = refl in omega arith) in
        let one : mark_of (b ∷ c ∷ cs) ≡ Some (1, m) = sym (mark_ends (b ∷ c ∷ cs) long g) ∙ (rw e refl) in
        (λ starts. mark_front starts b (c ∷ cs) 1 m one (no_slash 47) (no_slash 42), refl)

-- a word is no directive
word_plain : (b : ℕ) (w : Bytes) (o : Option Key) → is_letter b ≡ true
    → is_directive (word_form (b ∷ w) o) ≡ false
word_plain b w None e = letter_plain b w e
word_plain b w (Some k) e = refl

step_right : (text : Bytes) → Right text (step text)
step_right [] = tt
step_right (b ∷ bs) = by_letter (is_letter b) refl
  where
    by_slash : (v : Bool) → nat_eq b 47 ≡ v → Right (b ∷ bs) (cond v unknown (mark_step b bs))
    by_slash true e = tt
    by_slash false e = mark_right b bs e

    by_space : (v : Bool) → is_space b ≡ v → Right (b ∷ bs)
        (cond v (gap (suc (length (spaces bs)))) (cond (nat_eq b 47) unknown (mark_step b bs)))
    by_space true e = λ starts. space_front starts b bs e
    by_space false e = by_slash (nat_eq b 47) refl

    by_digit : (v : Bool) → is_digit b ≡ v → Right (b ∷ bs) (cond v (number_step b bs)
        (cond (is_space b) (gap (suc (length (spaces bs))))
        (cond (nat_eq b 47) unknown (mark_step b bs))))
    by_digit true e = number_right b bs e
    by_digit false e = by_space (is_space b) refl

    by_letter : (v : Bool) → is_letter b ≡ v → Right (b ∷ bs) (cond v (word_step b bs) (cond (is_digit b)
        (number_step b bs) (cond (is_space b) (gap (suc (length (spaces bs))))
        (cond (nat_eq b 47) unknown (mark_step b bs)))))
    by_letter true e = (λ starts. word_front starts b bs e, word_plain b _ _ e)
    by_letter false e = by_digit (is_digit b) refl

-- LINES

-- on one line, the text is cut into these forms up to the rest
pub data Line : Bytes → List Form → Bytes → Type 0 where
  stop : {text : Bytes} → Line text [] text
  pass : {text piece rest more : Bytes} {fs : List Form}
      → ((starts : Bool) → Longest starts text piece rest reads.Gap) → Line rest fs more → Line text fs more
  read : {text piece rest more : Bytes} {f : Form} {fs : List Form}
      → ((starts : Bool) → Longest starts text piece rest (reads.Token f)) → is_directive f ≡ false
      → Line rest fs more
      → Line text (f ∷ fs) more

-- what is scanned is cut so
pub scan_line : (n : ℕ) (text : Bytes) → Line text (scan n text).0 (scan n text).1
scan_line zero text = stop
scan_line (suc n) text = go (scan_line n) (step text) (step_right text)
  where
    gaps : ((t : Bytes) → Line t (scan n t).0 (scan n t).1) → (k : ℕ)
        → ((starts : Bool) → Front starts text k reads.Gap) → (v : Bool) → is_quiet (take k text) ≡ v
        → Line text (behind (scan n) text (cond v (gap k) unknown)).0
        (behind (scan n) text (cond v (gap k) unknown)).1
    gaps more k r true e = pass r (more (drop k text))
    gaps more k r false e = stop

    pieces : ((t : Bytes) → Line t (scan n t).0 (scan n t).1) → (k : ℕ) (f : Form)
        → ((starts : Bool) → Front starts text k (reads.Token f)) × (is_directive f ≡ false) → (v : Bool)
        → is_quiet (take k text) ≡ v
        → Line text (behind (scan n) text (cond v (piece k f) unknown)).0
        (behind (scan n) text (cond v (piece k f) unknown)).1
    pieces more k f r true e = read r.0 r.1 (more (drop k text))
    pieces more k f r false e = stop

    go : ((t : Bytes) → Line t (scan n t).0 (scan n t).1) → (s : Step) → Right text s
        → Line text (behind (scan n) text (on_line text s)).0 (behind (scan n) text (on_line text s)).1
    go more unknown r = stop
    go more (gap k) r = gaps more k r (is_quiet (take k text)) refl
    go more (piece k f) r = pieces more k f r (is_quiet (take k text)) refl

-- OFFSETS

-- behind some bytes, on no directive's line, the text is cut into tokens of these forms up to the rest
pub record Reaches (l : state.Line) (before text : Bytes) (fs : List Form) (rest : Bytes) : Type 0 where
  pub offsets : ℕ → ℕ
  -- how the line stands before the rest
  pub ends : state.Line
  -- which is no directive's
  pub plain : ends.directs ≡ false
  -- what then stands before the rest
  pub passed : Bytes
  pub cut : Cut l before text (line_of offsets fs) ends passed rest

-- an offset, and those behind it
abbrev one_more : ℕ → (ℕ → ℕ) → ℕ → ℕ
one_more n l zero = n
one_more n l (suc j) = l j

-- a line is cut so, wherever it stands
pub line_cuts : (text rest : Bytes) (fs : List Form) → Line text fs rest → (l : state.Line) (before : Bytes)
    → l.directs ≡ false → Reaches l before text fs rest
line_cuts text rest fs stop l before d =
    record { offsets = λ j. 0; ends = l; plain = d; passed = before; cut = here }
line_cuts text rest fs (pass {piece = p} {rest = r} g x) l before d =
    let y = line_cuts r rest fs x (past_gap l p) (before ++ p) (rw d refl) in
    record {
      offsets = y.offsets;
      ends = y.ends;
      plain = y.plain;
      passed = y.passed;
      cut = space (g l.starts) (rw d refl) y.cut;
    }
line_cuts text rest fs (read {piece = p} {rest = r} {f = f} {fs = gs} g n x) l before d =
    let y = line_cuts r rest gs x (past_token l p f) (before ++ p) (rw (d, n) refl) in
    record {
      offsets = one_more (length before) y.offsets;
      ends = y.ends;
      plain = y.plain;
      passed = y.passed;
      cut = next (g l.starts) y.cut;
    }

-- a line feed, and a line that begins with no white space
pub feed_cuts : (b : ℕ) (bs rest : Bytes) (fs : List Form) → in_white b bs ≡ false → Line (b ∷ bs) fs rest
    → (l : state.Line) (before : Bytes) → l.directs ≡ false → Reaches l before (10 ∷ b ∷ bs) fs rest
feed_cuts b bs rest fs s x l before d =
    let g : Front l.starts (10 ∷ b ∷ bs) 1 reads.Gap =
    subst (λ (v : Bool). Front l.starts (10 ∷ b ∷ bs) (suc (length (cond v (b ∷ spaces bs) []))) reads.Gap) s
    (space_front l.starts 10 (b ∷ bs) refl) in
    let y = line_cuts (b ∷ bs) rest fs x (past_gap l (10 ∷ [])) (before ++ 10 ∷ []) (rw d refl) in
    record {
      offsets = y.offsets;
      ends = y.ends;
      plain = y.plain;
      passed = y.passed;
      cut = space g (rw d refl) y.cut;
    }

-- a line feed at the end is cut into no token
pub last_cuts : (l : state.Line) (before : Bytes) → l.directs ≡ false
    → Cut l before (10 ∷ []) [] (past_gap l (10 ∷ [])) (before ++ 10 ∷ []) []
last_cuts l before d = space (space_front l.starts 10 [] refl) (rw d refl) here
