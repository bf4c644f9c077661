-- The first fault of a text's lines is the one that reading meets.
use Rattle.std.proofs.Common.{◌≡◌, ℕ, ◌+◌, List, [], ◌∷◌, ◌++◌, length}
use Rattle.std.proofs.Common.{refl, sym, ap, subst, ◌∙◌, arith, true}
use Rattle.std.specs.Prelude.{not, Result, Ok, Err}
use Rattle.std.proofs.lemmas.List.{length-append}
use Rattle.trips_isa.specs.declared.block.Block.{Block}
use Rattle.target_asm_spec.specs.declared.fault.AsmFault.{AsmFault}
use Rattle.target_asm_spec.specs.declared.fault.AsmFault.TheVariants as fault
use Rattle.target_asm_spec.specs.inside.Whole.{is_empty, data_lines, chunks_from, unknown, body_in}
use Rattle.target_asm_spec.specs.inside.Whole.{image_in}
use Rattle.target_asm_spec.specs.LinePlaces.{Line, line_words, Place, start, after, size_of, MayStand}
use Rattle.target_asm_spec.specs.LinePlaces.{Below, InFields, AreGood, place_after, lines_words, GoodGoal}
use Rattle.target_asm_spec.specs.LinePlaces.{goal_of_line, GoodGoals}
use Rattle.target_asm_spec.specs.LinePlaces as line
use Rattle.target_asm_spec.specs.FirstAsmFault.{NoLine, BadNumber, first_line, GoodFront}
use Rattle.target_asm_laws.proofs.Meeting.{Meets, together, first, second, meet, Broken, syntax, range}
use Rattle.target_asm_laws.proofs.Meeting.{no_good, one_end, one_break}
use Rattle.target_asm_laws.proofs.Leads.{Aim, AllAim, Failed, Came, Goes, Cause, place_append}
use Rattle.target_asm_laws.proofs.Leads.{words_append}
use Rattle.target_asm_laws.proofs.Leads as lead
use Rattle.target_asm_laws.proofs.BlockLines.{BlocksEnd}
use Rattle.target_asm_laws.proofs.Aiming.{Anywhere, Nowhere}
use Rattle.target_asm_laws.proofs.Judged.{no_empty, WholeLines, first_goes, whole_of}
use Rattle.target_asm_laws.proofs.Fronts.{blocks_part, after_data}

-- ---- lines to the end of a text have no fault

begins_stay : (p : Place) (ls : List Line) → (p.begins ≡ [] → ⊥)
    → (place_after p ls).begins ≡ [] → ⊥
begins_stay p [] h e = h e
begins_stay p (l ∷ ls) h e = begins_stay (after p l) ls (by l) e
  where
    by : (l : Line) → (after p l).begins ≡ [] → ⊥
    by (line.block k m) q = absurd (let n : length (p.begins ++ (p.here + p.size) ∷ []) ≡ 0 = ap length q in
        omega (arith, n, length-append p.begins ((p.here + p.size) ∷ [])))
    by (line.read s) q = h q
    by (line.write s) q = h q
    by (line.inst s) q = h q

-- the first line is a block's
begins_some : (l : Line) (ls : List Line) → MayStand start l
    → (place_after start (l ∷ ls)).begins ≡ [] → ⊥
begins_some (line.block k m) ls st e =
    begins_stay (after start (line.block k m)) ls (λ q. absurd cc) e
begins_some (line.read s) ls st e = absurd st.0
begins_some (line.write s) ls st e = absurd st
begins_some (line.inst s) ls st e = absurd st.0

whole_begins : (rest cs : List ℕ) (w : WholeLines rest cs) → (rest ≡ [] → ⊥)
    → (place_after start w.lines).begins ≡ [] → ⊥
whole_begins rest cs w h = by w.lines w.good w.is
  where
    by : (ls : List Line) → AreGood start ls → rest ≡ lines_words ls []
        → (place_after start ls).begins ≡ [] → ⊥
    by [] a e q = h e
    by (l ∷ ls) a e q = begins_some l ls a.0 q

not_broken : (p : Place) → Broken p [] → (p.begins ≡ [] → ⊥) → ⊥
not_broken p (syntax n) h = h (n.wanted refl)
not_broken p (range n) h = no_empty n.line n.more n.is

-- in a rest of whole lines nothing is broken before its end
pub no_break : (rest cs : List ℕ) → WholeLines rest cs → (rest ≡ [] → ⊥) → (ls : List Line)
    → (t : List ℕ) → AreGood start ls → rest ≡ lines_words ls t → Broken (place_after start ls) t → ⊥
no_break rest cs w some ls t good is b =
    by (meet start start ls w.lines t [] refl good w.good (sym is ∙ w.is))
  where
    by : Meets start start ls w.lines t [] → ⊥
    by (together n h q) =
        not_broken (place_after start ls) (subst (Broken (place_after start ls)) h b) (λ e.
        whole_begins rest cs w some (ap (λ (x : Place). x.begins) (sym q) ∙ e))
    by (first l more st fi e) = no_good (place_after start ls) t l more b st fi e
    by (second l more st fi e) = no_empty l more e

-- ---- a fault of a line

abbrev pub broken_fault : (p : Place) (t : List ℕ) → Broken p t → ℕ → AsmFault
broken_fault p t (syntax n) m = fault.Syntax m
broken_fault p t (range n) m = fault.Range m

same_fault : (p q : Place) (t u : List ℕ) (b : Broken p t) (c : Broken q u) (n m : ℕ) → p ≡ q → t ≡ u
    → n ≡ m → broken_fault p t b n ≡ broken_fault q u c m
same_fault p q t u (syntax a) (syntax c) n m e f h = ap fault.Syntax h
same_fault p q t u (range a) (range c) n m e f h = ap fault.Range h
same_fault p q t u (syntax a) (range c) n m e f h =
    absurd (one_break q u (subst (NoLine q) f (subst (λ (x : Place). NoLine x t) e a)) c)
same_fault p q t u (range a) (syntax c) n m e f h =
    absurd (one_break q u c (subst (BadNumber q) f (subst (λ (x : Place). BadNumber x t) e a)))

-- a reading that looks at no goal meets the fault
body_broken : (at : ℕ) (rest : List ℕ) → (rest ≡ [] → ⊥) → (ls : List Line) (t : List ℕ)
    → AreGood start ls → rest ≡ lines_words ls t → (b : Broken (place_after start ls) t)
    → body_in unknown at rest ≡ Err (broken_fault (place_after start ls) t b (at + length ls))
body_broken at rest some ls t good is b = by (body_in unknown at rest) (first_goes at rest)
  where
    here : (f : List Line) (u : List ℕ) → AreGood start f → rest ≡ lines_words f u
        → (c : Broken (place_after start f) u)
        → broken_fault (place_after start f) u c (at + length f)
        ≡ broken_fault (place_after start ls) t b (at + length ls)
    here f u fg fi c =
        let m = one_end start start f ls u t (meet start start f ls u t refl fg good (sym fi ∙ is)) c b in
        same_fault (place_after start f) (place_after start ls) u t c b (at + length f) (at + length ls)
        m.2 m.1 (ap (λ (n : ℕ). at + n) m.0)

    cause : (f : List Line) (u : List ℕ) → AreGood start f → rest ≡ lines_words f u → (e : AsmFault)
        → Cause Nowhere (place_after start f) (at + length f) u e
        → ◌≡◌ {A = Result (List Block) AsmFault} (Err e)
        (Err (broken_fault (place_after start ls) t b (at + length ls)))
    cause f u fg fi e (lead.syntax n) = ap (λ (x : AsmFault). Err x) (here f u fg fi (syntax n))
    cause f u fg fi e (lead.range n) = ap (λ (x : AsmFault). Err x) (here f u fg fi (range n))
    cause f u fg fi e (lead.label l more k st il ii g z) = absurd z
    cause f u fg fi e (lead.offset l more k st il ii g z) = absurd z

    by : (r : Result (List Block) AsmFault)
        → Goes Anywhere Nowhere start at rest (BlocksEnd [] 0) r
        → r ≡ Err (broken_fault (place_after start ls) t b (at + length ls))
    by (Err e) f = cause f.lines f.rest f.good f.is e f.cause
    by (Ok x) c = absurd (no_break rest (chunks_from 0 x) (whole_of Anywhere x at rest c) some ls t
        good is b)

first_fails : (count : ℕ) (bytes rest : List ℕ) (e : AsmFault) → not (is_empty rest) ≡ true
    → body_in unknown (3 + data_lines count) rest ≡ Err e → blocks_part count bytes rest ≡ Err e
first_fails count bytes rest e w h = rw (w, h) refl

none_left : (count : ℕ) (bytes rest : List ℕ) → rest ≡ []
    → blocks_part count bytes rest ≡ Err (fault.Syntax (3 + data_lines count))
none_left count bytes [] e = refl
none_left count bytes (c ∷ cs) e = absurd cc

-- a text with a letter is not empty
pub is_some_text : (c : ℕ) (cs : List ℕ) → (c ∷ cs) ≡ [] → ⊥
is_some_text c cs e = absurd cc

-- where nothing is left, a line is missing
at_end : (at : ℕ) (ls : List Line) (t : List ℕ) → [] ≡ lines_words ls t
    → (b : Broken (place_after start ls) t)
    → broken_fault (place_after start ls) t b (at + length ls) ≡ fault.Syntax at
at_end at (l ∷ ls) t is b = absurd (no_empty l (lines_words ls t) is)
at_end at [] t is (syntax n) = let e : at + 0 ≡ at = omega arith in ap fault.Syntax e
at_end at [] t is (range n) = absurd (no_empty n.line n.more (is ∙ n.is))

-- where a line is broken behind good lines, reading gives its fault at its line
pub line_found : (text bytes rest : List ℕ) (ls : List Line) (t : List ℕ) → GoodFront text bytes rest
    → AreGood start ls → rest ≡ lines_words ls t → (b : Broken (place_after start ls) t)
    → image_in text ≡ Err (broken_fault (place_after start ls) t b (first_line bytes + length ls))
line_found text bytes rest ls t a good is b = after_data text bytes rest a ∙ by rest is
  where
    by : (rest : List ℕ) → rest ≡ lines_words ls t → blocks_part (length bytes) bytes rest
        ≡ Err (broken_fault (place_after start ls) t b (first_line bytes + length ls))
    by [] is = none_left (length bytes) bytes [] refl
        ∙ ap (λ (x : AsmFault). Err x) (sym (at_end (first_line bytes) ls t is b))
    by (c ∷ cs) is = first_fails (length bytes) bytes (c ∷ cs)
        (broken_fault (place_after start ls) t b (first_line bytes + length ls)) refl
        (body_broken (first_line bytes) (c ∷ cs) (is_some_text c cs) ls t good is b)
