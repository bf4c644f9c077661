-- A text that is not read as an image has a first fault.
use Rattle.std.proofs.Common.{◌≡◌, ℕ, ◌+◌, ◌/◌, ◌≤◌, List, [], ◌∷◌, ◌++◌, length}
use Rattle.std.proofs.Common.{get_or, refl, sym, ap, subst, ◌∙◌, arith, Some}
use Rattle.std.proofs.Common.{false, ◌⊎◌, inl, inr}
use Rattle.std.specs.Prelude.{not, Result, Ok, Err}
use Rattle.trips_isa.specs.declared.block.Block.{Block}
use Rattle.trips_isa.specs.declared.block.Image.{Image}
use Rattle.target_asm_spec.specs.Text.{TargetText}
use Rattle.target_asm_spec.specs.declared.fault.AsmFault.{AsmFault}
use Rattle.target_asm_spec.specs.declared.fault.AsmFault.TheVariants as fault
use Rattle.target_asm_spec.specs.declared.spelled.Goal.{Goal}
use Rattle.target_asm_spec.specs.declared.spelled.Goal.TheVariants.{Label, Offset}
use Rattle.target_asm_spec.specs.inside.Blocks.{◌>>>◌}
use Rattle.target_asm_spec.specs.inside.Whole.{is_empty, front_in}
use Rattle.target_asm_spec.specs.inside.Whole.{data_lines, data_in, chunks_from, begins_of}
use Rattle.target_asm_spec.specs.inside.Whole.{unknown, body_in, image_in}
use Rattle.target_asm_spec.specs.LinePlaces.{Line, line_words, Place, start, after, size_of, MayStand}
use Rattle.target_asm_spec.specs.LinePlaces.{Below, InFields, AreGood, place_after, lines_words, GoodGoal}
use Rattle.target_asm_spec.specs.LinePlaces.{goal_of_line, GoodGoals}
use Rattle.target_asm_spec.specs.FirstAsmFault.{NoLine, BadNumber, BadGoal, GoodBytes, data_words}
use Rattle.target_asm_spec.specs.FirstAsmFault.{first_line, GoodFront, FirstAsmFault}
use Rattle.target_asm_spec.specs.FirstAsmFault as rule
use Rattle.target_asm_spec.specs.LinePlaces as line
use Rattle.target_asm_laws.proofs.Binds.{Holds}
use Rattle.target_asm_laws.proofs.Data.{IsFront, front_is}
use Rattle.target_asm_laws.proofs.Data.{IsData, data_is}
use Rattle.target_asm_laws.proofs.Images.{exact}
use Rattle.target_asm_laws.proofs.Tables.{few_are}
use Rattle.target_asm_laws.proofs.OneLine.{letter, letter_is, one_line}
use Rattle.target_asm_laws.proofs.Leads.{Aim, AllAim, Cause, syntax, range, label, offset, Failed}
use Rattle.target_asm_laws.proofs.Leads.{Came, Goes, place_append, words_append, good_append}
use Rattle.target_asm_laws.proofs.BlockLines.{Between, BlocksEnd, blocks_go}
use Rattle.target_asm_laws.proofs.Aiming.{Anywhere, Nowhere, first_aims, BadAim, second_aims}
use Rattle.target_asm_laws.proofs.FrontFaults.{Tells, tells, tell_wants, Any, front_tells, data_tells}
use Rattle.target_asm_laws.proofs.FrontFaults.{front_good}

-- ---- the lines of blocks

-- no line is empty
pub no_empty : (l : Line) (more : List ℕ) → [] ≡ line_words l more → ⊥
no_empty l more e =
    let a : 0 ≡ letter l = ap (λ (t : List ℕ). get_or t 0 0) e ∙ letter_is l more in
    some l a
  where
    some : (l : Line) → 0 ≡ letter l → ⊥
    some (line.block k m) a = absurd (omega (arith, a))
    some (line.read s) a = absurd (omega (arith, a))
    some (line.write s) a = absurd (omega (arith, a))
    some (line.inst s) a = absurd (omega (arith, a))

failed_fault : (G : Aim) (B : ℕ → Goal → Type 0) (text bytes rest : List ℕ) (at : ℕ) (e : AsmFault)
    → GoodFront text bytes rest → at ≡ first_line bytes → (f : Failed G B start at rest e)
    → ((l : Line) (more : List ℕ) (g : Goal) → MayStand (place_after start f.lines) l
    → InFields (place_after start f.lines) l → f.rest ≡ line_words l more
    → goal_of_line l ≡ Some g → B (place_after start f.lines).here g → BadGoal rest f.lines g)
    → FirstAsmFault text e
failed_fault G B text bytes rest at e a w f h = by e f.cause
  where
    count : first_line bytes + length f.lines ≡ at + length f.lines
    count = ap (λ (n : ℕ). n + length f.lines) (sym w)

    by : (e : AsmFault) → Cause B (place_after start f.lines) (at + length f.lines) f.rest e
        → FirstAsmFault text e
    by e (syntax n) = subst (λ (m : ℕ). FirstAsmFault text (fault.Syntax m)) count
        (rule.no_line bytes rest f.rest f.lines a f.good f.is n)
    by e (range n) = subst (λ (m : ℕ). FirstAsmFault text (fault.Range m)) count
        (rule.bad_number bytes rest f.rest f.lines a f.good f.is n)
    by e (label l more k st fi is g b) = subst (λ (m : ℕ). FirstAsmFault text (fault.Label m)) count
        (rule.no_block bytes rest f.lines k a (h l more (Label k) st fi is g b))
    by e (offset l more n st fi is g b) = subst (λ (m : ℕ). FirstAsmFault text (fault.Range m)) count
        (rule.hits_block bytes rest f.lines n a (h l more (Offset n) st fi is g b))

-- lines that go to the end of the text after others
pub record Covers (p q : Place) (t : List ℕ) : Type 0 where
  pub back : List Line
  pub good : AreGood p back
  pub is : t ≡ lines_words back []
  pub to : place_after p back ≡ q

pub cover : (p q : Place) (ls ms : List Line) (t : List ℕ) → p ≡ q → AreGood p ls → AreGood q ms
    → lines_words ls t ≡ lines_words ms [] → Covers (place_after p ls) (place_after q ms) t
cover p q [] ms t e a b h = record {
  back = ms;
  good = subst (λ (x : Place). AreGood x ms) (sym e) b;
  is = h;
  to = ap (λ (x : Place). place_after x ms) e;
}
cover p q (l ∷ ls) [] t e a b h = absurd (no_empty l (lines_words ls t) (sym h))
cover p q (l ∷ ls) (m ∷ ms) t e a b h =
    let s = one_line p l m (lines_words ls t) (lines_words ms []) a.0
    (subst (λ (x : Place). MayStand x m) (sym e) b.0) h in
    let next : after p l ≡ after q m = s.next a.1 ∙ ap (λ (x : Place). after x m) e in
    cover (after p l) (after q m) ls ms t next a.2 b.2 s.rest

-- lines whose branches all go where a block begins have good goals
pub goals_of : (cs : List ℕ) (p : Place) (ls : List Line) → AllAim (GoodGoal cs) p ls
    → GoodGoals cs p ls
goals_of cs p [] h = tt
goals_of cs p (l ∷ ls) h = (h.0, goals_of cs (after p l) ls h.1)

-- the good lines of a text, to its end
pub record WholeLines (rest cs : List ℕ) : Type 0 where
  pub lines : List Line
  pub good : AreGood start lines
  pub is : rest ≡ lines_words lines []
  pub begins : (place_after start lines).begins ≡ cs

behind : (p q r : Place) (l m : Line) (more : List ℕ) (back : List Line) → MayStand p l
    → InFields p l → AreGood p (m ∷ back) → line_words l more ≡ lines_words (m ∷ back) []
    → place_after p (m ∷ back) ≡ q
    → AreGood (after p l) back × (more ≡ lines_words back []) × (place_after (after p l) back ≡ q)
behind p q r l m more back st fi good is to =
    let s = one_line p l m more (lines_words back []) st good.0 is in (
      subst (λ (x : Place). AreGood x back) (sym (s.next fi)) good.2,
      s.rest,
      ap (λ (x : Place). place_after x back) (s.next fi) ∙ to,
    )

-- a bad goal among good lines
pub bad_goal : (rest cs : List ℕ) (w : WholeLines rest cs) (f : List Line) (t : List ℕ) (l : Line)
    (more : List ℕ) (g : Goal) → AreGood start f → GoodGoals cs start f → rest ≡ lines_words f t
    → MayStand (place_after start f) l → InFields (place_after start f) l → t ≡ line_words l more
    → goal_of_line l ≡ Some g → BadAim cs (place_after start f).here g → BadGoal rest f g
bad_goal rest cs w f t l more g good goals is st fi e ge b =
    let c = cover start start f w.lines t refl good w.good (sym is ∙ w.is) in
    by c.back c.good c.is c.to
  where
    q : Place
    q = place_after start f

    by : (back : List Line) → AreGood (place_after start f) back → t ≡ lines_words back []
        → place_after (place_after start f) back ≡ place_after start w.lines → BadGoal rest f g
    by [] bg bi bt = absurd (no_empty l more (sym bi ∙ e))
    by (m ∷ back) bg bi bt =
        let h = behind (place_after start f) (place_after start w.lines) start l m more back st fi bg
        (sym e ∙ bi) bt in
        let to : place_after start (f ++ l ∷ back) ≡ place_after start w.lines =
        place_append start f (l ∷ back) ∙ h.2 in
        let begins : (place_after start (f ++ l ∷ back)).begins ≡ cs =
        ap (λ (x : Place). x.begins) to ∙ w.begins in
        record {
          line = l;
          back = back;
          is = is ∙ ap (lines_words f) (e ∙ ap (line_words l) h.1)
              ∙ sym (words_append f (l ∷ back) []);
          good = good_append start f (l ∷ back) good (st, fi, h.0);
          before = subst (λ (x : List ℕ). GoodGoals x start f) (sym begins) goals;
          goal_is = ge;
          bad = λ z. b (subst (λ (x : List ℕ). GoodGoal x (place_after start f).here (Some g)) begins z);
        }

pub at_start : (rest : List ℕ) → Between 0 0 start rest
at_start rest = record {
  count = refl;
  end = refl;
  no_read = λ s more st is. st.0;
  no_write = λ s more st is. st;
  no_inst = λ s more st is. st.0;
}

-- what the first reading of the blocks gives
pub first_goes : (at : ℕ) (rest : List ℕ)
    → Goes Anywhere Nowhere start at rest (BlocksEnd [] 0) (body_in unknown at rest)
unfolding body_in
first_goes at rest = blocks_go Anywhere Nowhere unknown (λ here. tt) first_aims 262145 0 0 at start rest
    (at_start rest) refl (omega arith) (omega arith)

-- and what the second gives
pub second_goes : (first : List Block) (at : ℕ) (rest : List ℕ)
    (x : Came Anywhere start at rest (BlocksEnd [] 0) first)
    → length first ≤ 262145
    → Goes (GoodGoal (chunks_from 0 first)) (BadAim (chunks_from 0 first)) start at rest
    (BlocksEnd [] 0) (body_in (begins_of first) at rest)
unfolding body_in
second_goes first at rest x few = blocks_go (GoodGoal (chunks_from 0 first))
    (BadAim (chunks_from 0 first)) (begins_of first) (λ here. tt)
    (second_aims first x.holds.near few) 262145 0 0 at start rest
    (at_start rest) refl (omega arith) (omega arith)

-- where the reading of all lines has come to the end, the rest of the text is whole lines
pub whole_of : (G : Aim) (first : List Block) (at : ℕ) (rest : List ℕ)
    (x : Came G start at rest (BlocksEnd [] 0) first) → WholeLines rest (chunks_from 0 first)
whole_of G first at rest x = record {
  lines = x.led.lines;
  good = x.led.good;
  is = x.led.is ∙ ap (lines_words x.led.lines) x.holds.left;
  begins = ap (λ (y : Place). y.begins) x.led.to ∙ x.holds.begins;
}

-- a body that is read has at most 262,145 blocks
pub few_body : (at : ℕ) (rest : List ℕ)
    → Holds (λ bs. length bs ≤ 262145) (body_in unknown at rest)
unfolding body_in
few_body at rest = few_are unknown 262145 0 0 at rest

lines_tell : (text bytes rest : List ℕ) (at : ℕ) → GoodFront text bytes rest
    → at ≡ first_line bytes
    → Tells {A = Image} text Any (body_in unknown at rest >>> λ first.
    body_in (begins_of first) at rest >>> λ blocks. Ok (record { blocks = blocks; bytes = bytes }))
lines_tell text bytes rest at a w =
    by (body_in unknown at rest) (first_goes at rest) (few_body at rest)
  where
    then_second : (first : List Block) (x : Came Anywhere start at rest (BlocksEnd [] 0) first)
        → (r : Result (List Block) AsmFault)
        → Goes (GoodGoal (chunks_from 0 first)) (BadAim (chunks_from 0 first)) start at rest
        (BlocksEnd [] 0) r
        → Tells {A = Image} text Any (r >>> λ blocks. Ok (record { blocks = blocks; bytes = bytes }))
    then_second first x (Ok blocks) h = tt
    then_second first x (Err e) h =
        failed_fault (GoodGoal (chunks_from 0 first)) (BadAim (chunks_from 0 first)) text bytes rest at e a
        w h (λ l more g st fi is ge b.
        bad_goal rest (chunks_from 0 first) (whole_of Anywhere first at rest x) h.lines h.rest l more g
        h.good (goals_of (chunks_from 0 first) start h.lines h.aims) h.is st fi is ge b)

    by : (r : Result (List Block) AsmFault)
        → Goes Anywhere Nowhere start at rest (BlocksEnd [] 0) r
        → Holds (λ bs. length bs ≤ 262145) r
        → Tells {A = Image} text Any (r >>> λ first. body_in (begins_of first) at rest >>> λ blocks.
        Ok (record { blocks = blocks; bytes = bytes }))
    by (Err e) h k = failed_fault Anywhere Nowhere text bytes rest at e a w h
        (λ l more g st fi is ge b. absurd b)
    by (Ok first) h k = then_second first h (body_in (begins_of first) at rest)
        (second_goes first at rest h k)

-- ---- the whole text

no_block_line : (t : List ℕ) → t ≡ [] → NoLine start t
no_block_line t e = record {
  wanted = λ n. refl;
  none = λ l more st is. no_empty l more (sym e ∙ is);
}

empty_is : (t : List ℕ) → not (is_empty t) ≡ false → t ≡ []
empty_is [] e = refl
empty_is (c ∷ cs) e = absurd cc

image_tells : (text : List ℕ) → Tells text Any (image_in text)
unfolding image_in
image_tells text =
    tells text Any (IsFront text) Any (front_in text) _ (front_tells text) (front_is text) (λ f u a.
    tells text Any (IsData f.0 f.1) Any (data_in f.0 f.1) _ (data_tells text f.0 f.1 a)
    (data_is f.0 f.1) (λ d v b.
    let front : GoodFront text d.0 d.1 = front_good text f.0 f.1 d.0 d.1 a b in
    let size : length d.0 ≡ f.0 = b.bytes.size in
    let at : 3 + data_lines f.0 ≡ first_line d.0 = ap (λ (n : ℕ). 3 + (n + 31) / 32) (sym size) in
    tell_wants text Any (not (is_empty d.1)) (fault.Syntax (3 + data_lines f.0)) _
    (λ w.
    let count : first_line d.0 + 0 ≡ 3 + data_lines f.0 = omega (arith, at) in
    subst (λ (m : ℕ). FirstAsmFault text (fault.Syntax m)) count
    (rule.no_line d.0 d.1 d.1 [] front tt refl (no_block_line d.1 (empty_is d.1 w)))) (λ w.
    lines_tell text d.0 d.1 (3 + data_lines f.0) front at)))

-- a text that is not read has a first fault
pub fault_of : (text : List ℕ) (e : AsmFault) → image_in text ≡ Err e → FirstAsmFault text e
fault_of text e h = subst (Tells text Any) h (image_tells text)

-- a text is an image's or has a first fault
pub some_of : (text : List ℕ) → ((i : Image) × TargetText i text)
    ⊎ ((f : AsmFault) × FirstAsmFault text f)
some_of text = by (image_in text) refl
  where
    by : (r : Result Image AsmFault) → image_in text ≡ r
        → ((i : Image) × TargetText i text) ⊎ ((f : AsmFault) × FirstAsmFault text f)
    by (Ok i) e = inl (i, exact text i e)
    by (Err f) e = inr (f, fault_of text f e)
