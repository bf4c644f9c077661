-- The first bad goal of a text's lines is the one that reading meets.
use Rattle.std.proofs.Common.{◌≡◌, ℕ, suc, ◌+◌, ◌≤◌, List, [], ◌∷◌, ◌++◌, length, refl, sym}
use Rattle.std.proofs.Common.{ap, subst, ◌∙◌, arith, Option, Some, None, true}
use Rattle.std.specs.Prelude.{ℤ, pos, not, Result, Ok, Err}
use Rattle.trips_isa.specs.declared.block.Block.{Block}
use Rattle.trips_isa.specs.Fits.{FitsSigned}
use Rattle.trips_isa.specs.Limits.{offset_half}
use Rattle.target_asm_spec.specs.declared.fault.AsmFault.{AsmFault}
use Rattle.target_asm_spec.specs.declared.fault.AsmFault.TheVariants as fault
use Rattle.target_asm_spec.specs.declared.spelled.Goal.{Goal}
use Rattle.target_asm_spec.specs.declared.spelled.Goal.TheVariants.{Label, Offset}
use Rattle.target_asm_spec.specs.Judging.{inst_of}
use Rattle.target_asm_spec.specs.inside.Whole.{is_empty, data_lines, chunks_from, begins_of, unknown, body_in}
use Rattle.target_asm_spec.specs.inside.Whole.{image_in}
use Rattle.target_asm_spec.specs.LinePlaces.{Line, line_words, Place, start, after, MayStand, Below}
use Rattle.target_asm_spec.specs.LinePlaces.{InFields, AreGood, place_after, lines_words, GoodGoal}
use Rattle.target_asm_spec.specs.LinePlaces.{goal_of_line, GoodGoals}
use Rattle.target_asm_spec.specs.LinePlaces as line
use Rattle.target_asm_spec.specs.FirstAsmFault.{BadGoal, first_line, GoodFront}
use Rattle.target_asm_spec.proofs.Goals.{length-chunks_from}
use Rattle.target_asm_laws.proofs.Binds.{Holds}
use Rattle.target_asm_laws.proofs.Judging.{IsJudged, judged_is}
use Rattle.target_asm_laws.proofs.Insts.{capped_goal}
use Rattle.target_asm_laws.proofs.OneLine.{small_same, one_line}
use Rattle.target_asm_laws.proofs.Meeting.{Meets, together, first, second, meet, syntax, range}
use Rattle.target_asm_laws.proofs.Leads.{Aim, AllAim, Failed, Came, Goes, Cause, words_append}
use Rattle.target_asm_laws.proofs.Leads as lead
use Rattle.target_asm_laws.proofs.FaultRegisters.{found}
use Rattle.target_asm_laws.proofs.BlockLines.{BlocksEnd}
use Rattle.target_asm_laws.proofs.Aiming.{Anywhere, Nowhere, BadAim, signed_kept, offset_fits}
use Rattle.target_asm_laws.proofs.Judged.{no_empty, WholeLines, first_goes, second_goes, whole_of}
use Rattle.target_asm_laws.proofs.Judged.{few_body, goals_of}
use Rattle.target_asm_laws.proofs.Fronts.{blocks_part, after_data}
use Rattle.target_asm_laws.proofs.Meets.{no_break, is_some_text}

-- ---- a goal that is read alike is as good

abbrev Small : Option Goal → Type 0
Small g = (n : ℤ) → g ≡ Some (Offset n) → FitsSigned offset_half n

line_small : (p : Place) (l : Line) → MayStand p l → InFields p l → Small (goal_of_line l)
line_small p (line.block k m) st fi n e = absurd cc
line_small p (line.read s) st fi n e = absurd cc
line_small p (line.write s) st fi n e = absurd cc
line_small p (line.inst s) st fi n e =
    let judged : IsJudged s fi.1.0 =
    found (IsJudged s) (inst_of s) fi.1.0 (judged_is s) fi.1.1 in
    offset_fits s.op s.numbers.goal n fi.1.0.imm st.1.goal e s refl judged.imm

abbrev number_of : Option Goal → ℤ
number_of None = pos 0
number_of (Some (Label k)) = k
number_of (Some (Offset n)) = n

as_good : (cs : List ℕ) (here : ℕ) (g h : Option Goal) → length cs ≤ 262145
    → capped_goal g ≡ capped_goal h → Small g → Small h → GoodGoal cs here g → GoodGoal cs here h
as_good cs here None None few e s t good = tt
as_good cs here None (Some (Label j)) few e s t good = absurd cc
as_good cs here None (Some (Offset m)) few e s t good = absurd cc
as_good cs here (Some (Label k)) None few e s t good = absurd cc
as_good cs here (Some (Offset n)) None few e s t good = absurd cc
as_good cs here (Some (Label k)) (Some (Offset m)) few e s t good = absurd cc
as_good cs here (Some (Offset n)) (Some (Label j)) few e s t good = absurd cc
as_good cs here (Some (Label k)) (Some (Label j)) few e s t good =
    subst (Below (length cs)) (small_same (length cs) k j (omega (arith, few)) good (ap number_of e)) good
as_good cs here (Some (Offset n)) (Some (Offset m)) few e s t good =
    let same : n ≡ m = sym (signed_kept n (s n refl)) ∙ ap number_of e ∙ signed_kept m (t m refl) in
    subst (λ (z : ℤ). GoodGoal cs here (Some (Offset z))) same good

-- a line whose goal is bad and one whose goal is good do not begin one text
pub not_both : (cs : List ℕ) (p : Place) (l m : Line) (t u : List ℕ) → length cs ≤ 262145
    → MayStand p l → InFields p l → MayStand p m → InFields p m → line_words l t ≡ line_words m u
    → GoodGoal cs p.here (goal_of_line l) → (g : Goal) → goal_of_line m ≡ Some g
    → BadAim cs p.here g → ⊥
not_both cs p l m t u few sl fl sm fm e good g ge bad =
    let s = one_line p l m t u sl sm e in
    bad (subst (GoodGoal cs p.here) ge (as_good cs p.here (goal_of_line l) (goal_of_line m) few s.goal
    (line_small p l sl fl) (line_small p m sm fm) good))

-- ---- lines with good goals

-- where two lists of lines of one text end, whose goals are good
data Aimed (cs : List ℕ) (p q : Place) (ls ms : List Line) (t u : List ℕ) : Type 0 where
  even : length ls ≡ length ms → t ≡ u → place_after p ls ≡ place_after q ms → Aimed cs p q ls ms t u
  shorter : (l : Line) (more : List ℕ) → MayStand (place_after p ls) l
      → InFields (place_after p ls) l → t ≡ line_words l more
      → GoodGoal cs (place_after p ls).here (goal_of_line l) → Aimed cs p q ls ms t u
  beyond : (l : Line) (rest : List ℕ) → MayStand (place_after q ms) l
      → InFields (place_after q ms) l → u ≡ line_words l rest
      → GoodGoal cs (place_after q ms).here (goal_of_line l) → Aimed cs p q ls ms t u

aimed_longer : (cs : List ℕ) (p q : Place) (k l : Line) (ls ms : List Line) (t u : List ℕ)
    → Aimed cs (after p k) (after q l) ls ms t u → Aimed cs p q (k ∷ ls) (l ∷ ms) t u
aimed_longer cs p q k l ls ms t u (even n h w) = even (ap suc n) h w
aimed_longer cs p q k l ls ms t u (shorter m x a b h g) = shorter m x a b h g
aimed_longer cs p q k l ls ms t u (beyond m x a b h g) = beyond m x a b h g

aimed_meet : (cs : List ℕ) (p q : Place) (ls ms : List Line) (t u : List ℕ) → p ≡ q → AreGood p ls
    → GoodGoals cs p ls → AreGood q ms → GoodGoals cs q ms
    → lines_words ls t ≡ lines_words ms u → Aimed cs p q ls ms t u
aimed_meet cs p q [] [] t u e a ga b gb h = even refl h e
aimed_meet cs p q [] (m ∷ ms) t u e a ga b gb h =
    shorter m (lines_words ms u) (subst (λ (x : Place). MayStand x m) (sym e) b.0)
    (subst (λ (x : Place). InFields x m) (sym e) b.1) h
    (subst (λ (x : Place). GoodGoal cs x.here (goal_of_line m)) (sym e) gb.0)
aimed_meet cs p q (l ∷ ls) [] t u e a ga b gb h =
    beyond l (lines_words ls t) (subst (λ (x : Place). MayStand x l) e a.0)
    (subst (λ (x : Place). InFields x l) e a.1) (sym h)
    (subst (λ (x : Place). GoodGoal cs x.here (goal_of_line l)) e ga.0)
aimed_meet cs p q (l ∷ ls) (m ∷ ms) t u e a ga b gb h =
    let s = one_line p l m (lines_words ls t) (lines_words ms u) a.0
    (subst (λ (x : Place). MayStand x m) (sym e) b.0) h in
    let next : after p l ≡ after q m = s.next a.1 ∙ ap (λ (x : Place). after x m) e in
    aimed_longer cs p q l m ls ms t u
    (aimed_meet cs (after p l) (after q m) ls ms t u next a.2 ga.1 b.2 gb.1 s.rest)

-- ---- a bad goal, by the lines before it

-- a line with a bad goal after lines with good ones
pub record Bad (rest cs : List ℕ) (ls : List Line) (g : Goal) : Type 0 where
  pub good : AreGood start ls
  pub goals : GoodGoals cs start ls
  pub t : List ℕ
  pub is : rest ≡ lines_words ls t
  pub l : Line
  pub tail : List ℕ
  pub stands : MayStand (place_after start ls) l
  pub fields : InFields (place_after start ls) l
  pub begins : t ≡ line_words l tail
  pub goal : goal_of_line l ≡ Some g
  pub bad : BadAim cs (place_after start ls).here g

abbrev pub goal_fault : Goal → ℕ → AsmFault
goal_fault (Label k) m = fault.Label m
goal_fault (Offset n) m = fault.Range m

same_goal_fault : (g h : Goal) (n m : ℕ) → capped_goal (Some g) ≡ capped_goal (Some h) → n ≡ m
    → goal_fault g n ≡ goal_fault h m
same_goal_fault (Label k) (Label j) n m e s = ap fault.Label s
same_goal_fault (Offset k) (Offset j) n m e s = ap fault.Range s
same_goal_fault (Label k) (Offset j) n m e s = absurd cc
same_goal_fault (Offset k) (Label j) n m e s = absurd cc

-- a text has one first bad goal
one_bad : (rest cs : List ℕ) (ls ms : List Line) (g h : Goal) (at : ℕ) → length cs ≤ 262145
    → Bad rest cs ls g → Bad rest cs ms h
    → goal_fault g (at + length ls) ≡ goal_fault h (at + length ms)
one_bad rest cs ls ms g h at few a b =
    by (aimed_meet cs start start ls ms a.t b.t refl a.good a.goals b.good b.goals (sym a.is ∙ b.is))
  where
    by : Aimed cs start start ls ms a.t b.t
        → goal_fault g (at + length ls) ≡ goal_fault h (at + length ms)
    by (even n e q) =
        let s = one_line (place_after start ls) a.l b.l a.tail b.tail a.stands
        (subst (λ (x : Place). MayStand x b.l) (sym q) b.stands) (sym a.begins ∙ e ∙ b.begins) in
        same_goal_fault g h (at + length ls) (at + length ms)
        (ap capped_goal (sym a.goal) ∙ s.goal ∙ ap capped_goal b.goal) (ap (λ (k : ℕ). at + k) n)
    by (shorter l x sl fl e good) = absurd (not_both cs (place_after start ls) l a.l x a.tail few sl fl
        a.stands a.fields (sym e ∙ a.begins) good g a.goal a.bad)
    by (beyond l x sl fl e good) = absurd (not_both cs (place_after start ms) l b.l x b.tail few sl fl
        b.stands b.fields (sym e ∙ b.begins) good h b.goal b.bad)

-- and none where all goals are good to the end
no_bad : (rest cs : List ℕ) (ls ms : List Line) (g : Goal) → length cs ≤ 262145
    → Bad rest cs ls g → AreGood start ms → GoodGoals cs start ms → rest ≡ lines_words ms [] → ⊥
no_bad rest cs ls ms g few a good goals is =
    by (aimed_meet cs start start ls ms a.t [] refl a.good a.goals good goals (sym a.is ∙ is))
  where
    by : Aimed cs start start ls ms a.t [] → ⊥
    by (even n e q) = no_empty a.l a.tail (sym e ∙ a.begins)
    by (shorter l x sl fl e gg) = not_both cs (place_after start ls) l a.l x a.tail few sl fl
        a.stands a.fields (sym e ∙ a.begins) gg g a.goal a.bad
    by (beyond l x sl fl e gg) = no_empty l x e

-- ---- the rule's bad goal

front_good : (p : Place) (ls ms : List Line) → AreGood p (ls ++ ms)
    → AreGood p ls × AreGood (place_after p ls) ms
front_good p [] ms a = (tt, a)
front_good p (l ∷ ls) ms a = let r = front_good (after p l) ls ms a.2 in ((a.0, a.1, r.0), r.1)

abbrev whole_lines : (rest : List ℕ) (ls : List Line) (g : Goal) → BadGoal rest ls g → List Line
whole_lines rest ls g b = ls ++ b.line ∷ b.back

abbrev whole_begins : (rest : List ℕ) (ls : List Line) (g : Goal) → BadGoal rest ls g → List ℕ
whole_begins rest ls g b = (place_after start (ls ++ b.line ∷ b.back)).begins

whole : (rest : List ℕ) (ls : List Line) (g : Goal) (b : BadGoal rest ls g)
    → WholeLines rest (whole_begins rest ls g b)
whole rest ls g b =
    record { lines = ls ++ b.line ∷ b.back; good = b.good; is = b.is; begins = refl }

bad_of : (rest : List ℕ) (ls : List Line) (g : Goal) (b : BadGoal rest ls g)
    → Bad rest (whole_begins rest ls g b) ls g
bad_of rest ls g b =
    let r = front_good start ls (b.line ∷ b.back) b.good in
    record {
      good = r.0;
      goals = b.before;
      t = line_words b.line (lines_words b.back []);
      is = b.is ∙ words_append ls (b.line ∷ b.back) [];
      l = b.line;
      tail = lines_words b.back [];
      stands = r.1.0;
      fields = r.1.1;
      begins = refl;
      goal = b.goal_is;
      bad = b.bad;
    }

-- two lists of lines to the end lead to one place
one_whole : (rest cs ds : List ℕ) → WholeLines rest cs → WholeLines rest ds → cs ≡ ds
one_whole rest cs ds v w =
    by (meet start start v.lines w.lines [] [] refl v.good w.good (sym v.is ∙ w.is))
  where
    by : Meets start start v.lines w.lines [] [] → cs ≡ ds
    by (together n e q) = sym v.begins ∙ ap (λ (x : Place). x.begins) q ∙ w.begins
    by (first l more a b e) = absurd (no_empty l more e)
    by (second l more a b e) = absurd (no_empty l more e)

part_by : (count : ℕ) (bytes rest : List ℕ) (x : List Block) (e : AsmFault)
    → not (is_empty rest) ≡ true → body_in unknown (3 + data_lines count) rest ≡ Ok x
    → body_in (begins_of x) (3 + data_lines count) rest ≡ Err e → blocks_part count bytes rest ≡ Err e
part_by count bytes rest x e w h k = rw (w, h, k) refl

-- the second reading meets it
second_meets : (at : ℕ) (rest cs : List ℕ) (x : List Block) (ls : List Line) (g : Goal)
    → (rest ≡ [] → ⊥) → Came Anywhere start at rest (BlocksEnd [] 0) x → length x ≤ 262145
    → chunks_from 0 x ≡ cs → Bad rest cs ls g
    → body_in (begins_of x) at rest ≡ Err (goal_fault g (at + length ls))
second_meets at rest cs x ls g some c few same b =
    by (body_in (begins_of x) at rest) (second_goes x at rest c few)
  where
    bad : Bad rest (chunks_from 0 x) ls g
    bad = subst (λ (y : List ℕ). Bad rest y ls g) (sym same) b

    short : length (chunks_from 0 x) ≤ 262145
    short = subst (λ (n : ℕ). n ≤ 262145) (sym (length-chunks_from 0 x)) few

    cause : (f : List Line) (u : List ℕ) → AreGood start f → AllAim (GoodGoal (chunks_from 0 x)) start f
        → rest ≡ lines_words f u → (e : AsmFault)
        → Cause (BadAim (chunks_from 0 x)) (place_after start f) (at + length f) u e
        → e ≡ goal_fault g (at + length ls)
    cause f u fg fa fi e (lead.syntax n) = absurd (no_break rest (chunks_from 0 x)
        (whole_of Anywhere x at rest c) some f u fg fi (syntax n))
    cause f u fg fa fi e (lead.range n) = absurd (no_break rest (chunks_from 0 x)
        (whole_of Anywhere x at rest c) some f u fg fi (range n))
    cause f u fg fa fi e (lead.label l tail n sl fl is ge bd) =
        one_bad rest (chunks_from 0 x) f ls (Label n) g at short (record {
          good = fg;
          goals = goals_of (chunks_from 0 x) start f fa;
          t = u;
          is = fi;
          l = l;
          tail = tail;
          stands = sl;
          fields = fl;
          begins = is;
          goal = ge;
          bad = bd;
        }) bad
    cause f u fg fa fi e (lead.offset l tail n sl fl is ge bd) =
        one_bad rest (chunks_from 0 x) f ls (Offset n) g at short (record {
          good = fg;
          goals = goals_of (chunks_from 0 x) start f fa;
          t = u;
          is = fi;
          l = l;
          tail = tail;
          stands = sl;
          fields = fl;
          begins = is;
          goal = ge;
          bad = bd;
        }) bad

    by : (r : Result (List Block) AsmFault)
        → Goes (GoodGoal (chunks_from 0 x)) (BadAim (chunks_from 0 x)) start at rest (BlocksEnd [] 0) r
        → r ≡ Err (goal_fault g (at + length ls))
    by (Err e) f = ap (λ (y : AsmFault). Err y)
        (cause f.lines f.rest f.good f.aims f.is e f.cause)
    by (Ok y) d = absurd (no_bad rest (chunks_from 0 x) ls d.led.lines g short bad d.led.good
        (goals_of (chunks_from 0 x) start d.led.lines d.led.aims)
        (d.led.is ∙ ap (lines_words d.led.lines) d.holds.left))

-- and the first reading leads to it
part_meets : (bytes : List ℕ) (c : ℕ) (cs : List ℕ) (ls : List Line) (g : Goal) (b : BadGoal (c ∷ cs) ls g)
    → blocks_part (length bytes) bytes (c ∷ cs) ≡ Err (goal_fault g (first_line bytes + length ls))
part_meets bytes c cs ls g b =
    by (body_in unknown (first_line bytes) (c ∷ cs)) refl (first_goes (first_line bytes) (c ∷ cs))
    (few_body (first_line bytes) (c ∷ cs))
  where
    cause : (f : List Line) (u : List ℕ) → AreGood start f → (c ∷ cs) ≡ lines_words f u → (e : AsmFault)
        → Cause Nowhere (place_after start f) (first_line bytes + length f) u e → ⊥
    cause f u fg fi e (lead.syntax n) = no_break (c ∷ cs) (whole_begins (c ∷ cs) ls g b)
        (whole (c ∷ cs) ls g b) (is_some_text c cs) f u fg fi (syntax n)
    cause f u fg fi e (lead.range n) = no_break (c ∷ cs) (whole_begins (c ∷ cs) ls g b)
        (whole (c ∷ cs) ls g b) (is_some_text c cs) f u fg fi (range n)
    cause f u fg fi e (lead.label l tail n sl fl is ge bd) = bd
    cause f u fg fi e (lead.offset l tail n sl fl is ge bd) = bd

    by : (r : Result (List Block) AsmFault) → body_in unknown (first_line bytes) (c ∷ cs) ≡ r
        → Goes Anywhere Nowhere start (first_line bytes) (c ∷ cs) (BlocksEnd [] 0) r
        → Holds (λ bs. length bs ≤ 262145) r
        → blocks_part (length bytes) bytes (c ∷ cs) ≡ Err (goal_fault g (first_line bytes + length ls))
    by (Err e) q f k = absurd (cause f.lines f.rest f.good f.is e f.cause)
    by (Ok x) q d k = part_by (length bytes) bytes (c ∷ cs) x
        (goal_fault g (first_line bytes + length ls)) refl q
        (second_meets (first_line bytes) (c ∷ cs) (whole_begins (c ∷ cs) ls g b) x ls g
        (is_some_text c cs) d k
        (one_whole (c ∷ cs) (chunks_from 0 x) (whole_begins (c ∷ cs) ls g b)
        (whole_of Anywhere x (first_line bytes) (c ∷ cs) d) (whole (c ∷ cs) ls g b))
        (bad_of (c ∷ cs) ls g b))

some_line : (ls : List Line) (l : Line) (back : List Line) → [] ≡ lines_words (ls ++ l ∷ back) [] → ⊥
some_line [] l back e = no_empty l (lines_words back []) e
some_line (k ∷ ls) l back e = no_empty k (lines_words (ls ++ l ∷ back) []) e

-- where the first bad goal stands behind good lines, reading gives its fault at its line
pub goal_found : (text bytes rest : List ℕ) (ls : List Line) (g : Goal) → GoodFront text bytes rest
    → BadGoal rest ls g → image_in text ≡ Err (goal_fault g (first_line bytes + length ls))
goal_found text bytes rest ls g a b = after_data text bytes rest a ∙ by rest b
  where
    by : (rest : List ℕ) → BadGoal rest ls g → blocks_part (length bytes) bytes rest
        ≡ Err (goal_fault g (first_line bytes + length ls))
    by [] b = absurd (some_line ls b.line b.back b.is)
    by (c ∷ cs) b = part_meets bytes c cs ls g b
