-- A mark that opens a depth, taken or not.
use Rattle.std.proofs.Common.{◌≡◌, ℕ, suc, Bool, true, false, cond, Ok, refl, sym, ap, ◌∙◌}
use Rattle.c_tree.specs.declared.token.Mark.{Mark}
use Rattle.c_grammar.specs.Tokens.{Tokens}
use Rattle.c_grammar.specs.inside.Parsing.{Out, syntax, too_deep, tail, offset_of, is_next}
use Rattle.c_grammar.specs.inside.ModelExpressions.{inside}
use Rattle.c_grammar.specs.inside.ModelDepth.{Nested, enter}
use Rattle.c_grammar.proofs.Agree.{if_true}
use Rattle.c_parse.specs.inside.Reads.{opened, Enters}

inside_is : (l : ℕ) → inside (suc l) ≡ opened l
unfolding inside
inside_is l = refl

inside_none : (inside 0).allowed ≡ false
unfolding inside
inside_none = refl

abbrev offset_here : ℕ → Tokens → Out ℕ
offset_here l ts = Ok (l, ts)

enter_by : (k : Mark) (n : Nested) (b : Bool) (ts : Tokens) → n.allowed ≡ b → is_next k ts ≡ true
    → enter k n ts ≡ cond b (offset_here (offset_of ts) (tail ts)) (too_deep ts)
enter_by k n b ts e h =
    if_true (is_next k ts) _ (syntax ts) h
    ∙ ap (λ (b : Bool). cond b (offset_here (offset_of ts) (tail ts)) (too_deep ts))
    e

-- a mark that is there opens a depth where one is left
pub enters_ok : (k : Mark) (left l : ℕ) (old new : Tokens) → is_next k old ≡ true → left ≡ suc l → new ≡ tail old
    → Enters k left old (Ok l) new
enters_ok k left l old new h e t =
    let i : inside left ≡ opened l = ap inside e ∙ inside_is l in (
      e,
      i,
      enter_by k (inside left) true old (ap (λ (n : Nested). n.allowed) i) h
          ∙ ap (λ (u : Tokens). offset_here (offset_of old) u) (sym t),
    )

-- a mark that is there is too deep where no depth is left
pub enters_deep : (k : Mark) (left : ℕ) (old : Tokens) → is_next k old ≡ true → left ≡ 0
    → enter k (inside left) old ≡ too_deep old
enters_deep k left old h e = enter_by k (inside left) false old (ap (λ (n : ℕ). (inside n).allowed) e ∙ inside_none) h
