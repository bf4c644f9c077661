-- What the two passes do at a statement of a loop's body, by whether it is the loop's test.
use Rattle.std.proofs.Common.{◌≡◌, ℕ, ◌-◌, Bool, true, false, cond, ◌&&◌, sym, ap, ◌∙◌, refl}
use Rattle.ir_forms.specs.declared.flat.Arg.{Arg}
use Rattle.ir_forms.specs.inside.FlatCode.{Step, If, Code}
use Rattle.ir_forms.specs.inside.FlatFits.{steps_in}
use Rattle.ir_forms.specs.inside.HyperRuns.{jump}
use Rattle.hyper_build.specs.declared.numbering.Numbering.{Numbering}
use Rattle.hyper_build.specs.inside.Parts.{source, cut_size}
use Rattle.hyper_build.specs.inside.Merging.{merged, test_register}
use Rattle.hyper_build.specs.inside.Ground.{Ground, plan}
use Rattle.hyper_build.specs.inside.Backward.{Emission, cut_at, fall}
use Rattle.hyper_build.specs.inside.BackwardStatements.{leaving}
use Rattle.hyper_build.specs.inside.BackwardCode.{is_break_code, is_test_step, emit_in, emit, test_out, part_out}
use Rattle.hyper_build.specs.inside.Forward.{with_blocks, with_statement, number_in, number, number_test, number_part}

-- what is not so makes both not so
and_none : (a b : Bool) → b ≡ false → a && b ≡ false
and_none true b e = e
and_none false b e = refl

-- an if is the test by its second leg
kind_is : (last joined tested : Bool) (st : Step) (x : Arg) (one other : Code) → st ≡ If x one other → joined ≡ tested
    → last && is_test_step tested st ≡ last && (joined && is_break_code other)
kind_is last joined tested st x one other es ej =
    ap (λ y. last && is_test_step tested y) es
    ∙ ap (λ y. last && (y && is_break_code other)) (sym ej)

-- BACKWARD

-- before a test, where the block is cut behind it or not
abbrev test_by : Ground → ℕ → ℕ → Arg → Code → Bool → Emission → Emission
test_by g b a x one c e =
    let leg = emit g b a one (fall (cut_at c e)) in
    leaving (merged test_register (source x) leg.rest (jump b)) leg

test_out_is : (g : Ground) (b a : ℕ) (st : Step) (x : Arg) (one other : Code) (e : Emission) (n : ℕ) (c : Bool)
    → st ≡ If x one other → n ≡ steps_in st → c ≡ (plan g).cut (e.place - n)
    → test_out g b a st e ≡ test_by g b a x one c e
test_out_is g b a st x one other e n c es en ec =
    ap (λ y. test_out g b a y e) es
    ∙ ap (λ m. test_by g b a x one ((plan g).cut (e.place - m)) e) (sym (en ∙ ap steps_in es))
    ∙ ap (λ y. test_by g b a x one y e) (sym ec)

abbrev part_by : Ground → ℕ → ℕ → Bool → Step → Emission → Bool → Emission
part_by g b a on st e z = cond z (test_out g b a st e) (emit_in g b a on st e)

-- a statement that is no if
pub part_plain : (g : Ground) (b a : ℕ) (last on : Bool) (st : Step) (e : Emission)
    → ((j : Bool) → is_test_step j st ≡ false) → part_out g b a last on st e ≡ emit_in g b a on st e
part_plain g b a last on st e h =
    ap (part_by g b a on st e) (and_none last (is_test_step ((plan g).joined (e.place - steps_in st)) st) (h _))

-- the last statement of a loop's body is emitted as the loop's test, where it is one
pub part_tests : (g : Ground) (b a : ℕ) (last on : Bool) (st : Step) (x : Arg) (one other : Code)
    (e : Emission) (n : ℕ)
    (joined c : Bool) → st ≡ If x one other → n ≡ steps_in st → joined ≡ (plan g).joined (e.place - n)
    → last && (joined && is_break_code other) ≡ true → c ≡ (plan g).cut (e.place - n)
    → part_out g b a last on st e ≡ test_by g b a x one c e
part_tests g b a last on st x one other e n joined c es en ej q ec =
    ap (part_by g b a on st e)
    (kind_is last joined ((plan g).joined (e.place - steps_in st)) st x one other es
    (ej ∙ ap (λ m. (plan g).joined (e.place - m)) en) ∙ q)
    ∙ test_out_is g b a st x one other e n c es en ec

-- an if that is not the loop's test is emitted as an if
pub part_ifs : (g : Ground) (b a : ℕ) (last on : Bool) (st : Step) (x : Arg) (one other : Code) (e : Emission) (n : ℕ)
    (joined : Bool) → st ≡ If x one other → n ≡ steps_in st → joined ≡ (plan g).joined (e.place - n)
    → last && (joined && is_break_code other) ≡ false → part_out g b a last on st e ≡ emit_in g b a on st e
part_ifs g b a last on st x one other e n joined es en ej q =
    ap (part_by g b a on st e)
    (kind_is last joined ((plan g).joined (e.place - steps_in st)) st x one other es
    (ej ∙ ap (λ m. (plan g).joined (e.place - m)) en) ∙ q)

-- FORWARD

abbrev number_by : Ground → Bool → Step → Numbering → Bool → Numbering
number_by g on st s z = cond z (number_test (plan g) st s) (number_in (plan g) on st s)

-- a statement that is no test is numbered as it is elsewhere
pub numbers_plain : (g : Ground) (last on : Bool) (st : Step) (s : Numbering)
    → ((j : Bool) → is_test_step j st ≡ false) → number_part (plan g) last on st s ≡ number_in (plan g) on st s
numbers_plain g last on st s h =
    ap (number_by g on st s) (and_none last (is_test_step ((plan g).joined s.place) st) (h _))

-- the last statement of a loop's body is numbered as the loop's test, where it is one
pub numbers_test : (g : Ground) (last on : Bool) (st : Step) (x : Arg) (one other : Code) (s : Numbering)
    (joined : Bool)
    → st ≡ If x one other → joined ≡ (plan g).joined s.place → last && (joined && is_break_code other) ≡ true
    → number_part (plan g) last on st s
    ≡ with_blocks (cut_size ((plan g).cut s.place)) (with_statement (number (plan g) one (with_statement s)))
numbers_test g last on st x one other s joined es ej q =
    ap (number_by g on st s) (kind_is last joined ((plan g).joined s.place) st x one other es ej ∙ q)
    ∙ ap (λ y. number_test (plan g) y s) es

-- an if that is not the loop's test is numbered as an if
pub numbers_ifs : (g : Ground) (last on : Bool) (st : Step) (x : Arg) (one other : Code) (s : Numbering)
    (joined : Bool)
    → st ≡ If x one other → joined ≡ (plan g).joined s.place → last && (joined && is_break_code other) ≡ false
    → number_part (plan g) last on st s ≡ number_in (plan g) on st s
numbers_ifs g last on st x one other s joined es ej q =
    ap (number_by g on st s) (kind_is last joined ((plan g).joined s.place) st x one other es ej ∙ q)
