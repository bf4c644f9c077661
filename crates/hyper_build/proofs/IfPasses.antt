-- What the two passes do at an if, by whether it is an item.
use Rattle.std.proofs.Common.{◌≡◌, ℕ, ◌-◌, Bool, true, false, cond, sym, ap, ap₂, ◌∙◌}
use Rattle.ir_forms.specs.declared.flat.Arg.{Arg}
use Rattle.ir_forms.specs.inside.FlatCode.{Step, If, Code}
use Rattle.ir_forms.specs.inside.FlatFits.{steps_in}
use Rattle.ir_forms.specs.inside.HyperRuns.{jump}
use Rattle.hyper_build.specs.declared.numbering.Numbering.{Numbering}
use Rattle.hyper_build.specs.inside.Legs.{label_or}
use Rattle.hyper_build.specs.inside.Ground.{Ground, plan}
use Rattle.hyper_build.specs.inside.Backward.{Emission, with_rest, put_out}
use Rattle.hyper_build.specs.inside.BackwardStatements.{leaving}
use Rattle.hyper_build.specs.inside.BackwardItems.{is_if_item}
use Rattle.hyper_build.specs.inside.BackwardCode.{exit_of, leg_out, test_block, items_out, emit_in, emit}
use Rattle.hyper_build.specs.inside.Forward.{with_blocks, with_statement, number_items, led, number_in, number}

-- FORWARD

abbrev test_numbers : Ground → Code → Code → Numbering → Numbering
test_numbers g one other s =
    with_blocks 1 (number (plan g) other (led other (number (plan g) one (led one (with_statement s)))))

-- which it is decides
number_by : (g : Ground) (on : Bool) (st : Step) (x : Arg) (one other : Code) (s : Numbering) (joined z : Bool)
    → st ≡ If x one other → joined ≡ (plan g).joined s.place → is_if_item joined one other ≡ z
    → number_in (plan g) on st s
    ≡ cond z (number_items (plan g) (If x one other) s) (test_numbers g one other s)
number_by g on st x one other s joined z e ej ez =
    ap (λ y. number_in (plan g) on y s) e
    ∙ ap (λ y. cond y (number_items (plan g) (If x one other) s) (test_numbers g one other s))
    (ap (λ y. is_if_item y one other) (sym ej) ∙ ez)

-- an if that is an item is numbered without a block
pub number_item : (g : Ground) (on : Bool) (st : Step) (x : Arg) (one other : Code) (s : Numbering) (joined : Bool)
    → st ≡ If x one other → joined ≡ (plan g).joined s.place → is_if_item joined one other ≡ true
    → number_in (plan g) on st s ≡ number_items (plan g) st s
number_item g on st x one other s joined e ej ez =
    number_by g on st x one other s joined true e ej ez ∙ ap (λ y. number_items (plan g) y s) (sym e)

-- an if that is no item is numbered as a test
pub number_test : (g : Ground) (on : Bool) (st : Step) (x : Arg) (one other : Code) (s : Numbering) (joined : Bool)
    → st ≡ If x one other → joined ≡ (plan g).joined s.place → is_if_item joined one other ≡ false
    → number_in (plan g) on st s ≡ test_numbers g one other s
number_test g on st x one other s joined e ej ez = number_by g on st x one other s joined false e ej ez

-- BACKWARD

abbrev test_out : Ground → ℕ → ℕ → Arg → Code → Code → Emission → Emission
test_out g b a x one other s =
    let join = (put_out s).label in
    let e2 = exit_of join b a other in
    let e1 = exit_of join b a one in
    let second = leg_out e2 (emit g b a other (put_out s)) in
    let first = leg_out e1 (emit g b a one (with_rest (jump join) second)) in
    leaving (test_block x (label_or first.label e1) (label_or second.label e2)) first

emit_by : (g : Ground) (b a : ℕ) (on : Bool) (st : Step) (x : Arg) (one other : Code) (s : Emission) (n : ℕ)
    (joined z : Bool)
    → st ≡ If x one other → n ≡ steps_in st → joined ≡ (plan g).joined (s.place - n)
    → is_if_item joined one other ≡ z
    → emit_in g b a on st s
    ≡ cond z (items_out (plan g) g.arrays (steps_in (If x one other)) (If x one other) s)
    (test_out g b a x one other s)
emit_by g b a on st x one other s n joined z e en ej ez =
    ap (λ y. emit_in g b a on y s) e
    ∙ ap (λ y. cond y (items_out (plan g) g.arrays (steps_in (If x one other)) (If x one other) s)
    (test_out g b a x one other s))
    (ap (λ m. is_if_item ((plan g).joined (s.place - m)) one other) (sym (en ∙ ap steps_in e))
    ∙ ap (λ y. is_if_item y one other) (sym ej) ∙ ez)

-- an if that is an item is emitted as items
pub emit_item : (g : Ground) (b a : ℕ) (on : Bool) (st : Step) (x : Arg) (one other : Code) (s : Emission) (n : ℕ)
    (joined : Bool) → st ≡ If x one other → n ≡ steps_in st → joined ≡ (plan g).joined (s.place - n)
    → is_if_item joined one other ≡ true
    → emit_in g b a on st s ≡ items_out (plan g) g.arrays n st s
emit_item g b a on st x one other s n joined e en ej ez =
    emit_by g b a on st x one other s n joined true e en ej ez
    ∙ ap₂ (λ m y. items_out (plan g) g.arrays m y s) (sym (en ∙ ap steps_in e)) (sym e)

-- an if that is no item is emitted as a test
pub emit_test : (g : Ground) (b a : ℕ) (on : Bool) (st : Step) (x : Arg) (one other : Code) (s : Emission) (n : ℕ)
    (joined : Bool) → st ≡ If x one other → n ≡ steps_in st → joined ≡ (plan g).joined (s.place - n)
    → is_if_item joined one other ≡ false
    → emit_in g b a on st s ≡ test_out g b a x one other s
emit_test g b a on st x one other s n joined e en ej ez =
    emit_by g b a on st x one other s n joined false e en ej ez
