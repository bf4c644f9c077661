-- What the two passes do at a loop, by whether its last part has no block of its own.
use Rattle.std.proofs.Common.{◌≡◌, ℕ, Bool, true, false, cond, sym, ap, ◌∙◌}
use Rattle.ir_forms.specs.inside.FlatCode.{Step, Loop, Code}
use Rattle.ir_forms.specs.inside.FlatFits.{steps_of}
use Rattle.ir_forms.specs.inside.HyperRuns.{jump}
use Rattle.hyper_build.specs.declared.emitting.Note.{Note}
use Rattle.hyper_build.specs.declared.numbering.Numbering.{Numbering}
use Rattle.hyper_build.specs.inside.Ground.{Ground, plan}
use Rattle.hyper_build.specs.inside.Backward.{Emission, with_rest, put_out, fall, fall_by, last_note, without_note}
use Rattle.hyper_build.specs.inside.BackwardCode.{is_bare_code, end_of_body, emit_in, emit, emit_turn}
use Rattle.hyper_build.specs.inside.Forward.{with_blocks, with_statement, with_statements, with_note, number_in}
use Rattle.hyper_build.specs.inside.Forward.{number}
use Rattle.hyper_build.specs.inside.Forward.{number_turn}
use Rattle.hyper_build.specs.inside.Notes.{note_of}

-- FORWARD

abbrev bare_numbers : Ground → Code → Code → Numbering → Numbering
bare_numbers g body post s =
    with_note (note_of s.label s.place s.label) (with_blocks 1 (with_statements (steps_of post)
    (number_turn (plan g) body (with_statement (with_blocks 1 s)))))

abbrev full_numbers : Ground → Code → Code → Numbering → Numbering
full_numbers g body post s =
    let next = number_turn (plan g) body (with_statement (with_blocks 1 s)) in
    with_note (note_of s.label s.place next.label) (with_blocks 1 (number (plan g) post (with_blocks 1 next)))

-- which it is decides
number_by : (g : Ground) (on : Bool) (st : Step) (body post : Code) (s : Numbering) (ends z : Bool)
    → st ≡ Loop body post → ends ≡ (plan g).cut s.place → is_bare_code ends body post ≡ z
    → number_in (plan g) on st s ≡ cond z (bare_numbers g body post s) (full_numbers g body post s)
number_by g on st body post s ends z e ec ez =
    ap (λ y. number_in (plan g) on y s) e
    ∙ ap (λ y. cond y (bare_numbers g body post s) (full_numbers g body post s))
    (ap (λ y. is_bare_code y body post) (sym ec) ∙ ez)

-- a loop whose last part has no block of its own is numbered so
pub number_bare : (g : Ground) (on : Bool) (st : Step) (body post : Code) (s : Numbering) (ends : Bool)
    → st ≡ Loop body post → ends ≡ (plan g).cut s.place → is_bare_code ends body post ≡ true
    → number_in (plan g) on st s ≡ bare_numbers g body post s
number_bare g on st body post s ends e ec ez = number_by g on st body post s ends true e ec ez

-- a loop whose last part has blocks of its own is numbered so
pub number_full : (g : Ground) (on : Bool) (st : Step) (body post : Code) (s : Numbering) (ends : Bool)
    → st ≡ Loop body post → ends ≡ (plan g).cut s.place → is_bare_code ends body post ≡ false
    → number_in (plan g) on st s ≡ full_numbers g body post s
number_full g on st body post s ends e ec ez = number_by g on st body post s ends false e ec ez

-- BACKWARD

abbrev bare_out : Bool → Ground → Code → Code → Note → Emission → Emission
bare_out ends g body post note behind =
    fall (put_out (emit_turn g behind.label note.head body
    (with_rest (end_of_body ends g.arrays post note.head note.head)
    (fall_by (steps_of post) (with_rest (jump note.head) (without_note behind))))))

abbrev full_out : Bool → Ground → Code → Code → Note → Emission → Emission
full_out ends g body post note behind =
    let next = put_out (emit g behind.label note.next post (with_rest (jump note.head) (without_note behind))) in
    fall (put_out (emit_turn g behind.label next.label body
    (with_rest (end_of_body ends g.arrays post next.label note.head) next)))

abbrev loop_out : Bool → Bool → Ground → Code → Code → Note → Emission → Emission
loop_out bare ends g body post note behind =
    cond bare (bare_out ends g body post note behind) (full_out ends g body post note behind)

-- which it is decides
emit_by : (g : Ground) (b a : ℕ) (on : Bool) (st : Step) (body post : Code) (s : Emission) (note : Note)
    (ends z : Bool)
    → st ≡ Loop body post → note ≡ last_note s.notes → ends ≡ (plan g).cut note.place
    → is_bare_code ends body post ≡ z
    → emit_in g b a on st s ≡ loop_out z ends g body post note (put_out s)
emit_by g b a on st body post s note ends z e en ec ez =
    ap (λ y. emit_in g b a on y s) e
    ∙ ap (λ (n : Note). loop_out (is_bare_code ((plan g).cut n.place) body post) ((plan g).cut n.place) g body post n
    (put_out s)) (sym en)
    ∙ ap (λ y. loop_out (is_bare_code y body post) y g body post note (put_out s)) (sym ec)
    ∙ ap (λ y. loop_out y ends g body post note (put_out s)) ez

-- a loop whose last part has no block of its own is emitted so
pub emit_bare : (g : Ground) (b a : ℕ) (on : Bool) (st : Step) (body post : Code) (s : Emission) (note : Note)
    (ends : Bool) → st ≡ Loop body post → note ≡ last_note s.notes → ends ≡ (plan g).cut note.place
    → is_bare_code ends body post ≡ true
    → emit_in g b a on st s ≡ bare_out ends g body post note (put_out s)
emit_bare g b a on st body post s note ends e en ec ez = emit_by g b a on st body post s note ends true e en ec ez

-- a loop whose last part has blocks of its own is emitted so
pub emit_full : (g : Ground) (b a : ℕ) (on : Bool) (st : Step) (body post : Code) (s : Emission) (note : Note)
    (ends : Bool) → st ≡ Loop body post → note ≡ last_note s.notes → ends ≡ (plan g).cut note.place
    → is_bare_code ends body post ≡ false
    → emit_in g b a on st s ≡ full_out ends g body post note (put_out s)
emit_full g b a on st body post s note ends e en ec ez = emit_by g b a on st body post s note ends false e en ec ez
